-- Outputs and claims that are read one by one, and the spend of them.
use Rattle.std.proofs.Common.{◌≡◌, ◌<◌, ◌≤◌, ◌+◌, ◌⊎◌, inl, inr, ℕ, List, [], ◌∷◌, ◌++◌, length, take, drop, map, get_or, Result, Ok, Err, refl, subst, sym, ap, ◌∙◌, append_assoc}
use Rattle.std.specs.Prelude.{Some, None, MatchResult}
use Rattle.std.proofs.lemmas.List.{take_more, take_all, drop_more, drop_all, append-nil}
use Rattle.script.specs.Step.{◌>>=◌}
use Rattle.tx.specs.declared.errors.EncodeError.{EncodeError}
use Rattle.tx.specs.Parts.{Output}
use Rattle.tx.specs.Fields.{Transaction}
use Rattle.tx.specs.Spelling.{IsTransaction, transaction_id}
use Rattle.claim.specs.Claims.{ClaimParts}
use Rattle.filling.specs.declared.missing.MissingSignature.{MissingSignature}
use Rattle.filling.specs.declared.errors.SpendError.{SpendError}
use Rattle.filling.specs.Spends.{IsUnsignedSpend, IsSpendRefusal, first_spend_refusal}
use Rattle.enforce_c.specs.declared.claim_rows.ClaimRow.{ClaimRow}
use Rattle.enforce_c.specs.declared.claim_rows.SlotRow.{SlotRow}
use Rattle.enforce_c.specs.declared.spend_rows.OutputRow.{OutputRow}
use Rattle.enforce_c.specs.declared.spend_rows.SignatureRow.{SignatureRow}
use Rattle.enforce_c.specs.declared.statuses.Refusal.{Refusal}
use Rattle.enforce_c.specs.declared.statuses.Refusal.TheVariants.{NoMemory, Spend, Encode}
use Rattle.enforce_c.specs.declared.about.About.TheVariants.{OfOutput}
use Rattle.enforce_c.specs.declared.about.Refused.{Refused}
use Rattle.enforce_c.specs.About.{refused_whole}
use Rattle.enforce_c.specs.Faulty.{refused_at}
use Rattle.enforce_c.specs.Claimed.{IsClaimOf}
use Rattle.enforce_c.specs.Spent.{Asked, SpendParts, AreClaimsOf, IsNoClaimAt, IsFirstNoClaim, UnlessMemory, number_fault, output_of, output_at, outputs_of, signature_row, AreRead, IsUnread, IsUnspent, IsEncodeRefusal, IsNotEncoded, capped, greatest_weight, fee_of, IsTold, IsMade, IsUnmade, IsNoSpend, IsSpent}

-- ---- unless memory ran out

pub unless_memory : (e : Refusal) (P : Type 0) → P → UnlessMemory e P
unless_memory NoMemory P p = tt
unless_memory e P p = p

pub still_unless_memory : (e : Refusal) (P Q : Type 0) → (P → Q) → UnlessMemory e P → UnlessMemory e Q
still_unless_memory NoMemory P Q f p = tt
still_unless_memory e P Q f p = f p

-- ---- outputs

-- outputs before those of a result
abbrev pub with_first : List Output → Result (List Output) Refused → Result (List Output) Refused
with_first before (Ok outputs) = Ok (before ++ outputs)
with_first before (Err e) = Err e

moved : (old : List Output) (o : Output) (r : Result (List Output) Refused) → with_first old (r >>= λ os. Ok (o ∷ os)) ≡ with_first (old ++ o ∷ []) r
moved old o (Ok os) = ap Ok (sym (append_assoc old (o ∷ []) os))
moved old o (Err e) = refl

-- the refusal of a row's output, which has an index
pub no_output : (index : ℕ) (r : Result Output Refusal) (why : Refusal) → UnlessMemory why (r ≡ Err why) → UnlessMemory why (output_at index r ≡ Err (record { why = why; about = OfOutput index }))
no_output index r why is = still_unless_memory why (r ≡ Err why) (output_at index r ≡ Err (record { why = why; about = OfOutput index })) (λ e. ap (output_at index) e) is

-- those of the rows that are left, by the next one
left : (bytes : List ℕ) (rows : List OutputRow) (i : ℕ) (d row : OutputRow) (r : Result Output Refused) → i < length rows → row ≡ get_or rows i d → output_at i (output_of bytes row) ≡ r
    → outputs_of bytes i (drop i rows) ≡ (r >>= λ o. outputs_of bytes (i + 1) (drop (i + 1) rows) >>= λ os. Ok (o ∷ os))
left bytes rows i d row r h e is =
    let rest = outputs_of bytes (i + 1) (drop (i + 1) rows) in
    ap (outputs_of bytes i) (drop_more rows i d h) ∙ ap (λ x. output_at i (output_of bytes x) >>= λ o. rest >>= λ os. Ok (o ∷ os)) (sym e) ∙ ap (λ x. x >>= λ o. rest >>= λ os. Ok (o ∷ os)) is

pub outputs_next : (bytes : List ℕ) (rows : List OutputRow) (i : ℕ) (d row : OutputRow) (old : List Output) (o : Output) → i < length rows → row ≡ get_or rows i d → output_at i (output_of bytes row) ≡ Ok o
    → with_first old (outputs_of bytes i (drop i rows)) ≡ outputs_of bytes 0 rows → with_first (old ++ o ∷ []) (outputs_of bytes (i + 1) (drop (i + 1) rows)) ≡ outputs_of bytes 0 rows
outputs_next bytes rows i d row old o h e is whole =
    sym (moved old o (outputs_of bytes (i + 1) (drop (i + 1) rows))) ∙ sym (ap (with_first old) (left bytes rows i d row (Ok o) h e is)) ∙ whole

pub output_here : (bytes : List ℕ) (rows : List OutputRow) (i : ℕ) (d row : OutputRow) (old : List Output) (e : Refused) → i < length rows → row ≡ get_or rows i d → UnlessMemory e.why (output_at i (output_of bytes row) ≡ Err e)
    → with_first old (outputs_of bytes i (drop i rows)) ≡ outputs_of bytes 0 rows → UnlessMemory e.why (outputs_of bytes 0 rows ≡ Err e)
output_here bytes rows i d row old e h same is whole =
    still_unless_memory e.why (output_at i (output_of bytes row) ≡ Err e) (outputs_of bytes 0 rows ≡ Err e) (λ f. sym whole ∙ ap (with_first old) (left bytes rows i d row (Err e) h same f)) is

pub outputs_all : (bytes : List ℕ) (rows : List OutputRow) (i : ℕ) (outputs : List Output) → length rows ≤ i → with_first outputs (outputs_of bytes i (drop i rows)) ≡ outputs_of bytes 0 rows → outputs_of bytes 0 rows ≡ Ok outputs
outputs_all bytes rows i outputs h whole =
    sym whole ∙ ap (λ rs. with_first outputs (outputs_of bytes i rs)) (drop_all i rows h) ∙ ap Ok (append-nil outputs)

-- ---- claims

claims_more : (slots : List SlotRow) (bytes : List ℕ) (rows : List ClaimRow) (claims : List ClaimParts) (row : ClaimRow) (c : ClaimParts)
    → AreClaimsOf slots bytes rows claims → IsClaimOf row slots bytes c → AreClaimsOf slots bytes (rows ++ row ∷ []) (claims ++ c ∷ [])
claims_more slots bytes [] [] row c all here = (here, tt)
claims_more slots bytes [] (other ∷ claims) row c all here = absurd all
claims_more slots bytes (one ∷ rows) [] row c all here = absurd all
claims_more slots bytes (one ∷ rows) (other ∷ claims) row c all here = (all.0, claims_more slots bytes rows claims row c all.1 here)

pub claims_next : (slots : List SlotRow) (bytes : List ℕ) (rows : List ClaimRow) (i : ℕ) (d row : ClaimRow) (old : List ClaimParts) (c : ClaimParts) → i < length rows → row ≡ get_or rows i d
    → AreClaimsOf slots bytes (take i rows) old → IsClaimOf row slots bytes c → AreClaimsOf slots bytes (take (i + 1) rows) (old ++ c ∷ [])
claims_next slots bytes rows i d row old c h e all here =
    let more : take i rows ++ row ∷ [] ≡ take (i + 1) rows = ap (λ r. take i rows ++ r ∷ []) e ∙ sym (take_more rows i d h) in
    subst (λ rs. AreClaimsOf slots bytes rs (old ++ c ∷ [])) more (claims_more slots bytes (take i rows) old row c all here)

pub claims_all : (slots : List SlotRow) (bytes : List ℕ) (rows : List ClaimRow) (i : ℕ) (claims : List ClaimParts) → length rows ≤ i → AreClaimsOf slots bytes (take i rows) claims → AreClaimsOf slots bytes rows claims
claims_all slots bytes rows i claims h all = subst (λ rs. AreClaimsOf slots bytes rs claims) (take_all i rows h) all

split : (rows : List ClaimRow) (i : ℕ) (d row : ClaimRow) → i < length rows → row ≡ get_or rows i d → row ∷ drop (i + 1) rows ≡ drop i rows
split rows i d row h e = ap (λ r. r ∷ drop (i + 1) rows) e ∙ sym (drop_more rows i d h)

-- a refusal of the next row, and one of the rows after it, is one of the rows that are left
pub no_claim_here : (slots : List SlotRow) (bytes : List ℕ) (rows : List ClaimRow) (i : ℕ) (d row : ClaimRow) (e : Refused) → i < length rows → row ≡ get_or rows i d → IsNoClaimAt i row slots bytes e
    → IsFirstNoClaim slots bytes i (drop i rows) e
no_claim_here slots bytes rows i d row e h same is = subst (λ rs. IsFirstNoClaim slots bytes i rs e) (split rows i d row h same) (inl is)

pub no_claim_later : (slots : List SlotRow) (bytes : List ℕ) (rows : List ClaimRow) (i : ℕ) (d row : ClaimRow) (c : ClaimParts) (e : Refused) → i < length rows → row ≡ get_or rows i d → IsClaimOf row slots bytes c
    → IsFirstNoClaim slots bytes (i + 1) (drop (i + 1) rows) e → IsFirstNoClaim slots bytes i (drop i rows) e
no_claim_later slots bytes rows i d row c e h same is later = subst (λ rs. IsFirstNoClaim slots bytes i rs e) (split rows i d row h same) (inr (c, is, later))

-- the refusal of the next row is the first one of all rows, where one of the rows that are left is
pub no_claim : (slots : List SlotRow) (bytes : List ℕ) (rows : List ClaimRow) (i : ℕ) (d row : ClaimRow) (e : Refused) → i < length rows → row ≡ get_or rows i d
    → ((x : Refused) → IsFirstNoClaim slots bytes i (drop i rows) x → IsFirstNoClaim slots bytes 0 rows x) → IsNoClaimAt i row slots bytes e → UnlessMemory e.why (IsFirstNoClaim slots bytes 0 rows e)
no_claim slots bytes rows i d row e h same whole is = unless_memory e.why (IsFirstNoClaim slots bytes 0 rows e) (whole e (no_claim_here slots bytes rows i d row e h same is))

-- ---- what rows say

pub unread_number : (a : Asked) (why : Refusal) (e : Refused) → number_fault (length a.claims) (length a.outputs) ≡ Some why → e ≡ refused_whole why → UnlessMemory e.why (IsUnread a e)
unread_number a why e is same = subst (λ x. UnlessMemory x.why (IsUnread a x)) (sym same) (unless_memory why (IsUnread a (refused_whole why)) (inl (is, refl)))

pub unread_output : (a : Asked) (e : Refused) → number_fault (length a.claims) (length a.outputs) ≡ None → UnlessMemory e.why (outputs_of a.bytes 0 a.outputs ≡ Err e) → UnlessMemory e.why (IsUnread a e)
unread_output a e none is = still_unless_memory e.why (outputs_of a.bytes 0 a.outputs ≡ Err e) (IsUnread a e) (λ f. inr (none, inl f)) is

pub unread_claim : (a : Asked) (e : Refused) (outputs : List Output) → number_fault (length a.claims) (length a.outputs) ≡ None → outputs_of a.bytes 0 a.outputs ≡ Ok outputs
    → UnlessMemory e.why (IsFirstNoClaim a.slots a.bytes 0 a.claims e) → UnlessMemory e.why (IsUnread a e)
unread_claim a e outputs none are is = still_unless_memory e.why (IsFirstNoClaim a.slots a.bytes 0 a.claims e) (IsUnread a e) (λ f. inr (none, inr (outputs, are, f))) is

-- ---- the spend

pub unspent : (claims : List ClaimParts) (outputs : List Output) (preimages : List (List ℕ)) (why : SpendError) → IsSpendRefusal (first_spend_refusal claims outputs preimages) why → IsUnspent claims outputs preimages (Spend why)
unspent claims outputs preimages why is = record { why = why; named = refl; first = is }

pub not_encoded : (t : Transaction) (why : EncodeError) → IsEncodeRefusal t why → IsNotEncoded t (Encode why)
not_encoded t why is = record { why = why; named = refl; refused = is }

pub is_told : (claims : List ClaimParts) (t : Transaction) (signatures : List MissingSignature) (bytes : List ℕ) (rows : List SignatureRow) (weight fee_sat : ℕ) (txid : List ℕ)
    → IsTransaction t bytes → rows ≡ map signature_row signatures → weight ≡ capped (greatest_weight t bytes (length signatures)) → fee_sat ≡ capped (fee_of claims t) → txid ≡ transaction_id t
    → IsTold claims t signatures (record { bytes = bytes; signatures = rows; weight = weight; fee_sat = fee_sat; txid = txid })
is_told claims t signatures bytes rows weight fee_sat txid spelt same heavy paid id = record { spelt = spelt; rows = same; weight = heavy; fee = paid; id = id }

pub is_made : (claims : List ClaimParts) (outputs : List Output) (preimages : List (List ℕ)) (t : Transaction) (signatures : List MissingSignature) (s : SpendParts)
    → IsUnsignedSpend claims outputs preimages t signatures → IsTold claims t signatures s → IsMade claims outputs preimages s
is_made claims outputs preimages t signatures s spend told = record { tx = t; signatures = signatures; spend = spend; told = told }

pub no_spend : (claims : List ClaimParts) (outputs : List Output) (preimages : List (List ℕ)) (e : Refusal) → UnlessMemory e (IsUnspent claims outputs preimages e) → UnlessMemory e (IsUnmade claims outputs preimages e)
no_spend claims outputs preimages e is = still_unless_memory e (IsUnspent claims outputs preimages e) (IsUnmade claims outputs preimages e) (λ f. inl f) is

pub no_bytes : (claims : List ClaimParts) (outputs : List Output) (preimages : List (List ℕ)) (t : Transaction) (signatures : List MissingSignature) (e : Refusal)
    → IsUnsignedSpend claims outputs preimages t signatures → UnlessMemory e (IsNotEncoded t e) → UnlessMemory e (IsUnmade claims outputs preimages e)
no_bytes claims outputs preimages t signatures e spend is =
    still_unless_memory e (IsNotEncoded t e) (IsUnmade claims outputs preimages e) (λ f. inr (record { tx = t; signatures = signatures; spend = spend; refused = f })) is

-- where memory ran out, nothing more is said
pub no_memory : (e : Refused) (P : Type 0) → e ≡ refused_whole NoMemory → UnlessMemory e.why P
no_memory e P is = subst (λ x. UnlessMemory x.why P) (sym is) tt

pub memory_out : (a : Asked) (preimages : List (List ℕ)) (e : Refused) → e ≡ refused_whole NoMemory → IsSpent a preimages (Err e)
memory_out a preimages e is = subst (λ x. IsSpent a preimages (Err x)) (sym is) tt

pub not_read : (a : Asked) (preimages : List (List ℕ)) (e : Refused) → UnlessMemory e.why (IsUnread a e) → IsSpent a preimages (Err e)
not_read a preimages e is = still_unless_memory e.why (IsUnread a e) _ (λ f. inl f) is

pub spent_of : (a : Asked) (preimages : List (List ℕ)) (claims : List ClaimParts) (outputs : List Output) (s : SpendParts) → AreRead a claims outputs → IsMade claims outputs preimages s → IsSpent a preimages (Ok s)
spent_of a preimages claims outputs s read made = record { claims = claims; outputs = outputs; read = read; made = made }

-- a refusal that is another one, unless memory ran out, has what holds of that
carried_by : (why : Refusal) (e x : Refused) (P : Refused → Type 0) → e.why ≡ why → UnlessMemory why (e ≡ x) → UnlessMemory x.why (P x) → UnlessMemory why (P e)
carried_by NoMemory e x P w same p = tt
carried_by why e x P w same p = subst P (sym same) (subst (λ z. UnlessMemory z (P x)) (sym (ap (λ r. r.why) same) ∙ w) p)

pub carried : (e x : Refused) (P : Refused → Type 0) → UnlessMemory e.why (e ≡ x) → UnlessMemory x.why (P x) → UnlessMemory e.why (P e)
carried e x P = carried_by e.why e x P refl

at_claim : (a : Asked) (preimages : List (List ℕ)) (claims : List ClaimParts) (outputs : List Output) (why : Refusal) → AreRead a claims outputs → UnlessMemory why (IsUnmade claims outputs preimages why)
    → IsSpent a preimages (Err (refused_at claims preimages why))
at_claim a preimages claims outputs why read made =
    still_unless_memory why (IsUnmade claims outputs preimages why) _ (λ f. inr (record { claims = claims; outputs = outputs; read = read; refused = f; about = refl })) made

pub not_spent : (a : Asked) (preimages : List (List ℕ)) (claims : List ClaimParts) (outputs : List Output) (why : Refusal) (e : Refused) → AreRead a claims outputs → UnlessMemory why (IsUnmade claims outputs preimages why)
    → UnlessMemory e.why (e ≡ refused_at claims preimages why) → IsSpent a preimages (Err e)
not_spent a preimages claims outputs why e read made same =
    carried e (refused_at claims preimages why) (λ x. IsUnread a x ⊎ IsNoSpend a preimages x) same (at_claim a preimages claims outputs why read made)
