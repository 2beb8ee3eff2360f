-- Signatures that are put into a spend one by one.
use Rattle.std.proofs.Common.{◌≡◌, ◌<◌, ◌≤◌, ◌+◌, ◌⊎◌, inl, inr, ℕ, zero, suc, true, List, [], ◌∷◌, length, drop, get_or, Result, Ok, Err, arith, refl, subst, sym, ap, ◌∙◌, nat_le, le-leb}
use Rattle.std.specs.Prelude.{Some, None, slice_get, slice_set}
use Rattle.std.specs.List.{list_all, AllByRecursion}
use Rattle.std.proofs.lemmas.Bool.{and_from}
use Rattle.std.proofs.lemmas.List.{drop_more, drop_all}
use Rattle.std.proofs.lemmas.Option.{get_or_from_slice_get, slice_get_within}
use Rattle.script.specs.Step.{◌>>=◌}
use Rattle.script.specs.Token.{token_of}
use Rattle.tx.specs.declared.input.TxIn.{TxIn}
use Rattle.tx.specs.declared.limits.TheConstants.{MAX_ITEMS, MAX_BYTES}
use Rattle.tx.specs.Parts.{Output, IsWithin, IsBounded}
use Rattle.tx.specs.Fields.{Transaction, inputs_with_witness}
use Rattle.tx.specs.Spelling.{IsTransaction, transaction_id}
use Rattle.claim.specs.Claims.{ClaimParts}
use Rattle.filling.specs.declared.missing.MissingSignature.{MissingSignature}
use Rattle.filling.specs.Spends.{IsUnsignedSpend, with_item, changed_at, with_tokens}
use Rattle.enforce_c.specs.declared.finish_rows.SignedRow.{SignedRow}
use Rattle.enforce_c.specs.declared.finish_rows.FinishAnswer.{FinishAnswer}
use Rattle.enforce_c.specs.declared.statuses.Refusal.{Refusal}
use Rattle.enforce_c.specs.declared.statuses.Refusal.TheVariants.{NoMemory, NoSignature, NotAsked}
use Rattle.enforce_c.specs.declared.about.Refused.{Refused}
use Rattle.enforce_c.specs.About.{refused_whole}
use Rattle.enforce_c.specs.Faulty.{refused_at}
use Rattle.enforce_c.specs.Statuses.{status_of}
use Rattle.enforce_c.specs.Spent.{Asked, AreRead, UnlessMemory, IsUnread, IsUnspent, IsNotEncoded}
use Rattle.enforce_c.specs.Finished.{place_of, row_place, signature_for, signatures_of, with_signatures, tokens_of, HasSignatures, SignedParts, IsSigned, IsNotSigned, IsNoFinish, IsFinished, LeftFinish, left_by_finish, finish_refused, AnswersFinish}
use Rattle.enforce_c.proofs.Spends.{unless_memory, still_unless_memory, carried}

-- ---- a witness with another item

each_set : (xs : List (List ℕ)) (i : ℕ) (x : List ℕ) → AllByRecursion IsBounded xs → length x ≤ MAX_BYTES → AllByRecursion IsBounded (slice_set xs i x)
each_set [] i x all h = tt
each_set (y ∷ xs) zero x all h = (h, all.1)
each_set (y ∷ xs) (suc i) x all h = (all.0, each_set xs i x all.1 h)

as_many : (xs : List (List ℕ)) (i : ℕ) (x : List ℕ) → length (slice_set xs i x) ≡ length xs
as_many [] i x = refl
as_many (y ∷ xs) zero x = refl
as_many (y ∷ xs) (suc i) x = ap suc (as_many xs i x)

pub within_set : (xs : List (List ℕ)) (i : ℕ) (x : List ℕ) → IsWithin MAX_ITEMS IsBounded xs → length x ≤ MAX_BYTES → IsWithin MAX_ITEMS IsBounded (slice_set xs i x)
within_set xs i x w h = record { count = subst (λ n. n ≤ MAX_ITEMS) (sym (as_many xs i x)) w.count; each = each_set xs i x w.each h }

pub are_bounded : (xs : List (List ℕ)) → AllByRecursion IsBounded xs → list_all (λ x. nat_le (length x) MAX_BYTES) xs ≡ true
are_bounded [] all = refl
are_bounded (x ∷ xs) all = and_from _ _ (le-leb _ _ all.0) (are_bounded xs all.1)

-- ---- an input with another witness

pub put_there : (inputs : List TxIn) (i : ℕ) (x : TxIn) (item : ℕ) (s : List ℕ) → slice_get inputs i ≡ Some x → inputs_with_witness inputs i (slice_set x.witness item s) ≡ changed_at (with_item item s) i inputs
put_there [] i x item s e = absurd (cc)
put_there (y ∷ inputs) zero x item s e = let same : y ≡ x = cc in ap (λ z. record y { witness = slice_set z.witness item s } ∷ inputs) (sym same)
put_there (y ∷ inputs) (suc i) x item s e = ap (λ l. y ∷ l) (put_there inputs i x item s e)

pub put_nowhere : (inputs : List TxIn) (i : ℕ) (item : ℕ) (s : List ℕ) → slice_get inputs i ≡ None → changed_at (with_item item s) i inputs ≡ inputs
put_nowhere [] i item s e = refl
put_nowhere (y ∷ inputs) zero item s e = absurd (cc)
put_nowhere (y ∷ inputs) (suc i) item s e = ap (λ l. y ∷ l) (put_nowhere inputs i item s e)

-- ---- all signatures

-- inputs with the signatures of rows, or the first refusal
abbrev pub signed_inputs : List ℕ → List MissingSignature → List SignedRow → List TxIn → Result (List TxIn) Refusal
signed_inputs bytes [] [] inputs = Ok inputs
signed_inputs bytes [] (row ∷ rows) inputs = Err (NotAsked (row_place row))
signed_inputs bytes (m ∷ missing) [] inputs = Err (NoSignature (place_of m))
signed_inputs bytes (m ∷ missing) (row ∷ rows) inputs = signature_for bytes m row >>= λ s. signed_inputs bytes missing rows (changed_at (with_item m.item s) m.input inputs)

after_one : (m : MissingSignature) (missing : List MissingSignature) (s : List ℕ) (inputs : List TxIn) (r : Result (List (List ℕ)) Refusal)
    → (r >>= λ ss. Ok (with_signatures missing ss (changed_at (with_item m.item s) m.input inputs))) ≡ ((r >>= λ ss. Ok (s ∷ ss)) >>= λ ss. Ok (with_signatures (m ∷ missing) ss inputs))
after_one m missing s inputs (Ok ss) = refl
after_one m missing s inputs (Err e) = refl

same_one : (bytes : List ℕ) (m : MissingSignature) (missing : List MissingSignature) (rows : List SignedRow) (inputs : List TxIn)
    → ((after : List TxIn) → signed_inputs bytes missing rows after ≡ (signatures_of bytes missing rows >>= λ ss. Ok (with_signatures missing ss after))) → (r : Result (List ℕ) Refusal)
    → (r >>= λ s. signed_inputs bytes missing rows (changed_at (with_item m.item s) m.input inputs)) ≡ ((r >>= λ s. signatures_of bytes missing rows >>= λ ss. Ok (s ∷ ss)) >>= λ ss. Ok (with_signatures (m ∷ missing) ss inputs))
same_one bytes m missing rows inputs rest (Ok s) = rest (changed_at (with_item m.item s) m.input inputs) ∙ after_one m missing s inputs (signatures_of bytes missing rows)
same_one bytes m missing rows inputs rest (Err e) = refl

same_result : (bytes : List ℕ) (missing : List MissingSignature) (rows : List SignedRow) (inputs : List TxIn) → signed_inputs bytes missing rows inputs ≡ (signatures_of bytes missing rows >>= λ ss. Ok (with_signatures missing ss inputs))
same_result bytes [] [] inputs = refl
same_result bytes [] (row ∷ rows) inputs = refl
same_result bytes (m ∷ missing) [] inputs = refl
same_result bytes (m ∷ missing) (row ∷ rows) inputs = same_one bytes m missing rows inputs (same_result bytes missing rows) (signature_for bytes m row)

record AllRead (missing : List MissingSignature) (inputs after : List TxIn) (r : Result (List (List ℕ)) Refusal) : Type 0 where
  signatures : List (List ℕ)
  read : r ≡ Ok signatures
  same : after ≡ with_signatures missing signatures inputs

all_read : (missing : List MissingSignature) (inputs after : List TxIn) (r : Result (List (List ℕ)) Refusal) → (r >>= λ ss. Ok (with_signatures missing ss inputs)) ≡ Ok after → AllRead missing inputs after r
all_read missing inputs after (Ok ss) e = record { signatures = ss; read = refl; same = cc }
all_read missing inputs after (Err e) h = absurd (cc)

one_refused : (missing : List MissingSignature) (inputs : List TxIn) (e : Refusal) (r : Result (List (List ℕ)) Refusal) → (r >>= λ ss. Ok (with_signatures missing ss inputs)) ≡ Err e → r ≡ Err e
one_refused missing inputs e (Ok ss) h = absurd (cc)
one_refused missing inputs e (Err f) h = cc

refused_of : (bytes : List ℕ) (missing : List MissingSignature) (rows : List SignedRow) (inputs : List TxIn) (e : Refusal) → signed_inputs bytes missing rows inputs ≡ Err e → UnlessMemory e (signatures_of bytes missing rows ≡ Err e)
refused_of bytes missing rows inputs e h = unless_memory e (signatures_of bytes missing rows ≡ Err e) (one_refused missing inputs e (signatures_of bytes missing rows) (sym (same_result bytes missing rows inputs) ∙ h))

-- what is left begins with what stands at the index
left_missing : (missing : List MissingSignature) (i : ℕ) (d m : MissingSignature) → i < length missing → m ≡ get_or missing i d → drop i missing ≡ m ∷ drop (i + 1) missing
left_missing missing i d m h e = drop_more missing i d h ∙ ap (λ x. x ∷ drop (i + 1) missing) (sym e)

left_rows : (rows : List SignedRow) (i : ℕ) (row : SignedRow) → slice_get rows i ≡ Some row → drop i rows ≡ row ∷ drop (i + 1) rows
left_rows rows i row e = drop_more rows i row (slice_get_within rows i row e) ∙ ap (λ r. r ∷ drop (i + 1) rows) (get_or_from_slice_get rows i row row e)

no_rows : (rows : List SignedRow) (i : ℕ) → slice_get rows i ≡ None → drop i rows ≡ []
no_rows [] zero e = refl
no_rows [] (suc i) e = refl
no_rows (row ∷ rows) zero e = absurd (cc)
no_rows (row ∷ rows) (suc i) e = no_rows rows i e

-- the refusal of the rest is that of all
pub refused_here : (bytes : List ℕ) (missing : List MissingSignature) (rows : List SignedRow) (i : ℕ) (d m : MissingSignature) (row : SignedRow) (inputs before : List TxIn) (e : Refusal)
    → i < length missing → m ≡ get_or missing i d → slice_get rows i ≡ Some row → signature_for bytes m row ≡ Err e
    → signed_inputs bytes (drop i missing) (drop i rows) inputs ≡ signed_inputs bytes missing rows before → UnlessMemory e (signatures_of bytes missing rows ≡ Err e)
refused_here bytes missing rows i d m row inputs before e h is there refused whole =
    refused_of bytes missing rows before e
    (sym whole ∙ ap (λ ms. signed_inputs bytes ms (drop i rows) inputs) (left_missing missing i d m h is) ∙ ap (λ rs. signed_inputs bytes (m ∷ drop (i + 1) missing) rs inputs) (left_rows rows i row there)
    ∙ ap (λ r. r >>= λ s. signed_inputs bytes (drop (i + 1) missing) (drop (i + 1) rows) (changed_at (with_item m.item s) m.input inputs)) refused)

pub none_here : (bytes : List ℕ) (missing : List MissingSignature) (rows : List SignedRow) (i : ℕ) (d m : MissingSignature) (inputs before : List TxIn)
    → i < length missing → m ≡ get_or missing i d → slice_get rows i ≡ None
    → signed_inputs bytes (drop i missing) (drop i rows) inputs ≡ signed_inputs bytes missing rows before → signatures_of bytes missing rows ≡ Err (NoSignature (place_of m))
none_here bytes missing rows i d m inputs before h is none whole =
    one_refused missing before _ (signatures_of bytes missing rows)
    (sym (same_result bytes missing rows before) ∙ sym whole ∙ ap (λ ms. signed_inputs bytes ms (drop i rows) inputs) (left_missing missing i d m h is) ∙ ap (λ rs. signed_inputs bytes (m ∷ drop (i + 1) missing) rs inputs) (no_rows rows i none))

pub signed_next : (bytes : List ℕ) (missing : List MissingSignature) (rows : List SignedRow) (i : ℕ) (d m : MissingSignature) (row : SignedRow) (inputs before : List TxIn) (s : List ℕ)
    → i < length missing → m ≡ get_or missing i d → slice_get rows i ≡ Some row → signature_for bytes m row ≡ Ok s
    → signed_inputs bytes (drop i missing) (drop i rows) inputs ≡ signed_inputs bytes missing rows before
    → signed_inputs bytes (drop (i + 1) missing) (drop (i + 1) rows) (changed_at (with_item m.item s) m.input inputs) ≡ signed_inputs bytes missing rows before
signed_next bytes missing rows i d m row inputs before s h is there given whole =
    sym (ap (λ ms. signed_inputs bytes ms (drop i rows) inputs) (left_missing missing i d m h is) ∙ ap (λ rs. signed_inputs bytes (m ∷ drop (i + 1) missing) rs inputs) (left_rows rows i row there)
    ∙ ap (λ r. r >>= λ t. signed_inputs bytes (drop (i + 1) missing) (drop (i + 1) rows) (changed_at (with_item m.item t) m.input inputs)) given) ∙ whole

pub one_left : (bytes : List ℕ) (missing : List MissingSignature) (rows : List SignedRow) (i : ℕ) (row : SignedRow) (inputs before : List TxIn)
    → i ≡ length missing → slice_get rows (length missing) ≡ Some row
    → signed_inputs bytes (drop i missing) (drop i rows) inputs ≡ signed_inputs bytes missing rows before → signatures_of bytes missing rows ≡ Err (NotAsked (row_place row))
one_left bytes missing rows i row inputs before end there whole =
    one_refused missing before _ (signatures_of bytes missing rows)
    (sym (same_result bytes missing rows before) ∙ sym whole ∙ ap (λ n. signed_inputs bytes (drop n missing) (drop n rows) inputs) end
    ∙ ap (λ ms. signed_inputs bytes ms (drop (length missing) rows) inputs) (drop_all (length missing) missing (omega arith)) ∙ ap (λ rs. signed_inputs bytes [] rs inputs) (left_rows rows (length missing) row there))

pub all_signed : (bytes : List ℕ) (missing : List MissingSignature) (rows : List SignedRow) (i : ℕ) (before after : Transaction)
    → i ≡ length missing → slice_get rows (length missing) ≡ None → after ≡ record before { inputs = after.inputs }
    → signed_inputs bytes (drop i missing) (drop i rows) after.inputs ≡ signed_inputs bytes missing rows before.inputs → HasSignatures bytes missing rows before after
all_signed bytes missing rows i before after end none same whole =
    let whole_is = sym (same_result bytes missing rows before.inputs) ∙ sym whole ∙ ap (λ n. signed_inputs bytes (drop n missing) (drop n rows) after.inputs) end
    ∙ ap (λ ms. signed_inputs bytes ms (drop (length missing) rows) after.inputs) (drop_all (length missing) missing (omega arith)) ∙ ap (λ rs. signed_inputs bytes [] rs after.inputs) (no_rows rows (length missing) none) in
    let told = all_read missing before.inputs after.inputs (signatures_of bytes missing rows) whole_is in
    record { signatures = told.signatures; read = told.read; signed = same ∙ ap (λ inputs. record before { inputs = inputs }) told.same }

-- ---- the spend with its signatures

tokens_same : (missing : List MissingSignature) (inputs : List TxIn) → with_signatures missing (tokens_of missing) inputs ≡ with_tokens missing inputs
tokens_same [] inputs = refl
tokens_same (m ∷ missing) inputs = tokens_same missing (changed_at (with_item m.item (token_of m.key.bytes m.digest)) m.input inputs)

pub is_signed : (claims : List ClaimParts) (outputs : List Output) (preimages : List (List ℕ)) (rows : List SignedRow) (given bytes txid : List ℕ) (unsigned tx : Transaction) (missing : List MissingSignature)
    → IsUnsignedSpend claims outputs preimages unsigned missing → HasSignatures given missing rows unsigned tx → IsTransaction tx bytes → txid ≡ transaction_id tx
    → IsSigned claims outputs preimages rows given (record { bytes = bytes; txid = txid })
is_signed claims outputs preimages rows given bytes txid unsigned tx missing spend signed spelled id = record {
  unsigned = unsigned;
  missing = missing;
  spend = spend;
  tx = tx;
  signed = signed;
  spelled = spelled;
  id = id;
  filled = ap (λ inputs. record unsigned { inputs = inputs }) (tokens_same missing unsigned.inputs) ∙ spend.signed;
  clean = spend.clean;
}

pub no_spend : (claims : List ClaimParts) (outputs : List Output) (preimages : List (List ℕ)) (rows : List SignedRow) (given : List ℕ) (e : Refusal)
    → UnlessMemory e (IsUnspent claims outputs preimages e) → UnlessMemory e (IsNotSigned claims outputs preimages rows given e)
no_spend claims outputs preimages rows given e is = still_unless_memory e (IsUnspent claims outputs preimages e) (IsNotSigned claims outputs preimages rows given e) (λ f. inl f) is

pub no_signature : (claims : List ClaimParts) (outputs : List Output) (preimages : List (List ℕ)) (rows : List SignedRow) (given : List ℕ) (unsigned : Transaction) (missing : List MissingSignature) (e : Refusal)
    → IsUnsignedSpend claims outputs preimages unsigned missing → UnlessMemory e (signatures_of given missing rows ≡ Err e) → UnlessMemory e (IsNotSigned claims outputs preimages rows given e)
no_signature claims outputs preimages rows given unsigned missing e spend is =
    still_unless_memory e (signatures_of given missing rows ≡ Err e) (IsNotSigned claims outputs preimages rows given e) (λ f. inr (inl (record { unsigned = unsigned; missing = missing; spend = spend; refused = f }))) is

pub no_bytes : (claims : List ClaimParts) (outputs : List Output) (preimages : List (List ℕ)) (rows : List SignedRow) (given : List ℕ) (unsigned tx : Transaction) (missing : List MissingSignature) (e : Refusal)
    → IsUnsignedSpend claims outputs preimages unsigned missing → HasSignatures given missing rows unsigned tx → UnlessMemory e (IsNotEncoded tx e) → UnlessMemory e (IsNotSigned claims outputs preimages rows given e)
no_bytes claims outputs preimages rows given unsigned tx missing e spend signed is =
    still_unless_memory e (IsNotEncoded tx e) (IsNotSigned claims outputs preimages rows given e) (λ f. inr (inr (record { unsigned = unsigned; missing = missing; spend = spend; tx = tx; signed = signed; refused = f }))) is

pub memory_out : (a : Asked) (preimages : List (List ℕ)) (rows : List SignedRow) (e : Refused) → e ≡ refused_whole NoMemory → IsFinished a preimages rows (Err e)
memory_out a preimages rows e is = subst (λ x. IsFinished a preimages rows (Err x)) (sym is) tt

pub not_read : (a : Asked) (preimages : List (List ℕ)) (rows : List SignedRow) (e : Refused) → UnlessMemory e.why (IsUnread a e) → IsFinished a preimages rows (Err e)
not_read a preimages rows e is = still_unless_memory e.why (IsUnread a e) _ (λ f. inl f) is

pub finished_of : (a : Asked) (preimages : List (List ℕ)) (rows : List SignedRow) (claims : List ClaimParts) (outputs : List Output) (s : SignedParts) → AreRead a claims outputs → IsSigned claims outputs preimages rows a.bytes s
    → IsFinished a preimages rows (Ok s)
finished_of a preimages rows claims outputs s read signed = record { claims = claims; outputs = outputs; read = read; signed = signed }

at_claim : (a : Asked) (preimages : List (List ℕ)) (rows : List SignedRow) (claims : List ClaimParts) (outputs : List Output) (why : Refusal) → AreRead a claims outputs
    → UnlessMemory why (IsNotSigned claims outputs preimages rows a.bytes why) → IsFinished a preimages rows (Err (refused_at claims preimages why))
at_claim a preimages rows claims outputs why read is =
    still_unless_memory why (IsNotSigned claims outputs preimages rows a.bytes why) _ (λ f. inr (record { claims = claims; outputs = outputs; read = read; refused = f; about = refl })) is

pub not_finished : (a : Asked) (preimages : List (List ℕ)) (rows : List SignedRow) (claims : List ClaimParts) (outputs : List Output) (why : Refusal) (e : Refused) → AreRead a claims outputs
    → UnlessMemory why (IsNotSigned claims outputs preimages rows a.bytes why) → UnlessMemory e.why (e ≡ refused_at claims preimages why) → IsFinished a preimages rows (Err e)
not_finished a preimages rows claims outputs why e read is same =
    carried e (refused_at claims preimages why) (λ x. IsUnread a x ⊎ IsNoFinish a preimages rows x) same (at_claim a preimages rows claims outputs why read is)

-- ---- what the call leaves

pub finished_bytes : (a : Asked) (preimages : List (List ℕ)) (rows : List SignedRow) (before : List ℕ) (s : SignedParts) (after : LeftFinish) → IsFinished a preimages rows (Ok s) → left_by_finish s before ≡ after
    → AnswersFinish a preimages rows before after
finished_bytes a preimages rows before s after finished left = (Ok s, finished, left)

pub refused_finish : (a : Asked) (preimages : List (List ℕ)) (rows : List SignedRow) (before : List ℕ) (e : Refused) (s : ℕ) (n : FinishAnswer) → IsFinished a preimages rows (Err e) → s ≡ status_of e.why → n ≡ finish_refused e
    → AnswersFinish a preimages rows before (record { status = s; answer = n; bytes = before })
refused_finish a preimages rows before e s n refused status answer = (Err e, refused, rw (status, answer) refl)
