-- With its tokens put in, the transaction that lacks signatures is the filling.
use Rattle.std.proofs.Common.{◌≡◌, ℕ, zero, suc, ◌||◌, ◌+◌, Bool, true, false, List, [], ◌∷◌, ◌++◌, length, map, reverse, sym, ap, ◌∙◌, refl, append_assoc, append-nil, add-one}
use Rattle.std.specs.Prelude.{slice_set, if◌then◌else◌}
use Rattle.std.proofs.Math.Seq.{set-append_seam}
use Rattle.std.proofs.lemmas.List.{length-map, length-reverse, length-append, reverse-append}
use Rattle.std.proofs.lemmas.Bool.{false≢true}
use Rattle.script.specs.Token.{token_of}
use Rattle.tx.specs.declared.input.TxIn.{TxIn}
use Rattle.tx.specs.Parts.{Output}
use Rattle.tx.specs.Fields.{Transaction, signed_input}
use Rattle.sighash.specs.Programs.{is_script_hash_program}
use Rattle.claim.specs.declared.parts.Slot.{Slot}
use Rattle.claim.specs.declared.parts.Slot.TheVariants.{Sig, Preimage, Exact}
use Rattle.claim.specs.declared.parts.Shell.{Shell}
use Rattle.claim.specs.declared.parts.Shell.TheVariants.{Open, Fixed}
use Rattle.claim.specs.Fitting.{witness_for}
use Rattle.claim.specs.Claims.{ClaimParts}
use Rattle.filling.specs.declared.missing.MissingSignature.{MissingSignature}
use Rattle.filling.specs.Filling.{script_of, unsigned_input, open_transaction, lone_transaction, transaction_for, digest_for, item_for, filled_input, filling_of}
use Rattle.filling.specs.Refusals.{is_fixed, has_fixed}
use Rattle.filling.specs.Spends.{blank_for, blank_input, unsigned_spend_of, missing_here, missing_on, missing_from, missing_of, with_item, changed_at, with_tokens}

-- ---- one witness

-- the tokens put into a witness
abbrev with_items : List MissingSignature → List (List ℕ) → List (List ℕ)
with_items [] w = w
with_items (m ∷ ms) w = with_items ms (slice_set w m.item (token_of m.key.bytes m.digest))

reversed : {X : Type 0} (x : X) (xs tail : List X) → reverse (x ∷ xs) ++ tail ≡ reverse xs ++ x ∷ tail
reversed x xs tail = ap (λ l. l ++ tail) (reverse-append (x ∷ []) xs) ∙ append_assoc (reverse xs) (x ∷ []) tail

below-length : (ps : List (List ℕ)) (below : List Slot) → length (reverse (map (blank_for ps) below)) ≡ length below
below-length ps below = length-reverse (map (blank_for ps) below) ∙ length-map below (blank_for ps)

put : (ps : List (List ℕ)) (below : List Slot) (x : List ℕ) (tail : List (List ℕ)) → slice_set (reverse (map (blank_for ps) below) ++ [] ∷ tail) (length below) x ≡ reverse (map (blank_for ps) below) ++ x ∷ tail
put ps below x tail =
    let front = reverse (map (blank_for ps) below) in
    ap (λ n. slice_set (front ++ [] ∷ tail) n x) (sym (below-length ps below)) ∙ set-append_seam front [] tail x

signed-items : (input : ℕ) (digest : List ℕ) (ps : List (List ℕ)) (slots : List Slot) (tail : List (List ℕ)) → with_items (missing_on input digest slots) (reverse (map (blank_for ps) slots) ++ tail) ≡ reverse (map (item_for digest ps) slots) ++ tail
signed-items input digest ps [] tail = refl
signed-items input digest ps (Sig k ∷ below) tail =
    let x = token_of k.bytes digest in
    let ms = missing_on input digest below in
    ap (λ w. with_items ms (slice_set w (length below) x)) (reversed [] (map (blank_for ps) below) tail)
    ∙ ap (with_items ms) (put ps below x tail)
    ∙ signed-items input digest ps below (x ∷ tail)
    ∙ sym (reversed x (map (item_for digest ps) below) tail)
signed-items input digest ps (Preimage h ∷ below) tail =
    let x = item_for digest ps (Preimage h) in
    ap (with_items (missing_on input digest below)) (reversed x (map (blank_for ps) below) tail)
    ∙ signed-items input digest ps below (x ∷ tail)
    ∙ sym (reversed x (map (item_for digest ps) below) tail)
signed-items input digest ps (Exact b ∷ below) tail =
    let x = item_for digest ps (Exact b) in
    ap (with_items (missing_on input digest below)) (reversed x (map (blank_for ps) below) tail)
    ∙ signed-items input digest ps below (x ∷ tail)
    ∙ sym (reversed x (map (item_for digest ps) below) tail)

-- the script comes last, or there is none
signed-by : (is_script : Bool) (script : List ℕ) (input : ℕ) (digest : List ℕ) (ps : List (List ℕ)) (slots : List Slot) → with_items (missing_on input digest slots) (if is_script then reverse (map (blank_for ps) slots) ++ script ∷ [] else reverse (map (blank_for ps) slots)) ≡ (if is_script then reverse (map (item_for digest ps) slots) ++ script ∷ [] else reverse (map (item_for digest ps) slots))
signed-by true script input digest ps slots = signed-items input digest ps slots (script ∷ [])
signed-by false script input digest ps slots =
    ap (with_items (missing_on input digest slots)) (sym (append-nil (reverse (map (blank_for ps) slots))))
    ∙ signed-items input digest ps slots []
    ∙ append-nil (reverse (map (item_for digest ps) slots))

signed-witness : (input : ℕ) (t : Transaction) (ps : List (List ℕ)) (c : ClaimParts) → signed_input (unsigned_input c) (with_items (missing_on input (digest_for t c) c.slots) (blank_input ps c).witness) ≡ filled_input t ps c
signed-witness input t ps c = ap (signed_input (unsigned_input c)) (signed-by (is_script_hash_program c.place.program) (script_of c) input (digest_for t c) ps c.slots)

-- ---- all inputs

changed : (f : TxIn → TxIn) (done : List TxIn) (x : TxIn) (left : List TxIn) → changed_at f (length done) (done ++ x ∷ left) ≡ done ++ f x ∷ left
changed f [] x left = refl
changed f (y ∷ done) x left = ap (λ l. y ∷ l) (changed f done x left)

tokens-in : (done : List TxIn) (x : TxIn) (left : List TxIn) (digest : List ℕ) (slots : List Slot) → with_tokens (missing_on (length done) digest slots) (done ++ x ∷ left) ≡ done ++ signed_input x (with_items (missing_on (length done) digest slots) x.witness) ∷ left
tokens-in done x left digest [] = refl
tokens-in done x left digest (Sig k ∷ below) =
    let f = with_item (length below) (token_of k.bytes digest) in
    ap (with_tokens (missing_on (length done) digest below)) (changed f done x left) ∙ tokens-in done (f x) left digest below
tokens-in done x left digest (Preimage h ∷ below) = tokens-in done x left digest below
tokens-in done x left digest (Exact b ∷ below) = tokens-in done x left digest below

tokens-after : (ms ns : List MissingSignature) (inputs : List TxIn) → with_tokens (ms ++ ns) inputs ≡ with_tokens ns (with_tokens ms inputs)
tokens-after [] ns inputs = refl
tokens-after (m ∷ ms) ns inputs = tokens-after ms ns (changed_at (with_item m.item (token_of m.key.bytes m.digest)) m.input inputs)

one-more : {X : Type 0} (done : List X) (x : X) → suc (length done) ≡ length (done ++ x ∷ [])
one-more done x = sym (add-one (length done)) ∙ sym (length-append done (x ∷ []))

signed-from : (t : Transaction) (ps : List (List ℕ)) (done : List TxIn) (claims : List ClaimParts) → with_tokens (missing_from t (length done) claims) (done ++ map (blank_input ps) claims) ≡ done ++ map (filled_input t ps) claims
signed-from t ps done [] = refl
signed-from t ps done (c ∷ claims) =
    let here = missing_on (length done) (digest_for t c) c.slots in
    let others = missing_from t (suc (length done)) claims in
    let x = filled_input t ps c in
    tokens-after here others (done ++ map (blank_input ps) (c ∷ claims))
    ∙ ap (with_tokens others) (tokens-in done (blank_input ps c) (map (blank_input ps) claims) (digest_for t c) c.slots)
    ∙ ap (λ y. with_tokens others (done ++ y ∷ map (blank_input ps) claims)) (signed-witness (length done) t ps c)
    ∙ ap (with_tokens others) (sym (append_assoc done (x ∷ []) (map (blank_input ps) claims)))
    ∙ ap (λ n. with_tokens (missing_from t n claims) ((done ++ x ∷ []) ++ map (blank_input ps) claims)) (one-more done x)
    ∙ signed-from t ps (done ++ x ∷ []) claims
    ∙ append_assoc done (x ∷ []) (map (filled_input t ps) claims)

-- ---- the transaction of open claims

lone-open : (c : ClaimParts) (shell : Shell) (outputs : List Output) → (is_fixed shell || false) ≡ false → lone_transaction c shell outputs ≡ open_transaction (c ∷ []) outputs
lone-open c Open outputs e = refl
lone-open c (Fixed t) outputs e = absurd (false≢true (sym e))

pub open-for : (claims : List ClaimParts) (outputs : List Output) → has_fixed claims ≡ false → transaction_for claims outputs ≡ open_transaction claims outputs
open-for [] outputs e = refl
open-for (c ∷ []) outputs e = lone-open c c.shell outputs e
open-for (c ∷ d ∷ claims) outputs e = refl

abbrev with_inputs : Transaction → List TxIn → Transaction
with_inputs t inputs = record { version = t.version; inputs = inputs; outputs = t.outputs; lock_time = t.lock_time }

pub signed-spend : (claims : List ClaimParts) (outputs : List Output) (ps : List (List ℕ)) → has_fixed claims ≡ false → with_inputs (unsigned_spend_of claims outputs ps) (with_tokens (missing_of claims outputs) (unsigned_spend_of claims outputs ps).inputs) ≡ filling_of claims outputs ps
signed-spend claims outputs ps e =
    let t = open_transaction claims outputs in
    ap (with_inputs t) (signed-from t ps [] claims)
    ∙ ap (λ u. with_inputs u (map (filled_input u ps) claims)) (sym (open-for claims outputs e))
