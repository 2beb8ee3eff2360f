-- What runs clean on the scripts for which two keys sign.
use Rattle.std.proofs.Common.{◌≡◌, ℕ, ◌<◌, ◌≤◌, ◌^◌, Bool, true, false, eqb, leb, List, [], ◌∷◌, ◌++◌, length, Some, ap, refl, arith, ◌∙◌, length-append}
use Rattle.std.specs.Prelude.{if◌then◌else◌}
use Rattle.std.specs.List.{All, AllByRecursion}
use Rattle.std.specs.Str.{bytes_eq}
use Rattle.std.proofs.lemmas.Bool.{and_from, and_right, eq-eqb, le-ltb, leb-true, eqb-false}
use Rattle.std.proofs.lemmas.Slice.Eq.{bytes_eq-Decides}
use Rattle.std.proofs.lemmas.List.{reverse-append, reverse-reverse}
use Rattle.std.proofs.lemmas.List.Elements.{All-nil, All-cons}
use Rattle.sha2.specs.Sha256.{sha256}
use Rattle.sha2.proofs.Facts256.{length-sha256}
use Rattle.digest.specs.Hash.{hash160}
use Rattle.digest.specs.Ripemd160.{ripemd160}
use Rattle.script.specs.declared.opcode.Op.{Op}
use Rattle.script.specs.declared.opcode.Op.TheVariants.{Push, Number}
use Rattle.script.specs.declared.spending.Spend.{Spend}
use Rattle.script.specs.Number.{minimal_bytes_of}
use Rattle.script.specs.Spelling.{spelling, payload_of, IsOp}
use Rattle.script.specs.Token.{token_of, is_key}
use Rattle.script.specs.Run.{Outcome, Clean, outcome, is_long}
use Rattle.facts.specs.Symbols.{Stated}
use Rattle.facts.specs.declared.symbols.KeySourceOver.TheVariants.{Const as FixedKey}
use Rattle.facts.specs.declared.symbols.FactOver.TheVariants.{Hash as HashIs, Size as SizeIs, Is, Form, Assigned}
use Rattle.facts.specs.Meaning.{Meets}
use Rattle.paths.specs.declared.state.Path.{Path}
use Rattle.paths.specs.Sound.{IsSound}
use Rattle.tx.specs.declared.input.TxIn.{TxIn}
use Rattle.tx.specs.Parts.{Output}
use Rattle.tx.specs.Fields.{Transaction}
use Rattle.sighash.specs.Programs.{script_hash_program, is_key_hash_program, is_script_hash_program, given_of, script_ops, run_of, spend_of}
use Rattle.sighash.proofs.Parsing.{parsed_spelling}
use Rattle.claim.proofs.TokenForms.{key-length, token-signature}
use Rattle.terms.specs.Scripts.{number_push, two_of_two, offered, received}
use Rattle.forms.specs.Ways.{yes, no}
use Rattle.commit.proofs.Pushes.{short_push}

-- the script and the items that a program of a script's hash gives
given_script : (script : List ℕ) (items : List (List ℕ)) → given_of (script_hash_program script) (items ++ script ∷ []) ≡ Some (record { script = script; items = items })
unfolding given_of script_hash_program
given_script script items =
    let l = length-sha256 script in
    let no : is_key_hash_program (0x00 ∷ 0x20 ∷ sha256 script) ≡ false = and_right _ _ refl in
    let yes : is_script_hash_program (0x00 ∷ 0x20 ∷ sha256 script) ≡ true = and_from _ _ (eq-eqb _ _ (omega (arith, l))) refl in
    rw (no, yes, reverse-append items (script ∷ []), (bytes_eq-Decides (sha256 script) (sha256 script)).1 refl, reverse-reverse items) refl

run_as : (t : Transaction) (input : TxIn) (output : Output) (script : List ℕ) (items : List (List ℕ)) (ops : List Op) (o : Outcome) → given_of output.script input.witness ≡ Some (record { script = script; items = items }) → script_ops script ≡ Some ops → outcome (spend_of t input script output.value) ops items ≡ o → run_of t input output ≡ Some o
unfolding run_of
run_as t input output script items ops o e f g = rw (e, f) (ap Some g)

-- what meets a path of a script runs clean where the program is the script's hash
pub runs_clean : (t : Transaction) (input : TxIn) (value : ℕ) (ops : List Op) (p : Path) (items : List (List ℕ)) → All IsOp ops → length (spelling ops) ≤ 10000 → IsSound ops p
    → input.witness ≡ items ++ spelling ops ∷ [] → Meets (spend_of t input (spelling ops) value) items p.arity p.facts
    → run_of t input (record { value = value; script = script_hash_program (spelling ops) }) ≡ Some (Clean p.ops p.height)
runs_clean t input value ops p items valid short sound w m =
    run_as t input (record { value = value; script = script_hash_program (spelling ops) }) (spelling ops) items ops (Clean p.ops p.height)
    (ap (given_of (script_hash_program (spelling ops))) w ∙ given_script (spelling ops) items)
    (parsed_spelling ops valid short)
    (sound.clean _ items m)

-- ---- opcodes and bytes of the scripts

from_each : {X : Type 0} (P : X → Type 0) (xs : List X) → AllByRecursion P xs → All P xs
from_each P [] a = All-nil P
from_each P (x ∷ xs) a = All-cons P x xs a.0 (from_each P xs a.1)

two : IsOp (Number 2)
two = (omega arith, omega arith)

pub two_of_two-valid : (first second : List ℕ) → length first ≡ 33 → length second ≡ 33 → All IsOp (two_of_two first second)
two_of_two-valid first second m n =
    from_each IsOp (two_of_two first second) (two, (omega (arith, m), (omega (arith, n), (two, (tt, tt)))))

pub two_of_two-short : (first second : List ℕ) → length first ≡ 33 → length second ≡ 33 → length (spelling (two_of_two first second)) ≤ 10000
two_of_two-short first second m n = simp length-append (omega (arith, m, n))

-- the push of a number below 2^32
record IsShort (op : Op) : Type 0 where
  valid : IsOp op
  short : length (payload_of op) ≤ 5

short_by : (n : ℕ) → n < 2 ^ 32 → (a b : Bool) → eqb n 0 ≡ a → leb n 16 ≡ b → IsShort (if a then Push [] else (if b then Number n else Push (minimal_bytes_of n)))
short_by n l true b e f = record { valid = omega arith; short = omega arith }
short_by n l false true e f = let some = eqb-false n 0 e in let low = leb-true n 16 f in record { valid = (omega arith, omega arith); short = omega arith }
short_by n l false false e f = let s = short_push n l in record { valid = omega arith; short = omega arith }

push_is : (n : ℕ) → n < 2 ^ 32 → IsShort (number_push n)
unfolding number_push
push_is n l = short_by n l (eqb n 0) (leb n 16) refl refl

pub offered-valid : (r m l p : List ℕ) → length r ≡ 20 → length m ≡ 33 → length l ≡ 33 → length p ≡ 20 → All IsOp (offered r m l p)
offered-valid r m l p rl ml ll pl =
    let size = (push_is 32 (omega arith)).valid in
    let rv : IsOp (Push r) = omega (arith, rl) in
    let mv : IsOp (Push m) = omega (arith, ml) in
    let lv : IsOp (Push l) = omega (arith, ll) in
    let pv : IsOp (Push p) = omega (arith, pl) in
    from_each IsOp (offered r m l p) (tt, (tt, (rv, (tt, (tt, (tt, (tt, (mv, (tt, (tt, (size, (tt, (tt, (tt, (two, (tt, (lv, (two, (tt, (tt, (tt, (pv, (tt, (tt, (tt, (tt, tt))))))))))))))))))))))))))

pub offered-short : (r m l p : List ℕ) → length r ≡ 20 → length m ≡ 33 → length l ≡ 33 → length p ≡ 20 → length (spelling (offered r m l p)) ≤ 10000
offered-short r m l p rl ml ll pl = let size = (push_is 32 (omega arith)).short in simp length-append (omega (arith, size, rl, ml, ll, pl))

pub received-valid : (r m l p : List ℕ) (expiry_height : ℕ) → expiry_height < 2 ^ 32 → length r ≡ 20 → length m ≡ 33 → length l ≡ 33 → length p ≡ 20 → All IsOp (received r m l p expiry_height)
received-valid r m l p expiry_height low rl ml ll pl =
    let size = (push_is 32 (omega arith)).valid in
    let height = (push_is expiry_height low).valid in
    let rv : IsOp (Push r) = omega (arith, rl) in
    let mv : IsOp (Push m) = omega (arith, ml) in
    let lv : IsOp (Push l) = omega (arith, ll) in
    let pv : IsOp (Push p) = omega (arith, pl) in
    from_each IsOp (received r m l p expiry_height) (tt, (tt, (rv, (tt, (tt, (tt, (tt, (mv, (tt, (tt, (size, (tt, (tt, (tt, (pv, (tt, (two, (tt, (lv, (two, (tt, (tt, (tt, (height, (tt, (tt, (tt, (tt, (tt, tt)))))))))))))))))))))))))))))

pub received-short : (r m l p : List ℕ) (expiry_height : ℕ) → expiry_height < 2 ^ 32 → length r ≡ 20 → length m ≡ 33 → length l ≡ 33 → length p ≡ 20 → length (spelling (received r m l p expiry_height)) ≤ 10000
received-short r m l p expiry_height low rl ml ll pl =
    let size = (push_is 32 (omega arith)).short in
    let height = (push_is expiry_height low).short in
    simp length-append (omega (arith, size, height, rl, ml, ll, pl))

-- ---- what meets the paths of both keys

token_short : (k d : List ℕ) → length k ≡ 33 → length d ≡ 32 → is_long (token_of k d) ≡ false
unfolding token_of
token_short k d m n = le-ltb 520 _ (simp length-append (omega (arith, m, n)))

same_bytes : (x : List ℕ) → bytes_eq x x ≡ true
same_bytes x = (bytes_eq-Decides x x).1 refl

abbrev pub two_of_two_facts : (first second : List ℕ) → List Stated
two_of_two_facts first second = yes (Form 1) ∷ yes (Form 0) ∷ yes (Is 2 []) ∷ yes (Assigned (1 ∷ 0 ∷ []) (FixedKey first ∷ FixedKey second ∷ [])) ∷ []

pub meets_two : (spend : Spend) (first second : List ℕ) → is_key first ≡ true → is_key second ≡ true → length spend.digest ≡ 32
    → Meets spend ([] ∷ token_of first spend.digest ∷ token_of second spend.digest ∷ []) 3 (two_of_two_facts first second)
meets_two spend first second k l long =
    let d = spend.digest in
    let ft = token_short first d (key-length first k) long in
    let st = token_short second d (key-length second l) long in
    record {
      exact = refl;
      short = rw (ft, st) refl;
      holds = (token-signature first d k long, (token-signature second d l long, (refl, (rw (same_bytes (token_of first d), same_bytes (token_of second d)) refl, tt))));
    }

abbrev pub timeout_facts : (revocation_hash remote local : List ℕ) → List Stated
timeout_facts revocation_hash remote local =
    no (HashIs 0 revocation_hash) ∷ no (SizeIs 0 32) ∷ yes (Form 2) ∷ yes (Form 1) ∷ yes (Is 3 []) ∷ yes (Assigned (2 ∷ 1 ∷ []) (FixedKey remote ∷ FixedKey local ∷ [])) ∷ []

pub meets_timeout : (spend : Spend) (r m l : List ℕ) → is_key m ≡ true → is_key l ≡ true → length spend.digest ≡ 32 → bytes_eq (hash160 []) r ≡ false
    → Meets spend ([] ∷ token_of m spend.digest ∷ token_of l spend.digest ∷ [] ∷ []) 4 (timeout_facts r m l)
meets_timeout spend r m l mk lk long apart =
    let d = spend.digest in
    let mt = token_short m d (key-length m mk) long in
    let lt = token_short l d (key-length l lk) long in
    record {
      exact = refl;
      short = rw (mt, lt) refl;
      holds = (apart, (refl, (token-signature m d mk long, (token-signature l d lk long, (refl, (rw (same_bytes (token_of m d), same_bytes (token_of l d)) refl, tt))))));
    }

abbrev pub success_facts : (revocation_hash remote local payment_hash : List ℕ) → List Stated
success_facts revocation_hash remote local payment_hash =
    no (HashIs 0 revocation_hash) ∷ yes (SizeIs 0 32) ∷ yes (HashIs 0 payment_hash) ∷ yes (Form 2) ∷ yes (Form 1) ∷ yes (Is 3 []) ∷ yes (Assigned (2 ∷ 1 ∷ []) (FixedKey remote ∷ FixedKey local ∷ [])) ∷ []

pub meets_success : (spend : Spend) (r m l hash p : List ℕ) → is_key m ≡ true → is_key l ≡ true → length spend.digest ≡ 32 → length p ≡ 32 → sha256 p ≡ hash → bytes_eq (hash160 p) r ≡ false
    → Meets spend ([] ∷ token_of m spend.digest ∷ token_of l spend.digest ∷ p ∷ []) 4 (success_facts r m l (ripemd160 hash))
meets_success spend r m l hash p mk lk long pl is apart =
    let d = spend.digest in
    let mt = token_short m d (key-length m mk) long in
    let lt = token_short l d (key-length l lk) long in
    let ps : is_long p ≡ false = le-ltb 520 (length p) (omega (arith, pl)) in
    record {
      exact = refl;
      short = rw (mt, lt, ps) refl;
      holds = (apart, (eq-eqb (length p) 32 pl, (ap (λ x. bytes_eq (ripemd160 x) (ripemd160 hash)) is ∙ same_bytes (ripemd160 hash), (token-signature m d mk long, (token-signature l d lk long, (refl, (rw (same_bytes (token_of m d), same_bytes (token_of l d)) refl, tt)))))));
    }
