-- The scripts of HTLCs are opcodes that are read back from their bytes, and their ways are listed.
use Rattle.std.proofs.Common.{◌≡◌, ℕ, ◌<◌, ◌≤◌, ◌^◌, Bool, true, false, eqb, leb, List, [], ◌∷◌, length, Some, Ok, refl, arith, length-append}
use Rattle.std.specs.Prelude.{if◌then◌else◌}
use Rattle.std.specs.List.{All, AllByRecursion}
use Rattle.std.proofs.lemmas.Bool.{leb-true, eqb-false}
use Rattle.std.proofs.lemmas.List.Elements.{All-nil, All-cons}
use Rattle.digest.specs.Hash.{hash160}
use Rattle.digest.specs.Ripemd160.{ripemd160}
use Rattle.digest.proofs.OutsideVectors.{length-ripemd160}
use Rattle.script.specs.declared.opcode.Op.{Op}
use Rattle.script.specs.declared.opcode.Op.TheVariants.{Push, Number}
use Rattle.script.specs.declared.limits.TheConstants.{LOCKTIME_THRESHOLD}
use Rattle.script.specs.Number.{minimal_bytes_of}
use Rattle.script.specs.Spelling.{spelling, payload_of, IsOp}
use Rattle.script.specs.Token.{is_key}
use Rattle.sighash.specs.Programs.{script_ops}
use Rattle.sighash.proofs.Parsing.{parsed_spelling}
use Rattle.paths.specs.Listing.{CheckedScript, listing}
use Rattle.claim.proofs.TokenForms.{key-length}
use Rattle.terms.specs.declared.htlcs.Htlc.{Htlc}
use Rattle.terms.specs.Scripts.{number_push, offered, received}
use Rattle.forms.proofs.Listed.{offered-listed, received-listed}
use Rattle.commit.specs.declared.fees.Direction.{Direction}
use Rattle.commit.specs.declared.fees.Direction.TheVariants.{Offered, Received}
use Rattle.commit.specs.Keys.{KeyBytes}
use Rattle.commit.specs.Outputs.{htlc_script}
use Rattle.commit.proofs.Pushes.{short_push}
use Rattle.penalty.specs.Claimable.{htlc_form}
use Rattle.watch.specs.Showing.{AreKeys}

from_each : {X : Type 0} (P : X → Type 0) (xs : List X) → AllByRecursion P xs → All P xs
from_each P [] a = All-nil P
from_each P (x ∷ xs) a = All-cons P x xs a.0 (from_each P xs a.1)

two : IsOp (Number 2)
two = (omega arith, omega arith)

-- the push of a number below 2^32
record IsShort (op : Op) : Type 0 where
  valid : IsOp op
  short : length (payload_of op) ≤ 5

short_by : (n : ℕ) → n < 2 ^ 32 → (a b : Bool) → eqb n 0 ≡ a → leb n 16 ≡ b → IsShort (if a then Push [] else (if b then Number n else Push (minimal_bytes_of n)))
short_by n l true b e f = record { valid = omega arith; short = omega arith }
short_by n l false true e f = let some = eqb-false n 0 e in let low = leb-true n 16 f in record { valid = (omega arith, omega arith); short = omega arith }
short_by n l false false e f = let s = short_push n l in record { valid = omega arith; short = omega arith }

push_is : (n : ℕ) → n < 2 ^ 32 → IsShort (number_push n)
unfolding number_push
push_is n l = short_by n l (eqb n 0) (leb n 16) refl refl

-- the script of a form is read back from its bytes, and the form's ways are those of its listing
pub record IsRead (form : CheckedScript) (script : List ℕ) : Type 0 where
  pub ops : script_ops script ≡ Some form.ops
  pub ways : listing form.ops ≡ Ok form.paths

offered_read : (r m l p : List ℕ) → is_key m ≡ true → is_key l ≡ true → length r ≡ 20 → length m ≡ 33 → length l ≡ 33 → length p ≡ 20 → script_ops (spelling (offered r m l p)) ≡ Some (offered r m l p)
offered_read r m l p mk lk rl ml ll pl =
    let size = push_is 32 (omega arith) in
    let rv : IsOp (Push r) = omega (arith, rl) in
    let mv : IsOp (Push m) = omega (arith, ml) in
    let lv : IsOp (Push l) = omega (arith, ll) in
    let pv : IsOp (Push p) = omega (arith, pl) in
    parsed_spelling (offered r m l p)
    (from_each IsOp (offered r m l p) (tt, (tt, (rv, (tt, (tt, (tt, (tt, (mv, (tt, (tt, (size.valid, (tt, (tt, (tt, (two, (tt, (lv, (two, (tt, (tt, (tt, (pv, (tt, (tt, (tt, (tt, tt)))))))))))))))))))))))))))
    (let short = size.short in simp length-append (omega (arith, short, rl, ml, ll, pl)))

received_read : (r m l p : List ℕ) (expiry_height : ℕ) → expiry_height < 2 ^ 32 → is_key m ≡ true → is_key l ≡ true → length r ≡ 20 → length m ≡ 33 → length l ≡ 33 → length p ≡ 20
    → script_ops (spelling (received r m l p expiry_height)) ≡ Some (received r m l p expiry_height)
received_read r m l p expiry_height low mk lk rl ml ll pl =
    let size = push_is 32 (omega arith) in
    let height = push_is expiry_height low in
    let rv : IsOp (Push r) = omega (arith, rl) in
    let mv : IsOp (Push m) = omega (arith, ml) in
    let lv : IsOp (Push l) = omega (arith, ll) in
    let pv : IsOp (Push p) = omega (arith, pl) in
    parsed_spelling (received r m l p expiry_height)
    (from_each IsOp (received r m l p expiry_height) (tt, (tt, (rv, (tt, (tt, (tt, (tt, (mv, (tt, (tt, (size.valid, (tt, (tt, (tt, (pv, (tt, (two, (tt, (lv, (two, (tt, (tt, (tt, (height.valid, (tt, (tt, (tt, (tt, (tt, tt))))))))))))))))))))))))))))))
    (let short = size.short in let small = height.short in simp length-append (omega (arith, short, small, rl, ml, ll, pl)))

pub form_read : (k : KeyBytes) (d : Direction) (h : Htlc) → AreKeys k → h.expiry_height < LOCKTIME_THRESHOLD → IsRead (htlc_form k d h) (htlc_script k d h)
unfolding htlc_script
form_read k Offered h keys low =
    let rl = length-ripemd160 _ in
    let pl = length-ripemd160 h.hash in
    let ml = key-length k.remote_htlc keys.remote in
    let ll = key-length k.local_htlc keys.local in
    record {
      ops = offered_read (hash160 k.revocation) k.remote_htlc k.local_htlc (ripemd160 h.hash) keys.remote keys.local rl ml ll pl;
      ways = offered-listed (hash160 k.revocation) k.remote_htlc k.local_htlc (ripemd160 h.hash) keys.remote keys.local ml ll rl pl;
    }
form_read k Received h keys low =
    let rl = length-ripemd160 _ in
    let pl = length-ripemd160 h.hash in
    let ml = key-length k.remote_htlc keys.remote in
    let ll = key-length k.local_htlc keys.local in
    record {
      ops = received_read (hash160 k.revocation) k.remote_htlc k.local_htlc (ripemd160 h.hash) h.expiry_height (omega (arith, low)) keys.remote keys.local rl ml ll pl;
      ways = received-listed (hash160 k.revocation) k.remote_htlc k.local_htlc (ripemd160 h.hash) h.expiry_height (omega (arith, low)) keys.remote keys.local ml ll rl pl;
    }
