-- The bytes of the forms are read as their opcodes.
use Rattle.std.proofs.Common.{◌≡◌, ℕ, ◌^◌, ◌<◌, ◌≤◌, true, List, length, Some, length-append, arith}
use Rattle.std.proofs.lemmas.List.Elements.{All-from_recursion}
use Rattle.script.specs.declared.opcode.Op.{Op}
use Rattle.script.specs.Spelling.{IsOp, payload_of, spelling}
use Rattle.script.specs.Token.{is_key}
use Rattle.sighash.specs.Programs.{script_ops}
use Rattle.sighash.proofs.Parsing.{parsed_spelling}
use Rattle.terms.specs.Scripts.{number_push, to_local, key_hash, offered, received}
use Rattle.forms.proofs.Pushes.{by_push}
use Rattle.forms.proofs.Forms.{key_length}

record IsShort (op : Op) : Type 0 where
  valid : IsOp op
  short : length (payload_of op) ≤ 5

pushed : (n : ℕ) → n < 2 ^ 32 → IsShort (number_push n)
pushed n h = by_push IsShort n h (λ b short reads. record { valid = omega (arith, short); short = short }) (λ some few reads. record { valid = (some, few); short = omega arith })

pub to_local_ops : (revocation : List ℕ) (delay_blocks : ℕ) (delayed : List ℕ) → delay_blocks < 2 ^ 16 → is_key revocation ≡ true → is_key delayed ≡ true → script_ops (spelling (to_local revocation delay_blocks delayed)) ≡ Some (to_local revocation delay_blocks delayed)
to_local_ops revocation delay_blocks delayed h k l =
    let m = key_length revocation k in
    let n = key_length delayed l in
    let d = pushed delay_blocks (omega arith) in
    parsed_spelling (to_local revocation delay_blocks delayed)
    (All-from_recursion IsOp (to_local revocation delay_blocks delayed) (tt, (omega (arith, m), (tt, (d.valid, (tt, (tt, (omega (arith, n), (tt, (tt, tt))))))))))
    (let s = d.short in simp length-append (omega (arith, m, n, s)))

pub key_hash_ops : (hash : List ℕ) → length hash ≡ 20 → script_ops (spelling (key_hash hash)) ≡ Some (key_hash hash)
key_hash_ops hash n = parsed_spelling (key_hash hash) (All-from_recursion IsOp (key_hash hash) (tt, (tt, (omega (arith, n), (tt, (tt, tt)))))) (simp length-append (omega (arith, n)))

pub offered_ops : (hash remote local payment : List ℕ) → length hash ≡ 20 → length payment ≡ 20 → is_key remote ≡ true → is_key local ≡ true → script_ops (spelling (offered hash remote local payment)) ≡ Some (offered hash remote local payment)
offered_ops hash remote local payment r p k l =
    let m = key_length remote k in
    let n = key_length local l in
    let two : (1 ≤ 2) × (2 ≤ 16) = (omega arith, omega arith) in
    let size = pushed 32 (omega arith) in
    parsed_spelling (offered hash remote local payment)
    (All-from_recursion IsOp (offered hash remote local payment)
    (tt, (tt, (omega (arith, r), (tt, (tt, (tt, (tt, (omega (arith, m), (tt, (tt, (size.valid, (tt, (tt, (tt, (two, (tt, (omega (arith, n), (two, (tt, (tt, (tt, (omega (arith, p), (tt, (tt, (tt, (tt, tt)))))))))))))))))))))))))))
    (let s = size.short in simp length-append (omega (arith, s, r, m, n, p)))

pub received_ops : (hash remote local payment : List ℕ) (expiry_height : ℕ) → expiry_height < 2 ^ 32 → length hash ≡ 20 → length payment ≡ 20 → is_key remote ≡ true → is_key local ≡ true
    → script_ops (spelling (received hash remote local payment expiry_height)) ≡ Some (received hash remote local payment expiry_height)
received_ops hash remote local payment expiry_height h r p k l =
    let m = key_length remote k in
    let n = key_length local l in
    let two : (1 ≤ 2) × (2 ≤ 16) = (omega arith, omega arith) in
    let size = pushed 32 (omega arith) in
    let lock = pushed expiry_height h in
    parsed_spelling (received hash remote local payment expiry_height)
    (All-from_recursion IsOp (received hash remote local payment expiry_height)
    (tt, (tt, (omega (arith, r), (tt, (tt, (tt, (tt, (omega (arith, m), (tt, (tt, (size.valid, (tt, (tt, (tt, (omega (arith, p), (tt, (two, (tt, (omega (arith, n), (two, (tt, (tt, (tt, (lock.valid, (tt, (tt, (tt, (tt, (tt, tt))))))))))))))))))))))))))))))
    (let s = size.short in let e = lock.short in simp length-append (omega (arith, s, e, r, m, n, p)))
