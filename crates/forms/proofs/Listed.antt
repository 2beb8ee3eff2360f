-- The listings of the forms, for all parameters.
use Rattle.std.proofs.Common.{◌≡◌, ℕ, ◌+◌, ◌/◌, ◌%◌, ◌^◌, ◌≤◌, ◌<◌, Bool, true, false, ltb, List, [], ◌∷◌, length, Ok, refl, arith}
use Rattle.std.specs.Prelude.{if◌then◌else◌}
use Rattle.std.proofs.lemmas.Bool.{le-ltb, ne_eqb}
use Rattle.script.specs.declared.opcode.Op.{Op}
use Rattle.script.specs.declared.opcode.Op.TheVariants.{Push, Number, If, Else, EndIf, Drop, Dup, Swap, Size, Equal, EqualVerify, Hash160, CheckSig, CheckMultiSig, CheckLockTimeVerify, CheckSequenceVerify}
use Rattle.script.specs.Number.{number_of, minimal_bytes_of, digits}
use Rattle.script.specs.Step.{bit_at}
use Rattle.script.specs.Token.{is_key}
use Rattle.paths.specs.Rules.{rule_of, check_multi_sig, age_bits}
use Rattle.paths.specs.Listing.{listing}
use Rattle.terms.specs.Scripts.{number_push, is_lesser, two_of_two, funding, to_local, key_hash, offered, received}
use Rattle.forms.proofs.Pushes.{signed, by_push}
use Rattle.forms.specs.Ways.{two_of_two_ways, funding_ways, to_local_ways, key_hash_ways, offered_ways, received_ways}

pub key_hash-listed : (hash : List ℕ) → length hash ≡ 20 → listing (key_hash hash) ≡ Ok (key_hash_ways hash)
unfolding listing rule_of
key_hash-listed hash n = rw n refl

pub two_of_two-listed : (first second : List ℕ) → is_key first ≡ true → is_key second ≡ true → length first ≡ 33 → length second ≡ 33 → listing (two_of_two first second) ≡ Ok (two_of_two_ways first second)
unfolding listing rule_of check_multi_sig number_of
two_of_two-listed first second k l m n = rw (m, n) (rw (k, l) refl)

pub funding-listed : (key other : List ℕ) → is_key key ≡ true → is_key other ≡ true → length key ≡ 33 → length other ≡ 33 → listing (funding key other) ≡ Ok (funding_ways key other)
funding-listed key other k l m n = by_order (is_lesser other key)
  where
    by_order : (b : Bool) → listing (if b then two_of_two other key else two_of_two key other) ≡ Ok (if b then two_of_two_ways other key else two_of_two_ways key other)
    by_order true = two_of_two-listed other key l k n m
    by_order false = two_of_two-listed key other k l m n

pub offered-listed : (revocation_hash remote local payment_hash : List ℕ) → is_key remote ≡ true → is_key local ≡ true → length remote ≡ 33 → length local ≡ 33 → length revocation_hash ≡ 20 → length payment_hash ≡ 20 → listing (offered revocation_hash remote local payment_hash) ≡ Ok (offered_ways revocation_hash remote local payment_hash)
unfolding listing rule_of check_multi_sig number_of minimal_bytes_of digits number_push
offered-listed revocation_hash remote local payment_hash k l m n r p = rw (m, n, r, p) (rw (k, l) refl)

-- a script with the number as an item, or as an opcode of its own
to_local_by : (o : Op) → List ℕ → List ℕ → List Op
to_local_by o revocation delayed = If ∷ Push revocation ∷ Else ∷ o ∷ CheckSequenceVerify ∷ Drop ∷ Push delayed ∷ EndIf ∷ CheckSig ∷ []

to_local-item : (revocation delayed b : List ℕ) (n : ℕ) → is_key revocation ≡ true → is_key delayed ≡ true → length revocation ≡ 33 → length delayed ≡ 33 → ltb 96 (length b) ≡ false → number_of 5 b ≡ signed n → bit_at 31 n ≡ false → age_bits n ≡ n → bit_at 22 n ≡ false → n % 65536 ≡ n → listing (to_local_by (Push b) revocation delayed) ≡ Ok (to_local_ways revocation n delayed)
unfolding listing rule_of to_local_by
to_local-item revocation delayed b n k l m o lb nb b31 ms b22 md = rw (m, o, lb, k, nb, b31, ms, l, b22, md) refl

to_local-number : (revocation delayed : List ℕ) (n : ℕ) → is_key revocation ≡ true → is_key delayed ≡ true → length revocation ≡ 33 → length delayed ≡ 33 → ltb 96 (80 + n) ≡ false → number_of 5 (n ∷ []) ≡ signed n → bit_at 31 n ≡ false → age_bits n ≡ n → bit_at 22 n ≡ false → n % 65536 ≡ n → listing (to_local_by (Number n) revocation delayed) ≡ Ok (to_local_ways revocation n delayed)
unfolding listing rule_of to_local_by
to_local-number revocation delayed n k l m o lb nb b31 ms b22 md = rw (m, o, lb, k, nb, b31, ms, l, b22, md) refl

not_above : (n : ℕ) → n ≤ 96 → ltb 96 n ≡ false
not_above n h = le-ltb 96 n h

-- a delay of 16 bits has only the bits of the lock
pub to_local-listed : (revocation : List ℕ) (delay_blocks : ℕ) (delayed : List ℕ) → delay_blocks < 2 ^ 16 → is_key revocation ≡ true → is_key delayed ≡ true → length revocation ≡ 33 → length delayed ≡ 33 → listing (to_local revocation delay_blocks delayed) ≡ Ok (to_local_ways revocation delay_blocks delayed)
unfolding to_local_by
to_local-listed revocation delay_blocks delayed h k l m o =
    let b31 : bit_at 31 delay_blocks ≡ false = ne_eqb (delay_blocks / 2 ^ 31 % 2) 1 (λ e. omega arith) in
    let b22 : bit_at 22 delay_blocks ≡ false = ne_eqb (delay_blocks / 2 ^ 22 % 2) 1 (λ e. omega arith) in
    let md : delay_blocks % 65536 ≡ delay_blocks = omega arith in
    let ms : age_bits delay_blocks ≡ delay_blocks = omega arith in
    by_push (λ op. listing (to_local_by op revocation delayed) ≡ Ok (to_local_ways revocation delay_blocks delayed)) delay_blocks (omega arith)
    (λ b s nb. to_local-item revocation delayed b delay_blocks k l m o (not_above (length b) (omega arith)) nb b31 ms b22 md)
    (λ p q nb. to_local-number revocation delayed delay_blocks k l m o (not_above (80 + delay_blocks) (omega arith)) nb b31 ms b22 md)

received_by : (o : Op) (revocation_hash remote local payment_hash : List ℕ) → List Op
received_by o revocation_hash remote local payment_hash =
    Dup ∷ Hash160 ∷ Push revocation_hash ∷ Equal
    ∷ If ∷ CheckSig
    ∷ Else ∷ Push remote ∷ Swap ∷ Size ∷ number_push 32 ∷ Equal
    ∷ If ∷ Hash160 ∷ Push payment_hash ∷ EqualVerify ∷ Number 2 ∷ Swap ∷ Push local ∷ Number 2 ∷ CheckMultiSig
    ∷ Else ∷ Drop ∷ o ∷ CheckLockTimeVerify ∷ Drop ∷ CheckSig
    ∷ EndIf ∷ EndIf ∷ []

received-item : (revocation_hash remote local payment_hash b : List ℕ) (n : ℕ) → is_key remote ≡ true → is_key local ≡ true → length remote ≡ 33 → length local ≡ 33 → length revocation_hash ≡ 20 → length payment_hash ≡ 20 → ltb 96 (length b) ≡ false → number_of 5 b ≡ signed n → listing (received_by (Push b) revocation_hash remote local payment_hash) ≡ Ok (received_ways revocation_hash remote local payment_hash n)
unfolding listing rule_of check_multi_sig number_of minimal_bytes_of digits number_push received_by
received-item revocation_hash remote local payment_hash b n k l m o r p lb nb = rw (m, o, r, p, lb, k, l, nb, k) refl

received-number : (revocation_hash remote local payment_hash : List ℕ) (n : ℕ) → is_key remote ≡ true → is_key local ≡ true → length remote ≡ 33 → length local ≡ 33 → length revocation_hash ≡ 20 → length payment_hash ≡ 20 → ltb 96 (80 + n) ≡ false → number_of 5 (n ∷ []) ≡ signed n → listing (received_by (Number n) revocation_hash remote local payment_hash) ≡ Ok (received_ways revocation_hash remote local payment_hash n)
unfolding listing rule_of check_multi_sig number_of minimal_bytes_of digits number_push received_by
received-number revocation_hash remote local payment_hash n k l m o r p lb nb = rw (m, o, r, p, lb, k, l, nb, k) refl

pub received-listed : (revocation_hash remote local payment_hash : List ℕ) (expiry_height : ℕ) → expiry_height < 2 ^ 32 → is_key remote ≡ true → is_key local ≡ true → length remote ≡ 33 → length local ≡ 33 → length revocation_hash ≡ 20 → length payment_hash ≡ 20 → listing (received revocation_hash remote local payment_hash expiry_height) ≡ Ok (received_ways revocation_hash remote local payment_hash expiry_height)
unfolding received_by
received-listed revocation_hash remote local payment_hash expiry_height h k l m o r p =
    by_push (λ op. listing (received_by op revocation_hash remote local payment_hash) ≡ Ok (received_ways revocation_hash remote local payment_hash expiry_height)) expiry_height h
    (λ b s nb. received-item revocation_hash remote local payment_hash b expiry_height k l m o r p (not_above (length b) (omega arith)) nb)
    (λ a b nb. received-number revocation_hash remote local payment_hash expiry_height k l m o r p (not_above (80 + expiry_height) (omega arith)) nb)
