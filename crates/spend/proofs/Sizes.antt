-- The number of bytes of an output.
use Rattle.std.proofs.Common.{◌≡◌, ◌≤◌, ℕ, ◌+◌, ◌^◌, ◌++◌, Bool, true, false, nat_lt, if◌then◌else◌, List, [], ◌∷◌, length, refl, arith}
use Rattle.std.proofs.lemmas.Bool.{lt-ltb}
use Rattle.std.proofs.lemmas.List.{length-append}
use Rattle.tx.specs.Spelling.{number, compact_size, bytes_with_length, output}
use Rattle.spend.specs.Dust.{output_size}

prefixed : (n : ℕ) → n ≤ 10000 → length (compact_size n) ≡ (if nat_lt n 0xfd then 1 else 3)
unfolding compact_size number
prefixed n h = rw (lt-ltb n (2 ^ 16) (omega (arith, h))) (go (nat_lt n 0xfd))
  where
    go : (small : Bool) → length (if small then n ∷ [] else 0xfd ∷ number 2 n) ≡ (if small then 1 else 3)
    go true = refl
    go false = refl

pub output_sized : (script : List ℕ) (prefix : ℕ) → length script ≤ 10000 → prefix ≡ (if nat_lt (length script) 0xfd then 1 else 3) → 8 + prefix + length script ≡ output_size script
unfolding output bytes_with_length number
output_sized script prefix h is =
    let p = prefixed (length script) h in
    omega (arith, length-append (number 8 0) (compact_size (length script) ++ script), length-append (compact_size (length script)) script, p, is)
