-- Transactions of one id, and of two.
use Rattle.std.proofs.Common.{◌≡◌, ℕ, ◌<◌, List, [], ◌∷◌, ◌++◌, replicate, refl, ap, inl, inr, arith}
use Rattle.std.specs.Prelude.{◌⊎◌}
use Rattle.tx.specs.Fields.{Transaction, KeepsLimits, unsigned_transaction}
use Rattle.tx.specs.Spelling.{number, compact_size, bytes_with_length, outpoint, input, output, body, stripped_spelling, transaction_id}
use Rattle.tx.proofs.Witnesses.{same_id}
use Rattle.digest.specs.Hash.{sha256d, Collide}
use Rattle.safety.proofs.Ids.{one_id}

-- it spends output 3 of a transaction, and pays 1,000 satoshis to the hash of a key
abbrev spender : List (List ℕ) → ℕ → Transaction
spender witness lock_time = record {
  version = 2;
  inputs = record { outpoint = record { txid = replicate 32 0xab; index = 3 }; sequence = 144; witness = witness } ∷ [];
  outputs = record { value = 1000; script = 0x00 ∷ 0x14 ∷ replicate 20 0x11 } ∷ [];
  lock_time = lock_time;
}

limits : (lock_time : ℕ) → lock_time < 256 → KeepsLimits (spender [] lock_time)
limits lock_time l = record {
  version = omega arith;
  some_input = omega arith;
  inputs = record { count = omega arith; each = (record { txid = refl; index = omega arith; sequence = omega arith; witness = record { count = omega arith; each = tt } }, tt) };
  outputs = record { count = omega arith; each = (record { value = omega arith; script = omega arith }, tt) };
  lock_time = omega (arith, l);
}

-- the same transaction with two witnesses has one id
witnesses : transaction_id (spender ((1 ∷ []) ∷ []) 7) ≡ transaction_id (spender ([] ∷ (2 ∷ []) ∷ []) 7)
witnesses = same_id (spender ((1 ∷ []) ∷ []) 7) (spender ([] ∷ (2 ∷ []) ∷ []) 7) refl

-- the bytes that are hashed for it: version 2, its input, its output, and the lock time 7
bytes : stripped_spelling (spender ((1 ∷ []) ∷ []) 7)
    ≡ (2 ∷ 0 ∷ 0 ∷ 0 ∷ 1 ∷ []) ++ replicate 32 0xab ++ (3 ∷ 0 ∷ 0 ∷ 0 ∷ 0 ∷ 0x90 ∷ 0 ∷ 0 ∷ 0 ∷ 1 ∷ 0xe8 ∷ 3 ∷ 0 ∷ 0 ∷ 0 ∷ 0 ∷ 0 ∷ 0 ∷ 0x16 ∷ 0x00 ∷ 0x14 ∷ [])
    ++ replicate 20 0x11 ++ (7 ∷ 0 ∷ 0 ∷ 0 ∷ [])
unfolding stripped_spelling body bytes_with_length compact_size number input outpoint output
bytes = refl

-- another lock time makes other bytes, so one id of both would be a collision of these bytes
lock_times : transaction_id (spender [] 7) ≡ transaction_id (spender [] 8) → Collide sha256d (stripped_spelling (spender [] 7)) (stripped_spelling (spender [] 8))
lock_times e = by (one_id (spender [] 7) (spender [] 8) (limits 7 (omega arith)) (limits 8 (omega arith)) e)
  where
    by : (unsigned_transaction (spender [] 7) ≡ unsigned_transaction (spender [] 8)) ⊎ Collide sha256d (stripped_spelling (spender [] 7)) (stripped_spelling (spender [] 8)) → Collide sha256d (stripped_spelling (spender [] 7)) (stripped_spelling (spender [] 8))
    by (inl s) = absurd (let l : 7 ≡ 8 = ap (λ (t : Transaction). t.lock_time) s in omega (arith, l))
    by (inr c) = c
