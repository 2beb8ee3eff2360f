-- Commitments of either opener: the mask of their numbers (BOLT 3, "Commitment Transaction"), and who pays the fee.
use Rattle.std.proofs.Common.{◌≡◌, ℕ, map, List, [], ◌∷◌, Option, Some, replicate, refl, lit≤, lit<}
use Rattle.std.specs.Prelude.{IsTrue}
use Rattle.sha2.specs.Sha256.{sha256, digest_bytes, hash_after, compress, rounds, schedule, first_words}
use Rattle.script.specs.Token.{is_key}
use Rattle.tx.specs.declared.input.OutPoint.{OutPoint}
use Rattle.keys.specs.declared.compressed.Key.{Key}
use Rattle.terms.specs.declared.numbers.Obscured.{Obscured}
use Rattle.terms.specs.declared.sides.Side.{Side}
use Rattle.terms.specs.declared.sides.Side.TheVariants.{A, B}
use Rattle.terms.specs.declared.agreement.Party.{Party}
use Rattle.terms.specs.declared.agreement.Terms.{Terms}
use Rattle.terms.specs.declared.views.View.{View}
use Rattle.terms.specs.Numbers.{mask_of}
use Rattle.commit.specs.Amounts.{amounts_of}
use Rattle.commit.specs.Commitments.{commitment_of}

-- 02 and a byte 32 times: a1 for the payment base key of A, b1 for that of B
form_of_a : IsTrue (is_key (2 ∷ replicate 32 0xa1))
unfolding is_key
form_of_a = refl

form_of_b : IsTrue (is_key (2 ∷ replicate 32 0xb1))
unfolding is_key
form_of_b = refl

abbrev key_of_a : Key
key_of_a = record { bytes = 2 ∷ replicate 32 0xa1; form = form_of_a }

abbrev key_of_b : Key
key_of_b = record { bytes = 2 ∷ replicate 32 0xb1; form = form_of_b }

-- every other base key is any
module _ (funding : OutPoint) (any : Key) where
  abbrev side : Key → ℕ → Party
  side payment start_msat = record {
    dust_sat = 546;
    delay_blocks = 144;
    minimum_msat = 0;
    start_msat = start_msat;
    bases = record { funding = any; payment = payment; delayed = any; htlc = any; revocation = any };
  }

  abbrev opened_by : Side → Terms
  opened_by opener = record { funding = funding; capacity_sat = 100000; opener = opener; feerate_per_kw = 1000; a = side key_of_a 60000000; b = side key_of_b 40000000; limited = lit≤ tt; whole = refl; short_a = lit< tt; short_b = lit< tt }

  abbrev view : View
  view = record { a = record { balance_msat = 60000000; offered = [] }; b = record { balance_msat = 40000000; offered = [] }; feerate_per_kw = 1000 }

  -- the low 48 bits of SHA-256 of the opener's key, then the other side's
  masks : map (λ opener. mask_of (opened_by opener)) (A ∷ B ∷ []) ≡ 0x17ba063e082c ∷ 0x29c9cdcba925 ∷ []
  unfolding mask_of sha256 digest_bytes hash_after compress rounds schedule first_words
  masks = refl

  -- the lock time and the sequence of number 43, on either side's commitment
  abbrev hidden : Side → Side → List ℕ → Obscured
  hidden opener owner point = (commitment_of (opened_by opener) view owner 43 point).hidden

  numbers : (point : List ℕ) → (hidden A A point ≡ record { lock_time = 0x203e0807; sequence = 0x8017ba06 })
      × (hidden A B point ≡ record { lock_time = 0x203e0807; sequence = 0x8017ba06 })
      × (hidden B A point ≡ record { lock_time = 0x20cba90e; sequence = 0x8029c9cd })
      × (hidden B B point ≡ record { lock_time = 0x20cba90e; sequence = 0x8029c9cd })
  unfolding commitment_of mask_of sha256 digest_bytes hash_after compress rounds schedule first_words
  numbers point = (refl, refl, refl, refl)

  -- what to_local and to_remote get of A's commitment and of B's: only the opener pays the 724 satoshis
  abbrev paid : Side → Side → Option ℕ × Option ℕ
  paid opener owner = let amounts = amounts_of (opened_by opener) view owner in (amounts.to_local, amounts.to_remote)

  fees : (map (paid A) (A ∷ B ∷ []) ≡ (Some 59276, Some 40000) ∷ (Some 40000, Some 59276) ∷ [])
      × (map (paid B) (A ∷ B ∷ []) ≡ (Some 60000, Some 39276) ∷ (Some 39276, Some 60000) ∷ [])
  fees = (refl, refl)
