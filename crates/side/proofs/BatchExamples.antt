-- Which claims are released together, and by which batch: small cases, worked out by hand.
use Rattle.std.proofs.Common.{◌≡◌, ℕ, true, false, List, [], ◌∷◌, map, Some, None, refl}
use Rattle.sighash.specs.Programs.{key_hash_program}
use Rattle.claim.specs.Claims.{ClaimParts}
use Rattle.side.specs.declared.due.DueClaim.{DueClaim}
use Rattle.side.specs.declared.batches.BatchError.TheVariants.{MixedChannels, OverValue}
use Rattle.side.specs.Batches.{are_of, value_of, batch_refusal, batch_error_number, each_once, claims_in, preimages_for, output_for}

numbers : map batch_error_number (MixedChannels ∷ OverValue ∷ []) ≡ 1 ∷ 2 ∷ []
numbers = refl

module _ (x y : ClaimParts) where
  -- a claim in a channel, worth `value` satoshis
  abbrev due : ℕ → ℕ → DueClaim
  due channel value = record { channel = channel; claim = record x { place = record x.place { value = value } }; preimages = [] }

  one_channel : map (are_of 3) ([] ∷ (due 3 1 ∷ []) ∷ (due 4 1 ∷ []) ∷ (due 3 1 ∷ due 3 2 ∷ []) ∷ (due 3 1 ∷ due 4 2 ∷ []) ∷ (due 4 1 ∷ due 3 2 ∷ []) ∷ [])
      ≡ true ∷ true ∷ false ∷ true ∷ false ∷ false ∷ []
  one_channel = refl

  worth : map value_of ([] ∷ (due 3 5 ∷ []) ∷ (due 3 5 ∷ due 4 7 ∷ due 3 11 ∷ []) ∷ []) ≡ 0 ∷ 5 ∷ 23 ∷ []
  worth = refl

  -- 21,000,000 bitcoins, and one satoshi more; claims of two channels are reported first
  refusals : map (batch_refusal 3)
      ((due 3 5 ∷ due 3 7 ∷ []) ∷ (due 3 2100000000000000 ∷ []) ∷ (due 3 2100000000000000 ∷ due 3 1 ∷ []) ∷ (due 3 5 ∷ due 4 7 ∷ []) ∷ (due 4 2100000000000000 ∷ due 3 1 ∷ []) ∷ [])
      ≡ None ∷ None ∷ Some OverValue ∷ Some MixedChannels ∷ Some MixedChannels ∷ []
  refusals = refl

  -- the claims in order, and the preimages of both in order, each once
  abbrev wanting : List DueClaim
  wanting = record { channel = 3; claim = y; preimages = (1 ∷ 2 ∷ []) ∷ (3 ∷ []) ∷ [] } ∷ record { channel = 3; claim = x; preimages = (3 ∷ []) ∷ (4 ∷ []) ∷ (1 ∷ 2 ∷ []) ∷ [] } ∷ []

  claims : claims_in wanting ≡ y ∷ x ∷ []
  claims = refl

  preimages : preimages_for wanting ≡ (1 ∷ 2 ∷ []) ∷ (3 ∷ []) ∷ (4 ∷ []) ∷ []
  preimages = refl

  -- the whole value goes to the key's program
  paid : (key : List ℕ) → output_for key (due 3 5 ∷ due 3 7 ∷ []) ≡ record { value = 12; script = key_hash_program key }
  paid key = refl

values_once : map each_once ([] ∷ ((7 ∷ []) ∷ (7 ∷ []) ∷ []) ∷ ((7 ∷ []) ∷ (7 ∷ 8 ∷ []) ∷ (8 ∷ 7 ∷ []) ∷ (7 ∷ []) ∷ (7 ∷ 8 ∷ []) ∷ []) ∷ [])
    ≡ [] ∷ ((7 ∷ []) ∷ []) ∷ ((7 ∷ []) ∷ (7 ∷ 8 ∷ []) ∷ (8 ∷ 7 ∷ []) ∷ []) ∷ []
values_once = refl
