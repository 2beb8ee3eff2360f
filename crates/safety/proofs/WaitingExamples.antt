-- A claim by the delayed key on to_local, with a delay of 144 blocks.
use Rattle.std.proofs.Common.{◌≡◌, ℕ, ◌≤◌, true, false, List, [], ◌∷◌, Some, None, refl, arith, lit≤}
use Rattle.tx.specs.declared.input.OutPoint.{OutPoint}
use Rattle.tx.specs.declared.input.TxIn.{TxIn}
use Rattle.tx.specs.Fields.{Transaction}
use Rattle.keys.specs.declared.compressed.Key.{Key}
use Rattle.terms.specs.declared.numbers.Obscured.{Obscured}
use Rattle.chain.specs.Blocks.{Coin}
use Rattle.chain.specs.Locks.{is_old_enough}
use Rattle.chain.specs.Checks.{coin_refusal}
use Rattle.claim.specs.declared.parts.Place.{Place}
use Rattle.claim.specs.declared.parts.Shell.TheVariants.{Open}
use Rattle.claim.specs.declared.parts.Slot.TheVariants.{Sig, Exact}
use Rattle.claim.specs.Claims.{ClaimParts, FitsClaim, sequence_of}
use Rattle.commit.specs.Keys.{KeyBytes}
use Rattle.commit.specs.Outputs.{to_local_output}
use Rattle.commit.specs.Commitments.{Contents, tx_output, transaction_of}
use Rattle.forms.specs.Forms.{to_local_form}
use Rattle.penalty.specs.Claimable.{place_in}
use Rattle.penalty.specs.Sets.{claimed_by}
use Rattle.resolve.specs.Due.{delayed_on}
use Rattle.safety.proofs.Waiting.{delayed_waits}

-- a coin of the block of height 100 is spent from height 244 on, as two blocks of a lesser delay show
heights : (is_old_enough 244 2 144 100 ≡ true) × (is_old_enough 243 2 144 100 ≡ false) × (is_old_enough 100 2 0 100 ≡ true) × (is_old_enough 100 2 1 100 ≡ false) × (is_old_enough 243 1 144 100 ≡ true)
heights = (refl, refl, refl, refl, refl)

module _ (funding : OutPoint) (hidden : Obscured) (revocation delayed : Key) (other : List ℕ) where
  abbrev k : KeyBytes
  k = record { revocation = revocation.bytes; delayed = delayed.bytes; local_htlc = other; remote_htlc = other; remote = other }

  abbrev commitment : Contents
  commitment = record { funding = funding; hidden = hidden; keys = k; delay_blocks = 144; feerate_per_kw = 1000; outputs = to_local_output 144 k 58000 ∷ [] }

  abbrev place : Place
  place = place_in (transaction_of commitment) 0 (tx_output (to_local_output 144 k 58000))

  -- the empty item, and the delayed key's signature
  abbrev claim : ClaimParts
  claim = record { ways = to_local_form revocation.bytes 144 delayed.bytes; index = 1; slots = Exact (record { item = []; short = lit≤ tt }) ∷ Sig delayed ∷ []; place = place; shell = Open }

  claims_it : claimed_by claim ≡ delayed_on commitment place
  claims_it = refl

  sequence : sequence_of claim ≡ 144
  sequence = refl

  -- so whatever fits it is in a block of height 244 or above, where the coin's block has height 100
  waits : (height : ℕ) (t : Transaction) (input : TxIn) (coin : Coin) → coin.height ≡ 100 → FitsClaim claim t input → coin_refusal height t input (Some coin) ≡ None → 244 ≤ height
  waits height t input coin at f passes = let w = delayed_waits commitment (omega arith) place claim claims_it height t input coin f passes in omega (arith, at, w)
