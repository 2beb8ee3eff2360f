-- The batch by which due claims are released.
use Rattle.std.specs.Prelude.{ℕ, ◌+◌, ◌==◌, Bool, true, ◌&&◌, not, nat_lt, List, [], ◌∷◌, ◌++◌, map, fold, Option, None, if◌then◌else◌}
use Rattle.std.specs.List.{list_any, flat_map}
use Rattle.std.specs.Str.{bytes_eq}
use Rattle.sighash.specs.Programs.{key_hash_program}
use Rattle.tx.specs.Parts.{Output}
use Rattle.tx.specs.declared.limits.TheConstants.{MAX_VALUE}
use Rattle.claim.specs.Claims.{ClaimParts}
use Rattle.book.specs.Replies.{if_so}
use Rattle.side.specs.declared.due.DueClaim.{DueClaim}
use Rattle.side.specs.declared.batches.BatchError.{BatchError}
use Rattle.side.specs.declared.batches.BatchError.TheVariants.{MixedChannels, OverValue}

-- ---- which claims are released together

-- whether claims are all of this channel
abbrev pub are_of : ℕ → List DueClaim → Bool
are_of c [] = true
are_of c (d ∷ due) = d.channel == c && are_of c due

-- what claims are worth together, in satoshis
abbrev pub value_of : List DueClaim → ℕ
value_of [] = 0
value_of (d ∷ due) = d.claim.place.value + value_of due

-- why claims of a channel are not released together: MixedChannels, OverValue
abbrev pub batch_refusal : ℕ → List DueClaim → Option BatchError
batch_refusal c due = if_so (not (are_of c due)) MixedChannels (if_so (nat_lt MAX_VALUE (value_of due)) OverValue None)

abbrev pub batch_error_number : BatchError → ℕ
batch_error_number MixedChannels = 1
batch_error_number OverValue = 2

-- ---- the batch that releases them

-- appends a value, unless it stands there already
abbrev pub with_new : List (List ℕ) → List ℕ → List (List ℕ)
with_new xs x = if list_any (λ y. bytes_eq y x) xs then xs else xs ++ x ∷ []

abbrev pub each_once : List (List ℕ) → List (List ℕ)
each_once xs = fold with_new [] xs

abbrev pub claims_in : List DueClaim → List ClaimParts
claims_in due = map (λ d. d.claim) due

-- the preimages that claims need
abbrev pub preimages_for : List DueClaim → List (List ℕ)
preimages_for due = each_once (flat_map (λ d. d.preimages) due)

-- the output that pays the claims' whole value to the hash of a key; a claim with a fixed transaction ignores it
abbrev pub output_for : List ℕ → List DueClaim → Output
output_for key due = record { value = value_of due; script = key_hash_program key }
