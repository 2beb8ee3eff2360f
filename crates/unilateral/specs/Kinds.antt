-- The kinds of claims on HTLCs, and when they are accepted.
use Rattle.std.specs.Prelude.{◌≡◌, ℕ, Bool, true, not, List, map, is_ok}
use Rattle.std.specs.Str.{bytes_eq}
use Rattle.digest.specs.Hash.{hash160}
use Rattle.digest.specs.Ripemd160.{ripemd160}
use Rattle.paths.specs.Listing.{CheckedScript}
use Rattle.claim.specs.declared.parts.Slot.{Slot}
use Rattle.claim.specs.declared.parts.Place.{Place}
use Rattle.claim.specs.declared.parts.Shell.TheVariants.{Open}
use Rattle.claim.specs.Judgement.{judgement_of}
use Rattle.forms.specs.declared.kinds.ClaimKind.{ClaimKind}
use Rattle.forms.specs.declared.kinds.ClaimKind.TheVariants.{DirectPreimage, DirectTimeout, HtlcTimeout, HtlcSuccess}
use Rattle.forms.specs.Claims.{path_taken_by}
use Rattle.forms.specs.Fillings.{filling_of, fillings_of}
use Rattle.commit.specs.declared.fees.Direction.{Direction}
use Rattle.commit.specs.declared.fees.Direction.TheVariants.{Offered, Received}
use Rattle.commit.specs.declared.derived.CommitmentKeys.{CommitmentKeys}
use Rattle.commit.specs.Keys.{KeyBytes}
use Rattle.resolve.specs.Due.{can_time_out}

-- the kind of claim of the owner's peer
abbrev pub direct_kind_of : CommitmentKeys → Direction → List ℕ → ClaimKind
direct_kind_of k Offered hash = DirectPreimage hash k.remote_htlc
direct_kind_of k Received hash = DirectTimeout k.remote_htlc

-- the kind of claim of the owner, with the peer's token
abbrev pub second_stage_kind_of : CommitmentKeys → Direction → List ℕ → List ℕ → ClaimKind
second_stage_kind_of k Offered hash token = HtlcTimeout k.local_htlc token
second_stage_kind_of k Received hash token = HtlcSuccess hash k.local_htlc token

-- such claims are neither of the two that are refused
abbrev pub can_pay : KeyBytes → List ℕ → Bool
can_pay k hash = not (bytes_eq (hash160 k.revocation) (ripemd160 hash))

abbrev pub is_direct : KeyBytes → Direction → List ℕ → Bool
is_direct k Offered hash = can_pay k hash
is_direct k Received hash = can_time_out k

abbrev pub is_second_stage : KeyBytes → Direction → List ℕ → Bool
is_second_stage k Offered hash = can_time_out k
is_second_stage k Received hash = can_pay k hash

-- whatever fills the slots as the kind does is accepted on the form, in any transaction
abbrev pub IsOpenTo : ClaimKind → CheckedScript → Place → Type 0
IsOpenTo kind form place = (slots : List Slot) → map filling_of slots ≡ fillings_of kind
    → is_ok (judgement_of form (path_taken_by kind) slots place Open) ≡ true
