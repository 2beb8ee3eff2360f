-- The penalties of a commitment that a secret revokes.
use Rattle.std.proofs.Common.{◌≡◌, ℕ, List, refl}
use Rattle.keys.specs.Derivation.{point_of}
use Rattle.terms.specs.declared.sides.Side.{Side}
use Rattle.terms.specs.declared.agreement.Terms.{Terms}
use Rattle.terms.specs.declared.views.View.{View}
use Rattle.commit.specs.Commitments.{commitment_of}
use Rattle.penalty.specs.declared.states.RevokedState.{RevokedState}
use Rattle.penalty.specs.States.{HasParts}
use Rattle.penalty.specs.Claimable.{claimable_of}
use Rattle.book.specs.Penalties.{claimable_in}

pub same_penalties : (terms : Terms) (view : View) (owner : Side) (number : ℕ) (secret : List ℕ) (state : RevokedState) → HasParts terms view owner number secret state
    → claimable_of state ≡ claimable_in (commitment_of terms view owner number (point_of secret))
unfolding claimable_of claimable_in
same_penalties terms view owner number secret state h = rw (h.terms_is, h.view_is, h.owner_is, h.number_is, h.secret_is) refl
