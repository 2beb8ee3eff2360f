-- Revoked states, and the numbers of the refusals.
use Rattle.std.specs.Prelude.{◌≡◌, ℕ, List}
use Rattle.terms.specs.declared.sides.Side.{Side}
use Rattle.terms.specs.declared.agreement.Terms.{Terms}
use Rattle.terms.specs.declared.views.View.{View}
use Rattle.penalty.specs.declared.errors.StateError.{StateError}
use Rattle.penalty.specs.declared.errors.StateError.TheVariants.{TooManyHtlcs, ExpiryTooLarge, WrongTotal}
use Rattle.penalty.specs.declared.states.RevokedState.{RevokedState}

-- a state has these values
pub record HasParts (terms : Terms) (view : View) (owner : Side) (number : ℕ) (secret : List ℕ) (state : RevokedState) : Type 0 where
  pub terms_is : state.terms ≡ terms
  pub view_is : state.view ≡ view
  pub owner_is : state.owner ≡ owner
  pub number_is : state.number ≡ number
  pub secret_is : state.secret ≡ secret

abbrev pub refusal_number : StateError → ℕ
refusal_number TooManyHtlcs = 1
refusal_number ExpiryTooLarge = 2
refusal_number WrongTotal = 3
