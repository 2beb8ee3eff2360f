-- What is told of a revoked commitment whose penalties are not kept.
use Rattle.std.proofs.Common.{◌≡◌, ℕ, Bool, true, false, List, Some, None, Result, Ok, Err, length, refl, subst, ◌∙◌}
use Rattle.std.specs.Prelude.{slice_get, IfOk}
use Rattle.terms.specs.declared.sides.Side.{Side}
use Rattle.terms.specs.declared.agreement.Terms.{Terms}
use Rattle.terms.specs.Sides.{other}
use Rattle.claim.specs.Claims.{ClaimParts}
use Rattle.penalty.specs.declared.states.RevokedState.{RevokedState}
use Rattle.penalty.specs.Claimable.{Claimable, claimable_of}
use Rattle.penalty.specs.Sets.{AreClaimsOn}
use Rattle.penalty.specs.States.{HasParts}
use Rattle.channel.specs.declared.commitments.CommitmentState.{CommitmentState}
use Rattle.channel.specs.Numbered.{AreNumbered}
use Rattle.channel.specs.States.{State}
use Rattle.book.specs.declared.errors.KeepError.TheVariants.{NotRevoked, AlreadyKept}
use Rattle.book.specs.Penalties.{revoked_contents, is_penalty_set}
use Rattle.book.specs.Books.{ChannelBook, is_kept}
use Rattle.book.specs.Kept.{IsBeside}
use Rattle.book.specs.Revoked.{early_keep_refusal, IsStateAt, IsRevokedIn}
use Rattle.book.proofs.Judged.{same_penalties}
use Rattle.book.proofs.Keeping.{penalties_are, inside, flagged, less_true, past_flags}
use Rattle.book.proofs.Sets.{penalty_sets_are_exact}

-- a commitment stands at its number
pub state_is : {E : Type 0} (s : State) (terms : Terms) (side : Side) (many n : ℕ) (cs : List CommitmentState) (c : CommitmentState) (secret : List ℕ) (r : Result RevokedState E) → AreNumbered terms side many cs
    → slice_get cs n ≡ Some c → slice_get s.signed n ≡ Some c → slice_get s.secrets n ≡ Some secret → IfOk r (HasParts s.held.terms c.view (other s.held.side) c.number secret) → IfOk r (IsStateAt s n)
state_is s terms side many n cs c secret (Ok state) numbered there found revealed parts = record {
  commitment = c;
  secret = secret;
  signed = found;
  number_is = (numbered.each n c there).number;
  revealed = revealed;
  parts = parts;
}
state_is s terms side many n cs c secret (Err e) numbered there found revealed parts = tt

-- claims on what a state lets claim are the penalty set of its number
pub sets_are : (s : State) (n : ℕ) (state : RevokedState) → IsStateAt s n state → (claims : List ClaimParts) → AreClaimsOn (claimable_of state) claims → is_penalty_set s n claims ≡ true
sets_are s n state is claims full =
    let c = is.commitment in
    penalties_are s n claims c is.secret is.signed is.revealed
    ∙ penalty_sets_are_exact.found (revoked_contents s c is.secret) claims
    (subst (λ (os : List Claimable). AreClaimsOn os claims) (same_penalties s.held.terms c.view (other s.held.side) c.number is.secret state is.parts) full)

-- ---- by the flags beside a channel

module _ (ch : ChannelBook) (flags : List Bool) (below n : ℕ) (b : IsBeside ch flags below) where
  pub not_revoked_yet : slice_get flags n ≡ None → early_keep_refusal n (Some ch) ≡ Some NotRevoked
  not_revoked_yet none =
      let e = past_flags ch flags below n b none in
      rw e refl

  pub kept_before : (flag : Bool) → slice_get flags n ≡ Some flag → flag ≡ true → early_keep_refusal n (Some ch) ≡ Some AlreadyKept
  kept_before flag there is =
      let e = less_true n (length ch.state.secrets) (inside ch flags below n flag b there) in
      let f : is_kept ch.kept n ≡ true = flagged ch flags below n flag b there ∙ is in
      rw (e, f) refl

  pub revoked_in : (flag : Bool) (state : RevokedState) → slice_get flags n ≡ Some flag → flag ≡ false → IsStateAt ch.state n state → IsRevokedIn n (Some ch) state
  revoked_in flag state there is at = record {
    ch = ch;
    there = refl;
    revoked = less_true n (length ch.state.secrets) (inside ch flags below n flag b there);
    unkept = flagged ch flags below n flag b there ∙ is;
    state_is = at;
    sets = sets_are ch.state n state at;
  }
