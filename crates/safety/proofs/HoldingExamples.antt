-- What the rules of a channel are for. A side that revokes the commitment with which it closed keeps them no more: the token that it handed out is still there, and the commitment is no closer. And of two channels of
-- one seed with one peer, the revocation key of the newest commitment of the one is that of a revoked commitment of the other.
use Rattle.std.proofs.Common.{◌≡◌, ◌≢◌, ℕ, zero, suc, Bool, true, false, List, [], ◌∷◌, ◌++◌, length, Some, None, refl, sym, ap, ◌∙◌, arith}
use Rattle.std.specs.Prelude.{slice_get}
use Rattle.std.specs.List.{Contains, flat_map}
use Rattle.std.proofs.lemmas.Bool.{false≢true}
use Rattle.std.proofs.lemmas.Option.{same_Some, none-some}
use Rattle.std.proofs.lemmas.List.Elements.{Contains-append_right}
use Rattle.keys.specs.declared.compressed.Key.{Key}
use Rattle.keys.specs.Derivation.{revocation_key}
use Rattle.terms.specs.declared.agreement.Terms.{Terms}
use Rattle.terms.specs.declared.views.View.{View}
use Rattle.terms.specs.Agreement.{party}
use Rattle.terms.specs.Sides.{other}
use Rattle.commit.specs.Keys.{keys_of}
use Rattle.commit.specs.Commitments.{commitment_of}
use Rattle.channel.specs.declared.commitments.CommitmentState.{CommitmentState}
use Rattle.channel.specs.Points.{point_at}
use Rattle.channel.specs.States.{State}
use Rattle.channel.specs.Tokens.{contents_of}
use Rattle.safety.specs.Holdings.{Holding, KeepsRules}
use Rattle.safety.specs.Given.{with_commitment, with_release, own_token, given_in}
use Rattle.safety.specs.Premises.{newest_revocation}
use Rattle.safety.specs.Closers.{IsCloser, revoked, newest, next, own}
use Rattle.safety.proofs.Slots.{contains_first}

-- ---- a revocation after one's own close

module _ (s : State) (first second theirs : CommitmentState) where
  -- it closed with its commitment 0, and then took a signature for number 1
  abbrev state : State
  state = record s { awaiting = false; number = 1; peer_number = 0; secrets = []; mine = first ∷ second ∷ []; signed = theirs ∷ [] }

  abbrev closed_too_early : Holding
  closed_too_early = record { state = state; releases = []; closed = Some 0 }

  still_given : Contains (given_in closed_too_early) (own_token closed_too_early first)
  still_given =
      Contains-append_right (flat_map (with_commitment s.held.terms) (theirs ∷ []) ++ flat_map with_release []) (own_token closed_too_early first ∷ []) (own_token closed_too_early first)
      (contains_first (own_token closed_too_early first) [])

  no_closer : first ≢ theirs → IsCloser closed_too_early first → ⊥
  no_closer n (revoked zero there r) = n (same_Some first theirs (sym there))
  no_closer n (revoked (suc i) there r) = none-some first there
  no_closer n (newest there) = n (same_Some first theirs (sym there))
  no_closer n (next awaits there) = false≢true awaits
  no_closer n (own closed there) = let e : 0 ≡ 1 = same_Some 0 1 closed in omega (arith, e)

  breaks_rules : KeepsRules closed_too_early → ⊥
  breaks_rules k = let e : 0 ≡ 1 = k.newest 0 refl in omega (arith, e)

-- ---- two channels of one seed

module _ (s : State) (others : Terms) (view : View) where
  abbrev channel : Holding
  channel = record { state = s; releases = []; closed = None }

  -- the commitment of this number in the other channel
  abbrev numbered : CommitmentState
  numbered = record { view = view; owner = s.held.side; number = s.number; point = point_at s.seed s.number }

  -- once the other channel revoked it, its peer may sign with the key that nobody may know in this one
  one_key : (party (other s.held.side) s.held.terms).bases.revocation ≡ (party (other s.held.side) others).bases.revocation → newest_revocation channel ≡ (contents_of others numbered).keys.revocation
  unfolding commitment_of keys_of
  one_key e = ap (λ (k : Key). revocation_key k.bytes (point_at s.seed s.number).bytes) e
