-- What stays true of a channel besides its updates.
use Rattle.std.specs.Prelude.{◌≡◌, ℕ, ◌+◌, ◌≤◌, Bool, true, false, List, [], length, map, Contains}
use Rattle.keys.specs.declared.bases.Base.TheVariants.{Funding, Htlc}
use Rattle.keys.specs.Derivation.{base_key}
use Rattle.keys.specs.Rights.{Rights}
use Rattle.terms.specs.declared.sides.Side.{Side}
use Rattle.terms.specs.declared.agreement.Terms.{Terms}
use Rattle.terms.specs.Agreement.{party}
use Rattle.terms.specs.Sides.{other}
use Rattle.channel.specs.declared.limits.TheConstants.{LAST_NUMBER}
use Rattle.channel.specs.declared.commitments.CommitmentState.{CommitmentState}
use Rattle.updates.specs.declared.messages.Tokens.{Tokens}
use Rattle.channel.specs.States.{State}
use Rattle.channel.specs.Tokens.{peer_tokens}
use Rattle.channel.specs.Rights.{rights_of}
use Rattle.channel.specs.Numbered.{AreNumbered}

-- the base keys of a side by which it signs are those of its seed
pub record HasBases (terms : Terms) (side : Side) (seed : List ℕ) : Type 0 where
  pub funding : (party side terms).bases.funding.bytes ≡ base_key seed Funding
  pub htlc : (party side terms).bases.htlc.bytes ≡ base_key seed Htlc

-- a signer that has learnt nothing yet, with a side's base keys
pub record CanOpen (terms : Terms) (side : Side) (signer : Rights) : Type 0 where
  pub bases : HasBases terms side signer.seed
  pub no_points : signer.points ≡ []
  pub no_secrets : signer.secrets ≡ []

-- two lists have the same elements
pub record HaveSame (xs ys : List (List ℕ)) : Type 0 where
  pub left : (p : List ℕ) → Contains xs p → Contains ys p
  pub right : (p : List ℕ) → Contains ys p → Contains xs p

abbrev pub one_if : Bool → ℕ
one_if true = 1
one_if false = 0

-- if the flag is true, a commitment at the point is among the signed ones
abbrev pub IsSignedIf : Bool → List ℕ → List CommitmentState → Type 0
IsSignedIf true point signed = Contains (map (λ c. c.point.bytes) signed) point
IsSignedIf false point signed = Unit {0}

-- the signer knows what the state says, and the peer's next commitment is signed while its revocation is awaited. No number exceeds the last. The store
-- has a secret for each revoked commitment, the commitments of both sides stand by number, and the tokens kept are the peer's on one's own
pub record IsChannel (s : State) (r : Rights) (tokens : List Tokens) : Type 0 where
  pub bases : HasBases s.held.terms s.held.side s.seed
  pub points : HaveSame r.points (rights_of s).points
  pub count : length r.points ≡ s.number + s.peer_number + 4
  pub learnt : r.secrets ≡ s.secrets
  pub awaited : IsSignedIf s.awaiting s.next_point.bytes s.signed
  pub number : s.number ≤ LAST_NUMBER
  pub peer_number : s.peer_number + one_if s.awaiting ≤ LAST_NUMBER
  pub secrets : length s.secrets ≡ s.peer_number
  pub mine : AreNumbered s.held.terms s.held.side (s.number + 1) s.mine
  pub signed : AreNumbered s.held.terms (other s.held.side) (s.peer_number + 1 + one_if s.awaiting) s.signed
  pub kept : tokens ≡ map (peer_tokens s.held.terms) s.mine
