-- What two honest peers can rely on, and what one side can rely on, whoever its peer is.
use Rattle.std.specs.Prelude.{◌≡◌, ℕ, List, ◌∷◌, ◌++◌, None}
use Rattle.terms.specs.declared.agreement.Terms.{Terms}
use Rattle.updates.specs.Shares.{IsSoundIn}
use Rattle.channel.specs.declared.commitments.CommitmentState.{CommitmentState}
use Rattle.channel.specs.declared.messages.Message.{Message}
use Rattle.channel.specs.States.{Signing, State, receive_refusal}
use Rattle.channel.specs.Peers.{World, IsReached, IsLived}

-- in each view of a state no balance is below 0, and balances and HTLCs sum to 1000 times the capacity
pub record IsSoundState (s : State) : Type 0 where
  pub newest : IsSoundIn s.held s.held.own.with_sender s.held.theirs.with_receiver  -- of this side's newest commitment
  pub next : IsSoundIn s.held s.held.own.past_receiver s.held.theirs.known  -- of the one that the peer's next signature is for
  pub peers : IsSoundIn s.held s.held.own.past_receiver s.held.theirs.settled  -- of the peer's newest
  pub peers_next : IsSoundIn s.held s.held.own.with_receiver s.held.theirs.with_sender  -- of the one after it, where it is signed
  pub to_sign : IsSoundIn s.held s.held.own.known s.held.theirs.past_receiver  -- of the one to sign next

-- the commitments that one accepted are the first ones that the other signed
abbrev pub FirstOf : List CommitmentState → List CommitmentState → Type 0
FirstOf accepted signed = (later : List CommitmentState) × (accepted ++ later ≡ signed)

-- the two have one value of the terms. The oldest message on its way to a side is not refused. Each side accepted what the other signed,
-- commitment for commitment
pub record AgreesIn (tokens_of : Signing) (w : World) : Type 0 where
  pub same_terms : w.a.held.terms ≡ w.b.held.terms
  pub a_takes : (m : Message) (rest : List Message) → w.to_a ≡ m ∷ rest → receive_refusal tokens_of w.a m ≡ None
  pub b_takes : (m : Message) (rest : List Message) → w.to_b ≡ m ∷ rest → receive_refusal tokens_of w.b m ≡ None
  pub a_accepted : FirstOf w.a.mine w.b.signed
  pub b_accepted : FirstOf w.b.mine w.a.signed
  pub a_sound : IsSoundState w.a
  pub b_sound : IsSoundState w.b

-- two honest peers agree over every interleaving of their steps
abbrev pub PeersAgree : Type 0
PeersAgree = (tokens_of : Signing) (terms : Terms) (seed_a seed_b : List ℕ) (w : World) → IsReached tokens_of terms seed_a seed_b w → AgreesIn tokens_of w

-- a world that steps of two honest peers reach from a new channel
pub record IsPaired (tokens_of : Signing) (w : World) : Type 0 where
  pub terms : Terms
  pub seed_a : List ℕ
  pub seed_b : List ℕ
  pub reached : IsReached tokens_of terms seed_a seed_b w

-- a side's state is sound, whatever the peer sends
abbrev pub SidesAreSound : Type 0
SidesAreSound = (tokens_of : Signing) (s : State) → IsLived tokens_of s → IsSoundState s
