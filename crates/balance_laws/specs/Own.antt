-- What a node has of its own commitment that closed a channel (BOLT 5, "Unilateral Close Handling: Local Commitment Transaction").
use Rattle.std.specs.Prelude.{◌≡◌, ◌≢◌, ◌↔◌, ℕ, Bool, true, List, Some, slice_get}
use Rattle.std.specs.List.{Contains}
use Rattle.chain.specs.Blocks.{Contents as Block}
use Rattle.terms.specs.declared.htlcs.Htlc.{Htlc}
use Rattle.terms.specs.Agreement.{party}
use Rattle.commit.specs.declared.outputs.HtlcOutput.{HtlcOutput}
use Rattle.commit.specs.Commitments.{transaction_of, htlcs_of, htlc_tx_of}
use Rattle.channel.specs.declared.commitments.CommitmentState.{CommitmentState}
use Rattle.channel.specs.Points.{point_at}
use Rattle.channel.specs.States.{Signing}
use Rattle.channel.specs.Peers.{IsLived}
use Rattle.channel.specs.Tokens.{contents_of}
use Rattle.safety.specs.Whereabouts.{IsOnChain}
use Rattle.safety.specs.Holdings.{Holding, terms_in, peer_in}
use Rattle.safety.specs.Premises.{none_revokes}
use Rattle.safety.specs.Closers.{IsWatched}
use Rattle.safety.specs.Resolutions.{Resolution, IsPaidOrLate}
use Rattle.balance_laws.specs.Claims.{ShareIsWorth}
use Rattle.balance_laws.specs.OwnBreaks.{OwnBreaks}

-- What is true besides of a channel whose side keeps the rules. Its own newest commitment is at the point of its seed and its number; and the HTLC base keys of the two sides are two
pub record KeepsOwnRules (h : Holding) : Type 0 where
  pub point : (k : CommitmentState) → slice_get h.state.mine h.state.number ≡ Some k → k.point.bytes ≡ (point_at h.state.seed h.state.number).bytes
  pub apart : (party h.state.held.side (terms_in h)).bases.htlc.bytes ≢ (party (peer_in h) (terms_in h)).bases.htlc.bytes

-- so it is whatever messages came, if those keys are two
abbrev pub LivedKeepOwnRules : Type 0
LivedKeepOwnRules =
    (tokens_of : Signing) (h : Holding) → IsLived tokens_of h.state
    → (party h.state.held.side (terms_in h)).bases.htlc.bytes ≢ (party (peer_in h) (terms_in h)).bases.htlc.bytes → KeepsOwnRules h

-- To_local and each HTLC on which the node counts, by its own HTLC transaction or, where that stands, by the output of that. Each is unspent, or the node took it; or it is an HTLC that was paid or that is late
pub record HasOwnShare (hs : List Holding) (blocks : List Block) (h : Holding) (known : Htlc → Bool) (k : CommitmentState) : Type 0 where
  pub stands : ℕ → Bool
  pub those : (x : HtlcOutput) → Contains (htlcs_of (contents_of (terms_in h) k)) x → (stands x.index ≡ true) ↔ IsOnChain blocks (htlc_tx_of (contents_of (terms_in h) k) x)
  pub claims : ShareIsWorth h true known stands k (λ o. Resolution OwnBreaks hs blocks (IsPaidOrLate true (contents_of (terms_in h) k) o) o)

-- such is the node's newest own commitment wherever it stands, if no input shows a token of its revocation key
abbrev pub OwnAreResolved : Type 0
OwnAreResolved =
    (hs : List Holding) (blocks : List Block) → IsWatched hs blocks → none_revokes hs blocks ≡ true
    → (h : Holding) → Contains hs h → KeepsOwnRules h → (k : CommitmentState) → slice_get h.state.mine h.state.number ≡ Some k → IsOnChain blocks (transaction_of (contents_of (terms_in h) k))
    → (known : Htlc → Bool) → HasOwnShare hs blocks h known k
