-- How a channel stands on a chain.
use Rattle.std.proofs.Common.{◌≡◌, ℕ, Bool, true, false, List, Option, Some, None, sym, ap, ◌∙◌, refl, subst}
use Rattle.std.specs.Prelude.{slice_get}
use Rattle.std.specs.List.{Contains}
use Rattle.tx.specs.Fields.{Transaction, unsigned_transaction}
use Rattle.chain.specs.Blocks.{Contents as Block, Coin, coin_at}
use Rattle.commit.specs.Commitments.{transaction_of}
use Rattle.channel.specs.declared.commitments.CommitmentState.{CommitmentState}
use Rattle.channel.specs.Tokens.{contents_of}
use Rattle.publish.specs.Opening.{CommitmentsSpend}
use Rattle.safety.specs.Whereabouts.{IsOnChain}
use Rattle.safety.specs.Standing.{StandsAt}
use Rattle.safety.specs.Holdings.{Holding, terms_in}
use Rattle.safety.specs.Closers.{IsFunded, IsWatched, IsClosedBy, by_commitment, by_collision}
use Rattle.safety.specs.Everybody.{PeersHold, ChannelStands, unclosed, closed, broken, EachChannelStands}
use Rattle.safety.proofs.Standing.{naming, spent_is}
use Rattle.safety.proofs.Closing.{who_closes}
use Rattle.safety.proofs.Newest.{newest_passes}
use Rattle.safety.proofs.Resolving.{peers_are_resolved}
use Rattle.safety.proofs.Separate.{revoked_are_resolved}

pub each_channel_stands : CommitmentsSpend → EachChannelStands
each_channel_stands spend hs blocks v h held funded = by funded.0.spent refl
  where
    peers : (k : CommitmentState) → IsOnChain blocks (transaction_of (contents_of (terms_in h) k)) → (n : ℕ) → slice_get h.state.signed n ≡ Some k → PeersHold hs blocks h k
    peers k chain n there = record { penalties = revoked_are_resolved hs blocks v h held n k there chain; claims = λ o i. peers_are_resolved hs blocks v h held n k there chain o i }

    by_closer : (height : ℕ) (t : Transaction) → StandsAt blocks height t → IsClosedBy hs blocks h t → ChannelStands hs blocks h
    by_closer height t stands (by_commitment k closer same) =
        let chain : IsOnChain blocks (transaction_of (contents_of (terms_in h) k)) = record { height = height; signed = t; stands = stands; same = same } in
        closed k closer chain (λ n there. peers k chain n there)
    by_closer height t stands (by_collision z) = broken z

    by : (b : Bool) → funded.0.spent ≡ b → ChannelStands hs blocks h
    by false s = unclosed funded.0 funded.1.there s (newest_passes spend hs blocks v h held funded.0 funded.1 s)
    by true s =
        let n = naming blocks (terms_in h).funding (sym (spent_is blocks (terms_in h).funding funded.0 funded.1.there) ∙ s) in
        by_closer n.height n.transaction n.stands (who_closes hs blocks v h held funded.0 funded.1 n.height n.transaction n.input n.stands n.within n.named)
