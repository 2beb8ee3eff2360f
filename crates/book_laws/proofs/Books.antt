-- A channel of which a history takes care has its balance.
use Rattle.std.proofs.Common.{◌≡◌, ◌≢◌, true, List, [], ◌∷◌, map, reverse, Some, None, refl, inl, inr, subst}
use Rattle.std.specs.Prelude.{◌⊎◌, slice_get}
use Rattle.terms.specs.Agreement.{party}
use Rattle.channel.specs.Peers.{IsLived}
use Rattle.channel.specs.Tokens.{peer_tokens}
use Rattle.safety.specs.Closers.{IsWatched}
use Rattle.safety.specs.Holdings.{Holding, terms_in, peer_in, EachKeepsRules}
use Rattle.safety.specs.Premises.{none_revokes}
use Rattle.safety.proofs.Slots.{contains_first}
use Rattle.balance_laws.specs.Own.{LivedKeepOwnRules}
use Rattle.balance_laws.specs.Balances.{BalanceIsThere, BalancesAreThere, AllBalancesAreThere}
use Rattle.book.specs.Lived.{ChannelsAreLived}
use Rattle.book_laws.specs.Keeping.{BooksKeepRules}
use Rattle.book_laws.specs.Received.{tokens_in, PeersTokensCame}
use Rattle.book_laws.specs.Books.{BooksHaveBalances}
use Rattle.book_laws.proofs.Received.{came_in}

pub books_have_balances : ChannelsAreLived → BooksKeepRules → LivedKeepOwnRules → BalancesAreThere → AllBalancesAreThere → PeersTokensCame → BooksHaveBalances
books_have_balances lives keep own there all came history c ch blocks careful h same ledger given funded asked known = (by asked, tokens)
  where
    watched : IsWatched (h ∷ []) blocks
    watched = record { kept = subst (λ (x : Holding). EachKeepsRules (x ∷ [])) same (keep history c ch careful); ledger = ledger; own = given }

    lived : IsLived peer_tokens h.state
    lived = subst (λ (x : Holding). IsLived peer_tokens x.state) same (lives peer_tokens history c ch careful.called careful.there)

    tokens : slice_get (tokens_in (reverse history)) c ≡ Some (map (peer_tokens (terms_in h)) h.state.mine)
    tokens = subst (λ (x : Holding). slice_get (tokens_in (reverse history)) c ≡ Some (map (peer_tokens (terms_in x)) x.state.mine)) same (came_in came history c ch careful.called careful.there)

    by : (h.closed ≡ None) ⊎ ((none_revokes (h ∷ []) blocks ≡ true) × ((party h.state.held.side (terms_in h)).bases.htlc.bytes ≢ (party (peer_in h) (terms_in h)).bases.htlc.bytes))
        → BalanceIsThere (h ∷ []) blocks h known
    by (inl not_closed) = there (h ∷ []) blocks watched h (contains_first h []) not_closed funded known
    by (inr two) = all (h ∷ []) blocks watched two.0 h (contains_first h []) (own peer_tokens h lived two.1) funded known
