use Rattle.book_laws.proofs.Keeping.{of_states, of_channels, laws_of, books_keep_rules, claimables_are_recorded, kept_are_recorded}
use Rattle.book_laws.proofs.laws.books_keep_rules.Goals as goal

pub returns-clause-rules : goal.returns-clause-rules
returns-clause-rules c =
    books_keep_rules
    (laws_of (of_states c.sides_are_sound.ensures.numbered c.what_is_signed.ensures.revealed c.what_is_signed.ensures.limited c.what_is_signed.ensures.offered)
    (of_channels c.accepted_is_called.ensures c.what_channels_have.ensures.lived c.what_channels_have.ensures.asked c.what_is_closed_stays_closed.ensures.newest)
    c.what_is_recorded.ensures.own c.what_commitments_have.ensures.limits c.due_places.ensures.owners c.due_places.ensures.peers c.due_places.ensures.revoked c.kept_are_exact.ensures)

pub returns-clause-revoked : goal.returns-clause-revoked
returns-clause-revoked c =
    claimables_are_recorded
    (laws_of (of_states c.sides_are_sound.ensures.numbered c.what_is_signed.ensures.revealed c.what_is_signed.ensures.limited c.what_is_signed.ensures.offered)
    (of_channels c.accepted_is_called.ensures c.what_channels_have.ensures.lived c.what_channels_have.ensures.asked c.what_is_closed_stays_closed.ensures.newest)
    c.what_is_recorded.ensures.own c.what_commitments_have.ensures.limits c.due_places.ensures.owners c.due_places.ensures.peers c.due_places.ensures.revoked c.kept_are_exact.ensures)

pub returns-clause-kept : goal.returns-clause-kept
returns-clause-kept c =
    kept_are_recorded
    (laws_of (of_states c.sides_are_sound.ensures.numbered c.what_is_signed.ensures.revealed c.what_is_signed.ensures.limited c.what_is_signed.ensures.offered)
    (of_channels c.accepted_is_called.ensures c.what_channels_have.ensures.lived c.what_channels_have.ensures.asked c.what_is_closed_stays_closed.ensures.newest)
    c.what_is_recorded.ensures.own c.what_commitments_have.ensures.limits c.due_places.ensures.owners c.due_places.ensures.peers c.due_places.ensures.revoked c.kept_are_exact.ensures)
