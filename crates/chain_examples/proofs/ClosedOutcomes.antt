-- What became of the outputs on the chain of `ClosedExamples`: the node took one, its peer was paid for another and was late for a third, one is unspent, and on one of the revoked commitment's HTLC transaction the node slept.
use Rattle.std.proofs.Common.{◌≡◌, ℕ, true, false, List, [], ◌∷◌, replicate, Some, refl, sym, ap, lit≤, lit<}
use Rattle.chain.specs.Blocks.{Coin, coin_at}
use Rattle.commit.specs.declared.fees.Direction.TheVariants.{Offered, Received}
use Rattle.commit.specs.Commitments.{htlcs_from}
use Rattle.penalty.specs.Claimable.{Claimable, penalty_on, payment_on}
use Rattle.resolve.specs.Due.{direct_on}
use Rattle.safety.specs.Standing.{StandsAt}
use Rattle.safety.specs.Breaks.{Breaks}
use Rattle.safety.specs.Resolutions.{Resolution, unspent, ours, lost, IsSlept, IsOnHtlc, IsPaidOrLate, paid, late}
use Rattle.safety.proofs.WorkedChannels.{htlc, first_htlc, second_htlc, block}
use Rattle.claim.specs.declared.parts.Place.{Place}
use Rattle.chain_examples.proofs.Recorded.{first_granted, second_granted, second_home_program, first_newest_id, first_newest_htlc_0_program, first_newest_htlc_1_program, first_newest_contents, first_newest_named, second_opened_id, second_opened_delayed_program, second_opened_stage_1_id, second_opened_contents}
use Rattle.chain_examples.proofs.Closings.{closes_first_is, closes_second_is}
use Rattle.chain_examples.proofs.ClosedExamples.{on_remote, sweep, first, channels, swept_input, swept, swept_is, succeeds_input, succeeds, succeeds_is, punished, punished_is, spent_on_is, expires_input, expires, expires_is, delayed, delayed_is, slept_input, slept, chain}

abbrev place : List ℕ → ℕ → ℕ → List ℕ → Place
place id index value program = record { outpoint = record { txid = id; index = index }; value = value; program = program }

abbrev spent_coin : ℕ → ℕ → List ℕ → Coin
spent_coin height value program = record { output = record { value = value; script = program }; height = height; spent = true }

abbrev to_remote : Claimable
to_remote = payment_on first_newest_contents on_remote

swept_stands : StandsAt chain 2 swept
swept_stands = record { block = block (punished ∷ succeeds ∷ swept ∷ []); there = refl; within = (2, lit< tt, refl) }

was_ours : Resolution Breaks channels chain (IsPaidOrLate false first_newest_contents to_remote) to_remote
was_ours =
    ours 2 swept swept_input (record { stands = swept_stands; within = (0, lit< tt, refl); names = refl })
    (record { holding = first; held = (0, lit< tt, refl); release = sweep; among = (0, lit< tt, refl); same = refl })

abbrev offered : Claimable
offered = direct_on first_newest_contents Received (htlc 10000 7) (place first_newest_id 0 10000 first_newest_htlc_0_program)

offered_there : coin_at chain offered.place.outpoint ≡ Some (spent_coin 1 10000 first_newest_htlc_0_program)
offered_there = rw (first_granted, second_granted, closes_first_is) refl

succeeds_stands : StandsAt chain 2 succeeds
succeeds_stands = record { block = block (punished ∷ succeeds ∷ swept ∷ []); there = refl; within = (1, lit< tt, refl) }

on_first : IsOnHtlc first_newest_contents first_htlc offered
unfolding htlcs_from
on_first = record { among = (0, lit< tt, refl); at = ap (λ (id : List ℕ). record { txid = id; index = 0 }) (sym first_newest_named) }

was_paid : Resolution Breaks channels chain (IsPaidOrLate false first_newest_contents offered) offered
was_paid =
    lost (spent_coin 1 10000 first_newest_htlc_0_program) (record { there = offered_there; output = refl }) 2 succeeds succeeds_input (record { stands = succeeds_stands; within = (0, lit< tt, refl); names = refl })
    (paid first_htlc on_first refl (record { item = replicate 32 7; shown = (3, lit< tt, refl); long = refl; hashed = refl }))

abbrev received : Claimable
received = direct_on first_newest_contents Offered (htlc 12000 8) (place first_newest_id 1 12000 first_newest_htlc_1_program)

received_there : coin_at chain received.place.outpoint ≡ Some (spent_coin 1 12000 first_newest_htlc_1_program)
received_there = rw (first_granted, second_granted, closes_first_is) refl

expires_stands : StandsAt chain 4 expires
expires_stands = record { block = block (delayed ∷ expires ∷ []); there = refl; within = (1, lit< tt, refl) }

on_second : IsOnHtlc first_newest_contents second_htlc received
unfolding htlcs_from
on_second = record { among = (1, lit< tt, refl); at = ap (λ (id : List ℕ). record { txid = id; index = 1 }) (sym first_newest_named) }

was_late : Resolution Breaks channels chain (IsPaidOrLate false first_newest_contents received) received
was_late =
    lost (spent_coin 1 12000 first_newest_htlc_1_program) (record { there = received_there; output = refl }) 4 expires expires_input (record { stands = expires_stands; within = (0, lit< tt, refl); names = refl })
    (late second_htlc on_second refl (lit< tt))

abbrev second_stage : Claimable
second_stage = penalty_on second_opened_contents (place second_opened_stage_1_id 0 11337 second_opened_delayed_program)

second_there : coin_at chain second_stage.place.outpoint ≡ Some (spent_coin 4 11337 second_opened_delayed_program)
second_there = rw (first_granted, second_granted, closes_first_is, closes_second_is, swept_is, succeeds_is, punished_is, spent_on_is, expires_is, delayed_is) refl

slept_stands : StandsAt chain 6 slept
slept_stands = record { block = block (slept ∷ []); there = refl; within = (0, lit< tt, refl) }

was_slept_on : Resolution Breaks channels chain (IsSlept second_opened_contents second_stage) second_stage
was_slept_on =
    lost (spent_coin 4 11337 second_opened_delayed_program) (record { there = second_there; output = refl }) 6 slept slept_input (record { stands = slept_stands; within = (0, lit< tt, refl); names = refl })
    (record { form = refl; late = lit≤ tt })

abbrev other_remote : Claimable
other_remote = payment_on second_opened_contents (place second_opened_id 2 79104 second_home_program)

is_there : coin_at chain other_remote.place.outpoint ≡ Some (record (spent_coin 1 79104 second_home_program) { spent = false })
is_there = rw (first_granted, second_granted, closes_first_is, closes_second_is) refl

is_unspent : Resolution Breaks channels chain (IsSlept second_opened_contents other_remote) other_remote
is_unspent = unspent (record (spent_coin 1 79104 second_home_program) { spent = false }) (record { there = is_there; output = refl }) refl
