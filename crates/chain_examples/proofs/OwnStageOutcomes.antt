-- What became of the outputs of the node's own commitment on the chain of `OwnStageExamples`: the node took to_local, and the output of HTLC-success; that of HTLC-timeout is unspent; and its peer was paid for an HTLC.
use Rattle.std.proofs.Common.{◌≡◌, ℕ, Bool, true, false, List, [], ◌∷◌, replicate, Some, refl, sym, ap, ◌∙◌, subst, ⊎_elim, lit<}
use Rattle.std.specs.Prelude.{◌||◌, ◌==◌}
use Rattle.std.specs.List.{Contains}
use Rattle.sha2.specs.Sha256.{sha256, digest_bytes, hash_after, compress, rounds, schedule, first_words}
use Rattle.script.specs.Number.{digits, minimal_bytes_of}
use Rattle.tx.specs.Fields.{unsigned_transaction}
use Rattle.tx.specs.Spelling.{transaction_id}
use Rattle.sighash.specs.Programs.{script_hash_program}
use Rattle.terms.specs.Scripts.{number_push}
use Rattle.claim.specs.declared.parts.Place.{Place}
use Rattle.chain.specs.Blocks.{Coin, coin_at}
use Rattle.commit.specs.Outputs.{to_local_script}
use Rattle.commit.specs.Commitments.{id_of, htlcs_from, htlc_tx_of}
use Rattle.penalty.specs.Claimable.{Claimable, claims_by}
use Rattle.resolve.specs.Due.{delayed_on, second_stage_on}
use Rattle.worth_laws.specs.Counted.{counted}
use Rattle.safety.specs.Standing.{StandsAt}
use Rattle.safety.specs.Holdings.{released}
use Rattle.safety.proofs.Slots.{contains_cases}
use Rattle.safety.proofs.Lists.{contains_none}
use Rattle.safety.proofs.WorkedChannels.{block}
use Rattle.safety.specs.Resolutions.{Resolution, unspent, ours, lost, IsPaidOrLate, paid}
use Rattle.balance_laws.specs.OwnBreaks.{OwnBreaks}
use Rattle.chain_examples.proofs.Recorded.{first_granted, second_granted}
use Rattle.chain_examples.proofs.SeededChannels.{back_htlc, paid_htlc, received_htlc, seeded, knows_all}
use Rattle.chain_examples.proofs.SeededRecorded.{seeded_own_id, seeded_own_contents, seeded_own_named, seeded_own_delayed_program, seeded_own_htlc_1_program, seeded_own_stage_0_id, seeded_own_stage_0_named, seeded_own_stage_2_id, seeded_own_stage_2_named}
use Rattle.chain_examples.proofs.SeededClosing.{closes_is}
use Rattle.chain_examples.proofs.OwnReleases.{local_release, second_release, releases}
use Rattle.chain_examples.proofs.OwnStageExamples.{channels, chain, succeeds, succeeds_is, pays_input, pays, pays_is, claims_local_input, claims_local, claims_local_is, expires, expires_is, claims_second_input, claims_second}

abbrev place : (id : List ℕ) → (index value : ℕ) → List ℕ → Place
place id index value program = record { outpoint = record { txid = id; index = index }; value = value; program = program }

abbrev coin : (height value : ℕ) → List ℕ → Bool → Coin
coin height value program spent = record { output = record { value = value; script = program }; height = height; spent = spent }

-- it took to_local
abbrev pub to_local : Claimable
to_local = delayed_on seeded_own_contents (place seeded_own_id 4 58760 seeded_own_delayed_program)

local_stands : StandsAt chain 3 claims_local
local_stands = record { block = block (claims_local ∷ []); there = refl; within = (0, lit< tt, refl) }

local_same : unsigned_transaction claims_local ≡ unsigned_transaction (released local_release)
unfolding number_push minimal_bytes_of digits
local_same = refl

local_taken : Resolution OwnBreaks channels chain (IsPaidOrLate true seeded_own_contents to_local) to_local
local_taken =
    ours 3 claims_local claims_local_input (record { stands = local_stands; within = (0, lit< tt, refl); names = refl })
    (record { holding = seeded releases; held = (0, lit< tt, refl); release = local_release; among = (2, lit< tt, refl); same = local_same })

-- the HTLC that it took back: the output of its HTLC transaction is unspent
abbrev pub back : Claimable
back = delayed_on seeded_own_contents (place seeded_own_stage_0_id 0 1337 seeded_own_delayed_program)

back_there : coin_at chain back.place.outpoint ≡ Some (coin 4 1337 seeded_own_delayed_program false)
back_there = rw (first_granted, second_granted, closes_is, succeeds_is, pays_is, claims_local_is, expires_is) refl

back_unspent : Resolution OwnBreaks channels chain (IsPaidOrLate true seeded_own_contents back) back
back_unspent = unspent (coin 4 1337 seeded_own_delayed_program false) (record { there = back_there; output = refl }) refl

-- the HTLC that it had offered, which its peer was paid for
abbrev pub offered : Claimable
offered = second_stage_on seeded_own_contents paid_htlc (place seeded_own_id 1 3000 seeded_own_htlc_1_program)

offered_there : coin_at chain offered.place.outpoint ≡ Some (coin 1 3000 seeded_own_htlc_1_program true)
offered_there = rw (first_granted, second_granted, closes_is) refl

pays_stands : StandsAt chain 2 pays
pays_stands = record { block = block (pays ∷ succeeds ∷ []); there = refl; within = (0, lit< tt, refl) }

offered_paid : Resolution OwnBreaks channels chain (IsPaidOrLate true seeded_own_contents offered) offered
unfolding htlcs_from
offered_paid =
    lost (coin 1 3000 seeded_own_htlc_1_program true) (record { there = offered_there; output = refl }) 2 pays pays_input (record { stands = pays_stands; within = (0, lit< tt, refl); names = refl })
    (paid paid_htlc (record { among = (1, lit< tt, refl); at = ap (λ (id : List ℕ). record { txid = id; index = 1 }) (sym seeded_own_named) }) refl
    (record { item = replicate 32 10; shown = (1, lit< tt, refl); long = refl; hashed = refl }))

-- the HTLC that was offered to it, with the preimage: it took the output of its HTLC transaction after the delay
abbrev pub received : Claimable
received = delayed_on seeded_own_contents (place seeded_own_stage_2_id 0 11297 seeded_own_delayed_program)

second_stands : StandsAt chain 4 claims_second
second_stands = record { block = block (claims_second ∷ expires ∷ []); there = refl; within = (0, lit< tt, refl) }

second_same : unsigned_transaction claims_second ≡ unsigned_transaction (released second_release)
unfolding number_push minimal_bytes_of digits
second_same = refl

received_taken : Resolution OwnBreaks channels chain (IsPaidOrLate true seeded_own_contents received) received
received_taken =
    ours 4 claims_second claims_second_input (record { stands = second_stands; within = (0, lit< tt, refl); names = refl })
    (record { holding = seeded releases; held = (0, lit< tt, refl); release = second_release; among = (3, lit< tt, refl); same = second_same })

-- ---- these are all on which it counts

-- the HTLC transactions of the outputs at 0 and 2 stand
abbrev pub stands : ℕ → Bool
stands index = index == 0 || index == 2

-- by the ids of the commitment and of the two HTLC transactions
abbrev claims_at : (id timeout success : List ℕ) → List Claimable
claims_at id timeout success =
    delayed_on seeded_own_contents (place timeout 0 1337 seeded_own_delayed_program)
    ∷ second_stage_on seeded_own_contents paid_htlc (place id 1 3000 seeded_own_htlc_1_program)
    ∷ delayed_on seeded_own_contents (place success 0 11297 seeded_own_delayed_program)
    ∷ delayed_on seeded_own_contents (place id 4 58760 seeded_own_delayed_program)
    ∷ []

counted_at : counted true knows_all stands seeded_own_contents ≡ claims_at (id_of seeded_own_contents) (transaction_id (htlc_tx_of seeded_own_contents back_htlc)) (transaction_id (htlc_tx_of seeded_own_contents received_htlc))
unfolding sha256 digest_bytes hash_after compress rounds schedule first_words digits minimal_bytes_of number_push script_hash_program to_local_script claims_by
counted_at = refl

pub counted_are : counted true knows_all stands seeded_own_contents ≡ back ∷ offered ∷ received ∷ to_local ∷ []
counted_are =
    counted_at
    ∙ ap (λ (id : List ℕ). claims_at id (transaction_id (htlc_tx_of seeded_own_contents back_htlc)) (transaction_id (htlc_tx_of seeded_own_contents received_htlc))) seeded_own_named
    ∙ ap (λ (id : List ℕ). claims_at seeded_own_id id (transaction_id (htlc_tx_of seeded_own_contents received_htlc))) seeded_own_stage_0_named
    ∙ ap (claims_at seeded_own_id seeded_own_stage_0_id) seeded_own_stage_2_named

pub each_became : (o : Claimable) → Contains (counted true knows_all stands seeded_own_contents) o → Resolution OwnBreaks channels chain (IsPaidOrLate true seeded_own_contents o) o
each_became o i = of_these (subst (λ (os : List Claimable). Contains os o) counted_are i)
  where
    of_these : Contains (back ∷ offered ∷ received ∷ to_local ∷ []) o → Resolution OwnBreaks channels chain (IsPaidOrLate true seeded_own_contents o) o
    of_these j =
        ⊎_elim (λ (e : back ≡ o). became e back_unspent)
        (λ (k : Contains (offered ∷ received ∷ to_local ∷ []) o).
        ⊎_elim (λ (e : offered ≡ o). became e offered_paid)
        (λ (l : Contains (received ∷ to_local ∷ []) o).
        ⊎_elim (λ (e : received ≡ o). became e received_taken)
        (λ (m : Contains (to_local ∷ []) o).
        ⊎_elim (λ (e : to_local ≡ o). became e local_taken) (λ (z : Contains [] o). absurd (contains_none o z)) (contains_cases to_local [] o m))
        (contains_cases received (to_local ∷ []) o l))
        (contains_cases offered (received ∷ to_local ∷ []) o k))
        (contains_cases back (offered ∷ received ∷ to_local ∷ []) o j)
      where
        became : {x : Claimable} → x ≡ o → Resolution OwnBreaks channels chain (IsPaidOrLate true seeded_own_contents x) x → Resolution OwnBreaks channels chain (IsPaidOrLate true seeded_own_contents o) o
        became e r = subst (λ (y : Claimable). Resolution OwnBreaks channels chain (IsPaidOrLate true seeded_own_contents y) y) e r
