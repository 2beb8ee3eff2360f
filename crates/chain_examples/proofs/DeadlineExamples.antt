-- From which block on somebody else can take what the closes on worked chains pay. On the cheater's chain (`ClosedExamples`) the peer closed the second channel with a revoked commitment, and the first with its newest one;
-- on the other (`OwnStageExamples`) the node closed its channel itself. Each close stands in the block of height 1.
use Rattle.std.proofs.Common.{◌≡◌, ℕ, List, [], ◌∷◌, map, Option, Some, None, refl}
use Rattle.tx.specs.declared.input.OutPoint.{OutPoint}
use Rattle.commit.specs.Commitments.{Contents}
use Rattle.resolve.specs.declared.verdicts.Verdict.{Verdict}
use Rattle.resolve.specs.declared.verdicts.Verdict.TheVariants.{Ours, Theirs, Revoked}
use Rattle.sights.specs.Deadlines.{ends_at}
use Rattle.chain_examples.proofs.Recorded.{first_newest_id, first_newest_contents, first_newest_named, second_opened_id, second_opened_stage_1_id, second_opened_contents, second_opened_named}
use Rattle.chain_examples.proofs.SeededRecorded.{seeded_own_id, seeded_own_stage_0_id, seeded_own_contents, seeded_own_named}

abbrev ends : Verdict → Contents → List ℕ → List ℕ → List (Option ℕ)
ends verdict c id indices = map (λ i. let o : OutPoint = record { txid = id; index = i } in ends_at verdict c o 1) indices

-- to_local after the delay of two blocks, the HTLC that its owner offered above the expiry 3, and to_remote at no height
on_revoked : ends (Revoked 0) second_opened_contents second_opened_id (0 ∷ 1 ∷ 2 ∷ []) ≡ Some 3 ∷ Some 4 ∷ None ∷ []
on_revoked = rw second_opened_named refl

-- the output of the HTLC transaction that the block of height 4 has: its owner took it in that of height 6
on_its_stage : ends_at (Revoked 0) second_opened_contents (record { txid = second_opened_stage_1_id; index = 0 }) 4 ≡ Some 6
on_its_stage = rw second_opened_named refl

-- what the node offered, what the peer offered, to_local and to_remote
on_newest : ends Theirs first_newest_contents first_newest_id (0 ∷ 1 ∷ 2 ∷ 3 ∷ []) ≡ None ∷ Some 4 ∷ None ∷ None ∷ []
on_newest = rw first_newest_named refl

-- two HTLCs that the node offered, one that its peer did, to_remote and to_local
on_own : ends Ours seeded_own_contents seeded_own_id (0 ∷ 1 ∷ 2 ∷ 3 ∷ 4 ∷ []) ≡ None ∷ None ∷ Some 4 ∷ None ∷ None ∷ []
on_own = rw seeded_own_named refl

on_own_stage : ends_at Ours seeded_own_contents (record { txid = seeded_own_stage_0_id; index = 0 }) 4 ≡ None
on_own_stage = rw seeded_own_named refl
