-- Small cases that were worked out by hand.
use Rattle.std.proofs.Common.{◌≡◌, ℕ, true, false, List, [], ◌∷◌, map, replicate, Option, Some, None, refl}
use Rattle.tx.specs.declared.input.OutPoint.{OutPoint}
use Rattle.tx.specs.Fields.{Transaction}
use Rattle.tx.specs.Spelling.{transaction_id}
use Rattle.terms.specs.declared.htlcs.Htlc.{Htlc}
use Rattle.chain.specs.Blocks.{Contents as Block, empty_block, is_named}
use Rattle.claim.specs.Claims.{ClaimParts, sequence_of, lock_time_of}
use Rattle.commit.specs.declared.fees.Direction.TheVariants.{Offered, Received}
use Rattle.commit.specs.declared.outputs.OutputKind.{OutputKind}
use Rattle.commit.specs.declared.outputs.OutputKind.TheVariants.{ToLocal, ToRemote, ToHtlc}
use Rattle.commit.specs.declared.outputs.CommitmentOutput.{CommitmentOutput}
use Rattle.commit.specs.Commitments.{Contents, id_of}
use Rattle.resolve.specs.declared.verdicts.Verdict.{Verdict}
use Rattle.resolve.specs.declared.verdicts.Verdict.TheVariants.{Ours, Theirs, TheirsNext, Revoked, Unknown}
use Rattle.sights.specs.declared.sighted.Stage.{Stage}
use Rattle.sights.specs.declared.sighted.Stage.TheVariants.{Close, SecondStage, Spend}
use Rattle.sights.specs.declared.sighted.Sighted.{Sighted}
use Rattle.sights.specs.Sights.{stage_after, stage_by_all, read_block, sights_in, up_to, made_at, was_taken}
use Rattle.sights.specs.Deadlines.{takes_back, ends_on_htlc, ends_at, deadline_of}
use Rattle.sights.specs.Telling.{fills_at, close_of}
use Rattle.sights.proofs.Followed.{sights_follow}

-- ---- what is followed

-- the output of a second stage is the last that is followed
followed : map stage_after (None ∷ Some Close ∷ Some SecondStage ∷ Some Spend ∷ []) ≡ None ∷ Some SecondStage ∷ Some Spend ∷ None ∷ []
followed = refl

abbrev spot : ℕ → ℕ → OutPoint
spot id index = record { txid = id ∷ []; index = index }

abbrev takes : List OutPoint → ℕ → Transaction
takes os outputs = record { version = 2; inputs = map (λ o. record { outpoint = o; sequence = 0; witness = [] }) os; outputs = replicate outputs (record { value = 1000; script = [] }); lock_time = 0 }

-- A close that takes the funding output, what takes one of its outputs by its only input, and what takes one and another output. The ids are those that are given
module _ (close : transaction_id (takes (spot 1 0 ∷ []) 3) ≡ 2 ∷ []) (stage : transaction_id (takes (spot 2 1 ∷ []) 1) ≡ 3 ∷ [])
    (both : transaction_id (takes (spot 2 0 ∷ spot 9 0 ∷ []) 2) ≡ 4 ∷ []) (spends : transaction_id (takes (spot 3 0 ∷ []) 1) ≡ 5 ∷ []) where
  abbrev fundings : List OutPoint
  fundings = spot 8 0 ∷ spot 1 0 ∷ []

  abbrev sight : ℕ → Stage → Transaction → Sighted
  sight height stage t = record { height = height; stage = stage; tx = t }

  abbrev read : List Sighted
  read = sight 3 Spend (takes (spot 3 0 ∷ []) 1) ∷ sight 3 Spend (takes (spot 2 0 ∷ spot 9 0 ∷ []) 2) ∷ sight 2 SecondStage (takes (spot 2 1 ∷ []) 1) ∷ sight 1 Close (takes (spot 1 0 ∷ []) 3) ∷ []

  abbrev closed : List Sighted
  closed = sight 1 Close (takes (spot 1 0 ∷ []) 3) ∷ []

  -- what takes an output of the close, and what takes another's
  second : stage_by_all fundings closed (takes (spot 2 1 ∷ []) 1).inputs ≡ Some SecondStage
  second = rw close refl

  another : stage_by_all fundings closed (takes (spot 7 0 ∷ []) 1).inputs ≡ None
  another = rw close refl

  -- of several inputs none makes a second stage
  several : stage_by_all fundings closed (takes (spot 2 0 ∷ spot 9 0 ∷ []) 2).inputs ≡ Some Spend
  several = rw close refl

  last : stage_by_all fundings (sight 2 SecondStage (takes (spot 2 1 ∷ []) 1) ∷ []) (takes (spot 3 0 ∷ []) 1).inputs ≡ Some Spend
  last = rw stage refl

  no_more : stage_by_all fundings (sight 3 Spend (takes (spot 2 0 ∷ spot 9 0 ∷ []) 2) ∷ []) (takes (spot 4 0 ∷ []) 1).inputs ≡ None
  no_more = rw both refl

  -- in the block of the close itself, whose newest transaction comes first
  in_one_block : read_block fundings 5 (takes (spot 2 1 ∷ []) 1 ∷ takes (spot 1 0 ∷ []) 3 ∷ []) [] ≡ sight 5 SecondStage (takes (spot 2 1 ∷ []) 1) ∷ sight 5 Close (takes (spot 1 0 ∷ []) 3) ∷ []
  in_one_block = rw close refl

  -- a block's height is the number of those below it
  at_its_height : sights_in fundings (empty_block ∷ record { transactions = takes (spot 1 0 ∷ []) 3 ∷ []; granted = [] } ∷ empty_block ∷ []) ≡ closed
  at_its_height = refl

  -- the chain of a close, with an empty block below it and one above
  abbrev chain : List Block
  chain = empty_block ∷ record { transactions = takes (spot 1 0 ∷ []) 3 ∷ []; granted = [] } ∷ empty_block ∷ []

  -- one more channel opens whose funding output no block takes (`sights_follow`)
  opens : sights_in (spot 8 0 ∷ spot 1 0 ∷ []) chain ≡ sights_in (spot 1 0 ∷ []) chain
  opens = sights_follow.opening (spot 1 0 ∷ []) (spot 8 0) chain refl

  -- where one takes it, the close is not among what was read
  opens_late : (is_named chain (spot 1 0) ≡ true) × (sights_in (spot 8 0 ∷ []) chain ≡ []) × (sights_in (spot 1 0 ∷ spot 8 0 ∷ []) chain ≡ closed)
  opens_late = (refl, refl, refl)

  -- the blocks above height 1 are taken off, and those above 0
  goes_back : up_to 1 (sights_in fundings chain) ≡ closed
  goes_back = sights_follow.disconnect fundings (empty_block ∷ []) (record { transactions = takes (spot 1 0 ∷ []) 3 ∷ []; granted = [] }) (empty_block ∷ [])

  goes_further : up_to 0 (sights_in fundings chain) ≡ []
  goes_further = refl

  -- what closed a channel is found while it stands
  close_stands : (close_of (spot 1 0) (sights_in fundings chain) ≡ Some (sight 1 Close (takes (spot 1 0 ∷ []) 3))) × (close_of (spot 8 0) (sights_in fundings chain) ≡ None)
  close_stands = (refl, refl)

  close_is_off : close_of (spot 1 0) (up_to 0 (sights_in fundings chain)) ≡ None
  close_is_off = refl

  -- a close that takes another output too is one still
  closes_beside : stage_by_all fundings [] (takes (spot 9 0 ∷ spot 1 0 ∷ []) 1).inputs ≡ Some Close
  closes_beside = refl

  none_by_another_index : stage_by_all fundings [] (takes (spot 1 1 ∷ []) 1).inputs ≡ None
  none_by_another_index = refl

  -- the blocks above a height are taken off
  taken_off : map (λ h. up_to h read) (3 ∷ 2 ∷ 1 ∷ 0 ∷ [])
      ≡ read ∷ (sight 2 SecondStage (takes (spot 2 1 ∷ []) 1) ∷ sight 1 Close (takes (spot 1 0 ∷ []) 3) ∷ []) ∷ (sight 1 Close (takes (spot 1 0 ∷ []) 3) ∷ []) ∷ [] ∷ []
  taken_off = refl

  -- what made an output, at which height, and whether it was taken
  made : map (λ o. made_at o read) (spot 2 0 ∷ spot 2 2 ∷ spot 2 3 ∷ spot 3 0 ∷ spot 3 1 ∷ spot 5 0 ∷ spot 7 0 ∷ []) ≡ Some 1 ∷ Some 1 ∷ None ∷ Some 2 ∷ None ∷ Some 3 ∷ None ∷ []
  made = rw (close, stage, both, spends) refl

  taken : map (λ o. was_taken o read) (spot 1 0 ∷ spot 2 0 ∷ spot 2 1 ∷ spot 2 2 ∷ spot 3 0 ∷ spot 4 0 ∷ []) ≡ true ∷ true ∷ true ∷ false ∷ true ∷ false ∷ []
  taken = refl

-- ---- deadlines

-- whoever offered an HTLC takes it back in the block above its expiry, or in the one that made the output
back : map (takes_back 500) (400 ∷ 500 ∷ 501 ∷ 502 ∷ []) ≡ Some 501 ∷ Some 501 ∷ Some 501 ∷ Some 502 ∷ []
back = refl

abbrev verdicts : List Verdict
verdicts = Ours ∷ Theirs ∷ TheirsNext ∷ Revoked 3 ∷ Unknown ∷ []

offered : map (λ v. ends_on_htlc v Offered 500 400) verdicts ≡ None ∷ Some 501 ∷ Some 501 ∷ Some 501 ∷ None ∷ []
offered = refl

received : map (λ v. ends_on_htlc v Received 500 400) verdicts ≡ Some 501 ∷ None ∷ None ∷ Some 400 ∷ None ∷ []
received = refl

module _ (c : Contents) (hash : List ℕ) where
  abbrev htlc : ℕ → Htlc
  htlc expiry = record { id = 0; amount_msat = 1000000; hash = hash; expiry_height = expiry }

  abbrev pays : ℕ → OutputKind → CommitmentOutput
  pays value kind = record { value = value; script = []; program = []; kind = kind }

  -- to_local, to_remote, and an HTLC of each direction
  abbrev given : Contents
  given = record c { delay_blocks = 144; outputs = pays 1000 ToLocal ∷ pays 2000 ToRemote ∷ pays 3000 (ToHtlc Offered (htlc 500)) ∷ pays 4000 (ToHtlc Received (htlc 600)) ∷ [] }

  abbrev ends : Verdict → List (Option ℕ)
  ends verdict = map (λ i. ends_at verdict given (spot 7 i) 400) (0 ∷ 1 ∷ 2 ∷ 3 ∷ 4 ∷ [])

  on_revoked : id_of given ≡ 7 ∷ [] → ends (Revoked 3) ≡ Some 544 ∷ None ∷ Some 501 ∷ Some 400 ∷ None ∷ []
  on_revoked e = rw e refl

  on_own : id_of given ≡ 7 ∷ [] → ends Ours ≡ None ∷ None ∷ None ∷ Some 601 ∷ None ∷ []
  on_own e = rw e refl

  on_peers : id_of given ≡ 7 ∷ [] → ends Theirs ≡ None ∷ None ∷ Some 501 ∷ None ∷ None ∷ []
  on_peers e = rw e refl

  -- the output of an HTLC transaction
  on_stage : id_of given ≡ 7 ∷ [] → map (λ v. ends_at v given (spot 8 0) 400) verdicts ≡ None ∷ None ∷ None ∷ Some 544 ∷ None ∷ []
  on_stage e = rw e refl

  -- there is none where the commitment isn't known, or the output wasn't made
  unknown : (deadline_of (Revoked 3) None (spot 7 0) (Some 400) ≡ None) × (deadline_of (Revoked 3) (Some given) (spot 7 0) None ≡ None)
  unknown = (refl, refl)

-- ---- when a claim can be filled

-- its age is reached, and the block is above its lock time
module _ (x : ClaimParts) where
  fills : sequence_of x ≡ 144 → lock_time_of x ≡ 0 → map (fills_at x) (0 ∷ 400 ∷ []) ≡ 144 ∷ 544 ∷ []
  fills a l = rw (a, l) refl

  waits : sequence_of x ≡ 0 → lock_time_of x ≡ 500 → map (fills_at x) (400 ∷ 500 ∷ 501 ∷ 502 ∷ []) ≡ 501 ∷ 501 ∷ 501 ∷ 502 ∷ []
  waits a l = rw (a, l) refl
