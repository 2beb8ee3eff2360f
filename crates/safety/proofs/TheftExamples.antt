-- Thefts. A transaction that the node did not release takes one of its outputs, and shows no preimage, or comes before its time. Then each case that the laws have for the output is refuted but one, that two strings with
-- one hash are named: so what these cases say is not said of everything. With the preimage, or once the time has come, the output is not stolen.
use Rattle.std.proofs.Common.{◌≡◌, ℕ, Bool, true, false, List, [], ◌∷◌, map, replicate, Some, None, refl, sym, ap, ◌∙◌}
use Rattle.std.specs.Str.{bytes_eq}
use Rattle.sha2.specs.Sha256.{sha256}
use Rattle.tx.specs.declared.input.TxIn.{TxIn}
use Rattle.tx.specs.Fields.{Transaction, unsigned_transaction}
use Rattle.tx.specs.Spelling.{transaction_id}
use Rattle.tx.proofs.Witnesses.{same_id}
use Rattle.chain.specs.Blocks.{Contents as Block, Coin, grant_id, coin_at}
use Rattle.terms.specs.declared.agreement.Terms.{Terms}
use Rattle.claim.specs.declared.parts.Place.{Place}
use Rattle.commit.specs.declared.fees.Direction.TheVariants.{Offered, Received}
use Rattle.commit.specs.Order.{output_cmp, in_order}
use Rattle.commit.specs.Outputs.{outputs_of}
use Rattle.commit.specs.Commitments.{Contents, commitment_of, tx_output, transaction_of, id_of, htlcs_from}
use Rattle.penalty.specs.Claimable.{Claimable, penalty_on, payment_on}
use Rattle.resolve.specs.Due.{direct_on}
use Rattle.safety.specs.Holdings.{Holding}
use Rattle.safety.specs.Breaks.{Breaks}
use Rattle.safety.specs.Resolutions.{Resolution, IsSlept, IsPaidOrLate}
use Rattle.safety.proofs.Seconds.{bare_commitment}
use Rattle.safety.proofs.Examples.{same_eq}
use Rattle.safety.proofs.Worked.{paid_or_late, has_waited, is_stolen, stolen_claim, stolen_penalty}
use Rattle.safety.proofs.ChannelExamples.{first_apart, second_far, second_apart}
use Rattle.safety.proofs.WorkedChannels.{first_terms, second_terms, first_opened, first_newest, first_own, second_opened, second_newest, second_own, c, d, first_htlc, second_htlc, on_remote, on_htlc, on_local, block, empty, granting, taken, state, holding}

-- the node released nothing
abbrev channels : List Holding
channels =
    holding (state first_terms 1 false (replicate 32 0x50 ∷ []) (first_own ∷ []) (first_opened ∷ first_newest ∷ [])) [] None
    ∷ holding (state second_terms 1 false (replicate 32 0x51 ∷ []) (second_own ∷ []) (second_opened ∷ second_newest ∷ [])) [] None ∷ []

-- a commitment on the chain in the block of height 1, and then a transaction in that of height 2, 3 or 4
abbrev closed : Terms → Contents → Transaction
closed terms k =
    record { version = 2; inputs = record { outpoint = terms.funding; sequence = k.hidden.sequence; witness = [] } ∷ []; outputs = map tx_output k.outputs; lock_time = k.hidden.lock_time }

abbrev at_two : Transaction → Transaction → List Block
at_two closing t = block (t ∷ []) ∷ block (closing ∷ []) ∷ granting ∷ []

abbrev at_three : Transaction → Transaction → List Block
at_three closing t = block (t ∷ []) ∷ empty ∷ block (closing ∷ []) ∷ granting ∷ []

abbrev at_four : Transaction → Transaction → List Block
at_four closing t = block (t ∷ []) ∷ empty ∷ empty ∷ block (closing ∷ []) ∷ granting ∷ []

-- an item as long as a token
abbrev item : List ℕ
item = replicate 66 1

abbrev to_remote : Claimable
to_remote = payment_on c on_remote

-- the HTLC that the node had offered, and the one that was offered to it. Both expire at 3
abbrev offered : Claimable
offered = direct_on c Received first_htlc.htlc (on_htlc first_htlc 10000)

abbrev received : Claimable
received = direct_on c Offered second_htlc.htlc (on_htlc second_htlc 12000)

abbrev takes : Place → List (List ℕ) → Transaction
takes p witness = taken p 0 witness

abbrev first : Transaction
first = closed first_terms c

-- ---- to_remote

remote_stolen : is_stolen channels (at_two first (takes on_remote (item ∷ []))) (paid_or_late c to_remote) to_remote ≡ true
unfolding htlcs_from commitment_of outputs_of in_order output_cmp
remote_stolen = rw (same_eq (id_of c), first_apart) refl

remote_lost : Resolution Breaks channels (at_two first (takes on_remote (item ∷ []))) (IsPaidOrLate false c to_remote) to_remote → Breaks channels (at_two first (takes on_remote (item ∷ [])))
remote_lost = stolen_claim channels (at_two first (takes on_remote (item ∷ []))) c to_remote remote_stolen

-- ---- an HTLC that the node had offered: by a token alone, after its expiry too; and with the preimage

offered_stolen : is_stolen channels (at_four first (takes (on_htlc first_htlc 10000) (item ∷ []))) (paid_or_late c offered) offered ≡ true
unfolding htlcs_from commitment_of outputs_of in_order output_cmp
offered_stolen = rw (same_eq (id_of c), first_apart) refl

offered_lost : Resolution Breaks channels (at_four first (takes (on_htlc first_htlc 10000) (item ∷ []))) (IsPaidOrLate false c offered) offered → Breaks channels (at_four first (takes (on_htlc first_htlc 10000) (item ∷ [])))
offered_lost = stolen_claim channels (at_four first (takes (on_htlc first_htlc 10000) (item ∷ []))) c offered offered_stolen

offered_paid : is_stolen channels (at_two first (takes (on_htlc first_htlc 10000) (item ∷ replicate 32 7 ∷ []))) (paid_or_late c offered) offered ≡ false
unfolding htlcs_from commitment_of outputs_of in_order output_cmp
offered_paid = rw (same_eq (id_of c), same_eq (sha256 (replicate 32 7))) refl

-- ---- one that was offered to the node: at its expiry, whatever is shown; and above it

received_stolen : is_stolen channels (at_three first (takes (on_htlc second_htlc 12000) (item ∷ replicate 32 8 ∷ []))) (paid_or_late c received) received ≡ true
unfolding htlcs_from commitment_of outputs_of in_order output_cmp
received_stolen = rw (same_eq (id_of c), first_apart) refl

received_lost : Resolution Breaks channels (at_three first (takes (on_htlc second_htlc 12000) (item ∷ replicate 32 8 ∷ []))) (IsPaidOrLate false c received) received → Breaks channels (at_three first (takes (on_htlc second_htlc 12000) (item ∷ replicate 32 8 ∷ [])))
received_lost = stolen_claim channels (at_three first (takes (on_htlc second_htlc 12000) (item ∷ replicate 32 8 ∷ []))) c received received_stolen

received_late : is_stolen channels (at_four first (takes (on_htlc second_htlc 12000) (item ∷ []))) (paid_or_late c received) received ≡ false
unfolding htlcs_from commitment_of outputs_of in_order output_cmp
received_late = rw (same_eq (id_of c)) refl

-- ---- to_local of a revoked commitment, whose delay is 2: a block before the delay is over, and with its end

abbrev second : Transaction
second = closed second_terms d

bare : unsigned_transaction second ≡ transaction_of d
unfolding transaction_of commitment_of
bare = refl

same_id_two : transaction_id second ≡ id_of d
same_id_two = same_id second (transaction_of d) (bare ∙ sym (bare_commitment d))

local_stolen : is_stolen channels (at_two second (takes on_local (item ∷ []))) (has_waited (coin_at (at_two second (takes on_local (item ∷ []))) on_local.outpoint) 2) (penalty_on d on_local) ≡ true
unfolding commitment_of outputs_of in_order output_cmp
local_stolen = rw (same_eq (id_of d), second_far, second_apart, same_id_two, same_eq (id_of d)) refl

two_blocks : d.delay_blocks ≡ 2
unfolding commitment_of
two_blocks = refl

local_lost : Resolution Breaks channels (at_two second (takes on_local (item ∷ []))) (IsSlept d (penalty_on d on_local)) (penalty_on d on_local) → Breaks channels (at_two second (takes on_local (item ∷ [])))
unfolding commitment_of
local_lost = stolen_penalty channels (at_two second (takes on_local (item ∷ []))) d (penalty_on d on_local) local_stolen

local_slept : is_stolen channels (at_three second (takes on_local (item ∷ []))) (has_waited (coin_at (at_three second (takes on_local (item ∷ []))) on_local.outpoint) 2) (penalty_on d on_local) ≡ false
unfolding commitment_of outputs_of in_order output_cmp
local_slept = rw (same_eq (id_of d), second_far, second_apart, same_id_two, same_eq (id_of d)) refl
