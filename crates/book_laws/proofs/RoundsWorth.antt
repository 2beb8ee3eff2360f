-- What the node has of the channel of two rounds at each of four ends, to the satoshi: closed by a commitment that the peer revoked, by its newest, by the one after it, or by the node's own newest, whose HTLC transactions
-- all stand.
use Rattle.std.proofs.Common.{◌≡◌, ℕ, ◌+◌, ◌*◌, Bool, true, false, refl, arith}
use Rattle.terms.specs.declared.htlcs.Htlc.{Htlc}
use Rattle.terms.specs.declared.sides.Side.TheVariants.{A, B}
use Rattle.terms.specs.declared.amounts.TheConstants.{MSAT_PER_SAT}
use Rattle.commit.specs.Commitments.{Contents, commitment_of, htlcs_from}
use Rattle.commit.specs.Order.{output_cmp, in_order}
use Rattle.commit.specs.Outputs.{outputs_of}
use Rattle.penalty.specs.Claimable.{claims_by}
use Rattle.penalty.specs.Worth.{staged, value_of, fees_with}
use Rattle.channel.specs.declared.commitments.CommitmentState.{CommitmentState}
use Rattle.channel.specs.States.{peers_next, own_next}
use Rattle.channel.specs.Tokens.{contents_of}
use Rattle.worth_laws.specs.Shares.{counted_msat, deductions, all_deductions, IsLess}
use Rattle.worth_laws.specs.Counted.{counted, fees_counted}
use Rattle.worth_laws.specs.Least.{at_least_sat}
use Rattle.book_laws.proofs.RoundsExamples.{terms, offered, revoked_0, offered_more, signed_3, received_3}

-- it has the preimage of each HTLC that was offered to it
abbrev knows_all : Htlc → Bool
knows_all h = true

abbrev none_stands : ℕ → Bool
none_stands index = false

abbrev all_stand : ℕ → Bool
all_stand index = true

-- the four commitments
abbrev revoked : CommitmentState
revoked = peers_next offered

abbrev newest : CommitmentState
newest = peers_next revoked_0

abbrev next : CommitmentState
next = peers_next offered_more

abbrev own : CommitmentState
own = own_next signed_3

abbrev of : CommitmentState → Contents
of k = contents_of terms k

-- ---- a revoked one: the whole capacity

revoked_claims : value_of (staged none_stands (of revoked)) ≡ 10000 + 20000 + 69103
unfolding claims_by commitment_of outputs_of in_order output_cmp
revoked_claims = refl

revoked_fees : fees_with none_stands (of revoked) ≡ 0
unfolding htlcs_from commitment_of outputs_of in_order output_cmp
revoked_fees = refl

revoked_off : all_deductions terms revoked.view B ≡ record { fee_sat = 896; dust_sat = 0; trimmed_sat = 0; rest_msat = 1000 }
revoked_off = refl

revoked_is_worth : IsLess (MSAT_PER_SAT * 100000) (all_deductions terms revoked.view B) (value_of (staged none_stands (of revoked)) + fees_with none_stands (of revoked))
revoked_is_worth = let v = revoked_claims in let f = revoked_fees in omega (arith, v, f)

-- ---- the peer's newest, and the one after it, on which the node's HTLC of 1,200 satoshis is trimmed

newest_claims : value_of (counted false knows_all none_stands (of newest)) ≡ 68931 + 10000 + 12000
unfolding claims_by commitment_of outputs_of in_order output_cmp
newest_claims = refl

newest_whole : counted_msat knows_all A newest.view ≡ 69999700 + 10000300 + 12000400
newest_whole = refl

newest_off : deductions terms newest.view false A knows_all ≡ record { fee_sat = 1068; dust_sat = 0; trimmed_sat = 0; rest_msat = 1400 }
newest_off = refl

newest_is_worth : IsLess (counted_msat knows_all A newest.view) (deductions terms newest.view false A knows_all) (value_of (counted false knows_all none_stands (of newest)))
newest_is_worth = let v = newest_claims in omega (arith, v)

next_claims : value_of (counted false knows_all none_stands (of next)) ≡ 67731 + 10000 + 12000
unfolding claims_by commitment_of outputs_of in_order output_cmp
next_claims = refl

next_whole : counted_msat knows_all A next.view ≡ 68799000 + (10000300 + 1200700) + 12000400
next_whole = refl

next_off : deductions terms next.view false A knows_all ≡ record { fee_sat = 1068; dust_sat = 0; trimmed_sat = 1200; rest_msat = 1400 }
next_off = refl

next_is_worth : IsLess (counted_msat knows_all A next.view) (deductions terms next.view false A knows_all) (value_of (counted false knows_all none_stands (of next)))
next_is_worth = let v = next_claims in omega (arith, v)

-- ---- the node's own: to_local, and the outputs of its three HTLC transactions

own_claims : value_of (counted true knows_all all_stand (of own)) ≡ 68759 + 9337 + 11297 + 3297
unfolding claims_by commitment_of outputs_of in_order output_cmp
own_claims = refl

own_fees : fees_counted true knows_all all_stand (of own) ≡ 663 + 703 + 703
unfolding htlcs_from commitment_of outputs_of in_order output_cmp
own_fees = refl

own_whole : counted_msat knows_all A own.view ≡ 69999700 + 10000300 + (12000400 + 4000000)
own_whole = refl

own_off : deductions terms own.view true A knows_all ≡ record { fee_sat = 1240; dust_sat = 0; trimmed_sat = 0; rest_msat = 1400 }
own_off = refl

own_is_worth : IsLess (counted_msat knows_all A own.view) (deductions terms own.view true A knows_all) (value_of (counted true knows_all all_stand (of own)) + fees_counted true knows_all all_stand (of own))
own_is_worth = let v = own_claims in let f = own_fees in omega (arith, v, f)

-- ---- what can be read before a close at the least: that the peer's commitment after its newest gives, or 89,731 satoshis

least : at_least_sat knows_all received_3 ≡ 89731
unfolding claims_by commitment_of outputs_of in_order output_cmp
least = refl
