-- What is broadcast is of the channel in the history.
use Rattle.std.proofs.Common.{◌≡◌, ℕ, List, ◌++◌, Option, Some, None, Result, Ok, Err, refl, sym, ap, ◌∙◌, subst}
use Rattle.std.specs.declared.alloc.AllocError.{AllocError}
use Rattle.std.specs.Prelude.{IfOk, ok_or, slice_get}
use Rattle.std.proofs.lemmas.Result.{IfOk-weaker}
use Rattle.tx.specs.Fields.{Transaction}
use Rattle.publish.specs.Published.{signed_commitment_of, signed_htlc_tx_of}
use Rattle.book.specs.Books.{ChannelBook, replay}
use Rattle.book.specs.Knowing.{preimages_in}
use Rattle.book.specs.declared.errors.KnowError.{KnowError}
use Rattle.book.specs.declared.errors.KnowError.TheVariants as knows
use Rattle.desk.specs.Histories.{History}
use Rattle.desk.specs.Broadcasts.{commitment_in, htlc_tx_in, IsToldAs}
use Rattle.world.specs.declared.errors.EventError.{EventError}
use Rattle.world.specs.declared.errors.EventError.TheVariants.{NoSuchChannel, NoSuchTx}
use Rattle.world.specs.Publishing.{found}
use Rattle.running.specs.declared.chain_thread.Broadcast.{Broadcast}
use Rattle.running.specs.declared.chain_thread.Choice.{Choice}
use Rattle.running.specs.declared.chain_thread.Choice.TheVariants.{Commitment, Newest, HtlcTx}
use Rattle.running.specs.Broadcasts.{IsToldBy, IsTold, IsBroadcast}

found_is : (wanted tx : Option Transaction) (e : wanted ≡ tx) → ok_or tx NoSuchTx ≡ found wanted
found_is wanted None e = ap found (sym e)
found_is wanted (Some t) e = ap found (sym e)

told_as : (h : History) (c : ℕ) (choice chosen : Choice) (there : Option ChannelBook) (r : Result (Option Transaction) KnowError) → choice ≡ chosen → IsToldBy h c chosen there r → IsToldBy h c choice there r
told_as h c choice chosen there r is told = subst (λ (x : Choice). IsToldBy h c x there r) (sym is) told

by_number : (h : History) (c n : ℕ) (there : Option ChannelBook) (r : Result (Option Transaction) KnowError) → IsToldAs (commitment_in (Some n) there) r → IsToldBy h c (Commitment n) there r
by_number h c n None (Ok tx) is = absurd cc
by_number h c n None (Err knows.NoMemory) is = tt
by_number h c n None (Err knows.NoSuchChannel) is = refl
by_number h c n (Some ch) (Ok tx) is = let e : signed_commitment_of ch.state n ≡ tx = cc in found_is (signed_commitment_of ch.state n) tx e
by_number h c n (Some ch) (Err knows.NoMemory) is = tt
by_number h c n (Some ch) (Err knows.NoSuchChannel) is = absurd cc

by_newest : (h : History) (c : ℕ) (there : Option ChannelBook) (r : Result (Option Transaction) KnowError) → IsToldAs (commitment_in None there) r → IsToldBy h c Newest there r
by_newest h c None (Ok tx) is = absurd cc
by_newest h c None (Err knows.NoMemory) is = tt
by_newest h c None (Err knows.NoSuchChannel) is = refl
by_newest h c (Some ch) (Ok tx) is = let e : signed_commitment_of ch.state ch.state.number ≡ tx = cc in found_is (signed_commitment_of ch.state ch.state.number) tx e
by_newest h c (Some ch) (Err knows.NoMemory) is = tt
by_newest h c (Some ch) (Err knows.NoSuchChannel) is = absurd cc

by_htlc : (h : History) (c n i : ℕ) (learnt : List (List ℕ)) (there : Option ChannelBook) (r : Result (Option Transaction) KnowError)
    → IsToldAs (htlc_tx_in n i (preimages_in c h ++ learnt) there) r → IsToldBy h c (HtlcTx n i) there r
by_htlc h c n i learnt None (Ok tx) is = absurd cc
by_htlc h c n i learnt None (Err knows.NoMemory) is = tt
by_htlc h c n i learnt None (Err knows.NoSuchChannel) is = (learnt, refl)
by_htlc h c n i learnt (Some ch) (Ok tx) is =
    let e : signed_htlc_tx_of ch.state n i (preimages_in c h ++ learnt) ≡ tx = cc in
    (learnt, found_is (signed_htlc_tx_of ch.state n i (preimages_in c h ++ learnt)) tx e)
by_htlc h c n i learnt (Some ch) (Err knows.NoMemory) is = tt
by_htlc h c n i learnt (Some ch) (Err knows.NoSuchChannel) is = absurd cc

-- what a desk tells of a commitment and of an HTLC transaction is what is asked for
pub number_told : (h : History) (b : Broadcast) (n : ℕ) (r : Result (Option Transaction) KnowError) → b.choice ≡ Commitment n → IsToldAs (commitment_in (Some n) (slice_get (replay h) b.channel)) r → IsTold h b r
number_told h b n r is told = told_as h b.channel b.choice (Commitment n) (slice_get (replay h) b.channel) r is (by_number h b.channel n (slice_get (replay h) b.channel) r told)

pub newest_told : (h : History) (b : Broadcast) (r : Result (Option Transaction) KnowError) → b.choice ≡ Newest → IsToldAs (commitment_in None (slice_get (replay h) b.channel)) r → IsTold h b r
newest_told h b r is told = told_as h b.channel b.choice Newest (slice_get (replay h) b.channel) r is (by_newest h b.channel (slice_get (replay h) b.channel) r told)

pub htlc_told : (h : History) (b : Broadcast) (n i : ℕ) (learnt : List (List ℕ)) (r : Result (Option Transaction) KnowError) → b.choice ≡ HtlcTx n i
    → IsToldAs (htlc_tx_in n i (preimages_in b.channel h ++ learnt) (slice_get (replay h) b.channel)) r → IsTold h b r
htlc_told h b n i learnt r is told = told_as h b.channel b.choice (HtlcTx n i) (slice_get (replay h) b.channel) r is (by_htlc h b.channel n i learnt (slice_get (replay h) b.channel) r told)

-- what a desk refuses
pub untold : (h : History) (b : Broadcast) (e : KnowError) (r : Result (Result Transaction EventError) AllocError) → IsTold h b (Err e) → IfOk r (λ answer. (answer ≡ Err NoSuchChannel) × (e ≡ knows.NoSuchChannel)) → IfOk r (IsBroadcast h b)
untold h b knows.NoMemory r is none =
    IfOk-weaker r (λ answer. (answer ≡ Err NoSuchChannel) × (knows.NoMemory ≡ knows.NoSuchChannel)) (IsBroadcast h b) (λ answer it. let wrong : knows.NoMemory ≡ knows.NoSuchChannel = it.1 in absurd cc) none
untold h b knows.NoSuchChannel r is none =
    IfOk-weaker r (λ answer. (answer ≡ Err NoSuchChannel) × (knows.NoSuchChannel ≡ knows.NoSuchChannel)) (IsBroadcast h b) (λ answer it. subst (λ (a : Result Transaction EventError). IsBroadcast h b a) (sym it.0) is) none
