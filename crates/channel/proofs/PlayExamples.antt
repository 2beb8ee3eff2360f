-- Plays of two peers with their outcomes and newest commitments, from a model of BOLT 2 that keeps a stage for each update at each end and moves amounts.
use Rattle.std.proofs.Common.{◌≡◌, ℕ, List, [], ◌∷◌, length, replicate, ap, ◌∙◌, refl, lit≤, lit<}
use Rattle.sha2.specs.Sha256.{sha256, digest_bytes, hash_after, compress, rounds, schedule, first_words}
use Rattle.tx.specs.declared.input.OutPoint.{OutPoint}
use Rattle.terms.specs.declared.sides.Side.TheVariants.{A, B}
use Rattle.terms.specs.declared.agreement.BaseKeys.{BaseKeys}
use Rattle.terms.specs.declared.agreement.Terms.{Terms}
use Rattle.updates.specs.declared.changes.OwnUpdate.{OwnUpdate}
use Rattle.updates.specs.declared.changes.OwnUpdate.TheVariants.{Offer, Fulfil, Fail, SetFee}
use Rattle.updates.specs.declared.errors.ChannelError.TheVariants.{AmountZero, BelowMinimum, ExpiryTooLarge, OverBalance, UnknownHtlc, WrongPreimage, NoUpdates, NotYourTurn, NotOpener}
use Rattle.channel.specs.declared.commitments.CommitmentState.{CommitmentState}
use Rattle.channel.specs.declared.plays.Action.{Action}
use Rattle.channel.specs.declared.plays.Action.TheVariants.{Own, Sign, Deliver}
use Rattle.channel.specs.declared.plays.PairStep.{PairStep}
use Rattle.channel.specs.declared.plays.PairStep.TheVariants.{Turn}
use Rattle.channel.specs.declared.plays.Outcome.{Outcome}
use Rattle.channel.specs.declared.plays.Outcome.TheVariants.{Done, Refused, NoMessage}
use Rattle.channel.specs.States.{Signing}
use Rattle.channel.specs.Connections.{opened}
use Rattle.channel.specs.Playing.{outcomes_of, connection_after}
use Rattle.channel.proofs.Trusting.{Played', by_trust, outcomes-trusting, connection-trusting}

abbrev by_a : Action → PairStep
by_a action = Turn A action

abbrev by_b : Action → PairStep
by_b action = Turn B action

-- an update of a side
abbrev a_makes : OwnUpdate → PairStep
a_makes u = by_a (Own u)

abbrev b_makes : OwnUpdate → PairStep
b_makes u = by_b (Own u)

-- a preimage, its SHA-256, and another preimage
abbrev preimage : List ℕ
preimage = replicate 32 5

abbrev hash : List ℕ
hash = 248 ∷ 73 ∷ 214 ∷ 115 ∷ 37 ∷ 250 ∷ 207 ∷ 4 ∷ 23 ∷ 123 ∷ 198 ∷ 99 ∷ 178 ∷ 220 ∷ 84 ∷ 64 ∷ 81 ∷ 131 ∷ 28 ∷ 88 ∷ 158 ∷ 245 ∷ 129 ∷ 212 ∷ 18 ∷ 242 ∷ 235 ∷ 164 ∷ 72 ∷ 52 ∷ 231 ∷ 124 ∷ []

abbrev wrong : List ℕ
wrong = replicate 32 6

-- a commitment in numbers: its number, both balances, the number of HTLCs of each side, and the feerate
abbrev in_numbers : CommitmentState → List ℕ
in_numbers c = c.number ∷ c.view.a.balance_msat ∷ c.view.b.balance_msat ∷ length c.view.a.offered ∷ length c.view.b.offered ∷ c.view.feerate_per_kw ∷ []

-- the last of a list
abbrev last_of : List ℕ → List CommitmentState → List ℕ
last_of before [] = before
last_of before (c ∷ cs) = last_of (in_numbers c) cs

abbrev newest : List CommitmentState → List ℕ
newest cs = last_of [] cs

abbrev terms_0 : OutPoint → BaseKeys → Terms
terms_0 funding bases = record {
  funding = funding;
  capacity_sat = 2000;
  opener = A;
  feerate_per_kw = 0;
  a = record { dust_sat = 546; delay_blocks = 144; minimum_msat = 1; start_msat = 1000000; bases = bases };
  b = record { dust_sat = 546; delay_blocks = 144; minimum_msat = 0; start_msat = 1000000; bases = bases };
  limited = lit≤ tt;
  whole = refl;
  short_a = lit< tt;
  short_b = lit< tt;
}

abbrev steps_0 : List PairStep
steps_0 =
    by_a Deliver ∷ by_b Deliver ∷ by_a Sign ∷ by_b Deliver ∷ b_makes (Offer 1 hash 500) ∷ a_makes (Fulfil 1 preimage) ∷ by_a Deliver ∷
    by_b Sign ∷ by_a Deliver ∷ b_makes (Offer 500000 hash 500) ∷ by_b Deliver ∷ by_a Deliver ∷ by_b Sign ∷ a_makes (Offer 999 hash 500) ∷
    by_b Deliver ∷ by_a Sign ∷ by_a Sign ∷ b_makes (Offer 200000 hash 500) ∷ a_makes (Offer 0 hash 500) ∷ by_a Sign ∷ by_b Deliver ∷ by_b Sign ∷
    a_makes (Offer 1000000 hash 1) ∷ by_a Deliver ∷ by_b Deliver ∷ b_makes (SetFee 77) ∷ a_makes (Offer 999 hash 500) ∷ by_b Deliver ∷
    b_makes (Fail 1) ∷ by_b Sign ∷ by_b Sign ∷ by_a Deliver ∷ by_a Deliver ∷ by_a Deliver ∷ by_b Deliver ∷ by_b Deliver ∷
    b_makes (Offer 2000000 hash 499999999) ∷ by_b Deliver ∷ by_a Deliver ∷ by_a Sign ∷ by_b Deliver ∷ a_makes (Fulfil 0 preimage) ∷ by_b Sign ∷
    by_b Sign ∷ by_b Deliver ∷ by_a Deliver ∷ by_a Deliver ∷ by_b Deliver ∷ a_makes (Offer 1000000 hash 500000000) ∷ by_a Deliver ∷
    a_makes (Fulfil 2 wrong) ∷ by_b Sign ∷ a_makes (Fail 0) ∷ by_b Sign ∷ b_makes (Fulfil 1 wrong) ∷ by_a Sign ∷ by_b Deliver ∷ b_makes (Fail 1) ∷
    by_a Deliver ∷ b_makes (Fulfil 1 preimage) ∷ by_a Deliver ∷ by_a Deliver ∷ by_a Deliver ∷ a_makes (Offer 2000000 hash 500) ∷ b_makes (Fail 0) ∷
    by_b Deliver ∷ a_makes (Fail 2) ∷ by_b Deliver ∷ by_a Deliver ∷ a_makes (Fulfil 1 wrong) ∷ []

abbrev terms_1 : OutPoint → BaseKeys → Terms
terms_1 funding bases = record {
  funding = funding;
  capacity_sat = 2000;
  opener = A;
  feerate_per_kw = 253;
  a = record { dust_sat = 546; delay_blocks = 144; minimum_msat = 1000; start_msat = 600000; bases = bases };
  b = record { dust_sat = 546; delay_blocks = 144; minimum_msat = 1; start_msat = 1400000; bases = bases };
  limited = lit≤ tt;
  whole = refl;
  short_a = lit< tt;
  short_b = lit< tt;
}

abbrev steps_1 : List PairStep
steps_1 =
    by_b Deliver ∷ b_makes (Offer 500000 hash 500) ∷ by_a Deliver ∷ by_a Deliver ∷ by_b Sign ∷ by_a Deliver ∷ by_b Sign ∷ by_b Deliver ∷
    a_makes (SetFee 0) ∷ by_b Deliver ∷ a_makes (Offer 1000 hash 500) ∷ by_b Deliver ∷ a_makes (Offer 600001 hash 500000000) ∷ by_a Deliver ∷
    b_makes (SetFee 0) ∷ by_b Sign ∷ by_b Sign ∷ by_b Sign ∷ a_makes (Offer 200000 hash 500) ∷ by_b Deliver ∷ b_makes (Fulfil 3 preimage) ∷
    by_a Deliver ∷ by_a Sign ∷ by_b Deliver ∷ by_a Deliver ∷ by_a Sign ∷ by_b Deliver ∷ a_makes (Offer 2000000 hash 1) ∷ by_a Deliver ∷
    by_b Deliver ∷ by_b Deliver ∷ a_makes (Offer 500000 hash 500) ∷ b_makes (Fulfil 1 preimage) ∷ a_makes (Fulfil 0 preimage) ∷ by_a Sign ∷
    a_makes (Offer 1 hash 500) ∷ by_b Deliver ∷ a_makes (Fail 0) ∷ by_b Deliver ∷ by_b Sign ∷ b_makes (Offer 1 hash 500) ∷ by_b Deliver ∷
    by_a Deliver ∷ by_a Deliver ∷ a_makes (Fulfil 0 wrong) ∷ by_b Deliver ∷ by_a Sign ∷ by_b Sign ∷ a_makes (Offer 0 hash 500) ∷
    a_makes (SetFee 0) ∷ by_b Deliver ∷ by_a Deliver ∷ by_a Sign ∷ by_b Deliver ∷ by_b Sign ∷ b_makes (Offer 2000000 hash 500) ∷ by_a Deliver ∷
    by_b Deliver ∷ a_makes (SetFee 0) ∷ by_a Deliver ∷ by_b Sign ∷ b_makes (Fulfil 0 wrong) ∷ a_makes (Offer 2000000 hash 499999999) ∷
    by_b Deliver ∷ by_b Deliver ∷ by_a Deliver ∷ b_makes (Offer 0 hash 1) ∷ b_makes (Fulfil 2 preimage) ∷ by_b Sign ∷ by_a Sign ∷ []

abbrev terms_2 : OutPoint → BaseKeys → Terms
terms_2 funding bases = record {
  funding = funding;
  capacity_sat = 1000000;
  opener = B;
  feerate_per_kw = 0;
  a = record { dust_sat = 546; delay_blocks = 144; minimum_msat = 1; start_msat = 500000000; bases = bases };
  b = record { dust_sat = 546; delay_blocks = 144; minimum_msat = 1; start_msat = 500000000; bases = bases };
  limited = lit≤ tt;
  whole = refl;
  short_a = lit< tt;
  short_b = lit< tt;
}

abbrev steps_2 : List PairStep
steps_2 =
    a_makes (Offer 999 hash 500) ∷ by_b Deliver ∷ by_b Sign ∷ by_b Sign ∷ by_a Deliver ∷ by_a Sign ∷ by_b Sign ∷ by_a Deliver ∷ by_b Deliver ∷
    b_makes (Offer 250000000 hash 500) ∷ b_makes (Fulfil 2 preimage) ∷ by_b Deliver ∷ by_b Sign ∷ by_b Sign ∷ by_a Deliver ∷ by_a Deliver ∷
    b_makes (Offer 1 hash 499999999) ∷ by_a Deliver ∷ by_a Sign ∷ by_b Deliver ∷ by_b Sign ∷ by_a Deliver ∷ by_b Deliver ∷ a_makes (SetFee 0) ∷
    by_b Sign ∷ by_a Deliver ∷ b_makes (Offer 1000 hash 500) ∷ by_a Deliver ∷ by_a Deliver ∷ by_a Sign ∷ by_b Deliver ∷ by_b Deliver ∷
    by_a Deliver ∷ a_makes (Fulfil 1 wrong) ∷ by_b Deliver ∷ a_makes (Offer 1000 hash 500) ∷ by_b Deliver ∷ by_a Sign ∷
    a_makes (Fulfil 0 preimage) ∷ by_b Deliver ∷ by_a Deliver ∷ by_b Sign ∷ a_makes (Offer 500000000 hash 500) ∷ by_a Sign ∷ by_a Deliver ∷
    by_a Sign ∷ by_a Sign ∷ by_b Deliver ∷ by_b Deliver ∷ by_a Deliver ∷ by_b Sign ∷ by_b Deliver ∷ by_b Sign ∷ by_a Sign ∷ a_makes (Fail 1) ∷
    by_a Sign ∷ a_makes (Offer 250000000 hash 500) ∷ by_b Deliver ∷ by_b Sign ∷ by_b Deliver ∷ by_b Deliver ∷ b_makes (Fulfil 0 preimage) ∷
    by_a Deliver ∷ by_b Deliver ∷ a_makes (Fulfil 1 preimage) ∷ by_a Deliver ∷ by_a Deliver ∷ a_makes (Offer 999 hash 500000000) ∷ by_b Deliver ∷
    by_b Deliver ∷ []

abbrev terms_3 : OutPoint → BaseKeys → Terms
terms_3 funding bases = record {
  funding = funding;
  capacity_sat = 2000;
  opener = B;
  feerate_per_kw = 253;
  a = record { dust_sat = 546; delay_blocks = 144; minimum_msat = 0; start_msat = 1000000; bases = bases };
  b = record { dust_sat = 546; delay_blocks = 144; minimum_msat = 1; start_msat = 1000000; bases = bases };
  limited = lit≤ tt;
  whole = refl;
  short_a = lit< tt;
  short_b = lit< tt;
}

abbrev steps_3 : List PairStep
steps_3 =
    b_makes (Offer 200000 hash 500) ∷ by_a Sign ∷ b_makes (SetFee 253) ∷ by_a Deliver ∷ by_a Deliver ∷ b_makes (Offer 200000 hash 500) ∷
    by_a Deliver ∷ by_b Deliver ∷ by_b Deliver ∷ by_b Sign ∷ by_a Deliver ∷ by_b Deliver ∷ by_b Deliver ∷ by_b Deliver ∷ by_a Sign ∷
    by_b Sign ∷ by_b Deliver ∷ a_makes (Offer 1000000 hash 500) ∷ a_makes (Fulfil 1 wrong) ∷ by_b Sign ∷ by_b Deliver ∷ by_b Sign ∷
    by_a Deliver ∷ by_a Deliver ∷ by_a Sign ∷ by_b Deliver ∷ by_a Deliver ∷ by_a Deliver ∷ a_makes (Fulfil 0 wrong) ∷ b_makes (SetFee 77) ∷
    by_b Deliver ∷ by_b Sign ∷ by_a Deliver ∷ a_makes (SetFee 253) ∷ by_a Deliver ∷ a_makes (Offer 999 hash 500000000) ∷
    a_makes (Offer 1 hash 500) ∷ b_makes (Offer 1 hash 499999999) ∷ a_makes (Fulfil 1 preimage) ∷ by_a Deliver ∷ by_a Sign ∷ by_b Deliver ∷
    a_makes (Fulfil 1 wrong) ∷ b_makes (Fulfil 0 wrong) ∷ by_b Sign ∷ by_a Sign ∷ b_makes (Offer 1000001 hash 500000000) ∷
    b_makes (Offer 0 hash 500000000) ∷ b_makes (Fulfil 0 preimage) ∷ by_b Sign ∷ by_b Deliver ∷ b_makes (Offer 200000 hash 500) ∷ by_b Sign ∷
    a_makes (Offer 999 hash 500) ∷ b_makes (Fulfil 0 wrong) ∷ by_a Deliver ∷ by_b Deliver ∷ by_b Deliver ∷ by_a Deliver ∷ by_b Sign ∷
    b_makes (Offer 0 hash 500) ∷ by_b Sign ∷ by_b Sign ∷ by_b Sign ∷ by_a Deliver ∷ by_a Deliver ∷ by_a Deliver ∷ by_b Deliver ∷ by_a Sign ∷
    by_b Deliver ∷ []

abbrev terms_4 : OutPoint → BaseKeys → Terms
terms_4 funding bases = record {
  funding = funding;
  capacity_sat = 2000;
  opener = B;
  feerate_per_kw = 0;
  a = record { dust_sat = 546; delay_blocks = 144; minimum_msat = 1; start_msat = 1000000; bases = bases };
  b = record { dust_sat = 546; delay_blocks = 144; minimum_msat = 1; start_msat = 1000000; bases = bases };
  limited = lit≤ tt;
  whole = refl;
  short_a = lit< tt;
  short_b = lit< tt;
}

abbrev steps_4 : List PairStep
steps_4 =
    b_makes (Offer 1 hash 500) ∷ by_a Deliver ∷ a_makes (Offer 200000 hash 500) ∷ by_a Deliver ∷ by_a Sign ∷ by_b Deliver ∷
    b_makes (Offer 1000000 hash 500) ∷ by_b Deliver ∷ by_a Deliver ∷ by_a Deliver ∷ by_b Sign ∷ by_a Sign ∷ by_a Sign ∷
    b_makes (Fulfil 3 preimage) ∷ a_makes (Offer 500000 hash 500) ∷ b_makes (Offer 1000001 hash 500) ∷ by_b Deliver ∷ by_b Deliver ∷ by_a Deliver ∷
    by_b Deliver ∷ b_makes (Fulfil 0 wrong) ∷ b_makes (Offer 200000 hash 500000000) ∷ b_makes (Offer 200000 hash 500) ∷ by_b Sign ∷ by_a Deliver ∷
    by_a Deliver ∷ by_a Sign ∷ by_b Deliver ∷ by_b Sign ∷ b_makes (Fail 2) ∷ by_b Deliver ∷ by_b Deliver ∷ by_a Deliver ∷ by_b Sign ∷
    by_a Sign ∷ by_a Deliver ∷ b_makes (Offer 200000 hash 1) ∷ b_makes (Fulfil 0 preimage) ∷ by_a Sign ∷ a_makes (Offer 500000 hash 499999999) ∷
    by_a Deliver ∷ b_makes (Fulfil 0 preimage) ∷ a_makes (Offer 1 hash 500) ∷ by_b Deliver ∷ by_a Deliver ∷ by_b Deliver ∷ by_b Deliver ∷
    by_b Sign ∷ by_a Deliver ∷ b_makes (Fail 1) ∷ by_a Deliver ∷ b_makes (Fail 1) ∷ a_makes (Fulfil 1 preimage) ∷ by_a Sign ∷ by_b Sign ∷
    by_b Deliver ∷ b_makes (Fulfil 1 preimage) ∷ by_b Sign ∷ a_makes (SetFee 77) ∷ b_makes (Fail 1) ∷ by_b Deliver ∷ by_a Deliver ∷ by_b Deliver ∷
    by_b Sign ∷ by_a Deliver ∷ by_b Deliver ∷ b_makes (SetFee 50000) ∷ by_a Sign ∷ by_b Deliver ∷ b_makes (Offer 1000001 hash 500000000) ∷ []

abbrev terms_5 : OutPoint → BaseKeys → Terms
terms_5 funding bases = record {
  funding = funding;
  capacity_sat = 5000;
  opener = B;
  feerate_per_kw = 1000;
  a = record { dust_sat = 546; delay_blocks = 144; minimum_msat = 0; start_msat = 2500000; bases = bases };
  b = record { dust_sat = 546; delay_blocks = 144; minimum_msat = 0; start_msat = 2500000; bases = bases };
  limited = lit≤ tt;
  whole = refl;
  short_a = lit< tt;
  short_b = lit< tt;
}

abbrev steps_5 : List PairStep
steps_5 =
    by_b Sign ∷ b_makes (Offer 999 hash 500) ∷ by_a Deliver ∷ by_a Deliver ∷ by_b Deliver ∷ by_a Sign ∷ b_makes (Fulfil 0 preimage) ∷
    by_a Deliver ∷ by_a Deliver ∷ by_b Deliver ∷ a_makes (Offer 0 hash 500) ∷ by_a Deliver ∷ by_b Deliver ∷ by_b Sign ∷ by_a Deliver ∷
    by_b Deliver ∷ a_makes (Offer 999 hash 500) ∷ by_b Deliver ∷ by_b Sign ∷ by_b Deliver ∷ by_a Sign ∷ b_makes (Offer 1250000 hash 500) ∷
    by_b Sign ∷ a_makes (Offer 1000 hash 500) ∷ by_b Sign ∷ b_makes (Offer 5000000 hash 500000000) ∷ by_a Deliver ∷ by_b Deliver ∷ by_b Sign ∷
    by_b Deliver ∷ by_a Sign ∷ by_a Deliver ∷ by_a Deliver ∷ a_makes (Offer 1000 hash 500) ∷ a_makes (Fail 0) ∷ by_a Sign ∷ by_b Deliver ∷
    by_b Deliver ∷ by_b Deliver ∷ a_makes (Offer 5000000 hash 1) ∷ a_makes (Offer 0 hash 500) ∷ a_makes (Offer 999 hash 500000000) ∷ by_b Deliver ∷
    by_b Sign ∷ by_b Sign ∷ by_a Deliver ∷ by_a Deliver ∷ by_a Sign ∷ a_makes (SetFee 50000) ∷ by_b Deliver ∷ by_b Sign ∷
    a_makes (Fulfil 1 wrong) ∷ b_makes (Fulfil 0 preimage) ∷ by_a Deliver ∷ by_b Deliver ∷ b_makes (Fulfil 1 preimage) ∷ a_makes (Fulfil 0 preimage) ∷
    by_b Sign ∷ by_a Deliver ∷ b_makes (Fulfil 2 preimage) ∷ by_a Deliver ∷ by_a Deliver ∷ by_a Sign ∷ by_b Deliver ∷
    a_makes (Offer 2500001 hash 500) ∷ by_b Deliver ∷ by_a Deliver ∷ b_makes (Fulfil 1 preimage) ∷ b_makes (Fail 2) ∷ by_b Deliver ∷ []

-- what a play of a new channel is told to give: the outcomes, and each side's newest commitment
pub record Told : Type 0 where
  pub outcomes : List Outcome
  pub newest_of_a : List ℕ
  pub newest_of_b : List ℕ

abbrev told : Played' → Told
told p = record { outcomes = p.outcomes; newest_of_a = newest p.connection.a.mine; newest_of_b = newest p.connection.b.mine }

-- it computes without the tests of deliveries
gives : (tokens_of : Signing) (terms : Terms) (seed_a seed_b : List ℕ) (steps : List PairStep) (t : Told) → told (by_trust tokens_of (opened terms seed_a seed_b) steps) ≡ t
    → told (record { connection = connection_after tokens_of (opened terms seed_a seed_b) steps; outcomes = outcomes_of tokens_of (opened terms seed_a seed_b) steps }) ≡ t
gives tokens_of terms seed_a seed_b steps t e =
    let w = opened terms seed_a seed_b in
    ap (λ v. told (record { connection = v; outcomes = outcomes_of tokens_of w steps })) (connection-trusting tokens_of terms seed_a seed_b steps)
    ∙ ap (λ os. told (record { connection = (by_trust tokens_of w steps).connection; outcomes = os })) (outcomes-trusting tokens_of terms seed_a seed_b steps) ∙ e

module _ (tokens_of : Signing) (funding : OutPoint) (bases : BaseKeys) (seed_a seed_b : List ℕ) where
  -- what the steps give from a new channel of these terms
  abbrev gives_of : Terms → List PairStep → Told
  gives_of terms steps = let w = opened terms seed_a seed_b in told (record { connection = connection_after tokens_of w steps; outcomes = outcomes_of tokens_of w steps })

  abbrev told_0 : Told
  told_0 = record {
    outcomes =
        NoMessage ∷ NoMessage ∷ Refused NoUpdates ∷ NoMessage ∷ Done ∷ Refused UnknownHtlc ∷ Done ∷ Done ∷ Done ∷ Done ∷ Done ∷ Done ∷ Done ∷
        Done ∷ Done ∷ Done ∷ Refused NotYourTurn ∷ Done ∷ Refused AmountZero ∷ Refused NotYourTurn ∷ Done ∷ Refused NotYourTurn ∷
        Refused OverBalance ∷ Done ∷ Done ∷ Refused NotOpener ∷ Done ∷ Done ∷ Refused UnknownHtlc ∷ Done ∷ Refused NotYourTurn ∷ Done ∷ Done ∷
        Done ∷ Done ∷ NoMessage ∷ Refused OverBalance ∷ NoMessage ∷ NoMessage ∷ Done ∷ Done ∷ Done ∷ Done ∷ Refused NotYourTurn ∷ Done ∷ Done ∷
        Done ∷ Done ∷ Refused ExpiryTooLarge ∷ NoMessage ∷ Refused WrongPreimage ∷ Refused NoUpdates ∷ Refused UnknownHtlc ∷
        Refused NoUpdates ∷ Refused WrongPreimage ∷ Done ∷ Done ∷ Done ∷ Done ∷ Refused UnknownHtlc ∷ Done ∷ NoMessage ∷ NoMessage ∷
        Refused OverBalance ∷ Done ∷ NoMessage ∷ Done ∷ Done ∷ Done ∷ Refused WrongPreimage ∷ [];
    newest_of_a = 4 ∷ 998002 ∷ 299999 ∷ 2 ∷ 3 ∷ 0 ∷ [];
    newest_of_b = 3 ∷ 998003 ∷ 299999 ∷ 2 ∷ 2 ∷ 0 ∷ [];
  }

  play_0 : gives_of (terms_0 funding bases) steps_0 ≡ told_0
  unfolding sha256 digest_bytes hash_after compress rounds schedule first_words
  play_0 = gives tokens_of (terms_0 funding bases) seed_a seed_b steps_0 told_0 refl

  abbrev told_1 : Told
  told_1 = record {
    outcomes =
        NoMessage ∷ Done ∷ Done ∷ NoMessage ∷ Done ∷ Done ∷ Refused NotYourTurn ∷ Done ∷ Done ∷ Done ∷ Done ∷ Done ∷ Refused ExpiryTooLarge ∷
        NoMessage ∷ Refused NotOpener ∷ Refused NoUpdates ∷ Refused NoUpdates ∷ Refused NoUpdates ∷ Done ∷ Done ∷ Refused UnknownHtlc ∷
        NoMessage ∷ Done ∷ Done ∷ Done ∷ Refused NoUpdates ∷ NoMessage ∷ Refused OverBalance ∷ NoMessage ∷ NoMessage ∷ NoMessage ∷
        Refused OverBalance ∷ Refused UnknownHtlc ∷ Done ∷ Done ∷ Done ∷ Done ∷ Refused UnknownHtlc ∷ Done ∷ Done ∷ Refused BelowMinimum ∷
        Done ∷ Done ∷ Done ∷ Refused UnknownHtlc ∷ Done ∷ Done ∷ Refused NoUpdates ∷ Refused AmountZero ∷ Done ∷ Done ∷ Done ∷ Done ∷ Done ∷
        Done ∷ Refused OverBalance ∷ Done ∷ Done ∷ Done ∷ Done ∷ Refused NotYourTurn ∷ Refused WrongPreimage ∷ Refused OverBalance ∷ Done ∷
        Done ∷ NoMessage ∷ Refused AmountZero ∷ Done ∷ Done ∷ Done ∷ [];
    newest_of_a = 3 ∷ 898999 ∷ 900000 ∷ 3 ∷ 0 ∷ 0 ∷ [];
    newest_of_b = 4 ∷ 898999 ∷ 900000 ∷ 3 ∷ 0 ∷ 0 ∷ [];
  }

  play_1 : gives_of (terms_1 funding bases) steps_1 ≡ told_1
  unfolding sha256 digest_bytes hash_after compress rounds schedule first_words
  play_1 = gives tokens_of (terms_1 funding bases) seed_a seed_b steps_1 told_1 refl

  abbrev told_2 : Told
  told_2 = record {
    outcomes =
        Done ∷ Done ∷ Refused NoUpdates ∷ Refused NoUpdates ∷ NoMessage ∷ Done ∷ Refused NoUpdates ∷ NoMessage ∷ Done ∷ Done ∷
        Refused UnknownHtlc ∷ NoMessage ∷ Done ∷ Refused NotYourTurn ∷ Done ∷ Done ∷ Done ∷ Done ∷ Done ∷ Done ∷ Done ∷ Done ∷ Done ∷
        Refused NotOpener ∷ Refused NotYourTurn ∷ Done ∷ Done ∷ Done ∷ Done ∷ Done ∷ Done ∷ Done ∷ Done ∷ Refused WrongPreimage ∷ NoMessage ∷
        Done ∷ Done ∷ Done ∷ Done ∷ Done ∷ Done ∷ Done ∷ Refused OverBalance ∷ Done ∷ Done ∷ Refused NotYourTurn ∷ Refused NotYourTurn ∷ Done ∷
        Done ∷ Done ∷ Refused NotYourTurn ∷ Done ∷ Done ∷ Done ∷ Done ∷ Refused NotYourTurn ∷ Done ∷ Done ∷ Refused NotYourTurn ∷ Done ∷ Done ∷
        Done ∷ Done ∷ Done ∷ Refused UnknownHtlc ∷ Done ∷ Done ∷ Refused ExpiryTooLarge ∷ NoMessage ∷ NoMessage ∷ [];
    newest_of_a = 4 ∷ 749998001 ∷ 249998999 ∷ 2 ∷ 2 ∷ 0 ∷ [];
    newest_of_b = 6 ∷ 749998001 ∷ 249998999 ∷ 2 ∷ 2 ∷ 0 ∷ [];
  }

  play_2 : gives_of (terms_2 funding bases) steps_2 ≡ told_2
  unfolding sha256 digest_bytes hash_after compress rounds schedule first_words
  play_2 = gives tokens_of (terms_2 funding bases) seed_a seed_b steps_2 told_2 refl

  abbrev told_3 : Told
  told_3 = record {
    outcomes =
        Done ∷ Refused NoUpdates ∷ Done ∷ Done ∷ Done ∷ Done ∷ Done ∷ NoMessage ∷ NoMessage ∷ Done ∷ Done ∷ Done ∷ NoMessage ∷ NoMessage ∷
        Done ∷ Refused NoUpdates ∷ Done ∷ Done ∷ Refused UnknownHtlc ∷ Refused NoUpdates ∷ Done ∷ Refused NoUpdates ∷ Done ∷ NoMessage ∷ Done ∷
        Done ∷ Done ∷ NoMessage ∷ Refused WrongPreimage ∷ Done ∷ NoMessage ∷ Done ∷ Done ∷ Refused NotOpener ∷ Done ∷ Refused ExpiryTooLarge ∷
        Refused OverBalance ∷ Done ∷ Done ∷ Done ∷ Done ∷ Done ∷ Refused UnknownHtlc ∷ Refused WrongPreimage ∷ Done ∷ Refused NotYourTurn ∷
        Refused ExpiryTooLarge ∷ Refused AmountZero ∷ Done ∷ Refused NotYourTurn ∷ Done ∷ Done ∷ Refused NotYourTurn ∷ Refused OverBalance ∷
        Refused UnknownHtlc ∷ Done ∷ Done ∷ Done ∷ Done ∷ Done ∷ Refused AmountZero ∷ Refused NotYourTurn ∷ Refused NotYourTurn ∷
        Refused NotYourTurn ∷ Done ∷ Done ∷ Done ∷ Done ∷ Done ∷ Done ∷ [];
    newest_of_a = 4 ∷ 200000 ∷ 1399999 ∷ 0 ∷ 3 ∷ 77 ∷ [];
    newest_of_b = 4 ∷ 200000 ∷ 1399999 ∷ 0 ∷ 3 ∷ 77 ∷ [];
  }

  play_3 : gives_of (terms_3 funding bases) steps_3 ≡ told_3
  unfolding sha256 digest_bytes hash_after compress rounds schedule first_words
  play_3 = gives tokens_of (terms_3 funding bases) seed_a seed_b steps_3 told_3 refl

  abbrev told_4 : Told
  told_4 = record {
    outcomes =
        Done ∷ Done ∷ Done ∷ NoMessage ∷ Done ∷ Done ∷ Refused OverBalance ∷ Done ∷ Done ∷ NoMessage ∷ Done ∷ Refused NoUpdates ∷
        Refused NoUpdates ∷ Refused UnknownHtlc ∷ Done ∷ Refused OverBalance ∷ Done ∷ NoMessage ∷ Done ∷ Done ∷ Refused WrongPreimage ∷
        Refused ExpiryTooLarge ∷ Done ∷ Done ∷ Done ∷ Done ∷ Done ∷ Done ∷ Refused NoUpdates ∷ Refused UnknownHtlc ∷ Done ∷ NoMessage ∷ Done ∷
        Done ∷ Refused NoUpdates ∷ Done ∷ Done ∷ Done ∷ Refused NoUpdates ∷ Refused OverBalance ∷ Done ∷ Refused UnknownHtlc ∷ Done ∷ Done ∷
        Done ∷ Done ∷ NoMessage ∷ Done ∷ Done ∷ Done ∷ Done ∷ Refused UnknownHtlc ∷ Done ∷ Done ∷ Refused NotYourTurn ∷ Done ∷
        Refused UnknownHtlc ∷ Done ∷ Refused NotOpener ∷ Refused UnknownHtlc ∷ Done ∷ Done ∷ Done ∷ Refused NotYourTurn ∷ Done ∷ Done ∷ Done ∷
        Done ∷ Done ∷ Refused ExpiryTooLarge ∷ [];
    newest_of_a = 5 ∷ 800000 ∷ 799999 ∷ 0 ∷ 3 ∷ 0 ∷ [];
    newest_of_b = 4 ∷ 999999 ∷ 799999 ∷ 1 ∷ 2 ∷ 0 ∷ [];
  }

  play_4 : gives_of (terms_4 funding bases) steps_4 ≡ told_4
  unfolding sha256 digest_bytes hash_after compress rounds schedule first_words
  play_4 = gives tokens_of (terms_4 funding bases) seed_a seed_b steps_4 told_4 refl

  abbrev told_5 : Told
  told_5 = record {
    outcomes =
        Refused NoUpdates ∷ Done ∷ Done ∷ NoMessage ∷ NoMessage ∷ Refused NoUpdates ∷ Refused UnknownHtlc ∷ NoMessage ∷ NoMessage ∷ NoMessage ∷
        Refused AmountZero ∷ NoMessage ∷ NoMessage ∷ Done ∷ Done ∷ Done ∷ Done ∷ Done ∷ Refused NoUpdates ∷ NoMessage ∷ Done ∷ Done ∷ Done ∷
        Done ∷ Refused NotYourTurn ∷ Refused ExpiryTooLarge ∷ Done ∷ Done ∷ Refused NotYourTurn ∷ Done ∷ Refused NotYourTurn ∷ Done ∷ Done ∷
        Done ∷ Done ∷ Done ∷ Done ∷ Done ∷ Done ∷ Refused OverBalance ∷ Refused AmountZero ∷ Refused ExpiryTooLarge ∷ Done ∷ Done ∷
        Refused NotYourTurn ∷ Done ∷ Done ∷ Refused NoUpdates ∷ Refused NotOpener ∷ Done ∷ Refused NoUpdates ∷ Refused WrongPreimage ∷ Done ∷
        Done ∷ NoMessage ∷ Done ∷ Refused UnknownHtlc ∷ Done ∷ Done ∷ Done ∷ Done ∷ Done ∷ Done ∷ Done ∷ Refused OverBalance ∷ Done ∷ Done ∷
        Refused UnknownHtlc ∷ Refused UnknownHtlc ∷ NoMessage ∷ [];
    newest_of_a = 4 ∷ 2497001 ∷ 1251999 ∷ 1 ∷ 1 ∷ 1000 ∷ [];
    newest_of_b = 3 ∷ 2497001 ∷ 1251999 ∷ 1 ∷ 1 ∷ 1000 ∷ [];
  }

  play_5 : gives_of (terms_5 funding bases) steps_5 ≡ told_5
  unfolding sha256 digest_bytes hash_after compress rounds schedule first_words
  play_5 = gives tokens_of (terms_5 funding bases) seed_a seed_b steps_5 told_5 refl
