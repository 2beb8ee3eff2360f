-- Plays under known terms: an HTLC that is failed, and a change of the feerate; their views were computed by hand.
use Rattle.std.proofs.Common.{◌≡◌, ℕ, List, [], ◌∷◌, replicate, ap, ◌∙◌, refl}
use Rattle.tx.specs.declared.input.OutPoint.{OutPoint}
use Rattle.terms.specs.declared.htlcs.Htlc.{Htlc}
use Rattle.terms.specs.declared.sides.Side.TheVariants.{A, B}
use Rattle.terms.specs.declared.views.View.{View}
use Rattle.terms.specs.declared.agreement.BaseKeys.{BaseKeys}
use Rattle.terms.specs.declared.agreement.Terms.{Terms}
use Rattle.updates.specs.declared.changes.OwnUpdate.{OwnUpdate}
use Rattle.updates.specs.declared.changes.OwnUpdate.TheVariants.{Offer, Fail, SetFee}
use Rattle.updates.specs.declared.errors.ChannelError.TheVariants.{NotOpener, NotYourTurn, UnknownHtlc}
use Rattle.channel.specs.declared.commitments.CommitmentState.{CommitmentState}
use Rattle.channel.specs.declared.plays.Action.{Action}
use Rattle.channel.specs.declared.plays.Action.TheVariants.{Own, Sign, Deliver}
use Rattle.channel.specs.declared.plays.PairStep.{PairStep}
use Rattle.channel.specs.declared.plays.PairStep.TheVariants.{Turn, Cut}
use Rattle.channel.specs.declared.plays.Outcome.TheVariants.{Done, Refused, NoMessage, NotConnected}
use Rattle.channel.specs.States.{Signing}
use Rattle.channel.specs.Connections.{Connection, opened}
use Rattle.channel.specs.Playing.{outcomes_of, connection_after}
use Rattle.channel.proofs.Samples.{sample_terms}
use Rattle.channel.proofs.Trusting.{outcomes-trusting, connection-trusting}

abbrev by_a : Action → PairStep
by_a action = Turn A action

abbrev by_b : Action → PairStep
by_b action = Turn B action

-- an update of a side
abbrev a_makes : OwnUpdate → PairStep
a_makes u = by_a (Own u)

abbrev b_makes : OwnUpdate → PairStep
b_makes u = by_b (Own u)

abbrev hash : List ℕ
hash = replicate 32 9

-- A offers an HTLC, and both sides sign and revoke
abbrev settled : List PairStep
settled =
    a_makes (Offer 10000000 hash 5) ∷ by_b Deliver ∷ by_a Sign ∷ by_b Deliver ∷ by_a Deliver ∷ by_b Sign ∷ by_a Deliver ∷ by_b Deliver ∷ []

-- then B fails it, and signs
abbrev failed : List PairStep
failed =
    a_makes (Offer 10000000 hash 5) ∷ by_b Deliver ∷ by_a Sign ∷ by_b Deliver ∷ by_a Deliver ∷ by_b Sign ∷ by_a Deliver ∷ by_b Deliver
    ∷ b_makes (Fail 0) ∷ by_a Deliver ∷ by_b Sign ∷ []

-- B fails it before the last revocation came, and twice; A signs twice
abbrev hasty : List PairStep
hasty =
    a_makes (Offer 10000000 hash 5) ∷ by_b Deliver ∷ by_a Sign ∷ by_a Sign ∷ by_b Deliver ∷ by_a Deliver ∷ by_b Sign ∷ by_a Deliver
    ∷ b_makes (Fail 0) ∷ by_b Deliver ∷ b_makes (Fail 0) ∷ b_makes (Fail 0) ∷ by_b Deliver ∷ []

-- A changes the feerate and offers an HTLC, and both sides sign and revoke; B may not change it
abbrev changed : List PairStep
changed =
    b_makes (SetFee 5000) ∷ a_makes (SetFee 5000) ∷ a_makes (Offer 3861000 hash 500) ∷ by_b Deliver ∷ by_b Deliver ∷ by_a Sign ∷ by_b Deliver ∷ by_a Deliver
    ∷ by_b Sign ∷ by_a Deliver ∷ by_b Deliver ∷ []

-- A's offer comes, its signature is lost, and A gives both again; before B's hello came it calls nothing
abbrev resumed : List PairStep
resumed =
    a_makes (Offer 10000000 hash 5) ∷ by_a Sign ∷ by_b Deliver ∷ Cut ∷ by_a Sign ∷ by_a Deliver ∷ by_a Sign ∷ by_b Deliver ∷ by_b Deliver ∷ by_b Deliver
    ∷ by_b Sign ∷ by_a Deliver ∷ by_a Deliver ∷ by_b Deliver ∷ by_b Deliver ∷ []

-- A's offer, which no signature covers, is forgotten on both sides, and its id is given again
abbrev offered_anew : List PairStep
offered_anew =
    a_makes (Offer 10000000 hash 5) ∷ by_b Deliver ∷ Cut ∷ by_b Deliver ∷ by_a Deliver ∷ a_makes (Offer 20000000 hash 6) ∷ by_b Deliver ∷ by_a Sign ∷ by_b Deliver ∷ []

abbrev htlc : ℕ → ℕ → Htlc
htlc amount_msat expiry_height = record { id = 0; amount_msat = amount_msat; hash = hash; expiry_height = expiry_height }

abbrev pays : ℕ → ℕ → List Htlc → ℕ → View
pays a b offered feerate_per_kw = record { a = record { balance_msat = a; offered = offered }; b = record { balance_msat = b; offered = [] }; feerate_per_kw = feerate_per_kw }

abbrev views : List CommitmentState → List View
views [] = []
views (c ∷ cs) = c.view ∷ views cs

module _ (tokens_of : Signing) (funding : OutPoint) (bases : BaseKeys) (seed_a seed_b : List ℕ) where
  abbrev terms : Terms
  terms = sample_terms funding bases

  abbrev new : Connection
  new = opened terms seed_a seed_b

  outcomes_settled : outcomes_of tokens_of new settled ≡ Done ∷ Done ∷ Done ∷ Done ∷ Done ∷ Done ∷ Done ∷ Done ∷ []
  outcomes_settled = outcomes-trusting tokens_of terms seed_a seed_b settled ∙ refl

  outcomes_failed : outcomes_of tokens_of new failed ≡ Done ∷ Done ∷ Done ∷ Done ∷ Done ∷ Done ∷ Done ∷ Done ∷ Done ∷ Done ∷ Done ∷ []
  outcomes_failed = outcomes-trusting tokens_of terms seed_a seed_b failed ∙ refl

  outcomes_hasty : outcomes_of tokens_of new hasty ≡ Done ∷ Done ∷ Done ∷ Refused NotYourTurn ∷ Done ∷ Done ∷ Done ∷ Done ∷ Refused UnknownHtlc ∷ Done ∷ Done ∷ Refused UnknownHtlc ∷ NoMessage ∷ []
  outcomes_hasty = outcomes-trusting tokens_of terms seed_a seed_b hasty ∙ refl

  outcomes_changed : outcomes_of tokens_of new changed ≡ Refused NotOpener ∷ Done ∷ Done ∷ Done ∷ Done ∷ Done ∷ Done ∷ Done ∷ Done ∷ Done ∷ Done ∷ []
  outcomes_changed = outcomes-trusting tokens_of terms seed_a seed_b changed ∙ refl

  -- the HTLC that B failed stands in A's commitments till B's next signature comes
  views_failed : (views (connection_after tokens_of new failed).a.mine ≡ pays 80000000 20000000 [] 1000 ∷ pays 70000000 20000000 (htlc 10000000 5 ∷ []) 1000 ∷ [])
      × (views (connection_after tokens_of new failed).b.signed ≡ pays 80000000 20000000 [] 1000 ∷ pays 70000000 20000000 (htlc 10000000 5 ∷ []) 1000 ∷ pays 80000000 20000000 [] 1000 ∷ [])
  views_failed = (
    ap (λ (w : Connection). views w.a.mine) (connection-trusting tokens_of terms seed_a seed_b failed) ∙ refl,
    ap (λ (w : Connection). views w.b.signed) (connection-trusting tokens_of terms seed_a seed_b failed) ∙ refl,
  )

  -- both sides' commitments 1 have the new feerate
  views_changed : (views (connection_after tokens_of new changed).a.mine ≡ pays 80000000 20000000 [] 1000 ∷ pays 76139000 20000000 (htlc 3861000 500 ∷ []) 5000 ∷ [])
      × (views (connection_after tokens_of new changed).b.mine ≡ pays 80000000 20000000 [] 1000 ∷ pays 76139000 20000000 (htlc 3861000 500 ∷ []) 5000 ∷ [])
  views_changed = (
    ap (λ (w : Connection). views w.a.mine) (connection-trusting tokens_of terms seed_a seed_b changed) ∙ refl,
    ap (λ (w : Connection). views w.b.mine) (connection-trusting tokens_of terms seed_a seed_b changed) ∙ refl,
  )

  outcomes_resumed : outcomes_of tokens_of new resumed ≡ Done ∷ Done ∷ Done ∷ Done ∷ NotConnected ∷ Done ∷ Refused NotYourTurn ∷ Done ∷ Done ∷ Done ∷ Done ∷ Done ∷ Done ∷ Done ∷ NoMessage ∷ []
  outcomes_resumed = outcomes-trusting tokens_of terms seed_a seed_b resumed ∙ refl

  outcomes_anew : outcomes_of tokens_of new offered_anew ≡ Done ∷ Done ∷ Done ∷ Done ∷ Done ∷ Done ∷ Done ∷ Done ∷ Done ∷ []
  outcomes_anew = outcomes-trusting tokens_of terms seed_a seed_b offered_anew ∙ refl

  -- the HTLC stands once in each side's commitment 1; and of the two offers with one id, the one after the cut
  views_resumed : (views (connection_after tokens_of new resumed).a.mine ≡ pays 80000000 20000000 [] 1000 ∷ pays 70000000 20000000 (htlc 10000000 5 ∷ []) 1000 ∷ [])
      × (views (connection_after tokens_of new resumed).b.mine ≡ pays 80000000 20000000 [] 1000 ∷ pays 70000000 20000000 (htlc 10000000 5 ∷ []) 1000 ∷ [])
      × (views (connection_after tokens_of new offered_anew).b.mine ≡ pays 80000000 20000000 [] 1000 ∷ pays 60000000 20000000 (htlc 20000000 6 ∷ []) 1000 ∷ [])
  views_resumed = (
    ap (λ (w : Connection). views w.a.mine) (connection-trusting tokens_of terms seed_a seed_b resumed) ∙ refl,
    ap (λ (w : Connection). views w.b.mine) (connection-trusting tokens_of terms seed_a seed_b resumed) ∙ refl,
    ap (λ (w : Connection). views w.b.mine) (connection-trusting tokens_of terms seed_a seed_b offered_anew) ∙ refl,
  )
