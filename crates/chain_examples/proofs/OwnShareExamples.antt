-- What the law says of the node's own commitment on the chain of `OwnStageExamples`, and that it is so by computation: the node has its share, with no string that collides. No two claims are at one outpoint, they are worth what it
-- counts on less its deductions, and the least that could be read before; and of each it is known what became of it.
use Rattle.std.proofs.Common.{◌≡◌, ◌≢◌, ℕ, Bool, true, false, List, [], ◌∷◌, refl, sym, ap, ◌∙◌, subst, ⊎_elim, arith, lit<}
use Rattle.std.specs.Prelude.{◌↔◌}
use Rattle.std.specs.List.{Contains, AllPairs}
use Rattle.std.proofs.lemmas.Bool.{false≢true}
use Rattle.std.proofs.lemmas.List.Elements.{All-nil, All-cons}
use Rattle.std.proofs.lemmas.List.Kept.{AllPairs-cons}
use Rattle.sha2.specs.Sha256.{sha256, digest_bytes, hash_after, compress, rounds, schedule, first_words}
use Rattle.script.specs.Number.{digits, minimal_bytes_of}
use Rattle.tx.specs.declared.input.OutPoint.{OutPoint}
use Rattle.tx.specs.Fields.{unsigned_transaction, same_outpoint}
use Rattle.sighash.specs.Programs.{script_hash_program}
use Rattle.chain.specs.Blocks.{has_id}
use Rattle.chain.proofs.Noting.{itself}
use Rattle.terms.specs.declared.htlcs.Htlc.{Htlc}
use Rattle.terms.specs.declared.sides.Side.TheVariants.{A}
use Rattle.terms.specs.Scripts.{number_push}
use Rattle.commit.specs.declared.outputs.HtlcOutput.{HtlcOutput}
use Rattle.commit.specs.Order.{output_cmp, in_order}
use Rattle.commit.specs.Outputs.{to_local_script, outputs_of}
use Rattle.commit.specs.Commitments.{Contents, spending, commitment_of, transaction_of, htlcs_from, htlcs_of, htlc_tx_of}
use Rattle.penalty.specs.Claimable.{Claimable, claims_by}
use Rattle.channel.specs.Tokens.{contents_of}
use Rattle.worth_laws.specs.Shares.{counted_msat, deductions}
use Rattle.worth_laws.specs.Counted.{counted, fees_counted}
use Rattle.worth_laws.specs.Least.{at_least_sat}
use Rattle.safety.specs.Standing.{StandsAt}
use Rattle.safety.specs.Whereabouts.{IsOnChain}
use Rattle.safety.proofs.Slots.{contains_cases}
use Rattle.safety.proofs.Lists.{contains_none}
use Rattle.safety.proofs.WorkedChannels.{block}
use Rattle.balance_laws.specs.Claims.{AreWorth}
use Rattle.safety.specs.Resolutions.{Resolution, IsPaidOrLate}
use Rattle.balance_laws.specs.OwnBreaks.{OwnBreaks}
use Rattle.balance_laws.specs.Own.{HasOwnShare, OwnAreResolved}
use Rattle.balance_laws.proofs.Apart.{AreApart}
use Rattle.chain_examples.proofs.SeededChannels.{seeded_terms, seeded_view, seeded_own, back_htlc, paid_htlc, received_htlc, knows_all, seeded}
use Rattle.chain_examples.proofs.SeededRecorded.{seeded_own_contents, seeded_own_is, seeded_own_named, seeded_own_delayed_program, seeded_own_stage_1_id, seeded_own_stage_1_named}
use Rattle.chain_examples.proofs.SeededClosing.{closes, closes_is}
use Rattle.chain_examples.proofs.OwnSpends.{is_absent}
use Rattle.chain_examples.proofs.OwnReleases.{releases}
use Rattle.chain_examples.proofs.OwnStageExamples.{channels, chain, succeeds, succeeds_is, pays, pays_is, claims_local_is, expires, expires_is, claims_second, claims_second_is, are_watched, unrevoked, own_rules}
use Rattle.chain_examples.proofs.OwnStageOutcomes.{to_local, back, offered, received, stands, counted_are, each_became}
use Rattle.chain_examples.proofs.OwnWorthExamples.{value, is_worth}

-- ---- by the law, whichever preimages it has

closes_stands : StandsAt chain 1 closes
closes_stands = record { block = block (closes ∷ []); there = refl; within = (0, lit< tt, refl) }

closes_same : unsigned_transaction closes ≡ transaction_of seeded_own_contents
unfolding transaction_of
closes_same = refl

on_chain : IsOnChain chain (transaction_of (contents_of seeded_terms seeded_own))
on_chain = subst (λ (c : Contents). IsOnChain chain (transaction_of c)) (sym seeded_own_is) (record { height = 1; signed = closes; stands = closes_stands; same = closes_same })

by_law : OwnAreResolved → (known : Htlc → Bool) → HasOwnShare channels chain (seeded releases) known seeded_own
by_law law known = law channels chain are_watched unrevoked (seeded releases) (0, lit< tt, refl) own_rules seeded_own refl on_chain known

-- ---- which HTLC transactions stand

abbrev StandsSo : HtlcOutput → Type 0
StandsSo x = (stands x.index ≡ true) ↔ IsOnChain chain (htlc_tx_of seeded_own_contents x)

expires_stands : StandsAt chain 4 expires
expires_stands = record { block = block (claims_second ∷ expires ∷ []); there = refl; within = (1, lit< tt, refl) }

expires_same : unsigned_transaction expires ≡ htlc_tx_of seeded_own_contents back_htlc
unfolding sha256 digest_bytes hash_after compress rounds schedule first_words digits minimal_bytes_of number_push script_hash_program to_local_script htlc_tx_of
expires_same = ap (λ (id : List ℕ). spending (record { txid = id; index = 0 }) 0 (record { value = 1337; script = seeded_own_delayed_program } ∷ []) 3) (sym seeded_own_named)

back_so : StandsSo back_htlc
back_so = ((λ e. record { height = 4; signed = expires; stands = expires_stands; same = expires_same }), (λ on. refl))

bare : unsigned_transaction (htlc_tx_of seeded_own_contents paid_htlc) ≡ htlc_tx_of seeded_own_contents paid_htlc
unfolding htlc_tx_of
bare = refl

none_has_it : has_id chain seeded_own_stage_1_id ≡ false
none_has_it = rw (closes_is, succeeds_is, pays_is, claims_local_is, expires_is, claims_second_is) refl

paid_so : StandsSo paid_htlc
paid_so = ((λ e. absurd (false≢true e)), (λ on. absurd (is_absent chain (htlc_tx_of seeded_own_contents paid_htlc) seeded_own_stage_1_id bare seeded_own_stage_1_named none_has_it on)))

succeeds_stands : StandsAt chain 2 succeeds
succeeds_stands = record { block = block (pays ∷ succeeds ∷ []); there = refl; within = (1, lit< tt, refl) }

succeeds_same : unsigned_transaction succeeds ≡ htlc_tx_of seeded_own_contents received_htlc
unfolding sha256 digest_bytes hash_after compress rounds schedule first_words digits minimal_bytes_of number_push script_hash_program to_local_script htlc_tx_of
succeeds_same = ap (λ (id : List ℕ). spending (record { txid = id; index = 2 }) 0 (record { value = 11297; script = seeded_own_delayed_program } ∷ []) 0) (sym seeded_own_named)

received_so : StandsSo received_htlc
received_so = ((λ e. record { height = 2; signed = succeeds; stands = succeeds_stands; same = succeeds_same }), (λ on. refl))

those : (x : HtlcOutput) → Contains (htlcs_of seeded_own_contents) x → StandsSo x
unfolding htlcs_from
those x i =
    ⊎_elim (λ (e : back_htlc ≡ x). subst StandsSo e back_so)
    (λ (j : Contains (paid_htlc ∷ received_htlc ∷ []) x).
    ⊎_elim (λ (e : paid_htlc ≡ x). subst StandsSo e paid_so)
    (λ (k : Contains (received_htlc ∷ []) x).
    ⊎_elim (λ (e : received_htlc ≡ x). subst StandsSo e received_so) (λ (z : Contains [] x). absurd (contains_none x z)) (contains_cases received_htlc [] x k))
    (contains_cases paid_htlc (received_htlc ∷ []) x j))
    (contains_cases back_htlc (paid_htlc ∷ received_htlc ∷ []) x i)

-- ---- the claims

differ : (a b : OutPoint) → same_outpoint a b ≡ false → a ≢ b
differ a b f e = false≢true (sym f ∙ ap (same_outpoint a) (sym e) ∙ itself a)

abbrev outpoint_of : Claimable → OutPoint
outpoint_of o = o.place.outpoint

two : (o p : Claimable) → same_outpoint (outpoint_of o) (outpoint_of p) ≡ false → AreApart o p
two o p e = differ (outpoint_of o) (outpoint_of p) e

apart : AllPairs AreApart (back ∷ offered ∷ received ∷ to_local ∷ [])
apart =
    AllPairs-cons AreApart back (offered ∷ received ∷ to_local ∷ [])
    (All-cons (AreApart back) offered (received ∷ to_local ∷ []) (two back offered refl)
    (All-cons (AreApart back) received (to_local ∷ []) (two back received refl) (All-cons (AreApart back) to_local [] (two back to_local refl) (All-nil (AreApart back)))))
    (AllPairs-cons AreApart offered (received ∷ to_local ∷ [])
    (All-cons (AreApart offered) received (to_local ∷ []) (two offered received refl) (All-cons (AreApart offered) to_local [] (two offered to_local refl) (All-nil (AreApart offered))))
    (AllPairs-cons AreApart received (to_local ∷ []) (All-cons (AreApart received) to_local [] (two received to_local refl) (All-nil (AreApart received)))
    (AllPairs-cons AreApart to_local [] (All-nil (AreApart to_local)) (λ i j x y m. absurd (omega (arith, m))))))

-- what could be read before the close at the least: what its own commitment gives once each of its HTLC transactions stands, 663 less for each HTLC that it offered and 703 less for the one that was offered to it
least_is : at_least_sat knows_all (seeded releases).state ≡ 73731
unfolding claims_by commitment_of outputs_of in_order output_cmp
least_is = refl

abbrev WorthOf : Contents → Type 0
WorthOf c =
    AreWorth (seeded releases) knows_all (counted true knows_all stands c) (fees_counted true knows_all stands c) (counted_msat knows_all A seeded_view) (deductions seeded_terms seeded_view true A knows_all)
    (λ o. Resolution OwnBreaks channels chain (IsPaidOrLate true c o) o)

worth_of : WorthOf seeded_own_contents
worth_of = record {
  apart = subst (AllPairs AreApart) (sym counted_are) apart;
  worth = is_worth;
  least = (let v = value in let l = least_is in omega (arith, v, l));
  each = each_became;
}

-- ---- so it has its share

has_share : HasOwnShare channels chain (seeded releases) knows_all seeded_own
has_share = record {
  stands = stands;
  those = subst (λ (c : Contents). (x : HtlcOutput) → Contains (htlcs_of c) x → (stands x.index ≡ true) ↔ IsOnChain chain (htlc_tx_of c x)) (sym seeded_own_is) those;
  claims = subst WorthOf (sym seeded_own_is) worth_of;
}
