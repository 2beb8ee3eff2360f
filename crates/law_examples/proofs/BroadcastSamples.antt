-- A channel with commitments of unlike amounts: four of side A, by number, of which the last two have HTLCs.
use Rattle.std.proofs.Common.{◌≡◌, ◌≢◌, ℕ, List, [], ◌∷◌, map, get_or, Some, None, refl, sym, ap, ◌∙◌, arith, lit≤}
use Rattle.std.proofs.lemmas.Slice.Eq.{bytes_eq-Decides}
use Rattle.sha2.specs.Sha256.{sha256}
use Rattle.tx.specs.Fields.{Transaction}
use Rattle.terms.specs.declared.htlcs.Htlc.{Htlc}
use Rattle.terms.specs.declared.agreement.Terms.{Terms}
use Rattle.terms.specs.declared.sides.Side.TheVariants.{A, B}
use Rattle.terms.specs.declared.views.Share.{Share}
use Rattle.terms.specs.declared.views.View.{View}
use Rattle.commit.specs.declared.fees.Direction.TheVariants.{Offered, Received}
use Rattle.commit.specs.Order.{in_order, output_cmp}
use Rattle.commit.specs.Outputs.{outputs_of}
use Rattle.commit.specs.Commitments.{Contents, commitment_of, transaction_of, htlcs_from, htlc_tx_of}
use Rattle.channel.specs.declared.commitments.CommitmentState.{CommitmentState}
use Rattle.channel.specs.Points.{point_at}
use Rattle.channel.specs.States.{State}
use Rattle.channel.specs.Tokens.{contents_of}
use Rattle.publish.specs.Published.{signed_transaction, signed_htlc_of, signed_htlc_tx_with}

-- the values that a transaction pays
abbrev pub values : Transaction → List ℕ
values t = map (λ o. o.value) t.outputs

-- transactions that pay other values at one place are two
pub two_of : (n : ℕ) (t u : Transaction) (xs ys : List ℕ) → values t ≡ xs → values u ≡ ys → get_or xs n 0 ≢ get_or ys n 0 → t ≢ u
two_of n t u xs ys p q apart e = apart (ap (λ zs. get_or zs n 0) (sym p ∙ ap (λ x. values x) e ∙ q))

abbrev pub preimage : List ℕ
preimage = 7 ∷ []

abbrev htlc : (id amount_msat expiry_height : ℕ) → Htlc
htlc id amount_msat expiry_height = record { id = id; amount_msat = amount_msat; hash = sha256 preimage; expiry_height = expiry_height }

abbrev share : ℕ → List Htlc → Share
share balance_msat offered = record { balance_msat = balance_msat; offered = offered }

abbrev view : ℕ → Share → Share → View
view feerate_per_kw a b = record { a = a; b = b; feerate_per_kw = feerate_per_kw }

module _ (base : State) where
  -- 200,000 satoshis, and B pays the fee
  abbrev pub terms : Terms
  terms = record base.held.terms {
    capacity_sat = 200000;
    opener = B;
    a = record base.held.terms.a { dust_sat = 546; start_msat = 90000000 };
    b = record base.held.terms.b { start_msat = 110000000 };
    limited = lit≤ tt;
    whole = refl;
    short_a = base.held.terms.short_a;
    short_b = base.held.terms.short_b;
  }

  abbrev commitment : ℕ → View → CommitmentState
  commitment number v = record { view = v; owner = A; number = number; point = point_at base.seed number }

  abbrev pub first : CommitmentState
  first = commitment 0 (view 1000 (share 90000000 []) (share 110000000 []))

  abbrev pub second : CommitmentState
  second = commitment 1 (view 1000 (share 91000000 []) (share 109000000 []))

  -- an HTLC each way
  abbrev pub third : CommitmentState
  third = commitment 2 (view 1000 (share 81000000 (htlc 0 10000000 510 ∷ [])) (share 98000000 (htlc 0 11000000 520 ∷ [])))

  -- and another one of A, at twice the feerate
  abbrev pub newest : CommitmentState
  newest = commitment 3 (view 2000 (share 69000000 (htlc 0 10000000 510 ∷ htlc 1 12000000 530 ∷ [])) (share 98000000 (htlc 0 11000000 520 ∷ [])))

  abbrev pub contents : CommitmentState → Contents
  contents c = contents_of terms c

  abbrev pub signed : CommitmentState → Transaction
  signed c = signed_transaction terms (contents c)

  -- the fee is 724 satoshis, and 172 more for each HTLC
  second_pays : values (signed second) ≡ 91000 ∷ 108276 ∷ []
  unfolding commitment_of transaction_of outputs_of in_order output_cmp
  second_pays = refl

  third_pays : values (signed third) ≡ 10000 ∷ 11000 ∷ 81000 ∷ 96932 ∷ []
  unfolding commitment_of transaction_of outputs_of in_order output_cmp
  third_pays = refl

  newest_pays : values (signed newest) ≡ 10000 ∷ 11000 ∷ 12000 ∷ 69000 ∷ 95520 ∷ []
  unfolding commitment_of transaction_of outputs_of in_order output_cmp
  newest_pays = refl

  -- ---- HTLC transactions

  -- those of commitment 2, and the first one of commitment 3
  abbrev pub timeout : Transaction
  timeout = signed_htlc_tx_with (contents third) (record { index = 0; direction = Offered; htlc = htlc 0 10000000 510 }) []

  abbrev pub success : Transaction
  success = signed_htlc_tx_with (contents third) (record { index = 1; direction = Received; htlc = htlc 0 11000000 520 }) preimage

  abbrev pub newest_timeout : Transaction
  newest_timeout = signed_htlc_tx_with (contents newest) (record { index = 0; direction = Offered; htlc = htlc 0 10000000 510 }) []

  -- HTLC-timeout pays 663 satoshis less than its output has, or twice as many less, and HTLC-success 703
  timeout_pays : values timeout ≡ 9337 ∷ []
  unfolding commitment_of htlc_tx_of
  timeout_pays = refl

  success_pays : values success ≡ 10297 ∷ []
  unfolding commitment_of htlc_tx_of
  success_pays = refl

  newest_timeout_pays : values newest_timeout ≡ 8674 ∷ []
  unfolding commitment_of htlc_tx_of
  newest_timeout_pays = refl

  -- ---- which are all different

  pub newest_not_third : signed newest ≢ signed third
  newest_not_third = two_of 2 (signed newest) (signed third) _ _ newest_pays third_pays (λ e. omega (arith, e))

  pub third_not_second : signed third ≢ signed second
  third_not_second = two_of 0 (signed third) (signed second) _ _ third_pays second_pays (λ e. omega (arith, e))

  pub timeout_not_success : timeout ≢ success
  timeout_not_success = two_of 0 timeout success _ _ timeout_pays success_pays (λ e. omega (arith, e))

  pub newest_timeout_not_that : newest_timeout ≢ timeout
  newest_timeout_not_that = two_of 0 newest_timeout timeout _ _ newest_timeout_pays timeout_pays (λ e. omega (arith, e))

  -- ---- which of them are there

  module _ (preimages : List (List ℕ)) where
    pub timeout_there : signed_htlc_of (contents third) 0 preimages ≡ Some timeout
    unfolding commitment_of outputs_of in_order output_cmp htlcs_from
    timeout_there = refl

    pub success_there : signed_htlc_of (contents third) 1 (preimage ∷ preimages) ≡ Some success
    unfolding commitment_of outputs_of in_order output_cmp htlcs_from
    success_there = rw ((bytes_eq-Decides (sha256 preimage) (sha256 preimage)).1 refl) refl

    pub newest_timeout_there : signed_htlc_of (contents newest) 0 preimages ≡ Some newest_timeout
    unfolding commitment_of outputs_of in_order output_cmp htlcs_from
    newest_timeout_there = refl

    -- commitment 2 has two HTLCs, and commitment 1 none
    pub no_third_htlc : signed_htlc_of (contents third) 2 preimages ≡ None
    unfolding commitment_of outputs_of in_order output_cmp htlcs_from
    no_third_htlc = refl

    pub no_htlc : (i : ℕ) → signed_htlc_of (contents second) i preimages ≡ None
    unfolding commitment_of outputs_of in_order output_cmp htlcs_from
    no_htlc i = refl

  pub no_preimage : signed_htlc_of (contents third) 1 [] ≡ None
  unfolding commitment_of outputs_of in_order output_cmp htlcs_from
  no_preimage = refl

  -- ---- the channel that has them

  abbrev peers : CommitmentState
  peers = record first { owner = B; point = base.point }

  abbrev pub state : State
  state = record base {
    held = record base.held { terms = terms; side = A };
    number = 3;
    peer_number = 0;
    secrets = [];
    mine = first ∷ second ∷ third ∷ newest ∷ [];
    signed = peers ∷ [];
  }
