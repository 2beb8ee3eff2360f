-- Each output of a revoked commitment is claimed, and that of each of its HTLC transactions.
use Rattle.std.proofs.Common.{◌≡◌, ℕ, zero, suc, ◌+◌, List, [], ◌∷◌, ◌++◌, map, Option, Some, None, refl, sym, ap, subst, ◌∙◌, arith}
use Rattle.std.specs.Prelude.{slice_get, option_map, Contains}
use Rattle.std.specs.List.{cons_option}
use Rattle.std.proofs.lemmas.List.Elements.{Contains-append_left, Contains-append_right}
use Rattle.std.proofs.lemmas.Option.{slice_get-map}
use Rattle.tx.specs.Parts.{Output}
use Rattle.tx.specs.Fields.{Transaction}
use Rattle.terms.specs.declared.htlcs.Htlc.{Htlc}
use Rattle.claim.specs.declared.parts.Place.{Place}
use Rattle.commit.specs.declared.fees.Direction.{Direction}
use Rattle.commit.specs.declared.outputs.OutputKind.{OutputKind}
use Rattle.commit.specs.declared.outputs.OutputKind.TheVariants.{ToLocal, ToRemote, ToHtlc}
use Rattle.commit.specs.declared.outputs.CommitmentOutput.{CommitmentOutput}
use Rattle.commit.specs.declared.outputs.HtlcOutput.{HtlcOutput}
use Rattle.commit.specs.Commitments.{Contents, tx_output, transaction_of, htlc_at, htlcs_from, htlcs_of, htlc_tx_at, htlc_tx_output, htlc_tx_of}
use Rattle.penalty.specs.Claimable.{Claimable, place_in, penalty_on, payment_on, htlc_penalty_on, second_stage_penalty, claims_on, claims_by, claims_from, commitment_in, claimable_of}
use Rattle.penalty.specs.Covering.{IsClaimedAt, EachOutputIsClaimed, EachSecondStageIsClaimed}
use Rattle.penalty.proofs.Second.{first_output}

first : (o : Claimable) (os : List Claimable) → Contains (o ∷ os) o
first o os = (0, omega arith, refl)

second : (o p : Claimable) (os : List Claimable) → Contains (o ∷ p ∷ os) p
second o p os = (1, omega arith, refl)

before : (os ps : List Claimable) (place : Place) → IsClaimedAt os place → IsClaimedAt (os ++ ps) place
before os ps place i = (i.0, Contains-append_left os ps i.0 i.1, i.2)

behind : (os ps : List Claimable) (place : Place) → IsClaimedAt ps place → IsClaimedAt (os ++ ps) place
behind os ps place i = (i.0, Contains-append_right os ps i.0 i.1, i.2)

on_output : (c : Contents) (index : ℕ) (place : Place) (kind : OutputKind) → IsClaimedAt (claims_on c index place kind) place
on_output c index place ToLocal = (penalty_on c place, first (penalty_on c place) [], refl)
on_output c index place ToRemote = (payment_on c place, first (payment_on c place) [], refl)
on_output c index place (ToHtlc direction h) =
    (htlc_penalty_on c direction h place, first (htlc_penalty_on c direction h place) (second_stage_penalty c (record { index = index; direction = direction; htlc = h }) ∷ []), refl)

on_second : (c : Contents) (index : ℕ) (place : Place) (direction : Direction) (htlc : Htlc) (h : HtlcOutput) → record { index = index; direction = direction; htlc = htlc } ≡ h
    → IsClaimedAt (claims_on c index place (ToHtlc direction htlc)) (place_in (htlc_tx_of c h) 0 (htlc_tx_output c h))
on_second c index place direction htlc h e = (
  second_stage_penalty c (record { index = index; direction = direction; htlc = htlc }),
  second (htlc_penalty_on c direction htlc place) (second_stage_penalty c (record { index = index; direction = direction; htlc = htlc })) [],
  ap (λ (x : HtlcOutput). place_in (htlc_tx_of c x) 0 (htlc_tx_output c x)) e,
)

some_is : {X : Type 0} (x y : X) → Some x ≡ Some y → x ≡ y
some_is x y e = cc

none_some : {X : Type 0} (x : X) → None ≡ Some x → ⊥
none_some x e = cc

each_from : (c : Contents) (i : ℕ) (os : List CommitmentOutput) (n : ℕ) (o : CommitmentOutput) → slice_get os n ≡ Some o
    → IsClaimedAt (claims_from c i os) (place_in (transaction_of c) (i + n) (tx_output o))
unfolding claims_by
each_from c i [] n o e = absurd (none_some o e)
each_from c i (p ∷ os) zero o e =
    let f : p ≡ o = some_is p o e in
    let g : i ≡ i + 0 = omega arith in
    let h : place_in (transaction_of c) i (tx_output p) ≡ place_in (transaction_of c) (i + 0) (tx_output o) =
    ap (λ (x : CommitmentOutput). place_in (transaction_of c) i (tx_output x)) f ∙ ap (λ n. place_in (transaction_of c) n (tx_output o)) g in
    before (claims_on c i (place_in (transaction_of c) i (tx_output p)) p.kind) (claims_from c (i + 1) os) _
    (subst (λ q. IsClaimedAt (claims_on c i (place_in (transaction_of c) i (tx_output p)) p.kind) q) h (on_output c i (place_in (transaction_of c) i (tx_output p)) p.kind))
each_from c i (p ∷ os) (suc n) o e =
    let g : i + 1 + n ≡ i + suc n = omega arith in
    behind (claims_on c i (place_in (transaction_of c) i (tx_output p)) p.kind) (claims_from c (i + 1) os) _
    (subst (λ m. IsClaimedAt (claims_from c (i + 1) os) (place_in (transaction_of c) m (tx_output o))) g (each_from c (i + 1) os n o e))

-- an HTLC's second stage, at the output or after it
at_kind : (c : Contents) (i : ℕ) (place : Place) (kind : OutputKind) (rest : List HtlcOutput) (claims : List Claimable) (k : ℕ) (h : HtlcOutput)
    → ((j : ℕ) → slice_get rest j ≡ Some h → IsClaimedAt claims (place_in (htlc_tx_of c h) 0 (htlc_tx_output c h)))
    → slice_get (cons_option (htlc_at i kind) rest) k ≡ Some h → IsClaimedAt (claims_on c i place kind ++ claims) (place_in (htlc_tx_of c h) 0 (htlc_tx_output c h))
at_kind c i place ToLocal rest claims k h f e = behind (claims_on c i place ToLocal) claims _ (f k e)
at_kind c i place ToRemote rest claims k h f e = behind (claims_on c i place ToRemote) claims _ (f k e)
at_kind c i place (ToHtlc direction htlc) rest claims zero h f e =
    before (claims_on c i place (ToHtlc direction htlc)) claims _ (on_second c i place direction htlc h (some_is (record { index = i; direction = direction; htlc = htlc }) h e))
at_kind c i place (ToHtlc direction htlc) rest claims (suc k) h f e = behind (claims_on c i place (ToHtlc direction htlc)) claims _ (f k e)

seconds_from : (c : Contents) (i : ℕ) (os : List CommitmentOutput) (k : ℕ) (h : HtlcOutput) → slice_get (htlcs_from i os) k ≡ Some h
    → IsClaimedAt (claims_from c i os) (place_in (htlc_tx_of c h) 0 (htlc_tx_output c h))
unfolding claims_by htlcs_from
seconds_from c i [] k h e = absurd (none_some h e)
seconds_from c i (p ∷ os) k h e =
    at_kind c i (place_in (transaction_of c) i (tx_output p)) p.kind (htlcs_from (i + 1) os) (claims_from c (i + 1) os) k h (λ j f. seconds_from c (i + 1) os j h f) e

outputs_of_transaction : (c : Contents) → (transaction_of c).outputs ≡ map tx_output c.outputs
unfolding transaction_of
outputs_of_transaction c = refl

mapped : (c : Contents) (i : ℕ) (o : Output) (x : Option CommitmentOutput) → slice_get c.outputs i ≡ x → option_map tx_output x ≡ Some o → IsClaimedAt (claims_from c 0 c.outputs) (place_in (transaction_of c) i o)
mapped c i o None f e = absurd (none_some o e)
mapped c i o (Some p) f e =
    let g : tx_output p ≡ o = some_is (tx_output p) o e in
    let z : 0 + i ≡ i = omega arith in
    subst (λ x. IsClaimedAt (claims_from c 0 c.outputs) (place_in (transaction_of c) i x)) g
    (subst (λ n. IsClaimedAt (claims_from c 0 c.outputs) (place_in (transaction_of c) n (tx_output p))) z (each_from c 0 c.outputs i p f))

pub each_output : EachOutputIsClaimed
unfolding claimable_of
each_output state i o e =
    mapped (commitment_in state) i o (slice_get (commitment_in state).outputs i) refl
    (sym (slice_get-map tx_output (commitment_in state).outputs i) ∙ ap (λ os. slice_get os i) (sym (outputs_of_transaction (commitment_in state))) ∙ e)

of_second : (c : Contents) (k : ℕ) (t : Transaction) (o : Output) (x : Option HtlcOutput) → slice_get (htlcs_of c) k ≡ x → option_map (htlc_tx_of c) x ≡ Some t → slice_get t.outputs 0 ≡ Some o
    → IsClaimedAt (claims_from c 0 c.outputs) (place_in t 0 o)
of_second c k t o None f e g = absurd (none_some t e)
of_second c k t o (Some h) f e g =
    let s : htlc_tx_of c h ≡ t = some_is (htlc_tx_of c h) t e in
    let out : htlc_tx_output c h ≡ o = some_is (htlc_tx_output c h) o (sym (first_output c h t (sym s)) ∙ g) in
    subst (λ (p : Place). IsClaimedAt (claims_from c 0 c.outputs) p)
    (ap (λ (x : Transaction). place_in x 0 (htlc_tx_output c h)) s ∙ ap (λ (x : Output). place_in t 0 x) out)
    (seconds_from c 0 c.outputs k h f)

pub each_second_stage : EachSecondStageIsClaimed
unfolding claimable_of htlc_tx_at
each_second_stage state k t o e g = of_second (commitment_in state) k t o (slice_get (htlcs_of (commitment_in state)) k) refl e g
