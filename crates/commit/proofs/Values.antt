-- The values of a commitment's outputs are the satoshis that it pays out.
use Rattle.std.proofs.Common.{◌≡◌, ℕ, ◌+◌, List, [], ◌∷◌, ◌++◌, map, Option, Some, None, unwrap_or, refl, sym, ap, ◌∙◌, arith}
use Rattle.std.specs.List.{sum_by}
use Rattle.std.proofs.lemmas.List.Sums.{sum_by-append, sum_by-cons}
use Rattle.terms.specs.declared.htlcs.Htlc.{Htlc}
use Rattle.commit.specs.declared.fees.Direction.{Direction}
use Rattle.commit.specs.declared.fees.Direction.TheVariants.{Offered, Received}
use Rattle.commit.specs.declared.amounts.Amounts.{Amounts}
use Rattle.commit.specs.declared.outputs.CommitmentOutput.{CommitmentOutput}
use Rattle.commit.specs.Fees.{satoshis_of}
use Rattle.commit.specs.Sums.{paid_out_sat, worth_sat_of}
use Rattle.commit.specs.Keys.{KeyBytes}
use Rattle.commit.specs.Outputs.{to_local_output, to_remote_output, htlc_output, where_paid, outputs_of}

abbrev pub values : List CommitmentOutput → ℕ
values os = sum_by (λ o. o.value) os

of_htlcs : (k : KeyBytes) (direction : Direction) (hs : List Htlc) → values (map (htlc_output k direction) hs) ≡ worth_sat_of hs
of_htlcs k direction [] = refl
of_htlcs k direction (h ∷ hs) =
    let a = sum_by-cons (λ (o : CommitmentOutput). o.value) (htlc_output k direction h) (map (htlc_output k direction) hs) in
    let b = sum_by-cons (λ (x : Htlc). satoshis_of x.amount_msat) h hs in
    let r : values (map (htlc_output k direction) hs) ≡ worth_sat_of hs = of_htlcs k direction hs in
    a ∙ ap (λ n. satoshis_of h.amount_msat + n) r ∙ sym b

of_local : (delay_blocks : ℕ) (k : KeyBytes) (v : Option ℕ) → values (where_paid (to_local_output delay_blocks k) v) ≡ unwrap_or v 0
of_local delay_blocks k None = refl
of_local delay_blocks k (Some v) = omega arith

of_remote : (k : KeyBytes) (v : Option ℕ) → values (where_paid (to_remote_output k) v) ≡ unwrap_or v 0
of_remote k None = refl
of_remote k (Some v) = omega arith

added : (w v u p q s t p' q' s' t' : ℕ) → w ≡ v + t → v ≡ u + s → u ≡ p + q → p ≡ p' → q ≡ q' → s ≡ s' → t ≡ t' → w ≡ p' + q' + (s' + t')
added w v u p q s t p' q' s' t' a b c d e f g = omega arith

pub of_all : (delay_blocks : ℕ) (k : KeyBytes) (a : Amounts) → values (outputs_of delay_blocks k a) ≡ paid_out_sat a
unfolding outputs_of
of_all delay_blocks k a =
    let f : CommitmentOutput → ℕ = λ o. o.value in
    let offered = map (htlc_output k Offered) a.offered in
    let received = map (htlc_output k Received) a.received in
    let local = where_paid (to_local_output delay_blocks k) a.to_local in
    let remote = where_paid (to_remote_output k) a.to_remote in
    let x = sum_by-append f ((offered ++ received) ++ local) remote in
    let y = sum_by-append f (offered ++ received) local in
    let z = sum_by-append f offered received in
    added _ _ _ _ _ _ _ _ _ _ _ x y z (of_htlcs k Offered a.offered) (of_htlcs k Received a.received) (of_local delay_blocks k a.to_local) (of_remote k a.to_remote)
