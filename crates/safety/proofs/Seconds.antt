-- Which HTLC transactions stand on a chain with the commitment.
use Rattle.std.proofs.Common.{◌≡◌, ℕ, suc, ◌+◌, Bool, true, List, ◌∷◌, map, Some, refl, subst, arith, eq-eqb}
use Rattle.std.specs.Prelude.{◌&&◌, ◌==◌, slice_get}
use Rattle.std.specs.List.{Contains, list_any}
use Rattle.std.proofs.lemmas.Bool.{and_parts, eqb-true}
use Rattle.std.proofs.lemmas.List.Elements.{All-contains}
use Rattle.tx.specs.Fields.{KeepsLimits, unsigned_transaction}
use Rattle.chain.specs.Blocks.{Contents as Block}
use Rattle.claim.specs.declared.parts.Place.{Place}
use Rattle.commit.specs.declared.outputs.CommitmentOutput.{CommitmentOutput}
use Rattle.commit.specs.declared.outputs.HtlcOutput.{HtlcOutput}
use Rattle.commit.specs.Commitments.{Contents, tx_output, transaction_of, htlcs_of, htlc_tx_of}
use Rattle.penalty.specs.declared.states.RevokedState.{RevokedState}
use Rattle.penalty.specs.Claimable.{place_in, commitment_in}
use Rattle.safety.specs.Fates.{htlc_signed}
use Rattle.safety.specs.Whereabouts.{IsOnChain, HasCommitment}
use Rattle.safety.proofs.Lists.{contains_map, any_found, any_holds, both}
use Rattle.safety.proofs.Limits.{IsLimited, htlcs_limited}
use Rattle.safety.proofs.Fates.{bare_second}
use Rattle.safety.proofs.Stripped.{has_stripped, on_chain, by_bytes}
use Rattle.safety.proofs.Indices.{IsHtlcIn, htlc_in, one_htlc}

pub bare_commitment : (c : Contents) → unsigned_transaction (transaction_of c) ≡ transaction_of c
unfolding transaction_of
bare_commitment c = refl

-- that of the HTLC at an index, by its bytes
abbrev pub standing : List Block → Contents → ℕ → Bool
standing blocks c index = list_any (λ h. h.index == index && has_stripped blocks (htlc_tx_of c h)) (htlcs_of c)

pub found : (blocks : List Block) (c : Contents) (h : HtlcOutput) → Contains (htlcs_of c) h → IsOnChain blocks (htlc_tx_of c h) → standing blocks c h.index ≡ true
found blocks c h i o =
    any_holds (λ (g : HtlcOutput). g.index == h.index && has_stripped blocks (htlc_tx_of c g)) (htlcs_of c) h i
    (both (h.index == h.index) (has_stripped blocks (htlc_tx_of c h)) (eq-eqb h.index h.index refl) (by_bytes blocks (htlc_tx_of c h) o))

pub second_limits : (state : RevokedState) (h : HtlcOutput) → Contains (htlcs_of (commitment_in state)) h → KeepsLimits (htlc_tx_of (commitment_in state) h)
second_limits state h i =
    let limited : IsLimited (htlc_signed (commitment_in state) h) =
    All-contains IsLimited (map (htlc_signed (commitment_in state)) (htlcs_of (commitment_in state))) (htlc_signed (commitment_in state) h) (htlcs_limited state)
    (contains_map (htlc_signed (commitment_in state)) (htlcs_of (commitment_in state)) h i) in
    limited.limits

pub stands_at : (blocks : List Block) (state : RevokedState) → HasCommitment blocks state → (h : HtlcOutput) → IsHtlcIn 0 (commitment_in state).outputs h → standing blocks (commitment_in state) h.index ≡ true
    → IsOnChain blocks (htlc_tx_of (commitment_in state) h)
stands_at blocks state chain h p e =
    let c = commitment_in state in
    let f = any_found (λ (g : HtlcOutput). g.index == h.index && has_stripped blocks (htlc_tx_of c g)) (htlcs_of c) e in
    let q = and_parts (f.0.index == h.index) (has_stripped blocks (htlc_tx_of c f.0)) f.2 in
    let same = one_htlc 0 c.outputs f.0 h (htlc_in 0 c.outputs f.0 f.1) p (eqb-true f.0.index h.index q.0) in
    subst (λ g. IsOnChain blocks (htlc_tx_of c g)) same (on_chain blocks chain.limits (htlc_tx_of c f.0) (second_limits state f.0 f.1) (bare_second c f.0) q.1)

-- ---- outputs from an index on

-- where an output stands
abbrev pub place_of : Contents → ℕ → CommitmentOutput → Place
place_of c index o = place_in (transaction_of c) index (tx_output o)

-- these are the outputs from the index on
abbrev pub AreFrom : List CommitmentOutput → ℕ → List CommitmentOutput → Type 0
AreFrom outputs index os = (k : ℕ) (o : CommitmentOutput) → slice_get os k ≡ Some o → slice_get outputs (index + k) ≡ Some o

pub first_of : (outputs : List CommitmentOutput) (index : ℕ) (o : CommitmentOutput) (os : List CommitmentOutput) → AreFrom outputs index (o ∷ os) → slice_get outputs index ≡ Some o
first_of outputs index o os at = let here : index + 0 ≡ index = omega arith in subst (λ m. slice_get outputs m ≡ Some o) here (at 0 o refl)

pub others_of : (outputs : List CommitmentOutput) (index : ℕ) (o : CommitmentOutput) (os : List CommitmentOutput) → AreFrom outputs index (o ∷ os) → AreFrom outputs (index + 1) os
others_of outputs index o os at = λ k p e. (let n : index + suc k ≡ index + 1 + k = omega arith in subst (λ m. slice_get outputs m ≡ Some p) n (at (suc k) p e))

pub all_of : (outputs : List CommitmentOutput) → AreFrom outputs 0 outputs
all_of outputs = λ k o e. (let n : k ≡ 0 + k = omega arith in subst (λ m. slice_get outputs m ≡ Some o) n e)
