-- Witnesses that are made of tokens.
use Rattle.std.proofs.Common.{◌≡◌, ℕ, List, [], ◌∷◌, ◌++◌, Result, Ok, Err, ap, ◌∙◌, refl}
use Rattle.std.specs.Prelude.{IfOk}
use Rattle.script.specs.Spelling.{spelling}
use Rattle.script.specs.Token.{token_of}
use Rattle.tx.specs.Fields.{Transaction, transaction_with_witness}
use Rattle.terms.specs.declared.htlcs.Htlc.{Htlc}
use Rattle.terms.specs.declared.agreement.Terms.{Terms}
use Rattle.commit.specs.declared.fees.Direction.{Direction}
use Rattle.commit.specs.declared.fees.Direction.TheVariants.{Offered, Received}
use Rattle.commit.specs.declared.outputs.HtlcOutput.{HtlcOutput}
use Rattle.commit.specs.Keys.{KeyBytes}
use Rattle.commit.specs.Outputs.{htlc_script}
use Rattle.commit.specs.Commitments.{Contents, htlc_tx_of}
use Rattle.commit.specs.Signing.{funding_script, commitment_digest, htlc_digest}
use Rattle.penalty.specs.Claimable.{htlc_form}
use Rattle.publish.specs.Published.{in_key_order, funding_witness, htlc_witness, signed_htlc_tx_with}

abbrev of_funding : Terms → List ℕ → List ℕ → List (List ℕ)
of_funding terms of_a of_b = ([] ∷ in_key_order terms.a.bases.funding.bytes of_a terms.b.bases.funding.bytes of_b) ++ funding_script terms ∷ []

-- the funding output's witness, by both sides' tokens
pub funding_by : {E : Type 0} (r : Result (List (List ℕ)) E) (t terms : Terms) (c : Contents) (of_a of_b : List ℕ) → t ≡ terms
    → of_a ≡ token_of terms.a.bases.funding.bytes (commitment_digest terms c) → of_b ≡ token_of terms.b.bases.funding.bytes (commitment_digest terms c)
    → IfOk r (λ w. w ≡ ([] ∷ in_key_order t.a.bases.funding.bytes of_a t.b.bases.funding.bytes of_b) ++ funding_script t ∷ []) → IfOk r (λ w. w ≡ funding_witness terms c)
funding_by (Ok w) t terms c of_a of_b e f g h =
    h ∙ ap (λ x. of_funding x of_a of_b) e ∙ ap (λ x. of_funding terms x of_b) f ∙ ap (of_funding terms (token_of terms.a.bases.funding.bytes (commitment_digest terms c))) g
funding_by (Err x) t terms c of_a of_b e f g h = tt

-- the script of an HTLC's form
pub spelt : (k : KeyBytes) (d : Direction) (h : Htlc) → spelling (htlc_form k d h).ops ≡ htlc_script k d h
unfolding htlc_script
spelt k Offered h = refl
spelt k Received h = refl

abbrev of_htlc : List ℕ → List ℕ → List ℕ → KeyBytes → HtlcOutput → List (List ℕ)
of_htlc remote local item k h = [] ∷ remote ∷ local ∷ item ∷ htlc_script k h.direction h.htlc ∷ []

-- an HTLC transaction's, by both keys' tokens
pub second_by : (w : List (List ℕ)) (c : Contents) (k : KeyBytes) (h : HtlcOutput) (remote local item : List ℕ) → k ≡ c.keys
    → remote ≡ token_of c.keys.remote_htlc (htlc_digest c h) → local ≡ token_of c.keys.local_htlc (htlc_digest c h)
    → w ≡ [] ∷ remote ∷ local ∷ item ∷ htlc_script k h.direction h.htlc ∷ [] → w ≡ htlc_witness c h item
second_by w c k h remote local item e f g i =
    i ∙ ap (λ x. of_htlc remote local item x h) e ∙ ap (λ x. of_htlc x local item c.keys h) f ∙ ap (λ x. of_htlc (token_of c.keys.remote_htlc (htlc_digest c h)) x item c.keys h) g

-- the HTLC transaction of a commitment's HTLC, with this witness
pub second_is : (c : Contents) (h : HtlcOutput) (item : List ℕ) (t signed : Transaction) (w : List (List ℕ)) → t ≡ htlc_tx_of c h → w ≡ htlc_witness c h item
    → signed ≡ transaction_with_witness t 0 w → signed ≡ signed_htlc_tx_with c h item
second_is c h item t signed w e f g = g ∙ ap (λ x. transaction_with_witness x 0 w) e ∙ ap (transaction_with_witness (htlc_tx_of c h) 0) f
