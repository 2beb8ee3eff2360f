-- The HTLC transaction of a commitment's k-th HTLC.
use Rattle.std.proofs.Common.{◌≡◌, ℕ, ◌<◌, [], ◌∷◌, length, Option, Some, None, refl, ap, ◌∙◌, arith}
use Rattle.std.specs.Prelude.{IsSome, slice_get}
use Rattle.std.proofs.lemmas.Bool.{false≢true}
use Rattle.tx.specs.Parts.{Output}
use Rattle.tx.specs.Fields.{Transaction}
use Rattle.terms.specs.declared.htlcs.Htlc.{Htlc}
use Rattle.claim.specs.declared.parts.Place.{Place}
use Rattle.commit.specs.declared.fees.Direction.{Direction}
use Rattle.commit.specs.declared.outputs.OutputKind.{OutputKind}
use Rattle.commit.specs.declared.outputs.OutputKind.TheVariants.{ToHtlc}
use Rattle.commit.specs.declared.outputs.HtlcOutput.{HtlcOutput}
use Rattle.sighash.specs.Programs.{script_hash_program}
use Rattle.commit.specs.Outputs.{to_local_script}
use Rattle.commit.specs.Commitments.{Contents, htlc_at, htlcs_of, htlc_tx_at, htlc_tx_output, htlc_tx_of}
use Rattle.penalty.specs.Claimable.{place_in}

-- the transaction of an HTLC
pub transaction_at : (c : Contents) (k : ℕ) (h : HtlcOutput) → slice_get (htlcs_of c) k ≡ Some h → htlc_tx_at c k ≡ Some (htlc_tx_of c h)
unfolding htlc_tx_at
transaction_at c k h e = rw e refl

some_of : {X : Type 0} (o : Option X) → IsSome o → (x : X) × (o ≡ Some x)
some_of None s = absurd (false≢true s)
some_of (Some x) s = (x, refl)

pub there_is_one : (c : Contents) (k : ℕ) (t : Option Transaction) → IsSome (slice_get (htlcs_of c) k) → t ≡ htlc_tx_at c k → t ≡ None → ⊥
there_is_one c k t s e n =
    let h = some_of (slice_get (htlcs_of c) k) s in
    let f : htlc_tx_at c k ≡ Some (htlc_tx_of c h.0) = transaction_at c k h.0 h.1 in
    cc

pub that_one : (c : Contents) (k : ℕ) (t : Transaction) (h : HtlcOutput) (o : Option Transaction) → slice_get (htlcs_of c) k ≡ Some h → o ≡ htlc_tx_at c k → o ≡ Some t → t ≡ htlc_tx_of c h
that_one c k t h o e f g =
    let i : htlc_tx_at c k ≡ Some (htlc_tx_of c h) = transaction_at c k h e in
    cc

outputs_are : (c : Contents) (h : HtlcOutput) → (htlc_tx_of c h).outputs ≡ htlc_tx_output c h ∷ []
unfolding htlc_tx_of
outputs_are c h = refl

pub first_output : (c : Contents) (h : HtlcOutput) (t : Transaction) → t ≡ htlc_tx_of c h → slice_get t.outputs 0 ≡ Some (htlc_tx_output c h)
first_output c h t e = ap (λ (x : Transaction). slice_get x.outputs 0) e ∙ ap (λ os. slice_get os 0) (outputs_are c h)

pub has_output : (c : Contents) (k : ℕ) (t : Transaction) (o : Option Transaction) → IsSome (slice_get (htlcs_of c) k) → o ≡ htlc_tx_at c k → o ≡ Some t → 0 < length t.outputs
has_output c k t o s f g =
    let h = some_of (slice_get (htlcs_of c) k) s in
    let e : t ≡ htlc_tx_of c h.0 = that_one c k t h.0 o h.1 f g in
    let l : length t.outputs ≡ 1 = ap (λ (x : Transaction). length x.outputs) e ∙ ap length (outputs_are c h.0) in
    omega (arith, l)

-- the place of its output
pub stands : (c : Contents) (k : ℕ) (t : Transaction) (o : Option Transaction) (h : HtlcOutput) (p : Place) → slice_get (htlcs_of c) k ≡ Some h → o ≡ htlc_tx_at c k → o ≡ Some t
    → ((out : Output) → slice_get t.outputs 0 ≡ Some out → p ≡ place_in t 0 out) → p ≡ place_in (htlc_tx_of c h) 0 (htlc_tx_output c h)
stands c k t o h p e f g i =
    let j : t ≡ htlc_tx_of c h = that_one c k t h o e f g in
    i (htlc_tx_output c h) (first_output c h t j) ∙ ap (λ (x : Transaction). place_in x 0 (htlc_tx_output c h)) j

pub its_program : (c : Contents) (k : ℕ) (t : Transaction) (o : Option Transaction) (p : Place) → IsSome (slice_get (htlcs_of c) k) → o ≡ htlc_tx_at c k → o ≡ Some t
    → ((out : Output) → slice_get t.outputs 0 ≡ Some out → p ≡ place_in t 0 out) → p.program ≡ script_hash_program (to_local_script c.delay_blocks c.keys)
its_program c k t o p s f g i =
    let h = some_of (slice_get (htlcs_of c) k) s in
    ap (λ (x : Place). x.program) (stands c k t o h.0 p h.1 f g i)

-- an HTLC's output is the k-th
pub its_htlc : (c : Contents) (index k : ℕ) (kind : OutputKind) (direction : Direction) (htlc : Htlc) → ((h : HtlcOutput) → htlc_at index kind ≡ Some h → slice_get (htlcs_of c) k ≡ Some h)
    → kind ≡ ToHtlc direction htlc → slice_get (htlcs_of c) k ≡ Some (record { index = index; direction = direction; htlc = htlc })
its_htlc c index k kind direction htlc f e = f (record { index = index; direction = direction; htlc = htlc }) (ap (htlc_at index) e)

pub is_there : {X : Type 0} (o : Option X) (x : X) → o ≡ Some x → IsSome o
is_there o x e = rw e refl
