-- That the claims on commitments of views are those that are due (BOLT 5, "Unilateral Close Handling").
use Rattle.std.specs.Prelude.{◌≡◌, ℕ, if◌then◌else◌, List, [], ◌∷◌, Contains}
use Rattle.terms.specs.declared.agreement.Terms.{Terms}
use Rattle.terms.specs.declared.sides.Side.{Side}
use Rattle.terms.specs.declared.views.View.{View}
use Rattle.claim.specs.declared.parts.Place.{Place}
use Rattle.commit.specs.declared.outputs.HtlcOutput.{HtlcOutput}
use Rattle.commit.specs.declared.outputs.OutputKind.{OutputKind}
use Rattle.commit.specs.declared.outputs.OutputKind.TheVariants.{ToLocal, ToRemote, ToHtlc}
use Rattle.commit.specs.Commitments.{Contents, commitment_of, transaction_of, htlc_tx_of}
use Rattle.penalty.specs.Claimable.{Claimable, claims_by}
use Rattle.penalty.specs.Paying.{CanPay}
use Rattle.resolve.specs.Due.{is_owners, delayed_on, second_stage_on, delayed_second_stage, peers_due}
use Rattle.revoked.specs.Parts.{RevokedParts}
use Rattle.revoked.specs.Programs.{known_outputs, known_program}
use Rattle.revoked.specs.Telling.{KnowsAll}
use Rattle.revoked.specs.declared.outputs.RevokedOutput.{RevokedOutput}
use Rattle.unilateral.specs.declared.closes.Whose.TheVariants.{Ours, Theirs}
use Rattle.unilateral.specs.declared.closes.Close.{Close}
use Rattle.unilateral.specs.Reading.{claimed_in}

-- what an output lets its owner claim while no HTLC transaction is on the chain
abbrev pub first_stage_on : List (List ℕ) → Contents → ℕ → Place → OutputKind → List Claimable
first_stage_on preimages c index place ToLocal = delayed_on c place ∷ []
first_stage_on preimages c index place ToRemote = []
first_stage_on preimages c index place (ToHtlc direction h) =
    if is_owners preimages c.keys direction h
    then second_stage_on c (record { index = index; direction = direction; htlc = h }) place ∷ []
    else []

-- no two outputs have one program, which fails by a collision, and where offered HTLCs with one hash expire apart
abbrev pub IsApart : RevokedParts → Type 0
IsApart r =
    (a b : RevokedOutput) → Contains (known_outputs r) a → Contains (known_outputs r) b
    → known_program r a ≡ known_program r b → a ≡ b

-- these are all that is known of the commitment of a view, without anchors
pub record IsCloseOf (k : Close) (c : Contents) : Type 0 where
  pub knows : KnowsAll k.commitment c
  pub apart : IsApart k.commitment
  pub feerate : k.feerate_per_kw ≡ c.feerate_per_kw

-- of the peer's commitment, exactly what is due is claimed
abbrev pub ReadsTheirs : Type 0
ReadsTheirs =
    (terms : Terms) (view : View) (owner : Side) (n : ℕ) (point : List ℕ) (k : Close) → CanPay terms view
    → (let c = commitment_of terms view owner n point in
    IsCloseOf k c → k.whose ≡ Theirs → claimed_in k (transaction_of c) ≡ peers_due k.preimages c)

-- of one's own, what is due while none of its HTLC transactions is on the chain
abbrev pub ReadsOurs : Type 0
ReadsOurs =
    (terms : Terms) (view : View) (owner : Side) (n : ℕ) (point : List ℕ) (k : Close) → CanPay terms view
    → (let c = commitment_of terms view owner n point in
    IsCloseOf k c → k.whose ≡ Ours → claimed_in k (transaction_of c) ≡ claims_by (first_stage_on k.preimages c) c 0 c.outputs)

-- and of each of these, what is due of its output
abbrev pub ReadsOurHtlcTransactions : Type 0
ReadsOurHtlcTransactions =
    (c : Contents) (k : Close) (h : HtlcOutput) → IsCloseOf k c → k.whose ≡ Ours
    → claimed_in k (htlc_tx_of c h) ≡ delayed_second_stage c h ∷ []
