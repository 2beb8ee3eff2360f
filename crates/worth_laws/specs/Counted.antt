-- What a side claims of a commitment that closed its channel: one claim for each output on which it counts (BOLT 5, "Unilateral Close Handling").
use Rattle.std.specs.Prelude.{◌≡◌, ℕ, ◌+◌, ◌*◌, ◌≤◌, Bool, true, false, if◌then◌else◌, List, [], ◌∷◌, length, sum_by}
use Rattle.std.specs.List.{Contains, AllByRecursion}
use Rattle.terms.specs.declared.htlcs.Htlc.{Htlc}
use Rattle.terms.specs.declared.sides.Side.{Side}
use Rattle.terms.specs.declared.agreement.Terms.{Terms}
use Rattle.terms.specs.declared.views.View.{View}
use Rattle.claim.specs.declared.parts.Place.{Place}
use Rattle.commit.specs.declared.fees.Direction.TheVariants.{Received}
use Rattle.commit.specs.declared.outputs.OutputKind.{OutputKind}
use Rattle.commit.specs.declared.outputs.OutputKind.TheVariants.{ToLocal, ToRemote, ToHtlc}
use Rattle.commit.specs.declared.outputs.HtlcOutput.{HtlcOutput}
use Rattle.commit.specs.Fees.{fee_sat_of, htlc_weight}
use Rattle.commit.specs.Commitments.{Contents, commitment_of, htlcs_of}
use Rattle.penalty.specs.Claimable.{Claimable, payment_on, claims_by}
use Rattle.penalty.specs.Worth.{value_of, fee_with, fees_with}
use Rattle.resolve.specs.Preimages.{is_known}
use Rattle.resolve.specs.Due.{can_time_out, can_pay, delayed_on, second_stage_on, delayed_second_stage, direct_on, owners_due, peers_due}
use Rattle.worth_laws.specs.Shares.{owner_by, counts_on, counted_msat, deductions, IsLess}

-- Below, `stands` says of an output's index whether the HTLC transaction that spends the output is on the chain.

-- what a side claims for an output: of its peer's commitment the output; of its own, for an HTLC, the output by the HTLC transaction or, where that stands, the output of that
abbrev pub claim_on : (own : Bool) → (ℕ → Bool) → Contents → ℕ → Place → OutputKind → List Claimable
claim_on true stands c index place ToLocal = delayed_on c place ∷ []
claim_on true stands c index place ToRemote = []
claim_on true stands c index place (ToHtlc direction h) =
    (if stands index
    then delayed_second_stage c (record { index = index; direction = direction; htlc = h })
    else second_stage_on c (record { index = index; direction = direction; htlc = h }) place)
    ∷ []
claim_on false stands c index place ToLocal = []
claim_on false stands c index place ToRemote = payment_on c place ∷ []
claim_on false stands c index place (ToHtlc direction h) = direct_on c direction h place ∷ []

-- where it counts on the output
abbrev pub counted_on : (own : Bool) → (Htlc → Bool) → (ℕ → Bool) → Contents → ℕ → Place → OutputKind → List Claimable
counted_on own known stands c index place kind = if counts_on own known kind then claim_on own stands c index place kind else []

-- all of these
abbrev pub counted : (own : Bool) → (Htlc → Bool) → (ℕ → Bool) → Contents → List Claimable
counted own known stands c = claims_by (counted_on own known stands c) c 0 c.outputs

-- the fees of the side's own HTLC transactions that stand, of the HTLCs on which it counts. Of its peer's commitment it makes none
abbrev pub fee_counted : (Htlc → Bool) → (ℕ → Bool) → ℕ → HtlcOutput → ℕ
fee_counted known stands feerate_per_kw h = if counts_on true known (ToHtlc h.direction h.htlc) then fee_with stands feerate_per_kw h else 0

abbrev pub fees_counted : (own : Bool) → (Htlc → Bool) → (ℕ → Bool) → Contents → ℕ
fees_counted true known stands c = sum_by (λ h. fee_counted known stands c.feerate_per_kw h) (htlcs_of c)
fees_counted false known stands c = 0

-- whichever HTLC transactions stand, the claims with these fees are worth what the side counts on, less its deductions
abbrev pub CountedAreWorth : Type 0
CountedAreWorth =
    (terms : Terms) (view : View) (own : Bool) (me : Side) (n : ℕ) (point : List ℕ) (known : Htlc → Bool) (stands : ℕ → Bool)
    → (let c = commitment_of terms view (owner_by own me) n point in
    IsLess (counted_msat known me view) (deductions terms view own me known) (value_of (counted own known stands c) + fees_counted own known stands c))

-- these fees are at most those of all HTLC transactions that stand, and those at most the fee of HTLC-success for each HTLC with an output
abbrev pub FeesAreBounded : Type 0
FeesAreBounded =
    (known : Htlc → Bool) (stands : ℕ → Bool) (c : Contents)
    → (fees_counted true known stands c ≤ fees_with stands c) × (fees_with stands c ≤ length (htlcs_of c) * fee_sat_of (htlc_weight Received) c.feerate_per_kw)

-- ---- what is due

-- the HTLCs of which one of these is the preimage
abbrev pub known_by : List (List ℕ) → Htlc → Bool
known_by preimages h = is_known preimages h.hash

-- what is due on a commitment to its owner, and to the owner's peer
abbrev pub due_by : (own : Bool) → List (List ℕ) → Contents → List Claimable
due_by true preimages c = owners_due preimages c
due_by false preimages c = peers_due preimages c

-- no claim on this commitment is refused: its revocation key has the hash of no empty item, and of no preimage that is known
pub record HasNoTwin (preimages : List (List ℕ)) (c : Contents) : Type 0 where
  pub timeout : can_time_out c.keys ≡ true
  pub pays : (h : Htlc) → known_by preimages h ≡ true → can_pay c.keys h ≡ true

-- then each of the claims is due, whichever HTLC transactions stand; and on the peer's commitment nothing else is
pub record CountedAreDue : Type 0 where
  pub each : (own : Bool) (preimages : List (List ℕ)) (stands : ℕ → Bool) (c : Contents) → HasNoTwin preimages c
      → AllByRecursion (Contains (due_by own preimages c)) (counted own (known_by preimages) stands c)
  pub peers : (preimages : List (List ℕ)) (stands : ℕ → Bool) (c : Contents) → HasNoTwin preimages c → peers_due preimages c ≡ counted false (known_by preimages) stands c
