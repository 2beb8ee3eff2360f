-- The claims of a channel's kept sets lack nothing.
use Rattle.std.proofs.Common.{◌≡◌, ℕ, ◌+◌, true, false, true≢false, List, [], ◌∷◌, ◌++◌, map, Option, Some, None, refl, sym, ap, ◌∙◌, subst, arith, Contains}
use Rattle.std.specs.Prelude.{slice_get}
use Rattle.std.specs.List.{AllByRecursion}
use Rattle.std.proofs.lemmas.Bool.{and_parts}
use Rattle.std.proofs.lemmas.List.Concat.{flat_map-cons}
use Rattle.std.specs.Option.{option_map_or}
use Rattle.keys.specs.declared.bases.Base.TheVariants.{Payment, Revocation}
use Rattle.keys.specs.Derivation.{point_of, revocation_key}
use Rattle.keys.specs.Rights.{Rights, MaySign, own, derived, revoked}
use Rattle.terms.specs.declared.sides.Side.{Side}
use Rattle.terms.specs.declared.sides.Side.TheVariants.{A, B}
use Rattle.terms.specs.declared.agreement.Terms.{Terms}
use Rattle.terms.specs.Agreement.{party}
use Rattle.terms.specs.Sides.{other}
use Rattle.claim.specs.declared.parts.Slot.{Slot}
use Rattle.claim.specs.declared.parts.Slot.TheVariants.{Sig, Preimage, Exact}
use Rattle.claim.specs.Claims.{ClaimParts}
use Rattle.commit.specs.Keys.{keys_of}
use Rattle.commit.specs.Commitments.{commitment_of}
use Rattle.forms.specs.Fillings.{filling_of}
use Rattle.penalty.specs.Claimable.{Claimable}
use Rattle.penalty.specs.Rights.{CanFill, CanFillAll}
use Rattle.penalty.proofs.Fillable.{all_fillable}
use Rattle.filling.specs.Refusals.{all_slots}
use Rattle.filling.proofs.Lists.{contains-at}
use Rattle.channel.specs.declared.commitments.CommitmentState.{CommitmentState}
use Rattle.channel.specs.States.{State}
use Rattle.terms.specs.Bases.{IsSeedOf}
use Rattle.claim.specs.Opcodes.{◌>>=◌}
use Rattle.book.specs.Penalties.{is_claim_on, are_claims_on, claimable_in, revoked_contents, is_penalty_set}
use Rattle.channel.specs.Rights.{rights_of}
use Rattle.book.specs.Signers.{lack_of, first_lack}
use Rattle.book.proofs.Deciding.{rights_are_tested}
use Rattle.book.proofs.Sets.{fillings_are}

-- ---- what a state's own keys and secrets can fill, whatever points came

abbrev pub knowledge_of : State → Rights
knowledge_of s = record { seed = s.seed; points = []; secrets = s.secrets }

-- the state can fill a claim's slots
abbrev pub CanFillClaim : State → ClaimParts → Type 0
CanFillClaim s c = AllByRecursion (CanFill (knowledge_of s)) (map filling_of c.slots)

-- the peer of a side's peer
twice : (side : Side) → other (other side) ≡ side
twice A = refl
twice B = refl

own_bases : (seed : List ℕ) (terms : Terms) (side : Side) → IsSeedOf seed (party side terms).bases → IsSeedOf seed (party (other (other side)) terms).bases
own_bases seed terms side b = subst (λ x. IsSeedOf seed (party x terms).bases) (sym (twice side)) b

signs_revocation : (s : State) (c : CommitmentState) (secret : List ℕ) → IsSeedOf s.seed (party s.held.side s.held.terms).bases → Contains s.secrets secret
    → MaySign (knowledge_of s) (revoked_contents s c secret).keys.revocation
unfolding commitment_of keys_of
signs_revocation s c secret b known = revoked Revocation secret known (ap (λ k. revocation_key k (point_of secret)) (own_bases s.seed s.held.terms s.held.side b).revocation)

signs_payment : (s : State) (c : CommitmentState) (secret : List ℕ) → IsSeedOf s.seed (party s.held.side s.held.terms).bases → MaySign (knowledge_of s) (revoked_contents s c secret).keys.remote
unfolding commitment_of keys_of
signs_payment s c secret b = own Payment (own_bases s.seed s.held.terms s.held.side b).payment

claimable_fillable : (s : State) (c : CommitmentState) (secret : List ℕ) → IsSeedOf s.seed (party s.held.side s.held.terms).bases → Contains s.secrets secret
    → AllByRecursion (CanFillAll (knowledge_of s)) (claimable_in (revoked_contents s c secret))
unfolding claimable_in
claimable_fillable s c secret b known =
    all_fillable (knowledge_of s) (revoked_contents s c secret) 0 (revoked_contents s c secret).outputs (signs_revocation s c secret b known) (signs_payment s c secret b)

-- ---- claims on outputs that can be filled

not_so : {P : Type 0} → false ≡ true → P
not_so e = absurd (true≢false (sym e))

-- the slots of a claim on an output
slots_of_claim : (o : Claimable) (c : ClaimParts) → is_claim_on o c ≡ true → map filling_of c.slots ≡ o.slots
slots_of_claim o c e =
    let same = (and_parts _ _ (and_parts _ _ e).0).0 in
    fillings_are _ _ (and_parts _ _ same).1

claims_fillable : (s : State) (os : List Claimable) (claims : List ClaimParts) → AllByRecursion (CanFillAll (knowledge_of s)) os → are_claims_on os claims ≡ true → AllByRecursion (CanFillClaim s) claims
unfolding are_claims_on
claims_fillable s [] [] h e = tt
claims_fillable s [] (c ∷ cs) h e = not_so e
claims_fillable s (o ∷ os) [] h e = not_so e
claims_fillable s (o ∷ os) (c ∷ cs) h e =
    let parts = and_parts (is_claim_on o c) (are_claims_on os cs) e in
    (subst (AllByRecursion (CanFill (knowledge_of s))) (sym (slots_of_claim o c parts.0)) h.0, claims_fillable s os cs h.1 parts.1)

-- a side with its own base keys can fill a penalty set
pub set_fillable : (s : State) (n : ℕ) (claims : List ClaimParts) → IsSeedOf s.seed (party s.held.side s.held.terms).bases → is_penalty_set s n claims ≡ true → AllByRecursion (CanFillClaim s) claims
unfolding is_penalty_set
set_fillable s n claims b e = by (slice_get s.signed n) (slice_get s.secrets n) refl e
  where
    by : (signed : Option CommitmentState) (secret : Option (List ℕ)) → slice_get s.secrets n ≡ secret
        → option_map_or (λ os. are_claims_on os claims) (signed >>= (λ c. secret >>= (λ k. Some (claimable_in (revoked_contents s c k))))) false ≡ true → AllByRecursion (CanFillClaim s) claims
    by None secret at h = not_so h
    by (Some c) None at h = not_so h
    by (Some c) (Some k) at h = claims_fillable s (claimable_in (revoked_contents s c k)) claims (claimable_fillable s c k b (contains-at s.secrets n k at)) h

-- ---- from what is known to what a slot lacks

signs_all : (s : State) (key : List ℕ) → MaySign (knowledge_of s) key → MaySign (rights_of s) key
signs_all s key (own b e) = own b e
signs_all s key (derived b point none e) = absurd (omega (arith, none.1))
signs_all s key (revoked b secret known e) = revoked b secret known e

slot_fillable : (s : State) (preimages : List (List ℕ)) (slot : Slot) → CanFill (knowledge_of s) (filling_of slot) → lack_of (rights_of s) preimages slot ≡ None
slot_fillable s preimages (Sig k) h = rw ((rights_are_tested (rights_of s) k.bytes).1 (signs_all s k.bytes h)) refl
slot_fillable s preimages (Preimage x) h = absurd h
slot_fillable s preimages (Exact b) h = refl

slots_fillable : (s : State) (preimages : List (List ℕ)) (slots rest : List Slot) → AllByRecursion (CanFill (knowledge_of s)) (map filling_of slots)
    → first_lack (rights_of s) preimages (slots ++ rest) ≡ first_lack (rights_of s) preimages rest
slots_fillable s preimages [] rest h = refl
slots_fillable s preimages (x ∷ xs) rest h = rw (slot_fillable s preimages x h.0) (slots_fillable s preimages xs rest h.1)

pub nothing_lacks : (s : State) (preimages : List (List ℕ)) (claims : List ClaimParts) → AllByRecursion (CanFillClaim s) claims → first_lack (rights_of s) preimages (all_slots claims) ≡ None
nothing_lacks s preimages [] h = refl
nothing_lacks s preimages (c ∷ cs) h =
    ap (first_lack (rights_of s) preimages) (flat_map-cons (λ (x : ClaimParts). x.slots) c cs)
    ∙ slots_fillable s preimages c.slots (all_slots cs) h.0
    ∙ nothing_lacks s preimages cs h.1
