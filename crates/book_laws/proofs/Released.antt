-- What is released in a channel of a careful history: claims on its recorded commitments, whose fields fit into their bytes.
use Rattle.std.proofs.Common.{◌≡◌, ℕ, ◌+◌, ◌^◌, ◌<◌, ◌≤◌, ◌==◌, if◌then◌else◌, Bool, true, false, List, [], ◌∷◌, length, Option, Some, None, refl, sym, ap, ◌∙◌, subst, ⊎_elim, arith}
use Rattle.std.specs.Prelude.{slice_get}
use Rattle.std.specs.List.{AllByRecursion, Contains, cons_option}
use Rattle.std.proofs.lemmas.Bool.{eqb-true}
use Rattle.std.proofs.lemmas.Option.{same_Some, none-some, slice_get_within}
use Rattle.tx.specs.Parts.{IsOutput}
use Rattle.filling.specs.Filling.{transaction_for}
use Rattle.keys.specs.Derivation.{point_of}
use Rattle.terms.specs.declared.sides.Side.{Side}
use Rattle.terms.specs.Sides.{other}
use Rattle.claim.specs.Opcodes.{◌>>=◌}
use Rattle.claim.specs.Claims.{ClaimParts}
use Rattle.commit.specs.Commitments.{commitment_of}
use Rattle.penalty.specs.Claimable.{Claimable, claims_from}
use Rattle.penalty.specs.Sets.{claimed_by, AreClaimsOn}
use Rattle.channel.specs.declared.limits.TheConstants.{LAST_NUMBER}
use Rattle.channel.specs.declared.commitments.CommitmentState.{CommitmentState}
use Rattle.channel.specs.Learning.{HasLearnt, IsLimited}
use Rattle.channel.specs.Recording.{AreByNumber}
use Rattle.channel.specs.States.{Signing, State}
use Rattle.channel.specs.Tokens.{contents_of}
use Rattle.safety.specs.Holdings.{Release, claim_signed, Holding, terms_in, IsOnRecorded, on_own, on_peers, on_revoked, IsRightful}
use Rattle.safety.specs.Places.{OwnersPlaces, PeersPlaces, RevokedPlaces}
use Rattle.safety.specs.Recorded.{IsOutPoint, IsPayable, RecordedLimits}
use Rattle.safety.specs.Signing.{IsSignable}
use Rattle.safety.specs.Taken.{ChannelRecord, NumberedAreOwn}
use Rattle.safety.proofs.Slots.{contains_first, contains_later, contains_cases}
use Rattle.safety.proofs.Lists.{contains_none}
use Rattle.safety.proofs.Signing.{limits_fit}
use Rattle.book.specs.declared.calls.Batch.{Batch}
use Rattle.book.specs.declared.calls.Call.{Call}
use Rattle.book.specs.declared.calls.Call.TheVariants.{Release as Releasing}
use Rattle.book.specs.declared.calls.Entry.{Entry}
use Rattle.book.specs.Penalties.{revoked_contents, claimable_in, claimable_at}
use Rattle.book.specs.Books.{ChannelBook, replay}
use Rattle.book.specs.Accepted.{all_accepted, AreWhole}
use Rattle.book.specs.Guarding.{claimable_by, KeptAreExact}
use Rattle.book.specs.Releasing.{IsKeptIn}
use Rattle.book_laws.specs.Holdings.{release_by, releases_in, holding_of}
use Rattle.book_laws.specs.Keeping.{TakesCare}
use Rattle.book_laws.proofs.Lists.{all_from}
use Rattle.book_laws.proofs.Fields.{IsFit, owners_fit, peers_fit, revoked_fit, input_of, transaction_keeps}

-- ---- the laws that it rests on

pub record Laws : Type 0 where
  pub own : NumberedAreOwn
  pub limits : RecordedLimits
  pub owners : OwnersPlaces
  pub peers : PeersPlaces
  pub revoked : RevokedPlaces
  pub kept : KeptAreExact

-- ---- a channel

-- what is known of the state of a channel
pub record IsSure (s : State) : Type 0 where
  pub numbered : AreByNumber s
  pub learnt : HasLearnt s
  pub limited : IsLimited s

last_is_low : (n many : ℕ) → n < many → many ≤ LAST_NUMBER + 1 → n < 2 ^ 48
last_is_low n many l m = omega (arith, l, m)

own_payable : Laws → (s : State) → IsOutPoint s.held.terms.funding → IsSure s → (n : ℕ) (k : CommitmentState) → slice_get s.mine n ≡ Some k → IsPayable s.held.terms k
own_payable laws s funding sure n k there =
    let record_of : ChannelRecord = record { terms = s.held.terms; seed = λ (side : Side). s.seed; own = λ (side : Side). s.mine } in
    let within = slice_get_within s.mine n k there in
    let count = sure.numbered.mine.count in
    let low = sure.limited.number in
    (laws.own record_of s.held.side n k funding (last_is_low n (length s.mine) within (omega (arith, count, low))) (sure.numbered.mine.each n k there)).payable

peers_payable : Laws → (s : State) → IsOutPoint s.held.terms.funding → IsSure s → (n : ℕ) (k : CommitmentState) → slice_get s.signed n ≡ Some k → IsPayable s.held.terms k
peers_payable laws s funding sure n k there =
    let record_of : ChannelRecord = record { terms = s.held.terms; seed = λ (side : Side). s.seed; own = λ (side : Side). s.signed } in
    let within = slice_get_within s.signed n k there in
    let count = sure.numbered.signed.count in
    let low = sure.limited.peer_number in
    (laws.own record_of (other s.held.side) n k funding (last_is_low n (length s.signed) within (omega (arith, count, low))) (sure.numbered.signed.each n k there)).payable

-- ---- a claim

fits : Laws → (h : Holding) → IsOutPoint (terms_in h).funding → IsSure h.state → (x : ClaimParts) → IsOnRecorded h x → IsFit (claimed_by x)
fits laws h funding sure x (on_own n k there preimages i) = owners_fit laws.limits (terms_in h) k (own_payable laws h.state funding sure n k there) (claimed_by x) (laws.owners preimages (contents_of (terms_in h) k) (claimed_by x) i).0
fits laws h funding sure x (on_peers n k there preimages i) = peers_fit laws.limits (terms_in h) k (peers_payable laws h.state funding sure n k there) (claimed_by x) (laws.peers preimages (contents_of (terms_in h) k) (claimed_by x) i).0
fits laws h funding sure x (on_revoked n k there i) = revoked_fit laws.limits (terms_in h) k (peers_payable laws h.state funding sure n k there) (claimed_by x) (laws.revoked (contents_of (terms_in h) k) (claimed_by x) i).0

-- a claim of a set is on one of the outputs
on_one : (os : List Claimable) (claims : List ClaimParts) (x : ClaimParts) → AreClaimsOn os claims → Contains claims x → Contains os (claimed_by x)
on_one [] [] x a i = absurd (contains_none x i)
on_one [] (y ∷ ys) x a i = absurd a
on_one (o ∷ os) [] x a i = absurd (contains_none x i)
on_one (o ∷ os) (y ∷ ys) x a i =
    ⊎_elim {C = Contains (o ∷ os) (claimed_by x)} (λ (e : y ≡ x). subst (λ (p : Claimable). Contains (o ∷ os) p) (sym a.0.exact ∙ ap claimed_by e) (contains_first o os))
    (λ (j : Contains ys x). contains_later o os (claimed_by x) (on_one os ys x a.1 j)) (contains_cases y ys x i)

-- what the peer's revoked commitment lets be claimed, where it has this point
same_claims : (s : State) (k : CommitmentState) (secret : List ℕ) → k.owner ≡ other s.held.side → k.point.bytes ≡ point_of secret
    → claimable_in (revoked_contents s k secret) ≡ claims_from (contents_of s.held.terms k) 0 (contents_of s.held.terms k).outputs
unfolding claimable_in
same_claims s k secret owner point =
    ap (λ (side : Side). claimable_in (commitment_of s.held.terms k.view side k.number (point_of secret))) (sym owner) ∙ ap (λ (p : List ℕ). claimable_in (commitment_of s.held.terms k.view k.owner k.number p)) (sym point)

pub on_claimable : (h : Holding) → IsSure h.state → (n : ℕ) (os : List Claimable) (x : ClaimParts) → claimable_at h.state n ≡ Some os → Contains os (claimed_by x) → IsOnRecorded h x
on_claimable h sure n os x e i = by (slice_get h.state.signed n) (slice_get h.state.secrets n) refl refl e
  where
    by : (one : Option CommitmentState) (secret : Option (List ℕ)) → slice_get h.state.signed n ≡ one → slice_get h.state.secrets n ≡ secret
        → (one >>= (λ k. secret >>= (λ p. Some (claimable_in (revoked_contents h.state k p))))) ≡ Some os → IsOnRecorded h x
    by None secret a b e = absurd (none-some os e)
    by (Some k) None a b e = absurd (none-some os e)
    by (Some k) (Some secret) a b e =
        let point : k.point.bytes ≡ point_of secret = sure.learnt.each n k secret a b in
        let owner = (sure.numbered.signed.each n k a).owner in
        on_revoked n k a
        (subst (λ (ps : List Claimable). Contains ps (claimed_by x)) (sym (same_Some (claimable_in (revoked_contents h.state k secret)) os e) ∙ same_claims h.state k secret owner point) i)

-- so is a claim of a set that the channel keeps
pub on_kept : Laws → (tokens_of : Signing) (history : List Entry) (c : ℕ) (ch : ChannelBook) (x : ClaimParts) → all_accepted tokens_of history ≡ true → AreWhole history → slice_get (replay history) c ≡ Some ch
    → IsSure ch.state → IsKeptIn c history x → IsOnRecorded (holding_of history c ch) x
on_kept laws tokens_of history c ch x accepted whole there sure k =
    let p = laws.kept tokens_of history k.seat c k.number k.set accepted whole k.kept in
    on_claimable (holding_of history c ch) sure k.number p.outputs x (ap (λ (o : Option ChannelBook). claimable_by o k.number) (sym there) ∙ p.lets) (on_one p.outputs k.set x p.exact k.within)

-- ---- releases

-- each claim of a release is on what a recorded commitment gives
abbrev pub IsDue : Holding → Release → Type 0
IsDue h r = AllByRecursion (IsOnRecorded h) r.claims

module _ (laws : Laws) (history : List Entry) (c : ℕ) (ch : ChannelBook) (funding : IsOutPoint ch.state.held.terms.funding) (sure : IsSure ch.state) where
  abbrev it : Holding
  it = holding_of history c ch

  rightful : (batch : Batch) → AllByRecursion IsOutput batch.outputs → AllByRecursion (IsOnRecorded it) batch.claims → IsRightful it (record { claims = batch.claims; outputs = batch.outputs })
  rightful batch outputs on =
      let fit = all_from (IsOnRecorded it) (λ (x : ClaimParts). IsFit (claimed_by x)) (fits laws it funding sure) batch.claims on in
      let fit_together = limits_fit (transaction_for batch.claims batch.outputs) (transaction_keeps batch.claims batch.outputs batch.some batch.inputs batch.given fit outputs) in
      record {
        recorded = on;
        signable = all_from (λ (x : ClaimParts). IsFit (claimed_by x)) (λ (x : ClaimParts). IsSignable (claim_signed (record { claims = batch.claims; outputs = batch.outputs }) x))
            (λ x f. let short = f.code in let low = f.placed.value in record { transaction = fit_together; input = input_of x f; code = omega (arith, short); value = omega (arith, low) }) batch.claims fit;
      }

  -- all that entries release in the channel
  pub all_rightful : (es : List Entry) → AllByRecursion (λ e. TakesCare c e.call) es → AllByRecursion (IsDue it) (releases_in c es) → AllByRecursion (IsRightful it) (releases_in c es)
  all_rightful [] f d = tt
  all_rightful (e ∷ es) f d = by e.call f.0 d (λ rest. all_rightful es f.1 rest)
    where
      by : (call : Call) → TakesCare c call → AllByRecursion (IsDue it) (cons_option (release_by c call) (releases_in c es)) → (AllByRecursion (IsDue it) (releases_in c es) → AllByRecursion (IsRightful it) (releases_in c es))
          → AllByRecursion (IsRightful it) (cons_option (release_by c call) (releases_in c es))
      by (Releasing d batch) g due others = here (d == c) refl due
        where
          here : (b : Bool) → (d == c) ≡ b → AllByRecursion (IsDue it) (cons_option (if b then Some (record { claims = batch.claims; outputs = batch.outputs }) else None) (releases_in c es))
              → AllByRecursion (IsRightful it) (cons_option (if b then Some (record { claims = batch.claims; outputs = batch.outputs }) else None) (releases_in c es))
          here true at due = (rightful batch (g (eqb-true d c at)) due.0, others due.1)
          here false at due = others due
      by call g due others = others due
