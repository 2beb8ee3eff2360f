-- Care goes on, call by call.
use Rattle.std.proofs.Common.{◌≡◌, List, [], ◌∷◌, ◌++◌, sym, ◌∙◌, subst}
use Rattle.std.specs.List.{AllByRecursion, Contains}
use Rattle.std.proofs.lemmas.List.Elements.{filter_map-append}
use Rattle.std.proofs.lemmas.Option.{same_Some}
use Rattle.terms.specs.declared.agreement.Terms.{Terms}
use Rattle.claim.specs.Claims.{ClaimParts}
use Rattle.penalty.specs.Claimable.{claims_from}
use Rattle.penalty.specs.Sets.{claimed_by}
use Rattle.resolve.specs.Due.{owners_due, peers_due}
use Rattle.channel.specs.Tokens.{contents_of}
use Rattle.safety.specs.Holdings.{Holding, Release, IsOnRecorded, on_own, on_peers, on_revoked}
use Rattle.safety.specs.Recorded.{IsOutPoint}
use Rattle.book.specs.declared.calls.Entry.{Entry}
use Rattle.book.specs.Books.{ChannelBook}
use Rattle.book.specs.Growing.{Grew, ChannelsGrow}
use Rattle.book_laws.specs.Holdings.{release_by, releases_in, holding_of}
use Rattle.book_laws.specs.Keeping.{TakesCare, CareGoesOn}
use Rattle.book_laws.proofs.Lists.{all_from}

-- what each of two lists has, each of both has
both : {X : Type 0} (P : X → Type 0) (xs ys : List X) → AllByRecursion P xs → AllByRecursion P ys → AllByRecursion P (xs ++ ys)
both P [] ys h k = k
both P (x ∷ xs) ys h k = (h.0, both P xs ys h.1 k)

-- what is on a recorded commitment stays on it
pub on_later : (h g : Holding) → Grew h.state g.state → (x : ClaimParts) → IsOnRecorded h x → IsOnRecorded g x
on_later h g grew x (on_own n k at preimages i) = on_own n k (grew.mine n k at) preimages (subst (λ (t : Terms). Contains (owners_due preimages (contents_of t k)) (claimed_by x)) (sym grew.terms) i)
on_later h g grew x (on_peers n k at preimages i) = on_peers n k (grew.signed n k at) preimages (subst (λ (t : Terms). Contains (peers_due preimages (contents_of t k)) (claimed_by x)) (sym grew.terms) i)
on_later h g grew x (on_revoked n k at i) =
    on_revoked n k (grew.signed n k at) (subst (λ (t : Terms). Contains (claims_from (contents_of t k) 0 (contents_of t k).outputs) (claimed_by x)) (sym grew.terms) i)

abbrev IsDue : Holding → Release → Type 0
IsDue h r = AllByRecursion (IsOnRecorded h) r.claims

pub care_goes_on : ChannelsGrow → CareGoesOn
care_goes_on grow history c ch new e careful called there cares due =
    let l = grow history e c ch careful.there in
    let same : l.new ≡ new = same_Some l.new new (sym l.there ∙ there) in
    let grew : Grew ch.state new.state = subst (λ (x : ChannelBook). Grew ch.state x.state) same l.grew in
    let h : Holding = holding_of history c ch in
    let g : Holding = holding_of (history ++ e ∷ []) c new in
    let later : (r : Release) → IsDue h r → IsDue g r = λ r d. all_from (IsOnRecorded h) (IsOnRecorded g) (on_later h g grew) r.claims d in
    record {
      called = called;
      there = there;
      cares = both (λ (x : Entry). TakesCare c x.call) history (e ∷ []) careful.cares (cares, tt);
      due = subst (AllByRecursion (IsDue g)) (sym (filter_map-append (λ (x : Entry). release_by c x.call) history (e ∷ [])))
          (all_from (IsDue h) (IsDue g) later (releases_in c history ++ releases_in c (e ∷ [])) (both (IsDue h) (releases_in c history) (releases_in c (e ∷ [])) careful.due due));
      funding = subst (λ (t : Terms). IsOutPoint t.funding) (sym grew.terms) careful.funding;
    }
