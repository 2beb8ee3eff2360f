-- What passes a sender's tests passes the tests of its receiver, who knows at least as much of its
-- own updates.
use Rattle.std.proofs.Common.{◌≡◌, ℕ, ◌+◌, ◌≤◌, Bool, true, false, not, eqb, ltb, leb, List, [], ◌∷◌, ◌++◌, length, sym, ap, ◌∙◌, refl, arith, Option, Some, None, Result, Ok, Err}
use Rattle.std.specs.Prelude.{MatchResult, is_none}
use Rattle.std.proofs.lemmas.Bool.{ltb-false, le-ltb, leb-false, lt-leb}
use Rattle.updates.specs.declared.changes.Update.{Update}
use Rattle.updates.specs.declared.changes.Update.TheVariants.{Add, Fulfil, Fail, Fee}
use Rattle.terms.specs.declared.htlcs.Htlc.{Htlc}
use Rattle.terms.specs.declared.sides.Side.{Side}
use Rattle.terms.specs.declared.agreement.Terms.{Terms}
use Rattle.updates.specs.Updates.{fate, offers, offer_of, spent_msat, gained_msat, live_count}
use Rattle.updates.specs.declared.fates.Fate.{Fate}
use Rattle.updates.specs.declared.fates.Fate.TheVariants.{Live, Fulfilled, Failed}
use Rattle.updates.specs.Views.{start_msat_of}
use Rattle.sha2.specs.Sha256.{sha256}
use Rattle.updates.specs.Stages.{Stages}
use Rattle.updates.specs.Refusals.{Test, if_so, first_refusal, removable, to_remove, is_wrong, update_tests, IsRefusal}
use Rattle.updates.specs.declared.errors.ChannelError.{ChannelError}
use Rattle.updates.specs.declared.errors.ChannelError.TheVariants.{NoMemory}
use Rattle.updates.proofs.Sums.{offers-append, spent_falls, live_count_falls, gained_of_more}
use Rattle.updates.proofs.Numbering.{found_on}
use Rattle.updates.specs.Steady.{KnowsMore, ReceiversAccept}

-- all tests pass
abbrev pub AllPass : List Test → Type 0
AllPass [] = Unit {0}
AllPass (t ∷ tests) = (t.0 ≡ false) × AllPass tests

pub all_pass : (tests : List Test) → first_refusal tests ≡ None → AllPass tests
all_pass [] e = tt
all_pass (t ∷ tests) e = by (all_pass tests) t.0 refl e
  where
    by : (first_refusal tests ≡ None → AllPass tests) → (b : Bool) → t.0 ≡ b → if_so b t.1 (first_refusal tests) ≡ None → (t.0 ≡ false) × AllPass tests
    by later true f g = absurd (cc)
    by later false f g = (f, later g)

pub none_refuses : (tests : List Test) → AllPass tests → first_refusal tests ≡ None
none_refuses [] p = refl
none_refuses (t ∷ tests) p = ap (λ b. if_so b t.1 (first_refusal tests)) p.0 ∙ none_refuses tests p.1

add_passes : (terms : Terms) (by : Side) (s o s' o' : Stages) (p : Htlc) → KnowsMore s o s' o' → AllPass (update_tests terms by s o (Add p)) → AllPass (update_tests terms by s' o' (Add p))
add_passes terms by s o s' o' p k (t1, (t2, (t3, (t4, (t5, (t6, t7)))))) =
    let live : live_count s'.known o'.settled ≤ live_count s.known o.settled = rw k.known (live_count_falls s.known o.settled o'.settled k.others_settled) in
    let few : leb 483 (live_count s'.known o'.settled) ≡ false = let l = leb-false 483 (live_count s.known o.settled) t5 in lt-leb 483 _ (omega (arith, live, l)) in
    let out : spent_msat s'.known o'.settled ≤ spent_msat s.known o.settled = rw k.known (spent_falls s.known o.settled o'.settled k.others_settled) in
    let come : gained_msat s.settled o.known ≤ gained_msat s'.settled o'.known = rw k.settled (gained_of_more s.settled o.known o'.known k.others_known) in
    let had : p.amount_msat + spent_msat s.known o.settled ≤ start_msat_of by terms + gained_msat s.settled o.known = ltb-false _ _ t6 in
    let enough : ltb (start_msat_of by terms + gained_msat s'.settled o'.known) (p.amount_msat + spent_msat s'.known o'.settled) ≡ false = le-ltb _ _ (omega (arith, out, come, had)) in
    (ap (λ l. not (eqb p.id (length (offers l)))) k.known ∙ t1, (t2, (t3, (t4, (few, (enough, tt))))))

-- a removal that passed is of a live HTLC, which is found among more updates too
pub removed : (f : Fate) (o : Option Htlc) (p : Htlc) → removable f o ≡ Some p → (f ≡ Live) × (o ≡ Some p)
removed Live o p e = (refl, e)
removed Fulfilled o p e = absurd (cc)
removed Failed o p e = absurd (cc)

pub present : (o : Option Htlc) → is_none o ≡ false → (p : Htlc) × (o ≡ Some p)
present None e = absurd (cc)
present (Some p) e = (p, refl)

same_to_remove : (s o s' o' : Stages) (id : ℕ) → KnowsMore s o s' o' → is_none (to_remove id s o) ≡ false → to_remove id s' o' ≡ to_remove id s o
same_to_remove s o s' o' id k e =
    let p = present (to_remove id s o) e in
    let r = removed (fate id s.known) (offer_of id (offers o.settled)) p.0 p.1 in
    let live : fate id s'.known ≡ Live = ap (fate id) k.known ∙ r.0 in
    let whole : offers o'.settled ≡ offers o.settled ++ offers k.others_settled.0 = ap offers (sym k.others_settled.1) ∙ offers-append o.settled k.others_settled.0 in
    let found : offer_of id (offers o'.settled) ≡ Some p.0 = ap (offer_of id) whole ∙ found_on id (offers o.settled) (offers k.others_settled.0) p.0 r.1 in
    ap (λ f. removable f (offer_of id (offers o'.settled))) live ∙ found ∙ sym p.1

update_passes : (terms : Terms) (by : Side) (s o s' o' : Stages) (u : Update) → KnowsMore s o s' o' → AllPass (update_tests terms by s o u) → AllPass (update_tests terms by s' o' u)
update_passes terms by s o s' o' (Add p) k e = add_passes terms by s o s' o' p k e
update_passes terms by s o s' o' (Fulfil id preimage) k (t1, (t2, t3)) =
    let g = same_to_remove s o s' o' id k t1 in
    (ap is_none g ∙ t1, (ap (is_wrong (sha256 preimage)) g ∙ t2, tt))
update_passes terms by s o s' o' (Fail id) k (t1, t2) = let g = same_to_remove s o s' o' id k t1 in (ap is_none g ∙ t1, tt)
update_passes terms by s o s' o' (Fee feerate_per_kw) k e = e

pub update_accepted : ReceiversAccept
update_accepted terms by s o s' o' u k e = none_refuses _ (update_passes terms by s o s' o' u k (all_pass _ e))

-- an answer that names the first refusal
refused : (first : Option ChannelError) (r : ChannelError) → first ≡ Some r → IsRefusal first r
refused first NoMemory e = tt
refused first r e = e

pub answered : {A : Type 0} (r : Result A ChannelError) (first : Option ChannelError) → MatchResult r (λ x. first ≡ None) (λ e. first ≡ Some e) → MatchResult r (λ x. first ≡ None) (IsRefusal first)
answered (Ok x) first h = h
answered (Err e) first h = refused first e h
