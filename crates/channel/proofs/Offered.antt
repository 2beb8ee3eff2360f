-- Each HTLC that a side offers in a commitment that it signed is an offer of its own updates.
use Rattle.std.proofs.Common.{◌≡◌, List, [], ◌∷◌, ◌++◌, refl, sym, ap, ◌∙◌, subst, Contains, arith}
use Rattle.std.specs.List.{AllByRecursion}
use Rattle.std.proofs.lemmas.List.Elements.{Contains-append_left, Contains-append_right}
use Rattle.terms.specs.declared.htlcs.Htlc.{Htlc}
use Rattle.terms.specs.declared.sides.Side.{Side}
use Rattle.terms.specs.declared.sides.Side.TheVariants.{A, B}
use Rattle.terms.specs.declared.agreement.Terms.{Terms}
use Rattle.terms.specs.Sides.{other}
use Rattle.terms.specs.Views.{share}
use Rattle.updates.specs.declared.changes.Update.{Update}
use Rattle.updates.specs.declared.fates.Fate.{Fate}
use Rattle.updates.specs.declared.fates.Fate.TheVariants.{Live, Fulfilled, Failed}
use Rattle.updates.specs.declared.messages.PeerStep.TheVariants.{Update as Updated, CommitmentSigned}
use Rattle.updates.specs.Updates.{fate, offers, kept_if_live, live_in}
use Rattle.updates.specs.Views.{view_by}
use Rattle.updates.specs.Steady.{IsBeginning}
use Rattle.updates.proofs.Sums.{offers-append}
use Rattle.channel.specs.declared.commitments.CommitmentState.{CommitmentState}
use Rattle.channel.specs.declared.messages.Message.{Message}
use Rattle.channel.specs.declared.messages.Message.TheVariants.{Step, RevokeAndAck}
use Rattle.channel.specs.States.{Signing, State, peers_next, after_sign, after}
use Rattle.channel.specs.Peers.{IsLived, starts, updated_once, signed_once, received_once, forgot_once}
use Rattle.channel.specs.Learning.{SidesOfferOwn}
use Rattle.channel.proofs.Sides.{IsKept, lived_kept}

-- ---- lists

all_from : {X : Type 0} (P Q : X → Type 0) → ((x : X) → P x → Q x) → (xs : List X) → AllByRecursion P xs → AllByRecursion Q xs
all_from P Q f [] h = tt
all_from P Q f (x ∷ xs) h = (f x h.0, all_from P Q f xs h.1)

all_pushed : {X : Type 0} (P : X → Type 0) (x : X) (xs : List X) → AllByRecursion P xs → P x → AllByRecursion P (xs ++ x ∷ [])
all_pushed P x [] h p = (p, tt)
all_pushed P x (y ∷ xs) h p = (h.0, all_pushed P x xs h.1 p)

-- each element of a list is in it
all_within : {X : Type 0} (xs : List X) → AllByRecursion (Contains xs) xs
all_within [] = tt
all_within {X} (x ∷ xs) = ((0, omega arith, refl), all_from (Contains xs) (Contains (x ∷ xs)) (λ (y : X) (c : Contains xs y). Contains-append_right (x ∷ []) xs y c) xs (all_within xs))

-- ---- the offers of a view

live_too : (P : Htlc → Type 0) (os : List Htlc) (ends : List Update) → AllByRecursion P os → AllByRecursion P (live_in os ends)
live_too P [] ends h = tt
live_too P (o ∷ os) ends h = by (fate o.id ends) (live_too P os ends h.1)
  where
    by : (f : Fate) → AllByRecursion P (live_in os ends) → AllByRecursion P (kept_if_live f o (live_in os ends))
    by Live rest = (h.0, rest)
    by Fulfilled rest = rest
    by Failed rest = rest

-- the HTLCs that a side offers in a commitment are among these
abbrev AreOf : List Htlc → Side → CommitmentState → Type 0
AreOf all side k = AllByRecursion (Contains all) (share side k.view).offered

-- those in the view of its updates `mine` are offers of `mine`
of_view : (terms : Terms) (side : Side) (mine others : List Update) → AllByRecursion (Contains (offers mine)) (share side (view_by terms side mine others)).offered
of_view terms A mine others = live_too (Contains (offers mine)) (offers mine) others (all_within (offers mine))
of_view terms B mine others = live_too (Contains (offers mine)) (offers mine) others (all_within (offers mine))

none_at_first : (terms : Terms) (side : Side) → AllByRecursion (Contains []) (share side (view_by terms (other side) [] [])).offered
none_at_first terms A = tt
none_at_first terms B = tt

-- what is among the offers of a beginning is among those of the whole
of_more : (front whole : List Update) → IsBeginning front whole → (side : Side) (ks : List CommitmentState) → AllByRecursion (AreOf (offers front) side) ks → AllByRecursion (AreOf (offers whole) side) ks
of_more front whole b side ks h =
    let e : offers front ++ offers b.0 ≡ offers whole = sym (offers-append front b.0) ∙ ap offers b.1 in
    let among : (x : Htlc) → Contains (offers front) x → Contains (offers whole) x = λ x c. subst (λ (all : List Htlc). Contains all x) e (Contains-append_left (offers front) (offers b.0) x c) in
    all_from (AreOf (offers front) side) (AreOf (offers whole) side) (λ (k : CommitmentState) (are : AreOf (offers front) side k). all_from (Contains (offers front)) (Contains (offers whole)) among (share side k.view).offered are) ks h

-- ---- the commitments that a side signed

-- the HTLCs that it offers in them are offers of its updates under a signature, which no cut forgets
abbrev AreCovered : State → Type 0
AreCovered s = AllByRecursion (AreOf (offers s.held.own.with_receiver) s.held.side) s.signed

covered_signed : (s : State) → IsKept s → AreCovered s → AreCovered (after_sign s)
covered_signed s k h =
    all_pushed (AreOf (offers s.held.own.known) s.held.side) (peers_next s) s.signed
    (of_more s.held.own.with_receiver s.held.own.known k.own.receiver s.held.side s.signed h)
    (of_view s.held.terms s.held.side s.held.own.known s.held.theirs.past_receiver)

covered_after : (s : State) (m : Message) → AreCovered s → AreCovered (after s m)
covered_after s (Step (Updated u)) h = h
covered_after s (Step (CommitmentSigned tokens)) h = h
covered_after s (RevokeAndAck revocation) h = h

all_covered : (tokens_of : Signing) (s : State) → IsLived tokens_of s → AreCovered s
all_covered tokens_of s (starts terms side seed point next_point) = (none_at_first terms side, tt)
all_covered tokens_of s (updated_once {s = r} u e l) = all_covered tokens_of r l
all_covered tokens_of s (signed_once {s = r} e l) = covered_signed r (lived_kept tokens_of r l) (all_covered tokens_of r l)
all_covered tokens_of s (received_once {s = r} m e l) = covered_after r m (all_covered tokens_of r l)
all_covered tokens_of s (forgot_once {s = r} l) = all_covered tokens_of r l

pub sides_offer_own : SidesOfferOwn
sides_offer_own tokens_of s l = of_more s.held.own.with_receiver s.held.own.known (lived_kept tokens_of s l).own.receiver s.held.side s.signed (all_covered tokens_of s l)
