-- What is due by the right verdict is exactly what a node counts on.
use Rattle.std.proofs.Common.{◌≡◌, ℕ, ◌+◌, Bool, true, false, List, [], ◌∷◌, ◌++◌, Option, Some, None, sym, ap, ◌∙◌, refl, subst, inl, inr, ⊎_elim}
use Rattle.std.specs.Prelude.{◌⊎◌, slice_get, if◌then◌else◌}
use Rattle.std.specs.List.{Contains}
use Rattle.std.proofs.lemmas.Bool.{and_parts, eq-eqb}
use Rattle.std.proofs.lemmas.List.Elements.{All-from_recursion, All-contains, Contains-append_left, Contains-append_right, Contains-append_cases}
use Rattle.claim.specs.declared.parts.Place.{Place}
use Rattle.commit.specs.declared.fees.Direction.TheVariants.{Offered, Received}
use Rattle.commit.specs.declared.outputs.OutputKind.{OutputKind}
use Rattle.commit.specs.declared.outputs.OutputKind.TheVariants.{ToLocal, ToRemote, ToHtlc}
use Rattle.commit.specs.declared.outputs.CommitmentOutput.{CommitmentOutput}
use Rattle.commit.specs.declared.outputs.HtlcOutput.{HtlcOutput}
use Rattle.commit.specs.Commitments.{Contents, tx_output, transaction_of}
use Rattle.penalty.specs.declared.states.RevokedState.{RevokedState}
use Rattle.penalty.specs.Claimable.{Claimable, place_in, htlc_penalty_on, second_stage_penalty, claims_on, claims_by, claims_from, commitment_in, claimable_of}
use Rattle.penalty.specs.Worth.{stage_on, staged}
use Rattle.resolve.specs.declared.verdicts.Verdict.TheVariants.{Ours, Theirs, TheirsNext, Revoked}
use Rattle.resolve.specs.declared.known.RevokedCommitment.{RevokedCommitment}
use Rattle.resolve.specs.declared.known.Known.{Known}
use Rattle.resolve.specs.Due.{can_pay, is_owners, second_stage_on, delayed_second_stage, owners_on, owners_due, peers_due, peers_due_if, penalties_if, if_number, due_of}
use Rattle.channel.specs.declared.commitments.CommitmentState.{CommitmentState}
use Rattle.channel.specs.Tokens.{contents_of}
use Rattle.worth_laws.specs.Counted.{counted_on, counted, known_by, due_by, HasNoTwin, CountedAreDue}
use Rattle.worth_laws.specs.Least.{MayClose, revoked, newest, next, own, counted_by}
use Rattle.safety.specs.Holdings.{Holding, terms_in, KeepsRules}
use Rattle.safety.proofs.Slots.{contains_first, contains_later, contains_cases}
use Rattle.safety.proofs.Places.{contains_one}
use Rattle.due_laws.specs.Breaks.{IsOfChannel, own_newest, of_peers, DuesBreak}
use Rattle.due_laws.specs.Knowing.{IsKnownTo}
use Rattle.due_laws.specs.Verdicts.{verdict_by}
use Rattle.due_laws.specs.Counting.{AreExactly, DuesAreCounted}
use Rattle.due_laws.proofs.Lists.{if_true}
use Rattle.due_laws.proofs.Known.{own_known, theirs_known, next_known, revoked_known}
use Rattle.due_laws.proofs.Twins.{no_twin}

-- ---- lists of one and of two

pub of_two : (f s o : Claimable) → Contains (f ∷ s ∷ []) o → (o ≡ f) ⊎ (o ≡ s)
of_two f s o i = ⊎_elim {C = (o ≡ f) ⊎ (o ≡ s)} (λ (e : f ≡ o). inl (sym e)) (λ (j : Contains (s ∷ []) o). inr (contains_one s o j)) (contains_cases f (s ∷ []) o i)

the_same : (f o : Claimable) → o ≡ f → Contains (f ∷ []) o
the_same f o e = subst (Contains (f ∷ [])) (sym e) (contains_first f [])

one_of_two : (b : Bool) (f s o : Claimable) → o ≡ (if b then s else f) → Contains (f ∷ s ∷ []) o
one_of_two true f s o e = contains_later f (s ∷ []) o (the_same s o e)
one_of_two false f s o e = subst (Contains (f ∷ s ∷ [])) (sym e) (contains_first f (s ∷ []))

which : (f s o : Claimable) → (o ≡ f) ⊎ (o ≡ s) → Contains (f ∷ []) o ⊎ Contains (s ∷ []) o
which f s o (inl e) = inl (the_same f o e)
which f s o (inr e) = inr (the_same s o e)

-- ---- from one output to all

abbrev Rule : Type 0
Rule = ℕ → Place → OutputKind → List Claimable

within : (small big : Rule) (c : Contents) → ((index : ℕ) (place : Place) (kind : OutputKind) (o : Claimable) → Contains (small index place kind) o → Contains (big index place kind) o)
    → (index : ℕ) (os : List CommitmentOutput) (o : Claimable) → Contains (claims_by small c index os) o → Contains (claims_by big c index os) o
unfolding claims_by
within small big c f index [] o i = i
within small big c f index (x ∷ xs) o i =
    let place = place_in (transaction_of c) index (tx_output x) in
    ⊎_elim {C = Contains (big index place x.kind ++ claims_by big c (index + 1) xs) o}
    (λ (j : Contains (small index place x.kind) o). Contains-append_left (big index place x.kind) (claims_by big c (index + 1) xs) o (f index place x.kind o j))
    (λ (j : Contains (claims_by small c (index + 1) xs) o). Contains-append_right (big index place x.kind) (claims_by big c (index + 1) xs) o (within small big c f (index + 1) xs o j))
    (Contains-append_cases (small index place x.kind) (claims_by small c (index + 1) xs) o i)

in_front : (fs gs more others : List Claimable) (o : Claimable) → Contains fs o ⊎ Contains gs o → Contains (fs ++ more) o ⊎ Contains (gs ++ others) o
in_front fs gs more others o (inl a) = inl (Contains-append_left fs more o a)
in_front fs gs more others o (inr b) = inr (Contains-append_left gs others o b)

behind : (fs gs more others : List Claimable) (o : Claimable) → Contains more o ⊎ Contains others o → Contains (fs ++ more) o ⊎ Contains (gs ++ others) o
behind fs gs more others o (inl a) = inl (Contains-append_right fs more o a)
behind fs gs more others o (inr b) = inr (Contains-append_right gs others o b)

either : (big f g : Rule) (c : Contents) → ((index : ℕ) (place : Place) (kind : OutputKind) (o : Claimable) → Contains (big index place kind) o → Contains (f index place kind) o ⊎ Contains (g index place kind) o)
    → (index : ℕ) (os : List CommitmentOutput) (o : Claimable) → Contains (claims_by big c index os) o → Contains (claims_by f c index os) o ⊎ Contains (claims_by g c index os) o
unfolding claims_by
either big f g c split index [] o i = inl i
either big f g c split index (x ∷ xs) o i =
    let place = place_in (transaction_of c) index (tx_output x) in
    let fs = f index place x.kind in
    let gs = g index place x.kind in
    let more = claims_by f c (index + 1) xs in
    let others = claims_by g c (index + 1) xs in
    ⊎_elim {C = Contains (fs ++ more) o ⊎ Contains (gs ++ others) o} (λ (j : Contains (big index place x.kind) o). in_front fs gs more others o (split index place x.kind o j))
    (λ (j : Contains (claims_by big c (index + 1) xs) o). behind fs gs more others o (either big f g c split (index + 1) xs o j))
    (Contains-append_cases (big index place x.kind) (claims_by big c (index + 1) xs) o i)

-- ---- a revoked commitment

stage_in : (stands : ℕ → Bool) (c : Contents) (index : ℕ) (place : Place) (kind : OutputKind) (o : Claimable) → Contains (stage_on stands c index place kind) o → Contains (claims_on c index place kind) o
stage_in stands c index place ToLocal o i = i
stage_in stands c index place ToRemote o i = i
stage_in stands c index place (ToHtlc direction h) o i =
    let f = htlc_penalty_on c direction h place in
    let s = second_stage_penalty c (record { index = index; direction = direction; htlc = h }) in
    one_of_two (stands index) f s o (contains_one (if stands index then s else f) o i)

stage_only : (c : Contents) (index : ℕ) (place : Place) (kind : OutputKind) (o : Claimable) → Contains (claims_on c index place kind) o
    → Contains (stage_on (λ _. false) c index place kind) o ⊎ Contains (stage_on (λ _. true) c index place kind) o
stage_only c index place ToLocal o i = inl i
stage_only c index place ToRemote o i = inl i
stage_only c index place (ToHtlc direction h) o i =
    let f = htlc_penalty_on c direction h place in
    let s = second_stage_penalty c (record { index = index; direction = direction; htlc = h }) in
    which f s o (of_two f s o i)

penalties_exactly : (c : Contents) → AreExactly (claims_from c 0 c.outputs) (λ stands. staged stands c)
penalties_exactly c = record {
  all = λ stands o i. within (stage_on stands c) (claims_on c) c (stage_in stands c) 0 c.outputs o i;
  only = λ o i. either (claims_on c) (stage_on (λ _. false) c) (stage_on (λ _. true) c) c (stage_only c) 0 c.outputs o i;
}

claimable_are : (state : RevokedState) → claimable_of state ≡ claims_from (commitment_in state) 0 (commitment_in state).outputs
unfolding claimable_of
claimable_are state = refl

revoked_due : (known : Known) (n : ℕ) (r : RevokedCommitment) → slice_get known.revoked n ≡ Some r → r.state.number ≡ n → due_of known (Revoked n) ≡ claimable_of r.state
unfolding due_of
revoked_due known n r there number =
    ap (λ (o : Option RevokedCommitment). penalties_if (if_number n o)) there ∙ ap (λ b. penalties_if (if b then Some r else None)) (eq-eqb r.state.number n number)

-- ---- the side's own

own_only : (preimages : List (List ℕ)) (c : Contents) (index : ℕ) (place : Place) (kind : OutputKind) (o : Claimable) → Contains (owners_on preimages c index place kind) o
    → Contains (counted_on true (known_by preimages) (λ _. false) c index place kind) o ⊎ Contains (counted_on true (known_by preimages) (λ _. true) c index place kind) o
own_only preimages c index place ToLocal o i = inl i
own_only preimages c index place ToRemote o i = inl i
own_only preimages c index place (ToHtlc Offered h) o i =
    let x : HtlcOutput = record { index = index; direction = Offered; htlc = h } in
    let f = second_stage_on c x place in
    let s = delayed_second_stage c x in
    which f s o (of_two f s o (if_true (is_owners preimages c.keys Offered h) (f ∷ s ∷ []) o i).1)
own_only preimages c index place (ToHtlc Received h) o i =
    let x : HtlcOutput = record { index = index; direction = Received; htlc = h } in
    let f = second_stage_on c x place in
    let s = delayed_second_stage c x in
    let there = if_true (is_owners preimages c.keys Received h) (f ∷ s ∷ []) o i in
    let known = (and_parts (known_by preimages h) (can_pay c.keys h) there.0).0 in
    subst (λ b. Contains (if b then f ∷ [] else []) o ⊎ Contains (if b then s ∷ [] else []) o) (sym known) (which f s o (of_two f s o there.1))

ours_due : (known : Known) → due_of known Ours ≡ owners_due known.preimages known.own.commitment
unfolding due_of
ours_due known = refl

own_exactly : CountedAreDue → (preimages : List (List ℕ)) (c : Contents) → HasNoTwin preimages c → AreExactly (owners_due preimages c) (λ stands. counted true (known_by preimages) stands c)
unfolding owners_due
own_exactly law preimages c none = record {
  all = λ stands o i. All-contains (Contains (due_by true preimages c)) (counted true (known_by preimages) stands c) o
      (All-from_recursion (Contains (due_by true preimages c)) (counted true (known_by preimages) stands c) (law.each true preimages stands c none)) i;
  only = λ o i. either (owners_on preimages c) (counted_on true (known_by preimages) (λ _. false) c) (counted_on true (known_by preimages) (λ _. true) c) c (own_only preimages c) 0 c.outputs o i;
}

-- ---- its peer's

peers_exactly : CountedAreDue → (preimages : List (List ℕ)) (c : Contents) → HasNoTwin preimages c → AreExactly (peers_due preimages c) (λ stands. counted false (known_by preimages) stands c)
peers_exactly law preimages c none = record {
  all = λ stands o i. subst (λ (os : List Claimable). Contains os o) (sym (law.peers preimages stands c none)) i;
  only = λ o i. inl (subst (λ (os : List Claimable). Contains os o) (law.peers preimages (λ _. false) c none) i);
}

theirs_due : (known : Known) → due_of known Theirs ≡ peers_due known.preimages known.theirs
unfolding due_of
theirs_due known = refl

next_due : (known : Known) → due_of known TheirsNext ≡ peers_due_if known.preimages known.next
unfolding due_of
next_due known = refl

-- ---- together

module _ (law : CountedAreDue) (h : Holding) (kept : KeepsRules h) (known : Known) (w : IsKnownTo h known) where
  abbrev Counts : (k : CommitmentState) → MayClose h.state k → Type 0
  Counts k m = AreExactly (due_of known (verdict_by h.state k m)) (λ stands. counted_by (known_by known.preimages) stands h.state k m) ⊎ DuesBreak h.state known.preimages

  unless_twin : (k : CommitmentState) (m : MayClose h.state k) → IsOfChannel h.state k
      → (HasNoTwin known.preimages (contents_of (terms_in h) k) → AreExactly (due_of known (verdict_by h.state k m)) (λ stands. counted_by (known_by known.preimages) stands h.state k m)) → Counts k m
  unless_twin k m i f =
      ⊎_elim {C = Counts k m} (λ (n : HasNoTwin known.preimages (contents_of (terms_in h) k)). inl (f n)) (λ (x : DuesBreak h.state known.preimages). inr x) (no_twin h.state k i known.preimages w.preimages)

  counts : (k : CommitmentState) (m : MayClose h.state k) → Counts k m
  counts k (revoked n l there) =
      let c = contents_of (terms_in h) k in
      let r = revoked_known h kept known w n k l there in
      let due : due_of known (Revoked n) ≡ claims_from c 0 c.outputs =
      revoked_due known n r.revoked r.there r.number ∙ claimable_are r.revoked.state ∙ ap (λ (d : Contents). claims_from d 0 d.outputs) r.contents in
      inl (subst (λ (os : List Claimable). AreExactly os (λ stands. staged stands c)) (sym due) (penalties_exactly c))
  counts k (newest there) =
      let c = contents_of (terms_in h) k in
      unless_twin k (newest there) (of_peers h.state.peer_number there)
      (λ n.
      subst (λ (os : List Claimable). AreExactly os (λ stands. counted false (known_by known.preimages) stands c)) (sym (theirs_due known ∙ ap (peers_due known.preimages) (theirs_known h known w k there)))
      (peers_exactly law known.preimages c n))
  counts k (next e there) =
      let c = contents_of (terms_in h) k in
      unless_twin k (next e there) (of_peers (h.state.peer_number + 1) there)
      (λ n.
      subst (λ (os : List Claimable). AreExactly os (λ stands. counted false (known_by known.preimages) stands c)) (sym (next_due known ∙ ap (peers_due_if known.preimages) (next_known h known w (Some k) there)))
      (peers_exactly law known.preimages c n))
  counts k (own there) =
      let c = contents_of (terms_in h) k in
      unless_twin k (own there) (own_newest there)
      (λ n.
      subst (λ (os : List Claimable). AreExactly os (λ stands. counted true (known_by known.preimages) stands c)) (sym (ours_due known ∙ ap (owners_due known.preimages) (own_known h known w k there)))
      (own_exactly law known.preimages c n))

pub dues_are_counted : CountedAreDue → DuesAreCounted
dues_are_counted law h kept known w k m = counts law h kept known w k m
