-- An HTLC that a side fulfilled is not failed by it: each fulfilment that it gave is among those that its state has, and none of these is lost.
use Rattle.std.proofs.Common.{◌≡◌, ℕ, Bool, true, false, ◌||◌, eqb, List, [], ◌∷◌, ◌++◌, sym, ap, ◌∙◌, subst, refl, arith, None, inl, inr}
use Rattle.std.specs.Prelude.{Contains, is_none}
use Rattle.std.specs.List.{list_any}
use Rattle.std.proofs.lemmas.Bool.{eq-eqb}
use Rattle.std.proofs.lemmas.List.Elements.{Contains-append_cases, Contains-push_cases}
use Rattle.updates.specs.declared.changes.Update.{Update}
use Rattle.updates.specs.declared.changes.Update.TheVariants.{Add, Fulfil, Fail, Fee}
use Rattle.updates.specs.declared.errors.ChannelError.TheVariants.{UnknownHtlc, AlreadyFulfilled}
use Rattle.updates.specs.Refusals.{if_so, to_remove}
use Rattle.channel.specs.declared.messages.Message.{Message}
use Rattle.updates.specs.declared.messages.PeerStep.TheVariants.{Update as Updated, CommitmentSigned}
use Rattle.channel.specs.declared.messages.Message.TheVariants.{Step, RevokeAndAck}
use Rattle.channel.specs.States.{Signing, State, fulfilled_after, after, answers, signature_message}
use Rattle.channel.specs.Resending.{HasGiven, gave_nothing, gave_update, gave_signature, gave_answers, gave_no_more, IsSince, still, took, forgot, IsLater, now, updated_later, signed_later, received_later, forgot_later, restarted_later}
use Rattle.restart_laws.specs.Fulfilled.{FulfilledAreNotFailed}

abbrev is_in : List ℕ → ℕ → Bool
is_in ids id = list_any (λ i. eqb i id) ids

either : (t u v : Bool) → (u ≡ true → v ≡ true) → (t || u) ≡ true → (t || v) ≡ true
either true u v f e = refl
either false u v f e = f e

first_holds : (t u : Bool) → t ≡ true → (t || u) ≡ true
first_holds t u e = ap (λ b. b || u) e

second_holds : (t u : Bool) → u ≡ true → (t || u) ≡ true
second_holds true u e = refl
second_holds false u e = e

stays_in : (ids more : List ℕ) (id : ℕ) → is_in ids id ≡ true → is_in (ids ++ more) id ≡ true
stays_in [] more id e = absurd (cc)
stays_in (i ∷ ids) more id e = either (eqb i id) (is_in ids id) (is_in (ids ++ more) id) (stays_in ids more id) e

pushed_in : (ids : List ℕ) (id : ℕ) → is_in (ids ++ id ∷ []) id ≡ true
pushed_in [] id = first_holds (eqb id id) false (eq-eqb id id refl)
pushed_in (i ∷ ids) id = second_holds (eqb i id) (is_in (ids ++ id ∷ []) id) (pushed_in ids id)

-- the fulfilments of a state are those of its later states too

updated_in : (u : Update) (ids : List ℕ) (id : ℕ) → is_in ids id ≡ true → is_in (fulfilled_after u ids) id ≡ true
updated_in (Add h) ids id e = e
updated_in (Fulfil i preimage) ids id e = stays_in ids (i ∷ []) id e
updated_in (Fail i) ids id e = e
updated_in (Fee feerate_per_kw) ids id e = e

same_after : (s : State) (m : Message) → (after s m).fulfilled ≡ s.fulfilled
same_after s (Step (Updated u)) = refl
same_after s (Step (CommitmentSigned tokens)) = refl
same_after s (RevokeAndAck revocation) = refl

same_since : (tokens_of : Signing) (s t : State) → IsSince tokens_of s t → t.fulfilled ≡ s.fulfilled
same_since tokens_of s t still = refl
same_since tokens_of s t (took {t = r} m e none since) = same_after r m ∙ same_since tokens_of s r since
same_since tokens_of s t (forgot {t = r} since) = same_since tokens_of s r since

in_after : (s : State) (m : Message) (id : ℕ) → is_in s.fulfilled id ≡ true → is_in (after s m).fulfilled id ≡ true
in_after s m id e = ap (λ ids. is_in ids id) (same_after s m) ∙ e

in_later : (tokens_of : Signing) (s t : State) (id : ℕ) → IsLater tokens_of s t → is_in s.fulfilled id ≡ true → is_in t.fulfilled id ≡ true
in_later tokens_of s t id now e = e
in_later tokens_of s t id (updated_later {t = r} u f l) e = updated_in u r.fulfilled id (in_later tokens_of s r id l e)
in_later tokens_of s t id (signed_later {t = r} f l) e = in_later tokens_of s r id l e
in_later tokens_of s t id (received_later {t = r} m f l) e = in_after r m id (in_later tokens_of s r id l e)
in_later tokens_of s t id (forgot_later {t = r} l) e = in_later tokens_of s r id l e
in_later tokens_of s t id (restarted_later {t = r} u since l) e = ap (λ ids. is_in ids id) (sym (same_since tokens_of u r since)) ∙ in_later tokens_of s r id l e

-- each fulfilment that was given is among them

one_in : (u : Update) (ids : List ℕ) (id : ℕ) (preimage : List ℕ) → Step (Updated u) ≡ Step (Updated (Fulfil id preimage)) → is_in (fulfilled_after u ids) id ≡ true
one_in (Add h) ids id preimage e = absurd (cc)
one_in (Fulfil i x) ids id preimage e = let f : i ≡ id = (cc) in subst (λ n. is_in (ids ++ n ∷ []) id ≡ true) (sym f) (pushed_in ids id)
one_in (Fail i) ids id preimage e = absurd (cc)
one_in (Fee feerate_per_kw) ids id preimage e = absurd (cc)

answers_none : (s : State) (m : Message) (u : Update) → Contains (answers s m) (Step (Updated u)) → ⊥
answers_none s (Step (Updated v)) u c = absurd (let l = c.1 in omega (arith, l))
answers_none s (Step (CommitmentSigned tokens)) u c = elim (Contains-push_cases [] _ (Step (Updated u)) c) [ inl none ↦ absurd (let l = none.1 in omega (arith, l)) | inr e ↦ absurd (cc) ]
answers_none s (RevokeAndAck revocation) u c = absurd (let l = c.1 in omega (arith, l))

given_in : (tokens_of : Signing) (s : State) (given : List Message) (id : ℕ) (preimage : List ℕ) → HasGiven tokens_of s given → Contains given (Step (Updated (Fulfil id preimage))) → is_in s.fulfilled id ≡ true
given_in tokens_of s given id preimage (gave_nothing terms side seed point next_point) c = absurd (let l = c.1 in omega (arith, l))
given_in tokens_of s given id preimage (gave_update {s = r} {given = before} u e h) c =
    elim (Contains-push_cases before (Step (Updated u)) (Step (Updated (Fulfil id preimage))) c) [
      | inl there ↦ updated_in u r.fulfilled id (given_in tokens_of r before id preimage h there)
      | inr is ↦ one_in u r.fulfilled id preimage is
    ]
given_in tokens_of s given id preimage (gave_signature {s = r} {given = before} e h) c =
    elim (Contains-push_cases before (signature_message tokens_of r) (Step (Updated (Fulfil id preimage))) c) [
      | inl there ↦ given_in tokens_of r before id preimage h there
      | inr is ↦ absurd (cc)
    ]
given_in tokens_of s given id preimage (gave_answers {s = r} {given = before} m e h) c =
    elim (Contains-append_cases before (answers r m) (Step (Updated (Fulfil id preimage))) c) [
      | inl there ↦ in_after r m id (given_in tokens_of r before id preimage h there)
      | inr is ↦ absurd (answers_none r m (Fulfil id preimage) is)
    ]
given_in tokens_of s given id preimage (gave_no_more {s = r} {given = before} h) c = given_in tokens_of r before id preimage h c

refuses : (t u : Bool) → u ≡ true → if_so t UnknownHtlc (if_so u AlreadyFulfilled None) ≡ None → ⊥
refuses true u e f = absurd (cc)
refuses false true e f = absurd (cc)
refuses false false e f = absurd (cc)

pub fulfilled_are_not_failed : FulfilledAreNotFailed
fulfilled_are_not_failed tokens_of s t given id preimage h c later passes =
    refuses (is_none (to_remove id t.held.own t.held.theirs)) (is_in t.fulfilled id) (in_later tokens_of s t id later (given_in tokens_of s given id preimage h c)) passes
