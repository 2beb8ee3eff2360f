-- Whatever goes out again went out before, and what was signed under a number stays so.
use Rattle.std.proofs.Common.{◌≡◌, ℕ, zero, suc, ◌+◌, ◌-◌, Bool, true, false, cond, List, [], ◌∷◌, ◌++◌, length, take, drop, map, slice_get, Some, sym, ap, ◌∙◌, subst, refl, arith, append-nil, append_assoc}
use Rattle.std.specs.Prelude.{Contains}
use Rattle.std.specs.List.{AllByRecursion}
use Rattle.std.proofs.lemmas.Bool.{eqb-true}
use Rattle.std.proofs.lemmas.List.{take-append-drop}
use Rattle.std.proofs.lemmas.List.Elements.{Contains-append_right}
use Rattle.updates.specs.declared.changes.Update.{Update}
use Rattle.updates.specs.Stages.{unacknowledged}
use Rattle.channel.specs.declared.commitments.CommitmentState.{CommitmentState}
use Rattle.channel.specs.declared.messages.Message.{Message}
use Rattle.updates.specs.declared.messages.PeerStep.TheVariants.{Update as Updated, CommitmentSigned}
use Rattle.channel.specs.declared.messages.Message.TheVariants.{Step, RevokeAndAck}
use Rattle.channel.specs.declared.reestablish.Reestablish.{Reestablish}
use Rattle.channel.specs.Points.{point_at}
use Rattle.channel.specs.States.{Signing, State, peers_next, after}
use Rattle.channel.specs.Reestablishing.{lacks_signature, lacks_revocation, update_message, signature_again, revocation_again, in_order}
use Rattle.channel.specs.Resending.{IsOld, NothingNewGoesOut, IsSince, still, took, forgot, IsLater, now, updated_later, signed_later, received_later, forgot_later, restarted_later, SignsOnce}
use Rattle.channel.proofs.Resends.{signature_part, revocation_part}

all_append : (P : Message → Type 0) (xs ys : List Message) → AllByRecursion P xs → AllByRecursion P ys → AllByRecursion P (xs ++ ys)
all_append P [] ys a b = b
all_append P (x ∷ xs) ys a b = (a.0, all_append P xs ys a.1 b)

-- elements of a list's end are elements of the list
ends_in : {X : Type 0} (n : ℕ) (xs : List X) (x : X) → Contains (drop n xs) x → Contains xs x
ends_in n xs x c = subst (λ l. Contains l x) (take-append-drop n xs) (Contains-append_right (take n xs) (drop n xs) x c)

later_in : {X : Type 0} (y : X) (xs : List X) (x : X) → Contains xs x → Contains (y ∷ xs) x
later_in y xs x c = Contains-append_right (y ∷ []) xs x c

old_updates : (tokens_of : Signing) (s : State) (us : List Update) → ((u : Update) → Contains us u → Contains s.held.own.with_receiver u) → AllByRecursion (IsOld tokens_of s) (map update_message us)
old_updates tokens_of s [] f = tt
old_updates tokens_of s (u ∷ us) f = (f u (0, omega arith, refl), old_updates tokens_of s us (λ v c. f v (later_in u us v c)))

old_signatures : (tokens_of : Signing) (s : State) (cs : List CommitmentState) → ((c : CommitmentState) → Contains cs c → Contains s.signed c)
    → AllByRecursion (IsOld tokens_of s) (map (λ c. Step (CommitmentSigned (tokens_of s.held.terms c))) cs)
old_signatures tokens_of s [] f = tt
old_signatures tokens_of s (c ∷ cs) f = ((c, f c (0, omega arith, refl), refl), old_signatures tokens_of s cs (λ d i. f d (later_in c cs d i)))

old_signature : (tokens_of : Signing) (s : State) (r : Reestablish) → AllByRecursion (IsOld tokens_of s) (signature_part tokens_of s r)
old_signature tokens_of s r = by (lacks_signature s r)
  where
    by : (b : Bool) → AllByRecursion (IsOld tokens_of s) (cond b (signature_again tokens_of s) [])
    by false = tt
    by true =
        all_append (IsOld tokens_of s) (map update_message (unacknowledged s.held.own)) _
        (old_updates tokens_of s (unacknowledged s.held.own) (λ u c. ends_in (length s.held.own.past_receiver) s.held.own.with_receiver u c))
        (old_signatures tokens_of s (drop (s.peer_number + 1) s.signed) (λ c i. ends_in (s.peer_number + 1) s.signed c i))

old_revocation : (tokens_of : Signing) (s : State) (r : Reestablish) → AllByRecursion (IsOld tokens_of s) (revocation_part s r)
old_revocation tokens_of s r = by (lacks_revocation s r) refl
  where
    by : (b : Bool) → lacks_revocation s r ≡ b → AllByRecursion (IsOld tokens_of s) (cond b (revocation_again s) [])
    by false e = tt
    by true e =
        let f = eqb-true (r.next_revocation + 1) s.number e in
        let next : s.number + 1 ≡ s.number - 1 + 2 = omega (arith, f) in
        ((s.number - 1, omega (arith, f), refl, ap (point_at s.seed) next), tt)

pub nothing_new : NothingNewGoesOut
nothing_new tokens_of s r = by s.revoked_last
  where
    by : (revoked : Bool) → AllByRecursion (IsOld tokens_of s) (in_order revoked (signature_part tokens_of s r) (revocation_part s r))
    by true = all_append (IsOld tokens_of s) (signature_part tokens_of s r) (revocation_part s r) (old_signature tokens_of s r) (old_revocation tokens_of s r)
    by false = all_append (IsOld tokens_of s) (revocation_part s r) (signature_part tokens_of s r) (old_revocation tokens_of s r) (old_signature tokens_of s r)

-- the commitments that a side signed only grow

abbrev Grows : State → State → Type 0
Grows s t = (more : List CommitmentState) × (s.signed ++ more ≡ t.signed)

grown_after : (s t : State) (m : Message) → Grows s t → Grows s (after t m)
grown_after s t (Step (Updated u)) g = g
grown_after s t (Step (CommitmentSigned tokens)) g = g
grown_after s t (RevokeAndAck revocation) g = g

-- and not at all while a side gives nothing out
signed_after : (s : State) (m : Message) → (after s m).signed ≡ s.signed
signed_after s (Step (Updated u)) = refl
signed_after s (Step (CommitmentSigned tokens)) = refl
signed_after s (RevokeAndAck revocation) = refl

pub signed_since : (tokens_of : Signing) (s t : State) → IsSince tokens_of s t → t.signed ≡ s.signed
signed_since tokens_of s t still = refl
signed_since tokens_of s t (took {t = r} m e a since) = signed_after r m ∙ signed_since tokens_of s r since
signed_since tokens_of s t (forgot {t = r} since) = signed_since tokens_of s r since

grown : (tokens_of : Signing) (s t : State) → IsLater tokens_of s t → Grows s t
grown tokens_of s t now = ([], append-nil s.signed)
grown tokens_of s t (updated_later {t = r} u e l) = grown tokens_of s r l
grown tokens_of s t (signed_later {t = r} e l) =
    let g = grown tokens_of s r l in
    (g.0 ++ peers_next r ∷ [], sym (append_assoc s.signed g.0 (peers_next r ∷ [])) ∙ ap (λ x. x ++ peers_next r ∷ []) g.1)
grown tokens_of s t (received_later {t = r} m e l) = grown_after s r m (grown tokens_of s r l)
grown tokens_of s t (forgot_later {t = r} l) = grown tokens_of s r l
grown tokens_of s t (restarted_later {t = r} u since l) = let g = grown tokens_of s r l in (g.0, g.1 ∙ signed_since tokens_of u r since)

-- what stands at a place of a list stands there as it grows
stays_at : (xs more : List CommitmentState) (n : ℕ) (c : CommitmentState) → slice_get xs n ≡ Some c → slice_get (xs ++ more) n ≡ Some c
stays_at [] more n c e = absurd (cc)
stays_at (x ∷ xs) more zero c e = e
stays_at (x ∷ xs) more (suc n) c e = stays_at xs more n c e

pub signs_once : SignsOnce
signs_once tokens_of s t n c d l e f =
    let g = grown tokens_of s t l in
    let h : slice_get t.signed n ≡ Some c = ap (λ x. slice_get x n) (sym g.1) ∙ stays_at s.signed g.0 n c e in
    let i : Some c ≡ Some d = sym h ∙ f in
    cc
