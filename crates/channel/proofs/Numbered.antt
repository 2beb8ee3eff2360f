-- The commitments that a channel records: those that it opens with, and one more.
use Rattle.std.proofs.Common.{◌≡◌, ℕ, zero, suc, ◌+◌, List, [], ◌∷◌, ◌++◌, length, slice_get, Some, sym, ap, ◌∙◌, subst, refl, length-append, inl, inr}
use Rattle.std.specs.Prelude.{◌⊎◌}
use Rattle.terms.specs.declared.sides.Side.{Side}
use Rattle.terms.specs.declared.sides.Side.TheVariants.{A, B}
use Rattle.terms.specs.declared.agreement.Terms.{Terms}
use Rattle.terms.specs.Sides.{other}
use Rattle.updates.specs.declared.changes.Update.{Update}
use Rattle.updates.specs.Views.{IsSoundBy}
use Rattle.updates.specs.Shares.{IsSoundIn}
use Rattle.updates.specs.Steady.{holding_none}
use Rattle.updates.proofs.OneSide.{steady_none, sound_at}
use Rattle.keys.specs.declared.compressed.Key.{Key}
use Rattle.channel.specs.declared.commitments.CommitmentState.{CommitmentState}
use Rattle.channel.specs.States.{State, first_of, peers_next, own_next}
use Rattle.channel.specs.Numbered.{IsNumbered, AreNumbered}
use Rattle.channel.proofs.Built.{shares_by}
use Rattle.channel.proofs.SignRights.{other_twice}

sound_first : (terms : Terms) (owner : Side) → IsSoundBy terms owner [] []
sound_first terms owner =
    sound_at (holding_none terms owner) [] [] (steady_none terms owner) (record { holds_settled = ([], refl); is_known = ([], refl) }) (record { holds_settled = ([], refl); is_known = ([], refl) })

-- a commitment among those with one more
at_push : (cs : List CommitmentState) (c : CommitmentState) (n : ℕ) (d : CommitmentState) → slice_get (cs ++ c ∷ []) n ≡ Some d → (slice_get cs n ≡ Some d) ⊎ ((length cs ≡ n) × (c ≡ d))
at_push [] c zero d e = inr (refl, cc)
at_push [] c (suc n) d e = absurd (cc)
at_push (b ∷ bs) c zero d e = inl e
at_push (b ∷ bs) c (suc n) d e = elim (at_push bs c n d e) [ inl h ↦ inl h | inr h ↦ inr (ap suc h.0, h.1) ]

-- it is the commitment of this number
is_next : (terms : Terms) (owner : Side) (k n : ℕ) (c d : CommitmentState) → IsNumbered terms owner k c → k ≡ n → c ≡ d → IsNumbered terms owner n d
is_next terms owner k n c d h e f = subst (λ m. IsNumbered terms owner m d) e (subst (λ x. IsNumbered terms owner k x) f h)

pub numbered_push : (terms : Terms) (owner : Side) (k : ℕ) (cs ds : List CommitmentState) (c : CommitmentState) → AreNumbered terms owner k cs → ds ≡ cs ++ c ∷ [] → IsNumbered terms owner k c
    → AreNumbered terms owner (k + 1) ds
numbered_push terms owner k cs ds c h e one =
    subst (AreNumbered terms owner (k + 1)) (sym e)
    (record {
      count = length-append cs (c ∷ []) ∙ ap (λ m. m + 1) h.count;
      each = λ n d g. elim (at_push cs c n d g) [ inl old ↦ h.each n d old | inr new ↦ is_next terms owner k n c d one (sym h.count ∙ new.0) new.1 ];
    })

pub numbered_same : (terms terms' : Terms) (owner owner' : Side) (k k' : ℕ) (cs cs' : List CommitmentState) → terms' ≡ terms → owner' ≡ owner → k' ≡ k → cs' ≡ cs → AreNumbered terms owner k cs
    → AreNumbered terms' owner' k' cs'
numbered_same terms terms' owner owner' k k' cs cs' t o n e h =
    subst (λ x. AreNumbered x owner' k' cs') (sym t)
    (subst (λ x. AreNumbered terms x k' cs') (sym o) (subst (λ x. AreNumbered terms owner x cs') (sym n) (subst (λ x. AreNumbered terms owner k x) (sym e) h)))

-- what a channel opens with
pub numbered_first : (terms : Terms) (owner : Side) (point : Key) → AreNumbered terms owner 1 (first_of terms owner point ∷ [])
numbered_first terms owner point =
    let one : IsNumbered terms owner 0 (first_of terms owner point) = record { owner = refl; number = refl; shares = shares_by terms owner [] [] (sound_first terms owner) } in
    record {
      count = refl;
      each = λ n c g. elim (at_push [] (first_of terms owner point) n c g) [ inl none ↦ absurd (cc) | inr new ↦ is_next terms owner 0 n (first_of terms owner point) c one new.0 new.1 ];
    }

-- what this side signs next, and what the peer does
pub numbered_peers : (s : State) (c : CommitmentState) → c ≡ peers_next s → IsSoundIn s.held s.held.own.known s.held.theirs.past_receiver → IsNumbered s.held.terms (other s.held.side) (s.peer_number + 1) c
numbered_peers s c e sound =
    subst (IsNumbered s.held.terms (other s.held.side) (s.peer_number + 1)) (sym e)
    (record { owner = refl; number = refl; shares = shares_by s.held.terms s.held.side s.held.own.known s.held.theirs.past_receiver sound })

turned : (terms : Terms) (side : Side) (xs ys : List Update) → IsSoundBy terms side xs ys → IsSoundBy terms (other side) ys xs
turned terms A xs ys s = s
turned terms B xs ys s = s

pub numbered_own : (s : State) (c : CommitmentState) → c ≡ own_next s → IsSoundIn s.held s.held.own.past_receiver s.held.theirs.known → IsNumbered s.held.terms s.held.side (s.number + 1) c
numbered_own s c e sound =
    subst (IsNumbered s.held.terms s.held.side (s.number + 1)) (sym e)
    (record {
      owner = other_twice s.held.side;
      number = refl;
      shares = shares_by s.held.terms (other s.held.side) s.held.theirs.known s.held.own.past_receiver (turned s.held.terms s.held.side s.held.own.past_receiver s.held.theirs.known sound);
    })
