-- The points of a signer, and those that a state speaks of, have the same elements.
use Rattle.std.proofs.Common.{◌≡◌, ℕ, List, [], ◌∷◌, ◌++◌, subst, arith, inl, inr}
use Rattle.std.specs.Prelude.{Contains}
use Rattle.std.proofs.lemmas.List.Elements.{Contains-append_left, Contains-append_right, Contains-append_cases, Contains-push, Contains-push_cases}
use Rattle.channel.specs.Keeping.{HaveSame}

-- how a point may be among one's own last, the peer's last, those of one's own commitments and those of the peer's
data Among (own next : List ℕ) (mine signed : List (List ℕ)) (p : List ℕ) : Type 0 where
  is_own : own ≡ p → Among own next mine signed p
  is_next : next ≡ p → Among own next mine signed p
  in_mine : Contains mine p → Among own next mine signed p
  in_signed : Contains signed p → Among own next mine signed p

single : (x p : List ℕ) → Contains (x ∷ []) p → x ≡ p
single x p h = elim (Contains-push_cases [] x p h) [ inl none ↦ absurd (omega (arith, none.1)) | inr e ↦ e ]

among : (own next : List ℕ) (mine signed : List (List ℕ)) (p : List ℕ) → Contains (own ∷ next ∷ (mine ++ signed)) p → Among own next mine signed p
among own next mine signed p h =
    elim (Contains-append_cases (own ∷ []) (next ∷ (mine ++ signed)) p h) [
      | inl o ↦ Among.is_own (single own p o)
      | inr rest ↦
          elim (Contains-append_cases (next ∷ []) (mine ++ signed) p rest) [
            | inl n ↦ Among.is_next (single next p n)
            | inr both ↦ elim (Contains-append_cases mine signed p both) [ inl m ↦ Among.in_mine m | inr s ↦ Among.in_signed s ]
          ]
    ]

contained : (own next : List ℕ) (mine signed : List (List ℕ)) (p : List ℕ) → Among own next mine signed p → Contains (own ∷ next ∷ (mine ++ signed)) p
contained own next mine signed p (is_own e) = (0, omega arith, e)
contained own next mine signed p (is_next e) = (1, omega arith, e)
contained own next mine signed p (in_mine h) = Contains-append_right (own ∷ next ∷ []) (mine ++ signed) p (Contains-append_left mine signed p h)
contained own next mine signed p (in_signed h) = Contains-append_right (own ∷ next ∷ []) (mine ++ signed) p (Contains-append_right mine signed p h)

pushed : (xs : List (List ℕ)) (x p : List ℕ) → x ≡ p → Contains (xs ++ x ∷ []) p
pushed xs x p e = subst (λ q. Contains (xs ++ x ∷ []) q) e (Contains-push xs x)

-- a point of a signature: the commitment's is the peer's last
pub one_signed : (r : List (List ℕ)) (own next : List ℕ) (mine signed : List (List ℕ)) → HaveSame r (own ∷ next ∷ (mine ++ signed)) → HaveSame r (own ∷ next ∷ (mine ++ (signed ++ next ∷ [])))
one_signed r own next mine signed h = record { left = there; right = back }
  where
    onward : (p : List ℕ) → Among own next mine signed p → Among own next mine (signed ++ next ∷ []) p
    onward p (is_own e) = Among.is_own e
    onward p (is_next e) = Among.is_next e
    onward p (in_mine m) = Among.in_mine m
    onward p (in_signed s) = Among.in_signed (Contains-append_left signed (next ∷ []) p s)

    before : (p : List ℕ) → Among own next mine (signed ++ next ∷ []) p → Among own next mine signed p
    before p (is_own e) = Among.is_own e
    before p (is_next e) = Among.is_next e
    before p (in_mine m) = Among.in_mine m
    before p (in_signed s) = elim (Contains-push_cases signed next p s) [ inl t ↦ Among.in_signed t | inr e ↦ Among.is_next e ]

    there : (p : List ℕ) → Contains r p → Contains (own ∷ next ∷ (mine ++ (signed ++ next ∷ []))) p
    there p c = contained own next mine (signed ++ next ∷ []) p (onward p (among own next mine signed p (h.left p c)))

    back : (p : List ℕ) → Contains (own ∷ next ∷ (mine ++ (signed ++ next ∷ []))) p → Contains r p
    back p c = h.right p (contained own next mine signed p (before p (among own next mine (signed ++ next ∷ []) p c)))

-- a signature that came: one's own last point is now a commitment's, and there is one more
pub one_mine : (r : List (List ℕ)) (own next later : List ℕ) (mine signed : List (List ℕ)) → HaveSame r (own ∷ next ∷ (mine ++ signed))
    → HaveSame (r ++ later ∷ []) (later ∷ next ∷ ((mine ++ own ∷ []) ++ signed))
one_mine r own next later mine signed h = record { left = there; right = back }
  where
    onward : (p : List ℕ) → Among own next mine signed p → Among later next (mine ++ own ∷ []) signed p
    onward p (is_own e) = Among.in_mine (pushed mine own p e)
    onward p (is_next e) = Among.is_next e
    onward p (in_mine m) = Among.in_mine (Contains-append_left mine (own ∷ []) p m)
    onward p (in_signed s) = Among.in_signed s

    known : (p : List ℕ) → Among own next mine signed p → Contains (r ++ later ∷ []) p
    known p a = Contains-append_left r (later ∷ []) p (h.right p (contained own next mine signed p a))

    before : (p : List ℕ) → Among later next (mine ++ own ∷ []) signed p → Contains (r ++ later ∷ []) p
    before p (is_own e) = pushed r later p e
    before p (is_next e) = known p (Among.is_next e)
    before p (in_mine m) = elim (Contains-push_cases mine own p m) [ inl t ↦ known p (Among.in_mine t) | inr e ↦ known p (Among.is_own e) ]
    before p (in_signed s) = known p (Among.in_signed s)

    there : (p : List ℕ) → Contains (r ++ later ∷ []) p → Contains (later ∷ next ∷ ((mine ++ own ∷ []) ++ signed)) p
    there p c =
        contained later next (mine ++ own ∷ []) signed p
        (elim (Contains-push_cases r later p c) [ inl t ↦ onward p (among own next mine signed p (h.left p t)) | inr e ↦ Among.is_own e ])

    back : (p : List ℕ) → Contains (later ∷ next ∷ ((mine ++ own ∷ []) ++ signed)) p → Contains (r ++ later ∷ []) p
    back p c = before p (among later next (mine ++ own ∷ []) signed p c)

-- a revocation that came: the peer's last point is a signed commitment's, and there is one more
pub one_next : (r : List (List ℕ)) (own next later : List ℕ) (mine signed : List (List ℕ)) → Contains signed next → HaveSame r (own ∷ next ∷ (mine ++ signed))
    → HaveSame (r ++ later ∷ []) (own ∷ later ∷ (mine ++ signed))
one_next r own next later mine signed given h = record { left = there; right = back }
  where
    onward : (p : List ℕ) → Among own next mine signed p → Among own later mine signed p
    onward p (is_own e) = Among.is_own e
    onward p (is_next e) = Among.in_signed (subst (λ q. Contains signed q) e given)
    onward p (in_mine m) = Among.in_mine m
    onward p (in_signed s) = Among.in_signed s

    known : (p : List ℕ) → Among own next mine signed p → Contains (r ++ later ∷ []) p
    known p a = Contains-append_left r (later ∷ []) p (h.right p (contained own next mine signed p a))

    before : (p : List ℕ) → Among own later mine signed p → Contains (r ++ later ∷ []) p
    before p (is_own e) = known p (Among.is_own e)
    before p (is_next e) = pushed r later p e
    before p (in_mine m) = known p (Among.in_mine m)
    before p (in_signed s) = known p (Among.in_signed s)

    there : (p : List ℕ) → Contains (r ++ later ∷ []) p → Contains (own ∷ later ∷ (mine ++ signed)) p
    there p c =
        contained own later mine signed p
        (elim (Contains-push_cases r later p c) [ inl t ↦ onward p (among own next mine signed p (h.left p t)) | inr e ↦ Among.is_next e ])

    back : (p : List ℕ) → Contains (own ∷ later ∷ (mine ++ signed)) p → Contains (r ++ later ∷ []) p
    back p c = before p (among own later mine signed p c)

-- the points of a new channel: the peer's for 0 and 1, and one's own
pub first_four : (first next own second : List ℕ) → HaveSame (first ∷ next ∷ own ∷ second ∷ []) (second ∷ next ∷ own ∷ first ∷ [])
first_four first next own second = record { left = swapped first next own second; right = swapped second next own first }
  where
    turned : (a b c d p : List ℕ) → Among a b (c ∷ []) (d ∷ []) p → Among d b (c ∷ []) (a ∷ []) p
    turned a b c d p (is_own e) = Among.in_signed (0, omega arith, e)
    turned a b c d p (is_next e) = Among.is_next e
    turned a b c d p (in_mine m) = Among.in_mine m
    turned a b c d p (in_signed s) = Among.is_own (single d p s)

    swapped : (a b c d p : List ℕ) → Contains (a ∷ b ∷ c ∷ d ∷ []) p → Contains (d ∷ b ∷ c ∷ a ∷ []) p
    swapped a b c d p h = contained d b (c ∷ []) (a ∷ []) p (turned a b c d p (among a b (c ∷ []) (d ∷ []) p h))

pub turned_round : (xs ys : List (List ℕ)) → HaveSame xs ys → HaveSame ys xs
turned_round xs ys h = record { left = h.right; right = h.left }
