-- The calls of one seat, in a history with one more entry.
use Rattle.std.proofs.Common.{◌≡◌, ◌≢◌, ℕ, zero, suc, ◌+◌, ◌≤◌, ◌==◌, cond, [], ◌∷◌, ◌++◌, refl, sym, ap, ◌∙◌, subst, arith, eq-eqb, ne_eqb}
use Rattle.std.specs.List.{range_with_len}
use Rattle.std.proofs.lemmas.List.{append-nil, append_assoc}
use Rattle.std.proofs.lemmas.List.Elements.{filter-append}
use Rattle.book.specs.declared.calls.Entry.{Entry}
use Rattle.desk.specs.Histories.{History, GoesOn, calls_of, first_seat}

pub own_longer : (n : ℕ) (h : History) (e : Entry) → e.seat ≡ n → calls_of n (h ++ e ∷ []) ≡ calls_of n h ++ e ∷ []
own_longer n h e is = filter-append (λ (x : Entry). x.seat == n) h (e ∷ []) ∙ ap (λ b. calls_of n h ++ cond b (e ∷ []) []) (eq-eqb e.seat n is)

pub others_same : (n : ℕ) (h : History) (e : Entry) → n ≢ e.seat → calls_of n (h ++ e ∷ []) ≡ calls_of n h
others_same n h e not_mine = filter-append (λ (x : Entry). x.seat == n) h (e ∷ []) ∙ ap (λ b. calls_of n h ++ cond b (e ∷ []) []) (ne_eqb e.seat n (λ is. not_mine (sym is))) ∙ append-nil (calls_of n h)

pub none_from : (n : ℕ) (h : History) → first_seat h ≤ n → calls_of n h ≡ []
none_from n [] far = refl
none_from n (x ∷ h) far = rw (ne_eqb x.seat n (λ is. omega arith)) (none_from n h (omega arith))

pub numbers_longer : (n k : ℕ) → range_with_len n k ++ (n + k) ∷ [] ≡ range_with_len n (suc k)
numbers_longer n zero = ap (λ m. m ∷ []) (omega arith)
numbers_longer n (suc k) = ap (λ l. n ∷ l) (subst (λ m. range_with_len (n + 1) k ++ m ∷ [] ≡ range_with_len (n + 1) (suc k)) (omega arith) (numbers_longer (n + 1) k))

pub goes_on_same : (h : History) → GoesOn h h
goes_on_same h = ([], sym (append-nil h))

pub goes_on_more : (a b c : History) → GoesOn a b → GoesOn b c → GoesOn a c
goes_on_more a b c f g = (f.0 ++ g.0, g.1 ∙ ap (λ l. l ++ g.0) f.1 ∙ append_assoc a f.0 g.0)
