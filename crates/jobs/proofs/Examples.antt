-- The rule at chosen values: a queue that meets it, and queues that lost a job, duplicated one, or gave the last one first.
use Rattle.std.proofs.Common.{◌≡◌, ℕ, zero, suc, ◌+◌, ◌-◌, ◌^◌, ◌<◌, ◌≤◌, ◌==◌, false, List, [], ◌∷◌, ◌++◌, get_or, sym, refl, ap, ◌∙◌, eq-eqb, ne_eqb, arith}
use Rattle.std.proofs.lemmas.List.Sorted.{IsPermutation-refl, length_permutation}
use Rattle.std.proofs.lemmas.Nat.{pow_pos}
use mathlib.Core.Option.{some, some-ne-none, some-injective}
use lib.ListN.{get_elem?}
use Rattle.jobs.specs.declared.rule.Hand.{Hand}
use Rattle.jobs.specs.Rule.{Log, hand, jobs_of, by_pass, IsFair, HoldAllShares}

less : (m n : ℕ) → m ≡ n → m < n → ⊥
less m n e h = omega arith

-- pass 0 put 7, pass 2 put 5, pass 0 put 9
in_order : jobs_of {J = ℕ} ((0, 7) ∷ (2, 5) ∷ (0, 9) ∷ []) ≡ 7 ∷ 5 ∷ 9 ∷ []
in_order = refl

of_one : by_pass {J = ℕ} 0 ((0, 7) ∷ (2, 5) ∷ (0, 9) ∷ []) ≡ 7 ∷ 9 ∷ []
of_one = refl

of_none : by_pass {J = ℕ} 1 ((0, 7) ∷ (2, 5) ∷ (0, 9) ∷ []) ≡ []
of_none = refl

-- one pass put 7 and 9 and took 7, and the queue holds 9
abbrev views : List (Hand ℕ)
views = hand 0 (7 ∷ 9 ∷ []) (7 ∷ []) ∷ []

each_of : (pass : ℕ) (v : Hand ℕ) → get_elem? views pass ≡ some v → (v.put ≡ by_pass {J = ℕ} pass ((0, 7) ∷ (0, 9) ∷ [])) × (v.taken ≡ by_pass {J = ℕ} pass ((0, 7) ∷ []))
each_of zero v at = let e = some-injective (hand 0 (7 ∷ 9 ∷ []) (7 ∷ [])) v at in (sym (ap (λ (u : Hand ℕ). u.put) e), sym (ap (λ (u : Hand ℕ). u.taken) e))
each_of (suc pass) v at = absurd (some-ne-none v (sym at))

other_pass : (pass : ℕ) → (0 == suc pass) ≡ false
other_pass pass = ne_eqb 0 (suc pass) (λ e. absurd (omega arith))

no_others : (pass : ℕ) → 1 ≤ pass → (by_pass {J = ℕ} pass ((0, 7) ∷ (0, 9) ∷ []) ≡ []) × (by_pass {J = ℕ} pass ((0, 7) ∷ []) ≡ [])
no_others zero h = absurd (omega arith)
no_others (suc pass) h = (rw (other_pass pass) refl, rw (other_pass pass) refl)

few_of : (pass : ℕ) (v : Hand ℕ) → get_elem? views pass ≡ some v → v.halvings ≤ 0
few_of zero v at = let e : 0 ≡ v.halvings = ap (λ (u : Hand ℕ). u.halvings) (some-injective (hand 0 (7 ∷ 9 ∷ []) (7 ∷ [])) v at) in omega (arith, e)
few_of (suc pass) v at = absurd (some-ne-none v (sym at))

one_left : IsFair {J = ℕ} (9 ∷ []) views
one_left = record {
  puts = (0, 7) ∷ (0, 9) ∷ [];
  takes = (0, 7) ∷ [];
  in_order = refl;
  each = each_of;
  no_others = no_others;
  balanced = IsPermutation-refl (7 ∷ 9 ∷ []);
  shares = record { most = 0; few = few_of; whole = refl };
}

-- 9 was put, and is neither taken nor in the queue
lost : IsFair {J = ℕ} [] views → ⊥
lost h = less 1 2 (length_permutation (7 ∷ 9 ∷ []) (7 ∷ []) h.balanced) (omega arith)

-- 7 was taken, and the queue still holds it
doubled : IsFair {J = ℕ} (7 ∷ 9 ∷ []) views → ⊥
doubled h = less 2 3 (sym (length_permutation (7 ∷ 9 ∷ []) (7 ∷ 7 ∷ 9 ∷ []) h.balanced)) (omega arith)

-- a log in which only pass 0 stands: its jobs are those of pass 0
others_none : (x : ℕ) (log : Log ℕ) → ((pass : ℕ) → 1 ≤ pass → by_pass pass ((0, x) ∷ log) ≡ []) → (pass : ℕ) → 1 ≤ pass → by_pass pass log ≡ []
others_none x log unheard zero h = absurd (omega arith)
others_none x log unheard (suc pass) h = rw (other_pass pass) at (unheard (suc pass) h)

alone : (log : Log ℕ) → ((pass : ℕ) → 1 ≤ pass → by_pass pass log ≡ []) → by_pass 0 log ≡ jobs_of log
alone [] unheard = refl
alone ((zero, x) ∷ log) unheard = ap (λ l. x ∷ l) (alone log (others_none x log unheard))
alone ((suc pass, x) ∷ log) unheard = let e = rw (eq-eqb (suc pass) (suc pass) refl) at (unheard (suc pass) (omega arith)) in cc

-- 7 and 9 were put, and 9 was taken first
last_first : IsFair {J = ℕ} (7 ∷ []) (hand 0 (7 ∷ 9 ∷ []) (9 ∷ []) ∷ []) → ⊥
last_first h =
    let mine = h.each 0 (hand 0 (7 ∷ 9 ∷ []) (9 ∷ [])) refl in
    let puts : jobs_of h.puts ≡ 7 ∷ 9 ∷ [] = sym (alone h.puts (λ pass far. (h.no_others pass far).0)) ∙ sym mine.0 in
    let takes : jobs_of h.takes ≡ 9 ∷ [] = sym (alone h.takes (λ pass far. (h.no_others pass far).1)) ∙ sym mine.1 in
    less 7 9 (ap (λ l. get_or l 0 0) (sym puts ∙ (h.in_order ∙ ap (λ l. l ++ 7 ∷ []) takes))) (omega arith)

-- two passes, of which one has the whole share
one_pass_more : (put taken : List ℕ) (halvings : ℕ) → HoldAllShares (hand 0 (7 ∷ []) [] ∷ hand halvings put taken ∷ []) → ⊥
one_pass_more put taken halvings h =
    let whole : 0 + 2 ^ (h.most - 0) + 2 ^ (h.most - halvings) ≡ 2 ^ h.most = h.whole in
    let first : 2 ^ (h.most - 0) ≡ 2 ^ h.most = ap (λ k. 2 ^ k) (omega arith) in
    let more = pow_pos (h.most - halvings) in
    omega (arith, whole, first, more)
