-- Outputs have different outpoints where the grants have distinct ids: the id of each transaction was new when it was added.
use Rattle.std.proofs.Common.{◌≡◌, ℕ, inl, inr, ◌⊎◌, ◌+◌, ◌<◌, ◌≤◌, Bool, true, false, ◌||◌, ◌&&◌, ◌==◌, List, [], ◌∷◌, ◌++◌, length, sym, ap, ◌∙◌, refl, arith, append_assoc, append-nil, ne_eqb}
use Rattle.std.specs.List.{list_any}
use Rattle.std.specs.Str.{bytes_eq}
use Rattle.std.proofs.lemmas.Bool.{false≢true, and_parts, or_cases}
use Rattle.std.proofs.lemmas.List.Folds.{list_any-append}
use Rattle.std.proofs.lemmas.Slice.Eq.{bytes_eq-Decides}
use Rattle.tx.specs.declared.input.OutPoint.{OutPoint}
use Rattle.tx.specs.Parts.{Output}
use Rattle.tx.specs.Fields.{Transaction, same_outpoint}
use Rattle.tx.specs.Spelling.{transaction_id}
use Rattle.chain.specs.Blocks.{Contents, Creation, grant_id, grant_outpoint, creations_from, created_by, created_by_all, granted_at, grants_in, created_of, has_id}
use Rattle.chain.specs.Checked.{have_passed, is_checked}
use Rattle.chain.specs.Conserving.{GrantsAreApart}
use Rattle.chain.proofs.Noting.{swapped}
use Rattle.chain.proofs.Passing.{passed, next_passed}

-- none of them has the outpoint
abbrev pub Nobody : OutPoint → List Creation → Type 0
Nobody o list = list_any (λ d. same_outpoint d.outpoint o) list ≡ false

-- none of them has the outpoint of a later one
abbrev pub Differ : List Creation → Type 0
Differ [] = Unit {0}
Differ (c ∷ cs) = Nobody c.outpoint cs × Differ cs

abbrev pub AreApart : List Contents → Type 0
AreApart blocks = Differ (created_of blocks)

-- one of them has the id
abbrev has : List ℕ → List Creation → Bool
has id list = list_any (λ c. bytes_eq c.outpoint.txid id) list

pub or_parts : (a b : Bool) → (a || b) ≡ false → (a ≡ false) × (b ≡ false)
or_parts true b e = absurd (false≢true (sym e))
or_parts false b e = (refl, e)

pub both_false : (a b : Bool) → a ≡ false → b ≡ false → (a || b) ≡ false
both_false true b e f = absurd (false≢true (sym e))
both_false false b e f = f

not_both : (a b : Bool) → (a ≡ true → b ≡ false) → (a && b) ≡ false
not_both true b f = f refl
not_both false b f = refl

not_so : (b : Bool) → (b ≡ true → ⊥) → b ≡ false
not_so true never = absurd (never refl)
not_so false never = refl

or_right : (a b : Bool) → b ≡ true → (a || b) ≡ true
or_right true b e = refl
or_right false b e = e

less : (a b c : Bool) → ((a || b) || c) ≡ false → (b || c) ≡ false
less true b c e = absurd (false≢true (sym e))
less false b c e = e

more : (a b c : Bool) → a ≡ true → ((a || b) || c) ≡ true
more true b c e = refl
more false b c e = absurd (false≢true e)

-- one more, at an outpoint that none has yet
differ_one : (xs : List Creation) (c : Creation) → Differ xs → Nobody c.outpoint xs → Differ (xs ++ c ∷ [])
differ_one [] c apart new = (refl, tt)
differ_one (x ∷ xs) c apart new =
    let parts = or_parts (same_outpoint x.outpoint c.outpoint) (list_any (λ d. same_outpoint d.outpoint c.outpoint) xs) new in
    let here : (same_outpoint c.outpoint x.outpoint || false) ≡ false = both_false (same_outpoint c.outpoint x.outpoint) false (swapped c.outpoint x.outpoint ∙ parts.0) refl in (
      list_any-append (λ d. same_outpoint d.outpoint x.outpoint) xs (c ∷ []) ∙ both_false (list_any (λ d. same_outpoint d.outpoint x.outpoint) xs) _ apart.0 here,
      differ_one xs c apart.1 parts.1,
    )

-- where none has the id, none has the outpoint
nobody_of : (id : List ℕ) (o : OutPoint) (xs : List Creation) → o.txid ≡ id → has id xs ≡ false → Nobody o xs
nobody_of id o [] e none = refl
nobody_of id o (x ∷ xs) e none =
    let parts = or_parts (bytes_eq x.outpoint.txid id) (has id xs) none in
    let other : bytes_eq x.outpoint.txid o.txid ≡ false = ap (λ i. bytes_eq x.outpoint.txid i) e ∙ parts.0 in
    both_false (same_outpoint x.outpoint o) (list_any (λ d. same_outpoint d.outpoint o) xs)
    (not_both (bytes_eq x.outpoint.txid o.txid) (x.outpoint.index == o.index) (λ s. absurd (false≢true (sym other ∙ s))))
    (nobody_of id o xs e parts.1)

-- the outputs of a transaction, where none has its id with an index from the first one on
differ_outputs : (xs : List Creation) (id : List ℕ) (height index : ℕ) (outputs : List Output) → Differ xs → ((q : OutPoint) → q.txid ≡ id → index ≤ q.index → Nobody q xs) → Differ (xs ++ creations_from id height index outputs)
differ_outputs xs id height index [] apart free = rw (append-nil xs) apart
differ_outputs xs id height index (o ∷ os) apart free =
    let at : OutPoint = record { txid = id; index = index } in
    let one : Creation = record { outpoint = at; output = o; height = height } in
    let more = differ_one xs one apart (free at refl (omega arith)) in
    let next : (q : OutPoint) → q.txid ≡ id → index + 1 ≤ q.index → Nobody q (xs ++ one ∷ []) = λ q e below.
    list_any-append (λ d. same_outpoint d.outpoint q) xs (one ∷ [])
    ∙ both_false (list_any (λ d. same_outpoint d.outpoint q) xs) _ (free q e (omega (arith, below)))
    (both_false (same_outpoint at q) false (not_both (bytes_eq id q.txid) (index == q.index) (λ s. ne_eqb index q.index (λ f. omega (arith, below, f)))) refl)
    in
    rw (← append_assoc xs (one ∷ []) (creations_from id height (index + 1) os)) (differ_outputs (xs ++ one ∷ []) id height (index + 1) os more next)

has_outputs : (id own : List ℕ) (height index : ℕ) (outputs : List Output) → has id (creations_from own height index outputs) ≡ true → bytes_eq own id ≡ true
has_outputs id own height index [] h = absurd (false≢true h)
has_outputs id own height index (o ∷ os) h =
    elim (or_cases (bytes_eq own id) (has id (creations_from own height (index + 1) os)) h) [
      | inl s ↦ s
      | inr r ↦ has_outputs id own height (index + 1) os r
    ]

has_both : (id : List ℕ) (xs ys : List Creation) → has id (xs ++ ys) ≡ true → (has id xs ≡ true) ⊎ (has id ys ≡ true)
has_both id xs ys h = or_cases (has id xs) (has id ys) (sym (list_any-append (λ c. bytes_eq c.outpoint.txid id) xs ys) ∙ h)

has_transactions : (id : List ℕ) (height : ℕ) (ts : List Transaction) → has id (created_by_all height ts) ≡ true → list_any (λ t. bytes_eq (transaction_id t) id) ts ≡ true
has_transactions id height [] h = absurd (false≢true h)
has_transactions id height (t ∷ ts) h =
    elim (has_both id (created_by_all height ts) (created_by height t) h) [
      | inl before ↦ or_right (bytes_eq (transaction_id t) id) _ (has_transactions id height ts before)
      | inr here ↦ ap (λ b. b || list_any (λ t. bytes_eq (transaction_id t) id) ts) (has_outputs id (transaction_id t) height 0 t.outputs here)
    ]

-- the id of one of the first n grants
abbrev IsGrantBelow : ℕ → List ℕ → Type 0
IsGrantBelow n id = (g : ℕ) × (g < n) × (bytes_eq (grant_id g) id ≡ true)

has_grants : (id : List ℕ) (height before : ℕ) (os : List Output) → has id (granted_at height before os) ≡ true → IsGrantBelow (before + length os) id
has_grants id height before [] h = absurd (false≢true h)
has_grants id height before (o ∷ os) h =
    let one : Creation = record { outpoint = grant_outpoint (before + length os); output = o; height = height } in
    elim (has_both id (granted_at height before os) (one ∷ []) h) [
      | inl earlier ↦ let g = has_grants id height before os earlier in (g.0, omega (arith, g.1), g.2)
      | inr here ↦ (before + length os, omega arith, elim (or_cases (bytes_eq (grant_id (before + length os)) id) false here) [ inl s ↦ s | inr n ↦ absurd (false≢true n) ])
    ]

-- an output on a chain has the id of a transaction or of a grant
has_created : (id : List ℕ) (blocks : List Contents) → has id (created_of blocks) ≡ true → (has_id blocks id ≡ true) ⊎ IsGrantBelow (grants_in blocks) id
has_created id [] h = absurd (false≢true h)
has_created id (b ∷ older) h =
    let in_block = list_any (λ t. bytes_eq (transaction_id t) id) b.transactions in
    elim (has_both id (created_of older) _ h) [
      | inl below ↦ elim (has_created id older below) [
        | inl known ↦ inl (or_right in_block (has_id older id) known)
        | inr g ↦ inr (g.0, omega (arith, g.1), g.2)
      ]
      | inr here ↦ elim (has_both id (created_by_all (length older) b.transactions) (granted_at (length older) (grants_in older) b.granted) here) [
        | inl t ↦ inl (ap (λ x. x || has_id older id) (has_transactions id (length older) b.transactions t))
        | inr g ↦ inr (has_grants id (length older) (grants_in older) b.granted g)
      ]
    ]

-- the first n grants have distinct ids, and no transaction of these blocks has one of them
record Free (n : ℕ) (blocks : List Contents) : Type 0 where
  among : (g h : ℕ) → g < h → h < n → bytes_eq (grant_id g) (grant_id h) ≡ false
  from : (g : ℕ) → g < n → has_id blocks (grant_id g) ≡ false

same_ids : (a b : List ℕ) → bytes_eq a b ≡ true → a ≡ b
same_ids a b h = (bytes_eq-Decides a b).0 h

abbrev behind : List Transaction → List Contents → List Contents
behind ts older = record { transactions = ts; granted = [] } ∷ older

free_older : (n : ℕ) (b : Contents) (older : List Contents) → Free n (b ∷ older) → Free n older
free_older n b older f = record { among = f.among; from = λ g below. (or_parts (list_any (λ t. bytes_eq (transaction_id t) (grant_id g)) b.transactions) (has_id older (grant_id g)) (f.from g below)).1 }

-- one more transaction, with a new id
apart_transaction : (n : ℕ) (t : Transaction) (ts : List Transaction) (older : List Contents) → Free n (behind (t ∷ ts) older) → grants_in older ≤ n → has_id (behind ts older) (transaction_id t) ≡ false → Differ (created_of older ++ created_by_all (length older) ts) → Differ (created_of older ++ created_by_all (length older) (t ∷ ts))
apart_transaction n t ts older free grants new apart =
    let id = transaction_id t in
    let before = created_of older ++ created_by_all (length older) ts in
    let others : has id before ≡ false = not_so (has id before) (λ h.
    elim (has_created id (behind ts older) (ap (λ xs. has id (created_of older ++ xs)) (append-nil (created_by_all (length older) ts)) ∙ h)) [
      | inl known ↦ false≢true (sym new ∙ known)
      | inr g ↦ let own : bytes_eq id (grant_id g.0) ≡ true = (bytes_eq-Decides id (grant_id g.0)).1 (sym (same_ids (grant_id g.0) id g.2)) in
          false≢true (sym (free.from g.0 (omega (arith, g.1, grants))) ∙ more (bytes_eq id (grant_id g.0)) (list_any (λ t. bytes_eq (transaction_id t) (grant_id g.0)) ts) (has_id older (grant_id g.0)) own)
    ]) in
    rw (← append_assoc (created_of older) (created_by_all (length older) ts) (created_by (length older) t))
    (differ_outputs before id (length older) 0 t.outputs apart (λ q e from. nobody_of id q before e others))

apart_transactions : (n : ℕ) (ts : List Transaction) (older : List Contents) → Free n (behind ts older) → grants_in older ≤ n → have_passed older ts ≡ true → Differ (created_of older) → Differ (created_of older ++ created_by_all (length older) ts)
apart_transactions n [] older free grants checked apart = rw (append-nil (created_of older)) apart
apart_transactions n (t ∷ ts) older free grants checked apart =
    let passes = next_passed older t ts checked in
    let fewer : Free n (behind ts older) = record { among = free.among; from = λ g below. less (bytes_eq (transaction_id t) (grant_id g)) (list_any (λ t. bytes_eq (transaction_id t) (grant_id g)) ts) (has_id older (grant_id g)) (free.from g below) } in
    apart_transaction n t ts older free grants (passed (behind ts older) t passes.0).new_id (apart_transactions n ts older fewer grants passes.1 apart)

-- the grants of a block, each with a new id
apart_grants : (n : ℕ) (ts : List Transaction) (os : List Output) (older : List Contents) → Free n (behind ts older) → grants_in older + length os ≤ n → Differ (created_of older ++ created_by_all (length older) ts) → Differ ((created_of older ++ created_by_all (length older) ts) ++ granted_at (length older) (grants_in older) os)
apart_grants n ts [] older free below apart = rw (append-nil (created_of older ++ created_by_all (length older) ts)) apart
apart_grants n ts (o ∷ os) older free below apart =
    let h = length older in
    let before = created_of older ++ created_by_all h ts in
    let given = granted_at h (grants_in older) os in
    let g = grants_in older + length os in
    let one : Creation = record { outpoint = grant_outpoint g; output = o; height = h } in
    let no_grant : IsGrantBelow g (grant_id g) → ⊥ = λ f. false≢true (sym (free.among f.0 g f.1 (omega (arith, below))) ∙ f.2) in
    let others : has (grant_id g) (before ++ given) ≡ false = not_so (has (grant_id g) (before ++ given)) (λ some.
    elim (has_both (grant_id g) before given some) [
      | inl old ↦ elim (has_created (grant_id g) (behind ts older) (ap (λ xs. has (grant_id g) (created_of older ++ xs)) (append-nil (created_by_all h ts)) ∙ old)) [
        | inl known ↦ false≢true (sym (free.from g (omega (arith, below))) ∙ known)
        | inr f ↦ no_grant (f.0, omega (arith, f.1), f.2)
      ]
      | inr new ↦ no_grant (has_grants (grant_id g) h (grants_in older) os new)
    ]) in
    let rest : Differ (before ++ given) = apart_grants n ts os older free (omega (arith, below)) apart in
    rw (← append_assoc before given (one ∷ [])) (differ_one (before ++ given) one rest (nobody_of (grant_id g) one.outpoint (before ++ given) refl others))

apart_all : (n : ℕ) (blocks : List Contents) → Free n blocks → grants_in blocks ≤ n → is_checked blocks ≡ true → AreApart blocks
apart_all n [] free below checked = tt
apart_all n (b ∷ older) free below checked =
    let h = length older in
    let parts = and_parts (have_passed older b.transactions) (is_checked older) checked in
    let free_behind : Free n (behind b.transactions older) = record { among = free.among; from = free.from } in
    let first = apart_all n older (free_older n b older free) (omega (arith, below)) parts.1 in
    let second = apart_transactions n b.transactions older free_behind (omega (arith, below)) parts.0 first in
    rw (← append_assoc (created_of older) (created_by_all h b.transactions) (granted_at h (grants_in older) b.granted))
    (apart_grants n b.transactions b.granted older free_behind below second)

-- where the grants have distinct ids, no two outputs of a checked chain have the same outpoint
pub are_apart : (blocks : List Contents) → is_checked blocks ≡ true → GrantsAreApart blocks → AreApart blocks
are_apart blocks checked grants = apart_all (grants_in blocks) blocks (record { among = grants.among_grants; from = grants.from_transactions }) (omega arith) checked
