-- What a reader asks and reads, channel by channel.
use Rattle.std.proofs.Common.{◌≡◌, ℕ, zero, suc, ◌+◌, ◌<◌, ◌≤◌, Bool, true, false, if◌then◌else◌, List, [], ◌∷◌, ◌++◌, length, map, take, drop, set, get_or, Option, refl, sym, ap, subst, ◌∙◌, arith, append_assoc, append-nil}
use Rattle.std.specs.List.{All, AllByRecursion}
use Rattle.std.proofs.lemmas.List.{drop_all, drop_more, drop-set-lt, take_more_set, take_all}
use Rattle.tx.specs.declared.input.OutPoint.{OutPoint}
use Rattle.tx.specs.Fields.{Transaction}
use Rattle.claim.specs.Claims.{IsWhole}
use Rattle.resolve.specs.declared.known.Known.{Known}
use Rattle.watch.specs.Watching.{Seen}
use Rattle.side.specs.declared.due.DueClaim.{DueClaim}
use Rattle.side.specs.Due.{FindsIf, taught}
use Rattle.side.specs.Reading.{Reader, is_to_ask, numbers_to_ask, FindsBlock, no_more, channel, IsRead}

-- the claims of due claims were accepted
abbrev pub AreWhole : List DueClaim → Type 0
AreWhole due = AllByRecursion (λ j. IsWhole j.claim) due

split : {A : Type 0} (xs : List A) (i : ℕ) (x : A) → i < length xs → x ≡ get_or xs i x → drop i xs ≡ x ∷ drop (i + 1) xs
split xs i x l e = drop_more xs i x l ∙ ap (λ y. y ∷ drop (i + 1) xs) (sym e)

-- ---- what is asked

first_asked : (b : Bool) (c : ℕ) (rest : List ℕ) → (if b then c ∷ rest else rest) ≡ (if b then c ∷ [] else []) ++ rest
first_asked true c rest = refl
first_asked false c rest = refl

module _ (fundings : List OutPoint) (seen : List Seen) (knowns : List (Option Known)) (txs : List Transaction) where
  -- the numbers that are asked, from channel i on
  abbrev pub asked_from : ℕ → List ℕ
  asked_from i = numbers_to_ask i (drop i fundings) (drop i seen) (drop i knowns) txs

  -- one more channel
  pub asked_step : (i : ℕ) (o : OutPoint) (s : Seen) (k : Option Known) (asks : Bool) (found more whole : List ℕ) → i < length fundings → i < length seen → i < length knowns → o ≡ get_or fundings i o
      → s ≡ get_or seen i s → k ≡ get_or knowns i k → asks ≡ is_to_ask o s k txs → more ≡ found ++ (if asks then i ∷ [] else []) → found ++ asked_from i ≡ whole → more ++ asked_from (i + 1) ≡ whole
  asked_step i o s k asks found more whole lf ls lk f e d a m h =
      let rest = asked_from (i + 1) in
      let here : asked_from i ≡ (if asks then i ∷ [] else []) ++ rest =
      ap (λ (xs : List OutPoint). numbers_to_ask i xs (drop i seen) (drop i knowns) txs) (split fundings i o lf f)
      ∙ ap (λ (xs : List Seen). numbers_to_ask i (o ∷ drop (i + 1) fundings) xs (drop i knowns) txs) (split seen i s ls e)
      ∙ ap (λ (xs : List (Option Known)). numbers_to_ask i (o ∷ drop (i + 1) fundings) (s ∷ drop (i + 1) seen) xs txs) (split knowns i k lk d)
      ∙ first_asked (is_to_ask o s k txs) i rest
      ∙ ap (λ (b : Bool). (if b then i ∷ [] else []) ++ rest) (sym a) in
      ap (λ xs. xs ++ rest) m ∙ append_assoc found (if asks then i ∷ [] else []) rest ∙ ap (λ xs. found ++ xs) (sym here) ∙ h

-- after the last channel, nothing is left to ask
none_left : (c : ℕ) (fundings : List OutPoint) (knowns : List (Option Known)) (txs : List Transaction) → numbers_to_ask c fundings [] knowns txs ≡ []
none_left c [] knowns txs = refl
none_left c (o ∷ fundings) knowns txs = refl

pub asked_end : (i : ℕ) (fundings : List OutPoint) (seen : List Seen) (knowns : List (Option Known)) (txs : List Transaction) (found whole : List ℕ) → length seen ≤ i
    → found ++ asked_from fundings seen knowns txs i ≡ whole → found ≡ whole
asked_end i fundings seen knowns txs found whole l h =
    let none : asked_from fundings seen knowns txs i ≡ [] =
    ap (λ (xs : List Seen). numbers_to_ask i (drop i fundings) xs (drop i knowns) txs) (drop_all i seen l) ∙ none_left i (drop i fundings) (drop i knowns) txs in
    sym (append-nil found) ∙ ap (λ xs. found ++ xs) (sym none) ∙ h

-- a property of each element
all_cons : {A : Type 0} (P : A → Type 0) (x : A) (xs : List A) → P x → All P xs → All P (x ∷ xs)
all_cons P x xs h t zero d l = h
all_cons P x xs h t (suc k) d l = t k d (omega (arith, l))

all_if : (b : Bool) (n c : ℕ) (rest : List ℕ) → c < n → All (λ k. k < n) rest → All (λ k. k < n) (if b then c ∷ rest else rest)
all_if true n c rest l h = all_cons (λ k. k < n) c rest l h
all_if false n c rest l h = h

pub all_asked : (n c : ℕ) (fundings : List OutPoint) (seen : List Seen) (knowns : List (Option Known)) (txs : List Transaction) → c + length seen ≤ n
    → All (λ k. k < n) (numbers_to_ask c fundings seen knowns txs)
all_asked n c [] seen knowns txs l = λ k d h. absurd (omega (arith, h))
all_asked n c (o ∷ fundings) [] knowns txs l = λ k d h. absurd (omega (arith, h))
all_asked n c (o ∷ fundings) (s ∷ seen) [] txs l = λ k d h. absurd (omega (arith, h))
all_asked n c (o ∷ fundings) (s ∷ seen) (k ∷ knowns) txs l =
    all_if (is_to_ask o s k txs) n c (numbers_to_ask (c + 1) fundings seen knowns txs) (omega arith) (all_asked n (c + 1) fundings seen knowns txs (omega arith))

-- ---- a block

-- what was read of the channels below i, with what is read from i on, is the whole
abbrev pub Onward : ℕ → List Transaction → ℕ → List (Option Known) → List Seen → List Seen → List DueClaim → List (List ℕ) → Type 0
Onward height txs i knowns older seen jobs shown =
    (newer : List Seen) (more : List DueClaim) (more_shown : List (List ℕ)) → FindsBlock height txs i (drop i knowns) (drop i seen) newer more more_shown
    → FindsBlock height txs 0 knowns older (take i seen ++ newer) (jobs ++ more) (shown ++ more_shown)

module _ (height : ℕ) (txs : List Transaction) (knowns : List (Option Known)) where
  pub onward_step : (i : ℕ) (older seen : List Seen) (jobs : List DueClaim) (shown : List (List ℕ)) (k : Option Known) (s t : Seen) (seen' : List Seen) (jobs' new_jobs : List DueClaim)
      (shown' new_shown : List (List ℕ)) → Onward height txs i knowns older seen jobs shown → i < length knowns → i < length seen → k ≡ get_or knowns i k → s ≡ get_or seen i s
      → seen' ≡ set seen i t → FindsIf k height txs i s t new_jobs new_shown → jobs' ≡ jobs ++ new_jobs → shown' ≡ shown ++ new_shown → Onward height txs (i + 1) knowns older seen' jobs' shown'
  onward_step i older seen jobs shown k s t seen' jobs' new_jobs shown' new_shown onward lk l d e w step j h newer more more_shown rest =
      let same : drop (i + 1) seen' ≡ drop (i + 1) seen = ap (drop (i + 1)) w ∙ drop-set-lt (i + 1) seen i t (omega arith) in
      let all = subst (λ (xs : List Seen). FindsBlock height txs (i + 1) (drop (i + 1) knowns) xs newer more more_shown) same rest in
      let of_seen =
      subst (λ (xs : List Seen). FindsBlock height txs i (k ∷ drop (i + 1) knowns) xs (t ∷ newer) (new_jobs ++ more) (new_shown ++ more_shown)) (sym (split seen i s l e)) (channel new_jobs new_shown step all) in
      let here =
      subst (λ (ks : List (Option Known)). FindsBlock height txs i ks (drop i seen) (t ∷ newer) (new_jobs ++ more) (new_shown ++ more_shown)) (sym (split knowns i k lk d)) of_seen in
      let seen_is : take (i + 1) seen' ++ newer ≡ take i seen ++ t ∷ newer =
      ap (λ xs. xs ++ newer) (ap (take (i + 1)) w ∙ take_more_set seen i t l) ∙ append_assoc (take i seen) (t ∷ []) newer in
      let jobs_are : jobs' ++ more ≡ jobs ++ (new_jobs ++ more) = ap (λ xs. xs ++ more) j ∙ append_assoc jobs new_jobs more in
      let shown_is : shown' ++ more_shown ≡ shown ++ (new_shown ++ more_shown) = ap (λ xs. xs ++ more_shown) h ∙ append_assoc shown new_shown more_shown in
      rw (seen_is, jobs_are, shown_is) (onward (t ∷ newer) (new_jobs ++ more) (new_shown ++ more_shown) here)

  pub onward_end : (i : ℕ) (older seen : List Seen) (jobs : List DueClaim) (shown : List (List ℕ)) → Onward height txs i knowns older seen jobs shown → length seen ≤ i → length knowns ≤ i
      → FindsBlock height txs 0 knowns older seen jobs shown
  onward_end i older seen jobs shown onward l lk =
      let none_seen = subst (λ (xs : List Seen). FindsBlock height txs i [] xs [] [] []) (sym (drop_all i seen l)) no_more in
      let none = subst (λ (ks : List (Option Known)). FindsBlock height txs i ks (drop i seen) [] [] []) (sym (drop_all i knowns lk)) none_seen in
      let all : take i seen ++ [] ≡ seen = append-nil (take i seen) ∙ take_all i seen l in
      let here = subst (λ (xs : List Seen). FindsBlock height txs 0 knowns older xs (jobs ++ []) (shown ++ [])) all (onward [] [] [] none) in
      subst (λ (xs : List DueClaim). FindsBlock height txs 0 knowns older seen xs shown) (append-nil jobs)
      (subst (λ (xs : List (List ℕ)). FindsBlock height txs 0 knowns older seen (jobs ++ []) xs) (append-nil shown) here)

  -- nothing was read yet
  pub onward_start : (seen : List Seen) (jobs : List DueClaim) (shown : List (List ℕ)) → jobs ≡ [] → shown ≡ [] → Onward height txs 0 knowns seen seen jobs shown
  onward_start seen jobs shown j s newer more more_shown rest = rw (j, s) rest

-- a block was read, and what it showed is known from then on
pub is_read : (height : ℕ) (txs : List Transaction) (r next : Reader) (knowns : List (Option Known)) (older newer : List Seen) (jobs : List DueClaim) (shown : List (List ℕ))
    → FindsBlock height txs 0 knowns older newer jobs shown → knowns ≡ r.knowns → older ≡ r.seen → next.seen ≡ newer → next.jobs ≡ r.jobs ++ jobs → next.learnt ≡ r.learnt ++ shown
    → next.knowns ≡ map (taught shown) r.knowns → next.fundings ≡ r.fundings → IsRead height txs r next
is_read height txs r next knowns older newer jobs shown finds k o n j s a f =
    let by_knowns = subst (λ (ks : List (Option Known)). FindsBlock height txs 0 ks older newer jobs shown) k finds in
    let by_older = subst (λ (xs : List Seen). FindsBlock height txs 0 r.knowns xs newer jobs shown) o by_knowns in
    record {
      jobs = jobs;
      shown = shown;
      channels = subst (λ (xs : List Seen). FindsBlock height txs 0 r.knowns r.seen xs jobs shown) (sym n) by_older;
      jobs_are = j;
      learnt_is = s;
      knowns_are = a;
      fundings_are = f;
    }
