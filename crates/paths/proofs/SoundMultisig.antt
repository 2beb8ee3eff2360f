-- CHECKMULTISIG, by its effect on elements.
use mathlib.Core.List.{reverse_aux}
use Rattle.std.proofs.Common.{◌≡◌, ℕ, zero, suc, ◌+◌, ◌≤◌, Bool, true, false, not, ◌&&◌, ◌||◌, nat_le, leb, ◌==◌, List, [], ◌∷◌, ◌++◌, length, map, reverse, Option, Some, None, Result, Ok, le-leb, leb-true, eq-eqb, sym, ap, ◌∙◌, refl, arith}
use Rattle.std.specs.List.{list_any, list_all}
use Rattle.std.proofs.Math.Seq.{take-append_seam, drop-append_seam}
use Rattle.std.proofs.lemmas.List.{length-map, length-reverse, length-append}
use Rattle.std.proofs.lemmas.Bool.{and_parts, and_from, or_parts, not-true, not-false}
use Rattle.std.proofs.lemmas.Slice.Eq.{bytes_eq-Decides}
use Rattle.script.specs.declared.opcode.Op.TheVariants.{CheckMultiSig}
use Rattle.script.specs.declared.spending.Spend.{Spend}
use Rattle.script.specs.declared.stops.Cause.{Cause}
use Rattle.script.specs.declared.stops.Cause.TheVariants.{MissingOperand, FailedCheck, TooManyOps as ManyCounted}
use Rattle.script.specs.declared.stops.Kind.{Kind}
use Rattle.script.specs.declared.stops.Kind.TheVariants.{KeyCount, SigCount, TokenForm, KeyForm as BadKey, Extra}
use Rattle.script.specs.declared.num.Number.{Number as Signed}
use Rattle.script.specs.Number.{number_of}
use Rattle.script.specs.Token.{is_key, is_signature, assigned}
use Rattle.script.specs.declared.jumps.Jump.TheVariants.{Next as ToNext}
use Rattle.script.specs.Step.{Elements, Effect, effect, multi_sig, number_or_failure, count_or_failure, top_elements, check_sigs_effect, flag, result_if, ◌>>=◌}
use Rattle.facts.specs.Symbols.{KeySource}
use Rattle.facts.specs.declared.symbols.FactOver.TheVariants.{Is, Form}
use Rattle.facts.specs.Symbols.{Sym}
use Rattle.facts.specs.declared.symbols.SymOver.TheVariants.{Slot, Const, HashOf, SizeOf, Holds}
use Rattle.facts.specs.Meaning.{slot_of, key_of, item_for, AllStated}
use Rattle.paths.specs.Plain.{State}
use Rattle.paths.specs.declared.state.Halt.TheVariants.{Dead, TooManyOps}
use Rattle.paths.specs.declared.state.SymbolicJumpOver.TheVariants.{Next}
use Rattle.paths.specs.Rules.{pop, pops, push, ask, is_bad_key, is_bad_extra, source_of, ask_key, count_by, count_of, slots_of, sources_of, ask_forms, ask_keys, ask_extra, answer_of, check_sigs, check_multi_sig}
use Rattle.paths.proofs.SoundWords.{Gives, entries_of, Grows, Asks, Follows}
use Rattle.paths.proofs.SoundPops.{gives_then, gives_map, gives_result_if, result_if-true, asked_now, grows_refl, grows_trans, push_grows, pop_grows, asks_refl, asks_trans, ask_asks, asks_grows, asks_entries, pop_entries}
use Rattle.paths.proofs.SoundRules.{IsSource, source_good, key_asks}

-- lists
map_reverse_aux : {A B : Type 0} (f : A → B) (xs ys : List A) → map f (reverse_aux xs ys) ≡ reverse_aux (map f xs) (map f ys)
map_reverse_aux f [] ys = refl
map_reverse_aux f (x ∷ xs) ys = map_reverse_aux f xs (x ∷ ys)

pub map_reverse : {A B : Type 0} (f : A → B) (xs : List A) → map f (reverse xs) ≡ reverse (map f xs)
map_reverse f xs = map_reverse_aux f xs []

-- n symbols that are taken
pub pops_grows : (n : ℕ) (s : State) → Grows s (pops n s).1
pops_grows zero s = grows_refl s
pops_grows (suc n) s = grows_trans s (pop s).1 (pops n (pop s).1).1 (pop_grows s) (pops_grows n (pop s).1)

pub pops_length : (n : ℕ) (s : State) → length (pops n s).0 ≡ n
pops_length zero s = refl
pops_length (suc n) s = ap suc (pops_length n (pop s).1)

pub pops_entries : (spend : Spend) (w : Elements) (n : ℕ) (s : State) → (pops n s).1.slots ≤ length w → entries_of spend w s ≡ map (item_for spend w) (pops n s).0 ++ entries_of spend w (pops n s).1
pops_entries spend w zero s l = refl
pops_entries spend w (suc n) s l =
    let m = (pops_grows n (pop s).1).more in
    pop_entries spend w s (omega arith) ∙ ap (λ r. item_for spend w (pop s).0 ∷ r) (pops_entries spend w n (pop s).1 l)

-- a count of keys or signatures
pub record CountIs (limit : ℕ) (x : Sym) (n : ℕ) : Type 0 where
  pub number : Signed
  pub same : (spend : Spend) (w : Elements) → number_of 4 (item_for spend w x) ≡ Some number
  pub positive : number.negative ≡ false
  pub magnitude : number.magnitude ≡ n
  pub low : n ≤ limit

count_good : (limit : ℕ) (x : Sym) → Gives (CountIs limit x) (count_of limit x)
count_good limit (Const b) = go (number_of 4 b) refl
  where
    go : (o : Option Signed) → number_of 4 b ≡ o → Gives (CountIs limit (Const b)) (count_by limit o)
    go None e = tt
    go (Some z) e = gives_result_if (CountIs limit (Const b)) (not z.negative && nat_le z.magnitude limit) Dead (Ok z.magnitude) (λ p.
        let q = and_parts (not z.negative) (nat_le z.magnitude limit) p in
        record { number = z; same = λ spend w. e; positive = not-true z.negative q.0; magnitude = refl; low = leb-true z.magnitude limit q.1 })
count_good limit (Slot i) = tt
count_good limit (HashOf i) = tt
count_good limit (SizeOf i) = tt
count_good limit (Holds fact) = tt

-- signatures that are slots
abbrev pub AreSlots : List Sym → List ℕ → Type 0
AreSlots xs slots = (spend : Spend) (w : Elements) → map (item_for spend w) xs ≡ map (slot_of w) slots

pub slots_good : (xs : List Sym) → Gives (AreSlots xs) (slots_of xs)
slots_good [] = λ spend w. refl
slots_good (Slot i ∷ xs) = gives_then (AreSlots xs) (AreSlots (Slot i ∷ xs)) (slots_of xs) (λ slots. Ok (i ∷ slots)) (slots_good xs) (λ slots h. λ spend w. ap (λ r. slot_of w i ∷ r) (h spend w))
slots_good (Const b ∷ xs) = tt
slots_good (HashOf i ∷ xs) = tt
slots_good (SizeOf i ∷ xs) = tt
slots_good (Holds fact ∷ xs) = tt

forms_asks : (slots : List ℕ) (s : State) → Asks s (ask_forms slots s)
forms_asks [] s = asks_refl s
forms_asks (i ∷ slots) s = asks_trans s (ask (Form i) true s) (ask_forms slots (ask (Form i) true s)) (ask_asks (Form i) true s) (forms_asks slots (ask (Form i) true s))

forms_now : (spend : Spend) (w : Elements) (slots : List ℕ) (s : State) → AllStated spend w (ask_forms slots s).facts → list_all is_signature (map (slot_of w) slots) ≡ true
forms_now spend w [] s h = refl
forms_now spend w (i ∷ slots) s h =
    and_from (is_signature (slot_of w i)) (list_all is_signature (map (slot_of w) slots)) (asked_now spend w (Form i) true s ((forms_asks slots (ask (Form i) true s)).facts spend w h)) (forms_now spend w slots (ask (Form i) true s) h)

-- where keys come from
pub record AreSources (xs : List Sym) (sources : List KeySource) : Type 0 where
  pub items : (spend : Spend) (w : Elements) → map (item_for spend w) xs ≡ map (key_of w) sources
  pub forms : list_any is_bad_key xs ≡ false → (spend : Spend) (w : Elements) (s : State) → AllStated spend w (ask_keys sources s).facts → list_all is_key (map (key_of w) sources) ≡ true

keys_asks : (sources : List KeySource) (s : State) → Asks s (ask_keys sources s)
keys_asks [] s = asks_refl s
keys_asks (key ∷ sources) s = asks_trans s (ask_key key s) (ask_keys sources (ask_key key s)) (key_asks key s) (keys_asks sources (ask_key key s))

sources_more : (x : Sym) (xs : List Sym) (key : KeySource) (keys : List KeySource) → IsSource x key → AreSources xs keys → AreSources (x ∷ xs) (key ∷ keys)
sources_more x xs key keys k h = record {
  items = λ spend w. ap (λ b. b ∷ map (item_for spend w) xs) (k.item spend w) ∙ ap (λ r. key_of w key ∷ r) (h.items spend w);
  forms = λ e spend w s st.
      let p = or_parts (is_bad_key x) (list_any is_bad_key xs) e in
      and_from (is_key (key_of w key)) (list_all is_key (map (key_of w) keys)) (k.form p.0 spend w s ((keys_asks keys (ask_key key s)).facts spend w st)) (h.forms p.1 spend w (ask_key key s) st);
}

pub sources_good : (xs : List Sym) → Gives (AreSources xs) (sources_of xs)
sources_good [] = record { items = λ spend w. refl; forms = λ e spend w s h. refl }
sources_good (x ∷ xs) =
    gives_then (IsSource x) (AreSources (x ∷ xs)) (source_of x) (λ key. sources_of xs >>= λ keys. Ok (key ∷ keys)) (source_good x) (λ key k.
    gives_then (AreSources xs) (AreSources (x ∷ xs)) (sources_of xs) (λ keys. Ok (key ∷ keys)) (sources_good xs) (λ keys h. sources_more x xs key keys k h))

-- the extra item
record IsExtra (x : Sym) (s s' : State) : Type 0 where
  pub asks : Asks s s'
  pub empty : is_bad_extra x ≡ false → (spend : Spend) (w : Elements) → AllStated spend w s'.facts → (length (item_for spend w x) == 0) ≡ true

extra_good : (x : Sym) (s : State) → Gives (IsExtra x s) (ask_extra x s)
extra_good (Const b) s = record { asks = asks_refl s; empty = λ e spend w h. not-false (length b == 0) e }
extra_good (Slot i) s = record {
  asks = ask_asks (Is i []) true s;
  empty = λ e spend w h.
      let q : slot_of w i ≡ [] = (bytes_eq-Decides (slot_of w i) []).0 (asked_now spend w (Is i []) true s h) in
      eq-eqb (length (slot_of w i)) 0 (ap length q);
}
extra_good (HashOf i) s = tt
extra_good (SizeOf i) s = tt
extra_good (Holds fact) s = tt

-- given keys, signatures and the extra item
record IsMulti (keys sigs : List Sym) (extra : Sym) (s s' : State) : Type 0 where
  pub grows : Grows s s'
  pub step : (spend : Spend) (w : Elements) (n : ℕ) → length keys ≡ n → AllStated spend w s'.facts → check_sigs_effect spend (map (item_for spend w) keys) (map (item_for spend w) sigs) (item_for spend w extra) (entries_of spend w s) ≡ Ok (record { jump = ToNext; stack = entries_of spend w s'; keys = n })

check_sigs_effect-good : (spend : Spend) (keys sigs : Elements) (extra : List ℕ) (stack : Elements) → list_all is_signature sigs ≡ true → list_all is_key keys ≡ true → (length extra == 0) ≡ true → check_sigs_effect spend keys sigs extra stack ≡ Ok (record { jump = ToNext; stack = flag (assigned sigs keys spend.digest) ∷ stack; keys = length keys })
check_sigs_effect-good spend keys sigs extra stack a b c =
    result_if-true (list_all is_signature sigs) (FailedCheck TokenForm) _ a
    ∙ result_if-true (list_all is_key keys) (FailedCheck BadKey) _ b
    ∙ result_if-true (length extra == 0) (FailedCheck Extra) _ c

answer_item : (spend : Spend) (w : Elements) (slots : List ℕ) (sources : List KeySource) → flag (assigned (map (slot_of w) slots) (map (key_of w) sources) spend.digest) ≡ item_for spend w (answer_of slots sources)
answer_item spend w [] sources = refl
answer_item spend w (i ∷ slots) sources = refl

multi_step : (keys sigs : List Sym) (extra : Sym) (s s' : State) (slots : List ℕ) (sources : List KeySource) → list_any is_bad_key keys ≡ false → is_bad_extra extra ≡ false → AreSlots sigs slots → AreSources keys sources → IsExtra extra (ask_keys sources (ask_forms slots s)) s' → IsMulti keys sigs extra s (push (answer_of slots sources) s')
multi_step keys sigs extra s s' slots sources bk be sl so ex =
    let formed = ask_forms slots s in
    let keyed = ask_keys sources formed in
    let a = asks_trans s formed s' (forms_asks slots s) (asks_trans formed keyed s' (keys_asks sources formed) ex.asks) in
    record {
      grows = push_grows s s' (answer_of slots sources) (asks_grows s s' a);
      step = λ spend w n l h.
          let hk : AllStated spend w (ask_keys sources (ask_forms slots s)).facts = ex.asks.facts spend w h in
          let hf : AllStated spend w (ask_forms slots s).facts = (keys_asks sources (ask_forms slots s)).facts spend w hk in
          let forms = forms_now spend w slots s hf in
          let good = so.forms bk spend w (ask_forms slots s) hk in
          let empty = ex.empty be spend w h in
          ap (λ k. check_sigs_effect spend k (map (item_for spend w) sigs) (item_for spend w extra) (entries_of spend w s)) (so.items spend w)
          ∙ ap (λ g. check_sigs_effect spend (map (key_of w) sources) g (item_for spend w extra) (entries_of spend w s)) (sl spend w)
          ∙ check_sigs_effect-good spend (map (key_of w) sources) (map (slot_of w) slots) (item_for spend w extra) (entries_of spend w s) forms good empty
          ∙ same_effect _ _ _ _ _ n (answer_item spend w slots sources) (sym (asks_entries spend w s s' a)) (ap length (sym (so.items spend w)) ∙ length-map keys (item_for spend w) ∙ l);
    }
  where
    same_effect : (x y : List ℕ) (st st' : Elements) (k n : ℕ) → x ≡ y → st ≡ st' → k ≡ n → ◌≡◌ {A = Result Effect Cause} (Ok (record { jump = ToNext; stack = x ∷ st; keys = k })) (Ok (record { jump = ToNext; stack = y ∷ st'; keys = n }))
    same_effect x y st st' k n e f g = rw (e, f, g) refl

check_sigs_good : (keys sigs : List Sym) (extra : Sym) (s : State) → Gives (IsMulti keys sigs extra s) (check_sigs keys sigs extra s)
check_sigs_good keys sigs extra s =
    gives_result_if (IsMulti keys sigs extra s) (not (list_any is_bad_key keys || is_bad_extra extra)) Dead _ (λ e.
    let p = or_parts (list_any is_bad_key keys) (is_bad_extra extra) (not-true (list_any is_bad_key keys || is_bad_extra extra) e) in
    gives_then (AreSlots sigs) (IsMulti keys sigs extra s) (slots_of sigs) _ (slots_good sigs) (λ slots sl.
    gives_then (AreSources keys) (IsMulti keys sigs extra s) (sources_of keys) _ (sources_good keys) (λ sources so.
    gives_then (IsExtra extra (ask_keys sources (ask_forms slots s))) (IsMulti keys sigs extra s) (ask_extra extra (ask_keys sources (ask_forms slots s))) _ (extra_good extra (ask_keys sources (ask_forms slots s))) (λ s' ex. multi_step keys sigs extra s s' slots sources p.0 p.1 sl so ex))))

-- the machine's CHECKMULTISIG, step by step
bind_at : {A B E : Type 0} (r : Result A E) (x : A) (f : A → Result B E) (t : Result B E) → r ≡ Ok x → f x ≡ t → (r >>= f) ≡ t
bind_at r x f t e h = ap (λ y. y >>= f) e ∙ h

count_or_failure-good : (limit : ℕ) (kind : Kind) (z : Signed) (n : ℕ) → z.negative ≡ false → z.magnitude ≡ n → n ≤ limit → count_or_failure limit kind z ≡ Ok n
count_or_failure-good limit kind z n p e l = rw (p, e, le-leb n limit l) refl

pub taken_front : (n : ℕ) (xs ys : Elements) → length xs ≡ n → top_elements n (xs ++ ys) ≡ Ok (xs, ys)
taken_front n xs ys e =
    ap (λ k. top_elements k (xs ++ ys)) (sym e)
    ∙ result_if-true (leb (length xs) (length (xs ++ ys))) MissingOperand _ (le-leb (length xs) (length (xs ++ ys)) (omega (arith, length-append xs ys)))
    ∙ rw (take-append_seam xs ys, drop-append_seam xs ys) refl

multi_sig-good : (spend : Spend) (c : ℕ) (top : List ℕ) (z : Signed) (n : ℕ) (ks : Elements) (second : List ℕ) (y : Signed) (m : ℕ) (ss : Elements) (extra : List ℕ) (others : Elements) → number_of 4 top ≡ Some z → z.negative ≡ false → z.magnitude ≡ n → n ≤ 20 → c + n ≤ 201 → length ks ≡ n → number_of 4 second ≡ Some y → y.negative ≡ false → y.magnitude ≡ m → m ≤ n → length ss ≡ m → multi_sig spend c (top ∷ (ks ++ (second ∷ (ss ++ (extra ∷ others))))) ≡ check_sigs_effect spend (reverse ks) (reverse ss) extra others
unfolding multi_sig
multi_sig-good spend c top z n ks second y m ss extra others e1 p1 m1 l1 few len1 e2 p2 m2 l2 len2 =
    bind_at (number_or_failure (number_of 4 top)) z _ _ (ap number_or_failure e1) (
    bind_at (count_or_failure 20 KeyCount z) n _ _ (count_or_failure-good 20 KeyCount z n p1 m1 l1) (
    bind_at (result_if (nat_le (c + n) 201) ManyCounted (top_elements n (ks ++ (second ∷ (ss ++ (extra ∷ others)))))) (ks, second ∷ (ss ++ (extra ∷ others))) _ _ (
    result_if-true (leb (c + n) 201) ManyCounted _ (le-leb (c + n) 201 few) ∙ taken_front n ks (second ∷ (ss ++ (extra ∷ others))) len1
    ) (
    bind_at (number_or_failure (number_of 4 second)) y _ _ (ap number_or_failure e2) (
    bind_at (count_or_failure n SigCount y) m _ _ (count_or_failure-good n SigCount y m p2 m2 l2) (
    bind_at (top_elements m (ss ++ (extra ∷ others))) (ss, extra ∷ others) _ _ (taken_front m ss (extra ∷ others) len2) refl)))))

-- where a path stands after the count of keys, its keys, the count of signatures, the signatures, and the extra item
abbrev after_count : ℕ → State → State
after_count n s = record (pop s).1 { keys = (pop s).1.keys + n }

abbrev keys_at : ℕ → State → List Sym × State
keys_at n s = pops n (after_count n s)

abbrev sigs_at : ℕ → ℕ → State → List Sym × State
sigs_at n m s = pops m (pop (keys_at n s).1).1

abbrev extra_at : ℕ → ℕ → State → Sym × State
extra_at n m s = pop (sigs_at n m s).1

multi_entries : (spend : Spend) (w : Elements) (n m : ℕ) (s : State) → (extra_at n m s).1.slots ≤ length w → entries_of spend w s ≡ item_for spend w (pop s).0 ∷ (map (item_for spend w) (keys_at n s).0 ++ (item_for spend w (pop (keys_at n s).1).0 ∷ (map (item_for spend w) (sigs_at n m s).0 ++ (item_for spend w (extra_at n m s).0 ∷ entries_of spend w (extra_at n m s).1))))
multi_entries spend w n m s l =
    let a = (pop_grows (sigs_at n m s).1).more in
    let b = (pops_grows m (pop (keys_at n s).1).1).more in
    let c = (pop_grows (keys_at n s).1).more in
    let d : (after_count n s).slots ≤ (keys_at n s).1.slots = (pops_grows n (after_count n s)).more in
    pop_entries spend w s (omega arith)
    ∙ ap (λ r. item_for spend w (pop s).0 ∷ r) (
    pops_entries spend w n (after_count n s) (omega arith)
    ∙ ap (λ r. map (item_for spend w) (keys_at n s).0 ++ r) (
    pop_entries spend w (keys_at n s).1 (omega arith)
    ∙ ap (λ r. item_for spend w (pop (keys_at n s).1).0 ∷ r) (
    pops_entries spend w m (pop (keys_at n s).1).1 (omega arith)
    ∙ ap (λ r. map (item_for spend w) (sigs_at n m s).0 ++ r) (pop_entries spend w (sigs_at n m s).1 l))))

multi_follows : (counted : ℕ) (s : State) (n m : ℕ) (s' : State) → CountIs 20 (pop s).0 n → counted + (keys_at n s).1.keys ≤ 201 → CountIs n (pop (keys_at n s).1).0 m → IsMulti (reverse (keys_at n s).0) (reverse (sigs_at n m s).0) (extra_at n m s).0 (extra_at n m s).1 s' → Follows counted CheckMultiSig s Next s'
unfolding effect
multi_follows counted s n m s' ck few cm i =
    let first = pop_grows s in
    let middle = pops_grows n (after_count n s) in
    let g = grows_trans (after_count n s) (keys_at n s).1 s' middle (
    grows_trans (keys_at n s).1 (pop (keys_at n s).1).1 s' (pop_grows (keys_at n s).1) (
    grows_trans (pop (keys_at n s).1).1 (sigs_at n m s).1 s' (pops_grows m (pop (keys_at n s).1).1) (
    grows_trans (sigs_at n m s).1 (extra_at n m s).1 s' (pop_grows (sigs_at n m s).1) i.grows))) in
    let keys : s'.keys ≡ (pop s).1.keys + n = g.keys in
    let before : (pop s).1.keys ≡ s.keys = first.keys in
    let held : (keys_at n s).1.keys ≡ (pop s).1.keys + n = middle.keys in
    let slots : s.slots ≤ (pop s).1.slots = first.more in
    let slots' : (pop s).1.slots ≤ s'.slots = g.more in
    record {
      ahead = g.ahead ∙ first.ahead;
      excess = g.excess ∙ first.excess;
      more = omega arith;
      facts = λ spend w h. first.facts spend w (g.facts spend w h);
      used = n;
      keys = omega arith;
      few = λ l. omega arith;
      step = λ spend w c l sh en h.
          let last = i.grows.more in
          ap (multi_sig spend c) (multi_entries spend w n m s (omega arith))
          ∙ multi_sig-good spend c (item_for spend w (pop s).0) ck.number n (map (item_for spend w) (keys_at n s).0) (item_for spend w (pop (keys_at n s).1).0) cm.number m (map (item_for spend w) (sigs_at n m s).0) (item_for spend w (extra_at n m s).0) (entries_of spend w (extra_at n m s).1)
          (ck.same spend w) ck.positive ck.magnitude ck.low (omega arith)
          (length-map (keys_at n s).0 (item_for spend w) ∙ pops_length n (after_count n s))
          (cm.same spend w) cm.positive cm.magnitude cm.low
          (length-map (sigs_at n m s).0 (item_for spend w) ∙ pops_length m (pop (keys_at n s).1).1)
          ∙ ap (λ k. check_sigs_effect spend k (reverse (map (item_for spend w) (sigs_at n m s).0)) (item_for spend w (extra_at n m s).0) (entries_of spend w (extra_at n m s).1)) (sym (map_reverse (item_for spend w) (keys_at n s).0))
          ∙ ap (λ k. check_sigs_effect spend (map (item_for spend w) (reverse (keys_at n s).0)) k (item_for spend w (extra_at n m s).0) (entries_of spend w (extra_at n m s).1)) (sym (map_reverse (item_for spend w) (sigs_at n m s).0))
          ∙ i.step spend w n (length-reverse (keys_at n s).0 ∙ pops_length n (after_count n s)) h;
    }

gives_result_if_then : {A B E : Type 0} (P : B → Type 0) (b : Bool) (e : E) (x : A) (f : A → Result B E) → (b ≡ true → Gives P (f x)) → Gives P (result_if b e (Ok x) >>= f)
gives_result_if_then P true e x f h = h refl
gives_result_if_then P false e x f h = tt

pub check_multi_sig_good : (counted : ℕ) (s : State) → Gives (λ s'. Follows counted CheckMultiSig s Next s') (check_multi_sig counted s)
unfolding check_multi_sig
check_multi_sig_good counted s =
    gives_then (CountIs 20 (pop s).0) (λ s'. Follows counted CheckMultiSig s Next s') (count_of 20 (pop s).0) _ (count_good 20 (pop s).0) (λ n ck.
    gives_result_if_then (λ s'. Follows counted CheckMultiSig s Next s') (nat_le (counted + (keys_at n s).1.keys) 201) TooManyOps (pop (keys_at n s).1) _ (λ e.
    gives_then (CountIs n (pop (keys_at n s).1).0) (λ s'. Follows counted CheckMultiSig s Next s') (count_of n (pop (keys_at n s).1).0) _ (count_good n (pop (keys_at n s).1).0) (λ m cm.
    gives_map (IsMulti (reverse (keys_at n s).0) (reverse (sigs_at n m s).0) (extra_at n m s).0 (extra_at n m s).1) (λ s'. Follows counted CheckMultiSig s Next s') (check_sigs (reverse (keys_at n s).0) (reverse (sigs_at n m s).0) (extra_at n m s).0 (extra_at n m s).1) (check_sigs_good (reverse (keys_at n s).0) (reverse (sigs_at n m s).0) (extra_at n m s).0 (extra_at n m s).1) (λ s' i. multi_follows counted s n m s' ck (leb-true (counted + (keys_at n s).1.keys) 201 e) cm i))))
