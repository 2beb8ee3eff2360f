-- CHECKMULTISIG, where a run passes it: its counts are numbers, there is an item for each symbol that it takes, and what it asks holds.
use Rattle.std.proofs.Common.{◌≡◌, ℕ, zero, suc, ◌+◌, ◌≤◌, true, false, not, ◌&&◌, ◌||◌, nat_le, ◌==◌, List, [], ◌∷◌, length, map, reverse, Some, Result, Ok, leb-true, eqb-true, sym, ap, ◌∙◌, refl, arith, ⊎_elim}
use Rattle.std.specs.Prelude.{◌⊎◌}
use Rattle.std.specs.List.{list_any, list_all}
use Rattle.std.proofs.lemmas.List.{length-map}
use Rattle.std.proofs.lemmas.Bool.{and_parts, or_from, not_from_true, not_from_false}
use Rattle.std.proofs.lemmas.Slice.Eq.{bytes_eq-Decides}
use Rattle.script.specs.declared.opcode.Op.TheVariants.{CheckMultiSig}
use Rattle.script.specs.declared.spending.Spend.{Spend}
use Rattle.script.specs.declared.stops.Cause.{Cause}
use Rattle.script.specs.declared.stops.Cause.TheVariants.{MissingOperand, FailedCheck, TooManyOps as ManyCounted}
use Rattle.script.specs.declared.stops.Kind.{Kind}
use Rattle.script.specs.declared.stops.Kind.TheVariants.{KeyCount, SigCount}
use Rattle.script.specs.declared.num.Number.{Number as Signed}
use Rattle.script.specs.Number.{number_of}
use Rattle.script.specs.Token.{is_key, is_signature}
use Rattle.script.specs.Step.{Elements, Effect, effect, multi_sig, number_or_failure, count_or_failure, top_elements, top_element, check_sigs_effect, result_if, ◌>>=◌}
use Rattle.facts.specs.Symbols.{KeySource}
use Rattle.facts.specs.declared.symbols.FactOver.TheVariants.{Is, Form}
use Rattle.facts.specs.Symbols.{Sym}
use Rattle.facts.specs.declared.symbols.SymOver.TheVariants.{Slot, Const, HashOf, SizeOf, Holds}
use Rattle.facts.specs.Meaning.{slot_of, key_of, item_for}
use Rattle.paths.specs.Plain.{State}
use Rattle.paths.specs.declared.state.Halt.TheVariants.{TooManyOps}
use Rattle.paths.specs.Rules.{pop, pops, ask, is_bad_key, is_bad_extra, source_of, ask_key, count_of, slots_of, sources_of, ask_forms, ask_keys, ask_extra, answer_of, check_sigs, check_multi_sig, goes_on}
use Rattle.paths.proofs.SoundWords.{entries_of}
use Rattle.paths.proofs.SoundPops.{pop_entries}
use Rattle.paths.proofs.SoundMultisig.{map_reverse, pops_length, pops_entries, AreSlots, slots_good, AreSources, sources_good, taken_front}
use Rattle.paths.proofs.ForcedWords.{Forced, Lives, forced_then, forced_is, forced_unless, forced_checked, forced_gives, ok_checked, ok_then, IsMet, IsMetBy, push_met, ask_met, pop_facts, pop_reaches, pop_met}
use Rattle.paths.proofs.ForcedRules.{numbered_ok, source_lives, good_key, ask_key_met}

-- an item is the number of keys or signatures
record IsCount (limit : ℕ) (item : List ℕ) (n : ℕ) : Type 0 where
  pub number : Signed
  pub same : number_of 4 item ≡ Some number
  pub good : (not number.negative && nat_le number.magnitude limit) ≡ true
  pub magnitude : number.magnitude ≡ n

same_ok : {A E : Type 0} (x y : A) → ◌≡◌ {A = Result A E} (Ok x) (Ok y) → x ≡ y
same_ok x y e = cc

count_parts : (limit : ℕ) (kind : Kind) (item : List ℕ) (f : ℕ → Result Effect Cause) (e : Effect) → (number_or_failure (number_of 4 item) >>= λ z. count_or_failure limit kind z >>= f) ≡ Ok e → (n : ℕ) × IsCount limit item n × (f n ≡ Ok e)
count_parts limit kind item f e h =
    let first = ok_then (number_or_failure (number_of 4 item)) (λ z. count_or_failure limit kind z >>= f) e h in
    let z : Signed = first.0 in
    let second = ok_then (count_or_failure limit kind z) f e first.2 in
    let third = ok_checked (not z.negative && nat_le z.magnitude limit) (FailedCheck kind) (Ok z.magnitude) second.0 second.1 in
    (second.0, record { number = z; same = numbered_ok (number_of 4 item) z first.1; good = third.0; magnitude = same_ok z.magnitude second.0 third.1 }, second.2)

count_forced : (spend : Spend) (w : Elements) (limit : ℕ) (x : Sym) (n : ℕ) → IsCount limit (item_for spend w x) n → Forced (λ k. k ≡ n) (count_of limit x)
count_forced spend w limit (Const b) n p = rw p.same (forced_checked (λ k. k ≡ n) (not p.number.negative && nat_le p.number.magnitude limit) (Ok p.number.magnitude) p.good p.magnitude)
count_forced spend w limit (Slot i) n p = tt
count_forced spend w limit (HashOf i) n p = tt
count_forced spend w limit (SizeOf i) n p = tt
count_forced spend w limit (Holds fact) n p = tt

-- elements that were taken are the items of symbols
pops_met : (spend : Spend) (w : Elements) (n : ℕ) (s : State) → n ≤ length (entries_of spend w s) → IsMet spend w s → IsMet spend w (pops n s).1
pops_met spend w zero s l m = m
pops_met spend w (suc n) s l m = pops_met spend w n (pop s).1 (⊎_elim more (λ z. absurd (none z)) reach) m'
  where
    reach : ((pop s).1.slots ≤ length w) ⊎ (entries_of spend w s ≡ [])
    reach = pop_reaches spend w s m.enough

    none : entries_of spend w s ≡ [] → ⊥
    none z = let a : length (entries_of spend w s) ≡ 0 = ap length z in omega arith

    m' : IsMet spend w (pop s).1
    m' = record { enough = ⊎_elim (λ (a : (pop s).1.slots ≤ length w). a) (λ (z : entries_of spend w s ≡ []). absurd (none z)) reach; facts = pop_facts spend w s m.facts }

    more : (pop s).1.slots ≤ length w → n ≤ length (entries_of spend w (pop s).1)
    more a = let k : length (entries_of spend w s) ≡ suc (length (entries_of spend w (pop s).1)) = ap length (pop_entries spend w s a) in omega arith

taken_syms : (spend : Spend) (w : Elements) (n : ℕ) (s : State) (p : Elements × Elements) → IsMet spend w s → top_elements n (entries_of spend w s) ≡ Ok p → IsMet spend w (pops n s).1 × (p ≡ (map (item_for spend w) (pops n s).0, entries_of spend w (pops n s).1))
taken_syms spend w n s p m h =
    let fits = ok_checked (nat_le n (length (entries_of spend w s))) MissingOperand _ p h in
    let m' : IsMet spend w (pops n s).1 = pops_met spend w n s (leb-true n (length (entries_of spend w s)) fits.0) m in
    let same : top_elements n (entries_of spend w s) ≡ Ok (map (item_for spend w) (pops n s).0, entries_of spend w (pops n s).1) =
    ap (top_elements n) (pops_entries spend w n s m'.enough) ∙ taken_front n (map (item_for spend w) (pops n s).0) (entries_of spend w (pops n s).1) (length-map (pops n s).0 (item_for spend w) ∙ pops_length n s) in
    (m', same_ok p _ (sym h ∙ same))

popped_sym : (spend : Spend) (w : Elements) (s : State) (p : List ℕ × Elements) → IsMet spend w s → top_element (entries_of spend w s) ≡ Ok p → IsMet spend w (pop s).1 × (p ≡ (item_for spend w (pop s).0, entries_of spend w (pop s).1))
popped_sym spend w s p m h =
    let m' : IsMet spend w (pop s).1 = pop_met spend w s top_element MissingOperand p refl h m in
    (m', same_ok p _ (sym h ∙ ap top_element (pop_entries spend w s m'.enough)))

-- signatures that are slots, of good form
slots_live : (xs : List Sym) → Lives (slots_of xs)
slots_live [] = tt
slots_live (Slot i ∷ xs) = forced_then (λ (slots : List ℕ). Unit {0}) (λ (slots : List ℕ). Unit {0}) (slots_of xs) (λ slots. Ok (i ∷ slots)) (slots_live xs) (λ slots q. tt)
slots_live (Const b ∷ xs) = tt
slots_live (HashOf i ∷ xs) = tt
slots_live (SizeOf i ∷ xs) = tt
slots_live (Holds fact ∷ xs) = tt

forms_met : (spend : Spend) (w : Elements) (slots : List ℕ) (s : State) → list_all is_signature (map (slot_of w) slots) ≡ true → IsMet spend w s → IsMet spend w (ask_forms slots s)
forms_met spend w [] s e m = m
forms_met spend w (i ∷ slots) s e m =
    let p = and_parts (is_signature (slot_of w i)) (list_all is_signature (map (slot_of w) slots)) e in
    forms_met spend w slots (ask (Form i) true s) p.1 (ask_met spend w (Form i) true s p.0 m)

-- keys of good form
sources_live : (xs : List Sym) → Lives (sources_of xs)
sources_live [] = tt
sources_live (x ∷ xs) =
    forced_then (λ (key : KeySource). Unit {0}) (λ (keys : List KeySource). Unit {0}) (source_of x) (λ key. sources_of xs >>= λ keys. Ok (key ∷ keys)) (source_lives x) (λ key q.
    forced_then (λ (keys : List KeySource). Unit {0}) (λ (keys : List KeySource). Unit {0}) (sources_of xs) (λ keys. Ok (key ∷ keys)) (sources_live xs) (λ keys r. tt))

keys_met : (spend : Spend) (w : Elements) (keys : List KeySource) (s : State) → list_all is_key (map (key_of w) keys) ≡ true → IsMet spend w s → IsMet spend w (ask_keys keys s)
keys_met spend w [] s e m = m
keys_met spend w (key ∷ keys) s e m =
    let p = and_parts (is_key (key_of w key)) (list_all is_key (map (key_of w) keys)) e in
    keys_met spend w keys (ask_key key s) p.1 (ask_key_met spend w key s p.0 m)

no_bad_key : (spend : Spend) (w : Elements) (xs : List Sym) → list_all is_key (map (item_for spend w) xs) ≡ true → list_any is_bad_key xs ≡ false
no_bad_key spend w [] e = refl
no_bad_key spend w (x ∷ xs) e =
    let p = and_parts (is_key (item_for spend w x)) (list_all is_key (map (item_for spend w) xs)) e in
    or_from (is_bad_key x) (list_any is_bad_key xs) (good_key spend w x p.0) (no_bad_key spend w xs p.1)

-- the extra item is empty
good_extra : (spend : Spend) (w : Elements) (x : Sym) → (length (item_for spend w x) == 0) ≡ true → is_bad_extra x ≡ false
good_extra spend w (Const b) e = not_from_true (length b == 0) e
good_extra spend w (Slot i) e = refl
good_extra spend w (HashOf i) e = refl
good_extra spend w (SizeOf i) e = refl
good_extra spend w (Holds fact) e = refl

no_bytes : (xs : List ℕ) → length xs ≡ 0 → xs ≡ []
no_bytes [] e = refl
no_bytes (x ∷ xs) e = absurd (omega arith)

extra_met : (spend : Spend) (w : Elements) (x : Sym) (s : State) → (length (item_for spend w x) == 0) ≡ true → IsMet spend w s → Forced (IsMet spend w) (ask_extra x s)
extra_met spend w (Const b) s e m = m
extra_met spend w (Slot i) s e m = ask_met spend w (Is i []) true s ((bytes_eq-Decides (slot_of w i) []).1 (no_bytes (slot_of w i) (eqb-true (length (slot_of w i)) 0 e))) m
extra_met spend w (HashOf i) s e m = tt
extra_met spend w (SizeOf i) s e m = tt
extra_met spend w (Holds fact) s e m = tt

check_sigs_met : (spend : Spend) (w : Elements) (keys sigs : List Sym) (extra : Sym) (s : State) (stack : Elements) (e : Effect) → check_sigs_effect spend (map (item_for spend w) keys) (map (item_for spend w) sigs) (item_for spend w extra) stack ≡ Ok e → IsMet spend w s → Forced (IsMet spend w) (check_sigs keys sigs extra s)
check_sigs_met spend w keys sigs extra s stack e h m =
    let first = ok_checked (list_all is_signature (map (item_for spend w) sigs)) _ _ e h in
    let second = ok_checked (list_all is_key (map (item_for spend w) keys)) _ _ e first.1 in
    let third = ok_checked (length (item_for spend w extra) == 0) _ _ e second.1 in
    let P = IsMet spend w in
    forced_checked P (not (list_any is_bad_key keys || is_bad_extra extra)) _ (not_from_false _ (or_from (list_any is_bad_key keys) (is_bad_extra extra) (no_bad_key spend w keys second.0) (good_extra spend w extra third.0))) (
    forced_then (AreSlots sigs) P (slots_of sigs) _ (forced_gives (AreSlots sigs) (slots_of sigs) (slots_live sigs) (slots_good sigs)) (λ slots sl.
    forced_then (AreSources keys) P (sources_of keys) _ (forced_gives (AreSources keys) (sources_of keys) (sources_live keys) (sources_good keys)) (λ sources so.
    forced_then P P (ask_extra extra (ask_keys sources (ask_forms slots s))) _ (
    extra_met spend w extra (ask_keys sources (ask_forms slots s)) third.0 (
    keys_met spend w sources (ask_forms slots s) (ap (list_all is_key) (sym (so.items spend w)) ∙ second.0) (
    forms_met spend w slots s (ap (list_all is_signature) (sym (sl spend w)) ∙ first.0) m))
    ) (λ s' m'. push_met spend w (answer_of slots sources) s' m'))))

-- the machine's CHECKMULTISIG in its parts: the extra item, the signatures, their number, the keys
abbrev with_extra : Spend → Elements → Elements → List ℕ × Elements → Result Effect Cause
with_extra spend keys sigs p = check_sigs_effect spend (reverse keys) (reverse sigs) p.0 p.1

abbrev with_sigs : Spend → Elements → Elements × Elements → Result Effect Cause
with_sigs spend keys p = top_element p.1 >>= with_extra spend keys p.0

abbrev with_count : Spend → ℕ → Elements → List ℕ × Elements → Result Effect Cause
with_count spend n keys p = number_or_failure (number_of 4 p.0) >>= λ y. count_or_failure n SigCount y >>= λ m. top_elements m p.1 >>= with_sigs spend keys

abbrev with_keys : Spend → ℕ → Elements × Elements → Result Effect Cause
with_keys spend n p = top_element p.1 >>= with_count spend n p.0

abbrev with_top : Spend → ℕ → List ℕ × Elements → Result Effect Cause
with_top spend c p = number_or_failure (number_of 4 p.0) >>= λ z. count_or_failure 20 KeyCount z >>= λ n. result_if (nat_le (c + n) 201) ManyCounted (top_elements n p.1) >>= with_keys spend n

-- the signatures and the extra item
sigs_forced : (spend : Spend) (w : Elements) (keys : List Sym) (s : State) (m : ℕ) (e : Effect) → IsMet spend w s → (top_elements m (entries_of spend w s) >>= with_sigs spend (map (item_for spend w) keys)) ≡ Ok e → Forced (IsMet spend w) (check_sigs (reverse keys) (reverse (pops m s).0) (pop (pops m s).1).0 (pop (pops m s).1).1)
sigs_forced spend w keys s m e met h =
    let items = map (item_for spend w) keys in
    let t = (pops m s).1 in
    let first = ok_then (top_elements m (entries_of spend w s)) (with_sigs spend items) e h in
    let sigs = taken_syms spend w m s first.0 met first.1 in
    let second = ok_then (top_element (entries_of spend w t)) (with_extra spend items (map (item_for spend w) (pops m s).0)) e (ap (with_sigs spend items) (sym sigs.1) ∙ first.2) in
    let extra = popped_sym spend w t second.0 sigs.0 second.1 in
    let all = ap (with_extra spend items (map (item_for spend w) (pops m s).0)) (sym extra.1) ∙ second.2 in
    check_sigs_met spend w (reverse keys) (reverse (pops m s).0) (pop t).0 (pop t).1 (entries_of spend w (pop t).1) e (
    ap (λ k. check_sigs_effect spend k (map (item_for spend w) (reverse (pops m s).0)) (item_for spend w (pop t).0) (entries_of spend w (pop t).1)) (map_reverse (item_for spend w) keys)
    ∙ ap (λ k. check_sigs_effect spend (reverse items) k (item_for spend w (pop t).0) (entries_of spend w (pop t).1)) (map_reverse (item_for spend w) (pops m s).0)
    ∙ all
    ) extra.0

-- the keys and the number of signatures
keys_forced : (counted : ℕ) (spend : Spend) (w : Elements) (c n : ℕ) (s : State) (e : Effect) → IsMet spend w s → (result_if (nat_le (c + n) 201) ManyCounted (top_elements n (entries_of spend w s)) >>= with_keys spend n) ≡ Ok e → Forced (IsMet spend w) (result_if (nat_le (counted + (pops n s).1.keys) 201) TooManyOps (Ok (pop (pops n s).1)) >>= λ second. count_of n second.0 >>= λ m. check_sigs (reverse (pops n s).0) (reverse (pops m second.1).0) (pop (pops m second.1).1).0 (pop (pops m second.1).1).1)
keys_forced counted spend w c n s e met h =
    let items = map (item_for spend w) (pops n s).0 in
    let t = (pops n s).1 in
    let first = ok_then (result_if (nat_le (c + n) 201) ManyCounted (top_elements n (entries_of spend w s))) (with_keys spend n) e h in
    let fits = ok_checked (nat_le (c + n) 201) ManyCounted (top_elements n (entries_of spend w s)) first.0 first.1 in
    let keys = taken_syms spend w n s first.0 met fits.1 in
    let second = ok_then (top_element (entries_of spend w t)) (with_count spend n items) e (ap (with_keys spend n) (sym keys.1) ∙ first.2) in
    let count = popped_sym spend w t second.0 keys.0 second.1 in
    let parts = count_parts n SigCount (item_for spend w (pop t).0) (λ m. top_elements m (entries_of spend w (pop t).1) >>= with_sigs spend items) e (ap (with_count spend n items) (sym count.1) ∙ second.2) in
    forced_unless (IsMet spend w) (nat_le (counted + t.keys) 201) (pop t) _ (
    forced_is (IsMet spend w) parts.0 (count_of n (pop t).0) _ (count_forced spend w n (pop t).0 parts.0 parts.1) (sigs_forced spend w (pops n s).0 (pop t).1 parts.0 e count.0 parts.2))

pub multi_sig_forced : (counted : ℕ) (spend : Spend) (w : Elements) (c : ℕ) (s : State) (e : Effect) → IsMet spend w s → effect spend c CheckMultiSig (entries_of spend w s) ≡ Ok e → Forced (IsMetBy spend w) (check_multi_sig counted s >>= goes_on)
unfolding effect multi_sig check_multi_sig
multi_sig_forced counted spend w c s e met h =
    let first = ok_then (top_element (entries_of spend w s)) (with_top spend c) e h in
    let top = popped_sym spend w s first.0 met first.1 in
    let parts = count_parts 20 KeyCount (item_for spend w (pop s).0) (λ n. result_if (nat_le (c + n) 201) ManyCounted (top_elements n (entries_of spend w (pop s).1)) >>= with_keys spend n) e (ap (with_top spend c) (sym top.1) ∙ first.2) in
    let n : ℕ = parts.0 in
    let s' : State = record (pop s).1 { keys = (pop s).1.keys + n } in
    forced_then (IsMet spend w) (IsMetBy spend w) (check_multi_sig counted s) goes_on (
    forced_is (IsMet spend w) n (count_of 20 (pop s).0) _ (count_forced spend w 20 (pop s).0 n parts.1) (
    keys_forced counted spend w c n s' e (record { enough = top.0.enough; facts = top.0.facts }) parts.2)
    ) (λ t m. m)
