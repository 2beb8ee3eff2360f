-- The table of rules over some constants agrees with the table over those that stand in their place.
use Rattle.std.proofs.Common.{◌≡◌, ℕ, zero, suc, ◌+◌, Bool, true, false, not, ◌||◌, List, [], ◌∷◌, map, reverse, Option, Some, None, Result, Ok, Err, sym, ap, subst, ◌∙◌, refl, inl, inr}
use Rattle.std.specs.Prelude.{if◌then◌else◌, nat_le}
use Rattle.std.specs.List.{list_any}
use Rattle.std.proofs.lemmas.List.{map-append}
use Rattle.script.specs.declared.opcode.Op.{Op}
use Rattle.script.specs.declared.opcode.Op.TheVariants.{Push, Number as SmallNumber, If, NotIf, Else, EndIf, Drop, Dup, Swap, Size, Equal, EqualVerify, Hash160, CheckSig, CheckMultiSig, CheckLockTimeVerify, CheckSequenceVerify}
use Rattle.script.specs.declared.limits.TheConstants.{MAX_PUBKEYS_PER_MULTISIG, MAX_OPS_PER_SCRIPT}
use Rattle.script.specs.Step.{◌>>=◌, result_if, flag}
use Rattle.facts.specs.declared.symbols.KeySourceOver.{KeySourceOver}
use Rattle.facts.specs.declared.symbols.KeySourceOver.TheVariants.{Const as FixedKey, Slot as SlotKey}
use Rattle.facts.specs.declared.symbols.FactOver.{FactOver}
use Rattle.facts.specs.declared.symbols.FactOver.TheVariants.{Hash as HashIs, KeyForm, Form, Is, Token, Lock, Age}
use Rattle.facts.specs.declared.symbols.SymOver.{SymOver}
use Rattle.facts.specs.declared.symbols.SymOver.TheVariants.{Slot, Const, HashOf, SizeOf, Holds}
use Rattle.paths.specs.declared.state.StateOver.{StateOver}
use Rattle.paths.specs.declared.state.Halt.{Halt}
use Rattle.paths.specs.declared.state.Halt.TheVariants.{Dead, Undecided, TooManyOps}
use Rattle.paths.specs.declared.state.SymbolicJumpOver.{SymbolicJumpOver}
use Rattle.paths.specs.declared.state.SymbolicJumpOver.TheVariants.{Next, AfterElse}
use Rattle.paths.specs.declared.state.ConditionOver.{ConditionOver}
use Rattle.paths.specs.declared.state.ConditionOver.TheVariants.{Known, Asked}
use Rattle.paths.specs.Table.{Words, pop_of, pop, pops, push, ask, goes_on, size_of, hash_of, hash_is, size_by, size_is, equal_of, condition_of, insist, branch, is_bad_key, is_bad_signature, is_bad_extra, source_of, ask_key, signature_rule, check_sig, count_of, slots_of, sources_of, ask_forms, ask_keys, ask_extra, answer_of, check_sigs, check_multi_sig, lock_of, ask_age, rule_of}
use Rattle.paths.specs.Maps.{Replacing, in_key, in_fact, in_stated, in_sym, in_state, in_jump, in_condition}
use Rattle.paths.proofs.MapWords.{Agrees, halts, undecided, agrees_then, agrees_if, agrees_unclear, Settles, settles_then, joined_settles, Clear, Respects, map-reverse}

module _ {C L A C' L' A' : Type 0} (m : Replacing C L A C' L' A') where
  -- a rule's answer, with the constants replaced
  abbrev pub in_step : SymbolicJumpOver C L A × StateOver C L A → SymbolicJumpOver C' L' A' × StateOver C' L' A'
  in_step p = (in_jump m p.0, in_state m p.1)

  abbrev pub in_pair : SymOver C L A × StateOver C L A → SymOver C' L' A' × StateOver C' L' A'
  in_pair p = (in_sym m p.0, in_state m p.1)

  abbrev pub in_pairs : List (SymOver C L A) × StateOver C L A → List (SymOver C' L' A') × StateOver C' L' A'
  in_pairs p = (map (in_sym m) p.0, in_state m p.1)

  pop_of-replaced : (xs : List (SymOver C L A)) (s : StateOver C L A) → pop_of (map (in_sym m) xs) (in_state m s) ≡ in_pair (pop_of xs s)
  pop_of-replaced [] s = refl
  pop_of-replaced (x ∷ xs) s = refl

  pub pop-replaced : (s : StateOver C L A) → pop (in_state m s) ≡ in_pair (pop s)
  pop-replaced s = pop_of-replaced s.stack s

  pub pops-replaced : (n : ℕ) (s : StateOver C L A) → pops n (in_state m s) ≡ in_pairs (pops n s)
  pops-replaced zero s = refl
  pops-replaced (suc n) s =
      ap (λ (p : SymOver C' L' A' × StateOver C' L' A'). (p.0 ∷ (pops n p.1).0, (pops n p.1).1)) (pop-replaced s)
      ∙ ap (λ (p : List (SymOver C' L' A') × StateOver C' L' A'). (in_sym m (pop s).0 ∷ p.0, p.1)) (pops-replaced n (pop s).1)

  pub ask-replaced : (fact : FactOver C L A) (b : Bool) (s : StateOver C L A) → ask (in_fact m fact) b (in_state m s) ≡ in_state m (ask fact b s)
  ask-replaced fact b s = ap {A = List _} {B = StateOver C' L' A'} (λ facts. record (in_state m s) { facts = facts }) (sym (map-append (in_stated m) s.facts (record { fact = fact; holds = b } ∷ [])))

  -- what holds of a popped symbol with its constants replaced
  pub popped : (P : SymOver C' L' A' → StateOver C' L' A' → Type 0) (s : StateOver C L A) → P (in_sym m (pop s).0) (in_state m (pop s).1) → P (pop (in_state m s)).0 (pop (in_state m s)).1
  popped P s t = subst (λ (p : SymOver C' L' A' × StateOver C' L' A'). P p.0 p.1) (sym (pop-replaced s)) t

  ask_key-replaced : (key : KeySourceOver C) (s : StateOver C L A) → ask_key (in_key m key) (in_state m s) ≡ in_state m (ask_key key s)
  ask_key-replaced (FixedKey c) s = refl
  ask_key-replaced (SlotKey i) s = ask-replaced (KeyForm i) true s

  ask_forms-replaced : (slots : List ℕ) (s : StateOver C L A) → ask_forms slots (in_state m s) ≡ in_state m (ask_forms slots s)
  ask_forms-replaced [] s = refl
  ask_forms-replaced (i ∷ slots) s = ap (ask_forms slots) (ask-replaced (Form i) true s) ∙ ask_forms-replaced slots (ask (Form i) true s)

  ask_keys-replaced : (keys : List (KeySourceOver C)) (s : StateOver C L A) → ask_keys (map (in_key m) keys) (in_state m s) ≡ in_state m (ask_keys keys s)
  ask_keys-replaced [] s = refl
  ask_keys-replaced (key ∷ keys) s = ap (ask_keys (map (in_key m) keys)) (ask_key-replaced key s) ∙ ask_keys-replaced keys (ask_key key s)

  module _ (exact : Bool) where
    jump-replaced : (t : Bool) → (if t then Next else AfterElse) ≡ in_jump m (if t then Next else AfterElse)
    jump-replaced true = refl
    jump-replaced false = refl

    branch_agrees : (runs : Bool) (c : ConditionOver C L A) (s : StateOver C L A) → Agrees exact in_step (branch runs c s) (branch runs (in_condition m c) (in_state m s))
    branch_agrees runs (Known b) s = ap (λ j. Ok (j, in_state m s)) (jump-replaced (if b then runs else not runs))
    branch_agrees runs (Asked fact) s = refl

    pub insist_agrees : (c : ConditionOver C L A) (s : StateOver C L A) → Agrees exact (in_state m) (insist c s) (insist (in_condition m c) (in_state m s))
    insist_agrees (Known true) s = refl
    insist_agrees (Known false) s = halts exact Dead (Err Dead) refl
    insist_agrees (Asked fact) s = ap Ok (ask-replaced fact true s)

    source_agrees : (x : SymOver C L A) → Agrees exact (in_key m) (source_of x) (source_of (in_sym m x))
    source_agrees (Const c) = refl
    source_agrees (Slot i) = refl
    source_agrees x = undecided _ exact

    slots_agrees : (xs : List (SymOver C L A)) → Agrees exact (λ slots. slots) (slots_of xs) (slots_of (map (in_sym m) xs))
    slots_agrees [] = refl
    slots_agrees (Slot i ∷ xs) = agrees_then exact (λ slots. slots) (λ slots. slots) (slots_of xs) (slots_of (map (in_sym m) xs)) _ _ (slots_agrees xs) (λ slots. refl)
    slots_agrees (x ∷ xs) = undecided _ exact

    sources_agrees : (xs : List (SymOver C L A)) → Agrees exact (map (in_key m)) (sources_of xs) (sources_of (map (in_sym m) xs))
    sources_agrees [] = refl
    sources_agrees (x ∷ xs) =
        agrees_then exact (in_key m) (map (in_key m)) (source_of x) (source_of (in_sym m x)) _ _ (source_agrees x) (λ key.
        agrees_then exact (map (in_key m)) (map (in_key m)) (sources_of xs) (sources_of (map (in_sym m) xs)) _ _ (sources_agrees xs) (λ keys. refl))

module _ {C L A : Type 0} where
  source_settles : (x : SymOver C L A) → Settles (source_of x)
  source_settles (Const c) = tt
  source_settles (Slot i) = tt
  source_settles x = refl

  slots_settles : (xs : List (SymOver C L A)) → Settles (slots_of xs)
  slots_settles [] = tt
  slots_settles (Slot i ∷ xs) = go (slots_of xs) (slots_settles xs)
    where
      go : (r : Result (List ℕ) Halt) → Settles r → Settles (r >>= λ slots. Ok (i ∷ slots))
      go (Ok x) e = tt
      go (Err h) e = e
  slots_settles (x ∷ xs) = refl

  sources_settles : (xs : List (SymOver C L A)) → Settles (sources_of xs)
  sources_settles [] = tt
  sources_settles (x ∷ xs) = joined_settles (source_of x) (sources_of xs) (λ key keys. key ∷ keys) (source_settles x) (sources_settles xs)

module _ {C L A C' L' A' : Type 0} (exact : Bool) (m : Replacing C L A C' L' A') (w : Words C L A) (v : Words C' L' A') (r : Respects exact m w v) where
  size_agrees : (x : SymOver C L A) → Agrees exact (in_sym m) (size_of w x) (size_of v (in_sym m x))
  size_agrees (Slot i) = refl
  size_agrees (Const c) = agrees_then exact m.bytes (in_sym m) (w.size c) (v.size (m.bytes c)) (λ d. Ok (Const d)) (λ d. Ok (Const d)) (r.size c) (λ d. refl)
  size_agrees (HashOf i) = ap (λ b. Ok (Const b)) (sym (r.known _))
  size_agrees x = undecided _ exact

  hash_agrees : (x : SymOver C L A) → Agrees exact (in_sym m) (hash_of w x) (hash_of v (in_sym m x))
  hash_agrees (Slot i) = refl
  hash_agrees (Const c) = agrees_then exact m.bytes (in_sym m) (w.hash c) (v.hash (m.bytes c)) (λ d. Ok (Const d)) (λ d. Ok (Const d)) (r.hash c) (λ d. refl)
  hash_agrees x = undecided _ exact

  hash_is-replaced : (i : ℕ) (c : C) → hash_is v i (m.bytes c) ≡ in_sym m (hash_is w i c)
  hash_is-replaced i c = ap (λ b. if b then Holds (HashIs i (m.bytes c)) else Const (v.known [])) (sym (r.is_hash c)) ∙ go (w.is_hash c)
    where
      go : (b : Bool) → (if b then Holds (HashIs i (m.bytes c)) else Const (v.known [])) ≡ in_sym m (if b then Holds (HashIs i c) else Const (w.known []))
      go true = refl
      go false = ap Const (sym (r.known []))

  size_by-replaced : (i : ℕ) (n : Option ℕ) → size_by v i n ≡ in_sym m (size_by w i n)
  size_by-replaced i (Some n) = refl
  size_by-replaced i None = ap Const (sym (r.known []))

  size_is-agrees : (i : ℕ) (c : C) → Agrees exact (in_sym m) (size_is w i c) (size_is v i (m.bytes c))
  size_is-agrees i c = agrees_then exact (λ n. n) (in_sym m) (w.named_size c) (v.named_size (m.bytes c)) (λ n. Ok (size_by w i n)) (λ n. Ok (size_by v i n)) (r.named_size c) (λ n. ap Ok (size_by-replaced i n))

  equal_agrees : (x y : SymOver C L A) → Agrees exact (in_sym m) (equal_of w x y) (equal_of v (in_sym m x) (in_sym m y))
  equal_agrees (Const c) (Const d) = agrees_then exact m.bytes (in_sym m) (w.equal c d) (v.equal (m.bytes c) (m.bytes d)) (λ b. Ok (Const b)) (λ b. Ok (Const b)) (r.equal c d) (λ b. refl)
  equal_agrees (HashOf i) (Const h) = ap Ok (hash_is-replaced i h)
  equal_agrees (Const h) (HashOf i) = ap Ok (hash_is-replaced i h)
  equal_agrees (SizeOf i) (Const c) = size_is-agrees i c
  equal_agrees (Const c) (SizeOf i) = size_is-agrees i c
  equal_agrees (Slot i) (Const c) = refl
  equal_agrees (Const c) (Slot i) = refl
  equal_agrees x y = undecided _ exact

  pub condition_agrees : (x : SymOver C L A) → Agrees exact (in_condition m) (condition_of w x) (condition_of v (in_sym m x))
  condition_agrees (Const c) = agrees_then exact (λ b. b) (in_condition m) (w.truth c) (v.truth (m.bytes c)) (λ b. Ok (Known b)) (λ b. Ok (Known b)) (r.truth c) (λ b. refl)
  condition_agrees (Holds fact) = refl
  condition_agrees (Slot i) = refl
  condition_agrees x = undecided _ exact

  bad_key-same : (x : SymOver C L A) → is_bad_key w x ≡ is_bad_key v (in_sym m x)
  bad_key-same (Const c) = r.is_bad_key c
  bad_key-same x = refl

  any_bad-same : (xs : List (SymOver C L A)) → list_any (is_bad_key w) xs ≡ list_any (is_bad_key v) (map (in_sym m) xs)
  any_bad-same [] = refl
  any_bad-same (x ∷ xs) = ap (λ b. b || list_any (is_bad_key w) xs) (bad_key-same x) ∙ ap (λ b. is_bad_key v (in_sym m x) || b) (any_bad-same xs)

  count_agrees : (limit : ℕ) (x : SymOver C L A) → Agrees exact (λ n. n) (count_of w limit x) (count_of v limit (in_sym m x))
  count_agrees limit (Const c) = r.count limit c
  count_agrees limit x = undecided _ exact

  lock_agrees : (x : SymOver C L A) → Agrees exact m.lock (lock_of w x) (lock_of v (in_sym m x))
  lock_agrees (Const c) = r.lock c
  lock_agrees x = undecided _ exact

  ask_age-replaced : (n : L) (s : StateOver C L A) → ask_age v (m.lock n) (in_state m s) ≡ in_state m (ask_age w n s)
  ask_age-replaced n s = ap {A = Bool} {B = StateOver C' L' A'} (λ b. if b then in_state m s else ask (Age (v.age_bits (m.lock n))) true (in_state m s)) (sym (r.is_off n)) ∙ go (w.is_off n)
    where
      go : (b : Bool) → (if b then in_state m s else ask (Age (v.age_bits (m.lock n))) true (in_state m s)) ≡ in_state m (if b then s else ask (Age (w.age_bits n)) true s)
      go true = refl
      go false = ap (λ a. ask (Age a) true (in_state m s)) (sym (r.age_bits n)) ∙ ask-replaced m (Age (w.age_bits n)) true s

  -- CHECKSIG
  sign_slot : (key : KeySourceOver C) (i : ℕ) (s : StateOver C L A) → ask (Form i) true (ask_key (in_key m key) (in_state m s)) ≡ in_state m (ask (Form i) true (ask_key key s))
  sign_slot key i s = ap (ask (Form i) true) (ask_key-replaced m key s) ∙ ask-replaced m (Form i) true (ask_key key s)

  sign_none : (key : KeySourceOver C) (s : StateOver C L A) → push (Const (v.known [])) (ask_key (in_key m key) (in_state m s)) ≡ in_state m (push (Const (w.known [])) (ask_key key s))
  sign_none key s = ap (λ b. push (Const b) (ask_key (in_key m key) (in_state m s))) (sym (r.known [])) ∙ ap (push (Const (m.bytes (w.known [])))) (ask_key-replaced m key s)

  signs : (key sig : SymOver C L A) (s : StateOver C L A) → is_bad_signature w sig ≡ is_bad_signature v (in_sym m sig) → ((source : KeySourceOver C) → Agrees exact (in_state m) (signature_rule w source sig s) (signature_rule v (in_key m source) (in_sym m sig) (in_state m s))) → Agrees exact (in_state m) (check_sig w key sig s) (check_sig v (in_sym m key) (in_sym m sig) (in_state m s))
  signs key sig s e h =
      agrees_if exact (in_state m) _ _ Dead _ _ (ap (λ b. not (b || is_bad_signature w sig)) (bad_key-same key) ∙ ap (λ b. not (is_bad_key v (in_sym m key) || b)) e) (
      agrees_then exact (in_key m) (in_state m) (source_of key) (source_of (in_sym m key)) _ _ (source_agrees m exact key) h)

  signs_const : (key : SymOver C L A) (c : C) (s : StateOver C L A) → Clear exact (w.is_bad_signature c) (w.is_no_signature c) (v.is_bad_signature (m.bytes c)) (v.is_no_signature (m.bytes c)) → Agrees exact (in_state m) (check_sig w key (Const c) s) (check_sig v (in_sym m key) (Const (m.bytes c)) (in_state m s))
  signs_const key c s (inl e) = signs key (Const c) s e.0 (λ source. agrees_if exact (in_state m) (w.is_no_signature c) (v.is_no_signature (m.bytes c)) Undecided _ _ e.1 (ap Ok (sign_none source s)))
  signs_const key c s (inr e) =
      agrees_unclear exact (in_state m) (is_bad_key w key) (is_bad_key v (in_sym m key)) (w.is_bad_signature c) (v.is_bad_signature (m.bytes c)) _ _ (bad_key-same key) e.0 e.1 (
      settles_then (source_of key) (λ source. signature_rule w source (Const c) s) (source_settles key) (λ source. ap (λ b. result_if b Undecided (Ok (push (Const (w.known [])) (ask_key source s)))) e.2))

  check_sig-agrees : (key sig : SymOver C L A) (s : StateOver C L A) → Agrees exact (in_state m) (check_sig w key sig s) (check_sig v (in_sym m key) (in_sym m sig) (in_state m s))
  check_sig-agrees key (Const c) s = signs_const key c s (r.signature c)
  check_sig-agrees key (Slot i) s = signs key (Slot i) s refl (λ source. ap (λ t. Ok (push (Holds (Token i (in_key m source))) t)) (sign_slot source i s))
  check_sig-agrees key (HashOf i) s = signs key (HashOf i) s refl (λ source. undecided _ exact)
  check_sig-agrees key (SizeOf i) s = signs key (SizeOf i) s refl (λ source. undecided _ exact)
  check_sig-agrees key (Holds fact) s = signs key (Holds fact) s refl (λ source. undecided _ exact)

  -- CHECKMULTISIG
  answer-replaced : (slots : List ℕ) (keys : List (KeySourceOver C)) → answer_of v slots (map (in_key m) keys) ≡ in_sym m (answer_of w slots keys)
  answer-replaced [] keys = ap Const (sym (r.known (flag true)))
  answer-replaced (i ∷ slots) keys = refl

  -- the facts of signatures and of keys
  forms-replaced : (slots : List ℕ) (keys : List (KeySourceOver C)) (s : StateOver C L A) → ask_keys (map (in_key m) keys) (ask_forms slots (in_state m s)) ≡ in_state m (ask_keys keys (ask_forms slots s))
  forms-replaced slots keys s = ap (ask_keys (map (in_key m) keys)) (ask_forms-replaced m slots s) ∙ ask_keys-replaced m keys (ask_forms slots s)

  -- what is left once the forms were tested
  checks : (keys sigs : List (SymOver C L A)) (extra : SymOver C L A) (s : StateOver C L A) → ((t : StateOver C L A) → Agrees exact (in_state m) (ask_extra w extra t) (ask_extra v (in_sym m extra) (in_state m t))) → Agrees exact (in_state m) (slots_of sigs >>= λ slots. sources_of keys >>= λ sources. ask_extra w extra (ask_keys sources (ask_forms slots s)) >>= λ t. Ok (push (answer_of w slots sources) t)) (slots_of (map (in_sym m) sigs) >>= λ slots. sources_of (map (in_sym m) keys) >>= λ sources. ask_extra v (in_sym m extra) (ask_keys sources (ask_forms slots (in_state m s))) >>= λ t. Ok (push (answer_of v slots sources) t))
  checks keys sigs extra s h =
      agrees_then exact (λ slots. slots) (in_state m) (slots_of sigs) (slots_of (map (in_sym m) sigs)) _ _ (slots_agrees m exact sigs) (λ slots.
      agrees_then exact (map (in_key m)) (in_state m) (sources_of keys) (sources_of (map (in_sym m) keys)) _ _ (sources_agrees m exact keys) (λ sources.
      agrees_then exact (in_state m) (in_state m) (ask_extra w extra (ask_keys sources (ask_forms slots s))) (ask_extra v (in_sym m extra) (ask_keys (map (in_key m) sources) (ask_forms slots (in_state m s)))) _ _
      (subst (λ t. Agrees exact (in_state m) (ask_extra w extra (ask_keys sources (ask_forms slots s))) (ask_extra v (in_sym m extra) t)) (sym (forms-replaced slots sources s)) (h (ask_keys sources (ask_forms slots s))))
      (λ t. ap (λ x. Ok (push x (in_state m t))) (answer-replaced slots sources))))

  tested : (keys sigs : List (SymOver C L A)) (extra : SymOver C L A) (s : StateOver C L A) → is_bad_extra w extra ≡ is_bad_extra v (in_sym m extra) → ((t : StateOver C L A) → Agrees exact (in_state m) (ask_extra w extra t) (ask_extra v (in_sym m extra) (in_state m t))) → Agrees exact (in_state m) (check_sigs w keys sigs extra s) (check_sigs v (map (in_sym m) keys) (map (in_sym m) sigs) (in_sym m extra) (in_state m s))
  tested keys sigs extra s e h =
      agrees_if exact (in_state m) _ _ Dead _ _ (ap (λ b. not (b || is_bad_extra w extra)) (any_bad-same keys) ∙ ap (λ b. not (list_any (is_bad_key v) (map (in_sym m) keys) || b)) e) (checks keys sigs extra s h)

  tested_const : (keys sigs : List (SymOver C L A)) (c : C) (s : StateOver C L A) → Clear exact (w.is_bad_extra c) (w.is_clear_extra c) (v.is_bad_extra (m.bytes c)) (v.is_clear_extra (m.bytes c)) → Agrees exact (in_state m) (check_sigs w keys sigs (Const c) s) (check_sigs v (map (in_sym m) keys) (map (in_sym m) sigs) (Const (m.bytes c)) (in_state m s))
  tested_const keys sigs c s (inl e) = tested keys sigs (Const c) s e.0 (λ t. agrees_if exact (in_state m) (w.is_clear_extra c) (v.is_clear_extra (m.bytes c)) Undecided _ _ e.1 refl)
  tested_const keys sigs c s (inr e) =
      agrees_unclear exact (in_state m) (list_any (is_bad_key w) keys) (list_any (is_bad_key v) (map (in_sym m) keys)) (w.is_bad_extra c) (v.is_bad_extra (m.bytes c)) _ _ (any_bad-same keys) e.0 e.1 (
      settles_then (slots_of sigs) _ (slots_settles sigs) (λ slots.
      settles_then (sources_of keys) _ (sources_settles keys) (λ sources. ap (λ b. result_if b Undecided (Ok (ask_keys sources (ask_forms slots s))) >>= λ t. Ok (push (answer_of w slots sources) t)) e.2)))

  check_sigs-agrees : (keys sigs : List (SymOver C L A)) (extra : SymOver C L A) (s : StateOver C L A) → Agrees exact (in_state m) (check_sigs w keys sigs extra s) (check_sigs v (map (in_sym m) keys) (map (in_sym m) sigs) (in_sym m extra) (in_state m s))
  check_sigs-agrees keys sigs (Const c) s = tested_const keys sigs c s (r.extra c)
  check_sigs-agrees keys sigs (Slot i) s = tested keys sigs (Slot i) s refl (λ t. ap (λ b. Ok (ask (Is i b) true (in_state m t))) (sym (r.known [])) ∙ ap Ok (ask-replaced m (Is i (w.known [])) true t))
  check_sigs-agrees keys sigs (HashOf i) s = tested keys sigs (HashOf i) s refl (λ t. undecided _ exact)
  check_sigs-agrees keys sigs (SizeOf i) s = tested keys sigs (SizeOf i) s refl (λ t. undecided _ exact)
  check_sigs-agrees keys sigs (Holds fact) s = tested keys sigs (Holds fact) s refl (λ t. undecided _ exact)

  -- what is left of CHECKMULTISIG after each of its counts
  pulled : (keys : List (SymOver C L A)) (sigs : List (SymOver C L A) × StateOver C L A) → Agrees exact (in_state m) (check_sigs w (reverse keys) (reverse sigs.0) (pop sigs.1).0 (pop sigs.1).1) (check_sigs v (reverse (map (in_sym m) keys)) (reverse (map (in_sym m) sigs.0)) (pop (in_state m sigs.1)).0 (pop (in_state m sigs.1)).1)
  pulled keys sigs =
      popped m (λ x t. Agrees exact (in_state m) (check_sigs w (reverse keys) (reverse sigs.0) (pop sigs.1).0 (pop sigs.1).1) (check_sigs v (reverse (map (in_sym m) keys)) (reverse (map (in_sym m) sigs.0)) x t)) sigs.1 (
      subst (λ ks. Agrees exact (in_state m) (check_sigs w (reverse keys) (reverse sigs.0) (pop sigs.1).0 (pop sigs.1).1) (check_sigs v ks (reverse (map (in_sym m) sigs.0)) (in_sym m (pop sigs.1).0) (in_state m (pop sigs.1).1))) (map-reverse (in_sym m) keys) (
      subst (λ ss. Agrees exact (in_state m) (check_sigs w (reverse keys) (reverse sigs.0) (pop sigs.1).0 (pop sigs.1).1) (check_sigs v (map (in_sym m) (reverse keys)) ss (in_sym m (pop sigs.1).0) (in_state m (pop sigs.1).1))) (map-reverse (in_sym m) sigs.0) (
      check_sigs-agrees (reverse keys) (reverse sigs.0) (pop sigs.1).0 (pop sigs.1).1)))

  -- what is left once the keys were taken
  abbrev signed : {X Y Z : Type 0} → Words X Y Z → ℕ → List (SymOver X Y Z) → SymOver X Y Z × StateOver X Y Z → Result (StateOver X Y Z) Halt
  signed u n keys second = count_of u n second.0 >>= λ k. check_sigs u (reverse keys) (reverse (pops k second.1).0) (pop (pops k second.1).1).0 (pop (pops k second.1).1).1

  signed_agrees : (n : ℕ) (keys : List (SymOver C L A)) (second : SymOver C L A × StateOver C L A) → Agrees exact (in_state m) (signed w n keys second) (signed v n (map (in_sym m) keys) (in_pair m second))
  signed_agrees n keys second =
      agrees_then exact (λ k. k) (in_state m) (count_of w n second.0) (count_of v n (in_sym m second.0)) _ _ (count_agrees n second.0) (λ k.
      subst (λ (p : List (SymOver C' L' A') × StateOver C' L' A'). Agrees exact (in_state m) (check_sigs w (reverse keys) (reverse (pops k second.1).0) (pop (pops k second.1).1).0 (pop (pops k second.1).1).1) (check_sigs v (reverse (map (in_sym m) keys)) (reverse p.0) (pop p.1).0 (pop p.1).1)) (sym (pops-replaced m k second.1)) (pulled keys (pops k second.1)))

  abbrev keyed : {X Y Z : Type 0} → Words X Y Z → ℕ → ℕ → List (SymOver X Y Z) × StateOver X Y Z → Result (StateOver X Y Z) Halt
  keyed u counted n keys = result_if (nat_le (counted + keys.1.keys) MAX_OPS_PER_SCRIPT) TooManyOps (Ok (pop keys.1)) >>= λ second. signed u n keys.0 second

  keyed_agrees : (counted n : ℕ) (keys : List (SymOver C L A) × StateOver C L A) → Agrees exact (in_state m) (keyed w counted n keys) (keyed v counted n (in_pairs m keys))
  keyed_agrees counted n keys =
      agrees_then exact (in_pair m) (in_state m) (result_if (nat_le (counted + keys.1.keys) MAX_OPS_PER_SCRIPT) TooManyOps (Ok (pop keys.1))) (result_if (nat_le (counted + keys.1.keys) MAX_OPS_PER_SCRIPT) TooManyOps (Ok (pop (in_state m keys.1)))) _ _
      (agrees_if exact (in_pair m) (nat_le (counted + keys.1.keys) MAX_OPS_PER_SCRIPT) (nat_le (counted + keys.1.keys) MAX_OPS_PER_SCRIPT) TooManyOps (Ok (pop keys.1)) (Ok (pop (in_state m keys.1))) refl (ap {B = Result (SymOver C' L' A' × StateOver C' L' A') Halt} Ok (pop-replaced m keys.1)))
      (λ second. signed_agrees n keys.0 second)

  multi_sig_agrees : (counted : ℕ) (s : StateOver C L A) → Agrees exact (in_state m) (check_multi_sig w counted s) (check_multi_sig v counted (in_state m s))
  multi_sig_agrees counted s =
      popped m (λ x t. Agrees exact (in_state m) (check_multi_sig w counted s) (count_of v MAX_PUBKEYS_PER_MULTISIG x >>= λ n. keyed v counted n (pops n (record t { keys = t.keys + n })))) s (
      agrees_then exact (λ n. n) (in_state m) (count_of w MAX_PUBKEYS_PER_MULTISIG (pop s).0) (count_of v MAX_PUBKEYS_PER_MULTISIG (in_sym m (pop s).0)) (λ n. keyed w counted n (pops n (record (pop s).1 { keys = (pop s).1.keys + n }))) (λ n. keyed v counted n (pops n (record (in_state m (pop s).1) { keys = (in_state m (pop s).1).keys + n }))) (count_agrees MAX_PUBKEYS_PER_MULTISIG (pop s).0) (λ n.
      subst (λ (p : List (SymOver C' L' A') × StateOver C' L' A'). Agrees exact (in_state m) (keyed w counted n (pops n (record (pop s).1 { keys = (pop s).1.keys + n }))) (keyed v counted n p)) (sym (pops-replaced m n (record (pop s).1 { keys = (pop s).1.keys + n }))) (keyed_agrees counted n (pops n (record (pop s).1 { keys = (pop s).1.keys + n })))))

  -- the rules
  goes : (r : Result (StateOver C L A) Halt) (r' : Result (StateOver C' L' A') Halt) → Agrees exact (in_state m) r r' → Agrees exact (in_step m) (r >>= goes_on) (r' >>= goes_on)
  goes r r' a = agrees_then exact (in_state m) (in_step m) r r' goes_on goes_on a (λ s. refl)

  pushes : (r : Result (SymOver C L A) Halt) (r' : Result (SymOver C' L' A') Halt) (s : StateOver C L A) → Agrees exact (in_sym m) r r' → Agrees exact (in_step m) (r >>= λ x. goes_on (push x s)) (r' >>= λ x. goes_on (push x (in_state m s)))
  pushes r r' s a = agrees_then exact (in_sym m) (in_step m) r r' (λ x. goes_on (push x s)) (λ x. goes_on (push x (in_state m s))) a (λ x. refl)

  pub rule_agrees : (counted : ℕ) (op : Op) (s : StateOver C L A) → Agrees exact (in_step m) (rule_of w counted op s) (rule_of v counted op (in_state m s))
  rule_agrees counted (Push item) s = ap (λ c. goes_on (push (Const c) (in_state m s))) (sym (r.known item))
  rule_agrees counted (SmallNumber n) s = ap (λ c. goes_on (push (Const c) (in_state m s))) (sym (r.known (n ∷ [])))
  rule_agrees counted If s = popped m (λ x t. Agrees exact (in_step m) (rule_of w counted If s) (condition_of v x >>= λ c. branch true c t)) s (agrees_then exact (in_condition m) (in_step m) (condition_of w (pop s).0) (condition_of v (in_sym m (pop s).0)) _ _ (condition_agrees (pop s).0) (λ c. branch_agrees m exact true c (pop s).1))
  rule_agrees counted NotIf s = popped m (λ x t. Agrees exact (in_step m) (rule_of w counted NotIf s) (condition_of v x >>= λ c. branch false c t)) s (agrees_then exact (in_condition m) (in_step m) (condition_of w (pop s).0) (condition_of v (in_sym m (pop s).0)) _ _ (condition_agrees (pop s).0) (λ c. branch_agrees m exact false c (pop s).1))
  rule_agrees counted Else s = refl
  rule_agrees counted EndIf s = refl
  rule_agrees counted Drop s = ap (λ (p : SymOver C' L' A' × StateOver C' L' A'). goes_on p.1) (pop-replaced m s)
  rule_agrees counted Dup s = ap (λ (p : SymOver C' L' A' × StateOver C' L' A'). goes_on (push p.0 (push p.0 p.1))) (pop-replaced m s)
  rule_agrees counted Swap s =
      popped m (λ x t. Agrees exact (in_step m) (rule_of w counted Swap s) (goes_on (push (pop t).0 (push x (pop t).1)))) s (
      popped m (λ y t. Agrees exact (in_step m) (rule_of w counted Swap s) (goes_on (push y (push (in_sym m (pop s).0) t)))) (pop s).1 refl)
  rule_agrees counted Size s = popped m (λ x t. Agrees exact (in_step m) (rule_of w counted Size s) (size_of v x >>= λ y. goes_on (push y (push x t)))) s (pushes (size_of w (pop s).0) (size_of v (in_sym m (pop s).0)) (push (pop s).0 (pop s).1) (size_agrees (pop s).0))
  rule_agrees counted Equal s =
      popped m (λ x t. Agrees exact (in_step m) (rule_of w counted Equal s) (equal_of v x (pop t).0 >>= λ z. goes_on (push z (pop t).1))) s (
      popped m (λ y t. Agrees exact (in_step m) (rule_of w counted Equal s) (equal_of v (in_sym m (pop s).0) y >>= λ z. goes_on (push z t))) (pop s).1 (
      pushes (equal_of w (pop s).0 (pop (pop s).1).0) (equal_of v (in_sym m (pop s).0) (in_sym m (pop (pop s).1).0)) (pop (pop s).1).1 (equal_agrees (pop s).0 (pop (pop s).1).0)))
  rule_agrees counted EqualVerify s =
      popped m (λ x t. Agrees exact (in_step m) (rule_of w counted EqualVerify s) (equal_of v x (pop t).0 >>= λ z. condition_of v z >>= λ c. insist c (pop t).1 >>= goes_on)) s (
      popped m (λ y t. Agrees exact (in_step m) (rule_of w counted EqualVerify s) (equal_of v (in_sym m (pop s).0) y >>= λ z. condition_of v z >>= λ c. insist c t >>= goes_on)) (pop s).1 (
      agrees_then exact (in_sym m) (in_step m) (equal_of w (pop s).0 (pop (pop s).1).0) (equal_of v (in_sym m (pop s).0) (in_sym m (pop (pop s).1).0)) _ _ (equal_agrees (pop s).0 (pop (pop s).1).0) (λ z.
      agrees_then exact (in_condition m) (in_step m) (condition_of w z) (condition_of v (in_sym m z)) _ _ (condition_agrees z) (λ c.
      goes (insist c (pop (pop s).1).1) (insist (in_condition m c) (in_state m (pop (pop s).1).1)) (insist_agrees m exact c (pop (pop s).1).1)))))
  rule_agrees counted Hash160 s = popped m (λ x t. Agrees exact (in_step m) (rule_of w counted Hash160 s) (hash_of v x >>= λ y. goes_on (push y t))) s (pushes (hash_of w (pop s).0) (hash_of v (in_sym m (pop s).0)) (pop s).1 (hash_agrees (pop s).0))
  rule_agrees counted CheckSig s =
      popped m (λ x t. Agrees exact (in_step m) (rule_of w counted CheckSig s) (check_sig v x (pop t).0 (pop t).1 >>= goes_on)) s (
      popped m (λ y t. Agrees exact (in_step m) (rule_of w counted CheckSig s) (check_sig v (in_sym m (pop s).0) y t >>= goes_on)) (pop s).1 (
      goes _ _ (check_sig-agrees (pop s).0 (pop (pop s).1).0 (pop (pop s).1).1)))
  rule_agrees counted CheckMultiSig s = goes (check_multi_sig w counted s) (check_multi_sig v counted (in_state m s)) (multi_sig_agrees counted s)
  rule_agrees counted CheckLockTimeVerify s =
      popped m (λ x t. Agrees exact (in_step m) (rule_of w counted CheckLockTimeVerify s) (lock_of v x >>= λ n. goes_on (push x (ask (Lock n) true t)))) s (
      agrees_then exact m.lock (in_step m) (lock_of w (pop s).0) (lock_of v (in_sym m (pop s).0)) _ _ (lock_agrees (pop s).0) (λ n. ap (λ t. goes_on (push (in_sym m (pop s).0) t)) (ask-replaced m (Lock n) true (pop s).1)))
  rule_agrees counted CheckSequenceVerify s =
      popped m (λ x t. Agrees exact (in_step m) (rule_of w counted CheckSequenceVerify s) (lock_of v x >>= λ n. goes_on (push x (ask_age v n t)))) s (
      agrees_then exact m.lock (in_step m) (lock_of w (pop s).0) (lock_of v (in_sym m (pop s).0)) _ _ (lock_agrees (pop s).0) (λ n. ap (λ t. goes_on (push (in_sym m (pop s).0) t)) (ask_age-replaced n (pop s).1)))
