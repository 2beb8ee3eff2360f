-- The script of a key hash runs clean only on two items.
use Rattle.std.proofs.Common.{◌≡◌, ℕ, ◌≤◌, ◌+◌, max, nat_le, Bool, true, false, List, [], ◌∷◌, ◌++◌, length, drop, reverse, Option, Some, Result, Ok, Err, sym, ap, subst, ◌∙◌, refl, arith}
use Rattle.std.specs.Prelude.{All, if◌then◌else◌}
use Rattle.std.specs.List.{list_any}
use Rattle.std.proofs.lemmas.List.{length-reverse, length-drop}
use Rattle.std.proofs.lemmas.List.Elements.{All-nil, All-cons}
use Rattle.std.proofs.lemmas.Bool.{and_parts, eqb-true}
use Rattle.std.proofs.lemmas.Slice.Eq.{bytes_eq-Decides}
use Rattle.script.specs.declared.opcode.Op.{Op}
use Rattle.script.specs.declared.opcode.Op.TheVariants.{Push, Dup, Hash160, EqualVerify, CheckSig}
use Rattle.script.specs.declared.spending.Spend.{Spend}
use Rattle.script.specs.declared.stops.Cause.{Cause}
use Rattle.script.specs.declared.stops.Cause.TheVariants.{ItemTooLong, MissingOperand, NotOneValue, TooManyOps, StackTooTall, FailedCheck}
use Rattle.script.specs.declared.stops.Kind.TheVariants.{Verify, TokenForm, KeyForm}
use Rattle.script.specs.declared.jumps.Jump.TheVariants.{Next}
use Rattle.script.specs.Token.{token_of, is_key, is_signature}
use Rattle.digest.specs.Hash.{hash160}
use Rattle.std.specs.Str.{bytes_eq}
use Rattle.script.specs.Spelling.{IsOp, spelling}
use Rattle.script.specs.Step.{Elements, Effect, effect, flag, result_if, ◌>>=◌}
use Rattle.script.specs.Run.{RunState, op_count, jump_length, open_ifs_after, state_after_effect, state_after_skip_or_run, state_after, Outcome, Clean, Stopped, onward, outcome_from, start, is_long, outcome}
use Rattle.sighash.specs.Programs.{script_ops, key_hash_script}
use Rattle.claim.specs.Judgement.{is_key_program}
use Rattle.sighash.proofs.Parsing.{parsed_spelling}

abbrev key_ops : List ℕ → List Op
key_ops hash = Dup ∷ Hash160 ∷ Push hash ∷ EqualVerify ∷ CheckSig ∷ []

no_stop : (at : ℕ) (c : Cause) (n k : ℕ) → Stopped at c ≡ Clean n k → ⊥
no_stop at c n k e = cc

ok_if : {A : Type 0} (b : Bool) (c : Cause) (r : Result A Cause) (q : A) → result_if b c r ≡ Ok q → r ≡ Ok q
ok_if true c r q e = e
ok_if false c r q e = absurd (cc)

abbrev good : {A : Type 0} → A → Result A Cause
good a = Ok a

inner : {A : Type 0} (a b : A) → good a ≡ good b → b ≡ a
inner a b e = cc

no_error : {A : Type 0} (c : Cause) (b : A) → Err c ≡ Ok b → ⊥
no_error c b e = cc

-- where a run stands with no branch open
abbrev at_state : Elements → ℕ → ℕ → RunState
at_state stack counted height = record { ahead = 0; stack = stack; counted = counted; open_ifs = []; height = height }

-- what an opcode leaves is these elements
abbrev Leaves : Result Effect Cause → Elements → Type 0
Leaves r t = (e : Effect) → r ≡ Ok e → e ≡ record { jump = Next; stack = t; keys = 0 }

onward-ok : (at : ℕ) (r : Result RunState Cause) (go : RunState → Outcome) (n k : ℕ) → onward at r go ≡ Clean n k → (q : RunState) × (r ≡ Ok q) × (go q ≡ Clean n k)
onward-ok at (Ok q) go n k e = (q, refl, e)
onward-ok at (Err c) go n k e = absurd (no_stop at c n k e)

after-ok : (rest : List Op) (counted height : ℕ) (r : Result Effect Cause) (t : Elements) (q : RunState) → Leaves r t → (r >>= state_after_effect rest counted [] height) ≡ Ok q → q ≡ at_state t (counted + 0) (max height (length t))
after-ok rest counted height (Err c) t q l e = absurd (no_error c q e)
after-ok rest counted height (Ok d) t q l e =
    let same = ok_if (nat_le (length d.stack) 1000) StackTooTall _ q e in
    let found = l d refl in
    inner _ q same ∙ ap (λ (f : Effect). record { ahead = jump_length f.jump rest; stack = f.stack; counted = counted + f.keys; open_ifs = []; height = max height (length f.stack) }) found

state-ok : (spend : Spend) (op : Op) (rest : List Op) (s t : Elements) (counted height : ℕ) (q : RunState) → open_ifs_after op [] ≡ Ok [] → Leaves (effect spend (counted + op_count op) op s) t → state_after spend op rest (at_state s counted height) ≡ Ok q → q ≡ at_state t (counted + op_count op + 0) (max height (length t))
unfolding state_after
state-ok spend op rest s t counted height q o l e =
    let go = state_after_skip_or_run spend op rest 0 (at_state s counted height) (counted + op_count op) in
    let a = ok_if (nat_le (counted + op_count op) 201) TooManyOps (open_ifs_after op [] >>= go) q e in
    let b : go [] ≡ Ok q = sym (ap (λ r. r >>= go) o) ∙ a in
    after-ok rest (counted + op_count op) height (effect spend (counted + op_count op) op s) t q l b

-- a clean run goes on after an opcode that leaves these elements
step : (spend : Spend) (at : ℕ) (op : Op) (rest : List Op) (s t : Elements) (counted height n k : ℕ) → open_ifs_after op [] ≡ Ok [] → Leaves (effect spend (counted + op_count op) op s) t → outcome_from spend at (op ∷ rest) (at_state s counted height) ≡ Clean n k → (c : ℕ) × (h : ℕ) × (outcome_from spend (at + 1) rest (at_state t c h) ≡ Clean n k)
step spend at op rest s t counted height n k o l e =
    let r = onward-ok at (state_after spend op rest (at_state s counted height)) (outcome_from spend (at + 1) rest) n k e in
    (counted + op_count op + 0, max height (length t), ap (outcome_from spend (at + 1) rest) (sym (state-ok spend op rest s t counted height r.0 o l r.1)) ∙ r.2)

signed : (a b : Bool) (c d : Cause) (x : List ℕ) (s : Elements) → Leaves (result_if a c (result_if b d (Ok (record { jump = Next; stack = x ∷ s; keys = 0 })))) (x ∷ s)
signed a b c d x s e f = inner _ e (ok_if b d _ e (ok_if a c _ e f))

-- CHECKSIG at the end needs two elements
two_left : (spend : Spend) (s : Elements) (counted height n k : ℕ) → outcome_from spend 4 (CheckSig ∷ []) (at_state s counted height) ≡ Clean n k → length s ≡ 2
unfolding effect
two_left spend [] counted height n k e = absurd (no_stop 5 NotOneValue n k ((step spend 4 CheckSig [] [] [] counted height n k refl (λ d f. absurd (no_error _ d f)) e).2))
two_left spend (x ∷ []) counted height n k e = absurd (no_stop 5 NotOneValue n k ((step spend 4 CheckSig [] (x ∷ []) [] counted height n k refl (λ d f. absurd (no_error _ d f)) e).2))
two_left spend (x ∷ y ∷ []) counted height n k e = refl
two_left spend (x ∷ y ∷ z ∷ s) counted height n k e =
    absurd (no_stop 5 NotOneValue n k ((step spend 4 CheckSig [] (x ∷ y ∷ z ∷ s) (flag (bytes_eq y (token_of x spend.digest)) ∷ z ∷ s) counted height n k refl
    (signed (is_signature y) (is_key x) (FailedCheck TokenForm) (FailedCheck KeyForm) (flag (bytes_eq y (token_of x spend.digest))) (z ∷ s)) e).2))

two_items : (spend : Spend) (hash : List ℕ) (w : Elements) (n k : ℕ) → outcome_from spend 0 (key_ops hash) (start w) ≡ Clean n k → length w ≡ 2
unfolding effect state_after
two_items spend hash [] n k e = absurd (no_stop 0 MissingOperand n k e)
two_items spend hash (x ∷ w) n k e =
    let a = step spend 0 Dup (Hash160 ∷ Push hash ∷ EqualVerify ∷ CheckSig ∷ []) (x ∷ w) (x ∷ x ∷ w) 0 (length (x ∷ w)) n k refl (λ d f. inner _ d f) e in
    let b = step spend 1 Hash160 (Push hash ∷ EqualVerify ∷ CheckSig ∷ []) (x ∷ x ∷ w) (hash160 x ∷ x ∷ w) a.0 a.1 n k refl (λ d f. inner _ d f) a.2 in
    let c = step spend 2 (Push hash) (EqualVerify ∷ CheckSig ∷ []) (hash160 x ∷ x ∷ w) (hash ∷ hash160 x ∷ x ∷ w) b.0 b.1 n k refl (λ d f. inner _ d f) b.2 in
    let g = step spend 3 EqualVerify (CheckSig ∷ []) (hash ∷ hash160 x ∷ x ∷ w) (x ∷ w) c.0 c.1 n k refl (λ d f. inner _ d (ok_if (bytes_eq hash (hash160 x)) (FailedCheck Verify) _ d f)) c.2 in
    two_left spend (x ∷ w) g.0 g.1 n k g.2

not_long : (b : Bool) (o : Outcome) (n k : ℕ) → (if b then Stopped 0 ItemTooLong else o) ≡ Clean n k → o ≡ Clean n k
not_long true o n k e = absurd (cc)
not_long false o n k e = e

key_length : (script program : List ℕ) → is_key_program script program ≡ true → length (drop 2 program) ≡ 20
key_length script program e =
    let long : length program ≡ 22 = eqb-true _ _ (and_parts _ _ (and_parts _ _ e).0).0 in
    omega (arith, length-drop 2 program, long)

key_valid : (hash : List ℕ) → length hash ≡ 20 → All IsOp (key_ops hash)
key_valid hash l =
    let short : length hash ≤ 75 = omega (arith, l) in
    All-cons IsOp Dup (Hash160 ∷ Push hash ∷ EqualVerify ∷ CheckSig ∷ []) tt
    (All-cons IsOp Hash160 (Push hash ∷ EqualVerify ∷ CheckSig ∷ []) tt
    (All-cons IsOp (Push hash) (EqualVerify ∷ CheckSig ∷ []) short
    (All-cons IsOp EqualVerify (CheckSig ∷ []) tt (All-cons IsOp CheckSig [] tt (All-nil IsOp)))))

same_ops : (o : Option (List Op)) (some others : List Op) → o ≡ Some some → o ≡ Some others → some ≡ others
same_ops o some others e f = cc

-- opcodes with the bytes of a key hash's script are these
key_opcodes : (ops : List Op) (hash : List ℕ) → All IsOp ops → length (spelling ops) ≤ 10000 → length hash ≡ 20 → spelling ops ≡ key_hash_script hash → ops ≡ key_ops hash
key_opcodes ops hash valid short l e =
    let spelt : key_hash_script hash ≡ spelling (key_ops hash) = ap (λ n. 0x76 ∷ 0xa9 ∷ n ∷ (hash ++ 0x88 ∷ 0xac ∷ [])) (sym l) in
    let same : spelling ops ≡ spelling (key_ops hash) = e ∙ spelt in
    same_ops (script_ops (spelling (key_ops hash))) ops (key_ops hash)
    (ap script_ops (sym same) ∙ parsed_spelling ops valid short)
    (parsed_spelling (key_ops hash) (key_valid hash l) (subst (λ s. length s ≤ 10000) same short))

pub key_items : (spend : Spend) (ops : List Op) (program : List ℕ) (items : List (List ℕ)) (n k : ℕ) → All IsOp ops → length (spelling ops) ≤ 10000 → is_key_program (spelling ops) program ≡ true → outcome spend ops items ≡ Clean n k → length items ≡ 2
key_items spend ops program items n k valid short e run =
    let l = key_length (spelling ops) program e in
    let same : ops ≡ key_ops (drop 2 program) = key_opcodes ops (drop 2 program) valid short l ((bytes_eq-Decides _ _).0 (and_parts _ _ e).1) in
    let clean : outcome_from spend 0 (key_ops (drop 2 program)) (start (reverse items)) ≡ Clean n k = not_long (list_any is_long items) _ n k (ap (λ o. outcome spend o items) (sym same) ∙ run) in
    sym (length-reverse items) ∙ two_items spend (drop 2 program) (reverse items) n k clean
