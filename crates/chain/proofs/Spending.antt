-- What the check of an input says, in terms of the blocks.
use Rattle.std.proofs.Common.{◌≡◌, ◌↔◌, ◌⊎◌, inl, inr, ℕ, zero, suc, ◌+◌, ◌<◌, Bool, true, false, not, ◌||◌, ◌==◌, cond, List, [], ◌∷◌, ◌++◌, length, slice_get, Option, Some, None, option_map, Result, Ok, Err, sym, ap, subst, ◌∙◌, refl, arith, add-zero}
use Rattle.std.specs.List.{find, list_any}
use Rattle.std.proofs.lemmas.Bool.{false≢true}
use Rattle.script.specs.Run.{Outcome, Clean, Stopped}
use Rattle.tx.specs.declared.input.OutPoint.{OutPoint}
use Rattle.tx.specs.declared.input.TxIn.{TxIn}
use Rattle.tx.specs.Parts.{Output}
use Rattle.tx.specs.Fields.{Transaction, same_outpoint}
use Rattle.tx.specs.Spelling.{transaction_id}
use Rattle.sighash.specs.Programs.{run_of}
use Rattle.chain.specs.declared.errors.ChainError.{ChainError}
use Rattle.chain.specs.declared.errors.ChainError.TheVariants.{NoMemory, Spent, Unknown, NotFinal, TooYoung, Script, BadProgram}
use Rattle.chain.specs.Blocks.{Contents, Standing, Creation, empty_block, Coin, creations_from, created_by, created_by_all, granted_at, grant_outpoint, grants_in, created_of, is_named}
use Rattle.chain.specs.Locks.{is_final, is_old_enough}
use Rattle.chain.specs.Refusals.{UnlessMemory, Answers}
use Rattle.chain.specs.Checks.{required, run_refusal, coin_refusal, input_refusal}
use Rattle.chain.specs.Spending.{IsOneOf, IsPaid, IsGranted, IsCreated, MaySpend, IsExact}
use Rattle.chain.specs.declared.commands.Command.{Command}
use Rattle.chain.specs.declared.commands.Command.TheVariants as command
use Rattle.chain.specs.declared.commands.Answer.{Answer}
use Rattle.chain.specs.declared.commands.Answer.TheVariants as answer
use Rattle.chain.specs.Replays.{Answered, Replays}
use Rattle.chain.specs.Conserving.{GrantsAreApart}
use Rattle.chain.proofs.Apart.{Nobody, Differ, or_parts, are_apart}
use Rattle.chain.proofs.Conserved.{checked_replay}
use Rattle.chain.proofs.Noting.{same_is, itself, swapped}

in_same : {A : Type 0} (x y : A) (xs : List A) → x ≡ y → IsOneOf y xs → IsOneOf x xs
in_same x y xs e h = subst (λ z. IsOneOf z xs) (sym e) h

in_left : {A : Type 0} (x : A) (xs ys : List A) → IsOneOf x xs → IsOneOf x (xs ++ ys)
in_left x [] ys h = absurd h
in_left x (y ∷ xs) ys (inl e) = inl e
in_left x (y ∷ xs) ys (inr h) = inr (in_left x xs ys h)

in_right : {A : Type 0} (x : A) (xs ys : List A) → IsOneOf x ys → IsOneOf x (xs ++ ys)
in_right x [] ys h = h
in_right x (y ∷ xs) ys h = inr (in_right x xs ys h)

in_either : {A : Type 0} (x : A) (xs ys : List A) → IsOneOf x (xs ++ ys) → IsOneOf x xs ⊎ IsOneOf x ys
in_either x [] ys h = inr h
in_either x (y ∷ xs) ys (inl e) = inl (inl e)
in_either x (y ∷ xs) ys (inr h) = elim (in_either x xs ys h) [ inl l ↦ inl (inr l) | inr r ↦ inr r ]

abbrev created : OutPoint → Output → ℕ → Creation
created o output height = record { outpoint = o; output = output; height = height }

-- the outputs of a transaction, from an index on
to_outputs : (id : List ℕ) (height index k : ℕ) (output : Output) (outputs : List Output) → slice_get outputs k ≡ Some output → IsOneOf (created (record { txid = id; index = index + k }) output height) (creations_from id height index outputs)
to_outputs id height index k output [] e = absurd cc
to_outputs id height index zero output (o ∷ os) e = inl (let same : o ≡ output = (let a = e in cc) in rw (add-zero index, same) refl)
to_outputs id height index (suc k) output (o ∷ os) e =
    let at : index + suc k ≡ (index + 1) + k = omega arith in
    inr (in_same _ _ _ (ap (λ (i : ℕ). created (record { txid = id; index = i }) output height) at) (to_outputs id height (index + 1) k output os e))

abbrev IsFrom : List ℕ → ℕ → ℕ → List Output → Creation → Type 0
IsFrom id height index outputs c = (k : ℕ) × (c.outpoint.txid ≡ id) × (c.outpoint.index ≡ index + k) × (slice_get outputs k ≡ Some c.output) × (c.height ≡ height)

of_outputs : (id : List ℕ) (height index : ℕ) (c : Creation) (outputs : List Output) → IsOneOf c (creations_from id height index outputs) → IsFrom id height index outputs c
of_outputs id height index c [] h = absurd h
of_outputs id height index c (o ∷ os) (inl e) =
    (zero, ap (λ d. d.outpoint.txid) e, ap (λ d. d.outpoint.index) e ∙ omega arith, ap Some (sym (ap (λ d. d.output) e)), ap (λ d. d.height) e)
of_outputs id height index c (o ∷ os) (inr h) =
    let r = of_outputs id height (index + 1) c os h in
    (suc r.0, r.1, r.2 ∙ omega arith, r.3, r.4)

to_transactions : (height : ℕ) (t : Transaction) (c : Creation) (ts : List Transaction) → IsOneOf t ts → IsOneOf c (created_by height t) → IsOneOf c (created_by_all height ts)
to_transactions height t c [] h own = absurd h
to_transactions height t c (x ∷ ts) (inl e) own = in_right c (created_by_all height ts) (created_by height x) (rw e at own)
to_transactions height t c (x ∷ ts) (inr h) own = in_left c (created_by_all height ts) (created_by height x) (to_transactions height t c ts h own)

of_transactions : (height : ℕ) (c : Creation) (ts : List Transaction) → IsOneOf c (created_by_all height ts) → (t : Transaction) × IsOneOf t ts × IsOneOf c (created_by height t)
of_transactions height c [] h = absurd h
of_transactions height c (x ∷ ts) h =
    elim (in_either c (created_by_all height ts) (created_by height x) h) [
      | inl before ↦ let r = of_transactions height c ts before in (r.0, inr r.1, r.2)
      | inr here ↦ (x, inl refl, here)
    ]

to_grants : (height before : ℕ) (output : Output) (later earlier : List Output) → IsOneOf (created (grant_outpoint (before + length earlier)) output height) (granted_at height before (later ++ output ∷ earlier))
to_grants height before output [] earlier = in_right _ (granted_at height before earlier) _ (inl refl)
to_grants height before output (o ∷ later) earlier = in_left _ (granted_at height before (later ++ output ∷ earlier)) _ (to_grants height before output later earlier)

of_grants : (height before : ℕ) (c : Creation) (os : List Output) → IsOneOf c (granted_at height before os) → (later earlier : List Output) × (os ≡ later ++ c.output ∷ earlier) × (c.outpoint ≡ grant_outpoint (before + length earlier)) × (c.height ≡ height)
of_grants height before c [] h = absurd h
of_grants height before c (o ∷ os) h =
    elim (in_either c (granted_at height before os) (created (grant_outpoint (before + length os)) o height ∷ []) h) [
      | inl old ↦ let r = of_grants height before c os old in (o ∷ r.0, r.1, ap (λ xs. o ∷ xs) r.2, r.3, r.4)
      | inr here ↦ elim here [
        | inl e ↦ ([], os, ap (λ (d : Creation). d.output ∷ os) (sym e), ap (λ d. d.outpoint) e, ap (λ d. d.height) e)
        | inr n ↦ absurd n
      ]
    ]

to_created : (blocks : List Contents) (o : OutPoint) (output : Output) (height : ℕ) → IsCreated blocks o output height → IsOneOf (created o output height) (created_of blocks)
to_created [] o output height h = absurd h
to_created (b ∷ older) o output height (inl (e, inl (t, there, id, at))) =
    let n = length older in
    let place : o ≡ record { txid = transaction_id t; index = 0 + o.index } = ap (λ (i : List ℕ). let p : OutPoint = record { txid = i; index = o.index } in p) id ∙ ap (λ (k : ℕ). let p : OutPoint = record { txid = transaction_id t; index = k } in p) (omega arith) in
    let own : IsOneOf (created o output height) (created_by n t) =
    in_same _ _ _ (ap (λ p. created p output height) place ∙ ap (created _ output) e) (to_outputs (transaction_id t) n 0 o.index output t.outputs at) in
    in_right _ (created_of older) _ (in_left _ (created_by_all n b.transactions) _ (to_transactions n t _ b.transactions there own))
to_created (b ∷ older) o output height (inl (e, inr (later, earlier, all, at))) =
    let n = length older in
    in_right _ (created_of older) _ (in_right _ (created_by_all n b.transactions) _
    (in_same _ _ _ (ap (λ p. created p output height) at ∙ ap (created _ output) e) (subst (λ os. IsOneOf (created (grant_outpoint (grants_in older + length earlier)) output n) (granted_at n (grants_in older) os)) (sym all) (to_grants n (grants_in older) output later earlier))))
to_created (b ∷ older) o output height (inr h) = in_left _ (created_of older) _ (to_created older o output height h)

of_created : (blocks : List Contents) (c : Creation) → IsOneOf c (created_of blocks) → IsCreated blocks c.outpoint c.output c.height
of_created [] c h = absurd h
of_created (b ∷ older) c h =
    let n = length older in
    elim (in_either c (created_of older) _ h) [
      | inl old ↦ inr (of_created older c old)
      | inr new ↦ elim (in_either c (created_by_all n b.transactions) (granted_at n (grants_in older) b.granted) new) [
        | inl paid ↦
            let t = of_transactions n c b.transactions paid in
            let f = of_outputs (transaction_id t.0) n 0 c t.0.outputs t.2 in
            inl (f.4, inl (t.0, t.1, f.1, ap (slice_get t.0.outputs) (f.2 ∙ omega arith) ∙ f.3))
        | inr given ↦
            let g = of_grants n (grants_in older) c b.granted given in
            inl (g.4, inr (g.0, g.1, g.2, g.3))
      ]
    ]

abbrev found : OutPoint → List Creation → Option Creation
found o list = find (λ c. same_outpoint c.outpoint o) list

first_is : (b : Bool) (x c : Creation) (rest : Option Creation) → cond b (Some x) rest ≡ Some c → ((b ≡ true) × (x ≡ c)) ⊎ (rest ≡ Some c)
first_is true x c rest e = inl (refl, let a = e in cc)
first_is false x c rest e = inr e

-- what is found is one of them, and has the outpoint
found_one : (o : OutPoint) (list : List Creation) (c : Creation) → found o list ≡ Some c → IsOneOf c list × (c.outpoint ≡ o)
found_one o [] c e = absurd cc
found_one o (x ∷ xs) c e =
    elim (first_is (same_outpoint x.outpoint o) x c (found o xs) e) [
      | inl h ↦ (inl (sym h.1), ap (λ d. d.outpoint) (sym h.1) ∙ same_is x.outpoint o h.0)
      | inr h ↦ let r = found_one o xs c h in (inr r.0, r.1)
    ]

nobody_there : (c : Creation) (o : OutPoint) (list : List Creation) → IsOneOf c list → c.outpoint ≡ o → Nobody o list → ⊥
nobody_there c o [] h e none = h
nobody_there c o (x ∷ xs) (inl same) e none =
    let parts = or_parts (same_outpoint x.outpoint o) (list_any (λ d. same_outpoint d.outpoint o) xs) none in
    false≢true (sym parts.0 ∙ ap (λ p. same_outpoint p o) (ap (λ d. d.outpoint) (sym same) ∙ e) ∙ itself o)
nobody_there c o (x ∷ xs) (inr h) e none = nobody_there c o xs h e (or_parts (same_outpoint x.outpoint o) (list_any (λ d. same_outpoint d.outpoint o) xs) none).1

other_outpoint : (b : Bool) → (b ≡ true → ⊥) → b ≡ false
other_outpoint true never = absurd (never refl)
other_outpoint false never = refl

-- where no two have the same outpoint, each is found at its own
one_found : (o : OutPoint) (list : List Creation) (c : Creation) → Differ list → IsOneOf c list → c.outpoint ≡ o → found o list ≡ Some c
one_found o [] c apart h e = absurd h
one_found o (x ∷ xs) c apart (inl same) e =
    let here : same_outpoint x.outpoint o ≡ true = ap (λ p. same_outpoint p o) (ap (λ d. d.outpoint) (sym same) ∙ e) ∙ itself o in
    rw here (ap Some (sym same))
one_found o (x ∷ xs) c apart (inr h) e =
    let other = other_outpoint (same_outpoint x.outpoint o) (λ s. nobody_there c x.outpoint xs h (e ∙ sym (same_is x.outpoint o s)) apart.0) in
    rw other (one_found o xs c apart.1 h e)

-- an answer, where memory is ample
abbrev answer_of : Option ChainError → Result (Unit {0}) ChainError
answer_of None = Ok tt
answer_of (Some e) = Err e

answered : (x : Option ChainError) (r : Result (Unit {0}) ChainError) → Answers x r → (r ≡ Err NoMemory → ⊥) → r ≡ answer_of x
answered x (Ok u) h never = sym (ap answer_of h)
answered x (Err NoMemory) h never = absurd (never refl)
answered x (Err e) h never = sym (ap answer_of h)

-- what is checked of an output that no input spends
abbrev late_refusal : Bool → Bool → Option Outcome → Option ChainError
late_refusal final old run = required final NotFinal (required old TooYoung (run_refusal run))

late_passes : (final old : Bool) (run : Option Outcome) → answer_of (late_refusal final old run) ≡ Ok tt → (final ≡ true) × (old ≡ true) × (counted depth : ℕ) × (run ≡ Some (Clean counted depth))
late_passes true true (Some (Clean counted depth)) e = (refl, refl, counted, depth, refl)
late_passes true true (Some (Stopped at cause)) e = absurd cc
late_passes true true None e = absurd cc
late_passes true false run e = absurd cc
late_passes false old run e = absurd cc

late_spent : (final old : Bool) (run : Option Outcome) → answer_of (late_refusal final old run) ≡ Err Spent → ⊥
late_spent true true (Some (Clean counted depth)) e = cc
late_spent true true (Some (Stopped at cause)) e = cc
late_spent true true None e = cc
late_spent true false run e = cc
late_spent false old run e = cc

late_unknown : (final old : Bool) (run : Option Outcome) → answer_of (late_refusal final old run) ≡ Err Unknown → ⊥
late_unknown true true (Some (Clean counted depth)) e = cc
late_unknown true true (Some (Stopped at cause)) e = cc
late_unknown true true None e = cc
late_unknown true false run e = cc
late_unknown false old run e = cc

-- where nothing was created
exact_none : (blocks : List Contents) (t : Transaction) (input : TxIn) (r : Result (Unit {0}) ChainError) → r ≡ Err Unknown → ((output : Output) (height : ℕ) → IsCreated blocks input.outpoint output height → ⊥) → IsExact blocks t input r
exact_none blocks t input r e nothing = record {
  passes = (λ f. absurd cc, λ m. absurd (nothing m.0 m.1 m.2.created));
  unknown = (λ f. nothing, λ f. e);
  spent = (λ f. absurd cc, λ m. absurd (nothing m.0 m.1 m.2));
}

-- where an output was created, and no other
abbrev IsOnly : List Contents → OutPoint → Output → ℕ → Type 0
IsOnly blocks o output height = IsCreated blocks o output height × ((other : Output) (at : ℕ) → IsCreated blocks o other at → (other ≡ output) × (at ≡ height))

exact_named : (blocks : List Contents) (t : Transaction) (input : TxIn) (r : Result (Unit {0}) ChainError) (output : Output) (height : ℕ) → IsOnly blocks input.outpoint output height → is_named blocks input.outpoint ≡ true → r ≡ Err Spent → IsExact blocks t input r
exact_named blocks t input r output height only named e = record {
  passes = (λ f. absurd cc, λ m. absurd (false≢true (sym m.2.unnamed ∙ named)));
  unknown = (λ f. absurd cc, λ nothing. absurd (nothing output height only.0));
  spent = (λ f. (output, height, only.0, named), λ m. e);
}

exact_unnamed : (blocks : List Contents) (t : Transaction) (input : TxIn) (r : Result (Unit {0}) ChainError) (output : Output) (height : ℕ) → IsOnly blocks input.outpoint output height → is_named blocks input.outpoint ≡ false → r ≡ answer_of (late_refusal (is_final (length blocks) t.lock_time t.inputs) (is_old_enough (length blocks) t.version input.sequence height) (run_of t input output)) → IsExact blocks t input r
exact_unnamed blocks t input r output height only unnamed e =
    let final = is_final (length blocks) t.lock_time t.inputs in
    let old = is_old_enough (length blocks) t.version input.sequence height in
    let run = run_of t input output in
    record {
      passes = (
        λ f. let p = late_passes final old run (sym e ∙ f) in (output, height, record { created = only.0; unnamed = unnamed; final = p.0; old_enough = p.1; clean = (p.2, p.3, p.4) }),
        λ m. let same = only.1 m.0 m.1 m.2.created in
            e ∙ all_passed final old run m.2.final (ap (is_old_enough (length blocks) t.version input.sequence) (sym same.1) ∙ m.2.old_enough) m.2.clean.0 m.2.clean.1 (ap (run_of t input) (sym same.0) ∙ m.2.clean.2),
      );
      unknown = (λ f. absurd (late_unknown final old run (sym e ∙ f)), λ nothing. absurd (nothing output height only.0));
      spent = (λ f. absurd (late_spent final old run (sym e ∙ f)), λ m. absurd (false≢true (sym unnamed ∙ m.3)));
    }
  where
    all_passed : (final old : Bool) (run : Option Outcome) → final ≡ true → old ≡ true → (counted depth : ℕ) → run ≡ Some (Clean counted depth) → answer_of (late_refusal final old run) ≡ Ok tt
    all_passed final old run e f counted depth g = rw (e, f, g) refl

by_name : (blocks : List Contents) (t : Transaction) (input : TxIn) (r : Result (Unit {0}) ChainError) (c : Creation) (named : Bool) → is_named blocks input.outpoint ≡ named → IsOnly blocks input.outpoint c.output c.height
    → r ≡ answer_of (coin_refusal (length blocks) t input (Some (record { output = c.output; height = c.height; spent = named }))) → IsExact blocks t input r
by_name blocks t input r c true n only e = exact_named blocks t input r c.output c.height only n e
by_name blocks t input r c false n only e = exact_unnamed blocks t input r c.output c.height only n e

same_creation : (c d : Creation) → Some c ≡ Some d → c ≡ d
same_creation c d e = cc

exact_at : (blocks : List Contents) (t : Transaction) (input : TxIn) (r : Result (Unit {0}) ChainError) (x : Option Creation) → Differ (created_of blocks) → found input.outpoint (created_of blocks) ≡ x
    → r ≡ answer_of (coin_refusal (length blocks) t input (option_map (λ (c : Creation). let d : Coin = record { output = c.output; height = c.height; spent = is_named blocks input.outpoint } in d) x)) → IsExact blocks t input r
exact_at blocks t input r None apart f e =
    exact_none blocks t input r e (λ output height h. let a = one_found input.outpoint (created_of blocks) (created input.outpoint output height) apart (to_created blocks input.outpoint output height h) refl in cc)
exact_at blocks t input r (Some c) apart f e =
    let own = found_one input.outpoint (created_of blocks) c f in
    let there : IsCreated blocks input.outpoint c.output c.height = subst (λ o. IsCreated blocks o c.output c.height) own.1 (of_created blocks c own.0) in
    let same : (other : Output) (at : ℕ) → IsCreated blocks input.outpoint other at → created input.outpoint other at ≡ c = λ other at h.
    same_creation (created input.outpoint other at) c (sym (one_found input.outpoint (created_of blocks) (created input.outpoint other at) apart (to_created blocks input.outpoint other at h) refl) ∙ f) in
    by_name blocks t input r c (is_named blocks input.outpoint) refl (there, λ other at h. (ap (λ d. d.output) (same other at h), ap (λ d. d.height) (same other at h))) e

pub checked_exactly : (commands : List Command) (answers : List Answer) (s : Standing) → Replays (record { blocks = empty_block ∷ []; greatest = 0 }) commands answers s → GrantsAreApart s.blocks → (t : Transaction) (index : ℕ) (input : TxIn) → slice_get t.inputs index ≡ Some input → (r : Result (Unit {0}) ChainError) → Answered s (command.CheckInput t index) (answer.CheckInput r) s → (r ≡ Err NoMemory → ⊥) → IsExact s.blocks t input r
checked_exactly commands answers s replays grants t index input at r a never =
    let apart = are_apart s.blocks (checked_replay (record { blocks = empty_block ∷ []; greatest = 0 }) commands answers s replays refl) grants in
    let b : Answers (input_refusal s.blocks (length s.blocks) t input) r = rw at at a.1 in
    exact_at s.blocks t input r (found input.outpoint (created_of s.blocks)) apart refl (answered (input_refusal s.blocks (length s.blocks) t input) r b never)
