-- Whatever fits a claim that was accepted meets its path.
use Rattle.std.proofs.Common.{◌≡◌, ℕ, ◌<◌, ◌≤◌, Bool, true, false, ◌||◌, not, eqb, List, [], ◌∷◌, length, reverse, Option, Some, None, sym, ap, subst, ◌∙◌, refl, arith}
use Rattle.std.specs.Prelude.{slice_get, if◌then◌else◌, unwrap_or, Result, Ok, Err, All, ok_or}
use Rattle.std.specs.Str.{bytes_eq}
use Rattle.std.specs.List.{list_any}
use Rattle.std.proofs.lemmas.Bool.{or_from, le-ltb, eqb-true, false≢true}
use Rattle.std.proofs.lemmas.List.{length-reverse, reverse-append}
use Rattle.std.proofs.lemmas.List.Folds.{list_any-append}
use Rattle.digest.specs.Hash.{hash160}
use Rattle.std.proofs.lemmas.List.Elements.{All-get_or}
use Rattle.std.proofs.lemmas.Option.{get_or_from_slice_get, slice_get_within}
use Rattle.script.specs.Step.{Elements, truth, result_if, ◌>>=◌}
use Rattle.script.specs.Run.{is_long, Outcome, Clean, outcome}
use Rattle.script.specs.Spelling.{IsOp, spelling}
use Rattle.script.specs.declared.spending.Spend.{Spend}
use Rattle.script.specs.declared.opcode.Op.{Op}
use Rattle.facts.specs.Symbols.{Fact}
use Rattle.facts.specs.declared.symbols.FactOver.TheVariants.{Hash, Size, Truth, Is, KeyForm, Form, Token, Assigned, Lock, Age}
use Rattle.facts.specs.Symbols.{Stated}
use Rattle.facts.specs.Meaning.{holds_of, AllStated, Meets}
use Rattle.facts.specs.Sameness.{contradicts}
use Rattle.paths.specs.declared.state.Path.{Path}
use Rattle.paths.specs.Listing.{CheckedScript, greatest_lock_in, greatest_age_in}
use Rattle.paths.specs.Sound.{IsSound}
use Rattle.claim.specs.declared.parts.Slot.{Slot}
use Rattle.claim.specs.declared.parts.Slot.TheVariants.{Sig, Preimage, Exact}
use Rattle.claim.specs.declared.parts.Place.{Place}
use Rattle.claim.specs.declared.parts.Shell.{Shell}
use Rattle.tx.specs.declared.input.TxIn.{TxIn}
use Rattle.tx.specs.Parts.{Output}
use Rattle.tx.specs.Fields.{Transaction}
use Rattle.sha2.proofs.Facts256.{length-sha256}
use Rattle.sighash.specs.Programs.{spend_of, given_of, script_ops, run_of}
use Rattle.claim.specs.declared.errors.AcceptError.{AcceptError}
use Rattle.claim.specs.declared.errors.AcceptError.TheVariants.{WrongArity, Unmet, Contradiction, WrongProgram, WrongShell, NoSuchPath}
use Rattle.claim.specs.Evidence.{hash_evidence, size_evidence, truth_evidence, bytes_evidence, form_evidence, key_form_evidence, evidence_of}
use Rattle.claim.specs.Fitting.{FillsSlot, FillsSlots, Fits, output_at, Spends}
use Rattle.claim.specs.Judgement.{has_polarity, is_met, first_unmet_or, is_program, is_shell, known_digest, judgement_of_path, judgement_of}
use Rattle.claim.proofs.Shells.{round_of}
use Rattle.sighash.proofs.Parsing.{parsed_spelling}
use Rattle.claim.proofs.KeyHash.{key_items}
use Rattle.claim.proofs.Growing.{clean-items}
use Rattle.claim.proofs.Opening.{given}
use Rattle.claim.proofs.Telling.{Known, Tells, hash-tells, size-tells, truth-tells, is-tells, form-tells, key_form-tells}
use Rattle.claim.proofs.TokenForms.{token-length, key-length}
use Rattle.claim.proofs.Filled.{slot-tells, token_evidence-tells, assigned_evidence-tells, filled-length}
use Rattle.claim.proofs.Locks.{LockWithin, AgeWithin, lock-within, age-within, age-small, lock-tells, age-tells}

-- what a fact asks of a spend
pub record Timed (o : Option (List ℕ)) (spend : Spend) : Type 0 where
  pub digest : length spend.digest ≡ 32
  pub known : Known o spend.digest
  pub version : spend.version ≡ 2
  pub height : spend.lock_time < 500000000
  pub small : spend.sequence < 65536

evidence_of-tells : (spend : Spend) (known : Option (List ℕ)) (slots : List Slot) (w : Elements) → Timed known spend → FillsSlots spend slots w → (fact : Fact) → LockWithin spend.lock_time fact → AgeWithin spend.sequence fact → Tells (evidence_of known slots fact) (holds_of spend w fact)
evidence_of-tells spend known slots w t f (Hash i h) l a = slot-tells spend (hash_evidence known h) (λ x. bytes_eq (hash160 x) h) (λ slot x. hash-tells spend known h slot x t.known) slots w f i
evidence_of-tells spend known slots w t f (Size i n) l a = slot-tells spend (size_evidence n) (λ x. eqb (length x) n) (λ slot x. size-tells spend n slot x t.digest) slots w f i
evidence_of-tells spend known slots w t f (Truth i) l a = slot-tells spend truth_evidence truth (λ slot x. truth-tells spend slot x t.digest) slots w f i
evidence_of-tells spend known slots w t f (Is i c) l a = slot-tells spend (bytes_evidence known c) (λ x. bytes_eq x c) (λ slot x. is-tells spend known c slot x t.digest t.known) slots w f i
evidence_of-tells spend known slots w t f (KeyForm i) l a = slot-tells spend key_form_evidence _ (λ slot x. key_form-tells spend slot x t.digest) slots w f i
evidence_of-tells spend known slots w t f (Form i) l a = slot-tells spend form_evidence _ (λ slot x. form-tells spend slot x t.digest) slots w f i
evidence_of-tells spend known slots w t f (Token i key) l a = token_evidence-tells spend known slots w t.digest t.known f i key
evidence_of-tells spend known slots w t f (Assigned is keys) l a = assigned_evidence-tells spend known slots w t.digest t.known f is keys
evidence_of-tells spend known slots w t f (Lock n) l a = lock-tells spend n t.height l t.small
evidence_of-tells spend known slots w t f (Age n) l a = age-tells spend n t.version t.small a

as_stated : (h : Bool) (o : Option Bool) (t : Bool) → has_polarity h o ≡ true → Tells o t → t ≡ h
as_stated h None t e f = absurd (false≢true e)
as_stated true (Some true) t e f = f
as_stated true (Some false) t e f = f ∙ e
as_stated false (Some true) t e f = f ∙ sym e
as_stated false (Some false) t e f = f

pub met_by : (b : Bool) (s : Stated) (r : Result Path AcceptError) (q : Path) → (if b then r else Err (Unmet s)) ≡ Ok q → (b ≡ true) × (r ≡ Ok q)
met_by true s r q e = (refl, e)
met_by false s r q e = absurd (cc)

-- each fact of the list, where the locks are reached
pub met-stated : (spend : Spend) (known : Option (List ℕ)) (slots : List Slot) (w : Elements) → Timed known spend → FillsSlots spend slots w → (facts : List Stated) (p q : Path) → unwrap_or (greatest_lock_in facts) 0 ≤ spend.lock_time → unwrap_or (greatest_age_in facts) 0 ≤ spend.sequence → first_unmet_or known slots facts p ≡ Ok q → AllStated spend w facts
met-stated spend known slots w t f [] p q l a e = tt
met-stated spend known slots w t f (s ∷ facts) p q l a e =
    let lock = lock-within spend.lock_time s.fact (greatest_lock_in facts) l in
    let age = age-within spend.sequence s.fact (greatest_age_in facts) a in
    let met = met_by (is_met known slots s) s (first_unmet_or known slots facts p) q e in (
      as_stated s.holds (evidence_of known slots s.fact) _ met.0 (evidence_of-tells spend known slots w t f s.fact lock.1 age.1),
      met-stated spend known slots w t f facts p q lock.0 age.0 met.1,
    )

is_short : (x : List ℕ) → length x ≤ 520 → is_long x ≡ false
is_short x l = le-ltb 520 (length x) l

filled-short_here : (spend : Spend) (slot : Slot) (x : List ℕ) → length spend.digest ≡ 32 → FillsSlot spend slot x → is_long x ≡ false
filled-short_here spend (Sig k) x e f = is_short x (omega (arith, ap length f, token-length k.bytes spend.digest e, key-length k.bytes k.form))
filled-short_here spend (Preimage ph) x e f = is_short x (omega (arith, f.0))
filled-short_here spend (Exact b) x e f = is_short x (omega (arith, ap length f, b.short))

filled-short : (spend : Spend) (slots : List Slot) (w : Elements) → length spend.digest ≡ 32 → FillsSlots spend slots w → list_any is_long w ≡ false
filled-short spend [] [] e f = refl
filled-short spend [] (x ∷ w) e f = absurd f
filled-short spend (slot ∷ slots) [] e f = absurd f
filled-short spend (slot ∷ slots) (x ∷ w) e f = or_from (is_long x) (list_any is_long w) (filled-short_here spend slot x e f.0) (filled-short spend slots w e f.1)

one_more : (a b : Bool) → (a || b) ≡ (b || (a || false))
one_more true true = refl
one_more true false = refl
one_more false true = refl
one_more false false = refl

any-reverse : {X : Type 0} (p : X → Bool) (xs : List X) → list_any p xs ≡ list_any p (reverse xs)
any-reverse p [] = refl
any-reverse p (x ∷ xs) =
    ap (λ t. p x || t) (any-reverse p xs)
    ∙ one_more (p x) (list_any p (reverse xs))
    ∙ sym (ap (list_any p) (reverse-append (x ∷ []) xs) ∙ list_any-append p (reverse xs) (x ∷ []))

-- the items of what fits, and the digest
abbrev fits_spend : CheckedScript → Place → Transaction → TxIn → Spend
fits_spend ways place t input = spend_of t input (spelling ways.ops) place.value

-- what an accepted path has
pub record IsJudged (ways : CheckedScript) (index : ℕ) (slots : List Slot) (place : Place) (shell : Shell) (p : Path) : Type 0 where
  pub at : slice_get ways.paths index ≡ Some p
  pub arity : length slots ≡ p.arity
  pub program : is_program (spelling ways.ops) place.program ≡ true
  pub stands : is_shell p place shell ≡ true
  pub met : first_unmet_or (known_digest (spelling ways.ops) place shell) slots p.facts p ≡ Ok p

-- a path's facts, which it lists with their locks, are met by whatever fits
fits-meets : (ways : CheckedScript) (index : ℕ) (slots : List Slot) (place : Place) (shell : Shell) (p : Path) → IsJudged ways index slots place shell p → IsSound ways.ops p → (t : Transaction) (input : TxIn) (f : Fits (spelling ways.ops) p slots place shell t input) → Meets (fits_spend ways place t input) f.items p.arity p.facts
fits-meets ways index slots place shell p j s t input f =
    let spend = fits_spend ways place t input in
    let round = round_of p place shell (spelling ways.ops) t input j.stands f.among f.stands in
    let digest : length spend.digest ≡ 32 = length-sha256 _ in
    let same : spend.sequence ≡ unwrap_or (greatest_age_in p.facts) 0 = f.sequence ∙ ap (λ o. unwrap_or o 0) s.age in
    let small : spend.sequence < 65536 = omega (arith, age-small p.facts) in
    let reached : unwrap_or (greatest_lock_in p.facts) 0 ≤ spend.lock_time = subst (λ o. unwrap_or o 0 ≤ spend.lock_time) s.lock round.reached in
    let aged : unwrap_or (greatest_age_in p.facts) 0 ≤ spend.sequence = omega arith in
    record {
      exact = sym (length-reverse f.items) ∙ filled-length spend slots (reverse f.items) f.filled ∙ j.arity;
      short = any-reverse is_long f.items ∙ filled-short spend slots (reverse f.items) digest f.filled;
      holds = met-stated spend (known_digest (spelling ways.ops) place shell) slots (reverse f.items) (record { digest = digest; known = round.known; version = round.version; height = round.height; small = small }) f.filled p.facts p p reached aged j.met;
    }

met-same : (known : Option (List ℕ)) (slots : List Slot) (facts : List Stated) (p q : Path) → first_unmet_or known slots facts p ≡ Ok q → p ≡ q
met-same known slots [] p q e = cc
met-same known slots (s ∷ facts) p q e = met-same known slots facts p q (met_by (is_met known slots s) s (first_unmet_or known slots facts p) q e).1

past_check : (b : Bool) (c : AcceptError) (r : Result Path AcceptError) (q : Path) → result_if b c r ≡ Ok q → (b ≡ true) × (r ≡ Ok q)
past_check true c r q e = (refl, e)
past_check false c r q e = absurd (cc)

judgement_of-at : (ways : CheckedScript) (index : ℕ) (slots : List Slot) (place : Place) (shell : Shell) (p q : Path) → slice_get ways.paths index ≡ Some p → judgement_of_path (spelling ways.ops) slots place shell p ≡ Ok q → IsJudged ways index slots place shell q
judgement_of-at ways index slots place shell p q at e =
    let n = past_check (eqb (length slots) p.arity) WrongArity _ q e in
    let w = past_check (is_program (spelling ways.ops) place.program) WrongProgram _ q n.1 in
    let r = past_check (is_shell p place shell) WrongShell _ q w.1 in
    let c = past_check (not (contradicts p.facts)) Contradiction _ q r.1 in
    let same = met-same (known_digest (spelling ways.ops) place shell) slots p.facts p q c.1 in
    subst (IsJudged ways index slots place shell) same (record { at = at; arity = eqb-true _ _ n.0; program = w.0; stands = r.0; met = c.1 ∙ ap Ok (sym same) })

judged_by : (ways : CheckedScript) (index : ℕ) (slots : List Slot) (place : Place) (shell : Shell) (o : Option Path) (q : Path) → slice_get ways.paths index ≡ o → (ok_or o NoSuchPath >>= judgement_of_path (spelling ways.ops) slots place shell) ≡ Ok q → IsJudged ways index slots place shell q
judged_by ways index slots place shell None q at e = absurd (cc)
judged_by ways index slots place shell (Some p) q at e = judgement_of-at ways index slots place shell p q at e

pub judgement_of-ok : (ways : CheckedScript) (index : ℕ) (slots : List Slot) (place : Place) (shell : Shell) (q : Path) → judgement_of ways index slots place shell ≡ Ok q → IsJudged ways index slots place shell q
unfolding judgement_of
judgement_of-ok ways index slots place shell q e = judged_by ways index slots place shell (slice_get ways.paths index) q refl e

pub sound-at : (ops : List Op) (paths : List Path) (index : ℕ) (p : Path) → All (IsSound ops) paths → slice_get paths index ≡ Some p → IsSound ops p
sound-at ops paths index p all at = subst (IsSound ops) (get_or_from_slice_get paths index p p at) (All-get_or (IsSound ops) paths index p (slice_get_within paths index p at) all)

run_as : (t : Transaction) (input : TxIn) (output : Output) (script : List ℕ) (items : List (List ℕ)) (ops : List Op) (o : Outcome) → given_of output.script input.witness ≡ Some (record { script = script; items = items }) → script_ops script ≡ Some ops → outcome (spend_of t input script output.value) ops items ≡ o → run_of t input output ≡ Some o
unfolding run_of
run_as t input output script items ops o e f g = rw (e, f) (ap Some g)

-- the run of the place's program on the witness of what fits
fits-runs : (ways : CheckedScript) (index : ℕ) (slots : List Slot) (place : Place) (shell : Shell) (p : Path) → All IsOp ways.ops → length (spelling ways.ops) ≤ 10000 → IsJudged ways index slots place shell p → IsSound ways.ops p → (t : Transaction) (input : TxIn) → Fits (spelling ways.ops) p slots place shell t input → run_of t input (output_at place) ≡ Some (Clean p.ops p.height)
fits-runs ways index slots place shell p valid short j s t input f =
    let script = spelling ways.ops in
    let clean = s.clean (fits_spend ways place t input) f.items (fits-meets ways index slots place shell p j s t input f) in
    run_as t input (output_at place) script f.items ways.ops (Clean p.ops p.height)
    (ap (given_of place.program) f.witness ∙ given place.program script f.items j.program (λ k. key_items (fits_spend ways place t input) ways.ops place.program f.items p.ops p.height valid short k clean))
    (parsed_spelling ways.ops valid short) clean

-- an accepted path of a sound script spends the output
pub judgement_of-opens : (ways : CheckedScript) (index : ℕ) (slots : List Slot) (place : Place) (shell : Shell) (p : Path) → All IsOp ways.ops → length (spelling ways.ops) ≤ 10000 → All (IsSound ways.ops) ways.paths → judgement_of ways index slots place shell ≡ Ok p → Spends ways.ops p slots place shell
judgement_of-opens ways index slots place shell p valid short all e =
    let j = judgement_of-ok ways index slots place shell p e in
    let s : IsSound ways.ops p = sound-at ways.ops ways.paths index p all j.at in
    record {
      meets = fits-meets ways index slots place shell p j s;
      clean = fits-runs ways index slots place shell p valid short j s;
      short = λ t input f. let clean = s.clean (fits_spend ways place t input) f.items (fits-meets ways index slots place shell p j s t input f) in let low = clean-items (fits_spend ways place t input) ways.ops f.items p.ops p.height clean in omega (arith, low, s.low);
      few = s.few;
      low = s.low;
    }
