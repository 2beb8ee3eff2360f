-- CHECKMULTISIG, part by part.
use Rattle.std.proofs.Common.{◌≡◌, ℕ, ◌+◌, ◌<◌, ◌≤◌, Bool, true, false, List, [], ◌∷◌, length, take, drop, reverse, Result, Ok, Err, leb, eqb, sym, ap, ◌∙◌, refl, arith, length-take}
use Rattle.std.proofs.lemmas.List.{length-reverse}
use Rattle.std.specs.List.{list_all}
use Rattle.std.proofs.lemmas.Bool.{le-leb, lt-leb}
use Rattle.script.specs.declared.spending.Spend.{Spend}
use Rattle.script.specs.declared.stops.Cause.{Cause}
use Rattle.script.specs.declared.stops.Cause.TheVariants.{MissingOperand, TooManyOps, FailedCheck}
use Rattle.script.specs.declared.stops.Kind.TheVariants.{KeyCount, SigCount, TokenForm, KeyForm, Extra}
use Rattle.script.specs.Number.{number_of}
use Rattle.script.specs.Token.{is_key, is_signature, assigned}
use Rattle.script.specs.declared.jumps.Jump.TheVariants.{Next}
use Rattle.script.specs.Step.{Elements, Effect, flag, result_if, number_or_failure, count_or_failure, top_elements, top_element, check_sigs_effect, multi_sig, ◌>>=◌}
use Rattle.machine.specs.declared.halts.Halt.{Halt}
use Rattle.machine.specs.declared.halts.Halt.TheVariants.{NoMemory, Stop}
use Rattle.machine.specs.Doings.{IfStop}
use Rattle.machine.specs.MultiSig.{count_operand, Counts, CountsNone, forms_result}
use Rattle.machine.proofs.Past.{result_if-true, result_if-false}

-- what is left when the keys and signatures are taken
pub extra_left : Spend → Elements → Elements → Elements → Result Effect Cause
extra_left spend keys sigs stack = top_element stack >>= (λ p. check_sigs_effect spend (reverse keys) (reverse sigs) p.0 p.1)

-- when the number of signatures is taken
pub sigs_left : Spend → Elements → ℕ → Elements → Result Effect Cause
sigs_left spend keys m stack = top_elements m stack >>= (λ p. extra_left spend keys p.0 p.1)

-- when the keys are taken
pub count_left : Spend → ℕ → Elements → Elements → Result Effect Cause
count_left spend n keys stack = top_element stack >>= (λ p. number_or_failure (number_of 4 p.0) >>= (λ y. count_or_failure n SigCount y >>= (λ m. sigs_left spend keys m p.1)))

-- when the number of keys is taken
pub keys_left : Spend → ℕ → ℕ → Elements → Result Effect Cause
keys_left spend counted n stack = result_if (leb (counted + n) 201) TooManyOps (top_elements n stack) >>= (λ p. count_left spend n p.0 p.1)

assoc : {A B C E : Type 0} (r : Result A E) (f : A → Result B E) (g : B → Result C E) → (r >>= (λ x. f x >>= g)) ≡ ((r >>= f) >>= g)
assoc (Ok x) f g = refl
assoc (Err e) f g = refl

whole : (spend : Spend) (counted : ℕ) (x : List ℕ) (stack : Elements) → multi_sig spend counted (x ∷ stack) ≡ (count_operand 20 KeyCount x >>= (λ n. keys_left spend counted n stack))
unfolding multi_sig keys_left count_left sigs_left extra_left
whole spend counted x stack = assoc (number_or_failure (number_of 4 x)) (count_or_failure 20 KeyCount) (λ n. keys_left spend counted n stack)

module _ (spend : Spend) where
  pub key_count : (counted : ℕ) (old new : Elements) (n : ℕ) → Counts old new 20 KeyCount n → multi_sig spend counted old ≡ keys_left spend counted n new
  key_count counted [] new n h = absurd h
  key_count counted (x ∷ stack) new n h = whole spend counted x stack ∙ ap (λ r. r >>= (λ n. keys_left spend counted n stack)) h.1 ∙ ap (keys_left spend counted n) (sym h.0)

  pub no_key_count : (counted : ℕ) (old : Elements) (c : Cause) → CountsNone old 20 KeyCount c → multi_sig spend counted old ≡ Err c
  unfolding multi_sig
  no_key_count counted [] c h = ap Err (sym h)
  no_key_count counted (x ∷ stack) c h = whole spend counted x stack ∙ ap (λ r. r >>= (λ n. keys_left spend counted n stack)) h

  pub too_many : (counted n : ℕ) (stack : Elements) → 201 < counted + n → keys_left spend counted n stack ≡ Err TooManyOps
  unfolding keys_left
  too_many counted n stack l = ap (λ r. r >>= (λ p. count_left spend n p.0 p.1)) (result_if-false (leb (counted + n) 201) TooManyOps (top_elements n stack) (lt-leb _ 201 l))

  taken_yes : (n : ℕ) (stack : Elements) → n ≤ length stack → top_elements n stack ≡ Ok (take n stack, drop n stack)
  taken_yes n stack l = result_if-true (leb n (length stack)) MissingOperand _ (le-leb n (length stack) l)

  taken_no : (n : ℕ) (stack : Elements) → length stack < n → top_elements n stack ≡ Err MissingOperand
  taken_no n stack l = result_if-false (leb n (length stack)) MissingOperand _ (lt-leb n (length stack) l)

  pub keys_taken : (counted n : ℕ) (stack : Elements) → counted + n ≤ 201 → n ≤ length stack → keys_left spend counted n stack ≡ count_left spend n (take n stack) (drop n stack)
  unfolding keys_left
  keys_taken counted n stack l m = ap (λ r. r >>= (λ p. count_left spend n p.0 p.1)) (result_if-true (leb (counted + n) 201) TooManyOps (top_elements n stack) (le-leb _ 201 l) ∙ taken_yes n stack m)

  pub keys_missing : (counted n : ℕ) (stack : Elements) → counted + n ≤ 201 → length stack < n → keys_left spend counted n stack ≡ Err MissingOperand
  unfolding keys_left
  keys_missing counted n stack l m = ap (λ r. r >>= (λ p. count_left spend n p.0 p.1)) (result_if-true (leb (counted + n) 201) TooManyOps (top_elements n stack) (le-leb _ 201 l) ∙ taken_no n stack m)

  pub sig_count : (n : ℕ) (keys old new : Elements) (m : ℕ) → Counts old new n SigCount m → count_left spend n keys old ≡ sigs_left spend keys m new
  unfolding count_left
  sig_count n keys [] new m h = absurd h
  sig_count n keys (x ∷ stack) new m h = assoc (number_or_failure (number_of 4 x)) (count_or_failure n SigCount) (λ m. sigs_left spend keys m stack) ∙ ap (λ r. r >>= (λ m. sigs_left spend keys m stack)) h.1 ∙ ap (sigs_left spend keys m) (sym h.0)

  pub no_sig_count : (n : ℕ) (keys old : Elements) (c : Cause) → CountsNone old n SigCount c → count_left spend n keys old ≡ Err c
  unfolding count_left
  no_sig_count n keys [] c h = ap Err (sym h)
  no_sig_count n keys (x ∷ stack) c h = assoc (number_or_failure (number_of 4 x)) (count_or_failure n SigCount) (λ m. sigs_left spend keys m stack) ∙ ap (λ r. r >>= (λ m. sigs_left spend keys m stack)) h

  pub sigs_taken : (keys : Elements) (m : ℕ) (stack : Elements) → m ≤ length stack → sigs_left spend keys m stack ≡ extra_left spend keys (take m stack) (drop m stack)
  unfolding sigs_left
  sigs_taken keys m stack l = ap (λ r. r >>= (λ p. extra_left spend keys p.0 p.1)) (taken_yes m stack l)

  pub sigs_missing : (keys : Elements) (m : ℕ) (stack : Elements) → length stack < m → sigs_left spend keys m stack ≡ Err MissingOperand
  unfolding sigs_left
  sigs_missing keys m stack l = ap (λ r. r >>= (λ p. extra_left spend keys p.0 p.1)) (taken_no m stack l)

  pub extra_taken : (keys sigs stack : Elements) (x : List ℕ) (new : Elements) → stack ≡ x ∷ new → extra_left spend keys sigs stack ≡ check_sigs_effect spend (reverse keys) (reverse sigs) x new
  unfolding extra_left
  extra_taken keys sigs stack x new e = ap (λ s. top_element s >>= (λ p. check_sigs_effect spend (reverse keys) (reverse sigs) p.0 p.1)) e

  pub extra_missing : (keys sigs stack : Elements) → stack ≡ [] → extra_left spend keys sigs stack ≡ Err MissingOperand
  unfolding extra_left
  extra_missing keys sigs stack e = ap (λ s. top_element s >>= (λ p. check_sigs_effect spend (reverse keys) (reverse sigs) p.0 p.1)) e

three : {A E : Type 0} (a b d : Bool) (k l m : E) (r : Result A E) → result_if a k (result_if b l (result_if d m r)) ≡ (result_if a k (result_if b l (result_if d m (Ok (tt {0})))) >>= (λ _. r))
three true true true k l m r = refl
three true true false k l m r = refl
three true false d k l m r = refl
three false b d k l m r = refl

-- the forms are checked, and then the signatures
pub forms_first : (spend : Spend) (keys sigs : Elements) (extra : List ℕ) (stack : Elements) → check_sigs_effect spend keys sigs extra stack ≡ (forms_result keys sigs extra >>= (λ _. Ok (record { jump = Next; stack = flag (assigned sigs keys spend.digest) ∷ stack; keys = length keys })))
forms_first spend keys sigs extra stack = three (list_all is_signature sigs) (list_all is_key keys) (eqb (length extra) 0) (FailedCheck TokenForm) (FailedCheck KeyForm) (FailedCheck Extra) (Ok (record { jump = Next; stack = flag (assigned sigs keys spend.digest) ∷ stack; keys = length keys }))

pub if_stop_as : {P Q : Cause → Type 0} (h : Halt) → ((c : Cause) → P c → Q c) → IfStop h P → IfStop h Q
if_stop_as NoMemory f p = tt
if_stop_as (Stop c) f p = f c p

length_front : (n : ℕ) (s : Elements) → n ≤ length s → length (reverse (take n s)) ≡ n
length_front n s l = grind (arith, length-reverse, length-take)

module _ (spend : Spend) (counted : ℕ) (old s1 : Elements) (n : ℕ) (k : Counts old s1 20 KeyCount n) where
  pub many : 201 < counted + n → multi_sig spend counted old ≡ Err TooManyOps
  many l = key_count spend counted old s1 n k ∙ too_many spend counted n s1 l

  pub no_keys : counted + n ≤ 201 → length s1 < n → multi_sig spend counted old ≡ Err MissingOperand
  no_keys l m = key_count spend counted old s1 n k ∙ keys_missing spend counted n s1 l m

  module _ (few : counted + n ≤ 201) (keys s2 : Elements) (t : (n ≤ length s1) × (keys ≡ reverse (take n s1)) × (s2 ≡ drop n s1)) where
    at_count : multi_sig spend counted old ≡ count_left spend n (take n s1) s2
    at_count = key_count spend counted old s1 n k ∙ keys_taken spend counted n s1 few t.0 ∙ ap (count_left spend n (take n s1)) (sym t.2)

    pub no_sig_count_left : (c : Cause) → CountsNone s2 n SigCount c → multi_sig spend counted old ≡ Err c
    no_sig_count_left c h = at_count ∙ no_sig_count spend n (take n s1) s2 c h

    module _ (s3 : Elements) (m : ℕ) (j : Counts s2 s3 n SigCount m) where
      at_sigs : multi_sig spend counted old ≡ sigs_left spend (take n s1) m s3
      at_sigs = at_count ∙ sig_count spend n (take n s1) s2 s3 m j

      pub no_sigs : length s3 < m → multi_sig spend counted old ≡ Err MissingOperand
      no_sigs l = at_sigs ∙ sigs_missing spend (take n s1) m s3 l

      module _ (sigs s4 : Elements) (u : (m ≤ length s3) × (sigs ≡ reverse (take m s3)) × (s4 ≡ drop m s3)) where
        at_extra : multi_sig spend counted old ≡ extra_left spend (take n s1) (take m s3) s4
        at_extra = at_sigs ∙ sigs_taken spend (take n s1) m s3 u.0 ∙ ap (extra_left spend (take n s1) (take m s3)) (sym u.2)

        pub no_extra : s4 ≡ [] → multi_sig spend counted old ≡ Err MissingOperand
        no_extra e = at_extra ∙ extra_missing spend (take n s1) (take m s3) s4 e

        module _ (x : List ℕ) (s5 : Elements) (e : s4 ≡ x ∷ s5) where
          at_forms : multi_sig spend counted old ≡ (forms_result keys sigs x >>= (λ _. Ok (record { jump = Next; stack = flag (assigned sigs keys spend.digest) ∷ s5; keys = length keys })))
          at_forms =
              at_extra
              ∙ extra_taken spend (take n s1) (take m s3) s4 x s5 e
              ∙ ap (λ ks. check_sigs_effect spend ks (reverse (take m s3)) x s5) (sym t.1)
              ∙ ap (λ ss. check_sigs_effect spend keys ss x s5) (sym u.1)
              ∙ forms_first spend keys sigs x s5

          pub bad_forms : (c : Cause) → forms_result keys sigs x ≡ Err c → multi_sig spend counted old ≡ Err c
          bad_forms c h = at_forms ∙ ap (λ r. r >>= (λ _. Ok (record { jump = Next; stack = flag (assigned sigs keys spend.digest) ∷ s5; keys = length keys }))) h

          pub good_forms : (b : Bool) (new : Elements) → forms_result keys sigs x ≡ Ok tt → b ≡ assigned sigs keys spend.digest → new ≡ flag b ∷ s5 → multi_sig spend counted old ≡ Ok (record { jump = Next; stack = new; keys = n })
          good_forms b new h f g =
              at_forms
              ∙ ap (λ r. r >>= (λ _. Ok (record { jump = Next; stack = flag (assigned sigs keys spend.digest) ∷ s5; keys = length keys }))) h
              ∙ rw (g, f) (ap (λ z. Ok (record { jump = Next; stack = flag (assigned sigs keys spend.digest) ∷ s5; keys = z })) (ap length t.1 ∙ length_front n s1 t.0))
