-- The two laws: the bytes spell what is read, and what they spell is read.
use Rattle.std.proofs.Common.{◌≡◌, ℕ, ◌^◌, ◌<◌, Bool, true, false, not, ◌||◌, cond, eqb, List, [], ◌∷◌, ◌++◌, length, map, Result, Ok, Err, refl, sym, ap, subst, ◌∙◌, append_assoc, arith}
use Rattle.std.specs.Prelude.{IfOk}
use Rattle.std.specs.List.{flat_map, AllByRecursion}
use Rattle.std.proofs.lemmas.Bool.{eqb-true}
use Rattle.std.proofs.lemmas.List.{append-nil, nil_from_length}
use Rattle.tx.specs.declared.errors.DecodeError.{DecodeError}
use Rattle.tx.specs.declared.errors.DecodeError.TheVariants.{NoWitness, Trailing}
use Rattle.tx.specs.declared.input.TxIn.{TxIn}
use Rattle.tx.specs.Parts.{IsWitness, Output, IsOutput}
use Rattle.tx.specs.Fields.{IsInput, Transaction, KeepsLimits, has_witness}
use Rattle.tx.specs.Spelling.{number, compact_size, input, output, witnesses, body, spelling, stripped_spelling, IsTransaction, IsStripped}
use Rattle.tx.specs.Reading.{◌>>=◌, Gives, number_at, inputs_at, outputs_at, signed_inputs_at, witnesses_at, end_at, version_at, reading, stripped_reading}
use Rattle.tx.proofs.Numbers.{IsBytes, bind_ok, guard_passed, ok_is, Takes}
use Rattle.tx.proofs.Counts.{IsCounted}
use Rattle.tx.proofs.Parts.{u32_reads, IsUnsigned, bare, inputs_reads, outputs_reads, Signed, each_takes, each_again, bare_are, bare_text, bare_count, version_reads, SomeInputs, FewOutputs}

abbrev done : {A : Type 0} → A → Result A DecodeError
done x = Ok x

abbrev transaction_of : ℕ → List TxIn → List Output → ℕ → Transaction
transaction_of version inputs outputs lock_time = record { version = version; inputs = inputs; outputs = outputs; lock_time = lock_time }

-- ---- witnesses, of which one has an item

witnesses_take : (is : List TxIn) (bytes : List ℕ) (x : List TxIn × List ℕ) → IsBytes bytes → AllByRecursion IsUnsigned is → witnesses_at is bytes ≡ Ok x
    → Takes bytes (witnesses x.0) x.1 × Signed is x.0 × (has_witness x.0 ≡ true)
unfolding witnesses_at
witnesses_take is bytes x fits good e =
    let a = bind_ok (signed_inputs_at is bytes) (λ inputs. cond (has_witness inputs.0) (Ok inputs) (Err NoWitness)) x e in
    let g = guard_passed (has_witness a.0.0) NoWitness (done a.0) x a.2 in
    let t = each_takes is bytes a.0 fits good a.1 in
    subst (λ (p : List TxIn × List ℕ). Takes bytes (witnesses p.0) p.1 × Signed is p.0 × (has_witness p.0 ≡ true)) (ok_is a.0 x g.1) (t.0, t.1, g.0)

witnesses_again : (is : List TxIn) (rest : List ℕ) → AllByRecursion IsInput is → has_witness is ≡ true → witnesses_at (map bare is) (witnesses is ++ rest) ≡ Ok (is, rest)
unfolding witnesses_at
witnesses_again is rest good signed = rw (each_again is rest good, signed) refl

-- ---- the end

end_is : (bytes : List ℕ) (t u : Transaction) → end_at bytes t ≡ Ok u → (bytes ≡ []) × (t ≡ u)
unfolding end_at
end_is bytes t u e =
    let g = guard_passed (eqb (length bytes) 0) Trailing (done t) u e in
    (nil_from_length bytes (eqb-true _ _ g.0), ok_is t u g.1)

-- ---- the whole

-- the parts in their order, grouped as they are read
grouped : (v is os ws lock : List ℕ) (n m : ℕ) → (v ++ (0 ∷ 1 ∷ [])) ++ ((compact_size n ++ is) ++ ((compact_size m ++ os) ++ (ws ++ (lock ++ []))))
    ≡ v ++ (0 ∷ 1 ∷ []) ++ (compact_size n ++ is ++ compact_size m ++ os) ++ ws ++ lock
grouped v is os ws lock n m = simp (append_assoc, append-nil)

spelled_parts : (t : Transaction) → spelling t ≡ (number 4 t.version ++ (0 ∷ 1 ∷ [])) ++ ((compact_size (length t.inputs) ++ flat_map input t.inputs) ++ ((compact_size (length t.outputs) ++ flat_map output t.outputs) ++ (witnesses t.inputs ++ (number 4 t.lock_time ++ []))))
unfolding spelling body
spelled_parts t = sym (grouped (number 4 t.version) (flat_map input t.inputs) (flat_map output t.outputs) (witnesses t.inputs) (number 4 t.lock_time) (length t.inputs) (length t.outputs))

assembled : (bytes : List ℕ) (version : ℕ) (a : List ℕ) (unsigned : List TxIn) (b : List ℕ) (outputs : List Output) (c : List ℕ) (inputs : List TxIn) (d : List ℕ) (lock_time : ℕ) (f : List ℕ)
    → Takes bytes (number 4 version ++ (0 ∷ 1 ∷ [])) a → version < 2 ^ 32
    → Takes a (compact_size (length unsigned) ++ flat_map input unsigned) b → IsCounted SomeInputs IsUnsigned unsigned
    → Takes b (compact_size (length outputs) ++ flat_map output outputs) c → IsCounted FewOutputs IsOutput outputs
    → Takes c (witnesses inputs) d → Signed unsigned inputs → has_witness inputs ≡ true
    → Takes d (number 4 lock_time) f → lock_time < 2 ^ 32 → f ≡ []
    → IsTransaction (transaction_of version inputs outputs lock_time) bytes
assembled bytes version a unsigned b outputs c inputs d lock_time f ta ga tb gb tc gc td gd signed tf gf ended =
    let t = transaction_of version inputs outputs lock_time in
    let v = number 4 version ++ (0 ∷ 1 ∷ []) in
    let is = compact_size (length inputs) ++ flat_map input inputs in
    let os = compact_size (length outputs) ++ flat_map output outputs in
    let ws = witnesses inputs in
    let lock = number 4 lock_time in
    let same : compact_size (length unsigned) ++ flat_map input unsigned ≡ is = rw (gd.same_count, gd.same_text) refl in
    let pf : d ≡ lock ++ [] = tf.parts ∙ ap (λ (r : List ℕ). lock ++ r) ended in
    let pd : c ≡ ws ++ (lock ++ []) = td.parts ∙ ap (λ (r : List ℕ). ws ++ r) pf in
    let pc : b ≡ os ++ (ws ++ (lock ++ [])) = tc.parts ∙ ap (λ (r : List ℕ). os ++ r) pd in
    let pb : a ≡ is ++ (os ++ (ws ++ (lock ++ []))) = tb.parts ∙ ap (λ (p : List ℕ). p ++ b) same ∙ ap (λ (r : List ℕ). is ++ r) pc in
    let pa : bytes ≡ v ++ (is ++ (os ++ (ws ++ (lock ++ [])))) = ta.parts ∙ ap (λ (r : List ℕ). v ++ r) pb in
    record {
      limits = record {
        version = ga;
        some_input = omega (arith, gd.same_count, gb.count.0);
        inputs = record { count = omega (arith, gd.same_count, gb.count.1); each = gd.each };
        outputs = record { count = gc.count; each = gc.each };
        lock_time = gf;
      };
      signed = signed;
      spelled = pa ∙ sym (spelled_parts t);
    }

pub all_takes : (bytes : List ℕ) (t : Transaction) → IsBytes bytes → reading bytes ≡ Ok t → IsTransaction t bytes
unfolding reading
all_takes bytes t fits e =
    let a = bind_ok (version_at bytes) (λ version. inputs_at version.1 >>= λ unsigned. outputs_at unsigned.1 >>= λ outputs. witnesses_at unsigned.0 outputs.1 >>= λ inputs. number_at 4 inputs.1 >>= λ lock_time. end_at lock_time.1 (transaction_of version.0 inputs.0 outputs.0 lock_time.0)) t e in
    let b = bind_ok (inputs_at a.0.1) (λ unsigned. outputs_at unsigned.1 >>= λ outputs. witnesses_at unsigned.0 outputs.1 >>= λ inputs. number_at 4 inputs.1 >>= λ lock_time. end_at lock_time.1 (transaction_of a.0.0 inputs.0 outputs.0 lock_time.0)) t a.2 in
    let c = bind_ok (outputs_at b.0.1) (λ outputs. witnesses_at b.0.0 outputs.1 >>= λ inputs. number_at 4 inputs.1 >>= λ lock_time. end_at lock_time.1 (transaction_of a.0.0 inputs.0 outputs.0 lock_time.0)) t b.2 in
    let d = bind_ok (witnesses_at b.0.0 c.0.1) (λ inputs. number_at 4 inputs.1 >>= λ lock_time. end_at lock_time.1 (transaction_of a.0.0 inputs.0 c.0.0 lock_time.0)) t c.2 in
    let f = bind_ok (number_at 4 d.0.1) (λ lock_time. end_at lock_time.1 (transaction_of a.0.0 d.0.0 c.0.0 lock_time.0)) t d.2 in
    let ended = end_is f.0.1 (transaction_of a.0.0 d.0.0 c.0.0 f.0.0) t f.2 in
    let ta = version_reads.takes bytes a.0 fits a.1 in
    let tb = inputs_reads.takes a.0.1 b.0 ta.0.rest_fits b.1 in
    let tc = outputs_reads.takes b.0.1 c.0 tb.0.rest_fits c.1 in
    let td = witnesses_take b.0.0 c.0.1 d.0 tc.0.rest_fits tb.1.each d.1 in
    let tf = u32_reads.takes d.0.1 f.0 td.0.rest_fits f.1 in
    subst (λ (u : Transaction). IsTransaction u bytes) ended.1 (assembled bytes a.0.0 a.0.1 b.0.0 b.0.1 c.0.0 c.0.1 d.0.0 d.0.1 f.0.0 f.0.1 ta.0 ta.1 tb.0 tb.1 tc.0 tc.1 td.0 td.1 td.2 tf.0 tf.1 ended.0)

again_from : (t : Transaction) → KeepsLimits t → has_witness t.inputs ≡ true → reading (spelling t) ≡ Ok t
unfolding reading end_at
again_from t keeps signed =
    let lock = number 4 t.lock_time ++ [] in
    let after_outputs = witnesses t.inputs ++ lock in
    let after_inputs = (compact_size (length t.outputs) ++ flat_map output t.outputs) ++ after_outputs in
    let as_bare : (compact_size (length t.inputs) ++ flat_map input t.inputs) ++ after_inputs ≡ (compact_size (length (map bare t.inputs)) ++ flat_map input (map bare t.inputs)) ++ after_inputs = rw (bare_count t.inputs, bare_text t.inputs) refl in
    let inputs : inputs_at ((compact_size (length t.inputs) ++ flat_map input t.inputs) ++ after_inputs) ≡ Ok (map bare t.inputs, after_inputs) =
    ap inputs_at as_bare ∙ inputs_reads.again (map bare t.inputs) after_inputs (record { count = rw (bare_count t.inputs) (keeps.some_input, keeps.inputs.count); each = bare_are t.inputs keeps.inputs.each }) in
    ap reading (spelled_parts t)
    ∙ rw (
      version_reads.again t.version ((compact_size (length t.inputs) ++ flat_map input t.inputs) ++ after_inputs) keeps.version,
      inputs,
      outputs_reads.again t.outputs after_outputs (record { count = keeps.outputs.count; each = keeps.outputs.each }),
      witnesses_again t.inputs lock keeps.inputs.each signed,
      u32_reads.again t.lock_time [] keeps.lock_time,
    ) refl

pub all_again : (t : Transaction) (bytes : List ℕ) → IsTransaction t bytes → reading bytes ≡ Ok t
all_again t bytes is = ap reading is.spelled ∙ again_from t is.limits (is.signed)

pub is_found : (bytes : List ℕ) (r : Result Transaction DecodeError) → IsBytes bytes → Gives (λ t. t) r (reading bytes) → IfOk r (λ t. IsTransaction t bytes)
is_found bytes (Ok t) fits given = all_takes bytes t fits given
is_found bytes (Err e) fits given = tt

pub one_value : (t u : Transaction) (bytes : List ℕ) → IsTransaction t bytes → IsTransaction u bytes → t ≡ u
one_value t u bytes first second = ok_is t u (sym (all_again t bytes first) ∙ all_again u bytes second)

-- ---- the form without marker, flag and witnesses

neither : (a b : Bool) → (a || b) ≡ false → (a ≡ false) × (b ≡ false)
neither true b e = absurd cc
neither false b e = (refl, e)

not_false : (a : Bool) → not a ≡ false → a ≡ true
not_false true e = refl
not_false false e = absurd cc

bare_inputs : (is : List TxIn) → AllByRecursion IsUnsigned is → AllByRecursion IsInput is × (has_witness is ≡ false)
bare_inputs [] good = (tt, refl)
bare_inputs (i ∷ is) good =
    let others = bare_inputs is good.1 in
    let empty : length i.witness ≡ 0 = ap length good.0.bare in
    let kept : IsWitness i.witness = rw good.0.bare (record { count = omega arith; each = tt }) in
    ((record { txid = good.0.txid; index = good.0.index; sequence = good.0.sequence; witness = kept }, others.0), rw (good.0.bare, others.1) refl)

bare_from : (is : List TxIn) → AllByRecursion IsInput is → has_witness is ≡ false → AllByRecursion IsUnsigned is
bare_from [] good none = tt
bare_from (i ∷ is) good none =
    let parts = neither (not (eqb (length i.witness) 0)) (has_witness is) none in
    let bare : i.witness ≡ [] = nil_from_length i.witness (eqb-true _ _ (not_false (eqb (length i.witness) 0) parts.0)) in
    (record { txid = good.0.txid; index = good.0.index; sequence = good.0.sequence; bare = bare }, bare_from is good.1 parts.1)

stripped_grouped : (v is os lock : List ℕ) (n m : ℕ) → v ++ ((compact_size n ++ is) ++ ((compact_size m ++ os) ++ (lock ++ []))) ≡ v ++ (compact_size n ++ is ++ compact_size m ++ os) ++ lock
stripped_grouped v is os lock n m = simp (append_assoc, append-nil)

stripped_parts : (t : Transaction) → stripped_spelling t ≡ number 4 t.version ++ ((compact_size (length t.inputs) ++ flat_map input t.inputs) ++ ((compact_size (length t.outputs) ++ flat_map output t.outputs) ++ (number 4 t.lock_time ++ [])))
unfolding stripped_spelling body
stripped_parts t = sym (stripped_grouped (number 4 t.version) (flat_map input t.inputs) (flat_map output t.outputs) (number 4 t.lock_time) (length t.inputs) (length t.outputs))

stripped_assembled : (bytes : List ℕ) (version : ℕ) (a : List ℕ) (inputs : List TxIn) (b : List ℕ) (outputs : List Output) (c : List ℕ) (lock_time : ℕ) (f : List ℕ)
    → Takes bytes (number 4 version) a → version < 2 ^ 32
    → Takes a (compact_size (length inputs) ++ flat_map input inputs) b → IsCounted SomeInputs IsUnsigned inputs
    → Takes b (compact_size (length outputs) ++ flat_map output outputs) c → IsCounted FewOutputs IsOutput outputs
    → Takes c (number 4 lock_time) f → lock_time < 2 ^ 32 → f ≡ []
    → IsStripped (transaction_of version inputs outputs lock_time) bytes
stripped_assembled bytes version a inputs b outputs c lock_time f ta ga tb gb tc gc tf gf ended =
    let t = transaction_of version inputs outputs lock_time in
    let v = number 4 version in
    let is = compact_size (length inputs) ++ flat_map input inputs in
    let os = compact_size (length outputs) ++ flat_map output outputs in
    let lock = number 4 lock_time in
    let bare = bare_inputs inputs gb.each in
    let pc : c ≡ lock ++ [] = tf.parts ∙ ap (λ (r : List ℕ). lock ++ r) ended in
    let pb : b ≡ os ++ (lock ++ []) = tc.parts ∙ ap (λ (r : List ℕ). os ++ r) pc in
    let pa : a ≡ is ++ (os ++ (lock ++ [])) = tb.parts ∙ ap (λ (r : List ℕ). is ++ r) pb in
    let whole : bytes ≡ v ++ (is ++ (os ++ (lock ++ []))) = ta.parts ∙ ap (λ (r : List ℕ). v ++ r) pa in
    record {
      limits = record {
        version = ga;
        some_input = gb.count.0;
        inputs = record { count = gb.count.1; each = bare.0 };
        outputs = record { count = gc.count; each = gc.each };
        lock_time = gf;
      };
      unsigned = bare.1;
      spelled = whole ∙ sym (stripped_parts t);
    }

pub stripped_takes : (bytes : List ℕ) (t : Transaction) → IsBytes bytes → stripped_reading bytes ≡ Ok t → IsStripped t bytes
unfolding stripped_reading
stripped_takes bytes t fits e =
    let a = bind_ok (number_at 4 bytes) (λ version. inputs_at version.1 >>= λ inputs. outputs_at inputs.1 >>= λ outputs. number_at 4 outputs.1 >>= λ lock_time. end_at lock_time.1 (transaction_of version.0 inputs.0 outputs.0 lock_time.0)) t e in
    let b = bind_ok (inputs_at a.0.1) (λ inputs. outputs_at inputs.1 >>= λ outputs. number_at 4 outputs.1 >>= λ lock_time. end_at lock_time.1 (transaction_of a.0.0 inputs.0 outputs.0 lock_time.0)) t a.2 in
    let c = bind_ok (outputs_at b.0.1) (λ outputs. number_at 4 outputs.1 >>= λ lock_time. end_at lock_time.1 (transaction_of a.0.0 b.0.0 outputs.0 lock_time.0)) t b.2 in
    let f = bind_ok (number_at 4 c.0.1) (λ lock_time. end_at lock_time.1 (transaction_of a.0.0 b.0.0 c.0.0 lock_time.0)) t c.2 in
    let ended = end_is f.0.1 (transaction_of a.0.0 b.0.0 c.0.0 f.0.0) t f.2 in
    let ta = u32_reads.takes bytes a.0 fits a.1 in
    let tb = inputs_reads.takes a.0.1 b.0 ta.0.rest_fits b.1 in
    let tc = outputs_reads.takes b.0.1 c.0 tb.0.rest_fits c.1 in
    let tf = u32_reads.takes c.0.1 f.0 tc.0.rest_fits f.1 in
    subst (λ (u : Transaction). IsStripped u bytes) ended.1 (stripped_assembled bytes a.0.0 a.0.1 b.0.0 b.0.1 c.0.0 c.0.1 f.0.0 f.0.1 ta.0 ta.1 tb.0 tb.1 tc.0 tc.1 tf.0 tf.1 ended.0)

stripped_again_from : (t : Transaction) → KeepsLimits t → has_witness t.inputs ≡ false → stripped_reading (stripped_spelling t) ≡ Ok t
unfolding stripped_reading end_at
stripped_again_from t keeps none =
    let lock = number 4 t.lock_time ++ [] in
    let after_inputs = (compact_size (length t.outputs) ++ flat_map output t.outputs) ++ lock in
    ap stripped_reading (stripped_parts t)
    ∙ rw (
      u32_reads.again t.version ((compact_size (length t.inputs) ++ flat_map input t.inputs) ++ after_inputs) keeps.version,
      inputs_reads.again t.inputs after_inputs (record { count = (keeps.some_input, keeps.inputs.count); each = bare_from t.inputs keeps.inputs.each none }),
      outputs_reads.again t.outputs lock (record { count = keeps.outputs.count; each = keeps.outputs.each }),
      u32_reads.again t.lock_time [] keeps.lock_time,
    ) refl

pub stripped_again : (t : Transaction) (bytes : List ℕ) → IsStripped t bytes → stripped_reading bytes ≡ Ok t
stripped_again t bytes is = ap stripped_reading is.spelled ∙ stripped_again_from t is.limits is.unsigned

pub stripped_found : (bytes : List ℕ) (r : Result Transaction DecodeError) → IsBytes bytes → Gives (λ t. t) r (stripped_reading bytes) → IfOk r (λ t. IsStripped t bytes)
stripped_found bytes (Ok t) fits given = stripped_takes bytes t fits given
stripped_found bytes (Err e) fits given = tt

pub one_stripped_value : (t u : Transaction) (bytes : List ℕ) → IsStripped t bytes → IsStripped u bytes → t ≡ u
one_stripped_value t u bytes first second = ok_is t u (sym (stripped_again t bytes first) ∙ stripped_again u bytes second)
