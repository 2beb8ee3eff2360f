-- Inputs, outputs and witnesses: the bytes spell what is read, and what they spell is read.
use Rattle.std.proofs.Common.{◌≡◌, ℕ, suc, ◌^◌, ◌<◌, ◌≤◌, false, cond, ltb, eqb, List, [], ◌∷◌, ◌++◌, length, map, Result, Ok, Err, refl, sym, ap, subst, ◌∙◌, append_assoc, arith}
use Rattle.std.specs.List.{flat_map, AllByRecursion}
use Rattle.std.proofs.lemmas.Bool.{ltb-false, le-ltb, eqb-true, eqb-false, ne_eqb}
use Rattle.tx.specs.declared.errors.DecodeError.{DecodeError}
use Rattle.tx.specs.declared.errors.DecodeError.TheVariants.{BadMarker, NoInputs, ValueTooLarge}
use Rattle.tx.specs.declared.input.TxIn.{TxIn}
use Rattle.tx.specs.declared.limits.TheConstants.{MAX_VALUE, MAX_ITEMS}
use Rattle.tx.specs.Parts.{IsBounded, IsWitness, Output, IsOutput}
use Rattle.tx.specs.Fields.{IsInput}
use Rattle.tx.specs.Spelling.{number, compact_size, bytes_with_length, outpoint, input, output, witness, witnesses}
use Rattle.tx.specs.Reading.{◌>>=◌, bytes_at, number_at, compact_size_up_to, byte_string_at, marker_at, input_at, output_at, input_count_at, inputs_at, outputs_at, witness_at, signed_input_at, signed_inputs_at, version_at}
use Rattle.tx.proofs.Numbers.{IsBytes, IsBytes-rest, bind_ok, guard_ok, guard_passed, ok_is, Takes, Takes-then, Reads, taken_reads, wide32, wide64, number_reads}
use Rattle.tx.proofs.Counts.{count_up_to_reads, text_reads, IsCounted, counted_reads}

abbrev done : {A : Type 0} → A → Result A DecodeError
done x = Ok x

abbrev pub u32_reads : Reads (number_at 4) (number 4) (λ n. n < 2 ^ 32)
u32_reads = number_reads 4 (2 ^ 32) wide32

-- ---- inputs

-- an input that is not yet signed
pub record IsUnsigned (i : TxIn) : Type 0 where
  pub txid : length i.outpoint.txid ≡ 32
  pub index : i.outpoint.index < 2 ^ 32
  pub sequence : i.sequence < 2 ^ 32
  pub bare : i.witness ≡ []

pub bare : TxIn → TxIn
bare i = record i { witness = [] }

abbrev unsigned_of : List ℕ → ℕ → ℕ → TxIn
unsigned_of txid index sequence = record { outpoint = record { txid = txid; index = index }; sequence = sequence; witness = [] }

no_count : (n : ℕ) → n ≤ 0 → n ≡ 0
no_count n le = omega arith

input_parts : (i : TxIn) (rest : List ℕ) → input i ++ rest ≡ i.outpoint.txid ++ (number 4 i.outpoint.index ++ (compact_size 0 ++ (number 4 i.sequence ++ rest)))
unfolding input outpoint
input_parts i rest = simp append_assoc

is_unsigned_of : (i : TxIn) → i.witness ≡ [] → unsigned_of i.outpoint.txid i.outpoint.index i.sequence ≡ i
is_unsigned_of i e = ap (λ (w : List (List ℕ)). record i { witness = w }) (sym e)

pub input_reads : Reads input_at input IsUnsigned
unfolding input_at input outpoint
input_reads = record {
  takes = λ bytes x fits e.
      let a = bind_ok (bytes_at 32 bytes) (λ txid. number_at 4 txid.1 >>= λ index. compact_size_up_to 0 index.1 >>= λ script. number_at 4 script.1 >>= λ sequence. Ok (unsigned_of txid.0 index.0 sequence.0, sequence.1)) x e in
      let b = bind_ok (number_at 4 a.0.1) (λ index. compact_size_up_to 0 index.1 >>= λ script. number_at 4 script.1 >>= λ sequence. Ok (unsigned_of a.0.0 index.0 sequence.0, sequence.1)) x a.2 in
      let c = bind_ok (compact_size_up_to 0 b.0.1) (λ script. number_at 4 script.1 >>= λ sequence. Ok (unsigned_of a.0.0 b.0.0 sequence.0, sequence.1)) x b.2 in
      let d = bind_ok (number_at 4 c.0.1) (λ sequence. Ok (unsigned_of a.0.0 b.0.0 sequence.0, sequence.1)) x c.2 in
      let ta = (taken_reads 32).takes bytes a.0 fits a.1 in
      let tb = u32_reads.takes a.0.1 b.0 ta.0.rest_fits b.1 in
      let tc = (count_up_to_reads 0 (omega arith)).takes b.0.1 c.0 tb.0.rest_fits c.1 in
      let td = u32_reads.takes c.0.1 d.0 tc.0.rest_fits d.1 in
      let empty : Takes b.0.1 (compact_size 0) c.0.1 = subst (λ (n : ℕ). Takes b.0.1 (compact_size n) c.0.1) (no_count c.0.0 tc.1) tc.0 in
      let point = Takes-then bytes a.0.0 a.0.1 (number 4 b.0.0) b.0.1 ta.0 tb.0 in
      let script = Takes-then bytes (a.0.0 ++ number 4 b.0.0) b.0.1 (compact_size 0) c.0.1 point empty in
      let whole = Takes-then bytes ((a.0.0 ++ number 4 b.0.0) ++ compact_size 0) c.0.1 (number 4 d.0.0) d.0.1 script td.0 in
      subst (λ (p : TxIn × List ℕ). Takes bytes (input p.0) p.1 × IsUnsigned p.0) (ok_is (unsigned_of a.0.0 b.0.0 d.0.0, d.0.1) x d.2)
      (whole, record { txid = ta.1; index = tb.1; sequence = td.1; bare = refl });
  again = λ i rest good.
      ap input_at (input_parts i rest)
      ∙ rw (
        (taken_reads 32).again i.outpoint.txid (number 4 i.outpoint.index ++ (compact_size 0 ++ (number 4 i.sequence ++ rest))) good.txid,
        u32_reads.again i.outpoint.index (compact_size 0 ++ (number 4 i.sequence ++ rest)) good.index,
        (count_up_to_reads 0 (omega arith)).again 0 (number 4 i.sequence ++ rest) (omega arith),
        u32_reads.again i.sequence rest good.sequence,
        is_unsigned_of i good.bare,
      ) refl;
}

-- some, and not too many
abbrev pub SomeInputs : ℕ → Type 0
SomeInputs n = (0 < n) × (n ≤ 4000)

input_count_reads : Reads input_count_at compact_size SomeInputs
unfolding input_count_at
input_count_reads = record {
  takes = λ bytes x fits e.
      let a = bind_ok (compact_size_up_to 4000 bytes) (λ n. cond (eqb n.0 0) (Err NoInputs) (Ok n)) x e in
      let g = guard_ok (eqb a.0.0 0) NoInputs (done a.0) x a.2 in
      let t = (count_up_to_reads 4000 (omega arith)).takes bytes a.0 fits a.1 in
      let some : 0 < a.0.0 = omega (arith, eqb-false _ _ g.0) in
      subst (λ (p : ℕ × List ℕ). Takes bytes (compact_size p.0) p.1 × SomeInputs p.0) (ok_is a.0 x g.1) (t.0, (some, t.1));
  again = λ n rest good.
      let nonzero : eqb n 0 ≡ false = ne_eqb _ _ (omega (arith, good.0)) in
      rw ((count_up_to_reads 4000 (omega arith)).again n rest good.1, nonzero) refl;
}

pub inputs_reads : Reads inputs_at (λ is. compact_size (length is) ++ flat_map input is) (IsCounted SomeInputs IsUnsigned)
unfolding inputs_at
inputs_reads = counted_reads input_count_at SomeInputs input_count_reads input_at input IsUnsigned input_reads

-- ---- outputs

abbrev output_of : ℕ → List ℕ → Output
output_of value script = record { value = value; script = script }

output_reads : Reads output_at output IsOutput
unfolding output_at output
output_reads = record {
  takes = λ bytes x fits e.
      let a = bind_ok (number_at 8 bytes) (λ value. cond (ltb MAX_VALUE value.0) (Err ValueTooLarge) (byte_string_at value.1) >>= λ script. Ok (output_of value.0 script.0, script.1)) x e in
      let b = bind_ok (cond (ltb MAX_VALUE a.0.0) (Err ValueTooLarge) (byte_string_at a.0.1)) (λ script. Ok (output_of a.0.0 script.0, script.1)) x a.2 in
      let g = guard_ok (ltb MAX_VALUE a.0.0) ValueTooLarge (byte_string_at a.0.1) b.0 b.1 in
      let ta = (number_reads 8 (2 ^ 64) wide64).takes bytes a.0 fits a.1 in
      let tb = text_reads.takes a.0.1 b.0 ta.0.rest_fits g.1 in
      subst (λ (p : Output × List ℕ). Takes bytes (output p.0) p.1 × IsOutput p.0) (ok_is (output_of a.0.0 b.0.0, b.0.1) x b.2)
      (Takes-then bytes (number 8 a.0.0) a.0.1 (bytes_with_length b.0.0) b.0.1 ta.0 tb.0, record { value = ltb-false _ _ g.0; script = tb.1 });
  again = λ o rest good.
      let regrouped : output o ++ rest ≡ number 8 o.value ++ (bytes_with_length o.script ++ rest) = append_assoc (number 8 o.value) (bytes_with_length o.script) rest in
      let small : o.value < 2 ^ 64 = omega (arith, good.value) in
      ap output_at regrouped
      ∙ rw ((number_reads 8 (2 ^ 64) wide64).again o.value (bytes_with_length o.script ++ rest) small, le-ltb _ _ good.value, text_reads.again o.script rest good.script) refl;
}

abbrev pub FewOutputs : ℕ → Type 0
FewOutputs n = n ≤ 4000

pub outputs_reads : Reads outputs_at (λ os. compact_size (length os) ++ flat_map output os) (IsCounted FewOutputs IsOutput)
unfolding outputs_at
outputs_reads = counted_reads (compact_size_up_to 4000) FewOutputs (count_up_to_reads 4000 (omega arith)) output_at output IsOutput output_reads

-- ---- witnesses

abbrev FewItems : ℕ → Type 0
FewItems n = n ≤ MAX_ITEMS

witness_reads : Reads witness_at witness IsWitness
unfolding witness_at witness
witness_reads =
    let r = counted_reads (compact_size_up_to MAX_ITEMS) FewItems (count_up_to_reads MAX_ITEMS (omega arith)) byte_string_at bytes_with_length IsBounded text_reads in
    record {
      takes = λ bytes x fits e. let t = r.takes bytes x fits e in (t.0, record { count = t.1.count; each = t.1.each });
      again = λ items rest good. r.again items rest (record { count = good.count; each = good.each });
    }

abbrev with_witness : TxIn → List (List ℕ) → TxIn
with_witness i items = record i { witness = items }

-- what reading witnesses makes of inputs that are not yet signed
pub record Signed (unsigned signed : List TxIn) : Type 0 where
  pub each : AllByRecursion IsInput signed
  pub same_count : length signed ≡ length unsigned
  pub same_text : flat_map input signed ≡ flat_map input unsigned

same_input : (i : TxIn) (items : List (List ℕ)) → input (with_witness i items) ≡ input i
unfolding input
same_input i items = refl

pub each_takes : (is : List TxIn) (bytes : List ℕ) (x : List TxIn × List ℕ) → IsBytes bytes → AllByRecursion IsUnsigned is → signed_inputs_at is bytes ≡ Ok x
    → Takes bytes (witnesses x.0) x.1 × Signed is x.0
unfolding signed_inputs_at signed_input_at witnesses
each_takes [] bytes x fits good e =
    subst (λ (p : List TxIn × List ℕ). Takes bytes (witnesses p.0) p.1 × Signed [] p.0) (ok_is ([], bytes) x e)
    (record { parts = refl; rest_fits = fits }, record { each = tt; same_count = refl; same_text = refl })
each_takes (i ∷ is) bytes x fits good e =
    let a = bind_ok (signed_input_at i bytes) (λ first. signed_inputs_at is first.1 >>= λ others. Ok (first.0 ∷ others.0, others.1)) x e in
    let b = bind_ok (signed_inputs_at is a.0.1) (λ others. Ok (a.0.0 ∷ others.0, others.1)) x a.2 in
    let w = bind_ok (witness_at bytes) (λ items. Ok (with_witness i items.0, items.1)) a.0 a.1 in
    let tw = witness_reads.takes bytes w.0 fits w.1 in
    let first = subst (λ (p : TxIn × List ℕ). Takes bytes (witness p.0.witness) p.1 × (p.0 ≡ with_witness i p.0.witness)) (ok_is (with_witness i w.0.0, w.0.1) a.0 w.2) (tw.0, refl) in
    let kept : IsWitness a.0.0.witness = subst (λ (p : TxIn × List ℕ). IsWitness p.0.witness) (ok_is (with_witness i w.0.0, w.0.1) a.0 w.2) tw.1 in
    let u = each_takes is a.0.1 b.0 first.0.rest_fits good.1 b.1 in
    let is_input : IsInput a.0.0 = subst (λ (s : TxIn). IsInput s) (sym first.1) (record { txid = good.0.txid; index = good.0.index; sequence = good.0.sequence; witness = kept }) in
    let same : input a.0.0 ≡ input i = ap input first.1 ∙ same_input i a.0.0.witness in
    subst (λ (p : List TxIn × List ℕ). Takes bytes (witnesses p.0) p.1 × Signed (i ∷ is) p.0) (ok_is (a.0.0 ∷ b.0.0, b.0.1) x b.2) (
      Takes-then bytes (witness a.0.0.witness) a.0.1 (witnesses b.0.0) b.0.1 first.0 u.0,
      record { each = (is_input, u.1.each); same_count = ap suc u.1.same_count; same_text = rw (same, u.1.same_text) refl },
    )

pub each_again : (is : List TxIn) (rest : List ℕ) → AllByRecursion IsInput is → signed_inputs_at (map bare is) (witnesses is ++ rest) ≡ Ok (is, rest)
unfolding signed_inputs_at signed_input_at witnesses bare
each_again [] rest good = refl
each_again (i ∷ is) rest good =
    let regrouped : witnesses (i ∷ is) ++ rest ≡ witness i.witness ++ (witnesses is ++ rest) = append_assoc (witness i.witness) (witnesses is) rest in
    ap (signed_inputs_at (bare i ∷ map bare is)) regrouped
    ∙ rw (witness_reads.again i.witness (witnesses is ++ rest) good.0.witness, each_again is rest good.1) refl

-- inputs without their witnesses
pub bare_are : (is : List TxIn) → AllByRecursion IsInput is → AllByRecursion IsUnsigned (map bare is)
unfolding bare
bare_are [] good = tt
bare_are (i ∷ is) good = (record { txid = good.0.txid; index = good.0.index; sequence = good.0.sequence; bare = refl }, bare_are is good.1)

pub bare_text : (is : List TxIn) → flat_map input (map bare is) ≡ flat_map input is
unfolding bare input
bare_text [] = refl
bare_text (i ∷ is) = ap (λ (t : List ℕ). input i ++ t) (bare_text is)

pub bare_count : (is : List TxIn) → length (map bare is) ≡ length is
bare_count [] = refl
bare_count (i ∷ is) = ap suc (bare_count is)

-- ---- the version

version_parts : (n : ℕ) (rest : List ℕ) → (number 4 n ++ (0 ∷ 1 ∷ [])) ++ rest ≡ number 4 n ++ (0 ∷ 1 ∷ rest)
version_parts n rest = append_assoc (number 4 n) (0 ∷ 1 ∷ []) rest

marker_takes : (wanted : ℕ) (bytes rest : List ℕ) → IsBytes bytes → marker_at wanted bytes ≡ Ok rest → Takes bytes (wanted ∷ []) rest
unfolding marker_at
marker_takes wanted [] rest fits e = absurd cc
marker_takes wanted (b ∷ bytes) rest fits e =
    let g = guard_passed (eqb b wanted) BadMarker (done bytes) rest e in
    subst (λ (r : List ℕ). Takes (b ∷ bytes) (wanted ∷ []) r) (ok_is bytes rest g.1)
    (record { parts = ap (λ (k : ℕ). k ∷ bytes) (eqb-true _ _ g.0); rest_fits = IsBytes-rest b bytes fits })

pub version_reads : Reads version_at (λ n. number 4 n ++ (0 ∷ 1 ∷ [])) (λ n. n < 2 ^ 32)
unfolding version_at marker_at
version_reads = record {
  takes = λ bytes x fits e.
      let a = bind_ok (number_at 4 bytes) (λ version. marker_at 0 version.1 >>= λ marked. marker_at 1 marked >>= λ flagged. Ok (version.0, flagged)) x e in
      let b = bind_ok (marker_at 0 a.0.1) (λ marked. marker_at 1 marked >>= λ flagged. Ok (a.0.0, flagged)) x a.2 in
      let c = bind_ok (marker_at 1 b.0) (λ flagged. Ok (a.0.0, flagged)) x b.2 in
      let ta = u32_reads.takes bytes a.0 fits a.1 in
      let tb = marker_takes 0 a.0.1 b.0 ta.0.rest_fits b.1 in
      let tc = marker_takes 1 b.0 c.0 tb.rest_fits c.1 in
      subst (λ (p : ℕ × List ℕ). Takes bytes (number 4 p.0 ++ (0 ∷ 1 ∷ [])) p.1 × (p.0 < 2 ^ 32)) (ok_is (a.0.0, c.0) x c.2)
      (Takes-then bytes (number 4 a.0.0) a.0.1 (0 ∷ 1 ∷ []) c.0 ta.0 (Takes-then a.0.1 (0 ∷ []) b.0 (1 ∷ []) c.0 tb tc), ta.1);
  again = λ n rest lt.
      ap version_at (version_parts n rest) ∙ rw (u32_reads.again n (0 ∷ 1 ∷ rest) lt) refl;
}
