-- Opcodes are read one after another.
use Rattle.std.proofs.Common.{◌≡◌, ℕ, ◌+◌, ◌-◌, ◌≤◌, List, [], ◌∷◌, ◌++◌, length, take, drop, sym, ap, ◌∙◌, arith, append_assoc, length-append, length-drop, append-nil}
use Rattle.std.specs.Prelude.{All}
use Rattle.std.proofs.Math.Seq.{take-length}
use Rattle.std.proofs.lemmas.List.Elements.{All-push}
use Rattle.script.specs.declared.opcode.Op.{Op}
use Rattle.script.specs.declared.parse.ParseError.{ParseError}
use Rattle.script.specs.declared.parse.ParseError.TheVariants.{NoMemory, BadOpcode, Truncated, TooLong}
use Rattle.script.specs.Spelling.{spelling, code_of, payload_of, IsOp, Begins, Refuses, IsFault}

pub spelling-push : (ops : List Op) (op : Op) → spelling (ops ++ op ∷ []) ≡ spelling ops ++ (code_of op ∷ payload_of op)
spelling-push [] op = ap (λ xs. code_of op ∷ xs) (append-nil (payload_of op))
spelling-push (x ∷ ops) op = ap (λ xs. code_of x ∷ xs) (ap (λ xs. payload_of x ++ xs) (spelling-push ops op) ∙ sym (append_assoc (payload_of x) (spelling ops) (code_of op ∷ payload_of op)))

-- what the loop of `parse` keeps
pub record Reads (ops : List Op) (rest bytes : List ℕ) : Type 0 where
  pub each : All IsOp ops
  pub same : spelling ops ++ rest ≡ bytes

pub reads_more : (ops : List Op) (first : ℕ) (after bytes : List ℕ) (op : Op) → Reads ops (first ∷ after) bytes → Begins first after op → Reads (ops ++ op ∷ []) (drop (length (payload_of op)) after) bytes
reads_more ops first after bytes op r b = record {
  each = All-push IsOp ops op r.each b.valid;
  same =
      ap (λ xs. xs ++ drop (length (payload_of op)) after) (spelling-push ops op)
      ∙ append_assoc (spelling ops) (code_of op ∷ payload_of op) (drop (length (payload_of op)) after)
      ∙ ap (λ xs. spelling ops ++ (code_of op ∷ xs)) b.payload
      ∙ ap (λ x. spelling ops ++ (x ∷ after)) b.byte
      ∙ r.same;
}

pub reads_fault : (ops : List Op) (first : ℕ) (after bytes : List ℕ) (at : ℕ) (e : ParseError) → length bytes ≤ 10000 → Reads ops (first ∷ after) bytes → at ≡ length bytes - length (first ∷ after) → Refuses first after at e → IsFault bytes e
reads_fault ops first after bytes at NoMemory short r p f = tt
reads_fault ops first after bytes at (BadOpcode k) short r p f =
    let l : length (spelling ops) + length (first ∷ after) ≡ length bytes = sym (length-append (spelling ops) (first ∷ after)) ∙ ap length r.same in
    (short, (first, after, record { ops = ops; each = r.each; same = r.same; place = omega (arith, f.0) }, f.1))
reads_fault ops first after bytes at (Truncated k) short r p f =
    let l : length (spelling ops) + length (first ∷ after) ≡ length bytes = sym (length-append (spelling ops) (first ∷ after)) ∙ ap length r.same in
    (short, (first, after, record { ops = ops; each = r.each; same = r.same; place = omega (arith, f.0) }, f.1, f.2))
reads_fault ops first after bytes at TooLong short r p f = absurd f

-- what `&xs[n..]` is
pub cut_front : (xs : List ℕ) (n m : ℕ) → n ≡ m → take (length xs - n) (drop n xs) ≡ drop m xs
cut_front xs n m e = rw (← length-drop n xs) (take-length (drop n xs) ∙ ap (λ k. drop k xs) e)
