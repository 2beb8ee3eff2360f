-- Pieces of a pattern, one by one.
use Rattle.std.proofs.Common.{◌≡◌, ℕ, ◌+◌, ◌<◌, true, false, List, [], ◌∷◌, ◌++◌, drop, Option, Some, None, sym, ap, ◌∙◌, refl, arith}
use Rattle.std.specs.Prelude.{nat_le, if◌then◌else◌}
use Rattle.std.proofs.lemmas.List.{append_assoc}
use Rattle.script.specs.declared.opcode.Op.{Op}
use Rattle.script.specs.Spelling.{code_of, payload_of, spelling}
use Rattle.paths.specs.declared.constants.HoleKind.{HoleKind}
use Rattle.paths.specs.declared.pieces.Piece.{Piece}
use Rattle.paths.specs.declared.pieces.Fill.{Fill}
use Rattle.paths.specs.Patterns.{hole_of, op_of, op_by, longest_of, longest, takes, also, filled_by, filled}

pub longest_step : (pieces : List Piece) (i : ℕ) (p : Piece) (left n : ℕ) → drop i pieces ≡ p ∷ drop (i + 1) pieces → n + longest_of p ≡ left → nat_le (longest (drop i pieces)) left ≡ nat_le (longest (drop (i + 1) pieces)) n
longest_step pieces i p left n e h = ap (λ ps. nat_le (longest ps) left) e ∙ ap (λ l. nat_le (longest_of p + longest (drop (i + 1) pieces)) l) (sym h) ∙ shift (longest_of p) (longest (drop (i + 1) pieces)) n
  where
    shift : (a b n : ℕ) → nat_le (a + b) (n + a) ≡ nat_le b n
    shift a b n = grind arith

pub longest_over : (pieces : List Piece) (i : ℕ) (p : Piece) (left : ℕ) → drop i pieces ≡ p ∷ drop (i + 1) pieces → left < longest_of p → nat_le (longest (drop i pieces)) left ≡ false
longest_over pieces i p left e h = ap (λ ps. nat_le (longest ps) left) e ∙ over (longest_of p) (longest (drop (i + 1) pieces)) left h
  where
    over : (a b n : ℕ) → n < a → nat_le (a + b) n ≡ false
    over a b n h = grind (arith, h)

-- opcodes, and then those that are left
abbrev pub onto : List Op → Option (List Op) → Option (List Op)
onto ops (Some more) = Some (ops ++ more)
onto ops None = None

onto_also : (ops : List Op) (op : Op) (r : Option (List Op)) → onto ops (also op r) ≡ onto (ops ++ op ∷ []) r
onto_also ops op (Some more) = ap Some (sym (append_assoc ops (op ∷ []) more))
onto_also ops op None = refl

pub step_op : (pieces : List Piece) (i : ℕ) (p : Piece) (fills : List Fill) (ops : List Op) → drop i pieces ≡ p ∷ drop (i + 1) pieces → hole_of p ≡ None → onto ops (filled (drop i pieces) fills) ≡ onto (ops ++ op_of p ∷ []) (filled (drop (i + 1) pieces) fills)
step_op pieces i p fills ops e h = ap (λ ps. onto ops (filled ps fills)) e ∙ ap (λ k. onto ops (filled_by k (op_of p) fills (filled (drop (i + 1) pieces)))) h ∙ onto_also ops (op_of p) (filled (drop (i + 1) pieces) fills)

pub step_fill : (pieces : List Piece) (i : ℕ) (p : Piece) (kind : HoleKind) (f : Fill) (fills rest : List Fill) (ops : List Op) → drop i pieces ≡ p ∷ drop (i + 1) pieces → hole_of p ≡ Some kind → fills ≡ f ∷ rest → takes kind f ≡ true → onto ops (filled (drop i pieces) fills) ≡ onto (ops ++ op_by f ∷ []) (filled (drop (i + 1) pieces) rest)
step_fill pieces i p kind f fills rest ops e h g t =
    ap (λ ps. onto ops (filled ps fills)) e ∙ ap (λ k. onto ops (filled_by k (op_of p) fills (filled (drop (i + 1) pieces)))) h
    ∙ ap (λ fs. onto ops (filled_by (Some kind) (op_of p) fs (filled (drop (i + 1) pieces)))) g
    ∙ ap (λ b. onto ops (if b then also (op_by f) (filled (drop (i + 1) pieces) rest) else None)) t
    ∙ onto_also ops (op_by f) (filled (drop (i + 1) pieces) rest)

pub no_fill : (pieces : List Piece) (i : ℕ) (p : Piece) (kind : HoleKind) (fills : List Fill) (ops : List Op) → drop i pieces ≡ p ∷ drop (i + 1) pieces → hole_of p ≡ Some kind → fills ≡ [] → onto ops (filled (drop i pieces) fills) ≡ None
no_fill pieces i p kind fills ops e h g =
    ap (λ ps. onto ops (filled ps fills)) e ∙ ap (λ k. onto ops (filled_by k (op_of p) fills (filled (drop (i + 1) pieces)))) h
    ∙ ap (λ fs. onto ops (filled_by (Some kind) (op_of p) fs (filled (drop (i + 1) pieces)))) g

pub wrong_fill : (pieces : List Piece) (i : ℕ) (p : Piece) (kind : HoleKind) (f : Fill) (fills rest : List Fill) (ops : List Op) → drop i pieces ≡ p ∷ drop (i + 1) pieces → hole_of p ≡ Some kind → fills ≡ f ∷ rest → takes kind f ≡ false → onto ops (filled (drop i pieces) fills) ≡ None
wrong_fill pieces i p kind f fills rest ops e h g t =
    ap (λ ps. onto ops (filled ps fills)) e ∙ ap (λ k. onto ops (filled_by k (op_of p) fills (filled (drop (i + 1) pieces)))) h
    ∙ ap (λ fs. onto ops (filled_by (Some kind) (op_of p) fs (filled (drop (i + 1) pieces)))) g
    ∙ ap (λ b. onto ops (if b then also (op_by f) (filled (drop (i + 1) pieces) rest) else None)) t

pub spell_step : (ops : List Op) (i : ℕ) (op : Op) (bytes : List ℕ) → drop i ops ≡ op ∷ drop (i + 1) ops → bytes ++ spelling (drop i ops) ≡ (bytes ++ code_of op ∷ payload_of op) ++ spelling (drop (i + 1) ops)
spell_step ops i op bytes e = ap (λ os. bytes ++ spelling os) e ∙ sym (append_assoc bytes (code_of op ∷ payload_of op) (spelling (drop (i + 1) ops)))
