-- Sums of counted opcodes.
use Rattle.std.proofs.Common.{◌≡◌, ℕ, ◌+◌, ◌<◌, ◌≤◌, List, [], ◌∷◌, ◌++◌, length, take, get_or, ap, ◌∙◌, arith}
use Rattle.std.proofs.lemmas.List.{take_more}
use Rattle.std.specs.Prelude.{Bool, true, false, nat_lt, if◌then◌else◌}
use Rattle.script.specs.declared.opcode.Op.{Op}
use Rattle.script.specs.Spelling.{code_of}
use Rattle.script.specs.Run.{op_count, counted_in}

pub counted_in-append : (xs ys : List Op) → counted_in (xs ++ ys) ≡ counted_in xs + counted_in ys
counted_in-append [] ys = omega arith
counted_in-append (x ∷ xs) ys = let e = counted_in-append xs ys in omega arith

one_at_most : (b : Bool) → (if b then 1 else 0) ≤ 1
one_at_most true = omega arith
one_at_most false = omega arith

pub op_count_below : (op : Op) → op_count op ≤ 1
op_count_below op = one_at_most (nat_lt 0x60 (code_of op))

-- one opcode further
pub counted_in-more : (ops : List Op) (i counted : ℕ) (op : Op) → i < length ops → op ≡ get_or ops i op → (counted ≡ counted_in (take i ops)) × (counted ≤ i) → (counted + op_count op ≡ counted_in (take (i + 1) ops)) × (counted + op_count op ≤ i + 1)
counted_in-more ops i counted op l e h =
    let p : counted_in (take (i + 1) ops) ≡ counted_in (take i ops) + (op_count (get_or ops i op) + 0) = ap counted_in (take_more ops i op l) ∙ counted_in-append (take i ops) (get_or ops i op ∷ []) in
    let q : op_count op ≡ op_count (get_or ops i op) = ap op_count e in
    let w = op_count_below op in
    (omega arith, omega arith)
