-- The opcodes of a script, computed, are those that its bytes spell.
use Rattle.std.proofs.Common.{◌≡◌, ◌≢◌, ℕ, zero, suc, ◌+◌, ◌<◌, ◌≤◌, ◌==◌, List, [], ◌∷◌, ◌++◌, length, Option, Some, None, option_map, sym, ap, ◌∙◌, refl, arith, append_assoc, length-append, append-nil, le-leb, ne_eqb, replicate, lit≤, ⊎_elim}
use Rattle.std.proofs.lemmas.Bool.{cases_lt, lt-leb}
use Rattle.std.proofs.lemmas.List.{length-replicate}
use Rattle.std.specs.Prelude.{All}
use Rattle.std.specs.List.{find, AllByRecursion}
use Rattle.std.proofs.Math.Seq.{take-append_seam, drop-append_seam}
use Rattle.std.proofs.lemmas.List.Elements.{All-head, All-tail}
use Rattle.script.specs.declared.opcode.Op.{Op}
use Rattle.script.specs.declared.opcode.Op.TheVariants.{Push, Number, If, NotIf, Else, EndIf, Drop, Dup, Swap, Size, Equal, EqualVerify, Hash160, CheckSig, CheckMultiSig, CheckLockTimeVerify, CheckSequenceVerify}
use Rattle.script.specs.declared.parse.ParseError.{ParseError}
use Rattle.script.specs.declared.parse.ParseError.TheVariants.{NoMemory, BadOpcode, Truncated, TooLong}
use Rattle.script.specs.declared.limits.TheConstants.{MAX_SCRIPT_SIZE}
use Rattle.script.specs.Spelling.{code_of, payload_of, IsOp, spelling, Spells, StartsNone, IsFault}
use Rattle.sighash.specs.Programs.{single_ops, single_op, op_before, ops_within, script_ops}

-- opcodes before those of what follows them
abbrev before : List Op → Option (List Op) → Option (List Op)
before ops rest = option_map (λ others. ops ++ others) rest

before_none : (o : Option (List Op)) → o ≡ before [] o
before_none None = refl
before_none (Some ops) = refl

before_one : (op : Op) (ops : List Op) (o : Option (List Op)) → op_before op (before ops o) ≡ before (op ∷ ops) o
before_one op ops None = refl
before_one op ops (Some others) = refl

number_op : (n : ℕ) → 1 ≤ n → n ≤ 16 → single_op (0x50 + n) ≡ Some (Number n)
unfolding single_op
number_op zero l h = absurd (omega arith)
number_op (suc zero) l h = refl
number_op (suc (suc zero)) l h = refl
number_op (suc (suc (suc zero))) l h = refl
number_op (suc (suc (suc (suc zero)))) l h = refl
number_op (suc (suc (suc (suc (suc zero))))) l h = refl
number_op (suc (suc (suc (suc (suc (suc zero)))))) l h = refl
number_op (suc (suc (suc (suc (suc (suc (suc zero))))))) l h = refl
number_op (suc (suc (suc (suc (suc (suc (suc (suc zero)))))))) l h = refl
number_op (suc (suc (suc (suc (suc (suc (suc (suc (suc zero))))))))) l h = refl
number_op (suc (suc (suc (suc (suc (suc (suc (suc (suc (suc zero)))))))))) l h = refl
number_op (suc (suc (suc (suc (suc (suc (suc (suc (suc (suc (suc zero))))))))))) l h = refl
number_op (suc (suc (suc (suc (suc (suc (suc (suc (suc (suc (suc (suc zero)))))))))))) l h = refl
number_op (suc (suc (suc (suc (suc (suc (suc (suc (suc (suc (suc (suc (suc zero))))))))))))) l h = refl
number_op (suc (suc (suc (suc (suc (suc (suc (suc (suc (suc (suc (suc (suc (suc zero)))))))))))))) l h = refl
number_op (suc (suc (suc (suc (suc (suc (suc (suc (suc (suc (suc (suc (suc (suc (suc zero))))))))))))))) l h = refl
number_op (suc (suc (suc (suc (suc (suc (suc (suc (suc (suc (suc (suc (suc (suc (suc (suc zero)))))))))))))))) l h = refl
number_op (suc (suc (suc (suc (suc (suc (suc (suc (suc (suc (suc (suc (suc (suc (suc (suc (suc n))))))))))))))))) l h = absurd (omega arith)

-- one opcode of one byte is read
reads_single : (op : Op) (n : ℕ) (rest : List ℕ) → payload_of op ≡ [] → 75 < code_of op → single_op (code_of op) ≡ Some op → ops_within (suc n) (code_of op ∷ rest) ≡ op_before op (ops_within n rest)
reads_single op n rest none high found = rw (lt-leb (code_of op) 75 high, found) refl

-- a push is read
reads_push : (item : List ℕ) (n : ℕ) (rest : List ℕ) → length item ≤ 75 → ops_within (suc n) (length item ∷ (item ++ rest)) ≡ op_before (Push item) (ops_within n rest)
reads_push item n rest short =
    let fits : length item ≤ length (item ++ rest) = omega (arith, length-append item rest) in
    rw (le-leb (length item) 75 short, le-leb (length item) (length (item ++ rest)) fits, take-append_seam item rest, drop-append_seam item rest) refl

-- one opcode is read
reads_one : (op : Op) (n : ℕ) (rest : List ℕ) → IsOp op → ops_within (suc n) (code_of op ∷ (payload_of op ++ rest)) ≡ op_before op (ops_within n rest)
unfolding single_op
reads_one (Push item) n rest valid = reads_push item n rest valid
reads_one (Number k) n rest valid = reads_single (Number k) n rest refl (omega (arith, valid)) (number_op k valid.0 valid.1)
reads_one If n rest valid = refl
reads_one NotIf n rest valid = refl
reads_one Else n rest valid = refl
reads_one EndIf n rest valid = refl
reads_one Drop n rest valid = refl
reads_one Dup n rest valid = refl
reads_one Swap n rest valid = refl
reads_one Size n rest valid = refl
reads_one Equal n rest valid = refl
reads_one EqualVerify n rest valid = refl
reads_one Hash160 n rest valid = refl
reads_one CheckSig n rest valid = refl
reads_one CheckMultiSig n rest valid = refl
reads_one CheckLockTimeVerify n rest valid = refl
reads_one CheckSequenceVerify n rest valid = refl

-- opcodes are read, and what follows them with what is left of the limit
reads_all : (ops : List Op) (n : ℕ) (rest : List ℕ) → All IsOp ops → length (spelling ops ++ rest) ≤ n → (m : ℕ) × (length rest ≤ m) × (ops_within n (spelling ops ++ rest) ≡ before ops (ops_within m rest))
reads_all [] n rest valid enough = (n, enough, before_none (ops_within n rest))
reads_all (op ∷ ops) zero rest valid enough = absurd (omega (arith, enough))
reads_all (op ∷ ops) (suc n) rest valid enough =
    let same : (payload_of op ++ spelling ops) ++ rest ≡ payload_of op ++ (spelling ops ++ rest) = append_assoc (payload_of op) (spelling ops) rest in
    let fewer : length (spelling ops ++ rest) ≤ n = omega (arith, enough, ap length same, length-append (payload_of op) (spelling ops ++ rest)) in
    let (m, more, e) = reads_all ops n rest (All-tail IsOp op ops valid) fewer in (
      m,
      more,
      ap (λ t. ops_within (suc n) (code_of op ∷ t)) same
          ∙ reads_one op n (spelling ops ++ rest) (All-head IsOp op ops valid)
          ∙ ap (op_before op) e
          ∙ before_one op ops (ops_within m rest),
    )

reads_end : (m : ℕ) → ops_within m [] ≡ Some []
reads_end zero = refl
reads_end (suc m) = refl

-- bytes that split into opcodes are read as these
pub parsed : (ops : List Op) (bytes : List ℕ) → Spells ops bytes → length bytes ≤ MAX_SCRIPT_SIZE → script_ops bytes ≡ Some ops
unfolding script_ops
parsed ops bytes spells short =
    let e : spelling ops ++ [] ≡ bytes = append-nil (spelling ops) ∙ spells.same in
    let enough : length (spelling ops ++ []) ≤ length bytes = omega (arith, ap length e) in
    let r = reads_all ops (length bytes) [] spells.each enough in
    rw (le-leb (length bytes) MAX_SCRIPT_SIZE short)
    (ap (ops_within (length bytes)) (sym e) ∙ r.2 ∙ ap (before ops) (reads_end r.0) ∙ ap Some (append-nil ops))

each_single : AllByRecursion IsOp single_ops
each_single = (tt, (tt, (tt, (tt, (tt, (tt, (tt, (tt, (tt, (tt, (tt, (tt, (tt, (tt, (tt, ((lit≤ tt, lit≤ tt), ((lit≤ tt, lit≤ tt), ((lit≤ tt, lit≤ tt), ((lit≤ tt, lit≤ tt), ((lit≤ tt, lit≤ tt), ((lit≤ tt, lit≤ tt), ((lit≤ tt, lit≤ tt), ((lit≤ tt, lit≤ tt), ((lit≤ tt, lit≤ tt), ((lit≤ tt, lit≤ tt), ((lit≤ tt, lit≤ tt), ((lit≤ tt, lit≤ tt), ((lit≤ tt, lit≤ tt), ((lit≤ tt, lit≤ tt), ((lit≤ tt, lit≤ tt), ((lit≤ tt, lit≤ tt), tt)))))))))))))))))))))))))))))))

-- no opcode of one byte has a byte that starts none
none_single : (b : ℕ) (ops : List Op) → AllByRecursion IsOp ops → StartsNone b → find (λ op. code_of op == b) ops ≡ None
none_single b [] valid none = refl
none_single b (op ∷ ops) valid none = rw (ne_eqb (code_of op) b (none op valid.0)) (none_single b ops valid.1 none)

-- a byte that starts no opcode is above the pushes
above_pushes : (b : ℕ) → StartsNone b → 75 < b
above_pushes b none =
    ⊎_elim (λ h. h) (λ l. absurd (none (Push (replicate b 0)) (omega (arith, length-replicate {A = ℕ} b 0)) (length-replicate {A = ℕ} b 0))) (cases_lt 75 b)

-- nothing is read where a byte starts no opcode
none_at : (b : ℕ) (rest : List ℕ) (m : ℕ) → StartsNone b → ops_within m (b ∷ rest) ≡ None
unfolding single_op
none_at b rest zero none = refl
none_at b rest (suc m) none = rw (lt-leb b 75 (above_pushes b none), none_single b single_ops each_single none) refl

-- nor where a push is cut short
short_at : (b : ℕ) (rest : List ℕ) (m : ℕ) → b ≤ 75 → length rest < b → ops_within m (b ∷ rest) ≡ None
short_at b rest zero low short = refl
short_at b rest (suc m) low short = rw (le-leb b 75 low, lt-leb b (length rest) short) refl

-- bytes with a fault are read as no opcodes
pub unparsed : (bytes : List ℕ) (e : ParseError) → e ≢ NoMemory → IsFault bytes e → script_ops bytes ≡ None
unfolding script_ops
unparsed bytes NoMemory known fault = absurd (known refl)
unparsed bytes TooLong known fault = rw (lt-leb (length bytes) MAX_SCRIPT_SIZE fault) refl
unparsed bytes (BadOpcode at) known fault =
    let (b, rest, splits, none) = fault.1 in
    let r = reads_all splits.ops (length bytes) (b ∷ rest) splits.each (omega (arith, ap length splits.same)) in
    rw (le-leb (length bytes) MAX_SCRIPT_SIZE fault.0)
    (ap (ops_within (length bytes)) (sym splits.same) ∙ r.2 ∙ ap (before splits.ops) (none_at b rest r.0 none))
unparsed bytes (Truncated at) known fault =
    let (b, rest, splits, low, short) = fault.1 in
    let r = reads_all splits.ops (length bytes) (b ∷ rest) splits.each (omega (arith, ap length splits.same)) in
    rw (le-leb (length bytes) MAX_SCRIPT_SIZE fault.0)
    (ap (ops_within (length bytes)) (sym splits.same) ∙ r.2 ∙ ap (before splits.ops) (short_at b rest r.0 low short))

-- the bytes of opcodes are read as these
pub parsed_spelling : (ops : List Op) → All IsOp ops → length (spelling ops) ≤ MAX_SCRIPT_SIZE → script_ops (spelling ops) ≡ Some ops
parsed_spelling ops valid short = parsed ops (spelling ops) (record { each = valid; same = refl }) short
