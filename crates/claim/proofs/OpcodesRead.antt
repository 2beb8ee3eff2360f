-- Bytes are read as the opcodes that they spell.
use Rattle.std.proofs.Common.{◌≡◌, ℕ, zero, suc, ◌+◌, ◌-◌, ◌==◌, ◌&&◌, nat_le, nat_lt, ◌<◌, ◌≤◌, Bool, true, false, List, [], ◌∷◌, ◌++◌, length, take, drop, Option, Some, None, refl, ap, subst, ◌∙◌, arith, length-append}
use Rattle.std.specs.Prelude.{All, if◌then◌else◌}
use Rattle.std.specs.List.{AllByRecursion}
use Rattle.std.proofs.Math.Seq.{take-append_seam, drop-append_seam}
use Rattle.std.proofs.lemmas.List.{length-take-le, take-append-drop}
use Rattle.std.proofs.lemmas.Bool.{le-leb, lt-leb, leb-true, ltb-true, lt-ltb, eqb-true, and_parts}
use Rattle.std.proofs.lemmas.List.Elements.{All-head, All-tail, All-cons, All-nil}
use Rattle.script.specs.declared.opcode.Op.{Op}
use Rattle.script.specs.declared.opcode.Op.TheVariants.{Push, Number}
use Rattle.script.specs.declared.limits.TheConstants.{MAX_SCRIPT_SIZE}
use Rattle.script.specs.Spelling.{code_of, payload_of, spelling, IsOp, Spells, Begins}
use Rattle.claim.specs.Opcodes.{◌>>=◌, with_code, bare_ops, op_at, ops_in, ops_of}

-- ---- what opcodes spell is read as these opcodes

found : (op : Op) (rest : List ℕ) → IsOp op → op_at (code_of op) (payload_of op ++ rest) ≡ Some op
found (Push item) rest h =
    let long : length item ≤ length (item ++ rest) = omega (arith, length-append item rest) in
    rw (le-leb (length item) 75 h, le-leb (length item) (length (item ++ rest)) long, take-append_seam item rest) refl
found (Number n) rest h =
    let value : 0x50 + n - 0x50 ≡ n = omega arith in
    let low : 0x50 < 0x50 + n = omega (arith, h.0) in
    let high : 0x50 + n ≤ 0x60 = omega (arith, h.1) in
    let past : 75 < 0x50 + n = omega arith in
    rw (lt-leb (0x50 + n) 75 past, lt-ltb 0x50 (0x50 + n) low, le-leb (0x50 + n) 0x60 high, value) refl
found op rest h = refl

read_in : (n : ℕ) (ops : List Op) → All IsOp ops → length (spelling ops) ≤ n → ops_in n (spelling ops) ≡ Some ops
unfolding ops_in
read_in zero [] each long = refl
read_in zero (op ∷ ops) each long = absurd (omega arith)
read_in (suc n) [] each long = refl
read_in (suc n) (op ∷ ops) each long =
    let shorter : length (spelling ops) ≤ n = omega (arith, length-append (payload_of op) (spelling ops)) in
    rw (found op (spelling ops) (All-head IsOp op ops each), drop-append_seam (payload_of op) (spelling ops), read_in n ops (All-tail IsOp op ops each) shorter) refl

pub reads : (ops : List Op) (bytes : List ℕ) → Spells ops bytes → length bytes ≤ MAX_SCRIPT_SIZE → ops_of bytes ≡ Some ops
unfolding ops_of
reads ops bytes s short =
    rw (le-leb (length bytes) MAX_SCRIPT_SIZE short, ← s.same) (read_in (length (spelling ops)) ops s.each (omega arith))

-- ---- bytes that are read spell what is read

-- an opcode of one byte
abbrev IsBare : Op → Type 0
IsBare op = IsOp op × (payload_of op ≡ [])

are_bare : AllByRecursion IsBare bare_ops
are_bare = ((tt, refl), ((tt, refl), ((tt, refl), ((tt, refl), ((tt, refl), ((tt, refl), ((tt, refl), ((tt, refl), ((tt, refl), ((tt, refl), ((tt, refl), ((tt, refl), ((tt, refl), ((tt, refl), ((tt, refl), tt)))))))))))))))

with_code_is : (b : ℕ) (rest : List ℕ) (ops : List Op) (op : Op) → AllByRecursion IsBare ops → with_code b ops ≡ Some op → Begins b rest op
with_code_is b rest [] op each e = absurd (cc)
with_code_is b rest (x ∷ ops) op each e = go (code_of x == b) refl e (with_code_is b rest ops op each.1)
  where
    go : (t : Bool) → (code_of x == b) ≡ t → (if t then Some x else with_code b ops) ≡ Some op → (with_code b ops ≡ Some op → Begins b rest op) → Begins b rest op
    go true is e later =
        let same : x ≡ op = cc in
        let whole : payload_of x ++ drop (length (payload_of x)) rest ≡ rest = rw (each.0.1) refl in
        subst (Begins b rest) same (record { valid = each.0.0; byte = eqb-true (code_of x) b is; payload = whole })
    go false is e later = later e

begins : (b : ℕ) (rest : List ℕ) (op : Op) → op_at b rest ≡ Some op → Begins b rest op
begins b rest op e = push (nat_le b 75) refl e
  where
    long : (t : Bool) → nat_le b (length rest) ≡ t → b ≤ 75 → (if t then Some (Push (take b rest)) else None) ≡ Some op → Begins b rest op
    long true is low e =
        let fits : b ≤ length rest = leb-true b (length rest) is in
        let same : Push (take b rest) ≡ op = cc in
        let size : length (take b rest) ≡ b = length-take-le b rest fits in
        let whole : take b rest ++ drop (length (take b rest)) rest ≡ rest = rw size (take-append-drop b rest) in
        subst (Begins b rest) same (record { valid = omega (arith, size); byte = size; payload = whole })
    long false is low e = absurd (cc)

    number : (t : Bool) → (nat_lt 0x50 b && nat_le b 0x60) ≡ t → (if t then Some (Number (b - 0x50)) else with_code b bare_ops) ≡ Some op → Begins b rest op
    number true is e =
        let parts = and_parts (nat_lt 0x50 b) (nat_le b 0x60) is in
        let low : 0x50 < b = ltb-true 0x50 b parts.0 in
        let high : b ≤ 0x60 = leb-true b 0x60 parts.1 in
        let same : Number (b - 0x50) ≡ op = cc in
        subst (Begins b rest) same (record { valid = (omega arith, omega arith); byte = omega arith; payload = refl })
    number false is e = with_code_is b rest bare_ops op are_bare e

    push : (t : Bool) → nat_le b 75 ≡ t
        → (if t then (if nat_le b (length rest) then Some (Push (take b rest)) else None) else if nat_lt 0x50 b && nat_le b 0x60 then Some (Number (b - 0x50)) else with_code b bare_ops) ≡ Some op
        → Begins b rest op
    push true is e = long (nat_le b (length rest)) refl (leb-true b 75 is) e
    push false is e = number (nat_lt 0x50 b && nat_le b 0x60) refl e

spells_in : (n : ℕ) (bytes : List ℕ) (ops : List Op) → ops_in n bytes ≡ Some ops → Spells ops bytes
unfolding ops_in
spells_in zero [] ops e = let none : [] ≡ ops = cc in subst (λ o. Spells o []) none (record { each = All-nil IsOp; same = refl })
spells_in zero (b ∷ rest) ops e = absurd (cc)
spells_in (suc n) [] ops e = let none : [] ≡ ops = cc in subst (λ o. Spells o []) none (record { each = All-nil IsOp; same = refl })
spells_in (suc n) (b ∷ rest) ops e = go (op_at b rest) refl e (spells_in n)
  where
    more : (op : Op) (found : Option (List Op)) → Begins b rest op → ops_in n (drop (length (payload_of op)) rest) ≡ found
        → ((after : List ℕ) (later : List Op) → ops_in n after ≡ Some later → Spells later after) → (found >>= (λ later. Some (op ∷ later))) ≡ Some ops → Spells ops (b ∷ rest)
    more op None at read spelt e = absurd (cc)
    more op (Some later) at read spelt e =
        let same : op ∷ later ≡ ops = cc in
        let s = spelt (drop (length (payload_of op)) rest) later read in
        let tail : payload_of op ++ spelling later ≡ rest = ap (λ r. payload_of op ++ r) s.same ∙ at.payload in
        let whole : spelling (op ∷ later) ≡ b ∷ rest = cc (at.byte, tail) in
        subst (λ o. Spells o (b ∷ rest)) same (record { each = All-cons IsOp op later at.valid s.each; same = whole })

    go : (found : Option Op) → op_at b rest ≡ found
        → (found >>= (λ op. ops_in n (drop (length (payload_of op)) rest) >>= (λ later. Some (op ∷ later)))) ≡ Some ops
        → ((after : List ℕ) (later : List Op) → ops_in n after ≡ Some later → Spells later after) → Spells ops (b ∷ rest)
    go None at e spelt = absurd (cc)
    go (Some op) at e spelt = more op (ops_in n (drop (length (payload_of op)) rest)) (begins b rest op at) refl spelt e

pub record IsRead (ops : List Op) (bytes : List ℕ) : Type 0 where
  pub spells : Spells ops bytes
  pub short : length bytes ≤ MAX_SCRIPT_SIZE

pub is_read : (ops : List Op) (bytes : List ℕ) → ops_of bytes ≡ Some ops → IsRead ops bytes
unfolding ops_of
is_read ops bytes e = go (nat_le (length bytes) MAX_SCRIPT_SIZE) refl e
  where
    go : (t : Bool) → nat_le (length bytes) MAX_SCRIPT_SIZE ≡ t → (if t then ops_in (length bytes) bytes else None) ≡ Some ops → IsRead ops bytes
    go true is e = record { spells = spells_in (length bytes) bytes ops e; short = leb-true (length bytes) MAX_SCRIPT_SIZE is }
    go false is e = absurd (cc)
