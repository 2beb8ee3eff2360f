-- Bytes split into opcodes in one way at most, and not where they have a fault.
use Rattle.std.proofs.Common.{◌≡◌, ℕ, ◌+◌, ◌-◌, ◌<◌, ◌≤◌, leb, eqb, List, [], ◌∷◌, ◌++◌, length, take, drop, sym, ap, ◌∙◌, refl, arith, append_assoc, length-append}
use Rattle.std.specs.Prelude.{All, if◌then◌else◌, Result, Ok, Err, IfOk, IfErr, MatchResult}
use Rattle.std.proofs.Math.Seq.{take-append_seam, drop-append_seam}
use Rattle.std.proofs.lemmas.Bool.{le-leb, lt-leb}
use Rattle.std.proofs.lemmas.List.Elements.{All-head, All-tail}
use Rattle.script.specs.declared.opcode.Op.{Op}
use Rattle.script.specs.declared.opcode.Op.TheVariants.{Push, Number, If, NotIf, Else, EndIf, Drop, Dup, Swap, Size, Equal, EqualVerify, Hash160, CheckSig, CheckMultiSig, CheckLockTimeVerify, CheckSequenceVerify}
use Rattle.script.specs.declared.parse.ParseError.{ParseError}
use Rattle.script.specs.declared.parse.ParseError.TheVariants.{NoMemory, BadOpcode, Truncated, TooLong}
use Rattle.script.specs.Spelling.{spelling, code_of, payload_of, IsOp, StartsNone, Spells, IsFault}

-- the opcode of a byte above 96
single : ℕ → Op
single b =
    if eqb b 0x63 then If else (if eqb b 0x64 then NotIf else (if eqb b 0x67 then Else else (if eqb b 0x68 then EndIf else
    (if eqb b 0x75 then Drop else (if eqb b 0x76 then Dup else (if eqb b 0x7c then Swap else (if eqb b 0x82 then Size else
    (if eqb b 0x87 then Equal else (if eqb b 0x88 then EqualVerify else (if eqb b 0xa9 then Hash160 else (if eqb b 0xac then CheckSig else
    (if eqb b 0xae then CheckMultiSig else (if eqb b 0xb1 then CheckLockTimeVerify else CheckSequenceVerify)))))))))))))

-- the opcode that begins a list of bytes, where one does
decoded : ℕ → List ℕ → Op
decoded b rest = if leb b 75 then Push (take b rest) else (if leb b 96 then Number (b - 80) else single b)

decoded-spelt : (op : Op) (rest : List ℕ) → IsOp op → decoded (code_of op) (payload_of op ++ rest) ≡ op
unfolding decoded single
decoded-spelt (Push item) rest h = ap (λ t. if t then Push (take (length item) (item ++ rest)) else (if leb (length item) 96 then Number (length item - 80) else single (length item))) (le-leb (length item) 75 h) ∙ ap Push (take-append_seam item rest)
decoded-spelt (Number n) rest h =
    ap (λ t. if t then Push (take (80 + n) rest) else (if leb (80 + n) 96 then Number (80 + n - 80) else single (80 + n))) (lt-leb (80 + n) 75 (omega arith))
    ∙ ap (λ t. if t then Number (80 + n - 80) else single (80 + n)) (le-leb (80 + n) 96 (omega (arith, h.1)))
    ∙ (let e : 80 + n - 80 ≡ n = omega arith in ap Number e)
decoded-spelt If rest h = refl
decoded-spelt NotIf rest h = refl
decoded-spelt Else rest h = refl
decoded-spelt EndIf rest h = refl
decoded-spelt Drop rest h = refl
decoded-spelt Dup rest h = refl
decoded-spelt Swap rest h = refl
decoded-spelt Size rest h = refl
decoded-spelt Equal rest h = refl
decoded-spelt EqualVerify rest h = refl
decoded-spelt Hash160 rest h = refl
decoded-spelt CheckSig rest h = refl
decoded-spelt CheckMultiSig rest h = refl
decoded-spelt CheckLockTimeVerify rest h = refl
decoded-spelt CheckSequenceVerify rest h = refl

-- two opcodes that begin the same list are the same
same_op : (x y : Op) (r s : List ℕ) → IsOp x → IsOp y → code_of x ∷ (payload_of x ++ r) ≡ code_of y ∷ (payload_of y ++ s) → x ≡ y
same_op x y r s hx hy e =
    let c : code_of x ≡ code_of y = cc in
    let p : payload_of x ++ r ≡ payload_of y ++ s = cc in
    sym (decoded-spelt x r hx) ∙ ap (λ b. decoded b (payload_of x ++ r)) c ∙ ap (decoded (code_of y)) p ∙ decoded-spelt y s hy

-- and what follows them is the same
same_rest : (x y : Op) (r s : List ℕ) → IsOp x → IsOp y → code_of x ∷ (payload_of x ++ r) ≡ code_of y ∷ (payload_of y ++ s) → r ≡ s
same_rest x y r s hx hy e =
    let p : payload_of x ++ r ≡ payload_of y ++ s = cc in
    let q : payload_of x ++ r ≡ payload_of x ++ s = p ∙ ap (λ o. payload_of o ++ s) (sym (same_op x y r s hx hy e)) in
    sym (drop-append_seam (payload_of x) r) ∙ ap (drop (length (payload_of x))) q ∙ drop-append_seam (payload_of x) s

pub spelling-unique : (xs ys : List Op) → All IsOp xs → All IsOp ys → spelling xs ≡ spelling ys → xs ≡ ys
spelling-unique [] [] h k e = refl
spelling-unique [] (y ∷ ys) h k e = absurd (cc)
spelling-unique (x ∷ xs) [] h k e = absurd (cc)
spelling-unique (x ∷ xs) (y ∷ ys) h k e =
    let hx = All-head IsOp x xs h in let hy = All-head IsOp y ys k in
    let p = same_op x y (spelling xs) (spelling ys) hx hy e in
    let q = spelling-unique xs ys (All-tail IsOp x xs h) (All-tail IsOp y ys k) (same_rest x y (spelling xs) (spelling ys) hx hy e) in
    ap (λ z. z ∷ xs) p ∙ ap (λ zs. y ∷ zs) q

-- no list of opcodes goes past a byte that begins none
pub bad_splits : (xs ys : List Op) (b : ℕ) (rest : List ℕ) → All IsOp xs → All IsOp ys → StartsNone b → spelling xs ≡ spelling ys ++ (b ∷ rest) → ⊥
bad_splits [] [] b rest h k n e = cc
bad_splits [] (y ∷ ys) b rest h k n e = cc
bad_splits (x ∷ xs) [] b rest h k n e = let c : code_of x ≡ b = cc in n x (All-head IsOp x xs h) c
bad_splits (x ∷ xs) (y ∷ ys) b rest h k n e =
    let e' = e ∙ ap (λ zs. code_of y ∷ zs) (append_assoc (payload_of y) (spelling ys) (b ∷ rest)) in
    bad_splits xs ys b rest (All-tail IsOp x xs h) (All-tail IsOp y ys k) n (same_rest x y (spelling xs) (spelling ys ++ (b ∷ rest)) (All-head IsOp x xs h) (All-head IsOp y ys k) e')

-- no list of opcodes goes past a push that is cut short
pub short_splits : (xs ys : List Op) (b : ℕ) (rest : List ℕ) → All IsOp xs → All IsOp ys → b ≤ 75 → length rest < b → spelling xs ≡ spelling ys ++ (b ∷ rest) → ⊥
short_splits [] [] b rest h k n l e = cc
short_splits [] (y ∷ ys) b rest h k n l e = cc
short_splits (x ∷ xs) [] b rest h k n l e =
    let c : code_of x ≡ b = cc in
    let p : payload_of x ++ spelling xs ≡ rest = cc in
    let m : length (payload_of x) + length (spelling xs) ≡ length rest = sym (length-append (payload_of x) (spelling xs)) ∙ ap length p in
    let q : length (payload_of x) ≡ code_of x = pushes x (All-head IsOp x xs h) (omega (arith, c)) in
    omega arith
  where
    pushes : (x : Op) → IsOp x → code_of x ≤ 75 → length (payload_of x) ≡ code_of x
    pushes (Push item) h l = refl
    pushes (Number n) h l = absurd (omega (arith, h.0))
    pushes If h l = absurd (omega arith)
    pushes NotIf h l = absurd (omega arith)
    pushes Else h l = absurd (omega arith)
    pushes EndIf h l = absurd (omega arith)
    pushes Drop h l = absurd (omega arith)
    pushes Dup h l = absurd (omega arith)
    pushes Swap h l = absurd (omega arith)
    pushes Size h l = absurd (omega arith)
    pushes Equal h l = absurd (omega arith)
    pushes EqualVerify h l = absurd (omega arith)
    pushes Hash160 h l = absurd (omega arith)
    pushes CheckSig h l = absurd (omega arith)
    pushes CheckMultiSig h l = absurd (omega arith)
    pushes CheckLockTimeVerify h l = absurd (omega arith)
    pushes CheckSequenceVerify h l = absurd (omega arith)
short_splits (x ∷ xs) (y ∷ ys) b rest h k n l e =
    let e' = e ∙ ap (λ zs. code_of y ∷ zs) (append_assoc (payload_of y) (spelling ys) (b ∷ rest)) in
    short_splits xs ys b rest (All-tail IsOp x xs h) (All-tail IsOp y ys k) n l (same_rest x y (spelling xs) (spelling ys ++ (b ∷ rest)) (All-head IsOp x xs h) (All-head IsOp y ys k) e')

-- bytes split in one way
pub one_reading : (xs ys : List Op) (bytes : List ℕ) → Spells xs bytes → Spells ys bytes → xs ≡ ys
one_reading xs ys bytes s t = spelling-unique xs ys s.each t.each (s.same ∙ sym t.same)

-- bytes that split into opcodes have no fault except their length
pub no_reading : (ops : List Op) (bytes : List ℕ) (e : ParseError) → Spells ops bytes → length bytes ≤ 10000 → IsFault bytes e → e ≡ NoMemory
no_reading ops bytes NoMemory s l f = refl
no_reading ops bytes (BadOpcode at) s l f = let r = f.1.2 in absurd (bad_splits ops r.ops f.1.0 f.1.1 s.each r.each f.1.3 (s.same ∙ sym r.same))
no_reading ops bytes (Truncated at) s l f = let r = f.1.2 in absurd (short_splits ops r.ops f.1.0 f.1.1 s.each r.each f.1.3 f.1.4 (s.same ∙ sym r.same))
no_reading ops bytes TooLong s l f = absurd (omega (arith, f))

-- what a reading that names its fault says of any reading
pub exactly : (bytes : List ℕ) (r : Result (List Op) ParseError) → IfOk r (λ s. Spells s bytes) → IfErr r (IsFault bytes) → (ops : List Op) → Spells ops bytes → length bytes ≤ 10000 → MatchResult r (λ s. s ≡ ops) (λ e. e ≡ NoMemory)
exactly bytes (Ok s) o f ops h l = one_reading s ops bytes o h
exactly bytes (Err e) o f ops h l = no_reading ops bytes e h l f
