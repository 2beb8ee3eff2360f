-- The opcodes of BOLT 3's scripts, and the bytes that spell them.
use Rattle.std.proofs.Common.{rules, ◌≡◌, ◌≢◌, ℕ, zero, suc, ◌+◌, ◌*◌, ◌/◌, ◌%◌, ◌<◌, ◌≤◌, Bool, true, false, eqb, leb, List, [], ◌∷◌, ◌++◌, length, length-append, ap, subst, ◌∙◌, sym, refl, arith}
use Rattle.std.specs.Prelude.{if◌then◌else◌, nat_lt, ◌&&◌, Result, Ok, Err, MatchResult}
use Rattle.std.specs.List.{All, concat}
use Rattle.std.proofs.lemmas.List.{append-nil}
use Rattle.std.proofs.lemmas.List.Elements.{All-cons, All-nil}
use Rattle.std.proofs.lemmas.Bool.{le-leb, lt-leb, leb-true, ne_eqb}
use Rattle.script.specs.declared.opcode.Op.{Op}
use Rattle.script.specs.declared.opcode.Op.TheVariants.{Push, Number}
use Rattle.script.specs.Number.{lowest, digits, minimal_bytes_of}
use Rattle.script.specs.Spelling.{IsOp, code_of, payload_of, spelling}
use Rattle.enforce_c.specs.declared.statuses.Refusal.{Refusal}
use Rattle.enforce_c.specs.declared.statuses.Refusal.TheVariants.{NoMemory}
use Rattle.enforce_c.specs.FormScripts.{IsWritten}
use Rattle.terms.specs.Scripts.{number_push, to_local, offered, received}
use Rattle.anchor_forms.specs.Scripts.{offered_with_anchors, received_with_anchors}

-- the push of 0, of a number that has an opcode of its own, and of a larger one
pub none : (n : ℕ) → n ≡ 0 → spelling (number_push n ∷ []) ≡ 0 ∷ []
unfolding number_push
none n z = rw z refl

pub small : (n : ℕ) → n ≢ 0 → n ≤ 16 → spelling (number_push n ∷ []) ≡ (80 + n) ∷ []
unfolding number_push
small n some few =
    let z : eqb n 0 ≡ false = ne_eqb n 0 some in
    let l : leb n 16 ≡ true = le-leb n 16 few in
    rw (z, l) refl

pub large : (n : ℕ) (item : List ℕ) → n ≢ 0 → 16 < n → item ≡ minimal_bytes_of n → spelling (number_push n ∷ []) ≡ length item ∷ item
unfolding number_push
large n item some many e =
    let z : eqb n 0 ≡ false = ne_eqb n 0 some in
    let l : leb n 16 ≡ false = lt-leb n 16 many in
    rw (z, l, sym e, append-nil) refl

-- 32 is pushed as one byte
pub thirty_two : number_push 32 ≡ Push (32 ∷ [])
unfolding number_push minimal_bytes_of digits
thirty_two = refl

-- a number's item is short
short_lowest : (n : ℕ) → length (lowest n) ≤ 2
short_lowest n = by_test (leb 128 n && nat_lt n 256)
  where
    by_test : (b : Bool) → length (if b then n ∷ 0 ∷ [] else n % 256 ∷ []) ≤ 2
    by_test true = omega arith
    by_test false = omega arith

short_digits : (most n : ℕ) → length (digits most n) ≤ 2 * most
unfolding digits
short_digits zero n = omega arith
short_digits (suc more) n = by_test (eqb n 0) (short_digits more (n / 256))
  where
    by_test : (b : Bool) → length (digits more (n / 256)) ≤ 2 * more → length (if b then [] else lowest n ++ digits more (n / 256)) ≤ 2 * suc more
    by_test true rest = omega arith
    by_test false rest = omega (arith, length-append (lowest n) (digits more (n / 256)), short_lowest n)

short : (n : ℕ) → length (minimal_bytes_of n) ≤ 75
unfolding minimal_bytes_of
short n = omega (arith, short_digits 9 n)

positive : (n : ℕ) → eqb n 0 ≡ false → 1 ≤ n
positive zero e = absurd (let t : true ≡ false = e in cc)
positive (suc m) e = omega arith

-- a number's push is an opcode
is_op : (n : ℕ) → IsOp (number_push n)
unfolding number_push
is_op n = by_tests (eqb n 0) (leb n 16) refl refl
  where
    by_tests : (z l : Bool) → eqb n 0 ≡ z → leb n 16 ≡ l → IsOp (if z then Push [] else (if l then Number n else Push (minimal_bytes_of n)))
    by_tests true l e f = omega arith
    by_tests false true e f = (positive n e, leb-true n 16 f)
    by_tests false false e f = short n

pub short_item : (n : ℕ) (item : List ℕ) → item ≡ minimal_bytes_of n → length item ≤ 75
short_item n item e = rw e (short n)

-- each of these is an opcode
AreOps : List Op → Type 0
AreOps [] = Unit {0}
AreOps (op ∷ ops) = IsOp op × AreOps ops

each : (ops : List Op) → AreOps ops → All IsOp ops
unfolding AreOps
each [] all = All-nil IsOp
each (op ∷ ops) all = All-cons IsOp op ops all.0 (each ops all.1)

pub to_local_ops : (revocation delayed : List ℕ) (n : ℕ) → length revocation ≡ 33 → length delayed ≡ 33 → All IsOp (to_local revocation n delayed)
unfolding AreOps
to_local_ops revocation delayed n r d = each (to_local revocation n delayed) (search (rules, is_op))

offered_ops : (revocation remote local payment : List ℕ) → length revocation ≡ 20 → length remote ≡ 33 → length local ≡ 33 → length payment ≡ 20 → All IsOp (offered revocation remote local payment)
unfolding AreOps
offered_ops revocation remote local payment r m l p = each (offered revocation remote local payment) (search (rules, is_op))

received_ops : (revocation remote local payment : List ℕ) (n : ℕ) → length revocation ≡ 20 → length remote ≡ 33 → length local ≡ 33 → length payment ≡ 20 → All IsOp (received revocation remote local payment n)
unfolding AreOps
received_ops revocation remote local payment n r m l p = each (received revocation remote local payment n) (search (rules, is_op))

offered_with_anchors_ops : (revocation remote local payment : List ℕ) → length revocation ≡ 20 → length remote ≡ 33 → length local ≡ 33 → length payment ≡ 20 → All IsOp (offered_with_anchors revocation remote local payment)
unfolding AreOps
offered_with_anchors_ops revocation remote local payment r m l p = each (offered_with_anchors revocation remote local payment) (search (rules, is_op))

received_with_anchors_ops : (revocation remote local payment : List ℕ) (n : ℕ) → length revocation ≡ 20 → length remote ≡ 33 → length local ≡ 33 → length payment ≡ 20 → All IsOp (received_with_anchors revocation remote local payment n)
unfolding AreOps
received_with_anchors_ops revocation remote local payment n r m l p = each (received_with_anchors revocation remote local payment n) (search (rules, is_op))

-- the bytes of one opcode
alone : (op : Op) → spelling (op ∷ []) ≡ code_of op ∷ payload_of op
alone op = ap (λ payload. code_of op ∷ payload) (append-nil (payload_of op))

-- the parts of these scripts, one after another
abbrev pub to_local_parts : (revocation delay delayed : List ℕ) → List ℕ
to_local_parts revocation delay delayed = concat ((0x63 ∷ 33 ∷ []) ∷ revocation ∷ (0x67 ∷ []) ∷ delay ∷ (0xb2 ∷ 0x75 ∷ 33 ∷ []) ∷ delayed ∷ (0x68 ∷ 0xac ∷ []) ∷ [])

abbrev pub offered_parts : (revocation remote local payment end : List ℕ) → List ℕ
offered_parts revocation remote local payment end =
    concat ((0x76 ∷ 0xa9 ∷ 20 ∷ []) ∷ revocation ∷ (0x87 ∷ 0x63 ∷ 0xac ∷ 0x67 ∷ 33 ∷ []) ∷ remote ∷ (0x7c ∷ 0x82 ∷ 1 ∷ 32 ∷ 0x87 ∷ 0x64 ∷ 0x75 ∷ 0x52 ∷ 0x7c ∷ 33 ∷ []) ∷ local
    ∷ (0x52 ∷ 0xae ∷ 0x67 ∷ 0xa9 ∷ 20 ∷ []) ∷ payment ∷ (0x88 ∷ 0xac ∷ 0x68 ∷ end) ∷ [])

abbrev pub received_parts : (revocation remote local payment expiry end : List ℕ) → List ℕ
received_parts revocation remote local payment expiry end =
    concat ((0x76 ∷ 0xa9 ∷ 20 ∷ []) ∷ revocation ∷ (0x87 ∷ 0x63 ∷ 0xac ∷ 0x67 ∷ 33 ∷ []) ∷ remote ∷ (0x7c ∷ 0x82 ∷ 1 ∷ 32 ∷ 0x87 ∷ 0x63 ∷ 0xa9 ∷ 20 ∷ []) ∷ payment ∷ (0x88 ∷ 0x52 ∷ 0x7c ∷ 33 ∷ []) ∷ local
    ∷ (0x52 ∷ 0xae ∷ 0x67 ∷ 0x75 ∷ []) ∷ expiry ∷ (0xb1 ∷ 0x75 ∷ 0xac ∷ 0x68 ∷ end) ∷ [])

-- what ends an HTLC's script, without anchors and with them
abbrev pub plain_end : List ℕ
plain_end = 0x68 ∷ []

abbrev pub anchor_end : List ℕ
anchor_end = 0x51 ∷ 0xb2 ∷ 0x75 ∷ 0x68 ∷ []

-- they spell the script, unless memory ran out
spelled : (r : Result (List ℕ) Refusal) (ops : List Op) (parts : List ℕ) → All IsOp ops → parts ≡ spelling ops → MatchResult r (λ b. b ≡ parts) (λ e. e ≡ NoMemory) → IsWritten ops r
spelled (Ok bytes) ops parts all same is = record { each = all; same = sym same ∙ sym is }
spelled (Err e) ops parts all same is = is

pub large_joined : (r : Result (List ℕ) Refusal) (n m byte : ℕ) (item bytes : List ℕ) → n ≢ 0 → 16 < n → m ≡ n → item ≡ minimal_bytes_of m → bytes ≡ item → byte ≡ length item
    → MatchResult r (λ b. b ≡ concat ((byte ∷ []) ∷ bytes ∷ [])) (λ e. e ≡ NoMemory) → MatchResult r (λ b. b ≡ spelling (number_push n ∷ [])) (λ e. e ≡ NoMemory)
large_joined r n m byte item bytes some many s i b l is =
    let parts : List ℕ = concat ((byte ∷ []) ∷ bytes ∷ []) in
    let same : parts ≡ spelling (number_push n ∷ []) = rw (b, l, append-nil) (sym (large n item some many (i ∙ ap minimal_bytes_of s))) in
    subst (λ p. MatchResult r (λ b. b ≡ p) (λ e. e ≡ NoMemory)) same is

pub to_local_spells : (r : Result (List ℕ) Refusal) (revocation delayed delay : List ℕ) (n m : ℕ) → length revocation ≡ 33 → length delayed ≡ 33 → m ≡ n → delay ≡ spelling (number_push m ∷ [])
    → MatchResult r (λ b. b ≡ to_local_parts revocation delay delayed) (λ e. e ≡ NoMemory) → IsWritten (to_local revocation n delayed) r
to_local_spells r revocation delayed delay n m v d s push =
    spelled r (to_local revocation n delayed) (to_local_parts revocation delay delayed) (to_local_ops revocation delayed n v d) (rw (push ∙ alone (number_push m), s, v, d) refl)

pub offered_spells : (r : Result (List ℕ) Refusal) (revocation remote local payment hash made : List ℕ) → length revocation ≡ 20 → length remote ≡ 33 → length local ≡ 33 → length payment ≡ 20 → hash ≡ revocation → made ≡ payment
    → MatchResult r (λ b. b ≡ offered_parts hash remote local made plain_end) (λ e. e ≡ NoMemory) → IsWritten (offered revocation remote local payment) r
offered_spells r revocation remote local payment hash made v m l p h i =
    spelled r (offered revocation remote local payment) (offered_parts hash remote local made plain_end) (offered_ops revocation remote local payment v m l p) (rw (h, i, thirty_two, v, m, l, p) refl)

pub offered_with_anchors_spells : (r : Result (List ℕ) Refusal) (revocation remote local payment hash made : List ℕ) → length revocation ≡ 20 → length remote ≡ 33 → length local ≡ 33 → length payment ≡ 20 → hash ≡ revocation → made ≡ payment
    → MatchResult r (λ b. b ≡ offered_parts hash remote local made anchor_end) (λ e. e ≡ NoMemory) → IsWritten (offered_with_anchors revocation remote local payment) r
offered_with_anchors_spells r revocation remote local payment hash made v m l p h i =
    spelled r (offered_with_anchors revocation remote local payment) (offered_parts hash remote local made anchor_end) (offered_with_anchors_ops revocation remote local payment v m l p) (rw (h, i, thirty_two, v, m, l, p) refl)

pub received_spells : (r : Result (List ℕ) Refusal) (revocation remote local payment hash made expiry : List ℕ) (n : ℕ) → length revocation ≡ 20 → length remote ≡ 33 → length local ≡ 33 → length payment ≡ 20
    → hash ≡ revocation → made ≡ payment → expiry ≡ spelling (number_push n ∷ [])
    → MatchResult r (λ b. b ≡ received_parts hash remote local made expiry plain_end) (λ e. e ≡ NoMemory) → IsWritten (received revocation remote local payment n) r
received_spells r revocation remote local payment hash made expiry n v m l p h i push =
    spelled r (received revocation remote local payment n) (received_parts hash remote local made expiry plain_end) (received_ops revocation remote local payment n v m l p) (rw (h, i, push ∙ alone (number_push n), thirty_two, v, m, l, p) refl)

pub received_with_anchors_spells : (r : Result (List ℕ) Refusal) (revocation remote local payment hash made expiry : List ℕ) (n : ℕ) → length revocation ≡ 20 → length remote ≡ 33 → length local ≡ 33 → length payment ≡ 20
    → hash ≡ revocation → made ≡ payment → expiry ≡ spelling (number_push n ∷ [])
    → MatchResult r (λ b. b ≡ received_parts hash remote local made expiry anchor_end) (λ e. e ≡ NoMemory) → IsWritten (received_with_anchors revocation remote local payment n) r
received_with_anchors_spells r revocation remote local payment hash made expiry n v m l p h i push =
    spelled r (received_with_anchors revocation remote local payment n) (received_parts hash remote local made expiry anchor_end) (received_with_anchors_ops revocation remote local payment n v m l p) (rw (h, i, push ∙ alone (number_push n), thirty_two, v, m, l, p) refl)
