-- What the program of an output tells of its script, and a script of the keys in it.
use Rattle.std.proofs.Common.{◌≡◌, ℕ, List, [], ◌∷◌, ◌++◌, length, get_or, sym, ap, ◌∙◌, refl, arith, length-append}
use Rattle.sha2.specs.Sha256.{sha256}
use Rattle.digest.specs.Hash.{hash160}
use Rattle.digest.specs.Ripemd160.{ripemd160}
use Rattle.script.specs.declared.opcode.Op.TheVariants.{Push, Number, If, NotIf, Else, EndIf, Drop, Swap, Size, Equal, EqualVerify, Hash160, CheckSig, CheckMultiSig, CheckLockTimeVerify}
use Rattle.script.specs.declared.opcode.Op.TheVariants.{CheckSequenceVerify}
use Rattle.script.specs.Spelling.{spelling}
use Rattle.sighash.specs.Programs.{script_hash_program, key_hash_program}
use Rattle.terms.specs.Scripts.{number_push}
use Rattle.terms.specs.declared.htlcs.Htlc.{Htlc}
use Rattle.commit.specs.declared.fees.Direction.{Direction}
use Rattle.commit.specs.declared.fees.Direction.TheVariants.{Offered, Received}
use Rattle.commit.specs.Keys.{KeyBytes}
use Rattle.commit.specs.Outputs.{to_local_script, htlc_script}

-- ---- lists

-- equal beginnings of one length
pub same_front : (a b x y : List ℕ) → length a ≡ length b → a ++ x ≡ b ++ y → (a ≡ b) × (x ≡ y)
same_front [] [] x y len e = (refl, e)
same_front [] (d ∷ b) x y len e = absurd (omega (arith, len))
same_front (c ∷ a) [] x y len e = absurd (omega (arith, len))
same_front (c ∷ a) (d ∷ b) x y len e =
    let tails : a ++ x ≡ b ++ y = cc in
    let heads : c ≡ d = cc in
    let r = same_front a b x y (omega (arith, len)) tails in
    (rw (heads, r.0) refl, r.1)

-- what stands between a tag and another string, of one length
pub tagged : (tag k m p t : List ℕ) → length k ≡ length m → tag ++ k ++ p ≡ tag ++ m ++ t → k ≡ m
tagged tag k m p t len e =
    let h = same_front (tag ++ k) (tag ++ m) p t (omega (arith, len, length-append tag k, length-append tag m)) e in
    (same_front tag tag k m refl h.0).1

same_tails : (a b c d : ℕ) (x y : List ℕ) → a ∷ b ∷ x ≡ c ∷ d ∷ y → x ≡ y
same_tails a b c d x y e = cc

-- ---- programs

pub same_script_hash : (s t : List ℕ) → script_hash_program s ≡ script_hash_program t → sha256 s ≡ sha256 t
unfolding script_hash_program
same_script_hash s t e = same_tails 0x00 0x20 0x00 0x20 (sha256 s) (sha256 t) e

pub same_key_hash : (k m : List ℕ) → key_hash_program k ≡ key_hash_program m → hash160 k ≡ hash160 m
unfolding key_hash_program
same_key_hash k m e = same_tails 0x00 0x14 0x00 0x14 (hash160 k) (hash160 m) e

-- the hash of a script has 32 bytes, and that of a key has 20
pub script_or_key : (s k : List ℕ) → script_hash_program s ≡ key_hash_program k → ⊥
unfolding script_hash_program key_hash_program
script_or_key s k e = let f = ap (λ (x : List ℕ). get_or x 1 0) e in omega (arith, f)

-- ---- scripts

-- a push after one byte
same_push : (b : ℕ) (k m x y : List ℕ) → b ∷ length k ∷ (k ++ x) ≡ b ∷ length m ∷ (m ++ y) → k ≡ m
same_push b k m x y e =
    let len : length k ≡ length m = cc in
    let rest : k ++ x ≡ m ++ y = cc in
    (same_front k m x y len rest).0

-- what follows the revocation key in to_local
abbrev after_revocation : ℕ → KeyBytes → List ℕ
after_revocation delay_blocks k = spelling (Else ∷ number_push delay_blocks ∷ CheckSequenceVerify ∷ Drop ∷ Push k.delayed ∷ EndIf ∷ CheckSig ∷ [])

to_local_is : (delay_blocks : ℕ) (k : KeyBytes) → to_local_script delay_blocks k ≡ 0x63 ∷ length k.revocation ∷ (k.revocation ++ after_revocation delay_blocks k)
unfolding to_local_script
to_local_is delay_blocks k = refl

pub same_revocation : (n m : ℕ) (a b : KeyBytes) → to_local_script n a ≡ to_local_script m b → a.revocation ≡ b.revocation
same_revocation n m a b e = same_push 0x63 a.revocation b.revocation (after_revocation n a) (after_revocation m b) (sym (to_local_is n a) ∙ e ∙ to_local_is m b)

-- the HTLC's script up to its second push, of the peer's HTLC key, and what follows it
abbrev htlc_front : (revocation_hash remote rest : List ℕ) → List ℕ
htlc_front revocation_hash remote rest =
    0x76 ∷ 0xa9 ∷ length revocation_hash ∷ (revocation_hash ++ 0x87 ∷ 0x63 ∷ 0xac ∷ 0x67 ∷ length remote ∷ (remote ++ rest))

abbrev after_remote : KeyBytes → Direction → Htlc → List ℕ
after_remote k Offered h =
    spelling
    (Swap ∷ Size ∷ number_push 32 ∷ Equal ∷ NotIf ∷ Drop ∷ Number 2 ∷ Swap ∷ Push k.local_htlc ∷ Number 2 ∷ CheckMultiSig
    ∷ Else ∷ Hash160 ∷ Push (ripemd160 h.hash) ∷ EqualVerify ∷ CheckSig ∷ EndIf ∷ EndIf ∷ [])
after_remote k Received h =
    spelling
    (Swap ∷ Size ∷ number_push 32 ∷ Equal ∷ If ∷ Hash160 ∷ Push (ripemd160 h.hash) ∷ EqualVerify ∷ Number 2 ∷ Swap ∷ Push k.local_htlc ∷ Number 2 ∷ CheckMultiSig
    ∷ Else ∷ Drop ∷ number_push h.expiry_height ∷ CheckLockTimeVerify ∷ Drop ∷ CheckSig ∷ EndIf ∷ EndIf ∷ [])

htlc_is : (k : KeyBytes) (direction : Direction) (h : Htlc) → htlc_script k direction h ≡ htlc_front (hash160 k.revocation) k.remote_htlc (after_remote k direction h)
unfolding htlc_script
htlc_is k Offered h = refl
htlc_is k Received h = refl

same_second_push : (r s k m x y : List ℕ) → htlc_front r k x ≡ htlc_front s m y → k ≡ m
same_second_push r s k m x y e =
    let len : length r ≡ length s = cc in
    let rest : r ++ 0x87 ∷ 0x63 ∷ 0xac ∷ 0x67 ∷ length k ∷ (k ++ x) ≡ s ++ 0x87 ∷ 0x63 ∷ 0xac ∷ 0x67 ∷ length m ∷ (m ++ y) = cc in
    let tails : 0x87 ∷ 0x63 ∷ 0xac ∷ 0x67 ∷ length k ∷ (k ++ x) ≡ 0x87 ∷ 0x63 ∷ 0xac ∷ 0x67 ∷ length m ∷ (m ++ y) = (same_front r s _ _ len rest).1 in
    let push : 0x67 ∷ length k ∷ (k ++ x) ≡ 0x67 ∷ length m ∷ (m ++ y) = cc in
    same_push 0x67 k m x y push

pub same_remote_htlc : (a b : KeyBytes) (d e : Direction) (h g : Htlc) → htlc_script a d h ≡ htlc_script b e g → a.remote_htlc ≡ b.remote_htlc
same_remote_htlc a b d e h g s =
    same_second_push (hash160 a.revocation) (hash160 b.revocation) a.remote_htlc b.remote_htlc (after_remote a d h) (after_remote b e g) (sym (htlc_is a d h) ∙ s ∙ htlc_is b e g)

-- to_local begins with IF, and an HTLC's script with DUP
pub to_local_or_htlc : (n : ℕ) (a b : KeyBytes) (d : Direction) (h : Htlc) → to_local_script n a ≡ htlc_script b d h → ⊥
to_local_or_htlc n a b d h e = let f = ap (λ (x : List ℕ). get_or x 0 0) (sym (to_local_is n a) ∙ e ∙ htlc_is b d h) in omega (arith, f)
