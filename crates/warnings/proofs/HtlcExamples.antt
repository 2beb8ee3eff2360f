-- The script of an offered HTLC in BOLT 3, appendix C (HTLC 2, which is offered), with zeros for its keys and hashes.
use Rattle.std.proofs.Common.{◌≡◌, ℕ, true, false, List, [], ◌∷◌, ◌++◌, map, refl}
use Rattle.std.specs.Prelude.{replicate}
use Rattle.warnings.specs.Htlcs.{is_offered_htlc, has_offered_front}

abbrev offered : List ℕ → List ℕ
offered end =
    (0x76 ∷ 0xa9 ∷ 0x14 ∷ replicate 20 0) ++ (0x87 ∷ 0x63 ∷ 0xac ∷ 0x67 ∷ 0x21 ∷ replicate 33 0)
    ++ (0x7c ∷ 0x82 ∷ 0x01 ∷ 0x20 ∷ 0x87 ∷ 0x64 ∷ 0x75 ∷ 0x52 ∷ 0x7c ∷ 0x21 ∷ replicate 33 0)
    ++ (0x52 ∷ 0xae ∷ 0x67 ∷ 0xa9 ∷ 0x14 ∷ replicate 20 0) ++ (0x88 ∷ 0xac ∷ 0x68 ∷ end)

-- with IF in place of NOTIF it is that of a received HTLC, which has more opcodes
abbrev received : List ℕ
received =
    (0x76 ∷ 0xa9 ∷ 0x14 ∷ replicate 20 0) ++ (0x87 ∷ 0x63 ∷ 0xac ∷ 0x67 ∷ 0x21 ∷ replicate 33 0)
    ++ (0x7c ∷ 0x82 ∷ 0x01 ∷ 0x20 ∷ 0x87 ∷ 0x63 ∷ 0xa9 ∷ 0x14 ∷ replicate 20 0) ++ (0x88 ∷ 0x52 ∷ 0x7c ∷ 0x21 ∷ replicate 33 0)
    ++ (0x52 ∷ 0xae ∷ 0x67 ∷ 0x75 ∷ 0x02 ∷ 0xf4 ∷ 0x01 ∷ 0xb1 ∷ 0x75 ∷ 0xac ∷ 0x68 ∷ 0x68 ∷ [])

-- without anchors, with them, with other ends, and received
htlcs : map is_offered_htlc (
    offered (0x68 ∷ []) ∷ offered (0x51 ∷ 0xb2 ∷ 0x75 ∷ 0x68 ∷ []) ∷ offered [] ∷ offered (0x67 ∷ []) ∷ offered (0x68 ∷ 0x51 ∷ []) ∷ offered (0x52 ∷ 0xb2 ∷ 0x75 ∷ 0x68 ∷ []) ∷ received ∷ [] ∷ [])
    ≡ true ∷ true ∷ false ∷ false ∷ false ∷ false ∷ false ∷ false ∷ []
unfolding is_offered_htlc has_offered_front
htlcs = refl
