-- The script of an HTLC that a commitment offers (BOLT 3, "Offered HTLC Outputs").
use Rattle.std.specs.Prelude.{ℕ, Bool, ◌&&◌, ◌||◌, ◌==◌, List, [], ◌∷◌, length}
use Rattle.warnings.specs.Parts.{has_at}

-- DUP HASH160 push of 20 · EQUAL IF CHECKSIG ELSE push of 33 · SWAP SIZE 32 EQUAL NOTIF DROP 2 SWAP push of 33 · 2 CHECKMULTISIG ELSE HASH160 push of 20 · EQUALVERIFY CHECKSIG ENDIF
unfoldable pub has_offered_front : List ℕ → Bool
has_offered_front bytes =
    has_at 0 (0x76 ∷ 0xa9 ∷ 0x14 ∷ []) bytes
    && has_at 23 (0x87 ∷ 0x63 ∷ 0xac ∷ 0x67 ∷ 0x21 ∷ []) bytes
    && has_at 61 (0x7c ∷ 0x82 ∷ 0x01 ∷ 0x20 ∷ 0x87 ∷ 0x64 ∷ 0x75 ∷ 0x52 ∷ 0x7c ∷ 0x21 ∷ []) bytes
    && has_at 104 (0x52 ∷ 0xae ∷ 0x67 ∷ 0xa9 ∷ 0x14 ∷ []) bytes
    && has_at 129 (0x88 ∷ 0xac ∷ 0x68 ∷ []) bytes

-- then ENDIF or, with anchors, 1 CHECKSEQUENCEVERIFY DROP ENDIF
unfoldable pub is_offered_htlc : List ℕ → Bool
is_offered_htlc bytes =
    has_offered_front bytes
    && ((length bytes == 133 && has_at 132 (0x68 ∷ []) bytes) || (length bytes == 136 && has_at 132 (0x51 ∷ 0xb2 ∷ 0x75 ∷ 0x68 ∷ []) bytes))
