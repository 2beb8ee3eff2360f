-- Which bytes spell a script, and which plain claims are refused.
use Rattle.std.proofs.Common.{◌≡◌, ℕ, List, [], ◌∷◌, map, replicate, Some, None, refl}
use Rattle.script.specs.declared.opcode.Op.TheVariants.{Push, Number, If, NotIf, Else, EndIf, Drop, Dup, Swap, Size, Equal, EqualVerify, Hash160, CheckSig, CheckMultiSig, CheckLockTimeVerify, CheckSequenceVerify}
use Rattle.claim.specs.declared.parts.Shell.TheVariants.{Open as OpenShell}
use Rattle.claim.specs.Opcodes.{ops_in, ops_of}
use Rattle.texts.specs.declared.claims.PlainClaim.{PlainClaim}
use Rattle.plain_claims.specs.declared.errors.ClaimError.TheVariants.{NoMemory, BadClaim}
use Rattle.plain_claims.specs.Refusals.{claim_error_number}
use Rattle.plain_claims.specs.Claims.{checked_of, claim_of, claims_of}

-- each opcode by its byte, pushes of 0, 2 and 75 bytes, the numbers 1 and 16, and bytes that spell no opcode
opcodes : (ops_of [] ≡ Some [])
    × (ops_of (0x63 ∷ 0x64 ∷ 0x67 ∷ 0x68 ∷ 0x75 ∷ 0x76 ∷ 0x7c ∷ 0x82 ∷ []) ≡ Some (If ∷ NotIf ∷ Else ∷ EndIf ∷ Drop ∷ Dup ∷ Swap ∷ Size ∷ []))
    × (ops_of (0x87 ∷ 0x88 ∷ 0xa9 ∷ 0xac ∷ 0xae ∷ 0xb1 ∷ 0xb2 ∷ []) ≡ Some (Equal ∷ EqualVerify ∷ Hash160 ∷ CheckSig ∷ CheckMultiSig ∷ CheckLockTimeVerify ∷ CheckSequenceVerify ∷ []))
    × (ops_of (0x00 ∷ 0x02 ∷ 0xff ∷ 0x63 ∷ 0x51 ∷ 0x60 ∷ []) ≡ Some (Push [] ∷ Push (0xff ∷ 0x63 ∷ []) ∷ Number 1 ∷ Number 16 ∷ []))
    × (ops_of (75 ∷ replicate 75 9) ≡ Some (Push (replicate 75 9) ∷ []))
    × (ops_of (75 ∷ replicate 74 9) ≡ None)
    × (ops_of (76 ∷ replicate 76 9) ≡ None)
    × (ops_of (0x50 ∷ []) ≡ None)
    × (ops_of (0x61 ∷ []) ≡ None)
    × (ops_of (0x51 ∷ 0xb3 ∷ []) ≡ None)
    × (ops_of (0x02 ∷ 0xff ∷ []) ≡ None)
unfolding ops_of ops_in
opcodes = (refl, refl, refl, refl, refl, refl, refl, refl, refl, refl, refl)

-- a claim whose script `parse` refuses, and one whose script `check` refuses
abbrev bad_claim : List ℕ → PlainClaim
bad_claim script = record { script = script; path = 0; slots = []; place = record { outpoint = record { txid = replicate 32 7; index = 0 }; value = 1; program = [] }; shell = OpenShell }

bad_claims : (claim_of (bad_claim (0x50 ∷ [])) ≡ None)
    × (claims_of (bad_claim (0x50 ∷ []) ∷ []) ≡ None)
    × (claims_of [] ≡ Some [])
unfolding claim_of claims_of checked_of ops_of ops_in
bad_claims = (refl, refl, refl)

numbers : map claim_error_number (NoMemory ∷ BadClaim ∷ []) ≡ 0 ∷ 1 ∷ []
numbers = refl
