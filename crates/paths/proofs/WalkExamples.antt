-- More listings of scripts, by computing.
use Rattle.std.proofs.Common.{◌≡◌, ℕ, true, false, List, [], ◌∷◌, ◌++◌, Some, None, Ok, Err, replicate, refl}
use Rattle.script.specs.declared.opcode.Op.{Op}
use Rattle.script.specs.declared.opcode.Op.TheVariants.{Push, Number, If, Else, EndIf, Drop, Dup, Swap, Size, Equal, EqualVerify, Hash160, CheckSig, CheckMultiSig, CheckLockTimeVerify}
use Rattle.script.specs.Token.{is_key, is_signature, is_token}
use Rattle.script.specs.Number.{number_of, minimal_bytes_of, digits}
use Rattle.facts.specs.declared.symbols.KeySourceOver.TheVariants.{Const as FixedKey, Slot as SlotKey}
use Rattle.facts.specs.declared.symbols.FactOver.TheVariants.{Hash as HashIs, Size as SizeIs, Truth, Is, KeyForm, Form, Token, Assigned, Lock}
use Rattle.facts.specs.Symbols.{Stated}
use Rattle.facts.specs.Symbols.{Fact}
use Rattle.paths.specs.declared.errors.CheckError.TheVariants.{TooManyOps, TooManyPaths}
use Rattle.paths.specs.Rules.{rule_of, check_multi_sig}
use Rattle.paths.specs.Listing.{listing}

key_of : ℕ → List ℕ
key_of b = 2 ∷ replicate 32 b

yes : Fact → Stated
yes f = record { fact = f; holds = true }

no : Fact → Stated
no f = record { fact = f; holds = false }

-- the script of a key's hash
key_hash : List Op
key_hash = Dup ∷ Hash160 ∷ Push (replicate 20 0x33) ∷ EqualVerify ∷ CheckSig ∷ []

key_hash-listed : listing key_hash ≡ Ok (record { arity = 2; facts = yes (HashIs 0 (replicate 20 0x33)) ∷ yes (KeyForm 0) ∷ yes (Form 1) ∷ yes (Token 1 (SlotKey 0)) ∷ []; ops = 4; height = 4; lock = None; age = None } ∷ [])
unfolding yes key_hash listing rule_of check_multi_sig is_key is_signature is_token number_of minimal_bytes_of digits
key_hash-listed = refl

-- the script of a received HTLC (BOLT 3) that expires at height 500
received : List Op
received = Dup ∷ Hash160 ∷ Push (replicate 20 0x33) ∷ Equal ∷ If ∷ CheckSig ∷ Else ∷ Push (key_of 17) ∷ Swap ∷ Size ∷ Push (0x20 ∷ []) ∷ Equal ∷ If ∷ Hash160 ∷ Push (replicate 20 0x44) ∷ EqualVerify ∷ Number 2 ∷ Swap ∷ Push (key_of 34) ∷ Number 2 ∷ CheckMultiSig ∷ Else ∷ Drop ∷ Push (0xf4 ∷ 1 ∷ []) ∷ CheckLockTimeVerify ∷ Drop ∷ CheckSig ∷ EndIf ∷ EndIf ∷ []

received-listed : listing received ≡ Ok (
    record { arity = 2; facts = yes (HashIs 0 (replicate 20 0x33)) ∷ yes (KeyForm 0) ∷ yes (Form 1) ∷ yes (Token 1 (SlotKey 0)) ∷ []; ops = 21; height = 4; lock = None; age = None }
    ∷ record { arity = 4; facts = no (HashIs 0 (replicate 20 0x33)) ∷ yes (SizeIs 0 32) ∷ yes (HashIs 0 (replicate 20 0x44)) ∷ yes (Form 2) ∷ yes (Form 1) ∷ yes (Is 3 []) ∷ yes (Assigned (2 ∷ 1 ∷ []) (FixedKey (key_of 17) ∷ FixedKey (key_of 34) ∷ [])) ∷ []; ops = 23; height = 7; lock = None; age = None }
    ∷ record { arity = 2; facts = no (HashIs 0 (replicate 20 0x33)) ∷ no (SizeIs 0 32) ∷ yes (Lock 500) ∷ yes (Form 1) ∷ yes (Token 1 (FixedKey (key_of 17))) ∷ []; ops = 21; height = 5; lock = Some 500; age = None }
    ∷ [])
unfolding key_of yes no received listing rule_of check_multi_sig is_key is_signature is_token number_of minimal_bytes_of digits
received-listed = refl

-- a signature of bad form
dead-listed : listing (Size ∷ Push (0x14 ∷ []) ∷ CheckSig ∷ []) ≡ Ok []
unfolding listing rule_of check_multi_sig is_key is_signature is_token number_of minimal_bytes_of digits
dead-listed = refl

-- a hundred opcodes that count twice, and one more
counted-listed : listing (replicate 100 Dup ++ replicate 100 Drop ++ Number 1 ∷ Drop ∷ []) ≡ Ok (record { arity = 1; facts = yes (Truth 0) ∷ []; ops = 201; height = 101; lock = None; age = None } ∷ [])
unfolding yes listing rule_of check_multi_sig
counted-listed = refl

counted-refused : listing (replicate 101 Dup ++ replicate 101 Drop) ≡ Err TooManyOps
unfolding listing
counted-refused = refl

split-refused : listing (If ∷ Else ∷ EndIf ∷ If ∷ Else ∷ EndIf ∷ If ∷ Else ∷ EndIf ∷ If ∷ Else ∷ EndIf ∷ If ∷ Else ∷ EndIf ∷ If ∷ Else ∷ EndIf ∷ If ∷ Else ∷ EndIf ∷ []) ≡ Err TooManyPaths
unfolding listing rule_of check_multi_sig
split-refused = refl
