-- The listings of small scripts, by computing.
use Rattle.std.proofs.Common.{◌≡◌, ℕ, true, false, List, [], ◌∷◌, Some, None, Ok, Err, replicate, refl}
use Rattle.script.specs.declared.opcode.Op.{Op}
use Rattle.script.specs.declared.opcode.Op.TheVariants.{Push, Number, If, NotIf, Else, EndIf, Drop, Dup, Swap, Size, Equal, EqualVerify, Hash160, CheckSig, CheckMultiSig, CheckSequenceVerify}
use Rattle.script.specs.Token.{is_key, is_signature, is_token}
use Rattle.script.specs.Number.{number_of, minimal_bytes_of, digits}
use Rattle.facts.specs.declared.symbols.KeySourceOver.TheVariants.{Const as FixedKey, Slot as SlotKey}
use Rattle.facts.specs.declared.symbols.FactOver.TheVariants.{Hash as HashIs, Size as SizeIs, Truth, Is, KeyForm, Form, Token, Assigned, Age}
use Rattle.facts.specs.Symbols.{Stated}
use Rattle.facts.specs.Symbols.{Fact}
use Rattle.paths.specs.declared.errors.CheckError.TheVariants.{OpenBranch}
use Rattle.paths.specs.Rules.{rule_of, check_multi_sig}
use Rattle.paths.specs.Listing.{listing}

key_of : ℕ → List ℕ
key_of b = 2 ∷ replicate 32 b

yes : Fact → Stated
yes f = record { fact = f; holds = true }

no : Fact → Stated
no f = record { fact = f; holds = false }

to_local : List Op
to_local = If ∷ Push (key_of 17) ∷ Else ∷ Push (0x90 ∷ 0 ∷ []) ∷ CheckSequenceVerify ∷ Drop ∷ Push (key_of 34) ∷ EndIf ∷ CheckSig ∷ []

to_local-listed : listing to_local ≡ Ok (
    record { arity = 2; facts = yes (Truth 0) ∷ yes (Form 1) ∷ yes (Token 1 (FixedKey (key_of 17))) ∷ []; ops = 6; height = 2; lock = None; age = None }
    ∷ record { arity = 2; facts = no (Truth 0) ∷ yes (Age 144) ∷ yes (Form 1) ∷ yes (Token 1 (FixedKey (key_of 34))) ∷ []; ops = 6; height = 2; lock = None; age = Some 144 }
    ∷ [])
unfolding key_of yes no to_local listing rule_of check_multi_sig is_key is_signature is_token number_of
to_local-listed = refl

empty-listed : listing [] ≡ Ok (record { arity = 1; facts = yes (Truth 0) ∷ []; ops = 0; height = 1; lock = None; age = None } ∷ [])
unfolding yes listing rule_of
empty-listed = refl

open-refused : listing (If ∷ Number 1 ∷ []) ≡ Err OpenBranch
unfolding listing
open-refused = refl

offered : List Op
offered = Dup ∷ Hash160 ∷ Push (replicate 20 0x33) ∷ Equal ∷ If ∷ CheckSig ∷ Else ∷ Push (key_of 17) ∷ Swap ∷ Size ∷ Push (0x20 ∷ []) ∷ Equal ∷ NotIf ∷ Drop ∷ Number 2 ∷ Swap ∷ Push (key_of 34) ∷ Number 2 ∷ CheckMultiSig ∷ Else ∷ Hash160 ∷ Push (replicate 20 0x44) ∷ EqualVerify ∷ CheckSig ∷ EndIf ∷ EndIf ∷ []

offered-listed : listing offered ≡ Ok (
    record { arity = 2; facts = yes (HashIs 0 (replicate 20 0x33)) ∷ yes (KeyForm 0) ∷ yes (Form 1) ∷ yes (Token 1 (SlotKey 0)) ∷ []; ops = 19; height = 4; lock = None; age = None }
    ∷ record { arity = 4; facts = no (HashIs 0 (replicate 20 0x33)) ∷ no (SizeIs 0 32) ∷ yes (Form 2) ∷ yes (Form 1) ∷ yes (Is 3 []) ∷ yes (Assigned (2 ∷ 1 ∷ []) (FixedKey (key_of 17) ∷ FixedKey (key_of 34) ∷ [])) ∷ []; ops = 21; height = 7; lock = None; age = None }
    ∷ record { arity = 2; facts = no (HashIs 0 (replicate 20 0x33)) ∷ yes (SizeIs 0 32) ∷ yes (HashIs 0 (replicate 20 0x44)) ∷ yes (Form 1) ∷ yes (Token 1 (FixedKey (key_of 17))) ∷ []; ops = 19; height = 5; lock = None; age = None }
    ∷ [])
unfolding key_of yes no offered listing rule_of check_multi_sig is_key is_signature is_token number_of minimal_bytes_of digits
offered-listed = refl
