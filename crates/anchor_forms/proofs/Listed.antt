-- The ways through the scripts of HTLCs in a channel with anchors: those of their patterns, and those that stand for all fills.
use Rattle.std.proofs.Common.{◌≡◌, ℕ, ◌^◌, ◌<◌, true, false, List, [], ◌∷◌, length, Ok, refl}
use Rattle.std.specs.Prelude.{nat_lt}
use Rattle.script.specs.declared.opcode.Op.{Op}
use Rattle.script.specs.declared.opcode.Op.TheVariants.{Push, Number, If, Else, EndIf, Drop, Dup, Swap, Size, Equal, EqualVerify, Hash160, CheckSig, CheckMultiSig, CheckLockTimeVerify, CheckSequenceVerify}
use Rattle.script.specs.declared.limits.TheConstants.{LOCKTIME_THRESHOLD}
use Rattle.script.specs.Number.{number_of, minimal_bytes_of, digits}
use Rattle.script.specs.Token.{is_key, is_signature, is_token}
use Rattle.facts.specs.declared.symbols.KeySourceOver.TheVariants.{Const as FixedKey, Slot as SlotKey}
use Rattle.facts.specs.declared.symbols.FactOver.TheVariants.{Hash as HashIs, Size as SizeIs, Is, KeyForm, Form, Token, Assigned, Lock, Age}
use Rattle.paths.specs.declared.constants.HoleKind.TheVariants.{Key as ForKey, Hash as ForHash}
use Rattle.paths.specs.declared.constants.Constant.TheVariants.{Known, Hole}
use Rattle.paths.specs.declared.constants.Amount.TheVariants.{Known as KnownAmount, Hole as AmountHole}
use Rattle.paths.specs.declared.state.PatternPath.{PatternPath}
use Rattle.paths.specs.Holes.{Fact, Stated, fits}
use Rattle.paths.specs.HoleRules.{rule_of, check_multi_sig}
use Rattle.paths.specs.HoleListing.{pattern_listing}
use Rattle.paths.specs.Patterns.{pattern_of}
use Rattle.paths.specs.Filling.{filled_paths}
use Rattle.terms.specs.Scripts.{number_push}
use Rattle.forms.proofs.Pushes.{signed, by_push}
use Rattle.anchor_forms.specs.Scripts.{offered_with_anchors, received_with_anchors}
use Rattle.anchor_forms.specs.Ways.{offered_with_anchors_ways, received_with_anchors_ways}
use Rattle.anchor_forms.specs.Pieces.{offered_with_anchors_pieces, received_with_anchors_pieces}

abbrev yes : Fact → Stated
yes f = record { fact = f; holds = true }

abbrev no : Fact → Stated
no f = record { fact = f; holds = false }

abbrev one_block : Stated
one_block = yes (Age (KnownAmount 1))

-- the holes: the hash of the revocation key, the remote key, and with them the local key and the preimage's hash at these positions
abbrev revoked_by : ℕ → PatternPath
revoked_by ops = record { arity = 2; facts = yes (HashIs 0 (Hole ForHash 2)) ∷ yes (KeyForm 0) ∷ yes (Form 1) ∷ yes (Token 1 (SlotKey 0)) ∷ []; ops = ops; height = 4 }

abbrev both_sign : ℕ → List Stated
both_sign local = yes (Form 2) ∷ yes (Form 1) ∷ yes (Is 3 (Known [])) ∷ one_block ∷ yes (Assigned (2 ∷ 1 ∷ []) (FixedKey (Hole ForKey 7) ∷ FixedKey (Hole ForKey local) ∷ [])) ∷ []

abbrev remote_signs : List Stated
remote_signs = yes (Form 1) ∷ one_block ∷ yes (Token 1 (FixedKey (Hole ForKey 7))) ∷ []

abbrev takes_preimage : ℕ → List Stated → List Stated
takes_preimage payment facts = no (HashIs 0 (Hole ForHash 2)) ∷ yes (SizeIs 0 32) ∷ yes (HashIs 0 (Hole ForHash payment)) ∷ facts

abbrev takes_neither : List Stated → List Stated
takes_neither facts = no (HashIs 0 (Hole ForHash 2)) ∷ no (SizeIs 0 32) ∷ facts

abbrev pub offered_pattern : List PatternPath
offered_pattern =
    revoked_by 21
    ∷ record { arity = 4; facts = takes_neither (both_sign 16); ops = 23; height = 7 }
    ∷ record { arity = 2; facts = takes_preimage 21 remote_signs; ops = 21; height = 5 } ∷ []

abbrev pub received_pattern : List PatternPath
received_pattern =
    revoked_by 23
    ∷ record { arity = 4; facts = takes_preimage 14 (both_sign 18); ops = 25; height = 7 }
    ∷ record { arity = 2; facts = takes_neither (yes (Lock (AmountHole 23)) ∷ remote_signs); ops = 23; height = 5 } ∷ []

pub offered_is : pattern_of offered_with_anchors_pieces ≡ Ok offered_pattern
unfolding pattern_listing rule_of check_multi_sig number_of minimal_bytes_of digits is_key is_signature is_token
offered_is = refl

pub received_is : pattern_of received_with_anchors_pieces ≡ Ok received_pattern
unfolding pattern_listing rule_of check_multi_sig number_of minimal_bytes_of digits is_key is_signature is_token
received_is = refl

-- filled, they are the script's
pub offered_ways_are : (r remote local p : List ℕ) → length r ≡ 20 → length p ≡ 20 → is_key remote ≡ true → is_key local ≡ true → filled_paths (offered_with_anchors r remote local p) offered_pattern ≡ offered_with_anchors_ways r remote local p
unfolding fits
offered_ways_are r remote local p m n k l = rw (m, n, k, l) refl

-- a script with the number as an item, or as an opcode of its own
abbrev received_by : (o : Op) (r remote local p : List ℕ) → List Op
received_by o r remote local p =
    Dup ∷ Hash160 ∷ Push r ∷ Equal
    ∷ If ∷ CheckSig
    ∷ Else ∷ Push remote ∷ Swap ∷ Size ∷ number_push 32 ∷ Equal
    ∷ If ∷ Hash160 ∷ Push p ∷ EqualVerify ∷ Number 2 ∷ Swap ∷ Push local ∷ Number 2 ∷ CheckMultiSig
    ∷ Else ∷ Drop ∷ o ∷ CheckLockTimeVerify ∷ Drop ∷ CheckSig
    ∷ EndIf ∷ Number 1 ∷ CheckSequenceVerify ∷ Drop
    ∷ EndIf ∷ []

received_item : (r remote local p b : List ℕ) (n : ℕ) → length r ≡ 20 → length p ≡ 20 → is_key remote ≡ true → is_key local ≡ true → nat_lt n LOCKTIME_THRESHOLD ≡ true → number_of 5 b ≡ signed n
    → filled_paths (received_by (Push b) r remote local p) received_pattern ≡ received_with_anchors_ways r remote local p n
unfolding fits
received_item r remote local p b n h i k l low e = rw (h, i, k, l, e, low, e) refl

received_number : (r remote local p : List ℕ) (n : ℕ) → length r ≡ 20 → length p ≡ 20 → is_key remote ≡ true → is_key local ≡ true → nat_lt n LOCKTIME_THRESHOLD ≡ true → number_of 5 (n ∷ []) ≡ signed n
    → filled_paths (received_by (Number n) r remote local p) received_pattern ≡ received_with_anchors_ways r remote local p n
unfolding fits
received_number r remote local p n h i k l low e = rw (h, i, k, l, e, low, e) refl

pub received_ways_are : (r remote local p : List ℕ) (n : ℕ) → n < 2 ^ 32 → length r ≡ 20 → length p ≡ 20 → is_key remote ≡ true → is_key local ≡ true → nat_lt n LOCKTIME_THRESHOLD ≡ true
    → filled_paths (received_with_anchors r remote local p n) received_pattern ≡ received_with_anchors_ways r remote local p n
received_ways_are r remote local p n few h i k l low =
    by_push (λ op. filled_paths (received_by op r remote local p) received_pattern ≡ received_with_anchors_ways r remote local p n) n few
    (λ b short e. received_item r remote local p b n h i k l low e)
    (λ a b e. received_number r remote local p n h i k l low e)
