-- Each status and each number that a refusal carries, stated once more: a family times 256 and the refusal's number in it.
use Rattle.std.proofs.Common.{◌≡◌, true, false, [], ◌∷◌, map, refl}
use Rattle.script.specs.declared.parse.ParseError.TheVariants.{NoMemory as ParseMemory, BadOpcode, Truncated, TooLong}
use Rattle.paths.specs.declared.errors.CheckError.TheVariants.{NoMemory as ListMemory, OpenBranch, TooManyOps, Undecided, TooManyPaths, TooTall}
use Rattle.facts.specs.declared.symbols.KeySourceOver.TheVariants.{Slot as SlotKey}
use Rattle.facts.specs.declared.symbols.FactOver.TheVariants.{Hash, Size, Truth, Is, KeyForm, Form, Token, Assigned, Lock, Age}
use Rattle.tx.specs.declared.errors.FieldError.TheVariants.{NoInputs, ValueTooLarge, OverLimit}
use Rattle.tx.specs.declared.errors.EncodeError.TheVariants.{NoMemory as EncodeMemory, NoWitness}
use Rattle.tx.specs.declared.errors.DecodeError.TheVariants as decode
use Rattle.claim.specs.declared.errors.AcceptError.TheVariants.{NoMemory as AcceptMemory, NoSuchPath, WrongArity, Unmet, Contradiction, WrongProgram, WrongShell}
use Rattle.filling.specs.declared.errors.SpendError.TheVariants.{NoMemory as SpendMemory, FixedTransaction, SameOutpoint, OutputsExceed, MeasuredSignature, NoPreimage}
use Rattle.enforce_c.specs.declared.statuses.Refusal.TheVariants.{NoMemory, Parse, Check, NoSuchForm, NotAKey, NotAHeight, OutOfRange, NoSuchSlot, ItemTooLong, SlotOutOfRange, Accept, Field, Spend, Encode, Decode, NoSuchChannelType, NotACommitmentKey, NoSuchDirection, ExpiryTooLarge, NoSuchClose}
use Rattle.enforce_c.specs.Statuses.{parse_status, check_status, accept_status, spend_status, field_status, encode_status, decode_status, status_of, parse_number, check_number, slot_of, accept_number, number_of}

parse_statuses : map parse_status (ParseMemory ∷ BadOpcode 7 ∷ Truncated 8 ∷ TooLong ∷ []) ≡ 1 ∷ 257 ∷ 258 ∷ 259 ∷ []
parse_statuses = refl

check_statuses : map check_status (ListMemory ∷ OpenBranch ∷ TooManyOps ∷ Undecided 9 ∷ TooManyPaths ∷ TooTall ∷ []) ≡ 1 ∷ 513 ∷ 514 ∷ 515 ∷ 516 ∷ 517 ∷ []
check_statuses = refl

accept_statuses : map accept_status (AcceptMemory ∷ NoSuchPath ∷ WrongArity ∷ Unmet (record { fact = Truth 3; holds = true }) ∷ Contradiction ∷ WrongProgram ∷ WrongShell ∷ []) ≡ 1 ∷ 769 ∷ 770 ∷ 771 ∷ 772 ∷ 773 ∷ 774 ∷ []
accept_statuses = refl

spend_statuses : map spend_status (SpendMemory ∷ FixedTransaction ∷ SameOutpoint ∷ OutputsExceed ∷ MeasuredSignature ∷ NoPreimage ∷ []) ≡ 1 ∷ 1281 ∷ 1282 ∷ 1283 ∷ 1284 ∷ 1285 ∷ []
spend_statuses = refl

field_statuses : map field_status (NoInputs ∷ ValueTooLarge ∷ OverLimit ∷ []) ≡ 1540 ∷ 1542 ∷ 1544 ∷ []
field_statuses = refl

encode_statuses : map encode_status (EncodeMemory ∷ NoWitness ∷ []) ≡ 1 ∷ 1541 ∷ []
encode_statuses = refl

decode_statuses : map decode_status (decode.NoMemory ∷ decode.Truncated ∷ decode.LongCount ∷ decode.BadMarker ∷ decode.NoInputs ∷ decode.NoWitness ∷ decode.ValueTooLarge ∷ decode.Trailing ∷ decode.OverLimit ∷ [])
    ≡ 1 ∷ 1537 ∷ 1538 ∷ 1539 ∷ 1540 ∷ 1541 ∷ 1542 ∷ 1543 ∷ 1544 ∷ []
decode_statuses = refl

statuses : map status_of (NoMemory ∷ Parse (BadOpcode 7) ∷ Parse TooLong ∷ Check (Undecided 9) ∷ Check TooTall ∷ NoSuchForm ∷ NotAKey 2 ∷ NotAHeight ∷ []) ≡ 1 ∷ 257 ∷ 259 ∷ 515 ∷ 517 ∷ 1025 ∷ 1026 ∷ 1027 ∷ []
statuses = refl

more_statuses : map status_of (OutOfRange ∷ NoSuchSlot 2 ∷ ItemTooLong 3 ∷ SlotOutOfRange 4 ∷ Accept NoSuchPath ∷ Accept WrongShell ∷ Spend SameOutpoint ∷ Spend NoPreimage ∷ Field NoInputs ∷ Field OverLimit ∷ Encode EncodeMemory ∷ Encode NoWitness ∷ [])
    ≡ 1793 ∷ 1794 ∷ 1795 ∷ 1796 ∷ 769 ∷ 774 ∷ 1282 ∷ 1285 ∷ 1540 ∷ 1544 ∷ 1 ∷ 1541 ∷ []
more_statuses = refl

parse_numbers : map parse_number (ParseMemory ∷ BadOpcode 7 ∷ BadOpcode 70 ∷ Truncated 8 ∷ Truncated 80 ∷ TooLong ∷ []) ≡ 0 ∷ 7 ∷ 70 ∷ 8 ∷ 80 ∷ 0 ∷ []
parse_numbers = refl

check_numbers : map check_number (ListMemory ∷ OpenBranch ∷ TooManyOps ∷ Undecided 9 ∷ Undecided 90 ∷ TooManyPaths ∷ TooTall ∷ []) ≡ 0 ∷ 0 ∷ 0 ∷ 9 ∷ 90 ∷ 0 ∷ 0 ∷ []
check_numbers = refl

numbers : map number_of (NoMemory ∷ Parse (BadOpcode 7) ∷ Parse (Truncated 8) ∷ Check (Undecided 9) ∷ Check TooTall ∷ NoSuchForm ∷ NotAKey 2 ∷ NotAKey 20 ∷ NotAHeight ∷ []) ≡ 0 ∷ 7 ∷ 8 ∷ 9 ∷ 0 ∷ 0 ∷ 2 ∷ 20 ∷ 0 ∷ []
numbers = refl

more_numbers : map number_of (OutOfRange ∷ NoSuchSlot 3 ∷ NoSuchSlot 30 ∷ ItemTooLong 4 ∷ ItemTooLong 40 ∷ SlotOutOfRange 5 ∷ SlotOutOfRange 50 ∷ Accept NoSuchPath ∷ Spend NoPreimage ∷ Field OverLimit ∷ Encode NoWitness ∷ [])
    ≡ 0 ∷ 3 ∷ 30 ∷ 4 ∷ 40 ∷ 5 ∷ 50 ∷ 0 ∷ 0 ∷ 0 ∷ 0 ∷ []
more_numbers = refl

commitment_statuses : map status_of (NoSuchChannelType ∷ NotACommitmentKey 3 ∷ NoSuchDirection 5 ∷ ExpiryTooLarge 7 ∷ NoSuchClose ∷ Decode decode.Trailing ∷ Decode decode.NoMemory ∷ []) ≡ 2049 ∷ 2050 ∷ 2051 ∷ 2052 ∷ 2053 ∷ 1543 ∷ 1 ∷ []
commitment_statuses = refl

commitment_numbers : map number_of (NoSuchChannelType ∷ NotACommitmentKey 3 ∷ NotACommitmentKey 4 ∷ NoSuchDirection 5 ∷ NoSuchDirection 50 ∷ ExpiryTooLarge 7 ∷ ExpiryTooLarge 70 ∷ NoSuchClose ∷ Decode decode.Trailing ∷ []) ≡ 0 ∷ 3 ∷ 4 ∷ 5 ∷ 50 ∷ 7 ∷ 70 ∷ 0 ∷ 0 ∷ []
commitment_numbers = refl

-- the slot of an unmet fact, whatever the fact is, the first one of a choice
unmet : map slot_of (Hash 3 [] ∷ Size 4 1 ∷ Truth 5 ∷ Is 6 [] ∷ KeyForm 7 ∷ Form 8 ∷ Token 9 (SlotKey 1) ∷ Assigned (10 ∷ 11 ∷ []) [] ∷ Assigned [] [] ∷ Lock 12 ∷ Age 13 ∷ []) ≡ 3 ∷ 4 ∷ 5 ∷ 6 ∷ 7 ∷ 8 ∷ 9 ∷ 10 ∷ 0 ∷ 0 ∷ 0 ∷ []
unmet = refl

accept_numbers : map accept_number (AcceptMemory ∷ NoSuchPath ∷ WrongArity ∷ Unmet (record { fact = Truth 3; holds = true }) ∷ Unmet (record { fact = Truth 30; holds = true }) ∷ Contradiction ∷ WrongProgram ∷ WrongShell ∷ [])
    ≡ 0 ∷ 0 ∷ 0 ∷ 3 ∷ 30 ∷ 0 ∷ 0 ∷ 0 ∷ []
accept_numbers = refl

told_unmet : (number_of (Accept (Unmet (record { fact = Size 3 32; holds = true }))) ≡ 3) × (number_of (Accept (Unmet (record { fact = Truth 30; holds = false }))) ≡ 30)
told_unmet = (refl, refl)
