-- The statuses: 0, or a family times 256 and the number of a refusal in it.
use Rattle.std.specs.Prelude.{ℕ, List, [], ◌∷◌}
use Rattle.facts.specs.Symbols.{Fact}
use Rattle.facts.specs.declared.symbols.FactOver.TheVariants.{Hash, Size, Truth, Is, KeyForm, Form, Token, Assigned, Lock, Age}
use Rattle.script.specs.declared.parse.ParseError.{ParseError}
use Rattle.script.specs.declared.parse.ParseError.TheVariants.{NoMemory as ParseMemory, BadOpcode, Truncated, TooLong}
use Rattle.paths.specs.declared.errors.CheckError.{CheckError}
use Rattle.paths.specs.declared.errors.CheckError.TheVariants.{NoMemory as ListMemory, OpenBranch, TooManyOps, Undecided, TooManyPaths, TooTall}
use Rattle.tx.specs.declared.errors.FieldError.{FieldError}
use Rattle.tx.specs.declared.errors.FieldError.TheVariants.{NoInputs, ValueTooLarge, OverLimit}
use Rattle.tx.specs.declared.errors.EncodeError.{EncodeError}
use Rattle.tx.specs.declared.errors.EncodeError.TheVariants.{NoMemory as EncodeMemory, NoWitness}
use Rattle.tx.specs.declared.errors.DecodeError.{DecodeError}
use Rattle.tx.specs.declared.errors.DecodeError.TheVariants as decode
use Rattle.claim.specs.declared.errors.AcceptError.{AcceptError}
use Rattle.claim.specs.declared.errors.AcceptError.TheVariants.{NoMemory as AcceptMemory, NoSuchPath, WrongArity, Unmet, Contradiction, WrongProgram, WrongShell}
use Rattle.filling.specs.declared.errors.SpendError.{SpendError}
use Rattle.filling.specs.declared.errors.SpendError.TheVariants.{NoMemory as SpendMemory, FixedTransaction, SameOutpoint, OutputsExceed, MeasuredSignature, NoPreimage}
use Rattle.enforce_c.specs.declared.statuses.Refusal.{Refusal}
use Rattle.enforce_c.specs.declared.statuses.Refusal.TheVariants.{NoMemory, Parse, Check, NoSuchForm, NotAKey, NotAHeight, OutOfRange, NoSuchSlot, ItemTooLong, SlotOutOfRange, Accept, Field, Spend, Encode, Decode, NoSuchChannelType, NotACommitmentKey, NoSuchDirection, ExpiryTooLarge, NoSuchClose, NoSignature, SignatureOutOfRange, NotDer, NotSighashAll, NotAsked}

-- of a script's bytes
abbrev pub parse_status : ParseError → ℕ
parse_status ParseMemory = 1
parse_status (BadOpcode at) = 257
parse_status (Truncated at) = 258
parse_status TooLong = 259

-- of a listing
abbrev pub check_status : CheckError → ℕ
check_status ListMemory = 1
check_status OpenBranch = 513
check_status TooManyOps = 514
check_status (Undecided at) = 515
check_status TooManyPaths = 516
check_status TooTall = 517

-- of a claim
abbrev pub accept_status : AcceptError → ℕ
accept_status AcceptMemory = 1
accept_status NoSuchPath = 769
accept_status WrongArity = 770
accept_status (Unmet stated) = 771
accept_status Contradiction = 772
accept_status WrongProgram = 773
accept_status WrongShell = 774

-- of a spend
abbrev pub spend_status : SpendError → ℕ
spend_status SpendMemory = 1
spend_status FixedTransaction = 1281
spend_status SameOutpoint = 1282
spend_status OutputsExceed = 1283
spend_status MeasuredSignature = 1284
spend_status NoPreimage = 1285

-- of the parts of a transaction, and of its bytes
abbrev pub field_status : FieldError → ℕ
field_status NoInputs = 1540
field_status ValueTooLarge = 1542
field_status OverLimit = 1544

abbrev pub encode_status : EncodeError → ℕ
encode_status EncodeMemory = 1
encode_status NoWitness = 1541

abbrev pub decode_status : DecodeError → ℕ
decode_status decode.NoMemory = 1
decode_status decode.Truncated = 1537
decode_status decode.LongCount = 1538
decode_status decode.BadMarker = 1539
decode_status decode.NoInputs = 1540
decode_status decode.NoWitness = 1541
decode_status decode.ValueTooLarge = 1542
decode_status decode.Trailing = 1543
decode_status decode.OverLimit = 1544

abbrev pub status_of : Refusal → ℕ
status_of NoMemory = 1
status_of (Parse e) = parse_status e
status_of (Check e) = check_status e
status_of NoSuchForm = 1025
status_of (NotAKey number) = 1026
status_of NotAHeight = 1027
status_of (Accept e) = accept_status e
status_of (Spend e) = spend_status e
status_of (Field e) = field_status e
status_of (Encode e) = encode_status e
status_of OutOfRange = 1793
status_of (NoSuchSlot index) = 1794
status_of (ItemTooLong index) = 1795
status_of (SlotOutOfRange index) = 1796
status_of (Decode e) = decode_status e
status_of NoSuchChannelType = 2049
status_of (NotACommitmentKey number) = 2050
status_of (NoSuchDirection index) = 2051
status_of (ExpiryTooLarge index) = 2052
status_of NoSuchClose = 2053
status_of (NoSignature place) = 2305
status_of (SignatureOutOfRange place) = 2306
status_of (NotDer place) = 2307
status_of (NotSighashAll place) = 2308
status_of (NotAsked place) = 2309

-- the number that a refusal carries
abbrev pub parse_number : ParseError → ℕ
parse_number (BadOpcode at) = at
parse_number (Truncated at) = at
parse_number e = 0

abbrev pub check_number : CheckError → ℕ
check_number (Undecided at) = at
check_number e = 0

-- the slot that a fact is about, the first one of a choice; 0 where it is about the spend
abbrev pub first_of : List ℕ → ℕ
first_of [] = 0
first_of (slot ∷ slots) = slot

abbrev pub slot_of : Fact → ℕ
slot_of (Hash slot h) = slot
slot_of (Size slot n) = slot
slot_of (Truth slot) = slot
slot_of (Is slot b) = slot
slot_of (KeyForm slot) = slot
slot_of (Form slot) = slot
slot_of (Token slot key) = slot
slot_of (Assigned slots keys) = first_of slots
slot_of (Lock n) = 0
slot_of (Age n) = 0

abbrev pub accept_number : AcceptError → ℕ
accept_number (Unmet stated) = slot_of stated.fact
accept_number e = 0

abbrev pub number_of : Refusal → ℕ
number_of (Parse e) = parse_number e
number_of (Check e) = check_number e
number_of (NotAKey number) = number
number_of (NoSuchSlot index) = index
number_of (ItemTooLong index) = index
number_of (SlotOutOfRange index) = index
number_of (Accept e) = accept_number e
number_of (NotACommitmentKey number) = number
number_of (NoSuchDirection index) = index
number_of (ExpiryTooLarge index) = index
number_of (NoSignature place) = place.item
number_of (SignatureOutOfRange place) = place.item
number_of (NotDer place) = place.item
number_of (NotSighashAll place) = place.item
number_of (NotAsked place) = place.item
number_of e = 0
