-- The limits, by their values in Bitcoin Core's script/script.h and in BIP 141.
use Rattle.std.proofs.Common.{◌≡◌, refl}
use Rattle.script.specs.declared.limits.TheConstants.{MAX_SCRIPT_SIZE, MAX_SCRIPT_ELEMENT_SIZE, MAX_OPS_PER_SCRIPT, MAX_STACK_SIZE, MAX_PUBKEYS_PER_MULTISIG, LOCKTIME_THRESHOLD}

script_bytes : MAX_SCRIPT_SIZE ≡ 10000
script_bytes = refl

element_bytes : MAX_SCRIPT_ELEMENT_SIZE ≡ 520
element_bytes = refl

counted_opcodes : MAX_OPS_PER_SCRIPT ≡ 201
counted_opcodes = refl

stack_elements : MAX_STACK_SIZE ≡ 1000
stack_elements = refl

keys_of_one : MAX_PUBKEYS_PER_MULTISIG ≡ 20
keys_of_one = refl

first_time : LOCKTIME_THRESHOLD ≡ 500000000
first_time = refl
