-- Which outputs are too small for nodes to relay (Bitcoin Core, `GetDustThreshold`, at its default of 3,000 satoshis for 1,000 virtual bytes; BOLT 3, "Dust Limits").
use Rattle.std.specs.Prelude.{ℕ, ◌+◌, ◌*◌, ◌==◌, ◌&&◌, ◌||◌, nat_lt, nat_le, Bool, if◌then◌else◌, List, length, slice_index}
use Rattle.tx.specs.Spelling.{output}

-- the opcode of a witness program's version: 0, or 1 to 16
abbrev pub is_version : ℕ → Bool
is_version code = code == 0x00 || (nat_le 0x51 code && nat_le code 0x60)

-- BIP 141: a version, and a push of the rest, which has 2 to 40 bytes
abbrev pub is_witness_program : List ℕ → Bool
is_witness_program script = nat_le 4 (length script) && nat_le (length script) 42
    && is_version (slice_index script 0) && slice_index script 1 + 2 == length script

-- the script begins with RETURN, so nobody can spend the output
abbrev pub is_unspendable : List ℕ → Bool
is_unspendable script = nat_lt 0 (length script) && slice_index script 0 == 0x6a

-- the virtual bytes of an input that spends the output: outpoint, length of the script, sequence, and 107 bytes for a signature and a key, in a witness a quarter of them
abbrev pub spending_size : List ℕ → ℕ
spending_size script = if is_witness_program script then 67 else 148

-- the bytes of the output
abbrev pub output_size : List ℕ → ℕ
output_size script = length (output (record { value = 0; script = script }))

-- the least value in satoshis that is no dust
abbrev pub dust_threshold : List ℕ → ℕ
dust_threshold script = if is_unspendable script then 0 else 3 * (output_size script + spending_size script)
