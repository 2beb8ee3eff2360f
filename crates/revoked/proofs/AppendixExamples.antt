-- The commitment of BOLT 3, Appendix C, with two HTLCs of each direction: its programs are those that the appendix lists, and no two scripts share one. Two of its HTLCs with anchors.
use Rattle.std.proofs.Common.{◌≡◌, ◌≢◌, ℕ, zero, suc, List, [], ◌∷◌, Option, Some, None, refl, sym, ap, subst, ◌∙◌, arith}
use Rattle.std.specs.Prelude.{Contains, ◌==◌, if◌then◌else◌, slice_index}
use Rattle.sha2.specs.Sha256.{sha256, digest_bytes, hash_after, compress, rounds, schedule, first_words}
use Rattle.digest.specs.Ripemd160.{left_words, right_words, left_rotations, right_rotations, left_constants, right_constants, block_words, left_line, right_line, blocks, ripemd160, compress as ripemd_compress, hash_after as ripemd_hash_after, digest_bytes as ripemd_bytes}
use Rattle.script.specs.Number.{minimal_bytes_of, digits}
use Rattle.sighash.specs.Programs.{script_hash_program, key_hash_program}
use Rattle.terms.specs.Scripts.{number_push}
use Rattle.anchor_forms.specs.declared.channel_types.ChannelType.TheVariants.{StaticRemoteKey, Anchors}
use Rattle.commit.specs.Keys.{KeyBytes}
use Rattle.commit.specs.declared.fees.Direction.TheVariants.{Offered, Received}
use Rattle.revoked.specs.Parts.{RevokedParts}
use Rattle.revoked.specs.declared.outputs.RevokedHtlc.{RevokedHtlc}
use Rattle.revoked.specs.declared.outputs.RevokedOutput.{RevokedOutput}
use Rattle.revoked.specs.declared.outputs.RevokedOutput.TheVariants.{ToLocal, ToRemote, ToHtlc}
use Rattle.revoked.specs.Programs.{known_form, known_program, known_outputs}
use Rattle.revoked.specs.Telling.{SharesNoProgram}

abbrev keys : KeyBytes
keys = record {
  revocation = 0x02 ∷ 0x12 ∷ 0xa1 ∷ 0x40 ∷ 0xcd ∷ 0x0c ∷ 0x65 ∷ 0x39 ∷ 0xd0 ∷ 0x7c ∷ 0xd0 ∷ 0x8d ∷ 0xfe ∷ 0x09 ∷ 0x98 ∷ 0x4d ∷ 0xec ∷ 0x32 ∷ 0x51 ∷ 0xea ∷ 0x80 ∷ 0x8b ∷ 0x89 ∷ 0x2e ∷ 0xfe ∷ 0xac ∷ 0x3e ∷ 0xde ∷ 0x94 ∷ 0x02 ∷ 0xbf ∷ 0x2b ∷ 0x19 ∷ [];
  delayed = 0x03 ∷ 0xfd ∷ 0x59 ∷ 0x60 ∷ 0x52 ∷ 0x8d ∷ 0xc1 ∷ 0x52 ∷ 0x01 ∷ 0x49 ∷ 0x52 ∷ 0xef ∷ 0xdb ∷ 0x70 ∷ 0x2a ∷ 0x88 ∷ 0xf7 ∷ 0x1e ∷ 0x3c ∷ 0x16 ∷ 0x53 ∷ 0xb2 ∷ 0x31 ∷ 0x44 ∷ 0x31 ∷ 0x70 ∷ 0x1e ∷ 0xc7 ∷ 0x7e ∷ 0x57 ∷ 0xfd ∷ 0xe8 ∷ 0x3c ∷ [];
  local_htlc = 0x03 ∷ 0x0d ∷ 0x41 ∷ 0x7a ∷ 0x46 ∷ 0x94 ∷ 0x63 ∷ 0x84 ∷ 0xf8 ∷ 0x8d ∷ 0x5f ∷ 0x33 ∷ 0x37 ∷ 0x26 ∷ 0x7c ∷ 0x5e ∷ 0x57 ∷ 0x97 ∷ 0x65 ∷ 0x87 ∷ 0x5d ∷ 0xc4 ∷ 0xda ∷ 0xca ∷ 0x81 ∷ 0x3e ∷ 0x21 ∷ 0x73 ∷ 0x4b ∷ 0x14 ∷ 0x06 ∷ 0x39 ∷ 0xe7 ∷ [];
  remote_htlc = 0x03 ∷ 0x94 ∷ 0x85 ∷ 0x4a ∷ 0xa6 ∷ 0xea ∷ 0xb5 ∷ 0xb2 ∷ 0xa8 ∷ 0x12 ∷ 0x2c ∷ 0xc7 ∷ 0x26 ∷ 0xe9 ∷ 0xdd ∷ 0xed ∷ 0x05 ∷ 0x3a ∷ 0x21 ∷ 0x84 ∷ 0xd8 ∷ 0x82 ∷ 0x56 ∷ 0x81 ∷ 0x68 ∷ 0x26 ∷ 0xd6 ∷ 0x23 ∷ 0x1c ∷ 0x06 ∷ 0x8d ∷ 0x4a ∷ 0x5b ∷ [];
  remote = 0x03 ∷ 0x2c ∷ 0x0b ∷ 0x7c ∷ 0xf9 ∷ 0x53 ∷ 0x24 ∷ 0xa0 ∷ 0x7d ∷ 0x05 ∷ 0x39 ∷ 0x8b ∷ 0x24 ∷ 0x01 ∷ 0x74 ∷ 0xdc ∷ 0x0c ∷ 0x2b ∷ 0xe4 ∷ 0x44 ∷ 0xd9 ∷ 0x6b ∷ 0x15 ∷ 0x9a ∷ 0xa6 ∷ 0xc7 ∷ 0xf7 ∷ 0xb1 ∷ 0xe6 ∷ 0x68 ∷ 0x68 ∷ 0x09 ∷ 0x91 ∷ [];
}

-- HTLC 1
abbrev first_received : RevokedHtlc
first_received = record { direction = Received; hash = 0x72 ∷ 0xcd ∷ 0x6e ∷ 0x84 ∷ 0x22 ∷ 0xc4 ∷ 0x07 ∷ 0xfb ∷ 0x6d ∷ 0x09 ∷ 0x86 ∷ 0x90 ∷ 0xf1 ∷ 0x13 ∷ 0x0b ∷ 0x7d ∷ 0xed ∷ 0x7e ∷ 0xc2 ∷ 0xf7 ∷ 0xf5 ∷ 0xe1 ∷ 0xd3 ∷ 0x0b ∷ 0xd9 ∷ 0xd5 ∷ 0x21 ∷ 0xf0 ∷ 0x15 ∷ 0x36 ∷ 0x37 ∷ 0x93 ∷ []; expiry = record { height = 501; low = omega arith } }

-- HTLC 2
abbrev first_offered : RevokedHtlc
first_offered = record { direction = Offered; hash = 0x75 ∷ 0x87 ∷ 0x7b ∷ 0xb4 ∷ 0x1d ∷ 0x39 ∷ 0x3b ∷ 0x5f ∷ 0xb8 ∷ 0x45 ∷ 0x5c ∷ 0xe6 ∷ 0x0e ∷ 0xcd ∷ 0x8d ∷ 0xda ∷ 0x00 ∷ 0x1d ∷ 0x06 ∷ 0x31 ∷ 0x64 ∷ 0x96 ∷ 0xb1 ∷ 0x4d ∷ 0xfa ∷ 0x7f ∷ 0x89 ∷ 0x56 ∷ 0x56 ∷ 0xee ∷ 0xca ∷ 0x4a ∷ []; expiry = record { height = 502; low = omega arith } }

-- HTLC 3
abbrev second_offered : RevokedHtlc
second_offered = record { direction = Offered; hash = 0x64 ∷ 0x8a ∷ 0xa5 ∷ 0xc5 ∷ 0x79 ∷ 0xfb ∷ 0x30 ∷ 0xf3 ∷ 0x8a ∷ 0xf7 ∷ 0x44 ∷ 0xd9 ∷ 0x7d ∷ 0x6e ∷ 0xc8 ∷ 0x40 ∷ 0xc7 ∷ 0xa9 ∷ 0x12 ∷ 0x77 ∷ 0xa4 ∷ 0x99 ∷ 0xa0 ∷ 0xd7 ∷ 0x80 ∷ 0xf3 ∷ 0xe7 ∷ 0x31 ∷ 0x4e ∷ 0xca ∷ 0x09 ∷ 0x0b ∷ []; expiry = record { height = 503; low = omega arith } }

-- HTLC 4
abbrev second_received : RevokedHtlc
second_received = record { direction = Received; hash = 0x9f ∷ 0x4f ∷ 0xb6 ∷ 0x8f ∷ 0x3e ∷ 0x1d ∷ 0xac ∷ 0x82 ∷ 0x20 ∷ 0x2f ∷ 0x9a ∷ 0xa5 ∷ 0x81 ∷ 0xce ∷ 0x0b ∷ 0xbf ∷ 0x1f ∷ 0x76 ∷ 0x5d ∷ 0xf0 ∷ 0xe9 ∷ 0xac ∷ 0x3c ∷ 0x8c ∷ 0x57 ∷ 0xe2 ∷ 0x0f ∷ 0x68 ∷ 0x5a ∷ 0xba ∷ 0xb8 ∷ 0xed ∷ []; expiry = record { height = 504; low = omega arith } }

abbrev commitment : RevokedParts
commitment = record { channel_type = StaticRemoteKey; keys = keys; delay_blocks = 144; htlcs = first_received ∷ first_offered ∷ second_offered ∷ second_received ∷ [] }

program_of_to_local : known_program commitment ToLocal ≡ 0x00 ∷ 0x20 ∷ 0x4a ∷ 0xdb ∷ 0x4e ∷ 0x2f ∷ 0x00 ∷ 0x64 ∷ 0x3d ∷ 0xb3 ∷ 0x96 ∷ 0xdd ∷ 0x12 ∷ 0x0d ∷ 0x4e ∷ 0x7d ∷ 0xc1 ∷ 0x76 ∷ 0x25 ∷ 0xf5 ∷ 0xf2 ∷ 0xc1 ∷ 0x1a ∷ 0x40 ∷ 0xd8 ∷ 0x57 ∷ 0xac ∷ 0xcc ∷ 0x86 ∷ 0x2d ∷ 0x6b ∷ 0x7d ∷ 0xd8 ∷ 0x0e ∷ []
unfolding number_push minimal_bytes_of digits script_hash_program sha256 digest_bytes hash_after compress rounds schedule first_words left_words right_words left_rotations right_rotations left_constants right_constants block_words left_line right_line blocks ripemd_compress ripemd_hash_after ripemd_bytes ripemd160
program_of_to_local = refl

program_of_to_remote : known_program commitment ToRemote ≡ 0x00 ∷ 0x14 ∷ 0xcc ∷ 0x1b ∷ 0x07 ∷ 0x83 ∷ 0x8e ∷ 0x38 ∷ 0x7d ∷ 0xea ∷ 0xcd ∷ 0x0e ∷ 0x52 ∷ 0x32 ∷ 0xe1 ∷ 0xe8 ∷ 0xb4 ∷ 0x9f ∷ 0x4c ∷ 0x29 ∷ 0xe4 ∷ 0x84 ∷ []
unfolding key_hash_program sha256 digest_bytes hash_after compress rounds schedule first_words left_words right_words left_rotations right_rotations left_constants right_constants block_words left_line right_line blocks ripemd_compress ripemd_hash_after ripemd_bytes ripemd160
program_of_to_remote = refl

program_of_first_received : known_program commitment (ToHtlc first_received) ≡ 0x00 ∷ 0x20 ∷ 0x74 ∷ 0x8e ∷ 0xba ∷ 0x94 ∷ 0x4f ∷ 0xed ∷ 0xc8 ∷ 0x82 ∷ 0x7f ∷ 0x6b ∷ 0x06 ∷ 0xbc ∷ 0x44 ∷ 0x67 ∷ 0x8f ∷ 0x93 ∷ 0xc0 ∷ 0xf9 ∷ 0xe6 ∷ 0x07 ∷ 0x8b ∷ 0x35 ∷ 0xc6 ∷ 0x33 ∷ 0x1e ∷ 0xd3 ∷ 0x1e ∷ 0x75 ∷ 0xf8 ∷ 0xce ∷ 0x0c ∷ 0x2d ∷ []
unfolding number_push minimal_bytes_of digits script_hash_program sha256 digest_bytes hash_after compress rounds schedule first_words left_words right_words left_rotations right_rotations left_constants right_constants block_words left_line right_line blocks ripemd_compress ripemd_hash_after ripemd_bytes ripemd160
program_of_first_received = refl

program_of_first_offered : known_program commitment (ToHtlc first_offered) ≡ 0x00 ∷ 0x20 ∷ 0x40 ∷ 0x3d ∷ 0x39 ∷ 0x47 ∷ 0x47 ∷ 0xca ∷ 0xe4 ∷ 0x2e ∷ 0x98 ∷ 0xff ∷ 0x01 ∷ 0x73 ∷ 0x4a ∷ 0xd5 ∷ 0xc0 ∷ 0x8f ∷ 0x82 ∷ 0xba ∷ 0x12 ∷ 0x3d ∷ 0x3d ∷ 0x9a ∷ 0x62 ∷ 0x0a ∷ 0xbd ∷ 0xa8 ∷ 0x89 ∷ 0x89 ∷ 0x65 ∷ 0x1e ∷ 0x2a ∷ 0xb5 ∷ []
unfolding number_push minimal_bytes_of digits script_hash_program sha256 digest_bytes hash_after compress rounds schedule first_words left_words right_words left_rotations right_rotations left_constants right_constants block_words left_line right_line blocks ripemd_compress ripemd_hash_after ripemd_bytes ripemd160
program_of_first_offered = refl

program_of_second_offered : known_program commitment (ToHtlc second_offered) ≡ 0x00 ∷ 0x20 ∷ 0xc2 ∷ 0x0b ∷ 0x5d ∷ 0x1f ∷ 0x85 ∷ 0x84 ∷ 0xfd ∷ 0x90 ∷ 0x44 ∷ 0x3e ∷ 0x7b ∷ 0x7b ∷ 0x72 ∷ 0x01 ∷ 0x36 ∷ 0x17 ∷ 0x4f ∷ 0xa4 ∷ 0xb9 ∷ 0x33 ∷ 0x3c ∷ 0x26 ∷ 0x1d ∷ 0x04 ∷ 0xdb ∷ 0xbd ∷ 0x01 ∷ 0x26 ∷ 0x35 ∷ 0xc0 ∷ 0xf4 ∷ 0x19 ∷ []
unfolding number_push minimal_bytes_of digits script_hash_program sha256 digest_bytes hash_after compress rounds schedule first_words left_words right_words left_rotations right_rotations left_constants right_constants block_words left_line right_line blocks ripemd_compress ripemd_hash_after ripemd_bytes ripemd160
program_of_second_offered = refl

program_of_second_received : known_program commitment (ToHtlc second_received) ≡ 0x00 ∷ 0x20 ∷ 0x8c ∷ 0x48 ∷ 0xd1 ∷ 0x51 ∷ 0x60 ∷ 0x39 ∷ 0x7c ∷ 0x97 ∷ 0x31 ∷ 0xdf ∷ 0x9b ∷ 0xc3 ∷ 0xb2 ∷ 0x36 ∷ 0x65 ∷ 0x6e ∷ 0xfb ∷ 0x66 ∷ 0x65 ∷ 0xfb ∷ 0xfe ∷ 0x92 ∷ 0xb4 ∷ 0xa6 ∷ 0x87 ∷ 0x8e ∷ 0x88 ∷ 0xa4 ∷ 0x99 ∷ 0xf7 ∷ 0x41 ∷ 0xc4 ∷ []
unfolding number_push minimal_bytes_of digits script_hash_program sha256 digest_bytes hash_after compress rounds schedule first_words left_words right_words left_rotations right_rotations left_constants right_constants block_words left_line right_line blocks ripemd_compress ripemd_hash_after ripemd_bytes ripemd160
program_of_second_received = refl

-- two of them as they are with anchors: the appendix's scripts with `1 CHECKSEQUENCEVERIFY DROP` before the last ENDIF, hashed by an independent script
abbrev with_anchors : RevokedParts
with_anchors = record commitment { channel_type = Anchors }

program_of_offered_with_anchors : known_program with_anchors (ToHtlc first_offered) ≡ 0x00 ∷ 0x20 ∷ 0x3e ∷ 0x68 ∷ 0x11 ∷ 0x5a ∷ 0xe0 ∷ 0xb1 ∷ 0x5b ∷ 0x8d ∷ 0xe7 ∷ 0x5b ∷ 0x6c ∷ 0x6b ∷ 0xc9 ∷ 0xaf ∷ 0x5a ∷ 0xc9 ∷ 0xf0 ∷ 0x13 ∷ 0x91 ∷ 0x54 ∷ 0x4e ∷ 0x08 ∷ 0x70 ∷ 0xda ∷ 0xe4 ∷ 0x43 ∷ 0xa1 ∷ 0xe8 ∷ 0xfe ∷ 0x78 ∷ 0x37 ∷ 0xea ∷ []
unfolding number_push minimal_bytes_of digits script_hash_program sha256 digest_bytes hash_after compress rounds schedule first_words left_words right_words left_rotations right_rotations left_constants right_constants block_words left_line right_line blocks ripemd_compress ripemd_hash_after ripemd_bytes ripemd160
program_of_offered_with_anchors = refl

program_of_received_with_anchors : known_program with_anchors (ToHtlc first_received) ≡ 0x00 ∷ 0x20 ∷ 0xfe ∷ 0x05 ∷ 0x98 ∷ 0xd7 ∷ 0x4f ∷ 0xee ∷ 0x22 ∷ 0x05 ∷ 0xcc ∷ 0x36 ∷ 0x72 ∷ 0xe6 ∷ 0xe6 ∷ 0x64 ∷ 0x77 ∷ 0x06 ∷ 0xb4 ∷ 0xf3 ∷ 0x09 ∷ 0x97 ∷ 0x13 ∷ 0xb4 ∷ 0x66 ∷ 0x1b ∷ 0x62 ∷ 0x48 ∷ 0x2c ∷ 0x3a ∷ 0xdd ∷ 0xd0 ∷ 0x4a ∷ 0x5e ∷ []
unfolding number_push minimal_bytes_of digits script_hash_program sha256 digest_bytes hash_after compress rounds schedule first_words left_words right_words left_rotations right_rotations left_constants right_constants block_words left_line right_line blocks ripemd_compress ripemd_hash_after ripemd_bytes ripemd160
program_of_received_with_anchors = refl

-- which output has a program that begins with the version, the length and this byte
abbrev by_third : ℕ → Option RevokedOutput
by_third byte =
    if byte == 0x4a then Some ToLocal
    else if byte == 0xcc then Some ToRemote
    else if byte == 0x74 then Some (ToHtlc first_received)
    else if byte == 0x40 then Some (ToHtlc first_offered)
    else if byte == 0xc2 then Some (ToHtlc second_offered)
    else if byte == 0x8c then Some (ToHtlc second_received)
    else None

abbrev named : List ℕ → Option RevokedOutput
named program = by_third (slice_index program 2)

-- the appendix's programs name their outputs
name_of : (o : RevokedOutput) → Contains (known_outputs commitment) o → named (known_program commitment o) ≡ Some o
name_of o (zero, l, e) = subst (λ x. named (known_program commitment x) ≡ Some x) e (ap named program_of_to_local)
name_of o (suc zero, l, e) = subst (λ x. named (known_program commitment x) ≡ Some x) e (ap named program_of_to_remote)
name_of o (suc (suc zero), l, e) = subst (λ x. named (known_program commitment x) ≡ Some x) e (ap named program_of_first_received)
name_of o (suc (suc (suc zero)), l, e) = subst (λ x. named (known_program commitment x) ≡ Some x) e (ap named program_of_first_offered)
name_of o (suc (suc (suc (suc zero))), l, e) = subst (λ x. named (known_program commitment x) ≡ Some x) e (ap named program_of_second_offered)
name_of o (suc (suc (suc (suc (suc zero)))), l, e) = subst (λ x. named (known_program commitment x) ≡ Some x) e (ap named program_of_second_received)
name_of o (suc (suc (suc (suc (suc (suc k))))), l, e) = absurd (omega (arith, l))

abbrev inside : Option RevokedOutput → RevokedOutput
inside (Some o) = o
inside None = ToLocal

same : (a b : RevokedOutput) → Some a ≡ Some b → a ≡ b
same a b e = ap inside e

-- yes: SharesNoProgram
shares_no_program : SharesNoProgram commitment
shares_no_program a b among_a among_b e = ap (known_form commitment) (same a b (sym (name_of a among_a) ∙ ap named e ∙ name_of b among_b))

-- the same payment in two parts, which expire apart: the script of an offered HTLC does not have the expiry
abbrev other_part : RevokedHtlc
other_part = record first_offered { expiry = record { height = 506; low = omega arith } }

abbrev in_parts : RevokedParts
in_parts = record commitment { htlcs = first_offered ∷ other_part ∷ [] }

parts_differ : ◌≢◌ {A = RevokedHtlc} first_offered other_part
parts_differ e = let f : 502 ≡ 506 = ap (λ (h : RevokedHtlc). h.expiry.height) e in omega (arith, f)

-- they have one program, and one form, so they are claimed alike
parts_have_one_program : known_program in_parts (ToHtlc first_offered) ≡ known_program in_parts (ToHtlc other_part)
parts_have_one_program = refl

parts_have_one_form : known_form in_parts (ToHtlc first_offered) ≡ known_form in_parts (ToHtlc other_part)
parts_have_one_form = refl
