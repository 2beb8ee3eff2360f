-- A reader reads back what its writer wrote.
use Rattle.std.proofs.Common.{◌≡◌, ℕ, ◌<◌, ◌≤◌, List, length, Some, refl, ap}
use Rattle.std.specs.Result.{result_ok}
use Rattle.std.proofs.lemmas.Bool.{lt-ltb, le-ltb}
use Rattle.hex.proofs.HexLemmas.{decode_of-encode_lower, decode_sized-encode_lower}
use Rattle.hex.specs.Hex.{IsBytes}
use Rattle.terms.specs.declared.sides.Side.{Side}
use Rattle.terms.specs.declared.sides.Side.TheVariants.{A, B}
use Rattle.tx.specs.declared.limits.TheConstants.{MAX_VALUE, MAX_BYTES}
use Rattle.tx.specs.Parts.{Output}
use Rattle.updates.specs.declared.changes.Update.TheVariants.{Add, Fulfil, Fail, Fee}
use Rattle.terms.specs.declared.proposals.ProposedTerms.{ProposedTerms}
use Rattle.terms.specs.declared.htlcs.Htlc.{Htlc}
use Rattle.texts.specs.Values.{below, u16_of, u32_of, bytes_of, bytes_of_len, side_of}
use Rattle.texts.specs.Terms.{terms_of}
use Rattle.texts.specs.Outputs.{output_of}
use Rattle.texts.specs.Messages.{add_of, fulfil_of, fail_of, fee_of, update_named, update_of}
use Rattle.texts.specs.Writing.{number_data, bytes_data, side_data, terms_data, output_data, add_data, update_data, Is32Bytes, TermsComeBack, OutputsComeBack, UpdatesComeBack}

pub side_back : (s : Side) → side_of (side_data s) ≡ Some s
side_back A = refl
side_back B = refl

pub below_back : (end n : ℕ) → n < end → below end n ≡ Some n
below_back end n lt = rw (lt-ltb n end lt) refl

pub hash_back : (bytes : List ℕ) → Is32Bytes bytes → bytes_of_len 32 (bytes_data bytes) ≡ Some bytes
hash_back bytes (len, each) = ap result_ok (decode_sized-encode_lower bytes 32 len each)

pub bytes_back : (bytes : List ℕ) → IsBytes bytes → bytes_of (bytes_data bytes) ≡ Some bytes
bytes_back bytes each = ap result_ok (decode_of-encode_lower bytes each)

-- ---- a value is read back if its parts are

pub sized_back : (bytes : List ℕ) → IsBytes bytes → bytes_of_len (length bytes) (bytes_data bytes) ≡ Some bytes
sized_back bytes each = ap result_ok (decode_sized-encode_lower bytes (length bytes) refl each)

pub terms_again : (t : ProposedTerms) → (u16_of (number_data t.a.delay_blocks) ≡ Some t.a.delay_blocks) × (u16_of (number_data t.b.delay_blocks) ≡ Some t.b.delay_blocks)
    → u32_of (number_data t.feerate_per_kw) ≡ Some t.feerate_per_kw → side_of (side_data t.opener) ≡ Some t.opener → terms_of (terms_data t) ≡ Some t
unfolding terms_of terms_data
terms_again t delay_blocks feerate_per_kw opener = rw (delay_blocks.0, delay_blocks.1, opener, feerate_per_kw) refl

pub output_again : (o : Output) → o.value ≤ MAX_VALUE → length o.script ≤ MAX_BYTES → bytes_of (bytes_data o.script) ≡ Some o.script → output_of (output_data o) ≡ Some o
unfolding output_of output_data
output_again o value len script = rw (script, le-ltb _ _ value, le-ltb _ _ len) refl

pub add_again : (h : Htlc) → bytes_of_len 32 (bytes_data h.hash) ≡ Some h.hash → u32_of (number_data h.expiry_height) ≡ Some h.expiry_height → update_of (add_data h) ≡ Some (Add h)
unfolding add_of update_named update_of add_data
add_again h hash expiry_height = rw (hash, expiry_height) refl

pub fulfil_again : (id : ℕ) (preimage : List ℕ) → bytes_of_len 32 (bytes_data preimage) ≡ Some preimage → update_of (update_data (Fulfil id preimage)) ≡ Some (Fulfil id preimage)
unfolding fulfil_of update_named update_of update_data
fulfil_again id preimage hash = rw (hash) refl

pub fail_again : (id : ℕ) → update_of (update_data (Fail id)) ≡ Some (Fail id)
unfolding fail_of update_named update_of update_data
fail_again id = refl

pub fee_again : (feerate_per_kw : ℕ) → u32_of (number_data feerate_per_kw) ≡ Some feerate_per_kw → update_of (update_data (Fee feerate_per_kw)) ≡ Some (Fee feerate_per_kw)
unfolding fee_of update_named update_of update_data
fee_again feerate_per_kw small = rw (small) refl

-- ---- all values of each type are read back

pub terms_come_back : TermsComeBack
terms_come_back t h = terms_again t (below_back _ _ h.delay_a, below_back _ _ h.delay_b) (below_back _ _ h.feerate_per_kw) (side_back t.opener)

pub outputs_come_back : OutputsComeBack
outputs_come_back o h each = output_again o h.value h.script (bytes_back o.script each)

pub updates_come_back : UpdatesComeBack
unfolding update_data
updates_come_back (Add htlc) (hash, expiry_height) = add_again htlc (hash_back htlc.hash hash) (below_back _ _ expiry_height)
updates_come_back (Fulfil id preimage) hash = fulfil_again id preimage (hash_back preimage hash)
updates_come_back (Fail id) h = fail_again id
updates_come_back (Fee feerate_per_kw) lt = fee_again feerate_per_kw (below_back _ _ lt)
