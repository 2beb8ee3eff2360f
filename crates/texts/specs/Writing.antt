-- The values as they are written: hexadecimal in lower case.
use Rattle.std.specs.Prelude.{◌≡◌, ℕ, ◌<◌, ◌^◌, List, Some, length, codes, ⊤}
use Rattle.hex.specs.Hex.{encode_lower, IsBytes}
use Rattle.serde_json.specs.Data.{Data, no_members, member, no_items, item, number, unsigned, string, array, object}
use Rattle.terms.specs.declared.sides.Side.{Side}
use Rattle.terms.specs.declared.sides.Side.TheVariants.{A, B}
use Rattle.terms.specs.declared.htlcs.Htlc.{Htlc}
use Rattle.tx.specs.Parts.{Output, IsOutput}
use Rattle.updates.specs.declared.changes.Update.{Update}
use Rattle.updates.specs.declared.changes.Update.TheVariants.{Add, Fulfil, Fail, Fee}
use Rattle.terms.specs.declared.proposals.ProposedTerms.{ProposedTerms}
use Rattle.texts.specs.Terms.{terms_of}
use Rattle.texts.specs.Messages.{update_of}
use Rattle.texts.specs.Outputs.{output_of}

abbrev pub number_data : ℕ → Data
number_data n = number (unsigned n)

abbrev pub bytes_data : List ℕ → Data
bytes_data bytes = string (encode_lower bytes)

abbrev pub side_data : Side → Data
side_data A = string (codes "A")
side_data B = string (codes "B")

-- two values of one shape, that of side A first
abbrev pub pair_data : {A : Type 0} → (A → Data) → A × A → Data
pair_data form pair = array (item (form pair.0) (item (form pair.1) no_items))

unfoldable pub terms_data : ProposedTerms → Data
terms_data t =
    object (member (codes "capacity") (number_data t.capacity_sat) (member (codes "delay") (pair_data number_data (t.a.delay_blocks, t.b.delay_blocks)) (member (codes "dust") (pair_data number_data (t.a.dust_sat, t.b.dust_sat))
    (member (codes "feerate") (number_data t.feerate_per_kw) (member (codes "minimum") (pair_data number_data (t.a.minimum_msat, t.b.minimum_msat)) (member (codes "opener") (side_data t.opener)
    (member (codes "start") (pair_data number_data (t.a.start_msat, t.b.start_msat)) no_members)))))))

unfoldable pub output_data : Output → Data
output_data o = array (item (number_data o.value) (item (bytes_data o.script) no_items))

unfoldable pub add_data : Htlc → Data
add_data h = array (item (string (codes "add")) (item (number_data h.id) (item (number_data h.amount_msat) (item (bytes_data h.hash) (item (number_data h.expiry_height) no_items)))))

unfoldable pub update_data : Update → Data
update_data (Add htlc) = add_data htlc
update_data (Fulfil id preimage) = array (item (string (codes "fulfil")) (item (number_data id) (item (bytes_data preimage) no_items)))
update_data (Fail id) = array (item (string (codes "fail")) (item (number_data id) no_items))
update_data (Fee feerate_per_kw) = array (item (string (codes "fee")) (item (number_data feerate_per_kw) no_items))

-- ---- what was written is read back as the same

-- the numbers of proposed terms fit their types
pub record HasWidths (t : ProposedTerms) : Type 0 where
  pub feerate_per_kw : t.feerate_per_kw < 2 ^ 32
  pub delay_a : t.a.delay_blocks < 2 ^ 16
  pub delay_b : t.b.delay_blocks < 2 ^ 16

-- 32 bytes
abbrev pub Is32Bytes : List ℕ → Type 0
Is32Bytes bytes = (length bytes ≡ 32) × IsBytes bytes

-- the parts of an update fit their types
abbrev pub IsUpdate : Update → Type 0
IsUpdate (Add htlc) = Is32Bytes htlc.hash × (htlc.expiry_height < 2 ^ 32)
IsUpdate (Fulfil id preimage) = Is32Bytes preimage
IsUpdate (Fail id) = ⊤
IsUpdate (Fee feerate_per_kw) = feerate_per_kw < 2 ^ 32

abbrev pub TermsComeBack : Type 0
TermsComeBack = (t : ProposedTerms) → HasWidths t → terms_of (terms_data t) ≡ Some t

abbrev pub OutputsComeBack : Type 0
OutputsComeBack = (o : Output) → IsOutput o → IsBytes o.script → output_of (output_data o) ≡ Some o

abbrev pub UpdatesComeBack : Type 0
UpdatesComeBack = (u : Update) → IsUpdate u → update_of (update_data u) ≡ Some u
