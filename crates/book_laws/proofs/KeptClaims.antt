-- The claims on what a revoked commitment lets the node claim, as `penalties` of `penalty` makes them, are what `keep` takes: by the keys of the commitment, whatever they are.
use Rattle.std.proofs.Common.{◌≡◌, ℕ, ◌≤◌, true, List, [], ◌∷◌, map, length, refl, ap, lit≤, arith}
use Rattle.std.specs.Prelude.{IsTrue, is_ok}
use Rattle.digest.specs.Hash.{hash160}
use Rattle.script.specs.Spelling.{spelling}
use Rattle.keys.specs.declared.compressed.Key.{Key}
use Rattle.paths.specs.Listing.{CheckedScript}
use Rattle.claim.proofs.TokenForms.{key-length}
use Rattle.claim.specs.declared.parts.Place.{Place}
use Rattle.claim.specs.declared.parts.Shell.TheVariants.{Open}
use Rattle.claim.specs.declared.parts.Slot.{Slot}
use Rattle.claim.specs.declared.parts.Slot.TheVariants.{Sig, Exact}
use Rattle.claim.specs.Claims.{ClaimParts}
use Rattle.claim.specs.Judgement.{is_program, judgement_of}
use Rattle.forms.specs.declared.kinds.ClaimKind.{ClaimKind}
use Rattle.forms.specs.declared.kinds.ClaimKind.TheVariants.{Penalty, HtlcPenalty, KeyHash}
use Rattle.forms.specs.Forms.{to_local_form, key_hash_form, received_form}
use Rattle.forms.specs.Claims.{Claims, of_penalty, of_key, of_received_penalty, path_taken_by}
use Rattle.forms.specs.Fillings.{filling_of, fillings_of}
use Rattle.forms.proofs.Accepted.{accepted}
use Rattle.penalty.specs.Claimable.{Claimable}
use Rattle.penalty.proofs.Accepting.{open_way}

-- a claim that takes what is claimable with these slots
abbrev pub claim_with : Claimable → List Slot → ClaimParts
claim_with o slots = record { ways = o.form; index = o.path; slots = slots; place = o.place; shell = o.shell }

abbrev pub penalty_slots : Key → List Slot
penalty_slots key = Exact (record { item = 1 ∷ []; short = lit≤ tt }) ∷ Sig key ∷ []

pub is_short : (key : Key) → length key.bytes ≤ 520
is_short key = let n = key-length key.bytes key.form in omega (arith, n)

abbrev pub key_slots : Key → List Slot
key_slots key = Exact (record { item = key.bytes; short = is_short key }) ∷ Sig key ∷ []

-- what is accepted, by its kind
accepted_by : (kind : ClaimKind) (slots : List Slot) (form : CheckedScript) (place : Place) → map filling_of slots ≡ fillings_of kind → Claims kind form (path_taken_by kind) place Open → is_program (spelling form.ops) place.program ≡ true
    → IsTrue (is_ok (judgement_of form (path_taken_by kind) slots place Open))
accepted_by kind slots form place same claims program =
    let way = open_way kind form (path_taken_by kind) place claims in
    ap is_ok (accepted kind slots same form (path_taken_by kind) way.0 place Open claims way.1 program way.2)

-- on to_local and on an HTLC by the revocation key, and on to_remote by the payment key
pub penalty_accepted : (key : Key) (delay_blocks : ℕ) (delayed : List ℕ) (place : Place) → is_program (spelling (to_local_form key.bytes delay_blocks delayed).ops) place.program ≡ true
    → IsTrue (is_ok (judgement_of (to_local_form key.bytes delay_blocks delayed) 0 (penalty_slots key) place Open))
penalty_accepted key delay_blocks delayed place = accepted_by (Penalty key) (penalty_slots key) (to_local_form key.bytes delay_blocks delayed) place refl (of_penalty key delay_blocks delayed place)

pub payment_accepted : (key : Key) (place : Place) → is_program (spelling (key_hash_form (hash160 key.bytes)).ops) place.program ≡ true → IsTrue (is_ok (judgement_of (key_hash_form (hash160 key.bytes)) 0 (key_slots key) place Open))
payment_accepted key place = accepted_by (KeyHash key) (key_slots key) (key_hash_form (hash160 key.bytes)) place refl (of_key key place)

pub htlc_accepted : (key : Key) (remote local payment_hash : List ℕ) (expiry_height : ℕ) (place : Place) → is_program (spelling (received_form (hash160 key.bytes) remote local payment_hash expiry_height).ops) place.program ≡ true
    → IsTrue (is_ok (judgement_of (received_form (hash160 key.bytes) remote local payment_hash expiry_height) 0 (key_slots key) place Open))
htlc_accepted key remote local payment_hash expiry_height place =
    accepted_by (HtlcPenalty key) (key_slots key) (received_form (hash160 key.bytes) remote local payment_hash expiry_height) place refl (of_received_penalty key remote local payment_hash expiry_height place)
