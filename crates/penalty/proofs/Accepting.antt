-- Claims on the forms of a commitment's outputs are accepted.
use Rattle.std.proofs.Common.{◌≡◌, ℕ, true, List, [], ◌∷◌, map, Result, Ok, Err, refl, sym, ap, subst, ◌∙◌}
use Rattle.digest.specs.Hash.{hash160}
use Rattle.digest.specs.Ripemd160.{ripemd160}
use Rattle.script.specs.Spelling.{spelling}
use Rattle.keys.specs.declared.compressed.Key.{Key}
use Rattle.terms.specs.declared.htlcs.Htlc.{Htlc}
use Rattle.paths.specs.declared.state.Path.{Path}
use Rattle.paths.specs.Listing.{CheckedScript}
use Rattle.claim.specs.declared.parts.Slot.{Slot}
use Rattle.claim.specs.declared.parts.Place.{Place}
use Rattle.claim.specs.declared.parts.Shell.{Shell}
use Rattle.claim.specs.declared.parts.Shell.TheVariants.{Open}
use Rattle.claim.specs.declared.errors.AcceptError.{AcceptError}
use Rattle.claim.specs.declared.errors.AcceptError.TheVariants.{NoMemory, NoSuchPath, WrongArity, Unmet, Contradiction, WrongProgram, WrongShell}
use Rattle.claim.specs.Judgement.{is_program, bare_shell, judgement_of}
use Rattle.claim.specs.Fitting.{IsRefusal}
use Rattle.claim.specs.Claims.{ClaimParts, IsAcceptedOf}
use Rattle.commit.specs.declared.fees.Direction.{Direction}
use Rattle.commit.specs.declared.fees.Direction.TheVariants.{Offered, Received}
use Rattle.commit.specs.declared.derived.CommitmentKeys.{CommitmentKeys}
use Rattle.commit.specs.Keys.{KeyBytes, bytes_of}
use Rattle.commit.specs.Commitments.{Contents}
use Rattle.forms.specs.declared.kinds.ClaimKind.{ClaimKind}
use Rattle.forms.specs.declared.kinds.ClaimKind.TheVariants.{Penalty, HtlcPenalty, KeyHash}
use Rattle.forms.specs.Forms.{to_local_form, key_hash_form}
use Rattle.forms.specs.Fillings.{Filling, Signature, Bytes, filling_of, fillings_of}
use Rattle.forms.specs.Claims.{Claims, of_penalty, of_delayed, of_offered_penalty, of_received_penalty, of_preimage, of_timeout, of_key, AreAccepted, path_taken_by}
use Rattle.penalty.specs.Claimable.{Claimable, htlc_form, penalty_on, payment_on, htlc_penalty_on}
use Rattle.penalty.specs.Sets.{claimed_by, IsClaimOn}
use Rattle.penalty.specs.Outputs.{HasWay}

-- what is accepted is not refused
no_refusal : (p : Path) (r : Result Path AcceptError) (e : AcceptError) → r ≡ Ok p → IsRefusal r e → ⊥
no_refusal p r NoMemory e h = let g : IsRefusal (Ok p) NoMemory = subst (λ x. IsRefusal x NoMemory) e h in g
no_refusal p r NoSuchPath e h = let g : r ≡ Err NoSuchPath = h in cc
no_refusal p r WrongArity e h = let g : r ≡ Err WrongArity = h in cc
no_refusal p r (Unmet s) e h = let g : r ≡ Err (Unmet s) = h in cc
no_refusal p r Contradiction e h = let g : r ≡ Err Contradiction = h in cc
no_refusal p r WrongProgram e h = let g : r ≡ Err WrongProgram = h in cc
no_refusal p r WrongShell e h = let g : r ≡ Err WrongShell = h in cc

pub always_accepted : (kind : ClaimKind) (checked : CheckedScript) (index : ℕ) (slots : List Slot) (place : Place) (shell : Shell) (e : AcceptError) → index ≡ path_taken_by kind → AreAccepted kind slots
    → Claims kind checked (path_taken_by kind) place shell → HasWay checked (path_taken_by kind) place shell → is_program (spelling checked.ops) place.program ≡ true
    → IsRefusal (judgement_of checked index slots place shell) e → ⊥
always_accepted kind checked index slots place shell e i a c w p r =
    no_refusal w.0 (judgement_of checked index slots place shell) e
    (ap (λ n. judgement_of checked n slots place shell) i ∙ a checked (path_taken_by kind) w.0 place shell c w.1 p w.2) r

pub is_claim : (kind : ClaimKind) (checked : CheckedScript) (index : ℕ) (slots : List Slot) (place : Place) (shell : Shell) (c : ClaimParts) → index ≡ path_taken_by kind → map filling_of slots ≡ fillings_of kind
    → IsAcceptedOf checked index slots place shell c
    → IsClaimOn (record { place = place; form = checked; path = path_taken_by kind; slots = fillings_of kind; shell = bare_shell shell }) c
is_claim kind checked index slots place shell c i f a = record {
  exact = ap claimed_by a.same ∙ exactly index (map filling_of slots) (path_taken_by kind) (fillings_of kind) i f;
  accepted = a.accepted;
}
  where
    exactly : (m : ℕ) (fs : List Filling) (n : ℕ) (gs : List Filling) → m ≡ n → fs ≡ gs
        → ◌≡◌ {A = Claimable} (record { place = place; form = checked; path = m; slots = fs; shell = bare_shell shell })
        (record { place = place; form = checked; path = n; slots = gs; shell = bare_shell shell })
    exactly m fs n gs e g = rw (e, g) refl

-- the claims on the forms
pub claims_to_local : (revocation : Key) (delay_blocks : ℕ) (delayed : List ℕ) (checked : CheckedScript) (place : Place) → checked ≡ to_local_form revocation.bytes delay_blocks delayed → Claims (Penalty revocation) checked 0 place Open
claims_to_local revocation delay_blocks delayed checked place e = subst (λ x. Claims (Penalty revocation) x 0 place Open) (sym e) (of_penalty revocation delay_blocks delayed place)

pub claims_key : (key : Key) (checked : CheckedScript) (place : Place) → checked ≡ key_hash_form (hash160 key.bytes) → Claims (KeyHash key) checked 0 place Open
claims_key key checked place e = subst (λ x. Claims (KeyHash key) x 0 place Open) (sym e) (of_key key place)

pub claims_htlc : (k : CommitmentKeys) (direction : Direction) (h : Htlc) (checked : CheckedScript) (place : Place) → checked ≡ htlc_form (bytes_of k) direction h → Claims (HtlcPenalty k.revocation) checked 0 place Open
claims_htlc k Offered h checked place e = subst (λ x. Claims (HtlcPenalty k.revocation) x 0 place Open) (sym e) (of_offered_penalty k.revocation k.remote_htlc.bytes k.local_htlc.bytes (ripemd160 h.hash) place)
claims_htlc k Received h checked place e = subst (λ x. Claims (HtlcPenalty k.revocation) x 0 place Open) (sym e) (of_received_penalty k.revocation k.remote_htlc.bytes k.local_htlc.bytes (ripemd160 h.hash) h.expiry_height place)

-- each has its path, round which any transaction may stand
pub open_way : (kind : ClaimKind) (checked : CheckedScript) (index : ℕ) (place : Place) → Claims kind checked index place Open → HasWay checked index place Open
open_way kind checked index place (of_penalty revocation delay_blocks delayed p) = (_, refl, refl)
open_way kind checked index place (of_delayed revocation delay_blocks delayed p few) = (_, refl, refl)
open_way kind checked index place (of_offered_penalty revocation remote local payment_hash p) = (_, refl, refl)
open_way kind checked index place (of_received_penalty revocation remote local payment_hash expiry_height p) = (_, refl, refl)
open_way kind checked index place (of_preimage revocation_hash remote local payment_hash p d) = (_, refl, refl)
open_way kind checked index place (of_timeout revocation_hash remote local payment_hash expiry_height p low d) = (_, refl, refl)
open_way kind checked index place (of_key key p) = (_, refl, refl)

-- by the keys of the commitment
pub as_to_local : (c : Contents) (k : CommitmentKeys) (delay_blocks : ℕ) (checked : CheckedScript) → bytes_of k ≡ c.keys → delay_blocks ≡ c.delay_blocks → checked ≡ to_local_form k.revocation.bytes delay_blocks k.delayed.bytes
    → checked ≡ to_local_form c.keys.revocation c.delay_blocks c.keys.delayed
as_to_local c k delay_blocks checked e d f = f ∙ ap (λ n. to_local_form k.revocation.bytes n k.delayed.bytes) d ∙ ap (λ (b : KeyBytes). to_local_form b.revocation c.delay_blocks b.delayed) e

pub as_penalty : (c : Contents) (k : CommitmentKeys) (delay_blocks : ℕ) (checked : CheckedScript) (place : Place) (claim : ClaimParts) → bytes_of k ≡ c.keys → delay_blocks ≡ c.delay_blocks
    → checked ≡ to_local_form k.revocation.bytes delay_blocks k.delayed.bytes
    → IsClaimOn (record { place = place; form = checked; path = 0; slots = fillings_of (Penalty k.revocation); shell = Open }) claim → IsClaimOn (penalty_on c place) claim
as_penalty c k delay_blocks checked place claim e d f i =
    subst (λ o. IsClaimOn o claim)
    (ap (λ (x : CheckedScript). record { place = place; form = x; path = 0; slots = fillings_of (Penalty k.revocation); shell = Open }) (as_to_local c k delay_blocks checked e d f)
    ∙ ap (λ (b : KeyBytes). record { place = place; form = to_local_form c.keys.revocation c.delay_blocks c.keys.delayed; path = 0; slots = Bytes (1 ∷ []) ∷ Signature b.revocation ∷ []; shell = Open }) e)
    i

pub as_payment : (c : Contents) (k : CommitmentKeys) (checked : CheckedScript) (place : Place) (claim : ClaimParts) → bytes_of k ≡ c.keys → checked ≡ key_hash_form (hash160 k.remote.bytes)
    → IsClaimOn (record { place = place; form = checked; path = 0; slots = fillings_of (KeyHash k.remote); shell = Open }) claim → IsClaimOn (payment_on c place) claim
as_payment c k checked place claim e f i =
    subst (λ o. IsClaimOn o claim)
    (ap (λ (x : CheckedScript). record { place = place; form = x; path = 0; slots = fillings_of (KeyHash k.remote); shell = Open }) f
    ∙ ap (λ (b : KeyBytes). record { place = place; form = key_hash_form (hash160 b.remote); path = 0; slots = Bytes b.remote ∷ Signature b.remote ∷ []; shell = Open }) e)
    i

pub as_htlc_penalty : (c : Contents) (k : CommitmentKeys) (direction : Direction) (h : Htlc) (checked : CheckedScript) (place : Place) (claim : ClaimParts) → bytes_of k ≡ c.keys → checked ≡ htlc_form (bytes_of k) direction h
    → IsClaimOn (record { place = place; form = checked; path = 0; slots = fillings_of (HtlcPenalty k.revocation); shell = Open }) claim → IsClaimOn (htlc_penalty_on c direction h place) claim
as_htlc_penalty c k direction h checked place claim e f i =
    subst (λ o. IsClaimOn o claim)
    (ap (λ (x : CheckedScript). record { place = place; form = x; path = 0; slots = fillings_of (HtlcPenalty k.revocation); shell = Open }) f
    ∙ ap (λ (b : KeyBytes). record { place = place; form = htlc_form b direction h; path = 0; slots = Bytes b.revocation ∷ Signature b.revocation ∷ []; shell = Open }) e)
    i
