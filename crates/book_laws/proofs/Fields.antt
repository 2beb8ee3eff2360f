-- The fields of claims on recorded commitments, and of the transactions that fill them, fit into their bytes.
use Rattle.std.proofs.Common.{◌≡◌, ℕ, ◌^◌, ◌<◌, ◌≤◌, List, [], ◌∷◌, map, length, Some, refl, sym, subst, arith}
use Rattle.std.specs.Prelude.{slice_get, option_map, unwrap_or}
use Rattle.std.specs.List.{AllByRecursion, Contains}
use Rattle.std.proofs.lemmas.List.{length-map}
use Rattle.std.proofs.lemmas.List.Elements.{All-contains}
use Rattle.std.proofs.lemmas.Option.{slice_get_within}
use Rattle.sha2.proofs.Facts256.{length-sha256}
use Rattle.digest.specs.Hash.{hash160}
use Rattle.digest.proofs.OutsideVectors.{length-ripemd160}
use Rattle.script.specs.declared.limits.TheConstants.{LOCKTIME_THRESHOLD, MAX_SCRIPT_SIZE}
use Rattle.script.specs.Spelling.{spelling}
use Rattle.tx.specs.declared.limits.TheConstants.{MAX_VALUE, MAX_INPUTS, MAX_OUTPUTS}
use Rattle.tx.specs.Parts.{Output, IsOutput}
use Rattle.tx.specs.Fields.{Transaction, IsInput, KeepsLimits, unsigned_transaction}
use Rattle.tx.specs.Spelling.{transaction_id}
use Rattle.terms.specs.declared.htlcs.Htlc.{Htlc}
use Rattle.terms.specs.declared.sides.Side.{Side}
use Rattle.terms.specs.declared.sides.Side.TheVariants.{A, B}
use Rattle.terms.specs.declared.agreement.Terms.{Terms}
use Rattle.terms.specs.Agreement.{party}
use Rattle.terms.specs.Scripts.{to_local}
use Rattle.claim.specs.declared.parts.Place.{Place}
use Rattle.claim.specs.declared.parts.Shell.{Shell}
use Rattle.claim.specs.declared.parts.Shell.TheVariants.{Open, Fixed}
use Rattle.claim.specs.Judgement.{age_of, needed_height}
use Rattle.claim.specs.Claims.{ClaimParts, lock_time_of}
use Rattle.filling.specs.Filling.{unsigned_input, greatest_of, open_transaction, lone_transaction, transaction_for}
use Rattle.commit.specs.declared.fees.Direction.{Direction}
use Rattle.commit.specs.declared.fees.Direction.TheVariants.{Offered, Received}
use Rattle.commit.specs.declared.outputs.CommitmentOutput.{CommitmentOutput}
use Rattle.commit.specs.declared.outputs.HtlcOutput.{HtlcOutput}
use Rattle.commit.specs.Commitments.{Contents, commitment_of, transaction_of, htlcs_of, htlc_tx_output, htlc_tx_of, IsOutputOf}
use Rattle.penalty.specs.Claimable.{Claimable, place_in, htlc_form, penalty_on, payment_on, htlc_penalty_on}
use Rattle.penalty.specs.Sets.{claimed_by}
use Rattle.resolve.specs.Due.{delayed_on, second_stage_on, direct_on}
use Rattle.channel.specs.declared.commitments.CommitmentState.{CommitmentState}
use Rattle.channel.specs.Tokens.{contents_of}
use Rattle.safety.specs.Recorded.{IsPayable, of_htlc, RecordedLimits}
use Rattle.safety.specs.Places.{place_at, IsOwnersClaim, delayed, second_stage, delayed_second, IsPeersClaim, payment, direct, IsRevokedClaim, penalty, own_payment, htlc_penalty, second_penalty}
use Rattle.safety.proofs.Claimed.{AreKeys}
use Rattle.safety.proofs.Handed.{keys_good}
use Rattle.safety.proofs.Limits.{no_longer, htlc_short}
use Rattle.safety.proofs.Spelt.{to_local_ops, key_hash_ops}
use Rattle.safety.proofs.Lists.{contained}
use Rattle.safety.proofs.Recorded.{few_in, limited, limited_htlc}
use Rattle.book_laws.proofs.Lists.{all_from, all_mapped}

-- ---- one claim

-- a fixed transaction keeps the limits
abbrev pub ShellKeeps : Shell → Type 0
ShellKeeps Open = Unit {0}
ShellKeeps (Fixed t) = KeepsLimits (unsigned_transaction t)

pub record IsPlaced (place : Place) : Type 0 where
  pub txid : length place.outpoint.txid ≡ 32
  pub index : place.outpoint.index < 2 ^ 32
  pub value : place.value ≤ MAX_VALUE

-- what is claimed fits into its bytes: where it is, its script, the age and the lock time of the path, and a fixed transaction
pub record IsFit (o : Claimable) : Type 0 where
  pub placed : IsPlaced o.place
  pub code : length (spelling o.form.ops) ≤ MAX_SCRIPT_SIZE
  pub age : unwrap_or (option_map age_of (slice_get o.form.paths o.path)) 0 < 2 ^ 32
  pub lock : unwrap_or (option_map (λ p. needed_height p o.shell) (slice_get o.form.paths o.path)) 0 < 2 ^ 32
  pub shell : ShellKeeps o.shell

-- ---- places

id_size : (t : Transaction) → length (transaction_id t) ≡ 32
unfolding transaction_id
id_size t = length-sha256 _

module _ (limits : RecordedLimits) (terms : Terms) (k : CommitmentState) (payable : IsPayable terms k) where
  abbrev c : Contents
  c = contents_of terms k

  on_output : (index : ℕ) (output : CommitmentOutput) → slice_get c.outputs index ≡ Some output → IsPlaced (place_at c index output)
  on_output index output there =
      let one : IsOutputOf c.keys output = All-contains (λ o. IsOutputOf c.keys o) c.outputs output (limited terms k payable.view) (contained c.outputs index output there) in
      let few = few_in terms k payable.view in
      let within = slice_get_within c.outputs index output there in
      record { txid = id_size (transaction_of c); index = omega (arith, few, within); value = one.limits.value }

  on_second_stage : (h : HtlcOutput) → Contains (htlcs_of c) h → IsPlaced (place_in (htlc_tx_of c h) 0 (htlc_tx_output c h))
  on_second_stage h i = let low = (limited_htlc terms k payable.view h i).value in record { txid = id_size (htlc_tx_of c h); index = omega arith; value = omega (arith, low) }

  -- ---- which claim it is

  short_delay : c.delay_blocks < 2 ^ 16
  unfolding commitment_of
  short_delay = by k.owner
    where
      by : (owner : Side) → (party owner terms).delay_blocks < 2 ^ 16
      by A = terms.short_a
      by B = terms.short_b

  good : AreKeys c.keys
  good = keys_good terms k

  local_short : length (spelling (to_local c.keys.revocation c.delay_blocks c.keys.delayed)) ≤ MAX_SCRIPT_SIZE
  local_short = no_longer _ _ (to_local_ops c.keys.revocation c.delay_blocks c.keys.delayed short_delay good.revocation good.delayed)

  on_htlc : (direction : Direction) (h : Htlc) → h.expiry_height < LOCKTIME_THRESHOLD → length (spelling (htlc_form c.keys direction h).ops) ≤ MAX_SCRIPT_SIZE
  on_htlc direction h low = htlc_short c direction h good (omega (arith, low))

  a_penalty : (place : Place) → IsPlaced place → IsFit (penalty_on c place)
  a_penalty place p = record { placed = p; code = local_short; age = omega arith; lock = omega arith; shell = tt }

  a_payment : (place : Place) → IsPlaced place → IsFit (payment_on c place)
  a_payment place p = record { placed = p; code = no_longer _ _ (key_hash_ops (hash160 c.keys.remote) (length-ripemd160 _)); age = omega arith; lock = omega arith; shell = tt }

  a_delayed : (place : Place) → IsPlaced place → IsFit (delayed_on c place)
  a_delayed place p = let short = short_delay in record { placed = p; code = local_short; age = omega (arith, short); lock = omega arith; shell = tt }

  an_htlc_penalty : (direction : Direction) (h : Htlc) (place : Place) → h.expiry_height < LOCKTIME_THRESHOLD → IsPlaced place → IsFit (htlc_penalty_on c direction h place)
  an_htlc_penalty Offered h place low p = record { placed = p; code = on_htlc Offered h low; age = omega arith; lock = omega arith; shell = tt }
  an_htlc_penalty Received h place low p = record { placed = p; code = on_htlc Received h low; age = omega arith; lock = omega arith; shell = tt }

  a_direct : (direction : Direction) (h : Htlc) (place : Place) → h.expiry_height < LOCKTIME_THRESHOLD → IsPlaced place → IsFit (direct_on c direction h place)
  a_direct Offered h place low p = record { placed = p; code = on_htlc Offered h low; age = omega arith; lock = omega arith; shell = tt }
  a_direct Received h place low p = record { placed = p; code = on_htlc Received h low; age = omega arith; lock = omega (arith, low); shell = tt }

  unsigned_second : (h : HtlcOutput) → KeepsLimits (htlc_tx_of c h) → KeepsLimits (unsigned_transaction (htlc_tx_of c h))
  unfolding htlc_tx_of
  unsigned_second h l = l

  a_second_stage : (h : HtlcOutput) (place : Place) → h.htlc.expiry_height < LOCKTIME_THRESHOLD → KeepsLimits (htlc_tx_of c h) → IsPlaced place → IsFit (second_stage_on c h place)
  a_second_stage h place low l p = by h.direction h.htlc refl low
    where
      by : (direction : Direction) (htlc : Htlc) → h ≡ record { index = h.index; direction = direction; htlc = htlc } → htlc.expiry_height < LOCKTIME_THRESHOLD
          → IsFit (second_stage_on c (record { index = h.index; direction = direction; htlc = htlc }) place)
      by Offered htlc e low =
          let m = subst (λ (g : HtlcOutput). KeepsLimits (htlc_tx_of c g)) e l in
          record { placed = p; code = on_htlc Offered htlc low; age = omega arith; lock = m.lock_time; shell = unsigned_second _ m }
      by Received htlc e low =
          let m = subst (λ (g : HtlcOutput). KeepsLimits (htlc_tx_of c g)) e l in
          record { placed = p; code = on_htlc Received htlc low; age = omega arith; lock = m.lock_time; shell = unsigned_second _ m }

  low_expiry : (h : HtlcOutput) → Contains (htlcs_of c) h → h.htlc.expiry_height < LOCKTIME_THRESHOLD
  low_expiry h i = (limited_htlc terms k payable.view h i).height

  pub owners_fit : (o : Claimable) → IsOwnersClaim c o → IsFit o
  owners_fit o (delayed index output at e) = subst IsFit (sym e) (a_delayed (place_at c index output) (on_output index output at.there))
  owners_fit o (second_stage h output at e) =
      subst IsFit (sym e) (a_second_stage h (place_at c h.index output) (low_expiry h at.among) (limits terms k payable (htlc_tx_of c h) (of_htlc h at.among refl)) (on_output h.index output at.at.there))
  owners_fit o (delayed_second h output at e) = subst IsFit (sym e) (a_delayed (place_in (htlc_tx_of c h) 0 (htlc_tx_output c h)) (on_second_stage h at.among))

  pub peers_fit : (o : Claimable) → IsPeersClaim c o → IsFit o
  peers_fit o (payment index output at e) = subst IsFit (sym e) (a_payment (place_at c index output) (on_output index output at.there))
  peers_fit o (direct h output at e) =
      subst IsFit (sym e) (a_direct h.direction h.htlc (place_at c h.index output) (low_expiry h at.among) (on_output h.index output at.at.there))

  pub revoked_fit : (o : Claimable) → IsRevokedClaim c o → IsFit o
  revoked_fit o (penalty index output at e) = subst IsFit (sym e) (a_penalty (place_at c index output) (on_output index output at.there))
  revoked_fit o (own_payment index output at e) = subst IsFit (sym e) (a_payment (place_at c index output) (on_output index output at.there))
  revoked_fit o (htlc_penalty h output at e) = subst IsFit (sym e) (an_htlc_penalty h.direction h.htlc (place_at c h.index output) (low_expiry h at.among) (on_output h.index output at.at.there))
  revoked_fit o (second_penalty h output at e) = subst IsFit (sym e) (a_penalty (place_in (htlc_tx_of c h) 0 (htlc_tx_output c h)) (on_second_stage h at.among))

-- ---- the transaction of claims

pub input_of : (x : ClaimParts) → IsFit (claimed_by x) → IsInput (unsigned_input x)
input_of x f = record { txid = f.placed.txid; index = f.placed.index; sequence = f.age; witness = record { count = omega arith; each = tt } }

lock_of : (x : ClaimParts) → IsFit (claimed_by x) → lock_time_of x < 2 ^ 32
lock_of x f = f.lock

low_together : (claims : List ClaimParts) → AllByRecursion (λ x. IsFit (claimed_by x)) claims → greatest_of (map lock_time_of claims) < 2 ^ 32
low_together [] h = omega arith
low_together (x ∷ xs) h = let here = lock_of x h.0 in let others = low_together xs h.1 in omega (arith, here, others)

open_keeps : (claims : List ClaimParts) (outputs : List Output) → 1 ≤ length claims → length claims ≤ MAX_INPUTS → length outputs ≤ MAX_OUTPUTS → AllByRecursion (λ x. IsFit (claimed_by x)) claims
    → AllByRecursion IsOutput outputs → KeepsLimits (open_transaction claims outputs)
open_keeps claims outputs some many given f o =
    let n = length-map claims unsigned_input in
    record {
      version = omega arith;
      some_input = omega (arith, n, some);
      inputs = record { count = omega (arith, n, many); each = all_mapped IsInput unsigned_input claims (all_from (λ x. IsFit (claimed_by x)) (λ x. IsInput (unsigned_input x)) input_of claims f) };
      outputs = record { count = given; each = o };
      lock_time = low_together claims f;
    }

alone_keeps : (x : ClaimParts) (outputs : List Output) (shell : Shell) → ShellKeeps shell → KeepsLimits (open_transaction (x ∷ []) outputs) → KeepsLimits (lone_transaction x shell outputs)
alone_keeps x outputs Open s k = k
alone_keeps x outputs (Fixed t) s k = s

pub transaction_keeps : (claims : List ClaimParts) (outputs : List Output) → 1 ≤ length claims → length claims ≤ MAX_INPUTS → length outputs ≤ MAX_OUTPUTS → AllByRecursion (λ x. IsFit (claimed_by x)) claims
    → AllByRecursion IsOutput outputs → KeepsLimits (transaction_for claims outputs)
transaction_keeps [] outputs some many given f o = open_keeps [] outputs some many given f o
transaction_keeps (x ∷ []) outputs some many given f o = alone_keeps x outputs x.shell f.0.shell (open_keeps (x ∷ []) outputs some many given f o)
transaction_keeps (x ∷ y ∷ xs) outputs some many given f o = open_keeps (x ∷ y ∷ xs) outputs some many given f o
