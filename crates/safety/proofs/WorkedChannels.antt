-- Two channels of one node, and what is on worked chains of them, to the last byte: commitments of both sides, HTLC transactions, what the node takes, and what a thief takes.
use Rattle.std.proofs.Common.{◌≡◌, ℕ, ◌+◌, ◌*◌, Bool, false, List, [], ◌∷◌, ◌++◌, map, replicate, length, Option, Some, None, refl, lit≤, lit<}
use Rattle.std.specs.Prelude.{IsTrue, codes}
use Rattle.sha2.specs.Sha256.{sha256}
use Rattle.sha2.proofs.Facts256.{length-sha256}
use Rattle.digest.specs.Hash.{hash160}
use Rattle.script.specs.Token.{token_of, is_key}
use Rattle.tx.specs.declared.input.OutPoint.{OutPoint}
use Rattle.tx.specs.declared.input.TxIn.{TxIn}
use Rattle.tx.specs.Parts.{Output}
use Rattle.tx.specs.Fields.{Transaction}
use Rattle.tx.specs.Spelling.{transaction_id}
use Rattle.sighash.specs.Programs.{script_hash_program, key_hash_program}
use Rattle.keys.specs.declared.compressed.Key.{Key}
use Rattle.keys.specs.Derivation.{derived_key, revocation_key}
use Rattle.chain.specs.Blocks.{Contents as Block, grant_outpoint}
use Rattle.terms.specs.declared.htlcs.Htlc.{Htlc}
use Rattle.terms.specs.declared.sides.Side.{Side}
use Rattle.terms.specs.declared.sides.Side.TheVariants.{A, B}
use Rattle.terms.specs.declared.agreement.Terms.{Terms}
use Rattle.terms.specs.declared.views.Share.{Share}
use Rattle.terms.specs.declared.views.View.{View}
use Rattle.claim.specs.declared.parts.Place.{Place}
use Rattle.claim.specs.declared.parts.Slot.TheVariants.{Sig, Preimage, Exact}
use Rattle.claim.specs.declared.parts.Shell.TheVariants.{Open}
use Rattle.claim.specs.Claims.{ClaimParts}
use Rattle.forms.specs.Forms.{to_local_form, key_hash_form}
use Rattle.commit.specs.declared.fees.Direction.{Direction}
use Rattle.commit.specs.declared.fees.Direction.TheVariants.{Offered, Received}
use Rattle.commit.specs.declared.outputs.HtlcOutput.{HtlcOutput}
use Rattle.commit.specs.Outputs.{to_local_script, to_remote_script, htlc_script}
use Rattle.commit.specs.Commitments.{Contents, tx_output, id_of, htlc_tx_of}
use Rattle.commit.specs.Signing.{funding_script}
use Rattle.penalty.specs.Claimable.{Claimable, penalty_on, payment_on, htlc_form}
use Rattle.resolve.specs.Due.{direct_on}
use Rattle.channel.specs.declared.commitments.CommitmentState.{CommitmentState}
use Rattle.channel.specs.Points.{point_key}
use Rattle.channel.specs.States.{State}
use Rattle.channel.specs.Tokens.{contents_of}
use Rattle.safety.specs.Signing.{digest_of}
use Rattle.safety.specs.Fates.{htlc_signed}
use Rattle.safety.specs.Holdings.{Release, released, Holding}
use Rattle.safety.specs.Given.{commitment_signed}
use Rattle.safety.proofs.Examples.{key, bases, side}

-- ---- two channels, of 100,000 satoshis each. The node is A, and its peers are B

abbrev pub channel : (grant mine theirs : ℕ) → Terms
channel grant mine theirs = record {
  funding = grant_outpoint grant;
  capacity_sat = 100000;
  opener = A;
  feerate_per_kw = 1000;
  a = side 80000000 144 (bases mine);
  b = side 20000000 2 (bases theirs);
  limited = lit≤ tt;
  whole = refl;
  short_a = lit< tt;
  short_b = lit< tt;
}

abbrev pub first_terms : Terms
first_terms = channel 0 0x10 0x20

abbrev pub second_terms : Terms
second_terms = channel 1 0x30 0x40

-- ---- their commitments

-- an HTLC of these satoshis, with the hash of 32 bytes of one value, that expires at 3
abbrev pub htlc : (satoshis byte : ℕ) → Htlc
htlc satoshis byte = record { id = 0; amount_msat = 1000 * satoshis; hash = sha256 (replicate 32 byte); expiry_height = 3 }

abbrev pub share : ℕ → List Htlc → Share
share balance_msat offered = record { balance_msat = balance_msat; offered = offered }

abbrev pub view : Share → Share → View
view a b = record { a = a; b = b; feerate_per_kw = 1000 }

-- without HTLCs, with one of each side, and with one of B's
abbrev pub plain : View
plain = view (share 80000000 []) (share 20000000 [])

abbrev pub with_both : View
with_both = view (share 60000000 (htlc 10000 7 ∷ [])) (share 18000000 (htlc 12000 8 ∷ []))

abbrev pub with_one : View
with_one = view (share 80000000 []) (share 8000000 (htlc 12000 9 ∷ []))

abbrev pub commitment : Side → ℕ → Key → View → CommitmentState
commitment owner n point v = record { view = v; owner = owner; number = n; point = point }

-- a point whose secret is 32 bytes of one value
abbrev pub point_from : ℕ → Key
point_from byte = point_key (replicate 32 byte)

-- of the first channel: B's commitments 0 and 1, and A's commitment 0
abbrev pub first_opened : CommitmentState
first_opened = commitment B 0 (point_from 0x50) plain

abbrev pub first_newest : CommitmentState
first_newest = commitment B 1 (key 0x55) with_both

abbrev pub first_own : CommitmentState
first_own = commitment A 0 (key 0x66) plain

-- of the second channel
abbrev pub second_opened : CommitmentState
second_opened = commitment B 0 (point_from 0x51) with_one

abbrev pub second_newest : CommitmentState
second_newest = commitment B 1 (key 0x57) plain

abbrev pub second_own : CommitmentState
second_own = commitment A 0 (key 0x67) plain

-- the outputs of B's commitment 1 in the first channel are A's HTLC of 10,000 satoshis, B's of 12,000, to_local and to_remote
abbrev pub c : Contents
c = contents_of first_terms first_newest

abbrev pub first_htlc : HtlcOutput
first_htlc = record { index = 0; direction = Received; htlc = htlc 10000 7 }

abbrev pub second_htlc : HtlcOutput
second_htlc = record { index = 1; direction = Offered; htlc = htlc 12000 8 }

-- those of B's commitment 0 in the second channel are to_local, B's HTLC of 12,000 satoshis and to_remote
abbrev pub d : Contents
d = contents_of second_terms second_opened

abbrev pub third_htlc : HtlcOutput
third_htlc = record { index = 1; direction = Offered; htlc = htlc 12000 9 }

-- ---- where the outputs are

abbrev pub place : OutPoint → ℕ → List ℕ → Place
place o value program = record { outpoint = o; value = value; program = program }

abbrev pub on_remote : Place
on_remote = place (record { txid = id_of c; index = 3 }) 58932 (key_hash_program (key 0x11).bytes)

abbrev pub on_htlc : HtlcOutput → ℕ → Place
on_htlc x value = place (record { txid = id_of c; index = x.index }) value (script_hash_program (htlc_script c.keys x.direction x.htlc))

abbrev pub on_local : Place
on_local = place (record { txid = id_of d; index = 0 }) 8000 (script_hash_program (to_local_script d.delay_blocks d.keys))

abbrev pub on_second_stage : Place
on_second_stage = place (record { txid = transaction_id (htlc_tx_of d third_htlc); index = 0 }) 11337 (script_hash_program (to_local_script d.delay_blocks d.keys))

-- ---- their transactions

abbrev pub block : List Transaction → Block
block ts = record { transactions = ts; granted = [] }

abbrev pub empty : Block
empty = block []

abbrev pub funded : Terms → Output
funded terms = record { value = 100000; script = script_hash_program (funding_script terms) }

abbrev pub granting : Block
granting = record { transactions = []; granted = funded second_terms ∷ funded first_terms ∷ [] }

-- a commitment with the tokens of both funding keys
abbrev pub closing : Terms → CommitmentState → Transaction
closing terms k = record {
  version = 2;
  inputs = record {
    outpoint = terms.funding;
    sequence = (contents_of terms k).hidden.sequence;
    witness = [] ∷ token_of terms.a.bases.funding.bytes (digest_of (commitment_signed terms k)) ∷ token_of terms.b.bases.funding.bytes (digest_of (commitment_signed terms k)) ∷ funding_script terms ∷ [];
  }
      ∷ [];
  outputs = map tx_output (contents_of terms k).outputs;
  lock_time = (contents_of terms k).hidden.lock_time;
}

-- an HTLC transaction with the tokens of both HTLC keys, and with the preimage or the empty item
abbrev pub second_stage : Contents → HtlcOutput → List ℕ → Transaction
second_stage e x item = record {
  version = 2;
  inputs = record {
    outpoint = record { txid = id_of e; index = x.index };
    sequence = 0;
    witness = [] ∷ token_of e.keys.remote_htlc (digest_of (htlc_signed e x)) ∷ token_of e.keys.local_htlc (digest_of (htlc_signed e x)) ∷ item ∷ htlc_script e.keys x.direction x.htlc ∷ [];
  }
      ∷ [];
  outputs = (htlc_tx_of e x).outputs;
  lock_time = (htlc_tx_of e x).lock_time;
}

-- what somebody makes who takes an output: its input, without and with a witness, and the digest that tokens are over
abbrev pub taking : Place → ℕ → List (List ℕ) → TxIn
taking p sequence witness = record { outpoint = p.outpoint; sequence = sequence; witness = witness }

abbrev pub taken : Place → ℕ → List (List ℕ) → Transaction
taken p sequence witness = record { version = 2; inputs = taking p sequence witness ∷ []; outputs = record { value = 1000; script = [] } ∷ []; lock_time = 0 }

abbrev pub digest_on : Place → ℕ → List ℕ → List ℕ
digest_on p sequence code = digest_of (record { transaction = taken p sequence []; input = taking p sequence []; code = code; value = p.value })

-- B takes the output of its HTLC transaction after the delay of 2 blocks
abbrev pub slept : Transaction
slept = taken on_second_stage 2 (token_of d.keys.delayed (digest_on on_second_stage 2 (to_local_script d.delay_blocks d.keys)) ∷ [] ∷ to_local_script d.delay_blocks d.keys ∷ [])

-- ---- what the node takes

-- keys of the node's on B's commitments: of the first channel its HTLC key, of the second its revocation key
pub derived_form : (base point : List ℕ) → IsTrue (is_key (derived_key base point))
unfolding is_key derived_key
derived_form base point = let h = length-sha256 (codes "derive" ++ base ++ point) in cc

pub revocation_form : (base point : List ℕ) → IsTrue (is_key (revocation_key base point))
unfolding is_key revocation_key
revocation_form base point = let h = length-sha256 (codes "revoke" ++ base ++ point) in cc

abbrev pub htlc_key : Key
htlc_key = record { bytes = derived_key (key 0x13).bytes (key 0x55).bytes; form = derived_form (key 0x13).bytes (key 0x55).bytes }

abbrev pub penalty_key : Key
penalty_key = record { bytes = revocation_key (key 0x34).bytes (point_from 0x51).bytes; form = revocation_form (key 0x34).bytes (point_from 0x51).bytes }

abbrev pub pays : ℕ → Output
pays value = record { value = value; script = key_hash_program (key 0x11).bytes }

abbrev pub home : ClaimParts
home = record { ways = key_hash_form (hash160 (key 0x11).bytes); index = 0; slots = Exact (record { item = (key 0x11).bytes; short = lit≤ tt }) ∷ Sig (key 0x11) ∷ []; place = on_remote; shell = Open }

abbrev pub sweep : Release
sweep = record { claims = home ∷ []; outputs = pays 58000 ∷ [] }

-- the HTLC that it offered, after the expiry
abbrev pub back : ClaimParts
back = record { ways = htlc_form c.keys Received (htlc 10000 7); index = 2; slots = Exact (record { item = []; short = lit≤ tt }) ∷ Sig htlc_key ∷ []; place = on_htlc first_htlc 10000; shell = Open }

abbrev pub takes_back : Release
takes_back = record { claims = back ∷ []; outputs = pays 9000 ∷ [] }

-- the HTLC that was offered to it, with the preimage
abbrev pub paid_for : ClaimParts
paid_for = record { ways = htlc_form c.keys Offered (htlc 12000 8); index = 2; slots = Preimage (sha256 (replicate 32 8)) ∷ Sig htlc_key ∷ []; place = on_htlc second_htlc 12000; shell = Open }

abbrev pub is_paid : Release
is_paid = record { claims = paid_for ∷ []; outputs = pays 11000 ∷ [] }

-- to_local of the revoked commitment
abbrev pub punishes : ClaimParts
punishes = record { ways = to_local_form d.keys.revocation d.delay_blocks d.keys.delayed; index = 0; slots = Exact (record { item = 1 ∷ []; short = lit≤ tt }) ∷ Sig penalty_key ∷ []; place = on_local; shell = Open }

abbrev pub penalty : Release
penalty = record { claims = punishes ∷ []; outputs = pays 7000 ∷ [] }

-- ---- the node

-- the state of a side A, with the number of its peer's newest commitment, whether a signature awaits its revocation, the secrets, and the commitments
abbrev pub state : Terms → ℕ → Bool → List (List ℕ) → List CommitmentState → List CommitmentState → State
state terms peer_number awaiting secrets mine signed = record {
  held = record { terms = terms; side = A; own = record { known = []; with_receiver = []; past_receiver = []; with_sender = []; settled = [] }; theirs = record { known = []; with_receiver = []; past_receiver = []; with_sender = []; settled = [] } };
  seed = replicate 32 1;
  awaiting = awaiting;
  number = 0;
  peer_number = peer_number;
  point = key 0x55;
  next_point = key 0x56;
  secrets = secrets;
  mine = mine;
  signed = signed;
  revoked_last = false;
  fulfilled = [];
}

abbrev pub holding : State → List Release → Option ℕ → Holding
holding s releases closed = record { state = s; releases = releases; closed = closed }
