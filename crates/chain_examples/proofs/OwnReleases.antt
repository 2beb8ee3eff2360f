-- What the node released on the chain of `OwnStageExamples`: the HTLC transactions of both directions, and after the delay to_local and the output of one of them.
use Rattle.std.proofs.Common.{◌≤◌, List, [], ◌∷◌, length, replicate, refl, lit≤}
use Rattle.sha2.specs.Sha256.{sha256}
use Rattle.script.specs.Token.{token_of, is_key}
use Rattle.std.specs.Prelude.{IsTrue}
use Rattle.keys.specs.declared.compressed.Key.{Key}
use Rattle.claim.specs.declared.parts.Place.{Place}
use Rattle.claim.specs.declared.parts.Slot.TheVariants.{Sig, Preimage, Exact}
use Rattle.claim.specs.declared.parts.Shell.TheVariants.{Open, Fixed}
use Rattle.claim.specs.Claims.{ClaimParts}
use Rattle.forms.specs.Forms.{to_local_form, offered_form, received_form}
use Rattle.commit.specs.Commitments.{spending}
use Rattle.safety.specs.Holdings.{Release}
use Rattle.chain_examples.proofs.Tables.{pays as pays_home}
use Rattle.chain_examples.proofs.SeededRecorded.{seeded_own_id, seeded_own_keys, seeded_own_revocation_hash, seeded_own_payment_0, seeded_own_payment_2, seeded_own_delayed_program, seeded_own_htlc_0_program, seeded_own_htlc_2_program, seeded_own_stage_0_digest, seeded_own_stage_2_id, seeded_own_stage_2_digest}

pub local_form : IsTrue (is_key seeded_own_keys.local_htlc)
unfolding is_key
local_form = refl

pub delayed_form : IsTrue (is_key seeded_own_keys.delayed)
unfolding is_key
delayed_form = refl

abbrev local_key : Key
local_key = record { bytes = seeded_own_keys.local_htlc; form = local_form }

abbrev delayed_key : Key
delayed_key = record { bytes = seeded_own_keys.delayed; form = delayed_form }

pub token_short_0 : length (token_of seeded_own_keys.remote_htlc seeded_own_stage_0_digest) ≤ 520
unfolding token_of
token_short_0 = lit≤ tt

pub token_short_2 : length (token_of seeded_own_keys.remote_htlc seeded_own_stage_2_digest) ≤ 520
unfolding token_of
token_short_2 = lit≤ tt

abbrev pub success : ClaimParts
success = record {
  ways = received_form seeded_own_revocation_hash seeded_own_keys.remote_htlc seeded_own_keys.local_htlc seeded_own_payment_2 3;
  index = 1;
  slots = Preimage (sha256 (replicate 32 8)) ∷ Sig local_key ∷ Exact (record { item = token_of seeded_own_keys.remote_htlc seeded_own_stage_2_digest; short = token_short_2 }) ∷ Exact (record { item = []; short = lit≤ tt }) ∷ [];
  place = record { outpoint = record { txid = seeded_own_id; index = 2 }; value = 12000; program = seeded_own_htlc_2_program };
  shell = Fixed (spending (record { txid = seeded_own_id; index = 2 }) 0 (record { value = 11297; script = seeded_own_delayed_program } ∷ []) 0);
}

abbrev pub timeout : ClaimParts
timeout = record {
  ways = offered_form seeded_own_revocation_hash seeded_own_keys.remote_htlc seeded_own_keys.local_htlc seeded_own_payment_0;
  index = 1;
  slots = Exact (record { item = []; short = lit≤ tt }) ∷ Sig local_key ∷ Exact (record { item = token_of seeded_own_keys.remote_htlc seeded_own_stage_0_digest; short = token_short_0 }) ∷ Exact (record { item = []; short = lit≤ tt }) ∷ [];
  place = record { outpoint = record { txid = seeded_own_id; index = 0 }; value = 2000; program = seeded_own_htlc_0_program };
  shell = Fixed (spending (record { txid = seeded_own_id; index = 0 }) 0 (record { value = 1337; script = seeded_own_delayed_program } ∷ []) 3);
}

abbrev delayed_at : Place → ClaimParts
delayed_at place = record {
  ways = to_local_form seeded_own_keys.revocation 2 seeded_own_keys.delayed;
  index = 1;
  slots = Exact (record { item = []; short = lit≤ tt }) ∷ Sig delayed_key ∷ [];
  place = place;
  shell = Open;
}

abbrev pub local : ClaimParts
local = delayed_at (record { outpoint = record { txid = seeded_own_id; index = 4 }; value = 58760; program = seeded_own_delayed_program })

abbrev pub second : ClaimParts
second = delayed_at (record { outpoint = record { txid = seeded_own_stage_2_id; index = 0 }; value = 11297; program = seeded_own_delayed_program })

abbrev pub success_release : Release
success_release = record { claims = success ∷ []; outputs = [] }

abbrev pub timeout_release : Release
timeout_release = record { claims = timeout ∷ []; outputs = [] }

abbrev pub local_release : Release
local_release = record { claims = local ∷ []; outputs = pays_home 58000 }

abbrev pub second_release : Release
second_release = record { claims = second ∷ []; outputs = pays_home 11000 }

abbrev pub releases : List Release
releases = success_release ∷ timeout_release ∷ local_release ∷ second_release ∷ []
