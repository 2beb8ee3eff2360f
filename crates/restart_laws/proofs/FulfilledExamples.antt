-- A life in which a side fulfils an HTLC, worked out by hand from BOLT 2: its connection is cut before it signs, and it may fulfil the HTLC again, and not fail it.
use Rattle.std.proofs.Common.{◌≡◌, ℕ, List, [], ◌∷◌, replicate, Some, None, refl, arith}
use Rattle.sha2.specs.Sha256.{sha256, digest_bytes, hash_after, compress, rounds, schedule, first_words}
use Rattle.tx.specs.declared.input.OutPoint.{OutPoint}
use Rattle.terms.specs.declared.sides.Side.TheVariants.{B}
use Rattle.terms.specs.declared.agreement.BaseKeys.{BaseKeys}
use Rattle.terms.specs.declared.agreement.Terms.{Terms}
use Rattle.updates.specs.declared.changes.Update.TheVariants.{Add, Fulfil, Fail}
use Rattle.updates.specs.declared.errors.ChannelError.TheVariants.{UnknownHtlc, AlreadyFulfilled}
use Rattle.updates.specs.declared.messages.PeerStep.TheVariants.{Update as Updated, CommitmentSigned}
use Rattle.channel.specs.declared.messages.Message.{Message}
use Rattle.channel.specs.declared.messages.Message.TheVariants.{Step, RevokeAndAck}
use Rattle.channel.specs.Points.{secret_at, point_at}
use Rattle.channel.specs.States.{State, state_at_opening, update_refusal, after_update, after_sign, after}
use Rattle.channel.specs.Reestablishing.{forgotten}
use Rattle.channel.specs.Resending.{HasGiven, gave_nothing, gave_update, gave_signature, gave_answers, now, forgot_later}
use Rattle.channel.proofs.Samples.{tokens_of, tokens, sample_terms}
use Rattle.restart_laws.specs.Fulfilled.{FulfilledAreNotFailed}
use Rattle.restart_laws.proofs.HistoryExamples.{takes_first}

-- a preimage, and its SHA-256 by Python's hashlib
abbrev preimage : List ℕ
preimage = replicate 32 9

abbrev hash : List ℕ
hash = 140 ∷ 12 ∷ 193 ∷ 122 ∷ 4 ∷ 148 ∷ 44 ∷ 196 ∷ 248 ∷ 224 ∷ 254 ∷ 11 ∷ 48 ∷ 38 ∷ 6 ∷ 211 ∷ 16 ∷ 136 ∷ 96 ∷ 193 ∷ 38 ∷ 66 ∷ 139 ∷ 162 ∷ 206 ∷ 235 ∷ 95 ∷ 158 ∷ 212 ∷ 28 ∷ 43 ∷ 5 ∷ []

module _ (funding : OutPoint) (bases : BaseKeys) (seed peer : List ℕ) where
  abbrev terms : Terms
  terms = sample_terms funding bases

  abbrev opened : State
  opened = state_at_opening terms B seed (point_at peer 0) (point_at peer 1)

  -- A offers an HTLC and signs, B revokes and signs, and A revokes: the HTLC has passed all stages
  abbrev offer : Message
  offer = Step (Updated (Add (record { id = 0; amount_msat = 2000; hash = hash; expiry_height = 500 })))

  abbrev signature : Message
  signature = Step (CommitmentSigned (tokens 1 (2000 ∷ [])))

  abbrev revocation : Message
  revocation = RevokeAndAck (record { secret = secret_at peer 0; next_point = point_at peer 2 })

  abbrev signed : State
  signed = after_sign (after (after opened offer) signature)

  abbrev settled : State
  settled = after signed revocation

  -- B fulfils it, and the connection is cut
  abbrev fulfilled : State
  fulfilled = after_update (Fulfil 0 preimage) settled

  abbrev cut : State
  cut = forgotten fulfilled

  abbrev given : List Message
  given = RevokeAndAck (record { secret = secret_at seed 0; next_point = point_at seed 2 }) ∷ signature ∷ Step (Updated (Fulfil 0 preimage)) ∷ []

  may_fulfil : (update_refusal settled (Fulfil 0 preimage) ≡ None) × (update_refusal cut (Fulfil 0 preimage) ≡ None)
  unfolding sha256 digest_bytes hash_after compress rounds schedule first_words
  may_fulfil = (refl, refl)

  life : HasGiven tokens_of fulfilled given
  life =
      gave_update (Fulfil 0 preimage) may_fulfil.0
      (gave_answers revocation (takes_first signed peer refl refl refl)
      (gave_signature refl (gave_answers signature refl (gave_answers offer refl (gave_nothing terms B seed (point_at peer 0) (point_at peer 1))))))

  -- before, B may fail it; as it fulfilled it, nobody may remove it again; and after the cut B may not fail it, nor another one that is not there
  may_fail : (update_refusal settled (Fail 0) ≡ None)
      × (update_refusal fulfilled (Fail 0) ≡ Some UnknownHtlc)
      × (update_refusal cut (Fail 0) ≡ Some AlreadyFulfilled)
      × (update_refusal cut (Fail 1) ≡ Some UnknownHtlc)
  may_fail = (refl, refl, refl, refl)

  -- the law's premises are met
  by_the_law : FulfilledAreNotFailed → update_refusal cut (Fail 0) ≡ None → ⊥
  by_the_law law e = law tokens_of fulfilled cut given 0 preimage life (2, omega arith, refl) (forgot_later now) e
