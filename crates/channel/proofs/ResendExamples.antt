-- Connections that are cut, worked out by hand from BOLT 2, "Message Retransmission": what is said, what is refused, and what goes out again.
use Rattle.std.proofs.Common.{◌≡◌, ℕ, ◌≤◌, true, false, List, [], ◌∷◌, length, replicate, Some, None, refl, ap, arith}
use Rattle.tx.specs.declared.input.OutPoint.{OutPoint}
use Rattle.terms.specs.declared.htlcs.Htlc.{Htlc}
use Rattle.terms.specs.declared.sides.Side.TheVariants.{A, B}
use Rattle.terms.specs.declared.agreement.BaseKeys.{BaseKeys}
use Rattle.updates.specs.declared.changes.Update.TheVariants.{Add, Fulfil, Fail}
use Rattle.updates.specs.declared.errors.ChannelError.TheVariants.{UnknownHtlc, WrongSecret, PeerBehind, NeverSigned, AlreadyFulfilled}
use Rattle.updates.specs.Refusals.{first_refusal}
use Rattle.updates.specs.declared.messages.PeerStep.TheVariants.{Update as Updated, CommitmentSigned}
use Rattle.channel.specs.declared.messages.Message.{Message}
use Rattle.channel.specs.declared.messages.Message.TheVariants.{Step, RevokeAndAck}
use Rattle.channel.specs.declared.reestablish.Reestablish.{Reestablish}
use Rattle.channel.specs.Points.{secret_at, point_at}
use Rattle.channel.specs.States.{State, state_at_opening, repeat_tests, update_refusal, after_update, after_sign, after}
use Rattle.channel.specs.Reestablishing.{forgotten, hello, secret_before, is_behind, number_tests, hello_refusal, lacks_revocation, resends}
use Rattle.channel.specs.Resending.{HasGiven, gave_nothing, gave_update, gave_signature, gave_answers, gave_no_more, IsLeftOf, all_left, left_out, left_in, InFirstOrder, IsSince, still, took}
use Rattle.channel.proofs.Giving.{signed_since}
use Rattle.channel.proofs.Samples.{key, secret, point_key, tokens_of, tokens, sample_terms}

abbrev htlc : ℕ → ℕ → Htlc
htlc id amount_msat = record { id = id; amount_msat = amount_msat; hash = []; expiry_height = 500 }

abbrev says : ℕ → ℕ → List ℕ → Reestablish
says commitment revocation last_secret = record { next_commitment = commitment; next_revocation = revocation; last_secret = last_secret }

abbrev zeros : List ℕ
zeros = 0 ∷ 0 ∷ 0 ∷ 0 ∷ 0 ∷ 0 ∷ 0 ∷ 0 ∷ 0 ∷ 0 ∷ 0 ∷ 0 ∷ 0 ∷ 0 ∷ 0 ∷ 0 ∷ 0 ∷ 0 ∷ 0 ∷ 0 ∷ 0 ∷ 0 ∷ 0 ∷ 0 ∷ 0 ∷ 0 ∷ 0 ∷ 0 ∷ 0 ∷ 0 ∷ 0 ∷ 0 ∷ []

-- what is left of a list is no longer than it, and as long only where it is all of it
no_longer : (xs ys : List Message) → IsLeftOf xs ys → length xs ≤ length ys
no_longer xs ys all_left = omega arith
no_longer xs ys (left_out {xs = front} {ys = bs} m l) = let h = no_longer front bs l in omega (arith, h)
no_longer xs ys (left_in {xs = front} {ys = bs} m l) = let h = no_longer front bs l in omega (arith, h)

all_of_it : (xs ys : List Message) → IsLeftOf xs ys → length ys ≤ length xs → xs ≡ ys
all_of_it xs ys all_left e = refl
all_of_it xs ys (left_out {xs = front} {ys = bs} m l) e = let h = no_longer front bs l in absurd (omega (arith, e, h))
all_of_it xs ys (left_in {xs = front} {ys = bs} m l) e = ap (λ r. m ∷ r) (all_of_it front bs l (omega (arith, e)))

module _ (funding : OutPoint) (bases : BaseKeys) (seed : List ℕ) where
  abbrev a : State
  a = state_at_opening (sample_terms funding bases) A seed point_key (key 1)

  abbrev b : State
  b = state_at_opening (sample_terms funding bases) B seed (key 0) (key 1)

  -- A offers two HTLCs, signs, offers a third, and its signature is acknowledged
  abbrev offering : State
  offering = after_update (Add (htlc 1 3000)) (after_update (Add (htlc 0 2000)) a)

  abbrev waiting : State
  waiting = after_update (Add (htlc 2 4000)) (after_sign offering)

  abbrev acknowledged : State
  acknowledged = after waiting (RevokeAndAck (record { secret = secret; next_point = key 2 }))

  -- B takes the two, and the signature. It offers one of its own, and signs, before or after that
  abbrev receiving : State
  receiving = after (after b (Step (Updated (Add (htlc 0 2000))))) (Step (Updated (Add (htlc 1 3000))))

  abbrev taken : State
  taken = after receiving (Step (CommitmentSigned (tokens 1 [])))

  abbrev revoked_first : State
  revoked_first = after_sign (after_update (Add (htlc 0 5000)) taken)

  abbrev signed_first : State
  signed_first = after (after_sign (after_update (Add (htlc 0 5000)) receiving)) (Step (CommitmentSigned (tokens 1 [])))

  -- what is said: one more than one's own number, the number of revocations, and the last secret. BOLT 2: the first is 1 on a new channel, since commitment 0 is
  -- made in its opening; the second stays 0 until commitment 0 is revoked, and the secret is zeros as long
  hellos : (hello a ≡ says 1 0 zeros)
      × (hello waiting ≡ says 1 0 zeros)
      × (hello acknowledged ≡ says 1 1 secret)
      × (hello taken ≡ says 2 0 zeros)
      × (hello (record acknowledged { number = 7; secrets = (1 ∷ []) ∷ (2 ∷ []) ∷ (3 ∷ []) ∷ []; peer_number = 3 }) ≡ says 8 3 (3 ∷ []))
  hellos = (refl, refl, refl, refl, refl)

  -- forgetting: the third offer of A, and both that came to B, until its peer's signature came. BOLT 2: updates of the other side for which no
  -- `commitment_signed` came are reversed; what is said does not change by it, and the id is given again
  forgets : (length (forgotten waiting).held.own.known ≡ 2)
      × (length (forgotten offering).held.own.known ≡ 0)
      × (length (forgotten receiving).held.theirs.known ≡ 0)
      × (length (forgotten taken).held.theirs.known ≡ 2)
      × (hello (forgotten waiting) ≡ hello waiting)
      × (update_refusal (forgotten waiting) (Add (htlc 2 6000)) ≡ None)
  forgets = (refl, refl, refl, refl, refl, refl)

  -- A's signature was lost with its updates, or without them; B has it, and its revocation was lost; or nothing was lost. BOLT 2: the number of the last
  -- `commitment_signed` is used again where the peer expects it
  of_a : (resends tokens_of (forgotten waiting) (hello b) ≡ Step (Updated (Add (htlc 0 2000))) ∷ Step (Updated (Add (htlc 1 3000))) ∷ Step (CommitmentSigned (tokens 1 (2000 ∷ 3000 ∷ []))) ∷ [])
      × (resends tokens_of (forgotten waiting) (hello taken) ≡ [])
      × (resends tokens_of (forgotten acknowledged) (hello taken) ≡ [])
      × (resends tokens_of a (hello b) ≡ [])
  of_a = (refl, refl, refl, refl)

  -- B's revocation was lost, alone or with its signature, in the order in which the two went out; or A has the revocation and not the signature. BOLT 2: the
  -- last `revoke_and_ack` goes out again where the peer expects it, in the same relative order as the signature at first
  of_b : (resends tokens_of taken (hello waiting) ≡ RevokeAndAck (record { secret = secret_at seed 0; next_point = point_at seed 2 }) ∷ [])
      × (resends tokens_of revoked_first (hello waiting) ≡ RevokeAndAck (record { secret = secret_at seed 0; next_point = point_at seed 2 }) ∷ Step (Updated (Add (htlc 0 5000))) ∷ Step (CommitmentSigned (tokens 1 (2000 ∷ 3000 ∷ []))) ∷ [])
      × (resends tokens_of signed_first (hello waiting) ≡ Step (Updated (Add (htlc 0 5000))) ∷ Step (CommitmentSigned (tokens 1 [])) ∷ RevokeAndAck (record { secret = secret_at seed 0; next_point = point_at seed 2 }) ∷ [])
      × (resends tokens_of revoked_first (says 1 1 (secret_at seed 0)) ≡ Step (Updated (Add (htlc 0 5000))) ∷ Step (CommitmentSigned (tokens 1 (2000 ∷ 3000 ∷ []))) ∷ [])
      × (resends tokens_of signed_first (says 2 0 zeros) ≡ RevokeAndAck (record { secret = secret_at seed 0; next_point = point_at seed 2 }) ∷ [])
      × (resends tokens_of taken (says 1 1 (secret_at seed 0)) ≡ [])
  of_b = (refl, refl, refl, refl, refl, refl)

  -- the signature that a peer expects next: two while one is awaited, else one alone. BOLT 2: one that is neither the last nor one greater fails the channel, and
  -- so does any but 1 where none was sent
  expected : (first_refusal (number_tests a (says 0 0 [])) ≡ Some PeerBehind)
      × (first_refusal (number_tests a (says 1 0 [])) ≡ None)
      × (first_refusal (number_tests a (says 2 0 [])) ≡ Some NeverSigned)
      × (first_refusal (number_tests waiting (says 0 0 [])) ≡ Some PeerBehind)
      × (first_refusal (number_tests waiting (says 1 0 [])) ≡ None)
      × (first_refusal (number_tests waiting (says 2 0 [])) ≡ None)
      × (first_refusal (number_tests waiting (says 3 0 [])) ≡ Some NeverSigned)
      × (first_refusal (number_tests acknowledged (says 1 0 [])) ≡ Some PeerBehind)
      × (first_refusal (number_tests acknowledged (says 2 0 [])) ≡ None)
      × (first_refusal (number_tests acknowledged (says 3 0 [])) ≡ Some NeverSigned)
  expected = (refl, refl, refl, refl, refl, refl, refl, refl, refl, refl)

  -- the revocation that it expects next: the newest one or the next. BOLT 2: another one fails the channel, and a greater one with its secret says that this side
  -- may not broadcast
  abbrev fifth : State
  fifth = record a { number = 5 }

  revocations : (first_refusal (number_tests fifth (says 1 3 [])) ≡ Some PeerBehind)
      × (first_refusal (number_tests fifth (says 1 4 [])) ≡ None)
      × (first_refusal (number_tests fifth (says 1 5 [])) ≡ None)
      × (first_refusal (number_tests fifth (says 2 3 [])) ≡ Some PeerBehind)
      × (is_behind fifth (says 1 5 []) ≡ false)
      × (is_behind fifth (says 1 6 []) ≡ true)
      × (lacks_revocation fifth (says 1 3 []) ≡ false)
      × (lacks_revocation fifth (says 1 4 []) ≡ true)
      × (lacks_revocation fifth (says 1 5 []) ≡ false)
      × (secret_before seed 0 ≡ zeros)
      × (secret_before seed 6 ≡ secret_at seed 5)
  revocations = (refl, refl, refl, refl, refl, refl, refl, refl, refl, refl, refl)

  -- the secret comes first
  secrets : (hello_refusal a (says 1 0 zeros) ≡ None)
      × (hello_refusal a (says 1 0 (replicate 31 0)) ≡ Some WrongSecret)
      × (hello_refusal a (says 0 0 (replicate 32 1)) ≡ Some WrongSecret)
      × (hello_refusal a (says 0 0 zeros) ≡ Some PeerBehind)
      × (hello_refusal a (says 2 0 zeros) ≡ Some NeverSigned)
      × (hello_refusal a (says 2 281474976710656 zeros) ≡ Some WrongSecret)
  secrets = (refl, refl, refl, refl, refl, refl)

  -- why a call is written before it sends: A gave its signature and starts again from before it, or B its revocation. Neither goes on
  unwritten : (hello_refusal a (hello taken) ≡ Some NeverSigned) × (is_behind b (hello acknowledged) ≡ true)
  unwritten = (refl, refl)

  -- what was fulfilled once is not failed, though the fulfilment was forgotten
  repeated : (first_refusal (repeat_tests (4 ∷ 7 ∷ []) (Fail 7)) ≡ Some AlreadyFulfilled)
      × (first_refusal (repeat_tests (4 ∷ 7 ∷ []) (Fail 5)) ≡ None)
      × (first_refusal (repeat_tests (4 ∷ 7 ∷ []) (Fulfil 7 [])) ≡ None)
      × (update_refusal (record a { fulfilled = 0 ∷ [] }) (Fail 0) ≡ Some UnknownHtlc)
      × ((forgotten (after_update (Fulfil 3 []) a)).fulfilled ≡ 3 ∷ [])
      × ((forgotten (after_update (Fulfil 3 []) a)).held.own.known ≡ [])
  repeated = (refl, refl, refl, refl, refl, refl)

  -- all that A gave in its life, and all that B gave in each order
  abbrev update : ℕ → ℕ → Message
  update id amount_msat = Step (Updated (Add (htlc id amount_msat)))

  abbrev signature : List ℕ → Message
  signature amounts = Step (CommitmentSigned (tokens 1 amounts))

  abbrev revocation : Message
  revocation = RevokeAndAck (record { secret = secret_at seed 0; next_point = point_at seed 2 })

  of_b_receiving : HasGiven tokens_of receiving []
  of_b_receiving = gave_answers (update 1 3000) refl (gave_answers (update 0 2000) refl (gave_nothing (sample_terms funding bases) B seed (key 0) (key 1)))

  lives : (HasGiven tokens_of waiting (update 0 2000 ∷ update 1 3000 ∷ signature (2000 ∷ 3000 ∷ []) ∷ update 2 4000 ∷ []))
      × (HasGiven tokens_of (forgotten waiting) (update 0 2000 ∷ update 1 3000 ∷ signature (2000 ∷ 3000 ∷ []) ∷ update 2 4000 ∷ []))
      × (HasGiven tokens_of revoked_first (revocation ∷ update 0 5000 ∷ signature (2000 ∷ 3000 ∷ []) ∷ []))
      × (HasGiven tokens_of signed_first (update 0 5000 ∷ signature [] ∷ revocation ∷ []))
  lives = (
    of_a_waiting,
    gave_no_more of_a_waiting,
    gave_signature refl (gave_update (Add (htlc 0 5000)) refl (gave_answers (signature (2000 ∷ 3000 ∷ [])) refl of_b_receiving)),
    gave_answers (signature (2000 ∷ 3000 ∷ [])) refl (gave_signature refl (gave_update (Add (htlc 0 5000)) refl of_b_receiving)),
  )
    where
      of_a_waiting : HasGiven tokens_of waiting (update 0 2000 ∷ update 1 3000 ∷ signature (2000 ∷ 3000 ∷ []) ∷ update 2 4000 ∷ [])
      of_a_waiting =
          gave_update (Add (htlc 2 4000)) refl
          (gave_signature refl (gave_update (Add (htlc 1 3000)) refl (gave_update (Add (htlc 0 2000)) refl (gave_nothing (sample_terms funding bases) A seed point_key (key 1)))))

  -- an update may go out again after the revocation that it went out before. Neither the signature goes before the revocation then, nor before its update, and
  -- nothing that did not go out
  orders : InFirstOrder (revocation ∷ update 0 5000 ∷ signature [] ∷ []) (update 0 5000 ∷ revocation ∷ signature [] ∷ [])
      × InFirstOrder (signature [] ∷ []) (update 0 5000 ∷ signature [] ∷ revocation ∷ [])
      × (InFirstOrder (signature [] ∷ revocation ∷ []) (revocation ∷ signature [] ∷ []) → ⊥)
      × (InFirstOrder (revocation ∷ signature [] ∷ []) (signature [] ∷ revocation ∷ []) → ⊥)
      × (InFirstOrder (signature [] ∷ update 0 5000 ∷ []) (update 0 5000 ∷ signature [] ∷ []) → ⊥)
      × (InFirstOrder (update 0 5000 ∷ []) (signature [] ∷ []) → ⊥)
      × (InFirstOrder (revocation ∷ []) [] → ⊥)
  orders = (
    record {
      signature_and_revocation = left_out (update 0 5000) (left_in revocation (left_in (signature []) all_left));
      updates_and_signature = left_in (update 0 5000) (left_out revocation (left_in (signature []) all_left));
    },
    record {
      signature_and_revocation = left_out (update 0 5000) (left_in (signature []) (left_out revocation all_left));
      updates_and_signature = left_out (update 0 5000) (left_in (signature []) (left_out revocation all_left));
    },
    λ o. (let e = all_of_it _ _ o.signature_and_revocation (omega arith) in cc),
    λ o. (let e = all_of_it _ _ o.signature_and_revocation (omega arith) in cc),
    λ o. (let e = all_of_it _ _ o.updates_and_signature (omega arith) in cc),
    λ o. (let e = all_of_it _ _ o.updates_and_signature (omega arith) in cc),
    λ o. (let l = no_longer _ _ o.signature_and_revocation in omega (arith, l)),
  )

  -- B gave nothing since its opening as two updates came, and A gave a signature
  quiet : IsSince tokens_of b receiving × (IsSince tokens_of a waiting → ⊥)
  quiet = (took (update 1 3000) refl refl (took (update 0 2000) refl refl still), λ since. (let e = ap length (signed_since tokens_of a waiting since) in omega (arith, e)))
