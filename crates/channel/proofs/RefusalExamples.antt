-- What a channel refuses, message by message, and in which order; the secrets are those of BOLT 3, "Storage Tests".
use Rattle.std.proofs.Common.{◌≡◌, ℕ, true, false, List, [], ◌∷◌, length, replicate, Some, None, refl}
use Rattle.std.specs.Int.Count.{count_trailing_zeros}
use Rattle.sha2.specs.Sha256.{sha256, digest_bytes, hash_after, compress, rounds, schedule, first_words}
use Rattle.tx.specs.declared.input.OutPoint.{OutPoint}
use Rattle.keys.specs.Derivation.{point_of}
use Rattle.secrets.specs.Derivation.{flipped, derived_secret}
use Rattle.terms.specs.declared.htlcs.Htlc.{Htlc}
use Rattle.terms.specs.declared.sides.Side.TheVariants.{A, B}
use Rattle.terms.specs.declared.agreement.BaseKeys.{BaseKeys}
use Rattle.terms.specs.declared.agreement.Terms.{Terms}
use Rattle.updates.specs.declared.changes.Update.TheVariants.{Add, Fulfil, Fail, Fee}
use Rattle.updates.specs.declared.errors.ChannelError.TheVariants.{AmountZero, BelowMinimum, ExpiryTooLarge, WrongId, OverBalance, UnknownHtlc, NoUpdates, BadSignature, WrongSecret, NotYourTurn, NotOpener}
use Rattle.updates.specs.declared.messages.PeerStep.TheVariants.{Update as Updated, CommitmentSigned}
use Rattle.channel.specs.declared.messages.Message.TheVariants.{Step, RevokeAndAck}
use Rattle.channel.specs.Points.{index_of, secret_at, point_at, is_foreign}
use Rattle.channel.specs.States.{State, state_at_opening, update_refusal, sign_refusal, receive_refusal, after_update, after_sign, after, answers}
use Rattle.channel.proofs.Samples.{key, secret, point_key, tokens_of, tokens, sample_terms}

-- a commitment number's index: the first, the second and the last
indices : (index_of 0 ≡ 281474976710655) × (index_of 1 ≡ 281474976710654) × (index_of 281474976710655 ≡ 0)
unfolding index_of
indices = (refl, refl, refl)

-- the first four secrets of a seed, and a first one of another seed
abbrev first : List ℕ
first = 124 ∷ 200 ∷ 84 ∷ 181 ∷ 78 ∷ 62 ∷ 13 ∷ 205 ∷ 176 ∷ 16 ∷ 215 ∷ 163 ∷ 254 ∷ 228 ∷ 100 ∷ 169 ∷ 104 ∷ 123 ∷ 230 ∷ 232 ∷ 219 ∷ 59 ∷ 230 ∷ 133 ∷ 76 ∷ 71 ∷ 86 ∷ 33 ∷ 224 ∷ 7 ∷ 165 ∷ 220 ∷ []

abbrev second : List ℕ
second = 199 ∷ 81 ∷ 140 ∷ 138 ∷ 228 ∷ 102 ∷ 14 ∷ 208 ∷ 40 ∷ 148 ∷ 223 ∷ 137 ∷ 118 ∷ 250 ∷ 26 ∷ 54 ∷ 89 ∷ 193 ∷ 168 ∷ 180 ∷ 181 ∷ 190 ∷ 192 ∷ 196 ∷ 184 ∷ 114 ∷ 171 ∷ 235 ∷ 164 ∷ 203 ∷ 137 ∷ 100 ∷ []

abbrev third : List ℕ
third = 34 ∷ 115 ∷ 226 ∷ 39 ∷ 165 ∷ 183 ∷ 68 ∷ 155 ∷ 110 ∷ 112 ∷ 241 ∷ 251 ∷ 70 ∷ 82 ∷ 134 ∷ 64 ∷ 56 ∷ 177 ∷ 203 ∷ 249 ∷ 205 ∷ 124 ∷ 4 ∷ 58 ∷ 125 ∷ 100 ∷ 86 ∷ 183 ∷ 252 ∷ 39 ∷ 90 ∷ 216 ∷ []

abbrev fourth : List ℕ
fourth = 39 ∷ 205 ∷ 218 ∷ 165 ∷ 98 ∷ 69 ∷ 52 ∷ 203 ∷ 108 ∷ 185 ∷ 215 ∷ 218 ∷ 7 ∷ 124 ∷ 242 ∷ 178 ∷ 42 ∷ 178 ∷ 30 ∷ 155 ∷ 80 ∷ 111 ∷ 212 ∷ 153 ∷ 138 ∷ 81 ∷ 213 ∷ 69 ∷ 2 ∷ 233 ∷ 145 ∷ 22 ∷ []

abbrev other_first : List ℕ
other_first = 2 ∷ 164 ∷ 12 ∷ 133 ∷ 182 ∷ 242 ∷ 141 ∷ 160 ∷ 141 ∷ 253 ∷ 190 ∷ 9 ∷ 38 ∷ 197 ∷ 63 ∷ 171 ∷ 45 ∷ 230 ∷ 210 ∷ 140 ∷ 16 ∷ 48 ∷ 31 ∷ 143 ∷ 124 ∷ 64 ∷ 115 ∷ 213 ∷ 228 ∷ 46 ∷ 49 ∷ 72 ∷ []

-- the second leads to the first, the third to none, the fourth to all three
stored : (is_foreign [] first ≡ false)
    × (is_foreign (first ∷ []) second ≡ false)
    × (is_foreign (other_first ∷ []) second ≡ true)
    × (is_foreign (other_first ∷ second ∷ []) third ≡ false)
    × (is_foreign (first ∷ second ∷ third ∷ []) fourth ≡ false)
    × (is_foreign (first ∷ second ∷ first ∷ []) fourth ≡ true)
    × (is_foreign (first ∷ first ∷ third ∷ []) fourth ≡ true)
    × (is_foreign (first ∷ second ∷ third ∷ []) third ≡ true)
unfolding is_foreign index_of derived_secret flipped count_trailing_zeros sha256 digest_bytes hash_after compress rounds schedule first_words
stored = (refl, refl, refl, refl, refl, refl, refl, refl)

abbrev htlc : ℕ → ℕ → ℕ → Htlc
htlc id amount_msat expiry_height = record { id = id; amount_msat = amount_msat; hash = []; expiry_height = expiry_height }

module _ (funding : OutPoint) (bases : BaseKeys) (seed : List ℕ) where
  abbrev terms : Terms
  terms = sample_terms funding bases

  abbrev a : State
  a = state_at_opening terms A seed point_key (key 1)

  abbrev b : State
  b = state_at_opening terms B seed (key 0) (key 1)

  -- what A may offer
  offers : (update_refusal a (Add (htlc 0 0 500000000)) ≡ Some AmountZero)
      × (update_refusal a (Add (htlc 0 999 500000000)) ≡ Some BelowMinimum)
      × (update_refusal a (Add (htlc 0 80000001 500000000)) ≡ Some ExpiryTooLarge)
      × (update_refusal a (Add (htlc 0 1000 500000000)) ≡ Some ExpiryTooLarge)
      × (update_refusal a (Add (htlc 0 80000001 499999999)) ≡ Some OverBalance)
      × (update_refusal a (Add (htlc 0 80000000 499999999)) ≡ None)
  offers = (refl, refl, refl, refl, refl, refl)

  -- what B receives of A, and A of B
  received : (receive_refusal tokens_of b (Step (Updated (Add (htlc 1 0 500)))) ≡ Some WrongId)
      × (receive_refusal tokens_of b (Step (Updated (Add (htlc 0 80000001 500)))) ≡ Some OverBalance)
      × (receive_refusal tokens_of b (Step (Updated (Add (htlc 0 80000000 500)))) ≡ None)
      × (receive_refusal tokens_of a (Step (Updated (Add (htlc 0 20000001 500)))) ≡ Some OverBalance)
      × (receive_refusal tokens_of a (Step (Updated (Add (htlc 0 20000000 500)))) ≡ None)
      × (receive_refusal tokens_of b (Step (Updated (Fail 0))) ≡ Some UnknownHtlc)
      × (receive_refusal tokens_of b (Step (Updated (Fulfil 0 []))) ≡ Some UnknownHtlc)
      × (receive_refusal tokens_of b (Step (Updated (Fee 1))) ≡ None)
      × (receive_refusal tokens_of a (Step (Updated (Fee 1))) ≡ Some NotOpener)
  received = (refl, refl, refl, refl, refl, refl, refl, refl, refl)

  -- A offered two HTLCs, and B received them
  abbrev offering : State
  offering = after_update (Add (htlc 1 3000 500)) (after_update (Add (htlc 0 2000 500)) a)

  abbrev receiving : State
  receiving = after (after b (Step (Updated (Add (htlc 0 2000 500))))) (Step (Updated (Add (htlc 1 3000 500))))

  -- signatures given out: one at a time, with something to cover, up to the last number
  signed : (sign_refusal a ≡ Some NoUpdates)
      × (sign_refusal offering ≡ None)
      × (sign_refusal (after_sign offering) ≡ Some NotYourTurn)
      × (sign_refusal (record offering { peer_number = 281474976710653 }) ≡ None)
      × (sign_refusal (record offering { peer_number = 281474976710654 }) ≡ Some NotYourTurn)
      × (sign_refusal (record a { peer_number = 281474976710653 }) ≡ Some NoUpdates)
      × (sign_refusal (record a { peer_number = 281474976710654 }) ≡ Some NotYourTurn)
  signed = (refl, refl, refl, refl, refl, refl, refl)

  -- signatures received: each token in its place, and no other number of them
  signatures : (receive_refusal tokens_of b (Step (CommitmentSigned (tokens 1 []))) ≡ Some NoUpdates)
      × (receive_refusal tokens_of receiving (Step (CommitmentSigned (tokens 1 (2000 ∷ 3000 ∷ [])))) ≡ None)
      × (receive_refusal tokens_of receiving (Step (CommitmentSigned (tokens 1 (2000 ∷ 3000 ∷ 3000 ∷ [])))) ≡ Some BadSignature)
      × (receive_refusal tokens_of receiving (Step (CommitmentSigned (tokens 1 (2000 ∷ [])))) ≡ Some BadSignature)
      × (receive_refusal tokens_of receiving (Step (CommitmentSigned (tokens 1 []))) ≡ Some BadSignature)
      × (receive_refusal tokens_of receiving (Step (CommitmentSigned (tokens 1 (3000 ∷ 2000 ∷ [])))) ≡ Some BadSignature)
      × (receive_refusal tokens_of receiving (Step (CommitmentSigned (tokens 0 (2000 ∷ 3000 ∷ [])))) ≡ Some BadSignature)
      × (receive_refusal tokens_of (record receiving { number = 281474976710653 }) (Step (CommitmentSigned (tokens 281474976710654 (2000 ∷ 3000 ∷ [])))) ≡ None)
      × (receive_refusal tokens_of (record receiving { number = 281474976710654 }) (Step (CommitmentSigned (tokens 281474976710655 (2000 ∷ 3000 ∷ [])))) ≡ Some NotYourTurn)
      × (receive_refusal tokens_of (record b { number = 281474976710653 }) (Step (CommitmentSigned (tokens 0 []))) ≡ Some NoUpdates)
      × (receive_refusal tokens_of (record b { number = 281474976710654 }) (Step (CommitmentSigned (tokens 0 []))) ≡ Some NotYourTurn)
  signatures = (refl, refl, refl, refl, refl, refl, refl, refl, refl, refl, refl)

  -- a signature is answered by the secret of the commitment that it replaces, and the point for the number after the next
  answered : (answers receiving (Step (CommitmentSigned (tokens 1 []))) ≡ RevokeAndAck (record { secret = secret_at seed 0; next_point = point_at seed 2 }) ∷ [])
      × (answers (record receiving { number = 5 }) (Step (CommitmentSigned (tokens 6 []))) ≡ RevokeAndAck (record { secret = secret_at seed 5; next_point = point_at seed 7 }) ∷ [])
      × (answers receiving (Step (Updated (Fail 0))) ≡ [])
      × (answers receiving (RevokeAndAck (record { secret = secret; next_point = key 2 })) ≡ [])
  answered = (refl, refl, refl, refl)

  -- revocations: of the commitment that is replaced, by a secret of the peer's seed
  revoked : (receive_refusal tokens_of offering (RevokeAndAck (record { secret = secret; next_point = key 2 })) ≡ Some NotYourTurn)
      × (receive_refusal tokens_of (after_sign offering) (RevokeAndAck (record { secret = secret; next_point = key 2 })) ≡ None)
      × (receive_refusal tokens_of (after_sign offering) (RevokeAndAck (record { secret = replicate 32 8; next_point = key 2 })) ≡ Some WrongSecret)
      × (receive_refusal tokens_of (record (after_sign offering) { secrets = first ∷ [] }) (RevokeAndAck (record { secret = secret; next_point = key 2 })) ≡ Some WrongSecret)
      × (receive_refusal tokens_of (record offering { secrets = first ∷ [] }) (RevokeAndAck (record { secret = replicate 32 8; next_point = key 2 })) ≡ Some NotYourTurn)
  unfolding point_of is_foreign index_of derived_secret flipped count_trailing_zeros sha256 digest_bytes hash_after compress rounds schedule first_words
  revoked = (refl, refl, refl, refl, refl)

  -- what a revocation makes of a state
  abbrev later : State
  later = after (after_sign offering) (RevokeAndAck (record { secret = secret; next_point = key 2 }))

  moved : (later.awaiting ≡ false) × (later.peer_number ≡ 1) × (later.number ≡ 0) × (later.point ≡ key 1) × (later.next_point ≡ key 2) × (later.secrets ≡ secret ∷ [])
      × (length later.signed ≡ 2) × (length later.mine ≡ 1) × (length later.held.own.past_receiver ≡ 2) × (length later.held.own.with_sender ≡ 0)
  moved = (refl, refl, refl, refl, refl, refl, refl, refl, refl, refl)
