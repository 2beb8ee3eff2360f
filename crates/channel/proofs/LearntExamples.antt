-- What a side knows of its peer's commitments, on a state that a play of BOLT 2 leads to and beside it: its secrets, its numbers, and what is offered.
use Rattle.std.proofs.Common.{◌≡◌, ℕ, zero, suc, true, List, [], ◌∷◌, replicate, Some, None, refl, sym, ap, ◌∙◌, Contains, arith}
use Rattle.std.specs.Prelude.{slice_get}
use Rattle.std.proofs.lemmas.Option.{same_Some, none-some}
use Rattle.sha2.specs.Sha256.{sha256, digest_bytes, hash_after, compress, rounds, schedule, first_words}
use Rattle.tx.specs.declared.input.OutPoint.{OutPoint}
use Rattle.keys.specs.Derivation.{point_of}
use Rattle.terms.specs.declared.htlcs.Htlc.{Htlc}
use Rattle.terms.specs.declared.sides.Side.TheVariants.{A, B}
use Rattle.terms.specs.declared.agreement.BaseKeys.{BaseKeys}
use Rattle.updates.specs.declared.changes.Update.TheVariants.{Add}
use Rattle.channel.specs.declared.commitments.CommitmentState.{CommitmentState}
use Rattle.channel.specs.declared.messages.Message.TheVariants.{RevokeAndAck}
use Rattle.channel.specs.States.{State, first_of, state_at_opening, peers_next, after_update, after_sign, after}
use Rattle.channel.specs.Reestablishing.{forgotten}
use Rattle.channel.specs.Learning.{HasLearnt, IsLimited, OffersOwn}
use Rattle.channel.proofs.Samples.{key, secret, point, point_is, point_key, sample_terms}

abbrev htlc : ℕ → Htlc
htlc amount_msat = record { id = 0; amount_msat = amount_msat; hash = []; expiry_height = 500 }

abbrev second_byte : List ℕ → ℕ
second_byte [] = 0
second_byte (x ∷ []) = 0
second_byte (x ∷ y ∷ zs) = y

-- the point of another secret (its second byte by Python's hashlib)
other_point : point ≡ point_of (replicate 32 8) → ⊥
unfolding point_of sha256 digest_bytes hash_after compress rounds schedule first_words
other_point e = let bytes : 214 ≡ 140 = ap second_byte e in omega (arith, bytes)

module _ (funding : OutPoint) (bases : BaseKeys) (seed : List ℕ) where
  -- A offers an HTLC and signs the peer's commitment 1, and the peer revokes its commitment 0
  abbrev opened : State
  opened = state_at_opening (sample_terms funding bases) A seed point_key (key 1)

  abbrev offering : State
  offering = after_update (Add (htlc 2000)) opened

  abbrev revoked : State
  revoked = after (after_sign offering) (RevokeAndAck (record { secret = secret; next_point = key 2 }))

  known_at : (n : ℕ) (k : CommitmentState) (x : List ℕ) → slice_get revoked.signed n ≡ Some k → slice_get revoked.secrets n ≡ Some x → k.point.bytes ≡ point_of x
  known_at zero k x there known =
      ap (λ (c : CommitmentState). c.point.bytes) (sym (same_Some (first_of (sample_terms funding bases) B point_key) k there)) ∙ sym point_is ∙ ap point_of (same_Some secret x known)
  known_at (suc n) k x there known = absurd (none-some x known)

  -- yes: HasLearnt
  knows_one : HasLearnt revoked
  knows_one = record { count = refl; each = known_at }

  -- no: HasLearnt
  knows_another : HasLearnt (record revoked { secrets = replicate 32 8 ∷ [] }) → ⊥
  knows_another h = other_point (h.each 0 (first_of (sample_terms funding bases) B point_key) (replicate 32 8) refl refl)

  -- no: HasLearnt
  knows_none : HasLearnt (record revoked { secrets = [] }) → ⊥
  knows_none h = let count = h.count in omega (arith, count)

  -- yes: IsLimited
  at_the_last : IsLimited (record revoked { number = 281474976710654; peer_number = 281474976710653; awaiting = true })
  at_the_last = record { number = omega arith; peer_number = omega arith }

  -- no: IsLimited
  past_the_last : IsLimited (record revoked { number = 281474976710655 }) → ⊥
  past_the_last l = let h = l.number in omega (arith, h)

  -- no: IsLimited
  signed_past_the_last : IsLimited (record revoked { peer_number = 281474976710654; awaiting = true }) → ⊥
  signed_past_the_last l = let h = l.peer_number in omega (arith, h)

  -- yes: OffersOwn
  offers_its_own : OffersOwn revoked (peers_next offering)
  offers_its_own = ((0, omega arith, refl), tt)

  -- no: OffersOwn
  offers_nothing : OffersOwn (forgotten offering) (peers_next offering) → ⊥
  offers_nothing h = let none = h.0.1 in omega (arith, none)

  only_one : Contains (htlc 3000 ∷ []) (htlc 2000) → ⊥
  only_one (zero, l, e) = let amounts : 3000 ≡ 2000 = ap (λ (h : Htlc). h.amount_msat) e in omega (arith, amounts)
  only_one (suc i, l, e) = omega (arith, l)

  -- no: OffersOwn
  offers_another : OffersOwn (after_update (Add (htlc 3000)) opened) (peers_next offering) → ⊥
  offers_another h = only_one h.0
