-- Who satisfies a script of BOLT 3, and what has to be there: the block before a lock ends, another size, and an empty witness.
use Rattle.std.proofs.Common.{◌≡◌, ◌≢◌, ℕ, zero, suc, ◌+◌, ◌^◌, true, false, List, [], ◌∷◌, length, replicate, sym, ap, ◌∙◌, refl, subst, inl, inr, arith, lit<}
use Rattle.std.specs.List.{Contains}
use Rattle.std.proofs.lemmas.Bool.{true≢false, false≢true}
use Rattle.digest.specs.Hash.{hash160}
use Rattle.script.specs.declared.opcode.Op.{Op}
use Rattle.script.specs.declared.spending.Spend.{Spend}
use Rattle.script.specs.Token.{token_of, is_key}
use Rattle.script.specs.Step.{effect, lock_passes, age_passes}
use Rattle.script.specs.Run.{state_after}
use Rattle.sighash.proofs.Tokens.{one_token}
use Rattle.tx.specs.declared.input.TxIn.{TxIn}
use Rattle.tx.specs.Fields.{Transaction}
use Rattle.commit.specs.Commitments.{Contents}
use Rattle.penalty.specs.declared.states.RevokedState.{RevokedState}
use Rattle.penalty.specs.Claimable.{Claimable, commitment_in}
use Rattle.safety.specs.Satisfying.{HasToken, HasKeyOf, HasPreimage, OnSatisfied, SatisfiesToLocal, SatisfiesOffered, SatisfiesReceived, SatisfiesFunding}
use Rattle.safety.specs.Signing.{Signed, AreSame, digest_of}
use Rattle.safety.specs.Spending.{spend_on, IsPeerKeyOn, IsSignedBy, IsOwners, IsLate, CanSpend, by_peer, by_owner, by_collision, Waits}
use Rattle.safety.specs.Ways.{by_owner as owner_takes, by_peer as peer_takes, by_htlc_transaction as htlc_takes, by_collision as collision_takes}
use Rattle.safety.specs.Taking.{Collides, IsTaken}
use Rattle.safety.specs.Fates.{signed_by_peer, Ending}
use Rattle.safety.proofs.Slots.{any_none}
use Rattle.safety.proofs.Lists.{contains_none}
use Rattle.law_examples.proofs.Signatures.{shows_nothing}

-- ---- witnesses

module _ (spend : Spend) where
  -- yes: HasToken
  token : (key : List ℕ) → HasToken spend ([] ∷ token_of key spend.digest ∷ []) key
  token key = (1, lit< tt, refl)

  -- no: HasToken
  no_token : (key : List ℕ) → HasToken spend [] key → ⊥
  no_token key t = contains_none (token_of key spend.digest) t

  -- yes: HasKeyOf
  key_of : (key : List ℕ) → is_key key ≡ true → HasKeyOf spend (token_of key spend.digest ∷ key ∷ []) (hash160 key)
  key_of key form = record { key = key; given = (1, lit< tt, refl); form = form; hashed = refl; token = (0, lit< tt, refl) }

  -- a token is none, whatever it is the token of
  -- no: HasKeyOf
  no_form_of_a_key : (item other hash : List ℕ) → is_key item ≡ false → is_key other ≡ false → HasKeyOf spend (other ∷ item ∷ []) hash → ⊥
  no_form_of_a_key item other hash e f k = by k.given
    where
      by : Contains (other ∷ item ∷ []) k.key → ⊥
      by (zero, i, s) = true≢false (sym k.form ∙ ap is_key (sym s) ∙ f)
      by (suc zero, i, s) = true≢false (sym k.form ∙ ap is_key (sym s) ∙ e)
      by (suc (suc n), i, s) = omega (arith, i)

  -- no: HasKeyOf
  no_key_of : (hash : List ℕ) → HasKeyOf spend [] hash → ⊥
  no_key_of hash k = contains_none k.key k.given

-- yes: HasPreimage
preimage : HasPreimage (replicate 32 5 ∷ []) (hash160 (replicate 32 5))
preimage = record { preimage = replicate 32 5; given = (0, lit< tt, refl); size = refl; hashed = refl }

-- no: HasPreimage
long_preimage : (x hash : List ℕ) → length x ≡ 33 → HasPreimage (x ∷ []) hash → ⊥
long_preimage x hash l p = by p.given
  where
    by : Contains (x ∷ []) p.preimage → ⊥
    by (zero, i, e) = let m = p.size in let n = ap length e in omega (arith, l, m, n)
    by (suc k, i, e) = omega (arith, i)

-- yes: OnSatisfied
nothing_asked : (ops : List Op) → OnSatisfied ops (λ spend witness. Unit {0})
nothing_asked ops spend witness counted height e = tt

-- a script without opcodes runs clean on one true item
-- no: OnSatisfied
never_satisfied : Spend → OnSatisfied [] (λ spend witness. ⊥) → ⊥
unfolding state_after effect
never_satisfied spend h = h spend ((1 ∷ []) ∷ []) 0 1 refl

module _ (digest : List ℕ) where
  abbrev spending : ℕ → ℕ → Spend
  spending lock_time sequence = record { version = 2; lock_time = lock_time; sequence = sequence; digest = digest }

  module _ (revocation delayed : List ℕ) where
    -- yes: SatisfiesToLocal
    by_revocation : SatisfiesToLocal revocation 144 delayed (spending 0 0) (token_of revocation digest ∷ [])
    by_revocation = inl (0, lit< tt, refl)

    -- yes: SatisfiesToLocal
    by_delayed : SatisfiesToLocal revocation 144 delayed (spending 0 144) (token_of delayed digest ∷ [])
    unfolding age_passes
    by_delayed = inr ((0, lit< tt, refl), refl)

    -- no: SatisfiesToLocal
    delayed_early : (witness : List (List ℕ)) → (HasToken (spending 0 143) witness revocation → ⊥) → SatisfiesToLocal revocation 144 delayed (spending 0 143) witness → ⊥
    unfolding age_passes
    delayed_early witness n (inl t) = n t
    delayed_early witness n (inr p) = false≢true p.1

  module _ (hash remote local payment : List ℕ) where
    -- yes: SatisfiesOffered
    by_timeout : SatisfiesOffered hash remote local payment (spending 0 0) (token_of remote digest ∷ token_of local digest ∷ [])
    by_timeout = inr ((0, lit< tt, refl), inl (1, lit< tt, refl))

    -- yes: SatisfiesOffered
    by_preimage : (x : List ℕ) → length x ≡ 32 → hash160 x ≡ payment → SatisfiesOffered hash remote local payment (spending 0 0) (x ∷ token_of remote digest ∷ [])
    by_preimage x l e = inr ((1, lit< tt, refl), inr (record { preimage = x; given = (0, lit< tt, refl); size = l; hashed = e }))

    -- no: SatisfiesOffered
    offered_by_nothing : SatisfiesOffered hash remote local payment (spending 0 0) [] → ⊥
    offered_by_nothing (inl k) = contains_none k.key k.given
    offered_by_nothing (inr p) = contains_none (token_of remote digest) p.0

    -- yes: SatisfiesReceived
    at_the_expiry : SatisfiesReceived hash remote local payment 500 (spending 500 0) (token_of remote digest ∷ [])
    unfolding lock_passes
    at_the_expiry = inr ((0, lit< tt, refl), inr refl)

    -- no: SatisfiesReceived
    before_the_expiry : (witness : List (List ℕ)) → (HasKeyOf (spending 499 0) witness hash → ⊥) → (HasPreimage witness payment → ⊥) → SatisfiesReceived hash remote local payment 500 (spending 499 0) witness → ⊥
    unfolding lock_passes
    before_the_expiry witness n m (inl k) = n k
    before_the_expiry witness n m (inr (t, inl p)) = m p.1
    before_the_expiry witness n m (inr (t, inr l)) = false≢true l

  module _ (first second : List ℕ) where
    -- yes: SatisfiesFunding
    by_both : SatisfiesFunding first second (spending 0 0) ([] ∷ token_of second digest ∷ token_of first digest ∷ [])
    by_both = ((2, lit< tt, refl), (1, lit< tt, refl))

    module _ (apart : first ≢ second) (length_is : length first ≡ length second) where
      -- no: SatisfiesFunding
      by_first_twice : SatisfiesFunding first second (spending 0 0) (token_of first digest ∷ token_of first digest ∷ []) → ⊥
      by_first_twice (a, (zero, i, e)) = apart (one_token first second digest digest length_is e).0
      by_first_twice (a, (suc zero, i, e)) = apart (one_token first second digest digest length_is e).0
      by_first_twice (a, (suc (suc n), i, e)) = omega (arith, i)

      -- no: SatisfiesFunding
      by_second_alone : SatisfiesFunding first second (spending 0 0) (token_of second digest ∷ []) → ⊥
      by_second_alone ((zero, i, e), b) = apart (sym (one_token second first digest digest (sym length_is) e).0)
      by_second_alone ((suc n, i, e), b) = omega (arith, i)

      -- the second key's is over another digest
      -- no: SatisfiesFunding
      by_another_digest : (other : List ℕ) → other ≢ digest → SatisfiesFunding first second (spending 0 0) (token_of first digest ∷ token_of second other ∷ []) → ⊥
      by_another_digest other n (a, (zero, i, e)) = apart (one_token first second digest digest length_is e).0
      by_another_digest other n (a, (suc zero, i, e)) = n (one_token second second other digest refl e).1
      by_another_digest other n (a, (suc (suc m), i, e)) = omega (arith, i)

-- ---- inputs

module _ (t : Transaction) (input : TxIn) where
  abbrev with_sequence : ℕ → TxIn
  with_sequence sequence = record input { sequence = sequence }

  -- yes: Waits
  waits : t.version ≡ 2 → Waits t (with_sequence 144) 144
  waits e = record { version = omega (arith, e); on = refl; blocks = refl; enough = omega arith }

  -- no: Waits
  waits_less : Waits t (with_sequence 143) 144 → ⊥
  waits_less w = let l = w.enough in omega (arith, l)

  -- no: Waits
  first_version : t.version ≡ 1 → Waits t (with_sequence 144) 144 → ⊥
  first_version e w = let l = w.version in omega (arith, e, l)

  -- no: Waits
  switched_off : Waits t (with_sequence (2 ^ 31 + 144)) 144 → ⊥
  switched_off w = true≢false w.on

  -- no: Waits
  by_time : Waits t (with_sequence (2 ^ 22 + 144)) 144 → ⊥
  by_time w = true≢false w.blocks

  module _ (c : Contents) (o : Claimable) where
    -- yes: CanSpend
    peer_can : (key : List ℕ) → IsPeerKeyOn c o key → IsSignedBy key (spend_on o t input) → CanSpend ⊥ c o t input
    peer_can key k s = by_peer key k s

    -- yes: CanSpend
    owner_can : (Late : Type 0) → IsOwners Late c o t input → CanSpend Late c o t input
    owner_can Late w = by_owner w

    -- no: CanSpend
    nobody_can : (Late : Type 0) → input.witness ≡ [] → CanSpend Late c o t input → ⊥
    nobody_can Late e (by_peer key k s) = contains_none (token_of key (digest_of (spend_on o t input))) (subst (λ (w : List (List ℕ)). Contains w (token_of key (digest_of (spend_on o t input)))) e s)
    nobody_can Late e (by_owner w) =
        contains_none (token_of c.keys.delayed (digest_of (spend_on o t input))) (subst (λ (x : List (List ℕ)). Contains x (token_of c.keys.delayed (digest_of (spend_on o t input)))) e w.token)
    nobody_can Late e (by_collision s) = shows_nothing c o input e s

  module _ (s : RevokedState) (o : Claimable) (delay_blocks : (commitment_in s).delay_blocks ≡ 144) where
    -- yes: IsTaken
    owner_takes_it : (z : Signed) → IsOwners (IsLate (commitment_in s) 100 244) (commitment_in s) o t input → IsTaken s o 100 244 t input (z ∷ [])
    owner_takes_it z w = owner_takes w

    -- no: IsTaken
    nobody_takes_it : (Collides s o t input [] → ⊥) → IsTaken s o 100 243 t input [] → ⊥
    nobody_takes_it n (peer_takes a) = any_none (AreSame (spend_on o t input)) a
    nobody_takes_it n (htlc_takes h) = h
    nobody_takes_it n (owner_takes w) = let l = w.late in omega (arith, delay_blocks, l)
    nobody_takes_it n (collision_takes c) = n c

    -- yes: Ending
    owner_ends_it : (z : Signed) → IsOwners (IsLate (commitment_in s) 100 244) (commitment_in s) o t input → Ending s o 100 244 t input (z ∷ [])
    owner_ends_it z w = owner_takes w

    -- no: Ending
    nothing_ends_it : (Collides s o t input (signed_by_peer (commitment_in s) []) → ⊥) → Ending s o 100 243 t input [] → ⊥
    nothing_ends_it n (peer_takes a) = any_none (AreSame (spend_on o t input)) a
    nothing_ends_it n (htlc_takes h) = h
    nothing_ends_it n (owner_takes w) = let l = w.late in omega (arith, delay_blocks, l)
    nothing_ends_it n (collision_takes c) = n c
