-- What takes an output of a revoked commitment: the HTLC transaction above the expiry, the owner after the delay, and the fates that are none.
use Rattle.std.proofs.Common.{◌≡◌, ℕ, ◌<◌, true, false, List, [], ◌∷◌, ◌++◌, length, codes, Some, None, sym, ap, ◌∙◌, refl, subst, ⊎_elim, arith, lit<}
use Rattle.std.specs.List.{Contains}
use Rattle.std.proofs.lemmas.Option.{same_Some}
use Rattle.std.proofs.lemmas.List.Elements.{All-nil}
use Rattle.std.proofs.lemmas.Slice.Eq.{bytes_eq-Decides}
use Rattle.tx.specs.declared.input.OutPoint.{OutPoint}
use Rattle.tx.specs.declared.input.TxIn.{TxIn}
use Rattle.tx.specs.Parts.{Output}
use Rattle.tx.specs.Fields.{Transaction, unsigned_transaction}
use Rattle.tx.specs.Spelling.{number, stripped_spelling}
use Rattle.chain.specs.declared.errors.ChainError.TheVariants.{TooYoung, NotFinal, Spent}
use Rattle.chain.specs.Blocks.{Contents as Block, Coin, grant_id, grant_outpoint, coin_at}
use Rattle.keys.specs.declared.bases.Base.TheVariants.{Payment, Htlc as HtlcBase}
use Rattle.keys.specs.Derivation.{seed_secret, number_of}
use Rattle.terms.specs.declared.agreement.Terms.{Terms}
use Rattle.terms.specs.declared.htlcs.Htlc.{Htlc}
use Rattle.terms.specs.Agreement.{party}
use Rattle.terms.specs.Sides.{other}
use Rattle.commit.specs.declared.fees.Direction.{Direction}
use Rattle.commit.specs.declared.fees.Direction.TheVariants.{Offered, Received}
use Rattle.commit.specs.declared.outputs.HtlcOutput.{HtlcOutput}
use Rattle.commit.specs.Outputs.{to_local_script, htlc_script}
use Rattle.commit.specs.Commitments.{Contents, id_of, transaction_of, htlcs_of, htlc_tx_of, lock_time_of}
use Rattle.penalty.specs.declared.states.RevokedState.{RevokedState}
use Rattle.penalty.specs.Claimable.{Claimable, place_in, commitment_in, claimable_of}
use Rattle.penalty.specs.Covering.{IsClaimedAt}
use Rattle.channel.specs.declared.commitments.CommitmentState.{CommitmentState}
use Rattle.channel.specs.Tokens.{contents_of}
use Rattle.safety.specs.Signing.{Signed, IsSignable, AreSame}
use Rattle.safety.specs.Recorded.{IsOfCommitment, of_commitment, of_htlc}
use Rattle.safety.specs.Strings.{IsHashedForCommitment, of_transaction, of_to_local, of_htlc_script, of_payment_key, of_revocation_key, of_htlc_key, IsHashedForSeed, of_base, of_secret}
use Rattle.safety.specs.Ways.{TakenBy, by_peer, by_htlc_transaction, by_owner, by_collision}
use Rattle.safety.specs.Spending.{spend_on, IsOwners, IsLate, Takes}
use Rattle.safety.specs.Standing.{StandsAt, PassesTest}
use Rattle.safety.specs.Taking.{IsAsSigned, Collides}
use Rattle.safety.specs.Takers.{IsHtlcTransaction, IsHashedForGrant}
use Rattle.safety.specs.Fates.{signed_by_peer, IsClaimableAgain, FateBy, Fate, HasFate, NothingEscapes, NothingEscapesAbove}
use Rattle.safety.proofs.Slots.{any_none, contains_cases}
use Rattle.safety.proofs.Lists.{contains_none}
use Rattle.safety.proofs.Examples.{state, on_htlc, coin_of, timeout, timed_out, timeout_takes}

-- ---- the ways

module _ (P H O C : Type 0) where
  -- yes: TakenBy
  peer_takes : P → TakenBy P ⊥ ⊥ ⊥
  peer_takes p = by_peer p

  -- yes: TakenBy
  htlc_takes : H → TakenBy ⊥ H ⊥ ⊥
  htlc_takes h = by_htlc_transaction h

  -- yes: TakenBy
  owner_takes : O → TakenBy ⊥ ⊥ O ⊥
  owner_takes o = by_owner o

  -- yes: TakenBy
  collision_takes : C → TakenBy ⊥ ⊥ ⊥ C
  collision_takes c = by_collision c

-- no: TakenBy
none_takes : TakenBy ⊥ ⊥ ⊥ ⊥ → ⊥
none_takes (by_peer p) = p
none_takes (by_htlc_transaction h) = h
none_takes (by_owner o) = o
none_takes (by_collision c) = c

-- ---- an HTLC's transaction

module _ (c : Contents) (htlc : Htlc) (expiry_height : htlc.expiry_height ≡ 500) (t : Transaction) where
  abbrev out : Direction → HtlcOutput
  out direction = record { index = 2; direction = direction; htlc = htlc }

  abbrev point : ℕ → OutPoint
  point index = record { txid = id_of c; index = index }

  -- the timeout is in a block above the expiry
  -- yes: IsHtlcTransaction
  times_out : Contains (htlcs_of c) (out Offered) → unsigned_transaction t ≡ htlc_tx_of c (out Offered) → IsHtlcTransaction c (point 2) 501 t
  times_out i e = record { htlc = out Offered; among = i; at = refl; same = e; reached = omega (arith, expiry_height) }

  -- a success is in any
  -- yes: IsHtlcTransaction
  succeeds : Contains (htlcs_of c) (out Received) → unsigned_transaction t ≡ htlc_tx_of c (out Received) → IsHtlcTransaction c (point 2) 1 t
  succeeds i e = record { htlc = out Received; among = i; at = refl; same = e; reached = omega arith }

  module _ (only : htlcs_of c ≡ out Offered ∷ []) where
    is_it : (h : HtlcOutput) → Contains (htlcs_of c) h → out Offered ≡ h
    is_it h i =
        ⊎_elim {C = out Offered ≡ h} (λ (e : out Offered ≡ h). e) (λ (j : Contains [] h). absurd (contains_none h j))
        (contains_cases (out Offered) [] h (subst (λ (hs : List HtlcOutput). Contains hs h) only i))

    -- no: IsHtlcTransaction
    at_its_expiry : (index : ℕ) → IsHtlcTransaction c (point index) 500 t → ⊥
    at_its_expiry index h = let l = subst (λ (g : HtlcOutput). lock_time_of g.direction g.htlc < 500) (sym (is_it h.htlc h.among)) h.reached in omega (arith, expiry_height, l)

    -- no: IsHtlcTransaction
    at_another_output : IsHtlcTransaction c (point 3) 501 t → ⊥
    at_another_output h =
        let e : 3 ≡ h.htlc.index = ap (λ (o : OutPoint). o.index) h.at in
        let f : 2 ≡ h.htlc.index = ap (λ (g : HtlcOutput). g.index) (is_it h.htlc h.among) in
        omega (arith, e, f)

    -- no: IsHtlcTransaction
    another_transaction : t.version ≡ 1 → IsHtlcTransaction c (point 2) 501 t → ⊥
    unfolding htlc_tx_of
    another_transaction e h = let f : t.version ≡ 2 = ap (λ (u : Transaction). u.version) h.same in omega (arith, e, f)

  -- no: IsHtlcTransaction
  no_htlc : htlcs_of c ≡ [] → IsHtlcTransaction c (point 2) 501 t → ⊥
  no_htlc e h = contains_none h.htlc (subst (λ (hs : List HtlcOutput). Contains hs h.htlc) e h.among)

module _ (s : RevokedState) (t : Transaction) (input : TxIn) (output : Output) where
  -- yes: IsClaimableAgain
  claimable_again : IsHtlcTransaction (commitment_in s) input.outpoint 501 t → t.outputs ≡ output ∷ [] → IsClaimedAt (claimable_of s) (place_in t 0 output) → IsClaimableAgain s 501 t input
  claimable_again h e c = record { is = h; output = output; alone = e; again = c }

  -- no: IsClaimableAgain
  two_outputs : t.outputs ≡ output ∷ output ∷ [] → IsClaimableAgain s 501 t input → ⊥
  two_outputs e c = let l = ap length (sym e ∙ c.alone) in omega (arith, l)

  -- no: IsClaimableAgain
  nothing_again : claimable_of s ≡ [] → IsClaimableAgain s 501 t input → ⊥
  nothing_again e c = contains_none c.again.0 (subst (λ (os : List Claimable). Contains os c.again.0) e c.again.1)

  -- no: IsClaimableAgain
  no_htlc_transaction : (IsHtlcTransaction (commitment_in s) input.outpoint 501 t → ⊥) → IsClaimableAgain s 501 t input → ⊥
  no_htlc_transaction n c = n c.is

-- ---- transactions of a commitment, and what is hashed for one

module _ (c : Contents) where
  -- yes: IsOfCommitment
  commitment_itself : IsOfCommitment c (transaction_of c)
  commitment_itself = of_commitment refl

  -- yes: IsOfCommitment
  htlc_of_it : (h : HtlcOutput) → Contains (htlcs_of c) h → IsOfCommitment c (htlc_tx_of c h)
  htlc_of_it h i = of_htlc h i refl

  -- no: IsOfCommitment
  first_version : (t : Transaction) → t.version ≡ 1 → IsOfCommitment c t → ⊥
  unfolding transaction_of htlc_tx_of
  first_version t e (of_commitment f) = let g : t.version ≡ 2 = ap (λ (u : Transaction). u.version) f in omega (arith, e, g)
  first_version t e (of_htlc h i f) = let g : t.version ≡ 2 = ap (λ (u : Transaction). u.version) f in omega (arith, e, g)

module _ (terms : Terms) (k : CommitmentState) where
  -- yes: IsHashedForCommitment
  hashed_transaction : (t : Transaction) → IsOfCommitment (contents_of terms k) t → IsHashedForCommitment terms k (stripped_spelling t)
  hashed_transaction t i = of_transaction t i refl

  -- yes: IsHashedForCommitment
  hashed_to_local : IsHashedForCommitment terms k (to_local_script (contents_of terms k).delay_blocks (contents_of terms k).keys)
  hashed_to_local = of_to_local refl

  -- yes: IsHashedForCommitment
  hashed_htlc_script : (h : HtlcOutput) → Contains (htlcs_of (contents_of terms k)) h → IsHashedForCommitment terms k (htlc_script (contents_of terms k).keys h.direction h.htlc)
  hashed_htlc_script h i = of_htlc_script h i refl

  -- yes: IsHashedForCommitment
  hashed_payment_key : IsHashedForCommitment terms k (contents_of terms k).keys.remote
  hashed_payment_key = of_payment_key refl

  -- yes: IsHashedForCommitment
  hashed_revocation : IsHashedForCommitment terms k (codes "revoke" ++ (party (other k.owner) terms).bases.revocation.bytes ++ k.point.bytes)
  hashed_revocation = of_revocation_key refl

  -- yes: IsHashedForCommitment
  hashed_htlc_key : IsHashedForCommitment terms k (codes "derive" ++ (party (other k.owner) terms).bases.htlc.bytes ++ k.point.bytes)
  hashed_htlc_key = of_htlc_key refl

-- yes: IsHashedForSeed
hashed_secret : (seed : List ℕ) → IsHashedForSeed seed (codes "base" ++ seed ++ number_of Payment ∷ [])
hashed_secret seed = of_secret Payment refl

-- yes: IsHashedForSeed
hashed_base : (seed : List ℕ) → IsHashedForSeed seed (codes "point" ++ seed_secret seed (number_of HtlcBase))
hashed_base seed = of_base HtlcBase refl

-- no: IsHashedForSeed
nothing_hashed : (seed : List ℕ) → IsHashedForSeed seed [] → ⊥
nothing_hashed seed (of_base b e) = let l = ap length e in omega (arith, l)
nothing_hashed seed (of_secret b e) = let l = ap length e in omega (arith, l)

-- yes: IsHashedForGrant
hashed_grant : IsHashedForGrant 258 (0x67 ∷ 0x72 ∷ 0x61 ∷ 0x6e ∷ 0x74 ∷ 2 ∷ 1 ∷ 0 ∷ 0 ∷ 0 ∷ 0 ∷ 0 ∷ 0 ∷ [])
unfolding number
hashed_grant = refl

abbrev sixth : List ℕ → ℕ
sixth (a ∷ b ∷ c ∷ d ∷ e ∷ f ∷ bytes) = f
sixth bytes = 0

-- no: IsHashedForGrant
next_grant : IsHashedForGrant 3 (0x67 ∷ 0x72 ∷ 0x61 ∷ 0x6e ∷ 0x74 ∷ 2 ∷ 0 ∷ 0 ∷ 0 ∷ 0 ∷ 0 ∷ 0 ∷ 0 ∷ []) → ⊥
unfolding number
next_grant e = let f : 2 ≡ 3 = ap sixth e in omega (arith, f)

-- ---- where a transaction stands

module _ (t : Transaction) (b : Block) where
  abbrev empty : Block
  empty = record { transactions = []; granted = [] }

  abbrev holding : Block
  holding = record { transactions = t ∷ []; granted = [] }

  -- the newest block stands first, and has the greatest height
  -- yes: StandsAt
  stands : StandsAt (empty ∷ holding ∷ empty ∷ empty ∷ []) 2 t
  stands = record { block = holding; there = refl; within = (0, lit< tt, refl) }

  not_in : (x : Block) → x ≡ empty → Contains x.transactions t → ⊥
  not_in x e i = contains_none t (subst (λ (y : Block). Contains y.transactions t) e i)

  -- no: StandsAt
  below : StandsAt (empty ∷ holding ∷ empty ∷ empty ∷ []) 1 t → ⊥
  below s = not_in s.block (sym (same_Some empty s.block s.there)) s.within

  -- no: StandsAt
  above : StandsAt (empty ∷ holding ∷ empty ∷ empty ∷ []) 3 t → ⊥
  above s = not_in s.block (sym (same_Some empty s.block s.there)) s.within

-- ---- the test of a coin

module _ (s : RevokedState) (o : Claimable) (out : Output) (witness : List (List ℕ)) where
  abbrev coin_from : ℕ → Coin
  coin_from height = record { output = out; height = height; spent = false }

  abbrev input_with : ℕ → TxIn
  input_with sequence = record { outpoint = grant_outpoint 0; sequence = sequence; witness = witness }

  abbrev spending : ℕ → ℕ → Transaction
  spending sequence lock_time = record { version = 2; inputs = input_with sequence ∷ []; outputs = []; lock_time = lock_time }

  -- no: PassesTest
  too_young : PassesTest 243 (spending 144 0) (input_with 144) (coin_from 100) → ⊥
  too_young e = let f : Some TooYoung ≡ None = e in cc

  -- no: PassesTest
  not_final : PassesTest 500 (spending 0 500) (input_with 0) (coin_from 100) → ⊥
  not_final e = let f : Some NotFinal ≡ None = e in cc

  -- no: PassesTest
  is_spent : PassesTest 500 (spending 0 0) (input_with 0) (record { output = out; height = 100; spent = true }) → ⊥
  is_spent e = let f : Some Spent ≡ None = e in cc

  -- no: Takes
  takes_early : Takes s o 243 (spending 144 0) (input_with 144) (coin_from 100) → ⊥
  takes_early t = too_young t.passes

  -- no: Takes
  takes_unfinal : Takes s o 500 (spending 0 500) (input_with 0) (coin_from 100) → ⊥
  takes_unfinal t = not_final t.passes

  -- no: Takes
  takes_nothing : claimable_of s ≡ [] → Takes s o 500 (spending 0 0) (input_with 0) (coin_from 100) → ⊥
  takes_nothing e t = contains_none o (subst (λ (os : List Claimable). Contains os o) e t.claimable)

  -- no: Takes
  takes_other_value : out.value ≡ 7 → o.place.value ≡ 8 → Takes s o 500 (spending 0 0) (input_with 0) (coin_from 100) → ⊥
  takes_other_value e f t = let g : out.value ≡ o.place.value = ap (λ (x : Output). x.value) t.output in omega (arith, e, f, g)

  -- no: Takes
  takes_other_script : length out.script ≡ 22 → length o.place.program ≡ 34 → Takes s o 500 (spending 0 0) (input_with 0) (coin_from 100) → ⊥
  takes_other_script e f t = let g : length out.script ≡ length o.place.program = ap (λ (x : Output). length x.script) t.output in omega (arith, e, f, g)

-- HTLC-timeout with an expiry of 5, in the block of height 6
module _ (funding : OutPoint) (hash : List ℕ) where
  -- yes: Takes
  timeout_takes_it : Takes (state funding hash) (on_htlc funding hash) 6 (timeout funding hash (timed_out funding hash)) (timed_out funding hash) (coin_of funding hash (on_htlc funding hash))
  timeout_takes_it = timeout_takes funding hash

  -- yes: PassesTest
  timeout_passes : PassesTest 6 (timeout funding hash (timed_out funding hash)) (timed_out funding hash) (coin_of funding hash (on_htlc funding hash))
  timeout_passes = (timeout_takes funding hash).passes

  -- no: PassesTest
  timeout_fails : PassesTest 5 (timeout funding hash (timed_out funding hash)) (timed_out funding hash) (coin_of funding hash (on_htlc funding hash)) → ⊥
  timeout_fails e = let f : Some NotFinal ≡ None = e in cc

  -- no: Takes
  timeout_takes_nothing : Takes (state funding hash) (on_htlc funding hash) 5 (timeout funding hash (timed_out funding hash)) (timed_out funding hash) (coin_of funding hash (on_htlc funding hash)) → ⊥
  timeout_takes_nothing t = timeout_fails t.passes

-- ---- fates

module _ (s : RevokedState) (o : Claimable) (t : Transaction) (input : TxIn) (delay_blocks : (commitment_in s).delay_blocks ≡ 144) where
  -- yes: FateBy
  late_by : (H : Type 0) → IsOwners (IsLate (commitment_in s) 100 244) (commitment_in s) o t input → FateBy H s o 100 244 t input []
  late_by H w = by_owner w

  -- yes: FateBy
  own_by : (H : Type 0) (z : Signed) → AreSame (spend_on o t input) z → FateBy H s o 100 243 t input (z ∷ [])
  own_by H z a = by_peer (0, z, lit< tt, refl, a)

  -- yes: FateBy
  collision_by : (H : Type 0) (z : Signed) → Collides s o t input (signed_by_peer (commitment_in s) (z ∷ [])) → FateBy H s o 100 243 t input (z ∷ [])
  collision_by H z c = by_collision c

  -- no: FateBy
  nobody_by : (Collides s o t input (signed_by_peer (commitment_in s) []) → ⊥) → FateBy ⊥ s o 100 243 t input [] → ⊥
  nobody_by n (by_peer a) = any_none (AreSame (spend_on o t input)) a
  nobody_by n (by_htlc_transaction h) = h
  nobody_by n (by_owner w) = let l = w.late in omega (arith, delay_blocks, l)
  nobody_by n (by_collision c) = n c

  -- yes: Fate
  late_fate : (z : Signed) → IsOwners (IsLate (commitment_in s) 100 244) (commitment_in s) o t input → Fate s o 100 244 t input (z ∷ [])
  late_fate z w = by_owner w

  -- yes: Fate
  claimed_again : IsClaimableAgain s 501 t input → Fate s o 100 501 t input []
  claimed_again c = by_htlc_transaction c

  -- no: Fate
  early_fate : (Collides s o t input (signed_by_peer (commitment_in s) []) → ⊥) → (IsClaimableAgain s 243 t input → ⊥) → Fate s o 100 243 t input [] → ⊥
  early_fate n m (by_peer a) = any_none (AreSame (spend_on o t input)) a
  early_fate n m (by_htlc_transaction h) = m h
  early_fate n m (by_owner w) = let l = w.late in omega (arith, delay_blocks, l)
  early_fate n m (by_collision c) = n c

  -- yes: HasFate
  has_late_fate : IsOwners (IsLate (commitment_in s) 100 244) (commitment_in s) o t input → HasFate s o 100 244 t input
  has_late_fate w own signable shown = by_owner w

  -- no: HasFate
  has_no_fate : IsAsSigned (commitment_in s).keys (signed_by_peer (commitment_in s) []) (spend_on o t input) → (Collides s o t input (signed_by_peer (commitment_in s) []) → ⊥)
      → (IsClaimableAgain s 243 t input → ⊥) → HasFate s o 100 243 t input → ⊥
  has_no_fate a n m h = early_fate n m (h [] (All-nil IsSignable) a)

-- a coin of the newest block, and a block of height 2 above it: the one that the law speaks of, in which the coin is met by computation
module _ (s : RevokedState) (o : Claimable) (out : Output) (t : Transaction) (witness : List (List ℕ)) where
  abbrev granting : Block
  granting = record { transactions = []; granted = out ∷ [] }

  abbrev chain : List Block
  chain = granting ∷ record { transactions = []; granted = [] } ∷ []

  abbrev coin : Coin
  coin = record { output = out; height = 1; spent = false }

  abbrev naming : TxIn
  naming = record { outpoint = grant_outpoint 0; sequence = 0; witness = witness }

  there : coin_at chain (grant_outpoint 0) ≡ Some coin
  there = rw ((bytes_eq-Decides (grant_id 0) (grant_id 0)).1 refl) refl

  -- yes: NothingEscapesAbove
  nothing_escapes_above : NothingEscapes → NothingEscapesAbove chain 2 s
  nothing_escapes_above law o' u input coin' there' takes = law s o' 2 u input coin' takes

  -- no: NothingEscapesAbove
  one_escapes : Takes s o 2 t naming coin → (HasFate s o 1 2 t naming → ⊥) → NothingEscapesAbove chain 2 s → ⊥
  one_escapes takes n above = n (above o t naming coin there takes)

-- nothing hashed for a commitment is empty
module _ (terms : Terms) (k : CommitmentState) (size : length (contents_of terms k).keys.remote ≡ 33) where
  some_script : (direction : Direction) (htlc : Htlc) → [] ≡ htlc_script (contents_of terms k).keys direction htlc → ⊥
  unfolding htlc_script
  some_script Offered htlc e = let l = ap length e in omega (arith, l)
  some_script Received htlc e = let l = ap length e in omega (arith, l)

  -- no: IsHashedForCommitment
  something_hashed : IsHashedForCommitment terms k [] → ⊥
  unfolding to_local_script stripped_spelling number
  something_hashed (of_transaction t i e) = let l = ap length e in omega (arith, l)
  something_hashed (of_to_local e) = let l = ap length e in omega (arith, l)
  something_hashed (of_htlc_script h i e) = some_script h.direction h.htlc e
  something_hashed (of_payment_key e) = let l = ap length e in omega (arith, l, size)
  something_hashed (of_revocation_key e) = let l = ap length e in omega (arith, l)
  something_hashed (of_htlc_key e) = let l = ap length e in omega (arith, l)
