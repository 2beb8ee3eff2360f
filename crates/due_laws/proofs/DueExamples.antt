-- Where the relations of what is due hold, and where they don't. There is another hash, a claim left out, one too many, and a preimage of 31 bytes. There is a key of somebody else's, a satoshi too much, and an age and a lock
-- time one block on.
use Rattle.std.proofs.Common.{◌≡◌, ◌≢◌, ℕ, zero, suc, ◌+◌, ◌<◌, Bool, true, false, List, [], ◌∷◌, ◌++◌, length, Some, sym, ap, ◌∙◌, refl, subst, inl, inr, arith}
use Rattle.std.specs.Prelude.{◌⊎◌, ◌||◌, slice_get, if◌then◌else◌}
use Rattle.std.specs.List.{Contains, AllByRecursion}
use Rattle.std.specs.Str.{bytes_eq}
use Rattle.std.proofs.lemmas.Bool.{true≢false, false≢true, or_left}
use Rattle.std.proofs.lemmas.Slice.Eq.{bytes_eq-Decides}
use Rattle.std.proofs.lemmas.Option.{same_Some, slice_get_past}
use Rattle.sha2.specs.Sha256.{sha256}
use Rattle.digest.specs.Hash.{sha256d, hash160, Collide}
use Rattle.tx.specs.declared.input.TxIn.{TxIn}
use Rattle.tx.specs.Parts.{Output}
use Rattle.tx.specs.Fields.{Transaction, KeepsLimits, unsigned_inputs}
use Rattle.tx.specs.Spelling.{number, outpoint, stripped_spelling, transaction_id}
use Rattle.keys.specs.declared.bases.Base.TheVariants.{Payment, Htlc as HtlcBase}
use Rattle.keys.specs.declared.compressed.Key.{Key}
use Rattle.keys.specs.Derivation.{base_key}
use Rattle.keys.specs.Rights.{Rights, MaySign}
use Rattle.chain.specs.Blocks.{Contents as Block, Coin, coin_at}
use Rattle.terms.specs.Agreement.{party}
use Rattle.paths.specs.Listing.{CheckedScript}
use Rattle.claim.specs.declared.parts.WitnessItem.{WitnessItem}
use Rattle.claim.specs.declared.parts.Slot.{Slot}
use Rattle.claim.specs.declared.parts.Slot.TheVariants.{Sig, Preimage, Exact}
use Rattle.claim.specs.declared.parts.Shell.{Shell}
use Rattle.claim.specs.declared.parts.Shell.TheVariants.{Open, Fixed}
use Rattle.claim.specs.Fitting.{output_at}
use Rattle.claim.specs.Claims.{ClaimParts, IsWhole, sequence_of, lock_time_of}
use Rattle.filling.specs.Refusals.{IsFillable, AreFillable, ArePassed}
use Rattle.commit.specs.Outputs.{to_remote_output}
use Rattle.commit.specs.Commitments.{Contents, transaction_of}
use Rattle.penalty.specs.Claimable.{Claimable}
use Rattle.penalty.specs.Sets.{claimed_by}
use Rattle.resolve.specs.declared.verdicts.Verdict.{Verdict}
use Rattle.resolve.specs.declared.verdicts.Verdict.TheVariants.{Ours, Theirs, TheirsNext, Revoked, Unknown}
use Rattle.resolve.specs.declared.known.RevokedCommitment.{RevokedCommitment}
use Rattle.resolve.specs.declared.known.Known.{Known}
use Rattle.resolve.specs.Numbered.{AreNumbered}
use Rattle.resolve.specs.Preimages.{is_known}
use Rattle.resolve.specs.Due.{due_of}
use Rattle.watch.specs.Verdicts.{verdict_of}
use Rattle.channel.specs.declared.commitments.CommitmentState.{CommitmentState}
use Rattle.channel.specs.Rights.{rights_of}
use Rattle.channel.specs.States.{State}
use Rattle.channel.specs.Tokens.{contents_of}
use Rattle.worth_laws.specs.Least.{revoked, newest, next, own}
use Rattle.safety.specs.Standing.{StandsAt}
use Rattle.safety.specs.Holdings.{Holding, terms_in}
use Rattle.safety.proofs.Samples.{bases_of}
use Rattle.safety.proofs.Lists.{none_some, contains_none}
use Rattle.book.specs.Knowing.{IsKnownOf}
use Rattle.due_laws.specs.Breaks.{IsOfChannel, own_newest, of_peers, IsHashedForId, DuesBreak, by_ids, by_empty_item, by_known_preimage}
use Rattle.due_laws.specs.Knowing.{IsKnownTo}
use Rattle.due_laws.specs.Verdicts.{verdict_by, IsJudged, rightly, as_own, broken}
use Rattle.due_laws.specs.Counting.{AreExactly}
use Rattle.due_laws.specs.Filling.{OwnsBases, IsDueBy, CanFillAllSlots}
use Rattle.due_laws.specs.Passing.{IsRipe, MayBeFilled, KeepLimits}
use Rattle.due_laws.proofs.Filling.{found}

-- ---- revoked commitments by number

numbered_two : (a b : RevokedCommitment) → a.state.number ≡ 0 → b.state.number ≡ 1 → (i : ℕ) (r : RevokedCommitment) → slice_get (a ∷ b ∷ []) i ≡ Some r → r.state.number ≡ i
numbered_two a b e f zero r g = ap (λ (x : RevokedCommitment). x.state.number) (sym (same_Some a r g)) ∙ e
numbered_two a b e f (suc zero) r g = ap (λ (x : RevokedCommitment). x.state.number) (sym (same_Some b r g)) ∙ f
numbered_two a b e f (suc (suc i)) r g = absurd (none_some r (sym (slice_get_past (a ∷ b ∷ []) (suc (suc i)) (omega arith)) ∙ g))

-- yes: AreNumbered
two_numbered : (a b : RevokedCommitment) → a.state.number ≡ 0 → b.state.number ≡ 1 → AreNumbered (a ∷ b ∷ [])
two_numbered a b e f = numbered_two a b e f

-- no: AreNumbered
from_one : (a : RevokedCommitment) → a.state.number ≡ 1 → AreNumbered (a ∷ []) → ⊥
from_one a e n = let f = n 0 a refl in omega (arith, e, f)

-- ---- the commitments of a channel, and what would have to be broken

module _ (s : State) (k m : CommitmentState) where
  -- yes: IsOfChannel
  newest_of_two : s.mine ≡ m ∷ k ∷ [] → s.number ≡ 1 → IsOfChannel s k
  newest_of_two e n = own_newest (ap (λ (ks : List CommitmentState). slice_get ks s.number) e ∙ ap (slice_get (m ∷ k ∷ [])) n)

  -- yes: IsOfChannel
  any_of_peers : s.signed ≡ k ∷ m ∷ [] → IsOfChannel s k
  any_of_peers e = of_peers 0 (ap (λ (ks : List CommitmentState). slice_get ks 0) e)

  abbrev spelt : CommitmentState → List ℕ
  spelt x = stripped_spelling (transaction_of (contents_of s.held.terms x))

  -- yes: IsHashedForId
  its_spelling : IsOfChannel s k → IsHashedForId s (spelt k)
  its_spelling i = record { commitment = k; recorded = i; is = refl }

  -- one commitment of the side's, and none of its peer's
  module _ (mine : s.mine ≡ k ∷ []) (zeroth : s.number ≡ 0) (signed : s.signed ≡ []) where
    is_the_one : (x : CommitmentState) → IsOfChannel s x → x ≡ k
    is_the_one x (own_newest e) = sym (same_Some k x (sym (ap (λ (ks : List CommitmentState). slice_get ks s.number) mine ∙ ap (slice_get (k ∷ [])) zeroth) ∙ e))
    is_the_one x (of_peers n e) = absurd (none_some x (sym (ap (λ (ks : List CommitmentState). slice_get ks n) signed ∙ slice_get_past [] n (omega arith)) ∙ e))

    -- no: IsOfChannel
    another : k ≢ m → IsOfChannel s m → ⊥
    another n i = n (sym (is_the_one m i))

    one_spelling : (bytes : List ℕ) → IsHashedForId s bytes → bytes ≡ spelt k
    one_spelling bytes i = i.is ∙ ap spelt (is_the_one i.commitment i.recorded)

    -- no: IsHashedForId
    another_spelling : IsHashedForId s (0 ∷ spelt k) → ⊥
    another_spelling i = let l = ap length (one_spelling (0 ∷ spelt k) i) in omega (arith, l)

    same_revocation : (x : CommitmentState) → IsOfChannel s x → (contents_of s.held.terms x).keys.revocation ≡ (contents_of s.held.terms k).keys.revocation
    same_revocation x i = ap (λ (y : CommitmentState). (contents_of s.held.terms y).keys.revocation) (is_the_one x i)

    -- no: DuesBreak
    nothing_collides : hash160 (contents_of s.held.terms k).keys.revocation ≢ hash160 [] → DuesBreak s [] → ⊥
    nothing_collides n (by_ids c) = c.collide.0 (one_spelling c.first c.of_first ∙ sym (one_spelling c.second c.of_second))
    nothing_collides n (by_empty_item x i c) = n (ap hash160 (sym (same_revocation x i)) ∙ c.1)
    nothing_collides n (by_known_preimage x i y among c) = contains_none y among

    -- no: DuesBreak
    preimage_of_another_hash : (x : List ℕ) → hash160 (contents_of s.held.terms k).keys.revocation ≢ hash160 [] → ((y : List ℕ) → Contains (x ∷ []) y → hash160 (contents_of s.held.terms k).keys.revocation ≢ hash160 y)
        → DuesBreak s (x ∷ []) → ⊥
    preimage_of_another_hash x n f (by_ids c) = c.collide.0 (one_spelling c.first c.of_first ∙ sym (one_spelling c.second c.of_second))
    preimage_of_another_hash x n f (by_empty_item y i c) = n (ap hash160 (sym (same_revocation y i)) ∙ c.1)
    preimage_of_another_hash x n f (by_known_preimage y i z among c) = f z among (ap hash160 (sym (same_revocation y i)) ∙ c.1)

  -- yes: DuesBreak
  ids_collide : IsOfChannel s k → IsOfChannel s m → Collide sha256d (spelt k) (spelt m) → DuesBreak s []
  ids_collide i j c = by_ids (record { first = spelt k; second = spelt m; of_first = its_spelling i; of_second = record { commitment = m; recorded = j; is = refl }; collide = c })

  -- yes: DuesBreak
  preimage_collides : IsOfChannel s k → (x : List ℕ) → Collide hash160 (contents_of s.held.terms k).keys.revocation x → DuesBreak s (x ∷ [])
  preimage_collides i x c = by_known_preimage k i x (0, omega arith, refl) c

-- ---- what is known

module _ (h : Holding) (known : Known) (kept : ℕ → Bool) where
  -- yes: IsKnownTo
  known_to : IsKnownOf h.state kept known.preimages known → known.revoked ≡ [] → (x : List ℕ) → length x ≡ 32 → known.preimages ≡ x ∷ [] → IsKnownTo h known
  known_to is none x long shown = record {
    kept = kept;
    is = is;
    numbered = λ i r e. absurd (none_some r (sym (ap (λ (rs : List RevokedCommitment). slice_get rs i) none ∙ slice_get_past [] i (omega arith)) ∙ e));
    preimages = subst (AllByRecursion (λ y. length y ≡ 32)) (sym shown) (long, tt);
  }

  -- no: IsKnownTo
  preimage_of_31_bytes : (x : List ℕ) → length x ≡ 31 → known.preimages ≡ x ∷ [] → IsKnownTo h known → ⊥
  preimage_of_31_bytes x short shown w = let p = subst (AllByRecursion (λ y. length y ≡ 32)) shown w.preimages in let l = p.0 in omega (arith, l, short)

  -- no: IsKnownTo
  of_another_seed : known.signer.seed ≢ h.state.seed → IsKnownTo h known → ⊥
  of_another_seed n w = n w.is.seed_is

-- ---- verdicts

abbrev is_unknown : Verdict → Bool
is_unknown Ours = false
is_unknown Theirs = false
is_unknown TheirsNext = false
is_unknown (Revoked n) = false
is_unknown Unknown = true

abbrev is_theirs : Verdict → Bool
is_theirs Ours = false
is_theirs Theirs = true
is_theirs TheirsNext = false
is_theirs (Revoked n) = false
is_theirs Unknown = false

-- two commitments of one number without outputs are one transaction
one_transaction : (a b : Contents) → a.funding ≡ b.funding → a.hidden ≡ b.hidden → a.outputs ≡ [] → b.outputs ≡ [] → transaction_of a ≡ transaction_of b
unfolding transaction_of
one_transaction a b f g x y = rw (f, g, x, y) refl

-- so are two that pay one key one amount, and nothing else
one_payment : (a b : Contents) (value : ℕ) → a.funding ≡ b.funding → a.hidden ≡ b.hidden → a.outputs ≡ to_remote_output a.keys value ∷ [] → b.outputs ≡ to_remote_output b.keys value ∷ [] → a.keys.remote ≡ b.keys.remote
    → transaction_of a ≡ transaction_of b
unfolding transaction_of
one_payment a b value f g x y e = rw (f, g, x, y, e) refl

-- of a state with each of the four
four_verdicts : (s : State) (past theirs following mine : CommitmentState) → (l : 7 < s.peer_number) (p : slice_get s.signed 7 ≡ Some past) (q : slice_get s.signed s.peer_number ≡ Some theirs) (e : s.awaiting ≡ true)
    → (r : slice_get s.signed (s.peer_number + 1) ≡ Some following) (m : slice_get s.mine s.number ≡ Some mine)
    → verdict_by s past (revoked 7 l p) ∷ verdict_by s theirs (newest q) ∷ verdict_by s following (next e r) ∷ verdict_by s mine (own m) ∷ [] ≡ Revoked 7 ∷ Theirs ∷ TheirsNext ∷ Ours ∷ []
four_verdicts s past theirs following mine l p q e r m = refl

module _ (h : Holding) (known : Known) (t : Transaction) (k o : CommitmentState) (there : slice_get h.state.signed h.state.peer_number ≡ Some k) (mine : slice_get h.state.mine h.state.number ≡ Some o) where
  -- yes: IsJudged
  judged_rightly : verdict_of known t ≡ Theirs → IsJudged h known t k (newest there)
  judged_rightly e = rightly e

  -- yes: IsJudged
  without_outputs : (contents_of (terms_in h) o).funding ≡ (contents_of (terms_in h) k).funding → (contents_of (terms_in h) o).hidden ≡ (contents_of (terms_in h) k).hidden → (contents_of (terms_in h) o).outputs ≡ []
      → (contents_of (terms_in h) k).outputs ≡ [] → verdict_of known t ≡ Ours → IsJudged h known t k (newest there)
  without_outputs f g x y e = as_own o mine (one_transaction (contents_of (terms_in h) o) (contents_of (terms_in h) k) f g x y) e

  -- both sides have one payment base key, so that the node's own commitment pays its peer by the key by which the peer's pays the node
  -- yes: IsJudged
  with_one_payment_key : (value : ℕ) → (contents_of (terms_in h) o).funding ≡ (contents_of (terms_in h) k).funding → (contents_of (terms_in h) o).hidden ≡ (contents_of (terms_in h) k).hidden
      → (contents_of (terms_in h) o).outputs ≡ to_remote_output (contents_of (terms_in h) o).keys value ∷ [] → (contents_of (terms_in h) k).outputs ≡ to_remote_output (contents_of (terms_in h) k).keys value ∷ []
      → (contents_of (terms_in h) o).keys.remote ≡ (contents_of (terms_in h) k).keys.remote → verdict_of known t ≡ Ours → IsJudged h known t k (newest there)
  with_one_payment_key value f g x y e v = as_own o mine (one_payment (contents_of (terms_in h) o) (contents_of (terms_in h) k) value f g x y e) v

  -- no: IsJudged
  not_found : verdict_of known t ≡ Unknown → (DuesBreak h.state known.preimages → ⊥) → IsJudged h known t k (newest there) → ⊥
  not_found e n (rightly f) = true≢false (ap is_unknown (sym e ∙ f))
  not_found e n (as_own x i s f) = true≢false (ap is_unknown (sym e ∙ f))
  not_found e n (broken b) = n b

  -- no: IsJudged
  taken_for_own : verdict_of known t ≡ Ours → transaction_of (contents_of (terms_in h) o) ≢ transaction_of (contents_of (terms_in h) k) → (DuesBreak h.state known.preimages → ⊥) → IsJudged h known t k (newest there) → ⊥
  taken_for_own e d n (rightly f) = false≢true (ap is_theirs (sym e ∙ f))
  taken_for_own e d n (as_own x i s f) =
      d (subst (λ (y : CommitmentState). transaction_of (contents_of (terms_in h) y) ≡ transaction_of (contents_of (terms_in h) k)) (same_Some x o (sym i ∙ mine)) s)
  taken_for_own e d n (broken b) = n b

-- ---- exactly those that are counted

module _ (a b : Claimable) where
  -- an HTLC's output, or that of its HTLC transaction
  abbrev by_stage : (ℕ → Bool) → List Claimable
  by_stage stands = (if stands 0 then b else a) ∷ []

  counted_among : (t : Bool) (o : Claimable) → Contains ((if t then b else a) ∷ []) o → Contains (a ∷ b ∷ []) o
  counted_among true o (zero, l, e) = (1, omega arith, e)
  counted_among false o (zero, l, e) = (0, omega arith, e)
  counted_among t o (suc n, l, e) = absurd (omega (arith, l))

  either_stage : (o : Claimable) → Contains (a ∷ b ∷ []) o → Contains (a ∷ []) o ⊎ Contains (b ∷ []) o
  either_stage o (zero, l, e) = inl (0, omega arith, e)
  either_stage o (suc zero, l, e) = inr (0, omega arith, e)
  either_stage o (suc (suc n), l, e) = absurd (omega (arith, l))

  -- yes: AreExactly
  both_stages : AreExactly (a ∷ b ∷ []) by_stage
  both_stages = record { all = λ stands o i. counted_among (stands 0) o i; only = λ o i. either_stage o i }

  -- no: AreExactly
  one_left_out : a ≢ b → AreExactly (a ∷ []) by_stage → ⊥
  one_left_out n x = one (x.all (λ _. true) b (0, omega arith, refl))
    where
      one : Contains (a ∷ []) b → ⊥
      one (zero, l, e) = n e
      one (suc k, l, e) = omega (arith, l)

  -- no: AreExactly
  one_too_many : AreExactly (a ∷ []) (λ stands. []) → ⊥
  one_too_many x = by (x.only a (0, omega arith, refl))
    where
      by : Contains [] a ⊎ Contains [] a → ⊥
      by (inl i) = contains_none a i
      by (inr i) = contains_none a i

-- ---- keys and slots

-- yes: OwnsBases
of_its_seed : (h : Holding) → (party h.state.held.side (terms_in h)).bases ≡ bases_of h.state.seed → OwnsBases h
of_its_seed h e = record {
  funding = ap (λ b. b.funding.bytes) e;
  payment = ap (λ b. b.payment.bytes) e;
  delayed = ap (λ b. b.delayed.bytes) e;
  htlc = ap (λ b. b.htlc.bytes) e;
  revocation = ap (λ b. b.revocation.bytes) e;
}

-- no: OwnsBases
two_keys_exchanged : (h : Holding) → base_key h.state.seed HtlcBase ≢ base_key h.state.seed Payment → (party h.state.held.side (terms_in h)).bases.htlc.bytes ≡ base_key h.state.seed Payment → OwnsBases h → ⊥
two_keys_exchanged h n e b = n (sym b.htlc ∙ e)

module _ (r : Rights) (k : Key) (item : WitnessItem) where
  -- yes: IsFillable
  by_preimage : (x : List ℕ) → length x ≡ 32 → IsFillable r (x ∷ []) (Preimage (sha256 x))
  by_preimage x long = found (x ∷ []) (sha256 x) (long, tt) (is_one x)
    where
      is_one : (y : List ℕ) → is_known (y ∷ []) (sha256 y) ≡ true
      is_one y = or_left (bytes_eq (sha256 y) (sha256 y)) false ((bytes_eq-Decides (sha256 y) (sha256 y)).1 refl)

  -- no: IsFillable
  without_preimage : (hash : List ℕ) → IsFillable r [] (Preimage hash) → ⊥
  without_preimage hash f = false≢true f

  -- yes: AreFillable
  token_and_preimage : MaySign r k.bytes → (x : List ℕ) → length x ≡ 32 → AreFillable r (x ∷ []) (Preimage (sha256 x) ∷ Sig k ∷ Exact item ∷ [])
  token_and_preimage m x long = (by_preimage x long, (m, (tt, tt)))

  -- no: AreFillable
  foreign_key : (MaySign r k.bytes → ⊥) → AreFillable r [] (Exact item ∷ Sig k ∷ []) → ⊥
  foreign_key n f = n f.1.0

-- ---- claims that are filled together

module _ (ways : CheckedScript) where
  abbrev claim : ℕ → Shell → ClaimParts
  claim index shell = record { ways = ways; index = 0; slots = []; place = record { outpoint = record { txid = 7 ∷ []; index = index }; value = 1000; program = [] }; shell = shell }

  abbrev paying : ℕ → List Output
  paying value = record { value = value; script = [] } ∷ []

  -- two open claims, of 1,000 satoshis each
  -- yes: ArePassed
  all_of_both : ArePassed (claim 0 Open ∷ claim 1 Open ∷ []) (paying 2000)
  unfolding outpoint number
  all_of_both = record { unmixed = refl; apart = refl; within = refl }

  -- no: ArePassed
  one_satoshi_more : ArePassed (claim 0 Open ∷ claim 1 Open ∷ []) (paying 2001) → ⊥
  one_satoshi_more p = true≢false p.within

  -- no: ArePassed
  one_output_twice : ArePassed (claim 1 Open ∷ claim 1 Open ∷ []) (paying 2000) → ⊥
  unfolding outpoint number
  one_output_twice p = true≢false p.apart

  -- no: ArePassed
  fixed_beside_open : (t : Transaction) → ArePassed (claim 0 (Fixed t) ∷ claim 1 Open ∷ []) (paying 2000) → ⊥
  fixed_beside_open t p = true≢false p.unmixed

  -- a fixed one alone pays what its transaction pays
  -- yes: ArePassed
  fixed_alone : (t : Transaction) → ArePassed (claim 0 (Fixed t) ∷ []) (paying 2001)
  unfolding outpoint number
  fixed_alone t = record { unmixed = refl; apart = refl; within = refl }

module _ (known : Known) (x : ClaimParts) where
  -- yes: IsDueBy
  due_by_a_verdict : (v : Verdict) → due_of known v ≡ claimed_by x ∷ [] → IsDueBy known x
  due_by_a_verdict v e = record { verdict = v; due = subst (λ (os : List Claimable). Contains os (claimed_by x)) (sym e) (0, omega arith, refl) }

  -- no: IsDueBy
  nothing_due : ((v : Verdict) → due_of known v ≡ []) → IsDueBy known x → ⊥
  nothing_due e d = contains_none (claimed_by x) (subst (λ (os : List Claimable). Contains os (claimed_by x)) (e d.verdict) d.due)

  -- its height is 5, its age 144 and its lock time 700
  module _ (blocks : List Block) (coin : Coin) (there : coin_at blocks x.place.outpoint ≡ Some coin) where
    -- yes: IsRipe
    ripe : coin.output ≡ output_at x.place → coin.spent ≡ false → coin.height ≡ 5 → sequence_of x ≡ 144 → lock_time_of x ≡ 0 → length blocks ≡ 149 → IsRipe blocks x
    ripe o free height age lock count = record { coin = coin; there = there; output = o; unspent = free; age = omega (arith, height, age, count); above = omega (arith, lock, count) }

    is_coin : (r : IsRipe blocks x) → r.coin ≡ coin
    is_coin r = same_Some r.coin coin (sym r.there ∙ there)

    -- no: IsRipe
    a_block_too_young : coin.height ≡ 5 → sequence_of x ≡ 144 → length blocks ≡ 148 → IsRipe blocks x → ⊥
    a_block_too_young height age count r = let e = ap (λ (c : Coin). c.height) (is_coin r) in let l = r.age in omega (arith, e, height, age, count, l)

    -- no: IsRipe
    at_its_lock_time : lock_time_of x ≡ 700 → length blocks ≡ 700 → IsRipe blocks x → ⊥
    at_its_lock_time lock count r = let l = r.above in omega (arith, lock, count, l)

    -- yes: IsRipe
    above_its_lock_time : coin.output ≡ output_at x.place → coin.spent ≡ false → coin.height ≡ 5 → sequence_of x ≡ 0 → lock_time_of x ≡ 700 → length blocks ≡ 701 → IsRipe blocks x
    above_its_lock_time o free height age lock count = record { coin = coin; there = there; output = o; unspent = free; age = omega (arith, height, age, count); above = omega (arith, lock, count) }

    -- no: IsRipe
    already_spent : coin.spent ≡ true → IsRipe blocks x → ⊥
    already_spent e r = true≢false (sym e ∙ sym (ap (λ (c : Coin). c.spent) (is_coin r)) ∙ r.unspent)

    -- no: IsRipe
    another_value : coin.output.value ≡ x.place.value + 1 → IsRipe blocks x → ⊥
    another_value e r = let f = ap (λ (c : Coin). c.output.value) (is_coin r) in let g = ap (λ (o : Output). o.value) r.output in omega (arith, e, f, g)

  module _ (blocks : List Block) (outputs : List Output) where
    -- yes: MayBeFilled
    one_claim : IsDueBy known x → IsWhole x → ArePassed (x ∷ []) outputs → IsRipe blocks x → MayBeFilled known blocks (x ∷ []) outputs
    one_claim d w p r = record { some = omega arith; due = (d, tt); whole = (w, tt); passed = p; ripe = (r, tt) }

    -- no: MayBeFilled
    no_claim : MayBeFilled known blocks [] outputs → ⊥
    no_claim m = let l = m.some in omega (arith, l)

    -- no: MayBeFilled
    not_due : (IsDueBy known x → ⊥) → MayBeFilled known blocks (x ∷ []) outputs → ⊥
    not_due n m = n m.due.0

    -- no: MayBeFilled
    not_ripe : (IsRipe blocks x → ⊥) → MayBeFilled known blocks (x ∷ []) outputs → ⊥
    not_ripe n m = n m.ripe.0

    -- no: MayBeFilled
    twice_the_same : MayBeFilled known blocks (x ∷ x ∷ []) outputs → ⊥
    twice_the_same m =
        let same = (bytes_eq-Decides (outpoint x.place.outpoint) (outpoint x.place.outpoint)).1 refl in
        true≢false (sym (or_left (bytes_eq (outpoint x.place.outpoint) (outpoint x.place.outpoint) || false) false (or_left (bytes_eq (outpoint x.place.outpoint) (outpoint x.place.outpoint)) false same)) ∙ m.passed.apart)

-- ---- all slots of claims

module _ (h : Holding) (known : Known) (x : ClaimParts) where
  -- yes: CanFillAllSlots
  no_slots : x.slots ≡ [] → CanFillAllSlots h known (x ∷ [])
  no_slots e = record {
    channels = subst (λ (slots : List Slot). AreFillable (rights_of h.state) known.preimages (slots ++ [])) (sym e) tt;
    knowns = subst (λ (slots : List Slot). AreFillable known.signer known.preimages (slots ++ [])) (sym e) tt;
  }

  -- no: CanFillAllSlots
  without_the_preimage : (hash : List ℕ) → known.preimages ≡ [] → x.slots ≡ Preimage hash ∷ [] → CanFillAllSlots h known (x ∷ []) → ⊥
  without_the_preimage hash none e f =
      let all = subst (λ (slots : List Slot). AreFillable (rights_of h.state) known.preimages (slots ++ [])) e f.channels in
      let lacks = subst (λ (ps : List (List ℕ)). AreFillable (rights_of h.state) ps (Preimage hash ∷ [])) none all in
      false≢true lacks.0

-- ---- limits

-- yes: KeepLimits
empty_chain : (t : Transaction) → KeepsLimits t → KeepLimits [] t
empty_chain t k = record { twins = λ height u s e. absurd (none_some s.block (sym (slice_get_past [] height (omega arith)) ∙ s.there)); filling = k }

-- what stands there may be of any size, if it has another id
-- yes: KeepLimits
another_id : (blocks : List Block) (t : Transaction) → KeepsLimits t → ((height : ℕ) (u : Transaction) → StandsAt blocks height u → transaction_id u ≢ transaction_id t) → KeepLimits blocks t
another_id blocks t k n = record { twins = λ height u s e. absurd (n height u s e); filling = k }

-- no: KeepLimits
twin_without_inputs : (blocks : List Block) (t u : Transaction) (height : ℕ) → StandsAt blocks height u → transaction_id u ≡ transaction_id t → u.inputs ≡ [] → KeepLimits blocks t → ⊥
twin_without_inputs blocks t u height s i e k =
    let l = (k.twins height u s i).some_input in
    let n : length (unsigned_inputs u.inputs) ≡ 0 = ap (λ (is : List TxIn). length (unsigned_inputs is)) e in
    omega (arith, l, n)

-- no: KeepLimits
without_inputs : (blocks : List Block) (t : Transaction) → t.inputs ≡ [] → KeepLimits blocks t → ⊥
without_inputs blocks t e k = let l = k.filling.some_input in let n = ap length e in omega (arith, l, n)
