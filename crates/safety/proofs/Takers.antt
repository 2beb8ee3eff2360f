-- What takes an output of a revoked commitment.
use Rattle.std.proofs.Common.{◌≡◌, ℕ, ◌%◌, ◌^◌, ◌<◌, Bool, true, false, List, [], ◌∷◌, ◌++◌, length, get_or, Some, sym, ap, ◌∙◌, refl, subst, inl, inr, ⊎_elim, arith}
use Rattle.std.specs.Prelude.{◌⊎◌, ◌&&◌, ◌||◌, ◌==◌, nat_lt, nat_le, slice_get}
use Rattle.std.specs.List.{Contains, list_all}
use Rattle.std.proofs.lemmas.Bool.{false≢true, ltb-true, lt-leb}
use Rattle.std.proofs.lemmas.Option.{same_Some}
use Rattle.digest.specs.Hash.{sha256d, Collide}
use Rattle.script.specs.declared.limits.TheConstants.{LOCKTIME_THRESHOLD}
use Rattle.tx.specs.declared.input.OutPoint.{OutPoint}
use Rattle.tx.specs.declared.input.TxIn.{TxIn}
use Rattle.tx.specs.Fields.{Transaction, unsigned_inputs, unsigned_transaction}
use Rattle.tx.specs.Spelling.{number, stripped_spelling, transaction_id}
use Rattle.chain.specs.Blocks.{Coin, grant_id}
use Rattle.chain.specs.Locks.{is_final}
use Rattle.claim.specs.declared.parts.Shell.{Shell}
use Rattle.claim.specs.Fitting.{StandsRound}
use Rattle.claim.specs.Claims.{ClaimParts, FitsClaim}
use Rattle.forms.specs.Forms.{to_local_form}
use Rattle.terms.specs.declared.htlcs.Htlc.{Htlc}
use Rattle.terms.specs.declared.sides.Side.{Side}
use Rattle.terms.specs.declared.sides.Side.TheVariants.{A, B}
use Rattle.terms.specs.declared.agreement.Terms.{Terms}
use Rattle.terms.specs.Agreement.{party}
use Rattle.commit.specs.declared.fees.Direction.{Direction}
use Rattle.commit.specs.declared.fees.Direction.TheVariants.{Offered, Received}
use Rattle.commit.specs.declared.outputs.OutputKind.{OutputKind}
use Rattle.commit.specs.declared.outputs.OutputKind.TheVariants.{ToLocal, ToRemote, ToHtlc}
use Rattle.commit.specs.declared.outputs.CommitmentOutput.{CommitmentOutput}
use Rattle.commit.specs.declared.outputs.HtlcOutput.{HtlcOutput}
use Rattle.commit.specs.Commitments.{Contents, commitment_of, transaction_of, id_of, htlcs_of, htlc_tx_of, lock_time_of}
use Rattle.penalty.specs.Claimable.{Claimable}
use Rattle.penalty.specs.Sets.{claimed_by}
use Rattle.channel.specs.declared.commitments.CommitmentState.{CommitmentState}
use Rattle.channel.specs.Tokens.{contents_of}
use Rattle.safety.proofs.Slots.{contains_cases}
use Rattle.safety.proofs.Lists.{contains_none}
use Rattle.safety.proofs.Indices.{htlc_in}
use Rattle.safety.proofs.Fates.{bare_second}
use Rattle.safety.proofs.OnChain.{passed}
use Rattle.safety.specs.Recorded.{IsPayable, IsOfCommitment, of_commitment, of_htlc}
use Rattle.safety.specs.Places.{IsAt, IsOwnersClaim, delayed, second_stage, delayed_second, IsRevokedClaim, penalty, own_payment, htlc_penalty, second_penalty, IsOutPointOf, of_output, of_second_stage}
use Rattle.safety.specs.Strings.{IsHashedForCommitment, of_transaction, by_sha256d, StringsCollide}
use Rattle.safety.specs.Outputs.{IsOneOutput}
use Rattle.safety.specs.Seeds.{SidesCollide}
use Rattle.safety.specs.Standing.{PassesTest}
use Rattle.safety.specs.Ways.{by_htlc_transaction, by_owner, by_collision}
use Rattle.safety.specs.Takers.{IsHtlcTransaction, AreOneByNumber, OwnersWay, OwnersTake, HtlcTransactionsTake, SidesAreApart}
use Rattle.safety.specs.Takers.{ChannelsAreApart, IsHashedForGrant, OutputsAreNoGrants, CommitmentsSpendFundings, HtlcTransactionsSpendOutputs}
use Rattle.safety.proofs.Ids.{same_or_collide}
use Rattle.safety.proofs.Recorded.{limited_htlc, same_number}
use Rattle.safety.proofs.Waiting.{delayed_waits}
use Rattle.safety.proofs.Places.{owners_places, revoked_places}
use Rattle.safety.proofs.Outputs.{one_transaction, not_second, one_output}
use Rattle.safety.proofs.Seeds.{sides_differ}

-- ---- the block of an HTLC transaction

pub low_lock : (direction : Direction) (h : Htlc) → h.expiry_height < LOCKTIME_THRESHOLD → lock_time_of direction h < LOCKTIME_THRESHOLD
low_lock Offered h l = l
low_lock Received h l = omega arith

abbrev first_sequence : List TxIn → ℕ
first_sequence [] = 1
first_sequence (i ∷ is) = i.sequence

-- an input of sequence 0 is not final
pub not_final : (inputs : List TxIn) (o : OutPoint) → unsigned_inputs inputs ≡ record { outpoint = o; sequence = 0; witness = [] } ∷ [] → list_all (λ i. i.sequence == 0xffffffff) inputs ≡ false
not_final [] o e = absurd (omega (arith, ap first_sequence e))
not_final (i ∷ is) o e = let s : i.sequence ≡ 0 = ap first_sequence e in rw s refl

-- a lock time that is a height is below the block's
lock_reached : (height lock_time : ℕ) (inputs : List TxIn) → lock_time < LOCKTIME_THRESHOLD → list_all (λ i. i.sequence == 0xffffffff) inputs ≡ false → is_final height lock_time inputs ≡ true
    → lock_time < height
lock_reached height lock_time inputs l f e =
    ltb-true lock_time height
    (by (nat_lt lock_time LOCKTIME_THRESHOLD) (nat_lt lock_time height) (nat_le LOCKTIME_THRESHOLD lock_time) (nat_le lock_time 0x20ffffff) (list_all (λ i. i.sequence == 0xffffffff) inputs)
    (lt-leb LOCKTIME_THRESHOLD lock_time l) f e)
  where
    by : (a b c d g : Bool) → c ≡ false → g ≡ false → ((a && b) || (c && d) || g) ≡ true → b ≡ true
    by a b true d g h i e = absurd (false≢true (sym h))
    by a b false d true h i e = absurd (false≢true (sym i))
    by true true false d false h i e = refl
    by true false false d false h i e = absurd (false≢true e)
    by false b false d false h i e = absurd (false≢true e)

second_reached : (c : Contents) (h : HtlcOutput) (t : Transaction) (height : ℕ) → h.htlc.expiry_height < LOCKTIME_THRESHOLD → unsigned_transaction t ≡ htlc_tx_of c h
    → is_final height t.lock_time t.inputs ≡ true
    → lock_time_of h.direction h.htlc < height
unfolding htlc_tx_of
second_reached c h t height l e final =
    let lock : t.lock_time ≡ lock_time_of h.direction h.htlc = ap (λ (u : Transaction). u.lock_time) e in
    let low = low_lock h.direction h.htlc l in
    let reached = lock_reached height t.lock_time t.inputs (omega (arith, lock, low)) (not_final t.inputs _ (ap (λ (u : Transaction). u.inputs) e)) final in
    omega (arith, lock, reached)

htlc_transaction_at : (terms : Terms) (k : CommitmentState) → IsPayable terms k → (h : HtlcOutput) → Contains (htlcs_of (contents_of terms k)) h → (o : OutPoint)
    → o ≡ record { txid = id_of (contents_of terms k); index = h.index }
    → (height : ℕ) (t : Transaction) (input : TxIn) (coin : Coin) → unsigned_transaction t ≡ htlc_tx_of (contents_of terms k) h → PassesTest height t input coin
    → IsHtlcTransaction (contents_of terms k) o height t
htlc_transaction_at terms k p h i o at height t input coin s passes = record {
  htlc = h;
  among = i;
  at = at;
  same = s;
  reached = second_reached (contents_of terms k) h t height (limited_htlc terms k p.view h i).height s (passed height t input coin passes).final;
}

-- ---- one outpoint of two commitments

-- they have one transaction
pub one_of_two : (c d : Contents) (o : OutPoint) (a : IsOutPointOf c o) (b : IsOutPointOf d o) → IsOneOutput c d o a b → transaction_of c ≡ transaction_of d
one_of_two c d o (of_output i x a e) (of_output j y b f) s = s.0
one_of_two c d o (of_second_stage h a e) (of_second_stage g b f) s = s.0
one_of_two c d o (of_output i x a e) (of_second_stage g b f) s = absurd s
one_of_two c d o (of_second_stage h a e) (of_output j y b f) s = absurd s

-- so they are one, where they are by number
one_commitment : (terms : Terms) (k m : CommitmentState) → IsPayable terms k → IsPayable terms m → AreOneByNumber k m → (o : OutPoint) → IsOutPointOf (contents_of terms k) o
    → IsOutPointOf (contents_of terms m) o
    → (k ≡ m) ⊎ StringsCollide (IsHashedForCommitment terms k) (IsHashedForCommitment terms m)
one_commitment terms k m p q one o a b =
    let c = contents_of terms k in
    let d = contents_of terms m in
    ⊎_elim {C = (k ≡ m) ⊎ StringsCollide (IsHashedForCommitment terms k) (IsHashedForCommitment terms m)}
    (λ (s : IsOneOutput (contents_of terms k) (contents_of terms m) o a b). inl (one (same_number terms k m p.number q.number (one_of_two c d o a b s))))
    (λ (z : StringsCollide (IsHashedForCommitment terms k) (IsHashedForCommitment terms m)). inr z)
    (one_output terms terms k m p q o a b)

-- an outpoint of a commitment shows one of its outputs
record HasOutput (c : Contents) : Type 0 where
  index : ℕ
  output : CommitmentOutput
  there : slice_get c.outputs index ≡ Some output

has_output : (c : Contents) (o : OutPoint) → IsOutPointOf c o → HasOutput c
has_output c o (of_output index output at e) = record { index = index; output = output; there = at }
has_output c o (of_second_stage h i e) = let at = htlc_in 0 c.outputs h i in record { index = at.place; output = at.output; there = at.there }

pub sides_are_apart : SidesAreApart
sides_are_apart terms k m p q owner seed rival two o a b =
    let c = contents_of terms k in
    let d = contents_of terms m in
    let x = has_output c o a in
    ⊎_elim {C = SidesCollide terms k m seed rival}
    (λ (s : IsOneOutput (contents_of terms k) (contents_of terms m) o a b). sides_differ terms k m p.view q.view owner seed rival two x.index x.output x.there (one_of_two c d o a b s))
    (λ (z : StringsCollide (IsHashedForCommitment terms k) (IsHashedForCommitment terms m)). inl z)
    (one_output terms terms k m p q o a b)

-- a commitment transaction has the funding output as its first input's
abbrev first_outpoint : OutPoint → List TxIn → OutPoint
first_outpoint o [] = o
first_outpoint o (i ∷ is) = i.outpoint

pub same_funding : (terms others : Terms) (k m : CommitmentState) → transaction_of (contents_of terms k) ≡ transaction_of (contents_of others m) → terms.funding ≡ others.funding
unfolding transaction_of commitment_of
same_funding terms others k m e = ap (λ (t : Transaction). first_outpoint terms.funding t.inputs) e

pub channels_are_apart : ChannelsAreApart
channels_are_apart terms others k m p q n o a b =
    let c = contents_of terms k in
    let d = contents_of others m in
    ⊎_elim {C = StringsCollide (IsHashedForCommitment terms k) (IsHashedForCommitment others m)}
    (λ (s : IsOneOutput (contents_of terms k) (contents_of others m) o a b). absurd (n (same_funding terms others k m (one_of_two c d o a b s))))
    (λ (z : StringsCollide (IsHashedForCommitment terms k) (IsHashedForCommitment others m)). z)
    (one_output terms others k m p q o a b)

-- ---- the form of an output

abbrev delayed_form : Contents → Claimable → Type 0
delayed_form c o = o.form ≡ to_local_form c.keys.revocation c.delay_blocks c.keys.delayed

abbrev index_in : OutPoint → ℕ
index_in o = o.index

abbrev id_in : OutPoint → List ℕ
id_in o = o.txid

-- the output at the index of to_local is to_local
not_at : (c : Contents) (i j : ℕ) (x y : CommitmentOutput) (kind : OutputKind) → IsAt c i x ToLocal → IsAt c j y kind → i ≡ j → kind ≡ ToLocal
not_at c i j x y kind a b e =
    let same : x ≡ y = same_Some x y (sym a.there ∙ ap (λ n. slice_get c.outputs n) e ∙ b.there) in
    sym b.kind ∙ ap (λ (o : CommitmentOutput). o.kind) (sym same) ∙ a.kind

remote_or_local : ToRemote ≡ ToLocal → ⊥
remote_or_local e = cc

htlc_or_local : (direction : Direction) (h : Htlc) → ToHtlc direction h ≡ ToLocal → ⊥
htlc_or_local direction h e = cc

-- what is claimed at the outpoint of to_local has its form
at_to_local : (c : Contents) (o : Claimable) (index : ℕ) (output : CommitmentOutput) → IsRevokedClaim c o → IsAt c index output ToLocal → o.place.outpoint ≡ record { txid = id_of c; index = index }
    → delayed_form c o
at_to_local c o index output (penalty i y b e) a p = ap (λ (x : Claimable). x.form) e
at_to_local c o index output (second_penalty h y b e) a p = ap (λ (x : Claimable). x.form) e
at_to_local c o index output (own_payment i y b e) a p = absurd (remote_or_local (not_at c index i output y ToRemote a b (ap index_in (sym p ∙ ap (λ (x : Claimable). x.place.outpoint) e))))
at_to_local c o index output (htlc_penalty h y b e) a p =
    absurd (htlc_or_local h.direction h.htlc (not_at c index h.index output y (ToHtlc h.direction h.htlc) a b.at (ap index_in (sym p ∙ ap (λ (x : Claimable). x.place.outpoint) e))))

abbrev Twins : Terms → CommitmentState → Type 0
Twins terms k = StringsCollide (IsHashedForCommitment terms k) (IsHashedForCommitment terms k)

-- the id of a commitment is not that of an HTLC transaction
other_id : (terms : Terms) (k : CommitmentState) → IsPayable terms k → (h : HtlcOutput) → Contains (htlcs_of (contents_of terms k)) h
    → id_of (contents_of terms k) ≡ transaction_id (htlc_tx_of (contents_of terms k) h) → Twins terms k
other_id terms k p h i e =
    let c = contents_of terms k in
    ⊎_elim {C = Twins terms k} (λ (s : transaction_of (contents_of terms k) ≡ htlc_tx_of (contents_of terms k) h). absurd (not_second terms k c h s))
    (λ (z : Twins terms k). z)
    (one_transaction terms terms k k p p (transaction_of c) (htlc_tx_of c h) (of_commitment refl) (of_htlc h i refl) e)

-- so has what is claimed at that of the output of an HTLC transaction
at_second : (terms : Terms) (k : CommitmentState) → IsPayable terms k → (o : Claimable) (h : HtlcOutput) → IsRevokedClaim (contents_of terms k) o → Contains (htlcs_of (contents_of terms k)) h
    → o.place.outpoint ≡ record { txid = transaction_id (htlc_tx_of (contents_of terms k) h); index = 0 } → delayed_form (contents_of terms k) o ⊎ Twins terms k
at_second terms k p o h (penalty i y b e) a f = inl (ap (λ (x : Claimable). x.form) e)
at_second terms k p o h (second_penalty g y b e) a f = inl (ap (λ (x : Claimable). x.form) e)
at_second terms k p o h (own_payment i y b e) a f = inr (other_id terms k p h a (ap id_in (sym (ap (λ (x : Claimable). x.place.outpoint) e) ∙ f)))
at_second terms k p o h (htlc_penalty g y b e) a f = inr (other_id terms k p h a (ap id_in (sym (ap (λ (x : Claimable). x.place.outpoint) e) ∙ f)))

-- ---- the owner's claims

short_of : (terms : Terms) (side : Side) → (party side terms).delay_blocks < 2 ^ 16
short_of terms A = terms.short_a
short_of terms B = terms.short_b

pub short : (terms : Terms) (k : CommitmentState) → (contents_of terms k).delay_blocks < 2 ^ 16
unfolding commitment_of
short terms k = short_of terms k.owner

-- of the same commitment
own_way : (terms : Terms) (k : CommitmentState) → IsPayable terms k → (o : Claimable) → IsRevokedClaim (contents_of terms k) o → (x : ClaimParts) → IsOwnersClaim (contents_of terms k) (claimed_by x)
    → x.place.outpoint ≡ o.place.outpoint
    → (height : ℕ) (t : Transaction) (input : TxIn) (coin : Coin) → FitsClaim x t input → PassesTest height t input coin → OwnersWay terms k k o coin.height height t
own_way terms k p o r x (delayed index output at e) same height t input coin f passes =
    by_owner (record {
      form = at_to_local (contents_of terms k) o index output r at (sym same ∙ ap (λ (y : Claimable). y.place.outpoint) e);
      late = delayed_waits (contents_of terms k) (short terms k) _ x e height t input coin f passes;
    })
own_way terms k p o r x (delayed_second h output at e) same height t input coin f passes =
    let c = contents_of terms k in
    ⊎_elim {C = OwnersWay terms k k o coin.height height t}
    (λ (form : delayed_form (contents_of terms k) o). by_owner (record { form = form; late = delayed_waits c (short terms k) _ x e height t input coin f passes }))
    (λ (z : Twins terms k). by_collision z)
    (at_second terms k p o h r at.among (sym same ∙ ap (λ (y : Claimable). y.place.outpoint) e))
own_way terms k p o r x (second_stage h output at e) same height t input coin f passes =
    let c = contents_of terms k in
    let round : unsigned_transaction t ≡ unsigned_transaction (htlc_tx_of c h) = subst (λ (s : Shell). StandsRound f.path s t) (ap (λ (y : Claimable). y.shell) e) f.fits.stands in
    by_htlc_transaction (htlc_transaction_at terms k p h at.among o.place.outpoint (sym same ∙ ap (λ (y : Claimable). y.place.outpoint) e) height t input coin (round ∙ bare_second c h) passes)

pub owners_take : OwnersTake
owners_take terms k m p q one o i preimages x j same height t input coin f passes =
    let c = contents_of terms k in
    let d = contents_of terms m in
    let r = revoked_places c o i in
    let w = owners_places preimages d (claimed_by x) j in
    ⊎_elim {C = OwnersWay terms k m o coin.height height t}
    (λ (s : k ≡ m).
    subst (λ (n : CommitmentState). OwnersWay terms k n o coin.height height t) s
    (own_way terms k p o r.0 x (subst (λ (n : CommitmentState). IsOwnersClaim (contents_of terms n) (claimed_by x)) (sym s) w.0) same height t input coin f passes))
    (λ (z : StringsCollide (IsHashedForCommitment terms k) (IsHashedForCommitment terms m)). by_collision z)
    (one_commitment terms k m p q one o.place.outpoint r.1 (subst (λ (y : OutPoint). IsOutPointOf d y) same w.1))

-- ---- HTLC transactions

-- the only input names what the transaction spends
only_input : (inputs : List TxIn) (input : TxIn) (o : OutPoint) (sequence : ℕ) → unsigned_inputs inputs ≡ record { outpoint = o; sequence = sequence; witness = [] } ∷ [] → Contains inputs input
    → input.outpoint ≡ o
only_input [] input o sequence e i = absurd (contains_none input i)
only_input (x ∷ []) input o sequence e i =
    ⊎_elim {C = input.outpoint ≡ o} (λ (s : x ≡ input). ap (λ (y : TxIn). y.outpoint) (sym s) ∙ ap (first_outpoint o) e)
    (λ (j : Contains [] input). absurd (contains_none input j)) (contains_cases x [] input i)
only_input (x ∷ y ∷ xs) input o sequence e i = absurd (let l = ap length e in omega (arith, l))

spent_at : (d : Contents) (h : HtlcOutput) (t : Transaction) (input : TxIn) → unsigned_transaction t ≡ htlc_tx_of d h → Contains t.inputs input
    → input.outpoint ≡ record { txid = id_of d; index = h.index }
unfolding htlc_tx_of
spent_at d h t input e i = only_input t.inputs input _ 0 (ap (λ (u : Transaction). u.inputs) e) i

pub named_by : (d : Contents) (h : HtlcOutput) (o : OutPoint) → Contains (htlcs_of d) h → o ≡ record { txid = id_of d; index = h.index } → IsOutPointOf d o
named_by d h o i e =
    let at = htlc_in 0 d.outputs h i in
    let place : at.place ≡ h.index = let n = at.at in omega (arith, n) in
    of_output h.index at.output (subst (λ n. slice_get d.outputs n ≡ Some at.output) place at.there) e

pub commitments_spend_fundings : CommitmentsSpendFundings
unfolding transaction_of commitment_of
commitments_spend_fundings terms k t input e i = only_input t.inputs input terms.funding (contents_of terms k).hidden.sequence (ap (λ (u : Transaction). u.inputs) e) i

pub htlc_transactions_spend_outputs : HtlcTransactionsSpendOutputs
htlc_transactions_spend_outputs c h i t input e j = named_by c h input.outpoint i (spent_at c h t input e j)

pub htlc_transactions_take : HtlcTransactionsTake
htlc_transactions_take terms k m p q one o i h j height t input coin s within same passes =
    let c = contents_of terms k in
    let d = contents_of terms m in
    let r = revoked_places c o i in
    let at : o.place.outpoint ≡ record { txid = id_of d; index = h.index } = sym same ∙ spent_at d h t input s within in
    ⊎_elim {C = IsHtlcTransaction (contents_of terms k) o.place.outpoint height t ⊎ StringsCollide (IsHashedForCommitment terms k) (IsHashedForCommitment terms m)}
    (λ (e : k ≡ m).
    inl (subst (λ (n : CommitmentState). IsHtlcTransaction (contents_of terms n) o.place.outpoint height t)
    (sym e) (htlc_transaction_at terms m q h j o.place.outpoint at height t input coin s passes)))
    (λ (z : StringsCollide (IsHashedForCommitment terms k) (IsHashedForCommitment terms m)). inr z)
    (one_commitment terms k m p q one o.place.outpoint r.1 (named_by d h o.place.outpoint j at))

-- ---- grants

abbrev grant_bytes : ℕ → List ℕ
grant_bytes g = (0x67 ∷ 0x72 ∷ 0x61 ∷ 0x6e ∷ 0x74 ∷ []) ++ number 8 (g % 2 ^ 64)

grant_is : (g : ℕ) → grant_id g ≡ sha256d (grant_bytes g)
unfolding grant_id
grant_is g = refl

id_is : (t : Transaction) → transaction_id t ≡ sha256d (stripped_spelling t)
unfolding transaction_id
id_is t = refl

-- a commitment's transactions are of version 2
version_is : (c : Contents) (t : Transaction) → IsOfCommitment c t → t.version ≡ 2
unfolding transaction_of htlc_tx_of
version_is c t (of_commitment e) = ap (λ (u : Transaction). u.version) e
version_is c t (of_htlc h i e) = ap (λ (u : Transaction). u.version) e

first_byte : (t : Transaction) → t.version ≡ 2 → get_or (stripped_spelling t) 0 0 ≡ 2
unfolding stripped_spelling number
first_byte t e = rw e refl

not_grant : (c : Contents) (t : Transaction) (g : ℕ) → IsOfCommitment c t → grant_bytes g ≡ stripped_spelling t → ⊥
not_grant c t g i e = let f = ap (λ (x : List ℕ). get_or x 0 0) e in let b = first_byte t (version_is c t i) in omega (arith, f, b)

grant_apart : (terms : Terms) (k : CommitmentState) (g : ℕ) (t : Transaction) → IsOfCommitment (contents_of terms k) t → grant_id g ≡ transaction_id t
    → StringsCollide (IsHashedForGrant g) (IsHashedForCommitment terms k)
grant_apart terms k g t i e =
    ⊎_elim {C = StringsCollide (IsHashedForGrant g) (IsHashedForCommitment terms k)} (λ (s : grant_bytes g ≡ stripped_spelling t). absurd (not_grant (contents_of terms k) t g i s))
    (λ (z : Collide sha256d (grant_bytes g) (stripped_spelling t)).
    record { first = grant_bytes g; second = stripped_spelling t; of_first = refl; of_second = of_transaction t i refl; collide = by_sha256d z })
    (same_or_collide sha256d (grant_bytes g) (stripped_spelling t) (sym (grant_is g) ∙ e ∙ id_is t))

pub grants_are_apart : OutputsAreNoGrants
grants_are_apart terms k g (of_output index output at e) = grant_apart terms k g (transaction_of (contents_of terms k)) (of_commitment refl) (ap id_in e)
grants_are_apart terms k g (of_second_stage h i e) = grant_apart terms k g (htlc_tx_of (contents_of terms k) h) (of_htlc h i refl) (ap id_in e)
