-- What keeps the limits of a transaction is taken.
use Rattle.std.proofs.Common.{◌≡◌, ℕ, ◌≤◌, ◌+◌, ◌-◌, subst, cond, Bool, true, false, leb, ltb, List, [], ◌∷◌, ◌++◌, map, drop, length, refl, sym, ap, ◌∙◌, append-nil, Ok, Err}
use Rattle.std.specs.Prelude.{Result}
use Rattle.std.specs.List.{All, cons_option}
use Rattle.std.proofs.lemmas.Bool.{le-leb, le-ltb, false≢true, true≢false}
use Rattle.std.proofs.lemmas.List.Elements.{All-nil, All-cons, All-head, All-tail}
use Rattle.std.proofs.lemmas.List.{drop_all}
use Rattle.std.proofs.lemmas.List.{length-map}
use Rattle.tx.specs.declared.limits.TheConstants.{MAX_VALUE, MAX_BYTES}
use Rattle.tx.specs.Parts.{Output}
use Rattle.tx.specs.Fields.{Transaction}
use Rattle.commit.specs.declared.outputs.HtlcOutput.{HtlcOutput}
use Rattle.commit.specs.Fees.{satoshis_of, fee_sat_of, htlc_weight}
use Rattle.sighash.specs.Programs.{script_hash_program}
use Rattle.commit.specs.Outputs.{to_local_script}
use Rattle.commit.specs.declared.outputs.OutputKind.{OutputKind}
use Rattle.commit.specs.declared.outputs.OutputKind.TheVariants.{ToLocal, ToRemote, ToHtlc}
use Rattle.commit.specs.declared.outputs.CommitmentOutput.{CommitmentOutput}
use Rattle.commit.specs.Keys.{KeyBytes}
use Rattle.commit.specs.Commitments.{Contents, spending, tx_output, transaction_of, id_of, htlc_at, htlcs_from, lock_time_of, htlc_tx_of, IsHtlcOf, IsOutputOf}

err_ok : {A E : Type 0} (e : E) (x : A) (r : Result A E) → r ≡ Err e → r ≡ Ok x → ⊥
err_ok e x r h k = cc

pub no_refusal : {A E : Type 0} (r : Result A E) (n limit : ℕ) (x : A) (e f : E) → n ≤ limit → r ≡ Err e → r ≡ cond (leb n limit) (Ok x) (Err f) → ⊥
no_refusal r n limit x e f l k h = let t : leb n limit ≡ true = le-leb n limit l in err_ok e x r k (by (leb n limit) t h)
  where
    by : (b : Bool) → b ≡ true → r ≡ cond b (Ok x) (Err f) → r ≡ Ok x
    by true t h = h
    by false t h = absurd (false≢true t)

-- what a value and a script within their limits make
pub taken : {A E : Type 0} (r : Result A E) (v n : ℕ) (x : A) (f g : E) → v ≤ MAX_VALUE → n ≤ MAX_BYTES → r ≡ cond (ltb MAX_VALUE v) (Err f) (cond (ltb MAX_BYTES n) (Err g) (Ok x)) → r ≡ Ok x
taken r v n x f g l m h = by (ltb MAX_VALUE v) (ltb MAX_BYTES n) (le-ltb MAX_VALUE v l) (le-ltb MAX_BYTES n m) h
  where
    by : (a b : Bool) → a ≡ false → b ≡ false → r ≡ cond a (Err f) (cond b (Err g) (Ok x)) → r ≡ Ok x
    by true b s t h = absurd (true≢false s)
    by false true s t h = absurd (true≢false t)
    by false false s t h = h

pub no_fault : {A E : Type 0} (r : Result A E) (v n : ℕ) (x : A) (e f g : E) → v ≤ MAX_VALUE → n ≤ MAX_BYTES → r ≡ Err e → r ≡ cond (ltb MAX_VALUE v) (Err f) (cond (ltb MAX_BYTES n) (Err g) (Ok x)) → ⊥
no_fault r v n x e f g l m k h = err_ok e x r k (taken r v n x f g l m h)

pub same_ok : {A E : Type 0} (x y : A) (r : Result A E) → r ≡ Ok x → r ≡ Ok y → x ≡ y
same_ok x y r h k = cc

pub all_there : {X Y : Type 0} (f : X → Y) (done : List Y) (i : ℕ) (xs : List X) → length xs ≤ i → done ++ map f (drop i xs) ≡ map f xs → length done ≡ length xs
all_there f done i xs l h =
    let e : done ≡ map f xs = sym (append-nil done) ∙ ap (λ ys. done ++ map f ys) (sym (drop_all i xs l)) ∙ h in
    ap length e ∙ length-map xs f

pub transaction_is : (c : Contents) (t : Transaction) (outputs : List Output) → t ≡ spending c.funding c.hidden.sequence outputs c.hidden.lock_time → outputs ≡ map tx_output c.outputs → t ≡ transaction_of c
unfolding transaction_of
transaction_is c t outputs e f = e ∙ ap (λ os. spending c.funding c.hidden.sequence os c.hidden.lock_time) f

-- the HTLCs of outputs within the limits
pub low_htlcs : (k : KeyBytes) (i : ℕ) (os : List CommitmentOutput) → All (λ o. IsOutputOf k o) os → All (λ h. satoshis_of h.htlc.amount_msat ≤ MAX_VALUE) (htlcs_from i os)
unfolding htlcs_from
low_htlcs k i [] a = All-nil (λ (h : HtlcOutput). satoshis_of h.htlc.amount_msat ≤ MAX_VALUE)
low_htlcs k i (o ∷ os) a =
    let first : IsOutputOf k o = All-head (λ o. IsOutputOf k o) o os a in
    by o.kind first.limits.value first.htlc (low_htlcs k (i + 1) os (All-tail (λ o. IsOutputOf k o) o os a))
  where
    by : (kind : OutputKind) → o.value ≤ MAX_VALUE → IsHtlcOf k o kind → All (λ h. satoshis_of h.htlc.amount_msat ≤ MAX_VALUE) (htlcs_from (i + 1) os)
        → All (λ h. satoshis_of h.htlc.amount_msat ≤ MAX_VALUE) (cons_option (htlc_at i kind) (htlcs_from (i + 1) os))
    by ToLocal l h rest = rest
    by ToRemote l h rest = rest
    by (ToHtlc direction htlc) l h rest = All-cons (λ (h : HtlcOutput). satoshis_of h.htlc.amount_msat ≤ MAX_VALUE) _ _ (subst (λ v. v ≤ MAX_VALUE) h.0 l) rest

pub second_stage_is : (c : Contents) (h : HtlcOutput) (id program : List ℕ) (value lock_time : ℕ) (outputs : List Output)
    → id ≡ id_of c → program ≡ script_hash_program (to_local_script c.delay_blocks c.keys) → value ≡ satoshis_of h.htlc.amount_msat - fee_sat_of (htlc_weight h.direction) c.feerate_per_kw
    → outputs ≡ record { value = value; script = program } ∷ [] → lock_time ≡ lock_time_of h.direction h.htlc
    → spending (record { txid = id; index = h.index }) 0 outputs lock_time ≡ htlc_tx_of c h
unfolding htlc_tx_of
second_stage_is c h id program value lock_time outputs a b d e f = rw (e, a, b, d, f) refl
