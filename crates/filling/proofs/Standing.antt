-- What the transaction of claims satisfies before it is signed.
use Rattle.std.proofs.Common.{◌≡◌, ℕ, zero, suc, ◌<◌, ◌≤◌, Bool, true, false, ◌||◌, ◌&&◌, List, [], ◌∷◌, length, map, Some, sym, ap, subst, ◌∙◌, refl, arith, nat_lt, get_or, Bor, Result, Ok, Err, IfOk}
use Rattle.std.specs.Prelude.{slice_get, option_map, unwrap_or}
use Rattle.std.proofs.lemmas.Bool.{and_parts, eqb-true, lt-ltb, false≢true}
use Rattle.std.proofs.lemmas.Slice.Eq.{bytes_eq-Decides}
use Rattle.tx.specs.declared.input.OutPoint.{OutPoint}
use Rattle.tx.specs.declared.input.TxIn.{TxIn}
use Rattle.tx.specs.Parts.{Output}
use Rattle.tx.specs.Fields.{Transaction, signed_input, unsigned_inputs, unsigned_transaction}
use Rattle.paths.specs.declared.state.Path.{Path}
use Rattle.claim.specs.declared.parts.Shell.{Shell}
use Rattle.claim.specs.declared.parts.Shell.TheVariants.{Open, Fixed}
use Rattle.claim.specs.Judgement.{height_of, needed_height, age_of, is_only_input, is_shell}
use Rattle.claim.specs.Fitting.{StandsRound}
use Rattle.claim.specs.Claims.{ClaimParts, path_of, sequence_of, lock_time_of}
use Rattle.filling.specs.Filling.{unsigned_input, greatest_of, open_transaction, lone_transaction, transaction_for}
use Rattle.filling.specs.Refusals.{is_fixed, has_fixed, are_mixed}
use Rattle.filling.specs.Standing.{Stands, AllStand, IsUnsigned}
use Rattle.filling.proofs.Lists.{slice_get-map}

twice : (xs : List TxIn) → unsigned_inputs (unsigned_inputs xs) ≡ unsigned_inputs xs
twice [] = refl
twice (x ∷ xs) = ap (λ l. signed_input x [] ∷ l) (twice xs)

pub bare-twice : (t : Transaction) → unsigned_transaction (unsigned_transaction t) ≡ unsigned_transaction t
bare-twice t = ap (λ is. record { version = t.version; inputs = is; outputs = t.outputs; lock_time = t.lock_time }) (twice t.inputs)

bare_inputs : (claims : List ClaimParts) → unsigned_inputs (map unsigned_input claims) ≡ map unsigned_input claims
bare_inputs [] = refl
bare_inputs (c ∷ claims) = ap (λ l. unsigned_input c ∷ l) (bare_inputs claims)

pub bare-of : (claims : List ClaimParts) (t : Transaction) → t.inputs ≡ map unsigned_input claims → unsigned_transaction t ≡ t
bare-of claims t e = ap (λ is. record { version = t.version; inputs = is; outputs = t.outputs; lock_time = t.lock_time }) (ap unsigned_inputs e ∙ bare_inputs claims ∙ sym e)

pub here-at : (claims : List ClaimParts) (t : Transaction) (i : ℕ) (c : ClaimParts) → t.inputs ≡ map unsigned_input claims → slice_get claims i ≡ Some c → slice_get t.inputs i ≡ Some (unsigned_input c)
here-at claims t i c e f = ap (λ l. slice_get l i) e ∙ slice_get-map unsigned_input claims i c f

pub stands-at : (t : Transaction) (claims : List ClaimParts) (i : ℕ) (c : ClaimParts) → AllStand t claims → slice_get claims i ≡ Some c → Stands t c
stands-at t [] i c a e = absurd (cc)
stands-at t (d ∷ claims) zero c a e = let s : d ≡ c = cc in subst (Stands t) s a.0
stands-at t (d ∷ claims) (suc i) c a e = stands-at t claims i c a.1 e

-- open claims
stands_open : (t : Transaction) (p : Path) (shell : Shell) → is_fixed shell ≡ false → t.version ≡ 2 → needed_height p shell ≤ t.lock_time → t.lock_time < 500000000 → StandsRound p shell t
stands_open t p Open f v h b = (v, h, b)
stands_open t p (Fixed u) f v h b = absurd (cc)

pub no-left : (a b : Bool) → (a || b) ≡ false → (a ≡ false) × (b ≡ false)
no-left true b e = absurd (cc)
no-left false b e = (refl, e)

open_at : (t : Transaction) (c : ClaimParts) → is_fixed c.shell ≡ false → t.version ≡ 2 → lock_time_of c ≤ t.lock_time → t.lock_time < 500000000 → Stands t c
open_at t c f v h b p e = stands_open t p c.shell f v (subst (λ o. unwrap_or (option_map (λ q. needed_height q c.shell) o) 0 ≤ t.lock_time) e h) b

pub all-open : (t : Transaction) (claims : List ClaimParts) → has_fixed claims ≡ false → t.version ≡ 2 → greatest_of (map lock_time_of claims) ≤ t.lock_time → t.lock_time < 500000000 → AllStand t claims
all-open t [] f v h b = tt
all-open t (c ∷ claims) f v h b =
    let w = no-left (is_fixed c.shell) (has_fixed claims) f in
    (open_at t c w.0 v (omega (arith, h)) b, all-open t claims w.1 v (omega (arith, h)) b)

no_both : (a b : Bool) → (a && b) ≡ false → a ≡ true → b ≡ false
no_both true b e f = e
no_both false b e f = absurd (cc)

pub open-of : (claims : List ClaimParts) → are_mixed claims ≡ false → 1 < length claims → has_fixed claims ≡ false
open-of claims e h = no_both (nat_lt 1 (length claims)) (has_fixed claims) e (lt-ltb 1 (length claims) h)

pub unsigned-open : (claims : List ClaimParts) (outputs : List Output) (t : Transaction) → has_fixed claims ≡ false → t ≡ open_transaction claims outputs → t.lock_time < 500000000 → IsUnsigned claims t
unsigned-open claims outputs t f e b =
    let lock : t.lock_time ≡ greatest_of (map lock_time_of claims) = ap (λ u. u.lock_time) e in
    record { inputs = ap (λ u. u.inputs) e; stands = all-open t claims f (ap (λ u. u.version) e) (omega (arith, lock)) b }

-- a fixed transaction
only_of : (us : List TxIn) (o : OutPoint) (s : ℕ) → is_only_input us o s ≡ true → unsigned_inputs us ≡ record { outpoint = o; sequence = s; witness = [] } ∷ []
only_of [] o s e = absurd (false≢true e)
only_of (x ∷ y ∷ us) o s e = absurd (false≢true e)
only_of (x ∷ []) o s e =
    let a = and_parts _ _ e in
    let b = and_parts _ _ a.0 in
    let txid : x.outpoint.txid ≡ o.txid = (bytes_eq-Decides _ _).0 b.0 in
    let index : x.outpoint.index ≡ o.index = eqb-true _ _ b.1 in
    let sequence : x.sequence ≡ s = eqb-true _ _ a.1 in
    rw (txid, index, sequence) refl

pub unsigned-fixed : (c : ClaimParts) (p : Path) (u : Transaction) → path_of c ≡ Some p → c.shell ≡ Fixed u → is_shell p c.place c.shell ≡ true → IsUnsigned (c ∷ []) (unsigned_transaction u)
unsigned-fixed c p u at e s =
    let w = and_parts _ _ (ap (is_shell p c.place) (sym e) ∙ s) in
    let only : is_only_input u.inputs c.place.outpoint (age_of p) ≡ true = (and_parts _ _ (and_parts _ _ (and_parts _ _ w.0).0).0).1 in
    let sequence : age_of p ≡ sequence_of c = ap (λ o. unwrap_or (option_map age_of o) 0) (sym at) in
    record {
      inputs = only_of u.inputs c.place.outpoint (age_of p) only ∙ ap (λ n. record { outpoint = c.place.outpoint; sequence = n; witness = [] } ∷ []) sequence;
      stands = (λ q f. subst (λ shell. StandsRound q shell (unsigned_transaction u)) (sym e) (bare-twice u), tt);
    }

-- a transaction that is signed may stand where the unsigned one may
pub stands-signed : (p : Path) (shell : Shell) (t u : Transaction) → unsigned_transaction u ≡ t → unsigned_transaction t ≡ t → StandsRound p shell t → StandsRound p shell u
stands-signed p Open t u e f s =
    let version : u.version ≡ t.version = ap (λ w. w.version) e in
    let lock_time : u.lock_time ≡ t.lock_time = ap (λ w. w.lock_time) e in
    (version ∙ s.0, subst (λ n. height_of p ≤ n) (sym lock_time) s.1, subst (λ n. n < 500000000) (sym lock_time) s.2)
stands-signed p (Fixed v) t u e f s = e ∙ sym f ∙ s

-- claims of which the first is the only one
pub one-of : (claims : List (Bor ClaimParts)) (d c : Bor ClaimParts) → 1 ≤ length claims → length claims ≤ 1 → c ≡ get_or claims 0 d → claims ≡ c ∷ []
one-of [] d c h l e = absurd (omega arith)
one-of (b ∷ []) d c h l e = ap (λ x. x ∷ []) (sym e)
one-of (a ∷ b ∷ claims) d c h l e = absurd (omega arith)

pub one-open : (claims : List (Bor ClaimParts)) (d c : Bor ClaimParts) → 1 ≤ length claims → length claims ≤ 1 → c ≡ get_or claims 0 d → c.now.shell ≡ Open → has_fixed (map (λ x. x.now) claims) ≡ false
one-open claims d c h l e s = ap (λ x. has_fixed (map (λ y. y.now) x)) (one-of claims d c h l e) ∙ ap (λ shell. is_fixed shell || false) s

pub one-fixed : (claims : List (Bor ClaimParts)) (d c : Bor ClaimParts) (p : Path) (u t : Transaction) → 1 ≤ length claims → length claims ≤ 1 → c ≡ get_or claims 0 d → path_of c.now ≡ Some p → c.now.shell ≡ Fixed u → is_shell p c.now.place c.now.shell ≡ true → t ≡ unsigned_transaction u → IsUnsigned (map (λ x. x.now) claims) t
one-fixed claims d c p u t h l e at s i f =
    subst (λ x. IsUnsigned (map (λ y. y.now) x) t) (sym (one-of claims d c h l e))
    (subst (IsUnsigned (c.now ∷ [])) (sym f) (unsigned-fixed c.now p u at s i))

pub open-result : {E : Type 0} (r : Result Transaction E) (claims : List ClaimParts) (outputs : List Output) → has_fixed claims ≡ false → IfOk r (λ t. t ≡ open_transaction claims outputs) → IfOk r (λ t. t.lock_time < 500000000) → IfOk r (IsUnsigned claims)
open-result (Ok t) claims outputs f e b = unsigned-open claims outputs t f e b
open-result (Err x) claims outputs f e b = tt

pub lone : (claims : List (Bor ClaimParts)) (d c : Bor ClaimParts) (outputs : List Output) → 1 ≤ length claims → length claims ≤ 1 → c ≡ get_or claims 0 d → transaction_for (map (λ x. x.now) claims) outputs ≡ lone_transaction c.now c.now.shell outputs
lone claims d c outputs h l e = ap (λ x. transaction_for (map (λ y. y.now) x) outputs) (one-of claims d c h l e)
