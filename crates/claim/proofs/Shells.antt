-- What a transaction has that may stand round an accepted claim.
use Rattle.std.proofs.Common.{◌≡◌, ℕ, ◌<◌, ◌≤◌, zero, suc, true, List, [], ◌∷◌, sym, ap, subst, ◌∙◌, refl, arith, Contains}
use Rattle.std.proofs.lemmas.Bool.{and_parts, eqb-true, ltb-true, leb-true, false≢true}
use Rattle.std.specs.Prelude.{slice_get, option_map}
use Rattle.digest.specs.Hash.{sha256d}
use Rattle.tx.specs.declared.input.OutPoint.{OutPoint}
use Rattle.tx.specs.declared.input.TxIn.{TxIn}
use Rattle.tx.specs.Parts.{Output}
use Rattle.tx.specs.Fields.{Transaction, signed_input, unsigned_inputs, unsigned_transaction}
use Rattle.tx.proofs.Witnesses.{unsigned_twice}
use Rattle.sighash.specs.Signing.{signed_list, all_outpoints, all_sequences, sighash}
use Rattle.paths.specs.declared.state.Path.{Path}
use Rattle.claim.specs.declared.parts.Place.{Place}
use Rattle.claim.specs.declared.parts.Shell.{Shell}
use Rattle.claim.specs.declared.parts.Shell.TheVariants.{Open, Fixed}
use Rattle.claim.specs.Judgement.{is_only_input, is_shell, bare_shell, known_digest, height_of, age_of}
use Rattle.claim.specs.Claims.{IsBare}
use Rattle.claim.specs.Fitting.{StandsRound}
use Rattle.claim.proofs.Telling.{Known}

-- what a transaction has round a claim: version 2, a lock time that is a height and reached by the path, and the digest where it is known
pub record IsRound (p : Path) (place : Place) (shell : Shell) (script : List ℕ) (t : Transaction) (input : TxIn) : Type 0 where
  pub version : t.version ≡ 2
  pub reached : height_of p ≤ t.lock_time
  pub height : t.lock_time < 500000000
  pub known : Known (known_digest script place shell) (sha256d (signed_list t input script place.value))

-- two inputs that differ only in the witness
record AreAlike (xs ys : List TxIn) (x : TxIn) : Type 0 where
  y : TxIn
  first : xs ≡ x ∷ []
  second : ys ≡ y ∷ []
  same : signed_input x [] ≡ signed_input y []

only_at : (y x : TxIn) → Contains (y ∷ []) x → y ≡ x
only_at y x (zero, h, e) = e
only_at y x (suc k, h, e) = absurd (omega (arith, h))

alike : (xs ys : List TxIn) (o : OutPoint) (s : ℕ) (x : TxIn) → is_only_input ys o s ≡ true → unsigned_inputs xs ≡ unsigned_inputs ys → Contains xs x → AreAlike xs ys x
alike xs [] o s x a e c = absurd (false≢true a)
alike xs (y ∷ z ∷ ys) o s x a e c = absurd (false≢true a)
alike [] (y ∷ []) o s x a e c = absurd (cc)
alike (w ∷ v ∷ xs) (y ∷ []) o s x a e c = absurd (cc)
alike (w ∷ []) (y ∷ []) o s x a e c =
    let here : w ≡ x = only_at w x c in
    let one : signed_input w [] ≡ signed_input y [] = cc in
    record { y = y; first = ap (λ i. i ∷ []) here; second = refl; same = ap (λ i. signed_input i []) (sym here) ∙ one }

-- the signed fields are the same
signed_by : (version lock_time : ℕ) (outputs : List Output) (x y : TxIn) (script : List ℕ) (value : ℕ) → x.outpoint ≡ y.outpoint → x.sequence ≡ y.sequence →
    signed_list (record { version = version; inputs = x ∷ []; outputs = outputs; lock_time = lock_time }) x script value ≡ signed_list (record { version = version; inputs = y ∷ []; outputs = outputs; lock_time = lock_time }) y script value
unfolding signed_list all_outpoints all_sequences
signed_by version lock_time outputs x y script value e f = rw (e, f) refl

signed_alike : (t u : Transaction) (x : TxIn) (script : List ℕ) (value : ℕ) (a : AreAlike t.inputs u.inputs x) → unsigned_transaction t ≡ unsigned_transaction u → signed_list t x script value ≡ signed_list u a.y script value
signed_alike t u x script value a e =
    let version : t.version ≡ u.version = ap (λ w. w.version) e in
    let lock_time : t.lock_time ≡ u.lock_time = ap (λ w. w.lock_time) e in
    let outputs : t.outputs ≡ u.outputs = ap (λ w. w.outputs) e in
    let left : t ≡ record { version = u.version; inputs = x ∷ []; outputs = u.outputs; lock_time = u.lock_time } = rw (← version, ← lock_time, ← outputs, ← a.first) refl in
    let right : record { version = u.version; inputs = a.y ∷ []; outputs = u.outputs; lock_time = u.lock_time } ≡ u = rw (← a.second) refl in
    ap (λ w. signed_list w x script value) left
    ∙ signed_by u.version u.lock_time u.outputs x a.y script value (ap (λ i. i.outpoint) a.same) (ap (λ i. i.sequence) a.same)
    ∙ ap (λ w. signed_list w a.y script value) right

-- what a fixed transaction was tested for
pub record IsFixed (p : Path) (place : Place) (u : Transaction) : Type 0 where
  pub version : u.version ≡ 2
  pub only : is_only_input u.inputs place.outpoint (age_of p) ≡ true
  pub height : u.lock_time < 500000000
  pub reached : height_of p ≤ u.lock_time

pub fixed_of : (p : Path) (place : Place) (u : Transaction) → is_shell p place (Fixed u) ≡ true → IsFixed p place u
fixed_of p place u e =
    let a = and_parts _ _ e in
    let b = and_parts _ _ a.0 in
    let c = and_parts _ _ b.0 in
    let d = and_parts _ _ c.0 in
    record { version = eqb-true _ _ d.0; only = d.1; height = ltb-true _ _ c.1; reached = leb-true _ _ b.1 }

known_by : (u : Transaction) (y : TxIn) (script : List ℕ) (value : ℕ) (bytes : List ℕ) → u.inputs ≡ y ∷ [] → bytes ≡ signed_list u y script value → Known (sighash u 0 script value) (sha256d bytes)
known_by u y script value bytes one e = subst (λ o. Known (option_map (λ input. sha256d (signed_list u input script value)) o) (sha256d bytes)) (sym (ap (λ l. slice_get l 0) one)) (ap sha256d e)

pub round_of : (p : Path) (place : Place) (shell : Shell) (script : List ℕ) (t : Transaction) (input : TxIn) → is_shell p place shell ≡ true → Contains t.inputs input → StandsRound p shell t → IsRound p place shell script t input
round_of p place Open script t input e c s = record { version = s.0; reached = s.1; height = s.2; known = tt }
round_of p place (Fixed u) script t input e c s =
    let f = fixed_of p place u e in
    let a = alike t.inputs u.inputs place.outpoint (age_of p) input f.only (ap (λ w. w.inputs) s) c in
    let lock_time : t.lock_time ≡ u.lock_time = ap (λ w. w.lock_time) s in
    record {
      version = ap (λ w. w.version) s ∙ f.version;
      reached = subst (λ n. height_of p ≤ n) (sym lock_time) f.reached;
      height = subst (λ n. n < 500000000) (sym lock_time) f.height;
      known = known_by u a.y script place.value (signed_list t input script place.value) a.second (signed_alike t u input script place.value a s);
    }

-- a shell without witness items stays as it is
pub bare_twice : (s : Shell) → IsBare (bare_shell s)
bare_twice Open = refl
bare_twice (Fixed t) = ap (λ is. Fixed (record t { inputs = is })) (sym (unsigned_twice t.inputs))
