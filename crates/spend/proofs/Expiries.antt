-- Expiries of equal heights are equal: that a height is low has one proof.
use Rattle.std.proofs.Common.{◌≡◌, ℕ, ◌<◌, ◌≤◌, Bool, true, false, true≢false, Some, None, refl, sym, ap, ◌∙◌, arith}
use Rattle.std.specs.Prelude.{nat_lt}
use Rattle.std.proofs.lemmas.Bool.{ltb-true, lt-ltb}
use Rattle.std.proofs.Math.Bridge.{le_prop}
use mathlib.Core.HLevel.{is_prop→PathP}
use Rattle.script.specs.declared.limits.TheConstants.{LOCKTIME_THRESHOLD}
use Rattle.forms.specs.declared.parameters.Expiry.{Expiry}
use Rattle.serde_json.specs.Data.{Data}
use Rattle.claim.specs.Opcodes.{◌>>=◌}
use Rattle.texts.specs.Values.{u32_of}
use Rattle.spend.specs.RevokedRequests.{expiry_if, expiry_in, expiry_of}

same_expiry : (a b : Expiry) → a.height ≡ b.height → a ≡ b
same_expiry a b q = λ i. record { height = q i; low = is_prop→PathP (λ j. q j < LOCKTIME_THRESHOLD) (λ j. le_prop) a.low b.low i }

found_if : (e : Expiry) (n : ℕ) (low : Bool) (h : nat_lt n LOCKTIME_THRESHOLD ≡ low) → e.height ≡ n → expiry_if n low h ≡ Some e
found_if e n true h same = ap Some (same_expiry (record { height = n; low = ltb-true _ _ h }) e (sym same))
found_if e n false h same = absurd (true≢false (sym (lt-ltb _ _ e.low) ∙ ap (λ m. nat_lt m LOCKTIME_THRESHOLD) same ∙ h))

expiry_found : (e : Expiry) (n : ℕ) → e.height ≡ n → expiry_in n ≡ Some e
expiry_found e n same = found_if e n (nat_lt n LOCKTIME_THRESHOLD) refl same

pub expiry_read : (d : Data) (n : ℕ) (e : Expiry) → u32_of d ≡ Some n → e.height ≡ n → Some e ≡ expiry_of d
expiry_read d n e read same = sym (ap (λ o. o >>= expiry_in) read ∙ expiry_found e n same)

none_if : (n : ℕ) (low : Bool) (h : nat_lt n LOCKTIME_THRESHOLD ≡ low) → LOCKTIME_THRESHOLD ≤ n → expiry_if n low h ≡ None
none_if n true h le = let lt = ltb-true n LOCKTIME_THRESHOLD h in absurd (omega arith)
none_if n false h le = refl

pub no_expiry : (n : ℕ) → LOCKTIME_THRESHOLD ≤ n → expiry_in n ≡ None
no_expiry n le = none_if n (nat_lt n LOCKTIME_THRESHOLD) refl le
