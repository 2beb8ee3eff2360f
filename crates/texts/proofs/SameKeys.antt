-- Keys with equal bytes are equal: that the bytes have the form of a key has one proof.
use Rattle.std.proofs.Common.{◌≡◌, ℕ, Bool, true, false, true≢false, List, Option, Some, None, refl, sym, ap, ◌∙◌}
use Rattle.std.specs.Prelude.{IsTrue, IfSome, IfNone}
use mathlib.Core.HLevel.{is_prop→PathP}
use mathlib.Core.Bool.{Bool-set}
use Rattle.script.specs.Token.{is_key}
use Rattle.keys.specs.declared.compressed.Key.{Key}
use Rattle.texts.specs.Keys.{key_if, key_in}

same_key : (a b : Key) → a.bytes ≡ b.bytes → a ≡ b
same_key a b q = λ i. record { bytes = q i; form = is_prop→PathP (λ j. IsTrue (is_key (q j))) (λ j. Bool-set _ _) a.form b.form i }

found_if : (k : Key) (bytes : List ℕ) (form : Bool) (h : is_key bytes ≡ form) → k.bytes ≡ bytes → key_if bytes form h ≡ Some k
found_if k bytes true h same = ap Some (same_key (record { bytes = bytes; form = h }) k (sym same))
found_if k bytes false h same = absurd (true≢false (sym k.form ∙ ap is_key same ∙ h))

pub key_found : (k : Key) (bytes : List ℕ) → k.bytes ≡ bytes → key_in bytes ≡ Some k
key_found k bytes same = found_if k bytes (is_key bytes) refl same

none_if : (bytes : List ℕ) (form : Bool) (h : is_key bytes ≡ form) → form ≡ false → key_if bytes form h ≡ None
none_if bytes true h e = absurd (true≢false e)
none_if bytes false h e = refl

no_key : (bytes : List ℕ) → is_key bytes ≡ false → key_in bytes ≡ None
no_key bytes e = none_if bytes (is_key bytes) refl e

pub key_is : (r : Option Key) (bytes : List ℕ) → IfSome r (λ k. k.bytes ≡ bytes) → IfNone r (is_key bytes ≡ false) → r ≡ key_in bytes
key_is (Some k) bytes some none = sym (key_found k bytes some)
key_is None bytes some none = sym (no_key bytes none)
