-- A key is determined by its bytes: the proof that they have the form of a key is unique.
use Rattle.std.proofs.Common.{◌≡◌, List, ℕ}
use Rattle.std.specs.Prelude.{IsTrue}
use mathlib.Core.HLevel.{is_prop→PathP}
use mathlib.Core.Bool.{Bool-set}
use Rattle.script.specs.Token.{is_key}
use Rattle.keys.specs.declared.compressed.Key.{Key}
use Rattle.keys.specs.Derivation.{point_of}
use Rattle.channel.specs.Points.{point_key}

pub same_key : (a b : Key) → a.bytes ≡ b.bytes → a ≡ b
same_key a b q = λ i. record { bytes = q i; form = is_prop→PathP (λ j. IsTrue (is_key (q j))) (λ j. Bool-set _ _) a.form b.form i }

pub key_of_point : (k : Key) (secret : List ℕ) → k.bytes ≡ point_of secret → k ≡ point_key secret
key_of_point k secret e = same_key k (point_key secret) e
