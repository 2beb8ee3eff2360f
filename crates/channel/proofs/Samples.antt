-- Terms, keys, a secret with its point, and tokens, for the examples of a channel and of a book.
use Rattle.std.proofs.Common.{◌≡◌, ◌<◌, ◌^◌, ℕ, List, [], ◌∷◌, replicate, map, refl, lit≤, lit<}
use Rattle.std.specs.Prelude.{IsTrue}
use Rattle.sha2.specs.Sha256.{sha256, digest_bytes, hash_after, compress, rounds, schedule, first_words}
use Rattle.script.specs.Token.{is_key}
use Rattle.tx.specs.declared.input.OutPoint.{OutPoint}
use Rattle.keys.specs.declared.compressed.Key.{Key}
use Rattle.keys.specs.Derivation.{point_of}
use Rattle.terms.specs.declared.sides.Side.TheVariants.{A}
use Rattle.terms.specs.declared.agreement.BaseKeys.{BaseKeys}
use Rattle.terms.specs.declared.agreement.Terms.{Terms}
use Rattle.updates.specs.declared.messages.Tokens.{Tokens}
use Rattle.channel.specs.States.{Signing}

pub key_form : (n : ℕ) → IsTrue (is_key (2 ∷ replicate 32 n))
unfolding is_key
key_form n = refl

abbrev pub key : ℕ → Key
key n = record { bytes = 2 ∷ replicate 32 n; form = key_form n }

-- a secret, and its point (SHA-256 by Python's hashlib)
abbrev pub secret : List ℕ
secret = replicate 32 7

abbrev pub point : List ℕ
point = 2 ∷ 214 ∷ 139 ∷ 241 ∷ 59 ∷ 6 ∷ 78 ∷ 75 ∷ 13 ∷ 89 ∷ 80 ∷ 59 ∷ 132 ∷ 36 ∷ 89 ∷ 255 ∷ 4 ∷ 40 ∷ 23 ∷ 205 ∷ 69 ∷ 255 ∷ 234 ∷ 99 ∷ 71 ∷ 90 ∷ 60 ∷ 31 ∷ 96 ∷ 99 ∷ 70 ∷ 106 ∷ 53 ∷ []

pub point_is : point_of secret ≡ point
unfolding point_of sha256 digest_bytes hash_after compress rounds schedule first_words
point_is = refl

pub point_form : IsTrue (is_key point)
unfolding is_key
point_form = refl

abbrev pub point_key : Key
point_key = record { bytes = point; form = point_form }

-- tokens that name the number, and the amounts of A's HTLCs
abbrev pub tokens_of : Signing
tokens_of terms c = record { commitment = c.number ∷ []; htlcs = map (λ h. h.amount_msat ∷ []) c.view.a.offered }

abbrev pub tokens : ℕ → List ℕ → Tokens
tokens number amounts = record { commitment = number ∷ []; htlcs = map (λ n. n ∷ []) amounts }

-- a delay of 144 blocks is short
pub short : 144 < 2 ^ 16
short = lit< tt

-- A opens a channel of 100,000 satoshis, of which 20,000 are B's
abbrev pub sample_terms : OutPoint → BaseKeys → Terms
sample_terms funding bases = record {
  funding = funding;
  capacity_sat = 100000;
  opener = A;
  feerate_per_kw = 1000;
  a = record { dust_sat = 546; delay_blocks = 144; minimum_msat = 1000; start_msat = 80000000; bases = bases };
  b = record { dust_sat = 546; delay_blocks = 144; minimum_msat = 1000; start_msat = 20000000; bases = bases };
  limited = lit≤ tt;
  whole = refl;
  short_a = short;
  short_b = short;
}
