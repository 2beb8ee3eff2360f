-- What workers and watchers may call: a keep, and a release of one claim to the payment key of its channel, each of key, value, claims and channel at its bound.
use Rattle.std.proofs.Common.{◌≡◌, ◌≢◌, ℕ, Bool, true, false, List, [], ◌∷◌, ◌++◌, length, replicate, Some, refl, sym, ap, ◌∙◌, subst, arith}
use Rattle.std.specs.Prelude.{All, slice_get, ◌||◌, if◌then◌else◌, fold}
use Rattle.std.specs.List.{list_any, flat_map}
use Rattle.std.specs.Str.{bytes_eq}
use Rattle.std.proofs.lemmas.Bool.{true≢false}
use Rattle.std.proofs.lemmas.List.Elements.{All-nil, All-cons, All-head, All-tail}
use Rattle.std.proofs.lemmas.Slice.Eq.{bytes_eq-Decides}
use Rattle.sha2.specs.Sha256.{sha256, digest_bytes, hash_after, compress, rounds, schedule, first_words}
use Rattle.keys.specs.Derivation.{point_of, seed_secret}
use Rattle.sighash.specs.Programs.{key_hash_program}
use Rattle.tx.specs.Parts.{Output}
use Rattle.claim.specs.Claims.{ClaimParts}
use Rattle.book.specs.declared.calls.Batch.{Batch}
use Rattle.book.specs.declared.calls.Call.TheVariants.{Keep, Release}
use Rattle.book.specs.declared.calls.Entry.{Entry}
use Rattle.book.specs.Books.{ChannelBook}
use Rattle.desk.specs.declared.desk.Seat.{Seat}
use Rattle.desk.specs.Seats.{calls_in}
use Rattle.side.specs.declared.due.DueClaim.{DueClaim}
use Rattle.side.specs.Batches.{value_of, with_new}
use Rattle.running.specs.Threads.{payments_in, IsKeepOrRelease, KeepsAndReleases}
use Rattle.safety.proofs.Lists.{some_is, none_some}

-- ---- the payment keys of a book

of_sevens : point_of (seed_secret (replicate 32 7) 1) ≡ 2 ∷ 251 ∷ 85 ∷ 88 ∷ 213 ∷ 105 ∷ 108 ∷ 136 ∷ 164 ∷ 25 ∷ 215 ∷ 68 ∷ 160 ∷ 155 ∷ 17 ∷ 131 ∷ 252 ∷ 143 ∷ 120 ∷ 12 ∷ 246 ∷ 207 ∷ 193 ∷ 218 ∷ 190 ∷ 139 ∷ 244 ∷ 252 ∷ 127 ∷ 2 ∷ 36 ∷ 101 ∷ 144 ∷ []
unfolding point_of seed_secret sha256 digest_bytes hash_after compress rounds schedule first_words
of_sevens = refl

of_nines : point_of (seed_secret (replicate 32 9) 1) ≡ 2 ∷ 135 ∷ 54 ∷ 145 ∷ 67 ∷ 117 ∷ 64 ∷ 149 ∷ 18 ∷ 61 ∷ 148 ∷ 121 ∷ 241 ∷ 213 ∷ 141 ∷ 85 ∷ 225 ∷ 34 ∷ 224 ∷ 136 ∷ 194 ∷ 42 ∷ 92 ∷ 69 ∷ 155 ∷ 167 ∷ 39 ∷ 42 ∷ 53 ∷ 68 ∷ 134 ∷ 118 ∷ 179 ∷ []
unfolding point_of seed_secret sha256 digest_bytes hash_after compress rounds schedule first_words
of_nines = refl

module _ (x y : ChannelBook) where
  -- each channel's own, in order: of a seed, the secret 1
  payments_of_both : payments_in (x ∷ y ∷ []) ≡ point_of (seed_secret x.state.seed 1) ∷ point_of (seed_secret y.state.seed 1) ∷ []
  payments_of_both = refl

  -- of two seeds, by their bytes
  payments_of_seeds : x.state.seed ≡ replicate 32 7 → y.state.seed ≡ replicate 32 9 → payments_in (x ∷ y ∷ [])
      ≡ (2 ∷ 251 ∷ 85 ∷ 88 ∷ 213 ∷ 105 ∷ 108 ∷ 136 ∷ 164 ∷ 25 ∷ 215 ∷ 68 ∷ 160 ∷ 155 ∷ 17 ∷ 131 ∷ 252 ∷ 143 ∷ 120 ∷ 12 ∷ 246 ∷ 207 ∷ 193 ∷ 218 ∷ 190 ∷ 139 ∷ 244 ∷ 252 ∷ 127 ∷ 2 ∷ 36 ∷ 101 ∷ 144 ∷ [])
      ∷ (2 ∷ 135 ∷ 54 ∷ 145 ∷ 67 ∷ 117 ∷ 64 ∷ 149 ∷ 18 ∷ 61 ∷ 148 ∷ 121 ∷ 241 ∷ 213 ∷ 141 ∷ 85 ∷ 225 ∷ 34 ∷ 224 ∷ 136 ∷ 194 ∷ 42 ∷ 92 ∷ 69 ∷ 155 ∷ 167 ∷ 39 ∷ 42 ∷ 53 ∷ 68 ∷ 134 ∷ 118 ∷ 179 ∷ [])
      ∷ []
  payments_of_seeds e f = joined (ap (λ (s : List ℕ). point_of (seed_secret s 1)) e ∙ of_sevens) (ap (λ (s : List ℕ). point_of (seed_secret s 1)) f ∙ of_nines)
    where
      joined : {a b c d : List ℕ} → a ≡ c → b ≡ d → a ∷ b ∷ [] ≡ c ∷ d ∷ []
      joined {a} {b} {c} {d} p q = cc

-- ---- releases

-- a claim of 7,000 satoshis in channel 1 of two channels with unlike payment keys
module _ (c : ClaimParts) (worth : c.place.value ≡ 7000) (first second : List ℕ) (apart : key_hash_program first ≢ key_hash_program second) (batch : Batch) (one : batch.claims ≡ c ∷ []) where
  abbrev keys : List (List ℕ)
  keys = first ∷ second ∷ []

  abbrev pays : (value : ℕ) (key : List ℕ) → List Output
  pays value key = record { value = value; script = key_hash_program key } ∷ []

  -- it wants the preimages 3 and 4, the first one twice
  abbrev due : DueClaim
  due = record { channel = 1; claim = c; preimages = (3 ∷ []) ∷ (4 ∷ []) ∷ (3 ∷ []) ∷ [] }

  -- yes: IsKeepOrRelease
  pays_second : batch.outputs ≡ pays 7000 second → batch.preimages ≡ (3 ∷ []) ∷ (4 ∷ []) ∷ [] → IsKeepOrRelease keys (Release 1 batch)
  pays_second o p =
      let whole : 7000 ≡ value_of (due ∷ []) = omega (arith, worth) in
      (due, second, refl, refl, record { claims_is = one; outputs_is = o ∙ ap (λ (n : ℕ). pays n second) whole; preimages_is = p })

  -- where it is released, its output has its value and pays to the key at the channel's number
  released : (channel value : ℕ) (key : List ℕ) → batch.outputs ≡ pays value key → IsKeepOrRelease keys (Release channel batch)
      → (own : List ℕ) × (slice_get keys channel ≡ Some own) × (value ≡ 7000) × (key_hash_program key ≡ key_hash_program own)
  released channel value key o (d, own, same, there, of) =
      let claims : c ∷ [] ≡ d.claim ∷ [] = sym one ∙ of.claims_is in
      let claim : c ≡ d.claim = cc in
      let outputs : pays value key ≡ record { value = value_of (d ∷ []); script = key_hash_program own } ∷ [] = sym o ∙ of.outputs_is in
      let values : value ≡ value_of (d ∷ []) = ap (λ (os : List Output). first_value os) outputs in
      let is : c.place.value ≡ d.claim.place.value = ap (λ (x : ClaimParts). x.place.value) claim in
      (own, there, omega (arith, values, is, worth), ap (λ (os : List Output). first_script os) outputs)
    where
      first_value : List Output → ℕ
      first_value [] = 0
      first_value (p ∷ ps) = p.value

      first_script : List Output → List ℕ
      first_script [] = []
      first_script (p ∷ ps) = p.script

  -- no: IsKeepOrRelease
  pays_first : batch.outputs ≡ pays 7000 first → IsKeepOrRelease keys (Release 1 batch) → ⊥
  pays_first o k = let (own, there, value, script) = released 1 7000 first o k in apart (script ∙ ap key_hash_program (sym (some_is second own there)))

  -- no: IsKeepOrRelease
  pays_less : batch.outputs ≡ pays 6999 second → IsKeepOrRelease keys (Release 1 batch) → ⊥
  pays_less o k = let (own, there, value, script) = released 1 6999 second o k in omega (arith, value)

  -- no: IsKeepOrRelease
  pays_more : batch.outputs ≡ pays 7001 second → IsKeepOrRelease keys (Release 1 batch) → ⊥
  pays_more o k = let (own, there, value, script) = released 1 7001 second o k in omega (arith, value)

  -- channel 0 has another key, and there is no channel 2
  -- no: IsKeepOrRelease
  in_channel_before : batch.outputs ≡ pays 7000 second → IsKeepOrRelease keys (Release 0 batch) → ⊥
  in_channel_before o k = let (own, there, value, script) = released 0 7000 second o k in apart (ap key_hash_program (some_is first own there) ∙ sym script)

  -- no: IsKeepOrRelease
  in_channel_after : batch.outputs ≡ pays 7000 second → IsKeepOrRelease keys (Release 2 batch) → ⊥
  in_channel_after o k = let (own, there, value, script) = released 2 7000 second o k in none_some own there

  -- a seat that keeps, and then releases this
  abbrev calls : List Entry
  calls = record { seat = 4; call = Keep 0 5 [] } ∷ record { seat = 4; call = Release 1 batch } ∷ []

  -- yes: KeepsAndReleases
  keeps_and_pays : (s : Seat) → calls_in s ≡ calls → batch.outputs ≡ pays 7000 second → batch.preimages ≡ (3 ∷ []) ∷ (4 ∷ []) ∷ [] → KeepsAndReleases keys s
  keeps_and_pays s e o p =
      let P : Entry → Type 0 = λ x. IsKeepOrRelease keys x.call in
      let last = All-cons P (record { seat = 4; call = Release 1 batch }) [] (pays_second o p) (All-nil P) in
      subst (All P) (sym e) (All-cons P (record { seat = 4; call = Keep 0 5 [] }) (record { seat = 4; call = Release 1 batch } ∷ []) tt last)

  -- no: KeepsAndReleases
  keeps_and_pays_first : (s : Seat) → calls_in s ≡ calls → batch.outputs ≡ pays 7000 first → KeepsAndReleases keys s → ⊥
  keeps_and_pays_first s e o k =
      let P : Entry → Type 0 = λ x. IsKeepOrRelease keys x.call in
      let both : All P calls = subst (All P) e k in
      pays_first o (All-head P (record { seat = 4; call = Release 1 batch }) [] (All-tail P (record { seat = 4; call = Keep 0 5 [] }) (record { seat = 4; call = Release 1 batch } ∷ []) both))

-- ---- what is released together

module _ (keys : List (List ℕ)) (channel : ℕ) (batch : Batch) where
  -- no: IsKeepOrRelease
  two_claims : (c d : ClaimParts) → batch.claims ≡ c ∷ d ∷ [] → IsKeepOrRelease keys (Release channel batch) → ⊥
  two_claims c d two (due, key, same, there, of) = let many : 2 ≡ 1 = ap length (sym two ∙ of.claims_is) in omega (arith, many)

  -- of preimages, the first two are unlike
  abbrev Unlike : List (List ℕ) → Type 0
  Unlike [] = Unit {0}
  Unlike (x ∷ []) = Unit {0}
  Unlike (x ∷ y ∷ rest) = bytes_eq x y ≡ false

  one_more : (xs : List (List ℕ)) (x : List ℕ) → Unlike xs → Unlike (with_new xs x)
  one_more [] x u = tt
  one_more (y ∷ []) x u = go (bytes_eq y x) refl
    where
      go : (b : Bool) → bytes_eq y x ≡ b → Unlike (if b || false then y ∷ [] else y ∷ x ∷ [])
      go true e = tt
      go false e = e
  one_more (y ∷ z ∷ rest) x u = go (list_any (λ v. bytes_eq v x) (y ∷ z ∷ rest))
    where
      go : (b : Bool) → Unlike (if b then y ∷ z ∷ rest else y ∷ z ∷ (rest ++ x ∷ []))
      go true = u
      go false = u

  all_more : (more xs : List (List ℕ)) → Unlike xs → Unlike (fold with_new xs more)
  all_more [] xs u = u
  all_more (x ∷ more) xs u = all_more more (with_new xs x) (one_more xs x u)

  -- one preimage twice
  -- no: IsKeepOrRelease
  preimage_twice : (x : List ℕ) → batch.preimages ≡ x ∷ x ∷ [] → IsKeepOrRelease keys (Release channel batch) → ⊥
  preimage_twice x twice (due, key, same, there, of) =
      let unlike : bytes_eq x x ≡ false = subst Unlike (sym of.preimages_is ∙ twice) (all_more (flat_map (λ (d : DueClaim). d.preimages) (due ∷ [])) [] tt) in
      true≢false (sym ((bytes_eq-Decides x x).1 refl) ∙ unlike)
