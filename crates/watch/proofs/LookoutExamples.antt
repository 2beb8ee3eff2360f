-- Small cases of what a lookout keeps that were worked out by hand.
use Rattle.std.proofs.Common.{◌≡◌, ℕ, true, false, List, [], ◌∷◌, Some, None, refl}
use Rattle.std.specs.List.{list_all}
use Rattle.std.specs.Str.{bytes_eq}
use Rattle.sha2.specs.Sha256.{sha256}
use Rattle.tx.specs.declared.input.OutPoint.{OutPoint}
use Rattle.tx.specs.Fields.{Transaction}
use Rattle.commit.specs.declared.fees.Direction.TheVariants.{Offered}
use Rattle.commit.specs.declared.outputs.HtlcOutput.{HtlcOutput}
use Rattle.commit.specs.Commitments.{Contents, htlcs_of}
use Rattle.penalty.specs.Claimable.{Claimable}
use Rattle.resolve.specs.declared.known.Known.{Known}
use Rattle.resolve.specs.declared.verdicts.Verdict.TheVariants.{Ours, Theirs, Revoked, Unknown}
use Rattle.resolve.specs.Due.{due_of}
use Rattle.watch.specs.Verdicts.{verdict_of}
use Rattle.watch.specs.Watching.{Seen, due_by, is_given, nothing_seen}
use Rattle.watch.specs.Lookouts.{IsSettled, with_learnt, some_is_paid, next_is_paid, changes}

abbrev offered : ℕ → List ℕ → HtlcOutput
offered index h = record { index = index; direction = Offered; htlc = record { id = 0; amount_msat = 1000000; hash = h; expiry_height = 500 } }

-- more preimages are appended
more : (known : Known) (x y z : List ℕ) → (with_learnt (x ∷ y ∷ []) (record known { preimages = z ∷ [] })).preimages ≡ z ∷ x ∷ y ∷ []
more known x y z = refl

-- one of the preimages has the hash of one of the HTLCs
module _ (x y hash other : List ℕ) where
  abbrev two : List HtlcOutput
  two = offered 0 other ∷ offered 2 hash ∷ []

  paid : bytes_eq (sha256 x) hash ≡ true → bytes_eq (sha256 x) other ≡ false → bytes_eq (sha256 y) hash ≡ false → bytes_eq (sha256 y) other ≡ false
      → (some_is_paid (y ∷ x ∷ []) two ≡ true) × (some_is_paid (y ∷ []) two ≡ false) × (some_is_paid [] two ≡ false) × (some_is_paid (x ∷ []) [] ≡ false)
  paid e f g h = (rw (h, g, f, e) refl, rw (h, g) refl, refl, refl)

  -- of the commitment that the verdict names; a penalty waits for no preimage
  of_newest : (known : Known) → htlcs_of known.own.commitment ≡ offered 0 hash ∷ [] → htlcs_of known.theirs ≡ offered 0 other ∷ [] → bytes_eq (sha256 x) hash ≡ true → bytes_eq (sha256 x) other ≡ false
      → (changes known (x ∷ []) Ours ≡ true) × (changes known (x ∷ []) Theirs ≡ false)
  of_newest known o t e f = (rw (o, e) refl, rw (t, f) refl)

  of_older : (known : Known) → (changes known (x ∷ []) (Revoked 3) ≡ false) × (changes known (x ∷ []) Unknown ≡ false)
  of_older known = (refl, refl)

  of_next : (c : Contents) → htlcs_of c ≡ offered 0 hash ∷ [] → bytes_eq (sha256 x) hash ≡ true → (next_is_paid (x ∷ []) (Some c) ≡ true) × (next_is_paid (x ∷ []) None ≡ false)
  of_next c o e = (rw (o, e) refl, refl)

-- all that is due was given, or one path of an output was and another one is due
module _ (known : Known) (t : Transaction) (any : Claimable) where
  abbrev output : OutPoint
  output = record { txid = 7 ∷ []; index = 0 }

  abbrev claim : Claimable
  claim = record any { place = record { outpoint = output; value = 1000; program = [] }; path = 1 }

  abbrev seen : ℕ → Seen
  seen path = record { spends = record { height = 3; tx = t } ∷ []; given = record { outpoint = output; path = path; height = 3 } ∷ [] }

  nothing : IsSettled nothing_seen known
  nothing = refl

  given_or_not : verdict_of known t ≡ Theirs → due_of known Theirs ≡ claim ∷ []
      → IsSettled (seen 1) known × (list_all (is_given (seen 2).given) (due_by known (seen 2).spends) ≡ false)
  given_or_not v d = (rw (v, d) refl, rw (v, d) refl)
