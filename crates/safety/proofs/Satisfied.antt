-- Who satisfies the forms: by the listing of their paths.
use Rattle.std.proofs.Common.{◌≡◌, ℕ, zero, suc, ◌<◌, Bool, true, false, List, [], ◌∷◌, length, reverse, sym, refl, subst, inl, inr, arith}
use Rattle.std.specs.Prelude.{◌&&◌, ◌||◌, ◌==◌, if◌then◌else◌}
use Rattle.std.specs.List.{Any}
use Rattle.std.specs.Str.{bytes_eq}
use Rattle.std.proofs.lemmas.Bool.{false≢true, eqb-true}
use Rattle.digest.specs.Hash.{hash160}
use Rattle.script.specs.declared.spending.Spend.{Spend}
use Rattle.script.specs.Token.{token_of, is_key, assigned}
use Rattle.script.specs.Run.{Clean, outcome}
use Rattle.facts.specs.Meaning.{slot_of}
use Rattle.paths.specs.Exhaustive.{SatisfiesBy}
use Rattle.paths.proofs.ForcedWalk.{listing-exhaustive}
use Rattle.terms.specs.Scripts.{is_lesser, two_of_two, to_local, key_hash, offered, received}
use Rattle.forms.specs.Ways.{two_of_two_ways, to_local_ways, key_hash_ways, offered_ways, received_ways}
use Rattle.forms.proofs.Forms.{key_length}
use Rattle.forms.proofs.Listed.{two_of_two-listed, to_local-listed, key_hash-listed, offered-listed, received-listed}
use Rattle.safety.specs.Satisfying.{HasToken, HasKeyOf, HasPreimage, SatisfiesToLocal, ToLocalSatisfied, KeyHashSatisfied, SatisfiesOffered, OfferedSatisfied, SatisfiesReceived, ReceivedSatisfied, OnSatisfied, SatisfiesFunding, FundingSatisfied}
use Rattle.safety.proofs.Slots.{slot_contained, same_bytes, slot_token}

pub to_local_satisfied : ToLocalSatisfied
to_local_satisfied revocation delay_blocks delayed h k l spend witness counted height e =
    opened (listing-exhaustive (to_local revocation delay_blocks delayed) (to_local_ways revocation delay_blocks delayed)
    (to_local-listed revocation delay_blocks delayed h k l (key_length revocation k) (key_length delayed l)) spend witness counted height e)
  where
    opened : Any (SatisfiesBy spend witness counted height) (to_local_ways revocation delay_blocks delayed) → SatisfiesToLocal revocation delay_blocks delayed spend witness
    opened (zero, y, i, f, p) =
        let o = subst (SatisfiesBy spend witness counted height) (sym f) p in
        inl (slot_token spend witness 1 revocation (omega (arith, o.meets.exact)) o.meets.holds.1.1.0)
    opened (suc zero, y, i, f, p) =
        let o = subst (SatisfiesBy spend witness counted height) (sym f) p in
        inr (slot_token spend witness 1 delayed (omega (arith, o.meets.exact)) o.meets.holds.1.1.1.0, o.meets.holds.1.0)
    opened (suc (suc n), y, i, f, p) = absurd (omega (arith, i))

-- a key in a slot, of a hash, whose token is in another slot
key_in : (spend : Spend) (witness : List (List ℕ)) (hash : List ℕ) → length witness ≡ 2 → bytes_eq (hash160 (slot_of (reverse witness) 0)) hash ≡ true → is_key (slot_of (reverse witness) 0) ≡ true
    → bytes_eq (slot_of (reverse witness) 1) (token_of (slot_of (reverse witness) 0) spend.digest) ≡ true → HasKeyOf spend witness hash
key_in spend witness hash n e k f = record {
  key = slot_of (reverse witness) 0;
  given = slot_contained witness 0 (omega (arith, n));
  form = k;
  hashed = same_bytes (hash160 (slot_of (reverse witness) 0)) hash e;
  token = slot_token spend witness 1 (slot_of (reverse witness) 0) (omega (arith, n)) f;
}

-- a preimage in a slot
preimage_in : (witness : List (List ℕ)) (hash : List ℕ) → 0 < length witness → (length (slot_of (reverse witness) 0) == 32) ≡ true → bytes_eq (hash160 (slot_of (reverse witness) 0)) hash ≡ true → HasPreimage witness hash
preimage_in witness hash n s e = record {
  preimage = slot_of (reverse witness) 0;
  given = slot_contained witness 0 n;
  size = eqb-true (length (slot_of (reverse witness) 0)) 32 s;
  hashed = same_bytes (hash160 (slot_of (reverse witness) 0)) hash e;
}

pub key_hash_satisfied : KeyHashSatisfied
key_hash_satisfied hash n spend witness counted height e = opened (listing-exhaustive (key_hash hash) (key_hash_ways hash) (key_hash-listed hash n) spend witness counted height e)
  where
    opened : Any (SatisfiesBy spend witness counted height) (key_hash_ways hash) → HasKeyOf spend witness hash
    opened (zero, y, i, f, p) =
        let o = subst (SatisfiesBy spend witness counted height) (sym f) p in
        key_in spend witness hash o.meets.exact o.meets.holds.0 o.meets.holds.1.0 o.meets.holds.1.1.1.0
    opened (suc n, y, i, f, p) = absurd (omega (arith, i))

-- two tokens of two keys, in the order of the keys
both_assigned : (s t k l digest : List ℕ) → assigned (s ∷ t ∷ []) (k ∷ l ∷ []) digest ≡ true → (bytes_eq s (token_of k digest) ≡ true) × (bytes_eq t (token_of l digest) ≡ true)
both_assigned s t k l digest e = by (bytes_eq s (token_of k digest)) (bytes_eq t (token_of l digest)) (bytes_eq s (token_of l digest)) e
  where
    by : (a b c : Bool) → ((a && ((b && true) || false)) || ((c && false) || false)) ≡ true → (a ≡ true) × (b ≡ true)
    by true true c e = (refl, refl)
    by true false true e = absurd (false≢true e)
    by true false false e = absurd (false≢true e)
    by false b true e = absurd (false≢true e)
    by false b false e = absurd (false≢true e)

-- the tokens of both keys, in their slots
both_tokens : (spend : Spend) (witness : List (List ℕ)) (remote local : List ℕ) → length witness ≡ 4
    → assigned (slot_of (reverse witness) 2 ∷ slot_of (reverse witness) 1 ∷ []) (remote ∷ local ∷ []) spend.digest ≡ true → HasToken spend witness remote × HasToken spend witness local
both_tokens spend witness remote local n e =
    let b = both_assigned (slot_of (reverse witness) 2) (slot_of (reverse witness) 1) remote local spend.digest e in
    (slot_token spend witness 2 remote (omega (arith, n)) b.0, slot_token spend witness 1 local (omega (arith, n)) b.1)

pub offered_satisfied : OfferedSatisfied
offered_satisfied revocation_hash remote local payment_hash m n k l spend witness counted height e =
    opened (listing-exhaustive (offered revocation_hash remote local payment_hash) (offered_ways revocation_hash remote local payment_hash)
    (offered-listed revocation_hash remote local payment_hash k l (key_length remote k) (key_length local l) m n) spend witness counted height e)
  where
    opened : Any (SatisfiesBy spend witness counted height) (offered_ways revocation_hash remote local payment_hash) → SatisfiesOffered revocation_hash remote local payment_hash spend witness
    opened (zero, y, i, f, p) =
        let o = subst (SatisfiesBy spend witness counted height) (sym f) p in
        inl (key_in spend witness revocation_hash o.meets.exact o.meets.holds.0 o.meets.holds.1.0 o.meets.holds.1.1.1.0)
    opened (suc zero, y, i, f, p) =
        let o = subst (SatisfiesBy spend witness counted height) (sym f) p in
        let b = both_tokens spend witness remote local o.meets.exact o.meets.holds.1.1.1.1.1.0 in
        inr (b.0, inl b.1)
    opened (suc (suc zero), y, i, f, p) =
        let o = subst (SatisfiesBy spend witness counted height) (sym f) p in
        inr (slot_token spend witness 1 remote (omega (arith, o.meets.exact)) o.meets.holds.1.1.1.1.0, inr (preimage_in witness payment_hash (omega (arith, o.meets.exact)) o.meets.holds.1.0 o.meets.holds.1.1.0))
    opened (suc (suc (suc j)), y, i, f, p) = absurd (omega (arith, i))

pub received_satisfied : ReceivedSatisfied
received_satisfied revocation_hash remote local payment_hash expiry_height h m n k l spend witness counted height e =
    opened (listing-exhaustive (received revocation_hash remote local payment_hash expiry_height) (received_ways revocation_hash remote local payment_hash expiry_height)
    (received-listed revocation_hash remote local payment_hash expiry_height h k l (key_length remote k) (key_length local l) m n) spend witness counted height e)
  where
    opened : Any (SatisfiesBy spend witness counted height) (received_ways revocation_hash remote local payment_hash expiry_height) → SatisfiesReceived revocation_hash remote local payment_hash expiry_height spend witness
    opened (zero, y, i, f, p) =
        let o = subst (SatisfiesBy spend witness counted height) (sym f) p in
        inl (key_in spend witness revocation_hash o.meets.exact o.meets.holds.0 o.meets.holds.1.0 o.meets.holds.1.1.1.0)
    opened (suc zero, y, i, f, p) =
        let o = subst (SatisfiesBy spend witness counted height) (sym f) p in
        let b = both_tokens spend witness remote local o.meets.exact o.meets.holds.1.1.1.1.1.1.0 in
        inr (b.0, inl (b.1, preimage_in witness payment_hash (omega (arith, o.meets.exact)) o.meets.holds.1.0 o.meets.holds.1.1.0))
    opened (suc (suc zero), y, i, f, p) =
        let o = subst (SatisfiesBy spend witness counted height) (sym f) p in
        inr (slot_token spend witness 1 remote (omega (arith, o.meets.exact)) o.meets.holds.1.1.1.1.0, inr o.meets.holds.1.1.0)
    opened (suc (suc (suc j)), y, i, f, p) = absurd (omega (arith, i))

-- ---- the funding output

pub two_satisfied : (first second : List ℕ) → is_key first ≡ true → is_key second ≡ true → OnSatisfied (two_of_two first second) (SatisfiesFunding first second)
two_satisfied first second k l spend witness counted height e =
    opened (listing-exhaustive (two_of_two first second) (two_of_two_ways first second) (two_of_two-listed first second k l (key_length first k) (key_length second l)) spend witness counted height e)
  where
    opened : Any (SatisfiesBy spend witness counted height) (two_of_two_ways first second) → SatisfiesFunding first second spend witness
    opened (zero, y, i, f, p) =
        let o = subst (SatisfiesBy spend witness counted height) (sym f) p in
        let b = both_assigned (slot_of (reverse witness) 1) (slot_of (reverse witness) 0) first second spend.digest o.meets.holds.1.1.1.0 in
        (slot_token spend witness 1 first (omega (arith, o.meets.exact)) b.0, slot_token spend witness 0 second (omega (arith, o.meets.exact)) b.1)
    opened (suc n, y, i, f, p) = absurd (omega (arith, i))

pub funding_satisfied : FundingSatisfied
funding_satisfied first second k l spend witness counted height e = by_order (is_lesser second first) e
  where
    by_order : (b : Bool) → outcome spend (if b then two_of_two second first else two_of_two first second) witness ≡ Clean counted height → SatisfiesFunding first second spend witness
    by_order true h = let r = two_satisfied second first l k spend witness counted height h in (r.1, r.0)
    by_order false h = two_satisfied first second k l spend witness counted height h
