-- Numbers of commitments and the list of revoked ones, by BOLT 3's 48 bits: the greatest number is 281,474,976,710,655.
use Rattle.std.proofs.Common.{◌≡◌, zero, suc, Bool, true, false, ◌&&◌, ◌==◌, map, List, [], ◌∷◌, length, Some, refl, sym, ap, ◌∙◌, arith}
use Rattle.std.specs.Prelude.{option_map}
use Rattle.script.specs.Token.{token_of}
use Rattle.terms.specs.declared.sides.Side.TheVariants.{A, B}
use Rattle.terms.specs.declared.agreement.Terms.{Terms}
use Rattle.terms.specs.declared.views.View.{View}
use Rattle.commit.specs.Commitments.{Contents}
use Rattle.commit.specs.Signing.{commitment_digest}
use Rattle.penalty.specs.Paying.{refusal_of as view_refusal_of}
use Rattle.resolve.specs.declared.errors.KnownError.TheVariants.{NoMemory, TooManyHtlcs, ExpiryTooLarge, WrongTotal, BadSignature, NumberTooLarge}
use Rattle.resolve.specs.declared.errors.RevokedError.TheVariants.{NoMemory as NoRoom, WrongNumber}
use Rattle.resolve.specs.declared.known.RevokedCommitment.{RevokedCommitment}
use Rattle.resolve.specs.Refusals.{refusal_number, refusal_by, push_refusal_number}
use Rattle.resolve.specs.Known.{refusal_of, as_kept}
use Rattle.resolve.specs.Signed.{IsCommitmentToken}
use Rattle.resolve.specs.Numbered.{AreNumbered, is_next, with_kept}

numbers : map refusal_number (NoMemory ∷ TooManyHtlcs ∷ ExpiryTooLarge ∷ WrongTotal ∷ BadSignature ∷ NumberTooLarge ∷ []) ≡ 0 ∷ 1 ∷ 2 ∷ 3 ∷ 4 ∷ 5 ∷ []
numbers = refl

push_numbers : map push_refusal_number (NoRoom ∷ WrongNumber ∷ []) ≡ 0 ∷ 1 ∷ []
push_numbers = refl

-- a number is refused first, whatever the view
limit : (terms : Terms) (view : View) → (refusal_of terms view 281474976710656 ≡ Some NumberTooLarge) × (refusal_of terms view 281474976710655 ≡ option_map refusal_by (view_refusal_of terms view))
limit terms view = (refl, refl)

-- the token on a commitment is by the funding key of its owner's peer
of_a : (terms : Terms) (c : Contents) → IsCommitmentToken terms A c (token_of terms.b.bases.funding.bytes (commitment_digest terms c))
of_a terms c = refl

of_b : (terms : Terms) (c : Contents) → IsCommitmentToken terms B c (token_of terms.a.bases.funding.bytes (commitment_digest terms c))
of_b terms c = refl

and_false : (t : Bool) → (t && false) ≡ false
and_false true = refl
and_false false = refl

and_true : (t : Bool) → (t && true) ≡ t
and_true true = refl
and_true false = refl

-- 2^48 is the next number of no list, and 2^48 - 1 that of a list of this length
last : (rs : List RevokedCommitment) → (is_next rs 281474976710656 ≡ false) × (is_next rs 281474976710655 ≡ (281474976710655 == length rs))
last rs = (and_false (281474976710656 == length rs), and_true (281474976710655 == length rs))

some_is : (x y : RevokedCommitment) → Some x ≡ Some y → x ≡ y
some_is x y e = cc

module _ (r s : RevokedCommitment) where
  -- only the next number
  next : map (is_next []) (0 ∷ 1 ∷ []) ≡ true ∷ false ∷ []
  next = refl

  behind_two : map (is_next (r ∷ s ∷ [])) (0 ∷ 1 ∷ 2 ∷ 3 ∷ []) ≡ false ∷ false ∷ true ∷ false ∷ []
  behind_two = refl

  -- the first has number 0
  stand : r.state.number ≡ 0 → s.state.number ≡ 1 → AreNumbered (r ∷ s ∷ [])
  stand e f zero x g = ap (λ (o : RevokedCommitment). o.state.number) (sym (some_is r x g)) ∙ e
  stand e f (suc zero) x g = ap (λ (o : RevokedCommitment). o.state.number) (sym (some_is s x g)) ∙ f
  stand e f (suc (suc i)) x g = absurd (cc)

  not_from_one : r.state.number ≡ 1 → AreNumbered (r ∷ s ∷ []) → ⊥
  not_from_one e h = let n = h 0 r refl in omega (arith, e, n)

  no_gap : s.state.number ≡ 2 → AreNumbered (r ∷ s ∷ []) → ⊥
  no_gap e h = let n = h 1 s refl in omega (arith, e, n)

  -- the one of the number is kept, and no other
  kept : (with_kept (r ∷ s ∷ []) 0 ≡ as_kept r ∷ s ∷ []) × (with_kept (r ∷ s ∷ []) 1 ≡ r ∷ as_kept s ∷ []) × (with_kept (r ∷ s ∷ []) 2 ≡ r ∷ s ∷ [])
  kept = (refl, refl, refl)

  kept_is : ((as_kept r).is_kept ≡ true) × ((as_kept r).state ≡ r.state) × ((as_kept r).id ≡ r.id)
  kept_is = (refl, refl, refl)
