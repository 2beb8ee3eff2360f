-- Tests of which the first are those of the updates, and one more is of what a side fulfilled before.
use Rattle.std.proofs.Common.{◌≡◌, Bool, true, false, List, [], ◌∷◌, ◌++◌, refl, ◌∙◌, Option, Some, None}
use Rattle.updates.specs.declared.errors.ChannelError.{ChannelError}
use Rattle.updates.specs.declared.errors.ChannelError.TheVariants.{NoMemory}
use Rattle.updates.specs.Refusals.{Test, if_so, first_refusal, IsRefusal}
use Rattle.updates.proofs.Accepting.{AllPass, all_pass, none_refuses}

all_front : (xs ys : List Test) → AllPass (xs ++ ys) → AllPass xs
all_front [] ys p = tt
all_front (x ∷ xs) ys p = (p.0, all_front xs ys p.1)

-- what no test of a list refuses, none of its first ones does
pub none_front : (xs ys : List Test) → first_refusal (xs ++ ys) ≡ None → first_refusal xs ≡ None
none_front xs ys e = none_refuses xs (all_front xs ys (all_pass (xs ++ ys) e))

-- where nothing refuses first, the rest decides
pub none_first : (xs ys : List Test) → first_refusal xs ≡ None → first_refusal (xs ++ ys) ≡ first_refusal ys
none_first [] ys e = refl
none_first (t ∷ xs) ys e = by (none_first xs ys) t.0 e
  where
    by : (first_refusal xs ≡ None → first_refusal (xs ++ ys) ≡ first_refusal ys) → (b : Bool) → if_so b t.1 (first_refusal xs) ≡ None → if_so b t.1 (first_refusal (xs ++ ys)) ≡ first_refusal ys
    by later true f = absurd (cc)
    by later false f = later f

pub none_both : (xs ys : List Test) → first_refusal xs ≡ None → first_refusal ys ≡ None → first_refusal (xs ++ ys) ≡ None
none_both xs ys e f = none_first xs ys e ∙ f

some_first : (xs ys : List Test) (r : ChannelError) → first_refusal xs ≡ Some r → first_refusal (xs ++ ys) ≡ Some r
some_first [] ys r e = absurd (cc)
some_first (t ∷ xs) ys r e = by (some_first xs ys r) t.0 e
  where
    by : (first_refusal xs ≡ Some r → first_refusal (xs ++ ys) ≡ Some r) → (b : Bool) → if_so b t.1 (first_refusal xs) ≡ Some r → if_so b t.1 (first_refusal (xs ++ ys)) ≡ Some r
    by later true f = f
    by later false f = later f

named : (first later : Option ChannelError) (r : ChannelError) → (first ≡ Some r → later ≡ Some r) → IsRefusal first r → IsRefusal later r
named first later NoMemory f h = tt
named first later r f h = f h

-- what refuses first refuses
pub refused_first : (xs ys : List Test) (r : ChannelError) → IsRefusal (first_refusal xs) r → IsRefusal (first_refusal (xs ++ ys)) r
refused_first xs ys r h = named (first_refusal xs) (first_refusal (xs ++ ys)) r (some_first xs ys r) h
