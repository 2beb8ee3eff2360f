-- The refusals by their numbers, and what a contract says of the first of them.
use Rattle.std.specs.Prelude.{◌≡◌, ℕ, Option, Some, None, Result, MatchResult}
use Rattle.terms.specs.declared.errors.TermsError.{TermsError}
use Rattle.terms.specs.declared.errors.TermsError.TheVariants.{BadTerms}

-- there is no 0 (out of memory): terms allocate nothing
abbrev pub refusal_number : TermsError → ℕ
refusal_number BadTerms = 1

-- a result is Ok where nothing is refused first, and else an error that is this refusal
abbrev pub OkUnless : {A E R : Type 0} → Result A E → Option R → (Option R → E → Type 0) → Type 0
OkUnless result first IsRefusal = MatchResult result (λ _. first ≡ None) (IsRefusal first)

-- just the first refusal
abbrev pub IsFirst : {R : Type 0} → Option R → R → Type 0
IsFirst first r = first ≡ Some r
