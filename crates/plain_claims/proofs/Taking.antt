-- The results of `parse`, `check` and `accept`, against the definition of an accepted claim.
use Rattle.std.proofs.Common.{◌≡◌, ℕ, List, [], ◌∷◌, ◌++◌, true, Option, Some, None, Result, Ok, Err, refl, sym, ap, ◌∙◌, subst, append_assoc, append-nil}
use Rattle.std.specs.Prelude.{is_ok, IsTrue}
use Rattle.script.specs.declared.opcode.Op.{Op}
use Rattle.script.specs.declared.parse.ParseError.{ParseError}
use Rattle.script.specs.declared.parse.ParseError.TheVariants as parses
use Rattle.script.specs.Spelling.{IsFault}
use Rattle.script.proofs.Unique.{no_reading}
use Rattle.paths.specs.declared.errors.CheckError.{CheckError}
use Rattle.paths.specs.declared.errors.CheckError.TheVariants as checks
use Rattle.paths.specs.declared.state.Path.{Path}
use Rattle.paths.specs.Listing.{CheckedScript, listing}
use Rattle.paths.specs.Outcome.{IsRefusal as IsUnlisted}
use Rattle.claim.specs.declared.errors.AcceptError.{AcceptError}
use Rattle.claim.specs.declared.errors.AcceptError.TheVariants as accepts
use Rattle.claim.specs.Judgement.{judgement_of, bare_shell}
use Rattle.claim.specs.Fitting.{IsRefusal}
use Rattle.claim.specs.Claims.{ClaimParts, IsAcceptedOf}
use Rattle.claim.specs.Opcodes.{◌>>=◌, ops_of}
use Rattle.claim.proofs.OpcodesRead.{is_read}
use Rattle.texts.specs.declared.claims.PlainClaim.{PlainClaim}
use Rattle.plain_claims.specs.declared.errors.ClaimError.{ClaimError}
use Rattle.plain_claims.specs.declared.errors.ClaimError.TheVariants as claims
use Rattle.plain_claims.specs.Claims.{Takes, checked_of, claim_of, claims_of}

-- bytes with a fault are not a script
pub none_read : (bytes : List ℕ) (e : ParseError) → IsFault bytes e → (e ≡ parses.NoMemory → ⊥) → ops_of bytes ≡ None
none_read bytes e fault other = go (ops_of bytes) refl
  where
    go : (o : Option (List Op)) → ops_of bytes ≡ o → ops_of bytes ≡ None
    go None is = is
    go (Some ops) is = let r = is_read ops bytes is in absurd (other (no_reading ops bytes e r.spells r.short fault))

-- ---- checked scripts

unlisted : (ops : List Op) (e : CheckError) → IsUnlisted ops e → (e ≡ checks.NoMemory → ⊥) → listing ops ≡ Err e
unlisted ops checks.NoMemory h other = absurd (other refl)
unlisted ops checks.OpenBranch h other = h
unlisted ops checks.TooManyOps h other = h
unlisted ops (checks.Undecided at) h other = h
unlisted ops checks.TooManyPaths h other = h
unlisted ops checks.TooTall h other = h

pub none_listed : (bytes : List ℕ) (ops : List Op) (e : CheckError) → ops_of bytes ≡ Some ops → IsUnlisted ops e → (e ≡ checks.NoMemory → ⊥) → checked_of bytes ≡ None
unfolding checked_of
none_listed bytes ops e read refusal other = rw (read, unlisted ops e refusal other) refl

pub is_listed : (bytes : List ℕ) (ops : List Op) (c : CheckedScript) → ops_of bytes ≡ Some ops → c.ops ≡ ops → listing ops ≡ Ok c.paths → checked_of bytes ≡ Some c
unfolding checked_of
is_listed bytes ops c read same paths = rw (read, paths) (ap (λ o. Some (record { ops = o; paths = c.paths })) (sym same))

pub none_spelt : (bytes : List ℕ) → ops_of bytes ≡ None → checked_of bytes ≡ None
unfolding checked_of
none_spelt bytes none = rw none refl

-- ---- claims

unjudged : (judgement : Result Path AcceptError) (e : AcceptError) → IsRefusal judgement e → (e ≡ accepts.NoMemory → ⊥) → judgement ≡ Err e
unjudged judgement accepts.NoMemory h other = absurd (other refl)
unjudged judgement accepts.NoSuchPath h other = h
unjudged judgement accepts.WrongArity h other = h
unjudged judgement (accepts.Unmet stated) h other = h
unjudged judgement accepts.Contradiction h other = h
unjudged judgement accepts.WrongProgram h other = h
unjudged judgement accepts.WrongShell h other = h

pub none_checked : (p : PlainClaim) → checked_of p.script ≡ None → claim_of p ≡ None
unfolding claim_of
none_checked p none = rw none refl

pub none_accepted : (p : PlainClaim) (ways : CheckedScript) (e : AcceptError) → checked_of p.script ≡ Some ways
    → IsRefusal (judgement_of ways p.path p.slots p.place (bare_shell p.shell)) e → (e ≡ accepts.NoMemory → ⊥) → claim_of p ≡ None
unfolding claim_of
none_accepted p ways e checked refusal other = rw (checked, unjudged _ e refusal other) refl

pub is_taken : (p : PlainClaim) (ways : CheckedScript) (c : ClaimParts) → checked_of p.script ≡ Some ways → IsAcceptedOf ways p.path p.slots p.place p.shell c → claim_of p ≡ Some c
unfolding claim_of
is_taken p ways c checked h =
    let judged : is_ok (judgement_of ways p.path p.slots p.place (bare_shell p.shell)) ≡ true = subst (λ (d : ClaimParts). IsTrue (is_ok (judgement_of d.ways d.index d.slots d.place d.shell))) h.same h.accepted in
    rw (checked, judged) (ap Some (sym h.same))

pub script_refused : (p : PlainClaim) (e : ClaimError) → Takes {A = CheckedScript} (Err e) (checked_of p.script) → Takes {A = ClaimParts} (Err e) (claim_of p)
script_refused p claims.NoMemory h = tt
script_refused p claims.BadClaim h = none_checked p h

-- ---- lists of claims

abbrev onto : List ClaimParts → Option (List ClaimParts) → Option (List ClaimParts)
onto done (Some claims) = Some (done ++ claims)
onto done None = None

-- these claims were taken, and those plain ones are left
abbrev pub SoFar : List PlainClaim → List ClaimParts → List PlainClaim → Type 0
SoFar whole done left = claims_of whole ≡ onto done (claims_of left)

pub none_taken : (whole : List PlainClaim) → SoFar whole [] whole
none_taken whole = go (claims_of whole)
  where
    go : (o : Option (List ClaimParts)) → o ≡ onto [] o
    go (Some claims) = refl
    go None = refl

pub one_taken : (whole left : List PlainClaim) (done : List ClaimParts) (p : PlainClaim) (c : ClaimParts) → SoFar whole done (p ∷ left) → claim_of p ≡ Some c → SoFar whole (done ++ c ∷ []) left
unfolding claims_of
one_taken whole left done p c so_far taken = so_far ∙ rw taken (go (claims_of left))
  where
    go : (o : Option (List ClaimParts)) → onto done (o >>= (λ cs. Some (c ∷ cs))) ≡ onto (done ++ c ∷ []) o
    go (Some cs) = ap Some (sym (append_assoc done (c ∷ []) cs))
    go None = refl

pub one_refused : (whole left : List PlainClaim) (done : List ClaimParts) (p : PlainClaim) (e : ClaimError) → SoFar whole done (p ∷ left)
    → Takes {A = ClaimParts} (Err e) (claim_of p) → Takes {A = List ClaimParts} (Err e) (claims_of whole)
unfolding claims_of
one_refused whole left done p claims.NoMemory so_far h = tt
one_refused whole left done p claims.BadClaim so_far h = so_far ∙ rw h refl

pub all_taken : (whole : List PlainClaim) (done : List ClaimParts) → SoFar whole done [] → claims_of whole ≡ Some done
unfolding claims_of
all_taken whole done so_far = so_far ∙ ap Some (append-nil done)
