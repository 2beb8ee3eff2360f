-- Where what is told of a close is told rightly, and where it isn't: a deadline one block on, a claim that is left out, an output that was made in another block or that somebody took.
use Rattle.std.proofs.Common.{◌≡◌, ℕ, suc, ◌+◌, true, false, List, [], ◌∷◌, Option, Some, None, sym, ap, ◌∙◌, refl, subst, arith}
use Rattle.std.proofs.lemmas.Bool.{true≢false}
use Rattle.std.proofs.lemmas.Option.{same_Some}
use Rattle.tx.specs.declared.input.OutPoint.{OutPoint}
use Rattle.tx.specs.Parts.{Output}
use Rattle.chain.specs.Blocks.{Contents as Block, Coin, coin_at}
use Rattle.claim.specs.Claims.{ClaimParts}
use Rattle.penalty.specs.Claimable.{Claimable}
use Rattle.penalty.specs.Sets.{AreClaimsOn}
use Rattle.resolve.specs.declared.verdicts.Verdict.{Verdict}
use Rattle.resolve.specs.declared.known.Known.{Known}
use Rattle.resolve.specs.Due.{due_of}
use Rattle.watch.specs.Verdicts.{verdict_of}
use Rattle.sights.specs.declared.sighted.Sighted.{Sighted}
use Rattle.sights.specs.declared.telling.Told.{Told}
use Rattle.sights.specs.Sights.{made_at, was_taken}
use Rattle.sights.specs.Telling.{told_of, close_of, IsToldBy, IsToldIf, IsTold}
use Rattle.due_laws.specs.Coins.{IsAsRead}

abbrev first_deadline : List Told → Option ℕ
first_deadline [] = None
first_deadline (x ∷ xs) = x.deadline

module _ (ss : List Sighted) (known : Known) (verdict : Verdict) (x : ClaimParts) where
  abbrev told : Told
  told = told_of ss known verdict x

  -- yes: IsToldBy
  one_told : AreClaimsOn (due_of known verdict) (x ∷ []) → IsToldBy ss known verdict (told ∷ [])
  one_told due = record { claims = due; each = refl }

  -- no: IsToldBy
  one_block_on : (height : ℕ) → told.deadline ≡ Some height → IsToldBy ss known verdict (record told { deadline = Some (suc height) } ∷ []) → ⊥
  one_block_on height at is = let same = same_Some (suc height) height (ap first_deadline is.each ∙ at) in omega (arith, same)

module _ (ss : List Sighted) (known : Known) (s : Sighted) where
  -- yes: IsToldIf
  told_by_close : (x : ClaimParts) → AreClaimsOn (due_of known (verdict_of known s.tx)) (x ∷ []) → IsToldIf ss known (Some s) (told_of ss known (verdict_of known s.tx) x ∷ [])
  told_by_close x due = one_told ss known (verdict_of known s.tx) x due

  -- no: IsToldIf
  one_left_out : (o : Claimable) → due_of known (verdict_of known s.tx) ≡ o ∷ [] → IsToldIf ss known (Some s) [] → ⊥
  one_left_out o due is = subst (λ (os : List Claimable). AreClaimsOn os []) due is.claims

  -- yes: IsTold
  told_where_closed : close_of known.terms.funding ss ≡ Some s → (x : ClaimParts) → AreClaimsOn (due_of known (verdict_of known s.tx)) (x ∷ []) → IsTold ss known (told_of ss known (verdict_of known s.tx) x ∷ [])
  told_where_closed at x due = subst (λ (c : Option Sighted). IsToldIf ss known c (told_of ss known (verdict_of known s.tx) x ∷ [])) (sym at) (told_by_close x due)

  -- no: IsTold
  silent_where_closed : close_of known.terms.funding ss ≡ Some s → (o : Claimable) → due_of known (verdict_of known s.tx) ≡ o ∷ [] → IsTold ss known [] → ⊥
  silent_where_closed at o due is = one_left_out o due (subst (λ (c : Option Sighted). IsToldIf ss known c []) at is)

module _ (blocks : List Block) (ss : List Sighted) (o : OutPoint) (output : Output) (at : coin_at blocks o ≡ Some (record { output = output; height = 5; spent = true })) where
  -- yes: IsAsRead
  as_read : made_at o ss ≡ Some 5 → was_taken o ss ≡ true → IsAsRead blocks ss o output
  as_read made taken = record { coin = record { output = output; height = 5; spent = true }; there = at; is = refl; made = made; taken = taken }

  -- no: IsAsRead
  made_before : made_at o ss ≡ Some 4 → IsAsRead blocks ss o output → ⊥
  made_before made is =
      let height = ap (λ (c : Coin). c.height) (same_Some is.coin (record { output = output; height = 5; spent = true }) (sym is.there ∙ at)) in
      let same = same_Some 4 is.coin.height (sym made ∙ is.made) in
      omega (arith, height, same)

  -- no: IsAsRead
  not_taken : was_taken o ss ≡ false → IsAsRead blocks ss o output → ⊥
  not_taken taken is =
      true≢false (sym (ap (λ (c : Coin). c.spent) (same_Some is.coin (record { output = output; height = 5; spent = true }) (sym is.there ∙ at))) ∙ sym is.taken ∙ taken)
