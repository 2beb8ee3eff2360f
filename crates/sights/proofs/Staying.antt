-- What is told stays told while the close stands.
use Rattle.std.proofs.Common.{◌≡◌, ℕ, Bool, true, false, ◌||◌, List, [], ◌∷◌, ◌++◌, map, reverse, Option, Some, None, sym, ap, ◌∙◌, refl, subst}
use Rattle.std.specs.Prelude.{if◌then◌else◌}
use Rattle.std.specs.List.{find}
use Rattle.std.specs.Option.{option_or, option_and_then}
use Rattle.std.specs.Str.{bytes_eq}
use Rattle.std.proofs.lemmas.List.{reverse-append}
use Rattle.std.proofs.lemmas.Option.{none-some}
use Rattle.tx.specs.declared.input.OutPoint.{OutPoint}
use Rattle.tx.specs.Fields.{Transaction}
use Rattle.tx.specs.Spelling.{transaction_id}
use Rattle.chain.specs.Blocks.{Contents as Block, names}
use Rattle.claim.specs.Claims.{ClaimParts}
use Rattle.penalty.specs.Claimable.{Claimable}
use Rattle.penalty.specs.Sets.{claimed_by, AreClaimsOn}
use Rattle.resolve.specs.declared.known.Known.{Known}
use Rattle.resolve.specs.Due.{due_of}
use Rattle.watch.specs.Verdicts.{verdict_of}
use Rattle.sights.specs.declared.sighted.Sighted.{Sighted}
use Rattle.sights.specs.declared.telling.Told.{Told}
use Rattle.sights.specs.Sights.{sighted_as, stage_by_all, read_block, sights_in, made_by, made_at, was_taken}
use Rattle.sights.specs.Telling.{close_of, IsToldIf, IsTold}
use Rattle.sights.specs.Following.{SightsStay}
use Rattle.sights.proofs.Reading.{IsBelow, itself, onto, read_onto}

-- ---- what was read stays below what is read later

block_onto : (fundings : List OutPoint) (height : ℕ) (ts : List Transaction) (old ss : List Sighted) → IsBelow old ss → IsBelow old (read_block fundings height ts ss)
block_onto fundings height [] old ss b = b
block_onto fundings height (t ∷ ts) old ss b =
    read_onto old (read_block fundings height ts ss) (stage_by_all fundings (read_block fundings height ts ss) t.inputs) height t (block_onto fundings height ts old ss b)

pub stands_below : (fundings : List OutPoint) (newer blocks : List Block) → IsBelow (sights_in fundings blocks) (sights_in fundings (newer ++ blocks))
stands_below fundings [] blocks = itself
stands_below fundings (n ∷ newer) blocks = block_onto fundings _ n.transactions (sights_in fundings blocks) (sights_in fundings (newer ++ blocks)) (stands_below fundings newer blocks)

-- ---- so it is found again

same_as : (x y : Option Sighted) (s : Sighted) → x ≡ Some s → option_or x y ≡ Some s
same_as None y s e = absurd (none-some s e)
same_as (Some z) y s e = e

pub sighted_later : (id : List ℕ) (old ss : List Sighted) → IsBelow old ss → (s : Sighted) → sighted_as id old ≡ Some s → sighted_as id ss ≡ Some s
sighted_later id old ss itself s e = e
sighted_later id old xs (onto {s} {ss} b) found e = same_as (sighted_as id ss) (if bytes_eq (transaction_id s.tx) id then Some s else None) found (sighted_later id old ss b found e)

made_later : (o : OutPoint) (old ss : List Sighted) → IsBelow old ss → (height : ℕ) → made_at o old ≡ Some height → made_at o ss ≡ Some height
made_later o old ss b height e = by (sighted_as o.txid old) refl e
  where
    by : (x : Option Sighted) → sighted_as o.txid old ≡ x → option_and_then (made_by o) x ≡ Some height → made_at o ss ≡ Some height
    by None at f = absurd (none-some height f)
    by (Some s) at f = ap (option_and_then (made_by o)) (sighted_later o.txid old ss b s at) ∙ f

or_later : (a b : Bool) → b ≡ true → (a || b) ≡ true
or_later true b e = refl
or_later false b e = e

taken_later : (o : OutPoint) (old ss : List Sighted) → IsBelow old ss → was_taken o old ≡ true → was_taken o ss ≡ true
taken_later o old ss itself e = e
taken_later o old xs (onto {s} {ss} b) e = or_later (names o s.tx) (was_taken o ss) (taken_later o old ss b e)

found_first : (p : Sighted → Bool) (xs ys : List Sighted) (s : Sighted) → find p xs ≡ Some s → find p (xs ++ ys) ≡ Some s
found_first p [] ys s e = absurd (none-some s e)
found_first p (x ∷ xs) ys s e = by (p x) refl e (λ f. found_first p xs ys s f)
  where
    by : (t : Bool) → p x ≡ t → (if t then Some x else find p xs) ≡ Some s → (find p xs ≡ Some s → find p (xs ++ ys) ≡ Some s) → (if p x then Some x else find p (xs ++ ys)) ≡ Some s
    by true at f rest = ap (λ (b : Bool). if b then Some x else find p (xs ++ ys)) at ∙ f
    by false at f rest = ap (λ (b : Bool). if b then Some x else find p (xs ++ ys)) at ∙ rest f

close_later : (funding : OutPoint) (old ss : List Sighted) → IsBelow old ss → (s : Sighted) → close_of funding old ≡ Some s → close_of funding ss ≡ Some s
close_later funding old ss itself s e = e
close_later funding old xs (onto {s} {ss} b) found e =
    ap (find (λ (y : Sighted). names funding y.tx)) (reverse-append (s ∷ []) ss) ∙ found_first (λ y. names funding y.tx) (reverse ss) (s ∷ []) found (close_later funding old ss b found e)

-- ---- and the same is told

exact : (os : List Claimable) (cs : List ClaimParts) → AreClaimsOn os cs → map claimed_by cs ≡ os
exact [] [] a = refl
exact [] (c ∷ cs) a = absurd a
exact (o ∷ os) [] a = absurd a
exact (o ∷ os) (c ∷ cs) (i, a) = ap (λ y. y ∷ map claimed_by cs) i.exact ∙ ap (λ ys. o ∷ ys) (exact os cs a)

each_claimed : (told : List Told) → map (λ x. claimed_by x.claim) told ≡ map claimed_by (map (λ x. x.claim) told)
each_claimed [] = refl
each_claimed (x ∷ xs) = ap (λ ys. claimed_by x.claim ∷ ys) (each_claimed xs)

pub claims_by : (ss : List Sighted) (known : Known) (s : Sighted) (told : List Told) → close_of known.terms.funding ss ≡ Some s → IsTold ss known told → map (λ x. claimed_by x.claim) told ≡ due_of known (verdict_of known s.tx)
claims_by ss known s told at is =
    let by = subst (λ (x : Option Sighted). IsToldIf ss known x told) at is in
    each_claimed told ∙ exact (due_of known (verdict_of known s.tx)) (map (λ x. x.claim) told) by.claims

pub sights_stay : SightsStay
sights_stay fundings newer blocks known s at before after is later =
    let b = stands_below fundings newer blocks in
    record {
      claims = claims_by (sights_in fundings (newer ++ blocks)) known s after (close_later known.terms.funding (sights_in fundings blocks) (sights_in fundings (newer ++ blocks)) b s at) later
          ∙ sym (claims_by (sights_in fundings blocks) known s before at is);
      made = λ o height e. made_later o (sights_in fundings blocks) (sights_in fundings (newer ++ blocks)) b height e;
      taken = λ o e. taken_later o (sights_in fundings blocks) (sights_in fundings (newer ++ blocks)) b e;
    }
