-- One test of a node's channels and of a chain: the chain passes its own tests, the node gave out the tokens of its keys that stand there, and no two strings have one hash. So one computation shows what the laws on
-- one node against everybody ask of a chain, and that none of their cases holds by a collision.
use Rattle.std.proofs.Common.{◌≡◌, Bool, true, false, not, List, refl}
use Rattle.std.specs.Prelude.{◌&&◌, ◌==◌}
use Rattle.std.specs.List.{list_all}
use Rattle.std.specs.Str.{bytes_eq}
use Rattle.std.proofs.lemmas.Bool.{false≢true, and_parts, eqb-true}
use Rattle.chain.specs.Blocks.{Contents as Block, grant_id, grants_in, has_id}
use Rattle.chain.specs.Checked.{is_checked}
use Rattle.chain.specs.Conserving.{GrantsAreApart}
use Rattle.safety.specs.Holdings.{Release, claim_signed, Holding, EachKeepsRules}
use Rattle.safety.specs.Premises.{are_own}
use Rattle.safety.specs.Breaks.{Breaks}
use Rattle.safety.specs.Closers.{IsWatched}
use Rattle.safety.proofs.Worked.{all_fit, signed_fits, two_grants, watched}
use Rattle.safety.proofs.Unbroken.{is_unbroken, unbroken}

-- two grants, whose ids are no others'
abbrev pub grants_apart : List Block → Bool
grants_apart blocks = grants_in blocks == 2 && (not (bytes_eq (grant_id 0) (grant_id 1)) && (not (has_id blocks (grant_id 0)) && not (has_id blocks (grant_id 1))))

abbrev pub is_sound : List Block → Bool
is_sound blocks = is_checked blocks && (all_fit blocks && grants_apart blocks)

abbrev pub is_worked : List Holding → List Block → Bool
is_worked hs blocks = is_sound blocks && (are_own hs blocks && is_unbroken hs blocks)

-- what is signed for the claims of a release fits into its bytes
abbrev pub fits : Release → Bool
fits r = list_all (λ x. signed_fits (claim_signed r x)) r.claims

pub no : (b : Bool) → not b ≡ true → b ≡ false
no false e = refl
no true e = absurd (false≢true e)

pub grants_differ : (blocks : List Block) → grants_apart blocks ≡ true → bytes_eq (grant_id 0) (grant_id 1) ≡ false
grants_differ blocks e =
    let a = and_parts (grants_in blocks == 2) _ e in
    let b = and_parts (not (bytes_eq (grant_id 0) (grant_id 1))) _ a.1 in
    no (bytes_eq (grant_id 0) (grant_id 1)) b.0

are_apart : (blocks : List Block) → grants_apart blocks ≡ true → GrantsAreApart blocks
are_apart blocks e =
    let a = and_parts (grants_in blocks == 2) _ e in
    let b = and_parts (not (bytes_eq (grant_id 0) (grant_id 1))) _ a.1 in
    let c = and_parts (not (has_id blocks (grant_id 0))) (not (has_id blocks (grant_id 1))) b.1 in
    two_grants blocks (eqb-true (grants_in blocks) 2 a.0) (no (bytes_eq (grant_id 0) (grant_id 1)) b.0) (no (has_id blocks (grant_id 0)) c.0) (no (has_id blocks (grant_id 1)) c.1)

-- of a sound chain
pub differ : (blocks : List Block) → is_sound blocks ≡ true → bytes_eq (grant_id 0) (grant_id 1) ≡ false
differ blocks e =
    let a = and_parts (is_checked blocks) (all_fit blocks && grants_apart blocks) e in
    grants_differ blocks (and_parts (all_fit blocks) (grants_apart blocks) a.1).1

pub is_watched : (hs : List Holding) (blocks : List Block) → EachKeepsRules hs → is_worked hs blocks ≡ true → IsWatched hs blocks
is_watched hs blocks kept e =
    let a = and_parts (is_sound blocks) (are_own hs blocks && is_unbroken hs blocks) e in
    let b = and_parts (is_checked blocks) (all_fit blocks && grants_apart blocks) a.0 in
    let c = and_parts (all_fit blocks) (grants_apart blocks) b.1 in
    watched hs blocks kept b.0 c.0 (are_apart blocks c.1) (and_parts (are_own hs blocks) (is_unbroken hs blocks) a.1).0

pub nothing_breaks : (hs : List Holding) (blocks : List Block) → is_worked hs blocks ≡ true → Breaks hs blocks → ⊥
nothing_breaks hs blocks e =
    unbroken hs blocks (and_parts (are_own hs blocks) (is_unbroken hs blocks) (and_parts (is_sound blocks) (are_own hs blocks && is_unbroken hs blocks) e).1).1
