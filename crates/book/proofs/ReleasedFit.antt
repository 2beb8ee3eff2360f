-- Each input of a release's filling fits its claim.
use Rattle.std.proofs.Common.{◌≡◌, true, List, [], ◌∷◌, reverse, ⊎_elim, sym, ap, ◌∙◌, arith, Contains}
use Rattle.std.specs.Prelude.{slice_get}
use Rattle.std.specs.List.{AllByRecursion}
use Rattle.std.proofs.lemmas.Bool.{and_parts}
use Rattle.std.proofs.lemmas.List.Elements.{Contains-append_cases, All-contains, All-from_recursion}
use Rattle.claim.specs.Claims.{IsWhole}
use Rattle.filling.specs.Filled.{FillingsFit}
use Rattle.channel.specs.Rights.{rights_of}
use Rattle.channel.specs.States.{Signing}
use Rattle.book.specs.declared.calls.Call.TheVariants.{Release}
use Rattle.book.specs.declared.calls.Entry.{Entry}
use Rattle.book.specs.Books.{replayed}
use Rattle.book.specs.Accepted.{is_taken, are_accepted, claims_by, AreWhole}
use Rattle.book.specs.Releasing.{ReleasesFit}
use Rattle.book.proofs.Accepting.{asked_ok, unless_ok}
use Rattle.book.proofs.Refusing.{refusals_are_found}
use Rattle.book.proofs.KeptReleases.{only_one, in_reverse}

-- the claims of an entry are whole
pub whole_at : (history : List Entry) (e : Entry) → AreWhole history → Contains history e → AllByRecursion IsWhole (claims_by e.call)
whole_at history e all there = All-contains (λ (e : Entry). AllByRecursion IsWhole (claims_by e.call)) history e (All-from_recursion (λ (e : Entry). AllByRecursion IsWhole (claims_by e.call)) history all) there

-- an entry of accepted ones was accepted after some of them
record IsTakenAfter (tokens_of : Signing) (e : Entry) : Type 0 where
  before : List Entry
  taken : is_taken tokens_of before e ≡ true

taken_after : (tokens_of : Signing) (es : List Entry) (e : Entry) → are_accepted tokens_of es ≡ true → Contains es e → IsTakenAfter tokens_of e
taken_after tokens_of [] e ok there = absurd (omega (arith, there.1))
taken_after tokens_of (x ∷ es) e ok there = ⊎_elim
    (λ here. record { before = es; taken = ap (is_taken tokens_of es) (sym (only_one x e here)) ∙ parts.0 })
    (λ older. taken_after tokens_of es e parts.1 older)
    (Contains-append_cases (x ∷ []) es e there)
  where
    parts : (is_taken tokens_of es x ≡ true) × (are_accepted tokens_of es ≡ true)
    parts = and_parts (is_taken tokens_of es x) (are_accepted tokens_of es) ok

pub releases_fit : FillingsFit → ReleasesFit
releases_fit fits tokens_of history seat c batch ok whole there =
    let entry : Entry = record { seat = seat; call = Release c batch } in
    let t = taken_after tokens_of (reverse history) entry ok (in_reverse history entry there) in
    let found = asked_ok _ (slice_get (replayed t.before) c) _ t.taken in
    let free = refusals_are_found.only batch.claims batch.outputs (rights_of found.0.state) batch.preimages (unless_ok _ _ _ found.2) in
    fits batch.claims batch.outputs (rights_of found.0.state) batch.preimages (whole_at history entry whole there) free.0 free.1
