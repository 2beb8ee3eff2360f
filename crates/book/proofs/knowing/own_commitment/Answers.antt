use Rattle.std.proofs.Common.{arith, ◌≡◌, List, length, Some, refl, sym, ap, ◌∙◌}
use Rattle.std.specs.Prelude.{slice_get}
use Rattle.std.proofs.lemmas.Option.{slice_get_read}
use Rattle.channel.specs.declared.commitments.CommitmentState.{CommitmentState}
use Rattle.book.proofs.Keeping.{recorded_known}
use Rattle.book.proofs.Recorded.{own_is, tokens_are}
use Rattle.book.proofs.knowing.own_commitment.Goals as goal

pub returns-in-Some-tokens : goal.returns-in-Some-tokens
returns-in-Some-tokens c =
    let s = c.args.channel.now in
    let n = c.args.number in
    let cs = c.own_commitments.result.now in
    let one = c.in-Some.state.now in
    let found : slice_get s.mine n ≡ Some one =
    ap (λ (xs : List CommitmentState). slice_get xs n) (sym c.own_commitments.ensures.commitments) ∙ slice_get_read cs (length cs) n one refl c.in-Some.ensures.lookup.3.0 c.in-Some.ensures.lookup.1
    in
    own_is s c.terms.result.now n one c.signed_by.result c.terms.ensures found c.signed_by.ensures

pub signed_by-requires-clause-tokens : goal.signed_by-requires-clause-tokens
signed_by-requires-clause-tokens c =
    let s = c.args.channel.now in
    let n = c.args.number in
    let cs = c.own_commitments.result.now in
    let one = c.in-Some.state.now in
    let found : slice_get s.mine n ≡ Some one =
    ap (λ (xs : List CommitmentState). slice_get xs n) (sym c.own_commitments.ensures.commitments) ∙ slice_get_read cs (length cs) n one refl c.in-Some.ensures.lookup.3.0 c.in-Some.ensures.lookup.1
    in
    tokens_are s c.terms.result.now n one c.in-Ok.tokens c.in-Some-tokens.tokens c.terms.ensures found c.in-Ok.ensures c.in-Some-tokens.is

pub signed_by-requires-clause-passed : goal.signed_by-requires-clause-passed
signed_by-requires-clause-passed c =
    let n = c.args.number in
    let cs = c.own_commitments in
    let one = c.in-Some.state.now in
    let within = c.in-Some.ensures.lookup.3.0 in
    let many = cs.ensures.numbered.count in
    let number = c.number-last.ensures.number in
    let bound = c.number-last.ensures.bound in
    recorded_known c.terms.result.now c.args.channel.now.held.terms _ _ n cs.result.now one c.terms.ensures cs.ensures.numbered (slice_get_read cs.result.now (length cs.result.now) n one refl within c.in-Some.ensures.lookup.1) (omega (arith, within, many, number, bound))
