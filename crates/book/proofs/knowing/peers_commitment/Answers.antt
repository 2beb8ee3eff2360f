use Rattle.std.proofs.Common.{arith, ◌≡◌, List, length, Some, refl, sym, ap, ◌∙◌}
use Rattle.std.specs.Prelude.{slice_get, option_map}
use Rattle.std.proofs.lemmas.Option.{slice_get_past, slice_get_read}
use Rattle.terms.specs.declared.agreement.Terms.{Terms}
use Rattle.channel.specs.declared.commitments.CommitmentState.{CommitmentState}
use Rattle.channel.specs.Tokens.{contents_of}
use Rattle.book.proofs.Keeping.{one_at_most, recorded_known}
use Rattle.book.proofs.knowing.peers_commitment.Goals as goal

pub returns-in-Ok-clause-value : goal.returns-in-Ok-clause-value
returns-in-Ok-clause-value c =
    let s = c.args.channel.now in
    let n = c.args.number in
    let cs = c.peers_commitments.result.now in
    let one = c.in-Some.state.now in
    let found : slice_get s.signed n ≡ Some one =
    ap (λ (xs : List CommitmentState). slice_get xs n) (sym c.peers_commitments.ensures.commitments) ∙ slice_get_read cs (length cs) n one refl c.in-Some.ensures.lookup.3.0 c.in-Some.ensures.lookup.1
    in
    ap Some (c.in-Ok.ensures ∙ ap (λ (t : Terms). contents_of t one) c.terms.ensures) ∙ ap (option_map (contents_of s.held.terms)) (sym found)

pub returns-in-None-clause-value : goal.returns-in-None-clause-value
returns-in-None-clause-value c =
    let s = c.args.channel.now in
    let n = c.args.number in
    sym (ap (option_map (contents_of s.held.terms))
    (ap (λ (xs : List CommitmentState). slice_get xs n) (sym c.peers_commitments.ensures.commitments) ∙ slice_get_past c.peers_commitments.result.now n c.in-None.ensures.lookup.3))

pub known_commitment-requires : goal.known_commitment-requires
known_commitment-requires c =
    let n = c.args.number in
    let cs = c.peers_commitments in
    let one = c.in-Some.state.now in
    let within = c.in-Some.ensures.lookup.3.0 in
    let many = cs.ensures.numbered.count in
    let number = c.peer_number-last.ensures.number in
    let bound = c.peer_number-last.ensures.bound in
    recorded_known c.terms.result.now c.args.channel.now.held.terms _ _ n cs.result.now one c.terms.ensures cs.ensures.numbered (slice_get_read cs.result.now (length cs.result.now) n one refl within c.in-Some.ensures.lookup.1) (omega (arith, within, many, number, bound, one_at_most c.args.channel.now.awaiting))
