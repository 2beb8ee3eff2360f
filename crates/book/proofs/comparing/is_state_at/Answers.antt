use Rattle.std.proofs.Common.{◌≡◌, List, Some, length, refl, sym, ap, ◌∙◌, subst}
use Rattle.std.specs.Prelude.{slice_get}
use Rattle.std.specs.Bool.{Decides}
use Rattle.std.proofs.lemmas.Option.{slice_get_past, slice_get_read}
use Rattle.terms.specs.declared.agreement.Terms.{Terms}
use Rattle.terms.specs.declared.sides.Side.{Side}
use Rattle.terms.specs.Sides.{other}
use Rattle.penalty.specs.States.{HasParts}
use Rattle.channel.specs.declared.commitments.CommitmentState.{CommitmentState}
use Rattle.book.proofs.SameStates.{no_commitment_at, no_secret_at, never, state_decides}
use Rattle.book.proofs.comparing.is_state_at.Goals as goal

pub returns : goal.returns
returns c =
    let s = c.args.channel.now in
    let n = c.args.number in
    let one = c.in-Some.commitment.now in
    let secret = c.in-Some-peers_secret.secret in
    let state = c.args.state.now in
    let yes = c.has_parts.result in
    let cs = c.peers_commitments-commitments.result.now in
    let there = slice_get_read cs (length cs) n one refl c.in-Some.ensures.lookup.3.0 c.in-Some.ensures.lookup.1 in
    let found = ap (λ (xs : List CommitmentState). slice_get xs n) (sym c.peers_commitments-commitments.ensures.commitments) ∙ there in
    let revealed : slice_get s.secrets n ≡ Some secret = sym c.in-Some-peers_secret.ensures in
    let by_side = subst (λ (o : Side). Decides yes (HasParts c.terms.result.now one.view o one.number secret state)) (c.other-owner.ensures ∙ ap other c.side.ensures) c.has_parts.ensures in
    let by_terms = subst (λ (t : Terms). Decides yes (HasParts t one.view (other s.held.side) one.number secret state)) c.terms.ensures by_side in
    state_decides s _ _ _ n cs one secret state yes c.peers_commitments-commitments.ensures.numbered there found revealed by_terms

pub returns-in-None : goal.returns-in-None
returns-in-None c =
    let n = c.args.number in
    let cs = c.peers_commitments-commitments in
    never (no_commitment_at c.args.channel.now n c.args.state.now (ap (λ (xs : List CommitmentState). slice_get xs n) (sym cs.ensures.commitments) ∙ slice_get_past cs.result.now n c.in-None.ensures.lookup.3))

pub returns-in-None-peers_secret : goal.returns-in-None-peers_secret
returns-in-None-peers_secret c = never (no_secret_at c.args.channel.now c.args.number c.args.state.now (sym c.in-None-peers_secret.ensures))
