use Rattle.std.proofs.Common.{◌≡◌, false, Some, None, length, refl, sym, ap, ◌∙◌, subst}
use Rattle.std.specs.Prelude.{Bool, IfOk, slice_get}
use Rattle.std.proofs.lemmas.Option.{slice_get_past, slice_get_read}
use Rattle.keys.specs.Derivation.{point_of}
use Rattle.terms.specs.declared.agreement.Terms.{Terms}
use Rattle.terms.specs.declared.sides.Side.{Side}
use Rattle.terms.specs.Sides.{other}
use Rattle.commit.specs.Commitments.{commitment_of}
use Rattle.penalty.specs.Paying.{refusal_of}
use Rattle.book.specs.Penalties.{claimable_in, are_claims_on, is_penalty_set}
use Rattle.book.specs.Books.{ChannelBook}
use Rattle.book.proofs.Keeping.{no_commitment, no_secret, penalties_are, peers_payable}
use Rattle.book.proofs.open_channel.OpenChannel.are_penalties.Goals as goal

pub returns-in-None : goal.returns-in-None
returns-in-None c =
    let n = c.args.number in
    let commitments = c.peers_commitments-commitments.ensures.commitments in
    let none = ap (λ cs. slice_get cs n) (sym commitments) ∙ slice_get_past c.peers_commitments-commitments.result.now n c.in-None.ensures.lookup.3 in
    subst (λ (ch : ChannelBook). false ≡ is_penalty_set ch.state n c.args.claims.now) c.self.view_is (sym (no_commitment c.self.inside.channel n c.args.claims.now none))

pub returns-in-None-peers_secret : goal.returns-in-None-peers_secret
returns-in-None-peers_secret c =
    let n = c.args.number in
    let commitments = c.peers_commitments-commitments.result.now in
    let found =
    ap (λ cs. slice_get cs n) (sym c.peers_commitments-commitments.ensures.commitments)
    ∙ slice_get_read commitments (length commitments) n c.in-Some.commitment.now refl c.in-Some.ensures.lookup.3.0 c.in-Some.ensures.lookup.1
    in
    let none : slice_get c.self.inside.channel.secrets n ≡ None = sym c.in-None-peers_secret.ensures in
    subst (λ (ch : ChannelBook). false ≡ is_penalty_set ch.state n c.args.claims.now) c.self.view_is (sym (no_secret c.self.inside.channel n c.args.claims.now c.in-Some.commitment.now found none))

pub are_penalties-requires : goal.are_penalties-requires
are_penalties-requires c =
    let commitments = c.peers_commitments-commitments.result.now in
    let found = slice_get_read commitments (length commitments) c.args.number c.in-Some.commitment.now refl c.in-Some.ensures.lookup.3.0 c.in-Some.ensures.lookup.1 in
    subst (λ (t : Terms). refusal_of t c.in-Some.commitment.now.view ≡ None) (sym c.terms.ensures) (peers_payable _ _ _ c.args.number _ c.in-Some.commitment.now c.peers_commitments-commitments.ensures.numbered found)

pub returns : goal.returns
returns c =
    let n = c.args.number in
    let one = c.in-Some.commitment.now in
    let secret = c.in-Some-peers_secret.secret in
    let claims = c.args.claims.now in
    let commitments = c.peers_commitments-commitments.result.now in
    let found =
    ap (λ cs. slice_get cs n) (sym c.peers_commitments-commitments.ensures.commitments)
    ∙ slice_get_read commitments (length commitments) n c.in-Some.commitment.now refl c.in-Some.ensures.lookup.3.0 c.in-Some.ensures.lookup.1
    in
    let revealed : slice_get c.self.inside.channel.secrets n ≡ Some secret = sym c.in-Some-peers_secret.ensures in
    let same =
    ap (λ (t : Terms). are_claims_on (claimable_in (commitment_of t one.view c.other-owner.result one.number (point_of secret))) claims) c.terms.ensures
    ∙ ap (λ (o : Side). are_claims_on (claimable_in (commitment_of c.self.inside.channel.held.terms one.view o one.number (point_of secret))) claims) (c.other-owner.ensures ∙ ap other c.side.ensures)
    ∙ sym (penalties_are c.self.inside.channel n claims one secret found revealed)
    ∙ ap (λ (ch : ChannelBook). is_penalty_set ch.state n claims) c.self.view_is
    in
    subst (λ (e : Bool). IfOk c.are_penalties.result (λ b. b ≡ e)) same c.are_penalties.ensures
