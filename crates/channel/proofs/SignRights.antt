-- A signer with the base keys of its side may sign for a commitment at a learnt point.
use Rattle.std.proofs.Common.{◌≡◌, List, ℕ, sym, ap, subst, ◌∙◌, refl}
use Rattle.std.specs.Prelude.{Contains}
use Rattle.keys.specs.declared.bases.Base.TheVariants.{Funding, Htlc}
use Rattle.keys.specs.Derivation.{point_of, base_key, derived_key, revocation_key}
use Rattle.keys.specs.Rights.{Rights, MaySign, own, derived, revoked}
use Rattle.terms.specs.declared.sides.Side.{Side}
use Rattle.terms.specs.declared.sides.Side.TheVariants.{A, B}
use Rattle.terms.specs.declared.agreement.Terms.{Terms}
use Rattle.terms.specs.declared.views.View.{View}
use Rattle.terms.specs.Agreement.{party}
use Rattle.terms.specs.Sides.{other}
use Rattle.commit.specs.Keys.{keys_of}
use Rattle.commit.specs.Commitments.{commitment_of}
use Rattle.channel.specs.declared.commitments.CommitmentState.{CommitmentState}
use Rattle.channel.specs.Tokens.{funding_key, htlc_key}
use Rattle.channel.specs.Keeping.{HasBases, HaveSame}

pub other_twice : (side : Side) → other (other side) ≡ side
other_twice A = refl
other_twice B = refl

pub may_sign_commitment : (terms : Terms) (side : Side) (r : Rights) → (party side terms).bases.funding.bytes ≡ base_key r.seed Funding → MaySign r (party (other (other side)) terms).bases.funding.bytes
may_sign_commitment terms side r h = MaySign.own Funding (ap (λ s. (party s terms).bases.funding.bytes) (other_twice side) ∙ h)

pub may_sign_htlcs : (terms : Terms) (side : Side) (r : Rights) (view : View) (n : ℕ) (point : List ℕ) → HasBases terms side r.seed → Contains r.points point
    → MaySign r (commitment_of terms view (other side) n point).keys.remote_htlc
unfolding commitment_of keys_of
may_sign_htlcs terms side r view n point h c =
    MaySign.derived Htlc point c (ap (λ s. derived_key (party s terms).bases.htlc.bytes point) (other_twice side) ∙ ap (λ k. derived_key k point) h.htlc)

pub may_sign_first : (terms : Terms) (side : Side) (r : Rights) (c : CommitmentState) → c.owner ≡ other side → (party side terms).bases.funding.bytes ≡ base_key r.seed Funding → MaySign r (funding_key terms c)
may_sign_first terms side r c e h = subst (λ o. MaySign r (party (other o) terms).bases.funding.bytes) (sym e) (may_sign_commitment terms side r h)

pub may_sign_rest : (terms : Terms) (side : Side) (r : Rights) (c : CommitmentState) → c.owner ≡ other side → HasBases terms side r.seed → Contains r.points c.point.bytes
    → MaySign r (htlc_key terms c)
may_sign_rest terms side r c e h l =
    subst (λ o. MaySign r (commitment_of terms c.view o c.number c.point.bytes).keys.remote_htlc) (sym e) (may_sign_htlcs terms side r c.view c.number c.point.bytes h l)

-- signers that know the same may sign for the same keys
pub same_rights : (r t : Rights) → r.seed ≡ t.seed → HaveSame r.points t.points → r.secrets ≡ t.secrets → (key : List ℕ) → MaySign r key → MaySign t key
same_rights r t e h s key (own b k) = MaySign.own b (k ∙ ap (λ d. base_key d b) e)
same_rights r t e h s key (derived b point c k) = MaySign.derived b point (h.left point c) (k ∙ ap (λ d. derived_key (base_key d b) point) e)
same_rights r t e h s key (revoked b secret c k) = MaySign.revoked b secret (subst (λ l. Contains l secret) s c) (k ∙ ap (λ d. revocation_key (base_key d b) (point_of secret)) e)
