-- Terms, shares and states with equal parts are equal, and a test of all parts decides it.
use Rattle.std.proofs.Common.{◌≡◌, ℕ, ◌==◌, ◌&&◌, Bool, false, List, Some, None, sym, ap, ◌∙◌, subst}
use Rattle.std.specs.Prelude.{slice_get}
use Rattle.std.specs.Bool.{Decides}
use Rattle.std.specs.Str.{bytes_eq}
use Rattle.std.proofs.lemmas.Bool.Decides.{Decides-eqb, Decides-and, Decides-like}
use Rattle.std.proofs.lemmas.Option.{none-some, same_Some}
use Rattle.std.proofs.lemmas.Slice.Eq.{bytes_eq-Decides}
use Rattle.tx.specs.declared.input.OutPoint.{OutPoint}
use Rattle.keys.specs.declared.compressed.Key.{Key}
use Rattle.terms.specs.declared.htlcs.Htlc.{Htlc}
use Rattle.terms.specs.declared.sides.Side.{Side}
use Rattle.terms.specs.declared.agreement.BaseKeys.{BaseKeys}
use Rattle.terms.specs.declared.agreement.Party.{Party}
use Rattle.terms.specs.declared.agreement.Terms.{Terms}
use Rattle.terms.specs.declared.views.Share.{Share}
use Rattle.terms.specs.Sides.{other}
use Rattle.penalty.specs.declared.states.RevokedState.{RevokedState}
use Rattle.penalty.specs.States.{HasParts}
use Rattle.channel.specs.declared.commitments.CommitmentState.{CommitmentState}
use Rattle.channel.specs.Numbered.{AreNumbered}
use Rattle.channel.specs.States.{State}
use Rattle.book.specs.Revoked.{IsStateAt}
use Rattle.terms.proofs.Agreed.{same_terms}
use Rattle.book.proofs.SameKeys.{same_key}

abbrev pub key_test : Key → Key → Bool
key_test a b = bytes_eq a.bytes b.bytes

pub key_decides : (a b : Key) → Decides (key_test a b) (a ≡ b)
key_decides a b = Decides-like (key_test a b) (same_key a b) (ap (λ (k : Key). k.bytes)) (bytes_eq-Decides a.bytes b.bytes)

abbrev pub bases_test : BaseKeys → BaseKeys → Bool
bases_test a b = key_test a.funding b.funding && (key_test a.payment b.payment && (key_test a.delayed b.delayed && (key_test a.htlc b.htlc && key_test a.revocation b.revocation)))

pub bases_decides : (a b : BaseKeys) → Decides (bases_test a b) (a ≡ b)
bases_decides a b =
    Decides-like (bases_test a b)
    (λ h. λ i. record { funding = h.0 i; payment = h.1.0 i; delayed = h.1.1.0 i; htlc = h.1.1.1.0 i; revocation = h.1.1.1.1 i })
    (λ e. (ap (λ (x : BaseKeys). x.funding) e, (ap (λ (x : BaseKeys). x.payment) e, (ap (λ (x : BaseKeys). x.delayed) e, (ap (λ (x : BaseKeys). x.htlc) e, ap (λ (x : BaseKeys). x.revocation) e)))))
    (Decides-and _ _ (key_decides a.funding b.funding) (Decides-and _ _ (key_decides a.payment b.payment) (Decides-and _ _ (key_decides a.delayed b.delayed) (Decides-and _ _ (key_decides a.htlc b.htlc)
    (key_decides a.revocation b.revocation)))))

abbrev pub outpoint_test : OutPoint → OutPoint → Bool
outpoint_test a b = bytes_eq a.txid b.txid && a.index == b.index

pub outpoint_decides : (a b : OutPoint) → Decides (outpoint_test a b) (a ≡ b)
outpoint_decides a b =
    Decides-like (outpoint_test a b) (λ h. λ i. record { txid = h.0 i; index = h.1 i }) (λ e. (ap (λ (x : OutPoint). x.txid) e, ap (λ (x : OutPoint). x.index) e))
    (Decides-and _ _ (bytes_eq-Decides a.txid b.txid) (Decides-eqb a.index b.index))

abbrev pub party_test : Party → Party → Bool
party_test a b = a.dust_sat == b.dust_sat && (a.delay_blocks == b.delay_blocks && (a.minimum_msat == b.minimum_msat && (a.start_msat == b.start_msat && bases_test a.bases b.bases)))

pub party_decides : (a b : Party) → Decides (party_test a b) (a ≡ b)
party_decides a b =
    Decides-like (party_test a b)
    (λ h. λ i. record { dust_sat = h.0 i; delay_blocks = h.1.0 i; minimum_msat = h.1.1.0 i; start_msat = h.1.1.1.0 i; bases = h.1.1.1.1 i })
    (λ e. (ap (λ (x : Party). x.dust_sat) e, (ap (λ (x : Party). x.delay_blocks) e, (ap (λ (x : Party). x.minimum_msat) e, (ap (λ (x : Party). x.start_msat) e, ap (λ (x : Party). x.bases) e)))))
    (Decides-and _ _ (Decides-eqb a.dust_sat b.dust_sat) (Decides-and _ _ (Decides-eqb a.delay_blocks b.delay_blocks) (Decides-and _ _ (Decides-eqb a.minimum_msat b.minimum_msat) (Decides-and _ _ (Decides-eqb a.start_msat b.start_msat)
    (bases_decides a.bases b.bases)))))

-- with a test of the opener
abbrev pub terms_test : Bool → Terms → Terms → Bool
terms_test openers t u = outpoint_test t.funding u.funding && (t.capacity_sat == u.capacity_sat && (openers && (t.feerate_per_kw == u.feerate_per_kw && (party_test t.a u.a && party_test t.b u.b))))

pub terms_decides : (t u : Terms) (openers : Bool) → Decides openers (t.opener ≡ u.opener) → Decides (terms_test openers t u) (t ≡ u)
terms_decides t u openers same =
    Decides-like (terms_test openers t u)
    (λ h. same_terms t u (record { funding_is = h.0; capacity_is = h.1.0; opener_is = h.1.1.0; feerate_is = h.1.1.1.0; a_is = h.1.1.1.1.0; b_is = h.1.1.1.1.1 }))
    (λ e. (ap (λ (x : Terms). x.funding) e, (ap (λ (x : Terms). x.capacity_sat) e, (ap (λ (x : Terms). x.opener) e, (ap (λ (x : Terms). x.feerate_per_kw) e, (ap (λ (x : Terms). x.a) e, ap (λ (x : Terms). x.b) e))))))
    (Decides-and _ _ (outpoint_decides t.funding u.funding) (Decides-and _ _ (Decides-eqb t.capacity_sat u.capacity_sat) (Decides-and _ _ same (Decides-and _ _ (Decides-eqb t.feerate_per_kw u.feerate_per_kw)
    (Decides-and _ _ (party_decides t.a u.a) (party_decides t.b u.b))))))

pub share_decides : (a b : Share) (xs ys : List Htlc) (r : Bool) → xs ≡ a.offered → ys ≡ b.offered → a.balance_msat ≡ b.balance_msat → Decides r (xs ≡ ys) → Decides r (a ≡ b)
share_decides a b xs ys r of_a of_b balance_msat h =
    Decides-like r (λ e. λ i. record { balance_msat = balance_msat i; offered = (sym of_a ∙ e ∙ of_b) i }) (λ e. of_a ∙ ap (λ (x : Share). x.offered) e ∙ sym of_b) h

-- ---- the state of a number

-- what is refuted is decided
pub never : {P : Type 0} → (P → ⊥) → Decides false P
never refuted = (λ e. absurd cc, λ p. absurd (refuted p))

pub no_commitment_at : (s : State) (n : ℕ) (state : RevokedState) → slice_get s.signed n ≡ None → IsStateAt s n state → ⊥
no_commitment_at s n state none at = none-some at.commitment (sym none ∙ at.signed)

pub no_secret_at : (s : State) (n : ℕ) (state : RevokedState) → slice_get s.secrets n ≡ None → IsStateAt s n state → ⊥
no_secret_at s n state none at = none-some at.secret (sym none ∙ at.revealed)

-- by its parts, if the commitment stands at its number and its secret is known
pub state_decides : (s : State) (terms : Terms) (side : Side) (many n : ℕ) (cs : List CommitmentState) (c : CommitmentState) (secret : List ℕ) (state : RevokedState) (r : Bool) → AreNumbered terms side many cs
    → slice_get cs n ≡ Some c → slice_get s.signed n ≡ Some c → slice_get s.secrets n ≡ Some secret
    → Decides r (HasParts s.held.terms c.view (other s.held.side) c.number secret state) → Decides r (IsStateAt s n state)
state_decides s terms side many n cs c secret state r numbered there found revealed h = Decides-like r is has h
  where
    is : HasParts s.held.terms c.view (other s.held.side) c.number secret state → IsStateAt s n state
    is parts = record { commitment = c; secret = secret; signed = found; number_is = (numbered.each n c there).number; revealed = revealed; parts = parts }

    has : IsStateAt s n state → HasParts s.held.terms c.view (other s.held.side) c.number secret state
    has at =
        subst (λ (d : CommitmentState). HasParts s.held.terms d.view (other s.held.side) d.number secret state) (same_Some at.commitment c (sym at.signed ∙ found))
        (subst (λ (k : List ℕ). HasParts s.held.terms at.commitment.view (other s.held.side) at.commitment.number k state) (same_Some at.secret secret (sym at.revealed ∙ revealed)) at.parts)
