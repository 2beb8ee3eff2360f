-- A sound view shares out the capacity, and so it has a commitment.
use Rattle.std.proofs.Common.{◌≡◌, ℕ, ◌+◌, ◌*◌, ◌≤◌, List, [], ◌∷◌, length, None, refl, sym, ap, subst, ◌∙◌, arith}
use Rattle.std.proofs.lemmas.List.Sums.{sum_by-cons}
use Rattle.terms.specs.declared.htlcs.Htlc.{Htlc}
use Rattle.terms.specs.declared.sides.Side.{Side}
use Rattle.terms.specs.declared.sides.Side.TheVariants.{A, B}
use Rattle.terms.specs.declared.agreement.Terms.{Terms}
use Rattle.terms.specs.declared.amounts.TheConstants.{MSAT_PER_SAT}
use Rattle.terms.specs.declared.views.View.{View}
use Rattle.updates.specs.declared.changes.Update.{Update}
use Rattle.updates.specs.declared.fates.Fate.{Fate}
use Rattle.updates.specs.declared.fates.Fate.TheVariants.{Live, Fulfilled, Failed}
use Rattle.updates.specs.Updates.{fate, offers, total, if_live, pending_msat, kept_if_live, live_in, live}
use Rattle.updates.specs.Views.{balance_msat, view_of, view_by, IsSound, IsSoundBy}
use Rattle.commit.specs.Sums.{millisatoshis_of}
use Rattle.commit.specs.Commitments.{commitment_of}
use Rattle.commit.specs.Building.{refusal_of}
use Rattle.commit.proofs.Shared.{shared}
use Rattle.channel.specs.Numbered.{SharesOut}

amounts_kept : (f : Fate) (o : Htlc) (os : List Htlc) → millisatoshis_of (kept_if_live f o os) ≡ if_live f o.amount_msat + millisatoshis_of os
amounts_kept Live o os = sum_by-cons (λ (h : Htlc). h.amount_msat) o os
amounts_kept Fulfilled o os = omega arith
amounts_kept Failed o os = omega arith

amounts_live : (os : List Htlc) (ends : List Update) → millisatoshis_of (live_in os ends) ≡ total if_live os ends
amounts_live [] ends = refl
amounts_live (o ∷ os) ends = amounts_kept (fate o.id ends) o (live_in os ends) ∙ ap (λ n. if_live (fate o.id ends) o.amount_msat + n) (amounts_live os ends)

summed : (a b p q m n whole : ℕ) → m ≡ p → n ≡ q → a + b + p + q ≡ whole → a + m + (b + n) ≡ whole
summed a b p q m n whole e f h = omega (arith, e, f, h)

few : (m n : ℕ) → m ≤ 483 → n ≤ 483 → m + n ≤ 3998
few m n h k = omega (arith, h, k)

shares_of : (terms : Terms) (xs ys : List Update) → IsSound terms xs ys → SharesOut terms (view_of terms xs ys)
shares_of terms xs ys s = record {
  few_of_a = s.few_of_a;
  few_of_b = s.few_of_b;
  heights_of_a = s.heights_of_a;
  heights_of_b = s.heights_of_b;
  whole =
      summed (balance_msat terms.a.start_msat xs ys) (balance_msat terms.b.start_msat ys xs) (pending_msat xs ys) (pending_msat ys xs) (millisatoshis_of (live xs ys)) (millisatoshis_of (live ys xs))
      (MSAT_PER_SAT * terms.capacity_sat) (amounts_live (offers xs) ys) (amounts_live (offers ys) xs) s.sum;
}

pub shares_by : (terms : Terms) (side : Side) (mine others : List Update) → IsSoundBy terms side mine others → SharesOut terms (view_by terms side mine others)
shares_by terms A mine others s = shares_of terms mine others s
shares_by terms B mine others s = shares_of terms others mine s

pub built_shares : (terms : Terms) (view : View) (owner : Side) (n : ℕ) (point : List ℕ) → SharesOut terms view → refusal_of (commitment_of terms view owner n point).outputs ≡ None
built_shares terms view owner n point s = shared terms view owner n point s.whole (few (length view.a.offered) (length view.b.offered) s.few_of_a s.few_of_b)

pub built_by : (terms : Terms) (side : Side) (mine others : List Update) (owner : Side) (n : ℕ) (point : List ℕ) → IsSoundBy terms side mine others
    → refusal_of (commitment_of terms (view_by terms side mine others) owner n point).outputs ≡ None
built_by terms side mine others owner n point s = built_shares terms (view_by terms side mine others) owner n point (shares_by terms side mine others s)

pub built_view : (terms : Terms) (side : Side) (mine others : List Update) (view : View) (owner : Side) (n : ℕ) (point : List ℕ) → view ≡ view_by terms side mine others
    → IsSoundBy terms side mine others → refusal_of (commitment_of terms view owner n point).outputs ≡ None
built_view terms side mine others view owner n point e s =
    subst (λ v. refusal_of (commitment_of terms v owner n point).outputs ≡ None) (sym e) (built_by terms side mine others owner n point s)
