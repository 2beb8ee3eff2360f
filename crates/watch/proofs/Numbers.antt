-- The number that a transaction carries.
use Rattle.std.proofs.Common.{◌≡◌, ℕ, ◌^◌, ◌<◌, Bool, true, false, cond, List, [], ◌∷◌, Option, Some, None, sym, ap, ◌∙◌, refl}
use Rattle.std.specs.Prelude.{◌↔◌}
use Rattle.tx.specs.Fields.{Transaction, same_outpoint}
use Rattle.tx.specs.declared.input.TxIn.{TxIn}
use Rattle.terms.specs.declared.agreement.Terms.{Terms}
use Rattle.terms.specs.Numbers.{mask_of, revealed, HasNumber}
use Rattle.terms.proofs.Revealing.{numbered}
use Rattle.chain.proofs.Noting.{itself, same_is}
use Rattle.watch.specs.Verdicts.{number_by, number_in}

same_option : (a b : Option ℕ) → ((n : ℕ) → a ≡ Some n → b ≡ Some n) → ((n : ℕ) → b ≡ Some n → a ≡ Some n) → a ≡ b
same_option None None f g = refl
same_option (Some x) b f g = sym (f x refl)
same_option None (Some y) f g = g y refl

numbered_if : (terms : Terms) (t : Transaction) (x : TxIn) (n : ℕ) (b : Bool) → same_outpoint x.outpoint terms.funding ≡ b → mask_of terms < 2 ^ 48 → t.inputs ≡ x ∷ []
    → (cond b (revealed (mask_of terms) t.lock_time x.sequence) None ≡ Some n) ↔ HasNumber terms t n
numbered_if terms t x n true q m e = numbered terms t x n (mask_of terms) refl m e (same_is x.outpoint terms.funding q)
numbered_if terms t x n false q m e = (
  (λ f. absurd (cc)),
  (λ h. absurd (
      let same : h.input ≡ x = (let a = h.alone in cc) in
      let spent : same_outpoint x.outpoint terms.funding ≡ true =
      ap (λ (i : TxIn). same_outpoint i.outpoint terms.funding) (sym same) ∙ ap (λ o. same_outpoint o terms.funding) h.spends ∙ itself terms.funding in
      cc)),
)

named : (terms : Terms) (t : Transaction) (inputs : List TxIn) (n : ℕ) → t.inputs ≡ inputs → mask_of terms < 2 ^ 48 → (number_by terms t.lock_time inputs ≡ Some n) ↔ HasNumber terms t n
named terms t [] n e m = ((λ f. absurd (cc)), (λ h. absurd (let a = h.alone in cc)))
named terms t (x ∷ []) n e m = numbered_if terms t x n (same_outpoint x.outpoint terms.funding) refl m e
named terms t (x ∷ y ∷ ys) n e m = ((λ f. absurd (cc)), (λ h. absurd (let a = h.alone in cc)))

pub same_number : (terms : Terms) (t : Transaction) (r : Option ℕ) → mask_of terms < 2 ^ 48 → ((n : ℕ) → (r ≡ Some n) ↔ HasNumber terms t n) → r ≡ number_in terms t
same_number terms t r m h = same_option r (number_in terms t) (λ n e. (named terms t t.inputs n refl m).1 ((h n).0 e)) (λ n e. (h n).1 ((named terms t t.inputs n refl m).0 e))
