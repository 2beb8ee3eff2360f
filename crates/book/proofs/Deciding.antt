-- The test of a signer's rights.
use Rattle.std.proofs.Common.{◌≡◌, ◌||◌, ◌↔◌, Bool, true, false, refl}
use Rattle.keys.specs.Keys.{base_keys, learnt_keys, is_among}
use Rattle.keys.specs.Rights.{MaySign}
use Rattle.keys.proofs.Deciding.{signs_own, signs_learnt}
use Rattle.book.specs.Signers.{may_sign, RightsAreTested}

pub rights_are_tested : RightsAreTested
unfolding may_sign
rights_are_tested r key = by (is_among key (base_keys r.seed)) (is_among key (learnt_keys r.seed r.points r.secrets)) refl refl
  where
    by : (own learnt : Bool) → own ≡ is_among key (base_keys r.seed) → learnt ≡ is_among key (learnt_keys r.seed r.points r.secrets)
        → ((own || learnt) ≡ true) ↔ MaySign r key
    by true learnt e f = let h = signs_own r r.seed r.points r.secrets key true refl e refl in (λ t. h.0 t, λ m. h.1 m)
    by false learnt e f = let h = signs_learnt r r.seed r.points r.secrets key false learnt refl e refl f in (λ t. h.0 t, λ m. h.1 m)
