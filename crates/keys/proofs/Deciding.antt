-- What the signer's look-up decides: whether it may sign.
use Rattle.std.proofs.Common.{◌≡◌, ℕ, ◌⊎◌, inl, inr, Bool, true, false, List, sym, ap, ◌∙◌}
use Rattle.std.specs.Prelude.{IsTrue}
use Rattle.std.specs.List.{flat_map}
use Rattle.std.proofs.lemmas.Bool.{or_cases, false≢true}
use Rattle.keys.specs.Derivation.{point_of, derived_key, revocation_key, base_key}
use Rattle.keys.specs.Rights.{Rights, MaySign}
use Rattle.keys.specs.Rights.MaySign.{own, derived, revoked}
use Rattle.keys.specs.Keys.{base_keys, keys_at, revocations_at, learnt_keys, is_among}
use Rattle.keys.proofs.Among.{here, there, is_among-append, among_flat, flat_among, among_each, each_among}

own_right : (r : Rights) (key : List ℕ) → is_among key (base_keys r.seed) ≡ true → MaySign r key
own_right r key e =
    let w = each_among (base_key r.seed) key e in
    own w.0 w.1

derived_right : (r : Rights) (key : List ℕ) → is_among key (flat_map (keys_at r.seed) r.points) ≡ true → MaySign r key
derived_right r key e =
    let p = flat_among (keys_at r.seed) key r.points e in
    let w = each_among (λ b. derived_key (base_key r.seed b) p.0) key p.2 in
    derived w.0 p.0 p.1 w.1

revoked_right : (r : Rights) (key : List ℕ) → is_among key (flat_map (λ s. revocations_at r.seed (point_of s)) r.secrets) ≡ true → MaySign r key
revoked_right r key e =
    let s = flat_among (λ s. revocations_at r.seed (point_of s)) key r.secrets e in
    let w = each_among (λ b. revocation_key (base_key r.seed b) (point_of s.0)) key s.2 in
    revoked w.0 s.0 s.1 w.1

learnt_right : (r : Rights) (key : List ℕ) → is_among key (learnt_keys r.seed r.points r.secrets) ≡ true → MaySign r key
unfolding learnt_keys
learnt_right r key e =
    let ps : List (List ℕ) = flat_map (keys_at r.seed) r.points in
    let ss : List (List ℕ) = flat_map (λ s. revocations_at r.seed (point_of s)) r.secrets in
    elim (or_cases (is_among key ps) (is_among key ss) (sym (is_among-append key ps ss) ∙ e)) [
      | inl a ↦ derived_right r key a
      | inr b ↦ revoked_right r key b
    ]

right_kept : (r : Rights) (key : List ℕ) → MaySign r key → (is_among key (base_keys r.seed) ≡ true) ⊎ (is_among key (learnt_keys r.seed r.points r.secrets) ≡ true)
unfolding learnt_keys
right_kept r key (own b e) = inl (among_each (base_key r.seed) b key e)
right_kept r key (derived b p h e) =
    let ps : List (List ℕ) = flat_map (keys_at r.seed) r.points in
    let ss : List (List ℕ) = flat_map (λ s. revocations_at r.seed (point_of s)) r.secrets in
    inr (is_among-append key ps ss
    ∙ here (is_among key ps) (is_among key ss) (among_flat (keys_at r.seed) key r.points p h (among_each (λ b. derived_key (base_key r.seed b) p) b key e)))
right_kept r key (revoked b s h e) =
    let ps : List (List ℕ) = flat_map (keys_at r.seed) r.points in
    let ss : List (List ℕ) = flat_map (λ s. revocations_at r.seed (point_of s)) r.secrets in
    inr (is_among-append key ps ss
    ∙ there (is_among key ps) (is_among key ss) (among_flat (λ s. revocations_at r.seed (point_of s)) key r.secrets s h (among_each (λ b. revocation_key (base_key r.seed b) (point_of s)) b key e)))

-- the look-up answers for a key that is a base key
pub signs_own : (r : Rights) (seed : List ℕ) (points secrets : List (List ℕ)) (key : List ℕ) (own_one : Bool) → record { seed = seed; points = points; secrets = secrets } ≡ r → own_one ≡ is_among key (base_keys seed) → own_one ≡ true → (IsTrue own_one → MaySign r key) × (MaySign r key → IsTrue own_one)
signs_own r seed points secrets key own_one v e t =
    (λ _. own_right r key (ap (λ (x : Rights). is_among key (base_keys x.seed)) (sym v) ∙ sym e ∙ t), λ _. t)

-- the look-up answers for any other key
pub signs_learnt : (r : Rights) (seed : List ℕ) (points secrets : List (List ℕ)) (key : List ℕ) (own_one learnt : Bool) → record { seed = seed; points = points; secrets = secrets } ≡ r → own_one ≡ is_among key (base_keys seed) → own_one ≡ false → learnt ≡ is_among key (learnt_keys seed points secrets) → (IsTrue learnt → MaySign r key) × (MaySign r key → IsTrue learnt)
signs_learnt r seed points secrets key own_one learnt v e f l =
    let base_is : is_among key (base_keys r.seed) ≡ false = ap (λ (x : Rights). is_among key (base_keys x.seed)) (sym v) ∙ sym e ∙ f in
    let learnt_is : is_among key (learnt_keys r.seed r.points r.secrets) ≡ learnt = ap (λ (x : Rights). is_among key (learnt_keys x.seed x.points x.secrets)) (sym v) ∙ sym l in (
      λ t. learnt_right r key (learnt_is ∙ t),
      λ m. elim (right_kept r key m) [ inl a ↦ absurd (false≢true (sym base_is ∙ a)) | inr b ↦ sym learnt_is ∙ b ],
    )
