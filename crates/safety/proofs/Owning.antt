-- The owner may not sign with the keys of its peer.
use Rattle.std.proofs.Common.{◌≡◌, ◌≢◌, ℕ, zero, suc, Bool, true, false, List, [], ◌∷◌, ◌++◌, length, get_or, sym, ap, ◌∙◌, refl, arith, length-append}
use Rattle.std.specs.Prelude.{codes}
use Rattle.std.specs.List.{Contains}
use Rattle.std.specs.Str.{bytes_eq}
use Rattle.std.proofs.lemmas.Bool.{false≢true}
use Rattle.std.proofs.lemmas.Slice.Eq.{bytes_eq-Decides}
use Rattle.sha2.specs.Sha256.{sha256}
use Rattle.sha2.proofs.Facts256.{length-sha256}
use Rattle.digest.specs.Hash.{Collide}
use Rattle.keys.specs.declared.bases.Base.{Base}
use Rattle.keys.specs.declared.bases.Base.TheVariants.{Payment, Htlc, Revocation}
use Rattle.keys.specs.Derivation.{point_of, base_key, seed_secret, number_of, derived_key, revocation_key}
use Rattle.keys.specs.Rights.{Rights, MaySign, own, derived, revoked}
use Rattle.terms.specs.Agreement.{party}
use Rattle.terms.specs.Sides.{other}
use Rattle.commit.specs.Keys.{keys_of}
use Rattle.commit.specs.Commitments.{commitment_of}
use Rattle.penalty.specs.declared.states.RevokedState.{RevokedState}
use Rattle.penalty.specs.Claimable.{commitment_in}
use Rattle.safety.specs.Spending.{peer_keys}
use Rattle.safety.specs.Signing.{Collision}
use Rattle.safety.specs.Strings.{of_base, of_secret}
use Rattle.safety.specs.Owning.{IsHashedForRights, of_seed, of_derived, of_revoked, peer_rights, AreOfSeed, OnlyPeerSigns}
use Rattle.safety.proofs.Slots.{same_bytes, contains_first}

-- equal beginnings of one length
front_is : (a b x y : List ℕ) → length a ≡ length b → a ++ x ≡ b ++ y → (a ≡ b) × (x ≡ y)
front_is [] [] x y len e = (refl, e)
front_is [] (d ∷ b) x y len e = absurd (omega (arith, len))
front_is (c ∷ a) [] x y len e = absurd (omega (arith, len))
front_is (c ∷ a) (d ∷ b) x y len e =
    let tails : a ++ x ≡ b ++ y = cc in
    let heads : c ≡ d = cc in
    let r = front_is a b x y (omega (arith, len)) tails in
    (rw (heads, r.0) refl, r.1)

abbrev KeysCollide : (r q : Rights) → Type 0
KeysCollide r q = Collision (Collide sha256) (IsHashedForRights r) (IsHashedForRights q)

-- two equal hashes of strings that are hashed for keys: the strings are the same, or they collide
apart : (r q : Rights) (a b : List ℕ) → IsHashedForRights r a → IsHashedForRights q b → sha256 a ≡ sha256 b → (a ≡ b → KeysCollide r q) → KeysCollide r q
apart r q a b g h e f = by (bytes_eq a b) refl
  where
    by : (t : Bool) → bytes_eq a b ≡ t → KeysCollide r q
    by true i = f (same_bytes a b i)
    by false i = record { first = a; second = b; of_first = g; of_second = h; collide = (λ d. false≢true (sym i ∙ (bytes_eq-Decides a b).1 d), e) }

-- the first bytes tell apart what is hashed
first_bytes : (a b : List ℕ) → a ≡ b → get_or a 0 0 ≡ get_or b 0 0
first_bytes a b e = ap (λ (x : List ℕ). get_or x 0 0) e

-- strings of one seed and one byte are the same only where the seeds are: their lengths are the same then
same_seed : (s t : List ℕ) (n m : ℕ) → codes "base" ++ s ++ n ∷ [] ≡ codes "base" ++ t ++ m ∷ [] → s ≡ t
same_seed s t n m e =
    let l : length (codes "base" ++ s) ≡ length (codes "base" ++ t) = omega (arith, ap length e, length-append (codes "base" ++ s) (n ∷ []), length-append (codes "base" ++ t) (m ∷ [])) in
    (front_is (codes "base") (codes "base") s t refl (front_is (codes "base" ++ s) (codes "base" ++ t) (n ∷ []) (m ∷ []) l e).0).1

same_secret : (r q : Rights) (b c : Base) → r.seed ≢ q.seed → seed_secret r.seed (number_of b) ≡ seed_secret q.seed (number_of c) → KeysCollide r q
unfolding seed_secret
same_secret r q b c n e =
    apart r q (codes "base" ++ r.seed ++ number_of b ∷ []) (codes "base" ++ q.seed ++ number_of c ∷ []) (of_seed (of_secret b refl)) (of_seed (of_secret c refl)) e
    (λ s. absurd (n (same_seed r.seed q.seed (number_of b) (number_of c) s)))

-- equal keys have equal hashes
same_hash : (a b : List ℕ) → 2 ∷ sha256 a ≡ 2 ∷ sha256 b → sha256 a ≡ sha256 b
same_hash a b e = cc

base_is : (seed : List ℕ) (b : Base) → base_key seed b ≡ 2 ∷ sha256 (codes "point" ++ seed_secret seed (number_of b))
unfolding point_of
base_is seed b = refl

same_base : (r q : Rights) (b c : Base) → r.seed ≢ q.seed → base_key r.seed b ≡ base_key q.seed c → KeysCollide r q
same_base r q b c n e =
    apart r q (codes "point" ++ seed_secret r.seed (number_of b)) (codes "point" ++ seed_secret q.seed (number_of c)) (of_seed (of_base b refl)) (of_seed (of_base c refl))
    (same_hash _ _ (sym (base_is r.seed b) ∙ e ∙ base_is q.seed c))
    (λ s. same_secret r q b c n (front_is (codes "point") (codes "point") _ _ refl s).1)

base_length : (seed other : List ℕ) (b c : Base) → length (base_key seed b) ≡ length (base_key other c)
unfolding point_of
base_length seed other b c = omega (arith, length-sha256 (codes "point" ++ seed_secret seed (number_of b)), length-sha256 (codes "point" ++ seed_secret other (number_of c)))

-- what is hashed for one key: a tag, and a base key with what follows it
pub record IsKeyOf (r : Rights) (key : List ℕ) : Type 0 where
  bytes : List ℕ
  hashed : IsHashedForRights r bytes
  key_is : key ≡ 2 ∷ sha256 bytes

signable : (r : Rights) (key : List ℕ) → MaySign r key → IsKeyOf r key
unfolding derived_key revocation_key
signable r key (own b e) = record { bytes = _; hashed = of_seed (of_base b refl); key_is = e ∙ base_is r.seed b }
signable r key (derived b point i e) = record { bytes = _; hashed = of_derived b point i refl; key_is = e }
signable r key (revoked b secret i e) = record { bytes = _; hashed = of_revoked b secret i refl; key_is = e }

-- what stands between a tag and another string, of one length
tagged : (tag k m p t : List ℕ) → length k ≡ length m → tag ++ k ++ p ≡ tag ++ m ++ t → k ≡ m
tagged tag k m p t len e =
    let h = front_is (tag ++ k) (tag ++ m) p t (omega (arith, len, length-append tag k, length-append tag m)) e in
    (front_is tag tag k m refl h.0).1

-- a string that both hash has the same base key of both, which shows a collision
both : (r q : Rights) (a b : List ℕ) → r.seed ≢ q.seed → IsHashedForRights r a → IsHashedForRights q b → a ≡ b → KeysCollide r q
both r q a b n (of_seed (of_secret x e)) (of_seed (of_secret y f)) s = absurd (n (same_seed r.seed q.seed (number_of x) (number_of y) (sym e ∙ s ∙ f)))
both r q a b n (of_seed (of_base x e)) (of_seed (of_base y f)) s = same_secret r q x y n (front_is (codes "point") (codes "point") _ _ refl (sym e ∙ s ∙ f)).1
both r q a b n (of_derived x p i e) (of_derived y t j f) s = same_base r q x y n (tagged (codes "derive") (base_key r.seed x) (base_key q.seed y) p t (base_length r.seed q.seed x y) (sym e ∙ s ∙ f))
both r q a b n (of_revoked x p i e) (of_revoked y t j f) s = same_base r q x y n (tagged (codes "revoke") (base_key r.seed x) (base_key q.seed y) (point_of p) (point_of t) (base_length r.seed q.seed x y) (sym e ∙ s ∙ f))
both r q a b n (of_seed (of_secret x e)) (of_seed (of_base y f)) s = absurd (omega (arith, first_bytes _ _ (sym e ∙ s ∙ f)))
both r q a b n (of_seed (of_secret x e)) (of_derived y t j f) s = absurd (omega (arith, first_bytes _ _ (sym e ∙ s ∙ f)))
both r q a b n (of_seed (of_secret x e)) (of_revoked y t j f) s = absurd (omega (arith, first_bytes _ _ (sym e ∙ s ∙ f)))
both r q a b n (of_seed (of_base x e)) (of_seed (of_secret y f)) s = absurd (omega (arith, first_bytes _ _ (sym e ∙ s ∙ f)))
both r q a b n (of_seed (of_base x e)) (of_derived y t j f) s = absurd (omega (arith, first_bytes _ _ (sym e ∙ s ∙ f)))
both r q a b n (of_seed (of_base x e)) (of_revoked y t j f) s = absurd (omega (arith, first_bytes _ _ (sym e ∙ s ∙ f)))
both r q a b n (of_derived x p i e) (of_seed (of_secret y f)) s = absurd (omega (arith, first_bytes _ _ (sym e ∙ s ∙ f)))
both r q a b n (of_derived x p i e) (of_seed (of_base y f)) s = absurd (omega (arith, first_bytes _ _ (sym e ∙ s ∙ f)))
both r q a b n (of_derived x p i e) (of_revoked y t j f) s = absurd (omega (arith, first_bytes _ _ (sym e ∙ s ∙ f)))
both r q a b n (of_revoked x p i e) (of_seed (of_secret y f)) s = absurd (omega (arith, first_bytes _ _ (sym e ∙ s ∙ f)))
both r q a b n (of_revoked x p i e) (of_seed (of_base y f)) s = absurd (omega (arith, first_bytes _ _ (sym e ∙ s ∙ f)))
both r q a b n (of_revoked x p i e) (of_derived y t j f) s = absurd (omega (arith, first_bytes _ _ (sym e ∙ s ∙ f)))

both_keys : (r q : Rights) (key : List ℕ) → r.seed ≢ q.seed → IsKeyOf r key → IsKeyOf q key → KeysCollide r q
both_keys r q key n g h =
    apart r q g.bytes h.bytes g.hashed h.hashed (same_hash g.bytes h.bytes (sym g.key_is ∙ h.key_is)) (both r q g.bytes h.bytes n g.hashed h.hashed)

-- the peer's keys are keys of its rights
peer_key : (state : RevokedState) (seed : List ℕ) → AreOfSeed seed (party (other state.owner) state.terms).bases → (key : List ℕ) → Contains (peer_keys (commitment_in state).keys) key → MaySign (peer_rights seed state) key
unfolding commitment_of keys_of
peer_key state seed a key (zero, i, e) = revoked Revocation state.secret (contains_first state.secret []) (sym e ∙ ap (λ k. revocation_key k (point_of state.secret)) a.revocation)
peer_key state seed a key (suc zero, i, e) = derived Htlc (point_of state.secret) (contains_first (point_of state.secret) []) (sym e ∙ ap (λ k. derived_key k (point_of state.secret)) a.htlc)
peer_key state seed a key (suc (suc zero), i, e) = own Payment (sym e ∙ a.payment)
peer_key state seed a key (suc (suc (suc n)), i, e) = absurd (omega (arith, i))

pub only_peer_signs : OnlyPeerSigns
only_peer_signs state seed r n a key i may =
    both_keys r (peer_rights seed state) key n (signable r key may) (signable (peer_rights seed state) key (peer_key state seed a key i))
