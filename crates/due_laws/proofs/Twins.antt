-- No claim on a commitment of a channel is refused for a twin of its revocation key; or strings collide.
use Rattle.std.proofs.Common.{◌≡◌, ℕ, Bool, true, false, List, [], suc, length, refl, sym, ap, ◌∙◌, inl, inr, arith}
use Rattle.std.specs.Prelude.{◌⊎◌, not}
use Rattle.std.specs.List.{AllByRecursion, list_any}
use Rattle.std.specs.Str.{bytes_eq}
use Rattle.std.proofs.lemmas.List.Elements.{All-from_recursion, All-contains}
use Rattle.sha2.specs.Sha256.{sha256}
use Rattle.sha2.proofs.Facts256.{length-sha256}
use Rattle.digest.specs.Hash.{hash160}
use Rattle.digest.specs.Ripemd160.{ripemd160}
use Rattle.keys.specs.Derivation.{revocation_key}
use Rattle.terms.specs.declared.agreement.Terms.{Terms}
use Rattle.terms.specs.declared.htlcs.Htlc.{Htlc}
use Rattle.commit.specs.Keys.{keys_of}
use Rattle.commit.specs.Commitments.{commitment_of}
use Rattle.resolve.specs.Due.{can_pay}
use Rattle.channel.specs.declared.commitments.CommitmentState.{CommitmentState}
use Rattle.channel.specs.States.{State}
use Rattle.channel.specs.Tokens.{contents_of}
use Rattle.worth_laws.specs.Counted.{known_by, HasNoTwin}
use Rattle.safety.proofs.Slots.{same_bytes}
use Rattle.safety.proofs.Lists.{any_found, none_holds}
use Rattle.due_laws.specs.Breaks.{IsOfChannel, DuesBreak, by_empty_item, by_known_preimage}

-- a revocation key has 33 bytes
key_bytes : (terms : Terms) (k : CommitmentState) → length (contents_of terms k).keys.revocation ≡ 33
unfolding commitment_of keys_of revocation_key
key_bytes terms k = ap suc (length-sha256 _)

pub no_twin : (s : State) (k : CommitmentState) → IsOfChannel s k → (preimages : List (List ℕ)) → AllByRecursion (λ x. length x ≡ 32) preimages
    → HasNoTwin preimages (contents_of s.held.terms k) ⊎ DuesBreak s preimages
no_twin s k i preimages long = by_empty (bytes_eq (hash160 key) (hash160 [])) refl
  where
    key : List ℕ
    key = (contents_of s.held.terms k).keys.revocation

    is_known_twin : List ℕ → Bool
    is_known_twin x = bytes_eq (hash160 key) (hash160 x)

    can_pay_all : list_any is_known_twin preimages ≡ false → (x : Htlc) → known_by preimages x ≡ true → can_pay (contents_of s.held.terms k).keys x ≡ true
    can_pay_all e x known =
        let y = any_found (λ p. bytes_eq (sha256 p) x.hash) preimages known in
        let hash : sha256 y.0 ≡ x.hash = same_bytes (sha256 y.0) x.hash y.2 in
        ap not (ap (λ g. bytes_eq (hash160 key) (ripemd160 g)) (sym hash) ∙ none_holds is_known_twin preimages y.0 e y.1)

    by_known : bytes_eq (hash160 key) (hash160 []) ≡ false → (b : Bool) → list_any is_known_twin preimages ≡ b → HasNoTwin preimages (contents_of s.held.terms k) ⊎ DuesBreak s preimages
    by_known none false e = inl (record { timeout = ap not none; pays = can_pay_all e })
    by_known none true e =
        let x = any_found is_known_twin preimages e in
        let short : length x.0 ≡ 32 = All-contains (λ p. length p ≡ 32) preimages x.0 (All-from_recursion (λ p. length p ≡ 32) preimages long) x.1 in
        let l = key_bytes s.held.terms k in
        inr (by_known_preimage k i x.0 x.1 ((λ (f : key ≡ x.0). let g = ap length f in omega (arith, g, l, short)), same_bytes (hash160 key) (hash160 x.0) x.2))

    by_empty : (b : Bool) → bytes_eq (hash160 key) (hash160 []) ≡ b → HasNoTwin preimages (contents_of s.held.terms k) ⊎ DuesBreak s preimages
    by_empty false e = by_known e (list_any is_known_twin preimages) refl
    by_empty true e = let l = key_bytes s.held.terms k in inr (by_empty_item k i ((λ (f : key ≡ []). let g = ap length f in omega (arith, g, l)), same_bytes (hash160 key) (hash160 []) e))
