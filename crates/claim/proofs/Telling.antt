-- What a slot shows of an item that fills it.
use Rattle.std.proofs.Common.{◌≡◌, ℕ, ◌+◌, Bool, true, false, ◌&&◌, eqb, List, length, Option, Some, None, sym, ap, ◌∙◌, refl, arith}
use Rattle.std.specs.Str.{bytes_eq}
use Rattle.std.proofs.lemmas.Slice.Eq.{bytes_eq-Decides}
use Rattle.std.proofs.lemmas.Bool.{eq-eqb, eqb-true, ne_eqb, and_from, false_from_ne_true, true≢false}
use Rattle.std.proofs.lemmas.Bool.Decides.{same_from_decides, Decides-eqb}
use Rattle.sha2.specs.Sha256.{sha256}
use Rattle.digest.specs.Ripemd160.{ripemd160}
use Rattle.digest.specs.Hash.{hash160}
use Rattle.script.specs.Token.{token_of, is_key, is_token, is_signature}
use Rattle.script.specs.Step.{truth}
use Rattle.script.specs.declared.spending.Spend.{Spend}
use Rattle.claim.specs.declared.parts.Slot.{Slot}
use Rattle.claim.specs.declared.parts.Slot.TheVariants.{Sig, Preimage, Exact}
use Rattle.claim.specs.Evidence.{is_token_with, hash_evidence, size_evidence, truth_evidence, no_unless, bytes_evidence, form_evidence, key_form_evidence, token_of_evidence, slot_token_evidence}
use Rattle.claim.specs.Fitting.{FillsSlot}
use Rattle.claim.proofs.TokenForms.{token-length, token_with, token-injective, key-length, token-signature, token-no_key, token-true, token-apart}

-- bytes that are known are the right ones
abbrev pub Known : Option (List ℕ) → List ℕ → Type 0
Known None key = Unit {0}
Known (Some b) key = key ≡ b

-- what is shown is true
abbrev pub Tells : Option Bool → Bool → Type 0
Tells None t = Unit {0}
Tells (Some b) t = t ≡ b

same_test : (a b : ℕ) → eqb a b ≡ eqb b a
same_test a b = same_from_decides (eqb a b) (eqb b a) (Decides-eqb a b) ((λ e. sym (eqb-true b a e)), (λ e. eq-eqb b a (sym e)))

no_unless-tells : (b t : Bool) → (b ≡ false → t ≡ false) → Tells (no_unless b) t
no_unless-tells true t h = tt
no_unless-tells false t h = h refl

pub hash-tells : (spend : Spend) (known : Option (List ℕ)) (h : List ℕ) (slot : Slot) (x : List ℕ) → Known known spend.digest → FillsSlot spend slot x → Tells (hash_evidence known h slot) (bytes_eq (hash160 x) h)
hash-tells spend None h (Sig k) x n f = tt
hash-tells spend (Some d) h (Sig k) x n f = ap (λ s. bytes_eq (hash160 s) h) (f ∙ ap (token_of k.bytes) n)
hash-tells spend known h (Preimage ph) x n f = ap (λ s. bytes_eq (ripemd160 s) h) f.1
hash-tells spend known h (Exact b) x n f = ap (λ s. bytes_eq (hash160 s) h) f

pub size-tells : (spend : Spend) (n : ℕ) (slot : Slot) (x : List ℕ) → length spend.digest ≡ 32 → FillsSlot spend slot x → Tells (size_evidence n slot) (eqb (length x) n)
size-tells spend n (Sig k) x e f =
    let l : length x ≡ 66 = ap length f ∙ token-length k.bytes spend.digest e ∙ ap (λ m. m + 33) (key-length k.bytes k.form) in
    ap (λ m. eqb m n) l ∙ same_test 66 n
size-tells spend n (Preimage ph) x e f = ap (λ m. eqb m n) f.0 ∙ same_test 32 n
size-tells spend n (Exact b) x e f = ap (λ s. eqb (length s) n) f

pub truth-tells : (spend : Spend) (slot : Slot) (x : List ℕ) → length spend.digest ≡ 32 → FillsSlot spend slot x → Tells (truth_evidence slot) (truth x)
truth-tells spend (Sig k) x e f = ap truth f ∙ token-true k.bytes spend.digest k.form
truth-tells spend (Preimage ph) x e f = tt
truth-tells spend (Exact b) x e f = ap truth f

preimage-apart : (ph x c : List ℕ) → length x ≡ 32 → sha256 x ≡ ph → (eqb (length c) 32 && bytes_eq (sha256 c) ph) ≡ false → bytes_eq x c ≡ false
preimage-apart ph x c l e h = false_from_ne_true _ (λ t.
    let same = (bytes_eq-Decides x c).0 t in
    let yes = and_from (eqb (length c) 32) (bytes_eq (sha256 c) ph) (eq-eqb (length c) 32 (ap length (sym same) ∙ l)) ((bytes_eq-Decides (sha256 c) ph).1 (ap sha256 (sym same) ∙ e)) in
    true≢false (sym yes ∙ h))

pub is-tells : (spend : Spend) (known : Option (List ℕ)) (c : List ℕ) (slot : Slot) (x : List ℕ) → length spend.digest ≡ 32 → Known known spend.digest → FillsSlot spend slot x → Tells (bytes_evidence known c slot) (bytes_eq x c)
is-tells spend None c (Sig k) x e n f = no_unless-tells _ _ (λ h. ap (λ s. bytes_eq s c) f ∙ token-apart k.bytes spend.digest c e h)
is-tells spend (Some d) c (Sig k) x e n f = ap (λ s. bytes_eq s c) (f ∙ ap (token_of k.bytes) n)
is-tells spend known c (Preimage ph) x e n f = no_unless-tells _ _ (preimage-apart ph x c f.0 f.1)
is-tells spend known c (Exact b) x e n f = ap (λ s. bytes_eq s c) f

preimage-no_signature : (x : List ℕ) → length x ≡ 32 → is_signature x ≡ false
unfolding is_signature is_token
preimage-no_signature x l = rw (ne_eqb (length x) 0 (λ z. omega arith), ne_eqb (length x) 66 (λ z. omega arith)) refl

preimage-no_key : (x : List ℕ) → length x ≡ 32 → is_key x ≡ false
unfolding is_key
preimage-no_key x l = rw (ne_eqb (length x) 33 (λ z. omega arith)) refl

pub form-tells : (spend : Spend) (slot : Slot) (x : List ℕ) → length spend.digest ≡ 32 → FillsSlot spend slot x → Tells (form_evidence slot) (is_signature x)
form-tells spend (Sig k) x e f = ap is_signature f ∙ token-signature k.bytes spend.digest k.form e
form-tells spend (Preimage ph) x e f = preimage-no_signature x f.0
form-tells spend (Exact b) x e f = ap is_signature f

pub key_form-tells : (spend : Spend) (slot : Slot) (x : List ℕ) → length spend.digest ≡ 32 → FillsSlot spend slot x → Tells (key_form_evidence slot) (is_key x)
key_form-tells spend (Sig k) x e f = ap is_key f ∙ token-no_key k.bytes spend.digest k.form e
key_form-tells spend (Preimage ph) x e f = preimage-no_key x f.0
key_form-tells spend (Exact b) x e f = ap is_key f

preimage-no_token : (x k d : List ℕ) → length x ≡ 32 → length d ≡ 32 → bytes_eq x (token_of k d) ≡ false
preimage-no_token x k d l e = false_from_ne_true _ (λ t. let same = (bytes_eq-Decides x (token_of k d)).0 t in let n = token-length k d e in let m = ap length same in omega arith)

no_token-exact : (k b d : List ℕ) → length d ≡ 32 → is_token_with k b ≡ false → bytes_eq b (token_of k d) ≡ false
no_token-exact k b d e h = false_from_ne_true _ (λ t. let same = (bytes_eq-Decides b (token_of k d)).0 t in true≢false (sym (token_with k d e) ∙ ap (is_token_with k) (sym same) ∙ h))

token_of-tells : (spend : Spend) (known : Option (List ℕ)) (key : List ℕ) (slot : Slot) (x : List ℕ) → length spend.digest ≡ 32 → Known known spend.digest → FillsSlot spend slot x → Tells (token_of_evidence known key slot) (bytes_eq x (token_of key spend.digest))
token_of-tells spend known key (Sig k) x e n f = ap (λ s. bytes_eq s (token_of key spend.digest)) f ∙ token-injective k.bytes key spend.digest
token_of-tells spend known key (Preimage ph) x e n f = preimage-no_token x key spend.digest f.0 e
token_of-tells spend None key (Exact b) x e n f = no_unless-tells _ _ (λ h. ap (λ s. bytes_eq s (token_of key spend.digest)) f ∙ no_token-exact key b.item spend.digest e h)
token_of-tells spend (Some d) key (Exact b) x e n f = ap (λ s. bytes_eq s (token_of key spend.digest)) f ∙ ap (λ s. bytes_eq b.item (token_of key s)) n

pub token-tells : (spend : Spend) (known named : Option (List ℕ)) (key : List ℕ) (slot : Slot) (x : List ℕ) → length spend.digest ≡ 32 → Known known spend.digest → Known named key → FillsSlot spend slot x → Tells (slot_token_evidence known named slot) (bytes_eq x (token_of key spend.digest))
token-tells spend known (Some b) key slot x e n k f = rw k (token_of-tells spend known b slot x e n f)
token-tells spend known None key (Sig j) x e n k f = tt
token-tells spend known None key (Preimage ph) x e n k f = preimage-no_token x key spend.digest f.0 e
token-tells spend known None key (Exact b) x e n k f = tt
