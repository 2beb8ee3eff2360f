-- HTLCs by the programs of their outputs.
use Rattle.std.proofs.Common.{◌≡◌, ℕ, ◌+◌, ◌<◌, Bool, true, false, cond, List, [], ◌∷◌, map, length, drop, Option, Some, None, refl, sym, ap, subst, ◌∙◌, arith, get_or, add-one, drop-cons, nat_cmp, eqb, true-eqb, false-eqb}
use Rattle.std.specs.Prelude.{◌≢◌, option_map}
use Rattle.std.specs.Ordering.{is_eq}
use Rattle.std.specs.Option.{option_or, is_some}
use Rattle.std.specs.List.{find}
use Rattle.std.specs.Cmp.Lexicographic.{slice_cmp}
use Rattle.std.specs.Str.{bytes_eq}
use Rattle.std.proofs.lemmas.Map.Text.{is_eq-slice_cmp}
use Rattle.std.proofs.lemmas.Slice.Eq.{bytes_eq-Decides}
use Rattle.sha2.proofs.Facts256.{length-sha256}
use Rattle.script.specs.Spelling.{spelling}
use Rattle.sighash.specs.Programs.{script_hash_program}
use Rattle.anchor_forms.specs.declared.channel_types.ChannelType.{ChannelType}
use Rattle.commit.specs.Keys.{KeyBytes}
use Rattle.revoked.specs.declared.outputs.RevokedHtlc.{RevokedHtlc}
use Rattle.revoked.specs.declared.outputs.RevokedOutput.{RevokedOutput}
use Rattle.revoked.specs.declared.outputs.RevokedOutput.TheVariants.{ToLocal, ToRemote, ToHtlc}
use Rattle.revoked.specs.Parts.{RevokedParts}
use Rattle.revoked.specs.Programs.{form_of_htlc, htlc_program, htlc_with, known_program, known_outputs, output_with}

or_none : {V : Type 0} (o : Option V) → option_or o None ≡ o
or_none None = refl
or_none (Some x) = refl

absent : {V : Type 0} (o p : Option V) → is_some o ≡ false → p ≡ option_or o p
absent None p e = refl
absent (Some x) p e = (cc)

-- a program that isn't there takes this HTLC
pub added : (old : List ℕ → Option RevokedHtlc) (x : RevokedHtlc) (key p : List ℕ) → is_some (old key) ≡ false
    → cond (is_eq (slice_cmp nat_cmp key p)) (Some x) (old p) ≡ option_or (old p) (cond (bytes_eq key p) (Some x) None)
added old x key p lacks = ap (λ t. cond t (Some x) (old p)) (is_eq-slice_cmp key p) ∙ at (bytes_eq key p) refl
  where
    at : (b : Bool) → bytes_eq key p ≡ b → cond b (Some x) (old p) ≡ option_or (old p) (cond b (Some x) None)
    at false e = sym (or_none (old p))
    at true e = absent (old p) (Some x) (subst (λ k. is_some (old k) ≡ false) ((bytes_eq-Decides key p).0 e) lacks)

moved : {V : Type 0} (o : Option V) (t : Bool) (x : V) (p : Option V) → option_or (option_or o (cond t (Some x) None)) p ≡ option_or o (cond t (Some x) p)
moved (Some y) t x p = refl
moved None true x p = refl
moved None false x p = refl

split : {V : Type 0} (xs : List V) (i : ℕ) (d x : V) → i < length xs → x ≡ get_or xs i d → drop i xs ≡ x ∷ drop (i + 1) xs
split xs i d x h e = rw (add-one, e) (drop-cons xs i d h)

-- one more is noted: what the table has, then what is left, is the whole
pub next : (t : ChannelType) (k : KeyBytes) (old new : List ℕ → Option RevokedHtlc) (hs : List RevokedHtlc) (i : ℕ) (d x : RevokedHtlc) → i < length hs → x ≡ get_or hs i d
    → ((p : List ℕ) → new p ≡ option_or (old p) (htlc_with t k (x ∷ []) p))
    → (p : List ℕ) → option_or (new p) (htlc_with t k (drop (i + 1) hs) p) ≡ option_or (old p) (htlc_with t k (drop i hs) p)
next t k old new hs i d x b e u p =
    ap (λ o. option_or o (htlc_with t k (drop (i + 1) hs) p)) (u p)
    ∙ moved (old p) (bytes_eq (htlc_program t k x) p) x (htlc_with t k (drop (i + 1) hs) p)
    ∙ ap (λ (xs : List RevokedHtlc). option_or (old p) (htlc_with t k xs p)) (sym (split hs i d x b e))

length-program : (script : List ℕ) → length (script_hash_program script) ≡ 34
unfolding script_hash_program
length-program script = let l = length-sha256 script in omega (arith, l)

not_it : (a p : List ℕ) → length a ≡ 34 → length p ≢ 34 → bytes_eq a p ≡ false
not_it a p l n = at (bytes_eq a p) refl
  where
    at : (b : Bool) → bytes_eq a p ≡ b → b ≡ false
    at false e = refl
    at true e = absurd (n (ap length (sym ((bytes_eq-Decides a p).0 e)) ∙ l))

-- bytes that are not 34 are no HTLC's program
pub of_no_htlc : (t : ChannelType) (k : KeyBytes) (hs : List RevokedHtlc) (p : List ℕ) → length p ≢ 34 → htlc_with t k hs p ≡ None
of_no_htlc t k [] p n = refl
of_no_htlc t k (h ∷ hs) p n =
    ap (λ b. cond b (Some h) (htlc_with t k hs p)) (not_it (htlc_program t k h) p (length-program (spelling (form_of_htlc t k h).ops)) n)
    ∙ of_no_htlc t k hs p n

mapped : (r : RevokedParts) (p : List ℕ) (hs : List RevokedHtlc) → find (λ o. bytes_eq (known_program r o) p) (map ToHtlc hs) ≡ option_map ToHtlc (htlc_with r.channel_type r.keys hs p)
mapped r p [] = refl
mapped r p (h ∷ hs) = at (bytes_eq (htlc_program r.channel_type r.keys h) p) (mapped r p hs)
  where
    at : (b : Bool) → find (λ o. bytes_eq (known_program r o) p) (map ToHtlc hs) ≡ option_map ToHtlc (htlc_with r.channel_type r.keys hs p)
        → cond b (Some (ToHtlc h)) (find (λ o. bytes_eq (known_program r o) p) (map ToHtlc hs)) ≡ option_map ToHtlc (cond b (Some h) (htlc_with r.channel_type r.keys hs p))
    at true e = refl
    at false e = e

-- the output of a program, by the tests in their order
pub is_to_local : (r : RevokedParts) (p : List ℕ) → bytes_eq (known_program r ToLocal) p ≡ true → output_with r p ≡ Some ToLocal
unfolding output_with
is_to_local r p e =
    ap (λ t. cond t (Some ToLocal) (cond (bytes_eq (known_program r ToRemote) p) (Some ToRemote) (find (λ o. bytes_eq (known_program r o) p) (map ToHtlc r.htlcs)))) e

pub is_to_remote : (r : RevokedParts) (p : List ℕ) → bytes_eq (known_program r ToLocal) p ≡ false → bytes_eq (known_program r ToRemote) p ≡ true → output_with r p ≡ Some ToRemote
unfolding output_with
is_to_remote r p e f =
    ap (λ t. cond t (Some ToLocal) (cond (bytes_eq (known_program r ToRemote) p) (Some ToRemote) (find (λ o. bytes_eq (known_program r o) p) (map ToHtlc r.htlcs)))) e
    ∙ ap (λ t. cond t (Some ToRemote) (find (λ o. bytes_eq (known_program r o) p) (map ToHtlc r.htlcs))) f

pub is_of_htlcs : (r : RevokedParts) (p : List ℕ) (o : Option RevokedHtlc) → bytes_eq (known_program r ToLocal) p ≡ false → bytes_eq (known_program r ToRemote) p ≡ false
    → o ≡ htlc_with r.channel_type r.keys r.htlcs p → output_with r p ≡ option_map ToHtlc o
unfolding output_with
is_of_htlcs r p o e f g =
    ap (λ t. cond t (Some ToLocal) (cond (bytes_eq (known_program r ToRemote) p) (Some ToRemote) (find (λ o. bytes_eq (known_program r o) p) (map ToHtlc r.htlcs)))) e
    ∙ ap (λ t. cond t (Some ToRemote) (find (λ o. bytes_eq (known_program r o) p) (map ToHtlc r.htlcs))) f
    ∙ mapped r p r.htlcs ∙ ap (option_map ToHtlc) (sym g)

-- the table's answer is that of a search along the list, whatever the length
pub looked_up : (t : ChannelType) (k : KeyBytes) (hs : List RevokedHtlc) (p : List ℕ) (noted : List ℕ → Option RevokedHtlc) (o : Option RevokedHtlc)
    → ((q : List ℕ) → noted q ≡ htlc_with t k hs q) → (length p ≡ 34 → o ≡ noted p) → (length p ≢ 34 → o ≡ None) → o ≡ htlc_with t k hs p
looked_up t k hs p noted o n a b = at (eqb (length p) 34) refl
  where
    at : (b : Bool) → b ≡ eqb (length p) 34 → o ≡ htlc_with t k hs p
    at true e = a (true-eqb (length p) 34 e) ∙ n p
    at false e = b (false-eqb (length p) 34 e) ∙ sym (of_no_htlc t k hs p (false-eqb (length p) 34 e))

-- what a search finds passes the test
passes : {X : Type 0} (test : X → Bool) (xs : List X) (x : X) → find test xs ≡ Some x → test x ≡ true
passes test [] x e = absurd (none_some x e)
  where
    none_some : {Y : Type 0} (y : Y) → None ≡ Some y → ⊥
    none_some y f = cc
passes test (y ∷ ys) x e = at (test y) refl e (passes test ys x)
  where
    some_is : {Y : Type 0} (a b : Y) → Some a ≡ Some b → a ≡ b
    some_is a b f = cc

    at : (b : Bool) → test y ≡ b → cond b (Some y) (find test ys) ≡ Some x → (find test ys ≡ Some x → test x ≡ true) → test x ≡ true
    at true t f later = subst (λ z. test z ≡ true) (some_is y x f) t
    at false t f later = later f

-- an output that is found has the program
pub has_program : (r : RevokedParts) (p : List ℕ) (known : RevokedOutput) → output_with r p ≡ Some known → p ≡ known_program r known
unfolding output_with
has_program r p known e = sym ((bytes_eq-Decides (known_program r known) p).0 (passes (λ o. bytes_eq (known_program r o) p) (known_outputs r) known e))

-- what the tests of a call find
pub found_local : (r : RevokedParts) (p bytes local : List ℕ) → bytes ≡ local → local ≡ known_program r ToLocal → true ≡ bytes_eq bytes p → Some ToLocal ≡ output_with r p
found_local r p bytes local e f t = sym (is_to_local r p (subst (λ x. bytes_eq x p ≡ true) (e ∙ f) (sym t)))

pub not_local : (r : RevokedParts) (p bytes local : List ℕ) → bytes ≡ local → local ≡ known_program r ToLocal → false ≡ bytes_eq bytes p → bytes_eq (known_program r ToLocal) p ≡ false
not_local r p bytes local e f t = subst (λ x. bytes_eq x p ≡ false) (e ∙ f) (sym t)

pub found_remote : (r : RevokedParts) (p bytes remote : List ℕ) → bytes_eq (known_program r ToLocal) p ≡ false → bytes ≡ remote → remote ≡ known_program r ToRemote → true ≡ bytes_eq bytes p → Some ToRemote ≡ output_with r p
found_remote r p bytes remote n e f t = sym (is_to_remote r p n (subst (λ x. bytes_eq x p ≡ true) (e ∙ f) (sym t)))

pub not_remote : (r : RevokedParts) (p bytes remote : List ℕ) → bytes ≡ remote → remote ≡ known_program r ToRemote → false ≡ bytes_eq bytes p → bytes_eq (known_program r ToRemote) p ≡ false
not_remote r p bytes remote e f t = subst (λ x. bytes_eq x p ≡ false) (e ∙ f) (sym t)
