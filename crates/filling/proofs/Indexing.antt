-- Preimages in the order of their hashes.
use Rattle.std.proofs.Common.{◌≡◌, ℕ, ◌+◌, ◌<◌, Bool, true, false, cond, ◌&&◌, List, length, drop, Option, Some, None, sym, ap, ◌∙◌, refl, get_or, nat_cmp, eq-eqb}
use Rattle.std.specs.Prelude.{if◌then◌else◌}
use Rattle.std.specs.Ordering.{is_eq}
use Rattle.std.specs.Cmp.Lexicographic.{slice_cmp}
use Rattle.std.specs.Str.{bytes_eq}
use Rattle.std.proofs.lemmas.Map.Text.{is_eq-slice_cmp}
use Rattle.std.specs.Option.{option_or}
use Rattle.sha2.specs.Sha256.{sha256}
use Rattle.claim.specs.Evidence.{is_preimage}
use Rattle.filling.specs.Filling.{preimage_of}
use Rattle.filling.proofs.Lists.{split}

moved : (o : Option (List ℕ)) (t : Bool) (x : List ℕ) (old : Option (List ℕ)) → option_or o (cond t (Some x) old) ≡ option_or (option_or o (if t then Some x else None)) old
moved (Some y) t x old = refl
moved None true x old = refl
moved None false x old = refl

tested : (x h : List ℕ) → length x ≡ 32 → is_preimage x h ≡ bytes_eq (sha256 x) h
tested x h l = ap (λ t. t && bytes_eq (sha256 x) h) (eq-eqb (length x) 32 l)

pub next : (old new : List ℕ → Option (List ℕ)) (given : List (List ℕ)) (i : ℕ) (d x key : List ℕ) → i < length given → x ≡ get_or given i d → length x ≡ 32 → key ≡ sha256 x → ((q : List ℕ) → new q ≡ cond (is_eq (slice_cmp nat_cmp key q)) (Some x) (old q)) → ((h : List ℕ) → option_or (preimage_of (drop i given) h) (old h) ≡ preimage_of given h) → (h : List ℕ) → option_or (preimage_of (drop (i + 1) given) h) (new h) ≡ preimage_of given h
next old new given i d x key b e l k u v h =
    ap (option_or (preimage_of (drop (i + 1) given) h)) (u h ∙ ap (λ t. cond t (Some x) (old h)) (is_eq-slice_cmp key h ∙ ap (λ y. bytes_eq y h) k ∙ sym (tested x h l)))
    ∙ moved (preimage_of (drop (i + 1) given) h) (is_preimage x h) x (old h)
    ∙ ap (λ g. option_or (preimage_of g h) (old h)) (sym (split given i d x b e)) ∙ v h
