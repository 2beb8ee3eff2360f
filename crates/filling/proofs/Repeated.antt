-- Claims on one outpoint, one claim after another.
use Rattle.std.proofs.Common.{◌≡◌, ℕ, ◌+◌, ◌<◌, ◌≤◌, Bool, true, false, cond, List, length, map, drop, sym, ap, ◌∙◌, get_or, nat_cmp, Bor}
use Rattle.std.specs.Ordering.{is_eq}
use Rattle.std.specs.Cmp.Lexicographic.{slice_cmp}
use Rattle.std.proofs.lemmas.List.{drop_all}
use Rattle.tx.specs.Spelling.{outpoint}
use Rattle.claim.specs.Claims.{ClaimParts}
use Rattle.filling.specs.Refusals.{share_outpoint}
use Rattle.filling.proofs.Lists.{split}
use Rattle.filling.proofs.Repeats.{repeats_with, repeats-all, repeats-hit, repeats-next}

abbrev pub texts : List (Bor ClaimParts) → List (List ℕ)
texts claims = map (λ c. outpoint c.place.outpoint) (map (λ c. c.now) claims)

text : Bor ClaimParts → List ℕ
text c = outpoint c.now.place.outpoint

pub hit : (seen : List ℕ → Bool) (claims : List (Bor ClaimParts)) (i : ℕ) (d c : Bor ClaimParts) (key : List ℕ) → i < length claims → c ≡ get_or claims i d → key ≡ outpoint c.now.place.outpoint → seen key ≡ true → repeats_with seen (texts (drop i claims)) ≡ repeats_with (λ x. false) (texts claims) → true ≡ share_outpoint (map (λ c. c.now) claims)
hit seen claims i d c key h e k s v =
    sym (repeats-hit seen (outpoint c.now.place.outpoint) (texts (drop (i + 1) claims)) (ap seen (sym k) ∙ s))
    ∙ ap (λ l. repeats_with seen (texts l)) (sym (split claims i d c h e)) ∙ v ∙ repeats-all (texts claims)

pub next : (seen after : List ℕ → Bool) (claims : List (Bor ClaimParts)) (i : ℕ) (d c : Bor ClaimParts) (key : List ℕ) → i < length claims → c ≡ get_or claims i d → key ≡ outpoint c.now.place.outpoint → seen key ≡ false → ((q : List ℕ) → after q ≡ cond (is_eq (slice_cmp nat_cmp key q)) true (seen q)) → repeats_with seen (texts (drop i claims)) ≡ repeats_with (λ x. false) (texts claims) → repeats_with after (texts (drop (i + 1) claims)) ≡ repeats_with (λ x. false) (texts claims)
next seen after claims i d c key h e k s u v =
    repeats-next seen after (outpoint c.now.place.outpoint) (texts (drop (i + 1) claims)) (ap seen (sym k) ∙ s) (λ q. u q ∙ ap (λ b. cond (is_eq (slice_cmp nat_cmp b q)) true (seen q)) k)
    ∙ ap (λ l. repeats_with seen (texts l)) (sym (split claims i d c h e)) ∙ v

pub end : (seen : List ℕ → Bool) (claims : List (Bor ClaimParts)) (i : ℕ) → length claims ≤ i → repeats_with seen (texts (drop i claims)) ≡ repeats_with (λ x. false) (texts claims) → false ≡ share_outpoint (map (λ c. c.now) claims)
end seen claims i h v = ap (λ l. repeats_with seen (texts l)) (sym (drop_all i claims h)) ∙ v ∙ repeats-all (texts claims)
