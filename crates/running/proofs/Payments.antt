-- The payment keys of all channels, one after the other.
use Rattle.std.proofs.Common.{◌≡◌, ℕ, zero, suc, ◌+◌, List, [], ◌∷◌, ◌++◌, map, take, Some, slice_get, sym, ap, ◌∙◌, add-one}
use Rattle.std.specs.Prelude.{option_map}
use Rattle.std.proofs.lemmas.List.{map-append}
use Rattle.keys.specs.declared.bases.Base.TheVariants.{Payment}
use Rattle.keys.specs.declared.compressed.Key.{Key}
use Rattle.keys.specs.Derivation.{base_key}
use Rattle.channel.specs.States.{State}
use Rattle.book.specs.Books.{Channels}
use Rattle.running.specs.Threads.{payments_in}

one_more : (chs : Channels) (i : ℕ) (s : State) → Some s ≡ option_map (λ ch. ch.state) (slice_get chs i) → payments_in (take (suc i) chs) ≡ payments_in (take i chs) ++ base_key s.seed Payment ∷ []
one_more [] i s there = absurd cc
one_more (ch ∷ chs) zero s there =
    let is : s ≡ ch.state = cc in
    ap (λ (t : State). base_key t.seed Payment ∷ []) (sym is)
one_more (ch ∷ chs) (suc i) s there = ap (λ (l : List (List ℕ)). base_key ch.state.seed Payment ∷ l) (one_more chs i s there)

pub payments_more : (chs : Channels) (i : ℕ) (s : State) (ks : List Key) (k : Key) → Some s ≡ option_map (λ ch. ch.state) (slice_get chs i) → k.bytes ≡ base_key s.seed Payment
    → map (λ k. k.bytes) ks ≡ payments_in (take i chs) → map (λ k. k.bytes) (ks ++ k ∷ []) ≡ payments_in (take (i + 1) chs)
payments_more chs i s ks k there is before =
    map-append (λ (k : Key). k.bytes) ks (k ∷ []) ∙ ap (λ (l : List (List ℕ)). l ++ k.bytes ∷ []) before ∙ ap (λ (b : List ℕ). payments_in (take i chs) ++ b ∷ []) is ∙ sym (one_more chs i s there)
    ∙ ap (λ (n : ℕ). payments_in (take n chs)) (sym (add-one i))
