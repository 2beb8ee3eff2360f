-- Slots are counted from the end of a witness.
use Rattle.std.proofs.Common.{◌≡◌, ℕ, ◌-◌, ◌<◌, ◌≤◌, List, [], length, reverse, sym, ap, ◌∙◌, arith}
use Rattle.std.proofs.Math.ListN.{get_or}
use Rattle.std.proofs.lemmas.List.{get_or-reverse, get_or_read, get_or_past, length-reverse}

pub read_from_the_end : (w : List (List ℕ)) (slot k : ℕ) (x : List ℕ) → slot < length w → k ≡ length w - 1 - slot → x ≡ get_or w k x → x ≡ get_or (reverse w) slot []
read_from_the_end w slot k x l e h = get_or_read w k x (omega arith) h [] ∙ ap (λ n. get_or w n []) e ∙ sym (get_or-reverse w slot [] l)

pub none_past_the_end : (w : List (List ℕ)) (slot : ℕ) → length w ≤ slot → [] ≡ get_or (reverse w) slot []
none_past_the_end w slot l = sym (get_or_past (reverse w) slot [] (omega (arith, length-reverse w)))
