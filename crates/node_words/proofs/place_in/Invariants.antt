use Rattle.std.proofs.Common.{◌≡◌, drop, bytes_eq}
use Rattle.std.specs.List.{position_from}
use Rattle.node_words.proofs.place_in.Given as goal

-- the first of those that are left is the first of all
abbrev pub invariant-loop-place : goal.invariant-loop-place
invariant-loop-place l = position_from (λ s. bytes_eq s.now l.text) l.place (drop l.place l.texts) ≡ position_from (λ s. bytes_eq s.now l.text) 0 l.texts
