use Rattle.std.proofs.Common.{ℕ, drop, sym, ◌∙◌, arith}
use Rattle.facts.specs.Symbols.{KeySource}
use Rattle.claim.specs.Evidence.{token_evidence, is_yes}
use Rattle.claim.proofs.Choosing.{greedy-choice, greedy-done, greedy-end}
use Rattle.claim.proofs.evidence.has_choice.Goals as goal

pub returns-then-taken-places : goal.returns-then-taken-places
returns-then-taken-places c =
    let p = λ (i : ℕ) (k : KeySource). is_yes (token_evidence c.args.known c.args.slots.now i k) in
    sym (greedy-done p c.args.places.now (drop c.loop-key.key-index c.args.keys.now) c.loop-key.taken (omega arith))
    ∙ c.loop-key.invariant.rest ∙ greedy-choice p c.args.places.now c.args.keys.now

pub returns : goal.returns
returns c =
    let p = λ (i : ℕ) (k : KeySource). is_yes (token_evidence c.args.known c.args.slots.now i k) in
    greedy-end p c.args.places.now c.args.keys.now c.loop-key.taken c.loop-key.key-index (omega arith) c.loop-key.invariant.within
    ∙ c.loop-key.invariant.rest ∙ greedy-choice p c.args.places.now c.args.keys.now
