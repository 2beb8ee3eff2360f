-- One more call.
use Rattle.std.proofs.Common.{◌≡◌, ℕ, ◌+◌, ◌-◌, ◌<◌, ◌≤◌, cond, is_ok, OnErr, List, [], ◌∷◌, ◌++◌, length, take, get_or, Result, Ok, Err, sym, ap, ◌∙◌, refl, arith}
use Rattle.std.proofs.lemmas.List.{take_more}
use Rattle.chain.specs.declared.commands.Command.{Command}
use Rattle.chain.specs.declared.commands.Answer.{Answer}
use Rattle.chain.specs.Blocks.{Standing}
use Rattle.chain.specs.Replays.{Answered, Replays, ReplaysBefore}

pub one_more : (old mid new : Standing) (cs : List Command) (answers : List Answer) (c : Command) (a : Answer) → Replays old cs answers mid → Answered mid c a new → Replays old (cs ++ c ∷ []) (answers ++ a ∷ []) new
one_more old mid new [] [] c a r s = (new, rw r at s, refl)
one_more old mid new [] (x ∷ answers) c a r s = absurd r
one_more old mid new (d ∷ cs) [] c a r s = absurd r
one_more old mid new (d ∷ cs) (x ∷ answers) c a r s = (r.0, r.1, one_more r.0 mid new cs answers c a r.2 s)

pub next_replayed : (old mid new : Standing) (cs : List Command) (i : ℕ) (c : Command) (answers answers' : List Answer) (a : Answer) → c ≡ get_or cs i c → i < length cs → answers' ≡ answers ++ a ∷ [] → Replays old (take i cs) answers mid → Answered mid c a new → Replays old (take (i + 1) cs) answers' new
next_replayed old mid new cs i c answers answers' a e below pushed r s =
    rw (take_more cs i c below ∙ ap (λ x. take i cs ++ x ∷ []) (sym e), pushed) (one_more old mid new (take i cs) answers c a r s)

-- what is pushed in place
pub pushed : {T E X : Type 0} (r : Result T E) (x : T) (items a b : X) → r ≡ Ok x → items ≡ cond (is_ok r) a b → items ≡ a
pushed (Ok y) x items a b e h = h
pushed (Err y) x items a b e h = absurd cc

pub on_err : {T E : Type 0} {P : Type 0} (r : Result T E) → P → OnErr r P
on_err (Ok y) p = tt
on_err (Err y) p = p

pub none_made : (old : Standing) (cs : List Command) → ReplaysBefore old cs old
none_made old cs = (0, [], omega arith, refl)

pub made_before : (old mid new : Standing) (cs : List Command) (i : ℕ) (answers : List Answer) → i < length cs → Replays old (take i cs) answers mid → new ≡ mid → ReplaysBefore old cs new
made_before old mid new cs i answers below r e = (i, answers, omega (arith, below), rw e r)
