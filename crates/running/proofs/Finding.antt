-- What a follower finds on a chain.
use Rattle.std.proofs.Common.{◌≡◌, ℕ, ◌<◌, ◌≤◌, true, false, length, reverse, slice_get, Option, Some, None, Result, arith, refl, sym, ◌∙◌, subst}
use Rattle.std.specs.declared.alloc.AllocError.{AllocError}
use Rattle.std.specs.Prelude.{IfOk, nat_lt}
use Rattle.std.proofs.lemmas.Bool.Decides.{nat_tests}
use Rattle.std.proofs.lemmas.Result.{IfOk-weaker}
use Rattle.chain.specs.Blocks.{Contents as Block}
use Rattle.node.specs.declared.pools.Pool.{Pool}
use Rattle.node.specs.Forks.{least_since}
use Rattle.running.specs.declared.watching.Follower.{Follower}
use Rattle.running.specs.declared.watching.Sight.{Sight}
use Rattle.running.specs.declared.watching.Sight.TheVariants.{Read, Back}
use Rattle.running.specs.Following.{IsNext, told_block, Finds, FindsSome, height_after}

-- ---- a block up to the top

pub not_told : (pool : Pool) (top height : ℕ) → top < height → None ≡ told_block pool top height
not_told pool top height above =
    let is : nat_lt top height ≡ true = grind (arith, nat_tests) in
    rw is refl

pub told : (pool : Pool) (top height : ℕ) (there : Option Block) → height ≤ top → there ≡ slice_get (reverse pool.chain.blocks) height → there ≡ told_block pool top height
told pool top height there within is =
    let no : nat_lt top height ≡ false = grind (arith, nat_tests) in
    rw no is

-- ---- what is found

pub finds_replaced : (pool : Pool) (top : ℕ) (f : Follower) (fork round : ℕ) → round ≡ length pool.forks.items → fork ≡ least_since f.round f.height pool.forks.items → (f.round ≡ round → ⊥)
    → Finds pool top f (Back f fork round)
finds_replaced pool top f fork round is least other =
    subst (λ (x : ℕ). Finds pool top f (Back f x round)) (sym least)
    (subst (λ (y : ℕ). Finds pool top f (Back f (least_since f.round f.height pool.forks.items) y)) (sym is) (Finds.replaced (λ e. other (e ∙ sym is))))

pub finds_none : (pool : Pool) (top : ℕ) (f : Follower) (height round : ℕ) → round ≡ length pool.forks.items → f.round ≡ round → height ≡ height_after f.height → told_block pool top height ≡ None
    → Finds pool top f (Read f)
finds_none pool top f height round is same next none = Finds.no_more (same ∙ is) (subst (λ (h : ℕ). told_block pool top h ≡ None) next none)

finds_one : (pool : Pool) (top : ℕ) (f : Follower) (height round : ℕ) (block : Block) (sight : Sight) → round ≡ length pool.forks.items → f.round ≡ round → height ≡ height_after f.height
    → told_block pool top height ≡ Some block → IsNext height (reverse block.transactions) f sight → Finds pool top f sight
finds_one pool top f height round block sight is same next there has =
    Finds.is_there block sight (same ∙ is) (subst (λ (h : ℕ). told_block pool top h ≡ Some block) next there)
    (subst (λ (h : ℕ). IsNext h (reverse block.transactions) f sight) next has)

pub finds_block : (pool : Pool) (top : ℕ) (f : Follower) (height round : ℕ) (block : Block) (r : Result Sight AllocError) → round ≡ length pool.forks.items → f.round ≡ round
    → height ≡ height_after f.height → told_block pool top height ≡ Some block → IfOk r (IsNext height (reverse block.transactions) f) → IfOk r (Finds pool top f)
finds_block pool top f height round block r is same next there has =
    IfOk-weaker r (IsNext height (reverse block.transactions) f) (Finds pool top f) (λ sight found. finds_one pool top f height round block sight is same next there found) has

pub finds_some : (pool : Pool) (top : ℕ) (f : Follower) (r : Result Sight AllocError) → IfOk r (Finds pool top f) → IfOk r (FindsSome top f)
finds_some pool top f r has = IfOk-weaker r (Finds pool top f) (FindsSome top f) (λ sight found. (pool, found)) has
