-- What a reader of blocks has is what the chain shows.
use Rattle.std.proofs.Common.{◌≡◌, ℕ, ◌+◌, ◌<◌, ◌≤◌, Bool, true, false, ◌||◌, List, [], ◌∷◌, ◌++◌, length, Option, Some, None, sym, ap, ◌∙◌, refl, arith}
use Rattle.std.specs.Prelude.{if◌then◌else◌}
use Rattle.std.specs.List.{list_any}
use Rattle.std.proofs.lemmas.Bool.{false≢true}
use Rattle.tx.specs.declared.input.OutPoint.{OutPoint}
use Rattle.tx.specs.declared.input.TxIn.{TxIn}
use Rattle.tx.specs.Fields.{Transaction, same_outpoint}
use Rattle.chain.specs.Blocks.{Contents as Block, names, is_named}
use Rattle.chain.proofs.Noting.{swapped}
use Rattle.sights.specs.declared.sighted.Stage.{Stage}
use Rattle.sights.specs.declared.sighted.Stage.TheVariants.{Close}
use Rattle.sights.specs.declared.sighted.Sighted.{Sighted}
use Rattle.sights.specs.Sights.{is_funding, stage_after, stage_at, stage_by, is_close, is_there, stage_of_several, stage_by_all, read_as, read_one, read_block, sights_in, up_to}
use Rattle.sights.specs.Following.{SightsFollow}
use Rattle.sights.proofs.Reading.{no_less, less}

-- ---- the blocks above a height are taken off

strip_one : (low height : ℕ) (stage : Option Stage) (t : Transaction) (ss : List Sighted) → low < height → up_to low (read_as stage height t ss) ≡ up_to low ss
strip_one low height None t ss h = refl
strip_one low height (Some stage) t ss h = ap (λ (b : Bool). if b then up_to low ss else record { height = height; stage = stage; tx = t } ∷ ss) (less low height h)

strip_block : (fundings : List OutPoint) (low height : ℕ) (ts : List Transaction) (ss : List Sighted) → low < height → up_to low (read_block fundings height ts ss) ≡ up_to low ss
strip_block fundings low height [] ss h = refl
strip_block fundings low height (t ∷ ts) ss h =
    strip_one low height (stage_by_all fundings (read_block fundings height ts ss) t.inputs) t (read_block fundings height ts ss) h ∙ strip_block fundings low height ts ss h

low_one : (top height : ℕ) (stage : Option Stage) (t : Transaction) (ss : List Sighted) → height ≤ top → up_to top ss ≡ ss → up_to top (read_as stage height t ss) ≡ read_as stage height t ss
low_one top height None t ss h e = e
low_one top height (Some stage) t ss h e = ap (λ (b : Bool). if b then up_to top ss else record { height = height; stage = stage; tx = t } ∷ ss) (no_less top height h)

low_block : (fundings : List OutPoint) (top height : ℕ) (ts : List Transaction) (ss : List Sighted) → height ≤ top → up_to top ss ≡ ss → up_to top (read_block fundings height ts ss) ≡ read_block fundings height ts ss
low_block fundings top height [] ss h e = e
low_block fundings top height (t ∷ ts) ss h e =
    low_one top height (stage_by_all fundings (read_block fundings height ts ss) t.inputs) t (read_block fundings height ts ss) h (low_block fundings top height ts ss h e)

low_all : (fundings : List OutPoint) (top : ℕ) (blocks : List Block) → length blocks ≤ 1 + top → up_to top (sights_in fundings blocks) ≡ sights_in fundings blocks
low_all fundings top [] h = refl
low_all fundings top (b ∷ older) h = low_block fundings top (length older) b.transactions (sights_in fundings older) (omega (arith, h)) (low_all fundings top older (omega (arith, h)))

above : (newer older : List Block) (b : Block) → length older < length (newer ++ b ∷ older)
above [] older b = omega arith
above (n ∷ newer) older b = let h = above newer older b in omega (arith, h)

disconnected : (fundings : List OutPoint) (newer : List Block) (b : Block) (older : List Block) → up_to (length older) (sights_in fundings (newer ++ b ∷ older)) ≡ sights_in fundings (b ∷ older)
disconnected fundings [] b older = low_all fundings (length older) (b ∷ older) (omega arith)
disconnected fundings (n ∷ newer) b older =
    strip_block fundings (length older) (length (newer ++ b ∷ older)) n.transactions (sights_in fundings (newer ++ b ∷ older)) (above newer older b) ∙ disconnected fundings newer b older

-- ---- one more channel

neither : (a b : Bool) → (a || b) ≡ false → (a ≡ false) × (b ≡ false)
neither true b e = absurd (false≢true (sym e))
neither false b e = (refl, e)

stage_same : (fundings : List OutPoint) (o : OutPoint) (ss : List Sighted) (i : TxIn) → same_outpoint i.outpoint o ≡ false → stage_by (o ∷ fundings) ss i ≡ stage_by fundings ss i
stage_same fundings o ss i e = ap (λ (b : Bool). if b || is_funding fundings i.outpoint then Some Close else stage_after (stage_at i.outpoint.txid ss)) (swapped o i.outpoint ∙ e)

any_same : (test : Option Stage → Bool) (fundings : List OutPoint) (o : OutPoint) (ss : List Sighted) (is : List TxIn) → list_any (λ i. same_outpoint i.outpoint o) is ≡ false
    → list_any (λ i. test (stage_by (o ∷ fundings) ss i)) is ≡ list_any (λ i. test (stage_by fundings ss i)) is
any_same test fundings o ss [] e = refl
any_same test fundings o ss (i ∷ is) e =
    let parts = neither (same_outpoint i.outpoint o) (list_any (λ j. same_outpoint j.outpoint o) is) e in
    ap (λ (s : Option Stage). test s || list_any (λ j. test (stage_by (o ∷ fundings) ss j)) is) (stage_same fundings o ss i parts.0)
    ∙ ap (λ (b : Bool). test (stage_by fundings ss i) || b) (any_same test fundings o ss is parts.1)

all_same : (fundings : List OutPoint) (o : OutPoint) (ss : List Sighted) (is : List TxIn) → list_any (λ i. same_outpoint i.outpoint o) is ≡ false → stage_by_all (o ∷ fundings) ss is ≡ stage_by_all fundings ss is
all_same fundings o ss [] e = refl
all_same fundings o ss (i ∷ []) e = stage_same fundings o ss i (neither (same_outpoint i.outpoint o) false e).0
all_same fundings o ss (i ∷ j ∷ is) e =
    ap (λ (b : Bool). stage_of_several b (list_any (λ x. is_there (stage_by (o ∷ fundings) ss x)) (i ∷ j ∷ is))) (any_same is_close fundings o ss (i ∷ j ∷ is) e)
    ∙ ap (λ (b : Bool). stage_of_several (list_any (λ x. is_close (stage_by fundings ss x)) (i ∷ j ∷ is)) b) (any_same is_there fundings o ss (i ∷ j ∷ is) e)

block_same : (fundings : List OutPoint) (o : OutPoint) (height : ℕ) (ts : List Transaction) (ss : List Sighted) → list_any (names o) ts ≡ false → read_block (o ∷ fundings) height ts ss ≡ read_block fundings height ts ss
block_same fundings o height [] ss e = refl
block_same fundings o height (t ∷ ts) ss e =
    let parts = neither (names o t) (list_any (names o) ts) e in
    ap (λ (x : List Sighted). read_one (o ∷ fundings) height t x) (block_same fundings o height ts ss parts.1)
    ∙ ap (λ (s : Option Stage). read_as s height t (read_block fundings height ts ss)) (all_same fundings o (read_block fundings height ts ss) t.inputs parts.0)

opened : (fundings : List OutPoint) (o : OutPoint) (blocks : List Block) → is_named blocks o ≡ false → sights_in (o ∷ fundings) blocks ≡ sights_in fundings blocks
opened fundings o [] e = refl
opened fundings o (b ∷ older) e =
    let parts = neither (list_any (names o) b.transactions) (is_named older o) e in
    ap (λ (x : List Sighted). read_block (o ∷ fundings) (length older) b.transactions x) (opened fundings o older parts.1)
    ∙ block_same fundings o (length older) b.transactions (sights_in fundings older) parts.0

pub sights_follow : SightsFollow
sights_follow = record { block = λ fundings b older. refl; disconnect = disconnected; opening = opened }
