-- An empty block gives a quiet side nothing, and a side is quiet after blocks that showed no preimage.
use Rattle.std.proofs.Common.{◌≡◌, ℕ, zero, suc, ◌+◌, ◌<◌, ◌≤◌, ◌==◌, Bool, true, false, ◌||◌, List, [], ◌∷◌, ◌++◌, map, length, reverse, drop, Option, Some, None, refl, sym, ap, subst, ◌∙◌, arith, append-nil}
use Rattle.std.specs.Prelude.{slice_get}
use Rattle.std.specs.Bool.{OnTrue}
use Rattle.std.proofs.lemmas.Bool.{eqb-true}
use Rattle.std.proofs.lemmas.List.{length-append, length-reverse, nil_from_length}
use Rattle.tx.specs.Fields.{Transaction}
use Rattle.chain.specs.Blocks.{Contents}
use Rattle.watch.specs.Watching.{Seen}
use Rattle.watch.specs.Lookouts.{IsSettled}
use Rattle.watch.specs.Settling.{ReadingSettles, EmptyBlocksGiveNothing}
use Rattle.book.specs.declared.calls.Entry.{Entry}
use Rattle.book.specs.Books.{ChannelBook, replay}
use Rattle.side.specs.declared.due.DueClaim.{DueClaim}
use Rattle.world.specs.Worlds.{Line, Node}
use Rattle.world.specs.Looking.{is_closed, ReadsChannel, quiet, sees, ReadsBlock, no_more, channel, Reading, IsAfter, Reads, all_read, block, Upward, reading_of, with_seen, with_reading}
use Rattle.world.specs.Quiet.{IsQuietIn, stands, gave, AreQuiet, IsQuiet}
use Rattle.world.proofs.Readings.{upward_step}

-- ---- an empty block

still_closed : (o : Option ChannelBook) (s : Seen) (txs : List Transaction) → is_closed o s txs ≡ false → is_closed o s [] ≡ false
still_closed None s txs e = refl
still_closed (Some ch) s txs e = first _ _ e
  where
    first : (a b : Bool) → (a || b) ≡ false → (a || false) ≡ false
    first true b e = absurd (cc)
    first false b e = refl

nothing_read : {history : List Entry} {learnt : List (List ℕ)} {c : ℕ} {s : Seen} → EmptyBlocksGiveNothing → (height : ℕ) → IsQuietIn history learnt c s → ReadsChannel history learnt height [] c s s [] []
nothing_read law height (stands unspent) = quiet unspent
nothing_read {s = s} law height (gave known knows given) =
    let none = law s height known given in
    sees known knows (record { claims = []; sight = none.0; seen = sym none.1; jobs_are = refl })

none_read : (history : List Entry) (learnt : List (List ℕ)) (height c : ℕ) (seen : List Seen) → EmptyBlocksGiveNothing → AreQuiet history learnt c seen → ReadsBlock history learnt height [] c seen seen [] []
none_read history learnt height c [] law q = no_more
none_read history learnt height c (s ∷ seen) law (here, rest) = channel (nothing_read law height here) (none_read history learnt height (c + 1) seen law rest)

after_none : (history : List Entry) (height : ℕ) (r : Reading) → EmptyBlocksGiveNothing → AreQuiet history r.learnt 0 r.seen → IsAfter history height [] r r
after_none history height r law q = record {
  jobs = [];
  shown = [];
  channels = none_read history r.learnt height 0 r.seen law q;
  jobs_are = sym (append-nil r.jobs);
  learnt_is = sym (append-nil r.learnt);
}

-- no transaction is in the block
pub none_in : (txs slice : List Transaction) → slice ≡ txs → (length slice == 0) ≡ true → txs ≡ []
none_in txs slice e h = sym e ∙ nil_from_length slice (eqb-true (length slice) 0 h)

pub upward_quiet : (history : List Entry) (blocks : List Contents) (from at : ℕ) (r now : Reading) (b : Contents) → EmptyBlocksGiveNothing → Upward history blocks from r at now → slice_get blocks (at + 1) ≡ Some b
    → reverse b.transactions ≡ [] → AreQuiet history now.learnt 0 now.seen → Upward history blocks from r (at + 1) now
upward_quiet history blocks from at r now b law upward there empty q =
    upward_step history blocks from at r now now b upward there
    (subst (λ (txs : List Transaction). IsAfter history (at + 1) txs now now) (sym empty) (after_none history (at + 1) now law q))

-- ---- after blocks

quiet_then : {history : List Entry} {learnt : List (List ℕ)} {height : ℕ} {txs : List Transaction} {c : ℕ} {older newer : Seen} {jobs : List DueClaim} {shown : List (List ℕ)}
    → ReadingSettles → ReadsChannel history learnt height txs c older newer jobs shown → IsQuietIn history learnt c newer
quiet_then {history} {learnt} {height} {txs} {c} {older} law (quiet unspent) = stands (still_closed (slice_get (replay history) c) older txs unspent)
quiet_then {history} {learnt} {height} {txs} {c} {older} law (sees known knows finds) =
    gave known knows (subst (λ (s : Seen). IsSettled s known) (sym finds.seen) (law older height txs known))

all_quiet : {history : List Entry} {learnt : List (List ℕ)} {height : ℕ} {txs : List Transaction} {c : ℕ} {older newer : List Seen} {jobs : List DueClaim} {shown : List (List ℕ)}
    → ReadingSettles → ReadsBlock history learnt height txs c older newer jobs shown → AreQuiet history learnt c newer
all_quiet law no_more = tt
all_quiet law (channel one rest) = (quiet_then law one, all_quiet law rest)

grew : {history : List Entry} {height : ℕ} {txs : List Transaction} {r next : Reading} (after : IsAfter history height txs r next) → length next.learnt ≡ length r.learnt + length after.shown
grew {r = r} after = ap length after.learnt_is ∙ length-append r.learnt after.shown

-- if a block showed nothing, what is known after it is what was known as it was read
quiet_after : {history : List Entry} {height : ℕ} {txs : List Transaction} {r next : Reading} → ReadingSettles → IsAfter history height txs r next → length next.learnt ≡ length r.learnt
    → AreQuiet history next.learnt 0 next.seen
quiet_after {history} {r = r} {next = next} law after long =
    let none : after.shown ≡ [] = nil_from_length after.shown (omega (arith, long, grew after)) in
    let same : next.learnt ≡ r.learnt = after.learnt_is ∙ ap (λ xs. r.learnt ++ xs) none ∙ append-nil r.learnt in
    subst (λ (xs : List (List ℕ)). AreQuiet history xs 0 next.seen) (sym same) (all_quiet law after.channels)

no_fewer : {history : List Entry} {height : ℕ} {blocks : List Contents} {r done : Reading} → Reads history height blocks r done → length r.learnt ≤ length done.learnt
no_fewer all_read = omega arith
no_fewer (block after rest) = let l = no_fewer rest in omega (arith, l, grew after)

-- so it is after blocks that showed nothing, if there was one, or if the side was quiet before
quiet_reads : {history : List Entry} {height : ℕ} {blocks : List Contents} {r done : Reading} → ReadingSettles → Reads history height blocks r done → length done.learnt ≡ length r.learnt
    → (blocks ≡ [] → AreQuiet history r.learnt 0 r.seen) → AreQuiet history done.learnt 0 done.seen
quiet_reads law all_read same before = before refl
quiet_reads law (block after rest) same before =
    let l = no_fewer rest in
    let g = grew after in
    quiet_reads law rest (omega (arith, same, l, g)) (λ e. quiet_after law after (omega (arith, same, l, g)))

-- ---- the side

-- the blocks that a side has not read
abbrev Unread : List Contents → Node → List Contents
Unread blocks n = drop (n.read + 1) (reverse blocks)

some_left : {A : Type 0} (xs : List A) (n : ℕ) → n < length xs → drop n xs ≡ [] → ⊥
some_left [] n l e = omega (arith, l)
some_left (x ∷ xs) zero l e = let long = ap length e in omega (arith, long)
some_left (x ∷ xs) (suc n) l e = some_left xs n (omega (arith, l)) e

-- a side that read a block
pub quiet_by_block : (n : Node) (blocks : List Contents) (p : Reading) → ReadingSettles → Reads n.history (n.read + 1) (Unread blocks n) (reading_of n) p → length p.learnt ≡ length n.learnt → n.read + 1 < length blocks
    → AreQuiet n.history p.learnt 0 p.seen
quiet_by_block n blocks p law reads same more =
    quiet_reads law reads same (λ e. absurd (some_left (reverse blocks) (n.read + 1) (omega (arith, more, length-reverse blocks)) e))

-- and one that was quiet before
pub still_quiet : (was : Bool) (n : Node) (blocks : List Contents) (p : Reading) → ReadingSettles → Reads n.history (n.read + 1) (Unread blocks n) (reading_of n) p → length p.learnt ≡ length n.learnt
    → OnTrue was (IsQuiet n) → OnTrue was (AreQuiet n.history p.learnt 0 p.seen)
still_quiet true n blocks p law reads same q = quiet_reads law reads same (λ e. q)
still_quiet false n blocks p law reads same q = tt

seen_of : (seen : List Seen) (lines : List Line) → length seen ≡ length lines → map (λ line. line.seen) (with_seen seen lines) ≡ seen
seen_of [] [] l = refl
seen_of [] (line ∷ lines) l = absurd (omega (arith, l))
seen_of (s ∷ seen) [] l = absurd (omega (arith, l))
seen_of (s ∷ seen) (line ∷ lines) l = ap (λ xs. s ∷ xs) (seen_of seen lines (omega (arith, l)))

-- a side that stored what was read
pub quiet_side : (is : Bool) (n done : Node) (height : ℕ) (r : Reading) → done ≡ with_reading height r n → length r.seen ≡ length n.lines → OnTrue is (AreQuiet n.history r.learnt 0 r.seen)
    → OnTrue is (IsQuiet done)
quiet_side true n done height r d l q = subst IsQuiet (sym d) (subst (λ (xs : List Seen). AreQuiet n.history r.learnt 0 xs) (sym (seen_of r.seen n.lines l)) q)
quiet_side false n done height r d l q = tt
