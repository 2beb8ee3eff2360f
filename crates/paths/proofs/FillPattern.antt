-- A pattern that is filled lists what the filled script does.
use Rattle.std.proofs.Common.{◌≡◌, ℕ, zero, suc, ◌+◌, ◌≤◌, Bool, true, false, ◌&&◌, List, [], ◌∷◌, length, map, drop, Option, Some, None, Result, Ok, Err, sym, ap, subst, ◌∙◌, refl, inl, inr, get_or, arith}
use Rattle.std.specs.Prelude.{nat_le, nat_lt, if◌then◌else◌, All}
use Rattle.std.proofs.lemmas.List.{length-append}
use Rattle.std.proofs.lemmas.List.Elements.{All-nil, All-cons}
use Rattle.script.specs.declared.opcode.Op.{Op}
use Rattle.script.specs.declared.opcode.Op.TheVariants.{Push, Number as SmallNumber}
use Rattle.script.specs.declared.stops.Cause.{Cause}
use Rattle.script.specs.declared.limits.TheConstants.{MAX_OPS_PER_SCRIPT, MAX_SCRIPT_SIZE}
use Rattle.script.specs.Number.{minimal_bytes_of}
use Rattle.script.specs.Spelling.{IsOp, payload_of, spelling}
use Rattle.script.specs.Step.{result_if, ◌>>=◌}
use Rattle.script.specs.Run.{counted_in, open_ifs_after, op_count}
use Rattle.facts.specs.declared.symbols.SymOver.TheVariants.{Const}
use Rattle.paths.specs.declared.constants.HoleKind.{HoleKind}
use Rattle.paths.specs.declared.constants.HoleKind.TheVariants.{Key as ForKey, Hash as ForHash, Number as ForNumber}
use Rattle.paths.specs.declared.errors.CheckError.{CheckError}
use Rattle.paths.specs.declared.errors.CheckError.TheVariants.{NoMemory, OpenBranch, TooManyOps, Undecided, TooManyPaths, TooTall}
use Rattle.paths.specs.Answers.{IfRefused}
use Rattle.paths.specs.declared.pieces.Piece.{Piece}
use Rattle.paths.specs.declared.pieces.Piece.TheVariants.{Op as Fixed, KeyHole, HashHole, NumHole}
use Rattle.paths.specs.declared.pieces.Fill.{Fill}
use Rattle.paths.specs.declared.pieces.Fill.TheVariants.{Key, Hash, Num}
use Rattle.paths.specs.declared.pieces.PatternError.{PatternError}
use Rattle.paths.specs.declared.pieces.PatternError.TheVariants.{Check, TooLong, BadOpcode}
use Rattle.paths.specs.declared.state.PatternPath.{PatternPath}
use Rattle.paths.specs.Plain.{State}
use Rattle.paths.specs.Maps.{in_state}
use Rattle.paths.specs.Rules.{plain, rule_of, check_multi_sig, push, goes_on}
use Rattle.paths.specs.Holes.{with_holes, filling, fits, blank, pushed_by, pushed_at, hole_bytes, State as HoleState}
use Rattle.paths.specs.HoleRules.{rule_of as hole_rule_of, check_multi_sig as hole_check_multi_sig}
use Rattle.paths.specs.Walk.{walk_all}
use Rattle.paths.specs.Listing.{guide as plain_guide, is_balanced, balanced_with, listing}
use Rattle.paths.specs.HoleListing.{guide as hole_guide, hole_at, rule_by, pattern_listing}
use Rattle.paths.specs.Filling.{filled_path, filled_paths}
use Rattle.paths.specs.Patterns.{hole_of, op_of, is_op, all_ops, longest_of, longest, as_pattern, pattern_of, op_by, number_op, takes, also, filled_by, filled, IsPatternRefusal}
use Rattle.paths.proofs.MapWords.{Agrees}
use Rattle.paths.proofs.MapRules.{in_step, rule_agrees}
use Rattle.paths.proofs.MapWalk.{Follows, follows_if, IsPush, IsSame, Alike, walk_all-follows}
use Rattle.paths.proofs.FillRespects.{filling_respects, key_length, hash_length}
use Rattle.paths.proofs.FillListing.{filled_ends}
use Rattle.paths.proofs.FillNumbers.{pushed_number-fits, number_short}

-- a list from a position on
dropped_first : {A : Type 0} (xs : List A) (at : ℕ) (d x : A) (ys : List A) → drop at xs ≡ x ∷ ys → get_or xs at d ≡ x
dropped_first [] zero d x ys e = absurd (cc)
dropped_first [] (suc at) d x ys e = absurd (cc)
dropped_first (y ∷ xs) zero d x ys e = cc
dropped_first (y ∷ xs) (suc at) d x ys e = dropped_first xs at d x ys e

dropped_rest : {A : Type 0} (xs : List A) (at : ℕ) (x : A) (ys : List A) → drop at xs ≡ x ∷ ys → drop (suc at) xs ≡ ys
dropped_rest [] zero x ys e = absurd (cc)
dropped_rest [] (suc at) x ys e = absurd (cc)
dropped_rest (y ∷ xs) zero x ys e = cc
dropped_rest (y ∷ xs) (suc at) x ys e = dropped_rest xs at x ys e

next_position : (at : ℕ) → at + 1 ≡ suc at
next_position at = omega arith

-- a hole takes what its fill pushes
takes_fits : (kind : HoleKind) (f : Fill) → takes kind f ≡ true → fits kind (pushed_by (op_by f)) ≡ true
takes_fits ForKey (Key k) e = e
takes_fits ForHash (Hash h) e = e
takes_fits ForNumber (Num n) e = pushed_number-fits n e
takes_fits kind f e = absurd (cc)

-- a fill is pushed, and nothing else
fill_rule : (counted : ℕ) (f : Fill) (s : State) → rule_of counted (op_by f) s ≡ goes_on (push (Const (pushed_by (op_by f))) s)
unfolding rule_of
fill_rule counted (Key k) s = refl
fill_rule counted (Hash h) s = refl
fill_rule counted (Num n) s = go (nat_le 1 n && nat_le n 16)
  where
    go : (b : Bool) → rule_of counted (if b then SmallNumber n else Push (minimal_bytes_of n)) s ≡ goes_on (push (Const (pushed_by (if b then SmallNumber n else Push (minimal_bytes_of n)))) s)
    go true = refl
    go false = refl

record Also (op : Op) (r : Option (List Op)) (rest : List Op) : Type 0 where
  more : List Op
  left : r ≡ Some more
  now : rest ≡ op ∷ more

also_some : (op : Op) (r : Option (List Op)) (rest : List Op) → also op r ≡ Some rest → Also op r rest
also_some op None rest e = absurd (cc)
also_some op (Some more) rest e = record { more = more; left = refl; now = cc }

record Filled (kind : HoleKind) (go : List Fill → Option (List Op)) (rest : List Op) : Type 0 where
  f : Fill
  fills : List Fill
  taken : takes kind f ≡ true
  pushed : Also (op_by f) (go fills) rest

filled_some : (kind : HoleKind) (op : Op) (fills : List Fill) (go : List Fill → Option (List Op)) (rest : List Op) → filled_by (Some kind) op fills go ≡ Some rest → Filled kind go rest
filled_some kind op [] go rest e = absurd (cc)
filled_some kind op (f ∷ fills) go rest e = by (takes kind f) refl e
  where
    by : (b : Bool) → takes kind f ≡ b → (if b then also (op_by f) (go fills) else None) ≡ Some rest → Filled kind go rest
    by true t h = record { f = f; fills = fills; taken = t; pushed = also_some (op_by f) (go fills) rest h }
    by false t h = absurd (cc)

-- what stands in the place of a hole is what its fill pushes
hole_filled : (whole : List Op) (kind : HoleKind) (at : ℕ) (f : Fill) (rest : List Op) → takes kind f ≡ true → drop at whole ≡ op_by f ∷ rest → hole_bytes whole kind at ≡ pushed_by (op_by f)
hole_filled whole kind at f rest t e =
    let first : pushed_at whole at ≡ pushed_by (op_by f) = ap pushed_by (dropped_first whole at (Push []) (op_by f) rest e) in
    let fit : fits kind (pushed_at whole at) ≡ true = ap (fits kind) first ∙ takes_fits kind f t in
    ap (λ b. if b then pushed_at whole at else blank kind) fit ∙ first

module _ (holes : List (Option HoleKind)) (whole : List Op) (counted : ℕ) where
  abbrev alike : ℕ → List Op → List Op → Type 0
  alike at ops rest = Alike false (filling whole) (filled_path whole) (hole_guide holes) plain_guide counted at ops rest

  -- at a hole, and elsewhere
  at_hole : (kind : HoleKind) (at : ℕ) (f : Fill) (rest : List Op) (s : HoleState) → takes kind f ≡ true → drop at whole ≡ op_by f ∷ rest → (k : Option HoleKind) → k ≡ Some kind → Agrees false (in_step (filling whole)) (rule_by k counted at (Push []) s) (rule_of counted (op_by f) (in_state (filling whole) s))
  at_hole kind at f rest s t e k h =
      subst (λ o. Agrees false (in_step (filling whole)) (rule_by o counted at (Push []) s) (rule_of counted (op_by f) (in_state (filling whole) s))) (sym h) (
      fill_rule counted f (in_state (filling whole) s) ∙ ap (λ b. goes_on (push (Const b) (in_state (filling whole) s))) (sym (hole_filled whole kind at f rest t e)))

  at_op : (op : Op) (at : ℕ) (s : HoleState) (k : Option HoleKind) → k ≡ None → Agrees false (in_step (filling whole)) (rule_by k counted at op s) (rule_of counted op (in_state (filling whole) s))
  unfolding rule_of hole_rule_of check_multi_sig hole_check_multi_sig
  at_op op at s k h =
      subst (λ o. Agrees false (in_step (filling whole)) (rule_by o counted at op s) (rule_of counted op (in_state (filling whole) s))) (sym h) (
      rule_agrees false (filling whole) with_holes plain (filling_respects whole) counted op s)

-- opcodes that only push
push_item : (item : List ℕ) → length item ≤ 75 → IsPush (Push item)
push_item item h = record { skips = λ stop depth rest. refl; opens = λ ifs. refl; weighs = ap (λ b. if b then 1 else 0) light }
  where
    light : nat_lt 0x60 (length item) ≡ false
    light = grind (arith, h)

push_number : (n : ℕ) → n ≤ 16 → IsPush (SmallNumber n)
push_number n h = record { skips = λ stop depth rest. refl; opens = λ ifs. refl; weighs = ap (λ b. if b then 1 else 0) light }
  where
    light : nat_lt 0x60 (0x50 + n) ≡ false
    light = grind (arith, h)

fill_push : (kind : HoleKind) (f : Fill) → takes kind f ≡ true → IsPush (op_by f)
fill_push ForKey (Key k) e = push_item k (omega (arith, key_length k e))
fill_push ForHash (Hash h) e = push_item h (omega (arith, hash_length h e))
fill_push ForNumber (Num n) e = go (nat_le 1 n && nat_le n 16) refl
  where
    go : (b : Bool) → (nat_le 1 n && nat_le n 16) ≡ b → IsPush (if b then SmallNumber n else Push (minimal_bytes_of n))
    go true t = push_number n (grind (arith, t))
    go false t = push_item (minimal_bytes_of n) (omega (arith, number_short n e))
fill_push kind f e = absurd (cc)

module _ (holes : List (Option HoleKind)) (whole : List Op) (counted : ℕ) where
  moved : {A : Type 0} (xs : List A) (at : ℕ) (x : A) (ys : List A) → drop at xs ≡ x ∷ ys → drop (at + 1) xs ≡ ys
  moved xs at x ys e = ap (λ k. drop k xs) (next_position at) ∙ dropped_rest xs at x ys e

  alike_hole : (kind : HoleKind) (at : ℕ) (ops : List Op) (others : List (Option HoleKind)) (go : List Fill → Option (List Op)) (fills : List Fill) (rest : List Op) → drop at holes ≡ Some kind ∷ others → drop at whole ≡ rest → filled_by (Some kind) (Push []) fills go ≡ Some rest → ((fs : List Fill) (more : List Op) → drop (at + 1) holes ≡ others → drop (at + 1) whole ≡ more → go fs ≡ Some more → alike holes whole counted (at + 1) ops more) → alike holes whole counted at (Push [] ∷ ops) rest
  alike_hole kind at ops others go fills rest hs ws e on =
      let h = filled_some kind (Push []) fills go rest e in
      let a = h.pushed in
      let here : drop at whole ≡ op_by h.f ∷ a.more = ws ∙ a.now in
      let hole : hole_at holes at ≡ Some kind = dropped_first holes at None (Some kind) others hs in
      subst (alike holes whole counted at (Push [] ∷ ops)) (sym a.now) (
        inr (push_item [] (omega arith), fill_push kind h.f h.taken),
        λ s. at_hole holes whole counted kind at h.f a.more s h.taken here (hole_at holes at) hole,
        on h.fills a.more (moved holes at (Some kind) others hs) (moved whole at (op_by h.f) a.more here) a.left,
      )

  alike_filled : (at : ℕ) (pieces : List Piece) (fills : List Fill) (rest : List Op) → drop at holes ≡ map hole_of pieces → drop at whole ≡ rest → filled pieces fills ≡ Some rest → alike holes whole counted at (map op_of pieces) rest
  alike_filled at [] [] rest hs ws e = let none : [] ≡ rest = cc in subst (alike holes whole counted at []) none tt
  alike_filled at [] (f ∷ fills) rest hs ws e = absurd (cc)
  alike_filled at (Fixed op ∷ pieces) fills rest hs ws e =
      let a = also_some op (filled pieces fills) rest e in
      let here : drop at whole ≡ op ∷ a.more = ws ∙ a.now in
      let hole : hole_at holes at ≡ None = dropped_first holes at None None (map hole_of pieces) hs in
      subst (alike holes whole counted at (op ∷ map op_of pieces)) (sym a.now) (
        inl refl,
        λ s. at_op holes whole counted op at s (hole_at holes at) hole,
        alike_filled (at + 1) pieces fills a.more (moved holes at None (map hole_of pieces) hs) (moved whole at op a.more here) a.left,
      )
  alike_filled at (KeyHole ∷ pieces) fills rest hs ws e = alike_hole ForKey at (map op_of pieces) (map hole_of pieces) (filled pieces) fills rest hs ws e (λ fs more h w l. alike_filled (at + 1) pieces fs more h w l)
  alike_filled at (HashHole ∷ pieces) fills rest hs ws e = alike_hole ForHash at (map op_of pieces) (map hole_of pieces) (filled pieces) fills rest hs ws e (λ fs more h w l. alike_filled (at + 1) pieces fs more h w l)
  alike_filled at (NumHole ∷ pieces) fills rest hs ws e = alike_hole ForNumber at (map op_of pieces) (map hole_of pieces) (filled pieces) fills rest hs ws e (λ fs more h w l. alike_filled (at + 1) pieces fs more h w l)

  -- branches close the same way, and the same number of opcodes count
  both_ways : (r : Result (List Bool) Cause) (go go' : List Bool → Bool) → ((ifs : List Bool) → go ifs ≡ go' ifs) → balanced_with r go ≡ balanced_with r go'
  both_ways (Ok ifs) go go' h = h ifs
  both_ways (Err c) go go' h = refl

  open_alike : (op op' : Op) (ops ops' : List Op) → IsSame op op' → ((ifs : List Bool) → is_balanced ops ifs ≡ is_balanced ops' ifs) → (ifs : List Bool) → is_balanced (op ∷ ops) ifs ≡ is_balanced (op' ∷ ops') ifs
  open_alike op op' ops ops' (inl e) h ifs = both_ways (open_ifs_after op ifs) (is_balanced ops) (is_balanced ops') h ∙ ap (λ o. balanced_with (open_ifs_after o ifs) (is_balanced ops')) e
  open_alike op op' ops ops' (inr p) h ifs = ap (λ r. balanced_with r (is_balanced ops)) (p.0.opens ifs) ∙ h ifs ∙ sym (ap (λ r. balanced_with r (is_balanced ops')) (p.1.opens ifs))

  balanced_alike : (at : ℕ) (ops ops' : List Op) → alike holes whole counted at ops ops' → (ifs : List Bool) → is_balanced ops ifs ≡ is_balanced ops' ifs
  balanced_alike at [] [] a ifs = refl
  balanced_alike at [] (op' ∷ ops') a ifs = absurd a
  balanced_alike at (op ∷ ops) [] a ifs = absurd a
  balanced_alike at (op ∷ ops) (op' ∷ ops') a ifs = open_alike op op' ops ops' a.0 (balanced_alike (at + 1) ops ops' a.2) ifs

  weigh_alike : (op op' : Op) → IsSame op op' → op_count op ≡ op_count op'
  weigh_alike op op' (inl e) = ap op_count e
  weigh_alike op op' (inr p) = p.0.weighs ∙ sym p.1.weighs

  counted_alike : (at : ℕ) (ops ops' : List Op) → alike holes whole counted at ops ops' → counted_in ops ≡ counted_in ops'
  counted_alike at [] [] a = refl
  counted_alike at [] (op' ∷ ops') a = absurd a
  counted_alike at (op ∷ ops) [] a = absurd a
  counted_alike at (op ∷ ops) (op' ∷ ops') a = ap (λ n. n + counted_in ops) (weigh_alike op op' a.0) ∙ ap (λ n. op_count op' + n) (counted_alike (at + 1) ops ops' a.2)

-- the filled script lists what the pattern does, filled
pub filled_listing : (pieces : List Piece) (fills : List Fill) (ops : List Op) (paths : List PatternPath) → pattern_listing (map hole_of pieces) (map op_of pieces) ≡ Ok paths → filled pieces fills ≡ Some ops → listing ops ≡ Ok (filled_paths ops paths)
unfolding listing pattern_listing
filled_listing pieces fills ops paths h e =
    let holes = map hole_of pieces in
    let bare = map op_of pieces in
    let n = counted_in bare in
    let a = alike_filled holes ops n 0 pieces fills ops refl refl e in
    let count : counted_in bare ≡ counted_in ops = counted_alike holes ops n 0 bare ops a in
    let follows : Follows false (filled_paths ops) (pattern_listing holes bare) (listing ops) =
    follows_if false (filled_paths ops) (is_balanced bare []) (is_balanced ops []) _ _ _ (balanced_alike holes ops n 0 bare ops a []) (
    follows_if false (filled_paths ops) (nat_le (counted_in bare) MAX_OPS_PER_SCRIPT) (nat_le (counted_in ops) MAX_OPS_PER_SCRIPT) _ _ _ (ap (λ k. nat_le k MAX_OPS_PER_SCRIPT) count) (
    subst (λ k. Follows false (filled_paths ops) (walk_all (hole_guide holes) n bare) (walk_all plain_guide k ops)) count (
    walk_all-follows false (filling ops) (filled_path ops) (hole_guide holes) plain_guide n (filled_ends ops holes n) bare ops a))) in
    subst (λ r. Follows false (filled_paths ops) r (listing ops)) h follows

-- the opcodes of a filled pattern are valid, and their bytes are at most the greatest length of the pattern
valid_op : (op : Op) → is_op op ≡ true → IsOp op
valid_op (Push item) e = grind (arith, e)
valid_op (SmallNumber n) e = grind (arith, e)
valid_op op e = tt

and_both : (x y : Bool) → (x && y) ≡ true → (x ≡ true) × (y ≡ true)
and_both true y e = (refl, e)
and_both false y e = absurd (cc)

record Spelt (pieces : List Piece) (ops : List Op) : Type 0 where
  valid : All IsOp ops
  short : length (spelling ops) ≤ longest pieces

-- a fill's opcode, and its bytes
record SpeltFill (most : ℕ) (op : Op) : Type 0 where
  valid : IsOp op
  short : 1 + length (payload_of op) ≤ most

spelt_more : (p : Piece) (pieces : List Piece) (op : Op) (ops : List Op) → SpeltFill (longest_of p) op → Spelt pieces ops → Spelt (p ∷ pieces) (op ∷ ops)
spelt_more p pieces op ops f s = record {
  valid = All-cons IsOp op ops f.valid s.valid;
  short = let both = length-append (payload_of op) (spelling ops) in omega (arith, both, f.short, s.short);
}

-- the greatest number of bytes of a fill
abbrev most_for : HoleKind → ℕ
most_for ForKey = 34
most_for ForHash = 21
most_for ForNumber = 5

fill_spelt : (kind : HoleKind) (f : Fill) → takes kind f ≡ true → (most : ℕ) → most ≡ most_for kind → SpeltFill most (op_by f)
fill_spelt ForKey (Key k) e most h = let l = key_length k e in record { valid = omega (arith, l); short = omega (arith, l, h) }
fill_spelt ForHash (Hash b) e most h = let l = hash_length b e in record { valid = omega (arith, l); short = omega (arith, l, h) }
fill_spelt ForNumber (Num n) e most h = go (nat_le 1 n && nat_le n 16) refl
  where
    go : (b : Bool) → (nat_le 1 n && nat_le n 16) ≡ b → SpeltFill most (if b then SmallNumber n else Push (minimal_bytes_of n))
    go true t = record { valid = grind (arith, t); short = omega (arith, h) }
    go false t = let l = number_short n e in record { valid = omega (arith, l); short = omega (arith, l, h) }
fill_spelt kind f e most h = absurd (cc)

spelt_hole : (p : Piece) (kind : HoleKind) (pieces : List Piece) (fills : List Fill) (rest : List Op) → longest_of p ≡ most_for kind → filled_by (Some kind) (Push []) fills (filled pieces) ≡ Some rest → ((fs : List Fill) (more : List Op) → filled pieces fs ≡ Some more → Spelt pieces more) → Spelt (p ∷ pieces) rest
spelt_hole p kind pieces fills rest l e on =
    let h = filled_some kind (Push []) fills (filled pieces) rest e in
    let a = h.pushed in
    subst (Spelt (p ∷ pieces)) (sym a.now) (spelt_more p pieces (op_by h.f) a.more (fill_spelt kind h.f h.taken (longest_of p) l) (on h.fills a.more a.left))

filled_spelt : (pieces : List Piece) (fills : List Fill) (rest : List Op) → all_ops pieces ≡ true → filled pieces fills ≡ Some rest → Spelt pieces rest
filled_spelt [] [] rest t e = let none : [] ≡ rest = cc in subst (Spelt []) none (record { valid = All-nil IsOp; short = omega arith })
filled_spelt [] (f ∷ fills) rest t e = absurd (cc)
filled_spelt (Fixed op ∷ pieces) fills rest t e =
    let a = also_some op (filled pieces fills) rest e in
    let b = and_both (is_op op) (all_ops pieces) t in
    subst (Spelt (Fixed op ∷ pieces)) (sym a.now) (spelt_more (Fixed op) pieces op a.more (record { valid = valid_op op b.0; short = omega arith }) (filled_spelt pieces fills a.more b.1 a.left))
filled_spelt (KeyHole ∷ pieces) fills rest t e = spelt_hole KeyHole ForKey pieces fills rest refl e (λ fs more l. filled_spelt pieces fs more (and_both true (all_ops pieces) t).1 l)
filled_spelt (HashHole ∷ pieces) fills rest t e = spelt_hole HashHole ForHash pieces fills rest refl e (λ fs more l. filled_spelt pieces fs more (and_both true (all_ops pieces) t).1 l)
filled_spelt (NumHole ∷ pieces) fills rest t e = spelt_hole NumHole ForNumber pieces fills rest refl e (λ fs more l. filled_spelt pieces fs more (and_both true (all_ops pieces) t).1 l)

-- what a pattern's listing guarantees
record Patterned (pieces : List Piece) (paths : List PatternPath) : Type 0 where
  ops : all_ops pieces ≡ true
  listed : pattern_listing (map hole_of pieces) (map op_of pieces) ≡ Ok paths
  short : nat_le (longest pieces) MAX_SCRIPT_SIZE ≡ true

patterned : (pieces : List Piece) (paths : List PatternPath) → pattern_of pieces ≡ Ok paths → Patterned pieces paths
patterned pieces paths e = first (all_ops pieces) refl e
  where
    last : (b : Bool) (ps : List PatternPath) → all_ops pieces ≡ true → pattern_listing (map hole_of pieces) (map op_of pieces) ≡ Ok ps → nat_le (longest pieces) MAX_SCRIPT_SIZE ≡ b → result_if b TooLong (Ok ps) ≡ Ok paths → Patterned pieces paths
    last true ps t l s h = let same : ps ≡ paths = cc in record { ops = t; listed = l ∙ ap Ok same; short = s }
    last false ps t l s h = absurd (cc)

    then_listed : (r : Result (List PatternPath) CheckError) → all_ops pieces ≡ true → pattern_listing (map hole_of pieces) (map op_of pieces) ≡ r → (as_pattern r >>= λ ps. result_if (nat_le (longest pieces) MAX_SCRIPT_SIZE) TooLong (Ok ps)) ≡ Ok paths → Patterned pieces paths
    then_listed (Ok ps) t l h = last (nat_le (longest pieces) MAX_SCRIPT_SIZE) ps t l refl h
    then_listed (Err c) t l h = absurd (cc)

    first : (b : Bool) → all_ops pieces ≡ b → result_if b BadOpcode (as_pattern (pattern_listing (map hole_of pieces) (map op_of pieces)) >>= λ ps. result_if (nat_le (longest pieces) MAX_SCRIPT_SIZE) TooLong (Ok ps)) ≡ Ok paths → Patterned pieces paths
    first true t h = then_listed (pattern_listing (map hole_of pieces) (map op_of pieces)) t refl h
    first false t h = absurd (cc)

pub filled_valid : (pieces : List Piece) (paths : List PatternPath) (fills : List Fill) (ops : List Op) → pattern_of pieces ≡ Ok paths → filled pieces fills ≡ Some ops → All IsOp ops
filled_valid pieces paths fills ops h e = (filled_spelt pieces fills ops (patterned pieces paths h).ops e).valid

pub filled_short : (pieces : List Piece) (paths : List PatternPath) (fills : List Fill) (ops : List Op) → pattern_of pieces ≡ Ok paths → filled pieces fills ≡ Some ops → length (spelling ops) ≤ MAX_SCRIPT_SIZE
filled_short pieces paths fills ops h e =
    let p = patterned pieces paths h in
    let most : longest pieces ≤ MAX_SCRIPT_SIZE = fits_in (longest pieces) MAX_SCRIPT_SIZE p.short in
    omega (arith, (filled_spelt pieces fills ops p.ops e).short, most)
  where
    fits_in : (a b : ℕ) → nat_le a b ≡ true → a ≤ b
    fits_in a b h = grind (arith, h)

pub filled_listed : (pieces : List Piece) (paths : List PatternPath) (fills : List Fill) (ops : List Op) → pattern_of pieces ≡ Ok paths → filled pieces fills ≡ Some ops → listing ops ≡ Ok (filled_paths ops paths)
filled_listed pieces paths fills ops h e = filled_listing pieces fills ops paths (patterned pieces paths h).listed e

-- a pattern's listing, by its parts
pub bad_pattern : (pieces : List Piece) → all_ops pieces ≡ false → pattern_of pieces ≡ Err BadOpcode
bad_pattern pieces t = ap (λ b. result_if b BadOpcode (as_pattern (pattern_listing (map hole_of pieces) (map op_of pieces)) >>= λ ps. result_if (nat_le (longest pieces) MAX_SCRIPT_SIZE) TooLong (Ok ps))) t

part : (pieces : List Piece) (r : Result (List PatternPath) CheckError) → all_ops pieces ≡ true → pattern_listing (map hole_of pieces) (map op_of pieces) ≡ r → pattern_of pieces ≡ (as_pattern r >>= λ ps. result_if (nat_le (longest pieces) MAX_SCRIPT_SIZE) TooLong (Ok ps))
part pieces r t l =
    ap (λ b. result_if b BadOpcode (as_pattern (pattern_listing (map hole_of pieces) (map op_of pieces)) >>= λ ps. result_if (nat_le (longest pieces) MAX_SCRIPT_SIZE) TooLong (Ok ps))) t
    ∙ ap (λ x. as_pattern x >>= λ ps. result_if (nat_le (longest pieces) MAX_SCRIPT_SIZE) TooLong (Ok ps)) l

pub long_pattern : (pieces : List Piece) (paths : List PatternPath) → all_ops pieces ≡ true → pattern_listing (map hole_of pieces) (map op_of pieces) ≡ Ok paths → nat_le (longest pieces) MAX_SCRIPT_SIZE ≡ false → pattern_of pieces ≡ Err TooLong
long_pattern pieces paths t l s = part pieces (Ok paths) t l ∙ ap (λ b. result_if b TooLong (Ok paths)) s

pub listed_pattern : (pieces : List Piece) (paths : List PatternPath) → all_ops pieces ≡ true → pattern_listing (map hole_of pieces) (map op_of pieces) ≡ Ok paths → nat_le (longest pieces) MAX_SCRIPT_SIZE ≡ true → pattern_of pieces ≡ Ok paths
listed_pattern pieces paths t l s = part pieces (Ok paths) t l ∙ ap (λ b. result_if b TooLong (Ok paths)) s

pub refused_pattern : (pieces : List Piece) (e : CheckError) → all_ops pieces ≡ true → IfRefused e (pattern_listing (map hole_of pieces) (map op_of pieces) ≡ Err e) → IsPatternRefusal pieces (Check e)
refused_pattern pieces NoMemory t h = tt
refused_pattern pieces OpenBranch t h = part pieces (Err OpenBranch) t h
refused_pattern pieces TooManyOps t h = part pieces (Err TooManyOps) t h
refused_pattern pieces (Undecided at) t h = part pieces (Err (Undecided at)) t h
refused_pattern pieces TooManyPaths t h = part pieces (Err TooManyPaths) t h
refused_pattern pieces TooTall t h = part pieces (Err TooTall) t h
