-- What was read of blocks is what their chain says.
use Rattle.std.proofs.Common.{◌≡◌, ℕ, zero, suc, ◌+◌, ◌<◌, ◌≤◌, Bool, true, false, ◌||◌, ◌&&◌, ◌==◌, List, [], ◌∷◌, ◌++◌, length, reverse, Option, Some, None, option_map, sym, ap, ◌∙◌, refl, subst, arith}
use Rattle.std.specs.Prelude.{if◌then◌else◌, nat_lt, slice_get}
use Rattle.std.specs.List.{Contains, find, list_any}
use Rattle.std.specs.Option.{option_or, option_and_then}
use Rattle.std.specs.Str.{bytes_eq}
use Rattle.std.proofs.lemmas.Bool.{false≢true, and_parts}
use Rattle.std.proofs.lemmas.Bool.Decides.{nat_tests}
use Rattle.std.proofs.lemmas.List.{length-reverse}
use Rattle.std.proofs.lemmas.List.Folds.{find-append}
use Rattle.std.proofs.lemmas.Option.{slice_get_past}
use Rattle.std.proofs.lemmas.Slice.Eq.{bytes_eq-Decides}
use Rattle.std.proofs.lemmas.Grind.{reverse_onto}
use Rattle.tx.specs.declared.input.OutPoint.{OutPoint}
use Rattle.tx.specs.declared.input.TxIn.{TxIn}
use Rattle.tx.specs.Parts.{Output}
use Rattle.tx.specs.Fields.{Transaction, same_outpoint}
use Rattle.tx.specs.Spelling.{transaction_id}
use Rattle.chain.specs.Blocks.{Contents as Block, Creation, Coin, grant_id, creations_from, created_by, created_by_all, granted_at, grants_in, created_of, names, is_named, created_at, coin_at, has_id}
use Rattle.chain.specs.Checked.{have_passed, is_checked}
use Rattle.chain.specs.Conserving.{GrantsAreApart}
use Rattle.chain.proofs.Apart.{or_parts}
use Rattle.chain.proofs.Noting.{same_is}
use Rattle.chain.proofs.Passing.{passed, next_passed}
use Rattle.safety.specs.Standing.{StandsAt, HavePassed, CoinsHaveHeights}
use Rattle.safety.proofs.Slots.{contains_first, contains_later}
use Rattle.safety.proofs.Lists.{none_some, some_is, any_found, any_holds, both}
use Rattle.safety.proofs.Standing.{naming}
use Rattle.sights.specs.declared.sighted.Stage.{Stage}
use Rattle.sights.specs.declared.sighted.Stage.TheVariants.{Close}
use Rattle.sights.specs.declared.sighted.Sighted.{Sighted}
use Rattle.sights.specs.Sights.{sighted_as, is_funding, stage_after, stage_at, stage_by, is_close, is_there, stage_of_several, stage_by_all, read_as, read_block, sights_in, made_by, among, was_taken}
use Rattle.due_laws.specs.Coins.{IsAsRead, SightsAreCoins}

not_so : (b : Bool) → (b ≡ true → ⊥) → b ≡ false
not_so true never = absurd (never refl)
not_so false never = refl

shifted : (a b c : Bool) → ((a || b) || c) ≡ (a || (b || c))
shifted true b c = refl
shifted false b c = refl

or_right : (a b : Bool) → b ≡ true → (a || b) ≡ true
or_right true b e = refl
or_right false b e = e

or_more : (a b c : Bool) → (b ≡ true → c ≡ true) → (a || b) ≡ true → (a || c) ≡ true
or_more true b c f e = refl
or_more false b c f e = f e

-- ---- what takes an output that is followed is read

there_else : (b : Bool) (x : Option Stage) → is_there x ≡ true → is_there (if b then Some Close else x) ≡ true
there_else true x e = refl
there_else false x e = e

there_by : (fundings : List OutPoint) (ss : List Sighted) (o : OutPoint) (i : TxIn) → same_outpoint i.outpoint o ≡ true → is_there (stage_after (stage_at o.txid ss)) ≡ true → is_there (stage_by fundings ss i) ≡ true
there_by fundings ss o i e h =
    there_else (is_funding fundings i.outpoint) (stage_after (stage_at i.outpoint.txid ss)) (ap (λ (p : OutPoint). is_there (stage_after (stage_at p.txid ss))) (same_is i.outpoint o e) ∙ h)

any_there : (fundings : List OutPoint) (ss : List Sighted) (o : OutPoint) (is : List TxIn) → among o is ≡ true → is_there (stage_after (stage_at o.txid ss)) ≡ true → list_any (λ i. is_there (stage_by fundings ss i)) is ≡ true
any_there fundings ss o is e h =
    let i = any_found (λ (x : TxIn). same_outpoint x.outpoint o) is e in
    any_holds (λ (x : TxIn). is_there (stage_by fundings ss x)) is i.0 i.1 (there_by fundings ss o i.0 i.2 h)

alone : (b : Bool) → (b || false) ≡ true → b ≡ true
alone true e = refl
alone false e = e

several : (closes follows : Bool) → follows ≡ true → is_there (stage_of_several closes follows) ≡ true
several true follows e = refl
several false true e = refl
several false false e = e

is_read : (fundings : List OutPoint) (ss : List Sighted) (o : OutPoint) (is : List TxIn) → among o is ≡ true → is_there (stage_after (stage_at o.txid ss)) ≡ true → is_there (stage_by_all fundings ss is) ≡ true
is_read fundings ss o [] e h = absurd (false≢true e)
is_read fundings ss o (i ∷ []) e h = alone (is_there (stage_by fundings ss i)) (any_there fundings ss o (i ∷ []) e h)
is_read fundings ss o (i ∷ j ∷ is) e h =
    several (list_any (λ x. is_close (stage_by fundings ss x)) (i ∷ j ∷ is)) (list_any (λ x. is_there (stage_by fundings ss x)) (i ∷ j ∷ is)) (any_there fundings ss o (i ∷ j ∷ is) e h)

-- ---- and what was taken is named on the chain

taken_as : (stage : Option Stage) (height : ℕ) (t : Transaction) (ss : List Sighted) (o : OutPoint) → was_taken o (read_as stage height t ss) ≡ true → (names o t || was_taken o ss) ≡ true
taken_as None height t ss o e = or_right (names o t) (was_taken o ss) e
taken_as (Some stage) height t ss o e = e

taken_block : (fundings : List OutPoint) (height : ℕ) (ts : List Transaction) (ss : List Sighted) (o : OutPoint) → was_taken o (read_block fundings height ts ss) ≡ true → (list_any (names o) ts || was_taken o ss) ≡ true
taken_block fundings height [] ss o e = e
taken_block fundings height (t ∷ ts) ss o e =
    let read = read_block fundings height ts ss in
    shifted (names o t) (list_any (names o) ts) (was_taken o ss)
    ∙ or_more (names o t) (was_taken o read) (list_any (names o) ts || was_taken o ss) (taken_block fundings height ts ss o) (taken_as (stage_by_all fundings read t.inputs) height t read o e)

taken_named : (fundings : List OutPoint) (blocks : List Block) (o : OutPoint) → was_taken o (sights_in fundings blocks) ≡ true → is_named blocks o ≡ true
taken_named fundings [] o e = e
taken_named fundings (b ∷ older) o e =
    or_more (list_any (names o) b.transactions) (was_taken o (sights_in fundings older)) (is_named older o) (taken_named fundings older o)
    (taken_block fundings (length older) b.transactions (sights_in fundings older) o e)

-- ---- nothing names an output of an id that is new

abbrev at : OutPoint → Creation → Bool
at o c = same_outpoint c.outpoint o

skipped : (o : OutPoint) (c : Creation) (cs : List Creation) → bytes_eq c.outpoint.txid o.txid ≡ false → find (at o) cs ≡ None → find (at o) (c ∷ cs) ≡ None
skipped o c cs other none = ap (λ (b : Bool). if b && (c.outpoint.index == o.index) then Some c else find (at o) cs) other ∙ none

none_in_both : (o : OutPoint) (xs ys : List Creation) → find (at o) xs ≡ None → find (at o) ys ≡ None → find (at o) (xs ++ ys) ≡ None
none_in_both o xs ys e f = find-append (at o) xs ys ∙ ap (λ x. option_or x (find (at o) ys)) e ∙ f

none_from : (o : OutPoint) (id : List ℕ) (height index : ℕ) (os : List Output) → bytes_eq id o.txid ≡ false → find (at o) (creations_from id height index os) ≡ None
none_from o id height index [] other = refl
none_from o id height index (x ∷ xs) other =
    skipped o (record { outpoint = record { txid = id; index = index }; output = x; height = height }) (creations_from id height (index + 1) xs) other (none_from o id height (index + 1) xs other)

none_by_all : (o : OutPoint) (height : ℕ) (ts : List Transaction) → list_any (λ t. bytes_eq (transaction_id t) o.txid) ts ≡ false → find (at o) (created_by_all height ts) ≡ None
none_by_all o height [] new = refl
none_by_all o height (t ∷ ts) new =
    let parts = or_parts (bytes_eq (transaction_id t) o.txid) (list_any (λ t. bytes_eq (transaction_id t) o.txid) ts) new in
    none_in_both o (created_by_all height ts) (created_by height t) (none_by_all o height ts parts.1) (none_from o (transaction_id t) height 0 t.outputs parts.0)

none_granted : (o : OutPoint) (height before : ℕ) (os : List Output) → ((g : ℕ) → g < before + length os → bytes_eq (grant_id g) o.txid ≡ false) → find (at o) (granted_at height before os) ≡ None
none_granted o height before [] apart = refl
none_granted o height before (x ∷ xs) apart =
    let last : Creation = record { outpoint = record { txid = grant_id (before + length xs); index = 0 }; output = x; height = height } in
    none_in_both o (granted_at height before xs) (last ∷ []) (none_granted o height before xs (λ g l. apart g (omega (arith, l)))) (skipped o last [] (apart (before + length xs) (omega arith)) refl)

none_created : (blocks : List Block) (o : OutPoint) → has_id blocks o.txid ≡ false → ((g : ℕ) → g < grants_in blocks → bytes_eq (grant_id g) o.txid ≡ false) → created_at blocks o ≡ None
none_created [] o new apart = refl
none_created (b ∷ older) o new apart =
    let parts = or_parts (list_any (λ t. bytes_eq (transaction_id t) o.txid) b.transactions) (has_id older o.txid) new in
    let h = length older in
    none_in_both o (created_of older) (created_by_all h b.transactions ++ granted_at h (grants_in older) b.granted) (none_created older o parts.1 (λ g l. apart g (omega (arith, l))))
    (none_in_both o (created_by_all h b.transactions) (granted_at h (grants_in older) b.granted) (none_by_all o h b.transactions parts.0) (none_granted o h (grants_in older) b.granted apart))

never_named : HavePassed → (blocks : List Block) → is_checked blocks ≡ true → (o : OutPoint) → has_id blocks o.txid ≡ false → ((g : ℕ) → g < grants_in blocks → bytes_eq (grant_id g) o.txid ≡ false) → is_named blocks o ≡ false
never_named have blocks checked o new apart = not_so (is_named blocks o) (λ e.
    let n = naming blocks o e in
    let p = have blocks checked n.height n.transaction n.stands n.input n.within in
    let none : coin_at blocks o ≡ None = ap (option_map (λ (c : Creation). let k : Coin = record { output = c.output; height = c.height; spent = is_named blocks o } in k)) (none_created blocks o new apart) in
    none_some p.0 (sym none ∙ ap (coin_at blocks) (sym n.named) ∙ p.1))

-- ---- transaction by transaction

-- what was read of a chain is right
record IsRight (blocks : List Block) (ss : List Sighted) : Type 0 where
  ids : (id : List ℕ) (s : Sighted) → sighted_as id ss ≡ Some s → has_id blocks id ≡ true
  taken : (o : OutPoint) (s : Sighted) → sighted_as o.txid ss ≡ Some s → is_there (stage_after (Some s.stage)) ≡ true → was_taken o ss ≡ is_named blocks o

abbrev behind : List Transaction → List Block → List Block
behind ts older = record { transactions = ts; granted = [] } ∷ older

-- one more transaction, with a new id, which is no grant's
module _ (fundings : List OutPoint) (older : List Block) (t : Transaction) (ts : List Transaction) (ss : List Sighted) (r : IsRight (behind ts older) ss) where
  abbrev found : Stage → List ℕ → Option Sighted → Bool → Option Sighted
  found stage id x own = option_or x (if own then Some (let s : Sighted = record { height = length older; stage = stage; tx = t } in s) else None)

  has_more : (id : List ℕ) (stage : Stage) (s : Sighted) (x : Option Sighted) (own : Bool) → sighted_as id ss ≡ x → bytes_eq (transaction_id t) id ≡ own → found stage id x own ≡ Some s → has_id (behind (t ∷ ts) older) id ≡ true
  has_more id stage s None false at same e = absurd (none_some s e)
  has_more id stage s None true at same e = shifted (bytes_eq (transaction_id t) id) (list_any (λ u. bytes_eq (transaction_id u) id) ts) (has_id older id) ∙ ap (λ b. b || has_id (behind ts older) id) same
  has_more id stage s (Some y) own at same e =
      shifted (bytes_eq (transaction_id t) id) (list_any (λ u. bytes_eq (transaction_id u) id) ts) (has_id older id)
      ∙ or_right (bytes_eq (transaction_id t) id) (has_id (behind ts older) id) (r.ids id y at)

  more_taken : ((o : OutPoint) → bytes_eq (transaction_id t) o.txid ≡ true → was_taken o ss ≡ is_named (behind ts older) o)
      → (o : OutPoint) (stage : Stage) (s : Sighted) (x : Option Sighted) (own : Bool) → sighted_as o.txid ss ≡ x → bytes_eq (transaction_id t) o.txid ≡ own → found stage o.txid x own ≡ Some s
      → is_there (stage_after (Some s.stage)) ≡ true → (names o t || was_taken o ss) ≡ is_named (behind (t ∷ ts) older) o
  more_taken new o stage s None false at same e follows = absurd (none_some s e)
  more_taken new o stage s None true at same e follows = ap (λ b. names o t || b) (new o same) ∙ sym (shifted (names o t) (list_any (names o) ts) (is_named older o))
  more_taken new o stage s (Some y) own at same e follows =
      ap (λ b. names o t || b) (r.taken o y at (ap (λ (z : Sighted). is_there (stage_after (Some z.stage))) (some_is y s e) ∙ follows)) ∙ sym (shifted (names o t) (list_any (names o) ts) (is_named older o))

  not_taken : stage_by_all fundings ss t.inputs ≡ None → (o : OutPoint) (s : Sighted) → sighted_as o.txid ss ≡ Some s → is_there (stage_after (Some s.stage)) ≡ true → was_taken o ss ≡ is_named (behind (t ∷ ts) older) o
  not_taken none o s at follows =
      let unread : names o t ≡ false = not_so (names o t) (λ e.
      false≢true (sym (ap is_there none) ∙ is_read fundings ss o t.inputs e (ap (λ (x : Option Sighted). is_there (stage_after (option_map (λ y. y.stage) x))) at ∙ follows))) in
      r.taken o s at follows ∙ sym (shifted (names o t) (list_any (names o) ts) (is_named older o) ∙ ap (λ b. b || is_named (behind ts older) o) unread)

  one_more : ((o : OutPoint) → bytes_eq (transaction_id t) o.txid ≡ true → was_taken o ss ≡ is_named (behind ts older) o) → (stage : Option Stage) → stage_by_all fundings ss t.inputs ≡ stage
      → IsRight (behind (t ∷ ts) older) (read_as stage (length older) t ss)
  one_more new None e = record {
    ids = λ id s at. shifted (bytes_eq (transaction_id t) id) (list_any (λ u. bytes_eq (transaction_id u) id) ts) (has_id older id)
        ∙ or_right (bytes_eq (transaction_id t) id) (has_id (behind ts older) id) (r.ids id s at);
    taken = not_taken e;
  }
  one_more new (Some stage) e = record {
    ids = λ id s f. has_more id stage s (sighted_as id ss) (bytes_eq (transaction_id t) id) refl refl f;
    taken = λ o s f follows. more_taken new o stage s (sighted_as o.txid ss) (bytes_eq (transaction_id t) o.txid) refl refl f follows;
  }

turned : (a b : List ℕ) → bytes_eq a b ≡ false → bytes_eq b a ≡ false
turned a b h = not_so (bytes_eq b a) (λ e. false≢true (sym h ∙ (bytes_eq-Decides a b).1 (sym ((bytes_eq-Decides b a).0 e))))

-- no transaction of the chain has the id of one of the first n grants
abbrev IsFree : ℕ → List Block → Type 0
IsFree n blocks = (g : ℕ) → g < n → has_id blocks (grant_id g) ≡ false

in_block : HavePassed → (n : ℕ) (fundings : List OutPoint) (older : List Block) (ts : List Transaction) → have_passed older ts ≡ true → is_checked older ≡ true → grants_in older ≤ n → IsFree n (behind ts older)
    → IsRight older (sights_in fundings older) → IsRight (behind ts older) (read_block fundings (length older) ts (sights_in fundings older))
in_block have n fundings older [] e checked grants free r = record { ids = r.ids; taken = r.taken }
in_block have n fundings older (t ∷ ts) e checked grants free r =
    let next = next_passed older t ts e in
    let ss = read_block fundings (length older) ts (sights_in fundings older) in
    let split = λ (g : ℕ) (l : g < n). or_parts (bytes_eq (transaction_id t) (grant_id g)) (has_id (behind ts older) (grant_id g))
    (sym (shifted (bytes_eq (transaction_id t) (grant_id g)) (list_any (λ u. bytes_eq (transaction_id u) (grant_id g)) ts) (has_id older (grant_id g))) ∙ free g l) in
    let new : (o : OutPoint) → bytes_eq (transaction_id t) o.txid ≡ true → was_taken o ss ≡ is_named (behind ts older) o = λ o same.
    let id : transaction_id t ≡ o.txid = (bytes_eq-Decides (transaction_id t) o.txid).0 same in
    let never = never_named have (behind ts older) (both (have_passed older ts) (is_checked older) next.1 checked) o (ap (has_id (behind ts older)) (sym id) ∙ (passed (behind ts older) t next.0).new_id)
    (λ g l. ap (bytes_eq (grant_id g)) (sym id) ∙ turned (transaction_id t) (grant_id g) (split g (omega (arith, l, grants))).0) in
    not_so (was_taken o ss) (λ w. false≢true (sym never ∙ taken_named fundings (behind ts older) o w)) ∙ sym never in
    one_more fundings older t ts ss (in_block have n fundings older ts next.1 checked grants (λ g l. (split g l).1) r) new (stage_by_all fundings ss t.inputs) refl

right : HavePassed → (n : ℕ) (fundings : List OutPoint) (blocks : List Block) → is_checked blocks ≡ true → grants_in blocks ≤ n → IsFree n blocks → IsRight blocks (sights_in fundings blocks)
right have n fundings [] e grants free = record { ids = λ id s f. absurd (none_some s f); taken = λ o s f follows. absurd (none_some s f) }
right have n fundings (b ∷ older) e grants free =
    let parts = and_parts (have_passed older b.transactions) (is_checked older) e in
    let lower = λ (g : ℕ) (l : g < n). (or_parts (list_any (λ u. bytes_eq (transaction_id u) (grant_id g)) b.transactions) (has_id older (grant_id g)) (free g l)).1 in
    let below : grants_in older ≤ n = omega (arith, grants) in
    let r = in_block have n fundings older b.transactions parts.0 parts.1 below free (right have n fundings older parts.1 below lower) in
    record { ids = r.ids; taken = r.taken }

-- ---- where it stands

last_at : {X : Type 0} (xs : List X) (x : X) → slice_get (xs ++ x ∷ []) (length xs) ≡ Some x
last_at [] x = refl
last_at (y ∷ ys) x = last_at ys x

still_at : {X : Type 0} (xs ys : List X) (k : ℕ) (x : X) → slice_get xs k ≡ Some x → slice_get (xs ++ ys) k ≡ Some x
still_at [] ys k x e = absurd (none_some x (sym (slice_get_past [] k (omega arith)) ∙ e))
still_at (z ∷ zs) ys zero x e = e
still_at (z ∷ zs) ys (suc k) x e = still_at zs ys k x e

still_stands : (b : Block) (older : List Block) (height : ℕ) (t : Transaction) → StandsAt older height t → StandsAt (b ∷ older) height t
still_stands b older height t s = record {
  block = s.block;
  there = ap (λ (bs : List Block). slice_get bs height) (reverse_onto older b []) ∙ still_at (reverse older) (b ∷ []) height s.block s.there;
  within = s.within;
}

newest : (b : Block) (older : List Block) (t : Transaction) → Contains b.transactions t → StandsAt (b ∷ older) (length older) t
newest b older t i = record {
  block = b;
  there = ap (λ (bs : List Block). slice_get bs (length older)) (reverse_onto older b []) ∙ ap (slice_get (reverse older ++ b ∷ [])) (sym (length-reverse older)) ∙ last_at (reverse older) b;
  within = i;
}

-- a transaction that was read stands in the block of its height, and has this id
record Stands (blocks : List Block) (id : List ℕ) (s : Sighted) : Type 0 where
  stands : StandsAt blocks s.height s.tx
  same : transaction_id s.tx ≡ id

abbrev AllStand : List Block → List Sighted → Type 0
AllStand blocks ss = (id : List ℕ) (s : Sighted) → sighted_as id ss ≡ Some s → Stands blocks id s

stand_more : (blocks : List Block) (ss : List Sighted) (n : Sighted) (id : List ℕ) (s : Sighted) (x : Option Sighted) (own : Bool) → AllStand blocks ss → StandsAt blocks n.height n.tx → sighted_as id ss ≡ x → bytes_eq (transaction_id n.tx) id ≡ own
    → option_or x (if own then Some n else None) ≡ Some s → Stands blocks id s
stand_more blocks ss n id s None false all stands at same e = absurd (none_some s e)
stand_more blocks ss n id s None true all stands at same e = subst (λ (y : Sighted). Stands blocks id y) (some_is n s e) (record { stands = stands; same = (bytes_eq-Decides (transaction_id n.tx) id).0 same })
stand_more blocks ss n id s (Some y) own all stands at same e = all id s (at ∙ e)

stand_as : (b : Block) (older : List Block) (ss : List Sighted) (t : Transaction) (stage : Option Stage) → Contains b.transactions t → AllStand (b ∷ older) ss → AllStand (b ∷ older) (read_as stage (length older) t ss)
stand_as b older ss t None i all = all
stand_as b older ss t (Some stage) i all = λ id s e.
    let n : Sighted = record { height = length older; stage = stage; tx = t } in
    stand_more (b ∷ older) ss n id s (sighted_as id ss) (bytes_eq (transaction_id t) id) all (newest b older t i) refl refl e

stand_block : (fundings : List OutPoint) (b : Block) (older : List Block) (ts : List Transaction) → ((t : Transaction) → Contains ts t → Contains b.transactions t) → AllStand (b ∷ older) (sights_in fundings older)
    → AllStand (b ∷ older) (read_block fundings (length older) ts (sights_in fundings older))
stand_block fundings b older [] within all = all
stand_block fundings b older (t ∷ ts) within all =
    let read = read_block fundings (length older) ts (sights_in fundings older) in
    stand_as b older read t (stage_by_all fundings read t.inputs) (within t (contains_first t ts)) (stand_block fundings b older ts (λ u i. within u (contains_later t ts u i)) all)

all_stand : (fundings : List OutPoint) (blocks : List Block) → AllStand blocks (sights_in fundings blocks)
all_stand fundings [] = λ id s e. absurd (none_some s e)
all_stand fundings (b ∷ older) =
    let below : AllStand (b ∷ older) (sights_in fundings older) = λ id s e.
    let r = all_stand fundings older id s e in record { stands = still_stands b older s.height s.tx r.stands; same = r.same } in
    stand_block fundings b older b.transactions (λ t i. i) below

-- ---- so the coin is as it was read

within : {X : Type 0} (xs : List X) (k : ℕ) (x : X) → slice_get xs k ≡ Some x → k < length xs
within [] k x e = absurd (none_some x (sym (slice_get_past [] k (omega arith)) ∙ e))
within (y ∷ ys) zero x e = omega arith
within (y ∷ ys) (suc k) x e = let l = within ys k x e in omega (arith, l)

is_below : (a b : ℕ) → a < b → nat_lt a b ≡ true
is_below a b l = grind (arith, nat_tests)

pub sights_are_coins : HavePassed → CoinsHaveHeights → SightsAreCoins
sights_are_coins have heights fundings blocks checked grants o s at follows output is =
    let r = all_stand fundings blocks o.txid s at in
    record {
      coin = record { output = output; height = s.height; spent = is_named blocks o };
      there = heights blocks checked grants s.height s.tx r.stands o r.same output is;
      is = refl;
      made = ap (option_and_then (made_by o)) at ∙ ap (λ (b : Bool). if b then Some s.height else None) (is_below o.index (length s.tx.outputs) (within s.tx.outputs o.index output is));
      taken = (right have (grants_in blocks) fundings blocks checked (omega arith) grants.from_transactions).taken o s at follows;
    }
