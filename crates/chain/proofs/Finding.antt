-- What is found at an outpoint.
use Rattle.std.proofs.Common.{◌≡◌, ℕ, zero, suc, ◌+◌, ◌<◌, ◌≤◌, Bool, true, false, List, [], ◌∷◌, ◌++◌, length, take, drop, get_or, reverse, Option, Some, None, option_map, slice_get, sym, ap, ◌∙◌, refl, arith, append_assoc, add-zero, add-one, zero-add, eq-eqb, ne_eqb, append-nil, drop-cons}
use Rattle.std.specs.List.{find, flat_map, list_any}
use Rattle.std.specs.Option.{option_or}
use Rattle.std.specs.Borrow.{Bor}
use Rattle.std.specs.Str.{bytes_eq}
use Rattle.std.proofs.lemmas.List.{reverse-reverse, length-reverse, take_more}
use Rattle.std.proofs.lemmas.Grind.{reverse_onto, flat_map-append}
use Rattle.std.proofs.lemmas.List.Folds.{find-append}
use Rattle.tx.specs.declared.input.OutPoint.{OutPoint}
use Rattle.tx.specs.Parts.{Output}
use Rattle.tx.specs.Fields.{Transaction, same_outpoint}
use Rattle.chain.specs.Blocks.{Contents, Creation, Coin, creations_from, created_by, created_by_all, granted_at, grant_outpoint, grants_in, created_of, names, is_named, coin_at}
use Rattle.chain.proofs.Lists.{any_reversed}
use Rattle.chain.specs.Scanning.{spot_of, found_in, at_height, grants_from, created_from}

map_or : {A B : Type 0} (f : A → B) (x y : Option A) → option_map f (option_or x y) ≡ option_or (option_map f x) (option_map f y)
map_or f None y = refl
map_or f (Some a) y = refl

pub found_in_both : (o : OutPoint) (xs ys : List Creation) → found_in o (xs ++ ys) ≡ option_or (found_in o xs) (found_in o ys)
found_in_both o xs ys = ap (option_map spot_of) (find-append (λ c. same_outpoint c.outpoint o) xs ys) ∙ map_or spot_of _ _

-- nothing is at another id
pub none_by_others : (o : OutPoint) (id : List ℕ) (height index : ℕ) (outputs : List Output) → bytes_eq id o.txid ≡ false → found_in o (creations_from id height index outputs) ≡ None
none_by_others o id height index [] other = refl
none_by_others o id height index (x ∷ xs) other = rw other (none_by_others o id height (index + 1) xs other)

-- the output at an index
pub found_by_index : (o : OutPoint) (id : List ℕ) (height index k : ℕ) (outputs : List Output) → bytes_eq id o.txid ≡ true → o.index ≡ index + k → found_in o (creations_from id height index outputs) ≡ option_map (λ x. (x, height)) (slice_get outputs k)
found_by_index o id height index k [] same at = refl
found_by_index o id height index zero (x ∷ xs) same at = rw (same, eq-eqb index o.index (omega (arith, at))) refl
found_by_index o id height index (suc k) (x ∷ xs) same at =
    rw (same, ne_eqb index o.index (λ e. omega (arith, at, e))) (found_by_index o id height (index + 1) k xs same (omega (arith, at)))

newest_last : (height : ℕ) (ts : List Transaction) → created_by_all height ts ≡ flat_map (created_by height) (reverse ts)
newest_last height [] = refl
newest_last height (t ∷ ts) = rw (reverse_onto ts t [], flat_map-append (created_by height) (reverse ts) (t ∷ []), append-nil (created_by height t)) (ap (λ xs. xs ++ created_by height t) (newest_last height ts))

-- transactions in their order
pub created_in_order : (height : ℕ) (ts : List Transaction) → created_by_all height (reverse ts) ≡ flat_map (created_by height) ts
created_in_order height ts = newest_last height (reverse ts) ∙ ap (flat_map (created_by height)) (reverse-reverse ts)

grants_push : (height before : ℕ) (os : List Output) (o : Output) → grants_from height before (os ++ o ∷ []) ≡ grants_from height before os ++ record { outpoint = grant_outpoint (before + length os); output = o; height = height } ∷ []
grants_push height before [] o = rw add-zero refl
grants_push height before (x ∷ os) o =
    ap (λ xs. record { outpoint = grant_outpoint before; output = x; height = height } ∷ xs)
    (grants_push height (before + 1) os o
    ∙ ap (λ n. grants_from height (before + 1) os ++ record { outpoint = grant_outpoint n; output = o; height = height } ∷ []) (omega arith))

newest_grant_last : (height before : ℕ) (os : List Output) → granted_at height before os ≡ grants_from height before (reverse os)
newest_grant_last height before [] = refl
newest_grant_last height before (o ∷ os) =
    rw (reverse_onto os o [])
    (ap (λ xs. xs ++ record { outpoint = grant_outpoint (before + length os); output = o; height = height } ∷ []) (newest_grant_last height before os)
    ∙ ap (λ n. grants_from height before (reverse os) ++ record { outpoint = grant_outpoint (before + n); output = o; height = height } ∷ []) (sym (length-reverse os))
    ∙ sym (grants_push height before (reverse os) o))

pub granted_in_order : (height before : ℕ) (os : List Output) → granted_at height before (reverse os) ≡ grants_from height before os
granted_in_order height before os = newest_grant_last height before (reverse os) ∙ ap (grants_from height before) (reverse-reverse os)

created_push : (height before : ℕ) (bs : List Contents) (b : Contents) → created_from height before (bs ++ b ∷ []) ≡ created_from height before bs ++ (created_by_all (height + length bs) b.transactions ++ granted_at (height + length bs) (before + grants_in bs) b.granted)
created_push height before [] b = rw (add-zero height, add-zero before) (append-nil (created_by_all height b.transactions ++ granted_at height before b.granted))
created_push height before (x ∷ bs) b =
    let here = created_by_all height x.transactions ++ granted_at height before x.granted in
    ap (λ xs. here ++ xs) (created_push (height + 1) (before + length x.granted) bs b)
    ∙ sym (append_assoc here (created_from (height + 1) (before + length x.granted) bs) _)
    ∙ ap (λ n. (here ++ created_from (height + 1) (before + length x.granted) bs) ++ (created_by_all n b.transactions ++ granted_at n ((before + length x.granted) + grants_in bs) b.granted)) (omega arith)
    ∙ ap (λ g. (here ++ created_from (height + 1) (before + length x.granted) bs) ++ (created_by_all (height + length (x ∷ bs)) b.transactions ++ granted_at (height + length (x ∷ bs)) g b.granted)) (omega arith)

grants_in_both : (xs ys : List Contents) → grants_in (xs ++ ys) ≡ grants_in xs + grants_in ys
grants_in_both [] ys = omega arith
grants_in_both (x ∷ xs) ys = omega (arith, grants_in_both xs ys)

pub grants_reversed : (bs : List Contents) → grants_in (reverse bs) ≡ grants_in bs
grants_reversed [] = refl
grants_reversed (b ∷ bs) = rw (reverse_onto bs b []) (grants_in_both (reverse bs) (b ∷ []) ∙ omega (arith, grants_reversed bs))

newest_block_last : (bs : List Contents) → created_of bs ≡ created_from 0 0 (reverse bs)
newest_block_last [] = refl
newest_block_last (b ∷ bs) =
    let here = λ (n g : ℕ). created_by_all n b.transactions ++ granted_at n g b.granted in
    rw (reverse_onto bs b [])
    (ap (λ xs. xs ++ here (length bs) (grants_in bs)) (newest_block_last bs)
    ∙ ap (λ n. created_from 0 0 (reverse bs) ++ here n (grants_in bs)) (sym (length-reverse bs) ∙ sym (zero-add (length (reverse bs))))
    ∙ ap (λ g. created_from 0 0 (reverse bs) ++ here (0 + length (reverse bs)) g) (sym (grants_reversed bs) ∙ sym (zero-add (grants_in (reverse bs))))
    ∙ sym (created_push 0 0 (reverse bs) b))

pub created_of_order : (bs : List Contents) → created_of (reverse bs) ≡ created_from 0 0 bs
created_of_order bs = newest_block_last (reverse bs) ∙ ap (created_from 0 0) (reverse-reverse bs)

-- a coin, from what is at its outpoint
abbrev coin_of : Bool → Output × ℕ → Coin
coin_of named f = record { output = f.0; height = f.1; spent = named }

coin_by_spot : (named : Bool) (c : Option Creation) → option_map (λ c. coin_of named (spot_of c)) c ≡ option_map (coin_of named) (option_map spot_of c)
coin_by_spot named None = refl
coin_by_spot named (Some c) = refl

-- a coin is what is at an outpoint, with whether an input spends it
pub coin_from_found : (blocks : List Contents) (o : OutPoint) → coin_at blocks o ≡ option_map (coin_of (is_named blocks o)) (found_in o (created_of blocks))
coin_from_found blocks o = coin_by_spot (is_named blocks o) (find (λ c. same_outpoint c.outpoint o) (created_of blocks))

-- an output at a height
pub at_height_by_value : (height : ℕ) (r : Option (Bor Output)) → at_height height r ≡ option_map (λ x. (x, height)) (option_map (λ b. b.now) r)
at_height_by_value height None = refl
at_height_by_value height (Some b) = refl

pub found_here : (o : OutPoint) (height : ℕ) (id : List ℕ) (outputs : List Output) (r : Option (Bor Output)) → bytes_eq id o.txid ≡ true → option_map (λ b. b.now) r ≡ slice_get outputs o.index → at_height height r ≡ found_in o (creations_from id height 0 outputs)
found_here o height id outputs r same value =
    at_height_by_value height r ∙ ap (option_map (λ x. (x, height))) value ∙ sym (found_by_index o id height 0 o.index outputs same (sym (zero-add o.index)))

pub drop-past : {X : Type 0} (xs : List X) (i : ℕ) → length xs ≤ i → drop i xs ≡ []
drop-past [] zero past = refl
drop-past [] (suc i) past = refl
drop-past (x ∷ xs) zero past = absurd (omega arith)
drop-past (x ∷ xs) (suc i) past = drop-past xs i (omega arith)

-- the first of the rest of a list
pub head_left : {X : Type 0} (xs : List X) (i : ℕ) (x : X) → x ≡ get_or xs i x → i < length xs → drop i xs ≡ x ∷ drop (i + 1) xs
head_left xs i x e below = rw (add-one, drop-cons xs i x) (ap (λ y. y ∷ drop (suc i) xs) (sym e))

-- where the first of the remaining transactions created nothing there, the others are searched
pub transactions_later : (o : OutPoint) (height : ℕ) (ts : List Transaction) (i : ℕ) (t : Transaction) → t ≡ get_or ts i t → i < length ts → found_in o (created_by height t) ≡ None → found_in o (flat_map (created_by height) (drop (i + 1) ts)) ≡ found_in o (flat_map (created_by height) (drop i ts))
transactions_later o height ts i t e below none =
    sym (ap (λ xs. found_in o (flat_map (created_by height) xs)) (head_left ts i t e below) ∙ found_in_both o (created_by height t) (flat_map (created_by height) (drop (i + 1) ts)) ∙ ap (λ f. option_or f (found_in o (flat_map (created_by height) (drop (i + 1) ts)))) none)

pub transactions_here : (o : OutPoint) (height : ℕ) (ts : List Transaction) (i : ℕ) (t : Transaction) (f : Output × ℕ) → t ≡ get_or ts i t → i < length ts → found_in o (created_by height t) ≡ Some f → found_in o (flat_map (created_by height) (drop i ts)) ≡ Some f
transactions_here o height ts i t f e below here =
    ap (λ xs. found_in o (flat_map (created_by height) xs)) (head_left ts i t e below) ∙ found_in_both o (created_by height t) (flat_map (created_by height) (drop (i + 1) ts)) ∙ ap (λ x. option_or x (found_in o (flat_map (created_by height) (drop (i + 1) ts)))) here

pub transactions_end : (o : OutPoint) (height : ℕ) (ts : List Transaction) (i : ℕ) → length ts ≤ i → found_in o (flat_map (created_by height) (drop i ts)) ≡ None
transactions_end o height ts i past = ap (λ xs. found_in o (flat_map (created_by height) xs)) (drop-past ts i past)

-- the same for grants
pub grants_later : (o : OutPoint) (height g : ℕ) (os : List Output) (i : ℕ) (x : Output) → x ≡ get_or os i x → i < length os → same_outpoint (grant_outpoint (g + i)) o ≡ false → found_in o (grants_from height (g + (i + 1)) (drop (i + 1) os)) ≡ found_in o (grants_from height (g + i) (drop i os))
grants_later o height g os i x e below other =
    sym (ap (λ xs. found_in o (grants_from height (g + i) xs)) (head_left os i x e below) ∙ rw other (ap (λ n. found_in o (grants_from height n (drop (i + 1) os))) (omega arith)))

pub grants_here : (o : OutPoint) (height g : ℕ) (os : List Output) (i : ℕ) (x : Output) → x ≡ get_or os i x → i < length os → same_outpoint (grant_outpoint (g + i)) o ≡ true → found_in o (grants_from height (g + i) (drop i os)) ≡ Some (x, height)
grants_here o height g os i x e below same = ap (λ xs. found_in o (grants_from height (g + i) xs)) (head_left os i x e below) ∙ rw same refl

pub grants_end : (o : OutPoint) (height g : ℕ) (os : List Output) (i : ℕ) → length os ≤ i → found_in o (grants_from height g (drop i os)) ≡ None
grants_end o height g os i past = ap (λ xs. found_in o (grants_from height g xs)) (drop-past os i past)

-- and for blocks
pub blocks_step : (o : OutPoint) (height g : ℕ) (bs : List Contents) (i : ℕ) (b : Contents) → b ≡ get_or bs i b → i < length bs → found_in o (created_from height g (drop i bs)) ≡ option_or (option_or (found_in o (created_by_all height b.transactions)) (found_in o (granted_at height g b.granted))) (found_in o (created_from (height + 1) (g + length b.granted) (drop (i + 1) bs)))
blocks_step o height g bs i b e below =
    ap (λ xs. found_in o (created_from height g xs)) (head_left bs i b e below)
    ∙ found_in_both o (created_by_all height b.transactions ++ granted_at height g b.granted) (created_from (height + 1) (g + length b.granted) (drop (i + 1) bs))
    ∙ ap (λ f. option_or f (found_in o (created_from (height + 1) (g + length b.granted) (drop (i + 1) bs)))) (found_in_both o (created_by_all height b.transactions) (granted_at height g b.granted))

pub blocks_end : (o : OutPoint) (height g : ℕ) (bs : List Contents) (i : ℕ) → length bs ≤ i → found_in o (created_from height g (drop i bs)) ≡ None
blocks_end o height g bs i past = ap (λ xs. found_in o (created_from height g xs)) (drop-past bs i past)

-- where the transactions of a block, or its grants, or neither, created something there
pub in_transactions : (o : OutPoint) (h g : ℕ) (bs : List Contents) (b : Contents) (ts : List Transaction) (y : Output × ℕ) (whole : Option (Output × ℕ)) → b ≡ get_or bs h b → h < length bs → ts ≡ reverse b.transactions → Some y ≡ found_in o (created_by_all h (reverse ts)) → found_in o (created_from h g (drop h bs)) ≡ whole → Some y ≡ whole
in_transactions o h g bs b ts y whole e below slice here w =
    let later = found_in o (created_from (h + 1) (g + length b.granted) (drop (h + 1) bs)) in
    let a : found_in o (created_by_all h b.transactions) ≡ Some y = ap (λ x. found_in o (created_by_all h x)) (sym (ap reverse slice ∙ reverse-reverse b.transactions)) ∙ sym here in
    sym (sym w ∙ blocks_step o h g bs h b e below ∙ ap (λ f. option_or (option_or f (found_in o (granted_at h g b.granted))) later) a)

pub in_grants : (o : OutPoint) (h g : ℕ) (bs : List Contents) (b : Contents) (ts : List Transaction) (os : List Output) (y : Output × ℕ) (whole : Option (Output × ℕ)) → b ≡ get_or bs h b → h < length bs → ts ≡ reverse b.transactions → os ≡ reverse b.granted → None ≡ found_in o (created_by_all h (reverse ts)) → Some y ≡ found_in o (granted_at h g (reverse os)) → found_in o (created_from h g (drop h bs)) ≡ whole → Some y ≡ whole
in_grants o h g bs b ts os y whole e below slice given none here w =
    let later = found_in o (created_from (h + 1) (g + length b.granted) (drop (h + 1) bs)) in
    let a : found_in o (created_by_all h b.transactions) ≡ None = ap (λ x. found_in o (created_by_all h x)) (sym (ap reverse slice ∙ reverse-reverse b.transactions)) ∙ sym none in
    let c : found_in o (granted_at h g b.granted) ≡ Some y = ap (λ x. found_in o (granted_at h g x)) (sym (ap reverse given ∙ reverse-reverse b.granted)) ∙ sym here in
    sym (sym w ∙ blocks_step o h g bs h b e below ∙ ap (λ f. option_or (option_or f (found_in o (granted_at h g b.granted))) later) a ∙ ap (λ f. option_or f later) c)

pub in_later : (o : OutPoint) (h g n : ℕ) (bs : List Contents) (b : Contents) (ts : List Transaction) (os : List Output) (whole : Option (Output × ℕ)) → b ≡ get_or bs h b → h < length bs → ts ≡ reverse b.transactions → os ≡ reverse b.granted → None ≡ found_in o (created_by_all h (reverse ts)) → None ≡ found_in o (granted_at h g (reverse os)) → g + length b.granted ≡ n → found_in o (created_from h g (drop h bs)) ≡ whole → found_in o (created_from (h + 1) n (drop (h + 1) bs)) ≡ whole
in_later o h g n bs b ts os whole e below slice given none nor count w =
    let later = found_in o (created_from (h + 1) (g + length b.granted) (drop (h + 1) bs)) in
    let a : found_in o (created_by_all h b.transactions) ≡ None = ap (λ x. found_in o (created_by_all h x)) (sym (ap reverse slice ∙ reverse-reverse b.transactions)) ∙ sym none in
    let c : found_in o (granted_at h g b.granted) ≡ None = ap (λ x. found_in o (granted_at h g x)) (sym (ap reverse given ∙ reverse-reverse b.granted)) ∙ sym nor in
    ap (λ m. found_in o (created_from (h + 1) m (drop (h + 1) bs))) (sym count)
    ∙ sym (sym w ∙ blocks_step o h g bs h b e below ∙ ap (λ f. option_or (option_or f (found_in o (granted_at h g b.granted))) later) a ∙ ap (λ f. option_or f later) c)

pub grants_next : (bs : List Contents) (h : ℕ) (b : Contents) → b ≡ get_or bs h b → h < length bs → grants_in (take h bs) + length b.granted ≡ grants_in (take (h + 1) bs)
grants_next bs h b e below = sym (ap grants_in (take_more bs h b below ∙ ap (λ x. take h bs ++ x ∷ []) (sym e)) ∙ grants_in_both (take h bs) (b ∷ []) ∙ omega arith)

pub coin_found : (blocks slice other : List Contents) (o : OutPoint) (output : Output) (height : ℕ) (named : Bool) → slice ≡ reverse blocks → other ≡ reverse blocks → Some (output, height) ≡ found_in o (created_of (reverse slice)) → named ≡ is_named other o → Some (coin_of named (output, height)) ≡ coin_at blocks o
coin_found blocks slice other o output height named s t found n =
    let here : found_in o (created_of blocks) ≡ Some (output, height) = ap (λ bs. found_in o (created_of bs)) (sym (ap reverse s ∙ reverse-reverse blocks)) ∙ sym found in
    let same : is_named blocks o ≡ named = sym (n ∙ ap (λ bs. is_named bs o) t ∙ any_reversed (λ (b : Contents). list_any (names o) b.transactions) blocks) in
    sym (coin_from_found blocks o ∙ ap (option_map (coin_of (is_named blocks o))) here ∙ ap (λ v. Some (coin_of v (output, height))) same)
