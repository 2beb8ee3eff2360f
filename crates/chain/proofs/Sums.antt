-- Sums over the blocks, one block more at a time.
use Rattle.std.proofs.Common.{◌≡◌, ℕ, ◌+◌, ◌<◌, ◌≤◌, Bool, true, false, not, cond, List, [], ◌∷◌, ◌++◌, length, take, drop, get_or, map, filter, reverse, sum, sum_by, sym, ap, ◌∙◌, refl, arith, append_assoc, append-nil}
use Rattle.std.specs.List.{flat_map}
use Rattle.std.proofs.Math.Seq.{take-length}
use Rattle.std.proofs.lemmas.List.{reverse-reverse, length-map, map-append, take_more}
use Rattle.std.proofs.lemmas.List.Sorted.{sum_by-IsPermutation, IsPermutation-reverse}
use Rattle.std.proofs.lemmas.List.Sums.{sum_by-append, sum_by-cons, sum-map}
use Rattle.tx.specs.declared.input.TxIn.{TxIn}
use Rattle.tx.specs.Parts.{Output}
use Rattle.tx.specs.Fields.{Transaction}
use Rattle.chain.specs.Blocks.{Contents, Creation, value_at, paid_in, transactions_of, is_named, unspent_of, created_by, created_by_all, granted_at, creations_from, grant_outpoint, created_of}
use Rattle.chain.specs.Totals.{unspent_value, unspent_values, IsUnspent}
use Rattle.chain.specs.Scanning.{grants_from, created_from}
use Rattle.chain.proofs.Lists.{reverse_more}
use Rattle.chain.proofs.Finding.{head_left, drop-past, created_in_order, granted_in_order, created_of_order}

-- the amounts of one more block
pub amounts_more : (f : Transaction → ℕ) (bs : List Contents) (i : ℕ) (b : Contents) (ts : List Transaction) (amounts more : List ℕ) → b ≡ get_or bs i b → i < length bs → ts ≡ reverse b.transactions → more ≡ amounts ++ map f ts → sum amounts ≡ sum_by f (transactions_of (reverse (take i bs))) → sum more ≡ sum_by f (transactions_of (reverse (take (i + 1) bs)))
amounts_more f bs i b ts amounts more e below slice added so_far =
    let here : sum (map f ts) ≡ sum_by f b.transactions = sum-map f ts ∙ ap (sum_by f) slice ∙ sum_by-IsPermutation f b.transactions (reverse b.transactions) (IsPermutation-reverse b.transactions) in
    let next : transactions_of (reverse (take (i + 1) bs)) ≡ b.transactions ++ transactions_of (reverse (take i bs)) = ap transactions_of (reverse_more bs i b below ∙ ap (λ x. x ∷ reverse (take i bs)) (sym e)) in
    ap sum added ∙ sum_by-append (λ n. n) amounts (map f ts)
    ∙ omega (arith, here, so_far, ap (sum_by f) next, sum_by-append f b.transactions (transactions_of (reverse (take i bs))))

-- what one more input brings
pub paid_more : (blocks : List Contents) (inputs : List TxIn) (i : ℕ) (x : TxIn) (paid value whole : ℕ) → x ≡ get_or inputs i x → i < length inputs → value ≡ value_at blocks x.outpoint → paid + paid_in blocks (drop i inputs) ≡ whole → (paid + value) + paid_in blocks (drop (i + 1) inputs) ≡ whole
paid_more blocks inputs i x paid value whole e below v so_far =
    let rest = drop (i + 1) inputs in
    let split : paid_in blocks (drop i inputs) ≡ value_at blocks x.outpoint + paid_in blocks rest = ap (paid_in blocks) (head_left inputs i x e below) ∙ sum_by-cons (λ (y : TxIn). value_at blocks y.outpoint) x rest in
    omega (arith, split, v, so_far)

-- the amounts of all blocks
pub fees_total : (f : Transaction → ℕ) (blocks bs : List Contents) (i : ℕ) (amounts : List ℕ) (total : ℕ) → bs ≡ reverse blocks → i ≡ length bs → sum amounts ≡ sum_by f (transactions_of (reverse (take i bs))) → total ≡ sum amounts → total ≡ sum_by f (transactions_of blocks)
fees_total f blocks bs i amounts total slice past so_far t =
    let all : take i bs ≡ bs = ap (λ k. take k bs) past ∙ take-length bs in
    t ∙ so_far ∙ ap (λ xs. sum_by f (transactions_of (reverse xs))) (all ∙ slice) ∙ ap (λ xs. sum_by f (transactions_of xs)) (reverse-reverse blocks)

-- the fee of one more transaction
pub fees_on : (f : Transaction → ℕ) (ts : List Transaction) (i : ℕ) (t : Transaction) (fees more first : List ℕ) (fee : ℕ) → t ≡ get_or ts i t → i < length ts → fee ≡ f t → more ≡ fees ++ fee ∷ [] → fees ≡ first ++ map f (take i ts) → more ≡ first ++ map f (take (i + 1) ts)
fees_on f ts i t fees more first fee e below is added so_far =
    let here : map f (take (i + 1) ts) ≡ map f (take i ts) ++ f t ∷ [] = ap (map f) (take_more ts i t below ∙ ap (λ x. take i ts ++ x ∷ []) (sym e)) ∙ map-append f (take i ts) (t ∷ []) in
    added ∙ ap (λ xs. xs ++ fee ∷ []) so_far
    ∙ append_assoc first (map f (take i ts)) (fee ∷ [])
    ∙ ap (λ x. first ++ (map f (take i ts) ++ x ∷ [])) is
    ∙ ap (λ xs. first ++ xs) (sym here)

values_by : (named : Bool) (c : Creation) (cs : List Creation) (rest : List ℕ) → map (λ (c : Creation). c.output.value) cs ≡ rest → map (λ (c : Creation). c.output.value) (cond (not named) (c ∷ cs) cs) ≡ cond named [] (c.output.value ∷ []) ++ rest
values_by true c cs rest e = e
values_by false c cs rest e = ap (λ xs. c.output.value ∷ xs) e

values_cons : (blocks : List Contents) (c : Creation) (cs : List Creation) → unspent_values blocks (c ∷ cs) ≡ unspent_value blocks c.outpoint c.output.value ++ unspent_values blocks cs
values_cons blocks c cs = values_by (is_named blocks c.outpoint) c (filter (λ c. not (is_named blocks c.outpoint)) cs) (unspent_values blocks cs) refl

pub values_both : (blocks : List Contents) (xs ys : List Creation) → unspent_values blocks (xs ++ ys) ≡ unspent_values blocks xs ++ unspent_values blocks ys
values_both blocks [] ys = refl
values_both blocks (c ∷ xs) ys =
    values_cons blocks c (xs ++ ys)
    ∙ ap (λ v. unspent_value blocks c.outpoint c.output.value ++ v) (values_both blocks xs ys)
    ∙ sym (append_assoc (unspent_value blocks c.outpoint c.output.value) (unspent_values blocks xs) (unspent_values blocks ys))
    ∙ ap (λ v. v ++ unspent_values blocks ys) (sym (values_cons blocks c xs))

-- the values so far, and those of the rest
join : (v v' one rest now whole : List ℕ) → v' ≡ v ++ one → now ≡ one ++ rest → v ++ now ≡ whole → v' ++ rest ≡ whole
join v v' one rest now whole e n w = ap (λ x. x ++ rest) e ∙ append_assoc v one rest ∙ ap (λ x. v ++ x) (sym n) ∙ w

-- where nothing is left, all values are there
pub nothing_left : (blocks : List Contents) (v whole : List ℕ) (rest : List Creation) → rest ≡ [] → v ++ unspent_values blocks rest ≡ whole → v ≡ whole
nothing_left blocks v whole rest none w = sym (append-nil v) ∙ ap (λ xs. v ++ unspent_values blocks xs) (sym none) ∙ w

pub outputs_on : (blocks : List Contents) (id : List ℕ) (height i : ℕ) (outputs : List Output) (x : Output) (v v' whole : List ℕ) → x ≡ get_or outputs i x → i < length outputs → v' ≡ v ++ unspent_value blocks (record { txid = id; index = i }) x.value → v ++ unspent_values blocks (creations_from id height i (drop i outputs)) ≡ whole → v' ++ unspent_values blocks (creations_from id height (i + 1) (drop (i + 1) outputs)) ≡ whole
outputs_on blocks id height i outputs x v v' whole e below pushed w =
    join v v' _ _ _ whole pushed (ap (λ xs. unspent_values blocks (creations_from id height i xs)) (head_left outputs i x e below) ∙ values_cons blocks _ _) w

pub transactions_on : (blocks : List Contents) (height i : ℕ) (ts : List Transaction) (t : Transaction) (v v' whole : List ℕ) → t ≡ get_or ts i t → i < length ts → v' ≡ v ++ unspent_values blocks (created_by height t) → v ++ unspent_values blocks (flat_map (created_by height) (drop i ts)) ≡ whole → v' ++ unspent_values blocks (flat_map (created_by height) (drop (i + 1) ts)) ≡ whole
transactions_on blocks height i ts t v v' whole e below pushed w =
    join v v' _ _ _ whole pushed (ap (λ xs. unspent_values blocks (flat_map (created_by height) xs)) (head_left ts i t e below) ∙ values_both blocks (created_by height t) (flat_map (created_by height) (drop (i + 1) ts))) w

pub grants_on : (blocks : List Contents) (height g i : ℕ) (os : List Output) (x : Output) (v v' whole : List ℕ) → x ≡ get_or os i x → i < length os → v' ≡ v ++ unspent_value blocks (grant_outpoint (g + i)) x.value → v ++ unspent_values blocks (grants_from height (g + i) (drop i os)) ≡ whole → v' ++ unspent_values blocks (grants_from height (g + (i + 1)) (drop (i + 1) os)) ≡ whole
grants_on blocks height g i os x v v' whole e below pushed w =
    join v v' _ _ _ whole pushed
    (ap (λ xs. unspent_values blocks (grants_from height (g + i) xs)) (head_left os i x e below)
    ∙ values_cons blocks _ _
    ∙ ap (λ n. unspent_value blocks (grant_outpoint (g + i)) x.value ++ unspent_values blocks (grants_from height n (drop (i + 1) os))) (omega arith)) w

pub blocks_on : (blocks bs : List Contents) (h g n : ℕ) (b : Contents) (ts : List Transaction) (os : List Output) (v v' v'' whole : List ℕ) → b ≡ get_or bs h b → h < length bs → ts ≡ reverse b.transactions → os ≡ reverse b.granted → v' ≡ v ++ unspent_values blocks (flat_map (created_by h) ts) → v'' ≡ v' ++ unspent_values blocks (grants_from h g os) → g + length b.granted ≡ n → v ++ unspent_values blocks (created_from h g (drop h bs)) ≡ whole → v'' ++ unspent_values blocks (created_from (h + 1) n (drop (h + 1) bs)) ≡ whole
blocks_on blocks bs h g n b ts os v v' v'' whole e below slice given first second count w =
    let u = λ (xs : List Creation). unspent_values blocks xs in
    let later = created_from (h + 1) (g + length b.granted) (drop (h + 1) bs) in
    let a : created_by_all h b.transactions ≡ flat_map (created_by h) ts = ap (created_by_all h) (sym (ap reverse slice ∙ reverse-reverse b.transactions)) ∙ created_in_order h ts in
    let c : granted_at h g b.granted ≡ grants_from h g os = ap (granted_at h g) (sym (ap reverse given ∙ reverse-reverse b.granted)) ∙ granted_in_order h g os in
    let same : u (created_from h g (drop h bs)) ≡ (u (flat_map (created_by h) ts) ++ u (grants_from h g os)) ++ u later =
    ap (λ xs. u (created_from h g xs)) (head_left bs h b e below)
    ∙ values_both blocks (created_by_all h b.transactions ++ granted_at h g b.granted) later
    ∙ ap (λ x. x ++ u later) (values_both blocks (created_by_all h b.transactions) (granted_at h g b.granted) ∙ ap (λ x. u x ++ u (granted_at h g b.granted)) a ∙ ap (λ x. u (flat_map (created_by h) ts) ++ u x) c) in
    ap (λ m. v'' ++ u (created_from (h + 1) m (drop (h + 1) bs))) (sym count)
    ∙ ap (λ x. x ++ u later) (second ∙ ap (λ x. x ++ u (grants_from h g os)) first)
    ∙ append_assoc (v ++ u (flat_map (created_by h) ts)) (u (grants_from h g os)) (u later)
    ∙ append_assoc v (u (flat_map (created_by h) ts)) (u (grants_from h g os) ++ u later)
    ∙ ap (λ x. v ++ x) (sym (append_assoc (u (flat_map (created_by h) ts)) (u (grants_from h g os)) (u later)) ∙ sym same)
    ∙ w

pub unspent_total : (blocks bs : List Contents) (h g : ℕ) (v : List ℕ) (count total : ℕ) → bs ≡ reverse blocks → v ++ unspent_values blocks (created_from h g (drop h bs)) ≡ unspent_values blocks (created_from 0 0 bs) → length bs ≤ h → count ≡ length v → total ≡ sum v → IsUnspent blocks (record { count = count; value = total })
unspent_total blocks bs h g v count total slice w past c t =
    let value = λ (c : Creation). c.output.value in
    let none : unspent_values blocks (created_from h g (drop h bs)) ≡ [] = ap (λ xs. unspent_values blocks (created_from h g xs)) (drop-past bs h past) in
    let all : v ≡ map value (unspent_of blocks) =
    sym (append-nil v) ∙ ap (λ x. v ++ x) (sym none) ∙ w
    ∙ ap (unspent_values blocks) (sym (created_of_order bs) ∙ ap created_of (ap reverse slice ∙ reverse-reverse blocks)) in
    record {
      count = c ∙ ap length all ∙ length-map (unspent_of blocks) value;
      value = t ∙ ap sum all ∙ sum-map value (unspent_of blocks);
    }
