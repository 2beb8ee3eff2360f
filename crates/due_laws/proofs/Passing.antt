-- A filling of due claims passes the next block as a whole.
use Rattle.std.proofs.Common.{◌≡◌, ℕ, zero, suc, ◌+◌, ◌%◌, ◌^◌, ◌<◌, ◌≤◌, Bool, true, false, ◌&&◌, ◌||◌, nat_le, eqb, List, [], ◌∷◌, map, length, Option, Some, None, sym, ap, subst, ◌∙◌, refl, inl, inr, ⊎_elim, arith, append-nil}
use Rattle.std.specs.Prelude.{◌⊎◌, not, nat_lt, option_map, unwrap_or}
use Rattle.std.specs.List.{Contains, AllByRecursion, find, list_any, list_all}
use Rattle.std.specs.Str.{bytes_eq}
use Rattle.std.proofs.lemmas.Bool.{cases_lt, lt-ltb, le-leb, leb-true, ne_eqb, false_from_ne_true, false≢true, and_parts}
use Rattle.std.proofs.lemmas.Slice.Eq.{bytes_eq-Decides}
use Rattle.std.proofs.lemmas.List.Sums.{sum_by-cons}
use Rattle.std.proofs.Math.Nat.{div-eq_of_lt, mod-eq_of_lt}
use Rattle.digest.specs.Hash.{sha256d, Collide}
use Rattle.script.specs.Step.{bit_at}
use Rattle.script.specs.Run.{Clean}
use Rattle.tx.specs.declared.input.OutPoint.{OutPoint}
use Rattle.tx.specs.declared.input.TxIn.{TxIn}
use Rattle.tx.specs.Parts.{Output}
use Rattle.tx.specs.Fields.{Transaction, same_outpoint, signed_input, unsigned_inputs, unsigned_transaction, total_value}
use Rattle.tx.specs.Spelling.{outpoint, stripped_spelling, transaction_id}
use Rattle.sighash.specs.Programs.{run_of}
use Rattle.chain.specs.Blocks.{Contents as Block, Creation, Coin, empty_block, height_of, created_of, names, is_named, coin_at, has_id, value_at, paid_in, paid_out}
use Rattle.chain.specs.Locks.{is_final, is_old_enough}
use Rattle.chain.specs.Checks.{first_of, input_refusal, inputs_refusal, names_twice, transaction_refusal}
use Rattle.chain.proofs.Noting.{same_is, itself}
use Rattle.paths.specs.declared.state.Path.{Path}
use Rattle.claim.specs.declared.parts.Place.{Place}
use Rattle.claim.specs.declared.parts.Shell.{Shell}
use Rattle.claim.specs.declared.parts.Shell.TheVariants.{Open, Fixed}
use Rattle.claim.specs.Judgement.{needed_height, is_shell}
use Rattle.claim.specs.Claims.{ClaimParts, IsWhole, FitsClaim, path_of, lock_time_of}
use Rattle.claim.specs.Laws.{AcceptedSpend, FittingIsTimed}
use Rattle.claim.proofs.Meeting.{judgement_of-ok}
use Rattle.filling.specs.Filling.{greatest_of, lone_transaction, transaction_for, filled_input, filling_of}
use Rattle.filling.specs.Refusals.{is_fixed, has_fixed, has_repeat, share_outpoint, total_claimed, do_exceed, ArePassed}
use Rattle.filling.specs.Filled.{AllFit, FillingsFit}
use Rattle.resolve.specs.declared.known.Known.{Known}
use Rattle.channel.specs.Rights.{rights_of}
use Rattle.safety.specs.Standing.{StandsAt}
use Rattle.safety.specs.Passing.{HasTwinOn}
use Rattle.safety.proofs.Slots.{contains_first, same_bytes}
use Rattle.safety.proofs.Lists.{at_reversed, any_found, any_holds, contains_map}
use Rattle.safety.proofs.Tests.{from_map}
use Rattle.safety.proofs.Standing.{block_in, spent_is}
use Rattle.safety.proofs.Ids.{unsigned_limits, one_unsigned_id}
use Rattle.due_laws.specs.Filling.{DuesAreFillable}
use Rattle.due_laws.specs.Passing.{IsRipe, MayBeFilled, KeepLimits, FillingsPass}

-- ---- no input twice

apart_bytes : (o p : OutPoint) → bytes_eq (outpoint o) (outpoint p) ≡ false → same_outpoint p o ≡ false
apart_bytes o p e = false_from_ne_true _ (λ t. false≢true (sym e ∙ (bytes_eq-Decides (outpoint o) (outpoint p)).1 (ap outpoint (sym (same_is p o t)))))

or_false : (a b : Bool) → (a || b) ≡ false → (a ≡ false) × (b ≡ false)
or_false true b e = absurd (false≢true (sym e))
or_false false b e = (refl, e)

neither : (a b : Bool) → a ≡ false → b ≡ false → (a || b) ≡ false
neither true b e f = e
neither false b e f = f

none_names : (t : Transaction) (ps : List (List ℕ)) (o : OutPoint) (claims : List ClaimParts) → list_any (bytes_eq (outpoint o)) (map (λ c. outpoint c.place.outpoint) claims) ≡ false
    → list_any (λ i. same_outpoint i.outpoint o) (map (filled_input t ps) claims) ≡ false
none_names t ps o [] e = refl
none_names t ps o (c ∷ claims) e =
    let w = or_false (bytes_eq (outpoint o) (outpoint c.place.outpoint)) (list_any (bytes_eq (outpoint o)) (map (λ d. outpoint d.place.outpoint) claims)) e in
    neither (same_outpoint c.place.outpoint o) (list_any (λ i. same_outpoint i.outpoint o) (map (filled_input t ps) claims)) (apart_bytes o c.place.outpoint w.0) (none_names t ps o claims w.1)

named_once : (t : Transaction) (ps : List (List ℕ)) (claims : List ClaimParts) → share_outpoint claims ≡ false → names_twice (map (filled_input t ps) claims) ≡ false
named_once t ps [] e = refl
named_once t ps (c ∷ claims) e =
    let w = or_false (list_any (bytes_eq (outpoint c.place.outpoint)) (map (λ d. outpoint d.place.outpoint) claims)) (has_repeat (map (λ d. outpoint d.place.outpoint) claims)) e in
    neither (list_any (λ i. same_outpoint i.outpoint c.place.outpoint) (map (filled_input t ps) claims)) (names_twice (map (filled_input t ps) claims)) (none_names t ps c.place.outpoint claims w.0)
    (named_once t ps claims w.1)

-- ---- locks

bit_clear : (k a : ℕ) → a < 2 ^ k → bit_at k a ≡ false
bit_clear k a h = ap (λ q. eqb (q % 2) 1) (div-eq_of_lt h)

final_with : (b d : Bool) → ((true && b) || (false && d) || false) ≡ b
final_with true d = refl
final_with false d = refl

and_false : (a b : Bool) → b ≡ false → (a && b) ≡ false
and_false true b e = e
and_false false b e = refl

not_all : (inputs : List TxIn) (input : TxIn) → Contains inputs input → input.sequence < 65536 → list_all (λ i. eqb i.sequence 0xffffffff) inputs ≡ false
not_all [] input (k, h, e) l = absurd (omega (arith, h))
not_all (i ∷ inputs) input (zero, h, e) l =
    let low : i.sequence < 65536 = subst (λ (j : TxIn). j.sequence < 65536) (sym e) l in
    rw (ne_eqb i.sequence 0xffffffff (λ z. omega arith)) refl
not_all (i ∷ inputs) input (suc k, h, e) l = and_false (eqb i.sequence 0xffffffff) _ (not_all inputs input (k, omega (arith, h), e) l)

final_by : (height lock_time : ℕ) (inputs : List TxIn) → lock_time < 500000000 → list_all (λ i. eqb i.sequence 0xffffffff) inputs ≡ false → is_final height lock_time inputs ≡ nat_lt lock_time height
final_by height lock_time inputs l a =
    let no_time : nat_le 500000000 lock_time ≡ false = false_from_ne_true _ (λ t. let h = leb-true 500000000 lock_time t in omega arith) in
    rw (lt-ltb lock_time 500000000 l, no_time, a) (final_with (nat_lt lock_time height) (nat_le lock_time 0x20ffffff))

old_by : (height version sequence coin_height : ℕ) → version ≡ 2 → sequence < 65536 → is_old_enough height version sequence coin_height ≡ nat_le (coin_height + sequence) height
old_by height version sequence coin_height v s = rw (v, bit_clear 31 sequence (omega arith), bit_clear 22 sequence (omega arith), mod-eq_of_lt s) refl

-- ---- each input

next_coin : (blocks : List Block) (o : OutPoint) → coin_at (empty_block ∷ blocks) o ≡ coin_at blocks o
next_coin blocks o =
    ap (λ (cs : List Creation). option_map (λ (c : Creation). record { output = c.output; height = c.height; spent = is_named blocks o }) (find (λ (c : Creation). same_outpoint c.outpoint o) cs)) (append-nil (created_of blocks))

coin_passes : (blocks : List Block) (height : ℕ) (t : Transaction) (input : TxIn) (coin : Coin) (n tallest : ℕ) → coin_at blocks input.outpoint ≡ Some coin → coin.spent ≡ false → is_final height t.lock_time t.inputs ≡ true
    → is_old_enough height t.version input.sequence coin.height ≡ true → run_of t input coin.output ≡ Some (Clean n tallest) → input_refusal blocks height t input ≡ None
coin_passes blocks height t input coin n tallest there free final old run = rw (there, free, final, old, run) refl

module _ (spends : AcceptedSpend) (timed : FittingIsTimed) (blocks : List Block) (t : Transaction) (low : t.lock_time < length blocks) where
  one_passes : (x : ClaimParts) (input : TxIn) → IsWhole x → FitsClaim x t input → IsRipe blocks x → input_refusal (empty_block ∷ blocks) (length blocks) t input ≡ None
  one_passes x input w f r =
      let i = timed x t input w f in
      let sequence : input.sequence < 65536 = subst (λ n. n < 65536) (sym i.sequence) i.age in
      let opens = spends x w f.path f.taken in
      let there : coin_at (empty_block ∷ blocks) input.outpoint ≡ Some r.coin = next_coin blocks input.outpoint ∙ ap (coin_at blocks) f.fits.outpoint ∙ r.there in
      let final : is_final (length blocks) t.lock_time t.inputs ≡ true =
      final_by (length blocks) t.lock_time t.inputs i.height (not_all t.inputs input f.fits.among sequence) ∙ lt-ltb t.lock_time (length blocks) low in
      let reached : r.coin.height + input.sequence ≤ length blocks = subst (λ n. r.coin.height + n ≤ length blocks) (sym i.sequence) r.age in
      let old : is_old_enough (length blocks) t.version input.sequence r.coin.height ≡ true =
      old_by (length blocks) t.version input.sequence r.coin.height i.version sequence ∙ le-leb (r.coin.height + input.sequence) (length blocks) reached in
      coin_passes (empty_block ∷ blocks) (length blocks) t input r.coin f.path.ops f.path.height there r.unspent final old (ap (run_of t input) r.output ∙ opens.clean t input f.fits)

  all_pass : (claims : List ClaimParts) (inputs : List TxIn) → AllByRecursion IsWhole claims → AllFit t claims inputs → AllByRecursion (IsRipe blocks) claims → inputs_refusal (empty_block ∷ blocks) (length blocks) t inputs ≡ None
  all_pass [] [] w f r = refl
  all_pass [] (x ∷ inputs) w f r = absurd f
  all_pass (c ∷ claims) [] w f r = absurd f
  all_pass (c ∷ claims) (x ∷ inputs) w f r =
      ap (λ o. first_of o (inputs_refusal (empty_block ∷ blocks) (length blocks) t inputs)) (one_passes c x w.0 f.0 r.0) ∙ all_pass claims inputs w.1 f.1 r.1

-- ---- the lock time of the whole

greatest_low : (blocks : List Block) (claims : List ClaimParts) → 0 < length blocks → AllByRecursion (IsRipe blocks) claims → greatest_of (map lock_time_of claims) < length blocks
greatest_low blocks [] l r = l
greatest_low blocks (c ∷ claims) l r =
    let here = r.0.above in
    let others = greatest_low blocks claims l r.1 in
    omega (arith, here, others)

-- what is known of a claim that an input fits: its shell stands
record Stood (x : ClaimParts) : Type 0 where
  path : Path
  at : path_of x ≡ Some path
  stands : is_shell path x.place x.shell ≡ true

stood : (x : ClaimParts) (t : Transaction) (input : TxIn) → FitsClaim x t input → Stood x
stood x t input f = let j = judgement_of-ok x.ways x.index x.slots x.place x.shell f.path f.taken in record { path = f.path; at = j.at; stands = j.stands }

lone_lock : (x : ClaimParts) (s : Shell) (outputs : List Output) (path : Path) → x.shell ≡ s → path_of x ≡ Some path → (lone_transaction x s outputs).lock_time ≤ lock_time_of x
lone_lock x Open outputs path e at = omega arith
lone_lock x (Fixed u) outputs path e at =
    let is : lock_time_of x ≡ u.lock_time = ap (λ o. unwrap_or (option_map (λ p. needed_height p x.shell) o) 0) at ∙ ap (needed_height path) e in
    omega (arith, is)

lock_low : (blocks : List Block) (claims : List ClaimParts) (outputs : List Output) (t : Transaction) (inputs : List TxIn) → 0 < length claims → AllFit t claims inputs → AllByRecursion (IsRipe blocks) claims
    → (transaction_for claims outputs).lock_time < length blocks
lock_low blocks [] outputs t inputs l f r = absurd (omega (arith, l))
lock_low blocks (c ∷ []) outputs t [] l f r = absurd f
lock_low blocks (c ∷ []) outputs t (x ∷ inputs) l f r =
    let s = stood c t x f.0 in
    let n = lone_lock c c.shell outputs s.path refl s.at in
    let here = r.0.above in
    omega (arith, n, here)
lock_low blocks (c ∷ d ∷ claims) outputs t inputs l f r = let here = r.0.above in greatest_low blocks (c ∷ d ∷ claims) (omega (arith, here)) r

-- ---- what it pays

worth_of : (blocks : List Block) (t : Transaction) (ps : List (List ℕ)) (claims : List ClaimParts) → AllByRecursion (IsRipe blocks) claims → paid_in (empty_block ∷ blocks) (map (filled_input t ps) claims) ≡ total_claimed claims
worth_of blocks t ps [] r = refl
worth_of blocks t ps (c ∷ claims) r =
    let here : value_at (empty_block ∷ blocks) c.place.outpoint ≡ c.place.value =
    ap (λ (o : Option Coin). unwrap_or (option_map (λ (x : Coin). x.output.value) o) 0) (next_coin blocks c.place.outpoint ∙ r.0.there) ∙ ap (λ (o : Output). o.value) r.0.output in
    sum_by-cons (λ (i : TxIn). value_at (empty_block ∷ blocks) i.outpoint) (filled_input t ps c) (map (filled_input t ps) claims)
    ∙ ap (λ n. n + paid_in (empty_block ∷ blocks) (map (filled_input t ps) claims)) here ∙ ap (λ n. c.place.value + n) (worth_of blocks t ps claims r.1)
    ∙ sym (sum_by-cons (λ (x : ClaimParts). x.place.value) c claims)

not_less : (a b : ℕ) → nat_lt a b ≡ false → b ≤ a
not_less a b e =
    ⊎_elim {C = b ≤ a} (λ (l : a < b). absurd (false≢true (sym e ∙ lt-ltb a b l))) (λ (l : b ≤ a). l) (cases_lt a b)

open_pays : (claims : List ClaimParts) (outputs : List Output) → has_fixed claims ≡ false → do_exceed claims outputs ≡ false → paid_out outputs ≤ total_claimed claims
open_pays claims outputs f e = not_less (total_claimed claims) (paid_out outputs) (sym (ap (λ b. not b && nat_lt (total_claimed claims) (total_value outputs)) f) ∙ e)

-- a fixed transaction pays at most the claimed output's value
covers : (path : Path) (place : Place) (u : Transaction) → is_shell path place (Fixed u) ≡ true → total_value u.outputs ≤ place.value
covers path place u e = leb-true (total_value u.outputs) place.value (and_parts _ _ e).1

lone_pays : (x : ClaimParts) (s : Shell) (outputs : List Output) (path : Path) → x.shell ≡ s → is_shell path x.place x.shell ≡ true → do_exceed (x ∷ []) outputs ≡ false
    → paid_out (lone_transaction x s outputs).outputs ≤ total_claimed (x ∷ [])
lone_pays x Open outputs path e st d = open_pays (x ∷ []) outputs (ap (λ s. is_fixed s || false) e) d
lone_pays x (Fixed u) outputs path e st d =
    let low = covers path x.place u (ap (is_shell path x.place) (sym e) ∙ st) in
    let one = sum_by-cons (λ (y : ClaimParts). y.place.value) x [] in
    omega (arith, low, one)

no_fixed : (a b : Bool) → (a && b) ≡ false → a ≡ true → b ≡ false
no_fixed true b e f = e
no_fixed false b e f = absurd (false≢true f)

pays_little : (claims : List ClaimParts) (outputs : List Output) (t : Transaction) (inputs : List TxIn) → 0 < length claims → AllFit t claims inputs → ArePassed claims outputs
    → paid_out (transaction_for claims outputs).outputs ≤ total_claimed claims
pays_little [] outputs t inputs l f p = absurd (omega (arith, l))
pays_little (c ∷ []) outputs t [] l f p = absurd f
pays_little (c ∷ []) outputs t (x ∷ inputs) l f p = let s = stood c t x f.0 in lone_pays c c.shell outputs s.path refl s.stands p.within
pays_little (c ∷ d ∷ claims) outputs t inputs l f p =
    open_pays (c ∷ d ∷ claims) outputs (no_fixed (nat_lt 1 (length (c ∷ d ∷ claims))) (has_fixed (c ∷ d ∷ claims)) p.unmixed (lt-ltb 1 (length (c ∷ d ∷ claims)) (omega arith))) p.within

-- ---- its id

-- a transaction on the chain has the id
record HasId (blocks : List Block) (id : List ℕ) : Type 0 where
  height : ℕ
  transaction : Transaction
  stands : StandsAt blocks height transaction
  is : transaction_id transaction ≡ id

id_there : (blocks : List Block) (id : List ℕ) → has_id blocks id ≡ true → HasId blocks id
id_there blocks id e =
    let b = any_found (λ (x : Block). list_any (λ (t : Transaction). bytes_eq (transaction_id t) id) x.transactions) blocks e in
    let t = any_found (λ (t : Transaction). bytes_eq (transaction_id t) id) b.0.transactions b.2 in
    let h = at_reversed blocks b.0 b.1 in
    record { height = h.0; transaction = t.0; stands = record { block = b.0; there = h.1; within = t.1 }; is = same_bytes (transaction_id t.0) id t.2 }

-- a transaction that is another but for witnesses spends what that spends
is_spent : (blocks : List Block) (t u : Transaction) (input : TxIn) (height : ℕ) → StandsAt blocks height u → Contains t.inputs input → unsigned_transaction t ≡ unsigned_transaction u → is_named blocks input.outpoint ≡ true
is_spent blocks t u input height s i e =
    let o = input.outpoint in
    let among : Contains (unsigned_inputs u.inputs) (signed_input input []) =
    subst (λ (x : Transaction). Contains x.inputs (signed_input input [])) e (contains_map (λ (x : TxIn). signed_input x []) t.inputs input i) in
    let x = from_map (λ (y : TxIn). signed_input y []) u.inputs (signed_input input []) among in
    let at : x.0.outpoint ≡ o = ap (λ (y : TxIn). y.outpoint) x.2 in
    any_holds (λ (b : Block). list_any (names o) b.transactions) blocks s.block (block_in blocks height u s)
    (any_holds (names o) s.block.transactions u s.within
    (any_holds (λ (y : TxIn). same_outpoint y.outpoint o) u.inputs x.0 x.1 (ap (λ (p : OutPoint). same_outpoint p o) at ∙ itself o)))

-- ---- together

unrefused : (blocks : List Block) (t : Transaction) → names_twice t.inputs ≡ false → has_id blocks (transaction_id t) ≡ false → inputs_refusal blocks (height_of blocks) t t.inputs ≡ None
    → nat_le (paid_out t.outputs) (paid_in blocks t.inputs) ≡ true → transaction_refusal blocks t ≡ None
unfolding transaction_refusal
unrefused blocks t once new passed covered = rw (once, new, passed, covered) refl

module _ (spends : AcceptedSpend) (timed : FittingIsTimed) (blocks : List Block) (claims : List ClaimParts) (outputs : List Output) (ps : List (List ℕ)) where
  abbrev filled : Transaction
  filled = filling_of claims outputs ps

  abbrev bare : Transaction
  bare = transaction_for claims outputs

  -- the first output that it spends
  first_input : (cs : List ClaimParts) → 0 < length cs → AllByRecursion (IsRipe blocks) cs → (c : ClaimParts) × Contains (map (filled_input bare ps) cs) (filled_input bare ps c) × IsRipe blocks c
  first_input [] l r = absurd (omega (arith, l))
  first_input (c ∷ cs) l r = (c, contains_first (filled_input bare ps c) (map (filled_input bare ps) cs), r.0)

  passes : (known : Known) → MayBeFilled known blocks claims outputs → AllFit filled claims filled.inputs → has_id blocks (transaction_id filled) ≡ false → transaction_refusal (empty_block ∷ blocks) filled ≡ None
  passes known m fit new =
      let lock = lock_low blocks claims outputs filled filled.inputs m.some fit m.ripe in
      let height : height_of (empty_block ∷ blocks) ≡ length blocks = omega arith in
      let pays = pays_little claims outputs filled filled.inputs m.some fit m.passed in
      let worth = worth_of blocks bare ps claims m.ripe in
      unrefused (empty_block ∷ blocks) filled (named_once bare ps claims m.passed.apart) new
      (ap (λ n. inputs_refusal (empty_block ∷ blocks) n filled filled.inputs) height ∙ all_pass spends timed blocks filled lock claims filled.inputs m.whole fit m.ripe)
      (le-leb (paid_out filled.outputs) (paid_in (empty_block ∷ blocks) filled.inputs) (subst (λ n. paid_out bare.outputs ≤ n) (sym worth) pays))

  result : (known : Known) → MayBeFilled known blocks claims outputs → KeepLimits blocks filled → AllFit filled claims filled.inputs → (b : Bool) → has_id blocks (transaction_id filled) ≡ b
      → (transaction_refusal (empty_block ∷ blocks) filled ≡ None) ⊎ HasTwinOn blocks filled
  result known m k fit false e = inl (passes known m fit e)
  result known m k fit true e =
      let u = id_there blocks (transaction_id filled) e in
      let f = first_input claims m.some m.ripe in
      let c = f.0 in
      let ripe = f.2 in
      ⊎_elim {C = (transaction_refusal (empty_block ∷ blocks) filled ≡ None) ⊎ HasTwinOn blocks filled}
      (λ (s : unsigned_transaction filled ≡ unsigned_transaction u.transaction).
      absurd (false≢true (sym ripe.unspent ∙ spent_is blocks c.place.outpoint ripe.coin ripe.there ∙ is_spent blocks filled u.transaction (filled_input bare ps c) u.height u.stands f.1 s)))
      (λ (x : Collide sha256d (stripped_spelling filled) (stripped_spelling u.transaction)). inr (record { height = u.height; twin = u.transaction; stands = u.stands; collide = x }))
      (one_unsigned_id filled u.transaction (unsigned_limits filled k.filling) (k.twins u.height u.transaction u.stands u.is) (sym u.is))

pub fillings_pass : AcceptedSpend → FittingIsTimed → FillingsFit → DuesAreFillable → FillingsPass
fillings_pass spends timed fit fillable h kept owns known w blocks claims outputs m k =
    let can = fillable h kept owns known w claims m.due in
    result spends timed blocks claims outputs known.preimages known m k (fit claims outputs (rights_of h.state) known.preimages m.whole m.passed can.channels)
    (has_id blocks (transaction_id (filling_of claims outputs known.preimages))) refl
