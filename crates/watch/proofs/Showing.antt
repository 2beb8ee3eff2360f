-- A clean run of an HTLC's script takes one of its paths, and the path with the preimage shows it.
use Rattle.std.proofs.Common.{◌≡◌, ℕ, zero, suc, ◌<◌, ◌==◌, Bool, true, false, ◌&&◌, cond, List, [], ◌∷◌, ◌++◌, length, reverse, get_or, Option, Some, None, refl, sym, ap, subst, ◌∙◌, arith, inl, inr}
use Rattle.std.specs.Prelude.{slice_get, Contains, Any, ◌⊎◌, option_map, option_and_then, codes}
use Rattle.std.specs.List.{list_any, filter_map, cons_option, AllByRecursion}
use Rattle.std.specs.Str.{bytes_eq}
use Rattle.std.proofs.lemmas.Bool.{and_from, and_right, eq-eqb, false≢true}
use Rattle.std.proofs.lemmas.List.{reverse-append, reverse-reverse}
use Rattle.std.proofs.lemmas.List.Folds.{list_any_at}
use Rattle.std.proofs.lemmas.Option.{same_Some, slice_get_read}
use Rattle.std.proofs.lemmas.Slice.Eq.{bytes_eq-Decides}
use Rattle.sha2.specs.Sha256.{sha256}
use Rattle.sha2.proofs.Facts256.{length-sha256}
use Rattle.digest.specs.Hash.{hash160}
use Rattle.digest.specs.Ripemd160.{ripemd160}
use Rattle.script.specs.declared.spending.Spend.{Spend}
use Rattle.script.specs.Token.{is_key}
use Rattle.script.specs.Run.{Clean, outcome}
use Rattle.facts.specs.Meaning.{Meets, slot_of}
use Rattle.paths.specs.declared.state.Path.{Path}
use Rattle.paths.specs.Listing.{CheckedScript}
use Rattle.paths.specs.Exhaustive.{SatisfiesBy}
use Rattle.paths.specs.Laws.{SatisfiedExactly}
use Rattle.tx.specs.declared.input.OutPoint.{OutPoint}
use Rattle.tx.specs.declared.input.TxIn.{TxIn}
use Rattle.tx.specs.Fields.{Transaction}
use Rattle.sighash.specs.Programs.{script_hash_program, is_key_hash_program, is_script_hash_program, given_by_hash, given_of, spend_of, run_of_given, run_of}
use Rattle.keys.specs.Derivation.{derived_key}
use Rattle.commit.specs.declared.fees.Direction.{Direction}
use Rattle.commit.specs.declared.fees.Direction.TheVariants.{Offered, Received}
use Rattle.commit.specs.declared.outputs.HtlcOutput.{HtlcOutput}
use Rattle.commit.specs.Fees.{satoshis_of}
use Rattle.commit.specs.Keys.{keys_of}
use Rattle.commit.specs.Outputs.{htlc_script}
use Rattle.commit.specs.Commitments.{Contents, id_of, htlcs_of}
use Rattle.penalty.specs.Claimable.{htlc_form}
use Rattle.resolve.specs.Preimages.{shown_by, if_32, shown_by_input}
use Rattle.watch.specs.declared.learning.CommitmentHtlcs.{CommitmentHtlcs}
use Rattle.watch.specs.Learning.{htlcs_in, is_paid_by, learnt_if, learnt_by, learnt_from}
use Rattle.watch.specs.Showing.{SpendsHtlc, Goes, KeysAreKeys, IsBytes, ScriptCollides, SpendersGo, preimage_way, IsLearnt, HashCollides, PreimagesAreLearnt}
use Rattle.watch.proofs.HtlcScripts.{IsRead, form_read}

-- ---- what a witness shows

-- an item that is the first slot, and that the watch looks at
abbrev IsShown : List (List ℕ) → List (List ℕ) → Type 0
IsShown items witness = (x : List ℕ) × (slot_of (reverse items) 0 ≡ x) × (shown_by witness ≡ Some x)

of_two : (items : List (List ℕ)) (script : List ℕ) → length items ≡ 2 → IsShown items (items ++ script ∷ [])
of_two [] script l = absurd (omega (arith, l))
of_two (a ∷ []) script l = absurd (omega (arith, l))
of_two (a ∷ b ∷ []) script l = (b, refl, refl)
of_two (a ∷ b ∷ c ∷ rest) script l = absurd (omega (arith, l))

of_four : (items : List (List ℕ)) (script : List ℕ) → length items ≡ 4 → IsShown items (items ++ script ∷ [])
of_four [] script l = absurd (omega (arith, l))
of_four (a ∷ []) script l = absurd (omega (arith, l))
of_four (a ∷ b ∷ []) script l = absurd (omega (arith, l))
of_four (a ∷ b ∷ c ∷ []) script l = absurd (omega (arith, l))
of_four (a ∷ b ∷ c ∷ d ∷ []) script l = (d, refl, refl)
of_four (a ∷ b ∷ c ∷ d ∷ e ∷ rest) script l = absurd (omega (arith, l))

-- ---- what is learnt

-- what one element gives is among what all give
among : {A B : Type 0} (f : A → Option B) (xs : List A) (k : ℕ) (y : A) (x : B) → k < length xs → get_or xs k y ≡ y → f y ≡ Some x → Contains (filter_map f xs) x
among f [] k y x l e s = absurd (omega arith)
among f (z ∷ zs) zero y x l e s = subst (λ o. Contains (cons_option o (filter_map f zs)) x) (sym (ap f e ∙ s)) (0, omega arith, refl)
among {B = B} f (z ∷ zs) (suc k) y x l e s = behind (f z) (among f zs k y x (omega arith) e s)
  where
    behind : (o : Option B) → Contains (filter_map f zs) x → Contains (cons_option o (filter_map f zs)) x
    behind None c = c
    behind (Some w) (n, m, g) = (suc n, omega arith, g)

any_of : {A : Type 0} (p : A → Bool) (xs : List A) (x : A) → Contains xs x → p x ≡ true → list_any p xs ≡ true
any_of p xs x (k, l, e) t = list_any_at p xs k x l (ap p e ∙ t)

-- the HTLC stands at the outpoint, and this is its preimage
paid : (c : Contents) (h : HtlcOutput) (o : OutPoint) (x : List ℕ) → Contains (htlcs_of c) h → o ≡ record { txid = id_of c; index = h.index } → bytes_eq (sha256 x) h.htlc.hash ≡ true → is_paid_by x o (htlcs_in c) ≡ true
paid c h o x there at e =
    and_from _ _ ((bytes_eq-Decides (id_of c) o.txid).1 (sym (ap (λ (p : OutPoint). p.txid) at)))
    (any_of (λ g. g.index == o.index && bytes_eq (sha256 x) g.htlc.hash) (htlcs_of c) h there (and_from _ _ (eq-eqb h.index o.index (sym (ap (λ (p : OutPoint). p.index) at))) e))

learnt : (commitments : List CommitmentHtlcs) (c : Contents) (h : HtlcOutput) (t : Transaction) (i : TxIn) (x : List ℕ) → Contains commitments (htlcs_in c) → SpendsHtlc c h t i → shown_by_input (Some i) ≡ Some x
    → bytes_eq (sha256 x) h.htlc.hash ≡ true → Contains (learnt_from commitments t.inputs) x
learnt commitments c h t i x known spends shown e =
    let pays : list_any (is_paid_by x i.outpoint) commitments ≡ true = any_of (is_paid_by x i.outpoint) commitments (htlcs_in c) known (paid c h i.outpoint x spends.htlc spends.outpoint e) in
    let (k, l, at) = spends.input in
    among (learnt_by commitments) t.inputs k i x l at (ap (learnt_if commitments i.outpoint) shown ∙ ap (λ b. cond b (Some x) None) pays)

-- an item of 32 bytes with the HASH160 that the way asks for
by_item : (commitments : List CommitmentHtlcs) (c : Contents) (h : HtlcOutput) (t : Transaction) (i : TxIn) (w : List (List ℕ)) (x : List ℕ) → Contains commitments (htlcs_in c) → SpendsHtlc c h t i
    → slot_of w 0 ≡ x → shown_by i.witness ≡ Some x → (length (slot_of w 0) == 32) ≡ true → bytes_eq (hash160 (slot_of w 0)) (ripemd160 h.htlc.hash) ≡ true
    → IsLearnt commitments h.htlc.hash t.inputs ⊎ HashCollides h.htlc.hash i
by_item commitments c h t i w x known spends at shown long hashed = by_test (bytes_eq (sha256 x) h.htlc.hash) refl
  where
    size : (length x == 32) ≡ true
    size = ap (λ y. length y == 32) (sym at) ∙ long

    of_32 : shown_by_input (Some i) ≡ Some x
    of_32 = ap if_32 shown ∙ ap (λ b. cond b (Some x) None) size

    same : ripemd160 (sha256 x) ≡ ripemd160 h.htlc.hash
    same = ap hash160 (sym at) ∙ (bytes_eq-Decides (hash160 (slot_of w 0)) (ripemd160 h.htlc.hash)).0 hashed

    by_test : (b : Bool) → bytes_eq (sha256 x) h.htlc.hash ≡ b → IsLearnt commitments h.htlc.hash t.inputs ⊎ HashCollides h.htlc.hash i
    by_test true e = inl (record { preimage = x; hashed = (bytes_eq-Decides (sha256 x) h.htlc.hash).0 e; learnt = learnt commitments c h t i x known spends of_32 e })
    by_test false e = inr (record { item = x; shown = of_32; collide = (λ is. false≢true (sym e ∙ (bytes_eq-Decides (sha256 x) h.htlc.hash).1 is), same) })

along : (commitments : List CommitmentHtlcs) (c : Contents) (h : HtlcOutput) (d : Direction) (t : Transaction) (i : TxIn) (spend : Spend) (p : Path) (items : List (List ℕ)) (script : List ℕ) → Contains commitments (htlcs_in c)
    → SpendsHtlc c h t i → slice_get (htlc_form c.keys d h.htlc).paths (preimage_way d) ≡ Some p → i.witness ≡ items ++ script ∷ [] → Meets spend items p.arity p.facts
    → IsLearnt commitments h.htlc.hash t.inputs ⊎ HashCollides h.htlc.hash i
along commitments c h Offered t i spend p items script known spends there w m =
    let met = subst (λ (q : Path). Meets spend items q.arity q.facts) (sym (same_Some _ p there)) m in
    let (x, at, shown) = of_two items script met.exact in
    by_item commitments c h t i (reverse items) x known spends at (ap shown_by w ∙ shown) met.holds.1.0 met.holds.1.1.0
along commitments c h Received t i spend p items script known spends there w m =
    let met = subst (λ (q : Path). Meets spend items q.arity q.facts) (sym (same_Some _ p there)) m in
    let (x, at, shown) = of_four items script met.exact in
    by_item commitments c h t i (reverse items) x known spends at (ap shown_by w ∙ shown) met.holds.1.0 met.holds.1.1.0

pub preimages_are_learnt : PreimagesAreLearnt
preimages_are_learnt commitments c h t i known spends g =
    along commitments c h h.direction t i (spend_of t i (htlc_script c.keys h.direction h.htlc) (satoshis_of h.htlc.amount_msat)) g.path g.items (htlc_script c.keys h.direction h.htlc) known spends g.there g.witness g.meets

-- ---- clean runs

derived_form : (base point : List ℕ) → is_key (derived_key base point) ≡ true
unfolding derived_key is_key
derived_form base point = let h = length-sha256 (codes "derive" ++ base ++ point) in cc

pub keys_are_keys : KeysAreKeys
unfolding keys_of
keys_are_keys terms owner point = record { local = derived_form _ _; remote = derived_form _ _ }

-- a witness that is given from its last item on
last_of : (witness : List (List ℕ)) (found : List ℕ) (below : List (List ℕ)) → reverse witness ≡ found ∷ below → witness ≡ reverse below ++ found ∷ []
last_of witness found below r = sym (reverse-reverse witness) ∙ ap reverse r ∙ reverse-append (found ∷ []) below

-- what holds of all items holds of the last
of_last : (P : List ℕ → Type 0) (items : List (List ℕ)) (script : List ℕ) → AllByRecursion P (items ++ script ∷ []) → P script
of_last P [] script all = all.0
of_last P (x ∷ xs) script all = of_last P xs script all.1

-- what a script's program gives to be run
given_script : (script : List ℕ) (witness : List (List ℕ)) → given_of (script_hash_program script) witness ≡ given_by_hash (sha256 script) (reverse witness)
unfolding given_of script_hash_program
given_script script witness =
    let l = length-sha256 script in
    let no : is_key_hash_program (0x00 ∷ 0x20 ∷ sha256 script) ≡ false = and_right _ _ refl in
    let yes : is_script_hash_program (0x00 ∷ 0x20 ∷ sha256 script) ≡ true = and_from _ _ (eq-eqb _ _ (omega (arith, l))) refl in
    rw (no, yes) refl

run_is : (t : Transaction) (i : TxIn) (value : ℕ) (script : List ℕ)
    → run_of t i (record { value = value; script = script_hash_program script }) ≡ option_and_then (run_of_given t i value) (given_by_hash (sha256 script) (reverse i.witness))
unfolding run_of
run_is t i value script = ap (option_and_then (run_of_given t i value)) (given_script script i.witness)

module _ (exact : SatisfiedExactly) (c : Contents) (h : HtlcOutput) (t : Transaction) (i : TxIn) (counted height : ℕ) (read : IsRead (htlc_form c.keys h.direction h.htlc) (htlc_script c.keys h.direction h.htlc)) where
  abbrev script : List ℕ
  script = htlc_script c.keys h.direction h.htlc

  abbrev value : ℕ
  value = satoshis_of h.htlc.amount_msat

  abbrev form : CheckedScript
  form = htlc_form c.keys h.direction h.htlc

  -- one of the paths that are listed
  one_of : (items : List (List ℕ)) → i.witness ≡ items ++ script ∷ [] → Any (SatisfiesBy (spend_of t i script value) items counted height) form.paths → (index : ℕ) × Goes c h t i index
  one_of items w (k, p, l, e, o) =
      (k, record { path = p; there = slice_get_read form.paths (length form.paths) k p refl l (sym e); items = items; witness = w; meets = o.meets })

  known_script : (below : List (List ℕ)) → reverse i.witness ≡ script ∷ below → run_of_given t i value (record { script = script; items = reverse below }) ≡ Some (Clean counted height) → (index : ℕ) × Goes c h t i index
  known_script below r run =
      let ran : Some (outcome (spend_of t i script value) form.ops (reverse below)) ≡ Some (Clean counted height) =
      ap (option_map (λ ops. outcome (spend_of t i script value) ops (reverse below))) (sym read.ops) ∙ run in
      one_of (reverse below) (last_of i.witness script below r) ((exact form.ops form.paths (spend_of t i script value) (reverse below) counted height read.ways).0 (same_Some _ _ ran))

  by_script : (found : List ℕ) (below : List (List ℕ)) (b : Bool) → reverse i.witness ≡ found ∷ below → sha256 found ≡ sha256 script → bytes_eq found script ≡ b
      → run_of_given t i value (record { script = found; items = reverse below }) ≡ Some (Clean counted height) → ((index : ℕ) × Goes c h t i index) ⊎ ScriptCollides c h i
  by_script found below true r e same run =
      let is : found ≡ script = (bytes_eq-Decides found script).0 same in
      inl (known_script below (r ∙ ap (λ s. s ∷ below) is) (subst (λ s. run_of_given t i value (record { script = s; items = reverse below }) ≡ Some (Clean counted height)) is run))
  by_script found below false r e same run =
      let shown = last_of i.witness found below r in
      inr
      (record {
        items = reverse below;
        script = found;
        shown = shown;
        bytes = λ all. of_last IsBytes (reverse below) found (subst (AllByRecursion IsBytes) shown all);
        collide = (λ is. false≢true (sym same ∙ (bytes_eq-Decides found script).1 is), e);
      })

  by_hash : (found : List ℕ) (below : List (List ℕ)) (b : Bool) → reverse i.witness ≡ found ∷ below → bytes_eq (sha256 found) (sha256 script) ≡ b
      → option_and_then (run_of_given t i value) (cond b (Some (record { script = found; items = reverse below })) None) ≡ Some (Clean counted height) → ((index : ℕ) × Goes c h t i index) ⊎ ScriptCollides c h i
  by_hash found below true r e run = by_script found below (bytes_eq found script) r ((bytes_eq-Decides (sha256 found) (sha256 script)).0 e) refl run
  by_hash found below false r e run = absurd (cc)

  by_witness : (w : List (List ℕ)) → reverse i.witness ≡ w → option_and_then (run_of_given t i value) (given_by_hash (sha256 script) w) ≡ Some (Clean counted height) → ((index : ℕ) × Goes c h t i index) ⊎ ScriptCollides c h i
  by_witness [] r run = absurd (cc)
  by_witness (found ∷ below) r run = by_hash found below (bytes_eq (sha256 found) (sha256 script)) r refl run

pub openers_go : SatisfiedExactly → SpendersGo
openers_go exact c h t i counted height keys low run =
    by_witness exact c h t i counted height (form_read c.keys h.direction h.htlc keys low) (reverse i.witness) refl
    (sym (run_is t i (satoshis_of h.htlc.amount_msat) (htlc_script c.keys h.direction h.htlc)) ∙ run)
