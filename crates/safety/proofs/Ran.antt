-- What runs clean on a program runs clean on its script.
use Rattle.std.proofs.Common.{◌≡◌, ℕ, Bool, true, false, List, [], ◌∷◌, length, reverse, Option, Some, None, sym, ap, ◌∙◌, refl, subst, inl, inr, ⊎_elim}
use Rattle.std.specs.Prelude.{◌⊎◌, ◌==◌, slice_get, if◌then◌else◌, option_map, option_and_then}
use Rattle.std.specs.List.{Contains}
use Rattle.std.specs.Str.{bytes_eq}
use Rattle.std.proofs.lemmas.Bool.{false≢true}
use Rattle.std.proofs.lemmas.Slice.Eq.{bytes_eq-Decides}
use Rattle.sha2.specs.Sha256.{sha256}
use Rattle.sha2.proofs.Facts256.{length-sha256}
use Rattle.digest.specs.Hash.{hash160, Collide}
use Rattle.digest.proofs.OutsideVectors.{length-ripemd160}
use Rattle.script.specs.declared.opcode.Op.{Op}
use Rattle.script.specs.Spelling.{spelling}
use Rattle.script.specs.Token.{is_key}
use Rattle.script.specs.Run.{Clean, outcome}
use Rattle.tx.specs.declared.input.TxIn.{TxIn}
use Rattle.tx.specs.Fields.{Transaction}
use Rattle.sighash.specs.Programs.{Given, given_of, given_by_hash, run_of, run_of_given, script_ops, spend_of, key_hash_script, script_hash_program, key_hash_program}
use Rattle.terms.specs.Scripts.{key_hash}
use Rattle.safety.specs.Spending.{ItemCollides}
use Rattle.safety.proofs.Slots.{contains_later, contains_reverse, same_bytes}
use Rattle.safety.proofs.Lists.{contained}
use Rattle.safety.proofs.Spelt.{key_hash_ops}

none_some : {X : Type 0} (x : X) → None ≡ Some x → ⊥
none_some x e = cc

some_is : {X : Type 0} (x y : X) → Some x ≡ Some y → x ≡ y
some_is x y e = cc

-- the items below the script, on which it runs clean
pub record Ran (t : Transaction) (input : TxIn) (script : List ℕ) (value : ℕ) (ops : List Op) (counted height : ℕ) : Type 0 where
  pub items : List (List ℕ)
  pub among : (x : List ℕ) → Contains items x → Contains input.witness x
  pub clean : outcome (spend_of t input script value) ops items ≡ Clean counted height

-- the last item of a witness, which is to be the script, collides with it
pub record LastCollides (script : List ℕ) (witness : List (List ℕ)) : Type 0 where
  pub item : List ℕ
  pub last : slice_get (reverse witness) 0 ≡ Some item
  pub collide : Collide sha256 item script

pub last_collides : (script : List ℕ) (witness : List (List ℕ)) → LastCollides script witness → ItemCollides sha256 script witness
last_collides script witness z =
    record { first = z.item; second = script; of_first = contains_reverse witness z.item (contained (reverse witness) 0 z.item z.last); of_second = refl; collide = z.collide }

-- an item in the form of a key collides with a key
pub record KeyCollides (key : List ℕ) (items : List (List ℕ)) : Type 0 where
  pub item : List ℕ
  pub given : Contains items item
  pub form : is_key item ≡ true
  pub collide : Collide hash160 item key

pub given_script : (script : List ℕ) (witness : List (List ℕ)) → given_of (script_hash_program script) witness ≡ given_by_hash (sha256 script) (reverse witness)
unfolding given_of script_hash_program
given_script script witness = let l = length-sha256 script in rw l refl

pub ran_last : (t : Transaction) (input : TxIn) (script : List ℕ) (value : ℕ) (ops : List Op) (counted height : ℕ) → script_ops script ≡ Some ops
    → run_of t input (record { value = value; script = script_hash_program script }) ≡ Some (Clean counted height)
    → LastCollides script input.witness ⊎ Ran t input script value ops counted height
unfolding run_of
ran_last t input script value ops counted height parsed e =
    by_witness (reverse input.witness) refl (λ x c. contains_reverse input.witness x c)
    (ap (λ (g : Option Given). option_and_then (run_of_given t input value) g) (sym (given_script script input.witness)) ∙ e)
  where
    on_script : (s : List ℕ) (below : List (List ℕ)) (b : Bool) → slice_get (reverse input.witness) 0 ≡ Some s → ((x : List ℕ) → Contains (s ∷ below) x → Contains input.witness x) → sha256 s ≡ sha256 script → bytes_eq s script ≡ b
        → run_of_given t input value (record { script = s; items = reverse below }) ≡ Some (Clean counted height) → LastCollides script input.witness ⊎ Ran t input script value ops counted height
    on_script s below true last among same h f =
        let i : s ≡ script = same_bytes s script h in
        let g : run_of_given t input value (record { script = script; items = reverse below }) ≡ Some (Clean counted height) = subst (λ z. run_of_given t input value (record { script = z; items = reverse below }) ≡ Some (Clean counted height)) i f in
        inr (record {
          items = reverse below;
          among = λ x c. among x (contains_later s below x (contains_reverse below x c));
          clean = some_is _ _ (ap (λ (o : Option (List Op)). option_map (λ ops. outcome (spend_of t input script value) ops (reverse below)) o) (sym parsed) ∙ g);
        })
    on_script s below false last among same h f =
        inl (record { item = s; last = last; collide = (λ d. false≢true (sym h ∙ (bytes_eq-Decides s script).1 d), same) })

    by_hash : (s : List ℕ) (below : List (List ℕ)) (b : Bool) → slice_get (reverse input.witness) 0 ≡ Some s → ((x : List ℕ) → Contains (s ∷ below) x → Contains input.witness x) → bytes_eq (sha256 s) (sha256 script) ≡ b
        → option_and_then (run_of_given t input value) (if b then Some (record { script = s; items = reverse below }) else None) ≡ Some (Clean counted height) → LastCollides script input.witness ⊎ Ran t input script value ops counted height
    by_hash s below true last among h f = on_script s below (bytes_eq s script) last among (same_bytes (sha256 s) (sha256 script) h) refl f
    by_hash s below false last among h f = absurd (none_some _ f)

    by_witness : (r : List (List ℕ)) → reverse input.witness ≡ r → ((x : List ℕ) → Contains r x → Contains input.witness x) → option_and_then (run_of_given t input value) (given_by_hash (sha256 script) r) ≡ Some (Clean counted height) → LastCollides script input.witness ⊎ Ran t input script value ops counted height
    by_witness [] at among f = absurd (none_some _ f)
    by_witness (s ∷ below) at among f = by_hash s below (bytes_eq (sha256 s) (sha256 script)) (ap (λ (r : List (List ℕ)). slice_get r 0) at) among refl f

pub ran_script : (t : Transaction) (input : TxIn) (script : List ℕ) (value : ℕ) (ops : List Op) (counted height : ℕ) → script_ops script ≡ Some ops
    → run_of t input (record { value = value; script = script_hash_program script }) ≡ Some (Clean counted height)
    → ItemCollides sha256 script input.witness ⊎ Ran t input script value ops counted height
ran_script t input script value ops counted height parsed e =
    ⊎_elim {C = ItemCollides sha256 script input.witness ⊎ Ran t input script value ops counted height} (λ (z : LastCollides script input.witness). inl (last_collides script input.witness z))
    (λ (r : Ran t input script value ops counted height). inr r) (ran_last t input script value ops counted height parsed e)

-- a key's program
spelt_key : (hash : List ℕ) → length hash ≡ 20 → key_hash_script hash ≡ spelling (key_hash hash)
spelt_key hash n = rw n refl

given_key : (key : List ℕ) (witness : List (List ℕ)) → given_of (key_hash_program key) witness ≡ (if length witness == 2 then Some (record { script = key_hash_script (hash160 key); items = witness }) else None)
unfolding given_of key_hash_program
given_key key witness = let l : length (hash160 key) ≡ 20 = length-ripemd160 _ in rw l refl

pub ran_key : (t : Transaction) (input : TxIn) (key : List ℕ) (value counted height : ℕ) → run_of t input (record { value = value; script = key_hash_program key }) ≡ Some (Clean counted height)
    → outcome (spend_of t input (spelling (key_hash (hash160 key))) value) (key_hash (hash160 key)) input.witness ≡ Clean counted height
unfolding run_of
ran_key t input key value counted height e =
    by_length (length input.witness == 2) (ap (λ (g : Option Given). option_and_then (run_of_given t input value) g) (sym (given_key key input.witness)) ∙ e)
  where
    by_length : (b : Bool) → option_and_then (run_of_given t input value) (if b then Some (record { script = key_hash_script (hash160 key); items = input.witness }) else None) ≡ Some (Clean counted height)
        → outcome (spend_of t input (spelling (key_hash (hash160 key))) value) (key_hash (hash160 key)) input.witness ≡ Clean counted height
    by_length false f = absurd (none_some _ f)
    by_length true f =
        let n : length (hash160 key) ≡ 20 = length-ripemd160 _ in
        let g : run_of_given t input value (record { script = spelling (key_hash (hash160 key)); items = input.witness }) ≡ Some (Clean counted height) =
        subst (λ z. run_of_given t input value (record { script = z; items = input.witness }) ≡ Some (Clean counted height)) (spelt_key (hash160 key) n) f in
        some_is _ _ (ap (λ (o : Option (List Op)). option_map (λ ops. outcome (spend_of t input (spelling (key_hash (hash160 key))) value) ops input.witness) o) (sym (key_hash_ops (hash160 key) n)) ∙ g)
