-- Tokens and collisions: which witness shows a token, what a token is over, and which two strings collide.
use Rattle.std.proofs.Common.{◌≡◌, ◌≢◌, ℕ, zero, suc, ◌-◌, ◌^◌, List, [], ◌∷◌, length, get_or, sym, ap, ◌∙◌, refl, subst, inl, inr, arith, lit<}
use Rattle.std.specs.Prelude.{◌⊎◌}
use Rattle.std.specs.List.{Contains}
use Rattle.sha2.specs.Sha256.{sha256}
use Rattle.digest.specs.Hash.{sha256d, hash160, Collide}
use Rattle.script.specs.declared.opcode.Op.{Op}
use Rattle.script.specs.declared.opcode.Op.TheVariants.{Push}
use Rattle.script.specs.Spelling.{spelling}
use Rattle.script.specs.Token.{token_of}
use Rattle.tx.specs.declared.input.TxIn.{TxIn}
use Rattle.tx.specs.Fields.{Transaction, IsInput, KeepsLimits, signed_input}
use Rattle.tx.specs.Parts.{IsBounded}
use Rattle.sighash.specs.Signing.{all_outpoints, all_sequences, all_outputs}
use Rattle.sighash.proofs.Tokens.{one_token}
use Rattle.paths.specs.Listing.{CheckedScript}
use Rattle.forms.specs.Forms.{to_local_form, key_hash_form}
use Rattle.commit.specs.Keys.{KeyBytes}
use Rattle.commit.specs.Commitments.{Contents}
use Rattle.penalty.specs.declared.states.RevokedState.{RevokedState}
use Rattle.penalty.specs.Claimable.{Claimable, commitment_in}
use Rattle.safety.specs.Signing.{Collision, Signed, digest_of, list_of, FieldsFit, IsSignable, AreSame, ListsCollide, wholes, outpoints, sequences, outputs}
use Rattle.safety.specs.Spending.{spend_on, IsSignedBy, peer_keys, IsPeerKeyOn, ItemCollides, ShowsCollision, of_script, of_key, IsOwners, IsLate}
use Rattle.safety.specs.Strings.{CollideBy, by_sha256, by_sha256d, by_hash160, StringsCollide}
use Rattle.safety.specs.Taking.{ShowsOnly, IsAsSigned, Collides}
use Rattle.safety.proofs.Slots.{any_none}
use Rattle.safety.proofs.Lists.{contains_none}

-- ---- collisions

differ : ◌≢◌ {A = List ℕ} (1 ∷ []) (2 ∷ [])
differ e = let f : 1 ≡ 2 = ap (λ (x : List ℕ). get_or x 0 0) e in omega (arith, f)

-- yes: Collide
collide : Collide (λ x. []) (1 ∷ []) (2 ∷ [])
collide = (differ, refl)

-- no: Collide
one_string : (hash : List ℕ → List ℕ) (x : List ℕ) → Collide hash x x → ⊥
one_string hash x c = c.0 refl

-- no: Collide
two_hashes : Collide (λ x. x) (1 ∷ []) (2 ∷ []) → ⊥
two_hashes c = differ c.1

-- yes: Collision
collision : Collision (Collide (λ x. [])) (λ b. b ≡ 1 ∷ []) (λ b. b ≡ 2 ∷ [])
collision = record { first = 1 ∷ []; second = 2 ∷ []; of_first = refl; of_second = refl; collide = (differ, refl) }

-- no: Collision
none_first : (Collides : List ℕ → List ℕ → Type 0) → Collision Collides (λ b. ⊥) (λ b. Unit {0}) → ⊥
none_first Collides c = c.of_first

-- no: Collision
none_second : (Collides : List ℕ → List ℕ → Type 0) → Collision Collides (λ b. Unit {0}) (λ b. ⊥) → ⊥
none_second Collides c = c.of_second

-- no: Collision
none_collides : Collision (λ a b. ⊥) (λ b. Unit {0}) (λ b. Unit {0}) → ⊥
none_collides c = c.collide

module _ (a b : List ℕ) (apart : a ≢ b) where
  -- yes: CollideBy
  sha256s : sha256 a ≡ sha256 b → CollideBy a b
  sha256s e = by_sha256 (apart, e)

  -- yes: CollideBy
  sha256ds : sha256d a ≡ sha256d b → CollideBy a b
  sha256ds e = by_sha256d (apart, e)

  -- yes: CollideBy
  hash160s : hash160 a ≡ hash160 b → CollideBy a b
  hash160s e = by_hash160 (apart, e)

  -- yes: StringsCollide
  strings : sha256d a ≡ sha256d b → StringsCollide (λ x. x ≡ a) (λ x. x ≡ b)
  strings e = record { first = a; second = b; of_first = refl; of_second = refl; collide = by_sha256d (apart, e) }

-- no: CollideBy
itself : (a : List ℕ) → CollideBy a a → ⊥
itself a (by_sha256 c) = c.0 refl
itself a (by_sha256d c) = c.0 refl
itself a (by_hash160 c) = c.0 refl

-- no: StringsCollide
no_string : (Is : List ℕ → Type 0) → StringsCollide Is (λ x. ⊥) → ⊥
no_string Is c = c.of_second

-- ---- what a token is over

module _ (s z : Signed) where
  -- yes: ListsCollide
  by_wholes : list_of s ≢ list_of z → digest_of s ≡ digest_of z → ListsCollide s z
  by_wholes n e = wholes (n, e)

  -- yes: ListsCollide
  by_outpoints : all_outpoints s.transaction.inputs ≢ all_outpoints z.transaction.inputs
      → sha256d (all_outpoints s.transaction.inputs) ≡ sha256d (all_outpoints z.transaction.inputs) → ListsCollide s z
  by_outpoints n e = outpoints (n, e)

  -- yes: ListsCollide
  by_sequences : all_sequences s.transaction.inputs ≢ all_sequences z.transaction.inputs
      → sha256d (all_sequences s.transaction.inputs) ≡ sha256d (all_sequences z.transaction.inputs) → ListsCollide s z
  by_sequences n e = sequences (n, e)

  -- yes: ListsCollide
  by_outputs : all_outputs s.transaction.outputs ≢ all_outputs z.transaction.outputs
      → sha256d (all_outputs s.transaction.outputs) ≡ sha256d (all_outputs z.transaction.outputs) → ListsCollide s z
  by_outputs n e = outputs (n, e)

-- no: ListsCollide
same_lists : (s : Signed) → ListsCollide s s → ⊥
same_lists s (wholes c) = c.0 refl
same_lists s (outpoints c) = c.0 refl
same_lists s (sequences c) = c.0 refl
same_lists s (outputs c) = c.0 refl

module _ (t : Transaction) (input : TxIn) (code : List ℕ) where
  abbrev over : Transaction → TxIn → ℕ → Signed
  over u i value = record { transaction = u; input = i; code = code; value = value }

  -- the witness of the input is not signed
  -- yes: AreSame
  same_but_witness : (w : List (List ℕ)) → AreSame (over t input 7) (over t (signed_input input w) 7)
  same_but_witness w = record { transaction = refl; input = refl; code = refl; value = refl }

  -- no: AreSame
  other_value : AreSame (over t input 7) (over t input 8) → ⊥
  other_value a = let e = a.value in omega (arith, e)

  -- no: AreSame
  other_sequence : input.sequence ≡ 144 → AreSame (over t input 7) (over t (record input { sequence = 145 }) 7) → ⊥
  other_sequence s a = let e : input.sequence ≡ 145 = ap (λ (i : TxIn). i.sequence) a.input in omega (arith, s, e)

  -- no: AreSame
  other_lock_time : t.lock_time ≡ 5 → AreSame (over t input 7) (over (record t { lock_time = 6 }) input 7) → ⊥
  other_lock_time s a = let e : t.lock_time ≡ 6 = ap (λ (u : Transaction). u.lock_time) a.transaction in omega (arith, s, e)

  -- no: AreSame
  other_code : AreSame (over t input 7) (record { transaction = t; input = input; code = 0 ∷ code; value = 7 }) → ⊥
  other_code a = let e = ap length a.code in omega (arith, e)

  -- yes: IsSignable
  signable : FieldsFit t → IsInput (signed_input input []) → IsBounded code → IsSignable (over t input (2 ^ 64 - 1))
  signable k i c = record { transaction = k; input = i; code = c; value = omega arith }

  -- no: IsSignable
  too_much : IsSignable (over t input (2 ^ 64)) → ⊥
  too_much s = let l = s.value in omega (arith, l)

  -- no: IsSignable
  too_long : length code ≡ 10001 → IsSignable (over t input 7) → ⊥
  too_long e s = let l = s.code in omega (arith, l, e)

-- each field at its greatest, and each beyond it. No count has a bound, nor has a witness
module _ (input : TxIn) (bare : IsInput (signed_input input [])) where
  abbrev greatest : Transaction
  greatest = record { version = 2 ^ 32 - 1; inputs = input ∷ []; outputs = record { value = 2 ^ 64 - 1; script = [] } ∷ []; lock_time = 2 ^ 32 - 1 }

  -- yes: FieldsFit
  fits : FieldsFit greatest
  fits = record { version = omega arith; inputs = (bare, tt); outputs = ((omega arith, omega arith), tt); lock_time = omega arith }

  -- no: FieldsFit
  version_too_great : FieldsFit (record greatest { version = 2 ^ 32 }) → ⊥
  version_too_great f = let l = f.version in omega (arith, l)

  -- no: FieldsFit
  lock_time_too_great : FieldsFit (record greatest { lock_time = 2 ^ 32 }) → ⊥
  lock_time_too_great f = let l = f.lock_time in omega (arith, l)

  -- no: FieldsFit
  value_too_great : FieldsFit (record greatest { outputs = record { value = 2 ^ 64; script = [] } ∷ [] }) → ⊥
  value_too_great f = let l = f.outputs.0.0 in omega (arith, l)

  -- no: FieldsFit
  script_too_long : (script : List ℕ) → length script ≡ 2 ^ 64 → FieldsFit (record greatest { outputs = record { value = 7; script = script } ∷ [] }) → ⊥
  script_too_long script e f = let l = f.outputs.0.1 in omega (arith, l, e)

  -- no: FieldsFit
  sequence_too_great : FieldsFit (record greatest { inputs = record input { sequence = 2 ^ 32 } ∷ [] }) → ⊥
  sequence_too_great f = let l = f.inputs.0.sequence in omega (arith, l)

-- ---- which witness shows a token

module _ (t : Transaction) (code : List ℕ) (input : TxIn) where
  abbrev spent : Signed
  spent = record { transaction = t; input = input; code = code; value = 7 }

  -- yes: IsSignedBy
  signed : (key : List ℕ) → input.witness ≡ (1 ∷ []) ∷ token_of key (digest_of spent) ∷ [] → IsSignedBy key spent
  signed key e = subst (λ (w : List (List ℕ)). Contains w (token_of key (digest_of spent))) (sym e) (1, lit< tt, refl)

  -- no: IsSignedBy
  unsigned : (key : List ℕ) → input.witness ≡ [] → IsSignedBy key spent → ⊥
  unsigned key e s = contains_none (token_of key (digest_of spent)) (subst (λ (w : List (List ℕ)). Contains w (token_of key (digest_of spent))) e s)

  -- no: IsSignedBy
  by_another : (key other : List ℕ) → length other ≡ length key → other ≢ key → input.witness ≡ token_of other (digest_of spent) ∷ [] → IsSignedBy key spent → ⊥
  by_another key other l n e s = by (subst (λ (w : List (List ℕ)). Contains w (token_of key (digest_of spent))) e s)
    where
      by : Contains (token_of other (digest_of spent) ∷ []) (token_of key (digest_of spent)) → ⊥
      by (zero, i, f) = n (one_token other key (digest_of spent) (digest_of spent) l f).0
      by (suc k, i, f) = omega (arith, i)

  module _ (k : KeyBytes) where
    -- yes: ShowsOnly
    shows : (z : Signed) → digest_of spent ≡ digest_of z → ShowsOnly k (z ∷ []) spent
    shows z e key i s = (0, z, lit< tt, refl, e)

    -- no: ShowsOnly
    shows_more : input.witness ≡ token_of k.revocation (digest_of spent) ∷ [] → ShowsOnly k [] spent → ⊥
    shows_more e s =
        any_none (λ z. digest_of spent ≡ digest_of z)
        (s k.revocation (0, lit< tt, refl) (subst (λ (w : List (List ℕ)). Contains w (token_of k.revocation (digest_of spent))) (sym e) (0, lit< tt, refl)))

    -- no: ShowsOnly
    shows_htlc : input.witness ≡ token_of k.remote_htlc (digest_of spent) ∷ [] → ShowsOnly k [] spent → ⊥
    shows_htlc e s =
        any_none (λ z. digest_of spent ≡ digest_of z)
        (s k.remote_htlc (1, lit< tt, refl) (subst (λ (w : List (List ℕ)). Contains w (token_of k.remote_htlc (digest_of spent))) (sym e) (0, lit< tt, refl)))

    -- no: ShowsOnly
    shows_payment : input.witness ≡ token_of k.remote (digest_of spent) ∷ [] → ShowsOnly k [] spent → ⊥
    shows_payment e s =
        any_none (λ z. digest_of spent ≡ digest_of z)
        (s k.remote (2, lit< tt, refl) (subst (λ (w : List (List ℕ)). Contains w (token_of k.remote (digest_of spent))) (sym e) (0, lit< tt, refl)))

    -- yes: IsAsSigned
    as_signed : KeepsLimits t → Contains t.inputs input → (z : Signed) → digest_of spent ≡ digest_of z → IsAsSigned k (z ∷ []) spent
    as_signed l i z e = record { limits = l; among = i; shows = λ key c s. (0, z, lit< tt, refl, e) }

    -- no: IsAsSigned
    not_among : (z : Signed) → t.inputs ≡ [] → IsAsSigned k (z ∷ []) spent → ⊥
    not_among z e a = contains_none input (subst (λ (is : List TxIn). Contains is input) e a.among)

    -- no: IsAsSigned
    past_limits : (z : Signed) → t.version ≡ 2 ^ 32 → IsAsSigned k (z ∷ []) spent → ⊥
    past_limits z e a = let l = a.limits.version in omega (arith, l, e)

-- ---- the peer's keys on an output, and the owner's

module _ (c : Contents) (o : Claimable) (form : o.form ≡ to_local_form c.keys.revocation c.delay_blocks c.keys.delayed) where
  -- the script's second opcode pushes it
  -- yes: IsPeerKeyOn
  revocation_on : IsPeerKeyOn c o c.keys.revocation
  revocation_on = record { peers = (0, lit< tt, refl); named = inl (subst (λ (f : CheckedScript). Contains f.ops (Push c.keys.revocation)) (sym form) (1, lit< tt, refl)) }

-- or its HASH160 does
-- yes: IsPeerKeyOn
payment_on : (c : Contents) (o : Claimable) → o.form ≡ key_hash_form (hash160 c.keys.remote) → IsPeerKeyOn c o c.keys.remote
payment_on c o e = record { peers = (2, lit< tt, refl); named = inr (subst (λ (f : CheckedScript). Contains f.ops (Push (hash160 c.keys.remote))) (sym e) (2, lit< tt, refl)) }

-- no: IsPeerKeyOn
delayed_on : (c : Contents) (o : Claimable) → c.keys.delayed ≢ c.keys.revocation → c.keys.delayed ≢ c.keys.remote_htlc → c.keys.delayed ≢ c.keys.remote → IsPeerKeyOn c o c.keys.delayed → ⊥
delayed_on c o m n p k = by k.peers
  where
    by : Contains (peer_keys c.keys) c.keys.delayed → ⊥
    by (zero, i, e) = m (sym e)
    by (suc zero, i, e) = n (sym e)
    by (suc (suc zero), i, e) = p (sym e)
    by (suc (suc (suc j)), i, e) = omega (arith, i)

-- no: IsPeerKeyOn
not_named : (c : Contents) (o : Claimable) (key : List ℕ) → o.form.ops ≡ [] → IsPeerKeyOn c o key → ⊥
not_named c o key e k = by k.named
  where
    by : Contains o.form.ops (Push key) ⊎ Contains o.form.ops (Push (hash160 key)) → ⊥
    by (inl i) = contains_none (Push key) (subst (λ (ops : List Op). Contains ops (Push key)) e i)
    by (inr i) = contains_none (Push (hash160 key)) (subst (λ (ops : List Op). Contains ops (Push (hash160 key))) e i)

-- yes: ItemCollides
item_collides : ItemCollides (λ x. []) (2 ∷ []) ((1 ∷ []) ∷ [])
item_collides = record { first = 1 ∷ []; second = 2 ∷ []; of_first = (0, lit< tt, refl); of_second = refl; collide = (differ, refl) }

-- no: ItemCollides
own_item : (hash : List ℕ → List ℕ) → ItemCollides hash (1 ∷ []) ((1 ∷ []) ∷ []) → ⊥
own_item hash c = by c.of_first
  where
    by : Contains ((1 ∷ []) ∷ []) c.first → ⊥
    by (zero, i, e) = c.collide.0 (sym e ∙ sym c.of_second)
    by (suc k, i, e) = omega (arith, i)

module _ (c : Contents) (o : Claimable) (input : TxIn) where
  -- yes: ShowsCollision
  shows_script : (b : List ℕ) → input.witness ≡ b ∷ [] → b ≢ spelling o.form.ops → sha256 b ≡ sha256 (spelling o.form.ops) → ShowsCollision c o input
  shows_script b w n e =
      of_script (record {
        first = b;
        second = spelling o.form.ops;
        of_first = subst (λ (x : List (List ℕ)). Contains x b) (sym w) (0, lit< tt, refl);
        of_second = refl;
        collide = (n, e);
      })

  -- yes: ShowsCollision
  shows_key : (b key : List ℕ) → input.witness ≡ b ∷ [] → IsPeerKeyOn c o key → b ≢ key → hash160 b ≡ hash160 key → ShowsCollision c o input
  shows_key b key w k n e =
      of_key key k (record {
        first = b;
        second = key;
        of_first = subst (λ (x : List (List ℕ)). Contains x b) (sym w) (0, lit< tt, refl);
        of_second = refl;
        collide = (n, e);
      })

  -- no: ShowsCollision
  pub shows_nothing : input.witness ≡ [] → ShowsCollision c o input → ⊥
  shows_nothing w (of_script s) = contains_none s.first (subst (λ (x : List (List ℕ)). Contains x s.first) w s.of_first)
  shows_nothing w (of_key key k s) = contains_none s.first (subst (λ (x : List (List ℕ)). Contains x s.first) w s.of_first)

module _ (state : RevokedState) (o : Claimable) (t : Transaction) (input : TxIn) where
  -- yes: Collides
  collides : (z : Signed) → ListsCollide (spend_on o t input) z → Collides state o t input (z ∷ [])
  collides z l = inr (0, z, lit< tt, refl, l)

  -- no: Collides
  collides_not : input.witness ≡ [] → Collides state o t input [] → ⊥
  collides_not w (inl s) = shows_nothing (commitment_in state) o input w s
  collides_not w (inr a) = any_none (ListsCollide (spend_on o t input)) a

module _ (c : Contents) (o : Claimable) (t : Transaction) (input : TxIn) (delay_blocks : c.delay_blocks ≡ 144) where
  -- yes: IsOwners
  owners : o.form ≡ to_local_form c.keys.revocation c.delay_blocks c.keys.delayed → IsSignedBy c.keys.delayed (spend_on o t input) → IsOwners (IsLate c 100 244) c o t input
  owners f s = record { form = f; token = s; late = omega (arith, delay_blocks) }

  -- no: IsOwners
  owners_early : IsOwners (IsLate c 100 243) c o t input → ⊥
  owners_early w = let l = w.late in omega (arith, delay_blocks, l)

  -- no: IsOwners
  owners_unsigned : input.witness ≡ [] → IsOwners (IsLate c 100 244) c o t input → ⊥
  owners_unsigned e w =
      contains_none (token_of c.keys.delayed (digest_of (spend_on o t input)))
      (subst (λ (x : List (List ℕ)). Contains x (token_of c.keys.delayed (digest_of (spend_on o t input)))) e w.token)
