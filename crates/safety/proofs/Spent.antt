-- Who spends the outputs of a commitment, and of its HTLC transactions.
use Rattle.std.proofs.Common.{◌≡◌, ℕ, ◌/◌, ◌%◌, ◌^◌, ◌<◌, Bool, true, false, List, length, Some, sym, ap, ◌∙◌, refl, subst, inl, inr, ⊎_elim, arith}
use Rattle.std.specs.Prelude.{◌⊎◌, ◌&&◌, ◌||◌, not, nat_le}
use Rattle.std.specs.List.{Contains}
use Rattle.std.specs.Str.{bytes_eq}
use Rattle.std.proofs.lemmas.Bool.{leb-true, ne_eqb, false≢true}
use Rattle.std.proofs.lemmas.Slice.Eq.{bytes_eq-Decides}
use Rattle.digest.specs.Hash.{hash160}
use Rattle.digest.specs.Ripemd160.{ripemd160}
use Rattle.digest.proofs.OutsideVectors.{length-ripemd160}
use Rattle.script.specs.declared.opcode.Op.{Op}
use Rattle.script.specs.Spelling.{spelling}
use Rattle.script.specs.Token.{is_key}
use Rattle.script.specs.Step.{bit_at, alike, age_passes}
use Rattle.script.specs.Run.{Clean}
use Rattle.tx.specs.declared.input.TxIn.{TxIn}
use Rattle.tx.specs.Fields.{Transaction}
use Rattle.sighash.specs.Programs.{run_of, spend_of, script_hash_program, key_hash_program}
use Rattle.terms.specs.declared.htlcs.Htlc.{Htlc}
use Rattle.claim.specs.declared.parts.Place.{Place}
use Rattle.claim.specs.Fitting.{output_at}
use Rattle.commit.specs.declared.fees.Direction.{Direction}
use Rattle.commit.specs.declared.fees.Direction.TheVariants.{Offered, Received}
use Rattle.commit.specs.Outputs.{to_local_script, htlc_script}
use Rattle.commit.specs.Commitments.{Contents}
use Rattle.terms.specs.Scripts.{to_local, key_hash}
use Rattle.penalty.specs.Claimable.{Claimable, htlc_form, penalty_on, payment_on, htlc_penalty_on}
use Rattle.penalty.proofs.Programs.{same_htlc}
use Rattle.safety.specs.Satisfying.{HasToken, HasKeyOf, SatisfiesToLocal}
use Rattle.safety.specs.Spending.{Waits, peer_keys, IsPeerKeyOn, of_script, of_key, CanSpend, by_peer, by_owner, by_collision}
use Rattle.safety.proofs.Slots.{same_bytes}
use Rattle.safety.proofs.Satisfied.{to_local_satisfied, key_hash_satisfied, offered_satisfied, received_satisfied}
use Rattle.safety.proofs.Spelt.{to_local_ops, offered_ops, received_ops}
use Rattle.safety.proofs.Ran.{Ran, ran_script, ran_key}

-- a relative lock of blocks passes
pub waits : (t : Transaction) (input : TxIn) (script : List ℕ) (value delay_blocks : ℕ) → delay_blocks < 2 ^ 16 → age_passes (spend_of t input script value) delay_blocks ≡ true → Waits t input delay_blocks
unfolding age_passes
waits t input script value delay_blocks l e =
    let b31 : bit_at 31 delay_blocks ≡ false = ne_eqb (delay_blocks / 2 ^ 31 % 2) 1 (λ e. omega arith) in
    let b22 : bit_at 22 delay_blocks ≡ false = ne_eqb (delay_blocks / 2 ^ 22 % 2) 1 (λ e. omega arith) in
    by (bit_at 31 delay_blocks) (bit_at 22 delay_blocks) (nat_le 2 t.version) (bit_at 31 input.sequence) (bit_at 22 input.sequence) (nat_le (delay_blocks % 2 ^ 16) (input.sequence % 2 ^ 16)) b31 b22 refl refl refl refl e
  where
    by : (a b v x y n : Bool) → a ≡ false → b ≡ false → nat_le 2 t.version ≡ v → bit_at 31 input.sequence ≡ x → bit_at 22 input.sequence ≡ y → nat_le (delay_blocks % 2 ^ 16) (input.sequence % 2 ^ 16) ≡ n
        → (a || (v && not x && alike y b && n)) ≡ true → Waits t input delay_blocks
    by true b v x y n f g h i j k m = absurd (false≢true (sym f))
    by false true v x y n f g h i j k m = absurd (false≢true (sym g))
    by false false false x y n f g h i j k m = absurd (false≢true m)
    by false false true true y n f g h i j k m = absurd (false≢true m)
    by false false true false true n f g h i j k m = absurd (false≢true m)
    by false false true false false false f g h i j k m = absurd (false≢true m)
    by false false true false false true f g h i j k m =
        let enough = leb-true (delay_blocks % 2 ^ 16) (input.sequence % 2 ^ 16) k in
        record { version = leb-true 2 t.version h; on = i; blocks = j; enough = omega (arith, l, enough) }

-- the keys of the peer
revocation_is : (c : Contents) → Contains (peer_keys c.keys) c.keys.revocation
revocation_is c = (0, omega arith, refl)

revocation_there : (c : Contents) (place : Place) → IsPeerKeyOn c (penalty_on c place) c.keys.revocation
revocation_there c place = record { peers = revocation_is c; named = inl (1, omega arith, refl) }

payment_there : (c : Contents) (place : Place) → IsPeerKeyOn c (payment_on c place) c.keys.remote
payment_there c place = record { peers = (2, omega arith, refl); named = inr (2, omega arith, refl) }

revocation_on_htlc : (c : Contents) (direction : Direction) (h : Htlc) (place : Place) → IsPeerKeyOn c (htlc_penalty_on c direction h place) c.keys.revocation
revocation_on_htlc c Offered h place = record { peers = revocation_is c; named = inr (2, omega arith, refl) }
revocation_on_htlc c Received h place = record { peers = revocation_is c; named = inr (2, omega arith, refl) }

htlc_there : (c : Contents) (direction : Direction) (h : Htlc) (place : Place) → IsPeerKeyOn c (htlc_penalty_on c direction h place) c.keys.remote_htlc
htlc_there c Offered h place = record { peers = (1, omega arith, refl); named = inl (7, omega arith, refl) }
htlc_there c Received h place = record { peers = (1, omega arith, refl); named = inl (7, omega arith, refl) }

-- a key of a hash, which is the peer's key's
by_hashed : (Late : Type 0) (c : Contents) (o : Claimable) (t : Transaction) (input : TxIn) (key : List ℕ) → IsPeerKeyOn c o key → (items : List (List ℕ)) → ((x : List ℕ) → Contains items x → Contains input.witness x)
    → HasKeyOf (spend_of t input (spelling o.form.ops) o.place.value) items (hash160 key) → CanSpend Late c o t input
by_hashed Late c o t input key is items among h = by (bytes_eq h.key key) refl
  where
    by : (b : Bool) → bytes_eq h.key key ≡ b → CanSpend Late c o t input
    by true e = let s = same_bytes h.key key e in by_peer key is (among _ (subst (λ k. HasToken (spend_of t input (spelling o.form.ops) o.place.value) items k) s h.token))
    by false e = by_collision (of_key key is (record { first = h.key; second = key; of_first = among h.key h.given; of_second = refl; collide = (λ d. false≢true (sym e ∙ (bytes_eq-Decides h.key key).1 d), h.hashed) }))

same_to_local : (c : Contents) → script_hash_program (to_local_script c.delay_blocks c.keys) ≡ script_hash_program (spelling (to_local c.keys.revocation c.delay_blocks c.keys.delayed))
unfolding to_local_script
same_to_local c = refl

-- the run on the output, by its program
on_program : (t : Transaction) (input : TxIn) (place : Place) (program : List ℕ) (counted height : ℕ) → place.program ≡ program → run_of t input (output_at place) ≡ Some (Clean counted height)
    → run_of t input (record { value = place.value; script = program }) ≡ Some (Clean counted height)
on_program t input place program counted height e f = subst (λ p. run_of t input (record { value = place.value; script = p }) ≡ Some (Clean counted height)) e f

abbrev local_ops : Contents → List Op
local_ops c = to_local c.keys.revocation c.delay_blocks c.keys.delayed

pub spends_to_local : (c : Contents) (place : Place) → c.delay_blocks < 2 ^ 16 → is_key c.keys.revocation ≡ true → is_key c.keys.delayed ≡ true → place.program ≡ script_hash_program (to_local_script c.delay_blocks c.keys)
    → (t : Transaction) (input : TxIn) (counted height : ℕ) → run_of t input (output_at place) ≡ Some (Clean counted height) → CanSpend (Waits t input c.delay_blocks) c (penalty_on c place) t input
spends_to_local c place l k d e t input counted height run =
    ⊎_elim (λ w. by_collision (of_script w))
    (λ (r : Ran t input (spelling (local_ops c)) place.value (local_ops c) counted height). opened r (to_local_satisfied c.keys.revocation c.delay_blocks c.keys.delayed l k d (spend_of t input (spelling (local_ops c)) place.value) r.items counted height r.clean))
    (ran_script t input (spelling (local_ops c)) place.value (local_ops c) counted height (to_local_ops c.keys.revocation c.delay_blocks c.keys.delayed l k d) (on_program t input place _ counted height (e ∙ same_to_local c) run))
  where
    opened : (r : Ran t input (spelling (local_ops c)) place.value (local_ops c) counted height) → SatisfiesToLocal c.keys.revocation c.delay_blocks c.keys.delayed (spend_of t input (spelling (local_ops c)) place.value) r.items → CanSpend (Waits t input c.delay_blocks) c (penalty_on c place) t input
    opened r (inl a) = by_peer c.keys.revocation (revocation_there c place) (r.among _ a)
    opened r (inr b) = by_owner (record { form = refl; token = r.among _ b.0; late = waits t input (spelling (local_ops c)) place.value c.delay_blocks l b.1 })

pub spends_to_remote : (Late : Type 0) (c : Contents) (place : Place) → place.program ≡ key_hash_program c.keys.remote
    → (t : Transaction) (input : TxIn) (counted height : ℕ) → run_of t input (output_at place) ≡ Some (Clean counted height) → CanSpend Late c (payment_on c place) t input
spends_to_remote Late c place e t input counted height run =
    by_hashed Late c (payment_on c place) t input c.keys.remote (payment_there c place) input.witness (λ x y. y)
    (key_hash_satisfied (hash160 c.keys.remote) (length-ripemd160 _) (spend_of t input (spelling (key_hash (hash160 c.keys.remote))) place.value) input.witness counted height
    (ran_key t input c.keys.remote place.value counted height (on_program t input place _ counted height e run)))

-- an HTLC's output, once its opcodes are read: it is spent by a key of the revocation key's hash or by the peer's HTLC key
spends_by : {More : Type 0} (Late : Type 0) (c : Contents) (direction : Direction) (h : Htlc) (place : Place) (t : Transaction) (input : TxIn) (counted height : ℕ)
    → (r : Ran t input (spelling (htlc_form c.keys direction h).ops) place.value (htlc_form c.keys direction h).ops counted height)
    → HasKeyOf (spend_of t input (spelling (htlc_form c.keys direction h).ops) place.value) r.items (hash160 c.keys.revocation) ⊎ (HasToken (spend_of t input (spelling (htlc_form c.keys direction h).ops) place.value) r.items c.keys.remote_htlc × More)
    → CanSpend Late c (htlc_penalty_on c direction h place) t input
spends_by Late c direction h place t input counted height r (inl a) = by_hashed Late c (htlc_penalty_on c direction h place) t input c.keys.revocation (revocation_on_htlc c direction h place) r.items r.among a
spends_by Late c direction h place t input counted height r (inr b) = by_peer c.keys.remote_htlc (htlc_there c direction h place) (r.among _ b.0)

same_program : (c : Contents) (direction : Direction) (h : Htlc) → script_hash_program (htlc_script c.keys direction h) ≡ script_hash_program (spelling (htlc_form c.keys direction h).ops)
same_program c direction h = ap script_hash_program (same_htlc c.keys direction h)

pub spends_htlc : (Late : Type 0) (c : Contents) (direction : Direction) (h : Htlc) (place : Place) → h.expiry_height < 2 ^ 32 → is_key c.keys.remote_htlc ≡ true → is_key c.keys.local_htlc ≡ true
    → place.program ≡ script_hash_program (htlc_script c.keys direction h)
    → (t : Transaction) (input : TxIn) (counted height : ℕ) → run_of t input (output_at place) ≡ Some (Clean counted height) → CanSpend Late c (htlc_penalty_on c direction h place) t input
spends_htlc Late c Offered h place x k l e t input counted height run =
    let r : length (hash160 c.keys.revocation) ≡ 20 = length-ripemd160 _ in
    let p : length (ripemd160 h.hash) ≡ 20 = length-ripemd160 _ in
    ⊎_elim (λ w. by_collision (of_script w))
    (λ (s : Ran t input (spelling (htlc_form c.keys Offered h).ops) place.value (htlc_form c.keys Offered h).ops counted height). spends_by Late c Offered h place t input counted height s
    (offered_satisfied (hash160 c.keys.revocation) c.keys.remote_htlc c.keys.local_htlc (ripemd160 h.hash) r p k l _ s.items counted height s.clean))
    (ran_script t input (spelling (htlc_form c.keys Offered h).ops) place.value (htlc_form c.keys Offered h).ops counted height
    (offered_ops (hash160 c.keys.revocation) c.keys.remote_htlc c.keys.local_htlc (ripemd160 h.hash) r p k l) (on_program t input place _ counted height (e ∙ same_program c Offered h) run))
spends_htlc Late c Received h place x k l e t input counted height run =
    let r : length (hash160 c.keys.revocation) ≡ 20 = length-ripemd160 _ in
    let p : length (ripemd160 h.hash) ≡ 20 = length-ripemd160 _ in
    ⊎_elim (λ w. by_collision (of_script w))
    (λ (s : Ran t input (spelling (htlc_form c.keys Received h).ops) place.value (htlc_form c.keys Received h).ops counted height). spends_by Late c Received h place t input counted height s
    (received_satisfied (hash160 c.keys.revocation) c.keys.remote_htlc c.keys.local_htlc (ripemd160 h.hash) h.expiry_height x r p k l _ s.items counted height s.clean))
    (ran_script t input (spelling (htlc_form c.keys Received h).ops) place.value (htlc_form c.keys Received h).ops counted height
    (received_ops (hash160 c.keys.revocation) c.keys.remote_htlc c.keys.local_htlc (ripemd160 h.hash) h.expiry_height x r p k l) (on_program t input place _ counted height (e ∙ same_program c Received h) run))
