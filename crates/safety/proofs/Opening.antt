-- Who takes the outputs of a commitment, by their scripts.
use Rattle.std.proofs.Common.{◌≡◌, ℕ, ◌^◌, ◌<◌, Bool, true, false, List, length, Some, sym, ap, ◌∙◌, refl, subst, inl, inr, ⊎_elim, arith}
use Rattle.std.specs.Prelude.{◌⊎◌}
use Rattle.std.specs.List.{Contains}
use Rattle.std.specs.Str.{bytes_eq}
use Rattle.std.proofs.lemmas.Bool.{false≢true}
use Rattle.std.proofs.lemmas.Slice.Eq.{bytes_eq-Decides}
use Rattle.digest.specs.Hash.{hash160}
use Rattle.digest.specs.Ripemd160.{ripemd160}
use Rattle.digest.proofs.OutsideVectors.{length-ripemd160}
use Rattle.script.specs.declared.spending.Spend.{Spend}
use Rattle.script.specs.Spelling.{spelling}
use Rattle.script.specs.Token.{token_of, is_key}
use Rattle.script.specs.Step.{lock_passes}
use Rattle.script.specs.Run.{Clean}
use Rattle.tx.specs.declared.input.TxIn.{TxIn}
use Rattle.tx.specs.Fields.{Transaction}
use Rattle.sighash.specs.Programs.{run_of, spend_of, script_hash_program, key_hash_program}
use Rattle.terms.specs.declared.htlcs.Htlc.{Htlc}
use Rattle.terms.specs.Scripts.{to_local, key_hash}
use Rattle.claim.specs.declared.parts.Place.{Place}
use Rattle.claim.specs.Fitting.{output_at}
use Rattle.commit.specs.declared.fees.Direction.{Direction}
use Rattle.commit.specs.declared.fees.Direction.TheVariants.{Offered, Received}
use Rattle.commit.specs.Outputs.{to_local_script, htlc_script}
use Rattle.commit.specs.Commitments.{Contents}
use Rattle.penalty.specs.Claimable.{htlc_form}
use Rattle.penalty.proofs.Programs.{same_htlc}
use Rattle.safety.specs.Signing.{Signed, digest_of}
use Rattle.safety.specs.Satisfying.{HasKeyOf, HasPreimage, SatisfiesToLocal, SatisfiesOffered, SatisfiesReceived}
use Rattle.safety.specs.Spending.{IsSignedBy, Waits}
use Rattle.safety.proofs.Slots.{same_bytes}
use Rattle.safety.proofs.Satisfied.{to_local_satisfied, key_hash_satisfied, offered_satisfied, received_satisfied}
use Rattle.safety.proofs.Spelt.{to_local_ops, offered_ops, received_ops}
use Rattle.safety.proofs.Spent.{waits}
use Rattle.safety.proofs.Ran.{LastCollides, KeyCollides, Ran, ran_last, ran_key}

-- ---- to_local, and the output of an HTLC transaction

-- what a token on an input that spends such an output is over
abbrev pub on_local : Contents → ℕ → Transaction → TxIn → Signed
on_local c value t input = record { transaction = t; input = input; code = spelling (to_local c.keys.revocation c.delay_blocks c.keys.delayed); value = value }

-- what such an input has: a token of the revocation key; or one of the delayed key, and a sequence that waits. Otherwise the script collides
pub data OpensLocal (c : Contents) (value : ℕ) (t : Transaction) (input : TxIn) : Type 0 where
  by_revoked : IsSignedBy c.keys.revocation (on_local c value t input) → OpensLocal c value t input
  by_delayed : IsSignedBy c.keys.delayed (on_local c value t input) → Waits t input c.delay_blocks → OpensLocal c value t input
  by_local_script : LastCollides (spelling (to_local c.keys.revocation c.delay_blocks c.keys.delayed)) input.witness → OpensLocal c value t input

same_to_local : (c : Contents) → script_hash_program (to_local_script c.delay_blocks c.keys) ≡ script_hash_program (spelling (to_local c.keys.revocation c.delay_blocks c.keys.delayed))
unfolding to_local_script
same_to_local c = refl

pub opens_local : (c : Contents) (place : Place) → c.delay_blocks < 2 ^ 16 → is_key c.keys.revocation ≡ true → is_key c.keys.delayed ≡ true → place.program ≡ script_hash_program (to_local_script c.delay_blocks c.keys)
    → (t : Transaction) (input : TxIn) (counted tallest : ℕ) → run_of t input (output_at place) ≡ Some (Clean counted tallest) → OpensLocal c place.value t input
opens_local c place l k d e t input counted tallest run =
    let ops = to_local c.keys.revocation c.delay_blocks c.keys.delayed in
    ⊎_elim {C = OpensLocal c place.value t input} (λ (w : LastCollides (spelling (to_local c.keys.revocation c.delay_blocks c.keys.delayed)) input.witness). by_local_script w)
    (λ (r : Ran t input (spelling (to_local c.keys.revocation c.delay_blocks c.keys.delayed)) place.value (to_local c.keys.revocation c.delay_blocks c.keys.delayed) counted tallest).
    opened r.items r.among (to_local_satisfied c.keys.revocation c.delay_blocks c.keys.delayed l k d (spend_of t input (spelling ops) place.value) r.items counted tallest r.clean))
    (ran_last t input (spelling ops) place.value ops counted tallest (to_local_ops c.keys.revocation c.delay_blocks c.keys.delayed l k d)
    (subst (λ (p : List ℕ). run_of t input (record { value = place.value; script = p }) ≡ Some (Clean counted tallest)) (e ∙ same_to_local c) run))
  where
    opened : (items : List (List ℕ)) → ((x : List ℕ) → Contains items x → Contains input.witness x)
        → SatisfiesToLocal c.keys.revocation c.delay_blocks c.keys.delayed (spend_of t input (spelling (to_local c.keys.revocation c.delay_blocks c.keys.delayed)) place.value) items → OpensLocal c place.value t input
    opened items among (inl a) = by_revoked (among _ a)
    opened items among (inr b) = by_delayed (among _ b.0) (waits t input (spelling (to_local c.keys.revocation c.delay_blocks c.keys.delayed)) place.value c.delay_blocks l b.1)

-- ---- to_remote

abbrev pub on_remote : Contents → ℕ → Transaction → TxIn → Signed
on_remote c value t input = record { transaction = t; input = input; code = spelling (key_hash (hash160 c.keys.remote)); value = value }

-- a token of the payment key; or another key of its hash
pub data OpensRemote (c : Contents) (value : ℕ) (t : Transaction) (input : TxIn) : Type 0 where
  by_payment_key : IsSignedBy c.keys.remote (on_remote c value t input) → OpensRemote c value t input
  by_other_key : KeyCollides c.keys.remote input.witness → OpensRemote c value t input

pub opens_remote : (c : Contents) (place : Place) → place.program ≡ key_hash_program c.keys.remote
    → (t : Transaction) (input : TxIn) (counted tallest : ℕ) → run_of t input (output_at place) ≡ Some (Clean counted tallest) → OpensRemote c place.value t input
opens_remote c place e t input counted tallest run =
    by (key_hash_satisfied (hash160 c.keys.remote) (length-ripemd160 _) (spend_of t input (spelling (key_hash (hash160 c.keys.remote))) place.value) input.witness counted tallest
    (ran_key t input c.keys.remote place.value counted tallest (subst (λ (p : List ℕ). run_of t input (record { value = place.value; script = p }) ≡ Some (Clean counted tallest)) e run)))
  where
    by : HasKeyOf (spend_of t input (spelling (key_hash (hash160 c.keys.remote))) place.value) input.witness (hash160 c.keys.remote) → OpensRemote c place.value t input
    by k = by_same (bytes_eq k.key c.keys.remote) refl
      where
        by_same : (b : Bool) → bytes_eq k.key c.keys.remote ≡ b → OpensRemote c place.value t input
        by_same true e = by_payment_key (subst (λ (x : List ℕ). Contains input.witness (token_of x (digest_of (on_remote c place.value t input)))) (same_bytes k.key c.keys.remote e) k.token)
        by_same false e = by_other_key (record { item = k.key; given = k.given; form = k.form; collide = (λ d. false≢true (sym e ∙ (bytes_eq-Decides k.key c.keys.remote).1 d), k.hashed) })

-- ---- the output of an HTLC

-- what a token on an input that spends the output is over
abbrev pub on_htlc : Contents → Direction → Htlc → ℕ → Transaction → TxIn → Signed
on_htlc c direction h value t input = record { transaction = t; input = input; code = spelling (htlc_form c.keys direction h).ops; value = value }

-- what such an input has: a token of the revocation key; or one of the remote key, and with it, where the owner had received the HTLC, the preimage or a lock time that reaches the expiry. Otherwise an item collides
pub data OpensHtlc (c : Contents) (direction : Direction) (h : Htlc) (value : ℕ) (t : Transaction) (input : TxIn) : Type 0 where
  by_revocation : IsSignedBy c.keys.revocation (on_htlc c direction h value t input) → OpensHtlc c direction h value t input
  by_remote : direction ≡ Offered → IsSignedBy c.keys.remote_htlc (on_htlc c direction h value t input) → OpensHtlc c direction h value t input
  by_preimage : direction ≡ Received → IsSignedBy c.keys.remote_htlc (on_htlc c direction h value t input) → HasPreimage input.witness (ripemd160 h.hash) → OpensHtlc c direction h value t input
  by_expiry : direction ≡ Received → IsSignedBy c.keys.remote_htlc (on_htlc c direction h value t input)
      → lock_passes (spend_of t input (spelling (htlc_form c.keys direction h).ops) value) h.expiry_height ≡ true → OpensHtlc c direction h value t input
  by_script : LastCollides (spelling (htlc_form c.keys direction h).ops) input.witness → OpensHtlc c direction h value t input
  by_key : KeyCollides c.keys.revocation input.witness → OpensHtlc c direction h value t input

-- a key of the revocation key's hash, and its token
by_hash : (c : Contents) (direction : Direction) (h : Htlc) (value : ℕ) (t : Transaction) (input : TxIn) (items : List (List ℕ)) → ((x : List ℕ) → Contains items x → Contains input.witness x)
    → HasKeyOf (spend_of t input (spelling (htlc_form c.keys direction h).ops) value) items (hash160 c.keys.revocation) → OpensHtlc c direction h value t input
by_hash c direction h value t input items among k = by (bytes_eq k.key c.keys.revocation) refl
  where
    by : (b : Bool) → bytes_eq k.key c.keys.revocation ≡ b → OpensHtlc c direction h value t input
    by true e =
        let i = same_bytes k.key c.keys.revocation e in
        by_revocation (among _ (subst (λ (x : List ℕ). Contains items (token_of x (digest_of (on_htlc c direction h value t input)))) i k.token))
    by false e = by_key (record { item = k.key; given = among k.key k.given; form = k.form; collide = (λ d. false≢true (sym e ∙ (bytes_eq-Decides k.key c.keys.revocation).1 d), k.hashed) })

opens_offered : (c : Contents) (h : Htlc) → is_key c.keys.local_htlc ≡ true → is_key c.keys.remote_htlc ≡ true → (value : ℕ) (t : Transaction) (input : TxIn) (counted tallest : ℕ)
    → run_of t input (record { value = value; script = script_hash_program (spelling (htlc_form c.keys Offered h).ops) }) ≡ Some (Clean counted tallest) → OpensHtlc c Offered h value t input
opens_offered c h k l value t input counted tallest run =
    let r : length (hash160 c.keys.revocation) ≡ 20 = length-ripemd160 _ in
    let p : length (ripemd160 h.hash) ≡ 20 = length-ripemd160 _ in
    ⊎_elim {C = OpensHtlc c Offered h value t input} (λ (w : LastCollides (spelling (htlc_form c.keys Offered h).ops) input.witness). by_script w)
    (λ (x : Ran t input (spelling (htlc_form c.keys Offered h).ops) value (htlc_form c.keys Offered h).ops counted tallest).
    opened x.items x.among
    (offered_satisfied (hash160 c.keys.revocation) c.keys.remote_htlc c.keys.local_htlc (ripemd160 h.hash) r p l k (spend_of t input (spelling (htlc_form c.keys Offered h).ops) value) x.items counted tallest x.clean))
    (ran_last t input (spelling (htlc_form c.keys Offered h).ops) value (htlc_form c.keys Offered h).ops counted tallest
    (offered_ops (hash160 c.keys.revocation) c.keys.remote_htlc c.keys.local_htlc (ripemd160 h.hash) r p l k) run)
  where
    opened : (items : List (List ℕ)) → ((x : List ℕ) → Contains items x → Contains input.witness x)
        → SatisfiesOffered (hash160 c.keys.revocation) c.keys.remote_htlc c.keys.local_htlc (ripemd160 h.hash) (spend_of t input (spelling (htlc_form c.keys Offered h).ops) value) items
        → OpensHtlc c Offered h value t input
    opened items among (inl a) = by_hash c Offered h value t input items among a
    opened items among (inr (remote, more)) = by_remote refl (among _ remote)

opens_received : (c : Contents) (h : Htlc) → is_key c.keys.local_htlc ≡ true → is_key c.keys.remote_htlc ≡ true → h.expiry_height < 2 ^ 32 → (value : ℕ) (t : Transaction) (input : TxIn) (counted tallest : ℕ)
    → run_of t input (record { value = value; script = script_hash_program (spelling (htlc_form c.keys Received h).ops) }) ≡ Some (Clean counted tallest) → OpensHtlc c Received h value t input
opens_received c h k l low value t input counted tallest run =
    let r : length (hash160 c.keys.revocation) ≡ 20 = length-ripemd160 _ in
    let p : length (ripemd160 h.hash) ≡ 20 = length-ripemd160 _ in
    ⊎_elim {C = OpensHtlc c Received h value t input} (λ (w : LastCollides (spelling (htlc_form c.keys Received h).ops) input.witness). by_script w)
    (λ (x : Ran t input (spelling (htlc_form c.keys Received h).ops) value (htlc_form c.keys Received h).ops counted tallest).
    opened x.items x.among
    (received_satisfied (hash160 c.keys.revocation) c.keys.remote_htlc c.keys.local_htlc (ripemd160 h.hash) h.expiry_height low r p l k (spend_of t input (spelling (htlc_form c.keys Received h).ops) value) x.items counted tallest
    x.clean))
    (ran_last t input (spelling (htlc_form c.keys Received h).ops) value (htlc_form c.keys Received h).ops counted tallest
    (received_ops (hash160 c.keys.revocation) c.keys.remote_htlc c.keys.local_htlc (ripemd160 h.hash) h.expiry_height low r p l k) run)
  where
    opened : (items : List (List ℕ)) → ((x : List ℕ) → Contains items x → Contains input.witness x)
        → SatisfiesReceived (hash160 c.keys.revocation) c.keys.remote_htlc c.keys.local_htlc (ripemd160 h.hash) h.expiry_height (spend_of t input (spelling (htlc_form c.keys Received h).ops) value) items
        → OpensHtlc c Received h value t input
    opened items among (inl a) = by_hash c Received h value t input items among a
    opened items among (inr (remote, inl (local, pre))) = by_preimage refl (among _ remote) (record { preimage = pre.preimage; given = among pre.preimage pre.given; size = pre.size; hashed = pre.hashed })
    opened items among (inr (remote, inr lock)) = by_expiry refl (among _ remote) lock

by_form : (c : Contents) (direction : Direction) (h : Htlc) → is_key c.keys.local_htlc ≡ true → is_key c.keys.remote_htlc ≡ true → h.expiry_height < 2 ^ 32 → (value : ℕ) (t : Transaction) (input : TxIn) (counted tallest : ℕ)
    → run_of t input (record { value = value; script = script_hash_program (spelling (htlc_form c.keys direction h).ops) }) ≡ Some (Clean counted tallest) → OpensHtlc c direction h value t input
by_form c Offered h k l low value t input counted tallest run = opens_offered c h k l value t input counted tallest run
by_form c Received h k l low value t input counted tallest run = opens_received c h k l low value t input counted tallest run

pub opens_htlc : (c : Contents) (direction : Direction) (h : Htlc) → is_key c.keys.local_htlc ≡ true → is_key c.keys.remote_htlc ≡ true → h.expiry_height < 2 ^ 32 → (value : ℕ) (t : Transaction) (input : TxIn) (counted tallest : ℕ)
    → run_of t input (record { value = value; script = script_hash_program (htlc_script c.keys direction h) }) ≡ Some (Clean counted tallest) → OpensHtlc c direction h value t input
opens_htlc c direction h k l low value t input counted tallest run =
    by_form c direction h k l low value t input counted tallest
    (subst (λ (s : List ℕ). run_of t input (record { value = value; script = script_hash_program s }) ≡ Some (Clean counted tallest)) (same_htlc c.keys direction h) run)
