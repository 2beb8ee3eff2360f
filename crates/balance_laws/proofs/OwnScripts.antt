-- Who takes the outputs of the HTLCs of the node's own commitment, by their scripts.
use Rattle.std.proofs.Common.{◌≡◌, ℕ, ◌%◌, ◌+◌, ◌^◌, ◌<◌, Bool, true, false, List, [], ◌∷◌, length, Option, Some, sym, ap, ◌∙◌, refl, subst, inl, inr, ⊎_elim, arith}
use Rattle.std.specs.Prelude.{not, ◌&&◌, ◌||◌, ◌==◌, nat_lt, nat_le, slice_get}
use Rattle.std.specs.List.{Contains, list_all}
use Rattle.std.specs.Str.{bytes_eq}
use Rattle.std.proofs.lemmas.Bool.{false≢true, and_parts, lt-leb, lt-ltb, ltb-true, leb-true}
use Rattle.std.proofs.lemmas.Slice.Eq.{bytes_eq-Decides}
use Rattle.digest.specs.Hash.{hash160}
use Rattle.digest.specs.Ripemd160.{ripemd160}
use Rattle.digest.proofs.OutsideVectors.{length-ripemd160}
use Rattle.script.specs.declared.limits.TheConstants.{LOCKTIME_THRESHOLD}
use Rattle.script.specs.declared.opcode.Op.{Op}
use Rattle.script.specs.declared.opcode.Op.TheVariants.{Push}
use Rattle.script.specs.Spelling.{spelling}
use Rattle.script.specs.Token.{token_of, is_key}
use Rattle.script.specs.Step.{bit_at, alike, lock_passes}
use Rattle.script.specs.Run.{Clean}
use Rattle.tx.specs.declared.input.TxIn.{TxIn}
use Rattle.tx.specs.Fields.{Transaction, signed_input}
use Rattle.sighash.specs.Programs.{run_of, script_ops, spend_of, script_hash_program}
use Rattle.terms.specs.declared.htlcs.Htlc.{Htlc}
use Rattle.commit.specs.declared.fees.Direction.{Direction}
use Rattle.commit.specs.declared.fees.Direction.TheVariants.{Offered, Received}
use Rattle.commit.specs.Keys.{KeyBytes}
use Rattle.commit.specs.Outputs.{htlc_script}
use Rattle.commit.specs.Commitments.{Contents}
use Rattle.penalty.specs.Claimable.{htlc_form}
use Rattle.penalty.proofs.Programs.{same_htlc}
use Rattle.safety.specs.Signing.{digest_of}
use Rattle.safety.specs.Satisfying.{HasKeyOf, HasPreimage, SatisfiesOffered, SatisfiesReceived}
use Rattle.safety.specs.Spending.{IsSignedBy}
use Rattle.safety.specs.Ledgers.{keeps_locks}
use Rattle.safety.proofs.Slots.{contains_cases, same_bytes}
use Rattle.safety.proofs.Lists.{some_is, contains_none}
use Rattle.safety.proofs.Satisfied.{offered_satisfied, received_satisfied}
use Rattle.safety.proofs.Spelt.{offered_ops, received_ops}
use Rattle.safety.proofs.Ran.{LastCollides, KeyCollides, Ran, ran_last}
use Rattle.safety.proofs.Opening.{on_htlc}

-- ---- the output of an HTLC

-- what takes it has a token of the revocation key, or of the owner's HTLC key; or it shows the preimage of one that the owner offered; or it has a lock time that reaches the expiry of one that was offered to the
-- owner. Otherwise an item collides
pub data OpensOwn (c : Contents) (direction : Direction) (h : Htlc) (value : ℕ) (t : Transaction) (input : TxIn) : Type 0 where
  by_revocation_key : IsSignedBy c.keys.revocation (on_htlc c direction h value t input) → OpensOwn c direction h value t input
  by_own_key : IsSignedBy c.keys.local_htlc (on_htlc c direction h value t input) → OpensOwn c direction h value t input
  by_preimage : direction ≡ Offered → HasPreimage input.witness (ripemd160 h.hash) → OpensOwn c direction h value t input
  by_expiry : direction ≡ Received → lock_passes (spend_of t input (spelling (htlc_form c.keys direction h).ops) value) h.expiry_height ≡ true → OpensOwn c direction h value t input
  by_htlc_script : LastCollides (spelling (htlc_form c.keys direction h).ops) input.witness → OpensOwn c direction h value t input
  by_other_key : KeyCollides c.keys.revocation input.witness → OpensOwn c direction h value t input

-- a key of the revocation key's hash, and its token
by_hash : (c : Contents) (direction : Direction) (h : Htlc) (value : ℕ) (t : Transaction) (input : TxIn) (items : List (List ℕ)) → ((x : List ℕ) → Contains items x → Contains input.witness x)
    → HasKeyOf (spend_of t input (spelling (htlc_form c.keys direction h).ops) value) items (hash160 c.keys.revocation) → OpensOwn c direction h value t input
by_hash c direction h value t input items among k = by (bytes_eq k.key c.keys.revocation) refl
  where
    by : (b : Bool) → bytes_eq k.key c.keys.revocation ≡ b → OpensOwn c direction h value t input
    by true e =
        let i = same_bytes k.key c.keys.revocation e in
        by_revocation_key (among _ (subst (λ (x : List ℕ). Contains items (token_of x (digest_of (on_htlc c direction h value t input)))) i k.token))
    by false e =
        by_other_key (record { item = k.key; given = among k.key k.given; form = k.form; collide = (λ d. false≢true (sym e ∙ (bytes_eq-Decides k.key c.keys.revocation).1 d), k.hashed) })

opens_offered : (c : Contents) (h : Htlc) → is_key c.keys.local_htlc ≡ true → is_key c.keys.remote_htlc ≡ true → (value : ℕ) (t : Transaction) (input : TxIn) (counted tallest : ℕ)
    → run_of t input (record { value = value; script = script_hash_program (spelling (htlc_form c.keys Offered h).ops) }) ≡ Some (Clean counted tallest) → OpensOwn c Offered h value t input
opens_offered c h k l value t input counted tallest run =
    let r : length (hash160 c.keys.revocation) ≡ 20 = length-ripemd160 _ in
    let p : length (ripemd160 h.hash) ≡ 20 = length-ripemd160 _ in
    ⊎_elim {C = OpensOwn c Offered h value t input} (λ (w : LastCollides (spelling (htlc_form c.keys Offered h).ops) input.witness). by_htlc_script w)
    (λ (x : Ran t input (spelling (htlc_form c.keys Offered h).ops) value (htlc_form c.keys Offered h).ops counted tallest).
    opened x.items x.among
    (offered_satisfied (hash160 c.keys.revocation) c.keys.remote_htlc c.keys.local_htlc (ripemd160 h.hash) r p l k (spend_of t input (spelling (htlc_form c.keys Offered h).ops) value) x.items counted tallest x.clean))
    (ran_last t input (spelling (htlc_form c.keys Offered h).ops) value (htlc_form c.keys Offered h).ops counted tallest
    (offered_ops (hash160 c.keys.revocation) c.keys.remote_htlc c.keys.local_htlc (ripemd160 h.hash) r p l k) run)
  where
    opened : (items : List (List ℕ)) → ((x : List ℕ) → Contains items x → Contains input.witness x)
        → SatisfiesOffered (hash160 c.keys.revocation) c.keys.remote_htlc c.keys.local_htlc (ripemd160 h.hash) (spend_of t input (spelling (htlc_form c.keys Offered h).ops) value) items
        → OpensOwn c Offered h value t input
    opened items among (inl a) = by_hash c Offered h value t input items among a
    opened items among (inr (remote, inl local)) = by_own_key (among _ local)
    opened items among (inr (remote, inr pre)) = by_preimage refl (record { preimage = pre.preimage; given = among pre.preimage pre.given; size = pre.size; hashed = pre.hashed })

opens_received : (c : Contents) (h : Htlc) → is_key c.keys.local_htlc ≡ true → is_key c.keys.remote_htlc ≡ true → h.expiry_height < 2 ^ 32 → (value : ℕ) (t : Transaction) (input : TxIn) (counted tallest : ℕ)
    → run_of t input (record { value = value; script = script_hash_program (spelling (htlc_form c.keys Received h).ops) }) ≡ Some (Clean counted tallest) → OpensOwn c Received h value t input
opens_received c h k l low value t input counted tallest run =
    let r : length (hash160 c.keys.revocation) ≡ 20 = length-ripemd160 _ in
    let p : length (ripemd160 h.hash) ≡ 20 = length-ripemd160 _ in
    ⊎_elim {C = OpensOwn c Received h value t input} (λ (w : LastCollides (spelling (htlc_form c.keys Received h).ops) input.witness). by_htlc_script w)
    (λ (x : Ran t input (spelling (htlc_form c.keys Received h).ops) value (htlc_form c.keys Received h).ops counted tallest).
    opened x.items x.among
    (received_satisfied (hash160 c.keys.revocation) c.keys.remote_htlc c.keys.local_htlc (ripemd160 h.hash) h.expiry_height low r p l k (spend_of t input (spelling (htlc_form c.keys Received h).ops) value) x.items counted tallest
    x.clean))
    (ran_last t input (spelling (htlc_form c.keys Received h).ops) value (htlc_form c.keys Received h).ops counted tallest
    (received_ops (hash160 c.keys.revocation) c.keys.remote_htlc c.keys.local_htlc (ripemd160 h.hash) h.expiry_height low r p l k) run)
  where
    opened : (items : List (List ℕ)) → ((x : List ℕ) → Contains items x → Contains input.witness x)
        → SatisfiesReceived (hash160 c.keys.revocation) c.keys.remote_htlc c.keys.local_htlc (ripemd160 h.hash) h.expiry_height (spend_of t input (spelling (htlc_form c.keys Received h).ops) value) items
        → OpensOwn c Received h value t input
    opened items among (inl a) = by_hash c Received h value t input items among a
    opened items among (inr (remote, inl (local, pre))) = by_own_key (among _ local)
    opened items among (inr (remote, inr lock)) = by_expiry refl lock

by_form : (c : Contents) (direction : Direction) (h : Htlc) → is_key c.keys.local_htlc ≡ true → is_key c.keys.remote_htlc ≡ true → h.expiry_height < 2 ^ 32 → (value : ℕ) (t : Transaction) (input : TxIn) (counted tallest : ℕ)
    → run_of t input (record { value = value; script = script_hash_program (spelling (htlc_form c.keys direction h).ops) }) ≡ Some (Clean counted tallest) → OpensOwn c direction h value t input
by_form c Offered h k l low value t input counted tallest run = opens_offered c h k l value t input counted tallest run
by_form c Received h k l low value t input counted tallest run = opens_received c h k l low value t input counted tallest run

pub opens_own : (c : Contents) (direction : Direction) (h : Htlc) → is_key c.keys.local_htlc ≡ true → is_key c.keys.remote_htlc ≡ true → h.expiry_height < 2 ^ 32 → (value : ℕ) (t : Transaction) (input : TxIn) (counted tallest : ℕ)
    → run_of t input (record { value = value; script = script_hash_program (htlc_script c.keys direction h) }) ≡ Some (Clean counted tallest) → OpensOwn c direction h value t input
opens_own c direction h k l low value t input counted tallest run =
    by_form c direction h k l low value t input counted tallest
    (subst (λ (s : List ℕ). run_of t input (record { value = value; script = script_hash_program s }) ≡ Some (Clean counted tallest)) (same_htlc c.keys direction h) run)

-- ---- above the expiry

abbrev is_last : TxIn → Bool
is_last i = i.sequence == 0xffffffff

none_last : (inputs : List TxIn) (input : TxIn) → Contains inputs input → is_last input ≡ false → list_all is_last inputs ≡ false
none_last [] input i e = absurd (contains_none input i)
none_last (x ∷ xs) input i e =
    ⊎_elim {C = list_all is_last (x ∷ xs) ≡ false} (λ (s : x ≡ input). first (is_last x) (list_all is_last xs) (ap is_last s ∙ e))
    (λ (d : Contains xs input). rest (is_last x) (list_all is_last xs) (none_last xs input d e)) (contains_cases x xs input i)
  where
    first : (a b : Bool) → a ≡ false → (a && b) ≡ false
    first false b e = refl
    first true b e = absurd (false≢true (sym e))

    rest : (a b : Bool) → b ≡ false → (a && b) ≡ false
    rest false b e = refl
    rest true b e = e

-- what CHECKLOCKTIMEVERIFY lets pass for a height
record IsLocked (t : Transaction) (input : TxIn) (expiry_height : ℕ) : Type 0 where
  low : nat_lt t.lock_time LOCKTIME_THRESHOLD ≡ true
  above : nat_le expiry_height t.lock_time ≡ true
  free : is_last input ≡ false

locked : (t : Transaction) (input : TxIn) (script : List ℕ) (value expiry_height : ℕ) → nat_lt expiry_height LOCKTIME_THRESHOLD ≡ true → lock_passes (spend_of t input script value) expiry_height ≡ true
    → IsLocked t input expiry_height
unfolding lock_passes
locked t input script value expiry_height l e =
    by (nat_lt expiry_height LOCKTIME_THRESHOLD) (nat_lt t.lock_time LOCKTIME_THRESHOLD) (nat_le expiry_height t.lock_time) (is_last input) l refl refl refl e
  where
    by : (a b c d : Bool) → a ≡ true → nat_lt t.lock_time LOCKTIME_THRESHOLD ≡ b → nat_le expiry_height t.lock_time ≡ c → is_last input ≡ d → (alike a b && c && not d) ≡ true → IsLocked t input expiry_height
    by false b c d k f g h e = absurd (false≢true k)
    by true false c d k f g h e = absurd (false≢true e)
    by true true false d k f g h e = absurd (false≢true e)
    by true true true true k f g h e = absurd (false≢true e)
    by true true true false k f g h e = record { low = f; above = g; free = h }

-- a lock time that is a height is below the block's
lock_kept : (height lock : ℕ) (last : Bool) → lock < LOCKTIME_THRESHOLD → last ≡ false → (nat_le LOCKTIME_THRESHOLD lock || nat_lt lock height || last) ≡ true → lock < height
lock_kept height lock last l f e = ltb-true lock height (by (nat_le LOCKTIME_THRESHOLD lock) (nat_lt lock height) last (lt-leb LOCKTIME_THRESHOLD lock l) f e)
  where
    by : (a b g : Bool) → a ≡ false → g ≡ false → (a || b || g) ≡ true → b ≡ true
    by true b g h i e = absurd (false≢true (sym h))
    by false true g h i e = refl
    by false false true h i e = absurd (false≢true (sym i))
    by false false false h i e = absurd (false≢true e)

pub past_expiry : (height : ℕ) (t : Transaction) (input : TxIn) (items : List (List ℕ)) (since : ℕ) (script : List ℕ) (value expiry_height : ℕ) → expiry_height < LOCKTIME_THRESHOLD → Contains t.inputs input
    → lock_passes (spend_of t (signed_input input items) script value) expiry_height ≡ true → keeps_locks height t input since ≡ true → expiry_height < height
past_expiry height t input items since script value expiry_height l i e locks =
    let k = locked t (signed_input input items) script value expiry_height (lt-ltb expiry_height LOCKTIME_THRESHOLD l) e in
    let parts = and_parts (nat_le LOCKTIME_THRESHOLD t.lock_time || nat_lt t.lock_time height || list_all is_last t.inputs)
    (nat_lt t.version 2 || bit_at 31 input.sequence || bit_at 22 input.sequence || nat_le (since + input.sequence % 2 ^ 16) height) locks in
    let above = leb-true expiry_height t.lock_time k.above in
    let below = lock_kept height t.lock_time (list_all is_last t.inputs) (ltb-true t.lock_time LOCKTIME_THRESHOLD k.low) (none_last t.inputs input i k.free) parts.0 in
    omega (arith, above, below)

-- ---- one script, one key

-- the item that the opcode at an index pushes
abbrev item_of : Option Op → List ℕ
item_of (Some (Push item)) = item
item_of o = []

abbrev seventh : List Op → List ℕ
seventh ops = item_of (slice_get ops 7)

remote_is : (k : KeyBytes) (direction : Direction) (h : Htlc) → seventh (htlc_form k direction h).ops ≡ k.remote_htlc
remote_is k Offered h = refl
remote_is k Received h = refl

parsed : (k : KeyBytes) (direction : Direction) (h : Htlc) → is_key k.local_htlc ≡ true → is_key k.remote_htlc ≡ true → h.expiry_height < 2 ^ 32
    → script_ops (spelling (htlc_form k direction h).ops) ≡ Some (htlc_form k direction h).ops
parsed k Offered h l r low = offered_ops (hash160 k.revocation) k.remote_htlc k.local_htlc (ripemd160 h.hash) (length-ripemd160 _) (length-ripemd160 _) r l
parsed k Received h l r low = received_ops (hash160 k.revocation) k.remote_htlc k.local_htlc (ripemd160 h.hash) h.expiry_height low (length-ripemd160 _) (length-ripemd160 _) r l

-- HTLC outputs of one script have one key of the owner's peer
pub same_remote : (k m : KeyBytes) (direction other : Direction) (h g : Htlc) → is_key k.local_htlc ≡ true → is_key k.remote_htlc ≡ true → h.expiry_height < 2 ^ 32
    → is_key m.local_htlc ≡ true → is_key m.remote_htlc ≡ true → g.expiry_height < 2 ^ 32
    → spelling (htlc_form k direction h).ops ≡ spelling (htlc_form m other g).ops → k.remote_htlc ≡ m.remote_htlc
same_remote k m direction other h g l r low l' r' low' e =
    let ops : (htlc_form k direction h).ops ≡ (htlc_form m other g).ops =
    some_is (htlc_form k direction h).ops (htlc_form m other g).ops (sym (parsed k direction h l r low) ∙ ap script_ops e ∙ parsed m other g l' r' low') in
    sym (remote_is k direction h) ∙ ap seventh ops ∙ remote_is m other g
