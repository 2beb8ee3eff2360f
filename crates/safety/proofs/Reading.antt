-- What the machine reads in the witness of an input that spends an output of the node's, and what of it stands there.
use Rattle.std.proofs.Common.{◌≡◌, ℕ, ◌≤◌, true, List, [], ◌∷◌, ◌++◌, map, length, Some, sym, ap, ◌∙◌, refl, subst, inl, inr, length-append, arith}
use Rattle.std.specs.Prelude.{◌⊎◌}
use Rattle.std.specs.List.{Contains}
use Rattle.std.proofs.lemmas.Bool.{false≢true}
use Rattle.std.proofs.lemmas.List.Elements.{Contains-append_left, Contains-append_right}
use Rattle.sha2.specs.Sha256.{sha256}
use Rattle.digest.specs.Hash.{hash160, sha256d}
use Rattle.script.specs.Token.{token_of}
use Rattle.script.specs.Run.{Clean}
use Rattle.tx.specs.declared.input.TxIn.{TxIn}
use Rattle.tx.specs.Parts.{Output}
use Rattle.tx.specs.Fields.{Transaction, signed_input}
use Rattle.sighash.specs.Signing.{signed_list}
use Rattle.sighash.specs.Programs.{run_of}
use Rattle.sighash.proofs.Tokens.{one_token}
use Rattle.chain.specs.Blocks.{Contents as Block}
use Rattle.claim.specs.Fitting.{output_at}
use Rattle.forms.proofs.Forms.{key_length}
use Rattle.safety.specs.Signing.{Signed, digest_of}
use Rattle.safety.specs.Satisfying.{HasPreimage}
use Rattle.safety.specs.Spending.{IsSignedBy, ItemCollides}
use Rattle.safety.specs.Holdings.{Holding}
use Rattle.safety.specs.Premises.{LockedOutput, spend, keys_by, newest_revocation, secret_keys}
use Rattle.safety.specs.Ledgers.{keeps_locks, IsForeignToken, IsLedger}
use Rattle.safety.proofs.Lists.{contains_map}
use Rattle.safety.proofs.Tests.{has}
use Rattle.safety.proofs.Ran.{LastCollides, last_collides, KeyCollides}
use Rattle.safety.proofs.Own.{Names, ledger_says}

-- ---- keys with which nobody else signs

pub secret_key : (hs : List Holding) (key : List ℕ) → Contains (keys_by hs) key → Contains (secret_keys hs) key
secret_key hs key i = Contains-append_left (keys_by hs) (map newest_revocation hs) key i

pub newest_secret : (hs : List Holding) (h : Holding) → Contains hs h → Contains (secret_keys hs) (newest_revocation h)
newest_secret hs h held = Contains-append_right (keys_by hs) (map newest_revocation hs) (newest_revocation h) (contains_map newest_revocation hs h held)

-- ---- tokens of other keys

token_long : (key digest : List ℕ) → length key ≡ 33 → 34 ≤ length (token_of key digest)
unfolding token_of
token_long key digest l = omega (arith, l, length-append key (digest ++ 1 ∷ []), length-append digest (1 ∷ []))

-- none is a token of one of these keys
pub not_foreign : (keys : List (List ℕ)) (s : Signed) (key : List ℕ) → Contains keys key → length key ≡ 33 → IsForeignToken keys s (token_of key (digest_of s)) → ⊥
not_foreign keys s key k long f =
    let other = key_length f.key f.form in
    let same = (one_token key f.key (digest_of s) (digest_of s) (omega (arith, long, other)) f.is).0 in
    false≢true (sym f.foreign ∙ has keys f.key (subst (λ (x : List ℕ). Contains keys x) same k))

-- nor as short as a key
not_short : (keys : List (List ℕ)) (s : Signed) (item : List ℕ) → length item ≤ 33 → IsForeignToken keys s item → ⊥
not_short keys s item l f = let long = token_long f.key (digest_of s) (key_length f.key f.form) in let e = ap length f.is in omega (arith, l, long, e)

-- ---- what is read

-- each item is one of the witness, or such a token
abbrev pub EachIs : (keys : List (List ℕ)) → Signed → List (List ℕ) → Type 0
EachIs keys s items = (item : List ℕ) → Contains items item → Contains s.input.witness item ⊎ IsForeignToken keys s item

pub token_there : (keys : List (List ℕ)) (s : Signed) (items : List (List ℕ)) → EachIs keys s items → (key : List ℕ) → Contains keys key → length key ≡ 33 → Contains items (token_of key (digest_of s)) → IsSignedBy key s
token_there keys s items each key k long i = by (each (token_of key (digest_of s)) i)
  where
    by : Contains s.input.witness (token_of key (digest_of s)) ⊎ IsForeignToken keys s (token_of key (digest_of s)) → IsSignedBy key s
    by (inl c) = c
    by (inr f) = absurd (not_foreign keys s key k long f)

short_there : (keys : List (List ℕ)) (s : Signed) (items : List (List ℕ)) → EachIs keys s items → (x : List ℕ) → Contains items x → length x ≤ 33 → Contains s.input.witness x
short_there keys s items each x i l = by (each x i)
  where
    by : Contains s.input.witness x ⊎ IsForeignToken keys s x → Contains s.input.witness x
    by (inl c) = c
    by (inr f) = absurd (not_short keys s x l f)

-- The items on which it runs clean. A token of a secret key among them stands in the witness; so does what is as short as a key, and the last of them
pub record IsRead (hs : List Holding) (w : LockedOutput) (height : ℕ) (t : Transaction) (input : TxIn) (since : ℕ) : Type 0 where
  pub items : List (List ℕ)
  pub signed : (key : List ℕ) → Contains (secret_keys hs) key → length key ≡ 33 → IsSignedBy key (spend w t (signed_input input items)) → IsSignedBy key (spend w t input)
  pub short : (x : List ℕ) → Contains items x → length x ≤ 33 → Contains input.witness x
  pub script : (code : List ℕ) → LastCollides code items → ItemCollides sha256 code input.witness
  pub counted : ℕ
  pub tallest : ℕ
  pub clean : run_of t (signed_input input items) (output_at w.place) ≡ Some (Clean counted tallest)
  pub locks : keeps_locks height t input since ≡ true

-- what is signed does not depend on the witness
read_digest : (w : LockedOutput) (t : Transaction) (input : TxIn) (items : List (List ℕ)) → digest_of (spend w t (signed_input input items)) ≡ digest_of (spend w t input)
unfolding signed_list
read_digest w t input items = refl

pub read : (hs : List Holding) (blocks : List Block) → IsLedger hs blocks → (w : LockedOutput) (height : ℕ) (t : Transaction) (input : TxIn) (n : Names hs blocks w height t input) → IsRead hs w height t input n.coin.height
read hs blocks ledger w height t input n =
    let spends = (ledger_says hs blocks ledger w height t input n).1 in
    let s = spend w t input in
    record {
      items = spends.items;
      signed = λ key k long i. token_there (secret_keys hs) s spends.items spends.each key k long (subst (λ (d : List ℕ). Contains spends.items (token_of key d)) (read_digest w t input spends.items) i);
      short = λ x i l. short_there (secret_keys hs) s spends.items spends.each x i l;
      script = λ code z. last_collides code input.witness (record { item = z.item; last = sym spends.last ∙ z.last; collide = z.collide });
      counted = spends.counted;
      tallest = spends.tallest;
      clean = subst (λ (x : Output). run_of t (signed_input input spends.items) x ≡ Some (Clean spends.counted spends.tallest)) n.there.output spends.clean;
      locks = spends.locks;
    }

pub read_key : (hs : List Holding) (w : LockedOutput) (height : ℕ) (t : Transaction) (input : TxIn) (since : ℕ) (r : IsRead hs w height t input since) (key : List ℕ) → KeyCollides key r.items → ItemCollides hash160 key input.witness
read_key hs w height t input since r key z =
    let l = key_length z.item z.form in
    record { first = z.item; second = key; of_first = r.short z.item z.given (omega (arith, l)); of_second = refl; collide = z.collide }

pub read_preimage : (hs : List Holding) (w : LockedOutput) (height : ℕ) (t : Transaction) (input : TxIn) (since : ℕ) (r : IsRead hs w height t input since) (hash : List ℕ) → HasPreimage r.items hash → HasPreimage input.witness hash
read_preimage hs w height t input since r hash p = let l = p.size in record { preimage = p.preimage; given = r.short p.preimage p.given (omega (arith, l)); size = p.size; hashed = p.hashed }
