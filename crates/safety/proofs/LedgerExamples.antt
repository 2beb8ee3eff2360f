-- Inputs that the machine here runs clean on what it reads for a witness: a close that the peer signed with another hash type is one, and one that the node is to have signed so is none.
use Rattle.std.proofs.Common.{◌≡◌, ◌≢◌, ℕ, zero, suc, true, false, List, [], ◌∷◌, length, reverse, Option, Some, sym, ap, ◌∙◌, refl, subst, inl, inr, arith, lit<}
use Rattle.std.specs.Prelude.{◌⊎◌, slice_get}
use Rattle.std.specs.List.{Contains}
use Rattle.sha2.proofs.Facts256.{length-sha256}
use Rattle.script.specs.declared.spending.Spend.{Spend}
use Rattle.script.specs.Spelling.{spelling}
use Rattle.script.specs.Token.{token_of, is_key}
use Rattle.script.specs.Run.{Clean, outcome}
use Rattle.tx.specs.declared.input.TxIn.{TxIn}
use Rattle.tx.specs.Fields.{Transaction, signed_input}
use Rattle.sighash.specs.Signing.{signed_list}
use Rattle.sighash.specs.Programs.{spend_of, run_of, script_hash_program}
use Rattle.sighash.proofs.Tokens.{one_token}
use Rattle.chain.specs.Blocks.{Coin}
use Rattle.paths.proofs.SoundWalk.{listing-sound}
use Rattle.claim.proofs.Meeting.{sound-at}
use Rattle.claim.proofs.TokenForms.{token-length, key-length, token-signature}
use Rattle.terms.specs.Scripts.{two_of_two}
use Rattle.forms.specs.Ways.{two_of_two_ways}
use Rattle.forms.proofs.Listed.{two_of_two-listed}
use Rattle.safety.specs.Signing.{Signed, digest_of}
use Rattle.safety.specs.Premises.{has_item}
use Rattle.safety.specs.Ledgers.{keeps_locks, IsForeignToken, SpendsCoin}
use Rattle.safety.proofs.Lists.{some_is}
use Rattle.safety.proofs.Satisfied.{two_satisfied}
use Rattle.safety.proofs.Ran.{LastCollides, Ran, ran_last}
use Rattle.safety.proofs.Examples.{same_eq, token_short, shown}
use Rattle.safety.proofs.Handed.{two_ops}
use Rattle.safety.proofs.Reading.{not_foreign, token_there}

-- ---- a close

two_clean : (first second : List ℕ) → is_key first ≡ true → is_key second ≡ true → (spend : Spend) → length spend.digest ≡ 32
    → outcome spend (two_of_two first second) ([] ∷ token_of first spend.digest ∷ token_of second spend.digest ∷ []) ≡ Clean 3 7
two_clean first second k l spend d =
    (sound-at (two_of_two first second) (two_of_two_ways first second) 0 _
    (listing-sound (two_of_two first second) (two_of_two_ways first second) (two_of_two-listed first second k l (key-length first k) (key-length second l))) refl).clean spend
    ([] ∷ token_of first spend.digest ∷ token_of second spend.digest ∷ [])
    (record {
      exact = refl;
      short = rw (token_short first spend.digest k d, token_short second spend.digest l d) refl;
      holds = (token-signature first spend.digest k d, (token-signature second spend.digest l d, (refl, (rw (same_eq (token_of first spend.digest), same_eq (token_of second spend.digest)) refl, tt))));
    })

module _ (first second : List ℕ) (k : is_key first ≡ true) (l : is_key second ≡ true) (t : Transaction) (input : TxIn) (value since : ℕ) where
  abbrev pub code : List ℕ
  code = spelling (two_of_two first second)

  abbrev pub coin : Coin
  coin = record { output = record { value = value; script = script_hash_program code }; height = since; spent = true }

  abbrev pub spent : Signed
  spent = record { transaction = t; input = input; code = code; value = value }

  abbrev pub digest : List ℕ
  digest = digest_of spent

  -- as the machine reads it
  abbrev pub read : List (List ℕ)
  read = [] ∷ token_of first digest ∷ token_of second digest ∷ code ∷ []

  its_run : run_of t (signed_input input read) coin.output ≡ Some (Clean 3 7)
  unfolding signed_list
  its_run =
      shown t (signed_input input read) value (two_of_two first second) (token_of second digest ∷ token_of first digest ∷ [] ∷ []) (Clean 3 7) (two_ops first second k l) refl
      (two_clean first second k l (spend_of t (signed_input input read) code value) (length-sha256 _))

  same_digest : (shown : List (List ℕ)) → digest_of (record { transaction = t; input = signed_input input shown; code = code; value = value }) ≡ digest
  unfolding signed_list
  same_digest shown = refl

  -- the first key signed it with another hash type, and the second with ALL
  module _ (signature : List ℕ) (witness : input.witness ≡ [] ∷ signature ∷ token_of second digest ∷ code ∷ []) where
    abbrev pub items : List (List ℕ)
    items = [] ∷ signature ∷ token_of second digest ∷ code ∷ []

    module _ (keys : List (List ℕ)) where
      -- yes: IsForeignToken
      foreign : has_item keys first ≡ false → IsForeignToken keys spent (token_of first digest)
      foreign e = record { key = first; form = k; foreign = e; is = refl }

      -- the first key is somebody else's
      -- yes: SpendsCoin
      pub with_another_hash_type : has_item keys first ≡ false → (height : ℕ) → keeps_locks height t input since ≡ true → SpendsCoin keys height spent coin
      with_another_hash_type e height locks = record { locks = locks; items = read; each = each; last = ap last_of (sym witness); counted = 3; tallest = 7; clean = its_run }
        where
          last_of : List (List ℕ) → Option (List ℕ)
          last_of w = slice_get (reverse w) 0

          there : (item : List ℕ) → Contains items item → Contains input.witness item
          there item i = subst (λ (w : List (List ℕ)). Contains w item) (sym witness) i

          each : (item : List ℕ) → Contains read item → Contains input.witness item ⊎ IsForeignToken keys spent item
          each item (zero, m, e) = inl (there item (0, lit< tt, e))
          each item (suc zero, m, s) = inr (subst (IsForeignToken keys spent) s (foreign e))
          each item (suc (suc zero), m, e) = inl (there item (2, lit< tt, e))
          each item (suc (suc (suc zero)), m, e) = inl (there item (3, lit< tt, e))
          each item (suc (suc (suc (suc n))), m, e) = absurd (omega (arith, m))

      -- it is the node's
      -- no: SpendsCoin
      pub signed_by_the_node : Contains keys first → first ≢ second → length signature ≡ 71 → length code ≡ 71 → (height : ℕ) → SpendsCoin keys height spent coin → ⊥
      signed_by_the_node mine apart long other height s = by (ran_last t (signed_input input s.items) code value (two_of_two first second) s.counted s.tallest (two_ops first second k l) s.clean)
        where
          -- no item of the witness is the token
          not_there : Contains items (token_of first digest) → ⊥
          not_there (zero, m, e) = let n = ap length e in omega (arith, n, token-length first digest (length-sha256 _))
          not_there (suc zero, m, e) = let n = ap length e in omega (arith, n, long, token-length first digest (length-sha256 _), key-length first k)
          not_there (suc (suc zero), m, e) = apart (sym (one_token second first digest digest (key-length second l ∙ sym (key-length first k)) e).0)
          not_there (suc (suc (suc zero)), m, e) = let n = ap length e in omega (arith, n, other, token-length first digest (length-sha256 _), key-length first k)
          not_there (suc (suc (suc (suc n))), m, e) = omega (arith, m)

          by : LastCollides code s.items ⊎ Ran t (signed_input input s.items) code value (two_of_two first second) s.counted s.tallest → ⊥
          by (inl z) = z.collide.0 (some_is z.item code (sym z.last ∙ s.last ∙ ap (λ (w : List (List ℕ)). slice_get (reverse w) 0) witness))
          by (inr r) =
              let both = two_satisfied first second k l (spend_of t (signed_input input s.items) code value) r.items s.counted s.tallest r.clean in
              let shown : Contains s.items (token_of first digest) = subst (λ (d : List ℕ). Contains s.items (token_of first d)) (same_digest s.items) (r.among _ both.0) in
              not_there (subst (λ (w : List (List ℕ)). Contains w (token_of first digest)) witness (token_there keys spent s.items s.each first mine (key-length first k) shown))

-- no: IsForeignToken
the_nodes : (keys : List (List ℕ)) (s : Signed) (key : List ℕ) → is_key key ≡ true → Contains keys key → IsForeignToken keys s (token_of key (digest_of s)) → ⊥
the_nodes keys s key k i f = not_foreign keys s key i (key-length key k) f
