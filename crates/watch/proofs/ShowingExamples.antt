-- Witnesses that show no collision.
use Rattle.std.proofs.Common.{◌≡◌, ℕ, ◌==◌, Bool, true, false, cond, List, [], ◌∷◌, ◌++◌, length, reverse, get_or, Option, Some, None, refl, sym, ap, subst, ◌∙◌, arith, length-append}
use Rattle.std.specs.List.{AllByRecursion}
use Rattle.std.proofs.lemmas.List.{reverse-append}
use Rattle.std.proofs.lemmas.Option.{same_Some}
use Rattle.sha2.specs.Sha256.{sha256, digest_bytes, hash_after, compress, rounds, schedule, first_words}
use Rattle.digest.specs.Hash.{Collide}
use Rattle.tx.specs.declared.input.TxIn.{TxIn}
use Rattle.commit.specs.declared.outputs.HtlcOutput.{HtlcOutput}
use Rattle.commit.specs.Outputs.{htlc_script}
use Rattle.commit.specs.Commitments.{Contents}
use Rattle.resolve.specs.Preimages.{shown_by_input, if_32, shown_by}
use Rattle.watch.specs.Showing.{IsBytes, ScriptCollides, HashCollides}

-- DUP HASH160 and a list of numbers with the same SHA-256, which is no byte string
twins : Collide sha256 (0x75 ∷ 0x1a9 ∷ []) (0x76 ∷ 0xa9 ∷ [])
unfolding sha256 digest_bytes hash_after compress rounds schedule first_words
twins = (λ e. omega (arith, ap (λ xs. get_or xs 0 0) e), refl)

no_bytes : (rest : List ℕ) → IsBytes (0x75 ∷ 0x1a9 ∷ rest) → ⊥
no_bytes rest all = omega (arith, all.1.0)

-- ---- scripts

module _ (c : Contents) (h : HtlcOutput) (i : TxIn) where
  abbrev script : List ℕ
  script = htlc_script c.keys h.direction h.htlc

  abbrev last_in : List (List ℕ) → List ℕ
  last_in witness = get_or (reverse witness) 0 []

  last_is : (items : List (List ℕ)) (x : List ℕ) → last_in (items ++ x ∷ []) ≡ x
  last_is items x = ap (λ xs. get_or xs 0 []) (reverse-append items (x ∷ []))

  -- the witness ends with the HTLC's own script
  own_script : (items : List (List ℕ)) → i.witness ≡ items ++ script ∷ [] → ScriptCollides c h i → ⊥
  own_script items w k = k.collide.0 (sym (last_is k.items k.script) ∙ ap last_in (sym k.shown ∙ w) ∙ last_is items script)

  -- the witness is empty
  no_items : i.witness ≡ [] → ScriptCollides c h i → ⊥
  no_items w k = let n = ap length (sym w ∙ k.shown) in let l = length-append k.items (k.script ∷ []) in omega (arith, n, l)

  -- a witness of byte strings ends with a byte string
  all_bytes : AllByRecursion IsBytes i.witness → (rest : List ℕ) → (k : ScriptCollides c h i) → k.script ≡ 0x75 ∷ 0x1a9 ∷ rest → ⊥
  all_bytes all rest k e = no_bytes rest (subst IsBytes e (k.bytes all))

-- ---- preimages

module _ (hash : List ℕ) (i : TxIn) (a x script : List ℕ) where
  -- the item that is shown, if its length fits
  abbrev shown_if : Bool → Option (List ℕ)
  shown_if fits = cond fits (Some x) None

  shows : i.witness ≡ a ∷ x ∷ script ∷ [] → shown_by_input (Some i) ≡ shown_if (length x == 32)
  shows w = ap (λ items. if_32 (shown_by items)) w

  shown_is : (fits : Bool) (item : List ℕ) → shown_if fits ≡ Some item → x ≡ item
  shown_is true item e = same_Some x item e
  shown_is false item e = absurd (cc)

  -- what is shown is the preimage
  the_preimage : i.witness ≡ a ∷ x ∷ script ∷ [] → sha256 x ≡ hash → HashCollides hash i → ⊥
  the_preimage w hashed k = k.collide.0 (ap sha256 (sym (shown_is (length x == 32) k.item (sym (shows w) ∙ k.shown))) ∙ hashed)

  -- the item has another length
  another_length : i.witness ≡ a ∷ x ∷ script ∷ [] → (length x == 32) ≡ false → HashCollides hash i → ⊥
  another_length w long k = let none : None ≡ Some k.item = ap shown_if (sym long) ∙ sym (shows w) ∙ k.shown in absurd (cc)

  -- the witness has two items, as that of a penalty on a key hash
  two_items : i.witness ≡ x ∷ script ∷ [] → HashCollides hash i → ⊥
  two_items w k = let none : None ≡ Some k.item = ap (λ items. if_32 (shown_by items)) (sym w) ∙ k.shown in absurd (cc)
