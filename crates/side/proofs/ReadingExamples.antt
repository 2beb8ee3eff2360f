-- What is wanted, asked and read, for small lists that were worked out by hand from the descriptions of the words.
use Rattle.std.proofs.Common.{◌≡◌, ℕ, true, false, List, [], ◌∷◌, map, Some, None, refl, ap}
use Rattle.std.specs.Str.{bytes_eq}
use Rattle.sha2.specs.Sha256.{sha256}
use Rattle.tx.specs.declared.input.OutPoint.{OutPoint}
use Rattle.tx.specs.declared.input.TxIn.{TxIn}
use Rattle.tx.specs.Fields.{Transaction}
use Rattle.keys.specs.declared.compressed.Key.{Key}
use Rattle.claim.specs.declared.parts.Slot.TheVariants.{Sig, Preimage}
use Rattle.claim.specs.Claims.{ClaimParts}
use Rattle.resolve.specs.declared.known.Known.{Known}
use Rattle.watch.specs.Watching.{Seen, nothing_seen}
use Rattle.side.specs.Due.{wanted_by, due_claims_of, FindsIf, taught}
use Rattle.side.specs.Reading.{Reader, begun, is_to_ask, numbers_to_ask, with_answer, FindsBlock, no_more, channel}

-- ---- claims

-- of several known preimages, the first one with the hash that a slot asks for
module _ (x y z hash : List ℕ) (key : Key) where
  first_known : bytes_eq (sha256 x) hash ≡ true → bytes_eq (sha256 y) hash ≡ true → bytes_eq (sha256 z) hash ≡ false
      → map (λ known. wanted_by known (Preimage hash)) ((x ∷ y ∷ z ∷ []) ∷ (z ∷ y ∷ x ∷ []) ∷ (z ∷ []) ∷ [] ∷ []) ≡ Some x ∷ Some y ∷ None ∷ None ∷ []
  first_known e f g = rw (e, f, g) refl

  none_wanted : wanted_by (x ∷ y ∷ z ∷ []) (Sig key) ≡ None
  none_wanted = refl

-- claims keep their order, each with its channel and with what its own slots need
module _ (x y hash other : List ℕ) (key : Key) (claim : ClaimParts) where
  due_in_order : bytes_eq (sha256 x) hash ≡ true → bytes_eq (sha256 x) other ≡ false → bytes_eq (sha256 y) other ≡ true
      → due_claims_of 3 (x ∷ y ∷ []) (record claim { slots = Sig key ∷ Preimage other ∷ Preimage hash ∷ [] } ∷ record claim { slots = [] } ∷ [])
      ≡ record { channel = 3; claim = record claim { slots = Sig key ∷ Preimage other ∷ Preimage hash ∷ [] }; preimages = y ∷ x ∷ [] }
      ∷ record { channel = 3; claim = record claim { slots = [] }; preimages = [] }
      ∷ []
  due_in_order e f g = rw (e, f, g) refl

-- ---- what is asked

module _ (k l : Known) where
  -- outpoints that differ in the id or in the index, and a transaction that spends the first of them among others
  abbrev first : OutPoint
  first = record { txid = 7 ∷ []; index = 1 }

  abbrev second : OutPoint
  second = record { txid = 7 ∷ []; index = 2 }

  abbrev third : OutPoint
  third = record { txid = 8 ∷ []; index = 1 }

  abbrev input : OutPoint → TxIn
  input o = record { outpoint = o; sequence = 0; witness = [] }

  abbrev spending : List OutPoint → Transaction
  spending outpoints = record { version = 2; inputs = map input outpoints; outputs = []; lock_time = 0 }

  abbrev seen_spent : Seen
  seen_spent = record { spends = record { height = 4; tx = spending [] } ∷ []; given = [] }

  -- a spend that was read, a spend in the block, no spend; and a channel that was answered already
  asks : map (λ (s, known, txs). is_to_ask first s known txs)
      ((seen_spent, None, []) ∷ (nothing_seen, None, spending (third ∷ first ∷ []) ∷ []) ∷ (nothing_seen, None, spending (second ∷ third ∷ []) ∷ []) ∷ (nothing_seen, None, [])
      ∷ (seen_spent, Some k, spending (first ∷ []) ∷ []) ∷ [])
      ≡ true ∷ true ∷ false ∷ false ∷ false ∷ []
  asks = refl

  -- of four channels, the first is spent in the block, the second is known, the third is not spent, and the fourth's spend was read before
  numbers : numbers_to_ask 0 (first ∷ first ∷ second ∷ third ∷ []) (nothing_seen ∷ seen_spent ∷ nothing_seen ∷ seen_spent ∷ []) (None ∷ Some k ∷ None ∷ None ∷ []) (spending (first ∷ []) ∷ [])
      ≡ 0 ∷ 3 ∷ []
  numbers = refl

  -- the same, counted from number 5
  numbers_from : numbers_to_ask 5 (first ∷ second ∷ first ∷ []) (nothing_seen ∷ nothing_seen ∷ seen_spent ∷ []) (None ∷ None ∷ None ∷ []) (spending (second ∷ first ∷ []) ∷ []) ≡ 5 ∷ 6 ∷ 7 ∷ []
  numbers_from = refl

  -- once all are answered, nothing is asked; nor is it without channels
  none_asked : numbers_to_ask 0 (first ∷ second ∷ []) (seen_spent ∷ seen_spent ∷ []) (Some k ∷ Some l ∷ []) (spending (first ∷ []) ∷ []) ≡ []
  none_asked = refl

  no_channel : numbers_to_ask 3 [] [] [] (spending (first ∷ []) ∷ []) ≡ []
  no_channel = refl

  -- ---- a reader

  module _ (x y z : List ℕ) (r : Reader) where
    -- a new reader has its watches and preimages, and no answers
    begins : begun (first ∷ second ∷ []) (seen_spent ∷ nothing_seen ∷ []) (x ∷ [])
        ≡ record { fundings = first ∷ second ∷ []; seen = seen_spent ∷ nothing_seen ∷ []; knowns = None ∷ None ∷ []; learnt = x ∷ []; jobs = [] }
    begins = refl

    -- an answer is stored for its channel, with what was learnt appended to its own preimages, and nothing else changes
    answered : with_answer 1 (record k { preimages = z ∷ [] }) (record r { knowns = None ∷ None ∷ Some l ∷ []; learnt = x ∷ y ∷ [] })
        ≡ record r { knowns = None ∷ Some (record k { preimages = z ∷ x ∷ y ∷ [] }) ∷ Some l ∷ []; learnt = x ∷ y ∷ [] }
    answered = refl

    -- what a block shows is appended to what is known, and is dropped for a channel without an answer
    learns : map (taught (x ∷ y ∷ [])) (Some (record k { preimages = z ∷ [] }) ∷ None ∷ []) ≡ Some (record k { preimages = z ∷ x ∷ y ∷ [] }) ∷ None ∷ []
    learns = refl

  -- ---- a block

  -- channels without an answer give nothing, and are seen as before
  quiet : FindsBlock 6 (spending (first ∷ []) ∷ []) 0 (None ∷ None ∷ []) (nothing_seen ∷ seen_spent ∷ []) (nothing_seen ∷ seen_spent ∷ []) [] []
  quiet = channel [] [] (refl, refl, refl) (channel [] [] (refl, refl, refl) no_more)

  not_seen : FindsIf None 6 (spending (first ∷ []) ∷ []) 0 nothing_seen seen_spent [] [] → ⊥
  not_seen (e, j, s) = let spends = ap (λ (x : Seen). x.spends) e in cc
