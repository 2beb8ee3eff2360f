-- Preimages of payment hashes: those that are known, those that spends of HTLCs show, and what a reorganisation no longer undoes.
use Rattle.std.specs.Prelude.{ℕ, ◌+◌, ◌==◌, nat_le, Bool, if◌then◌else◌, List, [], ◌∷◌, length, Option, Some, None, slice_get}
use Rattle.std.specs.List.{find, list_any}
use Rattle.std.specs.Str.{bytes_eq}
use Rattle.sha2.specs.Sha256.{sha256}
use Rattle.tx.specs.declared.input.TxIn.{TxIn}
use Rattle.tx.specs.Fields.{Transaction}

-- one of these is a preimage of the hash
abbrev pub is_known : List (List ℕ) → List ℕ → Bool
is_known preimages hash = list_any (λ x. bytes_eq (sha256 x) hash) preimages

-- the first of these that is one
abbrev pub first_of : List (List ℕ) → List ℕ → Option (List ℕ)
first_of preimages hash = find (λ x. bytes_eq (sha256 x) hash) preimages

-- the second to last item of a witness. Three items spend an HTLC of the peer's commitment, and five are those of an HTLC-success transaction
abbrev pub shown_by : List (List ℕ) → Option (List ℕ)
shown_by (signature ∷ item ∷ script ∷ []) = Some item
shown_by (extra ∷ remote ∷ local ∷ item ∷ script ∷ []) = Some item
shown_by witness = None

-- the item, if it has 32 bytes
abbrev pub if_32 : Option (List ℕ) → Option (List ℕ)
if_32 None = None
if_32 (Some item) = if length item == 32 then Some item else None

abbrev pub shown_by_input : Option TxIn → Option (List ℕ)
shown_by_input None = None
shown_by_input (Some i) = if_32 (shown_by i.witness)

-- the preimage that an input shows
abbrev pub preimage_shown : Transaction → ℕ → Option (List ℕ)
preimage_shown t index = shown_by_input (slice_get t.inputs index)

-- a block is 100 deep: itself and 99 above it
abbrev pub is_deep : ℕ → ℕ → Bool
is_deep height tip = nat_le (height + 99) tip
