-- The order of a commitment's outputs (BOLT 3, "Transaction Output Ordering").
use Rattle.std.specs.Prelude.{◌≡◌, ℕ, Bool, if◌then◌else◌, List, [], ◌∷◌}
use Rattle.std.specs.List.Sorted.{IsPermutation, IsSortedBy, IsStableBy}
use Rattle.std.specs.Ordering.{nat_cmp, is_lt, on, then_cmp}
use Rattle.std.specs.declared.cmp.Ordering.{Ordering}
use Rattle.std.specs.Cmp.Lexicographic.{slice_cmp}
use Rattle.commit.specs.declared.outputs.OutputKind.{OutputKind}
use Rattle.commit.specs.declared.outputs.OutputKind.TheVariants.{ToHtlc}
use Rattle.commit.specs.declared.outputs.CommitmentOutput.{CommitmentOutput}

-- the expiry by which outputs of equal value and program are sorted
abbrev pub expiry_height_of : OutputKind → ℕ
expiry_height_of (ToHtlc direction h) = h.expiry_height
expiry_height_of kind = 0

-- by value, then by the bytes of the program (BIP 69), then by expiry
unfoldable pub output_cmp : CommitmentOutput → CommitmentOutput → Ordering
output_cmp = then_cmp (on (λ o. o.value) nat_cmp)
    (then_cmp (on (λ o. o.program) (slice_cmp nat_cmp)) (on (λ o. expiry_height_of o.kind) nat_cmp))

abbrev pub stands_before : CommitmentOutput → CommitmentOutput → Bool
stands_before x y = is_lt (output_cmp x y)

-- a list has the outputs of another, sorted. Outputs that are equal in the order keep their relative places.
pub record IsInOrder (outputs ordered : List CommitmentOutput) : Type 0 where
  pub same : IsPermutation outputs ordered
  pub sorted : IsSortedBy stands_before ordered
  pub stable : IsStableBy stands_before outputs ordered

-- the one list that is sorted so (`laws::there_is_one_order`)
abbrev pub put_in : CommitmentOutput → List CommitmentOutput → List CommitmentOutput
put_in x [] = x ∷ []
put_in x (y ∷ ys) = if stands_before y x then y ∷ put_in x ys else x ∷ y ∷ ys

unfoldable pub in_order : List CommitmentOutput → List CommitmentOutput
in_order [] = []
in_order (x ∷ xs) = put_in x (in_order xs)

abbrev pub ThereIsOneOrder : Type 0
ThereIsOneOrder = (outputs : List CommitmentOutput) → IsInOrder outputs (in_order outputs) × ((ordered : List CommitmentOutput) → IsInOrder outputs ordered → ordered ≡ in_order outputs)
