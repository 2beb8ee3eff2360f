-- The parts of a JSON shape (RFC 8259): each word gives what a JSON value is read as, and None if it does not have the shape.
use Rattle.std.specs.Prelude.{◌≡◌, ℕ, suc, ◌^◌, ◌==◌, nat_lt, if◌then◌else◌, List, [], ◌∷◌, Option, Some, None, Result, Ok, Err, codes}
use Rattle.std.specs.Result.{result_ok}
use Rattle.std.specs.Str.{bytes_eq}
use Rattle.hex.specs.Hex.{decode_of, decode_sized}
use Rattle.serde_json.specs.Data.{Data, Items, no_items, item, Members, no_members, member}
use Rattle.serde_json.specs.Find.{as_number, as_u64, as_str, as_array, as_object, at, get}
use Rattle.claim.specs.Opcodes.{◌>>=◌}
use Rattle.terms.specs.declared.sides.Side.{Side}
use Rattle.terms.specs.declared.sides.Side.TheVariants.{A, B}
use Rattle.texts.specs.declared.errors.ShapeError.{ShapeError}
use Rattle.texts.specs.declared.errors.ShapeError.TheVariants.{NoMemory, BadShape}

-- A reader's result, seen by view, is what the value is read as, unless memory ran out.
abbrev pub Fails : {Y : Type 0} → ShapeError → Option Y → Type 0
Fails NoMemory read = Unit {0}
Fails BadShape read = read ≡ None

abbrev pub Gives : {X Y : Type 0} → (X → Y) → Result X ShapeError → Option Y → Type 0
Gives view (Ok x) read = read ≡ Some (view x)
Gives view (Err e) read = Fails e read

-- a number below a bound
abbrev pub below : ℕ → ℕ → Option ℕ
below end n = if nat_lt n end then Some n else None

-- a number without fraction, exponent or sign, of at most 64 bits
abbrev pub u64_of : Data → Option ℕ
u64_of d = as_number d >>= as_u64

abbrev pub u32_of : Data → Option ℕ
u32_of d = u64_of d >>= below (2 ^ 32)

abbrev pub u16_of : Data → Option ℕ
u16_of d = u64_of d >>= below (2 ^ 16)

-- the bytes of a string in hexadecimal, in both letter cases
abbrev pub bytes_of : Data → Option (List ℕ)
bytes_of d = as_str d >>= (λ text. result_ok (decode_of text))

-- the same, if there are this many bytes
abbrev pub bytes_of_len : ℕ → Data → Option (List ℕ)
bytes_of_len len d = as_str d >>= (λ text. result_ok (decode_sized text len))

abbrev pub item_count : Items → ℕ
item_count no_items = 0
item_count (item d ds) = suc (item_count ds)

abbrev pub member_count : Members → ℕ
member_count no_members = 0
member_count (member k d ms) = suc (member_count ms)

-- the value, if it is an array of this many items
abbrev pub array_of : ℕ → Data → Option Data
array_of count d = as_array d >>= (λ ds. if item_count ds == count then Some d else None)

-- the value, if it is an object of this many members. Names in an object are distinct, so members at that many names are all of them (`NamesAreAll`)
abbrev pub object_of : ℕ → Data → Option Data
object_of count d = as_object d >>= (λ ms. if member_count ms == count then Some d else None)

-- reads the item of an array at an index
abbrev pub item_of : {A : Type 0} → ℕ → (Data → Option A) → Data → Option A
item_of index form d = at index d >>= form

-- reads the member of an object with this name
abbrev pub member_of : {A : Type 0} → List ℕ → (Data → Option A) → Data → Option A
member_of name form d = get name d >>= form

-- two values of one shape, that of side A first
abbrev pub pair_of : {A : Type 0} → (Data → Option A) → Data → Option (A × A)
pair_of form d = do
  pair ← array_of 2 d
  a ← item_of 0 form pair
  b ← item_of 1 form pair
  Some (a, b)

-- the string at the front of an array
abbrev pub tag_of : Data → Option (List ℕ)
tag_of d = item_of 0 as_str d

abbrev pub side_of : Data → Option Side
side_of d = as_str d >>= (λ text. if bytes_eq text (codes "A") then Some A else if bytes_eq text (codes "B") then Some B else None)

-- the first of the two that is there
abbrev pub first_some : {A : Type 0} → Option A → Option A → Option A
first_some (Some x) other = Some x
first_some None other = other

-- reads the items of an array, all of one shape
abbrev pub each_of : {A : Type 0} → (Data → Option A) → Items → Option (List A)
each_of form no_items = Some []
each_of form (item d ds) = do
  x ← form d
  xs ← each_of form ds
  Some (x ∷ xs)

abbrev pub list_of : {A : Type 0} → (Data → Option A) → Data → Option (List A)
list_of form d = as_array d >>= each_of form
