-- What a branch's stack has, as far as the script determines it.
use Rattle.std.specs.Prelude.{ℕ, Bool, false, ◌&&◌, ◌==◌, not, nat_le, if◌then◌else◌, List, [], ◌∷◌, length, map, take, min, Option, Some, None}
use Rattle.std.specs.Str.{bytes_eq}
use Rattle.digest.specs.Hash.{hash160}
use Rattle.script.specs.declared.num.Number.{Number as Signed}
use Rattle.script.specs.declared.limits.TheConstants.{MAX_SCRIPT_ELEMENT_SIZE}
use Rattle.script.specs.Number.{number_of}
use Rattle.script.specs.Step.{truth, flag}
use Rattle.strictness.specs.declared.entries.Bytes.{Bytes}
use Rattle.strictness.specs.declared.entries.Entry.{Entry}
use Rattle.strictness.specs.declared.entries.Entry.TheVariants.{Item, Known, Hash, Size, Answer}

-- an item of the witness; bytes that the script determines; the hash or the length of an item; an answer that the witness decides
pub data Word : Type 0 where
  item : Word
  known : List ℕ → Word
  hashed : Word
  sized : Word
  answer : Word

-- at most 75 bytes
abbrev pub first_bytes : List ℕ → List ℕ
first_bytes b = take 75 b

abbrev pub bytes_of : Bytes → List ℕ
bytes_of b = take (min b.len 75) b.bytes

abbrev pub word_of : Entry → Word
word_of Item = item
word_of (Known b) = known (bytes_of b)
word_of Hash = hashed
word_of Size = sized
word_of Answer = answer

abbrev pub words : List Entry → List Word
words entries = map word_of entries

-- the bytes of an entry that the script determines, and none of another one
abbrev pub constant : Word → List ℕ
constant (known b) = b
constant x = []

-- the bytes of the lower of two entries, or of the upper one where the lower one has none
abbrev pub shown : Word → Word → List ℕ
shown top second = if length (constant second) == 0 then constant top else constant second

-- the entry on top, below the last of which are the items of the witness
abbrev pub top_of : List Word → Word
top_of [] = item
top_of (x ∷ xs) = x

abbrev pub below : List Word → List Word
below [] = []
below (x ∷ xs) = xs

abbrev pub known_flag : Bool → Word
known_flag b = known (first_bytes (flag b))

-- whether an entry counts as true, if the script determines that
abbrev pub truth_of : Word → Option Bool
truth_of (known b) = Some (truth b)
truth_of x = None

abbrev pub length_bytes : ℕ → List ℕ
length_bytes n = if n == 0 then [] else n ∷ []

-- what SIZE pushes above an entry
abbrev pub size_of : Word → Word
size_of item = sized
size_of hashed = known (first_bytes (20 ∷ []))
size_of (known b) = known (first_bytes (length_bytes (length b)))
size_of x = answer

-- what HASH160 leaves of it
abbrev pub hash_of : Word → Word
hash_of item = hashed
hash_of (known b) = known (first_bytes (hash160 b))
hash_of x = answer

abbrev pub is_length : Option Signed → Bool
is_length None = false
is_length (Some z) = not z.negative && nat_le z.magnitude MAX_SCRIPT_ELEMENT_SIZE

abbrev pub answer_if : Bool → Word
answer_if b = if b then answer else known_flag false

-- what EQUAL leaves of two: bytes of another length than 20 are no hash, and those that are no number from 0 to 520 are no length
abbrev pub equal_of : Word → Word → Word
equal_of (known a) (known b) = known_flag (bytes_eq a b)
equal_of (known b) hashed = answer_if (length b == 20)
equal_of hashed (known b) = answer_if (length b == 20)
equal_of (known b) sized = answer_if (is_length (number_of 4 b))
equal_of sized (known b) = answer_if (is_length (number_of 4 b))
equal_of x y = answer
