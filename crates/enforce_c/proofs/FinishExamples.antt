-- Signatures by their form and their place, on both sides of each bound; what stands in the witnesses; and what the call leaves.
use Rattle.std.proofs.Common.{◌≡◌, ◌+◌, ℕ, true, false, List, [], ◌∷◌, ◌++◌, map, replicate, Ok, Err, refl}
use Rattle.tx.specs.declared.input.TxIn.{TxIn}
use Rattle.keys.specs.declared.compressed.Key.{Key}
use Rattle.filling.specs.declared.missing.MissingSignature.{MissingSignature}
use Rattle.enforce_c.specs.declared.finish_rows.SignedRow.{SignedRow}
use Rattle.enforce_c.specs.declared.statuses.SignaturePlace.{SignaturePlace}
use Rattle.enforce_c.specs.declared.statuses.Refusal.TheVariants.{OutOfRange, NoSuchSlot, NoSignature, SignatureOutOfRange, NotDer, NotSighashAll, NotAsked}
use Rattle.enforce_c.specs.declared.finish_rows.FinishAnswer.{FinishAnswer}
use Rattle.enforce_c.specs.declared.about.About.TheVariants.{Whole, OfOutput, OfClaim, OfSignature}
use Rattle.enforce_c.specs.Statuses.{status_of, number_of}
use Rattle.enforce_c.specs.About.{kind_of, row_of, refused_whole}
use Rattle.enforce_c.specs.Spent.{spend_refused}
use Rattle.enforce_c.specs.Der.{is_shortest, is_der, is_sighash_all}
use Rattle.enforce_c.specs.Finished.{signature_for, signatures_of, with_signatures, SignedParts, finish_refused, finish_left_by}

-- ---- the form (BIP 66)

-- the signatures of BOLT 3's appendix C on its first commitment, of 71 and 70 bytes, with the byte of ALL
abbrev remote_signature : List ℕ
remote_signature = 48 ∷ 69 ∷ 2 ∷ 33 ∷ 0 ∷ 195 ∷ 18 ∷ 123 ∷ 51 ∷ 220 ∷ 199 ∷ 65 ∷ 221 ∷ 107 ∷ 5 ∷ 177 ∷ 230 ∷ 60 ∷ 189 ∷ 26 ∷ 154 ∷ 125 ∷ 129 ∷ 111 ∷ 55 ∷ 175 ∷ 155 ∷ 103 ∷ 86 ∷ 250 ∷ 35 ∷ 118 ∷ 176 ∷ 86 ∷ 240 ∷ 50 ∷ 55 ∷ 2 ∷ 32 ∷ 64 ∷ 139 ∷ 150 ∷ 39 ∷ 152 ∷ 8 ∷ 254 ∷ 87 ∷ 235 ∷ 126 ∷ 70 ∷ 55 ∷ 16 ∷ 128 ∷ 76 ∷ 223 ∷ 79 ∷ 16 ∷ 131 ∷ 136 ∷ 188 ∷ 92 ∷ 247 ∷ 34 ∷ 216 ∷ 200 ∷ 72 ∷ 210 ∷ 199 ∷ 249 ∷ 243 ∷ 176 ∷ 1 ∷ []

abbrev local_signature : List ℕ
local_signature = 48 ∷ 68 ∷ 2 ∷ 32 ∷ 97 ∷ 98 ∷ 16 ∷ 178 ∷ 204 ∷ 77 ∷ 58 ∷ 251 ∷ 96 ∷ 16 ∷ 19 ∷ 195 ∷ 115 ∷ 187 ∷ 216 ∷ 170 ∷ 197 ∷ 79 ∷ 235 ∷ 217 ∷ 241 ∷ 84 ∷ 0 ∷ 55 ∷ 154 ∷ 140 ∷ 182 ∷ 92 ∷ 231 ∷ 222 ∷ 202 ∷ 96 ∷ 2 ∷ 32 ∷ 52 ∷ 35 ∷ 108 ∷ 1 ∷ 9 ∷ 145 ∷ 190 ∷ 183 ∷ 255 ∷ 119 ∷ 5 ∷ 16 ∷ 86 ∷ 26 ∷ 232 ∷ 220 ∷ 136 ∷ 91 ∷ 141 ∷ 56 ∷ 209 ∷ 148 ∷ 114 ∷ 72 ∷ 195 ∷ 143 ∷ 42 ∷ 224 ∷ 85 ∷ 100 ∷ 113 ∷ 66 ∷ 1 ∷ []

outside : map is_der (remote_signature ∷ local_signature ∷ []) ≡ true ∷ true ∷ []
outside = refl

-- a number: not negative, no needless 00 before it, and at least one byte
numbers : map is_shortest ((0 ∷ []) ∷ (0x7f ∷ []) ∷ (0 ∷ 0x80 ∷ []) ∷ (1 ∷ 0 ∷ []) ∷ (0x7f ∷ 0xff ∷ []) ∷ []) ≡ true ∷ true ∷ true ∷ true ∷ true ∷ []
numbers = refl

no_numbers : map is_shortest ([] ∷ (0x80 ∷ []) ∷ (0 ∷ 0x7f ∷ []) ∷ (0 ∷ 0 ∷ []) ∷ (0x80 ∷ 0 ∷ []) ∷ []) ≡ false ∷ false ∷ false ∷ false ∷ false ∷ []
no_numbers = refl

-- of r = 1 and s = 1, the shortest
abbrev ones : List ℕ
ones = 0x30 ∷ 6 ∷ 2 ∷ 1 ∷ 1 ∷ 2 ∷ 1 ∷ 1 ∷ 1 ∷ []

-- of numbers with 00 before this many bytes
abbrev large : ℕ → ℕ → List ℕ
large r s = 0x30 ∷ (r + s + 6) ∷ 2 ∷ (r + 1) ∷ 0 ∷ (replicate r 0x80 ++ 2 ∷ (s + 1) ∷ 0 ∷ (replicate s 0x80 ++ 1 ∷ []))

-- from 9 bytes to 73, whichever number has more
lengths : map is_der (ones ∷ large 32 32 ∷ large 33 31 ∷ []) ≡ true ∷ true ∷ true ∷ []
lengths = refl

other_lengths : map is_der ([] ∷ (0x30 ∷ []) ∷ (0x30 ∷ 5 ∷ 2 ∷ 0 ∷ 2 ∷ 1 ∷ 1 ∷ 1 ∷ []) ∷ large 33 32 ∷ large 32 33 ∷ []) ≡ false ∷ false ∷ false ∷ false ∷ false ∷ []
other_lengths = refl

-- ones with one byte changed: 31, a length that is one less or one more, another tag of a number, a length of a number, a negative number
one_changed : map is_der (
    (0x31 ∷ 6 ∷ 2 ∷ 1 ∷ 1 ∷ 2 ∷ 1 ∷ 1 ∷ 1 ∷ []) ∷ (0x30 ∷ 5 ∷ 2 ∷ 1 ∷ 1 ∷ 2 ∷ 1 ∷ 1 ∷ 1 ∷ []) ∷ (0x30 ∷ 7 ∷ 2 ∷ 1 ∷ 1 ∷ 2 ∷ 1 ∷ 1 ∷ 1 ∷ []) ∷
    (0x30 ∷ 6 ∷ 3 ∷ 1 ∷ 1 ∷ 2 ∷ 1 ∷ 1 ∷ 1 ∷ []) ∷ (0x30 ∷ 6 ∷ 2 ∷ 2 ∷ 1 ∷ 2 ∷ 1 ∷ 1 ∷ 1 ∷ []) ∷ (0x30 ∷ 6 ∷ 2 ∷ 1 ∷ 0x80 ∷ 2 ∷ 1 ∷ 1 ∷ 1 ∷ []) ∷
    (0x30 ∷ 6 ∷ 2 ∷ 1 ∷ 1 ∷ 3 ∷ 1 ∷ 1 ∷ 1 ∷ []) ∷ (0x30 ∷ 6 ∷ 2 ∷ 1 ∷ 1 ∷ 2 ∷ 2 ∷ 1 ∷ 1 ∷ []) ∷ (0x30 ∷ 6 ∷ 2 ∷ 1 ∷ 1 ∷ 2 ∷ 1 ∷ 0x80 ∷ 1 ∷ []) ∷ [])
    ≡ false ∷ false ∷ false ∷ false ∷ false ∷ false ∷ false ∷ false ∷ false ∷ []
one_changed = refl

-- without its hash type, with two, and with a byte before it
around : map is_der ((0x30 ∷ 6 ∷ 2 ∷ 1 ∷ 1 ∷ 2 ∷ 1 ∷ 1 ∷ []) ∷ (ones ++ 1 ∷ []) ∷ (0 ∷ ones) ∷ []) ≡ false ∷ false ∷ false ∷ []
around = refl

-- the hash type is not asked for by BIP 66, and has to be ALL
abbrev of_type : ℕ → List ℕ
of_type hash_type = 0x30 ∷ 6 ∷ 2 ∷ 1 ∷ 1 ∷ 2 ∷ 1 ∷ 1 ∷ hash_type ∷ []

hash_types : (map is_der (of_type 0 ∷ of_type 2 ∷ of_type 0x81 ∷ []) ≡ true ∷ true ∷ true ∷ []) × (map is_sighash_all (of_type 1 ∷ of_type 0 ∷ of_type 2 ∷ of_type 3 ∷ of_type 0x81 ∷ [] ∷ []) ≡ true ∷ false ∷ false ∷ false ∷ false ∷ false ∷ [])
hash_types = (refl, refl)

-- ---- the place

abbrev at : ℕ → ℕ → SignaturePlace
at input item = record { input = input; item = item }

abbrev lacking : Key → ℕ → ℕ → MissingSignature
lacking key input item = record { input = input; item = item; key = key; digest = [] }

abbrev row : ℕ → ℕ → ℕ → ℕ → SignedRow
row input item start count = record { input = input; item = item; bytes_at = start; bytes_length = count }

-- ones twice, and of another hash type
abbrev given : List ℕ
given = ones ++ ones ++ of_type 2

one : (key : Key) → signature_for given (lacking key 1 2) (row 1 2 9 9) ≡ Ok ones
one key = refl

-- another input, another item, bytes that are not there, fewer bytes, another hash type; of two faults the first in this order
refused : (key : Key) → map (signature_for given (lacking key 1 2)) (row 0 2 0 9 ∷ row 1 1 0 9 ∷ row 1 2 19 9 ∷ row 1 2 0 8 ∷ row 1 2 18 9 ∷ row 1 1 19 9 ∷ row 1 2 18 8 ∷ [])
    ≡ Err (NoSignature (at 1 2)) ∷ Err (NoSignature (at 1 2)) ∷ Err (SignatureOutOfRange (at 1 2)) ∷ Err (NotDer (at 1 2)) ∷ Err (NotSighashAll (at 1 2)) ∷ Err (NoSignature (at 1 2)) ∷ Err (NotDer (at 1 2)) ∷ []
refused key = refl

-- a row for each, in their order
all : (key : Key) → (signatures_of given (lacking key 0 1 ∷ lacking key 0 0 ∷ []) (row 0 1 0 9 ∷ row 0 0 9 9 ∷ []) ≡ Ok (ones ∷ ones ∷ [])) × (signatures_of given [] [] ≡ Ok [])
all key = (refl, refl)

-- one more, one less, turned round, twice the same; of two rows that are refused the first
not_all : (key : Key) → map (signatures_of given (lacking key 0 1 ∷ lacking key 0 0 ∷ [])) (
    (row 0 1 0 9 ∷ row 0 0 9 9 ∷ row 5 6 0 9 ∷ []) ∷ (row 0 1 0 9 ∷ []) ∷ (row 0 0 0 9 ∷ row 0 1 9 9 ∷ []) ∷ (row 0 1 0 9 ∷ row 0 1 9 9 ∷ []) ∷ (row 0 1 0 8 ∷ row 0 0 18 9 ∷ []) ∷ [] ∷ [])
    ≡ Err (NotAsked (at 5 6)) ∷ Err (NoSignature (at 0 0)) ∷ Err (NoSignature (at 0 1)) ∷ Err (NoSignature (at 0 0)) ∷ Err (NotDer (at 0 1)) ∷ Err (NoSignature (at 0 1)) ∷ []
not_all key = refl

-- ---- the witnesses

abbrev input : List (List ℕ) → TxIn
input witness = record { outpoint = record { txid = []; index = 0 }; sequence = 7; witness = witness }

-- each at its item of its input, and nothing else is changed
put_in : (key : Key) → with_signatures (lacking key 0 1 ∷ lacking key 1 0 ∷ []) ((7 ∷ []) ∷ (8 ∷ []) ∷ []) (input ([] ∷ [] ∷ (5 ∷ []) ∷ []) ∷ input ([] ∷ (6 ∷ []) ∷ []) ∷ input ([] ∷ []) ∷ [])
    ≡ input ([] ∷ (7 ∷ []) ∷ (5 ∷ []) ∷ []) ∷ input ((8 ∷ []) ∷ (6 ∷ []) ∷ []) ∷ input ([] ∷ []) ∷ []
put_in key = refl

-- ---- what the call leaves

abbrev made : SignedParts
made = record { bytes = 7 ∷ 8 ∷ []; txid = 1 ∷ 2 ∷ [] }

abbrev answer : FinishAnswer
answer = record { bytes = 2; number = 0; row = 0; about = 0; txid = 1 ∷ 2 ∷ []; shown_txid = 2 ∷ 1 ∷ [] }

-- room of just the length, and one byte less
fits : (finish_left_by (Ok made) (0 ∷ 0 ∷ []) ≡ record { status = 0; answer = answer; bytes = 7 ∷ 8 ∷ [] })
    × (finish_left_by (Ok made) (5 ∷ []) ≡ record { status = 2; answer = answer; bytes = 5 ∷ [] })
fits = (refl, refl)

-- ---- refusals

abbrev refused_as : ℕ → ℕ → ℕ → FinishAnswer
refused_as number row about = record { bytes = 0; number = number; row = row; about = about; txid = replicate 32 0; shown_txid = replicate 32 0 }

-- of a signature with its input and its item, of an output or a claim with its row, and of neither
told : map finish_refused (refused_whole (NotDer (at 3 4)) ∷ record { why = OutOfRange; about = OfOutput 5 } ∷ record { why = NoSuchSlot 6; about = OfClaim 7 } ∷ refused_whole OutOfRange ∷ [])
    ≡ refused_as 4 3 3 ∷ refused_as 0 5 1 ∷ refused_as 6 7 2 ∷ refused_as 0 0 0 ∷ []
told = refl

left : finish_left_by (Err (record { why = NoSuchSlot 6; about = OfClaim 7 })) (5 ∷ []) ≡ record { status = 1794; answer = refused_as 6 7 2; bytes = 5 ∷ [] }
left = refl

-- the answer of a spend tells the same
spend_told : spend_refused (record { why = NoSuchSlot 6; about = OfClaim 7 })
    ≡ record { bytes = 0; signatures = 0; number = 6; row = 7; weight = 0; fee_sat = 0; about = 2; txid = replicate 32 0; shown_txid = replicate 32 0 }
spend_told = refl

statuses : map status_of (NoSignature (at 3 4) ∷ SignatureOutOfRange (at 3 4) ∷ NotDer (at 3 4) ∷ NotSighashAll (at 3 4) ∷ NotAsked (at 3 4) ∷ []) ≡ 2305 ∷ 2306 ∷ 2307 ∷ 2308 ∷ 2309 ∷ []
statuses = refl

places : map (λ e. (refused_whole e).about) (NoSignature (at 3 4) ∷ SignatureOutOfRange (at 5 6) ∷ NotDer (at 7 8) ∷ NotSighashAll (at 9 10) ∷ NotAsked (at 11 12) ∷ [])
    ≡ OfSignature 3 ∷ OfSignature 5 ∷ OfSignature 7 ∷ OfSignature 9 ∷ OfSignature 11 ∷ []
places = refl

items : map number_of (NoSignature (at 3 4) ∷ SignatureOutOfRange (at 5 6) ∷ NotDer (at 7 8) ∷ NotSighashAll (at 9 10) ∷ NotAsked (at 11 12) ∷ []) ≡ 4 ∷ 6 ∷ 8 ∷ 10 ∷ 12 ∷ []
items = refl

other_items : map number_of (NoSignature (at 4 40) ∷ SignatureOutOfRange (at 6 60) ∷ NotDer (at 8 80) ∷ NotSighashAll (at 10 100) ∷ NotAsked (at 12 120) ∷ []) ≡ 40 ∷ 60 ∷ 80 ∷ 100 ∷ 120 ∷ []
other_items = refl

kinds : (map kind_of (Whole ∷ OfOutput 5 ∷ OfClaim 6 ∷ OfSignature 7 ∷ []) ≡ 0 ∷ 1 ∷ 2 ∷ 3 ∷ []) × (map row_of (Whole ∷ OfOutput 5 ∷ OfClaim 6 ∷ OfSignature 7 ∷ []) ≡ 0 ∷ 5 ∷ 6 ∷ 7 ∷ [])
kinds = (refl, refl)
