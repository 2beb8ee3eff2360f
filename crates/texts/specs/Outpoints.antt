-- Outpoints in JSON.
use Rattle.std.specs.Prelude.{ℕ, ◌+◌, ◌-◌, ◌*◌, ◌^◌, ◌==◌, ◌||◌, not, nat_lt, if◌then◌else◌, List, [], ◌∷◌, length, take, drop, slice_index, Option, Some, None}
use Rattle.std.specs.Char.{is_ascii_digit}
use Rattle.std.specs.Result.{result_ok}
use Rattle.hex.specs.Hex.{decode_sized}
use Rattle.serde_json.specs.Data.{Data}
use Rattle.serde_json.specs.Find.{as_str}
use Rattle.tx.specs.declared.input.OutPoint.{OutPoint}
use Rattle.claim.specs.Opcodes.{◌>>=◌}
use Rattle.texts.specs.Values.{below}

-- reads decimal digits that continue a number n; the result is below 2^32
unfoldable pub digits_from : ℕ → List ℕ → Option ℕ
digits_from n [] = Some n
digits_from n (c ∷ cs) = if is_ascii_digit c then (below (2 ^ 32) (n * 10 + (c - 48)) >>= (λ m. digits_from m cs)) else None

-- the index of an output: at least one digit, and no leading zero
abbrev pub index_in : List ℕ → Option ℕ
index_in [] = None
index_in (c ∷ []) = digits_from 0 (c ∷ [])
index_in (c ∷ d ∷ rest) = if c == 48 then None else digits_from 0 (c ∷ d ∷ rest)

-- the id in hexadecimal, a colon, and the index
unfoldable pub outpoint_in : List ℕ → Option OutPoint
outpoint_in text =
    if nat_lt (length text) 65 || not (slice_index text 64 == 58) then None
    else (result_ok (decode_sized (take 64 text) 32) >>= (λ txid. index_in (drop 65 text) >>= (λ index. Some (record { txid = txid; index = index }))))

abbrev pub outpoint_of : Data → Option OutPoint
outpoint_of d = as_str d >>= outpoint_in
