-- The least and the greatest feerate that are taken.
use Rattle.std.specs.Prelude.{ℕ, ◌+◌, Option, Some, None, codes}
use Rattle.serde_json.specs.Data.{Data}
use Rattle.serde_json.specs.Find.{get}
use Rattle.claim.specs.Opcodes.{◌>>=◌}
use Rattle.texts.specs.Values.{object_of, u32_of}

-- how many members have a name
abbrev pub count_of : Option Data → ℕ
count_of None = 0
count_of (Some d) = 1

-- a limit, or what holds without it
abbrev pub limit_or : ℕ → Option Data → Option ℕ
limit_or n None = Some n
limit_or n (Some limit) = u32_of limit

-- an object of four members, and of these limits beside them
abbrev pub form_of : Data → Option Data
form_of d = object_of (4 + count_of (get (codes "least_feerate_per_kw") d) + count_of (get (codes "most_feerate_per_kw") d)) d

-- without a limit of its own 253 for 1,000 units of weight: a satoshi for a virtual byte, rounded up; and 250,000, so 1,000 satoshis
abbrev pub least_feerate_of : Data → Option ℕ
least_feerate_of form = limit_or 253 (get (codes "least_feerate_per_kw") form)

abbrev pub most_feerate_of : Data → Option ℕ
most_feerate_of form = limit_or 250000 (get (codes "most_feerate_per_kw") form)
