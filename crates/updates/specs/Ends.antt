-- The first update that removes an HTLC. It determines what the updates up to any position make of the
-- HTLC.
use Rattle.std.specs.Prelude.{ℕ, suc, nat_lt, if◌then◌else◌, List, [], ◌∷◌}
use Rattle.updates.specs.declared.changes.Update.{Update}
use Rattle.updates.specs.declared.fates.Fate.{Fate}
use Rattle.updates.specs.declared.fates.Fate.TheVariants.{Live, Fulfilled, Failed}
use Rattle.updates.specs.declared.fates.End.{End}
use Rattle.updates.specs.declared.fates.End.TheVariants.{Never, At}
use Rattle.updates.specs.Updates.{fate_by}

abbrev pub later : End → End
later Never = Never
later (At p f) = At (suc p) f

-- the end of an HTLC, by what the first update makes of it and by its end among the rest
abbrev pub end_from : Fate → End → End
end_from Live e = later e
end_from Fulfilled e = At 0 Fulfilled
end_from Failed e = At 0 Failed

-- the end of the HTLC with this id
abbrev pub end_of : ℕ → List Update → End
end_of id [] = Never
end_of id (u ∷ us) = end_from (fate_by id u) (end_of id us)

-- what the first k updates make of it
abbrev pub within : ℕ → End → Fate
within k Never = Live
within k (At p f) = if nat_lt p k then f else Live

-- the end among the first k updates
abbrev pub end_within : ℕ → End → End
end_within k Never = Never
end_within k (At p f) = if nat_lt p k then At p f else Never

-- the end after one more update, the n-th
abbrev pub end_after : ℕ → End → Fate → End
end_after n (At p f) g = At p f
end_after n Never Live = Never
end_after n Never Fulfilled = At n Fulfilled
end_after n Never Failed = At n Failed
