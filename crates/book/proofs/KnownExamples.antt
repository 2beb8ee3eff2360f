-- What is known, part by part: the preimages, the numbers, and the numbers of the refusals.
use Rattle.std.proofs.Common.{◌≡◌, ℕ, ◌*◌, true, false, List, [], ◌∷◌, Some, None, refl}
use Rattle.updates.specs.declared.changes.Update.TheVariants.{Fulfil as Fulfilling, Fail as Failing}
use Rattle.updates.specs.declared.changes.OwnUpdate.TheVariants.{Fulfil, Fail}
use Rattle.updates.specs.declared.messages.PeerStep.TheVariants.{Update as Updated}
use Rattle.book.specs.declared.calls.Step.TheVariants.{Own, Peer}
use Rattle.book.specs.declared.calls.Call.{Call}
use Rattle.book.specs.declared.calls.Call.TheVariants.{Step as Stepping, Sign}
use Rattle.book.specs.declared.calls.Entry.{Entry}
use Rattle.book.specs.declared.errors.KnowError.TheVariants.{NoMemory, NoSuchChannel}
use Rattle.book.specs.Refusals.{know_error_number}
use Rattle.book.specs.Knowing.{below, flag_at, preimages_in}

-- a seat's call
abbrev by : ℕ → Call → Entry
by seat call = record { seat = seat; call = call }

-- fulfils of two channels, made and received, one of them twice; a failure, and a call that is not a step
abbrev history : List Entry
history =
    by 0 (Stepping 1 (Own (Fulfil 0 (5 ∷ []))))
    ∷ by 1 (Stepping 0 (Own (Fulfil 0 (6 ∷ []))))
    ∷ by 0 (Stepping 1 (Peer (Updated (Fulfilling 2 (7 ∷ [])))))
    ∷ by 0 (Stepping 1 (Own (Fail 3)))
    ∷ by 2 (Stepping 1 (Peer (Updated (Failing 4))))
    ∷ by 0 (Sign 1)
    ∷ by 0 (Stepping 1 (Own (Fulfil 8 (5 ∷ []))))
    ∷ []

preimages : (preimages_in 1 history ≡ (5 ∷ []) ∷ (7 ∷ []) ∷ (5 ∷ []) ∷ []) × (preimages_in 0 history ≡ (6 ∷ []) ∷ []) × (preimages_in 2 history ≡ [])
preimages = (refl, refl, refl)

-- values at some numbers, and at none
numbers : (below (λ n. Some (2 * n)) 3 ≡ 0 ∷ 2 ∷ 4 ∷ []) × (below (λ n. Some n) 0 ≡ []) × (below {A = ℕ} (λ n. None) 2 ≡ [])
numbers = (refl, refl, refl)

flags : (flag_at (true ∷ false ∷ []) 0 ≡ true) × (flag_at (true ∷ false ∷ []) 1 ≡ false) × (flag_at (true ∷ false ∷ []) 2 ≡ false)
flags = (refl, refl, refl)

refusals : (know_error_number NoMemory ≡ 0) × (know_error_number NoSuchChannel ≡ 9)
refusals = (refl, refl)
