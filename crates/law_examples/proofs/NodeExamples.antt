-- The numbers of a desk's refusals, which forks count for a follower, and how many tickets a seat at the board draws.
use Rattle.std.proofs.Common.{◌≡◌, [], ◌∷◌, map, length, refl, arith}
use Rattle.board.specs.declared.board.Board.{Board}
use Rattle.board.specs.declared.board.Seat.{Seat}
use Rattle.board.specs.Seats.{known, IsSeatOf}
use Rattle.desk.specs.declared.desk.DeskError.TheVariants.{NoMemory, SeatsExhausted}
use Rattle.desk.specs.Refusals.{desk_error_number}
use Rattle.node.specs.declared.hands.Hands.{Hands}
use Rattle.node.specs.Forks.{least_since}
use Rattle.node.specs.Work.{IsSpent}

-- 0 says that the same call may be made again
refusals : map desk_error_number (NoMemory ∷ SeatsExhausted ∷ []) ≡ 0 ∷ 1 ∷ []
refusals = refl

-- a fork counts for a follower that read up to a height in a round, where it is of this round or of a later one, and is below the height. Three reorganisations, down to the heights 5, 9 and 7: the rounds 0, 1
-- and 2 are before them, and round 3 is after all
forks : (map (λ round. least_since round 12 (5 ∷ 9 ∷ 7 ∷ [])) (0 ∷ 1 ∷ 2 ∷ 3 ∷ 4 ∷ []) ≡ 5 ∷ 7 ∷ 7 ∷ 12 ∷ 12 ∷ [])
    × (map (λ round. least_since round 8 (5 ∷ 9 ∷ 7 ∷ [])) (0 ∷ 1 ∷ 2 ∷ 3 ∷ []) ≡ 5 ∷ 7 ∷ 7 ∷ 8 ∷ [])
    × (map (λ round. least_since round 6 (5 ∷ 9 ∷ 7 ∷ [])) (0 ∷ 1 ∷ 2 ∷ 3 ∷ []) ≡ 5 ∷ 6 ∷ 6 ∷ 6 ∷ [])
    × (map (λ round. least_since round 12 (9 ∷ 5 ∷ 7 ∷ [])) (0 ∷ 1 ∷ 2 ∷ 3 ∷ []) ≡ 5 ∷ 5 ∷ 7 ∷ 12 ∷ [])
forks = (refl, refl, refl, refl)

-- at a fork's own height, and without a fork
at_forks : (map (λ height. least_since 0 height (5 ∷ [])) (4 ∷ 5 ∷ 6 ∷ []) ≡ 4 ∷ 5 ∷ 5 ∷ []) × (map (λ round. least_since round 6 []) (0 ∷ 1 ∷ []) ≡ 6 ∷ 6 ∷ [])
at_forks = (refl, refl)

-- a seat has drawn all of its tickets after 2^32 of them, and no more are drawn
all_drawn : (before after : Hands) → IsSpent before after → length (known before.place).drawn ≡ 4294967296
all_drawn before after spent = spent.many

one_more : (board : Board) (seat : Seat) → length (known seat).drawn ≡ 4294967297 → IsSeatOf board seat → ⊥
one_more board seat e s =
    let l = s.few in
    let c = s.counted in
    omega (arith, e, c, l)
