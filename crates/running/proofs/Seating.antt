-- What threads are equipped with: seats at a board and at a desk that were just made, and channels.
use Rattle.std.proofs.Common.{◌≡◌, ℕ, zero, suc, ◌+◌, true, List, [], ◌∷◌, ◌++◌, length, map, All, Option, Some, None, IfSome, refl, sym, ap, ◌∙◌, subst, arith, add-one}
use Rattle.std.specs.List.{range_with_len, last_or}
use Rattle.std.proofs.lemmas.List.{map-append, length-map}
use Rattle.std.proofs.lemmas.List.Elements.{All-weaker}
use Rattle.board.specs.declared.board.Board.{Board}
use Rattle.board.specs.declared.board.Seat.{Seat}
use Rattle.board.specs.Seats.{IsSeatOf, IsNewSeatOf, AreSeats}
use Rattle.book.specs.Books.{replay}
use Rattle.desk.specs.Histories.{History}
use Rattle.desk.specs.declared.desk.Desk.{Desk}
use Rattle.desk.specs.declared.desk.Seat.{Seat as DeskSeat}
use Rattle.desk.specs.Seats.{AreSeats as AreDeskSeats, EndsWithLast, number_in, is_last_in}
use Rattle.running.specs.declared.shared.SideState.{SideState}
use Rattle.running.specs.declared.channel_thread.ChannelThread.{ChannelThread}
use Rattle.running.specs.Threads.{payments_in, PaysItself, IsOwnSeat}

pub board_seats_of : (board : Board) (count : ℕ) (board_seats : List Seat) → AreSeats board count board_seats → All (IsSeatOf board) board_seats
board_seats_of board count board_seats are = All-weaker (IsNewSeatOf board) (IsSeatOf board) (λ s is. is.seat_of) board_seats are.each

-- the side pays to the keys of the book with which this seat's desk was made, too
pub pays_too : (side : SideState) (closing_seat seat : DeskSeat) → IsOwnSeat side closing_seat seat → PaysItself side closing_seat → PaysItself side seat
pays_too side closing_seat seat own pays = pays ∙ ap (λ (h : History). payments_in (replay h)) (sym own.made_with)

-- ---- the channels of threads

range_more : (a n : ℕ) → range_with_len a (suc n) ≡ range_with_len a n ++ (a + n) ∷ []
range_more a zero =
    let same : a ≡ a + 0 = omega arith in
    ap (λ (x : ℕ). x ∷ []) same
range_more a (suc n) =
    let same : a + 1 + n ≡ a + suc n = omega arith in
    ap (λ (l : List ℕ). a ∷ l) (range_more (a + 1) n ∙ ap (λ (x : ℕ). range_with_len (a + 1) n ++ x ∷ []) same)

pub channels_more : (channel_threads more : List ChannelThread) (n : ℕ) (l : ChannelThread) → more ≡ channel_threads ++ l ∷ [] → map (λ l. l.channel) channel_threads ≡ range_with_len 0 n → l.channel ≡ n → map (λ l. l.channel) more ≡ range_with_len 0 (n + 1)
channels_more channel_threads more n l pushed before is =
    let place : n ≡ 0 + n = omega arith in
    ap (λ (ls : List ChannelThread). map (λ l. l.channel) ls) pushed ∙ map-append (λ (l : ChannelThread). l.channel) channel_threads (l ∷ []) ∙ ap (λ (cs : List ℕ). cs ++ l.channel ∷ []) before
    ∙ ap (λ (c : ℕ). range_with_len 0 n ++ c ∷ []) (is ∙ place) ∙ sym (range_more 0 n) ∙ ap (λ (k : ℕ). range_with_len 0 k) (sym (add-one n))

-- ---- the last of a desk's seats

range_last : (first : ℕ) (xs : List ℕ) (x count : ℕ) → xs ++ x ∷ [] ≡ range_with_len first count → x ≡ first + length xs
range_last first [] x zero e = let no : ⊥ = cc in absurd no
range_last first [] x (suc count) e =
    let is : x ≡ first = cc in
    omega (arith, is)
range_last first (y ∷ ys) x zero e = let no : ⊥ = cc in absurd no
range_last first (y ∷ ys) x (suc count) e =
    let rest : ys ++ x ∷ [] ≡ range_with_len (first + 1) count = cc in
    let is = range_last (first + 1) ys x count rest in
    omega (arith, is)

pub last_number : (desk : Desk) (opening : History) (first count : ℕ) (seats left : List DeskSeat) (s : DeskSeat) → seats ≡ left ++ s ∷ [] → AreDeskSeats desk opening first count seats → number_in s ≡ first + length left
last_number desk opening first count seats left s popped are =
    let numbers : map number_in left ++ number_in s ∷ [] ≡ range_with_len first count =
    sym (map-append number_in left (s ∷ [])) ∙ ap (λ (l : List DeskSeat). map number_in l) (sym popped) ∙ are.numbers in
    range_last first (map number_in left) (number_in s) count numbers ∙ ap (λ (k : ℕ). first + k) (length-map left number_in)

last_pushed : (o : Option DeskSeat) (left : List DeskSeat) (s : DeskSeat) → last_or o (left ++ s ∷ []) ≡ Some s
last_pushed o [] s = refl
last_pushed o (x ∷ left) s = last_pushed (Some x) left s

pub last_is : (seats left : List DeskSeat) (s : DeskSeat) → seats ≡ left ++ s ∷ [] → EndsWithLast seats → is_last_in s ≡ true
last_is seats left s popped ends =
    subst (λ (o : Option DeskSeat). IfSome o (λ t. is_last_in t ≡ true)) (ap (last_or None) popped ∙ last_pushed None left s) ends
