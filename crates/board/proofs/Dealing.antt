-- The first seat hands out its shares.
use Rattle.std.proofs.Common.{◌≡◌, ℕ, ◌+◌, ◌-◌, List, [], ◌∷◌, ◌++◌, length, sym, ap, ◌∙◌, All, arith, length-append}
use Rattle.std.proofs.lemmas.List.Elements.{All-push}
use Rattle.std.proofs.lemmas.List.Sums.{sum_by_push}
use Rattle.atomic_table.specs.declared.shared.Seat.{Seat as TableSeat}
use Rattle.atomic_table.specs.Table.{Me}
use Rattle.board.specs.declared.rule.SeatView.{SeatView}
use Rattle.board.specs.declared.board.Board.{Board}
use Rattle.board.specs.declared.board.Seat.{Seat}
use Rattle.board.specs.Rule.{knows, less_one, one_share}
use Rattle.board.specs.Seats.{IsNewSeatOf, IsDealer, AreSeats, known, shares_of}

abbrev Table : Type 0
Table = TableSeat (Unit {0}) SeatView

pub gave : (board : Board) (d d' : Table) (n m : ℕ) → IsDealer board d n → m + 1 ≡ n → d'.table_id ≡ d.table_id → d'.me ≡ (less_one d.me.0, d.me.1) → IsDealer board d' m
gave board d d' n m old less table me =
    let is : d'.me.0 ≡ less_one d.me.0 = ap (λ (x : Me (Unit {0}) SeatView). x.0) me in
    let undone : less_one d.me.0 ≡ knows (d.me.0.shares - 1) [] [] [] = ap less_one old.view in
    let all : d'.me.0 ≡ knows (d.me.0.shares - 1) [] [] [] = is ∙ undone in
    let shares : d'.me.0.shares ≡ d.me.0.shares - 1 = ap (λ (v : SeatView). v.shares) all in record {
      table = table ∙ old.table;
      words = old.words;
      no_slots = old.no_slots;
      empty = ap (λ (x : Me (Unit {0}) SeatView). x.1) me ∙ old.empty;
      view = all ∙ ap (λ k. knows k [] [] []) (sym shares);
      enough = omega (arith, old.enough);
    }

pub got : (board : Board) (d r : Table) (n : ℕ) → IsDealer board d n → r.table_id ≡ d.table_id → r.me ≡ (one_share, []) → IsDealer board r 1
got board d r n old table me =
    let is : r.me.0 ≡ one_share = ap (λ (x : Me (Unit {0}) SeatView). x.0) me in record {
      table = table ∙ old.table;
      words = old.words;
      no_slots = old.no_slots;
      empty = ap (λ (x : Me (Unit {0}) SeatView). x.1) me;
      view = is ∙ ap (λ (v : SeatView). knows v.shares [] [] []) (sym is);
      enough = (let s : r.me.0.shares ≡ 1 = ap (λ (v : SeatView). v.shares) is in omega arith);
    }

pub shares_more : (d : Table) (list : List Seat) (s : Seat) → s.place ≡ d → shares_of (list ++ s ∷ []) ≡ shares_of list + d.me.0.shares
shares_more d list s is = sum_by_push (λ x. (known x).shares) list s ∙ ap (λ (x : Table). shares_of list + x.me.0.shares) is

pub seated : (board : Board) (d : Table) (list : List Seat) (s : Seat) → IsDealer board d 1 → s.place ≡ d → s.draws ≡ 0 → All (IsNewSeatOf board) list → AreSeats board (length list + 1) (list ++ s ∷ [])
seated board d list s dealer is none each = record {
  each = All-push (IsNewSeatOf board) list s each (record {
    seat_of = record {
      table = ap (λ (x : Table). x.table_id) is ∙ dealer.table;
      words = dealer.words;
      no_slots = dealer.no_slots;
      empty = ap (λ (x : Table). x.me.1) is ∙ dealer.empty;
      share = (let e : s.place.me.0.shares ≡ d.me.0.shares = ap (λ (x : Table). x.me.0.shares) is in omega (arith, dealer.enough));
      counted = ap (λ (x : Table). length x.me.0.drawn) is ∙ ap (λ (v : SeatView). length v.drawn) dealer.view ∙ sym none;
      few = omega arith;
    };
    idle = ap (λ (x : Table). x.me.0) is ∙ dealer.view ∙ ap (λ k. knows k [] [] []) (sym (ap (λ (x : Table). x.me.0.shares) is));
  });
  many = length-append list (s ∷ []);
}
