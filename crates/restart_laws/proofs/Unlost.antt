-- A side that is put back, of either side: what honest peers reach is closed under their steps, and the two sides may be turned round.
use Rattle.std.proofs.Common.{ℕ, List, sym}
use Rattle.terms.specs.declared.sides.Side.{Side}
use Rattle.terms.specs.declared.sides.Side.TheVariants.{A, B}
use Rattle.terms.specs.declared.agreement.Terms.{Terms}
use Rattle.channel.specs.States.{Signing}
use Rattle.channel.specs.Connections.{Connection, IsReachable, a_moves, b_moves, is_cut_off, a_restarts, b_restarts, AgreesOver, PeersStillAgree, BehindIsTold}
use Rattle.restart_laws.specs.Histories.{LeadsTo, stays, moves_on, is_cut_later, restarts, peer_restarts, put_back_to, GoesOn, PutBackGoesOn, PutBackIsAnswered}
use Rattle.restart_laws.proofs.Phases.{phase_turned, phase_of, lived_of}
use Rattle.restart_laws.proofs.Lost.{IsClosed, Goes, none_yet, a_goes, b_goes, cut_goes, a_again, b_again, without_loss, answered}

abbrev turned : Connection → Connection
turned w = record { a = w.b; b = w.a; to_a = w.to_b; to_b = w.to_a }

agrees_turned : (tokens_of : Signing) (w : Connection) → AgreesOver tokens_of w → AgreesOver tokens_of (turned w)
agrees_turned tokens_of w g = record {
  same_terms = sym g.same_terms;
  a_takes = g.b_takes;
  b_takes = g.a_takes;
  a_accepted = g.b_accepted;
  b_accepted = g.a_accepted;
  a_sound = g.b_sound;
  b_sound = g.a_sound;
}

closed_a : PeersStillAgree → BehindIsTold → (tokens_of : Signing) (terms : Terms) (seed_a seed_b : List ℕ) → IsClosed tokens_of (IsReachable tokens_of terms seed_a seed_b)
closed_a agree told tokens_of terms seed_a seed_b = record {
  by_a = λ w me sent rest r m. a_moves r m;
  by_b = λ w me sent rest r m. b_moves r m;
  by_cut = λ w r. is_cut_off r;
  again_a = λ w s r l since. a_restarts s r l since;
  again_b = λ w s r l since. b_restarts s r l since;
  agrees = λ w r. agree tokens_of terms seed_a seed_b w r;
  told = λ w old r e. (told tokens_of terms seed_a seed_b w old r).0 e;
  b_lived = λ w r. (lived_of tokens_of terms seed_a seed_b w r).1;
  phase = λ w r. phase_of tokens_of terms seed_a seed_b w r;
}

closed_b : PeersStillAgree → BehindIsTold → (tokens_of : Signing) (terms : Terms) (seed_a seed_b : List ℕ) → IsClosed tokens_of (λ w. IsReachable tokens_of terms seed_a seed_b (turned w))
closed_b agree told tokens_of terms seed_a seed_b = record {
  by_a = λ w me sent rest r m. b_moves r m;
  by_b = λ w me sent rest r m. a_moves r m;
  by_cut = λ w r. is_cut_off r;
  again_a = λ w s r l since. b_restarts s r l since;
  again_b = λ w s r l since. a_restarts s r l since;
  agrees = λ w r. agrees_turned tokens_of (turned w) (agree tokens_of terms seed_a seed_b (turned w) r);
  told = λ w old r e. (told tokens_of terms seed_a seed_b (turned w) old r).1 e;
  b_lived = λ w r. (lived_of tokens_of terms seed_a seed_b (turned w) r).0;
  phase = λ w r. phase_turned w.b w.a w.to_b w.to_a (phase_of tokens_of terms seed_a seed_b (turned w) r);
}

goes_a : (tokens_of : Signing) (v w : Connection) → LeadsTo tokens_of A v w → Goes tokens_of v w
goes_a tokens_of v w stays = none_yet
goes_a tokens_of v w (moves_on {w = u} A l m) = a_goes (goes_a tokens_of v u l) m
goes_a tokens_of v w (moves_on {w = u} B l m) = b_goes (goes_a tokens_of v u l) m
goes_a tokens_of v w (is_cut_later {w = u} l) = cut_goes (goes_a tokens_of v u l)
goes_a tokens_of v w (restarts {w = u} s l lived since) = a_again s (goes_a tokens_of v u l) lived since
goes_a tokens_of v w (peer_restarts {w = u} s l lived since up) = b_again s (goes_a tokens_of v u l) lived since up

goes_b : (tokens_of : Signing) (v w : Connection) → LeadsTo tokens_of B v w → Goes tokens_of (turned v) (turned w)
goes_b tokens_of v w stays = none_yet
goes_b tokens_of v w (moves_on {w = u} A l m) = b_goes (goes_b tokens_of v u l) m
goes_b tokens_of v w (moves_on {w = u} B l m) = a_goes (goes_b tokens_of v u l) m
goes_b tokens_of v w (is_cut_later {w = u} l) = cut_goes (goes_b tokens_of v u l)
goes_b tokens_of v w (restarts {w = u} s l lived since) = a_again s (goes_b tokens_of v u l) lived since
goes_b tokens_of v w (peer_restarts {w = u} s l lived since up) = b_again s (goes_b tokens_of v u l) lived since up

-- what a history leads to, honest peers reach

reached_a : (tokens_of : Signing) (terms : Terms) (seed_a seed_b : List ℕ) (v w : Connection) → IsReachable tokens_of terms seed_a seed_b v → LeadsTo tokens_of A v w → IsReachable tokens_of terms seed_a seed_b w
reached_a tokens_of terms seed_a seed_b v w r stays = r
reached_a tokens_of terms seed_a seed_b v w r (moves_on {w = u} A l m) = a_moves (reached_a tokens_of terms seed_a seed_b v u r l) m
reached_a tokens_of terms seed_a seed_b v w r (moves_on {w = u} B l m) = b_moves (reached_a tokens_of terms seed_a seed_b v u r l) m
reached_a tokens_of terms seed_a seed_b v w r (is_cut_later {w = u} l) = is_cut_off (reached_a tokens_of terms seed_a seed_b v u r l)
reached_a tokens_of terms seed_a seed_b v w r (restarts {w = u} s l lived since) = a_restarts s (reached_a tokens_of terms seed_a seed_b v u r l) lived since
reached_a tokens_of terms seed_a seed_b v w r (peer_restarts {w = u} s l lived since up) = b_restarts s (reached_a tokens_of terms seed_a seed_b v u r l) lived since

reached_b : (tokens_of : Signing) (terms : Terms) (seed_a seed_b : List ℕ) (v w : Connection) → IsReachable tokens_of terms seed_a seed_b v → LeadsTo tokens_of B v w → IsReachable tokens_of terms seed_a seed_b w
reached_b tokens_of terms seed_a seed_b v w r stays = r
reached_b tokens_of terms seed_a seed_b v w r (moves_on {w = u} A l m) = a_moves (reached_b tokens_of terms seed_a seed_b v u r l) m
reached_b tokens_of terms seed_a seed_b v w r (moves_on {w = u} B l m) = b_moves (reached_b tokens_of terms seed_a seed_b v u r l) m
reached_b tokens_of terms seed_a seed_b v w r (is_cut_later {w = u} l) = is_cut_off (reached_b tokens_of terms seed_a seed_b v u r l)
reached_b tokens_of terms seed_a seed_b v w r (restarts {w = u} s l lived since) = b_restarts s (reached_b tokens_of terms seed_a seed_b v u r l) lived since
reached_b tokens_of terms seed_a seed_b v w r (peer_restarts {w = u} s l lived since up) = a_restarts s (reached_b tokens_of terms seed_a seed_b v u r l) lived since

reached : (tokens_of : Signing) (terms : Terms) (seed_a seed_b : List ℕ) (side : Side) (v w : Connection) → IsReachable tokens_of terms seed_a seed_b v → LeadsTo tokens_of side v w → IsReachable tokens_of terms seed_a seed_b w
reached tokens_of terms seed_a seed_b A v w r l = reached_a tokens_of terms seed_a seed_b v w r l
reached tokens_of terms seed_a seed_b B v w r l = reached_b tokens_of terms seed_a seed_b v w r l

goes_on : PeersStillAgree → (tokens_of : Signing) (terms : Terms) (seed_a seed_b : List ℕ) (c : Connection) → IsReachable tokens_of terms seed_a seed_b c → GoesOn tokens_of terms seed_a seed_b c
goes_on agree tokens_of terms seed_a seed_b c r = record { reached = r; agreed = λ side w l. agree tokens_of terms seed_a seed_b w (reached tokens_of terms seed_a seed_b side c w r l) }

pub put_back_goes_on : PeersStillAgree → BehindIsTold → PutBackGoesOn
put_back_goes_on agree told tokens_of terms seed_a seed_b A v w r l t =
    goes_on agree tokens_of terms seed_a seed_b (put_back_to A v w) (without_loss tokens_of (IsReachable tokens_of terms seed_a seed_b) (closed_a agree told tokens_of terms seed_a seed_b) v w r (goes_a tokens_of v w l) t)
put_back_goes_on agree told tokens_of terms seed_a seed_b B v w r l t =
    goes_on agree tokens_of terms seed_a seed_b (put_back_to B v w)
    (without_loss tokens_of (λ x. IsReachable tokens_of terms seed_a seed_b (turned x)) (closed_b agree told tokens_of terms seed_a seed_b) (turned v) (turned w) r (goes_b tokens_of v w l) t)

pub put_back_is_answered : PeersStillAgree → BehindIsTold → PutBackIsAnswered
put_back_is_answered agree told tokens_of terms seed_a seed_b A v w r l =
    answered tokens_of (IsReachable tokens_of terms seed_a seed_b) (closed_a agree told tokens_of terms seed_a seed_b) v w r (goes_a tokens_of v w l)
put_back_is_answered agree told tokens_of terms seed_a seed_b B v w r l =
    answered tokens_of (λ x. IsReachable tokens_of terms seed_a seed_b (turned x)) (closed_b agree told tokens_of terms seed_a seed_b) (turned v) (turned w) r (goes_b tokens_of v w l)
