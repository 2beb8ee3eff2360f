-- The messages on their way to a side, after an event changed its lines.
use Rattle.std.proofs.Common.{◌≡◌, ℕ, zero, suc, List, [], ◌∷◌, ◌++◌, map, drop, Some, refl, ap}
use Rattle.std.specs.Prelude.{slice_get}
use Rattle.std.proofs.lemmas.Option.{none-some, same_Some}
use Rattle.channel.specs.declared.messages.Message.{Message}
use Rattle.watch.specs.Watching.{Seen}
use Rattle.book.specs.Books.{at_index}
use Rattle.world.specs.Worlds.{Line, Node, inboxes, sent_to, received_by}
use Rattle.world.specs.Looking.{Reading, with_seen, with_reading, seen_back_to, back_to}

-- ---- messages go and come

map_at : {A B : Type 0} (f : A → B) (g : A → A) (h : B → B) → ((x : A) → f (g x) ≡ h (f x)) → (c : ℕ) (xs : List A) → map f (at_index g c xs) ≡ at_index h c (map f xs)
map_at f g h same c [] = refl
map_at f g h same zero (x ∷ xs) = ap (λ y. y ∷ map f xs) (same x)
map_at f g h same (suc c) (x ∷ xs) = ap (λ ys. f x ∷ ys) (map_at f g h same c xs)

pub inboxes_sent : (c : ℕ) (messages : List Message) (n : Node) → inboxes (sent_to c messages n) ≡ at_index (λ q. q ++ messages) c (inboxes n)
inboxes_sent c messages n = map_at (λ (l : Line). l.inbox) (λ line. record line { inbox = line.inbox ++ messages }) (λ q. q ++ messages) (λ line. refl) c n.lines

pub inboxes_received : (c : ℕ) (n : Node) → inboxes (received_by c n) ≡ at_index (drop 1) c (inboxes n)
inboxes_received c n = map_at (λ (l : Line). l.inbox) (λ line. record line { inbox = drop 1 line.inbox }) (drop 1) (λ line. refl) c n.lines

pub got_of_map : {A B : Type 0} (f : A → B) (c : ℕ) (xs : List A) (x : A) → slice_get xs c ≡ Some x → slice_get (map f xs) c ≡ Some (f x)
got_of_map f c [] x found = absurd (none-some x found)
got_of_map f zero (y ∷ ys) x found = ap (λ z. Some (f z)) (same_Some y x found)
got_of_map f (suc c) (y ∷ ys) x found = got_of_map f c ys x found

-- ---- reading and going back do not change them

kept_with_seen : (seen : List Seen) (lines : List Line) → map (λ l. l.inbox) (with_seen seen lines) ≡ map (λ l. l.inbox) lines
kept_with_seen [] lines = refl
kept_with_seen (s ∷ seen) [] = refl
kept_with_seen (s ∷ seen) (line ∷ lines) = ap (λ qs. line.inbox ∷ qs) (kept_with_seen seen lines)

pub inboxes_read : (height : ℕ) (r : Reading) (n : Node) → inboxes (with_reading height r n) ≡ inboxes n
inboxes_read height r n = kept_with_seen r.seen n.lines

kept_back_to : (height : ℕ) (lines : List Line) → map (λ l. l.inbox) (map (seen_back_to height) lines) ≡ map (λ l. l.inbox) lines
kept_back_to height [] = refl
kept_back_to height (line ∷ lines) = ap (λ qs. line.inbox ∷ qs) (kept_back_to height lines)

pub inboxes_back : (height : ℕ) (n : Node) → inboxes (back_to height n) ≡ inboxes n
inboxes_back height n = kept_back_to height n.lines
