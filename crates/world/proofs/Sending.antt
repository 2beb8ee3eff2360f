-- What messages do to a side that sends or receives them.
use Rattle.std.proofs.Common.{◌≡◌, ℕ, zero, suc, ◌<◌, ◌≤◌, Bool, true, false, List, [], ◌∷◌, ◌++◌, length, set, drop, Some, Result, Ok, Err, refl, sym, ap, subst, ◌∙◌, arith}
use Rattle.std.specs.Prelude.{slice_get, nat_le}
use Rattle.std.proofs.lemmas.Bool.Decides.{nat_tests}
use Rattle.std.proofs.lemmas.Option.{none-some, same_Some}
use Rattle.channel.specs.declared.messages.Message.{Message}
use Rattle.updates.specs.declared.messages.PeerStep.TheVariants.{Update as Updated, CommitmentSigned}
use Rattle.channel.specs.declared.messages.Message.TheVariants.{Step as StepMessage, RevokeAndAck}
use Rattle.book.specs.declared.calls.Call.{Call}
use Rattle.book.specs.Books.{at_index}
use Rattle.book.specs.Replies.{if_so}
use Rattle.world.specs.declared.errors.EventError.{EventError}
use Rattle.world.specs.declared.errors.EventError.TheVariants.{NoSuchChannel}
use Rattle.world.specs.Worlds.{Line, Node, answer_to, received_by, opens_none}
use Rattle.world.specs.Acts.{TakesOldest}
use Rattle.book.specs.Acts.{call_of, messages_in}
use Rattle.world.specs.Refusing.{refusal_in, sending_refusal, sent_by, IsRefusal, IsEvent}

-- ---- lists

pub past_end : {A : Type 0} (f : A → A) (c : ℕ) (xs : List A) → length xs ≤ c → at_index f c xs ≡ xs
past_end f c [] past = refl
past_end f zero (x ∷ xs) past = absurd (omega arith)
past_end f (suc c) (x ∷ xs) past = ap (λ ys. x ∷ ys) (past_end f c xs (omega arith))

pub unchanged : {A : Type 0} (c : ℕ) (xs : List A) (x y : A) → slice_get xs c ≡ Some x → y ≡ x → set xs c y ≡ xs
unchanged c [] x y found e = absurd (none-some x found)
unchanged zero (z ∷ xs) x y found e = ap (λ w. w ∷ xs) (e ∙ sym (same_Some z x found))
unchanged (suc c) (z ∷ xs) x y found e = ap (λ ys. z ∷ ys) (unchanged c xs x y found e)

-- writing f x in place of x is `at_index f`
written : {A : Type 0} (f : A → A) (c : ℕ) (xs : List A) (x y : A) → slice_get xs c ≡ Some x → y ≡ f x → set xs c y ≡ at_index f c xs
written f c [] x y found e = absurd (none-some x found)
written f zero (z ∷ xs) x y found e = ap (λ w. w ∷ xs) (e ∙ ap f (sym (same_Some z x found)))
written f (suc c) (z ∷ xs) x y found e = ap (λ ys. z ∷ ys) (written f c xs x y found e)

pub not_past : (n c : ℕ) → c < n → nat_le n c ≡ false
not_past n c within = grind (arith, nat_tests)

-- ---- a message is received

-- the call that takes it opens no channel
opens_no_channel : (c : ℕ) (m : Message) → opens_none (call_of c m) ≡ true
opens_no_channel c (StepMessage (Updated u)) = refl
opens_no_channel c (StepMessage (CommitmentSigned tokens)) = refl
opens_no_channel c (RevokeAndAck revocation) = refl

pub takes_message : (c : ℕ) (oldest : Result Message EventError) (call : Call) → TakesOldest c oldest call → opens_none call ≡ true
takes_message c (Ok m) call is = ap opens_none is ∙ opens_no_channel c m
takes_message c (Err e) call is = absurd is

pub took_off : (n : Node) (c : ℕ) (line : Line) (inbox : List Message) → slice_get n.lines c ≡ Some line → inbox ≡ drop 1 line.inbox
    → record n { lines = set n.lines c (record line { inbox = inbox }) } ≡ received_by c n
took_off n c line inbox found is = ap (λ ls. record n { lines = ls }) (written (λ l. record l { inbox = drop 1 l.inbox }) c n.lines line (record line { inbox = inbox }) found (ap (λ i. record line { inbox = i }) is))

pub none_came : (n : Node) (c : ℕ) → length n.lines ≤ c → n ≡ received_by c n
none_came n c past = ap (λ ls. record n { lines = ls }) (sym (past_end (λ l. record l { inbox = drop 1 l.inbox }) c n.lines past))

-- ---- messages are sent

pub exchanged : (r : Result (Unit {0}) EventError) (c : ℕ) (call : Call) (me peer : Node) (line : Line) (inbox : List Message) → slice_get peer.lines c ≡ Some line → nat_le (length peer.lines) c ≡ false
    → IsEvent (refusal_in (answer_to me call)) r line.inbox (line.inbox ++ messages_in (answer_to me call)) inbox
    → IsEvent (sending_refusal c call me peer) r peer (sent_by c call me peer) (record peer { lines = set peer.lines c (record line { inbox = inbox }) })
exchanged (Ok x) c call me peer line inbox found there is = (
  ap (λ b. if_so b NoSuchChannel (refusal_in (answer_to me call))) there ∙ is.0,
  ap (λ ls. record peer { lines = ls }) (written (λ l. record l { inbox = l.inbox ++ messages_in (answer_to me call) }) c peer.lines line (record line { inbox = inbox }) found (ap (λ i. record line { inbox = i }) is.1)),
)
exchanged (Err e) c call me peer line inbox found there is = (
  subst (λ (b : Bool). IsRefusal (if_so b NoSuchChannel (refusal_in (answer_to me call))) e) (sym there) is.0,
  ap (λ ls. record peer { lines = ls }) (unchanged c peer.lines line (record line { inbox = inbox }) found (ap (λ i. record line { inbox = i }) is.1)),
)
