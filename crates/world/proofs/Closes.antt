-- How a side closes a channel.
use Rattle.std.proofs.Common.{◌≡◌, ℕ, zero, suc, ◌+◌, ◌<◌, List, [], ◌∷◌, length, Option, Some, None, Result, Ok, refl, sym, ap, ◌∙◌, subst, arith}
use Rattle.std.specs.Prelude.{option_map, slice_get}
use Rattle.std.proofs.lemmas.Option.{none-some, same_Some}
use Rattle.tx.specs.Fields.{Transaction}
use Rattle.terms.specs.declared.sides.Side.{Side}
use Rattle.publish.specs.Published.{signed_transaction, signed_commitment_of}
use Rattle.channel.specs.declared.commitments.CommitmentState.{CommitmentState}
use Rattle.channel.specs.States.{State}
use Rattle.channel.specs.Tokens.{contents_of}
use Rattle.book.specs.declared.errors.CloseError.TheVariants.{NoSuchChannel as NoChannelToClose}
use Rattle.book.specs.Books.{ChannelBook}
use Rattle.book.specs.Replies.{closed, asked}
use Rattle.world.specs.declared.errors.EventError.{EventError}
use Rattle.world.specs.declared.errors.EventError.TheVariants.{NoSuchChannel}
use Rattle.world.specs.Worlds.{World, node_of, channel_of}
use Rattle.world.specs.Refusing.{refusal_in, IsRefusal}
use Rattle.world.specs.Publishing.{found, commitment_in, closing_in, IsAnswer, refusal_by}
use Rattle.world.specs.Theorem.{IsWorld}
use Rattle.world.proofs.TwoEnds.{Laws, found_at}

-- the commitment of its newest number is what closes a channel
pub closes_by : (o : Option ChannelBook) (s : State) (n : ℕ) (r : Result Transaction EventError) → Some s ≡ option_map (λ ch. ch.state) o → n ≡ s.number → IsAnswer (commitment_in n o) r → IsAnswer (closing_in o) r
closes_by None s n r there newest is = absurd (none-some s (sym there))
closes_by (Some ch) s n r there newest is =
    let number : n ≡ ch.state.number = newest ∙ ap (λ (t : State). t.number) (same_Some s ch.state there) in
    subst (λ k. IsAnswer (found (signed_commitment_of ch.state k)) r) number is

-- a book refuses to close a channel only where the event is refused
pub unclosed : (o : Option ChannelBook) (t : Transaction) (e : EventError) → closing_in o ≡ Ok t → IsRefusal (refusal_in (closed (asked NoChannelToClose o (λ ch. Ok ch.state.number)))) e
    → IsRefusal (refusal_by (closing_in o)) e
unclosed None t e is refused = absurd cc
unclosed (Some ch) t e is refused = subst (λ (first : Option EventError). IsRefusal first e) (sym (ap refusal_by is)) refused

-- ---- each channel can be closed

within : {X : Type 0} (xs : List X) (n : ℕ) → n < length xs → (x : X) × (slice_get xs n ≡ Some x)
within [] n l = absurd (omega (arith, l))
within (x ∷ xs) zero l = (x, refl)
within (x ∷ xs) (suc n) l = within xs n (omega (arith, l))

only_without : (o : Option ChannelBook) (r : EventError) → ((ch : ChannelBook) → o ≡ Some ch → length ch.state.mine ≡ ch.state.number + 1) → refusal_by (closing_in o) ≡ Some r → r ≡ NoSuchChannel
only_without None r full is = sym (same_Some NoSuchChannel r is)
only_without (Some ch) r full is =
    let long = full ch refl in
    let k = within ch.state.mine ch.state.number (omega (arith, long)) in
    let none : refusal_by (closing_in (Some ch)) ≡ None
    = ap (λ (c : Option CommitmentState). refusal_by (found (option_map (λ m. signed_transaction ch.state.held.terms (contents_of ch.state.held.terms m)) c))) k.1 in
    absurd (none-some r (sym none ∙ is))

pub can_close : Laws → (w : World) → IsWorld w → (s : Side) (c : ℕ) (r : EventError) → refusal_by (closing_in (channel_of (node_of s w) c)) ≡ Some r → r ≡ NoSuchChannel
can_close laws w is s c r refused =
    only_without (channel_of (node_of s w) c) r
    (λ ch there. let f = found_at laws w is s c ch there in subst (λ (v : ChannelBook). length v.state.mine ≡ v.state.number + 1) f.is (f.both.ends s).numbered.mine.count)
    refused
