-- What a book records of a channel stays, whatever calls it gets.
use Rattle.std.proofs.Common.{◌≡◌, ℕ, zero, suc, List, [], ◌∷◌, ◌++◌, Some, refl, sym, ap, subst}
use Rattle.std.specs.Prelude.{slice_get}
use Rattle.std.proofs.lemmas.List.{reverse-append}
use Rattle.std.proofs.lemmas.Option.{none-some, same_Some}
use Rattle.keys.specs.declared.compressed.Key.{Key}
use Rattle.updates.specs.declared.messages.PeerStep.TheVariants.{Update as Updated, CommitmentSigned}
use Rattle.channel.specs.declared.messages.Message.TheVariants.{RevokeAndAck}
use Rattle.channel.specs.States.{State, after_sign, after}
use Rattle.book.specs.declared.calls.Step.{Step}
use Rattle.book.specs.declared.calls.Step.TheVariants.{Own, Peer}
use Rattle.book.specs.declared.calls.Call.{Call}
use Rattle.book.specs.declared.calls.Call.TheVariants as calls
use Rattle.book.specs.declared.calls.Entry.{Entry}
use Rattle.book.specs.Books.{ChannelBook, Channels, at_index, stepped, with_state, with_kept, with_closed, channels_after, replayed, replay}
use Rattle.book.specs.Growing.{Stays, Grew, IsLater, ChannelsGrow}

-- ---- one channel

stay : {A : Type 0} (xs : List A) → Stays xs xs
stay xs n x e = e

pub before_last : {A : Type 0} (xs : List A) (y : A) → Stays xs (xs ++ y ∷ [])
before_last [] y n x e = absurd (none-some x e)
before_last (z ∷ xs) y zero x e = e
before_last (z ∷ xs) y (suc n) x e = before_last xs y n x e

pub unchanged : (s : State) → Grew s s
unchanged s = record { terms = refl; side = refl; mine = stay s.mine; signed = stay s.signed; secrets = stay s.secrets }

pub step_grew : (step : Step) (s : State) → Grew s (stepped step s)
step_grew (Own u) s = record { terms = refl; side = refl; mine = stay s.mine; signed = stay s.signed; secrets = stay s.secrets }
step_grew (Peer (Updated u)) s = record { terms = refl; side = refl; mine = stay s.mine; signed = stay s.signed; secrets = stay s.secrets }
step_grew (Peer (CommitmentSigned tokens)) s = record { terms = refl; side = refl; mine = before_last s.mine _; signed = stay s.signed; secrets = stay s.secrets }

pub sign_grew : (s : State) → Grew s (after_sign s)
sign_grew s = record { terms = refl; side = refl; mine = stay s.mine; signed = before_last s.signed _; secrets = stay s.secrets }

pub revoke_grew : (secret : List ℕ) (point : Key) (s : State) → Grew s (after s (RevokeAndAck (record { secret = secret; next_point = point })))
revoke_grew secret point s = record { terms = refl; side = refl; mine = stay s.mine; signed = stay s.signed; secrets = before_last s.secrets secret }

-- ---- the channels after a call

pub same_later : (c : ℕ) (chs : Channels) (ch : ChannelBook) → slice_get chs c ≡ Some ch → IsLater c ch chs
same_later c chs ch at = record { new = ch; there = at; grew = unchanged ch.state }

-- a change of one channel
abbrev pub GrowsBy : (ChannelBook → ChannelBook) → Type 0
GrowsBy f = (ch : ChannelBook) → Grew ch.state (f ch).state

changed_later : (f : ChannelBook → ChannelBook) → GrowsBy f → (d c : ℕ) (chs : Channels) (ch : ChannelBook) → slice_get chs c ≡ Some ch → IsLater c ch (at_index f d chs)
changed_later f grows d c [] ch at = absurd (none-some ch at)
changed_later f grows zero zero (x ∷ xs) ch at = record { new = f x; there = refl; grew = subst (λ (y : ChannelBook). Grew y.state (f x).state) (same_Some x ch at) (grows x) }
changed_later f grows zero (suc c) (x ∷ xs) ch at = same_later (suc c) (f x ∷ xs) ch at
changed_later f grows (suc d) zero (x ∷ xs) ch at = same_later zero (x ∷ at_index f d xs) ch at
changed_later f grows (suc d) (suc c) (x ∷ xs) ch at = let l = changed_later f grows d c xs ch at in record { new = l.new; there = l.there; grew = l.grew }

pub call_later : (call : Call) (c : ℕ) (chs : Channels) (ch : ChannelBook) → slice_get chs c ≡ Some ch → IsLater c ch (channels_after call chs)
call_later (calls.Open o) c chs ch at = same_later c (channels_after (calls.Open o) chs) ch (before_last chs _ c ch at)
call_later (calls.Step d step) c chs ch at = changed_later (with_state (stepped step)) (λ x. step_grew step x.state) d c chs ch at
call_later (calls.Sign d) c chs ch at = changed_later (with_state after_sign) (λ x. sign_grew x.state) d c chs ch at
call_later (calls.Revoke d revocation) c chs ch at = changed_later (with_state (λ s. after s (RevokeAndAck revocation))) (λ x. revoke_grew revocation.secret revocation.next_point x.state) d c chs ch at
call_later (calls.Keep d n claims) c chs ch at = changed_later (with_kept n) (λ x. unchanged x.state) d c chs ch at
call_later (calls.Release d batch) c chs ch at = same_later c chs ch at
call_later (calls.Close d) c chs ch at = changed_later with_closed (λ x. unchanged x.state) d c chs ch at

-- ---- histories

pub replay_more : (history : List Entry) (seat : ℕ) (call : Call) → replay (history ++ record { seat = seat; call = call } ∷ []) ≡ channels_after call (replay history)
replay_more history seat call = ap replayed (reverse-append history (record { seat = seat; call = call } ∷ []))

pub channels_grow : ChannelsGrow
channels_grow history e c ch at = subst (IsLater c ch) (sym (replay_more history e.seat e.call)) (call_later e.call c (replay history) ch at)
