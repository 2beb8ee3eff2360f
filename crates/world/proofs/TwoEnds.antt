-- The two ends of each channel of a world.
use Rattle.std.proofs.Common.{◌≡◌, ℕ, zero, suc, ◌<◌, List, [], ◌∷◌, reverse, Some, refl, sym, subst}
use Rattle.std.specs.Prelude.{slice_get}
use Rattle.std.specs.List.{AllByRecursion}
use Rattle.std.proofs.lemmas.Option.{none-some, same_Some}
use Rattle.terms.specs.declared.sides.Side.{Side}
use Rattle.terms.specs.declared.sides.Side.TheVariants.{A, B}
use Rattle.terms.specs.Agreement.{party}
use Rattle.terms.specs.Bases.{IsSeedOf}
use Rattle.terms.specs.Sides.{other}
use Rattle.chain.specs.Blocks.{grant_outpoint}
use Rattle.scenario.specs.declared.limits.TheConstants.{MAX_CHANNELS}
use Rattle.safety.specs.Standing.{HavePassed}
use Rattle.safety.specs.Waiting.{EachInputFits}
use Rattle.safety.specs.Places.{OwnersPlaces, PeersPlaces, RevokedPlaces}
use Rattle.safety.specs.Takers.{CommitmentsSpendFundings, HtlcTransactionsSpendOutputs, ChannelsAreApart, OutputsAreNoGrants}
use Rattle.safety.specs.Taken.{NumberedAreOwn, GrantsAreOutPoints, Taken}
use Rattle.channel.specs.declared.messages.Message.{Message}
use Rattle.updates.specs.declared.messages.PeerStep.TheVariants.{Update as Updated, CommitmentSigned}
use Rattle.channel.specs.declared.messages.Message.TheVariants.{RevokeAndAck}
use Rattle.channel.specs.Tokens.{peer_tokens}
use Rattle.channel.specs.States.{State, after_sign, after}
use Rattle.channel.specs.Peers.{World as Pair}
use Rattle.channel.specs.Playing.{placed}
use Rattle.channel.specs.Recording.{AreByNumber, SidesRecord, SidesNumber}
use Rattle.channel.specs.Agreeing.{FirstOf, PeersAgree, IsPaired}
use Rattle.book.specs.declared.calls.Step.{Step}
use Rattle.book.specs.declared.calls.Step.TheVariants.{Own, Peer}
use Rattle.book.specs.declared.calls.Call.{Call}
use Rattle.book.specs.declared.calls.Call.TheVariants as calls
use Rattle.book.specs.declared.calls.Entry.{Entry}
use Rattle.book.specs.Books.{ChannelBook, Channels, at_index, stepped, with_state, with_kept, with_closed, opened_by, channels_after, replayed, replay}
use Rattle.world.specs.Pairing.{ArePaired}
use Rattle.world.specs.Worlds.{World, node_of, channel_of, inboxes}
use Rattle.world.specs.Theorem.{IsWorld}
use Rattle.world.proofs.Whole.{all_append}
use Rattle.world.proofs.Ends.{lived_both, ends_of}
use Rattle.world.proofs.Revealed.{IsLimited, limited, which_side}

-- ---- the base keys of each side are those of its seed

abbrev pub IsSeeded : ChannelBook → Type 0
IsSeeded ch = IsSeedOf ch.state.seed (party ch.state.held.side ch.state.held.terms).bases

-- a change of one channel keeps it
changed_seeded : (f : ChannelBook → ChannelBook) → ((ch : ChannelBook) → IsSeeded ch → IsSeeded (f ch)) → (c : ℕ) (chs : Channels) → AllByRecursion IsSeeded chs
    → AllByRecursion IsSeeded (at_index f c chs)
changed_seeded f keeps c [] a = tt
changed_seeded f keeps zero (x ∷ xs) a = (keeps x a.0, a.1)
changed_seeded f keeps (suc c) (x ∷ xs) a = (a.0, changed_seeded f keeps c xs a.1)

step_seeded : (step : Step) (ch : ChannelBook) → IsSeeded ch → IsSeeded (with_state (stepped step) ch)
step_seeded (Own u) ch is = is
step_seeded (Peer (Updated u)) ch is = is
step_seeded (Peer (CommitmentSigned tokens)) ch is = is

call_seeded : (call : Call) (chs : Channels) → AllByRecursion IsSeeded chs → AllByRecursion IsSeeded (channels_after call chs)
call_seeded (calls.Open o) chs a = all_append IsSeeded chs (opened_by o ∷ []) a (o.own, tt)
call_seeded (calls.Step d step) chs a = changed_seeded (with_state (stepped step)) (step_seeded step) d chs a
call_seeded (calls.Sign d) chs a = changed_seeded (with_state after_sign) (λ ch is. is) d chs a
call_seeded (calls.Revoke d revocation) chs a = changed_seeded (with_state (λ s. after s (RevokeAndAck revocation))) (λ ch is. is) d chs a
call_seeded (calls.Keep d n claims) chs a = changed_seeded (with_kept n) (λ ch is. is) d chs a
call_seeded (calls.Release d batch) chs a = a
call_seeded (calls.Close d) chs a = changed_seeded with_closed (λ ch is. is) d chs a

replayed_seeded : (es : List Entry) → AllByRecursion IsSeeded (replayed es)
replayed_seeded [] = tt
replayed_seeded (e ∷ es) = call_seeded e.call (replayed es) (replayed_seeded es)

all_got : {X : Type 0} (P : X → Type 0) (xs : List X) (n : ℕ) (x : X) → AllByRecursion P xs → slice_get xs n ≡ Some x → P x
all_got P [] n x a e = absurd (none-some x e)
all_got P (y ∷ ys) zero x a e = subst P (same_Some y x e) a.0
all_got P (y ∷ ys) (suc n) x a e = all_got P ys n x a.1 e

seeded_at : (history : List Entry) (c : ℕ) (ch : ChannelBook) → slice_get (replay history) c ≡ Some ch → IsSeeded ch
seeded_at history c ch at = all_got IsSeeded (replay history) c ch (replayed_seeded (reverse history)) at

-- ---- a channel of one side is one of the other

pub record IsPairAt (side : Side) (x y : ChannelBook) : Type 0 where
  pub to_me : List Message
  pub to_peer : List Message
  pub paired : IsPaired peer_tokens (placed side x.state y.state to_me to_peer)

pub pair_at : (side : Side) (c : ℕ) (xs ys : Channels) (ps qs : List (List Message)) (x y : ChannelBook) → ArePaired side xs ys ps qs → slice_get xs c ≡ Some x → slice_get ys c ≡ Some y
    → IsPairAt side x y
pair_at side c [] ys ps qs x y paired here there = absurd (none-some x here)
pair_at side zero (v ∷ xs) (z ∷ ys) (p ∷ ps) (q ∷ qs) x y paired here there =
    subst (λ (u : ChannelBook). IsPairAt side u y) (same_Some v x here) (subst (λ (u : ChannelBook). IsPairAt side v u) (same_Some z y there) (record { to_me = p; to_peer = q; paired = paired.0 }))
pair_at side (suc c) (v ∷ xs) (z ∷ ys) (p ∷ ps) (q ∷ qs) x y paired here there = pair_at side c xs ys ps qs x y paired.1 here there
pair_at side c (v ∷ xs) [] ps qs x y paired here there = absurd paired
pair_at side c (v ∷ xs) (z ∷ ys) [] qs x y paired here there = absurd paired
pair_at side c (v ∷ xs) (z ∷ ys) (p ∷ ps) [] x y paired here there = absurd paired

b_has : (c : ℕ) (xs ys : Channels) (ps qs : List (List Message)) (x : ChannelBook) → ArePaired A xs ys ps qs → slice_get xs c ≡ Some x → (y : ChannelBook) × (slice_get ys c ≡ Some y)
b_has c [] ys ps qs x paired here = absurd (none-some x here)
b_has zero (v ∷ xs) (z ∷ ys) (p ∷ ps) (q ∷ qs) x paired here = (z, refl)
b_has (suc c) (v ∷ xs) (z ∷ ys) (p ∷ ps) (q ∷ qs) x paired here = b_has c xs ys ps qs x paired.1 here
b_has c (v ∷ xs) [] ps qs x paired here = absurd paired
b_has c (v ∷ xs) (z ∷ ys) [] qs x paired here = absurd paired
b_has c (v ∷ xs) (z ∷ ys) (p ∷ ps) [] x paired here = absurd paired

a_has : (c : ℕ) (xs ys : Channels) (ps qs : List (List Message)) (y : ChannelBook) → ArePaired A xs ys ps qs → slice_get ys c ≡ Some y → (x : ChannelBook) × (slice_get xs c ≡ Some x)
a_has c [] [] ps qs y paired there = absurd (none-some y there)
a_has c [] (z ∷ ys) ps qs y paired there = absurd paired
a_has zero (v ∷ xs) (z ∷ ys) (p ∷ ps) (q ∷ qs) y paired there = (v, refl)
a_has (suc c) (v ∷ xs) (z ∷ ys) (p ∷ ps) (q ∷ qs) y paired there = a_has c xs ys ps qs y paired.1 there
a_has c (v ∷ xs) [] ps qs y paired there = absurd paired
a_has c (v ∷ xs) (z ∷ ys) [] qs y paired there = absurd paired
a_has c (v ∷ xs) (z ∷ ys) (p ∷ ps) [] y paired there = absurd paired

-- ---- what is known of both ends

abbrev pub end_of : Side → ChannelBook → ChannelBook → ChannelBook
end_of A x y = x
end_of B x y = y

pub record IsEnd (side : Side) (me peer : State) : Type 0 where
  pub side_is : me.held.side ≡ side
  pub accepted : FirstOf me.mine peer.signed
  pub numbered : AreByNumber me
  pub limited : IsLimited me

pub record AreBoth (w : World) (c : ℕ) (x y : ChannelBook) : Type 0 where
  pub there : (s : Side) → channel_of (node_of s w) c ≡ Some (end_of s x y)
  pub terms : (s : Side) → (end_of s x y).state.held.terms ≡ x.state.held.terms
  pub ends : (s : Side) → IsEnd s (end_of s x y).state (end_of (other s) x y).state
  pub seeds : (s : Side) → IsSeeded (end_of s x y)
  pub granted : (c < MAX_CHANNELS) × (x.state.held.terms.funding ≡ grant_outpoint c)

-- the laws of lower crates that this stands on
pub record Laws : Type 0 where
  pub agree : PeersAgree
  pub record_all : SidesRecord
  pub number_all : SidesNumber
  pub pass : HavePassed
  pub own : NumberedAreOwn
  pub grants : GrantsAreOutPoints
  pub taken : Taken
  pub inputs : EachInputFits
  pub owners : OwnersPlaces
  pub peers : PeersPlaces
  pub revoked : RevokedPlaces
  pub fundings : CommitmentsSpendFundings
  pub outputs : HtlcTransactionsSpendOutputs
  pub channels_apart : ChannelsAreApart
  pub grants_apart : OutputsAreNoGrants

by_side : (P : Side → Type 0) → P A → P B → (s : Side) → P s
by_side P a b A = a
by_side P a b B = b

pub both_at : Laws → (w : World) → IsWorld w → (c : ℕ) (x y : ChannelBook) → channel_of w.a c ≡ Some x → channel_of w.b c ≡ Some y → AreBoth w c x y
both_at laws w is c x y here there =
    let at = pair_at A c (replay w.a.history) (replay w.b.history) (inboxes w.a) (inboxes w.b) x y is.agree here there in
    let pair : Pair = placed A x.state y.state at.to_me at.to_peer in
    let reached = at.paired.reached in
    let ends = ends_of laws.agree laws.number_all x.state y.state at.to_me at.to_peer at.paired in
    let lived = lived_both peer_tokens at.paired.terms at.paired.seed_a at.paired.seed_b pair reached in
    let sides = which_side peer_tokens at.paired.terms at.paired.seed_a at.paired.seed_b pair reached in
    record {
      there = by_side (λ s. channel_of (node_of s w) c ≡ Some (end_of s x y)) here there;
      terms = by_side (λ s. (end_of s x y).state.held.terms ≡ x.state.held.terms) refl (sym ends.terms);
      ends = by_side (λ s. IsEnd s (end_of s x y).state (end_of (other s) x y).state)
          (record { side_is = sides.0; accepted = ends.a_accepted; numbered = ends.a_numbered; limited = limited laws.record_all peer_tokens x.state lived.0 })
          (record { side_is = sides.1; accepted = ends.b_accepted; numbered = ends.b_numbered; limited = limited laws.record_all peer_tokens y.state lived.1 });
      seeds = by_side (λ s. IsSeeded (end_of s x y)) (seeded_at w.a.history c x here) (seeded_at w.b.history c y there);
      granted = is.a_side.opened c x here;
    }

-- a channel of either side is one of the two ends
pub record IsFound (w : World) (s : Side) (c : ℕ) (ch : ChannelBook) : Type 0 where
  pub x : ChannelBook
  pub y : ChannelBook
  pub both : AreBoth w c x y
  pub is : end_of s x y ≡ ch

pub found_at : Laws → (w : World) → IsWorld w → (s : Side) (c : ℕ) (ch : ChannelBook) → channel_of (node_of s w) c ≡ Some ch → IsFound w s c ch
found_at laws w is A c ch here =
    let peer = b_has c (replay w.a.history) (replay w.b.history) (inboxes w.a) (inboxes w.b) ch is.agree here in
    record { x = ch; y = peer.0; both = both_at laws w is c ch peer.0 here peer.1; is = refl }
found_at laws w is B c ch there =
    let peer = a_has c (replay w.a.history) (replay w.b.history) (inboxes w.a) (inboxes w.b) ch is.agree there in
    record { x = peer.0; y = ch; both = both_at laws w is c peer.0 ch peer.1 there; is = refl }
