-- Just the peers' tokens on the own commitments came in: the book compares each that it is sent. And what is made of them.
use Rattle.std.proofs.Common.{◌≡◌, ℕ, zero, suc, if◌then◌else◌, Bool, true, false, not, List, [], ◌∷◌, ◌++◌, map, reverse, length, Option, Some, None, refl, sym, ap, ◌∙◌, subst}
use Rattle.std.specs.Prelude.{slice_get, nat_le, option_and_then}
use Rattle.std.specs.List.{list_any}
use Rattle.std.specs.Str.{bytes_eq}
use Rattle.std.proofs.lemmas.Bool.{and_parts, false≢true}
use Rattle.std.proofs.lemmas.List.{map-append}
use Rattle.std.proofs.lemmas.Option.{none-some, same_Some}
use Rattle.script.specs.Token.{token_of}
use Rattle.tx.specs.Fields.{same_outpoint, transaction_with_witness}
use Rattle.keys.specs.declared.compressed.Key.{Key}
use Rattle.terms.specs.declared.sides.Side.{Side}
use Rattle.terms.specs.declared.sides.Side.TheVariants.{A, B}
use Rattle.terms.specs.declared.agreement.Terms.{Terms}
use Rattle.terms.specs.Agreement.{party}
use Rattle.terms.specs.Sides.{other}
use Rattle.updates.specs.declared.errors.ChannelError.TheVariants.{NotYourTurn, NoUpdates, BadSignature}
use Rattle.updates.specs.declared.messages.PeerStep.TheVariants.{Update as Updated, CommitmentSigned}
use Rattle.updates.specs.declared.messages.Tokens.{Tokens}
use Rattle.updates.specs.Refusals.{Test, first_refusal, covers_nothing}
use Rattle.commit.specs.declared.outputs.HtlcOutput.{HtlcOutput}
use Rattle.commit.specs.Commitments.{Contents, commitment_of, transaction_of, htlcs_from, htlcs_of}
use Rattle.commit.specs.Keys.{KeyBytes}
use Rattle.commit.specs.Order.{stands_before, in_order}
use Rattle.commit.specs.Outputs.{to_local_output, to_remote_output, where_paid, outputs_of}
use Rattle.commit.specs.Signing.{funding_script, commitment_digest, htlc_digest}
use Rattle.channel.specs.declared.commitments.CommitmentState.{CommitmentState}
use Rattle.channel.specs.declared.limits.TheConstants.{LAST_NUMBER}
use Rattle.channel.specs.declared.messages.Message.TheVariants.{Step as StepMessage, RevokeAndAck}
use Rattle.channel.specs.Points.{point_at}
use Rattle.channel.specs.Recording.{SidesNumber}
use Rattle.channel.specs.States.{State, first_of, own_next, after_sign, after, all_eq, same_tokens, receive_tests}
use Rattle.channel.specs.Tokens.{contents_of, peer_tokens}
use Rattle.publish.specs.Published.{in_key_order}
use Rattle.safety.proofs.Slots.{same_bytes}
use Rattle.book.specs.declared.calls.Opening.{Opening}
use Rattle.book.specs.declared.calls.Step.{Step}
use Rattle.book.specs.declared.calls.Step.TheVariants.{Own, Peer}
use Rattle.book.specs.declared.calls.Call.{Call}
use Rattle.book.specs.declared.calls.Call.TheVariants.{Open, Step as Stepping, Sign, Revoke, Keep, Release, Close}
use Rattle.book.specs.declared.calls.Entry.{Entry}
use Rattle.book.specs.declared.errors.OpenError.TheVariants.{BookFull, SameFunding, BadSignature as WrongToken}
use Rattle.book.specs.declared.limits.TheConstants.{MAX_CHANNELS}
use Rattle.book.specs.Accepted.{is_taken, are_accepted, IsHistory, AcceptedMeans}
use Rattle.book.specs.Books.{ChannelBook, Channels, at_index, stepped, opened_by, with_state, with_kept, with_closed, channels_after, replayed, replay}
use Rattle.book.specs.Lived.{ChannelsAreLived}
use Rattle.book.specs.Replies.{is_accepted, answer_of, open_refusal, step_refusal}
use Rattle.book.proofs.Accepting.{asked_ok, unless_ok, some_none, passed, not_false, step_passes}
use Rattle.book_laws.specs.Received.{tokens_after, tokens_in, PeersTokensCame, closing_witness, IsMadeOf, OwnAreMadeOfThem}

-- ---- lists

-- what is seen of a list after the element at an index changed
seen_at : {X Y : Type 0} (see : X → Y) (f : X → X) (g : Y → Y) (d : ℕ) (xs : List X) → ((x : X) → slice_get xs d ≡ Some x → see (f x) ≡ g (see x)) → map see (at_index f d xs) ≡ at_index g d (map see xs)
seen_at see f g d [] h = refl
seen_at see f g zero (x ∷ xs) h = ap (λ y. y ∷ map see xs) (h x refl)
seen_at see f g (suc d) (x ∷ xs) h = ap (λ ys. see x ∷ ys) (seen_at see f g d xs h)

unseen_at : {X Y : Type 0} (see : X → Y) (f : X → X) (d : ℕ) (xs : List X) → ((x : X) → see (f x) ≡ see x) → map see (at_index f d xs) ≡ map see xs
unseen_at see f d [] h = refl
unseen_at see f zero (x ∷ xs) h = ap (λ y. y ∷ map see xs) (h x)
unseen_at see f (suc d) (x ∷ xs) h = ap (λ ys. see x ∷ ys) (unseen_at see f d xs h)

mapped_at : {X Y : Type 0} (f : X → Y) (xs : List X) (n : ℕ) (x : X) → slice_get xs n ≡ Some x → slice_get (map f xs) n ≡ Some (f x)
mapped_at f [] n x e = absurd (none-some x e)
mapped_at f (y ∷ xs) zero x e = ap (λ z. Some (f z)) (same_Some y x e)
mapped_at f (y ∷ xs) (suc n) x e = mapped_at f xs n x e

-- ---- tokens that pass the book's test are the peer's

same_lists : (xs ys : List (List ℕ)) → all_eq xs ys ≡ true → xs ≡ ys
same_lists [] [] e = refl
same_lists [] (y ∷ ys) e = absurd (false≢true e)
same_lists (x ∷ xs) [] e = absurd (false≢true e)
same_lists (x ∷ xs) (y ∷ ys) e =
    let parts = and_parts (bytes_eq x y) (all_eq xs ys) e in
    ap (λ z. z ∷ xs) (same_bytes x y parts.0) ∙ ap (λ zs. y ∷ zs) (same_lists xs ys parts.1)

same_tokens_are : (s t : Tokens) → same_tokens s t ≡ true → s ≡ t
same_tokens_are s t e =
    let parts = and_parts (bytes_eq s.commitment t.commitment) (all_eq s.htlcs t.htlcs) e in
    ap (λ x. record { commitment = x; htlcs = s.htlcs }) (same_bytes s.commitment t.commitment parts.0) ∙ ap (λ xs. record { commitment = t.commitment; htlcs = xs }) (same_lists s.htlcs t.htlcs parts.1)

last_passed : (s t u : Test) → first_refusal (s ∷ t ∷ u ∷ []) ≡ None → u.0 ≡ false
last_passed (true, r) t u none = absurd (some_none r none)
last_passed (false, r) (true, q) u none = absurd (some_none q none)
last_passed (false, r) (false, q) (true, p) none = absurd (some_none p none)
last_passed (false, r) (false, q) (false, p) none = refl

-- a received signature is that of the next own commitment
signature_is : (s : State) (tokens : Tokens) → first_refusal (receive_tests peer_tokens s (StepMessage (CommitmentSigned tokens))) ≡ None → peer_tokens s.held.terms (own_next s) ≡ tokens
signature_is s tokens none =
    let same =
    last_passed (nat_le LAST_NUMBER s.number, NotYourTurn) (covers_nothing s.held.theirs s.held.own, NoUpdates)
    (not (same_tokens tokens (peer_tokens s.held.terms (own_next s))), BadSignature) none
    in
    sym (same_tokens_are tokens (peer_tokens s.held.terms (own_next s)) (not_false _ same))

-- ---- commitment 0 has no HTLCs

one_of_two : (t : Bool) (k : KeyBytes) (delay_blocks m n : ℕ) → htlcs_from 0 (if t then to_remote_output k n ∷ to_local_output delay_blocks k m ∷ [] else to_local_output delay_blocks k m ∷ to_remote_output k n ∷ []) ≡ []
unfolding htlcs_from
one_of_two true k delay_blocks m n = refl
one_of_two false k delay_blocks m n = refl

no_htlcs_in : (k : KeyBytes) (delay_blocks : ℕ) (to_local to_remote : Option ℕ) → htlcs_from 0 (in_order (where_paid (to_local_output delay_blocks k) to_local ++ where_paid (to_remote_output k) to_remote)) ≡ []
unfolding htlcs_from in_order
no_htlcs_in k delay_blocks None None = refl
no_htlcs_in k delay_blocks None (Some n) = refl
no_htlcs_in k delay_blocks (Some m) None = refl
no_htlcs_in k delay_blocks (Some m) (Some n) = one_of_two (stands_before (to_remote_output k n) (to_local_output delay_blocks k m)) k delay_blocks m n

first_has_none : (terms : Terms) (side : Side) (p : Key) → htlcs_of (contents_of terms (first_of terms side p)) ≡ []
unfolding commitment_of outputs_of
first_has_none terms A p = no_htlcs_in _ _ _ _
first_has_none terms B p = no_htlcs_in _ _ _ _

opening_is : (chs : Channels) (o : Opening) → open_refusal peer_tokens chs o ≡ None → peer_tokens o.terms (first_of o.terms o.side (point_at o.seed 0)) ≡ record { commitment = o.token; htlcs = [] }
opening_is chs o none =
    let first = first_of o.terms o.side (point_at o.seed 0) in
    let c = contents_of o.terms first in
    let full = passed (nat_le MAX_CHANNELS (length chs)) BookFull _ none in
    let funding = passed (list_any (λ ch. same_outpoint ch.state.held.terms.funding o.terms.funding) chs) SameFunding _ full.1 in
    let token = passed (not (bytes_eq o.token (peer_tokens o.terms first).commitment)) WrongToken None funding.1 in
    ap (λ x. record { commitment = x; htlcs = (peer_tokens o.terms first).htlcs }) (sym (same_bytes o.token (peer_tokens o.terms first).commitment (not_false _ token.0)))
    ∙ ap (λ (xs : List HtlcOutput). record { commitment = o.token; htlcs = map (token_of c.keys.remote_htlc) (map (htlc_digest c) xs) }) (first_has_none o.terms o.side (point_at o.seed 0))

-- ---- call by call

-- the peer's tokens on the own commitments of a channel
abbrev on_own : ChannelBook → List Tokens
on_own ch = map (peer_tokens ch.state.held.terms) ch.state.mine

-- after a step, which the channel does not refuse
step_comes : (chs : Channels) (d : ℕ) (ch : ChannelBook) (step : Step) → slice_get chs d ≡ Some ch → step_refusal peer_tokens ch.state step ≡ None
    → map on_own (at_index (with_state (stepped step)) d chs) ≡ tokens_after (Stepping d step) (map on_own chs)
step_comes chs d ch (Own u) there none = unseen_at on_own (with_state (stepped (Own u))) d chs (λ x. refl)
step_comes chs d ch (Peer (Updated u)) there none = unseen_at on_own (with_state (stepped (Peer (Updated u)))) d chs (λ x. refl)
step_comes chs d ch (Peer (CommitmentSigned tokens)) there none =
    let adds : (x : ChannelBook) → slice_get chs d ≡ Some x → on_own (with_state (stepped (Peer (CommitmentSigned tokens))) x) ≡ on_own x ++ tokens ∷ []
    = λ x at.
    map-append (peer_tokens x.state.held.terms) x.state.mine (own_next x.state ∷ [])
    ∙ ap (λ t. on_own x ++ t ∷ []) (subst (λ (y : ChannelBook). peer_tokens y.state.held.terms (own_next y.state) ≡ tokens) (same_Some ch x (sym there ∙ at)) (signature_is ch.state tokens none)) in
    seen_at on_own (with_state (stepped (Peer (CommitmentSigned tokens)))) (λ ts. ts ++ tokens ∷ []) d chs adds

call_comes : (chs : Channels) (call : Call) → is_accepted (answer_of peer_tokens chs call) ≡ true → map on_own (channels_after call chs) ≡ tokens_after call (map on_own chs)
call_comes chs (Open o) ok =
    map-append on_own chs (opened_by o ∷ []) ∙ ap (λ t. map on_own chs ++ (t ∷ []) ∷ []) (opening_is chs o (unless_ok (λ e. e) (open_refusal peer_tokens chs o) (length chs) ok))
call_comes chs (Stepping d step) ok =
    let found = asked_ok _ (slice_get chs d) _ ok in
    step_comes chs d found.0 step found.1 (step_passes found.0 step peer_tokens (unless_ok _ _ _ found.2))
call_comes chs (Sign d) ok = unseen_at on_own (with_state after_sign) d chs (λ x. refl)
call_comes chs (Revoke d revocation) ok = unseen_at on_own (with_state (λ s. after s (RevokeAndAck revocation))) d chs (λ x. refl)
call_comes chs (Keep d n claims) ok = unseen_at on_own (with_kept n) d chs (λ x. refl)
call_comes chs (Release d batch) ok = refl
call_comes chs (Close d) ok = unseen_at on_own with_closed d chs (λ x. refl)

all_came : (es : List Entry) → are_accepted peer_tokens es ≡ true → tokens_in es ≡ map on_own (replayed es)
all_came [] ok = refl
all_came (e ∷ es) ok =
    let parts = and_parts (is_taken peer_tokens es e) (are_accepted peer_tokens es) ok in
    ap (tokens_after e.call) (all_came es parts.1) ∙ sym (call_comes (replayed es) e.call parts.0)

pub peers_tokens_came : AcceptedMeans → PeersTokensCame
peers_tokens_came law history called = all_came (reverse history) ((law.accepted_exactly peer_tokens history).0 called)

-- those of one channel
pub came_in : PeersTokensCame → (history : List Entry) (c : ℕ) (ch : ChannelBook) → IsHistory peer_tokens history → slice_get (replay history) c ≡ Some ch → slice_get (tokens_in (reverse history)) c ≡ Some (on_own ch)
came_in came history c ch called there = ap (λ ts. slice_get ts c) (came history called) ∙ mapped_at on_own (replay history) c ch there

-- ---- what is made of them

closed_with : (s : State) (k : CommitmentState) → k.owner ≡ s.held.side
    → transaction_with_witness (transaction_of (contents_of s.held.terms k)) 0 (closing_witness s.held.terms s.held.side (contents_of s.held.terms k) (peer_tokens s.held.terms k).commitment)
    ≡ transaction_with_witness (transaction_of (contents_of s.held.terms k)) 0
    (closing_witness s.held.terms s.held.side (contents_of s.held.terms k) (token_of (party (other s.held.side) s.held.terms).bases.funding.bytes (commitment_digest s.held.terms (contents_of s.held.terms k))))
closed_with s k owned =
    ap
    (λ (by : Side). transaction_with_witness (transaction_of (contents_of s.held.terms k)) 0
    (closing_witness s.held.terms s.held.side (contents_of s.held.terms k) (token_of (party (other by) s.held.terms).bases.funding.bytes (commitment_digest s.held.terms (contents_of s.held.terms k))))) owned

both_sign : (side : Side) (terms : Terms) (c : Contents) → closing_witness terms side c (token_of (party (other side) terms).bases.funding.bytes (commitment_digest terms c))
    ≡ [] ∷ in_key_order terms.a.bases.funding.bytes (token_of terms.a.bases.funding.bytes (commitment_digest terms c)) terms.b.bases.funding.bytes (token_of terms.b.bases.funding.bytes (commitment_digest terms c))
    ++ funding_script terms ∷ []
both_sign A terms c = refl
both_sign B terms c = refl

pub made_of : (s : State) (k : CommitmentState) → k.owner ≡ s.held.side → IsMadeOf s k (peer_tokens s.held.terms k)
made_of s k owned =
    let c = contents_of s.held.terms k in
    record {
      closing = sym (closed_with s k owned ∙ ap (transaction_with_witness (transaction_of c) 0) (both_sign s.held.side s.held.terms c));
      stages = λ i x at. (token_of c.keys.remote_htlc (htlc_digest c x), mapped_at (token_of c.keys.remote_htlc) (map (htlc_digest c) (htlcs_of c)) i (htlc_digest c x) (mapped_at (htlc_digest c) (htlcs_of c) i x at), record { signed = λ item. refl; slots = λ place. refl });
    }

pub own_are_made_of_them : AcceptedMeans → ChannelsAreLived → SidesNumber → OwnAreMadeOfThem
own_are_made_of_them law lives numbers history c ch called there n k at =
    let s = ch.state in
    let channel = came_in (peers_tokens_came law) history c ch called there in
    let token : slice_get (on_own ch) n ≡ Some (peer_tokens s.held.terms k) = mapped_at (peer_tokens s.held.terms) s.mine n k at in
    let owned = ((numbers peer_tokens s (lives peer_tokens history c ch called there)).mine.each n k at).owner in
    (peer_tokens s.held.terms k, ap (λ (o : Option (List Tokens)). option_and_then (λ ts. slice_get ts n) o) channel ∙ token, made_of s k owned)
