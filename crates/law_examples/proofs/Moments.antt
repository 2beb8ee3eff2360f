-- What holds at each moment, field by field, in worlds that are given by their lists: each height, side, channel and number is the one that is meant.
use Rattle.std.proofs.Common.{◌≡◌, ℕ, ◌≤◌, true, false, List, [], ◌∷◌, length, Some, None, sym, ap, ◌∙◌, refl, subst, inl, inr, arith, lit<, length-append}
use Rattle.std.specs.Prelude.{◌⊎◌, slice_get}
use Rattle.std.specs.List.{Contains, AllByRecursion}
use Rattle.std.proofs.lemmas.Bool.{false≢true}
use Rattle.std.proofs.lemmas.Option.{slice_get_past}
use Rattle.std.proofs.lemmas.Slice.Eq.{bytes_eq-Decides}
use Rattle.tx.specs.declared.input.TxIn.{TxIn}
use Rattle.tx.specs.Parts.{Output}
use Rattle.tx.specs.Fields.{Transaction}
use Rattle.chain.specs.Blocks.{Contents as Block, Coin, grant_id, grant_outpoint, coin_at}
use Rattle.chain.specs.Checks.{input_refusal}
use Rattle.terms.specs.declared.sides.Side.TheVariants.{A, B}
use Rattle.terms.specs.declared.agreement.Terms.{Terms}
use Rattle.claim.specs.Claims.{ClaimParts, IsWhole}
use Rattle.filling.specs.Filled.{AllFit}
use Rattle.commit.specs.Commitments.{Contents}
use Rattle.penalty.specs.declared.states.RevokedState.{RevokedState}
use Rattle.penalty.specs.Claimable.{Claimable}
use Rattle.channel.specs.declared.messages.Message.{Message}
use Rattle.channel.specs.Tokens.{peer_tokens}
use Rattle.channel.specs.Agreeing.{FirstOf, IsSoundState}
use Rattle.channel.specs.Recording.{AreByNumber}
use Rattle.channel.specs.States.{State}
use Rattle.safety.specs.Ways.{TakenBy}
use Rattle.safety.specs.Spending.{Takes}
use Rattle.safety.specs.Strings.{StringsCollide}
use Rattle.safety.specs.Takers.{IsHtlcTransaction}
use Rattle.safety.specs.Fates.{HasFate}
use Rattle.safety.proofs.Lists.{none_some, contains_none}
use Rattle.scenario.specs.declared.events.Event.{Event}
use Rattle.scenario.specs.declared.events.Event.TheVariants as events
use Rattle.book.specs.declared.calls.Batch.{Batch}
use Rattle.book.specs.declared.calls.Call.TheVariants.{Open, Sign, Keep, Release}
use Rattle.book.specs.declared.calls.Entry.{Entry}
use Rattle.book.specs.declared.calls.Opening.{Opening}
use Rattle.book.specs.Accepted.{all_accepted, begins}
use Rattle.book.specs.Books.{ChannelBook, replay}
use Rattle.book.specs.Calling.{filling_by}
use Rattle.book.specs.Guarding.{is_guarded, ArePenaltiesIn}
use Rattle.book.specs.Penalties.{claimable_in}
use Rattle.book.specs.Replies.{is_accepted, reply_of}
use Rattle.book.specs.Acts.{call_of}
use Rattle.side.specs.declared.due.DueClaim.{DueClaim}
use Rattle.world.specs.declared.errors.EventError.{EventError}
use Rattle.world.specs.declared.errors.EventError.TheVariants.{NoSuchChannel, NoMessage, NoSuchTx, ChannelClosed}
use Rattle.world.specs.declared.outcomes.Outcome.{Outcome}
use Rattle.world.specs.Worlds.{World, Node, Line}
use Rattle.world.specs.Pairing.{AreEnds, IsShutOut}
use Rattle.world.specs.Releasing.{IsFillingIn}
use Rattle.world.specs.Taken.{IsRevokedTo, HasWaitedOn, IsHashedIn}
use Rattle.safety.specs.Enforcement.{IsDue, Passes}
use Rattle.world.specs.Steps.{receipt_refusal, refusal_of, Runs, ends, goes_on}
use Rattle.world.specs.Theorem.{claims_of, ShutsOut, HoldsAt, IsPlay, WorldsHold}
use Rattle.law_examples.proofs.Samples.{nobody, empty, world_of}
use Rattle.law_examples.proofs.Events.{counted}

-- ---- a world before any event

-- yes: HoldsAt
before_any_event : WorldsHold → HoldsAt (world_of [] [] (empty ∷ []))
before_any_event law =
    law (world_of [] [] (empty ∷ []))
    (record {
      a = record { lines = refl; claims_are_whole = tt; jobs = tt; taken = tt };
      b = record { lines = refl; claims_are_whole = tt; jobs = tt; taken = tt };
      a_called = begins;
      b_called = begins;
      agree = tt;
      released = tt;
      a_side = record { opened = λ c ch e. absurd (none_some ch (sym (slice_get_past [] c (omega arith)) ∙ e)); jobs = tt; due = λ seat c batch i. absurd (contains_none (record { seat = seat; call = Release c batch }) i) };
      b_side = record { opened = λ c ch e. absurd (none_some ch (sym (slice_get_past [] c (omega arith)) ∙ e)); jobs = tt; due = λ seat c batch i. absurd (contains_none (record { seat = seat; call = Release c batch }) i) };
      sources = tt;
      tested = refl;
    })

-- A has a channel, and B none
-- no: HoldsAt
one_sided : (o : Opening) → HoldsAt (world_of (record { seat = 0; call = Open o } ∷ []) [] (empty ∷ [])) → ⊥
one_sided o h = let e = h.as_many in omega (arith, e)

-- a book signed in a channel that it does not have
-- no: HoldsAt
signed_without_channel : HoldsAt (world_of [] (record { seat = 0; call = Sign 0 } ∷ []) (empty ∷ [])) → ⊥
signed_without_channel h = false≢true (h.accepted B)

-- ---- the books

module _ (of_a of_b : List Entry) (blocks : List Block) where
  -- yes: HoldsAt.accepted
  accepted : HoldsAt (world_of of_a of_b blocks) → (all_accepted peer_tokens of_a ≡ true) × (all_accepted peer_tokens of_b ≡ true)
  accepted g = (g.accepted A, g.accepted B)

  -- yes: HoldsAt.guarded
  guarded : HoldsAt (world_of of_a of_b blocks) → (is_guarded of_a ≡ true) × (is_guarded of_b ≡ true)
  guarded g = (g.guarded A, g.guarded B)

  -- yes: HoldsAt.as_many
  as_many : HoldsAt (world_of of_a of_b blocks) → length (replay of_a) ≡ 2 → length (replay of_b) ≡ 2
  as_many g e = sym g.as_many ∙ e

  -- the same channel of both, A's end first
  -- yes: HoldsAt.agree
  agree : HoldsAt (world_of of_a of_b blocks) → (x y : ChannelBook) → slice_get (replay of_a) 1 ≡ Some x → slice_get (replay of_b) 1 ≡ Some y → AreEnds x.state y.state
  agree g x y i j = g.agree 1 x y i j

  -- A closed with commitment 7: it is its newest, and B has the secrets of 0 to 6 at most
  -- yes: HoldsAt.closed
  closed_by_a : HoldsAt (world_of of_a of_b blocks) → (x y : ChannelBook) → slice_get (replay of_a) 1 ≡ Some x → slice_get (replay of_b) 1 ≡ Some y → x.closed ≡ Some 7
      → (x.state.number ≡ 7) × (length y.state.secrets ≤ 7)
  closed_by_a g x y i j e = let c = g.closed A 1 7 x y i j e in (sym c.0, c.1)

  -- yes: HoldsAt.closed
  closed_by_b : HoldsAt (world_of of_a of_b blocks) → (x y : ChannelBook) → slice_get (replay of_b) 1 ≡ Some x → slice_get (replay of_a) 1 ≡ Some y → x.closed ≡ Some 7
      → (x.state.number ≡ 7) × (length y.state.secrets ≤ 7)
  closed_by_b g x y i j e = let c = g.closed B 1 7 x y i j e in (sym c.0, c.1)

-- what B kept of its third channel, for A's commitment 5
-- yes: HoldsAt.kept
kept_is_exact : (e : Entry) (claims : List ClaimParts) (blocks : List Block) → HoldsAt (world_of [] (e ∷ record { seat = 4; call = Keep 2 5 claims } ∷ []) blocks)
    → ArePenaltiesIn 2 5 (replay (e ∷ record { seat = 4; call = Keep 2 5 claims } ∷ [])) claims
kept_is_exact e claims blocks h = h.kept B 4 2 5 claims (1, lit< tt, refl)

-- yes: HoldsAt.fits
released_fits : (e : Entry) (batch : Batch) (blocks : List Block) → HoldsAt (world_of [] (e ∷ record { seat = 4; call = Release 2 batch } ∷ []) blocks)
    → AllFit (filling_by batch).tx batch.claims (filling_by batch).tx.inputs
released_fits e batch blocks h = h.fits B 4 2 batch (1, lit< tt, refl)

-- each claim of a side: kept, released, due as a job, and taken
-- yes: HoldsAt.claims
claims_are_whole : (x y : ClaimParts) (batch : Batch) (i j : DueClaim) (blocks : List Block) → batch.claims ≡ y ∷ []
    → HoldsAt (record (world_of [] [] blocks) { b = record nobody { history = record { seat = 0; call = Keep 2 5 (x ∷ []) } ∷ record { seat = 1; call = Release 2 batch } ∷ []; jobs = i ∷ []; taken = j ∷ [] } })
    → IsWhole x × IsWhole y × IsWhole i.claim × IsWhole j.claim
claims_are_whole x y batch i j blocks e h =
    let n : Node = record nobody { history = record { seat = 0; call = Keep 2 5 (x ∷ []) } ∷ record { seat = 1; call = Release 2 batch } ∷ []; jobs = i ∷ []; taken = j ∷ [] } in
    let c : claims_of n ≡ x ∷ y ∷ i.claim ∷ j.claim ∷ [] = rw e refl in
    let w : AllByRecursion IsWhole (x ∷ y ∷ i.claim ∷ j.claim ∷ []) = subst (AllByRecursion IsWhole) c (h.claims B) in
    (w.0, w.1.0, w.1.1.0, w.1.1.1.0)

-- yes: HoldsAt.released
released_by_either : (of_a of_b : List Entry) (t u : Transaction) (blocks : List Block) → HoldsAt (record (world_of of_a of_b blocks) { released = t ∷ u ∷ [] })
    → (IsFillingIn of_a t ⊎ IsFillingIn of_b t) × (IsFillingIn of_a u ⊎ IsFillingIn of_b u)
released_by_either of_a of_b t u blocks h = let r = h.released in (r.0, r.1.0)

-- ---- the next block, and the chain

-- an output was granted in the block of height 2, the newest one. The next block has height 3
module _ (of_a of_b : List Entry) (out : Output) (witness : List (List ℕ)) where
  abbrev blocks : List Block
  blocks = record { transactions = []; granted = out ∷ [] } ∷ empty ∷ empty ∷ []

  -- yes: HoldsAt.opens
  opens_in_the_next : HoldsAt (world_of of_a of_b blocks) → (x : ClaimParts) (t : Transaction) (input : TxIn) → IsWhole x → (due : IsDue blocks 3 x t input) → input_refusal blocks 3 t input ≡ None
  opens_in_the_next h x t input w due = let p : Passes blocks 3 x t input due = h.opens x t input w due in p.passes

  -- a coin of the next block itself: the block before the input has granted it
  module _ (r : RevokedState) (o : Claimable) (t : Transaction) where
    abbrev next : Block
    next = record { transactions = []; granted = out ∷ [] }

    abbrev naming : TxIn
    naming = record { outpoint = grant_outpoint 0; sequence = 0; witness = witness }

    abbrev coin : ℕ → Coin
    coin height = record { output = out; height = height; spent = false }

    in_the_chain : coin_at (empty ∷ blocks) (grant_outpoint 0) ≡ Some (coin 2)
    in_the_chain = rw ((bytes_eq-Decides (grant_id 0) (grant_id 0)).1 refl) refl

    in_the_block : coin_at (next ∷ empty ∷ empty ∷ []) (grant_outpoint 0) ≡ Some (coin 2)
    in_the_block = rw ((bytes_eq-Decides (grant_id 0) (grant_id 0)).1 refl) refl

    -- yes: HoldsAt.others
    others_in_the_next : HoldsAt (world_of of_a of_b blocks) → Takes r o 3 t naming (coin 2) → HasFate r o 2 3 t naming
    others_in_the_next h takes = h.others empty r o t naming (coin 2) in_the_chain takes

    -- yes: HoldsAt.others
    others_of_the_block : HoldsAt (world_of of_a of_b (empty ∷ empty ∷ [])) → Takes r o 2 t naming (coin 2) → HasFate r o 2 2 t naming
    others_of_the_block h takes = h.others next r o t naming (coin 2) in_the_block takes

-- a transaction in the block of height 2 takes an output that is revoked to B
-- yes: HoldsAt.taken
taken_on_the_chain : (of_a of_b : List Entry) (c : Contents) (o : Claimable) (t : Transaction) (input : TxIn)
    → HoldsAt (world_of of_a of_b (empty ∷ record { transactions = t ∷ []; granted = [] } ∷ empty ∷ empty ∷ []))
    → IsRevokedTo (world_of of_a of_b (empty ∷ record { transactions = t ∷ []; granted = [] } ∷ empty ∷ empty ∷ [])) B c → Contains (claimable_in c) o → t.inputs ≡ input ∷ [] → input.outpoint ≡ o.place.outpoint
    → TakenBy (IsFillingIn of_b t) (IsHtlcTransaction c o.place.outpoint 2 t) (IsFillingIn of_a t × HasWaitedOn (empty ∷ record { transactions = t ∷ []; granted = [] } ∷ empty ∷ empty ∷ []) c o 2)
    (StringsCollide (IsHashedIn (world_of of_a of_b (empty ∷ record { transactions = t ∷ []; granted = [] } ∷ empty ∷ empty ∷ []))) (IsHashedIn (world_of of_a of_b (empty ∷ record { transactions = t ∷ []; granted = [] } ∷ empty ∷ empty ∷ []))))
taken_on_the_chain of_a of_b c o t input h r i e names =
    h.taken B c o 2 t input r i (record { block = record { transactions = t ∷ []; granted = [] }; there = refl; within = (0, lit< tt, refl) })
    (subst (λ (is : List TxIn). Contains is input) (sym e) (0, lit< tt, refl)) names

-- ---- refusals and deliveries

abbrev code_of : EventError → ℕ
code_of NoSuchChannel = 1
code_of NoMessage = 2
code_of ChannelClosed = 3
code_of NoSuchTx = 4
code_of e = 0

-- yes: HoldsAt.closes
closes_but_without_channel : (w : World) → HoldsAt w → refusal_of w (events.Close B 2) ≡ Some NoSuchTx → ⊥
closes_but_without_channel w h e = let f = ap code_of (h.closes B 2 NoSuchTx e) in omega (arith, f)

-- B's second channel has a message on its way to it
module _ (of_a of_b : List Entry) (blocks : List Block) (line other : Line) (m : Message) (rest : List Message) (waits : other.inbox ≡ m ∷ rest) where
  abbrev hearing : World
  hearing = record (world_of of_a of_b blocks) { b = record nobody { history = of_b; lines = line ∷ other ∷ [] } }

  -- yes: HoldsAt.takes
  takes_the_oldest : HoldsAt hearing → (is_accepted (reply_of peer_tokens of_b (call_of 1 m)) ≡ true) ⊎ IsShutOut (slice_get (replay of_b) 1) m
  takes_the_oldest h = h.takes B 1 m rest (ap Some waits)

  -- yes: HoldsAt.delivers
  delivers_but : HoldsAt hearing → receipt_refusal B 1 hearing ≡ Some NoSuchTx → ⊥
  delivers_but h e = by (h.delivers B 1 NoSuchTx e)
    where
      by : (NoSuchTx ≡ NoSuchChannel) ⊎ ((NoSuchTx ≡ NoMessage) ⊎ ((NoSuchTx ≡ ChannelClosed) × ShutsOut hearing.b 1)) → ⊥
      by (inl f) = let g = ap code_of f in omega (arith, g)
      by (inr (inl f)) = let g = ap code_of f in omega (arith, g)
      by (inr (inr f)) = let g = ap code_of f.0 in omega (arith, g)

-- ---- a run

first_holds : {w end : World} {es : List Event} {os : List Outcome} {moments : List World} → Runs w es os moments end → AllByRecursion HoldsAt moments → HoldsAt w
first_holds ends a = a.0
first_holds (goes_on s r) a = a.0

last_holds : {w end : World} {es : List Event} {os : List Outcome} {moments : List World} → Runs w es os moments end → AllByRecursion HoldsAt moments → HoldsAt end
last_holds ends a = a.0
last_holds (goes_on s r) a = last_holds r a.1

module _ (w end : World) (e f : Event) (os : List Outcome) where
  -- three moments of two events
  -- yes: IsPlay.moments
  three_moments : (p : IsPlay w (e ∷ f ∷ []) os end) → length p.moments ≡ 3
  three_moments p = let c = (counted p.runs).1 in omega (arith, c)

  -- yes: IsPlay.runs
  runs_so : (p : IsPlay w (e ∷ f ∷ []) os end) → Runs w (e ∷ f ∷ []) os p.moments end
  runs_so p = p.runs

  -- at the first and at the last
  -- yes: IsPlay.holds
  holds_at_both : IsPlay w (e ∷ f ∷ []) os end → HoldsAt w × HoldsAt end
  holds_at_both p = (first_holds p.runs p.holds, last_holds p.runs p.holds)

  -- yes: IsPlay
  no_event : HoldsAt w → IsPlay w [] [] w
  no_event h = record { moments = w ∷ []; runs = ends; holds = (h, tt) }

  -- no: IsPlay
  one_outcome : (o : Outcome) → IsPlay w (e ∷ f ∷ []) (o ∷ []) end → ⊥
  one_outcome o p = let c = (counted p.runs).0 in omega (arith, c)

  -- no: IsPlay
  holds_not : (HoldsAt end → ⊥) → IsPlay w (e ∷ f ∷ []) os end → ⊥
  holds_not n p = n (last_holds p.runs p.holds)

-- ---- the two ends of a channel

module _ (a b : State) where
  -- yes: AreEnds
  ends_of_one : a.held.terms ≡ b.held.terms → FirstOf a.mine b.signed → FirstOf b.mine a.signed → IsSoundState a → IsSoundState b → AreByNumber a → AreByNumber b → AreEnds a b
  ends_of_one t f g s u n m = record { terms = t; a_accepted = f; b_accepted = g; a_sound = s; b_sound = u; a_numbered = n; b_numbered = m }

  -- no: AreEnds
  other_capacity : a.held.terms.capacity_sat ≡ 100000 → b.held.terms.capacity_sat ≡ 100001 → AreEnds a b → ⊥
  other_capacity e f x = let g = ap (λ (t : Terms). t.capacity_sat) x.terms in omega (arith, e, f, g)

  -- no: AreEnds
  unsigned_accepted : length a.mine ≡ 2 → length b.signed ≡ 1 → AreEnds a b → ⊥
  unsigned_accepted e f x =
      let g = ap length x.a_accepted.1 in
      let h = length-append a.mine x.a_accepted.0 in
      omega (arith, e, f, g, h)

  -- no: AreEnds
  unsigned_accepted_by_b : length b.mine ≡ 2 → length a.signed ≡ 1 → AreEnds a b → ⊥
  unsigned_accepted_by_b e f x =
      let g = ap length x.b_accepted.1 in
      let h = length-append b.mine x.b_accepted.0 in
      omega (arith, e, f, g, h)
