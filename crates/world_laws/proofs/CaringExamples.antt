-- What is left to ask of a side, on both sides of its bounds.
use Rattle.std.proofs.Common.{◌≡◌, ℕ, List, [], ◌∷◌, replicate, Some, None, refl, sym, subst, arith, lit≤, lit<}
use Rattle.std.specs.Prelude.{slice_get}
use Rattle.std.specs.List.{AllByRecursion, Contains}
use Rattle.std.proofs.lemmas.Option.{none-some}
use Rattle.updates.specs.declared.changes.OwnUpdate.TheVariants.{Offer}
use Rattle.claim.specs.Claims.{ClaimParts}
use Rattle.safety.specs.Holdings.{EachKeepsRules}
use Rattle.penalty.specs.Sets.{claimed_by}
use Rattle.resolve.specs.Due.{owners_due}
use Rattle.channel.specs.declared.commitments.CommitmentState.{CommitmentState}
use Rattle.channel.specs.States.{State, state_at_opening}
use Rattle.channel.specs.Tokens.{contents_of, peer_tokens}
use Rattle.safety.proofs.Lists.{contains_none}
use Rattle.book.specs.declared.calls.Batch.{Batch}
use Rattle.book.specs.declared.calls.Opening.{Opening}
use Rattle.book.specs.declared.calls.Step.TheVariants.{Own}
use Rattle.book.specs.declared.calls.Call.{Call}
use Rattle.book.specs.declared.calls.Call.TheVariants.{Open, Step as Stepping, Release as Releasing}
use Rattle.book.specs.declared.calls.Entry.{Entry}
use Rattle.book.specs.Books.{ChannelBook, replay}
use Rattle.book.specs.Accepted.{IsHistory}
use Rattle.book_laws.specs.Holdings.{holding_of}
use Rattle.book_laws.specs.Keeping.{TakesCare}
use Rattle.side.specs.declared.due.DueClaim.{DueClaim}
use Rattle.world.specs.Worlds.{Line, Node, IsNode}
use Rattle.world.specs.Sources.{IsDueOf, of_own, of_peers, of_revoked, IsDueIn, IsSide}
use Rattle.world_laws.specs.Caring.{IsCaring, SidesKeepRules}

abbrev entry : Call → Entry
entry call = record { seat = 0; call = call }

abbrev batch : ClaimParts → ℕ → Batch
batch x value = record { claims = x ∷ []; outputs = record { value = value; script = [] } ∷ []; preimages = []; some = lit≤ tt; inputs = lit≤ tt; given = lit≤ tt }

-- ---- what a claim is on

module _ (s : State) (k : CommitmentState) (x : ClaimParts) where
  -- yes: IsDueOf
  on_its_own : (preimages : List (List ℕ)) → Contains (owners_due preimages (contents_of s.held.terms k)) (claimed_by x) → IsDueOf (record s { mine = k ∷ [] }) x
  on_its_own preimages i = of_own 0 k preimages refl i

  -- no: IsDueOf
  on_nothing : IsDueOf (record s { mine = []; signed = [] }) x → ⊥
  on_nothing (of_own n m preimages at i) = none-some m at
  on_nothing (of_peers n m preimages at i) = none-some m at
  on_nothing (of_revoked n claimable at i) = none-some claimable at

module _ (o : Opening) (x : ClaimParts) where
  abbrev opened : ChannelBook
  opened = record { state = state_at_opening o.terms o.side o.seed o.first_point o.next_point; kept = []; closed = None }

  -- yes: IsDueIn
  in_its_channel : IsDueOf opened.state x → IsDueIn (entry (Open o) ∷ []) 0 x
  in_its_channel d = record { ch = opened; there = refl; due = d }

  -- no: IsDueIn
  in_no_channel : IsDueIn (entry (Open o) ∷ []) 1 x → ⊥
  in_no_channel d = none-some d.ch d.there

-- ---- a side

abbrev empty : List DueClaim → List Line → Node
empty jobs lines = record { history = []; lines = lines; read = 0; learnt = []; jobs = jobs; taken = [] }

-- yes: IsSide
nothing_yet : IsSide (empty [] [])
nothing_yet = record { opened = λ c ch e. absurd (none-some ch e); jobs = tt; due = λ seat c batch i. absurd (contains_none (record { seat = seat; call = Releasing c batch }) i) }

-- no: IsSide
job_in_no_channel : (j : DueClaim) → IsSide (empty (j ∷ []) []) → ⊥
job_in_no_channel j s = let d = s.jobs.0 in none-some d.ch d.there

-- yes: IsNode
no_line : IsNode (empty [] [])
no_line = record { lines = refl; claims_are_whole = tt; jobs = tt; taken = tt }

-- no: IsNode
line_of_no_channel : (line : Line) → IsNode (empty [] (line ∷ [])) → ⊥
line_of_no_channel line n = let e = n.lines in omega (arith, e)

-- ---- what is asked of it

module _ (n : Node) (o : Opening) (x : ClaimParts) (ch : ChannelBook) (called : IsHistory peer_tokens n.history) (side : IsSide n) (there : slice_get (replay n.history) 0 ≡ Some ch) where
  -- the side opens a channel, offers an HTLC that expires at 1, and releases a claim for all bitcoins; in another channel it offers one that expires at 0, and releases one for more than that
  abbrev least : List Entry
  least =
      entry (Open o)
      ∷ entry (Stepping 0 (Own (Offer 1000 (replicate 32 9) 1)))
      ∷ entry (Releasing 0 (batch x 2100000000000000))
      ∷ entry (Stepping 1 (Own (Offer 1000 (replicate 32 9) 0)))
      ∷ entry (Releasing 1 (batch x 2100000000000001))
      ∷ []

  -- yes: IsCaring
  just : n.history ≡ least → IsCaring n 0 ch
  just e = record {
    called = called;
    side = side;
    there = there;
    cares =
        subst (AllByRecursion (λ (e : Entry). TakesCare 0 e.call)) (sym e)
        (tt, ((λ e. lit< tt), ((λ e. (record { value = omega arith; script = omega arith }, tt)), ((λ (e : 1 ≡ 0). omega (arith, e)), ((λ (e : 1 ≡ 0). omega (arith, e)), tt)))));
  }

  -- so the channel keeps the rules
  keeps_rules : SidesKeepRules → n.history ≡ least → EachKeepsRules (holding_of n.history 0 ch ∷ [])
  keeps_rules law e = law n 0 ch (just e)

  -- no: IsCaring
  until_zero : n.history ≡ entry (Open o) ∷ entry (Stepping 0 (Own (Offer 1000 (replicate 32 9) 0))) ∷ [] → IsCaring n 0 ch → ⊥
  until_zero e c = let late = (subst (AllByRecursion (λ (e : Entry). TakesCare 0 e.call)) e c.cares).1.0 refl in omega (arith, late)

  -- no: IsCaring
  above_all_bitcoins : n.history ≡ entry (Releasing 0 (batch x 2100000000000001)) ∷ [] → IsCaring n 0 ch → ⊥
  above_all_bitcoins e c = let low = ((subst (AllByRecursion (λ (e : Entry). TakesCare 0 e.call)) e c.cares).0 refl).0.value in omega (arith, low)
