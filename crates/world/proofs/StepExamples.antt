-- Worlds that do not begin, and small events that were worked out by hand from their descriptions.
use Rattle.std.proofs.Common.{◌≡◌, ℕ, List, [], ◌∷◌, map, replicate, Some, None, refl}
use Rattle.std.specs.Prelude.{slice_get}
use Rattle.tx.specs.Fields.{Transaction}
use Rattle.terms.specs.declared.sides.Side.TheVariants.{A, B}
use Rattle.keys.specs.declared.compressed.Key.{Key}
use Rattle.claim.specs.Claims.{ClaimParts}
use Rattle.publish.specs.Published.{signed_transaction}
use Rattle.channel.specs.declared.messages.Message.{Message}
use Rattle.updates.specs.declared.messages.PeerStep.TheVariants.{Update as Updated, CommitmentSigned}
use Rattle.channel.specs.declared.messages.Message.TheVariants.{Step as StepMessage, RevokeAndAck}
use Rattle.updates.specs.declared.messages.Tokens.{Tokens}
use Rattle.channel.specs.Points.{point_at}
use Rattle.channel.specs.Tokens.{contents_of, peer_tokens}
use Rattle.channel.specs.States.{State, first_of, update_refusal, receive_refusal}
use Rattle.chain.specs.Blocks.{Contents}
use Rattle.mempool.specs.Mining.{mined_by, reorganised, blocks_after}
use Rattle.watch.specs.declared.spends.Spend.{Spend}
use Rattle.watch.specs.declared.unclaimed.Given.{Given}
use Rattle.watch.specs.Watching.{Seen}
use Rattle.terms.specs.declared.proposals.ProposedTerms.{ProposedTerms}
use Rattle.updates.specs.declared.changes.OwnUpdate.TheVariants.{Offer, Fulfil, Fail, SetFee}
use Rattle.updates.specs.declared.changes.Update.{Update}
use Rattle.updates.specs.declared.changes.Update.TheVariants.{Fulfil as Fulfilling}
use Rattle.scenario.specs.declared.events.Event.TheVariants as events
use Rattle.book.specs.declared.calls.Batch.{Batch}
use Rattle.book.specs.declared.calls.Call.TheVariants.{Open, Keep, Release, Close}
use Rattle.book.specs.declared.calls.Entry.{Entry}
use Rattle.book.specs.declared.calls.Opening.{Opening}
use Rattle.book.specs.declared.errors.SignError.TheVariants.{NoUpdates}
use Rattle.book.specs.Books.{ChannelBook, replay}
use Rattle.world.specs.declared.errors.EventError.TheVariants.{NoSuchChannel, NoMessage, NoSuchTx, NoJob, TooDeep, Sign, ChannelClosed}
use Rattle.world.specs.declared.errors.WorldError.TheVariants as worlds
use Rattle.side.specs.declared.due.DueClaim.{DueClaim}
use Rattle.world.specs.declared.outcomes.Outcome.TheVariants.{Done, Looked, Mined as MinedBlocks, Refused}
use Rattle.world.specs.Worlds.{World, Node, Line, inboxes, sent_to, received_by}
use Rattle.world.specs.Beginning.{beginning_refusal, world_error_number}
use Rattle.world.specs.Releasing.{with_taken}
use Rattle.world.specs.Looking.{Reading, all_read, block, no_more, back_to}
use Rattle.world.specs.Steps.{refusal_of, with_waiting, with_released, both_back, happens, refuses, mines, looks, reorganises, closes, WorldSteps, Runs, ends, goes_on}
use Rattle.world.specs.Theorem.{claims_of, ShutsOut}

-- ---- worlds that do not begin

world_numbers : map world_error_number (worlds.NoMemory ∷ worlds.BadTerms 7 ∷ worlds.OverLimit ∷ []) ≡ 0 ∷ 1 ∷ 2 ∷ []
world_numbers = refl

-- terms of 1 satoshi, of which side A has 999 millisatoshis and side B has b
abbrev terms_with : ℕ → ProposedTerms
terms_with b = record {
  capacity_sat = 1;
  opener = A;
  feerate_per_kw = 6;
  a = record { dust_sat = 4; delay_blocks = 2; minimum_msat = 7; start_msat = 999 };
  b = record { dust_sat = 5; delay_blocks = 3; minimum_msat = 8; start_msat = b };
}

-- 8 channels and 9; the limit is tested before terms, and the first bad terms are named
beginnings : map beginning_refusal ([] ∷ replicate 8 (terms_with 1) ∷ replicate 9 (terms_with 1) ∷ replicate 9 (terms_with 2) ∷ (terms_with 1 ∷ terms_with 2 ∷ terms_with 0 ∷ []) ∷ [])
    ≡ None ∷ None ∷ Some worlds.OverLimit ∷ Some worlds.OverLimit ∷ Some (worlds.BadTerms 1) ∷ []
beginnings = refl

-- ---- worlds without channels

abbrev nobody : Node
nobody = record { history = []; lines = []; read = 0; learnt = []; jobs = []; taken = [] }

abbrev nothing : Contents
nothing = record { transactions = []; granted = [] }

-- a chain of empty blocks, of which side A has read those up to a height
abbrev world_at : List Contents → ℕ → ℕ → World
world_at blocks greatest read = record { a = record nobody { read = read }; b = nobody; chain = record { blocks = blocks; greatest = greatest }; pool = []; released = [] }

abbrev beginning : World
beginning = world_at (nothing ∷ []) 0 0

abbrev grown : World
grown = world_at (nothing ∷ nothing ∷ []) 1 0

abbrev seen : World
seen = world_at (nothing ∷ nothing ∷ []) 1 1

-- what is read in a world without channels
abbrev nothing_found : Reading
nothing_found = record { seen = []; learnt = []; jobs = [] }

-- there is no channel and no job, and the first block can't be replaced
none_there : map (refusal_of beginning)
    (events.Own A 0 (Offer 1000 [] 9) ∷ events.Own B 0 (Fulfil 0 []) ∷ events.Own A 0 (Fail 0) ∷ events.Own B 0 (SetFee 253) ∷ events.Sign A 0 ∷ events.Deliver B 0 ∷ events.Keep A 0 0 ∷ events.Broadcast B 0 0
    ∷ events.BroadcastHtlc A 0 0 0 ∷ [])
    ≡ Some NoSuchChannel ∷ Some NoSuchChannel ∷ Some NoSuchChannel ∷ Some NoSuchChannel ∷ Some NoSuchChannel ∷ Some NoSuchChannel ∷ Some NoSuchChannel ∷ Some NoSuchChannel ∷ Some NoSuchChannel ∷ []
none_there = refl

jobs_there : map (refusal_of beginning) (events.Take A 0 ∷ events.Take A 1 ∷ events.Release B 0 ∷ events.Release B 1 ∷ []) ≡ None ∷ Some NoJob ∷ Some NoJob ∷ Some NoJob ∷ []
jobs_there = refl

blocks_there : map (refusal_of beginning) (events.Blocks 0 ∷ events.Blocks 9 ∷ events.Look A ∷ events.Reorg 0 0 ∷ events.Reorg 1 0 ∷ []) ≡ None ∷ None ∷ None ∷ Some TooDeep ∷ Some TooDeep ∷ []
blocks_there = refl

-- 6 blocks below the greatest height, and 7; none of them has a transaction to drop
deep : map (refusal_of (world_at (nothing ∷ nothing ∷ nothing ∷ nothing ∷ nothing ∷ nothing ∷ nothing ∷ nothing ∷ nothing ∷ []) 9 0))
    (events.Reorg 0 0 ∷ events.Reorg 5 0 ∷ events.Reorg 5 1 ∷ events.Reorg 6 0 ∷ events.Reorg 6 1 ∷ [])
    ≡ Some TooDeep ∷ None ∷ Some NoSuchTx ∷ Some TooDeep ∷ Some TooDeep ∷ []
deep = refl

-- a block is mined, side A reads it, a delivery is refused, and a reorganisation replaces one block by two
played : Runs beginning (events.Blocks 1 ∷ events.Look A ∷ events.Deliver A 0 ∷ events.Reorg 1 0 ∷ []) (MinedBlocks 1 0 ∷ Looked 0 ∷ Refused NoSuchChannel ∷ MinedBlocks 2 0 ∷ [])
    (beginning ∷ grown ∷ seen ∷ seen ∷ world_at (nothing ∷ nothing ∷ nothing ∷ []) 2 0 ∷ []) (world_at (nothing ∷ nothing ∷ nothing ∷ []) 2 0)
unfolding blocks_after
played =
    goes_on (happens refl (mines {m = mined_by 1 beginning.chain beginning.pool} refl))
    (goes_on (happens refl (looks (record { found = nothing_found; reads = block (record { jobs = []; shown = []; channels = no_more; jobs_are = refl; learnt_is = refl }) all_read; after = refl; count = refl })))
    (goes_on (refuses refl)
    (goes_on (happens refl (reorganises {m = reorganised 1 0 seen.chain seen.pool seen.released} refl)) ends)))

-- ---- queues

module _ (nothing_seen : Seen) (m1 m2 m3 m4 : Message) where
  abbrev line_of : List Message → Line
  line_of inbox = record { inbox = inbox; seen = nothing_seen }

  abbrev listening : Node
  listening = record nobody { lines = line_of (m1 ∷ []) ∷ line_of (m2 ∷ m3 ∷ []) ∷ line_of [] ∷ [] }

  -- what is sent is appended, and the oldest is received
  sent : inboxes (sent_to 1 (m4 ∷ []) listening) ≡ (m1 ∷ []) ∷ (m2 ∷ m3 ∷ m4 ∷ []) ∷ [] ∷ []
  sent = refl

  came : inboxes (received_by 1 listening) ≡ (m1 ∷ []) ∷ (m3 ∷ []) ∷ [] ∷ []
  came = refl

  -- no message is on its way in the last channel, and there is no further channel
  nothing_came : map (refusal_of (record beginning { b = listening })) (events.Deliver B 2 ∷ events.Deliver B 3 ∷ events.Deliver A 0 ∷ []) ≡ Some NoMessage ∷ Some NoSuchChannel ∷ Some NoSuchChannel ∷ []
  nothing_came = refl

module _ (j1 j2 j3 j4 : DueClaim) where
  abbrev busy : Node
  busy = record nobody { jobs = j2 ∷ j3 ∷ j4 ∷ []; taken = j1 ∷ [] }

  -- the oldest jobs are taken, after those taken before
  taken : with_taken 2 busy ≡ record nobody { jobs = j4 ∷ []; taken = j1 ∷ j2 ∷ j3 ∷ [] }
  taken = refl

  takes : map (refusal_of (record beginning { b = busy })) (events.Take B 3 ∷ events.Take B 4 ∷ events.Take A 1 ∷ events.Release B 2 ∷ []) ≡ None ∷ Some NoJob ∷ Some NoJob ∷ Some NoJob ∷ []
  takes = refl

  -- the claims that are kept and released, those of jobs, and those taken
  claims : (seat : ℕ) (x y : ClaimParts) (batch : Batch) → batch.claims ≡ y ∷ x ∷ []
      → claims_of (record busy { history = record { seat = seat; call = Keep 0 3 (x ∷ y ∷ []) } ∷ record { seat = seat; call = Release 1 batch } ∷ [] })
      ≡ x ∷ y ∷ y ∷ x ∷ j2.claim ∷ j3.claim ∷ j4.claim ∷ j1.claim ∷ []
  claims seat x y batch is = rw is refl

-- a transaction that waits is last in the pool; a filling is also last among all that were released
waiting : (t u v : Transaction) (w : World) → (with_waiting v (record w { pool = t ∷ u ∷ [] })).pool ≡ t ∷ u ∷ v ∷ []
waiting t u v w = refl

released : (t u v : Transaction) (w : World) → (with_released v (record w { pool = t ∷ []; released = u ∷ [] }) ≡ record w { pool = t ∷ v ∷ []; released = u ∷ v ∷ [] })
released t u v w = refl

-- ---- back to a height

module _ (t : Transaction) (m : Message) (learnt : List (List ℕ)) (job other : DueClaim) where
  abbrev spend : ℕ → Spend
  spend height = record { height = height; tx = t }

  abbrev given : ℕ → Given
  given height = record { outpoint = record { txid = []; index = height }; path = 1; height = height }

  abbrev line_with : List Spend → List Given → Line
  line_with spends given = record { inbox = m ∷ []; seen = record { spends = spends; given = given } }

  abbrev reader : List Line → ℕ → Node
  reader lines read = record nobody { lines = lines; read = read; learnt = learnt; jobs = job ∷ []; taken = other ∷ [] }

  -- in each channel, everything seen above the fork is discarded; what was learnt stays, and so do the jobs, the claims taken and the messages
  forgets : back_to 5 (reader (line_with (spend 4 ∷ spend 5 ∷ spend 6 ∷ []) (given 5 ∷ given 6 ∷ given 7 ∷ []) ∷ line_with (spend 6 ∷ []) (given 4 ∷ []) ∷ []) 7)
      ≡ reader (line_with (spend 4 ∷ spend 5 ∷ []) (given 5 ∷ []) ∷ line_with [] (given 4 ∷ []) ∷ []) 5
  forgets = refl

  -- if nothing above it was read, nothing is discarded
  keeps : back_to 5 (reader (line_with (spend 3 ∷ []) (given 4 ∷ []) ∷ []) 4) ≡ reader (line_with (spend 3 ∷ []) (given 4 ∷ []) ∷ []) 4
  keeps = refl

  -- each side goes back
  both_forget : (w : World) → both_back 5 (record w { a = reader (line_with (spend 6 ∷ []) [] ∷ []) 6; b = reader (line_with [] (given 6 ∷ given 5 ∷ []) ∷ []) 7 })
      ≡ record w { a = reader (line_with [] [] ∷ []) 5; b = reader (line_with [] (given 5 ∷ []) ∷ []) 5 }
  both_forget w = refl

-- ---- closed channels

-- each side has two channels; side B closed its second one
module _ (o p q r : Opening) (t : Transaction) (line : Line) where
  abbrev opening : Opening → Entry
  opening x = record { seat = 0; call = Open x }

  abbrev shutting : Entry
  shutting = record { seat = 0; call = Close 1 }

  abbrev two_sides : List Entry → List Transaction → World
  two_sides of_b pool = record beginning {
    a = record nobody { history = opening o ∷ opening p ∷ []; lines = line ∷ line ∷ [] };
    b = record nobody { history = of_b; lines = line ∷ line ∷ [] };
    pool = pool;
  }

  abbrev standing : World
  standing = two_sides (opening q ∷ opening r ∷ []) (t ∷ [])

  -- B's commitment 0 of that channel
  abbrev newest : Transaction
  newest = signed_transaction r.terms (contents_of r.terms (first_of r.terms r.side (point_at r.seed 0)))

  abbrev shut : World
  shut = two_sides (opening q ∷ opening r ∷ shutting ∷ []) (t ∷ newest ∷ [])

  -- the book notes the close, and the commitment is last in the pool
  shuts : WorldSteps standing (events.Close B 1) shut Done
  shuts = happens refl (closes refl)

  -- nothing is signed, offered, failed or set there by B; A, and B's first channel, are as before; and the channel may be closed again
  bars : map (refusal_of shut)
      (events.Sign B 1 ∷ events.Own B 1 (Offer 700 [] 5) ∷ events.Own B 1 (Fail 4) ∷ events.Own B 1 (SetFee 254) ∷ events.Sign B 0 ∷ events.Sign A 1 ∷ events.Close B 1 ∷ events.Close A 0 ∷ events.Close A 2
      ∷ events.Close B 3 ∷ [])
      ≡ Some ChannelClosed ∷ Some ChannelClosed ∷ Some ChannelClosed ∷ Some ChannelClosed ∷ Some (Sign NoUpdates) ∷ Some (Sign NoUpdates) ∷ None ∷ None ∷ Some NoSuchChannel ∷ Some NoSuchChannel ∷ []
  bars = refl

-- a side closed the second of its channels, in any state
module _ (s : State) (kept : List ℕ) (n : ℕ) (history peers : List Entry) (line : Line) (m : Message) where
  abbrev was_shut : ChannelBook
  was_shut = record { state = s; kept = kept; closed = Some n }

  abbrev hearing : List Message → World
  hearing inbox = record beginning {
    a = record nobody { history = peers; lines = line ∷ line ∷ [] };
    b = record nobody { history = history; lines = line ∷ record line { inbox = inbox } ∷ [] };
  }

  -- its own fulfil is made, and the peer's updates and revocations are taken, where the channel does not refuse them
  fulfils : (preimage : List ℕ) → slice_get (replay history) 1 ≡ Some was_shut → update_refusal s (Fulfilling 6 preimage) ≡ None → refusal_of (hearing []) (events.Own B 1 (Fulfil 6 preimage)) ≡ None
  fulfils preimage there none = rw (there, none) refl

  hears : (u : Update) → slice_get (replay history) 1 ≡ Some was_shut → receive_refusal peer_tokens s (StepMessage (Updated u)) ≡ None → refusal_of (hearing (StepMessage (Updated u) ∷ m ∷ [])) (events.Deliver B 1) ≡ None
  hears u there none = rw (there, none) refl

  learns : (secret : List ℕ) (point : Key) → slice_get (replay history) 1 ≡ Some was_shut → receive_refusal peer_tokens s (RevokeAndAck (record { secret = secret; next_point = point })) ≡ None
      → refusal_of (hearing (RevokeAndAck (record { secret = secret; next_point = point }) ∷ m ∷ [])) (events.Deliver B 1) ≡ None
  learns secret point there none = rw (there, none) refl

  -- a signature is not taken, and stays the oldest message
  stays : (tokens : Tokens) → slice_get (replay history) 1 ≡ Some was_shut → WorldSteps (hearing (StepMessage (CommitmentSigned tokens) ∷ m ∷ [])) (events.Deliver B 1) (hearing (StepMessage (CommitmentSigned tokens) ∷ m ∷ [])) (Refused ChannelClosed)
  stays tokens there = refuses (rw there refl)

  shut_out : (tokens : Tokens) → slice_get (replay history) 1 ≡ Some was_shut → ShutsOut (hearing (StepMessage (CommitmentSigned tokens) ∷ m ∷ [])).b 1
  shut_out tokens there = record { m = StepMessage (CommitmentSigned tokens); rest = m ∷ []; oldest = refl; shut = record { ch = was_shut; tokens = tokens; there = there; closed = refl; signature = refl } }
