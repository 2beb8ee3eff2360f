-- How a world begins: what each side opens.
use Rattle.std.specs.Prelude.{◌≡◌, ℕ, ◌+◌, ◌≤◌, true, nat_lt, if◌then◌else◌, List, [], ◌∷◌, length, option_map, Option, Some, Result, Ok, Err}
use Rattle.tx.specs.Parts.{Output}
use Rattle.chain.specs.Blocks.{Standing, empty_block, grants_in, grant_outpoint}
use Rattle.chain.specs.Connecting.{with_grant}
use Rattle.terms.specs.declared.sides.Side.TheVariants.{A}
use Rattle.channel.specs.Tokens.{peer_tokens}
use Rattle.terms.specs.declared.proposals.ProposedTerms.{ProposedTerms}
use Rattle.scenario.specs.declared.seeds.Seeds.{Seeds}
use Rattle.scenario.specs.declared.limits.TheConstants.{MAX_CHANNELS}
use Rattle.scenario.specs.Testing.{first_bad_terms}
use Rattle.book.specs.declared.calls.Opening.{Opening}
use Rattle.book.specs.declared.calls.Call.TheVariants.{Open}
use Rattle.book.specs.declared.errors.OpenError.{OpenError}
use Rattle.book.specs.declared.errors.OpenError.TheVariants.{NoMemory}
use Rattle.book.specs.Accepted.{IsHistory}
use Rattle.book.specs.Books.{replay, fundings_of}
use Rattle.book.specs.Replies.{opened, is_accepted}
use Rattle.world.specs.declared.openings.sides.Both.{Both}
use Rattle.world.specs.Opening.{funding_output, AreOpeningsOf}
use Rattle.world.specs.Agreeing.{first_grants}
use Rattle.world.specs.declared.errors.WorldError.{WorldError}
use Rattle.world.specs.declared.errors.WorldError.TheVariants.{NoMemory as no_memory, OverLimit, BadTerms}
use Rattle.world.specs.Worlds.{World, Node, inboxes, answer_to, after_call, with_line}
use Rattle.world.specs.Releasing.{AreFillings}
use Rattle.world.specs.Sources.{IsSide, transactions_in}
use Rattle.world.specs.Pairing.{AgreeBy}

-- the book accepts the opening, and the side has a line for the channel; or the side is as before, and the book refuses or memory ran out
abbrev pub IsOpened : Opening → Result (Unit {0}) OpenError → Node → Node → Type 0
IsOpened opening (Ok x) old new = (is_accepted (answer_to old (Open opening)) ≡ true) × (new ≡ with_line (after_call (Open opening) old))
IsOpened opening (Err NoMemory) old new = new ≡ old
IsOpened opening (Err e) old new = (answer_to old (Open opening) ≡ opened (Err e)) × (new ≡ old)

-- ---- a world

-- a chain of one empty block, and two sides without channels
abbrev pub nothing_yet : Node
nothing_yet = record { history = []; lines = []; read = 0; learnt = []; jobs = []; taken = [] }

abbrev pub empty_world : World
empty_world = record { a = nothing_yet; b = nothing_yet; chain = record { blocks = empty_block ∷ []; greatest = 0 }; pool = []; released = [] }

-- a side with one more channel
abbrev pub with_opened : Opening → Node → Node
with_opened opening n = with_line (after_call (Open opening) n)

-- a chain with an output granted in its newest block
abbrev pub granted : Output → Standing → Standing
granted output chain = record chain { blocks = with_grant chain.blocks output }

-- a channel begins: its funding output is granted, and both sides open it there
pub record Begins (seeds : Seeds) (channel : ℕ) (plain : ProposedTerms) (w v : World) : Type 0 where
  pub both : Both
  pub openings : AreOpeningsOf seeds channel (grant_outpoint channel) plain both
  pub after : v ≡ record w { a = with_opened both.a w.a; b = with_opened both.b w.b; chain = granted (funding_output seeds channel plain) w.chain }

-- channels from a number on begin, one after another
pub data AllBegin (seeds : Seeds) : ℕ → List ProposedTerms → World → World → Type 0 where
  all_begun : {c : ℕ} {w : World} → AllBegin seeds c [] w w
  begins : {c : ℕ} {plain : ProposedTerms} {more : List ProposedTerms} {w v end : World} → Begins seeds c plain w v → AllBegin seeds (c + 1) more v end → AllBegin seeds c (plain ∷ more) w end

-- the world of these channels, before any event
abbrev pub IsBeginning : Seeds → List ProposedTerms → World → Type 0
IsBeginning seeds terms w = AllBegin seeds 0 terms empty_world w

-- OverLimit: more than 8 channels; BadTerms: the first channel on whose terms the two sides can't agree
abbrev pub beginning_refusal : List ProposedTerms → Option WorldError
beginning_refusal terms = if nat_lt MAX_CHANNELS (length terms) then Some OverLimit else option_map BadTerms (first_bad_terms terms)

abbrev pub IsBeginningRefusal : Option WorldError → WorldError → Type 0
IsBeginningRefusal first no_memory = Unit {0}
IsBeginningRefusal first e = first ≡ Some e

abbrev pub world_error_number : WorldError → ℕ
world_error_number no_memory = 0
world_error_number (BadTerms channel) = 1
world_error_number OverLimit = 2

-- what is true of the world after the channels below number c have begun
pub record HasBegun (c : ℕ) (w : World) : Type 0 where
  pub a_stands : fundings_of (replay w.a.history) ≡ first_grants c
  pub b_stands : fundings_of (replay w.b.history) ≡ first_grants c
  pub grants : grants_in w.chain.blocks ≡ c
  pub some_block : 1 ≤ length w.chain.blocks
  pub a_called : IsHistory peer_tokens w.a.history
  pub b_called : IsHistory peer_tokens w.b.history
  pub agree : AgreeBy A w.a.history w.b.history (inboxes w.a) (inboxes w.b)
  pub released : AreFillings w.a.history w.b.history w.released
  pub a_side : IsSide w.a
  pub b_side : IsSide w.b
  pub no_transaction : transactions_in w ≡ []
