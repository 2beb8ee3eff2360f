-- Calls of a chain one after another.
use Rattle.std.specs.Prelude.{◌≡◌, ℕ, ◌-◌, ◌≤◌, List, [], ◌∷◌, length, take, slice_get, Ok, Err}
use Rattle.chain.specs.declared.commands.Command.{Command}
use Rattle.chain.specs.declared.commands.Command.TheVariants as command
use Rattle.chain.specs.declared.commands.Answer.{Answer}
use Rattle.chain.specs.declared.commands.Answer.TheVariants as answer
use Rattle.chain.specs.Blocks.{Standing, fees_of, height_of}
use Rattle.chain.specs.Connecting.{Connects, Disconnects, Grants}
use Rattle.chain.specs.Refusals.{Answers}
use Rattle.chain.specs.Checks.{indexed_refusal}
use Rattle.chain.specs.Totals.{IsUnspent}

-- one call, its answer, and the list of blocks after it
abbrev pub Answered : Standing → Command → Answer → Standing → Type 0
Answered old (command.Grant output) (answer.Grant r) new = Grants old output r new
Answered old (command.CheckInput t index) (answer.CheckInput r) new = (new ≡ old) × Answers (indexed_refusal old.blocks (length old.blocks) t (slice_get t.inputs index)) r
Answered old (command.Connect txs) (answer.Connect r) new = Connects old txs.items r new
Answered old (command.Disconnect k) (answer.Disconnect (Ok txs)) new = Disconnects old k (Ok txs.items) new
Answered old (command.Disconnect k) (answer.Disconnect (Err e)) new = Disconnects old k (Err e) new
Answered old command.Unspent (answer.Unspent u) new = (new ≡ old) × IsUnspent old.blocks u
Answered old command.Height (answer.Height height) new = (new ≡ old) × (height ≡ height_of old.blocks)
Answered old command.Fees (answer.Fees fees) new = (new ≡ old) × (fees ≡ fees_of old.blocks)
Answered old c a new = ⊥

-- calls in their order, their answers, and the list of blocks at the end
abbrev pub Replays : Standing → List Command → List Answer → Standing → Type 0
Replays old [] [] new = new ≡ old
Replays old (c ∷ cs) (a ∷ answers) new = (next : Standing) × Answered old c a next × Replays next cs answers new
Replays old cs answers new = ⊥

-- the calls before some command were made and answered, and none from that command on
abbrev pub ReplaysBefore : Standing → List Command → Standing → Type 0
ReplaysBefore old commands new = (count : ℕ) × (answers : List Answer) × (count ≤ length commands - 1) × Replays old (take count commands) answers new
