-- What a side can broadcast with what its book and its watches know.
use Rattle.std.specs.Prelude.{◌≡◌, ℕ, List, [], ◌∷◌, ◌++◌, Option, Some, None, Result, Ok, Err}
use Rattle.tx.specs.Fields.{Transaction}
use Rattle.publish.specs.Published.{signed_commitment_of, signed_htlc_tx_of}
use Rattle.book.specs.declared.calls.Call.TheVariants as calls
use Rattle.book.specs.Books.{ChannelBook}
use Rattle.book.specs.Knowing.{preimages_in}
use Rattle.world.specs.declared.errors.EventError.{EventError}
use Rattle.world.specs.declared.errors.EventError.TheVariants.{NoMemory, NoSuchChannel, NoSuchTx}
use Rattle.world.specs.Worlds.{Node, channel_of, after_call}

-- the preimages that a side knows in a channel: those of its fulfils, made or received, and those that blocks showed to the side
abbrev pub preimages_known : ℕ → Node → List (List ℕ)
preimages_known c n = preimages_in c n.history ++ n.learnt

abbrev pub found : Option Transaction → Result Transaction EventError
found None = Err NoSuchTx
found (Some t) = Ok t

-- a side's commitment of a number: NoSuchChannel, NoSuchTx
abbrev pub commitment_in : ℕ → Option ChannelBook → Result Transaction EventError
commitment_in n None = Err NoSuchChannel
commitment_in n (Some ch) = found (signed_commitment_of ch.state n)

-- a side's newest commitment, by which it closes the channel: NoSuchChannel
abbrev pub closing_in : Option ChannelBook → Result Transaction EventError
closing_in None = Err NoSuchChannel
closing_in (Some ch) = found (signed_commitment_of ch.state ch.state.number)

-- the HTLC transaction of its k-th untrimmed HTLC, with these preimages: NoSuchChannel, NoSuchTx
abbrev pub htlc_tx_in : ℕ → ℕ → List (List ℕ) → Option ChannelBook → Result Transaction EventError
htlc_tx_in n k preimages None = Err NoSuchChannel
htlc_tx_in n k preimages (Some ch) = found (signed_htlc_tx_of ch.state n k preimages)

-- a result is this one, unless memory ran out
abbrev pub IsAnswer : {A : Type 0} → Result A EventError → Result A EventError → Type 0
IsAnswer answer (Ok x) = answer ≡ Ok x
IsAnswer answer (Err NoMemory) = Unit {0}
IsAnswer answer (Err e) = answer ≡ Err e

-- the refusal in a result
abbrev pub refusal_by : {A : Type 0} → Result A EventError → Option EventError
refusal_by (Ok x) = None
refusal_by (Err e) = Some e

-- a side closes a channel: its book notes that, and its newest commitment is last in the pool
pub record IsClosedTo (channel : ℕ) (n done : Node) (pool waiting : List Transaction) : Type 0 where
  pub tx : Transaction
  pub is : closing_in (channel_of n channel) ≡ Ok tx
  pub after : done ≡ after_call (calls.Close channel) n
  pub waits : waiting ≡ pool ++ tx ∷ []
