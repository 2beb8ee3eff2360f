-- One side's updates and how far each part of them has come, as one side of a channel knows it (BOLT 2, the five states of
-- an update).
use Rattle.std.specs.Prelude.{◌≡◌, ◌≤◌, ℕ, take, drop, length, List, [], ◌∷◌, ◌++◌}
use Rattle.updates.specs.declared.changes.Update.{Update}
use Rattle.updates.specs.declared.stages.Part.{Part}
use Rattle.updates.specs.declared.stages.Stage.{Stage}
use Rattle.updates.specs.declared.stages.Stage.TheVariants.{Known, WithReceiver, PastReceiver, WithSender}
use Rattle.updates.specs.Updates.{newest_feerate_per_kw}

-- the sender is who made the updates, the receiver the other side; each part is a beginning of the one before it
pub record Stages : Type 0 where
  pub known : List Update  -- made by the sender, or received from it
  pub with_receiver : List Update  -- in the receiver's newest commitment
  pub past_receiver : List Update  -- there once the receiver's revocation acknowledged it
  pub with_sender : List Update  -- in the sender's newest commitment
  pub settled : List Update  -- there once the sender's revocation acknowledged it: all five stages passed

-- the updates that have reached a stage
abbrev pub part_of : Stage → Stages → List Update
part_of Known s = s.known
part_of WithReceiver s = s.with_receiver
part_of PastReceiver s = s.past_receiver
part_of WithSender s = s.with_sender

abbrev pub none_yet : Stages
none_yet =
    record { known = []; with_receiver = []; past_receiver = []; with_sender = []; settled = [] }

-- the sender makes an update
abbrev pub with_update : Update → Stages → Stages
with_update u s = record s { known = s.known ++ u ∷ [] }

-- the sender signs the receiver's next commitment
abbrev pub to_receiver : Stages → Stages
to_receiver s = record s { with_receiver = s.known }

-- the receiver revokes its previous commitment
abbrev pub by_receiver : Stages → Stages
by_receiver s = record s { past_receiver = s.with_receiver }

-- the receiver signs the sender's next commitment
abbrev pub to_sender : Stages → Stages
to_sender s = record s { with_sender = s.past_receiver }

-- the sender revokes its previous commitment
abbrev pub by_sender : Stages → Stages
by_sender s = record s { settled = s.with_sender }

-- the updates that no signature of their sender covers (BOLT 2, "uncommitted updates")
abbrev pub uncommitted : Stages → List Update
uncommitted s = drop (length s.with_receiver) s.known

-- those under a signature of their sender that no revocation acknowledged
abbrev pub unacknowledged : Stages → List Update
unacknowledged s = drop (length s.past_receiver) s.with_receiver

-- what is left of them all once a connection is cut
abbrev pub committed : Stages → Stages
committed s = record s { known = s.with_receiver }

-- the same, by one list and a count for each further stage
abbrev pub stages_of : List Update → ℕ → ℕ → ℕ → ℕ → Stages
stages_of updates with_receiver past_receiver with_sender settled = record {
  known = updates;
  with_receiver = take with_receiver updates;
  past_receiver = take past_receiver updates;
  with_sender = take with_sender updates;
  settled = take settled updates;
}

-- a part as its length and its newest feerate
pub record Counts (part : Part) (us : List Update) : Type 0 where
  pub count : part.count ≡ length us
  pub feerate_per_kw : part.feerate_per_kw ≡ newest_feerate_per_kw us

-- the first updates of a list, kept as a count and their newest feerate
pub record IsPartOf (us : List Update) (part : Part) : Type 0 where
  pub within : part.count ≤ length us
  pub feerate_per_kw : part.feerate_per_kw ≡ newest_feerate_per_kw (take part.count us)
