-- Who may sign for a commitment's revocation key and to_remote's can fill each claim on its outputs.
use Rattle.std.proofs.Common.{ℕ, ◌+◌, List, [], ◌∷◌, ◌++◌}
use Rattle.std.specs.List.{AllByRecursion}
use Rattle.keys.specs.Rights.{Rights, MaySign}
use Rattle.claim.specs.declared.parts.Place.{Place}
use Rattle.commit.specs.declared.outputs.OutputKind.{OutputKind}
use Rattle.commit.specs.declared.outputs.OutputKind.TheVariants.{ToLocal, ToRemote, ToHtlc}
use Rattle.commit.specs.declared.outputs.CommitmentOutput.{CommitmentOutput}
use Rattle.commit.specs.Commitments.{Contents, tx_output, transaction_of}
use Rattle.penalty.specs.Claimable.{Claimable, place_in, claims_on, claims_by, claims_from}
use Rattle.penalty.specs.Rights.{CanFillAll}

all_append : (r : Rights) (os ps : List Claimable) → AllByRecursion (CanFillAll r) os → AllByRecursion (CanFillAll r) ps → AllByRecursion (CanFillAll r) (os ++ ps)
all_append r [] ps a b = b
all_append r (o ∷ os) ps a b = (a.0, all_append r os ps a.1 b)

on_output : (r : Rights) (c : Contents) (index : ℕ) (place : Place) (kind : OutputKind) → MaySign r c.keys.revocation → MaySign r c.keys.remote → AllByRecursion (CanFillAll r) (claims_on c index place kind)
on_output r c index place ToLocal penalty payment = ((tt, (penalty, tt)), tt)
on_output r c index place ToRemote penalty payment = ((tt, (payment, tt)), tt)
on_output r c index place (ToHtlc direction h) penalty payment = ((tt, (penalty, tt)), ((tt, (penalty, tt)), tt))

-- the claims of a contents' outputs from an index on
pub all_fillable : (r : Rights) (c : Contents) (index : ℕ) (os : List CommitmentOutput) → MaySign r c.keys.revocation → MaySign r c.keys.remote → AllByRecursion (CanFillAll r) (claims_from c index os)
unfolding claims_by
all_fillable r c index [] penalty payment = tt
all_fillable r c index (o ∷ os) penalty payment =
    all_append r _ _ (on_output r c index (place_in (transaction_of c) index (tx_output o)) o.kind penalty payment) (all_fillable r c (index + 1) os penalty payment)
