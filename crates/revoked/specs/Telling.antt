-- That a transaction is read whole, and that the commitments of views are read as penalties claim them
-- (BOLT 5, "Revoked Transaction Close Handling").
use Rattle.std.specs.Prelude.{◌≡◌, ◌⊎◌, ℕ, ◌+◌, ◌≤◌, List, [], ◌∷◌, map, length, Some, slice_get, Contains, MatchOption}
use Rattle.std.specs.List.{AllByRecursion}
use Rattle.sha2.specs.Sha256.{sha256}
use Rattle.digest.specs.Hash.{Collide}
use Rattle.script.specs.Spelling.{spelling}
use Rattle.tx.specs.Parts.{Output}
use Rattle.tx.specs.Fields.{Transaction}
use Rattle.anchor_forms.specs.declared.channel_types.ChannelType.TheVariants.{StaticRemoteKey}
use Rattle.commit.specs.declared.outputs.HtlcOutput.{HtlcOutput}
use Rattle.commit.specs.Commitments.{Contents, transaction_of, htlcs_of, htlc_tx_of}
use Rattle.penalty.specs.declared.states.RevokedState.{RevokedState}
use Rattle.penalty.specs.Claimable.{Claimable, place_in, commitment_in, second_stage_penalty}
use Rattle.penalty.specs.Worth.{first_stage}
use Rattle.revoked.specs.Parts.{RevokedParts}
use Rattle.revoked.specs.declared.outputs.RevokedHtlc.{RevokedHtlc}
use Rattle.revoked.specs.declared.outputs.RevokedOutput.{RevokedOutput}
use Rattle.revoked.specs.Programs.{known_form, known_program, known_outputs, output_with, claim_on}
use Rattle.revoked.specs.Reading.{claimed_in, others_in}

-- each output of a transaction is claimed at its place, if its program is the commitment's, and is named if not
abbrev pub EachOutputIsTold : Type 0
EachOutputIsTold =
    (r : RevokedParts) (t : Transaction) (index : ℕ) (o : Output) → slice_get t.outputs index ≡ Some o
    → MatchOption (output_with r o.script) (Contains (others_in r t) index)
    (λ known. Contains (claimed_in r t) (claim_on r known (place_in t index o)))

-- numbers that rise, of which the first is at least a given one
abbrev pub RisesFrom : ℕ → List ℕ → Type 0
RisesFrom least [] = Unit {0}
RisesFrom least (n ∷ ns) = (least ≤ n) × RisesFrom (n + 1) ns

-- the indices of the outputs that are claimed rise, and so do those that are named. Together they are as many as the outputs
pub record IsToldOnce (outputs : ℕ) (claims : List Claimable) (others : List ℕ) : Type 0 where
  pub claimed : RisesFrom 0 (map (λ c. c.place.outpoint.index) claims)
  pub named : RisesFrom 0 others
  pub all : length claims + length others ≡ outputs

abbrev pub EachIsToldOnce : Type 0
EachIsToldOnce =
    (r : RevokedParts) (t : Transaction) → IsToldOnce (length t.outputs) (claimed_in r t) (others_in r t)

-- a claim is on an output of the transaction that has a program of the commitment, by that output's own claim: at its outpoint, with its value
pub record IsOnOutput (r : RevokedParts) (t : Transaction) (c : Claimable) : Type 0 where
  pub index : ℕ
  pub output : Output
  pub known : RevokedOutput
  pub among : slice_get t.outputs index ≡ Some output
  pub found : output_with r output.script ≡ Some known
  pub claim : c ≡ claim_on r known (place_in t index output)

abbrev pub EachClaimIsOnItsOutput : Type 0
EachClaimIsOnItsOutput =
    (r : RevokedParts) (t : Transaction) → AllByRecursion (IsOnOutput r t) (claimed_in r t)

-- an HTLC of a commitment is among these
pub record IsAmong (htlcs : List RevokedHtlc) (h : HtlcOutput) : Type 0 where
  pub htlc : RevokedHtlc
  pub among : Contains htlcs htlc
  pub direction : htlc.direction ≡ h.direction
  pub hash : htlc.hash ≡ h.htlc.hash
  pub expiry : htlc.expiry.height ≡ h.htlc.expiry_height

-- these are the keys and the delay of a commitment, which has no anchors, and each of its HTLCs is among those that are known
pub record KnowsAll (r : RevokedParts) (c : Contents) : Type 0 where
  pub channel_type : r.channel_type ≡ StaticRemoteKey
  pub keys : r.keys ≡ c.keys
  pub delay : r.delay_blocks ≡ c.delay_blocks
  pub htlcs : AllByRecursion (IsAmong r.htlcs) (htlcs_of c)

-- no two scripts have one program
abbrev pub SharesNoProgram : RevokedParts → Type 0
SharesNoProgram r =
    (a b : RevokedOutput) → Contains (known_outputs r) a → Contains (known_outputs r) b
    → known_program r a ≡ known_program r b → known_form r a ≡ known_form r b

-- which fails by a collision alone: outputs of one commitment that have one program have one form, or SHA-256 collides on their scripts
abbrev pub SharingCollides : Type 0
SharingCollides =
    (r : RevokedParts) (a b : RevokedOutput) → known_program r a ≡ known_program r b
    → (known_form r a ≡ known_form r b)
    ⊎ Collide sha256 (spelling (known_form r a).ops) (spelling (known_form r b).ops)

-- all of a revoked commitment without anchors is claimed, as the penalty claims it while none of its HTLC transactions is on the chain
abbrev pub ReadsCommitments : Type 0
ReadsCommitments =
    (s : RevokedState) (r : RevokedParts) → KnowsAll r (commitment_in s) → SharesNoProgram r
    → (let t = transaction_of (commitment_in s) in
    (claimed_in r t ≡ first_stage (commitment_in s)) × (others_in r t ≡ []))

-- and so is the output of each of its HTLC transactions
abbrev pub ReadsHtlcTransactions : Type 0
ReadsHtlcTransactions =
    (s : RevokedState) (r : RevokedParts) (h : HtlcOutput) → KnowsAll r (commitment_in s)
    → (let t = htlc_tx_of (commitment_in s) h in
    (claimed_in r t ≡ second_stage_penalty (commitment_in s) h ∷ []) × (others_in r t ≡ []))
