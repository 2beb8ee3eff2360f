-- What a node has of its channels: the state of each of them, and what it handed out. Its peers may have sent anything.
use Rattle.std.specs.Prelude.{◌≡◌, ◌+◌, ◌≤◌, ◌<◌, ℕ, List, Option, Some, slice_get}
use Rattle.std.specs.List.{Contains, AllByRecursion}
use Rattle.tx.specs.Parts.{Output}
use Rattle.tx.specs.Fields.{Transaction}
use Rattle.keys.specs.Derivation.{point_of}
use Rattle.terms.specs.declared.sides.Side.{Side}
use Rattle.terms.specs.declared.agreement.Terms.{Terms}
use Rattle.terms.specs.Agreement.{party}
use Rattle.terms.specs.Sides.{other}
use Rattle.claim.specs.Claims.{ClaimParts}
use Rattle.filling.specs.Filling.{script_of, unsigned_input, transaction_for}
use Rattle.commit.specs.declared.fees.Direction.TheVariants.{Received}
use Rattle.commit.specs.declared.outputs.HtlcOutput.{HtlcOutput}
use Rattle.commit.specs.Commitments.{Contents, htlcs_of}
use Rattle.penalty.specs.Claimable.{claims_from}
use Rattle.penalty.specs.Sets.{claimed_by}
use Rattle.resolve.specs.Due.{owners_due, peers_due}
use Rattle.channel.specs.declared.limits.TheConstants.{LAST_NUMBER}
use Rattle.channel.specs.declared.commitments.CommitmentState.{CommitmentState}
use Rattle.channel.specs.States.{State}
use Rattle.channel.specs.Keeping.{one_if}
use Rattle.channel.specs.Recording.{AreByNumber}
use Rattle.channel.specs.Tokens.{contents_of}
use Rattle.safety.specs.Signing.{Signed, IsSignable}
use Rattle.safety.specs.Recorded.{IsOutPoint}

-- claims that the node filled together, and what their transaction pays
pub record Release : Type 0 where
  pub claims : List ClaimParts
  pub outputs : List Output

-- the transaction, without its witnesses
abbrev pub released : Release → Transaction
released r = transaction_for r.claims r.outputs

-- what the tokens of a claim in it are over
abbrev pub claim_signed : Release → ClaimParts → Signed
claim_signed r x = record { transaction = released r; input = unsigned_input x; code = script_of x; value = x.place.value }

-- what the node has of a channel: the state of its side, which its calls and its peer's messages left; all that it released; and the number of the own commitment with which it closed the channel, if it did
pub record Holding : Type 0 where
  pub state : State
  pub releases : List Release
  pub closed : Option ℕ

abbrev pub terms_in : Holding → Terms
terms_in h = h.state.held.terms

abbrev pub peer_in : Holding → Side
peer_in h = other h.state.held.side

-- the node's key in the funding output
abbrev pub funding_key_in : Holding → List ℕ
funding_key_in h = (party h.state.held.side (terms_in h)).bases.funding.bytes

-- a claim is on what a recorded commitment gives the node: its own, or its peer's, revoked or not
pub data IsOnRecorded (h : Holding) (x : ClaimParts) : Type 0 where
  on_own : (n : ℕ) (k : CommitmentState) → slice_get h.state.mine n ≡ Some k → (preimages : List (List ℕ)) → Contains (owners_due preimages (contents_of (terms_in h) k)) (claimed_by x) → IsOnRecorded h x
  on_peers : (n : ℕ) (k : CommitmentState) → slice_get h.state.signed n ≡ Some k → (preimages : List (List ℕ)) → Contains (peers_due preimages (contents_of (terms_in h) k)) (claimed_by x) → IsOnRecorded h x
  on_revoked : (n : ℕ) (k : CommitmentState) → slice_get h.state.signed n ≡ Some k
      → Contains (claims_from (contents_of (terms_in h) k) 0 (contents_of (terms_in h) k).outputs) (claimed_by x) → IsOnRecorded h x

-- each claim of a release is on such an output, and the fields of what is signed for it fit into their bytes
pub record IsRightful (h : Holding) (r : Release) : Type 0 where
  pub recorded : AllByRecursion (IsOnRecorded h) r.claims
  pub signable : AllByRecursion (λ x. IsSignable (claim_signed r x)) r.claims

-- the peer revoked its commitment of a number: it gave the secret of its point
pub record IsRevealed (h : Holding) (n : ℕ) (k : CommitmentState) : Type 0 where
  pub secret : List ℕ
  pub there : slice_get h.state.secrets n ≡ Some secret
  pub opens : k.point.bytes ≡ point_of secret

-- What is true of a channel whose side keeps the rules, whatever its peer sends. The commitments of both sides stand by number and share out the capacity, and the peer revoked all but its newest and the one
-- after it. The side released claims that are its own, closed with its newest commitment, and revoked that never since. The HTLCs that it offered expire above 0.
pub record KeepsRules (h : Holding) : Type 0 where
  pub funding : IsOutPoint (terms_in h).funding
  pub numbered : AreByNumber h.state
  pub number : h.state.number ≤ LAST_NUMBER
  pub peer_number : h.state.peer_number + one_if h.state.awaiting ≤ LAST_NUMBER
  pub revealed : (n : ℕ) (k : CommitmentState) → n < h.state.peer_number → slice_get h.state.signed n ≡ Some k → IsRevealed h n k
  pub releases : AllByRecursion (IsRightful h) h.releases
  pub newest : (n : ℕ) → h.closed ≡ Some n → n ≡ h.state.number
  pub expiries : (n : ℕ) (k : CommitmentState) → slice_get h.state.signed n ≡ Some k
      → (x : HtlcOutput) → Contains (htlcs_of (contents_of (terms_in h) k)) x → x.direction ≡ Received → 0 < x.htlc.expiry_height

-- the channels of a node: each keeps the rules, and those of one funding output are one
pub record EachKeepsRules (hs : List Holding) : Type 0 where
  pub each : AllByRecursion KeepsRules hs
  pub apart : (h g : Holding) → Contains hs h → Contains hs g → (terms_in h).funding ≡ (terms_in g).funding → h ≡ g
