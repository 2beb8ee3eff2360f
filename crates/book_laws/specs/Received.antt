-- The peers' tokens on a node's own commitments, as they came in (BOLT 2, `commitment_signed`), and what is made of them.
use Rattle.std.specs.Prelude.{◌≡◌, ℕ, List, [], ◌∷◌, ◌++◌, map, reverse, Some, slice_get, option_and_then}
use Rattle.script.specs.Token.{token_of}
use Rattle.tx.specs.Fields.{transaction_with_witness}
use Rattle.terms.specs.declared.sides.Side.{Side}
use Rattle.terms.specs.declared.sides.Side.TheVariants.{A, B}
use Rattle.terms.specs.declared.agreement.Terms.{Terms}
use Rattle.updates.specs.declared.messages.PeerStep.TheVariants.{CommitmentSigned}
use Rattle.updates.specs.declared.messages.Tokens.{Tokens}
use Rattle.claim.specs.declared.parts.Place.{Place}
use Rattle.forms.specs.Fillings.{Signature, Bytes}
use Rattle.commit.specs.declared.outputs.HtlcOutput.{HtlcOutput}
use Rattle.commit.specs.Outputs.{htlc_script}
use Rattle.commit.specs.Commitments.{Contents, transaction_of, htlcs_of, htlc_tx_of}
use Rattle.commit.specs.Signing.{funding_script, commitment_digest, htlc_digest}
use Rattle.resolve.specs.Due.{item_with_both_keys, second_stage_on}
use Rattle.channel.specs.declared.commitments.CommitmentState.{CommitmentState}
use Rattle.channel.specs.States.{State}
use Rattle.channel.specs.Tokens.{contents_of, peer_tokens}
use Rattle.publish.specs.Published.{in_key_order, signed_transaction, signed_htlc_tx_with}
use Rattle.book.specs.declared.calls.Step.TheVariants.{Peer}
use Rattle.book.specs.declared.calls.Call.{Call}
use Rattle.book.specs.declared.calls.Call.TheVariants.{Open, Step as Stepping}
use Rattle.book.specs.declared.calls.Entry.{Entry}
use Rattle.book.specs.Books.{ChannelBook, at_index, replay}
use Rattle.book.specs.Accepted.{IsHistory}

-- ---- what came in

-- The tokens that came in, by channel and then by the number of the own commitment, with one more call. The opening of a channel brings the token on commitment 0, which has no HTLCs; a received `commitment_signed`
-- brings those on the next
abbrev pub tokens_after : Call → List (List Tokens) → List (List Tokens)
tokens_after (Open o) came = came ++ (record { commitment = o.token; htlcs = [] } ∷ []) ∷ []
tokens_after (Stepping c (Peer (CommitmentSigned tokens))) came = at_index (λ ts. ts ++ tokens ∷ []) c came
tokens_after call came = came

-- those of entries, which have the newest first
abbrev pub tokens_in : List Entry → List (List Tokens)
tokens_in [] = []
tokens_in (e ∷ es) = tokens_after e.call (tokens_in es)

-- just the peers' tokens on the own commitments of each channel came in, if the book compares those that it is sent with them
abbrev pub PeersTokensCame : Type 0
PeersTokensCame =
    (history : List Entry) → IsHistory peer_tokens history → tokens_in (reverse history) ≡ map (λ ch. map (peer_tokens ch.state.held.terms) ch.state.mine) (replay history)

-- the tokens on an own commitment of a channel, by its number
abbrev pub came_on : List Entry → ℕ → ℕ → Tokens → Type 0
came_on history c n tokens = option_and_then (λ ts. slice_get ts n) (slice_get (tokens_in (reverse history)) c) ≡ Some tokens

-- ---- what is made of it

-- what spends the funding output: the empty item, the side's own token and its peer's, in the order of their keys, and the script
abbrev pub closing_witness : Terms → Side → Contents → List ℕ → List (List ℕ)
closing_witness terms A c token =
    [] ∷ in_key_order terms.a.bases.funding.bytes (token_of terms.a.bases.funding.bytes (commitment_digest terms c)) terms.b.bases.funding.bytes token ++ funding_script terms ∷ []
closing_witness terms B c token =
    [] ∷ in_key_order terms.a.bases.funding.bytes token terms.b.bases.funding.bytes (token_of terms.b.bases.funding.bytes (commitment_digest terms c)) ++ funding_script terms ∷ []

-- An HTLC of an own commitment, by this token of the peer's and a token of the node's own HTLC key: its transaction with a witness, and the claim that takes its output so
pub record IsStageWith (c : Contents) (x : HtlcOutput) (token : List ℕ) : Type 0 where
  pub signed : (item : List ℕ) → signed_htlc_tx_with c x item
      ≡ transaction_with_witness (htlc_tx_of c x) 0 ([] ∷ token ∷ token_of c.keys.local_htlc (htlc_digest c x) ∷ item ∷ htlc_script c.keys x.direction x.htlc ∷ [])
  pub slots : (place : Place) → (second_stage_on c x place).slots ≡ item_with_both_keys x.direction x.htlc ∷ Signature c.keys.local_htlc ∷ Bytes token ∷ Bytes [] ∷ []

-- An own commitment that closes the channel, and each of its HTLCs, by these tokens of the peer's and by tokens of the node's own keys
pub record IsMadeOf (s : State) (k : CommitmentState) (tokens : Tokens) : Type 0 where
  pub closing : signed_transaction s.held.terms (contents_of s.held.terms k)
      ≡ transaction_with_witness (transaction_of (contents_of s.held.terms k)) 0 (closing_witness s.held.terms s.held.side (contents_of s.held.terms k) tokens.commitment)
  pub stages : (i : ℕ) (x : HtlcOutput) → slice_get (htlcs_of (contents_of s.held.terms k)) i ≡ Some x
      → (token : List ℕ) × (slice_get tokens.htlcs i ≡ Some token) × IsStageWith (contents_of s.held.terms k) x token

-- each own commitment is made of the tokens that came in for it
abbrev pub OwnAreMadeOfThem : Type 0
OwnAreMadeOfThem =
    (history : List Entry) (c : ℕ) (ch : ChannelBook) → IsHistory peer_tokens history → slice_get (replay history) c ≡ Some ch
    → (n : ℕ) (k : CommitmentState) → slice_get ch.state.mine n ≡ Some k → (tokens : Tokens) × came_on history c n tokens × IsMadeOf ch.state k tokens
