-- What a side can broadcast: its commitments with both signatures, and their HTLC transactions (BOLT 3, "Commitment Transaction", "HTLC-Timeout and HTLC-Success Transactions").
use Rattle.std.specs.Prelude.{ℕ, if◌then◌else◌, List, [], ◌∷◌, ◌++◌, Option, Some, slice_get, option_map, option_and_then}
use Rattle.std.specs.List.{find}
use Rattle.std.specs.Str.{bytes_eq}
use Rattle.sha2.specs.Sha256.{sha256}
use Rattle.script.specs.Token.{token_of}
use Rattle.tx.specs.Fields.{Transaction, transaction_with_witness}
use Rattle.terms.specs.declared.htlcs.Htlc.{Htlc}
use Rattle.terms.specs.declared.agreement.Terms.{Terms}
use Rattle.terms.specs.Scripts.{is_lesser}
use Rattle.commit.specs.declared.fees.Direction.{Direction}
use Rattle.commit.specs.declared.fees.Direction.TheVariants.{Offered, Received}
use Rattle.commit.specs.declared.outputs.HtlcOutput.{HtlcOutput}
use Rattle.commit.specs.Outputs.{htlc_script}
use Rattle.commit.specs.Commitments.{Contents, transaction_of, htlcs_of, htlc_tx_of}
use Rattle.commit.specs.Signing.{funding_script, commitment_digest, htlc_digest}
use Rattle.channel.specs.States.{State}
use Rattle.channel.specs.Tokens.{contents_of}

-- two signatures in the order of their keys: the lesser key's first
abbrev pub in_key_order : (key token other other_token : List ℕ) → List (List ℕ)
in_key_order key token other other_token = if is_lesser other key then other_token ∷ token ∷ [] else token ∷ other_token ∷ []

-- what spends the funding output, the lowest item first: the empty item, both sides' signatures, and the funding script
abbrev pub funding_witness : Terms → Contents → List (List ℕ)
funding_witness terms c =
    let a = terms.a.bases.funding.bytes in
    let b = terms.b.bases.funding.bytes in
    let digest = commitment_digest terms c in
    [] ∷ in_key_order a (token_of a digest) b (token_of b digest) ++ funding_script terms ∷ []

-- a commitment transaction with both signatures
abbrev pub signed_transaction : Terms → Contents → Transaction
signed_transaction terms c = transaction_with_witness (transaction_of c) 0 (funding_witness terms c)

-- a side's commitment of a number, if its peer signed it
abbrev pub signed_commitment_of : State → ℕ → Option Transaction
signed_commitment_of s n = option_map (λ c. signed_transaction s.held.terms (contents_of s.held.terms c)) (slice_get s.mine n)

-- the first preimage of a hash
abbrev pub preimage_among : List (List ℕ) → List ℕ → Option (List ℕ)
preimage_among preimages hash = find (λ p. bytes_eq (sha256 p) hash) preimages

-- the item above the signatures: the empty item for HTLC-timeout, the preimage for HTLC-success
abbrev pub branch_item : List (List ℕ) → Direction → Htlc → Option (List ℕ)
branch_item preimages Offered h = Some []
branch_item preimages Received h = preimage_among preimages h.hash

-- the witness that spends an HTLC's output by both HTLC keys, the lowest item first. It is the empty item, the signature of the owner's peer, the owner's, what the branch
-- takes, and the script
abbrev pub htlc_witness : Contents → HtlcOutput → List ℕ → List (List ℕ)
htlc_witness c h item =
    [] ∷ token_of c.keys.remote_htlc (htlc_digest c h) ∷ token_of c.keys.local_htlc (htlc_digest c h) ∷ item ∷ htlc_script c.keys h.direction h.htlc ∷ []

-- an HTLC transaction with both signatures
abbrev pub signed_htlc_tx_with : Contents → HtlcOutput → List ℕ → Transaction
signed_htlc_tx_with c h item = transaction_with_witness (htlc_tx_of c h) 0 (htlc_witness c h item)

-- that of the k-th untrimmed HTLC of a commitment, in the order of outputs, from 0, if there is one and what its branch takes is known
abbrev pub signed_htlc_of : Contents → ℕ → List (List ℕ) → Option Transaction
signed_htlc_of c k preimages = option_and_then (λ h. option_map (signed_htlc_tx_with c h) (branch_item preimages h.direction h.htlc)) (slice_get (htlcs_of c) k)

-- that of a side's commitment of a number, if its peer signed it
abbrev pub signed_htlc_tx_of : State → ℕ → ℕ → List (List ℕ) → Option Transaction
signed_htlc_tx_of s n k preimages = option_and_then (λ c. signed_htlc_of (contents_of s.held.terms c) k preimages) (slice_get s.mine n)
