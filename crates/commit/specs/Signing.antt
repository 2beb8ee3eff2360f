-- What the owner's peer signs of a commitment (BOLT 2, `commitment_signed`; BIP 143).
use Rattle.std.specs.Prelude.{ℕ, List, [], ◌∷◌, map}
use Rattle.digest.specs.Hash.{sha256d}
use Rattle.script.specs.Spelling.{spelling}
use Rattle.script.specs.Token.{token_of}
use Rattle.terms.specs.Scripts.{funding}
use Rattle.sighash.specs.Signing.{signed_list}
use Rattle.tx.specs.declared.input.OutPoint.{OutPoint}
use Rattle.tx.specs.declared.input.TxIn.{TxIn}
use Rattle.terms.specs.declared.sides.Side.{Side}
use Rattle.terms.specs.declared.agreement.Terms.{Terms}
use Rattle.terms.specs.Agreement.{party}
use Rattle.terms.specs.Sides.{other}
use Rattle.commit.specs.declared.outputs.HtlcOutput.{HtlcOutput}
use Rattle.commit.specs.Fees.{satoshis_of}
use Rattle.commit.specs.Outputs.{htlc_script}
use Rattle.commit.specs.Commitments.{Contents, transaction_of, id_of, htlcs_of, htlc_tx_of}

-- the script of the funding output
unfoldable pub funding_script : Terms → List ℕ
funding_script terms = spelling (funding terms.a.bases.funding.bytes terms.b.bases.funding.bytes)

-- the only input of a transaction, as it is signed
abbrev pub input_of : OutPoint → ℕ → TxIn
input_of outpoint sequence = record { outpoint = outpoint; sequence = sequence; witness = [] }

-- the digest of the commitment, over the funding script and the capacity
unfoldable pub commitment_digest : Terms → Contents → List ℕ
commitment_digest terms c = sha256d (signed_list (transaction_of c)
    (input_of c.funding c.hidden.sequence) (funding_script terms) terms.capacity_sat)

-- the digest of an HTLC transaction, over the script and the value of the output that it spends
unfoldable pub htlc_digest : Contents → HtlcOutput → List ℕ
htlc_digest c h = sha256d (signed_list (htlc_tx_of c h)
    (input_of (record { txid = id_of c; index = h.index }) 0)
    (htlc_script c.keys h.direction h.htlc) (satoshis_of h.htlc.amount_msat))

abbrev pub htlc_digests : Contents → List (List ℕ)
htlc_digests c = map (htlc_digest c) (htlcs_of c)

-- the tokens of the owner's peer: of its funding key on the commitment, and of its HTLC key on each HTLC transaction in the order of outputs
unfoldable pub tokens_of : Terms → Side → Contents → List (List ℕ)
tokens_of terms owner c =
    token_of (party (other owner) terms).bases.funding.bytes (commitment_digest terms c)
    ∷ map (token_of c.keys.remote_htlc) (htlc_digests c)
