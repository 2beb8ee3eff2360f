-- That an outpoint is that of one output of one commitment.
use Rattle.std.specs.Prelude.{◌≡◌, ◌⊎◌}
use Rattle.tx.specs.declared.input.OutPoint.{OutPoint}
use Rattle.terms.specs.declared.agreement.Terms.{Terms}
use Rattle.commit.specs.Commitments.{Contents, transaction_of, htlc_tx_of}
use Rattle.channel.specs.declared.commitments.CommitmentState.{CommitmentState}
use Rattle.channel.specs.Tokens.{contents_of}
use Rattle.safety.specs.Recorded.{IsPayable}
use Rattle.safety.specs.Places.{IsOutPointOf, of_output, of_second_stage}
use Rattle.safety.specs.Strings.{IsHashedForCommitment, StringsCollide}

-- An outpoint of two commitments is that of one output, and they have one transaction. The outpoint is that of an output of this transaction, by its index. Or it is
-- that of an HTLC transaction that spends such an output
abbrev pub IsOneOutput : (c d : Contents) (o : OutPoint) → IsOutPointOf c o → IsOutPointOf d o → Type 0
IsOneOutput c d o (of_output i x a e) (of_output j y b f) = (transaction_of c ≡ transaction_of d) × (i ≡ j)
IsOneOutput c d o (of_second_stage h a e) (of_second_stage g b f) = (transaction_of c ≡ transaction_of d) × (h.index ≡ g.index) × (htlc_tx_of c h ≡ htlc_tx_of d g)
IsOneOutput c d o a b = ⊥

-- an outpoint of two commitments is that of one output, or what is hashed for the one commitment collides with what is hashed for the other
abbrev pub OneOutput : Type 0
OneOutput =
    (terms others : Terms) (k m : CommitmentState) → IsPayable terms k → IsPayable others m
    → (o : OutPoint) (a : IsOutPointOf (contents_of terms k) o) (b : IsOutPointOf (contents_of others m) o)
    → IsOneOutput (contents_of terms k) (contents_of others m) o a b ⊎ StringsCollide (IsHashedForCommitment terms k) (IsHashedForCommitment others m)
