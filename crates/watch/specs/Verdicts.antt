-- Which commitment a transaction is (BOLT 5, "Unilateral Close Handling").
use Rattle.std.specs.Prelude.{ℕ, Bool, false, if◌then◌else◌, List, [], ◌∷◌, Option, Some, None}
use Rattle.std.specs.Str.{bytes_eq}
use Rattle.tx.specs.declared.input.TxIn.{TxIn}
use Rattle.tx.specs.Fields.{Transaction, same_outpoint}
use Rattle.tx.specs.Spelling.{transaction_id}
use Rattle.terms.specs.declared.agreement.Terms.{Terms}
use Rattle.terms.specs.Numbers.{mask_of, revealed}
use Rattle.commit.specs.Commitments.{Contents, id_of}
use Rattle.penalty.specs.Claimable.{commitment_in}
use Rattle.resolve.specs.declared.verdicts.Verdict.{Verdict}
use Rattle.resolve.specs.declared.verdicts.Verdict.TheVariants.{Ours, Theirs, TheirsNext, Revoked, Unknown}
use Rattle.resolve.specs.declared.known.RevokedCommitment.{RevokedCommitment}
use Rattle.resolve.specs.declared.known.Known.{Known}
use Rattle.resolve.specs.Due.{revoked_at}

-- the number that a transaction carries, if its only input spends the funding output (BOLT 3, "Commitment Transaction")
abbrev pub number_by : Terms → ℕ → List TxIn → Option ℕ
number_by terms lock_time (i ∷ []) = if same_outpoint i.outpoint terms.funding then revealed (mask_of terms) lock_time i.sequence else None
number_by terms lock_time inputs = None

abbrev pub number_in : Terms → Transaction → Option ℕ
number_in terms t = number_by terms t.lock_time t.inputs

-- the id is that of the commitment
abbrev pub is_of : List ℕ → Contents → Bool
is_of id c = bytes_eq (id_of c) id

abbrev pub is_of_next : List ℕ → Option Contents → Bool
is_of_next id None = false
is_of_next id (Some c) = is_of id c

-- the revoked commitment of the number, if the id is its own
abbrev pub revoked_if : List ℕ → ℕ → Option RevokedCommitment → Verdict
revoked_if id n None = Unknown
revoked_if id n (Some r) = if is_of id (commitment_in r.state) then Revoked n else Unknown

abbrev pub revoked_by : Known → List ℕ → Option ℕ → Verdict
revoked_by known id None = Unknown
revoked_by known id (Some n) = revoked_if id n (revoked_at known n)

-- the first known commitment whose id the transaction has: one's own newest, the peer's newest, the peer's next, and the revoked one whose number it carries
unfoldable pub verdict_of : Known → Transaction → Verdict
verdict_of known t =
    if is_of (transaction_id t) known.own.commitment then Ours
    else if is_of (transaction_id t) known.theirs then Theirs
    else if is_of_next (transaction_id t) known.next then TheirsNext
    else revoked_by known (transaction_id t) (number_in known.terms t)
