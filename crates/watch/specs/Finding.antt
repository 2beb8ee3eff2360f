-- A revoked commitment's transaction is found, and nothing else has its verdict.
use Rattle.std.specs.Prelude.{◌≡◌, ℕ, ◌≤◌, false, List, Contains}
use Rattle.tx.specs.Fields.{Transaction, unsigned_transaction}
use Rattle.tx.specs.Spelling.{transaction_id}
use Rattle.commit.specs.Commitments.{transaction_of, id_of}
use Rattle.penalty.specs.Claimable.{commitment_in}
use Rattle.resolve.specs.declared.numbers.TheConstants.{MAX_NUMBER}
use Rattle.resolve.specs.declared.verdicts.Verdict.TheVariants.{Revoked}
use Rattle.resolve.specs.declared.known.RevokedCommitment.{RevokedCommitment}
use Rattle.resolve.specs.declared.known.Known.{Known}
use Rattle.resolve.specs.Numbered.{AreNumbered}
use Rattle.watch.specs.Verdicts.{is_of, is_of_next, verdict_of}

-- a revoked commitment that is known, of the known terms, with a number that a transaction can carry
pub record IsKnownRevoked (known : Known) (r : RevokedCommitment) : Type 0 where
  pub among : Contains known.revoked r
  pub numbered : AreNumbered known.revoked
  pub terms : r.state.terms ≡ known.terms
  pub number : r.state.number ≤ MAX_NUMBER

-- a transaction is its commitment transaction, signed or not
abbrev pub IsTransactionOf : RevokedCommitment → Transaction → Type 0
IsTransactionOf r t = unsigned_transaction t ≡ transaction_of (commitment_in r.state)

-- no newer known commitment has the id. One can have it where neither has an output: the two sides' commitments of one number are then the same.
pub record HasNoNewer (known : Known) (id : List ℕ) : Type 0 where
  pub own : is_of id known.own.commitment ≡ false
  pub theirs : is_of id known.theirs ≡ false
  pub next : is_of_next id known.next ≡ false

-- its transaction has the verdict Revoked with its number, unless a newer known commitment has its id
abbrev pub RevokedAreFound : Type 0
RevokedAreFound =
    (known : Known) (r : RevokedCommitment) (t : Transaction) → IsKnownRevoked known r → IsTransactionOf r t → HasNoNewer known (transaction_id t)
    → verdict_of known t ≡ Revoked r.state.number

-- a known revoked commitment has the number, and the id of the transaction
pub record HasIdOf (known : Known) (t : Transaction) (n : ℕ) : Type 0 where
  pub revoked : RevokedCommitment
  pub among : Contains known.revoked revoked
  pub number : revoked.state.number ≡ n
  pub id : transaction_id t ≡ id_of (commitment_in revoked.state)

-- no transaction of another id has the verdict, and none of a newer known commitment's id
pub record IsRevokedAlone (known : Known) (t : Transaction) (n : ℕ) : Type 0 where
  pub one : HasIdOf known t n
  pub oldest : HasNoNewer known (transaction_id t)

abbrev pub OnlyRevokedAreFound : Type 0
OnlyRevokedAreFound = (known : Known) (t : Transaction) (n : ℕ) → verdict_of known t ≡ Revoked n → IsRevokedAlone known t n
