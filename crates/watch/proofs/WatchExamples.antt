-- Small cases that were worked out by hand.
use Rattle.std.proofs.Common.{◌≡◌, ℕ, true, false, map, List, [], ◌∷◌, length, ◌==◌, Some, None, refl, ap, ◌∙◌}
use Rattle.std.specs.Str.{bytes_eq}
use Rattle.sha2.specs.Sha256.{sha256}
use Rattle.tx.specs.declared.input.OutPoint.{OutPoint}
use Rattle.tx.specs.declared.input.TxIn.{TxIn}
use Rattle.tx.specs.Fields.{Transaction}
use Rattle.terms.specs.declared.agreement.Terms.{Terms}
use Rattle.terms.specs.declared.htlcs.Htlc.{Htlc}
use Rattle.claim.specs.Claims.{ClaimParts}
use Rattle.commit.specs.declared.fees.Direction.TheVariants.{Offered}
use Rattle.commit.specs.declared.outputs.HtlcOutput.{HtlcOutput}
use Rattle.commit.specs.Commitments.{id_of, htlcs_of}
use Rattle.penalty.specs.Claimable.{Claimable, commitment_in}
use Rattle.resolve.specs.declared.known.Known.{Known}
use Rattle.resolve.specs.declared.known.RevokedCommitment.{RevokedCommitment}
use Rattle.resolve.specs.declared.verdicts.Verdict.TheVariants.{Theirs, Revoked, Unknown}
use Rattle.watch.specs.declared.spends.Spend.{Spend}
use Rattle.watch.specs.declared.unclaimed.Given.{Given}
use Rattle.watch.specs.declared.learning.CommitmentHtlcs.{CommitmentHtlcs}
use Rattle.watch.specs.Verdicts.{number_by, revoked_if, verdict_of}
use Rattle.watch.specs.Watching.{unclaimed, nothing_seen, seen_up_to, spends_in}
use Rattle.watch.specs.Learning.{learnt_if, learnt_from, learnt_in, htlcs_by}
use Rattle.watch.specs.Sights.{IsSight}

abbrev output : ℕ → OutPoint
output index = record { txid = 7 ∷ []; index = index }

abbrev given : ℕ → ℕ → ℕ → Given
given index path height = record { outpoint = output index; path = path; height = height }

-- a claim was given if its outpoint and its path were, and is given once
module _ (any : Claimable) where
  abbrev claim : ℕ → ℕ → Claimable
  claim index path = record any { place = record { outpoint = output index; value = 1000; program = [] }; path = path }

  once : unclaimed 9 (given 0 1 3 ∷ []) (claim 0 1 ∷ claim 0 2 ∷ claim 1 1 ∷ claim 0 2 ∷ []) ≡ claim 0 2 ∷ claim 1 1 ∷ []
  unfolding unclaimed
  once = refl

-- blocks 6 and 7 were taken off
forgotten : (seen_up_to 5 (record { spends = []; given = given 0 0 4 ∷ given 1 0 5 ∷ given 2 0 6 ∷ given 3 0 7 ∷ [] })).given ≡ given 0 0 4 ∷ given 1 0 5 ∷ []
forgotten = refl

abbrev spend : Transaction → ℕ → Spend
spend t height = record { height = height; tx = t }

forgotten_spends : (t : Transaction) → (seen_up_to 5 (record { spends = spend t 4 ∷ spend t 5 ∷ spend t 6 ∷ spend t 7 ∷ []; given = [] })).spends ≡ spend t 4 ∷ spend t 5 ∷ []
forgotten_spends t = refl

-- the revoked commitment of the number that a transaction carries, where the id is its own: the owner's peer has one of that number too
another_id : (id : List ℕ) (r : RevokedCommitment) → bytes_eq (id_of (commitment_in r.state)) id ≡ false → map (revoked_if id 3) (None ∷ Some r ∷ []) ≡ Unknown ∷ Unknown ∷ []
another_id id r e = rw e refl

its_id : (id : List ℕ) (r : RevokedCommitment) → bytes_eq (id_of (commitment_in r.state)) id ≡ true → revoked_if id 3 (Some r) ≡ Revoked 3
its_id id r e = rw e refl

-- no number unless there is exactly one input
no_number : (terms : Terms) (i j : TxIn) → (number_by terms 0 [] ≡ None) × (number_by terms 0 (i ∷ j ∷ []) ≡ None)
no_number terms i j = (refl, refl)

-- a preimage of that very HTLC's hash
module _ (x hash other : List ℕ) where
  abbrev htlc : List ℕ → Htlc
  htlc h = record { id = 0; amount_msat = 1000000; hash = h; expiry_height = 500 }

  abbrev commitment : CommitmentHtlcs
  commitment = record { id = 7 ∷ []; htlcs = record { index = 0; direction = Offered; htlc = htlc hash } ∷ record { index = 2; direction = Offered; htlc = htlc other } ∷ [] }

  learnt : bytes_eq (sha256 x) hash ≡ true → bytes_eq (sha256 x) other ≡ false
      → (learnt_if (commitment ∷ []) (output 0) (Some x) ≡ Some x)
      × (learnt_if (commitment ∷ []) (output 1) (Some x) ≡ None)
      × (learnt_if (commitment ∷ []) (output 2) (Some x) ≡ None)
      × (learnt_if (commitment ∷ []) (record { txid = 8 ∷ []; index = 0 }) (Some x) ≡ None)
      × (learnt_if (commitment ∷ []) (output 0) None ≡ None)
  learnt e f = (rw e refl, refl, rw f refl, refl, refl)

-- what inputs show: an HTLC of the peer's commitment by three items, and one of one's own by five
module _ (known : Known) (x y hash other a b script : List ℕ) (claims : List ClaimParts) (learnt : List (List ℕ)) where
  abbrev spot : ℕ → OutPoint
  spot index = record { txid = 8 ∷ []; index = index }

  abbrev by_three : ℕ → List ℕ → TxIn
  by_three index item = record { outpoint = spot index; sequence = 0; witness = a ∷ item ∷ script ∷ [] }

  abbrev by_five : ℕ → List ℕ → TxIn
  by_five index item = record { outpoint = spot index; sequence = 0; witness = [] ∷ a ∷ b ∷ item ∷ script ∷ [] }

  abbrev with_inputs : List TxIn → Transaction
  with_inputs inputs = record { version = 2; inputs = inputs; outputs = []; lock_time = 0 }

  abbrev offered : ℕ → List ℕ → HtlcOutput
  offered index h = record { index = index; direction = Offered; htlc = record { id = 0; amount_msat = 1000000; hash = h; expiry_height = 500 } }

  abbrev two : List CommitmentHtlcs
  two = record { id = 8 ∷ []; htlcs = offered 0 hash ∷ offered 2 other ∷ [] } ∷ []

  -- each input shows its own preimage, in order
  from_both : (length x == 32) ≡ true → (length y == 32) ≡ true → bytes_eq (sha256 x) hash ≡ true → bytes_eq (sha256 y) other ≡ true
      → (learnt_from two (by_three 0 x ∷ by_five 2 y ∷ []) ≡ x ∷ y ∷ [])
      × (learnt_from two (by_five 2 y ∷ by_three 1 x ∷ by_three 0 x ∷ []) ≡ y ∷ x ∷ [])
      × (learnt_in two (with_inputs (by_three 0 x ∷ []) ∷ with_inputs [] ∷ with_inputs (by_three 1 y ∷ by_three 2 y ∷ []) ∷ []) ≡ x ∷ y ∷ [])
  from_both k l e f = (rw (k, l, e, f) refl, rw (k, l, e, f) refl, rw (k, l, e, f) refl)

  abbrev closing : Transaction
  closing = with_inputs (record { outpoint = output 9; sequence = 0; witness = [] ∷ a ∷ b ∷ script ∷ [] } ∷ [])

  abbrev block : List Transaction
  block = closing ∷ with_inputs (by_three 0 x ∷ []) ∷ []

  -- in the block of the close itself
  with_the_close : known.terms.funding ≡ output 9 → verdict_of known closing ≡ Theirs → id_of known.theirs ≡ 8 ∷ [] → htlcs_of known.theirs ≡ offered 0 hash ∷ [] → (length x == 32) ≡ true
      → bytes_eq (sha256 x) hash ≡ true → IsSight nothing_seen 6 block known claims learnt → learnt ≡ x ∷ []
  with_the_close f v i h k e s =
      s.shown ∙ ap (λ (spends : List Spend). learnt_in (htlcs_by known spends) block) (ap (λ (o : OutPoint). spends_in o 6 block) f) ∙ rw (v, i, h, k, e) refl
