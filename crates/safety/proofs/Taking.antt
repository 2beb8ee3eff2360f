-- What takes an output is what the peer signed.
use Rattle.std.proofs.Common.{◌≡◌, ℕ, List, inl, inr, ⊎_elim, arith}
use Rattle.std.specs.Prelude.{◌⊎◌}
use Rattle.std.specs.List.{All, Any}
use Rattle.std.proofs.lemmas.List.Elements.{All-contains, All-from_recursion}
use Rattle.tx.specs.declared.input.TxIn.{TxIn}
use Rattle.tx.specs.Fields.{Transaction, IsInput}
use Rattle.penalty.specs.declared.states.RevokedState.{RevokedState}
use Rattle.penalty.specs.Claimable.{Claimable, commitment_in}
use Rattle.safety.specs.Signing.{Signed, IsSignable, digest_of, AreSame, ListsCollide}
use Rattle.safety.specs.Ways.{by_peer, by_owner, by_collision}
use Rattle.safety.specs.Spending.{spend_on, IsLate, CanSpend, by_peer as can_by_peer, by_owner as can_by_owner, by_collision as can_by_collision}
use Rattle.safety.specs.Taking.{ShowsOnly, IsTaken, OnlyAsSigned}
use Rattle.safety.proofs.Claimed.{delay_short}
use Rattle.safety.proofs.Limits.{is_plain}
use Rattle.safety.proofs.OnChain.{who_spends}
use Rattle.safety.proofs.Signing.{one_digest, bare_input, limits_fit}

-- what was signed with one digest
signed_with : (s : Signed) (signed : List Signed) → IsSignable s → All IsSignable signed → Any (λ z. digest_of s ≡ digest_of z) signed → Any (AreSame s) signed ⊎ Any (ListsCollide s) signed
signed_with s signed g all (k, z, l, e, d) =
    ⊎_elim (λ (a : AreSame s z). inl (k, z, l, e, a)) (λ (b : ListsCollide s z). inr (k, z, l, e, b)) (one_digest s z g (All-contains IsSignable signed z all (k, l, e)) d)

taken : (state : RevokedState) (o : Claimable) (since height : ℕ) (t : Transaction) (input : TxIn) (signed : List Signed) → IsSignable (spend_on o t input) → All IsSignable signed
    → ShowsOnly (commitment_in state).keys signed (spend_on o t input) → CanSpend (IsLate (commitment_in state) since height) (commitment_in state) o t input → IsTaken state o since height t input signed
taken state o since height t input signed g all shows (can_by_peer key k s) = ⊎_elim by_peer (λ (z : Any (ListsCollide (spend_on o t input)) signed). by_collision (inr z)) (signed_with (spend_on o t input) signed g all (shows key k.peers s))
taken state o since height t input signed g all shows (can_by_owner b) = by_owner b
taken state o since height t input signed g all shows (can_by_collision z) = by_collision (inl z)

pub only_as_signed : OnlyAsSigned
only_as_signed state o height t input coin k signed all w =
    let p = is_plain state (delay_short state) o k.claimable in
    let code = p.short in
    let value = p.low in
    let good : IsInput input = All-contains IsInput t.inputs input (All-from_recursion IsInput t.inputs w.limits.inputs.each) w.among in
    taken state o coin.height height t input signed
    (record { transaction = limits_fit t w.limits; input = bare_input input good; code = omega (arith, code); value = omega (arith, value) }) all w.shows
    (who_spends state o height t input coin k)
