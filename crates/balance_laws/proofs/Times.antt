-- Where each deadline was kept, nothing is late.
use Rattle.std.proofs.Common.{ℕ, Bool, not, List, arith}
use Rattle.std.specs.List.{Contains}
use Rattle.chain.specs.Blocks.{Contents as Block}
use Rattle.terms.specs.declared.htlcs.Htlc.{Htlc}
use Rattle.commit.specs.Commitments.{Contents}
use Rattle.penalty.specs.Claimable.{Claimable}
use Rattle.channel.specs.Tokens.{contents_of}
use Rattle.worth_laws.specs.Shares.{Deductions}
use Rattle.safety.specs.Holdings.{Holding, terms_in}
use Rattle.safety.specs.Resolutions.{Resolution, unspent, ours, lost, broken, IsSlept, outgoing, IsPaidOrLate, paid, late}
use Rattle.balance_laws.specs.Claims.{AreWorth}
use Rattle.balance_laws.specs.Times.{DelayIsKept, ExpiryIsKept, IsPaid, NothingIsLate}

in_delay : (Broken : List Holding → List Block → Type 0) (hs : List Holding) (blocks : List Block) (c : Contents) (o : Claimable) → DelayIsKept blocks c o → Resolution Broken hs blocks (IsSlept c o) o → Resolution Broken hs blocks (λ coin height input. ⊥) o
in_delay Broken hs blocks c o kept (unspent coin is free) = unspent coin is free
in_delay Broken hs blocks c o kept (ours height t input n r) = ours height t input n r
in_delay Broken hs blocks c o kept (lost coin is height t input n w) = let l = kept coin is w.form height t input n in let m = w.late in absurd (omega (arith, l, m))
in_delay Broken hs blocks c o kept (broken z) = broken z

before_expiry : (Broken : List Holding → List Block → Type 0) (hs : List Holding) (blocks : List Block) (own : Bool) (c : Contents) (o : Claimable) → ExpiryIsKept blocks c (outgoing (not own)) o
    → Resolution Broken hs blocks (IsPaidOrLate own c o) o → Resolution Broken hs blocks (λ coin height input. IsPaid c (outgoing own) o input) o
before_expiry Broken hs blocks own c o kept (unspent coin is free) = unspent coin is free
before_expiry Broken hs blocks own c o kept (ours height t input n r) = ours height t input n r
before_expiry Broken hs blocks own c o kept (lost coin is height t input n (paid x on d shows)) = lost coin is height t input n (record { htlc = x; on = on; mine = d; shows = shows })
before_expiry Broken hs blocks own c o kept (lost coin is height t input n (late x on d m)) = let l = kept x on d height t input n in absurd (omega (arith, l, m))
before_expiry Broken hs blocks own c o kept (broken z) = broken z

-- what they are worth does not depend on what became of them
still_worth : (h : Holding) (known : Htlc → Bool) (claims : List Claimable) (fees_sat whole_msat : ℕ) (d : Deductions) (Before After : Claimable → Type 0) → ((o : Claimable) → Contains claims o → Before o → After o)
    → AreWorth h known claims fees_sat whole_msat d Before → AreWorth h known claims fees_sat whole_msat d After
still_worth h known claims fees_sat whole_msat d Before After f w = record { apart = w.apart; worth = w.worth; least = w.least; each = λ o i. f o i (w.each o i) }

-- yes: NothingIsLate
-- no: NothingIsLate: it holds whatever is broken
pub nothing_is_late : (Broken : List Holding → List Block → Type 0) → NothingIsLate Broken
nothing_is_late Broken = record {
  revoked = λ hs blocks h known stands k w kept. still_worth h known _ _ _ _ _ _ (λ o i r. in_delay Broken hs blocks (contents_of (terms_in h) k) o (kept o i) r) w;
  unrevoked = λ hs blocks h own known stands k w kept. still_worth h known _ _ _ _ _ _ (λ o i r. before_expiry Broken hs blocks own (contents_of (terms_in h) k) o (kept o i) r) w;
}
