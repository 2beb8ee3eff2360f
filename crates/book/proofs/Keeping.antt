-- What a channel's flags say of a call that keeps penalties.
use Rattle.std.proofs.Common.{◌≡◌, ℕ, ◌+◌, ◌*◌, ◌<◌, ◌≤◌, ◌==◌, Bool, true, false, List, [], ◌∷◌, ◌++◌, length, Some, None, refl, sym, ap, ◌∙◌, subst, arith, set, ⊎_elim}
use Rattle.std.specs.Prelude.{slice_get, nat_lt, option_map}
use Rattle.std.proofs.lemmas.Bool.{cases_lt, and_from, eq-eqb}
use Rattle.std.proofs.lemmas.Bool.Decides.{nat_tests}
use Rattle.std.proofs.lemmas.List.{length-set, length-append}
use Rattle.std.proofs.lemmas.Option.{none-some, same_Some, slice_get_within}
use Rattle.keys.specs.Derivation.{point_of}
use Rattle.terms.specs.declared.amounts.TheConstants.{MSAT_PER_SAT}
use Rattle.terms.specs.declared.sides.Side.{Side}
use Rattle.terms.specs.declared.agreement.Terms.{Terms}
use Rattle.terms.specs.declared.views.View.{View}
use Rattle.terms.specs.Sides.{other}
use Rattle.commit.specs.Sums.{total_msat_of}
use Rattle.penalty.specs.Views.{has_heights}
use Rattle.penalty.specs.Paying.{refusal_of}
use Rattle.resolve.specs.declared.numbers.TheConstants.{MAX_NUMBER}
use Rattle.resolve.specs.Refusals.{refusal_by}
use Rattle.resolve.specs.Known.{refusal_of as known_refusal}
use Rattle.channel.specs.Keeping.{one_if}
use Rattle.channel.specs.Numbered.{SharesOut, AreNumbered}
use Rattle.commit.specs.Commitments.{commitment_of}
use Rattle.claim.specs.Claims.{ClaimParts}
use Rattle.channel.specs.declared.commitments.CommitmentState.{CommitmentState}
use Rattle.channel.specs.States.{State}
use Rattle.book.specs.declared.errors.KeepError.TheVariants.{NotRevoked, AlreadyKept, OtherState}
use Rattle.book.specs.Penalties.{claimable_in, are_claims_on, is_penalty_set}
use Rattle.book.specs.Books.{ChannelBook, is_kept}
use Rattle.book.specs.Replies.{keep_refusal}
use Rattle.book.specs.Kept.{AreFlags, IsBeside}
use Rattle.book.proofs.Numbered.{kept_one, one_unset}

-- ---- the penalties of a number

pub no_commitment : (s : State) (n : ℕ) (claims : List ClaimParts) → slice_get s.signed n ≡ None → is_penalty_set s n claims ≡ false
unfolding is_penalty_set
no_commitment s n claims none = rw none refl

pub no_secret : (s : State) (n : ℕ) (claims : List ClaimParts) (c : CommitmentState) → slice_get s.signed n ≡ Some c → slice_get s.secrets n ≡ None → is_penalty_set s n claims ≡ false
unfolding is_penalty_set
no_secret s n claims c found none = rw (found, none) refl

pub penalties_are : (s : State) (n : ℕ) (claims : List ClaimParts) (c : CommitmentState) (secret : List ℕ) → slice_get s.signed n ≡ Some c → slice_get s.secrets n ≡ Some secret
    → is_penalty_set s n claims ≡ are_claims_on (claimable_in (commitment_of s.held.terms c.view (other s.held.side) c.number (point_of secret))) claims
unfolding is_penalty_set
penalties_are s n claims c secret found revealed = rw (found, revealed) refl

-- ---- the refusals

pub less_true : (m n : ℕ) → m < n → nat_lt m n ≡ true
less_true m n less = grind (arith, nat_tests)

less_false : (m n : ℕ) → n ≤ m → nat_lt m n ≡ false
less_false m n most = grind (arith, nat_tests)

pub past_flags : (ch : ChannelBook) (flags : List Bool) (below n : ℕ) → IsBeside ch flags below → slice_get flags n ≡ None → nat_lt n (length ch.state.secrets) ≡ false
past_flags ch flags below n b none =
    let past : length flags ≤ n = ⊎_elim (λ less. absurd (none-some _ (sym none ∙ b.are.each n less))) (λ most. most) (cases_lt n (length flags)) in
    let count = b.count in
    less_false n (length ch.state.secrets) (omega (arith, count, past))

pub not_revoked : (ch : ChannelBook) (flags : List Bool) (below n : ℕ) (claims : List ClaimParts) → IsBeside ch flags below → slice_get flags n ≡ None → keep_refusal ch n claims ≡ Some NotRevoked
not_revoked ch flags below n claims b none =
    let e = past_flags ch flags below n b none in
    rw e refl

pub inside : (ch : ChannelBook) (flags : List Bool) (below n : ℕ) (flag : Bool) → IsBeside ch flags below → slice_get flags n ≡ Some flag → n < length ch.state.secrets
inside ch flags below n flag b there = subst (λ k. n < k) b.count (slice_get_within flags n flag there)

pub flagged : (ch : ChannelBook) (flags : List Bool) (below n : ℕ) (flag : Bool) → IsBeside ch flags below → slice_get flags n ≡ Some flag → is_kept ch.kept n ≡ flag
flagged ch flags below n flag b there = same_Some _ _ (sym (b.are.each n (slice_get_within flags n flag there)) ∙ there)

pub already_kept : (ch : ChannelBook) (flags : List Bool) (below n : ℕ) (flag : Bool) (claims : List ClaimParts) → IsBeside ch flags below → slice_get flags n ≡ Some flag → flag ≡ true
    → keep_refusal ch n claims ≡ Some AlreadyKept
already_kept ch flags below n flag claims b there is =
    let e = less_true n (length ch.state.secrets) (inside ch flags below n flag b there) in
    let f : is_kept ch.kept n ≡ true = flagged ch flags below n flag b there ∙ is in
    rw (e, f) refl

pub other_state : (ch : ChannelBook) (flags : List Bool) (below n : ℕ) (flag : Bool) (claims : List ClaimParts) → IsBeside ch flags below → slice_get flags n ≡ Some flag → flag ≡ false
    → is_penalty_set ch.state n claims ≡ false → keep_refusal ch n claims ≡ Some OtherState
other_state ch flags below n flag claims b there is others =
    let e = less_true n (length ch.state.secrets) (inside ch flags below n flag b there) in
    let f : is_kept ch.kept n ≡ false = flagged ch flags below n flag b there ∙ is in
    rw (e, f, others) refl

pub none_refused : (ch : ChannelBook) (flags : List Bool) (below n : ℕ) (flag : Bool) (claims : List ClaimParts) → IsBeside ch flags below → slice_get flags n ≡ Some flag → flag ≡ false
    → is_penalty_set ch.state n claims ≡ true → keep_refusal ch n claims ≡ None
none_refused ch flags below n flag claims b there is own =
    let e = less_true n (length ch.state.secrets) (inside ch flags below n flag b there) in
    let f : is_kept ch.kept n ≡ false = flagged ch flags below n flag b there ∙ is in
    rw (e, f, own) refl

-- ---- one more number

pub beside_kept : (ch : ChannelBook) (flags : List Bool) (below n next : ℕ) (kept : List ℕ) → IsBeside ch flags below → n < length ch.state.secrets → kept ≡ ch.kept ++ n ∷ [] → below ≤ next
    → next ≤ length (set flags n true)
    → ((m : ℕ) → below ≤ m → m < next → slice_get (set flags n true) m ≡ Some true)
    → (next < length (set flags n true) → slice_get (set flags n true) next ≡ Some false)
    → IsBeside (record { state = ch.state; kept = kept; closed = ch.closed }) (set flags n true) next
beside_kept ch flags below n next kept b within is from to passed stopped = record {
  count = length-set flags n true ∙ b.count;
  are = subst (λ ks. AreFlags ks (set flags n true) next) (sym is) (kept_one ch.kept flags below n next b.are (subst (λ k. n < k) (sym b.count) within) from to passed stopped);
}

-- one more commitment is revoked
pub beside_revoked : (ch : ChannelBook) (state : State) (secret : List ℕ) (flags new : List Bool) (below : ℕ) → IsBeside ch flags below → new ≡ flags ++ false ∷ [] → state.secrets ≡ ch.state.secrets ++ secret ∷ []
    → IsBeside (record { state = state; kept = ch.kept; closed = ch.closed }) new below
beside_revoked ch state secret flags new below b is more = record {
  count = ap length is ∙ length-append flags (false ∷ []) ∙ ap (λ n. n + 1) b.count ∙ sym (ap length more ∙ length-append ch.state.secrets (secret ∷ []));
  are = subst (λ fs. AreFlags ch.kept fs below) (sym is) (one_unset ch.kept flags below b.are);
}

-- ---- a commitment that shares out the capacity can be paid

pub payable : (terms : Terms) (view : View) → SharesOut terms view → refusal_of terms view ≡ None
payable terms view s =
    let a : length view.a.offered ≤ 483 = s.few_of_a in
    let b : length view.b.offered ≤ 483 = s.few_of_b in
    let few : nat_lt 3998 (length view.a.offered + length view.b.offered) ≡ false = less_false 3998 (length view.a.offered + length view.b.offered) (omega (arith, a, b)) in
    let heights : has_heights view ≡ true = and_from _ _ s.heights_of_a s.heights_of_b in
    let whole : (total_msat_of view == MSAT_PER_SAT * terms.capacity_sat) ≡ true = eq-eqb (total_msat_of view) (MSAT_PER_SAT * terms.capacity_sat) s.whole in
    rw (few, heights, whole) refl

-- so does each of the peer's commitments
pub peers_payable : (terms : Terms) (side : Side) (many n : ℕ) (cs : List CommitmentState) (c : CommitmentState) → AreNumbered terms side many cs → slice_get cs n ≡ Some c → refusal_of terms c.view ≡ None
peers_payable terms side many n cs c numbered there = payable terms c.view (numbered.each n c there).shares

-- one that a channel recorded can be known
pub recorded_known : (terms held : Terms) (side : Side) (many n : ℕ) (cs : List CommitmentState) (c : CommitmentState) → terms ≡ held → AreNumbered held side many cs → slice_get cs n ≡ Some c → n ≤ MAX_NUMBER
    → known_refusal terms c.view c.number ≡ None
recorded_known terms held side many n cs c same numbered there most =
    let number = (numbered.each n c there).number in
    let small : nat_lt MAX_NUMBER c.number ≡ false = less_false MAX_NUMBER c.number (omega (arith, number, most)) in
    rw small (ap (option_map refusal_by) (ap (λ (t : Terms). refusal_of t c.view) same ∙ peers_payable held side many n cs c numbered there))

pub one_at_most : (b : Bool) → one_if b ≤ 1
one_at_most true = omega arith
one_at_most false = omega arith
