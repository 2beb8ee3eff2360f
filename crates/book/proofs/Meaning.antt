-- A guarded history, entry by entry.
use Rattle.std.proofs.Common.{◌≡◌, ℕ, ◌==◌, ◌&&◌, if◌then◌else◌, Bool, true, false, true≢false, List, [], ◌∷◌, ◌++◌, reverse, Option, Some, None, refl, sym, ap, ◌∙◌, subst, ⊎_elim, inl, inr, ◌⊎◌}
use Rattle.std.specs.Prelude.{slice_get}
use Rattle.std.proofs.lemmas.Bool.{and_parts, eqb-true, or_cases}
use Rattle.std.proofs.lemmas.Option.{none-some, same_Some}
use Rattle.std.specs.List.{cons_option}
use Rattle.std.specs.Option.{option_map_or}
use Rattle.claim.specs.Claims.{ClaimParts}
use Rattle.penalty.specs.Claimable.{Claimable}
use Rattle.channel.specs.declared.commitments.CommitmentState.{CommitmentState}
use Rattle.channel.specs.States.{State}
use Rattle.book.specs.declared.calls.Call.{Call}
use Rattle.book.specs.declared.calls.Call.TheVariants.{Open, Step, Sign, Revoke, Keep, Release, Close}
use Rattle.book.specs.declared.calls.Entry.{Entry}
use Rattle.claim.specs.Opcodes.{◌>>=◌}
use Rattle.book.specs.Penalties.{revoked_contents, claimable_in, claimable_at, are_claims_on}
use Rattle.book.specs.Books.{Channels, replayed, is_kept}
use Rattle.book.specs.Guarding.{is_revocation, revocations, is_set_in, number_kept, are_answered, is_allowed, all_allowed, is_guarded}
use Rattle.book.proofs.Sets.{AllOpen, open_from}

not_so : {P : Type 0} → false ≡ true → P
not_so e = absurd (true≢false (sym e))

-- ---- the test of the claims that a call keeps

pub found_on : (o : Option (List Claimable)) (claims : List ClaimParts) → option_map_or (λ os. are_claims_on os claims) o false ≡ true → (os : List Claimable) × (o ≡ Some os) × (are_claims_on os claims ≡ true)
found_on None claims h = not_so h
found_on (Some os) claims h = (os, refl, h)

pub open_at : (s : State) (n : ℕ) (os : List Claimable) → claimable_at s n ≡ Some os → AllOpen os
unfolding claimable_in
open_at s n os e = by (slice_get s.signed n) (slice_get s.secrets n) e
  where
    by : (signed : Option CommitmentState) (secret : Option (List ℕ)) → (signed >>= (λ c. secret >>= (λ k. Some (claimable_in (revoked_contents s c k))))) ≡ Some os → AllOpen os
    by None secret e = absurd (none-some os e)
    by (Some c) None e = absurd (none-some os e)
    by (Some c) (Some k) e = subst AllOpen (same_Some (claimable_in (revoked_contents s c k)) os e) (open_from (revoked_contents s c k) 0 (revoked_contents s c k).outputs)

-- a call's claims passed the test of the penalties of a number in a channel, given the channels before the call
pub record IsTested (c n : ℕ) (chs : Channels) (call : Call) : Type 0 where
  pub claims : List ClaimParts
  pub keeps : call ≡ Keep c n claims
  pub set : is_set_in (slice_get chs c) n claims ≡ true

tested_set : (c n : ℕ) (chs : Channels) (claims : List ClaimParts) → is_set_in (slice_get chs c) n claims ≡ true → IsTested c n chs (Keep c n claims)
tested_set c n chs claims h = record { claims = claims; keeps = refl; set = h }

tested_of : (c n : ℕ) (chs : Channels) (call : Call) → number_kept c chs call ≡ Some n → IsTested c n chs call
tested_of c n chs (Open o) e = absurd (none-some n e)
tested_of c n chs (Step d step) e = absurd (none-some n e)
tested_of c n chs (Sign d) e = absurd (none-some n e)
tested_of c n chs (Revoke d revocation) e = absurd (none-some n e)
tested_of c n chs (Keep d m claims) e = by (d == c && is_set_in (slice_get chs c) m claims) refl e
  where
    by : (t : Bool) → (d == c && is_set_in (slice_get chs c) m claims) ≡ t → (if t then Some m else None) ≡ Some n → IsTested c n chs (Keep d m claims)
    by false h e = absurd (none-some n e)
    by true h e =
        let parts = and_parts (d == c) (is_set_in (slice_get chs c) m claims) h in
        let same : m ≡ n = same_Some m n e in
        subst (λ x. IsTested c n chs (Keep x m claims)) (sym (eqb-true d c parts.0))
        (subst (λ y. IsTested c n chs (Keep c y claims)) (sym same) (tested_set c n chs claims (subst (λ y. is_set_in (slice_get chs c) y claims ≡ true) same parts.1)))
tested_of c n chs (Release d batch) e = absurd (none-some n e)
tested_of c n chs (Close d) e = absurd (none-some n e)

-- ---- where it stands

-- a number that is kept after one more is
kept_by : (o : Option ℕ) (later : List ℕ) (n : ℕ) → is_kept (cons_option o later) n ≡ true → (is_kept later n ≡ true) ⊎ (o ≡ Some n)
kept_by None later n h = inl h
kept_by (Some m) later n h = ⊎_elim (λ e. inr (ap Some (eqb-true m n e))) (λ old. inl old) (or_cases (m == n) (is_kept later n) h)

-- one of the entries between a revocation and a signature passed the test
pub record IsTestedBetween (c : ℕ) (between : List Entry) (revoking : Entry) (earlier : List Entry) : Type 0 where
  pub front : List Entry
  pub keeping : Entry
  pub back : List Entry
  pub split : between ≡ front ++ keeping ∷ back
  pub kept : IsTested c (revocations c earlier) (replayed (back ++ revoking ∷ earlier)) keeping.call

-- one more entry in front
further : {c : ℕ} {between earlier : List Entry} {revoking : Entry} (x : Entry) → IsTestedBetween c between revoking earlier → IsTestedBetween c (x ∷ between) revoking earlier
further x k = record { front = x ∷ k.front; keeping = k.keeping; back = k.back; split = ap (λ es. x ∷ es) k.split; kept = k.kept }

answers_one : (c : ℕ) (later : List ℕ) (between earlier : List Entry) (revoking : Entry) → is_revocation c revoking.call ≡ true
    → are_answered c later (between ++ revoking ∷ earlier) ≡ true → (is_kept later (revocations c earlier) ≡ true) ⊎ IsTestedBetween c between revoking earlier
answers_one c later [] earlier revoking is h = inl (ap (λ t. if t then is_kept later (revocations c earlier) else true) (sym is) ∙ (and_parts _ _ h).0)
answers_one c later (x ∷ xs) earlier revoking is h = ⊎_elim
    (λ known. ⊎_elim
    (λ old. inl old)
    (λ new. inr (record { front = []; keeping = x; back = xs; split = refl; kept = tested_of c (revocations c earlier) (replayed (xs ++ revoking ∷ earlier)) x.call new }))
    (kept_by (number_kept c (replayed (xs ++ revoking ∷ earlier)) x.call) later (revocations c earlier) known))
    (λ k. inr (further x k))
    (answers_one c (cons_option (number_kept c (replayed (xs ++ revoking ∷ earlier)) x.call) later) xs earlier revoking is (and_parts _ _ h).1)

-- the call of each entry is allowed
allowed_at : (later rest : List Entry) (e : Entry) → all_allowed (later ++ e ∷ rest) ≡ true → is_allowed e.call rest ≡ true
allowed_at [] rest e h = (and_parts _ _ h).0
allowed_at (x ∷ later) rest e h = allowed_at later rest e (and_parts _ _ h).1

pub tested_between : (history later between earlier : List Entry) (c : ℕ) (signing revoking : Entry) → is_guarded history ≡ true
    → reverse history ≡ later ++ signing ∷ (between ++ revoking ∷ earlier) → signing.call ≡ Sign c → is_revocation c revoking.call ≡ true → IsTestedBetween c between revoking earlier
tested_between history later between earlier c signing revoking guarded split signs is = ⊎_elim
    (λ none. absurd (true≢false (sym none)))
    (λ k. k)
    (answers_one c [] between earlier revoking is answered)
  where
    at : is_allowed signing.call (between ++ revoking ∷ earlier) ≡ true
    at = allowed_at later (between ++ revoking ∷ earlier) signing (ap all_allowed (sym split) ∙ guarded)

    answered : are_answered c [] (between ++ revoking ∷ earlier) ≡ true
    answered = ap (λ call. is_allowed call (between ++ revoking ∷ earlier)) (sym signs) ∙ at
