-- A book keeps the penalties of each revocation before it signs again, so every history that calls lead to is guarded.
use Rattle.std.proofs.Common.{◌≡◌, ℕ, suc, ◌<◌, ◌==◌, ◌||◌, if◌then◌else◌, Bool, true, false, true≢false, List, [], ◌∷◌, ◌++◌, length, length-append, reverse, Option, Some, None, refl, sym, ap, ◌∙◌, subst, arith, ⊎_elim, inl, inr, ◌⊎◌}
use Rattle.std.specs.Prelude.{slice_get, option_map, unwrap_or}
use Rattle.std.proofs.lemmas.Bool.{eqb-true, eqb-false, eq-eqb, and_from, and_parts}
use Rattle.std.specs.List.{cons_option}
use Rattle.keys.specs.declared.compressed.Key.{Key}
use Rattle.claim.specs.Claims.{ClaimParts}
use Rattle.channel.specs.States.{Signing, State}
use Rattle.book.specs.declared.calls.Step.{Step}
use Rattle.updates.specs.declared.messages.PeerStep.TheVariants.{Update as Updated, CommitmentSigned}
use Rattle.book.specs.declared.calls.Step.TheVariants.{Own, Peer}
use Rattle.book.specs.declared.calls.Call.{Call}
use Rattle.book.specs.declared.calls.Call.TheVariants.{Open, Step as Stepping, Sign, Revoke, Keep, Release, Close}
use Rattle.book.specs.declared.calls.Entry.{Entry}
use Rattle.book.specs.Penalties.{is_penalty_set}
use Rattle.book.specs.Books.{ChannelBook, Channels, stepped, opened_by, with_state, with_kept, with_closed, channels_after, replayed, is_kept, first_missing}
use Rattle.book.specs.Replies.{is_accepted, answer_of}
use Rattle.book.specs.Accepted.{is_taken, are_accepted}
use Rattle.book.specs.Guarding.{is_revocation, revocations, number_kept, are_answered, is_allowed, all_allowed, AcceptedIsGuarded}
use Rattle.book.proofs.Lists.{at_here, at_other, unseen, as_before}
use Rattle.book.proofs.Accepting.{asked_ok, unless_ok, some_none, keeps, none_missing}
use Rattle.book.proofs.Missing.{all_kept, kept_or_new}

-- ---- what is known of the channel at an index

abbrev count_of : Option ChannelBook → ℕ
count_of o = unwrap_or (option_map (λ (ch : ChannelBook). length ch.state.secrets) o) 0

abbrev kept_of : Option ChannelBook → List ℕ
kept_of o = unwrap_or (option_map (λ (ch : ChannelBook). ch.kept) o) []

abbrev at : ℕ → List Entry → Option ChannelBook
at c es = slice_get (replayed es) c

-- each call was accepted
abbrev AreAccepted : Signing → List Entry → Type 0
AreAccepted tokens_of [] = Unit {0}
AreAccepted tokens_of (e ∷ es) = (is_taken tokens_of es e ≡ true) × AreAccepted tokens_of es

each_is : (tokens_of : Signing) (es : List Entry) → are_accepted tokens_of es ≡ true → AreAccepted tokens_of es
each_is tokens_of [] ok = tt
each_is tokens_of (e ∷ es) ok = let h = and_parts (is_taken tokens_of es e) (are_accepted tokens_of es) ok in (h.0, each_is tokens_of es h.1)

-- a step leaves the secrets
step_leaves : (step : Step) (s : State) → length (stepped step s).secrets ≡ length s.secrets
step_leaves (Own u) s = refl
step_leaves (Peer (Updated u)) s = refl
step_leaves (Peer (CommitmentSigned tokens)) s = refl

-- ---- there are as many secrets as revocations came

revoked_once : (c d : ℕ) (secret : List ℕ) (next_point : Key) (chs : Channels) (ch : ChannelBook) → slice_get chs d ≡ Some ch → (here : Bool) → (d == c) ≡ here
    → count_of (slice_get (channels_after (Revoke d (record { secret = secret; next_point = next_point })) chs) c) ≡ (if here then suc (count_of (slice_get chs c)) else count_of (slice_get chs c))
revoked_once c d secret next_point chs ch found true e =
    subst (λ k. count_of (slice_get (channels_after (Revoke d (record { secret = secret; next_point = next_point })) chs) k) ≡ suc (count_of (slice_get chs k))) (eqb-true d c e)
    (ap count_of (at_here _ d chs) ∙ rw found (omega (arith, length-append ch.state.secrets (secret ∷ []))))
revoked_once c d secret next_point chs ch found false e = ap count_of (at_other _ d c chs (eqb-false d c e))

counted_once : (c : ℕ) (call : Call) (tokens_of : Signing) (chs : Channels) → is_accepted (answer_of tokens_of chs call) ≡ true
    → count_of (slice_get (channels_after call chs) c) ≡ (if is_revocation c call then suc (count_of (slice_get chs c)) else count_of (slice_get chs c))
counted_once c (Open o) tokens_of chs ok = as_before (λ (ch : ChannelBook). length ch.state.secrets) 0 (opened_by o) refl c chs
counted_once c (Stepping d step) tokens_of chs ok = ap (λ o. unwrap_or o 0) (unseen (λ (ch : ChannelBook). length ch.state.secrets) (with_state (stepped step)) (λ ch. step_leaves step ch.state) d c chs)
counted_once c (Sign d) tokens_of chs ok = ap (λ o. unwrap_or o 0) (unseen (λ (ch : ChannelBook). length ch.state.secrets) _ (λ ch. refl) d c chs)
counted_once c (Revoke d revocation) tokens_of chs ok = let found = asked_ok _ (slice_get chs d) _ ok in revoked_once c d revocation.secret revocation.next_point chs found.0 found.1 (d == c) refl
counted_once c (Keep d n claims) tokens_of chs ok = ap (λ o. unwrap_or o 0) (unseen (λ (ch : ChannelBook). length ch.state.secrets) (with_kept n) (λ ch. refl) d c chs)
counted_once c (Release d batch) tokens_of chs ok = refl
counted_once c (Close d) tokens_of chs ok = ap (λ o. unwrap_or o 0) (unseen (λ (ch : ChannelBook). length ch.state.secrets) with_closed (λ ch. refl) d c chs)

counted : (c : ℕ) (tokens_of : Signing) (es : List Entry) → AreAccepted tokens_of es → count_of (at c es) ≡ revocations c es
counted c tokens_of [] ok = refl
counted c tokens_of (e ∷ es) ok =
    counted_once c e.call tokens_of (replayed es) ok.0 ∙ ap (λ n. if is_revocation c e.call then suc n else n) (counted c tokens_of es ok.1)

-- ---- a number is kept after a call if it was before, or if the call keeps its penalties

abbrev Kept : ℕ → ℕ → Call → Channels → Type 0
Kept c n call chs =
    is_kept (kept_of (slice_get (channels_after call chs) c)) n ≡ true
    → (is_kept (kept_of (slice_get chs c)) n ≡ true) ⊎ ((number_kept c chs call ≡ Some n) × (n < count_of (slice_get chs c)))

-- the kept numbers do not change
unchanged : (c n : ℕ) (call : Call) (chs : Channels) → kept_of (slice_get (channels_after call chs) c) ≡ kept_of (slice_get chs c) → Kept c n call chs
unchanged c n call chs same h = inl (ap (λ ks. is_kept ks n) (sym same) ∙ h)

keep_once : (c n d m : ℕ) (claims : List ClaimParts) (chs : Channels) (ch : ChannelBook) → slice_get chs d ≡ Some ch → m < length ch.state.secrets
    → is_penalty_set ch.state m claims ≡ true → (here : Bool) → (d == c) ≡ here → Kept c n (Keep d m claims) chs
keep_once c n d m claims chs ch found below is true e h = ⊎_elim
    (λ old. inl (ap (λ o. is_kept (kept_of o) n) there ∙ old))
    (λ new. inr (rw (e, there, is) (ap Some new), subst (λ k. k < count_of (slice_get chs c)) new (subst (λ o. m < count_of o) (sym there) below)))
    (kept_or_new ch.kept m n (ap (λ ks. is_kept ks n) (sym after) ∙ h))
  where
    same : d ≡ c
    same = eqb-true d c e

    there : slice_get chs c ≡ Some ch
    there = ap (slice_get chs) (sym same) ∙ found

    after : kept_of (slice_get (channels_after (Keep d m claims) chs) c) ≡ ch.kept ++ m ∷ []
    after = subst (λ k. kept_of (slice_get (channels_after (Keep d m claims) chs) k) ≡ ch.kept ++ m ∷ []) same (ap kept_of (at_here (with_kept m) d chs) ∙ rw found refl)
keep_once c n d m claims chs ch found below is false e h = unchanged c n (Keep d m claims) chs (ap kept_of (at_other (with_kept m) d c chs (eqb-false d c e))) h

kept_once : (c n : ℕ) (call : Call) (tokens_of : Signing) (chs : Channels) → is_accepted (answer_of tokens_of chs call) ≡ true → Kept c n call chs
kept_once c n (Open o) tokens_of chs ok = unchanged c n (Open o) chs (as_before (λ (ch : ChannelBook). ch.kept) [] (opened_by o) refl c chs)
kept_once c n (Stepping d step) tokens_of chs ok = unchanged c n (Stepping d step) chs (ap (λ o. unwrap_or o []) (unseen (λ (ch : ChannelBook). ch.kept) _ (λ ch. refl) d c chs))
kept_once c n (Sign d) tokens_of chs ok = unchanged c n (Sign d) chs (ap (λ o. unwrap_or o []) (unseen (λ (ch : ChannelBook). ch.kept) _ (λ ch. refl) d c chs))
kept_once c n (Revoke d revocation) tokens_of chs ok =
    unchanged c n (Revoke d revocation) chs (ap (λ o. unwrap_or o []) (unseen (λ (ch : ChannelBook). ch.kept) _ (λ ch. refl) d c chs))
kept_once c n (Keep d m claims) tokens_of chs ok =
    let found = asked_ok _ (slice_get chs d) _ ok in
    let keeping = keeps found.0 m claims (unless_ok _ _ _ found.2) in
    keep_once c n d m claims chs found.0 found.1 keeping.0 keeping.2 (d == c) refl
kept_once c n (Release d batch) tokens_of chs ok = inl
kept_once c n (Close d) tokens_of chs ok = unchanged c n (Close d) chs (ap (λ o. unwrap_or o []) (unseen (λ (ch : ChannelBook). ch.kept) with_closed (λ ch. refl) d c chs))

-- only numbers of revoked commitments are kept
kept_below : (c n : ℕ) (tokens_of : Signing) (es : List Entry) → AreAccepted tokens_of es → is_kept (kept_of (at c es)) n ≡ true → n < revocations c es
kept_below c n tokens_of [] ok h = absurd (true≢false (sym h))
kept_below c n tokens_of (e ∷ es) ok h = ⊎_elim
    (λ old. further (kept_below c n tokens_of es ok.1 old))
    (λ new. further (subst (λ k. n < k) (counted c tokens_of es ok.1) new.1))
    (kept_once c n e.call tokens_of (replayed es) ok.0 h)
  where
    further : n < revocations c es → n < revocations c (e ∷ es)
    further lt = by (is_revocation c e.call)
      where
        by : (t : Bool) → n < (if t then suc (revocations c es) else revocations c es)
        by true = omega arith
        by false = lt

-- ---- each revocation is answered

-- each revoked commitment is kept later, or in these entries
abbrev AreKept : ℕ → List ℕ → List Entry → Type 0
AreKept c later es = (n : ℕ) → n < revocations c es → (is_kept later n ≡ true) ⊎ (is_kept (kept_of (at c es)) n ≡ true)

-- a revocation keeps nothing
revokes_alone : (c n : ℕ) (chs : Channels) (call : Call) → is_revocation c call ≡ true → number_kept c chs call ≡ Some n → ⊥
revokes_alone c n chs (Open o) e kept = true≢false (sym e)
revokes_alone c n chs (Stepping d step) e kept = true≢false (sym e)
revokes_alone c n chs (Sign d) e kept = true≢false (sym e)
revokes_alone c n chs (Revoke d revocation) e kept = some_none n (sym kept)
revokes_alone c n chs (Keep d m claims) e kept = true≢false (sym e)
revokes_alone c n chs (Release d batch) e kept = true≢false (sym e)
revokes_alone c n chs (Close d) e kept = true≢false (sym e)

joins_old : (o : Option ℕ) (later : List ℕ) (n : ℕ) → is_kept later n ≡ true → is_kept (cons_option o later) n ≡ true
joins_old None later n h = h
joins_old (Some m) later n h = by (m == n)
  where
    by : (t : Bool) → (t || is_kept later n) ≡ true
    by true = refl
    by false = h

joins_new : (o : Option ℕ) (later : List ℕ) (n : ℕ) → o ≡ Some n → is_kept (cons_option o later) n ≡ true
joins_new o later n e = rw (e, eq-eqb n n refl) refl

answered : (c : ℕ) (tokens_of : Signing) (later : List ℕ) (es : List Entry) → AreAccepted tokens_of es → AreKept c later es → are_answered c later es ≡ true
answered c tokens_of later [] ok kept = refl
answered c tokens_of later (e ∷ es) ok kept = and_from _ _ (here (is_revocation c e.call) refl) (answered c tokens_of (cons_option (number_kept c (replayed es) e.call) later) es ok.1 before)
  where
    at_once : is_revocation c e.call ≡ true → is_kept later (revocations c es) ≡ true
    at_once e1 = ⊎_elim
        (λ found. found)
        (λ now. ⊎_elim
        (λ old. absurd (omega (arith, kept_below c (revocations c es) tokens_of es ok.1 old)))
        (λ new. absurd (revokes_alone c (revocations c es) (replayed es) e.call e1 new.0))
        (kept_once c (revocations c es) e.call tokens_of (replayed es) ok.0 now))
        (kept (revocations c es) (rw e1 (omega arith)))

    here : (t : Bool) → is_revocation c e.call ≡ t → (if t then is_kept later (revocations c es) else true) ≡ true
    here true e1 = at_once e1
    here false e1 = refl

    further : (n : ℕ) → n < revocations c es → n < revocations c (e ∷ es)
    further n lt = by (is_revocation c e.call)
      where
        by : (t : Bool) → n < (if t then suc (revocations c es) else revocations c es)
        by true = omega arith
        by false = lt

    before : AreKept c (cons_option (number_kept c (replayed es) e.call) later) es
    before n lt = ⊎_elim
        (λ found. inl (joins_old (number_kept c (replayed es) e.call) later n found))
        (λ now. ⊎_elim
        (λ old. inr old)
        (λ new. inl (joins_new (number_kept c (replayed es) e.call) later n new.0))
        (kept_once c n e.call tokens_of (replayed es) ok.0 now))
        (kept n (further n lt))

-- ---- a book signs only if no penalties are missing

allowed_to_sign : (tokens_of : Signing) (c : ℕ) (es : List Entry) → AreAccepted tokens_of es → (ch : ChannelBook) → at c es ≡ Some ch → first_missing ch ≡ None
    → are_answered c [] es ≡ true
allowed_to_sign tokens_of c es before ch found nothing = answered c tokens_of [] es before each
  where
    each : AreKept c [] es
    each n lt =
        let below : n < count_of (at c es) = subst (λ k. n < k) (sym (counted c tokens_of es before)) lt in
        let short : n < length ch.state.secrets = subst (λ o. n < count_of o) found below in
        inr (subst (λ o. is_kept (kept_of o) n ≡ true) (sym found) (all_kept ch.kept 0 (length ch.state.secrets) nothing n (omega arith) (omega arith)))

allowed : (tokens_of : Signing) (call : Call) (es : List Entry) → AreAccepted tokens_of es → is_accepted (answer_of tokens_of (replayed es) call) ≡ true → is_allowed call es ≡ true
allowed tokens_of (Open o) es before ok = refl
allowed tokens_of (Stepping d step) es before ok = refl
allowed tokens_of (Sign c) es before ok =
    let found = asked_ok _ (at c es) _ ok in
    allowed_to_sign tokens_of c es before found.0 found.1 (none_missing found.0 (unless_ok _ _ _ found.2))
allowed tokens_of (Revoke d revocation) es before ok = refl
allowed tokens_of (Keep d n claims) es before ok = refl
allowed tokens_of (Release d batch) es before ok = refl
allowed tokens_of (Close d) es before ok = refl

all_are : (tokens_of : Signing) (es : List Entry) → AreAccepted tokens_of es → all_allowed es ≡ true
all_are tokens_of [] ok = refl
all_are tokens_of (e ∷ es) ok = and_from _ _ (allowed tokens_of e.call es ok.1 ok.0) (all_are tokens_of es ok.1)

pub accepted_is_guarded : AcceptedIsGuarded
accepted_is_guarded tokens_of history ok = all_are tokens_of (reverse history) (each_is tokens_of (reverse history) ok)
