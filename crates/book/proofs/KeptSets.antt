-- Kept sets are exact: accepted claims on all that the peer's revoked commitment lets this side claim, whatever comes later.
use Rattle.std.proofs.Common.{◌≡◌, ℕ, zero, suc, ◌≤◌, ◌||◌, ⊎_elim, Bool, true, false, true≢false, List, [], ◌∷◌, ◌++◌, length, reverse, Option, Some, None, Ok, refl, sym, ap, ◌∙◌, subst, arith, Contains, inl, inr}
use Rattle.std.specs.Prelude.{slice_get, nat_le}
use Rattle.std.specs.List.{AllByRecursion}
use Rattle.std.proofs.lemmas.Bool.{and_parts, and_from}
use Rattle.std.proofs.lemmas.Option.{none-some, same_Some}
use Rattle.std.proofs.lemmas.List.{append_assoc, reverse-reverse}
use Rattle.std.proofs.lemmas.List.Elements.{Contains-append_cases, Contains-append_left, Contains-append_right, Contains-push}
use Rattle.keys.specs.Derivation.{point_of}
use Rattle.keys.specs.declared.compressed.Key.{Key}
use Rattle.terms.specs.declared.agreement.Terms.{Terms}
use Rattle.terms.specs.declared.views.View.{View}
use Rattle.terms.specs.Sides.{other}
use Rattle.updates.specs.Refusals.{first_refusal, covers_nothing}
use Rattle.updates.specs.declared.errors.ChannelError.TheVariants.{NotYourTurn, NoUpdates as NothingCovered}
use Rattle.claim.specs.Claims.{ClaimParts, IsWhole}
use Rattle.penalty.specs.Claimable.{Claimable}
use Rattle.penalty.specs.Sets.{AreClaimsOn}
use Rattle.penalty.specs.Paying.{CanPay}
use Rattle.channel.specs.declared.limits.TheConstants.{LAST_NUMBER}
use Rattle.channel.specs.declared.commitments.CommitmentState.{CommitmentState}
use Rattle.updates.specs.declared.messages.PeerStep.TheVariants.{Update as Updated, CommitmentSigned}
use Rattle.channel.specs.declared.messages.Message.TheVariants.{Step as StepMessage, RevokeAndAck}
use Rattle.channel.specs.Numbered.{SharesOut}
use Rattle.channel.specs.States.{Signing, State, update_of, peers_next, sign_refusal as channel_refusal, after_sign, after}
use Rattle.channel.specs.Peers.{IsLived, starts, updated_once, signed_once, received_once}
use Rattle.channel.specs.Recording.{AreByNumber, SidesNumber}
use Rattle.channel.specs.Tokens.{peer_tokens}
use Rattle.claim.specs.Opcodes.{◌>>=◌}
use Rattle.book.specs.declared.calls.Step.{Step}
use Rattle.book.specs.declared.calls.Step.TheVariants.{Own, Peer}
use Rattle.book.specs.declared.calls.Call.{Call}
use Rattle.book.specs.declared.calls.Call.TheVariants.{Open, Step as Stepping, Sign, Revoke, Keep, Release, Close}
use Rattle.book.specs.declared.calls.Entry.{Entry}
use Rattle.book.specs.declared.errors.SignError.TheVariants.{AwaitingRevocation, NoUpdates}
use Rattle.book.specs.Penalties.{revoked_contents, claimable_in, claimable_at, is_penalty_set, IsChecked}
use Rattle.book.specs.Books.{ChannelBook, Channels, at_index, stepped, opened_by, with_state, with_kept, with_closed, first_missing, channels_after, replayed}
use Rattle.book.specs.Replies.{kept, is_accepted, answer_of, if_so, if_missing, step_refusal, sign_refusal}
use Rattle.book.specs.Accepted.{is_taken, are_accepted, all_accepted, claims_by}
use Rattle.book.specs.Guarding.{revocations, claimable_by, is_set_in, ArePenaltiesIn, KeptAreExact, GuardedMeans}
use Rattle.book.specs.Calling.{IsCall}
use Rattle.book.proofs.Accepting.{asked_ok, unless_ok, passed, keeps, step_passes}
use Rattle.book.proofs.CheckedForms.{forms_are_checked}
use Rattle.book.proofs.Sets.{claims_are, ways_are_checked}
use Rattle.book.proofs.Accepted.{earlier as accepted_before}
use Rattle.book.proofs.Guarded.{accepted_is_guarded}
use Rattle.book.proofs.Meaning.{found_on, open_at, tested_between}
use Rattle.book.proofs.KeptReleases.{all_changed, all_grown, all_at, only_one, in_reverse}
use Rattle.book.proofs.ReleasedFit.{whole_at}

-- ---- each channel's state is one that calls and messages lead to

abbrev pub Lives : Signing → ChannelBook → Type 0
Lives tokens_of ch = IsLived tokens_of ch.state

-- the element at an index changes
pub all_set : {A : Type 0} (P : A → Type 0) (f : A → A) (n : ℕ) (xs : List A) → AllByRecursion P xs → ((x : A) → slice_get xs n ≡ Some x → P (f x)) → AllByRecursion P (at_index f n xs)
all_set P f n [] h g = tt
all_set P f zero (x ∷ xs) h g = (g x refl, h.1)
all_set P f (suc n) (x ∷ xs) h g = (h.0, all_set P f n xs h.1 g)

pub at_found : {A : Type 0} (P : A → Type 0) (o : Option A) (y : A) → o ≡ Some y → P y → (x : A) → o ≡ Some x → P x
at_found P o y there p x same = subst P (same_Some y x (sym there ∙ same)) p

step_lives : (tokens_of : Signing) (step : Step) (s : State) → step_refusal tokens_of s step ≡ None → IsLived tokens_of s → IsLived tokens_of (stepped step s)
step_lives tokens_of (Own u) s none l = updated_once (update_of s u) none l
step_lives tokens_of (Peer (Updated u)) s none l = received_once (StepMessage (Updated u)) none l
step_lives tokens_of (Peer (CommitmentSigned tokens)) s none l = received_once (StepMessage (CommitmentSigned tokens)) none l

-- the channel does not refuse to sign what the book does not refuse
channel_signs : (ch : ChannelBook) → sign_refusal ch ≡ None → channel_refusal ch.state ≡ None
channel_signs ch none = by (ch.state.awaiting || nat_le LAST_NUMBER ch.state.peer_number) (first_missing ch) (covers_nothing ch.state.held.own ch.state.held.theirs) (passed _ _ _ none).1
  where
    by : (waits : Bool) (missing : Option ℕ) (nothing : Bool)
        → if_so waits AwaitingRevocation (if_missing missing (if_so nothing NoUpdates None)) ≡ None
        → first_refusal ((waits, NotYourTurn) ∷ (nothing, NothingCovered) ∷ []) ≡ None
    by true missing nothing e = absurd cc
    by false (Some n) nothing e = absurd cc
    by false None true e = absurd cc
    by false None false e = refl

call_lives : (tokens_of : Signing) (call : Call) (chs : Channels) → AllByRecursion (Lives tokens_of) chs → is_accepted (answer_of tokens_of chs call) ≡ true → AllByRecursion (Lives tokens_of) (channels_after call chs)
call_lives tokens_of (Open o) chs h ok = all_grown (Lives tokens_of) (opened_by o) chs h (starts o.terms o.side o.seed o.first_point o.next_point)
call_lives tokens_of (Stepping c step) chs h ok =
    let found = asked_ok _ (slice_get chs c) _ ok in
    let lives = all_at (Lives tokens_of) chs c found.0 h found.1 in
    all_set (Lives tokens_of) (with_state (stepped step)) c chs h
    (at_found (λ x. Lives tokens_of (with_state (stepped step) x)) (slice_get chs c) found.0 found.1 (step_lives tokens_of step found.0.state (step_passes found.0 step tokens_of (unless_ok _ _ _ found.2)) lives))
call_lives tokens_of (Sign c) chs h ok =
    let found = asked_ok _ (slice_get chs c) _ ok in
    let lives = all_at (Lives tokens_of) chs c found.0 h found.1 in
    all_set (Lives tokens_of) (with_state after_sign) c chs h
    (at_found (λ x. Lives tokens_of (with_state after_sign x)) (slice_get chs c) found.0 found.1 (signed_once (channel_signs found.0 (unless_ok _ _ _ found.2)) lives))
call_lives tokens_of (Revoke c revocation) chs h ok =
    let found = asked_ok _ (slice_get chs c) _ ok in
    let lives = all_at (Lives tokens_of) chs c found.0 h found.1 in
    let revoked : State → State = λ s. after s (RevokeAndAck revocation) in
    all_set (Lives tokens_of) (with_state revoked) c chs h
    (at_found (λ x. Lives tokens_of (with_state revoked x)) (slice_get chs c) found.0 found.1 (received_once (RevokeAndAck revocation) (unless_ok _ _ _ found.2) lives))
call_lives tokens_of (Keep c n claims) chs h ok = all_changed (Lives tokens_of) (with_kept n) (λ ch k. k) c chs h
call_lives tokens_of (Release c batch) chs h ok = h
call_lives tokens_of (Close c) chs h ok = all_changed (Lives tokens_of) with_closed (λ ch k. k) c chs h

pub all_live : (tokens_of : Signing) (es : List Entry) → are_accepted tokens_of es ≡ true → AllByRecursion (Lives tokens_of) (replayed es)
all_live tokens_of [] ok = tt
all_live tokens_of (e ∷ es) ok =
    let parts = and_parts (is_taken tokens_of es e) (are_accepted tokens_of es) ok in
    call_lives tokens_of e.call (replayed es) (all_live tokens_of es parts.1) parts.0

-- ---- the forms of what is claimable

-- a view that shares out the capacity can be paid
can_pay : (terms : Terms) (view : View) → SharesOut terms view → CanPay terms view
can_pay terms view s =
    let a : length view.a.offered ≤ 483 = s.few_of_a in
    let b : length view.b.offered ≤ 483 = s.few_of_b in
    record { few = omega (arith, a, b); heights = and_from _ _ s.heights_of_a s.heights_of_b; whole = s.whole }

abbrev AreChecked : List Claimable → Type 0
AreChecked os = AllByRecursion (λ o. IsChecked o.form) os

forms_at : (s : State) (n : ℕ) (os : List Claimable) → AreByNumber s → claimable_at s n ≡ Some os → AreChecked os
forms_at s n os are e = by (slice_get s.signed n) (slice_get s.secrets n) refl e
  where
    by : (signed : Option CommitmentState) (secret : Option (List ℕ)) → slice_get s.signed n ≡ signed → (signed >>= (λ c. secret >>= (λ k. Some (claimable_in (revoked_contents s c k))))) ≡ Some os → AreChecked os
    by None secret there e = absurd (none-some os e)
    by (Some c) None there e = absurd (none-some os e)
    by (Some c) (Some k) there e =
        subst AreChecked (same_Some (claimable_in (revoked_contents s c k)) os e)
        (forms_are_checked s.held.terms c.view (other s.held.side) c.number (point_of k) (can_pay s.held.terms c.view (are.signed.each n c there).shares))

-- a penalty set of a state is accepted claims on all that is claimable
exact_at : (s : State) (n : ℕ) (claims : List ClaimParts) → AreByNumber s → AllByRecursion IsWhole claims → is_penalty_set s n claims ≡ true → (os : List Claimable) × (claimable_at s n ≡ Some os) × AreClaimsOn os claims
unfolding is_penalty_set
exact_at s n claims are whole set =
    let on = found_on (claimable_at s n) claims set in
    (on.0, on.1, claims_are on.0 claims (open_at s n on.0 on.1) (forms_at s n on.0 are on.1) (ways_are_checked claims whole) on.2)

-- ---- what is claimable by a number stays so

got_before : {A : Type 0} (xs ys : List A) (n : ℕ) (x : A) → slice_get xs n ≡ Some x → slice_get (xs ++ ys) n ≡ Some x
got_before [] ys n x e = absurd (none-some x e)
got_before (y ∷ xs) ys zero x e = e
got_before (y ∷ xs) ys (suc n) x e = got_before xs ys n x e

-- where more commitments and secrets stand, those at a number are the same
more_known : (f : CommitmentState → List ℕ → List Claimable) (n : ℕ) (os : List Claimable) (signed newer : List CommitmentState) (secrets more : List (List ℕ))
    → ((c : CommitmentState) → slice_get signed n ≡ Some c → slice_get newer n ≡ Some c) → ((k : List ℕ) → slice_get secrets n ≡ Some k → slice_get more n ≡ Some k)
    → (slice_get signed n >>= (λ c. slice_get secrets n >>= (λ k. Some (f c k)))) ≡ Some os → (slice_get newer n >>= (λ c. slice_get more n >>= (λ k. Some (f c k)))) ≡ Some os
more_known f n os signed newer secrets more g h e = by (slice_get signed n) (slice_get secrets n) refl refl e
  where
    by : (one : Option CommitmentState) (secret : Option (List ℕ)) → slice_get signed n ≡ one → slice_get secrets n ≡ secret → (one >>= (λ c. secret >>= (λ k. Some (f c k)))) ≡ Some os
        → (slice_get newer n >>= (λ c. slice_get more n >>= (λ k. Some (f c k)))) ≡ Some os
    by None secret a b e = absurd (none-some os e)
    by (Some c) None a b e = absurd (none-some os e)
    by (Some c) (Some k) a b e = rw (g c a, h k b) e

after_signing : (n : ℕ) (os : List Claimable) (s : State) → claimable_at s n ≡ Some os → claimable_at (after_sign s) n ≡ Some os
after_signing n os s e =
    more_known (λ c k. claimable_in (revoked_contents s c k)) n os s.signed (s.signed ++ peers_next s ∷ []) s.secrets s.secrets (λ c f. got_before s.signed (peers_next s ∷ []) n c f) (λ k f. f) e

after_revocation : (n : ℕ) (os : List Claimable) (secret : List ℕ) (next_point : Key) (s : State) → claimable_at s n ≡ Some os → claimable_at (after s (RevokeAndAck (record { secret = secret; next_point = next_point }))) n ≡ Some os
after_revocation n os secret next_point s e =
    more_known (λ c k. claimable_in (revoked_contents s c k)) n os s.signed s.signed s.secrets (s.secrets ++ secret ∷ []) (λ c f. f) (λ k f. got_before s.secrets (secret ∷ []) n k f) e

after_step : (n : ℕ) (os : List Claimable) (step : Step) (ch : ChannelBook) → claimable_at ch.state n ≡ Some os → claimable_at (with_state (stepped step) ch).state n ≡ Some os
after_step n os (Own u) ch e = e
after_step n os (Peer (Updated u)) ch e = e
after_step n os (Peer (CommitmentSigned tokens)) ch e = e

abbrev Lets : ℕ → List Claimable → Option ChannelBook → Type 0
Lets n os o = claimable_by o n ≡ Some os

still_changed : (n : ℕ) (os : List Claimable) (f : ChannelBook → ChannelBook) → ((ch : ChannelBook) → claimable_at ch.state n ≡ Some os → claimable_at (f ch).state n ≡ Some os) → (d c : ℕ) (chs : Channels)
    → Lets n os (slice_get chs c) → Lets n os (slice_get (at_index f d chs) c)
still_changed n os f g d c [] h = h
still_changed n os f g zero zero (x ∷ xs) h = g x h
still_changed n os f g zero (suc c) (x ∷ xs) h = h
still_changed n os f g (suc d) zero (x ∷ xs) h = h
still_changed n os f g (suc d) (suc c) (x ∷ xs) h = still_changed n os f g d c xs h

still_opened : (n : ℕ) (os : List Claimable) (x : ChannelBook) (c : ℕ) (chs : Channels) → Lets n os (slice_get chs c) → Lets n os (slice_get (chs ++ x ∷ []) c)
still_opened n os x c [] h = absurd (none-some os h)
still_opened n os x zero (y ∷ ys) h = h
still_opened n os x (suc c) (y ∷ ys) h = still_opened n os x c ys h

still_lets : (call : Call) (n : ℕ) (os : List Claimable) (c : ℕ) (chs : Channels) → Lets n os (slice_get chs c) → Lets n os (slice_get (channels_after call chs) c)
still_lets (Open o) n os c chs h = still_opened n os (opened_by o) c chs h
still_lets (Stepping d step) n os c chs h = still_changed n os (with_state (stepped step)) (after_step n os step) d c chs h
still_lets (Sign d) n os c chs h = still_changed n os (with_state after_sign) (λ ch e. after_signing n os ch.state e) d c chs h
still_lets (Revoke d revocation) n os c chs h =
    still_changed n os (with_state (λ s. after s (RevokeAndAck revocation))) (λ ch e. after_revocation n os revocation.secret revocation.next_point ch.state e) d c chs h
still_lets (Keep d m claims) n os c chs h = still_changed n os (with_kept m) (λ ch e. e) d c chs h
still_lets (Release d batch) n os c chs h = h
still_lets (Close d) n os c chs h = still_changed n os with_closed (λ ch e. e) d c chs h

-- ---- a set is exact as it is kept, and from then on

later : (call : Call) (c n : ℕ) (chs : Channels) (claims : List ClaimParts) → ArePenaltiesIn c n chs claims → ArePenaltiesIn c n (channels_after call chs) claims
later call c n chs claims are = record { outputs = are.outputs; lets = still_lets call n are.outputs c chs are.lets; exact = are.exact }

at_once : SidesNumber → (tokens_of : Signing) (c n : ℕ) (claims : List ClaimParts) (es : List Entry) → are_accepted tokens_of es ≡ true
    → is_accepted (answer_of tokens_of (replayed es) (Keep c n claims)) ≡ true → AllByRecursion IsWhole claims → ArePenaltiesIn c n (replayed es) claims
at_once numbers tokens_of c n claims es ok taken whole =
    let found = asked_ok _ (slice_get (replayed es) c) _ taken in
    let keeping = keeps found.0 n claims (unless_ok _ _ _ found.2) in
    let lives = all_at (Lives tokens_of) (replayed es) c found.0 (all_live tokens_of es ok) found.1 in
    let on = exact_at found.0.state n claims (numbers tokens_of found.0.state lives) whole keeping.2 in
    record { outputs = on.0; lets = ap (λ o. claimable_by o n) found.1 ∙ on.1; exact = on.2 }

from_then_on : SidesNumber → (tokens_of : Signing) (seat c n : ℕ) (claims : List ClaimParts) (es : List Entry) → are_accepted tokens_of es ≡ true
    → Contains es (record { seat = seat; call = Keep c n claims }) → AllByRecursion IsWhole claims → ArePenaltiesIn c n (replayed es) claims
from_then_on numbers tokens_of seat c n claims [] ok there whole = absurd (omega (arith, there.1))
from_then_on numbers tokens_of seat c n claims (e ∷ es) ok there whole = later e.call c n (replayed es) claims (⊎_elim
    (λ here. at_once numbers tokens_of c n claims es parts.1 (ap (is_taken tokens_of es) (sym (only_one e _ here)) ∙ parts.0) whole)
    (λ before. from_then_on numbers tokens_of seat c n claims es parts.1 before whole)
    (Contains-append_cases (e ∷ []) es _ there))
  where
    parts : (is_taken tokens_of es e ≡ true) × (are_accepted tokens_of es ≡ true)
    parts = and_parts (is_taken tokens_of es e) (are_accepted tokens_of es) ok

pub kept_are_exact : SidesNumber → KeptAreExact
kept_are_exact numbers tokens_of history seat c n claims ok whole there =
    let entry : Entry = record { seat = seat; call = Keep c n claims } in
    from_then_on numbers tokens_of seat c n claims (reverse history) ok (in_reverse history entry there) (whole_at history entry whole there)

-- ---- what a call keeps

-- a set is kept by a call that does not run out of memory
pub kept_by_call : SidesNumber → (old new : List Entry) (seat c n : ℕ) (claims : List ClaimParts) → all_accepted peer_tokens old ≡ true → AllByRecursion IsWhole claims
    → IsCall (kept (Ok tt)) old new seat (Keep c n claims) → ArePenaltiesIn c n (replayed (reverse old)) claims
kept_by_call numbers old new seat c n claims ok whole (inl out) = absurd (true≢false (ap is_accepted out.0))
kept_by_call numbers old new seat c n claims ok whole (inr is) = at_once numbers peer_tokens c n claims (reverse old) ok (ap is_accepted (sym is.0)) whole

-- ---- the gate, entry by entry

-- claims that passed the test after accepted calls
set_exact : SidesNumber → (tokens_of : Signing) (c n : ℕ) (claims : List ClaimParts) (es : List Entry) → are_accepted tokens_of es ≡ true → is_set_in (slice_get (replayed es) c) n claims ≡ true
    → AllByRecursion IsWhole claims → ArePenaltiesIn c n (replayed es) claims
set_exact numbers tokens_of c n claims es ok set whole = by (slice_get (replayed es) c) refl set
  where
    by : (o : Option ChannelBook) → slice_get (replayed es) c ≡ o → is_set_in o n claims ≡ true → ArePenaltiesIn c n (replayed es) claims
    by None there e = absurd (true≢false (sym e))
    by (Some ch) there e =
        let lives = all_at (Lives tokens_of) (replayed es) c ch (all_live tokens_of es ok) there in
        let on = exact_at ch.state n claims (numbers tokens_of ch.state lives) whole e in
        record { outputs = on.0; lets = ap (λ o. claimable_by o n) there ∙ on.1; exact = on.2 }

-- an entry with others on both sides stands in the whole; and if the whole was accepted, so were the entries before it
stands_within : (newer front back rest : List Entry) (signing keeping : Entry) → Contains (newer ++ signing ∷ ((front ++ keeping ∷ back) ++ rest)) keeping
stands_within newer front back rest signing keeping =
    Contains-append_right newer (signing ∷ ((front ++ keeping ∷ back) ++ rest)) keeping
    (Contains-append_right (signing ∷ []) ((front ++ keeping ∷ back) ++ rest) keeping
    (Contains-append_left (front ++ keeping ∷ back) rest keeping
    (Contains-append_right front (keeping ∷ back) keeping (Contains-append_left (keeping ∷ []) back keeping (Contains-push [] keeping)))))

before_accepted : (tokens_of : Signing) (newer front back rest : List Entry) (signing keeping : Entry) → are_accepted tokens_of (newer ++ signing ∷ ((front ++ keeping ∷ back) ++ rest)) ≡ true
    → are_accepted tokens_of (back ++ rest) ≡ true
before_accepted tokens_of newer front back rest signing keeping ok =
    let signed = accepted_before tokens_of newer (signing ∷ ((front ++ keeping ∷ back) ++ rest)) ok in
    let older = (and_parts (is_taken tokens_of ((front ++ keeping ∷ back) ++ rest) signing) (are_accepted tokens_of ((front ++ keeping ∷ back) ++ rest)) signed).1 in
    let first = accepted_before tokens_of front (keeping ∷ (back ++ rest)) (ap (are_accepted tokens_of) (sym (append_assoc front (keeping ∷ back) rest)) ∙ older) in
    (and_parts (is_taken tokens_of (back ++ rest) keeping) (are_accepted tokens_of (back ++ rest)) first).1

pub guarded_means : SidesNumber → GuardedMeans
guarded_means numbers tokens_of history newer between earlier c signing revoking ok whole split signs is =
    let t = tested_between history newer between earlier c signing revoking (accepted_is_guarded tokens_of history ok) split signs is in
    let rest : List Entry = revoking ∷ earlier in
    let all : reverse history ≡ newer ++ signing ∷ ((t.front ++ t.keeping ∷ t.back) ++ rest) = split ∙ ap (λ (es : List Entry). newer ++ signing ∷ (es ++ rest)) t.split in
    let accepted = before_accepted tokens_of newer t.front t.back rest signing t.keeping (ap (are_accepted tokens_of) (sym all) ∙ ok) in
    let reversed : Contains (reverse history) t.keeping = subst (λ (es : List Entry). Contains es t.keeping) (sym all) (stands_within newer t.front t.back rest signing t.keeping) in
    let there : Contains history t.keeping = subst (λ (es : List Entry). Contains es t.keeping) (reverse-reverse history) (in_reverse (reverse history) t.keeping reversed) in
    let claims_are_whole = subst (λ (call : Call). AllByRecursion IsWhole (claims_by call)) t.kept.keeps (whole_at history t.keeping whole there) in
    record {
      front = t.front;
      keeping = t.keeping;
      back = t.back;
      split = t.split;
      kept = record {
        claims = t.kept.claims;
        keeps = t.kept.keeps;
        penalties = set_exact numbers tokens_of c (revocations c earlier) t.kept.claims (t.back ++ rest) accepted t.kept.set claims_are_whole;
      };
    }
