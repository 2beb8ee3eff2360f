-- Each event keeps that the claims of each side are on what its recorded commitments let it claim.
use Rattle.std.proofs.Common.{◌≡◌, ℕ, zero, suc, ◌-◌, ◌==◌, ◌<◌, ◌≤◌, Bool, true, false, List, [], ◌∷◌, ◌++◌, length, take, drop, Contains, Option, Some, None, Result, Ok, Err, refl, sym, ap, ◌∙◌, subst, inl, inr, ⊎_elim, arith}
use Rattle.std.specs.Prelude.{◌⊎◌, slice_get, option_map}
use Rattle.std.specs.List.{AllByRecursion}
use Rattle.std.proofs.lemmas.Bool.{and_parts}
use Rattle.std.proofs.lemmas.Bool.Decides.{nat_tests}
use Rattle.std.proofs.lemmas.List.{length-append}
use Rattle.std.proofs.lemmas.Option.{none-some, same_Some, slice_get-map}
use Rattle.std.proofs.lemmas.List.Elements.{Contains-push_cases}
use Rattle.tx.specs.declared.input.OutPoint.{OutPoint}
use Rattle.tx.specs.Fields.{Transaction}
use Rattle.terms.specs.declared.sides.Side.{Side}
use Rattle.terms.specs.declared.sides.Side.TheVariants.{A, B}
use Rattle.terms.specs.declared.agreement.Terms.{Terms}
use Rattle.terms.specs.Sides.{other}
use Rattle.scenario.specs.declared.limits.TheConstants.{MAX_CHANNELS}
use Rattle.scenario.specs.declared.events.Event.{Event}
use Rattle.chain.specs.Blocks.{Contents, height_of, grant_outpoint}
use Rattle.claim.specs.Claims.{ClaimParts}
use Rattle.keys.specs.declared.compressed.Key.{Key}
use Rattle.keys.specs.Derivation.{point_of}
use Rattle.commit.specs.Commitments.{commitment_of}
use Rattle.penalty.specs.Claimable.{Claimable}
use Rattle.penalty.specs.Sets.{claimed_by}
use Rattle.resolve.specs.Due.{owners_due, peers_due}
use Rattle.channel.specs.declared.commitments.CommitmentState.{CommitmentState}
use Rattle.channel.specs.declared.messages.Message.{Message}
use Rattle.updates.specs.declared.messages.PeerStep.TheVariants.{Update as Updated, CommitmentSigned}
use Rattle.channel.specs.declared.messages.Message.TheVariants.{Step as StepMessage, RevokeAndAck}
use Rattle.channel.specs.Tokens.{contents_of, peer_tokens}
use Rattle.channel.specs.States.{State}
use Rattle.book.specs.Growing.{Grew}
use Rattle.book.specs.declared.calls.Batch.{Batch}
use Rattle.book.specs.declared.calls.Step.{Step}
use Rattle.book.specs.declared.calls.Call.{Call}
use Rattle.book.specs.declared.calls.Call.TheVariants as calls
use Rattle.book.specs.declared.calls.Entry.{Entry}
use Rattle.book.specs.declared.calls.Opening.{Opening}
use Rattle.book.specs.Books.{ChannelBook, Channels, replay, fundings_of}
use Rattle.book.specs.Penalties.{revoked_contents, claimable_in, claimable_at}
use Rattle.book.specs.Replies.{is_accepted, reply_of, extended}
use Rattle.side.specs.declared.due.DueClaim.{DueClaim}
use Rattle.book.specs.Acts.{call_of}
use Rattle.side.specs.Batches.{are_of, claims_in}
use Rattle.world.specs.declared.errors.EventError.{EventError}
use Rattle.world.specs.declared.limits.TheConstants.{SEAT}
use Rattle.world.specs.declared.outcomes.Outcome.{Outcome}
use Rattle.world.specs.Agreeing.{first_grants}
use Rattle.world.specs.Beginning.{nothing_yet, with_opened}
use Rattle.world.specs.Worlds.{World, Node, node_of, with_node, with_nodes, after_call, opens_none}
use Rattle.world.specs.Refusing.{sent_by, oldest_in, delivered, answered}
use Rattle.world.specs.Releasing.{with_taken, IsReleased}
use Rattle.world.specs.Looking.{Looks, back_to}
use Rattle.world.specs.Steps.{own_call, Happens, updates, signs, receives, keeps, broadcasts, broadcasts_htlc, mines, looks, takes, releases, reorganises, closes, WorldSteps, happens, refuses, runs_out}
use Rattle.world.specs.Sources.{IsDueOf, of_own, of_peers, of_revoked, IsDueIn, IsSide}
use Rattle.world.proofs.Whole.{all_append, all_drop, all_take}
use Rattle.world.proofs.Unmade.{all_weaker, all_first, all_last}
use Rattle.world.proofs.Growing.{StayLater, IsGrown, called_later, called_grown, message_opens_none}
use Rattle.world.proofs.Recorded.{none_in, claimable_is}
use Rattle.world.proofs.Found.{AreJobsIn, found_jobs}

-- ---- a claim on what is recorded stays so

same_revoked : (old new : State) → Grew old new → (c : CommitmentState) (secret : List ℕ) → claimable_in (revoked_contents old c secret) ≡ claimable_in (revoked_contents new c secret)
same_revoked old new g c secret =
    ap (λ (terms : Terms). claimable_in (commitment_of terms c.view (other old.held.side) c.number (point_of secret))) (sym g.terms)
    ∙ ap (λ (side : Side). claimable_in (commitment_of new.held.terms c.view (other side) c.number (point_of secret))) (sym g.side)

of_later : (old new : State) → Grew old new → (x : ClaimParts) → IsDueOf old x → IsDueOf new x
of_later old new g x (of_own n k preimages at h) =
    of_own n k preimages (g.mine n k at) (subst (λ (terms : Terms). Contains (owners_due preimages (contents_of terms k)) (claimed_by x)) (sym g.terms) h)
of_later old new g x (of_peers n k preimages at h) =
    of_peers n k preimages (g.signed n k at) (subst (λ (terms : Terms). Contains (peers_due preimages (contents_of terms k)) (claimed_by x)) (sym g.terms) h)
of_later old new g x (of_revoked n os at h) = go (slice_get old.signed n) (slice_get old.secrets n) refl refl
  where
    go : (o : Option CommitmentState) (p : Option (List ℕ)) → slice_get old.signed n ≡ o → slice_get old.secrets n ≡ p → IsDueOf new x
    go None p signed told =
        let none : claimable_at old n ≡ None = rw signed refl in
        absurd (none-some os (sym none ∙ at))
    go (Some c) None signed told =
        let none : claimable_at old n ≡ None = rw (signed, told) refl in
        absurd (none-some os (sym none ∙ at))
    go (Some c) (Some secret) signed told =
        let same = same_Some (claimable_in (revoked_contents old c secret)) os (sym (claimable_is old n c secret signed told) ∙ at) in
        of_revoked n (claimable_in (revoked_contents new c secret)) (claimable_is new n c secret (g.signed n c signed) (g.secrets n secret told))
        (subst (λ (ys : List Claimable). Contains ys (claimed_by x)) (sym same ∙ same_revoked old new g c secret) h)

in_later : (old new : List Entry) → StayLater old new → (c : ℕ) (x : ClaimParts) → IsDueIn old c x → IsDueIn new c x
in_later old new later c x d = let l = later c d.ch d.there in record { ch = l.new; there = l.there; due = of_later d.ch.state l.new.state l.grew x d.due }

-- ---- lists of claims

abbrev pub AreOpened : List Entry → Type 0
AreOpened history = (c : ℕ) (ch : ChannelBook) → slice_get (replay history) c ≡ Some ch → (c < MAX_CHANNELS) × (ch.state.held.terms.funding ≡ grant_outpoint c)

abbrev pub AreDueIn : List Entry → Type 0
AreDueIn history = (seat c : ℕ) (batch : Batch) → Contains history (record { seat = seat; call = calls.Release c batch }) → AllByRecursion (IsDueIn history c) batch.claims

pub jobs_later : (old new : List Entry) → StayLater old new → (jobs : List DueClaim) → AreJobsIn old jobs → AreJobsIn new jobs
jobs_later old new later jobs a = all_weaker (λ (j : DueClaim). IsDueIn old j.channel j.claim) (λ (j : DueClaim). IsDueIn new j.channel j.claim) (λ j d. in_later old new later j.channel j.claim d) jobs a

-- the releases after a call are those before it, and the call itself if it is one
abbrev pub ReleasesDue : List Entry → Call → Type 0
ReleasesDue history call = (c : ℕ) (batch : Batch) → call ≡ calls.Release c batch → AllByRecursion (IsDueIn history c) batch.claims

extended_due : (accepted : Bool) (history : List Entry) (seat : ℕ) (call : Call) → StayLater history (extended accepted history seat call) → ReleasesDue history call → AreDueIn history → AreDueIn (extended accepted history seat call)
extended_due false history seat call later this due = due
extended_due true history seat call later this due = λ at c batch there.
    all_weaker (IsDueIn history c) (IsDueIn (history ++ record { seat = seat; call = call } ∷ []) c) (in_later history (history ++ record { seat = seat; call = call } ∷ []) later c) batch.claims
    (⊎_elim (λ (h : Contains history (record { seat = at; call = calls.Release c batch })). due at c batch h)
    (λ (e : record { seat = seat; call = call } ≡ record { seat = at; call = calls.Release c batch }). this c batch (ap (λ (x : Entry). x.call) e))
    (Contains-push_cases history (record { seat = seat; call = call }) (record { seat = at; call = calls.Release c batch }) there))

pub called_due : (n : Node) (call : Call) → StayLater n.history (after_call call n).history → ReleasesDue n.history call → AreDueIn n.history → AreDueIn (after_call call n).history
called_due n call later this due = extended_due (is_accepted (reply_of peer_tokens n.history call)) n.history SEAT call later this due

-- ---- a side after a call

opened_later : (old new : List Entry) → IsGrown old new → AreOpened old → AreOpened new
opened_later old new g opened = λ c ch at.
    let was = g.there c ch at in
    let o = opened c was.old was.there in
    (o.0, ap (λ (terms : Terms). terms.funding) was.grew.terms ∙ o.1)

pub called_side : (n : Node) (call : Call) → opens_none call ≡ true → ReleasesDue n.history call → IsSide n → IsSide (after_call call n)
called_side n call none this is =
    let g = called_grown n call none in
    record {
      opened = opened_later n.history (after_call call n).history g is.opened;
      jobs = jobs_later n.history (after_call call n).history g.later (n.jobs ++ n.taken) is.jobs;
      due = called_due n call g.later this is.due;
    }

-- the same node but for its lines, and what it read and learnt
pub like_side : (old new : Node) → new.history ≡ old.history → new.jobs ≡ old.jobs → new.taken ≡ old.taken → IsSide old → IsSide new
like_side old new history jobs taken is = record {
  opened = subst AreOpened (sym history) is.opened;
  jobs = subst (λ (h : List Entry). AreJobsIn h (new.jobs ++ new.taken)) (sym history) (subst (λ (js : List DueClaim). AreJobsIn old.history (js ++ new.taken)) (sym jobs) (subst (λ (js : List DueClaim). AreJobsIn old.history (old.jobs ++ js)) (sym taken) is.jobs));
  due = subst AreDueIn (sym history) is.due;
}

step_due : (history : List Entry) (c : ℕ) (step : Step) → ReleasesDue history (calls.Step c step)
step_due history c step d batch e = absurd cc

sign_due : (history : List Entry) (c : ℕ) → ReleasesDue history (calls.Sign c)
sign_due history c d batch e = absurd cc

keep_due : (history : List Entry) (c n : ℕ) (claims : List ClaimParts) → ReleasesDue history (calls.Keep c n claims)
keep_due history c n claims d batch e = absurd cc

close_due : (history : List Entry) (c : ℕ) → ReleasesDue history (calls.Close c)
close_due history c d batch e = absurd cc

revoke_due : (history : List Entry) (c : ℕ) (secret : List ℕ) (point : Key) → ReleasesDue history (calls.Revoke c (record { secret = secret; next_point = point }))
revoke_due history c secret point d batch e = absurd cc

message_due : (history : List Entry) (c : ℕ) (m : Message) → ReleasesDue history (call_of c m)
message_due history c (StepMessage (Updated u)) = step_due history c _
message_due history c (StepMessage (CommitmentSigned tokens)) = step_due history c _
message_due history c (RevokeAndAck revocation) = revoke_due history c revocation.secret revocation.next_point

delivered_side : (c : ℕ) (o : Result Message EventError) (me : Node) → IsSide me → IsSide (delivered c o me)
delivered_side c (Err e) me is = is
delivered_side c (Ok m) me is =
    like_side (after_call (call_of c m) me) (delivered c (Ok m) me) refl refl refl (called_side me (call_of c m) (message_opens_none c m) (message_due me.history c m) is)

answered_side : (c : ℕ) (o : Result Message EventError) (me peer : Node) → IsSide peer → IsSide (answered c o me peer)
answered_side c (Err e) me peer is = is
answered_side c (Ok m) me peer is = like_side peer (answered c (Ok m) me peer) refl refl refl is

-- ---- a side that opens its channels

no_side_due : AreDueIn []
no_side_due seat c batch there = absurd (none_in _ there)

pub no_side : IsSide nothing_yet
no_side = record { opened = λ c ch at. absurd (none-some ch at); jobs = tt; due = no_side_due }

-- an element of a list with one more at its end
pub pushed_at : {X : Type 0} (xs : List X) (o : X) (i : ℕ) (p : X) → slice_get (xs ++ o ∷ []) i ≡ Some p → (slice_get xs i ≡ Some p) ⊎ ((i ≡ length xs) × (o ≡ p))
pushed_at [] o zero p at = inr (refl, same_Some o p at)
pushed_at [] o (suc i) p at = absurd (none-some p at)
pushed_at (x ∷ xs) o zero p at = inl at
pushed_at {X} (x ∷ xs) o (suc i) p at =
    ⊎_elim (λ (h : slice_get xs i ≡ Some p). inl h) (λ (h : (i ≡ length xs) × (o ≡ p)). inr (ap suc h.0, h.1)) (pushed_at xs o i p at)

as_many_grants : (n : ℕ) → length (first_grants n) ≡ n
as_many_grants zero = refl
as_many_grants (suc n) = omega (arith, length-append (first_grants n) (grant_outpoint n ∷ []), as_many_grants n)

-- the n-th grant is at place n
past_grants : (n i : ℕ) (o p : OutPoint) → slice_get (first_grants n ++ o ∷ []) i ≡ Some p → ((i : ℕ) (q : OutPoint) → slice_get (first_grants n) i ≡ Some q → (i < n) × (q ≡ grant_outpoint i)) → o ≡ grant_outpoint n
    → (i < suc n) × (p ≡ grant_outpoint i)
past_grants n i o p at before is =
    ⊎_elim (λ (h : slice_get (first_grants n) i ≡ Some p). let b = before i p h in (omega (arith, b.0), b.1))
    (λ (h : (i ≡ length (first_grants n)) × (o ≡ p)). let long : i ≡ n = h.0 ∙ as_many_grants n in (omega (arith, long), sym h.1 ∙ is ∙ ap grant_outpoint (sym long)))
    (pushed_at (first_grants n) o i p at)

grant_at : (n i : ℕ) (p : OutPoint) → slice_get (first_grants n) i ≡ Some p → (i < n) × (p ≡ grant_outpoint i)
grant_at zero i p at = absurd (none-some p at)
grant_at (suc n) i p at = past_grants n i (grant_outpoint n) p at (grant_at n) refl

opened_by_grants : (chs : Channels) (n : ℕ) → fundings_of chs ≡ first_grants n → n ≤ MAX_CHANNELS → (c : ℕ) (ch : ChannelBook) → slice_get chs c ≡ Some ch
    → (c < MAX_CHANNELS) × (ch.state.held.terms.funding ≡ grant_outpoint c)
opened_by_grants chs n are few c ch at =
    let funding : ChannelBook → OutPoint = λ x. x.state.held.terms.funding in
    let there : slice_get (first_grants n) c ≡ Some (funding ch)
    = ap (λ (os : List OutPoint). slice_get os c) (sym are) ∙ slice_get-map funding chs c ∙ ap (λ (o : Option ChannelBook). option_map funding o) at in
    let g = grant_at n c (funding ch) there in
    (omega (arith, g.0, few), g.1)

open_due : (history : List Entry) (o : Opening) → ReleasesDue history (calls.Open o)
open_due history o c batch e = absurd cc

pub side_opened : (n : Node) (o : Opening) (count : ℕ) → IsSide n → fundings_of (replay (with_opened o n).history) ≡ first_grants count → count ≤ MAX_CHANNELS → IsSide (with_opened o n)
side_opened n o count is stands few =
    let later = called_later n (calls.Open o) in
    record {
      opened = opened_by_grants (replay (with_opened o n).history) count stands few;
      jobs = jobs_later n.history (after_call (calls.Open o) n).history later (n.jobs ++ n.taken) is.jobs;
      due = called_due n (calls.Open o) later (open_due n.history o) is.due;
    }

-- ---- releases, and jobs that are taken

same_number : (a b : ℕ) → (a == b) ≡ true → a ≡ b
same_number a b e = grind (arith, nat_tests)

released_in : (history : List Entry) (c : ℕ) (jobs : List DueClaim) → are_of c jobs ≡ true → AreJobsIn history jobs → AllByRecursion (IsDueIn history c) (claims_in jobs)
released_in history c [] all a = tt
released_in history c (j ∷ jobs) all a =
    let parts = and_parts (j.channel == c) (are_of c jobs) all in
    (subst (λ n. IsDueIn history n j.claim) (same_number j.channel c parts.0) a.0, released_in history c jobs parts.1 a.1)

by_call : (history : List Entry) (d c : ℕ) (those batch : Batch) → calls.Release d those ≡ calls.Release c batch → AllByRecursion (IsDueIn history d) those.claims → AllByRecursion (IsDueIn history c) batch.claims
by_call history d c those batch e a =
    let channel : d ≡ c = cc in
    let same : those ≡ batch = cc in
    subst (λ (b : Batch). AllByRecursion (IsDueIn history c) b.claims) same (subst (λ n. AllByRecursion (IsDueIn history n) those.claims) channel a)

jobs_left : (history : List Entry) (k : ℕ) (jobs taken : List DueClaim) → AreJobsIn history (jobs ++ taken) → AreJobsIn history (jobs ++ drop k taken)
jobs_left history k jobs taken a =
    let is : DueClaim → Type 0 = λ j. IsDueIn history j.channel j.claim in
    all_append is jobs (drop k taken) (all_first is jobs taken a) (all_drop is k taken (all_last is jobs taken a))

releasing : (k : ℕ) (n done : Node) (t : Transaction) → IsReleased k n done t → IsSide n → IsSide done
releasing k n done t r is =
    let job : DueClaim → Type 0 = λ j. IsDueIn n.history j.channel j.claim in
    let call : Call = calls.Release r.channel r.batch in
    let released = released_in n.history r.channel (take k n.taken) r.ready.all_of (all_take job k n.taken (all_last job n.jobs n.taken is.jobs)) in
    let those : AllByRecursion (IsDueIn n.history r.channel) r.batch.claims = subst (AllByRecursion (IsDueIn n.history r.channel)) (sym r.ready.batch_is.claims_is) released in
    let called = called_side n call refl (λ c batch e. by_call n.history r.channel c r.batch batch e those) is in
    subst IsSide (sym r.after) (record { opened = called.opened; jobs = jobs_left (after_call call n).history k n.jobs n.taken called.jobs; due = called.due })

taking : (k : ℕ) (n : Node) → IsSide n → IsSide (with_taken k n)
taking k n is =
    let job : DueClaim → Type 0 = λ j. IsDueIn n.history j.channel j.claim in
    let jobs = all_first job n.jobs n.taken is.jobs in
    record {
      opened = is.opened;
      jobs = all_append job (drop k n.jobs) (n.taken ++ take k n.jobs) (all_drop job k n.jobs jobs)
          (all_append job n.taken (take k n.jobs) (all_last job n.jobs n.taken is.jobs) (all_take job k n.jobs jobs));
      due = is.due;
    }

-- ---- blocks that are read, and sides that go back

looking : (blocks : List Contents) (n done : Node) (count : ℕ) → Looks n blocks done count → IsSide n → IsSide done
looking blocks n done count l is =
    let job : DueClaim → Type 0 = λ j. IsDueIn n.history j.channel j.claim in
    let jobs = all_append job n.jobs l.found.jobs (all_first job n.jobs n.taken is.jobs) (found_jobs n _ _ l.found l.reads) in
    subst IsSide (sym l.after) (record { opened = is.opened; jobs = all_append job (n.jobs ++ l.found.jobs) n.taken jobs (all_last job n.jobs n.taken is.jobs); due = is.due })

-- ---- both sides

pub record AreSides (a b : Node) : Type 0 where
  pub of_a : IsSide a
  pub of_b : IsSide b

side_of : (s : Side) (w : World) → AreSides w.a w.b → IsSide (node_of s w)
side_of A w are = are.of_a
side_of B w are = are.of_b

one_side : (s : Side) (n : Node) (w : World) → AreSides w.a w.b → IsSide n → AreSides (with_node s n w).a (with_node s n w).b
one_side A n w are is = record { of_a = is; of_b = are.of_b }
one_side B n w are is = record { of_a = are.of_a; of_b = is }

both_sides : (s : Side) (n peer : Node) (w : World) → IsSide n → IsSide peer → AreSides (with_nodes s n peer w).a (with_nodes s n peer w).b
both_sides A n peer w is peers = record { of_a = is; of_b = peers }
both_sides B n peer w is peers = record { of_a = peers; of_b = is }

calling : (s : Side) (call : Call) (c : ℕ) (w : World) → opens_none call ≡ true → ReleasesDue (node_of s w).history call → AreSides w.a w.b
    → AreSides (with_nodes s (after_call call (node_of s w)) (sent_by c call (node_of s w) (node_of (other s) w)) w).a (with_nodes s (after_call call (node_of s w)) (sent_by c call (node_of s w) (node_of (other s) w)) w).b
calling s call c w none due are =
    both_sides s (after_call call (node_of s w)) (sent_by c call (node_of s w) (node_of (other s) w)) w (called_side (node_of s w) call none due (side_of s w are))
    (like_side (node_of (other s) w) (sent_by c call (node_of s w) (node_of (other s) w)) refl refl refl (side_of (other s) w are))

happening : (w v : World) (e : Event) (o : Outcome) → AreSides w.a w.b → Happens w e v o → AreSides v.a v.b
happening w v e o are (updates {s} {c} {update}) = calling s (own_call c update) c w refl (step_due (node_of s w).history c _) are
happening w v e o are (signs {s} {c}) = calling s (calls.Sign c) c w refl (sign_due (node_of s w).history c) are
happening w v e o are (receives {s} {c}) =
    let message = oldest_in (slice_get (node_of s w).lines c) in
    both_sides s (delivered c message (node_of s w)) (answered c message (node_of s w) (node_of (other s) w)) w
    (delivered_side c message (node_of s w) (side_of s w are)) (answered_side c message (node_of s w) (node_of (other s) w) (side_of (other s) w are))
happening w v e o are (keeps {s} {c} {n} {after} kept) =
    one_side s after w are (subst IsSide (sym kept.after) (called_side (node_of s w) (calls.Keep c n kept.claims) refl (keep_due (node_of s w).history c n kept.claims) (side_of s w are)))
happening w v e o are (broadcasts is) = are
happening w v e o are (broadcasts_htlc is) = are
happening w v e o are (mines is) = are
happening w v e o are (looks {s} {after} {count} l) = one_side s after w are (looking w.chain.blocks (node_of s w) after count l (side_of s w are))
happening w v e o are (takes {s} {k}) = one_side s (with_taken k (node_of s w)) w are (taking k (node_of s w) (side_of s w are))
happening w v e o are (releases {s} {k} {after} {t} done) = one_side s after w are (releasing k (node_of s w) after t done (side_of s w are))
happening w v e o are (reorganises {depth} {forgotten} {m} is) =
    let height = height_of w.chain.blocks - depth in
    record { of_a = like_side w.a (back_to height w.a) refl refl refl are.of_a; of_b = like_side w.b (back_to height w.b) refl refl refl are.of_b }
happening w v e o are (closes {s} {c} {t} is) =
    one_side s (after_call (calls.Close c) (node_of s w)) w are (called_side (node_of s w) (calls.Close c) refl (close_due (node_of s w).history c) (side_of s w are))

pub sides_after : (w v : World) (e : Event) (o : Outcome) → AreSides w.a w.b → WorldSteps w e v o → AreSides v.a v.b
sides_after w v e o are (happens none h) = happening w v e o are h
sides_after w v e o are (refuses some) = are
sides_after w v e o are runs_out = are
