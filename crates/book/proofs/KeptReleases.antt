-- The claims of a channel's kept sets can be released.
use Rattle.std.proofs.Common.{◌≡◌, ℕ, zero, suc, if◌then◌else◌, ⊎_elim, Bool, true, false, true≢false, List, [], ◌∷◌, ◌++◌, map, reverse, Option, Some, None, Err, refl, sym, ap, ◌∙◌, subst, arith, Contains}
use Rattle.std.specs.Prelude.{slice_get}
use Rattle.std.specs.List.{AllByRecursion}
use Rattle.std.proofs.lemmas.Bool.{and_parts}
use Rattle.std.proofs.lemmas.List.{reverse-append}
use Rattle.std.proofs.lemmas.Option.{none-some, same_Some}
use Rattle.std.proofs.lemmas.List.Elements.{Contains-append_left, Contains-append_cases, Contains-push, All-contains, All-from_recursion}
use Rattle.tx.specs.Parts.{Output}
use Rattle.keys.specs.Derivation.{point_of, base_key, revocation_key}
use Rattle.keys.specs.Rights.{MaySign, own, derived, revoked}
use Rattle.claim.specs.Claims.{ClaimParts}
use Rattle.terms.specs.Agreement.{party}
use Rattle.forms.specs.Fillings.{Filling, Signature, PreimageOf, Bytes, filling_of}
use Rattle.penalty.specs.Rights.{CanFill}
use Rattle.filling.specs.declared.errors.FillError.{FillError}
use Rattle.filling.specs.declared.errors.FillError.TheVariants.{NoMemory, NoRight, NoPreimage, OutputsExceed, MixedShells, SameOutpoint}
use Rattle.filling.specs.Filled.{Filling as FilledOne}
use Rattle.filling.specs.Refusals.{are_mixed, share_outpoint, do_exceed, all_slots}
use Rattle.channel.specs.States.{Signing, State}
use Rattle.book.specs.declared.calls.Batch.{Batch}
use Rattle.book.specs.declared.calls.Step.{Step}
use Rattle.updates.specs.declared.messages.PeerStep.TheVariants.{Update as Updated, CommitmentSigned}
use Rattle.book.specs.declared.calls.Step.TheVariants.{Own, Peer}
use Rattle.book.specs.declared.calls.Call.{Call}
use Rattle.book.specs.declared.calls.Call.TheVariants.{Open, Step as Stepping, Sign, Revoke, Keep, Release, Close}
use Rattle.book.specs.declared.calls.Entry.{Entry}
use Rattle.book.specs.declared.errors.ReleaseError.TheVariants.{Unfilled, NoSuchChannel}
use Rattle.terms.specs.Bases.{IsSeedOf}
use Rattle.book.specs.Books.{ChannelBook, Channels, at_index, stepped, with_state, channels_after, replayed, replay}
use Rattle.channel.specs.Rights.{rights_of}
use Rattle.book.specs.Signers.{first_lack, fill_refusal}
use Rattle.book.specs.Replies.{Reply, released, asked, unless, fill_answer, reply_of}
use Rattle.book.specs.Accepted.{is_taken, are_accepted, all_accepted}
use Rattle.book.specs.Releasing.{IsKeptIn, KeptAreFillable}
use Rattle.book.proofs.Accepting.{asked_ok, unless_ok, keeps}
use Rattle.book.proofs.Fillable.{knowledge_of, CanFillClaim, set_fillable, nothing_lacks}

-- ---- each channel has the side's own base keys

abbrev pub OwnsBases : ChannelBook → Type 0
OwnsBases ch = IsSeedOf ch.state.seed (party ch.state.held.side ch.state.held.terms).bases

pub all_changed : {A : Type 0} (P : A → Type 0) (f : A → A) → ((x : A) → P x → P (f x)) → (n : ℕ) (xs : List A) → AllByRecursion P xs → AllByRecursion P (at_index f n xs)
all_changed P f keeps_it n [] h = tt
all_changed P f keeps_it zero (x ∷ xs) h = (keeps_it x h.0, h.1)
all_changed P f keeps_it (suc n) (x ∷ xs) h = (h.0, all_changed P f keeps_it n xs h.1)

pub all_grown : {A : Type 0} (P : A → Type 0) (x : A) (xs : List A) → AllByRecursion P xs → P x → AllByRecursion P (xs ++ x ∷ [])
all_grown P x [] h k = (k, tt)
all_grown P x (y ∷ xs) h k = (h.0, all_grown P x xs h.1 k)

pub all_at : {A : Type 0} (P : A → Type 0) (xs : List A) (n : ℕ) (x : A) → AllByRecursion P xs → slice_get xs n ≡ Some x → P x
all_at P [] n x h e = absurd (none-some x e)
all_at P (y ∷ xs) zero x h e = subst P (same_Some y x e) h.0
all_at P (y ∷ xs) (suc n) x h e = all_at P xs n x h.1 e

step_owns : (step : Step) (ch : ChannelBook) → OwnsBases ch → OwnsBases (with_state (stepped step) ch)
step_owns (Own u) ch h = h
step_owns (Peer (Updated u)) ch h = h
step_owns (Peer (CommitmentSigned tokens)) ch h = h

call_owns : (call : Call) (chs : Channels) → AllByRecursion OwnsBases chs → AllByRecursion OwnsBases (channels_after call chs)
call_owns (Open o) chs h = all_grown OwnsBases _ chs h o.own
call_owns (Stepping c step) chs h = all_changed OwnsBases (with_state (stepped step)) (step_owns step) c chs h
call_owns (Sign c) chs h = all_changed OwnsBases _ (λ ch k. k) c chs h
call_owns (Revoke c revocation) chs h = all_changed OwnsBases _ (λ ch k. k) c chs h
call_owns (Keep c n claims) chs h = all_changed OwnsBases _ (λ ch k. k) c chs h
call_owns (Release c batch) chs h = h
call_owns (Close c) chs h = all_changed OwnsBases _ (λ ch k. k) c chs h

pub all_own : (es : List Entry) → AllByRecursion OwnsBases (replayed es)
all_own [] = tt
all_own (e ∷ es) = call_owns e.call (replayed es) (all_own es)

-- ---- what a channel knows stays known

record KnowsMore (old new : ChannelBook) : Type 0 where
  seed : new.state.seed ≡ old.state.seed
  secrets : (secret : List ℕ) → Contains old.state.secrets secret → Contains new.state.secrets secret

same_knowledge : (ch : ChannelBook) → KnowsMore ch ch
same_knowledge ch = record { seed = refl; secrets = λ secret h. h }

-- after a call, a channel is still there, and knows at least as much
record KnowsLater (c : ℕ) (old : ChannelBook) (chs : Channels) : Type 0 where
  new : ChannelBook
  there : slice_get chs c ≡ Some new
  grew : KnowsMore old new

changed : (f : ChannelBook → ChannelBook) → ((ch : ChannelBook) → KnowsMore ch (f ch)) → (d c : ℕ) (chs : Channels) (ch : ChannelBook) → slice_get chs c ≡ Some ch → KnowsLater c ch (at_index f d chs)
changed f grows d c [] ch at = absurd (none-some ch at)
changed f grows zero zero (x ∷ xs) ch at = record { new = f x; there = refl; grew = subst (λ y. KnowsMore y (f x)) (same_Some x ch at) (grows x) }
changed f grows zero (suc c) (x ∷ xs) ch at = record { new = ch; there = at; grew = same_knowledge ch }
changed f grows (suc d) zero (x ∷ xs) ch at = record { new = ch; there = at; grew = same_knowledge ch }
changed f grows (suc d) (suc c) (x ∷ xs) ch at = let l = changed f grows d c xs ch at in record { new = l.new; there = l.there; grew = l.grew }

before_the_last : (x : ChannelBook) (c : ℕ) (chs : Channels) (ch : ChannelBook) → slice_get chs c ≡ Some ch → slice_get (chs ++ x ∷ []) c ≡ Some ch
before_the_last x c [] ch at = absurd (none-some ch at)
before_the_last x zero (y ∷ ys) ch at = at
before_the_last x (suc c) (y ∷ ys) ch at = before_the_last x c ys ch at

step_grows : (step : Step) (ch : ChannelBook) → KnowsMore ch (with_state (stepped step) ch)
step_grows (Own u) ch = record { seed = refl; secrets = λ secret h. h }
step_grows (Peer (Updated u)) ch = record { seed = refl; secrets = λ secret h. h }
step_grows (Peer (CommitmentSigned tokens)) ch = record { seed = refl; secrets = λ secret h. h }

later : (call : Call) (c : ℕ) (chs : Channels) (ch : ChannelBook) → slice_get chs c ≡ Some ch → KnowsLater c ch (channels_after call chs)
later (Open o) c chs ch at = record { new = ch; there = before_the_last _ c chs ch at; grew = same_knowledge ch }
later (Stepping d step) c chs ch at = changed (with_state (stepped step)) (step_grows step) d c chs ch at
later (Sign d) c chs ch at = changed _ (λ x. record { seed = refl; secrets = λ secret h. h }) d c chs ch at
later (Revoke d revocation) c chs ch at = changed _ (λ x. record { seed = refl; secrets = λ s h. Contains-append_left x.state.secrets (revocation.secret ∷ []) s h }) d c chs ch at
later (Keep d n claims) c chs ch at = changed _ (λ x. record { seed = refl; secrets = λ secret h. h }) d c chs ch at
later (Release d batch) c chs ch at = record { new = ch; there = at; grew = same_knowledge ch }
later (Close d) c chs ch at = changed _ (λ x. record { seed = refl; secrets = λ secret h. h }) d c chs ch at

signs_later : (old new : ChannelBook) → KnowsMore old new → (key : List ℕ) → MaySign (knowledge_of old.state) key → MaySign (knowledge_of new.state) key
signs_later old new g key (own b e) = own b (e ∙ ap (λ s. base_key s b) (sym g.seed))
signs_later old new g key (derived b point none e) = absurd (omega (arith, none.1))
signs_later old new g key (revoked b secret known e) = revoked b secret (g.secrets secret known) (e ∙ ap (λ s. revocation_key (base_key s b) (point_of secret)) (sym g.seed))

fills_later : (old new : ChannelBook) → KnowsMore old new → (f : Filling) → CanFill (knowledge_of old.state) f → CanFill (knowledge_of new.state) f
fills_later old new g (Signature k) h = signs_later old new g k h
fills_later old new g (PreimageOf x) h = absurd h
fills_later old new g (Bytes b) h = tt

all_fill_later : (old new : ChannelBook) → KnowsMore old new → (fs : List Filling) → AllByRecursion (CanFill (knowledge_of old.state)) fs → AllByRecursion (CanFill (knowledge_of new.state)) fs
all_fill_later old new g [] h = tt
all_fill_later old new g (f ∷ fs) h = (fills_later old new g f h.0, all_fill_later old new g fs h.1)

-- ---- a kept claim can be filled from then on

record IsFilled (c : ℕ) (es : List Entry) (claim : ClaimParts) : Type 0 where
  channel : ChannelBook
  there : slice_get (replayed es) c ≡ Some channel
  fills : CanFillClaim channel.state claim

filled_later : {c : ℕ} {es : List Entry} {claim : ClaimParts} (e : Entry) → IsFilled c es claim → IsFilled c (e ∷ es) claim
filled_later {c} {es} {claim} e f =
    let l = later e.call c (replayed es) f.channel f.there in
    record { channel = l.new; there = l.there; fills = all_fill_later f.channel l.new l.grew (map filling_of claim.slots) f.fills }

pub only_one : {X : Type 0} (x y : X) → Contains (x ∷ []) y → x ≡ y
only_one x y (zero, lt, at) = at
only_one x y (suc k, lt, at) = absurd (omega (arith, lt))

all_contains : {X : Type 0} (P : X → Type 0) (xs : List X) (x : X) → AllByRecursion P xs → Contains xs x → P x
all_contains P xs x h k = All-contains P xs x (All-from_recursion P xs h) k

at_once : (tokens_of : Signing) (c n seat : ℕ) (set : List ClaimParts) (claim : ClaimParts) (es : List Entry) → is_taken tokens_of es (record { seat = seat; call = Keep c n set }) ≡ true → Contains set claim
    → IsFilled c es claim
at_once tokens_of c n seat set claim es taken within =
    let found = asked_ok _ (slice_get (replayed es) c) _ taken in
    let keeping = keeps found.0 n set (unless_ok _ _ _ found.2) in
    let owns = all_at OwnsBases (replayed es) c found.0 (all_own es) found.1 in
    record { channel = found.0; there = found.1; fills = all_contains (CanFillClaim found.0.state) set claim (set_fillable found.0.state n set owns keeping.2) within }

kept_fills : (tokens_of : Signing) (c n seat : ℕ) (set : List ClaimParts) (claim : ClaimParts) (es : List Entry) → are_accepted tokens_of es ≡ true
    → Contains es (record { seat = seat; call = Keep c n set }) → Contains set claim → IsFilled c es claim
kept_fills tokens_of c n seat set claim [] ok kept within = absurd (omega (arith, kept.1))
kept_fills tokens_of c n seat set claim (e ∷ es) ok kept within = filled_later e (⊎_elim
    (λ here. at_once tokens_of c n seat set claim es (ap (is_taken tokens_of es) (sym (only_one e _ here)) ∙ parts.0) within)
    (λ there. kept_fills tokens_of c n seat set claim es parts.1 there within)
    (Contains-append_cases (e ∷ []) es _ kept))
  where
    parts : (is_taken tokens_of es e ≡ true) × (are_accepted tokens_of es ≡ true)
    parts = and_parts (is_taken tokens_of es e) (are_accepted tokens_of es) ok

pub in_reverse : {X : Type 0} (xs : List X) (y : X) → Contains xs y → Contains (reverse xs) y
in_reverse [] y h = absurd (omega (arith, h.1))
in_reverse (x ∷ xs) y h = subst (λ zs. Contains zs y) (sym (reverse-append (x ∷ []) xs)) (⊎_elim
    (λ here. subst (λ z. Contains (reverse xs ++ x ∷ []) z) (only_one x y here) (Contains-push (reverse xs) x))
    (λ there. Contains-append_left (reverse xs) (x ∷ []) y (in_reverse xs y there))
    (Contains-append_cases (x ∷ []) xs y h))

all_filled : (tokens_of : Signing) (history : List Entry) (c : ℕ) (ch : ChannelBook) (claims : List ClaimParts) → all_accepted tokens_of history ≡ true → slice_get (replay history) c ≡ Some ch
    → AllByRecursion (IsKeptIn c history) claims → AllByRecursion (CanFillClaim ch.state) claims
all_filled tokens_of history c ch [] ok at h = tt
all_filled tokens_of history c ch (claim ∷ claims) ok at h =
    let k = h.0 in
    let f = kept_fills tokens_of c k.number k.seat k.set claim (reverse history) ok (in_reverse history (record { seat = k.seat; call = Keep c k.number k.set }) k.kept) k.within in
    (subst (λ (x : ChannelBook). CanFillClaim x.state claim) (same_Some f.channel ch (sym f.there ∙ at)) f.fills, all_filled tokens_of history c ch claims ok at h.1)

-- ---- the refusal

abbrev is_right : FillError → Bool
is_right NoMemory = false
is_right NoRight = true
is_right NoPreimage = false
is_right OutputsExceed = false
is_right MixedShells = false
is_right SameOutpoint = false

abbrev names_right : Option FillError → Bool
names_right None = false
names_right (Some e) = is_right e

abbrev refuses_right : Reply → Bool
refuses_right (released (Err (Unfilled e))) = is_right e
refuses_right r = false

first_none : (claims : List ClaimParts) (outputs : List Output) (s : State) (preimages : List (List ℕ)) → first_lack (rights_of s) preimages (all_slots claims) ≡ None
    → names_right (fill_refusal claims outputs (rights_of s) preimages) ≡ false
unfolding fill_refusal
first_none claims outputs s preimages none = by (are_mixed claims) (share_outpoint claims) (do_exceed claims outputs) (first_lack (rights_of s) preimages (all_slots claims)) none
  where
    by : (a b c : Bool) (o : Option FillError) → o ≡ None
        → names_right (if a then Some MixedShells else if b then Some SameOutpoint else if c then Some OutputsExceed else o) ≡ false
    by true b c o e = refl
    by false true c o e = refl
    by false false true o e = refl
    by false false false o e = ap names_right e

no_right : (o : Option FillError) (x : FilledOne) → names_right o ≡ false → refuses_right (released (unless Unfilled o x)) ≡ false
no_right None x h = refl
no_right (Some e) x h = h

releases : (tokens_of : Signing) (history : List Entry) (c : ℕ) (batch : Batch) → all_accepted tokens_of history ≡ true → AllByRecursion (IsKeptIn c history) batch.claims
    → reply_of tokens_of history (Release c batch) ≡ released (Err (Unfilled NoRight)) → ⊥
releases tokens_of history c batch ok kept reply = true≢false (sym (ap refuses_right reply) ∙ by (slice_get (replay history) c) refl)
  where
    by : (o : Option ChannelBook) → slice_get (replay history) c ≡ o → refuses_right (released (asked NoSuchChannel o (λ ch. fill_answer ch.state batch.claims batch.outputs batch.preimages))) ≡ false
    by None at = refl
    by (Some ch) at =
        let fills = all_filled tokens_of history c ch batch.claims ok at kept in
        no_right (fill_refusal batch.claims batch.outputs (rights_of ch.state) batch.preimages) _ (first_none batch.claims batch.outputs ch.state batch.preimages (nothing_lacks ch.state batch.preimages batch.claims fills))

pub kept_are_fillable : KeptAreFillable
kept_are_fillable = record {
  slots = λ tokens_of history c ch claims preimages ok at kept. nothing_lacks ch.state preimages claims (all_filled tokens_of history c ch claims ok at kept);
  releases = releases;
}
