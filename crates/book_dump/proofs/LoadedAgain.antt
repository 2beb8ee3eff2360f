-- What is dumped is loaded as the same history.
use Rattle.std.proofs.Common.{◌≡◌, ℕ, suc, Bool, true, false, List, [], ◌∷◌, ◌++◌, length, map, reverse, Option, Some, None, Result, Ok, Err, refl, sym, ap, ◌∙◌, subst, append-nil, append_assoc}
use Rattle.std.proofs.lemmas.List.{reverse-append}
use Rattle.std.specs.Prelude.{if◌then◌else◌, option_map, IfOk}
use Rattle.std.specs.List.{AllByRecursion}
use Rattle.serde_json.specs.Data.{Data}
use Rattle.serde_json.specs.View.{items_of}
use Rattle.serde_json.specs.Read.{read}
use Rattle.script.specs.Spelling.{spelling}
use Rattle.terms.specs.declared.sides.Side.{Side}
use Rattle.terms.specs.declared.sides.Side.TheVariants.{A, B}
use Rattle.terms.specs.declared.agreement.Terms.{Terms}
use Rattle.terms.specs.Agreement.{party}
use Rattle.terms.specs.Sides.{other}
use Rattle.updates.specs.declared.changes.Update.{Update}
use Rattle.claim.specs.Claims.{ClaimParts, IsWhole}
use Rattle.channel.specs.States.{Signing}
use Rattle.channel.specs.Tokens.{peer_tokens}
use Rattle.updates.specs.declared.messages.PeerStep.{PeerStep}
use Rattle.updates.specs.declared.messages.PeerStep.TheVariants.{Update as Updated, CommitmentSigned}
use Rattle.texts.specs.declared.steps.PlainStep.TheVariants.{Receive}
use Rattle.texts.specs.declared.calls.PlainCall.{PlainCall}
use Rattle.texts.specs.declared.calls.PlainCall.TheVariants as plain
use Rattle.texts.specs.Values.{each_of}
use Rattle.texts.specs.Messages.{update_of}
use Rattle.texts.specs.Steps.{received_of}
use Rattle.terms.specs.Proposals.{can_agree, party_of}
use Rattle.texts.specs.Calls.{are_within, call_of as call_in, entry_of as entry_in, has_close, any_close as any_plain_close}
use Rattle.texts.specs.Writing.{update_data}
use Rattle.texts.specs.ClaimWriting.{plain_claim}
use Rattle.texts.specs.CallWriting.{CanOpen, open_data, receive_data, release_data, entry_data}
use Rattle.texts.proofs.CallReturning.{updated_again, dumps_come_back as dump_text}
use Rattle.terms.specs.Bases.{IsSeedOf}
use Rattle.book.specs.declared.calls.Opening.{Opening}
use Rattle.book.specs.declared.calls.Batch.{Batch}
use Rattle.book.specs.declared.calls.Call.{Call}
use Rattle.book.specs.declared.calls.Call.TheVariants.{Open, Step as Stepping, Sign, Revoke, Keep, Release, Close}
use Rattle.book.specs.declared.calls.Step.{Step}
use Rattle.book.specs.declared.calls.Step.TheVariants.{Own, Peer}
use Rattle.book.specs.declared.calls.Entry.{Entry}
use Rattle.book_dump.specs.declared.errors.LoadError.TheVariants as loads
use Rattle.book.specs.Accepted.{is_taken, first_refused_after, all_accepted}
use Rattle.book.specs.Seeds.{bases_of}
use Rattle.book_dump.specs.Openings.{own_or_others, terms_with, owns, opening_if, opening_of, batch_of}
use Rattle.plain_claims.specs.Claims.{checked_of, claim_of, claims_of}
use Rattle.book_dump.specs.Loading.{call_of, with_seat, entry_of}
use Rattle.book_dump.specs.Dumping.{plain_party, plain_terms, plain_opening, plain_step, plain_call, plain_entry, step_data, call_data, history_entry_data, is_close, any_close, history_data}
use Rattle.book_dump.specs.Loaded.{with_entry, history_after_plain, loaded}
use Rattle.book_dump.specs.Again.{HasWholeClaims, HasStepTokens, HasTokens, ComesBack, ClaimsComeBack, OpeningsComeBack, EntriesComeBack}
use Rattle.claim.proofs.OpcodesRead.{reads}
use Rattle.terms.proofs.Agreed.{same_terms}
use Rattle.book.proofs.SameKeys.{same_bases}
use Rattle.book_dump.proofs.SameOpenings.{same_opening, agrees, batch_is, within_batch}
use Rattle.book.proofs.Accepted.{accepted_means}
use Rattle.book_dump.proofs.PeerTokens.{each_token}

-- ---- claims

pub claims_come_back : ClaimsComeBack
unfolding claim_of checked_of
claims_come_back c h =
    let spelt = reads c.ways.ops (spelling c.ways.ops) (record { each = h.ops; same = refl }) h.short in
    rw (spelt, h.listed, h.bare, h.accepted) refl

each_claim : (claims : List ClaimParts) → AllByRecursion IsWhole claims → claims_of (map plain_claim claims) ≡ Some claims
unfolding claims_of
each_claim [] h = refl
each_claim (c ∷ claims) h = rw (claims_come_back c h.0, each_claim claims h.1) refl

-- ---- openings

party_a : (side : Side) (t : Terms) (seed : List ℕ) → IsSeedOf seed (party side t).bases → party_of (plain_party t.a) (own_or_others side A (bases_of seed) (party (other side) t).bases) ≡ t.a
party_a A t seed h = ap (party_of (plain_party t.a)) (sym (same_bases seed t.a.bases h))
party_a B t seed h = refl

party_b : (side : Side) (t : Terms) (seed : List ℕ) → IsSeedOf seed (party side t).bases → party_of (plain_party t.b) (own_or_others side B (bases_of seed) (party (other side) t).bases) ≡ t.b
party_b A t seed h = refl
party_b B t seed h = ap (party_of (plain_party t.b)) (sym (same_bases seed t.b.bases h))

pub openings_come_back : OpeningsComeBack
unfolding opening_of
openings_come_back o = go (can_agree (plain_terms o.terms)) refl
  where
    same : (h : can_agree (plain_terms o.terms) ≡ true) → terms_with o.side (plain_opening o) h ≡ o.terms
    same h =
        same_terms (terms_with o.side (plain_opening o) h) o.terms
        (record { funding_is = refl; capacity_is = refl; opener_is = refl; feerate_is = refl; a_is = party_a o.side o.terms o.seed o.own; b_is = party_b o.side o.terms o.seed o.own })

    go : (b : Bool) (h : can_agree (plain_terms o.terms) ≡ b) → opening_if (plain_opening o) b h ≡ Some o
    go true h =
        ap Some
        (same_opening
        (record { terms = terms_with o.side (plain_opening o) h; side = o.side; seed = o.seed; first_point = o.first_point; next_point = o.next_point; token = o.token; own = owns o.side (plain_opening o) h })
        o (record { terms_is = same h; side_is = refl; seed_is = refl; first_point_is = refl; next_point_is = refl; token_is = refl }))
    go false h = absurd (cc (agrees (plain_terms o.terms) (record { limited = o.terms.limited; whole = o.terms.whole }) o.terms.short_a o.terms.short_b))

-- ---- entries

same_batches : (b : Batch) → batch_of b.claims b.outputs b.preimages ≡ Some b
same_batches b =
    sym (batch_is b.claims b.outputs b.preimages (Some b) (λ _. record { some = b.some; inputs = b.inputs; given = b.given }, λ _. refl) (record { claims_is = refl; outputs_is = refl; preimages_is = refl }))

call_back : (c : Call) → HasWholeClaims c → call_of (plain_call c) ≡ Ok c
unfolding call_of
call_back (Open o) h = rw (openings_come_back o) refl
call_back (Stepping channel (Own u)) h = refl
call_back (Stepping channel (Peer (Updated u))) h = refl
call_back (Stepping channel (Peer (CommitmentSigned tokens))) h = refl
call_back (Sign channel) h = refl
call_back (Revoke channel revocation) h = refl
call_back (Keep channel number claims) h = rw (each_claim claims h) refl
call_back (Release channel batch) h = rw (each_claim batch.claims h, same_batches batch) refl
call_back (Close channel) h = refl

pub entries_come_back : EntriesComeBack
unfolding entry_of
entries_come_back e h = ap (with_seat e.seat) (call_back e.call h)

-- ---- histories

abbrev AreWhole : List Entry → Type 0
AreWhole es = AllByRecursion (λ e. HasWholeClaims e.call) es

from_each : (tokens_of : Signing) (i : ℕ) (before es : List Entry) → AreWhole es → first_refused_after tokens_of before es ≡ None
    → history_after_plain tokens_of i before (map plain_entry es) ≡ Ok (reverse before ++ es)
from_each tokens_of i before [] h none = ap Ok (sym (append-nil (reverse before)))
from_each tokens_of i before (e ∷ es) h none =
    ap (with_entry tokens_of i before (λ later. history_after_plain tokens_of (suc i) later (map plain_entry es))) (entries_come_back e h.0) ∙ go (is_taken tokens_of before e) none
    (from_each tokens_of (suc i) (e ∷ before) es h.1)
  where
    rest : (o : Option ℕ) → option_map suc o ≡ None → o ≡ None
    rest None e = refl
    rest (Some n) e = absurd (cc)

    go : (taken : Bool) → (if taken then option_map suc (first_refused_after tokens_of (e ∷ before) es) else Some 0) ≡ None
        → (first_refused_after tokens_of (e ∷ before) es ≡ None → history_after_plain tokens_of (suc i) (e ∷ before) (map plain_entry es) ≡ Ok (reverse (e ∷ before) ++ es))
        → (if taken then history_after_plain tokens_of (suc i) (e ∷ before) (map plain_entry es) else Err (loads.BadHistory i)) ≡ Ok (reverse before ++ e ∷ es)
    go true none later = later (rest (first_refused_after tokens_of (e ∷ before) es) none) ∙ ap Ok (ap (λ es'. es' ++ es) (reverse-append (e ∷ []) before) ∙ append_assoc (reverse before) (e ∷ []) es)
    go false none later = absurd (cc)

-- ---- what is written

-- a received update, read back from the message that was written
received_again : (channel : ℕ) (u : Update) (d : Data) → d ≡ update_data u → update_of (update_data u) ≡ Some u
    → ((m : PeerStep) → received_of d ≡ Some m → call_in (receive_data channel d) ≡ Some (plain.Step channel (Receive m)))
    → call_in (step_data channel (Peer (Updated u))) ≡ Some (plain.Step channel (plain_step (Peer (Updated u))))
received_again channel u d same back go =
    subst (λ e. call_in (receive_data channel e) ≡ Some (plain.Step channel (plain_step (Peer (Updated u))))) same (go (Updated u) (ap received_of same ∙ updated_again u back))

pub update_again : {A E : Type 0} (channel : ℕ) (s : Step) (u : Update) (d : Data) (r : Result A E) → s ≡ Peer (Updated u) → d ≡ update_data u → update_of (update_data u) ≡ Some u
    → IfOk r (λ _. (m : PeerStep) → received_of d ≡ Some m → call_in (receive_data channel d) ≡ Some (plain.Step channel (Receive m)))
    → IfOk r (λ _. HasStepTokens s → call_in (step_data channel s) ≡ Some (plain.Step channel (plain_step s)))
update_again channel s u d (Ok v) is same back go =
    λ tokens. subst (λ (t : Step). call_in (step_data channel t) ≡ Some (plain.Step channel (plain_step t))) (sym is) (received_again channel u d same back go)
update_again channel s u d (Err e) is same back go = tt

pub opening_again : (o : Opening) → (CanOpen (plain_opening o) → call_in (open_data (plain_opening o)) ≡ Some (plain.Open (plain_opening o))) → HasTokens (Open o) → call_in (call_data (Open o)) ≡ Some (plain_call (Open o))
opening_again o go token = go (agrees (plain_terms o.terms) (record { limited = o.terms.limited; whole = o.terms.whole }) o.terms.short_a o.terms.short_b, token)

pub release_again : (channel : ℕ) (batch : Batch) → (are_within (length batch.claims) (length batch.outputs) ≡ true
    → call_in (release_data channel batch.claims batch.outputs batch.preimages) ≡ Some (plain.Release channel (map plain_claim batch.claims) batch.outputs batch.preimages))
    → call_in (call_data (Release channel batch)) ≡ Some (plain_call (Release channel batch))
release_again channel batch go = go (within_batch batch)

pub entry_again : (e : Entry) (d : Data) → d ≡ call_data e.call → (HasTokens e.call → call_in (call_data e.call) ≡ Some (plain_call e.call)) → HasWholeClaims e.call
    → ((call : PlainCall) → call_in d ≡ Some call → entry_in (entry_data d e.seat) ≡ Some (record { call = call; seat = e.seat })) → ComesBack e
entry_again e d same read whole go = record {
  read = λ tokens. subst (λ x. entry_in (entry_data x e.seat) ≡ Some (plain_entry e)) same (go (plain_call e.call) (ap call_in same ∙ read tokens));
  whole = whole;
}

are_whole : (es : List Entry) → AllByRecursion ComesBack es → AreWhole es
are_whole [] back = tt
are_whole (e ∷ es) back = (back.0.whole, are_whole es back.1)

are_read : (es : List Entry) → AllByRecursion ComesBack es → AllByRecursion (λ e. HasTokens e.call) es → each_of entry_in (items_of (map history_entry_data es)) ≡ Some (map plain_entry es)
are_read [] back tokens = refl
are_read (e ∷ es) back tokens = rw (back.0.read tokens.0, are_read es back.1 tokens.1) refl

-- the plain calls have a close exactly where the calls do
same_close : (c : Call) → has_close (plain_call c) ≡ is_close c
same_close (Open o) = refl
same_close (Stepping channel step) = refl
same_close (Sign channel) = refl
same_close (Revoke channel revocation) = refl
same_close (Keep channel number claims) = refl
same_close (Release channel batch) = refl
same_close (Close channel) = refl

same_closes : (es : List Entry) → any_plain_close (map plain_entry es) ≡ any_close es
same_closes [] = refl
same_closes (e ∷ es) = rw (same_close e.call, same_closes es) refl

-- a text with the JSON of accepted entries is loaded as their history
loads_again : (history : List Entry) (text : List ℕ) → all_accepted peer_tokens history ≡ true → AllByRecursion ComesBack history → read text ≡ Some (history_data history)
    → loaded peer_tokens text ≡ Ok history
unfolding loaded
loads_again history text accepted back readable =
    let none = (accepted_means.none_refused peer_tokens history).1 accepted in
    let shape = dump_text (any_close history) (map history_entry_data history) (map plain_entry history) (are_read history back (each_token [] history none)) (same_closes history) in
    rw (readable, shape) (from_each peer_tokens 0 [] history (are_whole history back) none)

pub loaded_again : {S E : Type 0} (bytes : S → List ℕ) (history : List Entry) (r : Result S E) → AllByRecursion ComesBack history
    → IfOk r (λ s. read (bytes s) ≡ Some (history_data history)) → IfOk r (λ s. all_accepted peer_tokens history ≡ true → loaded peer_tokens (bytes s) ≡ Ok history)
loaded_again bytes history (Ok s) back readable = λ accepted. loads_again history (bytes s) accepted back readable
loaded_again bytes history (Err e) back readable = tt
