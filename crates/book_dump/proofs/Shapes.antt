-- A text that is read as a dump has no entry that is refused as BadShape. The first entry that is not taken is refused.
use Rattle.std.proofs.Common.{◌≡◌, ◌↔◌, ℕ, suc, ◌+◌, Bool, true, false, true≢false, List, [], ◌∷◌, ◌++◌, length, take, map, reverse, Option, Some, None, Result, Ok, Err, refl, sym, ap, ◌∙◌, subst, codes, arith, append-nil}
use Rattle.std.specs.Prelude.{if◌then◌else◌, option_map, ⊤, slice_get}
use Rattle.std.specs.Str.{bytes_eq}
use Rattle.std.specs.List.{AllByRecursion}
use Rattle.std.proofs.lemmas.Bool.{and_from}
use Rattle.std.proofs.lemmas.Option.{none-some, same_Some}
use Rattle.serde_json.specs.Data.{Data, Items, no_items, item}
use Rattle.serde_json.specs.Find.{as_array, get}
use Rattle.serde_json.specs.Read.{read}
use Rattle.tx.specs.Parts.{Output}
use Rattle.claim.specs.Claims.{ClaimParts}
use Rattle.channel.specs.States.{Signing}
use Rattle.texts.specs.declared.claims.PlainClaim.{PlainClaim}
use Rattle.texts.specs.declared.calls.PlainOpening.{PlainOpening}
use Rattle.texts.specs.declared.calls.PlainCall.{PlainCall}
use Rattle.texts.specs.declared.calls.PlainCall.TheVariants as plain
use Rattle.texts.specs.declared.calls.PlainEntry.{PlainEntry}
use Rattle.texts.specs.declared.calls.PlainDump.{PlainDump}
use Rattle.claim.specs.Opcodes.{◌>>=◌}
use Rattle.texts.specs.Values.{array_of, object_of, item_of, member_of, pair_of, tag_of, each_of, list_of, u64_of, u32_of, side_of, bytes_of_len}
use Rattle.texts.specs.Keys.{key_of, base_keys_of, token_bytes_of}
use Rattle.texts.specs.Outpoints.{outpoint_of}
use Rattle.texts.specs.Outputs.{output_of}
use Rattle.texts.specs.Terms.{terms_of}
use Rattle.texts.specs.Claims.{claim_of as claim_in}
use Rattle.texts.specs.Steps.{revocation_of, step_of as step_in}
use Rattle.terms.specs.Proposals.{can_agree}
use Rattle.texts.specs.Calls.{are_within, opening_of as opening_in, open_of, step_call_of, sign_of, revoke_of, keep_of, release_of as release_in, close_of, call_named, call_of as call_in, entry_of as entry_in, is_version, dump_of}
use Rattle.book_dump.specs.declared.errors.EntryError.{EntryError}
use Rattle.book_dump.specs.declared.errors.EntryError.TheVariants as entries
use Rattle.book_dump.specs.declared.errors.LoadError.{LoadError}
use Rattle.book_dump.specs.declared.errors.LoadError.TheVariants.{NoMemory, NotJson, BadShape, BadClaim, BadHistory}
use Rattle.book.specs.declared.calls.Call.{Call}
use Rattle.book.specs.declared.calls.Call.TheVariants.{Open, Keep, Release}
use Rattle.book.specs.declared.calls.Entry.{Entry}
use Rattle.book.specs.Accepted.{is_taken, are_accepted}
use Rattle.book_dump.specs.Openings.{opening_if, opening_of, batch_if, batch_of}
use Rattle.plain_claims.specs.Claims.{claim_of, claims_of}
use Rattle.book_dump.specs.Loading.{shaped, with_claims, release_of, call_of, with_seat, entry_of}
use Rattle.book_dump.specs.Loaded.{or_refused, dump_in_value, with_entry, history_after_plain, history_in_dump, dump_in, loaded}
use Rattle.book_dump.specs.Refused.{HasBadClaim, HasBadCall, StopsAt, RefusalsComeInOrder}
use Rattle.book.proofs.Accepted.{onto}

-- ---- properties of an optional value

abbrev Gives : {A : Type 0} → (A → Type 0) → Option A → Type 0
Gives P (Some x) = P x
Gives P None = ⊤

gives_any : {A B : Type 0} (P : B → Type 0) (o : Option A) (f : A → Option B) → ((x : A) → Gives P (f x)) → Gives P (o >>= f)
gives_any P (Some x) f h = h x
gives_any P None f h = tt

gives_then : {A B : Type 0} (P : A → Type 0) (Q : B → Type 0) (o : Option A) (f : A → Option B) → Gives P o → ((x : A) → P x → Gives Q (f x)) → Gives Q (o >>= f)
gives_then P Q (Some x) f h go = go x h
gives_then P Q None f h go = tt

gives_if : {A : Type 0} (P : A → Type 0) (b : Bool) (x : A) → (b ≡ true → P x) → Gives P (if b then Some x else None)
gives_if P true x h = h refl
gives_if P false x h = tt

gives_either : {A : Type 0} (P : A → Type 0) (b : Bool) (o p : Option A) → Gives P o → Gives P p → Gives P (if b then o else p)
gives_either P true o p h k = h
gives_either P false o p h k = k

-- ---- what is read

abbrev CanAgree : PlainOpening → Type 0
CanAgree o = can_agree o.terms ≡ true

-- the sides can agree on an opening's terms, and one transaction can take a release
abbrev IsShaped : PlainCall → Type 0
IsShaped (plain.Open o) = CanAgree o
IsShaped (plain.Step channel step) = ⊤
IsShaped (plain.Sign channel) = ⊤
IsShaped (plain.Revoke channel r) = ⊤
IsShaped (plain.Keep channel number claims) = ⊤
IsShaped (plain.Release channel claims outputs preimages) = are_within (length claims) (length outputs) ≡ true
IsShaped (plain.Close channel) = ⊤

abbrev IsShapedEntry : PlainEntry → Type 0
IsShapedEntry e = IsShaped e.call

shaped_opening : (d : Data) → Gives CanAgree (opening_in d)
unfolding opening_in
shaped_opening d =
    gives_any CanAgree (array_of 8 d) _ (λ form.
    gives_any CanAgree (item_of 1 terms_of form) _ (λ terms.
    gives_any CanAgree (item_of 2 outpoint_of form) _ (λ funding.
    gives_any CanAgree (item_of 3 side_of form) _ (λ side.
    gives_any CanAgree (item_of 4 (bytes_of_len 32) form) _ (λ seed.
    gives_any CanAgree (item_of 5 base_keys_of form) _ (λ bases.
    gives_any CanAgree (item_of 6 (pair_of key_of) form) _ (λ points.
    gives_any CanAgree (item_of 7 token_bytes_of form) _ (λ token.
    gives_if CanAgree (can_agree terms) _ (λ agreed. agreed)))))))))

shaped_open : (d : Data) → Gives IsShaped (open_of d)
unfolding open_of
shaped_open d = gives_then CanAgree IsShaped (opening_in d) _ (shaped_opening d) (λ o agreed. agreed)

shaped_step : (d : Data) → Gives IsShaped (step_call_of d)
unfolding step_call_of
shaped_step d = gives_any IsShaped (item_of 1 u64_of d) _ (λ channel. gives_any IsShaped (step_in d) _ (λ step. tt))

shaped_sign : (d : Data) → Gives IsShaped (sign_of d)
unfolding sign_of
shaped_sign d = gives_any IsShaped (array_of 2 d) _ (λ form. gives_any IsShaped (item_of 1 u64_of form) _ (λ channel. tt))

shaped_revoke : (d : Data) → Gives IsShaped (revoke_of d)
unfolding revoke_of
shaped_revoke d =
    gives_any IsShaped (array_of 3 d) _ (λ form.
    gives_any IsShaped (item_of 1 u64_of form) _ (λ channel.
    gives_any IsShaped (item_of 2 revocation_of form) _ (λ r. tt)))

shaped_keep : (d : Data) → Gives IsShaped (keep_of d)
unfolding keep_of
shaped_keep d =
    gives_any IsShaped (array_of 4 d) _ (λ form.
    gives_any IsShaped (item_of 1 u64_of form) _ (λ channel.
    gives_any IsShaped (item_of 2 u64_of form) _ (λ number.
    gives_any IsShaped (item_of 3 (list_of claim_in) form) _ (λ claims. tt))))

shaped_release : (d : Data) → Gives IsShaped (release_in d)
unfolding release_in
shaped_release d =
    gives_any IsShaped (array_of 5 d) _ (λ form.
    gives_any IsShaped (item_of 1 u64_of form) _ (λ channel.
    gives_any IsShaped (item_of 2 (list_of claim_in) form) _ (λ claims.
    gives_any IsShaped (item_of 3 (list_of output_of) form) _ (λ outputs.
    gives_any IsShaped (item_of 4 (list_of (bytes_of_len 32)) form) _ (λ preimages.
    gives_if IsShaped (are_within (length claims) (length outputs)) _ (λ within. within))))))

shaped_close : (d : Data) → Gives IsShaped (close_of d)
unfolding close_of
shaped_close d = gives_any IsShaped (array_of 2 d) _ (λ form. gives_any IsShaped (item_of 1 u64_of form) _ (λ channel. tt))

shaped_named : (name : List ℕ) (d : Data) → Gives IsShaped (call_named name d)
unfolding call_named
shaped_named name d =
    gives_either IsShaped (bytes_eq name (codes "open")) _ _ (shaped_open d)
    (gives_either IsShaped (bytes_eq name (codes "step")) _ _ (shaped_step d)
    (gives_either IsShaped (bytes_eq name (codes "sign")) _ _ (shaped_sign d)
    (gives_either IsShaped (bytes_eq name (codes "revoke")) _ _ (shaped_revoke d)
    (gives_either IsShaped (bytes_eq name (codes "keep")) _ _ (shaped_keep d)
    (gives_either IsShaped (bytes_eq name (codes "release")) _ _ (shaped_release d)
    (gives_either IsShaped (bytes_eq name (codes "close")) _ _ (shaped_close d) tt))))))

shaped_call : (d : Data) → Gives IsShaped (call_in d)
unfolding call_in
shaped_call d = gives_any IsShaped (tag_of d) _ (λ name. shaped_named name d)

shaped_entry : (d : Data) → Gives IsShapedEntry (entry_in d)
unfolding entry_in
shaped_entry d =
    gives_any IsShapedEntry (object_of 2 d) _ (λ form.
    gives_then IsShaped IsShapedEntry (member_of (codes "call") call_in form) _ (gives_any IsShaped (get (codes "call") form) _ shaped_call) (λ call is.
    gives_any IsShapedEntry (member_of (codes "seat") u32_of form) _ (λ seat. is)))

shaped_entries : (ds : Items) → Gives (AllByRecursion IsShapedEntry) (each_of entry_in ds)
shaped_entries no_items = tt
shaped_entries (item d ds) =
    gives_then IsShapedEntry (AllByRecursion IsShapedEntry) (entry_in d) _ (shaped_entry d) (λ e is.
    gives_then (AllByRecursion IsShapedEntry) (AllByRecursion IsShapedEntry) (each_of entry_in ds) _ (shaped_entries ds) (λ es are. (is, are)))

abbrev IsShapedDump : PlainDump → Type 0
IsShapedDump dump = AllByRecursion IsShapedEntry dump.history

shaped_dump : (d : Data) → Gives IsShapedDump (dump_of d)
unfolding dump_of
shaped_dump d =
    gives_any IsShapedDump (object_of 2 d) _ (λ form.
    gives_any IsShapedDump (member_of (codes "version") u64_of form) _ (λ version.
    gives_then (AllByRecursion IsShapedEntry) IsShapedDump (member_of (codes "history") (list_of entry_in) form) _
    (gives_any (AllByRecursion IsShapedEntry) (get (codes "history") form) _ (λ h. gives_any (AllByRecursion IsShapedEntry) (as_array h) _ shaped_entries))
    (λ history are. gives_if IsShapedDump (is_version version history) _ (λ known. are))))

-- ---- the calls and entries that it stands for

-- there is no fault but a bad claim
abbrev IsSound : {A : Type 0} → Result A EntryError → Type 0
IsSound (Ok x) = ⊤
IsSound (Err entries.NoMemory) = ⊥
IsSound (Err entries.BadShape) = ⊥
IsSound (Err entries.BadClaim) = ⊤

sound_open : (o : PlainOpening) → CanAgree o → IsSound (shaped (option_map Open (opening_of o)))
unfolding opening_of
sound_open o agreed = go (can_agree o.terms) refl agreed
  where
    go : (b : Bool) (h : can_agree o.terms ≡ b) → b ≡ true → IsSound (shaped (option_map Open (opening_if o b h)))
    go true h is = tt
    go false h is = absurd (true≢false (sym is))

sound_batch : (channel : ℕ) (claims : List ClaimParts) (outputs : List Output) (preimages : List (List ℕ)) → are_within (length claims) (length outputs) ≡ true
    → IsSound (release_of channel outputs preimages claims)
unfolding batch_of
sound_batch channel claims outputs preimages within = go (are_within (length claims) (length outputs)) refl within
  where
    go : (b : Bool) (h : are_within (length claims) (length outputs) ≡ b) → b ≡ true → IsSound (shaped (option_map (Release channel) (batch_if claims outputs preimages b h)))
    go true h is = tt
    go false h is = absurd (true≢false (sym is))

-- the accepted claims have the same number
same_length : (ps : List PlainClaim) → Gives (λ claims. length claims ≡ length ps) (claims_of ps)
unfolding claims_of
same_length [] = refl
same_length (p ∷ ps) =
    gives_any (λ claims. length claims ≡ suc (length ps)) (claim_of p) _ (λ c.
    gives_then (λ claims. length claims ≡ length ps) (λ claims. length claims ≡ suc (length ps)) (claims_of ps) _ (same_length ps) (λ claims same. ap suc same))

sound_release : (channel n : ℕ) (claims : Option (List ClaimParts)) (outputs : List Output) (preimages : List (List ℕ)) → Gives (λ cs. length cs ≡ n) claims
    → are_within n (length outputs) ≡ true → IsSound (with_claims claims (release_of channel outputs preimages))
sound_release channel n (Some claims) outputs preimages same within =
    sound_batch channel claims outputs preimages (subst (λ k. are_within k (length outputs) ≡ true) (sym same) within)
sound_release channel n None outputs preimages same within = tt

sound_keep : (channel number : ℕ) (claims : Option (List ClaimParts)) → IsSound (with_claims claims (λ cs. Ok (Keep channel number cs)))
sound_keep channel number (Some claims) = tt
sound_keep channel number None = tt

sound_call : (p : PlainCall) → IsShaped p → IsSound (call_of p)
unfolding call_of
sound_call (plain.Open o) is = sound_open o is
sound_call (plain.Step channel step) is = tt
sound_call (plain.Sign channel) is = tt
sound_call (plain.Revoke channel r) is = tt
sound_call (plain.Keep channel number claims) is = sound_keep channel number (claims_of claims)
sound_call (plain.Release channel claims outputs preimages) is = sound_release channel (length claims) (claims_of claims) outputs preimages (same_length claims) is
sound_call (plain.Close channel) is = tt

sound_entry : (p : PlainEntry) → IsShapedEntry p → IsSound (entry_of p)
unfolding entry_of
sound_entry p is = go (call_of p.call) (sound_call p.call is)
  where
    go : (r : Result Call EntryError) → IsSound r → IsSound (with_seat p.seat r)
    go (Ok call) h = tt
    go (Err entries.NoMemory) h = h
    go (Err entries.BadShape) h = h
    go (Err entries.BadClaim) h = tt

-- ---- what it is loaded as

-- a history, or the refusal of an entry
abbrev IsOfEntries : Result (List Entry) LoadError → Type 0
IsOfEntries (Ok history) = ⊤
IsOfEntries (Err NoMemory) = ⊥
IsOfEntries (Err NotJson) = ⊥
IsOfEntries (Err BadShape) = ⊥
IsOfEntries (Err (BadClaim i)) = ⊤
IsOfEntries (Err (BadHistory i)) = ⊤

with_one : (tokens_of : Signing) (i : ℕ) (before : List Entry) (go : List Entry → Result (List Entry) LoadError) (r : Result Entry EntryError)
    → IsSound r → ((es : List Entry) → IsOfEntries (go es)) → IsOfEntries (with_entry tokens_of i before go r)
with_one tokens_of i before go (Ok e) h later = by (is_taken tokens_of before e)
  where
    by : (taken : Bool) → IsOfEntries (if taken then go (e ∷ before) else Err (BadHistory i))
    by true = later (e ∷ before)
    by false = tt
with_one tokens_of i before go (Err entries.NoMemory) h later = h
with_one tokens_of i before go (Err entries.BadShape) h later = h
with_one tokens_of i before go (Err entries.BadClaim) h later = tt

of_entries : (tokens_of : Signing) (i : ℕ) (before : List Entry) (ps : List PlainEntry) → AllByRecursion IsShapedEntry ps → IsOfEntries (history_after_plain tokens_of i before ps)
of_entries tokens_of i before [] are = tt
of_entries tokens_of i before (p ∷ ps) are =
    with_one tokens_of i before (λ es. history_after_plain tokens_of (suc i) es ps) (entry_of p) (sound_entry p are.0) (λ es. of_entries tokens_of (suc i) es ps are.1)

-- ---- the first refusal

abbrev refused_as : LoadError → Result (List Entry) LoadError
refused_as e = Err e

same_Err : {x y : LoadError} → refused_as x ≡ refused_as y → x ≡ y
same_Err is = cc

-- what a refusal at an index says of the entry there
abbrev Says : Signing → List Entry → PlainEntry → ℕ → LoadError → Type 0
Says tokens_of before p i NoMemory = ⊤
Says tokens_of before p i NotJson = ⊤
Says tokens_of before p i BadShape = ⊤
Says tokens_of before p i (BadClaim k) = (k ≡ i) × HasBadClaim before p
Says tokens_of before p i (BadHistory k) = (k ≡ i) × HasBadCall tokens_of before p

-- `many` entries are accepted, and the next one is refused
record Stops (tokens_of : Signing) (i : ℕ) (before : List Entry) (ps : List PlainEntry) (e : LoadError) : Type 0 where
  many : ℕ
  earlier : List Entry
  entry : PlainEntry
  taken : map entry_of (take many ps) ≡ map Ok earlier
  accepted : are_accepted tokens_of (reverse earlier ++ before) ≡ true
  there : slice_get ps many ≡ Some entry
  refused : Says tokens_of (reverse earlier ++ before) entry (i + many) e

at_once : (tokens_of : Signing) (i : ℕ) (before : List Entry) (p : PlainEntry) (ps : List PlainEntry) (e : LoadError) → are_accepted tokens_of before ≡ true → Says tokens_of before p i e
    → Stops tokens_of i before (p ∷ ps) e
at_once tokens_of i before p ps e ok says = record {
  many = 0;
  earlier = [];
  entry = p;
  taken = refl;
  accepted = ok;
  there = refl;
  refused = subst (λ k. Says tokens_of before p k e) (omega arith) says;
}

one_on : (tokens_of : Signing) (i : ℕ) (before : List Entry) (p : PlainEntry) (x : Entry) (ps : List PlainEntry) (e : LoadError) → entry_of p ≡ Ok x
    → Stops tokens_of (suc i) (x ∷ before) ps e → Stops tokens_of i before (p ∷ ps) e
one_on tokens_of i before p x ps e is s = record {
  many = suc s.many;
  earlier = x ∷ s.earlier;
  entry = s.entry;
  taken = cc s.taken;
  accepted = ap (are_accepted tokens_of) (onto x s.earlier before) ∙ s.accepted;
  there = s.there;
  refused =
      subst (λ es. Says tokens_of es s.entry (i + suc s.many) e) (sym (onto x s.earlier before))
      (subst (λ k. Says tokens_of (reverse s.earlier ++ (x ∷ before)) s.entry k e) (omega arith) s.refused);
}

stops : (tokens_of : Signing) (i : ℕ) (before : List Entry) (ps : List PlainEntry) (e : LoadError) → are_accepted tokens_of before ≡ true → history_after_plain tokens_of i before ps ≡ Err e
    → Stops tokens_of i before ps e
stops tokens_of i before [] e ok is = absurd (cc)
stops tokens_of i before (p ∷ ps) e ok is = by (entry_of p) refl is (λ x accepted. stops tokens_of (suc i) (x ∷ before) ps e accepted)
  where
    taken_or : (x : Entry) (taken : Bool) → entry_of p ≡ Ok x → is_taken tokens_of before x ≡ taken
        → (if taken then history_after_plain tokens_of (suc i) (x ∷ before) ps else Err (BadHistory i)) ≡ Err e
        → (are_accepted tokens_of (x ∷ before) ≡ true → history_after_plain tokens_of (suc i) (x ∷ before) ps ≡ Err e → Stops tokens_of (suc i) (x ∷ before) ps e)
        → Stops tokens_of i before (p ∷ ps) e
    taken_or x true read taken is later = one_on tokens_of i before p x ps e read (later (and_from _ _ taken ok) is)
    taken_or x false read taken is later = at_once tokens_of i before p ps e ok (subst (λ f. Says tokens_of before p i f) (same_Err is) (refl, (x, read, taken)))

    by : (r : Result Entry EntryError) → entry_of p ≡ r → with_entry tokens_of i before (λ es. history_after_plain tokens_of (suc i) es ps) r ≡ Err e
        → ((x : Entry) → are_accepted tokens_of (x ∷ before) ≡ true → history_after_plain tokens_of (suc i) (x ∷ before) ps ≡ Err e → Stops tokens_of (suc i) (x ∷ before) ps e)
        → Stops tokens_of i before (p ∷ ps) e
    by (Ok x) read is later = taken_or x (is_taken tokens_of before x) read refl is (later x)
    by (Err entries.NoMemory) read is later = at_once tokens_of i before p ps e ok (subst (λ f. Says tokens_of before p i f) (same_Err is) tt)
    by (Err entries.BadShape) read is later = at_once tokens_of i before p ps e ok (subst (λ f. Says tokens_of before p i f) (same_Err is) tt)
    by (Err entries.BadClaim) read is later = at_once tokens_of i before p ps e ok (subst (λ f. Says tokens_of before p i f) (same_Err is) (refl, read))

-- the same for the history of a dump
stops_at : (tokens_of : Signing) (text : List ℕ) (dump : PlainDump) (e : LoadError) (i : ℕ) (Refused : List Entry → PlainEntry → Type 0) → dump_in text ≡ Ok dump
    → history_after_plain tokens_of 0 [] dump.history ≡ Err e → ((before : List Entry) (p : PlainEntry) (k : ℕ) → Says tokens_of before p k e → (i ≡ k) × Refused before p)
    → StopsAt tokens_of text i Refused
stops_at tokens_of text dump e i Refused shaped is says =
    let s = stops tokens_of 0 [] dump.history e refl is in
    let said = says (reverse s.earlier ++ []) s.entry (0 + s.many) s.refused in
    let place : s.many ≡ i = omega (arith, said.0) in
    record {
      dump = dump;
      earlier = s.earlier;
      entry = s.entry;
      shaped = shaped;
      taken = subst (λ k. map entry_of (take k dump.history) ≡ map Ok s.earlier) place s.taken;
      accepted = ap (are_accepted tokens_of) (sym (append-nil (reverse s.earlier))) ∙ s.accepted;
      there = subst (λ k. slice_get dump.history k ≡ Some s.entry) place s.there;
      refused = subst (λ es. Refused es s.entry) (append-nil (reverse s.earlier)) said.1;
    }

-- ---- the law

abbrev OfValue : Signing → Option Data → Type 0
OfValue tokens_of value =
    ((history_in_dump tokens_of (dump_in_value value) ≡ Err NotJson) ↔ (value ≡ None))
    × ((history_in_dump tokens_of (dump_in_value value) ≡ Err BadShape) ↔ ((d : Data) × (value ≡ Some d) × (dump_of d ≡ None)))

of_value : (tokens_of : Signing) (value : Option Data) → OfValue tokens_of value
of_value tokens_of None = ((λ e. refl, λ e. refl), (λ e. absurd (cc), λ t. absurd (none-some t.0 t.1)))
of_value tokens_of (Some d) = go (dump_of d) refl (shaped_dump d)
  where
    go : (o : Option PlainDump) → dump_of d ≡ o → Gives IsShapedDump o
        → ((history_in_dump tokens_of (or_refused BadShape o) ≡ Err NotJson) ↔ (Some d ≡ None))
        × ((history_in_dump tokens_of (or_refused BadShape o) ≡ Err BadShape) ↔ ((d' : Data) × (Some d ≡ Some d') × (dump_of d' ≡ None)))
    go None is are = ((λ e. absurd (cc), λ e. absurd (cc)), (λ e. (d, refl, is), λ e. refl))
    go (Some dump) is are =
        let h : IsOfEntries (history_after_plain tokens_of 0 [] dump.history) = of_entries tokens_of 0 [] dump.history are in
        ((λ e. absurd (subst IsOfEntries e h), λ e. absurd (cc)), (λ e. absurd (subst IsOfEntries e h), λ t. absurd (none-some dump (sym t.2 ∙ ap dump_of (sym (same_Some d t.0 t.1)) ∙ is))))

-- the refusal of an entry comes from a dump's history
of_history : (tokens_of : Signing) (text : List ℕ) (e : LoadError) → IsOfEntries (Err e) → history_in_dump tokens_of (dump_in text) ≡ Err e
    → (dump : PlainDump) × (dump_in text ≡ Ok dump) × (history_after_plain tokens_of 0 [] dump.history ≡ Err e)
of_history tokens_of text e late is = value (read text) refl is
  where
    shape : (o : Option PlainDump) → dump_in text ≡ or_refused BadShape o → history_in_dump tokens_of (or_refused BadShape o) ≡ Err e
        → (dump : PlainDump) × (dump_in text ≡ Ok dump) × (history_after_plain tokens_of 0 [] dump.history ≡ Err e)
    shape (Some dump) is h = (dump, is, h)
    shape None is h = absurd (subst (λ f. IsOfEntries (Err f)) (sym (same_Err h)) late)

    value : (o : Option Data) → read text ≡ o → history_in_dump tokens_of (dump_in_value o) ≡ Err e
        → (dump : PlainDump) × (dump_in text ≡ Ok dump) × (history_after_plain tokens_of 0 [] dump.history ≡ Err e)
    value None is h = absurd (subst (λ f. IsOfEntries (Err f)) (sym (same_Err h)) late)
    value (Some d) is h = shape (dump_of d) (ap dump_in_value is) h

pub refusals_come_in_order : RefusalsComeInOrder
unfolding loaded
refusals_come_in_order = record {
  not_json = λ tokens_of text. (of_value tokens_of (read text)).0;
  bad_shape = λ tokens_of text. (of_value tokens_of (read text)).1;
  bad_claim = λ tokens_of text i is.
      let h = of_history tokens_of text (BadClaim i) tt is in stops_at tokens_of text h.0 (BadClaim i) i HasBadClaim h.1 h.2 (λ before p k says. says);
  bad_history = λ tokens_of text i is.
      let h = of_history tokens_of text (BadHistory i) tt is in stops_at tokens_of text h.0 (BadHistory i) i (HasBadCall tokens_of) h.1 h.2 (λ before p k says. says);
}
