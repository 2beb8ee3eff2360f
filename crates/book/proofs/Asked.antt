-- Each HTLC that a channel's own updates offer was asked for by a call in the channel.
use Rattle.std.proofs.Common.{◌≡◌, ℕ, zero, suc, List, [], ◌∷◌, ◌++◌, reverse, Some, Contains, refl, sym, ap, subst, arith}
use Rattle.std.specs.Prelude.{slice_get}
use Rattle.std.specs.List.{AllByRecursion}
use Rattle.std.proofs.lemmas.List.{reverse-reverse}
use Rattle.std.proofs.lemmas.List.Elements.{Contains-append_right}
use Rattle.std.proofs.lemmas.Option.{none-some, same_Some}
use Rattle.terms.specs.declared.htlcs.Htlc.{Htlc}
use Rattle.updates.specs.declared.changes.Update.{Update}
use Rattle.updates.specs.declared.changes.Update.TheVariants.{Add, Fulfil as Fulfilling, Fail as Failing, Fee}
use Rattle.updates.specs.declared.changes.OwnUpdate.{OwnUpdate}
use Rattle.updates.specs.declared.changes.OwnUpdate.TheVariants.{Offer, Fulfil, Fail, SetFee}
use Rattle.updates.specs.declared.messages.PeerStep.TheVariants.{Update as Updated, CommitmentSigned}
use Rattle.updates.specs.Updates.{offers}
use Rattle.channel.specs.declared.messages.Message.TheVariants.{RevokeAndAck}
use Rattle.channel.specs.States.{State, update_of, after_sign, after}
use Rattle.book.specs.declared.calls.Step.{Step}
use Rattle.book.specs.declared.calls.Step.TheVariants.{Own, Peer}
use Rattle.book.specs.declared.calls.Call.{Call}
use Rattle.book.specs.declared.calls.Call.TheVariants.{Open, Step as Stepping, Sign, Revoke, Keep, Release, Close}
use Rattle.book.specs.declared.calls.Entry.{Entry}
use Rattle.book.specs.Books.{ChannelBook, Channels, at_index, stepped, opened_by, with_state, with_kept, with_closed, channels_after, replayed}
use Rattle.book.specs.Lived.{IsAskedFor, OffersAreAskedFor}
use Rattle.book.proofs.KeptReleases.{in_reverse}

-- ---- lists

all_from : {X : Type 0} (P Q : X → Type 0) → ((x : X) → P x → Q x) → (xs : List X) → AllByRecursion P xs → AllByRecursion Q xs
all_from P Q f [] h = tt
all_from P Q f (x ∷ xs) h = (f x h.0, all_from P Q f xs h.1)

-- what holds at each index still does once one element changes, or one is added
changed_at : {A : Type 0} (P : ℕ → A → Type 0) (f : A → A) (d : ℕ) (xs : List A) → ((c : ℕ) (x : A) → slice_get xs c ≡ Some x → P c x) → ((x : A) → P d x → P d (f x)) → (c : ℕ) (y : A)
    → slice_get (at_index f d xs) c ≡ Some y → P c y
changed_at P f d [] h g c y e = absurd (none-some y e)
changed_at P f zero (x ∷ xs) h g zero y e = subst (P zero) (same_Some (f x) y e) (g x (h zero x refl))
changed_at P f zero (x ∷ xs) h g (suc c) y e = h (suc c) y e
changed_at P f (suc d) (x ∷ xs) h g zero y e = h zero y e
changed_at P f (suc d) (x ∷ xs) h g (suc c) y e = changed_at (λ i. P (suc i)) f d xs (λ i z at. h (suc i) z at) g c y e

grown_at : {A : Type 0} (P : ℕ → A → Type 0) (x : A) (xs : List A) → ((c : ℕ) (y : A) → slice_get xs c ≡ Some y → P c y) → ((c : ℕ) → P c x) → (c : ℕ) (y : A)
    → slice_get (xs ++ x ∷ []) c ≡ Some y → P c y
grown_at P x [] h g zero y e = subst (P zero) (same_Some x y e) (g zero)
grown_at P x [] h g (suc c) y e = absurd (none-some y e)
grown_at P x (z ∷ zs) h g zero y e = h zero y e
grown_at P x (z ∷ zs) h g (suc c) y e = grown_at (λ i. P (suc i)) x zs (λ i w at. h (suc i) w at) (λ i. g (suc i)) c y e

offers_pushed : (P : Htlc → Type 0) (us : List Update) (u : Update) → AllByRecursion P (offers us) → AllByRecursion P (offers (u ∷ [])) → AllByRecursion P (offers (us ++ u ∷ []))
offers_pushed P [] u h k = k
offers_pushed P (Add o ∷ us) u h k = (h.0, offers_pushed P us u h.1 k)
offers_pushed P (Fulfilling id preimage ∷ us) u h k = offers_pushed P us u h k
offers_pushed P (Failing id ∷ us) u h k = offers_pushed P us u h k
offers_pushed P (Fee feerate_per_kw ∷ us) u h k = offers_pushed P us u h k

-- ---- each channel after these entries, which have the newest first

abbrev Asks : List Entry → ℕ → ChannelBook → Type 0
Asks es c ch = AllByRecursion (IsAskedFor es c) (offers ch.state.held.own.known)

still_asked : (e : Entry) (es : List Entry) (c : ℕ) (h : Htlc) → IsAskedFor es c h → IsAskedFor (e ∷ es) c h
still_asked e es c h a =
    record { seat = a.seat; asked = Contains-append_right (e ∷ []) es (record { seat = a.seat; call = Stepping c (Own (Offer h.amount_msat h.hash h.expiry_height)) }) a.asked }

made_asked : (e : Entry) (es : List Entry) (c : ℕ) (u : OwnUpdate) → e.call ≡ Stepping c (Own u) → (s : State) → AllByRecursion (IsAskedFor (e ∷ es) c) (offers (update_of s u ∷ []))
made_asked e es c (Offer amount_msat hash expiry_height) is s =
    let here : Contains (e ∷ es) (record { seat = e.seat; call = e.call }) = (0, omega arith, refl) in
    (record { seat = e.seat; asked = subst (λ (call : Call). Contains (e ∷ es) (record { seat = e.seat; call = call })) is here }, tt)
made_asked e es c (Fulfil id preimage) is s = tt
made_asked e es c (Fail id) is s = tt
made_asked e es c (SetFee feerate_per_kw) is s = tt

step_asks : (e : Entry) (es : List Entry) (c : ℕ) (step : Step) → e.call ≡ Stepping c step → (ch : ChannelBook) → Asks (e ∷ es) c ch → Asks (e ∷ es) c (with_state (stepped step) ch)
step_asks e es c (Own u) is ch h = offers_pushed (IsAskedFor (e ∷ es) c) ch.state.held.own.known (update_of ch.state u) h (made_asked e es c u is ch.state)
step_asks e es c (Peer (Updated u)) is ch h = h
step_asks e es c (Peer (CommitmentSigned tokens)) is ch h = h

call_asks : (e : Entry) (es : List Entry) (call : Call) → e.call ≡ call → (chs : Channels) → ((c : ℕ) (ch : ChannelBook) → slice_get chs c ≡ Some ch → Asks (e ∷ es) c ch) → (c : ℕ) (ch : ChannelBook)
    → slice_get (channels_after call chs) c ≡ Some ch → Asks (e ∷ es) c ch
call_asks e es (Open o) is chs h = grown_at (Asks (e ∷ es)) (opened_by o) chs h (λ c. tt)
call_asks e es (Stepping d step) is chs h = changed_at (Asks (e ∷ es)) (with_state (stepped step)) d chs h (step_asks e es d step is)
call_asks e es (Sign d) is chs h = changed_at (Asks (e ∷ es)) (with_state after_sign) d chs h (λ ch k. k)
call_asks e es (Revoke d revocation) is chs h = changed_at (Asks (e ∷ es)) (with_state (λ s. after s (RevokeAndAck revocation))) d chs h (λ ch k. k)
call_asks e es (Keep d n claims) is chs h = changed_at (Asks (e ∷ es)) (with_kept n) d chs h (λ ch k. k)
call_asks e es (Release d batch) is chs h = h
call_asks e es (Close d) is chs h = changed_at (Asks (e ∷ es)) with_closed d chs h (λ ch k. k)

all_ask : (es : List Entry) (c : ℕ) (ch : ChannelBook) → slice_get (replayed es) c ≡ Some ch → Asks es c ch
all_ask [] c ch there = absurd (none-some ch there)
all_ask (e ∷ es) c ch there =
    call_asks e es e.call refl (replayed es)
    (λ d x at. all_from (IsAskedFor es d) (IsAskedFor (e ∷ es) d) (still_asked e es d) (offers x.state.held.own.known) (all_ask es d x at)) c ch there

-- ---- a history, which has the oldest entry first

in_history : (history : List Entry) (c : ℕ) (h : Htlc) → IsAskedFor (reverse history) c h → IsAskedFor history c h
in_history history c h a =
    let asking : Entry = record { seat = a.seat; call = Stepping c (Own (Offer h.amount_msat h.hash h.expiry_height)) } in
    record { seat = a.seat; asked = subst (λ (es : List Entry). Contains es asking) (reverse-reverse history) (in_reverse (reverse history) asking a.asked) }

pub offers_are_asked_for : OffersAreAskedFor
offers_are_asked_for history c ch there =
    all_from (IsAskedFor (reverse history) c) (IsAskedFor history c) (in_history history c) (offers ch.state.held.own.known) (all_ask (reverse history) c ch there)
