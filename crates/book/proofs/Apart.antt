-- No two channels of a book are on one funding output, since a book refuses to open the second (`SameFunding`).
use Rattle.std.proofs.Common.{◌≡◌, ℕ, zero, suc, true, false, List, [], ◌∷◌, ◌++◌, length, reverse, Some, option_map, refl, sym, ap, ◌∙◌, ⊎_elim, inl, inr}
use Rattle.std.specs.Prelude.{◌⊎◌, slice_get}
use Rattle.std.specs.List.{list_any}
use Rattle.std.proofs.lemmas.Bool.{and_parts, or_parts, true≢false, eq-eqb}
use Rattle.std.proofs.lemmas.Option.{same_Some, none-some}
use Rattle.std.proofs.lemmas.Slice.Eq.{bytes_eq-Decides}
use Rattle.tx.specs.declared.input.OutPoint.{OutPoint}
use Rattle.tx.specs.Fields.{same_outpoint}
use Rattle.updates.specs.declared.messages.PeerStep.TheVariants.{Update as Updated, CommitmentSigned}
use Rattle.channel.specs.declared.messages.Message.TheVariants.{RevokeAndAck}
use Rattle.channel.specs.States.{Signing, after_sign, after}
use Rattle.book.specs.declared.calls.Step.{Step}
use Rattle.book.specs.declared.calls.Step.TheVariants.{Own, Peer}
use Rattle.book.specs.declared.calls.Call.{Call}
use Rattle.book.specs.declared.calls.Call.TheVariants.{Open, Step as Stepping, Sign, Revoke, Keep, Release, Close}
use Rattle.book.specs.declared.calls.Entry.{Entry}
use Rattle.book.specs.Books.{ChannelBook, Channels, at_index, stepped, opened_by, with_state, with_kept, with_closed, channels_after, replayed}
use Rattle.book.specs.Replies.{is_accepted, answer_of}
use Rattle.book.specs.Accepted.{is_taken, are_accepted}
use Rattle.book.specs.Lived.{FundingsAreApart}
use Rattle.book.proofs.Accepted.{accepted_means}
use Rattle.book.proofs.Lists.{unseen}
use Rattle.book.proofs.Accepting.{unless_ok, passed}

itself : (o : OutPoint) → same_outpoint o o ≡ true
itself o = rw ((bytes_eq-Decides o.txid o.txid).1 refl, eq-eqb o.index o.index refl) refl

abbrev funding_of : ChannelBook → OutPoint
funding_of ch = ch.state.held.terms.funding

abbrev FundedAt : Channels → ℕ → OutPoint → Type 0
FundedAt chs i o = option_map funding_of (slice_get chs i) ≡ Some o

-- at two indices there are two funding outputs
abbrev AreApart : Channels → Type 0
AreApart chs = (i j : ℕ) (o : OutPoint) → FundedAt chs i o → FundedAt chs j o → i ≡ j

same_fundings : (f : ChannelBook → ChannelBook) → ((ch : ChannelBook) → funding_of (f ch) ≡ funding_of ch) → (d : ℕ) (chs : Channels) → AreApart chs → AreApart (at_index f d chs)
same_fundings f same d chs h i j o a b = h i j o (sym (unseen funding_of f same d i chs) ∙ a) (sym (unseen funding_of f same d j chs) ∙ b)

-- the channel of an index is an old one, or the new one
opened_at : (chs : Channels) (x : ChannelBook) (i : ℕ) (o : OutPoint) → FundedAt (chs ++ x ∷ []) i o → FundedAt chs i o ⊎ ((i ≡ length chs) × (funding_of x ≡ o))
opened_at [] x zero o e = inr (refl, same_Some (funding_of x) o e)
opened_at [] x (suc i) o e = absurd (none-some o e)
opened_at (y ∷ ys) x zero o e = inl e
opened_at (y ∷ ys) x (suc i) o e =
    ⊎_elim {C = FundedAt (y ∷ ys) (suc i) o ⊎ ((suc i ≡ length (y ∷ ys)) × (funding_of x ≡ o))} (λ (h : FundedAt ys i o). inl h)
    (λ (h : (i ≡ length ys) × (funding_of x ≡ o)). inr (ap suc h.0, h.1)) (opened_at ys x i o e)

not_there : (chs : Channels) (i : ℕ) (o : OutPoint) → list_any (λ ch. same_outpoint ch.state.held.terms.funding o) chs ≡ false → FundedAt chs i o → ⊥
not_there [] i o none e = absurd (none-some o e)
not_there (y ∷ ys) zero o none e =
    let here = (or_parts (same_outpoint (funding_of y) o) (list_any (λ ch. same_outpoint ch.state.held.terms.funding o) ys) none).0 in
    true≢false (sym (itself o) ∙ ap (λ p. same_outpoint p o) (sym (same_Some (funding_of y) o e)) ∙ here)
not_there (y ∷ ys) (suc i) o none e = not_there ys i o (or_parts (same_outpoint (funding_of y) o) (list_any (λ ch. same_outpoint ch.state.held.terms.funding o) ys) none).1 e

opened_apart : (chs : Channels) (x : ChannelBook) → list_any (λ ch. same_outpoint ch.state.held.terms.funding (funding_of x)) chs ≡ false → AreApart chs → AreApart (chs ++ x ∷ [])
opened_apart chs x none h i j o a b = by (opened_at chs x i o a) (opened_at chs x j o b)
  where
    old : (k : ℕ) → FundedAt chs k o → funding_of x ≡ o → ⊥
    old k at e = not_there chs k (funding_of x) none (at ∙ ap Some (sym e))

    by : FundedAt chs i o ⊎ ((i ≡ length chs) × (funding_of x ≡ o)) → FundedAt chs j o ⊎ ((j ≡ length chs) × (funding_of x ≡ o)) → i ≡ j
    by (inl p) (inl q) = h i j o p q
    by (inl p) (inr q) = absurd (old i p q.1)
    by (inr p) (inl q) = absurd (old j q p.1)
    by (inr p) (inr q) = p.0 ∙ sym q.0

step_funding : (step : Step) (ch : ChannelBook) → funding_of (with_state (stepped step) ch) ≡ funding_of ch
step_funding (Own u) ch = refl
step_funding (Peer (Updated u)) ch = refl
step_funding (Peer (CommitmentSigned tokens)) ch = refl

call_apart : (tokens_of : Signing) (call : Call) (chs : Channels) → AreApart chs → is_accepted (answer_of tokens_of chs call) ≡ true → AreApart (channels_after call chs)
call_apart tokens_of (Open o) chs h ok = opened_apart chs (opened_by o) (passed _ _ _ (passed _ _ _ (unless_ok _ _ _ ok)).1).0 h
call_apart tokens_of (Stepping c step) chs h ok = same_fundings (with_state (stepped step)) (step_funding step) c chs h
call_apart tokens_of (Sign c) chs h ok = same_fundings (with_state after_sign) (λ ch. refl) c chs h
call_apart tokens_of (Revoke c revocation) chs h ok = same_fundings (with_state (λ s. after s (RevokeAndAck revocation))) (λ ch. refl) c chs h
call_apart tokens_of (Keep c n claims) chs h ok = same_fundings (with_kept n) (λ ch. refl) c chs h
call_apart tokens_of (Release c batch) chs h ok = h
call_apart tokens_of (Close c) chs h ok = same_fundings with_closed (λ ch. refl) c chs h

-- these entries have the newest first
all_apart : (tokens_of : Signing) (es : List Entry) → are_accepted tokens_of es ≡ true → AreApart (replayed es)
all_apart tokens_of [] ok = λ i j o a b. absurd (none-some o a)
all_apart tokens_of (e ∷ es) ok =
    let parts : (is_taken tokens_of es e ≡ true) × (are_accepted tokens_of es ≡ true) = and_parts (is_taken tokens_of es e) (are_accepted tokens_of es) ok in
    call_apart tokens_of e.call (replayed es) (all_apart tokens_of es parts.1) parts.0

pub fundings_are_apart : FundingsAreApart
fundings_are_apart tokens_of history c d ch other called at_c at_d same =
    all_apart tokens_of (reverse history) ((accepted_means.accepted_exactly tokens_of history).0 called) c d (funding_of ch) (ap (option_map funding_of) at_c) (ap (option_map funding_of) at_d ∙ ap Some (sym same))
