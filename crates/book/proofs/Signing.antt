-- Why a channel of a book does not sign.
use Rattle.std.proofs.Common.{◌≡◌, ℕ, ◌<◌, ◌≤◌, ◌||◌, Bool, true, false, List, [], ◌∷◌, length, Option, Some, None, refl, sym, ap, ◌∙◌}
use Rattle.std.specs.Prelude.{nat_le}
use Rattle.std.proofs.lemmas.Option.{none-some}
use Rattle.updates.specs.declared.errors.ChannelError.{ChannelError}
use Rattle.updates.specs.declared.errors.ChannelError.TheVariants.{NoUpdates as NothingNew, NotYourTurn}
use Rattle.updates.specs.Refusals.{first_refusal, covers_nothing}
use Rattle.channel.specs.declared.limits.TheConstants.{LAST_NUMBER}
use Rattle.channel.specs.States.{sign_refusal as state_refusal}
use Rattle.book.specs.declared.errors.SignError.{SignError}
use Rattle.book.specs.declared.errors.SignError.TheVariants.{PenaltiesMissing, AwaitingRevocation, NoUpdates, ChannelClosed}
use Rattle.book.specs.Books.{ChannelBook, is_closed, missing_from, first_missing}
use Rattle.book.specs.Replies.{if_so, if_missing, sign_refusal}
use Rattle.book.specs.Kept.{IsBeside}
use Rattle.book.specs.Calling.{early_sign_refusal}
use Rattle.book.proofs.Accepting.{some_none}
use Rattle.book.proofs.Numbered.{missing_here, missing_none}

abbrev early : Bool → Bool → Option ℕ → Option SignError
early shut waits missing = if_so shut ChannelClosed (if_so waits AwaitingRevocation (if_missing missing None))

abbrev whole : Bool → Bool → Option ℕ → Bool → Option SignError
whole shut waits missing nothing = if_so shut ChannelClosed (if_so waits AwaitingRevocation (if_missing missing (if_so nothing NoUpdates None)))

abbrev later : Bool → Bool → Option ChannelError
later waits nothing = first_refusal ((waits, NotYourTurn) ∷ (nothing, NothingNew) ∷ [])

none_of : (shut waits : Bool) (missing : Option ℕ) (nothing : Bool) → early shut waits missing ≡ None → later waits nothing ≡ None → whole shut waits missing nothing ≡ None
none_of true waits missing nothing e f = absurd (some_none _ e)
none_of false true missing nothing e f = absurd (some_none _ e)
none_of false false (Some n) nothing e f = absurd (some_none _ e)
none_of false false None true e f = absurd (some_none _ f)
none_of false false None false e f = refl

new_of : (shut waits : Bool) (missing : Option ℕ) (nothing : Bool) (r : ChannelError) → early shut waits missing ≡ None → later waits nothing ≡ Some r → whole shut waits missing nothing ≡ Some NoUpdates
new_of true waits missing nothing r e f = absurd (some_none _ e)
new_of false true missing nothing r e f = absurd (some_none _ e)
new_of false false (Some n) nothing r e f = absurd (some_none _ e)
new_of false false None true r e f = refl
new_of false false None false r e f = absurd (none-some r f)

first_of : (shut waits : Bool) (missing : Option ℕ) (nothing : Bool) (e : SignError) → early shut waits missing ≡ Some e → whole shut waits missing nothing ≡ Some e
first_of true waits missing nothing e h = h
first_of false true missing nothing e h = h
first_of false false (Some n) nothing e h = h
first_of false false None nothing e h = absurd (none-some e h)

abbrev waits_of : ChannelBook → Bool
waits_of ch = ch.state.awaiting || nat_le LAST_NUMBER ch.state.peer_number

-- no refusal, a refusal for lack of updates, and an earlier one
pub none_refused : (ch : ChannelBook) → early_sign_refusal ch ≡ None → state_refusal ch.state ≡ None → sign_refusal ch ≡ None
none_refused ch = none_of (is_closed ch) (waits_of ch) (first_missing ch) (covers_nothing ch.state.held.own ch.state.held.theirs)

pub new_refused : (ch : ChannelBook) (r : ChannelError) → early_sign_refusal ch ≡ None → state_refusal ch.state ≡ Some r → sign_refusal ch ≡ Some NoUpdates
new_refused ch = new_of (is_closed ch) (waits_of ch) (first_missing ch) (covers_nothing ch.state.held.own ch.state.held.theirs)

pub first_refused : (ch : ChannelBook) (e : SignError) → early_sign_refusal ch ≡ Some e → sign_refusal ch ≡ Some e
first_refused ch = first_of (is_closed ch) (waits_of ch) (first_missing ch) (covers_nothing ch.state.held.own ch.state.held.theirs)

-- the lowest number that the flags say is missing
pub missing_refused : (ch : ChannelBook) (flags : List Bool) (below : ℕ) → IsBeside ch flags below → is_closed ch ≡ false → waits_of ch ≡ false → below < length flags → early_sign_refusal ch ≡ Some (PenaltiesMissing below)
missing_refused ch flags below b unclosed waits lt =
    let first : first_missing ch ≡ Some below = ap (missing_from ch.kept 0) (sym b.count) ∙ missing_here ch.kept flags below b.are lt in
    rw (unclosed, waits, first) refl

pub nothing_missing : (ch : ChannelBook) (flags : List Bool) (below : ℕ) → IsBeside ch flags below → is_closed ch ≡ false → waits_of ch ≡ false → length flags ≤ below → early_sign_refusal ch ≡ None
nothing_missing ch flags below b unclosed waits le =
    let first : first_missing ch ≡ None = ap (missing_from ch.kept 0) (sym b.count) ∙ missing_none ch.kept flags below b.are le in
    rw (unclosed, waits, first) refl
