-- What is true where a call is accepted.
use Rattle.std.proofs.Common.{◌≡◌, ℕ, ◌<◌, ◌||◌, Bool, true, false, not, true≢false, List, Option, Some, None, option_map, Result, refl, sym, ap}
use Rattle.std.specs.Prelude.{is_ok, nat_le, length}
use Rattle.std.proofs.lemmas.Bool.{ltb-true}
use Rattle.claim.specs.Claims.{ClaimParts}
use Rattle.updates.specs.Refusals.{covers_nothing}
use Rattle.channel.specs.declared.limits.TheConstants.{LAST_NUMBER}
use Rattle.channel.specs.States.{Signing}
use Rattle.book.specs.declared.calls.Step.{Step}
use Rattle.book.specs.declared.errors.StepError.TheVariants.{Refused}
use Rattle.book.specs.declared.errors.SignError.{SignError}
use Rattle.book.specs.declared.errors.SignError.TheVariants.{AwaitingRevocation, NoUpdates, ChannelClosed}
use Rattle.book.specs.Penalties.{is_penalty_set}
use Rattle.book.specs.Books.{ChannelBook, is_closed, is_kept, first_missing}
use Rattle.book.specs.Replies.{asked, unless, if_so, if_missing, step_refusal, book_step_refusal, keep_refusal, sign_refusal}

-- the channel is there
pub asked_ok : {A E : Type 0} (none : E) (o : Option ChannelBook) (answer : ChannelBook → Result A E) → is_ok (asked none o answer) ≡ true
    → (ch : ChannelBook) × (o ≡ Some ch) × (is_ok (answer ch) ≡ true)
asked_ok none None answer ok = absurd (true≢false (sym ok))
asked_ok none (Some ch) answer ok = (ch, refl, ok)

-- there is no refusal
pub unless_ok : {R A E : Type 0} (wrap : R → E) (o : Option R) (x : A) → is_ok (unless wrap o x) ≡ true → o ≡ None
unless_ok wrap None x ok = refl
unless_ok wrap (Some r) x ok = absurd (true≢false (sym ok))

-- Some is not None
abbrev is_there : {A : Type 0} → Option A → Bool
is_there (Some x) = true
is_there None = false

pub some_none : {A : Type 0} (x : A) → Some x ≡ None → ⊥
some_none x e = true≢false (ap is_there e)

-- the test does not hold, and no later one refuses
pub passed : {E : Type 0} (test : Bool) (e : E) (later : Option E) → if_so test e later ≡ None → (test ≡ false) × (later ≡ None)
passed true e later none = absurd (some_none e none)
passed false e later none = (refl, none)

pub not_false : (b : Bool) → not b ≡ false → b ≡ true
not_false true e = refl
not_false false e = absurd (true≢false e)

-- penalties that are kept are those of a revoked commitment
pub keeps : (ch : ChannelBook) (n : ℕ) (claims : List ClaimParts) → keep_refusal ch n claims ≡ None
    → (n < length ch.state.secrets) × (is_kept ch.kept n ≡ false) × (is_penalty_set ch.state n claims ≡ true)
keeps ch n claims none =
    let revoked = passed _ _ _ none in
    let new = passed _ _ _ revoked.1 in
    let other = passed _ _ _ new.1 in
    (ltb-true _ _ (not_false _ revoked.0), new.0, not_false _ other.0)

-- the channel does not refuse a step that the book takes
pub step_passes : (ch : ChannelBook) (step : Step) (tokens_of : Signing) → book_step_refusal tokens_of ch step ≡ None → step_refusal tokens_of ch.state step ≡ None
step_passes ch step tokens_of none = unmapped Refused (step_refusal tokens_of ch.state step) (passed _ _ _ none).1
  where
    unmapped : {A B : Type 0} (f : A → B) (o : Option A) → option_map f o ≡ None → o ≡ None
    unmapped f None e = refl
    unmapped f (Some x) e = absurd (some_none _ e)

-- a book that signs has no penalties missing
pub none_missing : (ch : ChannelBook) → sign_refusal ch ≡ None → first_missing ch ≡ None
none_missing ch none =
    by (is_closed ch) (ch.state.awaiting || nat_le LAST_NUMBER ch.state.peer_number) (first_missing ch) (if_so (covers_nothing ch.state.held.own ch.state.held.theirs) NoUpdates None) none
  where
    by : (shut waits : Bool) (o : Option ℕ) (later : Option SignError) → if_so shut ChannelClosed (if_so waits AwaitingRevocation (if_missing o later)) ≡ None → o ≡ None
    by true waits o later e = absurd (some_none _ e)
    by false true o later e = absurd (some_none _ e)
    by false false None later e = refl
    by false false (Some n) later e = absurd (some_none _ e)
