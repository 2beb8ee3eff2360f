-- What a call answers, from what becomes of the bytes or of the form.
use Rattle.std.proofs.Common.{◌≡◌, ℕ, List, [], Result, Ok, Err, All, sym, subst, refl}
use Rattle.script.specs.declared.opcode.Op.{Op}
use Rattle.script.specs.Spelling.{Spells}
use Rattle.paths.specs.declared.errors.CheckError.{CheckError}
use Rattle.paths.specs.declared.state.Path.{Path}
use Rattle.paths.specs.Listing.{CheckedScript}
use Rattle.paths.specs.Outcome.{IsListing, IsRefusal}
use Rattle.paths.specs.Sound.{IsSound}
use Rattle.paths.specs.Exhaustive.{IsExhaustive}
use Rattle.script_words.specs.Texts.{listing_text}
use Rattle.enforce_c.specs.declared.rows.Answer.{Answer}
use Rattle.enforce_c.specs.declared.forms_of_c.Form.{Form}
use Rattle.enforce_c.specs.declared.statuses.Refusal.{Refusal}
use Rattle.enforce_c.specs.declared.statuses.Refusal.TheVariants.{Check}
use Rattle.enforce_c.specs.Statuses.{status_of}
use Rattle.enforce_c.specs.Rows.{RowLists, rows_of}
use Rattle.enforce_c.specs.Answers.{Left, LeftBytes, left_by_rows, left_by_bytes, bytes_answer, refused_with}
use Rattle.enforce_c.specs.Listed.{IsListed, IsRefused, IsTold, AnswersListing, IsText, AnswersText}
use Rattle.claim.specs.Claims.{ClaimParts}
use Rattle.enforce_c.specs.declared.claim_rows.ClaimRow.{ClaimRow}
use Rattle.enforce_c.specs.declared.claim_rows.SlotRow.{SlotRow}
use Rattle.enforce_c.specs.declared.claim_rows.Due.{Due}
use Rattle.enforce_c.specs.Claimed.{IsClaimed, due_of, AnswersClaim}
use Rattle.enforce_c.specs.declared.spend_rows.SpendAnswer.{SpendAnswer}
use Rattle.enforce_c.specs.declared.about.Refused.{Refused}
use Rattle.enforce_c.specs.Spent.{Asked, SpendParts, SpendLists, IsSpent, left_by_spend, spend_refused, LeftSpend, AnswersSpend}
use Rattle.enforce_c.specs.FormScripts.{IsSpelt, AnswersForm, form_of}

pub is_listed : (bytes : List ℕ) (ops : List Op) (c : CheckedScript) → Spells ops bytes → IsListing ops (Ok c) → All (IsSound c.ops) c.paths → IsExhaustive c.ops c.paths → IsListed bytes c
is_listed bytes ops c spelt listed sound exhaustive = record {
  spelt = subst (λ o. Spells o bytes) (sym listed.0) spelt;
  listed = rw listed.0 listed.1;
  sound = sound;
  exhaustive = exhaustive;
}

pub is_refused : (bytes : List ℕ) (ops : List Op) (e : CheckError) → Spells ops bytes → IsRefusal ops e → IsRefused bytes (Check e)
is_refused bytes ops e spelt refused = (ops, spelt, refused)

pub is_told : (bytes : List ℕ) (c : CheckedScript) (paths : List Path) (t : RowLists) → IsListed bytes c → paths ≡ c.paths → t ≡ rows_of paths → IsTold bytes (Ok t)
is_told bytes c paths t listed same rows = (c, listed, rw (sym same) rows)

pub listed_rows : (bytes : List ℕ) (before t : RowLists) (after : Left) → IsTold bytes (Ok t) → left_by_rows t before ≡ after → AnswersListing bytes before after
listed_rows bytes before t after told left = (Ok t, told, left)

pub refused_rows : (bytes : List ℕ) (before : RowLists) (e : Refusal) (s : ℕ) (a : Answer) → IsTold bytes (Err e) → s ≡ status_of e → a ≡ refused_with e → AnswersListing bytes before (record { status = s; answer = a; rows = before })
refused_rows bytes before e s a told status answer = (Err e, told, rw (status, answer) refl)

pub by_kind : (rule other : Result CheckedScript Refusal) (r : Result (List ℕ) Refusal) → IsSpelt rule r → other ≡ rule → IsSpelt other r
by_kind rule other r is same = subst (λ o. IsSpelt o r) (sym same) is

pub spelt_bytes : (f : Form) (before bytes : List ℕ) (after : LeftBytes) → IsSpelt (form_of f) (Ok bytes) → left_by_bytes bytes before ≡ after → AnswersForm f before after
spelt_bytes f before bytes after spelt left = (Ok bytes, spelt, left)

pub refused_bytes : (f : Form) (before : List ℕ) (e : Refusal) (s : ℕ) (a : Answer) → IsSpelt (form_of f) (Err e) → s ≡ status_of e → a ≡ refused_with e → AnswersForm f before (record { status = s; answer = a; bytes = before })
refused_bytes f before e s a refused status answer = (Err e, refused, rw (status, answer) refl)

pub claimed_due : (row : ClaimRow) (rows : List SlotRow) (bytes : List ℕ) (before due : Due) (c : ClaimParts) (s : ℕ) (a : Answer) → IsClaimed row rows bytes (Ok c) → s ≡ 0 → a ≡ bytes_answer [] → due ≡ due_of c
    → AnswersClaim row rows bytes before (record { status = s; answer = a; due = due })
claimed_due row rows bytes before due c s a claimed status answer is = (Ok c, claimed, rw (status, answer, is) refl)

pub refused_claim : (row : ClaimRow) (rows : List SlotRow) (bytes : List ℕ) (before : Due) (e : Refusal) (s : ℕ) (a : Answer) → IsClaimed row rows bytes (Err e) → s ≡ status_of e → a ≡ refused_with e
    → AnswersClaim row rows bytes before (record { status = s; answer = a; due = before })
refused_claim row rows bytes before e s a refused status answer = (Err e, refused, rw (status, answer) refl)

pub spent_parts : (a : Asked) (preimages : List (List ℕ)) (before : SpendLists) (s : SpendParts) (after : LeftSpend) → IsSpent a preimages (Ok s) → left_by_spend s before ≡ after → AnswersSpend a preimages before after
spent_parts a preimages before s after spent left = (Ok s, spent, left)

pub refused_spend : (a : Asked) (preimages : List (List ℕ)) (before : SpendLists) (e : Refused) (s : ℕ) (n : SpendAnswer) → IsSpent a preimages (Err e) → s ≡ status_of e.why → n ≡ spend_refused e
    → AnswersSpend a preimages before (record { status = s; answer = n; lists = before })
refused_spend a preimages before e s n refused status answer = (Err e, refused, rw (status, answer) refl)

pub is_text : (bytes : List ℕ) (c : CheckedScript) (paths : List Path) (text : List ℕ) → IsListed bytes c → paths ≡ c.paths → text ≡ listing_text paths → IsText bytes (Ok text)
is_text bytes c paths text listed same told = (c, listed, rw (sym same) told)

pub text_bytes : (bytes before text : List ℕ) (after : LeftBytes) → IsText bytes (Ok text) → left_by_bytes text before ≡ after → AnswersText bytes before after
text_bytes bytes before text after is left = (Ok text, is, left)

pub refused_text : (bytes before : List ℕ) (e : Refusal) (s : ℕ) (a : Answer) → IsText bytes (Err e) → s ≡ status_of e → a ≡ refused_with e → AnswersText bytes before (record { status = s; answer = a; bytes = before })
refused_text bytes before e s a refused status answer = (Err e, refused, rw (status, answer) refl)
