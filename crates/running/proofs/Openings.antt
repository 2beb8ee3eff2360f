-- What is true of a scenario's world before its first event.
use Rattle.std.proofs.Common.{◌≡◌, ℕ, ◌+◌, ◌≤◌, Bool, true, false, not, List, [], ◌∷◌, ◌++◌, length, Option, Some, None, refl, sym, subst, arith}
use Rattle.std.specs.Prelude.{nat_lt, if◌then◌else◌, option_map}
use Rattle.std.specs.List.{list_all, position_from}
use Rattle.std.proofs.lemmas.Bool.{and_parts}
use Rattle.channel.specs.Tokens.{peer_tokens}
use Rattle.terms.specs.declared.proposals.ProposedTerms.{ProposedTerms}
use Rattle.terms.specs.Proposals.{can_agree}
use Rattle.scenario.specs.declared.seeds.Seeds.{Seeds}
use Rattle.scenario.specs.declared.limits.TheConstants.{MAX_CHANNELS}
use Rattle.scenario.specs.Testing.{first_bad_terms}
use Rattle.book.specs.declared.calls.Opening.{Opening}
use Rattle.book.specs.declared.calls.Entry.{Entry}
use Rattle.book.specs.declared.calls.Call.{Call}
use Rattle.book.specs.declared.calls.Call.TheVariants.{Open}
use Rattle.book.specs.Replies.{is_accepted, reply_of, extended}
use Rattle.desk.specs.Histories.{History, first_seat}
use Rattle.world.specs.declared.errors.WorldError.{WorldError}
use Rattle.world.specs.declared.errors.WorldError.TheVariants.{NoMemory, BadTerms, OverLimit}
use Rattle.world.specs.Worlds.{World, Node}
use Rattle.world.specs.Beginning.{empty_world, with_opened, Begins, AllBegin, beginning_refusal, IsBeginningRefusal}

-- ---- no call is of a seat above 0

first_more : (h : History) (e : Entry) → e.seat ≡ 0 → first_seat h ≤ 1 → first_seat (h ++ e ∷ []) ≤ 1
first_more [] e is few = omega (arith, is)
first_more (x ∷ h) e is few =
    let rest : first_seat h ≤ 1 = omega (arith, few) in
    let more : first_seat (h ++ e ∷ []) ≤ 1 = first_more h e is rest in
    omega (arith, few, more)

first_extended : (accepted : Bool) (h : History) (call : Call) → first_seat h ≤ 1 → first_seat (extended accepted h 0 call) ≤ 1
first_extended true h call few = first_more h (record { seat = 0; call = call }) refl few
first_extended false h call few = few

first_opened : (o : Opening) (n : Node) → first_seat n.history ≤ 1 → first_seat (with_opened o n).history ≤ 1
first_opened o n few = first_extended (is_accepted (reply_of peer_tokens n.history (Open o))) n.history (Open o) few

abbrev pub HasFew : World → Type 0
HasFew w = (first_seat w.a.history ≤ 1) × (first_seat w.b.history ≤ 1)

few_begun : (seeds : Seeds) (c : ℕ) (plain : ProposedTerms) (w v : World) → Begins seeds c plain w v → HasFew w → HasFew v
few_begun seeds c plain w v b few = subst HasFew (sym b.after) (first_opened b.both.a w.a few.0, first_opened b.both.b w.b few.1)

few_all : (seeds : Seeds) (c : ℕ) (terms : List ProposedTerms) (w v : World) → AllBegin seeds c terms w v → HasFew w → HasFew v
few_all seeds c terms w v AllBegin.all_begun few = few
few_all seeds c terms w v (AllBegin.begins b more) few = few_all seeds (c + 1) _ _ v more (few_begun seeds c _ w _ b few)

pub few_at_beginning : (seeds : Seeds) (terms : List ProposedTerms) (w : World) → AllBegin seeds 0 terms empty_world w → HasFew w
few_at_beginning seeds terms w all = few_all seeds 0 terms empty_world w all (omega arith, omega arith)

-- ---- a scenario that was read is not refused

not_bad : (i : ℕ) (terms : List ProposedTerms) → list_all can_agree terms ≡ true → position_from (λ t. not (can_agree t)) i terms ≡ None
not_bad i [] all = refl
not_bad i (t ∷ ts) all =
    let parts = and_parts (can_agree t) (list_all can_agree ts) all in
    rw parts.0 (not_bad (i + 1) ts parts.1)

if_few : (over : Bool) (terms : List ProposedTerms) → over ≡ false → first_bad_terms terms ≡ None → (if over then Some OverLimit else option_map BadTerms (first_bad_terms terms)) ≡ None
if_few true terms is none = absurd cc
if_few false terms is none = rw none refl

pub never_refused : (terms : List ProposedTerms) → length terms ≤ MAX_CHANNELS → list_all can_agree terms ≡ true → beginning_refusal terms ≡ None
never_refused terms few all =
    let within : nat_lt MAX_CHANNELS (length terms) ≡ false = grind (arith, few) in
    if_few (nat_lt MAX_CHANNELS (length terms)) terms within (not_bad 0 terms all)

pub is_memory : (first : Option WorldError) (e : WorldError) → first ≡ None → IsBeginningRefusal first e → (e ≡ NoMemory → ⊥) → ⊥
is_memory first NoMemory none is other = other refl
is_memory first (BadTerms c) none is other = absurd cc
is_memory first OverLimit none is other = absurd cc
