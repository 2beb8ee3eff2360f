-- Slots that are prepared one by one, and whether they meet their path.
use Rattle.std.proofs.Common.{◌≡◌, ◌<◌, ◌≤◌, ◌+◌, ◌-◌, inl, inr, ℕ, Bool, true, false, List, [], ◌∷◌, length, drop, get_or, Result, Ok, Err, refl, sym, ap, ◌∙◌, arith, subst}
use Rattle.std.specs.Prelude.{Some, None, if◌then◌else◌, slice_get}
use Rattle.std.proofs.lemmas.List.{drop_more, drop_all, length-drop}
use Rattle.facts.specs.Symbols.{KeySource}
use Rattle.paths.specs.declared.state.Path.{Path}
use Rattle.paths.specs.Listing.{CheckedScript}
use Rattle.claim.specs.declared.parts.Slot.{Slot}
use Rattle.claim.specs.declared.parts.Place.{Place}
use Rattle.claim.specs.declared.parts.Shell.TheVariants.{Open}
use Rattle.claim.specs.Claims.{ClaimParts, IsAcceptedOf, IsSpending}
use Rattle.claim.specs.Judgement.{judgement_of}
use Rattle.claim.specs.Fitting.{IsRefusal}
use Rattle.claim.specs.declared.errors.AcceptError.{AcceptError}
use Rattle.claim.specs.declared.errors.AcceptError.TheVariants.{NoSuchPath}
use Rattle.enforce_c.specs.declared.spend_rows.PreimageRow.{PreimageRow}
use Rattle.enforce_c.specs.declared.slot_rows.KeyRow.{KeyRow}
use Rattle.enforce_c.specs.declared.slot_rows.SlotsAnswer.{SlotsAnswer}
use Rattle.enforce_c.specs.declared.statuses.Refusal.{Refusal}
use Rattle.enforce_c.specs.declared.statuses.Refusal.TheVariants.{NoMemory, Accept}
use Rattle.enforce_c.specs.Statuses.{status_of}
use Rattle.enforce_c.specs.Listed.{IsListed, IsRefused}
use Rattle.enforce_c.specs.Claimed.{IsFirst, slots_fault, FillAs}
use Rattle.enforce_c.specs.Spent.{UnlessMemory}
use Rattle.enforce_c.specs.Prepared.{ListsOfSlots, signer_of, with_signer, takes, assigned, lists_for, place_for, IsMet, IsUnmet, IsPrepared, LeftSlots, left_by_slots, slots_refused, AnswersSlots}
use Rattle.enforce_c.proofs.Spends.{unless_memory, still_unless_memory}

-- ---- a choice of keys

module _ (keys : List KeyRow) (slots : List ℕ) (sources : List KeySource) where
  -- the choice of the next key, by whether it is taken
  abbrev by_choice : Bool → ℕ → ℕ → ℕ → KeySource → ListsOfSlots → ListsOfSlots
  by_choice taken slot t i source l =
      if taken then assigned keys (drop (t + 1) slots) (drop (i + 1) sources) (with_signer slot (signer_of source l) l) else assigned keys (slot ∷ drop (t + 1) slots) (drop (i + 1) sources) l

  next : (t i : ℕ) (d : ℕ) (e : KeySource) (slot : ℕ) (source : KeySource) (l : ListsOfSlots) → t < length slots → i < length sources → slot ≡ get_or slots t d → source ≡ get_or sources i e
      → assigned keys (drop t slots) (drop i sources) l ≡ by_choice (takes keys (length sources - i - 1) (length slots - t - 1) (signer_of source l)) slot t i source l
  next t i d e slot source l h k here there =
      let left : length (drop (i + 1) sources) ≡ length sources - i - 1 = omega (arith, length-drop (i + 1) sources) in
      let wanted : length (drop (t + 1) slots) ≡ length slots - t - 1 = omega (arith, length-drop (t + 1) slots) in
      ap (λ xs. assigned keys xs (drop i sources) l) (drop_more slots t d h ∙ ap (λ x. x ∷ drop (t + 1) slots) (sym here))
      ∙ ap (λ xs. assigned keys (slot ∷ drop (t + 1) slots) xs l) (drop_more sources i e k ∙ ap (λ x. x ∷ drop (i + 1) sources) (sym there))
      ∙ ap (λ n. by_choice (takes keys n (length (drop (t + 1) slots)) (signer_of source l)) slot t i source l) left
      ∙ ap (λ n. by_choice (takes keys (length sources - i - 1) n (signer_of source l)) slot t i source l) wanted

  pub taken : (t i : ℕ) (d : ℕ) (e : KeySource) (slot : ℕ) (source : KeySource) (l whole : ListsOfSlots) → t < length slots → i < length sources → slot ≡ get_or slots t d → source ≡ get_or sources i e
      → takes keys (length sources - i - 1) (length slots - t - 1) (signer_of source l) ≡ true → assigned keys (drop t slots) (drop i sources) l ≡ whole
      → assigned keys (drop (t + 1) slots) (drop (i + 1) sources) (with_signer slot (signer_of source l) l) ≡ whole
  taken t i d e slot source l whole h k here there so is = sym (ap (λ b. by_choice b slot t i source l) so) ∙ sym (next t i d e slot source l h k here there) ∙ is

  pub left_out : (t i : ℕ) (d : ℕ) (e : KeySource) (source : KeySource) (l whole : ListsOfSlots) → t < length slots → i < length sources → source ≡ get_or sources i e
      → takes keys (length sources - i - 1) (length slots - t - 1) (signer_of source l) ≡ false → assigned keys (drop t slots) (drop i sources) l ≡ whole
      → assigned keys (drop t slots) (drop (i + 1) sources) l ≡ whole
  left_out t i d e source l whole h k there not_so is =
      ap (λ xs. assigned keys xs (drop (i + 1) sources) l) (drop_more slots t d h)
      ∙ sym (ap (λ b. by_choice b (get_or slots t d) t i source l) not_so) ∙ sym (next t i d e (get_or slots t d) source l h k refl there) ∙ is

  nothing : (rest : List KeySource) (l : ListsOfSlots) → assigned keys [] rest l ≡ l
  nothing rest l = refl

  pub all_taken : (t i : ℕ) (l whole : ListsOfSlots) → length slots ≤ t → assigned keys (drop t slots) (drop i sources) l ≡ whole → assigned keys (drop t slots) (drop (i + 1) sources) l ≡ whole
  all_taken t i l whole h is =
      let none = drop_all t slots h in
      ap (λ xs. assigned keys xs (drop (i + 1) sources) l) none ∙ sym (ap (λ xs. assigned keys xs (drop i sources) l) none) ∙ is

  at_end : (rest : List ℕ) (l : ListsOfSlots) → assigned keys rest [] l ≡ l
  at_end [] l = refl
  at_end (slot ∷ rest) l = refl

  pub no_more : (t i : ℕ) (l whole : ListsOfSlots) → length sources ≤ i → assigned keys (drop t slots) (drop i sources) l ≡ whole → l ≡ whole
  no_more t i l whole h is = sym (at_end (drop t slots) l) ∙ sym (ap (λ xs. assigned keys (drop t slots) xs l) (drop_all i sources h)) ∙ is

-- ---- whether they meet the path

pub is_met : (script : List ℕ) (ways : CheckedScript) (path : ℕ) (l : ListsOfSlots) (slots : List Slot) (place : Place) (claim : ClaimParts) → FillAs l.bytes l.slots slots → place ≡ place_for script
    → IsAcceptedOf ways path slots place Open claim → IsSpending claim → IsMet script ways path l
is_met script ways path l slots place claim filled same accepted spends =
    record { slots = slots; claim = claim; filled = filled; accepted = subst (λ p. IsAcceptedOf ways path slots p Open claim) same accepted; spends = spends }

pub not_filled : (script : List ℕ) (ways : CheckedScript) (path : ℕ) (l : ListsOfSlots) (e : Refusal) → IsFirst (slots_fault l.bytes 0 l.slots) e → UnlessMemory e (IsUnmet script ways path l e)
not_filled script ways path l NoMemory is = tt
not_filled script ways path l e is = inl is

pub not_accepted : (script : List ℕ) (ways : CheckedScript) (path : ℕ) (l : ListsOfSlots) (slots : List Slot) (place : Place) (why : AcceptError) → FillAs l.bytes l.slots slots → place ≡ place_for script
    → IsRefusal (judgement_of ways path slots place Open) why → UnlessMemory (Accept why) (IsUnmet script ways path l (Accept why))
not_accepted script ways path l slots place why filled same refused =
    inr (record { slots = slots; why = why; filled = filled; refused = subst (λ p. IsRefusal (judgement_of ways path slots p Open) why) same refused; named = refl })

pub not_listed : (script : List ℕ) (path : ℕ) (keys : List KeyRow) (preimages : List PreimageRow) (e : Refusal) → IsRefused script e → IsPrepared script path keys preimages (Err e)
not_listed script path keys preimages e is = unless_memory e _ (inl is)

pub no_path : (script : List ℕ) (path : ℕ) (keys : List KeyRow) (preimages : List PreimageRow) (ways : CheckedScript) → IsListed script ways → slice_get ways.paths path ≡ None → IsPrepared script path keys preimages (Err (Accept NoSuchPath))
no_path script path keys preimages ways listed none = inr (inl (record { ways = ways; listed = listed; none = none; named = refl }))

pub not_judged : (script : List ℕ) (path : ℕ) (keys : List KeyRow) (preimages : List PreimageRow) (ways : CheckedScript) (asked : Path) (l : ListsOfSlots) (e : Refusal) → IsListed script ways → slice_get ways.paths path ≡ Some asked
    → l ≡ lists_for keys preimages asked → UnlessMemory e (IsUnmet script ways path l e) → IsPrepared script path keys preimages (Err e)
not_judged script path keys preimages ways asked l e listed at rows is =
    still_unless_memory e (IsUnmet script ways path l e) _ (λ f. inr (inr (record { ways = ways; asked = asked; listed = listed; at = at; unmet = subst (λ x. IsUnmet script ways path x e) rows f }))) is

pub is_prepared : (script : List ℕ) (path : ℕ) (keys : List KeyRow) (preimages : List PreimageRow) (ways : CheckedScript) (asked : Path) (l : ListsOfSlots) → IsListed script ways → slice_get ways.paths path ≡ Some asked
    → l ≡ lists_for keys preimages asked → IsMet script ways path l → IsPrepared script path keys preimages (Ok l)
is_prepared script path keys preimages ways asked l listed at rows met = record { ways = ways; asked = asked; listed = listed; at = at; rows = rows; met = met }

-- ---- what the call leaves

pub prepared_slots : (script : List ℕ) (path : ℕ) (keys : List KeyRow) (preimages : List PreimageRow) (before l : ListsOfSlots) (after : LeftSlots) → IsPrepared script path keys preimages (Ok l) → left_by_slots l before ≡ after
    → AnswersSlots script path keys preimages before after
prepared_slots script path keys preimages before l after is left = (Ok l, is, left)

pub refused_slots : (script : List ℕ) (path : ℕ) (keys : List KeyRow) (preimages : List PreimageRow) (before : ListsOfSlots) (e : Refusal) (s : ℕ) (n : SlotsAnswer) → IsPrepared script path keys preimages (Err e) → s ≡ status_of e
    → n ≡ slots_refused e → AnswersSlots script path keys preimages before (record { status = s; answer = n; lists = before })
refused_slots script path keys preimages before e s n is status answer = (Err e, is, rw (status, answer) refl)
