-- The rows of claims, as they are written, are read as these claims.
use Rattle.std.proofs.Common.{◌≡◌, ℕ, List, [], ◌∷◌, ◌++◌, length, refl, subst, sym, ap, ◌∙◌, append_assoc}
use Rattle.std.specs.Prelude.{Option, Some, None, Bool, true, false, not, if◌then◌else◌}
use Rattle.std.specs.List.{AllByRecursion}
use Rattle.std.proofs.lemmas.List.{append-nil}
use Rattle.script.specs.Spelling.{spelling}
use Rattle.paths.specs.Laws.{ListedAreSound, SatisfiedExactly}
use Rattle.claim.specs.declared.parts.Shell.TheVariants.{Open}
use Rattle.claim.specs.Claims.{ClaimParts}
use Rattle.enforce_c.specs.declared.claim_rows.ClaimRow.{ClaimRow}
use Rattle.enforce_c.specs.declared.claim_rows.SlotRow.{SlotRow}
use Rattle.enforce_c.specs.declared.statuses.Refusal.{Refusal}
use Rattle.enforce_c.specs.declared.statuses.Refusal.TheVariants.{OutOfRange}
use Rattle.enforce_c.specs.Ranges.{has_part}
use Rattle.enforce_c.specs.Listed.{IsListed}
use Rattle.enforce_c.specs.Claimed.{slots_fault, FillAs, slots_in, place_in, IsClaimOf}
use Rattle.enforce_c.specs.Spent.{AreClaimsOf}
use Rattle.enforce_c.specs.ClaimLists.{ListsOfClaims, claim_row, with_row, with_claim, with_claims, no_lists, claim_lists, IsReady, IsReadAs, AreReadAs}
use Rattle.enforce_c.proofs.Parts.{Stands, stands_here, stands_more}
use Rattle.enforce_c.proofs.SlotRows.{slots_more, fill_more, grows, adds_in}

-- the fault of a claim's row, by what of it is there
abbrev by_parts : (script program slots : Bool) → Option Refusal → Option Refusal
by_parts script program slots rest = if not script then Some OutOfRange else if not program then Some OutOfRange else if not slots then Some OutOfRange else rest

no_parts : (a b c : Bool) (x : Option Refusal) → by_parts a b c x ≡ None → (a ≡ true) × (b ≡ true) × (c ≡ true) × (x ≡ None)
no_parts true true true x e = (refl, refl, refl, e)
no_parts true true false x e = absurd (let t : Some OutOfRange ≡ None = e in cc)
no_parts true false c x e = absurd (let t : Some OutOfRange ≡ None = e in cc)
no_parts false b c x e = absurd (let t : Some OutOfRange ≡ None = e in cc)

all_parts : (a b c : Bool) (x : Option Refusal) → a ≡ true → b ≡ true → c ≡ true → x ≡ None → by_parts a b c x ≡ None
all_parts a b c x p q r e = ap (λ t. by_parts t b c x) p ∙ ap (λ t. by_parts true t c x) q ∙ ap (λ t. by_parts true true t x) r ∙ e

-- a claim that is read is read so where the lists are longer
claim_more : (row : ClaimRow) (slots : List SlotRow) (bytes : List ℕ) (rows : List SlotRow) (more : List ℕ) (c : ClaimParts) → IsClaimOf row slots bytes c → IsClaimOf row (slots ++ rows) (bytes ++ more) c
claim_more row slots bytes rows more c h =
    let p = no_parts (has_part row.script_at row.script_length bytes) (has_part row.program_at row.program_length bytes) (has_part row.first_slot row.slots slots) (slots_fault bytes 0 (slots_in row slots)) h.read in
    let script = stands_more row.script_at row.script_length bytes more p.0 in
    let program = stands_more row.program_at row.program_length bytes more p.1 in
    let own = stands_more row.first_slot row.slots slots rows p.2 in
    record {
      read = all_parts (has_part row.script_at row.script_length (bytes ++ more)) (has_part row.program_at row.program_length (bytes ++ more)) (has_part row.first_slot row.slots (slots ++ rows))
          (slots_fault (bytes ++ more) 0 (slots_in row (slots ++ rows))) script.there program.there own.there
          (ap (slots_fault (bytes ++ more) 0) own.same ∙ slots_more bytes more 0 (slots_in row slots) p.3);
      listed = subst (λ b. IsListed b c.ways) (sym script.same) h.listed;
      filled = subst (λ rs. FillAs (bytes ++ more) rs c.slots) (sym own.same) (fill_more bytes more 0 (slots_in row slots) c.slots p.3 h.filled);
      accepted = record {
        same = h.accepted.same ∙ ap (λ p. record { ways = c.ways; index = row.path; slots = c.slots; place = record (place_in row bytes) { program = p }; shell = Open }) (sym program.same);
        accepted = h.accepted.accepted;
      };
      spends = h.spends;
      whole = h.whole;
    }

-- a claim in an open transaction
abbrev pub IsOpen : ClaimParts → Type 0
IsOpen c = c.shell ≡ Open

-- the laws of listings, by which a claim's script is listed whole
module _ (sound : ListedAreSound) (exact : SatisfiedExactly) where
  -- the row of a claim that was just written is read as this claim
  claim_here : (c : ClaimParts) (l : ListsOfClaims) → IsReady c → IsOpen c → (let row = claim_row c (length l.slots) (length l.bytes) (length (l.bytes ++ spelling c.ways.ops)) in IsClaimOf row (with_claim c l).slots (with_claim c l).bytes c)
  claim_here c l ready shell =
      let a = adds_in c.shell c.slots (with_row c l) shell in
      let row = claim_row c (length l.slots) (length l.bytes) (length (l.bytes ++ spelling c.ways.ops)) in
      let script_bytes : (l.bytes ++ spelling c.ways.ops) ++ (c.place.program ++ a.more) ≡ (with_claim c l).bytes = sym (a.bytes ∙ append_assoc (l.bytes ++ spelling c.ways.ops) c.place.program a.more) in
      let script = subst (λ b. Stands row.script_at row.script_length b (spelling c.ways.ops)) script_bytes (stands_here l.bytes (spelling c.ways.ops) (c.place.program ++ a.more)) in
      let program = subst (λ b. Stands row.program_at row.program_length b c.place.program) (sym a.bytes) (stands_here (l.bytes ++ spelling c.ways.ops) c.place.program a.more) in
      let rows_at : Stands (length l.slots) (length a.rows) ((l.slots ++ a.rows) ++ []) a.rows = stands_here l.slots a.rows [] in
      let slots_whole : (l.slots ++ a.rows) ++ [] ≡ (with_claim c l).slots = append-nil (l.slots ++ a.rows) ∙ sym a.slots in
      let own = subst (λ n. Stands row.first_slot n (with_claim c l).slots a.rows) a.count (subst (λ ss. Stands row.first_slot (length a.rows) ss a.rows) slots_whole rows_at) in
      record {
        read = all_parts (has_part row.script_at row.script_length (with_claim c l).bytes) (has_part row.program_at row.program_length (with_claim c l).bytes) (has_part row.first_slot row.slots (with_claim c l).slots)
            (slots_fault (with_claim c l).bytes 0 (slots_in row (with_claim c l).slots)) script.there program.there own.there
            (ap (slots_fault (with_claim c l).bytes 0) own.same ∙ a.faultless 0);
        listed = record {
          spelt = record { each = ready.whole.ops; same = sym script.same };
          listed = ready.whole.listed;
          sound = sound c.ways.ops c.ways.paths ready.whole.listed;
          exhaustive = λ spend witness counted height ran. (exact c.ways.ops c.ways.paths spend witness counted height ready.whole.listed).0 ran;
        };
        filled = subst (λ rs. FillAs (with_claim c l).bytes rs c.slots) (sym own.same) a.filled;
        accepted = record {
          same = ap (λ shell. record { ways = c.ways; index = c.index; slots = c.slots; place = c.place; shell = shell }) shell
              ∙ ap (λ p. record { ways = c.ways; index = c.index; slots = c.slots; place = record (place_in row (with_claim c l).bytes) { program = p }; shell = Open }) (sym program.same);
          accepted = ready.whole.accepted;
        };
        spends = ready.spends;
        whole = ready.whole;
      }

  -- those that were written before are still read
  claims_before : (slots : List SlotRow) (bytes : List ℕ) (rows : List SlotRow) (more : List ℕ) (written : List ClaimRow) (done : List ClaimParts) → AreReadAs slots bytes written done → AreReadAs (slots ++ rows) (bytes ++ more) written done
  claims_before slots bytes rows more [] [] all = tt
  claims_before slots bytes rows more [] (c ∷ cs) all = absurd all
  claims_before slots bytes rows more (row ∷ written) [] all = absurd all
  claims_before slots bytes rows more (row ∷ written) (c ∷ cs) all = (λ is. claim_more row slots bytes rows more c (all.0 is), claims_before slots bytes rows more written cs all.1)

  -- one more of them
  read_more : (slots : List SlotRow) (bytes : List ℕ) (written : List ClaimRow) (done : List ClaimParts) (row : ClaimRow) (c : ClaimParts) → AreReadAs slots bytes written done → IsReadAs slots bytes row c → AreReadAs slots bytes (written ++ row ∷ []) (done ++ c ∷ [])
  read_more slots bytes [] [] row c all is = (is, tt)
  read_more slots bytes [] (d ∷ ds) row c all is = absurd all
  read_more slots bytes (r ∷ rs) [] row c all is = absurd all
  read_more slots bytes (r ∷ rs) (d ∷ ds) row c all is = (all.0, read_more slots bytes rs ds row c all.1 is)

  -- one more claim
  one_more : (c : ClaimParts) (l : ListsOfClaims) (done : List ClaimParts) → IsReady c → AreReadAs l.slots l.bytes l.claims done
      → AreReadAs (with_claim c l).slots (with_claim c l).bytes (with_claim c l).claims (done ++ c ∷ [])
  one_more c l done ready all =
      let a = grows c.shell c.slots (with_row c l) in
      let row = claim_row c (length l.slots) (length l.bytes) (length (l.bytes ++ spelling c.ways.ops)) in
      let after = with_claim c l in
      let longer : l.bytes ++ (spelling c.ways.ops ++ (c.place.program ++ a.more)) ≡ after.bytes =
      sym (a.bytes ∙ append_assoc (l.bytes ++ spelling c.ways.ops) c.place.program a.more ∙ append_assoc l.bytes (spelling c.ways.ops) (c.place.program ++ a.more)) in
      let before : AreReadAs (l.slots ++ a.rows) (l.bytes ++ (spelling c.ways.ops ++ (c.place.program ++ a.more))) l.claims done =
      claims_before l.slots l.bytes a.rows (spelling c.ways.ops ++ (c.place.program ++ a.more)) l.claims done all in
      let kept : AreReadAs after.slots after.bytes l.claims done =
      subst (λ ss. AreReadAs ss after.bytes l.claims done) (sym a.slots) (subst (λ b. AreReadAs (l.slots ++ a.rows) b l.claims done) longer before) in
      subst (λ rs. AreReadAs after.slots after.bytes rs (done ++ c ∷ [])) (sym a.claims) (read_more after.slots after.bytes l.claims done row c kept (λ is. claim_here c l ready is))

  written : (cs : List ClaimParts) (l : ListsOfClaims) (done : List ClaimParts) → AllByRecursion IsReady cs → AreReadAs l.slots l.bytes l.claims done
      → AreReadAs (with_claims cs l).slots (with_claims cs l).bytes (with_claims cs l).claims (done ++ cs)
  written [] l done ready all = subst (λ ds. AreReadAs l.slots l.bytes l.claims ds) (sym (append-nil done)) all
  written (c ∷ cs) l done ready all =
      let after = with_claims cs (with_claim c l) in
      subst (λ ds. AreReadAs after.slots after.bytes after.claims ds) (append_assoc done (c ∷ []) cs)
      (written cs (with_claim c l) (done ++ c ∷ []) ready.1 (one_more c l done ready.0 all))

  -- the rows of claims in open transactions are read as these claims
  pub rows_are_read : (cs : List ClaimParts) → AllByRecursion IsReady cs → AreReadAs (claim_lists cs).slots (claim_lists cs).bytes (claim_lists cs).claims cs
  rows_are_read cs ready = written cs no_lists [] ready tt

-- where all are open, the rows are those of all claims
pub all_are_claims : (slots : List SlotRow) (bytes : List ℕ) (rows : List ClaimRow) (cs : List ClaimParts) → AllByRecursion IsOpen cs → AreReadAs slots bytes rows cs → AreClaimsOf slots bytes rows cs
all_are_claims slots bytes [] [] shell all = tt
all_are_claims slots bytes [] (c ∷ cs) shell all = absurd all
all_are_claims slots bytes (row ∷ rows) [] shell all = absurd all
all_are_claims slots bytes (row ∷ rows) (c ∷ cs) shell all = (all.0 shell.0, all_are_claims slots bytes rows cs shell.1 all.1)
