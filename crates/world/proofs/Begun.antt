-- What is true of a world whose channels have begun.
use Rattle.std.proofs.Common.{◌≡◌, ℕ, zero, suc, ◌+◌, ◌<◌, ◌≤◌, Bool, true, false, true≢false, not, cond, ◌||◌, List, [], ◌∷◌, ◌++◌, length, refl, sym, ap, ◌∙◌, subst, arith}
use Rattle.std.specs.Prelude.{drop, slice_get, nat_lt, if◌then◌else◌, Option, Some, None, Result, Ok, Err, OnOk}
use Rattle.std.specs.List.{position_from}
use Rattle.sha2.specs.Sha256.{sha256}
use Rattle.sha2.proofs.Facts256.{length-sha256}
use Rattle.std.proofs.lemmas.Bool.{and_from, eq-eqb}
use Rattle.sighash.specs.Programs.{script_hash_program, is_key_hash_program, is_script_hash_program}
use Rattle.tx.specs.declared.limits.TheConstants.{MAX_VALUE}
use Rattle.std.proofs.lemmas.List.{map-append}
use Rattle.std.proofs.lemmas.Option.{none-some, same_Some}
use Rattle.tx.specs.Parts.{Output}
use Rattle.tx.specs.declared.input.OutPoint.{OutPoint}
use Rattle.tx.specs.Fields.{Transaction}
use Rattle.chain.specs.Blocks.{Contents, Standing, grants_in, grant_outpoint, transactions_of}
use Rattle.chain.specs.Connecting.{with_grant, is_program}
use Rattle.terms.specs.declared.sides.Side.{Side}
use Rattle.terms.specs.declared.sides.Side.TheVariants.{A, B}
use Rattle.terms.specs.declared.agreement.Terms.{Terms}
use Rattle.terms.specs.declared.proposals.ProposedTerms.{ProposedTerms}
use Rattle.terms.specs.Proposals.{can_agree}
use Rattle.scenario.specs.declared.seeds.Seeds.{Seeds}
use Rattle.book.specs.declared.calls.Opening.{Opening}
use Rattle.book.specs.declared.calls.Call.TheVariants.{Open}
use Rattle.book.specs.Accepted.{begins as no_call, adds_call}
use Rattle.book.specs.Books.{opened_by, replay, fundings_of}
use Rattle.book.specs.Replies.{is_accepted}
use Rattle.world.specs.declared.openings.sides.Both.{Both}
use Rattle.world.specs.Opening.{funding_output, funding_if_within, AreTermsOf, IsOpeningOf, AreOpeningsOf}
use Rattle.world.specs.Agreeing.{OpeningsArePaired, OpeningsAreTaken, first_grants}
use Rattle.world.specs.declared.limits.TheConstants.{SEAT}
use Rattle.world.specs.Worlds.{World, Node, Line, inboxes, answer_to, after_call, with_line}
use Rattle.world.specs.Pairing.{ArePaired}
use Rattle.world.specs.Beginning.{empty_world, with_opened, granted, Begins, AllBegin, HasBegun}
use Rattle.world.proofs.Fillings.{called_grows, fillings_grow}
use Rattle.world.proofs.Turns.{opened_more}
use Rattle.world.proofs.Sides.{no_side, side_opened}

-- nothing is left past the end
drop-nil : {X : Type 0} (n : ℕ) → drop {A = X} n [] ≡ []
drop-nil zero = refl
drop-nil (suc n) = refl

drop-all : {X : Type 0} (i : ℕ) (xs : List X) → length xs ≤ i → drop i xs ≡ []
drop-all i [] past = drop-nil i
drop-all zero (x ∷ xs) past = absurd (omega (arith, past))
drop-all (suc i) (x ∷ xs) past = drop-all i xs (omega (arith, past))

-- one more grant
more_grants : (blocks : List Contents) (o : Output) → 1 ≤ length blocks → grants_in (with_grant blocks o) ≡ grants_in blocks + 1
more_grants [] o some = absurd (omega (arith, some))
more_grants (b ∷ older) o some = omega arith

as_many : (blocks : List Contents) (o : Output) → length (with_grant blocks o) ≡ length blocks
as_many [] o = refl
as_many (b ∷ older) o = refl

-- a grant is no transaction
as_few : (blocks : List Contents) (o : Output) (others : List Transaction) → transactions_of (with_grant blocks o) ++ others ≡ transactions_of blocks ++ others
as_few [] o others = refl
as_few (b ∷ older) o others = refl

-- one more channel, with no message on its way
more_inboxes : (n : Node) → inboxes (with_line n) ≡ inboxes n ++ [] ∷ []
more_inboxes n = map-append (λ (l : Line). l.inbox) n.lines _

-- what is true of a side that opened the next channel
pub record IsOpen (c : ℕ) (opening : Opening) (n : Node) : Type 0 where
  pub accepted : is_accepted (answer_to n (Open opening)) ≡ true
  pub channels : replay (with_opened opening n).history ≡ replay n.history ++ opened_by opening ∷ []
  pub stands : fundings_of (replay (with_opened opening n).history) ≡ first_grants (suc c)

pub is_open : OpeningsAreTaken → (seeds : Seeds) (c : ℕ) (side : Side) (plain : ProposedTerms) (terms : Terms) (opening : Opening) (n : Node) → AreTermsOf seeds c (grant_outpoint c) plain terms
    → IsOpeningOf seeds c side terms opening → c < 8 → fundings_of (replay n.history) ≡ first_grants c → IsOpen c opening n
is_open taken seeds c side plain terms opening n are is few stands =
    let t = taken seeds c SEAT terms side opening n.history is are.funding_is few stands in
    record { accepted = ap is_accepted t.0; channels = t.1; stands = t.2 }

next : (c : ℕ) → suc c ≡ c + 1
next c = omega arith

-- both sides agree on one more channel
agree_on : (w : World) (a b : Opening) (c : ℕ) → IsOpen c a w.a → IsOpen c b w.b → ArePaired A (replay w.a.history) (replay w.b.history) (inboxes w.a) (inboxes w.b)
    → ArePaired A (replay w.a.history ++ opened_by a ∷ []) (replay w.b.history ++ opened_by b ∷ []) (inboxes w.a ++ [] ∷ []) (inboxes w.b ++ [] ∷ [])
    → ArePaired A (replay (with_opened a w.a).history) (replay (with_opened b w.b).history) (inboxes (with_opened a w.a)) (inboxes (with_opened b w.b))
agree_on w a b c of_a of_b agree more =
    subst (λ qs. ArePaired A (replay (with_opened a w.a).history) (replay (with_opened b w.b).history) (inboxes (with_opened a w.a)) qs) (sym (more_inboxes (after_call (Open b) w.b)))
    (subst (λ ps. ArePaired A (replay (with_opened a w.a).history) (replay (with_opened b w.b).history) ps (inboxes w.b ++ [] ∷ [])) (sym (more_inboxes (after_call (Open a) w.a)))
    (subst (λ ys. ArePaired A (replay (with_opened a w.a).history) ys (inboxes w.a ++ [] ∷ []) (inboxes w.b ++ [] ∷ [])) (sym of_b.channels)
    (subst (λ xs. ArePaired A xs (replay w.b.history ++ opened_by b ∷ []) (inboxes w.a ++ [] ∷ []) (inboxes w.b ++ [] ∷ [])) (sym of_a.channels) more)))

after : OpeningsArePaired → OpeningsAreTaken → (seeds : Seeds) (c : ℕ) (plain : ProposedTerms) (w : World) (both : Both) → c < 8 → HasBegun c w → AreOpeningsOf seeds c (grant_outpoint c) plain both
    → HasBegun (suc c) (record w { a = with_opened both.a w.a; b = with_opened both.b w.b; chain = granted (funding_output seeds c plain) w.chain })
after paired taken seeds c plain w both few begun are =
    let a = is_open taken seeds c A plain are.terms both.a w.a are.agreed are.by_a few begun.a_stands in
    let b = is_open taken seeds c B plain are.terms both.b w.b are.agreed are.by_b few begun.b_stands in
    record {
      a_stands = a.stands;
      b_stands = b.stands;
      grants = more_grants w.chain.blocks (funding_output seeds c plain) begun.some_block ∙ ap (λ n. n + 1) begun.grants ∙ sym (next c);
      some_block = subst (λ n. 1 ≤ n) (sym (as_many w.chain.blocks (funding_output seeds c plain))) begun.some_block;
      a_called = adds_call SEAT (Open both.a) begun.a_called;
      b_called = adds_call SEAT (Open both.b) begun.b_called;
      agree = agree_on w both.a both.b c a b begun.agree
          (opened_more A (opened_by both.a) (opened_by both.b) (replay w.a.history) (replay w.b.history) (inboxes w.a) (inboxes w.b)
          (paired seeds c are.terms A both.a both.b are.by_a are.by_b) begun.agree);
      released = fillings_grow w.a.history (with_opened both.a w.a).history w.b.history (with_opened both.b w.b).history w.released (called_grows w.a (Open both.a)) (called_grows w.b (Open both.b)) begun.released;
      a_side = side_opened w.a both.a (suc c) begun.a_side a.stands few;
      b_side = side_opened w.b both.b (suc c) begun.b_side b.stands few;
      no_transaction = as_few w.chain.blocks (funding_output seeds c plain) (w.pool ++ w.released) ∙ begun.no_transaction;
    }

pub has_begun : OpeningsArePaired → OpeningsAreTaken → (seeds : Seeds) (c : ℕ) (plain : ProposedTerms) (w v : World) → c < 8 → HasBegun c w → Begins seeds c plain w v → HasBegun (c + 1) v
has_begun paired taken seeds c plain w v few begun b =
    subst (λ n. HasBegun n v) (next c) (subst (HasBegun (suc c)) (sym b.after) (after paired taken seeds c plain w b.both few begun b.openings))

pub nothing_begun : HasBegun 0 empty_world
nothing_begun = record { a_stands = refl; b_stands = refl; grants = refl; some_block = omega arith; a_called = no_call; b_called = no_call; agree = tt; released = tt; a_side = no_side; b_side = no_side; no_transaction = refl }

-- ---- channels in order

-- the rest of a list from an element on begins with this element
left_from : {X : Type 0} (i : ℕ) (xs : List X) (x : X) → slice_get xs i ≡ Some x → drop i xs ≡ x ∷ drop (suc i) xs
left_from i [] x e = absurd (none-some x e)
left_from zero (y ∷ xs) x e = ap (λ z. z ∷ xs) (same_Some y x e)
left_from (suc i) (y ∷ xs) x e = left_from i xs x e

-- beginning the channels from i on completes the beginning of all
abbrev pub IsLeft : Seeds → List ProposedTerms → ℕ → World → Type 0
IsLeft seeds terms i w = (end : World) → AllBegin seeds i (drop i terms) w end → AllBegin seeds 0 terms empty_world end

pub begin_next : (seeds : Seeds) (terms : List ProposedTerms) (i : ℕ) (plain : ProposedTerms) (w v : World) → slice_get terms i ≡ Some plain → Begins seeds i plain w v → IsLeft seeds terms i w
    → IsLeft seeds terms (i + 1) v
begin_next seeds terms i plain w v there b left end more =
    left end (subst (λ ps. AllBegin seeds i ps w end) (sym (left_from i terms plain there ∙ ap (λ n. plain ∷ drop n terms) (next i))) (AllBegin.begins b more))

pub all_left : (seeds : Seeds) (terms : List ProposedTerms) (i : ℕ) (w : World) → length terms ≤ i → IsLeft seeds terms i w → AllBegin seeds 0 terms empty_world w
all_left seeds terms i w past left = left w (subst (λ ps. AllBegin seeds i ps w w) (sym (drop-all i terms past)) AllBegin.all_begun)

-- ---- the funding output

or_right : (a b : Bool) → b ≡ true → (a || b) ≡ true
or_right true b is = refl
or_right false b is = is

is_script_program : (script : List ℕ) → is_program (script_hash_program script) ≡ true
unfolding script_hash_program
is_script_program script =
    let l : length (sha256 script) ≡ 32 = length-sha256 script in
    or_right (is_key_hash_program (script_hash_program script)) (is_script_hash_program (script_hash_program script)) (and_from _ _ (eq-eqb _ _ (omega (arith, l))) refl)

-- an optional funding output that is there is the funding output
found_output : (over : Bool) (o p : Output) → Some p ≡ (if over then None else Some o) → p ≡ o
found_output true o p e = absurd cc
found_output false o p e = cc

pub funded_by : (seeds : Seeds) (c : ℕ) (plain : ProposedTerms) (o : Output) (r : Option Output) → r ≡ funding_if_within seeds c plain → r ≡ Some o → o ≡ funding_output seeds c plain
funded_by seeds c plain o r is some = found_output (nat_lt MAX_VALUE plain.capacity_sat) (funding_output seeds c plain) o (sym some ∙ is)

-- a chain grants it
pub is_granted : (seeds : Seeds) (c : ℕ) (plain : ProposedTerms) (o : Output) → o ≡ funding_output seeds c plain → is_program o.script ≡ false → ⊥
is_granted seeds c plain o same not_one = true≢false (sym (ap (λ (x : Output). is_program x.script) same ∙ is_script_program _) ∙ not_one)

-- ---- a channel

-- the place of its funding output
stands_at : (w : World) (c : ℕ) (o : OutPoint) → HasBegun c w → o ≡ grant_outpoint (grants_in w.chain.blocks) → o ≡ grant_outpoint c
stands_at w c o begun is = is ∙ ap grant_outpoint begun.grants

opens_here : (seeds : Seeds) (c : ℕ) (plain : ProposedTerms) (w : World) (o : OutPoint) (both : Both) → HasBegun c w → o ≡ grant_outpoint (grants_in w.chain.blocks) → AreOpeningsOf seeds c o plain both
    → AreOpeningsOf seeds c (grant_outpoint c) plain both
opens_here seeds c plain w o both begun is are = subst (λ p. AreOpeningsOf seeds c p plain both) (stands_at w c o begun is) are

pub a_takes : OpeningsAreTaken → (seeds : Seeds) (c : ℕ) (plain : ProposedTerms) (w : World) (o : OutPoint) (both : Both) → HasBegun c w → c < 8 → o ≡ grant_outpoint (grants_in w.chain.blocks)
    → AreOpeningsOf seeds c o plain both → is_accepted (answer_to w.a (Open both.a)) ≡ true
a_takes taken seeds c plain w o both begun few is are =
    let here = opens_here seeds c plain w o both begun is are in
    (is_open taken seeds c A plain here.terms both.a w.a here.agreed here.by_a few begun.a_stands).accepted

pub b_takes : OpeningsAreTaken → (seeds : Seeds) (c : ℕ) (plain : ProposedTerms) (w : World) (o : OutPoint) (both : Both) → HasBegun c w → c < 8 → o ≡ grant_outpoint (grants_in w.chain.blocks)
    → AreOpeningsOf seeds c o plain both → is_accepted (answer_to w.b (Open both.b)) ≡ true
b_takes taken seeds c plain w o both begun few is are =
    let here = opens_here seeds c plain w o both begun is are in
    (is_open taken seeds c B plain here.terms both.b w.b here.agreed here.by_b few begun.b_stands).accepted

pub begun_by : (seeds : Seeds) (c : ℕ) (plain : ProposedTerms) (w : World) (o : OutPoint) (both : Both) (chain : Standing) (a b : Node) → HasBegun c w → o ≡ grant_outpoint (grants_in w.chain.blocks)
    → chain ≡ granted (funding_output seeds c plain) w.chain → AreOpeningsOf seeds c o plain both → a ≡ with_opened both.a w.a → b ≡ with_opened both.b w.b
    → Begins seeds c plain w (record w { a = a; b = b; chain = chain })
begun_by seeds c plain w o both chain a b begun is grown are of_a of_b = record {
  both = both;
  openings = opens_here seeds c plain w o both begun is are;
  after = λ i. record w { a = of_a i; b = of_b i; chain = grown i };
}

-- the same, for an equal world
pub begun_from : (seeds : Seeds) (c : ℕ) (plain : ProposedTerms) (old w : World) (o : OutPoint) (both : Both) (chain : Standing) (a b : Node) → w ≡ old → HasBegun c old → o ≡ grant_outpoint (grants_in w.chain.blocks)
    → chain ≡ granted (funding_output seeds c plain) w.chain → AreOpeningsOf seeds c o plain both → a ≡ with_opened both.a w.a → b ≡ with_opened both.b w.b
    → Begins seeds c plain old (record w { a = a; b = b; chain = chain })
begun_from seeds c plain old w o both chain a b same begun is grown are of_a of_b =
    subst (λ v. Begins seeds c plain v (record w { a = a; b = b; chain = chain })) same (begun_by seeds c plain w o both chain a b (subst (HasBegun c) (sym same) begun) is grown are of_a of_b)

pub on_ok : {X E : Type 0} {P Q : Type 0} (r : Result X E) → (P → Q) → OnOk r P → OnOk r Q
on_ok (Ok x) f p = f p
on_ok (Err e) f p = p

-- ---- terms

abbrev bad_from : ℕ → List ProposedTerms → Option ℕ
bad_from i terms = position_from (λ t. not (can_agree t)) i terms

-- if no terms are bad, the sides can agree on each
pub agreed_each : (i : ℕ) (terms : List ProposedTerms) → bad_from i terms ≡ None → (k : ℕ) (plain : ProposedTerms) → slice_get terms k ≡ Some plain → can_agree plain ≡ true
agreed_each i [] none k plain there = absurd (none-some plain there)
agreed_each i (t ∷ ts) none k plain there = go (agreed_each (i + 1) ts) (can_agree t) refl none k there
  where
    go : (bad_from (i + 1) ts ≡ None → (n : ℕ) (p : ProposedTerms) → slice_get ts n ≡ Some p → can_agree p ≡ true) → (good : Bool) → can_agree t ≡ good
        → cond (not good) (Some i) (bad_from (i + 1) ts) ≡ None → (n : ℕ) → slice_get (t ∷ ts) n ≡ Some plain → can_agree plain ≡ true
    go later true is left zero here = ap can_agree (sym (same_Some t plain here)) ∙ is
    go later true is left (suc n) here = later left n plain here
    go later false is left n here = absurd cc
