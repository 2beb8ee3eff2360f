-- Tests of a node's channels and of a chain that compute, for worked chains. What passes them meets the premises of the laws on one node against everybody; and an output that was stolen is in none of the cases that
-- these laws have for it.
use Rattle.std.proofs.Common.{◌≡◌, ℕ, zero, suc, ◌+◌, ◌*◌, ◌^◌, ◌<◌, Bool, true, false, not, List, [], ◌∷◌, ◌++◌, length, reverse, Option, Some, None, sym, ap, ◌∙◌, refl, subst, ⊎_elim, arith}
use Rattle.std.specs.Prelude.{◌&&◌, ◌||◌, ◌==◌, nat_lt, nat_le, slice_get}
use Rattle.std.specs.List.{Contains, AllByRecursion, list_any, list_all, flat_map}
use Rattle.std.specs.Str.{bytes_eq}
use Rattle.std.proofs.lemmas.Bool.{false≢true, and_parts, ltb-true, leb-true, eqb-true, lt-ltb, le-leb, eq-eqb}
use Rattle.std.proofs.lemmas.List.{length-reverse}
use Rattle.std.proofs.lemmas.Option.{slice_get_past}
use Rattle.std.proofs.lemmas.Slice.Eq.{bytes_eq-Decides}
use Rattle.std.proofs.lemmas.Grind.{reverse_onto}
use Rattle.sha2.specs.Sha256.{sha256}
use Rattle.tx.specs.declared.input.OutPoint.{OutPoint}
use Rattle.tx.specs.declared.input.TxIn.{TxIn}
use Rattle.tx.specs.declared.limits.TheConstants.{MAX_VALUE, MAX_INPUTS, MAX_OUTPUTS, MAX_ITEMS, MAX_BYTES}
use Rattle.tx.specs.Parts.{IsBounded, Output, IsOutput}
use Rattle.tx.specs.Fields.{Transaction, IsInput, KeepsLimits, same_outpoint}
use Rattle.tx.specs.Spelling.{transaction_id}
use Rattle.tx.proofs.Witnesses.{same_id}
use Rattle.keys.specs.Derivation.{point_of}
use Rattle.chain.specs.Blocks.{Contents as Block, Coin, grant_id, grants_in, has_id, is_named, coin_at}
use Rattle.chain.specs.Checked.{is_checked}
use Rattle.chain.specs.Conserving.{GrantsAreApart}
use Rattle.chain.proofs.Noting.{itself}
use Rattle.claim.specs.Claims.{ClaimParts}
use Rattle.terms.specs.declared.amounts.TheConstants.{MSAT_PER_SAT}
use Rattle.terms.specs.declared.htlcs.Htlc.{Htlc}
use Rattle.terms.specs.declared.sides.Side.{Side}
use Rattle.terms.specs.declared.sides.Side.TheVariants.{A, B}
use Rattle.terms.specs.declared.agreement.Terms.{Terms}
use Rattle.terms.specs.declared.views.View.{View}
use Rattle.commit.specs.declared.fees.Direction.{Direction}
use Rattle.commit.specs.declared.fees.Direction.TheVariants.{Offered, Received}
use Rattle.commit.specs.declared.outputs.HtlcOutput.{HtlcOutput}
use Rattle.commit.specs.Commitments.{Contents, id_of, htlcs_of}
use Rattle.commit.specs.Sums.{total_msat_of}
use Rattle.penalty.specs.Claimable.{Claimable}
use Rattle.channel.specs.declared.limits.TheConstants.{LAST_NUMBER}
use Rattle.channel.specs.declared.commitments.CommitmentState.{CommitmentState}
use Rattle.channel.specs.Keeping.{one_if}
use Rattle.channel.specs.Numbered.{SharesOut, IsNumbered, AreNumbered}
use Rattle.channel.specs.States.{State}
use Rattle.channel.specs.Recording.{AreByNumber}
use Rattle.channel.specs.Tokens.{contents_of}
use Rattle.terms.specs.Sides.{other}
use Rattle.safety.specs.Signing.{Signed, IsSignable}
use Rattle.safety.specs.Standing.{StandsAt}
use Rattle.safety.specs.Recorded.{IsOutPoint}
use Rattle.safety.specs.Holdings.{Release, released, claim_signed, Holding, terms_in, IsOnRecorded, IsRightful, IsRevealed, KeepsRules, EachKeepsRules}
use Rattle.safety.specs.Premises.{locks_by, outputs_by, are_own, secret_keys}
use Rattle.safety.specs.Breaks.{Breaks}
use Rattle.safety.specs.Closers.{IsWatched}
use Rattle.safety.specs.Resolutions.{WasReleased, Resolution, unspent, ours, lost, broken, IsSlept, IsPaidOrLate, paid, late}
use Rattle.safety.proofs.Slots.{same_bytes}
use Rattle.safety.proofs.Lists.{none_some, some_is, contained, any_holds, both}
use Rattle.safety.proofs.Signing.{bare_input, limits_fit}
use Rattle.safety.proofs.Tests.{flat_in, all_hold, or_then}
use Rattle.safety.proofs.Standing.{block_in, spent_is}
use Rattle.safety.proofs.Passed.{last_cases}
use Rattle.safety.proofs.Ledgers.{checked_are_ledgers}

each_of : {X : Type 0} (P : X → Type 0) (test : X → Bool) → ((x : X) → test x ≡ true → P x) → (xs : List X) → list_all test xs ≡ true → AllByRecursion P xs
each_of P test sound [] e = tt
each_of P test sound (x ∷ xs) e = let r = and_parts (test x) (list_all test xs) e in (sound x r.0, each_of P test sound xs r.1)

-- ---- limits

abbrev pub item_fits : List ℕ → Bool
item_fits x = nat_le (length x) MAX_BYTES

abbrev pub input_fits : TxIn → Bool
input_fits i = (length i.outpoint.txid == 32 && nat_lt i.outpoint.index (2 ^ 32)) && (nat_lt i.sequence (2 ^ 32) && (nat_le (length i.witness) MAX_ITEMS && list_all item_fits i.witness))

abbrev pub output_fits : Output → Bool
output_fits o = nat_le o.value MAX_VALUE && item_fits o.script

abbrev pub transaction_fits : Transaction → Bool
transaction_fits t = (nat_lt t.version (2 ^ 32) && nat_lt t.lock_time (2 ^ 32))
    && ((nat_lt 0 (length t.inputs) && (nat_le (length t.inputs) MAX_INPUTS && list_all input_fits t.inputs)) && (nat_le (length t.outputs) MAX_OUTPUTS && list_all output_fits t.outputs))

item_sound : (x : List ℕ) → item_fits x ≡ true → IsBounded x
item_sound x e = leb-true (length x) MAX_BYTES e

input_sound : (i : TxIn) → input_fits i ≡ true → IsInput i
input_sound i e =
    let a = and_parts (length i.outpoint.txid == 32 && nat_lt i.outpoint.index (2 ^ 32)) _ e in
    let b = and_parts (length i.outpoint.txid == 32) (nat_lt i.outpoint.index (2 ^ 32)) a.0 in
    let c = and_parts (nat_lt i.sequence (2 ^ 32)) _ a.1 in
    let d = and_parts (nat_le (length i.witness) MAX_ITEMS) (list_all item_fits i.witness) c.1 in
    record {
      txid = eqb-true (length i.outpoint.txid) 32 b.0;
      index = ltb-true i.outpoint.index (2 ^ 32) b.1;
      sequence = ltb-true i.sequence (2 ^ 32) c.0;
      witness = record { count = leb-true (length i.witness) MAX_ITEMS d.0; each = each_of IsBounded item_fits item_sound i.witness d.1 };
    }

output_sound : (o : Output) → output_fits o ≡ true → IsOutput o
output_sound o e = let a = and_parts (nat_le o.value MAX_VALUE) (item_fits o.script) e in record { value = leb-true o.value MAX_VALUE a.0; script = item_sound o.script a.1 }

pub transaction_sound : (t : Transaction) → transaction_fits t ≡ true → KeepsLimits t
transaction_sound t e =
    let a = and_parts (nat_lt t.version (2 ^ 32) && nat_lt t.lock_time (2 ^ 32)) _ e in
    let b = and_parts (nat_lt t.version (2 ^ 32)) (nat_lt t.lock_time (2 ^ 32)) a.0 in
    let c = and_parts (nat_lt 0 (length t.inputs) && (nat_le (length t.inputs) MAX_INPUTS && list_all input_fits t.inputs)) _ a.1 in
    let d = and_parts (nat_lt 0 (length t.inputs)) _ c.0 in
    let f = and_parts (nat_le (length t.inputs) MAX_INPUTS) (list_all input_fits t.inputs) d.1 in
    let g = and_parts (nat_le (length t.outputs) MAX_OUTPUTS) (list_all output_fits t.outputs) c.1 in
    record {
      version = ltb-true t.version (2 ^ 32) b.0;
      some_input = ltb-true 0 (length t.inputs) d.0;
      inputs = record { count = leb-true (length t.inputs) MAX_INPUTS f.0; each = each_of IsInput input_fits input_sound t.inputs f.1 };
      outputs = record { count = leb-true (length t.outputs) MAX_OUTPUTS g.0; each = each_of IsOutput output_fits output_sound t.outputs g.1 };
      lock_time = ltb-true t.lock_time (2 ^ 32) b.1;
    }

abbrev pub signed_fits : Signed → Bool
signed_fits s = (transaction_fits s.transaction && input_fits s.input) && (item_fits s.code && nat_lt s.value (2 ^ 64))

signed_sound : (s : Signed) → signed_fits s ≡ true → IsSignable s
signed_sound s e =
    let a = and_parts (transaction_fits s.transaction && input_fits s.input) (item_fits s.code && nat_lt s.value (2 ^ 64)) e in
    let b = and_parts (transaction_fits s.transaction) (input_fits s.input) a.0 in
    let c = and_parts (item_fits s.code) (nat_lt s.value (2 ^ 64)) a.1 in
    record { transaction = limits_fit s.transaction (transaction_sound s.transaction b.0); input = bare_input s.input (input_sound s.input b.1); code = item_sound s.code c.0; value = ltb-true s.value (2 ^ 64) c.1 }

-- ---- a chain

abbrev pub all_fit : List Block → Bool
all_fit blocks = list_all (λ b. list_all transaction_fits b.transactions) blocks

fit_there : (blocks : List Block) → all_fit blocks ≡ true → (height : ℕ) (t : Transaction) → StandsAt blocks height t → KeepsLimits t
fit_there blocks e height t s =
    let b = all_hold (λ (b : Block). list_all transaction_fits b.transactions) blocks e s.block (block_in blocks height t s) in
    transaction_sound t (all_hold transaction_fits s.block.transactions b t s.within)

-- two grants
pub two_grants : (blocks : List Block) → grants_in blocks ≡ 2 → bytes_eq (grant_id 0) (grant_id 1) ≡ false → has_id blocks (grant_id 0) ≡ false → has_id blocks (grant_id 1) ≡ false → GrantsAreApart blocks
two_grants blocks n differ first second = record { among_grants = among; from_transactions = from }
  where
    among : (g h : ℕ) → g < h → h < grants_in blocks → bytes_eq (grant_id g) (grant_id h) ≡ false
    among zero zero l m = absurd (omega (arith, l))
    among zero (suc zero) l m = differ
    among zero (suc (suc h)) l m = absurd (omega (arith, n, m))
    among (suc g) zero l m = absurd (omega (arith, l))
    among (suc g) (suc zero) l m = absurd (omega (arith, l))
    among (suc g) (suc (suc h)) l m = absurd (omega (arith, n, m))

    from : (g : ℕ) → g < grants_in blocks → has_id blocks (grant_id g) ≡ false
    from zero l = first
    from (suc zero) l = second
    from (suc (suc g)) l = absurd (omega (arith, n, l))

pub watched : (hs : List Holding) (blocks : List Block) → EachKeepsRules hs → is_checked blocks ≡ true → all_fit blocks ≡ true → GrantsAreApart blocks → are_own hs blocks ≡ true → IsWatched hs blocks
watched hs blocks kept checked fits grants own = record { kept = kept; ledger = checked_are_ledgers blocks checked (fit_there blocks fits) grants (secret_keys hs) (locks_by hs) (outputs_by hs); own = own }

-- ---- the rules

abbrev pub same_side : Side → Side → Bool
same_side A A = true
same_side B B = true
same_side s z = false

side_sound : (s z : Side) → same_side s z ≡ true → s ≡ z
side_sound A A e = refl
side_sound A B e = absurd (false≢true e)
side_sound B A e = absurd (false≢true e)
side_sound B B e = refl

-- each expires at a height (BIP 65)
abbrev pub at_heights : List Htlc → Bool
at_heights htlcs = list_all (λ h. nat_lt h.expiry_height 500000000) htlcs

-- a view has at most 483 HTLCs of each side (BOLT 2), and shares out the capacity
abbrev pub shares_out : Terms → View → Bool
shares_out terms v = (nat_le (length v.a.offered) 483 && nat_le (length v.b.offered) 483)
    && ((at_heights v.a.offered && at_heights v.b.offered) && total_msat_of v == MSAT_PER_SAT * terms.capacity_sat)

shares_sound : (terms : Terms) (v : View) → shares_out terms v ≡ true → SharesOut terms v
shares_sound terms v e =
    let a = and_parts (nat_le (length v.a.offered) 483 && nat_le (length v.b.offered) 483) _ e in
    let b = and_parts (nat_le (length v.a.offered) 483) (nat_le (length v.b.offered) 483) a.0 in
    let c = and_parts (at_heights v.a.offered && at_heights v.b.offered) (total_msat_of v == MSAT_PER_SAT * terms.capacity_sat) a.1 in
    let d = and_parts (at_heights v.a.offered) (at_heights v.b.offered) c.0 in
    record {
      few_of_a = leb-true (length v.a.offered) 483 b.0;
      few_of_b = leb-true (length v.b.offered) 483 b.1;
      heights_of_a = d.0;
      heights_of_b = d.1;
      whole = eqb-true (total_msat_of v) (MSAT_PER_SAT * terms.capacity_sat) c.1;
    }

-- commitments of a side from a number on
abbrev pub is_numbered : Terms → Side → ℕ → CommitmentState → Bool
is_numbered terms side n k = same_side k.owner side && (k.number == n && shares_out terms k.view)

abbrev pub are_numbered : Terms → Side → ℕ → List CommitmentState → Bool
are_numbered terms side n [] = true
are_numbered terms side n (k ∷ ks) = is_numbered terms side n k && are_numbered terms side (n + 1) ks

numbered_sound : (terms : Terms) (side : Side) (n : ℕ) (k : CommitmentState) → is_numbered terms side n k ≡ true → IsNumbered terms side n k
numbered_sound terms side n k e =
    let a = and_parts (same_side k.owner side) (k.number == n && shares_out terms k.view) e in
    let b = and_parts (k.number == n) (shares_out terms k.view) a.1 in
    record { owner = side_sound k.owner side a.0; number = eqb-true k.number n b.0; shares = shares_sound terms k.view b.1 }

each_numbered : (terms : Terms) (side : Side) (first : ℕ) (ks : List CommitmentState) → are_numbered terms side first ks ≡ true → (i : ℕ) (k : CommitmentState) → slice_get ks i ≡ Some k → IsNumbered terms side (first + i) k
each_numbered terms side first [] e i k at = absurd (none_some k (sym (slice_get_past [] i (omega arith)) ∙ at))
each_numbered terms side first (x ∷ xs) e zero k at =
    let r = and_parts (is_numbered terms side first x) (are_numbered terms side (first + 1) xs) e in
    let n : first ≡ first + 0 = omega arith in
    subst (λ (y : CommitmentState). IsNumbered terms side (first + 0) y) (some_is x k at) (subst (λ (m : ℕ). IsNumbered terms side m x) n (numbered_sound terms side first x r.0))
each_numbered terms side first (x ∷ xs) e (suc i) k at =
    let r = and_parts (is_numbered terms side first x) (are_numbered terms side (first + 1) xs) e in
    let n : first + 1 + i ≡ first + suc i = omega arith in
    subst (λ (m : ℕ). IsNumbered terms side m k) n (each_numbered terms side (first + 1) xs r.1 i k at)

abbrev pub by_number : Terms → Side → ℕ → List CommitmentState → Bool
by_number terms side many ks = length ks == many && are_numbered terms side 0 ks

by_number_sound : (terms : Terms) (side : Side) (many : ℕ) (ks : List CommitmentState) → by_number terms side many ks ≡ true → AreNumbered terms side many ks
by_number_sound terms side many ks e =
    let a = and_parts (length ks == many) (are_numbered terms side 0 ks) e in
    record {
      count = eqb-true (length ks) many a.0;
      each = λ i k at. let n : 0 + i ≡ i = omega arith in subst (λ (m : ℕ). IsNumbered terms side m k) n (each_numbered terms side 0 ks a.1 i k at);
    }

-- the secrets open the points of as many commitments
abbrev pub are_revealed : ℕ → List CommitmentState → List (List ℕ) → Bool
are_revealed zero ks secrets = true
are_revealed (suc n) [] secrets = true
are_revealed (suc n) (k ∷ ks) [] = false
are_revealed (suc n) (k ∷ ks) (s ∷ secrets) = bytes_eq k.point.bytes (point_of s) && are_revealed n ks secrets

abbrev IsOpened : List (List ℕ) → ℕ → CommitmentState → Type 0
IsOpened secrets i k = (secret : List ℕ) × (slice_get secrets i ≡ Some secret) × (k.point.bytes ≡ point_of secret)

each_revealed : (n : ℕ) (ks : List CommitmentState) (secrets : List (List ℕ)) → are_revealed n ks secrets ≡ true → (i : ℕ) (k : CommitmentState) → i < n → slice_get ks i ≡ Some k → IsOpened secrets i k
each_revealed zero ks secrets e i k l at = absurd (omega (arith, l))
each_revealed (suc n) [] secrets e i k l at = absurd (none_some k (sym (slice_get_past [] i (omega arith)) ∙ at))
each_revealed (suc n) (x ∷ xs) [] e i k l at = absurd (false≢true e)
each_revealed (suc n) (x ∷ xs) (s ∷ secrets) e zero k l at =
    let r = and_parts (bytes_eq x.point.bytes (point_of s)) (are_revealed n xs secrets) e in
    (s, refl, ap (λ (y : CommitmentState). y.point.bytes) (sym (some_is x k at)) ∙ same_bytes x.point.bytes (point_of s) r.0)
each_revealed (suc n) (x ∷ xs) (s ∷ secrets) e (suc i) k l at =
    let r = and_parts (bytes_eq x.point.bytes (point_of s)) (are_revealed n xs secrets) e in each_revealed n xs secrets r.1 i k (omega (arith, l)) at

-- what the node offered expires above 0
abbrev pub expires : Direction → Htlc → Bool
expires Offered h = true
expires Received h = nat_lt 0 h.expiry_height

abbrev pub all_expire : Terms → CommitmentState → Bool
all_expire terms k = list_all (λ x. expires x.direction x.htlc) (htlcs_of (contents_of terms k))

expires_above : (direction : Direction) (h : Htlc) → expires direction h ≡ true → direction ≡ Received → 0 < h.expiry_height
expires_above direction h e d = ltb-true 0 h.expiry_height (subst (λ (x : Direction). expires x h ≡ true) d e)

each_expires : (terms : Terms) (ks : List CommitmentState) → list_all (all_expire terms) ks ≡ true → (n : ℕ) (k : CommitmentState) → slice_get ks n ≡ Some k → (x : HtlcOutput) → Contains (htlcs_of (contents_of terms k)) x
    → x.direction ≡ Received → 0 < x.htlc.expiry_height
each_expires terms ks e n k at x i d =
    let h = all_hold (all_expire terms) ks e k (contained ks n k at) in
    expires_above x.direction x.htlc (all_hold (λ (y : HtlcOutput). expires y.direction y.htlc) (htlcs_of (contents_of terms k)) h x i) d

-- a channel was closed with this number, if it was
abbrev pub closed_with : Option ℕ → ℕ → Bool
closed_with None number = true
closed_with (Some n) number = n == number

closed_sound : (closed : Option ℕ) (number : ℕ) → closed_with closed number ≡ true → (n : ℕ) → closed ≡ Some n → n ≡ number
closed_sound None number e n is = absurd (none_some n is)
closed_sound (Some m) number e n is = sym (some_is m n is) ∙ eqb-true m number e

abbrev pub keeps_numbers : State → Bool
keeps_numbers s = (by_number s.held.terms s.held.side (s.number + 1) s.mine && by_number s.held.terms (other s.held.side) (s.peer_number + 1 + one_if s.awaiting) s.signed)
    && (nat_le s.number LAST_NUMBER && nat_le (s.peer_number + one_if s.awaiting) LAST_NUMBER)

abbrev pub keeps_rules : Holding → Bool
keeps_rules h = keeps_numbers h.state && (are_revealed h.state.peer_number h.state.signed h.state.secrets && (list_all (all_expire (terms_in h)) h.state.signed && closed_with h.closed h.state.number))

pub kept : (h : Holding) → keeps_rules h ≡ true → IsOutPoint (terms_in h).funding → AllByRecursion (IsRightful h) h.releases → KeepsRules h
kept h e funding releases =
    let a = and_parts (keeps_numbers h.state) _ e in
    let b = and_parts (by_number (terms_in h) h.state.held.side (h.state.number + 1) h.state.mine && by_number (terms_in h) (other h.state.held.side) (h.state.peer_number + 1 + one_if h.state.awaiting) h.state.signed) _ a.0 in
    let c = and_parts (by_number (terms_in h) h.state.held.side (h.state.number + 1) h.state.mine) _ b.0 in
    let d = and_parts (nat_le h.state.number LAST_NUMBER) _ b.1 in
    let f = and_parts (are_revealed h.state.peer_number h.state.signed h.state.secrets) _ a.1 in
    let g = and_parts (list_all (all_expire (terms_in h)) h.state.signed) _ f.1 in
    record {
      funding = funding;
      numbered = record { mine = by_number_sound (terms_in h) h.state.held.side (h.state.number + 1) h.state.mine c.0; signed = by_number_sound (terms_in h) (other h.state.held.side) (h.state.peer_number + 1 + one_if h.state.awaiting) h.state.signed c.1 };
      number = leb-true h.state.number LAST_NUMBER d.0;
      peer_number = leb-true (h.state.peer_number + one_if h.state.awaiting) LAST_NUMBER d.1;
      revealed = λ n k l at. let r = each_revealed h.state.peer_number h.state.signed h.state.secrets f.0 n k l at in record { secret = r.0; there = r.1; opens = r.2 };
      releases = releases;
      newest = closed_sound h.closed h.state.number g.1;
      expiries = each_expires (terms_in h) h.state.signed g.0;
    }

pub rightful : (h : Holding) (r : Release) → AllByRecursion (IsOnRecorded h) r.claims → list_all (λ x. signed_fits (claim_signed r x)) r.claims ≡ true → IsRightful h r
rightful h r recorded e =
    record { recorded = recorded; signable = each_of (λ (x : ClaimParts). IsSignable (claim_signed r x)) (λ (x : ClaimParts). signed_fits (claim_signed r x)) (λ (x : ClaimParts). signed_sound (claim_signed r x)) r.claims e }

-- two channels, of two funding outputs
pub two_channels : (h g : Holding) → bytes_eq (terms_in h).funding.txid (terms_in g).funding.txid ≡ false → KeepsRules h → KeepsRules g → EachKeepsRules (h ∷ g ∷ [])
two_channels h g differ first second = record { each = (first, (second, tt)); apart = apart }
  where
    never : (terms_in h).funding ≡ (terms_in g).funding → ⊥
    never same = false≢true (sym differ ∙ (bytes_eq-Decides (terms_in h).funding.txid (terms_in g).funding.txid).1 (ap (λ (o : OutPoint). o.txid) same))

    apart : (x y : Holding) → Contains (h ∷ g ∷ []) x → Contains (h ∷ g ∷ []) y → (terms_in x).funding ≡ (terms_in y).funding → x ≡ y
    apart x y (zero, l, i) (zero, m, j) same = sym i ∙ j
    apart x y (zero, l, i) (suc zero, m, j) same = absurd (never (ap (λ (z : Holding). (terms_in z).funding) i ∙ same ∙ sym (ap (λ (z : Holding). (terms_in z).funding) j)))
    apart x y (suc zero, l, i) (zero, m, j) same = absurd (never (sym (ap (λ (z : Holding). (terms_in z).funding) i ∙ same ∙ sym (ap (λ (z : Holding). (terms_in z).funding) j))))
    apart x y (suc zero, l, i) (suc zero, m, j) same = sym i ∙ j
    apart x y (suc (suc n), l, i) d same = absurd (omega (arith, l))
    apart x y c (suc (suc n), m, j) same = absurd (omega (arith, m))

-- ---- a theft

-- a test of each input, with the height of its block
abbrev pub at_each : (ℕ → Transaction → TxIn → Bool) → List Block → Bool
at_each test [] = true
at_each test (b ∷ older) = list_all (λ t. list_all (test (length older) t) t.inputs) b.transactions && at_each test older

on_each : (test : ℕ → Transaction → TxIn → Bool) (blocks : List Block) → at_each test blocks ≡ true → (height : ℕ) (t : Transaction) (input : TxIn) → StandsAt blocks height t → Contains t.inputs input → test height t input ≡ true
on_each test [] e height t input s i = absurd (none_some s.block (sym (slice_get_past [] height (omega arith)) ∙ s.there))
on_each test (b ∷ older) e height t input s i =
    let parts = and_parts (list_all (λ (u : Transaction). list_all (test (length older) u) u.inputs) b.transactions) (at_each test older) e in
    let there : slice_get (reverse older ++ b ∷ []) height ≡ Some s.block = ap (λ xs. slice_get xs height) (sym (reverse_onto older b [])) ∙ s.there in
    ⊎_elim {C = test height t input ≡ true}
    (λ (f : slice_get (reverse older) height ≡ Some s.block). on_each test older parts.1 height t input (record { block = s.block; there = f; within = s.within }) i)
    (λ (r : (height ≡ length (reverse older)) × (b ≡ s.block)).
    let h : length older ≡ height = omega (arith, r.0, length-reverse older) in
    let within : Contains b.transactions t = subst (λ (x : Block). Contains x.transactions t) (sym r.1) s.within in
    let each = all_hold (λ (u : Transaction). list_all (test (length older) u) u.inputs) b.transactions parts.0 t within in
    subst (λ (n : ℕ). test n t input ≡ true) h (all_hold (test (length older) t) t.inputs each input i))
    (last_cases (reverse older) b s.block height there)

abbrev pub releases_by : List Holding → List Release
releases_by hs = flat_map (λ h. h.releases) hs

abbrev pub was_released : List Holding → Transaction → Bool
was_released hs t = list_any (λ r. bytes_eq (transaction_id t) (transaction_id (released r))) (releases_by hs)

shows_release : (hs : List Holding) (t : Transaction) → WasReleased hs t → was_released hs t ≡ true
shows_release hs t w =
    any_holds (λ (r : Release). bytes_eq (transaction_id t) (transaction_id (released r))) (releases_by hs) w.release (flat_in (λ (h : Holding). h.releases) hs w.holding w.release w.held w.among)
    ((bytes_eq-Decides (transaction_id t) (transaction_id (released w.release))).1 (same_id t (released w.release) w.same))

-- an input takes the output; the node did not release its transaction, and this test of how else it may be taken fails
abbrev pub is_theft : List Holding → (ℕ → TxIn → Bool) → Claimable → ℕ → Transaction → TxIn → Bool
is_theft hs fair o height t input = not (same_outpoint input.outpoint o.place.outpoint) || not (was_released hs t || fair height input)

abbrev pub is_stolen : List Holding → List Block → (ℕ → TxIn → Bool) → Claimable → Bool
is_stolen hs blocks fair o = is_named blocks o.place.outpoint && at_each (is_theft hs fair o) blocks

neither : (a b : Bool) → not (a || b) ≡ true → (a ≡ true → ⊥) × (b ≡ true → ⊥)
neither true b e = absurd (false≢true e)
neither false true e = absurd (false≢true e)
neither false false e = ((λ f. false≢true f), (λ f. false≢true f))

stolen : (hs : List Holding) (blocks : List Block) (Lost : Coin → ℕ → TxIn → Type 0) (fair : ℕ → TxIn → Bool) (o : Claimable)
    → ((coin : Coin) → coin_at blocks o.place.outpoint ≡ Some coin → (height : ℕ) (input : TxIn) → Lost coin height input → fair height input ≡ true)
    → is_stolen hs blocks fair o ≡ true → Resolution Breaks hs blocks Lost o → Breaks hs blocks
stolen hs blocks Lost fair o sound e (unspent coin at free) =
    let parts = and_parts (is_named blocks o.place.outpoint) (at_each (is_theft hs fair o) blocks) e in absurd (false≢true (sym free ∙ spent_is blocks o.place.outpoint coin at.there ∙ parts.0))
stolen hs blocks Lost fair o sound e (ours height t input n r) =
    let parts = and_parts (is_named blocks o.place.outpoint) (at_each (is_theft hs fair o) blocks) e in
    let here : same_outpoint input.outpoint o.place.outpoint ≡ true = ap (λ (p : OutPoint). same_outpoint input.outpoint p) (sym n.names) ∙ itself input.outpoint in
    let none = or_then (same_outpoint input.outpoint o.place.outpoint) (not (was_released hs t || fair height input)) here (on_each (is_theft hs fair o) blocks parts.1 height t input n.stands n.within) in
    absurd ((neither (was_released hs t) (fair height input) none).0 (shows_release hs t r))
stolen hs blocks Lost fair o sound e (lost coin at height t input n l) =
    let parts = and_parts (is_named blocks o.place.outpoint) (at_each (is_theft hs fair o) blocks) e in
    let here : same_outpoint input.outpoint o.place.outpoint ≡ true = ap (λ (p : OutPoint). same_outpoint input.outpoint p) (sym n.names) ∙ itself input.outpoint in
    let none = or_then (same_outpoint input.outpoint o.place.outpoint) (not (was_released hs t || fair height input)) here (on_each (is_theft hs fair o) blocks parts.1 height t input n.stands n.within) in
    absurd ((neither (was_released hs t) (fair height input) none).1 (sound coin at.there height input l))
stolen hs blocks Lost fair o sound e (broken b) = b

-- an input shows the preimage of an HTLC that the node offered, or is above the expiry of one that was offered to it
abbrev pub is_fair : Direction → Htlc → ℕ → TxIn → Bool
is_fair Received h height input = list_any (λ x. length x == 32 && bytes_eq (sha256 x) h.hash) input.witness
is_fair Offered h height input = nat_lt h.expiry_height height

abbrev pub paid_or_late : Contents → Claimable → ℕ → TxIn → Bool
paid_or_late c o height input = list_any (λ x. same_outpoint o.place.outpoint (record { txid = id_of c; index = x.index }) && is_fair x.direction x.htlc height input) (htlcs_of c)

on_htlc : (c : Contents) (o : Claimable) (x : HtlcOutput) (height : ℕ) (input : TxIn) → Contains (htlcs_of c) x → o.place.outpoint ≡ record { txid = id_of c; index = x.index } → is_fair x.direction x.htlc height input ≡ true
    → paid_or_late c o height input ≡ true
on_htlc c o x height input i at e =
    let here : same_outpoint o.place.outpoint (record { txid = id_of c; index = x.index }) ≡ true = ap (λ (p : OutPoint). same_outpoint o.place.outpoint p) (sym at) ∙ itself o.place.outpoint in
    any_holds (λ (y : HtlcOutput). same_outpoint o.place.outpoint (record { txid = id_of c; index = y.index }) && is_fair y.direction y.htlc height input) (htlcs_of c) x i
    (both (same_outpoint o.place.outpoint (record { txid = id_of c; index = x.index })) (is_fair x.direction x.htlc height input) here e)

fair_is : (c : Contents) (o : Claimable) (coin : Coin) (height : ℕ) (input : TxIn) → IsPaidOrLate false c o coin height input → paid_or_late c o height input ≡ true
fair_is c o coin height input (paid x on d p) =
    on_htlc c o x height input on.among on.at
    (subst (λ (y : Direction). is_fair y x.htlc height input ≡ true) (sym d)
    (any_holds (λ (y : List ℕ). length y == 32 && bytes_eq (sha256 y) x.htlc.hash) input.witness p.item p.shown
    (both (length p.item == 32) (bytes_eq (sha256 p.item) x.htlc.hash) (eq-eqb (length p.item) 32 p.long) ((bytes_eq-Decides (sha256 p.item) x.htlc.hash).1 p.hashed))))
fair_is c o coin height input (late x on d l) =
    on_htlc c o x height input on.among on.at (subst (λ (y : Direction). is_fair y x.htlc height input ≡ true) (sym d) (lt-ltb x.htlc.expiry_height height l))

-- of a commitment that is not revoked
pub stolen_claim : (hs : List Holding) (blocks : List Block) (c : Contents) (o : Claimable) → is_stolen hs blocks (paid_or_late c o) o ≡ true → Resolution Breaks hs blocks (IsPaidOrLate false c o) o → Breaks hs blocks
stolen_claim hs blocks c o e = stolen hs blocks (IsPaidOrLate false c o) (paid_or_late c o) o (λ coin at height input l. fair_is c o coin height input l) e

-- the delay after a coin is over
abbrev pub has_waited : Option Coin → ℕ → ℕ → TxIn → Bool
has_waited None delay_blocks height input = false
has_waited (Some coin) delay_blocks height input = nat_le (coin.height + delay_blocks) height

slept_is : (blocks : List Block) (c : Contents) (o : Claimable) (coin : Coin) → coin_at blocks o.place.outpoint ≡ Some coin → (height : ℕ) (input : TxIn) → IsSlept c o coin height input
    → has_waited (coin_at blocks o.place.outpoint) c.delay_blocks height input ≡ true
slept_is blocks c o coin at height input l = ap (λ (x : Option Coin). has_waited x c.delay_blocks height input) at ∙ le-leb (coin.height + c.delay_blocks) height l.late

-- of a revoked one
pub stolen_penalty : (hs : List Holding) (blocks : List Block) (c : Contents) (o : Claimable) → is_stolen hs blocks (has_waited (coin_at blocks o.place.outpoint) c.delay_blocks) o ≡ true → Resolution Breaks hs blocks (IsSlept c o) o → Breaks hs blocks
stolen_penalty hs blocks c o e = stolen hs blocks (IsSlept c o) (has_waited (coin_at blocks o.place.outpoint) c.delay_blocks) o (slept_is blocks c o) e
