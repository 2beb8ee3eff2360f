-- Each deduction has a bound, where the feerate and the dust limit have one.
use Rattle.std.proofs.Common.{◌≡◌, ℕ, ◌+◌, ◌-◌, ◌*◌, ◌/◌, ◌%◌, ◌≤◌, ◌<◌, min, Bool, true, false, not, List, [], ◌∷◌, length, suc, refl, arith}
use Rattle.std.specs.Prelude.{if◌then◌else◌, nat_lt}
use Rattle.std.specs.List.{All, filter}
use Rattle.std.proofs.lemmas.Bool.{ltb-true}
use Rattle.std.proofs.lemmas.Nat.{mul-le}
use Rattle.std.proofs.lemmas.List.Sums.{sum_by-cons, sum_by-le, length-filter, count_by-le-length}
use Rattle.std.proofs.lemmas.List.Elements.{All-weaker, filter_passes}
use Rattle.terms.specs.declared.htlcs.Htlc.{Htlc}
use Rattle.terms.specs.declared.sides.Side.{Side}
use Rattle.terms.specs.declared.sides.Side.TheVariants.{A, B}
use Rattle.terms.specs.declared.agreement.Terms.{Terms}
use Rattle.terms.specs.declared.views.View.{View}
use Rattle.commit.specs.declared.fees.Direction.{Direction}
use Rattle.commit.specs.declared.fees.Direction.TheVariants.{Offered, Received}
use Rattle.commit.specs.Fees.{satoshis_of, fee_sat_of, commitment_weight, htlc_weight, is_trimmed_by}
use Rattle.commit.specs.Amounts.{owed_sat_by}
use Rattle.commit.specs.Sums.{dust_sat_of, trimmed_sat, rests_msat_of}
use Rattle.worth_laws.specs.Shares.{Deductions, deducted_msat, owner_by, offered_by, known_to, untrimmed_count, whole_fee_sat, direction_of_mine, direction_of_theirs, IsLess, SharesAreWorth, together, none_known, AllIsTheCapacity}
use Rattle.worth_laws.specs.Bounds.{htlc_count, AreAtMost, DeductionsAreBounded, AllAreBounded, LittleIsTakenOff, LittleOfAllIsTakenOff}

-- ---- fees

pub more_fee : (weight feerate more higher : ℕ) → weight ≤ more → feerate ≤ higher → fee_sat_of weight feerate ≤ fee_sat_of more higher
more_fee weight feerate more higher l m = let p = mul-le weight feerate more higher l m in divided _ _ p
  where
    divided : (a b : ℕ) → a ≤ b → a / 1000 ≤ b / 1000
    divided a b l = omega (arith, l)

fewer : (p : Htlc → Bool) (hs : List Htlc) → length (filter p hs) ≤ length hs
fewer p hs = let a = length-filter p hs in let b = count_by-le-length p hs in omega (arith, a, b)

fewer_untrimmed : (terms : Terms) (view : View) (owner : Side) → untrimmed_count terms view owner ≤ htlc_count view
fewer_untrimmed terms view A =
    both _ _ _ _ (fewer (λ h. not (is_trimmed_by terms.a.dust_sat view.feerate_per_kw Offered h)) view.a.offered) (fewer (λ h. not (is_trimmed_by terms.a.dust_sat view.feerate_per_kw Received h)) view.b.offered)
  where
    both : (a b m n : ℕ) → a ≤ m → b ≤ n → a + b ≤ m + n
    both a b m n l r = omega arith
fewer_untrimmed terms view B =
    both _ _ _ _ (fewer (λ h. not (is_trimmed_by terms.b.dust_sat view.feerate_per_kw Offered h)) view.b.offered) (fewer (λ h. not (is_trimmed_by terms.b.dust_sat view.feerate_per_kw Received h)) view.a.offered)
  where
    both : (a b m n : ℕ) → a ≤ m → b ≤ n → a + b ≤ n + m
    both a b m n l r = omega arith

whole_fee : (terms : Terms) (view : View) (owner : Side) (feerate_per_kw : ℕ) → view.feerate_per_kw ≤ feerate_per_kw → whole_fee_sat terms view owner ≤ fee_sat_of (commitment_weight (htlc_count view)) feerate_per_kw
whole_fee terms view owner feerate_per_kw l = more_fee _ _ _ _ (heavier _ _ (fewer_untrimmed terms view owner)) l
  where
    heavier : (a b : ℕ) → a ≤ b → 724 + 172 * a ≤ 724 + 172 * b
    heavier a b l = omega arith

owed_more : (me opener : Side) (fee more balance : ℕ) → fee ≤ more → min (owed_sat_by me opener fee) balance ≤ owed_sat_by me opener more
owed_more A A fee more balance l = omega arith
owed_more A B fee more balance l = omega arith
owed_more B A fee more balance l = omega arith
owed_more B B fee more balance l = omega arith

-- ---- dust

below : (value limit_sat more : ℕ) → limit_sat ≤ more → dust_sat_of limit_sat value ≤ more - 1
below value limit_sat more l = by (nat_lt value limit_sat) refl
  where
    by : (b : Bool) → nat_lt value limit_sat ≡ b → (if b then value else 0) ≤ more - 1
    by true e = let v : value < limit_sat = ltb-true value limit_sat e in omega (arith, v, l)
    by false e = omega arith

-- ---- HTLCs without an output

pub lighter : (direction : Direction) → htlc_weight direction ≤ htlc_weight Received
lighter Offered = omega arith
lighter Received = omega arith

module _ (limit_sat feerate_per_kw more_sat higher : ℕ) (l : limit_sat ≤ more_sat) (m : feerate_per_kw ≤ higher) (direction : Direction) where
  abbrev most : ℕ
  most = more_sat + fee_sat_of (htlc_weight Received) higher - 1

  one_trimmed : (h : Htlc) → is_trimmed_by limit_sat feerate_per_kw direction h ≡ true → satoshis_of h.amount_msat ≤ most
  one_trimmed h e =
      within _ _ _ (ltb-true (satoshis_of h.amount_msat) (limit_sat + fee_sat_of (htlc_weight direction) feerate_per_kw) e) (more_fee (htlc_weight direction) feerate_per_kw (htlc_weight Received) higher (lighter direction) m)
    where
      within : (value fee more : ℕ) → value < limit_sat + fee → fee ≤ more → value ≤ more_sat + more - 1
      within value fee more a b = omega (arith, a, b, l)

  trimmed_below : (hs : List Htlc) → trimmed_sat limit_sat feerate_per_kw direction hs ≤ length hs * most
  trimmed_below hs =
      let p : Htlc → Bool = is_trimmed_by limit_sat feerate_per_kw direction in
      let each : All (λ h. satoshis_of h.amount_msat ≤ most) (filter p hs) = All-weaker (λ h. p h ≡ true) (λ h. satoshis_of h.amount_msat ≤ most) one_trimmed (filter p hs) (filter_passes p hs) in
      let sum = sum_by-le (λ (h : Htlc). satoshis_of h.amount_msat) most (filter p hs) each in
      let many = mul-le (length (filter p hs)) most (length hs) most (fewer p hs) (omega arith) in
      through _ _ _ sum many
    where
      through : (a b c : ℕ) → a ≤ b → b ≤ c → a ≤ c
      through a b c l m = omega arith

-- ---- what is rounded off

rests_below : (hs : List Htlc) → rests_msat_of hs ≤ length hs * 999
rests_below [] = omega arith
rests_below (h ∷ hs) = let a = sum_by-cons (λ (x : Htlc). x.amount_msat % 1000) h hs in more h.amount_msat _ _ _ a (rests_below hs)
  where
    more : (amount_msat sum rest many : ℕ) → sum ≡ amount_msat % 1000 + rest → rest ≤ many * 999 → sum ≤ suc many * 999
    more amount_msat sum rest many a b = omega arith

-- ---- all of them

pub deductions_are_bounded : DeductionsAreBounded
deductions_are_bounded terms view own me known feerate_per_kw limit_sat w = record {
  fee = owed_more me terms.opener _ _ _ (whole_fee terms view (owner_by own me) feerate_per_kw w.feerate);
  dust = below _ _ _ w.limit;
  trimmed =
      both _ _ (length (offered_by me view)) (length (known_to known me view)) _
      (trimmed_below _ _ limit_sat feerate_per_kw w.limit w.feerate (direction_of_mine own) (offered_by me view))
      (trimmed_below _ _ limit_sat feerate_per_kw w.limit w.feerate (direction_of_theirs own) (known_to known me view));
  rest = three _ _ _ _ _ (rests_below (offered_by me view)) (rests_below (known_to known me view));
}
  where
    both : (a b m n most : ℕ) → a ≤ m * most → b ≤ n * most → a + b ≤ (m + n) * most
    both a b m n most l r = grind (arith, l, r)

    three : (balance_msat a b m n : ℕ) → a ≤ m * 999 → b ≤ n * 999 → balance_msat % 1000 + a + b ≤ (1 + (m + n)) * 999
    three balance_msat a b m n l r = omega arith

-- ---- of both sides

both_at_most : (d e f g : Deductions) → AreAtMost d e → AreAtMost f g → AreAtMost (together d f) (together e g)
both_at_most d e f g a b = record {
  fee = sum _ _ _ _ a.fee b.fee;
  dust = sum _ _ _ _ a.dust b.dust;
  trimmed = sum _ _ _ _ a.trimmed b.trimmed;
  rest = sum _ _ _ _ a.rest b.rest;
}
  where
    sum : (a b m n : ℕ) → a ≤ m → b ≤ n → a + b ≤ m + n
    sum a b m n l r = omega arith

pub all_are_bounded : AllAreBounded
all_are_bounded terms view A feerate_per_kw limit_sat w =
    both_at_most _ _ _ _ (deductions_are_bounded terms view true A none_known feerate_per_kw limit_sat w) (deductions_are_bounded terms view false B none_known feerate_per_kw limit_sat w)
all_are_bounded terms view B feerate_per_kw limit_sat w =
    both_at_most _ _ _ _ (deductions_are_bounded terms view true B none_known feerate_per_kw limit_sat w) (deductions_are_bounded terms view false A none_known feerate_per_kw limit_sat w)

at_most : (d e : Deductions) (satoshis whole_msat : ℕ) → AreAtMost d e → IsLess whole_msat d satoshis → whole_msat ≤ 1000 * satoshis + deducted_msat e
at_most d e satoshis whole_msat a i = least _ _ _ _ _ _ _ _ i a.fee a.dust a.trimmed a.rest
  where
    least : (fee dust trimmed rest fees dusts trims rests : ℕ) → 1000 * satoshis + (1000 * (fee + dust + trimmed) + rest) ≡ whole_msat → fee ≤ fees → dust ≤ dusts → trimmed ≤ trims → rest ≤ rests
        → whole_msat ≤ 1000 * satoshis + (1000 * (fees + dusts + trims) + rests)
    least _ _ _ _ _ _ _ _ a b c d e = omega (arith, a, b, c, d, e)

pub little_is_taken_off : SharesAreWorth → LittleIsTakenOff
little_is_taken_off law terms view own me n point known feerate_per_kw limit_sat w =
    at_most _ _ _ _ (deductions_are_bounded terms view own me known feerate_per_kw limit_sat w) (law terms view own me n point known)

pub little_of_all_is_taken_off : AllIsTheCapacity → LittleOfAllIsTakenOff
little_of_all_is_taken_off law terms view owner n point feerate_per_kw limit_sat w whole =
    at_most _ _ _ _ (all_are_bounded terms view owner feerate_per_kw limit_sat w) (law terms view owner n point whole)
