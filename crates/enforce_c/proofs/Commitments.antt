-- HTLCs that are read one by one, as their rows say.
use Rattle.std.proofs.Common.{◌≡◌, ◌<◌, ◌≤◌, ◌+◌, ℕ, List, [], ◌∷◌, ◌++◌, length, take, drop, get_or, subst, sym, ap, ◌∙◌, refl}
use Rattle.std.specs.Prelude.{Option, Some, None, Bool, true, false, nat_lt, if◌then◌else◌}
use Rattle.std.proofs.lemmas.Bool.{lt-ltb, le-ltb}
use Rattle.std.proofs.lemmas.List.{take_more, take_all, drop_more}
use Rattle.script.specs.declared.limits.TheConstants.{LOCKTIME_THRESHOLD}
use Rattle.forms.specs.declared.parameters.Expiry.{Expiry}
use Rattle.commit.specs.declared.fees.Direction.{Direction}
use Rattle.revoked.specs.declared.outputs.RevokedHtlc.{RevokedHtlc}
use Rattle.enforce_c.specs.declared.commitment_rows.HtlcRow.{HtlcRow}
use Rattle.enforce_c.specs.declared.statuses.Refusal.{Refusal}
use Rattle.enforce_c.specs.declared.statuses.Refusal.TheVariants.{ExpiryTooLarge}
use Rattle.enforce_c.specs.Claimed.{or_then}
use Rattle.enforce_c.specs.Spent.{UnlessMemory}
use Rattle.enforce_c.specs.Commitments.{direction_fault, IsDirection, htlc_fault, htlcs_fault, IsHtlcOf, AreHtlcsOf}
use Rattle.enforce_c.proofs.Spends.{unless_memory}

-- ---- an HTLC

abbrev by_expiry : HtlcRow → ℕ → Bool → Option Refusal
by_expiry row index low = if low then None else Some (ExpiryTooLarge index)

fault_by : (row : HtlcRow) (index : ℕ) (low : Bool) → direction_fault row.direction index ≡ None → nat_lt row.expiry_height LOCKTIME_THRESHOLD ≡ low → htlc_fault row index ≡ by_expiry row index low
fault_by row index low none is = ap (λ d. or_then d (by_expiry row index (nat_lt row.expiry_height LOCKTIME_THRESHOLD))) none ∙ ap (by_expiry row index) is

pub no_direction : (row : HtlcRow) (index : ℕ) (e : Refusal) → direction_fault row.direction index ≡ Some e → htlc_fault row index ≡ Some e
no_direction row index e is = ap (λ d. or_then d (by_expiry row index (nat_lt row.expiry_height LOCKTIME_THRESHOLD))) is

pub no_expiry : (row : HtlcRow) (index : ℕ) → direction_fault row.direction index ≡ None → LOCKTIME_THRESHOLD ≤ row.expiry_height → htlc_fault row index ≡ Some (ExpiryTooLarge index)
no_expiry row index none high = fault_by row index false none (le-ltb row.expiry_height LOCKTIME_THRESHOLD high)

pub is_htlc : (row : HtlcRow) (index : ℕ) (d : Direction) (expiry : Expiry) → direction_fault row.direction index ≡ None → IsDirection row.direction d → expiry.height ≡ row.expiry_height
    → (htlc_fault row index ≡ None) × IsHtlcOf row (record { direction = d; hash = row.hash; expiry = expiry })
is_htlc row index d expiry none is same =
    let below : row.expiry_height < LOCKTIME_THRESHOLD = subst (λ n. n < LOCKTIME_THRESHOLD) same expiry.low in
    (fault_by row index true none (lt-ltb row.expiry_height LOCKTIME_THRESHOLD below), record { direction = is; hash = refl; expiry = same })

-- ---- HTLCs

htlcs_more : (rows : List HtlcRow) (hs : List RevokedHtlc) (row : HtlcRow) (h : RevokedHtlc) → AreHtlcsOf rows hs → IsHtlcOf row h → AreHtlcsOf (rows ++ row ∷ []) (hs ++ h ∷ [])
htlcs_more [] [] row h all here = (here, tt)
htlcs_more [] (other ∷ hs) row h all here = absurd all
htlcs_more (one ∷ rows) [] row h all here = absurd all
htlcs_more (one ∷ rows) (other ∷ hs) row h all here = (all.0, htlcs_more rows hs row h all.1 here)

pub htlcs_next : (rows : List HtlcRow) (i : ℕ) (d row : HtlcRow) (old : List RevokedHtlc) (h : RevokedHtlc) → i < length rows → row ≡ get_or rows i d → AreHtlcsOf (take i rows) old → IsHtlcOf row h
    → AreHtlcsOf (take (i + 1) rows) (old ++ h ∷ [])
htlcs_next rows i d row old h l e all here =
    let more : take i rows ++ row ∷ [] ≡ take (i + 1) rows = ap (λ r. take i rows ++ r ∷ []) e ∙ sym (take_more rows i d l) in
    subst (λ rs. AreHtlcsOf rs (old ++ h ∷ [])) more (htlcs_more (take i rows) old row h all here)

pub htlcs_all : (rows : List HtlcRow) (i : ℕ) (hs : List RevokedHtlc) → length rows ≤ i → AreHtlcsOf (take i rows) hs → AreHtlcsOf rows hs
htlcs_all rows i hs l all = subst (λ rs. AreHtlcsOf rs hs) (take_all i rows l) all

-- the faults of the rows that are left, by the next one
left : (rows : List HtlcRow) (i : ℕ) (d row : HtlcRow) → i < length rows → row ≡ get_or rows i d → htlcs_fault i (drop i rows) ≡ or_then (htlc_fault row i) (htlcs_fault (i + 1) (drop (i + 1) rows))
left rows i d row h e = ap (htlcs_fault i) (drop_more rows i d h) ∙ ap (λ r. or_then (htlc_fault r i) (htlcs_fault (i + 1) (drop (i + 1) rows))) (sym e)

pub faultless_next : (rows : List HtlcRow) (i : ℕ) (d row : HtlcRow) → i < length rows → row ≡ get_or rows i d → htlc_fault row i ≡ None → htlcs_fault i (drop i rows) ≡ htlcs_fault 0 rows → htlcs_fault (i + 1) (drop (i + 1) rows) ≡ htlcs_fault 0 rows
faultless_next rows i d row h e none whole =
    let rest = htlcs_fault (i + 1) (drop (i + 1) rows) in
    sym (ap (λ f. or_then f rest) none) ∙ sym (left rows i d row h e) ∙ whole

pub fault_here : (rows : List HtlcRow) (i : ℕ) (d row : HtlcRow) (e : Refusal) → i < length rows → row ≡ get_or rows i d → htlc_fault row i ≡ Some e → htlcs_fault i (drop i rows) ≡ htlcs_fault 0 rows → UnlessMemory e (htlcs_fault 0 rows ≡ Some e)
fault_here rows i d row e h same is whole =
    let rest = htlcs_fault (i + 1) (drop (i + 1) rows) in
    unless_memory e (htlcs_fault 0 rows ≡ Some e) (sym whole ∙ left rows i d row h same ∙ ap (λ x. or_then x rest) is)
