-- A reader reads back the claim that its writer wrote.
use Rattle.std.proofs.Common.{◌≡◌, ℕ, zero, suc, ◌+◌, ◌*◌, ◌-◌, ◌/◌, ◌%◌, ◌^◌, ◌<◌, ◌≤◌, ◌==◌, if◌then◌else◌, Bool, true, false, List, [], ◌∷◌, ◌++◌, length, take, drop, get_or, map, Option, Some, None, decimal, refl, ap, subst, ◌∙◌, arith, length-append, append_assoc}
use Rattle.std.specs.Prelude.{slice_index}
use Rattle.std.specs.Char.{is_ascii_digit}
use Rattle.std.specs.Result.{result_ok}
use Rattle.std.specs.List.{AllByRecursion}
use Rattle.std.proofs.Math.Seq.{take-append_seam, drop-append-add, get_or-append_seam}
use Rattle.std.proofs.lemmas.Bool.{and_from, and_parts, eqb-true, le-leb, lt-ltb, le-ltb, ne_eqb}
use Rattle.std.proofs.lemmas.Fmt.{decimal_digit, decimal_by_steps, first_decimal, decimal_nonempty}
use Rattle.hex.proofs.HexLemmas.{decode_sized-encode_lower, length-encode_with}
use Rattle.hex.specs.Hex.{IsBytes, decode_sized, encode_lower, lower_digits}
use Rattle.script.specs.Token.{is_key}
use Rattle.script.specs.Spelling.{spelling}
use Rattle.tx.specs.Spelling.{stripped_spelling, IsStripped}
use Rattle.tx.specs.Fields.{Transaction, AreInputs, AreOutputs, KeepsLimits, has_witness, unsigned_inputs}
use Rattle.tx.specs.declared.input.OutPoint.{OutPoint}
use Rattle.tx.specs.declared.input.TxIn.{TxIn}
use Rattle.tx.proofs.Whole.{stripped_again}
use Rattle.serde_json.specs.Data.{Data}
use Rattle.serde_json.specs.View.{items_of}
use Rattle.keys.specs.declared.compressed.Key.{Key}
use Rattle.claim.specs.Claims.{ClaimParts, IsBare}
use Rattle.claim.specs.declared.parts.WitnessItem.{WitnessItem}
use Rattle.claim.specs.declared.parts.Slot.TheVariants.{Sig, Preimage, Exact}
use Rattle.claim.specs.declared.parts.Shell.{Shell}
use Rattle.claim.specs.declared.parts.Shell.TheVariants.{Open, Fixed}
use Rattle.claim.specs.Opcodes.{◌>>=◌}
use Rattle.texts.specs.Values.{below, bytes_of, bytes_of_len, each_of}
use Rattle.texts.specs.Keys.{key_of}
use Rattle.texts.specs.Outpoints.{digits_from, index_in, outpoint_in, outpoint_of}
use Rattle.texts.specs.Claims.{sig_of, preimage_of, exact_of, slot_named, slot_of, witness_item_of, shell_of, claim_of}
use Rattle.texts.specs.Writing.{bytes_data}
use Rattle.texts.specs.ClaimWriting.{plain_claim, outpoint_data, slot_data, shell_data, claim_data, IsSlot, OutpointsComeBack, SlotsComeBack, ShellsComeBack, ClaimsComeBack}
use Rattle.texts.proofs.Returning.{hash_back, bytes_back, sized_back}
use Rattle.texts.proofs.SameKeys.{key_found}
use Rattle.texts.proofs.SameItems.{item_found}

-- ---- decimal digits

-- the second step goes through a test and a first step
through : (test : Bool) (o : Option ℕ) (f g h : ℕ → Option ℕ) → ((m : ℕ) → f m ≡ (g m >>= h)) → (if test then (o >>= f) else None) ≡ ((if test then (o >>= g) else None) >>= h)
through true (Some m) f g h same = same m
through true None f g h same = refl
through false o f g h same = refl

one_more : (n : ℕ) (ds : List ℕ) (c : ℕ) → digits_from n (ds ++ c ∷ []) ≡ (digits_from n ds >>= (λ m. digits_from m (c ∷ [])))
unfolding digits_from
one_more n [] c = refl
one_more n (d ∷ ds) c =
    through (is_ascii_digit d) (below (2 ^ 32) (n * 10 + (d - 48))) (λ m. digits_from m (ds ++ c ∷ [])) (λ m. digits_from m ds) (λ m. digits_from m (c ∷ []))
    (λ m. one_more m ds c)

last_digit : (n d : ℕ) → d < 10 → n * 10 + d < 2 ^ 32 → digits_from n ((48 + d) ∷ []) ≡ Some (n * 10 + d)
unfolding digits_from
last_digit n d digit lt =
    let low : 48 ≤ 48 + d = omega arith in
    let high : 48 + d ≤ 57 = omega arith in
    let is_digit : is_ascii_digit (48 + d) ≡ true = and_from _ _ (le-leb 48 (48 + d) low) (le-leb (48 + d) 57 high) in
    let value : 48 + d - 48 ≡ d = omega arith in
    rw (is_digit, value, lt-ltb _ _ lt) refl

digits_back : (n : ℕ) → n < 2 ^ 32 → digits_from 0 (decimal n) ≡ Some n
digits_back n lt = decimal_by_steps (λ m ds. m < 2 ^ 32 → digits_from 0 ds ≡ Some m) one more n (omega arith) lt
  where
    one : (m : ℕ) → m < 10 → m < 2 ^ 32 → digits_from 0 ((48 + m) ∷ []) ≡ Some m
    one m digit small = let same : 0 * 10 + m ≡ m = omega arith in last_digit 0 m digit (omega arith) ∙ ap Some same

    more : (m : ℕ) (ds : List ℕ) → 10 ≤ m → (m / 10 < 2 ^ 32 → digits_from 0 ds ≡ Some (m / 10)) → m < 2 ^ 32 → digits_from 0 (ds ++ ((48 + m % 10) ∷ [])) ≡ Some m
    more m ds two before small =
        let front = before (omega arith) in
        let whole : m / 10 * 10 + m % 10 ≡ m = omega arith in
        one_more 0 ds (48 + m % 10) ∙ rw front (last_digit (m / 10) (m % 10) (omega arith) (omega arith)) ∙ ap Some whole

-- no leading zero
index_is : (ds : List ℕ) → 0 < length ds → (get_or ds 0 0 ≡ 48 → length ds ≡ 1) → index_in ds ≡ digits_from 0 ds
index_is [] some lead = absurd (omega arith)
index_is (c ∷ []) some lead = refl
index_is (c ∷ d ∷ ds) some lead = rw (ne_eqb c 48 (λ e. omega (arith, lead e))) refl

one_zero : (n : ℕ) → n < 2 ^ 32 → get_or (decimal n) 0 0 ≡ 48 → length (decimal n) ≡ 1
one_zero zero lt e = rw (decimal_digit 0 (omega arith)) refl
one_zero (suc n) lt e = absurd (omega (arith, first_decimal (suc n) (omega arith) (omega arith)))

index_back : (n : ℕ) → n < 2 ^ 32 → index_in (decimal n) ≡ Some n
index_back n lt = index_is (decimal n) (decimal_nonempty n (omega arith)) (one_zero n lt) ∙ digits_back n lt

-- ---- outpoints

text_back : (id digits txid : List ℕ) (index : ℕ) → length id ≡ 64 → result_ok (decode_sized id 32) ≡ Some txid → index_in digits ≡ Some index
    → outpoint_in (id ++ 58 ∷ digits) ≡ Some (record { txid = txid; index = index })
unfolding outpoint_in
text_back id digits txid index len hex read =
    let colon : slice_index (id ++ 58 ∷ digits) 64 ≡ 58 = rw len at (get_or-append_seam id 58 digits 0) in
    let front : take 64 (id ++ 58 ∷ digits) ≡ id = rw len at (take-append_seam id (58 ∷ digits)) in
    let back : drop 65 (id ++ 58 ∷ digits) ≡ digits = rw len at (drop-append-add id (58 ∷ digits) 1) in
    let long : 65 ≤ length (id ++ 58 ∷ digits) = omega (arith, len, length-append id (58 ∷ digits)) in
    rw (le-ltb _ _ long, colon, front, back, hex, read) refl

pub outpoint_again : (o : OutPoint) → length o.txid ≡ 32 → IsBytes o.txid → o.index < 2 ^ 32 → outpoint_of (outpoint_data o) ≡ Some o
unfolding outpoint_data
outpoint_again o len each lt =
    let digits = length-encode_with lower_digits o.txid in
    ap outpoint_in (append_assoc (encode_lower o.txid) (58 ∷ []) (decimal o.index))
    ∙ text_back (encode_lower o.txid) (decimal o.index) o.txid o.index (omega (arith, len, digits)) (ap result_ok (decode_sized-encode_lower o.txid 32 len each)) (index_back o.index lt)

pub outpoints_come_back : OutpointsComeBack
outpoints_come_back o ((len, each), lt) = outpoint_again o len each lt

-- ---- slots and shells

key_length : (k : Key) → length k.bytes ≡ 33
unfolding is_key
key_length k = eqb-true (length k.bytes) 33 (and_parts (length k.bytes == 33) _ k.form).0

pub key_again : (k : Key) → bytes_of_len (length k.bytes) (bytes_data k.bytes) ≡ Some k.bytes → key_of (bytes_data k.bytes) ≡ Some k
key_again k back =
    let read : bytes_of_len 33 (bytes_data k.bytes) ≡ Some k.bytes = subst (λ n. bytes_of_len n (bytes_data k.bytes) ≡ Some k.bytes) (key_length k) back in
    rw read (key_found k k.bytes refl)

pub key_back : (k : Key) → IsBytes k.bytes → key_of (bytes_data k.bytes) ≡ Some k
key_back k each = key_again k (sized_back k.bytes each)

pub item_again : (w : WitnessItem) → bytes_of (bytes_data w.item) ≡ Some w.item → witness_item_of (bytes_data w.item) ≡ Some w
item_again w back = rw back (item_found w w.item refl)

pub sig_again : (k : Key) → key_of (bytes_data k.bytes) ≡ Some k → slot_of (slot_data (Sig k)) ≡ Some (Sig k)
unfolding sig_of slot_named slot_of slot_data
sig_again k back = rw back refl

pub preimage_again : (hash : List ℕ) → bytes_of_len 32 (bytes_data hash) ≡ Some hash → slot_of (slot_data (Preimage hash)) ≡ Some (Preimage hash)
unfolding preimage_of slot_named slot_of slot_data
preimage_again hash back = rw back refl

pub exact_again : (w : WitnessItem) → witness_item_of (bytes_data w.item) ≡ Some w → slot_of (slot_data (Exact w)) ≡ Some (Exact w)
unfolding exact_of slot_named slot_of slot_data
exact_again w back = rw back refl

pub slots_come_back : SlotsComeBack
slots_come_back (Sig key) each = sig_again key (key_back key each)
slots_come_back (Preimage hash) h = preimage_again hash (hash_back hash h)
slots_come_back (Exact bytes) each = exact_again bytes (item_again bytes (bytes_back bytes.item each))

-- the fixed transaction keeps the limits and has no witness item
pub shell_again : (t : Transaction) → KeepsLimits t → has_witness t.inputs ≡ false → bytes_of (bytes_data (stripped_spelling t)) ≡ Some (stripped_spelling t)
    → shell_of (shell_data (Fixed t)) ≡ Some (Fixed t)
unfolding shell_of shell_data
shell_again t limits none back =
    let is : IsStripped t (stripped_spelling t) = record { limits = limits; unsigned = none; spelled = refl } in
    rw (back, stripped_again t (stripped_spelling t) is) refl

-- inputs without their witnesses have no witness item
none_left : (inputs : List TxIn) → has_witness (unsigned_inputs inputs) ≡ false
none_left [] = refl
none_left (i ∷ inputs) = none_left inputs

abbrev fixed_or : Transaction → Shell → Transaction
fixed_or t Open = t
fixed_or t (Fixed u) = u

pub bare_again : (t : Transaction) → t.version < 2 ^ 32 → 0 < length t.inputs → AreInputs t.inputs → AreOutputs t.outputs → t.lock_time < 2 ^ 32
    → bytes_of (bytes_data (stripped_spelling t)) ≡ Some (stripped_spelling t) → IsBare (Fixed t) → shell_of (shell_data (Fixed t)) ≡ Some (Fixed t)
bare_again t version some inputs outputs lock_time back bare =
    let same : t.inputs ≡ unsigned_inputs t.inputs = ap (λ s. (fixed_or t s).inputs) bare in
    let limits : KeepsLimits t = record { version = version; some_input = some; inputs = inputs; outputs = outputs; lock_time = lock_time } in
    shell_again t limits (ap has_witness same ∙ none_left t.inputs) back

pub open_again : shell_of (shell_data Open) ≡ Some Open
unfolding shell_of shell_data
open_again = refl

pub shells_come_back : ShellsComeBack
unfolding shell_of shell_data
shells_come_back Open h = refl
shells_come_back (Fixed t) (spelt, each) = shell_again t spelt.limits spelt.unsigned (bytes_back (stripped_spelling t) each)

-- ---- lists

-- each value is read back as its image under f
pub each_again : {A B : Type 0} (writes : A → Data) (reads : Data → Option B) (f : A → B) (xs : List A) → AllByRecursion (λ x. reads (writes x) ≡ Some (f x)) xs
    → each_of reads (items_of (map writes xs)) ≡ Some (map f xs)
each_again writes reads f [] h = refl
each_again writes reads f (x ∷ xs) h = rw (h.0, each_again writes reads f xs h.1) refl

-- each value is read back as the same
pub same_again : {A : Type 0} (writes : A → Data) (reads : Data → Option A) (xs : List A) → AllByRecursion (λ x. reads (writes x) ≡ Some x) xs
    → each_of reads (items_of (map writes xs)) ≡ Some xs
same_again writes reads [] h = refl
same_again writes reads (x ∷ xs) h = rw (h.0, same_again writes reads xs h.1) refl

pub all_by : {A : Type 0} (P Q : A → Type 0) → ((x : A) → P x → Q x) → (xs : List A) → AllByRecursion P xs → AllByRecursion Q xs
all_by P Q f [] h = h
all_by P Q f (x ∷ xs) h = (f x h.0, all_by P Q f xs h.1)

-- ---- claims

pub claim_again : (c : ClaimParts) → outpoint_of (outpoint_data c.place.outpoint) ≡ Some c.place.outpoint → bytes_of (bytes_data c.place.program) ≡ Some c.place.program
    → bytes_of (bytes_data (spelling c.ways.ops)) ≡ Some (spelling c.ways.ops) → AllByRecursion (λ s. slot_of (slot_data s) ≡ Some s) c.slots
    → shell_of (shell_data c.shell) ≡ Some c.shell → claim_of (claim_data c) ≡ Some (plain_claim c)
unfolding claim_of claim_data
claim_again c outpoint program script slots shell = rw (outpoint, program, script, same_again slot_data slot_of c.slots slots, shell) refl

pub claims_come_back : ClaimsComeBack
claims_come_back c h =
    claim_again c (outpoints_come_back c.place.outpoint h.outpoint) (bytes_back c.place.program h.program) (bytes_back (spelling c.ways.ops) h.script)
    (all_by IsSlot (λ s. slot_of (slot_data s) ≡ Some s) slots_come_back c.slots h.slots) (shells_come_back c.shell h.shell)
