-- The slots of each kind of claim meet its path.
use Rattle.std.proofs.Common.{◌≡◌, ◌≢◌, ℕ, ◌/◌, ◌%◌, ◌^◌, ◌<◌, true, false, not, List, [], ◌∷◌, map, length, Option, Some, None, Ok, Err, sym, ap, ◌∙◌, refl, subst, arith}
use Rattle.std.specs.Prelude.{slice_get}
use Rattle.std.specs.Str.{bytes_eq}
use Rattle.std.specs.List.{list_all}
use Rattle.std.proofs.lemmas.Slice.Eq.{bytes_eq-Decides}
use Rattle.std.proofs.lemmas.Bool.{eq-eqb, lt-ltb, ne_eqb, and_parts, false_from_ne_true}
use Rattle.sha2.proofs.Facts256.{length-sha256}
use Rattle.digest.specs.Hash.{hash160}
use Rattle.digest.specs.Ripemd160.{ripemd160}
use Rattle.script.specs.Spelling.{spelling}
use Rattle.script.specs.Step.{result_if, bit_at}
use Rattle.script.specs.Token.{token_of, is_key}
use Rattle.tx.specs.Fields.{Transaction}
use Rattle.std.specs.Option.{option_map}
use Rattle.sighash.specs.Signing.{sighash, signed_list}
use Rattle.tx.specs.declared.input.TxIn.{TxIn}
use Rattle.claim.proofs.TokenForms.{token-signature}
use Rattle.digest.specs.Hash.{sha256d}
use Rattle.keys.specs.declared.compressed.Key.{Key}
use Rattle.facts.specs.Symbols.{Stated}
use Rattle.facts.specs.Sameness.{contradicts}
use Rattle.paths.specs.declared.state.Path.{Path}
use Rattle.paths.specs.Listing.{CheckedScript}
use Rattle.claim.specs.declared.parts.Slot.{Slot}
use Rattle.claim.specs.declared.parts.Slot.TheVariants.{Sig, Preimage, Exact}
use Rattle.claim.specs.declared.parts.WitnessItem.{WitnessItem}
use Rattle.claim.specs.declared.parts.Place.{Place}
use Rattle.claim.specs.declared.parts.Shell.{Shell}
use Rattle.claim.specs.declared.parts.Shell.TheVariants.{Fixed}
use Rattle.claim.specs.declared.errors.AcceptError.{AcceptError}
use Rattle.claim.specs.declared.errors.AcceptError.TheVariants.{Unmet, Contradiction}
use Rattle.facts.specs.declared.symbols.FactOver.TheVariants.{Hash}
use Rattle.claim.specs.Judgement.{is_program, is_shell, known_digest, is_met, first_unmet_or, judgement_of}
use Rattle.forms.specs.declared.kinds.ClaimKind.{ClaimKind}
use Rattle.forms.specs.Ways.{no, to_local_ways, key_hash_ways, offered_ways, received_ways}
use Rattle.forms.specs.Fillings.{Filling, Signature, PreimageOf, Bytes, filling_of, fillings_of}
use Rattle.forms.specs.Claims.{Claims, of_penalty, of_delayed, of_offered_penalty, of_received_penalty, of_preimage, of_timeout, of_key, of_htlc_timeout, of_htlc_success, AreAccepted, path_taken_by, Refused, no_timeout, no_preimage, no_htlc_timeout, no_htlc_success, AreRefused}

same_bytes : (x : List ℕ) → bytes_eq x x ≡ true
same_bytes x = (bytes_eq-Decides x x).1 refl

other_bytes : (x y : List ℕ) → x ≢ y → bytes_eq x y ≡ false
other_bytes x y h = false_from_ne_true (bytes_eq x y) (λ e. h ((bytes_eq-Decides x y).0 e))

-- slots meet the facts of a path, which states no fact with both polarities
record IsMetBy (known : Option (List ℕ)) (slots : List Slot) (p : Path) : Type 0 where
  arity : length slots ≡ p.arity
  free : contradicts p.facts ≡ false
  met : list_all (is_met known slots) p.facts ≡ true

all_met : (known : Option (List ℕ)) (slots : List Slot) (facts : List Stated) (p : Path) → list_all (is_met known slots) facts ≡ true → first_unmet_or known slots facts p ≡ Ok p
all_met known slots [] p e = refl
all_met known slots (s ∷ facts) p e =
    let h = and_parts (is_met known slots s) (list_all (is_met known slots) facts) e in
    let a = h.0 in
    rw a (all_met known slots facts p h.1)

judged : (form : CheckedScript) (index : ℕ) (slots : List Slot) (place : Place) (shell : Shell) (p q : Path) → slice_get form.paths index ≡ Some p → slice_get form.paths index ≡ Some q → is_program (spelling form.ops) place.program ≡ true → is_shell q place shell ≡ true → IsMetBy (known_digest (spelling form.ops) place shell) slots p → judgement_of form index slots place shell ≡ Ok q
unfolding judgement_of
judged form index slots place shell p q at same prog stands m =
    let one : p ≡ q = some_same p q (sym at ∙ same) in
    let n : IsMetBy (known_digest (spelling form.ops) place shell) slots q = subst (IsMetBy (known_digest (spelling form.ops) place shell) slots) one m in
    let a = eq-eqb (length slots) q.arity n.arity in
    let f = n.free in
    rw (same, a, prog, stands, f) (all_met (known_digest (spelling form.ops) place shell) slots q.facts q n.met)
  where
    some_same : (p q : Path) → Some p ≡ Some q → p ≡ q
    some_same p q e = cc

-- what fills a slot, by its parts
record IsBytes (x : Slot) (b : List ℕ) : Type 0 where
  item : WitnessItem
  slot : x ≡ Exact item
  bytes : item.item ≡ b

is_bytes : (x : Slot) (b : List ℕ) → filling_of x ≡ Bytes b → IsBytes x b
is_bytes (Exact w) b e = record { item = w; slot = refl; bytes = cc }
is_bytes (Sig k) b e = absurd (cc)
is_bytes (Preimage h) b e = absurd (cc)

record IsSignature (x : Slot) (b : List ℕ) : Type 0 where
  key : Key
  slot : x ≡ Sig key
  bytes : key.bytes ≡ b

is_signed : (x : Slot) (b : List ℕ) → filling_of x ≡ Signature b → IsSignature x b
is_signed (Sig k) b e = record { key = k; slot = refl; bytes = cc }
is_signed (Exact w) b e = absurd (cc)
is_signed (Preimage h) b e = absurd (cc)

is_preimage : (x : Slot) (h : List ℕ) → filling_of x ≡ PreimageOf h → x ≡ Preimage h
is_preimage (Preimage g) h e = ap Preimage (cc)
is_preimage (Sig k) b e = absurd (cc)
is_preimage (Exact w) b e = absurd (cc)

record AreTwo (slots : List Slot) (a b : Filling) : Type 0 where
  first : Slot
  second : Slot
  same : slots ≡ first ∷ second ∷ []
  top : filling_of first ≡ a
  below : filling_of second ≡ b

two : (slots : List Slot) (a b : Filling) → map filling_of slots ≡ a ∷ b ∷ [] → AreTwo slots a b
two (x ∷ y ∷ []) a b e = record { first = x; second = y; same = refl; top = cc; below = cc }
two [] a b e = absurd (cc)
two (x ∷ []) a b e = absurd (cc)
two (x ∷ y ∷ z ∷ xs) a b e = absurd (cc)

record AreFour (slots : List Slot) (a b c d : Filling) : Type 0 where
  first : Slot
  second : Slot
  third : Slot
  fourth : Slot
  same : slots ≡ first ∷ second ∷ third ∷ fourth ∷ []
  top : filling_of first ≡ a
  below : filling_of second ≡ b
  next : filling_of third ≡ c
  last : filling_of fourth ≡ d

four : (slots : List Slot) (a b c d : Filling) → map filling_of slots ≡ a ∷ b ∷ c ∷ d ∷ [] → AreFour slots a b c d
four (x ∷ y ∷ z ∷ w ∷ []) a b c d e = record { first = x; second = y; third = z; fourth = w; same = refl; top = cc; below = cc; next = cc; last = cc }
four [] a b c d e = absurd (cc)
four (x ∷ []) a b c d e = absurd (cc)
four (x ∷ y ∷ []) a b c d e = absurd (cc)
four (x ∷ y ∷ z ∷ []) a b c d e = absurd (cc)
four (x ∷ y ∷ z ∷ w ∷ v ∷ xs) a b c d e = absurd (cc)

-- an exact slot, and a signature below it
exact_two : (P : List Slot → Type 0) (slots : List Slot) (b k : List ℕ) → map filling_of slots ≡ Bytes b ∷ Signature k ∷ [] → ((w : WitnessItem) (key : Key) → w.item ≡ b → key.bytes ≡ k → P (Exact w ∷ Sig key ∷ [])) → P slots
exact_two P slots b k e go =
    let t = two slots (Bytes b) (Signature k) e in
    let x = is_bytes t.first b t.top in
    let y = is_signed t.second k t.below in
    subst P (sym (t.same ∙ ap (λ s. s ∷ t.second ∷ []) x.slot ∙ ap (λ s. Exact x.item ∷ s ∷ []) y.slot)) (go x.item y.key x.bytes y.bytes)

preimage_two : (P : List Slot → Type 0) (slots : List Slot) (h k : List ℕ) → map filling_of slots ≡ PreimageOf h ∷ Signature k ∷ [] → ((key : Key) → key.bytes ≡ k → P (Preimage h ∷ Sig key ∷ [])) → P slots
preimage_two P slots h k e go =
    let t = two slots (PreimageOf h) (Signature k) e in
    let y = is_signed t.second k t.below in
    subst P (sym (t.same ∙ ap (λ s. s ∷ t.second ∷ []) (is_preimage t.first h t.top) ∙ ap (λ s. Preimage h ∷ s ∷ []) y.slot)) (go y.key y.bytes)

-- the slots of a claim by both keys, below the top
both_below : (P : List Slot → Type 0) (slots : List Slot) (a : Filling) (k t : List ℕ) → map filling_of slots ≡ a ∷ Signature k ∷ Bytes t ∷ Bytes [] ∷ [] → ((x : Slot) (key : Key) (w v : WitnessItem) → filling_of x ≡ a → key.bytes ≡ k → w.item ≡ t → v.item ≡ [] → P (x ∷ Sig key ∷ Exact w ∷ Exact v ∷ [])) → P slots
both_below P slots a k t e go =
    let f = four slots a (Signature k) (Bytes t) (Bytes []) e in
    let y = is_signed f.second k f.below in
    let z = is_bytes f.third t f.next in
    let w = is_bytes f.fourth [] f.last in
    subst P (sym (f.same ∙ ap (λ s. f.first ∷ s ∷ f.third ∷ f.fourth ∷ []) y.slot ∙ ap (λ s. f.first ∷ Sig y.key ∷ s ∷ f.fourth ∷ []) z.slot ∙ ap (λ s. f.first ∷ Sig y.key ∷ Exact z.item ∷ s ∷ []) w.slot))
    (go f.first y.key z.item w.item f.top y.bytes z.bytes w.bytes)

-- each row: the path, and how the slots meet it
record IsRow (known : Option (List ℕ)) (slots : List Slot) (ways : List Path) (index : ℕ) : Type 0 where
  path : Path
  at : slice_get ways index ≡ Some path
  meets : IsMetBy known slots path

penalty_row : (revocation : List ℕ) (delay_blocks : ℕ) (delayed : List ℕ) (w : WitnessItem) (k : Key) → w.item ≡ 1 ∷ [] → k.bytes ≡ revocation → IsRow None (Exact w ∷ Sig k ∷ []) (to_local_ways revocation delay_blocks delayed) 0
penalty_row revocation delay_blocks delayed w k e f = let s = same_bytes revocation in record { path = _; at = refl; meets = record { arity = refl; free = refl; met = rw (e, f, s) refl } }

delayed_row : (revocation : List ℕ) (delay_blocks : ℕ) (delayed : List ℕ) (w : WitnessItem) (k : Key) → delay_blocks < 2 ^ 16 → w.item ≡ [] → k.bytes ≡ delayed → IsRow None (Exact w ∷ Sig k ∷ []) (to_local_ways revocation delay_blocks delayed) 1
delayed_row revocation delay_blocks delayed w k h e f =
    let s = same_bytes delayed in
    let b : bit_at 22 delay_blocks ≡ false = ne_eqb (delay_blocks / 2 ^ 22 % 2) 1 (λ x. omega arith) in
    record { path = _; at = refl; meets = record { arity = refl; free = refl; met = rw (e, b, f, s) refl } }

offered_penalty_row : (revocation remote local payment_hash : List ℕ) (w : WitnessItem) (k : Key) → w.item ≡ revocation → k.bytes ≡ revocation → IsRow None (Exact w ∷ Sig k ∷ []) (offered_ways (hash160 revocation) remote local payment_hash) 0
offered_penalty_row revocation remote local payment_hash w k e f =
    let s = same_bytes (hash160 revocation) in let t = same_bytes revocation in let o : is_key revocation ≡ true = ap is_key (sym f) ∙ k.form in
    record { path = _; at = refl; meets = record { arity = refl; free = refl; met = rw (e, s, o, f, t) refl } }

received_penalty_row : (revocation remote local payment_hash : List ℕ) (expiry_height : ℕ) (w : WitnessItem) (k : Key) → w.item ≡ revocation → k.bytes ≡ revocation → IsRow None (Exact w ∷ Sig k ∷ []) (received_ways (hash160 revocation) remote local payment_hash expiry_height) 0
received_penalty_row revocation remote local payment_hash expiry_height w k e f =
    let s = same_bytes (hash160 revocation) in let t = same_bytes revocation in let o : is_key revocation ≡ true = ap is_key (sym f) ∙ k.form in
    record { path = _; at = refl; meets = record { arity = refl; free = refl; met = rw (e, s, o, f, t) refl } }

preimage_row : (revocation_hash remote local payment : List ℕ) (k : Key) → ripemd160 payment ≢ revocation_hash → k.bytes ≡ remote → IsRow None (Preimage payment ∷ Sig k ∷ []) (offered_ways revocation_hash remote local (ripemd160 payment)) 2
preimage_row revocation_hash remote local payment k n f =
    let a = other_bytes (ripemd160 payment) revocation_hash n in
    let b : bytes_eq revocation_hash (ripemd160 payment) ≡ false = other_bytes revocation_hash (ripemd160 payment) (λ e. n (sym e)) in
    let s = same_bytes (ripemd160 payment) in let t = same_bytes remote in
    record { path = _; at = refl; meets = record { arity = refl; free = rw b refl; met = rw (a, s, f, t) refl } }

timeout_row : (revocation_hash remote local payment_hash : List ℕ) (expiry_height : ℕ) (w : WitnessItem) (k : Key) → expiry_height < 500000000 → hash160 [] ≢ revocation_hash → w.item ≡ [] → k.bytes ≡ remote → IsRow None (Exact w ∷ Sig k ∷ []) (received_ways revocation_hash remote local payment_hash expiry_height) 2
timeout_row revocation_hash remote local payment_hash expiry_height w k l n e f =
    let a = other_bytes (hash160 []) revocation_hash n in
    let b = lt-ltb expiry_height 500000000 l in
    let t = same_bytes remote in
    record { path = _; at = refl; meets = record { arity = refl; free = refl; met = rw (e, a, b, f, t) refl } }

key_row : (key : List ℕ) (w : WitnessItem) (k : Key) → w.item ≡ key → k.bytes ≡ key → IsRow None (Exact w ∷ Sig k ∷ []) (key_hash_ways (hash160 key)) 0
key_row key w k e f =
    let s = same_bytes (hash160 key) in let t = same_bytes key in let o : is_key key ≡ true = ap is_key (sym f) ∙ k.form in
    record { path = _; at = refl; meets = record { arity = refl; free = refl; met = rw (e, s, o, f, t) refl } }

htlc_timeout_row : (revocation_hash : List ℕ) (remote : Key) (local payment_hash digest : List ℕ) (v w u : WitnessItem) (k : Key) → length digest ≡ 32 → hash160 [] ≢ revocation_hash → v.item ≡ [] → k.bytes ≡ local → w.item ≡ token_of remote.bytes digest → u.item ≡ [] → IsRow (Some digest) (Exact v ∷ Sig k ∷ Exact w ∷ Exact u ∷ []) (offered_ways revocation_hash remote.bytes local payment_hash) 1
htlc_timeout_row revocation_hash remote local payment_hash digest v w u k d n e f g h =
    let a = other_bytes (hash160 []) revocation_hash n in
    let i = token-signature remote.bytes digest remote.form d in
    let s = same_bytes (token_of remote.bytes digest) in
    let t = same_bytes local in
    record { path = _; at = refl; meets = record { arity = refl; free = refl; met = rw (e, a, g, i, h, s, f, t) refl } }

htlc_success_row : (revocation_hash : List ℕ) (remote : Key) (local payment : List ℕ) (expiry_height : ℕ) (digest : List ℕ) (w u : WitnessItem) (k : Key) → length digest ≡ 32 → ripemd160 payment ≢ revocation_hash → k.bytes ≡ local → w.item ≡ token_of remote.bytes digest → u.item ≡ [] → IsRow (Some digest) (Preimage payment ∷ Sig k ∷ Exact w ∷ Exact u ∷ []) (received_ways revocation_hash remote.bytes local (ripemd160 payment) expiry_height) 1
htlc_success_row revocation_hash remote local payment expiry_height digest w u k d n f g h =
    let a = other_bytes (ripemd160 payment) revocation_hash n in
    let b : bytes_eq revocation_hash (ripemd160 payment) ≡ false = other_bytes revocation_hash (ripemd160 payment) (λ e. n (sym e)) in
    let p = same_bytes (ripemd160 payment) in
    let i = token-signature remote.bytes digest remote.form d in
    let s = same_bytes (token_of remote.bytes digest) in
    let t = same_bytes local in
    record { path = _; at = refl; meets = record { arity = refl; free = rw b refl; met = rw (a, p, g, i, h, s, f, t) refl } }

-- a digest has 32 bytes
some_digest : (f : TxIn → List ℕ) (o : Option TxIn) (digest : List ℕ) → option_map (λ i. sha256d (f i)) o ≡ Some digest → length digest ≡ 32
some_digest f None digest e = absurd (cc)
some_digest f (Some i) digest e = let g : sha256d (f i) ≡ digest = cc in ap length (sym g) ∙ length-sha256 _

digest_length : (t : Transaction) (script : List ℕ) (value : ℕ) (digest : List ℕ) → sighash t 0 script value ≡ Some digest → length digest ≡ 32
digest_length t script value digest e = some_digest (λ input. signed_list t input script value) (slice_get t.inputs 0) digest e

judged_row : (form : CheckedScript) (index : ℕ) (slots : List Slot) (place : Place) (shell : Shell) (q : Path) → slice_get form.paths index ≡ Some q → is_program (spelling form.ops) place.program ≡ true → is_shell q place shell ≡ true → IsRow (known_digest (spelling form.ops) place shell) slots form.paths index → judgement_of form index slots place shell ≡ Ok q
judged_row form index slots place shell q at prog stands r = judged form index slots place shell r.path q r.at at prog stands r.meets

-- the rows with a fixed transaction, whose digest is known
judged_fixed : (form : CheckedScript) (index : ℕ) (slots : List Slot) (place : Place) (t : Transaction) (digest : List ℕ) (q : Path) → sighash t 0 (spelling form.ops) place.value ≡ Some digest → slice_get form.paths index ≡ Some q → is_program (spelling form.ops) place.program ≡ true → is_shell q place (Fixed t) ≡ true → IsRow (Some digest) slots form.paths index → judgement_of form index slots place (Fixed t) ≡ Ok q
judged_fixed form index slots place t digest q d at prog stands r =
    judged_row form index slots place (Fixed t) q at prog stands (subst (λ known. IsRow known slots form.paths index) (sym d) r)

accepted_on : (kind : ClaimKind) (form : CheckedScript) (index : ℕ) (place : Place) (shell : Shell) → Claims kind form index place shell → (slots : List Slot) → map filling_of slots ≡ fillings_of kind → (path : Path) → slice_get form.paths index ≡ Some path → is_program (spelling form.ops) place.program ≡ true → is_shell path place shell ≡ true → judgement_of form index slots place shell ≡ Ok path
accepted_on kind form index place shell (of_penalty revocation delay_blocks delayed at) slots e path is prog stands =
    exact_two (λ s. judgement_of form index s place shell ≡ Ok path) slots (1 ∷ []) revocation.bytes e
    (λ w k f g. judged_row form index (Exact w ∷ Sig k ∷ []) place shell path is prog stands (penalty_row revocation.bytes delay_blocks delayed w k f g))
accepted_on kind form index place shell (of_delayed revocation delay_blocks key at h) slots e path is prog stands =
    exact_two (λ s. judgement_of form index s place shell ≡ Ok path) slots [] key.bytes e
    (λ w k f g. judged_row form index (Exact w ∷ Sig k ∷ []) place shell path is prog stands (delayed_row revocation delay_blocks key.bytes w k h f g))
accepted_on kind form index place shell (of_offered_penalty revocation remote local payment_hash at) slots e path is prog stands =
    exact_two (λ s. judgement_of form index s place shell ≡ Ok path) slots revocation.bytes revocation.bytes e
    (λ w k f g. judged_row form index (Exact w ∷ Sig k ∷ []) place shell path is prog stands (offered_penalty_row revocation.bytes remote local payment_hash w k f g))
accepted_on kind form index place shell (of_received_penalty revocation remote local payment_hash expiry_height at) slots e path is prog stands =
    exact_two (λ s. judgement_of form index s place shell ≡ Ok path) slots revocation.bytes revocation.bytes e
    (λ w k f g. judged_row form index (Exact w ∷ Sig k ∷ []) place shell path is prog stands (received_penalty_row revocation.bytes remote local payment_hash expiry_height w k f g))
accepted_on kind form index place shell (of_preimage revocation_hash remote local payment at n) slots e path is prog stands =
    preimage_two (λ s. judgement_of form index s place shell ≡ Ok path) slots payment remote.bytes e
    (λ k g. judged_row form index (Preimage payment ∷ Sig k ∷ []) place shell path is prog stands (preimage_row revocation_hash remote.bytes local payment k n g))
accepted_on kind form index place shell (of_timeout revocation_hash remote local payment_hash expiry_height at l n) slots e path is prog stands =
    exact_two (λ s. judgement_of form index s place shell ≡ Ok path) slots [] remote.bytes e
    (λ w k f g. judged_row form index (Exact w ∷ Sig k ∷ []) place shell path is prog stands (timeout_row revocation_hash remote.bytes local payment_hash expiry_height w k l n f g))
accepted_on kind form index place shell (of_key k at) slots e path is prog stands =
    exact_two (λ s. judgement_of form index s place shell ≡ Ok path) slots k.bytes k.bytes e
    (λ w s f g. judged_row form index (Exact w ∷ Sig s ∷ []) place shell path is prog stands (key_row k.bytes w s f g))
accepted_on kind form index place shell (of_htlc_timeout revocation_hash remote local payment_hash at t digest n d) slots e path is prog stands =
    both_below (λ s. judgement_of form index s place shell ≡ Ok path) slots (Bytes []) local.bytes (token_of remote.bytes digest) e
    (λ x k w u a f g h. let v = is_bytes x [] a in
    subst (λ y. judgement_of form index (y ∷ Sig k ∷ Exact w ∷ Exact u ∷ []) place shell ≡ Ok path) (sym v.slot)
    (judged_fixed form index (Exact v.item ∷ Sig k ∷ Exact w ∷ Exact u ∷ []) place t digest path d is prog stands
    (htlc_timeout_row revocation_hash remote local.bytes payment_hash digest v.item w u k (digest_length t (spelling form.ops) place.value digest d) n v.bytes f g h)))
accepted_on kind form index place shell (of_htlc_success revocation_hash remote local payment expiry_height at t digest n d) slots e path is prog stands =
    both_below (λ s. judgement_of form index s place shell ≡ Ok path) slots (PreimageOf payment) local.bytes (token_of remote.bytes digest) e
    (λ x k w u a f g h.
    subst (λ y. judgement_of form index (y ∷ Sig k ∷ Exact w ∷ Exact u ∷ []) place shell ≡ Ok path) (sym (is_preimage x payment a))
    (judged_fixed form index (Preimage payment ∷ Sig k ∷ Exact w ∷ Exact u ∷ []) place t digest path d is prog stands
    (htlc_success_row revocation_hash remote local.bytes payment expiry_height digest w u k (digest_length t (spelling form.ops) place.value digest d) n f g h)))

pub accepted : (kind : ClaimKind) (slots : List Slot) → map filling_of slots ≡ fillings_of kind → AreAccepted kind slots
accepted kind slots e = λ form index path place shell row at prog stands. accepted_on kind form index place shell row slots e path at prog stands

-- a kind of claim takes one path
pub one_path : (kind : ClaimKind) (form : CheckedScript) (index : ℕ) (place : Place) (shell : Shell) → Claims kind form index place shell → path_taken_by kind ≡ index
one_path kind form index place shell (of_penalty revocation delay_blocks delayed at) = refl
one_path kind form index place shell (of_delayed revocation delay_blocks key at h) = refl
one_path kind form index place shell (of_offered_penalty revocation remote local payment_hash at) = refl
one_path kind form index place shell (of_received_penalty revocation remote local payment_hash expiry_height at) = refl
one_path kind form index place shell (of_preimage revocation_hash remote local payment at n) = refl
one_path kind form index place shell (of_timeout revocation_hash remote local payment_hash expiry_height at l n) = refl
one_path kind form index place shell (of_key k at) = refl
one_path kind form index place shell (of_htlc_timeout revocation_hash remote local payment_hash at t digest n d) = refl
one_path kind form index place shell (of_htlc_success revocation_hash remote local payment expiry_height at t digest n d) = refl

-- a path that contradicts itself, or whose first fact is not met
record IsRefusedBy (known : Option (List ℕ)) (slots : List Slot) (refusal : AcceptError) (p : Path) : Type 0 where
  arity : length slots ≡ p.arity
  refused : (q : Path) → result_if (not (contradicts p.facts)) Contradiction (first_unmet_or known slots p.facts q) ≡ Err refusal

record IsRefusedRow (known : Option (List ℕ)) (slots : List Slot) (refusal : AcceptError) (ways : List Path) (index : ℕ) : Type 0 where
  path : Path
  at : slice_get ways index ≡ Some path
  refuses : IsRefusedBy known slots refusal path

refused_row : (form : CheckedScript) (index : ℕ) (slots : List Slot) (place : Place) (shell : Shell) (q : Path) (refusal : AcceptError) → slice_get form.paths index ≡ Some q → is_program (spelling form.ops) place.program ≡ true → is_shell q place shell ≡ true → IsRefusedRow (known_digest (spelling form.ops) place shell) slots refusal form.paths index → judgement_of form index slots place shell ≡ Err refusal
unfolding judgement_of
refused_row form index slots place shell q refusal same prog stands r =
    let one : r.path ≡ q = some_same r.path q (sym r.at ∙ same) in
    let n : IsRefusedBy (known_digest (spelling form.ops) place shell) slots refusal q = subst (IsRefusedBy (known_digest (spelling form.ops) place shell) slots refusal) one r.refuses in
    let a = eq-eqb (length slots) q.arity n.arity in
    rw (same, a, prog, stands) (n.refused q)
  where
    some_same : (p q : Path) → Some p ≡ Some q → p ≡ q
    some_same p q e = cc

no_timeout_row : (known : Option (List ℕ)) (remote local payment_hash : List ℕ) (expiry_height : ℕ) (w : WitnessItem) (k : Key) → w.item ≡ [] → IsRefusedRow known (Exact w ∷ Sig k ∷ []) (Unmet (no (Hash 0 (hash160 [])))) (received_ways (hash160 []) remote local payment_hash expiry_height) 2
no_timeout_row None remote local payment_hash expiry_height w k e = let s = same_bytes (hash160 []) in record { path = _; at = refl; refuses = record { arity = refl; refused = λ q. rw (e, s) refl } }
no_timeout_row (Some d) remote local payment_hash expiry_height w k e = let s = same_bytes (hash160 []) in record { path = _; at = refl; refuses = record { arity = refl; refused = λ q. rw (e, s) refl } }

no_preimage_row : (known : Option (List ℕ)) (remote local payment : List ℕ) (x y : Slot) → IsRefusedRow known (x ∷ y ∷ []) Contradiction (offered_ways (ripemd160 payment) remote local (ripemd160 payment)) 2
no_preimage_row known remote local payment x y = let s = same_bytes (ripemd160 payment) in record { path = _; at = refl; refuses = record { arity = refl; refused = λ q. rw s refl } }

no_htlc_timeout_row : (known : Option (List ℕ)) (remote local payment_hash : List ℕ) (v w u : WitnessItem) (k : Key) → v.item ≡ [] → IsRefusedRow known (Exact v ∷ Sig k ∷ Exact w ∷ Exact u ∷ []) (Unmet (no (Hash 0 (hash160 [])))) (offered_ways (hash160 []) remote local payment_hash) 1
no_htlc_timeout_row None remote local payment_hash v w u k e = let s = same_bytes (hash160 []) in record { path = _; at = refl; refuses = record { arity = refl; refused = λ q. rw (e, s) refl } }
no_htlc_timeout_row (Some d) remote local payment_hash v w u k e = let s = same_bytes (hash160 []) in record { path = _; at = refl; refuses = record { arity = refl; refused = λ q. rw (e, s) refl } }

no_htlc_success_row : (known : Option (List ℕ)) (remote local payment : List ℕ) (expiry_height : ℕ) (x y z w : Slot) → IsRefusedRow known (x ∷ y ∷ z ∷ w ∷ []) Contradiction (received_ways (ripemd160 payment) remote local (ripemd160 payment) expiry_height) 1
no_htlc_success_row known remote local payment expiry_height x y z w = let s = same_bytes (ripemd160 payment) in record { path = _; at = refl; refuses = record { arity = refl; refused = λ q. rw s refl } }

refused_on : (kind : ClaimKind) (form : CheckedScript) (index : ℕ) (place : Place) (shell : Shell) (refusal : AcceptError) → Refused kind form index place shell refusal → (slots : List Slot) → map filling_of slots ≡ fillings_of kind → (path : Path) → slice_get form.paths index ≡ Some path → is_program (spelling form.ops) place.program ≡ true → is_shell path place shell ≡ true → judgement_of form index slots place shell ≡ Err refusal
refused_on kind form index place shell refusal (no_timeout remote local payment_hash expiry_height at round) slots e path is prog stands =
    exact_two (λ s. judgement_of form index s place shell ≡ Err refusal) slots [] remote.bytes e
    (λ w k f g. refused_row form index (Exact w ∷ Sig k ∷ []) place shell path refusal is prog stands (no_timeout_row (known_digest (spelling form.ops) place shell) remote.bytes local payment_hash expiry_height w k f))
refused_on kind form index place shell refusal (no_preimage remote local payment at round) slots e path is prog stands =
    preimage_two (λ s. judgement_of form index s place shell ≡ Err refusal) slots payment remote.bytes e
    (λ k g. refused_row form index (Preimage payment ∷ Sig k ∷ []) place shell path refusal is prog stands (no_preimage_row (known_digest (spelling form.ops) place shell) remote.bytes local payment (Preimage payment) (Sig k)))
refused_on kind form index place shell refusal (no_htlc_timeout remote local payment_hash token at round) slots e path is prog stands =
    both_below (λ s. judgement_of form index s place shell ≡ Err refusal) slots (Bytes []) local.bytes token e
    (λ x k w u a f g h. let v = is_bytes x [] a in
    subst (λ y. judgement_of form index (y ∷ Sig k ∷ Exact w ∷ Exact u ∷ []) place shell ≡ Err refusal) (sym v.slot)
    (refused_row form index (Exact v.item ∷ Sig k ∷ Exact w ∷ Exact u ∷ []) place shell path refusal is prog stands (no_htlc_timeout_row (known_digest (spelling form.ops) place shell) remote.bytes local.bytes payment_hash v.item w u k v.bytes)))
refused_on kind form index place shell refusal (no_htlc_success remote local payment token expiry_height at round) slots e path is prog stands =
    both_below (λ s. judgement_of form index s place shell ≡ Err refusal) slots (PreimageOf payment) local.bytes token e
    (λ x k w u a f g h. refused_row form index (x ∷ Sig k ∷ Exact w ∷ Exact u ∷ []) place shell path refusal is prog stands
    (no_htlc_success_row (known_digest (spelling form.ops) place shell) remote.bytes local.bytes payment expiry_height x (Sig k) (Exact w) (Exact u)))

pub refused : (kind : ClaimKind) (slots : List Slot) → map filling_of slots ≡ fillings_of kind → AreRefused kind slots
refused kind slots e = λ form index path place shell refusal row at prog stands. refused_on kind form index place shell refusal row slots e path at prog stands
