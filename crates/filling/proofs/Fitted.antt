-- The inputs of a filling fit their claims.
use Rattle.std.proofs.Common.{◌≡◌, inl, inr, ℕ, zero, suc, ◌≤◌, Bool, true, false, List, [], ◌∷◌, ◌++◌, length, map, reverse, Option, Some, None, is_some, sym, ap, subst, ◌∙◌, refl, arith, Contains}
use Rattle.std.specs.Prelude.{slice_get, option_map, unwrap_or, if◌then◌else◌}
use Rattle.std.proofs.lemmas.Bool.{and_parts, eqb-true, false≢true}
use Rattle.std.proofs.lemmas.Slice.Eq.{bytes_eq-Decides}
use Rattle.std.proofs.lemmas.List.{reverse-reverse, length-reverse}
use Rattle.std.specs.Option.{option_or}
use Rattle.digest.specs.Hash.{sha256d}
use Rattle.script.specs.Token.{token_of}
use Rattle.script.specs.declared.spending.Spend.{Spend}
use Rattle.tx.specs.declared.input.TxIn.{TxIn}
use Rattle.tx.specs.Fields.{Transaction, signed_input, unsigned_inputs, unsigned_transaction, inputs_with_witness}
use Rattle.sighash.specs.Signing.{signed_list}
use Rattle.sighash.proofs.Witnesses.{unsigned_list}
use Rattle.sighash.specs.Programs.{spend_of}
use Rattle.keys.specs.Rights.{Rights}
use Rattle.paths.specs.declared.state.Path.{Path}
use Rattle.claim.specs.declared.parts.Slot.{Slot}
use Rattle.claim.specs.declared.parts.Slot.TheVariants.{Sig, Preimage, Exact}
use Rattle.claim.specs.Evidence.{is_preimage}
use Rattle.claim.specs.Judgement.{age_of}
use Rattle.claim.specs.Fitting.{FillsSlot, FillsSlots, Fits, witness_for}
use Rattle.claim.specs.Claims.{ClaimParts, path_of}
use Rattle.filling.specs.Filling.{script_of, unsigned_input, preimage_of, digest_for, item_for, items_for, filled_input, signed_transaction}
use Rattle.filling.specs.Refusals.{IsFillable, AreFillable, HasPreimage, HavePreimages, LacksFirst, all_slots}
use Rattle.filling.specs.declared.errors.FillError.{FillError}
use Rattle.filling.specs.Standing.{Stands, AllStand, IsUnsigned, CanSpend, AllCanSpend}
use Rattle.filling.specs.Filled.{AllRunClean, AllFit}
use Rattle.filling.proofs.Lists.{contains-at, contains-first, contains-later}
use Rattle.filling.proofs.Standing.{bare-of, stands-signed}

-- the digest of an input is that of the unsigned transaction
digest-same : (c : ClaimParts) (ps : List (List ℕ)) (t u : Transaction) (x : TxIn) → unsigned_transaction u ≡ t → x ≡ filled_input t ps c → sha256d (signed_list u x (script_of c) c.place.value) ≡ digest_for t c
digest-same c ps t u x e f =
    let bare : signed_input x [] ≡ unsigned_input c = ap (λ i. signed_input i []) f in
    ap sha256d (sym (unsigned_list u x (script_of c) c.place.value)
    ∙ ap (λ w. signed_list w (signed_input x []) (script_of c) c.place.value) e
    ∙ ap (λ i. signed_list t i (script_of c) c.place.value) bare)

pub parted : (r : Rights) (ps : List (List ℕ)) (slots others : List Slot) → AreFillable r ps (slots ++ others) → AreFillable r ps slots × AreFillable r ps others
parted r ps [] others f = (tt, f)
parted r ps (slot ∷ slots) others f = let w = parted r ps slots others f.1 in ((f.0, w.0), w.1)

pub joined : (r : Rights) (ps : List (List ℕ)) (slots others : List Slot) → AreFillable r ps slots → AreFillable r ps others → AreFillable r ps (slots ++ others)
joined r ps [] others f g = g
joined r ps (slot ∷ slots) others f g = (f.0, joined r ps slots others f.1 g)

pub lacks-here : (r : Rights) (ps : List (List ℕ)) (slots others : List Slot) (e : FillError) → LacksFirst r ps slots e → LacksFirst r ps (slots ++ others) e
lacks-here r ps [] others e l = absurd l
lacks-here r ps (slot ∷ slots) others e (inl l) = inl l
lacks-here r ps (slot ∷ slots) others e (inr l) = inr (l.0, lacks-here r ps slots others e l.1)

pub lacks-later : (r : Rights) (ps : List (List ℕ)) (slots others : List Slot) (e : FillError) → AreFillable r ps slots → LacksFirst r ps others e → LacksFirst r ps (slots ++ others) e
lacks-later r ps [] others e f l = l
lacks-later r ps (slot ∷ slots) others e f l = inr (f.0, lacks-later r ps slots others e f.1 l)

-- a preimage that is found is one of the hash
found_by : (o : Option (List ℕ)) (x h : List ℕ) (b : Bool) → is_preimage x h ≡ b → (is_some o ≡ true → is_preimage (unwrap_or o []) h ≡ true) → is_some (option_or o (if b then Some x else None)) ≡ true → is_preimage (unwrap_or (option_or o (if b then Some x else None)) []) h ≡ true
found_by (Some y) x h b e k i = k refl
found_by None x h true e k i = e
found_by None x h false e k i = absurd (false≢true i)

pub preimage-found : (ps : List (List ℕ)) (h : List ℕ) → is_some (preimage_of ps h) ≡ true → is_preimage (unwrap_or (preimage_of ps h) []) h ≡ true
preimage-found [] h i = absurd (false≢true i)
preimage-found (x ∷ ps) h i = found_by (preimage_of ps h) x h (is_preimage x h) refl (preimage-found ps h) i

fills_one : (spend : Spend) (digest : List ℕ) (ps : List (List ℕ)) (slot : Slot) → spend.digest ≡ digest → HasPreimage ps slot → FillsSlot spend slot (item_for digest ps slot)
fills_one spend digest ps (Sig k) e f = ap (token_of k.bytes) (sym e)
fills_one spend digest ps (Preimage h) e f = let w = and_parts _ _ (preimage-found ps h f) in (eqb-true _ _ w.0, (bytes_eq-Decides _ _).0 w.1)
fills_one spend digest ps (Exact b) e f = refl

fills : (spend : Spend) (digest : List ℕ) (ps : List (List ℕ)) (slots : List Slot) → spend.digest ≡ digest → HavePreimages ps slots → FillsSlots spend slots (map (item_for digest ps) slots)
fills spend digest ps [] e f = tt
fills spend digest ps (slot ∷ slots) e f = (fills_one spend digest ps slot e f.0, fills spend digest ps slots e f.1)

-- what can be filled has its preimages
has-preimage : (r : Rights) (ps : List (List ℕ)) (slot : Slot) → IsFillable r ps slot → HasPreimage ps slot
has-preimage r ps (Sig k) f = tt
has-preimage r ps (Preimage h) f = f
has-preimage r ps (Exact b) f = tt

pub have-preimages : (r : Rights) (ps : List (List ℕ)) (slots : List Slot) → AreFillable r ps slots → HavePreimages ps slots
have-preimages r ps [] f = tt
have-preimages r ps (slot ∷ slots) f = (has-preimage r ps slot f.0, have-preimages r ps slots f.1)

pub preimages-parted : (ps : List (List ℕ)) (slots others : List Slot) → HavePreimages ps (slots ++ others) → HavePreimages ps slots × HavePreimages ps others
preimages-parted ps [] others f = (tt, f)
preimages-parted ps (slot ∷ slots) others f = let w = preimages-parted ps slots others f.1 in ((f.0, w.0), w.1)

pub preimages-joined : (ps : List (List ℕ)) (slots others : List Slot) → HavePreimages ps slots → HavePreimages ps others → HavePreimages ps (slots ++ others)
preimages-joined ps [] others f g = g
preimages-joined ps (slot ∷ slots) others f g = (f.0, preimages-joined ps slots others f.1 g)

-- the input of a claim, signed over the unsigned transaction, fits it
pub fits-of : (c : ClaimParts) (p : Path) (ps : List (List ℕ)) (t u : Transaction) (x : TxIn) → path_of c ≡ Some p → unsigned_transaction u ≡ t → unsigned_transaction t ≡ t → Contains u.inputs x → x ≡ filled_input t ps c → HavePreimages ps c.slots → Stands t c → Fits (script_of c) p c.slots c.place c.shell u x
fits-of c p ps t u x at e b m f a s =
    let spend = spend_of u x (script_of c) c.place.value in
    let items = map (item_for (digest_for t c) ps) c.slots in
    record {
      among = m;
      outpoint = ap (λ i. i.outpoint) f;
      sequence = ap (λ i. i.sequence) f ∙ ap (λ o. unwrap_or (option_map age_of o) 0) at;
      stands = stands-signed p c.shell t u e b (s p at);
      items = items_for t ps c;
      witness = ap (λ i. i.witness) f;
      filled = subst (FillsSlots spend c.slots) (sym (reverse-reverse items)) (fills spend (digest_for t c) ps c.slots (digest-same c ps t u x e f) a);
    }

-- one input of the transaction gets its witness
with_unsigned : (xs : List TxIn) (i : ℕ) (w : List (List ℕ)) → unsigned_inputs (inputs_with_witness xs i w) ≡ unsigned_inputs xs
with_unsigned [] i w = refl
with_unsigned (x ∷ xs) zero w = refl
with_unsigned (x ∷ xs) (suc i) w = ap (λ l. signed_input x [] ∷ l) (with_unsigned xs i w)

with_at : (xs : List TxIn) (i : ℕ) (w : List (List ℕ)) (x : TxIn) → slice_get xs i ≡ Some x → slice_get (inputs_with_witness xs i w) i ≡ Some (signed_input x w)
with_at [] i w x e = absurd (cc)
with_at (y ∷ xs) zero w x e = let s : y ≡ x = cc in ap (λ z. Some (signed_input z w)) s
with_at (y ∷ xs) (suc i) w x e = with_at xs i w x e

filled-length : (spend : Spend) (slots : List Slot) (w : List (List ℕ)) → FillsSlots spend slots w → length w ≡ length slots
filled-length spend [] [] f = refl
filled-length spend [] (x ∷ w) f = absurd f
filled-length spend (slot ∷ slots) [] f = absurd f
filled-length spend (slot ∷ slots) (x ∷ w) f = ap suc (filled-length spend slots w f.1)

-- so the slots of a claim are at most 1,000
pub slots-short : (c : ClaimParts) (ps : List (List ℕ)) (t : Transaction) (i : ℕ) → CanSpend c → slice_get t.inputs i ≡ Some (unsigned_input c) → unsigned_transaction t ≡ t → Stands t c → HavePreimages ps c.slots → length c.slots ≤ 1000
slots-short c ps t i o here bare s a =
    let w = witness_for c.place.program (script_of c) (items_for t ps c) in
    let u : Transaction = record { version = t.version; inputs = inputs_with_witness t.inputs i w; outputs = t.outputs; lock_time = t.lock_time } in
    let same : unsigned_transaction u ≡ t = ap (λ is. record { version = t.version; inputs = is; outputs = t.outputs; lock_time = t.lock_time }) (with_unsigned t.inputs i w) ∙ bare in
    let member = contains-at u.inputs i (filled_input t ps c) (with_at t.inputs i w (unsigned_input c) here) in
    let f = fits-of c o.path ps t u (filled_input t ps c) o.at same bare member refl a s in
    let low = (o.opens o.path o.taken).short u (filled_input t ps c) f in
    let n = filled-length (spend_of u (filled_input t ps c) (script_of c) c.place.value) c.slots (reverse f.items) f.filled in
    omega (arith, low, length-reverse f.items, n)

-- the inputs of the whole, of which these are some
all-fit_in : (u t : Transaction) (ps : List (List ℕ)) (claims : List ClaimParts) → unsigned_transaction u ≡ t → unsigned_transaction t ≡ t → ((x : TxIn) → Contains (map (filled_input t ps) claims) x → Contains u.inputs x) → AllCanSpend claims → AllStand t claims → HavePreimages ps (all_slots claims) → AllFit u claims (map (filled_input t ps) claims)
all-fit_in u t ps [] e b m o s f = tt
all-fit_in u t ps (c ∷ claims) e b m o s f =
    let w = preimages-parted ps c.slots (all_slots claims) f in (
      record { path = o.0.path; taken = o.0.taken; fits = fits-of c o.0.path ps t u (filled_input t ps c) o.0.at e b (m (filled_input t ps c) (contains-first (filled_input t ps c) (map (filled_input t ps) claims))) refl w.0 s.0 },
      all-fit_in u t ps claims e b (λ x n. m x (contains-later (filled_input t ps c) (map (filled_input t ps) claims) x n)) o.1 s.1 w.1,
    )

signed_bare : (t : Transaction) (ps : List (List ℕ)) (claims : List ClaimParts) → unsigned_inputs (map (filled_input t ps) claims) ≡ map unsigned_input claims
signed_bare t ps [] = refl
signed_bare t ps (c ∷ claims) = ap (λ l. unsigned_input c ∷ l) (signed_bare t ps claims)

pub all-fit : (t : Transaction) (ps : List (List ℕ)) (claims : List ClaimParts) → IsUnsigned claims t → AllCanSpend claims → HavePreimages ps (all_slots claims) → AllFit (signed_transaction t ps claims) claims (map (filled_input t ps) claims)
all-fit t ps claims i o f =
    all-fit_in (signed_transaction t ps claims) t ps claims
    (ap (λ is. record { version = t.version; inputs = is; outputs = t.outputs; lock_time = t.lock_time }) (signed_bare t ps claims ∙ sym i.inputs))
    (bare-of claims t i.inputs) (λ x n. n) o i.stands f

-- what fits runs clean
pub all-clean : (u : Transaction) (claims : List ClaimParts) (inputs : List TxIn) → AllCanSpend claims → AllFit u claims inputs → AllRunClean u inputs (map (λ c. c.place) claims)
all-clean u [] [] o f = tt
all-clean u [] (x ∷ inputs) o f = absurd f
all-clean u (c ∷ claims) [] o f = absurd f
all-clean u (c ∷ claims) (x ∷ inputs) o f =
    let opens = o.0.opens f.0.path f.0.taken in (
      record { outpoint = f.0.fits.outpoint; counted = f.0.path.ops; height = f.0.path.height; clean = opens.clean u x f.0.fits; few = opens.few; low = opens.low },
      all-clean u claims inputs o.1 f.1,
    )
