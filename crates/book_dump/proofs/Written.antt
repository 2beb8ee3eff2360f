-- The JSON of a history has no number with a fraction, and is at most eight levels deep.
use Rattle.std.proofs.Common.{◌≡◌, ℕ, suc, ◌≤◌, max, false, List, [], ◌∷◌, map, Some, Result, Ok, Err, refl, sym, ap, ◌∙◌, subst, arith}
use Rattle.std.specs.Prelude.{IfOk}
use Rattle.serde_json.specs.Data.{Data, depth, items_depth}
use Rattle.serde_json.specs.View.{items_of}
use Rattle.serde_json.specs.Read.{max_depth, read}
use Rattle.serde_json.specs.Written.{has_float, items_have_float, compact_text}
use Rattle.tx.specs.Parts.{Output}
use Rattle.terms.specs.declared.sides.Side.{Side}
use Rattle.terms.specs.declared.sides.Side.TheVariants.{A, B}
use Rattle.updates.specs.declared.changes.Update.{Update}
use Rattle.updates.specs.declared.changes.Update.TheVariants.{Add, Fulfil as Fulfilling, Fail as Failing, Fee}
use Rattle.claim.specs.declared.parts.Slot.{Slot}
use Rattle.claim.specs.declared.parts.Slot.TheVariants.{Sig, Preimage, Exact}
use Rattle.claim.specs.declared.parts.Shell.{Shell}
use Rattle.claim.specs.declared.parts.Shell.TheVariants.{Open as OpenShell, Fixed}
use Rattle.claim.specs.Claims.{ClaimParts}
use Rattle.updates.specs.declared.changes.OwnUpdate.{OwnUpdate}
use Rattle.updates.specs.declared.changes.OwnUpdate.TheVariants.{Offer, Fulfil, Fail, SetFee}
use Rattle.texts.specs.Writing.{bytes_data, side_data, terms_data, output_data, add_data, update_data}
use Rattle.texts.specs.ClaimWriting.{outpoint_data, slot_data, shell_data, claim_data}
use Rattle.texts.specs.CallWriting.{signature_data, revocation_data, open_data, own_data, receive_data, sign_data, revoke_data, keep_data, release_data, close_data, entry_data, dump_data}
use Rattle.book.specs.declared.calls.Step.{Step}
use Rattle.updates.specs.declared.messages.PeerStep.TheVariants.{Update as Updated, CommitmentSigned}
use Rattle.book.specs.declared.calls.Step.TheVariants.{Own, Peer}
use Rattle.book.specs.declared.calls.Call.{Call}
use Rattle.book.specs.declared.calls.Call.TheVariants.{Open, Step as Stepping, Sign, Revoke, Keep, Release, Close}
use Rattle.book.specs.declared.calls.Entry.{Entry}
use Rattle.book_dump.specs.Dumping.{step_data, call_data, history_entry_data, history_data, dump_of}

-- ---- no floats

each_whole : {X : Type 0} (f : X → Data) → ((x : X) → has_float (f x) ≡ false) → (xs : List X) → items_have_float (items_of (map f xs)) ≡ false
each_whole f whole [] = refl
each_whole f whole (x ∷ xs) = rw (whole x, each_whole f whole xs) refl

whole_side : (s : Side) → has_float (side_data s) ≡ false
whole_side A = refl
whole_side B = refl

whole_slot : (s : Slot) → has_float (slot_data s) ≡ false
unfolding slot_data
whole_slot (Sig key) = refl
whole_slot (Preimage hash) = refl
whole_slot (Exact bytes) = refl

whole_shell : (s : Shell) → has_float (shell_data s) ≡ false
unfolding shell_data
whole_shell OpenShell = refl
whole_shell (Fixed t) = refl

whole_claim : (c : ClaimParts) → has_float (claim_data c) ≡ false
unfolding claim_data outpoint_data
whole_claim c = rw (whole_shell c.shell, each_whole slot_data whole_slot c.slots) refl

whole_output : (o : Output) → has_float (output_data o) ≡ false
unfolding output_data
whole_output o = refl

whole_bytes : (bytes : List ℕ) → has_float (bytes_data bytes) ≡ false
whole_bytes bytes = refl

whole_own : (channel : ℕ) (u : OwnUpdate) → has_float (own_data channel u) ≡ false
unfolding own_data
whole_own channel (Offer amount_msat hash expiry_height) = refl
whole_own channel (Fulfil id preimage) = refl
whole_own channel (Fail id) = refl
whole_own channel (SetFee feerate_per_kw) = refl

whole_update : (channel : ℕ) (u : Update) → has_float (receive_data channel (update_data u)) ≡ false
unfolding receive_data update_data add_data
whole_update channel (Add htlc) = refl
whole_update channel (Fulfilling id preimage) = refl
whole_update channel (Failing id) = refl
whole_update channel (Fee feerate_per_kw) = refl

whole_step : (channel : ℕ) (s : Step) → has_float (step_data channel s) ≡ false
unfolding receive_data signature_data
whole_step channel (Own u) = whole_own channel u
whole_step channel (Peer (Updated u)) = whole_update channel u
whole_step channel (Peer (CommitmentSigned tokens)) = rw (each_whole bytes_data whole_bytes tokens.htlcs) refl

whole_call : (c : Call) → has_float (call_data c) ≡ false
unfolding open_data terms_data outpoint_data sign_data revoke_data revocation_data keep_data release_data close_data
whole_call (Open o) = rw (whole_side o.terms.opener, whole_side o.side) refl
whole_call (Stepping channel step) = whole_step channel step
whole_call (Sign channel) = refl
whole_call (Revoke channel revocation) = refl
whole_call (Keep channel number claims) = rw (each_whole claim_data whole_claim claims) refl
whole_call (Release channel batch) =
    rw (each_whole claim_data whole_claim batch.claims, each_whole output_data whole_output batch.outputs, each_whole bytes_data whole_bytes batch.preimages) refl
whole_call (Close channel) = refl

whole_entry : (e : Entry) → has_float (history_entry_data e) ≡ false
unfolding entry_data
whole_entry e = rw (whole_call e.call) refl

pub whole_history : (history : List Entry) → has_float (history_data history) ≡ false
unfolding dump_data
whole_history history = rw (each_entry history) refl
  where
    each_entry : (es : List Entry) → items_have_float (items_of (map history_entry_data es)) ≡ false
    each_entry es = each_whole history_entry_data whole_entry es

-- ---- depths

both : (a b n : ℕ) → a ≤ n → b ≤ n → max a b ≤ n
both a b n h k = omega arith

up : (m n : ℕ) → m ≤ n → suc m ≤ suc n
up m n h = omega arith

each_deep : {X : Type 0} (f : X → Data) (n : ℕ) → ((x : X) → depth (f x) ≤ n) → (xs : List X) → items_depth (items_of (map f xs)) ≤ n
each_deep f n deep [] = omega arith
each_deep f n deep (x ∷ xs) = both _ _ n (deep x) (each_deep f n deep xs)

flat_side : (s : Side) → depth (side_data s) ≡ 0
flat_side A = refl
flat_side B = refl

deep_slot : (s : Slot) → depth (slot_data s) ≤ 1
unfolding slot_data
deep_slot (Sig key) = omega arith
deep_slot (Preimage hash) = omega arith
deep_slot (Exact bytes) = omega arith

flat_shell : (s : Shell) → depth (shell_data s) ≡ 0
unfolding shell_data
flat_shell OpenShell = refl
flat_shell (Fixed t) = refl

deep_claim : (c : ClaimParts) → depth (claim_data c) ≤ 3
unfolding claim_data outpoint_data
deep_claim c = rw (flat_shell c.shell) (go _ (each_deep slot_data 1 deep_slot c.slots))
  where
    go : (d : ℕ) → d ≤ 1 → suc (max 0 (max 0 (max 0 (max 0 (max 0 (max (suc d) (max 0 0))))))) ≤ 3
    go d h = up _ 2 (both _ _ 2 (omega arith) (both _ _ 2 (omega arith) (both _ _ 2 (omega arith) (both _ _ 2 (omega arith) (both _ _ 2 (omega arith) (both _ _ 2 (omega arith) (omega arith)))))))

deep_output : (o : Output) → depth (output_data o) ≤ 1
unfolding output_data
deep_output o = omega arith

flat_bytes : (bytes : List ℕ) → depth (bytes_data bytes) ≤ 0
flat_bytes bytes = omega arith

deep_own : (channel : ℕ) (u : OwnUpdate) → depth (own_data channel u) ≤ 5
unfolding own_data
deep_own channel (Offer amount_msat hash expiry_height) = omega arith
deep_own channel (Fulfil id preimage) = omega arith
deep_own channel (Fail id) = omega arith
deep_own channel (SetFee feerate_per_kw) = omega arith

deep_update : (channel : ℕ) (u : Update) → depth (receive_data channel (update_data u)) ≤ 5
unfolding receive_data update_data add_data
deep_update channel (Add htlc) = omega arith
deep_update channel (Fulfilling id preimage) = omega arith
deep_update channel (Failing id) = omega arith
deep_update channel (Fee feerate_per_kw) = omega arith

deep_step : (channel : ℕ) (s : Step) → depth (step_data channel s) ≤ 5
unfolding receive_data signature_data
deep_step channel (Own u) = deep_own channel u
deep_step channel (Peer (Updated u)) = deep_update channel u
deep_step channel (Peer (CommitmentSigned tokens)) = go _ (each_deep bytes_data 0 flat_bytes tokens.htlcs)
  where
    go : (d : ℕ) → d ≤ 0 → suc (max 0 (max 0 (max 0 (max (suc (max 0 (max 0 (max (suc d) 0)))) 0)))) ≤ 5
    go d h = let z : d ≡ 0 = omega arith in rw z (omega arith)

deep_call : (c : Call) → depth (call_data c) ≤ 5
unfolding open_data terms_data outpoint_data sign_data revoke_data revocation_data keep_data release_data close_data
deep_call (Open o) = rw (flat_side o.terms.opener, flat_side o.side) (omega arith)
deep_call (Stepping channel step) = deep_step channel step
deep_call (Sign channel) = omega arith
deep_call (Revoke channel revocation) = omega arith
deep_call (Keep channel number claims) = go _ (each_deep claim_data 3 deep_claim claims)
  where
    go : (d : ℕ) → d ≤ 3 → suc (max 0 (max 0 (max 0 (max (suc d) 0)))) ≤ 5
    go d h = up _ 4 (both _ _ 4 (omega arith) (both _ _ 4 (omega arith) (both _ _ 4 (omega arith) (both _ _ 4 (omega arith) (omega arith)))))
deep_call (Release channel batch) =
    go _ _ _ (each_deep claim_data 3 deep_claim batch.claims) (each_deep output_data 1 deep_output batch.outputs) (each_deep bytes_data 0 flat_bytes batch.preimages)
  where
    go : (d e f : ℕ) → d ≤ 3 → e ≤ 1 → f ≤ 0 → suc (max 0 (max 0 (max (suc d) (max (suc e) (max (suc f) 0))))) ≤ 5
    go d e f h i j = up _ 4 (both _ _ 4 (omega arith) (both _ _ 4 (omega arith) (both _ _ 4 (omega arith) (both _ _ 4 (omega arith) (both _ _ 4 (omega arith) (omega arith))))))
deep_call (Close channel) = omega arith

deep_entry : (e : Entry) → depth (history_entry_data e) ≤ 6
unfolding entry_data
deep_entry e = go _ (deep_call e.call)
  where
    go : (d : ℕ) → d ≤ 5 → suc (max d (max 0 0)) ≤ 6
    go d h = up _ 5 (both _ _ 5 h (omega arith))

pub deep_history : (history : List Entry) → depth (history_data history) ≤ 8
unfolding dump_data
deep_history history = go _ (each_deep history_entry_data 6 deep_entry history)
  where
    go : (d : ℕ) → d ≤ 6 → suc (max (suc d) (max 0 0)) ≤ 8
    go d h = up _ 7 (both _ _ 7 (omega arith) (omega arith))

-- ---- what is printed of a value that is a history's JSON

pub printed : {S E : Type 0} (bytes : S → List ℕ) (history : List Entry) (d : Data) (r : Result S E) → d ≡ history_data history
    → IfOk r (λ s. has_float d ≡ false → bytes s ≡ compact_text d) → IfOk r (λ s. bytes s ≡ dump_of history)
unfolding dump_of
printed bytes history d (Ok s) same h = h (ap has_float same ∙ whole_history history) ∙ ap compact_text same
printed bytes history d (Err e) same h = tt

pub read_again : {S E : Type 0} (bytes : S → List ℕ) (history : List Entry) (d : Data) (r : Result S E) → d ≡ history_data history
    → IfOk r (λ s. depth d ≤ max_depth → read (bytes s) ≡ Some d) → IfOk r (λ s. read (bytes s) ≡ Some (history_data history))
read_again bytes history d (Ok s) same h =
    let shallow : depth d ≤ max_depth = subst (λ (v : Data). depth v ≤ max_depth) (sym same) (deep_enough history) in
    h shallow ∙ ap Some same
  where
    deep_enough : (history : List Entry) → depth (history_data history) ≤ max_depth
    deep_enough history = let deep = deep_history history in omega arith
read_again bytes history d (Err e) same h = tt
