-- A test that nothing is broken: no two of the strings that `Breaks` names have one hash. What passes it has no `Breaks`, so the laws on such a chain say what happened there, and nothing else.
use Rattle.std.proofs.Common.{◌≡◌, ℕ, Bool, true, false, not, List, [], ◌∷◌, ◌++◌, map, Some, sym, ap, ◌∙◌, refl, subst, inl, inr, arith}
use Rattle.std.specs.Prelude.{◌&&◌, ◌||◌, slice_get, codes}
use Rattle.std.specs.List.{Contains, Any, list_all, flat_map}
use Rattle.std.specs.Str.{bytes_eq}
use Rattle.std.proofs.lemmas.Bool.{false≢true, and_parts}
use Rattle.std.proofs.lemmas.List.Elements.{Contains-append_left, Contains-append_right}
use Rattle.std.proofs.lemmas.Slice.Eq.{bytes_eq-Decides}
use Rattle.sha2.specs.Sha256.{sha256}
use Rattle.digest.specs.Hash.{sha256d, hash160, Collide}
use Rattle.digest.specs.Ripemd160.{ripemd160}
use Rattle.tx.specs.declared.input.OutPoint.{OutPoint}
use Rattle.tx.specs.declared.input.TxIn.{TxIn}
use Rattle.tx.specs.Fields.{Transaction, same_outpoint}
use Rattle.tx.specs.Spelling.{stripped_spelling}
use Rattle.sighash.specs.Signing.{all_outpoints, all_sequences, all_outputs}
use Rattle.chain.specs.Blocks.{Contents as Block}
use Rattle.chain.proofs.Noting.{itself}
use Rattle.terms.specs.declared.agreement.Terms.{Terms}
use Rattle.terms.specs.Agreement.{party}
use Rattle.terms.specs.Sides.{other}
use Rattle.commit.specs.declared.outputs.HtlcOutput.{HtlcOutput}
use Rattle.commit.specs.Outputs.{to_local_script, htlc_script}
use Rattle.commit.specs.Commitments.{Contents, transaction_of, htlcs_of, htlc_tx_of}
use Rattle.channel.specs.declared.commitments.CommitmentState.{CommitmentState}
use Rattle.channel.specs.Tokens.{contents_of}
use Rattle.safety.specs.Signing.{Signed, Collision, list_of, ListsCollide, wholes, outpoints, sequences, outputs}
use Rattle.safety.specs.Standing.{StandsAt}
use Rattle.safety.specs.Recorded.{of_commitment, of_htlc}
use Rattle.safety.specs.Strings.{IsHashedForCommitment, of_transaction, of_to_local, of_htlc_script, of_payment_key, of_revocation_key, of_htlc_key, CollideBy, by_sha256, by_sha256d, by_hash160}
use Rattle.safety.specs.Holdings.{Holding, terms_in}
use Rattle.safety.specs.Given.{GivenToken, given_by}
use Rattle.safety.specs.Premises.{LockedOutput, spend, locks_by, keys_by, each_input}
use Rattle.safety.specs.Breaks.{IsSpendOn, IsHashedForId, IsHashedForKey, IsForPeers, IsPaymentHash, Breaks, by_ids, by_keys, by_script, by_key, by_digest, by_preimage}
use Rattle.safety.proofs.Slots.{contains_first, contains_later, same_bytes}
use Rattle.safety.proofs.Lists.{contained, contains_map}
use Rattle.safety.proofs.Tests.{flat_in, all_hold, or_then, on_input}

-- ---- strings and their hashes

-- a string and its hash
pub record Hashed : Type 0 where
  pub bytes : List ℕ
  pub hash : List ℕ

abbrev pub hashed : (List ℕ → List ℕ) → List ℕ → Hashed
hashed f x = record { bytes = x; hash = f x }

-- no two have one hash, but for those that are the same
abbrev pub is_apart : Hashed → Hashed → Bool
is_apart x y = not (bytes_eq x.hash y.hash) || bytes_eq x.bytes y.bytes

abbrev pub are_apart : List Hashed → List Hashed → Bool
are_apart xs ys = list_all (λ x. list_all (is_apart x) ys) xs

two_apart : (f : List ℕ → List ℕ) (a b : List ℕ) → is_apart (hashed f a) (hashed f b) ≡ true → Collide f a b → ⊥
two_apart f a b e c = c.0 (same_bytes a b (or_then (bytes_eq (f a) (f b)) (bytes_eq a b) ((bytes_eq-Decides (f a) (f b)).1 c.1) e))

all_apart : (f : List ℕ → List ℕ) (xs ys : List (List ℕ)) → are_apart (map (hashed f) xs) (map (hashed f) ys) ≡ true → (a b : List ℕ) → Contains xs a → Contains ys b → Collide f a b → ⊥
all_apart f xs ys e a b i j c =
    let p = all_hold (λ (x : Hashed). list_all (is_apart x) (map (hashed f) ys)) (map (hashed f) xs) e (hashed f a) (contains_map (hashed f) xs a i) in
    two_apart f a b (all_hold (is_apart (hashed f a)) (map (hashed f) ys) p (hashed f b) (contains_map (hashed f) ys b j)) c

-- ---- those of the peers' commitments

abbrev pub own_strings : Terms → CommitmentState → Contents → List (List ℕ)
own_strings terms k c =
    stripped_spelling (transaction_of c) ∷ to_local_script c.delay_blocks c.keys ∷ c.keys.remote
    ∷ (codes "revoke" ++ (party (other k.owner) terms).bases.revocation.bytes ++ k.point.bytes)
    ∷ (codes "derive" ++ (party (other k.owner) terms).bases.htlc.bytes ++ k.point.bytes) ∷ []

abbrev pub htlc_strings : Contents → HtlcOutput → List (List ℕ)
htlc_strings c x = stripped_spelling (htlc_tx_of c x) ∷ htlc_script c.keys x.direction x.htlc ∷ []

abbrev pub strings_of : Terms → CommitmentState → List (List ℕ)
strings_of terms k = own_strings terms k (contents_of terms k) ++ flat_map (htlc_strings (contents_of terms k)) (htlcs_of (contents_of terms k))

abbrev pub strings_in : List Holding → List (List ℕ)
strings_in hs = flat_map (λ h. flat_map (strings_of (terms_in h)) h.state.signed) hs

in_own : (terms : Terms) (k : CommitmentState) (bytes : List ℕ) → Contains (own_strings terms k (contents_of terms k)) bytes → Contains (strings_of terms k) bytes
in_own terms k bytes i = Contains-append_left (own_strings terms k (contents_of terms k)) (flat_map (htlc_strings (contents_of terms k)) (htlcs_of (contents_of terms k))) bytes i

in_htlc : (terms : Terms) (k : CommitmentState) (x : HtlcOutput) → Contains (htlcs_of (contents_of terms k)) x → (bytes : List ℕ) → Contains (htlc_strings (contents_of terms k) x) bytes → Contains (strings_of terms k) bytes
in_htlc terms k x i bytes j =
    Contains-append_right (own_strings terms k (contents_of terms k)) (flat_map (htlc_strings (contents_of terms k)) (htlcs_of (contents_of terms k))) bytes
    (flat_in (htlc_strings (contents_of terms k)) (htlcs_of (contents_of terms k)) x bytes i j)

is_string : (terms : Terms) (k : CommitmentState) (bytes : List ℕ) → IsHashedForCommitment terms k bytes → Contains (strings_of terms k) bytes
is_string terms k bytes (of_transaction t (of_commitment e) f) = in_own terms k bytes (0, omega arith, ap stripped_spelling (sym e) ∙ sym f)
is_string terms k bytes (of_transaction t (of_htlc x i e) f) = in_htlc terms k x i bytes (0, omega arith, ap stripped_spelling (sym e) ∙ sym f)
is_string terms k bytes (of_to_local f) = in_own terms k bytes (1, omega arith, sym f)
is_string terms k bytes (of_htlc_script x i f) = in_htlc terms k x i bytes (1, omega arith, sym f)
is_string terms k bytes (of_payment_key f) = in_own terms k bytes (2, omega arith, sym f)
is_string terms k bytes (of_revocation_key f) = in_own terms k bytes (3, omega arith, sym f)
is_string terms k bytes (of_htlc_key f) = in_own terms k bytes (4, omega arith, sym f)

peers_string : (IsHashed : Terms → CommitmentState → List ℕ → Type 0) → ((terms : Terms) (k : CommitmentState) (bytes : List ℕ) → IsHashed terms k bytes → Contains (strings_of terms k) bytes)
    → (hs : List Holding) (bytes : List ℕ) → IsForPeers IsHashed hs bytes → Contains (strings_in hs) bytes
peers_string IsHashed is_one hs bytes p =
    flat_in (λ (h : Holding). flat_map (strings_of (terms_in h)) h.state.signed) hs p.holding bytes p.held
    (flat_in (strings_of (terms_in p.holding)) p.holding.state.signed p.commitment bytes (contained p.holding.state.signed p.number p.commitment p.signed)
    (is_one (terms_in p.holding) p.commitment bytes p.is))

for_id : (terms : Terms) (k : CommitmentState) (bytes : List ℕ) → IsHashedForId terms k bytes → Contains (strings_of terms k) bytes
for_id terms k bytes i = is_string terms k bytes (of_transaction i.0 i.1 i.2)

for_key : (terms : Terms) (k : CommitmentState) (bytes : List ℕ) → IsHashedForKey terms k bytes → Contains (strings_of terms k) bytes
for_key terms k bytes (inl e) = is_string terms k bytes (of_revocation_key e)
for_key terms k bytes (inr e) = is_string terms k bytes (of_htlc_key e)

-- under each of the three hashes
abbrev pub strings_apart : List (List ℕ) → Bool
strings_apart xs = (are_apart (map (hashed sha256) xs) (map (hashed sha256) xs) && are_apart (map (hashed sha256d) xs) (map (hashed sha256d) xs)) && are_apart (map (hashed hash160) xs) (map (hashed hash160) xs)

no_strings : (xs : List (List ℕ)) → strings_apart xs ≡ true → (a b : List ℕ) → Contains xs a → Contains xs b → CollideBy a b → ⊥
no_strings xs e a b i j c =
    let first = and_parts (are_apart (map (hashed sha256) xs) (map (hashed sha256) xs) && are_apart (map (hashed sha256d) xs) (map (hashed sha256d) xs)) (are_apart (map (hashed hash160) xs) (map (hashed hash160) xs)) e in
    let second = and_parts (are_apart (map (hashed sha256) xs) (map (hashed sha256) xs)) (are_apart (map (hashed sha256d) xs) (map (hashed sha256d) xs)) first.0 in
    by second.0 second.1 first.1 c
  where
    by : are_apart (map (hashed sha256) xs) (map (hashed sha256) xs) ≡ true → are_apart (map (hashed sha256d) xs) (map (hashed sha256d) xs) ≡ true → are_apart (map (hashed hash160) xs) (map (hashed hash160) xs) ≡ true
        → CollideBy a b → ⊥
    by f g h (by_sha256 z) = all_apart sha256 xs xs f a b i j z
    by f g h (by_sha256d z) = all_apart sha256d xs xs g a b i j z
    by f g h (by_hash160 z) = all_apart hash160 xs xs h a b i j z

-- ---- those of an input

-- what is hashed for two digests
abbrev pub lists_apart : Signed → Signed → Bool
lists_apart s z = is_apart (hashed sha256d (list_of s)) (hashed sha256d (list_of z))
    && (is_apart (hashed sha256d (all_outpoints s.transaction.inputs)) (hashed sha256d (all_outpoints z.transaction.inputs))
    && (is_apart (hashed sha256d (all_sequences s.transaction.inputs)) (hashed sha256d (all_sequences z.transaction.inputs))
    && is_apart (hashed sha256d (all_outputs s.transaction.outputs)) (hashed sha256d (all_outputs z.transaction.outputs))))

no_lists : (s z : Signed) → lists_apart s z ≡ true → ListsCollide s z → ⊥
no_lists s z e c =
    let a = and_parts (is_apart (hashed sha256d (list_of s)) (hashed sha256d (list_of z))) _ e in
    let b = and_parts (is_apart (hashed sha256d (all_outpoints s.transaction.inputs)) (hashed sha256d (all_outpoints z.transaction.inputs))) _ a.1 in
    let d = and_parts (is_apart (hashed sha256d (all_sequences s.transaction.inputs)) (hashed sha256d (all_sequences z.transaction.inputs))) _ b.1 in
    by a.0 b.0 d.0 d.1 c
  where
    by : is_apart (hashed sha256d (list_of s)) (hashed sha256d (list_of z)) ≡ true → is_apart (hashed sha256d (all_outpoints s.transaction.inputs)) (hashed sha256d (all_outpoints z.transaction.inputs)) ≡ true
        → is_apart (hashed sha256d (all_sequences s.transaction.inputs)) (hashed sha256d (all_sequences z.transaction.inputs)) ≡ true
        → is_apart (hashed sha256d (all_outputs s.transaction.outputs)) (hashed sha256d (all_outputs z.transaction.outputs)) ≡ true → ListsCollide s z → ⊥
    by f g h i (wholes x) = two_apart sha256d (list_of s) (list_of z) f x
    by f g h i (outpoints x) = two_apart sha256d (all_outpoints s.transaction.inputs) (all_outpoints z.transaction.inputs) g x
    by f g h i (sequences x) = two_apart sha256d (all_sequences s.transaction.inputs) (all_sequences z.transaction.inputs) h x
    by f g h i (outputs x) = two_apart sha256d (all_outputs s.transaction.outputs) (all_outputs z.transaction.outputs) i x

abbrev pub payment_hashes : List Holding → List (List ℕ)
payment_hashes hs = flat_map (λ h. flat_map (λ k. map (λ x. x.htlc.hash) (htlcs_of (contents_of (terms_in h) k))) h.state.signed) hs

is_payment_hash : (hs : List Holding) (hash : List ℕ) → IsForPeers IsPaymentHash hs hash → Contains (payment_hashes hs) hash
is_payment_hash hs hash p =
    flat_in (λ (h : Holding). flat_map (λ (k : CommitmentState). map (λ (x : HtlcOutput). x.htlc.hash) (htlcs_of (contents_of (terms_in h) k))) h.state.signed) hs p.holding hash p.held
    (flat_in (λ (k : CommitmentState). map (λ (x : HtlcOutput). x.htlc.hash) (htlcs_of (contents_of (terms_in p.holding) k))) p.holding.state.signed p.commitment hash
    (contained p.holding.state.signed p.number p.commitment p.signed)
    (subst (λ (h : List ℕ). Contains (map (λ (x : HtlcOutput). x.htlc.hash) (htlcs_of (contents_of (terms_in p.holding) p.commitment))) h) (sym p.is.2)
    (contains_map (λ (x : HtlcOutput). x.htlc.hash) (htlcs_of (contents_of (terms_in p.holding) p.commitment)) p.is.0 p.is.1)))

-- an input that spends an output
abbrev pub input_apart : (keys : List Hashed) (given : List GivenToken) (hashes : List Hashed) → LockedOutput → Transaction → TxIn → Bool
input_apart keys given hashes w t input = are_apart (map (hashed sha256) input.witness) (map (hashed sha256) (w.code ∷ []))
    && (are_apart (map (hashed hash160) input.witness) keys
    && (list_all (λ z. lists_apart (spend w t input) z.over) given
    && are_apart (map (hashed ripemd160) (map sha256 input.witness)) hashes))

abbrev pub when : Bool → (LockedOutput → Transaction → TxIn → Bool) → LockedOutput → Transaction → TxIn → Bool
when true test w t input = test w t input
when false test w t input = true

abbrev pub each_named : (LockedOutput → Transaction → TxIn → Bool) → List LockedOutput → Transaction → TxIn → Bool
each_named test ws t input = list_all (λ w. when (same_outpoint input.outpoint w.place.outpoint) test w t input) ws

on_named : (test : LockedOutput → Transaction → TxIn → Bool) (ws : List LockedOutput) (t : Transaction) (input : TxIn) → each_named test ws t input ≡ true → (w : LockedOutput) → Contains ws w → input.outpoint ≡ w.place.outpoint
    → test w t input ≡ true
on_named test ws t input e w i names =
    let p = all_hold (λ (x : LockedOutput). when (same_outpoint input.outpoint x.place.outpoint) test x t input) ws e w i in
    let here : same_outpoint input.outpoint w.place.outpoint ≡ true = ap (λ (o : OutPoint). same_outpoint input.outpoint o) (sym names) ∙ itself input.outpoint in
    sym (ap (λ (b : Bool). when b test w t input) here) ∙ p

-- ---- nothing is broken

abbrev pub inputs_apart : List Holding → List Block → Bool
inputs_apart hs blocks = each_input (each_named (input_apart (map (hashed hash160) (keys_by hs)) (given_by hs) (map (hashed ripemd160) (payment_hashes hs))) (locks_by hs)) blocks

abbrev pub is_unbroken : List Holding → List Block → Bool
is_unbroken hs blocks = strings_apart (strings_in hs) && inputs_apart hs blocks

abbrev InputApart : List Holding → LockedOutput → Transaction → TxIn → Type 0
InputApart hs w t input = input_apart (map (hashed hash160) (keys_by hs)) (given_by hs) (map (hashed ripemd160) (payment_hashes hs)) w t input ≡ true

at_spend : (hs : List Holding) (blocks : List Block) → inputs_apart hs blocks ≡ true → (s : Signed) (on : IsSpendOn hs blocks s) → InputApart hs on.lock s.transaction s.input
at_spend hs blocks e s on =
    on_named (input_apart (map (hashed hash160) (keys_by hs)) (given_by hs) (map (hashed ripemd160) (payment_hashes hs))) (locks_by hs) s.transaction s.input
    (on_input (each_named (input_apart (map (hashed hash160) (keys_by hs)) (given_by hs) (map (hashed ripemd160) (payment_hashes hs))) (locks_by hs)) blocks e on.height s.transaction s.input on.stands on.within)
    on.lock on.locked on.names

-- it is over that output
as_spend : (hs : List Holding) (blocks : List Block) (s : Signed) (on : IsSpendOn hs blocks s) → s ≡ spend on.lock s.transaction s.input
as_spend hs blocks s on =
    ap (λ (code : List ℕ). record { transaction = s.transaction; input = s.input; code = code; value = s.value }) on.code
    ∙ ap (λ (value : ℕ). record { transaction = s.transaction; input = s.input; code = on.lock.code; value = value }) on.value

record Parts (hs : List Holding) (w : LockedOutput) (t : Transaction) (input : TxIn) : Type 0 where
  scripts : are_apart (map (hashed sha256) input.witness) (map (hashed sha256) (w.code ∷ [])) ≡ true
  keys : are_apart (map (hashed hash160) input.witness) (map (hashed hash160) (keys_by hs)) ≡ true
  digests : list_all (λ (z : GivenToken). lists_apart (spend w t input) z.over) (given_by hs) ≡ true
  hashes : are_apart (map (hashed ripemd160) (map sha256 input.witness)) (map (hashed ripemd160) (payment_hashes hs)) ≡ true

parts_of : (hs : List Holding) (w : LockedOutput) (t : Transaction) (input : TxIn) → InputApart hs w t input → Parts hs w t input
parts_of hs w t input e =
    let a = and_parts (are_apart (map (hashed sha256) input.witness) (map (hashed sha256) (w.code ∷ []))) _ e in
    let b = and_parts (are_apart (map (hashed hash160) input.witness) (map (hashed hash160) (keys_by hs))) _ a.1 in
    let d = and_parts (list_all (λ (z : GivenToken). lists_apart (spend w t input) z.over) (given_by hs)) _ b.1 in
    record { scripts = a.0; keys = b.0; digests = d.0; hashes = d.1 }

pub unbroken : (hs : List Holding) (blocks : List Block) → is_unbroken hs blocks ≡ true → Breaks hs blocks → ⊥
unbroken hs blocks e (by_ids z) =
    no_strings (strings_in hs) (and_parts (strings_apart (strings_in hs)) (inputs_apart hs blocks) e).0 z.first z.second (peers_string IsHashedForId for_id hs z.first z.of_first)
    (peers_string IsHashedForId for_id hs z.second z.of_second) (by_sha256d z.collide)
unbroken hs blocks e (by_keys z) =
    no_strings (strings_in hs) (and_parts (strings_apart (strings_in hs)) (inputs_apart hs blocks) e).0 z.first z.second (peers_string IsHashedForKey for_key hs z.first z.of_first)
    (peers_string IsHashedForKey for_key hs z.second z.of_second) (by_sha256 z.collide)
unbroken hs blocks e (by_script s on z) =
    let p = parts_of hs on.lock s.transaction s.input (at_spend hs blocks (and_parts (strings_apart (strings_in hs)) (inputs_apart hs blocks) e).1 s on) in
    all_apart sha256 s.input.witness (on.lock.code ∷ []) p.scripts z.first z.second z.of_first (0, omega arith, sym (z.of_second ∙ on.code)) z.collide
unbroken hs blocks e (by_key s on key i z) =
    let p = parts_of hs on.lock s.transaction s.input (at_spend hs blocks (and_parts (strings_apart (strings_in hs)) (inputs_apart hs blocks) e).1 s on) in
    all_apart hash160 s.input.witness (keys_by hs) p.keys z.first z.second z.of_first (subst (λ (x : List ℕ). Contains (keys_by hs) x) (sym z.of_second) i) z.collide
unbroken hs blocks e (by_digest s on (k, z, l, same, c)) =
    let p = parts_of hs on.lock s.transaction s.input (at_spend hs blocks (and_parts (strings_apart (strings_in hs)) (inputs_apart hs blocks) e).1 s on) in
    no_lists (spend on.lock s.transaction s.input) z.over (all_hold (λ (y : GivenToken). lists_apart (spend on.lock s.transaction s.input) y.over) (given_by hs) p.digests z (k, l, same))
    (subst (λ (y : Signed). ListsCollide y z.over) (as_spend hs blocks s on) c)
unbroken hs blocks e (by_preimage s on z) =
    let p = parts_of hs on.lock s.transaction s.input (at_spend hs blocks (and_parts (strings_apart (strings_in hs)) (inputs_apart hs blocks) e).1 s on) in
    let item = z.of_first in
    all_apart ripemd160 (map sha256 s.input.witness) (payment_hashes hs) p.hashes z.first z.second
    (subst (λ (x : List ℕ). Contains (map sha256 s.input.witness) x) (sym item.2) (contains_map sha256 s.input.witness item.0 item.1)) (is_payment_hash hs z.second z.of_second) z.collide
