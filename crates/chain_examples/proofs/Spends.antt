-- The inputs of a chain that name outputs of a node's channels, as a list; and by it what the laws on one node against everybody ask of tokens, and that nothing is broken.
use Rattle.std.proofs.Common.{◌≡◌, ℕ, Bool, true, false, List, [], ◌∷◌, ◌++◌, map, sym, ap, ◌∙◌, refl, subst, inl, inr, ⊎_elim, arith}
use Rattle.std.specs.Prelude.{◌&&◌}
use Rattle.std.specs.List.{Contains, list_all, flat_map}
use Rattle.std.proofs.lemmas.Bool.{false≢true, and_parts}
use Rattle.std.proofs.lemmas.List.Elements.{Contains-append_left, Contains-append_right}
use Rattle.sha2.specs.Sha256.{sha256}
use Rattle.digest.specs.Hash.{sha256d, hash160}
use Rattle.digest.specs.Ripemd160.{ripemd160}
use Rattle.script.specs.Token.{token_of}
use Rattle.tx.specs.declared.input.OutPoint.{OutPoint}
use Rattle.tx.specs.declared.input.TxIn.{TxIn}
use Rattle.tx.specs.Fields.{Transaction, same_outpoint}
use Rattle.tx.specs.Spelling.{stripped_spelling}
use Rattle.sighash.specs.Signing.{all_outpoints, all_sequences, all_outputs}
use Rattle.chain.specs.Blocks.{Contents as Block}
use Rattle.chain.proofs.Noting.{itself}
use Rattle.terms.specs.declared.agreement.Terms.{Terms}
use Rattle.commit.specs.declared.outputs.HtlcOutput.{HtlcOutput}
use Rattle.commit.specs.Commitments.{htlcs_of}
use Rattle.channel.specs.declared.commitments.CommitmentState.{CommitmentState}
use Rattle.channel.specs.Tokens.{contents_of}
use Rattle.safety.specs.Signing.{Signed, list_of, digest_of, ListsCollide, wholes, outpoints, sequences, outputs}
use Rattle.safety.specs.Standing.{StandsAt}
use Rattle.safety.specs.Recorded.{of_commitment, of_htlc}
use Rattle.safety.specs.Strings.{IsHashedForCommitment, of_transaction, of_to_local, of_htlc_script, of_payment_key, of_revocation_key, of_htlc_key}
use Rattle.safety.specs.Holdings.{Holding, terms_in}
use Rattle.safety.specs.Given.{GivenToken, token_bytes, given_by}
use Rattle.safety.specs.Premises.{LockedOutput, spend, locks_by, keys_by, each_input, if_named, each_spend, shows_given, are_own}
use Rattle.safety.specs.Breaks.{IsSpendOn, IsHashedForId, IsHashedForKey, IsForPeers, IsPaymentHash, Breaks, by_ids, by_keys, by_script, by_key, by_digest, by_preimage}
use Rattle.safety.proofs.Slots.{contains_first, contains_later, contains_cases}
use Rattle.safety.proofs.Lists.{contained, contains_none, contains_map, both}
use Rattle.safety.proofs.Tests.{flat_in, on_input, on_spend}
use Rattle.safety.proofs.Standing.{block_in}
use Rattle.safety.proofs.Unbroken.{own_strings, htlc_strings, strings_of, strings_in, payment_hashes}
use Rattle.chain_examples.proofs.Marks.{beginning, beginnings, NoneCollide}

-- ---- the inputs that name an output

pub record Naming : Type 0 where
  pub transaction : Transaction
  pub input : TxIn
  pub lock : LockedOutput

abbrev pub naming : Transaction → TxIn → LockedOutput → Naming
naming t input w = record { transaction = t; input = input; lock = w }

-- what a token in it is over
abbrev pub over : Naming → Signed
over n = spend n.lock n.transaction n.input

abbrev pub digest_over : Naming → List ℕ
digest_over n = digest_of (over n)

abbrev pub if_so : Bool → Naming → List Naming → List Naming
if_so true n ns = n ∷ ns
if_so false n ns = ns

abbrev pub named_by : List LockedOutput → Transaction → TxIn → List Naming
named_by [] t input = []
named_by (w ∷ ws) t input = if_so (same_outpoint input.outpoint w.place.outpoint) (naming t input w) (named_by ws t input)

abbrev pub namings : List LockedOutput → List Block → List Naming
namings ws blocks = flat_map (λ b. flat_map (λ t. flat_map (named_by ws t) t.inputs) b.transactions) blocks

put_first : (b : Bool) (n : Naming) (ns : List Naming) → b ≡ true → Contains (if_so b n ns) n
put_first true n ns e = contains_first n ns
put_first false n ns e = absurd (false≢true e)

put_before : (b : Bool) (n : Naming) (ns : List Naming) (m : Naming) → Contains ns m → Contains (if_so b n ns) m
put_before true n ns m i = contains_later n ns m i
put_before false n ns m i = i

named_in : (ws : List LockedOutput) (t : Transaction) (input : TxIn) (w : LockedOutput) → Contains ws w → input.outpoint ≡ w.place.outpoint → Contains (named_by ws t input) (naming t input w)
named_in [] t input w i names = absurd (contains_none w i)
named_in (v ∷ ws) t input w i names =
    let here : same_outpoint input.outpoint w.place.outpoint ≡ true = ap (λ (o : OutPoint). same_outpoint input.outpoint o) (sym names) ∙ itself input.outpoint in
    ⊎_elim {C = Contains (named_by (v ∷ ws) t input) (naming t input w)}
    (λ (e : v ≡ w).
    subst (λ (x : LockedOutput). Contains (if_so (same_outpoint input.outpoint x.place.outpoint) (naming t input x) (named_by ws t input)) (naming t input w)) (sym e)
    (put_first (same_outpoint input.outpoint w.place.outpoint) (naming t input w) (named_by ws t input) here))
    (λ (k : Contains ws w). put_before (same_outpoint input.outpoint v.place.outpoint) (naming t input v) (named_by ws t input) (naming t input w) (named_in ws t input w k names))
    (contains_cases v ws w i)

pub is_naming : (ws : List LockedOutput) (blocks : List Block) (height : ℕ) (t : Transaction) (input : TxIn) → StandsAt blocks height t → Contains t.inputs input → (w : LockedOutput) → Contains ws w → input.outpoint ≡ w.place.outpoint
    → Contains (namings ws blocks) (naming t input w)
is_naming ws blocks height t input s i w k names =
    flat_in (λ (b : Block). flat_map (λ (u : Transaction). flat_map (named_by ws u) u.inputs) b.transactions) blocks s.block (naming t input w) (block_in blocks height t s)
    (flat_in (λ (u : Transaction). flat_map (named_by ws u) u.inputs) s.block.transactions t (naming t input w) s.within
    (flat_in (named_by ws t) t.inputs input (naming t input w) i (named_in ws t input w k names)))

-- ---- tokens

abbrev pub shows : (List (List ℕ) → List ℕ → Bool) → Naming → Bool
shows test n = test n.input.witness (digest_over n)

all_append : {X : Type 0} (p : X → Bool) (xs ys : List X) → list_all p (xs ++ ys) ≡ true → (list_all p xs ≡ true) × (list_all p ys ≡ true)
all_append p [] ys e = (refl, e)
all_append p (x ∷ xs) ys e =
    let r = and_parts (p x) (list_all p (xs ++ ys)) e in
    let s = all_append p xs ys r.1 in
    (both (p x) (list_all p xs) r.0 s.0, s.1)

all_flat : {X Y : Type 0} (p : Y → Bool) (f : X → List Y) (q : X → Bool) → ((x : X) → list_all p (f x) ≡ true → q x ≡ true) → (xs : List X) → list_all p (flat_map f xs) ≡ true → list_all q xs ≡ true
all_flat p f q sound [] e = refl
all_flat p f q sound (x ∷ xs) e = let r = all_append p (f x) (flat_map f xs) e in both (q x) (list_all q xs) (sound x r.0) (all_flat p f q sound xs r.1)

one_more : (b : Bool) (test : List (List ℕ) → List ℕ → Bool) (w : LockedOutput) (ws : List LockedOutput) (t : Transaction) (input : TxIn)
    → (list_all (shows test) (named_by ws t input) ≡ true → each_spend test ws t input ≡ true) → list_all (shows test) (if_so b (naming t input w) (named_by ws t input)) ≡ true
    → (if_named b (test input.witness) w t input && each_spend test ws t input) ≡ true
one_more true test w ws t input rest e =
    let r = and_parts (test input.witness (digest_of (spend w t input))) (list_all (shows test) (named_by ws t input)) e in
    both (test input.witness (digest_of (spend w t input))) (each_spend test ws t input) r.0 (rest r.1)
one_more false test w ws t input rest e = rest e

each_one : (test : List (List ℕ) → List ℕ → Bool) (ws : List LockedOutput) (t : Transaction) (input : TxIn) → list_all (shows test) (named_by ws t input) ≡ true → each_spend test ws t input ≡ true
each_one test [] t input e = refl
each_one test (w ∷ ws) t input e = one_more (same_outpoint input.outpoint w.place.outpoint) test w ws t input (each_one test ws t input) e

pub each_shows : (test : List (List ℕ) → List ℕ → Bool) (ws : List LockedOutput) (blocks : List Block) → list_all (shows test) (namings ws blocks) ≡ true → each_input (each_spend test ws) blocks ≡ true
each_shows test ws blocks e =
    all_flat (shows test) (λ (b : Block). flat_map (λ (t : Transaction). flat_map (named_by ws t) t.inputs) b.transactions) (λ (b : Block). list_all (λ (t : Transaction). list_all (each_spend test ws t) t.inputs) b.transactions)
    (λ (b : Block).
    all_flat (shows test) (λ (t : Transaction). flat_map (named_by ws t) t.inputs) (λ (t : Transaction). list_all (each_spend test ws t) t.inputs)
    (λ (t : Transaction). all_flat (shows test) (named_by ws t) (each_spend test ws t) (each_one test ws t) t.inputs) b.transactions) blocks e

-- with a table of the digests
abbrev pub all_given : (given keys : List (List ℕ)) → List Naming → List (List ℕ) → Bool
all_given given keys [] ds = true
all_given given keys (n ∷ ns) [] = false
all_given given keys (n ∷ ns) (d ∷ ds) = shows_given given keys n.input.witness d && all_given given keys ns ds

by_digests : (given keys : List (List ℕ)) (ns : List Naming) → all_given given keys ns (map digest_over ns) ≡ true → list_all (shows (shows_given given keys)) ns ≡ true
by_digests given keys [] e = refl
by_digests given keys (n ∷ ns) e =
    let r = and_parts (shows_given given keys n.input.witness (digest_over n)) (all_given given keys ns (map digest_over ns)) e in
    both (shows_given given keys n.input.witness (digest_over n)) (list_all (shows (shows_given given keys)) ns) r.0 (by_digests given keys ns r.1)

-- the tokens of these digests, and what is hashed for digests, by tables of those
abbrev pub signed_over : GivenToken → List ℕ
signed_over z = digest_of z.over

abbrev pub tokens_with : List GivenToken → List (List ℕ) → List (List ℕ)
tokens_with [] ds = []
tokens_with (z ∷ zs) [] = []
tokens_with (z ∷ zs) (d ∷ ds) = token_of z.key d ∷ tokens_with zs ds

tokens_map : (zs : List GivenToken) → map token_bytes zs ≡ tokens_with zs (map signed_over zs)
tokens_map [] = refl
tokens_map (z ∷ zs) = ap (λ (ts : List (List ℕ)). token_bytes z ∷ ts) (tokens_map zs)

pub tokens_from : (zs : List GivenToken) (ds : List (List ℕ)) → map signed_over zs ≡ ds → map token_bytes zs ≡ tokens_with zs ds
tokens_from zs ds e = tokens_map zs ∙ ap (tokens_with zs) e

-- the premise, by tables of the given tokens, the keys and the outputs
own_by : (hs : List Holding) (blocks : List Block) (given keys : List (List ℕ)) (ws : List LockedOutput) → map token_bytes (given_by hs) ≡ given → keys_by hs ≡ keys → locks_by hs ≡ ws
    → are_own hs blocks ≡ each_input (each_spend (shows_given given keys) ws) blocks
own_by hs blocks given keys ws g k l =
    ap (λ (x : List (List ℕ)). each_input (each_spend (shows_given x (keys_by hs)) (locks_by hs)) blocks) g ∙ ap (λ (x : List (List ℕ)). each_input (each_spend (shows_given given x) (locks_by hs)) blocks) k
    ∙ ap (λ (x : List LockedOutput). each_input (each_spend (shows_given given keys) x) blocks) l

-- it is met where the tables of the inputs and of their digests say that no other token is shown
pub owns : (hs : List Holding) (blocks : List Block) (given keys : List (List ℕ)) (ws : List LockedOutput) (ns : List Naming) (ds : List (List ℕ)) → map token_bytes (given_by hs) ≡ given → keys_by hs ≡ keys → locks_by hs ≡ ws
    → namings ws blocks ≡ ns → map digest_over ns ≡ ds → all_given given keys ns ds ≡ true → are_own hs blocks ≡ true
owns hs blocks given keys ws ns ds g k l n d e =
    let a : list_all (shows (shows_given given keys)) ns ≡ true = by_digests given keys ns (ap (all_given given keys ns) d ∙ e) in
    let b : list_all (shows (shows_given given keys)) (namings ws blocks) ≡ true = ap (list_all (shows (shows_given given keys))) n ∙ a in
    own_by hs blocks given keys ws g k l ∙ each_shows (shows_given given keys) ws blocks b

-- where it is met, an input that names an output shows none but the given ones
pub shown : (hs : List Holding) (blocks : List Block) (given keys : List (List ℕ)) (ws : List LockedOutput) → map token_bytes (given_by hs) ≡ given → keys_by hs ≡ keys → locks_by hs ≡ ws → are_own hs blocks ≡ true
    → (height : ℕ) (t : Transaction) (input : TxIn) (w : LockedOutput) (digest : List ℕ) → StandsAt blocks height t → Contains t.inputs input → Contains ws w → input.outpoint ≡ w.place.outpoint
    → digest_over (naming t input w) ≡ digest → shows_given given keys input.witness digest ≡ true
shown hs blocks given keys ws g k l e height t input w digest s i j names d =
    let p = on_input (each_spend (shows_given given keys) ws) blocks (sym (own_by hs blocks given keys ws g k l) ∙ e) height t input s i in
    sym (ap (shows_given given keys input.witness) d) ∙ on_spend (shows_given given keys) ws t input p w j names

-- ---- the strings of the peers' commitments

in_own : (terms : Terms) (k : CommitmentState) (bytes : List ℕ) → Contains (own_strings terms k (contents_of terms k)) bytes → Contains (strings_of terms k) bytes
in_own terms k bytes i = Contains-append_left (own_strings terms k (contents_of terms k)) (flat_map (htlc_strings (contents_of terms k)) (htlcs_of (contents_of terms k))) bytes i

in_htlc : (terms : Terms) (k : CommitmentState) (x : HtlcOutput) → Contains (htlcs_of (contents_of terms k)) x → (bytes : List ℕ) → Contains (htlc_strings (contents_of terms k) x) bytes → Contains (strings_of terms k) bytes
in_htlc terms k x i bytes j =
    Contains-append_right (own_strings terms k (contents_of terms k)) (flat_map (htlc_strings (contents_of terms k)) (htlcs_of (contents_of terms k))) bytes
    (flat_in (htlc_strings (contents_of terms k)) (htlcs_of (contents_of terms k)) x bytes i j)

is_string : (terms : Terms) (k : CommitmentState) (bytes : List ℕ) → IsHashedForCommitment terms k bytes → Contains (strings_of terms k) bytes
is_string terms k bytes (of_transaction t (of_commitment e) f) = in_own terms k bytes (0, omega arith, ap stripped_spelling (sym e) ∙ sym f)
is_string terms k bytes (of_transaction t (of_htlc x i e) f) = in_htlc terms k x i bytes (0, omega arith, ap stripped_spelling (sym e) ∙ sym f)
is_string terms k bytes (of_to_local f) = in_own terms k bytes (1, omega arith, sym f)
is_string terms k bytes (of_htlc_script x i f) = in_htlc terms k x i bytes (1, omega arith, sym f)
is_string terms k bytes (of_payment_key f) = in_own terms k bytes (2, omega arith, sym f)
is_string terms k bytes (of_revocation_key f) = in_own terms k bytes (3, omega arith, sym f)
is_string terms k bytes (of_htlc_key f) = in_own terms k bytes (4, omega arith, sym f)

peers_string : (IsHashed : Terms → CommitmentState → List ℕ → Type 0) → ((terms : Terms) (k : CommitmentState) (bytes : List ℕ) → IsHashed terms k bytes → Contains (strings_of terms k) bytes)
    → (hs : List Holding) (bytes : List ℕ) → IsForPeers IsHashed hs bytes → Contains (strings_in hs) bytes
peers_string IsHashed is_one hs bytes p =
    flat_in (λ (h : Holding). flat_map (strings_of (terms_in h)) h.state.signed) hs p.holding bytes p.held
    (flat_in (strings_of (terms_in p.holding)) p.holding.state.signed p.commitment bytes (contained p.holding.state.signed p.number p.commitment p.signed)
    (is_one (terms_in p.holding) p.commitment bytes p.is))

for_id : (terms : Terms) (k : CommitmentState) (bytes : List ℕ) → IsHashedForId terms k bytes → Contains (strings_of terms k) bytes
for_id terms k bytes i = is_string terms k bytes (of_transaction i.0 i.1 i.2)

for_key : (terms : Terms) (k : CommitmentState) (bytes : List ℕ) → IsHashedForKey terms k bytes → Contains (strings_of terms k) bytes
for_key terms k bytes (inl e) = is_string terms k bytes (of_revocation_key e)
for_key terms k bytes (inr e) = is_string terms k bytes (of_htlc_key e)

is_payment_hash : (hs : List Holding) (hash : List ℕ) → IsForPeers IsPaymentHash hs hash → Contains (payment_hashes hs) hash
is_payment_hash hs hash p =
    flat_in (λ (h : Holding). flat_map (λ (k : CommitmentState). map (λ (x : HtlcOutput). x.htlc.hash) (htlcs_of (contents_of (terms_in h) k))) h.state.signed) hs p.holding hash p.held
    (flat_in (λ (k : CommitmentState). map (λ (x : HtlcOutput). x.htlc.hash) (htlcs_of (contents_of (terms_in p.holding) k))) p.holding.state.signed p.commitment hash
    (contained p.holding.state.signed p.number p.commitment p.signed)
    (subst (λ (h : List ℕ). Contains (map (λ (x : HtlcOutput). x.htlc.hash) (htlcs_of (contents_of (terms_in p.holding) p.commitment))) h) (sym p.is.2)
    (contains_map (λ (x : HtlcOutput). x.htlc.hash) (htlcs_of (contents_of (terms_in p.holding) p.commitment)) p.is.0 p.is.1)))

-- ---- nothing is broken

abbrev pub items_of : List Naming → List (List ℕ)
items_of ns = flat_map (λ n. n.input.witness) ns

abbrev pub codes_of : List Naming → List (List ℕ)
codes_of ns = map (λ n. n.lock.code) ns

-- what is hashed for digests: those of inputs, and those of the tokens that the node gave out
abbrev pub inputs_by : (Signed → List ℕ) → List Naming → List (List ℕ)
inputs_by list ns = map (λ n. list (over n)) ns

abbrev pub tokens_by : (Signed → List ℕ) → List GivenToken → List (List ℕ)
tokens_by list zs = map (λ z. list z.over) zs

inputs_map : (ns : List Naming) → beginnings sha256d (inputs_by list_of ns) ≡ map beginning (map digest_over ns)
inputs_map [] = refl
inputs_map (n ∷ ns) = ap (λ (ks : List ℕ). beginning (digest_over n) ∷ ks) (inputs_map ns)

tokens_listed : (zs : List GivenToken) → beginnings sha256d (tokens_by list_of zs) ≡ map beginning (map signed_over zs)
tokens_listed [] = refl
tokens_listed (z ∷ zs) = ap (λ (ks : List ℕ). beginning (signed_over z) ∷ ks) (tokens_listed zs)

pub inputs_from : (ns : List Naming) (ds : List (List ℕ)) → map digest_over ns ≡ ds → beginnings sha256d (inputs_by list_of ns) ≡ map beginning ds
inputs_from ns ds e = inputs_map ns ∙ ap (map beginning) e

pub lists_from : (zs : List GivenToken) (ds : List (List ℕ)) → map signed_over zs ≡ ds → beginnings sha256d (tokens_by list_of zs) ≡ map beginning ds
lists_from zs ds e = tokens_listed zs ∙ ap (map beginning) e

abbrev pub outpoints_in : Signed → List ℕ
outpoints_in s = all_outpoints s.transaction.inputs

abbrev pub sequences_in : Signed → List ℕ
sequences_in s = all_sequences s.transaction.inputs

abbrev pub outputs_paid : Signed → List ℕ
outputs_paid s = all_outputs s.transaction.outputs

-- no two of the strings that `Breaks` names have one hash
pub record AreWhole (hs : List Holding) (keys : List (List ℕ)) (given : List GivenToken) (ns : List Naming) : Type 0 where
  pub once : NoneCollide sha256 (strings_in hs) (strings_in hs)
  pub twice : NoneCollide sha256d (strings_in hs) (strings_in hs)
  pub short : NoneCollide hash160 (strings_in hs) (strings_in hs)
  pub scripts : NoneCollide sha256 (items_of ns) (codes_of ns)
  pub keys_shown : NoneCollide hash160 (items_of ns) keys
  pub preimages : NoneCollide ripemd160 (map sha256 (items_of ns)) (payment_hashes hs)
  pub lists : NoneCollide sha256d (inputs_by list_of ns) (tokens_by list_of given)
  pub points : NoneCollide sha256d (inputs_by outpoints_in ns) (tokens_by outpoints_in given)
  pub ages : NoneCollide sha256d (inputs_by sequences_in ns) (tokens_by sequences_in given)
  pub payments : NoneCollide sha256d (inputs_by outputs_paid ns) (tokens_by outputs_paid given)

module _ (hs : List Holding) (blocks : List Block) (keys : List (List ℕ)) (given : List GivenToken) (ws : List LockedOutput) (ns : List Naming) (k : keys_by hs ≡ keys) (g : given_by hs ≡ given) (l : locks_by hs ≡ ws) (n : namings ws blocks ≡ ns)
    (whole : AreWhole hs keys given ns) where
  abbrev it : (s : Signed) → IsSpendOn hs blocks s → Naming
  it s on = naming s.transaction s.input on.lock

  named : (s : Signed) (on : IsSpendOn hs blocks s) → Contains ns (it s on)
  named s on =
      subst (λ (ms : List Naming). Contains ms (it s on)) (ap (λ (vs : List LockedOutput). namings vs blocks) l ∙ n)
      (is_naming (locks_by hs) blocks on.height s.transaction s.input on.stands on.within on.lock on.locked on.names)

  item_in : (s : Signed) (on : IsSpendOn hs blocks s) (item : List ℕ) → Contains s.input.witness item → Contains (items_of ns) item
  item_in s on item i = flat_in (λ (m : Naming). m.input.witness) ns (it s on) item (named s on) i

  -- it is over that output
  as_spend : (s : Signed) (on : IsSpendOn hs blocks s) → s ≡ over (it s on)
  as_spend s on =
      ap (λ (code : List ℕ). record { transaction = s.transaction; input = s.input; code = code; value = s.value }) on.code
      ∙ ap (λ (value : ℕ). record { transaction = s.transaction; input = s.input; code = on.lock.code; value = value }) on.value

  digests : (m : Naming) (z : GivenToken) → Contains ns m → Contains given z → ListsCollide (over m) z.over → ⊥
  digests m z i j (wholes c) =
      whole.lists (list_of (over m)) (list_of z.over) (contains_map (λ (x : Naming). list_of (over x)) ns m i) (contains_map (λ (x : GivenToken). list_of x.over) given z j) c
  digests m z i j (outpoints c) =
      whole.points (outpoints_in (over m)) (outpoints_in z.over) (contains_map (λ (x : Naming). outpoints_in (over x)) ns m i) (contains_map (λ (x : GivenToken). outpoints_in x.over) given z j) c
  digests m z i j (sequences c) =
      whole.ages (sequences_in (over m)) (sequences_in z.over) (contains_map (λ (x : Naming). sequences_in (over x)) ns m i) (contains_map (λ (x : GivenToken). sequences_in x.over) given z j) c
  digests m z i j (outputs c) =
      whole.payments (outputs_paid (over m)) (outputs_paid z.over) (contains_map (λ (x : Naming). outputs_paid (over x)) ns m i) (contains_map (λ (x : GivenToken). outputs_paid x.over) given z j) c

  pub whole_chain : Breaks hs blocks → ⊥
  whole_chain (by_ids z) = whole.twice z.first z.second (peers_string IsHashedForId for_id hs z.first z.of_first) (peers_string IsHashedForId for_id hs z.second z.of_second) z.collide
  whole_chain (by_keys z) = whole.once z.first z.second (peers_string IsHashedForKey for_key hs z.first z.of_first) (peers_string IsHashedForKey for_key hs z.second z.of_second) z.collide
  whole_chain (by_script s on z) =
      whole.scripts z.first z.second (item_in s on z.first z.of_first)
      (subst (λ (x : List ℕ). Contains (codes_of ns) x) (sym (z.of_second ∙ on.code)) (contains_map (λ (m : Naming). m.lock.code) ns (it s on) (named s on))) z.collide
  whole_chain (by_key s on key i z) =
      whole.keys_shown z.first z.second (item_in s on z.first z.of_first)
      (subst (λ (x : List ℕ). Contains keys x) (sym z.of_second) (subst (λ (xs : List (List ℕ)). Contains xs key) k i)) z.collide
  whole_chain (by_digest s on (m, z, less, same, c)) =
      digests (it s on) z (named s on) (subst (λ (zs : List GivenToken). Contains zs z) g (m, less, same)) (subst (λ (y : Signed). ListsCollide y z.over) (as_spend s on) c)
  whole_chain (by_preimage s on z) =
      let item = z.of_first in
      whole.preimages z.first z.second
      (subst (λ (x : List ℕ). Contains (map sha256 (items_of ns)) x) (sym item.2) (contains_map sha256 (items_of ns) item.0 (item_in s on item.0 item.1))) (is_payment_hash hs z.second z.of_second) z.collide
