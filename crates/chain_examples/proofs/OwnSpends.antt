-- What is asked besides where a node closed a channel itself: that no input shows a token of the revocation key of a newest own commitment, and that none of the strings which `OwnBreaks` names have one hash. And when an
-- output of such a commitment is stolen: what took it is in none of the cases that the laws have for it.
use Rattle.std.proofs.Common.{◌≡◌, ℕ, Bool, true, false, not, List, [], ◌∷◌, ◌++◌, length, map, reverse, Option, Some, sym, ap, ◌∙◌, refl, subst, ⊎_elim, arith}
use Rattle.std.specs.Prelude.{◌&&◌, ◌||◌, ◌==◌, nat_lt, slice_get, codes}
use Rattle.std.specs.List.{Contains, list_any, list_all, flat_map, cons_option}
use Rattle.std.specs.Str.{bytes_eq}
use Rattle.std.proofs.lemmas.Bool.{false≢true, and_parts, ltb-true, lt-ltb, eq-eqb}
use Rattle.std.proofs.lemmas.List.{length-reverse}
use Rattle.std.proofs.lemmas.Option.{slice_get_past}
use Rattle.std.proofs.lemmas.Slice.Eq.{bytes_eq-Decides}
use Rattle.std.proofs.lemmas.Grind.{reverse_onto}
use Rattle.sha2.specs.Sha256.{sha256}
use Rattle.digest.specs.Hash.{hash160}
use Rattle.digest.specs.Ripemd160.{ripemd160}
use Rattle.tx.specs.declared.input.OutPoint.{OutPoint}
use Rattle.tx.specs.declared.input.TxIn.{TxIn}
use Rattle.tx.specs.Fields.{Transaction, unsigned_transaction, same_outpoint}
use Rattle.tx.specs.Spelling.{transaction_id}
use Rattle.tx.proofs.Witnesses.{same_id}
use Rattle.chain.specs.Blocks.{Contents as Block, Coin, is_named, has_id}
use Rattle.chain.proofs.Noting.{itself}
use Rattle.terms.specs.declared.htlcs.Htlc.{Htlc}
use Rattle.terms.specs.declared.sides.Side.{Side}
use Rattle.terms.specs.declared.sides.Side.TheVariants.{A, B}
use Rattle.terms.specs.Agreement.{party}
use Rattle.commit.specs.declared.fees.Direction.{Direction}
use Rattle.commit.specs.declared.fees.Direction.TheVariants.{Offered, Received}
use Rattle.commit.specs.declared.outputs.HtlcOutput.{HtlcOutput}
use Rattle.commit.specs.Commitments.{Contents, id_of, htlcs_of}
use Rattle.penalty.specs.Claimable.{Claimable}
use Rattle.channel.specs.declared.commitments.CommitmentState.{CommitmentState}
use Rattle.channel.specs.Tokens.{contents_of}
use Rattle.safety.specs.Signing.{Signed}
use Rattle.safety.specs.Standing.{StandsAt}
use Rattle.safety.specs.Whereabouts.{IsOnChain}
use Rattle.safety.specs.Holdings.{Holding, terms_in}
use Rattle.safety.specs.Premises.{LockedOutput, locks_by, each_input, each_spend, shows_none, newest_revocation, none_revokes}
use Rattle.safety.specs.Breaks.{IsSpendOn, IsPaymentHash, Breaks}
use Rattle.safety.specs.Resolutions.{WasReleased, Resolution, unspent, ours, lost, broken, IsPaidOrLate, paid, late}
use Rattle.safety.proofs.Slots.{contains_first}
use Rattle.safety.proofs.Lists.{none_some, contains_map, any_holds, both}
use Rattle.safety.proofs.Tests.{flat_in, all_hold, or_then, on_input, on_spend}
use Rattle.safety.proofs.Standing.{block_in, spent_is}
use Rattle.safety.proofs.Passed.{last_cases}
use Rattle.safety.proofs.Worked.{at_each}
use Rattle.balance_laws.specs.OwnBreaks.{IsOwnNewest, IsHashedForHtlcKey, IsForOwn, OwnBreaks, by_breaks, by_htlc_keys, by_revocation_key, by_own_preimage}
use Rattle.balance_laws.specs.Times.{IsTakenBelow}
use Rattle.chain_examples.proofs.Marks.{NoneCollide}
use Rattle.chain_examples.proofs.Spends.{Naming, naming, digest_over, namings, is_naming, shows, each_shows, items_of}

-- ---- a token of a revocation key

-- with a table of the digests
abbrev pub none_shown : (keys : List (List ℕ)) → List Naming → List (List ℕ) → Bool
none_shown keys [] ds = true
none_shown keys (n ∷ ns) [] = false
none_shown keys (n ∷ ns) (d ∷ ds) = shows_none keys n.input.witness d && none_shown keys ns ds

by_digests : (keys : List (List ℕ)) (ns : List Naming) → none_shown keys ns (map digest_over ns) ≡ true → list_all (shows (shows_none keys)) ns ≡ true
by_digests keys [] e = refl
by_digests keys (n ∷ ns) e =
    let r = and_parts (shows_none keys n.input.witness (digest_over n)) (none_shown keys ns (map digest_over ns)) e in
    both (shows_none keys n.input.witness (digest_over n)) (list_all (shows (shows_none keys)) ns) r.0 (by_digests keys ns r.1)

revokes_by : (hs : List Holding) (blocks : List Block) (keys : List (List ℕ)) (ws : List LockedOutput) → map newest_revocation hs ≡ keys → locks_by hs ≡ ws
    → none_revokes hs blocks ≡ each_input (each_spend (shows_none keys) ws) blocks
revokes_by hs blocks keys ws k l =
    ap (λ (x : List (List ℕ)). each_input (each_spend (shows_none x) (locks_by hs)) blocks) k ∙ ap (λ (x : List LockedOutput). each_input (each_spend (shows_none keys) x) blocks) l

-- the premise is met where the tables of the inputs and of their digests say so
pub none_is_shown : (hs : List Holding) (blocks : List Block) (keys : List (List ℕ)) (ws : List LockedOutput) (ns : List Naming) (ds : List (List ℕ)) → map newest_revocation hs ≡ keys → locks_by hs ≡ ws
    → namings ws blocks ≡ ns → map digest_over ns ≡ ds → none_shown keys ns ds ≡ true → none_revokes hs blocks ≡ true
none_is_shown hs blocks keys ws ns ds k l n d e =
    let a : list_all (shows (shows_none keys)) ns ≡ true = by_digests keys ns (ap (none_shown keys ns) d ∙ e) in
    let b : list_all (shows (shows_none keys)) (namings ws blocks) ≡ true = ap (list_all (shows (shows_none keys))) n ∙ a in
    revokes_by hs blocks keys ws k l ∙ each_shows (shows_none keys) ws blocks b

-- where it is met, an input that names an output shows none
pub not_shown : (hs : List Holding) (blocks : List Block) (keys : List (List ℕ)) (ws : List LockedOutput) → map newest_revocation hs ≡ keys → locks_by hs ≡ ws → none_revokes hs blocks ≡ true
    → (height : ℕ) (t : Transaction) (input : TxIn) (w : LockedOutput) (digest : List ℕ) → StandsAt blocks height t → Contains t.inputs input → Contains ws w → input.outpoint ≡ w.place.outpoint
    → digest_over (naming t input w) ≡ digest → shows_none keys input.witness digest ≡ true
not_shown hs blocks keys ws k l e height t input w digest s i j names d =
    let p = on_input (each_spend (shows_none keys) ws) blocks (sym (revokes_by hs blocks keys ws k l) ∙ e) height t input s i in
    sym (ap (shows_none keys input.witness) d) ∙ on_spend (shows_none keys) ws t input p w j names

-- ---- the strings of the newest own commitments

abbrev pub newest_of : Holding → List CommitmentState
newest_of h = cons_option (slice_get h.state.mine h.state.number) []

is_newest : (h : Holding) (k : CommitmentState) → slice_get h.state.mine h.state.number ≡ Some k → Contains (newest_of h) k
is_newest h k e = subst (λ (o : Option CommitmentState). Contains (cons_option o []) k) (sym e) (contains_first k [])

-- what is hashed for the HTLC key of each side
abbrev pub key_strings : Holding → CommitmentState → List (List ℕ)
key_strings h k =
    (codes "derive" ++ (party A (terms_in h)).bases.htlc.bytes ++ k.point.bytes)
    ∷ (codes "derive" ++ (party B (terms_in h)).bases.htlc.bytes ++ k.point.bytes)
    ∷ []

abbrev pub htlc_keys_by : List Holding → List (List ℕ)
htlc_keys_by hs = flat_map (λ h. flat_map (key_strings h) (newest_of h)) hs

of_side : (h : Holding) (k : CommitmentState) (side : Side) → Contains (key_strings h k) (codes "derive" ++ (party side (terms_in h)).bases.htlc.bytes ++ k.point.bytes)
of_side h k A = (0, omega arith, refl)
of_side h k B = (1, omega arith, refl)

key_string : (hs : List Holding) (bytes : List ℕ) → IsForOwn IsHashedForHtlcKey hs bytes → Contains (htlc_keys_by hs) bytes
key_string hs bytes p =
    flat_in (λ (h : Holding). flat_map (key_strings h) (newest_of h)) hs p.holding bytes p.newest.held
    (flat_in (key_strings p.holding) (newest_of p.holding) p.commitment bytes (is_newest p.holding p.commitment p.newest.recorded)
    (subst (λ (x : List ℕ). Contains (key_strings p.holding p.commitment) x) (sym p.is.1) (of_side p.holding p.commitment p.is.0)))

abbrev pub revocations_by : List Holding → List (List ℕ)
revocations_by hs = flat_map (λ h. map (λ k. (contents_of (terms_in h) k).keys.revocation) (newest_of h)) hs

revocation_in : (hs : List Holding) (h : Holding) (k : CommitmentState) → IsOwnNewest hs h k → Contains (revocations_by hs) (contents_of (terms_in h) k).keys.revocation
revocation_in hs h k n =
    flat_in (λ (g : Holding). map (λ (l : CommitmentState). (contents_of (terms_in g) l).keys.revocation) (newest_of g)) hs h (contents_of (terms_in h) k).keys.revocation n.held
    (contains_map (λ (l : CommitmentState). (contents_of (terms_in h) l).keys.revocation) (newest_of h) k (is_newest h k n.recorded))

abbrev pub own_hashes_by : List Holding → List (List ℕ)
own_hashes_by hs = flat_map (λ h. flat_map (λ k. map (λ x. x.htlc.hash) (htlcs_of (contents_of (terms_in h) k))) (newest_of h)) hs

own_hash : (hs : List Holding) (hash : List ℕ) → IsForOwn IsPaymentHash hs hash → Contains (own_hashes_by hs) hash
own_hash hs hash p =
    flat_in (λ (h : Holding). flat_map (λ (k : CommitmentState). map (λ (x : HtlcOutput). x.htlc.hash) (htlcs_of (contents_of (terms_in h) k))) (newest_of h)) hs p.holding hash p.newest.held
    (flat_in (λ (k : CommitmentState). map (λ (x : HtlcOutput). x.htlc.hash) (htlcs_of (contents_of (terms_in p.holding) k))) (newest_of p.holding) p.commitment hash
    (is_newest p.holding p.commitment p.newest.recorded)
    (subst (λ (h : List ℕ). Contains (map (λ (x : HtlcOutput). x.htlc.hash) (htlcs_of (contents_of (terms_in p.holding) p.commitment))) h) (sym p.is.2)
    (contains_map (λ (x : HtlcOutput). x.htlc.hash) (htlcs_of (contents_of (terms_in p.holding) p.commitment)) p.is.0 p.is.1)))

-- ---- nothing is broken

-- no two of the strings have one hash that `OwnBreaks` names besides
pub record AreOwnWhole (hs : List Holding) (ns : List Naming) : Type 0 where
  pub htlc_keys : NoneCollide sha256 (htlc_keys_by hs) (htlc_keys_by hs)
  pub revocations : NoneCollide hash160 (items_of ns) (revocations_by hs)
  pub preimages : NoneCollide ripemd160 (map sha256 (items_of ns)) (own_hashes_by hs)

item_in : (hs : List Holding) (blocks : List Block) (ws : List LockedOutput) (ns : List Naming) → locks_by hs ≡ ws → namings ws blocks ≡ ns → (s : Signed) → IsSpendOn hs blocks s
    → (item : List ℕ) → Contains s.input.witness item → Contains (items_of ns) item
item_in hs blocks ws ns l n s on item i =
    flat_in (λ (m : Naming). m.input.witness) ns (naming s.transaction s.input on.lock) item
    (subst (λ (ms : List Naming). Contains ms (naming s.transaction s.input on.lock)) (ap (λ (vs : List LockedOutput). namings vs blocks) l ∙ n)
    (is_naming (locks_by hs) blocks on.height s.transaction s.input on.stands on.within on.lock on.locked on.names)) i

pub own_whole_chain : (hs : List Holding) (blocks : List Block) (ws : List LockedOutput) (ns : List Naming) → locks_by hs ≡ ws → namings ws blocks ≡ ns → (Breaks hs blocks → ⊥) → AreOwnWhole hs ns → OwnBreaks hs blocks → ⊥
own_whole_chain hs blocks ws ns l n whole own (by_breaks z) = whole z
own_whole_chain hs blocks ws ns l n whole own (by_htlc_keys z) = own.htlc_keys z.first z.second (key_string hs z.first z.of_first) (key_string hs z.second z.of_second) z.collide
own_whole_chain hs blocks ws ns l n whole own (by_revocation_key s on h k newest z) =
    own.revocations z.first z.second (item_in hs blocks ws ns l n s on z.first z.of_first) (subst (λ (x : List ℕ). Contains (revocations_by hs) x) (sym z.of_second) (revocation_in hs h k newest)) z.collide
own_whole_chain hs blocks ws ns l n whole own (by_own_preimage s on z) =
    let item = z.of_first in
    own.preimages z.first z.second
    (subst (λ (x : List ℕ). Contains (map sha256 (items_of ns)) x) (sym item.2) (contains_map sha256 (items_of ns) item.0 (item_in hs blocks ws ns l n s on item.0 item.1))) (own_hash hs z.second z.of_second) z.collide

-- ---- a theft

-- an input shows the preimage of an HTLC that the node offered, or is above the expiry of one that was offered to it
abbrev pub is_fair : Direction → Htlc → ℕ → TxIn → Bool
is_fair Offered h height input = list_any (λ x. length x == 32 && bytes_eq (sha256 x) h.hash) input.witness
is_fair Received h height input = nat_lt h.expiry_height height

abbrev pub own_paid_or_late : Contents → Claimable → ℕ → TxIn → Bool
own_paid_or_late c o height input = list_any (λ x. same_outpoint o.place.outpoint (record { txid = id_of c; index = x.index }) && is_fair x.direction x.htlc height input) (htlcs_of c)

on_htlc : (c : Contents) (o : Claimable) (x : HtlcOutput) (height : ℕ) (input : TxIn) → Contains (htlcs_of c) x → o.place.outpoint ≡ record { txid = id_of c; index = x.index } → is_fair x.direction x.htlc height input ≡ true
    → own_paid_or_late c o height input ≡ true
on_htlc c o x height input i at e =
    let here : same_outpoint o.place.outpoint (record { txid = id_of c; index = x.index }) ≡ true = ap (λ (p : OutPoint). same_outpoint o.place.outpoint p) (sym at) ∙ itself o.place.outpoint in
    any_holds (λ (y : HtlcOutput). same_outpoint o.place.outpoint (record { txid = id_of c; index = y.index }) && is_fair y.direction y.htlc height input) (htlcs_of c) x i
    (both (same_outpoint o.place.outpoint (record { txid = id_of c; index = x.index })) (is_fair x.direction x.htlc height input) here e)

fair_is : (c : Contents) (o : Claimable) (coin : Coin) (height : ℕ) (input : TxIn) → IsPaidOrLate true c o coin height input → own_paid_or_late c o height input ≡ true
fair_is c o coin height input (paid x on d p) =
    on_htlc c o x height input on.among on.at
    (subst (λ (y : Direction). is_fair y x.htlc height input ≡ true) (sym d)
    (any_holds (λ (y : List ℕ). length y == 32 && bytes_eq (sha256 y) x.htlc.hash) input.witness p.item p.shown
    (both (length p.item == 32) (bytes_eq (sha256 p.item) x.htlc.hash) (eq-eqb (length p.item) 32 p.long) ((bytes_eq-Decides (sha256 p.item) x.htlc.hash).1 p.hashed))))
fair_is c o coin height input (late x on d l) =
    on_htlc c o x height input on.among on.at (subst (λ (y : Direction). is_fair y x.htlc height input ≡ true) (sym d) (lt-ltb x.htlc.expiry_height height l))

on_each : (test : ℕ → Transaction → TxIn → Bool) (blocks : List Block) → at_each test blocks ≡ true → (height : ℕ) (t : Transaction) (input : TxIn) → StandsAt blocks height t → Contains t.inputs input → test height t input ≡ true
on_each test [] e height t input s i = absurd (none_some s.block (sym (slice_get_past [] height (omega arith)) ∙ s.there))
on_each test (b ∷ older) e height t input s i =
    let parts = and_parts (list_all (λ (u : Transaction). list_all (test (length older) u) u.inputs) b.transactions) (at_each test older) e in
    let there : slice_get (reverse older ++ b ∷ []) height ≡ Some s.block = ap (λ xs. slice_get xs height) (sym (reverse_onto older b [])) ∙ s.there in
    ⊎_elim {C = test height t input ≡ true}
    (λ (f : slice_get (reverse older) height ≡ Some s.block). on_each test older parts.1 height t input (record { block = s.block; there = f; within = s.within }) i)
    (λ (r : (height ≡ length (reverse older)) × (b ≡ s.block)).
    let h : length older ≡ height = omega (arith, r.0, length-reverse older) in
    let within : Contains b.transactions t = subst (λ (x : Block). Contains x.transactions t) (sym r.1) s.within in
    let each = all_hold (λ (u : Transaction). list_all (test (length older) u) u.inputs) b.transactions parts.0 t within in
    subst (λ (n : ℕ). test n t input ≡ true) h (all_hold (test (length older) t) t.inputs each input i))
    (last_cases (reverse older) b s.block height there)

-- an input takes the output in none of these ways
abbrev pub is_unfair : (ℕ → TxIn → Bool) → Claimable → ℕ → Transaction → TxIn → Bool
is_unfair fair o height t input = not (same_outpoint input.outpoint o.place.outpoint) || not (fair height input)

abbrev pub is_taken_unfairly : List Block → Contents → Claimable → Bool
is_taken_unfairly blocks c o = is_named blocks o.place.outpoint && at_each (is_unfair (own_paid_or_late c o) o) blocks

negated : (b : Bool) → not b ≡ true → b ≡ true → ⊥
negated true e f = false≢true e
negated false e f = false≢true f

-- of a node that released nothing
pub stolen : (hs : List Holding) (blocks : List Block) (c : Contents) (o : Claimable) → ((t : Transaction) → WasReleased hs t → ⊥) → is_taken_unfairly blocks c o ≡ true → Resolution OwnBreaks hs blocks (IsPaidOrLate true c o) o → OwnBreaks hs blocks
stolen hs blocks c o none e (unspent coin at free) =
    let parts = and_parts (is_named blocks o.place.outpoint) (at_each (is_unfair (own_paid_or_late c o) o) blocks) e in absurd (false≢true (sym free ∙ spent_is blocks o.place.outpoint coin at.there ∙ parts.0))
stolen hs blocks c o none e (ours height t input n r) = absurd (none t r)
stolen hs blocks c o none e (lost coin at height t input n l) =
    let parts = and_parts (is_named blocks o.place.outpoint) (at_each (is_unfair (own_paid_or_late c o) o) blocks) e in
    let here : same_outpoint input.outpoint o.place.outpoint ≡ true = ap (λ (p : OutPoint). same_outpoint input.outpoint p) (sym n.names) ∙ itself input.outpoint in
    let unfair = or_then (same_outpoint input.outpoint o.place.outpoint) (not (own_paid_or_late c o height input)) here (on_each (is_unfair (own_paid_or_late c o) o) blocks parts.1 height t input n.stands n.within) in
    absurd (negated (own_paid_or_late c o height input) unfair (fair_is c o coin height input l))
stolen hs blocks c o none e (broken b) = b

-- ---- a deadline

abbrev pub is_below : Claimable → ℕ → ℕ → Transaction → TxIn → Bool
is_below o deadline height t input = not (same_outpoint input.outpoint o.place.outpoint) || nat_lt height deadline

pub taken_below : (blocks : List Block) (o : Claimable) (deadline : ℕ) → at_each (is_below o deadline) blocks ≡ true → IsTakenBelow blocks o deadline
taken_below blocks o deadline e height t input n =
    let here : same_outpoint input.outpoint o.place.outpoint ≡ true = ap (λ (p : OutPoint). same_outpoint input.outpoint p) (sym n.names) ∙ itself input.outpoint in
    ltb-true height deadline (or_then (same_outpoint input.outpoint o.place.outpoint) (nat_lt height deadline) here (on_each (is_below o deadline) blocks e height t input n.stands n.within))

-- ---- a transaction of which none on the chain has the id

with_its_id : (blocks : List Block) (height : ℕ) (t : Transaction) → StandsAt blocks height t → has_id blocks (transaction_id t) ≡ true
with_its_id blocks height t s =
    any_holds (λ (b : Block). list_any (λ (u : Transaction). bytes_eq (transaction_id u) (transaction_id t)) b.transactions) blocks s.block (block_in blocks height t s)
    (any_holds (λ (u : Transaction). bytes_eq (transaction_id u) (transaction_id t)) s.block.transactions t s.within ((bytes_eq-Decides (transaction_id t) (transaction_id t)).1 refl))

pub is_absent : (blocks : List Block) (t : Transaction) (id : List ℕ) → unsigned_transaction t ≡ t → transaction_id t ≡ id → has_id blocks id ≡ false → IsOnChain blocks t → ⊥
is_absent blocks t id bare named none on =
    let same : transaction_id on.signed ≡ id = same_id on.signed t (on.same ∙ sym bare) ∙ named in
    false≢true (sym none ∙ ap (has_id blocks) (sym same) ∙ with_its_id blocks on.height on.signed on.stands)
