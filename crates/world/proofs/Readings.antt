-- What a side reads in blocks, channel by channel.
use Rattle.std.proofs.Common.{◌≡◌, ℕ, zero, suc, ◌+◌, ◌<◌, ◌≤◌, Bool, true, false, if◌then◌else◌, List, [], ◌∷◌, ◌++◌, map, take, drop, set, get_or, replicate, length, reverse, Option, Some, None, refl, sym, ap, subst, ◌∙◌, arith, zero-add, add-zero, add-one, append_assoc}
use Rattle.std.specs.Prelude.{slice_get, Result, Ok, Err, IfOk}
use Rattle.std.specs.List.{AllByRecursion}
use Rattle.std.proofs.lemmas.List.{drop_all, drop_more, drop-set-lt, take_more_set, get_or-map, get_or-replicate, length-map, length-replicate, take-append-drop}
use Rattle.std.proofs.lemmas.Option.{none-some, same_Some}
use Rattle.tx.specs.declared.input.OutPoint.{OutPoint}
use Rattle.tx.specs.Fields.{Transaction}
use Rattle.claim.specs.Claims.{IsWhole}
use Rattle.resolve.specs.declared.known.Known.{Known}
use Rattle.chain.specs.Blocks.{Contents}
use Rattle.watch.specs.Watching.{Seen}
use Rattle.channel.specs.States.{State}
use Rattle.book.specs.declared.calls.Entry.{Entry}
use Rattle.book.specs.Books.{ChannelBook, is_kept, replay, fundings_of}
use Rattle.book.specs.Knowing.{IsKnownOf, IsKnownIn, preimages_in}
use Rattle.side.specs.declared.due.DueClaim.{DueClaim}
use Rattle.side.specs.declared.reading.ReadParts.{ReadParts}
use Rattle.side.specs.Due.{FindsIf, with_preimages, taught}
use Rattle.side.specs.Reading.{Reader, is_to_ask, numbers_to_ask, with_answer, FindsBlock, no_more, channel, IsRead}
use Rattle.world.specs.Worlds.{Line, Node, IsNode}
use Rattle.world.specs.Looking.{Knows, is_closed, ReadsChannel, quiet, sees, ReadsBlock, no_more as none_read, channel as one_read, Reading, IsAfter, Reads, all_read, block, Upward, reading_of, reading_in, parts_read, with_seen}
use Rattle.world.specs.Asking.{IfKnown, AreKnown, IsReady, AreReady}
use Rattle.world.proofs.Whole.{all_append}

-- ---- what is known

more_of : (s : State) (kept : ℕ → Bool) (ps shown : List (List ℕ)) (k : Known) → IsKnownOf s kept ps k → IsKnownOf s kept (ps ++ shown) (with_preimages shown k)
more_of s kept ps shown k is = record {
  terms_are = is.terms_are;
  side_is = is.side_is;
  seed_is = is.seed_is;
  rights_are = is.rights_are;
  own_is = is.own_is;
  older_are = is.older_are;
  theirs_is = is.theirs_is;
  next_is = is.next_is;
  revoked_are = is.revoked_are;
  preimages_are = ap (λ xs. xs ++ shown) is.preimages_are;
}

-- what the book told, together with what was learnt
pub knows : (history : List Entry) (learnt : List (List ℕ)) (c : ℕ) (k : Known) (o : Option ChannelBook) → slice_get (replay history) c ≡ o → IsKnownIn history c o k → Knows history learnt c (with_preimages learnt k)
knows history learnt c k None e is = absurd is
knows history learnt c k (Some ch) e is = record { ch = ch; there = e; is = more_of ch.state (is_kept ch.kept) (preimages_in c history) learnt k is }

knows_more : (history : List Entry) (learnt shown : List (List ℕ)) (c : ℕ) (k : Known) → Knows history learnt c k → Knows history (learnt ++ shown) c (with_preimages shown k)
knows_more history learnt shown c k is = record {
  ch = is.ch;
  there = is.there;
  is =
      subst (λ (ps : List (List ℕ)). IsKnownOf is.ch.state (is_kept is.ch.kept) ps (with_preimages shown k)) (append_assoc (preimages_in c history) learnt shown)
      (more_of is.ch.state (is_kept is.ch.kept) (preimages_in c history ++ learnt) shown k is.is);
}

if_known_more : (history : List Entry) (learnt shown : List (List ℕ)) (c : ℕ) (o : Option Known) → IfKnown history learnt c o → IfKnown history (learnt ++ shown) c (taught shown o)
if_known_more history learnt shown c None is = tt
if_known_more history learnt shown c (Some k) is = knows_more history learnt shown c k is

pub all_known_more : (history : List Entry) (learnt shown : List (List ℕ)) (knowns : List (Option Known)) → AreKnown history learnt knowns → AreKnown history (learnt ++ shown) (map (taught shown) knowns)
all_known_more history learnt shown knowns are c l d =
    let within : c < length knowns = omega (arith, l, length-map knowns (taught shown)) in
    subst (IfKnown history (learnt ++ shown) c) (sym (get_or-map (taught shown) knowns c None d within)) (if_known_more history learnt shown c (get_or knowns c None) (are c within None))

pub none_known : (history : List Entry) (learnt : List (List ℕ)) (n : ℕ) → AreKnown history learnt (replicate n None)
none_known history learnt n c l d = subst (IfKnown history learnt c) (sym (get_or-replicate n c None d (omega (arith, l, length-replicate {A = Option Known} n None)))) tt

set_keeps : {A : Type 0} (P : ℕ → A → Type 0) (xs : List A) (i : ℕ) (y : A) → ((c : ℕ) → c < length xs → (d : A) → P c (get_or xs c d)) → P i y
    → (c : ℕ) → c < length (set xs i y) → (d : A) → P c (get_or (set xs i y) c d)
set_keeps P [] i y each here c l d = absurd (omega (arith, l))
set_keeps P (x ∷ xs) zero y each here zero l d = here
set_keeps P (x ∷ xs) zero y each here (suc c) l d = each (suc c) l d
set_keeps P (x ∷ xs) (suc i) y each here zero l d = each zero (omega arith) d
set_keeps P (x ∷ xs) (suc i) y each here (suc c) l d = set_keeps (λ n. P (suc n)) xs i y (λ k m e. each (suc k) (omega (arith, m)) e) here c (omega (arith, l)) d

known_then : (history : List Entry) (learnt : List (List ℕ)) (knowns : List (Option Known)) (c : ℕ) (known : Known) → AreKnown history learnt knowns → Knows history learnt c known
    → AreKnown history learnt (set knowns c (Some known))
known_then history learnt knowns c known are is = set_keeps (IfKnown history learnt) knowns c (Some known) are is

-- ---- one channel

pub reads_channel : (history : List Entry) (learnt : List (List ℕ)) (height : ℕ) (txs : List Transaction) (c : ℕ) (older newer : Seen) (jobs : List DueClaim) (shown : List (List ℕ)) (o : Option Known)
    → IsReady history learnt c older txs o → FindsIf o height txs c older newer jobs shown → ReadsChannel history learnt height txs c older newer jobs shown
reads_channel history learnt height txs c older newer jobs shown None ready (e, j, s) = rw (e, j, s) (quiet ready)
reads_channel history learnt height txs c older newer jobs shown (Some k) ready finds = sees k ready finds

-- ---- what is known after a block

pub known_after : (history : List Entry) (learnt old_learnt shown given new_learnt : List (List ℕ)) (knowns new : List (Option Known)) → AreKnown history learnt knowns → learnt ≡ old_learnt
    → new ≡ map (taught given) knowns → given ≡ shown → new_learnt ≡ old_learnt ++ shown → AreKnown history new_learnt new
known_after history learnt old_learnt shown given new_learnt knowns new are l k g n =
    subst (λ (xs : List (List ℕ)). AreKnown history xs new) (ap (λ xs. xs ++ shown) l ∙ sym n)
    (subst (λ (ks : List (Option Known)). AreKnown history (learnt ++ shown) ks) (ap (λ xs. map (taught xs) knowns) (sym g) ∙ sym k) (all_known_more history learnt shown knowns are))

-- ---- what is asked

-- the first number to ask about is not below the number to start from
not_below : (b : Bool) (c n : ℕ) (xs rest : List ℕ) → (xs ≡ n ∷ rest → c + 1 ≤ n) → (if b then c ∷ xs else xs) ≡ n ∷ rest → c ≤ n
not_below true c n xs rest go e = let h : c ≡ n = cc in omega arith
not_below false c n xs rest go e = let h = go e in omega (arith, h)

asked_above : (c : ℕ) (fundings : List OutPoint) (seen : List Seen) (knowns : List (Option Known)) (txs : List Transaction) (n : ℕ) (rest : List ℕ)
    → numbers_to_ask c fundings seen knowns txs ≡ n ∷ rest → c ≤ n
asked_above c [] seen knowns txs n rest e = absurd (cc)
asked_above c (o ∷ fundings) [] knowns txs n rest e = absurd (cc)
asked_above c (o ∷ fundings) (s ∷ seen) [] txs n rest e = absurd (cc)
asked_above c (o ∷ fundings) (s ∷ seen) (k ∷ knowns) txs n rest e =
    not_below (is_to_ask o s k txs) c n (numbers_to_ask (c + 1) fundings seen knowns txs) rest (λ h. asked_above (c + 1) fundings seen knowns txs n rest h) e

-- after the first is answered, the others remain
asked_at : (i : ℕ) (b : Bool) (c n : ℕ) (o : OutPoint) (fundings : List OutPoint) (s : Seen) (seen : List Seen) (k : Option Known) (knowns : List (Option Known)) (txs : List Transaction)
    (rest : List ℕ) (known : Known) → is_to_ask o s k txs ≡ b → n ≡ c + i
    → ((j : ℕ) → n ≡ c + 1 + j → numbers_to_ask (c + 1) fundings seen knowns txs ≡ n ∷ rest → numbers_to_ask (c + 1) fundings seen (set knowns j (Some known)) txs ≡ rest)
    → (if b then c ∷ numbers_to_ask (c + 1) fundings seen knowns txs else numbers_to_ask (c + 1) fundings seen knowns txs) ≡ n ∷ rest
    → numbers_to_ask c (o ∷ fundings) (s ∷ seen) (set (k ∷ knowns) i (Some known)) txs ≡ rest
asked_at zero true c n o fundings s seen k knowns txs rest known asks at go e = cc
asked_at zero false c n o fundings s seen k knowns txs rest known asks at go e = let h = asked_above (c + 1) fundings seen knowns txs n rest e in absurd (omega (arith, h, at))
asked_at (suc i) true c n o fundings s seen k knowns txs rest known asks at go e = let h : c ≡ n = cc in absurd (omega (arith, at, h))
asked_at (suc i) false c n o fundings s seen k knowns txs rest known asks at go e =
    let others = numbers_to_ask (c + 1) fundings seen (set knowns i (Some known)) txs in
    ap (λ (b : Bool). if b then c ∷ others else others) asks ∙ go i (omega (arith, at)) e

asked_then : (c : ℕ) (fundings : List OutPoint) (seen : List Seen) (knowns : List (Option Known)) (txs : List Transaction) (n i : ℕ) (rest : List ℕ) (known : Known) → n ≡ c + i
    → numbers_to_ask c fundings seen knowns txs ≡ n ∷ rest → numbers_to_ask c fundings seen (set knowns i (Some known)) txs ≡ rest
asked_then c [] seen knowns txs n i rest known at e = absurd (cc)
asked_then c (o ∷ fundings) [] knowns txs n i rest known at e = absurd (cc)
asked_then c (o ∷ fundings) (s ∷ seen) [] txs n i rest known at e = absurd (cc)
asked_then c (o ∷ fundings) (s ∷ seen) (k ∷ knowns) txs n i rest known at e =
    asked_at i (is_to_ask o s k txs) c n o fundings s seen k knowns txs rest known refl at (λ j a h. asked_then (c + 1) fundings seen knowns txs n j rest known a h) e

pub answered : (r next : Reader) (txs : List Transaction) (n : ℕ) (rest left : List ℕ) (known : Known) → left ≡ n ∷ rest → left ≡ numbers_to_ask 0 r.fundings r.seen r.knowns txs
    → next ≡ with_answer n known r → rest ≡ numbers_to_ask 0 next.fundings next.seen next.knowns txs
answered r next txs n rest left known l e w =
    let after = asked_then 0 r.fundings r.seen r.knowns txs n n rest (with_preimages r.learnt known) (omega arith) (sym e ∙ l) in
    sym after ∙ ap (λ (x : Reader). numbers_to_ask 0 x.fundings x.seen x.knowns txs) (sym w)

-- only what is known changes
pub answered_same : (first r next : Reader) (n : ℕ) (known : Known) → r ≡ record first { knowns = r.knowns } → next ≡ with_answer n known r → next ≡ record first { knowns = next.knowns }
answered_same first r next n known e w =
    let is : next ≡ with_answer n known (record first { knowns = r.knowns }) = w ∙ ap (with_answer n known) e in is ∙ sym (ap (λ (x : Reader). record first { knowns = x.knowns }) is)

-- what the book tells is what the side knows
pub answered_known : (history : List Entry) (r next : Reader) (n : ℕ) (known : Known) → AreKnown history r.learnt r.knowns
    → IsKnownIn history n (slice_get (replay history) n) known → next ≡ with_answer n known r → AreKnown history next.learnt next.knowns
answered_known history r next n known are is w =
    let told = knows history r.learnt n known (slice_get (replay history) n) refl is in
    subst (λ (x : Reader). AreKnown history x.learnt x.knowns) (sym w) (known_then history r.learnt r.knowns n (with_preimages r.learnt known) are told)

-- if no number remains, each channel is ready
none_asked : (b : Bool) (c : ℕ) (xs : List ℕ) → (if b then c ∷ xs else xs) ≡ [] → (b ≡ false) × (xs ≡ [])
none_asked true c xs e = absurd (cc)
none_asked false c xs e = (refl, e)

after_first : {A : Type 0} (xs : List A) (n : ℕ) (y : A) (ys : List A) → drop n xs ≡ y ∷ ys → drop (suc n) xs ≡ ys
after_first [] zero y ys e = absurd (cc)
after_first [] (suc n) y ys e = absurd (cc)
after_first (x ∷ xs) zero y ys e = cc
after_first (x ∷ xs) (suc n) y ys e = after_first xs n y ys e

first_at : {A : Type 0} (xs : List A) (n : ℕ) (y : A) (ys : List A) → drop n xs ≡ y ∷ ys → slice_get xs n ≡ Some y
first_at [] zero y ys e = absurd (cc)
first_at [] (suc n) y ys e = absurd (cc)
first_at (x ∷ xs) zero y ys e = let h : x ≡ y = cc in ap Some h
first_at (x ∷ xs) (suc n) y ys e = first_at xs n y ys e

ready_one : (history : List Entry) (learnt : List (List ℕ)) (c : ℕ) (ch : ChannelBook) (s : Seen) (k : Option Known) (txs : List Transaction) → slice_get (replay history) c ≡ Some ch
    → IfKnown history learnt c k → is_to_ask ch.state.held.terms.funding s k txs ≡ false → IsReady history learnt c s txs k
ready_one history learnt c ch s None txs there known unspent = ap (λ (o : Option ChannelBook). is_closed o s txs) there ∙ unspent
ready_one history learnt c ch s (Some k) txs there known unspent = known

ready_from : (history : List Entry) (learnt : List (List ℕ)) (c : ℕ) (chs : List ChannelBook) (knowns : List (Option Known)) (seen : List Seen) (txs : List Transaction) → drop c (replay history) ≡ chs
    → length chs ≡ length seen → ((i : ℕ) → i < length knowns → (d : Option Known) → IfKnown history learnt (c + i) (get_or knowns i d))
    → numbers_to_ask c (fundings_of chs) seen knowns txs ≡ [] → AreReady history learnt c knowns seen txs
ready_from history learnt c chs [] seen txs there long are none = tt
ready_from history learnt c chs (k ∷ knowns) [] txs there long are none = tt
ready_from history learnt c [] (k ∷ knowns) (s ∷ seen) txs there long are none = absurd (omega (arith, long))
ready_from history learnt c (ch ∷ chs) (k ∷ knowns) (s ∷ seen) txs there long are none =
    let funding = ch.state.held.terms.funding in
    let quiet = none_asked (is_to_ask funding s k txs) c (numbers_to_ask (c + 1) (fundings_of chs) seen knowns txs) none in
    let known = subst (λ n. IfKnown history learnt n k) (add-zero c) (are 0 (omega arith) None) in
    let more : (i : ℕ) → i < length knowns → (d : Option Known) → IfKnown history learnt (c + 1 + i) (get_or knowns i d)
    = λ i l d. let e : c + suc i ≡ c + 1 + i = omega arith in subst (λ n. IfKnown history learnt n (get_or knowns i d)) e (are (suc i) (omega (arith, l)) d) in
    let on : drop (c + 1) (replay history) ≡ chs = ap (λ n. drop n (replay history)) (add-one c) ∙ after_first (replay history) c ch chs there in (
      ready_one history learnt c ch s k txs (first_at (replay history) c ch chs there) known quiet.0,
      ready_from history learnt (c + 1) chs knowns seen txs on (omega (arith, long)) more quiet.1,
    )

pub all_ready : (history : List Entry) (learnt : List (List ℕ)) (knowns : List (Option Known)) (fundings : List OutPoint) (seen : List Seen) (txs : List Transaction) → AreKnown history learnt knowns
    → fundings ≡ fundings_of (replay history) → length fundings ≡ length seen → numbers_to_ask 0 fundings seen knowns txs ≡ [] → AreReady history learnt 0 knowns seen txs
all_ready history learnt knowns fundings seen txs are f l none =
    let long : length (replay history) ≡ length seen = omega (arith, l, ap length f, length-map (replay history) (λ ch. ch.state.held.terms.funding)) in
    let shift : (i : ℕ) → i < length knowns → (d : Option Known) → IfKnown history learnt (0 + i) (get_or knowns i d)
    = λ i m d. subst (λ n. IfKnown history learnt n (get_or knowns i d)) (sym (zero-add i)) (are i m d) in
    ready_from history learnt 0 (replay history) knowns seen txs refl long shift (ap (λ (os : List OutPoint). numbers_to_ask 0 os seen knowns txs) (sym f) ∙ none)

-- ---- a block

-- what is found for channels that are ready is what the side reads with its book
pub reads_by_book : {history : List Entry} {learnt : List (List ℕ)} {height : ℕ} {txs : List Transaction} {c : ℕ} {knowns : List (Option Known)} {older newer : List Seen} {jobs : List DueClaim}
    {shown : List (List ℕ)} → AreReady history learnt c knowns older txs → FindsBlock height txs c knowns older newer jobs shown → ReadsBlock history learnt height txs c older newer jobs shown
reads_by_book ready no_more = none_read
reads_by_book {history} {learnt} {height} {txs} {c} ready (channel jobs shown one rest) = one_read (reads_channel history learnt height txs c _ _ jobs shown _ ready.0 one) (reads_by_book ready.1 rest)

-- maps the value of a result that is Ok
pub if_ok_then : {A E : Type 0} (P Q : A → Type 0) (result : Result A E) → ((a : A) → P a → Q a) → IfOk result P → IfOk result Q
if_ok_then P Q (Ok a) f h = f a h
if_ok_then P Q (Err e) f h = tt

-- a block was read with the answers, and what it showed is known from then on
pub after_read : (history : List Entry) (height : ℕ) (txs : List Transaction) (r asked next : Reader) → AreReady history r.learnt 0 asked.knowns r.seen txs → asked ≡ record r { knowns = asked.knowns }
    → IsRead height txs asked next → IsAfter history height txs (reading_in r) (reading_in next)
after_read history height txs r asked next ready same is = record {
  jobs = is.jobs;
  shown = is.shown;
  channels = reads_by_book ready (subst (λ (xs : List Seen). FindsBlock height txs 0 asked.knowns xs next.seen is.jobs is.shown) (ap (λ (x : Reader). x.seen) same) is.channels);
  jobs_are = is.jobs_are ∙ ap (λ (x : Reader). x.jobs ++ is.jobs) same;
  learnt_is = is.learnt_is ∙ ap (λ (x : Reader). x.learnt ++ is.shown) same;
}

pub known_read : (history : List Entry) (height : ℕ) (txs : List Transaction) (r asked next : Reader) → AreKnown history r.learnt asked.knowns → asked ≡ record r { knowns = asked.knowns }
    → IsRead height txs asked next → AreKnown history next.learnt next.knowns
known_read history height txs r asked next are same is =
    known_after history r.learnt r.learnt is.shown is.shown next.learnt asked.knowns next.knowns are refl is.knowns_are refl (is.learnt_is ∙ ap (λ (x : Reader). x.learnt ++ is.shown) same)

-- ---- blocks

at_place : {A : Type 0} (xs : List A) (n : ℕ) (x : A) → slice_get xs n ≡ Some x → drop n xs ≡ x ∷ drop (suc n) xs
at_place [] n x e = absurd (none-some x e)
at_place (y ∷ xs) zero x e = ap (λ z. z ∷ xs) (same_Some y x e)
at_place (y ∷ xs) (suc n) x e = at_place xs n x e

pub upward_step : (history : List Entry) (blocks : List Contents) (from at : ℕ) (r now next : Reading) (b : Contents) → Upward history blocks from r at now → slice_get blocks (at + 1) ≡ Some b
    → IsAfter history (at + 1) (reverse b.transactions) now next → Upward history blocks from r (at + 1) next
upward_step history blocks from at r now next b upward there after done rest =
    let is : drop (at + 1) blocks ≡ b ∷ drop (at + 1 + 1) blocks = at_place blocks (at + 1) b there ∙ ap (λ n. b ∷ drop n blocks) (sym (add-one (at + 1))) in
    upward done (subst (λ (bs : List Contents). Reads history (at + 1) bs now done) (sym is) (block after rest))

pub upward_start : (history : List Entry) (blocks : List Contents) (from at : ℕ) (r now : Reading) → at ≡ from → now ≡ r → Upward history blocks from r at now
upward_start history blocks from at r now a n done rest =
    subst (λ (k : ℕ). Reads history (k + 1) (drop (k + 1) blocks) r done) a (subst (λ (x : Reading). Reads history (at + 1) (drop (at + 1) blocks) x done) n rest)

pub upward_end : (history : List Entry) (blocks : List Contents) (from at : ℕ) (r now : Reading) → Upward history blocks from r at now → length blocks ≤ at + 1
    → Reads history (from + 1) (drop (from + 1) blocks) r now
upward_end history blocks from at r now upward l = upward now (subst (λ (bs : List Contents). Reads history (at + 1) bs now now) (sym (drop_all (at + 1) blocks l)) all_read)

pub past_end : {A : Type 0} (xs : List A) (n : ℕ) → slice_get xs n ≡ None → length xs ≤ n
past_end [] n e = omega arith
past_end (x ∷ xs) zero e = absurd (none-some x (sym e))
past_end (x ∷ xs) (suc n) e = let l = past_end xs n e in omega arith

-- ---- the side

module _ {history : List Entry} {learnt : List (List ℕ)} {height : ℕ} {txs : List Transaction} where
  as_many : {c : ℕ} {older newer : List Seen} {jobs : List DueClaim} {shown : List (List ℕ)} → ReadsBlock history learnt height txs c older newer jobs shown → length newer ≡ length older
  as_many none_read = refl
  as_many (one_read one rest) = ap suc (as_many rest)

pub as_many_after : (history : List Entry) (height : ℕ) (txs : List Transaction) (r next : Reading) → IsAfter history height txs r next → length next.seen ≡ length r.seen
as_many_after history height txs r next after = as_many after.channels

as_many_reads : {history : List Entry} {height : ℕ} {blocks : List Contents} {r done : Reading} → Reads history height blocks r done → length done.seen ≡ length r.seen
as_many_reads all_read = refl
as_many_reads (block after rest) = as_many_reads rest ∙ as_many after.channels

-- what a reader holds at the end is what it has read
pub parts_are : (p : ReadParts) (r : Reader) → p.watches.items ≡ r.seen → p.learnt.items ≡ r.learnt → p.due.items ≡ r.jobs → parts_read p ≡ reading_in r
parts_are p r s l j = rw (s, l, j) refl

-- what was read has an entry for each channel of the side
pub each_line : (n : Node) (height : ℕ) (blocks : List Contents) (r : Reading) → Reads n.history height blocks (reading_of n) r → length r.seen ≡ length n.lines
each_line n height blocks r reads = as_many_reads reads ∙ length-map n.lines (λ line. line.seen)

-- a side that stored what was read, and its invariant
seen_length : (seen : List Seen) (lines : List Line) → length (with_seen seen lines) ≡ length lines
seen_length [] lines = refl
seen_length (s ∷ seen) [] = refl
seen_length (s ∷ seen) (line ∷ lines) = ap suc (seen_length seen lines)

take_front : {A : Type 0} (xs ys : List A) → take (length xs) (xs ++ ys) ≡ xs
take_front [] ys = refl
take_front (x ∷ xs) ys = ap (λ zs. x ∷ zs) (take_front xs ys)

abbrev pub AreWhole : List DueClaim → Type 0
AreWhole jobs = AllByRecursion (λ j. IsWhole j.claim) jobs

pub is_node_after : (n : Node) (more jobs : List DueClaim) (new items : List Line) (seen : List Seen) (len read : ℕ) (learnt : List (List ℕ)) → IsNode n → AreWhole more → jobs ≡ n.jobs ++ more
    → items ≡ n.lines → length items ≡ len → new ≡ with_seen seen items → IsNode (record n { lines = take len (new ++ drop (length new) n.lines); read = read; learnt = learnt; jobs = jobs })
is_node_after n more jobs new items seen len read learnt is w j same long l =
    let as_long : length new ≡ length items = ap length l ∙ seen_length seen items in
    let back : take len (new ++ drop (length new) n.lines) ≡ new
    = ap (λ k. take k (new ++ drop (length new) n.lines)) (sym (as_long ∙ long)) ∙ take_front new (drop (length new) n.lines) in
    record {
      lines = ap length back ∙ as_long ∙ ap length same ∙ is.lines;
      claims_are_whole = is.claims_are_whole;
      jobs = subst AreWhole (sym j) (all_append (λ x. IsWhole x.claim) n.jobs more is.jobs w);
      taken = is.taken;
    }

split : {A : Type 0} (xs : List A) (i : ℕ) (x : A) → i < length xs → x ≡ get_or xs i x → drop i xs ≡ x ∷ drop (i + 1) xs
split xs i x l e = drop_more xs i x l ∙ ap (λ y. y ∷ drop (i + 1) xs) (sym e)

-- one more line
pub put_step : (i : ℕ) (lines lines' : List Line) (line : Line) (s : Seen) (rest seen : List Seen) (whole : List Line) → i < length lines → line ≡ get_or lines i line
    → lines' ≡ set lines i (record line { seen = s }) → rest ≡ s ∷ seen → take i lines ++ with_seen rest (drop i lines) ≡ whole → take (i + 1) lines' ++ with_seen seen (drop (i + 1) lines') ≡ whole
put_step i lines lines' line s rest seen whole l e w r h =
    let same : drop (i + 1) lines' ≡ drop (i + 1) lines = ap (drop (i + 1)) w ∙ drop-set-lt (i + 1) lines i (record line { seen = s }) (omega arith) in
    let before : take (i + 1) lines' ≡ take i lines ++ record line { seen = s } ∷ [] = ap (take (i + 1)) w ∙ take_more_set lines i (record line { seen = s }) l in
    let here : with_seen rest (drop i lines) ≡ record line { seen = s } ∷ with_seen seen (drop (i + 1) lines) =
    ap (λ (xs : List Seen). with_seen xs (drop i lines)) r ∙ ap (with_seen (s ∷ seen)) (split lines i line l e) in
    ap (λ (xs : List Line). xs ++ with_seen seen (drop (i + 1) lines')) before
    ∙ append_assoc (take i lines) (record line { seen = s } ∷ []) (with_seen seen (drop (i + 1) lines'))
    ∙ ap (λ (xs : List Line). take i lines ++ record line { seen = s } ∷ with_seen seen xs) same
    ∙ ap (λ xs. take i lines ++ xs) (sym here) ∙ h

pub put_end : (i : ℕ) (lines : List Line) (rest : List Seen) (whole : List Line) → rest ≡ [] → i ≡ length lines → take i lines ++ with_seen rest (drop i lines) ≡ whole → lines ≡ whole
put_end i lines rest whole r l h =
    sym (take-append-drop i lines) ∙ ap (λ (xs : List Seen). take i lines ++ with_seen xs (drop i lines)) (sym r) ∙ h
