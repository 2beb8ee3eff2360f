-- The channels that a reader follows, by what was seen of each and what is known of it.
use Rattle.std.proofs.Common.{◌≡◌, ℕ, ◌+◌, ◌<◌, ◌≤◌, List, [], ◌∷◌, ◌++◌, length, map, set, get_or, replicate, Bool, true, false, if◌then◌else◌, Option, Some, None, refl, sym, ap, ◌∙◌, append-nil, arith}
use Rattle.std.specs.Bool.{OnTrue}
use Rattle.std.proofs.Math.Seq.{map-set_same}
use Rattle.std.proofs.lemmas.List.{get_or-map, map-set, length-map}
use Rattle.tx.specs.declared.input.OutPoint.{OutPoint}
use Rattle.tx.specs.Fields.{Transaction}
use Rattle.resolve.specs.declared.known.Known.{Known}
use Rattle.watch.specs.Watching.{Seen}
use Rattle.side.specs.declared.due.DueClaim.{DueClaim}
use Rattle.side.specs.declared.following.Followed.{Followed}
use Rattle.side.specs.declared.following.Followed.TheVariants.{Alone, Known as Told}
use Rattle.side.specs.Due.{FindsIf, taught}
use Rattle.side.specs.Reading.{begun, is_to_ask, numbers_to_ask, with_answer}
use Rattle.side.specs.Following.{seen_in, known_in, AreOpen, unanswered, told, taught_in, reader_of}
use Rattle.side.specs.Reading.{FindsBlock, no_more, channel, IsRead}
use Rattle.side.proofs.Readings.{asked_from, asked_step, Onward, onward_step, onward_end}

-- ---- channels without an answer

seen_unanswered : (xs : List Seen) → map seen_in (map unanswered xs) ≡ xs
seen_unanswered [] = refl
seen_unanswered (x ∷ xs) = ap (λ ys. x ∷ ys) (seen_unanswered xs)

none_known : (xs : List Seen) → map known_in (map unanswered xs) ≡ replicate (length xs) None
none_known [] = refl
none_known (x ∷ xs) = ap (λ (ys : List (Option Known)). None ∷ ys) (none_known xs)

pub begins : (fundings : List OutPoint) (watches : List Seen) (channels : List Followed) (learnt : List (List ℕ)) (due : List DueClaim) → channels ≡ map unanswered watches → due ≡ []
    → reader_of fundings channels learnt due ≡ begun fundings watches learnt
begins fundings watches channels learnt due e d = rw (e, d, seen_unanswered watches, none_known watches) refl

pub are_open : (xs : List Seen) → AreOpen (map unanswered xs)
are_open [] = tt
are_open (x ∷ xs) = (refl, are_open xs)

-- ---- one channel of many

pub seen_at : (fs : List Followed) (i : ℕ) (f : Followed) → i < length fs → f ≡ get_or fs i f → seen_in f ≡ get_or (map seen_in fs) i (seen_in f)
seen_at fs i f l e = ap seen_in e ∙ sym (get_or-map seen_in fs i f (seen_in f) l)

pub known_at : (fs : List Followed) (i : ℕ) (f : Followed) → i < length fs → f ≡ get_or fs i f → known_in f ≡ get_or (map known_in fs) i (known_in f)
known_at fs i f l e = ap known_in e ∙ sym (get_or-map known_in fs i f (known_in f) l)

-- ---- more preimages

pub seen_taught : (shown : List (List ℕ)) (fs : List Followed) → map seen_in (map (taught_in shown) fs) ≡ map seen_in fs
seen_taught shown [] = refl
seen_taught shown (Alone s ∷ fs) = ap (λ ys. s ∷ ys) (seen_taught shown fs)
seen_taught shown (Told l ∷ fs) = ap (λ ys. l.seen ∷ ys) (seen_taught shown fs)

pub known_taught : (shown : List (List ℕ)) (fs : List Followed) → map known_in (map (taught_in shown) fs) ≡ map (taught shown) (map known_in fs)
known_taught shown [] = refl
known_taught shown (Alone s ∷ fs) = ap (λ (ys : List (Option Known)). None ∷ ys) (known_taught shown fs)
known_taught shown (Told l ∷ fs) = ap (λ (ys : List (Option Known)). taught shown (Some l.known) ∷ ys) (known_taught shown fs)

-- ---- an answer

pub answers : (fundings : List OutPoint) (fs : List Followed) (learnt : List (List ℕ)) (due : List DueClaim) (c : ℕ) (f : Followed) (known told_known : Known) → c < length fs → f ≡ get_or fs c f
    → told_known ≡ record known { preimages = known.preimages ++ learnt }
    → reader_of fundings (set fs c (told told_known f)) learnt due ≡ with_answer c known (reader_of fundings fs learnt due)
answers fundings fs learnt due c f known told_known l e k =
    let seen : map seen_in (set fs c (told told_known f)) ≡ map seen_in fs = map-set_same seen_in fs c (told told_known f) f (ap seen_in e) in
    let knowns : map known_in (set fs c (told told_known f)) ≡ set (map known_in fs) c (Some told_known) = map-set known_in fs c (told told_known f) in
    rw (seen, knowns, k) refl

-- ---- a block

module _ (height : ℕ) (txs : List Transaction) (old : List Followed) where
  -- the channels below number i are read, and what is known of each is as it was
  pub record IsReadUpTo (i : ℕ) (now : List Followed) (jobs : List DueClaim) (shown : List (List ℕ)) : Type 0 where
    pub onward : Onward height txs i (map known_in old) (map seen_in old) (map seen_in now) jobs shown
    pub known : map known_in now ≡ map known_in old

  pub read_step : (i : ℕ) (now next : List Followed) (f g : Followed) (jobs jobs' new_jobs : List DueClaim) (shown shown' new_shown : List (List ℕ)) → IsReadUpTo i now jobs shown
      → i < length now → f ≡ get_or now i f → next ≡ set now i g → FindsIf (known_in f) height txs i (seen_in f) (seen_in g) new_jobs new_shown → known_in g ≡ known_in f
      → jobs' ≡ jobs ++ new_jobs → shown' ≡ shown ++ new_shown → IsReadUpTo (i + 1) next jobs' shown'
  read_step i now next f g jobs jobs' new_jobs shown shown' new_shown h l e n finds k j s =
      let as_many : length (map known_in old) ≡ length now = ap length (sym h.known) ∙ length-map now known_in in
      let seen_long : length (map seen_in now) ≡ length now = length-map now seen_in in
      let known_is : known_in f ≡ get_or (map known_in old) i (known_in f) = known_at now i f l e ∙ ap (λ (xs : List (Option Known)). get_or xs i (known_in f)) h.known in
      let seen_next : map seen_in next ≡ set (map seen_in now) i (seen_in g) = ap (map seen_in) n ∙ map-set seen_in now i g in
      let known_next : map known_in next ≡ map known_in old = ap (map known_in) n ∙ map-set_same known_in now i g f (k ∙ ap known_in e) ∙ h.known in
      record {
        onward = onward_step height txs (map known_in old) i (map seen_in old) (map seen_in now) jobs shown (known_in f) (seen_in f) (seen_in g) (map seen_in next) jobs' new_jobs shown' new_shown h.onward
            (omega (arith, l, as_many)) (omega (arith, l, seen_long)) known_is (seen_at now i f l e) seen_next finds j s;
        known = known_next;
      }

  pub read_end : (i : ℕ) (now : List Followed) (jobs : List DueClaim) (shown : List (List ℕ)) → IsReadUpTo i now jobs shown → length now ≤ i
      → FindsBlock height txs 0 (map known_in old) (map seen_in old) (map seen_in now) jobs shown
  read_end i now jobs shown h l =
      onward_end height txs (map known_in old) i (map seen_in old) (map seen_in now) jobs shown h.onward (omega (arith, l, length-map now seen_in))
      (omega (arith, l, ap length h.known, length-map now known_in))

-- ---- what is asked

pub asked_of_followed : (fundings : List OutPoint) (fs : List Followed) (txs : List Transaction) (i : ℕ) (o : OutPoint) (f : Followed) (asks : Bool) (found more : List ℕ)
    → length fundings ≡ length fs → i < length fs → o ≡ get_or fundings i o → f ≡ get_or fs i f → asks ≡ is_to_ask o (seen_in f) (known_in f) txs → more ≡ found ++ (if asks then i ∷ [] else [])
    → found ++ asked_from fundings (map seen_in fs) (map known_in fs) txs i ≡ numbers_to_ask 0 fundings (map seen_in fs) (map known_in fs) txs
    → more ++ asked_from fundings (map seen_in fs) (map known_in fs) txs (i + 1) ≡ numbers_to_ask 0 fundings (map seen_in fs) (map known_in fs) txs
asked_of_followed fundings fs txs i o f asks found more s l e d a m h =
    asked_step fundings (map seen_in fs) (map known_in fs) txs i o (seen_in f) (known_in f) asks found more (numbers_to_ask 0 fundings (map seen_in fs) (map known_in fs) txs) (omega (arith, s, l))
    (omega (arith, l, length-map fs seen_in)) (omega (arith, l, length-map fs known_in)) e (seen_at fs i f l d) (known_at fs i f l d) a m h

-- ---- no answers

finds_none : (height : ℕ) (txs : List Transaction) (c : ℕ) (fs : List Followed) → AreOpen fs → FindsBlock height txs c (map known_in fs) (map seen_in fs) (map seen_in fs) [] []
finds_none height txs c [] h = no_more
finds_none height txs c (Alone s ∷ fs) h = channel [] [] (refl, refl, refl) (finds_none height txs (c + 1) fs h.1)
finds_none height txs c (Told l ∷ fs) h = absurd (cc)

none_taught : (fs : List Followed) → AreOpen fs → map known_in fs ≡ map (taught []) (map known_in fs)
none_taught [] h = refl
none_taught (Alone s ∷ fs) h = ap (λ (ys : List (Option Known)). None ∷ ys) (none_taught fs h.1)
none_taught (Told l ∷ fs) h = absurd (cc)

pub when_quiet : (b : Bool) (fs : List Followed) → b ≡ true → OnTrue b (AreOpen fs) → AreOpen fs
when_quiet true fs e h = h
when_quiet false fs e h = absurd (cc)

-- a block gives nothing where no channel has an answer
pub reads_nothing : (height : ℕ) (txs : List Transaction) (fundings : List OutPoint) (fs : List Followed) (learnt : List (List ℕ)) (due : List DueClaim) → AreOpen fs
    → IsRead height txs (reader_of fundings fs learnt due) (reader_of fundings fs learnt due)
reads_nothing height txs fundings fs learnt due h =
    record {
      jobs = [];
      shown = [];
      channels = finds_none height txs 0 fs h;
      jobs_are = sym (append-nil due);
      learnt_is = sym (append-nil learnt);
      knowns_are = none_taught fs h;
      fundings_are = refl;
    }
