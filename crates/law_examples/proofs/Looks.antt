-- What a side reads: which blocks, for which channel, and what it finds there.
use Rattle.std.proofs.Common.{◌≡◌, ℕ, ◌+◌, Bool, true, false, List, [], ◌∷◌, ◌++◌, map, drop, length, Some, None, sym, ap, ◌∙◌, refl, subst, arith, length-append}
use Rattle.std.specs.Prelude.{slice_get, ◌↔◌}
use Rattle.std.proofs.lemmas.Bool.{true≢false, false≢true}
use Rattle.std.proofs.lemmas.Option.{slice_get_past}
use Rattle.tx.specs.Fields.{Transaction}
use Rattle.chain.specs.Blocks.{Contents as Block}
use Rattle.terms.specs.declared.sides.Side.{Side}
use Rattle.terms.specs.declared.sides.Side.TheVariants.{A, B}
use Rattle.claim.specs.Claims.{ClaimParts}
use Rattle.commit.specs.Commitments.{Contents}
use Rattle.penalty.specs.Claimable.{Claimable}
use Rattle.penalty.specs.Sets.{AreClaimsOn}
use Rattle.resolve.specs.declared.known.Known.{Known}
use Rattle.keys.specs.Rights.{MaySign}
use Rattle.channel.specs.Rights.{rights_of}
use Rattle.channel.specs.States.{State}
use Rattle.watch.specs.Watching.{Seen, spends_after, claims_after, seen_after}
use Rattle.watch.specs.Learning.{htlcs_by, learnt_in}
use Rattle.watch.specs.Sights.{IsSight}
use Rattle.book.specs.declared.calls.Entry.{Entry}
use Rattle.book.specs.Books.{ChannelBook, is_kept, replay}
use Rattle.book.specs.Knowing.{IsKnownOf, preimages_in, below, signed_parts, own_at, theirs_at, revoked_parts, revoked_at}
use Rattle.side.specs.declared.due.DueClaim.{DueClaim}
use Rattle.side.specs.Due.{due_claims_of, Finds}
use Rattle.world.specs.Worlds.{Node, Line}
use Rattle.world.specs.Looking.{Knows, is_closed, ReadsChannel, quiet, sees, ReadsBlock, no_more, channel, Reading, IsAfter, Reads, all_read, block, Looks}
use Rattle.safety.proofs.Lists.{none_some}
use Rattle.law_examples.proofs.Samples.{nobody, empty}

-- ---- what is known

module _ (history : List Entry) (learnt : List (List ℕ)) (known : Known) where
  -- yes: Knows
  knows : (ch : ChannelBook) → slice_get (replay history) 3 ≡ Some ch → IsKnownOf ch.state (is_kept ch.kept) (preimages_in 3 history ++ learnt) known → Knows history learnt 3 known
  knows ch there is = record { ch = ch; there = there; is = is }

  -- no: Knows
  no_channel : replay history ≡ [] → Knows history learnt 3 known → ⊥
  no_channel e k = none_some k.ch (sym (slice_get_past [] 3 (omega arith)) ∙ subst (λ (chs : List ChannelBook). slice_get chs 3 ≡ Some k.ch) e k.there)

  -- what blocks showed counts
  -- no: Knows
  forgotten : length learnt ≡ 1 → known.preimages ≡ [] → Knows history learnt 3 known → ⊥
  forgotten l e k =
      let f = ap length (sym e ∙ k.is.preimages_are) in
      let g = length-append (preimages_in 3 history) learnt in
      omega (arith, l, f, g)

abbrev is_a : Side → Bool
is_a A = true
is_a B = false

module _ (s : State) (kept : ℕ → Bool) (preimages : List (List ℕ)) (known : Known) where
  -- own commitment 1, the peer's commitment 2 and, where it is signed, 3, and two revoked ones
  -- yes: IsKnownOf
  known_of : s.number ≡ 1 → s.peer_number ≡ 2 → length s.secrets ≡ 2 → known.terms ≡ s.held.terms → known.side ≡ s.held.side → known.signer.seed ≡ s.seed
      → ((key : List ℕ) → MaySign known.signer key ↔ MaySign (rights_of s) key) → Some (signed_parts known.own) ≡ own_at s 1 → map signed_parts known.older ≡ below (own_at s) 1
      → Some known.theirs ≡ theirs_at s 2 → known.next ≡ theirs_at s 3 → map revoked_parts known.revoked ≡ below (revoked_at s kept) 2 → known.preimages ≡ preimages → IsKnownOf s kept preimages known
  known_of n m l terms side seed rights own older theirs next revoked shown = record {
    terms_are = terms;
    side_is = side;
    seed_is = seed;
    rights_are = rights;
    own_is = rw n own;
    older_are = rw n older;
    theirs_is = rw m theirs;
    next_is = rw m next;
    revoked_are = rw l revoked;
    preimages_are = shown;
  }

  -- no: IsKnownOf
  another_side : s.held.side ≡ A → known.side ≡ B → IsKnownOf s kept preimages known → ⊥
  another_side e f k = false≢true (ap is_a (sym f ∙ k.side_is ∙ e))

  -- no: IsKnownOf
  no_commitment : own_at s s.number ≡ None → IsKnownOf s kept preimages known → ⊥
  no_commitment e k = let f = sym e ∙ sym k.own_is in cc

  -- no: IsKnownOf
  next_left_out : (c : Contents) → theirs_at s (s.peer_number + 1) ≡ Some c → known.next ≡ None → IsKnownOf s kept preimages known → ⊥
  next_left_out c e f k = none_some c (sym f ∙ k.next_is ∙ e)

  -- no: IsKnownOf
  preimage_left_out : (x : List ℕ) → preimages ≡ x ∷ [] → known.preimages ≡ [] → IsKnownOf s kept preimages known → ⊥
  preimage_left_out x e f k = let l = ap length (sym f ∙ k.preimages_are ∙ e) in omega (arith, l)

-- ---- what a block gives

abbrev first_channel : List DueClaim → ℕ
first_channel [] = 9
first_channel (d ∷ ds) = d.channel

module _ (known : Known) (older : Seen) (txs : List Transaction) where
  -- yes: IsSight
  sight : (claims : List ClaimParts) → AreClaimsOn (claims_after older 5 txs known) claims → IsSight older 5 txs known claims (learnt_in (htlcs_by known (spends_after older 5 txs known)) txs)
  sight claims a = record { due = a; shown = refl }

  -- no: IsSight
  undue : (x : ClaimParts) (shown : List (List ℕ)) → claims_after older 5 txs known ≡ [] → IsSight older 5 txs known (x ∷ []) shown → ⊥
  undue x shown e s = subst (λ (os : List Claimable). AreClaimsOn os (x ∷ [])) e s.due

  -- no: IsSight
  shown_by_nothing : (x : List ℕ) (claims : List ClaimParts) → learnt_in (htlcs_by known (spends_after older 5 txs known)) txs ≡ [] → IsSight older 5 txs known claims (x ∷ []) → ⊥
  shown_by_nothing x claims e s = let l = ap length (s.shown ∙ e) in omega (arith, l)

  -- yes: Finds
  finds : (claims : List ClaimParts) (shown : List (List ℕ)) → IsSight older 5 txs known claims shown → Finds known 5 txs 3 older (seen_after older 5 txs known) (due_claims_of 3 known.preimages claims) shown
  finds claims shown s = record { claims = claims; sight = s; seen = refl; jobs_are = refl }

  -- no: Finds
  of_another_channel : (newer : Seen) (job : DueClaim) (shown : List (List ℕ)) → job.channel ≡ 4 → Finds known 5 txs 3 older newer (job ∷ []) shown → ⊥
  of_another_channel newer job shown e f = by f.claims f.jobs_are
    where
      by : (claims : List ClaimParts) → job ∷ [] ≡ due_claims_of 3 known.preimages claims → ⊥
      by [] g = let l = ap length g in omega (arith, l)
      by (x ∷ claims) g = let c : job.channel ≡ 3 = ap first_channel g in omega (arith, e, c)

-- ---- blocks

module _ (learnt : List (List ℕ)) (txs : List Transaction) where
  -- yes: ReadsChannel
  nothing_to_read : (seen : Seen) → ReadsChannel [] learnt 5 txs 0 seen seen [] []
  nothing_to_read seen = quiet refl

  -- a channel that was closed is read by what is known of it
  -- yes: ReadsChannel
  seen_by : (history : List Entry) (known : Known) (older newer : Seen) (jobs : List DueClaim) (shown : List (List ℕ)) → Knows history learnt 1 known → Finds known 5 txs 1 older newer jobs shown
      → ReadsChannel history learnt 5 txs 1 older newer jobs shown
  seen_by history known older newer jobs shown k f = sees known k f

  -- without a channel nothing is due
  none_due : {older newer : Seen} {jobs : List DueClaim} {shown : List (List ℕ)} → ReadsChannel [] learnt 5 txs 0 older newer jobs shown → length jobs ≡ 0
  none_due (quiet e) = refl
  none_due (sees known k f) = absurd (none_some k.ch (sym (slice_get_past [] 0 (omega arith)) ∙ k.there))

  -- no: ReadsChannel
  due_without_channel : (older newer : Seen) (job : DueClaim) → ReadsChannel [] learnt 5 txs 0 older newer (job ∷ []) [] → ⊥
  due_without_channel older newer job r = let l = none_due r in omega (arith, l)

  -- what closed is read by what is known
  read_by : (history : List Entry) {older newer : Seen} {jobs : List DueClaim} {shown : List (List ℕ)} → is_closed (slice_get (replay history) 0) older txs ≡ true → ((known : Known) → Knows history learnt 0 known → ⊥)
      → ReadsChannel history learnt 5 txs 0 older newer jobs shown → ⊥
  read_by history e n (quiet f) = true≢false (sym e ∙ f)
  read_by history e n (sees known k f) = n known k

  -- no: ReadsChannel
  closed_unread : (history : List Entry) (seen : Seen) → is_closed (slice_get (replay history) 0) seen txs ≡ true → ((known : Known) → Knows history learnt 0 known → ⊥) → ReadsChannel history learnt 5 txs 0 seen seen [] [] → ⊥
  closed_unread history seen e n r = read_by history e n r

  -- yes: ReadsBlock
  two_read : (s t : Seen) → ReadsBlock [] learnt 5 txs 0 (s ∷ t ∷ []) (s ∷ t ∷ []) [] []
  two_read s t = channel (quiet refl) (channel (quiet refl) no_more)

  -- the channel after the first is channel 1
  -- yes: ReadsBlock
  first_and_second : (history : List Entry) (q r s t : Seen) (i j : List DueClaim) (x y : List (List ℕ)) → ReadsChannel history learnt 5 txs 0 q r i x → ReadsChannel history learnt 5 txs 1 s t j y
      → ReadsBlock history learnt 5 txs 0 (q ∷ s ∷ []) (r ∷ t ∷ []) (i ++ (j ++ [])) (x ++ (y ++ []))
  first_and_second history q r s t i j x y a b = channel a (channel b no_more)

  as_many : (history : List Entry) {c : ℕ} {older newer : List Seen} {jobs : List DueClaim} {shown : List (List ℕ)} → ReadsBlock history learnt 5 txs c older newer jobs shown → length older ≡ length newer
  as_many history no_more = refl
  as_many history (channel r b) = let l = as_many history b in omega (arith, l)

  -- no: ReadsBlock
  channel_lost : (history : List Entry) (s t : Seen) → ReadsBlock history learnt 5 txs 0 (s ∷ t ∷ []) (s ∷ []) [] [] → ⊥
  channel_lost history s t r = let l = as_many history r in omega (arith, l)

  none_shown : (history : List Entry) {c : ℕ} {older newer : List Seen} {jobs : List DueClaim} {shown : List (List ℕ)} → ReadsBlock history learnt 5 txs c older newer jobs shown → length older ≡ 0
      → (length jobs ≡ 0) × (length shown ≡ 0)
  none_shown history no_more l = (refl, refl)
  none_shown history (channel r b) l = absurd (omega (arith, l))

abbrev nothing : Reading
nothing = record { seen = []; learnt = []; jobs = [] }

module _ (x : List ℕ) (txs : List Transaction) where
  -- yes: IsAfter
  after_nothing : IsAfter [] 5 txs nothing nothing
  after_nothing = record { jobs = []; shown = []; channels = no_more; jobs_are = refl; learnt_is = refl }

  -- no: IsAfter
  learnt_from_nothing : IsAfter [] 5 txs nothing (record nothing { learnt = x ∷ [] }) → ⊥
  learnt_from_nothing a =
      let n = (none_shown [] txs [] a.channels refl).1 in
      let l = ap length a.learnt_is in
      omega (arith, n, l)

  -- no: IsAfter
  job_from_nothing : (j : DueClaim) → IsAfter [] 5 txs nothing (record nothing { jobs = j ∷ [] }) → ⊥
  job_from_nothing j a =
      let n = (none_shown [] txs [] a.channels refl).0 in
      let l = ap length a.jobs_are in
      omega (arith, n, l)

  -- by what was learnt before the block, and the jobs and preimages behind those before it
  -- yes: IsAfter
  after_a_block : (history : List Entry) (r n : Reading) (jobs : List DueClaim) (shown : List (List ℕ)) → ReadsBlock history r.learnt 5 txs 0 r.seen n.seen jobs shown → n.jobs ≡ r.jobs ++ jobs
      → n.learnt ≡ r.learnt ++ shown → IsAfter history 5 txs r n
  after_a_block history r n jobs shown b e f = record { jobs = jobs; shown = shown; channels = b; jobs_are = e; learnt_is = f }

  -- yes: Reads
  one_block : Reads [] 5 (empty ∷ []) nothing nothing
  one_block = block (record { jobs = []; shown = []; channels = no_more; jobs_are = refl; learnt_is = refl }) all_read

  -- the second block has the next height, and its transactions are read in their order
  -- yes: Reads
  two_blocks : (history : List Entry) (q r s : Reading) (t u : Transaction) → IsAfter history 5 [] q r → IsAfter history 6 (t ∷ u ∷ []) r s
      → Reads history 5 (empty ∷ record { transactions = u ∷ t ∷ []; granted = [] } ∷ []) q s
  two_blocks history q r s t u a b = block a (block b all_read)

  -- no block leaves all as it was
  none_read : {height : ℕ} {blocks : List Block} {r done : Reading} → Reads [] height blocks r done → length blocks ≡ 0 → r ≡ done
  none_read all_read l = refl
  none_read (block a b) l = absurd (omega (arith, l))

  -- no: Reads
  learnt_from_no_block : Reads [] 5 [] nothing (record nothing { learnt = x ∷ [] }) → ⊥
  learnt_from_no_block r = let l = ap (λ (z : Reading). length z.learnt) (none_read r refl) in omega (arith, l)

-- ---- a side that read the block of height 1, on a chain up to height 2

abbrev reader : ℕ → Node
reader height = record nobody { read = height }

-- yes: Looks
looked : Looks (reader 1) (empty ∷ empty ∷ empty ∷ []) (reader 2) 0
looked = record { found = nothing; reads = block (record { jobs = []; shown = []; channels = no_more; jobs_are = refl; learnt_is = refl }) all_read; after = refl; count = refl }

-- no: Looks
looked_not : Looks (reader 1) (empty ∷ empty ∷ empty ∷ []) (reader 1) 0 → ⊥
looked_not l = let e : 1 ≡ 2 = ap (λ (n : Node). n.read) l.after in omega (arith, e)

-- no: Looks
looked_too_far : Looks (reader 1) (empty ∷ empty ∷ empty ∷ []) (reader 3) 0 → ⊥
looked_too_far l = let e : 3 ≡ 2 = ap (λ (n : Node). n.read) l.after in omega (arith, e)

-- no: Looks
one_job_counted : Looks (reader 1) (empty ∷ empty ∷ empty ∷ []) (reader 2) 1 → ⊥
one_job_counted l = let e = ap (λ (n : Node). length n.jobs) l.after in let c = l.count in omega (arith, e, c)

-- the blocks above the height that was read, the oldest first
-- yes: Looks
reads_the_newest : (n : Node) (b d e : Block) (done : Node) (k : ℕ) → n.read ≡ 1 → (l : Looks n (b ∷ d ∷ e ∷ []) done k) → Reads n.history 2 (b ∷ []) (record { seen = map (λ (line : Line). line.seen) n.lines; learnt = n.learnt; jobs = [] }) l.found
reads_the_newest n b d e done k r l =
    subst (λ (m : ℕ). Reads n.history (m + 1) (drop (m + 1) (e ∷ d ∷ b ∷ [])) (record { seen = map (λ (line : Line). line.seen) n.lines; learnt = n.learnt; jobs = [] }) l.found) r l.reads
