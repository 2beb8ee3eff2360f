-- What takes an output of a revoked commitment on the chain of a world.
use Rattle.std.proofs.Common.{◌≡◌, ◌≢◌, ℕ, Bool, true, false, eqb, List, [], ◌∷◌, ◌++◌, reverse, Contains, Some, refl, sym, ap, ◌∙◌, subst, inl, inr, ⊎_elim, eq-eqb}
use Rattle.std.specs.Prelude.{◌⊎◌, slice_get}
use Rattle.std.proofs.lemmas.Bool.{false≢true, eqb-true}
use Rattle.std.proofs.lemmas.List.{reverse-append}
use Rattle.std.proofs.lemmas.List.Elements.{Contains-append_left, Contains-append_right, Contains-push_cases}
use Rattle.std.proofs.lemmas.Option.{same_Some}
use Rattle.tx.specs.declared.input.OutPoint.{OutPoint}
use Rattle.tx.specs.declared.input.TxIn.{TxIn}
use Rattle.tx.specs.Fields.{Transaction, unsigned_transaction}
use Rattle.chain.specs.Blocks.{Contents as Block, Coin, coin_at, grant_outpoint, transactions_of}
use Rattle.chain.specs.Indexing.{marked}
use Rattle.claim.specs.Claims.{ClaimParts}
use Rattle.terms.specs.declared.sides.Side.{Side}
use Rattle.terms.specs.declared.sides.Side.TheVariants.{A, B}
use Rattle.terms.specs.declared.agreement.Terms.{Terms}
use Rattle.terms.specs.Sides.{other}
use Rattle.commit.specs.declared.outputs.HtlcOutput.{HtlcOutput}
use Rattle.commit.specs.Commitments.{Contents, htlcs_of, htlc_tx_of}
use Rattle.penalty.specs.Claimable.{Claimable, claims_from}
use Rattle.penalty.specs.Sets.{claimed_by}
use Rattle.filling.specs.Filled.{AllFit}
use Rattle.safety.specs.Standing.{StandsAt}
use Rattle.channel.specs.declared.commitments.CommitmentState.{CommitmentState}
use Rattle.channel.specs.Tokens.{contents_of}
use Rattle.book.specs.Books.{ChannelBook}
use Rattle.book.specs.Penalties.{revoked_contents, claimable_in}
use Rattle.safety.specs.Places.{IsOutPointOf}
use Rattle.safety.specs.Strings.{IsHashedForCommitment, IsHashedForSeed, StringsCollide}
use Rattle.safety.specs.Ways.{by_peer, by_htlc_transaction, by_owner, by_collision}
use Rattle.safety.specs.Standing.{PassesTest}
use Rattle.safety.specs.Spending.{HasWaited}
use Rattle.safety.specs.Takers.{IsHtlcTransaction, IsHashedForGrant}
use Rattle.safety.specs.Taken.{ChannelRecord, IsIn, IsOwn, ChannelRecords, IsFilledBy, Fillings, AreFilled, IsFrom as IsFromRecords, from_htlc, from_filling}
use Rattle.safety.specs.Taken.{IsHashedForChannels as IsRecordedString, of_commitment as string_of_commitment, of_seed as string_of_seed, of_grant as string_of_grant}
use Rattle.safety.specs.Taken.{IsTaker as TakesRecorded}
use Rattle.world.specs.Worlds.{World, node_of}
use Rattle.world.specs.Releasing.{IsFillingIn}
use Rattle.world.specs.Sources.{IsFrom, transactions_in, IsDueOf, IsDueIn}
use Rattle.world.specs.Taken.{IsRevokedTo, IsHashedIn, of_commitment, of_seed, of_grant, IsTaker, OutputsAreTaken}
use Rattle.world.specs.Theorem.{IsWorld}
use Rattle.world.proofs.Recorded.{none_in, later_in, first_in, cases_in}
use Rattle.world.proofs.TwoEnds.{end_of, AreBoth, Laws, found_at}
use Rattle.world.proofs.Recordings.{recorded, same_record, only, only_is, only_there, grants_differ, own_at, is_sound, twice}
use Rattle.world.proofs.FromRecords.{standing_in, all_in, signed_in, revoked_is, claims_of_contents, IsOn, on_own, on_peers, on_revoked, is_on, due_to, side_of, AllOfThemFit, IsMade, commits, stages, fills, is_made}

-- ---- a transaction on the chain is one of the world's

reversed_in : {X : Type 0} (xs : List X) (x : X) → Contains (reverse xs) x → Contains xs x
reversed_in [] x c = c
reversed_in {X} (y ∷ ys) x c =
    ⊎_elim {C = Contains (y ∷ ys) x} (λ (h : Contains (reverse ys) x). later_in y ys x (reversed_in ys x h)) (λ (e : y ≡ x). subst (λ (z : X). Contains (y ∷ ys) z) e (first_in y ys))
    (Contains-push_cases (reverse ys) y x (subst (λ (zs : List X). Contains zs x) (reverse-append (y ∷ []) ys) c))

in_block : (blocks : List Block) (b : Block) (t : Transaction) → Contains blocks b → Contains b.transactions t → Contains (transactions_of blocks) t
in_block [] b t c d = absurd (none_in b c)
in_block (z ∷ older) b t c d =
    ⊎_elim {C = Contains (transactions_of (z ∷ older)) t} (λ (e : z ≡ b). Contains-append_left z.transactions (transactions_of older) t (subst (λ (v : Block). Contains v.transactions t) (sym e) d))
    (λ (h : Contains older b). Contains-append_right z.transactions (transactions_of older) t (in_block older b t h d)) (cases_in z older b c)

on_chain : (blocks : List Block) (height : ℕ) (t : Transaction) → StandsAt blocks height t → Contains (transactions_of blocks) t
on_chain blocks height t stands = in_block blocks stands.block t (reversed_in blocks stands.block (standing_in (reverse blocks) height stands.block stands.there)) stands.within

-- ---- strings

abbrev WorldCollides : World → Type 0
WorldCollides w = StringsCollide (IsHashedIn w) (IsHashedIn w)

-- what is hashed for a recorded commitment
for_commitment : (w : World) (c : ℕ) (x y : ChannelBook) → AreBoth w c x y → (side : Side) (k : CommitmentState) → IsIn (recorded x y) side k → (bytes : List ℕ)
    → IsHashedForCommitment x.state.held.terms k bytes → IsHashedIn w bytes
for_commitment w c x y b side k i bytes h =
    of_commitment (other side) c i.at (end_of (other side) x y) k (b.there (other side)) i.there (subst (λ (v : Terms). IsHashedForCommitment v k bytes) (sym (b.terms (other side))) h)

hashed : (w : World) (c : ℕ) (x y : ChannelBook) → AreBoth w c x y → (bytes : List ℕ) → IsRecordedString (only c (recorded x y)) bytes → IsHashedIn w bytes
hashed w c x y b bytes (string_of_commitment d r e side k i h) =
    let same = (only_is c d (recorded x y) r e).1 in
    for_commitment w c x y b side k (subst (λ (q : ChannelRecord). IsIn q side k) (sym same) i) bytes (subst (λ (q : ChannelRecord). IsHashedForCommitment q.terms k bytes) (sym same) h)
hashed w c x y b bytes (string_of_seed d r e side h) =
    of_seed side c (end_of side x y) (b.there side) (subst (λ (q : ChannelRecord). IsHashedForSeed (q.seed side) bytes) (sym (only_is c d (recorded x y) r e).1) h)
hashed w c x y b bytes (string_of_grant d r e h) = of_grant c b.granted.0 (subst (λ n. IsHashedForGrant n bytes) (only_is c d (recorded x y) r e).0 h)

-- ---- outpoints of two channels

-- an outpoint is one of a recorded commitment
record IsSpot (w : World) (c : ℕ) (o : OutPoint) : Type 0 where
  x : ChannelBook
  y : ChannelBook
  both : AreBoth w c x y
  side : Side
  k : CommitmentState
  i : IsIn (recorded x y) side k
  at : IsOutPointOf (contents_of x.state.held.terms k) o

two_spots : Laws → (w : World) (c d : ℕ) → d ≢ c → (o : OutPoint) → IsSpot w c o → IsSpot w d o → WorldCollides w
two_spots laws w c d unlike o a b =
    let first : IsOwn (recorded a.x a.y) a.side a.i.at a.k = own_at laws w c a.x a.y a.both a.side a.i.at a.k a.i.there in
    let second : IsOwn (recorded b.x b.y) b.side b.i.at b.k = own_at laws w d b.x b.y b.both b.side b.i.at b.k b.i.there in
    let z = laws.channels_apart a.x.state.held.terms b.x.state.held.terms a.k b.k first.payable second.payable
    (λ e. grants_differ c d a.both.granted.0 b.both.granted.0 (λ same. unlike (sym same)) (sym a.both.granted.1 ∙ e ∙ b.both.granted.1)) o a.at b.at in
    record {
      first = z.first;
      second = z.second;
      of_first = for_commitment w c a.x a.y a.both a.side a.k a.i z.first z.of_first;
      of_second = for_commitment w d b.x b.y b.both b.side b.k b.i z.second z.of_second;
      collide = z.collide;
    }

a_grant : Laws → (w : World) (c d : ℕ) (x y : ChannelBook) → AreBoth w d x y → (o : OutPoint) → IsSpot w c o → o ≡ grant_outpoint d → WorldCollides w
a_grant laws w c d x y b o a e =
    let z = laws.grants_apart a.x.state.held.terms a.k d (subst (λ (p : OutPoint). IsOutPointOf (contents_of a.x.state.held.terms a.k) p) e a.at) in
    record { first = z.first; second = z.second; of_first = of_grant d b.granted.0 z.of_first; of_second = for_commitment w c a.x a.y a.both a.side a.k a.i z.second z.of_second; collide = z.collide }

-- a claim that is due is at one
spot_of : Laws → (w : World) (c : ℕ) (x y : ChannelBook) → AreBoth w c x y → (s : Side) (p : ClaimParts) → IsOn w c x y s p → IsSpot w c p.place.outpoint
spot_of laws w c x y b s p (on_own k i preimages h) =
    record { x = x; y = y; both = b; side = s; k = k; i = i; at = (laws.owners preimages (contents_of x.state.held.terms k) (claimed_by p) h).1 }
spot_of laws w c x y b s p (on_peers k i preimages h) =
    record { x = x; y = y; both = b; side = other s; k = k; i = i; at = (laws.peers preimages (contents_of x.state.held.terms k) (claimed_by p) h).1 }
spot_of laws w c x y b s p (on_revoked k i h) = record { x = x; y = y; both = b; side = other s; k = k; i = i; at = (laws.revoked (contents_of x.state.held.terms k) (claimed_by p) h).1 }

-- ---- a revoked commitment, by the records of its channel

-- a commitment of the other side's, and an output that it lets this side claim
record IsAsked (w : World) (s : Side) (c : Contents) (o : Claimable) : Type 0 where
  channel : ℕ
  x : ChannelBook
  y : ChannelBook
  both : AreBoth w channel x y
  apart : (end_of s x y).state.seed ≢ (end_of (other s) x y).state.seed
  k : CommitmentState
  i : IsIn (recorded x y) (other s) k
  same : c ≡ contents_of x.state.held.terms k
  claimable : Contains (claims_from (contents_of x.state.held.terms k) 0 (contents_of x.state.held.terms k).outputs) o

asked : Laws → (w : World) → IsWorld w → (s : Side) (c : Contents) (o : Claimable) → IsRevokedTo w s c → Contains (claimable_in c) o → IsAsked w s c o
asked laws w is s c o revoked claimable =
    let f = found_at laws w is s revoked.channel revoked.ch revoked.there in
    let k = revoked.commitment in
    let peers : end_of (other s) f.x f.y ≡ revoked.peers = same_Some (end_of (other s) f.x f.y) revoked.peers (sym (f.both.there (other s)) ∙ revoked.peers_there) in
    let signed : slice_get (end_of s f.x f.y).state.signed revoked.number ≡ Some k = subst (λ (ch : ChannelBook). slice_get ch.state.signed revoked.number ≡ Some k) (sym f.is) revoked.signed in
    let told : slice_get (end_of s f.x f.y).state.secrets revoked.number ≡ Some revoked.secret
    = subst (λ (ch : ChannelBook). slice_get ch.state.secrets revoked.number ≡ Some revoked.secret) (sym f.is) revoked.revealed in
    let same : c ≡ contents_of f.x.state.held.terms k
    = revoked.is ∙ ap (λ (ch : ChannelBook). revoked_contents ch.state k revoked.secret) (sym f.is) ∙ revoked_is w revoked.channel f.x f.y f.both s revoked.number k revoked.secret signed told in
    record {
      channel = revoked.channel;
      x = f.x;
      y = f.y;
      both = f.both;
      apart = λ e. revoked.apart (ap (λ (ch : ChannelBook). ch.state.seed) (sym f.is) ∙ e ∙ ap (λ (ch : ChannelBook). ch.state.seed) peers);
      k = k;
      i = signed_in f.x f.y s revoked.number k signed;
      same = same;
      claimable = claims_of_contents c (contents_of f.x.state.held.terms k) o same claimable;
    }

spot_at : Laws → (w : World) (s : Side) (c : Contents) (o : Claimable) → (a : IsAsked w s c o) → IsSpot w a.channel o.place.outpoint
spot_at laws w s c o a = record { x = a.x; y = a.y; both = a.both; side = other s; k = a.k; i = a.i; at = (laws.revoked (contents_of a.x.state.held.terms a.k) o a.claimable).1 }

-- ---- what the law of one channel says

-- these fillings are the sides' own
abbrev AreTheirs : World → Fillings → Type 0
AreTheirs w fillings = (v : Side) (t : Transaction) → Contains (fillings v) t → IsFillingIn (node_of v w).history t

in_words : (w : World) (s : Side) (c : Contents) (o : Claimable) → (a : IsAsked w s c o) → (fillings : Fillings) → AreTheirs w fillings → (height : ℕ) (t : Transaction) (coin : Coin)
    → coin_at w.chain.blocks o.place.outpoint ≡ Some coin → TakesRecorded (only a.channel (recorded a.x a.y)) fillings (recorded a.x a.y) (other s) a.k o coin.height height t → IsTaker w s c o height t
in_words w s c o a fillings theirs height t coin there (by_peer h) =
    by_peer (subst (λ (v : Side). IsFillingIn (node_of v w).history t) (twice s) (theirs (other (other s)) t h))
in_words w s c o a fillings theirs height t coin there (by_htlc_transaction h) = by_htlc_transaction (subst (λ (d : Contents). IsHtlcTransaction d o.place.outpoint height t) (sym a.same) h)
in_words w s c o a fillings theirs height t coin there (by_owner (h, l)) =
    by_owner (theirs (other s) t h, record { coin = coin; there = there; waited = subst (λ (d : Contents). HasWaited d o coin.height height) (sym a.same) l })
in_words w s c o a fillings theirs height t coin there (by_collision z) =
    let words : (bytes : List ℕ) → IsRecordedString (only a.channel (recorded a.x a.y)) bytes → IsHashedIn w bytes = hashed w a.channel a.x a.y a.both in
    by_collision (record { first = z.first; second = z.second; of_first = words z.first z.of_first; of_second = words z.second z.of_second; collide = z.collide })

-- the coin that the input found, and that it passed
record IsSpent (w : World) (o : Claimable) (height : ℕ) (t : Transaction) (input : TxIn) : Type 0 where
  coin : Coin
  there : coin_at w.chain.blocks o.place.outpoint ≡ Some coin
  passes : PassesTest height t input (marked false coin)
  within : Contains t.inputs input
  names : input.outpoint ≡ o.place.outpoint

by_law : Laws → (w : World) (s : Side) (c : Contents) (o : Claimable) → (a : IsAsked w s c o) → (fillings : Fillings) → AreTheirs w fillings → AreFilled (only a.channel (recorded a.x a.y)) fillings
    → (height : ℕ) (t : Transaction) (input : TxIn) → IsSpent w o height t input → IsFromRecords (only a.channel (recorded a.x a.y)) fillings t → IsTaker w s c o height t
by_law laws w s c o a fillings theirs filled height t input p from =
    let r = recorded a.x a.y in
    in_words w s c o a fillings theirs height t p.coin p.there
    (laws.taken (only a.channel r) (is_sound laws w a.channel a.x a.y a.both s a.apart) fillings filled a.channel r (only_there a.channel a.channel r r refl refl) (other s) a.k a.i o a.claimable height t input
    (marked false p.coin) from p.within p.names p.passes)

-- ---- each source

abbrev none_filled : Fillings
none_filled v = []

stage_takes : Laws → (w : World) (s : Side) (c : Contents) (o : Claimable) → (a : IsAsked w s c o) → (height : ℕ) (t : Transaction) (input : TxIn) → IsSpent w o height t input
    → (d : ℕ) (x y : ChannelBook) → AreBoth w d x y → (way : Side) (m : CommitmentState) → IsIn (recorded x y) way m → (h : HtlcOutput) → Contains (htlcs_of (contents_of x.state.held.terms m)) h
    → unsigned_transaction t ≡ htlc_tx_of (contents_of x.state.held.terms m) h → IsTaker w s c o height t
stage_takes laws w s c o a height t input p d x y b way m j h l e = go (eqb d a.channel) refl
  where
    go : (z : Bool) → eqb d a.channel ≡ z → IsTaker w s c o height t
    go true f =
        let same = eqb-true d a.channel f in
        by_law laws w s c o a none_filled (λ v u n. absurd (none_in u n)) (λ v u n. absurd (none_in u n)) height t input p
        (from_htlc d (recorded x y) (only_there a.channel d (recorded a.x a.y) (recorded x y) same (same_record w a.channel d a.x a.y x y a.both b same)) way m j h l e)
    go false f =
        let there : IsOutPointOf (contents_of x.state.held.terms m) o.place.outpoint
        = subst (λ (q : OutPoint). IsOutPointOf (contents_of x.state.held.terms m) q) p.names (laws.outputs (contents_of x.state.held.terms m) h l t input e p.within) in
        by_collision (two_spots laws w a.channel d (λ same. false≢true (sym f ∙ eq-eqb d a.channel same)) o.place.outpoint (spot_at laws w s c o a)
        (record { x = x; y = y; both = b; side = way; k = m; i = j; at = there }))

-- one filling of one side's
abbrev one_filled : Side → Transaction → Fillings
one_filled A t A = t ∷ []
one_filled A t B = []
one_filled B t A = []
one_filled B t B = t ∷ []

one_there : (v : Side) (t : Transaction) → Contains (one_filled v t v) t
one_there A t = first_in t []
one_there B t = first_in t []

the_only : (P : Side → Transaction → Type 0) (v : Side) (t : Transaction) → P v t → (u : Side) (q : Transaction) → Contains (one_filled v t u) q → P u q
the_only P A t h A q n = ⊎_elim {C = P A q} (λ (e : t ≡ q). subst (P A) e h) (λ (z : Contains [] q). absurd (none_in q z)) (cases_in t [] q n)
the_only P A t h B q n = absurd (none_in q n)
the_only P B t h A q n = absurd (none_in q n)
the_only P B t h B q n = ⊎_elim {C = P B q} (λ (e : t ≡ q). subst (P B) e h) (λ (z : Contains [] q). absurd (none_in q z)) (cases_in t [] q n)

-- a filling of the owner's is of claims of one channel
record IsRelease (w : World) (way : Side) (t : Transaction) : Type 0 where
  channel : ℕ
  claims : List ClaimParts
  fits : AllFit t claims t.inputs
  due : (x : ClaimParts) → Contains claims x → IsDueIn (node_of way w).history channel x
  filled : IsFillingIn (node_of way w).history t

release_of : (w : World) → IsWorld w → AllOfThemFit w → (way : Side) (t : Transaction) → IsFillingIn (node_of way w).history t → IsRelease w way t
release_of w is fits way t f = record {
  channel = f.channel;
  claims = f.batch.claims;
  fits = subst (λ (u : Transaction). AllFit u f.batch.claims u.inputs) (sym f.filled) (fits way f.seat f.channel f.batch f.noted);
  due = λ x h. all_in (IsDueIn (node_of way w).history f.channel) f.batch.claims x ((side_of w is way).due f.seat f.channel f.batch f.noted) h;
  filled = f;
}

-- a due claim, by the two ends of its channel
record IsPlaced (w : World) (c : ℕ) (way : Side) (p : ClaimParts) : Type 0 where
  x : ChannelBook
  y : ChannelBook
  both : AreBoth w c x y
  on : IsOn w c x y way p

placed_at : Laws → (w : World) → IsWorld w → (way : Side) (c : ℕ) (p : ClaimParts) → IsDueIn (node_of way w).history c p → IsPlaced w c way p
placed_at laws w is way c p d =
    let f = found_at laws w is way c d.ch d.there in
    record { x = f.x; y = f.y; both = f.both; on = is_on w c f.x f.y f.both way p (subst (λ (ch : ChannelBook). IsDueOf ch.state p) (sym f.is) d.due) }

owner_takes : Laws → (w : World) → IsWorld w → (s : Side) (c : Contents) (o : Claimable) → (a : IsAsked w s c o) → (height : ℕ) (t : Transaction) (input : TxIn) → IsSpent w o height t input
    → IsRelease w (other s) t → IsTaker w s c o height t
owner_takes laws w is s c o a height t input p r = go (eqb r.channel a.channel) refl
  where
    records : ChannelRecords
    records = only a.channel (recorded a.x a.y)

    here : r.channel ≡ a.channel → IsFilledBy records (other s) t
    here same = record {
      claims = r.claims;
      fits = r.fits;
      due = λ q h.
          let i = placed_at laws w is (other s) r.channel q (r.due q h) in
          due_to w r.channel i.x i.y (other s) q records
          (only_there a.channel r.channel (recorded a.x a.y) (recorded i.x i.y) same (same_record w a.channel r.channel a.x a.y i.x i.y a.both i.both same)) i.on;
    }

    go : (z : Bool) → eqb r.channel a.channel ≡ z → IsTaker w s c o height t
    go true f =
        by_law laws w s c o a (one_filled (other s) t) (the_only (λ (v : Side) (u : Transaction). IsFillingIn (node_of v w).history u) (other s) t r.filled)
        (the_only (λ (v : Side) (u : Transaction). IsFilledBy records v u) (other s) t (here (eqb-true r.channel a.channel f))) height t input p (from_filling (other s) (one_there (other s) t))
    go false f =
        let one = laws.inputs r.claims t r.fits input p.within in
        let i = placed_at laws w is (other s) r.channel one.0 (r.due one.0 one.1) in
        let spot : IsSpot w r.channel o.place.outpoint = subst (IsSpot w r.channel) (sym one.2.fits.outpoint ∙ p.names) (spot_of laws w r.channel i.x i.y i.both (other s) one.0 i.on) in
        by_collision (two_spots laws w a.channel r.channel (λ same. false≢true (sym f ∙ eq-eqb r.channel a.channel same)) o.place.outpoint (spot_at laws w s c o a) spot)

same_or_other : (side way : Side) → (way ≡ side) ⊎ (way ≡ other side)
same_or_other A A = inl refl
same_or_other B B = inl refl
same_or_other A B = inr refl
same_or_other B A = inr refl

takes : Laws → (w : World) → IsWorld w → AllOfThemFit w → (s : Side) (c : Contents) (o : Claimable) → (a : IsAsked w s c o) → (height : ℕ) (t : Transaction) (input : TxIn)
    → IsSpent w o height t input → IsMade w t → IsTaker w s c o height t
takes laws w is fits s c o a height t input p (commits d x y b way m j e) =
    by_collision (a_grant laws w a.channel d x y b o.place.outpoint (spot_at laws w s c o a) (sym p.names ∙ laws.fundings x.state.held.terms m t input e p.within ∙ b.granted.1))
takes laws w is fits s c o a height t input p (stages d x y b way m j h l e) = stage_takes laws w s c o a height t input p d x y b way m j h l e
takes laws w is fits s c o a height t input p (fills way f) =
    ⊎_elim {C = IsTaker w s c o height t} (λ (e : way ≡ s). by_peer (subst (λ (v : Side). IsFillingIn (node_of v w).history t) e f))
    (λ (e : way ≡ other s). owner_takes laws w is s c o a height t input p (release_of w is fits (other s) t (subst (λ (v : Side). IsFillingIn (node_of v w).history t) e f)))
    (same_or_other s way)

pub outputs_are_taken : Laws → (w : World) → IsWorld w → AllOfThemFit w → OutputsAreTaken w
outputs_are_taken laws w is fits s c o height t input revoked claimable stands within names =
    let found = laws.pass w.chain.blocks is.tested height t stands input within in
    let from : IsFrom w t
    = all_in (IsFrom w) (transactions_in w) t is.sources (Contains-append_left (transactions_of w.chain.blocks) (w.pool ++ w.released) t (on_chain w.chain.blocks height t stands)) in
    takes laws w is fits s c o (asked laws w is s c o revoked claimable) height t input
    (record { coin = found.0; there = ap (coin_at w.chain.blocks) (sym names) ∙ found.1; passes = found.2; within = within; names = names }) (is_made laws w is t from)
