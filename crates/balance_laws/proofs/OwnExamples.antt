-- Where the node's own commitment gives it what it counts on, and where it does not; what would have to be broken; and what is in time, on both sides of each bound.
use Rattle.std.proofs.Common.{◌≡◌, ◌≢◌, ℕ, ◌≤◌, true, false, List, [], ◌∷◌, ◌++◌, Some, sym, ap, ◌∙◌, refl, subst, arith}
use Rattle.std.specs.Prelude.{slice_get, codes}
use Rattle.std.specs.List.{Contains}
use Rattle.std.proofs.lemmas.Bool.{true≢false}
use Rattle.std.proofs.lemmas.Option.{same_Some}
use Rattle.sha2.specs.Sha256.{sha256}
use Rattle.digest.specs.Hash.{hash160, Collide}
use Rattle.digest.specs.Ripemd160.{ripemd160}
use Rattle.tx.specs.declared.input.TxIn.{TxIn}
use Rattle.tx.specs.Fields.{Transaction}
use Rattle.chain.specs.Blocks.{Contents as Block, Coin, coin_at}
use Rattle.terms.specs.declared.sides.Side.{Side}
use Rattle.terms.specs.declared.agreement.Terms.{Terms}
use Rattle.terms.specs.Agreement.{party}
use Rattle.commit.specs.declared.fees.Direction.TheVariants.{Offered, Received}
use Rattle.commit.specs.declared.outputs.HtlcOutput.{HtlcOutput}
use Rattle.commit.specs.Commitments.{Contents, htlcs_of}
use Rattle.forms.specs.Forms.{to_local_form}
use Rattle.penalty.specs.Claimable.{Claimable}
use Rattle.channel.specs.declared.commitments.CommitmentState.{CommitmentState}
use Rattle.channel.specs.Points.{point_at}
use Rattle.channel.specs.Tokens.{contents_of}
use Rattle.safety.specs.Signing.{Signed}
use Rattle.safety.specs.Spending.{ItemCollides}
use Rattle.safety.specs.Whereabouts.{IsNamedBy, IsCoinOf}
use Rattle.safety.specs.Holdings.{Holding, terms_in, peer_in}
use Rattle.safety.specs.Breaks.{IsSpendOn, IsPaymentHash, IsHashOfItem, Breaks, by_ids, by_keys, by_script, by_key, by_digest, by_preimage}
use Rattle.safety.specs.Resolutions.{WasReleased, Resolution, unspent, ours, lost, broken, ShowsPreimage, IsOnHtlc, IsPaidOrLate, paid, late}
use Rattle.safety.proofs.Lists.{contains_none}
use Rattle.safety.proofs.Places.{contains_one}
use Rattle.balance_laws.specs.OwnBreaks.{IsOwnNewest, IsHashedForHtlcKey, IsForOwn, OwnBreaks, by_breaks, by_htlc_keys, by_revocation_key, by_own_preimage}
use Rattle.balance_laws.specs.Own.{KeepsOwnRules}
use Rattle.balance_laws.specs.Times.{IsTakenBelow, DelayIsKept, ExpiryIsKept, IsPaid}

-- ---- what is hashed for the newest own commitment

-- its own commitments are numbers 0 and 1
module _ (hs : List Holding) (h : Holding) (k m : CommitmentState) (mine : h.state.mine ≡ k ∷ m ∷ []) (number : h.state.number ≡ 1) where
  at_number : slice_get h.state.mine h.state.number ≡ Some m
  at_number = ap (λ (n : ℕ). slice_get h.state.mine n) number ∙ ap (λ (ks : List CommitmentState). slice_get ks 1) mine

  -- yes: IsOwnNewest
  second_is_newest : Contains hs h → IsOwnNewest hs h m
  second_is_newest i = record { held = i; recorded = at_number }

  -- no: IsOwnNewest
  first_is_older : k ≢ m → IsOwnNewest hs h k → ⊥
  first_is_older n o = n (same_Some k m (sym o.recorded ∙ at_number))

  -- yes: IsForOwn, IsHashedForHtlcKey
  with_htlc_base : Contains hs h → (side : Side) → IsForOwn IsHashedForHtlcKey hs (codes "derive" ++ (party side (terms_in h)).bases.htlc.bytes ++ m.point.bytes)
  with_htlc_base i side = record { holding = h; commitment = m; newest = second_is_newest i; is = (side, refl) }

  -- yes: IsForOwn
  hash_of_one : Contains hs h → (x : HtlcOutput) → Contains (htlcs_of (contents_of (terms_in h) m)) x → IsForOwn IsPaymentHash hs x.htlc.hash
  hash_of_one i x j = record { holding = h; commitment = m; newest = second_is_newest i; is = (x, j, refl) }

  -- its one HTLC, of the node's one channel
  module _ (one : hs ≡ h ∷ []) (x : HtlcOutput) (only : htlcs_of (contents_of (terms_in h) m) ≡ x ∷ []) where
    is_only : (g : Holding) → g ≡ h → (c : CommitmentState) → slice_get g.state.mine g.state.number ≡ Some c → (y : HtlcOutput) → Contains (htlcs_of (contents_of (terms_in g) c)) y → y ≡ x
    is_only g e c at y i =
        let same : c ≡ m = same_Some c m (sym at ∙ ap (λ (f : Holding). slice_get f.state.mine f.state.number) e ∙ at_number) in
        let all : htlcs_of (contents_of (terms_in g) c) ≡ x ∷ [] =
        ap (λ (f : Holding). htlcs_of (contents_of (terms_in f) c)) e ∙ ap (λ (d : CommitmentState). htlcs_of (contents_of (terms_in h) d)) same ∙ only in
        contains_one x y (subst (λ (ys : List HtlcOutput). Contains ys y) all i)

    -- no: IsForOwn
    another_hash : (hash : List ℕ) → hash ≢ x.htlc.hash → IsForOwn IsPaymentHash hs hash → ⊥
    another_hash hash n p =
        let e : p.holding ≡ h = contains_one h p.holding (subst (λ (gs : List Holding). Contains gs p.holding) one p.newest.held) in
        let is = is_only p.holding e p.commitment p.newest.recorded p.is.0 p.is.1 in
        n (p.is.2 ∙ ap (λ (y : HtlcOutput). y.htlc.hash) is)

-- no: IsOwnNewest
of_no_channel : (h : Holding) (k : CommitmentState) → IsOwnNewest [] h k → ⊥
of_no_channel h k o = contains_none h o.held

abbrev first_byte : List ℕ → ℕ
first_byte [] = 0
first_byte (b ∷ bs) = b

-- what is hashed for a revocation key begins with another tag
-- no: IsHashedForHtlcKey
with_another_tag : (terms : Terms) (k : CommitmentState) (rest : List ℕ) → IsHashedForHtlcKey terms k (codes "revoke" ++ rest) → ⊥
with_another_tag terms k rest s = let f : 0x72 ≡ 0x64 = ap first_byte s.1 in omega (arith, f)

-- no: IsForOwn
hash_of_none : (hash : List ℕ) → IsForOwn IsPaymentHash [] hash → ⊥
hash_of_none hash p = of_no_channel p.holding p.commitment p.newest

-- ---- what is broken

-- yes: OwnBreaks
of_peers : (hs : List Holding) (blocks : List Block) → Breaks hs blocks → OwnBreaks hs blocks
of_peers hs blocks z = by_breaks z

-- yes: OwnBreaks
of_htlc_keys : (hs : List Holding) (blocks : List Block) (a b : List ℕ) → IsForOwn IsHashedForHtlcKey hs a → IsForOwn IsHashedForHtlcKey hs b → Collide sha256 a b → OwnBreaks hs blocks
of_htlc_keys hs blocks a b i j c = by_htlc_keys (record { first = a; second = b; of_first = i; of_second = j; collide = c })

nothing_spent : (blocks : List Block) (s : Signed) → IsSpendOn [] blocks s → ⊥
nothing_spent blocks s on = contains_none on.lock on.locked

unbroken_peers : (blocks : List Block) → Breaks [] blocks → ⊥
unbroken_peers blocks (by_ids c) = contains_none c.of_first.holding c.of_first.held
unbroken_peers blocks (by_keys c) = contains_none c.of_first.holding c.of_first.held
unbroken_peers blocks (by_script s on c) = nothing_spent blocks s on
unbroken_peers blocks (by_key s on key k c) = nothing_spent blocks s on
unbroken_peers blocks (by_digest s on a) = nothing_spent blocks s on
unbroken_peers blocks (by_preimage s on c) = nothing_spent blocks s on

-- no: OwnBreaks
unbroken : (blocks : List Block) → OwnBreaks [] blocks → ⊥
unbroken blocks (by_breaks z) = unbroken_peers blocks z
unbroken blocks (by_htlc_keys c) = of_no_channel c.of_first.holding c.of_first.commitment c.of_first.newest
unbroken blocks (by_revocation_key s on h k n c) = nothing_spent blocks s on
unbroken blocks (by_own_preimage s on c) = nothing_spent blocks s on

module _ (hs : List Holding) (blocks : List Block) where
  -- yes: OwnBreaks
  item_for_revocation_key : (s : Signed) → IsSpendOn hs blocks s → (h : Holding) (k : CommitmentState) → IsOwnNewest hs h k → ItemCollides hash160 (contents_of (terms_in h) k).keys.revocation s.input.witness → OwnBreaks hs blocks
  item_for_revocation_key s on h k n c = by_revocation_key s on h k n c

  -- yes: OwnBreaks
  hash_for_payment_hash : (s : Signed) → IsSpendOn hs blocks s → (item hash : List ℕ) → Contains s.input.witness item → IsForOwn IsPaymentHash hs hash → Collide ripemd160 (sha256 item) hash → OwnBreaks hs blocks
  hash_for_payment_hash s on item hash i p c = by_own_preimage s on (record { first = sha256 item; second = hash; of_first = (item, i, refl); of_second = p; collide = c })

  -- a witness shows the revocation key itself, and the very preimage; both HTLC keys are one
  -- no: OwnBreaks
  the_strings_are_one : (Breaks hs blocks → ⊥) → ((a b : List ℕ) → IsForOwn IsHashedForHtlcKey hs a → IsForOwn IsHashedForHtlcKey hs b → a ≡ b)
      → ((s : Signed) → IsSpendOn hs blocks s → (h : Holding) (k : CommitmentState) → IsOwnNewest hs h k → (item : List ℕ) → Contains s.input.witness item → item ≡ (contents_of (terms_in h) k).keys.revocation)
      → ((s : Signed) → IsSpendOn hs blocks s → (a b : List ℕ) → IsHashOfItem s.input.witness a → IsForOwn IsPaymentHash hs b → a ≡ b) → OwnBreaks hs blocks → ⊥
  the_strings_are_one whole keys items hashes (by_breaks z) = whole z
  the_strings_are_one whole keys items hashes (by_htlc_keys c) = c.collide.0 (keys c.first c.second c.of_first c.of_second)
  the_strings_are_one whole keys items hashes (by_revocation_key s on h k n c) = c.collide.0 (items s on h k n c.first c.of_first ∙ sym c.of_second)
  the_strings_are_one whole keys items hashes (by_own_preimage s on c) = c.collide.0 (hashes s on c.first c.second c.of_first c.of_second)

-- ---- the rules of a channel that its side closes

module _ (h : Holding) (k : CommitmentState) (there : slice_get h.state.mine h.state.number ≡ Some k) where
  -- yes: KeepsOwnRules
  at_its_point : k.point.bytes ≡ (point_at h.state.seed h.state.number).bytes → (party h.state.held.side (terms_in h)).bases.htlc.bytes ≢ (party (peer_in h) (terms_in h)).bases.htlc.bytes → KeepsOwnRules h
  at_its_point e n = record { point = λ m at. ap (λ (x : CommitmentState). x.point.bytes) (same_Some m k (sym at ∙ there)) ∙ e; apart = n }

  -- no: KeepsOwnRules
  at_another_point : k.point.bytes ≢ (point_at h.state.seed h.state.number).bytes → KeepsOwnRules h → ⊥
  at_another_point n r = n (r.point k there)

-- the peer has the node's HTLC base key for its own
-- no: KeepsOwnRules
one_base_key : (h : Holding) → (party h.state.held.side (terms_in h)).bases.htlc.bytes ≡ (party (peer_in h) (terms_in h)).bases.htlc.bytes → KeepsOwnRules h → ⊥
one_base_key h e r = r.apart e

-- ---- what became of an output

-- an HTLC that expires at 500, the only one of its commitment
module _ (c : Contents) (o : Claimable) (coin : Coin) (input : TxIn) (x : HtlcOutput) (on : IsOnHtlc c x o) (alone : (y : HtlcOutput) → IsOnHtlc c y o → y ≡ x) (expiry : x.htlc.expiry_height ≡ 500) where
  at_expiry : (y : HtlcOutput) → y ≡ x → y.htlc.expiry_height ≡ 500
  at_expiry y e = ap (λ (z : HtlcOutput). z.htlc.expiry_height) e ∙ expiry

  module _ (offered : x.direction ≡ Offered) where
    -- yes: IsPaidOrLate
    shown : (height : ℕ) → ShowsPreimage input.witness x.htlc.hash → IsPaidOrLate true c o coin height input
    shown height s = paid x on offered s

    -- with no preimage, however late
    -- no: IsPaidOrLate
    not_shown : (height : ℕ) → (ShowsPreimage input.witness x.htlc.hash → ⊥) → IsPaidOrLate true c o coin height input → ⊥
    not_shown height n (paid y i d s) = n (subst (λ (z : HtlcOutput). ShowsPreimage input.witness z.htlc.hash) (alone y i) s)
    not_shown height n (late y i d l) = other_direction (sym d ∙ ap (λ (z : HtlcOutput). z.direction) (alone y i) ∙ offered)
      where
        other_direction : Received ≡ Offered → ⊥
        other_direction e = cc

    -- yes: IsPaid
    is_paid : ShowsPreimage input.witness x.htlc.hash → IsPaid c Offered o input
    is_paid s = record { htlc = x; on = on; mine = offered; shows = s }

    -- no: IsPaid
    not_paid : (ShowsPreimage input.witness x.htlc.hash → ⊥) → IsPaid c Offered o input → ⊥
    not_paid n p = n (subst (λ (z : HtlcOutput). ShowsPreimage input.witness z.htlc.hash) (alone p.htlc p.on) p.shows)

  module _ (received : x.direction ≡ Received) where
    -- yes: IsPaidOrLate
    above_expiry : IsPaidOrLate true c o coin 501 input
    above_expiry = late x on received (let e = expiry in omega (arith, e))

    -- whatever is shown
    -- no: IsPaidOrLate
    at_its_expiry : IsPaidOrLate true c o coin 500 input → ⊥
    at_its_expiry (paid y i d s) = other_direction (sym d ∙ ap (λ (z : HtlcOutput). z.direction) (alone y i) ∙ received)
      where
        other_direction : Offered ≡ Received → ⊥
        other_direction e = cc
    at_its_expiry (late y i d l) = let e = at_expiry y (alone y i) in omega (arith, e, l)

    module _ (blocks : List Block) (height : ℕ) (t : Transaction) (named : IsNamedBy blocks o height t input) where
      -- taken in a block of the expiry's height, or below
      -- yes: ExpiryIsKept
      kept_at_expiry : ((high : ℕ) (u : Transaction) (i : TxIn) → IsNamedBy blocks o high u i → high ≤ 500) → ExpiryIsKept blocks c Received o
      kept_at_expiry f y i d high u j n = let l = f high u j n in let e = at_expiry y (alone y i) in omega (arith, l, e)

      -- no: ExpiryIsKept
      broken_above : height ≡ 501 → ExpiryIsKept blocks c Received o → ⊥
      broken_above e k = let l = k x on received height t input named in let f = expiry in omega (arith, e, l, f)

-- an output that was taken in a block of height 7
module _ (blocks : List Block) (o : Claimable) (t : Transaction) (input : TxIn) (named : IsNamedBy blocks o 7 t input) (only : (height : ℕ) (u : Transaction) (i : TxIn) → IsNamedBy blocks o height u i → height ≡ 7) where
  -- yes: IsTakenBelow
  below_eight : IsTakenBelow blocks o 8
  below_eight height u i n = let e = only height u i n in omega (arith, e)

  -- no: IsTakenBelow
  not_below_seven : IsTakenBelow blocks o 7 → ⊥
  not_below_seven k = let l = k 7 t input named in omega (arith, l)

-- the coin is of height 5 and the delay is 2, so the owner may take it from height 7 on
module _ (blocks : List Block) (c : Contents) (o : Claimable) (form : o.form ≡ to_local_form c.keys.revocation c.delay_blocks c.keys.delayed) (two : c.delay_blocks ≡ 2)
    (coin : Coin) (is : IsCoinOf blocks o coin) (five : coin.height ≡ 5) where
  -- yes: DelayIsKept
  taken_at_six : ((height : ℕ) (u : Transaction) (i : TxIn) → IsNamedBy blocks o height u i → height ≡ 6) → DelayIsKept blocks c o
  taken_at_six f found at e height u i n =
      let l = f height u i n in
      let same : coin ≡ found = same_Some coin found (sym is.there ∙ at.there) in
      let h : found.height ≡ 5 = ap (λ (x : Coin). x.height) (sym same) ∙ five in
      omega (arith, l, h, two)

  -- no: DelayIsKept
  taken_at_seven : (t : Transaction) (input : TxIn) → IsNamedBy blocks o 7 t input → DelayIsKept blocks c o → ⊥
  taken_at_seven t input n k = let l = k coin is form 7 t input n in omega (arith, l, two, five)

module _ (hs : List Holding) (blocks : List Block) (Lost : Coin → ℕ → TxIn → Type 0) (o : Claimable) where
  -- yes: Resolution
  still_there : (coin : Coin) → IsCoinOf blocks o coin → coin.spent ≡ false → Resolution OwnBreaks hs blocks Lost o
  still_there coin is free = unspent coin is free

  -- yes: Resolution
  taken_by_a_release : (height : ℕ) (t : Transaction) (input : TxIn) → IsNamedBy blocks o height t input → WasReleased hs t → Resolution OwnBreaks hs blocks Lost o
  taken_by_a_release height t input n r = ours height t input n r

  -- yes: Resolution
  taken_by_another : (coin : Coin) → IsCoinOf blocks o coin → (height : ℕ) (t : Transaction) (input : TxIn) → IsNamedBy blocks o height t input → Lost coin height input → Resolution OwnBreaks hs blocks Lost o
  taken_by_another coin is height t input n l = lost coin is height t input n l

-- a node that released nothing: whoever took the output is a thief, unless `Lost` holds of the input
module _ (blocks : List Block) (Lost : Coin → ℕ → TxIn → Type 0) (o : Claimable) (coin : Coin) (there : coin_at blocks o.place.outpoint ≡ Some coin) (taken : coin.spent ≡ true) where
  -- no: Resolution
  stolen : ((found : Coin) (height : ℕ) (t : Transaction) (input : TxIn) → IsNamedBy blocks o height t input → Lost found height input → ⊥) → Resolution OwnBreaks [] blocks Lost o → ⊥
  stolen never (unspent found is free) = true≢false (sym taken ∙ ap (λ (x : Coin). x.spent) (same_Some coin found (sym there ∙ is.there)) ∙ free)
  stolen never (ours height t input n r) = contains_none r.holding r.held
  stolen never (lost found is height t input n l) = never found height t input n l
  stolen never (broken z) = unbroken blocks z
