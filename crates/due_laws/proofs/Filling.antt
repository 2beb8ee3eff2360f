-- The channel's signer can fill each claim that is due, with the preimages that are known.
use Rattle.std.proofs.Common.{◌≡◌, ℕ, ◌+◌, Bool, true, false, is_some, List, [], ◌∷◌, ◌++◌, map, length, Option, Some, None, sym, ap, ◌∙◌, refl, subst, inl, inr, ⊎_elim, arith}
use Rattle.std.specs.Prelude.{◌⊎◌, ◌&&◌, slice_get, if◌then◌else◌, IsTrue}
use Rattle.std.specs.List.{Contains, AllByRecursion}
use Rattle.std.specs.Option.{option_or}
use Rattle.std.specs.Str.{bytes_eq}
use Rattle.std.proofs.lemmas.Bool.{and_parts, or_cases, eq-eqb, false≢true}
use Rattle.std.proofs.lemmas.List.Elements.{All-from_recursion, All-contains, Contains-append_left, Contains-append_right}
use Rattle.sha2.specs.Sha256.{sha256}
use Rattle.keys.specs.declared.bases.Base.TheVariants.{Payment, Delayed, Htlc as HtlcBase}
use Rattle.keys.specs.Derivation.{base_key, derived_key}
use Rattle.keys.specs.Rights.{Rights, MaySign, own as own_base, derived}
use Rattle.terms.specs.declared.sides.Side.{Side}
use Rattle.terms.specs.declared.sides.Side.TheVariants.{A, B}
use Rattle.terms.specs.declared.agreement.Terms.{Terms}
use Rattle.terms.specs.Agreement.{party}
use Rattle.terms.specs.Bases.{IsSeedOf}
use Rattle.terms.specs.Sides.{other}
use Rattle.claim.specs.declared.parts.Place.{Place}
use Rattle.claim.specs.declared.parts.Slot.{Slot}
use Rattle.claim.specs.declared.parts.Slot.TheVariants.{Sig, Preimage, Exact}
use Rattle.claim.specs.Evidence.{is_preimage}
use Rattle.claim.specs.Claims.{ClaimParts}
use Rattle.forms.specs.Fillings.{Filling, Signature, PreimageOf, Bytes, filling_of}
use Rattle.filling.specs.Filling.{preimage_of}
use Rattle.filling.specs.Refusals.{AreFillable, all_slots}
use Rattle.commit.specs.declared.fees.Direction.TheVariants.{Offered, Received}
use Rattle.commit.specs.declared.outputs.OutputKind.{OutputKind}
use Rattle.commit.specs.declared.outputs.OutputKind.TheVariants.{ToLocal, ToRemote, ToHtlc}
use Rattle.commit.specs.declared.outputs.HtlcOutput.{HtlcOutput}
use Rattle.commit.specs.Keys.{keys_of}
use Rattle.commit.specs.Commitments.{Contents, commitment_of}
use Rattle.penalty.specs.Claimable.{Claimable, payment_on, claimable_of}
use Rattle.penalty.specs.Rights.{CanFill, CanFillAll, PeerCanFill}
use Rattle.penalty.specs.Sets.{claimed_by}
use Rattle.resolve.specs.declared.known.RevokedCommitment.{RevokedCommitment}
use Rattle.resolve.specs.declared.known.Known.{Known}
use Rattle.resolve.specs.Preimages.{is_known}
use Rattle.resolve.specs.Due.{can_pay, is_owners, is_peers, delayed_on, second_stage_on, delayed_second_stage, direct_on, owners_on, peers_on, owners_due, peers_due, due_of}
use Rattle.channel.specs.declared.commitments.CommitmentState.{CommitmentState}
use Rattle.channel.specs.Rights.{rights_of}
use Rattle.channel.specs.Points.{point_at}
use Rattle.channel.specs.States.{State}
use Rattle.channel.specs.Tokens.{contents_of}
use Rattle.safety.specs.Holdings.{Holding, terms_in, peer_in, KeepsRules}
use Rattle.safety.specs.Places.{IsKnownDue, on_own, on_theirs, on_next, on_revoked, KnownPlaces}
use Rattle.safety.proofs.Slots.{contains_later}
use Rattle.safety.proofs.Lists.{none_some, contains_none, contained, contains_map}
use Rattle.safety.proofs.Places.{contains_one, given_by}
use Rattle.book.specs.Knowing.{Revoked}
use Rattle.due_laws.specs.Knowing.{IsKnownTo}
use Rattle.due_laws.specs.Filling.{OwnsBases, IsDueBy, CanFillAllSlots, DuesAreFillable}
use Rattle.due_laws.proofs.Lists.{if_true}
use Rattle.due_laws.proofs.Known.{own_known, theirs_known, next_known, own_there, signed_there, revoked_told}
use Rattle.due_laws.proofs.Counting.{of_two}

-- ---- slots

-- a signer can fill a slot with these preimages
abbrev FillsWith : Rights → List (List ℕ) → Filling → Type 0
FillsWith r preimages (Signature key) = MaySign r key
FillsWith r preimages (PreimageOf hash) = IsTrue (is_some (preimage_of preimages hash))
FillsWith r preimages (Bytes bytes) = Unit {0}

abbrev FillsClaim : Rights → List (List ℕ) → Claimable → Type 0
FillsClaim r preimages o = AllByRecursion (FillsWith r preimages) o.slots

-- a preimage that is known is found
some_or : (o : Option (List ℕ)) (x : List ℕ) (b : Bool) → (is_some o ≡ true) ⊎ (b ≡ true) → is_some (option_or o (if b then Some x else None)) ≡ true
some_or (Some y) x b e = refl
some_or None x true e = refl
some_or None x false (inl e) = absurd (false≢true e)
some_or None x false (inr e) = absurd (false≢true e)

tested : (x hash : List ℕ) → length x ≡ 32 → bytes_eq (sha256 x) hash ≡ true → is_preimage x hash ≡ true
tested x hash l e = ap (λ t. t && bytes_eq (sha256 x) hash) (eq-eqb (length x) 32 l) ∙ e

pub found : (preimages : List (List ℕ)) (hash : List ℕ) → AllByRecursion (λ x. length x ≡ 32) preimages → is_known preimages hash ≡ true → is_some (preimage_of preimages hash) ≡ true
found [] hash a e = absurd (false≢true e)
found (x ∷ xs) hash a e =
    some_or (preimage_of xs hash) x (is_preimage x hash)
    (⊎_elim {C = (is_some (preimage_of xs hash) ≡ true) ⊎ (is_preimage x hash ≡ true)} (λ (h : bytes_eq (sha256 x) hash ≡ true). inr (tested x hash a.0 h)) (λ (h : is_known xs hash ≡ true). inl (found xs hash a.1 h))
    (or_cases (bytes_eq (sha256 x) hash) (is_known xs hash) e))

-- from what is claimed to a claim's own slots
slots_fillable : (r : Rights) (preimages : List (List ℕ)) (slots : List Slot) → AllByRecursion (FillsWith r preimages) (map filling_of slots) → AreFillable r preimages slots
slots_fillable r preimages [] f = tt
slots_fillable r preimages (Sig key ∷ slots) f = (f.0, slots_fillable r preimages slots f.1)
slots_fillable r preimages (Preimage hash ∷ slots) f = (f.0, slots_fillable r preimages slots f.1)
slots_fillable r preimages (Exact bytes ∷ slots) f = (tt, slots_fillable r preimages slots f.1)

joined : (r : Rights) (preimages : List (List ℕ)) (slots others : List Slot) → AreFillable r preimages slots → AreFillable r preimages others → AreFillable r preimages (slots ++ others)
joined r preimages [] others f g = g
joined r preimages (slot ∷ slots) others f g = (f.0, joined r preimages slots others f.1 g)

all_fillable : (r : Rights) (known : Known) → ((o : Claimable) → (x : ClaimParts) → claimed_by x ≡ o → IsDueBy known x → FillsClaim r known.preimages o) → (claims : List ClaimParts) → AllByRecursion (IsDueBy known) claims
    → AreFillable r known.preimages (all_slots claims)
all_fillable r known fill [] d = tt
all_fillable r known fill (x ∷ claims) d =
    joined r known.preimages x.slots (all_slots claims) (slots_fillable r known.preimages x.slots (fill (claimed_by x) x refl d.0)) (all_fillable r known fill claims d.1)

-- who may sign for the same keys can fill the same slots
as_fillable : (r z : Rights) → ((key : List ℕ) → MaySign r key → MaySign z key) → (preimages : List (List ℕ)) (slots : List Slot) → AreFillable r preimages slots → AreFillable z preimages slots
as_fillable r z f preimages [] a = tt
as_fillable r z f preimages (Sig key ∷ slots) a = (f key.bytes a.0, as_fillable r z f preimages slots a.1)
as_fillable r z f preimages (Preimage hash ∷ slots) a = (a.0, as_fillable r z f preimages slots a.1)
as_fillable r z f preimages (Exact bytes ∷ slots) a = (tt, as_fillable r z f preimages slots a.1)

-- ---- the claims of one output

module _ (r : Rights) (preimages : List (List ℕ)) (long : AllByRecursion (λ x. length x ≡ 32) preimages) (c : Contents) where
  abbrev Fills : Claimable → Type 0
  Fills = FillsClaim r preimages

  -- to its owner
  owners_fill : MaySign r c.keys.delayed → MaySign r c.keys.local_htlc → (index : ℕ) (place : Place) (kind : OutputKind) (o : Claimable) → Contains (owners_on preimages c index place kind) o → Fills o
  owners_fill delayed local index place ToLocal o i = subst Fills (sym (contains_one (delayed_on c place) o i)) (tt, (delayed, tt))
  owners_fill delayed local index place ToRemote o i = absurd (contains_none o i)
  owners_fill delayed local index place (ToHtlc Offered h) o i =
      let x : HtlcOutput = record { index = index; direction = Offered; htlc = h } in
      let f = second_stage_on c x place in
      let s = delayed_second_stage c x in
      ⊎_elim {C = Fills o} (λ (e : o ≡ second_stage_on c x place). subst Fills (sym e) (tt, (local, (tt, (tt, tt))))) (λ (e : o ≡ delayed_second_stage c x). subst Fills (sym e) (tt, (delayed, tt)))
      (of_two f s o (if_true (is_owners preimages c.keys Offered h) (f ∷ s ∷ []) o i).1)
  owners_fill delayed local index place (ToHtlc Received h) o i =
      let x : HtlcOutput = record { index = index; direction = Received; htlc = h } in
      let f = second_stage_on c x place in
      let s = delayed_second_stage c x in
      let there = if_true (is_owners preimages c.keys Received h) (f ∷ s ∷ []) o i in
      let known = (and_parts (is_known preimages h.hash) (can_pay c.keys h) there.0).0 in
      ⊎_elim {C = Fills o} (λ (e : o ≡ second_stage_on c x place). subst Fills (sym e) (found preimages h.hash long known, (local, (tt, (tt, tt)))))
      (λ (e : o ≡ delayed_second_stage c x). subst Fills (sym e) (tt, (delayed, tt)))
      (of_two f s o there.1)

  -- to its owner's peer
  peers_fill : MaySign r c.keys.remote → MaySign r c.keys.remote_htlc → (index : ℕ) (place : Place) (kind : OutputKind) (o : Claimable) → Contains (peers_on preimages c index place kind) o → Fills o
  peers_fill payment remote index place ToLocal o i = absurd (contains_none o i)
  peers_fill payment remote index place ToRemote o i = subst Fills (sym (contains_one (payment_on c place) o i)) (tt, (payment, tt))
  peers_fill payment remote index place (ToHtlc Offered h) o i =
      let f = direct_on c Offered h place in
      let there = if_true (is_peers preimages c.keys Offered h) (f ∷ []) o i in
      let known = (and_parts (is_known preimages h.hash) (can_pay c.keys h) there.0).0 in
      subst Fills (sym (contains_one f o there.1)) (found preimages h.hash long known, (remote, tt))
  peers_fill payment remote index place (ToHtlc Received h) o i =
      let f = direct_on c Received h place in
      subst Fills (sym (contains_one f o (if_true (is_peers preimages c.keys Received h) (f ∷ []) o i).1)) (tt, (remote, tt))

  all_owners : MaySign r c.keys.delayed → MaySign r c.keys.local_htlc → (o : Claimable) → Contains (owners_due preimages c) o → Fills o
  unfolding owners_due
  all_owners delayed local o i = let g = given_by (owners_on preimages c) c o i in owners_fill delayed local g.index _ g.output.kind o g.given

  all_peers : MaySign r c.keys.remote → MaySign r c.keys.remote_htlc → (o : Claimable) → Contains (peers_due preimages c) o → Fills o
  unfolding peers_due
  all_peers payment remote o i = let g = given_by (peers_on preimages c) c o i in peers_fill payment remote g.index _ g.output.kind o g.given

-- ---- what the signer may sign for

twice : (side : Side) → other (other side) ≡ side
twice A = refl
twice B = refl

-- its keys of its own commitment, and those of one of its peer's
delayed_is : (terms : Terms) (k : CommitmentState) (seed : List ℕ) → IsSeedOf seed (party k.owner terms).bases → (contents_of terms k).keys.delayed ≡ derived_key (base_key seed Delayed) k.point.bytes
unfolding commitment_of keys_of
delayed_is terms k seed b = ap (λ x. derived_key x k.point.bytes) b.delayed

local_is : (terms : Terms) (k : CommitmentState) (seed : List ℕ) → IsSeedOf seed (party k.owner terms).bases → (contents_of terms k).keys.local_htlc ≡ derived_key (base_key seed HtlcBase) k.point.bytes
unfolding commitment_of keys_of
local_is terms k seed b = ap (λ x. derived_key x k.point.bytes) b.htlc

remote_is : (terms : Terms) (k : CommitmentState) (seed : List ℕ) → IsSeedOf seed (party (other k.owner) terms).bases → (contents_of terms k).keys.remote_htlc ≡ derived_key (base_key seed HtlcBase) k.point.bytes
unfolding commitment_of keys_of
remote_is terms k seed b = ap (λ x. derived_key x k.point.bytes) b.htlc

payment_is : (terms : Terms) (k : CommitmentState) (seed : List ℕ) → IsSeedOf seed (party (other k.owner) terms).bases → (contents_of terms k).keys.remote ≡ base_key seed Payment
unfolding commitment_of keys_of
payment_is terms k seed b = b.payment

own_point : (s : State) (n : ℕ) (k : CommitmentState) → slice_get s.mine n ≡ Some k → Contains (rights_of s).points k.point.bytes
own_point s n k there =
    let mine = map (λ (c : CommitmentState). c.point.bytes) s.mine in
    let signed = map (λ (c : CommitmentState). c.point.bytes) s.signed in
    contains_later (point_at s.seed (s.number + 1)).bytes (s.next_point.bytes ∷ (mine ++ signed)) k.point.bytes
    (contains_later s.next_point.bytes (mine ++ signed) k.point.bytes
    (Contains-append_left mine signed k.point.bytes (contains_map (λ (c : CommitmentState). c.point.bytes) s.mine k (contained s.mine n k there))))

peers_point : (s : State) (n : ℕ) (k : CommitmentState) → slice_get s.signed n ≡ Some k → Contains (rights_of s).points k.point.bytes
peers_point s n k there =
    let mine = map (λ (c : CommitmentState). c.point.bytes) s.mine in
    let signed = map (λ (c : CommitmentState). c.point.bytes) s.signed in
    contains_later (point_at s.seed (s.number + 1)).bytes (s.next_point.bytes ∷ (mine ++ signed)) k.point.bytes
    (contains_later s.next_point.bytes (mine ++ signed) k.point.bytes
    (Contains-append_right mine signed k.point.bytes (contains_map (λ (c : CommitmentState). c.point.bytes) s.signed k (contained s.signed n k there))))

-- ---- by what is known

module _ (h : Holding) (kept : KeepsRules h) (owns : OwnsBases h) (known : Known) (w : IsKnownTo h known) where
  abbrev r : Rights
  r = rights_of h.state

  -- the base keys, by the owner of a commitment
  of_owner : (k : CommitmentState) → k.owner ≡ h.state.held.side → IsSeedOf h.state.seed (party k.owner (terms_in h)).bases
  of_owner k e = subst (λ (side : Side). IsSeedOf h.state.seed (party side (terms_in h)).bases) (sym e) owns

  of_peer : (owner : Side) → owner ≡ peer_in h → IsSeedOf h.state.seed (party (other owner) (terms_in h)).bases
  of_peer owner e = subst (λ (side : Side). IsSeedOf h.state.seed (party side (terms_in h)).bases) (sym (ap other e ∙ twice h.state.held.side)) owns

  own_fills : (k : CommitmentState) → slice_get h.state.mine h.state.number ≡ Some k → (o : Claimable) → Contains (owners_due known.preimages (contents_of (terms_in h) k)) o → FillsClaim r known.preimages o
  own_fills k there o i =
      let b = of_owner k (kept.numbered.mine.each h.state.number k there).owner in
      let point = own_point h.state h.state.number k there in
      all_owners r known.preimages w.preimages (contents_of (terms_in h) k) (derived Delayed k.point.bytes point (delayed_is (terms_in h) k h.state.seed b))
      (derived HtlcBase k.point.bytes point (local_is (terms_in h) k h.state.seed b)) o i

  signed_fills : (n : ℕ) (k : CommitmentState) → slice_get h.state.signed n ≡ Some k → (o : Claimable) → Contains (peers_due known.preimages (contents_of (terms_in h) k)) o → FillsClaim r known.preimages o
  signed_fills n k there o i =
      let b = of_peer k.owner (kept.numbered.signed.each n k there).owner in
      all_peers r known.preimages w.preimages (contents_of (terms_in h) k) (own_base Payment (payment_is (terms_in h) k h.state.seed b))
      (derived HtlcBase k.point.bytes (peers_point h.state n k there) (remote_is (terms_in h) k h.state.seed b)) o i

  -- a penalty wants no preimage
  with_none : (fs : List Filling) → AllByRecursion (CanFill r) fs → AllByRecursion (FillsWith r known.preimages) fs
  with_none [] a = tt
  with_none (Signature key ∷ fs) a = (a.0, with_none fs a.1)
  with_none (PreimageOf hash ∷ fs) a = absurd a.0
  with_none (Bytes bytes ∷ fs) a = (tt, with_none fs a.1)

  penalties_fill : PeerCanFill → (n : ℕ) (x : RevokedCommitment) → slice_get known.revoked n ≡ Some x → (o : Claimable) → Contains (claimable_of x.state) o → FillsClaim r known.preimages o
  penalties_fill law n x there o i =
      let t = revoked_told h known w n x there in
      let terms : x.state.terms ≡ terms_in h = ap (λ (p : Revoked). p.terms) t.is in
      let owner : x.state.owner ≡ peer_in h = ap (λ (p : Revoked). p.owner) t.is in
      let secret : x.state.secret ≡ t.secret = ap (λ (p : Revoked). p.secret) t.is in
      let b = subst (λ (y : Terms). IsSeedOf h.state.seed (party (other x.state.owner) y).bases) (sym terms) (of_peer x.state.owner owner) in
      let among : Contains h.state.secrets x.state.secret = subst (Contains h.state.secrets) (sym secret) (contained h.state.secrets t.number t.secret t.told) in
      with_none o.slots
      (All-contains (CanFillAll r) (claimable_of x.state) o (All-from_recursion (CanFillAll r) (claimable_of x.state) (law x.state r (record { payment = b.payment; revocation = b.revocation }) among)) i)

  next_fills : (c : Contents) → known.next ≡ Some c → (q : Option CommitmentState) → slice_get h.state.signed (h.state.peer_number + 1) ≡ q → (o : Claimable) → Contains (peers_due known.preimages c) o
      → FillsClaim r known.preimages o
  next_fills c e None f o i = absurd (none_some c (sym (next_known h known w None f) ∙ e))
  next_fills c e (Some k) f o i =
      let same : contents_of (terms_in h) k ≡ c = is_some_of (contents_of (terms_in h) k) c (sym (next_known h known w (Some k) f) ∙ e) in
      signed_fills (h.state.peer_number + 1) k f o (subst (λ (d : Contents). Contains (peers_due known.preimages d) o) (sym same) i)
    where
      is_some_of : (a b : Contents) → Some a ≡ Some b → a ≡ b
      is_some_of a b e = cc

  known_fills : PeerCanFill → (o : Claimable) → IsKnownDue known o → FillsClaim r known.preimages o
  unfolding claimable_of
  known_fills law o (on_own i) =
      let k = own_there h kept in
      own_fills k.0 k.1 o (subst (λ (c : Contents). Contains (owners_due known.preimages c) o) (own_known h known w k.0 k.1) i)
  known_fills law o (on_theirs i) =
      let k = signed_there h kept h.state.peer_number (omega arith) in
      signed_fills h.state.peer_number k.0 k.1 o (subst (λ (c : Contents). Contains (peers_due known.preimages c) o) (theirs_known h known w k.0 k.1) i)
  known_fills law o (on_next c e i) = next_fills c e (slice_get h.state.signed (h.state.peer_number + 1)) refl o i
  known_fills law o (on_revoked n x there number i) = penalties_fill law n x there o i

  fills : PeerCanFill → KnownPlaces → (claims : List ClaimParts) → AllByRecursion (IsDueBy known) claims → CanFillAllSlots h known claims
  fills law places claims due =
      let all : AreFillable r known.preimages (all_slots claims) =
      all_fillable r known (λ o x e d. known_fills law o (places known d.verdict o (subst (Contains (due_of known d.verdict)) e d.due))) claims due in
      record { channels = all; knowns = as_fillable r known.signer (λ key m. (w.is.rights_are key).1 m) known.preimages (all_slots claims) all }

pub dues_are_fillable : PeerCanFill → KnownPlaces → DuesAreFillable
dues_are_fillable law places h kept owns known w claims due = fills h kept owns known w law places claims due
