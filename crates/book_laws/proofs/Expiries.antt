-- The HTLCs of the peer's commitments that the node offered are offers of the commitment's view.
use Rattle.std.proofs.Common.{◌≡◌, ℕ, ◌<◌, List, [], ◌∷◌, map, Option, Some, None, refl, sym, ap, ◌∙◌, subst}
use Rattle.std.specs.List.{All, AllByRecursion, Contains}
use Rattle.std.proofs.lemmas.List.Elements.{All-nil, All-cons, All-append, All-filter, All-map, All-contains, All-from_recursion}
use Rattle.std.proofs.lemmas.List.Sorted.{All-permutation}
use Rattle.terms.specs.declared.htlcs.Htlc.{Htlc}
use Rattle.terms.specs.declared.sides.Side.{Side}
use Rattle.terms.specs.declared.sides.Side.TheVariants.{A, B}
use Rattle.terms.specs.declared.agreement.Terms.{Terms}
use Rattle.terms.specs.Agreement.{party}
use Rattle.terms.specs.Sides.{other}
use Rattle.terms.specs.Views.{share}
use Rattle.commit.specs.declared.fees.Direction.{Direction}
use Rattle.commit.specs.declared.fees.Direction.TheVariants.{Offered, Received}
use Rattle.commit.specs.declared.amounts.Amounts.{Amounts}
use Rattle.commit.specs.declared.outputs.OutputKind.{OutputKind}
use Rattle.commit.specs.declared.outputs.OutputKind.TheVariants.{ToLocal, ToRemote, ToHtlc}
use Rattle.commit.specs.declared.outputs.CommitmentOutput.{CommitmentOutput}
use Rattle.commit.specs.declared.outputs.HtlcOutput.{HtlcOutput}
use Rattle.commit.specs.Amounts.{amounts_of}
use Rattle.commit.specs.Keys.{KeyBytes, keys_of}
use Rattle.commit.specs.Outputs.{htlc_output, to_local_output, to_remote_output, where_paid, outputs_of}
use Rattle.commit.specs.Commitments.{commitment_of, htlcs_of}
use Rattle.commit.proofs.Ordered.{there_is_one}
use Rattle.channel.specs.declared.commitments.CommitmentState.{CommitmentState}
use Rattle.channel.specs.Tokens.{contents_of}
use Rattle.safety.proofs.Lists.{contained}
use Rattle.safety.proofs.Indices.{htlc_in}

abbrev pub IsLater : Htlc → Type 0
IsLater h = 0 < h.expiry_height

-- the HTLCs that a side offers in a commitment expire above 0
abbrev pub AreLater : Side → CommitmentState → Type 0
AreLater side k = AllByRecursion IsLater (share side k.view).offered

-- an HTLC that the commitment's owner had received expires above 0
abbrev HasExpiry : OutputKind → Type 0
HasExpiry ToLocal = Unit {0}
HasExpiry ToRemote = Unit {0}
HasExpiry (ToHtlc Offered h) = Unit {0}
HasExpiry (ToHtlc Received h) = IsLater h

abbrev Has : CommitmentOutput → Type 0
Has o = HasExpiry o.kind

those_received : (k : KeyBytes) (hs : List Htlc) → All IsLater hs → All Has (map (htlc_output k Received) hs)
those_received k hs a = All-map Has (htlc_output k Received) hs a

those_offered : (k : KeyBytes) (hs : List Htlc) → All Has (map (htlc_output k Offered) hs)
those_offered k [] = All-nil Has
those_offered k (h ∷ hs) = All-cons Has (htlc_output k Offered h) (map (htlc_output k Offered) hs) tt (those_offered k hs)

to_local : (delay_blocks : ℕ) (k : KeyBytes) (value : Option ℕ) → All Has (where_paid (to_local_output delay_blocks k) value)
to_local delay_blocks k None = All-nil Has
to_local delay_blocks k (Some v) = All-cons Has (to_local_output delay_blocks k v) [] tt (All-nil Has)

to_remote : (k : KeyBytes) (value : Option ℕ) → All Has (where_paid (to_remote_output k) value)
to_remote k None = All-nil Has
to_remote k (Some v) = All-cons Has (to_remote_output k v) [] tt (All-nil Has)

collected : (delay_blocks : ℕ) (k : KeyBytes) (a : Amounts) → All IsLater a.received → All Has (outputs_of delay_blocks k a)
unfolding outputs_of
collected delay_blocks k a r =
    All-append Has _ _
    (All-append Has _ _
    (All-append Has _ _ (those_offered k a.offered) (those_received k a.received r))
    (to_local delay_blocks k a.to_local))
    (to_remote k a.to_remote)

outputs_later : (terms : Terms) (k : CommitmentState) → AllByRecursion IsLater (share (other k.owner) k.view).offered → All Has (contents_of terms k).outputs
unfolding commitment_of
outputs_later terms k later =
    All-permutation Has _ _ (there_is_one (outputs_of (party k.owner terms).delay_blocks (keys_of terms k.owner k.point.bytes) (amounts_of terms k.view k.owner))).0.same
    (collected _ _ _ (All-filter _ IsLater _ (All-from_recursion IsLater (share (other k.owner) k.view).offered later)))

twice : (side : Side) → other (other side) ≡ side
twice A = refl
twice B = refl

-- the peer's commitment of a node's side
pub expires_later : (terms : Terms) (side : Side) (k : CommitmentState) → k.owner ≡ other side → AreLater side k → (x : HtlcOutput) → Contains (htlcs_of (contents_of terms k)) x → x.direction ≡ Received → 0 < x.htlc.expiry_height
expires_later terms side k owner later x i received =
    let at = htlc_in 0 (contents_of terms k).outputs x i in
    let same : side ≡ other k.owner = sym (ap other owner ∙ twice side) in
    let all = outputs_later terms k (subst (λ (s : Side). AllByRecursion IsLater (share s k.view).offered) same later) in
    let has : Has at.output = All-contains Has (contents_of terms k).outputs at.output all (contained (contents_of terms k).outputs at.place at.output at.there) in
    subst HasExpiry (at.kind ∙ ap (λ (d : Direction). ToHtlc d x.htlc) received) has
