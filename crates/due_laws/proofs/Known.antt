-- Which commitments are known, by what a channel recorded.
use Rattle.std.proofs.Common.{◌≡◌, ℕ, ◌+◌, ◌<◌, Bool, List, map, length, Option, Some, None, sym, ap, ◌∙◌, refl, arith}
use Rattle.std.specs.Prelude.{slice_get, option_map}
use Rattle.std.proofs.lemmas.Option.{same_Some, slice_get-map, slice_get_within}
use Rattle.keys.specs.Derivation.{point_of}
use Rattle.terms.specs.declared.sides.Side.{Side}
use Rattle.commit.specs.Commitments.{Contents, commitment_of}
use Rattle.penalty.specs.Claimable.{commitment_in}
use Rattle.resolve.specs.declared.known.RevokedCommitment.{RevokedCommitment}
use Rattle.resolve.specs.declared.known.Known.{Known}
use Rattle.channel.specs.declared.commitments.CommitmentState.{CommitmentState}
use Rattle.channel.specs.States.{State}
use Rattle.channel.specs.Tokens.{contents_of}
use Rattle.safety.specs.Holdings.{Holding, terms_in, IsRevealed, KeepsRules}
use Rattle.safety.proofs.Lists.{none_some}
use Rattle.book.specs.Knowing.{below, Signed, signed_parts, signed_by_peer, Revoked, revoked_parts, revoked_by, revoked_at}
use Rattle.due_laws.specs.Knowing.{IsKnownTo}
use Rattle.due_laws.proofs.Lists.{some_at, from_below, AreThere, below_at}

-- ---- the newest ones

pub own_known : (h : Holding) (known : Known) → IsKnownTo h known → (k : CommitmentState) → slice_get h.state.mine h.state.number ≡ Some k → known.own.commitment ≡ contents_of (terms_in h) k
own_known h known w k there =
    ap (λ (p : Signed). p.commitment)
    (same_Some (signed_parts known.own) (signed_by_peer (terms_in h) k) (w.is.own_is ∙ ap (λ (o : Option CommitmentState). option_map (signed_by_peer (terms_in h)) o) there))

pub theirs_known : (h : Holding) (known : Known) → IsKnownTo h known → (k : CommitmentState) → slice_get h.state.signed h.state.peer_number ≡ Some k → known.theirs ≡ contents_of (terms_in h) k
theirs_known h known w k there =
    same_Some known.theirs (contents_of (terms_in h) k) (w.is.theirs_is ∙ ap (λ (o : Option CommitmentState). option_map (contents_of (terms_in h)) o) there)

pub next_known : (h : Holding) (known : Known) → IsKnownTo h known → (o : Option CommitmentState) → slice_get h.state.signed (h.state.peer_number + 1) ≡ o → known.next ≡ option_map (contents_of (terms_in h)) o
next_known h known w o there = w.is.next_is ∙ ap (λ (x : Option CommitmentState). option_map (contents_of (terms_in h)) x) there

-- each of the two newest is there
pub own_there : (h : Holding) → KeepsRules h → (k : CommitmentState) × (slice_get h.state.mine h.state.number ≡ Some k)
own_there h kept = let count = kept.numbered.mine.count in some_at h.state.mine h.state.number (omega (arith, count))

pub signed_there : (h : Holding) → KeepsRules h → (n : ℕ) → n < h.state.peer_number + 1 → (k : CommitmentState) × (slice_get h.state.signed n ≡ Some k)
signed_there h kept n l = let count = kept.numbered.signed.count in some_at h.state.signed n (omega (arith, count, l))

-- ---- revoked ones

-- what is known of one that the peer revoked, with its secret
one_revoked : (s : State) (f : ℕ → Bool) (n : ℕ) (k : CommitmentState) (secret : List ℕ) → slice_get s.signed n ≡ Some k → slice_get s.secrets n ≡ Some secret → revoked_at s f n ≡ Some (revoked_by s k secret (f n))
one_revoked s f n k secret signed told = rw (signed, told) refl

all_revoked : (h : Holding) → KeepsRules h → (f : ℕ → Bool) (n : ℕ) → n < h.state.peer_number → AreThere (revoked_at h.state f) n
all_revoked h kept f n l j i =
    let k = signed_there h kept j (omega (arith, l, i)) in
    let r = kept.revealed j k.0 (omega (arith, l, i)) k.1 in
    (revoked_by h.state k.0 r.secret (f j), one_revoked h.state f j k.0 r.secret k.1 r.there)

-- it is known at its number
pub record IsRevokedAt (h : Holding) (known : Known) (n : ℕ) (k : CommitmentState) : Type 0 where
  pub revoked : RevokedCommitment
  pub there : slice_get known.revoked n ≡ Some revoked
  pub number : revoked.state.number ≡ n
  pub terms : revoked.state.terms ≡ known.terms
  pub contents : commitment_in revoked.state ≡ contents_of (terms_in h) k

abbrev pub contents_by : Revoked → Contents
contents_by p = commitment_of p.terms p.view p.owner p.number (point_of p.secret)

pub revoked_known : (h : Holding) → KeepsRules h → (known : Known) → IsKnownTo h known → (n : ℕ) (k : CommitmentState) → n < h.state.peer_number → slice_get h.state.signed n ≡ Some k → IsRevokedAt h known n k
revoked_known h kept known w n k l there = by (slice_get known.revoked n) refl
  where
    r : IsRevealed h n k
    r = kept.revealed n k l there

    parts : Revoked
    parts = revoked_by h.state k r.secret (w.kept n)

    placed : slice_get (map revoked_parts known.revoked) n ≡ Some parts
    placed =
        ap (λ (ps : List Revoked). slice_get ps n) w.is.revoked_are
        ∙ below_at (revoked_at h.state w.kept) n (length h.state.secrets) parts (all_revoked h kept w.kept n l) (one_revoked h.state w.kept n k r.secret there r.there) (slice_get_within h.state.secrets n r.secret r.there)

    by : (o : Option RevokedCommitment) → slice_get known.revoked n ≡ o → IsRevokedAt h known n k
    by None e =
        absurd (none_some parts (sym (slice_get-map revoked_parts known.revoked n ∙ ap (λ (o : Option RevokedCommitment). option_map revoked_parts o) e) ∙ placed))
    by (Some x) e =
        let same : revoked_parts x ≡ parts =
        same_Some (revoked_parts x) parts (sym (slice_get-map revoked_parts known.revoked n ∙ ap (λ (o : Option RevokedCommitment). option_map revoked_parts o) e) ∙ placed) in
        let numbered = kept.numbered.signed.each n k there in
        record {
          revoked = x;
          there = e;
          number = ap (λ (p : Revoked). p.number) same ∙ numbered.number;
          terms = ap (λ (p : Revoked). p.terms) same ∙ sym w.is.terms_are;
          contents = ap contents_by same ∙ ap (λ (side : Side). commitment_of (terms_in h) k.view side k.number (point_of r.secret)) (sym numbered.owner)
              ∙ ap (λ (point : List ℕ). commitment_of (terms_in h) k.view k.owner k.number point) (sym r.opens);
        }

-- ---- any that is known to be revoked

-- it is one of the channel's, and its secret was told
pub record IsTold (s : State) (r : RevokedCommitment) : Type 0 where
  pub number : ℕ
  pub commitment : CommitmentState
  pub secret : List ℕ
  pub flag : Bool
  pub signed : slice_get s.signed number ≡ Some commitment
  pub told : slice_get s.secrets number ≡ Some secret
  pub is : revoked_parts r ≡ revoked_by s commitment secret flag

told_if : (s : State) (f : ℕ → Bool) (n : ℕ) (r : RevokedCommitment) (o : Option CommitmentState) (p : Option (List ℕ)) → slice_get s.signed n ≡ o → slice_get s.secrets n ≡ p
    → revoked_at s f n ≡ Some (revoked_parts r) → IsTold s r
told_if s f n r None p signed told e = let none : revoked_at s f n ≡ None = rw signed refl in absurd (none_some (revoked_parts r) (sym none ∙ e))
told_if s f n r (Some c) None signed told e = let none : revoked_at s f n ≡ None = rw (signed, told) refl in absurd (none_some (revoked_parts r) (sym none ∙ e))
told_if s f n r (Some c) (Some secret) signed told e = record {
  number = n;
  commitment = c;
  secret = secret;
  flag = f n;
  signed = signed;
  told = told;
  is = sym (same_Some (revoked_by s c secret (f n)) (revoked_parts r) (sym (one_revoked s f n c secret signed told) ∙ e));
}

pub revoked_told : (h : Holding) (known : Known) → IsKnownTo h known → (n : ℕ) (r : RevokedCommitment) → slice_get known.revoked n ≡ Some r → IsTold h.state r
revoked_told h known w n r e =
    let s = h.state in
    let placed : slice_get (below (revoked_at s w.kept) (length s.secrets)) n ≡ Some (revoked_parts r) =
    ap (λ (ps : List Revoked). slice_get ps n) (sym w.is.revoked_are) ∙ slice_get-map revoked_parts known.revoked n ∙ ap (λ (o : Option RevokedCommitment). option_map revoked_parts o) e in
    let found = from_below (revoked_at s w.kept) (length s.secrets) n (revoked_parts r) placed in
    told_if s w.kept found.0 r (slice_get s.signed found.0) (slice_get s.secrets found.0) refl refl found.1
