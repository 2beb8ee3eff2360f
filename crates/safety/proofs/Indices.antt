-- An HTLC's output stands at its index, and at an index there is one HTLC.
use Rattle.std.proofs.Common.{◌≡◌, ℕ, suc, ◌+◌, List, [], ◌∷◌, Some, sym, ap, ◌∙◌, refl, ⊎_elim, arith}
use Rattle.std.specs.Prelude.{slice_get}
use Rattle.std.specs.List.{Contains, cons_option}
use Rattle.commit.specs.declared.outputs.OutputKind.{OutputKind}
use Rattle.commit.specs.declared.outputs.OutputKind.TheVariants.{ToLocal, ToRemote, ToHtlc}
use Rattle.commit.specs.declared.outputs.CommitmentOutput.{CommitmentOutput}
use Rattle.commit.specs.declared.outputs.HtlcOutput.{HtlcOutput}
use Rattle.commit.specs.Commitments.{htlcs_from, htlc_at}
use Rattle.safety.proofs.Slots.{contains_cases}
use Rattle.safety.proofs.Lists.{some_is, contains_none}

-- one of the outputs, of which the first has this index, is the HTLC's
pub record IsHtlcIn (index : ℕ) (os : List CommitmentOutput) (h : HtlcOutput) : Type 0 where
  pub place : ℕ
  pub output : CommitmentOutput
  pub there : slice_get os place ≡ Some output
  pub at : h.index ≡ index + place
  pub kind : output.kind ≡ ToHtlc h.direction h.htlc

later : (index : ℕ) (o : CommitmentOutput) (os : List CommitmentOutput) (h : HtlcOutput) → IsHtlcIn (index + 1) os h → IsHtlcIn index (o ∷ os) h
later index o os h r =
    let at : h.index ≡ index + suc r.place = omega (arith, r.at) in
    record { place = suc r.place; output = r.output; there = r.there; at = at; kind = r.kind }

first : (index : ℕ) (o : CommitmentOutput) (os : List CommitmentOutput) (h g : HtlcOutput) → o.kind ≡ ToHtlc g.direction g.htlc → g.index ≡ index → g ≡ h → IsHtlcIn index (o ∷ os) h
first index o os h g e i s =
    let same : g.index ≡ h.index = ap (λ (x : HtlcOutput). x.index) s in
    record { place = 0; output = o; there = refl; at = omega (arith, i, same); kind = e ∙ ap (λ (x : HtlcOutput). ToHtlc x.direction x.htlc) s }

pub htlc_in : (index : ℕ) (os : List CommitmentOutput) (h : HtlcOutput) → Contains (htlcs_from index os) h → IsHtlcIn index os h
unfolding htlcs_from
htlc_in index [] h c = absurd (contains_none h c)
htlc_in index (o ∷ os) h c = by o.kind refl (λ (d : Contains (htlcs_from (index + 1) os) h). later index o os h (htlc_in (index + 1) os h d)) c
  where
    by : (kind : OutputKind) → o.kind ≡ kind → (Contains (htlcs_from (index + 1) os) h → IsHtlcIn index (o ∷ os) h) → Contains (cons_option (htlc_at index kind) (htlcs_from (index + 1) os)) h → IsHtlcIn index (o ∷ os) h
    by ToLocal e rest c = rest c
    by ToRemote e rest c = rest c
    by (ToHtlc direction htlc) e rest c =
        let g : HtlcOutput = record { index = index; direction = direction; htlc = htlc } in
        ⊎_elim (λ (s : g ≡ h). first index o os h g e refl s) rest (contains_cases g (htlcs_from (index + 1) os) h c)

-- two HTLCs of one index are one
pub one_htlc : (index : ℕ) (os : List CommitmentOutput) (h g : HtlcOutput) → IsHtlcIn index os h → IsHtlcIn index os g → h.index ≡ g.index → h ≡ g
one_htlc index os h g a b e =
    let p : a.place ≡ b.place = omega (arith, a.at, b.at, e) in
    let o : a.output ≡ b.output = some_is a.output b.output (sym a.there ∙ ap (slice_get os) p ∙ b.there) in
    let k : ToHtlc h.direction h.htlc ≡ ToHtlc g.direction g.htlc = sym a.kind ∙ ap (λ (x : CommitmentOutput). x.kind) o ∙ b.kind in
    some_is h (record { index = h.index; direction = g.direction; htlc = g.htlc }) (ap (htlc_at h.index) k)
    ∙ ap (λ n. record { index = n; direction = g.direction; htlc = g.htlc }) e
