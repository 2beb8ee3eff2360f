-- The commitment of a signature whose revocation is awaited.
use Rattle.std.proofs.Common.{◌≡◌, ℕ, zero, suc, ◌+◌, ◌<◌, List, [], ◌∷◌, length, drop, map, get_or, ap, ◌∙◌, refl, arith}
use Rattle.std.specs.Prelude.{Contains}
use Rattle.std.proofs.lemmas.List.Elements.{Contains-append_right}
use Rattle.std.proofs.lemmas.Option.{slice_get-get_or}
use Rattle.std.proofs.Math.Seq.{drop-cons}
use Rattle.std.proofs.Math.ListN.{drop_of_length-le}
use Rattle.terms.specs.declared.sides.Side.{Side}
use Rattle.terms.specs.declared.agreement.Terms.{Terms}
use Rattle.channel.specs.declared.commitments.CommitmentState.{CommitmentState}
use Rattle.channel.specs.Tokens.{IsBuilt}
use Rattle.channel.specs.Numbered.{AreNumbered}
use Rattle.channel.proofs.Built.{built_shares}

pub last_is : (cs : List CommitmentState) (n : ℕ) (d : CommitmentState) → length cs ≡ n + 1 → drop n cs ≡ get_or cs n d ∷ []
last_is cs n d e = drop-cons cs n d (omega (arith, e)) ∙ ap (λ l. get_or cs n d ∷ l) (drop_of_length-le cs {i = suc n} (omega (arith, e)))

-- each of the commitments that stand by number can be paid
pub built_at : (terms : Terms) (side : Side) (many n : ℕ) (cs : List CommitmentState) (d : CommitmentState) → AreNumbered terms side many cs → n < length cs → IsBuilt terms (get_or cs n d)
built_at terms side many n cs d h l =
    let c = get_or cs n d in
    built_shares terms c.view c.owner c.number c.point.bytes (h.each n c (slice_get-get_or cs n d l)).shares

pub owner_at : (terms : Terms) (side : Side) (many n : ℕ) (cs : List CommitmentState) (d : CommitmentState) → AreNumbered terms side many cs → n < length cs → (get_or cs n d).owner ≡ side
owner_at terms side many n cs d h l = (h.each n (get_or cs n d) (slice_get-get_or cs n d l)).owner

pub point_at_place : (cs : List CommitmentState) (n : ℕ) (d : CommitmentState) → n < length cs → Contains (map (λ c. c.point.bytes) cs) (get_or cs n d).point.bytes
point_at_place [] n d l = absurd (omega (arith, l))
point_at_place (c ∷ cs) zero d l = (0, omega arith, refl)
point_at_place (c ∷ cs) (suc n) d l = Contains-append_right (c.point.bytes ∷ []) (map (λ e. e.point.bytes) cs) (get_or cs n d).point.bytes (point_at_place cs n d (omega (arith, l)))
