-- How a world begins: the terms and openings of a channel, and which channels begin, in which order.
use Rattle.std.proofs.Common.{◌≡◌, ℕ, ◌+◌, Bool, true, false, List, [], ◌∷◌, length, sym, ap, ◌∙◌, refl, arith, length-append}
use Rattle.std.proofs.lemmas.Bool.{true≢false}
use Rattle.tx.specs.declared.input.OutPoint.{OutPoint}
use Rattle.chain.specs.Blocks.{grant_outpoint}
use Rattle.keys.specs.declared.compressed.Key.{Key}
use Rattle.terms.specs.declared.sides.Side.{Side}
use Rattle.terms.specs.declared.sides.Side.TheVariants.{A, B}
use Rattle.terms.specs.declared.agreement.Party.{Party}
use Rattle.terms.specs.declared.agreement.Terms.{Terms}
use Rattle.terms.specs.declared.proposals.ProposedParty.{ProposedParty}
use Rattle.terms.specs.declared.proposals.ProposedTerms.{ProposedTerms}
use Rattle.terms.specs.Agreement.{HasFields}
use Rattle.terms.specs.Proposals.{party_of}
use Rattle.channel.specs.Points.{point_at}
use Rattle.channel.specs.States.{first_of}
use Rattle.channel.specs.Tokens.{peer_tokens}
use Rattle.book.specs.declared.calls.Opening.{Opening}
use Rattle.book.specs.Calls.{IsOpenedBy}
use Rattle.book.specs.Seeds.{bases_of}
use Rattle.scenario.specs.declared.seeds.Seeds.{Seeds}
use Rattle.world.specs.declared.openings.sides.Both.{Both}
use Rattle.watch.specs.Watching.{nothing_seen}
use Rattle.world.specs.Worlds.{World}
use Rattle.world.specs.Opening.{channel_seed, funding_output, AreTermsOf, IsOpeningOf, AreOpeningsOf}
use Rattle.world.specs.Beginning.{empty_world, with_opened, granted, Begins, AllBegin, all_begun, begins, IsBeginning}

abbrev is_a : Side → Bool
is_a A = true
is_a B = false

-- ---- terms

module _ (t : Terms) (funding : OutPoint) (a b : Party) where
  -- yes: HasFields
  has_fields : t.funding ≡ funding → t.capacity_sat ≡ 100000 → t.opener ≡ B → t.feerate_per_kw ≡ 253 → t.a ≡ a → t.b ≡ b → HasFields t funding 100000 B 253 a b
  has_fields f c o r x y = record { funding_is = f; capacity_is = c; opener_is = o; feerate_is = r; a_is = x; b_is = y }

  -- no: HasFields
  other_capacity : t.capacity_sat ≡ 100001 → HasFields t funding 100000 B 253 a b → ⊥
  other_capacity e h = let f = h.capacity_is in omega (arith, e, f)

  -- no: HasFields
  other_feerate : t.feerate_per_kw ≡ 254 → HasFields t funding 100000 B 253 a b → ⊥
  other_feerate e h = let f = h.feerate_is in omega (arith, e, f)

  -- no: HasFields
  other_opener : t.opener ≡ A → HasFields t funding 100000 B 253 a b → ⊥
  other_opener e h = true≢false (ap is_a (sym e ∙ h.opener_is))

  -- no: HasFields
  other_output : funding.index ≡ 1 → t.funding.index ≡ 0 → HasFields t funding 100000 B 253 a b → ⊥
  other_output e f h = let g = ap (λ (o : OutPoint). o.index) h.funding_is in omega (arith, e, f, g)

  -- no: HasFields
  sides_swapped : a.dust_sat ≡ 546 → b.dust_sat ≡ 547 → t.a ≡ b → HasFields t funding 100000 B 253 a b → ⊥
  sides_swapped e f g h = let k : b.dust_sat ≡ a.dust_sat = ap (λ (p : Party). p.dust_sat) (sym g ∙ h.a_is) in omega (arith, e, f, k)

-- the channel with number 3, which B opens
module _ (seeds : Seeds) (x y : ProposedParty) where
  abbrev plain : ProposedTerms
  plain = record { capacity_sat = 100000; opener = B; feerate_per_kw = 253; a = x; b = y }

  module _ (terms : Terms) where
    -- yes: AreTermsOf
    terms_of : HasFields terms (grant_outpoint 3) 100000 B 253 (party_of x (bases_of (channel_seed seeds.a 3))) (party_of y (bases_of (channel_seed seeds.b 3))) → AreTermsOf seeds 3 (grant_outpoint 3) plain terms
    terms_of h = h

    -- no: AreTermsOf
    terms_of_more : terms.capacity_sat ≡ 100001 → AreTermsOf seeds 3 (grant_outpoint 3) plain terms → ⊥
    terms_of_more e h = let f = h.capacity_is in omega (arith, e, f)

    -- ---- openings

    module _ (o : Opening) where
      -- yes: IsOpenedBy
      opened_by : (seed token : List ℕ) (p q : Key) → o.terms ≡ terms → o.side ≡ B → o.seed ≡ seed → o.first_point ≡ p → o.next_point ≡ q → o.token ≡ token → IsOpenedBy terms B seed p q token o
      opened_by seed token p q t s d f n k = record { terms_is = t; side_is = s; seed_is = d; first_point_is = f; next_point_is = n; token_is = k }

      -- no: IsOpenedBy
      points_swapped : (seed token : List ℕ) (p q : Key) → (p ≡ q → ⊥) → o.first_point ≡ q → IsOpenedBy terms B seed p q token o → ⊥
      points_swapped seed token p q n e h = n (sym h.first_point_is ∙ e)

      -- no: IsOpenedBy
      no_token : (seed : List ℕ) (p q : Key) → o.token ≡ [] → IsOpenedBy terms B seed p q (7 ∷ []) o → ⊥
      no_token seed p q e h = let f = ap length (sym e ∙ h.token_is) in omega (arith, f)

      -- the seed of B's signer, A's points, and A's token on B's commitment 0
      -- yes: IsOpeningOf
      opening_of_b : o.terms ≡ terms → o.side ≡ B → o.seed ≡ channel_seed seeds.b 3 → o.first_point ≡ point_at (channel_seed seeds.a 3) 0 → o.next_point ≡ point_at (channel_seed seeds.a 3) 1
          → o.token ≡ (peer_tokens terms (first_of terms B (point_at (channel_seed seeds.b 3) 0))).commitment → IsOpeningOf seeds 3 B terms o
      opening_of_b t s d f n k = record { terms_is = t; side_is = s; seed_is = d; first_point_is = f; next_point_is = n; token_is = k }

      -- no: IsOpeningOf
      opening_of_a : o.side ≡ A → IsOpeningOf seeds 3 B terms o → ⊥
      opening_of_a e h = true≢false (ap is_a (sym e ∙ h.side_is))

      -- no: IsOpeningOf
      peers_seed : (channel_seed seeds.a 3 ≡ channel_seed seeds.b 3 → ⊥) → o.seed ≡ channel_seed seeds.a 3 → IsOpeningOf seeds 3 B terms o → ⊥
      peers_seed n e h = n (sym e ∙ h.seed_is)

    -- yes: AreOpeningsOf
    openings_of : (both : Both) → AreTermsOf seeds 3 (grant_outpoint 3) plain terms → IsOpeningOf seeds 3 A terms both.a → IsOpeningOf seeds 3 B terms both.b → AreOpeningsOf seeds 3 (grant_outpoint 3) plain both
    openings_of both t a b = record { terms = terms; agreed = t; by_a = a; by_b = b }

  -- no: AreOpeningsOf
  on_unlike_terms : (both : Both) → both.a.terms.capacity_sat ≡ 100000 → both.b.terms.capacity_sat ≡ 100001 → AreOpeningsOf seeds 3 (grant_outpoint 3) plain both → ⊥
  on_unlike_terms both e f o = let g = ap (λ (t : Terms). t.capacity_sat) (o.by_a.terms_is ∙ sym o.by_b.terms_is) in omega (arith, e, f, g)

  -- no: AreOpeningsOf
  both_by_a : (both : Both) → both.b.side ≡ A → AreOpeningsOf seeds 3 (grant_outpoint 3) plain both → ⊥
  both_by_a both e o = true≢false (ap is_a (sym e ∙ o.by_b.side_is))

  -- ---- channels

  -- the fourth channel spends the fourth grant
  -- yes: Begins
  fourth_begins : (both : Both) (w : World) → AreOpeningsOf seeds 3 (grant_outpoint 3) plain both
      → Begins seeds 3 plain w (record w { a = with_opened both.a w.a; b = with_opened both.b w.b; chain = granted (funding_output seeds 3 plain) w.chain })
  fourth_begins both w o = record { both = both; openings = o; after = refl }

  -- both sides have one line more
  -- no: Begins
  nothing_begins : (w : World) → Begins seeds 3 plain w w → ⊥
  nothing_begins w g =
      let e : length w.b.lines ≡ length (with_opened g.both.b w.b).lines = ap (λ (v : World). length v.b.lines) g.after in
      let f : length (with_opened g.both.b w.b).lines ≡ length w.b.lines + 1 = length-append w.b.lines (record { inbox = []; seen = nothing_seen } ∷ []) in
      omega (arith, e, f)

module _ (seeds : Seeds) where
  -- channel 0 and then channel 1
  -- yes: AllBegin, IsBeginning
  two_begin : (p q : ProposedTerms) (v end : World) → Begins seeds 0 p empty_world v → Begins seeds 1 q v end → AllBegin seeds 0 (p ∷ q ∷ []) empty_world end × IsBeginning seeds (p ∷ q ∷ []) end
  two_begin p q v end x y = (begins x (begins y all_begun), begins x (begins y all_begun))

  as_before : {c : ℕ} {w v : World} → AllBegin seeds c [] w v → w.chain.greatest ≡ v.chain.greatest
  as_before all_begun = refl

  -- no: AllBegin, IsBeginning
  without_channels : IsBeginning seeds [] (record empty_world { chain = record { blocks = []; greatest = 1 } }) × AllBegin seeds 0 [] empty_world (record empty_world { chain = record { blocks = []; greatest = 1 } }) → ⊥
  without_channels a = let e = as_before a.0 in omega (arith, e)
