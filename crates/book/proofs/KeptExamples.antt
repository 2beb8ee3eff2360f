-- Histories that keep penalty sets, for which the premises of the law on kept sets hold.
use Rattle.std.proofs.Common.{◌≡◌, ℕ, true, List, [], ◌∷◌, replicate, refl, lit≤, lit<, Contains}
use Rattle.std.specs.List.{AllByRecursion}
use Rattle.terms.specs.declared.sides.Side.TheVariants.{A}
use Rattle.terms.specs.declared.agreement.BaseKeys.{BaseKeys}
use Rattle.terms.specs.declared.agreement.Party.{Party}
use Rattle.terms.specs.declared.agreement.Terms.{Terms}
use Rattle.terms.specs.Bases.{IsSeedOf}
use Rattle.updates.specs.declared.changes.OwnUpdate.TheVariants.{Offer}
use Rattle.updates.specs.declared.changes.Update.TheVariants.{Add}
use Rattle.claim.specs.Claims.{ClaimParts, IsWhole}
use Rattle.commit.specs.Keys.{keys_of}
use Rattle.commit.specs.Order.{output_cmp, in_order}
use Rattle.commit.specs.Outputs.{outputs_of}
use Rattle.commit.specs.Commitments.{commitment_of}
use Rattle.penalty.specs.Claimable.{claims_by}
use Rattle.channel.specs.declared.messages.Message.TheVariants.{RevokeAndAck}
use Rattle.channel.specs.Points.{is_foreign}
use Rattle.channel.specs.States.{State, state_at_opening as opened_state, after_update, after_sign, after}
use Rattle.book.specs.declared.calls.Opening.{Opening}
use Rattle.book.specs.declared.calls.Step.TheVariants.{Own}
use Rattle.book.specs.declared.calls.Call.{Call}
use Rattle.book.specs.declared.calls.Call.TheVariants.{Open, Step as Stepping, Sign, Revoke, Keep}
use Rattle.book.specs.declared.calls.Entry.{Entry}
use Rattle.book.specs.Penalties.{claimable_in, are_claims_on, is_penalty_set}
use Rattle.book.specs.Books.{replay}
use Rattle.book.specs.Accepted.{all_accepted, AreWhole}
use Rattle.book.specs.Guarding.{ArePenaltiesIn, KeptAreExact}
use Rattle.channel.proofs.Samples.{key, secret, point_is, point_key, tokens_of}

abbrev hash : List ℕ
hash = replicate 32 9

abbrev entry : Call → Entry
entry call = record { seat = 0; call = call }

abbrev side : ℕ → BaseKeys → Party
side start_msat bases = record { dust_sat = 546; delay_blocks = 144; minimum_msat = 1000; start_msat = start_msat; bases = bases }

module _ (bases : BaseKeys) (seed : List ℕ) (own : IsSeedOf seed bases) where
  -- a channel of 1,000 satoshis, of which each side has half, and one of 100,000; no fee is paid
  abbrev small : Terms
  small = record { funding = record { txid = replicate 32 5; index = 0 }; capacity_sat = 1000; opener = A; feerate_per_kw = 0; a = side 500000 bases; b = side 500000 bases; limited = lit≤ tt; whole = refl; short_a = lit< tt; short_b = lit< tt }

  abbrev large : Terms
  large = record { funding = record { txid = replicate 32 5; index = 0 }; capacity_sat = 100000; opener = A; feerate_per_kw = 0; a = side 80000000 bases; b = side 20000000 bases; limited = lit≤ tt; whole = refl; short_a = lit< tt; short_b = lit< tt }

  abbrev small_opening : Opening
  small_opening = record { terms = small; side = A; seed = seed; first_point = point_key; next_point = key 1; token = 0 ∷ []; own = own }

  abbrev large_opening : Opening
  large_opening = record { terms = large; side = A; seed = seed; first_point = point_key; next_point = key 1; token = 0 ∷ []; own = own }

  -- the channel is opened, A offers an HTLC and signs, B revokes its commitment 0, and A keeps its penalties
  abbrev history : Opening → List ClaimParts → List Entry
  history o claims = entry (Open o) ∷ entry (Stepping 0 (Own (Offer 1000 hash 500))) ∷ entry (Sign 0) ∷ entry (Revoke 0 (record { secret = secret; next_point = key 2 })) ∷ entry (Keep 0 0 claims) ∷ []

  there : (o : Opening) (claims : List ClaimParts) → Contains (history o claims) (entry (Keep 0 0 claims))
  there o claims = (4, lit< tt, refl)

  all_whole : (o : Opening) (claims : List ClaimParts) → AllByRecursion IsWhole claims → AreWhole (history o claims)
  all_whole o claims whole = (tt, (tt, (tt, (tt, (whole, tt)))))

  -- both balances of the small channel are below the dust limit, so its commitment has no output, and its penalty set no claim
  small_accepted : all_accepted tokens_of (history small_opening []) ≡ true
  unfolding is_foreign is_penalty_set are_claims_on claimable_in claims_by commitment_of outputs_of in_order output_cmp keys_of
  small_accepted = rw point_is refl

  small_kept : KeptAreExact → ArePenaltiesIn 0 0 (replay (history small_opening [])) []
  small_kept law = law tokens_of (history small_opening []) 0 0 0 [] small_accepted (all_whole small_opening [] tt) (there small_opening [])

  -- A's state in the large channel, once the commitment is revoked
  abbrev then : State
  then = after (after_sign (after_update (Add (record { id = 0; amount_msat = 1000; hash = hash; expiry_height = 500 })) (opened_state large A seed point_key (key 1)))) (RevokeAndAck (record { secret = secret; next_point = key 2 }))

  -- claims that are its penalty set are kept, and are exact
  module _ (claims : List ClaimParts) (is_set : is_penalty_set then 0 claims ≡ true) (whole : AllByRecursion IsWhole claims) where
    large_accepted : all_accepted tokens_of (history large_opening claims) ≡ true
    unfolding is_foreign
    large_accepted = rw (point_is, is_set) refl

    large_kept : KeptAreExact → ArePenaltiesIn 0 0 (replay (history large_opening claims)) claims
    large_kept law = law tokens_of (history large_opening claims) 0 0 0 claims large_accepted (all_whole large_opening claims whole) (there large_opening claims)
