-- What is asked of a history, on both sides of its bounds, and what goes wrong without it: of each a history of accepted calls whose channel keeps the rules no more.
use Rattle.std.proofs.Common.{◌≡◌, ℕ, suc, ◌≤◌, ◌<◌, true, List, [], ◌∷◌, length, replicate, None, refl, sym, ap, subst, ⊎_elim, arith, lit<, Ok, lit≤}
use Rattle.std.specs.Prelude.{IsTrue, is_ok}
use Rattle.std.specs.List.{AllByRecursion, Contains}
use Rattle.std.proofs.lemmas.Bool.{true≢false}
use Rattle.std.proofs.lemmas.Option.{none-some}
use Rattle.std.proofs.lemmas.List.Elements.{All-nil, All-cons}
use Rattle.sha2.specs.Sha256.{sha256, digest_bytes, hash_after, compress, rounds, schedule, first_words}
use Rattle.script.specs.declared.opcode.Op.TheVariants.{Number}
use Rattle.script.specs.Spelling.{IsOp}
use Rattle.script.specs.Token.{is_key}
use Rattle.sighash.specs.Programs.{script_hash_program}
use Rattle.paths.specs.Rules.{rule_of, check_multi_sig}
use Rattle.paths.specs.Listing.{listing}
use Rattle.claim.specs.Judgement.{judgement_of}
use Rattle.terms.specs.declared.htlcs.Htlc.{Htlc}
use Rattle.terms.specs.declared.sides.Side.TheVariants.{A}
use Rattle.terms.specs.declared.agreement.BaseKeys.{BaseKeys}
use Rattle.terms.specs.Bases.{IsSeedOf}
use Rattle.updates.specs.declared.changes.Update.TheVariants.{Add}
use Rattle.updates.specs.declared.changes.OwnUpdate.TheVariants.{Offer}
use Rattle.updates.specs.declared.messages.PeerStep.TheVariants.{Update as Updated}
use Rattle.claim.specs.Claims.{ClaimParts, IsWhole}
use Rattle.commit.specs.declared.fees.Direction.{Direction}
use Rattle.commit.specs.declared.fees.Direction.TheVariants.{Offered, Received}
use Rattle.commit.specs.declared.outputs.HtlcOutput.{HtlcOutput}
use Rattle.commit.specs.Commitments.{Contents, commitment_of, htlcs_from, htlcs_of}
use Rattle.commit.specs.Keys.{KeyBytes}
use Rattle.commit.specs.Order.{output_cmp, in_order}
use Rattle.commit.specs.Outputs.{outputs_of}
use Rattle.penalty.specs.Claimable.{Claimable, htlc_form}
use Rattle.penalty.specs.Sets.{claimed_by}
use Rattle.channel.specs.States.{State, state_at_opening as opened_state, peers_next, after_update, after_sign}
use Rattle.channel.specs.Tokens.{contents_of, peer_tokens}
use Rattle.channel.proofs.Samples.{key, point_key}
use Rattle.safety.specs.Holdings.{Holding, IsOnRecorded, on_own, on_peers, on_revoked, IsRightful, KeepsRules, EachKeepsRules}
use Rattle.safety.specs.Places.{IsOwnersClaim, delayed, second_stage, delayed_second, IsPeersClaim, payment, direct, IsRevokedClaim, penalty, own_payment, htlc_penalty, second_penalty, OwnersPlaces, PeersPlaces, RevokedPlaces}
use Rattle.safety.specs.Recorded.{IsOutPoint}
use Rattle.safety.proofs.Slots.{contains_cases}
use Rattle.safety.proofs.Lists.{contains_none}
use Rattle.book.specs.declared.calls.Opening.{Opening}
use Rattle.book.specs.declared.calls.Step.TheVariants.{Own, Peer}
use Rattle.book.specs.declared.calls.Call.{Call}
use Rattle.book.specs.declared.calls.Call.TheVariants.{Open, Step as Stepping, Sign, Keep, Release as Releasing}
use Rattle.book.specs.declared.calls.Entry.{Entry}
use Rattle.book.specs.Books.{ChannelBook, replay}
use Rattle.book.specs.Signers.{fill_refusal}
use Rattle.book.specs.Accepted.{AreWhole, all_accepted, IsHistory, AcceptedMeans}
use Rattle.book.specs.Releasing.{IsKeptIn}
use Rattle.book_laws.specs.Holdings.{releases_in, holding_of}
use Rattle.book_laws.specs.Keeping.{TakesCare, IsCareful}
use Rattle.book_laws.proofs.Samples.{path, entry, hash, htlc, stray, batch, release, first_terms, first_signed, first_opening}

-- ---- calls

-- no: IsHistory
signed_in_no_channel : AcceptedMeans → IsHistory peer_tokens (entry 1 (Sign 0) ∷ []) → ⊥
signed_in_no_channel law called = true≢false (sym ((law.accepted_exactly peer_tokens (entry 1 (Sign 0) ∷ [])).0 called))

-- ---- offers

module _ (c amount_msat : ℕ) (h : Htlc) where
  -- yes: TakesCare
  at_one : TakesCare c (Stepping c (Own (Offer amount_msat hash 1)))
  at_one e = lit< tt

  -- no: TakesCare
  at_zero : TakesCare c (Stepping c (Own (Offer amount_msat hash 0))) → ⊥
  at_zero f = let l = f refl in omega (arith, l)

  -- of another channel it takes care then
  -- yes: TakesCare
  at_zero_elsewhere : TakesCare c (Stepping (suc c) (Own (Offer amount_msat hash 0)))
  at_zero_elsewhere e = omega (arith, e)

  -- a peer's HTLC may expire at any height
  -- yes: TakesCare
  peers_offer : TakesCare c (Stepping c (Peer (Updated (Add h))))
  peers_offer = tt

-- ---- outputs

-- yes: TakesCare
greatest_value : (c : ℕ) → TakesCare c (Releasing c (batch stray 2100000000000000))
greatest_value c e = (record { value = omega arith; script = omega arith }, tt)

-- no: TakesCare
above_all_bitcoins : (c : ℕ) → TakesCare c (Releasing c (batch stray 2100000000000001)) → ⊥
above_all_bitcoins c f = let l = (f refl).0.value in omega (arith, l)

-- yes: TakesCare
above_all_elsewhere : (c : ℕ) → TakesCare c (Releasing (suc c) (batch stray 2100000000000001))
above_all_elsewhere c e = omega (arith, e)

-- ---- claims

-- a script of BOLT 3 has at least five opcodes
long_htlc : (k : KeyBytes) (direction : Direction) (h : Htlc) → 5 ≤ length (htlc_form k direction h).ops
long_htlc k Offered h = omega arith
long_htlc k Received h = omega arith

abbrev size_of : Claimable → ℕ
size_of o = length o.form.ops

no_owners : (c : Contents) → IsOwnersClaim c (claimed_by stray) → ⊥
no_owners c (delayed index output at e) = let n = ap size_of e in omega (arith, n)
no_owners c (second_stage h output at e) = let n = ap size_of e in let l = long_htlc c.keys h.direction h.htlc in omega (arith, n, l)
no_owners c (delayed_second h output at e) = let n = ap size_of e in omega (arith, n)

no_peers : (c : Contents) → IsPeersClaim c (claimed_by stray) → ⊥
no_peers c (payment index output at e) = let n = ap size_of e in omega (arith, n)
no_peers c (direct h output at e) = let n = ap size_of e in let l = long_htlc c.keys h.direction h.htlc in omega (arith, n, l)

no_revoked : (c : Contents) → IsRevokedClaim c (claimed_by stray) → ⊥
no_revoked c (penalty index output at e) = let n = ap size_of e in omega (arith, n)
no_revoked c (own_payment index output at e) = let n = ap size_of e in omega (arith, n)
no_revoked c (htlc_penalty h output at e) = let n = ap size_of e in let l = long_htlc c.keys h.direction h.htlc in omega (arith, n, l)
no_revoked c (second_penalty h output at e) = let n = ap size_of e in omega (arith, n)

stray_listed : listing (Number 1 ∷ []) ≡ Ok (path ∷ [])
unfolding listing rule_of check_multi_sig is_key
stray_listed = refl

stray_judged : IsTrue (is_ok (judgement_of stray.ways stray.index stray.slots stray.place stray.shell))
unfolding judgement_of script_hash_program sha256 digest_bytes hash_after compress rounds schedule first_words
stray_judged = refl

-- yet it is an accepted claim
stray_whole : IsWhole stray
stray_whole = record { ops = All-cons IsOp (Number 1) [] (lit≤ tt, lit≤ tt) (All-nil IsOp); short = lit≤ tt; listed = stray_listed; accepted = stray_judged; bare = refl }

-- by these laws of `safety` no channel's commitment has the claim on OP_1
module _ (owners : OwnersPlaces) (peers : PeersPlaces) (revoked : RevokedPlaces) where
  -- no: IsOnRecorded
  stray_is_on_none : (h : Holding) → IsOnRecorded h stray → ⊥
  stray_is_on_none h (on_own n k there preimages i) = no_owners (contents_of h.state.held.terms k) (owners preimages (contents_of h.state.held.terms k) (claimed_by stray) i).0
  stray_is_on_none h (on_peers n k there preimages i) = no_peers (contents_of h.state.held.terms k) (peers preimages (contents_of h.state.held.terms k) (claimed_by stray) i).0
  stray_is_on_none h (on_revoked n k there i) = no_revoked (contents_of h.state.held.terms k) (revoked (contents_of h.state.held.terms k) (claimed_by stray) i).0

only : {X : Type 0} (x y : X) → Contains (x ∷ []) y → x ≡ y
only {X} x y c = ⊎_elim {C = x ≡ y} (λ (e : x ≡ y). e) (λ (d : Contains [] y). absurd (contains_none y d)) (contains_cases x [] y c)

abbrev channel_kept : Call → ℕ
channel_kept (Keep c n claims) = c
channel_kept call = 0

module _ (x : ClaimParts) (o : Opening) where
  -- yes: IsKeptIn
  in_a_kept_set : IsKeptIn 2 (entry 0 (Open o) ∷ entry 6 (Keep 2 3 (stray ∷ x ∷ [])) ∷ []) x
  in_a_kept_set = record { seat = 6; number = 3; set = stray ∷ x ∷ []; kept = (1, lit< tt, refl); within = (1, lit< tt, refl) }

  -- no: IsKeptIn
  in_another_channel : IsKeptIn 1 (entry 6 (Keep 2 3 (stray ∷ x ∷ [])) ∷ []) x → ⊥
  in_another_channel k = let e = ap (λ (e : Entry). channel_kept e.call) (only (entry 6 (Keep 2 3 (stray ∷ x ∷ []))) (entry k.seat (Keep 1 k.number k.set)) k.kept) in omega (arith, e)

-- no: IsKeptIn
in_no_set : (x : ClaimParts) → IsKeptIn 0 [] x → ⊥
in_no_set x k = contains_none (entry k.seat (Keep 0 k.number k.set)) k.kept

-- what a history released in a channel is on its recorded commitments
abbrev AreDue : List Entry → ChannelBook → Type 0
AreDue history ch = AllByRecursion (λ r. AllByRecursion (IsOnRecorded (holding_of history 0 ch)) r.claims) (releases_in 0 history)

-- ---- without what is asked

module _ (bases theirs : BaseKeys) (seed : List ℕ) (own : IsSeedOf seed bases) where
  -- the node offers an HTLC that expires at 0, and signs it: a book takes that
  abbrev offered : List Entry
  offered = entry 3 (Open (first_opening bases theirs seed own (replicate 32 5))) ∷ entry 1 (Stepping 0 (Own (Offer 1000000 hash 0))) ∷ entry 1 (Sign 0) ∷ []

  offered_accepted : all_accepted peer_tokens offered ≡ true
  offered_accepted = rw (first_signed bases theirs seed own (replicate 32 5)) refl

  abbrev before : State
  before = after_update (Add (htlc 1000000 0)) (opened_state (first_terms bases theirs seed own (replicate 32 5)) A seed point_key (key 1))

  abbrev offered_book : ChannelBook
  offered_book = record { state = after_sign before; kept = []; closed = None }

  abbrev with_offer : Holding
  with_offer = record { state = after_sign before; releases = []; closed = None }

  offered_there : replay offered ≡ offered_book ∷ []
  offered_there = refl

  offered_holding : holding_of offered 0 offered_book ≡ with_offer
  offered_holding = refl

  abbrev ours : HtlcOutput
  ours = record { index = 0; direction = Received; htlc = htlc 1000000 0 }

  offered_htlcs : htlcs_of (contents_of (first_terms bases theirs seed own (replicate 32 5)) (peers_next before)) ≡ ours ∷ []
  unfolding htlcs_from commitment_of outputs_of in_order output_cmp
  offered_htlcs = refl

  -- no: KeepsRules
  offered_until_zero : KeepsRules with_offer → ⊥
  offered_until_zero r = let l : 0 < 0 = r.expiries 1 (peers_next before) refl ours (subst (λ (hs : List HtlcOutput). Contains hs ours) (sym offered_htlcs) (0, lit< tt, refl)) refl in omega (arith, l)

  -- all else that is asked holds of it
  offered_otherwise : AreDue offered offered_book × IsOutPoint offered_book.state.held.terms.funding
  offered_otherwise = (tt, record { txid = refl; index = lit< tt })

  -- no: IsCareful
  offered_carelessly : IsCareful offered 0 offered_book → ⊥
  offered_carelessly c = let l : 0 < 0 = c.cares.1.0 refl in omega (arith, l)

  -- the node releases a claim on what no channel of its book has: a book takes that
  abbrev strayed : List Entry
  strayed = entry 3 (Open (first_opening bases theirs seed own (replicate 32 5))) ∷ entry 2 (Releasing 0 (batch stray 900)) ∷ []

  strayed_accepted : all_accepted peer_tokens strayed ≡ true
  unfolding fill_refusal
  strayed_accepted = rw (first_signed bases theirs seed own (replicate 32 5)) refl

  abbrev strayed_book : ChannelBook
  strayed_book = record { state = opened_state (first_terms bases theirs seed own (replicate 32 5)) A seed point_key (key 1); kept = []; closed = None }

  strayed_there : replay strayed ≡ strayed_book ∷ []
  strayed_there = refl

  -- all else that is asked holds of it, and the claim is an accepted one
  strayed_otherwise : AllByRecursion (λ e. TakesCare 0 e.call) strayed × AreWhole strayed × IsOutPoint strayed_book.state.held.terms.funding
  strayed_otherwise = ((tt, ((λ e. (record { value = omega arith; script = omega arith }, tt)), tt)), (tt, ((stray_whole, tt), tt)), record { txid = refl; index = lit< tt })

  abbrev with_stray : Holding
  with_stray = record { state = strayed_book.state; releases = release stray 900 ∷ []; closed = None }

  strayed_holding : holding_of strayed 0 strayed_book ≡ with_stray
  strayed_holding = refl

  -- no: KeepsRules
  released_astray : OwnersPlaces → PeersPlaces → RevokedPlaces → KeepsRules with_stray → ⊥
  released_astray owners peers revoked r = stray_is_on_none owners peers revoked with_stray r.releases.0.recorded.0

  -- no: IsCareful
  strayed_carelessly : OwnersPlaces → PeersPlaces → RevokedPlaces → IsCareful strayed 0 strayed_book → ⊥
  strayed_carelessly owners peers revoked c = stray_is_on_none owners peers revoked with_stray c.due.0.0

  -- no: IsCareful
  strayed_from_nowhere : IsCareful strayed 1 strayed_book → ⊥
  strayed_from_nowhere c = none-some strayed_book c.there

  -- the node pays more than all bitcoins
  abbrev lavish : List Entry
  lavish = entry 3 (Open (first_opening bases theirs seed own (replicate 32 5))) ∷ entry 2 (Releasing 0 (batch stray 2100000000000001)) ∷ []

  -- no: IsCareful
  paid_carelessly : IsCareful lavish 0 strayed_book → ⊥
  paid_carelessly c = let l = (c.cares.1.0 refl).0.value in omega (arith, l)

  -- the funding output's id has 31 bytes
  abbrev short : List Entry
  short = entry 3 (Open (first_opening bases theirs seed own (replicate 31 5))) ∷ []

  short_accepted : all_accepted peer_tokens short ≡ true
  short_accepted = rw (first_signed bases theirs seed own (replicate 31 5)) refl

  abbrev short_book : ChannelBook
  short_book = record { state = opened_state (first_terms bases theirs seed own (replicate 31 5)) A seed point_key (key 1); kept = []; closed = None }

  short_there : replay short ≡ short_book ∷ []
  short_there = refl

  -- no: EachKeepsRules
  short_funding : EachKeepsRules (holding_of short 0 short_book ∷ []) → ⊥
  short_funding r = let e : 31 ≡ 32 = r.each.0.funding.txid in omega (arith, e)

  -- no: IsCareful
  short_carelessly : IsCareful short 0 short_book → ⊥
  short_carelessly c = let e : 31 ≡ 32 = c.funding.txid in omega (arith, e)

-- an output whose value is beyond eight bytes does not fit into its transaction
-- no: IsRightful
rich : (h : Holding) → IsRightful h (release stray 18446744073709551616) → ⊥
rich h r = let l = r.signable.0.transaction.outputs.0.0 in omega (arith, l)
