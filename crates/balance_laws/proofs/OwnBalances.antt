-- What a node has of its own newest commitment that closed the channel.
use Rattle.std.proofs.Common.{◌≡◌, ℕ, ◌+◌, Bool, true, List, sym, refl, subst}
use Rattle.std.specs.Prelude.{if◌then◌else◌}
use Rattle.std.specs.List.{Contains}
use Rattle.chain.specs.Blocks.{Contents as Block}
use Rattle.terms.specs.declared.htlcs.Htlc.{Htlc}
use Rattle.commit.specs.declared.outputs.OutputKind.{OutputKind}
use Rattle.commit.specs.declared.outputs.OutputKind.TheVariants.{ToLocal, ToRemote, ToHtlc}
use Rattle.commit.specs.declared.outputs.CommitmentOutput.{CommitmentOutput}
use Rattle.commit.specs.declared.outputs.HtlcOutput.{HtlcOutput}
use Rattle.commit.specs.Order.{ThereIsOneOrder}
use Rattle.penalty.specs.Claimable.{Claimable}
use Rattle.penalty.specs.Worth.{value_of}
use Rattle.resolve.specs.Due.{delayed_on, second_stage_on, delayed_second_stage}
use Rattle.worth_laws.specs.Shares.{counts_on, counted_msat, counted_sat, deductions, IsLess, SharesAreWorth, AllIsTheCapacity}
use Rattle.worth_laws.specs.Counted.{counted_on, counted, fees_counted}
use Rattle.worth_laws.specs.Least.{own, WhicheverCloses}
use Rattle.worth_laws.proofs.Counted.{counted_worth}
use Rattle.safety.specs.Holdings.{Holding, terms_in, KeepsRules}
use Rattle.safety.specs.Places.{place_at, IsAt}
use Rattle.safety.proofs.Lists.{contains_none}
use Rattle.safety.proofs.Seconds.{standing}
use Rattle.safety.proofs.Places.{contains_one, given_by, htlc_at_index}
use Rattle.safety.proofs.Own.{kept_one}
use Rattle.safety.specs.Everybody.{EachChannelStands}
use Rattle.balance_laws.specs.Own.{OwnAreResolved}
use Rattle.balance_laws.specs.Balances.{by_own, AllBalancesAreThere}
use Rattle.balance_laws.proofs.Peers.{if_one}
use Rattle.balance_laws.proofs.Balances.{share_of, each_balance}
use Rattle.balance_laws.proofs.OwnOutputs.{OwnClose, contents, those_stand}
use Rattle.balance_laws.proofs.OwnResolved.{IsResolved, resolved_local, resolved_htlc}
use Rattle.balance_laws.proofs.OwnApart.{own_apart}

-- ---- each claim on it

by_kind : (hs : List Holding) (blocks : List Block) (s : OwnClose hs blocks) (known : Htlc → Bool) (index : ℕ) (output : CommitmentOutput) (kind : OutputKind) → IsAt (contents s) index output kind
    → (o : Claimable) → Contains (counted_on true known (standing blocks (contents s)) (contents s) index (place_at (contents s) index output) kind) o → IsResolved hs blocks (contents s) o
by_kind hs blocks s known index output ToLocal a o i =
    subst (IsResolved hs blocks (contents s)) (sym (contains_one (delayed_on (contents s) (place_at (contents s) index output)) o i)) (resolved_local hs blocks s index output a)
by_kind hs blocks s known index output ToRemote a o i = absurd (contains_none o i)
by_kind hs blocks s known index output (ToHtlc direction h) a o i =
    let c = contents s in
    let x : HtlcOutput = record { index = index; direction = direction; htlc = h } in
    let at = htlc_at_index c index output direction h a.there a.kind in
    subst (IsResolved hs blocks (contents s))
    (sym (if_one (counts_on true known (ToHtlc direction h)) (if standing blocks c index then delayed_second_stage c x else second_stage_on c x (place_at c index output)) o i))
    (resolved_htlc hs blocks s x output at (standing blocks c index) refl)

each_own : (hs : List Holding) (blocks : List Block) (s : OwnClose hs blocks) (known : Htlc → Bool) (o : Claimable) → Contains (counted true known (standing blocks (contents s)) (contents s)) o
    → IsResolved hs blocks (contents s) o
each_own hs blocks s known o i =
    let g = given_by (counted_on true known (standing blocks (contents s)) (contents s)) (contents s) o i in
    by_kind hs blocks s known g.index g.output g.output.kind (record { there = g.there; kind = refl }) o g.given

-- ---- all of them

pub own_are_resolved : ThereIsOneOrder → SharesAreWorth → WhicheverCloses → OwnAreResolved
own_are_resolved order shares whichever hs blocks v unrevoked h held rules k there chain known =
    let s : OwnClose hs blocks = record { watched = v; unrevoked = unrevoked; holding = h; held = held; rules = rules; commitment = k; there = there; chain = chain } in
    let c = contents s in
    let stands = standing blocks c in
    let kept : KeepsRules h = kept_one hs v.kept h held in
    let worth : value_of (counted true known stands c) + fees_counted true known stands c ≡ counted_sat true known c.outputs = counted_worth order (terms_in h) k.view k.owner k.number k.point.bytes true known stands in
    record {
      stands = stands;
      those = λ x i. those_stand hs blocks s x i;
      claims = record {
        apart = own_apart hs blocks s known;
        worth = subst (IsLess (counted_msat known h.state.held.side k.view) (deductions (terms_in h) k.view true h.state.held.side known)) (sym worth)
            (share_of shares (terms_in h) true h.state.held.side k known (kept.numbered.mine.each h.state.number k there).owner);
        least = whichever.least known stands h.state k (own there);
        each = λ o i. each_own hs blocks s known o i;
      };
    }

-- ---- each channel

pub all_balances_are_there : ThereIsOneOrder → SharesAreWorth → AllIsTheCapacity → WhicheverCloses → EachChannelStands → AllBalancesAreThere
all_balances_are_there order shares all whichever stands hs blocks v unrevoked h held rules funded known =
    each_balance order shares all whichever stands hs blocks v h held funded known
    (λ k at there on. by_own k at there on (own_are_resolved order shares whichever hs blocks v unrevoked h held rules k there on known))
