use Rattle.std.proofs.Common.{◌≡◌, ◌<◌, length, Some, refl, sym, rules}
use Rattle.std.specs.Prelude.{slice_get}
use Rattle.book.proofs.Keeping.{peers_payable}
use Rattle.book.proofs.Recorded.{recorded, not_missing}
use Rattle.book.proofs.Unkept.{state_is}
use Rattle.book.proofs.revoking.state_at.Goals as goal

pub returns : goal.returns
returns c =
    let s = c.args.channel.now in
    let n = c.args.number in
    let one = c.index-peers_commitments-number in
    let cs = c.peers_commitments.result.now in
    let within : n < length cs = search rules in
    let told : slice_get s.secrets n ≡ Some c.in-Some.secret = sym c.in-Some.ensures in
    state_is s _ _ _ n cs one.result c.in-Some.secret c.revoked_by.result c.peers_commitments.ensures.numbered
    (recorded cs cs n one.result refl within one.is)
    (recorded s.signed cs n one.result c.peers_commitments.ensures.commitments within one.is)
    told c.revoked_by.ensures

pub revoked_by-requires : goal.revoked_by-requires
revoked_by-requires c =
    let n = c.args.number in
    let one = c.index-peers_commitments-number in
    let cs = c.peers_commitments.result.now in
    let within : n < length cs = search rules in
    peers_payable _ _ _ n cs one.result c.peers_commitments.ensures.numbered (recorded cs cs n one.result refl within one.is)

pub unreachable-requires : goal.unreachable-requires
unreachable-requires c = not_missing c.args.channel.now.secrets c.args.number c.requires (sym c.in-None.ensures)
