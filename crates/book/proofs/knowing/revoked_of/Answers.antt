use Rattle.std.proofs.Common.{◌≡◌, ◌<◌, length, Some, refl, sym, rules, arith}
use Rattle.std.specs.Prelude.{slice_get}
use Rattle.book.specs.Knowing.{flag_at}
use Rattle.book.proofs.Keeping.{peers_payable}
use Rattle.book.proofs.Recorded.{recorded, revoked_is, number_is, not_missing}
use Rattle.book.proofs.knowing.revoked_of.Goals as goal

pub returns-clause-value : goal.returns-clause-value
returns-clause-value c =
    let s = c.args.channel.now in
    let n = c.args.number in
    let one = c.index-peers_commitments-number in
    let within : n < length c.peers_commitments.result.now = search rules in
    let told : slice_get s.secrets n ≡ Some c.in-Some.secret = sym c.in-Some.ensures in
    revoked_is s (flag_at c.args.flags.now) n one.result c.in-Some.secret c.is_kept-is_kept.result c.revoked_commitment.result
    (recorded s.signed c.peers_commitments.result.now n one.result c.peers_commitments.ensures.commitments within one.is)
    told c.is_kept-is_kept.ensures c.revoked_commitment.ensures

pub returns-clause-number : goal.returns-clause-number
returns-clause-number c =
    let s = c.args.channel.now in
    let n = c.args.number in
    let one = c.index-peers_commitments-number in
    let cs = c.peers_commitments.result.now in
    let within : n < length cs = search rules in
    number_is s _ _ _ n cs one.result c.in-Some.secret c.is_kept-is_kept.result c.revoked_commitment.result c.peers_commitments.ensures.numbered
    (recorded cs cs n one.result refl within one.is)
    c.revoked_commitment.ensures

pub revoked_commitment-requires : goal.revoked_commitment-requires
revoked_commitment-requires c =
    let n = c.args.number in
    let one = c.index-peers_commitments-number in
    let cs = c.peers_commitments.result.now in
    let within : n < length cs = search rules in
    peers_payable _ _ _ n cs one.result c.peers_commitments.ensures.numbered (recorded cs cs n one.result refl within one.is)

pub unreachable-requires : goal.unreachable-requires
unreachable-requires c =
    let asked = c.requires in
    let number = c.peer_number-count.ensures.number in
    let revocations = c.peer_number-count.ensures.revocations in
    not_missing c.args.channel.now.secrets c.args.number (omega (arith, asked, number, revocations)) (sym c.in-None.ensures)
