use Rattle.std.proofs.Common.{List, Option, sym, subst}
use Rattle.std.specs.Prelude.{slice_get, MatchResult}
use Rattle.book.specs.declared.calls.Entry.{Entry}
use Rattle.book.specs.Books.{ChannelBook, replay}
use Rattle.book.specs.Calling.{IsKeepRefusal}
use Rattle.book.specs.Revoked.{IsRevokedIn, early_keep_refusal}
use Rattle.book.proofs.Fundings.{stands}
use Rattle.book.proofs.history.Book.revoked.Goals as goal

pub returns : goal.returns
returns c =
    let i = c.self.inside in
    let n = c.args.number in
    let one = c.index in
    let found = stands i.entries.items i.channels.entries c.self.invariant.left c.args.channel one.result.now one.ensures in
    let there = subst (λ (o : Option ChannelBook). MatchResult c.revoked.result (IsRevokedIn n o) (IsKeepRefusal (early_keep_refusal n o))) (sym found) c.revoked.ensures in
    subst (λ (h : List Entry). let o = slice_get (replay h) c.args.channel in MatchResult c.revoked.result (IsRevokedIn n o) (IsKeepRefusal (early_keep_refusal n o))) c.self.view_is there
