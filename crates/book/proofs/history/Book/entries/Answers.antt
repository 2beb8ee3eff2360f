use Rattle.std.proofs.Common.{◌≡◌, true, List, subst}
use Rattle.channel.specs.Tokens.{peer_tokens}
use Rattle.book.specs.declared.calls.Entry.{Entry}
use Rattle.book.specs.Accepted.{AreWhole}
use Rattle.book.specs.Guarding.{is_guarded}
use Rattle.book.proofs.Guarded.{accepted_is_guarded}
use Rattle.book.proofs.history.Book.entries.Goals as goal

pub returns-clause-guarded : goal.returns-clause-guarded
returns-clause-guarded c = subst (λ (h : List Entry). is_guarded h ≡ true) c.self.view_is (accepted_is_guarded peer_tokens c.self.inside.entries.items c.self.invariant.left.accepted)

pub returns-clause-whole : goal.returns-clause-whole
returns-clause-whole c = subst (λ (h : List Entry). AreWhole h) c.self.view_is c.self.invariant.left.whole
