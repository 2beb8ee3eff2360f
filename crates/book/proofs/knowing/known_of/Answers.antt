use Rattle.book.proofs.knowing.known_of.Goals as goal

pub returns : goal.returns
returns c = record {
  terms_are = c.terms.ensures;
  side_is = c.side.ensures;
  seed_is = c.in_ok-own.ensures.seed;
  rights_are = c.in_ok-own.ensures.rights;
  own_is = c.in_ok-own.ensures.newest;
  older_are = c.in_ok-own.ensures.older;
  theirs_is = c.in_ok-peers.ensures.newest;
  next_is = c.in_ok-peers.ensures.next;
  revoked_are = c.in_ok-peers.ensures.revoked;
  preimages_are = c.from_vec.ensures;
}
