-- The ways in which an output is taken.

-- An output of a commitment is taken by the peer of the commitment's owner, by an HTLC transaction, by the owner, or only where byte strings collide. Each law says what these four are
pub data TakenBy (Peer HtlcTransaction Owner Collision : Type 0) : Type 0 where
  by_peer : Peer → TakenBy Peer HtlcTransaction Owner Collision
  by_htlc_transaction : HtlcTransaction → TakenBy Peer HtlcTransaction Owner Collision
  by_owner : Owner → TakenBy Peer HtlcTransaction Owner Collision
  by_collision : Collision → TakenBy Peer HtlcTransaction Owner Collision
