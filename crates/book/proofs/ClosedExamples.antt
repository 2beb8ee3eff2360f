-- A closed channel, call by call: what it still takes, what it refuses, and which commitment it was closed with.
use Rattle.std.proofs.Common.{◌≡◌, ℕ, true, false, List, [], ◌∷◌, ◌++◌, replicate, map, Some, None, Ok, Err, refl, lit≤, lit<}
use Rattle.std.specs.Prelude.{slice_get, option_map}
use Rattle.terms.specs.declared.htlcs.Htlc.{Htlc}
use Rattle.terms.specs.declared.sides.Side.TheVariants.{A, B}
use Rattle.terms.specs.declared.agreement.BaseKeys.{BaseKeys}
use Rattle.terms.specs.declared.agreement.Terms.{Terms}
use Rattle.terms.specs.Bases.{IsSeedOf}
use Rattle.updates.specs.declared.changes.Update.TheVariants.{Add, Fulfil as Fulfilling, Fail as Failing, Fee}
use Rattle.updates.specs.declared.changes.OwnUpdate.TheVariants.{Offer, Fulfil, Fail, SetFee}
use Rattle.updates.specs.declared.errors.ChannelError.TheVariants.{AmountZero, UnknownHtlc, NotYourTurn}
use Rattle.updates.specs.declared.messages.PeerStep.TheVariants.{Update as Updated, CommitmentSigned}
use Rattle.channel.specs.declared.messages.Message.TheVariants.{RevokeAndAck}
use Rattle.channel.specs.Points.{secret_at, point_at}
use Rattle.channel.proofs.Samples.{key, secret, point_key, tokens_of, tokens}
use Rattle.book.specs.declared.calls.Opening.{Opening}
use Rattle.book.specs.declared.calls.Step.TheVariants.{Own, Peer}
use Rattle.book.specs.declared.calls.Call.{Call}
use Rattle.book.specs.declared.calls.Call.TheVariants.{Open, Step as Stepping, Sign, Revoke, Keep, Close}
use Rattle.book.specs.declared.calls.Entry.{Entry}
use Rattle.book.specs.declared.errors.StepError.TheVariants.{Refused, ChannelClosed as ClosedToSteps}
use Rattle.book.specs.declared.errors.SignError.TheVariants.{NoUpdates, ChannelClosed as ClosedToSigning}
use Rattle.book.specs.declared.errors.KeepError.TheVariants.{NotRevoked}
use Rattle.book.specs.declared.errors.CloseError.TheVariants.{NoSuchChannel as NoChannelToClose}
use Rattle.book.specs.Books.{ChannelBook, is_barred, replay}
use Rattle.book.specs.Replies.{Reply, opened, stepped, signed, revoked, kept, closed, reply_of, history_after}
use Rattle.book.specs.Accepted.{all_accepted}
use Rattle.book.specs.Closing.{is_shut_out}

abbrev hash : List ℕ
hash = replicate 32 9

abbrev htlc : ℕ → ℕ → ℕ → Htlc
htlc id amount_msat expiry_height = record { id = id; amount_msat = amount_msat; hash = hash; expiry_height = expiry_height }

-- of one's own updates only a fulfil is taken; of the peer's messages all but a signature
barred : map is_barred
    (Own (Offer 7 hash 500) ∷ Own (Fulfil 0 hash) ∷ Own (Fail 0) ∷ Own (SetFee 5) ∷ Peer (Updated (Add (htlc 0 7 500))) ∷ Peer (Updated (Fulfilling 0 hash)) ∷ Peer (Updated (Failing 0)) ∷ Peer (Updated (Fee 5)) ∷ Peer (CommitmentSigned (tokens 1 [])) ∷ [])
    ≡ true ∷ false ∷ true ∷ true ∷ false ∷ false ∷ false ∷ false ∷ true ∷ []
barred = refl

-- the same by channel
shut_out : map (is_shut_out 3)
    (Sign 3 ∷ Sign 2 ∷ Stepping 3 (Peer (CommitmentSigned (tokens 1 []))) ∷ Stepping 4 (Peer (CommitmentSigned (tokens 1 []))) ∷ Stepping 3 (Own (Fail 0)) ∷ Stepping 3 (Own (Fulfil 0 hash)) ∷ Revoke 3 (record { secret = secret; next_point = key 2 }) ∷ Keep 3 0 [] ∷ Close 3 ∷ [])
    ≡ true ∷ false ∷ true ∷ false ∷ true ∷ false ∷ false ∷ false ∷ false ∷ []
shut_out = refl

abbrev answers_from : List Entry → List Call → List Reply
answers_from history [] = []
answers_from history (call ∷ calls) = reply_of tokens_of history call ∷ answers_from (history_after tokens_of history 4 call) calls

abbrev history_from : List Entry → List Call → List Entry
history_from history [] = history
history_from history (call ∷ calls) = history_from (history_after tokens_of history 4 call) calls

module _ (bases : BaseKeys) (seed : List ℕ) (own : IsSeedOf seed bases) where
  abbrev terms_of : ℕ → Terms
  terms_of index = record {
    funding = record { txid = replicate 32 5; index = index };
    capacity_sat = 100000;
    opener = A;
    feerate_per_kw = 1000;
    a = record { dust_sat = 546; delay_blocks = 144; minimum_msat = 1000; start_msat = 80000000; bases = bases };
    b = record { dust_sat = 546; delay_blocks = 144; minimum_msat = 1000; start_msat = 20000000; bases = bases };
    limited = lit≤ tt;
    whole = refl;
    short_a = lit< tt;
    short_b = lit< tt;
  }

  abbrev opening : ℕ → Opening
  opening index = record { terms = terms_of index; side = B; seed = seed; first_point = point_key; next_point = key 1; token = 0 ∷ []; own = own }

  -- B has two channels, and received a signature in the second one
  abbrev before : List Call
  before = Open (opening 0) ∷ Open (opening 1) ∷ Stepping 1 (Peer (Updated (Add (htlc 0 1000000 500)))) ∷ Stepping 1 (Peer (CommitmentSigned (tokens 1 (1000000 ∷ [])))) ∷ []

  -- each channel is closed with its own newest commitment, as often as it is asked
  closings : answers_from (history_from [] before) (Close 1 ∷ Close 0 ∷ Close 1 ∷ Close 2 ∷ [])
      ≡ closed (Ok 1) ∷ closed (Ok 0) ∷ closed (Ok 1) ∷ closed (Err NoChannelToClose) ∷ []
  closings = refl

  -- the second channel is closed, after one more update of the peer
  abbrev history : List Entry
  history = history_from (history_from [] before) (Stepping 1 (Peer (Updated (Add (htlc 1 2000000 501)))) ∷ Close 1 ∷ [])

  -- it takes no signature and signs nothing, makes no offer, failure or fee, and still takes the peer's updates; a fulfil, a revocation and penalties are refused for their own reasons
  refused : map (reply_of tokens_of history)
      (Stepping 1 (Peer (CommitmentSigned (tokens 2 (1000000 ∷ 2000000 ∷ [])))) ∷ Sign 1 ∷ Stepping 1 (Own (Offer 1000000 hash 500)) ∷ Stepping 1 (Own (Fail 0)) ∷ Stepping 1 (Own (SetFee 5))
      ∷ Stepping 1 (Own (Fulfil 7 hash)) ∷ Stepping 1 (Peer (Updated (Add (htlc 2 3000000 502)))) ∷ Revoke 1 (record { secret = secret; next_point = key 2 }) ∷ Keep 1 0 [] ∷ [])
      ≡ stepped (Err ClosedToSteps) ∷ signed (Err ClosedToSigning) ∷ stepped (Err ClosedToSteps) ∷ stepped (Err ClosedToSteps) ∷ stepped (Err ClosedToSteps)
      ∷ stepped (Err (Refused UnknownHtlc)) ∷ stepped (Ok []) ∷ revoked (Err (Refused NotYourTurn)) ∷ kept (Err NotRevoked) ∷ []
  refused = refl

  -- before it was closed it took that signature, and answered it with the secret of the commitment that is now on the chain
  taken_before : reply_of tokens_of (history_from (history_from [] before) (Stepping 1 (Peer (Updated (Add (htlc 1 2000000 501)))) ∷ [])) (Stepping 1 (Peer (CommitmentSigned (tokens 2 (1000000 ∷ 2000000 ∷ [])))))
      ≡ stepped (Ok (RevokeAndAck (record { secret = secret_at seed 1; next_point = point_at seed 3 }) ∷ []))
  taken_before = refl

  -- the other channel is not closed
  other : map (reply_of tokens_of history) (Sign 0 ∷ Stepping 0 (Own (Offer 0 hash 500)) ∷ Close 0 ∷ []) ≡ signed (Err NoUpdates) ∷ stepped (Err (Refused AmountZero)) ∷ closed (Ok 0) ∷ []
  other = refl

  -- the laws hold of this history: their premises are met
  numbers : option_map (λ (ch : ChannelBook). ch.closed) (slice_get (replay history) 1) ≡ Some (Some 1)
  numbers = refl

  accepted : all_accepted tokens_of history ≡ true
  accepted = refl

  -- with a signature after the close, it is no history of accepted calls
  not_accepted : (all_accepted tokens_of (history ++ record { seat = 4; call = Sign 1 } ∷ []) ≡ false)
      × (all_accepted tokens_of (history ++ record { seat = 4; call = Close 1 } ∷ []) ≡ true)
  not_accepted = (refl, refl)
