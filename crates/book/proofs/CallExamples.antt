-- A book's replies, call by call: those of the first scenario, and each refusal before the next one in the order.
use Rattle.std.proofs.Common.{◌≡◌, ℕ, true, false, List, [], ◌∷◌, ◌++◌, length, replicate, map, Some, None, Ok, Err, refl, lit≤, lit<}
use Rattle.sha2.specs.Sha256.{sha256, digest_bytes, hash_after, compress, rounds, schedule, first_words}
use Rattle.keys.specs.Derivation.{point_of}
use Rattle.terms.specs.declared.htlcs.Htlc.{Htlc}
use Rattle.terms.specs.declared.sides.Side.{Side}
use Rattle.terms.specs.declared.sides.Side.TheVariants.{A, B}
use Rattle.terms.specs.declared.agreement.BaseKeys.{BaseKeys}
use Rattle.terms.specs.declared.agreement.Terms.{Terms}
use Rattle.updates.specs.declared.changes.Update.TheVariants.{Add}
use Rattle.updates.specs.declared.errors.ChannelError.TheVariants.{NoUpdates as NothingCovered, WrongSecret, NotYourTurn}
use Rattle.claim.specs.Claims.{ClaimParts}
use Rattle.filling.specs.declared.errors.FillError.TheVariants.{NoRight, SameOutpoint}
use Rattle.updates.specs.declared.messages.PeerStep.TheVariants.{Update as Updated, CommitmentSigned}
use Rattle.channel.specs.declared.messages.Message.TheVariants.{Step as StepMessage, RevokeAndAck}
use Rattle.channel.specs.Points.{secret_at, point_at, is_foreign}
use Rattle.channel.specs.States.{State, state_at_opening as opened_state, after_update, after_sign, after}
use Rattle.updates.specs.declared.changes.OwnUpdate.TheVariants.{Offer}
use Rattle.terms.specs.Agreement.{party}
use Rattle.book.specs.declared.calls.Opening.{Opening}
use Rattle.book.specs.declared.calls.Batch.{Batch}
use Rattle.book.specs.declared.calls.Step.TheVariants.{Own, Peer}
use Rattle.book.specs.declared.calls.Call.{Call}
use Rattle.book.specs.declared.calls.Call.TheVariants.{Open, Step as Stepping, Sign, Revoke, Keep, Release, Close}
use Rattle.book.specs.declared.calls.Entry.{Entry}
use Rattle.book.specs.declared.errors.OpenError.TheVariants as opens
use Rattle.book.specs.declared.errors.SignError.TheVariants as signs
use Rattle.book.specs.declared.errors.KeepError.TheVariants as keeps
use Rattle.book.specs.declared.errors.ReleaseAgainError.TheVariants as again
use Rattle.book.specs.declared.errors.CloseError.TheVariants as closes
use Rattle.book.specs.declared.errors.KnowError.TheVariants as knows
use Rattle.book.specs.declared.errors.OpenError.TheVariants.{BookFull, SameFunding, BadSignature}
use Rattle.book.specs.declared.errors.StepError.TheVariants.{Refused, NoSuchChannel as NoChannelToStep, ChannelClosed as ClosedToSteps}
use Rattle.book.specs.declared.errors.SignError.TheVariants.{PenaltiesMissing, AwaitingRevocation, NoUpdates, NoSuchChannel as NoChannelToSign}
use Rattle.book.specs.declared.errors.KeepError.TheVariants.{NotRevoked, AlreadyKept, OtherState, NoSuchChannel as NoChannelToKeep}
use Rattle.book.specs.declared.errors.ReleaseError.TheVariants.{Unfilled, NoSuchChannel as NoChannelToRelease}
use Rattle.book.specs.declared.limits.TheConstants.{MAX_CHANNELS}
use Rattle.terms.specs.Bases.{IsSeedOf}
use Rattle.book.specs.Penalties.{is_penalty_set}
use Rattle.book.specs.Books.{ChannelBook, Channels, opened_by, missing_from}
use Rattle.book.specs.Refusals.{open_error_number, step_error_number, sign_error_number, keep_error_number, release_error_number, release_again_error_number, close_error_number, know_error_number}
use Rattle.book.specs.Replies.{answer_of, open_refusal, Reply, opened, stepped, signed, revoked, kept, released, closed, reply_of, sign_refusal, keep_refusal, history_after}
use Rattle.book.specs.Accepted.{all_accepted, first_refused}
use Rattle.book.specs.Guarding.{is_set_in, number_kept, is_guarded}
use Rattle.channel.proofs.Samples.{key, secret, point_is, point_key, tokens_of, tokens}

-- the numbers of the refusals; those of channels and fillings are unchanged
numbers : (map open_error_number (opens.NoMemory ∷ opens.BookFull ∷ opens.SameFunding ∷ opens.BadSignature ∷ []) ≡ 0 ∷ 1 ∷ 2 ∷ 3 ∷ [])
    × (map step_error_number (Refused NothingCovered ∷ Refused WrongSecret ∷ Refused NotYourTurn ∷ NoChannelToStep ∷ ClosedToSteps ∷ []) ≡ 9 ∷ 11 ∷ 12 ∷ 9 ∷ 19 ∷ [])
    × (map sign_error_number (signs.NoMemory ∷ signs.PenaltiesMissing 7 ∷ signs.AwaitingRevocation ∷ signs.NoUpdates ∷ signs.NoSuchChannel ∷ signs.ChannelClosed ∷ []) ≡ 0 ∷ 1 ∷ 2 ∷ 3 ∷ 9 ∷ 19 ∷ [])
    × (map keep_error_number (keeps.NoMemory ∷ keeps.NotRevoked ∷ keeps.OtherState ∷ keeps.AlreadyKept ∷ keeps.NoSuchChannel ∷ []) ≡ 0 ∷ 1 ∷ 2 ∷ 3 ∷ 9 ∷ [])
    × (map release_error_number (Unfilled NoRight ∷ Unfilled SameOutpoint ∷ NoChannelToRelease ∷ []) ≡ 1 ∷ 5 ∷ 9 ∷ [])
    × (map release_again_error_number (again.Refused (Unfilled NoRight) ∷ again.Refused NoChannelToRelease ∷ again.NoSuchEntry ∷ again.NotARelease ∷ again.TooManyOutputs ∷ again.NothingLeft ∷ []) ≡ 1 ∷ 9 ∷ 20 ∷ 21 ∷ 22 ∷ 23 ∷ [])
    × (map close_error_number (closes.NoMemory ∷ closes.NoSuchChannel ∷ []) ≡ 0 ∷ 9 ∷ [])
    × (map know_error_number (knows.NoMemory ∷ knows.NoSuchChannel ∷ []) ≡ 0 ∷ 9 ∷ [])
numbers = (refl, refl, refl, refl, refl, refl, refl, refl)

limit : MAX_CHANNELS ≡ 65536
limit = refl

-- the lowest number that is missing, in any order of those that are kept
missing : (missing_from [] 0 0 ≡ None)
    × (missing_from [] 0 2 ≡ Some 0)
    × (missing_from (0 ∷ []) 0 2 ≡ Some 1)
    × (missing_from (1 ∷ []) 0 2 ≡ Some 0)
    × (missing_from (2 ∷ 0 ∷ []) 0 4 ≡ Some 1)
    × (missing_from (2 ∷ 1 ∷ 0 ∷ []) 0 3 ≡ None)
    × (missing_from (2 ∷ 1 ∷ 0 ∷ []) 0 4 ≡ Some 3)
missing = (refl, refl, refl, refl, refl, refl, refl)

-- the point of a secret that the samples do not have (SHA-256 by Python's hashlib)
other_point_is : point_of (replicate 32 8) ≡ 2 ∷ 140 ∷ 23 ∷ 151 ∷ 150 ∷ 69 ∷ 241 ∷ 102 ∷ 21 ∷ 235 ∷ 156 ∷ 17 ∷ 161 ∷ 79 ∷ 72 ∷ 30 ∷ 34 ∷ 79 ∷ 112 ∷ 11 ∷ 47 ∷ 85 ∷ 77 ∷ 189 ∷ 29 ∷ 29 ∷ 29 ∷ 157 ∷ 195 ∷ 50 ∷ 118 ∷ 87 ∷ 111 ∷ []
unfolding point_of sha256 digest_bytes hash_after compress rounds schedule first_words
other_point_is = refl

abbrev hash : List ℕ
hash = replicate 32 9

abbrev htlc : ℕ → ℕ → ℕ → Htlc
htlc id amount_msat expiry_height = record { id = id; amount_msat = amount_msat; hash = hash; expiry_height = expiry_height }

-- the replies to calls of seat 0, one after another
abbrev answers_from : List Entry → List Call → List Reply
answers_from history [] = []
answers_from history (call ∷ calls) = reply_of tokens_of history call ∷ answers_from (history_after tokens_of history 0 call) calls

abbrev history_from : List Entry → List Call → List Entry
history_from history [] = history
history_from history (call ∷ calls) = history_from (history_after tokens_of history 0 call) calls

module _ (bases : BaseKeys) (seed : List ℕ) (own : IsSeedOf seed bases) where
  abbrev terms_of : ℕ → Terms
  terms_of index = record {
    funding = record { txid = replicate 32 5; index = index };
    capacity_sat = 100000;
    opener = A;
    feerate_per_kw = 1000;
    a = record { dust_sat = 546; delay_blocks = 144; minimum_msat = 1000; start_msat = 80000000; bases = bases };
    b = record { dust_sat = 546; delay_blocks = 144; minimum_msat = 1000; start_msat = 20000000; bases = bases };
    limited = lit≤ tt;
    whole = refl;
    short_a = lit< tt;
    short_b = lit< tt;
  }

  -- the two sides have the same base keys
  owned : (side : Side) (index : ℕ) → IsSeedOf seed (party side (terms_of index)).bases
  owned A index = own
  owned B index = own

  abbrev opening : Side → ℕ → List ℕ → Opening
  opening side index token = record { terms = terms_of index; side = side; seed = seed; first_point = point_key; next_point = key 1; token = token; own = owned side index }

  -- the funding output is tested before the token
  openings : answers_from [] (Open (opening A 0 (0 ∷ [])) ∷ Open (opening A 0 (1 ∷ [])) ∷ Open (opening A 1 (1 ∷ [])) ∷ Open (opening A 1 (0 ∷ [])) ∷ [])
      ≡ opened (Ok 0) ∷ opened (Err SameFunding) ∷ opened (Err BadSignature) ∷ opened (Ok 1) ∷ []
  openings = refl

  -- 65,536 channels are the limit, for any opening; with one channel fewer, the funding output is tested
  full : (chs : Channels) (o : Opening) → length chs ≡ 65536 → open_refusal tokens_of chs o ≡ Some BookFull
  full chs o many = rw many refl

  room : (chs : Channels) → length chs ≡ 65534 → open_refusal tokens_of (opened_by (opening A 0 (0 ∷ [])) ∷ chs) (opening A 0 (0 ∷ [])) ≡ Some SameFunding
  room chs many = rw many refl

  -- the first scenario: A offers an HTLC, signs, receives the revocation, and offers another one
  abbrev first_calls : List Call
  first_calls =
      Open (opening A 0 (0 ∷ [])) ∷ Stepping 0 (Own (Offer 1000000 hash 500)) ∷ Sign 0 ∷ Revoke 0 (record { secret = secret; next_point = key 2 }) ∷ Stepping 0 (Own (Offer 1000000 hash 501)) ∷ []

  first_answers : answers_from [] first_calls
      ≡ opened (Ok 0)
      ∷ stepped (Ok (StepMessage (Updated (Add (htlc 0 1000000 500))) ∷ []))
      ∷ signed (Ok (StepMessage (CommitmentSigned (tokens 1 (1000000 ∷ [])))))
      ∷ revoked (Ok 0)
      ∷ stepped (Ok (StepMessage (Updated (Add (htlc 1 1000000 501))) ∷ []))
      ∷ []
  unfolding is_foreign
  first_answers = rw point_is refl

  abbrev entry : Call → Entry
  entry call = record { seat = 0; call = call }

  -- each of these calls is an entry of the history
  abbrev first_history : List Entry
  first_history =
      entry (Open (opening A 0 (0 ∷ []))) ∷ entry (Stepping 0 (Own (Offer 1000000 hash 500))) ∷ entry (Sign 0) ∷ entry (Revoke 0 (record { secret = secret; next_point = key 2 }))
      ∷ entry (Stepping 0 (Own (Offer 1000000 hash 501))) ∷ []

  first_entries : history_from [] first_calls ≡ first_history
  unfolding is_foreign
  first_entries = rw point_is refl

  -- each entry is accepted after those before it; with one more in front, or another one next, not all are
  accepted : (all_accepted tokens_of [] ≡ true)
      × (all_accepted tokens_of first_history ≡ true)
      × (all_accepted tokens_of (first_history ++ entry (Sign 0) ∷ []) ≡ false)
      × (all_accepted tokens_of (entry (Sign 0) ∷ first_history) ≡ false)
      × (first_refused tokens_of first_history ≡ None)
      × (first_refused tokens_of (first_history ++ entry (Sign 0) ∷ entry (Sign 0) ∷ []) ≡ Some 5)
      × (first_refused tokens_of (entry (Sign 0) ∷ first_history) ≡ Some 0)
  unfolding is_foreign
  accepted = (refl, rw point_is refl, refl, rw point_is refl, rw point_is refl, rw point_is refl, refl)

  -- A's state after these calls
  abbrev then : State
  then =
      after_update (Add (htlc 1 1000000 501)) (after (after_sign (after_update (Add (htlc 0 1000000 500)) (opened_state (terms_of 0) A seed point_key (key 1)))) (RevokeAndAck (record { secret = secret; next_point = key 2 })))

  -- it may not sign before it keeps the penalties; it keeps them once, and signs
  module _ (claims : List ClaimParts) (is_set : is_penalty_set then 0 claims ≡ true) where
    last_answers : answers_from first_history (Sign 0 ∷ Keep 0 0 claims ∷ Sign 0 ∷ Keep 0 0 claims ∷ [])
        ≡ signed (Err (PenaltiesMissing 0)) ∷ kept (Ok tt) ∷ signed (Ok (StepMessage (CommitmentSigned (tokens 2 (1000000 ∷ 1000000 ∷ []))))) ∷ kept (Err AlreadyKept) ∷ []
    last_answers = rw is_set refl

    whole_history : length (history_from first_history (Sign 0 ∷ Keep 0 0 claims ∷ Sign 0 ∷ Keep 0 0 claims ∷ [])) ≡ 7
    whole_history = rw is_set refl

    -- the entries guard the signature if the penalties are kept before it, in this channel and for this number
    guarded : (is_guarded (first_history ++ entry (Keep 0 0 claims) ∷ entry (Sign 0) ∷ []) ≡ true)
        × (is_guarded first_history ≡ true)
        × (is_guarded (first_history ++ entry (Sign 0) ∷ []) ≡ false)
        × (is_guarded (first_history ++ entry (Sign 0) ∷ entry (Keep 0 0 claims) ∷ []) ≡ false)
        × (is_guarded (first_history ++ entry (Sign 1) ∷ []) ≡ true)
        × (is_guarded (first_history ++ entry (Keep 1 0 claims) ∷ entry (Sign 0) ∷ []) ≡ false)
    guarded = (rw (is_set, number_kept, is_set_in) refl, refl, refl, refl, refl, refl)

  -- B's calls of the first scenario: it receives the offer and the signature, and revokes at once
  others_answers : answers_from [] (Open (opening B 0 (0 ∷ [])) ∷ Stepping 0 (Peer (Updated (Add (htlc 0 1000000 500)))) ∷ Stepping 0 (Peer (CommitmentSigned (tokens 1 (1000000 ∷ [])))) ∷ [])
      ≡ opened (Ok 0) ∷ stepped (Ok []) ∷ stepped (Ok (RevokeAndAck (record { secret = secret_at seed 0; next_point = point_at seed 2 }) ∷ [])) ∷ []
  others_answers = refl

  others_history : length (history_from [] (Open (opening B 0 (0 ∷ [])) ∷ Stepping 0 (Peer (Updated (Add (htlc 0 1000000 500)))) ∷ Stepping 0 (Peer (CommitmentSigned (tokens 1 (1000000 ∷ [])))) ∷ [])) ≡ 3
  others_history = refl

  abbrev signed_history : List Entry
  signed_history = entry (Open (opening A 0 (0 ∷ []))) ∷ entry (Stepping 0 (Own (Offer 1000000 hash 500))) ∷ entry (Sign 0) ∷ []

  -- another secret is refused, and leaves the history as it was; so is a revocation that is not awaited
  wrong_secret : (reply_of tokens_of signed_history (Revoke 0 (record { secret = replicate 32 8; next_point = key 2 })) ≡ revoked (Err (Refused WrongSecret)))
      × (history_after tokens_of signed_history 0 (Revoke 0 (record { secret = replicate 32 8; next_point = key 2 })) ≡ signed_history)
      × (reply_of tokens_of first_history (Revoke 0 (record { secret = secret; next_point = key 3 })) ≡ revoked (Err (Refused NotYourTurn)))
  wrong_secret = (rw other_point_is refl, rw other_point_is refl, refl)

  -- every call refuses a channel that does not exist
  strangers : (batch : Batch) →
      (reply_of tokens_of first_history (Stepping 1 (Own (Offer 0 hash 500))) ≡ stepped (Err NoChannelToStep))
      × (reply_of tokens_of first_history (Sign 1) ≡ signed (Err NoChannelToSign))
      × (reply_of tokens_of first_history (Revoke 1 (record { secret = secret; next_point = key 2 })) ≡ revoked (Err NoChannelToStep))
      × (reply_of tokens_of first_history (Keep 1 5 []) ≡ kept (Err NoChannelToKeep))
      × (reply_of tokens_of first_history (Release 1 batch) ≡ released (Err NoChannelToRelease))
      × (reply_of tokens_of first_history (Close 1) ≡ closed (Err closes.NoSuchChannel))
  strangers batch = (refl, refl, refl, refl, refl, refl)

  abbrev channel : State → List ℕ → ChannelBook
  channel state kept_ones = record { state = state; kept = kept_ones; closed = None }

  -- an awaited revocation is reported before missing penalties, and these before a signature that covers nothing
  orders : (sign_refusal (channel (record then { awaiting = true }) []) ≡ Some AwaitingRevocation)
      × (sign_refusal (channel (record then { peer_number = 281474976710654 }) []) ≡ Some AwaitingRevocation)
      × (sign_refusal (channel (record then { peer_number = 281474976710653 }) (0 ∷ [])) ≡ None)
      × (sign_refusal (channel then []) ≡ Some (PenaltiesMissing 0))
      × (sign_refusal (channel then (1 ∷ [])) ≡ Some (PenaltiesMissing 0))
      × (sign_refusal (channel then (0 ∷ [])) ≡ None)
      × (sign_refusal (channel (after_sign then) (0 ∷ [])) ≡ Some AwaitingRevocation)
      × (sign_refusal (channel (opened_state (terms_of 0) A seed point_key (key 1)) []) ≡ Some NoUpdates)
      × (sign_refusal (channel (record (opened_state (terms_of 0) A seed point_key (key 1)) { secrets = secret ∷ [] }) []) ≡ Some (PenaltiesMissing 0))
  orders = (refl, refl, refl, refl, refl, refl, refl, refl, refl)

  -- a number that is not revoked, a number that is kept, and claims of another state
  module _ (claims : List ClaimParts) (no_set : is_penalty_set then 0 claims ≡ false) where
    keepings : (keep_refusal (channel then []) 1 claims ≡ Some NotRevoked)
        × (keep_refusal (channel then (1 ∷ [])) 1 claims ≡ Some NotRevoked)
        × (keep_refusal (channel then (0 ∷ [])) 0 claims ≡ Some AlreadyKept)
        × (keep_refusal (channel then []) 0 claims ≡ Some OtherState)
    keepings = (refl, refl, refl, rw no_set refl)

  -- the number of a revoked commitment is the count of earlier revocations, and not the number of one's own newest commitment
  abbrev awaiting : List (List ℕ) → ChannelBook
  awaiting secrets = channel (record (after_sign (after_update (Add (htlc 0 1000000 500)) (opened_state (terms_of 0) A seed point_key (key 1)))) { number = 5; secrets = secrets }) []

  first_revoked : answer_of tokens_of (awaiting [] ∷ []) (Revoke 0 (record { secret = secret; next_point = key 2 })) ≡ revoked (Ok 0)
  unfolding is_foreign
  first_revoked = rw point_is refl

  next_revoked : (first : List ℕ) → is_foreign (first ∷ []) secret ≡ false → answer_of tokens_of (awaiting (first ∷ []) ∷ []) (Revoke 0 (record { secret = secret; next_point = key 2 })) ≡ revoked (Ok 1)
  next_revoked first leads = rw (point_is, leads) refl
