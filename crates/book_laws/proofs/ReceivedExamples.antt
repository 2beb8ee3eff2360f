-- What came in for own commitments, by channel and number. And a book that is sent other bytes as `commitment_signed`: they do not come in.
use Rattle.std.proofs.Common.{◌≡◌, ◌≢◌, ℕ, ◌&&◌, true, List, [], ◌∷◌, map, replicate, reverse, get_or, Option, None, refl, sym, ap, ◌∙◌, lit<, arith}
use Rattle.std.specs.Prelude.{slice_get}
use Rattle.std.specs.Str.{bytes_eq}
use Rattle.std.proofs.lemmas.Option.{none-some, same_Some}
use Rattle.std.proofs.lemmas.Slice.Eq.{bytes_eq-Decides}
use Rattle.script.specs.Token.{token_of}
use Rattle.terms.specs.declared.sides.Side.TheVariants.{A}
use Rattle.terms.specs.declared.agreement.BaseKeys.{BaseKeys}
use Rattle.terms.specs.Bases.{IsSeedOf}
use Rattle.updates.specs.declared.changes.Update.{Update}
use Rattle.updates.specs.declared.changes.Update.TheVariants.{Add}
use Rattle.updates.specs.declared.messages.PeerStep.TheVariants.{Update as Updated, CommitmentSigned}
use Rattle.updates.specs.declared.messages.Tokens.{Tokens}
use Rattle.claim.specs.declared.parts.Place.{Place}
use Rattle.forms.specs.Fillings.{Filling, Bytes}
use Rattle.commit.specs.declared.outputs.HtlcOutput.{HtlcOutput}
use Rattle.commit.specs.Commitments.{Contents, htlcs_of}
use Rattle.commit.specs.Signing.{htlc_digest}
use Rattle.channel.specs.declared.commitments.CommitmentState.{CommitmentState}
use Rattle.channel.specs.declared.messages.Message.TheVariants.{Step as StepMessage}
use Rattle.channel.specs.States.{State, state_at_opening as opened_state, own_next, after, all_eq, same_tokens}
use Rattle.channel.specs.Tokens.{contents_of, peer_tokens}
use Rattle.channel.proofs.Samples.{key, point_key}
use Rattle.book.specs.declared.calls.Opening.{Opening}
use Rattle.book.specs.declared.calls.Step.TheVariants.{Peer}
use Rattle.book.specs.declared.calls.Call.TheVariants.{Open, Step as Stepping, Sign, Close}
use Rattle.book.specs.declared.calls.Entry.{Entry}
use Rattle.book.specs.Books.{ChannelBook}
use Rattle.book.specs.Accepted.{all_accepted, AcceptedMeans}
use Rattle.book_laws.specs.Keeping.{IsCareful}
use Rattle.book_laws.specs.Received.{tokens_in, PeersTokensCame, came_on, IsStageWith, IsMadeOf}
use Rattle.book_laws.proofs.Received.{made_of}
use Rattle.book_laws.proofs.Samples.{entry, htlc, first_terms, first_signed, first_opening}

-- ---- by channel and number

abbrev tokens : ℕ → List ℕ → Tokens
tokens n htlcs = record { commitment = n ∷ []; htlcs = map (λ m. m ∷ []) htlcs }

abbrev first_byte : Tokens → ℕ
first_byte t = get_or t.commitment 0 0

module _ (o p : Opening) (u : Update) where
  abbrev entries : List Entry
  entries =
      entry 0 (Open o)
      ∷ entry 1 (Stepping 0 (Peer (CommitmentSigned (tokens 11 []))))
      ∷ entry 2 (Open p)
      ∷ entry 3 (Stepping 1 (Peer (CommitmentSigned (tokens 21 (3 ∷ 4 ∷ [])))))
      ∷ entry 4 (Stepping 0 (Peer (Updated u)))
      ∷ entry 5 (Sign 0)
      ∷ entry 6 (Stepping 0 (Peer (CommitmentSigned (tokens 12 (5 ∷ [])))))
      ∷ entry 7 (Close 1)
      ∷ []

  all_of_them : tokens_in (reverse entries)
      ≡ (record { commitment = o.token; htlcs = [] } ∷ tokens 11 [] ∷ tokens 12 (5 ∷ []) ∷ []) ∷ (record { commitment = p.token; htlcs = [] } ∷ tokens 21 (3 ∷ 4 ∷ []) ∷ []) ∷ []
  all_of_them = refl

  -- yes: came_on
  second_of_first : came_on entries 0 2 (tokens 12 (5 ∷ []))
  second_of_first = refl

  -- yes: came_on
  first_of_second : came_on entries 1 1 (tokens 21 (3 ∷ 4 ∷ []))
  first_of_second = refl

  -- no: came_on
  not_of_the_other_channel : came_on entries 0 1 (tokens 21 (3 ∷ 4 ∷ [])) → ⊥
  not_of_the_other_channel e = let n : 11 ≡ 21 = ap first_byte (same_Some (tokens 11 []) (tokens 21 (3 ∷ 4 ∷ [])) e) in omega (arith, n)

-- ---- a book that compares what it is sent

bytes_same : (bs : List ℕ) → bytes_eq bs bs ≡ true
bytes_same bs = (bytes_eq-Decides bs bs).1 refl

all_same : (xs : List (List ℕ)) → all_eq xs xs ≡ true
all_same [] = refl
all_same (x ∷ xs) = ap (λ b. b && all_eq xs xs) (bytes_same x) ∙ all_same xs

pub tokens_same : (t : Tokens) → same_tokens t t ≡ true
tokens_same t = ap (λ b. b && all_eq t.htlcs t.htlcs) (bytes_same t.commitment) ∙ all_same t.htlcs

-- the second that came in for the first channel
abbrev second_came : List (List Tokens) → Option Tokens
second_came [] = None
second_came (ts ∷ rest) = slice_get ts 1

module _ (bases theirs : BaseKeys) (seed : List ℕ) (own : IsSeedOf seed bases) where
  -- the peer offers an HTLC, and sends these tokens for the node's commitment 1
  abbrev sent : Tokens → List Entry
  sent ts =
      entry 3 (Open (first_opening bases theirs seed own (replicate 32 5)))
      ∷ entry 1 (Stepping 0 (Peer (Updated (Add (htlc 2000000 600)))))
      ∷ entry 1 (Stepping 0 (Peer (CommitmentSigned ts)))
      ∷ []

  abbrev before : State
  before = after (opened_state (first_terms bases theirs seed own (replicate 32 5)) A seed point_key (key 1)) (StepMessage (Updated (Add (htlc 2000000 600))))

  abbrev next : CommitmentState
  next = own_next before

  abbrev due : Tokens
  due = peer_tokens (first_terms bases theirs seed own (replicate 32 5)) next

  abbrev signed_book : Tokens → ChannelBook
  signed_book ts = record { state = after before (StepMessage (CommitmentSigned ts)); kept = []; closed = None }

  taken : all_accepted peer_tokens (sent due) ≡ true
  taken = rw (first_signed bases theirs seed own (replicate 32 5), tokens_same due) refl

  -- yes: IsCareful
  careful : AcceptedMeans → IsCareful (sent due) 0 (signed_book due)
  careful law = record {
    called = (law.accepted_exactly peer_tokens (sent due)).1 taken;
    there = refl;
    cares = (tt, (tt, (tt, tt)));
    due = tt;
    funding = record { txid = refl; index = lit< tt };
  }

  -- no: IsCareful
  other_bytes : PeersTokensCame → (ts : Tokens) → due ≢ ts → (ch : ChannelBook) → IsCareful (sent ts) 0 ch → ⊥
  other_bytes law ts other ch c = other (sym (same_Some ts due (ap second_came (law (sent ts) c.called))))

  -- ---- what is made of them

  -- yes: IsMadeOf
  made : IsMadeOf before next due
  made = made_of before next refl

  -- no: IsMadeOf
  made_of_fewer : (x : HtlcOutput) → htlcs_of (contents_of (first_terms bases theirs seed own (replicate 32 5)) next) ≡ x ∷ [] → (token : List ℕ) → IsMadeOf before next (record { commitment = token; htlcs = [] }) → ⊥
  made_of_fewer x one token m = let s = m.stages 0 x (ap (λ xs. slice_get xs 0) one) in none-some s.0 s.1

-- the bytes in the third slot
abbrev third : List Filling → List ℕ
third (a ∷ b ∷ Bytes token ∷ rest) = token
third fillings = []

module _ (c : Contents) (x : HtlcOutput) (place : Place) where
  -- yes: IsStageWith
  with_the_peers : IsStageWith c x (token_of c.keys.remote_htlc (htlc_digest c x))
  with_the_peers = record { signed = λ item. refl; slots = λ at. refl }

  -- no: IsStageWith
  with_another : (token : List ℕ) → token ≢ token_of c.keys.remote_htlc (htlc_digest c x) → IsStageWith c x token → ⊥
  with_another token other s = other (sym (ap third (s.slots place)))
