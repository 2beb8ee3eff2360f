-- How a peer's state, once all messages on their way to it came, agrees with its sender's state.
use Rattle.std.proofs.Common.{◌≡◌, ◌<◌, suc, ℕ, ◌+◌, Bool, true, false, not, ◌&&◌, leb, List, [], ◌∷◌, ◌++◌, sym, ap, ◌∙◌, refl, arith, None}
use Rattle.std.proofs.lemmas.Bool.{or_parts}
use Rattle.std.specs.Str.{bytes_eq}
use Rattle.std.proofs.lemmas.Slice.Eq.{bytes_eq-Decides}
use Rattle.updates.specs.declared.changes.Update.{Update}
use Rattle.keys.specs.declared.compressed.Key.{Key}
use Rattle.keys.specs.Derivation.{point_of}
use Rattle.terms.specs.declared.agreement.Terms.{Terms}
use Rattle.terms.specs.Sides.{other}
use Rattle.updates.specs.Views.{view_by}
use Rattle.updates.specs.Refusals.{first_refusal, covers_nothing}
use Rattle.channel.specs.declared.commitments.CommitmentState.{CommitmentState}
use Rattle.channel.specs.declared.limits.TheConstants.{LAST_NUMBER}
use Rattle.updates.specs.declared.messages.Tokens.{Tokens}
use Rattle.updates.specs.declared.messages.PeerStep.TheVariants.{Update as Updated, CommitmentSigned}
use Rattle.channel.specs.declared.messages.Message.TheVariants.{Step, RevokeAndAck}
use Rattle.channel.specs.Points.{secret_at, point_at, is_foreign}
use Rattle.channel.specs.States.{Signing, State, sign_refusal, sign_tests, receive_refusal, receive_tests, all_eq, same_tokens, next_commitment, peers_next, own_next, after_sign, after, signature_message}
use Rattle.channel.proofs.Secrets.{secrets_below, takes_own}
use Rattle.updates.proofs.Accepting.{AllPass, all_pass, none_refuses, update_accepted}
use Rattle.channel.proofs.Queues.{made, with_signature}
use Rattle.updates.specs.Steady.{IsBeginning, own_tests}

abbrev pub bit : Bool → ℕ
bit true = 1
bit false = 0

-- `a` is the sender, `t` the peer once all came that `a` sent
pub record Meets (a t : State) : Type 0 where
  pub terms : t.held.terms ≡ a.held.terms
  pub side : other t.held.side ≡ a.held.side
  pub known : t.held.theirs.known ≡ a.held.own.known
  pub receiver : t.held.theirs.with_receiver ≡ a.held.own.with_receiver
  pub past : t.held.own.past_receiver ≡ a.held.theirs.past_receiver
  pub settled : t.held.theirs.settled ≡ a.held.own.settled
  pub sender : t.held.own.with_sender ≡ a.held.theirs.with_sender
  pub mine : t.mine ≡ a.signed
  pub number : t.number ≡ a.peer_number + bit a.awaiting
  pub peer_number : t.peer_number ≡ a.number
  pub point : t.point ≡ point_at a.seed a.number
  pub next_point : t.next_point ≡ point_at a.seed (a.number + 1)
  pub secrets : t.secrets ≡ secrets_below a.seed a.number

-- the sender makes an update, and its message comes
pub meets_made : (a t : State) (u : Update) (ids : List ℕ) → Meets a t → Meets (made u ids a) (after t (Step (Updated u)))
meets_made a t u ids m = record {
  terms = m.terms;
  side = m.side;
  known = ap (λ l. l ++ u ∷ []) m.known;
  receiver = m.receiver;
  past = m.past;
  settled = m.settled;
  sender = m.sender;
  number = m.number;
  peer_number = m.peer_number;
  point = m.point;
  next_point = m.next_point;
  secrets = m.secrets;
  mine = m.mine;
}

-- the peer, too, made one meanwhile
pub meets_made_back : (a t : State) (u : Update) (ids : List ℕ) → Meets a t → Meets a (made u ids t)
meets_made_back a t u ids m = record {
  terms = m.terms;
  side = m.side;
  known = m.known;
  receiver = m.receiver;
  past = m.past;
  settled = m.settled;
  sender = m.sender;
  number = m.number;
  peer_number = m.peer_number;
  point = m.point;
  next_point = m.next_point;
  secrets = m.secrets;
  mine = m.mine;
}

-- the commitments that the two build are the same
pub one_commitment : (a t : State) → Meets a t → a.awaiting ≡ false → a.next_point ≡ point_at t.seed (t.number + 1) → own_next t ≡ peers_next a
one_commitment a t m e point =
    let n : t.number + 1 ≡ a.peer_number + 1 = let h = m.number in let g : bit a.awaiting ≡ 0 = ap bit e in omega (arith, h, g) in
    ap (λ (terms : Terms). next_commitment terms (other t.held.side) t.held.theirs t.held.own (t.number + 1) (point_at t.seed (t.number + 1))) m.terms
    ∙ ap (λ s. next_commitment a.held.terms s t.held.theirs t.held.own (t.number + 1) (point_at t.seed (t.number + 1))) m.side
    ∙ ap (λ p. next_commitment a.held.terms a.held.side t.held.theirs t.held.own (t.number + 1) p) (sym point)
    ∙ ap (λ k. next_commitment a.held.terms a.held.side t.held.theirs t.held.own k a.next_point) n
    ∙ ap (λ v. record { view = v; owner = other a.held.side; number = a.peer_number + 1; point = a.next_point })
    (ap (λ l. view_by a.held.terms a.held.side l t.held.own.past_receiver) m.known ∙ ap (view_by a.held.terms a.held.side a.held.own.known) m.past)

-- the sender signs, and its signature comes
pub meets_signed : (a t : State) (tokens : Tokens) → Meets a t → a.awaiting ≡ false → own_next t ≡ peers_next a → Meets (after_sign a) (after t (Step (CommitmentSigned tokens)))
meets_signed a t tokens m e c = record {
  terms = m.terms;
  side = m.side;
  known = m.known;
  receiver = m.known;
  past = m.past;
  settled = m.settled;
  sender = m.past;
  number = (let h = m.number in let g : bit a.awaiting ≡ 0 = ap bit e in omega (arith, h, g));
  peer_number = m.peer_number;
  point = m.point;
  next_point = m.next_point;
  secrets = m.secrets;
  mine = ap (λ l. l ++ own_next t ∷ []) m.mine ∙ ap (λ d. a.signed ++ d ∷ []) c;
}

pub meets_signed_back : (a t : State) (known past : List Update) (cs : List CommitmentState) (revoked : Bool) → Meets a t → Meets a (with_signature known past cs revoked t)
meets_signed_back a t known past cs revoked m = record {
  terms = m.terms;
  side = m.side;
  known = m.known;
  receiver = m.receiver;
  past = m.past;
  settled = m.settled;
  sender = m.sender;
  number = m.number;
  peer_number = m.peer_number;
  point = m.point;
  next_point = m.next_point;
  secrets = m.secrets;
  mine = m.mine;
}

-- the sender receives an update
pub meets_receives_made : (a t : State) (u : Update) → Meets a t → Meets (after a (Step (Updated u))) t
meets_receives_made a t u m = record {
  terms = m.terms;
  side = m.side;
  known = m.known;
  receiver = m.receiver;
  past = m.past;
  settled = m.settled;
  sender = m.sender;
  number = m.number;
  peer_number = m.peer_number;
  point = m.point;
  next_point = m.next_point;
  secrets = m.secrets;
  mine = m.mine;
}

-- the sender receives a signature, and its revocation comes
pub meets_receives_signed : (a t : State) (tokens : Tokens) → Meets a t → t.held.own.with_receiver ≡ a.held.theirs.known → t.held.theirs.with_sender ≡ a.held.own.past_receiver → Meets (after a (Step (CommitmentSigned tokens))) (after t (RevokeAndAck (record { secret = secret_at a.seed a.number; next_point = point_at a.seed (a.number + 2) })))
meets_receives_signed a t tokens m signed covered = record {
  terms = m.terms;
  side = m.side;
  known = m.known;
  receiver = m.receiver;
  past = signed;
  settled = covered;
  sender = m.sender;
  number = m.number;
  peer_number = (let h = m.peer_number in omega (arith, h));
  point = m.next_point;
  next_point = (let e : a.number + 2 ≡ a.number + 1 + 1 = omega arith in ap (λ n. point_at a.seed n) e);
  secrets = (let e : suc a.number ≡ a.number + 1 = omega arith in ap (λ l. l ++ secret_at a.seed a.number ∷ []) m.secrets ∙ ap (secrets_below a.seed) e);
  mine = m.mine;
}

-- the sender receives a revocation
pub meets_receives_revocation : (a t : State) (secret : List ℕ) (next_point : Key) → Meets a t → a.awaiting ≡ true → Meets (after a (RevokeAndAck (record { secret = secret; next_point = next_point }))) t
meets_receives_revocation a t secret next_point m e = record {
  terms = m.terms;
  side = m.side;
  known = m.known;
  receiver = m.receiver;
  past = m.past;
  settled = m.settled;
  sender = m.sender;
  number = (let h = m.number in let g : bit a.awaiting ≡ 1 = ap bit e in omega (arith, h, g));
  peer_number = m.peer_number;
  point = m.point;
  next_point = m.next_point;
  secrets = m.secrets;
  mine = m.mine;
}

-- what the sender sends isn't refused

pub takes_made : (tokens_of : Signing) (a t : State) (u : Update) → Meets a t → IsBeginning a.held.theirs.known t.held.own.known → IsBeginning a.held.theirs.settled t.held.own.settled → first_refusal (own_tests a.held u) ≡ None → receive_refusal tokens_of t (Step (Updated u)) ≡ None
takes_made tokens_of a t u m known settled e =
    rw (m.terms, m.side)
    (update_accepted a.held.terms a.held.side a.held.own a.held.theirs t.held.theirs t.held.own u
    (record { known = m.known; settled = m.settled; others_known = known; others_settled = settled }) e)

bytes_same : (xs : List ℕ) → bytes_eq xs xs ≡ true
bytes_same xs = (bytes_eq-Decides xs xs).1 refl

all_same : (xs : List (List ℕ)) → all_eq xs xs ≡ true
all_same [] = refl
all_same (x ∷ xs) = ap (λ b. b && all_eq xs xs) (bytes_same x) ∙ all_same xs

tokens_same : (t : Tokens) → same_tokens t t ≡ true
tokens_same t = ap (λ b. b && all_eq t.htlcs t.htlcs) (bytes_same t.commitment) ∙ all_same t.htlcs

pub takes_signed : (tokens_of : Signing) (a t : State) → Meets a t → own_next t ≡ peers_next a → sign_refusal a ≡ None → receive_refusal tokens_of t (signature_message tokens_of a) ≡ None
takes_signed tokens_of a t m c e =
    let (t1, t2) = signs_when a (all_pass (sign_tests a) e) in
    let n : t.number ≡ a.peer_number = let h = m.number in let g : bit a.awaiting ≡ 0 = ap bit t1.0 in omega (arith, h, g) in
    let first : leb LAST_NUMBER t.number ≡ false = ap (leb LAST_NUMBER) n ∙ t1.1 in
    let news : covers_nothing t.held.theirs t.held.own ≡ false = rw (m.known, m.receiver, m.past, m.sender) t2 in
    let mine = tokens_of a.held.terms (peers_next a) in
    let one : tokens_of t.held.terms (own_next t) ≡ mine = ap (λ terms. tokens_of terms (own_next t)) m.terms ∙ ap (tokens_of a.held.terms) c in
    let same : not (same_tokens mine (tokens_of t.held.terms (own_next t))) ≡ false = ap (λ d. not (same_tokens mine d)) one ∙ ap not (tokens_same mine) in
    none_refuses (receive_tests tokens_of t (Step (CommitmentSigned mine))) (first, (news, (same, tt)))
  where
    signs_when : (a : State) → AllPass (sign_tests a) → ((a.awaiting ≡ false) × (leb LAST_NUMBER a.peer_number ≡ false)) × (covers_nothing a.held.own a.held.theirs ≡ false)
    signs_when a (t1, (t2, t3)) = (or_parts a.awaiting (leb LAST_NUMBER a.peer_number) t1, t2)

pub takes_revocation : (tokens_of : Signing) (a t : State) (next_point : Key) → Meets a t → a.number < LAST_NUMBER → t.awaiting ≡ true → receive_refusal tokens_of t (RevokeAndAck (record { secret = secret_at a.seed a.number; next_point = next_point })) ≡ None
takes_revocation tokens_of a t next_point m l e =
    let secret = secret_at a.seed a.number in
    let kept : is_foreign t.secrets secret ≡ false = ap (λ s. is_foreign s secret) m.secrets ∙ takes_own a.seed a.number in
    let same : not (bytes_eq (point_of secret) t.point.bytes) ≡ false = ap (λ p. not (bytes_eq (point_of secret) p.bytes)) m.point ∙ ap not (bytes_same (point_of secret)) in
    none_refuses (receive_tests tokens_of t (RevokeAndAck (record { secret = secret; next_point = next_point }))) (ap not e, (same, (kept, tt)))
