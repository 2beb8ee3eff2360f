-- No hello of an honest peer is refused, and it tells nobody to be behind who is not.
use Rattle.std.proofs.Common.{◌≡◌, ℕ, zero, suc, ◌+◌, ◌-◌, ◌<◌, ◌≤◌, Bool, true, false, not, cond, leb, ltb, List, [], ◌∷◌, ◌++◌, length, take, sym, ap, ◌∙◌, subst, refl, arith, None, append-nil, append_assoc, length-append, inl, inr}
use Rattle.std.specs.Prelude.{◌⊎◌, unwrap_or, slice_get}
use Rattle.std.specs.Str.{bytes_eq}
use Rattle.std.proofs.lemmas.Bool.{le-ltb, lt-leb, leb-false, cases_lt}
use Rattle.std.proofs.lemmas.List.{take-append-le}
use Rattle.std.proofs.lemmas.Option.{unwrap_or-slice_get}
use Rattle.std.proofs.lemmas.Slice.Eq.{bytes_eq-Decides}
use Rattle.std.proofs.Math.Seq.{take-length, take-append_seam, get_or-append_seam}
use Rattle.updates.specs.Refusals.{first_refusal}
use Rattle.updates.proofs.Accepting.{AllPass, all_pass, none_refuses}
use Rattle.channel.specs.declared.limits.TheConstants.{LAST_NUMBER}
use Rattle.channel.specs.declared.messages.Message.{Message}
use Rattle.updates.specs.declared.messages.PeerStep.TheVariants.{Update as Updated, CommitmentSigned}
use Rattle.channel.specs.declared.messages.Message.TheVariants.{Step, RevokeAndAck}
use Rattle.channel.specs.declared.reestablish.Reestablish.{Reestablish}
use Rattle.channel.specs.Points.{secret_at}
use Rattle.channel.specs.States.{Signing, State, receive_tests, receive_refusal, after}
use Rattle.channel.specs.Peers.{IsLived, starts, updated_once, signed_once, received_once, forgot_once}
use Rattle.channel.specs.Reestablishing.{hello, no_secret, last_signed, secret_before, is_behind, number_tests, hello_refusal}
use Rattle.channel.proofs.Secrets.{secrets_below, below-length}
use Rattle.channel.proofs.Queues.{drained, signatures_in, revocations_in}
use Rattle.channel.proofs.Meeting.{bit, Meets}

-- what a queue adds to the numbers and to the secrets

pub drained_number : (queue : List Message) (s : State) → (drained queue s).number ≡ s.number + signatures_in queue
drained_number [] s = omega arith
drained_number (Step (Updated u) ∷ queue) s = let h = drained_number queue (after s (Step (Updated u))) in omega (arith, h)
drained_number (Step (CommitmentSigned tokens) ∷ queue) s = let h = drained_number queue (after s (Step (CommitmentSigned tokens))) in omega (arith, h)
drained_number (RevokeAndAck revocation ∷ queue) s = let h = drained_number queue (after s (RevokeAndAck revocation)) in omega (arith, h)

pub drained_peer_number : (queue : List Message) (s : State) → (drained queue s).peer_number ≡ s.peer_number + revocations_in queue
drained_peer_number [] s = omega arith
drained_peer_number (Step (Updated u) ∷ queue) s = let h = drained_peer_number queue (after s (Step (Updated u))) in omega (arith, h)
drained_peer_number (Step (CommitmentSigned tokens) ∷ queue) s = let h = drained_peer_number queue (after s (Step (CommitmentSigned tokens))) in omega (arith, h)
drained_peer_number (RevokeAndAck revocation ∷ queue) s = let h = drained_peer_number queue (after s (RevokeAndAck revocation)) in omega (arith, h)

pub secrets_grow : (queue : List Message) (s : State) → (more : List (List ℕ)) × (s.secrets ++ more ≡ (drained queue s).secrets)
secrets_grow [] s = ([], append-nil s.secrets)
secrets_grow (Step (Updated u) ∷ queue) s = secrets_grow queue (after s (Step (Updated u)))
secrets_grow (Step (CommitmentSigned tokens) ∷ queue) s = secrets_grow queue (after s (Step (CommitmentSigned tokens)))
secrets_grow (RevokeAndAck revocation ∷ queue) s =
    let h = secrets_grow queue (after s (RevokeAndAck revocation)) in
    (revocation.secret ∷ h.0, sym (append_assoc s.secrets (revocation.secret ∷ []) h.0) ∙ h.1)

-- the secrets of a seed, as many as there are

take_below : (seed : List ℕ) (n k : ℕ) → k ≤ n → take k (secrets_below seed n) ≡ secrets_below seed k
take_below seed zero k l = let e : k ≡ 0 = omega (arith, l) in subst (λ m. take m [] ≡ secrets_below seed m) (sym e) refl
take_below seed (suc n) k l = by (take_below seed n k) (cases_lt k (suc n))
  where
    by : (k ≤ n → take k (secrets_below seed n) ≡ secrets_below seed k) → (k < suc n) ⊎ (suc n ≤ k) → take k (secrets_below seed (suc n)) ≡ secrets_below seed k
    by later (inl small) =
        let h = below-length seed n in
        take-append-le k (secrets_below seed n) (secret_at seed n ∷ []) (omega (arith, small, h)) ∙ later (omega (arith, small))
    by later (inr large) =
        let e : k ≡ suc n = omega (arith, l, large) in
        let whole = take-length (secrets_below seed (suc n)) in
        let count = below-length seed (suc n) in
        subst (λ m. take m (secrets_below seed (suc n)) ≡ secrets_below seed m) (sym e) (subst (λ m. take m (secrets_below seed (suc n)) ≡ secrets_below seed (suc n)) count whole)

pub below_start : (seed : List ℕ) (n : ℕ) (xs more : List (List ℕ)) → xs ++ more ≡ secrets_below seed n → xs ≡ secrets_below seed (length xs)
below_start seed n xs more e =
    let f = ap length e in
    let g = length-append xs more in
    let h = below-length seed n in
    sym (take-append_seam xs more) ∙ ap (take (length xs)) e ∙ take_below seed n (length xs) (omega (arith, f, g, h))

last_below : (seed : List ℕ) (k : ℕ) → unwrap_or (slice_get (secrets_below seed k) (length (secrets_below seed k) - 1)) no_secret ≡ secret_before seed k
last_below seed zero = refl
last_below seed (suc n) =
    let xs = secrets_below seed n in
    let whole = secrets_below seed (suc n) in
    let at : length whole - 1 ≡ length xs = let h = length-append xs (secret_at seed n ∷ []) in omega (arith, h) in
    ap (λ i. unwrap_or (slice_get whole i) no_secret) at ∙ unwrap_or-slice_get whole (length xs) no_secret ∙ get_or-append_seam xs (secret_at seed n) [] no_secret

-- what holds of one side, whatever its peer sends

pub record IsCounted (s : State) : Type 0 where
  pub secrets : length s.secrets ≡ s.peer_number
  pub last : s.number ≤ LAST_NUMBER

counted_after : (tokens_of : Signing) (s : State) (m : Message) → receive_refusal tokens_of s m ≡ None → IsCounted s → IsCounted (after s m)
counted_after tokens_of s (Step (Updated u)) e k = record { secrets = k.secrets; last = k.last }
counted_after tokens_of s (Step (CommitmentSigned tokens)) e k =
    let below = below_last (all_pass (receive_tests tokens_of s (Step (CommitmentSigned tokens))) e) in
    record { secrets = k.secrets; last = omega (arith, below) }
  where
    below_last : AllPass (receive_tests tokens_of s (Step (CommitmentSigned tokens))) → s.number < LAST_NUMBER
    below_last (t1, t2) = leb-false LAST_NUMBER s.number t1
counted_after tokens_of s (RevokeAndAck revocation) e k =
    let h = length-append s.secrets (revocation.secret ∷ []) in
    let g = k.secrets in
    record { secrets = omega (arith, h, g); last = k.last }

pub counted : (tokens_of : Signing) (s : State) → IsLived tokens_of s → IsCounted s
counted tokens_of s (starts terms side seed point next_point) = record { secrets = refl; last = omega arith }
counted tokens_of s (updated_once {s = r} u e l) = let h = counted tokens_of r l in record { secrets = h.secrets; last = h.last }
counted tokens_of s (signed_once {s = r} e l) = let h = counted tokens_of r l in record { secrets = h.secrets; last = h.last }
counted tokens_of s (received_once {s = r} m e l) = counted_after tokens_of r m e (counted tokens_of r l)
counted tokens_of s (forgot_once {s = r} l) = let h = counted tokens_of r l in record { secrets = h.secrets; last = h.last }

-- the secret that a peer shows is the one before the revocation that it expects
pub shows_secret : (a b : State) (to_b : List Message) → Meets a (drained to_b b) → IsCounted b → (hello b).last_secret ≡ secret_before a.seed b.peer_number
shows_secret a b to_b m k =
    let g = secrets_grow to_b b in
    let e = below_start a.seed a.number b.secrets g.0 (g.1 ∙ m.secrets) in
    ap (λ l. unwrap_or (slice_get l (length l - 1)) no_secret) e
    ∙ last_below a.seed (length b.secrets)
    ∙ ap (secret_before a.seed) k.secrets

-- the numbers of the two, with what is on its way
pub record AreNear (a b : State) : Type 0 where
  pub revoked : b.peer_number ≤ a.number  -- the peer has no secret of the newest commitment
  pub near : a.number ≤ b.peer_number + 1
  pub signed : a.peer_number ≤ b.number
  pub given : b.number ≤ a.peer_number + bit a.awaiting

pub near : (a b : State) (to_a to_b : List Message) → Meets a (drained to_b b) → signatures_in to_b + revocations_in to_a ≡ bit a.awaiting → signatures_in to_a + revocations_in to_b ≡ bit b.awaiting → AreNear a b
near a b to_a to_b m one other =
    let n = drained_number to_b b in
    let p = drained_peer_number to_b b in
    let number = m.number in
    let peer_number = m.peer_number in
    let small = at_most_one b.awaiting in
    record {
      revoked = omega (arith, p, peer_number);
      near = omega (arith, p, peer_number, other, small);
      signed = omega (arith, n, number, one);
      given = omega (arith, n, number);
    }
  where
    at_most_one : (t : Bool) → bit t ≤ 1
    at_most_one true = omega arith
    at_most_one false = omega arith

signed_is : (s : State) (t : Bool) → cond t (s.peer_number + 1) s.peer_number ≡ s.peer_number + bit t
signed_is s true = refl
signed_is s false = omega arith

same_bytes : (xs ys : List ℕ) → xs ≡ ys → not (bytes_eq xs ys) ≡ false
same_bytes xs ys e = ap not ((bytes_eq-Decides xs ys).1 e)

-- the first two tests of a hello
pub knows : (old : State) (r : Reestablish) (n : ℕ) → r.next_revocation ≡ n → n ≤ LAST_NUMBER + 1 → r.last_secret ≡ secret_before old.seed n
    → (ltb (LAST_NUMBER + 1) r.next_revocation ≡ false) × (not (bytes_eq r.last_secret (secret_before old.seed r.next_revocation)) ≡ false)
knows old r n e l k =
    (le-ltb (LAST_NUMBER + 1) r.next_revocation (omega (arith, e, l)), same_bytes r.last_secret (secret_before old.seed r.next_revocation) (k ∙ ap (secret_before old.seed) (sym e)))

-- where the numbers are near, the hello is taken
pub takes_hello : (a b : State) → AreNear a b → IsCounted a → (hello b).last_secret ≡ secret_before a.seed b.peer_number → (hello_refusal a (hello b) ≡ None) × (is_behind a (hello b) ≡ false)
takes_hello a b n k e =
    let revoked = n.revoked in
    let last = k.last in
    let first = knows a (hello b) b.peer_number refl (omega (arith, revoked, last)) e in
    let up : is_behind a (hello b) ≡ false = le-ltb a.number b.peer_number revoked in
    let near = n.near in
    let signed = n.signed in
    let given = n.given in
    let is = signed_is a a.awaiting in
    let t1 : ltb (b.peer_number + 1) a.number ≡ false = le-ltb (b.peer_number + 1) a.number near in
    let t2 : leb (b.number + 1) a.peer_number ≡ false = lt-leb (b.number + 1) a.peer_number (omega (arith, signed)) in
    let t3 : ltb (last_signed a + 1) (b.number + 1) ≡ false = le-ltb (last_signed a + 1) (b.number + 1) (omega (arith, given, is)) in
    let rest : first_refusal (number_tests a (hello b)) ≡ None = none_refuses (number_tests a (hello b)) (t1, (t2, (t3, tt))) in
    (all_three a (hello b) first up rest, up)
  where
    all_three : (a : State) (r : Reestablish) → (ltb (LAST_NUMBER + 1) r.next_revocation ≡ false) × (not (bytes_eq r.last_secret (secret_before a.seed r.next_revocation)) ≡ false)
        → is_behind a r ≡ false → first_refusal (number_tests a r) ≡ None → hello_refusal a r ≡ None
    all_three a r first up rest = rw (first.0, first.1, up) rest
