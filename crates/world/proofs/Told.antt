-- A side knows no secret of its peer's commitments but those that the peer sent, one for each commitment that it replaced.
use Rattle.std.proofs.Common.{◌≡◌, ℕ, suc, ◌+◌, ◌≤◌, List, [], ◌∷◌, ◌++◌, length, refl, sym, ◌∙◌, subst, arith, zero-add, add-zero, length-append}
use Rattle.terms.specs.declared.sides.Side.{Side}
use Rattle.terms.specs.declared.sides.Side.TheVariants.{A, B}
use Rattle.terms.specs.declared.agreement.Terms.{Terms}
use Rattle.channel.specs.declared.messages.Message.{Message}
use Rattle.updates.specs.declared.messages.PeerStep.TheVariants.{Update as Updated, CommitmentSigned}
use Rattle.channel.specs.declared.messages.Message.TheVariants.{Step as StepMessage, RevokeAndAck}
use Rattle.channel.specs.States.{Signing, State, after, answers}
use Rattle.channel.specs.Peers.{World as Pair, Acts, updates, signs, receives, Steps, by_a, by_b, IsReached, at_opening, then}
use Rattle.channel.specs.Playing.{placed}
use Rattle.channel.specs.Agreeing.{IsPaired}

-- the number of secrets in messages
abbrev pub reveals : List Message → ℕ
reveals [] = 0
reveals (StepMessage (Updated u) ∷ ms) = reveals ms
reveals (StepMessage (CommitmentSigned tokens) ∷ ms) = reveals ms
reveals (RevokeAndAck revocation ∷ ms) = suc (reveals ms)

reveals-append : (ms ns : List Message) → reveals (ms ++ ns) ≡ reveals ms + reveals ns
reveals-append [] ns = sym (zero-add (reveals ns))
reveals-append (StepMessage (Updated u) ∷ ms) ns = reveals-append ms ns
reveals-append (StepMessage (CommitmentSigned tokens) ∷ ms) ns = reveals-append ms ns
reveals-append (RevokeAndAck revocation ∷ ms) ns = let more = reveals-append ms ns in omega arith

-- a step of one side: it sends a secret for each commitment that it replaces, and takes each secret from its queue
record Tells (me new : State) (queue sent rest : List Message) : Type 0 where
  number : new.number ≡ me.number + reveals sent
  secrets : length new.secrets + reveals rest ≡ length me.secrets + reveals queue

receipt_tells : (me : State) (m : Message) (rest : List Message) → Tells me (after me m) (m ∷ rest) (answers me m) rest
receipt_tells me (StepMessage (Updated u)) rest = record { number = sym (add-zero me.number); secrets = refl }
receipt_tells me (StepMessage (CommitmentSigned tokens)) rest = record { number = refl; secrets = refl }
receipt_tells me (RevokeAndAck revocation) rest = record { number = sym (add-zero me.number); secrets = omega (arith, length-append me.secrets (revocation.secret ∷ [])) }

act_tells : (tokens_of : Signing) (me new : State) (queue sent rest : List Message) → Acts tokens_of me queue new sent rest → Tells me new queue sent rest
act_tells tokens_of me new queue sent rest (updates u none) = record { number = sym (add-zero me.number); secrets = refl }
act_tells tokens_of me new queue sent rest (signs none) = record { number = sym (add-zero me.number); secrets = refl }
act_tells tokens_of me new queue sent rest (receives m left is none) = subst (λ q. Tells me (after me m) q (answers me m) left) (sym is) (receipt_tells me m left)

-- each side replaced as many commitments as it gave secrets, known to the other side or on their way
record HaveTold (w : Pair) : Type 0 where
  a_told : w.a.number ≡ length w.b.secrets + reveals w.to_b
  b_told : w.b.number ≡ length w.a.secrets + reveals w.to_a

told_step : (tokens_of : Signing) (w v : Pair) → Steps tokens_of w v → HaveTold w → HaveTold v
told_step tokens_of w v (by_a {me = me} {sent = sent} {rest = rest} acts) h =
    let t = act_tells tokens_of w.a me w.to_a sent rest acts in
    record { a_told = omega (arith, t.number, h.a_told, reveals-append w.to_b sent); b_told = h.b_told ∙ sym t.secrets }
told_step tokens_of w v (by_b {me = me} {sent = sent} {rest = rest} acts) h =
    let t = act_tells tokens_of w.b me w.to_b sent rest acts in
    record { a_told = h.a_told ∙ sym t.secrets; b_told = omega (arith, t.number, h.b_told, reveals-append w.to_a sent) }

told_both : (tokens_of : Signing) (terms : Terms) (seed_a seed_b : List ℕ) (w : Pair) → IsReached tokens_of terms seed_a seed_b w → HaveTold w
told_both tokens_of terms seed_a seed_b w at_opening = record { a_told = refl; b_told = refl }
told_both tokens_of terms seed_a seed_b w (then {w = v} r s) = told_step tokens_of v w s (told_both tokens_of terms seed_a seed_b v r)

-- so a side's peer has no secret of its newest commitment
pub told_below : {tokens_of : Signing} (side : Side) (me peer : State) (to_me to_peer : List Message) → IsPaired tokens_of (placed side me peer to_me to_peer) → length peer.secrets ≤ me.number
told_below {tokens_of} A me peer to_me to_peer paired =
    let t : me.number ≡ length peer.secrets + reveals to_peer = (told_both tokens_of paired.terms paired.seed_a paired.seed_b (placed A me peer to_me to_peer) paired.reached).a_told in
    omega (arith, t)
told_below {tokens_of} B me peer to_me to_peer paired =
    let t : me.number ≡ length peer.secrets + reveals to_peer = (told_both tokens_of paired.terms paired.seed_a paired.seed_b (placed B me peer to_me to_peer) paired.reached).b_told in
    omega (arith, t)
