-- What goes out again: its parts, how many signatures and revocations they have, and that all of it went out before.
use Rattle.std.proofs.Common.{◌≡◌, ℕ, zero, suc, ◌+◌, ◌<◌, Bool, true, false, cond, List, [], ◌∷◌, ◌++◌, length, drop, map, sym, ap, ◌∙◌, refl, arith, append-nil}
use Rattle.updates.specs.declared.changes.Update.{Update}
use Rattle.updates.specs.Stages.{unacknowledged}
use Rattle.channel.specs.declared.commitments.CommitmentState.{CommitmentState}
use Rattle.channel.specs.declared.messages.Message.{Message}
use Rattle.updates.specs.declared.messages.PeerStep.TheVariants.{Update as Updated, CommitmentSigned}
use Rattle.channel.specs.declared.messages.Message.TheVariants.{Step, RevokeAndAck}
use Rattle.channel.specs.declared.reestablish.Reestablish.{Reestablish}
use Rattle.channel.specs.States.{Signing, State}
use Rattle.channel.specs.Reestablishing.{lacks_signature, lacks_revocation, update_message, signature_again, revocation_again, in_order, resends}
use Rattle.channel.proofs.Queues.{signatures_in, revocations_in, signatures_in-append, revocations_in-append}

-- the two parts

abbrev pub signature_part : Signing → State → Reestablish → List Message
signature_part tokens_of s r = cond (lacks_signature s r) (signature_again tokens_of s) []

abbrev pub revocation_part : State → Reestablish → List Message
revocation_part s r = cond (lacks_revocation s r) (revocation_again s) []

pub in_order-none : (revoked : Bool) (revocation : List Message) → in_order revoked [] revocation ≡ revocation
in_order-none true revocation = refl
in_order-none false revocation = append-nil revocation

pub in_order-alone : (revoked : Bool) (signature : List Message) → in_order revoked signature [] ≡ signature
in_order-alone true signature = append-nil signature
in_order-alone false signature = refl

-- where no signature is lacking, and where no revocation is
pub resends_revocation : (tokens_of : Signing) (s : State) (r : Reestablish) → lacks_signature s r ≡ false → resends tokens_of s r ≡ revocation_part s r
resends_revocation tokens_of s r e = ap (λ b. in_order s.revoked_last (cond b (signature_again tokens_of s) []) (revocation_part s r)) e ∙ in_order-none s.revoked_last (revocation_part s r)

pub resends_signature : (tokens_of : Signing) (s : State) (r : Reestablish) → lacks_revocation s r ≡ false → resends tokens_of s r ≡ signature_part tokens_of s r
resends_signature tokens_of s r e = ap (λ b. in_order s.revoked_last (signature_part tokens_of s r) (cond b (revocation_again s) [])) e ∙ in_order-alone s.revoked_last (signature_part tokens_of s r)

-- the signature first, where it went out first or no revocation is lacking; and the revocation first
pub signature_first : (tokens_of : Signing) (s : State) (r : Reestablish) → (lacks_revocation s r ≡ true → s.revoked_last ≡ true) → resends tokens_of s r ≡ signature_part tokens_of s r ++ revocation_part s r
signature_first tokens_of s r f = by s.revoked_last (lacks_revocation s r) f
  where
    by : (revoked lacks : Bool) → (lacks ≡ true → revoked ≡ true)
        → in_order revoked (signature_part tokens_of s r) (cond lacks (revocation_again s) []) ≡ signature_part tokens_of s r ++ cond lacks (revocation_again s) []
    by true lacks f = refl
    by false true f = let h : false ≡ true = f refl in absurd (cc)
    by false false f = sym (append-nil (signature_part tokens_of s r))

pub revocation_first : (tokens_of : Signing) (s : State) (r : Reestablish) → (lacks_signature s r ≡ true → s.revoked_last ≡ false) → resends tokens_of s r ≡ revocation_part s r ++ signature_part tokens_of s r
revocation_first tokens_of s r f = by s.revoked_last (lacks_signature s r) f
  where
    by : (revoked lacks : Bool) → (lacks ≡ true → revoked ≡ false)
        → in_order revoked (cond lacks (signature_again tokens_of s) []) (revocation_part s r) ≡ revocation_part s r ++ cond lacks (signature_again tokens_of s) []
    by false lacks f = refl
    by true true f = let h : true ≡ false = f refl in absurd (cc)
    by true false f = sym (append-nil (revocation_part s r))

-- one commitment that is signed and not acknowledged
pub last_one : (cs : List CommitmentState) (n : ℕ) → length cs ≡ n + 1 → (c : CommitmentState) × (drop n cs ≡ c ∷ [])
last_one [] n e = absurd (omega (arith, e))
last_one (c ∷ []) zero e = (c, refl)
last_one (c ∷ d ∷ cs) zero e = absurd (omega (arith, e))
last_one (c ∷ cs) (suc n) e = last_one cs n (omega (arith, e))

-- the numbers of signatures and revocations in each part

pub signatures_in-updates : (us : List Update) → signatures_in (map update_message us) ≡ 0
signatures_in-updates [] = refl
signatures_in-updates (u ∷ us) = let h = signatures_in-updates us in omega (arith, h)

pub revocations_in-updates : (us : List Update) → revocations_in (map update_message us) ≡ 0
revocations_in-updates [] = refl
revocations_in-updates (u ∷ us) = let h = revocations_in-updates us in omega (arith, h)

pub revocations_in-signatures : (tokens_of : Signing) (s : State) (cs : List CommitmentState) → revocations_in (map (λ c. Step (CommitmentSigned (tokens_of s.held.terms c))) cs) ≡ 0
revocations_in-signatures tokens_of s [] = refl
revocations_in-signatures tokens_of s (c ∷ cs) = let h = revocations_in-signatures tokens_of s cs in omega (arith, h)

pub revocations_in-signature : (tokens_of : Signing) (s : State) (r : Reestablish) → revocations_in (signature_part tokens_of s r) ≡ 0
revocations_in-signature tokens_of s r = by (lacks_signature s r)
  where
    by : (b : Bool) → revocations_in (cond b (signature_again tokens_of s) []) ≡ 0
    by false = refl
    by true =
        let us = map update_message (unacknowledged s.held.own) in
        let cs = map (λ c. Step (CommitmentSigned (tokens_of s.held.terms c))) (drop (s.peer_number + 1) s.signed) in
        let a = revocations_in-append us cs in
        let b = revocations_in-updates (unacknowledged s.held.own) in
        let c = revocations_in-signatures tokens_of s (drop (s.peer_number + 1) s.signed) in
        omega (arith, a, b, c)

pub signatures_in-revocation : (s : State) (r : Reestablish) → signatures_in (revocation_part s r) ≡ 0
signatures_in-revocation s r = by (lacks_revocation s r)
  where
    by : (b : Bool) → signatures_in (cond b (revocation_again s) []) ≡ 0
    by false = refl
    by true = refl

-- a queue in which a signature and a revocation stand as the flag says
abbrev pub Ordered : Bool → List Message → Type 0
Ordered revoked [] = Unit {0}
Ordered revoked (Step (Updated u) ∷ queue) = Ordered revoked queue
Ordered revoked (Step (CommitmentSigned tokens) ∷ queue) = (0 < revocations_in queue → revoked ≡ true) × Ordered revoked queue
Ordered revoked (RevokeAndAck revocation ∷ queue) = (0 < signatures_in queue → revoked ≡ false) × Ordered revoked queue

pub ordered_update : (revoked : Bool) (queue : List Message) (u : Update) → Ordered revoked queue → Ordered revoked (queue ++ Step (Updated u) ∷ [])
ordered_update revoked [] u o = tt
ordered_update revoked (Step (Updated v) ∷ queue) u o = ordered_update revoked queue u o
ordered_update revoked (Step (CommitmentSigned tokens) ∷ queue) u o =
    let h = revocations_in-append queue (Step (Updated u) ∷ []) in
    ((λ l. o.0 (omega (arith, l, h))), ordered_update revoked queue u o.1)
ordered_update revoked (RevokeAndAck revocation ∷ queue) u o =
    let h = signatures_in-append queue (Step (Updated u) ∷ []) in
    ((λ l. o.0 (omega (arith, l, h))), ordered_update revoked queue u o.1)

-- a signature behind the others, where there is none yet, and a revocation
pub ordered_signature : (queue more : List Message) → signatures_in queue ≡ 0 → revocations_in more ≡ 0 → Ordered false (queue ++ more)
ordered_signature [] more e f = ordered_alone more f
  where
    ordered_alone : (more : List Message) → revocations_in more ≡ 0 → Ordered false more
    ordered_alone [] f = tt
    ordered_alone (Step (Updated u) ∷ more) f = ordered_alone more (omega (arith, f))
    ordered_alone (Step (CommitmentSigned tokens) ∷ more) f = ((λ l. absurd (omega (arith, l, f))), ordered_alone more (omega (arith, f)))
    ordered_alone (RevokeAndAck revocation ∷ more) f = absurd (omega (arith, f))
ordered_signature (Step (Updated u) ∷ queue) more e f = ordered_signature queue more (omega (arith, e)) f
ordered_signature (Step (CommitmentSigned tokens) ∷ queue) more e f = absurd (omega (arith, e))
ordered_signature (RevokeAndAck revocation ∷ queue) more e f = ((λ l. refl), ordered_signature queue more (omega (arith, e)) f)

pub ordered_revocation : (queue more : List Message) → revocations_in queue ≡ 0 → signatures_in more ≡ 0 → Ordered true (queue ++ more)
ordered_revocation [] more e f = ordered_alone more f
  where
    ordered_alone : (more : List Message) → signatures_in more ≡ 0 → Ordered true more
    ordered_alone [] f = tt
    ordered_alone (Step (Updated u) ∷ more) f = ordered_alone more (omega (arith, f))
    ordered_alone (Step (CommitmentSigned tokens) ∷ more) f = absurd (omega (arith, f))
    ordered_alone (RevokeAndAck revocation ∷ more) f = ((λ l. absurd (omega (arith, l, f))), ordered_alone more (omega (arith, f)))
ordered_revocation (Step (Updated u) ∷ queue) more e f = ordered_revocation queue more (omega (arith, e)) f
ordered_revocation (Step (CommitmentSigned tokens) ∷ queue) more e f = ((λ l. refl), ordered_revocation queue more (omega (arith, e)) f)
ordered_revocation (RevokeAndAck revocation ∷ queue) more e f = absurd (omega (arith, e))

pub ordered_resends : (tokens_of : Signing) (s : State) (r : Reestablish) → Ordered s.revoked_last (resends tokens_of s r)
ordered_resends tokens_of s r = by s.revoked_last
  where
    by : (revoked : Bool) → Ordered revoked (in_order revoked (signature_part tokens_of s r) (revocation_part s r))
    by true = ordered_revocation (signature_part tokens_of s r) (revocation_part s r) (revocations_in-signature tokens_of s r) (signatures_in-revocation s r)
    by false = ordered_signature (revocation_part s r) (signature_part tokens_of s r) (signatures_in-revocation s r) (revocations_in-signature tokens_of s r)
