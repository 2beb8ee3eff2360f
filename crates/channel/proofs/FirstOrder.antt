-- What goes out again stands in the order in which it first went out.
use Rattle.std.proofs.Common.{◌≡◌, ℕ, ◌+◌, ◌-◌, ◌<◌, Bool, true, false, cond, eqb, List, [], ◌∷◌, ◌++◌, length, drop, map, sym, ap, ◌∙◌, subst, refl, arith, append_assoc}
use Rattle.std.specs.List.{filter}
use Rattle.std.proofs.lemmas.Bool.{and_parts, eqb-true}
use Rattle.std.proofs.lemmas.List.{map-append}
use Rattle.std.proofs.lemmas.List.Elements.{filter-append}
use Rattle.std.proofs.Math.Seq.{drop-append_seam}
use Rattle.keys.specs.declared.compressed.Key.{Key}
use Rattle.terms.specs.declared.agreement.Terms.{Terms}
use Rattle.updates.specs.declared.changes.Update.{Update}
use Rattle.updates.specs.Stages.{unacknowledged}
use Rattle.updates.specs.Steady.{IsBeginning, InOrder}
use Rattle.updates.proofs.Accepting.{all_pass}
use Rattle.updates.proofs.Funds.{past_known}
use Rattle.updates.specs.declared.messages.Tokens.{Tokens}
use Rattle.channel.specs.declared.commitments.CommitmentState.{CommitmentState}
use Rattle.channel.specs.declared.messages.Message.{Message}
use Rattle.updates.specs.declared.messages.PeerStep.TheVariants.{Update as Updated, CommitmentSigned}
use Rattle.channel.specs.declared.messages.Message.TheVariants.{Step, RevokeAndAck}
use Rattle.channel.specs.Points.{secret_at, point_at}
use Rattle.channel.specs.States.{Signing, State, sign_tests, peers_next, after_update, after_sign, after, answers, signature_message}
use Rattle.channel.specs.Keeping.{one_if}
use Rattle.channel.specs.Peers.{IsLived, starts, updated_once, signed_once, received_once, forgot_once}
use Rattle.channel.specs.Reestablishing.{forgotten, lacks_signature, lacks_revocation, update_message, signature_again, revocation_again, in_order}
use Rattle.channel.specs.Resending.{HasGiven, gave_nothing, gave_update, gave_signature, gave_answers, gave_no_more, IsLeftOf, all_left, left_out, left_in, is_no_update, is_no_revocation, GoesOutInOrder}
use Rattle.channel.proofs.Sides.{lived_kept}
use Rattle.channel.proofs.Records.{calm_when}
use Rattle.channel.proofs.ByNumber.{sides_number}
use Rattle.channel.proofs.Resends.{in_order-none, in_order-alone}

-- what is left of a list

left_none : (ys : List Message) → IsLeftOf [] ys
left_none [] = all_left
left_none (m ∷ ys) = left_out m (left_none ys)

left_all : (ys : List Message) → IsLeftOf ys ys
left_all [] = all_left
left_all (m ∷ ys) = left_in m (left_all ys)

left_longer : (xs ys more : List Message) → IsLeftOf xs ys → IsLeftOf xs (ys ++ more)
left_longer xs ys more all_left = left_none more
left_longer xs ys more (left_out {xs = front} {ys = bs} m l) = left_out m (left_longer front bs more l)
left_longer xs ys more (left_in {xs = front} {ys = bs} m l) = left_in m (left_longer front bs more l)

left_push : (xs ys more : List Message) → IsLeftOf xs ys → IsLeftOf (xs ++ more) (ys ++ more)
left_push xs ys more all_left = left_all more
left_push xs ys more (left_out {xs = front} {ys = bs} m l) = left_out m (left_push front bs more l)
left_push xs ys more (left_in {xs = front} {ys = bs} m l) = left_in m (left_push front bs more l)

left_behind : (xs ys : List Message) → IsLeftOf ys (xs ++ ys)
left_behind [] ys = left_all ys
left_behind (m ∷ xs) ys = left_out m (left_behind xs ys)

left_step : (xs bs cs : List Message) (m : Message) → ((front : List Message) → IsLeftOf front bs → IsLeftOf front cs) → IsLeftOf xs (m ∷ bs) → IsLeftOf xs (m ∷ cs)
left_step xs bs cs m f (left_out {xs = front} n l) = left_out n (f front l)
left_step xs bs cs m f (left_in {xs = front} n l) = left_in n (f front l)

left_on : (xs ys zs : List Message) → IsLeftOf xs ys → IsLeftOf ys zs → IsLeftOf xs zs
left_on xs ys zs l all_left = l
left_on xs ys zs l (left_out {xs = bs} {ys = cs} m h) = left_out m (left_on xs bs cs l h)
left_on xs ys zs l (left_in {xs = bs} {ys = cs} m h) = left_step xs bs cs m (λ front a. left_on front bs cs a h) l

-- updates beyond a part of them

abbrev sent : List Update → List Message
sent us = map update_message us

dropped_push : (past known : List Update) (u : Update) → IsBeginning past known → drop (length past) known ++ u ∷ [] ≡ drop (length past) (known ++ u ∷ [])
dropped_push past known u b =
    subst (λ l. drop (length past) l ++ u ∷ [] ≡ drop (length past) (l ++ u ∷ [])) b.1
    (ap (λ l. l ++ u ∷ []) (drop-append_seam past b.0) ∙ sym (drop-append_seam past (b.0 ++ u ∷ [])) ∙ ap (drop (length past)) (sym (append_assoc past b.0 (u ∷ []))))

beyond : (past known : List Update) (b : IsBeginning past known) → drop (length past) known ≡ b.0
beyond past known b = ap (drop (length past)) (sym b.1) ∙ drop-append_seam past b.0

beyond_both : (past middle known : List Update) (b : IsBeginning past middle) (d : IsBeginning middle known) → drop (length past) known ≡ b.0 ++ d.0
beyond_both past middle known b d =
    ap (drop (length past)) (sym d.1 ∙ ap (λ l. l ++ d.0) (sym b.1) ∙ append_assoc past b.0 d.0) ∙ drop-append_seam past (b.0 ++ d.0)

sent_both : (past middle known : List Update) (b : IsBeginning past middle) (d : IsBeginning middle known) → sent b.0 ++ sent d.0 ≡ sent (drop (length past) known)
sent_both past middle known b d = sym (map-append update_message b.0 d.0) ∙ ap sent (sym (beyond_both past middle known b d))

later_left : (past middle known : List Update) → IsBeginning past middle → IsBeginning middle known → IsLeftOf (sent (drop (length middle) known)) (sent (drop (length past) known))
later_left past middle known b d =
    subst (λ l. IsLeftOf l (sent (drop (length past) known))) (ap sent (sym (beyond middle known d)))
    (subst (IsLeftOf (sent d.0)) (sent_both past middle known b d) (left_behind (sent b.0) (sent d.0)))

earlier_left : (past middle known : List Update) → IsBeginning past middle → IsBeginning middle known → IsLeftOf (sent (drop (length past) middle)) (sent (drop (length past) known))
earlier_left past middle known b d =
    subst (λ l. IsLeftOf l (sent (drop (length past) known))) (ap sent (sym (beyond past middle b)))
    (subst (IsLeftOf (sent b.0)) (sent_both past middle known b d) (left_longer (sent b.0) (sent b.0) (sent d.0) (left_all (sent b.0))))

-- what a side gave is in order

abbrev newest_signature : Signing → State → List Message
newest_signature tokens_of s = map (λ c. Step (CommitmentSigned (tokens_of s.held.terms c))) (drop (s.peer_number + 1) s.signed)

abbrev unacknowledged_known : State → List Message
unacknowledged_known s = sent (drop (length s.held.own.past_receiver) s.held.own.known)

record Gave (tokens_of : Signing) (s : State) (given : List Message) : Type 0 where
  updates : IsLeftOf (unacknowledged_known s) given
  signature : s.awaiting ≡ true → IsLeftOf (signature_again tokens_of s) given
  revocation : 0 < s.number → IsLeftOf (revocation_again s) given
  both : s.awaiting ≡ true → 0 < s.number → IsLeftOf (in_order s.revoked_last (newest_signature tokens_of s) (revocation_again s)) given

made : (tokens_of : Signing) (s : State) (given : List Message) (u : Update) → InOrder s.held.own → Gave tokens_of s given → Gave tokens_of (after_update u s) (given ++ Step (Updated u) ∷ [])
made tokens_of s given u o g =
    let more = Step (Updated u) ∷ [] in
    let n = length s.held.own.past_receiver in
    let e : unacknowledged_known s ++ more ≡ unacknowledged_known (after_update u s) =
    sym (map-append update_message (drop n s.held.own.known) (u ∷ [])) ∙ ap sent (dropped_push s.held.own.past_receiver s.held.own.known u (past_known s.held.own o))
    in
    record {
      updates = subst (λ l. IsLeftOf l (given ++ more)) e (left_push (unacknowledged_known s) given more g.updates);
      signature = λ w. left_longer (signature_again tokens_of s) given more (g.signature w);
      revocation = λ l. left_longer (revocation_again s) given more (g.revocation l);
      both = λ w l. left_longer (in_order s.revoked_last (newest_signature tokens_of s) (revocation_again s)) given more (g.both w l);
    }

signed : (tokens_of : Signing) (s : State) (given : List Message) → length s.signed ≡ s.peer_number + 1 → Gave tokens_of s given → Gave tokens_of (after_sign s) (given ++ signature_message tokens_of s ∷ [])
signed tokens_of s given count g =
    let more = signature_message tokens_of s ∷ [] in
    let last : peers_next s ∷ [] ≡ drop (s.peer_number + 1) (s.signed ++ peers_next s ∷ []) = sym (drop-append_seam s.signed (peers_next s ∷ [])) ∙ ap (λ i. drop i (s.signed ++ peers_next s ∷ [])) count in
    let e : more ≡ newest_signature tokens_of (after_sign s) = ap (map (λ (c : CommitmentState). Step (CommitmentSigned (tokens_of s.held.terms c)))) last in
    record {
      updates = left_longer (unacknowledged_known s) given more g.updates;
      signature = λ w. subst (λ l. IsLeftOf (unacknowledged_known s ++ l) (given ++ more)) e (left_push (unacknowledged_known s) given more g.updates);
      revocation = λ l. left_longer (revocation_again s) given more (g.revocation l);
      both = λ w l. subst (λ x. IsLeftOf (revocation_again s ++ x) (given ++ more)) e (left_push (revocation_again s) given more (g.revocation l));
    }

answered : (tokens_of : Signing) (s : State) (given : List Message) (tokens : Tokens) → Gave tokens_of s given → Gave tokens_of (after s (Step (CommitmentSigned tokens))) (given ++ answers s (Step (CommitmentSigned tokens)))
answered tokens_of s given tokens g =
    let more = answers s (Step (CommitmentSigned tokens)) in
    let before : s.number ≡ s.number + 1 - 1 = omega arith in
    let next : s.number + 2 ≡ s.number + 1 + 1 = omega arith in
    let e : more ≡ revocation_again (after s (Step (CommitmentSigned tokens))) = (λ j. RevokeAndAck (record { secret = secret_at s.seed (before j); next_point = point_at s.seed (next j) }) ∷ []) in
    let newest = newest_signature tokens_of s in
    record {
      updates = left_longer (unacknowledged_known s) given more g.updates;
      signature = λ w. left_longer (signature_again tokens_of s) given more (g.signature w);
      revocation = λ l. subst (λ x. IsLeftOf x (given ++ more)) e (left_behind given more);
      both =
          λ w l. subst (λ x. IsLeftOf (newest ++ x) (given ++ more)) e
          (left_push newest given more (left_on newest (signature_again tokens_of s) given (left_behind (sent (unacknowledged s.held.own)) newest) (g.signature w)));
    }

acknowledged : (tokens_of : Signing) (s : State) (given : List Message) (secret : List ℕ) (next_point : Key) → InOrder s.held.own → Gave tokens_of s given
    → Gave tokens_of (after s (RevokeAndAck (record { secret = secret; next_point = next_point }))) (given ++ [])
acknowledged tokens_of s given secret next_point o g =
    let own = s.held.own in
    record {
      updates =
          left_longer (sent (drop (length own.with_receiver) own.known)) given []
          (left_on (sent (drop (length own.with_receiver) own.known)) (unacknowledged_known s) given (later_left own.past_receiver own.with_receiver own.known o.past o.receiver) g.updates);
      signature = λ w. absurd (let f : false ≡ true = w in cc);
      revocation = λ l. left_longer (revocation_again s) given [] (g.revocation l);
      both = λ w l. absurd (let f : false ≡ true = w in cc);
    }

forgot : (tokens_of : Signing) (s : State) (given : List Message) → InOrder s.held.own → Gave tokens_of s given → Gave tokens_of (forgotten s) given
forgot tokens_of s given o g =
    let own = s.held.own in
    record {
      updates =
          left_on (sent (drop (length own.past_receiver) own.with_receiver)) (unacknowledged_known s) given (earlier_left own.past_receiver own.with_receiver own.known o.past o.receiver) g.updates;
      signature = g.signature;
      revocation = g.revocation;
      both = g.both;
    }

received : (tokens_of : Signing) (s : State) (given : List Message) (m : Message) → InOrder s.held.own → Gave tokens_of s given → Gave tokens_of (after s m) (given ++ answers s m)
received tokens_of s given (Step (Updated u)) o g = record {
  updates = left_longer (unacknowledged_known s) given [] g.updates;
  signature = λ w. left_longer (signature_again tokens_of s) given [] (g.signature w);
  revocation = λ l. left_longer (revocation_again s) given [] (g.revocation l);
  both = λ w l. left_longer (in_order s.revoked_last (newest_signature tokens_of s) (revocation_again s)) given [] (g.both w l);
}
received tokens_of s given (Step (CommitmentSigned tokens)) o g = answered tokens_of s given tokens g
received tokens_of s given (RevokeAndAck revocation) o g = acknowledged tokens_of s given revocation.secret revocation.next_point o g

lived : (tokens_of : Signing) (s : State) (given : List Message) → HasGiven tokens_of s given → IsLived tokens_of s
lived tokens_of s given (gave_nothing terms side seed point next_point) = starts terms side seed point next_point
lived tokens_of s given (gave_update {s = r} {given = before} u e h) = updated_once u e (lived tokens_of r before h)
lived tokens_of s given (gave_signature {s = r} {given = before} e h) = signed_once e (lived tokens_of r before h)
lived tokens_of s given (gave_answers {s = r} {given = before} m e h) = received_once m e (lived tokens_of r before h)
lived tokens_of s given (gave_no_more {s = r} {given = before} h) = forgot_once (lived tokens_of r before h)

gave : (tokens_of : Signing) (s : State) (given : List Message) → HasGiven tokens_of s given → Gave tokens_of s given
gave tokens_of s given (gave_nothing terms side seed point next_point) = record {
  updates = all_left;
  signature = λ w. absurd (let f : false ≡ true = w in cc);
  revocation = λ l. absurd (omega (arith, l));
  both = λ w l. absurd (omega (arith, l));
}
gave tokens_of s given (gave_update {s = r} {given = before} u e h) = made tokens_of r before u (lived_kept tokens_of r (lived tokens_of r before h)).own (gave tokens_of r before h)
gave tokens_of s given (gave_signature {s = r} {given = before} e h) =
    let n = (sides_number tokens_of r (lived tokens_of r before h)).signed.count in
    let z : one_if r.awaiting ≡ 0 = ap one_if (calm_when r (all_pass (sign_tests r) e)) in
    signed tokens_of r before (omega (arith, n, z)) (gave tokens_of r before h)
gave tokens_of s given (gave_answers {s = r} {given = before} m e h) = received tokens_of r before m (lived_kept tokens_of r (lived tokens_of r before h)).own (gave tokens_of r before h)
gave tokens_of s given (gave_no_more {s = r} {given = before} h) = forgot tokens_of r before (lived_kept tokens_of r (lived tokens_of r before h)).own (gave tokens_of r before h)

-- what is looked at

no_updates : (us : List Update) → filter is_no_update (sent us) ≡ []
no_updates [] = refl
no_updates (u ∷ us) = no_updates us

all_updates : (us : List Update) → filter is_no_revocation (sent us) ≡ sent us
all_updates [] = refl
all_updates (u ∷ us) = ap (λ l. update_message u ∷ l) (all_updates us)

abbrev signatures : (Terms → CommitmentState → Tokens) → Terms → List CommitmentState → List Message
signatures tokens_of terms cs = map (λ c. Step (CommitmentSigned (tokens_of terms c))) cs

all_signatures : (tokens_of : Signing) (terms : Terms) (cs : List CommitmentState) → filter is_no_update (signatures tokens_of terms cs) ≡ signatures tokens_of terms cs
all_signatures tokens_of terms [] = refl
all_signatures tokens_of terms (c ∷ cs) = ap (λ l. Step (CommitmentSigned (tokens_of terms c)) ∷ l) (all_signatures tokens_of terms cs)

signatures_too : (tokens_of : Signing) (terms : Terms) (cs : List CommitmentState) → filter is_no_revocation (signatures tokens_of terms cs) ≡ signatures tokens_of terms cs
signatures_too tokens_of terms [] = refl
signatures_too tokens_of terms (c ∷ cs) = ap (λ l. Step (CommitmentSigned (tokens_of terms c)) ∷ l) (signatures_too tokens_of terms cs)

signature_alone : (tokens_of : Signing) (s : State) → filter is_no_update (signature_again tokens_of s) ≡ newest_signature tokens_of s
signature_alone tokens_of s =
    let us = unacknowledged s.held.own in
    filter-append is_no_update (sent us) (newest_signature tokens_of s) ∙ (λ j. no_updates us j ++ all_signatures tokens_of s.held.terms (drop (s.peer_number + 1) s.signed) j)

signature_whole : (tokens_of : Signing) (s : State) → filter is_no_revocation (signature_again tokens_of s) ≡ signature_again tokens_of s
signature_whole tokens_of s =
    let us = unacknowledged s.held.own in
    filter-append is_no_revocation (sent us) (newest_signature tokens_of s) ∙ (λ j. all_updates us j ++ signatures_too tokens_of s.held.terms (drop (s.peer_number + 1) s.signed) j)

looked_at : (p : Message → Bool) (revoked : Bool) (xs ys : List Message) → filter p (in_order revoked xs ys) ≡ in_order revoked (filter p xs) (filter p ys)
looked_at p true xs ys = filter-append p xs ys
looked_at p false xs ys = filter-append p ys xs

no_revocation : (s : State) (b : Bool) → filter is_no_revocation (cond b (revocation_again s) []) ≡ []
no_revocation s true = refl
no_revocation s false = refl

-- of what goes out again

first_two : (tokens_of : Signing) (s : State) (given : List Message) (a b : Bool) → (a ≡ true → s.awaiting ≡ true) → (b ≡ true → 0 < s.number) → Gave tokens_of s given
    → IsLeftOf (filter is_no_update (in_order s.revoked_last (cond a (signature_again tokens_of s) []) (cond b (revocation_again s) []))) given
first_two tokens_of s given true true waits revoked g =
    let e = looked_at is_no_update s.revoked_last (signature_again tokens_of s) (revocation_again s) ∙ ap (λ l. in_order s.revoked_last l (revocation_again s)) (signature_alone tokens_of s) in
    subst (λ l. IsLeftOf l given) (sym e) (g.both (waits refl) (revoked refl))
first_two tokens_of s given true false waits revoked g =
    let newest = newest_signature tokens_of s in
    let e = looked_at is_no_update s.revoked_last (signature_again tokens_of s) [] ∙ ap (λ l. in_order s.revoked_last l []) (signature_alone tokens_of s) ∙ in_order-alone s.revoked_last newest in
    subst (λ l. IsLeftOf l given) (sym e) (left_on newest (signature_again tokens_of s) given (left_behind (sent (unacknowledged s.held.own)) newest) (g.signature (waits refl)))
first_two tokens_of s given false true waits revoked g =
    let e = looked_at is_no_update s.revoked_last [] (revocation_again s) ∙ in_order-none s.revoked_last (revocation_again s) in
    subst (λ l. IsLeftOf l given) (sym e) (g.revocation (revoked refl))
first_two tokens_of s given false false waits revoked g =
    let e = looked_at is_no_update s.revoked_last [] [] ∙ in_order-none s.revoked_last [] in
    subst (λ l. IsLeftOf l given) (sym e) (left_none given)

covered : (tokens_of : Signing) (s : State) (given : List Message) (a b : Bool) → (a ≡ true → s.awaiting ≡ true) → Gave tokens_of s given
    → IsLeftOf (filter is_no_revocation (in_order s.revoked_last (cond a (signature_again tokens_of s) []) (cond b (revocation_again s) []))) given
covered tokens_of s given true b waits g =
    let again = signature_again tokens_of s in
    let e = looked_at is_no_revocation s.revoked_last again (cond b (revocation_again s) []) ∙ (λ j. in_order s.revoked_last (signature_whole tokens_of s j) (no_revocation s b j)) ∙ in_order-alone s.revoked_last again in
    subst (λ l. IsLeftOf l given) (sym e) (g.signature (waits refl))
covered tokens_of s given false b waits g =
    let e = looked_at is_no_revocation s.revoked_last [] (cond b (revocation_again s) []) ∙ ap (in_order s.revoked_last []) (no_revocation s b) ∙ in_order-none s.revoked_last [] in
    subst (λ l. IsLeftOf l given) (sym e) (left_none given)

pub goes_out_in_order : GoesOutInOrder
goes_out_in_order tokens_of s given r h =
    let g = gave tokens_of s given h in
    let waits : lacks_signature s r ≡ true → s.awaiting ≡ true = λ e. (and_parts s.awaiting (eqb r.next_commitment (s.peer_number + 1)) e).0 in
    let revoked : lacks_revocation s r ≡ true → 0 < s.number = λ e. (let f = eqb-true (r.next_revocation + 1) s.number e in omega (arith, f)) in
    record {
      signature_and_revocation = first_two tokens_of s given (lacks_signature s r) (lacks_revocation s r) waits revoked g;
      updates_and_signature = covered tokens_of s given (lacks_signature s r) (lacks_revocation s r) waits g;
    }
