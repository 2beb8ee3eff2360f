-- What stays true of a channel as it opens, as it signs, and as a signature or a revocation comes. Updates change nothing of it.
use Rattle.std.proofs.Common.{◌≡◌, ℕ, ◌<◌, ◌+◌, Bool, true, false, List, [], ◌∷◌, ◌++◌, length, map, sym, ap, ◌∙◌, subst, refl, arith, length-append}
use Rattle.std.specs.Prelude.{Contains}
use Rattle.std.proofs.lemmas.List.Elements.{Contains-push}
use Rattle.std.proofs.lemmas.List.{map-append}
use Rattle.keys.specs.declared.compressed.Key.{Key}
use Rattle.keys.specs.Rights.{Rights}
use Rattle.terms.specs.declared.sides.Side.{Side}
use Rattle.terms.specs.declared.agreement.Terms.{Terms}
use Rattle.terms.specs.Sides.{other}
use Rattle.updates.specs.Steady.{Held, holding_signed, holding_signature, holding_revocation}
use Rattle.channel.specs.declared.limits.TheConstants.{LAST_NUMBER}
use Rattle.channel.specs.declared.commitments.CommitmentState.{CommitmentState}
use Rattle.updates.specs.declared.messages.Tokens.{Tokens}
use Rattle.channel.specs.Points.{point_at}
use Rattle.channel.specs.States.{State, state_at_opening, first_of}
use Rattle.channel.specs.Tokens.{peer_tokens}
use Rattle.channel.specs.Rights.{rights_of}
use Rattle.channel.specs.Keeping.{HasBases, CanOpen, HaveSame, IsSignedIf, IsChannel, one_if}
use Rattle.channel.specs.Numbered.{IsNumbered, AreNumbered}
use Rattle.channel.proofs.Numbered.{numbered_push, numbered_same, numbered_first}
use Rattle.channel.proofs.Learning.{one_signed, one_mine, one_next, first_four}

-- the signer with one point more
abbrev pub with_point : Rights → List ℕ → Rights
with_point r point = record { seed = r.seed; points = r.points ++ point ∷ []; secrets = r.secrets }

-- the signer with one point and one secret more
abbrev pub with_revocation : Rights → List ℕ → List ℕ → Rights
with_revocation r secret point = record { seed = r.seed; points = r.points ++ point ∷ []; secrets = r.secrets ++ secret ∷ [] }

abbrev points_of : List CommitmentState → List (List ℕ)
points_of cs = map (λ c. c.point.bytes) cs

points_push : (cs ds : List CommitmentState) (c : CommitmentState) (point : Key) → ds ≡ cs ++ c ∷ [] → c.point ≡ point → points_of ds ≡ points_of cs ++ point.bytes ∷ []
points_push cs ds c point e p = ap points_of e ∙ map-append (λ (d : CommitmentState). d.point.bytes) cs (c ∷ []) ∙ ap (λ (k : Key). points_of cs ++ k.bytes ∷ []) p

points_same : (s t : State) (own : List ℕ) (next : Key) (mine signed : List (List ℕ)) → (point_at t.seed (t.number + 1)).bytes ≡ own → t.next_point ≡ next → points_of t.mine ≡ mine → points_of t.signed ≡ signed
    → own ∷ next.bytes ∷ (mine ++ signed) ≡ (rights_of t).points
points_same s t own next mine signed o n m g = λ i. sym o i ∷ (sym n i).bytes ∷ (sym m i ++ sym g i)

bases_same : (terms terms' : Terms) (side side' : Side) (seed seed' : List ℕ) → terms' ≡ terms → side' ≡ side → seed' ≡ seed → HasBases terms side seed → HasBases terms' side' seed'
bases_same terms terms' side side' seed seed' t s d b = subst (λ x. HasBases x side' seed') (sym t) (subst (λ x. HasBases terms x seed') (sym s) (subst (λ x. HasBases terms side x) (sym d) b))

signed_same : (b b' : Bool) (p p' : List ℕ) (l l' : List CommitmentState) → b' ≡ b → p' ≡ p → l' ≡ l → IsSignedIf b p l → IsSignedIf b' p' l'
signed_same b b' p p' l l' e f g h = subst (λ x. IsSignedIf x p' l') (sym e) (subst (λ x. IsSignedIf b x l') (sym f) (subst (λ x. IsSignedIf b p x) (sym g) h))

-- the peer's tokens on one's own commitments, as these stay the same
tokens_same : (terms terms' : Terms) (mine mine' : List CommitmentState) (ts : List Tokens) → terms' ≡ terms → mine' ≡ mine → ts ≡ map (peer_tokens terms) mine → ts ≡ map (peer_tokens terms') mine'
tokens_same terms terms' mine mine' ts t m kept = kept ∙ (λ j. map (peer_tokens (sym t j)) (sym m j))

-- and as one comes to them
tokens_push : (terms terms' : Terms) (mine mine' : List CommitmentState) (c : CommitmentState) (ts ts' : List Tokens) → terms' ≡ terms → mine' ≡ mine ++ c ∷ []
    → ts ≡ map (peer_tokens terms) mine → ts' ≡ ts ++ peer_tokens terms c ∷ [] → ts' ≡ map (peer_tokens terms') mine'
tokens_push terms terms' mine mine' c ts ts' t m kept pushed =
    tokens_same terms terms' (mine ++ c ∷ []) mine' ts' t m
    (pushed ∙ ap (λ l. l ++ peer_tokens terms c ∷ []) kept ∙ sym (map-append (peer_tokens terms) mine (c ∷ [])))

pub kept_opened : (s : State) (terms : Terms) (side : Side) (signer r : Rights) (ts : List Tokens) (first next : Key) → s ≡ state_at_opening terms side signer.seed first next → r.seed ≡ signer.seed
    → r.points ≡ first.bytes ∷ next.bytes ∷ (point_at signer.seed 0).bytes ∷ (point_at signer.seed 1).bytes ∷ [] → r.secrets ≡ signer.secrets
    → ts ≡ peer_tokens terms (first_of terms side (point_at signer.seed 0)) ∷ [] → CanOpen terms side signer → IsChannel s r ts
kept_opened s terms side signer r ts first next e seed points secrets tokens can =
    subst (λ (t : State). IsChannel t r ts) (sym e)
    (record {
      bases = can.bases;
      points =
          subst (λ l. HaveSame l (rights_of (state_at_opening terms side signer.seed first next)).points) (sym points)
          (first_four first.bytes next.bytes (point_at signer.seed 0).bytes (point_at signer.seed 1).bytes);
      count = ap length points;
      learnt = secrets ∙ can.no_secrets;
      awaited = tt;
      number = omega arith;
      peer_number = omega arith;
      secrets = refl;
      mine = numbered_first terms side (point_at signer.seed 0);
      signed = numbered_first terms (other side) first;
      kept = tokens;
    })

pub kept_signed : (s t : State) (r : Rights) (ts : List Tokens) (c : CommitmentState) → IsChannel s r ts → s.peer_number < LAST_NUMBER → t.held ≡ holding_signed s.held → t.seed ≡ s.seed → t.awaiting ≡ true → t.number ≡ s.number
    → t.peer_number ≡ s.peer_number → t.next_point ≡ s.next_point → t.secrets ≡ s.secrets → t.mine ≡ s.mine → t.signed ≡ s.signed ++ c ∷ [] → c.point ≡ s.next_point
    → s.awaiting ≡ false → IsNumbered s.held.terms (other s.held.side) (s.peer_number + 1) c → IsChannel t r ts
kept_signed s t r ts c i below held seed awaiting number peer_number next secrets mine signed point waits one_more =
    let own = (point_at s.seed (s.number + 1)).bytes in
    let pushed = points_push s.signed t.signed c s.next_point signed point in
    let same = points_same s t own s.next_point (points_of s.mine) (points_of s.signed ++ s.next_point.bytes ∷ []) (λ j. (point_at (seed j) (number j + 1)).bytes) next (ap points_of mine) pushed in
    let one : one_if t.awaiting ≡ 1 = ap one_if awaiting in
    let bound = i.number in
    let none : one_if s.awaiting ≡ 0 = ap one_if waits in
    let before : s.peer_number + 1 ≡ s.peer_number + 1 + one_if s.awaiting = omega (arith, none) in
    let later : t.peer_number + 1 + one_if t.awaiting ≡ s.peer_number + 1 + 1 = omega (arith, peer_number, one) in
    let terms = ap (λ (h : Held). h.terms) held in
    let side = ap (λ (h : Held). h.side) held in
    record {
      bases = bases_same s.held.terms t.held.terms s.held.side t.held.side s.seed t.seed (ap (λ (h : Held). h.terms) held) (ap (λ (h : Held). h.side) held) seed i.bases;
      points = subst (λ l. HaveSame r.points l) same (one_signed r.points own s.next_point.bytes (points_of s.mine) (points_of s.signed) i.points);
      count = i.count ∙ (λ j. sym number j + sym peer_number j + 4);
      learnt = i.learnt ∙ sym secrets;
      awaited =
          subst (λ b. IsSignedIf b t.next_point.bytes t.signed) (sym awaiting)
          (subst (λ l. Contains l t.next_point.bytes) (sym pushed) (subst (λ (k : Key). Contains (points_of s.signed ++ s.next_point.bytes ∷ []) k.bytes) (sym next) (Contains-push (points_of s.signed) s.next_point.bytes)));
      number = omega (arith, number, bound);
      peer_number = omega (arith, peer_number, one, below);
      secrets = ap length secrets ∙ i.secrets ∙ sym peer_number;
      mine = numbered_same s.held.terms t.held.terms s.held.side t.held.side (s.number + 1) (t.number + 1) s.mine t.mine terms side (ap (λ n. n + 1) number) mine i.mine;
      signed =
          numbered_same s.held.terms t.held.terms (other s.held.side) (other t.held.side) (s.peer_number + 1 + 1) (t.peer_number + 1 + one_if t.awaiting) t.signed t.signed terms (ap other side) later refl
          (numbered_push s.held.terms (other s.held.side) (s.peer_number + 1) s.signed t.signed c
          (subst (λ n. AreNumbered s.held.terms (other s.held.side) n s.signed) (sym before) i.signed) signed one_more);
      kept = tokens_same s.held.terms t.held.terms s.mine t.mine ts terms mine i.kept;
    }

pub kept_signature : (s t : State) (r r' : Rights) (ts ts' : List Tokens) (c : CommitmentState) → IsChannel s r ts → s.number < LAST_NUMBER → t.held ≡ holding_signature s.held → t.seed ≡ s.seed → t.awaiting ≡ s.awaiting
    → t.number ≡ s.number + 1 → t.peer_number ≡ s.peer_number → t.next_point ≡ s.next_point → t.secrets ≡ s.secrets → t.mine ≡ s.mine ++ c ∷ [] → t.signed ≡ s.signed
    → c.point ≡ point_at s.seed (s.number + 1) → r' ≡ with_point r (point_at s.seed (s.number + 2)).bytes → IsNumbered s.held.terms s.held.side (s.number + 1) c
    → ts' ≡ ts ++ peer_tokens s.held.terms c ∷ [] → IsChannel t r' ts'
kept_signature s t r r' ts ts' c i below held seed awaiting number peer_number next secrets mine signed point e one_more tokens =
    let own = (point_at s.seed (s.number + 1)).bytes in
    let later = (point_at s.seed (s.number + 2)).bytes in
    let step : t.number + 1 ≡ s.number + 2 = omega (arith, number) in
    let pushed = points_push s.mine t.mine c (point_at s.seed (s.number + 1)) mine point in
    let same = points_same s t later s.next_point (points_of s.mine ++ own ∷ []) (points_of s.signed) (λ j. (point_at (seed j) (step j)).bytes) next pushed (ap points_of signed) in
    let learnt = one_mine r.points own s.next_point.bytes later (points_of s.mine) (points_of s.signed) i.points in
    let longer : length r'.points ≡ length r.points + 1 = ap (λ (x : Rights). length x.points) e ∙ length-append r.points (later ∷ []) in
    let count = i.count in
    let bound = i.peer_number in
    let wait : one_if t.awaiting ≡ one_if s.awaiting = ap one_if awaiting in
    let terms = ap (λ (h : Held). h.terms) held in
    let side = ap (λ (h : Held). h.side) held in
    record {
      bases = bases_same s.held.terms t.held.terms s.held.side t.held.side s.seed t.seed (ap (λ (h : Held). h.terms) held) (ap (λ (h : Held). h.side) held) seed i.bases;
      points = subst (λ l. HaveSame r'.points l) same (subst (λ (x : Rights). HaveSame x.points (later ∷ s.next_point.bytes ∷ ((points_of s.mine ++ own ∷ []) ++ points_of s.signed))) (sym e) learnt);
      count = omega (arith, longer, count, number, peer_number);
      learnt = ap (λ (x : Rights). x.secrets) e ∙ i.learnt ∙ sym secrets;
      awaited = signed_same s.awaiting t.awaiting s.next_point.bytes t.next_point.bytes s.signed t.signed awaiting (ap (λ (k : Key). k.bytes) next) signed i.awaited;
      number = omega (arith, number, below);
      peer_number = omega (arith, peer_number, wait, bound);
      secrets = ap length secrets ∙ i.secrets ∙ sym peer_number;
      mine =
          numbered_same s.held.terms t.held.terms s.held.side t.held.side (s.number + 1 + 1) (t.number + 1) t.mine t.mine terms side (ap (λ n. n + 1) number) refl
          (numbered_push s.held.terms s.held.side (s.number + 1) s.mine t.mine c i.mine mine one_more);
      signed =
          numbered_same s.held.terms t.held.terms (other s.held.side) (other t.held.side) (s.peer_number + 1 + one_if s.awaiting) (t.peer_number + 1 + one_if t.awaiting) s.signed t.signed terms (ap other side)
          (λ j. peer_number j + 1 + wait j) signed i.signed;
      kept = tokens_push s.held.terms t.held.terms s.mine t.mine c ts ts' terms mine i.kept tokens;
    }

pub kept_revocation : (s t : State) (r r' : Rights) (ts : List Tokens) (secret : List ℕ) → IsChannel s r ts → s.awaiting ≡ true → t.held ≡ holding_revocation s.held → t.seed ≡ s.seed → t.awaiting ≡ false → t.number ≡ s.number
    → t.peer_number ≡ s.peer_number + 1 → t.secrets ≡ s.secrets ++ secret ∷ [] → t.mine ≡ s.mine → t.signed ≡ s.signed → r' ≡ with_revocation r secret t.next_point.bytes → IsChannel t r' ts
kept_revocation s t r r' ts secret i awaited held seed awaiting number peer_number secrets mine signed e =
    let own = (point_at s.seed (s.number + 1)).bytes in
    let same = points_same s t own t.next_point (points_of s.mine) (points_of s.signed) (λ j. (point_at (seed j) (number j + 1)).bytes) refl (ap points_of mine) (ap points_of signed) in
    let given = subst (λ b. IsSignedIf b s.next_point.bytes s.signed) awaited i.awaited in
    let learnt = one_next r.points own s.next_point.bytes t.next_point.bytes (points_of s.mine) (points_of s.signed) given i.points in
    let longer : length r'.points ≡ length r.points + 1 = ap (λ (x : Rights). length x.points) e ∙ length-append r.points (t.next_point.bytes ∷ []) in
    let count = i.count in
    let one : one_if s.awaiting ≡ 1 = ap one_if awaited in
    let none : one_if t.awaiting ≡ 0 = ap one_if awaiting in
    let bound = i.peer_number in
    let below = i.number in
    let terms = ap (λ (h : Held). h.terms) held in
    let side = ap (λ (h : Held). h.side) held in
    let same_count : t.peer_number + 1 + one_if t.awaiting ≡ s.peer_number + 1 + one_if s.awaiting = omega (arith, peer_number, none, one) in
    record {
      bases = bases_same s.held.terms t.held.terms s.held.side t.held.side s.seed t.seed (ap (λ (h : Held). h.terms) held) (ap (λ (h : Held). h.side) held) seed i.bases;
      points = subst (λ l. HaveSame r'.points l) same (subst (λ (x : Rights). HaveSame x.points (own ∷ t.next_point.bytes ∷ (points_of s.mine ++ points_of s.signed))) (sym e) learnt);
      count = omega (arith, longer, count, number, peer_number);
      learnt = ap (λ (x : Rights). x.secrets) e ∙ ap (λ l. l ++ secret ∷ []) i.learnt ∙ sym secrets;
      awaited = subst (λ b. IsSignedIf b t.next_point.bytes t.signed) (sym awaiting) tt;
      number = omega (arith, number, below);
      peer_number = omega (arith, peer_number, none, one, bound);
      secrets = ap length secrets ∙ length-append s.secrets (secret ∷ []) ∙ ap (λ n. n + 1) i.secrets ∙ sym peer_number;
      mine = numbered_same s.held.terms t.held.terms s.held.side t.held.side (s.number + 1) (t.number + 1) s.mine t.mine terms side (ap (λ n. n + 1) number) mine i.mine;
      signed =
          numbered_same s.held.terms t.held.terms (other s.held.side) (other t.held.side) (s.peer_number + 1 + one_if s.awaiting) (t.peer_number + 1 + one_if t.awaiting) s.signed t.signed terms (ap other side)
          same_count signed i.signed;
      kept = tokens_same s.held.terms t.held.terms s.mine t.mine ts terms mine i.kept;
    }
