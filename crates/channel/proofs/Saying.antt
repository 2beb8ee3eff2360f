-- What a hello says, how it is tested, and what is appended to what goes out again.
use Rattle.std.proofs.Common.{◌≡◌, ℕ, zero, suc, ◌+◌, ◌-◌, ◌<◌, ◌≤◌, Bool, true, false, cond, ltb, List, [], ◌∷◌, ◌++◌, length, map, drop, get_or, slice_get, Some, None, ap, ◌∙◌, refl, subst, sym, arith, append-nil, append_assoc}
use Rattle.std.specs.Prelude.{Contains, unwrap_or}
use Rattle.std.specs.Str.{bytes_eq}
use Rattle.std.proofs.lemmas.Bool.{lt-ltb, le-ltb}
use Rattle.std.proofs.lemmas.List.Elements.{Contains-append_right}
use Rattle.keys.specs.Rights.{Rights}
use Rattle.terms.specs.Sides.{other}
use Rattle.updates.specs.declared.errors.ChannelError.TheVariants.{WrongSecret}
use Rattle.updates.specs.declared.messages.Tokens.{Tokens}
use Rattle.updates.specs.Refusals.{first_refusal}
use Rattle.channel.specs.declared.commitments.CommitmentState.{CommitmentState}
use Rattle.channel.specs.declared.limits.TheConstants.{LAST_NUMBER}
use Rattle.channel.specs.declared.messages.Message.{Message}
use Rattle.channel.specs.declared.reestablish.Reestablish.{Reestablish}
use Rattle.channel.specs.Points.{secret_at, point_at}
use Rattle.channel.specs.States.{State}
use Rattle.channel.specs.Tokens.{IsBuilt}
use Rattle.channel.specs.Rights.{rights_of}
use Rattle.channel.specs.Keeping.{one_if, IsChannel}
use Rattle.channel.specs.Reestablishing.{no_secret, secret_before, hello, number_tests, hello_refusal}
use Rattle.channel.proofs.Awaited.{last_is, built_at, owner_at, point_at_place}

pub before_some : (seed : List ℕ) (n k : ℕ) → 1 ≤ n → k ≡ n - 1 → secret_before seed n ≡ secret_at seed k
before_some seed zero k l e = absurd (omega (arith, l))
before_some seed (suc n) k l e = let f : n ≡ k = omega (arith, e) in ap (secret_at seed) f

pub before_none : (seed : List ℕ) (n : ℕ) → n ≡ 0 → secret_before seed n ≡ no_secret
before_none seed n e = ap (secret_before seed) e

-- what is said

pub said : (s : State) (number peer_number last : ℕ) (secret : List ℕ) → number ≡ s.number → peer_number ≡ s.peer_number → length s.secrets ≡ s.peer_number → last ≡ peer_number - 1
    → secret ≡ unwrap_or (slice_get s.secrets last) no_secret → record { next_commitment = number + 1; next_revocation = peer_number; last_secret = secret } ≡ hello s
said s number peer_number last secret n p count l e =
    let at : last ≡ length s.secrets - 1 = omega (arith, p, count, l) in
    let f : secret ≡ unwrap_or (slice_get s.secrets (length s.secrets - 1)) no_secret = e ∙ ap (λ k. unwrap_or (slice_get s.secrets k) no_secret) at in
    λ j. record { next_commitment = n j + 1; next_revocation = p j; last_secret = f j }

-- its tests

pub too_large : (s : State) (r : Reestablish) → LAST_NUMBER + 1 < r.next_revocation → hello_refusal s r ≡ Some WrongSecret
too_large s r l = let t : ltb (LAST_NUMBER + 1) r.next_revocation ≡ true = lt-ltb (LAST_NUMBER + 1) r.next_revocation l in rw t refl

pub unlike : (s : State) (r : Reestablish) → r.next_revocation ≤ LAST_NUMBER + 1 → bytes_eq r.last_secret (secret_before s.seed r.next_revocation) ≡ false → hello_refusal s r ≡ Some WrongSecret
unlike s r l e = let t : ltb (LAST_NUMBER + 1) r.next_revocation ≡ false = le-ltb (LAST_NUMBER + 1) r.next_revocation l in rw (t, e) refl

pub behind_passes : (s : State) (r : Reestablish) → r.next_revocation ≤ LAST_NUMBER + 1 → bytes_eq r.last_secret (secret_before s.seed r.next_revocation) ≡ true → s.number < r.next_revocation → hello_refusal s r ≡ None
behind_passes s r l e b =
    let t : ltb (LAST_NUMBER + 1) r.next_revocation ≡ false = le-ltb (LAST_NUMBER + 1) r.next_revocation l in
    let u : ltb s.number r.next_revocation ≡ true = lt-ltb s.number r.next_revocation b in
    rw (t, e, u) refl

pub numbers_decide : (s : State) (r : Reestablish) → r.next_revocation ≤ LAST_NUMBER + 1 → bytes_eq r.last_secret (secret_before s.seed r.next_revocation) ≡ true → r.next_revocation ≤ s.number
    → hello_refusal s r ≡ first_refusal (number_tests s r)
numbers_decide s r l e b =
    let t : ltb (LAST_NUMBER + 1) r.next_revocation ≡ false = le-ltb (LAST_NUMBER + 1) r.next_revocation l in
    let u : ltb s.number r.next_revocation ≡ false = le-ltb s.number r.next_revocation b in
    rw (t, e, u) refl

-- the commitment of a signature whose revocation is awaited

pub record IsAwaited (s : State) (c : CommitmentState) : Type 0 where
  pub last : drop (s.peer_number + 1) s.signed ≡ c ∷ []
  pub built : IsBuilt s.held.terms c
  pub owner : c.owner ≡ other s.held.side
  pub point : Contains (rights_of s).points c.point.bytes

pub awaited_is : (s : State) (r : Rights) (ts : List Tokens) (c : CommitmentState) → IsChannel s r ts → s.awaiting ≡ true → c ≡ get_or s.signed (s.peer_number + 1) c → IsAwaited s c
awaited_is s r ts c i waits is =
    let n = s.peer_number + 1 in
    let one : one_if s.awaiting ≡ 1 = ap one_if waits in
    let count = i.signed.count in
    let below : n < length s.signed = omega (arith, one, count) in
    let many = s.peer_number + 1 + one_if s.awaiting in
    record {
      last = last_is s.signed n c (omega (arith, one, count)) ∙ ap (λ d. d ∷ []) (sym is);
      built = subst (IsBuilt s.held.terms) (sym is) (built_at s.held.terms (other s.held.side) many n s.signed c i.signed below);
      owner = ap (λ (d : CommitmentState). d.owner) is ∙ owner_at s.held.terms (other s.held.side) many n s.signed c i.signed below;
      point =
          Contains-append_right ((point_at s.seed (s.number + 1)).bytes ∷ s.next_point.bytes ∷ map (λ (d : CommitmentState). d.point.bytes) s.mine)
          (map (λ (d : CommitmentState). d.point.bytes) s.signed) c.point.bytes
          (subst (λ (d : CommitmentState). Contains (map (λ (e : CommitmentState). e.point.bytes) s.signed) d.point.bytes) (sym is) (point_at_place s.signed n c below));
    }

-- what is appended, if it is lacking

pub not_lacking : (b lacks : Bool) (old more : List Message) → b ≡ lacks → b ≡ false → old ≡ old ++ cond lacks more []
not_lacking b lacks old more e f = sym (append-nil old) ∙ ap (λ t. old ++ cond t more []) (sym f ∙ e)

pub lacking : (b lacks : Bool) (old more new : List Message) → b ≡ lacks → b ≡ true → new ≡ old ++ more → new ≡ old ++ cond lacks more []
lacking b lacks old more new e f g = g ∙ ap (λ t. old ++ cond t more []) (sym f ∙ e)

-- one list behind another, and both behind what was there
pub one_after_other : (old first second both : List Message) (middle new : List Message) → middle ≡ old ++ first → new ≡ middle ++ second → first ++ second ≡ both → new ≡ old ++ both
one_after_other old first second both middle new e f g = f ∙ ap (λ l. l ++ second) e ∙ append_assoc old first second ∙ ap (λ l. old ++ l) g
