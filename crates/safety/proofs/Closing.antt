-- Who closes a channel.
use Rattle.std.proofs.Common.{◌≡◌, ℕ, ◌+◌, ◌^◌, ◌<◌, ◌≤◌, Bool, true, false, List, [], ◌∷◌, length, Option, Some, None, sym, ap, ◌∙◌, refl, subst, inl, inr, ⊎_elim, arith}
use Rattle.std.specs.Prelude.{◌⊎◌, slice_get, if◌then◌else◌}
use Rattle.std.specs.List.{Contains, AllByRecursion}
use Rattle.std.proofs.lemmas.Bool.{false≢true, cases_lt}
use Rattle.std.proofs.lemmas.Option.{slice_get_within}
use Rattle.std.proofs.lemmas.List.Elements.{All-from_recursion, All-contains}
use Rattle.script.specs.Spelling.{spelling}
use Rattle.script.specs.Token.{is_key}
use Rattle.script.specs.Run.{Clean}
use Rattle.tx.specs.declared.input.OutPoint.{OutPoint}
use Rattle.tx.specs.declared.input.TxIn.{TxIn}
use Rattle.tx.specs.Fields.{Transaction, signed_input, unsigned_transaction}
use Rattle.sighash.specs.Programs.{spend_of, run_of, script_hash_program}
use Rattle.chain.specs.Blocks.{Contents as Block, Coin, coin_at}
use Rattle.terms.specs.declared.sides.Side.{Side}
use Rattle.terms.specs.declared.sides.Side.TheVariants.{A, B}
use Rattle.terms.specs.declared.agreement.Terms.{Terms}
use Rattle.terms.specs.Agreement.{party}
use Rattle.terms.specs.Scripts.{is_lesser, two_of_two, funding}
use Rattle.forms.proofs.Forms.{key_length}
use Rattle.claim.specs.Claims.{ClaimParts}
use Rattle.filling.specs.Filling.{script_of}
use Rattle.commit.specs.declared.fees.Direction.{Direction}
use Rattle.commit.specs.declared.fees.Direction.TheVariants.{Offered, Received}
use Rattle.commit.specs.Keys.{KeyBytes}
use Rattle.terms.specs.declared.htlcs.Htlc.{Htlc}
use Rattle.commit.specs.declared.outputs.HtlcOutput.{HtlcOutput}
use Rattle.commit.specs.Commitments.{Contents, commitment_of, transaction_of}
use Rattle.commit.specs.Signing.{funding_script}
use Rattle.penalty.specs.Claimable.{Claimable, htlc_form}
use Rattle.penalty.specs.Sets.{claimed_by}
use Rattle.penalty.proofs.Programs.{same_htlc}
use Rattle.channel.specs.declared.commitments.CommitmentState.{CommitmentState}
use Rattle.channel.specs.Keeping.{one_if}
use Rattle.channel.specs.Tokens.{contents_of}
use Rattle.safety.specs.Signing.{AreSame}
use Rattle.safety.specs.Spending.{IsSignedBy}
use Rattle.safety.specs.Standing.{StandsAt}
use Rattle.safety.specs.Satisfying.{HasToken as Satisfied}
use Rattle.safety.specs.Fates.{htlc_signed}
use Rattle.safety.specs.Places.{IsOwnersClaim, delayed, second_stage, delayed_second, IsPeersClaim, payment, direct, IsRevokedClaim, penalty, own_payment, htlc_penalty, second_penalty}
use Rattle.safety.specs.Holdings.{Release, claim_signed, Holding, terms_in, funding_key_in, IsOnRecorded, on_own, on_peers, on_revoked, IsRightful, KeepsRules}
use Rattle.safety.specs.Given.{GivenToken, commitment_signed}
use Rattle.safety.specs.Premises.{spend, funding_lock}
use Rattle.safety.specs.Breaks.{Breaks, by_script}
use Rattle.safety.specs.Closers.{IsCloser, revoked, newest, next, own, IsWatched, IsClosedBy, by_commitment, by_collision, WhoCloses}
use Rattle.safety.proofs.Lists.{some_is}
use Rattle.safety.proofs.Limits.{no_longer}
use Rattle.safety.proofs.Ran.{LastCollides, Ran, ran_last}
use Rattle.safety.proofs.Satisfied.{funding_satisfied}
use Rattle.safety.proofs.Seconds.{bare_commitment}
use Rattle.safety.proofs.Places.{owners_places, peers_places, revoked_places}
use Rattle.safety.proofs.Handed.{funding_parsed, peers_payable, IsFrom, with_peers, with_htlc, with_released, with_own}
use Rattle.safety.proofs.Own.{kept_one, funding_locked, funding_key_own, Names, spend_on_chain, ShowsOwn, shows_own}
use Rattle.safety.proofs.Reading.{secret_key, read}

-- ---- how scripts begin

abbrev pub first_byte : List ℕ → ℕ
first_byte [] = 0
first_byte (b ∷ bs) = b

funding_starts : (terms : Terms) → first_byte (funding_script terms) ≡ 0x52
unfolding funding_script
funding_starts terms = by (is_lesser terms.b.bases.funding.bytes terms.a.bases.funding.bytes)
  where
    by : (b : Bool) → first_byte (spelling (if b then two_of_two terms.b.bases.funding.bytes terms.a.bases.funding.bytes else two_of_two terms.a.bases.funding.bytes terms.b.bases.funding.bytes)) ≡ 0x52
    by true = refl
    by false = refl

htlc_starts : (k : KeyBytes) (direction : Direction) (h : Htlc) → first_byte (spelling (htlc_form k direction h).ops) ≡ 0x76
htlc_starts k Offered h = refl
htlc_starts k Received h = refl

-- a script that begins with another byte
pub no_funding : (code : List ℕ) (b : ℕ) → first_byte code ≡ b → (b ≡ 0x63) ⊎ (b ≡ 0x76) → (terms : Terms) → code ≡ funding_script terms → ⊥
no_funding code b s (inl l) terms e = let f = funding_starts terms in let g = ap first_byte e in omega (arith, s, l, f, g)
no_funding code b s (inr r) terms e = let f = funding_starts terms in let g = ap first_byte e in omega (arith, s, r, f, g)

abbrev starts_with : Claimable → ℕ
starts_with o = first_byte (spelling o.form.ops)

pub htlc_no_funding : (k : KeyBytes) (direction : Direction) (h : Htlc) (terms : Terms) → spelling (htlc_form k direction h).ops ≡ funding_script terms → ⊥
htlc_no_funding k direction h terms e = no_funding (spelling (htlc_form k direction h).ops) 0x76 (htlc_starts k direction h) (inr refl) terms e

owners_start : (c : Contents) (o : Claimable) → IsOwnersClaim c o → (terms : Terms) → spelling o.form.ops ≡ funding_script terms → ⊥
owners_start c o (delayed index output at e) terms f = no_funding (spelling o.form.ops) 0x63 (ap starts_with e) (inl refl) terms f
owners_start c o (second_stage h output at e) terms f = no_funding (spelling o.form.ops) 0x76 (ap starts_with e ∙ htlc_starts c.keys h.direction h.htlc) (inr refl) terms f
owners_start c o (delayed_second h output at e) terms f = no_funding (spelling o.form.ops) 0x63 (ap starts_with e) (inl refl) terms f

peers_start_msat : (c : Contents) (o : Claimable) → IsPeersClaim c o → (terms : Terms) → spelling o.form.ops ≡ funding_script terms → ⊥
peers_start_msat c o (payment index output at e) terms f = no_funding (spelling o.form.ops) 0x76 (ap starts_with e) (inr refl) terms f
peers_start_msat c o (direct h output at e) terms f = no_funding (spelling o.form.ops) 0x76 (ap starts_with e ∙ htlc_starts c.keys h.direction h.htlc) (inr refl) terms f

pub revoked_start : (c : Contents) (o : Claimable) → IsRevokedClaim c o → (terms : Terms) → spelling o.form.ops ≡ funding_script terms → ⊥
revoked_start c o (penalty index output at e) terms f = no_funding (spelling o.form.ops) 0x63 (ap starts_with e) (inl refl) terms f
revoked_start c o (own_payment index output at e) terms f = no_funding (spelling o.form.ops) 0x76 (ap starts_with e) (inr refl) terms f
revoked_start c o (htlc_penalty h output at e) terms f = no_funding (spelling o.form.ops) 0x76 (ap starts_with e ∙ htlc_starts c.keys h.direction h.htlc) (inr refl) terms f
revoked_start c o (second_penalty h output at e) terms f = no_funding (spelling o.form.ops) 0x63 (ap starts_with e) (inl refl) terms f

-- no claim of a release is on a funding output
claim_starts : (h : Holding) (x : ClaimParts) → IsOnRecorded h x → (terms : Terms) → script_of x ≡ funding_script terms → ⊥
claim_starts h x (on_own n k there preimages i) terms f = owners_start (contents_of (terms_in h) k) (claimed_by x) (owners_places preimages (contents_of (terms_in h) k) (claimed_by x) i).0 terms f
claim_starts h x (on_peers n k there preimages i) terms f = peers_start_msat (contents_of (terms_in h) k) (claimed_by x) (peers_places preimages (contents_of (terms_in h) k) (claimed_by x) i).0 terms f
claim_starts h x (on_revoked n k there i) terms f = revoked_start (contents_of (terms_in h) k) (claimed_by x) (revoked_places (contents_of (terms_in h) k) (claimed_by x) i).0 terms f

-- ---- which commitment it is

-- one of the peer's, by its number
of_peers : (h : Holding) → KeepsRules h → (n : ℕ) (k : CommitmentState) → slice_get h.state.signed n ≡ Some k → IsCloser h k
of_peers h kept n k there = by (cases_lt n h.state.peer_number) h.state.awaiting refl
  where
    by : (n < h.state.peer_number) ⊎ (h.state.peer_number ≤ n) → (b : Bool) → h.state.awaiting ≡ b → IsCloser h k
    by (inl l) b e = revoked n there (kept.revealed n k l there)
    by (inr l) false e =
        let within = slice_get_within h.state.signed n k there in
        let count : length h.state.signed ≡ h.state.peer_number + 1 + one_if false = kept.numbered.signed.count ∙ ap (λ (c : Bool). h.state.peer_number + 1 + one_if c) e in
        let at : n ≡ h.state.peer_number = omega (arith, l, within, count) in
        newest (ap (slice_get h.state.signed) (sym at) ∙ there)
    by (inr l) true e =
        let within = slice_get_within h.state.signed n k there in
        let count : length h.state.signed ≡ h.state.peer_number + 1 + one_if true = kept.numbered.signed.count ∙ ap (λ (c : Bool). h.state.peer_number + 1 + one_if c) e in
        ⊎_elim {C = IsCloser h k}
        (λ (m : n < h.state.peer_number + 1). let at : n ≡ h.state.peer_number = omega (arith, l, m) in newest (ap (slice_get h.state.signed) (sym at) ∙ there))
        (λ (m : h.state.peer_number + 1 ≤ n). let at : n ≡ h.state.peer_number + 1 = omega (arith, m, within, count) in next e (ap (slice_get h.state.signed) (sym at) ∙ there))
        (cases_lt n (h.state.peer_number + 1))

-- ---- the input that takes the funding output

abbrev out_of : TxIn → OutPoint
out_of i = i.outpoint

-- the node's own key is one of the two
own_form : (terms : Terms) (side : Side) → is_key (party side terms).bases.funding.bytes ≡ true
own_form terms side = (party side terms).bases.funding.form

-- what a transaction that takes the funding output shows of the node's key
pub shown : (terms : Terms) (side : Side) (t : Transaction) (input : TxIn) (counted tallest : ℕ) → run_of t input (record { value = terms.capacity_sat; script = script_hash_program (funding_script terms) }) ≡ Some (Clean counted tallest)
    → IsSignedBy (party side terms).bases.funding.bytes (spend (funding_lock terms) t input) ⊎ LastCollides (funding_script terms) input.witness
shown terms side t input counted tallest run =
    let first = terms.a.bases.funding.bytes in
    let second = terms.b.bases.funding.bytes in
    ⊎_elim {C = IsSignedBy (party side terms).bases.funding.bytes (spend (funding_lock terms) t input) ⊎ LastCollides (funding_script terms) input.witness}
    (λ (w : LastCollides (funding_script terms) input.witness). inr w)
    (λ (r : Ran t input (funding_script terms) terms.capacity_sat (funding first second) counted tallest).
    let both = funding_satisfied first second terms.a.bases.funding.form terms.b.bases.funding.form (spend_of t input (funding_script terms) terms.capacity_sat) r.items counted tallest r.clean in
    inl (by side r.items r.among both))
    (ran_last t input (funding_script terms) terms.capacity_sat (funding first second) counted tallest (funding_parsed terms) run)
  where
    by : (s : Side) (items : List (List ℕ)) → ((x : List ℕ) → Contains items x → Contains input.witness x)
        → Satisfied (spend_of t input (funding_script terms) terms.capacity_sat) items terms.a.bases.funding.bytes × Satisfied (spend_of t input (funding_script terms) terms.capacity_sat) items terms.b.bases.funding.bytes
        → IsSignedBy (party s terms).bases.funding.bytes (spend (funding_lock terms) t input)
    by A items among both = among _ both.0
    by B items among both = among _ both.1

-- the outpoint that a commitment spends
commitment_spends : (terms : Terms) (k : CommitmentState) → (contents_of terms k).funding ≡ terms.funding
unfolding commitment_of
commitment_spends terms k = refl

-- the node's own newest one, with which it closed the channel
of_own : (h : Holding) → KeepsRules h → (n : ℕ) (k : CommitmentState) → h.closed ≡ Some n → slice_get h.state.mine n ≡ Some k → IsCloser h k
of_own h kept n k closed there =
    let at : n ≡ h.state.number = kept.newest n closed in
    own (closed ∙ ap Some at) (ap (slice_get h.state.mine) (sym at) ∙ there)

-- a claim of a release is on what a recorded commitment gives the node
recorded_claim : (h : Holding) → KeepsRules h → (r : Release) → Contains h.releases r → (x : ClaimParts) → Contains r.claims x → IsOnRecorded h x
recorded_claim h kept r i x j =
    let rightful : IsRightful h r = All-contains (IsRightful h) h.releases r (All-from_recursion (IsRightful h) h.releases kept.releases) i in
    All-contains (IsOnRecorded h) r.claims x (All-from_recursion (IsOnRecorded h) r.claims rightful.recorded) j

pub who_closes : WhoCloses
who_closes hs blocks v h held coin there height t input stands within names =
    let lock = funding_lock (terms_in h) in
    let n : Names hs blocks (funding_lock (terms_in h)) height t input = record { locked = funding_locked hs h held; coin = coin; there = there; stands = stands; within = within; names = names } in
    let r = read hs blocks v.ledger lock height t input n in
    let ours = funding_key_own hs h held in
    let long = key_length (funding_key_in h) (own_form (terms_in h) h.state.held.side) in
    let short = no_longer (funding_script (terms_in h)) _ (funding_parsed (terms_in h)) in
    let low = (terms_in h).limited in
    ⊎_elim {C = IsClosedBy hs blocks h t}
    (λ (s : IsSignedBy (funding_key_in h) (spend (funding_lock (terms_in h)) t (signed_input input r.items))).
    ⊎_elim {C = IsClosedBy hs blocks h t} (λ (x : ShowsOwn hs (funding_key_in h) (spend (funding_lock (terms_in h)) t input)). by x.holding x.held x.token x.from x.same)
    (λ (z : Breaks hs blocks). by_collision z)
    (shows_own hs blocks v lock height t input n short (omega (arith, low)) (funding_key_in h) long ours (r.signed (funding_key_in h) (secret_key hs (funding_key_in h) ours) long s)))
    (λ (w : LastCollides (funding_script (terms_in h)) r.items). by_collision (by_script (spend (funding_lock (terms_in h)) t input) (spend_on_chain hs blocks lock height t input n) (r.script (funding_script (terms_in h)) w)))
    (shown (terms_in h) h.state.held.side t (signed_input input r.items) r.counted r.tallest r.clean)
  where
    -- a commitment of one funding output is of this channel
    same_holding : (g : Holding) → Contains hs g → (m : CommitmentState) → AreSame (spend (funding_lock (terms_in h)) t input) (commitment_signed (terms_in g) m) → h ≡ g
    same_holding g also m s = v.kept.apart h g held also (sym names ∙ ap out_of s.input ∙ commitment_spends (terms_in g) m)

    by : (g : Holding) → Contains hs g → (z : GivenToken) → IsFrom g z → AreSame (spend (funding_lock (terms_in h)) t input) z.over → IsClosedBy hs blocks h t
    by g also z (with_peers i m at e) same =
        let s : AreSame (spend (funding_lock (terms_in h)) t input) (commitment_signed (terms_in g) m) = subst (λ (y : GivenToken). AreSame (spend (funding_lock (terms_in h)) t input) y.over) e same in
        let is : h ≡ g = same_holding g also m s in
        by_commitment m (of_peers h (kept_one hs v.kept h held) i m (subst (λ (y : Holding). slice_get y.state.signed i ≡ Some m) (sym is) at))
        (s.transaction ∙ bare_commitment (contents_of (terms_in g) m) ∙ ap (λ (y : Holding). transaction_of (contents_of (terms_in y) m)) (sym is))
    by g also z (with_own i m closed at e) same =
        let s : AreSame (spend (funding_lock (terms_in h)) t input) (commitment_signed (terms_in g) m) = subst (λ (y : GivenToken). AreSame (spend (funding_lock (terms_in h)) t input) y.over) e same in
        let is : h ≡ g = same_holding g also m s in
        by_commitment m (of_own h (kept_one hs v.kept h held) i m (subst (λ (y : Holding). y.closed ≡ Some i) (sym is) closed) (subst (λ (y : Holding). slice_get y.state.mine i ≡ Some m) (sym is) at))
        (s.transaction ∙ bare_commitment (contents_of (terms_in g) m) ∙ ap (λ (y : Holding). transaction_of (contents_of (terms_in y) m)) (sym is))
    by g also z (with_released r j x l slot e) same =
        let s : AreSame (spend (funding_lock (terms_in h)) t input) (claim_signed r x) = subst (λ (y : GivenToken). AreSame (spend (funding_lock (terms_in h)) t input) y.over) e same in
        absurd (claim_starts g x (recorded_claim g (kept_one hs v.kept g also) r j x l) (terms_in h) (sym s.code))
    by g also z (with_htlc i m at x l e) same =
        let s : AreSame (spend (funding_lock (terms_in h)) t input) (htlc_signed (contents_of (terms_in g) m) x) = subst (λ (y : GivenToken). AreSame (spend (funding_lock (terms_in h)) t input) y.over) e same in
        let code : spelling (htlc_form (contents_of (terms_in g) m).keys x.direction x.htlc).ops ≡ funding_script (terms_in h) = sym (s.code ∙ same_htlc (contents_of (terms_in g) m).keys x.direction x.htlc) in
        absurd (htlc_no_funding (contents_of (terms_in g) m).keys x.direction x.htlc (terms_in h) code)
