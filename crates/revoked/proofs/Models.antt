-- The commitments of views are read as penalties claim them.
use Rattle.std.proofs.Common.{◌++◌, ◌≡◌, ℕ, zero, suc, ◌+◌, ◌<◌, Bool, true, false, cond, List, [], ◌∷◌, map, length, get_or, Option, Some, refl, sym, ap, ◌∙◌, arith}
use Rattle.std.specs.Prelude.{slice_get, option_map, Contains}
use Rattle.std.specs.List.{find, cons_option, AllByRecursion}
use Rattle.std.specs.Str.{bytes_eq}
use Rattle.std.proofs.lemmas.List.Elements.{recursion_from_All}
use Rattle.std.proofs.lemmas.Slice.Eq.{bytes_eq-Decides}
use Rattle.tx.specs.Parts.{Output}
use Rattle.tx.specs.Fields.{Transaction}
use Rattle.script.specs.Spelling.{spelling}
use Rattle.script.specs.declared.opcode.Op.TheVariants.{If, Dup, Equal, EqualVerify}
use Rattle.sighash.specs.Programs.{script_hash_program, key_hash_program}
use Rattle.terms.specs.declared.htlcs.Htlc.{Htlc}
use Rattle.paths.specs.Listing.{CheckedScript}
use Rattle.claim.specs.declared.parts.Place.{Place}
use Rattle.keys.specs.Derivation.{point_of}
use Rattle.anchor_forms.specs.declared.channel_types.ChannelType.{ChannelType}
use Rattle.anchor_forms.specs.declared.channel_types.ChannelType.TheVariants.{StaticRemoteKey, Anchors}
use Rattle.commit.specs.declared.fees.Direction.{Direction}
use Rattle.commit.specs.declared.fees.Direction.TheVariants.{Offered, Received}
use Rattle.commit.specs.declared.outputs.OutputKind.{OutputKind}
use Rattle.commit.specs.declared.outputs.OutputKind.TheVariants.{ToLocal as PaysLocal, ToRemote as PaysRemote, ToHtlc as PaysHtlc}
use Rattle.commit.specs.declared.outputs.CommitmentOutput.{CommitmentOutput}
use Rattle.commit.specs.declared.outputs.HtlcOutput.{HtlcOutput}
use Rattle.commit.specs.Keys.{KeyBytes}
use Rattle.commit.specs.Outputs.{to_local_script, htlc_script}
use Rattle.commit.specs.Commitments.{Contents, tx_output, transaction_of, htlc_at, htlcs_from, htlc_tx_of, htlc_tx_output}
use Rattle.penalty.specs.Claimable.{Claimable, place_in, htlc_form as penalty_form, penalty_on, payment_on, htlc_penalty_on, claims_by, commitment_in}
use Rattle.penalty.specs.Outputs.{program_of as penalty_program, IsOutput}
use Rattle.penalty.specs.Worth.{stage_on}
use Rattle.penalty.proofs.Standing.{outputs_stand, state_pays}
use Rattle.revoked.specs.Parts.{RevokedParts}
use Rattle.revoked.specs.declared.outputs.RevokedHtlc.{RevokedHtlc}
use Rattle.revoked.specs.declared.outputs.RevokedOutput.{RevokedOutput}
use Rattle.revoked.specs.declared.outputs.RevokedOutput.TheVariants.{ToLocal, ToRemote, ToHtlc}
use Rattle.revoked.specs.Programs.{form_by, form_of_htlc, known_form, known_program, known_outputs, output_with, claim_on_to_local, claim_on_to_remote, claim_on_htlc, claim_on}
use Rattle.revoked.specs.Reading.{claimed_from, unless_found, others_from}
use Rattle.revoked.specs.Telling.{IsAmong, SharesNoProgram, ReadsCommitments, ReadsHtlcTransactions}
use Rattle.revoked.proofs.Table.{is_to_local}

same_bytes : (xs : List ℕ) → bytes_eq xs xs ≡ true
same_bytes xs = (bytes_eq-Decides xs xs).1 refl

-- one of a list that passes a test, so that a search finds one
record Hit {X : Type 0} (test : X → Bool) (xs : List X) : Type 0 where
  one : X
  found : find test xs ≡ Some one
  among : Contains xs one
  passes : test one ≡ true

deeper : {X : Type 0} (x : X) (xs : List X) (y : X) → Contains xs y → Contains (x ∷ xs) y
deeper x xs y (k, l, e) = (suc k, omega (arith, l), e)

hit : {X : Type 0} (test : X → Bool) (xs : List X) (k : ℕ) (y : X) → k < length xs → get_or xs k y ≡ y → test y ≡ true → Hit test xs
hit test [] k y l e p = absurd (omega (arith, l))
hit test (x ∷ xs) zero y l e p =
    let t : test x ≡ true = ap test e ∙ p in
    record { one = x; found = ap (λ b. cond b (Some x) (find test xs)) t; among = (0, omega arith, refl); passes = t }
hit test (x ∷ xs) (suc k) y l e p = at (test x) refl (hit test xs k y (omega (arith, l)) e p)
  where
    at : (b : Bool) → test x ≡ b → Hit test xs → Hit test (x ∷ xs)
    at true t h = record { one = x; found = ap (λ b. cond b (Some x) (find test xs)) t; among = (0, omega arith, refl); passes = t }
    at false t h = record { one = h.one; found = ap (λ b. cond b (Some x) (find test xs)) t ∙ h.found; among = deeper x xs h.one h.among; passes = h.passes }

-- the opcodes at which the forms differ
dup_first : (t : ChannelType) (k : KeyBytes) (direction : Direction) (hash : List ℕ) (expiry_height : ℕ) → slice_get (form_by t k direction hash expiry_height).ops 0 ≡ Some Dup
dup_first StaticRemoteKey k Offered hash expiry_height = refl
dup_first StaticRemoteKey k Received hash expiry_height = refl
dup_first Anchors k Offered hash expiry_height = refl
dup_first Anchors k Received hash expiry_height = refl

equal_fourth : (t : ChannelType) (k : KeyBytes) (direction : Direction) (hash : List ℕ) (expiry_height : ℕ) → slice_get (form_by t k direction hash expiry_height).ops 3 ≡ Some Equal
equal_fourth StaticRemoteKey k Offered hash expiry_height = refl
equal_fourth StaticRemoteKey k Received hash expiry_height = refl
equal_fourth Anchors k Offered hash expiry_height = refl
equal_fourth Anchors k Received hash expiry_height = refl

if_dup : Some If ≡ Some Dup → ⊥
if_dup e = cc

verify_equal : Some EqualVerify ≡ Some Equal → ⊥
verify_equal e = cc

-- the first opcode of two forms, and the fourth
first_of : (f g : CheckedScript) → f ≡ g → slice_get f.ops 0 ≡ slice_get g.ops 0
first_of f g e = ap (λ (x : CheckedScript). slice_get x.ops 0) e

fourth_of : (f g : CheckedScript) → f ≡ g → slice_get f.ops 3 ≡ slice_get g.ops 3
fourth_of f g e = ap (λ (x : CheckedScript). slice_get x.ops 3) e

-- two outputs of one form are claimed alike
alike : (r : RevokedParts) (place : Place) (a b : RevokedOutput) → known_form r a ≡ known_form r b → claim_on r a place ≡ claim_on r b place
alike r place ToLocal ToLocal e = refl
alike r place ToRemote ToRemote e = refl
alike r place (ToHtlc g) (ToHtlc h) e = ap (λ (f : CheckedScript). record (claim_on_htlc r.channel_type r.keys g place) { form = f }) e
alike r place ToLocal ToRemote e = absurd (if_dup (first_of (known_form r ToLocal) (known_form r ToRemote) e))
alike r place ToRemote ToLocal e = absurd (if_dup (sym (first_of (known_form r ToRemote) (known_form r ToLocal) e)))
alike r place ToLocal (ToHtlc h) e =
    absurd (if_dup (first_of (known_form r ToLocal) (form_of_htlc r.channel_type r.keys h) e ∙ dup_first r.channel_type r.keys h.direction h.hash h.expiry.height))
alike r place (ToHtlc h) ToLocal e =
    absurd (if_dup (sym (first_of (form_of_htlc r.channel_type r.keys h) (known_form r ToLocal) e) ∙ dup_first r.channel_type r.keys h.direction h.hash h.expiry.height))
alike r place ToRemote (ToHtlc h) e =
    absurd (verify_equal (fourth_of (known_form r ToRemote) (form_of_htlc r.channel_type r.keys h) e ∙ equal_fourth r.channel_type r.keys h.direction h.hash h.expiry.height))
alike r place (ToHtlc h) ToRemote e =
    absurd (verify_equal (sym (fourth_of (form_of_htlc r.channel_type r.keys h) (known_form r ToRemote) e) ∙ equal_fourth r.channel_type r.keys h.direction h.hash h.expiry.height))

-- an output of the commitment is among the known ones, with this program and this claim
record IsKnown (r : RevokedParts) (program : List ℕ) (place : Place) (claim : Claimable) : Type 0 where
  known : RevokedOutput
  among : Contains (known_outputs r) known
  program_is : known_program r known ≡ program
  claim_is : claim_on r known place ≡ claim

-- so that it is found, or another of the same form
record IsFound (r : RevokedParts) (program : List ℕ) (place : Place) (claim : Claimable) : Type 0 where
  known : RevokedOutput
  found : output_with r program ≡ Some known
  claim_is : claim_on r known place ≡ claim

found_of : (r : RevokedParts) (program : List ℕ) (place : Place) (claim : Claimable) → SharesNoProgram r → IsKnown r program place claim → IsFound r program place claim
unfolding output_with
found_of r program place claim s k =
    let h : Hit (λ o. bytes_eq (known_program r o) program) (known_outputs r) =
    hit (λ o. bytes_eq (known_program r o) program) (known_outputs r) k.among.0 k.known k.among.1 k.among.2 ((bytes_eq-Decides _ _).1 k.program_is) in
    let same : known_program r h.one ≡ known_program r k.known = (bytes_eq-Decides (known_program r h.one) program).0 h.passes ∙ sym k.program_is in
    record { known = h.one; found = h.found; claim_is = alike r place h.one k.known (s h.one k.known h.among k.among same) ∙ k.claim_is }

-- the model's programs are those of the forms
local_program : (t : ChannelType) (k : KeyBytes) (delay_blocks : ℕ) (htlcs : List RevokedHtlc)
    → known_program (record { channel_type = t; keys = k; delay_blocks = delay_blocks; htlcs = htlcs }) ToLocal ≡ script_hash_program (to_local_script delay_blocks k)
unfolding to_local_script
local_program t k delay_blocks htlcs = refl

same_form : (k : KeyBytes) (direction : Direction) (h : Htlc) → form_by StaticRemoteKey k direction h.hash h.expiry_height ≡ penalty_form k direction h
same_form k Offered h = refl
same_form k Received h = refl

same_script : (k : KeyBytes) (direction : Direction) (h : Htlc) → htlc_script k direction h ≡ spelling (penalty_form k direction h).ops
unfolding htlc_script
same_script k Offered h = refl
same_script k Received h = refl

module _ (r : RevokedParts) (c : Contents) (type_is : r.channel_type ≡ StaticRemoteKey) (keys : r.keys ≡ c.keys) (delay : r.delay_blocks ≡ c.delay_blocks) where
  of_local : known_program r ToLocal ≡ penalty_program c.delay_blocks c.keys PaysLocal
  of_local = local_program r.channel_type r.keys r.delay_blocks r.htlcs ∙ ap (λ k. script_hash_program (to_local_script r.delay_blocks k)) keys ∙ ap (λ n. script_hash_program (to_local_script n c.keys)) delay

  local_is : (place : Place) → claim_on r ToLocal place ≡ penalty_on c place
  local_is place = ap (λ k. claim_on_to_local k r.delay_blocks place) keys ∙ ap (λ n. claim_on_to_local c.keys n place) delay

  of_remote : known_program r ToRemote ≡ penalty_program c.delay_blocks c.keys PaysRemote
  of_remote = ap (λ (k : KeyBytes). key_hash_program k.remote) keys

  remote_is : (place : Place) → claim_on r ToRemote place ≡ payment_on c place
  remote_is place = ap (λ k. claim_on_to_remote k place) keys

  form_is : (x : RevokedHtlc) (direction : Direction) (h : Htlc) → x.direction ≡ direction → x.hash ≡ h.hash → x.expiry.height ≡ h.expiry_height → form_of_htlc r.channel_type r.keys x ≡ penalty_form c.keys direction h
  form_is x direction h e f g =
      ap (λ t. form_by t r.keys x.direction x.hash x.expiry.height) type_is
      ∙ ap (λ k. form_by StaticRemoteKey k x.direction x.hash x.expiry.height) keys
      ∙ ap (λ d. form_by StaticRemoteKey c.keys d x.hash x.expiry.height) e
      ∙ ap (λ b. form_by StaticRemoteKey c.keys direction b x.expiry.height) f
      ∙ ap (λ n. form_by StaticRemoteKey c.keys direction h.hash n) g
      ∙ same_form c.keys direction h

  of_htlc : (x : RevokedHtlc) (direction : Direction) (h : Htlc) → form_of_htlc r.channel_type r.keys x ≡ penalty_form c.keys direction h → known_program r (ToHtlc x) ≡ penalty_program c.delay_blocks c.keys (PaysHtlc direction h)
  of_htlc x direction h e = ap (λ (f : CheckedScript). script_hash_program (spelling f.ops)) e ∙ ap script_hash_program (sym (same_script c.keys direction h))

  htlc_is : (x : RevokedHtlc) (direction : Direction) (h : Htlc) (place : Place) → form_of_htlc r.channel_type r.keys x ≡ penalty_form c.keys direction h → claim_on r (ToHtlc x) place ≡ htlc_penalty_on c direction h place
  htlc_is x direction h place e =
      ap (λ k. claim_on_htlc r.channel_type k x place) keys
      ∙ ap (λ (f : CheckedScript). record (claim_on_htlc r.channel_type c.keys x place) { form = f }) (ap (λ k. form_of_htlc r.channel_type k x) (sym keys) ∙ e)

  -- the claim on an output while no HTLC transaction is on the chain
  abbrev stage : Place → OutputKind → Claimable
  stage place PaysLocal = penalty_on c place
  stage place PaysRemote = payment_on c place
  stage place (PaysHtlc direction h) = htlc_penalty_on c direction h place

  at_htlcs : (htlcs : List RevokedHtlc) (x : RevokedHtlc) → Contains htlcs x → Contains (map ToHtlc htlcs) (ToHtlc x)
  at_htlcs [] x (k, l, e) = absurd (omega (arith, l))
  at_htlcs (y ∷ ys) x (zero, l, e) = (0, omega arith, ap ToHtlc e)
  at_htlcs (y ∷ ys) x (suc k, l, e) = deeper (ToHtlc y) (map ToHtlc ys) (ToHtlc x) (at_htlcs ys x (k, omega (arith, l), e))

  known_of : (i : ℕ) (place : Place) (program : List ℕ) (kind : OutputKind) (rest : List HtlcOutput) → AllByRecursion (IsAmong r.htlcs) (cons_option (htlc_at i kind) rest)
      → program ≡ penalty_program c.delay_blocks c.keys kind → IsKnown r program place (stage place kind)
  known_of i place program PaysLocal rest a e = record { known = ToLocal; among = (0, omega arith, refl); program_is = of_local ∙ sym e; claim_is = local_is place }
  known_of i place program PaysRemote rest a e = record { known = ToRemote; among = (1, omega arith, refl); program_is = of_remote ∙ sym e; claim_is = remote_is place }
  known_of i place program (PaysHtlc direction h) rest a e =
      let x : RevokedHtlc = a.0.htlc in
      let f : form_of_htlc r.channel_type r.keys x ≡ penalty_form c.keys direction h = form_is x direction h a.0.direction a.0.hash a.0.expiry in
      record {
        known = ToHtlc x;
        among = deeper ToLocal (ToRemote ∷ map ToHtlc r.htlcs) (ToHtlc x) (deeper ToRemote (map ToHtlc r.htlcs) (ToHtlc x) (at_htlcs r.htlcs x a.0.among));
        program_is = of_htlc x direction h f ∙ sym e;
        claim_is = htlc_is x direction h place f;
      }

  rest_of : (i : ℕ) (kind : OutputKind) (rest : List HtlcOutput) → AllByRecursion (IsAmong r.htlcs) (cons_option (htlc_at i kind) rest) → AllByRecursion (IsAmong r.htlcs) rest
  rest_of i PaysLocal rest a = a
  rest_of i PaysRemote rest a = a
  rest_of i (PaysHtlc direction h) rest a = a.1

  staged_as : (i : ℕ) (place : Place) (kind : OutputKind) (rest : List Claimable) → stage place kind ∷ rest ≡ stage_on (λ _. false) c i place kind ++ rest
  staged_as i place PaysLocal rest = refl
  staged_as i place PaysRemote rest = refl
  staged_as i place (PaysHtlc direction h) rest = refl

  module _ (alone : SharesNoProgram r) where
    reads_from : (i : ℕ) (os : List CommitmentOutput) → AllByRecursion (λ o. IsOutput c.delay_blocks c.keys o) os → AllByRecursion (IsAmong r.htlcs) (htlcs_from i os)
        → claimed_from r (transaction_of c) i (map tx_output os) ≡ claims_by (stage_on (λ _. false) c) c i os
    unfolding claimed_from claims_by htlcs_from
    reads_from i [] a b = refl
    reads_from i (o ∷ os) a b =
        let place : Place = place_in (transaction_of c) i (tx_output o) in
        let f : IsFound r o.program place (stage place o.kind) = found_of r o.program place (stage place o.kind) alone (known_of i place o.program o.kind (htlcs_from (i + 1) os) b a.0.program) in
        ap (λ (x : Option RevokedOutput). cons_option (option_map (λ k. claim_on r k place) x) (claimed_from r (transaction_of c) (i + 1) (map tx_output os))) f.found
        ∙ ap (λ x. x ∷ claimed_from r (transaction_of c) (i + 1) (map tx_output os)) f.claim_is
        ∙ ap (λ xs. stage place o.kind ∷ xs) (reads_from (i + 1) os a.1 (rest_of i o.kind (htlcs_from (i + 1) os) b))
        ∙ staged_as i place o.kind (claims_by (stage_on (λ _. false) c) c (i + 1) os)

    none_from : (i : ℕ) (os : List CommitmentOutput) → AllByRecursion (λ o. IsOutput c.delay_blocks c.keys o) os → AllByRecursion (IsAmong r.htlcs) (htlcs_from i os)
        → others_from r i (map tx_output os) ≡ []
    unfolding others_from htlcs_from
    none_from i [] a b = refl
    none_from i (o ∷ os) a b =
        let place : Place = place_in (transaction_of c) i (tx_output o) in
        let f : IsFound r o.program place (stage place o.kind) = found_of r o.program place (stage place o.kind) alone (known_of i place o.program o.kind (htlcs_from (i + 1) os) b a.0.program) in
        ap (λ x. cons_option (unless_found x i) (others_from r (i + 1) (map tx_output os))) f.found
        ∙ none_from (i + 1) os a.1 (rest_of i o.kind (htlcs_from (i + 1) os) b)

  htlc_tx_found : (h : HtlcOutput) → output_with r (htlc_tx_output c h).script ≡ Some ToLocal
  htlc_tx_found h = is_to_local r (htlc_tx_output c h).script ((bytes_eq-Decides _ _).1 of_local)

outputs_of_transaction : (c : Contents) → (transaction_of c).outputs ≡ map tx_output c.outputs
unfolding transaction_of
outputs_of_transaction c = refl

outputs_of_htlc_tx : (c : Contents) (h : HtlcOutput) → (htlc_tx_of c h).outputs ≡ htlc_tx_output c h ∷ []
unfolding htlc_tx_of
outputs_of_htlc_tx c h = refl

pub reads : ReadsCommitments
reads s r k alone =
    let c = commitment_in s in
    let stand = recursion_from_All (λ o. IsOutput c.delay_blocks c.keys o) c.outputs (outputs_stand s.terms s.view s.owner s.number (point_of s.secret) (state_pays s)).each in (
      ap (claimed_from r (transaction_of c) 0) (outputs_of_transaction c) ∙ reads_from r c k.channel_type k.keys k.delay alone 0 c.outputs stand k.htlcs,
      ap (others_from r 0) (outputs_of_transaction c) ∙ none_from r c k.channel_type k.keys k.delay alone 0 c.outputs stand k.htlcs,
    )

one_claim : (r : RevokedParts) (c : Contents) (t : Transaction) (o : Output) → r.channel_type ≡ StaticRemoteKey → r.keys ≡ c.keys → r.delay_blocks ≡ c.delay_blocks → output_with r o.script ≡ Some ToLocal
    → claimed_from r t 0 (o ∷ []) ≡ penalty_on c (place_in t 0 o) ∷ []
unfolding claimed_from
one_claim r c t o type_is keys delay e =
    ap (λ (x : Option RevokedOutput). cons_option (option_map (λ k. claim_on r k (place_in t 0 o)) x) []) e
    ∙ ap (λ x. x ∷ []) (local_is r c type_is keys delay (place_in t 0 o))

no_other : (r : RevokedParts) (o : Output) → output_with r o.script ≡ Some ToLocal → others_from r 0 (o ∷ []) ≡ []
unfolding others_from
no_other r o e = ap (λ x. cons_option (unless_found x 0) []) e

pub reads_htlc_tx : ReadsHtlcTransactions
reads_htlc_tx s r h k =
    let c = commitment_in s in
    let f = htlc_tx_found r c k.channel_type k.keys k.delay h in (
      ap (claimed_from r (htlc_tx_of c h) 0) (outputs_of_htlc_tx c h) ∙ one_claim r c (htlc_tx_of c h) (htlc_tx_output c h) k.channel_type k.keys k.delay f,
      ap (others_from r 0) (outputs_of_htlc_tx c h) ∙ no_other r (htlc_tx_output c h) f,
    )
