-- Commitments of views are read as what is due of them.
use Rattle.std.proofs.Common.{◌≡◌, ℕ, zero, suc, ◌+◌, ◌<◌, Bool, true, false, cond, List, [], ◌∷◌, ◌++◌, map, length, get_or, Option, Some, None, refl, sym, ap, subst, ◌∙◌, append-nil, arith}
use Rattle.std.specs.Prelude.{Contains, ◌&&◌, not, ◌==◌, if◌then◌else◌}
use Rattle.std.specs.List.{cons_option, find, AllByRecursion}
use Rattle.std.specs.Str.{bytes_eq}
use Rattle.std.proofs.lemmas.Bool.{eq-eqb, false≢true}
use Rattle.std.proofs.lemmas.List.Elements.{recursion_from_All}
use Rattle.std.proofs.lemmas.Slice.Eq.{bytes_eq-Decides}
use Rattle.script.specs.Spelling.{spelling}
use Rattle.script.specs.Token.{token_of}
use Rattle.sighash.specs.Programs.{script_hash_program, key_hash_program}
use Rattle.tx.specs.declared.input.OutPoint.{OutPoint}
use Rattle.tx.specs.Parts.{Output}
use Rattle.tx.specs.Fields.{Transaction}
use Rattle.terms.specs.declared.agreement.Terms.{Terms}
use Rattle.terms.specs.declared.htlcs.Htlc.{Htlc}
use Rattle.terms.specs.declared.sides.Side.{Side}
use Rattle.terms.specs.declared.views.View.{View}
use Rattle.terms.specs.Agreement.{party}
use Rattle.paths.specs.Listing.{CheckedScript}
use Rattle.claim.specs.declared.parts.Place.{Place}
use Rattle.claim.specs.declared.parts.Shell.TheVariants.{Open, Fixed}
use Rattle.forms.specs.declared.parameters.Expiry.{Expiry}
use Rattle.forms.specs.Fillings.{Signature, Bytes}
use Rattle.anchor_forms.specs.declared.channel_types.ChannelType.{ChannelType}
use Rattle.anchor_forms.specs.declared.channel_types.ChannelType.TheVariants.{StaticRemoteKey}
use Rattle.commit.specs.declared.fees.Direction.{Direction}
use Rattle.commit.specs.declared.fees.Direction.TheVariants.{Offered, Received}
use Rattle.commit.specs.declared.outputs.OutputKind.{OutputKind}
use Rattle.commit.specs.declared.outputs.OutputKind.TheVariants.{ToLocal as PaysLocal, ToRemote as PaysRemote, ToHtlc as PaysHtlc}
use Rattle.commit.specs.declared.outputs.CommitmentOutput.{CommitmentOutput}
use Rattle.commit.specs.declared.outputs.HtlcOutput.{HtlcOutput}
use Rattle.commit.specs.Amounts.{amounts_of}
use Rattle.commit.specs.Fees.{satoshis_of}
use Rattle.commit.specs.Keys.{KeyBytes, keys_of}
use Rattle.commit.specs.Outputs.{to_local_script, htlc_script}
use Rattle.commit.specs.Commitments.{Contents, commitment_of, tx_output, transaction_of, id_of, htlc_at, htlcs_from, htlc_tx_of, htlc_tx_output, IsHtlcOf, IsOutputOf}
use Rattle.commit.specs.Signing.{htlc_digest}
use Rattle.commit.proofs.Collected.{each_output}
use Rattle.commit.proofs.Shared.{shared}
use Rattle.penalty.specs.Claimable.{Claimable, claimable_with, place_in, htlc_form, claims_by}
use Rattle.penalty.specs.Outputs.{program_of, IsOutput}
use Rattle.penalty.specs.Paying.{CanPay}
use Rattle.penalty.proofs.Standing.{outputs_stand}
use Rattle.resolve.specs.Due.{delayed_on as delayed_due, peers_on, delayed_second_stage, peers_due}
use Rattle.revoked.specs.Deadlines.{if_offered, is_offered_with}
use Rattle.revoked.specs.Parts.{RevokedParts}
use Rattle.revoked.specs.Programs.{form_by, form_of_htlc, known_program, known_outputs, output_with, claim_on_to_remote}
use Rattle.revoked.specs.Telling.{IsAmong}
use Rattle.revoked.specs.declared.outputs.RevokedHtlc.{RevokedHtlc}
use Rattle.revoked.specs.declared.outputs.RevokedOutput.{RevokedOutput}
use Rattle.revoked.specs.declared.outputs.RevokedOutput.TheVariants.{ToLocal, ToRemote, ToHtlc}
use Rattle.unilateral.specs.declared.closes.Whose.{Whose}
use Rattle.unilateral.specs.declared.closes.Whose.TheVariants.{Ours, Theirs}
use Rattle.unilateral.specs.declared.closes.Close.{Close}
use Rattle.unilateral.specs.Claims.{has_fixed_htlc_txs, is_owners, is_peers, delayed_on, item_with_peers_key, item_with_both_keys, has_expiry, with_expiry, with_expiries, expiries_of, second_stage_in, claims_of}
use Rattle.unilateral.specs.Due.{first_stage_on, IsApart, IsCloseOf, ReadsTheirs, ReadsOurs, ReadsOurHtlcTransactions}
use Rattle.unilateral.specs.HtlcTransactions.{htlc_tx_on, digest_on}
use Rattle.unilateral.specs.Reading.{claims_if, claimed_from}

same_bytes : (xs : List ℕ) → bytes_eq xs xs ≡ true
same_bytes xs = (bytes_eq-Decides xs xs).1 refl

deeper : {X : Type 0} (x : X) (xs : List X) (y : X) → Contains xs y → Contains (x ∷ xs) y
deeper x xs y (k, l, e) = (suc k, omega (arith, l), e)

-- one of a list that passes a test, so that a search finds one
record Hit {X : Type 0} (test : X → Bool) (xs : List X) : Type 0 where
  one : X
  found : find test xs ≡ Some one
  among : Contains xs one
  passes : test one ≡ true

hit : {X : Type 0} (test : X → Bool) (xs : List X) (k : ℕ) (y : X) → k < length xs → get_or xs k y ≡ y → test y ≡ true → Hit test xs
hit test [] k y l e p = absurd (omega (arith, l))
hit test (x ∷ xs) zero y l e p =
    let t : test x ≡ true = ap test e ∙ p in
    record { one = x; found = ap (λ b. cond b (Some x) (find test xs)) t; among = (0, omega arith, refl); passes = t }
hit test (x ∷ xs) (suc k) y l e p = at (test x) refl (hit test xs k y (omega (arith, l)) e p)
  where
    at : (b : Bool) → test x ≡ b → Hit test xs → Hit test (x ∷ xs)
    at true t h = record { one = x; found = ap (λ b. cond b (Some x) (find test xs)) t; among = (0, omega arith, refl); passes = t }
    at false t h = record { one = h.one; found = ap (λ b. cond b (Some x) (find test xs)) t ∙ h.found; among = deeper x xs h.one h.among; passes = h.passes }

found_of : (r : RevokedParts) (program : List ℕ) (o : RevokedOutput) → IsApart r → Contains (known_outputs r) o → known_program r o ≡ program → output_with r program ≡ Some o
unfolding output_with
found_of r program o apart among e =
    let h : Hit (λ x. bytes_eq (known_program r x) program) (known_outputs r) = hit (λ x. bytes_eq (known_program r x) program) (known_outputs r) among.0 o among.1 among.2 ((bytes_eq-Decides _ _).1 e) in
    h.found ∙ ap Some (apart h.one o h.among among ((bytes_eq-Decides (known_program r h.one) program).0 h.passes ∙ sym e))

at_htlcs : (htlcs : List RevokedHtlc) (x : RevokedHtlc) → Contains htlcs x → Contains (map ToHtlc htlcs) (ToHtlc x)
at_htlcs [] x (k, l, e) = absurd (omega (arith, l))
at_htlcs (y ∷ ys) x (zero, l, e) = (0, omega arith, ap ToHtlc e)
at_htlcs (y ∷ ys) x (suc k, l, e) = deeper (ToHtlc y) (map ToHtlc ys) (ToHtlc x) (at_htlcs ys x (k, omega (arith, l), e))

known_htlc : (r : RevokedParts) (x : RevokedHtlc) → Contains r.htlcs x → Contains (known_outputs r) (ToHtlc x)
known_htlc r x among = deeper ToLocal (ToRemote ∷ map ToHtlc r.htlcs) (ToHtlc x) (deeper ToRemote (map ToHtlc r.htlcs) (ToHtlc x) (at_htlcs r.htlcs x among))

-- an offered HTLC has one expiry, where no other has its program
are_offered : (d : Direction) (b : Bool) → if_offered d b ≡ true → (d ≡ Offered) × (b ≡ true)
are_offered Offered b e = (refl, e)
are_offered Received b e = absurd (false≢true e)

offered_form : (t : ChannelType) (k : KeyBytes) (x : RevokedHtlc) (hash : List ℕ) (n : ℕ) → x.direction ≡ Offered → x.hash ≡ hash → form_of_htlc t k x ≡ form_by t k Offered hash n
offered_form t k x hash n d e = ap (λ a. form_by t k a x.hash x.expiry.height) d ∙ ap (λ b. form_by t k Offered b x.expiry.height) e

abbrev height_in : RevokedOutput → ℕ
height_in ToLocal = 0
height_in ToRemote = 0
height_in (ToHtlc h) = h.expiry.height

same_height : (r : RevokedParts) (x y : RevokedHtlc) → IsApart r → Contains r.htlcs x → Contains r.htlcs y → x.direction ≡ Offered → is_offered_with x.hash y ≡ true → x.expiry.height ≡ y.expiry.height
same_height r x y apart a b d t =
    let o = are_offered y.direction (bytes_eq y.hash x.hash) t in
    let e : form_of_htlc r.channel_type r.keys x ≡ form_of_htlc r.channel_type r.keys y =
    offered_form r.channel_type r.keys x x.hash 0 d refl ∙ sym (offered_form r.channel_type r.keys y x.hash 0 o.0 ((bytes_eq-Decides y.hash x.hash).0 o.1)) in
    ap height_in (apart (ToHtlc x) (ToHtlc y) (known_htlc r x a) (known_htlc r y b) (ap (λ (f : CheckedScript). script_hash_program (spelling f.ops)) e))

only_one : (hash : List ℕ) (e : Expiry) (hs : List RevokedHtlc) → ((y : RevokedHtlc) → Contains hs y → is_offered_with hash y ≡ true → e.height ≡ y.expiry.height) → with_expiries hash (e ∷ []) hs ≡ e ∷ []
unfolding with_expiries
only_one hash e [] same = refl
only_one hash e (y ∷ ys) same =
    ap (λ es. with_expiries hash es ys) (at (is_offered_with hash y) (same y (0, omega arith, refl)))
    ∙ only_one hash e ys (λ z a. same z (deeper y ys z a))
  where
    at : (b : Bool) → (b ≡ true → e.height ≡ y.expiry.height) → cond (b && not (has_expiry (e ∷ []) y.expiry)) ((e ∷ []) ++ y.expiry ∷ []) (e ∷ []) ≡ e ∷ []
    at false f = refl
    at true f = let g : (e.height == y.expiry.height) ≡ true = eq-eqb e.height y.expiry.height (f refl) in rw g refl

one_expiry : (r : RevokedParts) (x : RevokedHtlc) (d : Direction) → x.direction ≡ d → IsApart r → Contains r.htlcs x → expiries_of d r.htlcs x ≡ x.expiry ∷ []
one_expiry r x Offered d apart among = only_one x.hash x.expiry r.htlcs (λ y a t. same_height r x y apart among a d t)
one_expiry r x Received d apart among = refl

-- the model's programs and forms are those of this crate
local_program : (t : ChannelType) (k : KeyBytes) (delay_blocks : ℕ) (htlcs : List RevokedHtlc)
    → known_program (record { channel_type = t; keys = k; delay_blocks = delay_blocks; htlcs = htlcs }) ToLocal ≡ script_hash_program (to_local_script delay_blocks k)
unfolding to_local_script
local_program t k delay_blocks htlcs = refl

same_form : (k : KeyBytes) (direction : Direction) (h : Htlc) → form_by StaticRemoteKey k direction h.hash h.expiry_height ≡ htlc_form k direction h
same_form k Offered h = refl
same_form k Received h = refl

same_script : (k : KeyBytes) (direction : Direction) (h : Htlc) → htlc_script k direction h ≡ spelling (htlc_form k direction h).ops
unfolding htlc_script
same_script k Offered h = refl
same_script k Received h = refl

-- an HTLC transaction, and its digest
tx_is : (c : Contents) (i : ℕ) (direction : Direction) (h : Htlc) (place : Place) → place.outpoint ≡ record { txid = id_of c; index = i } → place.value ≡ satoshis_of h.amount_msat
    → htlc_tx_on c.keys c.delay_blocks c.feerate_per_kw direction h.expiry_height place ≡ htlc_tx_of c (record { index = i; direction = direction; htlc = h })
unfolding htlc_tx_on htlc_tx_of to_local_script
tx_is c i Offered h place o v = rw (o, v) refl
tx_is c i Received h place o v = rw (o, v) refl

digest_is : (c : Contents) (i : ℕ) (direction : Direction) (h : Htlc) (place : Place) (script : List ℕ) → place.outpoint ≡ record { txid = id_of c; index = i } → place.value ≡ satoshis_of h.amount_msat
    → script ≡ htlc_script c.keys direction h → digest_on (htlc_tx_of c (record { index = i; direction = direction; htlc = h })) place script ≡ htlc_digest c (record { index = i; direction = direction; htlc = h })
unfolding digest_on htlc_digest
digest_is c i direction h place script o v s = rw (o, v, s) refl

-- what is claimed of an HTLC, by its parts
abbrev direct_by : List (List ℕ) → KeyBytes → Direction → List ℕ → CheckedScript → Place → List Claimable
direct_by preimages k d hash form place =
    if is_peers preimages k d hash then claimable_with place form 2 (item_with_peers_key d hash ∷ Signature k.remote_htlc ∷ []) Open ∷ [] else []

abbrev staged_by : List (List ℕ) → ChannelType → KeyBytes → Direction → List ℕ → CheckedScript → Transaction → List ℕ → Place → List Claimable
staged_by preimages t k d hash form x digest place =
    if has_fixed_htlc_txs t && is_owners preimages k d hash
    then claimable_with place form 1 (item_with_both_keys d hash ∷ Signature k.local_htlc ∷ Bytes (token_of k.remote_htlc digest) ∷ Bytes [] ∷ []) (Fixed x) ∷ []
    else []

direct_due : (preimages : List (List ℕ)) (c : Contents) (i : ℕ) (direction : Direction) (h : Htlc) (place : Place)
    → direct_by preimages c.keys direction h.hash (htlc_form c.keys direction h) place ≡ peers_on preimages c i place (PaysHtlc direction h)
direct_due preimages c i Offered h place = refl
direct_due preimages c i Received h place = refl

staged_due : (preimages : List (List ℕ)) (c : Contents) (i : ℕ) (direction : Direction) (h : Htlc) (place : Place)
    → staged_by preimages StaticRemoteKey c.keys direction h.hash (htlc_form c.keys direction h) (htlc_tx_of c (record { index = i; direction = direction; htlc = h })) (htlc_digest c (record { index = i; direction = direction; htlc = h })) place
    ≡ first_stage_on preimages c i place (PaysHtlc direction h)
staged_due preimages c i Offered h place = refl
staged_due preimages c i Received h place = refl

module _ (k : Close) (c : Contents) (whole : IsCloseOf k c) where
  abbrev r : RevokedParts
  r = k.commitment

  keys : k.commitment.keys ≡ c.keys
  keys = whole.knows.keys

  of_local : known_program k.commitment ToLocal ≡ program_of c.delay_blocks c.keys PaysLocal
  of_local =
      local_program r.channel_type r.keys r.delay_blocks r.htlcs ∙ ap (λ b. script_hash_program (to_local_script r.delay_blocks b)) keys
      ∙ ap (λ n. script_hash_program (to_local_script n c.keys)) whole.knows.delay

  of_remote : known_program k.commitment ToRemote ≡ program_of c.delay_blocks c.keys PaysRemote
  of_remote = ap (λ (b : KeyBytes). key_hash_program b.remote) keys

  delayed_is : (place : Place) → delayed_on k.commitment.keys k.commitment.delay_blocks place ≡ delayed_due c place
  delayed_is place = ap (λ b. delayed_on b r.delay_blocks place) keys ∙ ap (λ n. delayed_on c.keys n place) whole.knows.delay

  form_is : (x : RevokedHtlc) (direction : Direction) (h : Htlc) → x.direction ≡ direction → x.hash ≡ h.hash → x.expiry.height ≡ h.expiry_height → form_of_htlc k.commitment.channel_type k.commitment.keys x ≡ htlc_form c.keys direction h
  form_is x direction h e f g =
      ap (λ t. form_by t r.keys x.direction x.hash x.expiry.height) whole.knows.channel_type
      ∙ ap (λ b. form_by StaticRemoteKey b x.direction x.hash x.expiry.height) keys
      ∙ ap (λ d. form_by StaticRemoteKey c.keys d x.hash x.expiry.height) e
      ∙ ap (λ b. form_by StaticRemoteKey c.keys direction b x.expiry.height) f
      ∙ ap (λ n. form_by StaticRemoteKey c.keys direction h.hash n) g
      ∙ same_form c.keys direction h

  of_htlc : (x : RevokedHtlc) (direction : Direction) (h : Htlc) → form_of_htlc k.commitment.channel_type k.commitment.keys x ≡ htlc_form c.keys direction h
      → known_program k.commitment (ToHtlc x) ≡ program_of c.delay_blocks c.keys (PaysHtlc direction h)
  of_htlc x direction h e = ap (λ (f : CheckedScript). script_hash_program (spelling f.ops)) e ∙ ap script_hash_program (sym (same_script c.keys direction h))

  -- the output of a kind
  abbrev output_of : (i : ℕ) (kind : OutputKind) (rest : List HtlcOutput) → AllByRecursion (IsAmong k.commitment.htlcs) (cons_option (htlc_at i kind) rest) → RevokedOutput
  output_of i PaysLocal rest a = ToLocal
  output_of i PaysRemote rest a = ToRemote
  output_of i (PaysHtlc direction h) rest a = ToHtlc a.0.htlc

  is_found : (i : ℕ) (program : List ℕ) (kind : OutputKind) (rest : List HtlcOutput) (a : AllByRecursion (IsAmong k.commitment.htlcs) (cons_option (htlc_at i kind) rest))
      → program ≡ program_of c.delay_blocks c.keys kind → output_with k.commitment program ≡ Some (output_of i kind rest a)
  is_found i program PaysLocal rest a e = found_of r program ToLocal whole.apart (0, omega arith, refl) (of_local ∙ sym e)
  is_found i program PaysRemote rest a e = found_of r program ToRemote whole.apart (1, omega arith, refl) (of_remote ∙ sym e)
  is_found i program (PaysHtlc direction h) rest a e =
      found_of r program (ToHtlc a.0.htlc) whole.apart (known_htlc r a.0.htlc a.0.among)
      (of_htlc a.0.htlc direction h (form_is a.0.htlc direction h a.0.direction a.0.hash a.0.expiry) ∙ sym e)

  rest_of : (i : ℕ) (kind : OutputKind) (rest : List HtlcOutput) → AllByRecursion (IsAmong k.commitment.htlcs) (cons_option (htlc_at i kind) rest) → AllByRecursion (IsAmong k.commitment.htlcs) rest
  rest_of i PaysLocal rest a = a
  rest_of i PaysRemote rest a = a
  rest_of i (PaysHtlc direction h) rest a = a.1

  -- what is claimed of it
  theirs_on : (i : ℕ) (place : Place) (kind : OutputKind) (rest : List HtlcOutput) (a : AllByRecursion (IsAmong k.commitment.htlcs) (cons_option (htlc_at i kind) rest))
      → claims_of Theirs k.preimages k.feerate_per_kw k.commitment (output_of i kind rest a) place ≡ peers_on k.preimages c i place kind
  theirs_on i place PaysLocal rest a = refl
  theirs_on i place PaysRemote rest a = ap (λ b. claim_on_to_remote b place ∷ []) keys
  theirs_on i place (PaysHtlc direction h) rest a =
      let x : RevokedHtlc = a.0.htlc in
      ap (λ f. direct_by k.preimages r.keys x.direction x.hash f place) (form_is x direction h a.0.direction a.0.hash a.0.expiry)
      ∙ ap (λ b. direct_by k.preimages b x.direction x.hash (htlc_form c.keys direction h) place) keys
      ∙ ap (λ d. direct_by k.preimages c.keys d x.hash (htlc_form c.keys direction h) place) a.0.direction
      ∙ ap (λ b. direct_by k.preimages c.keys direction b (htlc_form c.keys direction h) place) a.0.hash
      ∙ direct_due k.preimages c i direction h place

  tx_of : (i : ℕ) (place : Place) (direction : Direction) (h : Htlc) (x : RevokedHtlc) → x.direction ≡ direction → x.expiry.height ≡ h.expiry_height → place.outpoint ≡ record { txid = id_of c; index = i } → place.value ≡ satoshis_of h.amount_msat
      → htlc_tx_on k.commitment.keys k.commitment.delay_blocks k.feerate_per_kw x.direction x.expiry.height place ≡ htlc_tx_of c (record { index = i; direction = direction; htlc = h })
  tx_of i place direction h x d e o v =
      ap (λ b. htlc_tx_on b r.delay_blocks k.feerate_per_kw x.direction x.expiry.height place) keys
      ∙ ap (λ n. htlc_tx_on c.keys n k.feerate_per_kw x.direction x.expiry.height place) whole.knows.delay
      ∙ ap (λ n. htlc_tx_on c.keys c.delay_blocks n x.direction x.expiry.height place) whole.feerate
      ∙ ap (λ y. htlc_tx_on c.keys c.delay_blocks c.feerate_per_kw y x.expiry.height place) d
      ∙ ap (λ n. htlc_tx_on c.keys c.delay_blocks c.feerate_per_kw direction n place) e
      ∙ tx_is c i direction h place o v

  ours_on : (i : ℕ) (place : Place) (kind : OutputKind) (rest : List HtlcOutput) (a : AllByRecursion (IsAmong k.commitment.htlcs) (cons_option (htlc_at i kind) rest))
      → place.outpoint ≡ record { txid = id_of c; index = i } → ((direction : Direction) (h : Htlc) → kind ≡ PaysHtlc direction h → place.value ≡ satoshis_of h.amount_msat)
      → claims_of Ours k.preimages k.feerate_per_kw k.commitment (output_of i kind rest a) place ≡ first_stage_on k.preimages c i place kind
  ours_on i place PaysLocal rest a o v = ap (λ x. x ∷ []) (delayed_is place)
  ours_on i place PaysRemote rest a o v = refl
  ours_on i place (PaysHtlc direction h) rest a o v =
      let x : RevokedHtlc = a.0.htlc in
      let f : form_of_htlc r.channel_type r.keys x ≡ htlc_form c.keys direction h = form_is x direction h a.0.direction a.0.hash a.0.expiry in
      let w : place.value ≡ satoshis_of h.amount_msat = v direction h refl in
      let t = htlc_tx_of c (record { index = i; direction = direction; htlc = h }) in
      let s : spelling (htlc_form c.keys direction h).ops ≡ htlc_script c.keys direction h = sym (same_script c.keys direction h) in
      ap (λ es. cond (has_fixed_htlc_txs r.channel_type && is_owners k.preimages r.keys x.direction x.hash) (map (second_stage_in r k.feerate_per_kw x place) es) []) (one_expiry r x x.direction refl whole.apart a.0.among)
      ∙ ap (λ y. staged_by k.preimages r.channel_type r.keys x.direction x.hash (form_of_htlc r.channel_type r.keys x) y (digest_on y place (spelling (form_of_htlc r.channel_type r.keys x).ops)) place)
      (tx_of i place direction h x a.0.direction a.0.expiry o w)
      ∙ ap (λ (y : CheckedScript). staged_by k.preimages r.channel_type r.keys x.direction x.hash y t (digest_on t place (spelling y.ops)) place) f
      ∙ ap (λ y. staged_by k.preimages r.channel_type r.keys x.direction x.hash (htlc_form c.keys direction h) t y place) (digest_is c i direction h place (spelling (htlc_form c.keys direction h).ops) o w s)
      ∙ ap (λ y. staged_by k.preimages y r.keys x.direction x.hash (htlc_form c.keys direction h) t (htlc_digest c (record { index = i; direction = direction; htlc = h })) place) whole.knows.channel_type
      ∙ ap (λ b. staged_by k.preimages StaticRemoteKey b x.direction x.hash (htlc_form c.keys direction h) t (htlc_digest c (record { index = i; direction = direction; htlc = h })) place) keys
      ∙ ap (λ d. staged_by k.preimages StaticRemoteKey c.keys d x.hash (htlc_form c.keys direction h) t (htlc_digest c (record { index = i; direction = direction; htlc = h })) place) a.0.direction
      ∙ ap (λ b. staged_by k.preimages StaticRemoteKey c.keys direction b (htlc_form c.keys direction h) t (htlc_digest c (record { index = i; direction = direction; htlc = h })) place) a.0.hash
      ∙ staged_due k.preimages c i direction h place

  -- of all outputs
  theirs_from : (i : ℕ) (os : List CommitmentOutput) → k.whose ≡ Theirs → AllByRecursion (λ o. IsOutput c.delay_blocks c.keys o) os → AllByRecursion (IsAmong k.commitment.htlcs) (htlcs_from i os)
      → claimed_from k (transaction_of c) i (map tx_output os) ≡ claims_by (peers_on k.preimages c) c i os
  unfolding claimed_from claims_by htlcs_from
  theirs_from i [] w a b = refl
  theirs_from i (o ∷ os) w a b =
      let place : Place = place_in (transaction_of c) i (tx_output o) in
      ap (λ y. claims_if k y place ++ claimed_from k (transaction_of c) (i + 1) (map tx_output os)) (is_found i o.program o.kind (htlcs_from (i + 1) os) b a.0.program)
      ∙ ap (λ y. claims_of y k.preimages k.feerate_per_kw k.commitment (output_of i o.kind (htlcs_from (i + 1) os) b) place ++ claimed_from k (transaction_of c) (i + 1) (map tx_output os)) w
      ∙ ap (λ xs. xs ++ claimed_from k (transaction_of c) (i + 1) (map tx_output os)) (theirs_on i place o.kind (htlcs_from (i + 1) os) b)
      ∙ ap (λ xs. peers_on k.preimages c i place o.kind ++ xs) (theirs_from (i + 1) os w a.1 (rest_of i o.kind (htlcs_from (i + 1) os) b))

  pays : (o : CommitmentOutput) (kind : OutputKind) → IsHtlcOf c.keys o kind → (direction : Direction) (h : Htlc) → kind ≡ PaysHtlc direction h → o.value ≡ satoshis_of h.amount_msat
  pays o kind i direction h e = let j : IsHtlcOf c.keys o (PaysHtlc direction h) = subst (IsHtlcOf c.keys o) e i in j.0

  ours_from : (i : ℕ) (os : List CommitmentOutput) → k.whose ≡ Ours → AllByRecursion (λ o. IsOutput c.delay_blocks c.keys o) os → AllByRecursion (λ o. IsOutputOf c.keys o) os
      → AllByRecursion (IsAmong k.commitment.htlcs) (htlcs_from i os)
      → claimed_from k (transaction_of c) i (map tx_output os) ≡ claims_by (first_stage_on k.preimages c) c i os
  unfolding claimed_from claims_by htlcs_from
  ours_from i [] w a v b = refl
  ours_from i (o ∷ os) w a v b =
      let place : Place = place_in (transaction_of c) i (tx_output o) in
      ap (λ y. claims_if k y place ++ claimed_from k (transaction_of c) (i + 1) (map tx_output os)) (is_found i o.program o.kind (htlcs_from (i + 1) os) b a.0.program)
      ∙ ap (λ y. claims_of y k.preimages k.feerate_per_kw k.commitment (output_of i o.kind (htlcs_from (i + 1) os) b) place ++ claimed_from k (transaction_of c) (i + 1) (map tx_output os)) w
      ∙ ap (λ xs. xs ++ claimed_from k (transaction_of c) (i + 1) (map tx_output os)) (ours_on i place o.kind (htlcs_from (i + 1) os) b refl (pays o o.kind v.0.htlc))
      ∙ ap (λ xs. first_stage_on k.preimages c i place o.kind ++ xs) (ours_from (i + 1) os w a.1 v.1 (rest_of i o.kind (htlcs_from (i + 1) os) b))

  -- of an HTLC transaction
  htlc_tx_found : (h : HtlcOutput) → output_with k.commitment (htlc_tx_output c h).script ≡ Some ToLocal
  htlc_tx_found h = found_of r (htlc_tx_output c h).script ToLocal whole.apart (0, omega arith, refl) of_local

  one_claim : (t : Transaction) (o : Output) → k.whose ≡ Ours → output_with k.commitment o.script ≡ Some ToLocal → claimed_from k t 0 (o ∷ []) ≡ delayed_due c (place_in t 0 o) ∷ []
  unfolding claimed_from
  one_claim t o w e =
      ap (λ y. claims_if k y (place_in t 0 o) ++ []) e
      ∙ ap (λ y. claims_of y k.preimages k.feerate_per_kw k.commitment ToLocal (place_in t 0 o) ++ []) w
      ∙ ap (λ y. y ∷ []) (delayed_is (place_in t 0 o))

outputs_of_transaction : (c : Contents) → (transaction_of c).outputs ≡ map tx_output c.outputs
unfolding transaction_of
outputs_of_transaction c = refl

outputs_of_htlc_tx : (c : Contents) (h : HtlcOutput) → (htlc_tx_of c h).outputs ≡ htlc_tx_output c h ∷ []
unfolding htlc_tx_of
outputs_of_htlc_tx c h = refl

peers_due_is : (preimages : List (List ℕ)) (c : Contents) → peers_due preimages c ≡ claims_by (peers_on preimages c) c 0 c.outputs
unfolding peers_due
peers_due_is preimages c = refl

paid : (terms : Terms) (view : View) (owner : Side) (n : ℕ) (point : List ℕ) → CanPay terms view
    → AllByRecursion (λ o. IsOutputOf (commitment_of terms view owner n point).keys o) (commitment_of terms view owner n point).outputs
unfolding commitment_of
paid terms view owner n point p =
    recursion_from_All (λ o. IsOutputOf (keys_of terms owner point) o) _
    (each_output (party owner terms).delay_blocks (keys_of terms owner point) (amounts_of terms view owner) (shared terms view owner n point p.whole p.few))

pub reads_theirs : ReadsTheirs
reads_theirs terms view owner n point k p whole w =
    let c = commitment_of terms view owner n point in
    ap (claimed_from k (transaction_of c) 0) (outputs_of_transaction c)
    ∙ theirs_from k c whole 0 c.outputs w (recursion_from_All (λ o. IsOutput c.delay_blocks c.keys o) c.outputs (outputs_stand terms view owner n point p).each) whole.knows.htlcs
    ∙ sym (peers_due_is k.preimages c)

pub reads_ours : ReadsOurs
reads_ours terms view owner n point k p whole w =
    let c = commitment_of terms view owner n point in
    ap (claimed_from k (transaction_of c) 0) (outputs_of_transaction c)
    ∙ ours_from k c whole 0 c.outputs w (recursion_from_All (λ o. IsOutput c.delay_blocks c.keys o) c.outputs (outputs_stand terms view owner n point p).each) (paid terms view owner n point p) whole.knows.htlcs

pub reads_htlc_txs : ReadsOurHtlcTransactions
reads_htlc_txs c k h whole w =
    ap (claimed_from k (htlc_tx_of c h) 0) (outputs_of_htlc_tx c h) ∙ one_claim k c whole (htlc_tx_of c h) (htlc_tx_output c h) w (htlc_tx_found k c whole h)
