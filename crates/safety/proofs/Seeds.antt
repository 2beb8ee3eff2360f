-- Two sides' commitments of one transaction have one program, and so one of the keys in it, which is of both seeds.
use Rattle.std.proofs.Common.{◌≡◌, ◌≢◌, ℕ, List, [], ◌∷◌, ◌++◌, map, length, Option, Some, None, sym, ap, ◌∙◌, refl, subst, inl, inr, ⊎_elim, arith, length-append}
use Rattle.std.specs.Prelude.{slice_get, option_map, codes}
use Rattle.std.specs.List.{Contains}
use Rattle.std.proofs.lemmas.List.Elements.{All-contains}
use Rattle.std.proofs.lemmas.Option.{same_Some, slice_get-map}
use Rattle.sha2.specs.Sha256.{sha256}
use Rattle.sha2.proofs.Facts256.{length-sha256}
use Rattle.digest.specs.Hash.{hash160, Collide}
use Rattle.tx.specs.Parts.{Output}
use Rattle.tx.specs.Fields.{Transaction}
use Rattle.keys.specs.declared.bases.Base.{Base}
use Rattle.keys.specs.declared.bases.Base.TheVariants.{Payment, Htlc as HtlcBase, Revocation}
use Rattle.keys.specs.Derivation.{point_of, base_key, seed_secret, number_of, derived_key, revocation_key}
use Rattle.terms.specs.declared.sides.Side.{Side}
use Rattle.terms.specs.declared.sides.Side.TheVariants.{A, B}
use Rattle.terms.specs.declared.agreement.Terms.{Terms}
use Rattle.terms.specs.Agreement.{party}
use Rattle.terms.specs.Sides.{other}
use Rattle.commit.specs.declared.outputs.OutputKind.{OutputKind}
use Rattle.commit.specs.declared.outputs.OutputKind.TheVariants.{ToLocal, ToRemote, ToHtlc}
use Rattle.commit.specs.declared.outputs.CommitmentOutput.{CommitmentOutput}
use Rattle.commit.specs.Keys.{keys_of}
use Rattle.commit.specs.Outputs.{to_local_script, htlc_script}
use Rattle.commit.specs.Commitments.{Contents, commitment_of, tx_output, transaction_of, htlcs_of}
use Rattle.penalty.specs.Outputs.{IsOutput, program_of}
use Rattle.penalty.specs.Paying.{CanPay}
use Rattle.penalty.proofs.Standing.{outputs_stand}
use Rattle.channel.specs.declared.commitments.CommitmentState.{CommitmentState}
use Rattle.channel.specs.Tokens.{contents_of}
use Rattle.safety.specs.Owning.{AreOfSeed}
use Rattle.safety.proofs.Lists.{contained}
use Rattle.safety.specs.Strings.{IsHashedForCommitment, of_to_local, of_htlc_script, of_payment_key, of_revocation_key, of_htlc_key, IsHashedForSeed, of_base, of_secret, CollideBy, by_sha256, by_hash160}
use Rattle.safety.specs.Strings.{StringsCollide}
use Rattle.safety.specs.Seeds.{SidesCollide, SidesDiffer}
use Rattle.safety.proofs.Ids.{same_or_collide}
use Rattle.safety.proofs.Places.{htlc_at_index}
use Rattle.safety.proofs.Scripts.{same_front, tagged, same_script_hash, same_key_hash, script_or_key, same_revocation, same_remote_htlc, to_local_or_htlc}

-- ---- base keys

same_hash : (a b : List ℕ) → 2 ∷ sha256 a ≡ 2 ∷ sha256 b → sha256 a ≡ sha256 b
same_hash a b e = cc

-- strings of one seed and one byte are the same only where the seeds are
same_seed : (s t : List ℕ) (n : ℕ) → codes "base" ++ s ++ n ∷ [] ≡ codes "base" ++ t ++ n ∷ [] → s ≡ t
same_seed s t n e =
    let l : length (codes "base" ++ s) ≡ length (codes "base" ++ t) = omega (arith, ap length e, length-append (codes "base" ++ s) (n ∷ []), length-append (codes "base" ++ t) (n ∷ [])) in
    (same_front (codes "base") (codes "base") s t refl (same_front (codes "base" ++ s) (codes "base" ++ t) (n ∷ []) (n ∷ []) l e).0).1

abbrev SeedsCollide : List ℕ → List ℕ → Type 0
SeedsCollide seed rival = StringsCollide (IsHashedForSeed seed) (IsHashedForSeed rival)

secret_is : (seed : List ℕ) (b : Base) → seed_secret seed (number_of b) ≡ sha256 (codes "base" ++ seed ++ number_of b ∷ [])
unfolding seed_secret
secret_is seed b = refl

base_is : (seed : List ℕ) (b : Base) → base_key seed b ≡ 2 ∷ sha256 (codes "point" ++ seed_secret seed (number_of b))
unfolding point_of
base_is seed b = refl

same_secret : (seed rival : List ℕ) (b : Base) → seed ≢ rival → seed_secret seed (number_of b) ≡ seed_secret rival (number_of b) → SeedsCollide seed rival
same_secret seed rival b n e =
    let first = codes "base" ++ seed ++ number_of b ∷ [] in
    let second = codes "base" ++ rival ++ number_of b ∷ [] in
    ⊎_elim {C = SeedsCollide seed rival} (λ (s : codes "base" ++ seed ++ number_of b ∷ [] ≡ codes "base" ++ rival ++ number_of b ∷ []). absurd (n (same_seed seed rival (number_of b) s)))
    (λ (z : Collide sha256 (codes "base" ++ seed ++ number_of b ∷ []) (codes "base" ++ rival ++ number_of b ∷ [])).
    record { first = first; second = second; of_first = of_secret b refl; of_second = of_secret b refl; collide = by_sha256 z })
    (same_or_collide sha256 first second (sym (secret_is seed b) ∙ e ∙ secret_is rival b))

same_base : (seed rival : List ℕ) (b : Base) → seed ≢ rival → base_key seed b ≡ base_key rival b → SeedsCollide seed rival
same_base seed rival b n e =
    let first = codes "point" ++ seed_secret seed (number_of b) in
    let second = codes "point" ++ seed_secret rival (number_of b) in
    ⊎_elim {C = SeedsCollide seed rival}
    (λ (s : codes "point" ++ seed_secret seed (number_of b) ≡ codes "point" ++ seed_secret rival (number_of b)). same_secret seed rival b n (same_front (codes "point") (codes "point") _ _ refl s).1)
    (λ (z : Collide sha256 (codes "point" ++ seed_secret seed (number_of b)) (codes "point" ++ seed_secret rival (number_of b))).
    record { first = first; second = second; of_first = of_base b refl; of_second = of_base b refl; collide = by_sha256 z })
    (same_or_collide sha256 first second (same_hash first second (sym (base_is seed b) ∙ e ∙ base_is rival b)))

base_length : (seed : List ℕ) (b : Base) → length (base_key seed b) ≡ 33
unfolding point_of
base_length seed b = omega (arith, length-sha256 (codes "point" ++ seed_secret seed (number_of b)))

-- ---- the keys of two commitments

-- two commitments of a channel, one of each side, whose base keys are of two seeds
record AreRivals (terms : Terms) (k m : CommitmentState) (seed rival : List ℕ) : Type 0 where
  first_pays : CanPay terms k.view
  second_pays : CanPay terms m.view
  peers : AreOfSeed rival (party (other k.owner) terms).bases
  owners : AreOfSeed seed (party (other m.owner) terms).bases
  apart : seed ≢ rival

-- two strings that are hashed for both collide, or they are the same
either : (terms : Terms) (k m : CommitmentState) (seed rival : List ℕ) (hash : List ℕ → List ℕ) (a b : List ℕ) → ((x y : List ℕ) → Collide hash x y → CollideBy x y) → IsHashedForCommitment terms k a
    → IsHashedForCommitment terms m b
    → hash a ≡ hash b → (a ≡ b → SidesCollide terms k m seed rival) → SidesCollide terms k m seed rival
either terms k m seed rival hash a b kind f g e same =
    ⊎_elim {C = SidesCollide terms k m seed rival} same
    (λ (z : Collide hash a b). inl (record { first = a; second = b; of_first = f; of_second = g; collide = kind a b z }))
    (same_or_collide hash a b e)

-- equal base keys are of both seeds
bases_collide : (terms : Terms) (k m : CommitmentState) (seed rival : List ℕ) → AreRivals terms k m seed rival → (b : Base) (x y : List ℕ) → x ≡ base_key rival b → y ≡ base_key seed b → x ≡ y
    → SidesCollide terms k m seed rival
bases_collide terms k m seed rival r b x y f g e = inr (same_base seed rival b r.apart (sym g ∙ sym e ∙ f))

revocations_collide : (terms : Terms) (k m : CommitmentState) (seed rival : List ℕ) → AreRivals terms k m seed rival → (contents_of terms k).keys.revocation ≡ (contents_of terms m).keys.revocation
    → SidesCollide terms k m seed rival
unfolding commitment_of keys_of revocation_key
revocations_collide terms k m seed rival r e =
    let x = (party (other k.owner) terms).bases.revocation.bytes in
    let y = (party (other m.owner) terms).bases.revocation.bytes in
    let a = codes "revoke" ++ x ++ k.point.bytes in
    let b = codes "revoke" ++ y ++ m.point.bytes in
    let n : length x ≡ length y = ap length r.peers.revocation ∙ base_length rival Revocation ∙ sym (base_length seed Revocation) ∙ ap length (sym r.owners.revocation) in
    either terms k m seed rival sha256 a b (λ s t z. by_sha256 z) (of_revocation_key refl) (of_revocation_key refl) (same_hash a b e)
    (λ s. bases_collide terms k m seed rival r Revocation x y r.peers.revocation r.owners.revocation (tagged (codes "revoke") x y k.point.bytes m.point.bytes n s))

htlc_keys_collide : (terms : Terms) (k m : CommitmentState) (seed rival : List ℕ) → AreRivals terms k m seed rival → (contents_of terms k).keys.remote_htlc ≡ (contents_of terms m).keys.remote_htlc
    → SidesCollide terms k m seed rival
unfolding commitment_of keys_of derived_key
htlc_keys_collide terms k m seed rival r e =
    let x = (party (other k.owner) terms).bases.htlc.bytes in
    let y = (party (other m.owner) terms).bases.htlc.bytes in
    let a = codes "derive" ++ x ++ k.point.bytes in
    let b = codes "derive" ++ y ++ m.point.bytes in
    let n : length x ≡ length y = ap length r.peers.htlc ∙ base_length rival HtlcBase ∙ sym (base_length seed HtlcBase) ∙ ap length (sym r.owners.htlc) in
    either terms k m seed rival sha256 a b (λ s t z. by_sha256 z) (of_htlc_key refl) (of_htlc_key refl) (same_hash a b e)
    (λ s. bases_collide terms k m seed rival r HtlcBase x y r.peers.htlc r.owners.htlc (tagged (codes "derive") x y k.point.bytes m.point.bytes n s))

payments_collide : (terms : Terms) (k m : CommitmentState) (seed rival : List ℕ) → AreRivals terms k m seed rival → (contents_of terms k).keys.remote ≡ (contents_of terms m).keys.remote
    → SidesCollide terms k m seed rival
unfolding commitment_of keys_of
payments_collide terms k m seed rival r e =
    bases_collide terms k m seed rival r Payment (party (other k.owner) terms).bases.payment.bytes (party (other m.owner) terms).bases.payment.bytes r.peers.payment r.owners.payment e

-- ---- the programs of two outputs

-- if this is an HTLC's output, the HTLC is one of the commitment's
abbrev IsAmong : Contents → ℕ → OutputKind → Type 0
IsAmong c index ToLocal = Unit {0}
IsAmong c index ToRemote = Unit {0}
IsAmong c index (ToHtlc direction htlc) = Contains (htlcs_of c) (record { index = index; direction = direction; htlc = htlc })

among : (c : Contents) (index : ℕ) (output : CommitmentOutput) (kind : OutputKind) → slice_get c.outputs index ≡ Some output → output.kind ≡ kind → IsAmong c index kind
among c index output ToLocal e k = tt
among c index output ToRemote e k = tt
among c index output (ToHtlc direction htlc) e k = (htlc_at_index c index output direction htlc e k).among

programs_collide : (terms : Terms) (k m : CommitmentState) (seed rival : List ℕ) → AreRivals terms k m seed rival → (index : ℕ) (x y : OutputKind) → IsAmong (contents_of terms k) index x
    → IsAmong (contents_of terms m) index y
    → program_of (contents_of terms k).delay_blocks (contents_of terms k).keys x ≡ program_of (contents_of terms m).delay_blocks (contents_of terms m).keys y → SidesCollide terms k m seed rival
programs_collide terms k m seed rival r index ToLocal ToLocal i j e =
    let c = contents_of terms k in
    let d = contents_of terms m in
    either terms k m seed rival sha256 (to_local_script c.delay_blocks c.keys) (to_local_script d.delay_blocks d.keys) (λ s t z. by_sha256 z) (of_to_local refl) (of_to_local refl) (same_script_hash _ _ e)
    (λ s. revocations_collide terms k m seed rival r (same_revocation c.delay_blocks d.delay_blocks c.keys d.keys s))
programs_collide terms k m seed rival r index ToLocal ToRemote i j e = absurd (script_or_key _ _ e)
programs_collide terms k m seed rival r index ToLocal (ToHtlc direction htlc) i j e =
    let c = contents_of terms k in
    let d = contents_of terms m in
    either terms k m seed rival sha256 (to_local_script c.delay_blocks c.keys) (htlc_script d.keys direction htlc) (λ s t z. by_sha256 z) (of_to_local refl) (of_htlc_script _ j refl) (same_script_hash _ _ e)
    (λ s. absurd (to_local_or_htlc c.delay_blocks c.keys d.keys direction htlc s))
programs_collide terms k m seed rival r index ToRemote ToLocal i j e = absurd (script_or_key _ _ (sym e))
programs_collide terms k m seed rival r index ToRemote ToRemote i j e =
    let c = contents_of terms k in
    let d = contents_of terms m in
    either terms k m seed rival hash160 c.keys.remote d.keys.remote (λ s t z. by_hash160 z) (of_payment_key refl) (of_payment_key refl) (same_key_hash _ _ e)
    (λ s. payments_collide terms k m seed rival r s)
programs_collide terms k m seed rival r index ToRemote (ToHtlc direction htlc) i j e = absurd (script_or_key _ _ (sym e))
programs_collide terms k m seed rival r index (ToHtlc direction htlc) ToLocal i j e =
    let c = contents_of terms k in
    let d = contents_of terms m in
    either terms k m seed rival sha256 (htlc_script c.keys direction htlc) (to_local_script d.delay_blocks d.keys) (λ s t z. by_sha256 z) (of_htlc_script _ i refl) (of_to_local refl) (same_script_hash _ _ e)
    (λ s. absurd (to_local_or_htlc d.delay_blocks d.keys c.keys direction htlc (sym s)))
programs_collide terms k m seed rival r index (ToHtlc direction htlc) ToRemote i j e = absurd (script_or_key _ _ e)
programs_collide terms k m seed rival r index (ToHtlc direction htlc) (ToHtlc way one) i j e =
    let c = contents_of terms k in
    let d = contents_of terms m in
    either terms k m seed rival sha256 (htlc_script c.keys direction htlc) (htlc_script d.keys way one) (λ s t z. by_sha256 z)
    (of_htlc_script _ i refl) (of_htlc_script _ j refl) (same_script_hash _ _ e)
    (λ s. htlc_keys_collide terms k m seed rival r (same_remote_htlc c.keys d.keys direction way htlc one s))

-- ---- one transaction

outputs_are : (c : Contents) → (transaction_of c).outputs ≡ map tx_output c.outputs
unfolding transaction_of
outputs_are c = refl

-- an output stands at the same index of the other, with the same program
record IsThere (os : List CommitmentOutput) (index : ℕ) (program : List ℕ) : Type 0 where
  output : CommitmentOutput
  there : slice_get os index ≡ Some output
  same : output.program ≡ program

found : (os : List CommitmentOutput) (index : ℕ) (p : Output) (x : Option CommitmentOutput) → slice_get os index ≡ x → option_map tx_output x ≡ Some p → IsThere os index p.script
found os index p None e f = absurd (cc)
found os index p (Some o) e f = record { output = o; there = e; same = ap (λ (z : Output). z.script) (same_Some (tx_output o) p f) }

there_too : (c d : Contents) (index : ℕ) (output : CommitmentOutput) → slice_get c.outputs index ≡ Some output → transaction_of c ≡ transaction_of d → IsThere d.outputs index output.program
there_too c d index output e s =
    let outputs : map tx_output c.outputs ≡ map tx_output d.outputs = sym (outputs_are c) ∙ ap (λ (t : Transaction). t.outputs) s ∙ outputs_are d in
    found d.outputs index (tx_output output) (slice_get d.outputs index) refl
    (sym (slice_get-map tx_output d.outputs index) ∙ ap (λ (os : List Output). slice_get os index) (sym outputs) ∙ slice_get-map tx_output c.outputs index ∙ ap (option_map tx_output) e)

program_at : (terms : Terms) (k : CommitmentState) → CanPay terms k.view → (index : ℕ) (output : CommitmentOutput) → slice_get (contents_of terms k).outputs index ≡ Some output
    → output.program ≡ program_of (contents_of terms k).delay_blocks (contents_of terms k).keys output.kind
program_at terms k p index output e =
    let c = contents_of terms k in
    let stands : IsOutput c.delay_blocks c.keys output =
    All-contains (λ o. IsOutput c.delay_blocks c.keys o) c.outputs output (outputs_stand terms k.view k.owner k.number k.point.bytes p).each (contained c.outputs index output e) in
    stands.program

twice : (side : Side) → other (other side) ≡ side
twice A = refl
twice B = refl

pub sides_differ : SidesDiffer
sides_differ terms k m p q o seed rival a index output e s =
    let c = contents_of terms k in
    let d = contents_of terms m in
    let z = there_too c d index output e s in
    let owner : k.owner ≡ other m.owner = sym (twice k.owner) ∙ ap other (sym o) in
    let rivals : AreRivals terms k m seed rival =
    record { first_pays = p; second_pays = q; peers = a.peers; owners = subst (λ (x : Side). AreOfSeed seed (party x terms).bases) owner a.owners; apart = a.apart } in
    programs_collide terms k m seed rival rivals index output.kind z.output.kind (among c index output output.kind e refl) (among d index z.output z.output.kind z.there refl)
    (sym (program_at terms k p index output e) ∙ sym z.same ∙ program_at terms m q index z.output z.there)
