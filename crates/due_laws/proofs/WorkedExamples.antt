-- A channel of a node, worked to the last byte. What is asked of it holds by computation, and no two strings have one hash. So the laws say what the verdict on its peer's newest commitment is, and nothing else.
use Rattle.std.proofs.Common.{◌≡◌, ℕ, zero, suc, Bool, true, false, List, [], ◌∷◌, replicate, None, refl, sym, ap, ◌∙◌, inl, inr, arith, lit≤, lit<}
use Rattle.std.specs.Prelude.{◌⊎◌}
use Rattle.std.specs.Str.{bytes_eq}
use Rattle.std.proofs.lemmas.Bool.{false≢true}
use Rattle.std.proofs.lemmas.Option.{same_Some, slice_get_past}
use Rattle.std.proofs.lemmas.Slice.Eq.{bytes_eq-Decides}
use Rattle.sha2.specs.Sha256.{sha256, digest_bytes, hash_after, compress, rounds, schedule, first_words}
use Rattle.digest.specs.Hash.{sha256d, hash160}
use Rattle.digest.specs.Ripemd160.{left_words, right_words, left_rotations, right_rotations, left_constants, right_constants, block_words, left_line, right_line, blocks, ripemd160, compress as ripemd_compress, hash_after as ripemd_hash_after, digest_bytes as ripemd_digest_bytes}
use Rattle.script.specs.Number.{digits, minimal_bytes_of}
use Rattle.tx.specs.Fields.{unsigned_transaction}
use Rattle.tx.specs.Spelling.{number, compact_size, bytes_with_length, outpoint, input, output, body, stripped_spelling, transaction_id}
use Rattle.sighash.specs.Programs.{key_hash_program, script_hash_program}
use Rattle.keys.specs.Derivation.{point_of, derived_key, revocation_key, seed_secret}
use Rattle.chain.specs.Blocks.{grant_id, grant_outpoint}
use Rattle.terms.specs.declared.sides.Side.TheVariants.{A, B}
use Rattle.terms.specs.declared.agreement.Terms.{Terms}
use Rattle.terms.specs.Numbers.{mask_of}
use Rattle.terms.specs.Scripts.{number_push}
use Rattle.commit.specs.Keys.{keys_of}
use Rattle.commit.specs.Order.{output_cmp, in_order}
use Rattle.commit.specs.Outputs.{to_local_script, to_remote_script, htlc_script, outputs_of}
use Rattle.commit.specs.Commitments.{commitment_of, transaction_of, id_of, htlcs_from}
use Rattle.penalty.specs.declared.states.RevokedState.{RevokedState}
use Rattle.penalty.specs.Claimable.{commitment_in}
use Rattle.resolve.specs.declared.verdicts.Verdict.TheVariants.{Theirs, Revoked}
use Rattle.resolve.specs.declared.known.RevokedCommitment.{RevokedCommitment}
use Rattle.resolve.specs.declared.known.SignedCommitment.{SignedCommitment}
use Rattle.resolve.specs.declared.known.Known.{Known}
use Rattle.resolve.specs.Due.{due_of}
use Rattle.resolve.specs.Numbered.{AreNumbered}
use Rattle.watch.specs.Verdicts.{verdict_of}
use Rattle.watch.specs.Finding.{RevokedAreFound}
use Rattle.channel.specs.declared.commitments.CommitmentState.{CommitmentState}
use Rattle.channel.specs.Rights.{rights_of}
use Rattle.channel.specs.States.{State}
use Rattle.channel.specs.Tokens.{contents_of, peer_tokens}
use Rattle.worth_laws.specs.Counted.{known_by}
use Rattle.worth_laws.specs.Least.{revoked, newest, counted_by}
use Rattle.worth_laws.proofs.Due.{counted_are_due}
use Rattle.safety.specs.Holdings.{Holding, KeepsRules}
use Rattle.safety.proofs.Lists.{none_some}
use Rattle.safety.proofs.Ids.{id_is}
use Rattle.safety.proofs.Taken.{grants_are_out_points}
use Rattle.safety.proofs.Examples.{same_eq, bases, side}
use Rattle.safety.proofs.Samples.{bases_of, first_seed}
use Rattle.safety.proofs.Worked.{keeps_rules, kept}
use Rattle.safety.proofs.WorkedChannels.{plain, first_opened, first_newest, first_own, closing, state, holding}
use Rattle.due_laws.specs.Breaks.{IsOfChannel, own_newest, of_peers, DuesBreak, by_ids, by_empty_item, by_known_preimage}
use Rattle.due_laws.specs.Knowing.{IsKnownTo}
use Rattle.due_laws.specs.Verdicts.{IsJudged, rightly, as_own, broken}
use Rattle.due_laws.specs.Counting.{AreExactly}
use Rattle.due_laws.specs.Filling.{OwnsBases}
use Rattle.due_laws.proofs.Verdicts.{closers_are_judged}
use Rattle.due_laws.proofs.Counting.{dues_are_counted}

-- ---- the channel: 100,000 satoshis, the node is A with keys of its seed. B revoked its commitment 0, and its newest has an HTLC of each side

abbrev pub terms : Terms
terms = record {
  funding = grant_outpoint 0;
  capacity_sat = 100000;
  opener = A;
  feerate_per_kw = 1000;
  a = side 80000000 144 (bases_of first_seed);
  b = side 20000000 2 (bases 0x20);
  limited = lit≤ tt;
  whole = refl;
  short_a = lit< tt;
  short_b = lit< tt;
}

abbrev pub s : State
s = state terms 1 false (replicate 32 0x50 ∷ []) (first_own ∷ []) (first_opened ∷ first_newest ∷ [])

abbrev pub channel : Holding
channel = holding s [] None

rules : keeps_rules channel ≡ true
unfolding htlcs_from commitment_of outputs_of in_order output_cmp
rules = rw (same_eq (point_of (replicate 32 0x50))) refl

pub keeps : KeepsRules channel
keeps = kept channel rules (grants_are_out_points 0) tt

pub owns : OwnsBases channel
owns = record { funding = refl; payment = refl; delayed = refl; htlc = refl; revocation = refl }

-- ---- what its book tells, with the preimage of the HTLC that was offered to the node

abbrev pub preimage : List ℕ
preimage = replicate 32 8

abbrev revoked_state : RevokedState
revoked_state = record { terms = terms; view = plain; owner = B; number = 0; secret = replicate 32 0x50; few = lit≤ tt; heights = refl; whole = refl }

abbrev opened : RevokedCommitment
opened = record { state = revoked_state; id = id_of (commitment_in revoked_state); is_kept = true; id_is = refl }

abbrev own_signed : SignedCommitment
own_signed = record {
  commitment = contents_of terms first_own;
  terms = terms;
  owner = A;
  token = (peer_tokens terms first_own).commitment;
  htlc_tokens = (peer_tokens terms first_own).htlcs;
  funding = refl;
  signed = refl;
}

one_numbered : AreNumbered (opened ∷ [])
one_numbered zero r e = ap (λ (x : RevokedCommitment). x.state.number) (sym (same_Some opened r e))
one_numbered (suc i) r e = absurd (none_some r (sym (slice_get_past (opened ∷ []) (suc i) (omega arith)) ∙ e))

-- the patterns are any
abbrev pub known_with : Known → Known
known_with any = record any {
  terms = terms;
  side = A;
  signer = rights_of s;
  own = own_signed;
  older = [];
  theirs = contents_of terms first_newest;
  next = None;
  revoked = opened ∷ [];
  preimages = preimage ∷ [];
}

pub is_known : (any : Known) → IsKnownTo channel (known_with any)
is_known any = record {
  kept = λ _. true;
  is = record {
    terms_are = refl;
    side_is = refl;
    seed_is = refl;
    rights_are = λ key. ((λ m. m), (λ m. m));
    own_is = refl;
    older_are = refl;
    theirs_is = refl;
    next_is = refl;
    revoked_are = refl;
    preimages_are = refl;
  };
  numbered = one_numbered;
  preimages = (refl, tt);
}

-- ---- no two strings have one hash

-- its three commitments have three ids
own_and_newest : bytes_eq (id_of (contents_of terms first_own)) (id_of (contents_of terms first_newest)) ≡ false
unfolding sha256 digest_bytes hash_after compress rounds schedule first_words ripemd160 left_words right_words left_rotations right_rotations left_constants right_constants block_words left_line right_line blocks ripemd_compress ripemd_hash_after ripemd_digest_bytes digits minimal_bytes_of number compact_size bytes_with_length outpoint input output body stripped_spelling transaction_id key_hash_program script_hash_program point_of derived_key revocation_key seed_secret mask_of number_push grant_id keys_of output_cmp in_order to_local_script to_remote_script htlc_script outputs_of commitment_of transaction_of
own_and_newest = refl

own_and_opened : bytes_eq (id_of (contents_of terms first_own)) (id_of (contents_of terms first_opened)) ≡ false
unfolding sha256 digest_bytes hash_after compress rounds schedule first_words ripemd160 left_words right_words left_rotations right_rotations left_constants right_constants block_words left_line right_line blocks ripemd_compress ripemd_hash_after ripemd_digest_bytes digits minimal_bytes_of number compact_size bytes_with_length outpoint input output body stripped_spelling transaction_id key_hash_program script_hash_program point_of derived_key revocation_key seed_secret mask_of number_push grant_id keys_of output_cmp in_order to_local_script to_remote_script htlc_script outputs_of commitment_of transaction_of
own_and_opened = refl

opened_and_newest : bytes_eq (id_of (contents_of terms first_opened)) (id_of (contents_of terms first_newest)) ≡ false
unfolding sha256 digest_bytes hash_after compress rounds schedule first_words ripemd160 left_words right_words left_rotations right_rotations left_constants right_constants block_words left_line right_line blocks ripemd_compress ripemd_hash_after ripemd_digest_bytes digits minimal_bytes_of number compact_size bytes_with_length outpoint input output body stripped_spelling transaction_id key_hash_program script_hash_program point_of derived_key revocation_key seed_secret mask_of number_push grant_id keys_of output_cmp in_order to_local_script to_remote_script htlc_script outputs_of commitment_of transaction_of
opened_and_newest = refl

-- their revocation keys have another hash than the empty item, and than the preimage
abbrev revocation : CommitmentState → List ℕ
revocation k = (contents_of terms k).keys.revocation

abbrev meets : CommitmentState → List Bool
meets k = bytes_eq (hash160 (revocation k)) (hash160 []) ∷ bytes_eq (hash160 (revocation k)) (hash160 preimage) ∷ []

own_key : meets first_own ≡ false ∷ false ∷ []
unfolding sha256 digest_bytes hash_after compress rounds schedule first_words ripemd160 left_words right_words left_rotations right_rotations left_constants right_constants block_words left_line right_line blocks ripemd_compress ripemd_hash_after ripemd_digest_bytes point_of revocation_key keys_of commitment_of
own_key = refl

opened_key : meets first_opened ≡ false ∷ false ∷ []
unfolding sha256 digest_bytes hash_after compress rounds schedule first_words ripemd160 left_words right_words left_rotations right_rotations left_constants right_constants block_words left_line right_line blocks ripemd_compress ripemd_hash_after ripemd_digest_bytes point_of revocation_key seed_secret keys_of commitment_of
opened_key = refl

newest_key : meets first_newest ≡ false ∷ false ∷ []
unfolding sha256 digest_bytes hash_after compress rounds schedule first_words ripemd160 left_words right_words left_rotations right_rotations left_constants right_constants block_words left_line right_line blocks ripemd_compress ripemd_hash_after ripemd_digest_bytes point_of revocation_key seed_secret keys_of commitment_of
newest_key = refl

-- which of the three
data IsOne (k : CommitmentState) : Type 0 where
  is_own : k ≡ first_own → IsOne k
  is_opened : k ≡ first_opened → IsOne k
  is_newest : k ≡ first_newest → IsOne k

one_of : (k : CommitmentState) → IsOfChannel s k → IsOne k
one_of k (own_newest e) = is_own (sym (same_Some first_own k e))
one_of k (of_peers zero e) = is_opened (sym (same_Some first_opened k e))
one_of k (of_peers (suc zero) e) = is_newest (sym (same_Some first_newest k e))
one_of k (of_peers (suc (suc n)) e) = absurd (none_some k (sym (slice_get_past (first_opened ∷ first_newest ∷ []) (suc (suc n)) (omega arith)) ∙ e))

abbrev id : CommitmentState → List ℕ
id k = id_of (contents_of terms k)

differ : (k m : CommitmentState) → bytes_eq (id k) (id m) ≡ false → id k ≡ id m → ⊥
differ k m e f = false≢true (sym e ∙ (bytes_eq-Decides (id k) (id m)).1 f)

-- commitments of one id are one
one_id : (k m : CommitmentState) → IsOne k → IsOne m → id k ≡ id m → k ≡ m
one_id k m (is_own e) (is_own f) i = e ∙ sym f
one_id k m (is_own e) (is_opened f) i = absurd (differ first_own first_opened own_and_opened (sym (ap id e) ∙ i ∙ ap id f))
one_id k m (is_own e) (is_newest f) i = absurd (differ first_own first_newest own_and_newest (sym (ap id e) ∙ i ∙ ap id f))
one_id k m (is_opened e) (is_own f) i = absurd (differ first_own first_opened own_and_opened (sym (ap id f) ∙ sym i ∙ ap id e))
one_id k m (is_opened e) (is_opened f) i = e ∙ sym f
one_id k m (is_opened e) (is_newest f) i = absurd (differ first_opened first_newest opened_and_newest (sym (ap id e) ∙ i ∙ ap id f))
one_id k m (is_newest e) (is_own f) i = absurd (differ first_own first_newest own_and_newest (sym (ap id f) ∙ sym i ∙ ap id e))
one_id k m (is_newest e) (is_opened f) i = absurd (differ first_opened first_newest opened_and_newest (sym (ap id f) ∙ sym i ∙ ap id e))
one_id k m (is_newest e) (is_newest f) i = e ∙ sym f

abbrev spelt : CommitmentState → List ℕ
spelt k = stripped_spelling (transaction_of (contents_of terms k))

hashed : (k : CommitmentState) (bytes : List ℕ) → bytes ≡ spelt k → id k ≡ sha256d bytes
hashed k bytes e = id_is (transaction_of (contents_of terms k)) ∙ ap sha256d (sym e)

abbrev at : ℕ → List Bool → Bool
at zero [] = false
at zero (b ∷ bs) = b
at (suc n) [] = false
at (suc n) (b ∷ bs) = at n bs

met : (k : CommitmentState) → IsOne k → meets k ≡ false ∷ false ∷ []
met k (is_own e) = ap meets e ∙ own_key
met k (is_opened e) = ap meets e ∙ opened_key
met k (is_newest e) = ap meets e ∙ newest_key

nothing_breaks : DuesBreak s (preimage ∷ []) → ⊥
nothing_breaks (by_ids c) =
    let k = c.of_first.commitment in
    let m = c.of_second.commitment in
    let same : k ≡ m = one_id k m (one_of k c.of_first.recorded) (one_of m c.of_second.recorded) (hashed k c.first c.of_first.is ∙ c.collide.1 ∙ sym (hashed m c.second c.of_second.is)) in
    c.collide.0 (c.of_first.is ∙ ap spelt same ∙ sym c.of_second.is)
nothing_breaks (by_empty_item k i c) = false≢true (sym (ap (at 0) (met k (one_of k i))) ∙ (bytes_eq-Decides (hash160 (revocation k)) (hash160 [])).1 c.1)
nothing_breaks (by_known_preimage k i x (zero, l, e) c) =
    false≢true (sym (ap (at 1) (met k (one_of k i))) ∙ (bytes_eq-Decides (hash160 (revocation k)) (hash160 preimage)).1 (c.1 ∙ ap hash160 (sym e)))
nothing_breaks (by_known_preimage k i x (suc n, l, e) c) = omega (arith, l)

-- ---- so it follows what the verdict is, and what is due by it

its_transaction : (k : CommitmentState) → unsigned_transaction (closing terms k) ≡ transaction_of (contents_of terms k)
unfolding transaction_of commitment_of
its_transaction k = refl

module _ (any : Known) where
  abbrev known : Known
  known = known_with any

  found_theirs : RevokedAreFound → verdict_of known (closing terms first_newest) ≡ Theirs
  found_theirs law = by (closers_are_judged law channel keeps known (is_known any) (closing terms first_newest) first_newest (newest refl) (its_transaction first_newest))
    where
      by : IsJudged channel known (closing terms first_newest) first_newest (newest refl) → verdict_of known (closing terms first_newest) ≡ Theirs
      by (rightly e) = e
      by (as_own o there same e) =
          let is : first_own ≡ o = same_Some first_own o there in
          absurd (differ first_own first_newest own_and_newest (ap transaction_id (ap (λ (k : CommitmentState). transaction_of (contents_of terms k)) is ∙ same)))
      by (broken x) = absurd (nothing_breaks x)

  found_revoked : RevokedAreFound → verdict_of known (closing terms first_opened) ≡ Revoked 0
  found_revoked law = by (closers_are_judged law channel keeps known (is_known any) (closing terms first_opened) first_opened (revoked 0 (lit< tt) refl) (its_transaction first_opened))
    where
      by : IsJudged channel known (closing terms first_opened) first_opened (revoked 0 (lit< tt) refl) → verdict_of known (closing terms first_opened) ≡ Revoked 0
      by (rightly e) = e
      by (as_own o there same e) =
          let is : first_own ≡ o = same_Some first_own o there in
          absurd (differ first_own first_opened own_and_opened (ap transaction_id (ap (λ (k : CommitmentState). transaction_of (contents_of terms k)) is ∙ same)))
      by (broken x) = absurd (nothing_breaks x)

  pub due_exactly : AreExactly (due_of known Theirs) (λ stands. counted_by (known_by (preimage ∷ [])) stands s first_newest (newest refl))
  due_exactly = by (dues_are_counted counted_are_due channel keeps known (is_known any) first_newest (newest refl))
    where
      by : AreExactly (due_of known Theirs) (λ stands. counted_by (known_by (preimage ∷ [])) stands s first_newest (newest refl)) ⊎ DuesBreak s (preimage ∷ [])
          → AreExactly (due_of known Theirs) (λ stands. counted_by (known_by (preimage ∷ [])) stands s first_newest (newest refl))
      by (inl x) = x
      by (inr x) = absurd (nothing_breaks x)
