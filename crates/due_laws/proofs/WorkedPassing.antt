-- On a chain with the channel of `WorkedExamples` the node fills a claim on to_remote of its peer's newest commitment. It is due, its output stands there unspent, and nothing refuses the filling. So it passes the next block.
use Rattle.std.proofs.Common.{◌≡◌, ℕ, ◌≤◌, Bool, true, false, List, [], ◌∷◌, ◌++◌, length, Some, None, refl, sym, ap, ◌∙◌, subst, ⊎_elim, arith}
use Rattle.std.specs.Prelude.{◌⊎◌, ◌&&◌, ◌==◌, option_map, if◌then◌else◌}
use Rattle.std.specs.List.{Contains, find}
use Rattle.std.specs.Str.{bytes_eq}
use Rattle.std.proofs.lemmas.Bool.{true≢false}
use Rattle.std.proofs.lemmas.List.Elements.{Contains-append_right}
use Rattle.sha2.specs.Sha256.{sha256}
use Rattle.sha2.proofs.Facts256.{length-sha256}
use Rattle.tx.specs.declared.input.OutPoint.{OutPoint}
use Rattle.tx.specs.Parts.{Output, IsWitness}
use Rattle.tx.specs.Fields.{Transaction, KeepsLimits, same_outpoint, unsigned_transaction}
use Rattle.tx.specs.Spelling.{transaction_id}
use Rattle.tx.proofs.Witnesses.{same_id}
use Rattle.script.specs.Token.{token_of, is_key}
use Rattle.sighash.specs.Programs.{key_hash_program, is_script_hash_program}
use Rattle.digest.specs.Hash.{hash160}
use Rattle.digest.proofs.OutsideVectors.{length-ripemd160}
use Rattle.keys.specs.declared.compressed.Key.{Key}
use Rattle.chain.specs.Blocks.{Contents as Block, Creation, Coin, empty_block, grant_id, grant_outpoint, created_of, is_named, coin_at}
use Rattle.chain.specs.Checks.{transaction_refusal}
use Rattle.chain.proofs.Noting.{itself}
use Rattle.claim.specs.declared.parts.Place.{Place}
use Rattle.claim.specs.declared.parts.Slot.TheVariants.{Sig, Exact}
use Rattle.claim.specs.declared.parts.Shell.TheVariants.{Open}
use Rattle.claim.specs.Fitting.{output_at}
use Rattle.claim.specs.Claims.{ClaimParts, IsWhole}
use Rattle.claim.proofs.TokenForms.{token-length, key-length}
use Rattle.filling.specs.Filling.{filling_of, transaction_for, script_of, digest_for}
use Rattle.filling.specs.Refusals.{ArePassed}
use Rattle.forms.specs.Forms.{key_hash_form}
use Rattle.forms.proofs.Forms.{key_length}
use Rattle.terms.specs.declared.sides.Side.TheVariants.{B}
use Rattle.commit.specs.declared.fees.Direction.TheVariants.{Offered, Received}
use Rattle.commit.specs.declared.outputs.CommitmentOutput.{CommitmentOutput}
use Rattle.commit.specs.Keys.{KeyBytes, keys_of}
use Rattle.commit.specs.Order.{output_cmp, in_order}
use Rattle.commit.specs.Outputs.{htlc_output, to_local_output, outputs_of}
use Rattle.commit.specs.Commitments.{Contents, commitment_of, tx_output, transaction_of, id_of}
use Rattle.penalty.specs.Claimable.{Claimable, place_in, claims_by}
use Rattle.penalty.specs.Sets.{claimed_by}
use Rattle.resolve.specs.declared.verdicts.Verdict.TheVariants.{Theirs}
use Rattle.resolve.specs.declared.known.Known.{Known}
use Rattle.channel.specs.Tokens.{contents_of}
use Rattle.worth_laws.specs.Counted.{counted_on, known_by}
use Rattle.worth_laws.specs.Least.{newest, counted_by}
use Rattle.safety.specs.Signing.{IsSignable, digest_of}
use Rattle.safety.specs.Standing.{StandsAt}
use Rattle.safety.specs.Given.{commitment_signed}
use Rattle.safety.specs.Holdings.{IsOnRecorded}
use Rattle.safety.specs.Passing.{HasTwinOn}
use Rattle.safety.specs.Recorded.{of_commitment}
use Rattle.safety.proofs.Handed.{peers_payable, commitment_signable}
use Rattle.safety.proofs.Ids.{unsigned_limits}
use Rattle.safety.proofs.Recorded.{recorded_limits}
use Rattle.safety.proofs.Lists.{contains_none}
use Rattle.safety.proofs.Places.{contains_one}
use Rattle.safety.proofs.Standing.{block_in}
use Rattle.safety.proofs.Slots.{contains_first, contains_cases}
use Rattle.safety.proofs.Samples.{bases_of, first_seed}
use Rattle.safety.proofs.WorkedChannels.{htlc, first_newest, closing, funded}
use Rattle.due_laws.specs.Filling.{IsDueBy}
use Rattle.due_laws.specs.Recorded.{DuesAreRecorded}
use Rattle.due_laws.specs.Passing.{IsRipe, MayBeFilled, KeepLimits, FillingsPass}
use Rattle.due_laws.proofs.WorkedExamples.{terms, s, channel, keeps, owns, preimage, known_with, is_known, due_exactly}

-- ---- the claim: to_remote is the fourth output

abbrev c : Contents
c = contents_of terms first_newest

abbrev payment : Key
payment = (bases_of first_seed).payment

short : length payment.bytes ≤ 520
short = let l = key_length payment.bytes payment.form in omega (arith, l)

abbrev at_remote : OutPoint
at_remote = record { txid = id_of c; index = 3 }

abbrev on_remote : Place
on_remote = record { outpoint = at_remote; value = 58932; program = key_hash_program payment.bytes }

abbrev home : ClaimParts
home = record { ways = key_hash_form (hash160 payment.bytes); index = 0; slots = Exact (record { item = payment.bytes; short = short }) ∷ Sig payment ∷ []; place = on_remote; shell = Open }

abbrev pays : List Output
pays = record { value = 58000; script = key_hash_program payment.bytes } ∷ []

-- the outputs of the commitment: two HTLCs, to_local and to_remote
abbrev k : KeyBytes
k = keys_of terms B first_newest.point.bytes

abbrev first : CommitmentOutput
first = htlc_output k Received (htlc 10000 7)

abbrev second : CommitmentOutput
second = htlc_output k Offered (htlc 12000 8)

abbrev third : CommitmentOutput
third = to_local_output 2 k 18000

-- the claim is one of those on which the node counts
abbrev counts : ℕ → CommitmentOutput → List Claimable
counts index o = counted_on false (known_by (preimage ∷ [])) (λ _. false) c index (place_in (transaction_of c) index (tx_output o)) o.kind

counted_home : Contains (counted_by (known_by (preimage ∷ [])) (λ _. false) s first_newest (newest refl)) (claimed_by home)
unfolding claims_by commitment_of keys_of outputs_of in_order output_cmp transaction_of
counted_home =
    Contains-append_right (counts 0 first) (counts 1 second ++ claimed_by home ∷ []) (claimed_by home)
    (Contains-append_right (counts 1 second) (claimed_by home ∷ []) (claimed_by home) (contains_first (claimed_by home) []))

its_due : (any : Known) → IsDueBy (known_with any) home
its_due any = record { verdict = Theirs; due = (due_exactly any).all (λ _. false) (claimed_by home) counted_home }

-- ---- the chain: the funding output was granted at height 0, and the commitment closed the channel at height 1

abbrev closed : Transaction
closed = closing terms first_newest

abbrev granting : Block
granting = record { transactions = []; granted = funded terms ∷ [] }

abbrev chain : List Block
chain = record { transactions = closed ∷ []; granted = [] } ∷ granting ∷ []

-- an output of another index
and_false : (b : Bool) → (b && false) ≡ false
and_false true = refl
and_false false = refl

fifth : (p : Creation → Bool) (u v w x y : Creation) → p u ≡ false → p v ≡ false → p w ≡ false → p x ≡ false → p y ≡ true → find p (u ∷ v ∷ w ∷ x ∷ y ∷ []) ≡ Some y
fifth p u v w x y e f g h i = rw (e, f, g, h, i) refl

bare_closed : unsigned_transaction closed ≡ unsigned_transaction (transaction_of c)
unfolding transaction_of commitment_of
bare_closed = refl

its_id : transaction_id closed ≡ id_of c
its_id = same_id closed (transaction_of c) bare_closed

abbrev remote : Creation
remote = record { outpoint = record { txid = transaction_id closed; index = 3 }; output = output_at on_remote; height = 1 }

abbrev is_at : Creation → Bool
is_at x = same_outpoint x.outpoint at_remote

abbrev granted : Creation
granted = record { outpoint = grant_outpoint 0; output = funded terms; height = 0 }

abbrev made : ℕ → CommitmentOutput → Creation
made index o = record { outpoint = record { txid = transaction_id closed; index = index }; output = tx_output o; height = 1 }

created : find is_at (created_of chain) ≡ Some remote
unfolding commitment_of keys_of outputs_of in_order output_cmp
created =
    fifth is_at granted (made 0 first) (made 1 second) (made 2 third) remote (and_false (bytes_eq (grant_id 0) (id_of c))) (and_false (bytes_eq (transaction_id closed) (id_of c)))
    (and_false (bytes_eq (transaction_id closed) (id_of c))) (and_false (bytes_eq (transaction_id closed) (id_of c)))
    (ap (λ id. same_outpoint (record { txid = id; index = 3 }) at_remote) its_id ∙ itself at_remote)

not_named : is_named chain at_remote ≡ false
unfolding commitment_of
not_named = rw (and_false (bytes_eq (grant_id 0) (id_of c))) refl

abbrev coin : Coin
coin = record { output = output_at on_remote; height = 1; spent = is_named chain at_remote }

there : coin_at chain at_remote ≡ Some coin
there = ap (option_map (λ (x : Creation). record { output = x.output; height = x.height; spent = is_named chain at_remote })) created

ripe : IsRipe chain home
ripe = record { coin = coin; there = there; output = refl; unspent = not_named; age = omega arith; above = omega arith }

-- ---- nothing refuses it

passed : ArePassed (home ∷ []) pays
passed = record { unmixed = refl; apart = refl; within = refl }

may_be_filled : (any : Known) → IsWhole home → MayBeFilled (known_with any) chain (home ∷ []) pays
may_be_filled any w = record { some = omega arith; due = (its_due any, tt); whole = (w, tt); passed = passed; ripe = (ripe, tt) }

-- ---- transactions keep their limits

its_parts : IsSignable (commitment_signed terms first_newest)
its_parts = commitment_signable terms first_newest (peers_payable channel keeps 1 first_newest refl).payable

its_limits : KeepsLimits (transaction_of (contents_of terms first_newest))
its_limits = recorded_limits terms first_newest (peers_payable channel keeps 1 first_newest refl).payable (transaction_of (contents_of terms first_newest)) (of_commitment refl)

token_bounded : (key digest : List ℕ) → is_key key ≡ true → length digest ≡ 32 → length (token_of key digest) ≤ 10000
token_bounded key digest k l = omega (arith, key-length key k, token-length key digest l)

-- the commitment's transaction with its witness, the one that is on the chain
closed_keeps : KeepsLimits closed
unfolding transaction_of commitment_of
closed_keeps = record {
  version = omega arith;
  some_input = omega arith;
  inputs = record {
    count = omega arith;
    each = (
      record {
        txid = its_parts.input.txid;
        index = its_parts.input.index;
        sequence = its_parts.input.sequence;
        witness = record {
          count = omega arith;
          each = (
            omega arith,
            (
              token_bounded terms.a.bases.funding.bytes (digest_of (commitment_signed terms first_newest)) terms.a.bases.funding.form (length-sha256 _),
              (token_bounded terms.b.bases.funding.bytes (digest_of (commitment_signed terms first_newest)) terms.b.bases.funding.form (length-sha256 _), (its_parts.code, tt)),
            ),
          );
        };
      },
      tt,
    );
  };
  outputs = its_limits.outputs;
  lock_time = its_limits.lock_time;
}

abbrev closing_block : Block
closing_block = record { transactions = closed ∷ []; granted = [] }

only_closed : (height : ℕ) (t : Transaction) → StandsAt chain height t → t ≡ closed
only_closed height t s =
    ⊎_elim {C = t ≡ closed} (λ (e : closing_block ≡ s.block). contains_one closed t (subst (λ (b : Block). Contains b.transactions t) (sym e) s.within))
    (λ (i : Contains (granting ∷ []) s.block). absurd (contains_none t (subst (λ (b : Block). Contains b.transactions t) (contains_one granting s.block i) s.within)))
    (contains_cases closing_block (granting ∷ []) s.block (block_in chain height t s))

abbrev filled : Transaction
filled = filling_of (home ∷ []) pays (preimage ∷ [])

bounded_by : (b : Bool) (first second script : List ℕ) → b ≡ false → length first ≤ 10000 → length second ≤ 10000 → IsWitness (if b then (first ∷ second ∷ []) ++ script ∷ [] else first ∷ second ∷ [])
bounded_by false first second script e l m = record { count = omega arith; each = (l, (m, tt)) }
bounded_by true first second script e l m = absurd (true≢false e)

-- a program of a key's hash is none of a script's
not_script : is_script_hash_program (key_hash_program payment.bytes) ≡ false
unfolding key_hash_program
not_script = and_false (length (key_hash_program payment.bytes) == 34)

program_bounded : length (key_hash_program payment.bytes) ≤ 10000
unfolding key_hash_program
program_bounded = let l = length-ripemd160 (sha256 payment.bytes) in omega (arith, l)

id_long : length (id_of c) ≡ 32
unfolding transaction_id
id_long = length-sha256 _

filled_keeps : KeepsLimits filled
filled_keeps = record {
  version = omega arith;
  some_input = omega arith;
  inputs = record {
    count = omega arith;
    each = (
      record {
        txid = id_long;
        index = omega arith;
        sequence = omega arith;
        witness = bounded_by (is_script_hash_program (key_hash_program payment.bytes)) (token_of payment.bytes (digest_for (transaction_for (home ∷ []) pays) home)) payment.bytes (script_of home) not_script
            (token_bounded payment.bytes (digest_for (transaction_for (home ∷ []) pays) home) payment.form (length-sha256 _)) (let l = short in omega (arith, l));
      },
      tt,
    );
  };
  outputs = record { count = omega arith; each = (record { value = omega arith; script = program_bounded }, tt) };
  lock_time = omega arith;
}

-- yes: KeepLimits
they_keep : KeepLimits chain filled
they_keep = record { twins = λ height t s e. unsigned_limits t (subst KeepsLimits (sym (only_closed height t s)) closed_keeps); filling = filled_keeps }

-- ---- so it passes. A claim is whole by its type

passes : FillingsPass → (any : Known) → IsWhole home → (transaction_refusal (empty_block ∷ chain) (filling_of (home ∷ []) pays (preimage ∷ [])) ≡ None) ⊎ HasTwinOn chain (filling_of (home ∷ []) pays (preimage ∷ []))
passes law any w = law channel keeps owns (known_with any) (is_known any) chain (home ∷ []) pays (may_be_filled any w) they_keep

-- and whoever releases it releases what is its own
its_own : DuesAreRecorded → Known → IsOnRecorded channel home
its_own law any = law channel keeps refl (known_with any) (is_known any) home (its_due any)
