-- The law of balances on the chain of the channel of two rounds that the node's own commitment closed, with each of its HTLC transactions. Each premise is met, by a history that calls leave.
use Rattle.std.proofs.Common.{◌≡◌, ◌≢◌, ℕ, true, false, List, [], ◌∷◌, ◌++◌, map, Bool, Some, get_or, refl, sym, ap, ◌∙◌, subst, inr, arith, ◌<◌, ◌≤◌, ◌^◌, lit≤, lit<}
use Rattle.std.specs.List.{Contains, AllByRecursion, list_all, flat_map}
use Rattle.std.proofs.lemmas.Bool.{and_parts}
use Rattle.std.proofs.lemmas.List.Elements.{Contains-append_left, Contains-append_right}
use Rattle.sha2.specs.Sha256.{sha256, digest_bytes, hash_after, compress, rounds, schedule, first_words}
use Rattle.script.specs.Token.{token_of}
use Rattle.tx.specs.declared.input.TxIn.{TxIn}
use Rattle.tx.specs.declared.limits.TheConstants.{MAX_VALUE}
use Rattle.tx.specs.Parts.{IsBounded}
use Rattle.tx.specs.Fields.{Transaction, KeepsLimits}
use Rattle.tx.specs.Spelling.{transaction_id}
use Rattle.keys.specs.declared.compressed.Key.{Key}
use Rattle.keys.specs.Derivation.{point_of, derived_key, revocation_key, seed_secret}
use Rattle.secrets.specs.Derivation.{flipped, derived_secret}
use Rattle.chain.specs.Blocks.{grant_id, has_id, coin_at}
use Rattle.chain.specs.Conserving.{GrantsAreApart}
use Rattle.terms.specs.declared.htlcs.Htlc.{Htlc}
use Rattle.commit.specs.declared.fees.Direction.TheVariants.{Offered, Received}
use Rattle.commit.specs.declared.outputs.HtlcOutput.{HtlcOutput}
use Rattle.commit.specs.Commitments.{commitment_of, transaction_of, htlcs_from, htlcs_of, htlc_tx_of}
use Rattle.commit.specs.Fees.{satoshis_of}
use Rattle.commit.specs.Keys.{keys_of}
use Rattle.commit.specs.Order.{output_cmp, in_order}
use Rattle.commit.specs.Outputs.{outputs_of, htlc_script}
use Rattle.commit.specs.Signing.{funding_script, commitment_digest, htlc_digest}
use Rattle.channel.specs.Points.{index_of, secret_at, point_at}
use Rattle.channel.specs.Tokens.{contents_of}
use Rattle.publish.specs.Opening.{CommitmentsSpend, HtlcTxsSpend}
use Rattle.publish.specs.Published.{funding_witness, htlc_witness}
use Rattle.safety.specs.Holdings.{Holding, claim_signed}
use Rattle.safety.specs.Given.{GivenToken, token_bytes, key_token, given_in, given_by, own_token, with_commitment, with_release, with_close}
use Rattle.safety.specs.Premises.{outputs_by, locks_by, keys_by, secret_keys, each_input, each_spend, has_item, shows_given, shows_none, newest_revocation, are_own, none_revokes, owner_keys}
use Rattle.safety.specs.Spending.{peer_keys}
use Rattle.safety.specs.Ledgers.{CheckedAreLedgers}
use Rattle.safety.specs.Closers.{IsFunded}
use Rattle.safety.specs.Recorded.{IsPayable, of_htlc, RecordedLimits}
use Rattle.safety.specs.Whereabouts.{IsOnChain}
use Rattle.safety.proofs.Lists.{contains_map, both}
use Rattle.safety.proofs.Slots.{contains_first}
use Rattle.safety.proofs.Tests.{flat_in, has}
use Rattle.safety.proofs.Limits.{signable}
use Rattle.safety.proofs.Handed.{keys_good}
use Rattle.safety.proofs.WorkedChannels.{revocation_form}
use Rattle.balance_laws.specs.Balances.{BalanceIsThere}
use Rattle.book.specs.Accepted.{AcceptedMeans}
use Rattle.book.specs.Penalties.{PenaltySetsAreExact}
use Rattle.book.specs.Signers.{RefusalsAreFound}
use Rattle.book_laws.specs.Books.{BooksHaveBalances}
use Rattle.book_laws.proofs.RoundsExamples.{seed, bases, their_bases, opens_input, opens, funding_out, terms, book, received_3, same}
use Rattle.book_laws.proofs.RoundsTokens.{begins_two, other_item, second_of, other_key, has_other_second, stage_given, none_shown, whatever_is_named}
use Rattle.book_laws.proofs.RoundsChains.{closing, block, differ, grant_begins, grant_no_opens, opens_no_grant, opens_fits, closing_fits, token_fits, own, own_secret, own_secret_is, own_checked, own_alone, funding_second, revocation_second}
use Rattle.book_laws.proofs.RoundsReleases.{c, ours, theirs, more, stage_digest_length, local_key, remote_key, stage_claim, release, released, closed_history, closed, closed_is, careful_too}
use Rattle.book_laws.proofs.RoundsStages.{eights, nines, stage, stage_input, one_input, theirs_begins, more_begins, ours_begins, until_4, own_no_opens, stages_checked}
use Rattle.book_laws.proofs.RoundsEnds.{hs, one_listed, all_keep, script_begins, theirs_begins as their_token_begins, keys_two, closing_shows, pays}

abbrev mine : List Holding
mine = hs released (Some 3)

-- ---- the keys, by their second byte

remote_second_by : get_or (derived_key their_bases.htlc.bytes (point_of own_secret)) 1 0 ≡ 0x72
unfolding sha256 digest_bytes hash_after compress rounds schedule first_words point_of derived_key
remote_second_by = refl

remote_second : get_or remote_key.bytes 1 0 ≡ 0x72
remote_second = ap (λ (s : List ℕ). get_or (derived_key their_bases.htlc.bytes (point_of s)) 1 0) own_secret_is ∙ remote_second_by

local_second_by : get_or (derived_key bases.htlc.bytes (point_of own_secret)) 1 0 ≡ 0x62
unfolding sha256 digest_bytes hash_after compress rounds schedule first_words point_of derived_key seed_secret
local_second_by = refl

local_second : get_or local_key.bytes 1 0 ≡ 0x62
local_second = ap (λ (s : List ℕ). get_or (derived_key bases.htlc.bytes (point_of s)) 1 0) own_secret_is ∙ local_second_by

-- the secrets of the node's earlier commitments are a hash or two from that one
secret_2 : secret_at seed 2 ≡ sha256 (flipped 0 (secret_at seed 3))
unfolding derived_secret index_of secret_at
secret_2 = refl

secret_1 : secret_at seed 1 ≡ sha256 (flipped 1 (secret_at seed 3))
unfolding derived_secret index_of secret_at
secret_1 = refl

secret_0 : secret_at seed 0 ≡ sha256 (flipped 0 (sha256 (flipped 1 (secret_at seed 3))))
unfolding derived_secret index_of secret_at
secret_0 = refl

abbrev own_keys_with : List ℕ → List (List ℕ)
own_keys_with secret = derived_key bases.delayed.bytes (point_of secret) ∷ derived_key bases.htlc.bytes (point_of secret) ∷ []

abbrev four_with : List ℕ → List (List ℕ)
four_with s =
    own_keys_with (sha256 (flipped 0 (sha256 (flipped 1 s)))) ++ own_keys_with (sha256 (flipped 1 s)) ++ own_keys_with (sha256 (flipped 0 s)) ++ own_keys_with s

own_keys_by : list_all (has_other_second 0x72) (four_with own_secret) ≡ true
unfolding sha256 digest_bytes hash_after compress rounds schedule first_words flipped point_of derived_key seed_secret
own_keys_by = refl

own_keys : list_all (has_other_second 0x72) (four_with (secret_at seed 3)) ≡ true
own_keys = ap (λ (s : List ℕ). list_all (has_other_second 0x72) (four_with s)) own_secret_is ∙ own_keys_by

abbrev peers_keys : List (List ℕ)
peers_keys = bases.funding.bytes ∷ flat_map (λ k. peer_keys (contents_of terms k).keys) received_3.signed

peers_keys_so : list_all (has_other_second 0x72) peers_keys ≡ true
unfolding sha256 digest_bytes hash_after compress rounds schedule first_words derived_secret flipped point_of derived_key revocation_key seed_secret commitment_of keys_of
peers_keys_so = refl

all_of_both : (p : List ℕ → Bool) (xs ys : List (List ℕ)) → list_all p xs ≡ true → list_all p ys ≡ true → list_all p (xs ++ ys) ≡ true
all_of_both p [] ys e f = f
all_of_both p (x ∷ xs) ys e f = let parts = and_parts (p x) (list_all p xs) e in both (p x) (list_all p (xs ++ ys)) parts.0 (all_of_both p xs ys parts.1 f)

own_keys_are : flat_map (λ k. owner_keys (contents_of terms k)) received_3.mine ≡ four_with (secret_at seed 3)
unfolding commitment_of keys_of
own_keys_are = ap (λ (s : List ℕ). own_keys_with s ++ own_keys_with (secret_at seed 1) ++ own_keys_with (secret_at seed 2) ++ own_keys_with (secret_at seed 3)) secret_0
    ∙ ap (λ (s : List ℕ). own_keys_with (sha256 (flipped 0 (sha256 (flipped 1 (secret_at seed 3))))) ++ own_keys_with s ++ own_keys_with (secret_at seed 2) ++ own_keys_with (secret_at seed 3)) secret_1
    ∙ ap (λ (s : List ℕ). own_keys_with (sha256 (flipped 0 (sha256 (flipped 1 (secret_at seed 3))))) ++ own_keys_with (sha256 (flipped 1 (secret_at seed 3))) ++ own_keys_with s ++ own_keys_with (secret_at seed 3)) secret_2

all_keys : list_all (has_other_second 0x72) (keys_by mine) ≡ true
all_keys =
    all_of_both (has_other_second 0x72) peers_keys (flat_map (λ k. owner_keys (contents_of terms k)) received_3.mine) peers_keys_so
    (ap (λ (ks : List (List ℕ)). list_all (has_other_second 0x72) ks) own_keys_are ∙ own_keys)

-- ---- the tokens that were given

abbrev given : List (List ℕ)
given = map token_bytes (given_by mine)

-- those of releases
abbrev stage_token : HtlcOutput → GivenToken
stage_token h = key_token (claim_signed (release h) (stage_claim h)) local_key

abbrev IsOver : HtlcOutput → Type 0
IsOver h = token_bytes (stage_token h) ≡ token_of local_key.bytes (htlc_digest c h)

token_is : IsOver theirs × IsOver more × IsOver ours
unfolding htlc_digest htlc_tx_of htlc_script
token_is = (refl, refl, refl)

in_given : (z : GivenToken) → Contains (given_in closed) z → has_item given (token_bytes z) ≡ true
in_given z i = has given (token_bytes z) (contains_map token_bytes (given_by mine) z (flat_in given_in mine closed z (contains_first closed []) i))

with_releases : (z : GivenToken) → Contains (flat_map with_release released) z → Contains (given_in closed) z
with_releases z i =
    Contains-append_left (flat_map (with_commitment terms) received_3.signed ++ flat_map with_release released) (with_close closed (Some 3)) z
    (Contains-append_right (flat_map (with_commitment terms) received_3.signed) (flat_map with_release released) z i)

theirs_given : has_item given (token_of local_key.bytes (htlc_digest c theirs)) ≡ true
theirs_given = ap (has_item given) (sym token_is.0) ∙ in_given (stage_token theirs) (with_releases (stage_token theirs) (0, lit< tt, refl))

more_given : has_item given (token_of local_key.bytes (htlc_digest c more)) ≡ true
more_given = ap (has_item given) (sym token_is.1) ∙ in_given (stage_token more) (with_releases (stage_token more) (1, lit< tt, refl))

ours_given : has_item given (token_of local_key.bytes (htlc_digest c ours)) ≡ true
ours_given = ap (has_item given) (sym token_is.2) ∙ in_given (stage_token ours) (with_releases (stage_token ours) (2, lit< tt, refl))

-- ---- what each input shows

-- the keys in the witness of an HTLC transaction
witness_is : (h : HtlcOutput) (item : List ℕ)
    → htlc_witness c h item ≡ [] ∷ token_of remote_key.bytes (htlc_digest c h) ∷ token_of local_key.bytes (htlc_digest c h) ∷ item ∷ htlc_script c.keys h.direction h.htlc ∷ []
unfolding commitment_of keys_of
witness_is h item = refl

offered_begins : (h : HtlcOutput) → begins_two (htlc_script c.keys Offered h.htlc) ≡ false
unfolding htlc_script
offered_begins h = refl

received_begins : (h : HtlcOutput) → begins_two (htlc_script c.keys Received h.htlc) ≡ false
unfolding htlc_script
received_begins h = refl

remote_token : (d : List ℕ) → get_or (token_of remote_key.bytes d) 1 0 ≡ 0x72
remote_token d = second_of remote_key d ∙ remote_second

-- its revocation key is another than each of these
abbrev revocation : Key
revocation = record { bytes = newest_revocation closed; form = revocation_form their_bases.revocation.bytes (point_at seed 3).bytes }

revocation_begins : begins_two revocation.bytes ≡ true
unfolding revocation_key
revocation_begins = refl

-- an HTLC transaction, by the item above the signatures
module _ (h : HtlcOutput) (item : List ℕ) (unlike : begins_two item ≡ false) (none : begins_two (htlc_script c.keys h.direction h.htlc) ≡ false) (there : has_item given (token_of local_key.bytes (htlc_digest c h)) ≡ true) where
  stage_shows : (d : List ℕ) → shows_given given (keys_by mine) (stage_input h item).witness d ≡ true
  stage_shows d =
      ap (λ (items : List (List ℕ)). shows_given given (keys_by mine) items d) (witness_is h item)
      ∙ stage_given given (keys_by mine) (token_of remote_key.bytes (htlc_digest c h)) (token_of local_key.bytes (htlc_digest c h)) item (htlc_script c.keys h.direction h.htlc) d 0x72 (remote_token (htlc_digest c h)) unlike none there all_keys

  stage_revokes : (d : List ℕ) → shows_none (revocation.bytes ∷ []) (stage_input h item).witness d ≡ true
  stage_revokes d =
      ap (λ (items : List (List ℕ)). shows_none (revocation.bytes ∷ []) items d) (witness_is h item)
      ∙ rw (
        other_item [] revocation.bytes d refl revocation_begins,
        other_key remote_key revocation 0x72 0xac remote_second revocation_second (λ e. omega (arith, e)) (htlc_digest c h) d,
        other_key local_key revocation 0x62 0xac local_second revocation_second (λ e. omega (arith, e)) (htlc_digest c h) d,
        other_item item revocation.bytes d unlike revocation_begins,
        other_item (htlc_script c.keys h.direction h.htlc) revocation.bytes d none revocation_begins,
      ) refl

  pub tokens_own : each_spend (shows_given given (keys_by mine)) (locks_by mine) (stage h item) (stage_input h item) ≡ true
  tokens_own = whatever_is_named (shows_given given (keys_by mine)) (locks_by mine) (stage h item) (stage_input h item) stage_shows

  pub revokes_none : each_spend (shows_none (revocation.bytes ∷ [])) (locks_by mine) (stage h item) (stage_input h item) ≡ true
  revokes_none = whatever_is_named (shows_none (revocation.bytes ∷ [])) (locks_by mine) (stage h item) (stage_input h item) stage_revokes

-- ---- the commitment

abbrev own_i : TxIn
own_i = record { outpoint = (contents_of terms own).funding; sequence = (contents_of terms own).hidden.sequence; witness = funding_witness terms (contents_of terms own) }

own_given : Contains (given_in closed) (own_token closed own)
own_given =
    Contains-append_right (flat_map (with_commitment terms) received_3.signed ++ flat_map with_release released) (with_close closed (Some 3)) (own_token closed own) (contains_first (own_token closed own) [])

own_token_is : token_bytes (own_token closed own) ≡ token_of bases.funding.bytes (commitment_digest terms (contents_of terms own))
unfolding commitment_digest
own_token_is = refl

own_witness : funding_witness terms c ≡ [] ∷ token_of bases.funding.bytes (commitment_digest terms c) ∷ token_of their_bases.funding.bytes (commitment_digest terms c) ∷ funding_script terms ∷ []
unfolding point_of
own_witness = refl

closing_revokes : (d : List ℕ) → shows_none (revocation.bytes ∷ []) own_i.witness d ≡ true
closing_revokes d =
    ap (λ (items : List (List ℕ)). shows_none (revocation.bytes ∷ []) items d) own_witness
    ∙ rw (
      other_item [] revocation.bytes d refl revocation_begins,
      other_key bases.funding revocation 0x5e 0xac funding_second revocation_second (λ e. omega (arith, e)) (commitment_digest terms c) d,
      other_item (token_of their_bases.funding.bytes (commitment_digest terms c)) revocation.bytes d (their_token_begins (commitment_digest terms c)) revocation_begins,
      other_item (funding_script terms) revocation.bytes d script_begins revocation_begins,
    ) refl

paid : IsPayable terms own
paid = pays own (record { few = lit≤ tt; heights = refl; whole = refl }) (lit< tt)

-- ---- the chain

own_input : (closing own).inputs ≡ own_i ∷ []
unfolding transaction_of
own_input = refl

-- a test of each input of it
each_of : (test : Transaction → TxIn → Bool) → test (stage ours []) (stage_input ours []) ≡ true → test (stage more nines) (stage_input more nines) ≡ true → test (stage theirs eights) (stage_input theirs eights) ≡ true
    → test (closing own) own_i ≡ true → test opens opens_input ≡ true → each_input test until_4 ≡ true
each_of test a b d e f =
    rw (
      one_listed test (stage ours []) (stage_input ours []) (one_input ours []) a,
      one_listed test (stage more nines) (stage_input more nines) (one_input more nines) b,
      one_listed test (stage theirs eights) (stage_input theirs eights) (one_input theirs eights) d,
      one_listed test (closing own) own_i own_input e,
      one_listed test opens opens_input refl f,
    ) refl

tokens_are_own : CommitmentsSpend → are_own mine until_4 ≡ true
tokens_are_own spend =
    each_of (each_spend (shows_given given (keys_by mine)) (locks_by mine)) (tokens_own ours [] refl (offered_begins ours) ours_given) (tokens_own more nines refl (received_begins more) more_given)
    (tokens_own theirs eights refl (received_begins theirs) theirs_given)
    (whatever_is_named (shows_given given (keys_by mine)) (locks_by mine) (closing own) own_i (closing_shows released (Some 3) own (own_token closed own) own_given own_token_is paid (own_checked spend) own_alone))
    (whatever_is_named (shows_given given (keys_by mine)) (locks_by mine) opens opens_input (λ d. none_shown given (keys_by mine) (0x51 ∷ []) d refl (keys_two released (Some 3))))

none_is_revoked : none_revokes mine until_4 ≡ true
none_is_revoked =
    each_of (each_spend (shows_none (map newest_revocation mine)) (locks_by mine)) (revokes_none ours [] refl (offered_begins ours) ours_given) (revokes_none more nines refl (received_begins more) more_given)
    (revokes_none theirs eights refl (received_begins theirs) theirs_given) (whatever_is_named (shows_none (map newest_revocation mine)) (locks_by mine) (closing own) own_i closing_revokes)
    (whatever_is_named (shows_none (map newest_revocation mine)) (locks_by mine) opens opens_input (λ d. rw (other_item (0x51 ∷ []) revocation.bytes d refl revocation_begins) refl))

funding_there : coin_at until_4 terms.funding ≡ Some (record { output = funding_out; height = 1; spent = true })
unfolding transaction_of commitment_of htlc_tx_of
funding_there = rw (own_no_opens, same (transaction_id opens), grant_no_opens) refl

funded : IsFunded until_4 terms
unfolding funding_script
funded = (record { output = funding_out; height = 1; spent = true }, record { there = funding_there; output = refl })

no_grant : has_id until_4 (grant_id 0) ≡ false
no_grant =
    rw (
      differ (transaction_id (stage ours [])) (grant_id 0) 0x50 0x0f ours_begins grant_begins (λ e. omega (arith, e)),
      differ (transaction_id (stage more nines)) (grant_id 0) 0x2e 0x0f more_begins grant_begins (λ e. omega (arith, e)),
      differ (transaction_id (stage theirs eights)) (grant_id 0) 0x20 0x0f theirs_begins grant_begins (λ e. omega (arith, e)),
      own_alone,
      opens_no_grant,
    ) refl

apart : GrantsAreApart until_4
apart = record {
  among_grants = λ g h l m. absurd (omega (arith, l, m));
  from_transactions = λ g l. let z : g ≡ 0 = omega (arith, l) in subst (λ (n : ℕ). has_id until_4 (grant_id n) ≡ false) (sym z) no_grant;
}

among : Contains (htlcs_of c) ours × Contains (htlcs_of c) theirs × Contains (htlcs_of c) more
unfolding htlcs_from commitment_of outputs_of in_order output_cmp
among = ((1, lit< tt, refl), (2, lit< tt, refl), (0, lit< tt, refl))

stage_fits : RecordedLimits → (h : HtlcOutput) (item : List ℕ) → Contains (htlcs_of c) h → IsBounded item → IsBounded (htlc_script c.keys h.direction h.htlc) → KeepsLimits (stage h item)
unfolding htlc_tx_of commitment_of keys_of
stage_fits limits h item i short code =
    let l = limits terms own paid (htlc_tx_of c h) (of_htlc h i refl) in
    record {
      version = l.version;
      some_input = lit< tt;
      inputs = record {
        count = lit≤ tt;
        each = (
          record {
            txid = l.inputs.each.0.txid;
            index = l.inputs.each.0.index;
            sequence = l.inputs.each.0.sequence;
            witness = record { count = lit≤ tt; each = (lit≤ tt, (token_fits remote_key (htlc_digest c h) (stage_digest_length h), (token_fits local_key (htlc_digest c h) (stage_digest_length h), (short, (code, tt))))) };
          },
          tt,
        );
      };
      outputs = l.outputs;
      lock_time = l.lock_time;
    }

code_fits : (h : HtlcOutput) → h.index < 2 ^ 32 → h.htlc.expiry_height < 2 ^ 32 → satoshis_of h.htlc.amount_msat ≤ MAX_VALUE → IsBounded (htlc_script c.keys h.direction h.htlc)
code_fits h index expiry value = (signable c h (keys_good terms own) index expiry value).code

fits : RecordedLimits → AllByRecursion (λ b. AllByRecursion KeepsLimits b.transactions) until_4
fits law = (
  (stage_fits law ours [] among.0 (lit≤ tt) (code_fits ours (lit< tt) (lit< tt) (lit≤ tt)), tt),
  (
    (stage_fits law more nines among.2 (lit≤ tt) (code_fits more (lit< tt) (lit< tt) (lit≤ tt)), (stage_fits law theirs eights among.1 (lit≤ tt) (code_fits theirs (lit< tt) (lit< tt) (lit≤ tt)), tt)),
    ((closing_fits law own paid, tt), ((opens_fits, tt), (tt, tt))),
  ),
)

-- each HTLC transaction stands there
stand : IsOnChain until_4 (htlc_tx_of c ours) × IsOnChain until_4 (htlc_tx_of c theirs) × IsOnChain until_4 (htlc_tx_of c more)
unfolding htlc_tx_of
stand = (
  record { height = 4; signed = stage ours []; stands = record { block = block (stage ours [] ∷ []); there = refl; within = (0, lit< tt, refl) }; same = refl },
  record { height = 3; signed = stage theirs eights; stands = record { block = block (stage more nines ∷ stage theirs eights ∷ []); there = refl; within = (1, lit< tt, refl) }; same = refl },
  record { height = 3; signed = stage more nines; stands = record { block = block (stage more nines ∷ stage theirs eights ∷ []); there = refl; within = (0, lit< tt, refl) }; same = refl },
)

-- the HTLC base keys of the two sides are two
htlc_second : get_or bases.htlc.bytes 1 0 ≡ 7
unfolding sha256 digest_bytes hash_after compress rounds schedule first_words point_of seed_secret
htlc_second = refl

two_htlc_keys : bases.htlc.bytes ≢ their_bases.htlc.bytes
two_htlc_keys e = let n : get_or bases.htlc.bytes 1 0 ≡ 0x23 = ap (λ (bytes : List ℕ). get_or bytes 1 0) e in let m = htlc_second in omega (arith, n, m)

by_own : AcceptedMeans → PenaltySetsAreExact → RefusalsAreFound → CommitmentsSpend → HtlcTxsSpend → CheckedAreLedgers → RecordedLimits → BooksHaveBalances → (known : Htlc → Bool) → BalanceIsThere mine until_4 closed known
by_own means sets found commits stages are law balances known =
    (balances closed_history 0 (book (Some 3)) until_4 (careful_too means sets found) closed closed_is (are until_4 (stages_checked commits stages) (all_keep until_4 (fits law)) apart (secret_keys mine) (locks_by mine) (outputs_by mine)) (tokens_are_own commits) funded
    (inr (none_is_revoked, two_htlc_keys)) known).0
