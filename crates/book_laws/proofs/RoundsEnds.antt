-- The law of balances on three chains of the channel of two rounds: closed by a commitment that the peer revoked, by its newest, and by the one after it. Each premise is met, by a history that calls leave. (`RoundsOwn` has
-- the chain that the node's own commitment closed.)
use Rattle.std.proofs.Common.{◌≡◌, ℕ, true, false, List, [], ◌∷◌, ◌++◌, map, Bool, Option, Some, None, refl, sym, ap, ◌∙◌, subst, inl, arith, ◌<◌, ◌^◌, lit≤, lit<}
use Rattle.std.specs.List.{Contains, AllByRecursion, list_all, flat_map}
use Rattle.std.specs.Str.{bytes_eq}
use Rattle.std.proofs.lemmas.List.Elements.{Contains-append_left, All-from_recursion, All-contains}
use Rattle.script.specs.Token.{token_of}
use Rattle.tx.specs.declared.input.TxIn.{TxIn}
use Rattle.tx.specs.Parts.{Output}
use Rattle.tx.specs.Fields.{Transaction, KeepsLimits}
use Rattle.tx.specs.Spelling.{transaction_id}
use Rattle.keys.specs.Derivation.{point_of, derived_key, revocation_key}
use Rattle.chain.specs.Blocks.{Contents as Block, grant_id, has_id, coin_at}
use Rattle.chain.specs.Checked.{is_checked}
use Rattle.chain.specs.Conserving.{GrantsAreApart}
use Rattle.terms.specs.declared.htlcs.Htlc.{Htlc}
use Rattle.commit.specs.Commitments.{Contents, commitment_of, transaction_of, htlcs_of}
use Rattle.commit.specs.Keys.{keys_of}
use Rattle.commit.specs.Signing.{funding_script, commitment_digest}
use Rattle.channel.specs.declared.commitments.CommitmentState.{CommitmentState}
use Rattle.channel.specs.Tokens.{contents_of, funding_key}
use Rattle.publish.specs.Opening.{CommitmentsSpend}
use Rattle.penalty.specs.Paying.{CanPay}
use Rattle.publish.specs.Published.{funding_witness}
use Rattle.safety.specs.Standing.{StandsAt}
use Rattle.safety.specs.Holdings.{Release, Holding, terms_in}
use Rattle.safety.specs.Given.{GivenToken, htlc_token, token_bytes, given_in, given_by, funding_token, with_commitment, with_release, with_close}
use Rattle.safety.specs.Premises.{outputs_by, locks_by, keys_by, secret_keys, each_input, each_spend, has_item, shows_given, are_own}
use Rattle.safety.specs.Ledgers.{IsLedger, CheckedAreLedgers}
use Rattle.safety.specs.Closers.{IsFunded}
use Rattle.safety.specs.Recorded.{IsPayable, RecordedLimits}
use Rattle.safety.proofs.Lists.{contains_map, both}
use Rattle.safety.proofs.Slots.{contains_first}
use Rattle.safety.proofs.Standing.{block_in}
use Rattle.safety.proofs.Tests.{flat_in, has}
use Rattle.balance_laws.specs.Balances.{BalanceIsThere}
use Rattle.book.specs.Accepted.{AcceptedMeans}
use Rattle.book.specs.Penalties.{PenaltySetsAreExact}
use Rattle.book_laws.specs.Books.{BooksHaveBalances}
use Rattle.book_laws.proofs.RoundsExamples.{bases, their_bases, opens_input, opens, funding_out, terms, history, book, careful, received_3, same, opens_length}
use Rattle.book_laws.proofs.RoundsTokens.{begins_two, none_shown, all_given, whatever_is_named}
use Rattle.book_laws.proofs.RoundsChains.{closing, block, granted, closed_by, grant_no_opens, opens_no_grant, opens_fits, closing_fits, revoked, newest, next, revoked_checked, newest_checked, next_checked, revoked_alone, newest_alone, next_alone}

-- what the history leaves, with what was released and closed after it
abbrev pub it : List Release → Option ℕ → Holding
it rs closed = record { state = received_3; releases = rs; closed = closed }

abbrev pub hs : List Release → Option ℕ → List Holding
hs rs closed = it rs closed ∷ []

-- each key of the node's begins with 2
pub keys_two : (rs : List Release) (closed : Option ℕ) → list_all begins_two (keys_by (hs rs closed)) ≡ true
unfolding commitment_of keys_of derived_key revocation_key point_of
keys_two rs closed = refl

pub one_listed : (test : Transaction → TxIn → Bool) (t : Transaction) (i : TxIn) → t.inputs ≡ i ∷ [] → test t i ≡ true → list_all (test t) t.inputs ≡ true
one_listed test t i e f = ap (λ (xs : List TxIn). list_all (test t) xs) e ∙ both (test t i) true f refl

two_inputs : (test : Transaction → TxIn → Bool) (t u : Transaction) (i j : TxIn) (os : List Output) → t.inputs ≡ i ∷ [] → u.inputs ≡ j ∷ [] → test t i ≡ true → test u j ≡ true
    → each_input test (block (t ∷ []) ∷ block (u ∷ []) ∷ record { transactions = []; granted = os } ∷ []) ≡ true
two_inputs test t u i j os e f g h = rw (one_listed test t i e g, one_listed test u j f h) refl

-- a chain each of whose transactions keeps the limits
pub all_keep : (blocks : List Block) → AllByRecursion (λ b. AllByRecursion KeepsLimits b.transactions) blocks → (height : ℕ) (t : Transaction) → StandsAt blocks height t → KeepsLimits t
all_keep blocks keeps height t s =
    All-contains KeepsLimits s.block.transactions t
    (All-from_recursion KeepsLimits s.block.transactions (All-contains (λ (b : Block). AllByRecursion KeepsLimits b.transactions) blocks s.block (All-from_recursion (λ (b : Block). AllByRecursion KeepsLimits b.transactions) blocks keeps) (block_in blocks height t s)))
    s.within

pub script_begins : begins_two (funding_script terms) ≡ false
unfolding funding_script point_of
script_begins = refl

pub theirs_begins : (d : List ℕ) → begins_two (token_of their_bases.funding.bytes d) ≡ false
unfolding token_of
theirs_begins d = refl

-- what is given with a commitment of the peer's is given
with_signed : (h : Holding) (k : CommitmentState) (z : GivenToken) → Contains h.state.signed k → Contains (with_commitment (terms_in h) k) z → Contains (given_in h) z
with_signed h k z i j =
    Contains-append_left (flat_map (with_commitment (terms_in h)) h.state.signed ++ flat_map with_release h.releases) (with_close h h.closed) z
    (Contains-append_left (flat_map (with_commitment (terms_in h)) h.state.signed) (flat_map with_release h.releases) z (flat_in (with_commitment (terms_in h)) h.state.signed k z i j))

-- a commitment closed the channel, on which the node gave out this token
module _ (rs : List Release) (closed : Option ℕ) (k : CommitmentState) (z : GivenToken) (given : Contains (given_in (it rs closed)) z) (token_is : token_bytes z ≡ token_of bases.funding.bytes (commitment_digest terms (contents_of terms k)))
    (payable : IsPayable terms k) (checked : is_checked (closed_by k) ≡ true) (alone : bytes_eq (transaction_id (closing k)) (grant_id 0) ≡ false) where
  abbrev c : Contents
  c = contents_of terms k

  abbrev mine : List ℕ
  mine = token_of bases.funding.bytes (commitment_digest terms c)

  abbrev i : TxIn
  i = record { outpoint = c.funding; sequence = c.hidden.sequence; witness = funding_witness terms c }

  witness_is : funding_witness terms c ≡ [] ∷ mine ∷ token_of their_bases.funding.bytes (commitment_digest terms c) ∷ funding_script terms ∷ []
  unfolding point_of
  witness_is = refl

  mine_given : has_item (map token_bytes (given_by (hs rs closed))) mine ≡ true
  mine_given =
      has (map token_bytes (given_by (hs rs closed))) mine
      (subst (λ (x : List ℕ). Contains (map token_bytes (given_by (hs rs closed))) x) token_is
      (contains_map token_bytes (given_by (hs rs closed)) z (flat_in given_in (hs rs closed) (it rs closed) z (contains_first (it rs closed) []) given)))

  pub closing_shows : (d : List ℕ) → shows_given (map token_bytes (given_by (hs rs closed))) (keys_by (hs rs closed)) i.witness d ≡ true
  closing_shows d =
      ap (λ (items : List (List ℕ)). shows_given (map token_bytes (given_by (hs rs closed))) (keys_by (hs rs closed)) items d) witness_is
      ∙ all_given (map token_bytes (given_by (hs rs closed))) (keys_by (hs rs closed)) mine (token_of their_bases.funding.bytes (commitment_digest terms c)) (funding_script terms) d (theirs_begins (commitment_digest terms c)) script_begins mine_given (keys_two rs closed)

  one_input : (closing k).inputs ≡ i ∷ []
  unfolding transaction_of
  one_input = refl

  own_tokens : are_own (hs rs closed) (closed_by k) ≡ true
  own_tokens =
      two_inputs (each_spend (shows_given (map token_bytes (given_by (hs rs closed))) (keys_by (hs rs closed))) (locks_by (hs rs closed))) (closing k) opens i opens_input (granted ∷ []) one_input refl
      (whatever_is_named (shows_given (map token_bytes (given_by (hs rs closed))) (keys_by (hs rs closed))) (locks_by (hs rs closed)) (closing k) i closing_shows)
      (whatever_is_named (shows_given (map token_bytes (given_by (hs rs closed))) (keys_by (hs rs closed))) (locks_by (hs rs closed)) opens opens_input (λ d. none_shown (map token_bytes (given_by (hs rs closed))) (keys_by (hs rs closed)) (0x51 ∷ []) d refl (keys_two rs closed)))

  funding_there : coin_at (closed_by k) terms.funding ≡ Some (record { output = funding_out; height = 1; spent = true })
  unfolding transaction_of commitment_of
  funding_there = rw (same (transaction_id opens), grant_no_opens) refl

  funded : IsFunded (closed_by k) terms
  unfolding funding_script
  funded = (record { output = funding_out; height = 1; spent = true }, record { there = funding_there; output = refl })

  alone_too : has_id (closed_by k) (grant_id 0) ≡ false
  alone_too = rw (alone, opens_no_grant) refl

  apart : GrantsAreApart (closed_by k)
  apart = record {
    among_grants = λ g h l m. absurd (omega (arith, l, m));
    from_transactions = λ g l. let z : g ≡ 0 = omega (arith, l) in subst (λ (n : ℕ). has_id (closed_by k) (grant_id n) ≡ false) (sym z) alone_too;
  }

  limits : RecordedLimits → (height : ℕ) (t : Transaction) → StandsAt (closed_by k) height t → KeepsLimits t
  limits law = all_keep (closed_by k) ((closing_fits law k payable, tt), ((opens_fits, tt), (tt, tt)))

  ledger : CheckedAreLedgers → RecordedLimits → IsLedger (hs rs closed) (closed_by k)
  ledger are law = are (closed_by k) checked (limits law) apart (secret_keys (hs rs closed)) (locks_by (hs rs closed)) (outputs_by (hs rs closed))

-- ---- each of the three

pub pays : (k : CommitmentState) → CanPay terms k.view → k.number < 2 ^ 48 → IsPayable terms k
pays k can few = record { funding = record { txid = opens_length; index = lit< tt }; view = can; number = few }

-- by the token of a commitment of the peer's
token_with : (k : CommitmentState) → funding_key terms k ≡ bases.funding.bytes → token_bytes (funding_token terms k) ≡ token_of bases.funding.bytes (commitment_digest terms (contents_of terms k))
unfolding commitment_digest
token_with k e = ap (λ (key : List ℕ). token_of key (commitment_digest terms (contents_of terms k))) e

module _ (means : AcceptedMeans) (sets : PenaltySetsAreExact) (spend : CommitmentsSpend) (are : CheckedAreLedgers) (law : RecordedLimits) (balances : BooksHaveBalances) (known : Htlc → Bool) where
  by_revoked : BalanceIsThere (hs [] None) (closed_by revoked) (it [] None) known
  by_revoked =
      let z = funding_token terms revoked in
      let given = with_signed (it [] None) revoked z (1, lit< tt, refl) (contains_first z (map (htlc_token terms revoked) (htlcs_of (contents_of terms revoked)))) in
      let paid = (pays revoked (record { few = lit≤ tt; heights = refl; whole = refl }) (lit< tt)) in
      (balances history 0 (book None) (closed_by revoked) (careful means sets) (it [] None) refl (ledger [] None revoked z given (token_with revoked refl) paid (revoked_checked spend) revoked_alone are law) (own_tokens [] None revoked z given (token_with revoked refl) paid (revoked_checked spend) revoked_alone)
      (funded [] None revoked z given (token_with revoked refl) paid (revoked_checked spend) revoked_alone) (inl refl) known).0

  by_newest : BalanceIsThere (hs [] None) (closed_by newest) (it [] None) known
  by_newest =
      let z = funding_token terms newest in
      let given = with_signed (it [] None) newest z (2, lit< tt, refl) (contains_first z (map (htlc_token terms newest) (htlcs_of (contents_of terms newest)))) in
      let paid = (pays newest (record { few = lit≤ tt; heights = refl; whole = refl }) (lit< tt)) in
      (balances history 0 (book None) (closed_by newest) (careful means sets) (it [] None) refl (ledger [] None newest z given (token_with newest refl) paid (newest_checked spend) newest_alone are law) (own_tokens [] None newest z given (token_with newest refl) paid (newest_checked spend) newest_alone)
      (funded [] None newest z given (token_with newest refl) paid (newest_checked spend) newest_alone) (inl refl) known).0

  by_next : BalanceIsThere (hs [] None) (closed_by next) (it [] None) known
  by_next =
      let z = funding_token terms next in
      let given = with_signed (it [] None) next z (3, lit< tt, refl) (contains_first z (map (htlc_token terms next) (htlcs_of (contents_of terms next)))) in
      let paid = (pays next (record { few = lit≤ tt; heights = refl; whole = refl }) (lit< tt)) in
      (balances history 0 (book None) (closed_by next) (careful means sets) (it [] None) refl (ledger [] None next z given (token_with next refl) paid (next_checked spend) next_alone are law) (own_tokens [] None next z given (token_with next refl) paid (next_checked spend) next_alone)
      (funded [] None next z given (token_with next refl) paid (next_checked spend) next_alone) (inl refl) known).0
