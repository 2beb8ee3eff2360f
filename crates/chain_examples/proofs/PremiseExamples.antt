-- The premises of the laws on one node against everybody, on small witnesses, heights and channels, on both sides of each bound.
use Rattle.std.proofs.Common.{◌≡◌, ℕ, ◌+◌, ◌^◌, Bool, true, false, List, [], ◌∷◌, map, length, replicate, Some, None, refl}
use Rattle.script.specs.Token.{token_of}
use Rattle.tx.specs.declared.input.TxIn.{TxIn}
use Rattle.commit.specs.Order.{output_cmp, in_order}
use Rattle.commit.specs.Outputs.{outputs_of}
use Rattle.commit.specs.Commitments.{commitment_of, htlcs_from}
use Rattle.penalty.specs.Claimable.{claims_by}
use Rattle.safety.specs.Holdings.{Holding}
use Rattle.safety.specs.Given.{GivenToken, given_in}
use Rattle.safety.specs.Premises.{locks_in, keys_in, shows_given, shows_none, secret_keys}
use Rattle.safety.specs.Ledgers.{keeps_locks}
use Rattle.safety.proofs.WorkedChannels.{first_terms, second_terms, first_opened, first_newest, first_own, second_opened, second_own, sweep, state, holding}

-- ---- tokens

abbrev key : ℕ → List ℕ
key n = 2 ∷ replicate 32 n

abbrev digest : ℕ → List ℕ
digest n = replicate 32 n

-- a token that was given out may be shown
given : shows_given (token_of (key 1) (digest 1) ∷ []) (key 1 ∷ []) (token_of (key 1) (digest 1) ∷ []) (digest 1) ≡ true
unfolding token_of
given = refl

-- one over another digest may not: another output that a key pays is another digest
another_digest : shows_given (token_of (key 1) (digest 1) ∷ []) (key 1 ∷ []) (token_of (key 1) (digest 2) ∷ []) (digest 2) ≡ false
unfolding token_of
another_digest = refl

-- nor one of another key of the node's over the same digest
another_key : shows_given (token_of (key 1) (digest 1) ∷ []) (key 1 ∷ key 2 ∷ []) (token_of (key 2) (digest 1) ∷ []) (digest 1) ≡ false
unfolding token_of
another_key = refl

-- nor where a given one stands beside it
beside : shows_given (token_of (key 1) (digest 1) ∷ []) (key 1 ∷ key 2 ∷ []) (token_of (key 1) (digest 1) ∷ token_of (key 2) (digest 1) ∷ []) (digest 1) ≡ false
unfolding token_of
beside = refl

-- a copied token, which is over another digest than the input's, is no token there; and keys of others count nothing
copied : shows_given [] (key 1 ∷ []) (token_of (key 1) (digest 1) ∷ []) (digest 2) ≡ true
unfolding token_of
copied = refl

of_others : shows_given [] (key 1 ∷ []) (token_of (key 3) (digest 1) ∷ key 1 ∷ [] ∷ []) (digest 1) ≡ true
unfolding token_of
of_others = refl

-- no token of a key, over the digest
none : shows_none (key 1 ∷ []) (token_of (key 1) (digest 1) ∷ []) (digest 2) ≡ true
unfolding token_of
none = refl

one : shows_none (key 2 ∷ key 1 ∷ []) ([] ∷ token_of (key 1) (digest 1) ∷ []) (digest 1) ≡ false
unfolding token_of
one = refl

-- ---- locks

abbrev input : ℕ → TxIn
input sequence = record { outpoint = record { txid = []; index = 0 }; sequence = sequence; witness = [] }

-- whether a transaction of one input with these fields keeps its locks in a block of a height, where the coin is of a block of another height
abbrev keeps : (height version lock_time sequence since : ℕ) → Bool
keeps height version lock_time sequence since = keeps_locks height (record { version = version; inputs = input sequence ∷ []; outputs = []; lock_time = lock_time }) (input sequence) since

-- a lock time that is a height is below the block's, unless the input is final; one that is a time counts as reached
locks : keeps 5 2 5 0 0 ≡ false
locks = refl

above : keeps 6 2 5 0 0 ≡ true
above = refl

final : keeps 5 2 5 0xffffffff 0 ≡ true
final = refl

not_final : keeps 5 1 5 0xfffffffe 0 ≡ false
not_final = refl

greatest : keeps 499999999 2 499999999 0 0 ≡ false
greatest = refl

time : keeps 0 2 500000000 0 0 ≡ true
time = refl

-- one of two inputs is not final
one_final : keeps_locks 5 (record { version = 2; inputs = input 0xffffffff ∷ input 0 ∷ []; outputs = []; lock_time = 5 }) (input 0xffffffff) 0 ≡ false
one_final = refl

-- an age in blocks is reached: the low 16 bits, from version 2 on, where bits 22 and 31 are clear
young : keeps 4 2 0 2 3 ≡ false
young = refl

old : keeps 5 2 0 2 3 ≡ true
old = refl

low_bits : keeps 5 2 0 (2 ^ 16 + 2) 3 ≡ true
low_bits = refl

still_young : keeps 4 2 0 (2 ^ 21 + 2) 3 ≡ false
still_young = refl

first_version : keeps 4 1 0 2 3 ≡ true
first_version = refl

in_time : keeps 4 2 0 (2 ^ 22 + 2) 3 ≡ true
in_time = refl

disabled : keeps 4 2 0 (2 ^ 31 + 2) 3 ≡ true
disabled = refl

-- ---- lists

abbrev first : Holding
first = holding (state first_terms 1 false (replicate 32 0x50 ∷ []) (first_own ∷ []) (first_opened ∷ first_newest ∷ [])) (sweep ∷ []) None

-- the tokens on the peer's commitment 0, on its commitment 1 and its two HTLC transactions, and that of the sweep
tokens : length (given_in first) ≡ 5
unfolding htlcs_from commitment_of outputs_of in_order output_cmp
tokens = refl

-- what each is over: the capacity, the value of an HTLC, that of to_remote; and the index of the output that it spends
values : map (λ (z : GivenToken). z.over.value) (given_in first) ≡ 100000 ∷ 100000 ∷ 10000 ∷ 12000 ∷ 58932 ∷ []
unfolding htlcs_from commitment_of outputs_of in_order output_cmp
values = refl

indices : map (λ (z : GivenToken). z.over.input.outpoint.index) (given_in first) ≡ 0 ∷ 0 ∷ 0 ∷ 1 ∷ 3 ∷ []
unfolding htlcs_from commitment_of outputs_of in_order output_cmp
indices = refl

-- with a close one more
with_close : length (given_in (holding (state second_terms 0 false [] (second_own ∷ []) (second_opened ∷ [])) [] (Some 0))) ≡ 3
unfolding htlcs_from commitment_of outputs_of in_order output_cmp
with_close = refl

-- the funding output; two outputs of commitment 0; four of commitment 1, and those of two HTLC transactions; two of the own one
outputs : length (locks_in first) ≡ 11
unfolding claims_by commitment_of outputs_of in_order output_cmp
outputs = refl

-- the funding key, three on each commitment of the peer's, two on the own one
keys : length (keys_in first) ≡ 9
unfolding commitment_of
keys = refl

-- with the revocation key of the newest own one
secret : length (secret_keys (first ∷ [])) ≡ 10
unfolding commitment_of
secret = refl
