-- What nobody else can do on a chain: make a token of a node's key. Each premise is a test of finite lists.
use Rattle.std.specs.Prelude.{◌≡◌, ℕ, Bool, true, false, not, ◌||◌, List, [], ◌∷◌, ◌++◌, map}
use Rattle.std.specs.List.{list_any, list_all, flat_map}
use Rattle.std.specs.Str.{bytes_eq}
use Rattle.script.specs.Spelling.{spelling}
use Rattle.script.specs.Token.{token_of}
use Rattle.tx.specs.declared.input.TxIn.{TxIn}
use Rattle.tx.specs.Fields.{Transaction, same_outpoint}
use Rattle.sighash.specs.Programs.{script_hash_program}
use Rattle.chain.specs.Blocks.{Contents as Block}
use Rattle.keys.specs.Derivation.{revocation_key}
use Rattle.terms.specs.declared.agreement.Terms.{Terms}
use Rattle.terms.specs.Agreement.{party}
use Rattle.claim.specs.declared.parts.Place.{Place}
use Rattle.commit.specs.Commitments.{Contents}
use Rattle.commit.specs.Signing.{funding_script}
use Rattle.penalty.specs.Claimable.{Claimable, claims_from}
use Rattle.channel.specs.declared.commitments.CommitmentState.{CommitmentState}
use Rattle.channel.specs.Points.{point_at}
use Rattle.channel.specs.Tokens.{contents_of}
use Rattle.safety.specs.Signing.{Signed, digest_of}
use Rattle.safety.specs.Spending.{peer_keys}
use Rattle.safety.specs.Holdings.{Holding, terms_in, peer_in, funding_key_in}
use Rattle.safety.specs.Given.{token_bytes, given_by}

-- ---- the outputs that a node's channels make

-- an output: where it is, its value and program, and the script that its spender shows
pub record LockedOutput : Type 0 where
  pub place : Place
  pub code : List ℕ

-- what a token on an input that spends it is over
abbrev pub spend : LockedOutput → Transaction → TxIn → Signed
spend w t input = record { transaction = t; input = input; code = w.code; value = w.place.value }

-- the funding output
abbrev pub funding_lock : Terms → LockedOutput
funding_lock terms = record {
  place = record { outpoint = terms.funding; value = terms.capacity_sat; program = script_hash_program (funding_script terms) };
  code = funding_script terms;
}

abbrev pub output_lock : Claimable → LockedOutput
output_lock o = record { place = o.place; code = spelling o.form.ops }

-- each output of a commitment, and that of each of its HTLC transactions
abbrev pub locks_of : Contents → List LockedOutput
locks_of c = map output_lock (claims_from c 0 c.outputs)

-- those of the recorded commitments of a channel, of both sides
abbrev pub outputs_in : Holding → List LockedOutput
outputs_in h = flat_map (λ k. locks_of (contents_of (terms_in h) k)) (h.state.signed ++ h.state.mine)

-- the same with the funding output
abbrev pub locks_in : Holding → List LockedOutput
locks_in h = funding_lock (terms_in h) ∷ outputs_in h

-- those of all channels
abbrev pub outputs_by : List Holding → List LockedOutput
outputs_by hs = flat_map outputs_in hs

abbrev pub locks_by : List Holding → List LockedOutput
locks_by hs = flat_map locks_in hs

-- ---- the node's keys

-- those that its own commitment gives it, as that commitment's owner
abbrev pub owner_keys : Contents → List (List ℕ)
owner_keys c = c.keys.delayed ∷ c.keys.local_htlc ∷ []

-- those of a channel: its funding key, and those that the recorded commitments give it
abbrev pub keys_in : Holding → List (List ℕ)
keys_in h = funding_key_in h
    ∷ (flat_map (λ k. peer_keys (contents_of (terms_in h) k).keys) h.state.signed ++ flat_map (λ k. owner_keys (contents_of (terms_in h) k)) h.state.mine)

abbrev pub keys_by : List Holding → List (List ℕ)
keys_by hs = flat_map keys_in hs

-- ---- on a chain

-- a test of each input
abbrev pub each_input : (Transaction → TxIn → Bool) → List Block → Bool
each_input test blocks = list_all (λ b. list_all (λ t. list_all (test t) t.inputs) b.transactions) blocks

-- a test of what an input shows, for each of these outputs whose outpoint it names
abbrev pub if_named : Bool → (List ℕ → Bool) → LockedOutput → Transaction → TxIn → Bool
if_named true test w t input = test (digest_of (spend w t input))
if_named false test w t input = true

abbrev pub each_spend : (List (List ℕ) → List ℕ → Bool) → List LockedOutput → Transaction → TxIn → Bool
each_spend test ws t input = list_all (λ w. if_named (same_outpoint input.outpoint w.place.outpoint) (test input.witness) w t input) ws

abbrev pub has_item : List (List ℕ) → List ℕ → Bool
has_item items item = list_any (λ x. bytes_eq x item) items

-- each token of these keys over the digest that the witness shows is among the given ones
abbrev pub shows_given : (given keys : List (List ℕ)) → (witness : List (List ℕ)) → List ℕ → Bool
shows_given given keys witness digest = list_all (λ key. not (has_item witness (token_of key digest)) || has_item given (token_of key digest)) keys

-- the witness shows no token of these keys over the digest
abbrev pub shows_none : (keys : List (List ℕ)) → (witness : List (List ℕ)) → List ℕ → Bool
shows_none keys witness digest = list_all (λ key. not (has_item witness (token_of key digest))) keys

-- TOKENS CAN'T BE FORGED. In each input that names an output of the node's channels, each token of a key of the node's, over that spend, is one that the node gave out
abbrev pub are_own : List Holding → List Block → Bool
are_own hs blocks = each_input (each_spend (shows_given (map token_bytes (given_by hs)) (keys_by hs)) (locks_by hs)) blocks

-- the revocation key of the newest own commitment, of which the node gave the secret to nobody
abbrev pub newest_revocation : Holding → List ℕ
newest_revocation h = revocation_key (party (peer_in h) (terms_in h)).bases.revocation.bytes (point_at h.state.seed h.state.number).bytes

-- the keys with which nobody else can sign: the node's, and the revocation key of each newest own commitment
abbrev pub secret_keys : List Holding → List (List ℕ)
secret_keys hs = keys_by hs ++ map newest_revocation hs

-- A REVOCATION KEY WANTS ITS SECRET. No such input shows a token of the revocation key of a newest own commitment
abbrev pub none_revokes : List Holding → List Block → Bool
none_revokes hs blocks = each_input (each_spend (shows_none (map newest_revocation hs)) (locks_by hs)) blocks
