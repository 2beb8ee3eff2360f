-- The tokens that a node gave out: with its peers' commitments, in what it released, and with an own commitment that closed a channel.
use Rattle.std.specs.Prelude.{ℕ, List, [], ◌∷◌, ◌++◌, map, Option, Some, None, slice_get}
use Rattle.std.specs.List.{flat_map, cons_option}
use Rattle.script.specs.Token.{token_of}
use Rattle.keys.specs.declared.compressed.Key.{Key}
use Rattle.terms.specs.declared.agreement.Terms.{Terms}
use Rattle.claim.specs.declared.parts.Slot.{Slot}
use Rattle.claim.specs.declared.parts.Slot.TheVariants.{Sig, Preimage, Exact}
use Rattle.claim.specs.Claims.{ClaimParts}
use Rattle.commit.specs.declared.outputs.HtlcOutput.{HtlcOutput}
use Rattle.commit.specs.Commitments.{transaction_of, htlcs_of}
use Rattle.commit.specs.Signing.{funding_script, input_of}
use Rattle.channel.specs.declared.commitments.CommitmentState.{CommitmentState}
use Rattle.channel.specs.States.{State}
use Rattle.channel.specs.Tokens.{contents_of, funding_key, htlc_key}
use Rattle.safety.specs.Signing.{Signed, digest_of}
use Rattle.safety.specs.Fates.{htlc_signed}
use Rattle.safety.specs.Holdings.{Release, claim_signed, Holding, terms_in, funding_key_in}

-- a token, by its key and by what it is over
pub record GivenToken : Type 0 where
  pub key : List ℕ
  pub over : Signed

-- its bytes
abbrev pub token_bytes : GivenToken → List ℕ
token_bytes z = token_of z.key (digest_of z.over)

-- a commitment, as both funding keys sign it
abbrev pub commitment_signed : Terms → CommitmentState → Signed
commitment_signed terms k = record {
  transaction = transaction_of (contents_of terms k);
  input = input_of (contents_of terms k).funding (contents_of terms k).hidden.sequence;
  code = funding_script terms;
  value = terms.capacity_sat;
}

-- the token of the funding key on a commitment of the peer's, and that of the HTLC key on one of its HTLC transactions
abbrev pub funding_token : Terms → CommitmentState → GivenToken
funding_token terms k = record { key = funding_key terms k; over = commitment_signed terms k }

abbrev pub htlc_token : Terms → CommitmentState → HtlcOutput → GivenToken
htlc_token terms k x = record { key = htlc_key terms k; over = htlc_signed (contents_of terms k) x }

-- those of `commitment_signed` (BOLT 2)
abbrev pub with_commitment : Terms → CommitmentState → List GivenToken
with_commitment terms k = funding_token terms k ∷ map (htlc_token terms k) (htlcs_of (contents_of terms k))

-- that of a key over what is signed
abbrev pub key_token : Signed → Key → GivenToken
key_token s key = record { key = key.bytes; over = s }

-- that of a slot which asks for a key's
abbrev pub for_slot : Signed → Slot → List GivenToken
for_slot s (Sig key) = key_token s key ∷ []
for_slot s (Preimage hash) = []
for_slot s (Exact item) = []

-- those of what was released
abbrev pub with_release : Release → List GivenToken
with_release r = flat_map (λ x. flat_map (for_slot (claim_signed r x)) x.slots) r.claims

-- that of the funding key on an own commitment, and on the one that closed the channel
abbrev pub own_token : Holding → CommitmentState → GivenToken
own_token h k = record { key = funding_key_in h; over = commitment_signed (terms_in h) k }

abbrev pub with_close : Holding → Option ℕ → List GivenToken
with_close h None = []
with_close h (Some n) = map (own_token h) (cons_option (slice_get h.state.mine n) [])

-- all of a channel. Those with the peer's commitment 0 are among them from the start
abbrev pub given_in : Holding → List GivenToken
given_in h = flat_map (with_commitment (terms_in h)) h.state.signed ++ flat_map with_release h.releases ++ with_close h h.closed

-- all of a node
abbrev pub given_by : List Holding → List GivenToken
given_by hs = flat_map given_in hs
