-- What is found is what the rows of the claims, of the outputs and of the others say.
use Rattle.std.proofs.Common.{◌≡◌, inl, inr, ℕ, List, [], ◌∷◌, map, Result, Ok, Err, refl, subst, sym, ap, ◌∙◌}
use Rattle.std.specs.Prelude.{Option, Some, None, IfOk, MatchResult}
use Rattle.std.specs.List.{AllByRecursion}
use Rattle.tx.specs.declared.errors.DecodeError.{DecodeError}
use Rattle.tx.specs.declared.errors.DecodeError.TheVariants.{NoMemory as DecodeMemory, Truncated, LongCount, BadMarker, NoInputs, NoWitness, ValueTooLarge, Trailing, OverLimit}
use Rattle.tx.specs.Fields.{Transaction}
use Rattle.tx.specs.Reading.{reading, stripped_reading, Fails, Gives}
use Rattle.paths.specs.Laws.{ListedAreSound, SatisfiedExactly}
use Rattle.claim.specs.declared.parts.Shell.TheVariants.{Open}
use Rattle.claim.specs.declared.parts.Place.{Place}
use Rattle.claim.specs.Claims.{ClaimParts}
use Rattle.penalty.specs.Claimable.{Claimable, place_in}
use Rattle.penalty.specs.Sets.{AreClaimsOn}
use Rattle.anchor_forms.specs.declared.channel_types.ChannelType.{ChannelType}
use Rattle.revoked.specs.Parts.{RevokedParts}
use Rattle.revoked.specs.declared.outputs.RevokedOutput.{RevokedOutput}
use Rattle.revoked.specs.declared.outputs.RevokedOutput.TheVariants.{ToLocal, ToRemote, ToHtlc}
use Rattle.revoked.specs.Programs.{claim_on}
use Rattle.revoked.specs.Reading.{claimed_in}
use Rattle.revoked.specs.Telling.{IsOnOutput, EachClaimIsOnItsOutput}
use Rattle.unilateral.specs.declared.closes.Close.{Close}
use Rattle.unilateral.specs.declared.closes.Whose.{Whose}
use Rattle.unilateral.specs.declared.names.FundingKeys.{FundingKeys}
use Rattle.enforce_c.specs.declared.commitment_rows.Question.{Question}
use Rattle.enforce_c.specs.declared.commitment_rows.Question.TheVariants.{OfRevoked, OfClose}
use Rattle.enforce_c.specs.declared.commitment_rows.Commitment.{Commitment}
use Rattle.enforce_c.specs.declared.commitment_rows.HtlcRow.{HtlcRow}
use Rattle.enforce_c.specs.declared.commitment_rows.FoundAnswer.{FoundAnswer}
use Rattle.enforce_c.specs.declared.statuses.Refusal.{Refusal}
use Rattle.enforce_c.specs.declared.statuses.Refusal.TheVariants.{Decode}
use Rattle.enforce_c.specs.Statuses.{status_of}
use Rattle.enforce_c.specs.Claimed.{or_then}
use Rattle.enforce_c.specs.Spent.{UnlessMemory}
use Rattle.enforce_c.specs.Commitments.{channel_type_of, fault_in, keys_fault, key_bytes_of, funding_fault, IsFundingOf, htlcs_fault, AreHtlcsOf, whose_of, commitment_fault, IsCommitmentOf}
use Rattle.enforce_c.specs.ClaimLists.{ListsOfClaims, claim_lists, IsReady, AreReadAs}
use Rattle.enforce_c.specs.Found.{or_stripped, transaction_of, Seen, FoundLists, claimed_by, others_by, row_of_claim, other_row, AreReadBy, rows_in, IsFoundIn, IsFoundInBytes, IsNotRead, seen_fault, IsNotFound, IsFound, LeftFound, left_by_found, found_refused, AnswersFound}
use Rattle.enforce_c.proofs.Spends.{unless_memory, still_unless_memory}
use Rattle.enforce_c.proofs.ClaimRows.{IsOpen, rows_are_read, all_are_claims}

-- ---- the transaction

pub read_marked : (bytes : List ℕ) (t : Transaction) → reading bytes ≡ Ok t → transaction_of bytes ≡ Ok t
read_marked bytes t e = ap (or_stripped bytes) e

pub read_stripped : (bytes : List ℕ) (r : Result Transaction DecodeError) → reading bytes ≡ Err BadMarker → Gives (λ t. t) r (stripped_reading bytes) → Gives (λ t. t) r (transaction_of bytes)
read_stripped bytes r marked is = subst (λ x. Gives (λ t. t) r x) (sym (ap (or_stripped bytes) marked)) is

pub not_read : (bytes : List ℕ) (e : DecodeError) → (e ≡ BadMarker → ⊥) → Fails e (reading bytes) → Fails e (transaction_of bytes)
not_read bytes DecodeMemory other is = tt
not_read bytes Truncated other is = ap (or_stripped bytes) is
not_read bytes LongCount other is = ap (or_stripped bytes) is
not_read bytes BadMarker other is = absurd (other refl)
not_read bytes NoInputs other is = ap (or_stripped bytes) is
not_read bytes NoWitness other is = ap (or_stripped bytes) is
not_read bytes ValueTooLarge other is = ap (or_stripped bytes) is
not_read bytes Trailing other is = ap (or_stripped bytes) is
not_read bytes OverLimit other is = ap (or_stripped bytes) is

-- ---- the commitment

abbrev after_type : Commitment → List HtlcRow → Option Refusal → Option Refusal
after_type c htlcs type = or_then type (or_then (keys_fault c) (or_then (funding_fault c) (htlcs_fault 0 htlcs)))

pub no_type : (c : Commitment) (htlcs : List HtlcRow) (e : Refusal) → channel_type_of c.channel_type ≡ Err e → UnlessMemory e (commitment_fault c htlcs ≡ Some e)
no_type c htlcs e is = unless_memory e (commitment_fault c htlcs ≡ Some e) (ap (λ r. after_type c htlcs (fault_in r)) is)

typed : (c : Commitment) (htlcs : List HtlcRow) (t : ChannelType) → channel_type_of c.channel_type ≡ Ok t → commitment_fault c htlcs ≡ or_then (keys_fault c) (or_then (funding_fault c) (htlcs_fault 0 htlcs))
typed c htlcs t type = ap (λ r. after_type c htlcs (fault_in r)) type

pub no_key : (c : Commitment) (htlcs : List HtlcRow) (t : ChannelType) (e : Refusal) → channel_type_of c.channel_type ≡ Ok t → keys_fault c ≡ Some e → UnlessMemory e (commitment_fault c htlcs ≡ Some e)
no_key c htlcs t e type is = unless_memory e (commitment_fault c htlcs ≡ Some e) (typed c htlcs t type ∙ ap (λ k. or_then k (or_then (funding_fault c) (htlcs_fault 0 htlcs))) is)

keyed : (c : Commitment) (htlcs : List HtlcRow) (t : ChannelType) → channel_type_of c.channel_type ≡ Ok t → keys_fault c ≡ None → commitment_fault c htlcs ≡ or_then (funding_fault c) (htlcs_fault 0 htlcs)
keyed c htlcs t type none = typed c htlcs t type ∙ ap (λ k. or_then k (or_then (funding_fault c) (htlcs_fault 0 htlcs))) none

pub no_funding : (c : Commitment) (htlcs : List HtlcRow) (t : ChannelType) (e : Refusal) → channel_type_of c.channel_type ≡ Ok t → keys_fault c ≡ None → funding_fault c ≡ Some e → UnlessMemory e (commitment_fault c htlcs ≡ Some e)
no_funding c htlcs t e type none is = unless_memory e (commitment_fault c htlcs ≡ Some e) (keyed c htlcs t type none ∙ ap (λ k. or_then k (htlcs_fault 0 htlcs)) is)

funded : (c : Commitment) (htlcs : List HtlcRow) (t : ChannelType) → channel_type_of c.channel_type ≡ Ok t → keys_fault c ≡ None → funding_fault c ≡ None → commitment_fault c htlcs ≡ htlcs_fault 0 htlcs
funded c htlcs t type none funding = keyed c htlcs t type none ∙ ap (λ k. or_then k (htlcs_fault 0 htlcs)) funding

pub no_htlc : (c : Commitment) (htlcs : List HtlcRow) (t : ChannelType) (e : Refusal) → channel_type_of c.channel_type ≡ Ok t → keys_fault c ≡ None → funding_fault c ≡ None → UnlessMemory e (htlcs_fault 0 htlcs ≡ Some e)
    → UnlessMemory e (commitment_fault c htlcs ≡ Some e)
no_htlc c htlcs t e type none funding is =
    still_unless_memory e (htlcs_fault 0 htlcs ≡ Some e) (commitment_fault c htlcs ≡ Some e) (λ f. funded c htlcs t type none funding ∙ f) is

pub is_commitment : (c : Commitment) (htlcs : List HtlcRow) (r : RevokedParts) (k : Option FundingKeys) → channel_type_of c.channel_type ≡ Ok r.channel_type → keys_fault c ≡ None → r.keys ≡ key_bytes_of c → r.delay_blocks ≡ c.delay_blocks
    → funding_fault c ≡ None → IsFundingOf c k → htlcs_fault 0 htlcs ≡ None → AreHtlcsOf htlcs r.htlcs → IsCommitmentOf c htlcs r k
is_commitment c htlcs r k type none keys delay funding are faultless all =
    record { channel_type = type; keyed = none; keys = keys; delay = delay; funded = funding; funding = are; faultless = faultless; htlcs = all }

named : (c : Commitment) (htlcs : List HtlcRow) (r : RevokedParts) (k : Option FundingKeys) → IsCommitmentOf c htlcs r k → commitment_fault c htlcs ≡ None
named c htlcs r k h = funded c htlcs r.channel_type h.channel_type h.keyed h.funded ∙ h.faultless

-- ---- what is found

abbrev after_whose : Seen → Option Refusal → Option Refusal
after_whose a whose = or_then whose (commitment_fault a.commitment a.htlcs)

pub no_close : (a : Seen) (e : Refusal) → whose_of a.whose ≡ Err e → IsNotFound a e
no_close a e is = unless_memory e _ (inl (ap (λ r. after_whose a (fault_in r)) is))

of_commitment : (a : Seen) (w : Whose) → whose_of a.whose ≡ Ok w → seen_fault a ≡ commitment_fault a.commitment a.htlcs
of_commitment a w is = ap (λ r. after_whose a (fault_in r)) is

pub not_named : (a : Seen) (w : Whose) (e : Refusal) → whose_of a.whose ≡ Ok w → UnlessMemory e (commitment_fault a.commitment a.htlcs ≡ Some e) → IsNotFound a e
not_named a w e whose is = still_unless_memory e (commitment_fault a.commitment a.htlcs ≡ Some e) _ (λ f. inl (of_commitment a w whose ∙ f)) is

-- a claim of a revoked commitment is in an open transaction
open_on : (r : RevokedParts) (o : RevokedOutput) (place : Place) → (claim_on r o place).shell ≡ Open
open_on r ToLocal place = refl
open_on r ToRemote place = refl
open_on r (ToHtlc h) place = refl

all_open : (r : RevokedParts) (t : Transaction) (os : List Claimable) (cs : List ClaimParts) → AllByRecursion (IsOnOutput r t) os → AreClaimsOn os cs → AllByRecursion IsOpen cs
all_open r t [] [] on are = tt
all_open r t [] (c ∷ cs) on are = absurd are
all_open r t (o ∷ os) [] on are = absurd are
all_open r t (o ∷ os) (c ∷ cs) on are =
    (ap (λ x. x.shell) are.0.exact ∙ ap (λ x. x.shell) on.0.claim ∙ open_on r on.0.known (place_in t on.0.index on.0.output), all_open r t os cs on.1 are.1)

-- so are all of its claims
read_by : (q : Question) (k : Close) (t : Transaction) (cs : List ClaimParts) (f : FoundLists) → EachClaimIsOnItsOutput → AreClaimsOn (claimed_by q k t) cs → AreReadAs f.slots f.bytes f.claims cs → AreReadBy q f cs
read_by OfRevoked k t cs f on are all = all_are_claims f.slots f.bytes f.claims cs (all_open k.commitment t (claimed_in k.commitment t) cs (on k.commitment t) are) all
read_by OfClose k t cs f on are all = all

pub is_found_in : (q : Question) (k : Close) (funding_keys : Option FundingKeys) (t : Transaction) (confirmed_height : ℕ) (cs : List ClaimParts) (f : FoundLists) → ListedAreSound → SatisfiedExactly → EachClaimIsOnItsOutput
    → AreClaimsOn (claimed_by q k t) cs → AllByRecursion IsReady cs → rows_in f ≡ claim_lists cs → f.found ≡ map (row_of_claim k confirmed_height) cs → f.others ≡ map (other_row k.commitment funding_keys t) (others_by q k t)
    → IsFoundIn q k funding_keys t confirmed_height f
is_found_in q k funding_keys t confirmed_height cs f sound exact on are ready lists found others = record {
  claims = cs;
  claimed = are;
  rows = lists;
  read = read_by q k t cs f on are (subst (λ (l : ListsOfClaims). AreReadAs l.slots l.bytes l.claims cs) (sym lists) (rows_are_read sound exact cs ready));
  found = found;
  others = others;
}

-- the same of a result that may be out of memory
pub found_if : {E : Type 0} (q : Question) (k : Close) (funding_keys : Option FundingKeys) (t : Transaction) (confirmed_height : ℕ) (cs : List ClaimParts) (os : List ℕ) (result : Result FoundLists E) → ListedAreSound → SatisfiedExactly
    → EachClaimIsOnItsOutput → AreClaimsOn (claimed_by q k t) cs → os ≡ others_by q k t → IfOk result (λ f. rows_in f ≡ claim_lists cs) → IfOk result (λ f. AllByRecursion IsReady cs)
    → IfOk result (λ f. f.found ≡ map (row_of_claim k confirmed_height) cs) → IfOk result (λ f. f.others ≡ map (other_row k.commitment funding_keys t) os) → IfOk result (IsFoundIn q k funding_keys t confirmed_height)
found_if q k funding_keys t confirmed_height cs os (Ok f) sound exact on are rest lists ready found others =
    is_found_in q k funding_keys t confirmed_height cs f sound exact on are ready lists found (others ∙ ap (map (other_row k.commitment funding_keys t)) rest)
found_if q k funding_keys t confirmed_height cs os (Err e) sound exact on are rest lists ready found others = tt

pub not_seen : (bytes : List ℕ) (why : DecodeError) → Fails why (transaction_of bytes) → IsNotRead bytes (Decode why)
not_seen bytes why first = record { why = why; named = refl; first = first }

pub is_seen : (q : Question) (k : Close) (funding_keys : Option FundingKeys) (bytes : List ℕ) (confirmed_height : ℕ) (t : Transaction) (f : FoundLists) → transaction_of bytes ≡ Ok t → IsFoundIn q k funding_keys t confirmed_height f
    → IsFoundInBytes q k funding_keys bytes confirmed_height f
is_seen q k funding_keys bytes confirmed_height t f seen found = record { tx = t; seen = seen; found = found }

-- what is found of the commitment that rows name
pub by_commitment : (a : Seen) (r : RevokedParts) (w : Whose) (funding_keys : Option FundingKeys) (result : Result FoundLists Refusal) → whose_of a.whose ≡ Ok w → IsCommitmentOf a.commitment a.htlcs r funding_keys
    → MatchResult result (IsFoundInBytes a.question (record { commitment = r; whose = w; feerate_per_kw = a.feerate_per_kw; preimages = a.preimages }) funding_keys a.tx a.confirmed_height) (λ e. UnlessMemory e (IsNotRead a.tx e)) → IsFound a result
by_commitment a r w funding_keys (Ok f) whose is found = record {
  close = record { commitment = r; whose = w; feerate_per_kw = a.feerate_per_kw; preimages = a.preimages };
  funding_keys = funding_keys;
  seen = record { whose = whose; named = is; feerate = refl; preimages = refl };
  found = found;
}
by_commitment a r w funding_keys (Err e) whose is unread =
    still_unless_memory e (IsNotRead a.tx e) _ (λ f. inr (of_commitment a w whose ∙ named a.commitment a.htlcs r funding_keys is, f)) unread

-- ---- what the call leaves

pub found_lists : (a : Seen) (before f : FoundLists) (after : LeftFound) → IsFound a (Ok f) → left_by_found f before ≡ after → AnswersFound a before after
found_lists a before f after found left = (Ok f, found, left)

pub refused_found : (a : Seen) (before : FoundLists) (e : Refusal) (s : ℕ) (n : FoundAnswer) → IsFound a (Err e) → s ≡ status_of e → n ≡ found_refused e → AnswersFound a before (record { status = s; answer = n; lists = before })
refused_found a before e s n refused status answer = (Err e, refused, rw (status, answer) refl)
