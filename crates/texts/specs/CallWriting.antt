-- The calls of a book and the dump of its history, as they are written.
use Rattle.std.specs.Prelude.{◌≡◌, ℕ, ◌<◌, ◌^◌, Bool, true, if◌then◌else◌, List, [], ◌∷◌, map, length, Some, codes, ⊤, IsTrue}
use Rattle.std.specs.List.{AllByRecursion}
use Rattle.hex.specs.Hex.{IsBytes}
use Rattle.serde_json.specs.Data.{Data, no_members, member, no_items, item, string, array, object}
use Rattle.serde_json.specs.View.{items_of}
use Rattle.script.specs.Token.{is_token}
use Rattle.tx.specs.Parts.{Output, IsOutput}
use Rattle.keys.specs.declared.compressed.Key.{Key}
use Rattle.terms.specs.declared.agreement.BaseKeys.{BaseKeys}
use Rattle.updates.specs.declared.changes.Update.{Update}
use Rattle.claim.specs.Claims.{ClaimParts}
use Rattle.updates.specs.declared.messages.Tokens.{Tokens}
use Rattle.updates.specs.declared.messages.Revocation.{Revocation}
use Rattle.updates.specs.declared.changes.OwnUpdate.{OwnUpdate}
use Rattle.updates.specs.declared.changes.OwnUpdate.TheVariants.{Offer, Fulfil, Fail, SetFee}
use Rattle.updates.specs.declared.messages.PeerStep.{PeerStep}
use Rattle.updates.specs.declared.messages.PeerStep.TheVariants.{Update as Updated, CommitmentSigned}
use Rattle.texts.specs.declared.steps.PlainStep.TheVariants.{Own, Receive}
use Rattle.texts.specs.declared.calls.PlainOpening.{PlainOpening}
use Rattle.texts.specs.declared.calls.PlainCall.{PlainCall}
use Rattle.texts.specs.declared.calls.PlainCall.TheVariants.{Open, Step, Sign, Revoke, Keep, Release, Close}
use Rattle.texts.specs.declared.calls.PlainEntry.{PlainEntry}
use Rattle.texts.specs.Values.{each_of}
use Rattle.texts.specs.Writing.{number_data, bytes_data, side_data, pair_data, terms_data, output_data, update_data, HasWidths, Is32Bytes, IsUpdate}
use Rattle.texts.specs.ClaimWriting.{outpoint_data, claim_data, plain_claim, IsOutPoint, IsClaim}
use Rattle.texts.specs.Messages.{update_of}
use Rattle.texts.specs.Steps.{received_of}
use Rattle.terms.specs.Proposals.{can_agree}
use Rattle.texts.specs.Calls.{are_within, call_of, entry_of, any_close, dump_of}

abbrev pub key_data : Key → Data
key_data k = bytes_data k.bytes

abbrev pub base_keys_data : BaseKeys → Data
base_keys_data b = array (item (key_data b.funding) (item (key_data b.payment) (item (key_data b.delayed) (item (key_data b.htlc) (item (key_data b.revocation) no_items)))))

-- an array of the values, in order
abbrev pub each_data : {A : Type 0} → (A → Data) → List A → Data
each_data form xs = array (items_of (map form xs))

-- the first two items of a call: its name and its channel
abbrev pub call_front : List ℕ → ℕ → List Data
call_front name channel = string name ∷ number_data channel ∷ []

unfoldable pub signature_data : Tokens → Data
signature_data s = array (item (string (codes "signed")) (item (bytes_data s.commitment) (item (each_data bytes_data s.htlcs) no_items)))

unfoldable pub revocation_data : Revocation → Data
revocation_data r = array (item (string (codes "revoke")) (item (bytes_data r.secret) (item (key_data r.next_point) no_items)))

unfoldable pub received_data : PeerStep → Data
received_data (Updated u) = update_data u
received_data (CommitmentSigned s) = signature_data s

unfoldable pub open_data : PlainOpening → Data
open_data o =
    array (item (string (codes "open")) (item (terms_data o.terms) (item (outpoint_data o.funding) (item (side_data o.side) (item (bytes_data o.seed)
    (item (base_keys_data o.bases) (item (pair_data key_data (o.first_point, o.next_point)) (item (bytes_data o.token) no_items))))))))

unfoldable pub own_data : ℕ → OwnUpdate → Data
own_data channel (Offer amount_msat hash expiry_height) =
    array (item (string (codes "step")) (item (number_data channel) (item (string (codes "offer")) (item (number_data amount_msat) (item (bytes_data hash) (item (number_data expiry_height) no_items))))))
own_data channel (Fulfil id preimage) =
    array (item (string (codes "step")) (item (number_data channel) (item (string (codes "fulfil")) (item (number_data id) (item (bytes_data preimage) no_items)))))
own_data channel (Fail id) = array (item (string (codes "step")) (item (number_data channel) (item (string (codes "fail")) (item (number_data id) no_items))))
own_data channel (SetFee feerate_per_kw) = array (item (string (codes "step")) (item (number_data channel) (item (string (codes "fee")) (item (number_data feerate_per_kw) no_items))))

-- the step that receives a message, given the message as it is written
unfoldable pub receive_data : ℕ → Data → Data
receive_data channel message = array (item (string (codes "step")) (item (number_data channel) (item (string (codes "receive")) (item message no_items))))

unfoldable pub sign_data : ℕ → Data
sign_data channel = array (item (string (codes "sign")) (item (number_data channel) no_items))

unfoldable pub revoke_data : ℕ → Revocation → Data
revoke_data channel r = array (item (string (codes "revoke")) (item (number_data channel) (item (revocation_data r) no_items)))

unfoldable pub keep_data : ℕ → ℕ → List ClaimParts → Data
keep_data channel number claims = array (item (string (codes "keep")) (item (number_data channel) (item (number_data number) (item (each_data claim_data claims) no_items))))

unfoldable pub release_data : ℕ → List ClaimParts → List Output → List (List ℕ) → Data
release_data channel claims outputs preimages =
    array (item (string (codes "release")) (item (number_data channel) (item (each_data claim_data claims) (item (each_data output_data outputs) (item (each_data bytes_data preimages) no_items)))))

unfoldable pub close_data : ℕ → Data
close_data channel = array (item (string (codes "close")) (item (number_data channel) no_items))

-- an entry, given its call as it is written
unfoldable pub entry_data : Data → ℕ → Data
entry_data call seat = object (member (codes "call") call (member (codes "seat") (number_data seat) no_members))

-- the version in which a dump is written, by whether a call of it closes a channel
abbrev pub written_version : Bool → ℕ
written_version has_close = if has_close then 3 else 2

-- a dump, given whether a call of it closes a channel, and its entries as they are written
unfoldable pub dump_data : Bool → List Data → Data
dump_data has_close entries = object (member (codes "history") (array (items_of entries)) (member (codes "version") (number_data (written_version has_close)) no_members))

-- ---- what was written is read back as the same

abbrev pub IsKey : Key → Type 0
IsKey k = IsBytes k.bytes

pub record AreBases (b : BaseKeys) : Type 0 where
  pub funding : IsKey b.funding
  pub payment : IsKey b.payment
  pub delayed : IsKey b.delayed
  pub htlc : IsKey b.htlc
  pub revocation : IsKey b.revocation

-- the bytes are those of a token
abbrev pub IsTokenText : List ℕ → Type 0
IsTokenText bytes = IsTrue (is_token bytes) × IsBytes bytes

pub record IsOpening (o : PlainOpening) : Type 0 where
  pub widths : HasWidths o.terms
  pub agreed : can_agree o.terms ≡ true
  pub funding : IsOutPoint o.funding
  pub seed : Is32Bytes o.seed
  pub bases : AreBases o.bases
  pub first_point : IsKey o.first_point
  pub next_point : IsKey o.next_point
  pub token : IsTokenText o.token

abbrev pub IsOwnUpdate : OwnUpdate → Type 0
IsOwnUpdate (Offer amount_msat hash expiry_height) = Is32Bytes hash × (expiry_height < 2 ^ 32)
IsOwnUpdate (Fulfil id preimage) = Is32Bytes preimage
IsOwnUpdate (Fail id) = ⊤
IsOwnUpdate (SetFee feerate_per_kw) = feerate_per_kw < 2 ^ 32

abbrev pub IsReceived : PeerStep → Type 0
IsReceived (Updated u) = IsUpdate u
IsReceived (CommitmentSigned s) = IsTokenText s.commitment × AllByRecursion IsTokenText s.htlcs

abbrev pub IsRevocation : Revocation → Type 0
IsRevocation r = Is32Bytes r.secret × IsKey r.next_point

abbrev pub AreOutputTexts : List Output → Type 0
AreOutputTexts outputs = AllByRecursion (λ o. IsOutput o × IsBytes o.script) outputs

-- all of a signature's tokens have a token's form
abbrev pub AreTokens : Tokens → Type 0
AreTokens s = IsTrue (is_token s.commitment) × AllByRecursion (λ t. IsTrue (is_token t)) s.htlcs

-- what a reader asks of an opening beside its shape
abbrev pub CanOpen : PlainOpening → Type 0
CanOpen o = (can_agree o.terms ≡ true) × IsTrue (is_token o.token)

abbrev pub OpeningsComeBack : Type 0
OpeningsComeBack = (o : PlainOpening) → IsOpening o → call_of (open_data o) ≡ Some (Open o)

abbrev pub OwnStepsComeBack : Type 0
OwnStepsComeBack = (channel : ℕ) (u : OwnUpdate) → IsOwnUpdate u → call_of (own_data channel u) ≡ Some (Step channel (Own u))

-- an update that is read back alone is also read back as a received message
abbrev pub UpdatesAreReceived : Type 0
UpdatesAreReceived = (u : Update) → update_of (update_data u) ≡ Some u → received_of (update_data u) ≡ Some (Updated u)

-- a value that is read as a message is read, in the step that receives it, as the step with that message
abbrev pub ReceivedComesBack : ℕ → Data → Type 0
ReceivedComesBack channel d = (m : PeerStep) → received_of d ≡ Some m → call_of (receive_data channel d) ≡ Some (Step channel (Receive m))

abbrev pub ReceivedStepsComeBack : Type 0
ReceivedStepsComeBack = (channel : ℕ) (m : PeerStep) → IsReceived m → call_of (receive_data channel (received_data m)) ≡ Some (Step channel (Receive m))

abbrev pub SignsComeBack : Type 0
SignsComeBack = (channel : ℕ) → call_of (sign_data channel) ≡ Some (Sign channel)

abbrev pub RevokesComeBack : Type 0
RevokesComeBack = (channel : ℕ) (r : Revocation) → IsRevocation r → call_of (revoke_data channel r) ≡ Some (Revoke channel r)

abbrev pub KeepsComeBack : Type 0
KeepsComeBack = (channel number : ℕ) (claims : List ClaimParts) → AllByRecursion IsClaim claims → call_of (keep_data channel number claims) ≡ Some (Keep channel number (map plain_claim claims))

-- a release of some claims, and of no more claims and outputs than a transaction has, is read back
abbrev pub ReleaseComesBack : ℕ → List ClaimParts → List Output → List (List ℕ) → Type 0
ReleaseComesBack channel claims outputs preimages =
    are_within (length claims) (length outputs) ≡ true → call_of (release_data channel claims outputs preimages) ≡ Some (Release channel (map plain_claim claims) outputs preimages)

abbrev pub ReleasesComeBack : Type 0
ReleasesComeBack =
    (channel : ℕ) (claims : List ClaimParts) (outputs : List Output) (preimages : List (List ℕ))
    → AllByRecursion IsClaim claims → AreOutputTexts outputs → AllByRecursion Is32Bytes preimages → ReleaseComesBack channel claims outputs preimages

abbrev pub ClosesComeBack : Type 0
ClosesComeBack = (channel : ℕ) → call_of (close_data channel) ≡ Some (Close channel)

abbrev pub EntriesComeBack : Type 0
EntriesComeBack =
    (d : Data) (call : PlainCall) (seat : ℕ) → call_of d ≡ Some call → seat < 2 ^ 32
    → entry_of (entry_data d seat) ≡ Some (record { call = call; seat = seat })

abbrev pub DumpsComeBack : Type 0
DumpsComeBack =
    (has_close : Bool) (ds : List Data) (history : List PlainEntry) → each_of entry_of (items_of ds) ≡ Some history → any_close history ≡ has_close
    → dump_of (dump_data has_close ds) ≡ Some (record { history = history })
