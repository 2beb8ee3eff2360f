-- A claim, an opening and an entry that are dumped come back as the same.
use Rattle.std.specs.Prelude.{◌≡◌, Some, Ok, ⊤, IsTrue}
use Rattle.std.specs.List.{AllByRecursion}
use Rattle.script.specs.Token.{is_token}
use Rattle.claim.specs.Claims.{ClaimParts, IsWhole}
use Rattle.texts.specs.Calls.{entry_of as entry_in}
use Rattle.texts.specs.ClaimWriting.{plain_claim}
use Rattle.texts.specs.CallWriting.{AreTokens}
use Rattle.book.specs.declared.calls.Opening.{Opening}
use Rattle.book.specs.declared.calls.Call.{Call}
use Rattle.book.specs.declared.calls.Call.TheVariants.{Open, Step as Stepping, Sign, Revoke, Keep, Release, Close}
use Rattle.book.specs.declared.calls.Step.{Step}
use Rattle.updates.specs.declared.messages.PeerStep.TheVariants.{Update as Updated, CommitmentSigned}
use Rattle.book.specs.declared.calls.Step.TheVariants.{Own, Peer}
use Rattle.book.specs.declared.calls.Entry.{Entry}
use Rattle.book_dump.specs.Openings.{opening_of}
use Rattle.plain_claims.specs.Claims.{claim_of}
use Rattle.book_dump.specs.Loading.{entry_of}
use Rattle.book_dump.specs.Dumping.{plain_opening, plain_entry, history_entry_data}

abbrev pub HasWholeClaims : Call → Type 0
HasWholeClaims (Open o) = ⊤
HasWholeClaims (Stepping channel step) = ⊤
HasWholeClaims (Sign channel) = ⊤
HasWholeClaims (Revoke channel revocation) = ⊤
HasWholeClaims (Keep channel number claims) = AllByRecursion IsWhole claims
HasWholeClaims (Release channel batch) = AllByRecursion IsWhole batch.claims
HasWholeClaims (Close channel) = ⊤

-- received tokens have a token's form
abbrev pub HasStepTokens : Step → Type 0
HasStepTokens (Own u) = ⊤
HasStepTokens (Peer (Updated u)) = ⊤
HasStepTokens (Peer (CommitmentSigned tokens)) = AreTokens tokens

abbrev pub HasTokens : Call → Type 0
HasTokens (Open o) = IsTrue (is_token o.token)
HasTokens (Stepping channel step) = HasStepTokens step
HasTokens (Sign channel) = ⊤
HasTokens (Revoke channel revocation) = ⊤
HasTokens (Keep channel number claims) = ⊤
HasTokens (Release channel batch) = ⊤
HasTokens (Close channel) = ⊤

-- an accepted claim comes back from its plain form as the same
abbrev pub ClaimsComeBack : Type 0
ClaimsComeBack = (c : ClaimParts) → IsWhole c → claim_of (plain_claim c) ≡ Some c

-- so does an opening, whose own base keys derive from its seed
abbrev pub OpeningsComeBack : Type 0
OpeningsComeBack = (o : Opening) → opening_of (plain_opening o) ≡ Some o

abbrev pub EntriesComeBack : Type 0
EntriesComeBack = (e : Entry) → HasWholeClaims e.call → entry_of (plain_entry e) ≡ Ok e

-- an entry comes back: its JSON is read as its plain form, if its tokens have their form, and its claims were accepted
pub record ComesBack (e : Entry) : Type 0 where
  pub read : HasTokens e.call → entry_in (history_entry_data e) ≡ Some (plain_entry e)
  pub whole : HasWholeClaims e.call
