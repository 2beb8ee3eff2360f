-- The dump of a history: its calls in plain form, and their JSON text.
use Rattle.std.specs.Prelude.{ℕ, Bool, true, false, List, map}
use Rattle.std.specs.List.{list_any}
use Rattle.serde_json.specs.Data.{Data}
use Rattle.serde_json.specs.Written.{compact_text}
use Rattle.terms.specs.declared.agreement.Party.{Party}
use Rattle.terms.specs.declared.agreement.Terms.{Terms}
use Rattle.terms.specs.Agreement.{party}
use Rattle.terms.specs.Sides.{other}
use Rattle.terms.specs.declared.proposals.ProposedParty.{ProposedParty}
use Rattle.terms.specs.declared.proposals.ProposedTerms.{ProposedTerms}
use Rattle.updates.specs.declared.messages.PeerStep.TheVariants.{Update as Updated, CommitmentSigned}
use Rattle.texts.specs.declared.steps.PlainStep.{PlainStep}
use Rattle.texts.specs.declared.steps.PlainStep.TheVariants.{Own as OwnStep, Receive}
use Rattle.texts.specs.declared.calls.PlainOpening.{PlainOpening}
use Rattle.texts.specs.declared.calls.PlainCall.{PlainCall}
use Rattle.texts.specs.declared.calls.PlainCall.TheVariants as plain
use Rattle.texts.specs.declared.calls.PlainEntry.{PlainEntry}
use Rattle.texts.specs.ClaimWriting.{plain_claim}
use Rattle.texts.specs.Writing.{update_data}
use Rattle.texts.specs.CallWriting.{signature_data, open_data, own_data, receive_data, sign_data, revoke_data, keep_data, release_data, close_data, entry_data, dump_data}
use Rattle.book.specs.declared.calls.Opening.{Opening}
use Rattle.book.specs.declared.calls.Step.{Step}
use Rattle.book.specs.declared.calls.Step.TheVariants.{Own, Peer}
use Rattle.book.specs.declared.calls.Call.{Call}
use Rattle.book.specs.declared.calls.Call.TheVariants.{Open, Step as Stepping, Sign, Revoke, Keep, Release, Close}
use Rattle.book.specs.declared.calls.Entry.{Entry}

abbrev pub plain_party : Party → ProposedParty
plain_party p = record { dust_sat = p.dust_sat; delay_blocks = p.delay_blocks; minimum_msat = p.minimum_msat; start_msat = p.start_msat }

abbrev pub plain_terms : Terms → ProposedTerms
plain_terms t = record { capacity_sat = t.capacity_sat; opener = t.opener; feerate_per_kw = t.feerate_per_kw; a = plain_party t.a; b = plain_party t.b }

-- an opening without its own base keys, which derive from its seed
abbrev pub plain_opening : Opening → PlainOpening
plain_opening o = record {
  terms = plain_terms o.terms;
  funding = o.terms.funding;
  side = o.side;
  seed = o.seed;
  bases = (party (other o.side) o.terms).bases;
  first_point = o.first_point;
  next_point = o.next_point;
  token = o.token;
}

abbrev pub plain_step : Step → PlainStep
plain_step (Own u) = OwnStep u
plain_step (Peer step) = Receive step

-- a call, whose claims have their scripts in place of their paths
abbrev pub plain_call : Call → PlainCall
plain_call (Open o) = plain.Open (plain_opening o)
plain_call (Stepping channel step) = plain.Step channel (plain_step step)
plain_call (Sign channel) = plain.Sign channel
plain_call (Revoke channel revocation) = plain.Revoke channel revocation
plain_call (Keep channel number claims) = plain.Keep channel number (map plain_claim claims)
plain_call (Release channel batch) = plain.Release channel (map plain_claim batch.claims) batch.outputs batch.preimages
plain_call (Close channel) = plain.Close channel

abbrev pub plain_entry : Entry → PlainEntry
plain_entry e = record { call = plain_call e.call; seat = e.seat }

-- ---- the JSON that is written

abbrev pub step_data : ℕ → Step → Data
step_data channel (Own u) = own_data channel u
step_data channel (Peer (Updated u)) = receive_data channel (update_data u)
step_data channel (Peer (CommitmentSigned tokens)) = receive_data channel (signature_data tokens)

-- a call
abbrev pub call_data : Call → Data
call_data (Open o) = open_data (plain_opening o)
call_data (Stepping channel step) = step_data channel step
call_data (Sign channel) = sign_data channel
call_data (Revoke channel revocation) = revoke_data channel revocation
call_data (Keep channel number claims) = keep_data channel number claims
call_data (Release channel batch) = release_data channel batch.claims batch.outputs batch.preimages
call_data (Close channel) = close_data channel

abbrev pub history_entry_data : Entry → Data
history_entry_data e = entry_data (call_data e.call) e.seat

abbrev pub is_close : Call → Bool
is_close (Close channel) = true
is_close call = false

-- whether a call of the history closes a channel
abbrev pub any_close : List Entry → Bool
any_close history = list_any (λ e. is_close e.call) history

-- a history, of version 3 where a call closes a channel, else of version 2
abbrev pub history_data : List Entry → Data
history_data history = dump_data (any_close history) (map history_entry_data history)

-- its text, without whitespace, the members of each object in the order of their names
unfoldable pub dump_of : List Entry → List ℕ
dump_of history = compact_text (history_data history)
