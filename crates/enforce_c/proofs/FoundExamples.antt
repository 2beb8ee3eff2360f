-- What the rows of a commitment say, what is told of a claim, and what the call leaves, on both sides of each bound.
use Rattle.std.proofs.Common.{◌≡◌, ℕ, List, [], ◌∷◌, ◌++◌, Bool, true, false, map, Ok, Err, refl}
use Rattle.std.specs.Prelude.{Some, None, replicate, length}
use Rattle.script.specs.Token.{is_key, is_token}
use Rattle.tx.specs.declared.errors.DecodeError.TheVariants.{BadMarker, Trailing}
use Rattle.tx.specs.Fields.{Transaction}
use Rattle.tx.specs.Reading.{stripped_reading}
use Rattle.tx.specs.Spelling.{stripped_spelling}
use Rattle.claim.specs.declared.parts.WitnessItem.{WitnessItem}
use Rattle.claim.specs.declared.parts.Slot.TheVariants.{Exact}
use Rattle.claim.specs.declared.parts.Shell.TheVariants.{Open}
use Rattle.claim.specs.Claims.{ClaimParts}
use Rattle.anchor_forms.specs.declared.channel_types.ChannelType.TheVariants.{StaticRemoteKey, Anchors}
use Rattle.commit.specs.declared.fees.Direction.TheVariants.{Offered, Received}
use Rattle.commit.specs.Keys.{KeyBytes}
use Rattle.forms.specs.declared.parameters.Expiry.{Expiry}
use Rattle.revoked.specs.Parts.{RevokedParts}
use Rattle.revoked.specs.declared.outputs.RevokedHtlc.{RevokedHtlc}
use Rattle.revoked.specs.declared.outputs.RevokedOutput.TheVariants.{ToLocal, ToRemote, ToHtlc}
use Rattle.unilateral.specs.declared.closes.Whose.{Whose}
use Rattle.unilateral.specs.declared.closes.Whose.TheVariants.{Ours, Theirs}
use Rattle.unilateral.specs.declared.closes.Close.{Close}
use Rattle.unilateral.specs.declared.names.FundingKeys.{FundingKeys}
use Rattle.unilateral.specs.declared.names.OutputName.TheVariants as names
use Rattle.enforce_c.specs.declared.claim_rows.ClaimRow.{ClaimRow}
use Rattle.enforce_c.specs.declared.claim_rows.SlotRow.{SlotRow}
use Rattle.enforce_c.specs.declared.commitment_rows.Commitment.{Commitment}
use Rattle.enforce_c.specs.declared.commitment_rows.HtlcRow.{HtlcRow}
use Rattle.enforce_c.specs.declared.commitment_rows.FoundRow.{FoundRow}
use Rattle.enforce_c.specs.declared.commitment_rows.OtherRow.{OtherRow}
use Rattle.enforce_c.specs.declared.commitment_rows.Question.TheVariants.{OfClose}
use Rattle.enforce_c.specs.declared.statuses.Refusal.TheVariants.{NoSuchChannelType, NotACommitmentKey, NoSuchDirection, ExpiryTooLarge, NoSuchClose}
use Rattle.enforce_c.specs.Commitments.{channel_type_of, keys_fault, funding_fault, IsFundingOf, htlcs_fault, whose_of, commitment_fault, IsHtlcOf, AreHtlcsOf}
use Rattle.enforce_c.specs.ClaimLists.{with_slot, with_fixed, no_lists, AreReadAs}
use Rattle.enforce_c.specs.Found.{or_stripped, FoundLists, Seen, seen_fault, asked_of_revoked, row_of_output, name_kind, left_by_found}

-- ---- the rows of a commitment

types : (channel_type_of 0 ≡ Err NoSuchChannelType) × (channel_type_of 1 ≡ Ok StaticRemoteKey) × (channel_type_of 2 ≡ Ok Anchors) × (channel_type_of 3 ≡ Err NoSuchChannelType)
types = (refl, refl, refl, refl)

-- a key, and bytes that are none
abbrev key : List ℕ
key = 2 ∷ replicate 32 7

abbrev none : List ℕ
none = 4 ∷ replicate 32 7

abbrev with_funding : Bool → List ℕ → List ℕ → List ℕ → List ℕ → List ℕ → List ℕ → List ℕ → Commitment
with_funding told a b c d e f g = record {
  channel_type = 3;
  delay_blocks = 144;
  revocation = a;
  delayed = b;
  local_htlc = c;
  remote_htlc = d;
  remote = e;
  has_funding_keys = told;
  own_funding = f;
  peers_funding = g;
}

-- the keys of the funding output are not told
abbrev with_keys : List ℕ → List ℕ → List ℕ → List ℕ → List ℕ → Commitment
with_keys a b c d e = with_funding false a b c d e none none

keys : (keys_fault (with_keys key key key key key) ≡ None) × (keys_fault (with_keys none none none none none) ≡ Some (NotACommitmentKey 0)) × (keys_fault (with_keys key none none none none) ≡ Some (NotACommitmentKey 1))
    × (keys_fault (with_keys key key none none none) ≡ Some (NotACommitmentKey 2)) × (keys_fault (with_keys key key key none none) ≡ Some (NotACommitmentKey 3)) × (keys_fault (with_keys key key key key none) ≡ Some (NotACommitmentKey 4))
unfolding is_key
keys = (refl, refl, refl, refl, refl, refl)

-- those of the funding output are read where they are told
funding : (funding_fault (with_keys key key key key key) ≡ None) × (funding_fault (with_funding true key key key key key none none) ≡ Some (NotACommitmentKey 5))
    × (funding_fault (with_funding true key key key key key key none) ≡ Some (NotACommitmentKey 6)) × (funding_fault (with_funding true none none none none none key key) ≡ None)
unfolding is_key
funding = (refl, refl, refl, refl)

funding_keys : (f : FundingKeys) → f.ours.bytes ≡ key → f.peers.bytes ≡ none → IsFundingOf (with_funding true none none none none none key none) (Some f) × IsFundingOf (with_keys none none none none none) None
funding_keys f ours peers = ((refl, ours, peers), refl)

-- 1 is one's own commitment, 2 the peer's
closes : (whose_of 0 ≡ Err NoSuchClose) × (whose_of 1 ≡ Ok Ours) × (whose_of 2 ≡ Ok Theirs) × (whose_of 3 ≡ Err NoSuchClose)
closes = (refl, refl, refl, refl)

abbrev htlc : ℕ → ℕ → HtlcRow
htlc direction expiry = record { direction = direction; expiry_height = expiry; hash = replicate 32 9 }

-- the index of the first that is wrong, and of two faults of one its direction
htlcs : (htlcs_fault 0 (htlc 1 0 ∷ htlc 2 499999999 ∷ []) ≡ None) × (htlcs_fault 0 (htlc 1 0 ∷ htlc 2 500000000 ∷ htlc 0 1 ∷ []) ≡ Some (ExpiryTooLarge 1)) × (htlcs_fault 0 (htlc 3 500000000 ∷ []) ≡ Some (NoSuchDirection 0))
    × (htlcs_fault 7 (htlc 1 1 ∷ htlc 0 1 ∷ []) ≡ Some (NoSuchDirection 8))
htlcs = (refl, refl, refl, refl)

-- the type of the channel comes before keys, and they before HTLCs
in_order : (commitment_fault (with_keys none key key key key) (htlc 0 1 ∷ []) ≡ Some NoSuchChannelType) × (commitment_fault (record (with_keys key key key key none) { channel_type = 2 }) (htlc 0 1 ∷ []) ≡ Some (NotACommitmentKey 4))
    × (commitment_fault (record (with_keys key key key key key) { channel_type = 1 }) (htlc 0 1 ∷ []) ≡ Some (NoSuchDirection 0)) × (commitment_fault (record (with_keys key key key key key) { channel_type = 1 }) [] ≡ None)
unfolding is_key
in_order = (refl, refl, refl, refl)

-- those of the funding output come between, and whose commitment it is comes first
between : (commitment_fault (record (with_funding true key key key key none none none) { channel_type = 2 }) (htlc 0 1 ∷ []) ≡ Some (NotACommitmentKey 4))
    × (commitment_fault (record (with_funding true key key key key key key none) { channel_type = 2 }) (htlc 0 1 ∷ []) ≡ Some (NotACommitmentKey 6))
unfolding is_key
between = (refl, refl)

abbrev asked : ℕ → Commitment → Seen
asked whose c = record { question = OfClose; whose = whose; commitment = c; htlcs = htlc 0 1 ∷ []; feerate_per_kw = 253; preimages = []; tx = []; confirmed_height = 501 }

first : (c : Commitment) → (seen_fault (asked 0 (with_keys none key key key key)) ≡ Some NoSuchClose) × (seen_fault (asked 1 (with_keys none key key key key)) ≡ Some NoSuchChannelType)
    × (seen_fault (asked_of_revoked c [] [] 501) ≡ commitment_fault c [])
first c = (refl, refl, refl)

-- there are as many HTLCs as rows, each of its own direction
as_many : (row : HtlcRow) (h : RevokedHtlc) → (AreHtlcsOf (row ∷ []) [] → ⊥) × (AreHtlcsOf [] (h ∷ []) → ⊥) × AreHtlcsOf [] []
as_many row h = (λ e. e, λ e. e, tt)

directions : (e : Expiry) → e.height ≡ 500 → IsHtlcOf (htlc 1 500) (record { direction = Offered; hash = replicate 32 9; expiry = e }) × IsHtlcOf (htlc 2 500) (record { direction = Received; hash = replicate 32 9; expiry = e })
directions e same = (record { direction = refl; hash = refl; expiry = same }, record { direction = refl; hash = refl; expiry = same })

-- ---- the transaction

-- bytes without a marker are read without witnesses, and no other fault is
by_marker : (bytes : List ℕ) (t : Transaction) → (or_stripped bytes (Err BadMarker) ≡ stripped_reading bytes) × (or_stripped bytes (Err Trailing) ≡ Err Trailing) × (or_stripped bytes (Ok t) ≡ Ok t)
by_marker bytes t = (refl, refl, refl)

-- ---- what is told of a claim

abbrev in_block : KeyBytes → Expiry → RevokedParts
in_block keys e = record { channel_type = Anchors; keys = keys; delay_blocks = 144; htlcs = record { direction = Offered; hash = replicate 32 9; expiry = e } ∷ [] }

abbrev close_of : Whose → KeyBytes → Expiry → Close
close_of whose ks e = record { commitment = in_block ks e; whose = whose; feerate_per_kw = 253; preimages = [] }

-- the peer has its to_local after its delay, to_remote never, and with anchors an HTLC that it received after a block
told : (ks : KeyBytes) (e : Expiry)
    → (row_of_output (close_of Theirs ks e) 501 502 (Some ToLocal) ≡ record { kind = 1; has_deadline = true; from_height = 502; deadline_height = 645 })
    × (row_of_output (close_of Theirs ks e) 501 502 (Some ToRemote) ≡ record { kind = 2; has_deadline = false; from_height = 502; deadline_height = 0 })
    × (row_of_output (close_of Theirs ks e) 501 502 (Some (ToHtlc (record { direction = Received; hash = replicate 32 9; expiry = e }))) ≡ record { kind = 4; has_deadline = true; from_height = 502; deadline_height = 502 })
    × (row_of_output (close_of Theirs ks e) 501 502 None ≡ record { kind = 0; has_deadline = false; from_height = 502; deadline_height = 0 })
told ks e = (refl, refl, refl, refl)

-- of one's own commitment it has to_remote at once, to_local never, and with anchors an HTLC that was offered to it after a block
told_of_own : (ks : KeyBytes) (e : Expiry)
    → (row_of_output (close_of Ours ks e) 501 645 (Some ToLocal) ≡ record { kind = 1; has_deadline = false; from_height = 645; deadline_height = 0 })
    × (row_of_output (close_of Ours ks e) 501 501 (Some ToRemote) ≡ record { kind = 2; has_deadline = true; from_height = 501; deadline_height = 501 })
    × (row_of_output (close_of Ours ks e) 501 502 (Some (ToHtlc (record { direction = Offered; hash = replicate 32 9; expiry = e }))) ≡ record { kind = 3; has_deadline = true; from_height = 502; deadline_height = 502 })
told_of_own ks e = (refl, refl, refl)

-- the kinds of outputs without a claim
kinds : map name_kind (names.Unknown ∷ names.ToLocal ∷ names.ToRemote ∷ names.Offered ∷ names.Received ∷ names.OurAnchor ∷ names.PeersAnchor ∷ []) ≡ 0 ∷ 1 ∷ 2 ∷ 3 ∷ 4 ∷ 5 ∷ 6 ∷ []
kinds = refl

-- ---- a signature that was given

abbrev token : List ℕ
token = key ++ (replicate 32 9 ++ 1 ∷ [])

-- 66 bytes with the form of a token are one, and others are none
are_tokens : (is_token token ≡ true) × (is_token (key ++ (replicate 32 9 ++ 2 ∷ [])) ≡ false) × (is_token (key ++ replicate 32 9) ≡ false) × (is_token [] ≡ false)
unfolding is_token
are_tokens = (refl, refl, refl, refl)

-- its row has the key, the digest, and the bytes of the transaction
given : (t : Transaction) (w : WitnessItem) → with_fixed (Some token) t (Exact w) no_lists ≡ record {
  claims = [];
  slots = record { kind = 4; key = key; hash = replicate 32 9; bytes_at = 0; bytes_length = length (stripped_spelling t) } ∷ [];
  bytes = stripped_spelling t;
}
given t w = refl

-- in any other claim the same bytes are an item
not_given : (w : WitnessItem) → with_slot Open (Exact w) no_lists ≡ record {
  claims = [];
  slots = record { kind = 3; key = replicate 33 0; hash = replicate 32 0; bytes_at = 0; bytes_length = length w.item } ∷ [];
  bytes = w.item;
}
not_given w = refl

-- there is a row for each claim
one_each : (row : ClaimRow) (c : ClaimParts) → (AreReadAs [] [] (row ∷ []) [] → ⊥) × (AreReadAs [] [] [] (c ∷ []) → ⊥) × AreReadAs [] [] [] []
one_each row c = (λ e. e, λ e. e, tt)

-- ---- what the call leaves

abbrev claim_at : ℕ → ClaimRow
claim_at index = record { txid = []; index = index; value = 0; script_at = 0; script_length = 0; program_at = 0; program_length = 0; path = 0; first_slot = 0; slots = 0 }

abbrev found_of : ℕ → FoundRow
found_of kind = record { kind = kind; has_deadline = false; from_height = 0; deadline_height = 0 }

abbrev slot_of : ℕ → SlotRow
slot_of kind = record { kind = kind; key = []; hash = []; bytes_at = 0; bytes_length = 0 }

abbrev other_at : ℕ → OtherRow
other_at index = record { index = index; kind = 2 }

abbrev three : List OtherRow
three = other_at 1 ∷ other_at 2 ∷ other_at 3 ∷ []

abbrev lists : List ClaimRow → List FoundRow → List SlotRow → List OtherRow → List ℕ → FoundLists
lists claims found slots others bytes = record { claims = claims; found = found; slots = slots; others = others; bytes = bytes }

abbrev made : FoundLists
made = lists (claim_at 1 ∷ []) (found_of 2 ∷ []) (slot_of 1 ∷ slot_of 3 ∷ []) (other_at 5 ∷ other_at 6 ∷ other_at 7 ∷ []) (8 ∷ 9 ∷ 10 ∷ 11 ∷ [])

-- what has room is written at the beginning, and the rest stays
fitting : left_by_found made (lists (claim_at 8 ∷ claim_at 9 ∷ []) (found_of 8 ∷ []) (slot_of 7 ∷ slot_of 8 ∷ slot_of 9 ∷ []) (other_at 0 ∷ other_at 0 ∷ other_at 0 ∷ other_at 99 ∷ []) (0 ∷ 0 ∷ 0 ∷ 0 ∷ []))
    ≡ record {
      status = 0;
      answer = record { claims = 1; slots = 2; others = 3; bytes = 4; number = 0 };
      lists = lists (claim_at 1 ∷ claim_at 9 ∷ []) (found_of 2 ∷ []) (slot_of 1 ∷ slot_of 3 ∷ slot_of 9 ∷ []) (other_at 5 ∷ other_at 6 ∷ other_at 7 ∷ other_at 99 ∷ []) (8 ∷ 9 ∷ 10 ∷ 11 ∷ []);
    }
fitting = refl

-- where one is shorter by one, all stay
abbrev stays : FoundLists → Type 0
stays short = left_by_found made short ≡ record { status = 2; answer = record { claims = 1; slots = 2; others = 3; bytes = 4; number = 0 }; lists = short }

short : stays (lists [] (found_of 8 ∷ []) (slot_of 7 ∷ slot_of 8 ∷ []) three (1 ∷ 2 ∷ 3 ∷ 4 ∷ [])) × stays (lists (claim_at 8 ∷ []) [] (slot_of 7 ∷ slot_of 8 ∷ []) three (1 ∷ 2 ∷ 3 ∷ 4 ∷ []))
    × stays (lists (claim_at 8 ∷ []) (found_of 8 ∷ []) (slot_of 7 ∷ []) three (1 ∷ 2 ∷ 3 ∷ 4 ∷ [])) × stays (lists (claim_at 8 ∷ []) (found_of 8 ∷ []) (slot_of 7 ∷ slot_of 8 ∷ []) (other_at 1 ∷ other_at 2 ∷ []) (1 ∷ 2 ∷ 3 ∷ 4 ∷ []))
    × stays (lists (claim_at 8 ∷ []) (found_of 8 ∷ []) (slot_of 7 ∷ slot_of 8 ∷ []) three (1 ∷ 2 ∷ 3 ∷ []))
short = (refl, refl, refl, refl, refl)
