-- Calls, entries and dumps with distinct values in all their parts, and values that just miss the shape.
use Rattle.std.proofs.Common.{◌≡◌, ℕ, ◌^◌, true, false, List, [], ◌∷◌, ◌++◌, Some, None, codes, refl}
use Rattle.std.specs.Prelude.{replicate, is_some}
use Rattle.hex.proofs.OnLiterals.{hex_on_literals}
use Rattle.serde_json.specs.Data.{Data, no_items, item, no_members, member, null, number, string, array, object, unsigned}
use Rattle.serde_json.specs.Read.{read}
use Rattle.serde_json.proofs.OnLiterals.{serde_json_on_literals}
use Rattle.script.specs.Token.{is_key, is_token}
use Rattle.tx.specs.Parts.{Output}
use Rattle.keys.specs.declared.compressed.Key.{Key}
use Rattle.terms.specs.declared.sides.Side.TheVariants.{A, B}
use Rattle.updates.specs.declared.changes.Update.TheVariants.{Fail as Failing}
use Rattle.terms.specs.declared.proposals.ProposedTerms.{ProposedTerms}
use Rattle.updates.specs.declared.changes.OwnUpdate.TheVariants.{Offer, Fulfil, Fail, SetFee}
use Rattle.updates.specs.declared.messages.PeerStep.TheVariants.{Update as Updated, CommitmentSigned}
use Rattle.texts.specs.declared.steps.PlainStep.TheVariants.{Own, Receive}
use Rattle.texts.specs.declared.calls.PlainCall.TheVariants.{Open, Step, Sign, Revoke, Keep, Close}
use Rattle.claim.specs.Opcodes.{◌>>=◌}
use Rattle.texts.specs.Writing.{bytes_data, output_data}
use Rattle.texts.specs.CallWriting.{release_data, close_data, entry_data, dump_data}
use Rattle.texts.specs.Outpoints.{digits_from, outpoint_in}
use Rattle.texts.specs.Keys.{base_keys_of}
use Rattle.texts.specs.Terms.{terms_of}
use Rattle.texts.specs.Messages.{fail_of, fee_of, update_named, update_of}
use Rattle.texts.specs.Steps.{signature_in, revocation_in, revocation_of, received_named, received_of, own_offer_of, own_fulfil_of, own_fail_of, own_fee_of, own_named, receive_of, step_named, step_of}
use Rattle.texts.specs.Calls.{opening_of, open_of, step_call_of, sign_of, revoke_of, keep_of, are_within, release_of, close_of, call_named, call_of, entry_of, dump_of}

abbrev n : ℕ → Data
n k = number (unsigned k)

abbrev text : List ℕ → Data
text s = string s

abbrev one : Data → Data
one a = array (item a no_items)

abbrev two : Data → Data → Data
two a b = array (item a (item b no_items))

abbrev three : Data → Data → Data → Data
three a b c = array (item a (item b (item c no_items)))

abbrev four : Data → Data → Data → Data → Data
four a b c d = array (item a (item b (item c (item d no_items))))

abbrev five : Data → Data → Data → Data → Data → Data
five a b c d e = array (item a (item b (item c (item d (item e no_items)))))

-- 32 bytes of 9, the key 02 11 11 .., and the token of that key over 32 bytes of 22
abbrev hash_text : Data
hash_text = text (codes "0909090909090909090909090909090909090909090909090909090909090909")

abbrev key_text : Data
key_text = text (codes "021111111111111111111111111111111111111111111111111111111111111111")

abbrev token_text : Data
token_text = text (codes "021111111111111111111111111111111111111111111111111111111111111111222222222222222222222222222222222222222222222222222222222222222201")

abbrev key : Key
unfolding is_key
key = record { bytes = 2 ∷ replicate 32 17; form = refl }

abbrev token : List ℕ
token = 2 ∷ (replicate 32 17 ++ (replicate 32 34 ++ 1 ∷ []))

signs : (call_of (two (text (codes "sign")) (n 3)) ≡ Some (Sign 3))
    × (call_of (one (text (codes "sign"))) ≡ None)
    × (call_of (three (text (codes "sign")) (n 3) (n 0)) ≡ None)
    × (call_of (two (text (codes "sign")) (text (codes "3"))) ≡ None)
    × (call_of (two (text (codes "Sign")) (n 3)) ≡ None)
    × (call_of (n 3) ≡ None)
unfolding call_of call_named sign_of
signs = (refl, refl, refl, refl, refl, refl)

-- one's own steps
own_steps : (call_of (array (item (text (codes "step")) (item (n 3) (item (text (codes "offer")) (item (n 4) (item hash_text (item (n 5) no_items))))))) ≡ Some (Step 3 (Own (Offer 4 (replicate 32 9) 5))))
    × (call_of (array (item (text (codes "step")) (item (n 3) (item (text (codes "offer")) (item (n 4) (item hash_text (item (n (2 ^ 32)) no_items))))))) ≡ None)
    × (call_of (five (text (codes "step")) (n 3) (text (codes "fulfil")) (n 4) hash_text) ≡ Some (Step 3 (Own (Fulfil 4 (replicate 32 9)))))
    × (call_of (four (text (codes "step")) (n 3) (text (codes "fail")) (n 4)) ≡ Some (Step 3 (Own (Fail 4))))
    × (call_of (four (text (codes "step")) (n 3) (text (codes "fee")) (n 4)) ≡ Some (Step 3 (Own (SetFee 4))))
    × (call_of (four (text (codes "step")) (n 3) (text (codes "fee")) (n (2 ^ 32))) ≡ None)
    × (call_of (three (text (codes "step")) (n 3) (text (codes "fail"))) ≡ None)
    × (call_of (five (text (codes "step")) (n 3) (text (codes "fail")) (n 4) (n 5)) ≡ None)
    × (call_of (four (text (codes "step")) (n 3) (text (codes "sign")) (n 4)) ≡ None)
unfolding call_of call_named step_call_of step_of step_named own_named own_offer_of own_fulfil_of own_fail_of own_fee_of hex_on_literals
own_steps = (refl, refl, refl, refl, refl, refl, refl, refl, refl)

abbrev received : Data → Data
received message = four (text (codes "step")) (n 3) (text (codes "receive")) message

-- steps that receive a message other than a revocation
received_steps : (call_of (received (two (text (codes "fail")) (n 4))) ≡ Some (Step 3 (Receive (Updated (Failing 4)))))
    × (call_of (received (three (text (codes "signed")) token_text (one token_text))) ≡ Some (Step 3 (Receive (CommitmentSigned (record { commitment = token; htlcs = token ∷ [] })))))
    × (call_of (received (three (text (codes "signed")) key_text (one token_text))) ≡ None)
    × (call_of (received (two (text (codes "signed")) token_text)) ≡ None)
    × (call_of (received (three (text (codes "revoke")) hash_text key_text)) ≡ None)
    × (call_of (five (text (codes "step")) (n 3) (text (codes "receive")) (text (codes "fail")) (n 4)) ≡ None)
unfolding call_of call_named step_call_of step_of step_named receive_of received_of received_named update_of update_named fail_of signature_in is_token hex_on_literals
received_steps = (refl, refl, refl, refl, refl, refl)

revokes : (call_of (three (text (codes "revoke")) (n 3) (three (text (codes "revoke")) hash_text key_text)) ≡ Some (Revoke 3 (record { secret = replicate 32 9; next_point = key })))
    × (call_of (three (text (codes "revoke")) (n 3) (three (text (codes "revoke")) key_text key_text)) ≡ None)
    × (call_of (three (text (codes "revoke")) (n 3) (three (text (codes "signed")) hash_text key_text)) ≡ None)
    × (call_of (four (text (codes "revoke")) (n 3) hash_text key_text) ≡ None)
unfolding call_of call_named revoke_of revocation_of revocation_in is_key hex_on_literals
revokes = (refl, refl, refl, refl)

keeps : (call_of (four (text (codes "keep")) (n 3) (n 4) (array no_items)) ≡ Some (Keep 3 4 []))
    × (call_of (four (text (codes "keep")) (n 3) (n 4) null) ≡ None)
    × (call_of (three (text (codes "keep")) (n 3) (array no_items)) ≡ None)
unfolding call_of call_named keep_of
keeps = (refl, refl, refl)

-- at least 1 claim, and at most 4,000 claims and outputs
releases : (call_of (five (text (codes "release")) (n 3) (array no_items) (array no_items) (array no_items)) ≡ None)
    × (are_within 0 0 ≡ false)
    × (are_within 1 0 ≡ true)
    × (are_within 4000 4000 ≡ true)
    × (are_within 4001 1 ≡ false)
    × (are_within 1 4001 ≡ false)
unfolding call_of call_named release_of
releases = (refl, refl, refl, refl, refl, refl)

closes : (call_of (two (text (codes "close")) (n 3)) ≡ Some (Close 3))
    × (call_of (one (text (codes "close"))) ≡ None)
    × (call_of (three (text (codes "close")) (n 3) (n 0)) ≡ None)
    × (call_of (two (text (codes "close")) (text (codes "3"))) ≡ None)
    × (call_of (two (text (codes "Close")) (n 3)) ≡ None)
unfolding call_of call_named close_of
closes = (refl, refl, refl, refl, refl)

-- as texts: the channel has at most 64 bits
closes_in_text : (read (codes "[\"close\",18446744073709551615]") >>= call_of ≡ Some (Close 18446744073709551615))
    × (read (codes "[\"close\",18446744073709551616]") >>= call_of ≡ None)
    × (read (codes "[\"close\",-1]") >>= call_of ≡ None)
unfolding call_of call_named close_of serde_json_on_literals
closes_in_text = (refl, refl, refl)

abbrev proposed : ProposedTerms
proposed = record {
  capacity_sat = 1;
  opener = A;
  feerate_per_kw = 6;
  a = record { dust_sat = 4; delay_blocks = 2; minimum_msat = 7; start_msat = 999 };
  b = record { dust_sat = 5; delay_blocks = 3; minimum_msat = 8; start_msat = 1 };
}

abbrev terms_text : ℕ → Data
terms_text b =
    object (member (codes "capacity") (n 1) (member (codes "delay") (two (n 2) (n 3)) (member (codes "dust") (two (n 4) (n 5)) (member (codes "feerate") (n 6)
    (member (codes "minimum") (two (n 7) (n 8)) (member (codes "opener") (text (codes "A")) (member (codes "start") (two (n 999) (n b)) no_members)))))))

abbrev other_key_text : Data
other_key_text = text (codes "032222222222222222222222222222222222222222222222222222222222222222")

abbrev other_key : Key
unfolding is_key
other_key = record { bytes = 3 ∷ replicate 32 34; form = refl }

abbrev open_text : ℕ → Data
open_text b =
    array (item (text (codes "open")) (item (terms_text b) (item (text (codes "0909090909090909090909090909090909090909090909090909090909090909:1")) (item (text (codes "B")) (item hash_text
    (item (five key_text key_text other_key_text key_text key_text) (item (two key_text other_key_text) (item token_text no_items))))))))

openings : (call_of (open_text 1) ≡ Some (Open (record {
  terms = proposed;
  funding = record { txid = replicate 32 9; index = 1 };
  side = B;
  seed = replicate 32 9;
  bases = record { funding = key; payment = key; delayed = other_key; htlc = key; revocation = key };
  first_point = key;
  next_point = other_key;
  token = token;
})))
    × (call_of (open_text 2) ≡ None)
unfolding call_of call_named open_of opening_of terms_of base_keys_of outpoint_in digits_from is_key is_token hex_on_literals
openings = (refl, refl)

-- entries, and dumps of all versions
abbrev entry : Data → ℕ → Data
entry call seat = object (member (codes "call") call (member (codes "seat") (n seat) no_members))

abbrev dump : ℕ → Data → Data
dump version history = object (member (codes "history") history (member (codes "version") (n version) no_members))

abbrev own_fee : Data
own_fee = entry (four (text (codes "step")) (n 3) (text (codes "fee")) (n 4)) 5

abbrev their_fee : Data
their_fee = entry (received (two (text (codes "fee")) (n 4))) 5

abbrev signature : Data
signature = entry (two (text (codes "sign")) (n 3)) 6

abbrev closing : Data
closing = entry (two (text (codes "close")) (n 3)) 7

entries : (entry_of signature ≡ Some (record { call = Sign 3; seat = 6 }))
    × (is_some (entry_of (entry (two (text (codes "sign")) (n 3)) 4294967295)) ≡ true)
    × (entry_of (entry (two (text (codes "sign")) (n 3)) 4294967296) ≡ None)
    × (entry_of (object (member (codes "call") (two (text (codes "sign")) (n 3)) no_members)) ≡ None)
    × (entry_of (object (member (codes "call") (two (text (codes "sign")) (n 3)) (member (codes "place") (n 6) no_members))) ≡ None)
unfolding call_of call_named sign_of entry_of
entries = (refl, refl, refl, refl, refl)

dumps : (dump_of (dump 2 (array no_items)) ≡ Some (record { history = [] }))
    × (dump_of (dump 1 (array no_items)) ≡ Some (record { history = [] }))
    × (dump_of (dump 0 (array no_items)) ≡ None)
    × (dump_of (dump 3 (array no_items)) ≡ None)
    × (dump_of (dump 9 (array no_items)) ≡ None)
    × (dump_of (object no_members) ≡ None)
    × (dump_of (dump 1 (two signature signature)) ≡ Some (record { history = record { call = Sign 3; seat = 6 } ∷ record { call = Sign 3; seat = 6 } ∷ [] }))
    × (is_some (dump_of (dump 2 (three signature own_fee their_fee))) ≡ true)
    × (dump_of (dump 1 (two signature own_fee)) ≡ None)
    × (dump_of (dump 1 (two their_fee signature)) ≡ None)
unfolding dump_of entry_of call_of call_named sign_of step_call_of step_of step_named own_named own_fee_of receive_of received_of received_named update_of update_named fee_of
dumps = (refl, refl, refl, refl, refl, refl, refl, refl, refl, refl)

-- version 3 exactly with a close
dumps_with_a_close : (dump_of (dump 3 (one closing)) ≡ Some (record { history = record { call = Close 3; seat = 7 } ∷ [] }))
    × (is_some (dump_of (dump 3 (three signature closing signature))) ≡ true)
    × (is_some (dump_of (dump 3 (three own_fee their_fee closing))) ≡ true)
    × (dump_of (dump 3 (one signature)) ≡ None)
    × (dump_of (dump 3 (two own_fee signature)) ≡ None)
    × (dump_of (dump 2 (one closing)) ≡ None)
    × (dump_of (dump 2 (two signature closing)) ≡ None)
    × (dump_of (dump 1 (one closing)) ≡ None)
    × (dump_of (dump 1 (two closing signature)) ≡ None)
    × (dump_of (dump 4 (one closing)) ≡ None)
    × (dump_of (dump 4 (one signature)) ≡ None)
unfolding dump_of entry_of call_of call_named sign_of close_of step_call_of step_of step_named own_named own_fee_of receive_of received_of received_named update_of update_named fee_of
dumps_with_a_close = (refl, refl, refl, refl, refl, refl, refl, refl, refl, refl, refl)

-- what is written: version 3 with a close, and else version 2
written_dumps : (close_data 3 ≡ two (text (codes "close")) (n 3))
    × (entry_data (close_data 3) 7 ≡ closing)
    × (dump_data true (closing ∷ signature ∷ []) ≡ dump 3 (two closing signature))
    × (dump_data false (signature ∷ []) ≡ dump 2 (one signature))
unfolding close_data entry_data dump_data
written_dumps = (refl, refl, refl, refl)

-- the key of 02 and 32 times one byte
abbrev key_at : ℕ → Key
unfolding is_key
key_at k = record { bytes = 2 ∷ replicate 32 k; form = refl }

-- five base keys that differ: funding, payment, delayed, htlc, revocation
bases : base_keys_of (five key_text other_key_text (text (codes "023333333333333333333333333333333333333333333333333333333333333333"))
    (text (codes "024444444444444444444444444444444444444444444444444444444444444444")) (text (codes "025555555555555555555555555555555555555555555555555555555555555555")))
    ≡ Some (record { funding = key; payment = other_key; delayed = key_at 0x33; htlc = key_at 0x44; revocation = key_at 0x55 })
unfolding base_keys_of is_key hex_on_literals
bases = refl

-- the channel of a release is followed by its claims, its outputs and its preimages
release_order : (o : Output) (p : List ℕ) → release_data 3 [] (o ∷ []) (p ∷ []) ≡ five (text (codes "release")) (n 3) (array no_items) (one (output_data o)) (one (bytes_data p))
unfolding release_data
release_order o p = refl
