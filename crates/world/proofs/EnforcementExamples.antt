-- A claim, an input that fits it, and a chain, for which the premises of the theorem hold.
use Rattle.std.proofs.Common.{◌≡◌, ℕ, true, false, List, [], ◌∷◌, replicate, refl, lit≤, lit<, Some, None, Ok, inl, inr}
use Rattle.std.specs.Prelude.{IsTrue, is_ok}
use Rattle.std.proofs.lemmas.List.Elements.{All-nil, All-cons}
use Rattle.std.proofs.lemmas.Slice.Eq.{bytes_eq-Decides}
use Rattle.sha2.specs.Sha256.{sha256, digest_bytes, hash_after, compress, rounds, schedule, first_words}
use Rattle.digest.specs.Hash.{sha256d}
use Rattle.script.specs.declared.opcode.Op.{Op}
use Rattle.script.specs.declared.opcode.Op.TheVariants.{Push, CheckSig}
use Rattle.script.specs.Spelling.{IsOp, spelling}
use Rattle.script.specs.Token.{token_of, is_key}
use Rattle.tx.specs.declared.input.TxIn.{TxIn}
use Rattle.tx.specs.Fields.{Transaction}
use Rattle.sighash.specs.Signing.{signed_list, all_outpoints, all_sequences}
use Rattle.facts.specs.declared.symbols.KeySourceOver.TheVariants.{Const as FixedKey}
use Rattle.facts.specs.declared.symbols.FactOver.TheVariants.{Form, Token}
use Rattle.paths.specs.declared.state.Path.{Path}
use Rattle.paths.specs.Rules.{rule_of, check_multi_sig}
use Rattle.paths.specs.Listing.{listing}
use Rattle.claim.specs.declared.parts.Slot.TheVariants.{Sig}
use Rattle.claim.specs.declared.parts.Place.{Place}
use Rattle.claim.specs.declared.parts.Shell.TheVariants.{Open}
use Rattle.claim.specs.Judgement.{judgement_of}
use Rattle.claim.specs.Fitting.{FillsSlots, Fits}
use Rattle.claim.specs.Claims.{ClaimParts, TakesPath, IsWhole}
use Rattle.filling.specs.Filled.{AllFit}
use Rattle.sighash.specs.Programs.{script_hash_program, spend_of}
use Rattle.chain.specs.Blocks.{Contents, Coin, grant_id, grant_outpoint, coin_at}
use Rattle.book.specs.declared.calls.Batch.{Batch}
use Rattle.book.specs.declared.calls.Call.TheVariants.{Release}
use Rattle.book.specs.declared.calls.Entry.{Entry}
use Rattle.book.specs.Calling.{filling_by}
use Rattle.safety.specs.Enforcement.{IsDue, IsTime}
use Rattle.world.specs.Releasing.{IsFillingIn, AreFillings}

-- a push of a key, and CHECKSIG, with its one path; the hash of its bytes was computed elsewhere
abbrev key : List ℕ
key = 2 ∷ replicate 32 0x11

abbrev ops : List Op
ops = Push key ∷ CheckSig ∷ []

abbrev hash : List ℕ
hash = 0x1d ∷ 0x3b ∷ 0x71 ∷ 0xa1 ∷ 0x53 ∷ 0xa3 ∷ 0x48 ∷ 0xa9 ∷ 0xaf ∷ 0x98 ∷ 0x09 ∷ 0xaa ∷ 0xf1 ∷ 0xc0 ∷ 0x25 ∷ 0x2b ∷ 0x2a ∷ 0xed ∷ 0x2a ∷ 0xef ∷ 0x9b ∷ 0x59 ∷ 0x6a ∷ 0xea ∷ 0x2d ∷ 0x7d ∷ 0xe2 ∷ 0x0c ∷ 0x0e ∷ 0xce ∷ 0xab ∷ 0x3b ∷ []

abbrev path : Path
path = record { arity = 1; facts = record { fact = Form 0; holds = true } ∷ record { fact = Token 0 (FixedKey key); holds = true } ∷ []; ops = 1; height = 2; lock = None; age = None }

key_form : IsTrue (is_key key)
unfolding is_key
key_form = refl

-- the claim of the key on the chain's first grant, of 1,000 satoshis
abbrev place : Place
place = record { outpoint = grant_outpoint 0; value = 1000; program = 0x00 ∷ 0x20 ∷ hash }

abbrev claim : ClaimParts
claim = record { ways = record { ops = ops; paths = path ∷ [] }; index = 0; slots = Sig (record { bytes = key; form = key_form }) ∷ []; place = place; shell = Open }

listed : listing ops ≡ Ok (path ∷ [])
unfolding listing rule_of check_multi_sig is_key
listed = refl

taken : TakesPath claim path
unfolding judgement_of script_hash_program sha256 digest_bytes hash_after compress rounds schedule first_words
taken = refl

accepted : IsTrue (is_ok (judgement_of claim.ways claim.index claim.slots claim.place claim.shell))
unfolding judgement_of script_hash_program sha256 digest_bytes hash_after compress rounds schedule first_words
accepted = refl

whole : IsWhole claim
whole = record { ops = All-cons IsOp (Push key) (CheckSig ∷ []) (lit≤ tt) (All-cons IsOp CheckSig [] tt (All-nil IsOp)); short = lit≤ tt; listed = listed; accepted = accepted; bare = refl }

-- the transaction that claims it, without a witness and with one
abbrev input_with : List (List ℕ) → TxIn
input_with witness = record { outpoint = grant_outpoint 0; sequence = 0; witness = witness }

abbrev spending : TxIn → Transaction
spending input = record { version = 2; inputs = input ∷ []; outputs = record { value = 900; script = [] } ∷ []; lock_time = 0 }

abbrev token : List ℕ
token = token_of key (sha256d (signed_list (spending (input_with [])) (input_with []) (spelling ops) 1000))

abbrev input : TxIn
input = input_with (token ∷ spelling ops ∷ [])

filled : FillsSlots (spend_of (spending input) input (spelling ops) 1000) claim.slots (token ∷ [])
unfolding signed_list all_outpoints all_sequences
filled = (refl, tt)

fits : Fits (spelling ops) path claim.slots place Open (spending input) input
fits = record { among = (0, lit< tt, refl); outpoint = refl; sequence = refl; stands = (refl, lit≤ tt, lit< tt); items = token ∷ []; witness = refl; filled = filled }

-- one block, which grants the output, still unspent
abbrev blocks : List Contents
blocks = record { transactions = []; granted = record { value = 1000; script = 0x00 ∷ 0x20 ∷ hash } ∷ [] } ∷ []

abbrev coin : Coin
coin = record { output = record { value = 1000; script = 0x00 ∷ 0x20 ∷ hash }; height = 0; spent = false }

found : coin_at blocks (grant_outpoint 0) ≡ Some coin
found = rw ((bytes_eq-Decides (grant_id 0) (grant_id 0)).1 refl) refl

due : IsDue blocks 1 claim (spending input) input
due = record { fits = record { path = path; taken = taken; fits = fits }; coin = coin; reached = record { found = found; unspent = refl; final = refl; old_enough = refl }; value = refl; program = refl }

-- the next block has height 1, above the lock time 0, and the claim has no age
time : IsTime 1 claim (spending input) coin
time = record { above = lit< tt; age = lit≤ tt }

-- ---- what was released

-- the batch of the claim alone; its filling is the transaction above, whose input fits the claim
abbrev batch : Batch
batch = record { claims = claim ∷ []; outputs = record { value = 900; script = [] } ∷ []; preimages = []; some = lit≤ tt; inputs = lit≤ tt; given = lit≤ tt }

its_filling : (filling_by batch).tx ≡ spending input
its_filling = refl

its_inputs_fit : AllFit (spending input) batch.claims (spending input).inputs
its_inputs_fit = (record { path = path; taken = taken; fits = fits }, tt)

-- in a history that releases it the transaction is a filling, whichever side the history is of
abbrev history : List Entry
history = record { seat = 0; call = Release 0 batch } ∷ []

is_filling : IsFillingIn history (spending input)
is_filling = record { seat = 0; channel = 0; batch = batch; noted = (0, lit< tt, refl); filled = refl }

are_fillings : AreFillings history [] (spending input ∷ []) × AreFillings [] history (spending input ∷ [])
are_fillings = ((inl is_filling, tt), (inr is_filling, tt))
