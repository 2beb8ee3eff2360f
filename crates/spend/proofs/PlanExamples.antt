-- Requests, what is left of a total, and the refusals.
use Rattle.std.proofs.Common.{◌≡◌, ℕ, List, [], ◌∷◌, true, false, map, replicate, Some, None, Ok, Err, codes, refl}
use Rattle.std.specs.Str.{chars, is_utf8}
use Rattle.hex.proofs.OnLiterals.{hex_on_literals}
use Rattle.serde_json.proofs.OnLiterals.{serde_json_on_literals}
use Rattle.filling.specs.declared.errors.SpendError.TheVariants as spends
use Rattle.claim.specs.declared.parts.Shell.TheVariants.{Open as OpenShell}
use Rattle.texts.specs.declared.claims.PlainClaim.{PlainClaim}
use Rattle.claim.specs.Opcodes.{ops_in, ops_of}
use Rattle.texts.specs.Claims.{shell_of}
use Rattle.texts.specs.Outpoints.{outpoint_in, digits_from}
use Rattle.plain_claims.specs.Claims.{checked_of, claim_of, claims_of}
use Rattle.spend.specs.declared.errors.PlanError.TheVariants.{NoMemory, NotJson, BadShape, BadClaim, FixedTransaction, SameOutpoint, MeasuredSignature, NoPreimage, ValueTooLarge, NothingLeft, Dust, BadDestination, TooHighFeerate, TooLowFeerate}
use Rattle.spend.specs.Refusals.{plan_error_number, plan_error_text, plan_error}
use Rattle.spend.specs.declared.asking.Asked.{Asked}
use Rattle.spend.specs.Outputs.{output_of}
use Rattle.spend.specs.Requests.{request_of}
use Rattle.spend.specs.Asking.{is_within, request_in, asked_in}
use Rattle.spend.specs.Planning.{left_refusal, given_refusal, first_of}

numbers : map plan_error_number (NoMemory ∷ NotJson ∷ BadShape ∷ BadClaim ∷ FixedTransaction ∷ SameOutpoint ∷ MeasuredSignature ∷ NoPreimage ∷ ValueTooLarge ∷ NothingLeft ∷ Dust ∷ BadDestination ∷ TooHighFeerate ∷ TooLowFeerate ∷ []) ≡ 0 ∷ 1 ∷ 2 ∷ 3 ∷ 4 ∷ 5 ∷ 6 ∷ 7 ∷ 8 ∷ 9 ∷ 10 ∷ 13 ∷ 14 ∷ 15 ∷ []
numbers = refl

texts : map plan_error_text (NoMemory ∷ NotJson ∷ BadShape ∷ BadClaim ∷ FixedTransaction ∷ SameOutpoint ∷ MeasuredSignature ∷ NoPreimage ∷ ValueTooLarge ∷ NothingLeft ∷ Dust ∷ BadDestination ∷ TooHighFeerate ∷ TooLowFeerate ∷ [])
    ≡ codes "NoMemory" ∷ codes "NotJson" ∷ codes "BadShape" ∷ codes "BadClaim" ∷ codes "FixedTransaction" ∷ codes "SameOutpoint" ∷ codes "MeasuredSignature" ∷ codes "NoPreimage" ∷ codes "ValueTooLarge" ∷ codes "NothingLeft" ∷ codes "Dust" ∷ codes "BadDestination" ∷ codes "TooHighFeerate" ∷ codes "TooLowFeerate" ∷ []
texts = refl

passed_on : map plan_error (spends.NoMemory ∷ spends.FixedTransaction ∷ spends.SameOutpoint ∷ spends.OutputsExceed ∷ spends.MeasuredSignature ∷ spends.NoPreimage ∷ [])
    ≡ NoMemory ∷ FixedTransaction ∷ SameOutpoint ∷ NothingLeft ∷ MeasuredSignature ∷ NoPreimage ∷ []
passed_on = refl

-- 21,000,000 bitcoins, or a satoshi more; a satoshi is left, or none; as much as the threshold, or a satoshi less; and the first of two that hold
left : (left_refusal 2100000000000000 4 294 ≡ None)
    × (left_refusal 2100000000000001 4 294 ≡ Some ValueTooLarge)
    × (left_refusal 6 5 0 ≡ None)
    × (left_refusal 5 5 0 ≡ Some NothingLeft)
    × (left_refusal 4 5 0 ≡ Some NothingLeft)
    × (left_refusal 299 5 294 ≡ None)
    × (left_refusal 298 5 294 ≡ Some Dust)
    × (left_refusal 2100000000000001 2100000000000001 294 ≡ Some ValueTooLarge)
    × (left_refusal 5 5 294 ≡ Some NothingLeft)
left = (refl, refl, refl, refl, refl, refl, refl, refl, refl)

-- what pays to a program at a feerate, with limits
abbrev asking : List ℕ → ℕ → ℕ → ℕ → Asked
asking program feerate least most = record { claims = []; preimages = []; destination = program; feerate_per_kw = feerate; least_feerate_per_kw = least; most_feerate_per_kw = most }

-- the hash of a key is paid, and a byte less is not; each limit is taken, and not what is beyond it; and the first of those that hold
given : (given_refusal (asking (0 ∷ 20 ∷ replicate 20 3) 250000 253 250000) ≡ None)
    × (given_refusal (asking (0 ∷ 20 ∷ replicate 20 3) 250001 253 250000) ≡ Some TooHighFeerate)
    × (given_refusal (asking (0 ∷ 20 ∷ replicate 20 3) 250001 253 250001) ≡ None)
    × (given_refusal (asking (0 ∷ 20 ∷ replicate 20 3) 253 253 250000) ≡ None)
    × (given_refusal (asking (0 ∷ 20 ∷ replicate 20 3) 252 253 250000) ≡ Some TooLowFeerate)
    × (given_refusal (asking (0 ∷ 20 ∷ replicate 20 3) 0 0 0) ≡ None)
    × (given_refusal (asking (0 ∷ 20 ∷ replicate 20 3) 1 2 0) ≡ Some TooHighFeerate)
    × (given_refusal (asking (0 ∷ 20 ∷ replicate 19 3) 0 0 0) ≡ Some BadDestination)
    × (given_refusal (asking [] 1 2 0) ≡ Some BadDestination)
given = (refl, refl, refl, refl, refl, refl, refl, refl, refl)

-- the earlier of two refusals, or the one that there is
firsts : (first_of (Some NoPreimage) (Some Dust) ≡ Some NoPreimage)
    × (first_of (Some NoPreimage) None ≡ Some NoPreimage)
    × (first_of None (Some Dust) ≡ Some Dust)
    × (first_of None None ≡ None)
firsts = (refl, refl, refl, refl)

-- within the limits: 1 and 4,000 outputs, and 10,000 bytes, and one less or more
limits : (is_within 1 0 ≡ true)
    × (is_within 0 0 ≡ false)
    × (is_within 4000 10000 ≡ true)
    × (is_within 4001 10000 ≡ false)
    × (is_within 4000 10001 ≡ false)
limits = (refl, refl, refl, refl, refl)

-- an output as a book's dump has it
abbrev output : PlainClaim
output = record { script = 0x53 ∷ []; path = 2; slots = []; place = record { outpoint = record { txid = replicate 32 7; index = 9 }; value = 5; program = 0x52 ∷ [] }; shell = OpenShell }

-- texts: four members, in any order, or the limits too, and no other one; an output; then that its claim is accepted
requests : (request_in (codes "{\"outputs\":[{\"outpoint\":\"0707070707070707070707070707070707070707070707070707070707070707:9\",\"path\":2,\"program\":\"52\",\"script\":\"53\",\"shell\":null,\"slots\":[],\"value\":5}],\"preimages\":[\"0909090909090909090909090909090909090909090909090909090909090909\"],\"feerate_per_kw\":253,\"destination\":\"51ac\"}")
    ≡ Ok (record { claims = output ∷ []; preimages = replicate 32 9 ∷ []; destination = 0x51 ∷ 0xac ∷ []; feerate_per_kw = 253; least_feerate_per_kw = 253; most_feerate_per_kw = 250000 }))
    × (request_in (codes "{\"outputs\":[],\"preimages\":[],\"feerate_per_kw\":1,\"destination\":\"51\"}") ≡ Err BadShape)
    × (request_in (codes "{\"outputs\":[{\"outpoint\":\"0707070707070707070707070707070707070707070707070707070707070707:9\",\"path\":2,\"program\":\"52\",\"script\":\"53\",\"shell\":null,\"slots\":[],\"value\":5}],\"preimages\":[],\"feerate_per_kw\":4294967296,\"destination\":\"51\"}") ≡ Err BadShape)
    × (request_in (codes "{\"outputs\":[{\"outpoint\":\"0707070707070707070707070707070707070707070707070707070707070707:9\",\"path\":2,\"program\":\"52\",\"script\":\"53\",\"shell\":null,\"slots\":[],\"value\":5}],\"preimages\":[\"09\"],\"feerate_per_kw\":1,\"destination\":\"51\"}") ≡ Err BadShape)
    × (request_in (codes "{\"outputs\":[{\"outpoint\":\"0707070707070707070707070707070707070707070707070707070707070707:9\",\"path\":2,\"program\":\"52\",\"script\":\"53\",\"shell\":null,\"slots\":[],\"value\":5}],\"preimages\":[],\"feerate_per_kw\":1,\"destination\":\"51\",\"fee\":1}") ≡ Err BadShape)
    × (request_in (codes "{\"outputs\":[{\"outpoint\":\"0707070707070707070707070707070707070707070707070707070707070707:9\",\"path\":2,\"program\":\"52\",\"script\":\"53\",\"shell\":null,\"slots\":[],\"value\":5}],\"preimages\":[],\"feerate_per_kw\":1}") ≡ Err BadShape)
    × (request_in (codes "[]") ≡ Err BadShape)
    × (request_in (codes "{") ≡ Err NotJson)
    × (request_in [] ≡ Err NotJson)
    × (request_in (0xff ∷ []) ≡ Err NotJson)
unfolding request_of output_of shell_of outpoint_in digits_from chars is_utf8 hex_on_literals serde_json_on_literals
requests = (refl, refl, refl, refl, refl, refl, refl, refl, refl, refl)

-- the limits of the feerate; an id as explorers show it; and one member too few, too many, or in the place of another
members : (request_in (codes "{\"outputs\":[{\"outpoint\":\"0707070707070707070707070707070707070707070707070707070707070707:9\",\"path\":2,\"program\":\"52\",\"script\":\"53\",\"shell\":null,\"slots\":[],\"value\":5}],\"preimages\":[],\"feerate_per_kw\":1,\"destination\":\"51\",\"most_feerate_per_kw\":4294967295}")
    ≡ Ok (record { claims = output ∷ []; preimages = []; destination = 0x51 ∷ []; feerate_per_kw = 1; least_feerate_per_kw = 253; most_feerate_per_kw = 4294967295 }))
    × (request_in (codes "{\"outputs\":[{\"explorer\":\"000102030405060708090a0b0c0d0e0f101112131415161718191a1b1c1d1e1f:4294967295\",\"path\":2,\"program\":\"52\",\"script\":\"53\",\"shell\":null,\"slots\":[],\"value\":5}],\"preimages\":[],\"feerate_per_kw\":1,\"destination\":\"51\"}")
    ≡ Ok (record { claims = (record { script = 0x53 ∷ []; path = 2; slots = []; place = record { outpoint = record { txid = 31 ∷ 30 ∷ 29 ∷ 28 ∷ 27 ∷ 26 ∷ 25 ∷ 24 ∷ 23 ∷ 22 ∷ 21 ∷ 20 ∷ 19 ∷ 18 ∷ 17 ∷ 16 ∷ 15 ∷ 14 ∷ 13 ∷ 12 ∷ 11 ∷ 10 ∷ 9 ∷ 8 ∷ 7 ∷ 6 ∷ 5 ∷ 4 ∷ 3 ∷ 2 ∷ 1 ∷ 0 ∷ []; index = 4294967295 }; value = 5; program = 0x52 ∷ [] }; shell = OpenShell }) ∷ []; preimages = []; destination = 0x51 ∷ []; feerate_per_kw = 1; least_feerate_per_kw = 253; most_feerate_per_kw = 250000 }))
    × (request_in (codes "{\"outputs\":[{\"outpoint\":\"0707070707070707070707070707070707070707070707070707070707070707:9\",\"path\":2,\"program\":\"52\",\"script\":\"53\",\"shell\":null,\"slots\":[],\"value\":5}],\"preimages\":[],\"feerate_per_kw\":1,\"destination\":\"51\",\"least_feerate_per_kw\":0}") ≡ Ok (record { claims = output ∷ []; preimages = []; destination = 0x51 ∷ []; feerate_per_kw = 1; least_feerate_per_kw = 0; most_feerate_per_kw = 250000 }))
    × (request_in (codes "{\"outputs\":[{\"outpoint\":\"0707070707070707070707070707070707070707070707070707070707070707:9\",\"path\":2,\"program\":\"52\",\"script\":\"53\",\"shell\":null,\"slots\":[],\"value\":5}],\"preimages\":[],\"feerate_per_kw\":1,\"destination\":\"51\",\"most_feerate_per_kw\":7,\"least_feerate_per_kw\":25}") ≡ Ok (record { claims = output ∷ []; preimages = []; destination = 0x51 ∷ []; feerate_per_kw = 1; least_feerate_per_kw = 25; most_feerate_per_kw = 7 }))
    × (request_in (codes "{\"outputs\":[{\"outpoint\":\"0707070707070707070707070707070707070707070707070707070707070707:9\",\"path\":2,\"program\":\"52\",\"script\":\"53\",\"shell\":null,\"slots\":[],\"value\":5}],\"preimages\":[],\"feerate_per_kw\":1,\"destination\":\"51\",\"least_feerate_per_kw\":4294967296}") ≡ Err BadShape)
    × (request_in (codes "{\"outputs\":[{\"outpoint\":\"0707070707070707070707070707070707070707070707070707070707070707:9\",\"path\":2,\"program\":\"52\",\"script\":\"53\",\"shell\":null,\"slots\":[],\"value\":5}],\"preimages\":[],\"feerate_per_kw\":1,\"destination\":\"51\",\"most_feerate_per_kw\":7,\"least_feerate_per_kw\":25,\"fee\":1}") ≡ Err BadShape)
    × (request_in (codes "{\"outputs\":[{\"outpoint\":\"0707070707070707070707070707070707070707070707070707070707070707:9\",\"path\":2,\"program\":\"52\",\"script\":\"53\",\"shell\":null,\"slots\":[],\"value\":5}],\"preimages\":[],\"feerate_per_kw\":1,\"destination\":\"51\",\"most_feerate_per_kw\":4294967296}") ≡ Err BadShape)
    × (request_in (codes "{\"outputs\":[{\"outpoint\":\"0707070707070707070707070707070707070707070707070707070707070707:9\",\"path\":2,\"program\":\"52\",\"script\":\"53\",\"shell\":null,\"slots\":[],\"value\":5}],\"preimages\":[],\"feerate_per_kw\":1,\"destination\":\"51\",\"most_feerate_per_kw\":1,\"fee\":1}") ≡ Err BadShape)
    × (request_in (codes "{\"outputs\":[{\"outpoint\":\"0707070707070707070707070707070707070707070707070707070707070707:9\",\"path\":2,\"program\":\"52\",\"script\":\"53\",\"shell\":null,\"slots\":[],\"value\":5}],\"preimages\":[],\"destination\":\"51\",\"most_feerate_per_kw\":1}") ≡ Err BadShape)
    × (request_in (codes "{\"outputs\":[{\"outpoint\":\"0707070707070707070707070707070707070707070707070707070707070707:9\",\"explorer\":\"000102030405060708090a0b0c0d0e0f101112131415161718191a1b1c1d1e1f:4294967295\",\"path\":2,\"program\":\"52\",\"script\":\"53\",\"shell\":null,\"slots\":[],\"value\":5}],\"preimages\":[],\"feerate_per_kw\":1,\"destination\":\"51\"}") ≡ Err BadShape)
unfolding request_of output_of shell_of outpoint_in digits_from chars is_utf8 hex_on_literals serde_json_on_literals
members = (refl, refl, refl, refl, refl, refl, refl, refl, refl, refl)

-- no opcode has the byte 50
not_accepted : asked_in (codes "{\"outputs\":[{\"outpoint\":\"0707070707070707070707070707070707070707070707070707070707070707:9\",\"path\":2,\"program\":\"52\",\"script\":\"50\",\"shell\":null,\"slots\":[],\"value\":5}],\"preimages\":[],\"feerate_per_kw\":1,\"destination\":\"51\"}") ≡ Err BadClaim
unfolding asked_in claims_of claim_of checked_of ops_of ops_in request_of output_of shell_of outpoint_in digits_from chars is_utf8 hex_on_literals serde_json_on_literals
not_accepted = refl
