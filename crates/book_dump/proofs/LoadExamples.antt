-- What texts are loaded as: each refusal before the next one in the order.
use Rattle.std.proofs.Common.{◌≡◌, ℕ, List, [], ◌∷◌, map, replicate, Some, None, Ok, Err, codes, refl}
use Rattle.serde_json.proofs.OnLiterals.{serde_json_on_literals}
use Rattle.claim.specs.declared.parts.Shell.TheVariants.{Open as OpenShell}
use Rattle.channel.specs.States.{Signing}
use Rattle.texts.specs.declared.claims.PlainClaim.{PlainClaim}
use Rattle.texts.specs.declared.calls.PlainCall.{PlainCall}
use Rattle.texts.specs.declared.calls.PlainCall.TheVariants as plain
use Rattle.texts.specs.declared.calls.PlainEntry.{PlainEntry}
use Rattle.texts.specs.Calls.{dump_of as dump_in_data}
use Rattle.book.specs.declared.calls.Call.TheVariants.{Close}
use Rattle.book_dump.specs.declared.errors.EntryError.TheVariants as entries
use Rattle.book_dump.specs.declared.errors.LoadError.TheVariants.{NoMemory, NotJson, BadShape, BadClaim, BadHistory}
use Rattle.claim.specs.Opcodes.{ops_in, ops_of}
use Rattle.book_dump.specs.Refusals.{load_error_number}
use Rattle.book_dump.specs.Openings.{batch_of}
use Rattle.plain_claims.specs.Claims.{checked_of, claim_of, claims_of}
use Rattle.book_dump.specs.Loading.{call_of, entry_of}
use Rattle.book_dump.specs.Loaded.{dump_in, history_after_plain}

-- a claim whose script `parse` refuses
abbrev bad_claim : List ℕ → PlainClaim
bad_claim script = record { script = script; path = 0; slots = []; place = record { outpoint = record { txid = replicate 32 7; index = 0 }; value = 1; program = [] }; shell = OpenShell }

-- a release without claims is BadShape; a bad claim is reported first
releases : (call_of (plain.Release 3 [] [] []) ≡ Err entries.BadShape)
    × (call_of (plain.Release 3 (bad_claim (0x50 ∷ []) ∷ []) [] []) ≡ Err entries.BadClaim)
unfolding call_of claims_of claim_of checked_of ops_of ops_in batch_of
releases = (refl, refl)

closes : call_of (plain.Close 3) ≡ Ok (Close 3)
unfolding call_of
closes = refl

abbrev entry : PlainCall → PlainEntry
entry call = record { call = call; seat = 4 }

-- the first entry that is not taken; of one entry, the claims are tested first
module _ (tokens_of : Signing) where
  histories : (history_after_plain tokens_of 0 [] [] ≡ Ok [])
      × (history_after_plain tokens_of 0 [] (entry (plain.Sign 0) ∷ []) ≡ Err (BadHistory 0))
      × (history_after_plain tokens_of 5 [] (entry (plain.Sign 0) ∷ []) ≡ Err (BadHistory 5))
      × (history_after_plain tokens_of 0 [] (entry (plain.Close 0) ∷ []) ≡ Err (BadHistory 0))
      × (history_after_plain tokens_of 0 [] (entry (plain.Keep 0 0 (bad_claim (0x50 ∷ []) ∷ [])) ∷ []) ≡ Err (BadClaim 0))
      × (history_after_plain tokens_of 0 [] (entry (plain.Keep 0 0 []) ∷ []) ≡ Err (BadHistory 0))
      × (history_after_plain tokens_of 0 [] (entry (plain.Sign 0) ∷ entry (plain.Keep 0 0 (bad_claim (0x50 ∷ []) ∷ [])) ∷ []) ≡ Err (BadHistory 0))
  unfolding entry_of call_of claims_of claim_of checked_of ops_of ops_in
  histories = (refl, refl, refl, refl, refl, refl, refl)

-- texts
texts : (dump_in (codes "{\"history\":[],\"version\":2}") ≡ Ok (record { history = [] }))
    × (dump_in (codes "{\"history\":[],\"version\":1}") ≡ Ok (record { history = [] }))
    × (dump_in (codes "{\"history\":[],\"version\":3}") ≡ Err BadShape)
    × (dump_in (codes "{\"history\":[],\"version\":9}") ≡ Err BadShape)
    × (dump_in (codes "{}") ≡ Err BadShape)
    × (dump_in (codes "{\"history\":[],\"version\":2") ≡ Err NotJson)
    × (dump_in [] ≡ Err NotJson)
unfolding dump_in_data serde_json_on_literals
texts = (refl, refl, refl, refl, refl, refl, refl)

numbers : map load_error_number (NoMemory ∷ NotJson ∷ BadShape ∷ BadClaim 7 ∷ BadHistory 7 ∷ []) ≡ 0 ∷ 1 ∷ 2 ∷ 3 ∷ 4 ∷ []
numbers = refl
