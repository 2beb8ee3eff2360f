-- Why an HTLC that the node offers has to expire above 0. With expiry 0 the HTLC-success transaction, whose lock time is 0, takes the output by its remote key's token alone: nobody shows the preimage.
use Rattle.std.proofs.Common.{◌≡◌, ℕ, true, false, List, [], ◌∷◌, ◌++◌, length, Some, None, refl, arith, length-append}
use Rattle.std.specs.List.{All, list_any}
use Rattle.std.specs.Str.{bytes_eq}
use Rattle.std.proofs.lemmas.List.Elements.{All-head, All-tail}
use Rattle.std.proofs.lemmas.Slice.Eq.{bytes_eq-Decides}
use Rattle.digest.specs.Hash.{hash160}
use Rattle.script.specs.declared.spending.Spend.{Spend}
use Rattle.script.specs.Token.{token_of, is_key}
use Rattle.script.specs.Step.{lock_passes}
use Rattle.script.specs.Run.{Clean, outcome, is_long}
use Rattle.facts.specs.Meaning.{Meets}
use Rattle.facts.specs.Symbols.{Stated}
use Rattle.facts.specs.declared.symbols.FactOver.TheVariants.{Lock}
use Rattle.paths.specs.declared.state.Path.{Path}
use Rattle.paths.specs.Sound.{IsSound}
use Rattle.paths.specs.Listing.{path_with}
use Rattle.paths.proofs.SoundWalk.{listing-sound}
use Rattle.claim.proofs.TokenForms.{token-signature}
use Rattle.terms.specs.Scripts.{received}
use Rattle.forms.specs.Ways.{yes, way, key_way, key_signs, both_sign, takes_preimage, takes_neither, received_ways}
use Rattle.forms.proofs.Forms.{key_length}
use Rattle.forms.proofs.Listed.{received-listed}

token_size : (key digest : List ℕ) → length key ≡ 33 → length digest ≡ 32 → length (token_of key digest) ≡ 66
unfolding token_of
token_size key digest n m = omega (arith, n, m, length-append key (digest ++ 1 ∷ []), length-append digest (1 ∷ []))

short_items : (item : List ℕ) → length item ≡ 66 → list_any is_long (item ∷ [] ∷ []) ≡ false
short_items item n = rw n refl

lock_zero : (spend : Spend) → spend.lock_time ≡ 0 → spend.sequence ≡ 0 → lock_passes spend 0 ≡ true
unfolding lock_passes
lock_zero spend l s = rw (l, s) refl

pub expiry_zero : (hash remote local payment : List ℕ) → length hash ≡ 20 → length payment ≡ 20 → is_key remote ≡ true → is_key local ≡ true → (spend : Spend) → length spend.digest ≡ 32
    → spend.lock_time ≡ 0 → spend.sequence ≡ 0 → bytes_eq (hash160 []) hash ≡ false
    → outcome spend (received hash remote local payment 0) (token_of remote spend.digest ∷ [] ∷ []) ≡ Clean 21 5
expiry_zero hash remote local payment r p k l spend d t s other =
    let ops = received hash remote local payment 0 in
    let first : Path = key_way hash 21 in
    let second : Path = way 4 (takes_preimage hash payment (both_sign remote local)) 23 7 in
    let facts : List Stated = takes_neither hash (yes (Lock 0) ∷ key_signs remote) in
    let third : Path = path_with 2 facts 21 5 (Some 0) None in
    let listed = received-listed hash remote local payment 0 (omega arith) k l (key_length remote k) (key_length local l) r p in
    let all : All (IsSound ops) (first ∷ second ∷ third ∷ []) = listing-sound ops (received_ways hash remote local payment 0) listed in
    let sound : IsSound ops third = All-head (IsSound ops) third [] (All-tail (IsSound ops) second (third ∷ []) (All-tail (IsSound ops) first (second ∷ third ∷ []) all)) in
    let item : List ℕ = token_of remote spend.digest in
    let meets : Meets spend (item ∷ [] ∷ []) 2 (takes_neither hash (yes (Lock 0) ∷ key_signs remote)) = record {
      exact = refl;
      short = short_items item (token_size remote spend.digest (key_length remote k) d);
      holds = (other, (refl, (lock_zero spend t s, (token-signature remote spend.digest k d, ((bytes_eq-Decides item item).1 refl, tt)))));
    } in
    sound.clean spend (item ∷ [] ∷ []) meets
