-- The tokens on a chain that one commitment closed: of the node's keys, only those that it gave out stand there. The node's keys begin with 2 and the peer's funding key with 3; any other key is told by its second byte.
use Rattle.std.proofs.Common.{◌≡◌, ◌≢◌, ℕ, ◌==◌, ◌||◌, ◌&&◌, Bool, true, false, not, List, [], ◌∷◌, ◌++◌, get_or, refl, sym, ap, ◌∙◌, arith}
use Rattle.std.specs.List.{list_all}
use Rattle.std.specs.Str.{bytes_eq}
use Rattle.std.proofs.Math.ListN.{get_or-append}
use Rattle.std.proofs.lemmas.Bool.{true≢false, and_parts, or_right, false_from_ne_true, eq-eqb}
use Rattle.std.proofs.lemmas.Slice.Eq.{bytes_eq-Decides}
use Rattle.script.specs.Token.{token_of}
use Rattle.keys.specs.declared.compressed.Key.{Key}
use Rattle.claim.proofs.TokenForms.{key-length}
use Rattle.tx.specs.declared.input.TxIn.{TxIn}
use Rattle.tx.specs.Fields.{Transaction, same_outpoint}
use Rattle.safety.specs.Premises.{LockedOutput, spend, if_named, each_spend, has_item, shows_given}
use Rattle.safety.specs.Signing.{digest_of}
use Rattle.safety.proofs.Lists.{both}

-- whether bytes begin with 2
abbrev pub begins_two : List ℕ → Bool
begins_two [] = false
begins_two (b ∷ bs) = b == 2

pub token_begins : (key d : List ℕ) → begins_two key ≡ true → begins_two (token_of key d) ≡ true
unfolding token_of
token_begins [] d e = absurd (true≢false (sym e))
token_begins (b ∷ bs) d e = e

-- an item that does not is no token of a key that does
pub other_item : (item key d : List ℕ) → begins_two item ≡ false → begins_two key ≡ true → bytes_eq item (token_of key d) ≡ false
other_item item key d unlike two =
    false_from_ne_true (bytes_eq item (token_of key d))
    (λ (t : bytes_eq item (token_of key d) ≡ true). true≢false (sym (token_begins key d two) ∙ ap begins_two (sym ((bytes_eq-Decides item (token_of key d)).0 t)) ∙ unlike))

-- ---- of a witness

-- one with such an item alone shows no token of these keys
pub none_shown : (given keys : List (List ℕ)) (item d : List ℕ) → begins_two item ≡ false → list_all begins_two keys ≡ true → shows_given given keys (item ∷ []) d ≡ true
none_shown given [] item d unlike two = refl
none_shown given (key ∷ keys) item d unlike two =
    let parts = and_parts (begins_two key) (list_all begins_two keys) two in
    both (not (has_item (item ∷ []) (token_of key d)) || has_item given (token_of key d)) (shows_given given keys (item ∷ []) d) (rw (other_item item key d unlike parts.0) refl) (none_shown given keys item d unlike parts.1)

-- of one that closes, with a token that was given
one_given : (given : List (List ℕ)) (mine other script key d : List ℕ) → begins_two other ≡ false → begins_two script ≡ false → has_item given mine ≡ true → begins_two key ≡ true
    → (not (has_item ([] ∷ mine ∷ other ∷ script ∷ []) (token_of key d)) || has_item given (token_of key d)) ≡ true
one_given given mine other script key d unlike none there two = by (bytes_eq mine (token_of key d)) refl
  where
    by : (t : Bool) → bytes_eq mine (token_of key d) ≡ t → (not (has_item ([] ∷ mine ∷ other ∷ script ∷ []) (token_of key d)) || has_item given (token_of key d)) ≡ true
    by true e = or_right (not (has_item ([] ∷ mine ∷ other ∷ script ∷ []) (token_of key d))) (has_item given (token_of key d)) (ap (has_item given) (sym ((bytes_eq-Decides mine (token_of key d)).0 e)) ∙ there)
    by false e = rw (other_item [] key d refl two, e, other_item other key d unlike two, other_item script key d none two) refl

pub all_given : (given keys : List (List ℕ)) (mine other script d : List ℕ) → begins_two other ≡ false → begins_two script ≡ false → has_item given mine ≡ true → list_all begins_two keys ≡ true
    → shows_given given keys ([] ∷ mine ∷ other ∷ script ∷ []) d ≡ true
all_given given [] mine other script d unlike none there two = refl
all_given given (key ∷ keys) mine other script d unlike none there two =
    let parts = and_parts (begins_two key) (list_all begins_two keys) two in
    both (not (has_item ([] ∷ mine ∷ other ∷ script ∷ []) (token_of key d)) || has_item given (token_of key d)) (shows_given given keys ([] ∷ mine ∷ other ∷ script ∷ []) d)
    (one_given given mine other script key d unlike none there parts.0) (all_given given keys mine other script d unlike none there parts.1)

-- ---- of an input, whichever outputs it names

named_or_not : (named : Bool) (test : List ℕ → Bool) (w : LockedOutput) (t : Transaction) (input : TxIn) → ((d : List ℕ) → test d ≡ true) → if_named named test w t input ≡ true
named_or_not true test w t input holds = holds (digest_of (spend w t input))
named_or_not false test w t input holds = refl

pub whatever_is_named : (test : List (List ℕ) → List ℕ → Bool) (ws : List LockedOutput) (t : Transaction) (input : TxIn) → ((d : List ℕ) → test input.witness d ≡ true) → each_spend test ws t input ≡ true
whatever_is_named test [] t input holds = refl
whatever_is_named test (w ∷ ws) t input holds =
    both (if_named (same_outpoint input.outpoint w.place.outpoint) (test input.witness) w t input) (each_spend test ws t input)
    (named_or_not (same_outpoint input.outpoint w.place.outpoint) (test input.witness) w t input holds) (whatever_is_named test ws t input holds)

-- ---- keys that differ in their second byte

pub second_of : (key : Key) (d : List ℕ) → get_or (token_of key.bytes d) 1 0 ≡ get_or key.bytes 1 0
unfolding token_of
second_of key d = let l = key-length key.bytes key.form in get_or-append key.bytes (d ++ 1 ∷ []) 0 1 (omega (arith, l))

-- their tokens differ, whatever they are over
pub other_key : (a b : Key) (m n : ℕ) → get_or a.bytes 1 0 ≡ m → get_or b.bytes 1 0 ≡ n → m ≢ n → (d e : List ℕ) → bytes_eq (token_of a.bytes d) (token_of b.bytes e) ≡ false
other_key a b m n f g apart d e =
    false_from_ne_true (bytes_eq (token_of a.bytes d) (token_of b.bytes e))
    (λ t. apart (sym f ∙ sym (second_of a d) ∙ ap (λ (bs : List ℕ). get_or bs 1 0) ((bytes_eq-Decides (token_of a.bytes d) (token_of b.bytes e)).0 t) ∙ second_of b e ∙ g))

-- whether bytes begin with 2 and another byte than this one
abbrev pub has_other_second : ℕ → List ℕ → Bool
has_other_second n [] = false
has_other_second n (b ∷ []) = false
has_other_second n (b ∷ s ∷ bs) = b == 2 && not (s == n)

begins_so : (n : ℕ) (key : List ℕ) → has_other_second n key ≡ true → begins_two key ≡ true
begins_so n [] e = e
begins_so n (b ∷ []) e = absurd (true≢false (sym e))
begins_so n (b ∷ s ∷ bs) e = (and_parts (b == 2) (not (s == n)) e).0

other_second : (item : List ℕ) (n : ℕ) → get_or item 1 0 ≡ n → (key d : List ℕ) → has_other_second n key ≡ true → bytes_eq item (token_of key d) ≡ false
unfolding token_of
other_second item n is [] d e = absurd (true≢false (sym e))
other_second item n is (b ∷ []) d e = absurd (true≢false (sym e))
other_second item n is (b ∷ s ∷ bs) d e =
    false_from_ne_true (bytes_eq item (token_of (b ∷ s ∷ bs) d))
    (λ t.
    let same : n ≡ s = sym is ∙ ap (λ (xs : List ℕ). get_or xs 1 0) ((bytes_eq-Decides item (token_of (b ∷ s ∷ bs) d)).0 t) in
    true≢false (sym (and_parts (b == 2) (not (s == n)) e).1 ∙ ap not (eq-eqb s n (sym same))))

-- of an HTLC transaction, with a token that was given and the peer's, whose key has this second byte
stage_one : (given : List (List ℕ)) (theirs mine item script : List ℕ) (n : ℕ) → get_or theirs 1 0 ≡ n → begins_two item ≡ false → begins_two script ≡ false → has_item given mine ≡ true
    → (key d : List ℕ) → has_other_second n key ≡ true → (not (has_item ([] ∷ theirs ∷ mine ∷ item ∷ script ∷ []) (token_of key d)) || has_item given (token_of key d)) ≡ true
stage_one given theirs mine item script n is unlike none there key d other = by (bytes_eq mine (token_of key d)) refl
  where
    by : (t : Bool) → bytes_eq mine (token_of key d) ≡ t → (not (has_item ([] ∷ theirs ∷ mine ∷ item ∷ script ∷ []) (token_of key d)) || has_item given (token_of key d)) ≡ true
    by true e = or_right (not (has_item ([] ∷ theirs ∷ mine ∷ item ∷ script ∷ []) (token_of key d))) (has_item given (token_of key d)) (ap (has_item given) (sym ((bytes_eq-Decides mine (token_of key d)).0 e)) ∙ there)
    by false e =
        let two = begins_so n key other in
        rw (other_item [] key d refl two, other_second theirs n is key d other, e, other_item item key d unlike two, other_item script key d none two) refl

pub stage_given : (given keys : List (List ℕ)) (theirs mine item script d : List ℕ) (n : ℕ) → get_or theirs 1 0 ≡ n → begins_two item ≡ false → begins_two script ≡ false → has_item given mine ≡ true
    → list_all (has_other_second n) keys ≡ true → shows_given given keys ([] ∷ theirs ∷ mine ∷ item ∷ script ∷ []) d ≡ true
stage_given given [] theirs mine item script d n is unlike none there other = refl
stage_given given (key ∷ keys) theirs mine item script d n is unlike none there other =
    let parts = and_parts (has_other_second n key) (list_all (has_other_second n) keys) other in
    both (not (has_item ([] ∷ theirs ∷ mine ∷ item ∷ script ∷ []) (token_of key d)) || has_item given (token_of key d)) (shows_given given keys ([] ∷ theirs ∷ mine ∷ item ∷ script ∷ []) d)
    (stage_one given theirs mine item script n is unlike none there key d parts.0) (stage_given given keys theirs mine item script d n is unlike none there parts.1)
