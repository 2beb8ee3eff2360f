-- Each form's ways are listed, and its pattern, filled, has its opcodes.
use Rattle.std.proofs.Common.{◌≡◌, ℕ, ◌^◌, ◌<◌, true, List, [], ◌∷◌, length, Some, None, Result, Ok, Err, sym, ap, ◌∙◌, refl, subst, arith}
use Rattle.std.specs.Prelude.{IfOk, is_ok, is_some, nat_lt}
use Rattle.std.proofs.lemmas.Bool.{lt-ltb, eqb-true, and_parts, false≢true}
use Rattle.digest.specs.Hash.{hash160}
use Rattle.digest.specs.Ripemd160.{ripemd160}
use Rattle.digest.proofs.OutsideVectors.{length-ripemd160}
use Rattle.script.specs.declared.opcode.Op.{Op}
use Rattle.script.specs.declared.opcode.Op.TheVariants.{Push}
use Rattle.script.specs.declared.limits.TheConstants.{LOCKTIME_THRESHOLD}
use Rattle.script.specs.Number.{number_of, minimal_bytes_of, digits}
use Rattle.script.specs.Token.{is_key, is_signature, is_token}
use Rattle.paths.specs.declared.state.Path.{Path}
use Rattle.paths.specs.declared.pieces.Piece.{Piece}
use Rattle.paths.specs.declared.pieces.Fill.{Fill}
use Rattle.paths.specs.declared.pieces.Fill.TheVariants.{Key, Hash, Num}
use Rattle.paths.specs.declared.pieces.PatternError.{PatternError}
use Rattle.paths.specs.Holes.{fits}
use Rattle.paths.specs.HoleRules.{rule_of, check_multi_sig}
use Rattle.paths.specs.HoleListing.{pattern_listing}
use Rattle.paths.specs.Listing.{CheckedScript, listing}
use Rattle.paths.specs.Patterns.{pattern_of, filled, IsListedAs}
use Rattle.terms.specs.Scripts.{number_push}
use Rattle.forms.specs.Forms.{two_of_two_form, to_local_form, key_hash_form, offered_form, received_form}
use Rattle.forms.specs.Pieces.{two_of_two_pieces, to_local_pieces, key_hash_pieces, offered_pieces, received_pieces, is_listed, are_taken}
use Rattle.forms.proofs.Pushes.{pushed_alike}
use Rattle.forms.proofs.Listed.{two_of_two-listed, to_local-listed, key_hash-listed, offered-listed, received-listed}

-- a key has 33 bytes
pub key_length : (k : List ℕ) → is_key k ≡ true → length k ≡ 33
unfolding is_key
key_length k e = eqb-true (length k) 33 (and_parts _ _ e).0

abbrev pub key : List ℕ → Type 0
key k = is_key k ≡ true

abbrev pub hash : List ℕ → Type 0
hash h = length h ≡ 20

abbrev pub listed : List Op → List Path → Type 0
listed ops ways = listing ops ≡ Ok ways

-- a pattern that is listed has no refusal, and fills that are taken are right
pub never_refused : (pieces : List Piece) (e : PatternError) → is_listed pieces ≡ true → pattern_of pieces ≡ Err e → ⊥
never_refused pieces e l h = false≢true (sym (ap is_ok h) ∙ l)

pub never_wrong : (pieces : List Piece) (fills : List Fill) → are_taken pieces fills ≡ true → filled pieces fills ≡ None → ⊥
never_wrong pieces fills t h = false≢true (sym (ap is_some h) ∙ t)

-- a form, as its pattern and its fills give it
pub record IsFilledTo (pieces : List Piece) (fills : List Fill) (form : CheckedScript) : Type 0 where
  ops : filled pieces fills ≡ Some form.ops
  ways : listed form.ops form.paths

-- the fills are taken, and the script has the form's opcodes and ways
pub taken : (own pieces : List Piece) (fills : List Fill) (form : CheckedScript) → own ≡ pieces → IsFilledTo pieces fills form → are_taken own fills ≡ true
taken own pieces fills form e f = ap (λ p. are_taken p fills) e ∙ ap is_some f.ops

same_ways : {E : Type 0} (r : Result (List Path) E) (ways paths : List Path) → r ≡ Ok ways → r ≡ Ok paths → paths ≡ ways
same_ways r ways paths e g = cc

pub built : {E : Type 0} (r : Result CheckedScript E) (own pieces : List Piece) (fills : List Fill) (form : CheckedScript) → own ≡ pieces → IsFilledTo pieces fills form → IfOk r (IsListedAs (filled own fills)) → IfOk r (λ c. c ≡ form)
built (Ok c) own pieces fills form e f h =
    let g : IsListedAs (Some form.ops) c = subst (λ o. IsListedAs o c) (ap (λ p. filled p fills) e ∙ f.ops) h in
    ap (λ o. record { ops = o; paths = c.paths }) g.0 ∙ ap (λ p. record { ops = form.ops; paths = p }) (same_ways (listing form.ops) form.paths c.paths f.ways g.1)
built (Err x) own pieces fills form e f h = tt

pub two_of_two_filled : (first second : List ℕ) → key first → key second → IsFilledTo two_of_two_pieces (Key first ∷ Key second ∷ []) (two_of_two_form first second)
unfolding fits
two_of_two_filled first second k l = record {
  ops = rw (k, l) refl;
  ways = two_of_two-listed first second k l (key_length first k) (key_length second l);
}

-- the push of a preimage's size
size_pushed : number_push 32 ≡ Push (32 ∷ [])
unfolding number_push minimal_bytes_of digits
size_pushed = refl

low : (n : ℕ) → n < LOCKTIME_THRESHOLD → nat_lt n LOCKTIME_THRESHOLD ≡ true
low n h = lt-ltb n LOCKTIME_THRESHOLD h

pub to_local_filled : (revocation : List ℕ) (delay_blocks : ℕ) (delayed : List ℕ) → delay_blocks < 2 ^ 16 → key revocation → key delayed → IsFilledTo to_local_pieces (Key revocation ∷ Num delay_blocks ∷ Key delayed ∷ []) (to_local_form revocation delay_blocks delayed)
unfolding fits
to_local_filled revocation delay_blocks delayed h k l = record {
  ops = let n = low delay_blocks (omega arith) in let p = pushed_alike delay_blocks in rw (k, n, l, p) refl;
  ways = to_local-listed revocation delay_blocks delayed h k l (key_length revocation k) (key_length delayed l);
}

key_hash_filled : (h : List ℕ) → hash h → IsFilledTo key_hash_pieces (Hash h ∷ []) (key_hash_form h)
unfolding fits
key_hash_filled h n = record { ops = rw n refl; ways = key_hash-listed h n }

offered_filled : (r remote local p : List ℕ) → hash r → hash p → key remote → key local → IsFilledTo offered_pieces (Hash r ∷ Key remote ∷ Key local ∷ Hash p ∷ []) (offered_form r remote local p)
unfolding fits number_push minimal_bytes_of digits
offered_filled r remote local p m n k l = record {
  ops = rw (m, k, l, n) refl;
  ways = offered-listed r remote local p k l (key_length remote k) (key_length local l) m n;
}

received_filled : (r remote local p : List ℕ) (expiry_height : ℕ) → hash r → hash p → key remote → key local → expiry_height < LOCKTIME_THRESHOLD → IsFilledTo received_pieces (Hash r ∷ Key remote ∷ Hash p ∷ Key local ∷ Num expiry_height ∷ []) (received_form r remote local p expiry_height)
unfolding fits
received_filled r remote local p expiry_height m n k l h = record {
  ops = let s = size_pushed in let o = low expiry_height h in let q = pushed_alike expiry_height in rw (m, k, n, l, o, q, s) refl;
  ways = received-listed r remote local p expiry_height (omega arith) k l (key_length remote k) (key_length local l) m n;
}

-- the same of hashes that were computed
pub key_hash_at : (h bytes : List ℕ) → h ≡ hash160 bytes → IsFilledTo key_hash_pieces (Hash h ∷ []) (key_hash_form (hash160 bytes))
key_hash_at h bytes e = subst (λ x. IsFilledTo key_hash_pieces (Hash x ∷ []) (key_hash_form (hash160 bytes))) (sym e) (key_hash_filled (hash160 bytes) (length-ripemd160 _))

pub offered_at : (r revocation remote local p payment : List ℕ) → r ≡ hash160 revocation → p ≡ ripemd160 payment → key remote → key local → IsFilledTo offered_pieces (Hash r ∷ Key remote ∷ Key local ∷ Hash p ∷ []) (offered_form (hash160 revocation) remote local (ripemd160 payment))
offered_at r revocation remote local p payment e f k l =
    let form = offered_form (hash160 revocation) remote local (ripemd160 payment) in
    subst (λ x. IsFilledTo offered_pieces (Hash x ∷ Key remote ∷ Key local ∷ Hash p ∷ []) form) (sym e) (
    subst (λ y. IsFilledTo offered_pieces (Hash (hash160 revocation) ∷ Key remote ∷ Key local ∷ Hash y ∷ []) form) (sym f) (
    offered_filled (hash160 revocation) remote local (ripemd160 payment) (length-ripemd160 _) (length-ripemd160 _) k l))

pub received_at : (r revocation remote local p payment : List ℕ) (expiry_height : ℕ) → r ≡ hash160 revocation → p ≡ ripemd160 payment → key remote → key local → expiry_height < LOCKTIME_THRESHOLD → IsFilledTo received_pieces (Hash r ∷ Key remote ∷ Hash p ∷ Key local ∷ Num expiry_height ∷ []) (received_form (hash160 revocation) remote local (ripemd160 payment) expiry_height)
received_at r revocation remote local p payment expiry_height e f k l h =
    let form = received_form (hash160 revocation) remote local (ripemd160 payment) expiry_height in
    subst (λ x. IsFilledTo received_pieces (Hash x ∷ Key remote ∷ Hash p ∷ Key local ∷ Num expiry_height ∷ []) form) (sym e) (
    subst (λ y. IsFilledTo received_pieces (Hash (hash160 revocation) ∷ Key remote ∷ Hash y ∷ Key local ∷ Num expiry_height ∷ []) form) (sym f) (
    received_filled (hash160 revocation) remote local (ripemd160 payment) expiry_height (length-ripemd160 _) (length-ripemd160 _) k l h))

-- each pattern's ways are listed
pub two_of_two_is_listed : is_listed two_of_two_pieces ≡ true
unfolding pattern_listing rule_of check_multi_sig number_of minimal_bytes_of digits is_key is_signature is_token
two_of_two_is_listed = refl

pub to_local_is_listed : is_listed to_local_pieces ≡ true
unfolding pattern_listing rule_of
to_local_is_listed = refl

pub key_hash_is_listed : is_listed key_hash_pieces ≡ true
unfolding pattern_listing rule_of
key_hash_is_listed = refl

pub offered_is_listed : is_listed offered_pieces ≡ true
unfolding pattern_listing rule_of check_multi_sig number_of minimal_bytes_of digits is_key is_signature is_token
offered_is_listed = refl

pub received_is_listed : is_listed received_pieces ≡ true
unfolding pattern_listing rule_of check_multi_sig number_of minimal_bytes_of digits is_key is_signature is_token
received_is_listed = refl
