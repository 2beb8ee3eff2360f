-- Each form's ways are listed, and its pattern, filled, has its opcodes.
use Rattle.std.proofs.Common.{◌≡◌, ℕ, ◌<◌, true, List, [], ◌∷◌, Some, Result, Ok, Err, sym, ap, ◌∙◌, refl, subst, arith}
use Rattle.std.specs.Prelude.{IfOk, is_ok, is_some, nat_lt}
use Rattle.std.proofs.lemmas.Bool.{lt-ltb}
use Rattle.digest.specs.Hash.{hash160}
use Rattle.digest.specs.Ripemd160.{ripemd160}
use Rattle.digest.proofs.OutsideVectors.{length-ripemd160}
use Rattle.script.specs.declared.opcode.Op.TheVariants.{Push}
use Rattle.script.specs.declared.limits.TheConstants.{LOCKTIME_THRESHOLD}
use Rattle.script.specs.Number.{minimal_bytes_of, digits}
use Rattle.paths.specs.declared.state.Path.{Path}
use Rattle.paths.specs.declared.pieces.Piece.{Piece}
use Rattle.paths.specs.declared.pieces.Fill.{Fill}
use Rattle.paths.specs.declared.pieces.Fill.TheVariants.{Key, Hash, Num}
use Rattle.paths.specs.Holes.{fits}
use Rattle.paths.specs.Listing.{CheckedScript, listing}
use Rattle.paths.specs.Patterns.{filled, IsListedAs}
use Rattle.paths.proofs.FillPattern.{filled_listed}
use Rattle.terms.specs.Scripts.{number_push}
use Rattle.forms.specs.Pieces.{is_listed, are_taken}
use Rattle.forms.proofs.Pushes.{pushed_alike}
use Rattle.forms.proofs.Forms.{key, hash, listed}
use Rattle.anchor_forms.specs.Scripts.{offered_with_anchors, received_with_anchors}
use Rattle.anchor_forms.specs.Forms.{offered_with_anchors_form, received_with_anchors_form}
use Rattle.anchor_forms.specs.Pieces.{offered_with_anchors_pieces, received_with_anchors_pieces}
use Rattle.anchor_forms.proofs.Listed.{offered_pattern, received_pattern, offered_is, received_is, offered_ways_are, received_ways_are}

-- a form, as its pattern and its fills give it
pub record IsFilledTo (pieces : List Piece) (fills : List Fill) (form : CheckedScript) : Type 0 where
  ops : filled pieces fills ≡ Some form.ops
  ways : listed form.ops form.paths

-- the fills are taken, and the script has the form's opcodes and ways
pub taken : (own pieces : List Piece) (fills : List Fill) (form : CheckedScript) → own ≡ pieces → IsFilledTo pieces fills form → are_taken own fills ≡ true
taken own pieces fills form e f = ap (λ p. are_taken p fills) e ∙ ap is_some f.ops

same_ways : {E : Type 0} (r : Result (List Path) E) (ways paths : List Path) → r ≡ Ok ways → r ≡ Ok paths → paths ≡ ways
same_ways r ways paths e g = cc

pub built : {E : Type 0} (r : Result CheckedScript E) (own pieces : List Piece) (fills : List Fill) (form : CheckedScript) → own ≡ pieces → IsFilledTo pieces fills form → IfOk r (IsListedAs (filled own fills)) → IfOk r (λ c. c ≡ form)
built (Ok c) own pieces fills form e f h =
    let g : IsListedAs (Some form.ops) c = subst (λ o. IsListedAs o c) (ap (λ p. filled p fills) e ∙ f.ops) h in
    ap (λ o. record { ops = o; paths = c.paths }) g.0 ∙ ap (λ p. record { ops = form.ops; paths = p }) (same_ways (listing form.ops) form.paths c.paths f.ways g.1)
built (Err x) own pieces fills form e f h = tt

offered_filled : (r remote local p : List ℕ) → hash r → hash p → key remote → key local → IsFilledTo offered_with_anchors_pieces (Hash r ∷ Key remote ∷ Key local ∷ Hash p ∷ []) (offered_with_anchors_form r remote local p)
unfolding fits number_push minimal_bytes_of digits
offered_filled r remote local p m n k l =
    let e : filled offered_with_anchors_pieces (Hash r ∷ Key remote ∷ Key local ∷ Hash p ∷ []) ≡ Some (offered_with_anchors r remote local p) = rw (m, k, l, n) refl in
    record { ops = e; ways = filled_listed offered_with_anchors_pieces offered_pattern (Hash r ∷ Key remote ∷ Key local ∷ Hash p ∷ []) (offered_with_anchors r remote local p) offered_is e ∙ ap Ok (offered_ways_are r remote local p m n k l) }

-- the push of a preimage's size
size_pushed : number_push 32 ≡ Push (32 ∷ [])
unfolding number_push minimal_bytes_of digits
size_pushed = refl

low : (n : ℕ) → n < LOCKTIME_THRESHOLD → nat_lt n LOCKTIME_THRESHOLD ≡ true
low n h = lt-ltb n LOCKTIME_THRESHOLD h

received_filled : (r remote local p : List ℕ) (expiry_height : ℕ) → hash r → hash p → key remote → key local → expiry_height < LOCKTIME_THRESHOLD
    → IsFilledTo received_with_anchors_pieces (Hash r ∷ Key remote ∷ Hash p ∷ Key local ∷ Num expiry_height ∷ []) (received_with_anchors_form r remote local p expiry_height)
unfolding fits
received_filled r remote local p expiry_height m n k l h =
    let o = low expiry_height h in
    let e : filled received_with_anchors_pieces (Hash r ∷ Key remote ∷ Hash p ∷ Key local ∷ Num expiry_height ∷ []) ≡ Some (received_with_anchors r remote local p expiry_height) =
    let s = size_pushed in let q = pushed_alike expiry_height in rw (m, k, n, l, o, q, s) refl in
    record {
      ops = e;
      ways = filled_listed received_with_anchors_pieces received_pattern (Hash r ∷ Key remote ∷ Hash p ∷ Key local ∷ Num expiry_height ∷ []) (received_with_anchors r remote local p expiry_height) received_is e ∙ ap Ok (received_ways_are r remote local p expiry_height (omega (arith, h)) m n k l o);
    }

-- the same of hashes that were computed
pub offered_at : (r revocation remote local p payment : List ℕ) → r ≡ hash160 revocation → p ≡ ripemd160 payment → key remote → key local
    → IsFilledTo offered_with_anchors_pieces (Hash r ∷ Key remote ∷ Key local ∷ Hash p ∷ []) (offered_with_anchors_form (hash160 revocation) remote local (ripemd160 payment))
offered_at r revocation remote local p payment e f k l =
    let form = offered_with_anchors_form (hash160 revocation) remote local (ripemd160 payment) in
    subst (λ x. IsFilledTo offered_with_anchors_pieces (Hash x ∷ Key remote ∷ Key local ∷ Hash p ∷ []) form) (sym e) (
    subst (λ y. IsFilledTo offered_with_anchors_pieces (Hash (hash160 revocation) ∷ Key remote ∷ Key local ∷ Hash y ∷ []) form) (sym f) (
    offered_filled (hash160 revocation) remote local (ripemd160 payment) (length-ripemd160 _) (length-ripemd160 _) k l))

pub received_at : (r revocation remote local p payment : List ℕ) (expiry_height : ℕ) → r ≡ hash160 revocation → p ≡ ripemd160 payment → key remote → key local → expiry_height < LOCKTIME_THRESHOLD
    → IsFilledTo received_with_anchors_pieces (Hash r ∷ Key remote ∷ Hash p ∷ Key local ∷ Num expiry_height ∷ []) (received_with_anchors_form (hash160 revocation) remote local (ripemd160 payment) expiry_height)
received_at r revocation remote local p payment expiry_height e f k l h =
    let form = received_with_anchors_form (hash160 revocation) remote local (ripemd160 payment) expiry_height in
    subst (λ x. IsFilledTo received_with_anchors_pieces (Hash x ∷ Key remote ∷ Hash p ∷ Key local ∷ Num expiry_height ∷ []) form) (sym e) (
    subst (λ y. IsFilledTo received_with_anchors_pieces (Hash (hash160 revocation) ∷ Key remote ∷ Hash y ∷ Key local ∷ Num expiry_height ∷ []) form) (sym f) (
    received_filled (hash160 revocation) remote local (ripemd160 payment) expiry_height (length-ripemd160 _) (length-ripemd160 _) k l h))

-- each pattern's ways are listed
pub offered_is_listed : is_listed offered_with_anchors_pieces ≡ true
offered_is_listed = ap is_ok offered_is

pub received_is_listed : is_listed received_with_anchors_pieces ≡ true
received_is_listed = ap is_ok received_is
