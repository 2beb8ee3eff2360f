-- What a program and the witness of a claim give to be run.
use Rattle.std.proofs.Common.{◌≡◌, ℕ, true, false, List, [], ◌∷◌, ◌++◌, length, drop, reverse, Some, sym, ap, subst, refl, arith, ⊎_elim, eq-eqb, ne_eqb}
use Rattle.std.specs.Str.{bytes_eq}
use Rattle.std.proofs.lemmas.Bool.{and_parts, and_from, and_left, and_right, or_cases, eqb-true}
use Rattle.std.proofs.lemmas.Slice.Eq.{bytes_eq-Decides}
use Rattle.std.proofs.lemmas.List.{reverse-append, reverse-reverse}
use Rattle.sha2.specs.Sha256.{sha256}
use Rattle.sha2.proofs.Facts256.{length-sha256}
use Rattle.sighash.specs.Programs.{script_hash_program, is_key_hash_program, is_script_hash_program, key_hash_script, given_by_hash, given_of}
use Rattle.claim.specs.Judgement.{is_key_program, is_program}
use Rattle.claim.specs.Fitting.{witness_for}

by_hash : (hash script : List ℕ) (items : List (List ℕ)) → sha256 script ≡ hash → given_by_hash hash (reverse (items ++ script ∷ [])) ≡ Some (record { script = script; items = items })
by_hash hash script items e =
    rw (reverse-append items (script ∷ []), (bytes_eq-Decides (sha256 script) hash).1 e, reverse-reverse items) refl

of_script : (hash script : List ℕ) (items : List (List ℕ)) → sha256 script ≡ hash → length hash ≡ 32 → given_of (0x00 ∷ 0x20 ∷ hash) (witness_for (0x00 ∷ 0x20 ∷ hash) script items) ≡ Some (record { script = script; items = items })
unfolding given_of
of_script hash script items e l =
    let no : is_key_hash_program (0x00 ∷ 0x20 ∷ hash) ≡ false = and_right _ _ refl in
    let yes : is_script_hash_program (0x00 ∷ 0x20 ∷ hash) ≡ true = and_from _ _ (eq-eqb _ _ (omega (arith, l))) refl in
    rw (no, yes) (by_hash hash script items e)

of_key : (program script : List ℕ) (items : List (List ℕ)) → is_key_program script program ≡ true → length items ≡ 2 → given_of program (witness_for program script items) ≡ Some (record { script = script; items = items })
unfolding given_of
of_key program script items e l =
    let w = and_parts _ _ e in
    let long : length program ≡ 22 = eqb-true _ _ (and_parts _ _ w.0).0 in
    let no : is_script_hash_program program ≡ false = and_left _ _ (ne_eqb (length program) 34 (λ z. omega arith)) in
    let same : script ≡ key_hash_script (drop 2 program) = (bytes_eq-Decides _ _).0 w.1 in
    rw (no, w.0, eq-eqb (length items) 2 l) (ap (λ s. Some (record { script = s; items = items })) (sym same))

-- the script and the items, where an accepted program is the hash of a key, and then the items are two, or of the script
pub given : (program script : List ℕ) (items : List (List ℕ)) → is_program script program ≡ true → (is_key_program script program ≡ true → length items ≡ 2) → given_of program (witness_for program script items) ≡ Some (record { script = script; items = items })
unfolding script_hash_program
given program script items e two =
    ⊎_elim
    (λ h. let same : program ≡ script_hash_program script = (bytes_eq-Decides _ _).0 h in
    subst (λ q. given_of q (witness_for q script items) ≡ Some (record { script = script; items = items })) (sym same) (of_script (sha256 script) script items refl (length-sha256 script)))
    (λ h. of_key program script items h (two h))
    (or_cases (bytes_eq program (script_hash_program script)) (is_key_program script program) e)
