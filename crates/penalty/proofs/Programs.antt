-- The programs of a commitment's outputs stand for the scripts of the forms.
use Rattle.std.proofs.Common.{◌≡◌, ℕ, true, List, ◌∷◌, length, refl, ap, ◌∙◌}
use Rattle.std.specs.Str.{bytes_eq}
use Rattle.std.proofs.lemmas.Bool.{or_left, or_right}
use Rattle.std.proofs.lemmas.Slice.Eq.{bytes_eq-Decides}
use Rattle.digest.specs.Hash.{hash160}
use Rattle.digest.proofs.OutsideVectors.{length-ripemd160}
use Rattle.script.specs.Spelling.{spelling}
use Rattle.terms.specs.declared.htlcs.Htlc.{Htlc}
use Rattle.commit.specs.declared.fees.Direction.{Direction}
use Rattle.commit.specs.declared.fees.Direction.TheVariants.{Offered, Received}
use Rattle.paths.specs.Listing.{CheckedScript}
use Rattle.commit.specs.Keys.{KeyBytes}
use Rattle.commit.specs.Commitments.{Contents}
use Rattle.forms.specs.Forms.{to_local_form, key_hash_form}
use Rattle.sighash.specs.Programs.{script_hash_program, key_hash_program, key_hash_script}
use Rattle.commit.specs.Outputs.{to_local_script, htlc_script}
use Rattle.terms.specs.Scripts.{to_local, key_hash}
use Rattle.claim.specs.Judgement.{is_key_program, is_program}
use Rattle.penalty.specs.Claimable.{htlc_form}

same_bytes : (xs : List ℕ) → bytes_eq xs xs ≡ true
same_bytes xs = (bytes_eq-Decides xs xs).1 refl

-- a program that is the hash of the script
by_hash : (script bytes : List ℕ) → bytes ≡ script → is_program script (script_hash_program bytes) ≡ true
by_hash script bytes e = rw e (or_left _ _ (same_bytes (script_hash_program script)))

same_to_local : (delay_blocks : ℕ) (k : KeyBytes) → to_local_script delay_blocks k ≡ spelling (to_local k.revocation delay_blocks k.delayed)
unfolding to_local_script
same_to_local delay_blocks k = refl

pub to_local_program : (delay_blocks : ℕ) (k : KeyBytes) → is_program (spelling (to_local k.revocation delay_blocks k.delayed)) (script_hash_program (to_local_script delay_blocks k)) ≡ true
to_local_program delay_blocks k = by_hash _ _ (same_to_local delay_blocks k)

pub same_htlc : (k : KeyBytes) (direction : Direction) (h : Htlc) → htlc_script k direction h ≡ spelling (htlc_form k direction h).ops
unfolding htlc_script
same_htlc k Offered h = refl
same_htlc k Received h = refl

pub htlc_program : (k : KeyBytes) (direction : Direction) (h : Htlc) → is_program (spelling (htlc_form k direction h).ops) (script_hash_program (htlc_script k direction h)) ≡ true
htlc_program k direction h = by_hash _ _ (same_htlc k direction h)

pub key_program : (key : List ℕ) → is_program (spelling (key_hash (hash160 key))) (key_hash_program key) ≡ true
unfolding key_hash_program
key_program key =
    let l : length (hash160 key) ≡ 20 = length-ripemd160 _ in
    let e : is_key_program (spelling (key_hash (hash160 key))) (0x00 ∷ 0x14 ∷ hash160 key) ≡ true = rw (l, same_bytes (key_hash_script (hash160 key))) refl in
    or_right (bytes_eq (0x00 ∷ 0x14 ∷ hash160 key) (script_hash_program (spelling (key_hash (hash160 key))))) (is_key_program (spelling (key_hash (hash160 key))) (0x00 ∷ 0x14 ∷ hash160 key)) e

-- of a script that was built, on the output that stands for it
pub on_to_local : (c : Contents) (checked : CheckedScript) (program : List ℕ) → checked ≡ to_local_form c.keys.revocation c.delay_blocks c.keys.delayed
    → program ≡ script_hash_program (to_local_script c.delay_blocks c.keys) → is_program (spelling checked.ops) program ≡ true
on_to_local c checked program e f = ap (λ (x : CheckedScript). is_program (spelling x.ops) program) e ∙ ap (is_program (spelling (to_local c.keys.revocation c.delay_blocks c.keys.delayed))) f ∙ to_local_program c.delay_blocks c.keys

pub on_htlc : (c : Contents) (k : KeyBytes) (direction : Direction) (h : Htlc) (checked : CheckedScript) (program : List ℕ) → k ≡ c.keys → checked ≡ htlc_form k direction h
    → program ≡ script_hash_program (htlc_script c.keys direction h) → is_program (spelling checked.ops) program ≡ true
on_htlc c k direction h checked program g e f =
    ap (λ (x : CheckedScript). is_program (spelling x.ops) program) (e ∙ ap (λ (b : KeyBytes). htlc_form b direction h) g)
    ∙ ap (is_program (spelling (htlc_form c.keys direction h).ops)) f ∙ htlc_program c.keys direction h

pub on_key : (c : Contents) (key : List ℕ) (checked : CheckedScript) (program : List ℕ) → key ≡ c.keys.remote → checked ≡ key_hash_form (hash160 key)
    → program ≡ key_hash_program c.keys.remote → is_program (spelling checked.ops) program ≡ true
on_key c key checked program g e f =
    ap (λ (x : CheckedScript). is_program (spelling x.ops) program) (e ∙ ap (λ k. key_hash_form (hash160 k)) g)
    ∙ ap (is_program (spelling (key_hash (hash160 c.keys.remote)))) f ∙ key_program c.keys.remote
