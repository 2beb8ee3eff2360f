-- Two scripts of a commitment that have one program are one script, or SHA-256 collides on them.
use Rattle.std.proofs.Common.{◌++◌, ◌≡◌, ℕ, ◌+◌, ◌-◌, ◌^◌, ◌<◌, Bool, true, false, leb, List, [], ◌∷◌, length, take, drop, Option, Some, None, refl, sym, ap, ◌∙◌, inl, inr, append_assoc, arith}
use Rattle.std.specs.Prelude.{◌⊎◌, if◌then◌else◌}
use Rattle.std.specs.Str.{bytes_eq}
use Rattle.std.proofs.Math.Seq.{take-append_seam, drop-append_seam}
use Rattle.std.proofs.lemmas.Bool.{le-leb, lt-leb}
use Rattle.std.proofs.lemmas.List.{append_cancel_left, append_cancel_right}
use Rattle.std.proofs.lemmas.Slice.Eq.{bytes_eq-Decides}
use Rattle.sha2.specs.Sha256.{sha256}
use Rattle.digest.specs.Hash.{hash160, Collide}
use Rattle.digest.specs.Ripemd160.{ripemd160}
use Rattle.digest.proofs.OutsideVectors.{length-ripemd160}
use Rattle.script.specs.declared.opcode.Op.{Op}
use Rattle.script.specs.declared.opcode.Op.TheVariants.{Push, Number, If, NotIf, Else, EndIf, Drop, Dup, Swap, Size, Equal, EqualVerify, Hash160, CheckSig, CheckMultiSig, CheckLockTimeVerify, CheckSequenceVerify}
use Rattle.script.specs.declared.num.Number.{Number as Signed}
use Rattle.script.specs.Number.{number_of}
use Rattle.script.specs.Spelling.{spelling, code_of, payload_of}
use Rattle.sighash.specs.Programs.{script_hash_program, key_hash_program}
use Rattle.terms.specs.Scripts.{number_push}
use Rattle.paths.specs.Listing.{CheckedScript}
use Rattle.anchor_forms.specs.declared.channel_types.ChannelType.{ChannelType}
use Rattle.anchor_forms.specs.declared.channel_types.ChannelType.TheVariants.{StaticRemoteKey, Anchors}
use Rattle.anchor_forms.specs.Forms.{offered_form_in, received_form_in}
use Rattle.forms.proofs.Pushes.{signed, by_push}
use Rattle.commit.specs.declared.fees.Direction.{Direction}
use Rattle.commit.specs.declared.fees.Direction.TheVariants.{Offered, Received}
use Rattle.commit.specs.Keys.{KeyBytes}
use Rattle.revoked.specs.declared.outputs.RevokedOutput.TheVariants.{ToLocal, ToRemote, ToHtlc}
use Rattle.revoked.specs.Programs.{form_by, form_of_htlc, known_form}
use Rattle.revoked.specs.Telling.{SharingCollides}

abbrev first_byte : List ℕ → ℕ
first_byte [] = 0
first_byte (b ∷ bs) = b

abbrev second_byte : List ℕ → ℕ
second_byte [] = 0
second_byte (b ∷ bs) = first_byte bs

spelt : (xs ys : List Op) → spelling (xs ++ ys) ≡ spelling xs ++ spelling ys
spelt [] ys = refl
spelt (x ∷ xs) ys =
    ap (λ zs. code_of x ∷ (payload_of x ++ zs)) (spelt xs ys)
    ∙ ap (λ zs. code_of x ∷ zs) (sym (append_assoc (payload_of x) (spelling xs) (spelling ys)))

-- scripts that begin alike go on alike
after : (xs ys zs : List Op) → spelling (xs ++ ys) ≡ spelling (xs ++ zs) → spelling ys ≡ spelling zs
after xs ys zs e = append_cancel_left (spelling xs) (spelling ys) (spelling zs) (sym (spelt xs ys) ∙ e ∙ spelt xs zs)

-- and so do they after pushes of one length, which push the same
same_push : (p q : List ℕ) (xs ys : List Op) → length p ≡ length q → spelling (Push p ∷ xs) ≡ spelling (Push q ∷ ys) → (p ≡ q) × (spelling xs ≡ spelling ys)
same_push p q xs ys l e =
    let f : p ++ spelling xs ≡ q ++ spelling ys = cc in (
      sym (take-append_seam p (spelling xs)) ∙ ap (take (length p)) f ∙ ap (λ n. take n (q ++ spelling ys)) l ∙ take-append_seam q (spelling ys),
      sym (drop-append_seam p (spelling xs)) ∙ ap (drop (length p)) f ∙ ap (λ n. drop n (q ++ spelling ys)) l ∙ drop-append_seam q (spelling ys),
    )

-- the number that is pushed by an opcode with this byte and what follows it
value : ℕ → List ℕ → Option Signed
value code payload = if leb code 75 then number_of 5 payload else signed (code - 80)

value_of : (n : ℕ) → n < 2 ^ 32 → value (code_of (number_push n)) (payload_of (number_push n)) ≡ signed n
unfolding value
value_of n l = by_push (λ op. value (code_of op) (payload_of op) ≡ signed n) n l
    (λ b short e. ap (λ t. if t then number_of 5 b else signed (length b - 80)) (le-leb (length b) 75 (omega (arith, short))) ∙ e)
    (λ p q e. ap (λ t. if t then number_of 5 [] else signed (80 + n - 80)) (lt-leb (80 + n) 75 (omega arith)) ∙ (let z : 80 + n - 80 ≡ n = omega arith in ap signed z))

magnitude : Option Signed → ℕ
magnitude None = 0
magnitude (Some s) = s.magnitude

same_signed : (n m : ℕ) → signed n ≡ signed m → n ≡ m
unfolding magnitude
same_signed n m e = ap magnitude e

same_number : (n m : ℕ) (rest : List Op) → n < 2 ^ 32 → m < 2 ^ 32 → spelling (number_push n ∷ rest) ≡ spelling (number_push m ∷ rest) → n ≡ m
same_number n m rest k l e =
    let c : code_of (number_push n) ≡ code_of (number_push m) = cc in
    let f : payload_of (number_push n) ++ spelling rest ≡ payload_of (number_push m) ++ spelling rest = cc in
    let p = append_cancel_right (payload_of (number_push n)) (payload_of (number_push m)) (spelling rest) f in
    same_signed n m (sym (value_of n k) ∙ ap (λ b. value b (payload_of (number_push n))) c ∙ ap (value (code_of (number_push m))) p ∙ value_of m l)

-- ---- the scripts of HTLCs, up to what differs

abbrev start : List ℕ → List ℕ → List Op
start hash remote = Dup ∷ Hash160 ∷ Push hash ∷ Equal ∷ If ∷ CheckSig ∷ Else ∷ Push remote ∷ Swap ∷ Size ∷ number_push 32 ∷ Equal ∷ []

abbrev offered_start : List ℕ → List ℕ → List ℕ → List Op
offered_start hash remote local = start hash remote ++ (NotIf ∷ Drop ∷ Number 2 ∷ Swap ∷ Push local ∷ Number 2 ∷ CheckMultiSig ∷ Else ∷ Hash160 ∷ [])

-- how both directions end, by the type of the channel
abbrev ending : ChannelType → List Op
ending StaticRemoteKey = EndIf ∷ EndIf ∷ []
ending Anchors = EndIf ∷ Number 1 ∷ CheckSequenceVerify ∷ Drop ∷ EndIf ∷ []

abbrev offered_end : ChannelType → List Op
offered_end t = EqualVerify ∷ CheckSig ∷ ending t

abbrev received_start : List ℕ → List ℕ → List Op
received_start hash remote = start hash remote ++ (If ∷ Hash160 ∷ [])

abbrev received_middle : List ℕ → List Op
received_middle local = EqualVerify ∷ Number 2 ∷ Swap ∷ Push local ∷ Number 2 ∷ CheckMultiSig ∷ Else ∷ Drop ∷ []

abbrev received_end : ChannelType → List Op
received_end t = CheckLockTimeVerify ∷ Drop ∷ CheckSig ∷ ending t

abbrev received_rest : ChannelType → List ℕ → ℕ → List Op
received_rest t local n = received_middle local ++ (number_push n ∷ received_end t)

-- the spelled scripts, by these parts
spelt_offered : (t : ChannelType) (hash remote local p : List ℕ) → spelling (offered_form_in t hash remote local p).ops ≡ spelling (offered_start hash remote local ++ (Push p ∷ offered_end t))
spelt_offered StaticRemoteKey hash remote local p = refl
spelt_offered Anchors hash remote local p = refl

spelt_received : (t : ChannelType) (hash remote local p : List ℕ) (n : ℕ) → spelling (received_form_in t hash remote local p n).ops ≡ spelling (received_start hash remote ++ (Push p ∷ received_rest t local n))
spelt_received StaticRemoteKey hash remote local p n = refl
spelt_received Anchors hash remote local p n = refl

two_offered : (t : ChannelType) (hash remote local p q : List ℕ) → length p ≡ length q → spelling (offered_start hash remote local ++ (Push p ∷ offered_end t)) ≡ spelling (offered_start hash remote local ++ (Push q ∷ offered_end t)) → p ≡ q
two_offered t hash remote local p q l e = (same_push p q (offered_end t) (offered_end t) l (after (offered_start hash remote local) (Push p ∷ offered_end t) (Push q ∷ offered_end t) e)).0

two_received : (t : ChannelType) (hash remote local p q : List ℕ) (n m : ℕ) → length p ≡ length q → n < 2 ^ 32 → m < 2 ^ 32
    → spelling (received_start hash remote ++ (Push p ∷ received_rest t local n)) ≡ spelling (received_start hash remote ++ (Push q ∷ received_rest t local m)) → (p ≡ q) × (n ≡ m)
two_received t hash remote local p q n m l a b e =
    let c = same_push p q (received_rest t local n) (received_rest t local m) l (after (received_start hash remote) (Push p ∷ received_rest t local n) (Push q ∷ received_rest t local m) e) in
    (c.0, same_number n m (received_end t) a b (after (received_middle local) (number_push n ∷ received_end t) (number_push m ∷ received_end t) c.1))

if_notif : (t : ChannelType) (hash remote local p q : List ℕ) (n : ℕ) → spelling (offered_start hash remote local ++ (Push p ∷ offered_end t)) ≡ spelling (received_start hash remote ++ (Push q ∷ received_rest t local n)) → ⊥
if_notif t hash remote local p q n e =
    let offers : List Op = Drop ∷ Number 2 ∷ Swap ∷ Push local ∷ Number 2 ∷ CheckMultiSig ∷ Else ∷ Hash160 ∷ Push p ∷ offered_end t in
    let receives : List Op = Hash160 ∷ Push q ∷ received_rest t local n in
    let f : 0x64 ≡ 0x63 = ap first_byte (after (start hash remote) (NotIf ∷ offers) (If ∷ receives) e) in omega (arith, f)

hashes_alike : (a b : List ℕ) → length (ripemd160 a) ≡ length (ripemd160 b)
hashes_alike a b = length-ripemd160 a ∙ sym (length-ripemd160 b)

-- HTLCs of one commitment with one script have one form
one_form : (t : ChannelType) (k : KeyBytes) (d e : Direction) (g h : List ℕ) (n m : ℕ) → n < 2 ^ 32 → m < 2 ^ 32 → spelling (form_by t k d g n).ops ≡ spelling (form_by t k e h m).ops → form_by t k d g n ≡ form_by t k e h m
one_form t k Offered Offered g h n m a b s =
    let f = spelt_offered t (hash160 k.revocation) k.remote_htlc k.local_htlc in
    ap (offered_form_in t (hash160 k.revocation) k.remote_htlc k.local_htlc)
    (two_offered t (hash160 k.revocation) k.remote_htlc k.local_htlc (ripemd160 g) (ripemd160 h) (hashes_alike g h) (sym (f (ripemd160 g)) ∙ s ∙ f (ripemd160 h)))
one_form t k Received Received g h n m a b s =
    let f = spelt_received t (hash160 k.revocation) k.remote_htlc k.local_htlc in
    let c = two_received t (hash160 k.revocation) k.remote_htlc k.local_htlc (ripemd160 g) (ripemd160 h) n m (hashes_alike g h) a b (sym (f (ripemd160 g) n) ∙ s ∙ f (ripemd160 h) m) in
    ap (λ p. received_form_in t (hash160 k.revocation) k.remote_htlc k.local_htlc p n) c.0 ∙ ap (received_form_in t (hash160 k.revocation) k.remote_htlc k.local_htlc (ripemd160 h)) c.1
one_form t k Offered Received g h n m a b s =
    absurd (if_notif t (hash160 k.revocation) k.remote_htlc k.local_htlc (ripemd160 g) (ripemd160 h) m
    (sym (spelt_offered t (hash160 k.revocation) k.remote_htlc k.local_htlc (ripemd160 g)) ∙ s ∙ spelt_received t (hash160 k.revocation) k.remote_htlc k.local_htlc (ripemd160 h) m))
one_form t k Received Offered g h n m a b s =
    absurd (if_notif t (hash160 k.revocation) k.remote_htlc k.local_htlc (ripemd160 h) (ripemd160 g) n
    (sym (spelt_offered t (hash160 k.revocation) k.remote_htlc k.local_htlc (ripemd160 h)) ∙ sym s ∙ spelt_received t (hash160 k.revocation) k.remote_htlc k.local_htlc (ripemd160 g) n))

-- ---- programs

-- two forms with one program are one, if they are where their scripts are; or their scripts collide
one_or_collide : (f g : CheckedScript) → (spelling f.ops ≡ spelling g.ops → f ≡ g) → script_hash_program (spelling f.ops) ≡ script_hash_program (spelling g.ops)
    → (f ≡ g) ⊎ Collide sha256 (spelling f.ops) (spelling g.ops)
unfolding script_hash_program
one_or_collide f g same e = at (bytes_eq (spelling f.ops) (spelling g.ops)) refl
  where
    hashes : sha256 (spelling f.ops) ≡ sha256 (spelling g.ops)
    hashes = cc

    at : (t : Bool) → bytes_eq (spelling f.ops) (spelling g.ops) ≡ t → (f ≡ g) ⊎ Collide sha256 (spelling f.ops) (spelling g.ops)
    at true t = inl (same ((bytes_eq-Decides (spelling f.ops) (spelling g.ops)).0 t))
    at false t = inr ((λ s. let u : true ≡ false = sym ((bytes_eq-Decides (spelling f.ops) (spelling g.ops)).1 s) ∙ t in absurd (cc)), hashes)

lengths_differ : (script key : List ℕ) → script_hash_program script ≡ key_hash_program key → ⊥
unfolding script_hash_program key_hash_program
lengths_differ script key e = let f : 0x20 ≡ 0x14 = ap second_byte e in omega (arith, f)

begins : (t : ChannelType) (k : KeyBytes) (d : Direction) (hash : List ℕ) (n : ℕ) → first_byte (spelling (form_by t k d hash n).ops) ≡ 0x76
begins StaticRemoteKey k Offered hash n = refl
begins StaticRemoteKey k Received hash n = refl
begins Anchors k Offered hash n = refl
begins Anchors k Received hash n = refl

begin_apart : (f g : CheckedScript) → first_byte (spelling f.ops) ≡ 0x63 → first_byte (spelling g.ops) ≡ 0x76 → spelling f.ops ≡ spelling g.ops → f ≡ g
begin_apart f g a b e = let c : 0x63 ≡ 0x76 = sym a ∙ ap first_byte e ∙ b in absurd (omega (arith, c))

pub sharing : SharingCollides
sharing r ToLocal ToLocal e = inl refl
sharing r ToRemote ToRemote e = inl refl
sharing r ToLocal ToRemote e = absurd (lengths_differ _ _ e)
sharing r ToRemote ToLocal e = absurd (lengths_differ _ _ (sym e))
sharing r ToRemote (ToHtlc h) e = absurd (lengths_differ _ _ (sym e))
sharing r (ToHtlc h) ToRemote e = absurd (lengths_differ _ _ e)
sharing r ToLocal (ToHtlc h) e =
    one_or_collide (known_form r ToLocal) (form_of_htlc r.channel_type r.keys h) (begin_apart (known_form r ToLocal) (form_of_htlc r.channel_type r.keys h) refl (begins r.channel_type r.keys h.direction h.hash h.expiry.height)) e
sharing r (ToHtlc h) ToLocal e =
    one_or_collide (form_of_htlc r.channel_type r.keys h) (known_form r ToLocal)
    (λ s. sym (begin_apart (known_form r ToLocal) (form_of_htlc r.channel_type r.keys h) refl (begins r.channel_type r.keys h.direction h.hash h.expiry.height) (sym s))) e
sharing r (ToHtlc g) (ToHtlc h) e =
    let low_g = g.expiry.low in let low_h = h.expiry.low in
    one_or_collide (form_of_htlc r.channel_type r.keys g) (form_of_htlc r.channel_type r.keys h)
    (one_form r.channel_type r.keys g.direction h.direction g.hash h.hash g.expiry.height h.expiry.height (omega (arith, low_g)) (omega (arith, low_h))) e
