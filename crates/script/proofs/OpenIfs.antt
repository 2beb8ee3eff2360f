-- Open IFs: what the flags of the function say of the list.
use Rattle.std.proofs.Common.{◌≡◌, Bool, true, false, List, [], ◌∷◌, ◌++◌, sym, ap, ◌∙◌, refl, append_assoc, true≢false, Result, Ok, Err}
use Rattle.std.specs.Prelude.{IsTrue}
use Rattle.script.specs.declared.opcode.Op.{Op}
use Rattle.script.specs.declared.opcode.Op.TheVariants.{Push, Number, If, NotIf, Else, EndIf, Drop, Dup, Swap, Size, Equal, EqualVerify, Hash160, CheckSig, CheckMultiSig, CheckLockTimeVerify, CheckSequenceVerify}
use Rattle.script.specs.declared.stops.Cause.{Cause}
use Rattle.script.specs.declared.stops.Cause.TheVariants.{OpenBranch}
use Rattle.script.specs.Step.{◌>>=◌}
use Rattle.script.specs.Run.{open_ifs_after}
use Rattle.script.specs.Clean.{is_opener, is_single, IsBlock, no_more, one_more, an_else, a_branch, HasOpen, MayFollow}
use Rattle.script.proofs.Blocks.{Sort, opening, elsing, ending, single, sort_of}

-- the flags after a list
abbrev pub flags : List Op → List Bool → Result (List Bool) Cause
flags [] ifs = Ok ifs
flags (op ∷ ops) ifs = open_ifs_after op ifs >>= flags ops

pub bind_ok : {A B E : Type 0} (r : Result A E) (f : A → Result B E) (y : B) → (r >>= f) ≡ Ok y → (x : A) × (r ≡ Ok x) × (f x ≡ Ok y)
bind_ok (Ok x) f y e = (x, refl, e)
bind_ok (Err c) f y e = absurd (cc)

flags_later : (xs ys : List Op) (r : Result (List Bool) Cause) → ((ifs : List Bool) → flags (xs ++ ys) ifs ≡ (flags xs ifs >>= flags ys)) → (r >>= flags (xs ++ ys)) ≡ ((r >>= flags xs) >>= flags ys)
flags_later xs ys (Ok ifs) h = h ifs
flags_later xs ys (Err c) h = refl

pub flags-append : (xs ys : List Op) (ifs : List Bool) → flags (xs ++ ys) ifs ≡ (flags xs ifs >>= flags ys)
flags-append [] ys ifs = refl
flags-append (x ∷ xs) ys ifs = flags_later xs ys (open_ifs_after x ifs) (flags-append xs ys)

pub opens_single : (op : Op) (ifs : List Bool) → IsTrue (is_single op) → open_ifs_after op ifs ≡ Ok ifs
opens_single (Push item) ifs h = refl
opens_single (Number n) ifs h = refl
opens_single If ifs h = absurd (true≢false (sym h))
opens_single NotIf ifs h = absurd (true≢false (sym h))
opens_single Else ifs h = absurd (true≢false (sym h))
opens_single EndIf ifs h = absurd (true≢false (sym h))
opens_single Drop ifs h = refl
opens_single Dup ifs h = refl
opens_single Swap ifs h = refl
opens_single Size ifs h = refl
opens_single Equal ifs h = refl
opens_single EqualVerify ifs h = refl
opens_single Hash160 ifs h = refl
opens_single CheckSig ifs h = refl
opens_single CheckMultiSig ifs h = refl
opens_single CheckLockTimeVerify ifs h = refl
opens_single CheckSequenceVerify ifs h = refl

pub opens_opener : (op : Op) (ifs : List Bool) → IsTrue (is_opener op) → open_ifs_after op ifs ≡ Ok (false ∷ ifs)
opens_opener (Push item) ifs h = absurd (true≢false (sym h))
opens_opener (Number n) ifs h = absurd (true≢false (sym h))
opens_opener If ifs h = refl
opens_opener NotIf ifs h = refl
opens_opener Else ifs h = absurd (true≢false (sym h))
opens_opener EndIf ifs h = absurd (true≢false (sym h))
opens_opener Drop ifs h = absurd (true≢false (sym h))
opens_opener Dup ifs h = absurd (true≢false (sym h))
opens_opener Swap ifs h = absurd (true≢false (sym h))
opens_opener Size ifs h = absurd (true≢false (sym h))
opens_opener Equal ifs h = absurd (true≢false (sym h))
opens_opener EqualVerify ifs h = absurd (true≢false (sym h))
opens_opener Hash160 ifs h = absurd (true≢false (sym h))
opens_opener CheckSig ifs h = absurd (true≢false (sym h))
opens_opener CheckMultiSig ifs h = absurd (true≢false (sym h))
opens_opener CheckLockTimeVerify ifs h = absurd (true≢false (sym h))
opens_opener CheckSequenceVerify ifs h = absurd (true≢false (sym h))

may_follow_single : (before : List Op) (op : Op) → IsTrue (is_single op) → MayFollow before op
may_follow_single before (Push item) h = tt
may_follow_single before (Number n) h = tt
may_follow_single before If h = absurd (true≢false (sym h))
may_follow_single before NotIf h = absurd (true≢false (sym h))
may_follow_single before Else h = absurd (true≢false (sym h))
may_follow_single before EndIf h = absurd (true≢false (sym h))
may_follow_single before Drop h = tt
may_follow_single before Dup h = tt
may_follow_single before Swap h = tt
may_follow_single before Size h = tt
may_follow_single before Equal h = tt
may_follow_single before EqualVerify h = tt
may_follow_single before Hash160 h = tt
may_follow_single before CheckSig h = tt
may_follow_single before CheckMultiSig h = tt
may_follow_single before CheckLockTimeVerify h = tt
may_follow_single before CheckSequenceVerify h = tt

may_follow_opener : (before : List Op) (op : Op) → IsTrue (is_opener op) → MayFollow before op
may_follow_opener before (Push item) h = absurd (true≢false (sym h))
may_follow_opener before (Number n) h = absurd (true≢false (sym h))
may_follow_opener before If h = tt
may_follow_opener before NotIf h = tt
may_follow_opener before Else h = absurd (true≢false (sym h))
may_follow_opener before EndIf h = absurd (true≢false (sym h))
may_follow_opener before Drop h = absurd (true≢false (sym h))
may_follow_opener before Dup h = absurd (true≢false (sym h))
may_follow_opener before Swap h = absurd (true≢false (sym h))
may_follow_opener before Size h = absurd (true≢false (sym h))
may_follow_opener before Equal h = absurd (true≢false (sym h))
may_follow_opener before EqualVerify h = absurd (true≢false (sym h))
may_follow_opener before Hash160 h = absurd (true≢false (sym h))
may_follow_opener before CheckSig h = absurd (true≢false (sym h))
may_follow_opener before CheckMultiSig h = absurd (true≢false (sym h))
may_follow_opener before CheckLockTimeVerify h = absurd (true≢false (sym h))
may_follow_opener before CheckSequenceVerify h = absurd (true≢false (sym h))

-- a block keeps the flags, but for whether the innermost ELSE has come
abbrev pub Kept : Bool → List Bool → List Bool → Type 0
Kept false ifs ifs' = ifs' ≡ ifs
Kept true ifs ifs' = (b : Bool) (outer : List Bool) → ifs ≡ b ∷ outer → (b' : Bool) × (ifs' ≡ b' ∷ outer)

kept_refl : (elses : Bool) (ifs : List Bool) → Kept elses ifs ifs
kept_refl false ifs = refl
kept_refl true ifs = λ b outer e. (b, e)

kept_same : (elses : Bool) (ifs ifs' : List Bool) → ifs ≡ ifs' → Kept elses ifs ifs'
kept_same false ifs ifs' e = sym e
kept_same true ifs ifs' e = λ b outer f. (b, sym e ∙ f)

else_kept : (ifs more : List Bool) → open_ifs_after Else ifs ≡ Ok more → (b : Bool) (outer : List Bool) → ifs ≡ b ∷ outer → more ≡ true ∷ outer
else_kept [] more e b outer f = absurd (cc)
else_kept (false ∷ ifs) more e b outer f = cc
else_kept (true ∷ ifs) more e b outer f = absurd (cc)

end_kept : (ifs more : List Bool) (b : Bool) (outer : List Bool) → ifs ≡ b ∷ outer → open_ifs_after EndIf ifs ≡ Ok more → more ≡ outer
end_kept ifs more b outer f e = let g : open_ifs_after EndIf (b ∷ outer) ≡ Ok more = ap (open_ifs_after EndIf) (sym f) ∙ e in cc

kept_on : (elses : Bool) (block : List Op) → IsBlock elses block → (ifs ifs' : List Bool) → flags block ifs ≡ Ok ifs' → Kept elses ifs ifs'
kept_on elses block no_more ifs ifs' e = kept_same elses ifs ifs' (cc)
kept_on elses block (one_more {op = op} {rest = rest} h b) ifs ifs' e =
    kept_on elses rest b ifs ifs' (sym (ap (λ r. r >>= flags rest) (opens_single op ifs h)) ∙ e)
kept_on elses block (an_else {rest = rest} b) ifs ifs' e =
    let p = bind_ok (open_ifs_after Else ifs) (flags rest) ifs' e in
    λ b' outer f. kept_on true rest b p.0 ifs' p.2 true outer (else_kept ifs p.0 p.1 b' outer f)
kept_on elses block (a_branch {op = op} {inner = inner} {rest = rest} h b b') ifs ifs' e =
    let p = sym (ap (λ r. r >>= flags (inner ++ EndIf ∷ rest)) (opens_opener op ifs h)) ∙ e in
    let q = bind_ok (flags inner (false ∷ ifs)) (flags (EndIf ∷ rest)) ifs' (sym (flags-append inner (EndIf ∷ rest) (false ∷ ifs)) ∙ p) in
    let k = kept_on true inner b (false ∷ ifs) q.0 q.1 false ifs refl in
    let r = bind_ok (open_ifs_after EndIf q.0) (flags rest) ifs' q.2 in
    let s : r.0 ≡ ifs = end_kept q.0 r.0 k.0 ifs k.1 r.1 in
    kept_on elses rest b' ifs ifs' (ap (flags rest) (sym s) ∙ r.2)

-- what the flags say where an IF is open
abbrev pub IsOpen : Bool → List Bool → Type 0
IsOpen false ifs = (outer : List Bool) × (ifs ≡ false ∷ outer)
IsOpen true ifs = (b : Bool) × (outer : List Bool) × (ifs ≡ b ∷ outer)

open_from_kept : (elses : Bool) (ifs outer : List Bool) → Kept elses (false ∷ outer) ifs → IsOpen elses ifs
open_from_kept false ifs outer k = (outer, k)
open_from_kept true ifs outer k = let p = k false outer refl in (p.0, outer, p.1)

pub open_flags : (elses : Bool) (ops : List Op) (ifs : List Bool) → HasOpen elses ops → flags ops [] ≡ Ok ifs → IsOpen elses ifs
open_flags elses ops ifs o e =
    let p = sym (flags-append o.before (o.opener ∷ o.block) []) ∙ ap (λ xs. flags xs []) (sym o.same) ∙ e in
    let q = bind_ok (flags o.before []) (flags (o.opener ∷ o.block)) ifs p in
    let r = sym (ap (λ r. r >>= flags o.block) (opens_opener o.opener q.0 o.opens)) ∙ q.2 in
    open_from_kept elses ifs q.0 (kept_on elses o.block o.closed (false ∷ q.0) ifs r)

-- an opcode that the function refuses may not follow
pub record Refused (before : List Op) (op : Op) (c : Cause) : Type 0 where
  pub cause : c ≡ OpenBranch
  pub never : MayFollow before op → ⊥

refused_sort : (before : List Op) (op : Op) (ifs : List Bool) (c : Cause) → Sort op → flags before [] ≡ Ok ifs → open_ifs_after op ifs ≡ Err c → Refused before op c
refused_sort before op ifs c (opening h) e f = absurd (let g = opens_opener op ifs h in cc)
refused_sort before op [] c elsing e f = record { cause = cc; never = λ m. let o = open_flags false before [] m e in let g = o.1 in absurd (cc) }
refused_sort before op (false ∷ ifs) c elsing e f = absurd (cc)
refused_sort before op (true ∷ ifs) c elsing e f = record { cause = cc; never = λ m. let o = open_flags false before (true ∷ ifs) m e in let g = o.1 in absurd (cc) }
refused_sort before op [] c ending e f = record { cause = cc; never = λ m. let o = open_flags true before [] m e in let g = o.2 in absurd (cc) }
refused_sort before op (b ∷ ifs) c ending e f = absurd (cc)
refused_sort before op ifs c (single h) e f = absurd (let g = opens_single op ifs h in cc)

pub refused : (before : List Op) (op : Op) (ifs : List Bool) (c : Cause) → flags before [] ≡ Ok ifs → open_ifs_after op ifs ≡ Err c → Refused before op c
refused before op ifs c = refused_sort before op ifs c (sort_of op)

-- the flags as a nest of open IFs, the innermost first
pub record NestIn (elses : Bool) (P : List Op → Type 0) (ops : List Op) : Type 0 where
  pub before : List Op
  pub opener : Op
  pub block : List Op
  pub same : ops ≡ before ++ opener ∷ block
  pub opens : IsTrue (is_opener opener)
  pub closed : IsBlock elses block
  pub outer : P before

abbrev pub Nest : List Bool → List Op → Type 0
Nest [] ops = IsBlock false ops
Nest (b ∷ ifs) ops = NestIn b (Nest ifs) ops

block-append : (elses : Bool) (xs ys : List Op) → IsBlock elses xs → IsBlock elses ys → IsBlock elses (xs ++ ys)
block-append elses xs ys no_more c = c
block-append elses xs ys (one_more {rest = rest} h b) c = one_more h (block-append elses rest ys b c)
block-append elses xs ys (an_else {rest = rest} b) c = an_else (block-append true rest ys b c)
block-append elses xs ys (a_branch {op = op} {inner = inner} {rest = rest} h b b') c =
    rw (append_assoc inner (EndIf ∷ rest) ys) (a_branch h b (block-append elses rest ys b' c))

weaker : (elses : Bool) (xs : List Op) → IsBlock elses xs → IsBlock true xs
weaker elses xs no_more = no_more
weaker elses xs (one_more {rest = rest} h b) = one_more h (weaker elses rest b)
weaker elses xs (an_else b) = an_else b
weaker elses xs (a_branch {rest = rest} h b b') = a_branch h b (weaker elses rest b')

nest-append : (ifs : List Bool) (ops ys : List Op) → ((elses : Bool) → IsBlock elses ys) → Nest ifs ops → Nest ifs (ops ++ ys)
nest-append [] ops ys h n = block-append false ops ys n (h false)
nest-append (b ∷ ifs) ops ys h n = record {
  before = n.before;
  opener = n.opener;
  block = n.block ++ ys;
  same = ap (λ xs. xs ++ ys) n.same ∙ append_assoc n.before (n.opener ∷ n.block) ys;
  opens = n.opens;
  closed = block-append b n.block ys n.closed (h b);
  outer = n.outer;
}

nest_same : (ifs ifs' : List Bool) (ops : List Op) → ifs' ≡ ifs → Nest ifs ops → Nest ifs' ops
nest_same ifs ifs' ops e n = rw e n

nest_sort : (ifs ifs' : List Bool) (ops : List Op) (op : Op) → Sort op → Nest ifs ops → open_ifs_after op ifs ≡ Ok ifs' → Nest ifs' (ops ++ op ∷ [])
nest_sort ifs ifs' ops op (opening h) n e =
    let g = opens_opener op ifs h in let f : ifs' ≡ false ∷ ifs = cc in
    rw f (record { before = ops; opener = op; block = []; same = refl; opens = h; closed = no_more; outer = n })
nest_sort [] ifs' ops op elsing n e = absurd (cc)
nest_sort (false ∷ ifs) ifs' ops op elsing n e =
    let f : ifs' ≡ true ∷ ifs = cc in
    rw f (record {
      before = n.before;
      opener = n.opener;
      block = n.block ++ Else ∷ [];
      same = ap (λ xs. xs ++ Else ∷ []) n.same ∙ append_assoc n.before (n.opener ∷ n.block) (Else ∷ []);
      opens = n.opens;
      closed = block-append true n.block (Else ∷ []) (weaker false n.block n.closed) (an_else no_more);
      outer = n.outer;
    })
nest_sort (true ∷ ifs) ifs' ops op elsing n e = absurd (cc)
nest_sort [] ifs' ops op ending n e = absurd (cc)
nest_sort (b ∷ ifs) ifs' ops op ending n e =
    let f : ifs' ≡ ifs = cc in
    let s : ops ++ EndIf ∷ [] ≡ n.before ++ (n.opener ∷ (n.block ++ EndIf ∷ [])) = ap (λ xs. xs ++ EndIf ∷ []) n.same ∙ append_assoc n.before (n.opener ∷ n.block) (EndIf ∷ []) in
    rw (f, s) (nest-append ifs n.before (n.opener ∷ (n.block ++ EndIf ∷ [])) (λ elses. a_branch n.opens (weaker b n.block n.closed) no_more) n.outer)
nest_sort ifs ifs' ops op (single h) n e =
    let g = opens_single op ifs h in let f : ifs' ≡ ifs = cc in
    rw f (nest-append ifs ops (op ∷ []) (λ elses. one_more h no_more) n)

-- one opcode further
pub nest_on : (ifs ifs' : List Bool) (ops : List Op) (op : Op) → Nest ifs ops → open_ifs_after op ifs ≡ Ok ifs' → Nest ifs' (ops ++ op ∷ [])
nest_on ifs ifs' ops op = nest_sort ifs ifs' ops op (sort_of op)

pub flags_on : (ops : List Op) (op : Op) (ifs ifs' : List Bool) → flags ops [] ≡ Ok ifs → open_ifs_after op ifs ≡ Ok ifs' → flags (ops ++ op ∷ []) [] ≡ Ok ifs'
flags_on ops op ifs ifs' e f = flags-append ops (op ∷ []) [] ∙ ap (λ r. r >>= flags (op ∷ [])) e ∙ ap (λ r. r >>= flags []) f

pub nest_open : (b : Bool) (ifs : List Bool) (ops : List Op) → Nest (b ∷ ifs) ops → HasOpen true ops
nest_open b ifs ops n = record { before = n.before; opener = n.opener; block = n.block; same = n.same; opens = n.opens; closed = weaker b n.block n.closed }

follows_sort : (before : List Op) (op : Op) (ifs ifs' : List Bool) → Sort op → Nest ifs before → open_ifs_after op ifs ≡ Ok ifs' → MayFollow before op
follows_sort before op ifs ifs' (opening h) n e = may_follow_opener before op h
follows_sort before op [] ifs' elsing n e = absurd (cc)
follows_sort before op (false ∷ ifs) ifs' elsing n e = record { before = n.before; opener = n.opener; block = n.block; same = n.same; opens = n.opens; closed = n.closed }
follows_sort before op (true ∷ ifs) ifs' elsing n e = absurd (cc)
follows_sort before op [] ifs' ending n e = absurd (cc)
follows_sort before op (b ∷ ifs) ifs' ending n e = nest_open b ifs before n
follows_sort before op ifs ifs' (single h) n e = may_follow_single before op h

-- an opcode that the function allows may follow
pub follows : (before : List Op) (op : Op) (ifs ifs' : List Bool) → Nest ifs before → open_ifs_after op ifs ≡ Ok ifs' → MayFollow before op
follows before op ifs ifs' = follows_sort before op ifs ifs' (sort_of op)
