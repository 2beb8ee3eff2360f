-- What is looked up by an id is the oldest transaction that has it.
use Rattle.std.proofs.Common.{◌≡◌, ℕ, Bool, true, false, List, [], ◌∷◌, length, Option, Some, None, option_map, sym, ap, refl}
use Rattle.std.specs.Prelude.{if◌then◌else◌}
use Rattle.std.specs.Option.{option_or, option_and_then}
use Rattle.std.specs.Str.{bytes_eq}
use Rattle.std.proofs.lemmas.Option.{none-some, same_Some}
use Rattle.tx.specs.declared.input.OutPoint.{OutPoint}
use Rattle.tx.specs.Spelling.{transaction_id}
use Rattle.sights.specs.declared.sighted.Sighted.{Sighted}
use Rattle.sights.specs.declared.origins.Origin.{Origin}
use Rattle.sights.specs.Sights.{sighted_as, stage_at, made_by, made_at}
use Rattle.sights.specs.Origins.{origin, origin_of, made_of}

data Stands : Option Origin → Option Sighted → Type 0 where
  neither : Stands None None
  both : (s : Sighted) (n : ℕ) → Stands (Some (origin s n)) (Some s)

next : (x : Option Origin) (y : Option Sighted) → Stands x y → (s : Sighted) (n : ℕ) (t : Bool) → Stands (option_or x (if t then Some (origin s n) else None)) (option_or y (if t then Some s else None))
next None None neither s n true = both s n
next None None neither s n false = neither
next x y (both a k) s n t = both a k

stands : (id : List ℕ) (ss : List Sighted) → Stands (origin_of id ss) (sighted_as id ss)
stands id [] = neither
stands id (s ∷ ss) = next (origin_of id ss) (sighted_as id ss) (stands id ss) s (length ss) (bytes_eq (transaction_id s.tx) id)

stage_by : (x : Option Origin) (y : Option Sighted) → Stands x y → (o : Origin) → x ≡ Some o → Some o.stage ≡ option_map (λ s. s.stage) y
stage_by None None neither o e = absurd (none-some o e)
stage_by x y (both s n) o e = ap (λ (z : Origin). Some z.stage) (sym (same_Some (origin s n) o e))

none_by : (x : Option Origin) (y : Option Sighted) → Stands x y → x ≡ None → y ≡ None
none_by None None neither e = refl
none_by x y (both s n) e = absurd (none-some (origin s n) (sym e))

pub stage_is : (id : List ℕ) (ss : List Sighted) (o : Origin) → origin_of id ss ≡ Some o → Some o.stage ≡ stage_at id ss
stage_is id ss o e = stage_by (origin_of id ss) (sighted_as id ss) (stands id ss) o e

pub stage_none : (id : List ℕ) (ss : List Sighted) → origin_of id ss ≡ None → None ≡ stage_at id ss
stage_none id ss e = sym (ap (option_map (λ s. s.stage)) (none_by (origin_of id ss) (sighted_as id ss) (stands id ss) e))

height_by : (p : OutPoint) (x : Option Origin) (y : Option Sighted) → Stands x y → (o : Origin) → x ≡ Some o → made_of p o ≡ option_and_then (made_by p) y
height_by p None None neither o e = absurd (none-some o e)
height_by p x y (both s n) o e = ap (made_of p) (sym (same_Some (origin s n) o e))

pub height_is : (p : OutPoint) (ss : List Sighted) (o : Origin) → origin_of p.txid ss ≡ Some o → made_of p o ≡ made_at p ss
height_is p ss o e = height_by p (origin_of p.txid ss) (sighted_as p.txid ss) (stands p.txid ss) o e

pub height_none : (p : OutPoint) (ss : List Sighted) → origin_of p.txid ss ≡ None → None ≡ made_at p ss
height_none p ss e = sym (ap (option_and_then (made_by p)) (none_by (origin_of p.txid ss) (sighted_as p.txid ss) (stands p.txid ss) e))
