-- Symbols, facts and states with their constants replaced by others.
use Rattle.std.specs.Prelude.{map}
use Rattle.facts.specs.declared.symbols.KeySourceOver.{KeySourceOver}
use Rattle.facts.specs.declared.symbols.KeySourceOver.TheVariants.{Const as FixedKey, Slot as SlotKey}
use Rattle.facts.specs.declared.symbols.FactOver.{FactOver}
use Rattle.facts.specs.declared.symbols.FactOver.TheVariants.{Hash, Size, Truth, Is, KeyForm, Form, Token, Assigned, Lock, Age}
use Rattle.facts.specs.declared.symbols.StatedOver.{StatedOver}
use Rattle.facts.specs.declared.symbols.SymOver.{SymOver}
use Rattle.facts.specs.declared.symbols.SymOver.TheVariants.{Slot, Const, HashOf, SizeOf, Holds}
use Rattle.paths.specs.declared.state.StateOver.{StateOver}
use Rattle.paths.specs.declared.state.SymbolicJumpOver.{SymbolicJumpOver}
use Rattle.paths.specs.declared.state.SymbolicJumpOver.TheVariants.{Next, AfterElse, AfterEndIf, Splits}
use Rattle.paths.specs.declared.state.ConditionOver.{ConditionOver}
use Rattle.paths.specs.declared.state.ConditionOver.TheVariants.{Known, Asked}

-- what replaces constants, and the numbers of absolute and of relative locks
pub record Replacing (C L A C' L' A' : Type 0) : Type 0 where
  pub bytes : C → C'
  pub lock : L → L'
  pub age : A → A'

module _ {C L A C' L' A' : Type 0} (m : Replacing C L A C' L' A') where
  abbrev pub in_key : KeySourceOver C → KeySourceOver C'
  in_key (FixedKey c) = FixedKey (m.bytes c)
  in_key (SlotKey i) = SlotKey i

  abbrev pub in_fact : FactOver C L A → FactOver C' L' A'
  in_fact (Hash i c) = Hash i (m.bytes c)
  in_fact (Size i n) = Size i n
  in_fact (Truth i) = Truth i
  in_fact (Is i c) = Is i (m.bytes c)
  in_fact (KeyForm i) = KeyForm i
  in_fact (Form i) = Form i
  in_fact (Token i key) = Token i (in_key key)
  in_fact (Assigned slots keys) = Assigned slots (map in_key keys)
  in_fact (Lock n) = Lock (m.lock n)
  in_fact (Age n) = Age (m.age n)

  abbrev pub in_stated : StatedOver C L A → StatedOver C' L' A'
  in_stated s = record { fact = in_fact s.fact; holds = s.holds }

  abbrev pub in_sym : SymOver C L A → SymOver C' L' A'
  in_sym (Slot i) = Slot i
  in_sym (Const c) = Const (m.bytes c)
  in_sym (HashOf i) = HashOf i
  in_sym (SizeOf i) = SizeOf i
  in_sym (Holds fact) = Holds (in_fact fact)

  abbrev pub in_state : StateOver C L A → StateOver C' L' A'
  in_state s = record { ahead = s.ahead; stack = map in_sym s.stack; slots = s.slots; facts = map in_stated s.facts; keys = s.keys; excess = s.excess }

  abbrev pub in_jump : SymbolicJumpOver C L A → SymbolicJumpOver C' L' A'
  in_jump Next = Next
  in_jump AfterElse = AfterElse
  in_jump AfterEndIf = AfterEndIf
  in_jump (Splits fact b) = Splits (in_fact fact) b

  abbrev pub in_condition : ConditionOver C L A → ConditionOver C' L' A'
  in_condition (Known b) = Known b
  in_condition (Asked fact) = Asked (in_fact fact)
