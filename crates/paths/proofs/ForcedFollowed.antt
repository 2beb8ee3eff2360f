-- Each opcode, where a run passes it.
use Rattle.std.proofs.Common.{◌≡◌, ℕ, true, false, Ok, refl}
use Rattle.script.specs.declared.opcode.Op.{Op}
use Rattle.script.specs.declared.opcode.Op.TheVariants.{Push, Number as SmallNumber, If, NotIf, Else, EndIf, Drop, Dup, Swap, Size, Equal, EqualVerify, Hash160, CheckSig, CheckMultiSig, CheckLockTimeVerify, CheckSequenceVerify}
use Rattle.script.specs.declared.spending.Spend.{Spend}
use Rattle.script.specs.declared.stops.Cause.TheVariants.{MissingOperand}
use Rattle.script.specs.Step.{Elements, Effect, effect}
use Rattle.facts.specs.declared.symbols.SymOver.TheVariants.{Const}
use Rattle.paths.specs.Plain.{State}
use Rattle.paths.specs.Plain.{Condition}
use Rattle.facts.specs.Symbols.{Sym}
use Rattle.paths.specs.Rules.{pop, push, size_of, hash_of, equal_of, condition_of, branch, check_multi_sig, goes_on, rule_of}
use Rattle.paths.proofs.SoundWords.{entries_of, IsShort}
use Rattle.paths.proofs.ForcedWords.{Forced, forced_then, IsMet, IsMetBy, push_met, pop_met, pop_met-2}
use Rattle.paths.proofs.ForcedRules.{condition_lives, size_lives, hash_lives, equal_lives, branch_forced, verify_forced, check_sig_forced, lock_time_forced, sequence_forced}
use Rattle.paths.proofs.ForcedMultisig.{multi_sig_forced}

-- where a run passes the opcode from a state that is met, the rule does not die and leaves a state that is met
pub rule_of-forced : (counted : ℕ) (op : Op) (s : State) (spend : Spend) (w : Elements) (c : ℕ) (e : Effect) → IsShort w → IsMet spend w s → effect spend c op (entries_of spend w s) ≡ Ok e → Forced (IsMetBy spend w) (rule_of counted op s)
unfolding rule_of check_multi_sig effect
rule_of-forced counted (Push item) s spend w c e sh m h = push_met spend w (Const item) s m
rule_of-forced counted (SmallNumber n) s spend w c e sh m h = push_met spend w _ s m
rule_of-forced counted If s spend w c e sh m h =
    forced_then (λ (d : Condition). Unit {0}) (IsMetBy spend w) (condition_of (pop s).0) (λ d. branch true d (pop s).1) (condition_lives (pop s).0) (λ d q. branch_forced spend w true d (pop s).1 (pop_met spend w s (effect spend c If) MissingOperand e refl h m))
rule_of-forced counted NotIf s spend w c e sh m h =
    forced_then (λ (d : Condition). Unit {0}) (IsMetBy spend w) (condition_of (pop s).0) (λ d. branch false d (pop s).1) (condition_lives (pop s).0) (λ d q. branch_forced spend w false d (pop s).1 (pop_met spend w s (effect spend c NotIf) MissingOperand e refl h m))
rule_of-forced counted Else s spend w c e sh m h = m
rule_of-forced counted EndIf s spend w c e sh m h = m
rule_of-forced counted Drop s spend w c e sh m h = pop_met spend w s (effect spend c Drop) MissingOperand e refl h m
rule_of-forced counted Dup s spend w c e sh m h =
    push_met spend w (pop s).0 _ (push_met spend w (pop s).0 (pop s).1 (pop_met spend w s (effect spend c Dup) MissingOperand e refl h m))
rule_of-forced counted Swap s spend w c e sh m h =
    push_met spend w (pop (pop s).1).0 _ (push_met spend w (pop s).0 _ (pop_met-2 spend w s (effect spend c Swap) MissingOperand e refl (λ x. refl) h m))
rule_of-forced counted Size s spend w c e sh m h =
    forced_then (λ (x : Sym). Unit {0}) (IsMetBy spend w) (size_of (pop s).0) (λ x. goes_on (push x (push (pop s).0 (pop s).1))) (size_lives (pop s).0) (λ x q. push_met spend w x _ (push_met spend w (pop s).0 (pop s).1 (pop_met spend w s (effect spend c Size) MissingOperand e refl h m)))
rule_of-forced counted Equal s spend w c e sh m h =
    forced_then (λ (x : Sym). Unit {0}) (IsMetBy spend w) (equal_of (pop s).0 (pop (pop s).1).0) (λ x. goes_on (push x (pop (pop s).1).1)) (equal_lives (pop s).0 (pop (pop s).1).0) (λ x q. push_met spend w x _ (pop_met-2 spend w s (effect spend c Equal) MissingOperand e refl (λ y. refl) h m))
rule_of-forced counted EqualVerify s spend w c e sh m h = verify_forced spend w c s e sh m h
rule_of-forced counted Hash160 s spend w c e sh m h =
    forced_then (λ (x : Sym). Unit {0}) (IsMetBy spend w) (hash_of (pop s).0) (λ x. goes_on (push x (pop s).1)) (hash_lives (pop s).0) (λ x q. push_met spend w x _ (pop_met spend w s (effect spend c Hash160) MissingOperand e refl h m))
rule_of-forced counted CheckSig s spend w c e sh m h = check_sig_forced spend w c s e m h
rule_of-forced counted CheckMultiSig s spend w c e sh m h = multi_sig_forced counted spend w c s e m h
rule_of-forced counted CheckLockTimeVerify s spend w c e sh m h = lock_time_forced spend w c s e m h
rule_of-forced counted CheckSequenceVerify s spend w c e sh m h = sequence_forced spend w c s e m h
