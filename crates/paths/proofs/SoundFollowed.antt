-- Each opcode, by its rule.
use Rattle.std.proofs.Common.{ℕ, true, false}
use Rattle.script.specs.declared.opcode.Op.{Op}
use Rattle.script.specs.declared.opcode.Op.TheVariants.{Push, Number as SmallNumber, If, NotIf, Else, EndIf, Drop, Dup, Swap, Size, Equal, EqualVerify, Hash160, CheckSig, CheckMultiSig, CheckLockTimeVerify, CheckSequenceVerify}
use Rattle.paths.specs.Plain.{State}
use Rattle.paths.specs.declared.state.SymbolicJumpOver.TheVariants.{Next}
use Rattle.paths.specs.Rules.{pop, push, size_of, hash_of, equal_of, condition_of, insist, branch, check_sig, check_multi_sig, lock_of, goes_on, rule_of}
use Rattle.paths.proofs.SoundWords.{Gives, Follows}
use Rattle.paths.proofs.SoundPops.{gives_then}
use Rattle.paths.proofs.SoundMultisig.{check_multi_sig_good}
use Rattle.paths.proofs.SoundRules.{FollowsTo, IsDecided, condition_good, Insists, insist_good, if_good, not_if_good, IsSizeOf, size_good, IsHashOf, hash_good, IsEqualOf, equal_good, LockIs, lock_good, lock_follows, age_follows, verify_follows, equal_follows, size_follows, hash_follows, drop_follows, dup_follows, swap_follows, push_follows, number_follows, end_follows, else_follows, IsSigned, check_sig_good, check_sig_follows}

pub rule_of-sound : (counted : ℕ) (op : Op) (s : State) → Gives (FollowsTo counted op s) (rule_of counted op s)
unfolding rule_of check_multi_sig
rule_of-sound counted (Push item) s = push_follows counted s item
rule_of-sound counted (SmallNumber n) s = number_follows counted s n
rule_of-sound counted If s = gives_then (IsDecided (pop s).0) (FollowsTo counted If s) (condition_of (pop s).0) (λ c. branch true c (pop s).1) (condition_good (pop s).0) (λ c d. if_good counted s c d)
rule_of-sound counted NotIf s = gives_then (IsDecided (pop s).0) (FollowsTo counted NotIf s) (condition_of (pop s).0) (λ c. branch false c (pop s).1) (condition_good (pop s).0) (λ c d. not_if_good counted s c d)
rule_of-sound counted Else s = else_follows counted s
rule_of-sound counted EndIf s = end_follows counted s
rule_of-sound counted Drop s = drop_follows counted s
rule_of-sound counted Dup s = dup_follows counted s
rule_of-sound counted Swap s = swap_follows counted s
rule_of-sound counted Size s = gives_then (IsSizeOf (pop s).0) (FollowsTo counted Size s) (size_of (pop s).0) (λ x. goes_on (push x (push (pop s).0 (pop s).1))) (size_good (pop s).0) (λ z q. size_follows counted s z q)
rule_of-sound counted Equal s = gives_then (IsEqualOf (pop s).0 (pop (pop s).1).0) (FollowsTo counted Equal s) (equal_of (pop s).0 (pop (pop s).1).0) (λ x. goes_on (push x (pop (pop s).1).1)) (equal_good (pop s).0 (pop (pop s).1).0) (λ z q. equal_follows counted s z q)
rule_of-sound counted EqualVerify s =
    gives_then (IsEqualOf (pop s).0 (pop (pop s).1).0) (FollowsTo counted EqualVerify s) (equal_of (pop s).0 (pop (pop s).1).0) _ (equal_good (pop s).0 (pop (pop s).1).0) (λ z q.
    gives_then (IsDecided z) (FollowsTo counted EqualVerify s) (condition_of z) _ (condition_good z) (λ c d.
    gives_then (Insists c (pop (pop s).1).1) (FollowsTo counted EqualVerify s) (insist c (pop (pop s).1).1) goes_on (insist_good c (pop (pop s).1).1) (λ s' i. verify_follows counted s z c s' q d i)))
rule_of-sound counted Hash160 s = gives_then (IsHashOf (pop s).0) (FollowsTo counted Hash160 s) (hash_of (pop s).0) (λ x. goes_on (push x (pop s).1)) (hash_good (pop s).0) (λ z q. hash_follows counted s z q)
rule_of-sound counted CheckSig s = gives_then (IsSigned (pop s).0 (pop (pop s).1).0 (pop (pop s).1).1) (FollowsTo counted CheckSig s) (check_sig (pop s).0 (pop (pop s).1).0 (pop (pop s).1).1) goes_on (check_sig_good (pop s).0 (pop (pop s).1).0 (pop (pop s).1).1) (λ s' i. check_sig_follows counted s s' i)
rule_of-sound counted CheckMultiSig s = gives_then (λ s'. Follows counted CheckMultiSig s Next s') (FollowsTo counted CheckMultiSig s) (check_multi_sig counted s) goes_on (check_multi_sig_good counted s) (λ s' f. f)
rule_of-sound counted CheckLockTimeVerify s = gives_then (LockIs (pop s).0) (FollowsTo counted CheckLockTimeVerify s) (lock_of (pop s).0) _ (lock_good (pop s).0) (λ n k. lock_follows counted s n k)
rule_of-sound counted CheckSequenceVerify s = gives_then (LockIs (pop s).0) (FollowsTo counted CheckSequenceVerify s) (lock_of (pop s).0) _ (lock_good (pop s).0) (λ n k. age_follows counted s n k)
