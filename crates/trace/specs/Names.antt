-- The names of opcodes, and the number of branches that one is in.
use Rattle.std.specs.Prelude.{ℕ, ◌+◌, ◌-◌, List, codes}
use Rattle.script.specs.declared.opcode.Op.{Op}
use Rattle.script.specs.declared.opcode.Op.TheVariants.{Push, Number, If, NotIf, Else, EndIf, Drop, Dup, Swap, Size, Equal, EqualVerify, Hash160, CheckSig, CheckMultiSig, CheckLockTimeVerify, CheckSequenceVerify}

-- an opcode's name; all pushes have the same
abbrev pub name_of : Op → List ℕ
name_of (Push item) = codes "PUSH"
name_of (Number n) = codes "PUSH"
name_of If = codes "IF"
name_of NotIf = codes "NOTIF"
name_of Else = codes "ELSE"
name_of EndIf = codes "ENDIF"
name_of Drop = codes "DROP"
name_of Dup = codes "DUP"
name_of Swap = codes "SWAP"
name_of Size = codes "SIZE"
name_of Equal = codes "EQUAL"
name_of EqualVerify = codes "EQUALVERIFY"
name_of Hash160 = codes "HASH160"
name_of CheckSig = codes "CHECKSIG"
name_of CheckMultiSig = codes "CHECKMULTISIG"
name_of CheckLockTimeVerify = codes "CHECKLOCKTIMEVERIFY"
name_of CheckSequenceVerify = codes "CHECKSEQUENCEVERIFY"

-- the number of branches that an opcode is in, if `ifs` IFs are open before it
abbrev pub shown_depth : Op → ℕ → ℕ
shown_depth Else ifs = ifs - 1
shown_depth EndIf ifs = ifs - 1
shown_depth op ifs = ifs

-- the number of IFs that are open after it
abbrev pub depth_after : Op → ℕ → ℕ
depth_after If ifs = ifs + 1
depth_after NotIf ifs = ifs + 1
depth_after EndIf ifs = ifs - 1
depth_after op ifs = ifs
