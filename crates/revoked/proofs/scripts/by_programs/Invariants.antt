use Rattle.std.proofs.Common.{◌≡◌, ℕ, List, drop, nat_cmp}
use Rattle.std.specs.Option.{option_or}
use Rattle.std.specs.Cmp.Lexicographic.{slice_cmp}
use Rattle.std.specs.BTreeMap.{get}
use Rattle.commit.specs.Keys.{bytes_of}
use Rattle.revoked.specs.Programs.{htlc_with}
use Rattle.revoked.proofs.scripts.by_programs.Given as goal

-- what the table has, then what is left, is the whole
abbrev pub invariant-loop-htlc : goal.invariant-loop-htlc
invariant-loop-htlc l = (p : List ℕ) → option_or (get (slice_cmp nat_cmp) l.by_program p) (htlc_with l.channel_type (bytes_of l.keys) (drop l.htlc-index l.htlcs) p) ≡ htlc_with l.channel_type (bytes_of l.keys) l.htlcs p
