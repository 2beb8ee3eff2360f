-- A reply that says that memory ran out, and one that does not.
use Rattle.std.proofs.Common.{◌≡◌, true, false, Ok, Err, refl}
use Rattle.book.specs.declared.calls.Call.{Call}
use Rattle.book.specs.declared.calls.Call.TheVariants.{Open, Step, Sign, Revoke, Keep, Release, Close}
use Rattle.book.specs.Replies.{Reply, opened, stepped, signed, revoked, kept, released, closed, is_accepted}
use Rattle.book.specs.Calling.{no_memory_of}
use Rattle.book.specs.Acts.{ran_out}

pub out_of_memory : (call : Call) → ran_out (no_memory_of call) ≡ true
out_of_memory (Open o) = refl
out_of_memory (Step c step) = refl
out_of_memory (Sign c) = refl
out_of_memory (Revoke c revocation) = refl
out_of_memory (Keep c n claims) = refl
out_of_memory (Release c batch) = refl
out_of_memory (Close c) = refl

pub in_memory : (r : Reply) → is_accepted r ≡ true → ran_out r ≡ false
in_memory (opened (Ok n)) is = refl
in_memory (opened (Err e)) is = absurd cc
in_memory (stepped (Ok m)) is = refl
in_memory (stepped (Err e)) is = absurd cc
in_memory (signed (Ok m)) is = refl
in_memory (signed (Err e)) is = absurd cc
in_memory (revoked (Ok n)) is = refl
in_memory (revoked (Err e)) is = absurd cc
in_memory (kept (Ok u)) is = refl
in_memory (kept (Err e)) is = absurd cc
in_memory (released (Ok f)) is = refl
in_memory (released (Err e)) is = absurd cc
in_memory (closed (Ok n)) is = refl
in_memory (closed (Err e)) is = absurd cc
