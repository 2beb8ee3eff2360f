-- The bytes of an outpoint.
use Rattle.std.proofs.Common.{◌≡◌, ℕ, List, [], ◌++◌, length, take, drop, refl, append-nil}
use Rattle.std.proofs.lemmas.List.{take_at, drop_at}
use borrow.Rule.Slice.PartMut.{put_mid}
use Rattle.byteorder.specs.Endian.{little_bytes}
use Rattle.tx.specs.declared.input.OutPoint.{OutPoint}
use Rattle.tx.specs.Spelling.{number, outpoint}

pub spelt : (front tail last : List ℕ) (o : OutPoint) → front ≡ o.txid → length front ≡ 32 → drop 4 tail ≡ [] → last ≡ little_bytes 4 o.index → put_mid 32 4 (front ++ tail) last ≡ outpoint o
unfolding outpoint number
spelt front tail last o e l z f =
    let t : take 32 (front ++ tail) ≡ front = take_at front tail 32 l in
    let d : drop 32 (front ++ tail) ≡ tail = drop_at front tail 32 l in
    rw (t, d, z, append-nil last, e, f) refl
