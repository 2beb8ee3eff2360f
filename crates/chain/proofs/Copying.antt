-- Maps and sets whose entries are clones.
use Rattle.std.proofs.Common.{◌≡◌, ℕ, List, option_map, ap, nat_cmp}
use Rattle.std.specs.List.{AllZip}
use Rattle.std.specs.Cmp.Lexicographic.{slice_cmp}
use Rattle.std.specs.Map.{lookup}
use Rattle.std.specs.BTreeMap.{BTreeMap, IsClone, is_at}
use Rattle.std.specs.BTreeSet.{BTreeSet, contains}
use Rattle.std.proofs.lemmas.List.Elements.{same_from_all_zip}
use Rattle.std.proofs.lemmas.Map.Entries.{entries_from_clone}
use Rattle.tx.specs.declared.input.OutPoint.{OutPoint}
use Rattle.chain.specs.declared.coin_map.IndexedCoin.{IndexedCoin}
use Rattle.chain.specs.Indexing.{outpoint_cmp, indexed_coin, noted}

pub same_coins : (m n : BTreeMap OutPoint IndexedCoin) (q : OutPoint) → IsClone (λ x y. y ≡ x) (λ x y. y ≡ x) m n → noted n q ≡ noted m q
same_coins m n q h =
    ap (λ es. option_map indexed_coin (lookup (is_at (outpoint_cmp q)) es)) (entries_from_clone (λ x y. y ≡ x) (λ x y. y ≡ x) (λ x y e. e) (λ x y e. e) m.entries n.entries h)

pub same_ids : (s n : BTreeSet (List ℕ)) (C : List ℕ → List ℕ → Type 0) (id : List ℕ) → ((x y : List ℕ) → C x y → y ≡ x) → AllZip C s.keys n.keys → contains (slice_cmp nat_cmp) n id ≡ contains (slice_cmp nat_cmp) s id
same_ids s n C id same h = ap (λ ks. let s : BTreeSet (List ℕ) = record { keys = ks } in contains (slice_cmp nat_cmp) s id) (same_from_all_zip C s.keys n.keys h same)
