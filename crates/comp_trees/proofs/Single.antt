-- Lists made of ranges, any two items of which are related; pairs that are not the same.
use Rattle.std.proofs.Common.{◌≡◌, ◌≢◌, ◌⊎◌, inl, inr, ℕ, zero, suc, ◌+◌, ◌<◌, ◌≤◌, false, ◌&&◌, List, map, get_or, refl, arith}
use Rattle.std.specs.Prelude.{All, AllPairs, flat_map, ◌==◌}
use Rattle.std.specs.List.{range_with_len}
use Rattle.std.proofs.lemmas.Bool.{ne_eqb}
use Rattle.std.proofs.lemmas.List.Elements.{All-map}
use Rattle.std.proofs.lemmas.List.Kept.{AllPairs-cons}
use Rattle.std.proofs.Math.Bool.{and-false}
use Rattle.pop_leaf.specs.LeafModel.{same_pair}
use Rattle.comp_trees.proofs.Members.{all_flat}
use Rattle.comp_trees.proofs.SortedLayers.{AllPairs-append}
use Rattle.base_laws.proofs.Ranges.{all_range}

pub pairs_map : {A : Type 0} (R : A → A → Type 0) (g : ℕ → A) (a n : ℕ) → ((i j : ℕ) → a ≤ i → i < j → j < a + n → R (g i) (g j)) → AllPairs R (map g (range_with_len a n))
pairs_map R g a zero f = λ i j d l m. absurd (omega (arith, m))
pairs_map R g a (suc n) f =
    AllPairs-cons R (g a) (map g (range_with_len (a + 1) n))
    (All-map (R (g a)) g (range_with_len (a + 1) n) (all_range (λ j. R (g a) (g j)) (a + 1) n (λ j l m. f a j (omega arith) (omega arith) (omega arith))))
    (pairs_map R g (a + 1) n (λ i j l m k. f i j (omega arith) m (omega arith)))

pub pairs_flat : {A : Type 0} (R : A → A → Type 0) (g : ℕ → List A) (a n : ℕ) → ((i : ℕ) → a ≤ i → i < a + n → AllPairs R (g i)) → ((i j : ℕ) → a ≤ i → i < j → j < a + n → All (λ x. All (R x) (g j)) (g i)) → AllPairs R (flat_map g (range_with_len a n))
pairs_flat R g a zero f h = λ i j d l m. absurd (omega (arith, m))
pairs_flat R g a (suc n) f h =
    AllPairs-append R (g a) (flat_map g (range_with_len (a + 1) n)) (f a (omega arith) (omega arith))
    (pairs_flat R g (a + 1) n (λ i l m. f i (omega arith) (omega arith)) (λ i j l m k. h i j (omega arith) m (omega arith)))
    (λ k d l. all_flat (R (get_or (g a) k d)) g (range_with_len (a + 1) n) (all_range (λ j. All (R (get_or (g a) k d)) (g j)) (a + 1) n (λ j p q. h a j (omega arith) (omega arith) (omega arith) k d l)))

-- pairs that differ in both orders are not the same
pub differ-by : (p q u v : ℕ) → (p ≢ u) ⊎ (q ≢ v) → (p ≢ v) ⊎ (q ≢ u) → same_pair p q u v ≡ false
differ-by p q u v a b =
    let first = one p q u v a in
    let second = one p q v u b in
    rw (first, second) refl
  where
    one : (p q u v : ℕ) → (p ≢ u) ⊎ (q ≢ v) → ((p == u) && (q == v)) ≡ false
    one p q u v (inl n) = let e = ne_eqb p u n in rw e refl
    one p q u v (inr n) = let e = ne_eqb q v n in rw e (and-false (p == u))
