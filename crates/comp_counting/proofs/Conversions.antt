-- The moves in which a full agent converts another.
use Rattle.std.proofs.Common.{◌≡◌, ◌≢◌, inl, inr, ℕ, ◌+◌, ◌≤◌, false, map, refl, arith}
use Rattle.std.specs.Prelude.{◌==◌, All}
use Rattle.std.specs.List.{range_with_len}
use Rattle.std.proofs.lemmas.Bool.{ne_eqb}
use Rattle.std.proofs.lemmas.List.Elements.{All-map}
use Rattle.std.proofs.Math.Bool.{and-false}
use Rattle.pop_leaf.specs.declared.leaf.Move.{Move}
use Rattle.pop_leaf.specs.LeafModel.{silent_move, same_pair}
use Rattle.comp_trees.proofs.Single.{differ-by}
use Rattle.comp_counting.specs.FullState.{conversion_move}
use Rattle.base_laws.proofs.Ranges.{all_range}

pub all_conversions : (k : ℕ) (P : Move → Type 0) → ((q : ℕ) → q ≤ k → P (conversion_move k q)) → All P (map (conversion_move k) (range_with_len 0 (k + 1)))
all_conversions k P f = All-map P (conversion_move k) (range_with_len 0 (k + 1)) (all_range (λ q. P (conversion_move k q)) 0 (k + 1) (λ q l m. f q (omega arith)))

pub differ_pair : (p q u v : ℕ) → q ≢ v → p ≢ v → same_pair p q u v ≡ false
differ_pair p q u v e f = differ-by p q u v (inr e) (inl f)

pub conversion-loud : (k q : ℕ) → q ≤ k → silent_move (conversion_move k q) ≡ false
conversion-loud k q l = let first = ne_eqb q (k + 1) (λ e. omega arith) in let none = and-false ((k + 1) == (k + 1)) in rw (first, none) refl
