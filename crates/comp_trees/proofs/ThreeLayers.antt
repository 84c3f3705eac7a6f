-- How many steps per agent three layers allow, and the spread of weights that a test chooses.
use Rattle.std.proofs.Common.{◌≡◌, ℕ, ◌+◌, ◌<◌, ◌≤◌, Bool, true, false, [], ◌∷◌, map, ap, arith}
use Rattle.std.specs.Prelude.{pos, ◌≤ℤ◌, if◌then◌else◌}
use Rattle.std.specs.List.{range_with_len}
use Rattle.std.proofs.lemmas.Int.{ints}
use Rattle.std.proofs.lemmas.List.Sums.{sum_by-cons}
use Rattle.cert_base.specs.declared.layer.Layer.{Layer}
use Rattle.cert_base.specs.ProofBound.{weights_spread, layers_bound}
use Rattle.cert_base.specs.FactsAndCases.{indicator}
use Rattle.cert_base.proofs.WeightBounds.{spread_of}

pub three_layers : (a b c : Layer) → layers_bound (a ∷ b ∷ c ∷ []) ≡ weights_spread a.weights + weights_spread b.weights + weights_spread c.weights
three_layers a b c =
    let spread : Layer → ℕ = λ layer. weights_spread layer.weights in
    let x = sum_by-cons spread a (b ∷ c ∷ []) in
    let y = sum_by-cons spread b (c ∷ []) in
    let z = sum_by-cons spread c [] in
    omega (arith, x, y, z)

-- a number that a test chooses of two is within their limit
pub chosen_within : (b : Bool) (x y most : ℕ) → x ≤ most → y ≤ most → (pos 0 ≤ℤ (if b then pos x else pos y)) × ((if b then pos x else pos y) ≤ℤ pos most)
chosen_within true x y most l m = (omega (arith, ints), omega (arith, ints, l))
chosen_within false x y most l m = (omega (arith, ints), omega (arith, ints, m))

indicator_within : (b : Bool) → (pos 0 ≤ℤ indicator b) × (indicator b ≤ℤ pos 1)
indicator_within true = (omega (arith, ints), omega (arith, ints))
indicator_within false = (omega (arith, ints), omega (arith, ints))

-- 1 for each number that passes a test: some number passes, and some other one doesn't
pub indicator_spread : (test : ℕ → Bool) (n i j : ℕ) → i < n → j < n → test i ≡ false → test j ≡ true → weights_spread (map (λ q. indicator (test q)) (range_with_len 0 n)) ≡ 1
indicator_spread test n i j li lj fails passes =
    spread_of (λ q. indicator (test q)) n (pos 0) (pos 1) i j li lj (ap indicator fails) (ap indicator passes) (λ q l. indicator_within (test q))
