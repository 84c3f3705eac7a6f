-- The nodes that rest on the full state are within the limits of proofs.
use Rattle.std.proofs.Common.{◌≡◌, ℕ, ◌+◌, ◌^◌, ◌<◌, ◌≤◌, Bool, true, false, List, [], ◌∷◌, ◌++◌, length, arith}
use Rattle.std.specs.Prelude.{ℤ, pos, negsuc, All, if◌then◌else◌, ◌==◌, replicate}
use Rattle.std.proofs.lemmas.List.{length-append, length-replicate}
use Rattle.std.proofs.lemmas.List.Elements.{All-nil, All-cons, All-append, All-replicate}
use Rattle.cert_base.specs.Rows.{zeros}
use Rattle.cert_base.specs.ProofLimits.{IsSmall, IsSetWithin, IsNodeWithin}
use Rattle.comp_trees.specs.LeaderTree.{weighed_node, mix_over}
use Rattle.comp_trees.proofs.Limits.{weighed-within, all-zeros, one}
use Rattle.comp_counting.specs.declared.limits.TheConstants.{POWER_LIMIT}
use Rattle.comp_counting.specs.FullState.{flock_weight, converted_mix, start_mix, never_mix}

pub weight-small : (k q : ℕ) → IsSmall (flock_weight k q)
weight-small k q = go (q == 0) (q == k + 1)
  where
    go : (a b : Bool) → IsSmall (if a then pos 1 else (if b then pos 0 else pos 2))
    go true b = omega arith
    go false true = omega arith
    go false false = omega arith

pub mix-long : (flows : List ℤ) (wrong opened : ℤ) (own : List ℤ) → length (mix_over flows wrong opened own) ≡ length flows + length own + 4
mix-long flows wrong opened own =
    let base = flows ++ pos 0 ∷ pos 0 ∷ wrong ∷ [] in
    omega (arith, length-append (base ++ opened ∷ []) own, length-append base (opened ∷ []), length-append flows (pos 0 ∷ pos 0 ∷ wrong ∷ []))

pub converted-short : (k : ℕ) → k ≤ 100 → length (converted_mix k) ≤ 400
converted-short k l =
    omega (arith, mix-long (zeros (k + 2)) (pos 1) (pos 0) (pos 0 ∷ replicate (k + 1) (negsuc 0)), length-replicate (k + 2) (pos 0), length-replicate (k + 1) (negsuc 0))

pub start-short : (c k : ℕ) → k ≤ 100 → length (start_mix c k) ≤ 400
start-short c k l = omega (arith, mix-long (zeros (k + 2)) (pos 0) (pos 1) (pos c ∷ []), length-replicate (k + 2) (pos 0))

pub never-short : (k : ℕ) → k ≤ 100 → length (never_mix k) ≤ 400
never-short k l =
    omega (arith, mix-long (zeros (k + 2)) (pos 1) (pos 0) (zeros (k + 1) ++ negsuc 0 ∷ []), length-replicate (k + 2) (pos 0), length-append (zeros (k + 1)) (negsuc 0 ∷ []), length-replicate (k + 1) (pos 0))

-- a node of few multipliers
pub mix-within : (flows : List ℤ) (wrong opened : ℤ) (own : List ℤ) (n m : ℕ) → length flows ≤ n → length own ≤ m → n + m ≤ 1000 → All IsSmall flows → IsSmall wrong → IsSmall opened → All IsSmall own → IsNodeWithin (weighed_node (mix_over flows wrong opened own))
mix-within flows wrong opened own n m ln lm few fs w o os =
    let base = flows ++ pos 0 ∷ pos 0 ∷ wrong ∷ [] in
    let all_base = All-append IsSmall flows (pos 0 ∷ pos 0 ∷ wrong ∷ []) fs (All-cons IsSmall (pos 0) (pos 0 ∷ wrong ∷ []) (omega arith) (All-cons IsSmall (pos 0) (wrong ∷ []) (omega arith) (one wrong w))) in
    let all = All-append IsSmall (base ++ opened ∷ []) own (All-append IsSmall base (opened ∷ []) all_base (one opened o)) os in
    weighed-within (mix_over flows wrong opened own) (omega (arith, mix-long flows wrong opened own, ln, lm, few)) all

-- the nodes that rest on the full state alone
module _ (k : ℕ) (few : k ≤ 100) where
  nothing : (wrong add : ℤ) (own : List ℤ) → IsSmall wrong → IsSmall add → length own ≤ k + 2 → All IsSmall own → IsNodeWithin (weighed_node (mix_over (zeros (k + 2)) wrong add own))
  nothing wrong add own w a l os = mix-within (zeros (k + 2)) wrong add own (k + 2) (k + 2) (omega (arith, length-replicate (k + 2) (pos 0))) l (omega arith) (all-zeros (k + 2)) w a os

  pub converted-within : IsNodeWithin (weighed_node (converted_mix k))
  converted-within =
      nothing (pos 1) (pos 0) (pos 0 ∷ replicate (k + 1) (negsuc 0)) (omega arith) (omega arith) (omega (arith, length-replicate (k + 1) (negsuc 0)))
      (All-cons IsSmall (pos 0) (replicate (k + 1) (negsuc 0)) (omega arith) (All-replicate IsSmall (k + 1) (negsuc 0) (omega arith)))

  pub start-within : (c : ℕ) → c ≤ 2 ^ POWER_LIMIT → IsNodeWithin (weighed_node (start_mix c k))
  start-within c most = nothing (pos 0) (pos 1) (pos c ∷ []) (omega arith) (omega arith) (omega arith) (one (pos c) (omega (arith, most)))

  pub never-within : IsNodeWithin (weighed_node (never_mix k))
  never-within =
      nothing (pos 1) (pos 0) (zeros (k + 1) ++ negsuc 0 ∷ []) (omega arith) (omega arith) (omega (arith, length-append (zeros (k + 1)) (negsuc 0 ∷ []), length-replicate (k + 1) (pos 0)))
      (All-append IsSmall (zeros (k + 1)) (negsuc 0 ∷ []) (all-zeros (k + 1)) (one (negsuc 0) (omega arith)))

  pub full-within : IsSetWithin ((k + 1) ∷ [])
  full-within = (omega arith, All-cons (λ q. q < 2 ^ 16) (k + 1) [] (omega arith) (All-nil (λ q. q < 2 ^ 16)), tt)
