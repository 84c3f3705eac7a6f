-- A crowd has one last line.
use Rattle.std.proofs.Common.{◌≡◌, ℕ, ◌<◌, ◌≤◌, ◌⊎◌, inl, inr, Option, Some, None, refl, ap, ◌∙◌, arith}
use Rattle.std.specs.Prelude.{All}
use Rattle.pop_leaf.specs.NetModel.{NetModel, CrowdModel, IsTuple}
use Rattle.terminal_test.specs.Pairs.{IsLeastPair}
use Rattle.terminal_test.proofs.Ends.{not_terminal}
use Rattle.tool_bundles.specs.LastPair.{IsLast}

same_pair : (a b c d : ℕ) → (a < c) ⊎ ((c ≡ a) × (b ≤ d)) → (c < a) ⊎ ((a ≡ c) × (d ≤ b)) → (a ≡ c) × (b ≡ d)
same_pair a b c d (inl l) (inl m) = absurd (omega arith)
same_pair a b c d (inl l) (inr m) = absurd (omega (arith, m.0))
same_pair a b c d (inr l) (inl m) = absurd (omega (arith, l.0))
same_pair a b c d (inr l) (inr m) = (m.0, omega (arith, l.1, m.1))

-- two least pairs are one
one_pair : (net : NetModel) (crowd : CrowdModel) (a b c d : ℕ) → IsLeastPair net crowd a b → IsLeastPair net crowd c d → (a ≡ c) × (b ≡ d)
one_pair net crowd a b c d p q = same_pair a b c d (p.least c d q.enabled) (q.least a b p.enabled)

module _ (net : NetModel) (crowd : CrowdModel) (tuples : All (IsTuple net) crowd) where
  pub one_last : (v w : Option (ℕ × ℕ)) → IsLast net crowd v → IsLast net crowd w → v ≡ w
  one_last None None p q = refl
  one_last None (Some (a, b)) p q = absurd (not_terminal net crowd tuples a b q.enabled p)
  one_last (Some (a, b)) None p q = absurd (not_terminal net crowd tuples a b p.enabled q)
  one_last (Some (a, b)) (Some (c, d)) p q =
      let both = one_pair net crowd a b c d p q in ap (λ (x : ℕ). Some (x, b)) both.0 ∙ ap (λ (y : ℕ). Some (c, y)) both.1
