-- Meetings don't depend on the order of the agents: what two agents do in one order they can do in every order.
use Rattle.std.proofs.Common.{◌≡◌, ℕ, ◌<◌, List, [], ◌∷◌, length, refl, ap, sym, subst, ◌∙◌, arith}
use Rattle.std.specs.Prelude.{slice_get, slice_set}
use Rattle.std.specs.List.{swap}
use Rattle.std.specs.List.Sorted.{apply_swaps, SwapsInRange, IsPermutation}
use Rattle.std.proofs.lemmas.List.{length-set}
use Rattle.std.proofs.lemmas.List.Sorted.{IsPermutation-sym}
use Rattle.std.proofs.lemmas.Option.{slice_get_within}
use Rattle.pop_leaf.specs.Step.{Meets}
use Rattle.pop_leaf.specs.Terminal.{IsTerminal}
use Rattle.pop_net.proofs.Tuples.{meets_length}
use Rattle.base_laws.proofs.Swaps.{turn, turn_twice, get-swap, swap-set, length-apply_swaps, same_before}

module _ {A : Type 0} (Change : A → A → A → A → Type 0) where
  meets_swapped : (before after : List A) (i j : ℕ) → i < length before → j < length before → Meets Change before after → Meets Change (swap before i j) (swap after i j)
  meets_swapped before after i j li lj s =
      record {
        a = turn i j s.a;
        b = turn i j s.b;
        different = λ e. s.different (sym (turn_twice i j s.a) ∙ ap (turn i j) e ∙ turn_twice i j s.b);
        x = s.x;
        y = s.y;
        x' = s.x';
        y' = s.y';
        a_had = get-swap before i j (turn i j s.a) li lj ∙ ap (slice_get before) (turn_twice i j s.a) ∙ s.a_had;
        b_had = get-swap before i j (turn i j s.b) li lj ∙ ap (slice_get before) (turn_twice i j s.b) ∙ s.b_had;
        change = s.change;
        others_stay = stays;
      }
    where
      stays : swap after i j ≡ slice_set (slice_set (swap before i j) (turn i j s.a) s.x') (turn i j s.b) s.y'
      stays =
          let la = slice_get_within before s.a s.x s.a_had in
          let lb = slice_get_within before s.b s.y s.b_had in
          let same = length-set before s.a s.x' in
          ap (λ zs. swap zs i j) s.others_stay
          ∙ swap-set (slice_set before s.a s.x') i j s.b s.y' (omega (arith, li, same)) (omega (arith, lj, same)) (omega (arith, lb, same))
          ∙ ap (λ zs. slice_set zs (turn i j s.b) s.y') (swap-set before i j s.a s.x' li lj la)

  meets_moved : (before after : List A) (ms : List (ℕ × ℕ)) → SwapsInRange (length before) ms → Meets Change before after → Meets Change (apply_swaps before ms) (apply_swaps after ms)
  meets_moved before after [] h s = s
  meets_moved before after (m ∷ ms) h s =
      let same = length-apply_swaps before ms in
      meets_swapped (apply_swaps before ms) (apply_swaps after ms) m.0 m.1 (omega (arith, h.0, same)) (omega (arith, h.1, same))
      (meets_moved before after ms h.2 s)

  -- the same meeting is possible in another order of the agents, and leads to the same crowd in that order
  pub meets_permuted : (before after other : List A) → Meets Change before after → IsPermutation before other → (next : List A) × Meets Change other next × IsPermutation after next
  meets_permuted before after other s p = (
    apply_swaps after p.moves,
    subst (λ c. Meets Change c (apply_swaps after p.moves)) (sym p.is) (meets_moved before after p.moves p.below s),
    record { moves = p.moves; below = subst (λ n. SwapsInRange n p.moves) (sym (meets_length Change before after s)) p.below; is = refl },
  )

  -- a terminal crowd is terminal in every order
  pub terminal_permuted : (c d : List A) → IsTerminal (Meets Change) c → IsPermutation c d → IsTerminal (Meets Change) d
  terminal_permuted c d terminal p e s =
      let q = IsPermutation-sym c d p in
      let moved : Meets Change c (apply_swaps e q.moves) = subst (λ x. Meets Change x (apply_swaps e q.moves)) (sym q.is) (meets_moved d e q.moves q.below s) in
      same_before e d q.moves (subst (λ n. SwapsInRange n q.moves) (sym (meets_length Change d e s)) q.below) q.below
      (terminal (apply_swaps e q.moves) moved ∙ q.is)
