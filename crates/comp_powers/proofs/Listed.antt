-- The multipliers as the code lists them.
use Rattle.std.proofs.Common.{◌≡◌, ◌∙◌, ℕ, ◌<◌, ◌≤◌, List, [], ◌∷◌, ◌++◌, length, map, get_or, zero-add, refl, ap, arith}
use Rattle.std.specs.Prelude.{ℤ, pos, All, not, ◌==◌, ◌&&◌, slice_index_or}
use Rattle.std.specs.List.{range_with_len}
use Rattle.std.proofs.lemmas.List.Elements.{All-weaker}
use Rattle.std.proofs.lemmas.List.Sums.{length-filter, count_by-le-length}
use Rattle.std.proofs.lemmas.List.FromFn.{get_or-map-range_with_len, length-range_with_len, length-map-range_with_len}
use Rattle.pop_leaf.specs.LeafModel.{LeafModel}
use Rattle.cert_base.specs.FactsAndCases.{states_of, can_meet_in}
use Rattle.comp_trees.specs.LeaderTree.{company_of}
use Rattle.comp_trees.proofs.FilteredRanges.{filter_range_below}
use Rattle.comp_trees.proofs.SameMix.{map-same}
use Rattle.comp_powers.specs.PowersProof.{mix_of, alone_zero, high_own, low_own, nothing_own}

module _ (leaf : LeafModel) where
  company-below : (p : ℕ) → All (λ q. q < length leaf.states) (company_of leaf p)
  company-below p = filter_range_below (λ q. not (q == p) && can_meet_in leaf p q) (length leaf.states) (length leaf.states) (company_of leaf p) (omega arith) refl

  pub company-most : (p : ℕ) → length (company_of leaf p) ≤ length leaf.states
  company-most p =
      let test = λ (q : ℕ). not (q == p) && can_meet_in leaf p q in
      omega (arith, length-filter test (states_of leaf), count_by-le-length test (states_of leaf), length-range_with_len 0 (length leaf.states))

  pub long_of : (f : ℕ → ℤ) (flows : List ℤ) → flows ≡ map f (states_of leaf) → length flows ≡ length leaf.states
  long_of f flows e = ap length e ∙ length-map-range_with_len f 0 (length leaf.states)

  -- those of the states that one rules out
  pub out_are : (p : ℕ) (f : ℕ → ℤ) (out : List ℤ) → out ≡ map f (states_of leaf) → map (λ q. slice_index_or out q (pos 0)) (company_of leaf p) ≡ map f (company_of leaf p)
  out_are p f out e =
      map-same (λ q. slice_index_or out q (pos 0)) f (company_of leaf p)
      (All-weaker (λ q. q < length leaf.states) (λ q. slice_index_or out q (pos 0) ≡ f q) (λ q l. ap (λ xs. get_or xs q (pos 0)) e ∙ get_or-map-range_with_len f 0 (length leaf.states) q q (pos 0) l (zero-add q)) (company_of leaf p) (company-below p))

  pub mix_as : (f : ℕ → ℤ) (wrong opened : ℤ) (flows own is : List ℤ) → flows ≡ map f (states_of leaf) → own ≡ is → (((flows ++ pos 0 ∷ pos 0 ∷ wrong ∷ []) ++ opened ∷ []) ++ own) ≡ mix_of leaf f wrong opened is
  mix_as f wrong opened flows own is ef eo =
      ap (λ fs. ((fs ++ pos 0 ∷ pos 0 ∷ wrong ∷ []) ++ opened ∷ []) ++ own) ef
      ∙ ap (λ os. ((map f (states_of leaf) ++ pos 0 ∷ pos 0 ∷ wrong ∷ []) ++ opened ∷ []) ++ os) eo

  pub high_own_as : (f : ℕ → ℤ) (out own : List ℤ) → out ≡ map f (states_of leaf) → own ≡ pos 0 ∷ pos 0 ∷ pos 0 ∷ map (λ q. slice_index_or out q (pos 0)) (company_of leaf 1) → own ≡ high_own leaf f
  high_own_as f out own e o = o ∙ ap (λ xs. pos 0 ∷ pos 0 ∷ pos 0 ∷ xs) (out_are 1 f out e)

  pub nothing_own_as : (f : ℕ → ℤ) (out own : List ℤ) → out ≡ map f (states_of leaf) → own ≡ pos 0 ∷ map (λ q. slice_index_or out q (pos 0)) (company_of leaf 3) → own ≡ nothing_own leaf f
  nothing_own_as f out own e o = o ∙ ap (λ xs. pos 0 ∷ xs) (out_are 3 f out e)

  pub low_own_as : (k : ℕ) (here : ℤ) (f by : ℕ → ℤ) (out twins last is own : List ℤ) → out ≡ map f (states_of leaf) → twins ≡ map by (range_with_len 0 k) → last ≡ is → own ≡ pos 0 ∷ ((here ∷ map (λ q. slice_index_or out q (pos 0)) (company_of leaf 0) ++ alone_zero leaf 0) ++ (twins ++ last)) → own ≡ low_own leaf k here f by is
  low_own_as k here f by out twins last is own e t l o =
      o ∙ ap (λ xs. pos 0 ∷ ((here ∷ xs ++ alone_zero leaf 0) ++ (twins ++ last))) (out_are 0 f out e)
      ∙ ap (λ xs. pos 0 ∷ ((here ∷ map f (company_of leaf 0) ++ alone_zero leaf 0) ++ (xs ++ last))) t
      ∙ ap (λ xs. pos 0 ∷ ((here ∷ map f (company_of leaf 0) ++ alone_zero leaf 0) ++ (map by (range_with_len 0 k) ++ xs))) l
