-- The facts of a goal that lists no set.
use Rattle.std.proofs.Common.{◌≡◌, ◌≢◌, ◌⊎◌, inl, inr, ℕ, Bool, true, false, not, ◌&&◌, ◌||◌, List, [], ◌∷◌, ◌++◌, map, refl, ap, sym, ◌∙◌}
use Rattle.std.specs.Prelude.{ℤ, ◌==◌, Contains, filter, negsuc, slice_index_or}
use Rattle.std.proofs.lemmas.Bool.{cases_Bool}
use Rattle.std.proofs.lemmas.Bool.Decides.{eqb_tells}
use Rattle.base_laws.proofs.Lists.{has_first, has_later}
use Rattle.pop_leaf.specs.LeafModel.{LeafModel}
use Rattle.cert_base.specs.declared.fact.Fact.TheVariants.{Ge, Holds}
use Rattle.cert_base.specs.Rows.{state_row}
use Rattle.cert_base.specs.FactsAndCases.{indicator, is_in, states_of, flow, two_agents_fact, differs, wrong_output_fact, outside_fact, states_with}
use Rattle.pop_leaf.proofs.Kept.{listed_kept}
use Rattle.cert_goals.specs.GoalLaws.{FactsWithoutSets}

and_false : (b : Bool) → (b && false) ≡ false
and_false true = refl
and_false false = refl

-- what is in a filtered list
filtered_in : (test : ℕ → Bool) (xs : List ℕ) (q : ℕ) → is_in (filter test xs) q ≡ (is_in xs q && test q)
filtered_in test [] q = refl
filtered_in test (y ∷ xs) q = by (cases_Bool (test y)) (eqb_tells y q) (filtered_in test xs q)
  where
    by : (test y ≡ true) ⊎ (test y ≡ false) → ((y == q) ≡ true) × (y ≡ q) ⊎ ((y == q) ≡ false) × (y ≢ q) → is_in (filter test xs) q ≡ (is_in xs q && test q) → is_in (filter test (y ∷ xs)) q ≡ (is_in (y ∷ xs) q && test q)
    by (inl t) (inl same) rest =
        let passes : test q ≡ true = ap test (sym same.1) ∙ t in rw (t, same.0, passes) refl
    by (inl t) (inr other) rest = rw (t, other.0) rest
    by (inr f) (inl same) rest =
        let fails : test q ≡ false = ap test (sym same.1) ∙ f in
        rw f (rest ∙ (let e : (is_in xs q && test q) ≡ (((y == q) || is_in xs q) && test q) = rw (same.0, fails) (and_false (is_in xs q)) in e))
    by (inr f) (inr other) rest = rw (f, other.0) rest

mapped_same : (g h : ℕ → ℤ) (xs : List ℕ) → ((q : ℕ) → Contains xs q → g q ≡ h q) → map g xs ≡ map h xs
mapped_same g h [] same = refl
mapped_same g h (x ∷ xs) same =
    ap (λ z. z ∷ map g xs) (same x (has_first x xs))
    ∙ ap (λ zs. h x ∷ zs) (mapped_same g h xs (λ q c. same q (has_later q x xs c)))

not_not : (b : Bool) → not (true && not b) ≡ b
not_not true = refl
not_not false = refl

outside_is : (leaf : LeafModel) (value : Bool) → outside_fact leaf (states_with leaf value) ≡ wrong_output_fact leaf value
outside_is leaf value =
    ap (λ coefs. Ge (state_row leaf coefs (negsuc 0)))
    (mapped_same (λ q. indicator (not (is_in (states_with leaf value) q))) (λ q. indicator (differs value (slice_index_or leaf.outputs q false))) (states_of leaf) same)
  where
    same : (q : ℕ) → Contains (states_of leaf) q → indicator (not (is_in (states_with leaf value) q)) ≡ indicator (differs value (slice_index_or leaf.outputs q false))
    same q c =
        ap (λ b. indicator (not b)) (filtered_in (λ z. not (differs value (slice_index_or leaf.outputs z false))) (states_of leaf) q)
        ∙ ap (λ b. indicator (not (b && not (differs value (slice_index_or leaf.outputs q false))))) (listed_kept (states_of leaf) q c)
        ∙ ap indicator (not_not (differs value (slice_index_or leaf.outputs q false)))

pub without_sets : FactsWithoutSets
without_sets leaf p value =
    ap (λ fact. map (flow leaf) (states_of leaf) ++ two_agents_fact leaf ∷ Holds p value ∷ fact ∷ []) (outside_is leaf value)
