-- Marks, one number after the other.
use Rattle.std.proofs.Common.{◌≡◌, ◌≢◌, ◌⊎◌, inl, inr, ℕ, zero, suc, ◌+◌, ◌<◌, Bool, true, false, ◌||◌, List, [], ◌∷◌, length, take, replicate, refl, ap, sym, ◌∙◌, arith}
use Rattle.std.specs.Prelude.{Some, slice_get, slice_set, ◌==◌}
use Rattle.std.proofs.lemmas.Bool.{ne_eqb}
use Rattle.std.proofs.lemmas.Bool.Decides.{eqb_tells}
use Rattle.std.proofs.lemmas.List.{length-set, length-replicate}
use Rattle.std.proofs.lemmas.List.Folds.{list_any-append}
use Rattle.std.proofs.Math.Bool.{or-true, or-false}
use Rattle.base_laws.proofs.Lists.{take_one_more, get-set_same, slice_get-set_apart}
use Rattle.pop_leaf.specs.Hushed.{is_kept}
use Rattle.pop_leaf.specs.Marks.{AreMarks}

replicated : {A : Type 0} (x : A) (count n : ℕ) → n < count → slice_get (replicate count x) n ≡ Some x
replicated x zero n l = absurd (omega arith)
replicated x (suc count) zero l = refl
replicated x (suc count) (suc n) l = replicated x count n (omega arith)

pub none_marked : (count : ℕ) (marks : List Bool) → marks ≡ replicate count false → AreMarks count [] marks
none_marked count marks e = record {
  long = ap length e ∙ length-replicate count false;
  each = λ n l. ap (λ ms. slice_get ms n) e ∙ replicated false count n l;
}

module _ (count : ℕ) (kept : List ℕ) (k m : ℕ) (m_is : slice_get kept k ≡ Some m) where
  more_kept : (n : ℕ) → is_kept (take (k + 1) kept) n ≡ (is_kept (take k kept) n || ((m == n) || false))
  more_kept n = ap (λ ms. is_kept ms n) (take_one_more kept k m m_is) ∙ list_any-append (λ x. x == n) (take k kept) (m ∷ [])

  other_kept : (n : ℕ) → m ≢ n → is_kept (take k kept) n ≡ is_kept (take (k + 1) kept) n
  other_kept n ne = sym (more_kept n ∙ rw (ne_eqb m n ne) (or-false (is_kept (take k kept) n)))

  -- one more number is marked; past the last one nothing changes
  pub one_marked : (marks after : List Bool) → AreMarks count (take k kept) marks → after ≡ slice_set marks m true → AreMarks count (take (k + 1) kept) after
  one_marked marks after h e = record {
    long = ap length e ∙ length-set marks m true ∙ h.long;
    each = λ n l. ap (λ ms. slice_get ms n) e ∙ at n l (eqb_tells m n);
  }
    where
      at : (n : ℕ) → n < count → ((m == n) ≡ true) × (m ≡ n) ⊎ ((m == n) ≡ false) × (m ≢ n) → slice_get (slice_set marks m true) n ≡ Some (is_kept (take (k + 1) kept) n)
      at n l (inl same) =
          ap (λ i. slice_get (slice_set marks m true) i) (sym same.1)
          ∙ get-set_same marks m true (let size = h.long in let e = same.1 in omega (arith, size, e, l))
          ∙ ap Some (sym (more_kept n ∙ rw same.0 (or-true (is_kept (take k kept) n))))
      at n l (inr ne) =
          slice_get-set_apart marks m n true ne.1 ∙ h.each n l ∙ ap Some (other_kept n ne.1)
