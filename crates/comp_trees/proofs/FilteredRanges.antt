-- The states that can meet one, one by one.
use Rattle.std.proofs.Common.{◌≡◌, ℕ, ◌+◌, ◌<◌, ◌≤◌, Bool, List, [], ◌∷◌, ◌++◌, subst, ap, sym, ◌∙◌, arith}
use Rattle.std.specs.Prelude.{filter, All, if◌then◌else◌}
use Rattle.std.specs.List.{range_with_len}
use Rattle.std.proofs.lemmas.List.Elements.{All-filter, filter-append}
use Rattle.base_laws.proofs.Ranges.{all_range, range_one_more}

-- one more state is tested
pub filter_range_more : (test : ℕ → Bool) (q : ℕ) (passes : Bool) (before after : List ℕ) → passes ≡ test q → before ≡ filter test (range_with_len 0 q) → after ≡ before ++ (if passes then (q ∷ []) else []) → after ≡ filter test (range_with_len 0 (q + 1))
filter_range_more test q passes before after p b e =
    e
    ∙ ap (λ (c : Bool). before ++ (if c then (q ∷ []) else [])) p
    ∙ ap (λ xs. xs ++ (if test q then (q ∷ []) else [])) b
    ∙ sym (ap (filter test) (range_one_more q) ∙ filter-append test (range_with_len 0 q) (q ∷ []))

-- what is kept of a range is in it
pub filter_range_below : (test : ℕ → Bool) (n m : ℕ) (kept : List ℕ) → n ≤ m → kept ≡ filter test (range_with_len 0 n) → All (λ q. q < m) kept
filter_range_below test n m kept l e =
    subst (λ xs. All (λ q. q < m) xs) (sym e) (All-filter test (λ q. q < m) (range_with_len 0 n) (all_range (λ q. q < m) 0 n (λ q a b. omega arith)))
