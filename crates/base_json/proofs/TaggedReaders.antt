-- What the readers of signed and ascending numbers, pairs and tagged lists read, and that they read each such value.
use Rattle.std.proofs.Common.{◌≡◌, ℕ, ◌≤◌, true, cond, nat_le, List, [], ◌∷◌, Option, Some, option_and_then, ℤ, Result, Ok, refl, sym, ap, subst, ◌∙◌, arith}
use Rattle.std.specs.Prelude.{nat_abs}
use Rattle.std.proofs.lemmas.Bool.{leb-true, le-leb}
use Rattle.serde_json.specs.Data.{Data, Items}
use Rattle.serde_json.specs.Find.{as_number, as_i64, as_array}
use Rattle.base_json.specs.declared.fault.Why.TheVariants.{Range}
use Rattle.base_json.specs.Faults.{Fault, broken}
use Rattle.base_json.specs.Paths.{item_path}
use Rattle.base_json.specs.Shapes.{listed, of_kind, of_size, number_at, integer_at, comes_after, ascending_at, items_at, the_two, pair_at, word_at, one_after, two_after}
use Rattle.base_json.specs.Parts.{IsNumber, IsInteger, HasItems, IsOnly, AreBoth, BeginsWith}
use Rattle.base_json.proofs.Steps.{bind_ok, guard_ok, same_ok}
use Rattle.base_json.proofs.Readers.{kind_takes, text_at-takes, text_at-again, number_at-takes, number_at-again}

pub integer_at-takes : (path : List ℕ) (most : ℕ) (d : Data) (z : ℤ) → integer_at path most d ≡ Ok z → IsInteger z d × (nat_abs z ≤ most)
unfolding integer_at
integer_at-takes path most d z e =
    let a = bind_ok (of_kind path (option_and_then as_i64 (as_number d))) (λ y. of_size path most y) z e in
    let g = guard_ok (nat_le (nat_abs a.0) most) path Range a.0 z a.2 in (
      kind_takes path (option_and_then as_i64 (as_number d)) a.0 a.1 ∙ ap (λ (y : ℤ). Some y) g.1,
      subst (λ (y : ℤ). nat_abs y ≤ most) g.1 (leb-true (nat_abs a.0) most g.0),
    )

pub integer_at-again : (path : List ℕ) (most : ℕ) (d : Data) (z : ℤ) → IsInteger z d → nat_abs z ≤ most → integer_at path most d ≡ Ok z
unfolding integer_at
integer_at-again path most d z is hi = rw (is, le-leb (nat_abs z) most hi) refl

pub ascending_at-takes : (path : List ℕ) (most : ℕ) (before : Option ℕ) (d : Data) (n : ℕ) → ascending_at path most before d ≡ Ok n → IsNumber n d × (n ≤ most) × (comes_after before n ≡ true)
unfolding ascending_at
ascending_at-takes path most before d n e =
    let a = bind_ok (number_at path 0 most d) (λ m. cond (comes_after before m) (Ok m) (broken path Range)) n e in
    let g = guard_ok (comes_after before a.0) path Range a.0 n a.2 in
    let r = number_at-takes path 0 most d a.0 a.1 in
    subst (λ (m : ℕ). IsNumber m d × (m ≤ most) × (comes_after before m ≡ true)) g.1 (r.0, r.2, g.0)

pub ascending_at-again : (path : List ℕ) (most : ℕ) (before : Option ℕ) (d : Data) (n : ℕ) → IsNumber n d → n ≤ most → comes_after before n ≡ true → ascending_at path most before d ≡ Ok n
unfolding ascending_at
ascending_at-again path most before d n is hi after = rw (number_at-again path 0 most d n is (omega arith) hi, after) refl

pub items_at-takes : (path : List ℕ) (d : Data) (ds : List Data) → items_at path d ≡ Ok ds → (items : Items) × (as_array d ≡ Some items) × (listed items ≡ ds)
unfolding items_at
items_at-takes path d ds e =
    let a = bind_ok (of_kind path (as_array d)) (λ is. (let o : Result (List Data) Fault = Ok (listed is) in o)) ds e in
    (a.0, kind_takes path (as_array d) a.0 a.1, same_ok (listed a.0) ds a.2)

pub items_at-again : (path : List ℕ) (d : Data) (items : Items) → as_array d ≡ Some items → items_at path d ≡ Ok (listed items)
unfolding items_at
items_at-again path d items is = rw is refl

the_two_takes : (path : List ℕ) (ds : List Data) (p : Data × Data) → the_two path ds ≡ Ok p → ds ≡ p.0 ∷ p.1 ∷ []
the_two_takes path [] p e = absurd cc
the_two_takes path (a ∷ []) p e = absurd cc
the_two_takes path (a ∷ b ∷ []) p e = ap (λ (q : Data × Data). q.0 ∷ q.1 ∷ []) (same_ok (a, b) p e)
the_two_takes path (a ∷ b ∷ c ∷ ds) p e = absurd cc

module _ (Is Are : Data → Type 0) where
  pub pair_at-takes : (path : List ℕ) (d : Data) (p : Data × Data) → pair_at path d ≡ Ok p → Is p.0 → Are p.1 → HasItems (AreBoth Is Are) d
  unfolding pair_at
  pair_at-takes path d p e is are =
      let a = bind_ok (items_at path d) (λ ds. the_two path ds) p e in
      let t = items_at-takes path d a.0 a.1 in
      (t.0, t.1, subst (AreBoth Is Are) (sym (t.2 ∙ the_two_takes path a.0 p a.2)) (is, are))

  two_again : (path : List ℕ) (ds : List Data) → AreBoth Is Are ds → (p : Data × Data) × (the_two path ds ≡ Ok p) × Is p.0 × Are p.1
  two_again path [] are = absurd are
  two_again path (a ∷ []) are = absurd are
  two_again path (a ∷ b ∷ []) are = ((a, b), refl, are.0, are.1)
  two_again path (a ∷ b ∷ c ∷ ds) are = absurd are

  pub pair_at-again : (path : List ℕ) (d : Data) → HasItems (AreBoth Is Are) d → (p : Data × Data) × (pair_at path d ≡ Ok p) × Is p.0 × Are p.1
  unfolding pair_at
  pair_at-again path d is =
      let t = two_again path (listed is.0) is.2 in
      (t.0, rw (items_at-again path d is.0 is.1) t.1, t.2, t.3)

  pub two_after-takes : (path word : List ℕ) (ds : List Data) (p : Data × Data) → word_at path ds ≡ Ok word → two_after path ds ≡ Ok p → Is p.0 → Are p.1 → BeginsWith word (AreBoth Is Are) ds
  unfolding word_at two_after
  two_after-takes path word [] p w e is are = absurd cc
  two_after-takes path word (a ∷ []) p w e is are = absurd cc
  two_after-takes path word (a ∷ b ∷ []) p w e is are = absurd cc
  two_after-takes path word (a ∷ b ∷ c ∷ []) p w e is are =
      let q : b ∷ c ∷ [] ≡ p.0 ∷ p.1 ∷ [] = ap (λ (q : Data × Data). q.0 ∷ q.1 ∷ []) (same_ok (b, c) p e) in
      (text_at-takes (item_path path 0) a word w, subst (AreBoth Is Are) (sym q) (is, are))
  two_after-takes path word (a ∷ b ∷ c ∷ d ∷ ds) p w e is are = absurd cc

  pub two_after-again : (path word : List ℕ) (ds : List Data) → BeginsWith word (AreBoth Is Are) ds → (p : Data × Data) × (word_at path ds ≡ Ok word) × (two_after path ds ≡ Ok p) × Is p.0 × Are p.1
  unfolding word_at two_after
  two_after-again path word [] are = absurd are
  two_after-again path word (a ∷ []) are = absurd are.1
  two_after-again path word (a ∷ b ∷ []) are = absurd are.1
  two_after-again path word (a ∷ b ∷ c ∷ []) are = ((b, c), text_at-again (item_path path 0) a word are.0, refl, are.1.0, are.1.1)
  two_after-again path word (a ∷ b ∷ c ∷ d ∷ ds) are = absurd are.1

module _ (Is : Data → Type 0) where
  pub one_after-takes : (path word : List ℕ) (ds : List Data) (d : Data) → word_at path ds ≡ Ok word → one_after path ds ≡ Ok d → Is d → BeginsWith word (IsOnly Is) ds
  unfolding word_at one_after
  one_after-takes path word [] d w e is = absurd cc
  one_after-takes path word (a ∷ []) d w e is = absurd cc
  one_after-takes path word (a ∷ b ∷ []) d w e is = (text_at-takes (item_path path 0) a word w, subst Is (sym (same_ok b d e)) is)
  one_after-takes path word (a ∷ b ∷ c ∷ ds) d w e is = absurd cc

  pub one_after-again : (path word : List ℕ) (ds : List Data) → BeginsWith word (IsOnly Is) ds → (d : Data) × (word_at path ds ≡ Ok word) × (one_after path ds ≡ Ok d) × Is d
  unfolding word_at one_after
  one_after-again path word [] only = absurd only
  one_after-again path word (a ∷ []) only = absurd only.1
  one_after-again path word (a ∷ b ∷ []) only = (b, text_at-again (item_path path 0) a word only.0, refl, only.1)
  one_after-again path word (a ∷ b ∷ c ∷ ds) only = absurd only.1
