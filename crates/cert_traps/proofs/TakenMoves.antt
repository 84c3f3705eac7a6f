-- Which moves the steps of a leaf take, by tests of moves, and the facts that say that none was taken.
use Rattle.std.proofs.Common.{◌≡◌, ◌≢◌, ◌⊎◌, inl, inr, ℕ, ◌+◌, ◌<◌, Bool, true, false, length, refl, ap, sym, ◌∙◌, zero-add, arith}
use Rattle.std.specs.Prelude.{Some, pos, ◌==◌, slice_get, All}
use Rattle.std.proofs.lemmas.Int.{ints}
use Rattle.std.proofs.lemmas.Bool.{eq-eqb}
use Rattle.std.proofs.lemmas.Bool.Decides.{eqb_tells}
use Rattle.std.proofs.lemmas.List.Elements.{All-map}
use Rattle.std.proofs.lemmas.Option.{slice_get_within}
use Rattle.pop_leaf.specs.declared.leaf.Move.{Move}
use Rattle.pop_leaf.specs.LeafModel.{LeafModel, one_at}
use Rattle.cert_base.specs.declared.fact.Fact.TheVariants.{Eq}
use Rattle.cert_base.specs.Rows.{single_row, move_variable}
use Rattle.cert_base.specs.Valuation.{Valuation, MeetsFact}
use Rattle.cert_base.specs.FactsAndCases.{no_moves}
use Rattle.cert_base.proofs.Indicators.{all_places}
use Rattle.cert_traps.proofs.PresentEnds.{one_times}

pub sum_zero : (a b : ℕ) → a + b ≡ 0 → (a ≡ 0) × (b ≡ 0)
sum_zero a b e = ((let f : a ≡ 0 = omega (arith, e) in f), (let f : b ≡ 0 = omega (arith, e) in f))

module _ (leaf : LeafModel) (test : Move → Bool) (number : ℕ) (taken : Move) (listed : slice_get leaf.moves number ≡ Some taken) where
  -- if no move that passes the test is taken, the one that is taken fails it
  pub taken_fails : ((n : ℕ) (t : Move) → slice_get leaf.moves n ≡ Some t → test t ≡ true → one_at number n ≡ 0) → test taken ≡ false
  taken_fails none = go (test taken) refl
    where
      go : (b : Bool) → test taken ≡ b → b ≡ false
      go false e = refl
      go true e =
          let zero_times = none number taken listed e in
          let once : one_at number number ≡ 1 = rw (eq-eqb number number refl) refl in
          absurd (omega (arith, zero_times, once))

  -- and conversely
  pub others_untaken : test taken ≡ false → (n : ℕ) (t : Move) → slice_get leaf.moves n ≡ Some t → test t ≡ true → one_at number n ≡ 0
  others_untaken fails n t h e = go (eqb_tells number n)
    where
      go : ((number == n) ≡ true) × (number ≡ n) ⊎ ((number == n) ≡ false) × (number ≢ n) → one_at number n ≡ 0
      go (inr k) = rw k.0 refl
      go (inl k) =
          let there : slice_get leaf.moves n ≡ Some taken = ap (slice_get leaf.moves) (sym k.1) ∙ listed in
          let same : t ≡ taken = cc in
          let f : true ≡ false = sym e ∙ ap test same ∙ fails in
          cc

pub single_none : (count : Valuation) (v : ℕ) → count v ≡ 0 → MeetsFact count (Eq (single_row v (pos 1) (pos 0)))
single_none count v e = let o = one_times (count v) in omega (arith, ints, o, e)

-- if no move that passes a test was taken, the counts meet the facts that say so
pub untaken_met : (leaf : LeafModel) (count : Valuation) (test : Move → Bool) (times : ℕ → ℕ)
    → ((n : ℕ) → n < length leaf.moves → count (move_variable leaf n) ≡ times n)
    → ((n : ℕ) (t : Move) → slice_get leaf.moves n ≡ Some t → test t ≡ true → times n ≡ 0) → All (MeetsFact count) (no_moves leaf test)
untaken_met leaf count test times is f =
    All-map (MeetsFact count) (λ t. Eq (single_row (move_variable leaf t) (pos 1) (pos 0))) _
    (all_places (λ t. MeetsFact count (Eq (single_row (move_variable leaf t) (pos 1) (pos 0)))) test 0 leaf.moves
    (λ j t h e. single_none count (move_variable leaf (0 + j)) (ap (λ n. count (move_variable leaf n)) (zero-add j) ∙ is j (slice_get_within leaf.moves j t h) ∙ f j t h e)))
