-- Whether two crowds are the same can be told.
use Rattle.std.proofs.Common.{◌≡◌, ℕ, Bool, true, false, ◌&&◌, ◌==◌, List, [], ◌∷◌, refl, ap, ◌∙◌}
use Rattle.std.specs.Prelude.{Decides}
use Rattle.std.proofs.lemmas.Bool.{eq-eqb, eqb-true}
use Rattle.pop_leaf.specs.NetModel.{CrowdModel}
use Rattle.pop_leaf.proofs.Reactions.{and_left, and_right}
use Rattle.base_laws.proofs.Lists.{heads, tails}

both : (a b : Bool) → a ≡ true → b ≡ true → a && b ≡ true
both true b e f = f
both false b e f = cc

module _ {X : Type 0} (same : X → X → Bool) (tells : (x y : X) → Decides (same x y) (x ≡ y)) where
  same_each : List X → List X → Bool
  same_each [] [] = true
  same_each [] (y ∷ ys) = false
  same_each (x ∷ xs) [] = false
  same_each (x ∷ xs) (y ∷ ys) = same x y && same_each xs ys

  each_tells : (xs ys : List X) → Decides (same_each xs ys) (xs ≡ ys)
  unfolding same_each
  each_tells [] [] = (λ e. refl, λ e. refl)
  each_tells [] (y ∷ ys) = (λ e. cc, λ e. cc)
  each_tells (x ∷ xs) [] = (λ e. cc, λ e. cc)
  each_tells (x ∷ xs) (y ∷ ys) =
      let first = tells x y in
      let rest = each_tells xs ys in (
        λ e. let h : x ≡ y = first.0 (and_left (same x y) (same_each xs ys) e) in
            let t : xs ≡ ys = rest.0 (and_right (same x y) (same_each xs ys) e) in
            ap (λ z. z ∷ xs) h ∙ ap (λ zs. y ∷ zs) t,
        λ e. both (same x y) (same_each xs ys) (first.1 (heads x y xs ys e)) (rest.1 (tails x y xs ys e)),
      )

numbers_tell : (x y : ℕ) → Decides (x == y) (x ≡ y)
numbers_tell x y = (λ e. eqb-true x y e, λ e. eq-eqb x y e)

pub same_crowds : CrowdModel → CrowdModel → Bool
same_crowds c d = same_each (same_each ◌==◌ numbers_tell) (each_tells ◌==◌ numbers_tell) c d

pub crowds_tell : (c d : CrowdModel) → Decides (same_crowds c d) (c ≡ d)
unfolding same_crowds
crowds_tell c d = each_tells (same_each ◌==◌ numbers_tell) (each_tells ◌==◌ numbers_tell) c d
