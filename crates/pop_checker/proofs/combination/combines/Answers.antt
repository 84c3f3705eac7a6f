use Rattle.std.proofs.Common.{◌≡◌, ◌==◌, ℕ, true, false, Some, None, ap}
use Rattle.std.proofs.lemmas.Bool.{eqb-true, eq-eqb}
use Rattle.std.specs.Prelude.{◌↔◌, Option, IsTrue}
use Rattle.std.specs.Option.{option_eq}
use Rattle.pop_checker.proofs.Combined.{whole_begins}
use Rattle.pop_checker.proofs.combination.combines.Goals as goal

is_zero : (o : Option ℕ) → IsTrue (option_eq ◌==◌ o (Some 0)) ↔ (o ≡ Some 0)
is_zero None = ((λ e. let f : false ≡ true = e in absurd cc), (λ e. absurd cc))
is_zero (Some k) = (
  (λ e. ap (λ (n : ℕ). Some n) (eqb-true k 0 e)),
  (λ e. (let is : k ≡ 0 = cc in eq-eqb k 0 is)),
)

pub returns : goal.returns
returns c =
    let begins = rw (c.item_count.ensures, c.tree.ensures.value) at c.begin_of-begin.ensures in
    let whole = whole_begins c.args.parts.now c.args.net.now.combine c.args.pred.now.tree c.begin_of-begin.result begins in
    let zero_is = is_zero c.begin_of-begin.result in
    rw c.eq.ensures ((λ is. whole.1 (zero_is.0 is)), (λ is. zero_is.1 (whole.0 is)))
