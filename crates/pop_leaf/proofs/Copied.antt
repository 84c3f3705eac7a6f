-- Lists that are copied one item after the other.
use Rattle.std.proofs.Common.{◌≡◌, ℕ, ◌+◌, List, [], ◌∷◌, ◌++◌, take, ap, sym, ◌∙◌}
use Rattle.std.specs.Prelude.{Some, slice_get}
use Rattle.base_laws.proofs.Lists.{take_one_more}

pub one_copied : {A : Type 0} (xs : List A) (k : ℕ) (x : A) {before after : List A} → before ≡ take k xs → slice_get xs k ≡ Some x → after ≡ before ++ x ∷ [] → after ≡ take (k + 1) xs
one_copied xs k x b e p = p ∙ ap (λ ys. ys ++ x ∷ []) b ∙ sym (take_one_more xs k x e)
