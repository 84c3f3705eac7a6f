-- Laws of options.
use Rattle.std.proofs.Common.{◌≡◌, ℕ, zero, suc, ◌<◌, List, [], ◌∷◌, length, refl, sym, ◌∙◌, arith}
use Rattle.std.specs.Prelude.{Option, Some, None, IsSomeAnd, option_and_then, slice_get}
use Rattle.std.proofs.lemmas.Option.{option_and_then_some, same_Some}

-- an option has one value
pub same_value : {A : Type 0} (o : Option A) (x y : A) → o ≡ Some x → o ≡ Some y → x ≡ y
same_value o x y e f = same_Some x y (sym e ∙ f)

-- a result of two steps has a result of the first
pub some_before : {A B : Type 0} (f : A → Option B) (o : Option A) (b : B) → option_and_then f o ≡ Some b
    → (a : A) × (o ≡ Some a) × (f a ≡ Some b)
some_before f o b e = option_and_then_some f o b e (λ a is next. (a, is, next))

-- a value that satisfies P
pub some_and : {A : Type 0} (o : Option A) (P : A → Type 0) → IsSomeAnd o P → (x : A) × (o ≡ Some x) × P x
some_and None P h = absurd h
some_and (Some x) P h = (x, refl, h)

-- a last step that keeps the value
pub then_itself : {A : Type 0} (o : Option A) → option_and_then (λ x. (let p : Option A = Some x in p)) o ≡ o
then_itself None = refl
then_itself (Some x) = refl

-- an item within a list
pub item_within : {A : Type 0} (xs : List A) (k : ℕ) → k < length xs → (x : A) × (slice_get xs k ≡ Some x)
item_within [] k l = absurd (omega arith)
item_within (x ∷ xs) zero l = (x, refl)
item_within (x ∷ xs) (suc k) l = item_within xs k (omega arith)
