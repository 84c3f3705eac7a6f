-- Numbers in decimal.
use Rattle.std.proofs.Common.{◌≡◌, ℕ, ◌+◌, ◌-◌, ◌*◌, ◌/◌, ◌%◌, ◌^◌, ◌<◌, ◌≤◌, true, List, [], ◌∷◌, ◌++◌, length, refl, ◌∙◌, arith, length-append, decimal}
use Rattle.std.specs.List.{list_all}
use Rattle.std.proofs.lemmas.List.Folds.{list_all-append}
use Rattle.std.proofs.lemmas.Bool.{le-leb}
use Rattle.std.proofs.lemmas.Fmt.{decimal_by_steps}
use Rattle.pres_tokens.specs.Tokens.{digit}
use Rattle.pres_read.specs.Numbers.{value_after, value_of_digits}

-- digits that write the number
pub record Writes (n : ℕ) (ds : List ℕ) : Type 0 where
  pub digits : list_all digit ds ≡ true
  pub value : value_of_digits ds ≡ n
  pub some : 0 < length ds

value_push : (m : ℕ) (ds : List ℕ) (c : ℕ) → value_after m (ds ++ c ∷ []) ≡ value_after m ds * 10 + (c - 48)
value_push m [] c = refl
value_push m (d ∷ ds) c = value_push (m * 10 + (d - 48)) ds c

digit_of : (n : ℕ) → n < 10 → digit (48 + n) ≡ true
digit_of n h = grind (arith, le-leb)

one_writes : (n : ℕ) → n < 10 → Writes n ((48 + n) ∷ [])
one_writes n h = record { digits = rw (digit_of n h) refl; value = omega arith; some = omega arith }

more_writes : (n : ℕ) (ds : List ℕ) → 10 ≤ n → Writes (n / 10) ds → Writes n (ds ++ ((48 + n % 10) ∷ []))
more_writes n ds h w = record {
  digits = list_all-append digit ds ((48 + n % 10) ∷ []) ∙ rw (w.digits, digit_of (n % 10) (omega arith)) refl;
  value = (let push = value_push 0 ds (48 + n % 10) in let v = w.value in omega (arith, push, v));
  some = omega (arith, length-append ds ((48 + n % 10) ∷ []));
}

pub decimal_writes : (n : ℕ) → n < 2 ^ 64 → Writes n (decimal n)
decimal_writes = decimal_by_steps Writes one_writes more_writes
