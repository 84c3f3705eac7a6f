-- Cases with few enough facts.
use Rattle.std.proofs.Common.{◌≡◌, ℕ, ◌+◌, ◌-◌, ◌≤◌, ◌<◌, List, [], ◌∷◌, length, refl, arith}
use Rattle.std.specs.Prelude.{nat_le, nat_eq, false}
use Rattle.std.specs.List.{list_all}
use Rattle.std.proofs.lemmas.Bool.{leb-true, le-leb, lt-leb}
use Rattle.std.proofs.lemmas.Bool.Decides.{nat_tests}
use Rattle.std.specs.Cmp.{both_ways}
use Rattle.cert_base.specs.declared.fact.Fact.{Fact}
use Rattle.cert_tree.specs.Refusals.{all_fit}

same_room : (n k : ℕ) → n ≤ 65536 → nat_le k (65536 - n) ≡ nat_le (n + k) 65536
same_room n k l =
    both_ways _ _
    (λ e. le-leb (n + k) 65536 (let h = leb-true k (65536 - n) e in omega (arith, h)))
    (λ e. le-leb k (65536 - n) (let h = leb-true (n + k) 65536 e in omega (arith, h)))

pub short-fit : (facts : List Fact) (cases : List (List Fact)) → length facts ≤ 65536 → list_all (λ own. nat_le (length own) (65536 - length facts)) cases ≡ all_fit facts cases
short-fit facts [] l = refl
short-fit facts (own ∷ cases) l = rw (same_room (length facts) (length own) l, short-fit facts cases l) refl

-- too many facts leave no room for a case
pub long-fit : (facts : List Fact) (cases : List (List Fact)) → 65536 < length facts → nat_eq (length cases) 0 ≡ all_fit facts cases
long-fit facts [] l = refl
long-fit facts (own ∷ cases) l =
    let some : nat_eq (length (own ∷ cases)) 0 ≡ false = grind (arith, nat_tests) in
    rw (lt-leb (length facts + length own) 65536 (omega (arith, l))) some
