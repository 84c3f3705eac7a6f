-- Lists whose numbers ascend, item by item and as a whole.
use Rattle.std.proofs.Common.{◌≡◌, ℕ, true, nat_lt, List, [], ◌∷◌, ◌++◌, map, Option, Some, refl, sym, ap, ◌∙◌}
use Rattle.std.proofs.lemmas.Bool.{ltb-true, lt-ltb}
use Rattle.std.proofs.lemmas.List.{map-append}
use Rattle.base_json.specs.Shapes.{last_of, comes_after}
use Rattle.base_json.proofs.Readers.{EachFrom}
use Rattle.base_json.proofs.Ascending.{last_of-push}
use Rattle.cert_base.specs.ProofLimits.{IsAscending}

module _ {A : Type 0} (key : A → ℕ) where
  -- the key is greater than that of the last one found
  abbrev pub Follows : List A → A → Type 0
  Follows found x = comes_after (last_of (map key found)) (key x) ≡ true

  last_key : (found : List A) (x : A) → last_of (map key (found ++ x ∷ [])) ≡ Some (key x)
  last_key found x = ap last_of (map-append key found (x ∷ [])) ∙ last_of-push (map key found) (key x)

  goes_up : (found xs : List A) (k : ℕ) → last_of (map key found) ≡ Some k → EachFrom Follows found xs → IsAscending (k ∷ map key xs)
  goes_up found [] k last each_one = tt
  goes_up found (x ∷ xs) k last each_one =
      let after : nat_lt k (key x) ≡ true = ap (λ (o : Option ℕ). comes_after o (key x)) (sym last) ∙ each_one.0 in
      (ltb-true k (key x) after, goes_up (found ++ x ∷ []) xs (key x) (last_key found x) each_one.1)

  goes_up_again : (found xs : List A) (k : ℕ) → last_of (map key found) ≡ Some k → IsAscending (k ∷ map key xs) → EachFrom Follows found xs
  goes_up_again found [] k last up = tt
  goes_up_again found (x ∷ xs) k last up = (
    ap (λ (o : Option ℕ). comes_after o (key x)) last ∙ lt-ltb k (key x) up.0,
    goes_up_again (found ++ x ∷ []) xs (key x) (last_key found x) up.1,
  )

  pub follows-ascending : (xs : List A) → EachFrom Follows [] xs → IsAscending (map key xs)
  follows-ascending [] each_one = tt
  follows-ascending (x ∷ xs) each_one = goes_up (x ∷ []) xs (key x) refl each_one.1

  pub ascending-follows : (xs : List A) → IsAscending (map key xs) → EachFrom Follows [] xs
  ascending-follows [] up = tt
  ascending-follows (x ∷ xs) up = (refl, goes_up_again (x ∷ []) xs (key x) refl up)

module _ {A : Type 0} (P : List A → A → Type 0) (Q : List A → A → Type 0) where
  pub EachFrom-both : (found xs : List A) → EachFrom P found xs → EachFrom Q found xs → EachFrom (λ f x. P f x × Q f x) found xs
  EachFrom-both found [] p q = tt
  EachFrom-both found (x ∷ xs) p q = ((p.0, q.0), EachFrom-both (found ++ x ∷ []) xs p.1 q.1)

pub map_same : (xs : List ℕ) → map (λ x. x) xs ≡ xs
map_same [] = refl
map_same (x ∷ xs) = ap (λ ys. x ∷ ys) (map_same xs)
