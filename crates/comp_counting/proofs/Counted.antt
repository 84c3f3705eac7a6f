-- What the agents of a variable count for.
use Rattle.std.proofs.Common.{◌≡◌, ◌∙◌, ℕ, zero, suc, ◌<◌, Bool, true, false, List, length, get_or, refl, ap, sym, arith}
use Rattle.std.specs.Prelude.{ℤ, pos, negsuc, neg_ℤ, if◌then◌else◌, not, nat_abs}
use Rattle.std.specs.List.{list_all}
use Rattle.std.proofs.lemmas.Int.{ints}
use Rattle.std.proofs.lemmas.Bool.{leb-true, and_parts}
use Rattle.std.proofs.lemmas.List.{get_or-map}
use Rattle.std.proofs.lemmas.List.Sums.{AllPass-from_list_all}
use Rattle.comp_counting.specs.FlockAtoms.{is_counted, has_sign, is_size}
use Rattle.comp_counting.proofs.Opened.{opened_row}

sized : (says : Bool) (a : ℤ) → has_sign says a ≡ true → pos (nat_abs a) ≡ (if says then neg_ℤ a else a)
sized true (pos zero) e = refl
sized true (pos (suc n)) e = absurd (let l = leb-true (suc n) 0 e in omega (arith, l))
sized true (negsuc n) e = refl
sized false (pos n) e = refl
sized false (negsuc n) e = absurd (let f : false ≡ true = e in cc)

module _ (says : Bool) (c : ℕ) (coefs : List ℤ) (are : list_all (is_counted says c) coefs ≡ true) where
  pub counted : (i : ℕ) → i < length coefs → (has_sign says (get_or coefs i (pos 0)) ≡ true) × (is_size c (nat_abs (get_or coefs i (pos 0))) ≡ true)
  unfolding is_counted
  counted i l =
      let a = get_or coefs i (pos 0) in
      and_parts (has_sign says a) (is_size c (nat_abs a)) (AllPass-from_list_all (is_counted says c) coefs are i (pos 0) l)

  sized-at : (i : ℕ) → i < length coefs → pos (nat_abs (get_or coefs i (pos 0))) ≡ (if says then neg_ℤ (get_or coefs i (pos 0)) else get_or coefs i (pos 0))
  sized-at i l = sized says (get_or coefs i (pos 0)) (counted i l).0

-- the opened fact counts an agent for its size, or against it
pub enough-row : (says : Bool) (c : ℕ) (coefs : List ℤ) (i : ℕ) → list_all (is_counted says c) coefs ≡ true → i < length coefs → get_or (opened_row coefs says) i (pos 0) ≡ pos (nat_abs (get_or coefs i (pos 0)))
enough-row true c coefs i are l = get_or-map neg_ℤ coefs i (pos 0) (pos 0) l ∙ sym (sized-at true c coefs are i l)
enough-row false c coefs i are l = sym (sized-at false c coefs are i l)

pub too-few-row : (says : Bool) (c : ℕ) (coefs : List ℤ) (i : ℕ) → list_all (is_counted says c) coefs ≡ true → i < length coefs → get_or (opened_row coefs (not says)) i (pos 0) ≡ neg_ℤ (pos (nat_abs (get_or coefs i (pos 0))))
too-few-row true c coefs i are l =
    let e : pos (nat_abs (get_or coefs i (pos 0))) ≡ neg_ℤ (get_or coefs i (pos 0)) = sized-at true c coefs are i l in
    let h : get_or coefs i (pos 0) ≡ neg_ℤ (pos (nat_abs (get_or coefs i (pos 0)))) = omega (arith, ints, e) in
    h
too-few-row false c coefs i are l = get_or-map neg_ℤ coefs i (pos 0) (pos 0) l ∙ ap neg_ℤ (sym (sized-at false c coefs are i l))
