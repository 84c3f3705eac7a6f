-- The sizes of weights.
use Rattle.std.proofs.Common.{◌≡◌, ◌⊎◌, inl, inr, ℕ, ◌^◌, ◌≤◌, List, ◌∷◌, refl, ap, sym, ◌∙◌, arith, w64, to_z, of_z, SFits}
use Rattle.std.specs.Prelude.{ℤ, ◌-ℤ◌, pos, negsuc, nat_abs, fold, All, Contains}
use Rattle.std.specs.Int.{int_max, int_min}
use Rattle.std.proofs.lemmas.Int.{ints, fold-int_min_reached, fold-int_max_reached, to_z-of_z}
use Rattle.std.proofs.lemmas.List.Elements.{All-contains, All-head, All-tail, All-same}
use Rattle.cert_layers.specs.LayerFaults.{IsWeight}

one_of : (first : ℤ) (others : List ℤ) (w : ℤ) → IsWeight first → All IsWeight others → (w ≡ first) ⊎ Contains others w → IsWeight w
one_of first others w f o (inl same) = rw same f
one_of first others w f o (inr there) = All-contains IsWeight others w o there

apart : (g l : ℤ) → IsWeight g → IsWeight l → nat_abs (g -ℤ l) ≤ 2 ^ 41
apart g l a b = omega (arith, ints)

pub spread-small : (first : ℤ) (others : List ℤ) → IsWeight first → All IsWeight others → nat_abs (fold int_max first others -ℤ fold int_min first others) ≤ 2 ^ 41
spread-small first others f o =
    apart (fold int_max first others) (fold int_min first others)
    (one_of first others (fold int_max first others) f o (fold-int_max_reached first others (fold int_max first others) refl))
    (one_of first others (fold int_min first others) f o (fold-int_min_reached first others (fold int_min first others) refl))

-- a weight fits its type
pub weight-fits : (w : ℤ) → IsWeight w → SFits w64 w
weight-fits (pos n) small = omega arith
weight-fits (negsuc n) small = omega arith

pub spread-at : (weights : List ℤ) (first : ℤ) (others : List ℤ) (greatest least : ℤ) (result : ℕ) → All IsWeight weights → weights ≡ first ∷ others → SFits w64 greatest → SFits w64 least
    → greatest ≡ fold int_max (to_z w64 (of_z w64 first)) others → least ≡ fold int_min (to_z w64 (of_z w64 first)) others
    → result ≡ nat_abs (to_z w64 (of_z w64 greatest) -ℤ to_z w64 (of_z w64 least)) → result ≤ 2 ^ 41
spread-at weights first others greatest least result small whole gf lf g l r =
    let all = All-same IsWeight (first ∷ others) weights (sym whole) small in
    let first_small = All-head IsWeight first others all in
    let f : to_z w64 (of_z w64 first) ≡ first = to_z-of_z w64 first (weight-fits first first_small) in
    let e : to_z w64 (of_z w64 greatest) ≡ fold int_max first others = to_z-of_z w64 greatest gf ∙ g ∙ ap (λ z. fold int_max z others) f in
    let k : to_z w64 (of_z w64 least) ≡ fold int_min first others = to_z-of_z w64 least lf ∙ l ∙ ap (λ z. fold int_min z others) f in
    rw (r, e, k) (spread-small first others first_small (All-tail IsWeight first others all))
