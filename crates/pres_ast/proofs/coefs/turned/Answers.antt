use Rattle.std.proofs.Common.{◌≡◌, ◌≤◌, ◌∙◌, nat_abs, map, neg_ℤ, ℤ, pos, ◌-ℤ◌, arith, ap, sym, w64, get_or, to_z, of_z, FitsSigned, ◌++◌, ◌∷◌, []}
use Rattle.std.proofs.lemmas.Int.{ints, to_z-of_z, fits_signed_from_abs}
use Rattle.std.proofs.lemmas.List.{map_more, take_all}
use Rattle.pres_ast.specs.declared.limits.TheConstants.{COEFFICIENT_LIMIT}
use Rattle.pres_ast.proofs.coefs.turned.Goals as goal

-- the code's number is the negated coefficient
turn : (a : ℤ) → nat_abs a ≤ COEFFICIENT_LIMIT → pos 0 -ℤ to_z w64 (of_z w64 a) ≡ neg_ℤ a
turn a small = rw (to_z-of_z w64 a (fits_signed_from_abs w64 a (omega arith))) (omega (arith, ints))

turned_fits : (a : ℤ) → nat_abs a ≤ COEFFICIENT_LIMIT → FitsSigned w64 (neg_ℤ a)
turned_fits a small = fits_signed_from_abs w64 (neg_ℤ a) (omega (arith, ints))

pub loop-coef-preserved : goal.loop-coef-preserved
loop-coef-preserved c =
    let i = c.loop-coef.coef-index in
    let a = get_or c.args.coefs.now i (pos 0) in
    let small = c.requires i (pos 0) c.loop-coef-test.true in
    let stored : to_z w64 (of_z w64 (pos 0 -ℤ to_z w64 (of_z w64 a))) ≡ neg_ℤ a =
    rw (turn a small) (to_z-of_z w64 (neg_ℤ a) (turned_fits a small)) in
    c.in_ok-push.ensures.items
    ∙ (ap (λ b. c.loop-coef.turned.items ++ b ∷ []) stored
    ∙ (ap (λ bs. bs ++ neg_ℤ a ∷ []) c.loop-coef.invariant
    ∙ sym (map_more neg_ℤ c.args.coefs.now i (pos 0) c.loop-coef-test.true)))

pub returns : goal.returns
returns c = c.loop-coef.invariant ∙ ap (map neg_ℤ) (take_all c.loop-coef.coef-index c.args.coefs.now c.loop-coef-test.false)
