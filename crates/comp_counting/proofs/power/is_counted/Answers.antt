use Rattle.std.proofs.Common.{◌≡◌, ◌∙◌, ◌&&◌, Bool, true, ap, sym, rules, w64, SFits}
use Rattle.std.specs.Prelude.{nat_abs}
use Rattle.std.proofs.lemmas.Int.{to_z-of_z}
use Rattle.comp_counting.specs.FlockAtoms.{has_sign, is_size, is_counted}
use Rattle.comp_counting.proofs.power.is_counted.Goals as goal

pub returns-then-has_sign : goal.returns-then-has_sign
unfolding is_counted
returns-then-has_sign c =
    let fits : SFits w64 c.args.coef = search rules in
    let same = to_z-of_z w64 c.args.coef fits in
    let sign : has_sign c.args.says c.args.coef ≡ true = sym (c.has_sign.ensures ∙ ap (has_sign c.args.says) same) ∙ c.if-has_sign.true in
    c.is_size.ensures ∙ ap (is_size c.args.enough) (c.unsigned_abs.ensures.value ∙ ap nat_abs same) ∙ ap (λ (b : Bool). b && is_size c.args.enough (nat_abs c.args.coef)) (sym sign)
