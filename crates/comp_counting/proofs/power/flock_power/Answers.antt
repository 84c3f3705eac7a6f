use Rattle.std.proofs.Common.{◌≡◌, ◌∙◌, ap, sym, rules, w64, SFits, Bool, true, ℕ}
use Rattle.std.specs.Prelude.{ℤ, Option, None, find, if◌then◌else◌}
use Rattle.std.specs.List.{range_with_len, list_all}
use Rattle.std.specs.Ordering.{int_eq}
use Rattle.std.proofs.lemmas.Int.{to_z-of_z}
use Rattle.comp_counting.specs.declared.limits.TheConstants.{POWER_LIMIT}
use Rattle.comp_counting.specs.FlockAtoms.{is_flock_coefficient, flock_bound}
use Rattle.comp_counting.proofs.power.flock_power.Goals as goal

pub returns-then-are_flock : goal.returns-then-are_flock
returns-then-are_flock c =
    let fits : SFits w64 c.args.bound = search rules in
    let found : ℤ → Option ℕ = λ z. find (λ k. int_eq z (flock_bound k)) (range_with_len 1 POWER_LIMIT) in
    let yes : list_all is_flock_coefficient c.args.coefs.now ≡ true = sym c.are_flock.ensures ∙ c.if-are_flock.true in
    c.power_by.ensures ∙ ap found (to_z-of_z w64 c.args.bound fits) ∙ sym (ap (λ (b : Bool). if b then found c.args.bound else None) yes)
