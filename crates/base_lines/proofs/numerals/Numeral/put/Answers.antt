use Rattle.std.proofs.Common.{◌≡◌, ℕ, ◌+◌, ◌-◌, List, take, arith, rules, ap, subst, ◌∙◌}
use borrow.Rule.Slice.PartMut.{put_mid}
use Rattle.base_lines.specs.Places.{IsPlaced}
use Rattle.base_lines.proofs.Places.{placed_part}
use Rattle.base_lines.proofs.numerals.Numeral.put.Goals as goal

pub returns-clause-placed : goal.returns-clause-placed
returns-clause-placed c =
    let at = c.args.at in
    let old = c.args.buffer.now in
    let copied = c.copy_from_slice.new.self in
    let len = c.self.inside.len in
    let same : take len copied ≡ c.args.self.now = ap (take len) c.copy_from_slice.ensures.after ∙ c.self.view_is in
    subst (λ (digits : List ℕ). IsPlaced old (put_mid at (at + 4 - at) old copied) at digits (at + len)) same
    (placed_part old copied at (at + 4 - at) len (omega (arith, c.requires)) (search rules) (omega (arith, c.self.invariant)))
