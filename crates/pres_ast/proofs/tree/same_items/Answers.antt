use Rattle.std.proofs.Common.{rules, ◌≡◌}
use Rattle.std.proofs.lemmas.Bool.Decides.{Decides-int_eq}
use Rattle.std.proofs.lemmas.Slice.Eq.{slice_eq-Decides}
use Rattle.std.specs.Bool.{Decides}
use Rattle.pres_ast.proofs.tree.same_items.Goals as goal

pub returns : goal.returns
returns c =
    let told : Decides c.eq.result (c.as_slice.result.now ≡ c.as_slice-2.result.now) =
    slice_eq-Decides Decides-int_eq _ _ _ c.eq.ensures in
    let same : Decides c.eq.result (c.args.a.now ≡ c.args.b.now) = (rw (c.as_slice.ensures, c.as_slice-2.ensures) at told) in
    search (rules, same)
