use Rattle.std.proofs.Common.{length, refl, ap, sym, subst, ◌∙◌}
use Rattle.std.specs.Prelude.{Option}
use Rattle.pop_leaf.specs.LeafModel.{LeafModel}
use Rattle.pop_leaf.specs.FirstFault.{first_below}
use Rattle.pop_leaf.proofs.HushedMoves.{hushed_length}
use Rattle.cert_base.specs.ValidLayers.{moves_of_layers}
use Rattle.cert_sets.specs.declared.fault.SetFault.{SetFault}
use Rattle.cert_sets.specs.SetSearch.{FindsLeft}
use Rattle.cert_sets.specs.SetTests.{is_unguarded}
use Rattle.cert_sets.proofs.Guarded.{all_guarded, least_unguarded}
use Rattle.cert_sets.proofs.GoodSets.{guarded_by}
use Rattle.cert_sets.proofs.stay.left_by.Goals as goal

pub first_unguarded-requires-clause-same : goal.first_unguarded-requires-clause-same
first_unguarded-requires-clause-same c =
    let given = c.args.given.now in
    ap (λ (l : LeafModel). length l.moves) given.alone ∙ hushed_length (moves_of_layers given.layers.now) 0 given.leaf.now.moves

pub returns-in-Some : goal.returns-in-Some
returns-in-Some c =
    let leaf = c.args.given.now.leaf.now in
    let set = c.args.members.now in (
      refl,
      least_unguarded leaf (moves_of_layers c.args.given.now.layers.now) set c.in-Some.t
          (sym (c.first_unguarded.ensures ∙ ap (λ (l : LeafModel). first_below (length leaf.moves) (is_unguarded leaf l set)) c.args.given.now.alone) ∙ c.in-Some.is),
    )

pub returns : goal.returns
returns c =
    let leaf = c.args.given.now.leaf.now in
    let moves = moves_of_layers c.args.given.now.layers.now in
    let set = c.args.members.now in
    let inside = all_guarded leaf moves set
    (sym (c.first_unguarded.ensures ∙ ap (λ (l : LeafModel). first_below (length leaf.moves) (is_unguarded leaf l set)) c.args.given.now.alone) ∙ c.in_default.is) in
    subst (λ (o : Option SetFault). FindsLeft leaf moves c.args.number set o) (sym c.woken_fault.ensures)
    (guarded_by leaf moves set c.args.number c.in_ok-found.found inside c.in_ok-found.ensures)
