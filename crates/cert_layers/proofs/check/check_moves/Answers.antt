use Rattle.std.proofs.Common.{sym, ◌∙◌}
use Rattle.cert_layers.proofs.Failing.{all_listed, first_not_listed, all_lower, first_not_lower, all_asleep, first_woken}
use Rattle.cert_layers.proofs.Valid.{valid-each}
use Rattle.cert_layers.proofs.check.check_moves.Goals as goal

pub returns-in-Some-clause-fault : goal.returns-in-Some-clause-fault
returns-in-Some-clause-fault c =
    (c.requires.placed.shaped, first_not_listed c.args.leaf.now c.args.layers.now c.args.layer_of_move.now c.requires.placed c.in-Some.t (sym c.first_unlisted.ensures ∙ c.in-Some.is))

pub returns-in-Some-first_not_lower-clause-fault : goal.returns-in-Some-first_not_lower-clause-fault
returns-in-Some-first_not_lower-clause-fault c = (
  c.requires.placed.shaped,
  all_listed c.args.leaf.now c.args.layers.now c.args.layer_of_move.now c.requires.placed (sym c.first_unlisted.ensures ∙ c.in_default.is),
  first_not_lower c.args.leaf.now c.args.layers.now c.args.layer_of_move.now c.requires.placed c.in-Some-first_not_lower.t (sym c.first_not_lower.ensures ∙ c.in-Some-first_not_lower.is),
)

pub returns-in-Some-first_waking-clause-fault : goal.returns-in-Some-first_waking-clause-fault
returns-in-Some-first_waking-clause-fault c =
    let woken = first_woken c.args.leaf.now c.args.layers.now c.args.layer_of_move.now c.requires.placed c.in_ok-table.table c.requires.formed c.in_ok-table.ensures c.requires.within.few c.in-Some-first_waking.t c.in-Some-first_waking.u c.in-Some-first_waking.ensures in (
      c.requires.placed.shaped,
      all_listed c.args.leaf.now c.args.layers.now c.args.layer_of_move.now c.requires.placed (sym c.first_unlisted.ensures ∙ c.in_default.is),
      all_lower c.args.leaf.now c.args.layers.now c.args.layer_of_move.now c.requires.placed (sym c.first_not_lower.ensures ∙ c.in_default-first_not_lower.is),
      woken.0,
      woken.1,
    )

pub returns-clause-valid : goal.returns-clause-valid
returns-clause-valid c =
    valid-each c.args.leaf.now c.args.layers.now c.requires.placed.shaped
    (all_listed c.args.leaf.now c.args.layers.now c.args.layer_of_move.now c.requires.placed (sym c.first_unlisted.ensures ∙ c.in_default.is))
    (all_lower c.args.leaf.now c.args.layers.now c.args.layer_of_move.now c.requires.placed (sym c.first_not_lower.ensures ∙ c.in_default-first_not_lower.is))
    (all_asleep c.args.leaf.now c.args.layers.now c.args.layer_of_move.now c.requires.placed c.in_ok-table.table c.requires.formed c.in_ok-table.ensures c.requires.within.few c.in-None.ensures)
