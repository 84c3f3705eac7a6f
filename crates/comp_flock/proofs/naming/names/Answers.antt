use Rattle.comp_trees.proofs.Members.{map_range_push}
use Rattle.comp_flock.specs.CountLeaf.{count_state_name}
use Rattle.comp_flock.proofs.naming.names.Goals as goal

pub loop-q-preserved : goal.loop-q-preserved
loop-q-preserved c =
    map_range_push (count_state_name c.args.worths.now.list.now) c.loop-q.q c.loop-q.names.items c.push.new.self.items c.in_ok-name_of.field-0 c.loop-q.invariant c.in_ok-name_of.ensures c.in_ok-push.ensures.items
