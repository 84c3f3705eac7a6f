use Rattle.std.proofs.Common.{◌∙◌, arith}
use Rattle.std.specs.Prelude.{Some, None}
use Rattle.std.proofs.lemmas.List.{length-map}
use Rattle.std.proofs.lemmas.Option.{slice_get_within}
use Rattle.pop_leaf.specs.LeafModel.{IsLeaf}
use Rattle.pop_leaf.proofs.Quiet.{All-slice_get}
use Rattle.pop_net.specs.Lanes.{tuple_of, crowd_of}
use Rattle.pop_settle.specs.Settlement.{states_in}
use Rattle.pop_settle.specs.Search.{FindsTake}
use Rattle.pop_settle.proofs.Hushed.{quiet_layer}
use Rattle.pop_settle.proofs.Layering.{AtLayer, at_layer, moves_in, found_some, found_none, Advanced, advanced}
use Rattle.pop_settle.proofs.Taking.{agent_in}
use Rattle.pop_settle.proofs.Walking.{valid_ranges, walk_one, walk_join}
use Rattle.pop_settle.proofs.settling.settle_layer.Goals.{In-Some, In_ok-make, After-as_slice-moves, After-drop-ends-2}
use Rattle.pop_settle.proofs.settling.settle_layer.Goals as goal

at : (c : After-as_slice-moves) → AtLayer c.args.by.now.net.now c.args.by.now.proof.now c.args.place.now.number c.args.place.now.layer.now c.leaf-leaf.result.now c.args.place.now.leaf
at c =
    at_layer c.args.by.now.net.now c.args.by.now.proof.now c.args.place.now.leaf c.args.place.now.number c.args.place.now.layer.now c.leaf-leaf.result.now c.requires.layers.layers c.leaf-leaf.ensures c.requires.layer_is

pub invariant_of-list-clause-in_range : goal.invariant_of-list-clause-in_range
invariant_of-list-clause-in_range c =
    rw c.as_slice-moves.ensures (moves_in c.args.by.now.net.now c.args.by.now.proof.now c.args.place.now.leaf c.args.place.now.number c.args.place.now.layer.now c.leaf-leaf.result.now (at (goal.at.invariant_of-list-clause-in_range c).After-as_slice-moves))

pub run_ends-requires : goal.run_ends-requires
run_ends-requires c =
    rw c.as_slice-moves.ensures (moves_in c.args.by.now.net.now c.args.by.now.proof.now c.args.place.now.leaf c.args.place.now.number c.args.place.now.layer.now c.leaf-leaf.result.now (at (goal.at.run_ends-requires c).After-as_slice-moves))

pub invariant_of-list-clause-formed : goal.invariant_of-list-clause-formed
invariant_of-list-clause-formed c =
    All-slice_get IsLeaf c.args.by.now.net.now.leaves c.args.place.now.leaf c.leaf-leaf.result.now c.requires.formed.leaves c.leaf-leaf.ensures

-- the take that was found
found : (c : In-Some) → FindsTake c.leaf-leaf.result.now c.args.place.now.leaf c.args.place.now.layer.now.moves (states_in c.args.place.now.leaf (crowd_of c.args.by.now.net.now c.takes.walk.words.items)) (Some c.in-Some.take) c.next_take.new.groups.groups.items
found c =
    found_some c.leaf-leaf.result.now c.args.place.now.leaf c.as_slice-moves.result.now c.args.place.now.layer.now.moves _ c.in_ok-take.field-0 c.next_take.new.groups.groups.items c.in-Some.take c.as_slice-moves.ensures c.in-Some.is
    (c.in_ok-take.ensures.found (states_in c.args.place.now.leaf (crowd_of c.args.by.now.net.now c.takes.walk.words.items)) c.takes.invariant.grouped)

pub make-requires-clause-leaf_in : goal.make-requires-clause-leaf_in
make-requires-clause-leaf_in c =
    let f = found (goal.at.make-requires-clause-leaf_in c).In-Some in rw f.0 c.requires.leaf_in

pub make-requires-clause-step_in : goal.make-requires-clause-step_in
make-requires-clause-step_in c =
    let f = found (goal.at.make-requires-clause-step_in c).In-Some in
    let within = slice_get_within c.leaf-leaf.result.now.moves c.in-Some.take.step f.1.move f.1.move_is in
    rw (f.0, c.leaf-leaf.ensures) within

pub make-requires-clause-different : goal.make-requires-clause-different
make-requires-clause-different c = (found (goal.at.make-requires-clause-different c).In-Some).1.least.0.different

pub make-requires-clause-first_in : goal.make-requires-clause-first_in
make-requires-clause-first_in c =
    let f = found (goal.at.make-requires-clause-first_in c).In-Some in
    let crowd = crowd_of c.args.by.now.net.now c.takes.walk.words.items in
    omega (arith, agent_in c.args.place.now.leaf crowd c.in-Some.take.a f.1.move.p f.1.least.0.first, length-map c.takes.walk.words.items (tuple_of c.args.by.now.net.now))

pub make-requires-clause-second_in : goal.make-requires-clause-second_in
make-requires-clause-second_in c =
    let f = found (goal.at.make-requires-clause-second_in c).In-Some in
    let crowd = crowd_of c.args.by.now.net.now c.takes.walk.words.items in
    omega (arith, agent_in c.args.place.now.leaf crowd c.in-Some.take.b f.1.move.q f.1.least.0.second, length-map c.takes.walk.words.items (tuple_of c.args.by.now.net.now))

-- what the take makes of the crowd
made : (c : In_ok-make) → Advanced c.args.by.now.net.now c.args.by.now.proof.now c.args.place.now.number c.args.place.now.layer.now c.leaf-leaf.result.now (crowd_of c.args.by.now.net.now c.takes.walk.words.items) c.in-Some.take c.next_take.new.groups.groups.items (crowd_of c.args.by.now.net.now c.make.new.self.words.items) c.args.place.now.leaf
made c =
    advanced c.args.by.now.net.now c.args.by.now.proof.now c.args.place.now.number c.args.place.now.layer.now c.leaf-leaf.result.now (crowd_of c.args.by.now.net.now c.takes.walk.words.items) c.in-Some.take c.next_take.new.groups.groups.items c.args.place.now.leaf (crowd_of c.args.by.now.net.now c.make.new.self.words.items)
    c.requires.formed.leaves (valid_ranges c.args.by.now.net.now c.takes.walk.words.items c.takes.invariant.walked.valid)
    (at_layer c.args.by.now.net.now c.args.by.now.proof.now c.args.place.now.leaf c.args.place.now.number c.args.place.now.layer.now c.leaf-leaf.result.now c.requires.layers.layers c.leaf-leaf.ensures c.requires.layer_is)
    c.takes.invariant.quiet
    (found_some c.leaf-leaf.result.now c.args.place.now.leaf c.as_slice-moves.result.now c.args.place.now.layer.now.moves _ c.in_ok-take.field-0 c.next_take.new.groups.groups.items c.in-Some.take c.as_slice-moves.ensures c.in-Some.is
    (c.in_ok-take.ensures.found (states_in c.args.place.now.leaf (crowd_of c.args.by.now.net.now c.takes.walk.words.items)) c.takes.invariant.grouped))
    c.in_ok-make.ensures.taken

pub takes-smaller : goal.takes-smaller
takes-smaller c = (made c).falls

pub takes-preserved : goal.takes-preserved
takes-preserved c =
    let m = made c in
    record {
      walked = walk_join c.args.by.now.net.now c.args.by.now.proof.now c.args.walk.now c.takes.walk c.make.new.self c.takes.invariant.walked
          (walk_one c.args.by.now.net.now c.args.by.now.proof.now c.takes.walk c.make.new.self c.in-Some.take m.next c.in_ok-make.ensures.taken c.in_ok-make.ensures.takes c.make.ensures.valid c.make.ensures.agents);
      count = c.next_take.ensures.count ∙ c.takes.invariant.count;
      grouped = m.grouped;
      quiet = m.quiet;
    }

-- no take was found
none : (c : After-drop-ends-2) → FindsTake c.leaf-leaf.result.now c.args.place.now.leaf c.args.place.now.layer.now.moves (states_in c.args.place.now.leaf (crowd_of c.args.by.now.net.now c.takes.walk.words.items)) None c.next_take.new.groups.groups.items
none c =
    found_none c.leaf-leaf.result.now c.args.place.now.leaf c.as_slice-moves.result.now c.args.place.now.layer.now.moves _ c.in_ok-take.field-0 c.next_take.new.groups.groups.items c.as_slice-moves.ensures c.in_default.is
    (c.in_ok-take.ensures.found (states_in c.args.place.now.leaf (crowd_of c.args.by.now.net.now c.takes.walk.words.items)) c.takes.invariant.grouped)

pub returns-clause-grouped : goal.returns-clause-grouped
returns-clause-grouped c = (none c).0

pub returns-clause-quiet : goal.returns-clause-quiet
returns-clause-quiet c =
    let a = at_layer c.args.by.now.net.now c.args.by.now.proof.now c.args.place.now.leaf c.args.place.now.number c.args.place.now.layer.now c.leaf-leaf.result.now c.requires.layers.layers c.leaf-leaf.ensures c.requires.layer_is in
    quiet_layer c.args.by.now.net.now c.args.by.now.proof.now (crowd_of c.args.by.now.net.now c.takes.walk.words.items) c.args.place.now.leaf c.args.place.now.number c.leaf-leaf.result.now a.part c.args.place.now.layer.now a.leaf_is a.part_is a.layer_is c.takes.invariant.quiet (none c).1
