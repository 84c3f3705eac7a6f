use Rattle.std.proofs.Common.{◌≡◌, ℕ, ◌<◌, ◌≤◌, List, length, get_or, refl, sym, subst, ◌∙◌, arith}
use Rattle.std.specs.Prelude.{Option, Some, None, slice_get}
use Rattle.std.proofs.lemmas.Option.{slice_get-get_or}
use Rattle.pop_leaf.specs.LeafModel.{IsMoveBelow}
use Rattle.pop_leaf.proofs.Quiet.{All-slice_get}
use Rattle.pop_settle.specs.Groups.{IsMade}
use Rattle.pop_settle.proofs.Running.{run_idle}
use Rattle.pop_settle.proofs.Searching.{idle_more, idle_all}
use Rattle.pop_settle.proofs.settling.next_take.Goals.{After-move_at-t}
use Rattle.pop_settle.proofs.settling.next_take.Goals as goal

below : (c : After-move_at-t) → IsMoveBelow (length c.places.groups.groups.items) c.move_at-t.result
below c =
    let is = All-slice_get (IsMoveBelow (length c.args.list.now.leaf.now.states)) c.args.list.now.leaf.now.moves (get_or c.args.list.now.moves.now c.places.place 0) c.move_at-t.result c.args.list.now.formed.moves c.move_at-t.ensures in
    subst (λ (n : ℕ). IsMoveBelow n c.move_at-t.result) (sym (c.places.invariant.count ∙ c.requires)) is

pub make-requires : goal.make-requires
make-requires c = below (goal.at.make-requires c).After-move_at-t

step_is : (moves : List ℕ) (k : ℕ) → k < length moves → slice_get moves k ≡ Some (get_or moves k 0)
step_is moves k l = slice_get-get_or moves k 0 l

-- nobody holds the first state of a run
pub places-preserved-then-is_empty : goal.places-preserved-then-is_empty
places-preserved-then-is_empty c =
    let ends = c.args.list.now.ends.now in
    let place = c.places.place in
    let here : slice_get ends place ≡ Some (get_or ends place 0) = slice_get-get_or ends place 0 (let l : place < length ends = omega (arith, c.places-test.true, c.args.list.now.runs.long) in l) in
    let p_in = (below (goal.at.places-preserved-then-is_empty c).After-move_at-t).0 in
    record {
      count = c.places.invariant.count;
      idle = λ states are.
          let before = c.places.invariant.idle states are in
          (before.0, run_idle c.args.list.now.leaf.now c.args.list.now.moves.now states c.places.groups.groups.items place (get_or ends place 0) (get_or c.args.list.now.moves.now place 0) c.move_at-t.result (step_is c.args.list.now.moves.now place c.places-test.true) c.move_at-t.ensures p_in before.0 (c.is_empty.ensures c.if-is_empty.true) (c.args.list.now.runs.runs place (get_or ends place 0) here) before.1);
    }

pub returns-in-Some-clause-found : goal.returns-in-Some-clause-found
returns-in-Some-clause-found c = λ states are.
    let before = c.places.invariant.idle states are in
    let made : IsMade states c.move_at-t.result (Some (c.in-Some.a, c.in-Some.b)) c.make.new.self.groups.items =
    subst (λ (o : Option (ℕ × ℕ)). IsMade states c.move_at-t.result o c.make.new.self.groups.items) c.in-Some.is (c.in_ok-a.ensures.made states before.0) in (
      refl,
      record {
        place = c.places.place;
        move = c.move_at-t.result;
        step_is = step_is c.args.list.now.moves.now c.places.place c.places-test.true;
        move_is = c.move_at-t.ensures;
        least = made.0;
        idle = before.1;
      },
      made.1,
    )

pub places-preserved : goal.places-preserved
places-preserved c = record {
  count = c.make.ensures.count ∙ c.places.invariant.count;
  idle = λ states are.
      let before = c.places.invariant.idle states are in
      let made : IsMade states c.move_at-t.result None c.make.new.self.groups.items =
      subst (λ (o : Option (ℕ × ℕ)). IsMade states c.move_at-t.result o c.make.new.self.groups.items) c.in_default.is (c.in_ok-a.ensures.made states before.0) in
      (made.0, idle_more c.args.list.now.leaf.now c.args.list.now.moves.now states c.places.place (get_or c.args.list.now.moves.now c.places.place 0) c.move_at-t.result (step_is c.args.list.now.moves.now c.places.place c.places-test.true) c.move_at-t.ensures before.1 made.1);
}

pub returns-clause-found : goal.returns-clause-found
returns-clause-found c = λ states are.
    let before = c.places.invariant.idle states are in
    (before.0, idle_all c.args.list.now.leaf.now c.args.list.now.moves.now states c.places.place (let l : length c.args.list.now.moves.now ≤ c.places.place = omega (arith, c.places-test.false) in l) before.1)
