use Rattle.std.proofs.Common.{◌≡◌, ◌/◌, ◌%◌, ◌^◌, ◌∙◌, ap, sym, length}
use Rattle.std.proofs.lemmas.Option.{slice_get-get_or}
use Rattle.pop_leaf.specs.NetModel.{NetModel}
use Rattle.pop_net.specs.LaneWidth.{bits_of, width_of}
use Rattle.pop_net.specs.Lanes.{lane_size}
use Rattle.pop_net.proofs.Packing.{lane_at}
use Rattle.pop_leaf.proofs.Quiet.{nothing}
use Rattle.pop_net.proofs.net.Net.lane.Goals as goal

at : (c : goal.After-state) → c.state.result ≡ c.args.word.0 / lane_size c.args.self.now ^ c.args.leaf % lane_size c.args.self.now
at c =
    c.state.ensures
    ∙ ap (λ w. c.args.word.0 / (2 ^ bits_of w) ^ c.args.leaf % 2 ^ bits_of w) (c.self.invariant.1 ∙ ap (λ (n : NetModel). width_of n.leaves) c.self.view_is)

pub returns-clause-state : goal.returns-clause-state
returns-clause-state c =
    at c ∙ sym (lane_at (lane_size c.args.self.now) (length c.args.self.now.leaves) c.args.word.0 c.args.leaf c.requires.leaf_in)

pub returns-clause-bound : goal.returns-clause-bound
returns-clause-bound c =
    let here = slice_get-get_or c.args.self.now.leaves c.args.leaf nothing c.requires.leaf_in in
    let l = c.requires.valid.states c.args.leaf _ here in
    rw (here, at c, ← lane_at (lane_size c.args.self.now) (length c.args.self.now.leaves) c.args.word.0 c.args.leaf c.requires.leaf_in) l
