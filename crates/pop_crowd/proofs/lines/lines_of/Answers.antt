use Rattle.std.proofs.Common.{◌∷◌, ◌++◌, ap, sym, subst, ◌∙◌}
use Rattle.std.specs.Prelude.{All}
use Rattle.std.proofs.lemmas.List.Elements.{All-head, All-tail, All-same}
use Rattle.pop_leaf.specs.NetModel.{IsTuple, HasStates}
use Rattle.pop_net.specs.Lanes.{crowd_of}
use Rattle.pop_crowd.specs.Tally.{crowd_line, crowd_lines}
use Rattle.pop_crowd.specs.Shown.{shown}
use Rattle.pop_crowd.proofs.Written.{IsGood, good_counts, lines_left, line_written}
use Rattle.pop_crowd.proofs.lines.lines_of.Goals.{In-Some}
use Rattle.pop_crowd.proofs.lines.lines_of.Goals as goal

pub loop-tuple-init : goal.loop-tuple-init
loop-tuple-init c =
    record {
      written = ap (λ t. t ++ lines_left c.args.net.now (shown c.in_ok-left.left.entries)) c.new-text.ensures.items ∙ ap (lines_left c.args.net.now) c.in_ok-left.ensures;
      states = All-same (IsGood c.args.net.now) _ _ c.in_ok-left.ensures (good_counts c.args.net.now c.args.words.now c.requires);
    }

all_good : (c : In-Some) → All (IsGood c.args.net.now) ((c.in-Some.tuple.items, c.in-Some.count) ∷ shown c.pop_first.new.self.entries)
all_good c = All-same (IsGood c.args.net.now) _ _ (ap shown (sym c.in-Some.ensures.removal)) c.loop-tuple.invariant.states

good : (c : In-Some) → IsGood c.args.net.now (c.in-Some.tuple.items, c.in-Some.count)
good c = All-head (IsGood c.args.net.now) (c.in-Some.tuple.items, c.in-Some.count) (shown c.pop_first.new.self.entries) (all_good c)

pub push_line-requires-clause-whole : goal.push_line-requires-clause-whole
push_line-requires-clause-whole c = subst (IsTuple c.args.net.now) (sym c.as_slice.ensures.value) (good (goal.at.push_line-requires-clause-whole c).In-Some).0

pub push_line-requires-clause-states : goal.push_line-requires-clause-states
push_line-requires-clause-states c = subst (HasStates c.args.net.now) (sym c.as_slice.ensures.value) (good (goal.at.push_line-requires-clause-states c).In-Some).1

pub loop-tuple-preserved : goal.loop-tuple-preserved
loop-tuple-preserved c =
    record {
      written = line_written c.args.net.now c.loop-tuple.text.items c.push_line.new.text.items (crowd_lines c.args.net.now (crowd_of c.args.net.now c.args.words.now)) c.in-Some.tuple c.in-Some.count c.loop-tuple.left.entries c.pop_first.new.self.entries c.in-Some.ensures.removal (c.in_ok-push_line.ensures ∙ ap (λ t. c.loop-tuple.text.items ++ crowd_line c.args.net.now t c.in-Some.count) c.as_slice.ensures.value) c.loop-tuple.invariant.written;
      states = All-tail (IsGood c.args.net.now) (c.in-Some.tuple.items, c.in-Some.count) (shown c.pop_first.new.self.entries) (all_good (goal.at.loop-tuple-preserved c).In-Some);
    }
