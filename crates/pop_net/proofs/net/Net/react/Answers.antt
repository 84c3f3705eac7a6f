use Rattle.std.proofs.Common.{◌≡◌, ℕ, ◌<◌, ◌^◌, List, length, map, ap, sym, subst, ◌∙◌}
use Rattle.pop_leaf.specs.LeafModel.{LeafModel}
use Rattle.pop_leaf.specs.NetModel.{NetModel, Tuple, HasStates, IsNet}
use Rattle.pop_leaf.specs.Reaction.{reactions, reaction}
use Rattle.pop_leaf.specs.Step.{TupleChange}
use Rattle.pop_net.specs.LaneWidth.{bits_of, width_of}
use Rattle.pop_net.specs.Lanes.{digits, lane_size, tuple_of}
use Rattle.pop_net.proofs.Digits.{length-digits}
use Rattle.pop_leaf.proofs.Reactions.{reaction_change}
use Rattle.pop_leaf.proofs.Within.{reaction_states}
use Rattle.pop_net.proofs.net.Net.react.Goals as goal

the_leaves : (c : goal.After-react_words-first) → c.as_slice.result.now ≡ c.args.self.now.leaves
the_leaves c = c.as_slice.ensures ∙ ap (λ (n : NetModel). n.leaves) c.self.view_is

formed : (c : goal.After-react_words-first) → IsNet c.args.self.now
formed c = subst IsNet c.self.view_is c.self.invariant.0

the_base : (c : goal.After-react_words-first) → 2 ^ bits_of c.self.inside.lanes ≡ lane_size c.args.self.now
the_base c = ap (λ w. 2 ^ bits_of w) (c.self.invariant.1 ∙ ap (λ (n : NetModel). width_of n.leaves) c.self.view_is)

-- the tuple of a word whose lanes are those of a reaction; f picks one of its two states
reacted : (f : ℕ × ℕ → ℕ) (net : NetModel) (base a b word : ℕ) (leaves : List LeafModel) → base ≡ lane_size net → leaves ≡ net.leaves → digits base (length leaves) word ≡ map f (reactions leaves (digits base (length leaves) a) (digits base (length leaves) b)) → tuple_of net (record { 0 = word }) ≡ map f (reactions net.leaves (tuple_of net (record { 0 = a })) (tuple_of net (record { 0 = b })))
reacted f net base a b word leaves same e h =
    subst (λ (n : ℕ). digits n (length net.leaves) word ≡ map f (reactions net.leaves (digits n (length net.leaves) a) (digits n (length net.leaves) b))) same
    (subst (λ (ls : List LeafModel). digits base (length ls) word ≡ map f (reactions ls (digits base (length ls) a) (digits base (length ls) b))) e h)

first : (c : goal.After-react_words-first) → tuple_of c.args.self.now (record { 0 = c.react_words-first.result.0 }) ≡ (reaction c.args.self.now (tuple_of c.args.self.now c.args.a) (tuple_of c.args.self.now c.args.b)).0
first c = reacted (λ z. z.0) c.args.self.now _ c.args.a.0 c.args.b.0 _ _ (the_base c) (the_leaves c) c.react_words-first.ensures.first

second : (c : goal.After-react_words-first) → tuple_of c.args.self.now (record { 0 = c.react_words-first.result.1 }) ≡ (reaction c.args.self.now (tuple_of c.args.self.now c.args.a) (tuple_of c.args.self.now c.args.b)).1
second c = reacted (λ z. z.1) c.args.self.now _ c.args.a.0 c.args.b.0 _ _ (the_base c) (the_leaves c) c.react_words-first.ensures.second

states : (c : goal.After-react_words-first) → HasStates c.args.self.now (reaction c.args.self.now (tuple_of c.args.self.now c.args.a) (tuple_of c.args.self.now c.args.b)).0 × HasStates c.args.self.now (reaction c.args.self.now (tuple_of c.args.self.now c.args.a) (tuple_of c.args.self.now c.args.b)).1
states c =
    let net = c.args.self.now in
    let f = formed c in
    reaction_states net (tuple_of net c.args.a) (tuple_of net c.args.b) f.leaves (length-digits (lane_size net) (length net.leaves) c.args.a.0) (length-digits (lane_size net) (length net.leaves) c.args.b.0) c.requires.a_valid.states c.requires.b_valid.states

in_range : (c : goal.After-react_words-first) (word : ℕ) → word < (2 ^ bits_of c.self.inside.lanes) ^ length c.as_slice.result.now → word < lane_size c.args.self.now ^ length c.args.self.now.leaves
in_range c word l =
    subst (λ (base : ℕ). word < base ^ length c.args.self.now.leaves) (the_base c)
    (subst (λ (ls : List LeafModel). word < (2 ^ bits_of c.self.inside.lanes) ^ length ls) (the_leaves c) l)

pub returns : goal.returns
returns c =
    let net = c.args.self.now in
    let x = tuple_of net c.args.a in
    let y = tuple_of net c.args.b in
    let changed = reaction_change net x y (length-digits (lane_size net) (length net.leaves) c.args.a.0) (length-digits (lane_size net) (length net.leaves) c.args.b.0) in
    record {
      reaction = λ i. (first c i, second c i);
      first_valid = record {
        states = subst (HasStates net) (sym (first c)) (states c).0;
        rest = in_range c c.react_words-first.result.0 c.react_words-first.ensures.first_ends;
      };
      second_valid = record {
        states = subst (HasStates net) (sym (second c)) (states c).1;
        rest = in_range c c.react_words-first.result.1 c.react_words-first.ensures.second_ends;
      };
      change = subst (λ (y' : Tuple). TupleChange net x y (tuple_of net (record { 0 = c.react_words-first.result.0 })) y') (sym (second c))
          (subst (λ (x' : Tuple). TupleChange net x y x' (reaction net x y).1) (sym (first c)) changed);
    }
