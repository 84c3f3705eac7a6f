use Rattle.std.proofs.Common.{◌≡◌, ℕ, ◌+◌, ◌-◌, ◌*◌, ◌/◌, ◌%◌, ◌^◌, ◌<◌, ◌≤◌, length, ap, subst, ◌∙◌, arith}
use Rattle.std.specs.Prelude.{Some, Option, IfSome, slice_get, slice_set}
use Rattle.std.proofs.Math.Nat.{mul-le-mul_left}
use Rattle.std.proofs.lemmas.Nat.{pow_pos, mod_below}
use Rattle.std.proofs.lemmas.Option.{slice_get-get_or}
use Rattle.pop_leaf.specs.LeafModel.{LeafModel}
use Rattle.pop_leaf.specs.NetModel.{NetModel, IsNet}
use Rattle.pop_net.specs.LaneWidth.{bits_of, width_of}
use Rattle.pop_net.specs.Lanes.{digits, lane_size, tuple_of}
use Rattle.pop_net.proofs.LaneBits.{shifted, fits}
use Rattle.pop_net.proofs.Packing.{lane_at, is_tuple}
use Rattle.pop_leaf.proofs.Quiet.{All-slice_get, nothing}
use Rattle.pop_net.proofs.Widths.{fit_lanes, lanes_in_word}
use Rattle.std.specs.Prelude.{get_or}
use Rattle.pop_net.proofs.DigitSet.{digit_set, digit_part}
use Rattle.pop_net.proofs.StateSet.{states_set}
use Rattle.pop_net.proofs.net.Net.with_state.Goals.{After-from-3}
use Rattle.pop_net.proofs.net.Net.with_state.Goals as goal

abbrev bits : After-from-3 → ℕ
bits c = bits_of (width_of c.args.self.now.leaves)

abbrev base : After-from-3 → ℕ
base c = lane_size c.args.self.now

formed : (c : After-from-3) → IsNet c.args.self.now
formed c = subst IsNet c.self.view_is c.self.invariant.0

bits_is : (c : After-from-3) → c.bits.result ≡ bits c
bits_is c =
    c.bits.ensures ∙ ap bits_of (c.self.invariant.1 ∙ ap (λ (n : NetModel). width_of n.leaves) c.self.view_is)

-- the leaf
abbrev leaf : After-from-3 → LeafModel
leaf c = get_or c.args.self.now.leaves c.args.leaf nothing

leaf_is : (c : After-from-3) → slice_get c.args.self.now.leaves c.args.leaf ≡ Some (leaf c)
leaf_is c = slice_get-get_or c.args.self.now.leaves c.args.leaf nothing c.requires.leaf_in

state_in : (c : After-from-3) → c.args.state < length (leaf c).states
state_in c = subst (λ (o : Option LeafModel). IfSome o (λ l. c.args.state < length l.states)) (leaf_is c) c.requires.state_in

new_small : (c : After-from-3) → c.args.state < base c
new_small c =
    let narrow = All-slice_get (λ (l : LeafModel). length l.states ≤ base c) c.args.self.now.leaves c.args.leaf (leaf c) (fit_lanes c.args.self.now.leaves (formed c).leaves) (leaf_is c) in
    omega (arith, state_in c, narrow)

room : (c : After-from-3) → bits c * (c.args.leaf + 1) ≤ 64
room c =
    let within : c.args.leaf + 1 ≤ length c.args.self.now.leaves = omega (arith, c.requires.leaf_in) in
    let product = mul-le-mul_left (bits c) within in
    omega (arith, product, lanes_in_word c.args.self.now (formed c))

-- the state that the lane had
abbrev old : After-from-3 → ℕ
old c = c.args.word.0 / base c ^ c.args.leaf % base c

old_is : (c : After-from-3) → c.from-2.result ≡ old c
old_is c =
    c.from-2.ensures ∙ c.lane.ensures.state ∙ lane_at (base c) (length c.args.self.now.leaves) c.args.word.0 c.args.leaf c.requires.leaf_in

at_lane : (c : After-from-3) (x state : ℕ) → x ≡ state → state < base c → x * 2 ^ (c.bits.result * c.from.result) % 2 ^ 64 ≡ state * base c ^ c.args.leaf
at_lane c x state e l =
    ap (λ s. s * 2 ^ (c.bits.result * c.from.result) % 2 ^ 64) e
    ∙ ap (λ b. state * 2 ^ (b * c.from.result) % 2 ^ 64) (bits_is c)
    ∙ ap (λ i. state * 2 ^ (bits c * i) % 2 ^ 64) c.from.ensures
    ∙ shifted (bits c) state c.args.leaf l (room c)

had : (c : After-from-3) → c.from-2.result * 2 ^ (c.bits.result * c.from.result) % 2 ^ 64 ≡ old c * base c ^ c.args.leaf
had c = at_lane c c.from-2.result (old c) (old_is c) (mod_below (c.args.word.0 / base c ^ c.args.leaf) (base c) (pow_pos (bits c)))

gets : (c : After-from-3) → c.from-3.result * 2 ^ (c.bits.result * c.from.result) % 2 ^ 64 ≡ c.args.state * base c ^ c.args.leaf
gets c = at_lane c c.from-3.result c.args.state c.from-3.ensures (new_small c)

-- the word that is written
abbrev next : After-from-3 → ℕ
next c =
    c.args.word.0 - c.from-2.result * 2 ^ (c.bits.result * c.from.result) % 2 ^ 64
    + c.from-3.result * 2 ^ (c.bits.result * c.from.result) % 2 ^ 64

enough : (c : After-from-3) → c.from-2.result * 2 ^ (c.bits.result * c.from.result) % 2 ^ 64 ≤ c.args.word.0
enough c = let e = had c in omega (arith, e, digit_part (base c) c.args.word.0 (base c ^ c.args.leaf))

is_set : (c : After-from-3) → (digits (base c) (length c.args.self.now.leaves) (next c) ≡ slice_set (digits (base c) (length c.args.self.now.leaves) c.args.word.0) c.args.leaf c.args.state) × (next c < base c ^ length c.args.self.now.leaves)
is_set c =
    let e = had c in
    let f = gets c in
    let l = enough c in
    digit_set (base c) (length c.args.self.now.leaves) c.args.word.0 c.args.leaf (old c) c.args.state (next c) (pow_pos (bits c)) c.requires.leaf_in c.requires.valid.rest (let r : old c ≡ old c = λ i. old c in r) (new_small c) (omega (arith, e, f, l))

pub overflow_sub-result : goal.overflow_sub-result
overflow_sub-result c = let l = enough (goal.at.overflow_sub-result c).After-from-3 in omega (arith, l)

pub overflow_add-result : goal.overflow_add-result
overflow_add-result c =
    let a = (goal.at.overflow_add-result c).After-from-3 in
    let l = (is_set a).1 in
    omega (arith, l, fits (bits a) (length c.args.self.now.leaves) (lanes_in_word c.args.self.now (formed a)))

pub returns : goal.returns
returns c =
    let a = (goal.at.returns c).After-from-3 in
    let net = c.args.self.now in
    let s = is_set a in
    record {
      tuple = s.0;
      valid = record {
        states = rw s.0 (states_set net.leaves (tuple_of net c.args.word) c.args.leaf c.args.state (leaf a) (leaf_is a) (let w : c.args.leaf < length (tuple_of net c.args.word) = omega (arith, c.requires.leaf_in, is_tuple net c.args.word) in w) (state_in a) c.requires.valid.states);
        rest = s.1;
      };
    }
