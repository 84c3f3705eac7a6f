use Rattle.std.proofs.Common.{◌≡◌, sym, ◌∙◌, arith, length, ap}
use Rattle.std.specs.Prelude.{None, Some}
use Rattle.std.proofs.lemmas.Bool.{eq-eqb, ne_eqb, OnTrue_at}
use Rattle.pop_leaf.specs.declared.item.Item.TheVariants.{Leaf}
use Rattle.pop_net.specs.declared.fault.CombinationFault.TheVariants as combination
use Rattle.pop_leaf.specs.FirstFault.{unless}
use Rattle.pop_net.specs.NetFaults.{fault_of_combination}
use Rattle.pop_net.proofs.Trees.{fault_here, walked_next, fault_at_end}
use Rattle.pop_net.proofs.Whole.{none_where_tree}
use Rattle.pop_net.proofs.combination.combination_fault.Goals.{Then-not-put_depth, Then-len-eq1, After-len-else-len-eq1}
use Rattle.pop_net.proofs.combination.combination_fault.Goals as goal

at_item : (c : Then-not-put_depth) → Some (combination.Item c.loop-k.k) ≡ fault_of_combination c.args.leaves c.args.combine.now
at_item c =
    sym (fault_here c.args.leaves c.args.combine.now c.loop-k.k (Leaf 0) c.loop-k-test.true c.loop-k.depths c.loop-k.invariant (sym c.put_depth.ensures.good ∙ c.if-not-put_depth.true))

pub returns-then-not-put_depth-clause-first : goal.returns-then-not-put_depth-clause-first
returns-then-not-put_depth-clause-first c = at_item c

pub returns-then-not-put_depth-clause-none : goal.returns-then-not-put_depth-clause-none
returns-then-not-put_depth-clause-none c = none_where_tree c.args.leaves c.args.combine.now _ (at_item c)

pub loop-k-preserved : goal.loop-k-preserved
loop-k-preserved c =
    walked_next c.args.leaves c.args.combine.now c.loop-k.k (Leaf 0) c.loop-k-test.true c.loop-k.depths c.loop-k.invariant c.put_depth.new.depths
    (sym c.put_depth.ensures.good ∙ c.if-not-put_depth.false)
    (OnTrue_at c.if-not-put_depth.false c.put_depth.ensures.put)

one_left : (c : Then-len-eq1) → None ≡ fault_of_combination c.args.leaves c.args.combine.now
one_left c =
    let e = fault_at_end c.args.leaves c.args.combine.now c.loop-k.k c.loop-k.depths (omega arith) c.loop-k.invariant in
    let one = eq-eqb (length c.loop-k.depths) 1 (omega arith) in
    sym (e ∙ ap (λ b. unless b (combination.Open (length c.loop-k.depths))) one)

pub returns-then-len-eq1-clause-first : goal.returns-then-len-eq1-clause-first
returns-then-len-eq1-clause-first c = one_left c

pub returns-then-len-eq1-clause-none : goal.returns-then-len-eq1-clause-none
returns-then-len-eq1-clause-none c = none_where_tree c.args.leaves c.args.combine.now _ (one_left c)

others_left : (c : After-len-else-len-eq1) → Some (combination.Open c.len-else-len-eq1.result) ≡ fault_of_combination c.args.leaves c.args.combine.now
others_left c =
    let e = fault_at_end c.args.leaves c.args.combine.now c.loop-k.k c.loop-k.depths (omega arith) c.loop-k.invariant in
    let one = ne_eqb (length c.loop-k.depths) 1 (λ h. omega arith) in
    let same : length c.loop-k.depths ≡ c.len-else-len-eq1.result = omega arith in
    sym (e ∙ ap (λ b. unless b (combination.Open (length c.loop-k.depths))) one ∙ ap (λ n. Some (combination.Open n)) same)

pub returns-else-len-eq1-clause-first : goal.returns-else-len-eq1-clause-first
returns-else-len-eq1-clause-first c = others_left c

pub returns-else-len-eq1-clause-none : goal.returns-else-len-eq1-clause-none
returns-else-len-eq1-clause-none c = none_where_tree c.args.leaves c.args.combine.now _ (others_left c)
