use Rattle.std.proofs.Common.{◌≡◌, ◌∙◌, ap, sym, subst, rules, w64, SFits}
use Rattle.std.proofs.lemmas.Int.{to_z-of_z}
use Rattle.pop_leaf.specs.LeafModel.{LeafModel}
use Rattle.comp_counting.specs.declared.limits.TheConstants.{POWER_LIMIT}
use Rattle.comp_counting.specs.FlockAtoms.{says_enough, enough_for, IsOffset}
use Rattle.comp_flock.specs.CountLeaf.{count_leaf}
use Rattle.comp_flock.specs.CountProof.{count_part}
use Rattle.comp_flock.proofs.Valid.{count-offset, count-built}
use Rattle.comp_flock.proofs.whole.built.Goals as goal

pub leaf_proof-requires-clause-atom : goal.leaf_proof-requires-clause-atom
leaf_proof-requires-clause-atom c =
    let fits : SFits w64 c.args.bound = search rules in
    let worths = c.args.worths.now in
    subst (λ z. IsOffset c.args.coefs.now z POWER_LIMIT) (sym (to_z-of_z w64 c.args.bound fits)) (count-offset c.args.coefs.now c.args.bound worths.keeps worths.target worths.most worths.list.now worths.top worths.k c.args.helpers.items c.requires.covered)

pub leaf_proof-requires-clause-leaf : goal.leaf_proof-requires-clause-leaf
leaf_proof-requires-clause-leaf c =
    let fits : SFits w64 c.args.bound = search rules in
    let same = to_z-of_z w64 c.args.bound fits in
    let coefs = c.args.coefs.now in
    let worths = c.args.worths.now in
    let made : LeafModel = c.in_ok-leaf.leaf in
    let is = c.in_ok-leaf.ensures.built ∙ ap (λ b. count_leaf coefs (says_enough b) (enough_for b) worths.keeps worths.target worths.list.now worths.k c.args.helpers.items) same in
    subst (λ z. made ≡ count_leaf coefs (says_enough z) (enough_for z) worths.keeps worths.target worths.list.now worths.k made.helpers) (sym same)
    (is ∙ ap (count_leaf coefs (says_enough c.args.bound) (enough_for c.args.bound) worths.keeps worths.target worths.list.now worths.k) (sym (ap (λ (l : LeafModel). l.helpers) is)))

pub returns : goal.returns
returns c =
    let fits : SFits w64 c.args.bound = search rules in
    let same = to_z-of_z w64 c.args.bound fits in
    let coefs = c.args.coefs.now in
    let bound = c.args.bound in
    let worths = c.args.worths.now in
    let ws = worths.list.now in
    let helpers = c.args.helpers.items in
    let leaf_is = c.in_ok-leaf.ensures.built ∙ ap (λ b. count_leaf coefs (says_enough b) (enough_for b) worths.keeps worths.target ws worths.k helpers) same in
    let part_is = c.in_ok-proof.ensures ∙ ap (λ b. count_part coefs b worths.keeps worths.target worths.most ws worths.top worths.k) same in
    count-built coefs bound worths.keeps worths.target worths.most ws worths.top worths.k helpers c.requires.covered c.in_ok-leaf.leaf c.in_ok-proof.proof leaf_is part_is
