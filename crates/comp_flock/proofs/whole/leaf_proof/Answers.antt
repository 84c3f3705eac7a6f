use Rattle.std.proofs.Common.{◌≡◌, ◌∙◌, ◌+◌, Bool, List, ap, sym, subst, length, rules, w64, SFits}
use Rattle.std.specs.Prelude.{not}
use Rattle.std.proofs.lemmas.Int.{to_z-of_z}
use Rattle.pop_leaf.specs.LeafModel.{LeafModel}
use Rattle.comp_counting.specs.declared.limits.TheConstants.{POWER_LIMIT}
use Rattle.comp_counting.specs.FlockAtoms.{says_enough, enough_for, IsOffset, offset_pred_of}
use Rattle.comp_counting.specs.FullState.{counting_layers}
use Rattle.comp_flock.specs.CountLeaf.{count_leaf}
use Rattle.comp_flock.specs.CountProof.{count_tree}
use Rattle.comp_flock.proofs.Formed.{states-long}
use Rattle.comp_flock.proofs.Valid.{tree-alone, part-made}
use Rattle.comp_flock.proofs.whole.leaf_proof.Goals as goal

pub offset_pred-requires : goal.offset_pred-requires
offset_pred-requires c =
    let fits : SFits w64 c.args.bound = search rules in
    subst (λ z. IsOffset c.args.coefs.now z POWER_LIMIT) (sym (to_z-of_z w64 c.args.bound fits)) c.requires.atom

pub tree-requires : goal.tree-requires
tree-requires c = record { states = ap (λ (l : LeafModel). length l.states) c.requires.leaf ∙ states-long c.args.worths.now.list.now c.args.worths.now.k }

pub tree-requires-2 : goal.tree-requires-2
tree-requires-2 c = record { states = ap (λ (l : LeafModel). length l.states) c.requires.leaf ∙ states-long c.args.worths.now.list.now c.args.worths.now.k }

pub returns : goal.returns
returns c =
    let fits : SFits w64 c.args.bound = search rules in
    let same = to_z-of_z w64 c.args.bound fits in
    let coefs = c.args.coefs.now in
    let bound = c.args.bound in
    let worths = c.args.worths.now in
    let ws = worths.list.now in
    let k = worths.k in
    let top = worths.top in
    let enough = enough_for bound in
    let made : LeafModel = count_leaf coefs (says_enough bound) enough worths.keeps worths.target ws k c.args.leaf.now.helpers in
    let says = c.says_enough-says.ensures ∙ ap says_enough same in
    let pred = c.in_ok-pred.ensures ∙ ap (offset_pred_of coefs) same in
    let count = c.move_count.ensures ∙ ap (λ (l : LeafModel). length l.moves) c.requires.leaf in
    let layers = c.in_ok-layers.ensures ∙ ap (λ n. counting_layers n k) count in
    let on_true = c.in_ok-on_true.ensures
    ∙ ap (λ s. count_tree s c.args.leaf.now worths.most ws worths.target worths.enough k top) says
    ∙ ap (λ l. count_tree (says_enough bound) l worths.most ws worths.target worths.enough k top) c.requires.leaf
    ∙ ap (λ n. count_tree (says_enough bound) made worths.most ws worths.target n k top) c.requires.enough
    ∙ tree-alone coefs (says_enough bound) enough worths.keeps worths.target worths.most ws top k c.args.leaf.now.helpers (says_enough bound) in
    let on_false = c.in_ok-on_false.ensures
    ∙ ap (λ s. count_tree (not s) c.args.leaf.now worths.most ws worths.target worths.enough k top) says
    ∙ ap (λ l. count_tree (not (says_enough bound)) l worths.most ws worths.target worths.enough k top) c.requires.leaf
    ∙ ap (λ n. count_tree (not (says_enough bound)) made worths.most ws worths.target n k top) c.requires.enough
    ∙ tree-alone coefs (says_enough bound) enough worths.keeps worths.target worths.most ws top k c.args.leaf.now.helpers (not (says_enough bound)) in
    part-made coefs bound worths.keeps worths.target worths.most ws top k c.in_ok-pred.pred c.in_ok-layers.layers c.in_ok-on_true.on_true c.in_ok-on_false.on_false pred layers on_true on_false
