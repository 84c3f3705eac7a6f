-- The leaf and its proof, as the code puts them together.
use Rattle.std.proofs.Common.{◌≡◌, ◌∙◌, subst, ℕ, ◌+◌, ◌^◌, ◌≤◌, List, length, refl, ap, sym, arith}
use Rattle.std.specs.Prelude.{ℤ, pos, negsuc, neg_ℤ, ◌<ℤ◌, nat_abs, true, false}
use Rattle.std.proofs.lemmas.Int.{ints}
use Rattle.pop_leaf.specs.LeafModel.{LeafModel}
use Rattle.pres_ast.specs.declared.limits.TheConstants.{BOUND_LIMIT}
use Rattle.pres_ast.specs.PredTree.{LessThan}
use Rattle.pres_ast.specs.PredModel.{PredModel, IsPred, IsAtomSum}
use Rattle.cert_base.specs.declared.layer.Layer.{Layer}
use Rattle.cert_base.specs.declared.node.Node.{Node}
use Rattle.cert_base.specs.declared.proof.LeafProof.{LeafProof}
use Rattle.cert_base.specs.ValidProof.{ValidLeafProof}
use Rattle.comp_powers_leaf.specs.declared.role.Role.{Role}
use Rattle.comp_powers_leaf.specs.PowersLeaf.{roles, powers_leaf_of, IsPowers, HasRoom}
use Rattle.comp_trees.proofs.Bits.{power-le}
use Rattle.comp_powers_leaf.proofs.Formed.{range_of, states-long}
use Rattle.comp_powers.specs.PowersProof.{AreStates, powers_layers_of, powers_tree, powers_pred_of, powers_part}
use Rattle.comp_powers.proofs.Closing.{powers-valid}

bound-small : (bound : ℤ) (m : ℕ) → m ≤ 1099511627776 → bound <ℤ pos (m + 1) → neg_ℤ (pos m) <ℤ bound → nat_abs bound ≤ BOUND_LIMIT
bound-small (pos n) m l below above = omega (arith, ints, l, below)
bound-small (negsuc n) m l below above = omega (arith, ints, l, above)

pub powers_is_pred : (coefs : List ℤ) (bound : ℤ) (k : ℕ) → IsAtomSum coefs → IsPowers coefs bound k → IsPred (length coefs) (LessThan coefs bound)
powers_is_pred coefs bound k sum is = record {
  some_variable = sum.some;
  variables = sum.few;
  atoms = ((refl, sum.small), bound-small bound (2 ^ k) (power-le k 40 is.power) is.below is.above);
  weight = omega arith;
}

pub are_states : (coefs : List ℤ) (bound : ℤ) (k spare : ℕ) (leaf : LeafModel) (list : List Role) → IsPowers coefs bound k → leaf ≡ powers_leaf_of coefs bound k spare → list ≡ roles coefs k → AreStates leaf coefs k list
are_states coefs bound k spare leaf list is el er =
    let states = ap (λ (l : LeafModel). length l.states) el ∙ states-long coefs bound k in
    let long = ap length er in
    let few = is.states in
    record {
      range = range_of coefs bound k is;
      listed = er;
      counted = states ∙ sym long;
      few = omega (arith, long, few);
    }

pub part-as : (coefs : List ℤ) (bound : ℤ) (k spare : ℕ) (leaf : LeafModel) (pred : PredModel) (layers : List Layer) (on_true on_false : List Node) → leaf ≡ powers_leaf_of coefs bound k spare → pred ≡ powers_pred_of coefs bound → layers ≡ powers_layers_of coefs k → on_true ≡ powers_tree coefs k leaf true → on_false ≡ powers_tree coefs k leaf false → record { pred = pred; layers = layers; on_true = on_true; on_false = on_false } ≡ powers_part coefs bound k spare
part-as coefs bound k spare leaf pred layers on_true on_false el ep ey ea eb =
    let part : PredModel → List Layer → List Node → List Node → LeafProof = λ p y a b. record { pred = p; layers = y; on_true = a; on_false = b } in
    let whole = powers_leaf_of coefs bound k spare in
    ap (λ p. part p layers on_true on_false) ep
    ∙ ap (λ y. part (powers_pred_of coefs bound) y on_true on_false) ey
    ∙ ap (λ a. part (powers_pred_of coefs bound) (powers_layers_of coefs k) a on_false) (ea ∙ ap (λ l. powers_tree coefs k l true) el)
    ∙ ap (λ b. part (powers_pred_of coefs bound) (powers_layers_of coefs k) (powers_tree coefs k whole true) b) (eb ∙ ap (λ l. powers_tree coefs k l false) el)

pub whole-valid : (coefs : List ℤ) (bound : ℤ) (k spare : ℕ) (leaf : LeafModel) (part : LeafProof) → leaf ≡ powers_leaf_of coefs bound k spare → part ≡ powers_part coefs bound k spare → IsPowers coefs bound k → HasRoom k spare → ValidLeafProof leaf part
whole-valid coefs bound k spare leaf part el ep is room =
    subst (λ l. ValidLeafProof l part) (sym el) (subst (ValidLeafProof (powers_leaf_of coefs bound k spare)) (sym ep) (powers-valid coefs bound k spare is room))
