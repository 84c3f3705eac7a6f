-- The proof of a built leaf is valid and within the limits.
use Rattle.std.proofs.Common.{◌≡◌, ◌∙◌, ℕ, ◌^◌, Bool, true, false, List, [], length, refl, ap, sym, subst, arith}
use Rattle.std.specs.Prelude.{ℤ, not, AllPairs}
use Rattle.pop_leaf.specs.LeafModel.{LeafModel}
use Rattle.pop_leaf.specs.Reaction.{Differ}
use Rattle.pres_ast.specs.PredModel.{PredModel}
use Rattle.cert_base.specs.declared.layer.Layer.{Layer}
use Rattle.cert_base.specs.declared.node.Node.{Node}
use Rattle.cert_base.specs.declared.proof.LeafProof.{LeafProof}
use Rattle.cert_base.specs.FactsAndCases.{base_list}
use Rattle.cert_base.specs.Closes.{Closes}
use Rattle.cert_base.specs.ProofBound.{layers_bound}
use Rattle.cert_base.specs.ValidProof.{ValidLeafProof}
use Rattle.cert_base.specs.ProofLimits.{IsLeafProofWithin}
use Rattle.cert_base.specs.TameLayers.{TameLayers}
use Rattle.comp_trees.specs.BuiltLeaf.{IsBuilt}
use Rattle.comp_counting.specs.FlockAtoms.{says_enough, enough_for, IsOffset, offset_pred_of}
use Rattle.comp_counting.specs.declared.limits.TheConstants.{POWER_LIMIT}
use Rattle.comp_counting.specs.FullState.{offset_steps}
use Rattle.comp_flock.specs.Covered.{IsCovered}
use Rattle.comp_flock.specs.CountLeaf.{count_leaf}
use Rattle.comp_flock.specs.CountProof.{count_tree, tree_for, count_part}
use Rattle.comp_flock.specs.PrefixLeaf.{bound_worths, last_place, IsPrefix}
use Rattle.comp_flock.specs.PrefixLaw.{IsPrefixRight}
use Rattle.comp_flock.proofs.MoveLists.{moves-few, moves-single}
use Rattle.comp_flock.proofs.Layers.{layers-valid, layers-tame, steps-are}
use Rattle.comp_flock.proofs.Formed.{bound-chain, states-long, prefix-formed}
use Rattle.comp_flock.proofs.Covered.{prefix-covered}
use Rattle.comp_flock.proofs.Closing.{tree-enough, tree-too-few}
use Rattle.comp_flock.proofs.Within.{layers-within, tree-within}

-- each tree is for its value
by-value : (leaf : LeafModel) (pred : PredModel) (most : ℕ) (ws : List ℕ) (t c k top : ℕ) (says : Bool) → Closes leaf (base_list leaf pred says) (count_tree true leaf most ws t c k top) [] → Closes leaf (base_list leaf pred (not says)) (count_tree false leaf most ws t c k top) [] → Closes leaf (base_list leaf pred true) (count_tree says leaf most ws t c k top) [] × Closes leaf (base_list leaf pred false) (count_tree (not says) leaf most ws t c k top) []
by-value leaf pred most ws t c k top true enough few = (enough, few)
by-value leaf pred most ws t c k top false enough few = (few, enough)

-- no tree looks at the helpers
pub tree-alone : (coefs : List ℤ) (says : Bool) (c : ℕ) (keeps : Bool) (t most : ℕ) (ws : List ℕ) (top k : ℕ) (helpers : List ℕ) (enough : Bool) → count_tree enough (count_leaf coefs says c keeps t ws k helpers) most ws t c k top ≡ count_tree enough (count_leaf coefs says c keeps t ws k []) most ws t c k top
tree-alone coefs says c keeps t most ws top k helpers true = refl
tree-alone coefs says c keeps t most ws top k helpers false = refl

module _ (coefs : List ℤ) (bound : ℤ) (keeps : Bool) (t most : ℕ) (ws : List ℕ) (top k : ℕ) (helpers : List ℕ) (is : IsCovered coefs bound keeps t most ws top k helpers) where
  abbrev c : ℕ
  c = enough_for bound

  abbrev says : Bool
  says = says_enough bound

  abbrev leaf : LeafModel
  leaf = count_leaf coefs says c keeps t ws k helpers

  abbrev pred : PredModel
  pred = offset_pred_of coefs bound

  abbrev part : LeafProof
  part = count_part coefs bound keeps t most ws top k

  -- the atom is one that a flock of the greatest power computes too
  pub count-offset : IsOffset coefs bound POWER_LIMIT
  count-offset = record { sum = is.sum; are = is.are; high = omega arith; within = (let a = is.reach in let b = is.within in let d = is.high in omega (arith, a, b, d)) }

  pub count-valid : ValidLeafProof leaf part
  count-valid =
      let trees = by-value leaf pred most ws t c k top says (tree-enough coefs bound keeps t most ws top k helpers is) (tree-too-few coefs bound keeps t most ws top k helpers is) in
      record {
        layers = layers-valid keeps ws t top k is.chain coefs says c helpers;
        on_true = subst (λ nodes. Closes leaf (base_list leaf pred true) nodes []) (tree-alone coefs says c keeps t most ws top k helpers says) trees.0;
        on_false = subst (λ nodes. Closes leaf (base_list leaf pred false) nodes []) (tree-alone coefs says c keeps t most ws top k helpers (not says)) trees.1;
      }

  pub count-within : IsLeafProofWithin (length coefs) part
  count-within =
      let count = moves-few keeps ws t k (let short = is.short in omega (arith, short)) in
      record {
        pred = refl;
        layer_count = omega arith;
        layers = layers-within (length leaf.moves) k (omega (arith, count)) (let short = is.short in omega (arith, short));
        on_true = tree-within keeps ws c t most top k is.chain is.reach is.within is.high is.short coefs says [] says;
        on_false = tree-within keeps ws c t most top k is.chain is.reach is.within is.high is.short coefs says [] (not says);
      }

  pub count-tame : TameLayers leaf part.layers
  count-tame = layers-tame keeps ws t top k is.chain coefs says c helpers

  pub count-built : (made : LeafModel) (proof : LeafProof) → made ≡ leaf → proof ≡ part → IsBuilt leaf pred (offset_steps k) made proof
  count-built made proof el ep = record {
    leaf_is = el;
    pred_is = ap (λ (p : LeafProof). p.pred) ep;
    valid = subst (λ l. ValidLeafProof l proof) (sym el) (subst (ValidLeafProof leaf) (sym ep) count-valid);
    bound = ap (λ (p : LeafProof). layers_bound p.layers) ep ∙ steps-are (length leaf.moves) k;
    within = subst (IsLeafProofWithin (length coefs)) (sym ep) count-within;
    tame = subst (λ l. TameLayers l proof.layers) (sym el) (subst (λ (p : LeafProof). TameLayers leaf p.layers) (sym ep) count-tame);
    single = subst (λ (l : LeafModel). AllPairs Differ l.moves) (sym el) (moves-single keeps ws t k);
  }

-- the proof as the code puts it together
pub part-made : (coefs : List ℤ) (bound : ℤ) (keeps : Bool) (t most : ℕ) (ws : List ℕ) (top k : ℕ) (pred : PredModel) (layers : List Layer) (on_true on_false : List Node) → pred ≡ (count_part coefs bound keeps t most ws top k).pred → layers ≡ (count_part coefs bound keeps t most ws top k).layers → on_true ≡ tree_for coefs bound keeps t most ws top k (says_enough bound) → on_false ≡ tree_for coefs bound keeps t most ws top k (not (says_enough bound)) → record { pred = pred; layers = layers; on_true = on_true; on_false = on_false } ≡ count_part coefs bound keeps t most ws top k
part-made coefs bound keeps t most ws top k pred layers on_true on_false ep ey ea eb =
    let part = count_part coefs bound keeps t most ws top k in
    let make : PredModel → List Layer → List Node → List Node → LeafProof = λ p y a b. record { pred = p; layers = y; on_true = a; on_false = b } in
    ap (λ p. make p layers on_true on_false) ep
    ∙ ap (λ y. make part.pred y on_true on_false) ey
    ∙ ap (λ a. make part.pred part.layers a on_false) ea
    ∙ ap (λ b. make part.pred part.layers part.on_true b) eb

-- ---- prefixes

pub prefix-right : (coefs : List ℤ) (bound : ℤ) (top : ℕ) → IsPrefix coefs bound top → IsPrefixRight coefs bound top
prefix-right coefs bound top is =
    let ws = bound_worths bound top in
    let k = last_place bound top in
    let covered = prefix-covered coefs bound top is in
    record {
      formed = prefix-formed coefs bound top is;
      few = (let long = states-long ws k in let few = (bound-chain coefs bound top is).few in omega (arith, long, few));
      alone = refl;
      single = moves-single false ws (enough_for bound) k;
      valid = count-valid coefs bound false (enough_for bound) (2 ^ POWER_LIMIT) ws top k [] covered;
      within = count-within coefs bound false (enough_for bound) (2 ^ POWER_LIMIT) ws top k [] covered;
    }
