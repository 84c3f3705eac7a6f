-- The states of each leaf fit a lane, and the lanes of all leaves fit a word.
use Rattle.std.proofs.Common.{◌≡◌, ◌*◌, ◌^◌, ◌≤◌, Bool, true, false, List, length, refl, sym, ◌∙◌, arith}
use Rattle.std.specs.Prelude.{All}
use Rattle.std.proofs.lemmas.Bool.{false≢true, false_from_ne_true, ltb-false}
use Rattle.std.proofs.lemmas.List.Folds.{list_any_at}
use Rattle.pop_leaf.specs.declared.limits.TheConstants.{NARROW_STATE_LIMIT}
use Rattle.pop_leaf.specs.LeafModel.{LeafModel, IsLeaf}
use Rattle.pop_leaf.specs.NetModel.{NetModel, IsNet, is_wide, is_wide_leaf}
use Rattle.pop_net.specs.LaneWidth.{bits_of, width_of, width_for}

-- no leaf is wide
pub none_wide : (leaves : List LeafModel) → is_wide leaves ≡ false → All (λ leaf. is_wide_leaf leaf ≡ false) leaves
none_wide leaves e k d l = false_from_ne_true _ (λ t. false≢true (sym e ∙ list_any_at is_wide_leaf leaves k d l t))

pub fit_lanes : (leaves : List LeafModel) → All IsLeaf leaves → All (λ (leaf : LeafModel). length leaf.states ≤ 2 ^ bits_of (width_of leaves)) leaves
fit_lanes leaves formed = go (is_wide leaves) refl
  where
    go : (wide : Bool) → is_wide leaves ≡ wide → All (λ (leaf : LeafModel). length leaf.states ≤ 2 ^ bits_of (width_for wide)) leaves
    go true e k d l = let f = formed k d l in let s = f.states in omega (arith, s)
    go false e k d l = let s = ltb-false NARROW_STATE_LIMIT _ (none_wide leaves e k d l) in omega (arith, s)

pub lanes_in_word : (net : NetModel) → IsNet net → bits_of (width_of net.leaves) * length net.leaves ≤ 64
lanes_in_word net formed = go (is_wide net.leaves) refl
  where
    go : (wide : Bool) → is_wide net.leaves ≡ wide → bits_of (width_for wide) * length net.leaves ≤ 64
    go true e = let w = formed.wide e in omega (arith, w)
    go false e = let c = formed.leaf_count in omega (arith, c)
