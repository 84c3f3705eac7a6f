-- Tame layers: while a layer's moves die out, no later move raises its weights, and what is dead stays dead.
use Rattle.std.specs.Prelude.{◌≡◌, ◌⊎◌, ℕ, ◌<◌, ◌≤◌, true, List, ℤ, ◌+ℤ◌, ◌≤ℤ◌}
use Rattle.pop_leaf.specs.declared.leaf.Move.{Move}
use Rattle.pop_leaf.specs.LeafModel.{LeafModel, pre, same_pair}
use Rattle.cert_base.specs.declared.layer.Layer.{Layer}
use Rattle.cert_base.specs.ValidLayers.{weight_at, IsLower, IsInLayer, IsEnabledBefore}

-- the states that the move brings weigh no more than those it takes
abbrev pub IsNoHigher : List ℤ → Move → Type 0
IsNoHigher w t = (weight_at w t.r +ℤ weight_at w t.s) ≤ℤ (weight_at w t.p +ℤ weight_at w t.q)

-- where t and u are enabled, u' is too: of each state it takes no more agents than one of them
abbrev pub IsEnabledBeside : Move → Move → Move → Type 0
IsEnabledBeside u' t u = (z : ℕ) → (pre u' z ≤ pre t z) ⊎ (pre u' z ≤ pre u z)

-- where t and u are enabled, a move of a layer before i is too
abbrev pub AreApart : LeafModel → List Layer → ℕ → Move → Move → Type 0
AreApart leaf layers i t u = (k : ℕ) × (u' : Move) × (k < i) × IsInLayer leaf layers k u' × IsEnabledBeside u' t u

-- for each move t of a layer i and each move u of a later layer
pub record TameLayers (leaf : LeafModel) (layers : List Layer) : Type 0 where
  -- u doesn't raise the weights of layer i, where t is enabled and no move before layer i
  pub no_rise : (i j : ℕ) (t u : Move) → i < j → (at : IsInLayer leaf layers i t) → IsInLayer leaf layers j u
      → IsNoHigher at.layer.weights u ⊎ AreApart leaf layers i t u
  -- if u takes the states of t, it lowers those weights
  pub same_states : (i j : ℕ) (t u : Move) → i < j → (at : IsInLayer leaf layers i t) → IsInLayer leaf layers j u
      → same_pair t.p t.q u.p u.q ≡ true
      → IsLower at.layer.weights u ⊎ AreApart leaf layers i t u
  -- u enables t only if a move of a layer up to i was already enabled
  pub no_waking : (i j : ℕ) (t u : Move) → i < j → IsInLayer leaf layers i t → IsInLayer leaf layers j u
      → (k : ℕ) × (u' : Move) × (k ≤ i) × IsInLayer leaf layers k u' × IsEnabledBefore u' u t
