-- The way that layers of some moves give, as a way of the leaf.
use Rattle.std.proofs.Common.{ℕ, List, [], ◌∷◌}
use Rattle.std.specs.Prelude.{Result, Ok, Err}
use Rattle.pop_io.specs.declared.failure.Failure.{Failure}
use Rattle.pop_leaf.specs.LeafModel.{LeafModel}
use Rattle.pop_leaf.specs.Step.{LeafStep}
use Rattle.pop_leaf.specs.Reachable.{Leads}
use Rattle.pop_leaf.specs.Hushed.{hushed}
use Rattle.pop_leaf.proofs.Crowds.{hushed_step, terminal_none}
use Rattle.cert_base.specs.declared.layer.Layer.{Layer}
use Rattle.cert_base.specs.ValidLayers.{moves_of_layers}
use Rattle.cert_layers.specs.declared.fault.LayerWhy.{LayerWhy}
use Rattle.cert_layers.specs.LayerFaults.{EndsWithin, ChecksLayers}
use Rattle.cert_sets.specs.Layered.{layered}
use Rattle.cert_goals.specs.SomeLayers.{ComesToNone, ChecksSomeLayers}

pub way_of_leaf : (leaf : LeafModel) (moves before : List ℕ) (path : List (List ℕ)) (end : List ℕ) → Leads (LeafStep (hushed leaf moves)) before path end → Leads (LeafStep leaf) before path end
way_of_leaf leaf moves before [] end way = way
way_of_leaf leaf moves before (next ∷ path) end way =
    (hushed_step leaf moves before next way.0, way_of_leaf leaf moves next path end way.1)

comes : (leaf : LeafModel) (layers : List Layer) (k : ℕ) → EndsWithin (layered leaf layers) k → ComesToNone leaf (moves_of_layers layers) k
comes leaf layers k ends crowd two range =
    let e = ends crowd two range in
    let moves = moves_of_layers layers in
    (e.0, terminal_none leaf moves e.0 e.1, (e.2.0, e.2.1, way_of_leaf leaf moves crowd e.2.0 e.0 e.2.2))

pub checks_some : (leaf : LeafModel) (layers : List Layer) (result : Result ℕ (Failure LayerWhy)) → ChecksLayers (layered leaf layers) layers result → ChecksSomeLayers leaf layers result
checks_some leaf layers (Ok bound) h = record { of_hushed = h; ends = comes leaf layers bound h.ends }
checks_some leaf layers (Err fault) h = record { of_hushed = h; ends = tt }
