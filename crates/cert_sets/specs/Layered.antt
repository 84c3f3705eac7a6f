-- Layered: a leaf that keeps the moves of layers alone.
use Rattle.std.specs.Prelude.{List}
use Rattle.pop_leaf.specs.LeafModel.{LeafModel}
use Rattle.pop_leaf.specs.Hushed.{hushed}
use Rattle.cert_base.specs.declared.layer.Layer.{Layer}
use Rattle.cert_base.specs.ValidLayers.{moves_of_layers}

-- the leaf in which the moves that the layers list are kept and all others are silent
abbrev pub layered : LeafModel → List Layer → LeafModel
layered leaf layers = hushed leaf (moves_of_layers layers)
