-- Moves of a layer that pass a test.
use Rattle.std.proofs.Common.{◌≡◌, ℕ, ◌<◌, Bool, true, not, List, length, refl}
use Rattle.std.specs.Prelude.{Option, Some, None, Contains, slice_get}
use Rattle.std.specs.List.{list_any}
use Rattle.std.proofs.lemmas.Option.{slice_get-get_or}
use Rattle.std.proofs.lemmas.Bool.{not-true}
use Rattle.pop_leaf.specs.declared.leaf.Move.{Move}
use Rattle.pop_leaf.specs.LeafModel.{LeafModel, silent_move}
use Rattle.pop_leaf.proofs.Reactions.{and_left, and_right}
use Rattle.cert_base.specs.declared.layer.Layer.{Layer}
use Rattle.cert_base.specs.ValidLayers.{IsInLayer}
use Rattle.cert_base.proofs.ListTests.{list_any-contains}
use Rattle.cert_layers.specs.Search.{numbered_layer, no_layer, some_move}

-- whether some non-silent move of layer i passes
abbrev pub any_move : LeafModel → List Layer → ℕ → (Move → Bool) → Bool
any_move leaf layers i test = list_any (λ n. some_move test (slice_get leaf.moves n)) (numbered_layer layers i).moves

module _ (leaf : LeafModel) (layers : List Layer) where
  pub any_move-at : (i : ℕ) (test : Move → Bool) → i < length layers → any_move leaf layers i test ≡ true → (t : Move) × IsInLayer leaf layers i t × (test t ≡ true)
  any_move-at i test l e =
      let s = list_any-contains (λ n. some_move test (slice_get leaf.moves n)) (numbered_layer layers i).moves e in
      found s.0 s.1 (slice_get leaf.moves s.0) refl s.2
    where
      found : (n : ℕ) → Contains (numbered_layer layers i).moves n → (o : Option Move) → slice_get leaf.moves n ≡ o → some_move test o ≡ true → (t : Move) × IsInLayer leaf layers i t × (test t ≡ true)
      found n c None m h = cc
      found n c (Some t) m h = (
        t,
        record {
          layer = numbered_layer layers i;
          number = n;
          layer_is = slice_get-get_or layers i no_layer l;
          lists = c;
          move_is = m;
          non_silent = not-true _ (and_left _ _ h);
        },
        and_right (not (silent_move t)) _ h,
      )
