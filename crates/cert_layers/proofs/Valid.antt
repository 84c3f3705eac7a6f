-- Layers without a failing place are valid, and conversely.
use Rattle.std.proofs.Common.{◌≡◌, ◌≢◌, ℕ, suc, ◌+◌, ◌<◌, List, [], ◌∷◌, ◌++◌, length, take, drop, get_or, refl, ap, sym, subst, ◌∙◌, arith, length-append}
use Rattle.std.specs.Prelude.{Result, Ok, Err, IfOk, All, AllPairs, Contains}
use Rattle.std.proofs.Math.Seq.{take-length}
use Rattle.std.proofs.lemmas.List.{get_or_default, get_or_append_left, take-append-drop}
use Rattle.std.proofs.lemmas.List.Elements.{All-contains}
use Rattle.std.proofs.lemmas.Grind.{flat_map-append}
use Rattle.std.proofs.lemmas.Option.{slice_get-get_or}
use Rattle.pop_leaf.specs.LeafModel.{LeafModel, IsLeaf}
use Rattle.pop_leaf.proofs.Quiet.{All-slice_get}
use Rattle.cert_base.specs.declared.layer.Layer.{Layer}
use Rattle.cert_base.specs.ValidLayers.{moves_of_layers, ValidLayers}
use Rattle.cert_base.specs.ProofBound.{layers_bound}
use Rattle.cert_layers.specs.LayerFaults.{ShapedAt, ListedAt, LowerAt, SleepsAt, Each, AreBrokenFirst, EndsWithin}
use Rattle.pop_io.specs.declared.failure.Failure.{Failure}
use Rattle.pop_io.specs.declared.failure.Failure.TheVariants.{Fault, NoMemory}
use Rattle.pop_io.specs.Failures.{Names, IfFault, OnlyMemory}
use Rattle.cert_layers.specs.declared.fault.LayerWhy.{LayerWhy}
use Rattle.cert_layers.specs.declared.fault.LayerWhy.TheVariants.{Shape, NoLayer, NotLower, Wakes}
use Rattle.cert_layers.proofs.NotLower.{contains-listed}
use Rattle.cert_layers.proofs.Termination.{listed_at, valid_layers-end}

-- what holds for each element of a list holds for all
All-each : {X : Type 0} (P : X → Type 0) (xs : List X) → ((x : X) → Contains xs x → P x) → All P xs
All-each P xs each k d l = each (get_or xs k d) (k, l, get_or_default xs k (get_or xs k d) d l)

once_all : (leaf : LeafModel) (layers : List Layer) → Each (ShapedAt leaf layers) → AllPairs ◌≢◌ (moves_of_layers layers)
once_all leaf [] shaped = λ i j d before within. absurd (omega arith)
once_all leaf (layer ∷ layers) shaped =
    let last = length layers in
    let got = slice_get-get_or (layer ∷ layers) last layer (let l : last < suc (length layers) = omega arith in l) in
    let whole : take (last + 1) (layer ∷ layers) ≡ layer ∷ layers = ap (λ n. take n (layer ∷ layers)) (let e : last + 1 ≡ suc (length layers) = omega arith in e) ∙ take-length (layer ∷ layers) in
    subst (λ (ls : List Layer). AllPairs ◌≢◌ (moves_of_layers ls)) whole (shaped last (get_or (layer ∷ layers) last layer) got).once

pub valid-each : (leaf : LeafModel) (layers : List Layer) → Each (ShapedAt leaf layers) → Each (ListedAt leaf layers) → Each (LowerAt leaf layers) → Each (λ n. Each (SleepsAt leaf layers n)) → ValidLayers leaf layers
valid-each leaf layers shaped all lower sleeps = record {
  weights = λ k d l. (shaped k (get_or layers k d) (slice_get-get_or layers k d l)).weights;
  in_range = All-each (λ (n : ℕ). n < length leaf.moves) (moves_of_layers layers) (λ n c. let f = listed_at layers n c in All-contains (λ (n : ℕ). n < length leaf.moves) f.1.moves n (shaped f.0 f.1 f.2).in_range f.3);
  once = once_all leaf layers shaped;
  all = all;
  lower = λ i t at. lower at.number i t at refl;
  wakes_none = λ i j t u before at earlier. sleeps at.number earlier.number i j t u before at refl earlier refl;
}

pairs-front : (xs ys : List ℕ) → AllPairs ◌≢◌ (xs ++ ys) → AllPairs ◌≢◌ xs
pairs-front xs ys once i j d before within =
    λ same. once i j d before (omega (arith, length-append xs ys)) (get_or_append_left xs ys d i (omega arith) ∙ same ∙ sym (get_or_append_left xs ys d j within))

module _ (leaf : LeafModel) (layers : List Layer) (v : ValidLayers leaf layers) where
  each-shaped : Each (ShapedAt leaf layers)
  each-shaped n layer is = record {
    weights = All-slice_get (λ (l : Layer). length l.weights ≡ length leaf.states) layers n layer v.weights is;
    in_range = All-each (λ (number : ℕ). number < length leaf.moves) layer.moves (λ number c. All-contains (λ (number : ℕ). number < length leaf.moves) (moves_of_layers layers) number v.in_range (contains-listed layers n number layer is c));
    once =
        pairs-front (moves_of_layers (take (n + 1) layers)) (moves_of_layers (drop (n + 1) layers))
        (subst (λ (ns : List ℕ). AllPairs ◌≢◌ ns) (ap moves_of_layers (sym (take-append-drop (n + 1) layers)) ∙ flat_map-append (λ (layer : Layer). layer.moves) (take (n + 1) layers) (drop (n + 1) layers)) v.once);
  }

  -- valid layers fail nowhere
  pub valid-fault : (failure : Failure LayerWhy) → Names (AreBrokenFirst leaf layers) failure → failure ≡ NoMemory
  valid-fault (Fault (Shape n)) f = absurd (f.0 (each-shaped n))
  valid-fault (Fault (NoLayer n)) f = absurd (f.1.0 (v.all n))
  valid-fault (Fault (NotLower n)) f = absurd (f.2.0 (λ i t at number. v.lower i t at))
  valid-fault (Fault (Wakes n m)) f = absurd (f.4.0 (λ i j t u before at number earlier number'. v.wakes_none i j t u before at earlier))
  valid-fault NoMemory f = refl

-- valid layers bring every crowd to an end
pub valid-ends : (leaf : LeafModel) (layers : List Layer) → IsLeaf leaf → ValidLayers leaf layers → EndsWithin leaf (layers_bound layers)
valid-ends leaf layers formed v crowd some range =
    let e = valid_layers-end leaf layers formed v crowd range in (e.end, e.terminal, e.reached)

-- what a check of valid layers answers
pub accepted : (leaf : LeafModel) (same layers : List Layer) (result : Result ℕ (Failure LayerWhy)) → same ≡ layers → IfFault result (AreBrokenFirst leaf same) → ValidLayers leaf layers → OnlyMemory result
accepted leaf same layers (Ok bound) is f v = tt
accepted leaf same layers (Err fault) is f v = valid-fault leaf same (subst (λ (ls : List Layer). ValidLayers leaf ls) (sym is) v) fault f

pub ended : (leaf : LeafModel) (layers : List Layer) (result : Result ℕ (Failure LayerWhy)) → IsLeaf leaf → IfOk result (λ bound. ValidLayers leaf layers × (bound ≡ layers_bound layers)) → IfOk result (EndsWithin leaf)
ended leaf layers (Ok bound) formed v = subst (λ (k : ℕ). EndsWithin leaf k) (sym v.1) (valid-ends leaf layers formed v.0)
ended leaf layers (Err fault) formed v = tt
