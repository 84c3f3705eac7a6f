-- The predicates in the file of a bundle are within the limits, and so are the weights.
use Rattle.std.proofs.Common.{◌≡◌, ℕ, ◌≤◌, ◌<◌, ◌^◌, Bool, true, false, List, [], ◌∷◌, length, ltb, nat_abs, IfOk, Result, Ok, Err, refl, subst, arith}
use Rattle.std.specs.Prelude.{if◌then◌else◌, ◌||◌, All, ℤ}
use Rattle.std.proofs.lemmas.Bool.{ltb-false}
use Rattle.std.proofs.lemmas.List.Elements.{All-cons, All-nil, All-head, All-tail, All-weaker}
use Rattle.serde_json.specs.Data.{Data}
use Rattle.base_json.specs.Parts.{AreItems}
use Rattle.pop_io.specs.declared.names.TheConstants.{VARIABLE_LIMIT}
use Rattle.pres_ast.specs.declared.limits.TheConstants.{WEIGHT_LIMIT}
use Rattle.pres_ast.specs.PredTree.{PredTree}
use Rattle.pres_ast.specs.PredModel.{PredModel, IsPred}
use Rattle.pres_tokens.specs.Symbols.{Placed}
use Rattle.pres_tokens.specs.Tokens.{tokens_of}
use Rattle.pres_read.specs.declared.depth.TheConstants.{PARENTHESIS_LIMIT}
use Rattle.pres_read.specs.declared.read.TheConstants.{TEXT_LIMIT}
use Rattle.pres_read.specs.declared.fault.ReadPred.{ReadPred}
use Rattle.pres_read.specs.declared.fault.ReadPred.TheVariants.{TooDeep, LongText}
use Rattle.pres_read.specs.Outcome.{◌>>=◌}
use Rattle.pres_read.specs.PredText.{IsTextOf}
use Rattle.pres_read.specs.Progress.{Progress, start}
use Rattle.pres_read.specs.Depth.{Depth, surface, deeper, sunk}
use Rattle.pres_read.specs.Reading.{step, with_progress, run, tree_read, over_names, pred_read}
use Rattle.pres_read.specs.Sound.{IsSoundProgress}
use Rattle.pres_read.proofs.Ends.{sound_further, finish_fits}
use Rattle.pres_read.proofs.PredTexts.{meant_read}
use Rattle.cert_base.specs.declared.layer.Layer.{Layer}
use Rattle.cert_base.specs.declared.stable.StablePart.{StablePart}
use Rattle.cert_base.specs.declared.stable.StablePart.TheVariants.{Silent, Stable}
use Rattle.cert_base.specs.ProofLimits.{IsSmall, IsLayerWithin}
use Rattle.cert_base.specs.StableProof.{pred_of_part, IsPartWithin}
use Rattle.cert_json.specs.PartFile.{IsPartFile}
use Rattle.cert_show.specs.TextTells.{IsWeight, HasWeights, AreWeighted, IsPartWritable}

-- ---- weights

layer_weighs : (layer : Layer) → IsLayerWithin layer → HasWeights layer
layer_weighs layer is = All-weaker IsSmall IsWeight (λ z small. omega (arith, small)) layer.weights is.weights

layers_weigh : (layers : List Layer) → All IsLayerWithin layers → All HasWeights layers
layers_weigh layers all = All-weaker IsLayerWithin HasWeights layer_weighs layers all

part_weighs : (n : ℕ) (part : StablePart) → IsPartWithin n part → AreWeighted part
part_weighs n (Silent part) is = layers_weigh part.layers is.layers
part_weighs n (Stable goals) is =
    (layers_weigh goals.on_true.layers is.on_true.layers, layers_weigh goals.on_false.layers is.on_false.layers)

-- ---- one text: what is read is within the limits

charge_small : (t : Placed) (d e : Depth) (heavy deep : Bool) → ltb WEIGHT_LIMIT d.charge ≡ heavy
    → ◌≡◌ {A = Result Depth ReadPred} (if heavy || deep then Err (TooDeep t.place) else Ok d) (Ok e) → e.charge ≤ WEIGHT_LIMIT
charge_small t d e true deep is h = absurd cc
charge_small t d e false true is h = absurd cc
charge_small t d e false false is h =
    let same : d ≡ e = cc in subst (λ (x : Depth). x.charge ≤ WEIGHT_LIMIT) same (ltb-false WEIGHT_LIMIT d.charge is)

sunk_small : (t : Placed) (d e : Depth) → sunk d t ≡ Ok e → e.charge ≤ WEIGHT_LIMIT
sunk_small t d e h =
    charge_small t (deeper d t.symbol) e (ltb WEIGHT_LIMIT (deeper d t.symbol).charge) (ltb PARENTHESIS_LIMIT (deeper d t.symbol).parentheses) refl h

module _ (names : List (List ℕ)) (one : 1 ≤ length names) (most : length names ≤ VARIABLE_LIMIT) where
  abbrev Fits : Result PredTree ReadPred → Type 0
  Fits r = IfOk r (IsPred (length names))

  depth_fits : (end : ℕ) (ts : List Placed) (t : Placed) (q : Progress) (d : Depth) (r : Result Depth ReadPred) → sunk d t ≡ r
      → ((e : Depth) → sunk d t ≡ Ok e → Fits (run names end q e ts)) → Fits (with_progress q r >>= λ x. run names end x.0 x.1 ts)
  depth_fits end ts t q d (Ok e) is later = later e is
  depth_fits end ts t q d (Err e) is later = tt

  step_fits : (end : ℕ) (ts : List Placed) (t : Placed) (p : Progress) (d : Depth) (r : Result Progress ReadPred) → step names p t ≡ r
      → ((q : Progress) (e : Depth) → step names p t ≡ Ok q → sunk d t ≡ Ok e → Fits (run names end q e ts))
      → Fits ((r >>= λ q. with_progress q (sunk d t)) >>= λ x. run names end x.0 x.1 ts)
  step_fits end ts t p d (Ok q) is later = depth_fits end ts t q d (sunk d t) refl (λ e deep. later q e is deep)
  step_fits end ts t p d (Err e) is later = tt

  run_fits : (end : ℕ) (ts : List Placed) (p : Progress) (d : Depth) → d.charge ≤ WEIGHT_LIMIT → IsSoundProgress (length names) p d.charge → Fits (run names end p d ts)
  run_fits end [] p d small sound = finish_fits (length names) d.charge end p one most small sound
  run_fits end (t ∷ ts) p d small sound =
      step_fits end ts t p d (step names p t) refl
      (λ q e stepped deep. run_fits end ts q e (sunk_small t d e deep) (sound_further names p q d e t sound stepped deep))

  start_sound : IsSoundProgress (length names) start 0
  start_sound = record { above = tt; span = (tt, tt); next = tt; settled = tt; weight = refl }

  tree_fits : (text : List ℕ) → Fits (tree_read names text)
  tree_fits text = by_length (ltb TEXT_LIMIT (length text))
    where
      by_length : (long : Bool) → Fits (if long then Err (LongText (length text)) else run names (length text) start surface (tokens_of text))
      by_length true = tt
      by_length false = run_fits (length text) (tokens_of text) start surface (omega arith) start_sound

  abbrev IsLimited : PredModel → Type 0
  IsLimited p = IsPred (length names) p.tree

  over_fits : (r : Result PredTree ReadPred) → Fits r → IfOk (over_names (length names) r) IsLimited
  over_fits (Ok tree) fits = fits
  over_fits (Err e) fits = tt

  -- ---- the predicates of a file

  pub text_fits : (text : List ℕ) (p : PredModel) → IsTextOf names text p → IsPred (length names) p.tree
  text_fits text p is =
      subst (λ (r : Result PredModel ReadPred). IfOk r IsLimited) (meant_read names text p is) (over_fits (tree_read names text) (tree_fits text))

  part_fits : (part : StablePart) (d : Data) → IsPartFile names part d → IsPred (length names) (pred_of_part part).tree
  part_fits (Silent part) d file = text_fits file.pred.2.0 part.pred file.pred.2.2
  part_fits (Stable goals) d file = text_fits file.1.pred.2.0 goals.pred file.1.pred.2.2

  -- a part can be written, with its predicate and its weights
  pub parts_fit : (n : ℕ) (parts : List StablePart) (ds : List Data) → AreItems (IsPartFile names) parts ds → All (IsPartWithin n) parts → All (IsPartWritable (length names)) parts
  parts_fit n [] ds are within = All-nil (IsPartWritable (length names))
  parts_fit n (part ∷ parts) [] are within = absurd are
  parts_fit n (part ∷ parts) (d ∷ ds) are within =
      All-cons (IsPartWritable (length names)) part parts
      (record { pred = part_fits part d are.0; weights = part_weighs n part (All-head (IsPartWithin n) part parts within) })
      (parts_fit n parts ds are.1 (All-tail (IsPartWithin n) part parts within))
