-- A proof of a leaf that is rejected has one first fault, and a valid one has none.
use Rattle.std.proofs.Common.{◌≡◌, ◌⊎◌, inl, inr, ℕ, ◌<◌, ◌≤◌, Bool, true, false, List, [], refl, sym, ap, subst, ◌∙◌, arith}
use Rattle.std.specs.Prelude.{Some, Err}
use Rattle.std.proofs.lemmas.Bool.{cases_lt}
use Rattle.pres_ast.specs.PredModel.{PredModel}
use Rattle.pop_leaf.specs.LeafModel.{LeafModel}
use Rattle.cert_base.specs.declared.layer.Layer.{Layer}
use Rattle.cert_base.specs.declared.node.Node.{Node}
use Rattle.cert_base.specs.declared.proof.LeafProof.{LeafProof}
use Rattle.cert_base.specs.Closes.{Closes}
use Rattle.cert_base.specs.FactsAndCases.{base_list}
use Rattle.cert_base.specs.ValidLayers.{ValidLayers}
use Rattle.cert_base.specs.ValidProof.{ValidLeafProof}
use Rattle.pop_io.specs.declared.failure.Failure.TheVariants.{Fault}
use Rattle.cert_layers.specs.declared.fault.LayerWhy.{LayerWhy}
use Rattle.cert_layers.specs.declared.fault.LayerWhy.TheVariants.{Shape, NoLayer, NotLower, Wakes}
use Rattle.cert_layers.specs.LayerFaults.{ShapedAt, ListedAt, LowerAt, SleepsAt, Each, IsFirstFailing, AreBrokenFirst}
use Rattle.cert_layers.proofs.Valid.{accepted}
use Rattle.cert_tree.specs.declared.fault.TreeWhy.{TreeWhy}
use Rattle.cert_tree.specs.Refusals.{first_refused}
use Rattle.cert_tree.proofs.Verdicts.{only_memory}
use Rattle.pop_checker.specs.Rejections.{RejectsLayers, RejectsTree}

-- ---- the layers of a leaf

pub one_first : (P : ℕ → Type 0) (m n : ℕ) → IsFirstFailing P m → IsFirstFailing P n → m ≡ n
one_first P m n f g = go (cases_lt m n) (cases_lt n m)
  where
    go : (m < n) ⊎ (n ≤ m) → (n < m) ⊎ (m ≤ n) → m ≡ n
    go (inl l) k = absurd (f.0 (g.1 m l))
    go (inr l) (inl k) = absurd (g.0 (f.1 n k))
    go (inr l) (inr k) = omega (arith, l, k)

pub one_layer_fault : (leaf : LeafModel) (layers : List Layer) (why other : LayerWhy) → AreBrokenFirst leaf layers why → AreBrokenFirst leaf layers other → why ≡ other
one_layer_fault leaf layers (Shape n) (Shape m) f g =
    ap (λ (k : ℕ). Shape k) (one_first (ShapedAt leaf layers) n m f g)
one_layer_fault leaf layers (Shape n) (NoLayer m) f g = absurd (f.0 (g.0 n))
one_layer_fault leaf layers (Shape n) (NotLower m) f g = absurd (f.0 (g.0 n))
one_layer_fault leaf layers (Shape n) (Wakes m u) f g = absurd (f.0 (g.0 n))
one_layer_fault leaf layers (NoLayer n) (Shape m) f g = absurd (g.0 (f.0 m))
one_layer_fault leaf layers (NoLayer n) (NoLayer m) f g =
    ap (λ (k : ℕ). NoLayer k) (one_first (ListedAt leaf layers) n m f.1 g.1)
one_layer_fault leaf layers (NoLayer n) (NotLower m) f g = absurd (f.1.0 (g.1 n))
one_layer_fault leaf layers (NoLayer n) (Wakes m u) f g = absurd (f.1.0 (g.1 n))
one_layer_fault leaf layers (NotLower n) (Shape m) f g = absurd (g.0 (f.0 m))
one_layer_fault leaf layers (NotLower n) (NoLayer m) f g = absurd (g.1.0 (f.1 m))
one_layer_fault leaf layers (NotLower n) (NotLower m) f g =
    ap (λ (k : ℕ). NotLower k) (one_first (LowerAt leaf layers) n m f.2 g.2)
one_layer_fault leaf layers (NotLower n) (Wakes m u) f g = absurd (f.2.0 (g.2 n))
one_layer_fault leaf layers (Wakes n t) (Shape m) f g = absurd (g.0 (f.0 m))
one_layer_fault leaf layers (Wakes n t) (NoLayer m) f g = absurd (g.1.0 (f.1 m))
one_layer_fault leaf layers (Wakes n t) (NotLower m) f g = absurd (g.2.0 (f.2 m))
one_layer_fault leaf layers (Wakes n t) (Wakes m u) f g =
    let first = one_first (λ k. Each (SleepsAt leaf layers k)) n m f.3 g.3 in
    let second = one_first (SleepsAt leaf layers m) t u (subst (λ (k : ℕ). IsFirstFailing (SleepsAt leaf layers k) t) first f.4) g.4 in
    ap (λ (k : ℕ). Wakes k t) first ∙ ap (λ (k : ℕ). Wakes m k) second

-- ---- the trees of a leaf

-- the number and the reason of a node that is refused
abbrev pub Named : Type 0
Named = ℕ × TreeWhy

same_named : (named other : Named) → Some named ≡ Some other → named ≡ other
same_named named other same = cc

pub one_tree_fault : (leaf : LeafModel) (p : PredModel) (value : Bool) (nodes : List Node) (named other : Named) → first_refused leaf p value nodes ≡ Some named → first_refused leaf p value nodes ≡ Some other → named ≡ other
one_tree_fault leaf p value nodes named other f g = same_named named other (sym f ∙ g)

not_closed : (leaf : LeafModel) (p : PredModel) (value : Bool) (nodes : List Node) (named : Named) → Closes leaf (base_list leaf p value) nodes [] → first_refused leaf p value nodes ≡ Some named → ⊥
not_closed leaf p value nodes named closes is =
    let none = only_memory leaf leaf (base_list leaf p value) nodes (Fault (record { node = named.0; why = named.1 })) is closes in cc

-- ---- a leaf's proof

pub not_valid_layers : (leaf : LeafModel) (part : LeafProof) (why : LayerWhy) → ValidLayers leaf part.layers → RejectsLayers leaf part why → ⊥
not_valid_layers leaf part why valid rejects =
    let none = accepted leaf part.layers part.layers (Err (Fault why)) refl rejects valid in cc

pub not_valid_tree : (leaf : LeafModel) (part : LeafProof) (value : Bool) (named : Named) → ValidLeafProof leaf part → RejectsTree leaf part value named.0 named.1 → ⊥
not_valid_tree leaf part true named valid rejects =
    not_closed leaf part.pred true part.on_true named valid.on_true rejects.1
not_valid_tree leaf part false named valid rejects =
    not_closed leaf part.pred false part.on_false named valid.on_false rejects.2

pub tree_layers : (leaf : LeafModel) (part : LeafProof) (value : Bool) (named : Named) → RejectsTree leaf part value named.0 named.1 → ValidLayers leaf part.layers
tree_layers leaf part true named rejects = rejects.0
tree_layers leaf part false named rejects = rejects.0

pub one_tree : (leaf : LeafModel) (part : LeafProof) (value another : Bool) (named other : Named) → RejectsTree leaf part value named.0 named.1 → RejectsTree leaf part another other.0 other.1 → (value ≡ another) × (named ≡ other)
one_tree leaf part true true named other r s =
    (refl, one_tree_fault leaf part.pred true part.on_true named other r.1 s.1)
one_tree leaf part true false named other r s =
    absurd (not_closed leaf part.pred true part.on_true named s.1 r.1)
one_tree leaf part false true named other r s =
    absurd (not_closed leaf part.pred true part.on_true other r.1 s.1)
one_tree leaf part false false named other r s =
    (refl, one_tree_fault leaf part.pred false part.on_false named other r.2 s.2)
