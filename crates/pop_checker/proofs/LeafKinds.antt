-- How each leaf of a proof with goals comes to rest, as the law of nets has it.
use Rattle.std.proofs.Common.{◌≡◌, ℕ, zero, suc, ◌+◌, Bool, true, false, List, [], ◌∷◌, length, map, Some, refl, sym, ap, subst, ◌∙◌}
use Rattle.std.specs.Prelude.{slice_get, sum_by}
use Rattle.std.proofs.lemmas.List.Sums.{sum_by-cons}
use Rattle.pres_ast.specs.PredTree.{PredTree}
use Rattle.pop_leaf.specs.LeafModel.{LeafModel}
use Rattle.cert_base.specs.declared.proof.Goal.{Goal}
use Rattle.cert_base.specs.declared.stable.StablePart.{StablePart}
use Rattle.cert_base.specs.declared.stable.StablePart.TheVariants.{Silent, Stable}
use Rattle.cert_base.specs.ProofBound.{layers_bound}
use Rattle.cert_base.specs.ValidLayers.{moves_of_layers}
use Rattle.cert_base.specs.FactsAndCases.{sets_of}
use Rattle.cert_base.specs.StableProof.{pred_of_part}
use Rattle.theory_goals.specs.LeafGoals.{LeafPart, parts_bound}
use Rattle.theory_goals.specs.Kinds.{ValueGoal, Silent as FallsSilent, Stable as ComesToGoals, kind_bound, KindPart, part_of, parts_of}
use Rattle.pop_checker.specs.ValidStable.{part_bound, predicate_alone}

abbrev pub value_goal : LeafModel → Bool → Goal → ValueGoal
value_goal leaf value goal =
    record { moves = moves_of_layers goal.layers; sets = sets_of leaf value goal.sets; bound = layers_bound goal.layers }

abbrev pub kind_of : LeafModel → StablePart → KindPart
kind_of leaf (Silent part) = record { tree = part.pred.tree; kind = FallsSilent (layers_bound part.layers) }
kind_of leaf (Stable goals) =
    record { tree = goals.pred.tree; kind = ComesToGoals (value_goal leaf true goals.on_true) (value_goal leaf false goals.on_false) }

abbrev pub kinds_of : List LeafModel → List StablePart → List KindPart
kinds_of [] parts = []
kinds_of (leaf ∷ leaves) [] = []
kinds_of (leaf ∷ leaves) (part ∷ parts) = kind_of leaf part ∷ kinds_of leaves parts

pub kinds_length : (leaves : List LeafModel) (parts : List StablePart) → length parts ≡ length leaves → length (kinds_of leaves parts) ≡ length leaves
kinds_length [] parts e = refl
kinds_length (leaf ∷ leaves) [] e = absurd cc
kinds_length (leaf ∷ leaves) (part ∷ parts) e = let rest : length parts ≡ length leaves = cc in ap suc (kinds_length leaves parts rest)

-- the kind at a place is that of the leaf and the part there
pub kind_at : (leaves : List LeafModel) (parts : List StablePart) (i : ℕ) (leaf : LeafModel) (kind : KindPart)
    → slice_get leaves i ≡ Some leaf → slice_get (kinds_of leaves parts) i ≡ Some kind
    → (part : StablePart) × (slice_get parts i ≡ Some part) × (kind_of leaf part ≡ kind)
kind_at [] parts i leaf kind e h = cc
kind_at (l ∷ leaves) [] i leaf kind e h = cc
kind_at (l ∷ leaves) (part ∷ parts) zero leaf kind e h =
    let same : l ≡ leaf = cc in
    let is : kind_of l part ≡ kind = cc in
    (part, refl, subst (λ (x : LeafModel). kind_of x part ≡ kind) same is)
kind_at (l ∷ leaves) (part ∷ parts) (suc i) leaf kind e h = kind_at leaves parts i leaf kind e h

one_bound : (leaf : LeafModel) (part : StablePart) → kind_bound (kind_of leaf part).kind ≡ part_bound part
one_bound leaf (Silent part) = refl
one_bound leaf (Stable goals) = refl

pub kinds_bound : (leaves : List LeafModel) (parts : List StablePart) → length parts ≡ length leaves → parts_bound (parts_of (kinds_of leaves parts)) ≡ sum_by part_bound parts
kinds_bound [] [] e = refl
kinds_bound [] (part ∷ parts) e = absurd cc
kinds_bound (leaf ∷ leaves) [] e = absurd cc
kinds_bound (leaf ∷ leaves) (part ∷ parts) e =
    let rest : length parts ≡ length leaves = cc in
    sum_by-cons (λ (p : LeafPart). p.bound) (part_of (kind_of leaf part)) (parts_of (kinds_of leaves parts))
    ∙ ap (λ n. n + parts_bound (parts_of (kinds_of leaves parts))) (one_bound leaf part)
    ∙ ap (λ n. part_bound part + n) (kinds_bound leaves parts rest)
    ∙ sym (sum_by-cons part_bound part parts)

one_tree : (leaf : LeafModel) (part : StablePart) → (kind_of leaf part).tree ≡ (pred_of_part part).tree
one_tree leaf (Silent part) = refl
one_tree leaf (Stable goals) = refl

pub kinds_trees : (leaves : List LeafModel) (parts : List StablePart) → length parts ≡ length leaves
    → map (λ (part : LeafPart). part.tree) (parts_of (kinds_of leaves parts)) ≡ map (λ part. part.pred.tree) (map predicate_alone parts)
kinds_trees [] [] e = refl
kinds_trees [] (part ∷ parts) e = absurd cc
kinds_trees (leaf ∷ leaves) [] e = absurd cc
kinds_trees (leaf ∷ leaves) (part ∷ parts) e =
    let rest : length parts ≡ length leaves = cc in
    ap (λ (t : PredTree). t ∷ map (λ (p : LeafPart). p.tree) (parts_of (kinds_of leaves parts))) (one_tree leaf part)
    ∙ ap (λ (ts : List PredTree). (pred_of_part part).tree ∷ ts) (kinds_trees leaves parts rest)
