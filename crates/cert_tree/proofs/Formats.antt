-- Nodes within the limits of a proof are within the format that the check of a tree requires.
use Rattle.std.proofs.Common.{◌<◌, ◌≤◌, ◌^◌, List, [], ◌∷◌, get_or, map, arith}
use Rattle.std.specs.Prelude.{All, nat_abs}
use Rattle.std.proofs.lemmas.List.Elements.{All-nil, All-cons}
use Rattle.std.proofs.lemmas.List.Kept.{AllPairs-cons}
use Rattle.cert_base.specs.declared.fact.Term.{Term}
use Rattle.cert_base.specs.declared.node.Node.{Node}
use Rattle.cert_base.specs.declared.node.Node.TheVariants.{Linear, Residue, Split, Present, Twin, Trap, Siphon, Open, First}
use Rattle.cert_base.specs.ProofLimits.{IsAscending, AreTermsWithin, IsNodeWithin, AreNodesWithin}
use Rattle.cert_linear.specs.Conditions.{AreAscending, AreMultipliers}
use Rattle.cert_tree.specs.Format.{IsWithinFormat}

-- the first is below all others
below_others : (t : Term) (terms : List Term) → IsAscending (map (λ u. u.at) (t ∷ terms)) → All (λ u. t.at < u.at) terms
below_others t [] up = All-nil (λ (u : Term). t.at < u.at)
below_others t (u ∷ terms) up =
    let later = below_others u terms up.1 in
    All-cons (λ (v : Term). t.at < v.at) u terms up.0 (λ k d l. let h = later k d l in let first = up.0 in omega (arith, h, first))

ascends : (terms : List Term) → IsAscending (map (λ t. t.at) terms) → AreAscending terms
ascends [] up = λ i j d l m. absurd (omega arith)
ascends (t ∷ []) up = λ i j d l m. absurd (omega arith)
ascends (t ∷ u ∷ terms) up =
    AllPairs-cons (λ (v w : Term). v.at < w.at) t (u ∷ terms) (below_others t (u ∷ terms) up) (ascends (u ∷ terms) up.1)

small : (terms : List Term) → AreTermsWithin terms → All (λ t. nat_abs t.by ≤ 2 ^ 40) terms
small terms within = λ k d l. (within.1 k d l).1

multipliers : (terms : List Term) → AreTermsWithin terms → AreMultipliers terms
multipliers terms within = record { few = within.0; small = small terms within }

node_format : (node : Node) → IsNodeWithin node → IsWithinFormat node
node_format (Linear terms) within = multipliers terms within
node_format (Residue m terms) within = (within.0, within.1, multipliers terms within.2)
node_format (Split row) within = (ascends row.terms within.1, small row.terms within.0, within.2)
node_format (Present p) within = tt
node_format (Twin p) within = tt
node_format (Trap set) within = tt
node_format (Siphon set) within = tt
node_format (Open f) within = tt
node_format (First set) within = tt

pub nodes_format : (nodes : List Node) → AreNodesWithin nodes → All IsWithinFormat nodes
nodes_format nodes within = λ k d l. node_format (get_or nodes k d) (within.1 k d l)
