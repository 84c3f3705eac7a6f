-- RemainderProof: the trees and the whole proof for a built leaf of `Rest`. A leader counts for its remainder, and a
-- follower for nothing.
use Rattle.std.specs.Prelude.{ℕ, Bool, true, false, nat_lt, if◌then◌else◌, List, ℤ, pos, negsuc, length}
use Rattle.pop_leaf.specs.LeafModel.{LeafModel}
use Rattle.pres_ast.specs.PredTree.{Congruent}
use Rattle.pres_ast.specs.PredModel.{PredModel}
use Rattle.cert_base.specs.declared.node.Node.{Node}
use Rattle.cert_base.specs.declared.node.Node.TheVariants.{Residue}
use Rattle.cert_base.specs.declared.proof.LeafProof.{LeafProof}
use Rattle.cert_base.specs.Rows.{terms_from}
use Rattle.cert_base.specs.FactsAndCases.{differs}
use Rattle.comp_trees.specs.LeaderTree.{company_of, mix_of_leader, wrong_mix, value_mix, weighed_node, leader_tree}
use Rattle.comp_remainder.specs.RemainderLeaf.{remainder_output, remainder_leaf_of}
use Rattle.comp_remainder.specs.RemainderLayers.{remainder_layers}

-- a leader's remainder, and 0 for a follower
abbrev pub remainder_value : ℕ → ℕ → ℤ
remainder_value m q = if nat_lt q m then pos q else pos 0

-- how often the opened predicate is added: -1 times if it is a congruence, and not at all if it denies one
abbrev pub opened_by : Bool → ℤ
opened_by b = if b then negsuc 0 else pos 0

-- the node of the leader p in the tree for b: its remainder doesn't agree with the opened predicate, or no state with
-- another output is left
abbrev pub remainder_value_node : LeafModel → ℕ → Bool → ℕ → Node
remainder_value_node leaf m b p =
    Residue m (terms_from 0 (mix_of_leader leaf (company_of leaf p) (value_mix (remainder_value m) (opened_by b) p) p))

abbrev pub remainder_wrong_node : LeafModel → Bool → ℕ → Node
remainder_wrong_node leaf b p = weighed_node (mix_of_leader leaf (company_of leaf p) (wrong_mix leaf b) p)

abbrev pub remainder_leader_node : LeafModel → (m rest : ℕ) → Bool → ℕ → Node
remainder_leader_node leaf m rest b p =
    if differs b (remainder_output m rest p) then remainder_value_node leaf m b p else remainder_wrong_node leaf b p

abbrev pub remainder_tree : LeafModel → (m rest : ℕ) → Bool → List Node
remainder_tree leaf m rest b = leader_tree leaf m (remainder_leader_node leaf m rest b)

-- ---- the whole proof of the leaf

-- how many steps per agent the proof allows: one in each layer
abbrev pub remainder_steps : ℕ
remainder_steps = 3

abbrev pub congruence : List ℤ → (m rest : ℕ) → PredModel
congruence coefs m rest = record { variables = length coefs; tree = Congruent coefs m rest }

abbrev pub remainder_part : List ℤ → (m rest spare : ℕ) → LeafProof
remainder_part coefs m rest spare =
    let leaf = remainder_leaf_of coefs m rest spare in
    record {
      pred = congruence coefs m rest;
      layers = remainder_layers leaf m;
      on_true = remainder_tree leaf m rest true;
      on_false = remainder_tree leaf m rest false;
    }
