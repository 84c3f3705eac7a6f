-- PowersProof: the layers, the trees and the whole proof for a built leaf of powers.
use Rattle.std.specs.Prelude.{◌≡◌, ◌≤◌, ℕ, ◌+◌, ◌*◌, ◌^◌, ◌%◌, Bool, true, false, if◌then◌else◌, List, []}
use Rattle.std.specs.Prelude.{◌∷◌, ◌++◌, map, length, ℤ, pos}
use Rattle.std.specs.Prelude.{negsuc, neg_ℤ, nat_lt, slice_index_or}
use Rattle.std.specs.List.{range_with_len, list_any}
use Rattle.pop_leaf.specs.declared.limits.TheConstants.{STATE_LIMIT}
use Rattle.pop_leaf.specs.LeafModel.{LeafModel}
use Rattle.pres_ast.specs.PredTree.{LessThan}
use Rattle.pres_ast.specs.PredModel.{PredModel}
use Rattle.cert_base.specs.declared.layer.Layer.{Layer}
use Rattle.cert_base.specs.declared.node.Node.{Node}
use Rattle.cert_base.specs.declared.node.Node.TheVariants.{Present, Twin, Trap, Open}
use Rattle.cert_base.specs.declared.proof.LeafProof.{LeafProof}
use Rattle.cert_base.specs.Rows.{zeros}
use Rattle.cert_base.specs.FactsAndCases.{indicator, differs, states_of, can_meet_in, puts_into, no_moves}
use Rattle.cert_base.specs.FactsAndCases.{no_start_facts}
use Rattle.comp_trees.specs.SortedLayers.{sorted_layers}
use Rattle.comp_trees.specs.LeaderTree.{company_of, weighed_node, mix_over}
use Rattle.comp_powers_leaf.specs.declared.role.Role.{Role}
use Rattle.comp_powers_leaf.specs.declared.role.Role.TheVariants.{Low, High, Nothing, Piece, Plus, Debtor, Token}
use Rattle.comp_powers_leaf.specs.PowersLeaf.{roles, HasRange, owed, coefficient_of, chain_of, worth, role_at}
use Rattle.comp_powers_leaf.specs.PowersLeaf.{place, powers_moves, powers_leaf_of}
use Rattle.comp_powers_leaf.specs.PowersLayers.{powers_kind, powers_weights}
use Rattle.comp_powers.specs.declared.values.Amount.{Amount}
use Rattle.comp_powers.specs.declared.values.Amount.TheVariants.{Worth, Owed, Lost, Ready}

abbrev pub powers_layers_of : List ℤ → ℕ → List Layer
powers_layers_of coefs k = sorted_layers (powers_moves coefs k) (powers_kind coefs k) 0 (powers_weights coefs k)

-- ---- multipliers

abbrev pub mix_of : LeafModel → (ℕ → ℤ) → ℤ → ℤ → List ℤ → List ℤ
mix_of leaf flows wrong opened own = mix_over (map flows (states_of leaf)) wrong opened own

abbrev pub none : ℕ → ℤ
none q = pos 0

abbrev pub by_role : List ℤ → ℕ → (Role → ℤ) → ℕ → ℤ
by_role coefs k f q = f (role_at coefs k q)

-- the hubs
abbrev pub hubs : List ℕ
hubs = 0 ∷ 1 ∷ []

-- those of the fact that a state is alone, if there is one
abbrev pub alone_zero : LeafModel → ℕ → List ℤ
alone_zero leaf p = if can_meet_in leaf p p then (pos 0 ∷ []) else []

-- a state with a wrong output
abbrev pub minus_wrong : LeafModel → Bool → ℕ → ℤ
minus_wrong leaf b q = neg_ℤ (indicator (differs b (slice_index_or leaf.outputs q false)))

-- those that are worth at least nothing, without the hubs and the debtors
abbrev pub credit : List ℤ → ℕ → Role → ℤ
credit coefs k Low = pos 0
credit coefs k High = pos 0
credit coefs k (Nothing b) = pos 0
credit coefs k (Piece i b) = pos (2 ^ i)
credit coefs k Plus = pos (2 ^ k)
credit coefs k (Debtor j) = pos 0
credit coefs k (Token j i) = pos (owed k (coefficient_of coefs j) % 2 ^ (i + 1))

-- 0 for those that wait: tokens, debtors and hubs
abbrev pub minus_ready : Role → ℤ
minus_ready Low = pos 0
minus_ready High = pos 0
minus_ready (Nothing b) = negsuc 0
minus_ready (Piece i b) = negsuc 0
minus_ready Plus = negsuc 0
minus_ready (Debtor j) = pos 0
minus_ready (Token j i) = pos 0

abbrev pub twin_places : List ℤ → ℕ → List ℕ
twin_places coefs k = map (λ i. place coefs k (Piece i true)) (range_with_len 0 k)

-- no move leaves the hubs; a helper starts there; not both are absent
abbrev pub no_leak_mix : LeafModel → List ℤ
no_leak_mix leaf = mix_of leaf none (pos 0) (pos 0) (pos 1 ∷ [])

abbrev pub helped_mix : LeafModel → List ℤ
helped_mix leaf =
    mix_of leaf none (pos 0) (pos 0)
    (zeros (length (no_moves leaf (puts_into hubs) ++ no_start_facts leaf hubs)) ++ pos 0 ∷ negsuc 0 ∷ [])

abbrev pub no_hub_mix : LeafModel → List ℤ
no_hub_mix leaf = mix_of leaf none (pos 0) (pos 0) (pos 1 ∷ negsuc 0 ∷ negsuc 0 ∷ [])

-- with a hub of 0: its company is absent
abbrev pub high_own : LeafModel → (ℕ → ℤ) → List ℤ
high_own leaf out = pos 0 ∷ pos 0 ∷ pos 0 ∷ map out (company_of leaf 1)

abbrev pub high_mix : List ℤ → ℕ → LeafModel → Bool → List ℤ
high_mix coefs k leaf true =
    mix_of leaf (by_role coefs k (worth coefs k)) (pos 0) (pos 1) (high_own leaf (by_role coefs k (worth coefs k)))
high_mix coefs k leaf false = mix_of leaf none (pos 1) (pos 0) (high_own leaf (minus_wrong leaf false))

-- with a hub of -2^k: its company is absent, each piece that says true is there at most once, and then the last facts
abbrev pub low_own : LeafModel → ℕ → ℤ → (ℕ → ℤ) → (ℕ → ℤ) → List ℤ → List ℤ
low_own leaf k here out twin last =
    pos 0 ∷ ((here ∷ map out (company_of leaf 0) ++ alone_zero leaf 0) ++ (map twin (range_with_len 0 k) ++ last))

-- nobody is worth nothing: then there are too few agents
abbrev pub few_mix : List ℤ → ℕ → LeafModel → List ℤ
few_mix coefs k leaf =
    mix_of leaf (by_role coefs k minus_ready) (pos 0) (pos 0)
    (low_own leaf k (pos 0) (λ q. negsuc 0) (λ i. pos 1) (negsuc 0 ∷ []))

-- somebody is: then no token is left
abbrev pub nothing_own : LeafModel → (ℕ → ℤ) → List ℤ
nothing_own leaf out = pos 0 ∷ map out (company_of leaf 3)

abbrev pub minus_credit : List ℤ → ℕ → Role → ℤ
minus_credit coefs k r = neg_ℤ (credit coefs k r)

abbrev pub minus_worth : List ℤ → ℕ → Role → ℤ
minus_worth coefs k r = neg_ℤ (worth coefs k r)

-- what a node counts a state for
abbrev pub amount_of : List ℤ → ℕ → Amount → Role → ℤ
amount_of coefs k Worth = worth coefs k
amount_of coefs k Owed = minus_worth coefs k
amount_of coefs k Lost = minus_credit coefs k
amount_of coefs k Ready = minus_ready

abbrev pub low_mix : List ℤ → ℕ → LeafModel → Bool → List ℤ
low_mix coefs k leaf true =
    mix_of leaf none (pos 1) (pos 0)
    (low_own leaf k (pos 0) (minus_wrong leaf true) none (nothing_own leaf (minus_wrong leaf true)))
low_mix coefs k leaf false =
    mix_of leaf (by_role coefs k (minus_worth coefs k)) (pos 0) (pos 1)
    (low_own leaf k (pos (2 ^ k)) (by_role coefs k (minus_credit coefs k)) (λ i. pos (2 ^ i))
    (nothing_own leaf (by_role coefs k (minus_credit coefs k))))

-- the list has the roles of the leaf's states, which are not too many
pub record AreStates (leaf : LeafModel) (coefs : List ℤ) (k : ℕ) (list : List Role) : Type 0 where
  pub range : HasRange coefs k
  pub listed : list ≡ roles coefs k
  pub counted : length leaf.states ≡ length list
  pub few : length list ≤ STATE_LIMIT

-- ---- the trees

abbrev pub powers_tree : List ℤ → ℕ → LeafModel → Bool → List Node
powers_tree coefs k leaf b =
    Open (length leaf.states + 1) ∷ Trap hubs ∷ weighed_node (no_leak_mix leaf) ∷ weighed_node (helped_mix leaf)
    ∷ Present 0 ∷ Present 1 ∷ weighed_node (no_hub_mix leaf) ∷ weighed_node (high_mix coefs k leaf b)
    ∷ (map Twin (twin_places coefs k)
    ++ Present 3 ∷ weighed_node (few_mix coefs k leaf) ∷ weighed_node (low_mix coefs k leaf b) ∷ [])

-- ---- the whole proof of the leaf

-- how many steps per agent the proof allows: by the greatest weight of the first layer, which is a debtor's, or a
-- token's, or 1, and 1 in each of the others
abbrev pub has_debtor : ℤ → Bool
has_debtor (pos n) = false
has_debtor (negsuc n) = true

abbrev pub has_tokens : ℕ → ℤ → Bool
has_tokens k a = nat_lt 0 (chain_of k a)

abbrev pub first_weight : List ℤ → ℕ → ℕ
first_weight coefs k =
    if list_any has_debtor coefs then 2 * k + 1 else (if list_any (has_tokens k) coefs then 2 * k else 1)

abbrev pub powers_steps : List ℤ → ℕ → ℕ
powers_steps coefs k = first_weight coefs k + 2

abbrev pub powers_pred_of : List ℤ → ℤ → PredModel
powers_pred_of coefs bound = record { variables = length coefs; tree = LessThan coefs bound }

abbrev pub powers_part : List ℤ → ℤ → ℕ → ℕ → LeafProof
powers_part coefs bound k spare =
    record {
      pred = powers_pred_of coefs bound;
      layers = powers_layers_of coefs k;
      on_true = powers_tree coefs k (powers_leaf_of coefs bound k spare) true;
      on_false = powers_tree coefs k (powers_leaf_of coefs bound k spare) false;
    }
