-- The parts of which rows are made.
use Rattle.std.specs.Prelude.{ℕ, Bool, if◌then◌else◌, List, [], ◌∷◌, ◌++◌, ℤ, pos, negsuc, ◌-ℤ◌, map, take}
use Rattle.std.specs.Prelude.{slice_index_or}
use Rattle.std.specs.Prelude.{◌==◌}
use Rattle.std.specs.Ordering.{int_eq}
use Rattle.pop_leaf.specs.declared.leaf.Move.{Move}
use Rattle.pop_leaf.specs.LeafModel.{LeafModel, pre, post}
use Rattle.pres_ast.specs.PredModel.{PredModel}
use Rattle.cert_base.specs.declared.fact.Term.{Term}
use Rattle.cert_base.specs.declared.fact.Fact.{Fact}
use Rattle.cert_base.specs.declared.fact.Fact.TheVariants.{Holds}
use Rattle.cert_base.specs.Rows.{terms_from, state_variable, move_variable}
use Rattle.cert_base.specs.FactsAndCases.{indicator, states_of, is_in, flow, two_agents_fact}
use Rattle.std.specs.List.{slice_set}

-- the term of a variable with this coefficient, or none if it is 0
abbrev pub term_of : ℕ → ℤ → List Term
term_of variable a = if int_eq a (pos 0) then [] else (record { at = variable; by = a } ∷ [])

-- what a move brings to a state, less what it takes from it
abbrev pub change_at : ℕ → Move → ℤ
change_at q t = pos (post t q) -ℤ pos (pre t q)

-- the terms of a state's flow fact for the inputs from number i on
abbrev pub input_terms_from : LeafModel → ℕ → ℕ → List ℕ → List Term
input_terms_from leaf q i starts = terms_from i (map (λ start. indicator (start == q)) starts)

-- the terms of a state's flow fact, with its first k moves
abbrev pub flow_terms : LeafModel → ℕ → ℕ → List Term
flow_terms leaf k q =
    input_terms_from leaf q 0 leaf.inputs
    ++ (record { at = state_variable leaf q; by = negsuc 0 }
    ∷ terms_from (move_variable leaf 0) (map (change_at q) (take k leaf.moves)))

-- the same for each state
abbrev pub flow_rows_after : LeafModel → ℕ → List (List Term)
flow_rows_after leaf k = map (flow_terms leaf k) (states_of leaf)

-- the rows with what a move changes at a state, unless it was entered before
abbrev pub entered_rows : List (List Term) → ℕ → List ℕ → Move → ℕ → List (List Term)
entered_rows rows state before taken variable =
    if is_in before state
    then rows
    else slice_set rows state (slice_index_or rows state [] ++ term_of variable (change_at state taken))

-- the facts that don't speak of the agents' outputs, or of sets of states
abbrev pub input_list : LeafModel → PredModel → Bool → List Fact
input_list leaf p value = map (flow leaf) (states_of leaf) ++ two_agents_fact leaf ∷ Holds p value ∷ []
