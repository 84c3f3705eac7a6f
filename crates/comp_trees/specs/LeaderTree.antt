-- LeaderTree: trees for a leaf with leaders, which are its first states: the predicate is opened; the leaders are a
-- trap, so one of them is left; each leader in turn is absent, or it is the only one.
use Rattle.std.specs.Prelude.{◌≡◌, ◌<◌, ◌≤◌, All, ℕ, zero, suc, ◌+◌, Bool, true, false, not, ◌&&◌, ◌==◌, if◌then◌else◌}
use Rattle.std.specs.Prelude.{List}
use Rattle.std.specs.Prelude.{[], ◌∷◌, ◌++◌, map, filter, length, ℤ, pos, negsuc, neg_ℤ, reverse, replicate}
use Rattle.std.specs.Prelude.{slice_index_or}
use Rattle.std.specs.List.{range_with_len}
use Rattle.pop_leaf.specs.LeafModel.{LeafModel}
use Rattle.cert_base.specs.declared.limits.TheConstants.{FACT_LIMIT}
use Rattle.cert_base.specs.declared.fact.Fact.{Fact}
use Rattle.cert_base.specs.declared.fact.Fact.TheVariants.{Ge}
use Rattle.cert_base.specs.declared.node.Node.{Node}
use Rattle.cert_base.specs.declared.node.Node.TheVariants.{Linear, Present, Trap, Open}
use Rattle.cert_base.specs.Rows.{terms_from, zeros}
use Rattle.cert_base.specs.FactsAndCases.{indicator, differs, states_of, can_meet_in, absent_fact, occurs_fact}
use Rattle.cert_base.specs.FactsAndCases.{alone_fact, count_row}

-- the leaders
abbrev pub leaders : ℕ → List ℕ
leaders n = range_with_len 0 n

-- the states that a leader's presence rules out
abbrev pub company_of : LeafModel → ℕ → List ℕ
company_of leaf p = filter (λ q. not (q == p) && can_meet_in leaf p q) (states_of leaf)

-- the facts above the leaders' nodes, and those above the node of a leader that is present
abbrev pub facts_of_trap : LeafModel → List Fact → Fact → ℕ → List Fact
facts_of_trap leaf base opened n = (base ++ opened ∷ []) ++ Ge (count_row leaf (leaders n) (negsuc 0)) ∷ []

abbrev pub facts_without : LeafModel → List Fact → ℕ → List Fact
facts_without leaf facts p = facts ++ map (absent_fact leaf) (range_with_len 0 p)

abbrev pub facts_of_leader : LeafModel → List Fact → ℕ → List Fact
facts_of_leader leaf facts p =
    facts_without leaf facts p
    ++ ((occurs_fact leaf p ∷ map (absent_fact leaf) (company_of leaf p))
    ++ (if can_meet_in leaf p p then (alone_fact leaf p ∷ []) else []))

-- the multipliers of a leader's node
pub record LeaderMix : Type 0 where
  -- of the states' flow facts, of the wrong output, and of the opened fact
  pub flows : ℕ → ℤ
  pub wrong : ℤ
  pub opened : ℤ
  -- of the states that are ruled out, and of the fact that the leader is alone
  pub ruled_out : ℕ → ℤ
  pub alone : ℤ

abbrev pub mix_of_trap : LeafModel → LeaderMix → List ℤ
mix_of_trap leaf mix =
    ((map mix.flows (states_of leaf) ++ pos 0 ∷ pos 0 ∷ mix.wrong ∷ []) ++ mix.opened ∷ []) ++ pos 0 ∷ []

-- those of a leader, with these states ruled out
abbrev pub mix_of_leader : LeafModel → List ℕ → LeaderMix → ℕ → List ℤ
mix_of_leader leaf out mix p = (mix_of_trap leaf mix ++ zeros p) ++ ((pos 0 ∷ map mix.ruled_out out) ++ mix.alone ∷ [])

-- the nodes for k leaders from p on
abbrev pub leader_nodes : (ℕ → Node) → Node → ℕ → ℕ → List Node
leader_nodes ends last p zero = last ∷ []
leader_nodes ends last p (suc k) = Present p ∷ (leader_nodes ends last (p + 1) k ++ ends p ∷ [])

-- with n leaders: the trap's fact, less the facts that each leader is absent
abbrev pub no_leader_mix : LeafModel → ℕ → List ℤ
no_leader_mix leaf n = (zeros (length leaf.states + 4) ++ pos 1 ∷ []) ++ replicate n (negsuc 0)

-- no move takes from the leaders without putting one back
abbrev pub no_leak_mix : LeafModel → List ℤ
no_leak_mix leaf = zeros (length leaf.states + 4) ++ pos 1 ∷ []

-- there are at least two agents, and no input starts among the leaders
abbrev pub no_input_mix : LeafModel → List ℤ
no_input_mix leaf =
    ((zeros (length leaf.states) ++ pos 1 ∷ pos 0 ∷ pos 0 ∷ []) ++ pos 0 ∷ [])
    ++ ((zeros (length leaf.moves) ++ replicate (length leaf.inputs) (negsuc 0)) ++ pos 0 ∷ [])

-- no helper starts among the leaders
abbrev pub helped_mix : LeafModel → List ℤ
helped_mix leaf =
    zeros (length leaf.states + 4) ++ (zeros (length leaf.moves + length leaf.inputs + 1) ++ negsuc 0 ∷ [])

-- nobody starts among the leaders
abbrev pub no_start_mix : LeafModel → List ℤ
no_start_mix leaf = if length leaf.helpers == 0 then no_input_mix leaf else helped_mix leaf

abbrev pub weighed_node : List ℤ → Node
weighed_node multipliers = Linear (terms_from 0 multipliers)

-- the multipliers of the base facts, of the opened predicate, and of the facts after it
abbrev pub mix_over : List ℤ → ℤ → ℤ → List ℤ → List ℤ
mix_over flows wrong opened own = ((flows ++ pos 0 ∷ pos 0 ∷ wrong ∷ []) ++ opened ∷ []) ++ own

abbrev pub leader_tree : LeafModel → ℕ → (ℕ → Node) → List Node
leader_tree leaf n ends =
    Open (length leaf.states + 1) ∷ Trap (leaders n) ∷ weighed_node (no_leak_mix leaf)
    ∷ weighed_node (no_start_mix leaf)
    ∷ leader_nodes ends (weighed_node (no_leader_mix leaf n)) 0 n

-- ---- the two kinds of nodes of a leader

-- some agent has a wrong output, but all states with a wrong output are ruled out
abbrev pub wrong_mix : LeafModel → Bool → LeaderMix
wrong_mix leaf b =
    record {
      flows = λ q. pos 0;
      wrong = pos 1;
      opened = pos 0;
      ruled_out = λ q. neg_ℤ (indicator (differs b (slice_index_or leaf.outputs q false)));
      alone = pos 0;
    }

-- each state has a value, and what the opened fact says contradicts the value of the one leader
abbrev pub value_mix : (ℕ → ℤ) → ℤ → ℕ → LeaderMix
value_mix value opened p =
    record {
      flows = value;
      wrong = pos 0;
      opened = opened;
      ruled_out = value;
      alone = value p;
    }

-- what a leaf with n leaders has: each helper and each input is a leader, each move puts a leader first, and each
-- leader can meet itself
pub record IsLed (leaf : LeafModel) (n : ℕ) : Type 0 where
  pub helpers : All (λ q. q < n) leaf.helpers
  pub leaders : n ≤ length leaf.states
  pub inputs : All (λ q. q < n) leaf.inputs
  pub moves : All (λ t. t.r < n) leaf.moves
  pub twins : (p : ℕ) → p < n → can_meet_in leaf p p ≡ true
  -- the longest case is that the leaders were never marked
  pub few : length leaf.states + length leaf.moves + length leaf.inputs + 6 ≤ FACT_LIMIT

-- ---- as the code builds them

-- the mix with these multipliers for the states
abbrev pub mix_by : List ℤ → ℤ → ℤ → List ℤ → ℤ → LeaderMix
mix_by flows wrong opened ruled_out alone =
    record {
      flows = λ q. slice_index_or flows q (pos 0);
      wrong = wrong;
      opened = opened;
      ruled_out = λ q. slice_index_or ruled_out q (pos 0);
      alone = alone;
    }

-- the nodes above the leaders'
abbrev pub top_nodes : LeafModel → ℕ → List Node
top_nodes leaf n =
    Open (length leaf.states + 1) ∷ Trap (leaders n) ∷ weighed_node (no_leak_mix leaf)
    ∷ weighed_node (no_start_mix leaf) ∷ []

-- the tree whose leaders' nodes are these, the first leader's node first
abbrev pub tree_of_ends : LeafModel → List Node → List Node
tree_of_ends leaf ends =
    ((top_nodes leaf (length ends) ++ map Present (range_with_len 0 (length ends)))
    ++ weighed_node (no_leader_mix leaf (length ends)) ∷ []) ++ reverse ends

-- the multipliers before those of the leader's own facts
abbrev pub mix_above : List ℤ → ℤ → ℤ → ℕ → List ℤ
mix_above flows wrong opened leader =
    (((flows ++ pos 0 ∷ pos 0 ∷ wrong ∷ []) ++ opened ∷ []) ++ pos 0 ∷ []) ++ zeros leader
