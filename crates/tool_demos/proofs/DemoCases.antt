-- Every demo case has a built net, and starts with a crowd that can be run.
use Rattle.std.proofs.Common.{◌≡◌, ℕ, ◌≤◌, Bool, true, false, None, refl, arith, rules}
use Rattle.std.specs.Prelude.{◌==◌, ◌%◌, ◌/◌, if◌then◌else◌}
use Rattle.pres_ast.specs.PredTree.{PredTree, Negation, Conjunction, Disjunction}
use Rattle.pop_leaf.specs.NetModel.{number_of_helpers}
use Rattle.pop_crowd.specs.Crowds.{input_size}
use Rattle.pop_crowd.specs.declared.limits.TheConstants.{AGENT_LEAST}
use Rattle.comp_net.specs.BuiltNet.{built_net}
use Rattle.comp_net.specs.CompileFaults.{fault_with}
use Rattle.comp_net.specs.declared.choice.LeafChoice.TheVariants.{Plain}
use Rattle.pop_demo.specs.DemoCase.{names_of_demo, demo_threshold, demo_remainder, of_form, demo_tree, demo_counts}
use Rattle.tool_courses.specs.DemoOutput.{demo_net}

-- what holds for the four forms holds for each case
each_form : (P : PredTree → Type 0) (p q : PredTree) → P p → P q → P (Conjunction p q) → P (Disjunction (Negation p) q) → (form : ℕ) → P (of_form form p q)
each_form P p q first second both either form = go (form == 0) (form == 1) (form == 2)
  where
    go : (a b c : Bool) → P (if a then p else (if b then q else (if c then Conjunction p q else Disjunction (Negation p) q)))
    go true b c = first
    go false true c = second
    go false false true = both
    go false false false = either

each_case : (P : PredTree → Type 0) → ((i : ℕ) → P (demo_threshold i)) → ((i : ℕ) → P (demo_remainder i)) → ((i : ℕ) → P (Conjunction (demo_threshold i) (demo_remainder i)))
    → ((i : ℕ) → P (Disjunction (Negation (demo_threshold i)) (demo_remainder i))) → (number : ℕ) → P (demo_tree number)
each_case P first second both either number =
    let i = number / 4 in each_form P (demo_threshold i) (demo_remainder i) (first i) (second i) (both i) (either i) (number % 4)

no_helpers : (number : ℕ) → number_of_helpers (demo_net number) ≡ 0
no_helpers = each_case (λ tree. number_of_helpers (built_net names_of_demo tree) ≡ 0) (λ i. refl) (λ i. refl) (λ i. refl) (λ i. refl)

-- each has a built net
pub case_fits : (number : ℕ) → fault_with Plain (demo_tree number) ≡ None
case_fits = each_case (λ tree. fault_with Plain tree ≡ None) (λ i. search rules) (λ i. refl) (λ i. search rules) (λ i. search rules)

pub some_agents : (number : ℕ) → AGENT_LEAST ≤ input_size (demo_net number) (demo_counts number)
some_agents number = omega (arith, no_helpers number)
