-- DemoCase: the predicate, the counts and the run of the case with a number. Four cases in a row share an index.
use Rattle.std.specs.Prelude.{ℕ, if◌then◌else◌, ◌==◌, ◌+◌, ◌/◌, ◌%◌, List, [], ◌∷◌, codes, ℤ, pos, negsuc, ◌-ℤ◌}
use Rattle.pres_ast.specs.PredTree.{PredTree, LessThan, Congruent, Negation, Conjunction, Disjunction}
use Rattle.pres_ast.specs.PredModel.{PredModel}
use Rattle.run_spec.specs.declared.spec.RunSpec.{RunSpec}

abbrev pub names_of_demo : List (List ℕ)
names_of_demo = codes "x" ∷ codes "y" ∷ []

-- x - y < c, for c from -20 to 20
abbrev pub bound : ℕ → ℤ
bound index = pos (index % 41) -ℤ pos 20

abbrev pub demo_threshold : ℕ → PredTree
demo_threshold index = LessThan (pos 1 ∷ negsuc 0 ∷ []) (bound index)

-- x + 2*y = r mod m, for m from 2 to 20
abbrev pub modulus : ℕ → ℕ
modulus index = 2 + index % 19

abbrev pub rest : ℕ → ℕ
rest index = index % modulus index

abbrev pub demo_remainder : ℕ → PredTree
demo_remainder index = Congruent (pos 1 ∷ pos 2 ∷ []) (modulus index) (rest index)

-- the first, the second, both, or not the first or the second
abbrev pub of_form : ℕ → PredTree → PredTree → PredTree
of_form form p q =
    if form == 0 then p
    else (if form == 1 then q else (if form == 2 then Conjunction p q else Disjunction (Negation p) q))

abbrev pub demo_tree : ℕ → PredTree
demo_tree number = of_form (number % 4) (demo_threshold (number / 4)) (demo_remainder (number / 4))

abbrev pub demo_pred : ℕ → PredModel
demo_pred number = record { variables = 2; tree = demo_tree number }

-- from 100 to 499 agents for x, and 250 for y
abbrev pub demo_counts : ℕ → List ℕ
demo_counts number = (100 + (number / 4) % 400) ∷ 250 ∷ []

abbrev pub demo_spec : ℕ → RunSpec
demo_spec number = record { workers = 1; shards = 16; turns = 200000; seed = number }
