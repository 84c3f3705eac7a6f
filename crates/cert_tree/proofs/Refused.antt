-- Why a node is refused.
use Rattle.std.proofs.Common.{◌≡◌, ℕ, ◌+◌, ◌<◌, Bool, true, false, List, ◌∷◌, ◌++◌, refl, ap, ◌∙◌}
use Rattle.std.specs.Prelude.{Some, None, if◌then◌else◌}
use Rattle.std.proofs.lemmas.Bool.{lt-ltb}
use Rattle.pop_leaf.specs.LeafModel.{LeafModel}
use Rattle.cert_base.specs.declared.fact.Fact.{Fact}
use Rattle.cert_base.specs.declared.node.Node.{Node}
use Rattle.pop_io.specs.declared.failure.Failure.{Failure}
use Rattle.pop_io.specs.declared.failure.Failure.TheVariants.{Fault, NoMemory}
use Rattle.cert_tree.specs.declared.fault.TreeWhy.{TreeWhy}
use Rattle.cert_tree.specs.declared.fault.TreeWhy.TheVariants.{TooManyFacts}
use Rattle.cert_tree.specs.Refusals.{Waiting, waits, dead_at, cases_at, cases_below, entries, facts_before, all_fit, own_refusal, refusal, go_on, first_from}
use Rattle.cert_tree.specs.Halts.{HaltsBy}
use Rattle.cert_tree.specs.Halts.{HaltsAt}

module _ (leaf dead : LeafModel) (above : ℕ) (facts : List Fact) (node : Node) where
  module _ (l : above < 4096) where
    module _ (own : own_refusal leaf dead facts node ≡ None) where
      pub refused_before : all_fit facts (cases_at leaf dead facts node) ≡ true → (halt : Failure TreeWhy) → HaltsBy (if all_fit (facts_before leaf facts node) (entries leaf node) then None else Some TooManyFacts) halt → HaltsBy (refusal leaf dead above facts node) halt
      refused_before fit NoMemory h = tt
      refused_before fit (Fault why) h = go (all_fit (facts_before leaf facts node) (entries leaf node)) refl h
        where
          go : (b : Bool) → all_fit (facts_before leaf facts node) (entries leaf node) ≡ b → (if b then None else Some TooManyFacts) ≡ Some why → refusal leaf dead above facts node ≡ Some why
          go true e f = cc
          go false e f = rw (lt-ltb above 4096 l, own, fit, e) f

-- the node at which a walk halts is the first that is refused
pub refused_at : (leaf dead : LeafModel) (above : ℕ) (is_still : Bool) (facts : List Fact) (before others : List Waiting) (node : Node) (halt : Failure TreeWhy) → before ≡ waits above is_still facts ∷ others → HaltsBy (refusal leaf (dead_at leaf dead is_still) above facts node) halt → HaltsAt leaf dead before node halt
refused_at leaf dead above is_still facts before others node NoMemory first h = tt
refused_at leaf dead above is_still facts before others node (Fault why) first h = λ number nodes.
    ap (λ (cases : List Waiting). first_from leaf dead cases number (node ∷ nodes)) first
    ∙ ap (λ reason. go_on reason number (first_from leaf dead (cases_below leaf dead (waits above is_still facts) node ++ others) (number + 1) nodes)) h
