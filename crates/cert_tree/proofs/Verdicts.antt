-- What the walk's end says of the nodes.
use Rattle.std.proofs.Common.{◌≡◌, ◌≢◌, ℕ, ◌+◌, ◌<◌, Bool, true, false, List, [], ◌∷◌, length, drop, get_or, refl, ap, sym, ◌∙◌}
use Rattle.std.specs.Prelude.{Option, Some, None, slice_index_or}
use Rattle.std.proofs.lemmas.Option.{slice_get-get_or}
use Rattle.std.proofs.lemmas.List.{drop_more}
use Rattle.pres_ast.specs.PredTree.{PredTree}
use Rattle.pop_leaf.specs.LeafModel.{LeafModel}
use Rattle.pop_leaf.specs.InputCrowd.{leaf_input_crowd}
use Rattle.cert_base.specs.declared.node.Node.{Node}
use Rattle.cert_base.specs.declared.fact.Fact.{Fact}
use Rattle.cert_base.specs.Closes.{ClosesFor}
use Rattle.cert_base.specs.Valuation.{Valuation, times_taken}
use Rattle.cert_base.specs.Ends.{IsWrongEnd, EndsRight, HoldAtWrongEnds}
use Rattle.cert_base.proofs.Executions.{count_for, execution_has}
use Rattle.cert_tree.specs.declared.fault.TreeWhy.TheVariants.{Missing}
use Rattle.cert_tree.specs.declared.fault.TreeFault.{TreeFault}
use Rattle.pop_io.specs.declared.failure.Failure.{Failure}
use Rattle.pop_io.specs.declared.failure.Failure.TheVariants.{Fault, NoMemory}
use Rattle.pop_io.specs.Failures.{Names}
use Rattle.cert_tree.specs.declared.fault.TreeWhy.{TreeWhy}
use Rattle.cert_tree.specs.Refusals.{Waiting, first_from, first_for, IsFaultFor}
use Rattle.cert_tree.specs.Halts.{HaltsAt, fault_at}
use Rattle.cert_tree.specs.NoEnds.{NoneMeets}
use Rattle.cert_tree.proofs.ClosedWalk.{ClosesFor-unrefused}

module _ (leaf dead : LeafModel) (facts : List Fact) (nodes : List Node) where
  -- a node at which the walk halts is the first that is refused
  pub broken_at : (rest : List Node) (before : List Waiting) (number : ℕ) (node : Node) (halt : Failure TreeWhy) → first_for leaf dead facts nodes ≡ first_from leaf dead before number (drop number nodes) → drop number nodes ≡ node ∷ rest → HaltsAt leaf dead before node halt → Names (IsFaultFor leaf dead facts nodes) (fault_at number halt)
  broken_at rest before number node (Fault why) same d h =
      same ∙ ap (first_from leaf dead before number) d ∙ h number rest
  broken_at rest before number node NoMemory same d h = tt

  pub missing_at : (at : Waiting) (before others : List Waiting) (number : ℕ) → first_for leaf dead facts nodes ≡ first_from leaf dead before number (drop number nodes) → drop number nodes ≡ [] → before ≡ at ∷ others → first_for leaf dead facts nodes ≡ Some (number, Missing)
  missing_at at before others number same d e = same ∙ rw (d, e) refl

  pub none_at : (before : List Waiting) (number : ℕ) → first_for leaf dead facts nodes ≡ first_from leaf dead before number (drop number nodes) → drop number nodes ≡ [] → before ≡ [] → first_for leaf dead facts nodes ≡ None
  none_at before number same d e = same ∙ rw (d, e) refl

  -- a tree that closes is refused only when memory runs out
  pub only_memory : (fault : Failure TreeFault) → Names (IsFaultFor leaf dead facts nodes) fault → ClosesFor leaf dead facts nodes [] → fault ≡ NoMemory
  only_memory (Fault fault) is closes =
      let none = ClosesFor-unrefused leaf dead facts nodes closes in
      let clash : ◌≡◌ {A = Option (ℕ × TreeWhy)} (Some (fault.node, fault.why)) None = sym is ∙ none in
      cc
  only_memory NoMemory is closes = refl

same_output : (a b : Bool) → (a ≢ b → ⊥) → a ≡ b
same_output true true h = refl
same_output true false h = absurd (h (λ e. cc))
same_output false true h = absurd (h (λ e. cc))
same_output false false h = refl

-- without wrong ends, all ends are right
pub ends_right : (leaf : LeafModel) (tree : PredTree) (value : Bool) → ((count : Valuation) → IsWrongEnd leaf tree value count → ⊥) → EndsRight leaf tree value
ends_right leaf tree value none counts end input has reached terminal k d l =
    same_output (slice_index_or leaf.outputs (get_or end k d) false) value
    (λ wrong. none (count_for leaf counts end (λ t. times_taken leaf t (leaf_input_crowd leaf counts) reached.0 end reached.1))
    (record {
      reached =
          record {
            counts = counts;
            path = reached.0;
            end = end;
            way = reached.1;
            input = input;
            terminal = terminal;
            execution = execution_has leaf counts reached.0 end reached.1;
          };
      has_value = has;
      agent = k;
      state = get_or end k d;
      there = slice_get-get_or end k d l;
      wrong = wrong;
    }))

-- without ends that meet all facts, of which every wrong end meets all, all ends are right
pub none_right : (leaf : LeafModel) (tree : PredTree) (value : Bool) (facts : List Fact) → HoldAtWrongEnds leaf tree value facts → NoneMeets leaf leaf facts → EndsRight leaf tree value
none_right leaf tree value facts met none =
    ends_right leaf tree value (λ count wrong. none count wrong.reached (met count wrong))

-- ---- the nodes that are left

pub item_at : (nodes items : List Node) (n : ℕ) (node : Node) → items ≡ nodes → n < length items → node ≡ get_or items n node → drop n nodes ≡ node ∷ drop (n + 1) nodes
item_at nodes items n node same l is =
    let l' : n < length nodes = rw (← same) l in
    let is' : node ≡ get_or nodes n node = rw (← same) is in
    drop_more nodes n node l' ∙ ap (λ x. x ∷ drop (n + 1) nodes) (sym is')
