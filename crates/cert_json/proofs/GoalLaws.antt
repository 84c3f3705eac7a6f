-- What is read of a goal is in its file, and each such file is read.
use Rattle.std.proofs.Common.{◌≡◌, ℕ, ◌≤◌, List, [], length, codes, Option, Some, None, Result, Ok, refl, sym, subst, arith}
use Rattle.std.specs.Prelude.{All}
use Rattle.std.proofs.lemmas.List.Elements.{All-nil}
use Rattle.serde_json.specs.Data.{Data}
use Rattle.serde_json.specs.Find.{get}
use Rattle.base_json.specs.Faults.{Fault, ◌>>=◌}
use Rattle.base_json.specs.Paths.{member_path, item_path}
use Rattle.base_json.specs.Shapes.{object_at, member_at, member_by, pair_at, item_by, each_at}
use Rattle.base_json.specs.Parts.{IsNumber, IsList, HasItems, AreBoth}
use Rattle.base_json.proofs.Steps.{bind_ok, same_ok}
use Rattle.base_json.proofs.Readers
use Rattle.base_json.proofs.Fresh.{EachFrom-All, All-EachFrom}
use Rattle.base_json.proofs.TaggedReaders as Tagged
use Rattle.cert_base.specs.declared.limits.TheConstants.{SET_LIMIT}
use Rattle.cert_base.specs.declared.layer.Layer.{Layer}
use Rattle.cert_base.specs.declared.node.Node.{Node}
use Rattle.cert_base.specs.declared.proof.Goal.{Goal}
use Rattle.cert_base.specs.ProofLimits.{IsSetWithin, IsGoalWithin}
use Rattle.cert_json.specs.Examined.{layers_at, nodes_at}
use Rattle.cert_json.proofs.PartLaws.{states_at-takes, states_at-again, layers_at-takes, layers_at-again}
use Rattle.cert_json.proofs.NodeLaws.{nodes_at-takes, nodes_at-again}
use Rattle.cert_json.specs.PartFile.{AreSetsIn, IsGoalFile}
use Rattle.cert_json.specs.StableExamined.{set_item, sets_or_none, sets_at, goal_at, both_goals_at}

sets_takes : (path : List ℕ) (o : Option Data) (sets : List (List ℕ)) → sets_or_none path o ≡ Ok sets → AreSetsIn sets o × (length sets ≤ SET_LIMIT) × All IsSetWithin sets
unfolding each_at
sets_takes path None sets e =
    let none : [] ≡ sets = same_ok [] sets e in
    (sym none, subst (λ (s : List (List ℕ)). length s ≤ SET_LIMIT) none (omega arith), subst (λ (s : List (List ℕ)). All IsSetWithin s) none (All-nil IsSetWithin))
sets_takes path (Some d) sets e =
    let r = Readers.list-takes (item_by set_item path) (IsList IsNumber) (λ _ set. IsSetWithin set) (λ found i x set h. states_at-takes (item_path path i) x set h) path 0 SET_LIMIT d sets e in
    (r.0, r.3, EachFrom-All IsSetWithin [] sets r.1)

sets_again : (path : List ℕ) (o : Option Data) (sets : List (List ℕ)) → AreSetsIn sets o → length sets ≤ SET_LIMIT → All IsSetWithin sets → sets_or_none path o ≡ Ok sets
unfolding each_at
sets_again path None sets is hi fits = rw is refl
sets_again path (Some d) sets is hi fits =
    Readers.list-again (item_by set_item path) (IsList IsNumber) (λ _ set. IsSetWithin set) (λ found i x set h f. states_at-again (item_path path i) x set h f) path 0 SET_LIMIT d sets is (All-EachFrom IsSetWithin [] sets fits) (omega arith) hi

abbrev Read : Data → Goal → Type 0
Read d goal = IsGoalFile goal d × IsGoalWithin goal

goal_takes : (path : List ℕ) (d : Data) (goal : Goal) → goal_at path d ≡ Ok goal → Read d goal
unfolding goal_at
goal_takes path d goal e =
    let made = λ (ls : List Layer) (ss : List (List ℕ)) (ns : List Node). (let o : Result Goal Fault = Ok (record { layers = ls; sets = ss; nodes = ns }) in o) in
    let layers = member_by path (codes "layers") layers_at d in
    let sets = sets_at path d in
    let nodes = member_by path (codes "nodes") nodes_at d in
    let a = bind_ok (object_at path d) (λ o. layers >>= λ ls. sets >>= λ ss. nodes >>= λ ns. made ls ss ns) goal e in
    let l = bind_ok layers (λ ls. sets >>= λ ss. nodes >>= λ ns. made ls ss ns) goal a.2 in
    let s = bind_ok sets (λ ss. nodes >>= λ ns. made l.0 ss ns) goal l.2 in
    let n = bind_ok nodes (λ ns. made l.0 s.0 ns) goal s.2 in
    let l' = bind_ok (member_at path (codes "layers") d) (λ v. layers_at (member_path path (codes "layers")) v) l.0 l.1 in
    let n' = bind_ok (member_at path (codes "nodes") d) (λ v. nodes_at (member_path path (codes "nodes")) v) n.0 n.1 in
    let lt = layers_at-takes (member_path path (codes "layers")) l'.0 l.0 l'.2 in
    let st = sets_takes (member_path path (codes "sets")) (get (codes "sets") d) s.0 s.1 in
    let nt = nodes_at-takes (member_path path (codes "nodes")) n'.0 n.0 n'.2 in
    let whole : Goal = record { layers = l.0; sets = s.0; nodes = n.0 } in
    let file : IsGoalFile whole d = record {
      layers = (l'.0, Readers.member_at-takes path (codes "layers") d l'.0 l'.1, lt.0);
      sets = st.0;
      nodes = (n'.0, Readers.member_at-takes path (codes "nodes") d n'.0 n'.1, nt.0);
    } in
    let fits : IsGoalWithin whole = record { layer_count = lt.1; layers = lt.2; set_count = st.1; sets = st.2; nodes = nt.1 } in
    subst (Read d) {x = whole} (same_ok whole goal n.2) (file, fits)

goal_again : (path : List ℕ) (d : Data) (goal : Goal) → IsGoalFile goal d → IsGoalWithin goal → goal_at path d ≡ Ok goal
unfolding goal_at
goal_again path d goal file fits =
    rw (
      Readers.object_at-again path (codes "layers") d file.layers.0 file.layers.1,
      file.layers.1,
      layers_at-again (member_path path (codes "layers")) file.layers.0 goal.layers file.layers.2 fits.layer_count fits.layers,
      sets_again (member_path path (codes "sets")) (get (codes "sets") d) goal.sets file.sets fits.set_count fits.sets,
      file.nodes.1,
      nodes_at-again (member_path path (codes "nodes")) file.nodes.0 goal.nodes file.nodes.2 fits.nodes,
    ) refl

-- the goal for true and the one for false
pub both_takes : (path : List ℕ) (d : Data) (goals : Goal × Goal) → both_goals_at path d ≡ Ok goals → HasItems (AreBoth (IsGoalFile goals.0) (IsGoalFile goals.1)) d × IsGoalWithin goals.0 × IsGoalWithin goals.1
unfolding both_goals_at
both_takes path d goals e =
    let made = λ (t f : Goal). (let o : Result (Goal × Goal) Fault = Ok (t, f) in o) in
    let p = bind_ok (pair_at path d) (λ both. goal_at (item_path path 0) both.0 >>= λ t. goal_at (item_path path 1) both.1 >>= λ f. made t f) goals e in
    let t = bind_ok (goal_at (item_path path 0) p.0.0) (λ t. goal_at (item_path path 1) p.0.1 >>= λ f. made t f) goals p.2 in
    let f = bind_ok (goal_at (item_path path 1) p.0.1) (λ f. made t.0 f) goals t.2 in
    let t' = goal_takes (item_path path 0) p.0.0 t.0 t.1 in
    let f' = goal_takes (item_path path 1) p.0.1 f.0 f.1 in
    let both : Goal × Goal = (t.0, f.0) in
    subst (λ (g : Goal × Goal). HasItems (AreBoth (IsGoalFile g.0) (IsGoalFile g.1)) d × IsGoalWithin g.0 × IsGoalWithin g.1) {x = both} (same_ok both goals f.2)
    (Tagged.pair_at-takes (IsGoalFile t.0) (IsGoalFile f.0) path d p.0 p.1 t'.0 f'.0, t'.1, f'.1)

pub both_again : (path : List ℕ) (d : Data) (t f : Goal) → HasItems (AreBoth (IsGoalFile t) (IsGoalFile f)) d → IsGoalWithin t → IsGoalWithin f → both_goals_at path d ≡ Ok (t, f)
unfolding both_goals_at
both_again path d t f is fits_t fits_f =
    let q = Tagged.pair_at-again (IsGoalFile t) (IsGoalFile f) path d is in
    rw (q.1, goal_again (item_path path 0) q.0.0 t q.2 fits_t, goal_again (item_path path 1) q.0.1 f q.3 fits_f) refl
