-- The states that a crowd can reach are below a number: its own and those that moves produce.
use Rattle.std.proofs.Common.{◌≡◌, ◌⊎◌, inl, inr, ℕ, zero, suc, ◌+◌, ◌<◌, ◌≤◌, List, [], ◌∷◌, length, get_or, sym, subst, arith}
use Rattle.std.specs.Prelude.{Some, slice_get, slice_set, All}
use Rattle.std.proofs.lemmas.List.{get_or_default}
use Rattle.std.proofs.lemmas.List.Elements.{All-nil, All-cons, All-head, All-tail, All-set}
use Rattle.std.proofs.lemmas.Option.{slice_get-get_or}
use Rattle.pop_leaf.specs.declared.leaf.Move.{Move}
use Rattle.pop_leaf.specs.LeafModel.{LeafModel}
use Rattle.pop_leaf.specs.NetModel.{NetModel, Tuple, CrowdModel, IsTuple, state_of}
use Rattle.pop_leaf.specs.Step.{Follows, LeafChange, TupleChange, Step}
use Rattle.pop_leaf.specs.Reachable.{Leads, Reachable}
use Rattle.pop_leaf.proofs.Quiet.{All-slice_get, nothing}
use Rattle.theory_fair.proofs.Recurrence.{IsFinite, ListOf, finite_below, finite_lists}

moves_bound : List Move → ℕ
moves_bound [] = 0
moves_bound (t ∷ moves) = suc (t.r + t.s + moves_bound moves)

move_low : (moves : List Move) (n : ℕ) (t : Move) → slice_get moves n ≡ Some t → (t.r < moves_bound moves) × (t.s < moves_bound moves)
unfolding moves_bound
move_low [] n t h = cc
move_low (u ∷ moves) zero t h =
    let same : u ≡ t = cc in
    subst (λ (v : Move). (v.r < moves_bound (u ∷ moves)) × (v.s < moves_bound (u ∷ moves))) same (omega arith, omega arith)
move_low (u ∷ moves) (suc n) t h = let low = move_low moves n t h in (omega (arith, low.0), omega (arith, low.1))

leaves_bound : List LeafModel → ℕ
leaves_bound [] = 0
leaves_bound (leaf ∷ leaves) = moves_bound leaf.moves + leaves_bound leaves

leaf_low : (leaves : List LeafModel) (i : ℕ) (leaf : LeafModel) → slice_get leaves i ≡ Some leaf → moves_bound leaf.moves ≤ leaves_bound leaves
unfolding leaves_bound
leaf_low [] i leaf h = cc
leaf_low (first ∷ leaves) zero leaf h =
    let same : first ≡ leaf = cc in
    subst (λ (l : LeafModel). moves_bound l.moves ≤ leaves_bound (first ∷ leaves)) same (omega arith)
leaf_low (first ∷ leaves) (suc i) leaf h = let low = leaf_low leaves i leaf h in omega (arith, low)

tuple_bound : Tuple → ℕ
tuple_bound [] = 0
tuple_bound (q ∷ tuple) = suc (q + tuple_bound tuple)

tuple_low : (b : ℕ) (tuple : Tuple) → tuple_bound tuple ≤ b → All (λ q. q < b) tuple
unfolding tuple_bound
tuple_low b [] l = All-nil (λ q. q < b)
tuple_low b (q ∷ tuple) l = All-cons (λ q. q < b) q tuple (omega (arith, l)) (tuple_low b tuple (omega (arith, l)))

crowd_bound : CrowdModel → ℕ
crowd_bound [] = 0
crowd_bound (x ∷ crowd) = tuple_bound x + crowd_bound crowd

-- a tuple of the net whose states are below b
abbrev pub IsLow : NetModel → ℕ → Tuple → Type 0
IsLow net b tuple = ListOf (λ q. q < b) (length net.leaves) tuple

crowd_low : (net : NetModel) (b : ℕ) (crowd : CrowdModel) → All (IsTuple net) crowd → crowd_bound crowd ≤ b → All (IsLow net b) crowd
unfolding crowd_bound
crowd_low net b [] tuples l = All-nil (IsLow net b)
crowd_low net b (x ∷ crowd) tuples l =
    All-cons (IsLow net b) x crowd (All-head (IsTuple net) x crowd tuples, tuple_low b x (omega (arith, l)))
    (crowd_low net b crowd (All-tail (IsTuple net) x crowd tuples) (omega (arith, l)))

-- the states of a crowd and of all that it reaches are below this
pub bound_of : NetModel → CrowdModel → ℕ
bound_of net crowd = leaves_bound net.leaves + crowd_bound crowd

module _ (net : NetModel) (b : ℕ) (above : leaves_bound net.leaves ≤ b) where
  change_low : (leaf : LeafModel) (x y x' y' : ℕ) → moves_bound leaf.moves ≤ b → x < b → y < b → LeafChange leaf x y x' y' → (x' < b) × (y' < b)
  change_low leaf x y x' y' l lx ly (inl stay) = (omega (arith, lx, stay.0), omega (arith, ly, stay.1))
  change_low leaf x y x' y' l lx ly (inr m) = go m.followed
    where
      low : (m.taken.r < moves_bound leaf.moves) × (m.taken.s < moves_bound leaf.moves)
      low = move_low leaf.moves m.number m.taken m.listed

      go : Follows m.taken x y x' y' ⊎ Follows m.taken y x y' x' → (x' < b) × (y' < b)
      go (inl f) = (omega (arith, low.0, f.2, l), omega (arith, low.1, f.3, l))
      go (inr f) = (omega (arith, low.1, f.3, l), omega (arith, low.0, f.2, l))

  tuples_low : (x y x' y' : Tuple) → IsLow net b x → IsLow net b y → TupleChange net x y x' y' → IsLow net b x' × IsLow net b y'
  tuples_low x y x' y' hx hy c = (
    (c.first, λ k d l. subst (λ q. q < b) (get_or_default x' k 0 d l) (each k (let m : k < length net.leaves = omega (arith, l, c.first) in m)).0),
    (c.second, λ k d l. subst (λ q. q < b) (get_or_default y' k 0 d l) (each k (let m : k < length net.leaves = omega (arith, l, c.second) in m)).1),
  )
    where
      each : (k : ℕ) → k < length net.leaves → (state_of x' k < b) × (state_of y' k < b)
      each k l =
          let leaf = get_or net.leaves k nothing in
          let h = slice_get-get_or net.leaves k nothing l in
          let moves = leaf_low net.leaves k leaf h in
          change_low leaf (state_of x k) (state_of y k) (state_of x' k) (state_of y' k) (omega (arith, moves, above))
          (hx.1 k 0 (omega (arith, l, hx.0))) (hy.1 k 0 (omega (arith, l, hy.0))) (c.each k leaf h)

  step_low : (before after : CrowdModel) → All (IsLow net b) before → Step net before after → All (IsLow net b) after
  step_low before after low s =
      let c = tuples_low s.x s.y s.x' s.y' (All-slice_get (IsLow net b) before s.a s.x low s.a_had) (All-slice_get (IsLow net b) before s.b s.y low s.b_had) s.change in
      subst (λ (d : CrowdModel). All (IsLow net b) d) (sym s.others_stay)
      (All-set (IsLow net b) (slice_set before s.a s.x') s.b s.y' c.1 (All-set (IsLow net b) before s.a s.x' c.0 low))

  leads_low : (before : CrowdModel) (path : List CrowdModel) (after : CrowdModel) → All (IsLow net b) before → Leads (Step net) before path after → All (IsLow net b) after
  leads_low before [] after low way = subst (λ (d : CrowdModel). All (IsLow net b) d) (sym way) low
  leads_low before (next ∷ path) after low way = leads_low next path after (step_low before next low way.0) way.1

-- what steps lead to has states below the bound
pub reached_low : (net : NetModel) (crowd end : CrowdModel) → All (IsTuple net) crowd → Reachable (Step net) crowd end → All (IsLow net (bound_of net crowd)) end
unfolding bound_of
reached_low net crowd end tuples way =
    leads_low net (bound_of net crowd) (omega arith) crowd way.0 end (crowd_low net (bound_of net crowd) crowd tuples (omega arith)) way.1

-- there are finitely many such crowds of n agents
pub finite_crowds : (net : NetModel) (b n : ℕ) → IsFinite (ListOf (IsLow net b) n)
finite_crowds net b n = finite_lists (IsLow net b) [] (finite_lists (λ q. q < b) 0 (finite_below b) (length net.leaves)) n
