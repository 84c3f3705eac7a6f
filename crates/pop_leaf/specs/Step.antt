-- Step: two different agents meet, and all other agents keep their tuples.
use Rattle.std.specs.Prelude.{◌≡◌, ◌≢◌, ◌⊎◌, ℕ, false, List, Some, slice_get, slice_set}
use Rattle.pop_leaf.specs.declared.leaf.Move.{Move}
use Rattle.pop_leaf.specs.LeafModel.{LeafModel, silent_move}
use Rattle.pop_leaf.specs.NetModel.{NetModel, Tuple, CrowdModel, IsTuple, state_of}

-- the agent in x takes the move p,q -> r,s as its first and gets x', and the agent in y as its second and gets y'
abbrev pub Follows : Move → ℕ → ℕ → ℕ → ℕ → Type 0
Follows t x y x' y' = (x ≡ t.p) × (y ≡ t.q) × (x' ≡ t.r) × (y' ≡ t.s)

-- a non-silent move of the leaf takes the states x and y to x' and y', whichever agent is its first
pub record LeafMove (leaf : LeafModel) (x y x' y' : ℕ) : Type 0 where
  pub number : ℕ
  pub taken : Move
  pub listed : slice_get leaf.moves number ≡ Some taken
  pub non_silent : silent_move taken ≡ false
  pub followed : Follows taken x y x' y' ⊎ Follows taken y x y' x'

-- both states stay, or a non-silent move changes them
abbrev pub LeafChange : LeafModel → ℕ → ℕ → ℕ → ℕ → Type 0
LeafChange leaf x y x' y' = ((x' ≡ x) × (y' ≡ y)) ⊎ LeafMove leaf x y x' y'

-- each leaf by itself changes the tuples x and y to x' and y'
pub record TupleChange (net : NetModel) (x y x' y' : Tuple) : Type 0 where
  pub first : IsTuple net x'
  pub second : IsTuple net y'
  pub each : (i : ℕ) (leaf : LeafModel) → slice_get net.leaves i ≡ Some leaf
      → LeafChange leaf (state_of x i) (state_of y i) (state_of x' i) (state_of y' i)

-- the agents a and b change as Change allows, and the others stay
pub record Meets {A : Type 0} (Change : A → A → A → A → Type 0) (before after : List A) : Type 0 where
  pub a : ℕ
  pub b : ℕ
  pub different : a ≢ b
  pub x : A
  pub y : A
  pub x' : A
  pub y' : A
  pub a_had : slice_get before a ≡ Some x
  pub b_had : slice_get before b ≡ Some y
  pub change : Change x y x' y'
  pub others_stay : after ≡ slice_set (slice_set before a x') b y'

-- a step of a net's crowd
abbrev pub Step : NetModel → CrowdModel → CrowdModel → Type 0
Step net = Meets (TupleChange net)

-- a step of a crowd of one leaf, as a list of states
abbrev pub LeafStep : LeafModel → List ℕ → List ℕ → Type 0
LeafStep leaf = Meets (LeafChange leaf)
