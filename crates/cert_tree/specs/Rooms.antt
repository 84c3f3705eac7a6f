-- A room: cases that speak of the same crowd.
use Rattle.std.specs.Prelude.{◌≡◌, ℕ, ◌+◌, ◌≤◌, true, Bool, List, ◌++◌, map, length, All, None}
use Rattle.pop_leaf.specs.LeafModel.{LeafModel}
use Rattle.cert_base.specs.declared.limits.TheConstants.{PATH_LIMIT}
use Rattle.cert_base.specs.declared.fact.Fact.{Fact}
use Rattle.cert_base.specs.declared.node.Node.{Node}
use Rattle.cert_tree.specs.declared.fault.TreeWhy.{TreeWhy}
use Rattle.cert_tree.specs.declared.room.Room.{Room}
use Rattle.pop_io.specs.declared.failure.Failure.{Failure}
use Rattle.cert_tree.specs.Frames.{Stacked, stacked, IsNested, IsFit}
use Rattle.cert_tree.specs.Refusals.{Waiting, waits, dead_at, cases_at, all_fit, own_refusal, refusal}
use Rattle.cert_tree.specs.Halts.{HaltsBy}

-- a case of a stack that stands under so many nodes more
abbrev pub placed : ℕ → Bool → Stacked → Waiting
placed above is_still at = waits (above + at.0) is_still at.1

abbrev pub waiting_in : Room → List Waiting
waiting_in room = map (placed room.above room.is_still) (stacked room.stack)

-- how many nodes are above the next one, and one more
abbrev pub depth_in : Room → ℕ
depth_in room = room.above + length room.stack.frames.items

-- what is dead at the crowd of which a room's cases speak
abbrev pub dead_in : (leaf dead : LeafModel) → Room → LeafModel
dead_in leaf dead room = dead_at leaf dead room.is_still

pub record IsSoundIn (room : Room) : Type 0 where
  pub low : room.above ≤ PATH_LIMIT
  pub nested : IsNested room.stack
  pub fit : All IsFit (stacked room.stack)

-- the cases wait in the room, each with these facts before its own, under so many nodes
pub record Opens (above : ℕ) (is_still : Bool) (facts : List Fact) (cases : List (List Fact)) (room : Room)
    : Type 0 where
  pub above_is : room.above ≡ above
  pub still_is : room.is_still ≡ is_still
  pub waits : stacked room.stack ≡ map (λ own. (0, facts ++ own)) cases
  pub nested : IsNested room.stack

-- the node is passed at all facts of the room, and its cases of the end wait there
pub record HasPassed (leaf dead : LeafModel) (old : Room) (node : Node) (new : Room) : Type 0 where
  pub low : depth_in old ≤ PATH_LIMIT
  pub unrefused : own_refusal leaf (dead_in leaf dead old) old.stack.trail node ≡ None
  pub room : all_fit old.stack.trail (cases_at leaf (dead_in leaf dead old) old.stack.trail node) ≡ true
  pub above : new.above ≡ old.above
  pub is_still : new.is_still ≡ old.is_still
  pub trail : new.stack.trail ≡ old.stack.trail
  pub depth : depth_in new ≡ depth_in old + 1
  pub waits : stacked new.stack
      ≡ map (λ own. (length old.stack.frames.items, old.stack.trail ++ own))
      (cases_at leaf (dead_in leaf dead old) old.stack.trail node)
      ++ stacked old.stack
  pub nested : IsNested old.stack → IsNested new.stack

-- the node is refused at all facts of the room
abbrev pub IsRefusedIn : (leaf dead : LeafModel) → Room → Node → Failure TreeWhy → Type 0
IsRefusedIn leaf dead room node halt =
    (above : ℕ) → depth_in room ≡ above + 1
    → HaltsBy (refusal leaf (dead_in leaf dead room) above room.stack.trail node) halt
