-- A walk over the nodes of a tree: the rooms, and the first node that is refused.
use Rattle.std.specs.Prelude.{◌≡◌, ℕ, ◌+◌, true, false, Bool, if◌then◌else◌, List, [], ◌∷◌, ◌++◌, All}
use Rattle.std.specs.Prelude.{Some, None, reverse, Result, OnOk}
use Rattle.pop_leaf.specs.LeafModel.{LeafModel}
use Rattle.cert_base.specs.declared.fact.Fact.{Fact}
use Rattle.cert_base.specs.declared.node.Node.{Node}
use Rattle.cert_base.specs.Closes.{ClosesFor}
use Rattle.cert_linear.specs.Conditions.{IsOrdered}
use Rattle.cert_tree.specs.declared.fault.TreeWhy.{TreeWhy}
use Rattle.cert_tree.specs.declared.fault.TreeWhy.TheVariants.{TooManyFacts}
use Rattle.cert_tree.specs.declared.fault.TreeFault.{TreeFault}
use Rattle.cert_tree.specs.declared.room.Room.{Room}
use Rattle.cert_tree.specs.declared.walk.Walk.{Walk}
use Rattle.pop_io.specs.declared.failure.Failure.{Failure}
use Rattle.pop_io.specs.Failures.{IfFault, OnlyMemory}
use Rattle.cert_tree.specs.Refusals.{Waiting, waits, cases_under, all_fit, facts_before, entries}
use Rattle.cert_tree.specs.Refusals.{IsFaultFor}
use Rattle.cert_tree.specs.Rooms.{waiting_in, depth_in, IsSoundIn}
use Rattle.cert_tree.specs.Halts.{HaltsBy}

-- all cases that wait in these rooms
abbrev pub waiting_rooms : List Room → List Waiting
waiting_rooms [] = []
waiting_rooms (room ∷ rooms) = waiting_in room ++ waiting_rooms rooms

-- those of the rooms outside; the latest comes first
abbrev pub waiting_outside : Walk → List Waiting
waiting_outside walk = waiting_rooms (reverse walk.outside.items)

abbrev pub waiting : Walk → List Waiting
waiting walk = waiting_in walk.room ++ waiting_outside walk

abbrev pub AreSound : List Room → Type 0
AreSound [] = Unit {0}
AreSound (room ∷ rooms) = IsSoundIn room × AreSound rooms

pub record IsSound (walk : Walk) : Type 0 where
  pub inside : IsSoundIn walk.room
  pub outside : AreSound (reverse walk.outside.items)

-- the walk stands at a case that was the first of those waiting
pub record StandsAt (before : List Waiting) (walk : Walk) : Type 0 where
  pub above : ℕ
  pub depth : depth_in walk.room ≡ above + 1
  pub first : before ≡ waits above walk.room.is_still walk.room.stack.trail ∷ waiting walk
  pub ordered : All IsOrdered walk.room.stack.trail
  pub sound : IsSound walk

-- whether a case was waiting, and if so, the walk stands at it
abbrev pub FindsPlace : List Waiting → Walk → Bool → Type 0
FindsPlace before walk false = before ≡ []
FindsPlace before walk true = StandsAt before walk

-- the cases of a node that speak of a crowd before the end wait, in front of what did
pub record HasEntered (leaf : LeafModel) (old : Walk) (node : Node) (new : Walk) : Type 0 where
  pub room : all_fit (facts_before leaf old.room.stack.trail node) (entries leaf node) ≡ true
  pub waits : (above : ℕ) → depth_in old.room ≡ above + 1
      → waiting new
      ≡ cases_under above true (facts_before leaf old.room.stack.trail node) (entries leaf node) ++ waiting old

-- one of those cases has too many facts
abbrev pub IsRefusedBefore : LeafModel → Walk → Node → Failure TreeWhy → Type 0
IsRefusedBefore leaf walk node halt =
    HaltsBy (if all_fit (facts_before leaf walk.room.stack.trail node) (entries leaf node) then None
    else Some TooManyFacts) halt

-- what the walk over a tree says of its nodes, where these facts wait at the beginning
pub record WalksNodes (leaf dead : LeafModel) (facts : List Fact) (nodes : List Node)
    (result : Result (Unit {0}) (Failure TreeFault)) : Type 0 where
  pub closes : OnOk result (ClosesFor leaf dead facts nodes [])
  pub fault : IfFault result (IsFaultFor leaf dead facts nodes)
  pub accepts : ClosesFor leaf dead facts nodes [] → OnlyMemory result
