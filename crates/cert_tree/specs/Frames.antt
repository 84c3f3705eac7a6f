-- The stack of the nodes whose cases are being closed.
use Rattle.std.specs.Prelude.{◌≡◌, ℕ, ◌+◌, ◌≤◌, ◌<◌, true, false, Bool, List, [], ◌∷◌, ◌++◌, map, length, take, All}
use Rattle.std.specs.Prelude.{reverse}
use Rattle.cert_base.specs.declared.limits.TheConstants.{FACT_LIMIT}
use Rattle.cert_base.specs.declared.fact.Fact.{Fact}
use Rattle.cert_linear.specs.Conditions.{IsOrdered}
use Rattle.cert_tree.specs.declared.stack.Frame.{Frame}
use Rattle.cert_tree.specs.declared.stack.Stack.{Stack}

-- a case on a stack: how many nodes of the stack are above its own node, and its facts
abbrev pub Stacked : Type 0
Stacked = ℕ × List Fact

-- the cases that wait at a node
abbrev pub waits_at : List Fact → ℕ → Frame → List Stacked
waits_at trail above frame = map (λ own. (above, take frame.len trail ++ own)) frame.cases.items

-- all cases that wait; the frame of the latest node comes first
abbrev pub waiting_under : List Fact → List Frame → List Stacked
waiting_under trail [] = []
waiting_under trail (frame ∷ below) = waits_at trail (length below) frame ++ waiting_under trail below

-- a node has no more facts than the nodes under it, and none has more than n
abbrev pub AreNested : ℕ → List Frame → Type 0
AreNested n [] = Unit {0}
AreNested n (frame ∷ below) = (frame.len ≤ n) × AreNested frame.len below

abbrev pub stacked : Stack → List Stacked
stacked stack = waiting_under stack.trail (reverse stack.frames.items)

abbrev pub IsNested : Stack → Type 0
IsNested stack = AreNested (length stack.trail) (reverse stack.frames.items)

-- the facts of a case are few enough, and their rows are ordered
pub record IsFit (at : Stacked) : Type 0 where
  pub few : length at.1 ≤ FACT_LIMIT
  pub ordered : All IsOrdered at.1

-- the stack stands at a case that was the first of those waiting
pub record StandsAtFirst (before : List Stacked) (stack : Stack) : Type 0 where
  pub above : ℕ
  pub depth : length stack.frames.items ≡ above + 1
  pub first : before ≡ (above, stack.trail) ∷ stacked stack
  pub nested : IsNested stack

-- what waits with this frame on top of the stack's
abbrev pub stacked_with : Stack → Frame → List Stacked
stacked_with stack frame = waits_at stack.trail (length (reverse stack.frames.items)) frame ++ stacked stack

-- the frame is that of the latest node with a case that waits; it is taken from the stack
pub record IsLatest (before : List Stacked) (stack : Stack) (frame : Frame) : Type 0 where
  pub some_case : 0 < length frame.cases.items
  pub waits : before ≡ stacked_with stack frame
  pub within : frame.len ≤ length stack.trail
  pub nested : AreNested frame.len (reverse stack.frames.items)

-- whether a case was waiting, and if so, the stack stands at it
abbrev pub FindsCase : List Stacked → Stack → Bool → Type 0
FindsCase before stack false = before ≡ []
FindsCase before stack true = StandsAtFirst before stack

-- the cases wait at a node on top, after all facts
pub record HasPut (old : Stack) (cases : List (List Fact)) (new : Stack) : Type 0 where
  pub trail : new.trail ≡ old.trail
  pub depth : length new.frames.items ≡ length old.frames.items + 1
  pub waits : stacked new ≡ map (λ own. (length old.frames.items, old.trail ++ own)) cases ++ stacked old
  pub nested : IsNested old → IsNested new
