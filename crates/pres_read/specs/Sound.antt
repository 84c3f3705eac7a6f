-- What is known after a prefix of the tokens is within the limits of a predicate, and weighs what was charged for the
-- signs.
use Rattle.std.specs.Prelude.{◌≡◌, ◌≤◌, ◌+◌, ◌-◌, ℕ, Bool, true, false, List, [], ◌∷◌, Option, Some, None, ℤ, nat_abs}
use Rattle.pres_ast.specs.declared.limits.TheConstants.{BOUND_LIMIT}
use Rattle.pres_ast.specs.PredTree.{PredTree}
use Rattle.pres_ast.specs.PredModel.{AreCoefs, HasAtoms, weight_of}
use Rattle.pres_read.specs.Progress.{Span, Next, AUnit, ATerm, AStar, AName, ARelation}
use Rattle.pres_read.specs.Progress.{AConstant, ANumber, AModulo, AModulus, ASign, Progress}
use Rattle.pres_read.specs.Depth.{charge_of_relation}

-- a part that waits for its right side, with its sign
abbrev pub option_weight : Option PredTree → ℕ
option_weight None = 0
option_weight (Some p) = weight_of p + 1

abbrev pub span_weight : Span → ℕ
span_weight s = option_weight s.ors + option_weight s.ands + s.nots

abbrev pub spans_weight : List Span → ℕ
spans_weight [] = 0
spans_weight (s ∷ spans) = span_weight s + spans_weight spans

abbrev pub equality_weight : Bool → ℕ
equality_weight false = 1
equality_weight true = 2

abbrev pub next_weight : Next → ℕ
next_weight AUnit = 0
next_weight (ATerm coefs negative) = 0
next_weight (AStar coefs factor) = 0
next_weight (AName coefs factor) = 0
next_weight (ARelation coefs) = 0
next_weight (AConstant coefs r) = charge_of_relation r
next_weight (ANumber coefs r) = charge_of_relation r
next_weight (AModulo coefs unequal c) = equality_weight unequal
next_weight (AModulus coefs unequal c) = equality_weight unequal
next_weight (ASign p) = weight_of p

abbrev pub HasOption : ℕ → Option PredTree → Type 0
HasOption n None = Unit {0}
HasOption n (Some p) = HasAtoms n p

abbrev pub HasSpan : ℕ → Span → Type 0
HasSpan n s = HasOption n s.ors × HasOption n s.ands

abbrev pub HasSpans : ℕ → List Span → Type 0
HasSpans n [] = Unit {0}
HasSpans n (s ∷ spans) = HasSpan n s × HasSpans n spans

abbrev pub IsConstant : ℤ → Type 0
IsConstant c = nat_abs c ≤ BOUND_LIMIT - 1

abbrev pub HasNext : ℕ → Next → Type 0
HasNext n AUnit = Unit {0}
HasNext n (ATerm coefs negative) = AreCoefs n coefs
HasNext n (AStar coefs factor) = AreCoefs n coefs
HasNext n (AName coefs factor) = AreCoefs n coefs
HasNext n (ARelation coefs) = AreCoefs n coefs
HasNext n (AConstant coefs r) = AreCoefs n coefs
HasNext n (ANumber coefs r) = AreCoefs n coefs
HasNext n (AModulo coefs unequal c) = AreCoefs n coefs × IsConstant c
HasNext n (AModulus coefs unequal c) = AreCoefs n coefs × IsConstant c
HasNext n (ASign p) = HasAtoms n p

-- after a unit no `!` and no `&&` is left over
abbrev pub LeavesNoOperator : Span → Next → Type 0
LeavesNoOperator span AUnit = Unit {0}
LeavesNoOperator span (ATerm coefs negative) = Unit {0}
LeavesNoOperator span (AStar coefs factor) = Unit {0}
LeavesNoOperator span (AName coefs factor) = Unit {0}
LeavesNoOperator span (ARelation coefs) = Unit {0}
LeavesNoOperator span (AConstant coefs r) = Unit {0}
LeavesNoOperator span (ANumber coefs r) = Unit {0}
LeavesNoOperator span (AModulo coefs unequal c) = Unit {0}
LeavesNoOperator span (AModulus coefs unequal c) = Unit {0}
LeavesNoOperator span (ASign p) = (span.ands ≡ None) × (span.nots ≡ 0)

pub record IsSoundProgress (n : ℕ) (p : Progress) (charge : ℕ) : Type 0 where
  pub above : HasSpans n p.around.above
  pub span : HasSpan n p.around.span
  pub next : HasNext n p.next
  pub settled : LeavesNoOperator p.around.span p.next
  pub weight : spans_weight p.around.above + span_weight p.around.span + next_weight p.next ≡ charge
