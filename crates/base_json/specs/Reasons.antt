-- How a reason is printed.
use Rattle.std.specs.Prelude.{ℕ, List, ◌++◌, codes, decimal}
use Rattle.base_json.specs.declared.fault.Why.{Why}
use Rattle.base_json.specs.declared.fault.Why.TheVariants.{Kind, Range, Name, Shape, Pred}
use Rattle.base_json.specs.declared.fault.PredWhy.{PredWhy}
use Rattle.base_json.specs.declared.fault.PredWhy.TheVariants.{Syntax, UnknownName, TooLarge, TooDeep, LongText}

abbrev pub pred_reason : PredWhy → List ℕ
pred_reason (Syntax at) = codes "syntax " ++ decimal at
pred_reason (UnknownName at) = codes "unknown " ++ decimal at
pred_reason (TooLarge at) = codes "large " ++ decimal at
pred_reason (TooDeep at) = codes "deep " ++ decimal at
pred_reason (LongText length) = codes "long " ++ decimal length

abbrev pub reason : Why → List ℕ
reason Kind = codes "kind"
reason Range = codes "range"
reason Name = codes "name"
reason Shape = codes "shape"
reason (Pred why) = codes "pred " ++ pred_reason why
