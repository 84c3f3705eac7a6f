-- What a vars line gives, and a predicate and a crowd line over its names.
use Rattle.std.specs.Prelude.{ℕ, List, Option, Some, None, Result, Ok, Err}
use Rattle.pres_ast.specs.PredModel.{PredModel}
use Rattle.pres_read.specs.declared.fault.ReadPred.{ReadPred}
use Rattle.cert_json.specs.Examined.{why_of}
use Rattle.tool_texts.specs.declared.refusal.Refusal.{Refusal}
use Rattle.tool_texts.specs.declared.refusal.Refusal.TheVariants.{Line, Pred, Count}
use Rattle.tool_texts.specs.declared.refusal.LineWhy.TheVariants.{Form}

-- the names of the vars line, which is line 1
abbrev pub named : Option (List (List ℕ)) → Result (List (List ℕ)) Refusal
named None = Err (Line 1 Form)
named (Some names) = Ok names

abbrev pub understood : Result PredModel ReadPred → Result PredModel Refusal
understood (Ok pred) = Ok pred
understood (Err fault) = Err (Pred (why_of fault))

abbrev pub counted : Result (List ℕ) ℕ → Result (List ℕ) Refusal
counted (Ok counts) = Ok counts
counted (Err word) = Err (Count word)
