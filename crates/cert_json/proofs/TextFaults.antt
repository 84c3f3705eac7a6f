-- A text that is no predicate, and what reading it gives.
use Rattle.std.proofs.Common.{◌≡◌, ℕ, List, Result, Err, ap}
use Rattle.base_json.specs.declared.fault.Why.TheVariants.{Pred}
use Rattle.base_json.specs.declared.fault.FormatFault.{FormatFault}
use Rattle.base_json.specs.Faults.{Says, FailsRead}
use Rattle.base_json.proofs.FaultLemmas.{Fails-said}
use Rattle.pres_ast.specs.PredModel.{PredModel}
use Rattle.pres_read.specs.declared.fault.ReadPred.{ReadPred}
use Rattle.cert_json.specs.Examined.{why_of, pred_or_why}

pub text_fails : (e : FormatFault) (fault : ReadPred) (path : List ℕ) (read : Result PredModel ReadPred) → read ≡ Err fault
    → Says e path (Pred (why_of fault)) → FailsRead e (pred_or_why path read)
text_fails e fault path read is says = Fails-said e path (Pred (why_of fault)) (pred_or_why path read) says (ap (pred_or_why path) is)
