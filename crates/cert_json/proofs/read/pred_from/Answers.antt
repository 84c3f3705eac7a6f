use Rattle.base_json.specs.Paths.{path_text}
use Rattle.pres_read.specs.Reading.{pred_read}
use Rattle.cert_json.specs.Examined.{pred_at}
use Rattle.cert_json.proofs.TextFaults.{text_fails}
use Rattle.cert_json.proofs.read.pred_from.Goals as goal

pub returns-in-Err-Fault-clause-pred : goal.returns-in-Err-Fault-clause-pred
unfolding pred_at
returns-in-Err-Fault-clause-pred c =
    rw c.in_ok-text.ensures
    (text_fails c.broken.result c.in-Err-Fault.fault (path_text c.args.path.now) (pred_read c.args.names.now c.in_ok-text.text.now) (rw (c.in-Err-Fault.field-0-is, c.as_bytes.ensures.value) at c.in-Err-Fault.ensures.exact) (rw c.pred_why.ensures at c.broken.ensures))
