use Rattle.cert_layers.proofs.Valid.{accepted, ended}
use Rattle.cert_layers.proofs.check.check_layers.Goals as goal

pub returns : goal.returns
returns c =
    record {
      valid = rw c.as_slice.ensures at c.checked.ensures.valid;
      fault = rw c.as_slice.ensures at c.checked.ensures.fault;
      accepts = accepted c.args.leaf.now c.as_slice.result.now c.args.layers.now c.checked.result c.as_slice.ensures c.checked.ensures.fault;
      ends = ended c.args.leaf.now c.as_slice.result.now c.checked.result c.checked.ensures.formed c.checked.ensures.valid;
    }
