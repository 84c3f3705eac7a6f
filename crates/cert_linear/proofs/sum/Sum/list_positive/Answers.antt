use Rattle.std.proofs.Common.{◌≡◌}
use Rattle.cert_linear.proofs.Entries.{all-positive}
use Rattle.cert_linear.proofs.sum.Sum.list_positive.Goals as goal

pub returns : goal.returns
returns c =
    let same : c.as_slice.result.now ≡ c.args.self.now.touched.items = c.as_slice.ensures.value in
    all-positive c.args.self.now c.list_positive_among.new.positive.items c.requires (rw same at c.in_ok-list_positive_among.ensures)
