use Rattle.std.proofs.Common.{arith, ◌+◌, ◌≤◌, length, length-append, length-drop, length-take, drop}
use Rattle.std.proofs.Math.ListN.{drop_of_length-le}
use Rattle.pop_io.proofs.Buffers.{gave}
use Rattle.pop_io.proofs.memory_source.CalmSourceSource.take.Goals as goal

pub returns-clause-bytes : goal.returns-clause-bytes
returns-clause-bytes c =
    let k = c.min-count.result in
    let xs = c.self.inside.bytes in
    let least = rw c.as_slice-bytes.ensures at c.min-count.ensures in
    let within : c.self.inside.at + k ≤ length xs = omega (arith, least) in
    let copied = rw c.as_slice-bytes.ensures at c.copy_from_slice.ensures.after in
    rw (← c.self.view_is) (
      gave xs c.args.out.now c.copy_from_slice.new.self c.self.inside.at k within copied,
      λ none some. drop_of_length-le xs (omega (arith, least, length-append c.copy_from_slice.new.self (drop k c.args.out.now), length-drop k c.args.out.now, c.copy_from_slice.ensures.len, length-take k c.args.out.now)),
    )
