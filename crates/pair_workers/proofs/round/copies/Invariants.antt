use Rattle.std.proofs.Common.{◌≡◌, take}
use Rattle.pair_workers.proofs.round.copies.Given as goal

abbrev pub invariant-pickers : goal.invariant-pickers
invariant-pickers l = record {
  items : l.copies.items ≡ take l.picker-index l.pickers;
}
