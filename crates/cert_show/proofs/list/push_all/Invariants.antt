use Rattle.std.proofs.Common.{◌≡◌, ◌++◌}
use Rattle.cert_show.specs.Lines.{each}
use Rattle.cert_show.proofs.list.push_all.Given as goal

abbrev pub invariant-texts : goal.invariant-texts
invariant-texts g l = record {
  written : l.out.items ≡ l.fn.out.items ++ each l.i (g.T.Texts.text l.all);
}
