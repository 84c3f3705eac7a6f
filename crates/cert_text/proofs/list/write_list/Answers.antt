use Rattle.std.proofs.Common.{refl, arith}
use Rattle.std.specs.Prelude.{nat_lt}
use Rattle.cert_text.proofs.Items.{one_more}
use Rattle.cert_text.proofs.list.write_list.Goals as goal

pub items-preserved : goal.items-preserved
items-preserved g c = record {
  written = one_more (g.L.WriteItems.items c.args.list.now) c.items.i (nat_lt 0 c.items.i) _ c.items.out.items c.push_comma.new.out.items c.write.new.out.items
      (omega (arith, c.items-test.true, c.count-i-end.ensures)) refl c.items.invariant.written c.in_ok-push_comma.ensures c.in_ok-write.ensures;
}
