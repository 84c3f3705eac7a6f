use Rattle.cert_show.proofs.Pieces.{one_more}
use Rattle.cert_show.proofs.list.push_all.Goals as goal

pub texts-preserved : goal.texts-preserved
texts-preserved g c = record {
  written = one_more (g.T.Texts.text c.args.all.now) c.texts.i _ c.texts.out.items c.push.new.out.items c.texts.invariant.written c.in_ok-push.ensures;
}
