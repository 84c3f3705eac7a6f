use Rattle.std.proofs.Common.{refl}
use Rattle.pop_tool.proofs.Complete.{still}
use Rattle.pop_tool.proofs.calm.run_calm.Goals as goal

pub returns-clause-calm : goal.returns-clause-calm
returns-clause-calm g c = ((λ e. still (c.run_plain.ensures.read e)), (λ e. still (c.run_plain.ensures.write e)))

pub returns-clause-complete : goal.returns-clause-complete
returns-clause-complete g c = λ valid. c.run_plain.ensures.carried_out c.args.source.now refl valid still still
