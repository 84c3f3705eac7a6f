use Rattle.agent_field.proofs.BesideThird.{draw_laws}
use Rattle.agent_field.proofs.moments.draws_beside_a_third.Goals as goal

pub returns : goal.returns
returns c = draw_laws
