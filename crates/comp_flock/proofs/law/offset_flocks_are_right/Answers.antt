use Rattle.comp_flock.proofs.PowerFound.{offset_found, offset_least, offset_every}
use Rattle.comp_flock.proofs.FlockValid.{offset-right}
use Rattle.comp_flock.proofs.law.offset_flocks_are_right.Goals as goal

pub returns-clause-right : goal.returns-clause-right
returns-clause-right c = λ coefs bound k spare is room. offset-right coefs bound k spare is room

pub returns-clause-least : goal.returns-clause-least
returns-clause-least c = λ coefs bound k sum e. (offset_found coefs bound k sum e, offset_least coefs bound k e)

pub returns-clause-every : goal.returns-clause-every
returns-clause-every c = λ coefs bound are l. offset_every coefs bound are l
