use Rattle.std.proofs.Common.{◌≡◌, take, map, neg_ℤ}
use Rattle.pres_ast.proofs.coefs.turned.Given as goal

abbrev pub invariant-loop-coef : goal.invariant-loop-coef
invariant-loop-coef l = l.turned.items ≡ map neg_ℤ (take l.coef-index l.coefs)
