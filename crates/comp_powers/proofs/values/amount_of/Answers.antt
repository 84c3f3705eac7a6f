use Rattle.std.proofs.Common.{◌≡◌, ◌∙◌, subst, ap, sym, w64, ℕ, List}
use Rattle.std.specs.Prelude.{ℤ, neg_ℤ}
use Rattle.std.proofs.lemmas.Int.{to_z-of_z}
use Rattle.cert_base.specs.ProofLimits.{IsSmall}
use Rattle.comp_powers_leaf.specs.PowersLeaf.{worth, IsRole, HasRange}
use Rattle.comp_powers_leaf.specs.declared.role.Role.{Role}
use Rattle.comp_powers.specs.declared.values.Amount.{Amount}
use Rattle.comp_powers.specs.PowersProof.{amount_of}
use Rattle.comp_powers.proofs.Small.{worth-small, turned_fits, turned_is}
use Rattle.comp_powers.proofs.values.amount_of.Goals as goal

small : (coefs : List ℤ) (k : ℕ) (r : Role) (z : ℤ) → HasRange coefs k → IsRole coefs k r → z ≡ worth coefs k r → IsSmall z
small coefs k r z is there e = subst IsSmall (sym e) (worth-small coefs k is r there)

pub overflow_sub-result : goal.overflow_sub-result
overflow_sub-result c =
    let s = small c.args.coefs.now c.args.k c.args.role c.worth_of-in-Owed.result c.requires.range c.requires.there c.worth_of-in-Owed.ensures in
    rw (turned_is c.worth_of-in-Owed.result s) (turned_fits c.worth_of-in-Owed.result s)

pub returns-in-Owed : goal.returns-in-Owed
returns-in-Owed c =
    let s = small c.args.coefs.now c.args.k c.args.role c.worth_of-in-Owed.result c.requires.range c.requires.there c.worth_of-in-Owed.ensures in
    rw (turned_is c.worth_of-in-Owed.result s) (to_z-of_z w64 (neg_ℤ c.worth_of-in-Owed.result) (turned_fits c.worth_of-in-Owed.result s)
    ∙ ap neg_ℤ c.worth_of-in-Owed.ensures
    ∙ ap (λ (a : Amount). amount_of c.args.coefs.now c.args.k a c.args.role) (sym c.in-Owed.is))
