-- What the tests close is refuted.
use Rattle.std.proofs.Common.{◌≡◌, ℕ, true, false, Bool, List, ◌&&◌, not, refl, sym, ◌∙◌}
use Rattle.std.specs.Prelude.{Result, Ok, Err, IfOk, IsTrue}
use Rattle.pop_io.specs.declared.fault.NoMemory.{NoMemory}
use Rattle.cert_base.specs.declared.fact.Term.{Term}
use Rattle.cert_base.specs.declared.fact.Fact.{Fact}
use Rattle.cert_base.specs.ClosingTests.{closes_by_sum, closes_by_residue, all_named, may_add_modulo, each_coefficient, denies, sum_of}
use Rattle.pres_ast.specs.PredicateValue.{is_multiple}
use Rattle.std.specs.List.{list_any}
use Rattle.std.proofs.lemmas.Bool.{false≢true}
use Rattle.cert_linear.specs.declared.sum.Sum.{Sum}
use Rattle.cert_linear.specs.Sums.{IsSum}
use Rattle.cert_base.specs.declared.fact.Row.{Row}
use Rattle.cert_base.specs.Ends.{AreRefuted}
use Rattle.cert_linear.proofs.Linear.{linear_closes-none}
use Rattle.cert_linear.proofs.Multiples.{residue_closes-none}
use Rattle.cert_linear.specs.Conditions.{TellsRefuted}

pub linear-refuted : (facts : List Fact) (terms : List Term) (r : Result Bool NoMemory) → IfOk r (λ closes. closes ≡ closes_by_sum facts terms) → IfOk r (λ closes. IsTrue closes → AreRefuted facts)
linear-refuted facts terms (Err e) is = tt
linear-refuted facts terms (Ok true) is = λ yes count meets. linear_closes-none count facts terms (sym is) meets
linear-refuted facts terms (Ok false) is = λ no. absurd (false≢true no)

pub residue-refuted : (facts : List Fact) (m : ℕ) (terms : List Term) (r : Result Bool NoMemory) → IfOk r (λ closes. closes ≡ closes_by_residue facts m terms) → IfOk r (λ closes. IsTrue closes → AreRefuted facts)
residue-refuted facts m terms (Err e) is = tt
residue-refuted facts m terms (Ok true) is = λ yes count meets. residue_closes-none count facts m terms (sym is) meets
residue-refuted facts m terms (Ok false) is = λ no. absurd (false≢true no)

-- if the constant alone doesn't refute, the facts must deny the sum
pub residue_by_facts : (facts : List Fact) (m : ℕ) (terms : List Term) (sum : Sum) (r : Result Bool NoMemory) → all_named (may_add_modulo m) facts terms ≡ true → IsSum (sum_of facts terms) sum → (each_coefficient (is_multiple m) (sum_of facts terms) && not (is_multiple m (sum_of facts terms).constant)) ≡ false → IfOk r (λ denied. (row : Row) → IsSum row sum → denied ≡ list_any (denies m row) facts) → IfOk r (λ closes. closes ≡ closes_by_residue facts m terms)
residue_by_facts facts m terms sum (Err e) named is fails d = tt
residue_by_facts facts m terms sum (Ok closes) named is fails d = d (sum_of facts terms) is ∙ rw (named, fails) refl

pub told : (facts : List Fact) (test : Bool) (r : Result Bool NoMemory) → IfOk r (λ closes. closes ≡ test) → IfOk r (λ closes. IsTrue closes → AreRefuted facts) → IfOk r (TellsRefuted facts test)
told facts test (Err e) is refutes = tt
told facts test (Ok closes) is refutes = record { closes = is; refutes = refutes }
