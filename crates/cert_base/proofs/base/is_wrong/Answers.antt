use Rattle.std.proofs.Common.{◌≡◌, Bool, true, false, refl}
use Rattle.std.specs.Prelude.{pos}
use Rattle.std.proofs.lemmas.Option.{get_or_from_slice_get}
use Rattle.std.proofs.Math.Bool.{beq}
use Rattle.cert_base.specs.FactsAndCases.{indicator, differs}
use Rattle.cert_base.proofs.base.is_wrong.Goals as goal

right : (value out : Bool) → beq out value ≡ true → pos 0 ≡ indicator (differs value out)
right true true e = refl
right false false e = refl
right true false e = let f : false ≡ true = e in cc
right false true e = let f : false ≡ true = e in cc

wrong : (value out : Bool) → beq out value ≡ false → pos 1 ≡ indicator (differs value out)
wrong true false e = refl
wrong false true e = refl
wrong true true e = let f : true ≡ false = e in cc
wrong false false e = let f : true ≡ false = e in cc

pub returns-then-output-value : goal.returns-then-output-value
returns-then-output-value c =
    rw (get_or_from_slice_get c.args.leaf.now.outputs c.args.q c.output.result false c.output.ensures) (right c.args.value c.output.result c.if-output-value.true)

pub returns-else-output-value : goal.returns-else-output-value
returns-else-output-value c =
    rw (get_or_from_slice_get c.args.leaf.now.outputs c.args.q c.output.result false c.output.ensures) (wrong c.args.value c.output.result c.if-output-value.false)
