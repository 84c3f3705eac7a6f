-- What the reader's types stand for.
use Rattle.std.specs.Prelude.{List, ℤ, Vec, map, reverse, option_map}
use Rattle.std.specs.Global.{Global}
use Rattle.pres_ast.specs.TreeOf.{tree_of}
use Rattle.pres_read.specs.declared.place.Level.{Level}
use Rattle.pres_read.specs.declared.place.Around.{Around}
use Rattle.pres_read.specs.declared.place.Factor.{Factor}
use Rattle.pres_read.specs.declared.place.Expect.{Expect}
use Rattle.pres_read.specs.declared.place.Expect.TheVariants as expect
use Rattle.pres_read.specs.declared.place.Next.{Next}
use Rattle.pres_read.specs.declared.place.Next.TheVariants as next
use Rattle.pres_read.specs.declared.place.Parser.{Parser}
use Rattle.pres_read.specs.declared.depth.Depth.{Depth}
use Rattle.pres_read.specs.Atoms as atoms
use Rattle.pres_read.specs.Progress as progress
use Rattle.pres_read.specs.Depth as depth

abbrev pub span_of_level : Level → progress.Span
span_of_level l = record { ors = option_map tree_of l.ors; ands = option_map tree_of l.ands; nots = l.nots }

-- the innermost first
abbrev pub spans_of : Vec Level Global → List progress.Span
spans_of levels = reverse (map span_of_level levels.items)

abbrev pub around_of : Around → progress.Around
around_of a = record { above = spans_of a.above; span = span_of_level a.level }

abbrev pub factor_of : Factor → atoms.Factor
factor_of f = record { negative = f.negative; digits = f.digits.now; place = f.place }

abbrev pub next_in_atom : List ℤ → Next → progress.Next
next_in_atom coefs (next.Term negative) = progress.ATerm coefs negative
next_in_atom coefs (next.Star factor) = progress.AStar coefs (factor_of factor)
next_in_atom coefs (next.Name factor) = progress.AName coefs (factor_of factor)
next_in_atom coefs next.Relation = progress.ARelation coefs
next_in_atom coefs (next.Constant relation) = progress.AConstant coefs relation
next_in_atom coefs (next.Number relation) = progress.ANumber coefs relation
next_in_atom coefs (next.Modulo unequal constant) = progress.AModulo coefs unequal constant
next_in_atom coefs (next.Modulus unequal constant) = progress.AModulus coefs unequal constant

abbrev pub next_expected : Expect → progress.Next
next_expected expect.Unit = progress.AUnit
next_expected (expect.Atom coefs awaited) = next_in_atom coefs.items awaited
next_expected (expect.Sign tree) = progress.ASign (tree_of tree)

abbrev pub progress_of : Parser → progress.Progress
progress_of p = record { around = around_of p.around; next = next_expected p.expect }

abbrev pub depth_of : Depth → depth.Depth
depth_of d = record { charge = d.charge; parentheses = d.parentheses }
