-- What reading a text gives: the tree, or the first token that breaks a rule.
use Rattle.std.specs.Prelude.{ℕ, Bool, true, false, if◌then◌else◌, nat_lt, List, [], ◌∷◌, length, Option, Some, None}
use Rattle.std.specs.Prelude.{Result, Ok, Err, ℤ}
use Rattle.std.proofs.Common.{zero, suc}
use Rattle.pres_ast.specs.declared.limits.TheConstants.{MODULUS_LIMIT}
use Rattle.pres_read.specs.declared.read.TheConstants.{TEXT_LIMIT}
use Rattle.pres_ast.specs.PredTree.{PredTree, Negation, Conjunction, Disjunction}
use Rattle.pres_ast.specs.PredModel.{PredModel}
use Rattle.pres_tokens.specs.declared.token.Relation.{Relation}
use Rattle.pres_tokens.specs.declared.token.Relation.TheVariants.{Less, AtMost, Greater, AtLeast, Equal, Unequal}
use Rattle.pres_tokens.specs.Symbols.{Symbol, Name, Number, Plus, Minus, Star}
use Rattle.pres_tokens.specs.Symbols.{Compare, And, Or, Not, Open, Close, Mod, Placed}
use Rattle.pres_tokens.specs.Tokens.{tokens_of}
use Rattle.pres_read.specs.declared.fault.ReadPred.{ReadPred}
use Rattle.pres_read.specs.declared.fault.ReadPred.TheVariants.{Syntax, TooLarge, LongText}
use Rattle.pres_read.specs.Outcome.{◌>>=◌}
use Rattle.pres_read.specs.Atoms.{zero_coefs, signed_number, equality_tree, negation_if, compared_tree, congruent_tree}
use Rattle.pres_read.specs.Atoms.{limit_of, Factor, lone, added}
use Rattle.pres_read.specs.Numbers.{value_of_digits, value_within}
use Rattle.pres_read.specs.Progress.{Span, clear, Around, Next, AUnit, ATerm, AStar, AName, ARelation, AConstant}
use Rattle.pres_read.specs.Progress.{ANumber, AModulo, AModulus, ASign, Progress, start}
use Rattle.pres_read.specs.Depth.{Depth, surface, sunk}

abbrev pub negation : ℕ → PredTree → PredTree
negation zero p = p
negation (suc n) p = Negation (negation n p)

abbrev pub conjunction : Option PredTree → PredTree → PredTree
conjunction None q = q
conjunction (Some p) q = Conjunction p q

abbrev pub disjunction : Option PredTree → PredTree → PredTree
disjunction None q = q
disjunction (Some p) q = Disjunction p q

-- after a unit: its `!` and the `&&` before it are applied
abbrev pub progress_after_unit : Around → PredTree → Progress
progress_after_unit a p = record {
  around = record { above = a.above; span = record { ors = a.span.ors; ands = None; nots = 0 } };
  next = ASign (conjunction a.span.ands (negation a.span.nots p));
}

abbrev pub going_on : Around → Next → Progress
going_on a next = record { around = a; next = next }

abbrev pub after_sum : Around → Result (List ℤ) ReadPred → Result Progress ReadPred
after_sum a (Ok coefs) = Ok (going_on a (ARelation coefs))
after_sum a (Err e) = Err e

abbrev pub term_step : List (List ℕ) → Around → List ℤ → Bool → ℕ → Symbol → Result Progress ReadPred
term_step names a coefs negative place (Name word) = after_sum a (added names coefs (lone negative place) place word)
term_step names a coefs negative place (Number digits) =
    Ok (going_on a (AStar coefs (record { negative = negative; digits = digits; place = place })))
term_step names a coefs negative place s = Err (Syntax place)

-- the first token of a sum
abbrev pub first_step : List (List ℕ) → Around → ℕ → Symbol → Result Progress ReadPred
first_step names a place Minus = Ok (going_on a (ATerm (zero_coefs names) true))
first_step names a place s = term_step names a (zero_coefs names) false place s

-- one more `!` before the unit
abbrev pub after_not : Around → Progress
after_not a =
    going_on
    (record { above = a.above; span = record { ors = a.span.ors; ands = a.span.ands; nots = suc a.span.nots } }) AUnit

-- inside a `(`
abbrev pub after_open : Around → Progress
after_open a = going_on (record { above = a.span ∷ a.above; span = clear }) AUnit

abbrev pub unit_step : List (List ℕ) → Around → ℕ → Symbol → Result Progress ReadPred
unit_step names a place Not = Ok (after_not a)
unit_step names a place Open = Ok (after_open a)
unit_step names a place s = first_step names a place s

abbrev pub star_step : Around → List ℤ → Factor → ℕ → Symbol → Result Progress ReadPred
star_step a coefs factor place Star = Ok (going_on a (AName coefs factor))
star_step a coefs factor place s = Err (Syntax place)

abbrev pub name_step : List (List ℕ) → Around → List ℤ → Factor → ℕ → Symbol → Result Progress ReadPred
name_step names a coefs factor place (Name word) =
    after_sum a (added names coefs factor place word)
name_step names a coefs factor place s = Err (Syntax place)

abbrev pub relation_step : Around → List ℤ → ℕ → Symbol → Result Progress ReadPred
relation_step a coefs place Plus = Ok (going_on a (ATerm coefs false))
relation_step a coefs place Minus = Ok (going_on a (ATerm coefs true))
relation_step a coefs place (Compare r) = Ok (going_on a (AConstant coefs r))
relation_step a coefs place s = Err (Syntax place)

-- a constant ends the atom, unless `mod` may follow after `=` or `!=`
abbrev pub progress_after_constant : Around → List ℤ → Relation → ℤ → Progress
progress_after_constant a coefs Less c = progress_after_unit a (compared_tree coefs Less c)
progress_after_constant a coefs AtMost c = progress_after_unit a (compared_tree coefs AtMost c)
progress_after_constant a coefs Greater c = progress_after_unit a (compared_tree coefs Greater c)
progress_after_constant a coefs AtLeast c = progress_after_unit a (compared_tree coefs AtLeast c)
progress_after_constant a coefs Equal c = going_on a (AModulo coefs false c)
progress_after_constant a coefs Unequal c = going_on a (AModulo coefs true c)

abbrev pub given_constant : Around → List ℤ → Relation → Bool → ℕ → Option ℕ → Result Progress ReadPred
given_constant a coefs r negative place None = Err (TooLarge place)
given_constant a coefs r negative place (Some n) = Ok (progress_after_constant a coefs r (signed_number negative n))

abbrev pub number_step : Around → List ℤ → Relation → Bool → ℕ → Symbol → Result Progress ReadPred
number_step a coefs r negative place (Number digits) =
    given_constant a coefs r negative place (value_within (limit_of r) (value_of_digits digits))
number_step a coefs r negative place s = Err (Syntax place)

abbrev pub constant_step : Around → List ℤ → Relation → ℕ → Symbol → Result Progress ReadPred
constant_step a coefs r place Minus = Ok (going_on a (ANumber coefs r))
constant_step a coefs r place s = number_step a coefs r false place s

abbrev pub given_modulus : Around → List ℤ → Bool → ℤ → ℕ → Option ℕ → Result Progress ReadPred
given_modulus a coefs unequal c place None = Err (TooLarge place)
given_modulus a coefs unequal c place (Some m) =
    if nat_lt m 2 then Err (TooLarge place) else Ok (progress_after_unit a (congruent_tree coefs unequal c m))

abbrev pub modulus_step : Around → List ℤ → Bool → ℤ → ℕ → Symbol → Result Progress ReadPred
modulus_step a coefs unequal c place (Number digits) =
    given_modulus a coefs unequal c place (value_within MODULUS_LIMIT (value_of_digits digits))
modulus_step a coefs unequal c place s = Err (Syntax place)

-- a `)` ends the innermost parenthesis, whose predicate is a unit
abbrev pub close_step : List Span → PredTree → ℕ → Result Progress ReadPred
close_step [] p place = Err (Syntax place)
close_step (span ∷ above) p place = Ok (progress_after_unit (record { above = above; span = span }) p)

-- after a conjunction p and its `&&`
abbrev pub progress_after_and : List Span → Option PredTree → PredTree → Progress
progress_after_and above ors p =
    going_on (record { above = above; span = record { ors = ors; ands = Some p; nots = 0 } }) AUnit

-- after a conjunction p and its `||`
abbrev pub progress_after_or : List Span → Option PredTree → PredTree → Progress
progress_after_or above ors p =
    going_on (record { above = above; span = record { ors = Some (disjunction ors p); ands = None; nots = 0 } }) AUnit

abbrev pub sign_step : List Span → Option PredTree → PredTree → ℕ → Symbol → Result Progress ReadPred
sign_step above ors p place And = Ok (progress_after_and above ors p)
sign_step above ors p place Or = Ok (progress_after_or above ors p)
sign_step above ors p place Close = close_step above (disjunction ors p) place
sign_step above ors p place s = Err (Syntax place)

-- the conjunction up to a unit
abbrev pub tree_up_to_unit : Span → PredTree → PredTree
tree_up_to_unit span p = conjunction span.ands (negation span.nots p)

-- without a modulus the atom is done, and the symbol follows a unit
abbrev pub equality_step : Around → List ℤ → Bool → ℤ → ℕ → Symbol → Result Progress ReadPred
equality_step a coefs unequal c place s =
    sign_step a.above a.span.ors (tree_up_to_unit a.span (negation_if unequal (equality_tree coefs c))) place s

abbrev pub modulo_step : Around → List ℤ → Bool → ℤ → ℕ → Symbol → Result Progress ReadPred
modulo_step a coefs unequal c place Mod = Ok (going_on a (AModulus coefs unequal c))
modulo_step a coefs unequal c place s = equality_step a coefs unequal c place s

abbrev pub by_next : List (List ℕ) → Around → Next → ℕ → Symbol → Result Progress ReadPred
by_next names a AUnit place s = unit_step names a place s
by_next names a (ATerm coefs negative) place s = term_step names a coefs negative place s
by_next names a (AStar coefs factor) place s = star_step a coefs factor place s
by_next names a (AName coefs factor) place s = name_step names a coefs factor place s
by_next names a (ARelation coefs) place s = relation_step a coefs place s
by_next names a (AConstant coefs r) place s = constant_step a coefs r place s
by_next names a (ANumber coefs r) place s = number_step a coefs r true place s
by_next names a (AModulo coefs unequal c) place s = modulo_step a coefs unequal c place s
by_next names a (AModulus coefs unequal c) place s = modulus_step a coefs unequal c place s
by_next names a (ASign p) place s = sign_step a.above a.span.ors p place s

-- one token further
unfoldable pub step : List (List ℕ) → Progress → Placed → Result Progress ReadPred
step names p t = by_next names p.around p.next t.place t.symbol

abbrev pub end_step : List Span → Option PredTree → PredTree → ℕ → Result PredTree ReadPred
end_step [] ors p end = Ok (disjunction ors p)
end_step (span ∷ above) ors p end = Err (Syntax end)

abbrev pub finish_by : Around → Next → ℕ → Result PredTree ReadPred
finish_by a AUnit end = Err (Syntax end)
finish_by a (ATerm coefs negative) end = Err (Syntax end)
finish_by a (AStar coefs factor) end = Err (Syntax end)
finish_by a (AName coefs factor) end = Err (Syntax end)
finish_by a (ARelation coefs) end = Err (Syntax end)
finish_by a (AConstant coefs r) end = Err (Syntax end)
finish_by a (ANumber coefs r) end = Err (Syntax end)
finish_by a (AModulo coefs unequal c) end =
    end_step a.above a.span.ors (tree_up_to_unit a.span (negation_if unequal (equality_tree coefs c))) end
finish_by a (AModulus coefs unequal c) end = Err (Syntax end)
finish_by a (ASign p) end = end_step a.above a.span.ors p end

-- the end of the text
unfoldable pub finish : Progress → ℕ → Result PredTree ReadPred
finish p end = finish_by p.around p.next end

-- one token further, with its charge; `TooDeep` comes last
abbrev pub with_progress : Progress → Result Depth ReadPred → Result (Progress × Depth) ReadPred
with_progress p (Ok d) = Ok (p, d)
with_progress p (Err e) = Err e

abbrev pub read_on : List (List ℕ) → Progress → Depth → Placed → Result (Progress × Depth) ReadPred
read_on names p d t = step names p t >>= λ q. with_progress q (sunk d t)

-- token by token up to the end
abbrev pub run : List (List ℕ) → ℕ → Progress → Depth → List Placed → Result PredTree ReadPred
run names end p d [] = finish p end
run names end p d (t ∷ ts) = read_on names p d t >>= λ q. run names end q.0 q.1 ts

abbrev pub tree_read : List (List ℕ) → List ℕ → Result PredTree ReadPred
tree_read names text =
    if nat_lt TEXT_LIMIT (length text)
    then Err (LongText (length text))
    else run names (length text) start surface (tokens_of text)

abbrev pub over_names : ℕ → Result PredTree ReadPred → Result PredModel ReadPred
over_names n (Ok p) = Ok (record { variables = n; tree = p })
over_names n (Err e) = Err e

-- the predicate over these names, or the first fault
abbrev pub pred_read : List (List ℕ) → List ℕ → Result PredModel ReadPred
pred_read names text = over_names (length names) (tree_read names text)
