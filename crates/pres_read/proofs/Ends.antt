-- What was read is a predicate within the limits.
use Rattle.pop_io.specs.declared.failure.Failure.{Failure}
use Rattle.std.proofs.Common.{◌≡◌, ℕ, ◌+◌, ◌≤◌, Bool, true, false, List, [], ◌∷◌, length, ltb, Option, IfOk, Result, Ok, Err, sym, ap, subst, arith}
use Rattle.std.specs.Prelude.{if◌then◌else◌, ◌||◌}
use Rattle.pres_ast.specs.declared.limits.TheConstants.{WEIGHT_LIMIT}
use Rattle.pop_io.specs.declared.names.TheConstants.{VARIABLE_LIMIT}
use Rattle.pres_read.specs.declared.depth.TheConstants.{PARENTHESIS_LIMIT}
use Rattle.pres_ast.specs.PredTree.{PredTree}
use Rattle.pres_ast.specs.PredModel.{HasAtoms, weight_of, IsPred}
use Rattle.pres_ast.specs.TreeOf.{tree_of}
use Rattle.pres_ast.specs.declared.tree.Tree.{Tree}
use Rattle.pres_tokens.specs.Symbols.{Placed}
use Rattle.pres_read.specs.Outcome.{GivesParsed}
use Rattle.pres_read.specs.declared.fault.ReadPred.{ReadPred}
use Rattle.pres_read.specs.declared.fault.ReadPred.TheVariants.{TooDeep}
use Rattle.pres_read.specs.Atoms.{negation_if, equality_tree}
use Rattle.pres_read.specs.Progress.{Span, Around, Next, AUnit, ATerm, AStar, AName, ARelation, AConstant, ANumber, AModulo, AModulus, ASign, Progress}
use Rattle.pres_read.specs.Depth.{Depth, symbol_charge, deeper, sunk}
use Rattle.pres_read.specs.Reading.{tree_up_to_unit, end_step, finish_by, finish, step}
use Rattle.pres_read.specs.Sound.{option_weight, span_weight, spans_weight, next_weight, HasOption, HasSpan, HasSpans, HasNext, LeavesNoOperator, IsSoundProgress}
use Rattle.pres_read.proofs.Limits.{weight-disjoined, HasAtoms-disjoined, HasAtoms-negated_if, HasAtoms-equality}
use Rattle.pres_read.proofs.Steps.{weight-up_to_unit, HasAtoms-up_to_unit, weight-unequal, step_goes}

charge-within : (t : Placed) (d e : Depth) (b : Bool) → ◌≡◌ {A = Result Depth ReadPred} (if b then Err (TooDeep t.place) else Ok d) (Ok e) → e.charge ≡ d.charge
charge-within t d e true h = cc
charge-within t d e false h = let same : d ≡ e = cc in ap (λ (x : Depth). x.charge) (sym same)

pub charge-sunk : (d e : Depth) (t : Placed) → sunk d t ≡ Ok e → e.charge ≡ d.charge + symbol_charge t.symbol
charge-sunk d e t h = charge-within t (deeper d t.symbol) e (ltb WEIGHT_LIMIT (deeper d t.symbol).charge || ltb PARENTHESIS_LIMIT (deeper d t.symbol).parentheses) h

pub sound_further : (names : List (List ℕ)) (p q : Progress) (d e : Depth) (t : Placed)
    → IsSoundProgress (length names) p d.charge → step names p t ≡ Ok q → sunk d t ≡ Ok e → IsSoundProgress (length names) q e.charge
sound_further names p q d e t sound stepped deep =
    let goes = step_goes d.charge names p t sound in
    let here : IsSoundProgress (length names) q (d.charge + symbol_charge t.symbol) = (rw stepped at goes) in
    subst (λ c. IsSoundProgress (length names) q c) (sym (charge-sunk d e t deep)) here

ended_fits : (n charge end : ℕ) (above : List Span) (ors : Option PredTree) (p : PredTree)
    → 1 ≤ n → n ≤ VARIABLE_LIMIT → charge ≤ WEIGHT_LIMIT → HasOption n ors → HasAtoms n p → spans_weight above + option_weight ors + weight_of p ≡ charge
    → IfOk (end_step above ors p end) (IsPred n)
ended_fits n charge end [] ors p one most small o g w = record {
  some_variable = one;
  variables = most;
  atoms = HasAtoms-disjoined n ors p o g;
  weight = (let whole = weight-disjoined ors p in omega (arith, whole, w, small));
}
ended_fits n charge end (span ∷ above) ors p one most small o g w = tt

finish_by_fits : (n charge end : ℕ) (a : Around) (next : Next) → 1 ≤ n → n ≤ VARIABLE_LIMIT → charge ≤ WEIGHT_LIMIT
    → HasSpans n a.above → HasSpan n a.span → HasNext n next → LeavesNoOperator a.span next → spans_weight a.above + span_weight a.span + next_weight next ≡ charge
    → IfOk (finish_by a next end) (IsPred n)
finish_by_fits n charge end a AUnit one most small above span h settled w = tt
finish_by_fits n charge end a (ATerm coefs negative) one most small above span h settled w = tt
finish_by_fits n charge end a (AStar coefs factor) one most small above span h settled w = tt
finish_by_fits n charge end a (AName coefs factor) one most small above span h settled w = tt
finish_by_fits n charge end a (ARelation coefs) one most small above span h settled w = tt
finish_by_fits n charge end a (AConstant coefs r) one most small above span h settled w = tt
finish_by_fits n charge end a (ANumber coefs r) one most small above span h settled w = tt
finish_by_fits n charge end a (AModulo coefs unequal c) one most small above span h settled w =
    ended_fits n charge end a.above a.span.ors (tree_up_to_unit a.span (negation_if unequal (equality_tree coefs c))) one most small span.0
    (HasAtoms-up_to_unit n a.span (negation_if unequal (equality_tree coefs c)) span (HasAtoms-negated_if n unequal (equality_tree coefs c) (HasAtoms-equality n coefs c h.0 h.1)))
    (let whole = weight-up_to_unit a.span (negation_if unequal (equality_tree coefs c)) in let own = weight-unequal unequal coefs c in omega (arith, whole, own, w))
finish_by_fits n charge end a (AModulus coefs unequal c) one most small above span h settled w = tt
finish_by_fits n charge end a (ASign p) one most small above span h settled w =
    ended_fits n charge end a.above a.span.ors p one most small span.0 h
    (let none = ap option_weight settled.0 in let nots = settled.1 in omega (arith, w, none, nots))

pub finish_fits : (n charge end : ℕ) (p : Progress) → 1 ≤ n → n ≤ VARIABLE_LIMIT → charge ≤ WEIGHT_LIMIT → IsSoundProgress n p charge → IfOk (finish p end) (IsPred n)
unfolding finish
finish_fits n charge end p one most small sound =
    finish_by_fits n charge end p.around p.next one most small sound.above sound.span sound.next sound.settled sound.weight

-- what a call gave is within the limits too
pub given_fits : (n : ℕ) (r : Result Tree (Failure ReadPred)) (q : Result PredTree ReadPred) → GivesParsed tree_of r q → IfOk q (IsPred n) → IfOk r (λ tree. IsPred n (tree_of tree))
given_fits n (Ok tree) q e h = rw e at h
given_fits n (Err f) q e h = tt
