-- If a step goes on, its name is known.
use Rattle.std.proofs.Common.{◌≡◌, ℕ, Bool, true, false, List, Option, Some, None, Result, Ok, Err, IfOk, refl, ℤ, position}
use Rattle.std.specs.Str.{bytes_eq}
use Rattle.pres_ast.specs.PredTree.{PredTree}
use Rattle.pres_tokens.specs.declared.token.Relation.{Relation}
use Rattle.pres_tokens.specs.Symbols.{Symbol, Name, Minus, Not, Open, Placed}
use Rattle.pres_read.specs.declared.fault.ReadPred.{ReadPred}
use Rattle.pres_read.specs.Atoms.{Factor, lone, with_term}
use Rattle.pres_read.specs.Progress.{Span, Around, Next, AUnit, ATerm, AStar, AName, ARelation, AConstant, ANumber, AModulo, AModulus, ASign, Progress}
use Rattle.pres_read.specs.Reading.{after_sum, term_step, unit_step, star_step, name_step, relation_step, number_step, constant_step, modulus_step, sign_step, modulo_step, by_next, step}
use Rattle.pres_read.specs.Atoms.{zero_coefs}
use Rattle.pres_read.specs.Rules.{IsKnown}

abbrev pub Known : List (List ℕ) → Symbol → Result Progress ReadPred → Type 0
Known names s r = IfOk r (λ q. IsKnown names s)

sum_known : (names : List (List ℕ)) (a : Around) (coefs : List ℤ) (o : Option ℕ) (factor : Factor) (place : ℕ) (word : List ℕ) → o ≡ position (bytes_eq word) names
    → Known names (Name word) (after_sum a (with_term coefs o factor place))
sum_known names a coefs None factor place word e = tt
sum_known names a coefs (Some i) factor place word e = by_sum (with_term coefs (Some i) factor place)
  where
    by_sum : (r : Result (List ℤ) ReadPred) → Known names (Name word) (after_sum a r)
    by_sum (Ok sum) = rw (← e) refl
    by_sum (Err f) = tt

term_known : (names : List (List ℕ)) (a : Around) (coefs : List ℤ) (negative : Bool) (place : ℕ) (s : Symbol) → Known names s (term_step names a coefs negative place s)
term_known names a coefs negative place (Name word) = sum_known names a coefs (position (bytes_eq word) names) (lone negative place) place word refl
term_known names a coefs negative place s = tt

unit_known : (names : List (List ℕ)) (a : Around) (place : ℕ) (s : Symbol) → Known names s (unit_step names a place s)
unit_known names a place Not = tt
unit_known names a place Open = tt
unit_known names a place Minus = tt
unit_known names a place s = term_known names a (zero_coefs names) false place s

name_known : (names : List (List ℕ)) (a : Around) (coefs : List ℤ) (factor : Factor) (place : ℕ) (s : Symbol) → Known names s (name_step names a coefs factor place s)
name_known names a coefs factor place (Name word) = sum_known names a coefs (position (bytes_eq word) names) factor place word refl
name_known names a coefs factor place s = tt

-- a symbol other than a name has no rule here
any_known : (names : List (List ℕ)) (s : Symbol) (r : Result Progress ReadPred) → IsKnown names s → Known names s r
any_known names s (Ok q) h = h
any_known names s (Err e) h = tt

star_known : (names : List (List ℕ)) (a : Around) (coefs : List ℤ) (factor : Factor) (place : ℕ) (s : Symbol) → Known names s (star_step a coefs factor place s)
star_known names a coefs factor place (Name word) = tt
star_known names a coefs factor place s = any_known names s (star_step a coefs factor place s) tt

relation_known : (names : List (List ℕ)) (a : Around) (coefs : List ℤ) (place : ℕ) (s : Symbol) → Known names s (relation_step a coefs place s)
relation_known names a coefs place (Name word) = tt
relation_known names a coefs place s = any_known names s (relation_step a coefs place s) tt

constant_known : (names : List (List ℕ)) (a : Around) (coefs : List ℤ) (r : Relation) (place : ℕ) (s : Symbol) → Known names s (constant_step a coefs r place s)
constant_known names a coefs r place (Name word) = tt
constant_known names a coefs r place s = any_known names s (constant_step a coefs r place s) tt

number_known : (names : List (List ℕ)) (a : Around) (coefs : List ℤ) (r : Relation) (negative : Bool) (place : ℕ) (s : Symbol) → Known names s (number_step a coefs r negative place s)
number_known names a coefs r negative place (Name word) = tt
number_known names a coefs r negative place s = any_known names s (number_step a coefs r negative place s) tt

modulo_known : (names : List (List ℕ)) (a : Around) (coefs : List ℤ) (unequal : Bool) (c : ℤ) (place : ℕ) (s : Symbol) → Known names s (modulo_step a coefs unequal c place s)
modulo_known names a coefs unequal c place (Name word) = tt
modulo_known names a coefs unequal c place s = any_known names s (modulo_step a coefs unequal c place s) tt

modulus_known : (names : List (List ℕ)) (a : Around) (coefs : List ℤ) (unequal : Bool) (c : ℤ) (place : ℕ) (s : Symbol) → Known names s (modulus_step a coefs unequal c place s)
modulus_known names a coefs unequal c place (Name word) = tt
modulus_known names a coefs unequal c place s = any_known names s (modulus_step a coefs unequal c place s) tt

sign_known : (names : List (List ℕ)) (above : List Span) (ors : Option PredTree) (p : PredTree) (place : ℕ) (s : Symbol) → Known names s (sign_step above ors p place s)
sign_known names above ors p place (Name word) = tt
sign_known names above ors p place s = any_known names s (sign_step above ors p place s) tt

next_known : (names : List (List ℕ)) (a : Around) (next : Next) (place : ℕ) (s : Symbol) → Known names s (by_next names a next place s)
next_known names a AUnit place s = unit_known names a place s
next_known names a (ATerm coefs negative) place s = term_known names a coefs negative place s
next_known names a (AStar coefs factor) place s = star_known names a coefs factor place s
next_known names a (AName coefs factor) place s = name_known names a coefs factor place s
next_known names a (ARelation coefs) place s = relation_known names a coefs place s
next_known names a (AConstant coefs r) place s = constant_known names a coefs r place s
next_known names a (ANumber coefs r) place s = number_known names a coefs r true place s
next_known names a (AModulo coefs unequal c) place s = modulo_known names a coefs unequal c place s
next_known names a (AModulus coefs unequal c) place s = modulus_known names a coefs unequal c place s
next_known names a (ASign p) place s = sign_known names a.above a.span.ors p place s

pub step_known : (names : List (List ℕ)) (p : Progress) (t : Placed) → Known names t.symbol (step names p t)
unfolding step
step_known names p t = next_known names p.around p.next t.place t.symbol
