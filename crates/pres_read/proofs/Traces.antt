-- Reading by itself, without names and limits: what the tokens so far have built of a tree of productions.
use Rattle.std.proofs.Common.{◌≡◌, ℕ, zero, suc, Bool, true, false, List, [], ◌∷◌, ◌++◌, Option, Some, None, ap}
use Rattle.pres_tokens.specs.declared.token.Relation.{Relation}
use Rattle.pres_tokens.specs.declared.token.Relation.TheVariants.{Less, AtMost, Greater, AtLeast, Equal, Unequal}
use Rattle.pres_tokens.specs.Symbols.{Symbol, Name, Number, Plus, Minus, Star, Compare, And, Or, Not, Open, Close, Mod}
use Rattle.pres_read.specs.Grammar.{Term, bare, times, Sum, first, further, relational, modular, APred, AConj, AUnit, Phrase, conj, either, unit, both, negate, group, atom, equal_or_not}

-- what precedes a term: nothing or `-`, or a sum and its sign
pub data Lead : Type 0 where
  begin : (negative : Bool) → Lead
  after : (sum : Sum) (negative : Bool) → Lead

abbrev pub sum_with : Lead → Term → Sum
sum_with (begin negative) term = first negative term
sum_with (after sum negative) term = further sum negative term

pub data Inner : Type 0 where
  IUnit : Inner
  ITerm : (lead : Lead) → Inner
  IStar : (lead : Lead) (digits : List ℕ) → Inner
  IName : (lead : Lead) (digits : List ℕ) → Inner
  IRelation : (sum : Sum) → Inner
  IConstant : (sum : Sum) (relation : Relation) → Inner
  INumber : (sum : Sum) (relation : Relation) → Inner
  IModulo : (sum : Sum) (unequal negative : Bool) (digits : List ℕ) → Inner
  IModulus : (sum : Sum) (unequal negative : Bool) (digits : List ℕ) → Inner

pub record Side : Type 0 where
  pub ors : Option (Phrase APred)
  pub ands : Option (Phrase AConj)
  pub nots : ℕ

abbrev pub bare_side : Side
bare_side = record { ors = None; ands = None; nots = 0 }

pub data Trace : Type 0 where
  -- inside a unit
  Inside : (above : List Side) (side : Side) (inner : Inner) → Trace
  -- after a unit
  Done : (above : List Side) (ors : Option (Phrase APred)) (done : Phrase AConj) → Trace

abbrev pub begun : Trace
begun = Inside [] bare_side IUnit

abbrev pub negates : ℕ → Phrase AUnit → Phrase AUnit
negates zero u = u
negates (suc k) u = negate (negates k u)

abbrev pub with_ands : Option (Phrase AConj) → Phrase AUnit → Phrase AConj
with_ands None u = unit u
with_ands (Some p) u = both p u

abbrev pub with_ors : Option (Phrase APred) → Phrase AConj → Phrase APred
with_ors None c = conj c
with_ors (Some p) c = either p c

abbrev pub conj_of : Side → Phrase AUnit → Phrase AConj
conj_of side u = with_ands side.ands (negates side.nots u)

abbrev pub unit_done : List Side → Side → Phrase AUnit → Trace
unit_done above side u = Done above side.ors (conj_of side u)

abbrev pub trace_closed : List Side → Phrase APred → Option Trace
trace_closed [] p = None
trace_closed (side ∷ above) p = Some (unit_done above side (group p))

abbrev pub trace_sign : List Side → Option (Phrase APred) → Phrase AConj → Symbol → Option Trace
trace_sign above ors c And = Some (Inside above (record { ors = ors; ands = Some c; nots = 0 }) IUnit)
trace_sign above ors c Or = Some (Inside above (record { ors = Some (with_ors ors c); ands = None; nots = 0 }) IUnit)
trace_sign above ors c Close = trace_closed above (with_ors ors c)
trace_sign above ors c s = None

abbrev pub trace_term : List Side → Side → Lead → Symbol → Option Trace
trace_term above side lead (Name word) = Some (Inside above side (IRelation (sum_with lead (bare word))))
trace_term above side lead (Number digits) = Some (Inside above side (IStar lead digits))
trace_term above side lead s = None

abbrev pub trace_unit : List Side → Side → Symbol → Option Trace
trace_unit above side Not = Some (Inside above (record { ors = side.ors; ands = side.ands; nots = suc side.nots }) IUnit)
trace_unit above side Open = Some (Inside (side ∷ above) bare_side IUnit)
trace_unit above side Minus = Some (Inside above side (ITerm (begin true)))
trace_unit above side s = trace_term above side (begin false) s

abbrev pub trace_star : List Side → Side → Lead → List ℕ → Symbol → Option Trace
trace_star above side lead digits Star = Some (Inside above side (IName lead digits))
trace_star above side lead digits s = None

abbrev pub trace_name : List Side → Side → Lead → List ℕ → Symbol → Option Trace
trace_name above side lead digits (Name word) = Some (Inside above side (IRelation (sum_with lead (times digits word))))
trace_name above side lead digits s = None

abbrev pub trace_relation : List Side → Side → Sum → Symbol → Option Trace
trace_relation above side sum Plus = Some (Inside above side (ITerm (after sum false)))
trace_relation above side sum Minus = Some (Inside above side (ITerm (after sum true)))
trace_relation above side sum (Compare r) = Some (Inside above side (IConstant sum r))
trace_relation above side sum s = None

abbrev pub trace_compared : List Side → Side → Sum → Relation → Bool → List ℕ → Trace
trace_compared above side sum Less negative digits = unit_done above side (atom (relational sum Less negative digits))
trace_compared above side sum AtMost negative digits = unit_done above side (atom (relational sum AtMost negative digits))
trace_compared above side sum Greater negative digits = unit_done above side (atom (relational sum Greater negative digits))
trace_compared above side sum AtLeast negative digits = unit_done above side (atom (relational sum AtLeast negative digits))
trace_compared above side sum Equal negative digits = Inside above side (IModulo sum false negative digits)
trace_compared above side sum Unequal negative digits = Inside above side (IModulo sum true negative digits)

abbrev pub trace_number : List Side → Side → Sum → Relation → Bool → Symbol → Option Trace
trace_number above side sum r negative (Number digits) = Some (trace_compared above side sum r negative digits)
trace_number above side sum r negative s = None

abbrev pub trace_constant : List Side → Side → Sum → Relation → Symbol → Option Trace
trace_constant above side sum r Minus = Some (Inside above side (INumber sum r))
trace_constant above side sum r s = trace_number above side sum r false s

abbrev pub equality_conj : Side → Sum → Bool → Bool → List ℕ → Phrase AConj
equality_conj side sum unequal negative digits = conj_of side (atom (relational sum (equal_or_not unequal) negative digits))

abbrev pub trace_modulo : List Side → Side → Sum → Bool → Bool → List ℕ → Symbol → Option Trace
trace_modulo above side sum unequal negative digits Mod = Some (Inside above side (IModulus sum unequal negative digits))
trace_modulo above side sum unequal negative digits s = trace_sign above side.ors (equality_conj side sum unequal negative digits) s

abbrev pub trace_modulus : List Side → Side → Sum → Bool → Bool → List ℕ → Symbol → Option Trace
trace_modulus above side sum unequal negative digits (Number modulus) =
    Some (unit_done above side (atom (modular sum unequal negative digits modulus)))
trace_modulus above side sum unequal negative digits s = None

abbrev pub trace_inner : List Side → Side → Inner → Symbol → Option Trace
trace_inner above side IUnit s = trace_unit above side s
trace_inner above side (ITerm lead) s = trace_term above side lead s
trace_inner above side (IStar lead digits) s = trace_star above side lead digits s
trace_inner above side (IName lead digits) s = trace_name above side lead digits s
trace_inner above side (IRelation sum) s = trace_relation above side sum s
trace_inner above side (IConstant sum r) s = trace_constant above side sum r s
trace_inner above side (INumber sum r) s = trace_number above side sum r true s
trace_inner above side (IModulo sum unequal negative digits) s = trace_modulo above side sum unequal negative digits s
trace_inner above side (IModulus sum unequal negative digits) s = trace_modulus above side sum unequal negative digits s

-- one symbol further; None if no text of the grammar goes on like this
abbrev pub trace_step : Trace → Symbol → Option Trace
trace_step (Inside above side inner) s = trace_inner above side inner s
trace_step (Done above ors c) s = trace_sign above ors c s

abbrev pub trace_goes_by : Option Trace → (Trace → Option Trace) → Option Trace
trace_goes_by None f = None
trace_goes_by (Some a) f = f a

abbrev pub trace_run : Trace → List Symbol → Option Trace
trace_run a [] = Some a
trace_run a (s ∷ ss) = trace_goes_by (trace_step a s) (λ b. trace_run b ss)

abbrev pub trace_ended : List Side → Option (Phrase APred) → Phrase AConj → Option (Phrase APred)
trace_ended [] ors c = Some (with_ors ors c)
trace_ended (side ∷ above) ors c = None

abbrev pub trace_inner_end : List Side → Side → Inner → Option (Phrase APred)
trace_inner_end above side IUnit = None
trace_inner_end above side (ITerm lead) = None
trace_inner_end above side (IStar lead digits) = None
trace_inner_end above side (IName lead digits) = None
trace_inner_end above side (IRelation sum) = None
trace_inner_end above side (IConstant sum r) = None
trace_inner_end above side (INumber sum r) = None
trace_inner_end above side (IModulo sum unequal negative digits) = trace_ended above side.ors (equality_conj side sum unequal negative digits)
trace_inner_end above side (IModulus sum unequal negative digits) = None

abbrev pub trace_end : Trace → Option (Phrase APred)
trace_end (Inside above side inner) = trace_inner_end above side inner
trace_end (Done above ors c) = trace_ended above ors c

-- the tree of productions of all the symbols
abbrev pub trace_then : Option Trace → (Trace → Option (Phrase APred)) → Option (Phrase APred)
trace_then None f = None
trace_then (Some a) f = f a

abbrev pub trace_read : Trace → List Symbol → Option (Phrase APred)
trace_read a [] = trace_end a
trace_read a (s ∷ ss) = trace_then (trace_step a s) (λ b. trace_read b ss)

run_step : (b : Trace) (ss more : List Symbol) (o : Option Trace) → ((c : Trace) → trace_run c ss ≡ Some b → trace_read c (ss ++ more) ≡ trace_read b more)
    → trace_goes_by o (λ c. trace_run c ss) ≡ Some b → trace_then o (λ c. trace_read c (ss ++ more)) ≡ trace_read b more
run_step b ss more None go e = cc
run_step b ss more (Some c) go e = go c e

pub trace_read-run : (a b : Trace) (ss more : List Symbol) → trace_run a ss ≡ Some b → trace_read a (ss ++ more) ≡ trace_read b more
trace_read-run a b [] more e = ap (λ c. trace_read c more) (let same : a ≡ b = cc in same)
trace_read-run a b (s ∷ ss) more e = run_step b ss more (trace_step a s) (λ c h. trace_read-run c b ss more h) e
