-- One token further, what is known stays within the limits, and weighs what was charged for the signs.
use Rattle.std.proofs.Common.{◌≡◌, ℕ, ◌+◌, ◌≤◌, Bool, true, false, List, [], ◌∷◌, length, ltb, Option, Some, None, IfSome, IfOk, Result, Ok, Err, refl, ap, subst, ◌∙◌, arith, ℤ, nat_abs}
use Rattle.std.specs.Prelude.{if◌then◌else◌}
use Rattle.std.proofs.lemmas.Bool.{ltb-false}
use Rattle.pres_ast.specs.declared.limits.TheConstants.{MODULUS_LIMIT}
use Rattle.pres_ast.specs.PredTree.{PredTree}
use Rattle.pres_ast.specs.PredModel.{AreCoefs, HasAtoms, weight_of}
use Rattle.pres_tokens.specs.declared.token.Relation.{Relation}
use Rattle.pres_tokens.specs.declared.token.Relation.TheVariants.{Less, AtMost, Greater, AtLeast, Equal, Unequal}
use Rattle.pres_tokens.specs.Symbols.{Symbol, Name, Number, Plus, Minus, Star, Compare, And, Or, Not, Open, Close, Mod, Placed}
use Rattle.pres_read.specs.declared.fault.ReadPred.{ReadPred}
use Rattle.pres_read.specs.declared.fault.ReadPred.TheVariants.{TooLarge}
use Rattle.pres_read.specs.Numbers.{value_within, value_of_digits}
use Rattle.pres_read.specs.Atoms.{signed_number, negation_if, equality_tree, compared_tree, congruent_tree, limit_of, Factor, lone, added}
use Rattle.pres_read.specs.Progress.{Span, Around, Next, AUnit, ATerm, AStar, AName, ARelation, AConstant, ANumber, AModulo, AModulus, ASign, Progress}
use Rattle.pres_read.specs.Depth.{symbol_charge, charge_of_relation}
use Rattle.pres_read.specs.Reading.{negation, disjunction, progress_after_unit, going_on, after_sum, term_step, unit_step, star_step, name_step, relation_step, progress_after_constant, given_constant, number_step, constant_step, given_modulus, modulus_step, close_step, sign_step, tree_up_to_unit, equality_step, modulo_step, by_next, step}
use Rattle.pres_read.specs.Atoms.{zero_coefs}
use Rattle.pres_read.specs.Sound.{option_weight, span_weight, spans_weight, equality_weight, next_weight, HasOption, HasSpan, HasSpans, IsConstant, HasNext, LeavesNoOperator, IsSoundProgress}
use Rattle.pres_read.proofs.Limits.{weight-negated, weight-conjoined, weight-disjoined, HasAtoms-negated, HasAtoms-conjoined, HasAtoms-disjoined, HasAtoms-negated_if, HasAtoms-equality, HasAtoms-compared, HasAtoms-congruent, AreCoefs-zeros, abs-signed, within_limit, added_fits}

-- the spans weigh this much, and their trees are within the limits
pub record Rests (n : ℕ) (a : Around) (charge : ℕ) : Type 0 where
  pub above : HasSpans n a.above
  pub span : HasSpan n a.span
  pub weight : spans_weight a.above + span_weight a.span ≡ charge

abbrev pub Goes : ℕ → ℕ → Result Progress ReadPred → Type 0
Goes n charge r = IfOk r (λ q. IsSoundProgress n q charge)

pub weight-up_to_unit : (span : Span) (p : PredTree) → weight_of (tree_up_to_unit span p) ≡ option_weight span.ands + (weight_of p + span.nots)
weight-up_to_unit span p = weight-conjoined span.ands (negation span.nots p) ∙ ap (λ w. option_weight span.ands + w) (weight-negated span.nots p)

pub HasAtoms-up_to_unit : (n : ℕ) (span : Span) (p : PredTree) → HasSpan n span → HasAtoms n p → HasAtoms n (tree_up_to_unit span p)
HasAtoms-up_to_unit n span p h g = HasAtoms-conjoined n span.ands (negation span.nots p) h.1 (HasAtoms-negated n span.nots p g)

sound-after_unit : (n charge more : ℕ) (a : Around) (p : PredTree) → Rests n a charge → HasAtoms n p → weight_of p ≡ more
    → IsSoundProgress n (progress_after_unit a p) (charge + more)
sound-after_unit n charge more a p r g w = record {
  above = r.above;
  span = (r.span.0, tt);
  next = HasAtoms-up_to_unit n a.span p r.span g;
  settled = (refl, refl);
  weight = (let whole = weight-up_to_unit a.span p in let rests = r.weight in omega (arith, whole, rests, w));
}

after_sum_goes : (n charge more : ℕ) (a : Around) (r : Result (List ℤ) ReadPred) → Rests n a charge → more ≡ 0 → IfOk r (AreCoefs n) → Goes n (charge + more) (after_sum a r)
after_sum_goes n charge more a (Ok coefs) rests e h =
    record { above = rests.above; span = rests.span; next = h; settled = tt; weight = (let w = rests.weight in omega (arith, w, e)) }
after_sum_goes n charge more a (Err f) rests e h = tt

-- a next place that weighs `more`
sound-going_on : (n charge more : ℕ) (a : Around) (next : Next) → Rests n a charge → HasNext n next → LeavesNoOperator a.span next → next_weight next ≡ more → IsSoundProgress n (going_on a next) (charge + more)
sound-going_on n charge more a next rests h settled e =
    record { above = rests.above; span = rests.span; next = h; settled = settled; weight = (let w = rests.weight in omega (arith, w, e)) }

term_goes : (n charge : ℕ) (names : List (List ℕ)) (a : Around) (coefs : List ℤ) (negative : Bool) (place : ℕ) (s : Symbol)
    → Rests n a charge → AreCoefs n coefs → Goes n (charge + symbol_charge s) (term_step names a coefs negative place s)
term_goes n charge names a coefs negative place (Name word) rests h =
    after_sum_goes n charge 0 a (added names coefs (lone negative place) place word) rests refl
    (added_fits n names coefs (lone negative place) place word h)
term_goes n charge names a coefs negative place (Number digits) rests h =
    sound-going_on n charge 0 a (AStar coefs (record { negative = negative; digits = digits; place = place })) rests h tt refl
term_goes n charge names a coefs negative place s rests h = tt

unit_goes : (charge : ℕ) (names : List (List ℕ)) (a : Around) (place : ℕ) (s : Symbol)
    → Rests (length names) a charge → Goes (length names) (charge + symbol_charge s) (unit_step names a place s)
unit_goes charge names a place Not rests = record {
  above = rests.above;
  span = rests.span;
  next = tt;
  settled = tt;
  weight = (let w = rests.weight in omega (arith, w));
}
unit_goes charge names a place Open rests = record {
  above = (rests.span, rests.above);
  span = (tt, tt);
  next = tt;
  settled = tt;
  weight = (let w = rests.weight in omega (arith, w));
}
unit_goes charge names a place Minus rests =
    sound-going_on (length names) charge 0 a (ATerm (zero_coefs names) true) rests (AreCoefs-zeros names) tt refl
unit_goes charge names a place s rests = term_goes (length names) charge names a (zero_coefs names) false place s rests (AreCoefs-zeros names)

star_goes : (n charge : ℕ) (a : Around) (coefs : List ℤ) (factor : Factor) (place : ℕ) (s : Symbol)
    → Rests n a charge → AreCoefs n coefs → Goes n (charge + symbol_charge s) (star_step a coefs factor place s)
star_goes n charge a coefs factor place Star rests h = sound-going_on n charge 0 a (AName coefs factor) rests h tt refl
star_goes n charge a coefs factor place s rests h = tt

name_goes : (n charge : ℕ) (names : List (List ℕ)) (a : Around) (coefs : List ℤ) (factor : Factor) (place : ℕ) (s : Symbol)
    → Rests n a charge → AreCoefs n coefs → Goes n (charge + symbol_charge s) (name_step names a coefs factor place s)
name_goes n charge names a coefs factor place (Name word) rests h =
    after_sum_goes n charge 0 a (added names coefs factor place word) rests refl (added_fits n names coefs factor place word h)
name_goes n charge names a coefs factor place s rests h = tt

relation_goes : (n charge : ℕ) (a : Around) (coefs : List ℤ) (place : ℕ) (s : Symbol)
    → Rests n a charge → AreCoefs n coefs → Goes n (charge + symbol_charge s) (relation_step a coefs place s)
relation_goes n charge a coefs place Plus rests h = sound-going_on n charge 0 a (ATerm coefs false) rests h tt refl
relation_goes n charge a coefs place Minus rests h = sound-going_on n charge 0 a (ATerm coefs true) rests h tt refl
relation_goes n charge a coefs place (Compare r) rests h = sound-going_on n charge (charge_of_relation r) a (AConstant coefs r) rests h tt refl
relation_goes n charge a coefs place s rests h = tt

after_constant_sound : (n charge : ℕ) (a : Around) (coefs : List ℤ) (r : Relation) (c : ℤ)
    → Rests n a charge → AreCoefs n coefs → nat_abs c ≤ limit_of r → IsSoundProgress n (progress_after_constant a coefs r c) (charge + charge_of_relation r)
after_constant_sound n charge a coefs Less c rests h g = sound-after_unit n charge 0 a (compared_tree coefs Less c) rests (HasAtoms-compared n coefs Less c h g) refl
after_constant_sound n charge a coefs AtMost c rests h g = sound-after_unit n charge 0 a (compared_tree coefs AtMost c) rests (HasAtoms-compared n coefs AtMost c h g) refl
after_constant_sound n charge a coefs Greater c rests h g = sound-after_unit n charge 0 a (compared_tree coefs Greater c) rests (HasAtoms-compared n coefs Greater c h g) refl
after_constant_sound n charge a coefs AtLeast c rests h g = sound-after_unit n charge 0 a (compared_tree coefs AtLeast c) rests (HasAtoms-compared n coefs AtLeast c h g) refl
after_constant_sound n charge a coefs Equal c rests h g = sound-going_on n charge 1 a (AModulo coefs false c) rests (h, g) tt refl
after_constant_sound n charge a coefs Unequal c rests h g = sound-going_on n charge 2 a (AModulo coefs true c) rests (h, g) tt refl

with_constant_goes : (n charge : ℕ) (a : Around) (coefs : List ℤ) (r : Relation) (negative : Bool) (place : ℕ) (o : Option ℕ)
    → Rests n a charge → AreCoefs n coefs → IfSome o (λ v. v ≤ limit_of r) → Goes n (charge + charge_of_relation r) (given_constant a coefs r negative place o)
with_constant_goes n charge a coefs r negative place None rests h g = tt
with_constant_goes n charge a coefs r negative place (Some v) rests h g =
    after_constant_sound n charge a coefs r (signed_number negative v) rests h (let same = abs-signed negative v in omega (arith, same, g))

pub weight-unequal : (b : Bool) (coefs : List ℤ) (c : ℤ) → weight_of (negation_if b (equality_tree coefs c)) ≡ equality_weight b
weight-unequal false coefs c = refl
weight-unequal true coefs c = refl

weight-congruent : (b : Bool) (coefs : List ℤ) (c : ℤ) (m : ℕ) → weight_of (congruent_tree coefs b c m) ≡ equality_weight b
weight-congruent false coefs c m = refl
weight-congruent true coefs c m = refl

weighs : (n m k : ℕ) (r : Result Progress ReadPred) → m ≡ k → Goes n m r → Goes n k r
weighs n m k r e h = subst (λ c. Goes n c r) e h

number_goes : (n charge : ℕ) (a : Around) (coefs : List ℤ) (r : Relation) (negative : Bool) (place : ℕ) (s : Symbol)
    → Rests n a charge → AreCoefs n coefs → Goes n (charge + charge_of_relation r + symbol_charge s) (number_step a coefs r negative place s)
number_goes n charge a coefs r negative place (Number digits) rests h =
    weighs n (charge + charge_of_relation r) (charge + charge_of_relation r + 0)
    (given_constant a coefs r negative place (value_within (limit_of r) (value_of_digits digits))) (omega arith)
    (with_constant_goes n charge a coefs r negative place (value_within (limit_of r) (value_of_digits digits)) rests h (within_limit (limit_of r) (value_of_digits digits)))
number_goes n charge a coefs r negative place s rests h = tt

constant_goes : (n charge : ℕ) (a : Around) (coefs : List ℤ) (r : Relation) (place : ℕ) (s : Symbol)
    → Rests n a charge → AreCoefs n coefs → Goes n (charge + charge_of_relation r + symbol_charge s) (constant_step a coefs r place s)
constant_goes n charge a coefs r place Minus rests h =
    weighs n (charge + charge_of_relation r) (charge + charge_of_relation r + 0) (Ok (going_on a (ANumber coefs r))) (omega arith)
    (sound-going_on n charge (charge_of_relation r) a (ANumber coefs r) rests h tt refl)
constant_goes n charge a coefs r place s rests h = number_goes n charge a coefs r false place s rests h

closed_goes : (n charge : ℕ) (above : List Span) (p : PredTree) (place : ℕ) → HasSpans n above → HasAtoms n p
    → spans_weight above + weight_of p ≡ charge → Goes n charge (close_step above p place)
closed_goes n charge [] p place h g w = tt
closed_goes n charge (span ∷ above) p place h g w =
    weighs n (spans_weight above + span_weight span + weight_of p) charge (Ok (progress_after_unit (record { above = above; span = span }) p)) (omega (arith, w))
    (sound-after_unit n (spans_weight above + span_weight span) (weight_of p) (record { above = above; span = span }) p
    (record { above = h.1; span = h.0; weight = refl }) g refl)

sign_goes : (n charge : ℕ) (above : List Span) (ors : Option PredTree) (p : PredTree) (place : ℕ) (s : Symbol)
    → HasSpans n above → HasOption n ors → HasAtoms n p → spans_weight above + option_weight ors + weight_of p ≡ charge
    → Goes n (charge + symbol_charge s) (sign_step above ors p place s)
sign_goes n charge above ors p place And h o g w =
    record { above = h; span = (o, g); next = tt; settled = tt; weight = omega (arith, w) }
sign_goes n charge above ors p place Or h o g w =
    record { above = h; span = (HasAtoms-disjoined n ors p o g, tt); next = tt; settled = tt; weight = (let whole = weight-disjoined ors p in omega (arith, whole, w)) }
sign_goes n charge above ors p place Close h o g w =
    closed_goes n (charge + 0) above (disjunction ors p) place h (HasAtoms-disjoined n ors p o g)
    (let whole = weight-disjoined ors p in omega (arith, whole, w))
sign_goes n charge above ors p place s h o g w = tt

equality_goes : (n charge : ℕ) (a : Around) (coefs : List ℤ) (unequal : Bool) (c : ℤ) (place : ℕ) (s : Symbol)
    → Rests n a charge → AreCoefs n coefs → IsConstant c
    → Goes n (charge + equality_weight unequal + symbol_charge s) (equality_step a coefs unequal c place s)
equality_goes n charge a coefs unequal c place s rests h g =
    let atoms = HasAtoms-negated_if n unequal (equality_tree coefs c) (HasAtoms-equality n coefs c h g) in
    sign_goes n (charge + equality_weight unequal) a.above a.span.ors (tree_up_to_unit a.span (negation_if unequal (equality_tree coefs c))) place s
    rests.above rests.span.0 (HasAtoms-up_to_unit n a.span (negation_if unequal (equality_tree coefs c)) rests.span atoms)
    (let whole = weight-up_to_unit a.span (negation_if unequal (equality_tree coefs c)) in
    let w = rests.weight in let own = weight-unequal unequal coefs c in omega (arith, whole, w, own))

modulo_goes : (n charge : ℕ) (a : Around) (coefs : List ℤ) (unequal : Bool) (c : ℤ) (place : ℕ) (s : Symbol)
    → Rests n a charge → AreCoefs n coefs → IsConstant c
    → Goes n (charge + equality_weight unequal + symbol_charge s) (modulo_step a coefs unequal c place s)
modulo_goes n charge a coefs unequal c place Mod rests h g =
    weighs n (charge + equality_weight unequal) (charge + equality_weight unequal + 0) (Ok (going_on a (AModulus coefs unequal c))) (omega arith)
    (sound-going_on n charge (equality_weight unequal) a (AModulus coefs unequal c) rests (h, g) tt refl)
modulo_goes n charge a coefs unequal c place s rests h g = equality_goes n charge a coefs unequal c place s rests h g

with_modulus_goes : (n charge : ℕ) (a : Around) (coefs : List ℤ) (unequal : Bool) (c : ℤ) (place : ℕ) (o : Option ℕ)
    → Rests n a charge → AreCoefs n coefs → IfSome o (λ m. m ≤ MODULUS_LIMIT) → Goes n (charge + equality_weight unequal) (given_modulus a coefs unequal c place o)
with_modulus_goes n charge a coefs unequal c place None rests h g = tt
with_modulus_goes n charge a coefs unequal c place (Some m) rests h g = by_test (ltb m 2) refl
  where
    by_test : (b : Bool) → ltb m 2 ≡ b
        → Goes n (charge + equality_weight unequal) (if b then Err (TooLarge place) else Ok (progress_after_unit a (congruent_tree coefs unequal c m)))
    by_test true e = tt
    by_test false e =
        sound-after_unit n charge (equality_weight unequal) a (congruent_tree coefs unequal c m) rests
        (HasAtoms-congruent n coefs unequal c m h (ltb-false m 2 e) g) (weight-congruent unequal coefs c m)

modulus_goes : (n charge : ℕ) (a : Around) (coefs : List ℤ) (unequal : Bool) (c : ℤ) (place : ℕ) (s : Symbol)
    → Rests n a charge → AreCoefs n coefs → Goes n (charge + equality_weight unequal + symbol_charge s) (modulus_step a coefs unequal c place s)
modulus_goes n charge a coefs unequal c place (Number digits) rests h =
    weighs n (charge + equality_weight unequal) (charge + equality_weight unequal + 0)
    (given_modulus a coefs unequal c place (value_within MODULUS_LIMIT (value_of_digits digits))) (omega arith)
    (with_modulus_goes n charge a coefs unequal c place (value_within MODULUS_LIMIT (value_of_digits digits)) rests h (within_limit MODULUS_LIMIT (value_of_digits digits)))
modulus_goes n charge a coefs unequal c place s rests h = tt

next_goes : (charge : ℕ) (names : List (List ℕ)) (a : Around) (next : Next) (place : ℕ) (s : Symbol)
    → Rests (length names) a charge → HasNext (length names) next → LeavesNoOperator a.span next → Goes (length names) (charge + next_weight next + symbol_charge s) (by_next names a next place s)
next_goes charge names a AUnit place s rests h settled =
    weighs (length names) (charge + symbol_charge s) (charge + 0 + symbol_charge s) (unit_step names a place s) (omega arith) (unit_goes charge names a place s rests)
next_goes charge names a (ATerm coefs negative) place s rests h settled =
    weighs (length names) (charge + symbol_charge s) (charge + 0 + symbol_charge s) (term_step names a coefs negative place s) (omega arith)
    (term_goes (length names) charge names a coefs negative place s rests h)
next_goes charge names a (AStar coefs factor) place s rests h settled =
    weighs (length names) (charge + symbol_charge s) (charge + 0 + symbol_charge s) (star_step a coefs factor place s) (omega arith)
    (star_goes (length names) charge a coefs factor place s rests h)
next_goes charge names a (AName coefs factor) place s rests h settled =
    weighs (length names) (charge + symbol_charge s) (charge + 0 + symbol_charge s) (name_step names a coefs factor place s) (omega arith)
    (name_goes (length names) charge names a coefs factor place s rests h)
next_goes charge names a (ARelation coefs) place s rests h settled =
    weighs (length names) (charge + symbol_charge s) (charge + 0 + symbol_charge s) (relation_step a coefs place s) (omega arith)
    (relation_goes (length names) charge a coefs place s rests h)
next_goes charge names a (AConstant coefs r) place s rests h settled = constant_goes (length names) charge a coefs r place s rests h
next_goes charge names a (ANumber coefs r) place s rests h settled = number_goes (length names) charge a coefs r true place s rests h
next_goes charge names a (AModulo coefs unequal c) place s rests h settled = modulo_goes (length names) charge a coefs unequal c place s rests h.0 h.1
next_goes charge names a (AModulus coefs unequal c) place s rests h settled = modulus_goes (length names) charge a coefs unequal c place s rests h.0
next_goes charge names a (ASign p) place s rests h settled =
    sign_goes (length names) (charge + weight_of p) a.above a.span.ors p place s rests.above rests.span.0 h
    (let w = rests.weight in let none = ap option_weight settled.0 in let nots = settled.1 in omega (arith, w, none, nots))

pub step_goes : (charge : ℕ) (names : List (List ℕ)) (p : Progress) (t : Placed)
    → IsSoundProgress (length names) p charge → Goes (length names) (charge + symbol_charge t.symbol) (step names p t)
unfolding step
step_goes charge names p t h =
    weighs (length names) (spans_weight p.around.above + span_weight p.around.span + next_weight p.next + symbol_charge t.symbol) (charge + symbol_charge t.symbol)
    (by_next names p.around p.next t.place t.symbol) (let w = h.weight in omega (arith, w))
    (next_goes (spans_weight p.around.above + span_weight p.around.span) names p.around p.next t.place t.symbol
    (record { above = h.above; span = h.span; weight = refl }) h.next h.settled)
