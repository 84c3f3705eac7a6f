-- If the rules are kept, only faults of syntax occur, and so a text of the grammar is read.
use Rattle.pop_io.specs.declared.failure.Failure.{Failure}
use Rattle.std.proofs.Common.{◌≡◌, ℕ, ◌≤◌, Bool, true, false, List, [], ◌∷◌, length, ltb, Option, Some, None, Result, Ok, Err, refl, sym, ap, subst, arith, ℤ, pos, ◌+ℤ◌, nat_abs, position, get_or, slice_set}
use Rattle.std.specs.Prelude.{if◌then◌else◌, ◌||◌}
use Rattle.std.specs.Str.{bytes_eq}
use Rattle.std.proofs.lemmas.Bool.{ltb-true}
use Rattle.pres_ast.specs.declared.limits.TheConstants.{COEFFICIENT_LIMIT, MODULUS_LIMIT, WEIGHT_LIMIT}
use Rattle.pres_read.specs.declared.read.TheConstants.{TEXT_LIMIT}
use Rattle.pres_read.specs.declared.depth.TheConstants.{PARENTHESIS_LIMIT}
use Rattle.pres_ast.specs.PredTree.{PredTree}
use Rattle.pres_ast.specs.PredModel.{PredModel}
use Rattle.pres_tokens.specs.declared.token.Relation.{Relation}
use Rattle.pres_tokens.specs.Symbols.{Symbol, Name, Number, Plus, Minus, Star, Compare, And, Or, Not, Open, Close, Mod, Placed}
use Rattle.pres_tokens.specs.Tokens.{tokens_of}
use Rattle.pres_read.specs.declared.fault.ReadPred.{ReadPred}
use Rattle.pop_io.specs.declared.failure.Failure.TheVariants.{Fault, NoMemory}
use Rattle.pres_read.specs.declared.fault.ReadPred.TheVariants.{Syntax, UnknownName, TooLarge, TooDeep, LongText}
use Rattle.pres_read.specs.Outcome.{◌>>=◌, GivesParsed}
use Rattle.pres_read.specs.Numbers.{value_of_digits, value_within}
use Rattle.pres_read.specs.Atoms.{signed_number, negation_if, equality_tree, limit_of, Factor, lone, with_coef_at, with_number, with_term, added}
use Rattle.pres_read.specs.Progress.{Span, Around, Next, AUnit, ATerm, AStar, AName, ARelation, AConstant, ANumber, AModulo, AModulus, ASign, Progress, start}
use Rattle.pres_read.specs.Depth.{Depth, surface, deeper, within_depth, sunk}
use Rattle.pres_read.specs.Reading.{after_sum, term_step, unit_step, star_step, name_step, relation_step, given_constant, number_step, constant_step, given_modulus, modulus_step, close_step, sign_step, tree_up_to_unit, modulo_step, by_next, step, end_step, finish_by, finish, with_progress, run, over_names, pred_read}
use Rattle.pres_read.specs.Grammar.{APred, Phrase, symbols, coefs_of, meaning}
use Rattle.pres_read.specs.Texts.{symbols_of, text_symbols, IsReadTo}
use Rattle.pres_read.specs.Rules.{CoefFits, Fits, IsShallow}
use Rattle.pres_read.proofs.Traces.{Lead, begin, Inner, IUnit, ITerm, IStar, IName, IRelation, IConstant, INumber, IModulo, IModulus, Trace, Inside, Done, begun, trace_step}
use Rattle.pres_read.proofs.Shows.{side_spans, around_side, lead_coefs, lead_negative, lead_factor, inner_next, shown, IsShown, Agrees, step_agrees, start_shown}
use Rattle.pres_read.proofs.Kept.{RuleUnit, RuleName, RuleConstant, RuleModulus, RuleInner, RuleAt, KeptAfter, Kept, kept_symbols}
use Rattle.pres_read.proofs.Outcomes.{Comes, run_comes, only_law, never_law, going}

abbrev Went : {X : Type 0} → Result X ReadPred → Type 0
Went (Ok x) = Unit {0}
Went (Err e) = ⊥

-- no fault, or one of syntax
abbrev pub Fine : {X : Type 0} → Result X ReadPred → Type 0
Fine (Ok x) = Unit {0}
Fine (Err (Syntax at)) = Unit {0}
Fine (Err (UnknownName at)) = ⊥
Fine (Err (TooLarge at)) = ⊥
Fine (Err (TooDeep at)) = ⊥
Fine (Err (LongText n)) = ⊥

coef_went : (coefs : List ℤ) (i : ℕ) (z : ℤ) (place : ℕ) → nat_abs z ≤ COEFFICIENT_LIMIT → Went (with_coef_at coefs i z place)
coef_went coefs i z place h = by_test (ltb COEFFICIENT_LIMIT (nat_abs z)) refl
  where
    by_test : (b : Bool) → ltb COEFFICIENT_LIMIT (nat_abs z) ≡ b → Went {X = List ℤ} (if b then Err (TooLarge place) else Ok (slice_set coefs i z))
    by_test true e = let past = ltb-true COEFFICIENT_LIMIT (nat_abs z) e in absurd (omega (arith, past, h))
    by_test false e = tt

number_went : (coefs : List ℤ) (i : ℕ) (factor : Factor) (limit v : ℕ) → v ≤ limit → nat_abs (get_or coefs i (pos 0) +ℤ signed_number factor.negative v) ≤ COEFFICIENT_LIMIT
    → Went (with_number coefs i factor (value_within limit v))
number_went coefs i factor limit v h g = by_test (ltb limit v) refl
  where
    by_test : (b : Bool) → ltb limit v ≡ b → Went (with_number coefs i factor (if b then None else Some v))
    by_test true e = let past = ltb-true limit v e in absurd (omega (arith, past, h))
    by_test false e = coef_went coefs i (get_or coefs i (pos 0) +ℤ signed_number factor.negative v) factor.place g

term_went : (coefs : List ℤ) (o : Option ℕ) (factor : Factor) (place : ℕ) → value_of_digits factor.digits ≤ COEFFICIENT_LIMIT → CoefFits coefs o (signed_number factor.negative (value_of_digits factor.digits)) → Went (with_term coefs o factor place)
term_went coefs None factor place h g = absurd g
term_went coefs (Some i) factor place h g = number_went coefs i factor COEFFICIENT_LIMIT (value_of_digits factor.digits) h g

sum_fine : (a : Around) (r : Result (List ℤ) ReadPred) → Went r → Fine (after_sum a r)
sum_fine a (Ok coefs) h = tt
sum_fine a (Err e) h = absurd h

unit_term_fine : (names : List (List ℕ)) (a : Around) (lead : Lead) (place : ℕ) (s : Symbol) → RuleUnit names lead s
    → Fine (term_step names a (lead_coefs names lead) (lead_negative lead) place s)
unit_term_fine names a lead place (Name word) h =
    sum_fine a (added names (lead_coefs names lead) (lone (lead_negative lead) place) place word)
    (term_went (lead_coefs names lead) (position (bytes_eq word) names) (lone (lead_negative lead) place) place h.0 h.1)
unit_term_fine names a lead place s h = tt

unit_fine : (names : List (List ℕ)) (a : Around) (place : ℕ) (s : Symbol) → RuleUnit names (begin false) s → Fine (unit_step names a place s)
unit_fine names a place Not h = tt
unit_fine names a place Open h = tt
unit_fine names a place Minus h = tt
unit_fine names a place s h = unit_term_fine names a (begin false) place s h

star_fine : (a : Around) (coefs : List ℤ) (factor : Factor) (place : ℕ) (s : Symbol) → Fine (star_step a coefs factor place s)
star_fine a coefs factor place Star = tt
star_fine a coefs factor place s = tt

name_fine : (names : List (List ℕ)) (a : Around) (lead : Lead) (digits : List ℕ) (at place : ℕ) (s : Symbol) → RuleName names lead digits s
    → Fine (name_step names a (lead_coefs names lead) (lead_factor lead digits at) place s)
name_fine names a lead digits at place (Name word) h =
    sum_fine a (added names (lead_coefs names lead) (lead_factor lead digits at) place word)
    (term_went (lead_coefs names lead) (position (bytes_eq word) names) (lead_factor lead digits at) place h.0 h.1)
name_fine names a lead digits at place s h = tt

relation_fine : (a : Around) (coefs : List ℤ) (place : ℕ) (s : Symbol) → Fine (relation_step a coefs place s)
relation_fine a coefs place Plus = tt
relation_fine a coefs place Minus = tt
relation_fine a coefs place (Compare r) = tt
relation_fine a coefs place s = tt

number_fine : (a : Around) (coefs : List ℤ) (r : Relation) (negative : Bool) (place : ℕ) (s : Symbol) → RuleConstant r s → Fine (number_step a coefs r negative place s)
number_fine a coefs r negative place (Number digits) h = by_test (ltb (limit_of r) (value_of_digits digits)) refl
  where
    by_test : (b : Bool) → ltb (limit_of r) (value_of_digits digits) ≡ b → Fine (given_constant a coefs r negative place (if b then None else Some (value_of_digits digits)))
    by_test true e = let past = ltb-true (limit_of r) (value_of_digits digits) e in absurd (omega (arith, past, h))
    by_test false e = tt
number_fine a coefs r negative place s h = tt

constant_fine : (a : Around) (coefs : List ℤ) (r : Relation) (place : ℕ) (s : Symbol) → RuleConstant r s → Fine (constant_step a coefs r place s)
constant_fine a coefs r place Minus h = tt
constant_fine a coefs r place s h = number_fine a coefs r false place s h

closed_fine : (above : List Span) (p : PredTree) (place : ℕ) → Fine (close_step above p place)
closed_fine [] p place = tt
closed_fine (span ∷ above) p place = tt

sign_fine : (above : List Span) (ors : Option PredTree) (p : PredTree) (place : ℕ) (s : Symbol) → Fine (sign_step above ors p place s)
sign_fine above ors p place And = tt
sign_fine above ors p place Or = tt
sign_fine above ors p place Close = closed_fine above _ place
sign_fine above ors p place s = tt

modulo_fine : (a : Around) (coefs : List ℤ) (unequal : Bool) (c : ℤ) (place : ℕ) (s : Symbol) → Fine (modulo_step a coefs unequal c place s)
modulo_fine a coefs unequal c place Mod = tt
modulo_fine a coefs unequal c place s = sign_fine a.above a.span.ors (tree_up_to_unit a.span (negation_if unequal (equality_tree coefs c))) place s

modulus_fine : (a : Around) (coefs : List ℤ) (unequal : Bool) (c : ℤ) (place : ℕ) (s : Symbol) → RuleModulus s → Fine (modulus_step a coefs unequal c place s)
modulus_fine a coefs unequal c place (Number digits) h = by_test (ltb MODULUS_LIMIT (value_of_digits digits)) refl (ltb (value_of_digits digits) 2) refl
  where
    by_test : (b : Bool) → ltb MODULUS_LIMIT (value_of_digits digits) ≡ b → (small : Bool) → ltb (value_of_digits digits) 2 ≡ small → Fine (given_modulus a coefs unequal c place (if b then None else Some (value_of_digits digits)))
    by_test true e small f = let past = ltb-true MODULUS_LIMIT (value_of_digits digits) e in let most = h.1 in absurd (omega (arith, past, most))
    by_test false e true f = let past = ltb-true (value_of_digits digits) 2 f in let least = h.0 in absurd (omega (arith, past, least))
    by_test false e false f = rw f tt
modulus_fine a coefs unequal c place s h = tt

inner_fine : (names : List (List ℕ)) (a : Around) (inner : Inner) (at place : ℕ) (s : Symbol) → RuleInner names inner s
    → Fine (by_next names a (inner_next names at inner) place s)
inner_fine names a IUnit at place s h = unit_fine names a place s h
inner_fine names a (ITerm lead) at place s h = unit_term_fine names a lead place s h
inner_fine names a (IStar lead digits) at place s h = star_fine a (lead_coefs names lead) (lead_factor lead digits at) place s
inner_fine names a (IName lead digits) at place s h = name_fine names a lead digits at place s h
inner_fine names a (IRelation sum) at place s h = relation_fine a (coefs_of names sum) place s
inner_fine names a (IConstant sum r) at place s h = constant_fine a (coefs_of names sum) r place s h
inner_fine names a (INumber sum r) at place s h = number_fine a (coefs_of names sum) r true place s h
inner_fine names a (IModulo sum unequal negative digits) at place s h = modulo_fine a (coefs_of names sum) unequal (signed_number negative (value_of_digits digits)) place s
inner_fine names a (IModulus sum unequal negative digits) at place s h = modulus_fine a (coefs_of names sum) unequal (signed_number negative (value_of_digits digits)) place s h

shown_fine : (names : List (List ℕ)) (a : Trace) (at : ℕ) (t : Placed) → RuleAt names a t.symbol → Fine (step names (shown names at a) t)
unfolding step
shown_fine names (Inside above side inner) at t h = inner_fine names (around_side names above side) inner at t.place t.symbol h
shown_fine names (Done above ors c) at t h = sign_fine (side_spans names above) _ _ t.place t.symbol

step_fine : (names : List (List ℕ)) (p : Progress) (a : Trace) (t : Placed) → IsShown names p a → RuleAt names a t.symbol → Fine (step names p t)
step_fine names p a t h k = subst (λ (q : Progress). Fine (step names q t)) (sym h.1) (shown_fine names a h.0 t k)

ended_fine : (above : List Span) (ors : Option PredTree) (p : PredTree) (end : ℕ) → Fine (end_step above ors p end)
ended_fine [] ors p end = tt
ended_fine (span ∷ above) ors p end = tt

finish_by_fine : (a : Around) (next : Next) (end : ℕ) → Fine (finish_by a next end)
finish_by_fine a AUnit end = tt
finish_by_fine a (ATerm coefs negative) end = tt
finish_by_fine a (AStar coefs factor) end = tt
finish_by_fine a (AName coefs factor) end = tt
finish_by_fine a (ARelation coefs) end = tt
finish_by_fine a (AConstant coefs r) end = tt
finish_by_fine a (ANumber coefs r) end = tt
finish_by_fine a (AModulo coefs unequal c) end = ended_fine a.above a.span.ors (tree_up_to_unit a.span (negation_if unequal (equality_tree coefs c))) end
finish_by_fine a (AModulus coefs unequal c) end = tt
finish_by_fine a (ASign p) end = ended_fine a.above a.span.ors p end

pub finish_fine : (p : Progress) (end : ℕ) → Fine (finish p end)
unfolding finish
finish_fine p end = finish_by_fine p.around p.next end

deep_fine : (names : List (List ℕ)) (end : ℕ) (t : Placed) (ts : List Placed) (q : Progress) (d : Depth) → d.charge ≤ WEIGHT_LIMIT → d.parentheses ≤ PARENTHESIS_LIMIT
    → Fine (run names end q d ts) → Fine (going names end ts (with_progress q (within_depth t d)))
deep_fine names end t ts q d c p h = by_tests (ltb WEIGHT_LIMIT d.charge) refl (ltb PARENTHESIS_LIMIT d.parentheses) refl
  where
    by_tests : (b : Bool) → ltb WEIGHT_LIMIT d.charge ≡ b → (e : Bool) → ltb PARENTHESIS_LIMIT d.parentheses ≡ e → Fine (going names end ts (with_progress q (if b || e then Err (TooDeep t.place) else Ok d)))
    by_tests true x e y = let past = ltb-true WEIGHT_LIMIT d.charge x in absurd (omega (arith, past, c))
    by_tests false x true y = let past = ltb-true PARENTHESIS_LIMIT d.parentheses y in absurd (omega (arith, past, p))
    by_tests false x false y = h

step_run_fine : (names : List (List ℕ)) (end : ℕ) (t : Placed) (ts : List Placed) (d : Depth) (o : Option Trace) (r : Result Progress ReadPred)
    → Agrees names r o t.place → Fine r → KeptAfter o (λ b. Kept names b (symbols_of ts)) → (deeper d t.symbol).charge ≤ WEIGHT_LIMIT → (deeper d t.symbol).parentheses ≤ PARENTHESIS_LIMIT
    → ((q : Progress) (b : Trace) → IsShown names q b → Kept names b (symbols_of ts) → Fine (run names end q (deeper d t.symbol) ts))
    → Fine (going names end ts (r >>= λ q. with_progress q (sunk d t)))
step_run_fine names end t ts d None (Ok q) agrees fine kept c p later = absurd agrees
step_run_fine names end t ts d (Some b) (Ok q) agrees fine kept c p later = deep_fine names end t ts q (deeper d t.symbol) c p (later q b agrees kept)
step_run_fine names end t ts d o (Err (Syntax at)) agrees fine kept c p later = tt
step_run_fine names end t ts d o (Err (UnknownName at)) agrees fine kept c p later = absurd fine
step_run_fine names end t ts d o (Err (TooLarge at)) agrees fine kept c p later = absurd fine
step_run_fine names end t ts d o (Err (TooDeep at)) agrees fine kept c p later = absurd fine
step_run_fine names end t ts d o (Err (LongText n)) agrees fine kept c p later = absurd fine

run_fine : (names : List (List ℕ)) (end : ℕ) (ts : List Placed) (p : Progress) (a : Trace) (d : Depth) → IsShown names p a → Kept names a (symbols_of ts) → IsShallow d (symbols_of ts)
    → Fine (run names end p d ts)
run_fine names end [] p a d h k deep = finish_fine p end
run_fine names end (t ∷ ts) p a d h k deep =
    step_run_fine names end t ts d (trace_step a t.symbol) (step names p t) (step_agrees names p a t h) (step_fine names p a t h k.0) k.1 deep.0 deep.1
    (λ q b s l. run_fine names end ts q b (deeper d t.symbol) s l deep.2)

read_fine : (names : List (List ℕ)) (text : List ℕ) (p : Phrase APred) (r : Result PredTree ReadPred) → symbols p ≡ text_symbols text
    → Comes names begun (tokens_of text) (length text) r → Fine r → r ≡ Ok (meaning names p)
read_fine names text p (Ok tree) e comes fine = ap Ok (only_law names (tokens_of text) tree (meaning names p) comes (record { phrase = p; spelled = e; means = refl }))
read_fine names text p (Err (Syntax at)) e comes fine =
    absurd (never_law names (tokens_of text) (length text) at (meaning names p) comes (record { phrase = p; spelled = e; means = refl }))
read_fine names text p (Err (UnknownName at)) e comes fine = absurd fine
read_fine names text p (Err (TooLarge at)) e comes fine = absurd fine
read_fine names text p (Err (TooDeep at)) e comes fine = absurd fine
read_fine names text p (Err (LongText n)) e comes fine = absurd fine

-- a text of the grammar that keeps the rules is read as its tree
pub kept_read : (names : List (List ℕ)) (text : List ℕ) (p : Phrase APred) → symbols p ≡ text_symbols text → length text ≤ TEXT_LIMIT → Fits names p → IsShallow surface (text_symbols text)
    → pred_read names text ≡ Ok (record { variables = length names; tree = meaning names p })
kept_read names text p e short fits shallow =
    let kept : Kept names begun (text_symbols text) = subst (Kept names begun) e (kept_symbols names p fits) in
    let fine : Fine (run names (length text) start surface (tokens_of text)) = run_fine names (length text) (tokens_of text) start begun surface (start_shown names) kept shallow in
    let read = read_fine names text p (run names (length text) start surface (tokens_of text)) e (run_comes names (length text) (tokens_of text) start begun surface (start_shown names)) fine in
    by_length (ltb TEXT_LIMIT (length text)) refl read
  where
    by_length : (b : Bool) → ltb TEXT_LIMIT (length text) ≡ b → run names (length text) start surface (tokens_of text) ≡ Ok (meaning names p)
        → over_names (length names) (if b then Err (LongText (length text)) else run names (length text) start surface (tokens_of text)) ≡ Ok (record { variables = length names; tree = meaning names p })
    by_length true x read = let past = ltb-true TEXT_LIMIT (length text) x in absurd (omega (arith, past, short))
    by_length false x read = ap (over_names (length names)) read

-- the same for what a call gave, which may be out of memory
pub given_kept : (names : List (List ℕ)) (text : List ℕ) (tree : PredTree) (r : Result PredModel (Failure ReadPred)) → GivesParsed (λ pred. pred) r (pred_read names text)
    → pred_read names text ≡ Ok (record { variables = length names; tree = tree }) → IsReadTo tree r
given_kept names text tree (Ok pred) h e =
    let same : pred ≡ record { variables = length names; tree = tree } = cc in ap (λ (p : PredModel). p.tree) same
given_kept names text tree (Err (Fault f)) h e = cc
given_kept names text tree (Err NoMemory) h e = tt
