-- A symbol that breaks its rule on numbers ends a sum, a constant or a modulus that is outside its limits.
use Rattle.std.proofs.Common.{◌≡◌, ℕ, Bool, true, false, List, [], ◌∷◌, ◌++◌, sym, ap, ◌∙◌, append_assoc}
use Rattle.std.proofs.lemmas.List.{append-nil}
use Rattle.pres_tokens.specs.declared.token.Relation.{Relation}
use Rattle.pres_tokens.specs.Symbols.{Symbol, Name, Number, Minus, Star, Compare}
use Rattle.pres_read.specs.Grammar.{Term, bare, times, Sum, sum_symbols, term_symbols, constant_symbols, equal_or_not}
use Rattle.pres_read.specs.Rules.{TermFits, SumFits, NumbersFit}
use Rattle.pres_read.proofs.Traces.{Lead, begin, after, sum_with, IUnit, ITerm, IStar, IName, IRelation, IConstant, INumber, IModulo, IModulus, Side, Trace, Inside, Done}
use Rattle.pres_read.proofs.Shows.{lead_coefs, lead_negative}
use Rattle.pres_read.proofs.Prefixes.{side_prefix, above_prefix, lead_prefix, inner_prefix, prefix, symbols-sum_with}
use Rattle.pres_read.proofs.Kept.{RuleUnit, RuleInner, RuleAt}
use Rattle.pres_read.proofs.Opens.{unit_open}

last_fits : (names : List (List ℕ)) (lead : Lead) (term : Term) → SumFits names (sum_with lead term) → TermFits names (lead_coefs names lead) (lead_negative lead) term
last_fits names (begin negative) term f = f
last_fits names (after sum negative) term f = f.1

-- the last term of a sum
term_breaks : (names : List (List ℕ)) (above : List Side) (side : Side) (lead : Lead) (term : Term) (ss : List Symbol) → (TermFits names (lead_coefs names lead) (lead_negative lead) term → ⊥)
    → ss ≡ (above_prefix above ++ side_prefix side) ++ (lead_prefix lead ++ term_symbols term) → NumbersFit names ss → ⊥
term_breaks names above side lead term ss denied e fit =
    let own : lead_prefix lead ++ term_symbols term ≡ sum_symbols (sum_with lead term) ++ [] = sym (append-nil (sum_symbols (sum_with lead term)) ∙ symbols-sum_with lead term) in
    denied (last_fits names lead term (fit.sums (above_prefix above ++ side_prefix side) [] (sum_with lead term) (e ∙ ap (λ more. (above_prefix above ++ side_prefix side) ++ more) own) (unit_open above side)))

lead_breaks : (names : List (List ℕ)) (above : List Side) (side : Side) (lead : Lead) (s : Symbol) → (RuleUnit names lead s → ⊥)
    → NumbersFit names ((above_prefix above ++ (side_prefix side ++ lead_prefix lead)) ++ s ∷ []) → ⊥
lead_breaks names above side lead (Name word) denied fit =
    term_breaks names above side lead (bare word) ((above_prefix above ++ (side_prefix side ++ lead_prefix lead)) ++ Name word ∷ []) denied (simp append_assoc) fit
lead_breaks names above side lead s denied fit = denied tt

name_breaks : (names : List (List ℕ)) (above : List Side) (side : Side) (lead : Lead) (digits : List ℕ) (s : Symbol) → (RuleInner names (IName lead digits) s → ⊥)
    → NumbersFit names ((above_prefix above ++ (side_prefix side ++ (lead_prefix lead ++ Number digits ∷ Star ∷ []))) ++ s ∷ []) → ⊥
name_breaks names above side lead digits (Name word) denied fit =
    term_breaks names above side lead (times digits word) ((above_prefix above ++ (side_prefix side ++ (lead_prefix lead ++ Number digits ∷ Star ∷ []))) ++ Name word ∷ []) denied (simp append_assoc) fit
name_breaks names above side lead digits s denied fit = denied tt

constant_breaks : (names : List (List ℕ)) (above : List Side) (side : Side) (sum : Sum) (r : Relation) (s : Symbol) → (RuleInner names (IConstant sum r) s → ⊥)
    → NumbersFit names ((above_prefix above ++ (side_prefix side ++ (sum_symbols sum ++ Compare r ∷ []))) ++ s ∷ []) → ⊥
constant_breaks names above side sum r (Number digits) denied fit = denied (fit.constants (above_prefix above ++ (side_prefix side ++ sum_symbols sum)) [] r false digits (simp append_assoc))
constant_breaks names above side sum r s denied fit = denied tt

number_breaks : (names : List (List ℕ)) (above : List Side) (side : Side) (sum : Sum) (r : Relation) (s : Symbol) → (RuleInner names (INumber sum r) s → ⊥)
    → NumbersFit names ((above_prefix above ++ (side_prefix side ++ (sum_symbols sum ++ Compare r ∷ Minus ∷ []))) ++ s ∷ []) → ⊥
number_breaks names above side sum r (Number digits) denied fit = denied (fit.constants (above_prefix above ++ (side_prefix side ++ sum_symbols sum)) [] r true digits (simp append_assoc))
number_breaks names above side sum r s denied fit = denied tt

modulus_breaks : (names : List (List ℕ)) (above : List Side) (side : Side) (sum : Sum) (unequal negative : Bool) (digits : List ℕ) (s : Symbol) → (RuleInner names (IModulus sum unequal negative digits) s → ⊥)
    → NumbersFit names ((above_prefix above ++ (side_prefix side ++ inner_prefix (IModulus sum unequal negative digits))) ++ s ∷ []) → ⊥
modulus_breaks names above side sum unequal negative digits (Number modulus) denied fit =
    denied (fit.moduli (above_prefix above ++ (side_prefix side ++ (sum_symbols sum ++ Compare (equal_or_not unequal) ∷ constant_symbols negative digits))) [] modulus (simp append_assoc))
modulus_breaks names above side sum unequal negative digits s denied fit = denied tt

pub breaks : (names : List (List ℕ)) (a : Trace) (s : Symbol) → (RuleAt names a s → ⊥) → NumbersFit names (prefix a ++ s ∷ []) → ⊥
breaks names (Inside above side IUnit) s denied fit = lead_breaks names above side (begin false) s denied fit
breaks names (Inside above side (ITerm lead)) s denied fit = lead_breaks names above side lead s denied fit
breaks names (Inside above side (IStar lead digits)) s denied fit = denied tt
breaks names (Inside above side (IName lead digits)) s denied fit = name_breaks names above side lead digits s denied fit
breaks names (Inside above side (IRelation sum)) s denied fit = denied tt
breaks names (Inside above side (IConstant sum r)) s denied fit = constant_breaks names above side sum r s denied fit
breaks names (Inside above side (INumber sum r)) s denied fit = number_breaks names above side sum r s denied fit
breaks names (Inside above side (IModulo sum unequal negative digits)) s denied fit = denied tt
breaks names (Inside above side (IModulus sum unequal negative digits)) s denied fit = modulus_breaks names above side sum unequal negative digits s denied fit
breaks names (Done above ors c) s denied fit = denied tt
