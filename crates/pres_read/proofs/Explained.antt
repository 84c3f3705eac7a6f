-- What is read keeps all rules, and each fault is that of a broken one.
use Rattle.pop_io.specs.declared.failure.Failure.{Failure}
use Rattle.pop_io.specs.declared.failure.Failure.TheVariants.{Fault, NoMemory}
use Rattle.pop_io.specs.Failures.{IfFault}
use Rattle.std.proofs.Common.{◌≡◌, ◌≤◌, inl, inr, ℕ, Bool, true, false, List, [], ◌∷◌, ◌++◌, length, ltb, Option, Some, None, IfOk, Result, Ok, Err, refl, sym, ap, subst, ◌∙◌, append_assoc, arith}
use Rattle.std.specs.Prelude.{if◌then◌else◌, ◌||◌, IfErr, IfSome}
use Rattle.std.proofs.lemmas.Bool.{ltb-true, ltb-false}
use Rattle.std.proofs.lemmas.List.{append-nil, map-append, append_cancel_right}
use Rattle.pres_ast.specs.declared.limits.TheConstants.{WEIGHT_LIMIT}
use Rattle.pres_ast.specs.PredTree.{PredTree}
use Rattle.pres_ast.specs.PredModel.{PredModel}
use Rattle.pres_tokens.specs.Symbols.{Symbol, Name, Number, Star, Placed}
use Rattle.pres_tokens.specs.Tokens.{tokens_of}
use Rattle.pres_read.specs.declared.fault.ReadPred.{ReadPred}
use Rattle.pres_read.specs.declared.fault.ReadPred.TheVariants.{Syntax, UnknownName, TooLarge, TooDeep, LongText}
use Rattle.pres_read.specs.declared.read.TheConstants.{TEXT_LIMIT}
use Rattle.pres_read.specs.declared.depth.TheConstants.{PARENTHESIS_LIMIT}
use Rattle.pres_read.specs.Outcome.{◌>>=◌, GivesParsed}
use Rattle.pres_read.specs.Progress.{AName, Progress, start}
use Rattle.pres_read.specs.Depth.{Depth, surface, deeper, sunk}
use Rattle.pres_read.specs.Reading.{step, finish, with_progress, run, over_names, pred_read}
use Rattle.pres_read.specs.Grammar.{bare, times}
use Rattle.pres_read.specs.Texts.{symbols_of, text_symbols, Begins, IsStuck, place_of}
use Rattle.pres_read.specs.Rules.{IsKnown, AreKnown, IsShallow, NumbersFit, KeepsRules, last_is, is_star}
use Rattle.pres_read.specs.Faults.{IsNumeral, IsSyntaxFault, IsUnknownName, IsTooLarge, IsTooDeep, IsReadFault}
use Rattle.pres_read.proofs.Traces.{Lead, begin, IUnit, ITerm, IStar, IName, IRelation, IConstant, INumber, IModulo, IModulus, Side, Trace, Inside, Done, begun, trace_step, trace_goes_by, trace_run, trace_end}
use Rattle.pres_read.proofs.Prefixes.{above_prefix, side_prefix, lead_prefix, prefix, prefix-run}
use Rattle.pres_read.proofs.Goes.{goes_on}
use Rattle.pres_read.proofs.Shows.{lead_coefs, lead_factor, shown, IsShown, Agrees, EndAgrees, step_agrees, finish_agrees}
use Rattle.pres_read.proofs.Outcomes.{going, stuck_law}
use Rattle.pres_read.proofs.Kept.{Kept, RuleAt}
use Rattle.pres_read.proofs.KeptRuns.{Fine, finish_fine}
use Rattle.pres_read.proofs.KnownNames.{Known, step_known}
use Rattle.pres_read.proofs.Opens.{term_free}
use Rattle.pres_read.proofs.Whole.{run_join, kept_push, numbers_fit}
use Rattle.pres_read.proofs.Breaks.{breaks}
use Rattle.pres_read.proofs.BrokenRules.{first_at, SaysAt, step_says, TermBegun, BegunAfter, step_begun}

-- ---- the rules on one symbol more, and on some less

abbrev depth_after : Depth → List Symbol → Depth
depth_after d [] = d
depth_after d (s ∷ ss) = depth_after (deeper d s) ss

depth_push : (d : Depth) (ss : List Symbol) (s : Symbol) → depth_after d (ss ++ s ∷ []) ≡ deeper (depth_after d ss) s
depth_push d [] s = refl
depth_push d (a ∷ ss) s = depth_push (deeper d a) ss s

abbrev Within : Depth → Type 0
Within d = (d.charge ≤ WEIGHT_LIMIT) × (d.parentheses ≤ PARENTHESIS_LIMIT)

shallow_push : (d : Depth) (ss : List Symbol) (s : Symbol) → IsShallow d ss → Within (deeper (depth_after d ss) s) → IsShallow d (ss ++ s ∷ [])
shallow_push d [] s h w = (w.0, w.1, tt)
shallow_push d (a ∷ ss) s h w = (h.0, h.1, shallow_push (deeper d a) ss s h.2 w)

shallow_last : (d : Depth) (ss : List Symbol) (s : Symbol) → IsShallow d (ss ++ s ∷ []) → Within (deeper (depth_after d ss) s)
shallow_last d [] s h = (h.0, h.1)
shallow_last d (a ∷ ss) s h = shallow_last (deeper d a) ss s h.2

shallow_part : (d : Depth) (xs ys : List Symbol) → IsShallow d (xs ++ ys) → IsShallow d xs
shallow_part d [] ys h = tt
shallow_part d (x ∷ xs) ys h = (h.0, h.1, shallow_part (deeper d x) xs ys h.2)

known_push : (names : List (List ℕ)) (ss : List Symbol) (s : Symbol) → AreKnown names ss → IsKnown names s → AreKnown names (ss ++ s ∷ [])
known_push names [] s h k = (k, tt)
known_push names (a ∷ ss) s h k = (h.0, known_push names ss s h.1 k)

known_part : (names : List (List ℕ)) (xs ys : List Symbol) → AreKnown names (xs ++ ys) → AreKnown names xs
known_part names [] ys h = tt
known_part names (x ∷ xs) ys h = (h.0, known_part names xs ys h.1)

numbers_part : (names : List (List ℕ)) (xs ys : List Symbol) → NumbersFit names (xs ++ ys) → NumbersFit names xs
numbers_part names xs ys fit = record {
  sums = λ before later sum e o. fit.sums before (later ++ ys) sum (ap (λ zs. zs ++ ys) e ∙ simp append_assoc) o;
  constants = λ before later r negative digits e. fit.constants before (later ++ ys) r negative digits (ap (λ zs. zs ++ ys) e ∙ simp append_assoc);
  moduli = λ before later digits e. fit.moduli before (later ++ ys) digits (ap (λ zs. zs ++ ys) e ∙ simp append_assoc);
}

keeps_part : (names : List (List ℕ)) (xs ys : List Symbol) → KeepsRules names (xs ++ ys) → KeepsRules names xs
keeps_part names xs ys keeps = record { known = known_part names xs ys keeps.known; numbers = numbers_part names xs ys keeps.numbers; shallow = shallow_part surface xs ys keeps.shallow }

-- ---- the reader's state

record Stands (names : List (List ℕ)) (before : List Placed) (p : Progress) (a : Trace) (d : Depth) : Type 0 where
  went : trace_run begun (symbols_of before) ≡ Some a
  rules : Kept names begun (symbols_of before)
  known : AreKnown names (symbols_of before)
  shallow : IsShallow surface (symbols_of before)
  depth : depth_after surface (symbols_of before) ≡ d
  first : ℕ
  shown_at : p ≡ shown names first a
  term : TermBegun p.next before

module _ (names : List (List ℕ)) (text : List ℕ) where
  keeps_at : (before : List Placed) (p : Progress) (a : Trace) (d : Depth) → Stands names before p a d → KeepsRules names (symbols_of before)
  keeps_at before p a d at = record { known = at.known; numbers = numbers_fit names (symbols_of before) a at.went at.rules; shallow = at.shallow }

  is_prefix : (before : List Placed) (p : Progress) (a : Trace) (d : Depth) → Stands names before p a d → prefix a ≡ symbols_of before
  is_prefix before p a d at = prefix-run begun a (symbols_of before) at.went

  went_on : (before : List Placed) (p : Progress) (a b : Trace) (d : Depth) (s : Symbol) → Stands names before p a d → trace_step a s ≡ Some b → trace_run begun (symbols_of before ++ s ∷ []) ≡ Some b
  went_on before p a b d s at e = run_join begun a (symbols_of before) (s ∷ []) at.went ∙ ap (λ o. trace_goes_by o (λ c. trace_run c [])) e

  begins_on : (before : List Placed) (p : Progress) (a b : Trace) (d : Depth) (s : Symbol) → Stands names before p a d → trace_step a s ≡ Some b → Begins (symbols_of before ++ s ∷ [])
  begins_on before p a b d s at e = subst Begins (prefix-run begun b (symbols_of before ++ s ∷ []) (went_on before p a b d s at e)) (goes_on b)

  pushed : (before : List Placed) (t : Placed) → symbols_of (before ++ t ∷ []) ≡ symbols_of before ++ t.symbol ∷ []
  pushed before t = map-append (λ (u : Placed). u.symbol) before (t ∷ [])

  stands_on : (before : List Placed) (p q : Progress) (a b : Trace) (d : Depth) (t : Placed) → Stands names before p a d → trace_step a t.symbol ≡ Some b → RuleAt names a t.symbol → IsKnown names t.symbol
      → IsShown names q b → TermBegun q.next (before ++ t ∷ []) → Within (deeper d t.symbol) → Stands names (before ++ t ∷ []) q b (deeper d t.symbol)
  stands_on before p q a b d t at e rule known is_shown term within =
      let on = sym (pushed before t) in
      let here : Within (deeper (depth_after surface (symbols_of before)) t.symbol) = subst (λ (x : Depth). Within (deeper x t.symbol)) (sym at.depth) within in
      record {
        went = subst (λ (ss : List Symbol). trace_run begun ss ≡ Some b) on (went_on before p a b d t.symbol at e);
        rules = subst (Kept names begun) on (kept_push names begun a (symbols_of before) t.symbol at.went at.rules rule (rw e tt));
        known = subst (AreKnown names) on (known_push names (symbols_of before) t.symbol at.known known);
        shallow = subst (IsShallow surface) on (shallow_push surface (symbols_of before) t.symbol at.shallow here);
        depth = ap (depth_after surface) (pushed before t) ∙ depth_push surface (symbols_of before) t.symbol ∙ ap (λ x. deeper x t.symbol) at.depth;
        first = is_shown.0;
        shown_at = is_shown.1;
        term = term;
      }

  -- ---- each fault

  abbrev Explains : Result PredTree ReadPred → Type 0
  Explains (Ok tree) = KeepsRules names (text_symbols text)
  Explains (Err e) = IsReadFault names text e

  -- a constant, a modulus or a name alone
  large_alone : (before ts : List Placed) (p : Progress) (a b : Trace) (d : Depth) (t : Placed) → tokens_of text ≡ before ++ t ∷ ts → Stands names before p a d → trace_step a t.symbol ≡ Some b → IsKnown names t.symbol
      → (RuleAt names a t.symbol → ⊥) → IsNumeral (symbols_of before) (t.symbol ∷ []) → IsTooLarge names text t.place
  large_alone before ts p a b d t tokens at e known broken number = record {
    before = before;
    own = t ∷ [];
    rest = ts;
    tokens = tokens;
    number = number;
    begins = begins_on before p a b d t.symbol at e;
    kept = keeps_at before p a d at;
    known = (known, tt);
    broken = λ fit. breaks names a t.symbol broken (subst (λ (ss : List Symbol). NumbersFit names (ss ++ t.symbol ∷ [])) (sym (is_prefix before p a d at)) fit);
    place = refl;
  }

  -- a name after `number *`
  abbrev NameTerm : Lead → List ℕ → ℕ → List Placed → Type 0
  NameTerm lead digits first before = TermBegun (AName (lead_coefs names lead) (lead_factor lead digits first)) before

  earlier_free : (before : List Placed) (p : Progress) (above : List Side) (side : Side) (lead : Lead) (digits : List ℕ) (d : Depth) (first : ℕ) → Stands names before p (Inside above side (IName lead digits)) d
      → (begun_at : NameTerm lead digits first before) → last_is is_star false (symbols_of begun_at.0) ≡ false
  earlier_free before p above side lead digits d first at begun_at =
      let split : symbols_of before ≡ symbols_of begun_at.0 ++ Number digits ∷ Star ∷ [] =
      ap symbols_of begun_at.3 ∙ map-append (λ (u : Placed). u.symbol) begun_at.0 (begun_at.1 ∷ begun_at.2 ∷ [])
      ∙ ap (λ s. symbols_of begun_at.0 ++ s ∷ begun_at.2.symbol ∷ []) begun_at.4 ∙ ap (λ s. symbols_of begun_at.0 ++ Number digits ∷ s ∷ []) begun_at.5 in
      let whole : above_prefix above ++ (side_prefix side ++ (lead_prefix lead ++ Number digits ∷ Star ∷ [])) ≡ (above_prefix above ++ (side_prefix side ++ lead_prefix lead)) ++ Number digits ∷ Star ∷ [] = simp append_assoc in
      let same : above_prefix above ++ (side_prefix side ++ lead_prefix lead) ≡ symbols_of begun_at.0 =
      append_cancel_right (above_prefix above ++ (side_prefix side ++ lead_prefix lead)) (symbols_of begun_at.0) (Number digits ∷ Star ∷ [])
      (sym whole ∙ is_prefix before p (Inside above side (IName lead digits)) d at ∙ split) in
      subst (λ (ss : List Symbol). last_is is_star false ss ≡ false) same (term_free above side lead)

  large_name : (before ts : List Placed) (p : Progress) (above : List Side) (side : Side) (lead : Lead) (digits word : List ℕ) (b : Trace) (d : Depth) (t : Placed) (first : ℕ) → tokens_of text ≡ before ++ t ∷ ts
      → Stands names before p (Inside above side (IName lead digits)) d → trace_step (Inside above side (IName lead digits)) t.symbol ≡ Some b → IsKnown names t.symbol
      → (RuleAt names (Inside above side (IName lead digits)) t.symbol → ⊥) → t.symbol ≡ Name word → NameTerm lead digits first before → IsTooLarge names text first
  large_name before ts p above side lead digits word b d t first tokens at e known broken is begun_at =
      let a = Inside above side (IName lead digits) in
      let own : symbols_of (begun_at.1 ∷ begun_at.2 ∷ t ∷ []) ≡ Number digits ∷ Star ∷ t.symbol ∷ [] =
      ap (λ s. s ∷ begun_at.2.symbol ∷ t.symbol ∷ []) begun_at.4 ∙ ap (λ s. Number digits ∷ s ∷ t.symbol ∷ []) begun_at.5 in
      let split : symbols_of before ≡ symbols_of begun_at.0 ++ begun_at.1.symbol ∷ begun_at.2.symbol ∷ [] =
      ap symbols_of begun_at.3 ∙ map-append (λ (u : Placed). u.symbol) begun_at.0 (begun_at.1 ∷ begun_at.2 ∷ []) in
      let joined : symbols_of before ++ t.symbol ∷ [] ≡ symbols_of begun_at.0 ++ symbols_of (begun_at.1 ∷ begun_at.2 ∷ t ∷ []) =
      ap (λ ss. ss ++ t.symbol ∷ []) split ∙ append_assoc (symbols_of begun_at.0) (begun_at.1.symbol ∷ begun_at.2.symbol ∷ []) (t.symbol ∷ []) in
      record {
        before = begun_at.0;
        own = begun_at.1 ∷ begun_at.2 ∷ t ∷ [];
        rest = ts;
        tokens = tokens ∙ ap (λ us. us ++ t ∷ ts) begun_at.3 ∙ append_assoc begun_at.0 (begun_at.1 ∷ begun_at.2 ∷ []) (t ∷ ts);
        number = inl (times digits word, own ∙ ap (λ s. Number digits ∷ Star ∷ s ∷ []) is, earlier_free before p above side lead digits d first at begun_at);
        begins = subst Begins joined (begins_on before p a b d t.symbol at e);
        kept = keeps_part names (symbols_of begun_at.0) (begun_at.1.symbol ∷ begun_at.2.symbol ∷ []) (subst (KeepsRules names) split (keeps_at before p a d at));
        known = subst (AreKnown names) (sym own) (tt, (tt, (known, tt)));
        broken = λ fit. breaks names a t.symbol broken (subst (NumbersFit names) (sym joined ∙ ap (λ ss. ss ++ t.symbol ∷ []) (sym (is_prefix before p a d at))) fit);
        place = begun_at.6;
      }

  -- a term that is a name alone
  lone_number : (before : List Placed) (p : Progress) (a : Trace) (d : Depth) (above : List Side) (side : Side) (lead : Lead) (word : List ℕ) (s : Symbol) → Stands names before p a d
      → prefix a ≡ above_prefix above ++ (side_prefix side ++ lead_prefix lead) → s ≡ Name word → IsNumeral (symbols_of before) (s ∷ [])
  lone_number before p a d above side lead word s at e is =
      inl (bare word, ap (λ x. x ∷ []) is, subst (λ (ss : List Symbol). last_is is_star false ss ≡ false) (sym e ∙ is_prefix before p a d at) (term_free above side lead))

  -- by what was read before
  large_by : (before ts : List Placed) (p : Progress) (a b : Trace) (d : Depth) (t : Placed) (s : Symbol) (at : Stands names before p a d) → tokens_of text ≡ before ++ t ∷ ts → t.symbol ≡ s → trace_step a s ≡ Some b → IsKnown names s
      → (RuleAt names a s → ⊥) → IsTooLarge names text (first_at a at.first t.place)
  large_by before ts p (Inside above side IUnit) b d t (Name word) at tokens is e known broken =
      large_alone before ts p (Inside above side IUnit) b d t tokens at (rw is e) (rw is known) (rw is broken) (lone_number before p (Inside above side IUnit) d above side (begin false) word t.symbol at refl is)
  large_by before ts p (Inside above side IUnit) b d t (Number digits) at tokens is e known broken = absurd (broken tt)
  large_by before ts p (Inside above side IUnit) b d t s at tokens is e known broken = absurd (broken tt)
  large_by before ts p (Inside above side (ITerm lead)) b d t (Name word) at tokens is e known broken =
      large_alone before ts p (Inside above side (ITerm lead)) b d t tokens at (rw is e) (rw is known) (rw is broken) (lone_number before p (Inside above side (ITerm lead)) d above side lead word t.symbol at refl is)
  large_by before ts p (Inside above side (ITerm lead)) b d t s at tokens is e known broken = absurd (broken tt)
  large_by before ts p (Inside above side (IStar lead digits)) b d t s at tokens is e known broken = absurd (broken tt)
  large_by before ts p (Inside above side (IName lead digits)) b d t (Name word) at tokens is e known broken =
      large_name before ts p above side lead digits word b d t at.first tokens at (rw is e) (rw is known) (rw is broken) is (subst (λ (q : Progress). TermBegun q.next before) at.shown_at at.term)
  large_by before ts p (Inside above side (IName lead digits)) b d t s at tokens is e known broken = absurd (broken tt)
  large_by before ts p (Inside above side (IRelation sum)) b d t s at tokens is e known broken = absurd (broken tt)
  large_by before ts p (Inside above side (IConstant sum r)) b d t (Number digits) at tokens is e known broken =
      large_alone before ts p (Inside above side (IConstant sum r)) b d t tokens at (rw is e) (rw is known) (rw is broken) (inr (digits, ap (λ x. x ∷ []) is))
  large_by before ts p (Inside above side (IConstant sum r)) b d t s at tokens is e known broken = absurd (broken tt)
  large_by before ts p (Inside above side (INumber sum r)) b d t (Number digits) at tokens is e known broken =
      large_alone before ts p (Inside above side (INumber sum r)) b d t tokens at (rw is e) (rw is known) (rw is broken) (inr (digits, ap (λ x. x ∷ []) is))
  large_by before ts p (Inside above side (INumber sum r)) b d t s at tokens is e known broken = absurd (broken tt)
  large_by before ts p (Inside above side (IModulo sum unequal negative digits)) b d t s at tokens is e known broken = absurd (broken tt)
  large_by before ts p (Inside above side (IModulus sum unequal negative digits)) b d t (Number modulus) at tokens is e known broken =
      large_alone before ts p (Inside above side (IModulus sum unequal negative digits)) b d t tokens at (rw is e) (rw is known) (rw is broken) (inr (modulus, ap (λ x. x ∷ []) is))
  large_by before ts p (Inside above side (IModulus sum unequal negative digits)) b d t s at tokens is e known broken = absurd (broken tt)
  large_by before ts p (Done above ors c) b d t s at tokens is e known broken = absurd (broken tt)

  deep : (before ts : List Placed) (p : Progress) (a b : Trace) (d : Depth) (t : Placed) → tokens_of text ≡ before ++ t ∷ ts → Stands names before p a d → trace_step a t.symbol ≡ Some b → (Within (deeper d t.symbol) → ⊥)
      → IsTooDeep names text t.place
  deep before ts p a b d t tokens at e broken = record {
    before = before;
    sign = t;
    rest = ts;
    tokens = tokens;
    begins = begins_on before p a b d t.symbol at e;
    kept = keeps_at before p a d at;
    broken = λ h. broken (subst (λ (x : Depth). Within (deeper x t.symbol)) at.depth (shallow_last surface (symbols_of before) t.symbol h));
    place = refl;
  }

  unknown : (before ts : List Placed) (p : Progress) (a b : Trace) (d : Depth) (t : Placed) (place : ℕ) → tokens_of text ≡ before ++ t ∷ ts → Stands names before p a d → trace_step a t.symbol ≡ Some b → (IsKnown names t.symbol → ⊥) → t.place ≡ place
      → IsUnknownName names text place
  unknown before ts p a b d t place tokens at e broken is = record {
    before = before;
    name = t;
    rest = ts;
    tokens = tokens;
    begins = begins_on before p a b d t.symbol at e;
    kept = keeps_at before p a d at;
    broken = broken;
    place = is;
  }

  -- ---- token by token

  depth_explains : (before ts : List Placed) (p q : Progress) (a b : Trace) (d : Depth) (t : Placed) → tokens_of text ≡ before ++ t ∷ ts → Stands names before p a d → trace_step a t.symbol ≡ Some b
      → (Within (deeper d t.symbol) → Explains (run names (length text) q (deeper d t.symbol) ts)) → Explains (going names (length text) ts (with_progress q (sunk d t)))
  depth_explains before ts p q a b d t tokens at e later = by_tests (ltb WEIGHT_LIMIT (deeper d t.symbol).charge) refl (ltb PARENTHESIS_LIMIT (deeper d t.symbol).parentheses) refl
    where
      by_tests : (x : Bool) → ltb WEIGHT_LIMIT (deeper d t.symbol).charge ≡ x → (y : Bool) → ltb PARENTHESIS_LIMIT (deeper d t.symbol).parentheses ≡ y
          → Explains (going names (length text) ts (with_progress q (if x || y then Err (TooDeep t.place) else Ok (deeper d t.symbol))))
      by_tests true x y z = let past = ltb-true WEIGHT_LIMIT (deeper d t.symbol).charge x in deep before ts p a b d t tokens at e (λ w. let most = w.0 in absurd (omega (arith, past, most)))
      by_tests false x true z = let past = ltb-true PARENTHESIS_LIMIT (deeper d t.symbol).parentheses z in deep before ts p a b d t tokens at e (λ w. let most = w.1 in absurd (omega (arith, past, most)))
      by_tests false x false z = later (ltb-false WEIGHT_LIMIT (deeper d t.symbol).charge x, ltb-false PARENTHESIS_LIMIT (deeper d t.symbol).parentheses z)

  syntax_at : (before rest : List Placed) (p : Progress) (a : Trace) (d : Depth) (at_place : ℕ) → tokens_of text ≡ before ++ rest → Stands names before p a d → IsStuck (symbols_of before) rest → place_of rest (length text) ≡ at_place
      → IsSyntaxFault names text at_place
  syntax_at before rest p a d place tokens at stuck is = record {
    before = before;
    rest = rest;
    tokens = tokens;
    begins = subst Begins (is_prefix before p a d at) (goes_on a);
    kept = keeps_at before p a d at;
    broken = stuck;
    place = is;
  }

  step_explains : (before ts : List Placed) (p : Progress) (a : Trace) (d : Depth) (t : Placed) (o : Option Trace) (r : Result Progress ReadPred) (at : Stands names before p a d) → tokens_of text ≡ before ++ t ∷ ts
      → trace_step a t.symbol ≡ o → Agrees names r o t.place → SaysAt names a at.first t.place t.symbol r → Known names t.symbol r → BegunAfter r (before ++ t ∷ [])
      → ((q : Progress) (b : Trace) → Stands names (before ++ t ∷ []) q b (deeper d t.symbol) → Explains (run names (length text) q (deeper d t.symbol) ts))
      → Explains (going names (length text) ts (r >>= λ q. with_progress q (sunk d t)))
  step_explains before ts p a d t None (Ok q) at tokens e agrees says known begun_on later = absurd agrees
  step_explains before ts p a d t (Some b) (Ok q) at tokens e agrees says known begun_on later =
      depth_explains before ts p q a b d t tokens at e (λ within. later q b (stands_on before p q a b d t at e says known agrees begun_on within))
  step_explains before ts p a d t o (Err (Syntax place)) at tokens e agrees says known begun_on later =
      syntax_at before (t ∷ ts) p a d place tokens at (stuck_law a (symbols_of before) (t ∷ ts) at.went (e ∙ agrees.0)) (sym agrees.1)
  step_explains before ts p a d t None (Err (UnknownName place)) at tokens e agrees says known begun_on later = absurd cc
  step_explains before ts p a d t (Some b) (Err (UnknownName place)) at tokens e agrees says known begun_on later = unknown before ts p a b d t place tokens at e says.0 says.1
  step_explains before ts p a d t None (Err (TooLarge place)) at tokens e agrees says known begun_on later = absurd cc
  step_explains before ts p a d t (Some b) (Err (TooLarge place)) at tokens e agrees says known begun_on later =
      subst (IsTooLarge names text) says.2 (large_by before ts p a b d t t.symbol at tokens refl e says.0 says.1)
  step_explains before ts p a d t o (Err (TooDeep place)) at tokens e agrees says known begun_on later = absurd says
  step_explains before ts p a d t o (Err (LongText n)) at tokens e agrees says known begun_on later = absurd agrees

  end_explains : (before : List Placed) (p : Progress) (a : Trace) (d : Depth) (r : Result PredTree ReadPred) → tokens_of text ≡ before → Stands names before p a d → EndAgrees names r (trace_end a) (length text) → Fine r → Explains r
  end_explains before p a d (Ok tree) tokens at agrees fine = subst (λ (us : List Placed). KeepsRules names (symbols_of us)) (sym tokens) (keeps_at before p a d at)
  end_explains before p a d (Err (Syntax place)) tokens at agrees fine =
      syntax_at before [] p a d place (tokens ∙ sym (append-nil before)) at (stuck_law a (symbols_of before) [] at.went agrees.0) (sym agrees.1)
  end_explains before p a d (Err (UnknownName place)) tokens at agrees fine = absurd fine
  end_explains before p a d (Err (TooLarge place)) tokens at agrees fine = absurd fine
  end_explains before p a d (Err (TooDeep place)) tokens at agrees fine = absurd fine
  end_explains before p a d (Err (LongText n)) tokens at agrees fine = absurd fine

  run_explains : (ts before : List Placed) (p : Progress) (a : Trace) (d : Depth) → tokens_of text ≡ before ++ ts → Stands names before p a d → Explains (run names (length text) p d ts)
  run_explains [] before p a d tokens at =
      end_explains before p a d (finish p (length text)) (tokens ∙ append-nil before) at (finish_agrees names p a (length text) (at.first, at.shown_at)) (finish_fine p (length text))
  run_explains (t ∷ ts) before p a d tokens at =
      step_explains before ts p a d t (trace_step a t.symbol) (step names p t) at tokens refl (step_agrees names p a t (at.first, at.shown_at)) (step_says names p a at.first t at.shown_at) (step_known names p t) (step_begun names p before t at.term)
      (λ q b on. run_explains ts (before ++ t ∷ []) q b (deeper d t.symbol) (tokens ∙ sym (append_assoc before (t ∷ []) ts)) on)

  abbrev ExplainsAll : Result PredModel ReadPred → Type 0
  ExplainsAll (Ok pred) = KeepsRules names (text_symbols text)
  ExplainsAll (Err e) = IsReadFault names text e

  over_explains : (r : Result PredTree ReadPred) → Explains r → ExplainsAll (over_names (length names) r)
  over_explains (Ok tree) h = h
  over_explains (Err e) h = h

  start_stands : Stands names [] start begun surface
  start_stands = record { went = refl; rules = tt; known = tt; shallow = tt; depth = refl; first = 0; shown_at = refl; term = tt }

  read_explains : ExplainsAll (pred_read names text)
  read_explains = by_length (ltb TEXT_LIMIT (length text)) refl
    where
      by_length : (b : Bool) → ltb TEXT_LIMIT (length text) ≡ b → ExplainsAll (over_names (length names) (if b then Err (LongText (length text)) else run names (length text) start surface (tokens_of text)))
      by_length true e = (refl, ltb-true TEXT_LIMIT (length text) e)
      by_length false e = over_explains (run names (length text) start surface (tokens_of text)) (run_explains (tokens_of text) [] start begun surface refl start_stands)

  -- the same for what a call gave, which may be out of memory
  pub given_rules : (r : Result PredModel (Failure ReadPred)) → GivesParsed (λ pred. pred) r (pred_read names text) → IfOk r (λ pred. KeepsRules names (text_symbols text))
  given_rules (Ok pred) h = subst ExplainsAll h read_explains
  given_rules (Err e) h = tt

  pub given_fault : (r : Result PredModel (Failure ReadPred)) → GivesParsed (λ pred. pred) r (pred_read names text) → IfFault r (IsReadFault names text)
  given_fault (Ok pred) h = tt
  given_fault (Err (Fault f)) h = subst ExplainsAll h read_explains
  given_fault (Err NoMemory) h = tt
