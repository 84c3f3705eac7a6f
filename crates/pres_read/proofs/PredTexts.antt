-- A text is read as a predicate exactly when the grammar gives it this meaning within the limits.
use Rattle.pop_io.specs.declared.failure.Failure.{Failure}
use Rattle.std.proofs.Common.{◌≡◌, ℕ, ◌≤◌, Bool, true, false, List, [], ◌∷◌, ◌++◌, length, ltb, Result, Ok, Err, refl, sym, ap, ◌∙◌, arith, append_assoc, append-nil}
use Rattle.std.specs.Prelude.{IfOk, if◌then◌else◌}
use Rattle.std.proofs.lemmas.Bool.{ltb-false}
use Rattle.pres_ast.specs.PredTree.{PredTree}
use Rattle.pres_ast.specs.PredModel.{PredModel}
use Rattle.pres_tokens.specs.Symbols.{Symbol, Number, Compare, And, Or, Not, Open, Close, Mod}
use Rattle.pres_tokens.specs.Tokens.{tokens_of}
use Rattle.pres_read.specs.declared.read.TheConstants.{TEXT_LIMIT}
use Rattle.pres_read.specs.declared.fault.ReadPred.{ReadPred}
use Rattle.pres_read.specs.declared.fault.ReadPred.TheVariants.{LongText}
use Rattle.pres_read.specs.Outcome.{GivesParsed}
use Rattle.pres_read.specs.Progress.{start}
use Rattle.pres_read.specs.Depth.{surface}
use Rattle.pres_read.specs.Reading.{run, over_names, pred_read}
use Rattle.pres_read.specs.Grammar.{Atom, relational, modular, Part, Phrase, conj, either, unit, both, negate, group, atom, symbols, sum_symbols, equal_or_not, constant_symbols}
use Rattle.pres_read.specs.Rules.{AtomFits, Fits, last_is, opens, NumbersFit, KeepsRules}
use Rattle.pres_read.specs.Texts.{text_symbols}
use Rattle.pres_read.specs.PredText.{IsTextOf}
use Rattle.pres_read.proofs.KeptRuns.{kept_read}
use Rattle.pres_read.proofs.Outcomes.{given_laws}
use Rattle.pres_read.proofs.Explained.{given_rules}

-- the last of some symbols and one more
last_more : (before : List Symbol) (s : Symbol) → last_is opens true (before ++ s ∷ []) ≡ opens s
last_more [] s = refl
last_more (t ∷ []) s = refl
last_more (t ∷ u ∷ before) s = last_more (u ∷ before) s

module _ (names : List (List ℕ)) (ss : List Symbol) (numbers : NumbersFit names ss) where
  atom_fits : (a : Atom) (before later : List Symbol) → ss ≡ before ++ (symbols (atom a) ++ later) → last_is opens true before ≡ true → AtomFits names a
  atom_fits (relational sum relation negative digits) before later is begins =
      let constant = constant_symbols negative digits in
      let rest = Compare relation ∷ (constant ++ later) in
      let parts : ss ≡ before ++ (sum_symbols sum ++ rest) =
      is ∙ ap (λ (t : List Symbol). before ++ t) (append_assoc (sum_symbols sum) (Compare relation ∷ constant) later) in (
        numbers.sums before rest sum parts begins,
        numbers.constants (before ++ sum_symbols sum) later relation negative digits (parts ∙ sym (append_assoc before (sum_symbols sum) rest)),
      )
  atom_fits (modular sum unequal negative digits modulus) before later is begins =
      let constant = constant_symbols negative digits in
      let relation = equal_or_not unequal in
      let tail = Mod ∷ Number modulus ∷ later in
      let rest = Compare relation ∷ (constant ++ tail) in
      let parts : ss ≡ before ++ (sum_symbols sum ++ rest) =
      is
      ∙ ap (λ (t : List Symbol). before ++ t) (append_assoc (sum_symbols sum) (Compare relation ∷ (constant ++ Mod ∷ Number modulus ∷ [])) later)
      ∙ ap (λ (t : List Symbol). before ++ (sum_symbols sum ++ Compare relation ∷ t)) (append_assoc constant (Mod ∷ Number modulus ∷ []) later) in
      let at_relation : ss ≡ (before ++ sum_symbols sum) ++ rest = parts ∙ sym (append_assoc before (sum_symbols sum) rest) in
      let front = (before ++ sum_symbols sum) ++ Compare relation ∷ constant in
      let ends = numbers.moduli front later modulus (at_relation ∙ sym (append_assoc (before ++ sum_symbols sum) (Compare relation ∷ constant) tail)) in (
        numbers.sums before rest sum parts begins,
        numbers.constants (before ++ sum_symbols sum) tail relation negative digits at_relation,
        ends.0,
        ends.1,
      )

  -- after a sign that opens a unit
  behind : (before : List Symbol) (s : Symbol) (xs later : List Symbol) → ss ≡ before ++ s ∷ (xs ++ later) → ss ≡ (before ++ s ∷ []) ++ (xs ++ later)
  behind before s xs later is = is ∙ sym (append_assoc before (s ∷ []) (xs ++ later))

  -- a phrase, a sign, and another one
  joined : (before : List Symbol) (xs : List Symbol) (s : Symbol) (ys later : List Symbol) → ss ≡ before ++ ((xs ++ s ∷ ys) ++ later) → ss ≡ before ++ (xs ++ s ∷ (ys ++ later))
  joined before xs s ys later is = is ∙ ap (λ (t : List Symbol). before ++ t) (append_assoc xs (s ∷ ys) later)

  phrase_fits : {part : Part} (p : Phrase part) (before later : List Symbol) → ss ≡ before ++ (symbols p ++ later) → last_is opens true before ≡ true → Fits names p
  phrase_fits (conj p) before later is begins = phrase_fits p before later is begins
  phrase_fits (either p q) before later is begins =
      let one = joined before (symbols p) Or (symbols q) later is in
      let front = before ++ symbols p in (
        phrase_fits p before (Or ∷ (symbols q ++ later)) one begins,
        phrase_fits q (front ++ Or ∷ []) later (behind front Or (symbols q) later (one ∙ sym (append_assoc before (symbols p) (Or ∷ (symbols q ++ later))))) (last_more front Or),
      )
  phrase_fits (unit p) before later is begins = phrase_fits p before later is begins
  phrase_fits (both p q) before later is begins =
      let one = joined before (symbols p) And (symbols q) later is in
      let front = before ++ symbols p in (
        phrase_fits p before (And ∷ (symbols q ++ later)) one begins,
        phrase_fits q (front ++ And ∷ []) later (behind front And (symbols q) later (one ∙ sym (append_assoc before (symbols p) (And ∷ (symbols q ++ later))))) (last_more front And),
      )
  phrase_fits (negate p) before later is begins =
      phrase_fits p (before ++ Not ∷ []) later (behind before Not (symbols p) later is) (last_more before Not)
  phrase_fits (group p) before later is begins =
      let inside : ss ≡ before ++ Open ∷ (symbols p ++ Close ∷ later) =
      is ∙ ap (λ (t : List Symbol). before ++ Open ∷ t) (append_assoc (symbols p) (Close ∷ []) later) in
      phrase_fits p (before ++ Open ∷ []) (Close ∷ later) (behind before Open (symbols p) (Close ∷ later) inside) (last_more before Open)
  phrase_fits (atom a) before later is begins = atom_fits a before later is begins

module _ (names : List (List ℕ)) (text : List ℕ) where
  -- what is read is no longer than the limit, and over all names
  pub record IsOver (p : PredModel) : Type 0 where
    pub variables : p.variables ≡ length names
    pub short : length text ≤ TEXT_LIMIT

  read_over : (p : PredModel) → pred_read names text ≡ Ok p → IsOver p
  read_over p = by_length (ltb TEXT_LIMIT (length text)) refl
    where
      given : (r : Result PredTree ReadPred) → over_names (length names) r ≡ Ok p → p.variables ≡ length names
      given (Ok tree) e = let same : (let m : PredModel = record { variables = length names; tree = tree } in m) ≡ p = cc in ap (λ (m : PredModel). m.variables) (sym same)
      given (Err f) e = absurd cc

      by_length : (b : Bool) → ltb TEXT_LIMIT (length text) ≡ b
          → over_names (length names) (if b then Err (LongText (length text)) else run names (length text) start surface (tokens_of text)) ≡ Ok p → IsOver p
      by_length true x e = absurd cc
      by_length false x e =
          record { variables = given (run names (length text) start surface (tokens_of text)) e; short = (let few = ltb-false TEXT_LIMIT (length text) x in omega (arith, few)) }

  pub read_meant : (p : PredModel) → pred_read names text ≡ Ok p → IsTextOf names text p
  read_meant p e =
      let r : Result PredModel (Failure ReadPred) = Ok p in
      let derived = (given_laws names text r e).derived in
      let rules : KeepsRules names (text_symbols text) = given_rules names text r e in
      let over = read_over p e in
      record {
        variables = over.variables;
        short = over.short;
        phrase = derived.phrase;
        spelled = derived.spelled;
        means = derived.means;
        fits = phrase_fits names (text_symbols text) rules.numbers derived.phrase [] [] (sym derived.spelled ∙ sym (append-nil (symbols derived.phrase))) refl;
        shallow = rules.shallow;
      }

  pub meant_read : (p : PredModel) → IsTextOf names text p → pred_read names text ≡ Ok p
  meant_read p is =
      kept_read names text is.phrase is.spelled is.short is.fits is.shallow
      ∙ ap (λ (m : PredModel). Ok m) (λ i. record { variables = sym is.variables i; tree = is.means i })

  pub given_meant : (r : Result PredModel (Failure ReadPred)) → GivesParsed (λ pred. pred) r (pred_read names text) → IfOk r (IsTextOf names text)
  given_meant (Ok p) h = read_meant p h
  given_meant (Err e) h = tt
