-- What a unit or a term begins after.
use Rattle.std.proofs.Common.{◌≡◌, zero, suc, Bool, true, false, List, [], ◌∷◌, ◌++◌, Option, Some, None, refl, sym, ap, subst, append_assoc, ℕ}
use Rattle.std.proofs.lemmas.List.{append-nil}
use Rattle.pres_tokens.specs.Symbols.{Symbol, Minus, Star, And, Or, Open}
use Rattle.pres_read.specs.Grammar.{APred, AConj, Phrase, symbols, sum_symbols, plus_or_minus}
use Rattle.pres_read.specs.Rules.{last_is, opens, is_star}
use Rattle.pres_read.proofs.Traces.{Lead, begin, after, Side}
use Rattle.pres_read.proofs.Prefixes.{nots_prefix, ors_prefix, ands_prefix, side_prefix, above_prefix, lead_prefix}

-- the test of the last symbol
pub last-end : (test : Symbol → Bool) (none : Bool) (ss : List Symbol) (s : Symbol) → last_is test none (ss ++ s ∷ []) ≡ test s
last-end test none [] s = refl
last-end test none (a ∷ []) s = refl
last-end test none (a ∷ b ∷ ss) s = last-end test none (b ∷ ss) s

last-both : (test : Symbol → Bool) (xs ys : List Symbol) → last_is test true xs ≡ true → last_is test true ys ≡ true → last_is test true (xs ++ ys) ≡ true
last-both test [] ys h g = g
last-both test (x ∷ []) [] h g = h
last-both test (x ∷ []) (y ∷ ys) h g = g
last-both test (x ∷ z ∷ xs) ys h g = last-both test (z ∷ xs) ys h g

nots_open : (k : ℕ) → last_is opens true (nots_prefix k) ≡ true
nots_open zero = refl
nots_open (suc zero) = refl
nots_open (suc (suc k)) = nots_open (suc k)

ors_open : (o : Option (Phrase APred)) → last_is opens true (ors_prefix o) ≡ true
ors_open None = refl
ors_open (Some p) = last-end opens true (symbols p) Or

ands_open : (o : Option (Phrase AConj)) → last_is opens true (ands_prefix o) ≡ true
ands_open None = refl
ands_open (Some c) = last-end opens true (symbols c) And

side_open : (side : Side) → last_is opens true (side_prefix side) ≡ true
side_open side = last-both opens (ors_prefix side.ors) (ands_prefix side.ands ++ nots_prefix side.nots) (ors_open side.ors) (last-both opens (ands_prefix side.ands) (nots_prefix side.nots) (ands_open side.ands) (nots_open side.nots))

above_open : (above : List Side) → last_is opens true (above_prefix above) ≡ true
above_open [] = refl
above_open (side ∷ above) = last-both opens (above_prefix above) (side_prefix side ++ Open ∷ []) (above_open above) (last-end opens true (side_prefix side) Open)

-- a unit may begin after what precedes it
pub unit_open : (above : List Side) (side : Side) → last_is opens true (above_prefix above ++ side_prefix side) ≡ true
unit_open above side = last-both opens (above_prefix above) (side_prefix side) (above_open above) (side_open side)

no_star : (s : Symbol) → opens s ≡ true → is_star s ≡ false
no_star Star e = absurd cc
no_star s e = refl

-- where a unit may begin, no `*` comes before
star_free : (ss : List Symbol) → last_is opens true ss ≡ true → last_is is_star false ss ≡ false
star_free [] e = refl
star_free (s ∷ []) e = no_star s e
star_free (s ∷ t ∷ ss) e = star_free (t ∷ ss) e

sign_free : (negative : Bool) → is_star (plus_or_minus negative) ≡ false
sign_free true = refl
sign_free false = refl

-- no `*` comes before a term
pub term_free : (above : List Side) (side : Side) (lead : Lead) → last_is is_star false (above_prefix above ++ (side_prefix side ++ lead_prefix lead)) ≡ false
term_free above side (begin false) =
    let flat : above_prefix above ++ (side_prefix side ++ []) ≡ above_prefix above ++ side_prefix side = ap (λ ss. above_prefix above ++ ss) (append-nil (side_prefix side)) in
    subst (λ (ss : List Symbol). last_is is_star false ss ≡ false) (sym flat) (star_free (above_prefix above ++ side_prefix side) (unit_open above side))
term_free above side (begin true) =
    subst (λ (ss : List Symbol). last_is is_star false ss ≡ false) (append_assoc (above_prefix above) (side_prefix side) (Minus ∷ [])) (last-end is_star false (above_prefix above ++ side_prefix side) Minus)
term_free above side (after sum negative) =
    let flat : ((above_prefix above ++ side_prefix side) ++ sum_symbols sum) ++ plus_or_minus negative ∷ [] ≡ above_prefix above ++ (side_prefix side ++ (sum_symbols sum ++ plus_or_minus negative ∷ [])) = simp append_assoc in
    subst (λ (ss : List Symbol). last_is is_star false ss ≡ false) flat (rw (last-end is_star false ((above_prefix above ++ side_prefix side) ++ sum_symbols sum) (plus_or_minus negative)) (sign_free negative))
