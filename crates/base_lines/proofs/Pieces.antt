-- Where the first piece of a text ends.
use Rattle.std.proofs.Common.{◌≡◌, ◌≢◌, ℕ, zero, suc, ◌+◌, ◌<◌, List, [], ◌∷◌, ◌++◌, length, get_or, take, drop, eqb, refl, ap, sym, ◌∙◌, arith, add-one}
use Rattle.std.specs.List.{onto_first}
use Rattle.std.proofs.lemmas.Bool.{eq-eqb, ne_eqb}
use Rattle.std.proofs.lemmas.List.Splits.{slice_split-cons_yes, slice_split-cons_no, length-slice_split}
use Rattle.base_lines.specs.Lines.{pieces, without_last_empty, lines_of}

ended : (c : ℕ) (xs : List ℕ) (i : ℕ) → i < length xs → ((k : ℕ) → k < i → get_or xs k 0 ≢ c) → get_or xs i 0 ≡ c → pieces c xs ≡ take i xs ∷ pieces c (drop (suc i) xs)
ended c [] i lt before is = absurd (omega arith)
ended c (x ∷ xs) zero lt before is = slice_split-cons_yes (λ b. eqb b c) x xs (eq-eqb x c is)
ended c (x ∷ xs) (suc i) lt before is =
    slice_split-cons_no (λ b. eqb b c) x xs (ne_eqb x c (before 0 (omega arith))) ∙ ap (onto_first x) (ended c xs i (omega arith) (λ k h. before (suc k) (omega arith)) is)

pub pieces-ended : (c : ℕ) (xs : List ℕ) (i : ℕ) → i < length xs → ((k : ℕ) → k < i → get_or xs k 0 ≢ c) → get_or xs i 0 ≡ c → pieces c xs ≡ take i xs ∷ pieces c (drop (i + 1) xs)
pieces-ended c xs i lt before is = rw add-one (ended c xs i lt before is)

pub pieces-whole : (c : ℕ) (xs : List ℕ) → ((k : ℕ) → k < length xs → get_or xs k 0 ≢ c) → pieces c xs ≡ xs ∷ []
pieces-whole c [] before = refl
pieces-whole c (x ∷ xs) before =
    slice_split-cons_no (λ b. eqb b c) x xs (ne_eqb x c (before 0 (omega arith))) ∙ ap (onto_first x) (pieces-whole c xs (λ k h. before (suc k) (omega arith)))

pub lines-nil : lines_of [] ≡ []
unfolding lines_of
lines-nil = refl

pub lines-one : (bytes line : List ℕ) → 0 < length bytes → (pieces 10 bytes ≡ line ∷ []) × (line ≡ bytes) → lines_of bytes ≡ line ∷ lines_of []
unfolding lines_of
lines-one [] line some cut = absurd (omega arith)
lines-one (b ∷ bs) line some cut = ap without_last_empty (cut.0 ∙ ap (λ l. l ∷ []) cut.1) ∙ ap (λ l. l ∷ []) (sym cut.1)

pub goes_on : (line : List ℕ) (ps : List (List ℕ)) → 0 < length ps → without_last_empty (line ∷ ps) ≡ line ∷ without_last_empty ps
goes_on line [] some = absurd (omega arith)
goes_on [] (m ∷ ms) some = refl
goes_on (b ∷ bs) (m ∷ ms) some = refl

pub lines-more : (bytes line rest : List ℕ) → pieces 10 bytes ≡ line ∷ pieces 10 rest → lines_of bytes ≡ line ∷ lines_of rest
unfolding lines_of
lines-more bytes line rest cut = ap without_last_empty cut ∙ goes_on line (pieces 10 rest) (omega (arith, length-slice_split (λ b. eqb b 10) rest))

-- a list is what precedes an element, the element, and what follows it
pub around : (c : ℕ) (xs : List ℕ) (i : ℕ) → i < length xs → get_or xs i 0 ≡ c → xs ≡ take i xs ++ c ∷ drop (i + 1) xs
around c [] i lt is = absurd (omega arith)
around c (x ∷ xs) zero lt is = ap (λ (y : ℕ). y ∷ xs) is
around c (x ∷ xs) (suc i) lt is = rw add-one (ap (λ (ys : List ℕ). x ∷ ys) (rw add-one at (around c xs i (omega arith) is)))
