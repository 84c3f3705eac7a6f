-- Lines joined again.
use Rattle.std.proofs.Common.{◌≡◌, ◌≢◌, ℕ, ◌+◌, ◌≤◌, Bool, true, false, List, [], ◌∷◌, ◌++◌, length, eqb, All, refl, ap, sym, ◌∙◌, arith, length-append}
use Rattle.std.specs.List.{onto_first, flat_map, join_with_byte}
use Rattle.std.proofs.lemmas.Bool.{eqb-true, eqb-false, cond_both}
use Rattle.std.proofs.lemmas.List.Elements.{All-cons, All-nil, All-head, All-tail}
use Rattle.std.proofs.lemmas.List.Splits.{slice_split-cons_yes, slice_split-cons_no, length-slice_split, join_with_byte-slice_split}
use Rattle.base_lines.specs.Lines.{pieces, without_last_empty, lines_of, completed, AreLinesOf}
use Rattle.base_lines.proofs.Pieces.{goes_on}

-- each line ended by a line feed
abbrev pub ended : List (List ℕ) → List ℕ
ended lines = flat_map (λ line. line ++ 10 ∷ []) lines

-- pieces that are more than one empty piece
onto_first-ended : (b : ℕ) (ps : List (List ℕ)) (c : ℕ) (bytes : List ℕ) → join_with_byte 10 ps ≡ c ∷ bytes → ended (without_last_empty (onto_first b ps)) ≡ b ∷ ended (without_last_empty ps)
onto_first-ended b [] c bytes whole = cc
onto_first-ended b ([] ∷ []) c bytes whole = cc
onto_first-ended b ((x ∷ xs) ∷ []) c bytes whole = refl
onto_first-ended b ([] ∷ q ∷ qs) c bytes whole = refl
onto_first-ended b ((x ∷ xs) ∷ q ∷ qs) c bytes whole = refl

by_first : (b c : ℕ) (bytes : List ℕ) (test : Bool) → eqb b 10 ≡ test → ended (without_last_empty (pieces 10 (c ∷ bytes))) ≡ completed (c ∷ bytes) → ended (without_last_empty (pieces 10 (b ∷ c ∷ bytes))) ≡ completed (b ∷ c ∷ bytes)
by_first b c bytes true is so_far =
    let ps = pieces 10 (c ∷ bytes) in
    ap (λ xs. ended (without_last_empty xs)) (slice_split-cons_yes (λ b. eqb b 10) b (c ∷ bytes) is)
    ∙ ap ended (goes_on [] ps (omega (arith, length-slice_split (λ b. eqb b 10) (c ∷ bytes)))) ∙ ap (λ (xs : List ℕ). 10 ∷ xs) so_far
    ∙ ap (λ (x : ℕ). x ∷ completed (c ∷ bytes)) (sym (eqb-true b 10 is))
by_first b c bytes false is so_far =
    ap (λ xs. ended (without_last_empty xs)) (slice_split-cons_no (λ b. eqb b 10) b (c ∷ bytes) is)
    ∙ onto_first-ended b (pieces 10 (c ∷ bytes)) c bytes (join_with_byte-slice_split 10 (c ∷ bytes)) ∙ ap (λ (xs : List ℕ). b ∷ xs) so_far

last_alone : (b : ℕ) (test : Bool) → eqb b 10 ≡ test → ended (without_last_empty (pieces 10 (b ∷ []))) ≡ completed (b ∷ [])
last_alone b true is = let same : b ≡ 10 = eqb-true b 10 is in rw same refl
last_alone b false is = rw is refl

ended-lines : (bytes : List ℕ) → ended (without_last_empty (pieces 10 bytes)) ≡ completed bytes
ended-lines [] = refl
ended-lines (b ∷ []) = last_alone b (eqb b 10) refl
ended-lines (b ∷ c ∷ bytes) = by_first b c bytes (eqb b 10) refl (ended-lines (c ∷ bytes))

-- no piece has the byte at which it was cut
abbrev AreUnbroken : List (List ℕ) → Type 0
AreUnbroken lines = All (λ line. All (λ b. b ≢ 10) line) lines

onto_first-unbroken : (b : ℕ) (ps : List (List ℕ)) → b ≢ 10 → AreUnbroken ps → AreUnbroken (onto_first b ps)
onto_first-unbroken b [] other all = All-cons (All (λ (x : ℕ). x ≢ 10)) (b ∷ []) [] (All-cons (λ x. x ≢ 10) b [] other (All-nil (λ x. x ≢ 10))) (All-nil (All (λ (x : ℕ). x ≢ 10)))
onto_first-unbroken b (p ∷ ps) other all =
    All-cons (All (λ (x : ℕ). x ≢ 10)) (b ∷ p) ps (All-cons (λ x. x ≢ 10) b p other (All-head (All (λ (x : ℕ). x ≢ 10)) p ps all)) (All-tail (All (λ (x : ℕ). x ≢ 10)) p ps all)

pieces-by_first : (b : ℕ) (bytes : List ℕ) (test : Bool) → eqb b 10 ≡ test → AreUnbroken (pieces 10 bytes) → AreUnbroken (pieces 10 (b ∷ bytes))
pieces-by_first b bytes true is so_far =
    rw (slice_split-cons_yes (λ b. eqb b 10) b bytes is) (All-cons (All (λ (x : ℕ). x ≢ 10)) [] (pieces 10 bytes) (All-nil (λ x. x ≢ 10)) so_far)
pieces-by_first b bytes false is so_far = rw (slice_split-cons_no (λ b. eqb b 10) b bytes is) (onto_first-unbroken b (pieces 10 bytes) (eqb-false b 10 is) so_far)

pieces-unbroken : (bytes : List ℕ) → AreUnbroken (pieces 10 bytes)
pieces-unbroken [] = All-cons (All (λ (x : ℕ). x ≢ 10)) [] [] (All-nil (λ x. x ≢ 10)) (All-nil (All (λ (x : ℕ). x ≢ 10)))
pieces-unbroken (b ∷ bytes) = pieces-by_first b bytes (eqb b 10) refl (pieces-unbroken bytes)

without_last_empty-unbroken : (ps : List (List ℕ)) → AreUnbroken ps → AreUnbroken (without_last_empty ps)
without_last_empty-unbroken [] all = all
without_last_empty-unbroken ([] ∷ []) all = All-nil (All (λ (x : ℕ). x ≢ 10))
without_last_empty-unbroken ((x ∷ xs) ∷ []) all = all
without_last_empty-unbroken ([] ∷ q ∷ qs) all =
    All-cons (All (λ (x : ℕ). x ≢ 10)) [] (without_last_empty (q ∷ qs)) (All-head (All (λ (x : ℕ). x ≢ 10)) [] (q ∷ qs) all)
    (without_last_empty-unbroken (q ∷ qs) (All-tail (All (λ (x : ℕ). x ≢ 10)) [] (q ∷ qs) all))
without_last_empty-unbroken ((x ∷ xs) ∷ q ∷ qs) all =
    All-cons (All (λ (x : ℕ). x ≢ 10)) (x ∷ xs) (without_last_empty (q ∷ qs)) (All-head (All (λ (x : ℕ). x ≢ 10)) (x ∷ xs) (q ∷ qs) all)
    (without_last_empty-unbroken (q ∷ qs) (All-tail (All (λ (x : ℕ). x ≢ 10)) (x ∷ xs) (q ∷ qs) all))

-- the law of the lines
pub lines-joined : (bytes : List ℕ) → AreLinesOf bytes (lines_of bytes)
unfolding lines_of
lines-joined bytes = record { joined = ended-lines bytes; unbroken = without_last_empty-unbroken (pieces 10 bytes) (pieces-unbroken bytes) }

length-ended : (lines : List (List ℕ)) → length lines ≤ length (ended lines)
length-ended [] = omega arith
length-ended (l ∷ ls) = omega (arith, length-ended ls, length-append (l ++ 10 ∷ []) (ended ls), length-append l (10 ∷ []))

pub length-completed : (bytes : List ℕ) → length (completed bytes) ≤ length bytes + 1
length-completed [] = omega arith
length-completed (b ∷ []) = cond_both (eqb b 10) (b ∷ []) (b ∷ 10 ∷ []) (λ (xs : List ℕ). length xs ≤ 2) (λ _. omega arith) (λ _. omega arith)
length-completed (b ∷ c ∷ bytes) = omega (arith, length-completed (c ∷ bytes))

-- there is at most one line more than there are bytes
pub length-lines : (bytes : List ℕ) → length (lines_of bytes) ≤ length bytes + 1
length-lines bytes = omega (arith, length-ended (lines_of bytes), ap length (lines-joined bytes).joined, length-completed bytes)
