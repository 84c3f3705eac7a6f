-- A text that is cut once, and the counts that a word enters.
use Rattle.std.proofs.Common.{◌≡◌, ℕ, ◌+◌, ◌<◌, ◌⊎◌, inl, inr, eqb, true, false, ◌++◌, ap, List, [], ◌∷◌, length, get_or, Option, Some, None, refl, sym, ◌∙◌, Result, arith}
use Rattle.std.specs.List.{onto_first}
use Rattle.std.proofs.lemmas.Bool.{eq-eqb}
use Rattle.std.proofs.lemmas.List.Splits.{slice_split-cons_yes, slice_split-cons_no, length-slice_split}
use Rattle.base_lines.specs.Lines.{pieces, IsCut}
use Rattle.pop_words.specs.Counts.{split_once, with_word, with_words}
use Rattle.pop_words.specs.WordsBehind.{words_behind, without_count}
use Rattle.std.specs.Prelude.{is_none, slice_set, map, if◌then◌else◌}
use Rattle.std.proofs.lemmas.List.Sums.{sum_by-set, sum_by-cons}
use Rattle.pop_words.proofs.Cuts.{words-cut}

next_piece : (x : ℕ) (ps qs : List (List ℕ)) (y : ℕ) (ys : List ℕ) → 0 < length ps → onto_first x ps ≡ (y ∷ ys) ∷ qs → ps ≡ ys ∷ qs
next_piece x [] qs y ys some is = absurd (omega arith)
next_piece x (p ∷ ps) qs y ys some is = cc

bool_cases_eqb : (x c : ℕ) → (eqb x c ≡ true) ⊎ (eqb x c ≡ false)
bool_cases_eqb x c = elim (eqb x c) as (λ b. (b ≡ true) ⊎ (b ≡ false)) [ true ↦ inl refl | false ↦ inr refl ]

module _ (c : ℕ) where
  -- a text that is cut at a byte
  pub split_once_cut : (xs piece rest : List ℕ) → IsCut c xs piece (Some rest) → split_once c xs ≡ Some (piece, rest)
  split_once_cut [] [] rest cut = absurd (cc cut.1)
  split_once_cut [] (y ∷ ys) rest cut = absurd (cc cut.1)
  split_once_cut (x ∷ xs) [] rest cut = let e : x ≡ c = cc cut.1 in let f : xs ≡ rest = cc cut.1 in rw (eq-eqb x c e, f) refl
  split_once_cut (x ∷ xs) (y ∷ ys) rest cut =
      let same : x ≡ y = cc cut.1 in
      let more : xs ≡ ys ++ c ∷ rest = cc cut.1 in
      elim (bool_cases_eqb x c) [
        | inl e ↦ absurd (let none : [] ∷ pieces c xs ≡ (y ∷ ys) ∷ pieces c rest = sym (slice_split-cons_yes (λ b. eqb b c) x xs e) ∙ cut.0 in cc none)
        | inr e ↦ let next : pieces c xs ≡ ys ∷ pieces c rest = next_piece x (pieces c xs) (pieces c rest) y ys (omega (arith, length-slice_split (λ b. eqb b c) xs)) (sym (slice_split-cons_no (λ b. eqb b c) x xs e) ∙ cut.0) in
            rw (e, split_once_cut xs ys rest (next, more), same) refl
      ]

  one_piece : (x : ℕ) (ps : List (List ℕ)) (piece : List ℕ) → 0 < length ps → onto_first x ps ≡ piece ∷ [] → (p : List ℕ) × (ps ≡ p ∷ [])
  one_piece x [] piece some is = absurd (omega arith)
  one_piece x (p ∷ ps) piece some is = (p, cc)

  -- a text without the byte
  pub split_once_whole : (xs piece : List ℕ) → pieces c xs ≡ piece ∷ [] → split_once c xs ≡ None
  split_once_whole [] piece cut = refl
  split_once_whole (x ∷ xs) piece cut = elim (bool_cases_eqb x c) [
    | inl e ↦ absurd (let two : [] ∷ pieces c xs ≡ piece ∷ [] = sym (slice_split-cons_yes (λ b. eqb b c) x xs e) ∙ cut in omega (arith, ap length two, length-slice_split (λ b. eqb b c) xs))
    | inr e ↦ let next = one_piece x (pieces c xs) piece (omega (arith, length-slice_split (λ b. eqb b c) xs)) (sym (slice_split-cons_no (λ b. eqb b c) x xs e) ∙ cut) in
        rw (e, split_once_whole xs next.0 next.1) refl
  ]

pub goes_on : (names : List (List ℕ)) (found more : List (Option ℕ)) (at : ℕ) (bytes word : List ℕ) (rest : Option (List ℕ)) (total : Result (List (Option ℕ)) ℕ) → IsCut 32 bytes word rest → with_word names found word ≡ Some more
    → with_words names found at (pieces 32 bytes) ≡ total → with_words names more (at + 1) (words_behind rest) ≡ total
goes_on names found more at bytes word rest total cut is so_far =
    let one : with_words names found at (pieces 32 bytes) ≡ with_words names more (at + 1) (words_behind rest) = rw (words-cut bytes word rest cut, is) refl in
    sym one ∙ so_far

-- a first count for a variable
pub one_fewer : (found : List (Option ℕ)) (i n : ℕ) → i < length found → get_or found i None ≡ None → without_count (slice_set found i (Some n)) + 1 ≡ without_count found
one_fewer found i n within none =
    let e = sum_by-set (λ o. if is_none o then 1 else 0) found i (Some n) None within in
    omega (arith, rw none at e)

pub all_without : (names : List (List ℕ)) → without_count (map (λ _. None) names) ≡ length names
all_without [] = refl
all_without (name ∷ names) =
    let more = sum_by-cons (λ (o : Option ℕ). if is_none o then 1 else 0) None (map (λ _. None) names) in
    omega (arith, more, all_without names)
