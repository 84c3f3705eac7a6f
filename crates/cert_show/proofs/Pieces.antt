-- Texts that are joined piece by piece.
use Rattle.std.proofs.Common.{◌≡◌, ℕ, ◌+◌, ◌<◌, List, [], ◌∷◌, ◌++◌, length, get_or, map, take, codes, suc, Result, Ok, Err, OnOk, refl, sym, ap, ◌∙◌, append_assoc, append-nil, take-suc, arith}
use Rattle.std.specs.List.{concat, flat_map}
use Rattle.std.proofs.lemmas.List.{get_or-map, length-map, map-append}
use Rattle.std.proofs.lemmas.List.FromFn.{map-range_with_len_more, fill_by_all}
use Rattle.std.proofs.lemmas.List.Folds.{concat-append}
use Rattle.base_lines.specs.Lines.{ended}
use Rattle.cert_show.specs.Lines.{text_of, below, each, spaced, named, escape}

-- one text more
pub one_more : (text : ℕ → List ℕ) (i : ℕ) (begin old new : List ℕ) → old ≡ begin ++ each i text → new ≡ old ++ text i → new ≡ begin ++ each (i + 1) text
one_more text i begin old new so_far item =
    item ∙ ap (λ t. t ++ text i) so_far ∙ append_assoc begin (each i text) (text i)
    ∙ ap (λ (t : List ℕ). begin ++ t)
    (sym
    (ap concat (map-range_with_len_more text 0 i i (omega arith)) ∙ concat-append (map text (below i)) (text i ∷ [])
    ∙ ap (λ (t : List ℕ). each i text ++ t) (append-nil (text i))))

-- lines by their places are the lines of the list
pub by_place : {A : Type 0} (line : A → List ℕ) (xs : List A) (d : A) → each (length xs) (λ i. ended (line (get_or xs i d))) ≡ text_of (map line xs)
by_place line xs d = ap concat (sym (fill_by_all f (map ended (map line xs)) (length xs) [] same_length at))
  where
    f : ℕ → List ℕ
    f i = ended (line (get_or xs i d))

    same_length : length (map ended (map line xs)) ≡ length xs
    same_length = length-map (map line xs) ended ∙ length-map xs line

    at : (k : ℕ) → k < length xs → get_or (map ended (map line xs)) k [] ≡ f k
    at k less = get_or-map ended (map line xs) k [] [] (omega (arith, less, length-map xs line)) ∙ ap ended (get_or-map line xs k d [] less)

pub text_append : (xs ys : List (List ℕ)) → text_of (xs ++ ys) ≡ text_of xs ++ text_of ys
text_append [] ys = refl
text_append (x ∷ xs) ys = ap (λ t. ended x ++ t) (text_append xs ys) ∙ sym (append_assoc (ended x) (text_of xs) (text_of ys))

-- blocks of lines
pub blocks : {A : Type 0} (lines : A → List (List ℕ)) (xs : List A) → concat (map (λ x. text_of (lines x)) xs) ≡ text_of (flat_map lines xs)
blocks lines [] = refl
blocks lines (x ∷ xs) = ap (λ t. text_of (lines x) ++ t) (blocks lines xs) ∙ sym (text_append (lines x) (flat_map lines xs))

-- a piece, and what was added after it
behind : (t0 t1 new a b : List ℕ) → t1 ≡ t0 ++ a → new ≡ t1 ++ b → new ≡ t0 ++ (a ++ b)
behind t0 t1 new a b first rest = rest ∙ ap (λ t. t ++ b) first ∙ append_assoc t0 a b

-- a line, and the lines after it
pub one_line : (t0 t1 new line : List ℕ) (rest : List (List ℕ)) → t1 ≡ t0 ++ ended line → new ≡ t1 ++ text_of rest → new ≡ t0 ++ text_of (line ∷ rest)
one_line t0 t1 new line rest first then = behind t0 t1 new (ended line) (text_of rest) first then

-- two blocks of lines
pub two_blocks : (t0 t1 t2 : List ℕ) (a b : List (List ℕ)) → t1 ≡ t0 ++ text_of a → t2 ≡ t1 ++ text_of b → t2 ≡ t0 ++ text_of (a ++ b)
two_blocks t0 t1 t2 a b first then = behind t0 t1 t2 (text_of a) (text_of b) first then ∙ ap (λ (t : List ℕ). t0 ++ t) (sym (text_append a b))

-- four blocks of lines
pub four_blocks : (t0 t1 t2 t3 t4 : List ℕ) (a b c d : List (List ℕ)) → t1 ≡ t0 ++ text_of a → t2 ≡ t1 ++ text_of b → t3 ≡ t2 ++ text_of c → t4 ≡ t3 ++ text_of d → t4 ≡ t0 ++ text_of (a ++ (b ++ (c ++ d)))
four_blocks t0 t1 t2 t3 t4 a b c d h1 h2 h3 h4 =
    behind t0 t1 t4 (text_of a) (text_of b ++ (text_of c ++ text_of d)) h1
    (behind t1 t2 t4 (text_of b) (text_of c ++ text_of d) h2 (behind t2 t3 t4 (text_of c) (text_of d) h3 h4))
    ∙ ap (λ (t : List ℕ). t0 ++ t)
    (sym (text_append a (b ++ (c ++ d)) ∙ ap (λ (t : List ℕ). text_of a ++ t) (text_append b (c ++ d) ∙ ap (λ (t : List ℕ). text_of b ++ t) (text_append c d))))

-- what holds if the call was good, and what follows from it
pub where_good : {T E : Type 0} (r : Result T E) (P Q : Type 0) → (P → Q) → OnOk r P → OnOk r Q
where_good (Ok x) P Q f p = f p
where_good (Err e) P Q f p = p

-- a name, and what belongs to it
pub named_piece : (t0 t1 t2 t3 name value : List ℕ) → t1 ≡ t0 ++ spaced name → t2 ≡ t1 ++ codes ": " → t3 ≡ t2 ++ value → t3 ≡ t0 ++ spaced (named name value)
named_piece t0 t1 t2 t3 name value first second third =
    third ∙ ap (λ t. t ++ value) (second ∙ ap (λ t. t ++ codes ": ") first) ∙ append_assoc (t0 ++ spaced name) (codes ": ") value
    ∙ append_assoc t0 (spaced name) (codes ": " ++ value) ∙ ap (λ (t : List ℕ). t0 ++ (32 ∷ t)) (sym (append_assoc name (codes ": ") value))

-- one byte more of a name in quotes
pub one_escape : (bytes : List ℕ) (i d : ℕ) (begin old new : List ℕ) → i < length bytes → old ≡ begin ++ concat (map escape (take i bytes)) → new ≡ old ++ escape (get_or bytes i d) → new ≡ begin ++ concat (map escape (take (i + 1) bytes))
one_escape bytes i d begin old new less so_far byte =
    byte ∙ ap (λ t. t ++ escape (get_or bytes i d)) so_far ∙ append_assoc begin (concat (map escape (take i bytes))) (escape (get_or bytes i d))
    ∙ ap (λ (t : List ℕ). begin ++ t) (sym more)
  where
    after : i + 1 ≡ suc i
    after = omega arith

    more : concat (map escape (take (i + 1) bytes)) ≡ concat (map escape (take i bytes)) ++ escape (get_or bytes i d)
    more =
        ap (λ (n : ℕ). concat (map escape (take n bytes))) after ∙ ap (λ (l : List ℕ). concat (map escape l)) (take-suc bytes i d less)
        ∙ ap concat (map-append escape (take i bytes) (get_or bytes i d ∷ [])) ∙ concat-append (map escape (take i bytes)) (escape (get_or bytes i d) ∷ [])
        ∙ ap (λ (t : List ℕ). concat (map escape (take i bytes)) ++ t) (append-nil (escape (get_or bytes i d)))
