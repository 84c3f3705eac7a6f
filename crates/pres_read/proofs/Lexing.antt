-- The symbols of concatenated texts.
use Rattle.std.proofs.Common.{◌≡◌, ℕ, zero, suc, ◌+◌, ◌-◌, ◌<◌, Bool, true, false, List, [], ◌∷◌, ◌++◌, length, take, drop, refl, ap, ◌∙◌, arith, codes}
use Rattle.std.specs.Prelude.{if◌then◌else◌, ◌&&◌, ◌==◌, not, nat_le, Some, None}
use Rattle.std.specs.List.{list_all, prefix_len, take_while}
use Rattle.std.specs.Str.{bytes_eq}
use Rattle.std.proofs.Math.Seq.{take-append_seam, drop-append_seam}
use Rattle.std.proofs.lemmas.Bool.Decides.{nat_tests}
use Rattle.std.proofs.lemmas.Bool.{and_parts, cond-true, cond-false}
use Rattle.pop_io.specs.Names.{is_name_start, is_name_byte, variable_name}
use Rattle.pres_tokens.specs.Symbols.{Symbol, Name, Number, Minus, Star, Compare, Not, Open, Close, Mod, Placed}
use Rattle.pres_tokens.specs.Tokens.{is_blank_byte, digit, first_sign, first_symbol, tokens_from, word_symbol, sign_or}
use Rattle.pres_tokens.specs.declared.token.Relation.TheVariants.{Unequal}
use Rattle.pres_read.specs.Texts.{symbols_of}

-- the symbols, without their places
abbrev pub lex : ℕ → List ℕ → List Symbol
lex skip [] = []
lex (suc k) (b ∷ bytes) = lex k bytes
lex zero (b ∷ bytes) =
    if is_blank_byte b then lex 0 bytes else ((first_symbol (b ∷ bytes)).0 ∷ lex ((first_symbol (b ∷ bytes)).1 - 1) bytes)

if_symbols : (b : Bool) (t : Placed) (us vs : List Placed) (ss xs : List Symbol) → symbols_of us ≡ ss → t.symbol ∷ symbols_of vs ≡ xs
    → symbols_of (if b then us else (t ∷ vs)) ≡ (if b then ss else xs)
if_symbols true t us vs ss xs e f = e
if_symbols false t us vs ss xs e f = f

pub symbols-tokens_from : (skip place : ℕ) (bytes : List ℕ) → symbols_of (tokens_from skip place bytes) ≡ lex skip bytes
symbols-tokens_from zero place [] = refl
symbols-tokens_from (suc k) place [] = refl
symbols-tokens_from (suc k) place (b ∷ bytes) = symbols-tokens_from k (place + 1) bytes
symbols-tokens_from zero place (b ∷ bytes) =
    if_symbols (is_blank_byte b) (record { place = place; symbol = (first_symbol (b ∷ bytes)).0 }) (tokens_from 0 (place + 1) bytes)
    (tokens_from ((first_symbol (b ∷ bytes)).1 - 1) (place + 1) bytes) (lex 0 bytes) ((first_symbol (b ∷ bytes)).0 ∷ lex ((first_symbol (b ∷ bytes)).1 - 1) bytes)
    (symbols-tokens_from 0 (place + 1) bytes)
    (ap (λ ss. (first_symbol (b ∷ bytes)).0 ∷ ss) (symbols-tokens_from ((first_symbol (b ∷ bytes)).1 - 1) (place + 1) bytes))

lex-skip : (k : ℕ) (bytes : List ℕ) → lex k bytes ≡ lex 0 (drop k bytes)
lex-skip zero bytes = refl
lex-skip (suc k) [] = refl
lex-skip (suc k) (b ∷ bytes) = lex-skip k bytes

-- a name or a number ends before these bytes
abbrev pub Stops : List ℕ → Type 0
Stops [] = Unit {0}
Stops (b ∷ bytes) = is_name_byte b ≡ false

prefix_whole : (p : ℕ → Bool) (word rest : List ℕ) → list_all p word ≡ true → prefix_len p rest ≡ 0 → prefix_len p (word ++ rest) ≡ length word
prefix_whole p [] rest h e = e
prefix_whole p (b ∷ word) rest h e =
    let parts = and_parts (p b) (list_all p word) h in
    let further = prefix_whole p word rest parts.1 e in
    rw parts.0 (omega (arith, further))

-- the symbol at the prefix, with its length
lex_first : (b : ℕ) (bytes : List ℕ) (s : Symbol) (m : ℕ) → is_blank_byte b ≡ false → first_symbol (b ∷ bytes) ≡ (s, suc m) → lex 0 (b ∷ bytes) ≡ s ∷ lex 0 (drop m bytes)
lex_first b bytes s m solid e =
    cond-false (is_blank_byte b) (lex 0 bytes) ((first_symbol (b ∷ bytes)).0 ∷ lex ((first_symbol (b ∷ bytes)).1 - 1) bytes) solid
    ∙ ap (λ (f : Symbol × ℕ). f.0 ∷ lex (f.1 - 1) bytes) e
    ∙ ap (λ k. s ∷ lex k bytes) (let same : suc m - 1 ≡ m = omega arith in same)
    ∙ ap (λ ss. s ∷ ss) (lex-skip m bytes)

none_stops : (p : ℕ → Bool) (rest : List ℕ) → ((b : ℕ) → is_name_byte b ≡ false → p b ≡ false) → Stops rest → prefix_len p rest ≡ 0
none_stops p [] h e = refl
none_stops p (b ∷ rest) h e = rw (h b e) refl

start_solid : (b : ℕ) → is_name_start b ≡ true → is_blank_byte b ≡ false
start_solid b h = grind (arith, nat_tests)

-- if no word begins here
abbrev number_or : ℕ → List ℕ → Symbol × ℕ
number_or b bytes =
    if digit b then (Number (take_while digit (b ∷ bytes)), prefix_len digit (b ∷ bytes)) else first_sign (b ∷ bytes)

first_word : (b : ℕ) (bs rest : List ℕ) → is_name_start b ≡ true → list_all is_name_byte (b ∷ bs) ≡ true → Stops rest
    → first_symbol (b ∷ (bs ++ rest)) ≡ (word_symbol (b ∷ bs), suc (length bs))
first_word b bs rest start all stops =
    cond-true (is_name_start b) (word_symbol (take_while is_name_byte (b ∷ (bs ++ rest))), prefix_len is_name_byte (b ∷ (bs ++ rest))) (number_or b (bs ++ rest)) start
    ∙ ap (λ n. (word_symbol (take n (b ∷ (bs ++ rest))), n)) (prefix_whole is_name_byte (b ∷ bs) rest all (none_stops is_name_byte rest (λ c e. e) stops))
    ∙ ap (λ word. (word_symbol word, suc (length bs))) (take-append_seam (b ∷ bs) rest)

digit_no_start : (b : ℕ) → digit b ≡ true → is_name_start b ≡ false
digit_no_start b h = grind (arith, nat_tests)

digit_solid : (b : ℕ) → digit b ≡ true → is_blank_byte b ≡ false
digit_solid b h = grind (arith, nat_tests)

no_digit : (b : ℕ) → is_name_byte b ≡ false → digit b ≡ false
no_digit b h = grind (arith, nat_tests)

first_number : (b : ℕ) (bs rest : List ℕ) → list_all digit (b ∷ bs) ≡ true → Stops rest → first_symbol (b ∷ (bs ++ rest)) ≡ (Number (b ∷ bs), suc (length bs))
first_number b bs rest all stops =
    let parts = and_parts (digit b) (list_all digit bs) all in
    cond-false (is_name_start b) (word_symbol (take_while is_name_byte (b ∷ (bs ++ rest))), prefix_len is_name_byte (b ∷ (bs ++ rest))) (number_or b (bs ++ rest)) (digit_no_start b parts.0)
    ∙ cond-true (digit b) (Number (take_while digit (b ∷ (bs ++ rest))), prefix_len digit (b ∷ (bs ++ rest))) (first_sign (b ∷ (bs ++ rest))) parts.0
    ∙ ap (λ n. (Number (take n (b ∷ (bs ++ rest))), n)) (prefix_whole digit (b ∷ bs) rest all (none_stops digit rest no_digit stops))
    ∙ ap (λ word. (Number word, suc (length bs))) (take-append_seam (b ∷ bs) rest)

lex_word : (b : ℕ) (bs rest : List ℕ) → is_name_start b ≡ true → list_all is_name_byte (b ∷ bs) ≡ true → Stops rest
    → lex 0 ((b ∷ bs) ++ rest) ≡ word_symbol (b ∷ bs) ∷ lex 0 rest
lex_word b bs rest start all stops =
    lex_first b (bs ++ rest) (word_symbol (b ∷ bs)) (length bs) (start_solid b start) (first_word b bs rest start all stops)
    ∙ ap (λ bytes. word_symbol (b ∷ bs) ∷ lex 0 bytes) (drop-append_seam bs rest)

-- a name
pub lex-name : (name rest : List ℕ) → variable_name name ≡ true → Stops rest → lex 0 (name ++ rest) ≡ Name name ∷ lex 0 rest
lex-name [] rest h stops = cc
lex-name (b ∷ bs) rest h stops =
    let outer = and_parts ((is_name_start b && list_all is_name_byte (b ∷ bs)) && nat_le (length (b ∷ bs)) 32) (not (bytes_eq (b ∷ bs) (codes "mod"))) h in
    let middle = and_parts (is_name_start b && list_all is_name_byte (b ∷ bs)) (nat_le (length (b ∷ bs)) 32) outer.0 in
    let inner = and_parts (is_name_start b) (list_all is_name_byte (b ∷ bs)) middle.0 in
    lex_word b bs rest inner.0 inner.1 stops ∙ ap (λ s. s ∷ lex 0 rest) (no_mod (bytes_eq (b ∷ bs) (codes "mod")) (b ∷ bs) outer.1)
  where
    no_mod : (c : Bool) (word : List ℕ) → not c ≡ true → (if c then Mod else Name word) ≡ Name word
    no_mod true word e = cc
    no_mod false word e = refl

-- a number
pub lex-number : (digits rest : List ℕ) → list_all digit digits ≡ true → 0 < length digits → Stops rest → lex 0 (digits ++ rest) ≡ Number digits ∷ lex 0 rest
lex-number [] rest all some stops = absurd (omega arith)
lex-number (b ∷ bs) rest all some stops =
    lex_first b (bs ++ rest) (Number (b ∷ bs)) (length bs) (digit_solid b (and_parts (digit b) (list_all digit bs) all).0) (first_number b bs rest all stops)
    ∙ ap (λ bytes. Number (b ∷ bs) ∷ lex 0 bytes) (drop-append_seam bs rest)

-- ---- signs

pub lex-minus : (rest : List ℕ) → lex 0 (45 ∷ rest) ≡ Minus ∷ lex 0 rest
lex-minus [] = refl
lex-minus (b ∷ rest) = refl

pub lex-star : (rest : List ℕ) → lex 0 (42 ∷ rest) ≡ Star ∷ lex 0 rest
lex-star [] = refl
lex-star (b ∷ rest) = refl

pub lex-open : (rest : List ℕ) → lex 0 (40 ∷ rest) ≡ Open ∷ lex 0 rest
lex-open [] = refl
lex-open (b ∷ rest) = refl

pub lex-close : (rest : List ℕ) → lex 0 (41 ∷ rest) ≡ Close ∷ lex 0 rest
lex-close [] = refl
lex-close (b ∷ rest) = refl

-- the bytes don't begin with `=`
abbrev pub NoEqual : List ℕ → Type 0
NoEqual [] = Unit {0}
NoEqual (b ∷ bytes) = (b == 61) ≡ false

lone_not : (c : Bool) (b : ℕ) (rest : List ℕ) → c ≡ false
    → sign_or Not (if c then Some (Compare Unequal) else None) ≡ (Not, 1)
lone_not true b rest e = cc
lone_not false b rest e = refl

pub lex-not : (rest : List ℕ) → NoEqual rest → lex 0 (33 ∷ rest) ≡ Not ∷ lex 0 rest
lex-not [] h = refl
lex-not (b ∷ rest) h = lex_first 33 (b ∷ rest) Not 0 refl (lone_not (b == 61) b rest h)
