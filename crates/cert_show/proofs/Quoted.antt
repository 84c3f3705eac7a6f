-- A name has one spelling, in which no blank and no line feed stands.
use Rattle.std.proofs.Common.{◌≡◌, ℕ, zero, suc, ◌+◌, ◌/◌, ◌%◌, ◌<◌, Bool, true, false, not, nat_le, nat_lt, List, [], ◌∷◌, ◌++◌, length, get_or, map, codes, decimal, ℤ, pos, negsuc, All, if◌then◌else◌, refl, sym, ap, ◌∙◌, subst, arith, true≢false}
use Rattle.std.specs.Prelude.{◌&&◌, ◌||◌, ◌==◌, IsTrue}
use Rattle.std.specs.Fmt.{digits, digits_onto, digit_glyph, signed_decimal}
use Rattle.std.specs.List.{concat, list_all}
use Rattle.std.specs.Str.{bytes_eq}
use Rattle.std.proofs.lemmas.List.Elements.{All-head, All-tail}
use Rattle.std.proofs.lemmas.Bool.{and_parts, ne_eqb, leb-true}
use Rattle.std.proofs.lemmas.List.{append_cancel_right}
use Rattle.pop_io.specs.declared.names.TheConstants.{NAME_LIMIT}
use Rattle.pop_io.specs.Names.{is_name_byte, starts_name, variable_name, is_printed, state_name}
use Rattle.cert_show.specs.Lines.{is_plain_byte, is_plain, escape, quoted, name_at}
use Rattle.cert_show.proofs.Spans.{Passes, passes-append}

abbrev pub in_quotes : List ℕ → List ℕ
in_quotes name = codes "\"" ++ (concat (map escape name) ++ codes "\"")

-- ---- one spelling

same_escape : (p q : Bool) (x y : ℕ) (r s : List ℕ) → (x == 34 || x == 92) ≡ p → (y == 34 || y == 92) ≡ q
    → (if p then 92 ∷ x ∷ [] else x ∷ []) ++ r ≡ (if q then 92 ∷ y ∷ [] else y ∷ []) ++ s → (x ≡ y) × (r ≡ s)
same_escape true true x y r s xp yq e = let h : ◌≡◌ {A = List ℕ} (92 ∷ x ∷ r) (92 ∷ y ∷ s) = e in (cc h, cc h)
same_escape false false x y r s xp yq e = let h : ◌≡◌ {A = List ℕ} (x ∷ r) (y ∷ s) = e in (cc h, cc h)
same_escape true false x y r s xp yq e =
    let h : ◌≡◌ {A = List ℕ} (92 ∷ x ∷ r) (y ∷ s) = e in
    let first : y ≡ 92 = cc h in
    let no : (92 == 34 || 92 == 92) ≡ false = subst (λ (b : ℕ). (b == 34 || b == 92) ≡ false) first yq in absurd (cc no)
same_escape false true x y r s xp yq e =
    let h : ◌≡◌ {A = List ℕ} (x ∷ r) (92 ∷ y ∷ s) = e in
    let first : x ≡ 92 = cc h in
    let no : (92 == 34 || 92 == 92) ≡ false = subst (λ (b : ℕ). (b == 34 || b == 92) ≡ false) first xp in absurd (cc no)

never_empty : (p : Bool) (y : ℕ) (s : List ℕ) → ◌≡◌ {A = List ℕ} [] ((if p then 92 ∷ y ∷ [] else y ∷ []) ++ s) → ⊥
never_empty true y s e = let h : ◌≡◌ {A = List ℕ} [] (92 ∷ y ∷ s) = e in absurd (cc h)
never_empty false y s e = let h : ◌≡◌ {A = List ℕ} [] (y ∷ s) = e in absurd (cc h)

same_escaped : (a b : List ℕ) → concat (map escape a) ≡ concat (map escape b) → a ≡ b
same_escaped [] [] e = refl
same_escaped [] (y ∷ ys) e = absurd (never_empty (y == 34 || y == 92) y (concat (map escape ys)) e)
same_escaped (x ∷ xs) [] e = absurd (never_empty (x == 34 || x == 92) x (concat (map escape xs)) (let back : [] ≡ concat (map escape (x ∷ xs)) = cc e in back))
same_escaped (x ∷ xs) (y ∷ ys) e =
    let both = same_escape (x == 34 || x == 92) (y == 34 || y == 92) x y (concat (map escape xs)) (concat (map escape ys)) refl refl e in
    let head = both.0 in
    let tail = same_escaped xs ys both.1 in
    cc (head, tail)

-- a plain name doesn't begin with a double quote
never_quoted : (a r : List ℕ) → is_plain a ≡ true → a ≡ 34 ∷ r → ⊥
never_quoted [] r plain e = absurd (cc e)
never_quoted (x ∷ xs) r plain e =
    let all = (and_parts (not (x == 45)) (list_all is_plain_byte (x ∷ xs)) plain).1 in
    let first = (and_parts (is_plain_byte x) (list_all is_plain_byte xs) all).0 in
    let is : x ≡ 34 = cc e in
    let no : is_plain_byte 34 ≡ true = subst (λ (b : ℕ). is_plain_byte b ≡ true) is first in absurd (cc no)

same_by : (p q : Bool) (a b : List ℕ) → is_plain a ≡ p → is_plain b ≡ q → (if p then a else in_quotes a) ≡ (if q then b else in_quotes b) → a ≡ b
same_by true true a b ap bq e = e
same_by true false a b ap bq e = absurd (never_quoted a (concat (map escape b) ++ codes "\"") ap e)
same_by false true a b ap bq e = absurd (never_quoted b (concat (map escape a) ++ codes "\"") bq (let back : b ≡ 34 ∷ (concat (map escape a) ++ codes "\"") = cc e in back))
same_by false false a b ap bq e =
    let h : ◌≡◌ {A = List ℕ} (34 ∷ (concat (map escape a) ++ codes "\"")) (34 ∷ (concat (map escape b) ++ codes "\"")) = e in
    let rest : concat (map escape a) ++ codes "\"" ≡ concat (map escape b) ++ codes "\"" = cc h in
    same_escaped a b (append_cancel_right (concat (map escape a)) (concat (map escape b)) (codes "\"") rest)

-- a name has one spelling
pub same_name : (a b : List ℕ) → quoted a ≡ quoted b → a ≡ b
same_name a b e = same_by (is_plain a) (is_plain b) a b refl refl e

-- ---- no blank, and no line feed

abbrev pub other_than : ℕ → ℕ → Bool
other_than c b = not (b == c)

above : (c b : ℕ) → c < 33 → is_printed b ≡ true → other_than c b ≡ true
above c b low h =
    let both = and_parts (nat_le 33 b && nat_le b 126) (not (b == 47)) h in
    let least = leb-true 33 b (and_parts (nat_le 33 b) (nat_le b 126) both.0).0 in
    ap not (ne_eqb b c (λ e. omega (arith, e, low, least)))

module _ (c : ℕ) (low : c < 33) where
  printed_passes : (name : List ℕ) → list_all is_printed name ≡ true → Passes (other_than c) name
  printed_passes [] h = tt
  printed_passes (b ∷ name) h = let parts = and_parts (is_printed b) (list_all is_printed name) h in (above c b low parts.0, printed_passes name parts.1)

  escape_passes : (p : Bool) (b : ℕ) → is_printed b ≡ true → Passes (other_than c) (if p then 92 ∷ b ∷ [] else b ∷ [])
  escape_passes true b h = (above c 92 low refl, (above c b low h, tt))
  escape_passes false b h = (above c b low h, tt)

  escaped_passes : (name : List ℕ) → list_all is_printed name ≡ true → Passes (other_than c) (concat (map escape name))
  escaped_passes [] h = tt
  escaped_passes (b ∷ name) h =
      let parts = and_parts (is_printed b) (list_all is_printed name) h in
      passes-append (other_than c) (escape b) (concat (map escape name)) (escape_passes (b == 34 || b == 92) b parts.0) (escaped_passes name parts.1)

  quoted_by : (p : Bool) (name : List ℕ) → list_all is_printed name ≡ true → Passes (other_than c) (if p then name else in_quotes name)
  quoted_by true name h = printed_passes name h
  quoted_by false name h =
      (above c 34 low refl, passes-append (other_than c) (concat (map escape name)) (codes "\"") (escaped_passes name h) (above c 34 low refl, tt))

  pub quoted_passes : (name : List ℕ) → IsTrue (state_name name) → Passes (other_than c) (quoted name)
  quoted_passes name h =
      let shorter = and_parts (nat_le 1 (length name) && list_all is_printed name) (nat_le (length name) NAME_LIMIT) h in
      quoted_by (is_plain name) name (and_parts (nat_le 1 (length name)) (list_all is_printed name) shorter.0).1

-- ---- names without this byte

module _ (c : ℕ) (slash : other_than c 92 ≡ true) (quote : other_than c 34 ≡ true) where
  escape_keeps : (p : Bool) (b : ℕ) → other_than c b ≡ true → Passes (other_than c) (if p then 92 ∷ b ∷ [] else b ∷ [])
  escape_keeps true b h = (slash, (h, tt))
  escape_keeps false b h = (h, tt)

  escaped_keeps : (name : List ℕ) → Passes (other_than c) name → Passes (other_than c) (concat (map escape name))
  escaped_keeps [] h = tt
  escaped_keeps (b ∷ name) h =
      passes-append (other_than c) (escape b) (concat (map escape name)) (escape_keeps (b == 34 || b == 92) b h.0) (escaped_keeps name h.1)

  keeps_by : (p : Bool) (name : List ℕ) → Passes (other_than c) name → Passes (other_than c) (if p then name else in_quotes name)
  keeps_by true name h = h
  keeps_by false name h = (quote, passes-append (other_than c) (concat (map escape name)) (codes "\"") (escaped_keeps name h) (quote, tt))

  get_keeps : (names : List (List ℕ)) → All (Passes (other_than c)) names → (i : ℕ) → Passes (other_than c) (get_or names i [])
  get_keeps [] all i = tt
  get_keeps (name ∷ names) all zero = All-head (Passes (other_than c)) name names all
  get_keeps (name ∷ names) all (suc i) = get_keeps names (All-tail (Passes (other_than c)) name names all) i

  -- a name of the list, whatever its place
  pub name_keeps : (names : List (List ℕ)) → All (Passes (other_than c)) names → (i : ℕ) → Passes (other_than c) (name_at names i)
  name_keeps names all i = let name = get_or names i [] in keeps_by (is_plain name) name (get_keeps names all i)

pub state_keeps : (c : ℕ) → c < 33 → (name : List ℕ) → IsTrue (state_name name) → Passes (other_than c) name
state_keeps c low name h =
    let shorter = and_parts (nat_le 1 (length name) && list_all is_printed name) (nat_le (length name) NAME_LIMIT) h in
    printed_passes c low name (and_parts (nat_le 1 (length name)) (list_all is_printed name) shorter.0).1

name_bytes_keep : (c : ℕ) → is_name_byte c ≡ false → (name : List ℕ) → list_all is_name_byte name ≡ true → Passes (other_than c) name
name_bytes_keep c none [] h = tt
name_bytes_keep c none (b ∷ name) h =
    let parts = and_parts (is_name_byte b) (list_all is_name_byte name) h in
    (ap not (ne_eqb b c (λ e. true≢false (sym (subst (λ (x : ℕ). is_name_byte x ≡ true) e parts.0) ∙ none))), name_bytes_keep c none name parts.1)

pub variable_keeps : (c : ℕ) → is_name_byte c ≡ false → (name : List ℕ) → IsTrue (variable_name name) → Passes (other_than c) name
variable_keeps c none name h =
    let outer = and_parts ((starts_name name && list_all is_name_byte name) && nat_le (length name) NAME_LIMIT) (not (bytes_eq name (codes "mod"))) h in
    let inner = and_parts (starts_name name && list_all is_name_byte name) (nat_le (length name) NAME_LIMIT) outer.0 in
    name_bytes_keep c none name (and_parts (starts_name name) (list_all is_name_byte name) inner.0).1

-- ---- numbers without this byte

module _ (c : ℕ) (low : c < 45) where
  glyph_keeps : (b : Bool) (d : ℕ) → other_than c (if b then 48 + d else 87 + d) ≡ true
  glyph_keeps true d = ap not (ne_eqb (48 + d) c (λ e. omega (arith, e, low)))
  glyph_keeps false d = ap not (ne_eqb (87 + d) c (λ e. omega (arith, e, low)))

  either_keeps : (b : Bool) (xs ys : List ℕ) → Passes (other_than c) xs → Passes (other_than c) ys → Passes (other_than c) (if b then xs else ys)
  either_keeps true xs ys p q = p
  either_keeps false xs ys p q = q

  digits_keep : (k n : ℕ) (acc : List ℕ) → Passes (other_than c) acc → Passes (other_than c) (digits_onto k 10 false n acc)
  digits_keep zero n acc p = p
  digits_keep (suc k) n acc p =
      let glyph : other_than c (digit_glyph false (n % 10)) ≡ true = glyph_keeps (nat_lt (n % 10) 10) (n % 10) in
      either_keeps (n / 10 == 0) (digit_glyph false (n % 10) ∷ acc) (digits_onto k 10 false (n / 10) (digit_glyph false (n % 10) ∷ acc)) (glyph, p)
      (digits_keep k (n / 10) (digit_glyph false (n % 10) ∷ acc) (glyph, p))

  pub decimal_keeps : (n : ℕ) → Passes (other_than c) (decimal n)
  unfolding digits
  decimal_keeps n = digits_keep 64 n [] tt

  pub signed_keeps : (z : ℤ) → Passes (other_than c) (signed_decimal z)
  signed_keeps (pos n) = decimal_keeps n
  signed_keeps (negsuc n) = (ap not (ne_eqb 45 c (λ e. omega (arith, e, low))), decimal_keeps (suc n))
