-- The lines of a valid proof with tame layers are no text of one line.
use Rattle.std.proofs.Common.{◌≡◌, ℕ, zero, suc, ◌+◌, ◌/◌, ◌%◌, Bool, true, false, nat_lt, List, [], ◌∷◌, ◌++◌, codes, decimal, if◌then◌else◌, refl, sym, ap, ◌∙◌, arith}
use Rattle.std.specs.Prelude.{◌==◌}
use Rattle.std.specs.Fmt.{digit_glyph, digits_onto, digits}
use Rattle.std.proofs.lemmas.Bool.{ne_eqb}
use Rattle.base_lines.specs.Lines.{ended}
use Rattle.tool_proofs.specs.Certified.{certified_text, certified_lines}

-- the line feeds of a text
breaks : List ℕ → ℕ
breaks [] = 0
breaks (b ∷ bytes) = (if b == 10 then 1 else 0) + breaks bytes

breaks-append : (xs ys : List ℕ) → breaks (xs ++ ys) ≡ breaks xs + breaks ys
unfolding breaks
breaks-append [] ys = omega arith
breaks-append (x ∷ xs) ys = let more = breaks-append xs ys in omega (arith, more)

glyph_at : (low : Bool) (d : ℕ) → ((if low then 48 + d else (if false then 55 + d else 87 + d)) == 10) ≡ false
glyph_at true d = ne_eqb (48 + d) 10 (λ e. omega (arith, e))
glyph_at false d = ne_eqb (87 + d) 10 (λ e. omega (arith, e))

glyph : (d : ℕ) → (digit_glyph false d == 10) ≡ false
glyph d = glyph_at (nat_lt d 10) d

glyph_breaks : (d : ℕ) (bytes : List ℕ) → breaks (digit_glyph false d ∷ bytes) ≡ breaks bytes
unfolding breaks
glyph_breaks d bytes =
    let none : ◌≡◌ {A = ℕ} (if digit_glyph false d == 10 then 1 else 0) 0 = ap (λ (b : Bool). (if b then 1 else 0)) (glyph d) in omega (arith, none)

digits_breaks : (fuel n : ℕ) (bytes : List ℕ) → breaks (digits_onto fuel 10 false n bytes) ≡ breaks bytes
digits_breaks zero n bytes = refl
digits_breaks (suc fuel) n bytes =
    go (n / 10 == 0) (digits_breaks fuel (n / 10) (digit_glyph false (n % 10) ∷ bytes))
  where
    go : (b : Bool) → breaks (digits_onto fuel 10 false (n / 10) (digit_glyph false (n % 10) ∷ bytes)) ≡ breaks (digit_glyph false (n % 10) ∷ bytes) → breaks (if b then digit_glyph false (n % 10) ∷ bytes else digits_onto fuel 10 false (n / 10) (digit_glyph false (n % 10) ∷ bytes)) ≡ breaks bytes
    go true more = glyph_breaks (n % 10) bytes
    go false more = more ∙ glyph_breaks (n % 10) bytes

decimal_breaks : (n : ℕ) → breaks (decimal n) ≡ 0
unfolding breaks digits
decimal_breaks n = digits_breaks 64 n []

line_breaks : (n : ℕ) → breaks (ended (certified_text n)) ≡ 1
unfolding breaks
line_breaks n =
    let whole : breaks (ended (certified_text n)) ≡ breaks (certified_text n) + 1 = breaks-append (certified_text n) (codes "\n") in
    let line : breaks (certified_text n) ≡ 0 + breaks (decimal n) = breaks-append (codes "certified ") (decimal n) in
    let number = decimal_breaks n in
    omega (arith, whole, line, number)

-- `certified` alone is not `certified` and `tame`
pub not_alone : (n k : ℕ) → certified_lines n false ≡ certified_lines k true → ⊥
unfolding breaks
not_alone n k e =
    let two : breaks (certified_lines k true) ≡ breaks (ended (certified_text k)) + 1 = breaks-append (ended (certified_text k)) (ended (codes "tame")) in
    let one = line_breaks n in
    let first = line_breaks k in
    let same = ap breaks e in
    omega (arith, two, one, first, same)
