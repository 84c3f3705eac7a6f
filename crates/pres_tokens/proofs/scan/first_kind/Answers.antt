use Rattle.std.proofs.Common.{◌≡◌, ℕ, ◌<◌, ◌≤◌, Bool, true, false, List, [], ◌∷◌, length, get_or, Option, None, Some, sym, refl, ap, ◌∙◌, arith, rules}
use Rattle.std.specs.List.{prefix_len, take_while}
use Rattle.pop_io.specs.Names.{is_name_start, is_name_byte}
use Rattle.pres_tokens.specs.Symbols.{Symbol}
use Rattle.pres_tokens.specs.Tokens.{digit, byte_symbol, pair_symbol, sign_or, first_sign, word_symbol, first_symbol}
use Rattle.pres_tokens.proofs.scan.first_kind.Goals as goal

word_first : (bytes : List ℕ) → 0 < length bytes → is_name_start (get_or bytes 0 0) ≡ true
    → (word_symbol (take_while is_name_byte bytes), prefix_len is_name_byte bytes) ≡ first_symbol bytes
word_first [] h e = absurd (omega (arith, h))
word_first (b ∷ bytes) h e = rw e refl

sign_first : (bytes : List ℕ) → 0 < length bytes → is_name_start (get_or bytes 0 0) ≡ false → digit (get_or bytes 0 0) ≡ false
    → first_sign bytes ≡ first_symbol bytes
sign_first [] h e f = absurd (omega (arith, h))
sign_first (b ∷ bytes) h e f = rw (e, f) refl

some_pass : (p : ℕ → Bool) (bytes : List ℕ) → 0 < length bytes → p (get_or bytes 0 0) ≡ true → 0 < prefix_len p bytes
some_pass p [] h e = absurd (omega (arith, h))
some_pass p (b ∷ bytes) h e = rw e (omega arith)

some_sign : (one : Symbol) (two : Option Symbol) → (0 < (sign_or one two).1) × ((sign_or one two).1 ≤ 2)
some_sign one None = (omega arith, omega arith)
some_sign one (Some two) = (omega arith, omega arith)

sign_len : (bytes : List ℕ) → 0 < length bytes → (0 < (first_sign bytes).1) × ((first_sign bytes).1 ≤ length bytes)
sign_len [] h = absurd (omega (arith, h))
sign_len (b ∷ []) h = (omega arith, omega arith)
sign_len (b ∷ c ∷ bytes) h =
    let p = some_sign (byte_symbol b) (pair_symbol b c) in
    (p.0, omega (arith, p.1))

pub returns-then-begins_name-clause-value : goal.returns-then-begins_name-clause-value
returns-then-begins_name-clause-value c =
    rw (c.word_kind.ensures, c.word_len-len.ensures.value)
    (word_first c.args.bytes.now c.requires (sym c.begins_name.ensures ∙ c.if-begins_name.true))

pub returns-then-begins_name-clause-some : goal.returns-then-begins_name-clause-some
returns-then-begins_name-clause-some c =
    rw c.word_len-len.ensures.value
    (some_pass is_name_byte c.args.bytes.now c.requires (rw (sym c.begins_name.ensures ∙ c.if-begins_name.true) refl))

pub returns-then-is_digit-clause-value : goal.returns-then-is_digit-clause-value
returns-then-is_digit-clause-value c = search rules

pub returns-then-is_digit-clause-some : goal.returns-then-is_digit-clause-some
returns-then-is_digit-clause-some c =
    rw c.digits_len-len.ensures.value
    (some_pass digit c.args.bytes.now c.requires (sym c.is_digit.ensures ∙ c.if-is_digit.true))

pub returns-else-is_digit-clause-value : goal.returns-else-is_digit-clause-value
returns-else-is_digit-clause-value c =
    rw c.signs.ensures
    (sign_first c.args.bytes.now c.requires (sym c.begins_name.ensures ∙ c.if-begins_name.false) (sym c.is_digit.ensures ∙ c.if-is_digit.false))

pub returns-else-is_digit-clause-some : goal.returns-else-is_digit-clause-some
returns-else-is_digit-clause-some c = rw (ap (λ (p : Symbol × ℕ). p.1) c.signs.ensures) (sign_len c.args.bytes.now c.requires).0

pub returns-else-is_digit-clause-within : goal.returns-else-is_digit-clause-within
returns-else-is_digit-clause-within c = rw (ap (λ (p : Symbol × ℕ). p.1) c.signs.ensures) (sign_len c.args.bytes.now c.requires).1
