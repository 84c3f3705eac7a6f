-- Names and the canonical texts of predicates are UTF-8.
use Rattle.std.proofs.Common.{◌≡◌, ℕ, ◌<◌, ◌^◌, ◌==◌, ◌&&◌, Bool, true, false, not, cond, IsTrue, List, [], ◌∷◌, ◌++◌, length, codes, decimal, ℤ, pos, negsuc, nat_abs, nat_le, IsUtf8, IsAscii, refl, arith}
use Rattle.std.specs.Prelude.{All}
use Rattle.std.specs.List.{list_all}
use Rattle.std.specs.Str.{bytes_eq}
use Rattle.std.specs.Fmt.{signed_decimal}
use Rattle.std.proofs.lemmas.Bool.{and_parts, leb-true}
use Rattle.std.proofs.lemmas.Fmt.{IsAscii-decimal, IsAscii-signed}
use Rattle.std.proofs.lemmas.List.Elements.{All-head, All-tail}
use Rattle.std.proofs.lemmas.Str.{IsUtf8-append, IsUtf8-from_ascii}
use Rattle.std.proofs.lemmas.Str.Ascii.{IsAscii-nil, IsAscii-cons}
use Rattle.json.proofs.Printed.Utf8.{IsUtf8-are_ascii}
use Rattle.pop_io.specs.declared.names.TheConstants.{NAME_LIMIT}
use Rattle.pop_io.specs.Names.{is_name_byte, starts_name, variable_name, is_printed, state_name}
use Rattle.pres_ast.specs.PredTree.{PredTree, LessThan, Congruent, Negation, Conjunction, Disjunction}
use Rattle.pres_ast.specs.PredModel.{HasAtoms}
use Rattle.pres_read.specs.Canonical.{is_zero, is_negative, term_text, sign_text, terms_text, zero_text, sum_text, tree_text}

ascii_by : (p : ℕ → Bool) → ((b : ℕ) → p b ≡ true → b < 128) → (s : List ℕ) → list_all p s ≡ true → IsAscii s
ascii_by p low [] h = IsAscii-nil
ascii_by p low (b ∷ s) h = let parts = and_parts (p b) (list_all p s) h in IsAscii-cons b s (low b parts.0) (ascii_by p low s parts.1)

printed_low : (b : ℕ) → is_printed b ≡ true → b < 128
printed_low b h =
    let both = and_parts (nat_le 33 b && nat_le b 126) (not (b == 47)) h in
    let low = leb-true b 126 (and_parts (nat_le 33 b) (nat_le b 126) both.0).1 in
    omega (arith, low)

name_byte_low : (b : ℕ) → is_name_byte b ≡ true → b < 128
name_byte_low b h = grind (arith, h)

pub state_utf8 : (name : List ℕ) → IsTrue (state_name name) → IsUtf8 name
state_utf8 name h =
    let shorter = and_parts (nat_le 1 (length name) && list_all is_printed name) (nat_le (length name) NAME_LIMIT) h in
    let printed = (and_parts (nat_le 1 (length name)) (list_all is_printed name) shorter.0).1 in
    IsUtf8-from_ascii name (ascii_by is_printed printed_low name printed)

pub variable_utf8 : (name : List ℕ) → IsTrue (variable_name name) → IsUtf8 name
variable_utf8 name h =
    let other = and_parts (starts_name name && list_all is_name_byte name && nat_le (length name) NAME_LIMIT) (not (bytes_eq name (codes "mod"))) h in
    let shorter = and_parts (starts_name name && list_all is_name_byte name) (nat_le (length name) NAME_LIMIT) other.0 in
    let bytes = (and_parts (starts_name name) (list_all is_name_byte name) shorter.0).1 in
    IsUtf8-from_ascii name (ascii_by is_name_byte name_byte_low name bytes)

decimal_utf8 : (n : ℕ) → n < 2 ^ 63 → IsUtf8 (decimal n)
decimal_utf8 n small = IsUtf8-from_ascii (decimal n) (IsAscii-decimal n (omega (arith, small)))

signed_utf8 : (z : ℤ) → nat_abs z < 2 ^ 63 → IsUtf8 (signed_decimal z)
signed_utf8 (pos n) small = IsUtf8-from_ascii (signed_decimal (pos n)) (IsAscii-signed (pos n) (omega (arith, small)))
signed_utf8 (negsuc n) small = IsUtf8-from_ascii (signed_decimal (negsuc n)) (IsAscii-signed (negsuc n) (omega (arith, small)))

abbrev IsSmall : ℤ → Type 0
IsSmall a = nat_abs a < 2 ^ 63

either : (b : Bool) (s t : List ℕ) → IsUtf8 s → IsUtf8 t → IsUtf8 (cond b s t)
either true s t one other = one
either false s t one other = other

term_utf8 : (k : ℕ) (name : List ℕ) → k < 2 ^ 63 → IsUtf8 name → IsUtf8 (term_text k name)
term_utf8 k name small named =
    either (k == 1) name (decimal k ++ codes "*" ++ name) named
    (IsUtf8-append _ _ (IsUtf8-append _ _ (decimal_utf8 k small) (IsUtf8-are_ascii (codes "*") refl)) named)

sign_utf8 : (first negative : Bool) → IsUtf8 (sign_text first negative)
sign_utf8 true false = IsUtf8-are_ascii [] refl
sign_utf8 true true = IsUtf8-are_ascii (codes "-") refl
sign_utf8 false false = IsUtf8-are_ascii (codes " + ") refl
sign_utf8 false true = IsUtf8-are_ascii (codes " - ") refl

terms_utf8 : (first : Bool) (names : List (List ℕ)) (coefs : List ℤ) → All IsUtf8 names → All IsSmall coefs → IsUtf8 (terms_text first names coefs)
terms_utf8 first [] coefs named small = IsUtf8-are_ascii [] refl
terms_utf8 first (name ∷ names) [] named small = IsUtf8-are_ascii [] refl
terms_utf8 first (name ∷ names) (a ∷ coefs) named small =
    let others = All-tail IsUtf8 name names named in
    let smaller = All-tail IsSmall a coefs small in
    let term = term_utf8 (nat_abs a) name (All-head IsSmall a coefs small) (All-head IsUtf8 name names named) in
    either (is_zero a) (terms_text first names coefs) _ (terms_utf8 first names coefs others smaller)
    (IsUtf8-append _ _ (IsUtf8-append _ _ (sign_utf8 first (is_negative a)) term) (terms_utf8 false names coefs others smaller))

zero_utf8 : (names : List (List ℕ)) → All IsUtf8 names → IsUtf8 (zero_text names)
zero_utf8 [] named = IsUtf8-are_ascii (codes "0*") refl
zero_utf8 (name ∷ names) named = IsUtf8-append _ _ (IsUtf8-are_ascii (codes "0*") refl) (All-head IsUtf8 name names named)

sum_utf8 : (names : List (List ℕ)) (coefs : List ℤ) → All IsUtf8 names → All IsSmall coefs → IsUtf8 (sum_text names coefs)
sum_utf8 names coefs named small =
    either (list_all is_zero coefs) (zero_text names) (terms_text true names coefs) (zero_utf8 names named) (terms_utf8 true names coefs named small)

module _ (names : List (List ℕ)) (named : All IsUtf8 names) where
  two_utf8 : (p sign q : List ℕ) → IsUtf8 sign → IsUtf8 p → IsUtf8 q → IsUtf8 (codes "(" ++ p ++ sign ++ q ++ codes ")")
  two_utf8 p sign q between one other =
      IsUtf8-append _ _
      (IsUtf8-append _ _ (IsUtf8-append _ _ (IsUtf8-append _ _ (IsUtf8-are_ascii (codes "(") refl) one) between) other)
      (IsUtf8-are_ascii (codes ")") refl)

  pub tree_utf8 : (t : PredTree) → HasAtoms (length names) t → IsUtf8 (tree_text names t)
  tree_utf8 (LessThan coefs bound) atoms =
      let sum = sum_utf8 names coefs named (λ i a within. omega (arith, atoms.0.1 i a within)) in
      IsUtf8-append _ _ (IsUtf8-append _ _ sum (IsUtf8-are_ascii (codes " < ") refl)) (signed_utf8 bound (omega (arith, atoms.1)))
  tree_utf8 (Congruent coefs m rest) atoms =
      let sum = sum_utf8 names coefs named (λ i a within. omega (arith, atoms.0.1 i a within)) in
      let left = IsUtf8-append _ _ sum (IsUtf8-are_ascii (codes " = ") refl) in
      let equal = IsUtf8-append _ _ left (decimal_utf8 rest (omega (arith, atoms.2, atoms.3))) in
      IsUtf8-append _ _ (IsUtf8-append _ _ equal (IsUtf8-are_ascii (codes " mod ") refl)) (decimal_utf8 m (omega (arith, atoms.2)))
  tree_utf8 (Negation p) atoms = IsUtf8-append _ _ (IsUtf8-are_ascii (codes "!") refl) (tree_utf8 p atoms)
  tree_utf8 (Conjunction p q) atoms =
      two_utf8 (tree_text names p) (codes " && ") (tree_text names q) (IsUtf8-are_ascii (codes " && ") refl) (tree_utf8 p atoms.0) (tree_utf8 q atoms.1)
  tree_utf8 (Disjunction p q) atoms =
      two_utf8 (tree_text names p) (codes " || ") (tree_text names q) (IsUtf8-are_ascii (codes " || ") refl) (tree_utf8 p atoms.0) (tree_utf8 q atoms.1)
