-- Data whose text is UTF-8 and is read back.
use Rattle.std.proofs.Common.{◌≡◌, ℕ, ◌+◌, ◌≤◌, ◌<◌, ◌^◌, Bool, true, false, not, ◌&&◌, ◌==◌, zero, suc, inl, inr, List, [], ◌∷◌, ◌++◌, map, ℤ, pos, negsuc, nat_abs, Option, Some, option_map, option_and_then, decimal, IsUtf8, refl, sym, ap, ◌∙◌, arith, append-nil}
use Rattle.std.specs.Prelude.{All}
use Rattle.std.specs.Fmt.{signed_decimal}
use Rattle.std.specs.List.{list_any}
use Rattle.std.proofs.lemmas.Bool.{and_parts, not-true, ne_eqb, cases_eq, cases_lt}
use Rattle.std.proofs.lemmas.List.Elements.{All-head, All-tail}
use Rattle.std.proofs.lemmas.Str.{IsUtf8-append, IsUtf8-from_ascii}
use Rattle.std.proofs.lemmas.Fmt.{IsAscii-decimal, IsAscii-signed}
use Rattle.json.specs.Json as json
use Rattle.json.specs.Token.{Token}
use Rattle.json.specs.Lex.{tokens}
use Rattle.json.specs.Print.{escape_byte, escape, quoted, token_text}
use Rattle.json.specs.Tree.{HasNumbers, ItemsHaveNumbers, MembersHaveNumbers, json_tokens, depth as nesting, items_depth as items_nesting, members_depth as members_nesting}
use Rattle.json.proofs.Printed.Decimals.{IsNumber-decimal, IsNumber-signed_decimal}
use Rattle.json.proofs.Printed.Strings.{escape_byte_plain}
use Rattle.json.proofs.Printed.Tokens.{tokens-print}
use Rattle.json.proofs.Printed.Trees.{value-json_tokens, ArePrintable-json_tokens}
use Rattle.json.proofs.Printed.Utf8.{IsUtf8-are_ascii, IsUtf8-quoted, IsUtf8-boolean}
use Rattle.serde_json.specs.Data.{Data, Items, Members, no_items, item, no_members, member, unsigned, boolean, number, string, array, object, put}
use Rattle.serde_json.specs.Find.{of_integer}
use Rattle.serde_json.specs.Read.{of_json, of_items, of_members, read, max_depth}
use Rattle.serde_json.specs.View.{items_of}
use Rattle.serde_json.specs.Written.{outline, items_outline, members_outline, compact_text, items_text, members_text, comma_if}
use Rattle.serde_json.proofs.Numbers.{number_of-decimal, number_of-negative}
use Rattle.serde_json.proofs.Texts.{print-outline}
use Rattle.base_lines.proofs.Unbroken.{IsUnbroken, both_unbroken, decimal_unbroken}

-- the text of d is UTF-8 without a line feed, and is read to d, which nests at most n deep
pub record IsReadable (n : ℕ) (d : Data) : Type 0 where
  pub numbers : HasNumbers (outline d)
  pub again : of_json (outline d) ≡ Some d
  pub nests : nesting (outline d) ≤ n
  pub utf8 : IsUtf8 (compact_text d)
  pub unbroken : IsUnbroken (compact_text d)

-- the value of what was read, if nothing is left
abbrev whole : Option (json.Json × List Token) → Option Data
whole found = option_and_then of_json (option_and_then (λ p. json.if_last p.0 p.1) found)

pub read_again : (n : ℕ) (d : Data) → n ≤ max_depth → IsReadable n d → read (compact_text d) ≡ Some d
read_again n d shallow is =
    let j = outline d in
    let same : tokens (compact_text d) ≡ json_tokens j ++ [] =
    ap tokens (sym (print-outline d)) ∙ tokens-print (json_tokens j) (ArePrintable-json_tokens j is.numbers) ∙ sym (append-nil (json_tokens j)) in
    ap whole (ap (json.value max_depth) same ∙ value-json_tokens j max_depth [] (omega (arith, shallow, is.nests))) ∙ is.again

pub readable_within : (m n : ℕ) (d : Data) → m ≤ n → IsReadable m d → IsReadable n d
readable_within m n d few is = record { numbers = is.numbers; again = is.again; nests = omega (arith, few, is.nests); utf8 = is.utf8; unbroken = is.unbroken }

pub readable_number : (n : ℕ) → n < 2 ^ 64 → IsReadable 0 (number (unsigned n))
readable_number n small =
    record {
      numbers = IsNumber-decimal n small;
      again = ap (option_map number) (number_of-decimal n small);
      nests = omega arith;
      utf8 = IsUtf8-from_ascii (decimal n) (IsAscii-decimal n small);
      unbroken = decimal_unbroken n small;
    }

pub readable_integer : (z : ℤ) → nat_abs z < 2 ^ 63 → IsReadable 0 (number (of_integer z))
readable_integer (pos n) small = readable_number n (omega (arith, small))
readable_integer (negsuc n) small =
    record {
      numbers = IsNumber-signed_decimal (negsuc n) (omega (arith, small));
      again = ap (option_map number) (number_of-negative n (omega (arith, small)));
      nests = omega arith;
      utf8 = IsUtf8-from_ascii (signed_decimal (negsuc n)) (IsAscii-signed (negsuc n) (omega (arith, small)));
      unbroken = decimal_unbroken (suc n) (omega (arith, small));
    }

truth_unbroken : (b : Bool) → IsUnbroken (token_text (Token.boolean b))
truth_unbroken true = refl
truth_unbroken false = refl

pub readable_boolean : (b : Bool) → IsReadable 0 (boolean b)
readable_boolean b = record { numbers = tt; again = refl; nests = omega arith; utf8 = IsUtf8-boolean b; unbroken = truth_unbroken b }

-- the escapes of the bytes below n have no line feed
abbrev unbroken_below : ℕ → Bool
unbroken_below zero = true
unbroken_below (suc n) = not (list_any (λ b. b == 10) (escape_byte n)) && unbroken_below n

byte_below : (n : ℕ) → unbroken_below n ≡ true → (b : ℕ) → b < n → IsUnbroken (escape_byte b)
byte_below zero e b less = absurd (omega arith)
byte_below (suc n) e b less =
    let both = and_parts (not (list_any (λ b. b == 10) (escape_byte n))) (unbroken_below n) e in
    elim (cases_eq b n) [ inl same ↦ rw same (not-true _ both.0) | inr other ↦ byte_below n both.1 b (omega arith) ]

all_below : unbroken_below 128 ≡ true
unfolding escape_byte
all_below = refl

byte_unbroken : (b : ℕ) → IsUnbroken (escape_byte b)
byte_unbroken b = elim (cases_lt b 128) [
  | inl low ↦ byte_below 128 all_below b low
  | inr high ↦
      let plain : escape_byte b ≡ b ∷ [] = escape_byte_plain b (λ e. omega arith) (λ e. omega arith) (omega arith) in
      rw (plain, ne_eqb b 10 (λ e. omega arith)) refl
]

escape_unbroken : (s : List ℕ) → IsUnbroken (escape s)
escape_unbroken [] = refl
escape_unbroken (b ∷ s) = both_unbroken (escape_byte b) (escape s) (byte_unbroken b) (escape_unbroken s)

pub readable_string : (s : List ℕ) → IsUtf8 s → IsReadable 0 (string s)
readable_string s u = record { numbers = tt; again = refl; nests = omega arith; utf8 = IsUtf8-quoted s u; unbroken = both_unbroken (escape s) (34 ∷ []) (escape_unbroken s) refl }

comma_utf8 : (later : Bool) → IsUtf8 (comma_if later)
comma_utf8 true = IsUtf8-are_ascii (44 ∷ []) refl
comma_utf8 false = IsUtf8-are_ascii [] refl

comma_unbroken : (later : Bool) → IsUnbroken (comma_if later)
comma_unbroken true = refl
comma_unbroken false = refl

-- the same for all items of a list
pub record AreReadable (n : ℕ) (ds : Items) : Type 0 where
  pub numbers : ItemsHaveNumbers (items_outline ds)
  pub again : of_items (items_outline ds) ≡ Some ds
  pub nest : items_nesting (items_outline ds) ≤ n
  pub utf8 : (later : Bool) → IsUtf8 (items_text later ds)
  pub unbroken : (later : Bool) → IsUnbroken (items_text later ds)

pub none_readable : (n : ℕ) → AreReadable n no_items
none_readable n = record { numbers = tt; again = refl; nest = omega arith; utf8 = λ later. IsUtf8-are_ascii (93 ∷ []) refl; unbroken = λ later. refl }

pub one_more : (n : ℕ) (d : Data) (ds : Items) → IsReadable n d → AreReadable n ds → AreReadable n (item d ds)
one_more n d ds one more =
    record {
      numbers = (one.numbers, more.numbers);
      again = rw (one.again, more.again) refl;
      nest = omega (arith, one.nests, more.nest);
      utf8 = λ later. IsUtf8-append _ _ (comma_utf8 later) (IsUtf8-append _ _ one.utf8 (more.utf8 true));
      unbroken = λ later. both_unbroken (comma_if later) _ (comma_unbroken later) (both_unbroken (compact_text d) _ one.unbroken (more.unbroken true));
    }

pub readable_array : (n : ℕ) (ds : Items) → AreReadable n ds → IsReadable (n + 1) (array ds)
readable_array n ds are =
    record {
      numbers = are.numbers;
      again = ap (option_map array) are.again;
      nests = omega (arith, are.nest);
      utf8 = IsUtf8-append (91 ∷ []) _ (IsUtf8-are_ascii (91 ∷ []) refl) (are.utf8 false);
      unbroken = are.unbroken false;
    }

module _ {A : Type 0} (P : A → Type 0) (f : A → Data) (n : ℕ) (one : (x : A) → P x → IsReadable n (f x)) where
  all_readable : (xs : List A) → All P xs → AreReadable n (items_of (map f xs))
  all_readable [] all = none_readable n
  all_readable (x ∷ xs) all = one_more n (f x) (items_of (map f xs)) (one x (All-head P x xs all)) (all_readable xs (All-tail P x xs all))

  pub readable_list : (xs : List A) → All P xs → IsReadable (n + 1) (array (items_of (map f xs)))
  readable_list xs all = readable_array n (items_of (map f xs)) (all_readable xs all)

-- the members, put into others one after the other
abbrev pub put_all : Members → Members → Members
put_all no_members found = found
put_all (member k d ms) found = put_all ms (put k d found)

-- the same for the values of members, and what results when they are put into others
pub record ReadTogether (n : ℕ) (ms : Members) : Type 0 where
  pub numbers : MembersHaveNumbers (members_outline ms)
  pub again : (found : Members) → of_members (members_outline ms) found ≡ Some (put_all ms found)
  pub nest : members_nesting (members_outline ms) ≤ n
  pub utf8 : (later : Bool) → IsUtf8 (members_text later ms)
  pub unbroken : (later : Bool) → IsUnbroken (members_text later ms)

pub no_member : (n : ℕ) → ReadTogether n no_members
no_member n = record { numbers = tt; again = λ found. refl; nest = omega arith; utf8 = λ later. IsUtf8-are_ascii (125 ∷ []) refl; unbroken = λ later. refl }

pub with_member : (n : ℕ) (k : List ℕ) (d : Data) (ms : Members) → IsUtf8 k → IsReadable n d → ReadTogether n ms → ReadTogether n (member k d ms)
with_member n k d ms key one more =
    record {
      numbers = (one.numbers, more.numbers);
      again = λ found. rw one.again (more.again (put k d found));
      nest = omega (arith, one.nests, more.nest);
      utf8 = λ later.
          IsUtf8-append _ _ (comma_utf8 later)
          (IsUtf8-append _ _ (IsUtf8-quoted k key) (IsUtf8-append (58 ∷ []) _ (IsUtf8-are_ascii (58 ∷ []) refl) (IsUtf8-append _ _ one.utf8 (more.utf8 true))));
      unbroken = λ later.
          both_unbroken (comma_if later) _ (comma_unbroken later)
          (both_unbroken (quoted k) _ (both_unbroken (escape k) (34 ∷ []) (escape_unbroken k) refl)
          (both_unbroken (compact_text d) _ one.unbroken (more.unbroken true)));
    }

pub readable_object : (n : ℕ) (ms : Members) → ReadTogether n ms → put_all ms no_members ≡ ms → IsReadable (n + 1) (object ms)
readable_object n ms are ordered =
    record {
      numbers = are.numbers;
      again = ap (option_map object) (are.again no_members ∙ ap (λ (m : Members). Some m) ordered);
      nests = omega (arith, are.nest);
      utf8 = IsUtf8-append (123 ∷ []) _ (IsUtf8-are_ascii (123 ∷ []) refl) (are.utf8 false);
      unbroken = are.unbroken false;
    }
