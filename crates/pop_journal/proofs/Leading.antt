-- Meeting lines of short numbers.
use Rattle.std.proofs.Common.{◌≡◌, ◌≢◌, ◌⊎◌, inl, inr, ℕ, ◌+◌, ◌-◌, ◌*◌, ◌^◌, ◌<◌, ◌≤◌, Bool, List, [], ◌∷◌, ◌++◌, length, codes, decimal, take, drop, get_or, Some, refl, sym, ap, subst, ◌∙◌, arith, if◌then◌else◌, append_assoc, pow-add}
use Rattle.std.specs.Char.{digit_value}
use Rattle.std.specs.Int.{IsInRange}
use Rattle.std.specs.Str.Parse.{digits_value}
use Rattle.std.proofs.Math.Nat.{pow-le-pow_right}
use Rattle.std.proofs.lemmas.Bool.{cases_eq}
use Rattle.std.proofs.lemmas.List.{take-append-drop, get_or-take, length-take-le}
use Rattle.std.proofs.lemmas.Fmt.{decimal_digit, decimal-digits_value}
use Rattle.std.proofs.lemmas.Str.{digit_value_digit}
use Rattle.std.proofs.lemmas.Str.Parse.{IsNumeralModel, numerals_by_value, tells_by_index}
use Rattle.std.proofs.lemmas.Int.Digits.{digits_value_more}
use Rattle.pop_crowd.specs.declared.crowd.Meeting.{Meeting}
use Rattle.base_lines.specs.Lines.{lines_of}
use Rattle.pop_journal.specs.Form.{Tells}
use Rattle.run_text.specs.Journal.{meeting_line}
use Rattle.pop_journal.proofs.Spelled.{IsSmall, joined_right}
use Rattle.base_lines.proofs.Unbroken.{line_first}
use Rattle.pop_journal.proofs.Feeds.{meeting_unbroken}
use Rattle.pop_journal.proofs.FormLaws.{line_of}
use Rattle.pop_journal.proofs.ReadBack.{told_back}

abbrev AreDigits : List ℕ → Type 0
AreDigits ds = (k : ℕ) → k < length ds → IsInRange 48 57 (get_or ds k 0)

own : IsNumeralModel AreDigits (digits_value 10)
own = numerals_by_value AreDigits tells_by_index

-- the first i bytes are digits without a leading zero, and have this value
pub record IsLead (text : List ℕ) (i value : ℕ) : Type 0 where
  pub value_is : digits_value 10 (take i text) ≡ value
  pub digits : (k : ℕ) → k < i → IsInRange 48 57 (get_or text k 0)
  pub below : value < 10 ^ i
  pub few : i ≤ 9
  pub lead : 2 ≤ i → get_or text 0 0 ≢ 48

-- before the first digit
pub lead_none : (text : List ℕ) → IsLead text 0 0
lead_none text =
    record { value_is = refl; digits = λ k l. absurd (omega (arith, l)); below = omega arith; few = omega arith; lead = λ two. absurd (omega (arith, two)) }

-- one more digit stays below the next power
digit_more : (value digit i : ℕ) → value < 10 ^ i → digit < 10 → value * 10 + digit < 10 ^ (i + 1)
digit_more value digit i h small = omega (arith, pow-add 10 i 1)

pub below_top : (value digit i : ℕ) → value < 10 ^ i → digit < 10 → i < 9 → value * 10 + digit < 2 ^ 32
below_top value digit i h small few =
    let top : 10 ^ (i + 1) ≤ 10 ^ 9 = pow-le-pow_right {n = 10} (omega arith) {j = 9} (omega (arith, few)) in
    omega (arith, digit_more value digit i h small, top)

-- at most nine digits
pub below_all : (text : List ℕ) (i value : ℕ) → IsLead text i value → value < 2 ^ 64
below_all text i value h =
    let top : 10 ^ i ≤ 10 ^ 9 = pow-le-pow_right {n = 10} (omega arith) {j = 9} h.few in
    let below = h.below in
    omega (arith, below, top)

first_zero : (text : List ℕ) (value : ℕ) → 0 < length text → digits_value 10 (take 1 text) ≡ value → get_or text 0 0 ≡ 48 → value ≡ 0
first_zero [] value some is e = absurd (omega (arith, some))
first_zero (x ∷ xs) value some is e =
    let one : 0 * 10 + digit_value x ≡ value = is in
    let zero_digit : digit_value x ≡ digit_value 48 = ap digit_value e in
    let of_zero : digit_value 48 + 48 ≡ 48 = digit_value_digit 48 (omega arith, omega arith) in
    omega (arith, one, zero_digit, of_zero)

-- one more digit
pub lead_more : (text : List ℕ) (i value c : ℕ) → IsLead text i value → i < length text → get_or text i 0 ≡ c → IsInRange 48 57 c → i ≢ 9 → (i ≡ 1 → value ≢ 0) → IsLead text (i + 1) (value * 10 + (c - 48))
lead_more text i value c h within at digit short no_zero =
    record {
      value_is = digits_value_more 10 text i within ∙ (λ j. h.value_is j * 10 + last j);
      digits = λ k l. by_place k l (cases_eq k i);
      below = digit_more value (c - 48) i h.below (omega (arith, digit.0, digit.1));
      few = omega (arith, h.few, short);
      lead = λ two e. by_first two e (cases_eq i 1);
    }
  where
    last : digit_value (get_or text i 0) ≡ c - 48
    last = ap digit_value at ∙ (let v = digit_value_digit c digit in omega (arith, v))

    by_place : (k : ℕ) → k < i + 1 → (k ≡ i) ⊎ (k ≢ i) → IsInRange 48 57 (get_or text k 0)
    by_place k l (inl same) = subst (IsInRange 48 57) (sym at ∙ ap (λ (j : ℕ). get_or text j 0) (sym same)) digit
    by_place k l (inr other) = h.digits k (omega (arith, l, other))

    by_first : 2 ≤ i + 1 → get_or text 0 0 ≡ 48 → (i ≡ 1) ⊎ (i ≢ 1) → ⊥
    by_first two e (inl one) = no_zero one (first_zero text value (omega (arith, within)) (subst (λ (j : ℕ). digits_value 10 (take j text) ≡ value) one h.value_is) e)
    by_first two e (inr other) = h.lead (omega (arith, two, other)) e

-- digits after a first one that isn't zero
pub record IsLeadOn (text : List ℕ) (i value : ℕ) : Type 0 where
  pub lead : IsLead text i value
  pub some : 1 ≤ i
  pub no_zero : value ≢ 0

pub lead_first : (text : List ℕ) (c : ℕ) → 0 < length text → get_or text 0 0 ≡ c → IsInRange 48 57 c → c - 48 ≢ 0 → IsLeadOn text 1 (c - 48)
lead_first text c within at digit other =
    let none : 0 * 10 + (c - 48) ≡ c - 48 = omega arith in
    let one : IsLead text 1 (0 * 10 + (c - 48)) = lead_more text 0 0 c (lead_none text) within at digit (omega arith) (λ e. absurd (omega (arith, e))) in
    record { lead = subst (λ (v : ℕ). IsLead text 1 v) none one; some = omega arith; no_zero = other }

pub lead_on : (text : List ℕ) (i value c : ℕ) → IsLeadOn text i value → i < length text → get_or text i 0 ≡ c → IsInRange 48 57 c → i < 9 → IsLeadOn text (i + 1) (value * 10 + (c - 48))
lead_on text i value c h within at digit short =
    record {
      lead = lead_more text i value c h.lead within at digit (omega (arith, short)) (λ _. h.no_zero);
      some = omega arith;
      no_zero = λ e. let was = h.no_zero in was (omega (arith, e));
    }

-- the number 0 alone
pub lead_zero : (text rest : List ℕ) (c : ℕ) → text ≡ c ∷ rest → IsInRange 48 57 c → c - 48 ≡ 0 → text ≡ decimal 0 ++ rest
lead_zero text rest c e digit none =
    let is : c ≡ 48 = omega (arith, digit.0, none) in
    e ∙ ap (λ (x : ℕ). x ∷ rest) is ∙ ap (λ (ds : List ℕ). ds ++ rest) (sym (decimal_digit 0 (omega arith)))

-- a text that begins with a number
pub lead_number : (text : List ℕ) (i value : ℕ) → IsLead text i value → 0 < i → i ≤ length text → value < 2 ^ 64 → text ≡ decimal value ++ drop i text
lead_number text i value h some within small =
    let long : length (take i text) ≡ i = length-take-le i text within in
    let digits : AreDigits (take i text) = λ k l. let m : k < i = omega (arith, l, long) in subst (IsInRange 48 57) (sym (get_or-take i text k 0 m)) (h.digits k m) in
    let alone : get_or (take i text) 0 0 ≡ 48 → length (take i text) ≡ 1 =
    λ e. let first : get_or text 0 0 ≡ 48 = sym (get_or-take i text 0 0 some) ∙ e in let not_two : 2 ≤ i → ⊥ = λ two. h.lead two first in omega (arith, long, some, not_two) in
    let fits : digits_value 10 (take i text) < 2 ^ 64 = subst (λ (v : ℕ). v < 2 ^ 64) (sym h.value_is) small in
    let told : decimal (digits_value 10 (take i text)) ≡ take i text = decimal-digits_value own (take i text) digits (omega (arith, long, some)) alone fits in
    sym (take-append-drop i text) ∙ ap (λ (l : List ℕ). l ++ drop i text) (sym told ∙ ap decimal h.value_is)

-- a line of three numbers and a mark, and what follows it
pub short_told : (text r s t u v more : List ℕ) (w a b : ℕ) (mark : Bool) → text ≡ decimal w ++ r → r ≡ 32 ∷ s → s ≡ decimal a ++ t → t ≡ 32 ∷ u → u ≡ decimal b ++ v
    → v ≡ (if mark then codes " *" else []) ++ 10 ∷ more → w < 2 ^ 64 → a < 2 ^ 64 → b < 2 ^ 64 → Tells (lines_of text) (Some (line_of w a b mark)) (lines_of more)
short_told text r s t u v more w a b mark e f g h k l lw la lb =
    subst (λ (ls : List (List ℕ)). Tells ls (Some (line_of w a b mark)) (lines_of more)) (sym cut) (told_back m small, refl)
  where
    m : Meeting
    m = record { worker = w; a = a; b = b; changed = mark }

    small : IsSmall m
    small = record { worker = lw; a = la; b = lb }

    sign : List ℕ
    sign = if mark then codes " *" else []

    spelled : text ≡ decimal w ++ 32 ∷ (decimal a ++ 32 ∷ (decimal b ++ (sign ++ 10 ∷ more)))
    spelled =
        e
        ∙ ap (λ (x : List ℕ). decimal w ++ x) f
        ∙ ap (λ (x : List ℕ). decimal w ++ 32 ∷ x) g
        ∙ ap (λ (x : List ℕ). decimal w ++ 32 ∷ (decimal a ++ x)) h
        ∙ ap (λ (x : List ℕ). decimal w ++ 32 ∷ (decimal a ++ 32 ∷ x)) k
        ∙ ap (λ (x : List ℕ). decimal w ++ 32 ∷ (decimal a ++ 32 ∷ (decimal b ++ x))) l

    joined : meeting_line m ++ 10 ∷ more ≡ decimal w ++ 32 ∷ (decimal a ++ 32 ∷ (decimal b ++ (sign ++ 10 ∷ more)))
    joined =
        ap (λ (x : List ℕ). x ++ 10 ∷ more) (joined_right m)
        ∙ append_assoc (decimal w) (32 ∷ (decimal a ++ 32 ∷ (decimal b ++ sign))) (10 ∷ more)
        ∙ ap (λ (x : List ℕ). decimal w ++ 32 ∷ x) (append_assoc (decimal a) (32 ∷ (decimal b ++ sign)) (10 ∷ more) ∙ ap (λ (x : List ℕ). decimal a ++ 32 ∷ x) (append_assoc (decimal b) sign (10 ∷ more)))

    cut : lines_of text ≡ meeting_line m ∷ lines_of more
    cut = ap lines_of (spelled ∙ sym joined ∙ sym (append_assoc (meeting_line m) (10 ∷ []) more)) ∙ line_first (meeting_line m) more (meeting_unbroken m small)
