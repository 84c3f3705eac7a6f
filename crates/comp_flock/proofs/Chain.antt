-- What the states are worth: each is worth more than the one before it, and the last is worth c.
use Rattle.std.proofs.Common.{◌≡◌, ◌⊎◌, ◌∙◌, inl, inr, subst, ℕ, zero, suc, ◌+◌, ◌-◌, ◌^◌, ◌%◌, ◌<◌, ◌≤◌, Bool, true, false, List, ◌∷◌, ◌++◌, length, map, get_or, refl, ap, sym, zero-add, arith}
use Rattle.std.specs.Prelude.{if◌then◌else◌}
use Rattle.std.specs.List.{range_with_len}
use Rattle.std.proofs.Math.ListN.{get_or-append}
use Rattle.std.proofs.lemmas.Bool.{cases_lt, le-leb}
use Rattle.std.proofs.lemmas.Nat.{mod_below}
use Rattle.std.proofs.lemmas.List.{length-append, get_or-append-add}
use Rattle.std.proofs.lemmas.List.FromFn.{length-map-range_with_len, get_or-map-range_with_len}
use Rattle.comp_trees.specs.Bits.{has_bit}
use Rattle.comp_trees.proofs.Bits.{some_power, more_bits, no_bits, all_bits}
use Rattle.comp_flock.specs.Covered.{IsNext, IsChain}
use Rattle.comp_flock.specs.PrefixLeaf.{prefixes, worths}
use Rattle.comp_flock.specs.CountLeaf.{worth_in}

-- ---- the prefixes

record ArePrefixes (c i v : ℕ) (xs : List ℕ) : Type 0 where
  few : length xs ≤ i
  last : get_or (v ∷ xs) (length xs) 0 ≡ c
  steps : (j : ℕ) → j < length xs → IsNext c i (get_or (v ∷ xs) j 0) (get_or xs j 0)

mod_most : (c i : ℕ) → c % 2 ^ i ≤ c
mod_most c i = go (cases_lt c (2 ^ i))
  where
    go : (c < 2 ^ i) ⊎ (2 ^ i ≤ c) → c % 2 ^ i ≤ c
    go (inl l) = let e = all_bits c i l in omega (arith, e)
    go (inr l) = let b = mod_below c (2 ^ i) (some_power i) in omega (arith, b, l)

next_higher : (c i m before here : ℕ) → i ≤ m → IsNext c i before here → IsNext c m before here
next_higher c i m before here l is = record { place = is.place; low = (let a = is.low in omega (arith, a, l)); next = is.next; most = is.most }

-- with one more place
module _ (c i : ℕ) (rest : ArePrefixes c i (c - c % 2 ^ i) (prefixes c i)) where
  abbrev here : ℕ
  here = c - c % 2 ^ i

  abbrev before : ℕ
  before = c - c % 2 ^ suc i

  bits : c % 2 ^ suc i ≡ c % 2 ^ i + (if has_bit c i then 2 ^ i else 0)
  bits = ap (λ m. c % 2 ^ m) (let e : suc i ≡ i + 1 = omega arith in e) ∙ more_bits c i

  step : c % 2 ^ suc i ≡ c % 2 ^ i + 2 ^ i → (j : ℕ) → j < length (here ∷ prefixes c i) → IsNext c (suc i) (get_or (before ∷ here ∷ prefixes c i) j 0) (get_or (here ∷ prefixes c i) j 0)
  step more zero l = record {
    place = i;
    low = omega arith;
    next = (let a = mod_most c (suc i) in omega (arith, more, a));
    most = (let b = mod_below c (2 ^ i) (some_power i) in let a = mod_most c i in omega (arith, a, b));
  }
  step more (suc j) l = next_higher c i (suc i) _ _ (omega arith) (rest.steps j (omega (arith, l)))

  one_more : (b : Bool) → has_bit c i ≡ b → ArePrefixes c (suc i) before (if b then (here ∷ prefixes c i) else prefixes c i)
  one_more true e = record {
    few = (let a = rest.few in omega (arith, a));
    last = rest.last;
    steps = step (bits ∙ ap (λ (b : Bool). c % 2 ^ i + (if b then 2 ^ i else 0)) e);
  }
  one_more false e =
      let same : here ≡ before = (let m = bits ∙ ap (λ (b : Bool). c % 2 ^ i + (if b then 2 ^ i else 0)) e in omega (arith, m)) in
      subst (λ v. ArePrefixes c (suc i) v (prefixes c i)) same
      (record {
        few = (let a = rest.few in omega (arith, a));
        last = rest.last;
        steps = λ j l. next_higher c i (suc i) _ _ (omega arith) (rest.steps j l);
      })

prefixes-are : (c i : ℕ) → ArePrefixes c i (c - c % 2 ^ i) (prefixes c i)
prefixes-are c zero = record {
  few = omega arith;
  last = (let none = no_bits c in omega (arith, none));
  steps = λ j l. absurd (omega (arith, l));
}
prefixes-are c (suc i) = one_more c i (prefixes-are c i) (has_bit c i) refl

-- ---- all states

module _ (c top : ℕ) (least : 2 ^ top ≤ c) (most : c < 2 ^ (top + 1)) where
  abbrev later : List ℕ
  later = prefixes c top

  abbrev front : List ℕ
  front = 0 ∷ map (λ i. 2 ^ i) (range_with_len 0 top)

  top_bits : c % 2 ^ top + (if has_bit c top then 2 ^ top else 0) ≡ c
  top_bits = sym (more_bits c top) ∙ all_bits c (top + 1) most

  set : has_bit c top ≡ true
  set = le-leb (2 ^ top) (c % 2 ^ (top + 1)) (let e = all_bits c (top + 1) most in omega (arith, e, least))

  first : c - c % 2 ^ top ≡ 2 ^ top
  first = let e = sym (ap (λ (b : Bool). c % 2 ^ top + (if b then 2 ^ top else 0)) set) ∙ top_bits in omega (arith, e)

  worths-are : worths c top ≡ front ++ (2 ^ top ∷ later)
  worths-are =
      ap (λ i. front ++ prefixes c i) (let e : top + 1 ≡ suc top = omega arith in e)
      ∙ ap (λ (b : Bool). front ++ (if b then ((c - c % 2 ^ top) ∷ later) else later)) set
      ∙ ap (λ v. front ++ (v ∷ later)) first

  are : ArePrefixes c top (2 ^ top) later
  are = subst (λ v. ArePrefixes c top v later) first (prefixes-are c top)

  front-long : length front ≡ top + 1
  front-long = omega (arith, length-map-range_with_len (λ i. 2 ^ i) 0 top)

  long : length (worths c top) ≡ top + length later + 2
  long = ap length worths-are ∙ (let e = length-append front (2 ^ top ∷ later) in omega (arith, e, front-long))

  at-front : (q : ℕ) → q < top + 1 → worth_in (worths c top) q ≡ get_or front q 0
  at-front q l = ap (λ ws. get_or ws q 0) worths-are ∙ get_or-append front (2 ^ top ∷ later) 0 q (omega (arith, front-long, l))

  at-later : (j : ℕ) → worth_in (worths c top) (top + 1 + j) ≡ get_or (2 ^ top ∷ later) j 0
  at-later j =
      ap (λ ws. get_or ws (top + 1 + j) 0) worths-are
      ∙ ap (λ n. get_or (front ++ (2 ^ top ∷ later)) (n + j) 0) (sym front-long)
      ∙ get_or-append-add front (2 ^ top ∷ later) j 0

  at-power : (i : ℕ) → (i < top) ⊎ (top ≤ i) → i ≤ top → worth_in (worths c top) (i + 1) ≡ 2 ^ i
  at-power i (inl l) m =
      at-front (i + 1) (omega (arith, l))
      ∙ ap (λ q. get_or front q 0) (let e : i + 1 ≡ suc i = omega arith in e)
      ∙ get_or-map-range_with_len (λ i. 2 ^ i) 0 top i i 0 l (zero-add i)
  at-power i (inr l) m =
      ap (worth_in (worths c top)) (let e : i + 1 ≡ top + 1 + 0 = omega (arith, l, m) in e)
      ∙ at-later 0
      ∙ ap (λ i. 2 ^ i) (let e : top ≡ i = omega (arith, l, m) in e)

  pub worths-chain : IsChain (worths c top) c top (top + length later)
  worths-chain = record {
    long = long;
    low = omega arith;
    few = (let a = are.few in omega (arith, a));
    nothing = at-front 0 (omega arith);
    powers = λ i l. at-power i (cases_lt i top) l;
    last = ap (worth_in (worths c top)) (let e : top + length later + 1 ≡ top + 1 + length later = omega arith in e) ∙ at-later (length later) ∙ are.last;
    below = most;
    steps = step;
  }
    where
      step : (q : ℕ) → top < q → q ≤ top + length later → IsNext c top (worth_in (worths c top) q) (worth_in (worths c top) (q + 1))
      step q l m =
          let j = q - (top + 1) in
          let here : top + 1 + j ≡ q = omega (arith, l) in
          let next : top + 1 + suc j ≡ q + 1 = omega (arith, l) in
          subst (λ v. IsNext c top v (worth_in (worths c top) (q + 1))) (sym (at-later j) ∙ ap (worth_in (worths c top)) here)
          (subst (λ v. IsNext c top (get_or (2 ^ top ∷ later) j 0) v) (sym (at-later (suc j)) ∙ ap (worth_in (worths c top)) next)
          (are.steps j (omega (arith, l, m))))
