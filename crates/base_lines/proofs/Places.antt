-- Writes at places of one buffer, one after another.
use Rattle.std.proofs.Common.{◌≡◌, ℕ, ◌+◌, ◌≤◌, List, ◌++◌, length, take, drop, ap, sym, ◌∙◌, arith, length-append, length-take, length-take-le, length-drop, take-add, take-take, take_at, drop_at}
use Rattle.std.proofs.lemmas.Slice.{take-put_mid}
use mathlib.Core.List.{append_assoc}
use borrow.Rule.Slice.PartMut.{put_mid, same_len_mid}
use Rattle.base_lines.specs.Places.{IsPlaced}

-- only the first n bytes of a write are kept
placed_less : {a b xs : List ℕ} {i j : ℕ} (n : ℕ) → i ≤ length a → n ≤ length xs → IsPlaced a b i xs j → IsPlaced a b i (take n xs) (i + n)
placed_less {a} {b} {xs} {i} {j} n within few p =
    let before = length-take-le i a within in
    record {
      front = sym (take-take (i + n) j b (omega (arith, p.moved))) ∙ ap (take (i + n)) p.front ∙ take-add i n (take i a ++ xs)
          ∙ (λ k. take_at (take i a) xs i before k ++ take n (drop_at (take i a) xs i before k));
      moved = omega (arith, length-take-le n xs few);
      size = p.size;
    }

-- a part of the buffer was written, and its first n bytes count
pub placed_part : (a ys : List ℕ) (i k n : ℕ) → i + k ≤ length a → length ys ≡ k → n ≤ k → IsPlaced a (put_mid i k a ys) i (take n ys) (i + n)
placed_part a ys i k n fits long few =
    placed_less n (omega arith) (omega arith) (record {
      front = take-put_mid i k a ys (i + k) (omega arith) (omega arith);
      moved = omega arith;
      size = same_len_mid i k a ys (omega (arith, length-take-le k (drop i a) (omega (arith, length-drop i a))));
    })

-- a write ends within the buffer
pub placed_within : {a b xs : List ℕ} {i j : ℕ} → i ≤ length a → IsPlaced a b i xs j → j ≤ length b
placed_within {a} {b} {xs} {i} {j} within p =
    omega (arith, p.moved, ap length p.front, length-take j b, length-take-le i a within, length-append (take i a) xs)

-- one write after another is one write
pub placed_then : {a b c xs ys : List ℕ} {i j k : ℕ} → IsPlaced a b i xs j → IsPlaced b c j ys k → IsPlaced a c i (xs ++ ys) k
placed_then {a} {b} {c} {xs} {ys} {i} {j} {k} p q = record {
  front = q.front ∙ ap (λ (l : List ℕ). l ++ ys) p.front ∙ append_assoc (take i a) xs ys;
  moved = omega (arith, p.moved, q.moved, length-append xs ys);
  size = q.size ∙ p.size;
}
