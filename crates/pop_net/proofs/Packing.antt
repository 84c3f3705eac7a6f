-- Words that are packed lane by lane.
use Rattle.std.proofs.Common.{◌≡◌, ℕ, zero, suc, ◌+◌, ◌*◌, ◌/◌, ◌%◌, ◌^◌, ◌<◌, ◌≤◌, List, [], ◌∷◌, ◌++◌, length, take, get_or, refl, ap, sym, ◌∙◌, arith}
use Rattle.std.proofs.Math.Nat.{pow-zero, pow-suc, mod-eq_of_lt}
use Rattle.std.proofs.lemmas.Nat.{div_below, div-add-mod', pow_pos}
use Rattle.std.proofs.lemmas.List.{take_more, take_all}
use Rattle.pop_net.specs.declared.net.Word.{Word}
use Rattle.pop_leaf.specs.NetModel.{NetModel, IsTuple, state_of}
use Rattle.pop_net.specs.LaneWidth.{bits_of, width_of}
use Rattle.pop_net.specs.Lanes.{digits, lane_size, tuple_of, IsValid}
use Rattle.pop_net.proofs.Digits.{length-digits, get_or-digits, low_part, high_part}

-- one more digit, the highest
pub digits_more : (base i word s : ℕ) → 0 < base → word < base ^ i → s < base → digits base (suc i) (word + s * base ^ i) ≡ digits base i word ++ s ∷ []
digits_more base zero word s l h k =
    let none : word ≡ 0 = omega (arith, h, pow-zero base) in
    let one : word + s * base ^ 0 ≡ s = omega (arith, none, ap (λ n. s * n) (pow-zero base)) in
    ap (λ n. n % base ∷ []) one ∙ ap (λ n. n ∷ []) (mod-eq_of_lt k)
digits_more base (suc i) word s l h k =
    let e : word + s * base ^ suc i ≡ word + s * (base ^ i * base) = ap (λ n. word + s * n) (pow-suc base i) in
    let low : (word + s * base ^ suc i) % base ≡ word % base = ap (λ n. n % base) e ∙ low_part base word s (base ^ i) in
    let high : (word + s * base ^ suc i) / base ≡ word / base + s * base ^ i = ap (λ n. n / base) e ∙ high_part base word s (base ^ i) l in
    let m : word < base ^ i * base = omega (arith, h, pow-suc base i) in
    rw (low, high, digits_more base i (word / base) s l (div_below word base (base ^ i) l m) k) refl

-- the lanes below i hold the first i states, and the others are 0
pub record Packed (base i : ℕ) (states : List ℕ) (word : ℕ) : Type 0 where
  pub lanes : digits base i word ≡ take i states
  pub free : word < base ^ i

pub packed_more : (base i : ℕ) (states : List ℕ) (word s next : ℕ) → 0 < base → Packed base i states word → i < length states → s ≡ get_or states i 0 → s < base → next ≡ word + s * base ^ i → next < base ^ (i + 1) → Packed base (i + 1) states next
packed_more base i states word s next pos p l e k sum free =
    record {
      lanes =
          ap (λ n. digits base n next) (let m : i + 1 ≡ suc i = omega arith in m) ∙ ap (digits base (suc i)) sum ∙ digits_more base i word s pos p.free k
          ∙ ap (λ xs. xs ++ s ∷ []) p.lanes
          ∙ ap (λ x. take i states ++ x ∷ []) e
          ∙ sym (take_more states i 0 l);
      free = free;
    }

pub packed_all : (base n i : ℕ) (states : List ℕ) (word : ℕ) → length states ≡ n → n ≤ i → i ≤ n → Packed base i states word → digits base n word ≡ states
packed_all base n i states word e l m p =
    ap (λ k. digits base k word) (let s : n ≡ i = omega arith in s) ∙ p.lanes ∙ take_all i states (omega (arith, e))

-- the state in lane i
pub lane_at : (base n word i : ℕ) → i < n → state_of (digits base n word) i ≡ word / base ^ i % base
lane_at base n word i l = get_or-digits base n word i l

-- a number below base ^ n is determined by its n digits
digits-same : (base n x y : ℕ) → 0 < base → x < base ^ n → y < base ^ n → digits base n x ≡ digits base n y → x ≡ y
digits-same base zero x y l hx hy e = omega (arith, hx, hy, pow-zero base)
digits-same base (suc n) x y l hx hy e =
    let low : x % base ≡ y % base = cc in
    let rest : digits base n (x / base) ≡ digits base n (y / base) = cc in
    let mx : x < base ^ n * base = omega (arith, hx, pow-suc base n) in
    let my : y < base ^ n * base = omega (arith, hy, pow-suc base n) in
    let high : x / base ≡ y / base = digits-same base n (x / base) (y / base) l (div_below x base (base ^ n) l mx) (div_below y base (base ^ n) l my) rest in
    sym (div-add-mod' x base) ∙ ap (λ q. q * base + x % base) high ∙ ap (λ r. y / base * base + r) low ∙ div-add-mod' y base

-- valid words of the same tuple are the same
pub same_word : (net : NetModel) (v w : Word) → IsValid net v → IsValid net w → tuple_of net v ≡ tuple_of net w → v ≡ w
same_word net v w hv hw e =
    ap (λ (n : ℕ). record { 0 = n }) (digits-same (lane_size net) (length net.leaves) v.0 w.0 (pow_pos (bits_of (width_of net.leaves))) hv.rest hw.rest e)

-- a word's tuple has one state per leaf
pub is_tuple : (net : NetModel) (word : Word) → IsTuple net (tuple_of net word)
is_tuple net word = length-digits (lane_size net) (length net.leaves) word.0
