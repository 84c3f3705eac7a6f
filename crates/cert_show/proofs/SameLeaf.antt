-- Leaves with the same lines are the same.
use Rattle.std.proofs.Common.{◌≡◌, ℕ, zero, suc, ◌+◌, ◌<◌, ◌≤◌, ◌&&◌, ◌==◌, Bool, true, false, if◌then◌else◌, List, [], ◌∷◌, ◌++◌, length, get_or, map, codes, All, filter, refl, sym, ap, ◌∙◌, subst, arith}
use Rattle.std.specs.List.{range_with_len}
use Rattle.std.proofs.lemmas.List.{append_cancel_left, ext_get_or}
use Rattle.std.proofs.lemmas.List.Elements.{All-filter, All-nil, All-cons}
use Rattle.pop_io.specs.Names.{AreNames, state_name}
use Rattle.pop_leaf.specs.declared.leaf.Move.{Move}
use Rattle.pop_leaf.specs.LeafModel.{LeafModel, IsLeaf, IsMoveBelow}
use Rattle.cert_show.specs.Lines.{below, each, spaced, named, name_at, move_text}
use Rattle.cert_show.specs.LeafLines.{helper_text, helper_lines}
use Rattle.cert_show.proofs.Spans.{Passes, Stops, cut}
use Rattle.cert_show.proofs.Quoted.{other_than}
use Rattle.cert_show.proofs.Words.{same_items, placed, same_words, same_named, filtered, same_tests}
use Rattle.cert_show.proofs.LinesTell.{same_state, same_move, states_keep}

-- ---- kinds of lines

-- the line begins with these two bytes
abbrev pub begins : ℕ → ℕ → List ℕ → Bool
begins x y [] = false
begins x y (a ∷ []) = false
begins x y (a ∷ b ∷ line) = a == x && b == y

pub of_kind : {A : Type 0} (test : List ℕ → Bool) (line : A → List ℕ) → ((x : A) → test (line x) ≡ true) → (xs : List A) → Passes test (map line xs)
of_kind test line is [] = tt
of_kind test line is (x ∷ xs) = (is x, of_kind test line is xs)

-- lines of one kind, and what comes after them
pub cut_kind : {A B : Type 0} (test : List ℕ → Bool) (f : A → List ℕ) (g : B → List ℕ) → ((x : A) → test (f x) ≡ true) → ((y : B) → test (g y) ≡ true)
    → (xs : List A) (ys : List B) (t u : List (List ℕ)) → Stops test t → Stops test u → map f xs ++ t ≡ map g ys ++ u → (map f xs ≡ map g ys) × (t ≡ u)
cut_kind test f g p q xs ys t u stop halt e = cut test (map f xs) (map g ys) t u (of_kind test f p xs) (of_kind test g q ys) stop halt e

-- ---- over the same states

up : (a n top : ℕ) → a + n ≤ top → All (λ q. q < top) (range_with_len a n)
up a zero top h = All-nil (λ q. q < top)
up a (suc n) top h = All-cons (λ q. q < top) a (range_with_len (a + 1) n) (omega (arith, h)) (up (a + 1) n top (omega (arith, h)))

below_all : (n : ℕ) → All (λ q. q < n) (below n)
below_all n = up 0 n n (omega arith)

module _ (s : List (List ℕ)) (are : AreNames state_name s) (t : List (List ℕ)) (same : s ≡ t) where
  states_over : (i j : ℕ) → i < length s → j < length t → name_at s i ≡ name_at t j → i ≡ j
  states_over i j il = subst (λ (u : List (List ℕ)). j < length u → name_at s i ≡ name_at u j → i ≡ j) same (same_state s are i j il)

  moves_over : (x y : Move) → IsMoveBelow (length s) x → IsMoveBelow (length t) y → move_text s x ≡ move_text t y → x ≡ y
  moves_over x y il = subst (λ (u : List (List ℕ)). IsMoveBelow (length u) y → move_text s x ≡ move_text u y → x ≡ y) same (same_move s are x y il)

  other_are : AreNames state_name t
  other_are = subst (AreNames state_name) same are

  keep_s : (i : ℕ) → Passes (other_than 32) (name_at s i)
  keep_s = states_keep 32 (omega arith) refl refl s are

  keep_t : (i : ℕ) → Passes (other_than 32) (name_at t i)
  keep_t = states_keep 32 (omega arith) refl refl t other_are

  -- a list of states, one behind the other
  pub same_listed : (xs ys : List ℕ) → All (λ q. q < length s) xs → All (λ q. q < length t) ys
      → each (length xs) (λ i. spaced (name_at s (get_or xs i 0))) ≡ each (length ys) (λ i. spaced (name_at t (get_or ys i 0))) → xs ≡ ys
  same_listed xs ys p q e =
      let f : ℕ → List ℕ = λ i. name_at s (get_or xs i 0) in
      let g : ℕ → List ℕ = λ i. name_at t (get_or ys i 0) in
      let texts : map f (below (length xs)) ≡ map g (below (length ys)) =
      same_words f g (λ i. keep_s (get_or xs i 0)) (λ i. keep_t (get_or ys i 0)) (below (length xs)) (below (length ys)) e in
      same_items (name_at s) (name_at t) (λ q. q < length s) (λ q. q < length t) states_over xs ys p q
      (sym (placed (name_at s) xs 0) ∙ texts ∙ placed (name_at t) ys 0)

  -- the start states of variables
  pub same_starts : (names : List (List ℕ)) (xs ys : List ℕ) → length xs ≡ length ys → All (λ q. q < length s) xs → All (λ q. q < length t) ys
      → each (length xs) (λ i. spaced (named (name_at names i) (name_at s (get_or xs i 0))))
      ≡ each (length ys) (λ i. spaced (named (name_at names i) (name_at t (get_or ys i 0)))) → xs ≡ ys
  same_starts names xs ys one_each p q e =
      let f : ℕ → List ℕ = λ i. name_at s (get_or xs i 0) in
      let g : ℕ → List ℕ = λ i. name_at t (get_or ys i 0) in
      let other = λ (n : ℕ). each n (λ i. spaced (named (name_at names i) (g i))) in
      let texts : map f (below (length xs)) ≡ map g (below (length xs)) =
      same_named (name_at names) f g (λ i. keep_s (get_or xs i 0)) (λ i. keep_t (get_or ys i 0)) (below (length xs)) (e ∙ sym (ap other one_each)) in
      same_items (name_at s) (name_at t) (λ q. q < length s) (λ q. q < length t) states_over xs ys p q
      (sym (placed (name_at s) xs 0) ∙ texts ∙ ap (λ (n : ℕ). map g (below n)) one_each ∙ placed (name_at t) ys 0)

  -- the outputs, by the states with the output true
  pub same_outputs : (o o' : List Bool) → length o ≡ length s → length o' ≡ length t
      → each (length s) (λ q. if get_or o q false then spaced (name_at s q) else []) ≡ each (length t) (λ q. if get_or o' q false then spaced (name_at t q) else [])
      → o ≡ o'
  same_outputs o o' one other e =
      let n : ℕ = length s in
      let count : length s ≡ length t = ap length same in
      let f : ℕ → Bool = λ q. get_or o q false in
      let g : ℕ → Bool = λ q. get_or o' q false in
      let within : All (λ q. q < n) (below n) = below_all n in
      let texts : map (name_at s) (filter f (below n)) ≡ map (name_at t) (filter g (below (length t))) =
      same_words (name_at s) (name_at t) keep_s keep_t (filter f (below n)) (filter g (below (length t)))
      (sym (filtered (name_at s) f (below n)) ∙ e ∙ filtered (name_at t) g (below (length t))) in
      let same_filter : filter f (below n) ≡ filter g (below (length t)) =
      same_items (name_at s) (name_at t) (λ q. q < length s) (λ q. q < length t) states_over (filter f (below n)) (filter g (below (length t)))
      (All-filter f (λ q. q < length s) (below n) within) (All-filter g (λ q. q < length t) (below (length t)) (below_all (length t))) texts in
      let agree : (q : ℕ) → q < n → f q ≡ g q = same_tests f g n (same_filter ∙ ap (λ (k : ℕ). filter g (below k)) (sym count)) in
      ext_get_or false o o' (one ∙ count ∙ sym other) (λ q less. agree q (omega (arith, less, one)))

  pub same_moves : (xs ys : List Move) → All (IsMoveBelow (length s)) xs → All (IsMoveBelow (length t)) ys
      → map (λ x. codes "move " ++ move_text s x) xs ≡ map (λ y. codes "move " ++ move_text t y) ys → xs ≡ ys
  same_moves xs ys p q e =
      same_items (λ x. codes "move " ++ move_text s x) (λ y. codes "move " ++ move_text t y) (IsMoveBelow (length s)) (IsMoveBelow (length t))
      (λ x y il jl e. moves_over x y il jl (append_cancel_left (codes "move ") (move_text s x) (move_text t y) e)) xs ys p q e

-- ---- the helpers' line

abbrev Yes : List (List ℕ) → Type 0
Yes lines = Stops (begins 104 101) lines

pub cut_helpers : (a b : LeafModel) → IsLeaf a → IsLeaf b → a.states ≡ b.states → (t u : List (List ℕ)) → Yes t → Yes u
    → helper_lines a a.helpers ++ t ≡ helper_lines b b.helpers ++ u → (a.helpers ≡ b.helpers) × (t ≡ u)
cut_helpers a b p q same t u stop halt e = go a.helpers b.helpers refl refl e
  where
    go : (h k : List ℕ) → a.helpers ≡ h → b.helpers ≡ k → helper_lines a h ++ t ≡ helper_lines b k ++ u → (a.helpers ≡ b.helpers) × (t ≡ u)
    go [] [] ah bk e = (ah ∙ sym bk, e)
    go [] (x ∷ k) ah bk e = let no_line : begins 104 101 (codes "helpers" ++ each (length b.helpers) (λ i. spaced (helper_text b i))) ≡ false = subst (Stops (begins 104 101)) e stop in absurd (cc no_line)
    go (x ∷ h) [] ah bk e = let no_line : begins 104 101 (codes "helpers" ++ each (length a.helpers) (λ i. spaced (helper_text a i))) ≡ false = subst (Stops (begins 104 101)) (sym e) halt in absurd (cc no_line)
    go (x ∷ h) (y ∷ k) ah bk e =
        let line : codes "helpers" ++ each (length a.helpers) (λ i. spaced (helper_text a i)) ≡ codes "helpers" ++ each (length b.helpers) (λ i. spaced (helper_text b i)) = cc e in
        let rest : t ≡ u = cc e in
        (same_listed a.states p.names b.states same a.helpers b.helpers p.helpers q.helpers (append_cancel_left (codes "helpers") _ _ line), rest)
