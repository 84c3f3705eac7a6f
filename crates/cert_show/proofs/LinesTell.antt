-- What the lines of `show` tell.
use Rattle.std.proofs.Common.{◌≡◌, ◌≢◌, ◌⊎◌, inl, inr, ℕ, ◌<◌, ◌≤◌, true, not, List, [], ◌∷◌, ◌++◌, length, get_or, map, codes, All, refl, sym, ap, ◌∙◌, append_assoc, arith}
use Rattle.std.specs.Prelude.{AllPairs, IsTrue}
use Rattle.std.proofs.lemmas.Bool.{cases_lt, ne_eqb}
use Rattle.std.proofs.lemmas.List.Elements.{All-head, All-tail, All-get_or, All-from_get_or, All-weaker}
use Rattle.pop_io.specs.Names.{AreNames, state_name, variable_name}
use Rattle.base_lines.specs.Lines.{ended}
use Rattle.pres_ast.specs.PredModel.{PredModel, IsPred}
use Rattle.pres_ast.specs.PredTree.{PredTree}
use Rattle.pres_read.specs.Canonical.{tree_text}
use Rattle.pres_read.specs.Reading.{pred_read}
use Rattle.pres_read.proofs.Again.{printed_read}
use Rattle.pres_read.proofs.PrintedLength.{printed_short}
use Rattle.pop_leaf.specs.declared.leaf.Move.{Move}
use Rattle.pop_leaf.specs.LeafModel.{IsMoveBelow}
use Rattle.cert_show.specs.Lines.{text_of, below, each, spaced, quoted, name_at, move_text}
use Rattle.cert_show.specs.LinesTell.{AreUnbroken, LinesTell}
use Rattle.cert_show.proofs.Spans.{Passes, cut}
use Rattle.cert_show.proofs.Quoted.{other_than, same_name, quoted_passes, name_keeps, state_keeps}
use Rattle.cert_show.proofs.Words.{same_items, placed, same_words}

-- ---- lines

abbrev pub IsLine : List ℕ → Type 0
IsLine line = Passes (other_than 10) line

abbrev pub AreLines : List (List ℕ) → Type 0
AreLines [] = Unit {0}
AreLines (line ∷ lines) = IsLine line × AreLines lines

never_ended : (line rest : List ℕ) → ◌≡◌ {A = List ℕ} [] (ended line ++ rest) → ⊥
never_ended [] rest e = let h : ◌≡◌ {A = List ℕ} [] (10 ∷ rest) = e in absurd (cc h)
never_ended (b ∷ line) rest e = let h : ◌≡◌ {A = List ℕ} [] (b ∷ (ended line ++ rest)) = e in absurd (cc h)

pub lines_told : (xs ys : List (List ℕ)) → AreLines xs → AreLines ys → text_of xs ≡ text_of ys → xs ≡ ys
lines_told [] [] p q e = refl
lines_told [] (y ∷ ys) p q e = absurd (never_ended y (text_of ys) e)
lines_told (x ∷ xs) [] p q e = absurd (never_ended x (text_of xs) (let back : [] ≡ text_of (x ∷ xs) = sym e in back))
lines_told (x ∷ xs) (y ∷ ys) p q e =
    let straight : x ++ (10 ∷ text_of xs) ≡ y ++ (10 ∷ text_of ys) = sym (append_assoc x (codes "\n") (text_of xs)) ∙ e ∙ append_assoc y (codes "\n") (text_of ys) in
    let parts = cut (other_than 10) x y (10 ∷ text_of xs) (10 ∷ text_of ys) p.0 q.0 refl refl straight in
    let first = parts.0 in
    let rest : text_of xs ≡ text_of ys = cc (parts.1) in
    let more = lines_told xs ys p.1 q.1 rest in
    cc (first, more)

no_break : (line : List ℕ) → All (λ b. b ≢ 10) line → IsLine line
no_break [] all = tt
no_break (b ∷ line) all =
    (ap not (ne_eqb b 10 (All-head (λ (b : ℕ). b ≢ 10) b line all)), no_break line (All-tail (λ (b : ℕ). b ≢ 10) b line all))

no_breaks : (lines : List (List ℕ)) → AreUnbroken lines → AreLines lines
no_breaks [] all = tt
no_breaks (line ∷ lines) all =
    (no_break line (All-head (λ (line : List ℕ). All (λ b. b ≢ 10) line) line lines all), no_breaks lines (All-tail (λ (line : List ℕ). All (λ b. b ≢ 10) line) line lines all))

-- ---- names in a line

pub states_keep : (c : ℕ) → c < 33 → other_than c 92 ≡ true → other_than c 34 ≡ true → (states : List (List ℕ)) → AreNames state_name states
    → (i : ℕ) → Passes (other_than c) (name_at states i)
states_keep c low slash quote states are i =
    name_keeps c slash quote states (All-weaker (λ (name : List ℕ). IsTrue (state_name name)) (Passes (other_than c)) (state_keeps c low) states are.0) i

-- names that stand in place of each other
pub same_names : (xs ys : List (List ℕ)) → ((i : ℕ) → Passes (other_than 32) (name_at xs i)) → ((i : ℕ) → Passes (other_than 32) (name_at ys i))
    → each (length xs) (λ i. spaced (name_at xs i)) ≡ each (length ys) (λ i. spaced (name_at ys i)) → xs ≡ ys
same_names xs ys p q e =
    let texts : map (name_at xs) (below (length xs)) ≡ map (name_at ys) (below (length ys)) = same_words (name_at xs) (name_at ys) p q (below (length xs)) (below (length ys)) e in
    same_items quoted quoted (λ _. Unit {0}) (λ _. Unit {0}) (λ x y _ _. same_name x y) xs ys
    (All-from_get_or (λ _. Unit {0}) xs [] (λ i less. tt)) (All-from_get_or (λ _. Unit {0}) ys [] (λ i less. tt))
    (sym (placed quoted xs []) ∙ texts ∙ placed quoted ys [])

-- the names of states that a line lists
pub same_states : (xs ys : List (List ℕ)) → AreNames state_name xs → AreNames state_name ys
    → each (length xs) (λ q. spaced (name_at xs q)) ≡ each (length ys) (λ q. spaced (name_at ys q)) → xs ≡ ys
same_states xs ys p q e = same_names xs ys (states_keep 32 (omega arith) refl refl xs p) (states_keep 32 (omega arith) refl refl ys q) e

-- ---- moves

distinct : (xs : List (List ℕ)) → AllPairs ◌≢◌ xs → (i j : ℕ) → i < length xs → j < length xs → get_or xs i [] ≡ get_or xs j [] → i ≡ j
distinct xs apart i j il jl e = go (cases_lt i j) (cases_lt j i)
  where
    go : (i < j) ⊎ (j ≤ i) → (j < i) ⊎ (i ≤ j) → i ≡ j
    go (inl l) r = absurd (apart i j [] l jl e)
    go (inr l) (inl r) = absurd (apart j i [] r il (sym e))
    go (inr l) (inr r) = omega (arith, l, r)

module _ (states : List (List ℕ)) (names : AreNames state_name states) where
  passes : (i : ℕ) → i < length states → Passes (other_than 32) (name_at states i)
  passes i less = quoted_passes 32 (omega arith) (get_or states i []) (All-get_or (λ (name : List ℕ). IsTrue (state_name name)) states i [] less names.0)

  pub same_state : (i j : ℕ) → i < length states → j < length states → name_at states i ≡ name_at states j → i ≡ j
  same_state i j il jl e = distinct states names.1 i j il jl (same_name (get_or states i []) (get_or states j []) e)

  -- a move by the names of its states
  pub same_move : (t u : Move) → IsMoveBelow (length states) t → IsMoveBelow (length states) u → move_text states t ≡ move_text states u → t ≡ u
  same_move t u tl ul e =
      let first = cut (other_than 32) (name_at states t.p) (name_at states u.p) _ _ (passes t.p tl.0) (passes u.p ul.0) refl refl (sym (flat t) ∙ e ∙ flat u) in
      let after1 : name_at states t.q ++ (codes " -> " ++ (name_at states t.r ++ (codes " + " ++ name_at states t.s))) ≡ name_at states u.q ++ (codes " -> " ++ (name_at states u.r ++ (codes " + " ++ name_at states u.s))) = cc (first.1) in
      let second = cut (other_than 32) (name_at states t.q) (name_at states u.q) _ _ (passes t.q tl.1) (passes u.q ul.1) refl refl after1 in
      let after2 : name_at states t.r ++ (codes " + " ++ name_at states t.s) ≡ name_at states u.r ++ (codes " + " ++ name_at states u.s) = cc (second.1) in
      let third = cut (other_than 32) (name_at states t.r) (name_at states u.r) _ _ (passes t.r tl.2) (passes u.r ul.2) refl refl after2 in
      let last : name_at states t.s ≡ name_at states u.s = cc (third.1) in
      ap (λ (x : ℕ). move x t.q t.r t.s) (same_state t.p u.p tl.0 ul.0 first.0)
      ∙ ap (λ (x : ℕ). move u.p x t.r t.s) (same_state t.q u.q tl.1 ul.1 second.0)
      ∙ ap (λ (x : ℕ). move u.p u.q x t.s) (same_state t.r u.r tl.2 ul.2 third.0)
      ∙ ap (λ (x : ℕ). move u.p u.q u.r x) (same_state t.s u.s tl.3 ul.3 last)
    where
      move : ℕ → ℕ → ℕ → ℕ → Move
      move p q r s = record { p = p; q = q; r = r; s = s }

      flat : (t : Move) → move_text states t ≡ name_at states t.p ++ (codes " + " ++ (name_at states t.q ++ (codes " -> " ++ (name_at states t.r ++ (codes " + " ++ name_at states t.s)))))
      flat t = simp append_assoc

-- ---- predicates

pub same_tree : (names : List (List ℕ)) (p q : PredTree) → AreNames variable_name names → IsPred (length names) p → IsPred (length names) q → tree_text names p ≡ tree_text names q → p ≡ q
same_tree names p q are one other e =
    let h = sym (printed_read names p are one (printed_short names p are one)) ∙ ap (pred_read names) e ∙ printed_read names q are other (printed_short names q are other) in
    let both : ◌≡◌ {A = PredModel} (record { variables = length names; tree = p }) (record { variables = length names; tree = q }) = cc h in
    ap (λ (m : PredModel). m.tree) both

pub lines_tell : LinesTell
lines_tell =
    record {
      lines = λ xs ys p q. lines_told xs ys (no_breaks xs p) (no_breaks ys q);
      name = same_name;
      states = λ a b p q. same_states a.states b.states p.names q.names;
      move = λ leaf is. same_move leaf.states is.names;
      predicate = λ names are p q. same_tree names p q are;
    }
