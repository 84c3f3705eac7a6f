-- The names of a tuple's states, one after the other.
use Rattle.std.proofs.Common.{◌≡◌, ℕ, zero, suc, pred, ◌+◌, ◌<◌, cond, nat_lt, List, [], ◌∷◌, ◌++◌, length, take, get_or, append_assoc, refl, ap, sym, ◌∙◌, arith}
use Rattle.std.specs.Prelude.{Some, slice_get}
use Rattle.std.specs.List.{join_with_byte}
use Rattle.std.proofs.lemmas.List.{take_more, length-take-le}
use Rattle.std.proofs.lemmas.Option.{get_or_from_slice_get}
use Rattle.std.proofs.lemmas.Bool.{lt-ltb}
use Rattle.pop_leaf.specs.LeafModel.{LeafModel}
use Rattle.pop_leaf.specs.NetModel.{Tuple}
use Rattle.pop_crowd.specs.Tally.{names_of, slash}

pub length-names_of : (leaves : List LeafModel) (tuple : Tuple) → length tuple ≡ length leaves → length (names_of leaves tuple) ≡ length leaves
length-names_of [] tuple e = refl
length-names_of (leaf ∷ leaves) [] e = e
length-names_of (leaf ∷ leaves) (x ∷ tuple) e = ap suc (length-names_of leaves tuple (ap pred e))

name_at : (leaves : List LeafModel) (tuple : Tuple) (i : ℕ) (leaf : LeafModel) (name : List ℕ) → length tuple ≡ length leaves → slice_get leaves i ≡ Some leaf → slice_get leaf.states (get_or tuple i 0) ≡ Some name → get_or (names_of leaves tuple) i [] ≡ name
name_at [] tuple i leaf name e h m = cc
name_at (l ∷ leaves) [] i leaf name e h m = cc
name_at (l ∷ leaves) (x ∷ tuple) zero leaf name e h m =
    let same : l ≡ leaf = cc in
    ap (λ (l : LeafModel). get_or l.states x []) same ∙ get_or_from_slice_get leaf.states x name [] m
name_at (l ∷ leaves) (x ∷ tuple) (suc i) leaf name e h m = name_at leaves tuple i leaf name (ap pred e) h m

join_push : (c : ℕ) (x : List ℕ) (xs : List (List ℕ)) (y : List ℕ) → join_with_byte c (x ∷ xs ++ y ∷ []) ≡ join_with_byte c (x ∷ xs) ++ (c ∷ y)
join_push c x [] y = refl
join_push c x (z ∷ xs) y =
    ap (λ t. x ++ (c ∷ t)) (join_push c z xs y) ∙ sym (append_assoc x (c ∷ join_with_byte c (z ∷ xs)) (c ∷ y))

-- one more name, with a byte before every one but the first
joined : (c : ℕ) (xs : List (List ℕ)) (y : List ℕ) → join_with_byte c (xs ++ y ∷ []) ≡ (join_with_byte c xs ++ cond (nat_lt 0 (length xs)) (c ∷ []) []) ++ y
joined c [] y = refl
joined c (x ∷ xs) y =
    join_push c x xs y ∙ sym (append_assoc (join_with_byte c (x ∷ xs)) (c ∷ []) y)
    ∙ ap (λ b. (join_with_byte c (x ∷ xs) ++ cond b (c ∷ []) []) ++ y) (sym (lt-ltb 0 (suc (length xs)) (omega arith)))

pub names_more : (leaves : List LeafModel) (tuple : Tuple) (i : ℕ) (leaf : LeafModel) (name old : List ℕ) (start : List ℕ) → length tuple ≡ length leaves → i < length leaves → slice_get leaves i ≡ Some leaf → slice_get leaf.states (get_or tuple i 0) ≡ Some name → old ≡ start ++ join_with_byte slash (take i (names_of leaves tuple)) → (old ++ cond (nat_lt 0 i) (slash ∷ []) []) ++ name ≡ start ++ join_with_byte slash (take (i + 1) (names_of leaves tuple))
names_more leaves tuple i leaf name old start e l h m before =
    let names = names_of leaves tuple in
    let long : length (take i names) ≡ i = length-take-le i names (omega (arith, length-names_of leaves tuple e)) in
    ap (λ t. (t ++ cond (nat_lt 0 i) (slash ∷ []) []) ++ name) before
    ∙ ap (λ n. ((start ++ join_with_byte slash (take i names)) ++ cond (nat_lt 0 n) (slash ∷ []) []) ++ name) (sym long)
    ∙ ap (λ t. t ++ name) (append_assoc start (join_with_byte slash (take i names)) (cond (nat_lt 0 (length (take i names))) (slash ∷ []) []))
    ∙ append_assoc start (join_with_byte slash (take i names) ++ cond (nat_lt 0 (length (take i names))) (slash ∷ []) []) name
    ∙ ap (λ t. start ++ t) (sym (joined slash (take i names) name))
    ∙ ap (λ y. start ++ join_with_byte slash (take i names ++ y ∷ [])) (sym (name_at leaves tuple i leaf name e h m))
    ∙ ap (λ t. start ++ join_with_byte slash t) (sym (take_more names i [] (omega (arith, length-names_of leaves tuple e))))
