-- Turns in a row.
use Rattle.std.proofs.Common.{◌≡◌, ℕ, suc, ◌+◌, ◌<◌, ◌≤◌, Bool, List, [], ◌∷◌, ◌++◌, length, get_or, refl, ap, sym, subst, ◌∙◌, ⊎_elim, zero-add, append_assoc, length-append, arith}
use Rattle.std.proofs.lemmas.Bool.{cases_lt}
use Rattle.std.proofs.lemmas.List.{map-append, get_or_append_left, get_or-append-add}
use Rattle.run_picks.specs.Picks.{picks_from, words_from}
use Rattle.run_picks.specs.Turns.{HasPicked}

pub picked_none : (n : ℕ) (s : List ℕ) → HasPicked n 0 s s []
picked_none n s = record { long = refl; picked = λ count. ap (λ k. picks_from (words_from s) n k) (zero-add count) }

-- one more pick
pub picked_more : (n turns : ℕ) (before now after : List ℕ) (made : List (ℕ × ℕ)) (pick : ℕ × ℕ) → HasPicked n turns before now made
    → ((count : ℕ) → picks_from (words_from now) n (suc count) ≡ pick ∷ picks_from (words_from after) n count) → HasPicked n (turns + 1) before after (made ++ pick ∷ [])
picked_more n turns before now after made pick h next =
    record {
      long = length-append made (pick ∷ []) ∙ ap (λ k. k + 1) h.long;
      picked = λ count.
          ap (λ k. picks_from (words_from before) n k) (let e : turns + 1 + count ≡ turns + suc count = omega arith in e)
          ∙ h.picked (suc count)
          ∙ ap (λ (ps : List (ℕ × ℕ)). made ++ ps) (next count)
          ∙ sym (append_assoc made (pick ∷ []) (picks_from (words_from after) n count));
    }

-- the turns of one round and those of the next
pub picked_on : (n a b : ℕ) (first between last : List ℕ) (xs ys : List (ℕ × ℕ)) → HasPicked n a first between xs → HasPicked n b between last ys → HasPicked n (a + b) first last (xs ++ ys)
picked_on n a b first between last xs ys h k =
    record {
      long = length-append xs ys ∙ ap (λ i. i + length ys) h.long ∙ ap (λ i. a + i) k.long;
      picked = λ count.
          ap (λ i. picks_from (words_from first) n i) (let e : a + b + count ≡ a + (b + count) = omega arith in e)
          ∙ h.picked (b + count)
          ∙ ap (λ (ps : List (ℕ × ℕ)). xs ++ ps) (k.picked count)
          ∙ sym (append_assoc xs ys (picks_from (words_from last) n count));
    }

-- what holds for each element and for one more holds for each of the extended list
each-push : {A : Type 0} (P : ℕ → A → Type 0) (xs : List A) (x : A) → ((i : ℕ) (d : A) → i < length xs → P i (get_or xs i d)) → P (length xs) x → (i : ℕ) (d : A) → i < length (xs ++ x ∷ []) → P i (get_or (xs ++ x ∷ []) i d)
each-push {A = A} P xs x each last i d h =
    ⊎_elim
    (λ (early : i < length xs). subst (P i) (sym (get_or_append_left xs (x ∷ []) d i early)) (each i d early))
    (λ (late : length xs ≤ i).
    let here : i ≡ length xs = omega (arith, length-append xs (x ∷ [])) in
    let found : get_or (xs ++ x ∷ []) i d ≡ x = ap (λ (k : ℕ). get_or (xs ++ x ∷ []) k d) (here ∙ omega arith) ∙ get_or-append-add xs (x ∷ []) 0 d in
    subst (λ (t : ℕ × A). P t.0 t.1) (λ k. (sym here k, sym found k)) last)
    (cases_lt i (length xs))

pub each-push_is : {A : Type 0} (P : ℕ → A → Type 0) (xs ys : List A) (x : A) → ys ≡ xs ++ x ∷ [] → ((i : ℕ) (d : A) → i < length xs → P i (get_or xs i d)) → P (length xs) x → (i : ℕ) (d : A) → i < length ys → P i (get_or ys i d)
each-push_is {A = A} P xs ys x is each last = subst (λ (l : List A). (i : ℕ) (d : A) → i < length l → P i (get_or l i d)) (sym is) (each-push P xs x each last)
