-- Lists of rounds, and what a worker alone makes.
use Rattle.std.proofs.Common.{◌≡◌, ◌⊎◌, inl, inr, ℕ, zero, suc, ◌==◌, cond, List, [], ◌∷◌, ◌++◌, length, refl, ap, ◌∙◌}
use Rattle.std.specs.Prelude.{All, Some, slice_get}
use Rattle.std.proofs.lemmas.List.{append-nil}
use Rattle.std.proofs.lemmas.List.Elements.{All-head, All-tail, All-nil, All-append}
use Rattle.std.proofs.lemmas.Grind.{flat_map-append}
use Rattle.pop_crowd.specs.declared.crowd.Meeting.{Meeting}
use Rattle.run_picks.specs.Run.{joined, meetings_of}

-- an item of a list extended by one is an item of the list, or the new one
pub get_pushed : {A : Type 0} (xs : List A) (x y : A) (k : ℕ) → slice_get (xs ++ x ∷ []) k ≡ Some y → (slice_get xs k ≡ Some y) ⊎ ((k ≡ length xs) × (x ≡ y))
get_pushed [] x y zero h = inr (refl, cc)
get_pushed [] x y (suc k) h = cc
get_pushed (z ∷ xs) x y zero h = inl h
get_pushed (z ∷ xs) x y (suc k) h = on (get_pushed xs x y k h)
  where
    on : (slice_get xs k ≡ Some y) ⊎ ((k ≡ length xs) × (x ≡ y)) → (slice_get (z ∷ xs) (suc k) ≡ Some y) ⊎ ((suc k ≡ length (z ∷ xs)) × (x ≡ y))
    on (inl e) = inl e
    on (inr e) = inr (ap suc e.0, e.1)

pub joined_push : (rounds : List (List Meeting)) (round : List Meeting) → joined (rounds ++ round ∷ []) ≡ joined rounds ++ round
joined_push [] round = append-nil round
joined_push (r ∷ rounds) round = flat_map-append (λ (ms : List Meeting). ms) (r ∷ rounds) (round ∷ []) ∙ ap (λ ms. joined (r ∷ rounds) ++ ms) (append-nil round)

-- what holds for the meetings of each round holds for all
pub joined_all : (P : Meeting → Type 0) (rounds : List (List Meeting)) → ((i : ℕ) (r : List Meeting) → slice_get rounds i ≡ Some r → All P r) → All P (joined rounds)
joined_all P [] each = All-nil P
joined_all P (r ∷ rounds) each = All-append P r (joined rounds) (each 0 r refl) (joined_all P rounds (λ i s h. each (suc i) s h))

-- the meetings of worker 0 are all meetings if nobody else makes any
pub all_mine : (meetings : List Meeting) → All (λ (m : Meeting). m.worker ≡ 0) meetings → meetings_of 0 meetings ≡ meetings
all_mine [] h = refl
all_mine (m ∷ meetings) h =
    ap (λ (w : ℕ). cond (w == 0) (m ∷ meetings_of 0 meetings) (meetings_of 0 meetings)) (All-head (λ (m : Meeting). m.worker ≡ 0) m meetings h)
    ∙ ap (λ (ms : List Meeting). m ∷ ms) (all_mine meetings (All-tail (λ (m : Meeting). m.worker ≡ 0) m meetings h))
