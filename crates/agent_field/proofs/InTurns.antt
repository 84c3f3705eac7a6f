-- The places of the locks and of the agents' words, which take turns.
use Rattle.std.proofs.Common.{◌≡◌, ◌≢◌, ℕ, zero, suc, ◌+◌, ◌<◌, ◌≤◌, min, List, [], ◌∷◌, ◌++◌, length, get_or, set, refl, sym, ap, ◌∙◌, ◌-◌, ⊎_elim, arith}
use Rattle.std.proofs.lemmas.Bool.{cases_lt}
use Rattle.std.proofs.lemmas.List.{append-nil, replicate-append-replicate}
use Rattle.std.proofs.Math.ListN.{replicate, length-replicate}
use Rattle.agent_field.specs.declared.places.TheConstants.{HEAD_WORDS}
use Rattle.agent_field.specs.declared.view.Setup.{Setup}
use Rattle.agent_field.specs.Standing.{agents_opened, lock_place, agent_place, lock_at, agent_at, in_turns}

pub lock_place-inside : (shards agents s : ℕ) → s < shards → lock_place agents s < HEAD_WORDS + shards + agents
lock_place-inside shards agents s h = omega arith

pub agent_place-inside : (shards agents a : ℕ) → a < agents → agent_place shards a < HEAD_WORDS + shards + agents
agent_place-inside shards agents a h = omega arith

module _ (k : Setup) where
  -- two shards have two locks, and two agents two words
  pub lock_once : (s t : ℕ) → lock_at k s ≡ lock_at k t → s ≡ t
  lock_once s t same = omega arith

  pub agent_once : (a b : ℕ) → agent_at k a ≡ agent_at k b → a ≡ b
  agent_once a b same = omega arith

  pub lock_is_no_agent : (s a : ℕ) → s < k.shards → a < agents_opened k → lock_at k s ≢ agent_at k a
  lock_is_no_agent s a inside in_range same = omega arith

  -- the clock and the founder word come before them
  pub lock_behind : (i s : ℕ) → i < HEAD_WORDS → i ≢ lock_at k s
  lock_behind i s h same = omega arith

  pub agent_behind : (i a : ℕ) → i < HEAD_WORDS → i ≢ agent_at k a
  agent_behind i a h same = omega arith

-- the elements of two lists in turns
pub length-in_turns : {A : Type 0} (xs ys : List A) → length (in_turns xs ys) ≡ length xs + length ys
length-in_turns [] ys = omega arith
length-in_turns (x ∷ xs) [] = omega arith
length-in_turns (x ∷ xs) (y ∷ ys) = let rest = length-in_turns xs ys in omega arith

pub get_or-in_turns_first : {A : Type 0} (d : A) (xs ys : List A) (s : ℕ) → s < length xs → get_or (in_turns xs ys) (s + min s (length ys)) d ≡ get_or xs s d
get_or-in_turns_first d [] ys s h = absurd (omega arith)
get_or-in_turns_first d (x ∷ xs) [] s h = ap (λ (i : ℕ). get_or (x ∷ xs) i d) (let at : s + min s 0 ≡ s = omega arith in at)
get_or-in_turns_first d (x ∷ xs) (y ∷ ys) zero h =
    ap (λ (i : ℕ). get_or (x ∷ y ∷ in_turns xs ys) i d) (let at : 0 + min 0 (length (y ∷ ys)) ≡ 0 = omega arith in at)
get_or-in_turns_first d (x ∷ xs) (y ∷ ys) (suc s) h =
    ap (λ (i : ℕ). get_or (x ∷ y ∷ in_turns xs ys) i d) (let at : suc s + min (suc s) (length (y ∷ ys)) ≡ suc (suc (s + min s (length ys))) = omega arith in at)
    ∙ get_or-in_turns_first d xs ys s (omega arith)

pub get_or-in_turns_second : {A : Type 0} (d : A) (xs ys : List A) (a : ℕ) → a < length ys → get_or (in_turns xs ys) (a + min (a + 1) (length xs)) d ≡ get_or ys a d
get_or-in_turns_second d [] ys a h = ap (λ (i : ℕ). get_or ys i d) (let at : a + min (a + 1) 0 ≡ a = omega arith in at)
get_or-in_turns_second d (x ∷ xs) [] a h = absurd (omega arith)
get_or-in_turns_second d (x ∷ xs) (y ∷ ys) zero h =
    ap (λ (i : ℕ). get_or (x ∷ y ∷ in_turns xs ys) i d) (let at : 0 + min (0 + 1) (length (x ∷ xs)) ≡ 1 = omega arith in at)
get_or-in_turns_second d (x ∷ xs) (y ∷ ys) (suc a) h =
    ap (λ (i : ℕ). get_or (x ∷ y ∷ in_turns xs ys) i d) (let at : suc a + min (suc a + 1) (length (x ∷ xs)) ≡ suc (suc (a + min (a + 1) (length xs))) = omega arith in at)
    ∙ get_or-in_turns_second d xs ys a (omega arith)

-- one of the second list is written
pub set-in_turns_second : {A : Type 0} (xs ys : List A) (a : ℕ) (z : A) → a < length ys → set (in_turns xs ys) (a + min (a + 1) (length xs)) z ≡ in_turns xs (set ys a z)
set-in_turns_second [] ys a z h = ap (λ (i : ℕ). set ys i z) (let at : a + min (a + 1) 0 ≡ a = omega arith in at)
set-in_turns_second (x ∷ xs) [] a z h = absurd (omega arith)
set-in_turns_second (x ∷ xs) (y ∷ ys) zero z h =
    ap (λ (i : ℕ). set (x ∷ y ∷ in_turns xs ys) i z) (let at : 0 + min (0 + 1) (length (x ∷ xs)) ≡ 1 = omega arith in at)
set-in_turns_second (x ∷ xs) (y ∷ ys) (suc a) z h =
    ap (λ (i : ℕ). set (x ∷ y ∷ in_turns xs ys) i z) (let at : suc a + min (suc a + 1) (length (x ∷ xs)) ≡ suc (suc (a + min (a + 1) (length xs))) = omega arith in at)
    ∙ ap (λ (l : List _). x ∷ y ∷ l) (set-in_turns_second xs ys a z (omega arith))

-- one more of each; one more of the second once the first has run out; more of the first once the second has
pub in_turns-both : {A : Type 0} (xs ys : List A) (x y : A) → length xs ≡ length ys → in_turns xs ys ++ x ∷ y ∷ [] ≡ in_turns (xs ++ x ∷ []) (ys ++ y ∷ [])
in_turns-both [] [] x y h = refl
in_turns-both [] (z ∷ ys) x y h = absurd (omega arith)
in_turns-both (z ∷ xs) [] x y h = absurd (omega arith)
in_turns-both (w ∷ xs) (z ∷ ys) x y h = ap (λ (l : List _). w ∷ z ∷ l) (in_turns-both xs ys x y (omega arith))

pub in_turns-second : {A : Type 0} (xs ys : List A) (y : A) → length xs ≤ length ys → in_turns xs ys ++ y ∷ [] ≡ in_turns xs (ys ++ y ∷ [])
in_turns-second [] ys y h = refl
in_turns-second (z ∷ xs) [] y h = absurd (omega arith)
in_turns-second (w ∷ xs) (z ∷ ys) y h = ap (λ (l : List _). w ∷ z ∷ l) (in_turns-second xs ys y (omega arith))

pub in_turns-first : {A : Type 0} (xs ys zs : List A) → length ys ≤ length xs → in_turns xs ys ++ zs ≡ in_turns (xs ++ zs) ys
in_turns-first [] [] [] h = refl
in_turns-first [] [] (z ∷ zs) h = refl
in_turns-first [] (y ∷ ys) zs h = absurd (omega arith)
in_turns-first (x ∷ xs) [] zs h = refl
in_turns-first (x ∷ xs) (y ∷ ys) zs h = ap (λ (l : List _). x ∷ y ∷ l) (in_turns-first xs ys zs (omega arith))

pub length-opening : (words : List ℕ) (shards agents : ℕ) → length words ≡ agents → length (0 ∷ 0 ∷ in_turns (replicate shards 0) words) ≡ HEAD_WORDS + shards + agents
length-opening words shards agents count =
    let turns = length-in_turns (replicate shards 0) words in
    let locks : length (replicate {A = ℕ} shards 0) ≡ shards = length-replicate shards 0 in omega arith

-- open locks in turns with words: one more word, with a lock or without, and all further locks
pub word_with_lock : (shards a x : ℕ) (words : List ℕ) → length words ≡ a → a < shards
    → in_turns (replicate (min a shards) 0) words ++ 0 ∷ x ∷ [] ≡ in_turns (replicate (min (a + 1) shards) 0) (words ++ x ∷ [])
word_with_lock shards a x words count inside =
    let here : min a shards ≡ a = omega arith in
    let next : min (a + 1) shards ≡ a + 1 = omega arith in
    let long = length-replicate {A = ℕ} a 0 in
    ap (λ n. in_turns (replicate n 0) words ++ 0 ∷ x ∷ []) here
    ∙ in_turns-both (replicate a 0) words 0 x (long ∙ sym count)
    ∙ ap (λ locks. in_turns locks (words ++ x ∷ [])) (replicate-append-replicate a 1 0 ∙ ap (λ n. replicate n 0) (sym next))

pub word_alone : (shards a x : ℕ) (words : List ℕ) → length words ≡ a → shards ≤ a
    → in_turns (replicate (min a shards) 0) words ++ x ∷ [] ≡ in_turns (replicate (min (a + 1) shards) 0) (words ++ x ∷ [])
word_alone shards a x words count behind =
    let same : min (a + 1) shards ≡ min a shards = omega arith in
    let long = length-replicate {A = ℕ} (min a shards) 0 in
    in_turns-second (replicate (min a shards) 0) words x (let few : min a shards ≤ a = omega arith in omega (arith, long, count))
    ∙ ap (λ n. in_turns (replicate n 0) (words ++ x ∷ [])) (sym same)

pub further_locks : (shards a : ℕ) (words : List ℕ) → length words ≡ a
    → in_turns (replicate (min a shards) 0) words ++ replicate (shards - min a shards) 0 ≡ in_turns (replicate shards 0) words
further_locks shards a words count = ⊎_elim none more (cases_lt shards a)
  where
    more : a ≤ shards → in_turns (replicate (min a shards) 0) words ++ replicate (shards - min a shards) 0 ≡ in_turns (replicate shards 0) words
    more few =
        let here : min a shards ≡ a = omega arith in
        let whole : a + (shards - a) ≡ shards = omega arith in
        let long = length-replicate {A = ℕ} a 0 in
        ap (λ n. in_turns (replicate n 0) words ++ replicate (shards - n) 0) here
        ∙ in_turns-first (replicate a 0) words (replicate (shards - a) 0) (omega (arith, long, count))
        ∙ ap (λ locks. in_turns locks words) (replicate-append-replicate a (shards - a) 0 ∙ ap (λ n. replicate n 0) whole)

    none : shards < a → in_turns (replicate (min a shards) 0) words ++ replicate (shards - min a shards) 0 ≡ in_turns (replicate shards 0) words
    none many =
        let here : min a shards ≡ shards = omega arith in
        let nothing : shards - shards ≡ 0 = omega arith in
        ap (λ n. in_turns (replicate n 0) words ++ replicate (shards - n) 0) here
        ∙ ap (λ n. in_turns (replicate shards 0) words ++ replicate n 0) nothing
        ∙ append-nil (in_turns (replicate shards 0) words)
