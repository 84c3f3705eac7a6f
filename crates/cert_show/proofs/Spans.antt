-- Lists that go on as long as a test holds.
use Rattle.std.proofs.Common.{◌≡◌, Bool, true, false, List, [], ◌∷◌, ◌++◌, refl, subst}

module _ {A : Type 0} (test : A → Bool) where
  abbrev pub Passes : List A → Type 0
  Passes [] = Unit {0}
  Passes (x ∷ xs) = (test x ≡ true) × Passes xs

  -- the list is empty, or its first item fails
  abbrev pub Stops : List A → Type 0
  Stops [] = Unit {0}
  Stops (x ∷ xs) = test x ≡ false

  pub passes-append : (xs ys : List A) → Passes xs → Passes ys → Passes (xs ++ ys)
  passes-append [] ys p q = q
  passes-append (x ∷ xs) ys p q = (p.0, passes-append xs ys p.1 q)

  never : (y : A) (ys t : List A) → test y ≡ true → Stops t → t ≡ y ∷ ys → ⊥
  never y ys t holds stops e = let no : test y ≡ false = subst (λ (l : List A). Stops l) e stops in absurd (cc (holds, no))

  -- such a list, and what comes after it
  pub cut : (xs ys t u : List A) → Passes xs → Passes ys → Stops t → Stops u → xs ++ t ≡ ys ++ u → (xs ≡ ys) × (t ≡ u)
  cut [] [] t u p q s r e = (refl, e)
  cut [] (y ∷ ys) t u p q s r e = absurd (never y (ys ++ u) t q.0 s e)
  cut (x ∷ xs) [] t u p q s r e = absurd (never x (xs ++ t) u p.0 r (let back : u ≡ x ∷ (xs ++ t) = cc e in back))
  cut (x ∷ xs) (y ∷ ys) t u p q s r e =
      let head : x ≡ y = cc e in
      let tail : xs ++ t ≡ ys ++ u = cc e in
      let more = cut xs ys t u p.1 q.1 s r tail in
      let rest = more.0 in
      ((cc (head, rest)), more.1)
