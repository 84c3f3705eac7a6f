-- The words of all agents but one.
use Rattle.std.proofs.Common.{◌≡◌, ◌≢◌, ℕ, Bool, true, false, true≢false, cond, eqb, eq-eqb, not, List, [], ◌∷◌, refl, sym, ap, ◌∙◌, inl, inr, ⊎_elim}
use Rattle.std.proofs.lemmas.Bool.{ne_eqb, eqb-true}
use Rattle.pop_net.specs.declared.net.Word.{Word}
use Rattle.agent_field.specs.Standing.{In}
use Rattle.agent_field.specs.Steps.{without}

pub without-here : (a : ℕ) (x : Word) (l : List (ℕ × Word)) → without a ((a, x) ∷ l) ≡ without a l
without-here a x l = ap (λ (t : Bool). cond (not t) ((a, x) ∷ without a l) (without a l)) (eq-eqb a a refl)

pub without-other : (a b : ℕ) (x : Word) (l : List (ℕ × Word)) → b ≢ a → without a ((b, x) ∷ l) ≡ (b, x) ∷ without a l
without-other a b x l apart = ap (λ (t : Bool). cond (not t) ((b, x) ∷ without a l) (without a l)) (ne_eqb b a apart)

-- what is left belongs to the others
pub in_without : (a c : ℕ) (z : Word) (l : List (ℕ × Word)) → In (c, z) (without a l) → In (c, z) l × (c ≢ a)
in_without a c z [] h = absurd h
in_without a c z (p ∷ ps) h = by_test (λ i. in_without a c z ps i) (eqb p.0 a) refl h
  where
    by_test : (In (c, z) (without a ps) → In (c, z) ps × (c ≢ a)) → (t : Bool) → t ≡ eqb p.0 a → In (c, z) (cond (not t) (p ∷ without a ps) (without a ps)) → In (c, z) (p ∷ ps) × (c ≢ a)
    by_test below true e i = let r = below i in (inr r.0, r.1)
    by_test below false e i =
        ⊎_elim
        {C = In (c, z) (p ∷ ps) × (c ≢ a)}
        (λ (same : (c, z) ≡ p). (inl same, λ is. true≢false (sym (eq-eqb p.0 a (ap (λ (q : ℕ × Word). q.0) (sym same) ∙ is)) ∙ sym e)))
        (λ (j : In (c, z) (without a ps)). let r = below j in (inr r.0, r.1))
        i

-- and all that belongs to the others is left
pub in_without_back : (a c : ℕ) (z : Word) (l : List (ℕ × Word)) → In (c, z) l → c ≢ a → In (c, z) (without a l)
in_without_back a c z [] h apart = absurd h
in_without_back a c z (p ∷ ps) h apart = by_test (λ i. in_without_back a c z ps i apart) (eqb p.0 a) refl
  where
    by_test : (In (c, z) ps → In (c, z) (without a ps)) → (t : Bool) → t ≡ eqb p.0 a → In (c, z) (cond (not t) (p ∷ without a ps) (without a ps))
    by_test below true e =
        ⊎_elim
        {C = In (c, z) (without a ps)}
        (λ (same : (c, z) ≡ p). absurd (apart (ap (λ (q : ℕ × Word). q.0) same ∙ eqb-true p.0 a (sym e))))
        below
        h
    by_test below false e =
        ⊎_elim
        {C = In (c, z) (p ∷ without a ps)}
        (λ (same : (c, z) ≡ p). inl same)
        (λ (j : In (c, z) ps). inr (below j))
        h

-- if only the words of a pair are known, none is left
pub pair_gone : (a b : ℕ) (x y : Word) → without a (without b ((b, y) ∷ (a, x) ∷ [])) ≡ []
pair_gone a b x y = ap (without a) (without-here b y ((a, x) ∷ [])) ∙ first (eqb a b) refl
  where
    first : (t : Bool) → t ≡ eqb a b → without a (cond (not t) ((a, x) ∷ []) []) ≡ []
    first true e = refl
    first false e = without-here a x []

-- of two due words, the second is left, and then none
pub second_due : (a b : ℕ) (x y : Word) → a ≢ b → without a ((a, x) ∷ (b, y) ∷ []) ≡ (b, y) ∷ []
second_due a b x y apart = without-here a x ((b, y) ∷ []) ∙ without-other a b y [] (λ e. apart (sym e))

pub none_due : (a b : ℕ) (x y : Word) → a ≢ b → without b (without a ((a, x) ∷ (b, y) ∷ [])) ≡ []
none_due a b x y apart = ap (without b) (second_due a b x y apart) ∙ without-here b y []

-- one word is due for each agent of a pair
pub first_only : (a b : ℕ) (x y z : Word) → a ≢ b → In {X = ℕ × Word} (a, z) ((a, x) ∷ (b, y) ∷ []) → z ≡ x
first_only a b x y z apart h =
    ⊎_elim
    {C = z ≡ x}
    (λ (same : (a, z) ≡ (a, x)). ap (λ (p : ℕ × Word). p.1) same)
    (λ (i : In {X = ℕ × Word} (a, z) ((b, y) ∷ [])). ⊎_elim {C = z ≡ x} (λ (same : (a, z) ≡ (b, y)). absurd (apart (ap (λ (p : ℕ × Word). p.0) same))) (λ (none : ⊥). absurd none) i)
    h

pub last_only : (b : ℕ) (y z : Word) → In {X = ℕ × Word} (b, z) ((b, y) ∷ []) → z ≡ y
last_only b y z h = ⊎_elim {C = z ≡ y} (λ (same : (b, z) ≡ (b, y)). ap (λ (p : ℕ × Word). p.1) same) (λ (none : ⊥). absurd none) h
