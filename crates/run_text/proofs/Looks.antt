-- What a look at a crowd finds is its ending.
use Rattle.std.proofs.Common.{◌≡◌, ◌⊎◌, inl, inr, ℕ, zero, suc, ◌+◌, ◌-◌, ◌<◌, ◌≤◌, Bool, true, false, [], ◌∷◌, length, Option, Some, None, refl, sym, ap, subst, ◌∙◌, arith}
use Rattle.std.specs.Prelude.{◌↔◌, IfSome, is_some, is_none, option_map, if◌then◌else◌, All, MatchOption}
use Rattle.std.specs.List.{range_with_len, list_all}
use Rattle.std.proofs.lemmas.List.Elements.{All-head, All-tail, All-nil, All-cons, All-contains}
use Rattle.std.proofs.lemmas.Bool.{cond-true, cond-false, cases_lt, false≢true, and_parts, and_from}
use Rattle.pop_leaf.specs.NetModel.{NetModel, Tuple, CrowdModel, IsTuple, output_of}
use Rattle.pop_leaf.specs.Step.{Step}
use Rattle.pop_leaf.specs.Terminal.{IsTerminal}
use Rattle.pop_crowd.specs.Replay.{changes}
use Rattle.terminal_test.specs.Pairs.{IsEnabled, IsLeastPair}
use Rattle.terminal_test.specs.Agreement.{AllOutput, OutputsDiffer}
use Rattle.terminal_test.proofs.Ends.{NoPair, terminal_without, not_terminal}
use Rattle.pop_words.specs.Options.{first_given}
use Rattle.pop_words.proofs.Firsts.{given_at, none_given}
use Rattle.run_text.specs.declared.last.Outcome.{Outcome}
use Rattle.run_text.specs.Ending.{partner_if, with_partner, least_pair, is_terminal, same_truth, common_output, ending_with, ending_until}

none_parts : {B : Type 0} (o rest : Option B) → (if is_some o then o else rest) ≡ None → (o ≡ None) × (rest ≡ None)
none_parts None rest e = (refl, e)
none_parts (Some x) rest e = absurd cc

-- if nothing is found, f gives nothing for any number
given_none : {B : Type 0} (f : ℕ → Option B) (a n : ℕ) → first_given f (range_with_len a n) ≡ None → (i : ℕ) → i < n → f (a + i) ≡ None
given_none f a zero e i l = absurd (omega (arith, l))
given_none f a (suc n) e zero l =
    ap f (let s : a + 0 ≡ a = omega arith in s) ∙ (none_parts (f a) (first_given f (range_with_len (a + 1) n)) e).0
given_none f a (suc n) e (suc i) l =
    ap f (let s : a + suc i ≡ a + 1 + i = omega arith in s) ∙ given_none f (a + 1) n (none_parts (f a) (first_given f (range_with_len (a + 1) n)) e).1 i (omega (arith, l))

none_of_map : {A B : Type 0} (f : A → B) (o : Option A) → option_map f o ≡ None → o ≡ None
none_of_map f None e = refl
none_of_map f (Some x) e = absurd cc

unmarked : (b : Bool) (x : ℕ) → (let r : Option ℕ = if b then Some x else None in r) ≡ None → b ≡ false
unmarked false x e = refl
unmarked true x e = absurd cc

-- the first number for which f gives something
first_found : {B : Type 0} (f : ℕ → Option B) (a n : ℕ) (x : B) → first_given f (range_with_len a n) ≡ Some x → (i : ℕ) × (i < n) × (f (a + i) ≡ Some x) × ((k : ℕ) → k < i → f (a + k) ≡ None)
first_found f a zero x e = absurd cc
first_found {B} f a (suc n) x e = by (f a) refl e (first_found f (a + 1) n x)
  where
    by : (o : Option B) → f a ≡ o → (if is_some o then o else first_given f (range_with_len (a + 1) n)) ≡ Some x → (first_given f (range_with_len (a + 1) n) ≡ Some x → (i : ℕ) × (i < n) × (f (a + 1 + i) ≡ Some x) × ((k : ℕ) → k < i → f (a + 1 + k) ≡ None)) → (i : ℕ) × (i < suc n) × (f (a + i) ≡ Some x) × ((k : ℕ) → k < i → f (a + k) ≡ None)
    by (Some y) is e more =
        (0, (let l : 0 < suc n = omega arith in l), ap f (let z : a + 0 ≡ a = omega arith in z) ∙ is ∙ e, λ k l. absurd (omega (arith, l)))
    by None is e more =
        let rest = more e in
        let within = rest.1 in (
          suc rest.0,
          (let l : suc rest.0 < suc n = omega (arith, within) in l),
          ap f (let z : a + suc rest.0 ≡ a + 1 + rest.0 = omega arith in z) ∙ rest.2,
          before rest.0 rest.3,
        )
      where
        before : (i : ℕ) → ((k : ℕ) → k < i → f (a + 1 + k) ≡ None) → (k : ℕ) → k < suc i → f (a + k) ≡ None
        before i none zero l = ap f (let z : a + 0 ≡ a = omega arith in z) ∙ is
        before i none (suc k) l =
            ap f (let z : a + suc k ≡ a + 1 + k = omega arith in z) ∙ none k (omega (arith, l))

marked : (b : Bool) (x y : ℕ) → (let r : Option ℕ = if b then Some x else None in r) ≡ Some y → (b ≡ true) × (x ≡ y)
marked true x y e = (refl, let same : Some x ≡ Some y = e in cc)
marked false x y e = absurd cc

pub none_is : {A : Type 0} (o : Option A) → is_none o ≡ true → o ≡ None
none_is None e = refl
none_is (Some x) e = absurd cc

module _ (net : NetModel) (crowd : CrowdModel) where
  no_partner : (a : ℕ) → ((b : ℕ) → a < b → b < length crowd → changes net a b crowd ≡ false) → with_partner net crowd a ≡ None
  no_partner a none =
      ap (option_map (λ (b : ℕ). (a, b)))
      (none_given (partner_if net crowd a) (a + 1) (length crowd - (a + 1))
      (λ k l. cond-false (changes net a (a + 1 + k) crowd) (Some (a + 1 + k)) None (none (a + 1 + k) (omega arith) (omega (arith, l)))))

  least_none : NoPair net crowd → least_pair net crowd ≡ None
  least_none none = none_given (with_partner net crowd) 0 (length crowd) (λ k l. no_partner (0 + k) (none (0 + k)))

  quiet : (a b : ℕ) → (IsEnabled net crowd a b → ⊥) → a < b → b < length crowd → changes net a b crowd ≡ false
  quiet a b other l m = by_change (changes net a b crowd) refl
    where
      by_change : (v : Bool) → changes net a b crowd ≡ v → changes net a b crowd ≡ false
      by_change false e = e
      by_change true e = absurd (other (record { lower = l; within = m; changed = e }))

  none_with : (a b : ℕ) → with_partner net crowd a ≡ None → a < b → b < length crowd → changes net a b crowd ≡ false
  none_with a b at l m =
      let here : partner_if net crowd a b ≡ None =
      ap (partner_if net crowd a) (let e : b ≡ a + 1 + (b - (a + 1)) = omega (arith, l) in e)
      ∙ given_none (partner_if net crowd a) (a + 1) (length crowd - (a + 1)) (none_of_map (λ (c : ℕ). (a, c)) (first_given (partner_if net crowd a) (range_with_len (a + 1) (length crowd - (a + 1)))) at) (b - (a + 1)) (omega (arith, l, m)) in
      unmarked (changes net a b crowd) b here

  no_pair_of_none : least_pair net crowd ≡ None → NoPair net crowd
  no_pair_of_none none a b l m =
      none_with a b
      (ap (with_partner net crowd) (let e : a ≡ 0 + a = omega arith in e) ∙ given_none (with_partner net crowd) 0 (length crowd) none a (omega (arith, l, m))) l m

  with_found : (c a b : ℕ) → with_partner net crowd c ≡ Some (a, b) → (c ≡ a) × (first_given (partner_if net crowd a) (range_with_len (a + 1) (length crowd - (a + 1))) ≡ Some b)
  with_found c a b e =
      go (first_given (partner_if net crowd c) (range_with_len (c + 1) (length crowd - (c + 1)))) refl e
    where
      go : (o : Option ℕ) → first_given (partner_if net crowd c) (range_with_len (c + 1) (length crowd - (c + 1))) ≡ o → option_map {U = ℕ × ℕ} (λ (d : ℕ). (c, d)) o ≡ Some (a, b) → (c ≡ a) × (first_given (partner_if net crowd a) (range_with_len (a + 1) (length crowd - (a + 1))) ≡ Some b)
      go None is e = absurd cc
      go (Some d) is e =
          let same : ◌≡◌ {A = ℕ × ℕ} (c, d) (a, b) = cc in
          let first : c ≡ a = ap (λ (p : ℕ × ℕ). p.0) same in
          (first, subst (λ (x : ℕ). first_given (partner_if net crowd x) (range_with_len (x + 1) (length crowd - (x + 1))) ≡ Some b) first (is ∙ ap (λ (p : ℕ × ℕ). Some p.1) same))

  -- what is found is the least pair
  pub least_found : (a b : ℕ) → least_pair net crowd ≡ Some (a, b) → IsLeastPair net crowd a b
  least_found a b e =
      record {
        enabled = record {
          lower = (let l : a < b = omega (arith, there) in l);
          within = (let l = next.1 in omega (arith, there, l));
          changed = subst (λ (x : ℕ). changes net a x crowd ≡ true) there met.0;
        };
        least = least;
      }
    where
      at : (i : ℕ) × (i < length crowd) × (with_partner net crowd (0 + i) ≡ Some (a, b)) × ((k : ℕ) → k < i → with_partner net crowd (0 + k) ≡ None)
      at = first_found (with_partner net crowd) 0 (length crowd) (a, b) e

      here : (0 + at.0 ≡ a) × (first_given (partner_if net crowd a) (range_with_len (a + 1) (length crowd - (a + 1))) ≡ Some b)
      here = with_found (0 + at.0) a b at.2

      next : (i : ℕ) × (i < length crowd - (a + 1)) × (partner_if net crowd a (a + 1 + i) ≡ Some b) × ((k : ℕ) → k < i → partner_if net crowd a (a + 1 + k) ≡ None)
      next = first_found (partner_if net crowd a) (a + 1) (length crowd - (a + 1)) b here.1

      met : (changes net a (a + 1 + next.0) crowd ≡ true) × (a + 1 + next.0 ≡ b)
      met = marked (changes net a (a + 1 + next.0) crowd) (a + 1 + next.0) b next.2

      there : a + 1 + next.0 ≡ b
      there = met.1

      not_both : (v : Bool) → v ≡ true → v ≡ false → ⊥
      not_both v t f = let z : true ≡ false = sym t ∙ f in absurd cc

      earlier : (c d : ℕ) → IsEnabled net crowd c d → c < a → ⊥
      earlier c d h l =
          let first = here.0 in
          let none : with_partner net crowd c ≡ None = ap (with_partner net crowd) (let z : c ≡ 0 + c = omega arith in z) ∙ at.3 c (omega (arith, first, l)) in
          not_both (changes net c d crowd) h.changed (none_with c d none h.lower h.within)

      nearer : (d : ℕ) → IsEnabled net crowd a d → d < b → ⊥
      nearer d h l =
          let low = h.lower in
          let none : partner_if net crowd a d ≡ None = ap (partner_if net crowd a) (let z : d ≡ a + 1 + (d - (a + 1)) = omega (arith, low) in z) ∙ next.3 (d - (a + 1)) (omega (arith, there, l, low)) in
          not_both (changes net a d crowd) h.changed (unmarked (changes net a d crowd) d none)

      least : (c d : ℕ) → IsEnabled net crowd c d → (a < c) ⊎ ((c ≡ a) × (b ≤ d))
      least c d h = by_first (cases_lt a c)
        where
          by_second : c ≡ a → (d < b) ⊎ (b ≤ d) → (a < c) ⊎ ((c ≡ a) × (b ≤ d))
          by_second same (inl l) =
              absurd (nearer d (subst (λ (x : ℕ). IsEnabled net crowd x d) same h) l)
          by_second same (inr l) = inr (same, l)

          at_first : (c < a) ⊎ (a ≤ c) → c ≤ a → (a < c) ⊎ ((c ≡ a) × (b ≤ d))
          at_first (inl l) m = absurd (earlier c d h l)
          at_first (inr l) m = by_second (let z : c ≡ a = omega (arith, l, m) in z) (cases_lt d b)

          by_first : (a < c) ⊎ (c ≤ a) → (a < c) ⊎ ((c ≡ a) × (b ≤ d))
          by_first (inl l) = inl l
          by_first (inr l) = at_first (cases_lt c a) l

  pub least_some : (a b : ℕ) → IsLeastPair net crowd a b → least_pair net crowd ≡ Some (a, b)
  least_some a b h =
      given_at (with_partner net crowd) 0 (length crowd) a (a, b) (omega (arith, h.enabled.lower, h.enabled.within))
      (λ k l. no_partner (0 + k) (λ d low within. quiet (0 + k) d (λ e. earlier (0 + k) d (omega (arith, l)) (h.least (0 + k) d e)) low within))
      (ap (with_partner net crowd) (let e : 0 + a ≡ a = omega arith in e) ∙ ap (option_map (λ (c : ℕ). (a, c))) first)
    where
      earlier : (c d : ℕ) → c < a → (a < c) ⊎ ((c ≡ a) × (b ≤ d)) → ⊥
      earlier c d l (inl m) = omega (arith, l, m)
      earlier c d l (inr e) = omega (arith, l, e.0)

      before : (d : ℕ) → d < b → (a < a) ⊎ ((a ≡ a) × (b ≤ d)) → ⊥
      before d l (inl m) = omega (arith, m)
      before d l (inr e) = omega (arith, l, e.1)

      first : first_given (partner_if net crowd a) (range_with_len (a + 1) (length crowd - (a + 1))) ≡ Some b
      first =
          given_at (partner_if net crowd a) (a + 1) (length crowd - (a + 1)) (b - (a + 1)) b (omega (arith, h.enabled.lower, h.enabled.within))
          (λ k l. cond-false (changes net a (a + 1 + k) crowd) (Some (a + 1 + k)) None (quiet a (a + 1 + k) (λ e. before (a + 1 + k) (omega (arith, l)) (h.least a (a + 1 + k) e)) (omega arith) (omega (arith, l, h.enabled.within))))
          (ap (partner_if net crowd a) (let e : a + 1 + (b - (a + 1)) ≡ b = omega (arith, h.enabled.lower) in e) ∙ cond-true (changes net a b crowd) (Some b) None h.enabled.changed)

  module _ (tuples : All (IsTuple net) crowd) where
    pub least_of_terminal : IsTerminal (Step net) crowd → least_pair net crowd ≡ None
    least_of_terminal t = least_none (λ a b l m. quiet a b (λ e. not_terminal net crowd tuples a b e t) l m)

    pub terminal_of : is_terminal net crowd ≡ true → IsTerminal (Step net) crowd
    terminal_of e = terminal_without net crowd tuples (no_pair_of_none (none_is (least_pair net crowd) e))

    pub is_terminal_of : IsTerminal (Step net) crowd → is_terminal net crowd ≡ true
    is_terminal_of t = ap is_none (least_of_terminal t)

    -- what `enabled_pair` finds
    pub looked : (found : Option (ℕ × ℕ)) → (found ≡ None) ↔ IsTerminal (Step net) crowd → IfSome found (λ p. IsLeastPair net crowd p.0 p.1) → found ≡ least_pair net crowd
    looked None terminal least = sym (least_of_terminal (terminal.0 refl))
    looked (Some p) terminal least = sym (least_some p.0 p.1 least)

truth_same : (a b : Bool) → a ≡ b → same_truth a b ≡ true
truth_same true b e = sym e
truth_same false true e = absurd (false≢true e)
truth_same false false e = refl

same_truth_is : (a b : Bool) → same_truth a b ≡ true → a ≡ b
same_truth_is true b e = sym e
same_truth_is false true e = absurd (false≢true e)
same_truth_is false false e = refl

abbrev has_output : NetModel → Bool → Tuple → Bool
has_output net v u = same_truth (output_of net u) v

all_have : (net : NetModel) (v : Bool) (crowd : CrowdModel) → AllOutput net crowd v → list_all (has_output net v) crowd ≡ true
all_have net v [] h = refl
all_have net v (t ∷ crowd) h =
    and_from (has_output net v t) (list_all (has_output net v) crowd) (truth_same (output_of net t) v (All-head (λ (u : Tuple). output_of net u ≡ v) t crowd h)) (all_have net v crowd (All-tail (λ (u : Tuple). output_of net u ≡ v) t crowd h))

have_all : (net : NetModel) (v : Bool) (crowd : CrowdModel) → list_all (has_output net v) crowd ≡ true → AllOutput net crowd v
have_all net v [] e = All-nil (λ (u : Tuple). output_of net u ≡ v)
have_all net v (t ∷ crowd) e =
    let both = and_parts (has_output net v t) (list_all (has_output net v) crowd) e in
    All-cons (λ (u : Tuple). output_of net u ≡ v) t crowd (same_truth_is (output_of net t) v both.0) (have_all net v crowd both.1)

pub common_some : (net : NetModel) (crowd : CrowdModel) (v : Bool) → 1 ≤ length crowd → AllOutput net crowd v → common_output net crowd ≡ Some v
common_some net [] v some h = absurd (omega (arith, some))
common_some net (t ∷ crowd) v some h =
    let mine : output_of net t ≡ v = All-head (λ (u : Tuple). output_of net u ≡ v) t crowd h in
    let rest : list_all (has_output net (output_of net t)) crowd ≡ true = ap (λ (w : Bool). list_all (has_output net w) crowd) mine ∙ all_have net v crowd (All-tail (λ (u : Tuple). output_of net u ≡ v) t crowd h) in
    cond-true (list_all (has_output net (output_of net t)) crowd) (Some (output_of net t)) None rest ∙ ap Some mine

pub common_none : (net : NetModel) (crowd : CrowdModel) → OutputsDiffer net crowd → common_output net crowd ≡ None
common_none net [] h = refl
common_none net (t ∷ crowd) h = by_test (list_all (has_output net (output_of net t)) crowd) refl
  where
    all : list_all (has_output net (output_of net t)) crowd ≡ true → AllOutput net (t ∷ crowd) (output_of net t)
    all e = All-cons (λ (u : Tuple). output_of net u ≡ output_of net t) t crowd refl (have_all net (output_of net t) crowd e)

    by_test : (b : Bool) → list_all (has_output net (output_of net t)) crowd ≡ b → common_output net (t ∷ crowd) ≡ None
    by_test false e = cond-false (list_all (has_output net (output_of net t)) crowd) (Some (output_of net t)) None e
    by_test true e =
        absurd
        (h.differ
        (All-contains (λ (u : Tuple). output_of net u ≡ output_of net t) (t ∷ crowd) h.one (all e) h.one_there ∙ sym (All-contains (λ (u : Tuple). output_of net u ≡ output_of net t) (t ∷ crowd) h.other (all e) h.other_there)))

-- the ending that the pair found and the outputs determine
pub ended_as : (rest : NetModel) (outcome : Outcome) (net : NetModel) (crowd : CrowdModel) (found : Option (ℕ × ℕ)) (output : Option Bool) → found ≡ least_pair rest crowd → output ≡ common_output net crowd
    → ending_with outcome found output ≡ ending_until rest outcome net crowd
ended_as rest outcome net crowd found output e f = ap (λ (t : Option (ℕ × ℕ) × Option Bool). ending_with outcome t.0 t.1) (λ i. (e i, f i))

pub common_is : (net : NetModel) (crowd : CrowdModel) (output : Option Bool) → 1 ≤ length crowd → MatchOption output (OutputsDiffer net crowd) (AllOutput net crowd) → output ≡ common_output net crowd
common_is net crowd None some h = sym (common_none net crowd h)
common_is net crowd (Some v) some h = sym (common_some net crowd v some h)
