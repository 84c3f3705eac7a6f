-- What each reader reads, and that it reads each such value.
use Rattle.std.proofs.Common.{◌≡◌, ℕ, suc, ◌+◌, ◌≤◌, ◌&&◌, Bool, nat_le, List, [], ◌∷◌, ◌++◌, length, Option, Some, None, option_and_then, ℤ, pos, negsuc, Result, Ok, refl, sym, ap, subst, ◌∙◌, append_assoc, append-nil}
use Rattle.std.proofs.lemmas.Bool.{leb-true, le-leb, and_parts}
use Rattle.serde_json.specs.Data.{Data, Items, null, boolean, number, string, array, object}
use Rattle.serde_json.specs.Find.{get, as_number, as_i64, as_str, as_array, as_bool}
use Rattle.base_json.specs.declared.fault.Why.TheVariants.{Range}
use Rattle.base_json.specs.Faults.{Fault, ◌>>=◌}
use Rattle.base_json.specs.Paths.{member_path}
use Rattle.base_json.specs.Shapes.{listed, of_kind, object_at, member_at, within, list_at, in_range, number_at, text_at, truth_at, each}
use Rattle.base_json.specs.Parts.{IsNumber, IsText, IsTruth, AreItems, IsList}
use Rattle.base_json.proofs.Steps.{bind_ok, guard_ok, same_ok}

pub kind_takes : {A : Type 0} (path : List ℕ) (o : Option A) (x : A) → of_kind path o ≡ Ok x → o ≡ Some x
kind_takes path None x e = absurd cc
kind_takes path (Some y) x e = cc

pub text_at-takes : (path : List ℕ) (d : Data) (s : List ℕ) → text_at path d ≡ Ok s → IsText s d
unfolding text_at
text_at-takes path d s e = kind_takes path (as_str d) s e

pub text_at-again : (path : List ℕ) (d : Data) (s : List ℕ) → IsText s d → text_at path d ≡ Ok s
unfolding text_at
text_at-again path d s is = rw is refl

pub truth_at-takes : (path : List ℕ) (d : Data) (b : Bool) → truth_at path d ≡ Ok b → IsTruth b d
unfolding truth_at
truth_at-takes path d b e = kind_takes path (as_bool d) b e

pub truth_at-again : (path : List ℕ) (d : Data) (b : Bool) → IsTruth b d → truth_at path d ≡ Ok b
unfolding truth_at
truth_at-again path d b is = rw is refl

in_range_takes : (path : List ℕ) (least most : ℕ) (z : ℤ) (n : ℕ) → in_range path least most z ≡ Ok n → (z ≡ pos n) × (least ≤ n) × (n ≤ most)
in_range_takes path least most (pos m) n e =
    let g = guard_ok (nat_le least m && nat_le m most) path Range m n e in
    let t = and_parts (nat_le least m) (nat_le m most) g.0 in
    (ap (λ k. pos k) g.1, rw (← g.1) (leb-true least m t.0), rw (← g.1) (leb-true m most t.1))
in_range_takes path least most (negsuc m) n e = absurd cc

pub number_at-takes : (path : List ℕ) (least most : ℕ) (d : Data) (n : ℕ) → number_at path least most d ≡ Ok n → IsNumber n d × (least ≤ n) × (n ≤ most)
unfolding number_at
number_at-takes path least most d n e =
    let a = bind_ok (of_kind path (option_and_then as_i64 (as_number d))) (λ z. in_range path least most z) n e in
    let r = in_range_takes path least most a.0 n a.2 in
    (kind_takes path (option_and_then as_i64 (as_number d)) a.0 a.1 ∙ ap (λ (z : ℤ). Some z) r.0, r.1, r.2)

pub number_at-again : (path : List ℕ) (least most : ℕ) (d : Data) (n : ℕ) → IsNumber n d → least ≤ n → n ≤ most → number_at path least most d ≡ Ok n
unfolding number_at
number_at-again path least most d n is lo hi = rw (is, le-leb least n lo, le-leb n most hi) refl

pub list_at-takes : (path : List ℕ) (least most : ℕ) (d : Data) (ds : List Data) → list_at path least most d ≡ Ok ds → (items : Items) × (as_array d ≡ Some items) × (listed items ≡ ds) × (least ≤ length ds) × (length ds ≤ most)
unfolding list_at
list_at-takes path least most d ds e =
    let a = bind_ok (of_kind path (as_array d)) (λ is. within path least most (listed is)) ds e in
    let g = guard_ok (nat_le least (length (listed a.0)) && nat_le (length (listed a.0)) most) path Range (listed a.0) ds a.2 in
    let t = and_parts (nat_le least (length (listed a.0))) (nat_le (length (listed a.0)) most) g.0 in
    (a.0, kind_takes path (as_array d) a.0 a.1, g.1, subst (λ (xs : List Data). least ≤ length xs) g.1 (leb-true _ _ t.0), subst (λ (xs : List Data). length xs ≤ most) g.1 (leb-true _ _ t.1))

pub list_at-again : (path : List ℕ) (least most : ℕ) (d : Data) (items : Items) → as_array d ≡ Some items → least ≤ length (listed items) → length (listed items) ≤ most → list_at path least most d ≡ Ok (listed items)
unfolding list_at
list_at-again path least most d items is lo hi = rw (is, le-leb least (length (listed items)) lo, le-leb (length (listed items)) most hi) refl

-- a value that has a member is an object
pub object_at-again : (path name : List ℕ) (d e : Data) → get name d ≡ Some e → object_at path d ≡ Ok tt
unfolding object_at
object_at-again path name null e has = absurd cc
object_at-again path name (boolean b) e has = absurd cc
object_at-again path name (number n) e has = absurd cc
object_at-again path name (string s) e has = absurd cc
object_at-again path name (array ds) e has = absurd cc
object_at-again path name (object ms) e has = refl

pub member_at-takes : (path name : List ℕ) (d e : Data) → member_at path name d ≡ Ok e → get name d ≡ Some e
member_at-takes path name d e is = kind_takes (member_path path name) (get name d) e is

-- each element has the property, given those before it
abbrev pub EachFrom : {A : Type 0} → (List A → A → Type 0) → List A → List A → Type 0
EachFrom P found [] = Unit {0}
EachFrom P found (x ∷ xs) = P found x × EachFrom P (found ++ x ∷ []) xs

-- what the items gave after those that were found before
pub record Gave {A : Type 0} (Is : A → Data → Type 0) (P : List A → A → Type 0) (found given : List A) (ds : List Data) : Type 0 where
  pub more : List A
  pub whole : given ≡ found ++ more
  pub items : AreItems Is more ds
  pub each_one : EachFrom P found more

pub AreItems-length : {A : Type 0} (Is : A → Data → Type 0) (xs : List A) (ds : List Data) → AreItems Is xs ds → length xs ≡ length ds
AreItems-length Is [] [] are = refl
AreItems-length Is [] (d ∷ ds) are = absurd are
AreItems-length Is (x ∷ xs) [] are = absurd are
AreItems-length Is (x ∷ xs) (d ∷ ds) are = ap suc (AreItems-length Is xs ds are.1)

module _ {A : Type 0} (at : List A → ℕ → Data → Result A Fault) (Is : A → Data → Type 0) (P : List A → A → Type 0) where
  pub each-takes : ((found : List A) (i : ℕ) (d : Data) (x : A) → at found i d ≡ Ok x → Is x d × P found x) → (found : List A) (i : ℕ) (ds : List Data) (xs : List A) → each at found i ds ≡ Ok xs → Gave Is P found xs ds
  each-takes takes found i [] xs e = record { more = []; whole = sym (same_ok found xs e) ∙ sym (append-nil found); items = tt; each_one = tt }
  each-takes takes found i (d ∷ ds) xs e =
      let a = bind_ok (at found i d) (λ x. each at (found ++ x ∷ []) (i + 1) ds) xs e in
      let t = takes found i d a.0 a.1 in
      let r = each-takes takes (found ++ a.0 ∷ []) (i + 1) ds xs a.2 in
      record { more = a.0 ∷ r.more; whole = r.whole ∙ append_assoc found (a.0 ∷ []) r.more; items = (t.0, r.items); each_one = (t.1, r.each_one) }

  pub each-again : ((found : List A) (i : ℕ) (d : Data) (x : A) → Is x d → P found x → at found i d ≡ Ok x) → (found : List A) (i : ℕ) (ds : List Data) (xs : List A) → AreItems Is xs ds → EachFrom P found xs → each at found i ds ≡ Ok (found ++ xs)
  each-again again found i [] [] are each_one = ap (λ (x : List A). Ok x) (sym (append-nil found))
  each-again again found i [] (x ∷ xs) are each_one = absurd are
  each-again again found i (d ∷ ds) [] are each_one = absurd are
  each-again again found i (d ∷ ds) (x ∷ xs) are each_one =
      rw (again found i d x are.0 each_one.0) (each-again again (found ++ x ∷ []) (i + 1) ds xs are.1 each_one.1 ∙ ap (λ (x : List A). Ok x) (append_assoc found (x ∷ []) xs))

  -- a whole list, of least to most items
  pub list-takes : ((found : List A) (i : ℕ) (d : Data) (x : A) → at found i d ≡ Ok x → Is x d × P found x) → (path : List ℕ) (least most : ℕ) (d : Data) (xs : List A) → (list_at path least most d >>= λ ds. each at [] 0 ds) ≡ Ok xs
      → IsList Is xs d × EachFrom P [] xs × (least ≤ length xs) × (length xs ≤ most)
  list-takes takes path least most d xs e =
      let a = bind_ok (list_at path least most d) (λ ds. each at [] 0 ds) xs e in
      let n = list_at-takes path least most d a.0 a.1 in
      let r = each-takes takes [] 0 a.0 xs a.2 in
      let are : AreItems Is xs a.0 = subst (λ (ys : List A). AreItems Is ys a.0) (sym r.whole) r.items in
      let long = AreItems-length Is xs a.0 are in (
        (n.0, n.1, subst (λ (es : List Data). AreItems Is xs es) (sym n.2) are),
        subst (λ (ys : List A). EachFrom P [] ys) (sym r.whole) r.each_one,
        subst (λ (k : ℕ). least ≤ k) (sym long) n.3,
        subst (λ (k : ℕ). k ≤ most) (sym long) n.4,
      )

  pub list-again : ((found : List A) (i : ℕ) (d : Data) (x : A) → Is x d → P found x → at found i d ≡ Ok x) → (path : List ℕ) (least most : ℕ) (d : Data) (xs : List A) → IsList Is xs d → EachFrom P [] xs → least ≤ length xs → length xs ≤ most
      → (list_at path least most d >>= λ ds. each at [] 0 ds) ≡ Ok xs
  list-again again path least most d xs is each_one lo hi =
      let long = AreItems-length Is xs (listed is.0) is.2 in
      rw (list_at-again path least most d is.0 is.1 (rw (← long) lo) (rw (← long) hi)) (each-again again [] 0 (listed is.0) xs is.2 each_one)
