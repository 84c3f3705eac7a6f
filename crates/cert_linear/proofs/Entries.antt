-- Entries, with a list of the touched ones.
use Rattle.std.proofs.Common.{◌≡◌, ◌≢◌, inl, inr, ℕ, zero, suc, ◌+◌, ◌<◌, ◌≤◌, Bool, true, false, List, [], ◌∷◌, ◌++◌, length, take, refl, ap, sym, ◌∙◌, subst, arith}
use Rattle.std.specs.Prelude.{ℤ, pos, ◌+ℤ◌, nat_abs, int_le, slice_get, Some, ◌==◌, if◌then◌else◌, ◌&&◌, All, Contains, slice_index_or, slice_set}
use Rattle.std.specs.List.{list_all}
use Rattle.std.proofs.lemmas.Int.{ints}
use Rattle.std.proofs.lemmas.Bool.Decides.{eqb_tells}
use Rattle.std.proofs.lemmas.List.{length-append, get_or-set_same, get_or-set_other, get_or_default}
use Rattle.std.proofs.lemmas.Option.{slice_get_read}
use Rattle.std.proofs.lemmas.List.Elements.{Contains-append_left, All-push}
use Rattle.std.proofs.lemmas.List.Sums.{AllPass-from_list_all, list_all-from_AllPass}
use Rattle.std.proofs.Math.ListN.{length-set}
use Rattle.std.specs.Cmp.{both_ways}
use Rattle.std.proofs.lemmas.Bool.{and_from}
use Rattle.cert_base.specs.declared.fact.Row.{Row}
use Rattle.cert_base.specs.ClosingTests.{coefficient_in, each_coefficient}
use Rattle.cert_linear.specs.declared.sum.Entry.{Entry}
use Rattle.cert_linear.specs.declared.sum.Sum.{Sum}
use Rattle.cert_linear.specs.Sums.{blank, entry_at, rest_at, coefficient_of, AreTidy, AreRests, IsTidy, IsSum, AreSum, IsListedIfPositive, HasAllPositive}
use Rattle.pop_leaf.proofs.Reactions.{and_left, and_right}
use Rattle.cert_linear.proofs.RowValues.{each_coefficient-at}
use Rattle.base_laws.proofs.Lists.{take_one_more}
use Rattle.base_laws.proofs.Numbers.{size-add, Tells}
use Rattle.cert_linear.specs.declared.sum.TheConstants.{PRODUCT_LIMIT, ENTER_LIMIT, REST_LIMIT, ENTRY_LIMIT}

pub push-at : (entries : List Entry) (q : ℕ) → entry_at (entries ++ blank ∷ []) q ≡ entry_at entries q
push-at [] zero = refl
push-at [] (suc q) = refl
push-at (e ∷ entries) zero = refl
push-at (e ∷ entries) (suc q) = push-at entries q

-- one more blank entry
pub tidy-push : (entries : List Entry) (touched : List ℕ) → AreTidy entries touched → AreTidy (entries ++ blank ∷ []) touched
tidy-push entries touched t = record {
  within = λ k d l. let h = t.within k d l in omega (arith, h, length-append entries (blank ∷ []));
  zero = λ q e. ap (λ (f : Entry). f.sum) (push-at entries q) ∙ t.zero q (sym (ap (λ (f : Entry). f.touched) (push-at entries q)) ∙ e);
  listed = λ q e. t.listed q (sym (ap (λ (f : Entry). f.touched) (push-at entries q)) ∙ e);
}

pub set-same : (entries : List Entry) (x : ℕ) (e : Entry) → x < length entries → entry_at (slice_set entries x e) x ≡ e
set-same entries x e l = get_or-set_same entries x e blank l

pub set-other : (entries : List Entry) (x q : ℕ) (e : Entry) → x ≢ q → entry_at (slice_set entries x e) q ≡ entry_at entries q
set-other entries x q e ne = get_or-set_other entries x q e blank (λ same. ne (sym same))

-- a listed entry is written
pub tidy-set : (entries : List Entry) (touched : List ℕ) (x : ℕ) (e : Entry) → AreTidy entries touched → x < length entries → e.touched ≡ true → Contains touched x → AreTidy (slice_set entries x e) touched
tidy-set entries touched x e t inside marked there = record {
  within = λ k d l. let h = t.within k d l in omega (arith, h, length-set entries x e);
  zero = λ q h. zero_at q h (eqb_tells x q);
  listed = λ q h. listed_at q h (eqb_tells x q);
}
  where
    zero_at : (q : ℕ) → (entry_at (slice_set entries x e) q).touched ≡ false → Tells x q → (entry_at (slice_set entries x e) q).sum ≡ pos 0
    zero_at q h (inl k) =
        let clash : true ≡ false = sym marked ∙ sym (ap (λ (f : Entry). f.touched) (set-same entries x e inside)) ∙ ap (λ n. (entry_at (slice_set entries x e) n).touched) k.1 ∙ h in
        cc
    zero_at q h (inr k) =
        let same = set-other entries x q e k.1 in
        ap (λ (f : Entry). f.sum) same ∙ t.zero q (sym (ap (λ (f : Entry). f.touched) same) ∙ h)

    listed_at : (q : ℕ) → (entry_at (slice_set entries x e) q).touched ≡ true → Tells x q → Contains touched q
    listed_at q h (inl k) = subst (λ (n : ℕ). Contains touched n) k.1 there
    listed_at q h (inr k) =
        let same = set-other entries x q e k.1 in
        t.listed q (sym (ap (λ (f : Entry). f.touched) same) ∙ h)

-- one more is listed
pub tidy-list : (entries : List Entry) (touched : List ℕ) (x : ℕ) → AreTidy entries touched → x < length entries → AreTidy entries (touched ++ x ∷ [])
tidy-list entries touched x t inside = record {
  within = All-push (λ (q : ℕ). q < length entries) touched x t.within inside;
  zero = t.zero;
  listed = λ q e. Contains-append_left touched (x ∷ []) q (t.listed q e);
}

-- the sums after an entry's sum grew
pub sum-grown : (entries : List Entry) (x : ℕ) (e : Entry) (by : ℤ) → x < length entries → e.sum ≡ ((entry_at entries x).sum +ℤ by) → (q : ℕ) → (entry_at (slice_set entries x e) q).sum ≡ ((entry_at entries q).sum +ℤ (if x == q then by else pos 0))
sum-grown entries x e by inside grown q = go (eqb_tells x q)
  where
    go : Tells x q → (entry_at (slice_set entries x e) q).sum ≡ ((entry_at entries q).sum +ℤ (if x == q then by else pos 0))
    go (inl h) =
        rw (h.0, ← h.1) (ap (λ (f : Entry). f.sum) (set-same entries x e inside) ∙ grown)
    go (inr h) =
        let same = ap (λ (f : Entry). f.sum) (set-other entries x q e h.1) in
        rw h.0 (omega (arith, ints, same))

-- a listed entry grows
pub entry_grows : (entries : List Entry) (touched : List ℕ) (x : ℕ) (here e : Entry) (by total : ℤ) → AreTidy entries touched → x < length entries → here ≡ entry_at entries x → here.touched ≡ true → e ≡ record { sum = total; touched = here.touched } → total ≡ (here.sum +ℤ by) → AreTidy (slice_set entries x e) touched × ((q : ℕ) → (entry_at (slice_set entries x e) q).sum ≡ ((entry_at entries q).sum +ℤ (if x == q then by else pos 0)))
entry_grows entries touched x here e by total t inside is marked e_is total_is =
    let there = t.listed x (ap (λ (f : Entry). f.touched) (sym is) ∙ marked) in
    let e_marked : e.touched ≡ true = ap (λ (f : Entry). f.touched) e_is ∙ marked in
    let e_sum : e.sum ≡ ((entry_at entries x).sum +ℤ by) = ap (λ (f : Entry). f.sum) e_is ∙ total_is ∙ ap (λ (f : Entry). f.sum +ℤ by) is in
    (tidy-set entries touched x e t inside e_marked there, sum-grown entries x e by inside e_sum)

-- ---- rests

-- the coefficient of a variable that wasn't touched is 0
pub untouched-zero : (sum : Sum) (q : ℕ) → IsTidy sum → (entry_at sum.entries.items q).touched ≡ false → coefficient_of sum q ≡ pos 0
untouched-zero sum q tidy f =
    let e = tidy.0.zero q f in let r = tidy.1.zero q f in omega (arith, ints, e, r)

-- one more blank entry
pub rests-push : (entries : List Entry) (rests : List ℤ) → AreRests entries rests → AreRests (entries ++ blank ∷ []) rests
rests-push entries rests r = record {
  zero = λ q e. r.zero q (sym (ap (λ (f : Entry). f.touched) (push-at entries q)) ∙ e);
  small = r.small;
}

-- a touched entry is written
pub rests-set : (entries : List Entry) (rests : List ℤ) (x : ℕ) (e : Entry) → AreRests entries rests → x < length entries → e.touched ≡ true → AreRests (slice_set entries x e) rests
rests-set entries rests x e r inside marked = record {
  zero = λ q h. zero_at q h (eqb_tells x q);
  small = r.small;
}
  where
    zero_at : (q : ℕ) → (entry_at (slice_set entries x e) q).touched ≡ false → Tells x q → rest_at rests q ≡ pos 0
    zero_at q h (inl k) =
        let clash : true ≡ false = sym marked ∙ sym (ap (λ (f : Entry). f.touched) (set-same entries x e inside)) ∙ ap (λ n. (entry_at (slice_set entries x e) n).touched) k.1 ∙ h in
        cc
    zero_at q h (inr k) = r.zero q (sym (ap (λ (f : Entry). f.touched) (set-other entries x q e k.1)) ∙ h)

-- the rest of a touched entry grows
pub rests-grown : (entries : List Entry) (rests after : List ℤ) (x : ℕ) (by : ℤ) → AreRests entries rests → (entry_at entries x).touched ≡ true → ((q : ℕ) → rest_at after q ≡ (rest_at rests q +ℤ (if x == q then by else pos 0))) → nat_abs (rest_at after x) ≤ REST_LIMIT → AreRests entries after
rests-grown entries rests after x by r marked is bound = record {
  zero = λ q h. zero_at q h (eqb_tells x q);
  small = λ q. small_at q (eqb_tells x q);
}
  where
    other : (q : ℕ) → (x == q) ≡ false → rest_at after q ≡ rest_at rests q
    other q f = let e = is q ∙ ap (λ b. rest_at rests q +ℤ (if b then by else pos 0)) f in omega (arith, ints, e)

    zero_at : (q : ℕ) → (entry_at entries q).touched ≡ false → Tells x q → rest_at after q ≡ pos 0
    zero_at q h (inl k) =
        let clash : true ≡ false = sym marked ∙ ap (λ n. (entry_at entries n).touched) k.1 ∙ h in
        cc
    zero_at q h (inr k) = other q k.0 ∙ r.zero q h

    small_at : (q : ℕ) → Tells x q → nat_abs (rest_at after q) ≤ REST_LIMIT
    small_at q (inl k) = rw (← k.1) bound
    small_at q (inr k) = rw (other q k.0) (r.small q)

-- what is added to a rest is added to the coefficient
pub rest_grows : (entries after : List Entry) (rests mid : List ℤ) (x : ℕ) (here by total : ℤ) → AreRests entries rests → after ≡ entries → ((q : ℕ) → rest_at mid q ≡ rest_at rests q) → x < length mid → here ≡ rest_at mid x → total ≡ (here +ℤ by) → (entry_at entries x).touched ≡ true → nat_abs by ≤ PRODUCT_LIMIT → nat_abs (rest_at rests x) ≤ ENTER_LIMIT + ENTRY_LIMIT → ((q : ℕ) → ((entry_at after q).sum +ℤ rest_at (slice_set mid x total) q) ≡ (((entry_at entries q).sum +ℤ rest_at rests q) +ℤ (if x == q then by else pos 0))) × AreRests after (slice_set mid x total)
rest_grows entries after rests mid x here by total r same kept inside is grown marked small room =
    (λ q. let e = grows q in let f = ap (λ es. (entry_at es q).sum) same in omega (arith, ints, e, f), subst (λ es. AreRests es (slice_set mid x total)) (sym same) (rests-grown entries rests (slice_set mid x total) x by r marked grows bound))
  where
    here_is : here ≡ rest_at rests x
    here_is = is ∙ kept x

    at_x : rest_at (slice_set mid x total) x ≡ total
    at_x = get_or-set_same mid x total (pos 0) inside

    bound : nat_abs (rest_at (slice_set mid x total) x) ≤ REST_LIMIT
    bound =
        let add = size-add here by in
        let whole : rest_at (slice_set mid x total) x ≡ (here +ℤ by) = at_x ∙ grown in
        let old : nat_abs here ≤ ENTER_LIMIT + ENTRY_LIMIT = rw here_is room in
        rw whole (omega (arith, add, old, small))

    grows_at : (q : ℕ) → Tells x q → rest_at (slice_set mid x total) q ≡ (rest_at rests q +ℤ (if x == q then by else pos 0))
    grows_at q (inl h) = rw (h.0, ← h.1) (at_x ∙ grown ∙ ap (λ z. z +ℤ by) here_is)
    grows_at q (inr h) =
        let e = get_or-set_other mid x q total (pos 0) (λ s. h.1 (sym s)) in let k = kept q in
        rw h.0 (omega (arith, ints, e, k))

    grows : (q : ℕ) → rest_at (slice_set mid x total) q ≡ (rest_at rests q +ℤ (if x == q then by else pos 0))
    grows q = grows_at q (eqb_tells x q)

-- a listed entry grows, and the coefficient with it
pub coefficient_grows : (sum : Sum) (x : ℕ) (here e : Entry) (by total : ℤ) → IsTidy sum → x < length sum.entries.items → here ≡ entry_at sum.entries.items x → here.touched ≡ true → e ≡ record { sum = total; touched = here.touched } → total ≡ (here.sum +ℤ by) → (AreTidy (slice_set sum.entries.items x e) sum.touched.items × AreRests (slice_set sum.entries.items x e) sum.rests.items) × ((q : ℕ) → ((entry_at (slice_set sum.entries.items x e) q).sum +ℤ rest_at sum.rests.items q) ≡ (coefficient_of sum q +ℤ (if x == q then by else pos 0)))
coefficient_grows sum x here e by total tidy inside is marked e_is total_is =
    let grows = entry_grows sum.entries.items sum.touched.items x here e by total tidy.0 inside is marked e_is total_is in
    let e_marked : e.touched ≡ true = ap (λ (f : Entry). f.touched) e_is ∙ marked in
    ((grows.0, rests-set sum.entries.items sum.rests.items x e tidy.1 inside e_marked), λ q. let g = grows.1 q in omega (arith, ints, g))

-- the touched entries pass a test that 0 passes exactly when the coefficients of the row do
pub each-touched : (test : ℤ → Bool) (row : Row) (sum : Sum) → IsSum row sum → IsTidy sum → test (pos 0) ≡ true → list_all (λ q. test (coefficient_of sum q)) sum.touched.items ≡ each_coefficient test row
each-touched test row sum is tidy zero_passes =
    both_ways _ _
    (λ e. list_all-from_AllPass (λ t. test (coefficient_in row.terms t.at)) row.terms (λ k d l. let at = (slice_index_or row.terms k d).at in ap test (sym (is.terms at)) ∙ passes at e (entry_at sum.entries.items at).touched refl))
    (λ e. list_all-from_AllPass (λ q. test (coefficient_of sum q)) sum.touched.items (λ k d l. let at = slice_index_or sum.touched.items k d in ap test (is.terms at) ∙ each_coefficient-at test row at zero_passes e))
  where
    found : (q : ℕ) → list_all (λ q. test (coefficient_of sum q)) sum.touched.items ≡ true → Contains sum.touched.items q → test (coefficient_of sum q) ≡ true
    found q e (k, l, is) = ap (λ n. test (coefficient_of sum n)) (sym is) ∙ AllPass-from_list_all (λ q. test (coefficient_of sum q)) sum.touched.items e k q l

    passes : (q : ℕ) → list_all (λ q. test (coefficient_of sum q)) sum.touched.items ≡ true → (b : Bool) → (entry_at sum.entries.items q).touched ≡ b → test (coefficient_of sum q) ≡ true
    passes q e false f = ap test (untouched-zero sum q tidy f) ∙ zero_passes
    passes q e true f = found q e (tidy.0.listed q f)

-- the touched entries of a sum and the listed ones of another pass exactly when no coefficient of their row is above 0
pub none-positive-both : (row : Row) (sum other : Sum) (listed : List ℕ) → AreSum row sum other → IsTidy sum → HasAllPositive other listed → (list_all (λ q. int_le (coefficient_of sum q +ℤ coefficient_of other q) (pos 0)) sum.touched.items && list_all (λ q. int_le (coefficient_of sum q +ℤ coefficient_of other q) (pos 0)) listed) ≡ each_coefficient (λ a. int_le a (pos 0)) row
none-positive-both row sum other listed are tidy all =
    both_ways _ _
    (λ e. list_all-from_AllPass (λ t. test (coefficient_in row.terms t.at)) row.terms (λ k d l. let at = (slice_index_or row.terms k d).at in ap test (sym (are.terms at)) ∙ passes at (and_left _ _ e) (and_right _ _ e) (entry_at sum.entries.items at).touched refl))
    (λ e. and_from _ _ (list_all-from_AllPass both sum.touched.items (λ k d l. every e (slice_index_or sum.touched.items k d))) (list_all-from_AllPass both listed (λ k d l. every e (slice_index_or listed k d))))
  where
    test : ℤ → Bool
    test a = int_le a (pos 0)

    both : ℕ → Bool
    both q = test (coefficient_of sum q +ℤ coefficient_of other q)

    every : each_coefficient test row ≡ true → (q : ℕ) → both q ≡ true
    every e q = ap test (are.terms q) ∙ each_coefficient-at test row q refl e

    found : (variables : List ℕ) (q : ℕ) → list_all both variables ≡ true → Contains variables q → both q ≡ true
    found variables q e (k, l, is) = ap both (sym is) ∙ AllPass-from_list_all both variables e k q l

    untouched : (q : ℕ) → list_all both listed ≡ true → both q ≡ test (coefficient_of other q) → (b : Bool) → test (coefficient_of other q) ≡ b → both q ≡ true
    untouched q f same true e = same ∙ e
    untouched q f same false e = found listed q f (all q e)

    passes : (q : ℕ) → list_all both sum.touched.items ≡ true → list_all both listed ≡ true → (b : Bool) → (entry_at sum.entries.items q).touched ≡ b → both q ≡ true
    passes q e f true g = found sum.touched.items q e (tidy.0.listed q g)
    passes q e f false g =
        let zero = untouched-zero sum q tidy g in
        let own : (coefficient_of sum q +ℤ coefficient_of other q) ≡ coefficient_of other q = omega (arith, ints, zero) in
        untouched q f (ap test own) (test (coefficient_of other q)) refl

-- ---- positive variables

-- all are listed if the touched ones are
pub all-positive : (sum : Sum) (listed : List ℕ) → IsTidy sum → All (IsListedIfPositive sum listed) sum.touched.items → HasAllPositive sum listed
all-positive sum listed tidy touched q e = go (entry_at sum.entries.items q).touched refl
  where
    found : Contains sum.touched.items q → Contains listed q
    found (k, l, is) = subst (IsListedIfPositive sum listed) is (touched k q l) e

    go : (b : Bool) → (entry_at sum.entries.items q).touched ≡ b → Contains listed q
    go true f = found (tidy.0.listed q f)
    go false f =
        let clash : true ≡ false = sym (ap (λ a. int_le a (pos 0)) (untouched-zero sum q tidy f)) ∙ e in
        cc

-- one more variable is looked at
pub listed-more : (sum : Sum) (listed more variables : List ℕ) (i d : ℕ) → i < length variables → ((q : ℕ) → Contains listed q → Contains more q) → IsListedIfPositive sum more (slice_index_or variables i d) → All (IsListedIfPositive sum listed) (take i variables) → All (IsListedIfPositive sum more) (take (i + 1) variables)
listed-more sum listed more variables i d l grows here before =
    let x = slice_index_or variables i d in
    let is : slice_get variables i ≡ Some x = slice_get_read variables (length variables) i x refl l (sym (get_or_default variables i x d l)) in
    subst (λ us. All (IsListedIfPositive sum more) us) (sym (take_one_more variables i x is)) (All-push (IsListedIfPositive sum more) (take i variables) x (λ k e m f. grows _ (before k e m f)) here)
