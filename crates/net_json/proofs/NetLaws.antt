-- What is read of a net is the net of its file, and each file of a net is read.
use Rattle.std.proofs.Common.{◌≡◌, ◌≢◌, ◌⊎◌, inl, inr, ℕ, ◌-◌, ◌≤◌, Bool, true, false, cond, List, [], ◌∷◌, ◌++◌, length, codes, Option, Some, None, Result, Ok, Err, refl, ap, sym, subst, ◌∙◌, arith}
use Rattle.std.specs.Prelude.{All, is_some, IsSomeAnd, IfSome, IfOk, IfErr, ◌==◌, if◌then◌else◌}
use Rattle.std.proofs.lemmas.List.Elements.{All-nil, All-cons, All-head, All-tail}
use Rattle.std.proofs.lemmas.Bool.Decides.{eqb_tells}
use Rattle.std.specs.Str.{bytes_eq}
use Rattle.std.proofs.lemmas.Slice.Eq.{bytes_eq-Decides}
use Rattle.serde_json.specs.Data.{Data, null, boolean, number, string, array, object}
use Rattle.serde_json.specs.Find.{as_str}
use Rattle.pop_io.specs.Names.{variable_name}
use Rattle.base_json.specs.declared.fault.Why.TheVariants.{Name, Shape}
use Rattle.base_json.specs.declared.fault.FormatFault.{FormatFault}
use Rattle.base_json.specs.declared.fault.FormatFault.TheVariants.{Broken, NoMemory}
use Rattle.base_json.specs.Faults.{Fault, ◌>>=◌, broken, GivesRead}
use Rattle.base_json.specs.Paths.{member_path, item_path}
use Rattle.base_json.specs.Shapes.{listed, object_at, member_at, member_by, number_at, item_by, each_at}
use Rattle.base_json.specs.Parts.{IsNumber, AreItems, IsList}
use Rattle.base_json.proofs.Steps.{bind_ok, guard_ok, same_ok}
use Rattle.base_json.proofs.Readers
use Rattle.base_json.proofs.Fresh
use Rattle.pop_leaf.specs.declared.item.Item.{Item}
use Rattle.pop_leaf.specs.declared.item.Item.TheVariants.{Leaf, Not, And, Or}
use Rattle.pop_leaf.specs.LeafModel.{LeafModel, IsLeaf}
use Rattle.pop_leaf.specs.NetModel.{NetModel, IsNet, NamesBelow, combined, depth_operators, helpers_of}
use Rattle.pop_net.specs.NetFaults.{are_low, first_wide_leaf}
use Rattle.pop_io.specs.declared.names.TheConstants.{VARIABLE_LIMIT}
use Rattle.pop_leaf.specs.declared.limits.TheConstants.{HELPER_LIMIT, LEAF_LIMIT, ITEM_LIMIT, DEPTH_LIMIT}
use Rattle.pop_net.proofs.NetFaults.{none_wide, some_item}
use Rattle.net_json.specs.declared.format.TheConstants.{PLAIN_FORMAT, HELPER_FORMAT}
use Rattle.net_json.specs.NetFile.{IsItem, AreHelpers, IsLeafFile, IsNetFile}
use Rattle.net_json.specs.Kept.{IsBroken}
use Rattle.net_json.specs.Examined.{names_at, range_after, helpers_allowed, leaf_item, leaves_at, fitting_net, operand_at, open_depths, item_at, combine_item, combine_items_at, combine_at, net_at}
use Rattle.net_json.proofs.LeafLaws.{names_at-takes, names_at-again, Allows, TellsHelpers, Follows, leaf_at-takes, leaf_at-again}
use Rattle.net_json.proofs.Postfix.{IsPlaced, placed-takes, placed-again, one_tree}

same_bytes : (s t : List ℕ) → bytes_eq s t ≡ true → s ≡ t
same_bytes s t e = (bytes_eq-Decides s t).0 e

-- the word of an operator, found by three tests
by_words : (path s : List ℕ) (item : Item) (no con dis : Bool) → (bytes_eq s (codes "not") ≡ no) → (bytes_eq s (codes "and") ≡ con) → (bytes_eq s (codes "or") ≡ dis)
    → cond no (let o : Result Item Fault = Ok Not in o) (cond con (Ok And) (cond dis (Ok Or) (broken path Name))) ≡ Ok item → (n : ℕ) → (d : Data) → as_str d ≡ Some s → IsItem item d × NamesBelow n item
by_words path s item true con dis a b c e n d is =
    let same : Not ≡ item = cc in
    subst (λ (i : Item). IsItem i d × NamesBelow n i) same (is ∙ ap (λ (t : List ℕ). Some t) (same_bytes s (codes "not") a), tt)
by_words path s item false true dis a b c e n d is =
    let same : And ≡ item = cc in
    subst (λ (i : Item). IsItem i d × NamesBelow n i) same (is ∙ ap (λ (t : List ℕ). Some t) (same_bytes s (codes "and") b), tt)
by_words path s item false false true a b c e n d is =
    let same : Or ≡ item = cc in
    subst (λ (i : Item). IsItem i d × NamesBelow n i) same (is ∙ ap (λ (t : List ℕ). Some t) (same_bytes s (codes "or") c), tt)
by_words path s item false false false a b c e n d is = absurd cc

module _ (leaves : ℕ) (some_leaf : 1 ≤ leaves) where
  operand_takes : (path : List ℕ) (d : Data) (o : Option (List ℕ)) (item : Item) → as_str d ≡ o → operand_at path leaves d o ≡ Ok item → IsItem item d × NamesBelow leaves item
  operand_takes path d None item is e =
      let a = bind_ok (number_at path 0 (leaves - 1) d) (λ i. (let o : Result Item Fault = Ok (Leaf i) in o)) item e in
      let n = Readers.number_at-takes path 0 (leaves - 1) d a.0 a.1 in
      subst (λ (i : Item). IsItem i d × NamesBelow leaves i) (same_ok (Leaf a.0) item a.2) (n.0, omega (arith, n.2))
  operand_takes path d (Some s) item is e = by_words path s item (bytes_eq s (codes "not")) (bytes_eq s (codes "and")) (bytes_eq s (codes "or")) refl refl refl e leaves d is

  -- a number isn't a text
  no_text : (d : Data) (n : ℕ) → IsNumber n d → as_str d ≡ None
  no_text null n is = absurd cc
  no_text (boolean b) n is = absurd cc
  no_text (number x) n is = refl
  no_text (string s) n is = absurd cc
  no_text (array ds) n is = absurd cc
  no_text (object ms) n is = absurd cc

  operand_again : (path : List ℕ) (d : Data) (item : Item) → IsItem item d → NamesBelow leaves item → operand_at path leaves d (as_str d) ≡ Ok item
  operand_again path d (Leaf i) is below = rw (no_text d i is, Readers.number_at-again path 0 (leaves - 1) d i is (omega arith) (omega arith)) refl
  operand_again path d Not is below = rw is refl
  operand_again path d And is below = rw is refl
  operand_again path d Or is below = rw is refl

  abbrev Fits : List Item → Item → Type 0
  Fits found item = NamesBelow leaves item × IsPlaced found item

  item_takes : (path : List ℕ) (found : List Item) (i : ℕ) (d : Data) (item : Item) → combine_item path leaves found i d ≡ Ok item → IsItem item d × Fits found item
  unfolding item_at
  item_takes path found i d item e =
      let at = item_path path i in
      let a = bind_ok (operand_at at leaves d (as_str d)) (λ x. cond (are_low (open_depths (found ++ x ∷ []))) (Ok x) (broken at Shape)) item e in
      let g = guard_ok (are_low (open_depths (found ++ a.0 ∷ []))) at Shape a.0 item a.2 in
      let t = operand_takes at d (as_str d) a.0 refl a.1 in
      subst (λ (x : Item). IsItem x d × Fits found x) g.1 (t.0, (t.1, g.0))

  item_again : (path : List ℕ) (found : List Item) (i : ℕ) (d : Data) (item : Item) → IsItem item d → Fits found item → combine_item path leaves found i d ≡ Ok item
  unfolding item_at
  item_again path found i d item is fits = rw (operand_again (item_path path i) d item is fits.0, fits.1) refl

  fit_both : (found items : List Item) → Readers.EachFrom (λ _ x. NamesBelow leaves x) found items → Readers.EachFrom IsPlaced found items → Readers.EachFrom Fits found items
  fit_both found [] below placed = tt
  fit_both found (x ∷ xs) below placed = ((below.0, placed.0), fit_both (found ++ x ∷ []) xs below.1 placed.1)

  pub combine_at-takes : (path : List ℕ) (d : Data) (items : List Item) → combine_at leaves path d ≡ Ok items → IsList IsItem items d × All (NamesBelow leaves) items × (length items ≤ ITEM_LIMIT) × IsSomeAnd (combined depth_operators items) (λ n. n ≤ DEPTH_LIMIT)
  unfolding combine_at combine_items_at
  combine_at-takes path d items e =
      let a = bind_ok (combine_items_at leaves path d) (λ xs. cond (is_some (combined depth_operators xs)) (Ok xs) (broken path Shape)) items e in
      let g = guard_ok (is_some (combined depth_operators a.0)) path Shape a.0 items a.2 in
      let r = Readers.list-takes (combine_item path leaves) IsItem Fits (item_takes path) path 1 ITEM_LIMIT d a.0 a.1 in
      let below = Fresh.EachFrom-weaker Fits (λ _ x. NamesBelow leaves x) (λ found x fits. fits.0) [] a.0 r.1 in
      let placed = Fresh.EachFrom-weaker Fits IsPlaced (λ found x fits. fits.1) [] a.0 r.1 in
      subst (λ (xs : List Item). IsList IsItem xs d × All (NamesBelow leaves) xs × (length xs ≤ ITEM_LIMIT) × IsSomeAnd (combined depth_operators xs) (λ n. n ≤ DEPTH_LIMIT)) g.1
      (r.0, Fresh.EachFrom-All (NamesBelow leaves) [] a.0 below, r.3, placed-takes a.0 r.2 placed g.0)

  pub combine_at-again : (path : List ℕ) (d : Data) (items : List Item) → IsList IsItem items d → All (NamesBelow leaves) items → length items ≤ ITEM_LIMIT → IsSomeAnd (combined depth_operators items) (λ n. n ≤ DEPTH_LIMIT) → combine_at leaves path d ≡ Ok items
  unfolding combine_at combine_items_at
  combine_at-again path d items is below hi one =
      let fits = fit_both [] items (Fresh.All-EachFrom (NamesBelow leaves) [] items below) (placed-again items one) in
      rw (Readers.list-again (combine_item path leaves) IsItem Fits (item_again path) path 1 ITEM_LIMIT d items is fits (some_item items one) hi, one_tree items one) refl

-- the leaves have as many inputs as there are variables
abbrev IsLeafOf : ℕ → LeafModel → Type 0
IsLeafOf variables leaf = IsLeaf leaf × (length leaf.inputs ≡ variables)

module _ (format variables : ℕ) (known : (format ≡ PLAIN_FORMAT) ⊎ (format ≡ HELPER_FORMAT)) (lo : 1 ≤ variables) (hi : variables ≤ VARIABLE_LIMIT) where
  abbrev FollowsHere : List LeafModel → LeafModel → Type 0
  FollowsHere = Follows format variables known lo hi

  -- a range of as many helpers as the first leaf has
  one_number : (first leaf : LeafModel) (found : List LeafModel) → (format ≡ PLAIN_FORMAT → first.helpers ≡ []) → FollowsHere (first ∷ found) leaf → length leaf.helpers ≡ length first.helpers
  one_number first leaf found none h = by_format known
    where
      by_format : (format ≡ PLAIN_FORMAT) ⊎ (format ≡ HELPER_FORMAT) → length leaf.helpers ≡ length first.helpers
      by_format (inl plain) = ap length (h.3 plain) ∙ sym (ap length (none plain))
      by_format (inr helped) =
          let a : Allows (helpers_allowed HELPER_FORMAT (first ∷ found)) leaf.helpers = subst (λ (f : ℕ). Allows (helpers_allowed f (first ∷ found)) leaf.helpers) helped h.2 in
          let x = a.0 in
          let y = a.1 in
          omega (arith, x, y)

  in_limit : (first : LeafModel) (found : List LeafModel) → IsLeaf first → IfSome (helpers_allowed format (first ∷ found)) (λ r. r.1 ≤ HELPER_LIMIT)
  in_limit first found is = go (format == PLAIN_FORMAT)
    where
      go : (b : Bool) → IfSome (if b then None else Some (range_after (first ∷ found))) (λ (r : ℕ × ℕ). r.1 ≤ HELPER_LIMIT)
      go true = tt
      go false = is.helper_count

  -- the leaves after the first one
  later_leaves : (first : LeafModel) (found leaves : List LeafModel) → IsLeaf first → (format ≡ PLAIN_FORMAT → first.helpers ≡ []) → Readers.EachFrom FollowsHere (first ∷ found) leaves → All (λ leaf. IsLeafOf variables leaf × (length leaf.helpers ≡ length first.helpers)) leaves
  later_leaves first found [] is none each = All-nil (λ leaf. IsLeafOf variables leaf × (length leaf.helpers ≡ length first.helpers))
  later_leaves first found (leaf ∷ leaves) is none each =
      All-cons (λ leaf. IsLeafOf variables leaf × (length leaf.helpers ≡ length first.helpers)) leaf leaves
      ((each.0.0 (in_limit first found is), each.0.1), one_number first leaf found none each.0)
      (later_leaves first (found ++ leaf ∷ []) leaves is none each.1)

  first_in_limit : IfSome (helpers_allowed format []) (λ r. r.1 ≤ HELPER_LIMIT)
  first_in_limit = go (format == PLAIN_FORMAT)
    where
      go : (b : Bool) → IfSome (if b then None else Some (range_after [])) (λ (r : ℕ × ℕ). r.1 ≤ HELPER_LIMIT)
      go true = tt
      go false = omega arith

  all_leaves : (leaves : List LeafModel) → Readers.EachFrom FollowsHere [] leaves → All (λ leaf. IsLeafOf variables leaf × (length leaf.helpers ≡ helpers_of leaves)) leaves
  all_leaves [] each = All-nil (λ leaf. IsLeafOf variables leaf × (length leaf.helpers ≡ 0))
  all_leaves (leaf ∷ leaves) each =
      let is = each.0.0 first_in_limit in
      All-cons (λ (l : LeafModel). IsLeafOf variables l × (length l.helpers ≡ length leaf.helpers)) leaf leaves ((is, each.0.1), refl)
      (later_leaves leaf [] leaves is each.0.3 each.1)

  leaves_at-takes : (path : List ℕ) (d : Data) (leaves : List LeafModel) → leaves_at format variables path d ≡ Ok leaves
      → IsList (IsLeafFile format) leaves d × All (λ leaf. IsLeafOf variables leaf × (length leaf.helpers ≡ helpers_of leaves)) leaves × (1 ≤ length leaves) × (length leaves ≤ LEAF_LIMIT)
  unfolding each_at
  leaves_at-takes path d leaves e =
      let r = Readers.list-takes (item_by (leaf_item format variables) path) (IsLeafFile format) FollowsHere (λ found i x leaf is. leaf_at-takes format variables known lo hi found (item_path path i) x leaf is) path 1 LEAF_LIMIT d leaves e in
      (r.0, all_leaves leaves r.1, r.2, r.3)

-- what a leaf after others needs in order to be read
abbrev Fitting : ℕ → ℕ → List LeafModel → LeafModel → Type 0
Fitting format variables found leaf = IsLeafOf variables leaf × Allows (helpers_allowed format found) leaf.helpers

module _ (format variables : ℕ) where
  allowed : (found : List LeafModel) (hs : List ℕ) → (range_after found).0 ≤ length hs → length hs ≤ (range_after found).1 → Allows (helpers_allowed format found) hs
  allowed found hs least most = go (format == PLAIN_FORMAT)
    where
      go : (b : Bool) → Allows (if b then None else Some (range_after found)) hs
      go true = tt
      go false = (least, most)

  fitting_later : (first : LeafModel) (found leaves : List LeafModel) → All (λ leaf. IsLeafOf variables leaf × (length leaf.helpers ≡ length first.helpers)) leaves → Readers.EachFrom (Fitting format variables) (first ∷ found) leaves
  fitting_later first found [] all = tt
  fitting_later first found (leaf ∷ leaves) all =
      let here = All-head (λ leaf. IsLeafOf variables leaf × (length leaf.helpers ≡ length first.helpers)) leaf leaves all in
      let same = here.1 in (
        (here.0, allowed (first ∷ found) leaf.helpers (omega (arith, same)) (omega (arith, same))),
        fitting_later first (found ++ leaf ∷ []) leaves (All-tail (λ leaf. IsLeafOf variables leaf × (length leaf.helpers ≡ length first.helpers)) leaf leaves all),
      )

  fitting_each : (leaves : List LeafModel) → All (λ leaf. IsLeafOf variables leaf × (length leaf.helpers ≡ helpers_of leaves)) leaves → Readers.EachFrom (Fitting format variables) [] leaves
  fitting_each [] all = tt
  fitting_each (leaf ∷ leaves) all =
      let here = All-head (λ (l : LeafModel). IsLeafOf variables l × (length l.helpers ≡ length leaf.helpers)) leaf leaves all in
      let few = here.0.0.helper_count in (
        (here.0, allowed [] leaf.helpers (omega arith) few),
        fitting_later leaf [] leaves (All-tail (λ (l : LeafModel). IsLeafOf variables l × (length l.helpers ≡ length leaf.helpers)) leaf leaves all),
      )

  -- what a file of a format says about helpers
  told : (found : List LeafModel) (hs : List ℕ) (d : Data) → AreHelpers format hs d → TellsHelpers (helpers_allowed format found) hs d
  told found hs d (inl h) = subst (λ (f : ℕ). TellsHelpers (helpers_allowed f found) hs d) (sym h.0) h.1
  told found hs d (inr h) = subst (λ (f : ℕ). TellsHelpers (helpers_allowed f found) hs d) (sym h.0) h.1

  leaves_at-again : (path : List ℕ) (d : Data) (leaves : List LeafModel) → IsList (IsLeafFile format) leaves d → All (λ leaf. IsLeafOf variables leaf × (length leaf.helpers ≡ helpers_of leaves)) leaves → 1 ≤ length leaves → length leaves ≤ LEAF_LIMIT → leaves_at format variables path d ≡ Ok leaves
  unfolding each_at
  leaves_at-again path d leaves is all lo hi =
      Readers.list-again (item_by (leaf_item format variables) path) (IsLeafFile format) (Fitting format variables)
      (λ found i x leaf file fits. leaf_at-again (helpers_allowed format found) format variables (item_path path i) x leaf file (told found leaf.helpers x file.helpers) fits.1 fits.0.0 fits.0.1)
      path 1 LEAF_LIMIT d leaves is (fitting_each leaves all) lo hi

-- no leaf is too wide for the others exactly when a wide net has few leaves
fitting-takes : (path : List ℕ) (found : Option ℕ) (made net : NetModel) → fitting_net path found made ≡ Ok net → (found ≡ None) × (made ≡ net)
fitting-takes path None made net e = (refl, same_ok made net e)
fitting-takes path (Some i) made net e = absurd cc

known_format : (n : ℕ) → PLAIN_FORMAT ≤ n → n ≤ HELPER_FORMAT → (n ≡ PLAIN_FORMAT) ⊎ (n ≡ HELPER_FORMAT)
known_format n lo hi = go (eqb_tells n PLAIN_FORMAT)
  where
    go : ((n == PLAIN_FORMAT) ≡ true) × (n ≡ PLAIN_FORMAT) ⊎ ((n == PLAIN_FORMAT) ≡ false) × (n ≢ PLAIN_FORMAT) → (n ≡ PLAIN_FORMAT) ⊎ (n ≡ HELPER_FORMAT)
    go (inl same) = inl same.1
    go (inr other) = let ne = other.1 in inr (omega (arith, lo, hi, ne))

-- the net of the lists that were read
net_of : (path : List ℕ) (d : Data) (format : ℕ) (vars : List (List ℕ)) (leaves : List LeafModel) (items : List Item)
    → member_by path (codes "format") (λ p. number_at p PLAIN_FORMAT HELPER_FORMAT) d ≡ Ok format
    → member_by path (codes "vars") (names_at variable_name VARIABLE_LIMIT) d ≡ Ok vars
    → member_by path (codes "leaves") (leaves_at format (length vars)) d ≡ Ok leaves
    → member_by path (codes "combine") (combine_at (length leaves)) d ≡ Ok items
    → first_wide_leaf leaves ≡ None
    → IsNetFile (record { variables = vars; leaves = leaves; combine = items }) d
net_of path d format vars leaves items f v l c narrow =
    let f' = bind_ok (member_at path (codes "format") d) (λ e. number_at (member_path path (codes "format")) PLAIN_FORMAT HELPER_FORMAT e) format f in
    let v' = bind_ok (member_at path (codes "vars") d) (λ e. names_at variable_name VARIABLE_LIMIT (member_path path (codes "vars")) e) vars v in
    let l' = bind_ok (member_at path (codes "leaves") d) (λ e. leaves_at format (length vars) (member_path path (codes "leaves")) e) leaves l in
    let c' = bind_ok (member_at path (codes "combine") d) (λ e. combine_at (length leaves) (member_path path (codes "combine")) e) items c in
    let ft = Readers.number_at-takes (member_path path (codes "format")) PLAIN_FORMAT HELPER_FORMAT f'.0 format f'.2 in
    let vt = names_at-takes variable_name VARIABLE_LIMIT (member_path path (codes "vars")) v'.0 vars v'.2 in
    let lt = leaves_at-takes format (length vars) (known_format format ft.1 ft.2) vt.2 vt.3 (member_path path (codes "leaves")) l'.0 leaves l'.2 in
    let ct = combine_at-takes (length leaves) lt.2 (member_path path (codes "combine")) c'.0 items c'.2 in
    record {
      number = format;
      format = (f'.0, Readers.member_at-takes path (codes "format") d f'.0 f'.1, ft.0);
      vars = (v'.0, Readers.member_at-takes path (codes "vars") d v'.0 v'.1, vt.0);
      leaves = (l'.0, Readers.member_at-takes path (codes "leaves") d l'.0 l'.1, lt.0);
      combine = (c'.0, Readers.member_at-takes path (codes "combine") d c'.0 c'.1, ct.0);
      fits = record {
        variable_names = vt.1;
        some_variable = vt.2;
        variables = vt.3;
        some_leaf = lt.2;
        leaf_count = lt.3;
        leaves = λ k leaf within. (lt.1 k leaf within).0.0;
        inputs = λ k leaf within. (lt.1 k leaf within).0.1;
        items = ct.2;
        leaf_numbers = ct.1;
        depth = ct.3;
        helpers = λ k leaf within. (lt.1 k leaf within).1;
        wide = (none_wide leaves).0 narrow;
      };
    }

-- the lists that were read make a net
pub net_read : (path : List ℕ) (d : Data) (format m n : ℕ) (vars : List (List ℕ)) (leaves : List LeafModel) (items : List Item) → m ≡ length vars → n ≡ length leaves
    → member_by path (codes "format") (λ p. number_at p PLAIN_FORMAT HELPER_FORMAT) d ≡ Ok format
    → member_by path (codes "vars") (names_at variable_name VARIABLE_LIMIT) d ≡ Ok vars
    → member_by path (codes "leaves") (leaves_at format m) d ≡ Ok leaves
    → member_by path (codes "combine") (combine_at n) d ≡ Ok items
    → first_wide_leaf leaves ≡ None
    → IsNet (record { variables = vars; leaves = leaves; combine = items })
net_read path d format m n vars leaves items long wide f v l c narrow =
    (net_of path d format vars leaves items f v
    (subst (λ (k : ℕ). member_by path (codes "leaves") (leaves_at format k) d ≡ Ok leaves) long l)
    (subst (λ (k : ℕ). member_by path (codes "combine") (combine_at k) d ≡ Ok items) wide c)
    narrow).fits

pub net_at-takes : (path : List ℕ) (d : Data) (net : NetModel) → net_at path d ≡ Ok net → IsNetFile net d
unfolding net_at
net_at-takes path d net e =
    let made = λ (vars : List (List ℕ)) (leaves : List LeafModel) (items : List Item). fitting_net path (first_wide_leaf leaves) (record { variables = vars; leaves = leaves; combine = items }) in
    let format = member_by path (codes "format") (λ p. number_at p PLAIN_FORMAT HELPER_FORMAT) d in
    let names = member_by path (codes "vars") (names_at variable_name VARIABLE_LIMIT) d in
    let leaves = λ (format : ℕ) (vars : List (List ℕ)). member_by path (codes "leaves") (leaves_at format (length vars)) d in
    let combine = λ (ls : List LeafModel). member_by path (codes "combine") (combine_at (length ls)) d in
    let a = bind_ok (object_at path d) (λ o. format >>= λ n. names >>= λ vs. leaves n vs >>= λ ls. combine ls >>= λ cs. made vs ls cs) net e in
    let f = bind_ok format (λ n. names >>= λ vs. leaves n vs >>= λ ls. combine ls >>= λ cs. made vs ls cs) net a.2 in
    let v = bind_ok names (λ vs. leaves f.0 vs >>= λ ls. combine ls >>= λ cs. made vs ls cs) net f.2 in
    let l = bind_ok (leaves f.0 v.0) (λ ls. combine ls >>= λ cs. made v.0 ls cs) net v.2 in
    let c = bind_ok (combine l.0) (λ cs. made v.0 l.0 cs) net l.2 in
    let of_parts : NetModel = record { variables = v.0; leaves = l.0; combine = c.0 } in
    let w = fitting-takes path (first_wide_leaf l.0) of_parts net c.2 in
    subst (λ (n : NetModel). IsNetFile n d) {x = of_parts} w.1 (net_of path d f.0 v.0 l.0 c.0 f.1 v.1 l.1 c.1 w.0)

-- the format that a file of a net names
format_known : (net : NetModel) (d : Data) (file : IsNetFile net d) → (file.number ≡ PLAIN_FORMAT) ⊎ (file.number ≡ HELPER_FORMAT)
format_known net d file = go net.leaves (listed file.leaves.2.0) file.fits.some_leaf file.leaves.2.2
  where
    by_leaf : (leaf : LeafModel) (d : Data) → AreHelpers file.number leaf.helpers d → (file.number ≡ PLAIN_FORMAT) ⊎ (file.number ≡ HELPER_FORMAT)
    by_leaf leaf d (inl h) = inl h.0
    by_leaf leaf d (inr h) = inr h.0

    go : (leaves : List LeafModel) (ds : List Data) → 1 ≤ length leaves → AreItems (IsLeafFile file.number) leaves ds → (file.number ≡ PLAIN_FORMAT) ⊎ (file.number ≡ HELPER_FORMAT)
    go [] ds some are = absurd (omega arith)
    go (leaf ∷ leaves) [] some are = absurd are
    go (leaf ∷ leaves) (d ∷ ds) some are = by_leaf leaf d are.0.helpers

in_range : (n : ℕ) → (n ≡ PLAIN_FORMAT) ⊎ (n ≡ HELPER_FORMAT) → (PLAIN_FORMAT ≤ n) × (n ≤ HELPER_FORMAT)
in_range n (inl e) = (omega (arith, e), omega (arith, e))
in_range n (inr e) = (omega (arith, e), omega (arith, e))

pub net_at-again : (path : List ℕ) (d : Data) (net : NetModel) → IsNetFile net d → net_at path d ≡ Ok net
unfolding net_at
net_at-again path d net file =
    let is = file.fits in
    let all : All (λ leaf. IsLeafOf (length net.variables) leaf × (length leaf.helpers ≡ helpers_of net.leaves)) net.leaves = λ k leaf within. ((is.leaves k leaf within, is.inputs k leaf within), is.helpers k leaf within) in
    let known = in_range (file.number) (format_known net d file) in
    rw (
      Readers.object_at-again path (codes "format") d file.format.0 file.format.1,
      file.format.1,
      Readers.number_at-again (member_path path (codes "format")) PLAIN_FORMAT HELPER_FORMAT file.format.0 file.number file.format.2 known.0 known.1,
      file.vars.1,
      names_at-again variable_name VARIABLE_LIMIT (member_path path (codes "vars")) file.vars.0 net.variables file.vars.2 is.variable_names is.some_variable is.variables,
      file.leaves.1,
      leaves_at-again file.number (length net.variables) (member_path path (codes "leaves")) file.leaves.0 net.leaves file.leaves.2 all is.some_leaf is.leaf_count,
      file.combine.1,
      combine_at-again (length net.leaves) is.some_leaf (member_path path (codes "combine")) file.combine.0 net.combine file.combine.2 is.leaf_numbers is.items is.depth,
      (none_wide net.leaves).1 is.wide,
    ) refl

pub read-file : (d : Data) (r : Result NetModel FormatFault) → GivesRead (λ net. net) r (net_at [] d) → IfOk r (λ net. IsNetFile net d)
read-file d (Ok net) given = net_at-takes [] d net given
read-file d (Err e) given = tt

pub broken-no_file : (d : Data) (r : Result NetModel FormatFault) → GivesRead (λ net. net) r (net_at [] d) → IfErr r (λ fault. IsBroken fault → (net : NetModel) → IsNetFile net d → ⊥)
broken-no_file d (Ok net) given = tt
broken-no_file d (Err (Broken p w)) given = λ is net file. absurd (cc (given, net_at-again [] d net file))
broken-no_file d (Err NoMemory) given = λ is net file. is
