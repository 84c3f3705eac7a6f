-- Lists of values written one after the other; what is written is a net's file.
use Rattle.std.proofs.Common.{◌≡◌, inl, inr, ℕ, ◌+◌, ◌≤◌, ◌<◌, ◌^◌, List, [], ◌∷◌, ◌++◌, length, map, take, codes, nat_lt, Bool, true, false, Some, refl, sym, ap, ◌∙◌, arith}
use Rattle.std.specs.Prelude.{slice_get, All, if◌then◌else◌, Result, IfOk, IsOkAnd}
use Rattle.std.proofs.lemmas.Bool.{lt-ltb, ltb-false}
use Rattle.std.proofs.lemmas.List.Elements.{All-head, All-tail}
use Rattle.std.proofs.lemmas.List.{map-append, take_all}
use Rattle.serde_json.specs.Data.{Data, string, boolean, array, object, Members, member, no_members, put}
use Rattle.serde_json.specs.View.{view, items_of}
use Rattle.serde_json.specs.declared.value.Value.{Value}
use Rattle.base_json.specs.Shapes.{listed}
use Rattle.base_json.specs.Parts.{IsNumber, IsText, IsTruth, AreItems, IsList}
use Rattle.base_json.proofs.Put.{made}
use Rattle.pop_leaf.specs.declared.leaf.Move.{Move}
use Rattle.pop_leaf.specs.declared.item.Item.{Item}
use Rattle.pop_leaf.specs.declared.item.Item.TheVariants.{Leaf, Not, And, Or}
use Rattle.pop_leaf.specs.LeafModel.{LeafModel, IsLeaf, IsMoveBelow}
use Rattle.pop_leaf.specs.NetModel.{NetModel, IsNet, NamesBelow, number_of_helpers}
use Rattle.pop_leaf.specs.declared.limits.TheConstants.{STATE_LIMIT, LEAF_LIMIT}
use Rattle.net_json.specs.NetFile.{IsMove, IsItem, IsLeafFile, IsNetFile}
use Rattle.net_json.specs.Written.{number_data, list_data, texts_data, numbers_data, truths_data, move_data, item_data, leaf_data, is_helped, format_of, net_data}
use Rattle.base_laws.proofs.Lists.{take_one_more}

module _ {A : Type 0} (f : A → Data) where
  -- one more value is written
  pub one_more : (list new : List Value) (xs : List A) (i : ℕ) (x : A) (v : Value) → map view list ≡ map f (take i xs) → slice_get xs i ≡ Some x → view v ≡ f x → new ≡ list ++ v ∷ [] → map view new ≡ map f (take (i + 1) xs)
  one_more list new xs i x v so_far e is pushed =
      ap (map view) pushed
      ∙ map-append view list (v ∷ [])
      ∙ ap (λ (ds : List Data). ds ++ view v ∷ []) so_far
      ∙ ap (λ (d : Data). map f (take i xs) ++ d ∷ []) is
      ∙ sym (map-append f (take i xs) (x ∷ []))
      ∙ ap (map f) (sym (take_one_more xs i x e))

  -- all values are written
  pub all_written : (list : List Value) (xs : List A) (i : ℕ) → map view list ≡ map f (take i xs) → length xs ≤ i → array (items_of (map view list)) ≡ list_data (map f xs)
  all_written list xs i so_far whole =
      ap (λ (ds : List Data). array (items_of ds)) so_far ∙ ap (λ (ys : List A). array (items_of (map f ys))) (take_all i xs whole)

-- the items of a list that is written
written_items : {A : Type 0} (P : A → Type 0) (Is : A → Data → Type 0) (f : A → Data) → ((x : A) → P x → Is x (f x)) → (xs : List A) → All P xs → AreItems Is xs (listed (items_of (map f xs)))
written_items P Is f one [] all = tt
written_items P Is f one (x ∷ xs) all = (one x (All-head P x xs all), written_items P Is f one xs (All-tail P x xs all))

pub written_list : {A : Type 0} (P : A → Type 0) (Is : A → Data → Type 0) (f : A → Data) → ((x : A) → P x → Is x (f x)) → (xs : List A) → All P xs → IsList Is xs (list_data (map f xs))
written_list P Is f one xs all = (items_of (map f xs), refl, written_items P Is f one xs all)

number_is : (n : ℕ) → n < 1024 → IsNumber n (number_data n)
number_is n small = let fits : n < 2 ^ 63 = omega arith in rw (lt-ltb n (2 ^ 63) fits) refl

move_is : (states : ℕ) → states ≤ STATE_LIMIT → (t : Move) → IsMoveBelow states t → IsMove t (move_data t)
move_is states few t below = (
  items_of (number_data t.p ∷ number_data t.q ∷ number_data t.r ∷ number_data t.s ∷ []),
  refl,
  (number_is t.p (omega (arith, below.0)), (number_is t.q (omega (arith, below.1)), (number_is t.r (omega (arith, below.2)), (number_is t.s (omega (arith, below.3)), tt)))),
)

texts_are : (ss : List (List ℕ)) → IsList IsText ss (texts_data ss)
texts_are ss = written_list (λ _. Unit {0}) IsText string (λ s any. refl) ss (λ i d within. tt)

truths_are : (bs : List Bool) → IsList IsTruth bs (truths_data bs)
truths_are bs = written_list (λ _. Unit {0}) IsTruth boolean (λ b any. refl) bs (λ i d within. tt)

numbers_are : (n : ℕ) → n ≤ STATE_LIMIT → (qs : List ℕ) → All (λ q. q < n) qs → IsList IsNumber qs (numbers_data qs)
numbers_are n few qs below = written_list (λ q. q < n) IsNumber number_data (λ q low. number_is q (omega (arith, low, few))) qs below

-- a leaf of a net with or without helpers
pub leaf_file : (helped : Bool) (leaf : LeafModel) → IsLeaf leaf → (helped ≡ false → leaf.helpers ≡ []) → IsLeafFile (format_of helped) leaf (leaf_data helped leaf)
unfolding leaf_data
leaf_file false leaf is none =
    record {
      states = (texts_data leaf.states, refl, texts_are leaf.states);
      moves = (list_data (map move_data leaf.moves), refl, written_list (IsMoveBelow (length leaf.states)) IsMove move_data (move_is (length leaf.states) is.states) leaf.moves is.moves);
      input = (numbers_data leaf.inputs, refl, numbers_are (length leaf.states) is.states leaf.inputs is.inputs);
      output = (truths_data leaf.outputs, refl, truths_are leaf.outputs);
      helpers = inl (refl, none refl);
    }
leaf_file true leaf is none =
    record {
      states = (texts_data leaf.states, refl, texts_are leaf.states);
      moves = (list_data (map move_data leaf.moves), refl, written_list (IsMoveBelow (length leaf.states)) IsMove move_data (move_is (length leaf.states) is.states) leaf.moves is.moves);
      input = (numbers_data leaf.inputs, refl, numbers_are (length leaf.states) is.states leaf.inputs is.inputs);
      output = (truths_data leaf.outputs, refl, truths_are leaf.outputs);
      helpers = inr (refl, (numbers_data leaf.helpers, refl, numbers_are (length leaf.states) is.states leaf.helpers is.helpers));
    }

item_is : (leaves : ℕ) → leaves ≤ LEAF_LIMIT → (item : Item) → NamesBelow leaves item → IsItem item (item_data item)
item_is leaves few (Leaf i) below = number_is i (omega (arith, below))
item_is leaves few Not below = refl
item_is leaves few And below = refl
item_is leaves few Or below = refl

empty : {A : Type 0} (xs : List A) (n : ℕ) → length xs ≡ n → nat_lt 0 n ≡ false → xs ≡ []
empty [] n e none = refl
empty (x ∷ xs) n e none = let few = ltb-false 0 n none in absurd (omega (arith, few, e))

pub net_file : (net : NetModel) → IsNet net → IsNetFile net (net_data net)
unfolding net_data
net_file net is =
    let helped = is_helped net in
    record {
      number = format_of helped;
      format = (number_data (format_of helped), refl, format_is helped);
      vars = (texts_data net.variables, refl, texts_are net.variables);
      leaves = (list_data (map (leaf_data helped) net.leaves), refl, written_list (λ (leaf : LeafModel). IsLeaf leaf × (length leaf.helpers ≡ number_of_helpers net)) (IsLeafFile (format_of helped)) (leaf_data helped) (λ leaf h. leaf_file helped leaf h.0 (λ none. empty leaf.helpers (number_of_helpers net) h.1 none)) net.leaves (λ k leaf within. (is.leaves k leaf within, is.helpers k leaf within)));
      combine = (list_data (map item_data net.combine), refl, written_list (NamesBelow (length net.leaves)) IsItem item_data (item_is (length net.leaves) is.leaf_count) net.combine is.leaf_numbers);
      fits = is;
    }
  where
    format_is : (helped : Bool) → IsNumber (format_of helped) (number_data (format_of helped))
    format_is true = refl
    format_is false = refl

-- the members of a leaf, put in one after the other
pub leaf_written : {E : Type 0} (helped : Bool) (leaf : LeafModel) (inputs moves outputs states : Result Value E) (none one two three four : Members)
    → none ≡ (if helped then member (codes "helpers") (numbers_data leaf.helpers) no_members else no_members)
    → IfOk inputs (λ v. view v ≡ numbers_data leaf.inputs) → IsOkAnd inputs (λ v. one ≡ put (codes "input") (view v) none)
    → IfOk moves (λ v. view v ≡ list_data (map move_data leaf.moves)) → IsOkAnd moves (λ v. two ≡ put (codes "moves") (view v) one)
    → IfOk outputs (λ v. view v ≡ truths_data leaf.outputs) → IsOkAnd outputs (λ v. three ≡ put (codes "output") (view v) two)
    → IfOk states (λ v. view v ≡ texts_data leaf.states) → IsOkAnd states (λ v. four ≡ put (codes "states") (view v) three)
    → object four ≡ leaf_data helped leaf
unfolding leaf_data
leaf_written helped leaf inputs moves outputs states none one two three four z i a m b o c s d =
    all helped z
    (made inputs (numbers_data leaf.inputs) (codes "input") none one i a)
    (made moves (list_data (map move_data leaf.moves)) (codes "moves") one two m b)
    (made outputs (truths_data leaf.outputs) (codes "output") two three o c)
    (made states (texts_data leaf.states) (codes "states") three four s d)
  where
    all : (helped : Bool) → none ≡ (if helped then member (codes "helpers") (numbers_data leaf.helpers) no_members else no_members)
        → one ≡ put (codes "input") (numbers_data leaf.inputs) none
        → two ≡ put (codes "moves") (list_data (map move_data leaf.moves)) one
        → three ≡ put (codes "output") (truths_data leaf.outputs) two
        → four ≡ put (codes "states") (texts_data leaf.states) three
        → object four ≡ leaf_data helped leaf
    all false z a b c d = rw (d, c, b, a, z) refl
    all true z a b c d = rw (d, c, b, a, z) refl

-- the members of a net, put in one after the other
pub net_written : {E : Type 0} (net : NetModel) (helped : Bool) (combine leaves vars : Result Value E) (one two three four : Members) (format : Data) → helped ≡ is_helped net
    → IfOk combine (λ v. view v ≡ list_data (map item_data net.combine)) → IsOkAnd combine (λ v. one ≡ put (codes "combine") (view v) no_members)
    → format ≡ number_data (format_of helped) → two ≡ put (codes "format") format one
    → IfOk leaves (λ v. view v ≡ list_data (map (leaf_data helped) net.leaves)) → IsOkAnd leaves (λ v. three ≡ put (codes "leaves") (view v) two)
    → IfOk vars (λ v. view v ≡ texts_data net.variables) → IsOkAnd vars (λ v. four ≡ put (codes "vars") (view v) three)
    → object four ≡ net_data net
unfolding net_data
net_written net helped combine leaves vars one two three four format is c a f b l d v e =
    let a' = made combine (list_data (map item_data net.combine)) (codes "combine") no_members one c a in
    let d' = made leaves (list_data (map (leaf_data helped) net.leaves)) (codes "leaves") two three l d in
    let e' = made vars (texts_data net.variables) (codes "vars") three four v e in
    rw (e', d', b, a', f, is) refl
