-- What is read of a leaf is the leaf of its file, and each file of a leaf is read.
use Rattle.std.proofs.Common.{◌≡◌, ◌⊎◌, inl, inr, ℕ, ◌-◌, ◌≤◌, ◌<◌, ◌&&◌, Bool, cond, not, IsTrue, List, [], ◌∷◌, ◌++◌, length, codes, Result, Ok, refl, ap, sym, subst, arith}
use Rattle.std.specs.Prelude.{All, Option, Some, None, IfSome}
use Rattle.std.proofs.lemmas.List.Elements.{All-nil}
use Rattle.std.specs.List.{list_any}
use Rattle.std.specs.Str.{bytes_eq}
use Rattle.std.proofs.lemmas.Bool.{and_parts, not-true}
use Rattle.serde_json.specs.Data.{Data}
use Rattle.serde_json.specs.Find.{as_array}
use Rattle.pop_io.specs.Names.{state_name, AreNames}
use Rattle.base_json.specs.declared.fault.Why.TheVariants.{Name}
use Rattle.base_json.specs.Faults.{Fault, ◌>>=◌, broken}
use Rattle.base_json.specs.Paths.{member_path, item_path}
use Rattle.base_json.specs.Shapes.{of_kind, listed, object_at, member_at, member_by, number_at, text_at, item_by, each_at}
use Rattle.base_json.specs.Parts.{IsNumber, IsText, IsTruth, HasMember, AreItems, IsList}
use Rattle.base_json.proofs.Steps.{bind_ok, guard_ok, same_ok}
use Rattle.base_json.proofs.Readers
use Rattle.base_json.proofs.Fresh
use Rattle.pop_leaf.specs.declared.leaf.Move.{Move}
use Rattle.pop_leaf.specs.LeafModel.{LeafModel, IsLeaf, IsMoveBelow}
use Rattle.pop_io.specs.declared.names.TheConstants.{VARIABLE_LIMIT}
use Rattle.pop_leaf.specs.declared.limits.TheConstants.{STATE_LIMIT, MOVE_LIMIT, HELPER_LIMIT}
use Rattle.net_json.specs.declared.format.TheConstants.{PLAIN_FORMAT, HELPER_FORMAT}
use Rattle.net_json.specs.NetFile.{IsMove, AreHelpers, IsLeafFile}
use Rattle.net_json.specs.Examined.{name_at, names_at, four_at, move_at, move_item, leaf_moves_at, leaf_state_item, leaf_states_at, inputs_at, truth_item, outputs_at, helpers_allowed, helpers_at, leaf_at}

abbrev IsNewName : (List ℕ → Bool) → List (List ℕ) → List ℕ → Type 0
IsNewName is_name found s = IsTrue (is_name s) × Fresh.IsFresh found s

module _ (is_name : List ℕ → Bool) where
  name_takes : (path : List ℕ) (found : List (List ℕ)) (i : ℕ) (d : Data) (s : List ℕ) → item_by (name_at is_name) path found i d ≡ Ok s → IsText s d × IsNewName is_name found s
  unfolding name_at
  name_takes path found i d s e =
      let at = item_path path i in
      let a = bind_ok (text_at at d) (λ t. cond (is_name t && not (list_any (bytes_eq t) found)) (Ok t) (broken at Name)) s e in
      let g = guard_ok (is_name a.0 && not (list_any (bytes_eq a.0) found)) at Name a.0 s a.2 in
      let t = and_parts (is_name a.0) (not (list_any (bytes_eq a.0) found)) g.0 in (
        subst (λ (x : List ℕ). IsText x d) g.1 (Readers.text_at-takes at d a.0 a.1),
        subst (λ (x : List ℕ). IsNewName is_name found x) g.1 (t.0, not-true (list_any (bytes_eq a.0) found) t.1),
      )

  name_again : (path : List ℕ) (found : List (List ℕ)) (i : ℕ) (d : Data) (s : List ℕ) → IsText s d → IsNewName is_name found s → item_by (name_at is_name) path found i d ≡ Ok s
  unfolding name_at
  name_again path found i d s is fresh =
      rw (Readers.text_at-again (item_path path i) d s is, fresh.0, fresh.1) refl

  pub names_at-takes : (most : ℕ) (path : List ℕ) (d : Data) (ss : List (List ℕ)) → names_at is_name most path d ≡ Ok ss → IsList IsText ss d × AreNames is_name ss × (1 ≤ length ss) × (length ss ≤ most)
  unfolding each_at
  names_at-takes most path d ss e =
      let r = Readers.list-takes (item_by (name_at is_name) path) IsText (IsNewName is_name) (name_takes path) path 1 most d ss e in
      let formed = Fresh.EachFrom-weaker (IsNewName is_name) (λ _ s. IsTrue (is_name s)) (λ found s new. new.0) [] ss r.1 in
      let fresh = Fresh.EachFrom-weaker (IsNewName is_name) Fresh.IsFresh (λ found s new. new.1) [] ss r.1 in
      (r.0, (Fresh.EachFrom-All (λ s. IsTrue (is_name s)) [] ss formed, Fresh.fresh-distinct [] ss fresh), r.2, r.3)

  new_names : (found ss : List (List ℕ)) → Readers.EachFrom (λ _ s. IsTrue (is_name s)) found ss → Readers.EachFrom Fresh.IsFresh found ss → Readers.EachFrom (IsNewName is_name) found ss
  new_names found [] formed fresh = tt
  new_names found (s ∷ ss) formed fresh = ((formed.0, fresh.0), new_names (found ++ s ∷ []) ss formed.1 fresh.1)

  pub names_at-again : (most : ℕ) (path : List ℕ) (d : Data) (ss : List (List ℕ)) → IsList IsText ss d → AreNames is_name ss → 1 ≤ length ss → length ss ≤ most → names_at is_name most path d ≡ Ok ss
  unfolding each_at
  names_at-again most path d ss is names lo hi =
      let formed = Fresh.All-EachFrom (λ s. IsTrue (is_name s)) [] ss names.0 in
      let none : All (Fresh.IsFresh []) ss = λ i d within. refl in
      let fresh = Fresh.distinct-fresh [] ss none names.1 in
      Readers.list-again (item_by (name_at is_name) path) IsText (IsNewName is_name) (name_again path) path 1 most d ss is (new_names [] ss formed fresh) lo hi

module _ (states : ℕ) (some_state : 1 ≤ states) where
  state_takes : (path : List ℕ) (d : Data) (q : ℕ) → number_at path 0 (states - 1) d ≡ Ok q → IsNumber q d × (q < states)
  state_takes path d q e = let r = Readers.number_at-takes path 0 (states - 1) d q e in (r.0, omega (arith, r.2))

  state_again : (path : List ℕ) (d : Data) (q : ℕ) → IsNumber q d → q < states → number_at path 0 (states - 1) d ≡ Ok q
  state_again path d q is below = Readers.number_at-again path 0 (states - 1) d q is (omega arith) (omega arith)

  four_takes : (path : List ℕ) (ds : List Data) (t : Move) → four_at path states ds ≡ Ok t → AreItems IsNumber (t.p ∷ t.q ∷ t.r ∷ t.s ∷ []) ds × IsMoveBelow states t
  four_takes path (a ∷ b ∷ c ∷ d ∷ []) t e =
      let at = λ (i : ℕ) (x : Data). number_at (item_path path i) 0 (states - 1) x in
      let made = λ (p q r s : ℕ). (let o : Result Move Fault = Ok (record { p = p; q = q; r = r; s = s }) in o) in
      let p = bind_ok (at 0 a) (λ p. at 1 b >>= λ q. at 2 c >>= λ r. at 3 d >>= λ s. made p q r s) t e in
      let q = bind_ok (at 1 b) (λ q. at 2 c >>= λ r. at 3 d >>= λ s. made p.0 q r s) t p.2 in
      let r = bind_ok (at 2 c) (λ r. at 3 d >>= λ s. made p.0 q.0 r s) t q.2 in
      let s = bind_ok (at 3 d) (λ s. made p.0 q.0 r.0 s) t r.2 in
      let p' = state_takes (item_path path 0) a p.0 p.1 in
      let q' = state_takes (item_path path 1) b q.0 q.1 in
      let r' = state_takes (item_path path 2) c r.0 r.1 in
      let s' = state_takes (item_path path 3) d s.0 s.1 in
      let move : Move = record { p = p.0; q = q.0; r = r.0; s = s.0 } in
      subst (λ (u : Move). AreItems IsNumber (u.p ∷ u.q ∷ u.r ∷ u.s ∷ []) (a ∷ b ∷ c ∷ d ∷ []) × IsMoveBelow states u) {x = move} (same_ok move t s.2)
      ((p'.0, (q'.0, (r'.0, (s'.0, tt)))), (p'.1, q'.1, r'.1, s'.1))
  four_takes path [] t e = absurd cc
  four_takes path (a ∷ []) t e = absurd cc
  four_takes path (a ∷ b ∷ []) t e = absurd cc
  four_takes path (a ∷ b ∷ c ∷ []) t e = absurd cc
  four_takes path (a ∷ b ∷ c ∷ d ∷ f ∷ more) t e = absurd cc

  four_again : (path : List ℕ) (ds : List Data) (t : Move) → AreItems IsNumber (t.p ∷ t.q ∷ t.r ∷ t.s ∷ []) ds → IsMoveBelow states t → four_at path states ds ≡ Ok t
  four_again path (a ∷ b ∷ c ∷ d ∷ []) t are below =
      rw (
        state_again (item_path path 0) a t.p are.0 below.0,
        state_again (item_path path 1) b t.q are.1.0 below.1,
        state_again (item_path path 2) c t.r are.1.1.0 below.2,
        state_again (item_path path 3) d t.s are.1.1.1.0 below.3,
      ) refl
  four_again path [] t are below = absurd are
  four_again path (a ∷ []) t are below = absurd are.1
  four_again path (a ∷ b ∷ []) t are below = absurd are.1.1
  four_again path (a ∷ b ∷ c ∷ []) t are below = absurd are.1.1.1
  four_again path (a ∷ b ∷ c ∷ d ∷ f ∷ more) t are below = absurd are.1.1.1.1

  move_takes : (path : List ℕ) (found : List Move) (i : ℕ) (d : Data) (t : Move) → item_by (move_item states) path found i d ≡ Ok t → IsMove t d × IsMoveBelow states t
  unfolding move_at
  move_takes path found i d t e =
      let at = item_path path i in
      let a = bind_ok (of_kind at (as_array d)) (λ is. four_at at states (listed is)) t e in
      let r = four_takes at (listed a.0) t a.2 in
      ((a.0, Readers.kind_takes at (as_array d) a.0 a.1, r.0), r.1)

  move_again : (path : List ℕ) (found : List Move) (i : ℕ) (d : Data) (t : Move) → IsMove t d → IsMoveBelow states t → item_by (move_item states) path found i d ≡ Ok t
  unfolding move_at
  move_again path found i d t is below = rw is.1 (four_again (item_path path i) (listed is.0) t is.2 below)

  pub moves_at-takes : (path : List ℕ) (d : Data) (ts : List Move) → leaf_moves_at states path d ≡ Ok ts → IsList IsMove ts d × All (IsMoveBelow states) ts × (length ts ≤ MOVE_LIMIT)
  unfolding each_at
  moves_at-takes path d ts e =
      let r = Readers.list-takes (item_by (move_item states) path) IsMove (λ _ t. IsMoveBelow states t) (move_takes path) path 0 MOVE_LIMIT d ts e in
      (r.0, Fresh.EachFrom-All (IsMoveBelow states) [] ts r.1, r.3)

  pub moves_at-again : (path : List ℕ) (d : Data) (ts : List Move) → IsList IsMove ts d → All (IsMoveBelow states) ts → length ts ≤ MOVE_LIMIT → leaf_moves_at states path d ≡ Ok ts
  unfolding each_at
  moves_at-again path d ts is below hi =
      Readers.list-again (item_by (move_item states) path) IsMove (λ _ t. IsMoveBelow states t) (move_again path) path 0 MOVE_LIMIT d ts is (Fresh.All-EachFrom (IsMoveBelow states) [] ts below) (omega arith) hi

  pub states_at-takes : (least most : ℕ) (path : List ℕ) (d : Data) (qs : List ℕ) → leaf_states_at least most states path d ≡ Ok qs → IsList IsNumber qs d × All (λ q. q < states) qs × (least ≤ length qs) × (length qs ≤ most)
  unfolding each_at
  states_at-takes least most path d qs e =
      let r = Readers.list-takes (item_by (leaf_state_item states) path) IsNumber (λ _ q. q < states) (λ found i d q e. state_takes (item_path path i) d q e) path least most d qs e in
      (r.0, Fresh.EachFrom-All (λ q. q < states) [] qs r.1, r.2, r.3)

  pub states_at-again : (least most : ℕ) (path : List ℕ) (d : Data) (qs : List ℕ) → IsList IsNumber qs d → All (λ q. q < states) qs → least ≤ length qs → length qs ≤ most → leaf_states_at least most states path d ≡ Ok qs
  unfolding each_at
  states_at-again least most path d qs is below lo hi =
      Readers.list-again (item_by (leaf_state_item states) path) IsNumber (λ _ q. q < states) (λ found i d q is below. state_again (item_path path i) d q is below) path least most d qs is (Fresh.All-EachFrom (λ q. q < states) [] qs below) lo hi

  any_truth : (found bs : List Bool) → Readers.EachFrom (λ _ _. Unit {0}) found bs
  any_truth found [] = tt
  any_truth found (b ∷ bs) = (tt, any_truth (found ++ b ∷ []) bs)

  pub outputs_at-takes : (path : List ℕ) (d : Data) (bs : List Bool) → outputs_at states path d ≡ Ok bs → IsList IsTruth bs d × (length bs ≡ states)
  unfolding each_at
  outputs_at-takes path d bs e =
      let r = Readers.list-takes (item_by truth_item path) IsTruth (λ _ _. Unit {0}) (λ found i d b e. (Readers.truth_at-takes (item_path path i) d b e, tt)) path states states d bs e in
      (r.0, omega (arith, r.2, r.3))

  pub outputs_at-again : (path : List ℕ) (d : Data) (bs : List Bool) → IsList IsTruth bs d → length bs ≡ states → outputs_at states path d ≡ Ok bs
  unfolding each_at
  outputs_at-again path d bs is long =
      Readers.list-again (item_by truth_item path) IsTruth (λ _ _. Unit {0}) (λ found i d b is any. Readers.truth_at-again (item_path path i) d b is) path states states d bs is (any_truth [] bs) (omega arith) (omega arith)

-- how many helpers a range allows
abbrev pub Allows : Option (ℕ × ℕ) → List ℕ → Type 0
Allows None hs = Unit {0}
Allows (Some range) hs = (range.0 ≤ length hs) × (length hs ≤ range.1)

-- what a file says about helpers
abbrev pub TellsHelpers : Option (ℕ × ℕ) → List ℕ → Data → Type 0
TellsHelpers None hs d = hs ≡ []
TellsHelpers (Some range) hs d = HasMember (codes "helpers") (IsList IsNumber hs) d

pub helpers_at-takes : (range : Option (ℕ × ℕ)) (states : ℕ) → 1 ≤ states → (path : List ℕ) (d : Data) (hs : List ℕ) → helpers_at range states path d ≡ Ok hs → TellsHelpers range hs d × All (λ q. q < states) hs × Allows range hs
helpers_at-takes None states some path d hs e =
    let none : hs ≡ [] = cc in
    (none, subst (All (λ q. q < states)) (sym none) (All-nil (λ q. q < states)), tt)
helpers_at-takes (Some range) states some path d hs e =
    let h = bind_ok (member_at path (codes "helpers") d) (λ e. leaf_states_at range.0 range.1 states (member_path path (codes "helpers")) e) hs e in
    let t = states_at-takes states some range.0 range.1 (member_path path (codes "helpers")) h.0 hs h.2 in
    ((h.0, Readers.member_at-takes path (codes "helpers") d h.0 h.1, t.0), t.1, (t.2, t.3))

pub helpers_at-again : (range : Option (ℕ × ℕ)) (states : ℕ) → 1 ≤ states → (path : List ℕ) (d : Data) (hs : List ℕ) → TellsHelpers range hs d → All (λ q. q < states) hs → Allows range hs → helpers_at range states path d ≡ Ok hs
helpers_at-again None states some path d hs told below fits = ap Ok (sym told)
helpers_at-again (Some range) states some path d hs told below fits =
    rw (told.1) (states_at-again states some range.0 range.1 (member_path path (codes "helpers")) told.0 hs told.2 below fits.0 fits.1)

module _ (format variables : ℕ) (known : (format ≡ PLAIN_FORMAT) ⊎ (format ≡ HELPER_FORMAT)) (some_variable : 1 ≤ variables) (few_variables : variables ≤ VARIABLE_LIMIT) where
  -- what a file says about helpers, by its format
  of_format : (found : List LeafModel) (hs : List ℕ) (d : Data) → TellsHelpers (helpers_allowed format found) hs d → AreHelpers format hs d
  of_format found hs d = by_format known
    where
      by_format : (format ≡ PLAIN_FORMAT) ⊎ (format ≡ HELPER_FORMAT) → TellsHelpers (helpers_allowed format found) hs d → AreHelpers format hs d
      by_format (inl plain) told = inl (plain, subst (λ (f : ℕ). TellsHelpers (helpers_allowed f found) hs d) plain told)
      by_format (inr helped) told = inr (helped, subst (λ (f : ℕ). TellsHelpers (helpers_allowed f found) hs d) helped told)

  -- the leaf of the lists that were read
  leaf_of : (range : Option (ℕ × ℕ)) (path : List ℕ) (d : Data) (ss : List (List ℕ)) (ts : List Move) (qs : List ℕ) (bs : List Bool) (hs : List ℕ)
      → member_by path (codes "states") (names_at state_name STATE_LIMIT) d ≡ Ok ss
      → member_by path (codes "moves") (leaf_moves_at (length ss)) d ≡ Ok ts
      → member_by path (codes "input") (inputs_at variables (length ss)) d ≡ Ok qs
      → member_by path (codes "output") (outputs_at (length ss)) d ≡ Ok bs
      → helpers_at range (length ss) path d ≡ Ok hs
      → (let leaf : LeafModel = record { states = ss; moves = ts; inputs = qs; outputs = bs; helpers = hs } in ((TellsHelpers range hs d → AreHelpers format hs d) → IsLeafFile format leaf d) × (IfSome range (λ r. r.1 ≤ HELPER_LIMIT) → IsLeaf leaf) × (length leaf.inputs ≡ variables) × TellsHelpers range hs d × Allows range hs)
  leaf_of range path d ss ts qs bs hs s m q o h =
      let s' = bind_ok (member_at path (codes "states") d) (λ e. names_at state_name STATE_LIMIT (member_path path (codes "states")) e) ss s in
      let m' = bind_ok (member_at path (codes "moves") d) (λ e. leaf_moves_at (length ss) (member_path path (codes "moves")) e) ts m in
      let q' = bind_ok (member_at path (codes "input") d) (λ e. inputs_at variables (length ss) (member_path path (codes "input")) e) qs q in
      let o' = bind_ok (member_at path (codes "output") d) (λ e. outputs_at (length ss) (member_path path (codes "output")) e) bs o in
      let st = names_at-takes state_name STATE_LIMIT (member_path path (codes "states")) s'.0 ss s'.2 in
      let mt = moves_at-takes (length ss) st.2 (member_path path (codes "moves")) m'.0 ts m'.2 in
      let qt = states_at-takes (length ss) st.2 variables variables (member_path path (codes "input")) q'.0 qs q'.2 in
      let ot = outputs_at-takes (length ss) st.2 (member_path path (codes "output")) o'.0 bs o'.2 in
      let ht = helpers_at-takes range (length ss) st.2 path d hs h in
      let inputs : length qs ≡ variables = (let lo = qt.2 in let hi = qt.3 in omega (arith, lo, hi)) in (
        λ told. record {
          states = (s'.0, Readers.member_at-takes path (codes "states") d s'.0 s'.1, st.0);
          moves = (m'.0, Readers.member_at-takes path (codes "moves") d m'.0 m'.1, mt.0);
          input = (q'.0, Readers.member_at-takes path (codes "input") d q'.0 q'.1, qt.0);
          output = (o'.0, Readers.member_at-takes path (codes "output") d o'.0 o'.1, ot.0);
          helpers = told ht.0;
        },
        λ most. record {
          names = st.1;
          some_state = st.2;
          states = st.3;
          move_count = mt.2;
          moves = mt.1;
          some_input = rw inputs some_variable;
          input_count = rw inputs few_variables;
          inputs = qt.1;
          outputs = ot.1;
          helper_count = few_helpers range hs d most ht.0 ht.2;
          helpers = ht.1;
        },
        inputs,
        ht.0,
        ht.2,
      )
    where
      few_helpers : (range : Option (ℕ × ℕ)) (hs : List ℕ) (d : Data) → IfSome range (λ r. r.1 ≤ HELPER_LIMIT) → TellsHelpers range hs d → Allows range hs → length hs ≤ HELPER_LIMIT
      few_helpers None hs d most none fits = let z : length hs ≡ 0 = ap length none in omega (arith, z)
      few_helpers (Some r) hs d most told fits = let hi = fits.1 in omega (arith, most, hi)

  -- the lists that were read make a leaf
  pub leaf_read : (range : Option (ℕ × ℕ)) (path : List ℕ) (d : Data) (n : ℕ) (ss : List (List ℕ)) (ts : List Move) (qs : List ℕ) (bs : List Bool) (hs : List ℕ) → n ≡ length ss
      → IfSome range (λ r. r.1 ≤ HELPER_LIMIT)
      → member_by path (codes "states") (names_at state_name STATE_LIMIT) d ≡ Ok ss
      → member_by path (codes "moves") (leaf_moves_at n) d ≡ Ok ts
      → member_by path (codes "input") (inputs_at variables n) d ≡ Ok qs
      → member_by path (codes "output") (outputs_at n) d ≡ Ok bs
      → helpers_at range n path d ≡ Ok hs
      → IsLeaf (record { states = ss; moves = ts; inputs = qs; outputs = bs; helpers = hs })
  leaf_read range path d n ss ts qs bs hs long most s m q o h =
      (leaf_of range path d ss ts qs bs hs s
      (subst (λ (k : ℕ). member_by path (codes "moves") (leaf_moves_at k) d ≡ Ok ts) long m)
      (subst (λ (k : ℕ). member_by path (codes "input") (inputs_at variables k) d ≡ Ok qs) long q)
      (subst (λ (k : ℕ). member_by path (codes "output") (outputs_at k) d ≡ Ok bs) long o)
      (subst (λ (k : ℕ). helpers_at range k path d ≡ Ok hs) long h)).1 most

  -- what is known of a leaf that comes after others
  abbrev pub Follows : List LeafModel → LeafModel → Type 0
  Follows found leaf =
      (IfSome (helpers_allowed format found) (λ r. r.1 ≤ HELPER_LIMIT) → IsLeaf leaf) × (length leaf.inputs ≡ variables) × Allows (helpers_allowed format found) leaf.helpers × (format ≡ PLAIN_FORMAT → leaf.helpers ≡ [])

  pub leaf_at-takes : (found : List LeafModel) (path : List ℕ) (d : Data) (leaf : LeafModel) → leaf_at (helpers_allowed format found) variables path d ≡ Ok leaf → IsLeafFile format leaf d × Follows found leaf
  unfolding leaf_at
  leaf_at-takes found path d leaf e =
      let range = helpers_allowed format found in
      let made = λ (ss : List (List ℕ)) (ts : List Move) (qs : List ℕ) (bs : List Bool) (hs : List ℕ). (let o : Result LeafModel Fault = Ok (record { states = ss; moves = ts; inputs = qs; outputs = bs; helpers = hs }) in o) in
      let names = member_by path (codes "states") (names_at state_name STATE_LIMIT) d in
      let moves = λ (ss : List (List ℕ)). member_by path (codes "moves") (leaf_moves_at (length ss)) d in
      let input = λ (ss : List (List ℕ)). member_by path (codes "input") (inputs_at variables (length ss)) d in
      let output = λ (ss : List (List ℕ)). member_by path (codes "output") (outputs_at (length ss)) d in
      let helpers = λ (ss : List (List ℕ)). helpers_at range (length ss) path d in
      let a = bind_ok (object_at path d) (λ o. names >>= λ ss. moves ss >>= λ ts. input ss >>= λ qs. output ss >>= λ bs. helpers ss >>= λ hs. made ss ts qs bs hs) leaf e in
      let s = bind_ok names (λ ss. moves ss >>= λ ts. input ss >>= λ qs. output ss >>= λ bs. helpers ss >>= λ hs. made ss ts qs bs hs) leaf a.2 in
      let m = bind_ok (moves s.0) (λ ts. input s.0 >>= λ qs. output s.0 >>= λ bs. helpers s.0 >>= λ hs. made s.0 ts qs bs hs) leaf s.2 in
      let q = bind_ok (input s.0) (λ qs. output s.0 >>= λ bs. helpers s.0 >>= λ hs. made s.0 m.0 qs bs hs) leaf m.2 in
      let o = bind_ok (output s.0) (λ bs. helpers s.0 >>= λ hs. made s.0 m.0 q.0 bs hs) leaf q.2 in
      let h = bind_ok (helpers s.0) (λ hs. made s.0 m.0 q.0 o.0 hs) leaf o.2 in
      let r = leaf_of range path d s.0 m.0 q.0 o.0 h.0 s.1 m.1 q.1 o.1 h.1 in
      let of_parts : LeafModel = record { states = s.0; moves = m.0; inputs = q.0; outputs = o.0; helpers = h.0 } in
      subst (λ (l : LeafModel). IsLeafFile format l d × Follows found l) {x = of_parts} (same_ok of_parts leaf h.2)
      (r.0 (of_format found h.0 d), (r.1, r.2, r.4, λ plain. subst (λ (f : ℕ). TellsHelpers (helpers_allowed f found) h.0 d) plain r.3))

pub leaf_at-again : (range : Option (ℕ × ℕ)) (format variables : ℕ) (path : List ℕ) (d : Data) (leaf : LeafModel) → IsLeafFile format leaf d → TellsHelpers range leaf.helpers d → Allows range leaf.helpers → IsLeaf leaf → length leaf.inputs ≡ variables → leaf_at range variables path d ≡ Ok leaf
unfolding leaf_at
leaf_at-again range format variables path d leaf file told fits is long =
    let n = length leaf.states in
    rw (
      Readers.object_at-again path (codes "states") d file.states.0 file.states.1,
      file.states.1,
      names_at-again state_name STATE_LIMIT (member_path path (codes "states")) file.states.0 leaf.states file.states.2 is.names is.some_state is.states,
      file.moves.1,
      moves_at-again n is.some_state (member_path path (codes "moves")) file.moves.0 leaf.moves file.moves.2 is.moves is.move_count,
      file.input.1,
      states_at-again n is.some_state variables variables (member_path path (codes "input")) file.input.0 leaf.inputs file.input.2 is.inputs (omega (arith, long)) (omega (arith, long)),
      file.output.1,
      outputs_at-again n is.some_state (member_path path (codes "output")) file.output.0 leaf.outputs file.output.2 is.outputs,
      helpers_at-again range n is.some_state path d leaf.helpers told is.helpers fits,
    ) refl
