-- What is read of terms, sets and layers is in their file, and each such file is read.
use Rattle.std.proofs.Common.{◌≡◌, ℕ, ◌-◌, ◌<◌, ◌≤◌, ◌^◌, true, List, [], length, codes, Result, Ok, ℤ, refl, sym, subst, arith}
use Rattle.std.specs.Prelude.{All}
use Rattle.serde_json.specs.Data.{Data}
use Rattle.base_json.specs.Faults.{Fault, ◌>>=◌}
use Rattle.base_json.specs.Paths.{member_path, item_path}
use Rattle.base_json.specs.Shapes.{object_at, member_at, member_by, last_of, comes_after, ascending_at, pair_at, item_by, each_at}
use Rattle.base_json.specs.Parts.{IsNumber, IsInteger, IsList}
use Rattle.base_json.proofs.Steps.{bind_ok, same_ok}
use Rattle.base_json.proofs.Readers
use Rattle.base_json.proofs.Fresh.{EachFrom-All, All-EachFrom, EachFrom-weaker}
use Rattle.base_json.proofs.TaggedReaders as Tagged
use Rattle.cert_base.specs.declared.fact.Term.{Term}
use Rattle.cert_base.specs.declared.layer.Layer.{Layer}
use Rattle.cert_base.specs.ProofLimits.{IsSmall, IsAscending, IsTermWithin, AreTermsWithin, IsSetWithin, IsLayerWithin}
use Rattle.cert_base.specs.declared.limits.TheConstants.{LAYER_LIMIT, TERM_LIMIT, SIZE_LIMIT}
use Rattle.pop_leaf.specs.declared.limits.TheConstants.{STATE_LIMIT, MOVE_LIMIT}
use Rattle.cert_json.specs.ProofFile.{IsTerm, IsLayerFile}
use Rattle.cert_json.specs.Examined.{index_at, state_at, small_at, term_from, term_at, term_item, terms_at, row_term_at, numbers_of, row_term_item, row_terms_at, set_state_item, set_states_at, index_item, layer_moves_at, weight_item, weights_at, layer_at, layer_item, layers_at}
use Rattle.cert_json.proofs.Sets

pub index_takes : (path : List ℕ) (d : Data) (n : ℕ) → index_at path d ≡ Ok n → IsNumber n d × (n < 2 ^ 32)
index_takes path d n e = let r = Readers.number_at-takes path 0 (2 ^ 32 - 1) d n e in (r.0, omega (arith, r.2))

pub index_again : (path : List ℕ) (d : Data) (n : ℕ) → IsNumber n d → n < 2 ^ 32 → index_at path d ≡ Ok n
index_again path d n is lt = Readers.number_at-again path 0 (2 ^ 32 - 1) d n is (omega arith) (omega arith)

pub state_takes : (path : List ℕ) (d : Data) (n : ℕ) → state_at path d ≡ Ok n → IsNumber n d × (n < 2 ^ 16)
state_takes path d n e = let r = Readers.number_at-takes path 0 (2 ^ 16 - 1) d n e in (r.0, omega (arith, r.2))

pub state_again : (path : List ℕ) (d : Data) (n : ℕ) → IsNumber n d → n < 2 ^ 16 → state_at path d ≡ Ok n
state_again path d n is lt = Readers.number_at-again path 0 (2 ^ 16 - 1) d n is (omega arith) (omega arith)

pub small_takes : (path : List ℕ) (d : Data) (z : ℤ) → small_at path d ≡ Ok z → IsInteger z d × IsSmall z
small_takes path d z e = let r = Tagged.integer_at-takes path SIZE_LIMIT d z e in (r.0, omega (arith, r.1))

pub small_again : (path : List ℕ) (d : Data) (z : ℤ) → IsInteger z d → IsSmall z → small_at path d ≡ Ok z
small_again path d z is small = Tagged.integer_at-again path SIZE_LIMIT d z is (omega (arith, small))

-- a term whose number is read by this reader
module _ (number : List ℕ → Data → Result ℕ Fault) (P : ℕ → Type 0) where
  term_from-takes : ((path : List ℕ) (d : Data) (n : ℕ) → number path d ≡ Ok n → IsNumber n d × (n < 2 ^ 32) × P n)
      → (path : List ℕ) (d : Data) (t : Term) → (pair_at path d >>= term_from path number) ≡ Ok t → IsTerm t d × IsTermWithin t × P t.at
  term_from-takes takes path d t e =
      let made = λ (n : ℕ) (z : ℤ). (let o : Result Term Fault = Ok (record { at = n; by = z }) in o) in
      let p = bind_ok (pair_at path d) (λ q. term_from path number q) t e in
      let n = bind_ok (number (item_path path 0) p.0.0) (λ n. small_at (item_path path 1) p.0.1 >>= λ z. made n z) t p.2 in
      let z = bind_ok (small_at (item_path path 1) p.0.1) (λ z. made n.0 z) t n.2 in
      let n' = takes (item_path path 0) p.0.0 n.0 n.1 in
      let z' = small_takes (item_path path 1) p.0.1 z.0 z.1 in
      let term : Term = record { at = n.0; by = z.0 } in
      subst (λ (u : Term). IsTerm u d × IsTermWithin u × P u.at) {x = term} (same_ok term t z.2)
      (Tagged.pair_at-takes (IsNumber n.0) (IsInteger z.0) path d p.0 p.1 n'.0 z'.0, (n'.1, z'.1), n'.2)

  term_from-again : ((path : List ℕ) (d : Data) (n : ℕ) → IsNumber n d → n < 2 ^ 32 → P n → number path d ≡ Ok n)
      → (path : List ℕ) (d : Data) (t : Term) → IsTerm t d → IsTermWithin t → P t.at → (pair_at path d >>= term_from path number) ≡ Ok t
  term_from-again again path d t is fits p =
      let q = Tagged.pair_at-again (IsNumber t.at) (IsInteger t.by) path d is in
      rw (q.1, again (item_path path 0) q.0.0 t.at q.2 fits.0 p, small_again (item_path path 1) q.0.1 t.by q.3 fits.1) refl

abbrev Any : ℕ → Type 0
Any n = Unit {0}

term_takes : (path : List ℕ) (found : List Term) (i : ℕ) (d : Data) (t : Term) → item_by term_item path found i d ≡ Ok t → IsTerm t d × IsTermWithin t
unfolding term_at
term_takes path found i d t e =
    let r = term_from-takes index_at Any (λ p x n h. (let s = index_takes p x n h in (s.0, s.1, tt))) (item_path path i) d t e in (r.0, r.1)

term_again : (path : List ℕ) (found : List Term) (i : ℕ) (d : Data) (t : Term) → IsTerm t d → IsTermWithin t → item_by term_item path found i d ≡ Ok t
unfolding term_at
term_again path found i d t is fits = term_from-again index_at Any (λ p x n h lt any. index_again p x n h lt) (item_path path i) d t is fits tt

pub terms_at-takes : (path : List ℕ) (d : Data) (ts : List Term) → terms_at path d ≡ Ok ts → IsList IsTerm ts d × AreTermsWithin ts
unfolding each_at
terms_at-takes path d ts e =
    let r = Readers.list-takes (item_by term_item path) IsTerm (λ _ t. IsTermWithin t) (term_takes path) path 0 TERM_LIMIT d ts e in
    (r.0, (r.3, EachFrom-All IsTermWithin [] ts r.1))

pub terms_at-again : (path : List ℕ) (d : Data) (ts : List Term) → IsList IsTerm ts d → AreTermsWithin ts → terms_at path d ≡ Ok ts
unfolding each_at
terms_at-again path d ts is fits =
    Readers.list-again (item_by term_item path) IsTerm (λ _ t. IsTermWithin t) (term_again path) path 0 TERM_LIMIT d ts is (All-EachFrom IsTermWithin [] ts fits.1) (omega arith) fits.0

abbrev number_in : Term → ℕ
number_in t = t.at

abbrev IsNextTerm : List Term → Term → Type 0
IsNextTerm found t = IsTermWithin t × Sets.Follows number_in found t

row_term_takes : (path : List ℕ) (found : List Term) (i : ℕ) (d : Data) (t : Term) → item_by row_term_item path found i d ≡ Ok t → IsTerm t d × IsNextTerm found t
unfolding row_term_at
row_term_takes path found i d t e =
    let before = last_of (numbers_of found) in
    let r = term_from-takes (λ p x. ascending_at p (2 ^ 32 - 1) before x) (λ n. comes_after before n ≡ true) (λ p x n h. (let s = Tagged.ascending_at-takes p (2 ^ 32 - 1) before x n h in let lt : n < 2 ^ 32 = omega (arith, s.1) in (s.0, lt, s.2))) (item_path path i) d t e in
    (r.0, (r.1, r.2))

row_term_again : (path : List ℕ) (found : List Term) (i : ℕ) (d : Data) (t : Term) → IsTerm t d → IsNextTerm found t → item_by row_term_item path found i d ≡ Ok t
unfolding row_term_at
row_term_again path found i d t is fits =
    let before = last_of (numbers_of found) in
    term_from-again (λ p x. ascending_at p (2 ^ 32 - 1) before x) (λ n. comes_after before n ≡ true) (λ p x n h lt after. Tagged.ascending_at-again p (2 ^ 32 - 1) before x n h (omega arith) after) (item_path path i) d t is fits.0 fits.1

pub row_terms_at-takes : (path : List ℕ) (d : Data) (ts : List Term) → row_terms_at path d ≡ Ok ts → IsList IsTerm ts d × AreTermsWithin ts × IsAscending (numbers_of ts)
unfolding each_at
row_terms_at-takes path d ts e =
    let r = Readers.list-takes (item_by row_term_item path) IsTerm IsNextTerm (row_term_takes path) path 0 TERM_LIMIT d ts e in
    let fits = EachFrom-weaker IsNextTerm (λ _ t. IsTermWithin t) (λ found t next. next.0) [] ts r.1 in
    let up = EachFrom-weaker IsNextTerm (Sets.Follows number_in) (λ found t next. next.1) [] ts r.1 in
    (r.0, (r.3, EachFrom-All IsTermWithin [] ts fits), Sets.follows-ascending number_in ts up)

pub row_terms_at-again : (path : List ℕ) (d : Data) (ts : List Term) → IsList IsTerm ts d → AreTermsWithin ts → IsAscending (numbers_of ts) → row_terms_at path d ≡ Ok ts
unfolding each_at
row_terms_at-again path d ts is fits up =
    let each_one = Sets.EachFrom-both (λ _ t. IsTermWithin t) (Sets.Follows number_in) [] ts (All-EachFrom IsTermWithin [] ts fits.1) (Sets.ascending-follows number_in ts up) in
    Readers.list-again (item_by row_term_item path) IsTerm IsNextTerm (row_term_again path) path 0 TERM_LIMIT d ts is each_one (omega arith) fits.0

abbrev itself : ℕ → ℕ
itself n = n

abbrev IsNextState : List ℕ → ℕ → Type 0
IsNextState found q = (q < 2 ^ 16) × (comes_after (last_of found) q ≡ true)

next_takes : (path : List ℕ) (found : List ℕ) (i : ℕ) (d : Data) (q : ℕ) → item_by set_state_item path found i d ≡ Ok q → IsNumber q d × IsNextState found q
next_takes path found i d q e = let r = Tagged.ascending_at-takes (item_path path i) (2 ^ 16 - 1) (last_of found) d q e in let lt : q < 2 ^ 16 = omega (arith, r.1) in (r.0, (lt, r.2))

next_again : (path : List ℕ) (found : List ℕ) (i : ℕ) (d : Data) (q : ℕ) → IsNumber q d → IsNextState found q → item_by set_state_item path found i d ≡ Ok q
next_again path found i d q is fits = Tagged.ascending_at-again (item_path path i) (2 ^ 16 - 1) (last_of found) d q is (omega (arith, fits.0)) fits.1

plain_follows : (found : List ℕ) (q : ℕ) → comes_after (last_of found) q ≡ true → Sets.Follows itself found q
plain_follows found q after = rw Sets.map_same after

follows_plain : (found : List ℕ) (q : ℕ) → Sets.Follows itself found q → comes_after (last_of found) q ≡ true
follows_plain found q after = rw Sets.map_same at after

pub states_at-takes : (path : List ℕ) (d : Data) (qs : List ℕ) → set_states_at path d ≡ Ok qs → IsList IsNumber qs d × IsSetWithin qs
unfolding each_at
states_at-takes path d qs e =
    let r = Readers.list-takes (item_by set_state_item path) IsNumber IsNextState (next_takes path) path 0 STATE_LIMIT d qs e in
    let fits = EachFrom-weaker IsNextState (λ _ q. q < 2 ^ 16) (λ found q next. next.0) [] qs r.1 in
    let up = EachFrom-weaker IsNextState (Sets.Follows itself) (λ found q next. plain_follows found q next.1) [] qs r.1 in
    (r.0, (r.3, EachFrom-All (λ q. q < 2 ^ 16) [] qs fits, subst IsAscending (Sets.map_same qs) (Sets.follows-ascending itself qs up)))

pub states_at-again : (path : List ℕ) (d : Data) (qs : List ℕ) → IsList IsNumber qs d → IsSetWithin qs → set_states_at path d ≡ Ok qs
unfolding each_at
states_at-again path d qs is fits =
    let up = Sets.ascending-follows itself qs (subst IsAscending (sym (Sets.map_same qs)) fits.2) in
    let plain = EachFrom-weaker (Sets.Follows itself) (λ found q. comes_after (last_of found) q ≡ true) follows_plain [] qs up in
    let each_one = Sets.EachFrom-both (λ _ q. q < 2 ^ 16) (λ found q. comes_after (last_of found) q ≡ true) [] qs (All-EachFrom (λ q. q < 2 ^ 16) [] qs fits.1) plain in
    Readers.list-again (item_by set_state_item path) IsNumber IsNextState (next_again path) path 0 STATE_LIMIT d qs is each_one (omega arith) fits.0

pub moves_at-takes : (path : List ℕ) (d : Data) (ns : List ℕ) → layer_moves_at path d ≡ Ok ns → IsList IsNumber ns d × (length ns ≤ MOVE_LIMIT) × All (λ n. n < 2 ^ 32) ns
unfolding each_at
moves_at-takes path d ns e =
    let r = Readers.list-takes (item_by index_item path) IsNumber (λ _ n. n < 2 ^ 32) (λ found i x n h. index_takes (item_path path i) x n h) path 0 MOVE_LIMIT d ns e in
    (r.0, r.3, EachFrom-All (λ n. n < 2 ^ 32) [] ns r.1)

pub moves_at-again : (path : List ℕ) (d : Data) (ns : List ℕ) → IsList IsNumber ns d → length ns ≤ MOVE_LIMIT → All (λ n. n < 2 ^ 32) ns → layer_moves_at path d ≡ Ok ns
unfolding each_at
moves_at-again path d ns is hi below =
    Readers.list-again (item_by index_item path) IsNumber (λ _ n. n < 2 ^ 32) (λ found i x n h lt. index_again (item_path path i) x n h lt) path 0 MOVE_LIMIT d ns is (All-EachFrom (λ n. n < 2 ^ 32) [] ns below) (omega arith) hi

pub weights_at-takes : (path : List ℕ) (d : Data) (ws : List ℤ) → weights_at path d ≡ Ok ws → IsList IsInteger ws d × (length ws ≤ STATE_LIMIT) × All IsSmall ws
unfolding each_at
weights_at-takes path d ws e =
    let r = Readers.list-takes (item_by weight_item path) IsInteger (λ _ w. IsSmall w) (λ found i x w h. small_takes (item_path path i) x w h) path 0 STATE_LIMIT d ws e in
    (r.0, r.3, EachFrom-All IsSmall [] ws r.1)

pub weights_at-again : (path : List ℕ) (d : Data) (ws : List ℤ) → IsList IsInteger ws d → length ws ≤ STATE_LIMIT → All IsSmall ws → weights_at path d ≡ Ok ws
unfolding each_at
weights_at-again path d ws is hi small =
    Readers.list-again (item_by weight_item path) IsInteger (λ _ w. IsSmall w) (λ found i x w h s. small_again (item_path path i) x w h s) path 0 STATE_LIMIT d ws is (All-EachFrom IsSmall [] ws small) (omega arith) hi

layer_takes : (path : List ℕ) (d : Data) (layer : Layer) → layer_at path d ≡ Ok layer → IsLayerFile layer d × IsLayerWithin layer
unfolding layer_at
layer_takes path d layer e =
    let made = λ (ms : List ℕ) (ws : List ℤ). (let o : Result Layer Fault = Ok (record { moves = ms; weights = ws }) in o) in
    let moves = member_by path (codes "moves") layer_moves_at d in
    let weights = member_by path (codes "weights") weights_at d in
    let a = bind_ok (object_at path d) (λ o. moves >>= λ ms. weights >>= λ ws. made ms ws) layer e in
    let m = bind_ok moves (λ ms. weights >>= λ ws. made ms ws) layer a.2 in
    let w = bind_ok weights (λ ws. made m.0 ws) layer m.2 in
    let m' = bind_ok (member_at path (codes "moves") d) (λ v. layer_moves_at (member_path path (codes "moves")) v) m.0 m.1 in
    let w' = bind_ok (member_at path (codes "weights") d) (λ v. weights_at (member_path path (codes "weights")) v) w.0 w.1 in
    let mt = moves_at-takes (member_path path (codes "moves")) m'.0 m.0 m'.2 in
    let wt = weights_at-takes (member_path path (codes "weights")) w'.0 w.0 w'.2 in
    let whole : Layer = record { moves = m.0; weights = w.0 } in
    let file : IsLayerFile whole d = record {
      moves = (m'.0, Readers.member_at-takes path (codes "moves") d m'.0 m'.1, mt.0);
      weights = (w'.0, Readers.member_at-takes path (codes "weights") d w'.0 w'.1, wt.0);
    } in
    let fits : IsLayerWithin whole = record { move_count = mt.1; moves = mt.2; weight_count = wt.1; weights = wt.2 } in
    subst (λ (l : Layer). IsLayerFile l d × IsLayerWithin l) {x = whole} (same_ok whole layer w.2) (file, fits)

layer_again : (path : List ℕ) (d : Data) (layer : Layer) → IsLayerFile layer d → IsLayerWithin layer → layer_at path d ≡ Ok layer
unfolding layer_at
layer_again path d layer file fits =
    rw (
      Readers.object_at-again path (codes "moves") d file.moves.0 file.moves.1,
      file.moves.1,
      moves_at-again (member_path path (codes "moves")) file.moves.0 layer.moves file.moves.2 fits.move_count fits.moves,
      file.weights.1,
      weights_at-again (member_path path (codes "weights")) file.weights.0 layer.weights file.weights.2 fits.weight_count fits.weights,
    ) refl

pub layers_at-takes : (path : List ℕ) (d : Data) (ls : List Layer) → layers_at path d ≡ Ok ls → IsList IsLayerFile ls d × (length ls ≤ LAYER_LIMIT) × All IsLayerWithin ls
unfolding each_at
layers_at-takes path d ls e =
    let r = Readers.list-takes (item_by layer_item path) IsLayerFile (λ _ l. IsLayerWithin l) (λ found i x l h. layer_takes (item_path path i) x l h) path 0 LAYER_LIMIT d ls e in
    (r.0, r.3, EachFrom-All IsLayerWithin [] ls r.1)

pub layers_at-again : (path : List ℕ) (d : Data) (ls : List Layer) → IsList IsLayerFile ls d → length ls ≤ LAYER_LIMIT → All IsLayerWithin ls → layers_at path d ≡ Ok ls
unfolding each_at
layers_at-again path d ls is hi fits =
    Readers.list-again (item_by layer_item path) IsLayerFile (λ _ l. IsLayerWithin l) (λ found i x l h f. layer_again (item_path path i) x l h f) path 0 LAYER_LIMIT d ls is (All-EachFrom IsLayerWithin [] ls fits) (omega arith) hi
