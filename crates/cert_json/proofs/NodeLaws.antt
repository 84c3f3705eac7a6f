-- What is read of nodes is in their file, and each such file is read.
use Rattle.std.proofs.Common.{◌≡◌, ℕ, ◌<◌, ◌≤◌, ◌^◌, Bool, true, false, cond, List, [], codes, Option, Some, None, Result, Ok, refl, ap, subst, ◌∙◌, arith}
use Rattle.std.specs.Str.{bytes_eq}
use Rattle.std.proofs.lemmas.Slice.Eq.{bytes_eq-Decides}
use Rattle.serde_json.specs.Data.{Data}
use Rattle.base_json.specs.Faults.{Fault, ◌>>=◌}
use Rattle.base_json.specs.Paths.{item_path}
use Rattle.base_json.specs.Shapes.{items_at, word_at, one_after, two_after, item_by, each_at}
use Rattle.base_json.specs.Parts.{IsNumber, IsInteger, IsOnly, AreBoth, BeginsWith, IsList}
use Rattle.base_json.proofs.Steps.{bind_ok, same_ok}
use Rattle.base_json.proofs.Readers
use Rattle.base_json.proofs.Fresh.{EachFrom-All, All-EachFrom}
use Rattle.base_json.proofs.TaggedReaders as Tagged
use Rattle.cert_base.specs.declared.fact.Term.{Term}
use Rattle.cert_base.specs.declared.node.Node.{Node}
use Rattle.cert_base.specs.declared.node.Node.TheVariants.{Linear, Residue, Split, Present, Twin, Trap, Siphon, Open}
use Rattle.cert_base.specs.declared.node.Node.TheVariants.{First}
use Rattle.cert_base.specs.ProofLimits.{IsSmall, IsAscending, AreTermsWithin, IsSetWithin, IsNodeWithin, AreNodesWithin}
use Rattle.cert_base.specs.declared.limits.TheConstants.{NODE_LIMIT}
use Rattle.pres_ast.specs.declared.limits.TheConstants.{MODULUS_LIMIT}
use Rattle.cert_json.specs.declared.kind.NodeKind.{NodeKind}
use Rattle.cert_json.specs.declared.kind.NodeKind.TheVariants as kind
use Rattle.cert_json.specs.Kinds.{kind_text, kind_else, kind_named}
use Rattle.cert_json.specs.ProofFile.{IsTerm, AreParts, IsNode}
use Rattle.cert_json.specs.Examined.{index_at, state_at, modulus_at, small_at, terms_at, numbers_of, row_terms_at, set_states_at, only_by, with_one, with_two, split_by, after_word, by_kind, node_at, node_item, nodes_at}
use Rattle.cert_json.proofs.PartLaws

by_test : (v w : NodeKind) (s : List ℕ) (other : Option NodeKind) → (other ≡ Some w → s ≡ kind_text w) → (b : Bool) → bytes_eq s (kind_text v) ≡ b → cond b (Some v) other ≡ Some w → s ≡ kind_text w
by_test v w s other so true is e = let same : v ≡ w = cc in (bytes_eq-Decides s (kind_text v)).0 is ∙ ap kind_text same
by_test v w s other so false is e = so e

else_takes : (v w : NodeKind) (s : List ℕ) (other : Option NodeKind) → (other ≡ Some w → s ≡ kind_text w) → kind_else v s other ≡ Some w → s ≡ kind_text w
else_takes v w s other so e = by_test v w s other so (bytes_eq s (kind_text v)) refl e

named_takes : (s : List ℕ) (w : NodeKind) → kind_named s ≡ Some w → s ≡ kind_text w
named_takes s w =
    else_takes kind.Linear w s _
    (else_takes kind.Residue w s _
    (else_takes kind.Split w s _
    (else_takes kind.Present w s _
    (else_takes kind.Twin w s _ (else_takes kind.Trap w s _ (else_takes kind.Siphon w s _ (else_takes kind.Open w s _ (else_takes kind.First w s None (λ e. absurd cc)))))))))

module _ {A : Type 0} (read : List ℕ → Data → Result A Fault) (Is : A → Data → Type 0) (P : A → Type 0) (make : A → Node) where
  one_takes : ((path : List ℕ) (d : Data) (x : A) → read path d ≡ Ok x → Is x d × P x)
      → (path s : List ℕ) (ds : List Data) (node : Node) → word_at path ds ≡ Ok s → with_one read make path ds ≡ Ok node → (x : A) × (make x ≡ node) × BeginsWith s (IsOnly (Is x)) ds × P x
  one_takes takes path s ds node w e =
      let made = λ (x : A). (let o : Result Node Fault = Ok (make x) in o) in
      let x = bind_ok (only_by read path ds) (λ x. made x) node e in
      let d = bind_ok (one_after path ds) (λ d. read (item_path path 1) d) x.0 x.1 in
      let t = takes (item_path path 1) d.0 x.0 d.2 in
      (x.0, same_ok (make x.0) node x.2, Tagged.one_after-takes (Is x.0) path s ds d.0 w d.1 t.0, t.1)

  one_again : ((path : List ℕ) (d : Data) (x : A) → Is x d → P x → read path d ≡ Ok x)
      → (path s : List ℕ) (ds : List Data) (x : A) → BeginsWith s (IsOnly (Is x)) ds → P x → (word_at path ds ≡ Ok s) × (with_one read make path ds ≡ Ok (make x))
  one_again again path s ds x begins p =
      let t = Tagged.one_after-again (Is x) path s ds begins in
      (t.1, rw (t.2, again (item_path path 1) t.0 x t.3 p) refl)

module _ {A B : Type 0} (read : List ℕ → Data → Result A Fault) (other : List ℕ → Data → Result B Fault) (Is : A → Data → Type 0) (Are : B → Data → Type 0) (P : A → Type 0) (Q : B → Type 0) (make : A → B → Node) where
  two_takes : ((path : List ℕ) (d : Data) (x : A) → read path d ≡ Ok x → Is x d × P x)
      → ((path : List ℕ) (d : Data) (y : B) → other path d ≡ Ok y → Are y d × Q y)
      → (path s : List ℕ) (ds : List Data) (node : Node) → word_at path ds ≡ Ok s → with_two read other make path ds ≡ Ok node → (x : A) × (y : B) × (make x y ≡ node) × BeginsWith s (AreBoth (Is x) (Are y)) ds × P x × Q y
  two_takes takes others path s ds node w e =
      let made = λ (x : A) (y : B). (let o : Result Node Fault = Ok (make x y) in o) in
      let p = bind_ok (two_after path ds) (λ p. read (item_path path 1) p.0 >>= λ x. other (item_path path 2) p.1 >>= λ y. made x y) node e in
      let x = bind_ok (read (item_path path 1) p.0.0) (λ x. other (item_path path 2) p.0.1 >>= λ y. made x y) node p.2 in
      let y = bind_ok (other (item_path path 2) p.0.1) (λ y. made x.0 y) node x.2 in
      let t = takes (item_path path 1) p.0.0 x.0 x.1 in
      let u = others (item_path path 2) p.0.1 y.0 y.1 in
      (x.0, y.0, same_ok (make x.0 y.0) node y.2, Tagged.two_after-takes (Is x.0) (Are y.0) path s ds p.0 w p.1 t.0 u.0, t.1, u.1)

  two_again : ((path : List ℕ) (d : Data) (x : A) → Is x d → P x → read path d ≡ Ok x)
      → ((path : List ℕ) (d : Data) (y : B) → Are y d → Q y → other path d ≡ Ok y)
      → (path s : List ℕ) (ds : List Data) (x : A) (y : B) → BeginsWith s (AreBoth (Is x) (Are y)) ds → P x → Q y → (word_at path ds ≡ Ok s) × (with_two read other make path ds ≡ Ok (make x y))
  two_again again others path s ds x y begins p q =
      let t = Tagged.two_after-again (Is x) (Are y) path s ds begins in
      (t.1, rw (t.2, again (item_path path 1) t.0.0 x t.3 p, others (item_path path 2) t.0.1 y t.4 q) refl)

abbrev IsModulus : ℕ → Type 0
IsModulus m = (2 ≤ m) × (m ≤ MODULUS_LIMIT)

abbrev AreRowTerms : List Term → Type 0
AreRowTerms terms = AreTermsWithin terms × IsAscending (numbers_of terms)

modulus_takes : (path : List ℕ) (d : Data) (m : ℕ) → modulus_at path d ≡ Ok m → IsNumber m d × IsModulus m
modulus_takes path d m e = let r = Readers.number_at-takes path 2 MODULUS_LIMIT d m e in (r.0, (r.1, r.2))

modulus_again : (path : List ℕ) (d : Data) (m : ℕ) → IsNumber m d → IsModulus m → modulus_at path d ≡ Ok m
modulus_again path d m is fits = Readers.number_at-again path 2 MODULUS_LIMIT d m is fits.0 fits.1

row_takes : (path : List ℕ) (d : Data) (ts : List Term) → row_terms_at path d ≡ Ok ts → IsList IsTerm ts d × AreRowTerms ts
row_takes path d ts e = let r = PartLaws.row_terms_at-takes path d ts e in (r.0, (r.1, r.2))

row_again : (path : List ℕ) (d : Data) (ts : List Term) → IsList IsTerm ts d → AreRowTerms ts → row_terms_at path d ≡ Ok ts
row_again path d ts is fits = PartLaws.row_terms_at-again path d ts is fits.0 fits.1

abbrev Taken : List Data → Node → Type 0
Taken ds node = AreParts node ds × IsNodeWithin node

parts_takes : (path : List ℕ) (ds : List Data) (node : Node) (w : NodeKind) → word_at path ds ≡ Ok (kind_text w) → after_word path w ds ≡ Ok node → Taken ds node
parts_takes path ds node kind.Linear w e =
    let r = one_takes terms_at (IsList IsTerm) AreTermsWithin Linear PartLaws.terms_at-takes path (codes "lin") ds node w e in
    subst (Taken ds) r.1 (r.2, r.3)
parts_takes path ds node kind.Residue w e =
    let r = two_takes modulus_at terms_at IsNumber (IsList IsTerm) IsModulus AreTermsWithin Residue modulus_takes PartLaws.terms_at-takes path (codes "residue") ds node w e in
    subst (Taken ds) r.2 (r.3, (r.4.0, r.4.1, r.5))
parts_takes path ds node kind.Split w e =
    let r = two_takes row_terms_at small_at (IsList IsTerm) IsInteger AreRowTerms IsSmall split_by row_takes PartLaws.small_takes path (codes "split") ds node w e in
    subst (Taken ds) r.2 (r.3, (r.4.0, r.4.1, r.5))
parts_takes path ds node kind.Present w e =
    let r = one_takes state_at IsNumber (λ q. q < 2 ^ 16) Present PartLaws.state_takes path (codes "present") ds node w e in
    subst (Taken ds) r.1 (r.2, r.3)
parts_takes path ds node kind.Twin w e =
    let r = one_takes state_at IsNumber (λ q. q < 2 ^ 16) Twin PartLaws.state_takes path (codes "twin") ds node w e in
    subst (Taken ds) r.1 (r.2, r.3)
parts_takes path ds node kind.Trap w e =
    let r = one_takes set_states_at (IsList IsNumber) IsSetWithin Trap PartLaws.states_at-takes path (codes "trap") ds node w e in
    subst (Taken ds) r.1 (r.2, r.3)
parts_takes path ds node kind.Siphon w e =
    let r = one_takes set_states_at (IsList IsNumber) IsSetWithin Siphon PartLaws.states_at-takes path (codes "siphon") ds node w e in
    subst (Taken ds) r.1 (r.2, r.3)
parts_takes path ds node kind.Open w e =
    let r = one_takes index_at IsNumber (λ n. n < 2 ^ 32) Open PartLaws.index_takes path (codes "open") ds node w e in
    subst (Taken ds) r.1 (r.2, r.3)
parts_takes path ds node kind.First w e =
    let r = one_takes set_states_at (IsList IsNumber) IsSetWithin First PartLaws.states_at-takes path (codes "first") ds node w e in
    subst (Taken ds) r.1 (r.2, r.3)

by_kind_takes : (path s : List ℕ) (ds : List Data) (node : Node) (o : Option NodeKind) → kind_named s ≡ o → word_at path ds ≡ Ok s → by_kind path o ds ≡ Ok node → Taken ds node
by_kind_takes path s ds node None is w e = absurd cc
by_kind_takes path s ds node (Some v) is w e =
    parts_takes path ds node v (subst (λ (t : List ℕ). word_at path ds ≡ Ok t) (named_takes s v is) w) e

node_takes : (path : List ℕ) (d : Data) (node : Node) → node_at path d ≡ Ok node → IsNode node d × IsNodeWithin node
unfolding node_at
node_takes path d node e =
    let a = bind_ok (items_at path d) (λ ds. word_at path ds >>= λ s. by_kind path (kind_named s) ds) node e in
    let s = bind_ok (word_at path a.0) (λ s. by_kind path (kind_named s) a.0) node a.2 in
    let t = Tagged.items_at-takes path d a.0 a.1 in
    let r = by_kind_takes path s.0 a.0 node (kind_named s.0) refl s.1 s.2 in
    ((t.0, t.1, rw t.2 r.0), r.1)

parts_again : (path : List ℕ) (ds : List Data) (node : Node) → AreParts node ds → IsNodeWithin node → (word_at path ds >>= λ s. by_kind path (kind_named s) ds) ≡ Ok node
parts_again path ds (Linear terms) parts fits =
    let t = one_again terms_at (IsList IsTerm) AreTermsWithin Linear PartLaws.terms_at-again path (codes "lin") ds terms parts fits in rw t.0 t.1
parts_again path ds (Residue m terms) parts fits =
    let t = two_again modulus_at terms_at IsNumber (IsList IsTerm) IsModulus AreTermsWithin Residue modulus_again PartLaws.terms_at-again path (codes "residue") ds m terms parts (fits.0, fits.1) fits.2 in rw t.0 t.1
parts_again path ds (Split row) parts fits =
    let t = two_again row_terms_at small_at (IsList IsTerm) IsInteger AreRowTerms IsSmall split_by row_again PartLaws.small_again path (codes "split") ds row.terms row.constant parts (fits.0, fits.1) fits.2 in rw t.0 t.1
parts_again path ds (Present p) parts fits =
    let t = one_again state_at IsNumber (λ q. q < 2 ^ 16) Present PartLaws.state_again path (codes "present") ds p parts fits in rw t.0 t.1
parts_again path ds (Twin p) parts fits =
    let t = one_again state_at IsNumber (λ q. q < 2 ^ 16) Twin PartLaws.state_again path (codes "twin") ds p parts fits in rw t.0 t.1
parts_again path ds (Trap set) parts fits =
    let t = one_again set_states_at (IsList IsNumber) IsSetWithin Trap PartLaws.states_at-again path (codes "trap") ds set parts fits in rw t.0 t.1
parts_again path ds (Siphon set) parts fits =
    let t = one_again set_states_at (IsList IsNumber) IsSetWithin Siphon PartLaws.states_at-again path (codes "siphon") ds set parts fits in rw t.0 t.1
parts_again path ds (Open f) parts fits =
    let t = one_again index_at IsNumber (λ n. n < 2 ^ 32) Open PartLaws.index_again path (codes "open") ds f parts fits in rw t.0 t.1
parts_again path ds (First set) parts fits =
    let t = one_again set_states_at (IsList IsNumber) IsSetWithin First PartLaws.states_at-again path (codes "first") ds set parts fits in rw t.0 t.1

node_again : (path : List ℕ) (d : Data) (node : Node) → IsNode node d → IsNodeWithin node → node_at path d ≡ Ok node
unfolding node_at
node_again path d node is fits = rw (Tagged.items_at-again path d is.0 is.1) (parts_again path _ node is.2 fits)

pub nodes_at-takes : (path : List ℕ) (d : Data) (nodes : List Node) → nodes_at path d ≡ Ok nodes → IsList IsNode nodes d × AreNodesWithin nodes
unfolding each_at
nodes_at-takes path d nodes e =
    let r = Readers.list-takes (item_by node_item path) IsNode (λ _ n. IsNodeWithin n) (λ found i x n h. node_takes (item_path path i) x n h) path 0 NODE_LIMIT d nodes e in
    (r.0, (r.3, EachFrom-All IsNodeWithin [] nodes r.1))

pub nodes_at-again : (path : List ℕ) (d : Data) (nodes : List Node) → IsList IsNode nodes d → AreNodesWithin nodes → nodes_at path d ≡ Ok nodes
unfolding each_at
nodes_at-again path d nodes is fits =
    Readers.list-again (item_by node_item path) IsNode (λ _ n. IsNodeWithin n) (λ found i x n h f. node_again (item_path path i) x n h f) path 0 NODE_LIMIT d nodes is (All-EachFrom IsNodeWithin [] nodes fits.1) (omega arith) fits.0
