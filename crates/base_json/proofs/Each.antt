-- Reading the items of a list one after the other, as a loop does.
use Rattle.std.proofs.Common.{◌≡◌, ℕ, zero, suc, ◌+◌, ◌≤◌, ◌<◌, List, [], ◌∷◌, ◌++◌, length, get_or, map, drop, Result, Ok, refl, sym, ap, ◌∙◌, arith, add-one}
use Rattle.std.proofs.Math.ListN.{drop_of_length-le}
use Rattle.std.proofs.lemmas.List.{length-map}
use Rattle.serde_json.specs.Data.{Data}
use Rattle.serde_json.specs.View.{view}
use Rattle.serde_json.specs.declared.value.Value.{Value}
use Rattle.base_json.specs.declared.fault.FormatFault.{FormatFault}
use Rattle.base_json.specs.declared.fault.FormatFault.TheVariants.{Broken, NoMemory}
use Rattle.base_json.specs.Faults.{Fault, ◌>>=◌, FailsRead}
use Rattle.base_json.specs.Shapes.{each}

drop_next : (vs : List Value) (i : ℕ) (v : Value) → i < length vs → v ≡ get_or vs i v → drop i (map view vs) ≡ view v ∷ drop (suc i) (map view vs)
drop_next [] i v lt is = absurd (omega arith)
drop_next (w ∷ vs) zero v lt is = ap (λ u. view u ∷ map view vs) (sym is)
drop_next (w ∷ vs) (suc i) v lt is = drop_next vs i v (omega arith) is

next_drop : (vs : List Value) (i : ℕ) (v : Value) → i < length vs → v ≡ get_or vs i v → drop i (map view vs) ≡ view v ∷ drop (i + 1) (map view vs)
next_drop vs i v lt is = rw add-one (drop_next vs i v lt is)

module _ {A : Type 0} (at : List A → ℕ → Data → Result A Fault) (found : List A) (vs : List Value) (i : ℕ) where
  next : (v : Value) → i < length vs → v ≡ get_or vs i v → each at found i (drop i (map view vs)) ≡ (at found i (view v) >>= λ x. each at (found ++ x ∷ []) (i + 1) (drop (i + 1) (map view vs)))
  next v lt is = rw (next_drop vs i v lt is) refl

  pub each-fails : (e : FormatFault) (v : Value) (total : Result (List A) Fault) → i < length vs → v ≡ get_or vs i v → FailsRead e (at found i (view v))
      → each at found i (drop i (map view vs)) ≡ total → FailsRead e total
  each-fails NoMemory v total lt is failed so_far = tt
  each-fails (Broken p w) v total lt is failed so_far = sym so_far ∙ next v lt is ∙ rw failed refl

  pub each-goes : (x : A) (v : Value) (total : Result (List A) Fault) → i < length vs → v ≡ get_or vs i v → at found i (view v) ≡ Ok x
      → each at found i (drop i (map view vs)) ≡ total → each at (found ++ x ∷ []) (i + 1) (drop (i + 1) (map view vs)) ≡ total
  each-goes x v total lt is read so_far = sym (next v lt is ∙ rw read refl) ∙ so_far

  pub each-done : (total : Result (List A) Fault) → length vs ≤ i → each at found i (drop i (map view vs)) ≡ total → total ≡ Ok found
  each-done total le so_far = sym so_far ∙ rw (drop_of_length-le (map view vs) {i = i} (rw length-map le)) refl
