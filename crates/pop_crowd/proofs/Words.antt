-- The tuples of a crowd's words.
use Rattle.std.proofs.Common.{◌≡◌, ◌≢◌, ℕ, Bool, true, false, not, ◌&&◌, ◌||◌, List, [], get_or, set, refl, ap, sym, subst, ◌∙◌}
use Rattle.std.specs.Prelude.{Some, All, Decides, slice_get, slice_index_or, nat_eq, ◌==◌}
use Rattle.std.specs.Cmp.Lexicographic.{pointwise}
use Rattle.std.proofs.lemmas.List.{map-set}
use Rattle.std.proofs.lemmas.List.Elements.{All-map}
use Rattle.std.proofs.lemmas.Option.{slice_get-map, get_or_from_slice_get}
use Rattle.std.proofs.lemmas.Bool.Decides.{same_from_decides, Decides-eqb, Decides-like}
use Rattle.std.proofs.lemmas.Slice.Eq.{slice_eq-Decides}
use Rattle.std.specs.Option.{option_map}
use Rattle.pop_net.specs.declared.net.Word.{Word}
use Rattle.pop_leaf.specs.NetModel.{NetModel, Tuple, IsTuple}
use Rattle.pop_leaf.specs.Step.{Step}
use Rattle.pop_net.specs.Lanes.{tuple_of, crowd_of, IsValid}
use Rattle.pop_leaf.specs.Reaction.{reaction, after_meeting}
use Rattle.pop_net.proofs.Packing.{same_word, is_tuple}
use Rattle.pop_leaf.proofs.Reactions.{reaction_step}
use Rattle.pop_crowd.specs.Replay.{reacts, changes}

-- each tuple of a crowd of words has one state per leaf
pub crowd_tuples : (net : NetModel) (words : List Word) → All (IsTuple net) (crowd_of net words)
crowd_tuples net words = All-map (IsTuple net) (tuple_of net) words (λ k d l. is_tuple net (get_or words k d))

pub tuple_at : (net : NetModel) (words : List Word) (a : ℕ) (x : Word) → slice_get words a ≡ Some x → slice_get (crowd_of net words) a ≡ Some (tuple_of net x)
tuple_at net words a x h = slice_get-map (tuple_of net) words a ∙ ap (option_map (tuple_of net)) h

-- two valid words are the same exactly when their tuples are
pub same_tuples : (net : NetModel) (v w : Word) (r : Bool) → IsValid net v → IsValid net w → Decides r (v ≡ w) → r ≡ pointwise nat_eq (tuple_of net v) (tuple_of net w)
same_tuples net v w r hv hw d =
    same_from_decides r (pointwise nat_eq (tuple_of net v) (tuple_of net w)) d
    (Decides-like _ (λ e. same_word net v w hv hw e) (λ e. ap (tuple_of net) e) (slice_eq-Decides Decides-eqb (tuple_of net v) (tuple_of net w) _ refl))

word_decides : (v w : Word) → Decides (v.0 == w.0) (v ≡ w)
word_decides v w = Decides-like (v.0 == w.0) (λ e. ap (λ (n : ℕ). record { 0 = n }) e) (λ e. ap (λ (u : Word). u.0) e) (Decides-eqb v.0 w.0)

-- a reaction changes one of two words exactly when it changes one of their tuples
pub anew_reacts : (net : NetModel) (x y x' y' : Word) → (tuple_of net x', tuple_of net y') ≡ reaction net (tuple_of net x) (tuple_of net y) → IsValid net x → IsValid net y → IsValid net x' → IsValid net y' → not (x'.0 == x.0) || not (y'.0 == y.0) ≡ reacts net (tuple_of net x) (tuple_of net y)
anew_reacts net x y x' y' e hx hy hx' hy' =
    outer (x'.0 == x.0) (y'.0 == y.0)
    ∙ ap (λ t. not (t && (y'.0 == y.0))) (same_tuples net x' x (x'.0 == x.0) hx' hx (word_decides x' x))
    ∙ ap (λ t. not (pointwise nat_eq (tuple_of net x') (tuple_of net x) && t)) (same_tuples net y' y (y'.0 == y.0) hy' hy (word_decides y' y))
    ∙ ap (λ (z : Tuple × Tuple). not (pointwise nat_eq z.0 (tuple_of net x) && pointwise nat_eq z.1 (tuple_of net y))) e
  where
    outer : (r s : Bool) → not r || not s ≡ not (r && s)
    outer true s = refl
    outer false s = refl

module _ (net : NetModel) (words : List Word) (a b : ℕ) (x y x' y' : Word) (ha : slice_get words a ≡ Some x) (hb : slice_get words b ≡ Some y) (e : (tuple_of net x', tuple_of net y') ≡ reaction net (tuple_of net x) (tuple_of net y)) where
  at_a : slice_index_or (crowd_of net words) a [] ≡ tuple_of net x
  at_a = get_or_from_slice_get (crowd_of net words) a (tuple_of net x) [] (tuple_at net words a x ha)

  at_b : slice_index_or (crowd_of net words) b [] ≡ tuple_of net y
  at_b = get_or_from_slice_get (crowd_of net words) b (tuple_of net y) [] (tuple_at net words b y hb)

  both : reaction net (slice_index_or (crowd_of net words) a []) (slice_index_or (crowd_of net words) b []) ≡ (tuple_of net x', tuple_of net y')
  both = ap (λ u. reaction net u (slice_index_or (crowd_of net words) b [])) at_a ∙ ap (reaction net (tuple_of net x)) at_b ∙ sym e

  -- the crowd after two words were written
  pub after_write : crowd_of net (set (set words a x') b y') ≡ after_meeting net a b (crowd_of net words)
  after_write =
      map-set (tuple_of net) (set words a x') b y'
      ∙ ap (λ c. set c b (tuple_of net y')) (map-set (tuple_of net) words a x')
      ∙ sym (ap (λ (z : Tuple × Tuple). set (set (crowd_of net words) a z.0) b z.1) both)

  -- whether one of the two words changed
  pub written_anew : (result : Bool) → result ≡ (not (x'.0 == x.0) || not (y'.0 == y.0)) → IsValid net x → IsValid net y → IsValid net x' → IsValid net y' → result ≡ changes net a b (crowd_of net words)
  written_anew result e1 hx hy hx' hy' =
      e1
      ∙ anew_reacts net x y x' y' e hx hy hx' hy'
      ∙ ap (λ u. reacts net u (tuple_of net y)) (sym at_a)
      ∙ ap (reacts net (slice_index_or (crowd_of net words) a [])) (sym at_b)

  pub write_step : a ≢ b → Step net (crowd_of net words) (crowd_of net (set (set words a x') b y'))
  write_step ne =
      subst (Step net (crowd_of net words)) (sym after_write)
      (reaction_step net (crowd_of net words) a b (tuple_of net x) (tuple_of net y) ne (tuple_at net words a x ha) (tuple_at net words b y hb) (is_tuple net x) (is_tuple net y))
