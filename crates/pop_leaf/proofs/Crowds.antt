-- The steps and the terminal crowds of a hushed leaf.
use Rattle.std.proofs.Common.{◌≡◌, ◌⊎◌, inl, inr, ℕ, List, refl, ap, sym, subst, ◌∙◌}
use Rattle.std.specs.Prelude.{Some, false, slice_get, slice_set, Contains}
use Rattle.std.proofs.lemmas.Bool.{false≢true}
use Rattle.pop_leaf.specs.declared.leaf.Move.{Move}
use Rattle.pop_leaf.specs.LeafModel.{LeafModel, silent_move}
use Rattle.pop_leaf.specs.Step.{Follows, LeafMove, LeafChange, LeafStep}
use Rattle.pop_leaf.specs.Terminal.{IsTerminal}
use Rattle.pop_leaf.proofs.Quiet.{set_same}
use Rattle.pop_leaf.proofs.Silent.{stays-silent}
use Rattle.base_laws.proofs.Lists.{slice_get-set_same, slice_get-set_other}
use Rattle.base_laws.proofs.Options.{same_value}
use Rattle.pop_leaf.specs.Hushed.{hushed}
use Rattle.pop_leaf.specs.Laws.{IsKeptMove, NoneCanTake, LeavesAreHushed}
use Rattle.pop_leaf.proofs.HushedMoves.{hushed_formed, hushed_move, kept_move, hushed_all}

module _ (leaf : LeafModel) (kept : List ℕ) where
  pub hushed_change : (x y x' y' : ℕ) → LeafChange (hushed leaf kept) x y x' y' → LeafChange leaf x y x' y'
  hushed_change x y x' y' (inl stay) = inl stay
  hushed_change x y x' y' (inr m) =
      let k = hushed_move leaf kept m.number m.taken m.listed m.non_silent in
      inr (record { number = m.number; taken = m.taken; listed = k.move_is; non_silent = m.non_silent; followed = m.followed })

  -- a step by moves that are kept
  pub step_as : (one other : LeafModel) → ((x y x' y' : ℕ) → LeafChange one x y x' y' → LeafChange other x y x' y') → (before after : List ℕ) → LeafStep one before after → LeafStep other before after
  step_as one other change before after s =
      record {
        a = s.a;
        b = s.b;
        different = s.different;
        x = s.x;
        y = s.y;
        x' = s.x';
        y' = s.y';
        a_had = s.a_had;
        b_had = s.b_had;
        change = change s.x s.y s.x' s.y' s.change;
        others_stay = s.others_stay;
      }

  pub hushed_step : (before after : List ℕ) → LeafStep (hushed leaf kept) before after → LeafStep leaf before after
  hushed_step = step_as (hushed leaf kept) leaf hushed_change

  loud_change : ((number : ℕ) (t : Move) → slice_get leaf.moves number ≡ Some t → silent_move t ≡ false → Contains kept number) → (x y x' y' : ℕ) → LeafChange leaf x y x' y' → LeafChange (hushed leaf kept) x y x' y'
  loud_change all x y x' y' (inl stay) = inl stay
  loud_change all x y x' y' (inr m) =
      let k = kept_move leaf kept m.number m.taken (record { kept_is = all m.number m.taken m.listed m.non_silent; move_is = m.listed; non_silent = m.non_silent }) in
      inr (record { number = m.number; taken = m.taken; listed = k.0; non_silent = m.non_silent; followed = m.followed })

  module _ (crowd : List ℕ) where
    pub terminal_none : IsTerminal (LeafStep (hushed leaf kept)) crowd → NoneCanTake leaf kept crowd
    terminal_none terminal number a b t m ne ha hb =
        let k = kept_move leaf kept number t m in
        let after = slice_set (slice_set crowd a t.r) b t.s in
        let step : LeafStep (hushed leaf kept) crowd after = record {
          a = a;
          b = b;
          different = ne;
          x = t.p;
          y = t.q;
          x' = t.r;
          y' = t.s;
          a_had = ha;
          b_had = hb;
          change = inr (record { number = number; taken = t; listed = k.0; non_silent = m.non_silent; followed = inl (refl, refl, refl, refl) });
          others_stay = refl;
        } in
        let same = terminal after step in
        let b_has = slice_get-set_same (slice_set crowd a t.r) b t.q t.s (slice_get-set_other crowd a b t.r t.q ne hb) in
        let a_has = slice_get-set_other (slice_set crowd a t.r) b a t.s t.r (λ e. ne (sym e)) (slice_get-set_same crowd a t.p t.r ha) in
        let r_is : t.r ≡ t.p = same_value (slice_get crowd a) t.r t.p (subst (λ c. slice_get c a ≡ Some t.r) same a_has) ha in
        let s_is : t.s ≡ t.q = same_value (slice_get crowd b) t.s t.q (subst (λ c. slice_get c b ≡ Some t.s) same b_has) hb in
        false≢true (sym m.non_silent ∙ stays-silent t r_is s_is)

    pub none_terminal : NoneCanTake leaf kept crowd → IsTerminal (LeafStep (hushed leaf kept)) crowd
    none_terminal none end s = by_change s.change
      where
        by_order : (m : LeafMove (hushed leaf kept) s.x s.y s.x' s.y') → IsKeptMove leaf kept m.number m.taken → Follows m.taken s.x s.y s.x' s.y' ⊎ Follows m.taken s.y s.x s.y' s.x' → end ≡ crowd
        by_order m k (inl f) =
            absurd (none m.number s.a s.b m.taken k s.different (s.a_had ∙ ap Some f.0) (s.b_had ∙ ap Some f.1))
        by_order m k (inr f) =
            absurd (none m.number s.b s.a m.taken k (λ e. s.different (sym e)) (s.b_had ∙ ap Some f.0) (s.a_had ∙ ap Some f.1))

        by_change : LeafChange (hushed leaf kept) s.x s.y s.x' s.y' → end ≡ crowd
        by_change (inl stay) =
            s.others_stay
            ∙ ap (λ x. slice_set (slice_set crowd s.a x) s.b s.y') stay.0
            ∙ ap (λ y. slice_set (slice_set crowd s.a s.x) s.b y) stay.1
            ∙ ap (λ c. slice_set c s.b s.y) (set_same crowd s.a s.x s.a_had)
            ∙ set_same crowd s.b s.y s.b_had
        by_change (inr m) = by_order m (hushed_move leaf kept m.number m.taken m.listed m.non_silent) m.followed

pub are_hushed : LeavesAreHushed
are_hushed = record {
  formed = hushed_formed;
  moves = λ leaf kept number t. (λ h. hushed_move leaf kept number t h.0 h.1, λ m. kept_move leaf kept number t m);
  steps = hushed_step;
  all = hushed_all;
  loud = λ leaf kept all. step_as leaf kept leaf (hushed leaf kept) (loud_change leaf kept all);
  dead = λ leaf kept crowd. (terminal_none leaf kept crowd, none_terminal leaf kept crowd);
}
