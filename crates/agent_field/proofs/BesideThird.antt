-- Draws beside a third agent.
use Rattle.std.proofs.Common.{◌≡◌, ◌⊎◌, ℕ, ◌<◌, ◌≤◌, min, max, Bool, true, false, eqb, arith, subst, refl, inl, inr, ⊎_elim, ◌∷◌}
use Rattle.std.proofs.lemmas.Bool.{cases_lt}
use Rattle.agent_field.specs.Standing.{In, shard_of, pair_locks}
use Rattle.agent_field.specs.Steps.{without}
use Rattle.agent_field.specs.DrawLaws.{DrawLaws}
use Rattle.agent_field.proofs.Without.{in_without_back}

of_two : (low high s : ℕ) (one : Bool) → In s (pair_locks low high one) → (s ≡ low) ⊎ (s ≡ high)
of_two low high s true h = ⊎_elim (λ e. inl e) (λ (none : ⊥). absurd none) h
of_two low high s false h = ⊎_elim (λ e. inr e) (λ (rest : (s ≡ low) ⊎ ⊥). ⊎_elim (λ e. inl e) (λ (none : ⊥). absurd none) rest) h

-- the minimum of two numbers is one of them, and so is the maximum
of_pair : (p q s : ℕ) → (s ≡ min p q) ⊎ (s ≡ max p q) → (s ≡ p) ⊎ (s ≡ q)
of_pair p q s h =
    ⊎_elim
    (λ (l : p < q). ⊎_elim (λ (e : s ≡ min p q). inl (omega arith)) (λ (e : s ≡ max p q). inr (omega arith)) h)
    (λ (l : q ≤ p). ⊎_elim (λ (e : s ≡ min p q). inr (omega arith)) (λ (e : s ≡ max p q). inl (omega arith)) h)
    (cases_lt p q)

pub draw_laws : DrawLaws
draw_laws = record {
  third_known = λ k v a b c ticket x y x' y' z may not_a not_b. (
    record {
      pair = record {
        first = inr may.pair.first;
        second = inr may.pair.second;
        reacted = may.pair.reacted;
        due = may.pair.due;
        apart = may.pair.apart;
        room = may.pair.room;
      };
      exactly = may.exactly;
    },
    in_without_back a c z (without b ((c, z) ∷ v.known)) (in_without_back b c z ((c, z) ∷ v.known) (inl refl) not_b) not_a,
  );
  third_held = λ k v a b c x y x' y' held not_a not_b may.
      let s = shard_of k c in
      let p = shard_of k a in
      let q = shard_of k b in
      ⊎_elim
      {C = ⊥}
      (λ (e : s ≡ p). not_a e)
      (λ (e : s ≡ q). not_b e)
      (of_pair p q s (of_two (min p q) (max p q) s (eqb (min p q) (max p q)) (subst (In s) may.exactly held)));
}
