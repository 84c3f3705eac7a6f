-- Whether all moves that lead out of a set are kept.
use Rattle.std.proofs.Common.{◌≡◌, inl, inr, ℕ, true, false, ◌&&◌, List, length, refl, sym, ◌∙◌}
use Rattle.std.specs.Prelude.{Some, None, slice_get}
use Rattle.std.proofs.lemmas.Bool.{and_parts, and_from, false≢true}
use Rattle.std.proofs.lemmas.Option.{slice_get_within}
use Rattle.pop_leaf.specs.LeafModel.{LeafModel}
use Rattle.pop_leaf.specs.FirstFault.{first_below}
use Rattle.pop_leaf.proofs.FirstFault.{none_below}
use Rattle.cert_layers.specs.LayerFaults.{Each, IsFirstFailing}
use Rattle.cert_layers.specs.Search.{some_move}
use Rattle.cert_layers.proofs.Firsts.{first_below-Some}
use Rattle.cert_layers.proofs.NotLower.{some_move-true, some_move-false}
use Rattle.pop_leaf.specs.Hushed.{hushed}
use Rattle.pop_leaf.proofs.Kept.{listed_cases}
use Rattle.theory_sets.specs.Stays.{leads_out, IsGuardedAt}
use Rattle.theory_sets.proofs.Escapes.{escape_is, is_escape}
use Rattle.cert_sets.specs.SetTests.{is_silent_move, is_unguarded}
use Rattle.cert_sets.proofs.Woken.{other_silent, silent_other}

module _ (leaf : LeafModel) (moves set : List ℕ) where
  guarded_at : (n : ℕ) → is_unguarded leaf (hushed leaf moves) set n ≡ false → IsGuardedAt leaf moves set n
  guarded_at n e c = elim (listed_cases moves n) [
    | inl kept ↦ kept
    | inr other ↦ (
        let f = some_move-true (leads_out set) (slice_get leaf.moves n) (escape_is leaf set n c) in
        let t = f.0 in
        let none = some_move-false (λ v. leads_out set v && is_silent_move (slice_get (hushed leaf moves).moves n)) (slice_get leaf.moves n) t e f.1 f.2 in
        absurd (false≢true (sym none ∙ and_from (leads_out set t) (is_silent_move (slice_get (hushed leaf moves).moves n)) f.3 (other_silent leaf moves n t f.1 other)))
        )
  ]

  unguarded_at : (n : ℕ) → is_unguarded leaf (hushed leaf moves) set n ≡ true → IsGuardedAt leaf moves set n → ⊥
  unguarded_at n e guarded =
      let f = some_move-true (λ v. leads_out set v && is_silent_move (slice_get (hushed leaf moves).moves n)) (slice_get leaf.moves n) e in
      let t = f.0 in
      let parts = and_parts (leads_out set t) (is_silent_move (slice_get (hushed leaf moves).moves n)) f.3 in
      let out : some_move (leads_out set) (slice_get leaf.moves n) ≡ true = rw (f.1, f.2, parts.0) refl in
      silent_other leaf moves n t f.1 f.2 parts.1 (guarded (is_escape leaf set n out))

  pub all_guarded : first_below (length leaf.moves) (is_unguarded leaf (hushed leaf moves) set) ≡ None → Each (IsGuardedAt leaf moves set)
  all_guarded e n c =
      let f = some_move-true (leads_out set) (slice_get leaf.moves n) (escape_is leaf set n c) in
      guarded_at n ((none_below (length leaf.moves) (is_unguarded leaf (hushed leaf moves) set)).0 e n (slice_get_within leaf.moves n f.0 f.1)) c

  pub least_unguarded : (n : ℕ) → first_below (length leaf.moves) (is_unguarded leaf (hushed leaf moves) set) ≡ Some n → IsFirstFailing (IsGuardedAt leaf moves set) n
  least_unguarded n e =
      let f = first_below-Some (length leaf.moves) (is_unguarded leaf (hushed leaf moves) set) n e in
      (unguarded_at n f.1, λ k l. guarded_at k (f.2 k l))
