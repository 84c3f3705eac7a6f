-- Where the layers fail, by what the searches found.
use Rattle.std.proofs.Common.{◌≡◌, ℕ, ◌≤◌, List, length, arith}
use Rattle.std.specs.Prelude.{Option, Some, None}
use Rattle.std.proofs.lemmas.Option.{slice_get_within}
use Rattle.cert_base.specs.declared.limits.TheConstants.{LAYER_LIMIT}
use Rattle.pop_leaf.specs.LeafModel.{LeafModel, IsLeaf}
use Rattle.pop_leaf.specs.FirstFault.{first_below}
use Rattle.pop_leaf.proofs.FirstFault.{none_below}
use Rattle.cert_base.specs.declared.layer.Layer.{Layer}
use Rattle.cert_layers.specs.LayerFaults.{ListedAt, LowerAt, SleepsAt, Each, IsFirstFailing}
use Rattle.cert_layers.specs.MoveLayers.{AreMoveLayers}
use Rattle.cert_layers.specs.Search.{is_unlisted_move, not_lower}
use Rattle.cert_layers.specs.Waking.{IsWakingTable, FindsWaking}
use Rattle.cert_layers.proofs.Firsts.{first_below-Some}
use Rattle.cert_layers.proofs.NotLower.{unlisted-no, unlisted-yes, not_lower-no, not_lower-yes}
use Rattle.cert_layers.proofs.Woken.{sleeps-no, sleeps-yes}

module _ (leaf : LeafModel) (layers : List Layer) (layer_of_move : List (Option ℕ)) (p : AreMoveLayers leaf layers layer_of_move) where
  pub all_listed : first_below (length leaf.moves) (is_unlisted_move leaf layer_of_move) ≡ None → Each (ListedAt leaf layers)
  all_listed e n t move loud = unlisted-no leaf layers layer_of_move n p ((none_below (length leaf.moves) (is_unlisted_move leaf layer_of_move)).0 e n (slice_get_within leaf.moves n t move)) t move loud

  pub first_not_listed : (n : ℕ) → first_below (length leaf.moves) (is_unlisted_move leaf layer_of_move) ≡ Some n → IsFirstFailing (ListedAt leaf layers) n
  first_not_listed n e =
      let f = first_below-Some (length leaf.moves) (is_unlisted_move leaf layer_of_move) n e in
      (unlisted-yes leaf layers layer_of_move n p f.1, λ k l. unlisted-no leaf layers layer_of_move k p (f.2 k l))

  pub all_lower : first_below (length leaf.moves) (not_lower leaf layers layer_of_move) ≡ None → Each (LowerAt leaf layers)
  all_lower e n i t at number =
      let within = slice_get_within leaf.moves at.number t at.move_is in
      not_lower-no leaf layers layer_of_move n p ((none_below (length leaf.moves) (not_lower leaf layers layer_of_move)).0 e n (omega (arith, within, number))) i t at number

  pub first_not_lower : (n : ℕ) → first_below (length leaf.moves) (not_lower leaf layers layer_of_move) ≡ Some n → IsFirstFailing (LowerAt leaf layers) n
  first_not_lower n e =
      let f = first_below-Some (length leaf.moves) (not_lower leaf layers layer_of_move) n e in
      (not_lower-yes leaf layers layer_of_move n p f.1, λ k l. not_lower-no leaf layers layer_of_move k p (f.2 k l))

  module _ (table : List ℕ) (formed : IsLeaf leaf) (h : IsWakingTable leaf layer_of_move (length leaf.moves) table) (small : length layers ≤ LAYER_LIMIT) where
    pub all_asleep : FindsWaking leaf layer_of_move table None → Each (λ n. Each (SleepsAt leaf layers n))
    all_asleep none n m = sleeps-no leaf layers layer_of_move table formed p h small n m (none n m)

    pub first_woken : (n m : ℕ) → FindsWaking leaf layer_of_move table (Some (n, m)) → IsFirstFailing (λ t. Each (SleepsAt leaf layers t)) n × IsFirstFailing (SleepsAt leaf layers n) m
    first_woken n m f = (
      (
        (λ each. sleeps-yes leaf layers layer_of_move table formed p h small n m f.0.0 (each m)),
        (λ k l j. sleeps-no leaf layers layer_of_move table formed p h small k j (f.1 k l j)),
      ),
      (sleeps-yes leaf layers layer_of_move table formed p h small n m f.0.0, λ j l. sleeps-no leaf layers layer_of_move table formed p h small n j (f.0.1 j l)),
    )
