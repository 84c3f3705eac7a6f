-- A list's text, item by item.
use Rattle.std.proofs.Common.{◌≡◌, ℕ, ◌+◌, ◌<◌, List, ◌++◌, length, drop, get_or, sym, ap, ◌∙◌, append_assoc, rules}
use Rattle.std.specs.Prelude.{Bool, true, nat_lt}
use Rattle.std.proofs.lemmas.List.{at_drop_more}
use Rattle.serde_json.specs.Data.{Data, null}
use Rattle.serde_json.specs.View.{items_of}
use Rattle.serde_json.specs.Written.{compact_text, items_text, comma_if}

-- what is still to be written of a list, from item i on
abbrev pub left_of : List Data → ℕ → List ℕ
left_of items i = items_text (nat_lt 0 i) (items_of (drop i items))

pub one_more : (items : List Data) (i : ℕ) (later : Bool) (whole t0 t1 t2 : List ℕ) → i < length items → later ≡ nat_lt 0 i → t0 ++ left_of items i ≡ whole
    → t1 ≡ t0 ++ comma_if later → t2 ≡ t1 ++ compact_text (get_or items i null) → t2 ++ left_of items (i + 1) ≡ whole
one_more items i later whole t0 t1 t2 less is so_far comma item =
    ap (λ t. t ++ left_of items (i + 1)) (item ∙ ap (λ t. t ++ x) (comma ∙ ap (λ b. t0 ++ comma_if b) is))
    ∙ append_assoc (t0 ++ comma_if (nat_lt 0 i)) x (left_of items (i + 1))
    ∙ append_assoc t0 (comma_if (nat_lt 0 i)) (x ++ left_of items (i + 1))
    ∙ ap (λ (t : List ℕ). t0 ++ (comma_if (nat_lt 0 i) ++ (x ++ t))) (ap (λ b. items_text b (items_of (drop (i + 1) items))) positive)
    ∙ ap (λ (t : List ℕ). t0 ++ t) (sym (at_drop_more (λ ds. items_text (nat_lt 0 i) (items_of ds)) items i null less))
    ∙ so_far
  where
    x : List ℕ
    x = compact_text (get_or items i null)

    positive : nat_lt 0 (i + 1) ≡ true
    positive = search rules
