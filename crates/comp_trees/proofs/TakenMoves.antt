-- The coefficients of the fact that some move was taken that passes a test.
use Rattle.std.proofs.Common.{◌≡◌, ◌∙◌, ℕ, ◌+◌, ◌<◌, Bool, ◌++◌, length, map, get_or, ap, sym, arith}
use Rattle.std.specs.Prelude.{ℤ, pos}
use Rattle.std.proofs.Math.ListN.{get_or-append}
use Rattle.std.proofs.lemmas.List.{length-map, get_or-append-add, get_or-map, get_or_past, length-replicate, get_or-replicate}
use Rattle.pop_leaf.specs.declared.leaf.Move.{Move}
use Rattle.pop_leaf.specs.LeafModel.{LeafModel}
use Rattle.cert_base.specs.Rows.{terms_from, zeros}
use Rattle.cert_base.specs.FactsAndCases.{indicator, some_taken_fact}
use Rattle.cert_base.specs.ClosingTests.{coefficient_in}
use Rattle.cert_base.specs.WeightedSums.{coefficient}
use Rattle.cert_base.proofs.FlowSums.{coefficient-dense}

before_moves : (leaf : LeafModel) (f : Move → ℤ) (x : ℕ) → x < length leaf.inputs + length leaf.states → coefficient_in (terms_from 0 (zeros (length leaf.inputs + length leaf.states) ++ map f leaf.moves)) x ≡ pos 0
before_moves leaf f x l =
    let n = length leaf.inputs + length leaf.states in
    coefficient-dense (zeros n ++ map f leaf.moves) x
    ∙ get_or-append (zeros n) (map f leaf.moves) (pos 0) x (omega (arith, length-replicate n (pos 0)))
    ∙ get_or-replicate n x (pos 0) (pos 0) l

part_of_moves : (leaf : LeafModel) (f : Move → ℤ) (t : ℕ) → coefficient_in (terms_from 0 (zeros (length leaf.inputs + length leaf.states) ++ map f leaf.moves)) (length leaf.inputs + length leaf.states + t) ≡ get_or (map f leaf.moves) t (pos 0)
part_of_moves leaf f t =
    let n = length leaf.inputs + length leaf.states in
    coefficient-dense (zeros n ++ map f leaf.moves) (n + t)
    ∙ ap (λ m. get_or (zeros n ++ map f leaf.moves) (m + t) (pos 0)) (sym (length-replicate n (pos 0)))
    ∙ get_or-append-add (zeros n) (map f leaf.moves) t (pos 0)

pub taken-before : (leaf : LeafModel) (test : Move → Bool) (x : ℕ) → x < length leaf.inputs + length leaf.states → coefficient x (some_taken_fact leaf test) ≡ pos 0
taken-before leaf test x l = before_moves leaf (λ t. indicator (test t)) x l

pub taken-move : (leaf : LeafModel) (test : Move → Bool) (t : ℕ) (d : Move) → t < length leaf.moves → coefficient (length leaf.inputs + length leaf.states + t) (some_taken_fact leaf test) ≡ indicator (test (get_or leaf.moves t d))
taken-move leaf test t d l = part_of_moves leaf (λ t. indicator (test t)) t ∙ get_or-map (λ t. indicator (test t)) leaf.moves t d (pos 0) l

pub taken-past : (leaf : LeafModel) (test : Move → Bool) (j : ℕ) → coefficient (length leaf.inputs + length leaf.states + (length leaf.moves + j)) (some_taken_fact leaf test) ≡ pos 0
taken-past leaf test j =
    part_of_moves leaf (λ t. indicator (test t)) (length leaf.moves + j)
    ∙ get_or_past (map (λ t. indicator (test t)) leaf.moves) (length leaf.moves + j) (pos 0) (omega (arith, length-map leaf.moves (λ t. indicator (test t))))
