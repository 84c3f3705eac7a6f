-- Places of items that pass, one item more.
use Rattle.std.proofs.Common.{◌≡◌, ℕ, ◌+◌, min, Bool, List, [], ◌∷◌, ◌++◌, length, take, ap, sym, ◌∙◌, zero-add, arith}
use Rattle.std.specs.Prelude.{Some, slice_get, if◌then◌else◌}
use Rattle.std.proofs.lemmas.List.{length-take}
use Rattle.std.proofs.lemmas.Option.{slice_get_within}
use Rattle.cert_base.specs.FactsAndCases.{places_from}
use Rattle.base_laws.proofs.Lists.{take_one_more}
use Rattle.cert_base.proofs.Indicators.{places_from-one}

-- one more item is tested
pub places_more : {A : Type 0} (test : A → Bool) (xs : List A) (t : ℕ) (x : A) (passes : Bool) (before after : List ℕ) → slice_get xs t ≡ Some x → passes ≡ test x → before ≡ places_from 0 test (take t xs) → after ≡ before ++ (if passes then (t ∷ []) else []) → after ≡ places_from 0 test (take (t + 1) xs)
places_more test xs t x passes before after h p b e =
    let within = slice_get_within xs t x h in
    let long : 0 + length (take t xs) ≡ t = zero-add (length (take t xs)) ∙ length-take t xs ∙ (let m : min t (length xs) ≡ t = omega (arith, within) in m) in
    e
    ∙ ap (λ (c : Bool). before ++ (if c then (t ∷ []) else [])) p
    ∙ ap (λ ns. ns ++ (if test x then (t ∷ []) else [])) b
    ∙ ap (λ n. places_from 0 test (take t xs) ++ (if test x then (n ∷ []) else [])) (sym long)
    ∙ sym (ap (places_from 0 test) (take_one_more xs t x h) ∙ places_from-one 0 test (take t xs) x)
