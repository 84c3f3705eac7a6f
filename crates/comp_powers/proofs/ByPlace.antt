-- A list by its places.
use Rattle.std.proofs.Common.{◌≡◌, ◌∙◌, ◌<◌, List, length, map, get_or, ap, sym, arith}
use Rattle.std.specs.Prelude.{Some}
use Rattle.std.specs.List.{range_with_len}
use Rattle.std.proofs.lemmas.Option.{slice_get-get_or}
use Rattle.std.proofs.lemmas.List.{length-map, get_or-map}
use Rattle.std.proofs.lemmas.List.FromFn.{length-map-range_with_len}
use Rattle.base_laws.proofs.Lists.{same_lists}
use Rattle.base_laws.proofs.Ranges.{get-range}

pub map_at : {A B : Type 0} (f : A → B) (xs : List A) (d : A) → map (λ q. f (get_or xs q d)) (range_with_len 0 (length xs)) ≡ map f xs
map_at f xs d =
    same_lists (map (λ q. f (get_or xs q d)) (range_with_len 0 (length xs))) (map f xs)
    (length-map-range_with_len (λ q. f (get_or xs q d)) 0 (length xs) ∙ sym (length-map xs f))
    (λ i l. (
    let m : i < length xs = omega (arith, l, length-map-range_with_len (λ q. f (get_or xs q d)) 0 (length xs)) in
    let k : i < length (map f xs) = omega (arith, m, length-map xs f) in
    get-range (λ q. f (get_or xs q d)) (length xs) i m
    ∙ sym (slice_get-get_or (map f xs) i (f d) k ∙ ap Some (get_or-map f xs i d (f d) m))))
