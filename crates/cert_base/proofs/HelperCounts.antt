-- How many of the first items of a list pass a test.
use Rattle.std.proofs.Common.{◌≡◌, ℕ, ◌+◌, Bool, true, false, List, take, get_or, ap, arith}
use Rattle.std.specs.Prelude.{Some, slice_get, count_by}
use Rattle.std.proofs.lemmas.List.Sums.{count_by_more_yes, count_by_more_no}
use Rattle.std.proofs.lemmas.Option.{slice_get_within, get_or_from_slice_get}
use mir.Val.{bool_byte}

-- one item more
pub count_more : {A : Type 0} (test : A → Bool) (xs : List A) (i : ℕ) (x : A) (counted more : ℕ) → slice_get xs i ≡ Some x → more ≡ bool_byte (test x) → counted ≡ count_by test (take i xs) → counted + more ≡ count_by test (take (i + 1) xs)
count_more test xs i x counted more h m e = go (test x) (ap test (get_or_from_slice_get xs i x x h)) m
  where
    go : (b : Bool) → test (get_or xs i x) ≡ b → more ≡ bool_byte b → counted + more ≡ count_by test (take (i + 1) xs)
    go true t n =
        let all = count_by_more_yes test xs i x (slice_get_within xs i x h) t in omega (arith, all, n, e)
    go false t n =
        let all = count_by_more_no test xs i x (slice_get_within xs i x h) t in omega (arith, all, n, e)
