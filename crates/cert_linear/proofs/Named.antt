-- Steps of the closing tests.
use Rattle.std.proofs.Common.{◌≡◌, ℕ, ◌+◌, ◌<◌, ◌≤◌, ◌^◌, Bool, true, false, ◌&&◌, List, length, get_or, take, refl, sym, ◌∙◌, arith}
use Rattle.std.specs.Prelude.{ℤ, pos, negsuc, nat_abs, slice_get, Some}
use mir.Val.{SFits}
use mir.Syntax.{w64}
use Rattle.std.proofs.lemmas.List.Folds.{list_all_more, list_all_at}
use Rattle.std.proofs.lemmas.Option.{slice_get_read}
use Rattle.std.proofs.Math.Bool.{and-true}
use Rattle.cert_base.specs.declared.fact.Term.{Term}
use Rattle.cert_base.specs.declared.fact.Row.{Row}
use Rattle.cert_base.specs.declared.fact.Fact.{Fact}
use Rattle.cert_base.specs.ClosingTests.{times, row_of, scaled, all_named, may_have}
use Rattle.cert_linear.specs.Sums.{IsPlus}
use Rattle.cert_linear.specs.declared.sum.Sum.{Sum}

pub and_passed : (r e b : Bool) → r ≡ e → b ≡ true → r ≡ (e && b)
and_passed r e b same passes = same ∙ sym (rw passes (and-true e))

-- a named fact and its multiplier
pub named_at : (facts : List Fact) (t : Term) (fact : Fact) → t.at < length facts → fact ≡ get_or facts t.at fact → slice_get facts t.at ≡ Some fact
named_at facts t fact l e = slice_get_read facts (length facts) t.at fact refl l e

pub all_named_more : (may : ℤ → Fact → Bool) (facts : List Fact) (ts : List Term) (k : ℕ) (d : Term) (fact : Fact) → k < length ts → slice_get facts (get_or ts k d).at ≡ Some fact → may (get_or ts k d).by fact ≡ true → all_named may facts (take k ts) ≡ true → all_named may facts (take (k + 1) ts) ≡ true
all_named_more may facts ts k d fact l is passes before =
    let here : may_have may (get_or ts k d).by (slice_get facts (get_or ts k d).at) ≡ true = rw is passes in
    list_all_more (λ (t : Term). may_have may t.by (slice_get facts t.at)) ts k d l ∙ rw (before, here) refl

pub not_named : (may : ℤ → Fact → Bool) (facts : List Fact) (ts : List Term) (k : ℕ) (d : Term) (fact : Fact) → k < length ts → slice_get facts (get_or ts k d).at ≡ Some fact → may (get_or ts k d).by fact ≡ false → all_named may facts ts ≡ false
not_named may facts ts k d fact l is fails =
    list_all_at (λ (t : Term). may_have may t.by (slice_get facts t.at)) ts k d l (rw is fails)

pub scaled_plus : (facts : List Fact) (t : Term) (fact : Fact) (row : Row) (sum more : Sum) → slice_get facts t.at ≡ Some fact → row ≡ row_of fact → IsPlus (times t.by row) sum more → IsPlus (scaled t.by (slice_get facts t.at)) sum more
scaled_plus facts t fact row sum more is same plus = rw (is, ← same) plus

pub fits_word : (z : ℤ) → nat_abs z ≤ 2 ^ 40 → SFits w64 z
fits_word (pos n) l = record { sfits = omega arith }
fits_word (negsuc n) l = record { sfits = omega arith }
