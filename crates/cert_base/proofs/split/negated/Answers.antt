use Rattle.std.proofs.Common.{◌≡◌, ℕ, ◌+◌, ◌<◌, ◌≤◌, ◌∙◌, nat_abs, length, map, take, List, [], ◌∷◌, ◌++◌, neg_ℤ, ℤ, pos, ◌-ℤ◌, arith, ap, sym, refl, get_or, w64, to_z, of_z}
use Rattle.std.proofs.lemmas.Int.{ints, to_z-of_z, fits_signed_from_abs}
use Rattle.std.proofs.lemmas.List.{map_more, take_all}
use Rattle.cert_base.specs.declared.fact.Row.{Row}
use Rattle.cert_base.specs.declared.fact.Term.{Term}
use Rattle.cert_base.specs.declared.limits.TheConstants.{SIZE_LIMIT}
use Rattle.cert_base.specs.FactsAndCases.{negated_row}
use Rattle.cert_base.proofs.split.negated.Goals as goal

-- the code's number is the negated one
turned : (a : ℤ) → nat_abs a ≤ SIZE_LIMIT → to_z w64 (of_z w64 (pos 0 -ℤ to_z w64 (of_z w64 a))) ≡ neg_ℤ a
turned a small =
    let turn : pos 0 -ℤ to_z w64 (of_z w64 a) ≡ neg_ℤ a = rw (to_z-of_z w64 a (fits_signed_from_abs w64 a (omega arith))) (omega (arith, ints)) in
    rw turn (to_z-of_z w64 (neg_ℤ a) (fits_signed_from_abs w64 (neg_ℤ a) (omega (arith, ints))))

abbrev negated_term : Term → Term
negated_term t = record { at = t.at; by = neg_ℤ t.by }

abbrev blank : Term
blank = record { at = 0; by = pos 0 }

row_turned : (row : Row) (terms : List Term) (constant : ℤ) → terms ≡ map negated_term row.terms → constant ≡ neg_ℤ row.constant → record { terms = terms; constant = constant } ≡ negated_row row
row_turned row terms constant e f = rw (e, f) refl

pub returns : goal.returns
returns c =
    row_turned c.args.row.now c.from_vec.result _
    (c.from_vec.ensures ∙ c.loop-term.invariant ∙ ap (map negated_term) (take_all c.loop-term.term-index c.args.row.now.terms (rw (← c.as_slice-term-items.ensures) c.loop-term-test.false)))
    (turned c.args.row.now.constant c.requires.constant)

-- one term more
term_more : (now all : List Term) (i : ℕ) (before after : List Term) → now ≡ all → i < length now → ((k : ℕ) (d : Term) → k < length all → nat_abs (get_or all k d).by ≤ SIZE_LIMIT) → before ≡ map negated_term (take i all) → after ≡ before ++ record { at = (get_or now i blank).at; by = to_z w64 (of_z w64 (pos 0 -ℤ to_z w64 (of_z w64 (get_or now i blank).by))) } ∷ [] → after ≡ map negated_term (take (i + 1) all)
term_more now all i before after same within small b e =
    let l : i < length all = rw (← same) within in
    let f = rw same at e in
    f
    ∙ (ap (λ z. before ++ record { at = (get_or all i blank).at; by = z } ∷ []) (turned (get_or all i blank).by (small i blank l))
    ∙ (ap (λ ts. ts ++ negated_term (get_or all i blank) ∷ []) b
    ∙ sym (map_more negated_term all i blank l)))

pub loop-term-preserved : goal.loop-term-preserved
loop-term-preserved c =
    term_more c.as_slice-term-items.result.now c.args.row.now.terms c.loop-term.term-index c.loop-term.terms.items c.push.new.self.items c.as_slice-term-items.ensures c.loop-term-test.true c.requires.coefs c.loop-term.invariant c.in_ok-push.ensures.items
