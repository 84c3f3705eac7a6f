use Rattle.std.proofs.Common.{◌≡◌, refl, ap, ◌∙◌, rules, to_z, of_z, w32}
use Rattle.std.specs.Prelude.{◌+ℤ◌}
use Rattle.std.proofs.lemmas.Int.{to_z-of_z}
use Rattle.std.proofs.lemmas.List.{get_or_default}
use mir.Val.{SFits}
use mir.Syntax.{w128}
use Rattle.cert_linear.specs.declared.sum.Entry.{Entry}
use Rattle.cert_linear.specs.Sums.{blank, entry_at}
use Rattle.cert_linear.proofs.Entries.{coefficient_grows}
use Rattle.cert_linear.proofs.sum.Sum.enter_touched.Goals.{After-self-1}
use Rattle.cert_linear.proofs.sum.Sum.enter_touched.Goals as goal

-- the entry that is written is the variable's, and its new sum is right
grown : (c : After-self-1) → (c.index_mut.result.now ≡ entry_at c.args.self.now.entries.items c.args.variable)
    × (to_z w32 (of_z w32 c.in-Some.sum) ≡ (c.index_mut.result.now.sum +ℤ c.args.by))
grown c =
    let read : c.index.result.now ≡ entry_at c.args.self.now.entries.items c.args.variable = c.index.ensures ∙ get_or_default c.args.self.now.entries.items c.args.variable c.index.result.now blank c.requires.reached in
    let is : c.index_mut.result.now ≡ entry_at c.args.self.now.entries.items c.args.variable = c.index_mut.ensures.value ∙ get_or_default c.args.self.now.entries.items c.args.variable c.index_mut.result.now blank c.requires.reached in
    let fits : SFits w32 c.in-Some.sum = search rules in
    let here : SFits w32 c.index.result.now.sum = search rules in
    let added : c.in-Some.sum ≡ (c.index.result.now.sum +ℤ c.args.by) = rw (to_z-of_z w32 c.index.result.now.sum here, to_z-of_z w128 c.args.by c.ranges.by) at c.in-Some.ensures in
    let sum : c.in-Some.sum ≡ ((entry_at c.args.self.now.entries.items c.args.variable).sum +ℤ c.args.by) = added ∙ ap (λ (f : Entry). f.sum +ℤ c.args.by) read in
    (is, to_z-of_z w32 c.in-Some.sum fits ∙ rw (ap (λ (f : Entry). f.sum) is) sum)

pub returns-in-Some-clause-terms : goal.returns-in-Some-clause-terms
returns-in-Some-clause-terms c =
    let g = grown c in
    (coefficient_grows c.args.self.now c.args.variable c.index_mut.result.now _ c.args.by _ c.requires.tidy c.requires.reached g.0 (ap (λ (f : Entry). f.touched) g.0 ∙ c.requires.touched) refl g.1).1

pub returns-in-Some-clause-tidy : goal.returns-in-Some-clause-tidy
returns-in-Some-clause-tidy c =
    let g = grown c in
    (coefficient_grows c.args.self.now c.args.variable c.index_mut.result.now _ c.args.by _ c.requires.tidy c.requires.reached g.0 (ap (λ (f : Entry). f.touched) g.0 ∙ c.requires.touched) refl g.1).0
