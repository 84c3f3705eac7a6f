use Rattle.std.proofs.Common.{◌≡◌, ◌<◌, true, false, not, inl, inr, sym, subst, ◌∙◌, length}
use Rattle.std.specs.Prelude.{List, All, None}
use Rattle.std.proofs.lemmas.List.Elements.{All-filter}
use Rattle.cert_base.specs.declared.fact.Term.{Term}
use Rattle.cert_base.specs.ClosingTests.{all_named, may_add, sum_of}
use Rattle.cert_linear.specs.Conditions.{AreMultipliers, AreNamed}
use Rattle.cert_linear.specs.Kept.{leads, Keeps}
use Rattle.cert_linear.specs.Sums.{IsSum, SumsUp}
use Rattle.cert_linear.proofs.Parts.{keeps_true, sums_true, parts_close, part_fails, part_multipliers, leads_below}
use Rattle.cert_linear.proofs.tally.Tally.closes.Goals as goal

pub keep-requires-clause-stable : goal.keep-requires-clause-stable
keep-requires-clause-stable c =
    subst (All (λ t. t.at < c.args.stable)) (sym (c.as_slice.ensures.value ∙ c.in_ok-lead.ensures)) (leads_below c.args.stable c.args.terms.now)

pub keep-requires-clause-named : goal.keep-requires-clause-named
keep-requires-clause-named c =
    subst (AreNamed (length c.args.facts.now)) (sym (c.as_slice.ensures.value ∙ c.in_ok-lead.ensures)) (All-filter (leads c.args.stable) (λ t. t.at < length c.args.facts.now) c.args.terms.now c.requires.named)

pub keep-requires-clause-multipliers : goal.keep-requires-clause-multipliers
keep-requires-clause-multipliers c =
    subst AreMultipliers (sym (c.as_slice.ensures.value ∙ c.in_ok-lead.ensures)) (part_multipliers (leads c.args.stable) c.args.terms.now c.requires.multipliers)

pub sum_up-requires-clause-named : goal.sum_up-requires-clause-named
sum_up-requires-clause-named c =
    subst (AreNamed (length c.args.facts.now)) (sym (c.as_slice-2.ensures.value ∙ c.in_ok-rest.ensures)) (All-filter (λ t. not (leads c.args.stable t)) (λ t. t.at < length c.args.facts.now) c.args.terms.now c.requires.named)

pub sum_up-requires-clause-multipliers : goal.sum_up-requires-clause-multipliers
sum_up-requires-clause-multipliers c =
    subst AreMultipliers (sym (c.as_slice-2.ensures.value ∙ c.in_ok-rest.ensures)) (part_multipliers (λ t. not (leads c.args.stable t)) c.args.terms.now c.requires.multipliers)

pub returns-then-not-branch-clause-closes : goal.returns-then-not-branch-clause-closes
returns-then-not-branch-clause-closes c =
    let facts = c.args.facts.now in
    let front = c.as_slice.ensures.value ∙ c.in_ok-lead.ensures in
    let fails : all_named may_add facts c.as_slice.result.now ≡ false = subst (Keeps facts c.as_slice.result.now c.keep.new.self) c.if-not-branch.true c.in_ok-keep.ensures.keeps in
    part_fails facts (leads c.args.stable) c.args.terms.now (inl (subst (λ (ts : List Term). all_named may_add facts ts ≡ false) front fails))

pub returns-then-not-branch-2-clause-closes : goal.returns-then-not-branch-2-clause-closes
returns-then-not-branch-2-clause-closes c =
    let facts = c.args.facts.now in
    let back = c.as_slice-2.ensures.value ∙ c.in_ok-rest.ensures in
    let fails : all_named may_add facts c.as_slice-2.result.now ≡ false = subst (SumsUp None facts c.as_slice-2.result.now c.sum_up.new.sum) c.if-not-branch-2.true c.in_ok-sum_up.ensures.sum in
    part_fails facts (leads c.args.stable) c.args.terms.now (inr (subst (λ (ts : List Term). all_named may_add facts ts ≡ false) back fails))

pub returns-clause-closes : goal.returns-clause-closes
returns-clause-closes c =
    let facts = c.args.facts.now in
    let tally = c.keep.new.self in
    let front = c.as_slice.ensures.value ∙ c.in_ok-lead.ensures in
    let back = c.as_slice-2.ensures.value ∙ c.in_ok-rest.ensures in
    let kept = keeps_true facts c.as_slice.result.now tally c.in_ok-keep.field-0 c.if-not-branch.false c.in_ok-keep.ensures.keeps ∙ front in
    let is = c.in_ok-keep.ensures.kept in
    let may = subst (λ (ts : List Term). all_named may_add facts ts ≡ true) kept is.may in
    let lead = subst (λ (ts : List Term). IsSum (sum_of facts ts) tally.lead) kept is.sum in
    let rest = sums_true facts c.as_slice-2.result.now c.sum_up.new.sum c.in_ok-sum_up.field-0 c.if-not-branch-2.false c.in_ok-sum_up.ensures.sum in
    parts_close facts (leads c.args.stable) c.args.terms.now c.is_negative_with.result tally.lead c.sum_up.new.sum may
    (subst (λ (ts : List Term). all_named may_add facts ts ≡ true) back rest.0) lead
    (subst (λ (ts : List Term). IsSum (sum_of facts ts) c.sum_up.new.sum) back rest.1)
    c.is_negative_with.ensures
