use Rattle.std.proofs.Common.{◌≡◌, ap, ◌∙◌}
use Rattle.std.specs.Prelude.{pos}
use Rattle.std.proofs.lemmas.List.{get_or_default}
use Rattle.cert_linear.specs.Sums.{rest_at}
use Rattle.cert_linear.proofs.Coefficients.{rest_fits, rest_in_range}
use Rattle.cert_linear.proofs.Entries.{rest_grows}
use Rattle.cert_linear.proofs.sum.Sum.enter_rest.Goals as goal

pub returns-clause-terms : goal.returns-clause-terms
returns-clause-terms c =
    let is : c.index_mut.result.now ≡ rest_at c.reach_rest.new.self.rests.items c.args.variable = c.index_mut.ensures.value ∙ get_or_default c.reach_rest.new.self.rests.items c.args.variable c.index_mut.result.now (pos 0) c.in_ok-reach_rest.ensures.reached in
    let same = is ∙ c.reach_rest.ensures.same c.args.variable in
    let fits = rest_fits c.index_mut.result.now c.args.by (rw same c.requires.room) c.requires.small in
    let grows = rest_grows c.args.self.now.entries.items c.reach_rest.new.self.entries.items c.args.self.now.rests.items c.reach_rest.new.self.rests.items c.args.variable c.index_mut.result.now c.args.by _ c.requires.tidy.1 (ap (λ v. v.items) c.reach_rest.ensures.entries) c.reach_rest.ensures.same c.in_ok-reach_rest.ensures.reached is fits c.requires.touched c.requires.small c.requires.room in
    grows.0

pub returns-clause-tidy : goal.returns-clause-tidy
returns-clause-tidy c =
    let is : c.index_mut.result.now ≡ rest_at c.reach_rest.new.self.rests.items c.args.variable = c.index_mut.ensures.value ∙ get_or_default c.reach_rest.new.self.rests.items c.args.variable c.index_mut.result.now (pos 0) c.in_ok-reach_rest.ensures.reached in
    let same = is ∙ c.reach_rest.ensures.same c.args.variable in
    let fits = rest_fits c.index_mut.result.now c.args.by (rw same c.requires.room) c.requires.small in
    let grows = rest_grows c.args.self.now.entries.items c.reach_rest.new.self.entries.items c.args.self.now.rests.items c.reach_rest.new.self.rests.items c.args.variable c.index_mut.result.now c.args.by _ c.requires.tidy.1 (ap (λ v. v.items) c.reach_rest.ensures.entries) c.reach_rest.ensures.same c.in_ok-reach_rest.ensures.reached is fits c.requires.touched c.requires.small c.requires.room in
    (rw (c.reach_rest.ensures.entries, c.reach_rest.ensures.touched) c.requires.tidy.0, grows.1)

pub overflow_add-index_mut : goal.overflow_add-index_mut
overflow_add-index_mut c =
    let is : c.index_mut.result.now ≡ rest_at c.reach_rest.new.self.rests.items c.args.variable = c.index_mut.ensures.value ∙ get_or_default c.reach_rest.new.self.rests.items c.args.variable c.index_mut.result.now (pos 0) c.in_ok-reach_rest.ensures.reached in
    let same = is ∙ c.reach_rest.ensures.same c.args.variable in
    rest_in_range c.index_mut.result.now c.args.by (rw same c.requires.room) c.requires.small
