use Rattle.std.proofs.Common.{◌≡◌, ◌∙◌, ◌<◌, length, get_or, subst, ap, sym, arith, rules, w64, SFits}
use Rattle.std.specs.Prelude.{pos}
use Rattle.std.proofs.lemmas.Int.{to_z-of_z}
use Rattle.comp_trees.proofs.Members.{map_range_push}
use Rattle.comp_powers_leaf.specs.PowersLeaf.{IsRole, place, start_of, coefficient_of}
use Rattle.comp_powers_leaf.proofs.Formed.{start-valid}
use Rattle.comp_powers_leaf.proofs.leaf.inputs.Goals as goal

pub place_in-requires-clause-there : goal.place_in-requires-clause-there
place_in-requires-clause-there c =
    let l : c.loop-j.j < length c.args.coefs.now = omega (arith, c.loop-j-test.true) in
    let z = get_or c.args.coefs.now c.from.result (pos 0) in
    let fits : SFits w64 z = search rules in
    let at : c.from.result ≡ c.loop-j.j = c.from.ensures in
    let same = ap (start_of c.args.k c.loop-j.j) (to_z-of_z w64 z fits ∙ ap (coefficient_of c.args.coefs.now) at) in
    subst (IsRole c.args.coefs.now c.args.k) (sym (c.start.ensures ∙ same)) (start-valid c.args.coefs.now (pos 0) c.args.k c.loop-j.j l)

pub loop-j-preserved : goal.loop-j-preserved
loop-j-preserved c =
    let z = get_or c.args.coefs.now c.from.result (pos 0) in
    let fits : SFits w64 z = search rules in
    let at : c.from.result ≡ c.loop-j.j = c.from.ensures in
    let same = ap (start_of c.args.k c.loop-j.j) (to_z-of_z w64 z fits ∙ ap (coefficient_of c.args.coefs.now) at) in
    map_range_push (λ j. place c.args.coefs.now c.args.k (start_of c.args.k j (coefficient_of c.args.coefs.now j))) c.loop-j.j c.loop-j.inputs.items c.push.new.self.items c.place_in.result c.loop-j.invariant
    (c.place_in.ensures ∙ ap (place c.args.coefs.now c.args.k) (c.start.ensures ∙ same)) c.in_ok-push.ensures.items
