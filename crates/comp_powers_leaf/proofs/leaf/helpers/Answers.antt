use Rattle.std.proofs.Common.{◌∙◌, ap, rules, w64, SFits}
use Rattle.std.specs.Prelude.{map}
use Rattle.std.proofs.lemmas.Int.{to_z-of_z}
use Rattle.comp_powers_leaf.specs.PowersLeaf.{place, helper_roles}
use Rattle.comp_powers_leaf.proofs.Building.{spares_as}
use Rattle.comp_powers_leaf.proofs.leaf.helpers.Goals as goal

pub returns : goal.returns
returns c =
    let fits : SFits w64 c.args.bound = search rules in
    let same = to_z-of_z w64 c.args.bound fits in
    spares_as c.args.coefs.now c.args.bound c.args.k c.args.spare c.place_in-nothing.result c.in_ok-places.places.items c.as_slice.result.now c.extend_from_slice.new.self.items
    (c.in_ok-places.ensures ∙ ap (λ b. map (place c.args.coefs.now c.args.k) (helper_roles b c.args.k)) same) c.place_in-nothing.ensures (search rules) c.in_ok-extend_from_slice.ensures.items
