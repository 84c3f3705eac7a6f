use Rattle.std.proofs.Common.{◌∙◌, ap, rules, w64, SFits}
use Rattle.std.proofs.lemmas.Int.{to_z-of_z}
use Rattle.comp_powers_leaf.specs.PowersLeaf.{hub_of, lacking}
use Rattle.comp_powers_leaf.proofs.Building.{helpers_as}
use Rattle.comp_powers_leaf.proofs.leaf.own_helpers.Goals as goal

pub returns : goal.returns
returns c =
    let fits : SFits w64 c.args.bound = search rules in
    let same = to_z-of_z w64 c.args.bound fits in
    helpers_as c.args.coefs.now c.args.bound c.args.k c.lack.result c.place_in-hub.result c.place_in-nothing.result c.hub.result c.in_ok-places.places.items c.as_slice.result.now c.extend_from_slice.new.self.items
    (c.hub.ensures ∙ ap hub_of same) c.place_in-hub.ensures c.place_in-nothing.ensures (c.lack.ensures ∙ ap (lacking c.args.k) same) c.in_ok-places.ensures.items (c.as_slice.ensures.value ∙ c.in_ok-bits.ensures) c.in_ok-extend_from_slice.ensures.items
