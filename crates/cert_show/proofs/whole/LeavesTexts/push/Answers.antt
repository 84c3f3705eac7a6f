use Rattle.std.proofs.Common.{◌≡◌, ℕ, ◌<◌, List, ◌++◌, length, get_or, Some, sym, ap, subst, ◌∙◌, arith}
use Rattle.std.specs.Prelude.{OnOk, slice_get}
use Rattle.std.proofs.lemmas.Option.{slice_get-get_or, get_or_from_slice_get}
use Rattle.pop_leaf.specs.LeafModel.{LeafModel}
use Rattle.cert_base.specs.declared.stable.StablePart.{StablePart}
use Rattle.cert_show.specs.Lines.{text_of}
use Rattle.cert_show.specs.LeafLines.{leaf_lines}
use Rattle.cert_show.specs.Showable.{IsPartOf}
use Rattle.cert_show.proofs.whole.LeavesTexts.push.Goals as goal

-- the item that an index gives
item_at : (parts slice : List StablePart) (i : ℕ) (part : StablePart) → i < length parts → slice ≡ parts → part ≡ get_or slice i part → slice_get parts i ≡ Some part
item_at parts slice i part less same is =
    slice_get-get_or parts i part less ∙ ap (λ (p : StablePart). Some p) (ap (λ (ps : List StablePart). get_or ps i part) (sym same) ∙ sym is)

pub push_leaf-requires-clause-inputs : goal.push_leaf-requires-clause-inputs
push_leaf-requires-clause-inputs c =
    let net = c.args.self.now.net.now in
    let leaf = c.leaf-leaf.result.now in
    let is = get_or_from_slice_get net.leaves c.args.i leaf leaf c.leaf-leaf.ensures in
    ap length c.var_names.ensures.names
    ∙ sym (subst (λ (l : LeafModel). length l.inputs ≡ length net.variables) is (c.var_names.ensures.formed.inputs c.args.i leaf c.requires.within))

pub push_leaf-requires-clause-part : goal.push_leaf-requires-clause-part
push_leaf-requires-clause-part c =
    let leaf = c.leaf-leaf.result.now in
    let part = c.index-as_slice-i.result in
    let parts = c.args.self.now.proof.now.leaves in
    let at = item_at parts c.as_slice.result.now c.args.i part (omega (arith, c.requires.within, c.requires.can.one_each)) c.as_slice.ensures c.index-as_slice-i.is in
    subst (λ (names : List (List ℕ)). IsPartOf (length names) leaf part) (sym c.var_names.ensures.names) (c.requires.can.parts c.args.i leaf part c.leaf-leaf.ensures at)

pub returns : goal.returns
returns c =
    let leaf = c.leaf-leaf.result.now in
    let part = c.index-as_slice-i.result in
    let parts = c.args.self.now.proof.now.leaves in
    let at = item_at parts c.as_slice.result.now c.args.i part (omega (arith, c.requires.within, c.requires.can.one_each)) c.as_slice.ensures c.index-as_slice-i.is in
    let named : OnOk c.push_leaf.result (c.push_leaf.new.out.items ≡ c.args.out.now.items ++ text_of (leaf_lines c.args.self.now.net.now.variables c.args.i (Some leaf) (Some part))) =
    subst (λ (ns : List (List ℕ)). OnOk c.push_leaf.result (c.push_leaf.new.out.items ≡ c.args.out.now.items ++ text_of (leaf_lines ns c.args.i (Some leaf) (Some part)))) c.var_names.ensures.names c.push_leaf.ensures in
    rw (c.leaf-leaf.ensures, at) named
