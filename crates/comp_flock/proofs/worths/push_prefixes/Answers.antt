use Rattle.std.proofs.Common.{◌≡◌, ◌∙◌, ◌-◌, ◌++◌, ap, sym, refl, arith}
use Rattle.std.proofs.lemmas.List.{append-nil}
use Rattle.comp_flock.specs.PrefixLeaf.{prefixes}
use Rattle.comp_flock.proofs.Building.{prefixes_more}
use Rattle.comp_flock.proofs.worths.push_prefixes.Goals as goal

pub loop-j-preserved : goal.loop-j-preserved
loop-j-preserved c =
    prefixes_more c.args.enough c.args.count c.loop-j.j (c.args.count - 1 - c.loop-j.j) c.args.worths.now.items c.loop-j.worths.items _ c.push_prefix.new.worths.items (omega arith) refl c.loop-j.invariant refl c.in_ok-push_prefix.ensures

pub returns : goal.returns
returns c =
    sym (append-nil c.loop-j.worths.items)
    ∙ ap (λ n. c.loop-j.worths.items ++ prefixes c.args.enough n) (let e : 0 ≡ c.args.count - c.loop-j.j = omega arith in e)
    ∙ c.loop-j.invariant
