use Rattle.std.proofs.Common.{◌≡◌, ◌*◌, ℕ, refl, subst, arith}
use Rattle.std.proofs.lemmas.Nat.{mul-le}
use Rattle.pop_leaf.proofs.Tables.{IsStill, still_more, still_table}
use Rattle.pop_leaf.proofs.moves.all_pairs.Goals as goal

pub overflow_mul-count : goal.overflow_mul-count
overflow_mul-count c =
    let few = mul-le c.args.states c.args.states 512 512 c.requires c.requires in record { fits = omega (arith, few) }

pub loop-k-preserved : goal.loop-k-preserved
loop-k-preserved c =
    rw c.in_ok-push.ensures.items (still_more c.args.states c.loop-k.k c.loop-k.pairs.items _ _ refl refl c.loop-k.invariant)

pub returns : goal.returns
returns c =
    let all : c.loop-k.k ≡ c.args.states * c.args.states = omega arith in
    still_table c.args.states c.loop-k.pairs.items (subst (λ (k : ℕ). IsStill c.args.states k c.loop-k.pairs.items) all c.loop-k.invariant)
