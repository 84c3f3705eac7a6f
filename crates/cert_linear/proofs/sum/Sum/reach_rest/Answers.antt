use Rattle.std.proofs.Common.{◌≡◌, ℕ, zero, suc, ◌∙◌, List, [], ◌∷◌, ◌++◌, refl}
use Rattle.std.specs.Prelude.{ℤ, pos}
use Rattle.cert_linear.specs.Sums.{rest_at}
use Rattle.cert_linear.proofs.sum.Sum.reach_rest.Goals as goal

zero-push : (rests : List ℤ) (q : ℕ) → rest_at (rests ++ pos 0 ∷ []) q ≡ rest_at rests q
zero-push [] zero = refl
zero-push [] (suc q) = refl
zero-push (r ∷ rests) zero = refl
zero-push (r ∷ rests) (suc q) = zero-push rests q

same_rest : (rests after : List ℤ) (q : ℕ) → after ≡ rests ++ pos 0 ∷ [] → rest_at after q ≡ rest_at rests q
same_rest rests after q is = rw is (zero-push rests q)

pub loop-self-preserved : goal.loop-self-preserved
loop-self-preserved c = record {
  same = λ q. same_rest c.loop-self.self.rests.items c.push.new.self.items q c.in_ok-push.ensures.items ∙ c.loop-self.invariant.same q;
  entries = c.loop-self.invariant.entries;
  touched = c.loop-self.invariant.touched;
  constant = c.loop-self.invariant.constant;
}
