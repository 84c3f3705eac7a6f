use Rattle.std.proofs.Common.{◌≡◌, ℕ, ◌∙◌, List, [], ◌∷◌, ◌++◌, ap}
use Rattle.std.specs.Prelude.{ℤ, ◌+ℤ◌}
use Rattle.cert_linear.specs.declared.sum.Entry.{Entry}
use Rattle.cert_linear.specs.Sums.{blank, entry_at, rest_at, AreTidy, AreRests}
use Rattle.cert_linear.proofs.Entries.{push-at, tidy-push, rests-push}
use Rattle.cert_linear.proofs.sum.Sum.reach.Goals as goal

-- one more blank entry
same_sums : (entries after : List Entry) (rests : List ℤ) (q : ℕ) → after ≡ entries ++ blank ∷ [] → ((entry_at after q).sum +ℤ rest_at rests q) ≡ ((entry_at entries q).sum +ℤ rest_at rests q)
same_sums entries after rests q is =
    rw is (ap (λ (f : Entry). f.sum +ℤ rest_at rests q) (push-at entries q))

still_tidy : (entries after : List Entry) (touched : List ℕ) (rests : List ℤ) → after ≡ entries ++ blank ∷ [] → AreTidy entries touched × AreRests entries rests → AreTidy after touched × AreRests after rests
still_tidy entries after touched rests is t = rw is (tidy-push entries touched t.0, rests-push entries rests t.1)

pub loop-self-preserved : goal.loop-self-preserved
loop-self-preserved c = record {
  same = λ q. same_sums c.loop-self.self.entries.items c.push.new.self.items c.loop-self.self.rests.items q c.in_ok-push.ensures.items ∙ c.loop-self.invariant.same q;
  constant = c.loop-self.invariant.constant;
  tidy = still_tidy c.loop-self.self.entries.items c.push.new.self.items c.loop-self.self.touched.items c.loop-self.self.rests.items c.in_ok-push.ensures.items c.loop-self.invariant.tidy;
}
