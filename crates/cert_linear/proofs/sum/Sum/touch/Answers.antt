use Rattle.std.proofs.Common.{◌≡◌, ℕ, ◌<◌, true, List, [], ◌∷◌, ◌++◌, length, refl, arith}
use Rattle.std.specs.Prelude.{ℤ, Contains, slice_set}
use Rattle.std.proofs.lemmas.List.Elements.{Contains-append_right}
use Rattle.cert_linear.specs.declared.sum.Entry.{Entry}
use Rattle.cert_linear.specs.Sums.{AreTidy, AreRests}
use Rattle.cert_linear.proofs.Entries.{tidy-list, tidy-set, rests-set}
use Rattle.cert_linear.proofs.sum.Sum.touch.Goals as goal

-- one more is listed, and its entry is marked
marked : (entries : List Entry) (touched after : List ℕ) (rests : List ℤ) (x : ℕ) (e : Entry) → AreTidy entries touched × AreRests entries rests → x < length entries → e.touched ≡ true → after ≡ touched ++ x ∷ [] → AreTidy (slice_set entries x e) after × AreRests (slice_set entries x e) rests
marked entries touched after rests x e t inside mark is =
    let there : Contains (touched ++ x ∷ []) x = Contains-append_right touched (x ∷ []) x (0, (let l : 0 < 1 = omega arith in l), refl) in
    (rw is (tidy-set entries (touched ++ x ∷ []) x e (tidy-list entries touched x t.0 inside) inside mark there), rests-set entries rests x e t.1 inside mark)

pub returns-clause-tidy : goal.returns-clause-tidy
returns-clause-tidy c =
    marked c.args.self.now.entries.items c.args.self.now.touched.items c.push.new.self.items c.args.self.now.rests.items c.args.variable _ c.requires.tidy c.requires.reached refl c.in_ok-push.ensures.items
