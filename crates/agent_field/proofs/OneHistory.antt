-- The field stands at one history only.
use Rattle.std.proofs.Common.{◌≡◌, ℕ, ◌+◌, ◌<◌, ◌≤◌, List, [], get_or, sym, ap, ◌∙◌, subst, ⊎_elim, arith, None}
use Rattle.std.proofs.lemmas.Bool.{cases_lt}
use Rattle.std.proofs.lemmas.List.{ext_get_or}
use mathlib.Core.Option.{Option, none, some}
use Rattle.pop_crowd.specs.declared.crowd.Meeting.{Meeting}
use Rattle.agent_field.specs.declared.view.Setup.{Setup}
use Rattle.agent_field.specs.declared.view.View.{View}
use Rattle.agent_field.specs.History.{logged, calls}
use Rattle.agent_field.specs.Standing.{In, IsUnfounded, StandsAt}
use Rattle.agent_field.specs.Kinds.{HasHistory}
use Rattle.agent_field.proofs.Arranged.{nobody, calls-are_true, calls_from-has}
use Rattle.agent_field.proofs.Closing.{some_value}
use Rattle.agent_field.proofs.Founding.{founder_word}

module _ (k : Setup) (words : List ℕ) (views : List View) (first second : List Meeting) (seat seat' : ℕ → Option ℕ) (s : StandsAt k words views first seat) (t : StandsAt k words views second seat') where
  -- a number's meetings are in its log, wherever that is
  same_calls : (w : ℕ) → calls w first ≡ calls w second
  same_calls w = go (seat w) (λ i. seat w)
    where
      go : (o : Option ℕ) → seat w ≡ o → calls w first ≡ calls w second
      go (some id) is =
          let sits = s.sits w id is in
          let f = s.each id sits.0 sits.1 sits.2 in
          let g = t.each id sits.0 sits.1 sits.2 in
          ap (λ (n : ℕ). calls n first) (sym sits.3) ∙ sym f.logs ∙ g.logs ∙ ap (λ (n : ℕ). calls n second) sits.3
      go none is =
          let id = s.grounded.0 in
          let at = s.sits 0 id s.grounded.1 in
          let v = at.0 in
          let f = (s.each id v at.1 at.2).first at.3 in
          let g = (t.each id v at.1 at.2).first at.3 in
          ⊎_elim
          (λ (early : w < v.next). let l = some_value (get_or v.taken w None) (f.dealt w early is) in sym (f.whole w l.0 l.1).2 ∙ (g.whole w l.0 l.1).2)
          (λ (late : v.next ≤ w). (f.fresh w late).1 ∙ sym (g.fresh w late).1)
          (cases_lt w v.next)

  same_history : first ≡ second
  same_history =
      ext_get_or nobody first second (sym s.clock ∙ t.clock)
      (λ i h.
      let m = get_or first i nobody in
      let e = logged (0 + i) m.a m.b m.changed in
      let found = calls-are_true second m.worker e (subst (In e) (same_calls m.worker) (calls_from-has m.worker 0 first i h (λ j. m.worker))) in
      sym (ap (λ (n : ℕ). get_or second n nobody) (let at : i ≡ 0 + i = omega arith in at) ∙ found.1))

pub one_history : (k : Setup) (words : List ℕ) (views : List View) (first second : List Meeting) → HasHistory k words views first → HasHistory k words views second → first ≡ second
one_history k words views first second g h =
    ⊎_elim
    (λ (un : IsUnfounded k words views × (first ≡ [])).
    ⊎_elim
    (λ (too : IsUnfounded k words views × (second ≡ [])). un.1 ∙ sym too.1)
    (λ (t : (seat : ℕ → Option ℕ) × StandsAt k words views second seat). absurd (let zero_word = founder_word k words views un.0 in let one_word = t.1.founded in omega arith))
    h)
    (λ (s : (seat : ℕ → Option ℕ) × StandsAt k words views first seat).
    ⊎_elim
    (λ (un : IsUnfounded k words views × (second ≡ [])). absurd (let zero_word = founder_word k words views un.0 in let one_word = s.1.founded in omega arith))
    (λ (t : (seat : ℕ → Option ℕ) × StandsAt k words views second seat). same_history k words views first second s.0 t.0 s.1 t.1)
    h)
    g
