use Rattle.std.proofs.Common.{◌≡◌, ℕ, zero, suc, ◌+◌, ◌<◌, get_or, set, length, map, arith, sym, ap, ◌∙◌, subst, ⊎_elim, length-append, append_assoc, List, [], ◌∷◌, ◌++◌, Some, None, Option, get_or-set_same, get_or-set_other, rules}
use Rattle.std.proofs.lemmas.Bool.{cases_eq}
use Rattle.std.proofs.lemmas.List.{get_or_default, map-append, map-id}
use Rattle.std.proofs.lemmas.Iterator.Adapters.{YieldsList-from_vec}
use Rattle.std.proofs.lemmas.Iterator.Consumers.{YieldsList-turn, YieldsList-end}
use Rattle.std.specs.Prelude.{is_some, IsSome}
use Rattle.agent_field.specs.declared.view.Setup.{Setup}
use Rattle.agent_field.specs.declared.view.Logged.{Logged}
use Rattle.agent_field.specs.Seats.{IsSeatOf, seat_number, next_of, log_of, taken_of}
use Rattle.pair_workers.specs.declared.work.Worker.{Worker}
use Rattle.pair_workers.proofs.seats.take_in.Goals as goal

pub join-requires-clause-theirs : goal.join-requires-clause-theirs
join-requires-clause-theirs c =
    let init = c.args.workers.items in
    let worker = c.in-Some.worker in
    let all = YieldsList-from_vec {s = c.into_iter-worker-iterator.result} init (search rules) (search rules) in
    let turn = YieldsList-turn all c.workers.yielded c.workers.worker-iterator c.workers.yielded_by c.next.result c.next.new.self worker c.in-Some.is c.next.ensures.steps in
    subst (λ (v : Worker). IsSeatOf c.args.field.now v.seat) (sym turn.1) (c.requires.each (length c.workers.yielded) worker turn.0).0

pub workers-preserved : goal.workers-preserved
workers-preserved c =
    let was = c.workers.invariant in
    let f = c.args.field.now in
    let init = c.args.workers.items in
    let at = length c.workers.yielded in
    let worker = c.in-Some.worker in
    let all = YieldsList-from_vec {s = c.into_iter-worker-iterator.result} init (search rules) (search rules) in
    let turn = YieldsList-turn all c.workers.yielded c.workers.worker-iterator c.workers.yielded_by c.next.result c.next.new.self worker c.in-Some.is c.next.ensures.steps in
    let j = c.in-Ok.ensures in
    let within = turn.0 in
    let found : (d : Worker) → get_or init at d ≡ worker = (λ d. sym (turn.1 ∙ get_or_default init at worker d within)) in
    let mine : IsSeatOf f worker.seat × (seat_number worker.seat ≡ at + 1) = subst (λ (v : Worker). IsSeatOf f v.seat × (seat_number v.seat ≡ at + 1)) (found worker) (c.requires.each at worker within) in
    let number = worker.seat.number in
    let log = log_of worker.seat in
    let before = taken_of c.workers.first in
    let longer = length-append c.workers.yielded (worker ∷ []) in
    let given = c.args.pickers.items in
    let fits : number < length before = (let places = c.workers.first.places was.number in subst (λ (n : ℕ). number < n) (sym places.2 ∙ search rules) (subst (λ (k : Setup). number < k.seats) (mine.0.1 ∙ sym was.ours.1) worker.seat.known)) in
    record {
      ours = j.ours;
      number = j.rest.0.0 ∙ was.number;
      next = j.rest.1 ∙ was.next;
      log = j.rest.0.1 ∙ was.log;
      pickers = c.in_ok-push.ensures.items ∙ ap (λ (l : List (List ℕ)). l ++ worker.picker ∷ []) was.pickers
          ∙ append_assoc given (map (λ (w : Worker). w.picker) c.workers.yielded) (worker.picker ∷ [])
          ∙ ap (λ (l : List (List ℕ)). given ++ l) (sym (map-append (λ (w : Worker). w.picker) c.workers.yielded (worker ∷ [])));
      taken = λ i d early. ⊎_elim
          (λ (is : i ≡ at).
          ap (λ (l : List (Option (List Logged))). get_or l (i + 1) None) j.taken
          ∙ ap (λ (k : ℕ). get_or (set before number (Some log)) k None) (ap (λ (k : ℕ). k + 1) is ∙ sym mine.1)
          ∙ get_or-set_same before number (Some log) None fits
          ∙ ap (λ (v : Worker). Some (log_of v.seat)) (sym (ap (λ (k : ℕ). get_or init k d) is ∙ found d)))
          (λ (apart : i ≡ at → ⊥).
          let ne : i + 1 ≡ number → ⊥ = (λ same. apart (omega (arith, same, mine.1))) in
          ap (λ (l : List (Option (List Logged))). get_or l (i + 1) None) j.taken
          ∙ get_or-set_other before number (i + 1) (Some log) None ne
          ∙ was.taken i d (let far : i < at = omega (arith, early, longer, apart) in far))
          (cases_eq i at);
    }

pub returns-clause-pickers : goal.returns-clause-pickers
returns-clause-pickers c =
    let all = YieldsList-from_vec {s = c.into_iter-worker-iterator.result} c.args.workers.items (search rules) (search rules) in
    let end = YieldsList-end all c.workers.yielded c.workers.worker-iterator c.workers.yielded_by c.next.result c.next.new.self c.in-None.is c.next.ensures.steps in
    c.workers.invariant.pickers
    ∙ ap (λ (l : List Worker). c.args.pickers.items ++ map (λ (w : Worker). w.picker) l) (sym (map-id c.workers.yielded) ∙ end.0)

pub returns-clause-all : goal.returns-clause-all
returns-clause-all c =
    let was = c.workers.invariant in
    let init = c.args.workers.items in
    let all = YieldsList-from_vec {s = c.into_iter-worker-iterator.result} init (search rules) (search rules) in
    let end = YieldsList-end all c.workers.yielded c.workers.worker-iterator c.workers.yielded_by c.next.result c.next.new.self c.in-None.is c.next.ensures.steps in
    let taken : (i : ℕ) (d : Worker) → i < length init → get_or (taken_of c.workers.first) (i + 1) None ≡ Some (log_of (get_or init i d).seat) = (λ i d h. was.taken i d (omega (arith, h, end.1))) in
    record {
      ours = was.ours;
      whole = (was.number, at_place taken);
      own = was.log;
      taken = taken;
    }
  where
    at_place : ((i : ℕ) (d : Worker) → i < length c.args.workers.items → get_or (taken_of c.workers.first) (i + 1) None ≡ Some (log_of (get_or c.args.workers.items i d).seat)) → (w : ℕ) → 0 < w → w < next_of c.workers.first → IsSome (get_or (taken_of c.workers.first) w None)
    at_place taken zero some early = absurd (omega (arith, some))
    at_place taken (suc i) some early =
        let d : Worker = record { seat = c.workers.first; picker = [] } in
        subst (λ (k : ℕ). IsSome (get_or (taken_of c.workers.first) k None)) (let same : i + 1 ≡ suc i = omega arith in same)
        (ap is_some (taken i d (omega (arith, early, c.workers.invariant.next))))
