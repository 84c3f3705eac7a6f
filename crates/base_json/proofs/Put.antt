-- Members put into an object.
use Rattle.std.proofs.Common.{◌≡◌, ◌∙◌, ℕ, List, ap, Result, Ok, Err, IfOk, IsOkAnd}
use Rattle.serde_json.specs.Data.{Data, Members, put}
use Rattle.serde_json.specs.View.{view}
use Rattle.serde_json.specs.declared.value.Value.{Value}

-- a member that was put in, if its value could be made
pub made : {E : Type 0} (r : Result Value E) (d : Data) (name : List ℕ) (old new : Members) → IfOk r (λ v. view v ≡ d) → IsOkAnd r (λ v. new ≡ put name (view v) old)
    → new ≡ put name d old
made (Ok v) d name old new is added = added ∙ ap (λ e. put name e old) is
made (Err e) d name old new is added = absurd added
