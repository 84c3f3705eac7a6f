-- Readings that went well, step by step.
use Rattle.std.proofs.Common.{◌≡◌, ℕ, Bool, true, false, cond, List, Result, Ok, Err, refl}
use Rattle.base_json.specs.declared.fault.Why.{Why}
use Rattle.base_json.specs.Faults.{Fault, ◌>>=◌, broken}

-- if the whole succeeds, so did its first step
pub bind_ok : {A B : Type 0} (r : Result A Fault) (f : A → Result B Fault) (y : B) → (r >>= f) ≡ Ok y → (x : A) × (r ≡ Ok x) × (f x ≡ Ok y)
bind_ok (Ok x) f y e = (x, refl, e)
bind_ok (Err d) f y e = absurd cc

pub guard_ok : {A : Type 0} (b : Bool) (path : List ℕ) (why : Why) (x y : A) → cond b (Ok x) (broken path why) ≡ Ok y → (b ≡ true) × (x ≡ y)
guard_ok true path why x y e = (refl, cc)
guard_ok false path why x y e = absurd cc

pub same_ok : {A : Type 0} (x y : A) → (let o : Result A Fault = Ok x in o ≡ Ok y) → x ≡ y
same_ok x y e = cc
