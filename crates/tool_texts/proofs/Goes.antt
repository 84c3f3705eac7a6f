-- Steps one after the other.
use Rattle.std.proofs.Common.{◌≡◌, Result, Ok, Err, refl, sym, subst, ◌∙◌}
use Rattle.tool_texts.specs.declared.refusal.Refusal.{Refusal}
use Rattle.pop_io.specs.declared.failure.Failure.TheVariants.{Fault, NoMemory}
use Rattle.tool_texts.specs.Steps.{◌>>=◌, After, GivesStep, MayStop, Obeys, Stop}

pub bind_ok : {A B : Type 0} (r : Result A Refusal) (f : A → Result B Refusal) (y : B) → (r >>= f) ≡ Ok y → (x : A) × (r ≡ Ok x) × (f x ≡ Ok y)
bind_ok (Ok x) f y e = (x, refl, e)
bind_ok (Err r) f y e = absurd cc

pub same_ok : {A : Type 0} (x y : A) → (let r : Result A Refusal = Ok x in r ≡ Ok y) → x ≡ y
same_ok x y e = cc

-- what a step gives is allowed if the step's outcome is
pub gives_obeys : {A B : Type 0} (rule : Result B Refusal → Type 0) (view : A → B) (r : Result A Stop) (step : Result B Refusal) → rule step → GivesStep view r step → Obeys rule view r
gives_obeys rule view (Ok x) step allowed is = subst rule is allowed
gives_obeys rule view (Err NoMemory) step allowed is = tt
gives_obeys rule view (Err (Fault r)) step allowed is = subst rule is allowed

-- what one rule allows is allowed by a wider one
pub obeys_wider : {A B : Type 0} (rule wider : Result B Refusal → Type 0) → ((given : Result B Refusal) → rule given → wider given)
    → (view : A → B) (r : Result A Stop) → Obeys rule view r → Obeys wider view r
obeys_wider rule wider so view (Ok x) is = so (Ok (view x)) is
obeys_wider rule wider so view (Err NoMemory) is = tt
obeys_wider rule wider so view (Err (Fault r)) is = so (Err r) is

-- a stop that one rule allows, handed on
pub may_stop : {A B : Type 0} (rule : Result A Refusal → Type 0) (next : Result B Refusal → Type 0) → ((r : Refusal) → rule (Err r) → next (Err r))
    → (stop : Stop) → MayStop rule stop → MayStop next stop
may_stop rule next so NoMemory is = tt
may_stop rule next so (Fault r) is = so r is

-- a rule that allows one outcome for each value allows one after a step
pub one_after : {A B : Type 0} (step : Result A Refusal) (next : A → Result B Refusal → Type 0)
    → ((value : A) → step ≡ Ok value → (x y : Result B Refusal) → next value x → next value y → x ≡ y)
    → (x y : Result B Refusal) → After step next x → After step next y → x ≡ y
one_after (Ok value) next one x y p q = one value refl x y p q
one_after (Err r) next one x y p q = p ∙ sym q

-- what holds for every refusal and after every value holds after a step
pub bind_keeps : {A B : Type 0} (P : Result B Refusal → Type 0) → ((r : Refusal) → P (Err r)) → (step : Result A Refusal) (next : A → Result B Refusal) → ((x : A) → P (next x)) → P (step >>= next)
bind_keeps P stop (Ok x) next go = go x
bind_keeps P stop (Err r) next go = stop r

pub after_keeps : {A B : Type 0} (P : Result B Refusal → Type 0) → ((r : Refusal) → P (Err r)) → (step : Result A Refusal) (next : A → Result B Refusal → Type 0)
    → ((x : A) (given : Result B Refusal) → next x given → P given) → (given : Result B Refusal) → After step next given → P given
after_keeps P stop (Ok x) next go given is = go x given is
after_keeps P stop (Err r) next go given is = subst P (sym is) (stop r)
