-- What a call returned, compared with what a definition gives: the one form of 'unless out of memory'.
use Rattle.std.specs.Prelude.{◌≡◌, Option, IfSome, Result, Ok, Err}

infixl 10 ◌>>=◌
-- then go on with the value, or hand the fault on
abbrev pub ◌>>=◌ : {X Y F : Type 0} → Result X F → (X → Result Y F) → Result Y F
(Ok x) >>= f = f x
(Err e) >>= f = Err e

-- the definition gives this fault; an error without a fault is out of memory, and may come at any time
abbrev pub Fails : {Y E F : Type 0} → (E → Option F) → E → Result Y F → Type 0
Fails fault_of e wanted = IfSome (fault_of e) (λ fault. wanted ≡ Err fault)

-- what a call returned, seen by `view`, is what the definition gives, unless out of memory
abbrev pub Gives : {X Y E F : Type 0} → (E → Option F) → (X → Y) → Result X E → Result Y F → Type 0
Gives fault_of view (Ok x) wanted = wanted ≡ Ok (view x)
Gives fault_of view (Err e) wanted = Fails fault_of e wanted
