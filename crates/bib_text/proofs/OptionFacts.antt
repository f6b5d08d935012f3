-- Facts about options and results.
use Rattle.std.proofs.Common.{◌≡◌, Bool, true, false, cond, Option, Some, None, refl, option_map, is_some, Ok, Err}
use Rattle.std.specs.Option.{option_or}

-- a value is no error
pub ok_differs : {A E : Type 0} {a : A} {e : E} → Ok a ≡ Err e → ⊥
ok_differs same = absurd (cc)

-- `None` is no value
pub none_is_some : {A : Type 0} {x : A} → None ≡ Some x → ⊥
none_is_some is = cc

-- a function of a value doesn't change whether there is one
pub some_mapped : {A B : Type 0} (f : A → B) (o : Option A) → is_some (option_map f o) ≡ is_some o
some_mapped f None = refl
some_mapped f (Some x) = refl

-- mapping the choice between a value and an option is choosing between the two after mapping each
pub mapped_cond : {A B : Type 0} (f : A → B) (b : Bool) (x : A) (o : Option A)
    → option_map f (cond b (Some x) o) ≡ cond b (Some (f x)) (option_map f o)
mapped_cond f true x o = refl
mapped_cond f false x o = refl

-- an option, or else `None`, is the option
pub or_none : {A : Type 0} (o : Option A) → option_or o None ≡ o
or_none None = refl
or_none (Some x) = refl
