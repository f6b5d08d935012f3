-- Meaning: words of public contracts.
-- Results of parsing something as a value of a type.
use Rattle.std.specs.Prelude.{◌≡◌, ◌≢◌, ℕ, Option, Some, None, Result, Ok, Err, ◌⊎◌, ⊤}
use Rattle.std.specs.declared.ops.Range.{Range}
use Rattle.bib_tables.specs.TypeError.{no_memory}
use Rattle.bib_tables.specs.declared.type_error.TypeError.{TypeError}
use Rattle.bib_tables.specs.declared.type_error.TypeErrorKind.{TypeErrorKind}
use Rattle.bib_tables.specs.declared.type_error.TypeErrorKind.TheVariants.{OutOfMemory}

-- the error is out of memory; or `read` is `None`, and the error has another kind, for which `may_refuse` holds
abbrev pub IsRefusal : {M : Type 0} → Option M → (TypeErrorKind → Type 0) → TypeError → Type 0
IsRefusal read may_refuse e = (e ≡ no_memory) ⊎ ((e.kind ≢ OutOfMemory) × (read ≡ None) × may_refuse e.kind)

-- the result is a value whose meaning is `read`, or an error for which `IsRefusal` holds
abbrev pub IsReadAs : {V M : Type 0} → (V → M) → Option M → (TypeErrorKind → Type 0) → Result V TypeError → Type 0
IsReadAs meaning read may_refuse (Ok v) = read ≡ Some (meaning v)
IsReadAs meaning read may_refuse (Err e) = IsRefusal read may_refuse e

-- if the result is an error other than out of memory, its span is `place`, in bytes of the file
abbrev pub LiesAt : {V : Type 0} → Range ℕ → Result V TypeError → Type 0
LiesAt place (Ok v) = ⊤
LiesAt place (Err e) = (e ≡ no_memory) ⊎ (e.span ≡ place)
