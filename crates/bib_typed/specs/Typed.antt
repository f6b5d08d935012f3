-- Meaning: words of public contracts.
-- Permissive values, and the kinds of errors of numbers.
use Rattle.std.specs.Prelude.{nat_lt, if◌then◌else◌}
use Rattle.bib_chunks.specs.Styled.{whole_span}
use Rattle.bib_tables.specs.declared.type_error.TypeErrorKind.{TypeErrorKind}
use Rattle.bib_tables.specs.declared.type_error.TypeErrorKind.TheVariants.{InvalidNumber, MissingNumber}
use Rattle.bib_values.specs.Permissive.{Permissive}
use Rattle.bib_values.specs.Permissive.Permissive.{typed, as_chunks}
use Rattle.bib_chunks.specs.Values.{Value}
use Rattle.bib_typed.specs.declared.typed.PermissiveType.{PermissiveType}
use Rattle.bib_typed.specs.declared.typed.PermissiveType.TheVariants.{Typed, Chunks}

-- the meaning of a permissive value; `meaning` is that of the values of the type
abbrev pub permissive_meaning : {V M : Type 0} → (V → M) → PermissiveType V → Permissive M
permissive_meaning meaning (Typed v) = typed (meaning v)
permissive_meaning meaning (Chunks chunks) = as_chunks chunks

-- the kind of the error of chunks that are no number: `MissingNumber` if their span is empty or reversed, and `InvalidNumber` otherwise
abbrev pub number_error : Value → TypeErrorKind
number_error chunks = if nat_lt (whole_span chunks).start (whole_span chunks).end then InvalidNumber else MissingNumber
