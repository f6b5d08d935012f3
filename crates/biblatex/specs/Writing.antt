-- Machinery: words of private contracts.
-- The text before an entry, and refused writes.
use Rattle.std.specs.Prelude.{◌≡◌, ◌≢◌, ℕ, Bool, true, false, List, [], codes, Result, Ok, Err}
use Rattle.std.specs.IoError.{error_kind}
use Rattle.std.specs.declared.io.Error.{Error}
use Rattle.std.specs.declared.io.ErrorKind.TheVariants.{Interrupted}

-- the text before an entry: empty for the first entry, and a line feed for any other
abbrev pub empty_line_unless : Bool → List ℕ
empty_line_unless true = []
empty_line_unless false = codes "\n"

-- a write refused its bytes: it succeeded and wrote none of them, or failed with an error other than an interruption
abbrev pub IsRefusedWrite : Result ℕ Error → Type 0
IsRefusedWrite (Ok count) = count ≡ 0
IsRefusedWrite (Err error) = error_kind error ≢ Interrupted
