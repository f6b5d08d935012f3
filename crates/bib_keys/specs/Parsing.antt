-- Machinery: words of private contracts.
-- The errors of patterns.
use Rattle.std.specs.Prelude.{ℕ, ◌==◌, if◌then◌else◌, List, slice_index}
use Rattle.bib_text.specs.Characters as char
use Rattle.bib_keys.specs.declared.errors.PatternError.{PatternError}
use Rattle.bib_keys.specs.declared.errors.PatternError.TheVariants.{NotInKeys, NoPlaceholder}

-- the error for the text `rest` at the byte offset `at`, which begins with no part
abbrev pub stop_error : ℕ → List ℕ → PatternError
stop_error at rest = if slice_index rest 0 == char.open_brace then NoPlaceholder at else NotInKeys at
