-- Machinery: words of private contracts.
-- The next token of a text, and the errors of parsing without regular expressions.
use Rattle.std.specs.Prelude.{◌≡◌, ℕ, Option, Some, None, Result, Err, ⊤}
use Rattle.std.specs.Char.{is_whitespace}
use Rattle.bib_text.specs.Places.{Place, Longest, AtEnd}
use Rattle.bib_select.specs.Tokens.{Placed, AreTokens, IsToken, IsUnclosed}
use Rattle.bib_select.specs.declared.errors.SelectionError.{SelectionError}
use Rattle.bib_select.specs.declared.errors.SelectionError.TheVariants.{Malformed, OutOfMemory}
use Rattle.bib_select.specs.declared.errors.SelectionErrorKind.TheVariants.{UnclosedQuote}

-- the error for a quote at this offset that isn't closed
abbrev pub unclosed_quote : ℕ → SelectionError
unclosed_quote at = Malformed UnclosedQuote at

-- the token after white space, if there is one, and the place after it
abbrev pub IsNextToken : Place → Option Placed → Place → Type 0
IsNextToken u None w = (v : Place) × Longest is_whitespace u v × AtEnd v
IsNextToken u (Some placed) w = (v : Place) × Longest is_whitespace u v × (placed.at ≡ v.at) × IsToken v placed.token w

-- the error for a quote after white space that isn't closed
abbrev pub IsTokenError : Place → SelectionError → Type 0
IsTokenError u error = (v : Place) × Longest is_whitespace u v × IsUnclosed v × (error ≡ unclosed_quote v.at)

-- an error of tokens: out of memory, or a quote that isn't closed
abbrev pub IsTokensError : Place → SelectionError → Type 0
IsTokensError u OutOfMemory = ⊤
IsTokensError u (Malformed kind at) = (kind ≡ UnclosedQuote) × AreTokens u (Err at)

-- an error is the one of this result, or out of memory
abbrev pub IsReadError : {A : Type 0} → Result A SelectionError → SelectionError → Type 0
IsReadError outcome OutOfMemory = ⊤
IsReadError outcome (Malformed kind at) = outcome ≡ Err (Malformed kind at)
