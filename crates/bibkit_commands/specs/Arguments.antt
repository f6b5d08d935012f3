-- Meaning: words of public contracts.
-- The values of the arguments of a command, by the ids of the arguments.
use Rattle.std.specs.Prelude.{◌&&◌, ◌^◌, ℕ, Bool, false, nat_lt, if◌then◌else◌, List, [], bytes_eq, codes, Option, Some, None, unwrap_or}
use Rattle.std.specs.Option.{option_map_or, option_and_then}
use Rattle.std.specs.Str.{all_ascii_digits}
use Rattle.std.specs.Str.Parse.{digits_value, without_leading_plus}
use Rattle.clap.specs.Matches.{found_of}
use Rattle.clap.specs.Walk.{Row, all_of, first_of, one_of, rows_of}
use Rattle.clap.specs.declared.parser.matches.ArgMatches.{ArgMatches}

-- the arguments of a command, each with its values
abbrev pub Arguments : Type 0
Arguments = List Row

-- the arguments that clap found
abbrev pub arguments_of : ArgMatches → Arguments
arguments_of matches = rows_of (found_of matches)

-- whether a flag is given: its value, as the parser of the argument reads it, is `true`
unfoldable pub has_flag : Arguments → List ℕ → Bool
has_flag arguments id = option_map_or (λ text. bytes_eq text (codes "true")) (one_of id arguments) false

-- the value of an argument, or `None` if it is missing
unfoldable pub argument_value : Arguments → List ℕ → Option (List ℕ)
argument_value arguments id = first_of id arguments

-- the values of an argument in order, or `None` if it is missing
unfoldable pub given_values : Arguments → List ℕ → Option (List (List ℕ))
given_values arguments id = all_of id arguments

-- the values of an argument in order; none if it is missing
abbrev pub argument_values : Arguments → List ℕ → List (List ℕ)
argument_values arguments id = unwrap_or (given_values arguments id) []

-- whether a text is one or more ASCII digits
abbrev pub is_digits : List ℕ → Bool
is_digits [] = false
is_digits text = all_ascii_digits text

-- whether a text is a number below 2 ^ 64 in digits, with or without a plus sign before them
abbrev pub is_number_text : List ℕ → Bool
is_number_text text = is_digits (without_leading_plus text) && nat_lt (digits_value 10 (without_leading_plus text)) (2 ^ 64)

-- the number that a text is, or `None` if it isn't a number
unfoldable pub number_in : List ℕ → Option ℕ
number_in text = if is_number_text text then Some (digits_value 10 (without_leading_plus text)) else None

-- the number that is the value of an argument, or `None` if it is missing or isn't a number
abbrev pub argument_number : Arguments → List ℕ → Option ℕ
argument_number arguments id = option_and_then number_in (argument_value arguments id)
