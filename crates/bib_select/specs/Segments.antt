-- Meaning: words of public contracts.
-- Segments of a condition: its tokens between the words that join them.
use Rattle.std.specs.Prelude.{ℕ, Bool, false, if◌then◌else◌, List, [], ◌∷◌, Option, Some, None, Result, Ok, Err}
use Rattle.std.specs.Option.{ok_or, option_and_then, option_map_or}
use Rattle.std.specs.Str.{str_eq_ignore_ascii_case}
use Rattle.bib_select.specs.Tokens.{Token, Placed}
use Rattle.bib_select.specs.Tokens.Token.{word, quoted, sign}
use Rattle.bib_select.specs.declared.errors.SelectionError.{SelectionError}
use Rattle.bib_select.specs.declared.errors.SelectionError.TheVariants.{Malformed}
use Rattle.bib_select.specs.declared.errors.SelectionErrorKind.{SelectionErrorKind}
use Rattle.bib_select.specs.declared.errors.SelectionErrorKind.TheVariants.{MissingJoint}

-- consecutive tokens, and the byte offset at which the next token begins or the text ends
pub record Segment : Type 0 where
  pub tokens : List Placed
  pub end : ℕ

-- whether a token is this word, in any ASCII case, without quotes
abbrev pub is_keyword : List ℕ → Token → Bool
is_keyword keyword (word text) = str_eq_ignore_ascii_case text keyword
is_keyword keyword (quoted text) = false
is_keyword keyword (sign text) = false

-- the text of a word, or of a quoted text
abbrev pub text_in_token : Token → Option (List ℕ)
text_in_token (word text) = Some text
text_in_token (quoted text) = Some text
text_in_token (sign text) = None

-- the segments with a token before the first of them
abbrev pub with_token : Placed → List Segment → List Segment
with_token placed [] = []
with_token placed (s ∷ rest) = record { tokens = placed ∷ s.tokens; end = s.end } ∷ rest

-- the segments between the words `joint` in a list of tokens
abbrev pub segments_between : List ℕ → ℕ → List Placed → List Segment
segments_between joint end [] = record { tokens = []; end = end } ∷ []
segments_between joint end (placed ∷ rest) =
    if is_keyword joint placed.token then record { tokens = []; end = placed.at } ∷ segments_between joint end rest
    else with_token placed (segments_between joint end rest)

-- the segments between the words `joint` in a segment
abbrev pub segments_of : List ℕ → Segment → List Segment
segments_of joint s = segments_between joint s.end s.tokens

-- the first token
abbrev pub head_of : List Placed → Option Placed
head_of [] = None
head_of (placed ∷ rest) = Some placed

-- the first token of a segment
abbrev pub first_token : Segment → Option Placed
first_token s = head_of s.tokens

-- the tokens after the first one
abbrev pub tail_of : List Placed → List Placed
tail_of [] = []
tail_of (placed ∷ rest) = rest

-- the segment without its first token
abbrev pub without_first : Segment → Segment
without_first s = record { tokens = tail_of s.tokens; end = s.end }

-- whether the first token of a segment is this word
abbrev pub opens_with : List ℕ → Segment → Bool
opens_with keyword s = option_map_or (λ placed. is_keyword keyword placed.token) (first_token s) false

-- an error of this kind at the first token, or at the end of a segment without tokens
abbrev pub failure_at : SelectionErrorKind → Segment → SelectionError
failure_at kind s = Malformed kind (option_map_or (λ placed. placed.at) (first_token s) s.end)

-- the value that `reading` gives for the first token, or an error of this kind if it gives none
abbrev pub first_as : {A : Type 0} → (Placed → Option A) → SelectionErrorKind → Segment → Result A SelectionError
first_as reading kind s = ok_or (option_and_then reading (first_token s)) (failure_at kind s)

-- the value, if a segment has no token, or an error at its first token
abbrev pub if_ended : {A : Type 0} → A → Segment → Result A SelectionError
if_ended a s = option_map_or (λ placed. Err (failure_at MissingJoint s)) (first_token s) (Ok a)

-- the next step of parsing, which takes the value of the first step; an error of the first step is the result
abbrev pub and_then : {A B : Type 0} → Result A SelectionError → (A → Result B SelectionError) → Result B SelectionError
and_then (Ok a) next = next a
and_then (Err e) next = Err e

-- the value for each element, or the first error
abbrev pub try_map : {A B : Type 0} → (A → Result B SelectionError) → List A → Result (List B) SelectionError
try_map f [] = Ok []
try_map f (x ∷ rest) = and_then (f x) (λ first. and_then (try_map f rest) (λ others. Ok (first ∷ others)))
