-- Meaning: words of public contracts.
-- The contents of the parts of a list. The only contracts that use these words are laws.
use Rattle.std.specs.Prelude.{◌≡◌, ℕ, ◌==◌, Bool, true, false, List, [], ◌∷◌, ◌++◌, ◌+◌, ◌<◌, ◌^◌, length}
use Rattle.std.specs.Char.{is_whitespace}
use Rattle.std.specs.List.{list_all, list_any, AllByRecursion, Contains}
use Rattle.std.specs.Str.{IsUtf8, chars}
use Rattle.bib_chunks.specs.declared.chunk.Chunk.{Chunk}
use Rattle.bib_chunks.specs.declared.chunk.Chunk.TheVariants.{Normal, Verbatim, Math}
use Rattle.bib_text.specs.declared.spanned.Spanned.{Spanned}
use Rattle.bib_chunks.specs.Styled.{Atom, styled, text_of}
use Rattle.bib_text.specs.Characters as char

-- the texts of chunks are UTF-8, as each `Text` is
abbrev pub AreTexts : List (Spanned Chunk) → Type 0
AreTexts = AllByRecursion (λ c. IsUtf8 (text_of c.v))

-- a chunk's span is as long as its text and ends below 2^64
abbrev pub IsAsLong : Spanned Chunk → Type 0
IsAsLong c = (c.span.end ≡ c.span.start + length (text_of c.v)) × (c.span.end < 2 ^ 64)

-- the text of the piece `here` occurs in the text of the chunk `c`. Its span is as long as its text, and at the same
-- offset in the span of `c`.
pub record StandsInChunk (c here : Spanned Chunk) : Type 0 where
  pub before : List ℕ
  pub following : List ℕ
  pub is : text_of c.v ≡ before ++ (text_of here.v ++ following)
  pub start : here.span.start ≡ c.span.start + length before
  pub end : here.span.end ≡ here.span.start + length (text_of here.v)

-- the piece `here` is in one of `chunks`, as `StandsInChunk` states
abbrev pub StandsInOne : List (Spanned Chunk) → Spanned Chunk → Type 0
StandsInOne chunks here = (c : Spanned Chunk) × Contains chunks c × StandsInChunk c here

-- whether an atom is normal white space
abbrev pub is_normal_space : Atom → Bool
is_normal_space (Atom.normal c) = is_whitespace c
is_normal_space (Atom.verbatim c) = false
is_normal_space (Atom.math text) = false

-- a styled text consists of these parts with a separator between each two, and of normal white space next to separators
pub data IsList (separator : List Atom) : List (List Atom) → List Atom → Type 0 where
  last : {part : List Atom} → IsList separator (part ∷ []) part
  next : {part rest : List Atom} {parts : List (List Atom)} (left right : List Atom)
      → list_all is_normal_space left ≡ true → list_all is_normal_space right ≡ true → IsList separator parts rest
      → IsList separator (part ∷ parts) (part ++ (left ++ (separator ++ (right ++ rest))))

-- the separator of a comma list
abbrev pub comma_text : List Atom
comma_text = Atom.normal char.comma ∷ []

-- the separator of an `and` list: the word's three letters
abbrev pub and_word : List Atom
and_word = Atom.normal char.letter_a ∷ Atom.normal char.letter_n ∷ Atom.normal char.letter_d ∷ []

-- whether an atom is a normal comma
abbrev pub is_normal_comma : Atom → Bool
is_normal_comma (Atom.normal c) = c == char.comma
is_normal_comma (Atom.verbatim c) = false
is_normal_comma (Atom.math text) = false

-- chunks contain no normal comma
abbrev pub HoldsNoComma : List (Spanned Chunk) → Type 0
HoldsNoComma part = list_any is_normal_comma (styled part) ≡ false

-- characters contain no word `and` with white space right before and after it
abbrev pub HasNoAnd : List ℕ → Type 0
HasNoAnd text =
    (before following : List ℕ) (s t : ℕ) → is_whitespace s ≡ true → is_whitespace t ≡ true
    → text ≡ before ++ (s ∷ char.letter_a ∷ char.letter_n ∷ char.letter_d ∷ t ∷ following) → ⊥

-- a chunk isn't normal, or it contains no word `and` with white space right before and after it
abbrev pub IsWithoutAnd : Chunk → Type 0
IsWithoutAnd (Normal text) = HasNoAnd (chars text)
IsWithoutAnd (Verbatim text) = Unit {0}
IsWithoutAnd (Math text) = Unit {0}

-- no normal chunk of these contains a word `and` with white space right before and after it
abbrev pub HoldsNoAnd : List (Spanned Chunk) → Type 0
HoldsNoAnd = AllByRecursion (λ c. IsWithoutAnd c.v)

-- `whole` is `inside` with normal white space before and after it
pub record IsSpaced (inside whole : List Atom) : Type 0 where
  pub left : List Atom
  pub right : List Atom
  pub is : whole ≡ left ++ (inside ++ right)
  pub white : list_all is_normal_space left ≡ true
  pub blank : list_all is_normal_space right ≡ true
