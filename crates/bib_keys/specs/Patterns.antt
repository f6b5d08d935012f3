-- Meaning: words of public contracts.
-- The text of a pattern: characters, and placeholders in braces.
use Rattle.std.specs.Prelude.{◌≡◌, ℕ, ◌+◌, ◌<◌, ◌==◌, true, if◌then◌else◌, List, [], ◌∷◌, ◌++◌, length, take, drop, slice_index, codes, bytes_eq, Option, Some, None}
use Rattle.std.specs.Str.Iter.{LacksByte}
use Rattle.bib_text.specs.Characters as char
use Rattle.bib_keys.specs.Characters.{is_in_keys}
use Rattle.bib_keys.specs.declared.pattern.Case.TheVariants.{Lower, Capital, Upper}
use Rattle.bib_keys.specs.declared.pattern.Part.{Part}
use Rattle.bib_keys.specs.declared.pattern.Part.TheVariants.{Literal, Author, Title, Year, ShortYear}
use Rattle.bib_keys.specs.declared.errors.PatternError.{PatternError}
use Rattle.bib_keys.specs.declared.errors.PatternError.TheVariants.{NotInKeys, NoPlaceholder, OutOfMemory}

-- the part of a year with this number: four digits without a number, and two with the number 2; there is none with other numbers
abbrev pub year_part : Option ℕ → Option Part
year_part None = Some Year
year_part (Some n) = if n == 2 then Some ShortYear else None

-- the part that a name and a number mean; its words are written in the case of the name
abbrev pub part_meant : List ℕ → Option ℕ → Option Part
part_meant name count =
    if bytes_eq name (codes "author") then Some (Author Lower count)
    else if bytes_eq name (codes "Author") then Some (Author Capital count)
    else if bytes_eq name (codes "AUTHOR") then Some (Author Upper count)
    else if bytes_eq name (codes "title") then Some (Title Lower count)
    else if bytes_eq name (codes "Title") then Some (Title Capital count)
    else if bytes_eq name (codes "TITLE") then Some (Title Upper count)
    else if bytes_eq name (codes "year") then year_part count
    else None

-- the text of a number: none, or a colon and a digit from 1 to 9
pub data IsCount : Option ℕ → List ℕ → Type 0 where
  none : IsCount None []
  digit : (n : ℕ) → 0 < n → n < 10 → IsCount (Some n) (char.colon ∷ (char.zero + n) ∷ [])

-- a text is this name, which has no colon, and the text of this number
pub record HasNameAndCount (text name : List ℕ) (count : Option ℕ) : Type 0 where
  pub colon : LacksByte char.colon name
  pub digits : List ℕ
  pub number : IsCount count digits
  pub is : text ≡ name ++ digits

-- a placeholder without its braces: a name and a number that mean this part
pub record IsPlaceholder (part : Part) (text : List ℕ) : Type 0 where
  pub name : List ℕ
  pub count : Option ℕ
  pub named : HasNameAndCount text name count
  pub means : part_meant name count ≡ Some part

-- a part of a pattern: a character that is allowed in keys, or a placeholder in braces
pub data IsPart : Part → List ℕ → Type 0 where
  literal : {c : ℕ} → is_in_keys c ≡ true → IsPart (Literal c) (c ∷ [])
  placeholder : {part : Part} {inside : List ℕ} → LacksByte char.close_brace inside → IsPlaceholder part inside
      → IsPart part (char.open_brace ∷ inside ++ (char.close_brace ∷ []))

-- the text of these parts, one after another
pub data IsPattern : List Part → List ℕ → Type 0 where
  end : IsPattern [] []
  next : {part : Part} {parts : List Part} {text rest : List ℕ} → IsPart part text → IsPattern parts rest
      → IsPattern (part ∷ parts) (text ++ rest)

-- the text before the offset `at` is a pattern, the text doesn't end there, and no part begins there
pub record IsStuckAt (text : List ℕ) (at : ℕ) : Type 0 where
  pub parts : List Part
  pub before : IsPattern parts (take at text)
  pub goes_on : at < length text
  pub stops : (part : Part) (here rest : List ℕ) → IsPart part here → drop at text ≡ here ++ rest → ⊥

-- no parts have this text
abbrev pub IsNoPattern : List ℕ → Type 0
IsNoPattern text = (parts : List Part) → IsPattern parts text → ⊥

-- the statement of an error about the text: no parts have it, and no part begins at the offset `at`, but the text before it is a pattern.
-- `NoPlaceholder` means that an opening brace is there, and `NotInKeys` that another character is
abbrev pub IsPatternError : List ℕ → PatternError → Type 0
IsPatternError text (NotInKeys at) = IsNoPattern text × IsStuckAt text at × (slice_index text at ≡ char.open_brace → ⊥)
IsPatternError text (NoPlaceholder at) = IsNoPattern text × IsStuckAt text at × (slice_index text at ≡ char.open_brace)
IsPatternError text OutOfMemory = Unit {0}
