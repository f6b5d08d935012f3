-- Machinery: words of private contracts.
-- The braces of a text that are open at a place, and where closed ones close.
use Rattle.std.specs.Prelude.{◌≡◌, ℕ, zero, suc, List, [], ◌∷◌, ◌++◌, reverse, ⊤, ◌⊎◌, Some}
use Rattle.bib_text.specs.OpenBraces.{ClosesOpen}
use Rattle.bib_text.specs.Places.{Place, place, CharAt}
use Rattle.bib_syntax.specs.Closings.{AreClosings}
use Rattle.bib_text.specs.Characters as char
use Rattle.bib_syntax.specs.declared.raw.closings.Closing.{Closing}

-- up to each closing brace, the text from `u` closes `n` open braces if and only if the text from `v` closes `m`
pub record SameBraced (n : ℕ) (u : Place) (m : ℕ) (v : Place) : Type 0 where
  pub there : (x y : Place) → ClosesOpen m v x → CharAt x char.close_brace y → ClosesOpen n u x
  pub back : (x y : Place) → ClosesOpen n u x → CharAt x char.close_brace y → ClosesOpen m v x

-- The list has the offsets after the open braces, the innermost first. From its first offset to `here`, `n` braces are
-- opened and stay open. From each further offset it is one brace more.
abbrev pub AreOpen : List ℕ → ℕ → List ℕ → Place → Type 0
AreOpen text n [] here = ⊤
AreOpen text n (start ∷ more) here = SameBraced zero (place text start) n here × AreOpen text (suc n) more here

-- at the place `here` of `text`, the braces before the offsets `opened` are open, and `found` are closings of `text`
pub record AreBracesAt (text opened : List ℕ) (found : List Closing) (here : Place) : Type 0 where
  pub same : here.text ≡ text
  pub closings : AreClosings text found
  pub opens : AreOpen text zero (reverse opened) here

-- A brace at the offset `at` closes the last open brace: this one is removed from `opened` and added to `found`. If no
-- brace is open, nothing changes.
abbrev pub ClosesLast : List ℕ → List Closing → ℕ → List ℕ → List Closing → Type 0
ClosesLast opened found at opened' found' =
    ((opened ≡ []) × (opened' ≡ []) × (found' ≡ found))
    ⊎
    ((start : ℕ) × (opened ≡ opened' ++ start ∷ [])
    × (found' ≡ found ++ record { start = start; close = Some at } ∷ []))
