-- Meaning: words of public contracts.
-- The field `howpublished`. Files have the publisher or the address of a web page in it.
use Rattle.std.specs.Prelude.{ℕ, Bool, ◌||◌, ◌&&◌, ◌==◌, not, if◌then◌else◌, List, [], codes, eqb}
use Rattle.std.specs.Char.{is_whitespace}
use Rattle.std.specs.List.{list_any, starts_with}
use Rattle.std.specs.Str.{chars}
use Rattle.bib_text.specs.Characters as char
use Rattle.bib_entry.specs.declared.entry.Entry.{Entry}
use Rattle.bib_csl.specs.Texts.{rich_text}

-- the field `howpublished`, with HTML tags
unfoldable pub way_of : Entry → List ℕ
way_of entry = rich_text entry (codes "howpublished")

-- whether a text begins with an address: with `http://` or `https://`
unfoldable pub begins_with_address : List ℕ → Bool
begins_with_address text = starts_with eqb text (codes "http://") || starts_with eqb text (codes "https://")

-- whether a text contains white space, or a less-than sign, as a tag does
unfoldable pub has_gap : List ℕ → Bool
has_gap text = list_any (λ c. is_whitespace c || c == char.less) (chars text)

-- the field `howpublished` if it is an address and nothing else; otherwise nothing
unfoldable pub way_as_address : Entry → List ℕ
way_as_address entry = if begins_with_address (way_of entry) && not (has_gap (way_of entry)) then way_of entry else []

-- the field `howpublished` if it doesn't begin with an address; otherwise nothing
unfoldable pub way_as_publisher : Entry → List ℕ
way_as_publisher entry = if begins_with_address (way_of entry) then [] else way_of entry
