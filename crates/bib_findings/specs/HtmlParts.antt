-- Machinery: words of private contracts.
-- The tags and character references that the code represents, and the bytes for which it tests a text first.
use Rattle.std.specs.Prelude.{ℕ, Bool, ◌==◌, ◌||◌, ◌++◌, codes}
use Rattle.bib_text.specs.Characters as char
use Rattle.bib_findings.specs.Html.{Markup}
use Rattle.bib_findings.specs.Html.Markup.{reference, tag}
use Rattle.bib_findings.specs.SpecialCharacters.{is_latex_special}
use Rattle.bib_findings.specs.declared.html.HtmlPart.{HtmlPart}
use Rattle.bib_findings.specs.declared.html.HtmlPart.TheVariants.{Reference, Tag}

-- the tag or character reference that a value of the code represents
abbrev pub markup_of : HtmlPart → Markup
markup_of (Tag start name) = tag (start.now ++ (name.now ++ codes ">"))
markup_of (Reference start name) = reference (start.now ++ (name.now ++ codes ";"))

-- whether a byte may begin a tag or a character reference, or is special to LaTeX
abbrev pub is_tested_byte : ℕ → Bool
is_tested_byte b = b == char.less || is_latex_special b
