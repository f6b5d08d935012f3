-- Meaning: words of public contracts.
-- The default style.
use Rattle.std.specs.Prelude.{◌≡◌, [], None, true, false}
use Rattle.edit_format.specs.Ordered.{order_of}
use Rattle.edit_format.specs.declared.style.Delimiters.TheVariants.{Keep}
use Rattle.edit_format.specs.declared.style.Style.{Style}

-- a style indents fields by two spaces, doesn't align equals signs, has a comma after the last field, and doesn't break values into
-- lines. The text between entries, the delimiters of literals and the order of fields are unchanged
pub record IsUsual (style : Style) : Type 0 where
  pub indent : style.indent ≡ 2
  pub aligned : style.aligned ≡ false
  pub trailing_comma : style.trailing_comma ≡ true
  pub blank_lines : style.blank_lines ≡ None
  pub delimiters : style.delimiters ≡ Keep
  pub order : order_of style ≡ []
  pub width : style.width ≡ None
