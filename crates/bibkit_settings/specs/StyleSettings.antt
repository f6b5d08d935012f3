-- Meaning: words of public contracts.
-- Settings of `fmt`, from the command line or from bibkit.toml, and the style and the order of entries that they set.
use Rattle.std.specs.Prelude.{◌≡◌, ◌==◌, ℕ, List, [], bytes_eq, codes, map, Option, None, Some, if◌then◌else◌, true, false}
use Rattle.std.specs.Borrow.{Bor}
use Rattle.std.specs.Option.{option_or, unwrap_or}
use Rattle.edit_format.specs.Ordered.{order_of}
use Rattle.edit_format.specs.declared.style.Delimiters.{Delimiters}
use Rattle.edit_format.specs.declared.style.Delimiters.TheVariants.{Keep, Braces, Quotes}
use Rattle.edit_format.specs.declared.style.Style.{Style}
use Rattle.edit_orders.specs.declared.order.Order.{Order}
use Rattle.bibkit_settings.specs.declared.style_settings.StyleSettings.{StyleSettings}

-- the delimiters with a name, or `None` if none have it
abbrev pub delimiters_named : List ℕ → Option Delimiters
delimiters_named name =
    if bytes_eq name (codes "keep") then Some Keep else if bytes_eq name (codes "braces") then Some Braces else
    if bytes_eq name (codes "quotes") then Some Quotes else None

-- the maximum width of a line for a value of the option: no limit for 0
abbrev pub width_of : ℕ → Option ℕ
width_of number = if number == 0 then None else Some number

-- settings of which none is set
abbrev pub no_style_settings : StyleSettings
no_style_settings =
    record {
      indent = None;
      aligned = None;
      trailing_comma = None;
      blank_lines = None;
      delimiters = None;
      order = None;
      width = None;
      sort = None;
    }

-- the settings `given` on the command line, with those of the project for each that isn't set
abbrev pub over_project : StyleSettings → StyleSettings → StyleSettings
over_project given project =
    record {
      indent = option_or given.indent project.indent;
      aligned = option_or given.aligned project.aligned;
      trailing_comma = option_or given.trailing_comma project.trailing_comma;
      blank_lines = option_or given.blank_lines project.blank_lines;
      delimiters = option_or given.delimiters project.delimiters;
      order = option_or given.order project.order;
      width = option_or given.width project.width;
      sort = option_or given.sort project.sort;
    }

-- the names of the fields that come first, or no names if they aren't set
abbrev pub names_set : Option (Bor (List (Bor (List ℕ)))) → List (List ℕ)
names_set None = []
names_set (Some names) = map (λ name. name.now) names.now

-- `style` is the style of the settings `set`. By default, two spaces are before a field, equals signs aren't aligned, and a comma is after
-- the last field. The text between entries is kept, and so are the delimiters. No field is moved to the front, and the width has no limit.
pub record IsStyleSet (set : StyleSettings) (style : Style) : Type 0 where
  pub indent : style.indent ≡ unwrap_or set.indent 2
  pub aligned : style.aligned ≡ unwrap_or set.aligned false
  pub trailing_comma : style.trailing_comma ≡ unwrap_or set.trailing_comma true
  pub blank_lines : style.blank_lines ≡ unwrap_or set.blank_lines None
  pub delimiters : style.delimiters ≡ unwrap_or set.delimiters Keep
  pub order : order_of style ≡ names_set set.order
  pub width : style.width ≡ unwrap_or set.width None

-- the order of entries; `None` if no order is set, or if the setting says that the entries keep their order
abbrev pub sort_set : StyleSettings → Option Order
sort_set set = unwrap_or set.sort None
