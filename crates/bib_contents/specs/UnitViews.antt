-- Machinery: words of private contracts.
-- The units of the program as the units of `Contents`.
use Rattle.std.specs.Str.{chars}
use Rattle.bib_contents.specs.Contents as contents
use Rattle.bib_contents.specs.Progress.{left}
use Rattle.bib_contents.specs.declared.units.Argument.{Argument}
use Rattle.bib_contents.specs.declared.units.Argument.TheVariants.{Without, Empty, Single}
use Rattle.bib_contents.specs.declared.units.Found.{Found}
use Rattle.bib_contents.specs.declared.units.Found.TheVariants.{Plain, Braced as InBraces}
use Rattle.bib_contents.specs.declared.units.TextUnit.{TextUnit}
use Rattle.bib_contents.specs.declared.units.TextUnit.TheVariants.{Hyphens, Spaces, Escaped, Backslash, Copied, Command, Other}
use Rattle.bib_contents.specs.declared.units.Unit.{Unit}
use Rattle.bib_contents.specs.declared.units.Unit.TheVariants.{Shown, Applied, Formula, Opening, Closing}

-- the argument of a command that isn't in braces
abbrev pub argument_of : Argument → contents.Argument
argument_of Without = contents.Argument.without
argument_of Empty = contents.Argument.empty
argument_of (Single c) = contents.Argument.single c

-- the argument of a command
abbrev pub found_of : Found → contents.Argument
found_of (Plain argument) = argument_of argument
found_of (InBraces inside) = contents.Argument.braced (left inside)

-- the `ContentUnit` of a unit of the code that is written as characters
abbrev pub text_unit_of : TextUnit → contents.ContentUnit
text_unit_of (Hyphens n) = contents.ContentUnit.hyphens n
text_unit_of (Spaces text) = contents.ContentUnit.spaces (chars text.now)
text_unit_of (Escaped c) = contents.ContentUnit.escaped c
text_unit_of Backslash = contents.ContentUnit.backslash
text_unit_of (Copied c) = contents.ContentUnit.copied c
text_unit_of (Command name space argument) = contents.ContentUnit.command (chars name.now) (chars space.now) (argument_of argument)
text_unit_of (Other c) = contents.ContentUnit.other c

-- the `ContentUnit` of a unit of the code
abbrev pub unit_of : Unit → contents.ContentUnit
unit_of (Shown unit) = text_unit_of unit
unit_of (Applied name space inside) =
    contents.ContentUnit.command (chars name.now) (chars space.now) (contents.Argument.braced (left inside))
unit_of (Formula text) = contents.ContentUnit.formula (chars text.now)
unit_of Opening = contents.ContentUnit.opening
unit_of Closing = contents.ContentUnit.closing
