-- The blocks of units may be cut out of their text.
use Rattle.std.proofs.Common.{◌≡◌, ℕ, Bool, true, false, cond, List, [], ◌∷◌, refl, sym, ◌∙◌, subst}
use Rattle.std.specs.declared.ops.Range.{Range}
use Rattle.std.specs.List.{AllByRecursion}
use Rattle.bib_text.specs.Places.{Place}
use Rattle.bib_syntax.specs.Grammar.{File, longest}
use Rattle.bib_syntax.specs.Grammar.{File as file}
use Rattle.bib_syntax.specs.Lines.{AreLinesFrom, InLine, LineReading}
use Rattle.bib_syntax.specs.Lines.{InLine as in_line}
use Rattle.bib_syntax.specs.Reading.{FileReading}
use Rattle.bib_syntax.proofs.FileFacts.{ahead_block, ahead_line_comment}
use Rattle.bib_syntax.proofs.LineReadFacts.{ahead_in_line, file_in_line, lines_are_file}
use Rattle.edit_entries.proofs.CutFacts.{cut_file}
use Rattle.edit_units.proofs.CutFacts.{units_cut}
use Rattle.edit_units.specs.Cuts.{AreUnitsCut}
use Rattle.edit_units.specs.Units.{AreUnits, UnitReading, is_above, is_blank_line, line_units, with_line}
use Rattle.edit_versions.specs.Blocks.{AreBlocksCut, IsUnitCut}

-- the blocks of a part of a line
blocks_in_line : (text : List ℕ) {u v : Place} {blocks : List (Range ℕ)} {says rest : FileReading} → u.text ≡ text → InLine u blocks says v
    → File longest v rest → AreBlocksCut text blocks
blocks_in_line text same in_line.none after = _
blocks_in_line text same (in_line.skipped char passes part) after = blocks_in_line text (char.same ∙ same) part after
blocks_in_line text same (in_line.line_comment m part) after = blocks_in_line text ((ahead_line_comment m).text ∙ same) part after
blocks_in_line text {rest = rest} same (in_line.block b part) after =
    let behind = (file_in_line part).there rest after in
    let ahead = ahead_block b in
    let next = ahead.text ∙ same in (
      record { ordered = ahead.at; start_cut = cut_file text same (file.block b behind); end_cut = cut_file text next behind },
      blocks_in_line text next part after,
    )

-- the blocks of lines
blocks_of_lines : (text : List ℕ) {u : Place} {ls : List LineReading} → u.text ≡ text → AreLinesFrom u ls
    → AllByRecursion (λ l. AreBlocksCut text l.blocks) ls
blocks_of_lines text same (AreLinesFrom.last line at_end) = (blocks_in_line text same line.inside (file.end at_end), _)
blocks_of_lines text same (AreLinesFrom.more line feed rest) = (
  blocks_in_line text same line.inside (file.skipped feed refl (lines_are_file rest)),
  blocks_of_lines text (feed.same ∙ (ahead_in_line line.inside).text ∙ same) rest,
)

-- the blocks of units after one more line before them
blocks_with_line : (text : List ℕ) (joins : Bool) (l : LineReading) (us : List UnitReading) → AreBlocksCut text l.blocks
    → AllByRecursion (λ u. AreBlocksCut text u.blocks) us → AllByRecursion (λ u. AreBlocksCut text u.blocks) (with_line joins l us)
blocks_with_line text joins l [] own all = (own, _)
blocks_with_line text true l (u ∷ us) own all = all
blocks_with_line text false l (u ∷ us) own all = (own, all)

-- the blocks of the units of lines
blocks_of_units : (text : List ℕ) (ls : List LineReading) → AllByRecursion (λ l. AreBlocksCut text l.blocks) ls
    → AllByRecursion (λ u. AreBlocksCut text u.blocks) (line_units text ls)
blocks_of_units text [] all = _
blocks_of_units text (l ∷ ls) all = by (is_blank_line text l) (blocks_of_units text ls all.1)
  where
    by : (blank : Bool) → AllByRecursion (λ u. AreBlocksCut text u.blocks) (line_units text ls)
        → AllByRecursion (λ u. AreBlocksCut text u.blocks) (cond blank (line_units text ls)
        (with_line (is_above text l ls) l (line_units text ls)))
    by true rest = rest
    by false rest = blocks_with_line text (is_above text l ls) l (line_units text ls) all.0 rest

-- units that may be cut out, and whose blocks may
both_cut : (text : List ℕ) (at : ℕ) (us : List UnitReading) → AreUnitsCut text at us → AllByRecursion (λ u. AreBlocksCut text u.blocks) us
    → AllByRecursion (IsUnitCut text) us
both_cut text at [] cuts blocks = _
both_cut text at (u ∷ us) cuts blocks = (record { unit = cuts.1; blocks = blocks.0 }, both_cut text u.end us cuts.2 blocks.1)

-- each unit of a text, and each of its blocks, may be cut out of it
pub each_cut : (text : List ℕ) (units : List UnitReading) → AreUnits text units → AllByRecursion (IsUnitCut text) units
each_cut text units are =
    both_cut text 0 units (units_cut text units are)
    (subst (AllByRecursion (λ u. AreBlocksCut text u.blocks)) (sym are.units_are)
    (blocks_of_units text are.lines (blocks_of_lines text refl are.are)))
