use Rattle.std.proofs.Common.{IfOk, ◌≡◌, lit<, subst, sym}
use Rattle.std.specs.Prelude.{option_map}
use Rattle.std.proofs.lemmas.Iterator.Consumers.{map_from_collect}
use Rattle.std.proofs.lemmas.Iterator.Splits.{YieldsList-from_str_split}
use Rattle.edit_entry_merge.specs.ConflictTexts.{optional_lines}
use Rattle.edit_entry_merge.specs.Lines.{lent_lines}
use Rattle.edit_entry_merge.proofs.conflict_text.lines_of.Goals as goal

pub returns-in-Some : goal.returns-in-Some
returns-in-Some c =
    subst (λ found. IfOk c.collect.result (λ lines. lent_lines lines.items ≡ optional_lines (option_map (λ t. t.now) found)))
    (sym c.in-Some.is)
    (map_from_collect _ c.collect.ensures.ran (YieldsList-from_str_split 10 c.in-Some.text.now (lit< tt) (cc) (cc) (cc)))
