use Rattle.std.proofs.Common.{◌≡◌, ◌<◌, ℕ, false, map}
use Rattle.bib_syntax.specs.Views.{field_of}
use Rattle.edit_strings.specs.Expanded.{is_early}
use Rattle.edit_strings.specs.Tables.{AreIndices}
use Rattle.edit_strings.proofs.written.check_early_uses.Given as goal

-- none of the definitions so far uses its own name, or a name before the name's first definition
abbrev pub invariant-definitions : goal.invariant-definitions
invariant-definitions l = record {
  indices : AreIndices l.indices (map field_of l.definitions) l.index;
  none : (i : ℕ) → i < l.index → is_early (map field_of l.definitions) i ≡ false;
}
