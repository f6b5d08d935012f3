use Rattle.std.proofs.Common.{◌≡◌, ◌++◌, drop, map, take}
use Rattle.std.specs.List.{find}
use Rattle.bibkit_commands.specs.EditsAsked.{change_by, change_for, is_unpaired}
use Rattle.bibkit_commands.proofs.edit_arguments.push_field_edits.Given as goal

-- the first words have equals signs, and their edits are made
abbrev pub invariant-words : goal.invariant-words
invariant-words l = record {
  first : find (is_unpaired l.option) (map (λ word. word.now) l.words)
      ≡ find (is_unpaired l.option) (map (λ word. word.now) (drop l.word-index l.words));
  made : map change_by l.edits.items
      ≡ map change_by l.initial.edits.items ++ map (change_for l.option) (map (λ word. word.now) (take l.word-index l.words));
}
