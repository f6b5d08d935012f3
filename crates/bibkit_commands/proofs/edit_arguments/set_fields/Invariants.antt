use Rattle.std.proofs.Common.{◌≡◌, drop, map, take}
use Rattle.std.specs.Prelude.{option_map}
use Rattle.std.specs.List.{find}
use Rattle.bibkit_commands.specs.EditsAsked.{field_in_word, has_no_pair, set_by}
use Rattle.bibkit_commands.proofs.edit_arguments.set_fields.Given as goal

-- the first words have equals signs, and their edits are made
abbrev pub invariant-words : goal.invariant-words
invariant-words l = record {
  first : find has_no_pair (map (λ word. word.now) l.words) ≡ find has_no_pair (map (λ word. word.now) (drop l.word-index l.words));
  made : map set_by l.edits.items
      ≡ map (λ word. option_map (λ f. (l.key, f)) (field_in_word word)) (map (λ word. word.now) (take l.word-index l.words));
}
