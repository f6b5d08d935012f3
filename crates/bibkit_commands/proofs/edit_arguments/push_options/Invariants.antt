use Rattle.std.proofs.Common.{◌≡◌, ◌++◌, drop, map, take}
use Rattle.bibkit_commands.specs.Arguments.{arguments_of}
use Rattle.bibkit_commands.specs.EditsAsked.{change_by, changes_of, first_unpaired}
use Rattle.bibkit_commands.proofs.edit_arguments.push_options.Given as goal

-- the words of the first options have equals signs, and their edits are made
abbrev pub invariant-options : goal.invariant-options
invariant-options l = record {
  first : first_unpaired (arguments_of l.matches) (map (λ option. option.now) l.options)
      ≡ first_unpaired (arguments_of l.matches) (map (λ option. option.now) (drop l.option-index l.options));
  made : map change_by l.edits.items
      ≡ map change_by l.initial.edits.items
      ++ changes_of (arguments_of l.matches) (map (λ option. option.now) (take l.option-index l.options));
}
