use Rattle.std.proofs.Common.{◌≡◌, ◌++◌, map}
use Rattle.std.specs.Prelude.{string_bytes}
use Rattle.std.specs.List.{flat_map}
use Rattle.bib_keys.specs.Commands.{without_name}
use Rattle.bib_keys.proofs.commands.without_names.Given as goal

abbrev pub invariant-commands : goal.invariant-commands
invariant-commands l =
    string_bytes l.out ≡ string_bytes l.initial.out ++ flat_map (without_name l.is_math) (map (λ command. command.now) l.yielded)
