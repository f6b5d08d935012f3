use Rattle.std.proofs.Common.{◌≡◌}
use Rattle.std.specs.List.{flat_map}
use Rattle.std.specs.String.{string_bytes}
use Rattle.bibkit_core.specs.Escapes.{escaped_character}
use Rattle.bibkit_core.proofs.escapes.escaped.Given as goal

abbrev pub invariant-characters : goal.invariant-characters
invariant-characters l = string_bytes l.new ≡ flat_map (escaped_character l.context) l.yielded
