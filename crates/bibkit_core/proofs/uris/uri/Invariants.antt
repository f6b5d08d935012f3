use Rattle.std.proofs.Common.{◌≡◌, take}
use Rattle.std.specs.List.{flat_map}
use Rattle.std.specs.String.{string_bytes}
use Rattle.bibkit_core.specs.Uris.{path_byte}
use Rattle.bibkit_core.proofs.uris.uri.Given as goal

abbrev pub invariant-bytes : goal.invariant-bytes
invariant-bytes l = string_bytes l.uri ≡ flat_map path_byte (take l.byte-index l.byte-items)
