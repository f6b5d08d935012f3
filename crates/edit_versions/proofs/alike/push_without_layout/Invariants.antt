use Rattle.std.proofs.Common.{◌≡◌, ◌++◌, drop, filter}
use Rattle.edit_versions.specs.Alike.{is_no_layout}
use Rattle.edit_versions.proofs.alike.push_without_layout.Given as goal

-- the bytes so far, followed by the remaining bytes without layout, are the result
abbrev pub invariant-bytes : goal.invariant-bytes
invariant-bytes l =
    l.kept.items ++ filter is_no_layout (drop l.byte-index l.bytes) ≡ l.fn.kept.items ++ filter is_no_layout l.bytes
