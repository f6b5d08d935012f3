use Rattle.std.proofs.Common.{◌≡◌, ◌++◌, drop, false}
use Rattle.edit_entry_merge.specs.Frames.{without_layout}
use Rattle.edit_entry_merge.proofs.frames.without_layout.Given as goal

-- the bytes so far, followed by the remaining ones without layout, are the result
abbrev pub invariant-bytes : goal.invariant-bytes
invariant-bytes l =
    l.kept.items ++ without_layout l.in_comment (drop l.byte-index l.bytes) ≡ without_layout false l.bytes
