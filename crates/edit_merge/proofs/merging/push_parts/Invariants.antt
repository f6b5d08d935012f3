use Rattle.std.proofs.Common.{◌≡◌, ◌++◌, drop, map}
use Rattle.std.specs.String.{string_bytes}
use Rattle.edit_merge.specs.Merged.{text_behind}
use Rattle.edit_merge.specs.PartViews.{part_view}
use Rattle.edit_merge.proofs.merging.push_parts.Given as goal

-- the text so far, and that of the parts that are left, are the old text and that of all parts
abbrev pub invariant-parts : goal.invariant-parts
invariant-parts l =
    string_bytes l.text ++ text_behind l.after_text (map part_view (drop l.part-index l.parts)) l.end
    ≡ string_bytes l.initial.text ++ text_behind l.is_text (map part_view l.parts) l.end
