use Rattle.std.proofs.Common.{◌≡◌, ◌++◌, drop}
use Rattle.std.specs.List.{enumerate_from, flat_map}
use Rattle.std.specs.String.{string_bytes}
use Rattle.bibkit_versions.specs.Objects.{array_element}
use Rattle.bibkit_versions.proofs.objects.push_objects.Given as goal

-- the text so far, and the remaining objects, are the old text and all objects. The positions are in the texts of the versions
abbrev pub invariant-changes : goal.invariant-changes
invariant-changes l = record {
  written :
      string_bytes l.text ++ flat_map (array_element l.old l.new) (enumerate_from l.index (drop l.index l.changes))
      ≡ string_bytes l.initial.text ++ flat_map (array_element l.old l.new) (enumerate_from 0 l.changes);
  old : l.positions.in_old ≡ l.old.text;
  new : l.positions.in_new ≡ l.new.text;
}
