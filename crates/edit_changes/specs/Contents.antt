-- Machinery: words of private contracts.
-- What a comparison keeps beside its versions.
use Rattle.std.specs.Prelude.{◌≡◌}
use Rattle.edit_changes.specs.Renames.{lone_contents}
use Rattle.edit_changes.specs.declared.changes.Comparison.{Comparison}

-- the contents of the units of each version that the other one lacks
pub record AreLoneContents (c : Comparison) : Type 0 where
  pub old : c.old_contents.now ≡ lone_contents c.old.now c.new.now
  pub new : c.new_contents.now ≡ lone_contents c.new.now c.old.now
