use Rattle.std.proofs.Common.{refl}
use Rattle.bibkit_core.proofs.database.DatabaseTask.file.Goals as goal

pub returns : goal.returns
returns c = record {
  none = c.new.ensures.bytes;
  lint = refl;
  document = refl;
  file = record { name = c.in_ok-from_str.field-0; bytes = c.in_ok-from_slice.field-0; decoded = c.in_ok-decoded.decoded };
  name_is = c.in_ok-from_str.ensures.ok;
  bytes_are = c.in_ok-from_slice.ensures.items;
  decoded = c.in_ok-decoded.ensures;
  files = c.in_ok-push.ensures.items;
}
