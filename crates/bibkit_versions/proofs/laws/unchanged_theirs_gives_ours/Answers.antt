use Rattle.bibkit_versions.proofs.WholeFacts.{theirs_unchanged}
use Rattle.bibkit_versions.proofs.laws.unchanged_theirs_gives_ours.Goals as goal

pub returns : goal.returns
returns c markers base side text conflicts units units' fits file = theirs_unchanged markers base side text conflicts units units' fits file
