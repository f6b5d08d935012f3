use Rattle.bibkit_versions.proofs.WholeFacts.{ours_unchanged}
use Rattle.bibkit_versions.proofs.laws.unchanged_ours_gives_theirs.Goals as goal

pub returns : goal.returns
returns c markers base side text conflicts units units' fits file = ours_unchanged markers base side text conflicts units units' fits file
