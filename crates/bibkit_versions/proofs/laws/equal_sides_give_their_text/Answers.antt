use Rattle.bibkit_versions.proofs.WholeFacts.{sides_the_same}
use Rattle.bibkit_versions.proofs.laws.equal_sides_give_their_text.Goals as goal

pub returns : goal.returns
returns c markers base side text conflicts units units' fits file = sides_the_same markers base side text conflicts units units' fits file
