use Rattle.edit_entry_merge.proofs.LineFacts.{equal_marked}
use Rattle.edit_entry_merge.proofs.laws.equal_texts_have_no_markers.Goals as goal

pub returns : goal.returns
returns c m text new marked = equal_marked m text new marked
