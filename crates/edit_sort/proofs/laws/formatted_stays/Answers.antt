use Rattle.edit_sort.proofs.FormatFacts.{sorted_in_style_stays}
use Rattle.edit_sort.proofs.laws.formatted_stays.Goals as goal

pub returns : goal.returns
returns c style d places order again after new read in_order read' read'' is text =
    sorted_in_style_stays style d places order again after new read in_order read' read'' is text
