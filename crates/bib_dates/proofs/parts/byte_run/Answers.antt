use Rattle.bib_dates.proofs.Cuts.{after_bytes}
use Rattle.bib_dates.proofs.parts.byte_run.Goals as goal

pub split_at-requires : goal.split_at-requires
split_at-requires c = after_bytes c.args.byte c.args.text.now _ c.utf8.text c.requires c.byte_run_len-len.ensures
