use Rattle.bib_keys.proofs.suffixes.+push_suffix.Given as goal

abbrev pub decreases-push_suffix : goal.decreases-push_suffix
decreases-push_suffix l = l.number
