use Rattle.std.proofs.Common.{◌≡◌, ◌++◌, drop, map}
use Rattle.std.specs.Prelude.{option_map}
use Rattle.bib_syntax.specs.Views.{entry_reading_of}
use Rattle.edit_merge.specs.RenameViews.{replacement_in}
use Rattle.edit_merge.proofs.renames.new_keys.Given as goal

-- the keys so far, and those of the remaining entries, are all keys
abbrev pub invariant-entries : goal.invariant-entries
invariant-entries l =
    map (option_map (λ k. k.now)) l.new.items
    ++ map (λ e. replacement_in l.keys e.key.text) (map entry_reading_of (drop l.entry-index l.entries))
    ≡ map (λ e. replacement_in l.keys e.key.text) (map entry_reading_of l.entries)
