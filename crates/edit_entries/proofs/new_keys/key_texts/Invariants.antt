use Rattle.std.proofs.Common.{◌≡◌, map, take}
use Rattle.bib_syntax.specs.Views.{entry_reading_of}
use Rattle.edit_entries.proofs.new_keys.key_texts.Given as goal

-- the list contains the keys of the entries so far
abbrev pub invariant-entries : goal.invariant-entries
invariant-entries l = map (λ k. k.now) l.keys.items ≡ map (λ e. e.key.text) (map entry_reading_of (take l.entry-index l.entries))
