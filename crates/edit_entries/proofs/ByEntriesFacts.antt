-- A file cut before each of its entries.
use Rattle.std.proofs.Common.{◌≡◌, inl, inr, [], ◌++◌, refl, sym, ap, ◌∙◌, subst}
use Rattle.std.specs.Prelude.{ℕ, ◌==◌, not, ◌&&◌, true}
use Rattle.bib_text.specs.Places.{Place, CharAt}
use Rattle.bib_syntax.specs.Reading.{EntryReading, FileReading, then}
use Rattle.bib_syntax.specs.Kept.{entry_alone}
use Rattle.bib_syntax.specs.Grammar.{LineComment, Block, File, longest}
use Rattle.bib_syntax.specs.Grammar.{File as file}
use Rattle.bib_syntax.proofs.FileFacts.{then-then}
use Rattle.edit_entries.proofs.SplitFacts.{EntryBlock, FileBefore, entry_block, one_entry}

pub data ByEntries : Place → FileReading → Type 0 where
  last : {u : Place} {says : FileReading} → File longest u says → says.entries ≡ [] → ByEntries u says
  more : {u s v : Place} {before rest : FileReading} {e : EntryReading} → FileBefore u before s → before.entries ≡ []
      → EntryBlock s e v → File longest v rest → ByEntries v rest
      → ByEntries u (then before (then (entry_alone e) rest))

after_skipped : {u v : Place} {c : ℕ} {says : FileReading} → CharAt u c v → not (c == 64) && not (c == 37) ≡ true
    → ByEntries v says → ByEntries u says
after_skipped char passes (ByEntries.last x none) = ByEntries.last (file.skipped char passes x) none
after_skipped char passes (ByEntries.more first none block x rest) = ByEntries.more (FileBefore.skipped char passes first) none block x rest

after_comment : {u v : Place} {says : FileReading} → LineComment u v → ByEntries v says → ByEntries u says
after_comment m (ByEntries.last x none) = ByEntries.last (file.line_comment m x) none
after_comment m (ByEntries.more first none block x rest) = ByEntries.more (FileBefore.line_comment m first) none block x rest

after_block : {u v : Place} {first says : FileReading} → Block longest u first v → first.entries ≡ [] → ByEntries v says
    → ByEntries u (then first says)
after_block {u} {v} {first} {says} b empty (ByEntries.last x none) =
    ByEntries.last (file.block b x) (ap (λ es. es ++ says.entries) empty ∙ none)
after_block {u} {v} {first} b empty (ByEntries.more {before = before} {rest = rest} {e = e} fb none block x others) =
    subst (λ r. ByEntries u r) (then-then first before (then (entry_alone e) rest))
    (ByEntries.more (FileBefore.block b fb) (ap (λ es. es ++ before.entries) empty ∙ none) block x others)

pub by_entries : {u : Place} {says : FileReading} → File longest u says → ByEntries u says
by_entries (file.end end) = ByEntries.last (file.end end) refl
by_entries (file.skipped char passes x) = after_skipped char passes (by_entries x)
by_entries (file.line_comment m x) = after_comment m (by_entries x)
by_entries {u} (file.block {first = first} {rest = rest} b x) =
    elim (one_entry b.body) [
      | inl none ↦ after_block b none (by_entries x)
      | inr one ↦ subst (λ r. ByEntries u (then r rest)) (sym one.1)
          (ByEntries.more FileBefore.none refl (entry_block one.0 b (ap (λ r. r.entries) one.1)) x (by_entries x))
    ]
