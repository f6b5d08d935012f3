-- Meaning: words of public contracts.
-- The merge of three versions of an entry by its fields.
use Rattle.std.specs.Prelude.{ℕ, Bool, List, [], ◌∷◌, Option, Some, None}
use Rattle.bib_syntax.specs.Reading.{FileReading}
use Rattle.edit_entries.specs.Documents.{Document}
use Rattle.edit_entry_merge.specs.Choices.{conflicts, other_side, takes_other, version_at}
use Rattle.edit_entry_merge.specs.Frames.{frame_choice}
use Rattle.edit_entry_merge.specs.Mixed.{mixed_text}
use Rattle.edit_entry_merge.specs.Picks.{merged_fields}
use Rattle.edit_entry_merge.specs.Versions.{Version, EntryVersions, entry_versions}
use Rattle.edit_entry_merge.specs.declared.choices.Side.{Side}
use Rattle.edit_entry_merge.specs.declared.choices.Side.TheVariants.{Ours, Theirs}

-- The merge of an entry: it isn't merged by fields, or it has one text, or the fields with these names conflict. Then there are two texts:
-- the first has the values of ours for these fields, and the second those of theirs
pub data MergeReading : Type 0 where
  whole : MergeReading
  merged : List ℕ → MergeReading
  fields : List ℕ → List ℕ → List (List ℕ) → MergeReading

-- the reading of a file whose only entry is that of the main version, with the merged fields
abbrev pub merged_reading : FileReading → (List ℕ → Bool) → Version → Version → FileReading
merged_reading says takes main other =
    record says { entries = (record main.entry { fields = merged_fields takes main other }) ∷ [] }

-- the text of the side `main` with the fields that count, if conflicts are resolved to `prefer`
abbrev pub text_for : EntryVersions → Side → Side → Option (List ℕ)
text_for vs main prefer = mixed_text (takes_other vs main prefer) (version_at vs main) (version_at vs (other_side main))

-- the merge, given its two texts and the conflicting names
abbrev pub merge_by : Option (List ℕ) → Option (List ℕ) → List (List ℕ) → MergeReading
merge_by None theirs names = MergeReading.whole
merge_by (Some ours) theirs [] = MergeReading.merged ours
merge_by (Some ours) None (n ∷ ns) = MergeReading.whole
merge_by (Some ours) (Some theirs) (n ∷ ns) = MergeReading.fields ours theirs (n ∷ ns)

-- the merge, given the side whose text is edited
abbrev pub merge_in : EntryVersions → Option Side → MergeReading
merge_in vs None = MergeReading.whole
merge_in vs (Some main) = merge_by (text_for vs main Ours) (text_for vs main Theirs) (conflicts vs)

-- the merge of versions, if there are some
abbrev pub merge_versions : Option EntryVersions → MergeReading
merge_versions None = MergeReading.whole
merge_versions (Some vs) = merge_in vs (frame_choice vs)

-- the merge of three documents with one entry each; the base may be absent
abbrev pub entry_merge : Option Document → Document → Document → MergeReading
entry_merge base ours theirs = merge_versions (entry_versions base ours theirs)
