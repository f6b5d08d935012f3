-- Meaning: words of public contracts.
-- The readings that values of the code represent.
use Rattle.std.specs.String.{string_bytes}
use Rattle.edit_entry_merge.specs.Merges.{MergeReading}
use Rattle.edit_entry_merge.specs.declared.merging.EntryMerge.{EntryMerge}
use Rattle.edit_entry_merge.specs.declared.merging.EntryMerge.TheVariants.{Whole, Merged, Fields}

-- the merge that a value of the code represents
abbrev pub merge_of : EntryMerge → MergeReading
merge_of Whole = MergeReading.whole
merge_of (Merged text) = MergeReading.merged (string_bytes text)
merge_of (Fields ours theirs names) = MergeReading.fields (string_bytes ours) (string_bytes theirs) names.items
