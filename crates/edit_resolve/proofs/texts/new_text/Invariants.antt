use Rattle.std.proofs.Common.{◌≡◌, ◌++◌, map, drop}
use Rattle.std.specs.List.{AllByRecursion}
use Rattle.std.specs.String.{string_bytes}
use Rattle.edit_entries.specs.Changes.{more_field_texts, spaced_sign}
use Rattle.edit_entries.specs.Cuts.{ArePiecesCut}
use Rattle.edit_resolve.specs.Resolved.{new_field}
use Rattle.edit_resolve.specs.Working.{named_of}
use Rattle.edit_resolve.proofs.texts.new_text.Given as goal

abbrev pub invariant-more : goal.invariant-more
invariant-more l = record {
  written : string_bytes l.new ++ more_field_texts spaced_sign l.white (map (new_field l.text) (map named_of (drop l.named-index l.more)))
      ≡ string_bytes l.initial.new ++ more_field_texts spaced_sign l.white (map (new_field l.text) (map named_of l.more));
  cut : AllByRecursion (λ n. ArePiecesCut l.text n.field) (map named_of (drop l.named-index l.more));
}
