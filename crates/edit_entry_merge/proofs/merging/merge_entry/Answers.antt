use Rattle.std.proofs.Common.{◌≡◌, ◌∙◌, ap, length, sym, false, Option, Some, None}
use Rattle.std.specs.Prelude.{◌==◌, option_map}
use Rattle.std.specs.String.{string_bytes}
use Rattle.edit_entries.specs.Documents.{Document}
use Rattle.edit_entry_merge.specs.Frames.{frame_choice}
use Rattle.edit_entry_merge.specs.Merges.{text_for}
use Rattle.edit_entry_merge.specs.Versions.{EntryVersions, entry_versions}
use Rattle.edit_entry_merge.specs.Working.{versions_reading}
use Rattle.edit_entry_merge.specs.declared.choices.Side.TheVariants.{Ours, Theirs}
use Rattle.edit_entry_merge.proofs.MergeFacts.{fields_is, merge_is, whole_is}
use Rattle.edit_entry_merge.proofs.merging.merge_entry.Goals as goal

pub returns-in_default-4 : goal.returns-in_default-4
returns-in_default-4 c =
    let base : Option Document = option_map (λ d. d.now) c.args.base in
    let vs : EntryVersions = versions_reading c.in-Some.versions in
    let are : Some vs ≡ entry_versions base c.args.ours.now c.args.theirs.now =
    ap (option_map versions_reading) (sym c.in-Some.is) ∙ c.in_ok-versions.ensures.versions in
    let frame : Some c.in-Some-2.main ≡ frame_choice vs = sym c.in-Some-2.is ∙ c.in_ok-main.ensures in
    let our_text : Some (string_bytes c.in-Some-3.our_text) ≡ text_for vs c.in-Some-2.main Ours =
    ap (option_map string_bytes) (sym c.in-Some-3.is) ∙ c.in_ok-our_text.ensures in
    let their_text : None ≡ text_for vs c.in-Some-2.main Theirs =
    ap (option_map string_bytes) (sym c.in_default-4.is) ∙ c.in_ok-their_text.ensures in
    let some : (length c.in_ok-names.names.items == 0) ≡ false =
    ap (λ l. length l == 0) (sym c.as_slice.ensures.value) ∙ sym c.is_empty.ensures ∙ c.if-is_empty.false in
    record {
      merge =
          whole_is (string_bytes c.in-Some-3.our_text) c.in_ok-names.names.items some
          ∙ merge_is base c.args.ours.now c.args.theirs.now vs c.in-Some-2.main (Some (string_bytes c.in-Some-3.our_text)) None
          c.in_ok-names.names.items are frame our_text their_text c.in_ok-names.ensures;
    }

pub returns : goal.returns
returns c =
    let base : Option Document = option_map (λ d. d.now) c.args.base in
    let vs : EntryVersions = versions_reading c.in-Some.versions in
    let are : Some vs ≡ entry_versions base c.args.ours.now c.args.theirs.now =
    ap (option_map versions_reading) (sym c.in-Some.is) ∙ c.in_ok-versions.ensures.versions in
    let frame : Some c.in-Some-2.main ≡ frame_choice vs = sym c.in-Some-2.is ∙ c.in_ok-main.ensures in
    let our_text : Some (string_bytes c.in-Some-3.our_text) ≡ text_for vs c.in-Some-2.main Ours =
    ap (option_map string_bytes) (sym c.in-Some-3.is) ∙ c.in_ok-our_text.ensures in
    let their_text : Some (string_bytes c.in-Some-4.their_text) ≡ text_for vs c.in-Some-2.main Theirs =
    ap (option_map string_bytes) (sym c.in-Some-4.is) ∙ c.in_ok-their_text.ensures in
    let some : (length c.in_ok-names.names.items == 0) ≡ false =
    ap (λ l. length l == 0) (sym c.as_slice.ensures.value) ∙ sym c.is_empty.ensures ∙ c.if-is_empty.false in
    record {
      merge =
          fields_is (string_bytes c.in-Some-3.our_text) (string_bytes c.in-Some-4.their_text) c.in_ok-names.names.items some
          ∙ merge_is base c.args.ours.now c.args.theirs.now vs c.in-Some-2.main (Some (string_bytes c.in-Some-3.our_text))
          (Some (string_bytes c.in-Some-4.their_text)) c.in_ok-names.names.items are frame our_text their_text c.in_ok-names.ensures;
    }
