use Rattle.std.proofs.Common.{◌≡◌, ◌∙◌, ◌++◌, ◌<◌, ℕ, suc, ap, arith, length, map, sym}
use Rattle.std.specs.BTreeSet.{contains_text}
use Rattle.std.specs.List.{list_any}
use Rattle.std.proofs.lemmas.List.{get_or-map, length-map}
use Rattle.bib_syntax.specs.Reading.{EntryReading}
use Rattle.bib_syntax.specs.Views.{entry_reading_of}
use Rattle.edit_strings.proofs.ListFacts.{flat_step}
use Rattle.edit_resolve.specs.Parents.{entry_at, no_reading}
use Rattle.edit_resolve.specs.Resolved.{all_fields, fields_by, is_read_as}
use Rattle.edit_resolve.specs.Uninherited.{has_read_name, uninherited, uninherited_in}
use Rattle.edit_resolve.specs.Views.{uninherited_list}
use Rattle.edit_resolve.specs.Working.{fields_at, named_of, readings}
use Rattle.edit_resolve.proofs.UninheritedFacts.{uninherited_alike}
use Rattle.edit_resolve.proofs.uninherited.file_fields.Goals as goal

pub fields_of-requires : goal.fields_of-requires
fields_of-requires c = omega (arith, c.requires.as_many, c.entries-test.true)

pub child_at-requires-clause-entry : goal.child_at-requires-clause-entry
child_at-requires-clause-entry c =
    sym
    (get_or-map entry_reading_of c.args.file.now.entries.now c.entries.index c.entry-item.result no_reading c.entries-test.true
    ∙ ap entry_reading_of (sym c.entry-item.is))

pub entries-preserved : goal.entries-preserved
entries-preserved c =
    let es = readings c.args.file.now in
    let i : ℕ = c.entries.index in
    let e : EntryReading = entry_reading_of c.entry-item.result in
    let fields = fields_at c.args.fields.now in
    let names = contains_text c.in_ok-child.child.names in
    let within : i < length es =
    omega (arith, c.entries-test.true, length-map c.args.file.now.entries.now entry_reading_of) in
    let at : entry_at es i ≡ e =
    get_or-map entry_reading_of c.args.file.now.entries.now i c.entry-item.result no_reading c.entries-test.true
    ∙ ap entry_reading_of (sym c.entry-item.is) in
    let all : map named_of c.fields_of.result.now ≡ fields_by es (all_fields es) e =
    c.fields_of.ensures ∙ c.requires.along i (suc (length es)) within (omega arith) ∙ ap (fields_by es (all_fields es)) at in
    let child : entry_reading_of c.in_ok-child.child.entry.now ≡ e = ap entry_reading_of c.in_ok-child.ensures.entry in
    flat_step entry_reading_of c.args.file.now.entries.now i c.entry-item.result c.entries-test.true c.entry-item.is
    (λ e. uninherited_in es (all_fields es) (has_read_name es e) e) (uninherited_list c.entries.found.items)
    (uninherited_list c.push_by_entry.new.found.items) (uninherited es)
    (c.in_ok-push_by_entry.ensures
    ∙ ap (λ e. uninherited_list c.entries.found.items ++ uninherited_in es fields names e) child
    ∙ ap (λ l. uninherited_list c.entries.found.items ++ l)
    (uninherited_alike es fields (all_fields es) names (has_read_name es e) (λ j below. c.requires.along j (length es) below (omega arith))
    (λ name. c.in_ok-child.ensures.names name ∙ ap (list_any (is_read_as name)) all) e)) c.entries.invariant
