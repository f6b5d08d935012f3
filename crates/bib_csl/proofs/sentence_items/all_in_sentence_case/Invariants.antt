use Rattle.std.proofs.Common.{◌≡◌, ◌++◌, map}
use Rattle.std.specs.Vec.Iter.{into_iter_items}
use Rattle.bib_csl.specs.SentenceItems.{field_in_sentence_case}
use Rattle.bib_csl.proofs.sentence_items.all_in_sentence_case.Given as goal

abbrev pub invariant-fields : goal.invariant-fields
invariant-fields l =
    l.cased ++ map (field_in_sentence_case l.in_journal) (into_iter_items l.field-iterator)
    ≡ map (field_in_sentence_case l.in_journal) l.fn.fields
