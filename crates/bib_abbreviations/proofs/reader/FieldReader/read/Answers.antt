use Rattle.std.proofs.Common.{ap, map, ◌∙◌}
use Rattle.bib_abbreviations.specs.Abbreviations.{given_by, sorted_in}
use Rattle.bib_tables.specs.VerbatimFields.{is_verbatim_field}
use Rattle.bib_syntax.specs.Views.{piece_of}
use Rattle.bib_abbreviations.proofs.AbbreviationFacts.{contents_readable, contents_same_rule, refused_not_readable, refused_same_rule, sorted_given}
use Rattle.bib_abbreviations.proofs.reader.FieldReader.read.Goals as goal

pub returns-then-is_verbatim-clause-contents : goal.returns-then-is_verbatim-clause-contents
returns-then-is_verbatim-clause-contents c =
    contents_same_rule (sorted_in c.self.inside.definitions) (given_by c.args.self.now)
    c.is_verbatim_field-is_verbatim.result (is_verbatim_field c.args.key.now)
    (map piece_of c.args.field.now.items) c.read.result
    (sorted_given c.self.inside.definitions ∙ ap given_by c.self.view_is) c.is_verbatim_field-is_verbatim.ensures
    c.read.ensures.contents

pub returns-then-is_verbatim-clause-readable : goal.returns-then-is_verbatim-clause-readable
returns-then-is_verbatim-clause-readable c =
    rw (← c.self.view_is, ← sorted_given c.self.inside.definitions) (contents_readable
    (sorted_in c.self.inside.definitions) c.is_verbatim_field-is_verbatim.result (is_verbatim_field c.args.key.now)
    (map piece_of c.args.field.now.items) c.read.result c.is_verbatim_field-is_verbatim.ensures
    c.read.ensures.contents)

pub returns-then-is_verbatim-clause-refused : goal.returns-then-is_verbatim-clause-refused
returns-then-is_verbatim-clause-refused c =
    refused_not_readable (given_by c.args.self.now) c.is_verbatim_field-is_verbatim.result
    (is_verbatim_field c.args.key.now) (map piece_of c.args.field.now.items) c.read.result
    c.is_verbatim_field-is_verbatim.ensures
    (refused_same_rule _ _ _ _ _ (sorted_given c.self.inside.definitions ∙ ap given_by c.self.view_is)
    c.read.ensures.refused)

pub returns-else-is_verbatim-clause-contents : goal.returns-else-is_verbatim-clause-contents
returns-else-is_verbatim-clause-contents c =
    contents_same_rule (sorted_in c.self.inside.definitions) (given_by c.args.self.now)
    c.is_verbatim_field-is_verbatim.result (is_verbatim_field c.args.key.now)
    (map piece_of c.args.field.now.items) c.read-else-is_verbatim.result
    (sorted_given c.self.inside.definitions ∙ ap given_by c.self.view_is) c.is_verbatim_field-is_verbatim.ensures
    c.read-else-is_verbatim.ensures.contents

pub returns-else-is_verbatim-clause-readable : goal.returns-else-is_verbatim-clause-readable
returns-else-is_verbatim-clause-readable c =
    rw (← c.self.view_is, ← sorted_given c.self.inside.definitions) (contents_readable
    (sorted_in c.self.inside.definitions) c.is_verbatim_field-is_verbatim.result (is_verbatim_field c.args.key.now)
    (map piece_of c.args.field.now.items) c.read-else-is_verbatim.result c.is_verbatim_field-is_verbatim.ensures
    c.read-else-is_verbatim.ensures.contents)

pub returns-else-is_verbatim-clause-refused : goal.returns-else-is_verbatim-clause-refused
returns-else-is_verbatim-clause-refused c =
    refused_not_readable (given_by c.args.self.now) c.is_verbatim_field-is_verbatim.result
    (is_verbatim_field c.args.key.now) (map piece_of c.args.field.now.items) c.read-else-is_verbatim.result
    c.is_verbatim_field-is_verbatim.ensures
    (refused_same_rule _ _ _ _ _ (sorted_given c.self.inside.definitions ∙ ap given_by c.self.view_is)
    c.read-else-is_verbatim.ensures.refused)
