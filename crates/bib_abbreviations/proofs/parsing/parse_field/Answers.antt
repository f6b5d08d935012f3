use Rattle.std.proofs.Common.{map, refl}
use Rattle.bib_abbreviations.specs.Abbreviations.{defined_in}
use Rattle.bib_tables.specs.VerbatimFields.{is_verbatim_field}
use Rattle.bib_syntax.specs.Views.{piece_of}
use Rattle.bib_abbreviations.proofs.AbbreviationFacts.{contents_readable, contents_same_rule, refused_not_readable}
use Rattle.bib_abbreviations.proofs.parsing.parse_field.Goals as goal

pub returns-clause-contents : goal.returns-clause-contents
returns-clause-contents c =
    contents_same_rule (defined_in c.args.abbreviations.now) (defined_in c.args.abbreviations.now)
    c.is_verbatim_field.result (is_verbatim_field c.args.key.now) (map piece_of c.args.field.now.items)
    c.field_contents.result refl c.is_verbatim_field.ensures c.field_contents.ensures.contents

pub returns-clause-readable : goal.returns-clause-readable
returns-clause-readable c =
    contents_readable (defined_in c.args.abbreviations.now) c.is_verbatim_field.result (is_verbatim_field c.args.key.now)
    (map piece_of c.args.field.now.items) c.field_contents.result
    c.is_verbatim_field.ensures c.field_contents.ensures.contents

pub returns-clause-refused : goal.returns-clause-refused
returns-clause-refused c =
    refused_not_readable (defined_in c.args.abbreviations.now) c.is_verbatim_field.result
    (is_verbatim_field c.args.key.now) (map piece_of c.args.field.now.items) c.field_contents.result
    c.is_verbatim_field.ensures c.field_contents.ensures.refused
