use Rattle.std.proofs.Common.{◌++◌, ◌∙◌, ap, refl}
use Rattle.std.specs.Prelude.{codes, string_bytes}
use Rattle.std.specs.Fmt.{decimal}
use Rattle.bibkit_core.specs.Tables.{table_text}
use Rattle.bibkit_core.proofs.CountFacts.{tables_after}
use Rattle.bibkit_core.proofs.counting.CountingTask.end.Goals as goal

pub returns : goal.returns
returns c = record {
  ends = λ all same.
      let types = c.in_ok-push_by_count.ensures _ same.types in
      let fields = c.in_ok-push_by_count-2.ensures _ same.fields in
      let years = c.in_ok-push_by_name.ensures _ same.years in
      let findings = c.in_ok-push_by_count-3.ensures _ same.findings in
      record {
        types = types.0;
        fields = fields.0;
        years = years.0;
        findings = findings.0;
        types_are = types.1;
        fields_are = fields.1;
        years_are = years.1;
        findings_are = findings.1;
        is =
            tables_after (string_bytes c.in_ok-text.text) (string_bytes c.push_by_count.new.text)
            (string_bytes c.push_by_count-2.new.text) (string_bytes c.push_by_name.new.text)
            (string_bytes c.push_by_count-3.new.text)
            (table_text (codes "types") types.0) (table_text (codes "fields") fields.0)
            (table_text (codes "years") years.0) (table_text (codes "findings") findings.0) (codes "entries: ") _
            (c.in_ok-text.ensures.ok ∙ ap (λ n. codes "entries: " ++ (decimal n ++ codes "\n")) same.entries) types.2
            fields.2 years.2 findings.2;
        done = refl;
      };
}
