-- The fields that findings name for the requirements that an entry doesn't meet.
use Rattle.std.proofs.Common.{◌≡◌, Bool, not, List, [], ◌++◌, map, sym, ap, ◌∙◌}
use Rattle.std.specs.List.{filter}
use Rattle.std.proofs.lemmas.List.{map-append}
use Rattle.std.proofs.lemmas.List.Elements.{filter-append}
use Rattle.bib_entry.specs.declared.entry.Entry.{Entry}
use Rattle.bib_syntax.specs.Reading.{EntryReading}
use Rattle.bib_tables.specs.Requirements.{Names}
use Rattle.bib_findings.specs.Demands.{date_demand, demanded_field, demands_of, is_met, missing_fields, unmet_fields}

-- the fields for the unmet ones of two lists of requirements are those for the first list, and then those for the second
unmet-append : (said : EntryReading) (entry : Entry) (demands others : List Names)
    → unmet_fields said entry (demands ++ others) ≡ unmet_fields said entry demands ++ unmet_fields said entry others
unmet-append said entry demands others =
    let unmet : Names → Bool = λ demand. not (is_met said entry demand) in
    ap (map (demanded_field said)) (filter-append unmet demands others)
    ∙ map-append (demanded_field said) (filter unmet demands) (filter unmet others)

-- the fields for the unmet requirements are those for the unmet ones of the type, and then those for the unmet ones of a date
pub unmet_in_turn : (said : EntryReading) (entry : Entry) (none first all : Names) (demands dates : List Names)
    → none ≡ [] → first ≡ none ++ unmet_fields said entry demands → all ≡ first ++ unmet_fields said entry dates
    → demands ≡ demands_of said.kind.text → dates ≡ date_demand said.kind.text → all ≡ missing_fields said entry
unmet_in_turn said entry none first all demands dates empty before after demands_are dates_are =
    after ∙ ap (λ l. l ++ unmet_fields said entry dates) (before ∙ ap (λ l. l ++ unmet_fields said entry demands) empty)
    ∙ sym (unmet-append said entry demands dates)
    ∙ ap (λ l. unmet_fields said entry (l ++ dates)) demands_are
    ∙ ap (λ l. unmet_fields said entry (demands_of said.kind.text ++ l)) dates_are
