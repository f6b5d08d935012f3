-- Facts about counting names, entries and findings one after another.
use Rattle.std.proofs.Common.{◌≡◌, ℕ, ◌+◌, List, [], ◌∷◌, ◌++◌, length, map, refl, sym, ap, subst, ◌∙◌, append_assoc, append-nil, arith, length-append}
use Rattle.std.specs.Prelude.{Option, codes, min}
use Rattle.std.specs.List.{flat_map}
use Rattle.std.proofs.lemmas.List.{map-append}
use Rattle.std.proofs.lemmas.List.Concat.{flat_map-append}
use Rattle.bib_findings.specs.Codes.{code_name}
use Rattle.bib_findings.specs.declared.finding.Finding.{Finding}
use Rattle.bib_syntax.specs.Reading.{EntryReading}
use Rattle.bibkit_core.specs.Running.{IsTaskPrinted}
use Rattle.bibkit_core.specs.Stats.{EndsCounted, PrintsCounted, counted_begins, lowercase_names, none_counted, type_name, years_in}
use Rattle.bibkit_core.specs.Totals.{AddsEntries, AddsFindings, AddsNames, AreCounted, AreCountsOf, EndsCounting, PrintsCounting}
use Rattle.bibkit_core.specs.declared.counting.Counting.{Counting}
use Rattle.bibkit_core.specs.declared.tables.Counts.{Counts}
use Rattle.bibkit_core.proofs.RunFacts.{printed_seen}

-- counting no names changes nothing
pub adds_no_names : (counts : Counts) → AddsNames [] counts counts
adds_no_names counts = record { adds = λ before was. subst (λ names. AreCounted names counts) (sym (append-nil before)) was }

-- counting `some` names and then `more` names counts all of them
pub adds_more_names : {some more : List (List ℕ)} {old mid new : Counts} → AddsNames some old mid
    → AddsNames more mid new → AddsNames (some ++ more) old new
adds_more_names {some} {more} {new = new} first second = record {
  adds = λ before was.
      subst (λ names. AreCounted names new) (append_assoc before some more)
      (second.adds (before ++ some) (first.adds before was));
}

-- adding one to a capped count gives the capped count of one more
one_counted : (n greatest : ℕ) → min (min n greatest + 1) greatest ≡ min (n + 1) greatest
one_counted n greatest = omega arith

-- adding one to the capped count of entries, and counting the type, the fields and the year of an entry, counts the entry
pub adds_entry : (e : EntryReading) (old new : Counting) → new.entries ≡ min (old.entries + 1) 18446744073709551615
    → AddsNames (type_name e ∷ []) old.types new.types → AddsNames (lowercase_names e.fields) old.fields new.fields
    → AddsNames (years_in e.fields) old.years new.years → new.findings ≡ old.findings → AddsEntries (e ∷ []) old new
adds_entry e old new one types fields years same = record {
  adds = λ all was. record {
    entries = one ∙ ap (λ n. min (n + 1) 18446744073709551615) was.entries ∙ one_counted (length all.entries) 18446744073709551615
        ∙ ap (λ n. min n 18446744073709551615) (sym (length-append all.entries (e ∷ [])));
    types =
        subst (λ names. AreCounted names new.types) (sym (map-append type_name all.entries (e ∷ [])))
        (types.adds (map type_name all.entries) was.types);
    fields = subst (λ names. AreCounted names new.fields)
        (ap (λ l. flat_map (λ (d : EntryReading). lowercase_names d.fields) all.entries ++ l)
        (sym (append-nil (lowercase_names e.fields)))
        ∙ sym (flat_map-append (λ (d : EntryReading). lowercase_names d.fields) all.entries (e ∷ [])))
        (fields.adds (flat_map (λ (d : EntryReading). lowercase_names d.fields) all.entries) was.fields);
    years = subst (λ names. AreCounted names new.years)
        (ap (λ l. flat_map (λ (d : EntryReading). years_in d.fields) all.entries ++ l)
        (sym (append-nil (years_in e.fields)))
        ∙ sym (flat_map-append (λ (d : EntryReading). years_in d.fields) all.entries (e ∷ [])))
        (years.adds (flat_map (λ (d : EntryReading). years_in d.fields) all.entries) was.years);
    findings = subst (λ counts. AreCounted (map (λ f. code_name f.code) all.found) counts) (sym same) was.findings;
  };
}

-- counting no entries changes nothing
pub adds_no_entries : (task : Counting) → AddsEntries [] task task
adds_no_entries task = record {
  adds = λ all was.
      subst (λ entries. AreCountsOf (record { entries = entries; found = all.found }) task)
      (sym (append-nil all.entries)) was;
}

-- counting `some` entries and then `more` entries counts all of them
pub adds_more_entries : {some more : List EntryReading} {old mid new : Counting} → AddsEntries some old mid
    → AddsEntries more mid new → AddsEntries (some ++ more) old new
adds_more_entries {some} {more} {new = new} first second = record {
  adds = λ all was.
      subst (λ entries. AreCountsOf (record { entries = entries; found = all.found }) new)
      (append_assoc all.entries some more) (second.adds _ (first.adds all was));
}

-- counting the name of the code of a finding counts the finding
pub adds_finding : (f : Finding) (old new : Counting) → new.entries ≡ old.entries → new.types ≡ old.types
    → new.fields ≡ old.fields → new.years ≡ old.years → AddsNames (code_name f.code ∷ []) old.findings new.findings
    → AddsFindings (f ∷ []) old new
adds_finding f old new entries types fields years findings = record {
  adds = λ all was. record {
    entries = entries ∙ was.entries;
    types = subst (λ counts. AreCounted (map type_name all.entries) counts) (sym types) was.types;
    fields =
        subst (λ counts. AreCounted (flat_map (λ (d : EntryReading). lowercase_names d.fields) all.entries) counts)
        (sym fields) was.fields;
    years = subst (λ counts. AreCounted (flat_map (λ (d : EntryReading). years_in d.fields) all.entries) counts) (sym years) was.years;
    findings =
        subst (λ names. AreCounted names new.findings)
        (sym (map-append (λ (g : Finding). code_name g.code) all.found (f ∷ [])))
        (findings.adds (map (λ g. code_name g.code) all.found) was.findings);
  };
}

-- counting no findings changes nothing
pub adds_no_findings : (task : Counting) → AddsFindings [] task task
adds_no_findings task = record {
  adds = λ all was.
      subst (λ found. AreCountsOf (record { entries = all.entries; found = found }) task) (sym (append-nil all.found))
      was;
}

-- counting `some` findings and then `more` findings counts all of them
pub adds_more_findings : {some more : List Finding} {old mid new : Counting} → AddsFindings some old mid
    → AddsFindings more mid new → AddsFindings (some ++ more) old new
adds_more_findings {some} {more} {new = new} first second = record {
  adds = λ all was.
      subst (λ found. AreCountsOf (record { entries = all.entries; found = found }) new)
      (append_assoc all.found some more) (second.adds _ (first.adds all was));
}

-- appending four tables in turn to the line with the number of entries gives the line followed by all tables
pub tables_after : (t0 t1 t2 t3 t4 a b c d first number : List ℕ) → t0 ≡ first ++ (number ++ codes "\n") → t1 ≡ t0 ++ a
    → t2 ≡ t1 ++ b → t3 ≡ t2 ++ c → t4 ≡ t3 ++ d
    → t4 ≡ first ++ (number ++ (codes "\n" ++ (a ++ (b ++ (c ++ d)))))
tables_after t0 t1 t2 t3 t4 a b c d first number e0 e1 e2 e3 e4 =
    e4 ∙ ap (λ t. t ++ d) (e3 ∙ ap (λ t. t ++ c) (e2 ∙ ap (λ t. t ++ b) (e1 ∙ ap (λ t. t ++ a) e0)))
    ∙ simp append_assoc

-- the output of the counting task is the output that `PrintsCounted` and `EndsCounted` specify
pub counts_seen : {F : Type 0} {reads : F → List ℕ → Option (List ℕ) → F → Type 0} {f : F} {names : List (List ℕ)}
    (task : Counting) → AreCountsOf none_counted task → (text : List ℕ) (status : Option ℕ)
    → IsTaskPrinted reads (λ t. []) PrintsCounting EndsCounting f task names text status
    → IsTaskPrinted reads counted_begins PrintsCounted EndsCounted f none_counted names text status
counts_seen task none text status printed =
    printed_seen (λ t s. AreCountsOf s t) (λ t s same. refl)
    (λ t t' s name bytes u same p. let counted = p.counted s same in (counted.0, (p.text_is, counted.1), counted.2))
    (λ t s u st same e. e.ends s same) task none_counted none text status printed
