-- The entries of a file in which a field is unset.
use Rattle.std.proofs.Common.{◌≡◌, ℕ, ◌<◌, List, false, cond, length, map, refl, sym, ap, ◌∙◌, subst, Some, None, Option}
use Rattle.std.specs.Prelude.{bytes_eq, codes, ◌||◌}
use Rattle.std.specs.Cmp.Lexicographic.{nat_list_eq_equiv}
use Rattle.std.specs.Str.{str_to_ascii_lowercase}
use Rattle.std.proofs.lemmas.List.{length-map}
use Rattle.std.proofs.lemmas.Option.{slice_get_within}
use Rattle.bib_chunks.specs.Styled.{Atom}
use Rattle.bib_collections.specs.Graph.{refs_of}
use Rattle.bib_entry.specs.declared.entry.Entry.{Entry}
use Rattle.bib_file_entries.specs.Bibliography.{Bibliography}
use Rattle.bib_file_entries.specs.Loaded.{definition_in, field_in}
use Rattle.bib_inheritance.specs.EntryTexts.{EntryTexts, fields_of, first_some}
use Rattle.bib_inheritance.specs.References.{references}
use Rattle.bib_inheritance.specs.InheritableDate.{date_for}
use Rattle.bib_inheritance.specs.Inherited.{date_parts, field_by, inherited_field, with_inherited_fields}
use Rattle.bib_inheritance.specs.Resolving.{Inherits, at_index, texts_of_entries, texts_of_entry}
use Rattle.bib_syntax.specs.Reading.{EntryReading}
use Rattle.bib_syntax.specs.declared.raw.ParseError.{ParseError}
use Rattle.bib_tables.specs.Requirements.{is_one_of}
use Rattle.bib_text.proofs.ListFacts.{some_same}
use Rattle.biblatex.specs.Resolved.{AreOwn, IsAccepted, IsFirstErrorOf, IsLoaded, graph_of, names_of}
use Rattle.edit_entries.specs.Documents.{Document}
use Rattle.edit_entries.specs.Unset.{FieldUnset, without_named}
use Rattle.edit_laws.proofs.AcceptedFacts.{still_accepted}
use Rattle.edit_laws.proofs.DifferFacts.{IsUnlinked}
use Rattle.edit_laws.proofs.FieldFacts.{unset_absent, unset_others, unset_readable}
use Rattle.edit_laws.proofs.LiftFacts.{at_texts, inherits_by}
use Rattle.edit_laws.proofs.ReplacedFacts.{IsReplaced, differ_at, field_absent, replaced_at, replaced_key, with_field_texts}
use Rattle.edit_laws.proofs.SetFacts.{key_is}
use Rattle.edit_laws.proofs.TextFacts.{HasText, own_at}
use Rattle.edit_laws.specs.OneField.{AreUnset, IsInherited}

-- an entry with a key is replaced by itself without the fields of a name
pub record IsUnsetRead (d after : Document) (key name : List ℕ) : Type 0 where
  pub k : ℕ
  pub e : EntryReading
  pub replaced : IsReplaced d.says after.says k e (without_named name e)
  pub is : e.key.text ≡ key

pub unset_read : {d after : Document} {key name : List ℕ} → FieldUnset d key name after → IsUnsetRead d after key name
unset_read (FieldUnset.unset {k = k} {e = e} entry some text alike) = record {
  k = k;
  e = e;
  replaced = record { here = entry.here; key = refl; kind = refl; alike = alike };
  is = key_is entry;
}

-- an unlinked field that an entry lacks itself is the inherited one
inherited_by : (own : EntryTexts) (references : List EntryTexts) (name : List ℕ) → IsUnlinked name → own.fields name ≡ None
    → (with_inherited_fields own references).fields name ≡ inherited_field own.entry_type name references
inherited_by own references name apart lacks = by_date (date_for own references)
  where
    offered : List ℕ → Option (List Atom)
    offered n = inherited_field own.entry_type n references

    plain_field : cond (bytes_eq name (codes "xdata")) None (first_some (own.fields name) (offered name)) ≡ offered name
    plain_field =
        ap (λ b. cond b None (first_some (own.fields name) (offered name)))
        (nat_list_eq_equiv.symm name (codes "xdata") ∙ apart.xdata)
        ∙ ap (λ o. first_some o (offered name)) lacks

    by_date : (date : Option (List Atom)) → field_by date own.fields offered name ≡ offered name
    by_date None = plain_field
    by_date (Some d) =
        ap
        (λ b.
        cond b (Some d)
        (cond (is_one_of date_parts name) None (cond (bytes_eq name (codes "xdata")) None (first_some (own.fields name) (offered name)))))
        (nat_list_eq_equiv.symm name (codes "date") ∙ apart.date)
        ∙ ap
        (λ b.
        cond (b || (bytes_eq (codes "month") name || (bytes_eq (codes "day") name || false))) None
        (cond (bytes_eq name (codes "xdata")) None (first_some (own.fields name) (offered name)))) apart.year
        ∙ ap
        (λ b.
        cond (b || (bytes_eq (codes "day") name || false)) None
        (cond (bytes_eq name (codes "xdata")) None (first_some (own.fields name) (offered name)))) apart.month
        ∙ ap
        (λ b. cond (b || false) None (cond (bytes_eq name (codes "xdata")) None (first_some (own.fields name) (offered name)))) apart.day
        ∙ plain_field

module _ {d after : Document} {key name : List ℕ} (r : IsUnsetRead d after key name) where
  abbrev lower : List ℕ
  lower = str_to_ascii_lowercase name

  unset_has : HasText (definition_in d.says.abbreviations) (field_in (without_named name r.e).fields lower) None
  unset_has =
      subst (λ o. HasText (definition_in d.says.abbreviations) o None) (sym (unset_absent name r.e.fields)) refl

  pub unset_own : (own others : List Entry) → AreOwn d.says own → AreOwn after.says others → AreUnset own others key lower
  unset_own own others first second =
      let at = own_at r.k r.e first r.replaced.here in
      let differ = differ_at r.replaced own others lower None first second (unset_others name r.e.fields) unset_has in
      record {
        index = r.k;
        differ = differ;
        is = ap (λ (x : Entry). x.key) (some_same (sym differ.here ∙ at.1)) ∙ at.2.key ∙ r.is;
      }

  -- if the old file is accepted and the field is unlinked, the new file has no error
  pub unset_accepted : {error : ParseError} → IsUnlinked lower → IsAccepted d.says → IsFirstErrorOf after.says error → ⊥
  unset_accepted apart accepted error =
      still_accepted r.replaced lower None apart accepted
      (λ t are.
      with_field_texts (definition_in d.says.abbreviations) r.e (without_named name r.e) t lower None are r.replaced.kind
      (unset_others name r.e.fields) unset_has)
      (unset_readable name (definition_in d.says.abbreviations) r.e.fields)
      (λ others second.
      differ_at r.replaced accepted.own others lower None accepted.entries second (unset_others name r.e.fields) unset_has)
      error

  -- in a bibliography, an unlinked field of the entry is the one that the entry inherits, or missing if it inherits none
  pub unset_inherited : {bibliography : Bibliography} (own : List Entry) → AreOwn after.says own → IsLoaded after.says bibliography
      → IsUnlinked lower → IsInherited own bibliography key lower
  unset_inherited {bibliography} own are loaded apart =
      let at = replaced_at r.replaced own are in
      let texts = texts_of_entry at.1 in
      let values = texts_of_entries bibliography.entries in
      let lacks : texts.fields lower ≡ None = field_absent r.replaced own are lower (unset_absent name r.e.fields) in
      let solves : Inherits (texts_of_entries own) (graph_of own) values = inherits_by after.says loaded own are in
      let within : r.k < length (graph_of own) =
      subst (λ n. r.k < n) (sym (length-map own (λ (e : Entry). references (names_of own) (fields_of e.fields))))
      (slice_get_within own r.k at.1 at.2) in
      record {
        index = r.k;
        entry = at.1;
        here = at.2;
        is = replaced_key r.replaced own are ∙ r.is;
        field =
            ap (λ (t : EntryTexts). t.fields lower)
            (solves.each r.k within
            ∙ ap (λ t. with_inherited_fields t (map (at_index values) (refs_of (graph_of own) r.k))) (at_texts own r.k at.1 at.2))
            ∙ inherited_by texts (map (at_index values) (refs_of (graph_of own) r.k)) lower apart lacks;
      }
