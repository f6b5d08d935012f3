-- The fields of a document can be copied: their names and values.
use Rattle.std.proofs.Common.{◌≡◌, ℕ, ◌≤◌, Bool, true, false, cond, List, [], ◌∷◌, ◌++◌, codes, length, drop, refl, sym, ap, ◌∙◌, subst, arith, append-nil}
use Rattle.std.specs.Prelude.{encode_utf8, bytes_eq}
use Rattle.std.specs.Char.{is_ascii_whitespace}
use Rattle.std.specs.List.{AllByRecursion, list_all}
use Rattle.std.proofs.lemmas.Bool.{and_parts}
use Rattle.std.proofs.lemmas.List.{drop_all}
use Rattle.bib_text.specs.Places.{Place, place, between}
use Rattle.bib_text.proofs.PlaceFacts.{ahead_char, ahead_run, ahead_then, char_left, char_within, stops_at_end}
use Rattle.bib_syntax.specs.Characters.{is_id_continue}
use Rattle.bib_syntax.specs.Grammar.{Field, Identifier, longest}
use Rattle.bib_syntax.specs.Reading.{FieldReading, Part, part}
use Rattle.bib_syntax.proofs.FieldFacts.{ahead_field, ahead_identifier}
use Rattle.edit_entries.specs.Documents.{CanBeName, Document}
use Rattle.edit_entries.specs.Layouts.{after_equals, before_equals, sign_at}
use Rattle.edit_entries.proofs.AllFacts.{all_found}
use Rattle.edit_entries.proofs.ElementFacts.{char_parted}
use Rattle.edit_entries.proofs.EntryFacts.{ahead_to_field}
use Rattle.edit_entries.proofs.LayoutFacts.{signs_at}
use Rattle.edit_entries.proofs.NewFieldFacts.{AreSigns, CanBePut, IsSign, usual_sign}
use Rattle.edit_entries.proofs.NewValueFacts.{after_ending}
use Rattle.edit_entries.proofs.SplitFacts.{split_fields, split_file}
use Rattle.edit_entries.proofs.StandsFacts.{AreWhite, Stands, char_stands, first_part, last_part, past}
use Rattle.edit_entries.proofs.TrimmedFacts.{trimmed_known}
use Rattle.edit_entries.proofs.ValueFacts.{field_placed}
use Rattle.edit_entries.proofs.WhiteBeforeFacts.{white_ascii}
use Rattle.edit_entry_merge.specs.Mixed.{copied_field, has_plain_sign, own_sign, sign_for}
use Rattle.edit_entry_merge.specs.Versions.{Version}
use Rattle.edit_entry_merge.specs.Working.{IsReadVersion}
use Rattle.edit_entry_merge.proofs.CopiedFacts.{copied_read, run_copied}
use Rattle.edit_entry_merge.proofs.MixedFacts.{document_of, only_has}

-- ---- names

-- the text of a parsed name can be a name
name_can : {a b : Place} {p : Part} → b.at ≤ length a.text → Identifier longest a p b → CanBeName (between a b)
name_can {a} {b} {p} within i =
    let text : List ℕ = between a b in
    let u : Place = place text 0 in
    let v : Place = place text (length text) in
    let rest : drop (length text) text ≡ [] = drop_all (length text) text (omega arith) in
    let stands : Stands u text v = record {
      same = refl;
      here = sym (append-nil text) ∙ ap (λ t. text ++ t) (sym rest);
      next = omega arith;
    } in
    let s = subst (λ t. Stands u t v) (char_parted i.here (ahead_run i.rest.run) within) stands in (
      part u v,
      record {
        second = past u (encode_utf8 i.first);
        first = i.first;
        here = char_stands i.first (first_part (encode_utf8 i.first) (between i.second b) s);
        starts = i.starts;
        rest = record {
          run =
              run_copied i.rest.run (omega (arith, within, ap length i.here.same))
              (last_part (encode_utf8 i.first) (between i.second b) s);
          stops = stops_at_end is_id_continue refl;
        };
        reading = refl;
      },
    )

field_can : {u v : Place} {f : FieldReading} → Field longest u f v → CanBeName f.name.text
field_can field =
    let to_sign = ahead_then (ahead_identifier field.name) (ahead_run field.white.run) in
    subst CanBeName (sym (ap (λ p. p.text) field.name.reading))
    (name_can (omega (arith, (ahead_run field.white.run).at, char_left field.sign, ap length to_sign.text)) field.name)

-- ---- fields

-- each field of a version can be copied
pub fields_can : (v : Version) → IsReadVersion v → AllByRecursion (λ f. CanBePut (copied_field v.text f)) v.entry.fields
fields_can v r =
    let d : Document = document_of v r in
    only_has (λ e. AllByRecursion (λ f. CanBePut (copied_field v.text f)) e.fields) v r
    (all_found (λ e. AllByRecursion (λ f. CanBePut (copied_field v.text f)) e.fields) r.says.entries
    (λ k e here.
    all_found (λ f. CanBePut (copied_field v.text f)) e.fields
    (λ j f there.
    let s = split_file k e r.read here in
    let g = split_fields j f s.block.fields there in
    let to_field = ahead_to_field s g in
    let closes = after_ending g.rest s.block.closes in
    record {
      name = field_can g.field;
      value =
          copied_read v.text f to_field.text
          (omega (
            arith,
            char_within closes.here,
            (ahead_char closes.here).at,
            ap length closes.here.same,
            ap length (ahead_field g.field).text,
            ap length to_field.text,
          ))
          g.field (trimmed_known v.text f r.utf8 (field_placed d k e j f r.read here there));
    })))

-- ---- signs

whites : (bytes : List ℕ) → list_all is_ascii_whitespace bytes ≡ true → AreWhite bytes
whites [] all = tt
whites (b ∷ bs) all =
    let parts = and_parts (is_ascii_whitespace b) (list_all is_ascii_whitespace bs) all in
    (white_ascii b parts.0, whites bs parts.1)

own_sign_is : (text : List ℕ) (f : FieldReading) → IsSign (own_sign text f)
own_sign_is text f = by_case (has_plain_sign text f) refl
  where
    by_case : (b : Bool) → has_plain_sign text f ≡ b
        → IsSign (cond b (before_equals text f ++ 61 ∷ after_equals text f) (codes " = "))
    by_case false is = usual_sign
    by_case true is =
        let parts =
        and_parts (list_all is_ascii_whitespace (before_equals text f)) (list_all is_ascii_whitespace (after_equals text f)) is in
        record {
          before = before_equals text f;
          after = after_equals text f;
          is = refl;
          white = whites (before_equals text f) parts.0;
          white' = whites (after_equals text f) parts.1;
        }

pub signs_for : (text : List ℕ) (f : FieldReading) (fields : List FieldReading) → AreSigns (sign_for text f fields)
signs_for text f fields name = by_case (bytes_eq name f.name.text)
  where
    by_case : (b : Bool) → IsSign (cond b (own_sign text f) (sign_at text f fields name))
    by_case true = own_sign_is text f
    by_case false = signs_at text f fields name
