-- Byte offsets at which a text may be cut around its entries and their parts.
use Rattle.std.proofs.Common.{◌≡◌, ℕ, ◌+◌, ◌≤◌, Bool, List, ◌∷◌, ◌++◌, length, refl, sym, ap, ◌∙◌, subst, arith}
use Rattle.std.specs.List.{AllByRecursion}
use Rattle.std.specs.Str.{IsCharBoundary}
use Rattle.bib_text.specs.Places.{Place, place, CharAt, Run}
use Rattle.bib_text.specs.Places.Run.{stop, step}
use Rattle.bib_text.specs.Braces.{Parts}
use Rattle.bib_text.specs.Braces.{Parts as parts}
use Rattle.bib_text.proofs.PlaceFacts.{ahead_then, ahead_char, ahead_run}
use Rattle.bib_syntax.specs.Reading.{Piece, FieldReading, EntryReading, FileReading}
use Rattle.bib_syntax.specs.Grammar.{QuotedParts, Element, Elements, Field, Gap, Fields, File, IsRawReading, longest}
use Rattle.bib_syntax.specs.Grammar.{Number as number}
use Rattle.bib_syntax.specs.Grammar.{QuotedParts as quotes}
use Rattle.bib_syntax.specs.Grammar.{Element as element}
use Rattle.bib_syntax.specs.Grammar.{Elements as elements}
use Rattle.bib_syntax.specs.Grammar.{Gap as gap}
use Rattle.bib_syntax.specs.Grammar.{Fields as fields}
use Rattle.bib_syntax.specs.Grammar.{File as file}
use Rattle.bib_syntax.proofs.FieldFacts.{ahead_identifier, ahead_element, ahead_field, ahead_gap, ahead_fields}
use Rattle.bib_syntax.proofs.FileFacts.{ahead_head}
use Rattle.edit_entries.proofs.SplitFacts.{EntryBlock, ahead_file_before}
use Rattle.edit_entries.proofs.EntryFacts.{ahead_entry}
use Rattle.edit_entries.specs.Cuts.{AreEntriesCut, AreGapsCut, ArePiecesCut, CanBeCut, IsEntryCut, IsPieceCut}
use Rattle.edit_entries.proofs.ByEntriesFacts.{ByEntries, by_entries}
use Rattle.bib_text.proofs.BoundaryFacts.{char_boundary}

-- ---- rules that begin with a character

pub record Stood (u : Place) : Type 0 where
  pub char : ℕ
  pub next : Place
  pub here : CharAt u char next

pub stood : {u v : Place} {c : ℕ} → CharAt u c v → Stood u
stood {u} {v} {c} char = record { char = c; next = v; here = char }

pub stood_run : {test : ℕ → Bool} {u v : Place} → Run test u v → Stood v → Stood u
stood_run stop s = s
stood_run (step char passes rest) s = stood char

pub stood_parts : {u v : Place} → Parts u v → Stood v → Stood u
stood_parts parts.none s = s
stood_parts (parts.plain char passes rest) s = stood char
stood_parts (parts.hidden slash char rest) s = stood slash
stood_parts (parts.nested opens inside closes rest) s = stood opens

pub stood_quoted : {u v : Place} → QuotedParts u v → Stood v → Stood u
stood_quoted quotes.none s = s
stood_quoted (quotes.plain char passes rest) s = stood char
stood_quoted (quotes.hidden slash char rest) s = stood slash

pub stood_gap : {u v : Place} → Gap longest u v → Stood v → Stood u
stood_gap (gap.white white ends) s = stood_run white.run s
stood_gap (gap.line_comment white m white') s = stood_run white.run (stood m.sign)

pub cut_stood : (text : List ℕ) {u : Place} → u.text ≡ text → Stood u → IsCharBoundary text u.at
cut_stood text {u} same s = subst (λ t. IsCharBoundary t u.at) same (char_boundary s.here)

pub cut_file : (text : List ℕ) {u : Place} {says : FileReading} → u.text ≡ text → File longest u says → IsCharBoundary text u.at
cut_file text {u} same (file.end end) =
    let size : u.at ≡ length text = end ∙ ap length same in
    (omega arith, λ below high. absurd (omega arith))
cut_file text same (file.skipped char passes x) = cut_stood text same (stood char)
cut_file text same (file.line_comment m x) = cut_stood text same (stood m.sign)
cut_file text same (file.block b x) = cut_stood text same (stood b.head.sign)

-- ---- elements

-- a text may be cut at the start of a literal
pub element_cut : (text : List ℕ) {u v : Place} {e : Piece} → u.text ≡ text → Element longest u e v → IsPieceCut text e
element_cut text same (element.number (number.whole char digit digits ends)) = cut_stood text same (stood char)
element_cut text same (element.number (number.broken char digit digits point others ends)) = cut_stood text same (stood char)
element_cut text same (element.named none i) = _
element_cut text same (element.braced b) =
    subst (λ p. IsCharBoundary text p.start) (sym b.reading) (cut_stood text (b.opens.same ∙ same) (stood_parts b.parts (stood b.closes)))
element_cut text same (element.quoted q) =
    subst (λ p. IsCharBoundary text p.start) (sym q.reading) (cut_stood text (q.opens.same ∙ same) (stood_quoted q.parts (stood q.closes)))

elements_cut : (text : List ℕ) {u v : Place} {es : List Piece} → u.text ≡ text → Elements longest u es v
    → AllByRecursion (IsPieceCut text) es
elements_cut text same (elements.last e white ends) = (element_cut text same e, _)
elements_cut text same (elements.more e white sign white' rest) =
    let over = ahead_then (ahead_element e) (ahead_then (ahead_run white.run) (ahead_then (ahead_char sign) (ahead_run white'.run))) in
    (element_cut text same e, elements_cut text (over.text ∙ same) rest)

field_cut : (text : List ℕ) {u v : Place} {f : FieldReading} → u.text ≡ text → Field longest u f v → ArePiecesCut text f
field_cut text same field =
    let over =
    ahead_then (ahead_identifier field.name)
    (ahead_then (ahead_run field.white.run) (ahead_then (ahead_char field.sign) (ahead_run field.white'.run))) in
    elements_cut text (over.text ∙ same) field.elements

-- ---- fields

pub fields_cut : (text : List ℕ) {u v : Place} {fs : List FieldReading} → u.text ≡ text → Fields longest u fs v
    → AllByRecursion (ArePiecesCut text) fs
fields_cut text same (fields.none white) = _
fields_cut text same (fields.last field g) = (field_cut text same field, _)
fields_cut text same (fields.more field g comma g' rest) =
    let over = ahead_then (ahead_field field) (ahead_then (ahead_gap g) (ahead_then (ahead_char comma) (ahead_gap g'))) in
    (field_cut text same field, fields_cut text (over.text ∙ same) rest)

-- the text from a byte offset, at which the text may be cut, to the name of a field at or after it may be cut out
name_cut : (text : List ℕ) (start : ℕ) {u v : Place} {f : FieldReading} → u.text ≡ text → start ≤ u.at
    → IsCharBoundary text start → Field longest u f v → CanBeCut text start f.name.start
name_cut text start {u} {v} {f} same ordered cut field =
    let begins : f.name.start ≡ u.at = ap (λ p. p.start) field.name.reading in
    record {
      ordered = omega (arith, begins);
      start_cut = cut;
      end_cut = subst (λ n. IsCharBoundary text n) (sym begins) (cut_stood text same (stood field.name.here));
    }

pub gaps_cut : (text : List ℕ) (start end : ℕ) {u v : Place} {fs : List FieldReading} → u.text ≡ text → start ≤ u.at
    → IsCharBoundary text start → Fields longest u fs v → Stood v → end ≡ v.at → AreGapsCut text start fs end
gaps_cut text start end {u} {v} same ordered cut (fields.none white) s is =
    let over = ahead_run white.run in
    record {
      ordered = omega (arith, over.at);
      start_cut = cut;
      end_cut = subst (λ n. IsCharBoundary text n) (sym is) (cut_stood text (over.text ∙ same) s);
    }
gaps_cut text start end {u} {v} same ordered cut (fields.last {v = stop_place} {f = f} field g) s is =
    let over = ahead_field field in
    let rest = ahead_gap g in
    let ends : f.value.end ≡ stop_place.at = field.ends in (
      name_cut text start same ordered cut field,
      record {
        ordered = omega (arith, rest.at);
        start_cut = subst (λ n. IsCharBoundary text n) (sym ends) (cut_stood text (over.text ∙ same) (stood_gap g s));
        end_cut = subst (λ n. IsCharBoundary text n) (sym is) (cut_stood text (rest.text ∙ over.text ∙ same) s);
      },
    )
gaps_cut text start end {u} {v} same ordered cut (fields.more {v = stop_place} {f = f} field g comma g' rest) s is =
    let over = ahead_field field in
    let past = ahead_then (ahead_gap g) (ahead_then (ahead_char comma) (ahead_gap g')) in
    let ends : f.value.end ≡ stop_place.at = field.ends in (
      name_cut text start same ordered cut field,
      gaps_cut text f.value.end end (past.text ∙ over.text ∙ same) (omega (arith, past.at))
          (subst (λ n. IsCharBoundary text n) (sym ends) (cut_stood text (over.text ∙ same) (stood_gap g (stood comma))))
          rest s is,
    )

-- ---- entries

pub entry_cut : (text : List ℕ) {u v : Place} {e : EntryReading} → u.text ≡ text → EntryBlock u e v
    → IsCharBoundary text v.at → IsEntryCut text e
entry_cut text {u} {v} {e} same b after =
    let to_key = ahead_then (ahead_head b.head) (ahead_run b.key.run) in
    let to_fields = ahead_then (ahead_run b.white.run) (ahead_then (ahead_char b.comma) (ahead_gap b.gap)) in
    let to_brace = ahead_fields b.fields in
    let next : v.at ≡ b.brace.at + 1 = b.closes.next in
    let past : v.at ≡ e.end + 1 = omega (arith, b.ends) in
    let key_end : e.key.end ≡ b.key_end.at = ap (λ p. p.end) b.key_is in
    let key_cut : IsCharBoundary text e.key.end =
    subst (λ n. IsCharBoundary text n) (sym key_end)
    (cut_stood text (to_key.text ∙ same) (stood_run b.white.run (stood b.comma))) in
    let at_fields = to_fields.text ∙ to_key.text ∙ same in
    record {
      whole = record {
        ordered = omega (arith, b.starts, to_key.at, to_fields.at, to_brace.at);
        start_cut = subst (λ n. IsCharBoundary text n) (sym b.starts) (cut_stood text same (stood b.head.sign));
        end_cut = subst (λ n. IsCharBoundary text n) past after;
      };
      gaps = gaps_cut text e.key.end e.end at_fields (omega (arith, key_end, to_fields.at)) key_cut b.fields (stood b.closes) b.ends;
      pieces = fields_cut text at_fields b.fields;
    }

pub entries_cut : (text : List ℕ) (at : ℕ) {u : Place} {says : FileReading} → u.text ≡ text → at ≡ u.at
    → IsCharBoundary text at → ByEntries u says → AreEntriesCut text at says.entries
entries_cut text at same is cut (ByEntries.last x none) = subst (λ es. AreEntriesCut text at es) (sym none) cut
entries_cut text at {u} same is cut (ByEntries.more {s = s} {v = v} {before = before} {rest = rest} {e = e} first none b x others) =
    let to_start = ahead_file_before first in
    let to_end = ahead_entry b in
    let at_start = to_start.text ∙ same in
    let after = cut_file text (to_end.text ∙ at_start) x in
    let here = entry_cut text at_start b after in
    let next : v.at ≡ b.brace.at + 1 = b.closes.next in
    let past : e.end + 1 ≡ v.at = omega (arith, b.ends) in
    let gap : CanBeCut text at e.start =
    record { ordered = omega (arith, to_start.at, b.starts); start_cut = cut; end_cut = here.whole.start_cut } in
    subst (λ es. AreEntriesCut text at (es ++ e ∷ rest.entries)) (sym none)
    (gap, here, entries_cut text (e.end + 1) (to_end.text ∙ at_start) past here.whole.end_cut others)

pub document_cut : (text : List ℕ) (says : FileReading) → IsRawReading text says → AreEntriesCut text 0 says.entries
document_cut text says read = entries_cut text 0 {u = place text 0} refl refl (cut_file text refl read) (by_entries read)
