-- The file grammar, with longest runs, parses the output for fields.
use Rattle.std.proofs.Common.{◌≡◌, ℕ, false, List, [], ◌∷◌, ◌++◌, length, refl, sym, subst, arith, drop}
use Rattle.std.specs.Prelude.{encode_utf8_all, codes, ◌==◌}
use Rattle.std.specs.Char.{is_whitespace}
use lib.Utf8.{encode}
use Rattle.std.specs.Str.{IsUtf8}
use Rattle.bib_text.specs.Places.{Place, place, CharAt, Run, Longest, Stops}
use Rattle.bib_text.specs.Places.Run.{stop, step}
use Rattle.bib_text.specs.Braces.{Parts}
use Rattle.bib_text.proofs.PlaceFacts.{same_place, stops_at, one_white}
use Rattle.bib_syntax.specs.Characters.{is_id_continue}
use Rattle.bib_syntax.specs.Reading.{Part, part, FieldReading}
use Rattle.bib_syntax.specs.Reading.Piece.{literal}
use Rattle.bib_syntax.specs.Grammar.{Identifier, Braced, Element, Elements, Field}
use Rattle.bib_syntax.specs.Grammar.Mode.{any, longest}
use Rattle.biblatex.proofs.StandsFacts.{Stands, stands_none, stands_split, stands_char, stands_chars, moved, char_moved, run_moved, stands_between, utf8_char, utf8_run, utf8_spells}
use Rattle.biblatex.proofs.WrittenParts.{Spells, spells_split}

-- an identifier that occurs at a place is parsed there as the longest one, if no character that continues it follows
pub identifier_stands : {name : List ℕ} {u v : Place} {p : Part} → Stands u name v
    → Identifier any (place name 0) p (place name (length name)) → Stops is_id_continue v
    → Identifier longest u (part u v) v
identifier_stands {name} {u} {v} stands i stops =
    let first : moved u (place name 0) ≡ u = same_place {u = moved u (place name 0)} {v = u} refl (omega arith) in
    let last : moved u (place name (length name)) ≡ v =
    same_place {u = moved u (place name (length name))} {v = v} (sym stands.same) (sym stands.next) in
    let here : CharAt (moved u (place name 0)) i.first (moved u i.second) = char_moved stands refl i.here in
    let run : Run is_id_continue (moved u i.second) (moved u (place name (length name))) = run_moved stands i.here.same i.rest in
    record {
      second = moved u i.second;
      first = i.first;
      here = subst (λ p. CharAt p i.first (moved u i.second)) first here;
      starts = i.starts;
      rest = record { run = subst (λ p. Run is_id_continue (moved u i.second) p) last run; stops = stops };
      reading = refl;
    }

-- before a character that is not white space, the longest run of white space is empty
pub no_white : {u v : Place} {d : ℕ} → CharAt u d v → is_whitespace d ≡ false → Longest is_whitespace u u
no_white char dark = record { run = stop; stops = stops_at is_whitespace char dark }

-- the result of parsing a field with its value in braces, and the comma and the line feed after it
pub record FieldRead (name value : List ℕ) (u w : Place) : Type 0 where
  pub says : FieldReading
  pub inside : Place
  pub following : Place
  pub name_end : Place
  pub end : Place
  pub next : Place
  pub field : Field longest u says end
  pub comma : CharAt end 44 next
  pub feed : CharAt next 10 w
  pub named : says.name.text ≡ name
  pub pieces : says.value.pieces ≡ literal (part inside following) ∷ []
  pub spells : Spells inside value following
  pub utf8 : IsUtf8 (drop u.at u.text) → IsUtf8 (encode_utf8_all value) × IsUtf8 (drop w.at w.text)

-- the bytes of a line are parsed as a raw field, if its name is an identifier and the braces in its value are balanced
pub field_read : (name value : List ℕ) {p : Part} {u w : Place}
    → Identifier any (place name 0) p (place name (length name)) → ((x y : Place) → Spells x value y → Parts x y)
    → Stands u (name ++ (codes " = " ++ (encode_utf8_all (123 ∷ (value ++ 125 ∷ [])) ++ codes ",\n"))) w → FieldRead name value u w
unfolding encode
field_read name value {p} {u} {w} identifier parts stands =
    let a = stands_split name (codes " = " ++ (encode_utf8_all (123 ∷ (value ++ 125 ∷ [])) ++ codes ",\n")) stands in
    let b = stands_char 32 (codes "= " ++ (encode_utf8_all (123 ∷ (value ++ 125 ∷ [])) ++ codes ",\n")) a.2 in
    let c = stands_char 61 (codes " " ++ (encode_utf8_all (123 ∷ (value ++ 125 ∷ [])) ++ codes ",\n")) b.2 in
    let d = stands_char 32 (encode_utf8_all (123 ∷ (value ++ 125 ∷ [])) ++ codes ",\n") c.2 in
    let e = stands_split (encode_utf8_all (123 ∷ (value ++ 125 ∷ []))) (codes ",\n") d.2 in
    let f = stands_chars 123 (value ++ 125 ∷ []) e.1 in
    let g = spells_split value (125 ∷ []) f.2 in
    let h = stands_chars 125 [] g.2 in
    let i = stands_char 44 (codes "\n") e.2 in
    let j = stands_char 10 [] i.2 in
    let closes : CharAt g.0 125 e.0 = subst (λ q. CharAt g.0 125 q) (sym (stands_none h.2)) h.1 in
    let feed : CharAt i.0 10 w = subst (λ q. CharAt i.0 10 q) (sym (stands_none j.2)) j.1 in
    let braced : Braced d.0 (part f.0 g.0) e.0 =
    record {
      inside = f.0;
      following = g.0;
      opens = f.1;
      parts = parts f.0 g.0 g.1;
      closes = closes;
      reading = refl;
    } in
    let elements : Elements longest d.0 (literal (part f.0 g.0) ∷ []) e.0 =
    Elements.last (Element.braced braced) (no_white i.1 refl) (stops_at (λ k. k == 35) i.1 refl) in
    let name_read : Identifier longest u (part u a.0) a.0 = identifier_stands a.1 identifier (stops_at is_id_continue b.1 refl) in
    record {
      says = record { name = part u a.0; value = record { pieces = literal (part f.0 g.0) ∷ []; start = d.0.at; end = e.0.at } };
      inside = f.0;
      following = g.0;
      name_end = a.0;
      end = e.0;
      next = i.0;
      field = record {
        name_end = a.0;
        before_sign = b.0;
        after_sign = c.0;
        value_start = d.0;
        name = name_read;
        white = one_white b.1 c.1 refl;
        sign = c.1;
        white' = one_white d.1 f.1 refl;
        elements = elements;
        starts = refl;
        ends = refl;
      };
      comma = i.1;
      feed = feed;
      named = stands_between a.1;
      pieces = refl;
      spells = g.1;
      utf8 = λ utf8.
          let value_start : IsUtf8 (drop f.0.at f.0.text) =
          utf8_char f.1
          (utf8_char d.1
          (utf8_char c.1 (utf8_char b.1 (utf8_run name_read.rest.run (utf8_char name_read.here utf8))))) in
          let inside = utf8_spells value g.1 value_start in
          (inside.0, utf8_char feed (utf8_char i.1 (utf8_char closes inside.1)));
    }
