-- A name in ASCII lowercase parses as an identifier.
use Rattle.std.proofs.Common.{◌≡◌, ℕ, ◌-◌, ◌≤◌, List, [], ◌++◌, length, take, drop, refl, ap, ◌∙◌, subst, arith}
use Rattle.std.specs.Prelude.{encode_utf8}
use Rattle.std.specs.Char.{to_ascii_lowercase}
use Rattle.std.specs.Str.{str_to_ascii_lowercase}
use Rattle.bib_text.specs.Places.{Place, CharAt, Run, between}
use Rattle.bib_text.specs.Places.Run.{stop, step}
use Rattle.bib_text.proofs.PlaceFacts.{Ahead, ahead_char, ahead_run, stops_at}
use Rattle.bib_syntax.specs.Characters.{is_id_continue}
use Rattle.bib_syntax.specs.Reading.{Part, part}
use Rattle.bib_syntax.specs.Grammar.{Identifier, longest}
use Rattle.edit_entries.proofs.ElementFacts.{Ending, parted}
use Rattle.edit_format.proofs.LowerFacts.{continues_lower, encode_lower, lower_append, starts_lower}
use Rattle.edit_entries.proofs.StandsFacts.{Stands, between_stands, char_stands, first_part, last_part, nothing, past, stands_char}

pub none_between : (a : Place) → between a a ≡ []
none_between a = let zero : a.at - a.at ≡ 0 = omega arith in ap (λ n. take n (drop a.at a.text)) zero

-- a text in ASCII lowercase is its first character in ASCII lowercase, followed by the rest in ASCII lowercase
lower_parted : {a w b : Place} {c : ℕ} → CharAt a c w → Ahead w b → b.at ≤ length a.text
    → str_to_ascii_lowercase (between a b) ≡ encode_utf8 (to_ascii_lowercase c) ++ str_to_ascii_lowercase (between w b)
lower_parted {a} {w} {b} {c} char ahead within =
    ap str_to_ascii_lowercase
    (parted (ahead_char char) ahead within
    ∙ ap (λ t. t ++ between w b) (between_stands (encode_utf8 c) (stands_char char)))
    ∙ lower_append (encode_utf8 c) (between w b) ∙ ap (λ t. t ++ str_to_ascii_lowercase (between w b)) (encode_lower c)

run_lower : {a b u v : Place} → Run is_id_continue a b → b.at ≤ length a.text
    → Stands u (str_to_ascii_lowercase (between a b)) v → Run is_id_continue u v
run_lower {a} {b} {u} {v} stop within s =
    subst (λ p. Run is_id_continue u p) (nothing (subst (λ t. Stands u t v) (ap str_to_ascii_lowercase (none_between a)) s)) stop
run_lower {a} {b} {u} {v} (step {v = w} {c = c} char passes rest) within s =
    let first : List ℕ = encode_utf8 (to_ascii_lowercase c) in
    let others : List ℕ = str_to_ascii_lowercase (between w b) in
    let s' = subst (λ t. Stands u t v) (lower_parted char (ahead_run rest) within) s in
    step (char_stands (to_ascii_lowercase c) (first_part first others s')) (continues_lower c passes)
    (run_lower {a = w} {b = b} {u = past u first} {v = v} rest (omega (arith, within, ap length char.same)) (last_part first others s'))

pub name_read : {a b u v : Place} {p : Part} → Identifier longest a p b → b.at ≤ length a.text
    → Stands u (str_to_ascii_lowercase (between a b)) v → Ending v → Identifier longest u (part u v) v
name_read {a} {b} {u} {v} i within s ending =
    let first : List ℕ = encode_utf8 (to_ascii_lowercase i.first) in
    let others : List ℕ = str_to_ascii_lowercase (between i.second b) in
    let s' = subst (λ t. Stands u t v) (lower_parted i.here (ahead_run i.rest.run) within) s in
    record {
      second = past u first;
      first = to_ascii_lowercase i.first;
      here = char_stands (to_ascii_lowercase i.first) (first_part first others s');
      starts = starts_lower i.first i.starts;
      rest = record {
        run = run_lower i.rest.run (omega (arith, within, ap length i.here.same)) (last_part first others s');
        stops = stops_at is_id_continue ending.here ending.no_name;
      };
      reading = refl;
    }
