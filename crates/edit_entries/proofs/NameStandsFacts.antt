-- The name of a type or of a field in a text: its bytes parse to it.
use Rattle.std.proofs.Common.{◌≡◌, inr, ℕ, ◌+◌, ◌-◌, false, List, ◌++◌, length, take, drop, refl, sym, ap, ◌∙◌, subst, arith}
use Rattle.std.proofs.lemmas.List.{take_at}
use Rattle.bib_text.specs.Places.{Place, place, CharAt, Run, between}
use Rattle.bib_text.proofs.PlaceFacts.{ahead_char, ahead_run, stops_at}
use Rattle.bib_syntax.specs.Characters.{is_id_continue}
use Rattle.bib_syntax.specs.Reading.{Part}
use Rattle.bib_syntax.specs.Grammar.{Identifier, longest}
use Rattle.edit_entries.specs.Documents.{CanBeName, text_at}
use Rattle.edit_entries.proofs.EditFacts.{piece_frame, zone_piece}
use Rattle.edit_entries.proofs.ZoneFacts.{Inside, char_there, inside_between, run_there}

-- the bytes of a name are parsed as this name if the next character can't continue a name
pub name_stands : {v : Place} (whole rest name : List ℕ) (at c : ℕ) → CanBeName name → drop at whole ≡ name ++ rest
    → CharAt (place whole (at + length name)) c v → is_id_continue c ≡ false
    → Identifier longest (place whole at) (text_at at name) (place whole (at + length name))
name_stands {v} whole rest name at c can here following ends =
    let z = zone_piece name whole rest at here (inr (c, v, following)) in
    let i = can.1 in
    let first : Inside (piece_frame name whole at) (place name 0) =
    record { text = refl; start = omega arith; end = omega arith; moved = omega arith } in
    let last : Inside (piece_frame name whole at) (place name (length name)) =
    record { text = refl; start = omega arith; end = omega arith; moved = omega arith } in
    let second = inside_between z first last (ahead_char i.here) (ahead_run i.rest.run) in
    let from : 0 + at ≡ at = omega arith in
    let to : length name + at ≡ at + length name = omega arith in
    let size : at + length name - at ≡ length name = omega arith in
    let rest_run : Run is_id_continue (place whole (i.second.at + at)) (place whole (at + length name)) =
    subst (λ n. Run is_id_continue (place whole (i.second.at + at)) (place whole n)) to
    (run_there z second last i.rest.run) in
    let bytes : between (place whole at) (place whole (at + length name)) ≡ name =
    ap (λ n. take n (drop at whole)) size ∙ ap (take (length name)) here ∙ take_at name rest (length name) refl in
    record {
      second = place whole (i.second.at + at);
      first = i.first;
      here = subst (λ n. CharAt (place whole n) i.first (place whole (i.second.at + at))) from (char_there z first second i.here);
      starts = i.starts;
      rest = record { run = rest_run; stops = stops_at is_id_continue following ends };
      reading = ap (λ t. let p : Part = record { text = t; start = at; end = at + length name } in p) (sym bytes);
    }
