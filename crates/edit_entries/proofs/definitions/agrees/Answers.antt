use Rattle.std.proofs.Common.{◌≡◌, ◌<◌, ◌∙◌, Some, None, length, map, sym, ap, subst, arith, rules}
use Rattle.std.specs.Prelude.{MatchBool}
use Rattle.std.specs.BTreeMap.{get_by_text}
use Rattle.std.proofs.lemmas.List.{length-map}
use Rattle.bib_syntax.specs.Views.{field_of, piece_of}
use Rattle.edit_entries.specs.Definitions.{ArePiecesSame}
use Rattle.edit_entries.specs.Documents.{has_name, last_position}
use Rattle.edit_entries.proofs.DefinitionFacts.{agree_at, last_of}
use Rattle.edit_entries.proofs.PositionFacts.{slice_get-map}
use Rattle.edit_entries.proofs.TakenFacts.{within_of}
use Rattle.edit_entries.proofs.definitions.agrees.Goals as goal

pub offset_bounds-others-index : goal.offset_bounds-others-index
offset_bounds-others-index c =
    let name = c.args.definition.now.key.v.now in
    let last : last_position (has_name name) (map field_of c.args.others.now) ≡ Some c.in-Some.index.now =
    sym (c.requires name) ∙ ap (get_by_text c.args.last.now) (sym (c.as_str.ensures.value ∙ c.in_ok-name.ensures.ok))
    ∙ sym c.in-Some.ensures.value in
    let found = last_of (has_name name) (map field_of c.args.others.now) c.in-Some.index.now last in
    let within = within_of (map field_of c.args.others.now) c.in-Some.index.now found.0 found.1 in
    let h : c.in-Some.index.now < length c.args.others.now = omega (arith, within, length-map c.args.others.now field_of) in
    search rules

pub bounds-others-index : goal.bounds-others-index
bounds-others-index c =
    let name = c.args.definition.now.key.v.now in
    let last : last_position (has_name name) (map field_of c.args.others.now) ≡ Some c.in-Some.index.now =
    sym (c.requires name) ∙ ap (get_by_text c.args.last.now) (sym (c.as_str.ensures.value ∙ c.in_ok-name.ensures.ok))
    ∙ sym c.in-Some.ensures.value in
    let found = last_of (has_name name) (map field_of c.args.others.now) c.in-Some.index.now last in
    let within = within_of (map field_of c.args.others.now) c.in-Some.index.now found.0 found.1 in
    omega (arith, within, length-map c.args.others.now field_of)

pub returns-in-Some : goal.returns-in-Some
returns-in-Some c =
    let name = c.args.definition.now.key.v.now in
    let pair = c.index-others-index.result in
    let last : last_position (has_name name) (map field_of c.args.others.now) ≡ Some c.in-Some.index.now =
    sym (c.requires name) ∙ ap (get_by_text c.args.last.now) (sym (c.as_str.ensures.value ∙ c.in_ok-name.ensures.ok))
    ∙ sym c.in-Some.ensures.value in
    let found = last_of (has_name name) (map field_of c.args.others.now) c.in-Some.index.now last in
    let within = within_of (map field_of c.args.others.now) c.in-Some.index.now found.0 found.1 in
    let one = ap (map piece_of) c.deref.ensures.value in
    let other = ap (map piece_of) (c.deref-in-Some.ensures.value ∙ ap (λ p. p.value.v.items) (sym c.index-others-index.is)) in
    let answer = c.is_same_value.result in
    agree_at (map field_of c.args.others.now) (field_of c.args.definition.now) (field_of pair) c.in-Some.index.now answer last
    (slice_get-map field_of c.args.others.now c.in-Some.index.now pair
    (omega (arith, within, length-map c.args.others.now field_of)) c.index-others-index.is)
    (subst
    (λ l. MatchBool answer (ArePiecesSame l (field_of pair).value.pieces) (ArePiecesSame l (field_of pair).value.pieces → ⊥))
    one
    (subst
    (λ l. MatchBool answer (ArePiecesSame (map piece_of c.deref.result.now) l) (ArePiecesSame (map piece_of c.deref.result.now) l → ⊥))
    other c.is_same_value.ensures))

pub returns : goal.returns
returns c = λ k g last here.
    let name = c.args.definition.now.key.v.now in
    absurd
    (let clash : None ≡ Some k =
    c.in-None.ensures.value ∙ ap (get_by_text c.args.last.now) (c.as_str.ensures.value ∙ c.in_ok-name.ensures.ok)
    ∙ c.requires name ∙ last
    in cc)
