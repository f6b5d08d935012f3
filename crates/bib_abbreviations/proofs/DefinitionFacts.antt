-- The last definitions of the names of a file, one more definition at a time.
use Rattle.std.proofs.Common.{◌≡◌, ℕ, ◌+◌, ◌<◌, true, false, List, [], ◌∷◌, ◌++◌, Option, Some, cond, get_or, length, map, take, refl, sym, ap, ◌∙◌}
use Rattle.std.specs.Prelude.{bytes_eq, find, option_map, reverse}
use Rattle.std.proofs.lemmas.Cmp.{nat_list_eq_equiv}
use Rattle.std.proofs.lemmas.List.{map_push, reverse-append, take_more}
use Rattle.bib_syntax.specs.Reading.{FieldReading, Piece}
use Rattle.bib_syntax.specs.Views.{field_of}
use Rattle.bib_syntax.specs.declared.raw.Pair.{Pair}
use Rattle.bib_text.proofs.OptionFacts.{mapped_cond}
use Rattle.bib_abbreviations.specs.Abbreviations.{definition_in}

-- a definition at the end of the list is the last one of its name
definition-push : (fields : List FieldReading) (f : FieldReading) (name : List ℕ)
    → definition_in (fields ++ f ∷ []) name ≡ cond (bytes_eq name f.name.text) (Some f.value.pieces) (definition_in fields name)
definition-push fields f name =
    ap (λ l. option_map (λ (g : FieldReading). g.value.pieces) (find (λ g. bytes_eq name g.name.text) l)) (reverse-append fields (f ∷ []))
    ∙ elim (bytes_eq name f.name.text) as
    (λ b.
    option_map (λ (g : FieldReading). g.value.pieces) (cond b (Some f) (find (λ g. bytes_eq name g.name.text) (reverse fields)))
    ≡ cond b (Some f.value.pieces) (definition_in fields name)) [ true ↦ refl | false ↦ refl ]

-- inserting the next definition into the map of the last definitions so far gives the last definitions with it
pub defined_more : {F : Type 0} (f : F → List Piece) (pairs : List Pair) (i : ℕ) (p : Pair) (field : F) (name : List ℕ)
    (before after : Option F)
    → i < length pairs → p ≡ get_or pairs i p → f field ≡ (field_of p).value.pieces
    → option_map f before ≡ definition_in (map field_of (take i pairs)) name
    → after ≡ cond (bytes_eq p.key.v.now name) (Some field) before
    → option_map f after ≡ definition_in (map field_of (take (i + 1) pairs)) name
defined_more f pairs i p field name before after within here same so_far updated =
    ap (option_map f) updated
    ∙ mapped_cond f (bytes_eq p.key.v.now name) field before
    ∙ ap (λ b. cond b (Some (f field)) (option_map f before)) (nat_list_eq_equiv.symm p.key.v.now name)
    ∙ ap (λ a. cond (bytes_eq name p.key.v.now) (Some a) (option_map f before)) same
    ∙ ap (cond (bytes_eq name p.key.v.now) (Some (field_of p).value.pieces)) so_far
    ∙ sym (definition-push (map field_of (take i pairs)) (field_of p) name)
    ∙ sym (ap (λ l. definition_in l name) (map_push field_of (take i pairs) p))
    ∙ ap (λ l. definition_in (map field_of l) name)
    (ap (λ q. take i pairs ++ q ∷ []) here ∙ sym (take_more pairs i p within))
