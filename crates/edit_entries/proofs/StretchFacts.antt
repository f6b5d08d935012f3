-- Edits that are made in one pass over a text.
use Rattle.std.proofs.Common.{◌≡◌, ℕ, ◌+◌, ◌-◌, ◌≤◌, List, [], ◌∷◌, ◌++◌, length, take, drop, sym, ap, ◌∙◌, arith, append_assoc}
use Rattle.std.proofs.lemmas.List.{take_at, drop_at, drop-take, take-take, take-append-drop, length-take-le}
use Rattle.edit_entries.specs.Edits.{Edit, edited_all}
use Rattle.edit_entries.specs.EditList.{AreEditsInOrder}

-- the text from a byte offset on, with the edits after it made
abbrev pub rest_edited : ℕ → List Edit → List ℕ → List ℕ
rest_edited at [] text = drop at text
rest_edited at (edit ∷ edits) text = take (edit.start - at) (drop at text) ++ (edit.bytes ++ rest_edited edit.end edits text)

-- the text up to a byte offset is the text up to an earlier one and the text between them
cut_front : (text : List ℕ) (at start : ℕ) → at ≤ start → take start text ≡ take at text ++ take (start - at) (drop at text)
cut_front text at start ordered =
    let n : ℕ = start - at in
    let whole : at + n ≡ start = omega arith in
    sym (take-append-drop at (take start text)) ∙ ap (λ xs. xs ++ drop at (take start text)) (take-take at start text ordered)
    ∙ ap (λ m. take at text ++ drop at (take m text)) (sym whole) ∙ ap (λ xs. take at text ++ xs) (drop-take at n text)

-- a text after edits is the text up to a byte offset before them and the rest with the edits made
pub edited_is : (edits : List Edit) (text : List ℕ) (at : ℕ) → at ≤ length text → AreEditsInOrder text at edits
    → edited_all edits text ≡ take at text ++ rest_edited at edits text
edited_is [] text at within order = sym (take-append-drop at text)
edited_is (edit ∷ edits) text at within order =
    let others = edited_is edits text edit.end order.3.0 order.4 in
    let start_within : edit.start ≤ length text = order.2.0 in
    let end_size : length (take edit.end text) ≡ edit.end = length-take-le edit.end text order.3.0 in
    let front_size : length (take edit.start text) ≡ edit.start = length-take-le edit.start text start_within in
    let front : take edit.start (edited_all edits text) ≡ take edit.start text =
    ap (take edit.start)
    (others ∙ ap (λ xs. xs ++ rest_edited edit.end edits text) (cut_front text edit.start edit.end order.1)
    ∙ append_assoc (take edit.start text) (take (edit.end - edit.start) (drop edit.start text))
    (rest_edited edit.end edits text))
    ∙ take_at (take edit.start text)
    (take (edit.end - edit.start) (drop edit.start text) ++ rest_edited edit.end edits text) edit.start front_size
    in
    let rest : drop edit.end (edited_all edits text) ≡ rest_edited edit.end edits text =
    ap (drop edit.end) others ∙ drop_at (take edit.end text) (rest_edited edit.end edits text) edit.end end_size in
    ap (λ xs. xs ++ edit.bytes ++ drop edit.end (edited_all edits text)) (front ∙ cut_front text at edit.start order.0)
    ∙ ap (λ ys. (take at text ++ take (edit.start - at) (drop at text)) ++ edit.bytes ++ ys) rest
    ∙ append_assoc (take at text ++ take (edit.start - at) (drop at text)) edit.bytes (rest_edited edit.end edits text)
    ∙ append_assoc (take at text) (take (edit.start - at) (drop at text)) (edit.bytes ++ rest_edited edit.end edits text)
