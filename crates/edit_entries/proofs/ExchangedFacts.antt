-- An earlier edit of a text and later ones can be exchanged, if the later ones are moved.
use Rattle.std.proofs.Common.{◌≡◌, ℕ, ◌+◌, ◌-◌, ◌≤◌, List, [], ◌∷◌, ◌++◌, length, map, take, drop, refl, sym, ap, ◌∙◌, arith, append_assoc, length-append}
use Rattle.std.specs.List.{AllByRecursion}
use Rattle.std.proofs.Math.Seq.{drop-append-add, take-append-add}
use Rattle.std.proofs.lemmas.List.{drop-append-le, drop-drop, drop-take, length-take-le, take-append-le, take-take}
use Rattle.edit_entries.specs.EditList.{AreEditsInOrder}
use Rattle.edit_entries.specs.Edits.{Edit, edited, edited_all, moved_place}
use Rattle.edit_entries.proofs.EditFacts.{moved_after}
use Rattle.edit_entries.proofs.TrimmedFacts.{edits_earlier}

-- an edit with moved byte offsets
abbrev pub moved_edit : (ℕ → ℕ) → Edit → Edit
moved_edit move b = record { start = move b.start; end = move b.end; bytes = b.bytes }

-- two edits can be exchanged
edits_turned : (x b : Edit) (text : List ℕ) → x.start ≤ x.end → x.end ≤ b.start → b.start ≤ b.end → b.start ≤ length text
    → edited (moved_edit (moved_place x) b) (edited x text) ≡ edited x (edited b text)
edits_turned x b text first between second within =
    let F : List ℕ = take x.start text ++ x.bytes in
    let R : List ℕ = drop x.end text in
    let T : List ℕ = take b.start text in
    let D : List ℕ = drop b.end text in
    let W : List ℕ = b.bytes ++ D in
    let n : ℕ = b.start - x.end in
    let m : ℕ = b.end - x.end in
    let small : x.start ≤ length text = omega arith in
    let size : length F ≡ x.start + length x.bytes =
    length-append (take x.start text) x.bytes ∙ ap (λ k. k + length x.bytes) (length-take-le x.start text small) in
    let past : x.end ≤ b.end = omega arith in
    let start : moved_place x b.start ≡ length F + n = omega (arith, moved_after x b.start between, size) in
    let end : moved_place x b.end ≡ length F + m = omega (arith, moved_after x b.end past, size) in
    let ends : x.end + m ≡ b.end = omega arith in
    let starts : b.start ≡ x.end + n = omega arith in
    let wide : length T ≡ b.start = length-take-le b.start text within in
    let narrow : x.start ≤ length T = omega (arith, wide) in
    let reach : x.end ≤ length T = omega (arith, wide) in
    let order : x.start ≤ b.start = omega arith in
    let left : edited (moved_edit (moved_place x) b) (F ++ R) ≡ ((F ++ take n R) ++ b.bytes) ++ D =
    ap (λ k. (take k (F ++ R) ++ b.bytes) ++ drop (moved_place x b.end) (F ++ R)) start
    ∙ ap (λ l. (l ++ b.bytes) ++ drop (moved_place x b.end) (F ++ R)) (take-append-add F R n)
    ∙ ap (λ k. ((F ++ take n R) ++ b.bytes) ++ drop k (F ++ R)) end
    ∙ ap (λ l. ((F ++ take n R) ++ b.bytes) ++ l) (drop-append-add F R m ∙ drop-drop m x.end text ∙ ap (λ k. drop k text) ends) in
    let whole : edited b text ≡ T ++ W = append_assoc T b.bytes D in
    let fore : take x.start (edited b text) ≡ take x.start text =
    ap (take x.start) whole ∙ take-append-le x.start T W narrow ∙ take-take x.start b.start text order in
    let back : drop x.end (edited b text) ≡ take n R ++ W =
    ap (drop x.end) whole ∙ drop-append-le x.end T W reach
    ∙ ap (λ l. l ++ W) (ap (λ k. drop x.end (take k text)) starts ∙ drop-take x.end n text) in
    let right : edited x (edited b text) ≡ F ++ (take n R ++ W) =
    ap (λ l. (l ++ x.bytes) ++ drop x.end (edited b text)) fore ∙ ap (λ l. F ++ l) back in
    left ∙ append_assoc (F ++ take n R) b.bytes D ∙ append_assoc F (take n R) W ∙ sym right

-- a text with edits after a byte offset is long enough for this offset
long_enough : (text : List ℕ) (n : ℕ) (bs : List Edit) → AreEditsInOrder text n bs → n ≤ length text → n ≤ length (edited_all bs text)
long_enough text n [] order within = within
long_enough text n (b ∷ bs) order within =
    let u : List ℕ = edited_all bs text in
    let later : b.end ≤ length u = long_enough text b.end bs order.4 order.3.0 in
    let start : b.start ≤ length u = omega (arith, later, order.1) in
    omega (
      arith,
      length-append (take b.start u ++ b.bytes) (drop b.end u),
      length-append (take b.start u) b.bytes,
      length-take-le b.start u start,
      order.0,
    )

-- an edit and those after it can be exchanged
pub later_turned : (x : Edit) (bs : List Edit) (text : List ℕ) → x.start ≤ x.end → AreEditsInOrder text x.end bs
    → edited_all (map (moved_edit (moved_place x)) bs) (edited x text) ≡ edited x (edited_all bs text)
later_turned x [] text ordered order = refl
later_turned x (b ∷ bs) text ordered order =
    let u : List ℕ = edited_all bs text in
    let small : x.end ≤ b.end = omega (arith, order.0, order.1) in
    let later : b.end ≤ length u = long_enough text b.end bs order.4 order.3.0 in
    let within : b.start ≤ length u = omega (arith, later, order.1) in
    ap (edited (moved_edit (moved_place x) b)) (later_turned x bs text ordered (edits_earlier text b.end x.end bs small order.4))
    ∙ edits_turned x b u ordered order.0 order.1 within

-- edits in order around one of them: the earlier ones end at or before its start, and the later ones begin at or after its end
pub record OrderAround (text : List ℕ) (at : ℕ) (earlier : List Edit) (x : Edit) (later : List Edit) : Type 0 where
  pub low : at ≤ x.start
  pub ordered : x.start ≤ x.end
  pub within : x.end ≤ length text
  pub before : AllByRecursion (λ a. a.end ≤ x.start) earlier
  pub following : AreEditsInOrder text x.end later

pub order_around : (text : List ℕ) (at : ℕ) (earlier : List Edit) (x : Edit) (later : List Edit)
    → AreEditsInOrder text at (earlier ++ x ∷ later) → OrderAround text at earlier x later
order_around text at [] x later order =
    record { low = order.0; ordered = order.1; within = order.3.0; before = tt; following = order.4 }
order_around text at (a ∷ rest) x later order =
    let more = order_around text a.end rest x later order.4 in
    record {
      low = omega (arith, order.0, order.1, more.low);
      ordered = more.ordered;
      within = more.within;
      before = (more.low, more.before);
      following = more.following;
    }
