-- A text whose entries are in order is unchanged by sorting.
use Rattle.std.proofs.Common.{◌≡◌, inl, inr, ℕ, ◌+◌, ◌-◌, ◌≤◌, Bool, true, false, cond, List, [], ◌∷◌, ◌++◌, drop, length, take, refl, sym, ap, ◌∙◌, arith, append_assoc, length-append}
use Rattle.std.specs.Prelude.{◌==◌}
use Rattle.std.specs.Char.{is_ascii_whitespace}
use Rattle.std.specs.List.{prefix_len}
use Rattle.std.specs.List.Sorted.{IsSorted}
use Rattle.std.proofs.lemmas.List.{append-nil, drop-drop, take-append-drop, take_at}
use Rattle.std.proofs.lemmas.List.Sorted.{IsPermutation-refl}
use Rattle.bib_text.specs.Places.{between, place}
use Rattle.bib_syntax.specs.Reading.{EntryReading}
use Rattle.edit_entries.specs.Documents.{Document, IsDocument}
use Rattle.edit_sort.specs.Cuts.{AreItemsCut}
use Rattle.edit_sort.specs.Sorted.{IsSortedText, after_blank_line, begins_run, comment_in, entry_bytes, gap_before, has_block_sign, item_cmp, items, near_comment, space_in, without_white}
use Rattle.edit_sort.specs.Steps.{items_from, items_laid_out, place_after, run_after, spaces_from}
use Rattle.edit_sort.proofs.FileFacts.{document_parts}
use Rattle.edit_sort.proofs.LineFacts.{AfterFeed, feed_before}
use Rattle.edit_sort.proofs.OneOrderFacts.{one_order}
use Rattle.edit_sort.proofs.StepFacts.{items_are, text_is, written}

-- `rest` is the end of a text
abbrev pub EndsIn : List ℕ → List ℕ → Type 0
EndsIn text rest = (front : List ℕ) × (text ≡ front ++ rest)

ends_then : (text middle rest : List ℕ) → EndsIn text middle → EndsIn middle rest → EndsIn text rest
ends_then text middle rest first second =
    (first.0 ++ second.0, first.1 ∙ ap (λ t. first.0 ++ t) second.1 ∙ sym (append_assoc first.0 second.0 rest))

feed_end : (gap rest : List ℕ) → AfterFeed gap rest → EndsIn gap rest
feed_end gap rest (inl same) = ([], sym same)
feed_end gap rest (inr found) = (found.0 ++ 10 ∷ [], found.1 ∙ sym (append_assoc found.0 (10 ∷ []) rest))

pub white_end : (bytes : List ℕ) → EndsIn bytes (without_white bytes)
white_end bytes = let n = prefix_len is_ascii_whitespace bytes in (take n bytes, sym (take-append-drop n bytes))

pub comment_end : (is_first : Bool) (gap : List ℕ) → EndsIn gap (comment_in is_first gap)
comment_end is_first gap = by_run (begins_run is_first gap)
  where
    near : List ℕ
    near = after_blank_line gap

    by_sign : (c : Bool) → EndsIn gap (cond c [] (without_white near))
    by_sign true = (gap, sym (append-nil gap))
    by_sign false = ends_then gap near (without_white near) (feed_end gap near (feed_before gap)) (white_end near)

    by_run : (c : Bool) → EndsIn gap (cond c (near_comment near) (without_white gap))
    by_run true = by_sign (has_block_sign near)
    by_run false = white_end gap

cut_end : (text rest : List ℕ) → EndsIn text rest → take (length text - length rest) text ++ rest ≡ text
cut_end text rest end =
    let size : length text ≡ length end.0 + length rest = ap length end.1 ∙ length-append end.0 rest in
    let left : length end.0 ≡ length text - length rest = omega arith in
    ap (λ t. take (length text - length rest) t ++ rest) end.1
    ∙ ap (λ t. t ++ rest) (take_at end.0 rest (length text - length rest) left) ∙ sym end.1

-- the gap before an entry is its space followed by its comment
pub gap_whole : (is_first : Bool) (gap : List ℕ) → space_in is_first gap ++ comment_in is_first gap ≡ gap
gap_whole is_first gap = cut_end gap (comment_in is_first gap) (comment_end is_first gap)

-- the text from an offset on is the part up to another offset, followed by the text from there on
pub stretch_whole : (text : List ℕ) (start end : ℕ) → start ≤ end
    → between (place text start) (place text end) ++ drop end text ≡ drop start text
stretch_whole text start end ordered =
    let sum : start + (end - start) ≡ end = omega arith in
    ap (λ n. take (end - start) (drop start text) ++ drop n text) (sym sum)
    ∙ ap (λ t. take (end - start) (drop start text) ++ t) (sym (drop-drop (end - start) start text))
    ∙ take-append-drop (end - start) (drop start text)

stays_from : (all : List EntryReading) (text places : List ℕ) (index at run : ℕ) (es : List EntryReading) → AreItemsCut text index at es
    → items_laid_out text (spaces_from text index at es) (items_from all text places index at run es)
    (drop (place_after at es) text) ≡ drop at text
stays_from all text places index at run [] cut = refl
stays_from all text places index at run (e ∷ es) cut =
    let gap = gap_before text at e in
    let space = space_in (index == 0) gap in
    let comment = comment_in (index == 0) gap in
    ap (λ t. space ++ (comment ++ (entry_bytes text e ++ t)))
    (stays_from all text places (index + 1) (e.end + 1) (run_after run gap) es cut.1)
    ∙ ap (λ t. space ++ (comment ++ t)) (stretch_whole text e.start (e.end + 1) cut.0.whole.ordered)
    ∙ sym (append_assoc space comment (drop e.start text)) ∙ ap (λ t. t ++ drop e.start text) (gap_whole (index == 0) gap)
    ∙ stretch_whole text at e.start cut.0.gap.ordered

pub in_order_stays : (d : Document) (places new : List ℕ) → IsDocument d
    → IsSorted item_cmp (items d places) → IsSortedText d places new → new ≡ d.text
in_order_stays d places new read sorted text =
    let same =
    one_order d places text.order (items d places) read text.in_order
    (record { permutation = IsPermutation-refl (items d places); sorted = sorted }) in
    text.is ∙ text_is d text.order ∙ ap (written d) (same ∙ items_are d places)
    ∙ stays_from d.says.entries d.text places 0 0 0 d.says.entries (document_parts d read).cut
