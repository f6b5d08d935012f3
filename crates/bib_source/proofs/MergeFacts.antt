-- Lines appended to merged lines.
use Rattle.std.proofs.Common.{◌≡◌, ℕ, ◌+◌, ◌-◌, ◌≤◌, List, [], ◌∷◌, ◌++◌, length, map, take, drop, refl, ap, ap₂, sym, ◌∙◌, append_assoc, arith}
use Rattle.std.specs.Borrow.{Bor}
use Rattle.std.proofs.lemmas.List.{take_all}
use Rattle.bib_source.specs.Comparison.{HaveCommonEnds, new_side, old_side, line_texts}
use Rattle.bib_source.specs.Merging.{Extends}
use Rattle.bib_source.specs.declared.comparison.Line.{Line}
use Rattle.bib_source.specs.declared.comparison.Line.TheVariants.{Context, Removed, Added}
use Rattle.bib_source.proofs.ComparisonFacts.{new_append, old_append, texts_up_to}

-- the old and the new side of lines that are all in both texts, all removed or all added
pub old_context : (lines : List (Bor (List ℕ))) → old_side (map Context lines) ≡ line_texts lines
old_context [] = refl
old_context (line ∷ lines) = ap (λ ls. line.now ∷ ls) (old_context lines)

pub new_context : (lines : List (Bor (List ℕ))) → new_side (map Context lines) ≡ line_texts lines
new_context [] = refl
new_context (line ∷ lines) = ap (λ ls. line.now ∷ ls) (new_context lines)

old_removed : (lines : List (Bor (List ℕ))) → old_side (map Removed lines) ≡ line_texts lines
old_removed [] = refl
old_removed (line ∷ lines) = ap (λ ls. line.now ∷ ls) (old_removed lines)

new_removed : (lines : List (Bor (List ℕ))) → new_side (map Removed lines) ≡ []
new_removed [] = refl
new_removed (line ∷ lines) = new_removed lines

old_added : (lines : List (Bor (List ℕ))) → old_side (map Added lines) ≡ []
old_added [] = refl
old_added (line ∷ lines) = old_added lines

new_added : (lines : List (Bor (List ℕ))) → new_side (map Added lines) ≡ line_texts lines
new_added [] = refl
new_added (line ∷ lines) = ap (λ ls. line.now ∷ ls) (new_added lines)

-- lines that are appended in two steps are appended together
pub extends_more : (first second third : List Line) (old new old' new' : List (List ℕ)) → Extends first second old new
    → Extends second third old' new' → Extends first third (old ++ old') (new ++ new')
extends_more first second third old new old' new' one two = record {
  lines = one.lines ++ two.lines;
  is = two.is ∙ ap (λ ls. ls ++ two.lines) one.is ∙ append_assoc first one.lines two.lines;
  old_is = old_append one.lines two.lines ∙ ap₂ (λ ls ms. ls ++ ms) one.old_is two.old_is;
  new_is = new_append one.lines two.lines ∙ ap₂ (λ ls ms. ls ++ ms) one.new_is two.new_is;
}

-- appending a line of both texts
pub extends_context : (before after : List Line) (line : Bor (List ℕ)) → after ≡ before ++ Context line ∷ []
    → Extends before after (line.now ∷ []) (line.now ∷ [])
extends_context before after line is = record { lines = Context line ∷ []; is = is; old_is = refl; new_is = refl }

-- appending a common start, the lines between and a common end
pub extends_ends : (before : List Line) (old new : List (List ℕ)) (start removed added end : List (Bor (List ℕ)))
    → HaveCommonEnds old new (line_texts start) (line_texts removed) (line_texts added) (line_texts end)
    → Extends before ((((before ++ map Context start) ++ map Removed removed) ++ map Added added) ++ map Context end) old new
extends_ends before old new start removed added end ends = record {
  lines = map Context start ++ (map Removed removed ++ (map Added added ++ map Context end));
  is =
      append_assoc ((before ++ map Context start) ++ map Removed removed) (map Added added) (map Context end)
      ∙ append_assoc (before ++ map Context start) (map Removed removed) (map Added added ++ map Context end)
      ∙ append_assoc before (map Context start) (map Removed removed ++ (map Added added ++ map Context end));
  old_is =
      old_append (map Context start) (map Removed removed ++ (map Added added ++ map Context end))
      ∙ ap₂ (λ ls ms. ls ++ ms) (old_context start)
      (old_append (map Removed removed) (map Added added ++ map Context end)
      ∙ ap₂ (λ ls ms. ls ++ ms) (old_removed removed)
      (old_append (map Added added) (map Context end) ∙ ap₂ (λ ls ms. ls ++ ms) (old_added added) (old_context end)))
      ∙ sym ends.old_is;
  new_is =
      new_append (map Context start) (map Removed removed ++ (map Added added ++ map Context end))
      ∙ ap₂ (λ ls ms. ls ++ ms) (new_context start)
      (new_append (map Removed removed) (map Added added ++ map Context end)
      ∙ ap₂ (λ ls ms. ls ++ ms) (new_removed removed)
      (new_append (map Added added) (map Context end) ∙ ap₂ (λ ls ms. ls ++ ms) (new_added added) (new_context end)))
      ∙ sym ends.new_is;
}

-- the lines before `at`, those from `at` to `index` and the line at `index` are the lines up to and including it
pub texts_after : (lines : List (Bor (List ℕ))) (at index : ℕ) (line : List ℕ) → at ≤ index
    → line_texts (take (index + 1) lines) ≡ line_texts (take index lines) ++ line ∷ []
    → line_texts (take at lines) ++ (line_texts (take (index - at) (drop at lines)) ++ line ∷ []) ≡ line_texts (take (index + 1) lines)
texts_after lines at index line low is =
    sym (append_assoc (line_texts (take at lines)) (line_texts (take (index - at) (drop at lines))) (line ∷ []))
    ∙ ap (λ ls. ls ++ line ∷ []) (texts_up_to lines at index low) ∙ sym is

-- the lines before `at` and those from `at` to the end are all lines
pub texts_to_end : (lines : List (Bor (List ℕ))) (at : ℕ) → at ≤ length lines
    → line_texts (take at lines) ++ line_texts (take (length lines - at) (drop at lines)) ≡ line_texts lines
texts_to_end lines at low = texts_up_to lines at (length lines) low ∙ ap line_texts (take_all (length lines) lines (omega arith))

-- both sides of a common start, other lines and a common end
pub old_of_ends : (start end : List (Bor (List ℕ))) (lines : List Line) (old removed : List (List ℕ))
    → old ≡ line_texts start ++ (removed ++ line_texts end) → old_side lines ≡ removed
    → old_side (map Context start ++ (lines ++ map Context end)) ≡ old
old_of_ends start end lines old removed is is' =
    old_append (map Context start) (lines ++ map Context end)
    ∙ ap₂ (λ ls ms. ls ++ ms) (old_context start)
    (old_append lines (map Context end) ∙ ap₂ (λ ls ms. ls ++ ms) is' (old_context end)) ∙ sym is

pub new_of_ends : (start end : List (Bor (List ℕ))) (lines : List Line) (new added : List (List ℕ))
    → new ≡ line_texts start ++ (added ++ line_texts end) → new_side lines ≡ added
    → new_side (map Context start ++ (lines ++ map Context end)) ≡ new
new_of_ends start end lines new added is is' =
    new_append (map Context start) (lines ++ map Context end)
    ∙ ap₂ (λ ls ms. ls ++ ms) (new_context start)
    (new_append lines (map Context end) ∙ ap₂ (λ ls ms. ls ++ ms) is' (new_context end)) ∙ sym is

-- lines of both texts, other lines and lines of both texts, appended one after the other
pub whole_is : (nothing first second third : List Line) (start end : List (Bor (List ℕ))) (lines : List Line) → nothing ≡ []
    → first ≡ nothing ++ map Context start → second ≡ first ++ lines → third ≡ second ++ map Context end
    → third ≡ map Context start ++ (lines ++ map Context end)
whole_is nothing first second third start end lines none one two three =
    three
    ∙ ap (λ ls. ls ++ map Context end) (two ∙ ap (λ ls. ls ++ lines) (one ∙ ap (λ ls. ls ++ map Context start) none))
    ∙ append_assoc (map Context start) lines (map Context end)
