-- Which braces are open, and where closed ones close, while a scanner moves through the text.
use Rattle.std.proofs.Common.{◌≡◌, ℕ, zero, suc, List, [], ◌∷◌, ◌++◌, reverse, Option, Some, None, MatchOption, inl, inr, refl, sym, ap, ◌∙◌, subst, arith}
use Rattle.std.proofs.lemmas.List.{reverse-append}
use Rattle.std.proofs.lemmas.List.Elements.{All-push}
use Rattle.bib_text.specs.Places.{Place, place, AllBetween, CharAt, Run, AtEnd}
use Rattle.bib_text.specs.Braces.{is_plain}
use Rattle.bib_text.proofs.PlaceFacts.{same_place, ahead_run}
use Rattle.bib_syntax.specs.Closings.{NeverCloses, ClosesAt, IsClosing, AreClosings}
use Rattle.bib_syntax.specs.OpenBraces.{SameBraced, AreOpen, AreBracesAt, ClosesLast}
use Rattle.bib_text.specs.OpenBraces.ClosesOpen.{last}
use Rattle.bib_syntax.specs.declared.raw.closings.Closing.{Closing}
use Rattle.bib_syntax.proofs.BraceFacts.{same_braced, braced_then, braced_run, braced_open, braced_close, braced_hidden, found_parts, closes_end}

-- moving past a text that opens and closes no brace keeps the same braces open
open_over : {u v : Place} (text : List ℕ) (n : ℕ) (starts : List ℕ) → ((m : ℕ) → SameBraced m u m v)
    → AreOpen text n starts u → AreOpen text n starts v
open_over text n [] over opened = _
open_over text n (start ∷ more) over opened = (braced_then opened.0 (over n), open_over text (suc n) more over opened.1)

-- moving past an opening brace adds one to the number of open braces, and moving past a closing brace subtracts one
open_more : {u v : Place} (text : List ℕ) (n : ℕ) (starts : List ℕ) → CharAt u 123 v → AreOpen text n starts u
    → AreOpen text (suc n) starts v
open_more text n [] brace opened = _
open_more text n (start ∷ more) brace opened = (braced_then opened.0 (braced_open n brace), open_more text (suc n) more brace opened.1)

open_less : {u v : Place} (text : List ℕ) (n : ℕ) (starts : List ℕ) → CharAt u 125 v → AreOpen text (suc n) starts u
    → AreOpen text n starts v
open_less text n [] brace opened = _
open_less text n (start ∷ more) brace opened = (braced_then opened.0 (braced_close n brace), open_less text (suc n) more brace opened.1)

reverse_push : (opened : List ℕ) (start : ℕ) → reverse (opened ++ start ∷ []) ≡ start ∷ reverse opened
reverse_push opened start = reverse-append opened (start ∷ [])

-- characters that are neither braces nor backslashes change nothing
pub braces_past_run : {u v : Place} (text opened : List ℕ) (found : List Closing) → Run is_plain u v
    → AreBracesAt text opened found u → AreBracesAt text opened found v
braces_past_run text opened found run braces = record {
  same = (ahead_run run).text ∙ braces.same;
  closings = braces.closings;
  opens = open_over text zero (reverse opened) (λ m. braced_run m run) braces.opens;
}

-- after an opening brace one more brace is open
pub braces_past_open : {u v : Place} (text opened opened' : List ℕ) (found : List Closing) (start : ℕ) → CharAt u 123 v
    → start ≡ v.at → opened' ≡ opened ++ start ∷ [] → AreBracesAt text opened found u → AreBracesAt text opened' found v
braces_past_open {u} {v} text opened opened' found start brace here grown braces =
    let same : v.text ≡ text = brace.same ∙ braces.same in
    let first : place text start ≡ v = same_place {u = place text start} {v = v} (sym same) here in
    let opens : AreOpen text zero (start ∷ reverse opened) v = (
      subst (λ p. SameBraced zero p zero v) (sym first) (same_braced zero v),
      open_more text zero (reverse opened) brace braces.opens,
    ) in
    record {
      same = same;
      closings = braces.closings;
      opens = subst (λ starts. AreOpen text zero starts v) (sym (ap reverse grown ∙ reverse_push opened start)) opens;
    }

-- a closing brace closes the last open brace, if there is one
pub braces_past_close : {u v : Place} (text opened opened' : List ℕ) (found found' : List Closing) (at : ℕ) → CharAt u 125 v
    → at ≡ u.at → ClosesLast opened found at opened' found' → AreBracesAt text opened found u → AreBracesAt text opened' found' v
braces_past_close {u} {v} text opened opened' found found' at brace here (inl (none, none', same)) braces =
    let opens : AreOpen text zero (reverse []) v = _ in
    record {
      same = brace.same ∙ braces.same;
      closings = subst (AreClosings text) (sym same) braces.closings;
      opens = subst (λ o. AreOpen text zero (reverse o) v) (sym none') opens;
    }
braces_past_close {u} {v} text opened opened' found found' at brace here (inr (start, was, grown)) braces =
    let opens : AreOpen text zero (start ∷ reverse opened') u =
    subst (λ starts. AreOpen text zero starts u) (ap reverse was ∙ reverse_push opened' start) braces.opens in
    let there : place text at ≡ u = same_place {u = place text at} {v = u} (sym braces.same) here in
    let closes : ClosesAt (place text start) (place text at) =
    subst (λ p. ClosesAt (place text start) p) (sym there) (found_parts opens.0 refl brace, (v, brace)) in
    let closings : AreClosings text (found ++ record { start = start; close = Some at } ∷ []) =
    All-push (IsClosing text) found (record { start = start; close = Some at }) braces.closings closes in
    record {
      same = brace.same ∙ braces.same;
      closings = subst (AreClosings text) (sym grown) closings;
      opens = open_less text zero (reverse opened') brace opens.1;
    }

-- moving past a backslash and the character after it, if there is one, changes nothing
pub braces_past_hidden : {u v w : Place} (text opened : List ℕ) (found : List Closing) (taken : Option ℕ) → CharAt u 92 v
    → MatchOption taken (AtEnd v × (w ≡ v)) (λ c. CharAt v c w) → AreBracesAt text opened found u
    → AreBracesAt text opened found w
braces_past_hidden {u} {v} {w} text opened found taken slash is braces = record {
  same = taken_text taken is ∙ (slash.same ∙ braces.same);
  closings = braces.closings;
  opens = open_over text zero (reverse opened) (λ m. braced_hidden m taken slash is) braces.opens;
} where
  taken_text : (taken : Option ℕ) → MatchOption taken (AtEnd v × (w ≡ v)) (λ c. CharAt v c w) → w.text ≡ v.text
  taken_text None ended = ap (λ p. p.text) ended.1
  taken_text (Some c) char = char.same

-- at the end of the text, no brace closes the last open brace, so it moves from `opened` to `found`
pub braces_end : (u : Place) (text opened opened' : List ℕ) (found found' : List Closing) (n start : ℕ) → AtEnd u
    → AreClosings text found → AreOpen text n (reverse opened) u → opened ≡ opened' ++ start ∷ []
    → found' ≡ found ++ record { start = start; close = None } ∷ []
    → AreClosings text found' × AreOpen text (suc n) (reverse opened') u
braces_end u text opened opened' found found' n start end closings braces was grown =
    let opens : AreOpen text n (start ∷ reverse opened') u =
    subst (λ starts. AreOpen text n starts u) (ap reverse was ∙ reverse_push opened' start) braces in
    let never : NeverCloses (place text start) = λ v w parts close. closes_end end (opens.0.back v w (last parts) close) close in (
      subst (AreClosings text) (sym grown)
          (All-push (IsClosing text) found (record { start = start; close = None }) closings never),
      opens.1,
    )

-- `AreBracesAt` at an equal place
pub braces_same : {u v : Place} (text opened : List ℕ) (found : List Closing) → v ≡ u → AreBracesAt text opened found u
    → AreBracesAt text opened found v
braces_same {u} {v} text opened found same braces = subst (λ p. AreBracesAt text opened found p) (sym same) braces

-- at the start of a text, no brace is open and none is closed
pub no_braces : (text : List ℕ) (here : Place) → here.text ≡ text → AreBracesAt text [] [] here
no_braces text here same = record { same = same; closings = λ k d below. absurd (omega (arith, below)); opens = _ }

-- `AllBetween` from an equal place
pub moved_all : {Holds : ℕ → Type 0} {u v w : Place} → u ≡ v → AllBetween Holds u w → AllBetween Holds v w
moved_all {Holds} {w = w} same between = subst (λ p. AllBetween Holds p w) same between
