-- Lemmas about reports.
use Rattle.std.proofs.Common.{◌≡◌, ℕ, Bor, List, [], ◌∷◌, ◌++◌, ◌+◌, ◌<◌, length, get_or, take, map, Result, Ok, Err, OnOk, refl, sym, ap, ◌∙◌, append_assoc, subst}
use Rattle.std.specs.Prelude.{◌==◌, if◌then◌else◌, codes}
use Rattle.std.specs.List.{flat_map}
use Rattle.std.proofs.lemmas.List.{map-append, flat_map_more, take_more}
use Rattle.std.proofs.lemmas.List.Elements.{All-nil, All-push}
use Rattle.biblatex.specs.Syntax.{Entry, Bibliography, TypeError, AreMalformed, Names, missing_of, superfluous_of}
use Rattle.biblatex.proofs.WritingFacts.{not_suc}
use Rattle.bib.specs.Answering.{AddsReport}
use Rattle.bib.specs.Output.{AreReported, EntryReport, IsReport, ShowsReports, field_line, malformed_line, report_lines}

-- appending three texts one after another appends their concatenation
appended : (old one two new a b c : List ℕ) → one ≡ old ++ a → two ≡ one ++ b → new ≡ two ++ c → new ≡ old ++ (a ++ (b ++ c))
appended old one two new a b c first second third =
    third ∙ ap (λ text. text ++ c) (second ∙ ap (λ text. text ++ b) first) ∙ append_assoc (old ++ a) b c ∙ append_assoc old a (b ++ c)

-- the lines of the three parts of a report
abbrev lines_of : List ℕ → Names → Names → List (List ℕ × TypeError) → List ℕ
lines_of key missing superfluous errors =
    flat_map (field_line key (codes "missing")) missing
    ++ (flat_map (field_line key (codes "superfluous")) superfluous ++ flat_map (malformed_line key) errors)

-- appending the three parts of a report appends the report
pub report_added : {E U : Type 0} (e : Entry) (key : List ℕ) (missing superfluous : Names)
    (errors listed : List (List ℕ × TypeError)) (old one two new : List ℕ) (r : Result U E)
    → key ≡ e.key → missing ≡ missing_of e → superfluous ≡ superfluous_of e → errors ≡ listed → AreMalformed e listed
    → one ≡ old ++ flat_map (field_line key (codes "missing")) missing
    → two ≡ one ++ flat_map (field_line key (codes "superfluous")) superfluous
    → OnOk r (new ≡ two ++ flat_map (malformed_line key) errors) → OnOk r (AddsReport e old new)
report_added e key missing superfluous errors listed old one two new (Ok u) same_key lacks forbids same_errors allowed first second
    third = (
      listed,
      allowed,
      appended old one two new (flat_map (field_line key (codes "missing")) missing)
          (flat_map (field_line key (codes "superfluous")) superfluous) (flat_map (malformed_line key) errors) first second
          third
          ∙ ap (λ k. old ++ lines_of k missing superfluous errors) same_key
          ∙ ap (λ names. old ++ lines_of e.key names superfluous errors) lacks
          ∙ ap (λ names. old ++ lines_of e.key (missing_of e) names errors) forbids
          ∙ ap (λ all. old ++ lines_of e.key (missing_of e) (superfluous_of e) all) same_errors,
    )
report_added e key missing superfluous errors listed old one two new (Err x) same_key lacks forbids same_errors allowed first second
    third =
    tt

-- appending the line of the next error appends the lines of the errors up to it
pub error_next : (key : List ℕ) (errors : List (List ℕ × TypeError)) (i : ℕ) (item : List ℕ × TypeError)
    (name old mid new : List ℕ) → i < length errors → item ≡ get_or errors i item → name ≡ item.0
    → mid ≡ old ++ flat_map (malformed_line key) (take i errors) → new ≡ mid ++ malformed_line key (name, item.1)
    → new ≡ old ++ flat_map (malformed_line key) (take (i + 1) errors)
error_next key errors i item name old mid new within is named before line =
    line ∙ ap (λ n. mid ++ malformed_line key (n, item.1)) named
    ∙ ap (λ text. text ++ malformed_line key item) before
    ∙ flat_map_more (malformed_line key) old (take i errors) item
    ∙ ap (λ x. old ++ flat_map (malformed_line key) (take i errors ++ x ∷ [])) is
    ∙ ap (λ listed. old ++ flat_map (malformed_line key) listed) (sym (take_more errors i item within))

-- without entries, the reports are empty
pub none_reported : AreReported [] []
none_reported = record { reports = []; listed = refl; allowed = All-nil IsReport; text = refl }

-- appending the report on one more entry gives the reports on all entries
pub report_next : (before : List (Bor Entry)) (entry : Bor Entry) (old new : List ℕ)
    → AreReported (map (λ e. e.now) before) old → AddsReport entry.now old new
    → AreReported (map (λ e. e.now) (before ++ entry ∷ [])) new
report_next before entry old new so_far more =
    let report : EntryReport = (entry.now, more.0) in
    record {
      reports = so_far.reports ++ report ∷ [];
      listed =
          map-append (λ r. r.0) so_far.reports (report ∷ []) ∙ ap (λ entries. entries ++ entry.now ∷ []) so_far.listed
          ∙ sym (map-append (λ e. e.now) before (entry ∷ []));
      allowed = All-push IsReport so_far.reports report so_far.allowed more.1;
      text = more.2 ∙ ap (λ text. text ++ report_lines report) so_far.text ∙ flat_map_more report_lines [] so_far.reports report;
    }

-- the output of `check`: its status tells whether there is a line
pub reports_shown : (bibliography : Bibliography) (text : List ℕ) (status : ℕ) → AreReported bibliography.entries text
    → status ≡ (if length text == 0 then 0 else 4) → ShowsReports bibliography text status
reports_shown bibliography [] status reported is = subst (ShowsReports bibliography []) (sym is) (ShowsReports.clean reported)
reports_shown bibliography (b ∷ bs) status reported is =
    let some : status ≡ 4 = is ∙ ap (λ none. if none then 0 else 4) (sym (not_suc (length bs))) in
    subst (ShowsReports bibliography (b ∷ bs)) (sym some) (ShowsReports.listed reported (λ none. absurd (cc)))
