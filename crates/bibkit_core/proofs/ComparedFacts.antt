-- Facts about the output of the comparing task, whose marks say which citations have entries in the files so far.
use Rattle.std.proofs.Common.{◌≡◌, ◌<◌, ◌+◌, ◌||◌, ◌&&◌, ℕ, zero, suc, Bool, true, false, not, cond, List, [], ◌∷◌, ◌++◌, length, take, get_or, map, refl, sym, ap, ap₂, subst, ◌∙◌, arith}
use Rattle.std.specs.Prelude.{Option, filter, min, replicate}
use Rattle.std.specs.String.{string_bytes}
use Rattle.std.proofs.lemmas.List.Folds.{list_any-append}
use Rattle.std.proofs.lemmas.Simd.{map-map}
use Rattle.bib_queries.specs.Known.{IsUncited, all_names, uncited_keys}
use Rattle.bib_queries.specs.Needed.{is_listed}
use Rattle.bib_queries.specs.declared.citations.Citation.{Citation}
use Rattle.bib_queries.specs.declared.citations.Citations.{Citations}
use Rattle.bib_findings.specs.declared.finding.Finding.{Finding}
use Rattle.bib_syntax.specs.Reading.{FileReading, Part}
use Rattle.bib_syntax.proofs.RecoveryFacts.{recovery_same}
use Rattle.bib_select.specs.declared.selection.Selection.{Selection}
use Rattle.bibkit_core.specs.Asked.{selected_findings}
use Rattle.bibkit_core.specs.Conditions.{AreReportedFindings, findings_of_no_entry}
use Rattle.bibkit_core.specs.Compared.{ComparisonState, EndsCompared, PrintsCompared, cited_keys, compared_begins, is_in_files, missing_finding, missing_findings, none_compared, unused_finding, unused_findings}
use Rattle.bibkit_core.specs.Linted.{ArePrinted, off_in}
use Rattle.bibkit_core.specs.Marks.{AreUnused, BeginsDocument, EndsComparing, PrintsComparing, comparing_begins, either_mark, unmarked_findings}
use Rattle.bibkit_core.specs.Running.{IsTaskPrinted}
use Rattle.bibkit_core.specs.Tasks.{BeginsLinting, IsEndOfFindings, PrintsFindings, in_file, lint_status, opening}
use Rattle.bibkit_core.specs.declared.cited.Document.{Document}
use Rattle.bibkit_core.specs.declared.comparing.Comparing.{Comparing}
use Rattle.bibkit_core.specs.declared.request.Lint.{Lint}
use Rattle.bibkit_core.proofs.RunFacts.{printed_seen}

-- if `h x` is true exactly if `f x` or `g x` is, then the marks by `f` and `g` combine to the marks by `h`
either_tested : {X : Type 0} (f g h : X → Bool) (xs : List X) → ((x : X) → (f x || g x) ≡ h x)
    → either_mark (map f xs) (map g xs) ≡ map h xs
either_tested f g h [] is = refl
either_tested f g h (x ∷ xs) is = ap₂ (λ b bs. b ∷ bs) (is x) (either_tested f g h xs is)

-- with one more citation, its finding is added unless its mark `b` is true
unmarked_one : (c : Citation) (rest : List Citation) (marks : List Bool) (found : List Citation) (b : Bool)
    → unmarked_findings rest marks ≡ map missing_finding found
    → unmarked_findings (c ∷ rest) (b ∷ marks) ≡ map missing_finding (cond (not b) (c ∷ found) found)
unmarked_one c rest marks found true are = are
unmarked_one c rest marks found false are = ap (λ l. missing_finding c ∷ l) are

-- with the marks `map f cs`, the findings are those of the citations for which `f` is false
unmarked_tested : (f : Citation → Bool) (cs : List Citation)
    → unmarked_findings cs (map f cs) ≡ map missing_finding (filter (λ c. not (f c)) cs)
unmarked_tested f [] = refl
unmarked_tested f (c ∷ rest) = unmarked_one c rest (map f rest) (filter (λ d. not (f d)) rest) (f c) (unmarked_tested f rest)

or_none : (a b : Bool) → (a || b) ≡ (a || (b || false))
or_none true b = refl
or_none false true = refl
or_none false false = refl

-- a key is in the files and one more exactly if it is in the earlier ones, or is a name of an entry of the new file
known_more : (readings : List FileReading) (says : FileReading) (key : List ℕ)
    → (is_in_files readings key || is_listed (all_names says.entries) key) ≡ is_in_files (readings ++ says ∷ []) key
known_more readings says key =
    or_none (is_in_files readings key) (is_listed (all_names says.entries) key)
    ∙ sym (list_any-append (λ (s : FileReading). is_listed (all_names s.entries) key) readings (says ∷ []))

-- the marks by no files are all false
known_nowhere : (cs : List Citation) → replicate (length cs) false ≡ map (λ c. is_in_files [] c.key) cs
known_nowhere [] = refl
known_nowhere (c ∷ rest) = ap (λ l. false ∷ l) (known_nowhere rest)

-- combining the first `n + 1` marks appends the mark of the pair at the index `n` to the marks of the first `n` pairs
either_more : (first second : List Bool) (n : ℕ) (a b : Bool) → n < length first → n < length second
    → get_or first n a ≡ a → get_or second n b ≡ b
    → either_mark (take (suc n) first) (take (suc n) second) ≡ either_mark (take n first) (take n second) ++ (a || b) ∷ []
either_more [] second n a b within short here there = absurd (omega (arith, within))
either_more (x ∷ first) [] n a b within short here there = absurd (omega (arith, short))
either_more (x ∷ first) (y ∷ second) zero a b within short here there = ap₂ (λ p q. (p || q) ∷ []) here there
either_more (x ∷ first) (y ∷ second) (suc n) a b within short here there =
    ap (λ l. (x || y) ∷ l) (either_more first second n a b (omega (arith, within)) (omega (arith, short)) here there)

-- combining the first `m` marks, with `m` equal to `n + 1`, appends one mark to those of the first `n` pairs
pub either_step : (first second : List Bool) (n m : ℕ) (a b : Bool) → m ≡ n + 1 → n < length first → n < length second
    → get_or first n a ≡ a → get_or second n b ≡ b
    → either_mark (take m first) (take m second) ≡ either_mark (take n first) (take n second) ++ (a || b) ∷ []
either_step first second n m a b more within short here there =
    let next : m ≡ suc n = omega arith in
    ap (λ k. either_mark (take k first) (take k second)) next ∙ either_more first second n a b within short here there

-- combining the first marks, as many as the shorter list has, combines all marks
pub either_all : (first second : List Bool) (n : ℕ) → n ≡ min (length first) (length second)
    → either_mark (take n first) (take n second) ≡ either_mark first second
either_all [] second n end = let none : n ≡ 0 = omega (arith, end) in ap (λ m. either_mark (take {A = Bool} m []) (take m second)) none
either_all (x ∷ first) [] n end =
    let none : n ≡ 0 = omega (arith, end) in ap (λ m. either_mark (take m (x ∷ first)) (take {A = Bool} m [])) none
either_all (x ∷ first) (y ∷ second) zero end = absurd (omega (arith, end))
either_all (x ∷ first) (y ∷ second) (suc n) end = ap (λ l. (x || y) ∷ l) (either_all first second n (omega (arith, end)))

-- the findings of one citation with its mark are none if the mark is true, otherwise its finding
unmarked_here : (c : Citation) (m : Bool) → unmarked_findings (c ∷ []) (m ∷ []) ≡ cond m [] (missing_finding c ∷ [])
unmarked_here c true = refl
unmarked_here c false = refl

-- if findings are appended for other citations, the same ones are appended with a citation before the others
unmarked_past : (c : Citation) (rest some : List Citation) (marks others : List Bool) (m : Bool) (more : List Finding)
    → unmarked_findings rest marks ≡ unmarked_findings some others ++ more
    → unmarked_findings (c ∷ rest) (m ∷ marks) ≡ unmarked_findings (c ∷ some) (m ∷ others) ++ more
unmarked_past c rest some marks others true more are = are
unmarked_past c rest some marks others false more are = ap (λ l. missing_finding c ∷ l) are

-- the first `n + 1` citations have the findings of the first `n`, and that of the next one unless its mark is true
unmarked_more : (cs : List Citation) (marks : List Bool) (n : ℕ) (c : Citation) (m : Bool) → n < length cs
    → n < length marks → get_or cs n c ≡ c → get_or marks n m ≡ m
    → unmarked_findings (take (suc n) cs) (take (suc n) marks)
    ≡ unmarked_findings (take n cs) (take n marks) ++ cond m [] (missing_finding c ∷ [])
unmarked_more [] marks n c m within short here there = absurd (omega (arith, within))
unmarked_more (d ∷ cs) [] n c m within short here there = absurd (omega (arith, short))
unmarked_more (d ∷ cs) (k ∷ marks) zero c m within short here there =
    ap₂ (λ e b. unmarked_findings (e ∷ []) (b ∷ [])) here there ∙ unmarked_here c m
unmarked_more (d ∷ cs) (k ∷ marks) (suc n) c m within short here there =
    unmarked_past d (take (suc n) cs) (take n cs) (take (suc n) marks) (take n marks) k
    (cond m [] (missing_finding c ∷ []))
    (unmarked_more cs marks n c m (omega (arith, within)) (omega (arith, short)) here there)

-- the first `m = n + 1` citations have the findings of the first `n`, and that of the next one unless its mark is true
pub unmarked_step : (cs : List Citation) (marks : List Bool) (n m : ℕ) (c : Citation) (k : Bool) → m ≡ n + 1
    → n < length cs → n < length marks → get_or cs n c ≡ c → get_or marks n k ≡ k
    → unmarked_findings (take m cs) (take m marks) ≡ unmarked_findings (take n cs) (take n marks) ++ cond k [] (missing_finding c ∷ [])
unmarked_step cs marks n m c k more within short here there =
    let next : m ≡ suc n = omega arith in
    ap (λ j. unmarked_findings (take j cs) (take j marks)) next ∙ unmarked_more cs marks n c k within short here there

-- if the findings of two lists of citations are equal, they are equal with the same citation and mark before both
unmarked_same : (c : Citation) (some rest : List Citation) (others marks : List Bool) (m : Bool)
    → unmarked_findings some others ≡ unmarked_findings rest marks
    → unmarked_findings (c ∷ some) (m ∷ others) ≡ unmarked_findings (c ∷ rest) (m ∷ marks)
unmarked_same c some rest others marks true are = are
unmarked_same c some rest others marks false are = ap (λ l. missing_finding c ∷ l) are

-- the findings of the first citations, as many as the shorter list has, are all findings
pub unmarked_all : (cs : List Citation) (marks : List Bool) (n : ℕ) → n ≡ min (length cs) (length marks)
    → unmarked_findings (take n cs) (take n marks) ≡ unmarked_findings cs marks
unmarked_all [] marks n end =
    let none : n ≡ 0 = omega (arith, end) in ap (λ m. unmarked_findings (take {A = Citation} m []) (take m marks)) none
unmarked_all (c ∷ cs) [] n end =
    let none : n ≡ 0 = omega (arith, end) in ap (λ m. unmarked_findings (take m (c ∷ cs)) (take {A = Bool} m [])) none
unmarked_all (c ∷ cs) (m ∷ marks) zero end = absurd (omega (arith, end))
unmarked_all (c ∷ cs) (m ∷ marks) (suc n) end =
    unmarked_same c (take n cs) cs (take n marks) marks m (unmarked_all cs marks n (omega (arith, end)))

-- if uncited entries are requested and the document doesn't cite all, the findings are those of the keys that `find_uncited`
-- returns
pub unused_asked : (document : Document) (text : List ℕ) (parts : List Part)
    → (document.has_unused && not document.citations.all) ≡ true → IsUncited text (cited_keys document.citations) parts
    → AreUnused document text (map unused_finding parts)
unused_asked document text parts asked uncited says skipped recovery =
    ap (map unused_finding)
    (uncited.is
    ∙ ap (λ (s : FileReading). uncited_keys (cited_keys document.citations) s.entries)
    (recovery_same uncited.recovery recovery).0)
    ∙ ap (λ b. cond b (map unused_finding (uncited_keys (cited_keys document.citations) says.entries)) []) (sym asked)

-- if uncited entries aren't requested, or the document cites all entries, there are no findings of uncited entries
pub unused_unasked : (document : Document) (text : List ℕ) → (document.has_unused && not document.citations.all) ≡ false
    → AreUnused document text []
unused_unasked document text unasked says skipped recovery =
    ap (λ b. cond b (map unused_finding (uncited_keys (cited_keys document.citations) says.entries)) []) (sym unasked)

-- the task has these settings, this document, and the counts and the known citations of the state `s` of the specification
record IsSeen (lint : Lint) (has_unused : Bool) (name document : List ℕ) (found : Citations) (task : Comparing)
    (s : ComparisonState) : Type 0 where
  pub lint_is : task.linting.lint.now ≡ lint
  pub tally : task.linting.tally ≡ s.tally
  pub name_is : task.document.name.now ≡ name
  pub text_is : task.document.text.now ≡ document
  pub unused_is : task.document.has_unused ≡ has_unused
  pub citations : task.document.citations ≡ found
  pub known : task.document.known.items ≡ map (λ c. is_in_files s.readings c.key) found.keys.items

-- a new task has its settings, its document, and the counts and the known citations of the state before the first file
begins_seen : (lint : Lint) (has_unused : Bool) (name document : List ℕ) (task : Comparing)
    → BeginsLinting lint task.linting → BeginsDocument name document has_unused task.document
    → IsSeen lint has_unused name document task.document.citations task none_compared
begins_seen lint has_unused name document task linting begins = record {
  lint_is = linting.lint_is;
  tally =
      ap₂ (λ e w. record { errors = e; warnings = w; infos = task.linting.tally.infos }) linting.no_errors linting.no_warnings
      ∙ ap (λ i. record { errors = 0; warnings = 0; infos = i }) linting.no_infos;
  name_is = begins.name_is;
  text_is = begins.text_is;
  unused_is = begins.unused_is;
  citations = refl;
  known = begins.none_known ∙ known_nowhere task.document.citations.keys.items;
}

-- the output of the task for a file is the output that `PrintsCompared` specifies, and the state after it has the contents of the new
-- task
step_compared : (lint : Lint) (has_unused : Bool) (name document : List ℕ) (found : Citations) (old new : Comparing)
    (before : ComparisonState) (file bytes text : List ℕ) → IsSeen lint has_unused name document found old before
    → PrintsComparing old file bytes text new
    → (after : ComparisonState) × PrintsCompared lint has_unused found before file bytes text after
    × IsSeen lint has_unused name document found new after
step_compared lint has_unused name document found old new before file bytes text same p =
    let says : FileReading = p.known.known_in.says in
    let decoded : List ℕ = string_bytes p.decoded.text in
    let marks = p.known.known_in.is ∙ ap (λ (d : Citations). map (is_listed (all_names says.entries)) (cited_keys d)) same.citations
    ∙ map-map (is_listed (all_names says.entries)) (λ (c : Citation). c.key) found.keys.items in (
      record { tally = new.linting.tally; readings = before.readings ++ says ∷ [] },
      record {
        first = p.first;
        second = p.second;
        between = p.between;
        decoded = p.decoded;
        says = says;
        skipped = p.known.known_in.skipped;
        findings =
            subst (λ t. PrintsFindings lint file bytes t p.first p.between) same.tally
            (subst (λ l. PrintsFindings l file bytes old.linting.tally p.first p.between) same.lint_is p.found);
        of_bytes = p.of_bytes;
        recovery = p.known.known_in.recovery;
        kept = p.kept;
        reported =
            subst (λ l. AreReportedFindings l.conditions.items decoded (unused_findings has_unused found says.entries) p.kept) same.lint_is
            (subst (λ u. AreReportedFindings old.linting.lint.now.conditions.items decoded u p.kept)
            (p.are_unused says p.known.known_in.skipped p.known.known_in.recovery
            ∙ ap₂ (λ b f. unused_findings b f says.entries) same.unused_is same.citations) p.reported);
        unused =
            subst
            (λ l.
            ArePrinted l.style file decoded (selected_findings l.selection (off_in l decoded) p.kept) p.between p.second new.linting.tally)
            same.lint_is p.more;
        is = p.is ∙ ap (λ l. in_file l.style file (p.first ++ p.second)) same.lint_is;
        readings = refl;
      },
      record {
        lint_is = p.lint ∙ same.lint_is;
        tally = refl;
        name_is = p.document.name_is ∙ same.name_is;
        text_is = p.document.text_is ∙ same.text_is;
        unused_is = p.document.unused_is ∙ same.unused_is;
        citations = p.document.citations ∙ same.citations;
        known = p.known.are ∙ ap₂ either_mark same.known marks
            ∙ either_tested (λ (c : Citation). is_in_files before.readings c.key)
            (λ (c : Citation). is_listed (all_names says.entries) c.key)
            (λ (c : Citation). is_in_files (before.readings ++ says ∷ []) c.key)
            found.keys.items (λ c. known_more before.readings says c.key);
      },
    )

-- the output of the task after the files is the output that `EndsCompared` specifies
ends_compared : (lint : Lint) (has_unused : Bool) (name document : List ℕ) (found : Citations) (task : Comparing)
    (s : ComparisonState) (text : List ℕ) (status : ℕ) → IsSeen lint has_unused name document found task s
    → EndsComparing task text status → EndsCompared lint name document found s text status
ends_compared lint has_unused name document found task s text status same e =
    let conditions : List Selection = task.linting.lint.now.conditions.items in
    let missing : List Finding = missing_findings s.readings found.keys.items in
    let lists : unmarked_findings task.document.citations.keys.items task.document.known.items ≡ missing
    =
    ap (λ (d : Citations). unmarked_findings d.keys.items task.document.known.items) same.citations
    ∙ ap (unmarked_findings found.keys.items) same.known
    ∙ unmarked_tested (λ (c : Citation). is_in_files s.readings c.key) found.keys.items in
    let listed =
    subst
    (λ l.
    ArePrinted task.linting.lint.now.style task.document.name.now task.document.text.now
    (selected_findings task.linting.lint.now.selection [] (findings_of_no_entry conditions l)) task.linting.tally e.first e.after)
    lists e.more in
    let named =
    subst
    (λ n.
    ArePrinted task.linting.lint.now.style n task.document.text.now
    (selected_findings task.linting.lint.now.selection [] (findings_of_no_entry conditions missing)) task.linting.tally e.first e.after)
    same.name_is listed in
    let placed =
    subst
    (λ d.
    ArePrinted task.linting.lint.now.style name d
    (selected_findings task.linting.lint.now.selection [] (findings_of_no_entry conditions missing)) task.linting.tally e.first e.after)
    same.text_is named in
    let counted =
    subst
    (λ t.
    ArePrinted task.linting.lint.now.style name document
    (selected_findings task.linting.lint.now.selection [] (findings_of_no_entry conditions missing)) t e.first e.after) same.tally
    placed in
    record {
      first = e.first;
      after = e.after;
      missing =
          subst
          (λ l.
          ArePrinted l.style name document (selected_findings l.selection [] (findings_of_no_entry l.conditions.items missing))
          s.tally e.first e.after) same.lint_is counted;
      last = e.last;
      closes = subst (λ l. IsEndOfFindings l.style e.after e.last) same.lint_is e.closes;
      is = e.is ∙ ap (λ l. in_file l.style task.document.name.now e.first ++ e.last) same.lint_is
          ∙ ap (λ n. in_file lint.style n e.first ++ e.last) same.name_is;
      status_is = e.status_is ∙ ap (λ l. lint_status l.fail_on e.after) same.lint_is;
    }

-- the output of the comparing task is the output that `PrintsCompared` and `EndsCompared` specify
pub compared_seen : {F : Type 0} {reads : F → List ℕ → Option (List ℕ) → F → Type 0} {f : F} {names : List (List ℕ)}
    (lint : Lint) (has_unused : Bool) (name document : List ℕ) (task : Comparing) → BeginsLinting lint task.linting
    → BeginsDocument name document has_unused task.document → (text : List ℕ) (status : Option ℕ)
    → IsTaskPrinted reads comparing_begins PrintsComparing EndsComparing f task names text status
    → IsTaskPrinted reads (compared_begins lint) (PrintsCompared lint has_unused task.document.citations)
    (EndsCompared lint name document task.document.citations) f none_compared names text status
compared_seen lint has_unused name document task linting begins text status printed =
    let found : Citations = task.document.citations in
    printed_seen (IsSeen lint has_unused name document found) (λ t s same. ap (λ l. opening l.style) same.lint_is)
    (λ t t' s file bytes u same p. step_compared lint has_unused name document found t t' s file bytes u same p)
    (λ t s u st same e. ends_compared lint has_unused name document found t s u st same e) task none_compared
    (begins_seen lint has_unused name document task linting begins) text status printed
