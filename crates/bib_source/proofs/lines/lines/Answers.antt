use Rattle.std.proofs.Common.{◌≡◌, ◌<◌, ◌+◌, ◌-◌, ◌++◌, ◌∷◌, [], ℕ, length, map, take, drop, get_or, ap, sym, ◌∙◌, subst, arith, append_assoc, length-drop}
use Rattle.std.proofs.lemmas.List.{append-nil, map-append, take_all, drop_all}
use Rattle.std.proofs.lemmas.Str.{IsCharBoundary-after_ascii, IsCharBoundary-start}
use Rattle.std.specs.Str.{IsCharBoundary}
use Rattle.bib_source.specs.Lines.{lines_of}
use Rattle.bib_source.proofs.LineFacts.{after, after_some, ended, goes_on}
use Rattle.bib_source.proofs.lines.lines.Goals as goal
use Rattle.bib_source.proofs.lines.lines.Goals.{then-byte-eq10+in_ok-push, else-byte-eq10, then-start-text+in_ok-push-2, else-start-text}

pub bytes-init : goal.bytes-init
bytes-init c = record {
  lines = ap (λ ls. map (λ l. l.now) ls ++ lines_of c.args.text.now) c.new-lines.ensures.items;
  within = omega arith;
  boundary = IsCharBoundary-start c.args.text.now c.utf8.text;
}

pub range-requires-clause-end_boundary : goal.range-requires-clause-end_boundary
range-requires-clause-end_boundary c =
    let same = c.as_bytes-byte-items.ensures.value in
    let byte : get_or c.args.text.now c.bytes.index 0 ≡ 10 = sym (ap (λ t. get_or t c.bytes.index 0) same) ∙ c.if-byte-eq10.true in
    let within : c.bytes.index < length c.args.text.now = omega (arith, c.bytes-test.true, ap length same) in
    IsCharBoundary-after_ascii c.args.text.now c.bytes.index c.utf8.text within (omega (arith, byte))

pub bytes-preserved : goal.bytes-preserved
bytes-preserved c =
    let text = c.args.text.now in
    let same = c.as_bytes-byte-items.ensures.value in
    let index : ℕ = c.bytes.index in
    let start : ℕ = c.bytes.start in
    let within : index < length text = omega (arith, c.bytes-test.true, ap length same) in
    elim c.if-byte-eq10.branch [
      | then-byte-eq10+in_ok-push w ↦
          let byte : get_or text index 0 ≡ 10 = sym (ap (λ t. get_or t index 0) same) ∙ w.if-byte-eq10.true in
          let lines : map (λ l. l.now) c.if-byte-eq10.lines.items
          ≡ map (λ l. l.now) c.bytes.lines.items ++ take (index + 1 - start) (drop start text) ∷ [] =
          ap (λ v. map (λ l. l.now) v.items) w.lines-is ∙ ap (map (λ l. l.now)) w.in_ok-push.ensures.items
          ∙ map-append (λ l. l.now) c.bytes.lines.items (w.range.result ∷ [])
          ∙ ap (λ l. map (λ l. l.now) c.bytes.lines.items ++ l ∷ []) w.range.ensures.value in
          let none : index + 1 - (index + 1) ≡ 0 = omega arith in
          record {
            lines =
                ap
                (λ ls.
                ls
                ++ after (take (index + 1 - c.if-byte-eq10.start) (drop c.if-byte-eq10.start text))
                (lines_of (drop (index + 1) text))) lines
                ∙ ap
                (λ n.
                (map (λ l. l.now) c.bytes.lines.items ++ take (index + 1 - start) (drop start text) ∷ [])
                ++ after (take (index + 1 - n) (drop n text)) (lines_of (drop (index + 1) text))) w.start-is
                ∙ ap
                (λ n.
                (map (λ l. l.now) c.bytes.lines.items ++ take (index + 1 - start) (drop start text) ∷ [])
                ++ after (take n (drop (index + 1) text)) (lines_of (drop (index + 1) text))) none
                ∙ append_assoc (map (λ l. l.now) c.bytes.lines.items) (take (index + 1 - start) (drop start text) ∷ [])
                (lines_of (drop (index + 1) text))
                ∙ ap (λ ls. map (λ l. l.now) c.bytes.lines.items ++ ls) (sym (ended text start index c.bytes.invariant.within within byte))
                ∙ c.bytes.invariant.lines;
            within = omega (arith, w.start-is);
            boundary =
                subst (IsCharBoundary text) (sym w.start-is)
                (IsCharBoundary-after_ascii text index c.utf8.text within (omega (arith, byte)));
          }
      | else-byte-eq10 w ↦
          record {
            lines =
                ap
                (λ v.
                map (λ l. l.now) v.items
                ++ after (take (index + 1 - c.if-byte-eq10.start) (drop c.if-byte-eq10.start text))
                (lines_of (drop (index + 1) text))) w.lines-is
                ∙ ap
                (λ n.
                map (λ l. l.now) c.bytes.lines.items
                ++ after (take (index + 1 - n) (drop n text)) (lines_of (drop (index + 1) text))) w.start-is
                ∙ ap (λ ls. map (λ l. l.now) c.bytes.lines.items ++ ls)
                (sym
                (goes_on text start index c.bytes.invariant.within within
                (λ is. w.if-byte-eq10.false (ap (λ t. get_or t index 0) same ∙ is))))
                ∙ c.bytes.invariant.lines;
            within = omega (arith, w.start-is, c.bytes.invariant.within);
            boundary = subst (IsCharBoundary text) (sym w.start-is) c.bytes.invariant.boundary;
          }
    ]

pub returns : goal.returns
returns c =
    let text = c.args.text.now in
    let same = c.as_bytes-byte-items.ensures.value in
    let start : ℕ = c.bytes.start in
    let all : c.bytes.index ≡ length text = omega (arith, c.bytes-test.false, c.bytes.auto.index-end, ap length same) in
    let whole : map (λ l. l.now) c.bytes.lines.items ++ after (drop start text) [] ≡ lines_of text =
    ap (λ ls. map (λ l. l.now) c.bytes.lines.items ++ ls)
    (sym (ap (λ n. after (take (n - start) (drop start text)) (lines_of (drop n text))) all
    ∙ ap (λ ts. after ts (lines_of (drop (length text) text)))
    (take_all (length text - start) (drop start text) (omega (arith, length-drop start text)))
    ∙ ap (λ ts. after (drop start text) (lines_of ts)) (drop_all (length text) text (omega arith))))
    ∙ c.bytes.invariant.lines in
    elim c.if-start-text.branch [
      | then-start-text+in_ok-push-2 w ↦
          ap (λ v. map (λ l. l.now) v.items) w.lines-is ∙ ap (map (λ l. l.now)) w.in_ok-push-2.ensures.items
          ∙ map-append (λ l. l.now) c.bytes.lines.items (w.range_from.result ∷ [])
          ∙ ap (λ l. map (λ l. l.now) c.bytes.lines.items ++ l ∷ []) w.range_from.ensures.value
          ∙ ap (λ ls. map (λ l. l.now) c.bytes.lines.items ++ ls)
          (sym (after_some (drop start text) (omega (arith, length-drop start text, w.if-start-text.true))))
          ∙ whole
      | else-start-text w ↦
          ap (λ v. map (λ l. l.now) v.items) w.lines-is ∙ sym (append-nil (map (λ l. l.now) c.bytes.lines.items))
          ∙ ap (λ ts. map (λ l. l.now) c.bytes.lines.items ++ after ts [])
          (sym (drop_all start text (omega (arith, w.if-start-text.false))))
          ∙ whole
    ]
