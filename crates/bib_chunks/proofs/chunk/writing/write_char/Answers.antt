use Rattle.std.proofs.Common.{◌∙◌, sym, ◌∷◌, []}
use Rattle.std.specs.Prelude.{codes}
use Rattle.bib_text.proofs.TextFacts.{pushed_chars, encode_one}
use Rattle.bib_chunks.proofs.WrittenFacts.{spelled_grouping, spelled_verbatim, spelled_reserved, spelled_tilde, spelled_circumflex, spelled_other, tilde_bytes, circumflex_bytes}
use Rattle.bib_chunks.proofs.chunk.writing.write_char.Goals as goal

pub returns-then-is_grouping : goal.returns-then-is_grouping
returns-then-is_grouping c =
    rw (spelled_grouping c.args.is_verbatim c.args.c (sym c.is_grouping.ensures ∙ c.if-is_grouping.true)) c.write_hidden.ensures

pub returns-then-is_verbatim : goal.returns-then-is_verbatim
returns-then-is_verbatim c =
    rw (spelled_verbatim c.args.is_verbatim c.args.c (sym c.is_grouping.ensures ∙ c.if-is_grouping.false) c.if-is_verbatim.true)
    (pushed_chars _ _ _ _ (c.args.c ∷ []) c.in_ok-push.was c.push.ensures.bytes (encode_one c.args.c))

pub returns-then-is_reserved : goal.returns-then-is_reserved
returns-then-is_reserved c =
    rw
    (spelled_reserved c.args.is_verbatim c.args.c (sym c.is_grouping.ensures ∙ c.if-is_grouping.false)
    c.if-is_verbatim.false (sym c.is_reserved.ensures ∙ c.if-is_reserved.true))
    c.write_hidden-then-is_reserved.ensures

pub returns-then-c-eq126 : goal.returns-then-c-eq126
returns-then-c-eq126 c =
    rw
    (spelled_tilde c.args.is_verbatim c.args.c (sym c.is_grouping.ensures ∙ c.if-is_grouping.false)
    c.if-is_verbatim.false (sym c.is_reserved.ensures ∙ c.if-is_reserved.false) c.if-c-eq126.true)
    (pushed_chars _ _ _ _ (codes "\\textasciitilde{}") c.in_ok-push_str.was c.push_str.ensures.bytes tilde_bytes)

pub returns-then-c-eq94 : goal.returns-then-c-eq94
returns-then-c-eq94 c =
    rw
    (spelled_circumflex c.args.is_verbatim c.args.c (sym c.is_grouping.ensures ∙ c.if-is_grouping.false)
    c.if-is_verbatim.false (sym c.is_reserved.ensures ∙ c.if-is_reserved.false) c.if-c-eq126.false
    c.if-c-eq94.true)
    (pushed_chars _ _ _ _ (codes "\\textasciicircum{}") c.in_ok-push_str-2.was c.push_str-then-c-eq94.ensures.bytes circumflex_bytes)

pub returns : goal.returns
returns c =
    rw
    (spelled_other c.args.is_verbatim c.args.c (sym c.is_grouping.ensures ∙ c.if-is_grouping.false)
    c.if-is_verbatim.false (sym c.is_reserved.ensures ∙ c.if-is_reserved.false) c.if-c-eq126.false
    c.if-c-eq94.false)
    (pushed_chars _ _ _ _ (c.args.c ∷ []) c.in_ok-push-2.was c.push-2.ensures.bytes (encode_one c.args.c))
